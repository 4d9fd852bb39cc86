use Rattle.std.proofs.Common.{◌≡◌, ◌++◌, drop}
use Rattle.names_model.specs.Entries.{numbers_of}
use Rattle.reach_tables.specs.Places.{singles}
use Rattle.reach_tables.proofs.entries.push_places.Given as goal

abbrev pub invariant-loop-place : goal.invariant-loop-place
invariant-loop-place l = l.out ++ numbers_of (singles (drop l.place-index l.places)) ≡ l.fn.out ++ numbers_of (singles l.places)
