use Rattle.std.proofs.Common.{List, ◌++◌, take}
use Rattle.names_model.specs.declared.entry.Entry.{Entry}
use Rattle.reach_tables.specs.Opens.{Opens}
use Rattle.reach_tables.specs.Places.{singles}
use Rattle.reach_tables.proofs.reached.enter_places.Given as goal

abbrev pub invariant-loop-place : goal.invariant-loop-place
invariant-loop-place l = (es : List Entry) → Opens l.fn.out l.book.all.items es → Opens l.out l.book.all.items (es ++ singles (take l.place-index l.places))
