use Rattle.std.proofs.Common.{◌≡◌, ℕ, ◌<◌, length, slice_get, Some}
use Rattle.packed_words.specs.Packed.{SeenPacked}
use Rattle.shared_store.proofs.Opened.{ArePacked}
use Rattle.shared_store.proofs.store.Store.new.Given as goal

abbrev pub invariant-loop-location : goal.invariant-loop-location
invariant-loop-location l = ArePacked l.facts.layouts l.opening.store l.location l.locations.items
