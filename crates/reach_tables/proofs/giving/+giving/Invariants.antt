use Rattle.std.proofs.Common.{◌≡◌, ◌++◌, drop}
use Rattle.reach_tables.specs.Givens.{given_trees, givens}
use Rattle.reach_tables.specs.Offsets.{Fits}
use Rattle.names_model.specs.Parts.{nodes_of}
use Rattle.reach_tables.proofs.giving.+giving.Given as goal

abbrev pub invariant-givens_of-loop-part : goal.invariant-givens_of-loop-part
invariant-givens_of-loop-part l = Fits l.fn.from (nodes_of l.fn.parts) → record {
  fits : Fits l.next (nodes_of (drop l.part-index l.parts));
  givens : given_trees l.givens ++ givens l.book.all.items l.next (nodes_of (drop l.part-index l.parts)) ≡ givens l.book.all.items l.fn.from (nodes_of l.fn.parts);
}
