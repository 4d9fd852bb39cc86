use Rattle.std.proofs.Common.{◌≡◌, List, drop}
use Rattle.names_model.specs.declared.entry.Entry.{Entry}
use Rattle.names_model.specs.Seeing.{entries_in}
use Rattle.reach_tables.specs.Givens.{given_trees, givens}
use Rattle.reach_tables.specs.Offsets.{Fits}
use Rattle.names_model.specs.Parts.{nodes_of}
use Rattle.reach_tables.specs.Opens.{Opens, Entering}
use Rattle.reach_tables.specs.Passages.{Passes}
use Rattle.reach_tables.specs.Scopes.{told_by}
use Rattle.reach_tables.proofs.reached.enter_parts.Given as goal

abbrev pub invariant-loop-part : goal.invariant-loop-part
invariant-loop-part l = Fits l.fn.from (nodes_of l.fn.parts) → given_trees l.fn.given ≡ givens l.book.all.items l.fn.from (nodes_of l.fn.parts) → (es : List Entry) → Opens l.fn.out l.book.all.items es → record {
  fits : Fits l.next (nodes_of (drop l.part-index l.parts));
  left : given_trees l.left ≡ givens l.book.all.items l.next (nodes_of (drop l.part-index l.parts));
  entering : Entering (Passes l.out l.noted l.book.all.items (told_by l.around)) es (entries_in l.book.all.items (told_by l.around) l.next (nodes_of (drop l.part-index l.parts))) (entries_in l.book.all.items (told_by l.around) l.fn.from (nodes_of l.fn.parts));
}
