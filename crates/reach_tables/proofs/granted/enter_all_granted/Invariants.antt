use Rattle.std.proofs.Common.{List, drop}
use Rattle.std.specs.Prelude.{flat_map}
use Rattle.names_model.specs.declared.entry.Entry.{Entry}
use Rattle.names_model.specs.Parts.{parts_in}
use Rattle.names_model.specs.Entries.{granted_entries}
use Rattle.names_model.specs.Parts.{nodes_of}
use Rattle.reach_tables.specs.Opens.{Opens, Entering}
use Rattle.reach_tables.specs.Passages.{Passes}
use Rattle.reach_tables.specs.Scopes.{told_by}
use Rattle.reach_tables.proofs.granted.enter_all_granted.Given as goal

abbrev pub invariant-loop-part : goal.invariant-loop-part
invariant-loop-part l = (es : List Entry) → Opens l.fn.out l.book.all.items es → Entering (Passes l.out l.noted l.book.all.items (told_by l.giver.has)) es (flat_map (granted_entries l.book.all.items l.giver.region (told_by l.giver.has) l.giver.own.now) (parts_in (nodes_of (drop l.part-index l.parts)))) (flat_map (granted_entries l.book.all.items l.giver.region (told_by l.giver.has) l.giver.own.now) (parts_in (nodes_of l.parts)))
