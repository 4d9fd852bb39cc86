use Rattle.std.proofs.Common.{List, ◌++◌, drop}
use Rattle.std.specs.Prelude.{flat_map}
use Rattle.diagnostics.specs.Listing.{SameMembers}
use Rattle.names_model.specs.declared.entry.Entry.{Entry}
use Rattle.names_model.specs.Entries.{numbers_of}
use Rattle.names_model.specs.NameRules.{told_number}
use Rattle.reach_tables.specs.Scopes.{Holds}
use Rattle.reach_tables.specs.Tellings.{IsTold}
use Rattle.reach_tables.proofs.twice.tell_numbers.Given as goal

abbrev pub invariant-loop-number : goal.invariant-loop-number
invariant-loop-number l = (es : List Entry) → Holds l.table l.book.all.items es → record {
  last : IsTold l.book.all.items l.at l.out.items l.last;
  told : SameMembers (l.out.items ++ flat_map (told_number l.book.all.items (numbers_of es) l.at) (drop l.number-index l.numbers)) (l.fn.out.items ++ flat_map (told_number l.book.all.items (numbers_of es) l.at) l.numbers);
}
