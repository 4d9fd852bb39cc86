use Rattle.std.proofs.Common.{[], subst, sym}
use Rattle.names_model.specs.Entries.{up_entries}
use Rattle.reach_tables.specs.Held.{Holdings}
use Rattle.names_model.specs.Parts.{nodes_of}
use Rattle.reach_tables.specs.Scopes.{Holds}
use Rattle.reach_tables.proofs.giving.table_up.Goals as goal

pub returns : goal.returns
returns c = λ h g.
    let all = c.args.book.now.all.items in
    let opens = c.in_ok-enter_up.ensures h g [] (c.new-opening.ensures all) in
    subst (λ (t : Holdings). Holds t all (up_entries all c.args.from (nodes_of c.args.parts.now))) (sym c.into_table.ensures) opens.table
