use Rattle.definition_table.proofs.FillLemmas.{first_next, is_next}
use Rattle.definition_table.proofs.filling.copied_entry.Goals as goal

pub returns : goal.returns
returns c h done evaluated filling at other is_done =
    let e = c.args.ground.now in
    let o = c.args.origin in
    is_next h e.origins c.args.number o c.in_ok-entry.entry at
    (first_next h done e c.args.number c.args.first o c.in_ok-entry.entry evaluated filling c.firsts_law.ensures at other is_done (λ y got. c.in_ok-entry.ensures y got))
