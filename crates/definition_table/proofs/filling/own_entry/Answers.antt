use Rattle.definition_table.proofs.Grounds.{keeps_ground, are_few}
use Rattle.definition_table.proofs.FillLemmas.{own_next, defined_so, is_next}
use Rattle.definition_table.proofs.filling.own_entry.Goals as goal

pub returns : goal.returns
returns c h done filling at needs =
    let e = c.args.ground.now in
    let o = c.args.origin in
    is_next h e.origins c.args.number o c.in_ok-entry.entry at
    (own_next h done e o c.in_ok-entry.entry filling needs (c.in_ok-entry.ensures (keeps_ground e filling.well) (are_few e filling.well) (defined_so h done e c.args.number o filling at)))
