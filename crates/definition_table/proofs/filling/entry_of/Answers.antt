use Rattle.std.proofs.Common.{◌≡◌, ◌∙◌, sym}
use Rattle.definition_table.proofs.FillLemmas.{none_next, next_needs, next_first}
use Rattle.definition_table.proofs.filling.entry_of.Goals as goal

pub returns-in-None : goal.returns-in-None
returns-in-None c h ds evaluated before = none_next h c.args.ground.now.origins c.args.number c.unknown.result (sym c.origin_of.ensures ∙ c.in-None.is)

pub returns-in-Some : goal.returns-in-Some
returns-in-Some c h ds evaluated before =
    let e = c.args.ground.now in
    let at = sym c.origin_of.ensures ∙ c.in-Some.is in
    c.entry_at.ensures h before.done evaluated before.filling at (next_needs h c.args.number ds e c.in-Some.origin before at) (next_first h c.args.number ds e c.in-Some.origin before at)
