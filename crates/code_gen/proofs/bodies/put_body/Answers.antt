use Rattle.std.proofs.Common.{◌≡◌, length, ◌∙◌, refl, ap, arith}
use Rattle.action_gen.specs.Putting.{site_tree}
use Rattle.code_gen.specs.Bodies.{row_with}
use Rattle.code_gen.proofs.Appended.{length_behind, body_told}
use Rattle.code_gen.proofs.bodies.put_body.Goals as goal

pub instrs_from-requires : goal.instrs_from-requires
instrs_from-requires c = omega (arith, c.in_ok-first.ensures 0 refl, c.in_ok-put_lowest_values.ensures.puts.length, length_behind c.in_ok-put_inside.ensures.puts)

pub returns : goal.returns
returns c =
    let first : c.in_ok-first.first ≡ length c.args.draft.now.code.instrs = omega (arith, c.in_ok-first.ensures 0 refl) in
    let row = c.in_ok-row.ensures ∙ ap (row_with (site_tree c.args.site) c.in_ok-first.first) c.instrs_from.ensures in
    record { puts = body_told (site_tree c.args.site) c.in_ok-row.row c.in_ok-first.first _ first c.in_ok-put_lowest_values.ensures.puts refl c.in_ok-put_inside.ensures.puts row refl refl c.in_ok-push.ensures.ok }
