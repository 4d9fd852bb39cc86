use Rattle.std.proofs.Common.{arith, ◌<◌, length}
use Rattle.std.proofs.lemmas.Option.{slice_get-get_or, slice_get_within}
use Rattle.code_guard.proofs.Belonging.{handles_from, target_inside, ordered_from}
use Rattle.code_guard.proofs.instructions.handles_in_one_body.Goals as goal

pub at-requires : goal.at-requires
at-requires c =
    let inside : c.args.handler.now.target < length c.args.owners.now = omega arith in
    let o = c.requires.owned.owns c.args.handler.now.target _ (slice_get-get_or c.args.owners.now c.args.handler.now.target 0 inside) in
    slice_get_within c.args.code.now.bodies _ o.row o.is_body

pub returns-then-handler-owners : goal.returns-then-handler-owners
returns-then-handler-owners c = ((λ it. absurd (let no : ⊥ = cc in no)), (λ h. let inside = target_inside c.args.code.now c.args.handler.now c.requires.rise h in let count = c.requires.owned.count in let past = c.if-handler-owners.true in absurd (omega arith)))

pub returns : goal.returns
returns c =
    let inside : c.args.handler.now.target < length c.args.owners.now = omega arith in
    let o = c.requires.owned.owns c.args.handler.now.target _ (slice_get-get_or c.args.owners.now c.args.handler.now.target 0 inside) in (
      (λ it. let k = c.is_ordered.ensures.0 it in handles_from c.args.code.now c.args.handler.now _ o c.at.result.now c.at.ensures k.from k.ordered k.behind),
      (λ h. c.is_ordered.ensures.1 (ordered_from c.args.code.now c.args.handler.now _ c.at.result.now c.requires.rise o c.at.ensures h)),
    )
