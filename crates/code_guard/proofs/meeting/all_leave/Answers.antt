use Rattle.std.proofs.Common.{arith, refl, ◌<◌, length}
use Rattle.std.proofs.lemmas.Option.{slice_get-get_or}
use Rattle.code_guard.specs.Heights.{LeavesAt}
use Rattle.code_guard.proofs.Belonging.{everywhere_from, stands_at, each_more}
use Rattle.code_guard.proofs.meeting.all_leave.Goals as goal

pub returns-then-not-leaves_at : goal.returns-then-not-leaves_at
returns-then-not-leaves_at c =
    let inside : c.loop-place.place < length c.args.owners.now = omega arith in
    let e = slice_get-get_or c.args.owners.now c.loop-place.place 0 inside in
    ((λ it. absurd (let no : ⊥ = cc in no)), (λ every. c.if-not-leaves_at.ensures.1 (every _ _ _ _ (stands_at c.args.code.now c.args.owners.now c.loop-place.place _ c.at.result.now c.requires.owned e c.at.ensures))))

pub loop-place-preserved : goal.loop-place-preserved
loop-place-preserved c =
    let inside : c.loop-place.place < length c.args.owners.now = omega arith in
    each_more (λ b k i. LeavesAt c.args.code.now c.args.heights.now b k i) c.args.owners.now c.args.code.now.instrs c.loop-place.place _ c.at.result.now c.loop-place.invariant (slice_get-get_or c.args.owners.now c.loop-place.place 0 inside) c.at.ensures (c.leaves_at.ensures.0 c.if-not-leaves_at.false)

pub returns : goal.returns
returns c =
    ((λ it. everywhere_from (λ b k i. LeavesAt c.args.code.now c.args.heights.now b k i) c.args.code.now c.args.owners.now c.requires.rise c.requires.owned (λ k b i h. c.loop-place.invariant k b i (omega arith))), (λ every. refl))
