use Rattle.std.proofs.Common.{arith, refl, ◌<◌, length}
use Rattle.std.proofs.lemmas.Option.{slice_get-get_or}
use Rattle.code_guard.specs.Heights.{KeepsHeight}
use Rattle.code_guard.proofs.Belonging.{everywhere_from, stands_at, each_more}
use Rattle.code_guard.proofs.Keeping.{keeps_past}
use Rattle.code_guard.proofs.meeting.keep_in_range.Goals as goal

pub returns-then-not-keeps_height : goal.returns-then-not-keeps_height
returns-then-not-keeps_height c =
    let inside : c.loop-place.place < length c.args.owners.now = omega arith in
    let e = slice_get-get_or c.args.owners.now c.loop-place.place 0 inside in
    ((λ it. absurd (let no : ⊥ = cc in no)), (λ every. c.if-not-keeps_height.ensures.1 (every _ _ _ _ (stands_at c.args.code.now c.args.owners.now c.loop-place.place _ c.at-instr.result.now c.requires.owned e c.at-instr.ensures))))

pub loop-place-preserved : goal.loop-place-preserved
loop-place-preserved c =
    let inside : c.loop-place.place < length c.args.owners.now = omega arith in
    each_more (λ b k i. KeepsHeight c.args.code.now c.args.heights.now c.args.handler.now b k i) c.args.owners.now c.args.code.now.instrs c.loop-place.place _ c.at-instr.result.now c.loop-place.invariant (slice_get-get_or c.args.owners.now c.loop-place.place 0 inside) c.at-instr.ensures (c.keeps_height.ensures.0 c.if-not-keeps_height.false)

pub returns : goal.returns
returns c =
    ((λ it. everywhere_from (λ b k i. KeepsHeight c.args.code.now c.args.heights.now c.args.handler.now b k i) c.args.code.now c.args.owners.now c.requires.rise c.requires.owned (λ k b i h e f. keeps_past c.args.code.now c.args.heights.now c.args.handler.now b k c.loop-place.place i (omega arith) (λ low. c.loop-place.invariant k b i low e f))), (λ every. refl))
