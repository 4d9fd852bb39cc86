use Rattle.std.proofs.Common.{arith, refl}
use Rattle.std.proofs.lemmas.Option.{slice_get_within}
use Rattle.code_types.specs.Agreement.{Everywhere}
use Rattle.code_guard.specs.Heights.{KeepsHeight}
use Rattle.code_types.specs.declared.code.Handler.{Handler}
use Rattle.code_guard.proofs.EachItem.{all_at, all_of, each_item}
use Rattle.code_guard.proofs.meeting.all_keep.Goals as goal

pub returns-then-not-keep_in_range : goal.returns-then-not-keep_in_range
returns-then-not-keep_in_range c =
    ((λ it. absurd (let no : ⊥ = cc in no)), (λ every. c.if-not-keep_in_range.ensures.1 (all_at (λ (h : Handler). Everywhere c.args.code.now (λ body row place instr. KeepsHeight c.args.code.now c.args.heights.now h body place instr)) c.args.code.now.handlers c.loop-i.i c.at.result.now every c.at.ensures)))

pub returns : goal.returns
returns c =
    ((λ it. all_of (λ (h : Handler). Everywhere c.args.code.now (λ body row place instr. KeepsHeight c.args.code.now c.args.heights.now h body place instr)) c.args.code.now.handlers (λ k handler e. let low = slice_get_within c.args.code.now.handlers k handler e in c.loop-i.invariant k handler (omega arith) e)), (λ every. refl))

pub loop-i-preserved : goal.loop-i-preserved
loop-i-preserved c = each_item (λ (h : Handler). Everywhere c.args.code.now (λ body row place instr. KeepsHeight c.args.code.now c.args.heights.now h body place instr)) c.args.code.now.handlers c.loop-i.i c.at.result.now c.loop-i.invariant c.at.ensures (c.keep_in_range.ensures.0 c.if-not-keep_in_range.false)
