use Rattle.std.proofs.Common.{arith, refl}
use Rattle.std.proofs.lemmas.Option.{slice_get_within}
use Rattle.code_types.specs.Agreement.{HandlesInOneBody}
use Rattle.code_guard.proofs.EachItem.{all_at, all_of}
use Rattle.code_guard.proofs.instructions.handlers_fit.Goals as goal

pub returns-then-not-handles_in_one_body : goal.returns-then-not-handles_in_one_body
returns-then-not-handles_in_one_body c =
    ((λ it. absurd (let no : ⊥ = cc in no)), (λ every. c.if-not-handles_in_one_body.ensures.1 (all_at (HandlesInOneBody c.args.code.now) c.args.code.now.handlers c.loop-i.i c.at.result.now every c.at.ensures)))

pub returns : goal.returns
returns c =
    ((λ it. all_of (HandlesInOneBody c.args.code.now) c.args.code.now.handlers (λ k handler e. let low = slice_get_within c.args.code.now.handlers k handler e in c.loop-i.invariant k handler (omega arith) e)), (λ every. refl))
