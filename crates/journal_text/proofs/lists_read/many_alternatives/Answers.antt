use Rattle.std.proofs.Common.{◌≡◌, ◌++◌, ◌∷◌, []}
use Rattle.std.proofs.lemmas.Result.{err_from_is_err_and}
use Rattle.journal_text.specs.Reading.{many_at, alternative_at}
use Rattle.journal_text.proofs.Loops.{goes_on, ends, is_done}
use Rattle.journal_text.proofs.lists_read.many_alternatives.Goals as goal

pub returns-in_err-alternative : goal.returns-in_err-alternative
returns-in_err-alternative c =
    let p = err_from_is_err_and c.from_residual.result c.from_residual.ensures.1 in
    rw (p.1, p.2) (ends alternative_at c.in_err-alternative.field-0.0 c.loop.alternatives.items c.args.count c.loop.counter c.loop.rest.now (many_at alternative_at c.args.count c.args.bytes.now) c.loop-test.true c.in_err-alternative.ensures c.loop.invariant)

pub loop-preserved : goal.loop-preserved
loop-preserved c =
    let e : c.push.new.self.items ≡ c.loop.alternatives.items ++ c.in_ok-alternative.alternative ∷ [] = c.in_ok-push.ensures.items in
    rw e (goes_on alternative_at c.loop.alternatives.items c.args.count c.loop.counter c.loop.rest.now c.in_ok-alternative.alternative c.in_ok-alternative.after.now (many_at alternative_at c.args.count c.args.bytes.now) c.loop-test.true c.in_ok-alternative.ensures c.loop.invariant)

pub returns : goal.returns
returns c = rw c.from_vec.ensures (is_done alternative_at c.loop.alternatives.items c.args.count c.loop.counter c.loop.rest.now (many_at alternative_at c.args.count c.args.bytes.now) c.loop-test.false c.loop.invariant)
