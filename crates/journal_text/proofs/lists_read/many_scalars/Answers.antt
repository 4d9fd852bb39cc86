use Rattle.std.proofs.Common.{◌≡◌, ◌++◌, ◌∷◌, [], rules, SFits, w64}
use Rattle.std.proofs.lemmas.Int.{to_z-of_z}
use Rattle.std.proofs.lemmas.Result.{err_from_is_err_and}
use Rattle.journal_text.specs.Reading.{many_at, scalar_at}
use Rattle.journal_text.proofs.Loops.{goes_on, ends, is_done}
use Rattle.journal_text.proofs.lists_read.many_scalars.Goals as goal

pub returns-in_err-scalar : goal.returns-in_err-scalar
returns-in_err-scalar c =
    let p = err_from_is_err_and c.from_residual.result c.from_residual.ensures.1 in
    rw (p.1, p.2) (ends scalar_at c.in_err-scalar.field-0.0 c.loop.scalars.items c.args.count c.loop.counter c.loop.rest.now (many_at scalar_at c.args.count c.args.bytes.now) c.loop-test.true c.in_err-scalar.ensures c.loop.invariant)

pub loop-preserved : goal.loop-preserved
loop-preserved c =
    let fits : SFits w64 c.in_ok-scalar.scalar = search rules in
    let e : c.push.new.self.items ≡ c.loop.scalars.items ++ c.in_ok-scalar.scalar ∷ [] = simp to_z-of_z at c.in_ok-push.ensures.items in
    rw e (goes_on scalar_at c.loop.scalars.items c.args.count c.loop.counter c.loop.rest.now c.in_ok-scalar.scalar c.in_ok-scalar.after.now (many_at scalar_at c.args.count c.args.bytes.now) c.loop-test.true c.in_ok-scalar.ensures c.loop.invariant)

pub returns : goal.returns
returns c = rw c.from_vec.ensures (is_done scalar_at c.loop.scalars.items c.args.count c.loop.counter c.loop.rest.now (many_at scalar_at c.args.count c.args.bytes.now) c.loop-test.false c.loop.invariant)
