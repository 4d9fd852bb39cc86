use Rattle.std.proofs.Common.{sym, subst, List}
use Rattle.std.specs.Prelude.{◌↔◌, IsTrue, IsFalse}
use Rattle.kernel_base.specs.declared.request.Alternative.{Alternative}
use Rattle.kernel_base.specs.declared.request.Request.{Request}
use Rattle.world_model.specs.Allowed.{MustWait, NoSignalPends}
use Rattle.journal_check.proofs.asking.must_wait.Goals as goal

pub returns-in-ReceiveSignal : goal.returns-in-ReceiveSignal
returns-in-ReceiveSignal c =
    subst (λ (r : Request). IsTrue c.must_wait_for_signal.result ↔ MustWait c.args.facts.now c.args.world.now c.args.who r) (sym c.in-ReceiveSignal.is)
    (subst (λ (xs : List Alternative). IsTrue c.must_wait_for_signal.result ↔ (IsFalse c.in-ReceiveSignal.otherwise × NoSignalPends c.args.facts.now c.args.world.now c.args.who xs)) c.as_slice-in-ReceiveSignal.ensures c.must_wait_for_signal.ensures)
