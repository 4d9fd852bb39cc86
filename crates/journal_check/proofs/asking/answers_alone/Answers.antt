use Rattle.std.proofs.Common.{sym, subst, List}
use Rattle.std.specs.Prelude.{◌↔◌, IsTrue}
use Rattle.kernel_base.specs.declared.request.Alternative.{Alternative}
use Rattle.kernel_base.specs.declared.request.Request.{Request}
use Rattle.world_model.specs.Allowed.{AnswersAlone, ReceivesSignal}
use Rattle.journal_check.proofs.asking.answers_alone.Goals as goal

pub returns-in-ReceiveSignal : goal.returns-in-ReceiveSignal
returns-in-ReceiveSignal c =
    subst (λ (r : Request). IsTrue c.receives_signal.result ↔ AnswersAlone c.args.facts.now c.args.world.now c.args.who r c.args.answer.now) (sym c.in-ReceiveSignal.is)
    (subst (λ (xs : List Alternative). IsTrue c.receives_signal.result ↔ ReceivesSignal c.args.facts.now c.args.world.now c.args.who xs c.in-ReceiveSignal.otherwise c.args.answer.now) c.as_slice-in-ReceiveSignal.ensures c.receives_signal.ensures)
