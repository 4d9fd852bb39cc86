use Rattle.std.proofs.Common.{◌≡◌, ◌∙◌, subst, sym}
use Rattle.serial_run.specs.declared.refusal.RunRefusal.{RunRefusal}
use Rattle.serial_run.specs.Suiting.{IsRefused}
use Rattle.serial_run.proofs.Opening.{opens_standing}
use Rattle.serial_run.proofs.Refusing.{if_err, refused_by}
use Rattle.serial_run.proofs.Stopping.{stopped_there}
use Rattle.serial_run.proofs.stopped.attempt_some.Goals as goal

pub make_some_turns-requires-clause-stand : goal.make_some_turns-requires-clause-stand
make_some_turns-requires-clause-stand c = opens_standing c.args.guarded.now c.code-code.ensures.agrees c.args.facts c.in_ok-kernel.kernel c.new-runners.result.items c.requires c.in_ok-kernel.ensures c.new-runners.ensures.items

pub returns-in_err-made-clause-refused : goal.returns-in_err-made-clause-refused
returns-in_err-made-clause-refused c = if_err c.from_residual-in_err-made.result _ (IsRefused c.args.guarded.now c.args.facts) c.from_residual-in_err-made.ensures.1
    (λ refusal is.
    (let same : refusal ≡ c.in_err-made.field-0.0 = cc in
    refused_by c.args.guarded.now c.args.facts c.in_ok-kernel.kernel.facts refusal c.in_ok-kernel.ensures.facts_are
    (subst (λ (x : RunRefusal). IsRefused c.args.guarded.now c.in_ok-kernel.kernel.facts x) (sym same) c.in_err-made.ensures.refused)))

pub returns-clause-stopped : goal.returns-clause-stopped
returns-clause-stopped c = stopped_there c.args.guarded.now c.args.facts c.make_some_turns.new.kernel c.make_some_turns.new.runners.items c.into_events.result _ c.args.most _ c.in_ok-made.ensures.stand (c.in_ok-made.ensures.facts ∙ c.in_ok-kernel.ensures.facts_are)
    c.into_events.ensures.events c.in_ok-made.ensures.made c.in_ok-made.ensures.few c.in_ok-made.ensures.all c.over-over.ensures
