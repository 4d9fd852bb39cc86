use Rattle.std.proofs.Common.{◌≡◌, subst, sym}
use Rattle.serial_run.specs.declared.refusal.RunRefusal.{RunRefusal}
use Rattle.serial_run.specs.Suiting.{IsRefused}
use Rattle.serial_run.proofs.Opening.{opens_standing}
use Rattle.serial_run.proofs.Refusing.{if_err, refused_by}
use Rattle.serial_run.proofs.serial.attempt.Goals as goal

pub make_turns-requires : goal.make_turns-requires
make_turns-requires c = opens_standing c.args.guarded.now c.code-code.ensures.agrees c.args.facts c.in_ok-kernel.kernel c.new-runners.result.items c.requires c.in_ok-kernel.ensures c.new-runners.ensures.items

pub returns-in_err-over-clause-refused : goal.returns-in_err-over-clause-refused
returns-in_err-over-clause-refused c = if_err c.from_residual-in_err-over.result _ (IsRefused c.args.guarded.now c.args.facts) c.from_residual-in_err-over.ensures.1
    (λ refusal is.
    (let same : refusal ≡ c.in_err-over.field-0.0 = cc in
    refused_by c.args.guarded.now c.args.facts c.in_ok-kernel.kernel.facts refusal c.in_ok-kernel.ensures.facts_are
    (subst (λ (x : RunRefusal). IsRefused c.args.guarded.now c.in_ok-kernel.kernel.facts x) (sym same) c.in_err-over.ensures.refused)))
