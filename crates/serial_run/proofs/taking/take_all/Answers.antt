use Rattle.std.proofs.Common.{◌≡◌, subst, sym, List, rules}
use Rattle.serial_run.specs.declared.runner.Runner.{Runner}
use Rattle.serial_run.specs.Standing.{AllStand}
use Rattle.serial_run.specs.declared.refusal.RunRefusal.{RunRefusal}
use Rattle.serial_run.specs.Suiting.{IsRefused}
use Rattle.serial_run.proofs.Refusing.{if_err, refused_by, unstarted_refused}
use Rattle.serial_run.proofs.Taken.{led_taken}
use Rattle.serial_run.proofs.Committing.{all_kept}
use Rattle.serial_run.proofs.taking.take_all.Goals as goal

pub takes-preserved : goal.takes-preserved
takes-preserved c =
    let s = c.in_ok-runner-in-Some.ensures.starts in
    record {
      stand = subst (λ (xs : List Runner). AllStand c.args.guarded.now c.take_new.new.self xs) (sym c.in-Ok.ensures.items)
          (led_taken c.args.guarded.now c.takes.kernel c.take_new.new.self c.takes.runners.items c.in-Some.new c.in_ok-runner-in-Some.runner c.in-Some.ensures s.instance s.starts s.runs c.takes.invariant.stand);
      events = search rules;
    }

pub returns-in-None-clause-stand : goal.returns-in-None-clause-stand
returns-in-None-clause-stand c = all_kept c.args.guarded.now c.takes.kernel c.take_new.new.self c.takes.runners.items c.in-None.ensures.1 c.takes.invariant.stand

pub returns-in_err-runner-in-Some-clause-refused : goal.returns-in_err-runner-in-Some-clause-refused
returns-in_err-runner-in-Some-clause-refused c = if_err c.from_residual.result _ (IsRefused c.args.guarded.now c.args.kernel.now.facts) c.from_residual.ensures.1
    (λ refusal is.
    (let same : refusal ≡ c.in_err-runner-in-Some.field-0.0 = cc in
    let refused = unstarted_refused c.args.guarded.now c.takes.kernel c.take_new.new.self c.takes.runners.items c.in-Some.new c.in_err-runner-in-Some.field-0.0 c.takes.invariant.stand c.in-Some.ensures c.in_err-runner-in-Some.ensures.unstarted in
    refused_by c.args.guarded.now c.args.kernel.now.facts c.takes.kernel.facts refusal c.takes.invariant.events.facts (subst (λ (x : RunRefusal). IsRefused c.args.guarded.now c.takes.kernel.facts x) (sym same) refused)))
