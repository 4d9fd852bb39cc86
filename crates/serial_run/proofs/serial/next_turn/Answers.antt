use Rattle.serial_run.specs.Suiting.{IsUnsuited}
use Rattle.serial_run.proofs.Fetching.{journal_both, stand_both, unsuited_before, unsuited_both}
use Rattle.serial_run.proofs.Refusing.{on_err}
use Rattle.serial_run.proofs.serial.next_turn.Goals as goal

pub returns-in_err-k-2-clause-misfit : goal.returns-in_err-k-2-clause-misfit
returns-in_err-k-2-clause-misfit c = on_err c.from_residual-in_err-k-2.result (IsUnsuited c.args.kernel.now c.args.runners.now)
    (unsuited_before c.args.kernel.now c.next_listed.new.kernel c.args.runners.now c.next_listed.new.runners c.next_listed.ensures.journal c.in_ok-k.ensures.stand c.in_err-k-2.ensures.misfit)

pub returns-in-Some-2-clause-stand : goal.returns-in-Some-2-clause-stand
returns-in-Some-2-clause-stand c = λ code h. c.in_ok-k-2.ensures.stand code (c.in_ok-k.ensures.stand code h)

pub returns-clause-stand : goal.returns-clause-stand
returns-clause-stand c = stand_both c.args.kernel.now c.next_listed-2.new.kernel c.next_from.new.kernel c.args.runners.now c.next_listed-2.new.runners c.next_from.new.runners c.next_from.result
    (λ code h. c.in_ok-k-2.ensures.stand code (c.in_ok-k.ensures.stand code h)) c.next_from.ensures.stand

pub returns-clause-misfit : goal.returns-clause-misfit
returns-clause-misfit c = unsuited_both c.args.kernel.now c.next_listed-2.new.kernel c.args.runners.now c.next_listed-2.new.runners c.next_from.result
    (journal_both c.args.kernel.now c.next_listed.new.kernel c.next_listed-2.new.kernel c.next_listed.ensures.journal c.next_listed-2.ensures.journal)
    (λ code h. c.in_ok-k-2.ensures.stand code (c.in_ok-k.ensures.stand code h)) c.next_from.ensures.misfit
