use Rattle.std.proofs.Common.{◌≡◌, ℕ, Option, subst, sym}
use Rattle.std.specs.Prelude.{slice_index_or}
use Rattle.serial_run.specs.declared.runner.Runner.{Runner}
use Rattle.serial_run.specs.declared.refusal.RunRefusal.{RunRefusal}
use Rattle.serial_run.specs.declared.refusal.RunRefusal.TheVariants as refusals
use Rattle.serial_run.specs.Suiting.{IsRefused, RestFrom}
use Rattle.serial_run.proofs.Finishing.{all_taken_kept}
use Rattle.serial_run.proofs.Leading.{has_place, led_served}
use Rattle.serial_run.proofs.Misfits.{none_rests}
use Rattle.serial_run.proofs.Refusing.{if_err, open_kept, unserved_refused}
use Rattle.serial_run.proofs.Turning.{IsUpAt, turn_at, is_there, is_up}
use Rattle.serial_run.proofs.Stopping.{turn_makes}
use Rattle.serial_run.proofs.serial.make_turn.Goals as goal

pub serve-requires-clause-stands : goal.serve-requires-clause-stands
serve-requires-clause-stands c =
    let up : IsUpAt c.next_turn.new.runners c.in-Some.k = turn_at c.next_turn.new.runners c.in_ok-k.field-0 c.in-Some.k c.in-Some.is c.in_ok-k.ensures.found in
    (c.in_ok-k.ensures.stand c.args.guarded.now c.requires.stand).stand c.in-Some.k (slice_index_or c.next_turn.new.runners c.in-Some.k c.index-runners-k.result) (is_there c.next_turn.new.runners c.in-Some.k c.index-runners-k.result up)

pub serve-requires-clause-up : goal.serve-requires-clause-up
serve-requires-clause-up c =
    let up : IsUpAt c.next_turn.new.runners c.in-Some.k = turn_at c.next_turn.new.runners c.in_ok-k.field-0 c.in-Some.k c.in-Some.is c.in_ok-k.ensures.found in
    is_up c.next_turn.new.runners c.in-Some.k c.index-runners-k.result up

pub serve-requires-clause-place : goal.serve-requires-clause-place
serve-requires-clause-place c =
    let up : IsUpAt c.next_turn.new.runners c.in-Some.k = turn_at c.next_turn.new.runners c.in_ok-k.field-0 c.in-Some.k c.in-Some.is c.in_ok-k.ensures.found in
    has_place c.args.guarded.now c.next_turn.new.kernel c.next_turn.new.runners c.in-Some.k (slice_index_or c.next_turn.new.runners c.in-Some.k c.index-runners-k.result) (c.in_ok-k.ensures.stand c.args.guarded.now c.requires.stand) (is_there c.next_turn.new.runners c.in-Some.k c.index-runners-k.result up)

pub returns-clause-stand : goal.returns-clause-stand
returns-clause-stand c =
    let up : IsUpAt c.next_turn.new.runners c.in-Some.k = turn_at c.next_turn.new.runners c.in_ok-k.field-0 c.in-Some.k c.in-Some.is c.in_ok-k.ensures.found in
    let r : Runner = slice_index_or c.next_turn.new.runners c.in-Some.k c.index-runners-k.result in
    led_served c.args.guarded.now c.next_turn.new.kernel c.serve.new.kernel c.next_turn.new.runners c.in-Some.k r c.serve.new.runner (is_there c.next_turn.new.runners c.in-Some.k c.index-runners-k.result up)
    c.in_ok-serve-in-Some.ensures.instance c.in_ok-serve-in-Some.ensures.advances c.in_ok-serve-in-Some.ensures.stands (c.in_ok-k.ensures.stand c.args.guarded.now c.requires.stand)

pub returns-in_err-k-clause-refused : goal.returns-in_err-k-clause-refused
returns-in_err-k-clause-refused c = if_err c.from_residual.result _ (IsRefused c.args.guarded.now c.args.kernel.now.facts) c.from_residual.ensures.1
    (λ refusal is.
    (let same : refusal ≡ refusals.Misfit = is in
    subst (λ (x : RunRefusal). IsRefused c.args.guarded.now c.args.kernel.now.facts x) (sym same) (c.in_err-k.ensures.misfit c.args.guarded.now c.requires.stand)))

pub returns-in_err-serve-in-Some-clause-refused : goal.returns-in_err-serve-in-Some-clause-refused
returns-in_err-serve-in-Some-clause-refused c = if_err c.from_residual-in_err-serve-in-Some.result _ (IsRefused c.args.guarded.now c.args.kernel.now.facts) c.from_residual-in_err-serve-in-Some.ensures.1
    (λ refusal is.
    (let same : refusal ≡ c.in_err-serve-in-Some.field-0.0 = cc in
    subst (λ (x : RunRefusal). IsRefused c.args.guarded.now c.args.kernel.now.facts x) (sym same)
    (unserved_refused c.args.guarded.now c.args.kernel.now c.next_turn.new.kernel c.next_turn.new.runners c.in_err-serve-in-Some.field-0.0 c.next_turn.ensures.journal
    (c.in_ok-k.ensures.stand c.args.guarded.now c.requires.stand) c.requires.open c.in_err-serve-in-Some.ensures.unserved)))

pub unreachable-requires : goal.unreachable-requires
unreachable-requires c = none_rests c.args.guarded.now c.next_turn.new.kernel c.next_turn.new.runners (c.in_ok-k.ensures.stand c.args.guarded.now c.requires.stand)
    (all_taken_kept c.args.kernel.now c.next_turn.new.kernel c.next_turn.ensures.journal c.requires.all) c.is_run.ensures.idle
    (open_kept c.args.kernel.now c.next_turn.new.kernel c.next_turn.ensures.journal c.requires.open)
    (subst (λ (o : Option ℕ). RestFrom c.next_turn.new.kernel c.next_turn.new.runners 0 o) c.in-None.is c.in_ok-k.ensures.rest)

pub returns-clause-made : goal.returns-clause-made
returns-clause-made c = turn_makes c.args.guarded.now c.args.kernel.now c.next_turn.new.kernel c.serve.new.kernel _ c.next_turn.ensures.journal c.in_ok-serve-in-Some.ensures.advances
