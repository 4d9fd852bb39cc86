use Rattle.std.proofs.Common.{◌≡◌, ℕ, arith, refl, sym, subst, List, Option, Some, length, length-set, slice_get, slice_set, slice_index_or, get_or}
use Rattle.std.specs.Prelude.{IsSomeAnd}
use Rattle.machine_steps.specs.Views.{state_of}
use Rattle.code_machine.specs.Running.{IsUp}
use Rattle.std.proofs.lemmas.Option.{slice_get-get_or}
use Rattle.serial_run.specs.declared.runner.Runner.{Runner}
use Rattle.serial_run.proofs.Fetching.{journal_on, unsuited_before}
use Rattle.serial_run.proofs.Leading.{led_fetched}
use Rattle.serial_run.specs.Suiting.{IsUnsuited}
use Rattle.serial_run.proofs.Misfits.{unfit_answer}
use Rattle.serial_run.proofs.Refusing.{on_err}
use Rattle.serial_run.proofs.runner.next_listed.Goals as goal

pub returns-then-can_burst-clause-stand : goal.returns-then-can_burst-clause-stand
returns-then-can_burst-clause-stand c = λ code h.
    (let k : ℕ = slice_index_or c.args.places.now c.loop-place.place-index 0 in
    let r : Runner = get_or c.loop-place.runners k c.index-runners-k.result in
    let at : slice_get c.loop-place.runners k ≡ Some r = slice_get-get_or c.loop-place.runners k c.index-runners-k.result (omega arith) in
    let before = c.loop-place.invariant.stand code h in
    led_fetched code c.loop-place.kernel c.fetch.new.kernel c.loop-place.runners k r c.fetch.new.self at c.in_ok-fetch.ensures.instance c.fetch.ensures.fetched (c.in_ok-fetch.ensures.stands code (before.stand k r at)) before)

pub returns-then-can_burst-clause-found : goal.returns-then-can_burst-clause-found
returns-then-can_burst-clause-found c =
    let k : ℕ = slice_index_or c.args.places.now c.loop-place.place-index 0 in
    let changed : List Runner = slice_set c.loop-place.runners k c.fetch.new.self in
    let n : length changed ≡ length c.loop-place.runners = length-set c.loop-place.runners k c.fetch.new.self in
    let there : slice_get changed k ≡ Some (get_or changed k c.index-runners-k-in-loop-place.result) = slice_get-get_or changed k c.index-runners-k-in-loop-place.result (omega arith) in
    subst (λ (o : Option Runner). IsSomeAnd o (λ r. IsUp (state_of r.machine).mode)) (sym there) (c.if-can_burst.ensures.0 refl)

pub loop-place-preserved : goal.loop-place-preserved
loop-place-preserved c =
    let k : ℕ = slice_index_or c.args.places.now c.loop-place.place-index 0 in
    let r : Runner = get_or c.loop-place.runners k c.index-runners-k.result in
    let at : slice_get c.loop-place.runners k ≡ Some r = slice_get-get_or c.loop-place.runners k c.index-runners-k.result (omega arith) in
    record {
      journal = journal_on c.args.kernel.now c.loop-place.kernel c.fetch.new.kernel r.instance c.loop-place.invariant.journal c.fetch.ensures.fetched;
      stand = λ code h.
          (let before = c.loop-place.invariant.stand code h in
          led_fetched code c.loop-place.kernel c.fetch.new.kernel c.loop-place.runners k r c.fetch.new.self at c.in_ok-fetch.ensures.instance c.fetch.ensures.fetched (c.in_ok-fetch.ensures.stands code (before.stand k r at)) before);
    }

pub returns-in_err-fetch-clause-misfit : goal.returns-in_err-fetch-clause-misfit
returns-in_err-fetch-clause-misfit c =
    let k : ℕ = slice_index_or c.args.places.now c.loop-place.place-index 0 in
    let r : Runner = get_or c.loop-place.runners k c.index-runners-k.result in
    let at : slice_get c.loop-place.runners k ≡ Some r = slice_get-get_or c.loop-place.runners k c.index-runners-k.result (omega arith) in
    on_err c.from_residual.result (IsUnsuited c.args.kernel.now c.args.runners.now)
    (unsuited_before c.args.kernel.now c.loop-place.kernel c.args.runners.now c.loop-place.runners c.loop-place.invariant.journal c.loop-place.invariant.stand
    (λ code h suits. unfit_answer code c.loop-place.kernel c.loop-place.runners k r at c.in_err-fetch.ensures.misfit h suits))
