use Rattle.std.proofs.Common.{◌≡◌, ◌<◌, ◌∙◌, arith, refl, sym, subst, true, false, List, Option, Some, length, length-set, slice_get, slice_set, get_or}
use Rattle.std.specs.Prelude.{IsSomeAnd}
use Rattle.machine_steps.specs.Views.{state_of}
use Rattle.code_machine.specs.Running.{IsUp}
use Rattle.std.proofs.lemmas.Option.{same_Some, slice_get-get_or, slice_get_within}
use Rattle.world_model.proofs.ChangedLists.{written_here}
use Rattle.serial_run.specs.declared.runner.Runner.{Runner}
use Rattle.serial_run.proofs.Fetching.{journal_on, one_more_rests, unsuited_before}
use Rattle.serial_run.proofs.Leading.{led_fetched}
use Rattle.serial_run.specs.Suiting.{IsUnsuited}
use Rattle.serial_run.proofs.Misfits.{unfit_answer}
use Rattle.serial_run.proofs.Refusing.{on_err}
use Rattle.serial_run.proofs.runner.next_from.Goals as goal

pub returns-then-can_burst-clause-stand : goal.returns-then-can_burst-clause-stand
returns-then-can_burst-clause-stand c = λ code h.
    (let r : Runner = get_or c.loop-k.runners c.loop-k.k c.index-runners-k.result in
    let at : slice_get c.loop-k.runners c.loop-k.k ≡ Some r = slice_get-get_or c.loop-k.runners c.loop-k.k c.index-runners-k.result (omega arith) in
    let before = c.loop-k.invariant.stand code h in
    led_fetched code c.loop-k.kernel c.fetch.new.kernel c.loop-k.runners c.loop-k.k r c.fetch.new.self at c.in_ok-fetch.ensures.instance c.fetch.ensures.fetched (c.in_ok-fetch.ensures.stands code (before.stand c.loop-k.k r at)) before)

pub returns-then-can_burst-clause-found : goal.returns-then-can_burst-clause-found
returns-then-can_burst-clause-found c =
    let changed : List Runner = slice_set c.loop-k.runners c.loop-k.k c.fetch.new.self in
    let n : length changed ≡ length c.loop-k.runners = length-set c.loop-k.runners c.loop-k.k c.fetch.new.self in
    let there : slice_get changed c.loop-k.k ≡ Some (get_or changed c.loop-k.k c.index-runners-k-in-loop-k.result) = slice_get-get_or changed c.loop-k.k c.index-runners-k-in-loop-k.result (omega arith) in
    subst (λ (o : Option Runner). IsSomeAnd o (λ r. IsUp (state_of r.machine).mode)) (sym there) (c.if-can_burst.ensures.0 refl)

pub loop-k-preserved : goal.loop-k-preserved
loop-k-preserved c =
    let r : Runner = get_or c.loop-k.runners c.loop-k.k c.index-runners-k.result in
    let at : slice_get c.loop-k.runners c.loop-k.k ≡ Some r = slice_get-get_or c.loop-k.runners c.loop-k.k c.index-runners-k.result (omega arith) in
    let changed : List Runner = slice_set c.loop-k.runners c.loop-k.k c.fetch.new.self in
    let n : length changed ≡ length c.loop-k.runners = length-set c.loop-k.runners c.loop-k.k c.fetch.new.self in
    let there : slice_get changed c.loop-k.k ≡ Some (get_or changed c.loop-k.k c.index-runners-k-in-loop-k.result) = slice_get-get_or changed c.loop-k.k c.index-runners-k-in-loop-k.result (omega arith) in
    let here : slice_get changed c.loop-k.k ≡ Some c.fetch.new.self = written_here c.loop-k.runners c.loop-k.k c.fetch.new.self r at in
    let both : Some c.fetch.new.self ≡ Some (get_or changed c.loop-k.k c.index-runners-k-in-loop-k.result) = sym here ∙ there in
    let same : c.fetch.new.self ≡ get_or changed c.loop-k.k c.index-runners-k-in-loop-k.result = same_Some _ _ both in
    let down : IsUp (state_of c.fetch.new.self.machine).mode → ⊥ = λ up. (let no : false ≡ true = c.if-can_burst.ensures.1 (subst (λ (x : Runner). IsUp (state_of x.machine).mode) same up) in let f : ⊥ = cc in f) in
    record {
      journal = journal_on c.args.kernel.now c.loop-k.kernel c.fetch.new.kernel r.instance c.loop-k.invariant.journal c.fetch.ensures.fetched;
      stand = λ code h.
          (let before = c.loop-k.invariant.stand code h in
          led_fetched code c.loop-k.kernel c.fetch.new.kernel c.loop-k.runners c.loop-k.k r c.fetch.new.self at c.in_ok-fetch.ensures.instance c.fetch.ensures.fetched (c.in_ok-fetch.ensures.stands code (before.stand c.loop-k.k r at)) before);
      rest = one_more_rests c.loop-k.kernel c.fetch.new.kernel c.loop-k.runners c.args.from c.loop-k.k r c.fetch.new.self at c.in_ok-fetch.ensures.instance c.fetch.ensures.fetched down c.loop-k.invariant.rest;
    }

pub returns-in_err-fetch-clause-misfit : goal.returns-in_err-fetch-clause-misfit
returns-in_err-fetch-clause-misfit c =
    let r : Runner = get_or c.loop-k.runners c.loop-k.k c.index-runners-k.result in
    let at : slice_get c.loop-k.runners c.loop-k.k ≡ Some r = slice_get-get_or c.loop-k.runners c.loop-k.k c.index-runners-k.result (omega arith) in
    on_err c.from_residual.result (IsUnsuited c.args.kernel.now c.args.runners.now)
    (unsuited_before c.args.kernel.now c.loop-k.kernel c.args.runners.now c.loop-k.runners c.loop-k.invariant.journal c.loop-k.invariant.stand
    (λ code h suits. unfit_answer code c.loop-k.kernel c.loop-k.runners c.loop-k.k r at c.in_err-fetch.ensures.misfit h suits))

pub returns-clause-rest : goal.returns-clause-rest
returns-clause-rest c = λ k r low at. c.loop-k.invariant.rest k r low (let within : k < _ = slice_get_within c.loop-k.runners k r at in omega (arith, within)) at
