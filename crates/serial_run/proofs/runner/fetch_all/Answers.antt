use Rattle.std.proofs.Common.{◌≡◌, ◌<◌, arith, Some, slice_get, get_or}
use Rattle.std.proofs.lemmas.Option.{slice_get-get_or, slice_get_within}
use Rattle.serial_run.specs.declared.runner.Runner.{Runner}
use Rattle.serial_run.proofs.Fetching.{journal_on, one_more_fetched, unsuited_before}
use Rattle.serial_run.proofs.Leading.{led_fetched}
use Rattle.serial_run.specs.Suiting.{IsUnsuited}
use Rattle.serial_run.proofs.Misfits.{unfit_answer}
use Rattle.serial_run.proofs.Refusing.{on_err}
use Rattle.serial_run.proofs.runner.fetch_all.Goals as goal

pub loop-k-preserved : goal.loop-k-preserved
loop-k-preserved c =
    let r : Runner = get_or c.loop-k.runners c.loop-k.k c.index-runners-k.result in
    let at : slice_get c.loop-k.runners c.loop-k.k ≡ Some r = slice_get-get_or c.loop-k.runners c.loop-k.k c.index-runners-k.result (omega arith) in
    record {
      journal = journal_on c.args.kernel.now c.loop-k.kernel c.fetch.new.kernel r.instance c.loop-k.invariant.journal c.fetch.ensures.fetched;
      stand = λ code h.
          (let before = c.loop-k.invariant.stand code h in
          led_fetched code c.loop-k.kernel c.fetch.new.kernel c.loop-k.runners c.loop-k.k r c.fetch.new.self at c.in_ok-fetch.ensures.instance c.fetch.ensures.fetched (c.in_ok-fetch.ensures.stands code (before.stand c.loop-k.k r at)) before);
      fetched = one_more_fetched c.loop-k.kernel c.fetch.new.kernel c.loop-k.runners c.loop-k.k r c.fetch.new.self at c.in_ok-fetch.ensures.instance c.fetch.ensures.fetched c.loop-k.invariant.fetched;
    }

pub returns-clause-fetched : goal.returns-clause-fetched
returns-clause-fetched c = λ k r at. c.loop-k.invariant.fetched k r (let within : k < _ = slice_get_within c.loop-k.runners k r at in omega (arith, within)) at

pub returns-in_err-fetch-clause-misfit : goal.returns-in_err-fetch-clause-misfit
returns-in_err-fetch-clause-misfit c =
    let r : Runner = get_or c.loop-k.runners c.loop-k.k c.index-runners-k.result in
    let at : slice_get c.loop-k.runners c.loop-k.k ≡ Some r = slice_get-get_or c.loop-k.runners c.loop-k.k c.index-runners-k.result (omega arith) in
    on_err c.from_residual.result (IsUnsuited c.args.kernel.now c.args.runners.now)
    (unsuited_before c.args.kernel.now c.loop-k.kernel c.args.runners.now c.loop-k.runners c.loop-k.invariant.journal c.loop-k.invariant.stand
    (λ code h suits. unfit_answer code c.loop-k.kernel c.loop-k.runners c.loop-k.k r at c.in_err-fetch.ensures.misfit h suits))
