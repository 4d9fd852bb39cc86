use Rattle.std.proofs.Common.{◌≡◌, ℕ, ◌+◌, ◌∙◌, List, ap, sym, subst, inr, arith, Some, get_or, slice_get, slice_set}
use Rattle.std.proofs.lemmas.Bool.{OnTrue_from, OnFalse_from, OnTrue_at, OnFalse_at}
use Rattle.std.proofs.lemmas.List.{get_or_default}
use Rattle.std.proofs.lemmas.Option.{slice_get_within}
use Rattle.worker_pool.specs.declared.log.Log.{Log}
use Rattle.worker_pool.proofs.log_events.takes.Goals as goal

pub returns-in-Some-clause-yes : goal.returns-in-Some-clause-yes
returns-in-Some-clause-yes c = OnTrue_from c.passes.result _ (λ is.
    (let old : List ℕ = c.args.nexts.now.items in
    let log : Log = c.in-Some.log.now in
    let at = c.in-Some.ensures.0 in
    let w = slice_get_within c.args.logs.now c.in-Some.place log at in
    let next : c.index_mut.result.now ≡ get_or old c.in-Some.place 0 = c.index_mut.ensures.value ∙ get_or_default old c.in-Some.place c.index_mut.result.now 0 (omega (arith, w, c.requires.nexts)) in
    let yes = OnTrue_at is c.passes.ensures.yes in
    record {
      place = c.in-Some.place;
      log = log;
      at = at;
      own = c.in-Some.ensures.1 ∙ c.instance_of.ensures;
      next = subst (λ (n : ℕ). slice_get log.events n ≡ Some c.args.event.now) next yes.0;
      passed = ap (slice_set old c.in-Some.place) (yes.1 ∙ ap (λ (n : ℕ). n + 1) next);
    }))

pub returns-in-Some-clause-no : goal.returns-in-Some-clause-no
returns-in-Some-clause-no c = OnFalse_from c.passes.result _ (λ is.
    (let old : List ℕ = c.args.nexts.now.items in
    let log : Log = c.in-Some.log.now in
    let at = c.in-Some.ensures.0 in
    let w = slice_get_within c.args.logs.now c.in-Some.place log at in
    let next : c.index_mut.result.now ≡ get_or old c.in-Some.place 0 = c.index_mut.ensures.value ∙ get_or_default old c.in-Some.place c.index_mut.result.now 0 (omega (arith, w, c.requires.nexts)) in
    let no = OnFalse_at is c.passes.ensures.no in
    inr (record {
      place = c.in-Some.place;
      log = log;
      at = at;
      own = c.in-Some.ensures.1 ∙ c.instance_of.ensures;
      other = λ same. no (subst (λ (n : ℕ). slice_get log.events n ≡ Some c.args.event.now) (sym next) same);
    })))
