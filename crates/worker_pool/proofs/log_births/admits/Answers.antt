use Rattle.std.proofs.Common.{◌≡◌, ◌∙◌, sym, subst, arith, Bool, false, List, get_or, slice_set}
use Rattle.std.proofs.lemmas.List.{get_or_default}
use Rattle.std.proofs.lemmas.Bool.{OnTrue_from, OnFalse_from, OnTrue_at, OnFalse_at}
use Rattle.std.proofs.lemmas.Option.{slice_get_within}
use Rattle.worker_pool.specs.LogPlaces.{Admits}
use Rattle.worker_pool.proofs.Starting.{admits_at, admits_none, rejects_at}
use Rattle.worker_pool.proofs.log_births.admits.Goals as goal

pub returns-in-Some-find-clause-yes : goal.returns-in-Some-find-clause-yes
returns-in-Some-find-clause-yes c = OnTrue_from c.starts.result _ (λ is.
    (let old : List Bool = c.args.started.now.items in
    let at = c.in-Some-find.ensures.0 in
    let w = slice_get_within c.args.logs.now c.in-Some-find.place c.in-Some-find.log.now at in
    let was : c.index_mut.result.now ≡ get_or old c.in-Some-find.place false = c.index_mut.ensures.value ∙ get_or_default old c.in-Some-find.place c.index_mut.result.now false (omega (arith, w, c.requires.started)) in
    subst (λ (b : Bool). Admits c.args.logs.now old (slice_set old c.in-Some-find.place b) c.args.event.now) (sym c.starts.ensures.now)
    (admits_at c.args.logs.now old c.args.event.now c.in-Some.start c.in-Some-find.place c.in-Some-find.log.now c.requires.places.once c.requires.started c.in-Some.ensures at c.in-Some-find.ensures.1
    (λ no. OnTrue_at is c.starts.ensures.yes (was ∙ no)))))

pub returns-in-Some-find-clause-no : goal.returns-in-Some-find-clause-no
returns-in-Some-find-clause-no c = OnFalse_from c.starts.result _ (λ is.
    (let old : List Bool = c.args.started.now.items in
    let at = c.in-Some-find.ensures.0 in
    let w = slice_get_within c.args.logs.now c.in-Some-find.place c.in-Some-find.log.now at in
    let was : c.index_mut.result.now ≡ get_or old c.in-Some-find.place false = c.index_mut.ensures.value ∙ get_or_default old c.in-Some-find.place c.index_mut.result.now false (omega (arith, w, c.requires.started)) in
    let no = OnFalse_at is c.starts.ensures.no in
    rejects_at c.args.logs.now old c.args.event.now c.in-Some.start c.in-Some-find.place c.in-Some-find.log.now c.in-Some.ensures at c.in-Some-find.ensures.1 c.if-start-eq1.false (sym was ∙ no.0) no.1))

pub returns-in-None-find-clause-yes : goal.returns-in-None-find-clause-yes
returns-in-None-find-clause-yes c = admits_none c.args.logs.now c.args.started.now.items c.args.event.now c.in-Some.start c.requires.places.once c.in-Some.ensures c.in-None-find.ensures
