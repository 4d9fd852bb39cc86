use Rattle.std.proofs.Common.{◌∙◌, sym, ap, arith, Some}
use Rattle.std.proofs.lemmas.Option.{slice_get_within, same_Some, slice_get-get_or}
use Rattle.worker_pool.specs.declared.log.Log.{Log}
use Rattle.worker_pool.proofs.Placing.{placed, placeless}
use Rattle.worker_pool.proofs.log_places.find.Goals as goal

pub returns-in-None : goal.returns-in-None
returns-in-None c = placeless c.args.logs.now c.args.who (sym (c.requires.place c.args.who) ∙ sym c.in-None.ensures.value)

pub returns-in-Some-get : goal.returns-in-Some-get
returns-in-Some-get c =
    let p = placed c.args.logs.now c.args.who c.in-Some.place.now (sym (c.requires.place c.args.who) ∙ sym c.in-Some.ensures.value) in
    let within = slice_get_within c.args.logs.now c.in-Some.place.now p.0 p.1 in
    let at = slice_get-get_or c.args.logs.now c.in-Some.place.now c.in-Some-get.log.now within ∙ ap Some (sym c.in-Some-get.ensures.lookup.1) in
    (at, ap (λ (l : Log). l.instance) (same_Some c.in-Some-get.log.now p.0 (sym at ∙ p.1)) ∙ p.2)

pub returns-in-None-get : goal.returns-in-None-get
returns-in-None-get c =
    let p = placed c.args.logs.now c.args.who c.in-Some.place.now (sym (c.requires.place c.args.who) ∙ sym c.in-Some.ensures.value) in
    let within = slice_get_within c.args.logs.now c.in-Some.place.now p.0 p.1 in
    absurd (let past = c.in-None-get.ensures.lookup.3 in omega (arith, within, past))
