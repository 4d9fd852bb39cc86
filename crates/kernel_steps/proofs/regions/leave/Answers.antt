use Rattle.std.proofs.Common.{ℕ, refl, ap, sym, subst, ◌∙◌, ◌≡◌, true, false, Option, Some, None, eq-eqb, arith, rules}
use Rattle.std.specs.Prelude.{slice_index_or}
use Rattle.std.specs.Option.{option_eq}
use lib.Dec.{eqb}
use Rattle.kernel_base.specs.declared.answer.Answer.TheVariants.{Done}
use Rattle.kernel_base.specs.declared.request.Request.TheVariants.{Leave}
use Rattle.world_model.specs.declared.world.World.{World}
use Rattle.world_model.specs.World.{left, occupant}
use Rattle.kernel_steps.specs.declared.state.State.{State}
use Rattle.kernel_steps.specs.Kept.{world_in, Rests}
use Rattle.kernel_steps.proofs.Served.{rests_same}
use Rattle.kernel_steps.proofs.Plain.{plain_serves}
use Rattle.kernel_steps.proofs.Entering.{left_other}
use Rattle.kernel_steps.proofs.regions.leave.Goals as goal

pub returns : goal.returns
returns c =
    let s = c.args.s.now in
    let w = world_in s in
    let k = c.requires.kept in
    let who = c.args.who in
    let region = c.args.region in
    let s' : State = record s { journal = c.did.new.journal } in
    let found : c.occupant.result ≡ occupant w region = c.occupant.ensures ∙ ap (λ os. slice_index_or os region None) k.seated.placed.occupants in
    let other = λ (own : occupant w region ≡ Some who). (let yes = eq-eqb who who refl in let no : false ≡ true = sym c.if-eq.false ∙ c.eq.ensures ∙ ap (λ (o : Option ℕ). option_eq eqb o (Some who)) (found ∙ own) ∙ yes in let f : ⊥ = cc in f) in
    let same : left w who region (occupant w region) ≡ w = left_other w who region (occupant w region) other in
    plain_serves s s' who c.args.ticks (Leave region) Done c.args.ready c.requires (record { who = search rules; ticks = search rules; answer = tt }) (refl, refl) (omega arith)
    (record {
      processes = ap (λ (x : World). x.processes) same;
      phases = ap (λ (x : World). x.phases) same;
      occupants = ap (λ (x : World). x.occupants) same;
      held = ap (λ (x : World). x.held) same;
      facts = refl;
      widest = refl;
      ready = refl;
      seats = refl;
      taken = refl;
      events = c.did.ensures.events;
      plain = refl;
    })
    (subst (λ (x : World). Rests s.facts x s') (sym same) (rests_same s.facts w w s s' refl (record { processes = refl; stored = refl; pending = refl; sends = refl; arguments = refl; queues = refl; store = k.rests.store; locations = refl; input = k.rests.input; read = k.rests.read; taken = refl; argued = refl }) k.rests))
