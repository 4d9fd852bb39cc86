use Rattle.std.proofs.Common.{◌≤◌, refl, ap, sym, ◌∙◌, ◌≡◌, ◌++◌, ◌∷◌, [], List, ℤ, rules, subst}
use Rattle.std.specs.Prelude.{None}
use Rattle.kernel_base.specs.declared.answer.Answer.TheVariants.{Value}
use Rattle.kernel_base.specs.declared.request.Request.{Request}
use Rattle.kernel_base.specs.declared.request.Request.TheVariants.{Read}
use Rattle.kernel_base.specs.declared.event.Event.TheVariants.{Did}
use Rattle.world_model.specs.Ranges.{IsAnswerInRange}
use Rattle.shared_store.specs.Places.{read_at}
use Rattle.kernel_steps.specs.Kept.{world_in, width_of}
use Rattle.kernel_steps.proofs.Served.{rests_same}
use Rattle.kernel_steps.proofs.Plain.{lies_in, plain_serves}
use Rattle.kernel_steps.proofs.simple.read.Goals as goal

pub read-requires-clause-lies : goal.read-requires-clause-lies
read-requires-clause-lies c = lies_in c.args.s.now c.args.place c.requires.kept c.requires.may.fits

pub returns : goal.returns
returns c =
    let s = c.args.s.now in
    let w = world_in s in
    let k = c.requires.kept in
    let handed = c.twin_scalars-handed.result in
    let told : handed ≡ c.read.new.into.items = c.twin_scalars-handed.ensures ∙ c.deref.ensures.value in
    let is : handed ≡ read_at w.store c.args.place = told ∙ c.read.ensures.scalars ∙ ap (λ (l : List ℤ). l ++ read_at s.store.scalars c.args.place) c.requires.room.first_empty ∙ ap (λ (st : List (List ℤ)). read_at st c.args.place) k.rests.store.0 in
    plain_serves s _ c.args.who c.args.ticks (Read c.args.place) (Value handed) c.args.ready c.requires (record { who = search rules; ticks = search rules; answer = subst (λ (l : List ℤ). IsAnswerInRange (Value l)) (c.from_vec.ensures ∙ sym told) c.did.ensures.in_range }) (refl, ap Value is) (subst (λ (q : Request). width_of q ≤ s.widest) c.requires.is c.requires.room.width)
    (record { processes = refl; phases = refl; occupants = refl; held = refl; facts = refl; widest = refl; ready = refl; seats = refl; taken = refl; events = c.did.ensures.events ∙ ap (λ (l : List ℤ). s.journal.events ++ Did c.args.who c.args.ticks (Read c.args.place) (Value l) None ∷ []) (c.from_vec.ensures ∙ sym told); plain = refl })
    (rests_same s.facts w _ s _ refl (record { processes = refl; stored = refl; pending = refl; sends = refl; arguments = refl; queues = refl; store = k.rests.store; locations = refl; input = k.rests.input; read = k.rests.read; taken = refl; argued = refl }) k.rests)
