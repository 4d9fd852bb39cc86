use Rattle.std.proofs.Common.{ℕ, sym, ap, ◌∙◌, ◌≡◌, ◌++◌, ◌∷◌, [], length, refl, rules, subst}
use Rattle.std.specs.Prelude.{None}
use Rattle.std.proofs.lemmas.List.{length-map}
use Rattle.kernel_base.specs.declared.answer.Answer.TheVariants.{Instance}
use Rattle.kernel_base.specs.declared.event.Event.TheVariants.{Did}
use Rattle.kernel_base.specs.declared.request.Request.{Request}
use Rattle.kernel_base.specs.declared.request.Request.TheVariants.{Start}
use Rattle.world_model.specs.Ranges.{IsAnswerInRange}
use Rattle.kernel_steps.specs.declared.reply.Reply.TheVariants.{Now}
use Rattle.kernel_steps.specs.declared.state.State.{State}
use Rattle.kernel_steps.specs.Kept.{world_in}
use Rattle.kernel_steps.specs.Seated.{kind_of}
use Rattle.kernel_steps.specs.Serving.{Serves}
use Rattle.kernel_steps.proofs.Starting.{start_serves}
use Rattle.kernel_steps.proofs.simple.start_new.Goals as goal

pub returns : goal.returns
returns c =
    let s = c.args.s.now in
    let t : State = record s { journal = c.did.new.journal; seats = c.start-instance.new.seats; arguments = c.push_reserved.new.self } in
    let w = world_in s in
    let start = Start c.args.process c.args.scalars in
    let number : c.start-instance.result ≡ length w.phases = c.start-instance.ensures.number ∙ ap (λ l. length l) c.requires.can.kept.seated.placed.phases ∙ length-map w.phases kind_of in
    subst (λ (n : ℕ). Serves s t c.args.who c.args.ticks start (Now (Instance n))) (sym number)
    (start_serves s t c.args.who c.args.ticks c.args.process c.args.scalars c.args.ready c.requires.can
    (record { who = search rules; ticks = search rules; answer = subst (λ (n : ℕ). IsAnswerInRange (Instance n)) number c.did.ensures.in_range })
    c.requires.room
    (record {
      facts = refl;
      widest = refl;
      ready = refl;
      queues = refl;
      store = refl;
      read = refl;
      taken = refl;
      arguments = c.push_reserved.ensures.items;
      unfetched = c.start-instance.ensures.unfetched;
      seated = c.start-instance.ensures.seated w c.args.scalars c.requires.can.kept.seated;
      events = c.did.ensures.events ∙ ap (λ (q : Request). s.journal.events ++ Did c.args.who c.args.ticks q (Instance c.start-instance.result) None ∷ []) c.requires.can.is ∙ ap (λ (n : ℕ). s.journal.events ++ Did c.args.who c.args.ticks start (Instance n) None ∷ []) number;
    }))
