use Rattle.std.proofs.Common.{ℕ, ◌≡◌, ◌≤◌, ◌++◌, ◌∷◌, [], length, drop, refl, ap, sym, ◌∙◌, subst, rules, List, ℤ, Option}
use Rattle.std.specs.Prelude.{None, Ok, Err}
use Rattle.std.specs.declared.result.Result.{Result}
use Rattle.kernel_base.specs.declared.answer.Answer.{Answer}
use Rattle.kernel_base.specs.declared.ends.Exc.{Exc}
use Rattle.kernel_base.specs.declared.event.Event.TheVariants.{Did}
use Rattle.kernel_base.specs.declared.request.Request.{Request}
use Rattle.kernel_base.specs.declared.request.Request.TheVariants.{Get}
use Rattle.world_model.specs.Input.{get_answer, input_behind}
use Rattle.world_model.specs.Ranges.{IsAnswerInRange}
use Rattle.kernel_steps.specs.Kept.{world_in, width_of}
use Rattle.world_check.specs.Numbers.{told_by}
use Rattle.kernel_steps.specs.View.{handed_by}
use Rattle.kernel_steps.proofs.Served.{rests_same}
use Rattle.kernel_steps.proofs.Plain.{plain_serves}
use Rattle.kernel_steps.proofs.simple.get.Goals as goal

-- no instance is told
plain_told : (answers : List (Option Answer)) (who ticks : ℕ) (number : Result ℤ Exc) → handed_by answers (Did who ticks Get (told_by number) None) ≡ answers
plain_told answers who ticks (Ok number) = refl
plain_told answers who ticks (Err exception) = refl

pub returns : goal.returns
returns c =
    let s = c.args.s.now in
    let w = world_in s in
    let k = c.requires.kept in
    let handed : Answer = c.told-handed.result in
    let told : c.told-noted.result ≡ handed = c.told-noted.ensures ∙ sym c.told-handed.ensures in
    let is : handed ≡ get_answer w.input = c.told-handed.ensures ∙ sym c.next_number-number.ensures ∙ ap get_answer c.rest.ensures in
    let items = s.seats.unfetched.items in
    plain_serves s _ c.args.who c.args.ticks Get handed c.args.ready c.requires
    (record { who = search rules; ticks = search rules; answer = subst IsAnswerInRange told c.did.ensures.in_range })
    (refl, is)
    (subst (λ (q : Request). width_of q ≤ s.widest) c.requires.is c.requires.room.width)
    (record {
      processes = refl;
      phases = refl;
      occupants = refl;
      held = refl;
      facts = refl;
      widest = refl;
      ready = refl;
      seats = refl;
      taken = refl;
      events = c.did.ensures.events ∙ ap (λ (a : Answer). s.journal.events ++ Did c.args.who c.args.ticks Get a None ∷ []) told;
      plain = ap (λ (a : Answer). handed_by items (Did c.args.who c.args.ticks Get a None)) c.told-handed.ensures ∙ plain_told items c.args.who c.args.ticks c.next_number-number.result;
    })
    (rests_same s.facts w _ s _ refl (record {
      processes = refl;
      stored = refl;
      pending = refl;
      sends = refl;
      arguments = refl;
      queues = refl;
      store = k.rests.store;
      locations = refl;
      input = ap (drop c.word_end_from-s.result) (sym c.as_slice.ensures) ∙ c.word_end_from-s.ensures.taken ∙ ap input_behind (ap (drop s.read) c.as_slice.ensures ∙ k.rests.input);
      read = subst (λ (bytes : List ℕ). c.word_end_from-s.result ≤ length bytes) c.as_slice.ensures c.word_end_from-s.ensures.within;
      taken = refl;
      argued = refl;
    }) k.rests)
