-- A run before its first event.
use Rattle.std.proofs.Common.{◌≡◌, ℕ, zero, suc, List, [], ◌∷◌, length, refl, sym, ap, ◌∙◌, subst, arith, None, Option, slice_get}
use Rattle.kernel_base.specs.declared.facts.Facts.{Facts}
use Rattle.kernel_base.specs.declared.answer.Answer.{Answer}
use Rattle.kernel_base.specs.declared.event.Event.{Event}
use Rattle.kernel_base.specs.Facts.{IsSound}
use Rattle.world_model.specs.Allowed.{IsRun}
use Rattle.world_model.specs.Journal.{line_of, requests_of}
use Rattle.world_model.specs.World.{world_of}
use Rattle.code_types.specs.declared.code.Code.{Code}
use Rattle.code_types.specs.Agreement.{Agrees}
use Rattle.code_safety.proofs.Talking.{talk_exists}
use Rattle.kernel_steps.specs.View.{View, Opens, unfetched_of}
use Rattle.serial_run.specs.declared.runner.Runner.{Runner}
use Rattle.serial_run.specs.Coming.{EachFrontFollows, WasOpen}
use Rattle.serial_run.specs.Standing.{AllStand}
use Rattle.serial_run.proofs.Fronts.{follow_none}
use Rattle.serial_run.proofs.Open.{open_none}

none_waits : (i : ℕ) → unfetched_of (None ∷ None ∷ []) i ≡ None
none_waits zero = refl
none_waits (suc zero) = refl
none_waits (suc (suc i)) = refl

-- nobody was taken, and nothing was done
pub opens_standing : (code : Code) (agrees : Agrees code) (facts : Facts) (v : View) (runners : List Runner) → IsSound facts → Opens facts v → runners ≡ [] → AllStand code v runners
opens_standing code agrees facts v runners sound o none = record {
  sound = subst IsSound (sym o.facts_are) sound;
  run = subst (λ (xs : List Event). IsRun v.facts xs) (sym o.events) tt;
  count = ap length none ∙ sym o.taken;
  instances = λ k r at. absurd (let both = sym (ap (λ (rs : List Runner). slice_get rs k) none) ∙ at in let f : ⊥ = cc in f);
  stand = λ k r at. absurd (let both = sym (ap (λ (rs : List Runner). slice_get rs k) none) ∙ at in let f : ⊥ = cc in f);
  fresh = λ i high. record {
    line = ap (line_of i) o.events;
    requests = ap (requests_of i) o.events;
    unfetched = ap (λ (xs : List (Option Answer)). unfetched_of xs i) o.unfetched ∙ none_waits i;
  };
  places = ap length o.unfetched ∙ sym (ap (λ (xs : List Event). length (world_of v.facts xs).processes) o.events);
  there = let t = o.taken in let u = ap length o.unfetched in omega (arith, t, u);
  first = λ zero_taken. o.events;
  was_open = subst (λ (xs : List Event). WasOpen v.facts xs) (sym o.events) (open_none v.facts);
  follow = subst (λ (xs : List Event). EachFrontFollows code v.facts xs) (sym o.events) (follow_none code v.facts (talk_exists code agrees));
}
