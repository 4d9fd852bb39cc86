-- The events of an instance in a journal, and what they tell.
use Rattle.std.proofs.Common.{◌≡◌, ℕ, ◌+◌, ◌<◌, List, [], ◌∷◌, ◌++◌, length, drop, get_or, Bool, true, false, refl, sym, ap, ◌∙◌, inl, inr}
use Rattle.std.specs.Prelude.{if◌then◌else◌, ◌==◌}
use Rattle.std.proofs.lemmas.Bool.{cases_Bool}
use Rattle.std.proofs.lemmas.List.{drop_more}
use Rattle.kernel_base.specs.declared.answer.Answer.{Answer}
use Rattle.kernel_base.specs.declared.event.Event.{Event}
use Rattle.kernel_base.specs.declared.event.Event.TheVariants.{Did, Waits, Goes, Runs}
use Rattle.world_model.specs.Session.{Item}
use Rattle.world_model.specs.Journal.{items_by, line_of, answers_by, answers_of}
use Rattle.worker_pool.specs.Gather.{who_of, events_of}

-- from a place of the journal on
pub own_event : (who : ℕ) (journal : List Event) (i : ℕ) (e : Event) → i < length journal → e ≡ get_or journal i e → (who_of e == who) ≡ true → events_of who (drop i journal) ≡ e ∷ events_of who (drop (i + 1) journal)
own_event who journal i e low is own =
    ap (events_of who) (drop_more journal i e low ∙ ap (λ x. x ∷ drop (i + 1) journal) (sym is))
    ∙ ap (λ (b : Bool). if b then e ∷ events_of who (drop (i + 1) journal) else events_of who (drop (i + 1) journal)) own

pub other_event : (who : ℕ) (journal : List Event) (i : ℕ) (e : Event) → i < length journal → e ≡ get_or journal i e → (who_of e == who) ≡ false → events_of who (drop i journal) ≡ events_of who (drop (i + 1) journal)
other_event who journal i e low is other =
    ap (events_of who) (drop_more journal i e low ∙ ap (λ x. x ∷ drop (i + 1) journal) (sym is))
    ∙ ap (λ (b : Bool). if b then e ∷ events_of who (drop (i + 1) journal) else events_of who (drop (i + 1) journal)) other

-- another's event tells nothing of an instance
pub quiet_items : (i : ℕ) (e : Event) → (who_of e == i) ≡ false → items_by i e ≡ []
quiet_items i (Did who ticks request answer refill) other = rw other refl
quiet_items i (Waits who ticks request) other = rw other refl
quiet_items i (Goes who answer) other = refl
quiet_items i (Runs who ticks) other = rw other refl

pub quiet_answers : (i : ℕ) (e : Event) → (who_of e == i) ≡ false → answers_by i e ≡ []
quiet_answers i (Did who ticks request answer refill) other = rw other refl
quiet_answers i (Waits who ticks request) other = refl
quiet_answers i (Goes who answer) other = rw other refl
quiet_answers i (Runs who ticks) other = refl

-- what an instance did and was answered stands in its own events
pub own_line : (i : ℕ) (events : List Event) → line_of i (events_of i events) ≡ line_of i events
own_line i [] = refl
own_line i (e ∷ events) = elim (cases_Bool (who_of e == i)) [
  | inl own ↦ (
      let here : events_of i (e ∷ events) ≡ e ∷ events_of i events = rw own refl in
      ap (line_of i) here ∙ ap (λ (t : List Item). items_by i e ++ t) (own_line i events))
  | inr other ↦ (
      let here : events_of i (e ∷ events) ≡ events_of i events = rw other refl in
      ap (line_of i) here ∙ (own_line i events ∙ sym (ap (λ (t : List Item). t ++ line_of i events) (quiet_items i e other))))
]

pub own_answers : (i : ℕ) (events : List Event) → answers_of i (events_of i events) ≡ answers_of i events
own_answers i [] = refl
own_answers i (e ∷ events) = elim (cases_Bool (who_of e == i)) [
  | inl own ↦ (
      let here : events_of i (e ∷ events) ≡ e ∷ events_of i events = rw own refl in
      ap (answers_of i) here ∙ ap (λ (t : List Answer). answers_by i e ++ t) (own_answers i events))
  | inr other ↦ (
      let here : events_of i (e ∷ events) ≡ events_of i events = rw other refl in
      ap (answers_of i) here ∙ (own_answers i events ∙ sym (ap (λ (t : List Answer). t ++ answers_of i events) (quiet_answers i e other))))
]
