-- Where an instance had its last answer, and what it asked last.
use Rattle.std.proofs.Common.{◌≡◌, ◌⊎◌, ℕ, zero, suc, ◌+◌, ◌<◌, List, [], ◌∷◌, ◌++◌, length, refl, sym, ap, ◌∙◌, subst, inl, inr, arith, append_assoc, Some, slice_get}
use Rattle.std.specs.Prelude.{◌==◌}
use Rattle.std.proofs.lemmas.Bool.{cases_Bool, eqb-true}
use Rattle.std.proofs.lemmas.List.{length_push}
use Rattle.std.proofs.lemmas.Option.{slice_get_within}
use Rattle.kernel_base.proofs.Layers.{slice_get-append_right}
use Rattle.kernel_base.specs.declared.facts.Facts.{Facts}
use Rattle.kernel_base.specs.declared.request.Request.{Request}
use Rattle.kernel_base.specs.declared.answer.Answer.{Answer}
use Rattle.kernel_base.specs.declared.event.Event.{Event}
use Rattle.kernel_base.specs.declared.event.Event.TheVariants.{Did, Waits, Goes, Runs}
use Rattle.world_model.specs.declared.world.Phase.TheVariants.{Active, Chosen}
use Rattle.world_model.specs.declared.world.World.{World}
use Rattle.world_model.specs.Session.{Item, Tick, Ask}
use Rattle.world_model.specs.Allowed.{IsPossible}
use Rattle.world_model.specs.Journal.{ticks_of, items_by, line_of, requests_by, requests_of, answers_by, answers_of}
use Rattle.serial_run.specs.Coming.{last_item}
use Rattle.serial_run.proofs.Phases.{last_pushed}

-- the event that gave an instance its last answer
pub record LastAnswer (i : ℕ) (events : List Event) (given : List Answer) (answer : Answer) : Type 0 where
  pub before : List Event
  pub event : Event
  pub behind : List Event
  pub parts : events ≡ before ++ event ∷ behind
  pub others : answers_of i before ≡ given
  pub gives : answers_by i event ≡ answer ∷ []

-- an event gives an instance one answer at most
one_answer : (i : ℕ) (event : Event) → (answers_by i event ≡ []) ⊎ ((answer : Answer) × (answers_by i event ≡ answer ∷ []))
one_answer i (Did who ticks request answer refill) = elim (cases_Bool (who == i)) [
  | inl is ↦ inr (answer, rw is refl)
  | inr fails ↦ inl (rw fails refl)
]
one_answer i (Waits who ticks request) = inl refl
one_answer i (Goes who answer) = elim (cases_Bool (who == i)) [
  | inl is ↦ inr (answer, rw is refl)
  | inr fails ↦ inl (rw fails refl)
]
one_answer i (Runs who ticks) = inl refl

behind_one : (i : ℕ) (event : Event) (events : List Event) (first answer : Answer) → answers_by i event ≡ first ∷ []
    → ((given : List Answer) → answers_of i events ≡ given ++ answer ∷ [] → LastAnswer i events given answer)
    → (given : List Answer) → first ∷ answers_of i events ≡ given ++ answer ∷ [] → LastAnswer i (event ∷ events) given answer
behind_one i event events first answer one found [] is =
    let same : first ≡ answer = cc in
    record { before = []; event = event; behind = events; parts = refl; others = refl; gives = one ∙ ap (λ (x : Answer). x ∷ []) same }
behind_one i event events first answer one found (g ∷ given) is =
    let same : first ≡ g = cc in
    let rest : answers_of i events ≡ given ++ answer ∷ [] = cc in
    let last = found given rest in
    record {
      before = event ∷ last.before;
      event = last.event;
      behind = last.behind;
      parts = ap (λ (xs : List Event). event ∷ xs) last.parts;
      others = ap (λ (xs : List Answer). xs ++ answers_of i last.before) one ∙ (ap (λ (x : Answer). x ∷ answers_of i last.before) same ∙ ap (λ (xs : List Answer). g ∷ xs) last.others);
      gives = last.gives;
    }

behind_none : (i : ℕ) (event : Event) (events : List Event) (given : List Answer) (answer : Answer) → answers_by i event ≡ [] → LastAnswer i events given answer → LastAnswer i (event ∷ events) given answer
behind_none i event events given answer none last = record {
  before = event ∷ last.before;
  event = last.event;
  behind = last.behind;
  parts = ap (λ (xs : List Event). event ∷ xs) last.parts;
  others = ap (λ (xs : List Answer). xs ++ answers_of i last.before) none ∙ last.others;
  gives = last.gives;
}

not_nothing : (given : List Answer) (answer : Answer) → [] ≡ given ++ answer ∷ [] → ⊥
not_nothing [] answer is = let f : ⊥ = cc in f
not_nothing (g ∷ given) answer is = let f : ⊥ = cc in f

pub last_answer : (i : ℕ) (events : List Event) (given : List Answer) (answer : Answer) → answers_of i events ≡ given ++ answer ∷ [] → LastAnswer i events given answer
last_answer i [] given answer is = absurd (not_nothing given answer is)
last_answer i (event ∷ events) given answer is = elim (one_answer i event) [
  | inl none ↦ behind_none i event events given answer none (last_answer i events given answer (sym (ap (λ (xs : List Answer). xs ++ answers_of i events) none) ∙ is))
  | inr (first, one) ↦ behind_one i event events first answer one (λ rest same. last_answer i events rest answer same) given (sym (ap (λ (xs : List Answer). xs ++ answers_of i events) one) ∙ is)
]

-- who is answered was made
pub answered_made : (facts : Facts) (w : World) (event : Event) (i : ℕ) (answer : Answer) → IsPossible facts w event → answers_by i event ≡ answer ∷ [] → i < length w.phases
answered_made facts w (Did who ticks request given refill) i answer may gives = elim (cases_Bool (who == i)) [
  | inl is ↦ subst (λ (k : ℕ). k < length w.phases) (eqb-true who i is) (slice_get_within w.phases who Active may.0.active)
  | inr fails ↦ absurd (let none : answers_by i (Did who ticks request given refill) ≡ [] = rw fails refl in let both : [] ≡ answer ∷ [] = sym none ∙ gives in let f : ⊥ = cc in f)
]
answered_made facts w (Waits who ticks request) i answer may gives = absurd (let f : ⊥ = cc in f)
answered_made facts w (Goes who given) i answer may gives = elim (cases_Bool (who == i)) [
  | inl is ↦ subst (λ (k : ℕ). k < length w.phases) (eqb-true who i is) (slice_get_within w.phases who (Chosen given may.back) may.chosen)
  | inr fails ↦ absurd (let none : answers_by i (Goes who given) ≡ [] = rw fails refl in let both : [] ≡ answer ∷ [] = sym none ∙ gives in let f : ⊥ = cc in f)
]
answered_made facts w (Runs who ticks) i answer may gives = absurd (let f : ⊥ = cc in f)

-- the requests of a trace
abbrev asks_in : List Item → List Request
asks_in [] = []
asks_in (Tick ∷ items) = asks_in items
asks_in (Ask request ∷ items) = request ∷ asks_in items

asks_both : (front rest : List Item) → asks_in (front ++ rest) ≡ asks_in front ++ asks_in rest
asks_both [] rest = refl
asks_both (Tick ∷ front) rest = asks_both front rest
asks_both (Ask request ∷ front) rest = ap (λ (xs : List Request). request ∷ xs) (asks_both front rest)

asks_behind_ticks : (count : ℕ) (items : List Item) → asks_in (ticks_of count ++ items) ≡ asks_in items
asks_behind_ticks zero items = refl
asks_behind_ticks (suc count) items = asks_behind_ticks count items

ticks_only : (count : ℕ) → asks_in (ticks_of count) ≡ []
ticks_only zero = refl
ticks_only (suc count) = ticks_only count

asks_by : (i : ℕ) (event : Event) → requests_by i event ≡ asks_in (items_by i event)
asks_by i (Did who ticks request answer refill) = elim (cases_Bool (who == i)) [
  | inl is ↦ rw is (sym (asks_behind_ticks ticks (Ask request ∷ [])))
  | inr fails ↦ rw fails refl
]
asks_by i (Waits who ticks request) = elim (cases_Bool (who == i)) [
  | inl is ↦ rw is (sym (asks_behind_ticks ticks (Ask request ∷ [])))
  | inr fails ↦ rw fails refl
]
asks_by i (Goes who answer) = refl
asks_by i (Runs who ticks) = elim (cases_Bool (who == i)) [
  | inl is ↦ rw is (sym (ticks_only ticks))
  | inr fails ↦ rw fails refl
]

asks_of : (i : ℕ) (events : List Event) → requests_of i events ≡ asks_in (line_of i events)
asks_of i [] = refl
asks_of i (event ∷ events) = ap (λ (xs : List Request). xs ++ requests_of i events) (asks_by i event)
    ∙ (ap (λ (xs : List Request). asks_in (items_by i event) ++ xs) (asks_of i events) ∙ sym (asks_both (items_by i event) (line_of i events)))

parted_last : (line : List Item) (item : Item) → last_item line ≡ Some item → (front : List Item) × (line ≡ front ++ item ∷ [])
parted_last [] item is = absurd (let f : ⊥ = cc in f)
parted_last (a ∷ []) item is = ([], let e : a ≡ item = cc in ap (λ (x : Item). x ∷ []) e)
parted_last (a ∷ b ∷ line) item is = let rest = parted_last (b ∷ line) item is in (a ∷ rest.0, ap (λ (xs : List Item). a ∷ xs) rest.1)

-- what an instance asked last stands last among its requests
pub last_request : (i : ℕ) (events : List Event) (request : Request) (n : ℕ) → last_item (line_of i events) ≡ Some (Ask request) → length (requests_of i events) ≡ n + 1 → slice_get (requests_of i events) n ≡ Some request
last_request i events request n last count =
    let cut = parted_last (line_of i events) (Ask request) last in
    let all : requests_of i events ≡ asks_in cut.0 ++ request ∷ [] = asks_of i events ∙ (ap asks_in cut.1 ∙ asks_both cut.0 (Ask request ∷ [])) in
    let long = ap length all in
    let more = length_push (asks_in cut.0) request in
    ap (λ (xs : List Request). slice_get xs n) all ∙ slice_get-append_right (asks_in cut.0) (request ∷ []) n 0 request (omega (arith, long, more, count)) refl

last_tick : (line : List Item) (count : ℕ) → last_item (line ++ ticks_of (suc count)) ≡ Some Tick
last_tick line zero = last_pushed line Tick
last_tick line (suc count) = ap last_item (sym (append_assoc line (Tick ∷ []) (ticks_of (suc count)))) ∙ last_tick (line ++ Tick ∷ []) count

ticks_both : (a b : ℕ) → ticks_of a ++ ticks_of b ≡ ticks_of (a + b)
ticks_both zero b = ap ticks_of (let e : b ≡ 0 + b = omega arith in e)
ticks_both (suc a) b = ap (λ (t : List Item). Tick ∷ t) (ticks_both a b) ∙ ap ticks_of (let e : suc (a + b) ≡ suc a + b = omega arith in e)

silent_items : (i : ℕ) (event : Event) → requests_by i event ≡ [] → (count : ℕ) × (items_by i event ≡ ticks_of count)
silent_items i (Did who ticks request answer refill) none = elim (cases_Bool (who == i)) [
  | inl is ↦ absurd (let one : requests_by i (Did who ticks request answer refill) ≡ request ∷ [] = rw is refl in let both : request ∷ [] ≡ [] = sym one ∙ none in let f : ⊥ = cc in f)
  | inr fails ↦ (0, rw fails refl)
]
silent_items i (Waits who ticks request) none = elim (cases_Bool (who == i)) [
  | inl is ↦ absurd (let one : requests_by i (Waits who ticks request) ≡ request ∷ [] = rw is refl in let both : request ∷ [] ≡ [] = sym one ∙ none in let f : ⊥ = cc in f)
  | inr fails ↦ (0, rw fails refl)
]
silent_items i (Goes who answer) none = (0, refl)
silent_items i (Runs who ticks) none = elim (cases_Bool (who == i)) [
  | inl is ↦ (ticks, rw is refl)
  | inr fails ↦ (0, rw fails refl)
]

none_first : (front rest : List Request) → front ++ rest ≡ [] → (front ≡ []) × (rest ≡ [])
none_first [] rest is = (refl, is)
none_first (r ∷ front) rest is = absurd (let f : ⊥ = cc in f)

-- one that asked nothing made ticks alone
silent_line : (i : ℕ) (events : List Event) → requests_of i events ≡ [] → (count : ℕ) × (line_of i events ≡ ticks_of count)
silent_line i [] none = (0, refl)
silent_line i (event ∷ events) none =
    let both = none_first (requests_by i event) (requests_of i events) none in
    let one = silent_items i event both.0 in
    let rest = silent_line i events both.1 in
    (one.0 + rest.0, ap (λ (t : List Item). t ++ line_of i events) one.1 ∙ (ap (λ (t : List Item). ticks_of one.0 ++ t) rest.1 ∙ ticks_both one.0 rest.0))

-- behind what it asked last, one that asked nothing did nothing
pub silent_behind : (i : ℕ) (line : List Item) (events : List Event) (request : Request) → requests_of i events ≡ [] → last_item (line ++ line_of i events) ≡ Some (Ask request) → line_of i events ≡ []
silent_behind i line events request none last = by_count (silent_line i events none).0 (silent_line i events none).1
  where
    by_count : (count : ℕ) → line_of i events ≡ ticks_of count → line_of i events ≡ []
    by_count zero is = is
    by_count (suc count) is = absurd (
        let tick : last_item (line ++ line_of i events) ≡ Some Tick = ap (λ (t : List Item). last_item (line ++ t)) is ∙ last_tick line count in
        let both : Some Tick ≡ Some (Ask request) = sym tick ∙ last in
        let f : ⊥ = cc in f)
