-- Who waits at each place, and what is listed of each, as one begins to wait and as one goes.
use Rattle.std.proofs.Common.{◌≡◌, ℕ, ◌+◌, List, length, Bool, true, false, refl, sym, ap, ◌∙◌, subst, inl, inr, arith, Some, None, Option, slice_get}
use Rattle.std.specs.Prelude.{if◌then◌else◌, ◌==◌, is_some, nat_eq}
use Rattle.std.specs.Map.{lookup}
use Rattle.std.specs.Option.{option_and_then, option_map}
use Rattle.std.proofs.lemmas.Bool.{cases_Bool, eqb-true}
use Rattle.std.proofs.lemmas.Option.{same_Some, slice_get_within}
use Rattle.kernel_base.specs.declared.request.Alternative.{Alternative}
use Rattle.world_model.specs.Lists.{number_for}
use Rattle.kernel_lists.specs.Once.{AreOnce, entry_of, others}
use Rattle.kernel_lists.proofs.Entries.{entry_gone, entry_kept, once_others, others_all}
use Rattle.wait_queues.specs.declared.waiters.Waiter.{Waiter}
use Rattle.wait_queues.specs.Waiting.{AreInOrder, AreOrdered, AreTied, IsNowhere, Joins, Leaves, joined, left, waiter_of}
use Rattle.wait_queues.proofs.Placed.{entry_placed, length_others, length_placed, others_order, placed_once, placed_order, some_at}

-- one that waits so
abbrev pub waiter : ℕ → ℕ → ℕ → Waiter
waiter who priority number = record { who = who; number = number; priority = priority }

-- where a queue stood before
was_there : (old new : List (List Waiter)) (place : ℕ) (ws : List Waiter) → length new ≡ length old → slice_get new place ≡ Some ws → (was : List Waiter) × (slice_get old place ≡ Some was)
was_there old new place ws each at = let low = slice_get_within new place ws at in some_at old place (omega (arith, low, each))

-- those in order stay so
order_joined : (who priority : ℕ) (n : Option ℕ) (ws : List Waiter) → entry_of waiter_of ws who ≡ None → AreInOrder ws × AreOnce waiter_of ws → AreInOrder (joined who priority n ws) × AreOnce waiter_of (joined who priority n ws)
order_joined who priority None ws none h = h
order_joined who priority (Some n) ws none h = (placed_order (waiter who priority n) ws h.0, placed_once (waiter who priority n) ws none h.1)

order_left : (who : ℕ) (listed : Bool) (ws : List Waiter) → AreInOrder ws × AreOnce waiter_of ws → AreInOrder (left who listed ws) × AreOnce waiter_of (left who listed ws)
order_left who true ws h = (others_order ws who h.0, once_others waiter_of ws who h.1)
order_left who false ws h = h

abbrev pub IsFine : List Waiter → Type 0
IsFine ws = AreInOrder ws × AreOnce waiter_of ws

pub ordered_join : (who priority : ℕ) (things : List Alternative) (old new : List (List Waiter)) → IsNowhere old who → Joins who priority things old new → AreOrdered old → AreOrdered new
ordered_join who priority things old new nowhere h order place ws at =
    let was = was_there old new place ws h.each at in
    let is = same_Some _ ws (sym (h.at place was.0 was.1) ∙ at) in
    subst IsFine is (order_joined who priority (number_for things place) was.0 (nowhere place was.0 was.1) (order place was.0 was.1))

pub ordered_leave : (who : ℕ) (things : List Alternative) (old new : List (List Waiter)) → Leaves who things old new → AreOrdered old → AreOrdered new
ordered_leave who things old new h order place ws at =
    let was = was_there old new place ws h.each at in
    let is = same_Some _ ws (sym (h.at place was.0 was.1) ∙ at) in
    subst IsFine is (order_left who (is_some (number_for things place)) was.0 (order place was.0 was.1))

-- how many wait at a place
pub length_joined : (who priority : ℕ) (n : Option ℕ) (ws : List Waiter) → length (joined who priority n ws) ≡ length ws + (if is_some n then 1 else 0)
length_joined who priority None ws = omega arith
length_joined who priority (Some n) ws = length_placed (waiter who priority n) ws

entry_joined : (who priority : ℕ) (n : Option ℕ) (ws : List Waiter) (other : ℕ) → entry_of waiter_of ws who ≡ None → entry_of waiter_of (joined who priority n ws) other ≡ (if who == other then option_map (waiter who priority) n else entry_of waiter_of ws other)
entry_joined who priority (Some n) ws other none = entry_placed (waiter who priority n) ws other none
entry_joined who priority None ws other none = elim (cases_Bool (who == other)) [
  | inl here ↦ (let own : who ≡ other = eqb-true who other here in rw here (ap (entry_of waiter_of ws) (sym own) ∙ none))
  | inr apart ↦ rw apart refl
]

gone : (who : ℕ) (listed : Bool) (ws : List Waiter) → (listed ≡ false → entry_of waiter_of ws who ≡ None) → entry_of waiter_of (left who listed ws) who ≡ None
gone who true ws none = entry_gone waiter_of ws who
gone who false ws none = none refl

kept : (who : ℕ) (listed : Bool) (ws : List Waiter) (other : ℕ) → (who == other) ≡ false → entry_of waiter_of (left who listed ws) other ≡ entry_of waiter_of ws other
kept who true ws other apart = entry_kept waiter_of ws who other apart
kept who false ws other apart = refl

entry_left : (who : ℕ) (listed : Bool) (ws : List Waiter) (other : ℕ) → (listed ≡ false → entry_of waiter_of ws who ≡ None) → entry_of waiter_of (left who listed ws) other ≡ (if who == other then None else entry_of waiter_of ws other)
entry_left who listed ws other none = elim (cases_Bool (who == other)) [
  | inl here ↦ (let own : who ≡ other = eqb-true who other here in rw here (ap (entry_of waiter_of (left who listed ws)) (sym own) ∙ gone who listed ws none))
  | inr apart ↦ rw apart (kept who listed ws other apart)
]

-- one that isn't listed at a place isn't missed there
left_all : (who : ℕ) (listed : Bool) (ws : List Waiter) → (listed ≡ false → entry_of waiter_of ws who ≡ None) → left who listed ws ≡ others waiter_of ws who
left_all who true ws none = refl
left_all who false ws none = sym (others_all waiter_of ws who (none refl))

no_number : (who priority : ℕ) (n : Option ℕ) → is_some n ≡ false → option_map (waiter who priority) n ≡ None
no_number who priority None none = refl
no_number who priority (Some n) none = absurd (let f : ⊥ = cc in f)

-- how many wait at a place once one left that waited there by this number
pub left_length : (who priority : ℕ) (n : Option ℕ) (ws : List Waiter) → AreOnce waiter_of ws → entry_of waiter_of ws who ≡ option_map (waiter who priority) n → length (others waiter_of ws who) + (if is_some n then 1 else 0) ≡ length ws
left_length who priority None ws once found = let e = ap length (others_all waiter_of ws who found) in omega (arith, e)
left_length who priority (Some n) ws once found = length_others ws who (waiter who priority n) once found

module _ {X : Type 0} (waits : ℕ → ℕ → X → Option Waiter) where
  -- one of whom nothing is listed waits nowhere
  pub nowhere : (listed : List (ℕ × X)) (waiting : List (List Waiter)) (who : ℕ) → AreTied waits listed waiting → lookup (nat_eq who) listed ≡ None → IsNowhere waiting who
  nowhere listed waiting who tied none place ws at = tied place ws at who ∙ ap (option_and_then (waits place who)) none

  -- what is told of one that is listed so
  abbrev pub IsListedAs : ℕ → ℕ → List Alternative → X → Type 0
  IsListedAs who priority things x = (place : ℕ) → waits place who x ≡ option_map (waiter who priority) (number_for things place)

  told_joined : (who priority place other : ℕ) (things : List Alternative) (x : X) (before after : Option X) (entry : Option Waiter) → IsListedAs who priority things x → entry ≡ option_and_then (waits place other) before → after ≡ (if who == other then Some x else before)
      → (if who == other then option_map (waiter who priority) (number_for things place) else entry) ≡ option_and_then (waits place other) after
  told_joined who priority place other things x before after entry tells e is = elim (cases_Bool (who == other)) [
    | inl here ↦ (let own : who ≡ other = eqb-true who other here in
        let now : after ≡ Some x = is ∙ rw here refl in
        rw here (sym (tells place) ∙ ap (λ p. waits place p x) own ∙ ap (option_and_then (waits place other)) (sym now)))
    | inr apart ↦ (let now : after ≡ before = is ∙ rw apart refl in rw apart (e ∙ ap (option_and_then (waits place other)) (sym now)))
  ]

  pub tied_join : (listed listed' : List (ℕ × X)) (old new : List (List Waiter)) (who priority : ℕ) (things : List Alternative) (x : X) → AreTied waits listed old → lookup (nat_eq who) listed ≡ None → IsListedAs who priority things x
      → ((q : ℕ) → lookup (nat_eq q) listed' ≡ (if who == q then Some x else lookup (nat_eq q) listed)) → Joins who priority things old new → AreTied waits listed' new
  tied_join listed listed' old new who priority things x tied none tells updates h place ws at other =
      let was = was_there old new place ws h.each at in
      let is = same_Some _ ws (sym (h.at place was.0 was.1) ∙ at) in
      ap (λ (l : List Waiter). entry_of waiter_of l other) (sym is) ∙ entry_joined who priority (number_for things place) was.0 other (nowhere listed old who tied none place was.0 was.1)
      ∙ told_joined who priority place other things x (lookup (nat_eq other) listed) (lookup (nat_eq other) listed') (entry_of waiter_of was.0 other) tells (tied place was.0 was.1 other) (updates other)

  told_left : (who place other : ℕ) (before after : Option X) (entry : Option Waiter) → entry ≡ option_and_then (waits place other) before → after ≡ (if who == other then None else before) → (if who == other then None else entry) ≡ option_and_then (waits place other) after
  told_left who place other before after entry e is = elim (cases_Bool (who == other)) [
    | inl here ↦ (let now : after ≡ None = is ∙ rw here refl in rw here (ap (option_and_then (waits place other)) (sym now)))
    | inr apart ↦ (let now : after ≡ before = is ∙ rw apart refl in rw apart (e ∙ ap (option_and_then (waits place other)) (sym now)))
  ]

  -- one that isn't listed at a place doesn't wait there
  unlisted : (listed : List (ℕ × X)) (old : List (List Waiter)) (who priority : ℕ) (things : List Alternative) (x : X) (place : ℕ) (ws : List Waiter) → AreTied waits listed old → lookup (nat_eq who) listed ≡ Some x → IsListedAs who priority things x → slice_get old place ≡ Some ws
      → is_some (number_for things place) ≡ false → entry_of waiter_of ws who ≡ None
  unlisted listed old who priority things x place ws tied some tells at none = tied place ws at who ∙ ap (option_and_then (waits place who)) some ∙ tells place ∙ no_number who priority (number_for things place) none

  pub tied_leave : (listed listed' : List (ℕ × X)) (old new : List (List Waiter)) (who priority : ℕ) (things : List Alternative) (x : X) → AreTied waits listed old → lookup (nat_eq who) listed ≡ Some x → IsListedAs who priority things x
      → ((q : ℕ) → lookup (nat_eq q) listed' ≡ (if who == q then None else lookup (nat_eq q) listed)) → Leaves who things old new → AreTied waits listed' new
  tied_leave listed listed' old new who priority things x tied some tells updates h place ws at other =
      let was = was_there old new place ws h.each at in
      let is = same_Some _ ws (sym (h.at place was.0 was.1) ∙ at) in
      ap (λ (l : List Waiter). entry_of waiter_of l other) (sym is) ∙ entry_left who (is_some (number_for things place)) was.0 other (unlisted listed old who priority things x place was.0 tied some tells was.1)
      ∙ told_left who place other (lookup (nat_eq other) listed) (lookup (nat_eq other) listed') (entry_of waiter_of was.0 other) (tied place was.0 was.1 other) (updates other)

  -- without it each queue is as before
  pub out_of_all : (listed : List (ℕ × X)) (old new : List (List Waiter)) (who priority : ℕ) (things : List Alternative) (x : X) → AreTied waits listed old → lookup (nat_eq who) listed ≡ Some x → IsListedAs who priority things x → Leaves who things old new
      → (place : ℕ) (ws : List Waiter) → slice_get old place ≡ Some ws → slice_get new place ≡ Some (others waiter_of ws who)
  out_of_all listed old new who priority things x tied some tells h place ws at =
      h.at place ws at ∙ ap Some (left_all who (is_some (number_for things place)) ws (unlisted listed old who priority things x place ws tied some tells at))
