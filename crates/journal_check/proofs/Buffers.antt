-- Offers and their priorities, and what may be received from a buffer by its length.
use Rattle.std.proofs.Common.{◌≡◌, ℕ, zero, suc, ◌≤◌, ◌<◌, List, [], ◌∷◌, length, refl, sym, ap, ◌∙◌, arith, Some, None, Bool, true, false, inl, inr}
use Rattle.std.specs.Prelude.{slice_get, if◌then◌else◌, ◌==◌}
use Rattle.std.specs.declared.option.Option.{Option}
use Rattle.std.specs.Option.{option_and_then, option_map_or}
use Rattle.std.proofs.lemmas.Bool.{cases_lt, eqb-true, eq-eqb}
use Rattle.kernel_base.specs.declared.request.Request.TheVariants.{SendBuffer}
use Rattle.world_model.specs.declared.world.Phase.{Phase}
use Rattle.world_model.specs.declared.world.Phase.TheVariants.{Waiting}
use Rattle.world_model.specs.declared.world.StoredValue.{StoredValue}
use Rattle.world_model.specs.declared.world.World.{World}
use Rattle.world_model.specs.declared.waiting.Offer.{Offer}
use Rattle.world_model.specs.Waiting.{phase_of, offer, offer_in}
use Rattle.world_model.specs.World.{stored_in}
use Rattle.world_model.specs.Allowed.{IsOffered, IsStored, IsCandidateOf, NobodySends, IsRefillBy}
use Rattle.world_check.proofs.Waiters.{no_offer_behind, nothing_behind}
use Rattle.journal_check.specs.Receiving.{priority_to, offered_priority, NoOfferAbove, NoStoredAbove, NothingStored, Offers}

if_some : (mine : Bool) (x y : ℕ) → (if mine then Some x else None) ≡ Some y → (mine ≡ true) × (x ≡ y)
if_some true x y is = (refl, cc)
if_some false x y is = absurd (let f : ⊥ = cc in f)

sender_in : (p : ℕ) (phase : Phase) (o : Offer) → offer_in p phase ≡ Some o → o.value.sender ≡ p
sender_in p (Waiting (SendBuffer buffer scalars priority) (Some send) back) o is =
    let sender = (λ (made : Option Offer). option_map_or (λ (x : Offer). x.value.sender) made p) in
    sym (ap sender is)
sender_in p phase o is = absurd (let f : ⊥ = cc in f)

sender_at : (p : ℕ) (found : Option Phase) (o : Offer) → option_and_then (offer_in p) found ≡ Some o → o.value.sender ≡ p
sender_at p None o is = absurd (let f : ⊥ = cc in f)
sender_at p (Some phase) o is = sender_in p phase o is

-- an offer is made by its own sender
pub offer_sender : (w : World) (p : ℕ) (o : Offer) → offer w p ≡ Some o → o.value.sender ≡ p
offer_sender w p o is = sender_at p (phase_of w p) o is

-- the value whose priority it is
pub record Offered (w : World) (buffer p priority : ℕ) : Type 0 where
  pub value : StoredValue
  pub sender : value.sender ≡ p
  pub offered : IsOffered w buffer value
  pub priority_is : value.priority ≡ priority

offered_by : (w : World) (buffer p priority : ℕ) (made : Option Offer) → offer w p ≡ made → priority_to buffer made ≡ Some priority → Offered w buffer p priority
offered_by w buffer p priority None is here = absurd (let f : ⊥ = cc in f)
offered_by w buffer p priority (Some o) is here =
    let both = if_some (o.buffer == buffer) o.value.priority priority here in
    let same : o.buffer ≡ buffer = eqb-true o.buffer buffer both.0 in
    let sender : o.value.sender ≡ p = offer_sender w p o is in
    let made : offer w o.value.sender ≡ Some (record { buffer = buffer; value = o.value; back = o.back }) =
    ap (offer w) sender ∙ is ∙ ap (λ (b : ℕ). Some (let made : Offer = record { buffer = b; value = o.value; back = o.back } in made)) same in
    record { value = o.value; sender = sender; offered = record { back = o.back; waits = made }; priority_is = both.1 }

pub offered_is : (w : World) (buffer p priority : ℕ) → offered_priority w buffer p ≡ Some priority → Offered w buffer p priority
offered_is w buffer p priority is = offered_by w buffer p priority (offer w p) refl is

pub priority_of_offered : (w : World) (buffer : ℕ) (value : StoredValue) → IsOffered w buffer value → offered_priority w buffer value.sender ≡ Some value.priority
priority_of_offered w buffer value offered =
    ap (priority_to buffer) offered.waits ∙ ap (λ (mine : Bool). if mine then Some value.priority else None) (eq-eqb buffer buffer refl)

-- the place of a sender among the instances that were made
sender_below : (w : World) (buffer : ℕ) (value : StoredValue) (count : ℕ) → length w.phases ≤ count → IsOffered w buffer value → value.sender < count
sender_below w buffer value count low offered = elim (cases_lt value.sender count) [
  | inl here ↦ here
  | inr behind ↦ absurd (let none : offer w value.sender ≡ None = no_offer_behind w value.sender (omega arith) in let is = offered.waits in let f : ⊥ = cc in f)
]

pub nobody_from : (w : World) (buffer count : ℕ) → length w.phases ≤ count → ((k : ℕ) → k < count → offered_priority w buffer k ≡ None) → NobodySends w buffer
nobody_from w buffer count low below value offered =
    let none : offered_priority w buffer value.sender ≡ None = below value.sender (sender_below w buffer value count low offered) in
    let some : offered_priority w buffer value.sender ≡ Some value.priority = priority_of_offered w buffer value offered in
    cc

pub no_higher_offer : (w : World) (buffer priority count : ℕ) → length w.phases ≤ count → ((k other : ℕ) → k < count → offered_priority w buffer k ≡ Some other → other ≤ priority) → NoOfferAbove w buffer priority
no_higher_offer w buffer priority count low below value offered =
    below value.sender value.priority (sender_below w buffer value count low offered) (priority_of_offered w buffer value offered)

-- an offer of a higher priority refutes that there is none
pub higher_offer : (w : World) (buffer p priority other : ℕ) → offered_priority w buffer p ≡ Some other → priority < other → NoOfferAbove w buffer priority → ⊥
higher_offer w buffer p priority other is above none =
    let made = offered_is w buffer p other is in
    let low : made.value.priority ≤ priority = none made.value made.offered in
    let same : made.value.priority ≡ other = made.priority_is in
    omega arith

pub nobody_stored : (w : World) (buffer : ℕ) → stored_in w buffer ≡ [] → NothingStored w buffer
nobody_stored w buffer empty value stored =
    let at : slice_get (stored_in w buffer) stored.0 ≡ Some value = stored.1 in
    let none : slice_get (stored_in w buffer) stored.0 ≡ None = ap (λ (xs : List StoredValue). slice_get xs stored.0) empty in
    cc

empty_if : (values : List StoredValue) → ((value : StoredValue) → ((k : ℕ) × (slice_get values k ≡ Some value)) → ⊥) → values ≡ []
empty_if [] none = refl
empty_if (value ∷ values) none = absurd (none value (0, refl))

pub empty_stored : (w : World) (buffer : ℕ) → NothingStored w buffer → stored_in w buffer ≡ []
empty_stored w buffer none = empty_if (stored_in w buffer) none

pub no_higher_stored : (w : World) (buffer priority count : ℕ) (values : List StoredValue) → values ≡ stored_in w buffer → length values ≤ count
    → ((k : ℕ) (other : StoredValue) → k < count → slice_get values k ≡ Some other → other.priority ≤ priority) → NoStoredAbove w buffer priority
no_higher_stored w buffer priority count values same low below other stored =
    let at : slice_get values stored.0 ≡ Some other = ap (λ (xs : List StoredValue). slice_get xs stored.0) same ∙ stored.1 in
    elim (cases_lt stored.0 count) [
      | inl here ↦ below stored.0 other here at
      | inr behind ↦ absurd (let none : slice_get values stored.0 ≡ None = nothing_behind values stored.0 (omega arith) in let f : ⊥ = cc in f)
    ]

-- of a buffer of length 0 the values are those that are offered, else those that lie in it
pub by_offers : (length : Option ℕ) (w : World) (buffer : ℕ) (P : (StoredValue → Type 0) → Type 0) → length ≡ Some 0 → P (IsOffered w buffer) → P (IsCandidateOf length w buffer)
by_offers None w buffer P is holds = absurd (let f : ⊥ = cc in f)
by_offers (Some zero) w buffer P is holds = holds
by_offers (Some (suc n)) w buffer P is holds = absurd (let f : ⊥ = cc in f)

pub by_stored : (length : Option ℕ) (w : World) (buffer : ℕ) (P : (StoredValue → Type 0) → Type 0) → (length ≡ Some 0 → ⊥) → P (IsStored w buffer) → P (IsCandidateOf length w buffer)
by_stored None w buffer P apart holds = holds
by_stored (Some zero) w buffer P apart holds = absurd (apart refl)
by_stored (Some (suc n)) w buffer P apart holds = holds

-- a sender of highest priority, by the priority that it offers
pub refill_by : (w : World) (buffer sender priority : ℕ) → offered_priority w buffer sender ≡ Some priority → NoOfferAbove w buffer priority → IsRefillBy w buffer (Some sender)
refill_by w buffer sender priority is none =
    let made = offered_is w buffer sender priority is in
    let same : made.value.priority ≡ priority = made.priority_is in
    (made.value, made.sender, made.offered, λ other offered. let low : other.priority ≤ priority = none other offered in omega arith)

pub none_above_refill : (w : World) (buffer sender priority : ℕ) → offered_priority w buffer sender ≡ Some priority → IsRefillBy w buffer (Some sender) → NoOfferAbove w buffer priority
none_above_refill w buffer sender priority is refill other offered =
    let value : StoredValue = refill.0 in
    let at : offered_priority w buffer value.sender ≡ Some value.priority = priority_of_offered w buffer value refill.2 in
    let here : offered_priority w buffer value.sender ≡ Some priority = ap (offered_priority w buffer) refill.1 ∙ is in
    let same : value.priority ≡ priority = cc in
    let low : other.priority ≤ value.priority = refill.3 other offered in
    omega arith

-- what a phase offers is offered by the instance that is in it
pub offered_at : (w : World) (phase : Phase) (buffer : ℕ) (value : StoredValue) → phase_of w value.sender ≡ Some phase → Offers buffer value (offer_in value.sender phase) → IsOffered w buffer value
offered_at w phase buffer value at offers = record { back = offers.back; waits = ap (option_and_then (offer_in value.sender)) at ∙ offers.is }

pub offers_at : (w : World) (phase : Phase) (buffer : ℕ) (value : StoredValue) → phase_of w value.sender ≡ Some phase → IsOffered w buffer value → Offers buffer value (offer_in value.sender phase)
offers_at w phase buffer value at offered = record { back = offered.back; is = sym (ap (option_and_then (offer_in value.sender)) at) ∙ offered.waits }

pub not_offered : (w : World) (buffer : ℕ) (value : StoredValue) → phase_of w value.sender ≡ None → IsOffered w buffer value → ⊥
not_offered w buffer value none offered =
    let no : offer w value.sender ≡ None = ap (option_and_then (offer_in value.sender)) none in
    let is = offered.waits in
    cc

pub higher_stored : (w : World) (buffer k priority : ℕ) (values : List StoredValue) (value : StoredValue) → values ≡ stored_in w buffer → slice_get values k ≡ Some value → priority < value.priority → NoStoredAbove w buffer priority → ⊥
higher_stored w buffer k priority values value same at above none =
    let low : value.priority ≤ priority = none value (k, ap (λ (xs : List StoredValue). slice_get xs k) (sym same) ∙ at) in
    omega arith

pub none_of_length : (values : List StoredValue) → length values ≡ 0 → values ≡ []
none_of_length [] is = refl
none_of_length (value ∷ values) is = absurd (let f : ⊥ = omega arith in f)
