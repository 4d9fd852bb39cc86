-- What holds at each place of a list of alternatives holds of each thing that is listed.
use Rattle.std.proofs.Common.{◌≡◌, ℕ, zero, suc, ◌+◌, ◌≤◌, ◌<◌, ℤ, List, [], ◌∷◌, length, refl, sym, ap, ◌∙◌, subst, arith, Some, None, Bool, true, false, inl, inr}
use Rattle.std.specs.Prelude.{slice_get, if◌then◌else◌, ◌==◌}
use Rattle.std.specs.declared.option.Option.{Option}
use Rattle.std.proofs.lemmas.Bool.{cases_lt, cases_Bool, eqb-true, eq-eqb}
use Rattle.kernel_base.specs.declared.facts.Facts.{Facts}
use Rattle.kernel_base.specs.declared.request.Alternative.{Alternative}
use Rattle.world_model.specs.declared.world.StoredValue.{StoredValue}
use Rattle.world_model.specs.declared.world.World.{World}
use Rattle.world_model.specs.Lists.{number_for}
use Rattle.world_model.specs.World.{stored_in}
use Rattle.world_model.specs.Allowed.{NothingToTake, TakesValue}
use Rattle.world_check.proofs.Waiters.{nothing_behind}
use Rattle.journal_check.specs.Receiving.{value_of, NoCandidate, NoCandidateAbove, NoValueAbove, MayTake, HasHighestStored, TakesFrom}

-- one place more
pub one_place_more : {X : Type 0} (xs : List X) (Q : X → Type 0) (place : ℕ) (here : X) → slice_get xs place ≡ Some here → Q here
    → ((k : ℕ) (x : X) → k < place → slice_get xs k ≡ Some x → Q x) → (k : ℕ) (x : X) → k < place + 1 → slice_get xs k ≡ Some x → Q x
one_place_more xs Q place here at holds below k x low is = elim (cases_lt k place) [
  | inl before ↦ below k x before is
  | inr behind ↦ (let same : k ≡ place = omega arith in let there : slice_get xs place ≡ Some x = ap (slice_get xs) (sym same) ∙ is in let equal : here ≡ x = cc in subst Q equal holds)
]

-- something that is listed: its number
pub record Number (alternatives : List Alternative) (thing : ℕ) : Type 0 where
  pub number : ℕ
  pub is : number_for alternatives thing ≡ Some number

number_if : (mine : Bool) (number : ℕ) (rest : Option ℕ) → mine ≡ true → (if mine then Some number else rest) ≡ Some number
number_if true number rest is = refl
number_if false number rest is = absurd (let f : ⊥ = cc in f)

rest_if : (mine : Bool) (number : ℕ) (rest : Option ℕ) → mine ≡ false → (if mine then Some number else rest) ≡ rest
rest_if true number rest is = absurd (let f : ⊥ = cc in f)
rest_if false number rest is = refl

pub listed_at : (alternatives : List Alternative) (k : ℕ) (a : Alternative) → slice_get alternatives k ≡ Some a → Number alternatives a.thing
listed_at [] k a at = absurd (let f : ⊥ = cc in f)
listed_at (b ∷ alternatives) zero a at =
    let same : b ≡ a = cc in
    record { number = b.number; is = number_if (b.thing == a.thing) b.number (number_for alternatives a.thing) (eq-eqb b.thing a.thing (ap (λ (x : Alternative). x.thing) same)) }
listed_at (b ∷ alternatives) (suc k) a at =
    let rest : Number alternatives a.thing = listed_at alternatives k a at in
    elim (cases_Bool (b.thing == a.thing)) [
      | inl mine ↦ record { number = b.number; is = number_if (b.thing == a.thing) b.number (number_for alternatives a.thing) mine }
      | inr other ↦ record { number = rest.number; is = rest_if (b.thing == a.thing) b.number (number_for alternatives a.thing) other ∙ rest.is }
    ]

-- a place where a thing is listed
pub record Place (alternatives : List Alternative) (thing : ℕ) : Type 0 where
  pub place : ℕ
  pub alternative : Alternative
  pub at : slice_get alternatives place ≡ Some alternative
  pub is : alternative.thing ≡ thing

pub place_of : (alternatives : List Alternative) (thing n : ℕ) → number_for alternatives thing ≡ Some n → Place alternatives thing
place_of [] thing n is = absurd (let f : ⊥ = cc in f)
place_of (a ∷ alternatives) thing n is = elim (cases_Bool (a.thing == thing)) [
  | inl mine ↦ record { place = 0; alternative = a; at = refl; is = eqb-true a.thing thing mine }
  | inr other ↦ (let rest : Place alternatives thing = place_of alternatives thing n (sym (rest_if (a.thing == thing) a.number (number_for alternatives thing) other) ∙ is) in
      record { place = suc rest.place; alternative = rest.alternative; at = rest.at; is = rest.is })
]

pub each_listed : (alternatives : List Alternative) (count : ℕ) (Q : ℕ → Type 0) → length alternatives ≤ count
    → ((k : ℕ) (a : Alternative) → k < count → slice_get alternatives k ≡ Some a → Q a.thing) → (thing n : ℕ) → number_for alternatives thing ≡ Some n → Q thing
each_listed alternatives count Q low below thing n is =
    let found : Place alternatives thing = place_of alternatives thing n is in
    elim (cases_lt found.place count) [
      | inl here ↦ subst Q found.is (below found.place found.alternative here found.at)
      | inr behind ↦ absurd (let none : slice_get alternatives found.place ≡ None = nothing_behind alternatives found.place (omega arith) in let at = found.at in let f : ⊥ = cc in f)
    ]

pub nothing_listed : (facts : Facts) (w : World) (buffers : List Alternative) (count : ℕ) → length buffers ≤ count
    → ((k : ℕ) (a : Alternative) → k < count → slice_get buffers k ≡ Some a → NoCandidate facts w a.thing) → NothingToTake facts w buffers
nothing_listed facts w buffers count low below buffer n value listed candidate =
    each_listed buffers count (λ b. NoCandidate facts w b) low below buffer n listed value candidate

pub no_candidate_at : (facts : Facts) (w : World) (buffers : List Alternative) (k : ℕ) (a : Alternative) → slice_get buffers k ≡ Some a → NothingToTake facts w buffers → NoCandidate facts w a.thing
no_candidate_at facts w buffers k a at none value candidate = let number : Number buffers a.thing = listed_at buffers k a at in none a.thing number.number value number.is candidate

pub none_listed_above : (facts : Facts) (w : World) (buffers : List Alternative) (priority count : ℕ) → length buffers ≤ count
    → ((k : ℕ) (a : Alternative) → k < count → slice_get buffers k ≡ Some a → NoCandidateAbove facts w priority a.thing) → NoValueAbove facts w buffers priority
none_listed_above facts w buffers priority count low below buffer n value listed candidate =
    each_listed buffers count (λ b. NoCandidateAbove facts w priority b) low below buffer n listed value candidate

pub none_above_at : (facts : Facts) (w : World) (buffers : List Alternative) (priority k : ℕ) (a : Alternative) → slice_get buffers k ≡ Some a → NoValueAbove facts w buffers priority → NoCandidateAbove facts w priority a.thing
none_above_at facts w buffers priority k a at none value candidate = let number : Number buffers a.thing = listed_at buffers k a at in none a.thing number.number value number.is candidate

-- the value is taken from some listed buffer
pub takes_at : (facts : Facts) (w : World) (buffers : List Alternative) (alternative send : ℕ) (scalars : List ℤ) (by : ℕ) (refill : Option ℕ) (buffer : ℕ)
    → TakesFrom facts w buffers alternative send scalars by refill buffer → (priority : ℕ) × TakesValue facts w buffers alternative (value_of send scalars by priority) refill
takes_at facts w buffers alternative send scalars by refill buffer takes =
    (takes.has.priority, record { buffer = buffer; listed = takes.listed; candidate = takes.has.candidate; highest = takes.has.highest; refills = takes.refills })

pub takes_none : (facts : Facts) (w : World) (buffers : List Alternative) (alternative send : ℕ) (scalars : List ℤ) (by : ℕ) (refill : Option ℕ) (count : ℕ) → length buffers ≤ count
    → ((k : ℕ) (a : Alternative) → k < count → slice_get buffers k ≡ Some a → TakesFrom facts w buffers alternative send scalars by refill a.thing → ⊥)
    → ((priority : ℕ) × TakesValue facts w buffers alternative (value_of send scalars by priority) refill) → ⊥
takes_none facts w buffers alternative send scalars by refill count low below both =
    let takes : TakesValue facts w buffers alternative (value_of send scalars by both.0) refill = both.1 in
    let from : TakesFrom facts w buffers alternative send scalars by refill takes.buffer =
    record { listed = takes.listed; has = record { priority = both.0; candidate = takes.candidate; highest = takes.highest }; refills = takes.refills } in
    each_listed buffers count (λ b. TakesFrom facts w buffers alternative send scalars by refill b → ⊥) low below takes.buffer alternative takes.listed from

-- a value that lies in the buffer and may be taken
pub has_at : (facts : Facts) (w : World) (buffers : List Alternative) (buffer send : ℕ) (scalars : List ℤ) (by k : ℕ) (values : List StoredValue) (value : StoredValue) → values ≡ stored_in w buffer
    → slice_get values k ≡ Some value → MayTake facts w buffers send scalars by value → HasHighestStored facts w buffers buffer send scalars by
has_at facts w buffers buffer send scalars by k values value same at may =
    let there : slice_get (stored_in w buffer) k ≡ Some value = ap (λ (xs : List StoredValue). slice_get xs k) (sym same) ∙ at in
    record { priority = value.priority; stored = (k, there ∙ ap (λ (v : StoredValue). Some v) may.is); highest = may.highest }

pub none_stored : (facts : Facts) (w : World) (buffers : List Alternative) (buffer send : ℕ) (scalars : List ℤ) (by count : ℕ) (values : List StoredValue) → values ≡ stored_in w buffer → length values ≤ count
    → ((k : ℕ) (value : StoredValue) → k < count → slice_get values k ≡ Some value → MayTake facts w buffers send scalars by value → ⊥)
    → HasHighestStored facts w buffers buffer send scalars by → ⊥
none_stored facts w buffers buffer send scalars by count values same low below has =
    let stored = has.stored in
    let at : slice_get values stored.0 ≡ Some (value_of send scalars by has.priority) = ap (λ (xs : List StoredValue). slice_get xs stored.0) same ∙ stored.1 in
    elim (cases_lt stored.0 count) [
      | inl here ↦ below stored.0 (value_of send scalars by has.priority) here at (record { is = refl; highest = has.highest })
      | inr behind ↦ (let none : slice_get values stored.0 ≡ None = nothing_behind values stored.0 (omega arith) in let f : ⊥ = cc in f)
    ]
