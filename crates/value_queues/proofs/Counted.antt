-- How often send numbers stand in the buffers.
use Rattle.std.proofs.Common.{◌≡◌, ℕ, zero, suc, ◌+◌, ◌<◌, ◌≤◌, List, [], ◌∷◌, length, Bool, true, false, not, cond, refl, sym, ap, ◌∙◌, arith, slice_set, eq-eqb}
use Rattle.std.specs.Prelude.{◌==◌, if◌then◌else◌}
use Rattle.std.proofs.lemmas.List.Sums.{sum_by-cons, sum_by-set}
use Rattle.kernel_lists.specs.Best.{precedes_in}
use Rattle.world_model.specs.declared.world.StoredValue.{StoredValue}
use Rattle.world_model.specs.World as worlds
use Rattle.value_queues.specs.Queues.{placed, rank_of, values_in, TakesFirst, stored_but, times_in, times_stored}

-- 1 for a value of this send number
abbrev pub tells : ℕ → StoredValue → ℕ
tells send value = cond (value.send == send) 1 0

pub times_cons : (send : ℕ) (value : StoredValue) (values : List StoredValue) → times_in send (value ∷ values) ≡ tells send value + times_in send values
times_cons send value values = sum_by-cons (tells send) value values

placed_by : (send : ℕ) (value x : StoredValue) (xs more : List StoredValue) (t : Bool) → times_in send more ≡ times_in send xs + tells send value → times_in send (if t then value ∷ x ∷ xs else x ∷ more) ≡ times_in send (x ∷ xs) + tells send value
placed_by send value x xs more true before = omega (arith, times_cons send value (x ∷ xs))
placed_by send value x xs more false before = omega (arith, before, times_cons send x xs, times_cons send x more)

-- one more value
pub times_placed : (send : ℕ) (value : StoredValue) (values : List StoredValue) → times_in send (placed value values) ≡ times_in send values + tells send value
times_placed send value [] = omega (arith, times_cons send value [])
times_placed send value (x ∷ xs) = placed_by send value x xs (placed value xs) (precedes_in (rank_of value) (rank_of x)) (times_placed send value xs)

-- the values of one buffer are others
pub times_set : (send : ℕ) (stored : List (List StoredValue)) (buffer : ℕ) (new : List StoredValue) → buffer < length stored → times_stored send (slice_set stored buffer new) + times_in send (values_in stored buffer) ≡ times_stored send stored + times_in send new
times_set send stored buffer new low = sum_by-set (times_in send) stored buffer new [] low

-- a number that stands nowhere isn't missed
none_by : (send : ℕ) (value : StoredValue) (values : List StoredValue) (t : Bool) → (value.send == send) ≡ t → cond t 1 0 + times_in send values ≡ 0 → worlds.values_but send values ≡ values → (if not t then value ∷ worlds.values_but send values else worlds.values_but send values) ≡ value ∷ values
none_by send value values true is none rest = absurd (omega arith)
none_by send value values false is none rest = ap (λ (l : List StoredValue). value ∷ l) rest

pub none_in : (send : ℕ) (values : List StoredValue) → times_in send values ≡ 0 → worlds.values_but send values ≡ values
none_in send [] none = refl
none_in send (value ∷ values) none =
    let both : tells send value + times_in send values ≡ 0 = sym (times_cons send value values) ∙ none in
    none_by send value values (value.send == send) refl both (none_in send values (omega (arith, both)))

pub none_stored : (send : ℕ) (stored : List (List StoredValue)) → times_stored send stored ≡ 0 → stored_but send stored ≡ stored
none_stored send [] none = refl
none_stored send (values ∷ stored) none =
    let both : times_in send values + times_stored send stored ≡ 0 = sym (sum_by-cons (times_in send) values stored) ∙ none in
    ap (λ (l : List StoredValue). l ∷ stored_but send stored) (none_in send values (omega (arith, both))) ∙ ap (λ (l : List (List StoredValue)). values ∷ l) (none_stored send stored (omega (arith, both)))

pub first_within : (stored : List (List StoredValue)) (buffer : ℕ) (value : StoredValue) (rest : List StoredValue) → values_in stored buffer ≡ value ∷ rest → buffer < length stored
first_within [] buffer value rest is = absurd (let f : ⊥ = cc in f)
first_within (values ∷ stored) zero value rest is = omega arith
first_within (values ∷ stored) (suc buffer) value rest is = let e = first_within stored buffer value rest is in omega (arith, e)

first_but : (value : StoredValue) (rest : List StoredValue) → times_in value.send rest ≡ 0 → worlds.values_but value.send (value ∷ rest) ≡ rest
first_but value rest none = let same : (value.send == value.send) ≡ true = eq-eqb value.send value.send refl in rw same (none_in value.send rest none)

popped_but : (stored : List (List StoredValue)) (buffer : ℕ) (value : StoredValue) (rest : List StoredValue) → values_in stored buffer ≡ value ∷ rest → times_stored value.send (slice_set stored buffer rest) ≡ 0 → slice_set stored buffer rest ≡ stored_but value.send stored
popped_but [] buffer value rest is none = absurd (let f : ⊥ = cc in f)
popped_but (values ∷ stored) zero value rest is none =
    let both : times_in value.send rest + times_stored value.send stored ≡ 0 = sym (sum_by-cons (times_in value.send) rest stored) ∙ none in
    let here : worlds.values_but value.send values ≡ rest = ap (worlds.values_but value.send) is ∙ first_but value rest (omega (arith, both)) in
    sym (ap (λ (l : List StoredValue). l ∷ stored_but value.send stored) here ∙ ap (λ (l : List (List StoredValue)). rest ∷ l) (none_stored value.send stored (omega (arith, both))))
popped_but (values ∷ stored) (suc buffer) value rest is none =
    let both : times_in value.send values + times_stored value.send (slice_set stored buffer rest) ≡ 0 = sym (sum_by-cons (times_in value.send) values (slice_set stored buffer rest)) ∙ none in
    ap (λ (l : List (List StoredValue)). values ∷ l) (popped_but stored buffer value rest is (omega (arith, both)))
    ∙ sym (ap (λ (l : List StoredValue). l ∷ stored_but value.send stored) (none_in value.send values (omega (arith, both))))

-- how often numbers stand once the first value of a buffer is taken
pub times_taken : (send : ℕ) (old new : List (List StoredValue)) (buffer : ℕ) (value : StoredValue) → TakesFirst old new buffer value → times_stored send new + tells send value ≡ times_stored send old
times_taken send old new buffer value h =
    let low = first_within old buffer value h.rest h.was in
    let before : times_in send (values_in old buffer) ≡ tells send value + times_in send h.rest = ap (times_in send) h.was ∙ times_cons send value h.rest in
    let now : times_stored send new ≡ times_stored send (slice_set old buffer h.rest) = ap (times_stored send) h.new_is in
    omega (arith, now, before, times_set send old buffer h.rest low)

pub tells_same : (value : StoredValue) → tells value.send value ≡ 1
tells_same value = let same : (value.send == value.send) ≡ true = eq-eqb value.send value.send refl in rw same refl

-- the value that is taken was the only one of its send number
pub taken_but : (old new : List (List StoredValue)) (buffer : ℕ) (value : StoredValue) → TakesFirst old new buffer value → times_stored value.send old ≤ 1 → new ≡ stored_but value.send old
taken_but old new buffer value h once =
    let now : times_stored value.send new ≡ times_stored value.send (slice_set old buffer h.rest) = ap (times_stored value.send) h.new_is in
    let none : times_stored value.send (slice_set old buffer h.rest) ≡ 0 = omega (arith, now, once, times_taken value.send old new buffer value h, tells_same value) in
    h.new_is ∙ popped_but old buffer value h.rest h.was none
