-- Send numbers stay distinct as values are sent and taken.
use Rattle.std.proofs.Common.{◌≡◌, ◌≢◌, ℕ, zero, suc, ◌+◌, ◌<◌, ◌≤◌, List, [], ◌∷◌, ◌++◌, length, replicate, true, false, cond, refl, sym, ap, ◌∙◌, inl, inr, arith, Some, slice_get, get_or}
use Rattle.std.specs.Prelude.{◌==◌, nat_lt}
use Rattle.std.specs.List.{remove}
use Rattle.std.proofs.lemmas.Bool.{cases_Bool, cases_eq, ne_eqb}
use Rattle.std.proofs.lemmas.Bool.Decides.{nat_tests}
use Rattle.std.proofs.lemmas.List.Sums.{sum_by-cons, sum_by_push, sum_by-remove}
use Rattle.std.proofs.lemmas.Option.{same_Some, slice_get_within, slice_get-get_or}
use Rattle.kernel_lists.specs.Once.{others, AreOnce}
use Rattle.kernel_lists.proofs.Entries.{once_remove}
use Rattle.world_model.specs.declared.world.StoredValue.{StoredValue}
use Rattle.value_queues.specs.Queues.{placed, with_placed, values_in, stored_but, times_in, times_stored, TakesFirst}
use Rattle.value_queues.proofs.Counted.{tells, tells_same, times_set, times_placed, times_taken, taken_but, none_stored}
use Rattle.buffers_signals.specs.declared.messages.Held.{Held}
use Rattle.buffers_signals.specs.Arrivals.{AreBefore}
use Rattle.buffers_signals.specs.Lists.{sender_of, times_held}
use Rattle.buffers_signals.specs.Buffers.{Values, times, AreDistinct}
use Rattle.buffers_signals.specs.Steps.{values}

pub tells_other : (send : ℕ) (value : StoredValue) → value.send ≢ send → tells send value ≡ 0
tells_other send value apart = let fails = ne_eqb value.send send apart in rw fails refl

-- the last number may be any later one
pub distinct_later : (v : Values) (last next : ℕ) → last ≤ next → AreDistinct v last → AreDistinct v next
distinct_later v last next later h = record { once = h.once; drawn = λ send low. h.drawn send (omega (arith, later, low)) }

-- no number stands more often than before
pub distinct_fewer : (v w : Values) (last : ℕ) → ((send : ℕ) → times send w ≤ times send v) → AreDistinct v last → AreDistinct w last
distinct_fewer v w last fewer h = record {
  once = λ send. omega (arith, fewer send, h.once send);
  drawn = λ send low. omega (arith, fewer send, h.drawn send low);
}

-- one more value, of a number behind the last
pub distinct_more : (v w : Values) (last : ℕ) (value : StoredValue) → last < value.send → ((send : ℕ) → times send w ≡ times send v + tells send value) → AreDistinct v last → AreDistinct w value.send
distinct_more v w last value next more h = record {
  once = λ send. elim (cases_eq value.send send) [
    | inl same ↦ (let one : tells send value ≡ 1 = ap (λ (n : ℕ). tells n value) (sym same) ∙ tells_same value in
        let none = h.drawn send (omega (arith, next, same)) in omega (arith, more send, one, none))
    | inr apart ↦ omega (arith, more send, h.once send, tells_other send value apart)
  ];
  drawn = λ send low. omega (arith, more send, h.drawn send (omega (arith, next, low)), tells_other send value (λ e. let f : ⊥ = omega (arith, e, low) in f));
}

-- a value is placed
pub times_more : (send : ℕ) (stored : List (List StoredValue)) (buffer : ℕ) (value : StoredValue) → buffer < length stored → times_stored send (with_placed stored buffer value) ≡ times_stored send stored + tells send value
times_more send stored buffer value low = omega (arith, times_set send stored buffer (placed value (values_in stored buffer)) low, times_placed send value (values_in stored buffer))

pub placed_more : (stored : List (List StoredValue)) (senders : List Held) (buffer : ℕ) (value : StoredValue) → buffer < length stored → (send : ℕ) → times send (values (with_placed stored buffer value) senders) ≡ times send (values stored senders) + tells send value
placed_more stored senders buffer value low send = omega (arith, times_more send stored buffer value low)

abbrev pub tells_held : ℕ → Held → ℕ
tells_held send held = cond (held.value.send == send) 1 0

-- one more sender waits
pub waits_more : (stored : List (List StoredValue)) (senders : List Held) (held : Held) (send : ℕ) → times send (values stored (senders ++ held ∷ [])) ≡ times send (values stored senders) + tells send held.value
waits_more stored senders held send = omega (arith, sum_by_push (tells_held send) senders held)

held_at : (senders : List Held) (k : ℕ) (held : Held) → k < length senders → slice_get senders k ≡ Some held → get_or senders k held ≡ held
held_at senders k held low at = same_Some (get_or senders k held) held (sym (slice_get-get_or senders k held low) ∙ at)

-- one sender doesn't wait any more
pub waits_less : (senders : List Held) (k : ℕ) (held : Held) → AreOnce sender_of senders → slice_get senders k ≡ Some held → (send : ℕ) → times_held send (others sender_of senders held.value.sender) + tells send held.value ≡ times_held send senders
waits_less senders k held once at send =
    let low = slice_get_within senders k held at in
    let is : get_or senders k held ≡ held = held_at senders k held low at in
    let rest : times_held send (remove senders k) ≡ times_held send (others sender_of senders held.value.sender) = ap (times_held send) (once_remove sender_of senders k held once at) in
    let one : tells_held send (get_or senders k held) ≡ tells send held.value = ap (tells_held send) is in
    omega (arith, sum_by-remove (tells_held send) senders k held low, rest, one)

-- the first value of a buffer is taken
pub taken_fewer : (old new : List (List StoredValue)) (senders : List Held) (buffer : ℕ) (value : StoredValue) → TakesFirst old new buffer value → (send : ℕ) → times send (values new senders) ≤ times send (values old senders)
taken_fewer old new senders buffer value h send = omega (arith, times_taken send old new buffer value h)

-- of distinct values it was the only one of its number
pub only_taken : (old new : List (List StoredValue)) (senders : List Held) (last buffer : ℕ) (value : StoredValue) → AreDistinct (values old senders) last → TakesFirst old new buffer value → new ≡ stored_but value.send old
only_taken old new senders last buffer value h taken = taken_but old new buffer value taken (omega (arith, h.once value.send))

-- a value whose sender waits lies in no buffer
pub only_offered : (stored : List (List StoredValue)) (senders : List Held) (last k : ℕ) (held : Held) → AreDistinct (values stored senders) last → AreOnce sender_of senders → slice_get senders k ≡ Some held → stored ≡ stored_but held.value.send stored
only_offered stored senders last k held h once at =
    sym (none_stored held.value.send stored (omega (arith, h.once held.value.send, waits_less senders k held once at held.value.send, tells_same held.value)))

below : (a b : ℕ) → nat_lt a b ≡ true → a < b
below a b is = grind (arith, nat_tests)

not_below : (a b : ℕ) → nat_lt a b ≡ false → b ≤ a
not_below a b is = grind (arith, nat_tests)

-- each sender's value was sent before the next number
pub all_before : (stored : List (List StoredValue)) (senders : List Held) (last next : ℕ) → AreDistinct (values stored senders) last → AreOnce sender_of senders → last < next → AreBefore next senders
all_before stored senders last next h once later k held at = elim (cases_Bool (nat_lt last held.value.send)) [
  | inl high ↦ (let low : last < held.value.send = below last held.value.send high in
      let none = h.drawn held.value.send low in
      let f : ⊥ = omega (arith, none, waits_less senders k held once at held.value.send, tells_same held.value) in absurd f)
  | inr low ↦ omega (arith, not_below last held.value.send low, later)
]

-- nothing lies in empty buffers
none_lies : (send n : ℕ) → times_stored send (replicate n []) ≡ 0
none_lies send zero = refl
none_lies send (suc n) =
    let more : times_stored send (replicate (suc n) []) ≡ times_in send [] + times_stored send (replicate n []) = sum_by-cons (times_in send) [] (replicate n []) in
    let none : times_in send [] ≡ 0 = refl in
    let rest = none_lies send n in
    omega (arith, more, none, rest)

pub none_distinct : (n : ℕ) → AreDistinct (values (replicate n []) []) 0
none_distinct n = record {
  once = λ send. (let none = none_lies send n in omega (arith, none));
  drawn = λ send low. (let none = none_lies send n in omega (arith, none));
}
