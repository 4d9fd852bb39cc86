-- Lists that are read off the stack, one after another.
use Rattle.std.proofs.Common.{◌≡◌, ℕ, suc, ◌+◌, ◌*◌, ◌<◌, List, [], ◌∷◌, ◌++◌, ℤ, length, drop, get_or, Option, Some, None, refl, ap, sym, ◌∙◌, arith, append_assoc}
use Rattle.std.proofs.lemmas.List.{drop_more}
use Rattle.kernel_base.specs.declared.request.Alternative.{Alternative}
use Rattle.code_types.specs.Operands.{Triples, alternative_in, number_in, offset_of, pairs_of, slot_in, triples_of, with_first, with_triple}
use Rattle.code_types.specs.State.{Slot}

-- a list behind these items, if there is one
abbrev pub behind : {A : Type 0} → List A → Option (List A) → Option (List A)
behind front None = None
behind front (Some xs) = Some (front ++ xs)

-- triples behind these things and slots, if there are any
abbrev pub behind_both : List Alternative → List Slot → Option Triples → Option Triples
behind_both things slots None = None
behind_both things slots (Some t) = Some (record { things = things ++ t.things; slots = slots ++ t.slots })

behind_first : {A : Type 0} (front : List A) (x : A) (rest : Option (List A)) → behind front (with_first (Some x) rest) ≡ behind (front ++ x ∷ []) rest
behind_first front x None = refl
behind_first front x (Some xs) = ap Some (sym (append_assoc front (x ∷ []) xs))

behind_triple : (things : List Alternative) (slots : List Slot) (number thing : ℕ) (slot : Slot) (rest : Option Triples)
    → behind_both things slots (with_triple number (Some thing) (Some slot) rest) ≡ behind_both (things ++ record { thing = thing; number = number } ∷ []) (slots ++ slot ∷ []) rest
behind_triple things slots number thing slot None = refl
behind_triple things slots number thing slot (Some t) =
    let more : List Alternative = things ++ record { thing = thing; number = number } ∷ t.things in
    rw (append_assoc things (record { thing = thing; number = number } ∷ []) t.things, append_assoc slots (slot ∷ []) t.slots) refl

-- the next two numbers
two_more : (numbers : List ℤ) (i : ℕ) (d : ℤ) → 2 * i + 1 < length numbers → drop (2 * i) numbers ≡ get_or numbers (2 * i) d ∷ get_or numbers (2 * i + 1) d ∷ drop (2 * (i + 1)) numbers
two_more numbers i d h =
    let place : (2 * i + 1) + 1 ≡ 2 * (i + 1) = omega arith in
    drop_more numbers (2 * i) d (omega arith)
    ∙ ap (λ (xs : List ℤ). get_or numbers (2 * i) d ∷ xs) (drop_more numbers (2 * i + 1) d h)
    ∙ ap (λ (n : ℕ). get_or numbers (2 * i) d ∷ get_or numbers (2 * i + 1) d ∷ drop n numbers) place

-- the next three numbers
three_more : (numbers : List ℤ) (i : ℕ) (d : ℤ) → 3 * i + 2 < length numbers → drop (3 * i) numbers ≡ get_or numbers (3 * i) d ∷ get_or numbers (3 * i + 1) d ∷ get_or numbers (3 * i + 2) d ∷ drop (3 * (i + 1)) numbers
three_more numbers i d h =
    let second : (3 * i + 1) + 1 ≡ 3 * i + 2 = omega arith in
    let place : (3 * i + 2) + 1 ≡ 3 * (i + 1) = omega arith in
    drop_more numbers (3 * i) d (omega arith)
    ∙ ap (λ (xs : List ℤ). get_or numbers (3 * i) d ∷ xs) (drop_more numbers (3 * i + 1) d (omega arith))
    ∙ ap (λ (n : ℕ). get_or numbers (3 * i) d ∷ get_or numbers (3 * i + 1) d ∷ drop n numbers) second
    ∙ ap (λ (xs : List ℤ). get_or numbers (3 * i) d ∷ get_or numbers (3 * i + 1) d ∷ xs) (drop_more numbers (3 * i + 2) d h)
    ∙ ap (λ (n : ℕ). get_or numbers (3 * i) d ∷ get_or numbers (3 * i + 1) d ∷ get_or numbers (3 * i + 2) d ∷ drop n numbers) place

-- what the pairs from a place on tell
pub pairs_from : (numbers : List ℤ) (i : ℕ) (thing number : ℤ) (d : ℤ)
    → 2 * i + 1 < length numbers
    → get_or numbers (2 * i) d ≡ thing
    → get_or numbers (2 * i + 1) d ≡ number
    → pairs_of (drop (2 * i) numbers) ≡ with_first (alternative_in (number_in thing) (number_in number)) (pairs_of (drop (2 * (i + 1)) numbers))
pairs_from numbers i thing number d h first second = ap pairs_of (two_more numbers i d h) ∙ rw (first, second) refl

-- one pair more
pub pair_more : (numbers : List ℤ) (list : List Alternative) (i : ℕ) (thing number d : ℤ) (next : Alternative)
    → pairs_of numbers ≡ behind list (pairs_of (drop (2 * i) numbers))
    → 2 * i + 1 < length numbers
    → get_or numbers (2 * i) d ≡ thing
    → get_or numbers (2 * i + 1) d ≡ number
    → alternative_in (number_in thing) (number_in number) ≡ Some next
    → pairs_of numbers ≡ behind (list ++ next ∷ []) (pairs_of (drop (2 * (i + 1)) numbers))
pair_more numbers list i thing number d next so_far h first second told =
    let rest = pairs_of (drop (2 * (i + 1)) numbers) in
    so_far
    ∙ ap (behind list) (pairs_from numbers i thing number d h first second)
    ∙ ap (λ (o : Option Alternative). behind list (with_first o rest)) told
    ∙ behind_first list next rest

-- a pair that doesn't fit
pub no_pair : (numbers : List ℤ) (list : List Alternative) (i : ℕ) (thing number d : ℤ)
    → pairs_of numbers ≡ behind list (pairs_of (drop (2 * i) numbers))
    → 2 * i + 1 < length numbers
    → get_or numbers (2 * i) d ≡ thing
    → get_or numbers (2 * i + 1) d ≡ number
    → alternative_in (number_in thing) (number_in number) ≡ None
    → pairs_of numbers ≡ None
no_pair numbers list i thing number d so_far h first second told =
    let rest = pairs_of (drop (2 * (i + 1)) numbers) in
    so_far
    ∙ ap (behind list) (pairs_from numbers i thing number d h first second)
    ∙ ap (λ (o : Option Alternative). behind list (with_first o rest)) told

-- what the triples from a place on tell
pub triples_from : (numbers : List ℤ) (locals i : ℕ) (thing local count d : ℤ)
    → 3 * i + 2 < length numbers
    → get_or numbers (3 * i) d ≡ thing
    → get_or numbers (3 * i + 1) d ≡ local
    → get_or numbers (3 * i + 2) d ≡ count
    → triples_of locals i (drop (3 * i) numbers) ≡ with_triple i (number_in thing) (slot_in locals (offset_of local) (offset_of count)) (triples_of locals (suc i) (drop (3 * (i + 1)) numbers))
triples_from numbers locals i thing local count d h first second third =
    ap (triples_of locals i) (three_more numbers i d h) ∙ rw (first, second, third) refl

-- one triple more
pub triple_more : (numbers : List ℤ) (locals i : ℕ) (things : List Alternative) (slots : List Slot) (d : ℤ) (thing : ℕ) (slot : Slot)
    → triples_of locals 0 numbers ≡ behind_both things slots (triples_of locals i (drop (3 * i) numbers))
    → 3 * i + 2 < length numbers
    → number_in (get_or numbers (3 * i) d) ≡ Some thing
    → slot_in locals (offset_of (get_or numbers (3 * i + 1) d)) (offset_of (get_or numbers (3 * i + 2) d)) ≡ Some slot
    → triples_of locals 0 numbers ≡ behind_both (things ++ record { thing = thing; number = i } ∷ []) (slots ++ slot ∷ []) (triples_of locals (i + 1) (drop (3 * (i + 1)) numbers))
triple_more numbers locals i things slots d thing slot so_far h named placed =
    let next : suc i ≡ i + 1 = omega arith in
    let rest = triples_of locals (suc i) (drop (3 * (i + 1)) numbers) in
    so_far
    ∙ ap (behind_both things slots) (triples_from numbers locals i (get_or numbers (3 * i) d) (get_or numbers (3 * i + 1) d) (get_or numbers (3 * i + 2) d) d h refl refl refl)
    ∙ rw (named, placed) (behind_triple things slots i thing slot rest)
    ∙ ap (λ (n : ℕ). behind_both (things ++ record { thing = thing; number = i } ∷ []) (slots ++ slot ∷ []) (triples_of locals n (drop (3 * (i + 1)) numbers))) next
