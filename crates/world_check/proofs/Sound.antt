-- Offsets that rise and are below a number are no more than that number.
use Rattle.std.proofs.Common.{◌≡◌, ℕ, zero, suc, ◌+◌, ◌≤◌, ◌<◌, List, [], ◌∷◌, pos, length, get_or, refl, ap, arith, add-one}
use Rattle.std.specs.Prelude.{All}
use Rattle.std.specs.List.Sorted.{IsStrictlyIncreasing}
use Rattle.std.proofs.lemmas.List.Elements.{All-nil, All-cons, All-head, All-tail, All-get_or, All-from_get_or}
use Rattle.std.proofs.lemmas.Option.{slice_get-get_or}
use Rattle.chill_base.specs.declared.layout.Bits.{Bits}
use Rattle.kernel_base.specs.declared.value.Value.TheVariants as made
use Rattle.kernel_base.specs.Value.{powersets_of}
use Rattle.kernel_base.specs.Facts.{IsPowerset, IsLaidOut}
use Rattle.world_check.specs.Opening.{HasFewMembers, HasFewMembersEach, SoundFactsLaw}

-- the number at place k of numbers that rise is at least k
at_least : (xs : List ℕ) (k : ℕ) → IsStrictlyIncreasing xs → k < length xs → k ≤ get_or xs k 0
at_least xs zero rise low = omega arith
at_least xs (suc k) rise low =
    let before : k ≤ get_or xs k 0 = at_least xs k rise (omega arith) in
    let next : get_or xs k 0 < get_or xs (k + 1) 0 = rise k (omega arith) in
    let same : get_or xs (k + 1) 0 ≡ get_or xs (suc k) 0 = ap (λ (n : ℕ). get_or xs n 0) (add-one k) in
    omega arith

few_if : (size count : ℕ) (xs : List ℕ) → length xs ≡ count → IsStrictlyIncreasing xs → All (λ offset. offset < size) xs → length xs ≤ size
few_if size zero xs is rise below = omega arith
few_if size (suc n) xs is rise below =
    let last : n ≤ get_or xs n 0 = at_least xs n rise (omega arith) in
    let low : get_or xs n 0 < size = All-get_or (λ (offset : ℕ). offset < size) xs n 0 (omega arith) below in
    omega arith

few_of_each : (powersets : List (ℕ × List ℕ)) → All IsPowerset powersets → All HasFewMembers powersets
few_of_each [] all = All-nil HasFewMembers
few_of_each (powerset ∷ powersets) all =
    let here : IsPowerset powerset = All-head IsPowerset powerset powersets all in
    All-cons HasFewMembers powerset powersets (few_if powerset.0 (length powerset.1) powerset.1 refl here.rise here.below) (few_of_each powersets (All-tail IsPowerset powerset powersets all))

pub sound_facts : SoundFactsLaw
sound_facts facts sound =
    let value_at = (λ (i : ℕ). get_or facts.store i (made.Number (pos 0))) in
    let none : List Bits = [] in
    All-from_get_or HasFewMembersEach facts.store (made.Number (pos 0)) (λ i low.
    let same : length facts.layouts ≡ length facts.store = sound.locations in
    let layout : List Bits = get_or facts.layouts i none in
    let laid : IsLaidOut (value_at i) layout =
    sound.laid_out i (value_at i) layout (slice_get-get_or facts.store i (made.Number (pos 0)) low) (slice_get-get_or facts.layouts i none (omega arith)) in
    few_of_each (powersets_of (value_at i)) laid.powersets)
