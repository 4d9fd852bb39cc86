-- What comes of operands: each way to read them leads to an action that keeps a fact, where each of its outcomes does.
use Rattle.std.proofs.Common.{◌≡◌, refl, ℕ, suc, ◌+◌, ◌≤◌, Bool, true, false, List, [], ◌∷◌, ℤ, length, take, drop, nat_le, Some, None, arith, rules, tests}
use Rattle.std.specs.Prelude.{if◌then◌else◌, All}
use Rattle.std.proofs.lemmas.List.{length-take, length-drop}
use Rattle.std.proofs.lemmas.List.Elements.{All-cons}
use Rattle.std.specs.declared.option.Option.{Option}
use Rattle.kernel_base.specs.declared.ends.Exc.{Exc}
use Rattle.kernel_base.specs.declared.ends.Exc.TheVariants.{Rangefail, Empty}
use Rattle.kernel_base.specs.declared.request.Alternative.{Alternative}
use Rattle.kernel_base.specs.declared.request.Request.{Request}
use Rattle.kernel_base.specs.declared.request.Request.TheVariants.{Delay as AsksDelay, Put}
use Rattle.code_types.specs.Operands.{part_of, offset_of, number_in, with_triple, slot_in, Triples, triples_of}
use Rattle.code_types.specs.Actions.{Action, Pushes, Sets, Throws, Requests, Halts, with_one, with_two, with_lowest, result_or, numbers_or, member_or_empty, at_offset, in_frame, set_in_frame, set_at, asks, with_number, receives, delays, puts}
use Rattle.code_types.specs.State.{Slot}

pub keeps_one : (P : Action → Type 0) (next : ℤ → Action) (xs : List ℤ) → length xs ≡ 1 → ((x : ℤ) → P (next x)) → P (with_one xs next)
keeps_one P next [] h each = absurd (omega arith)
keeps_one P next (x ∷ []) h each = each x
keeps_one P next (x ∷ y ∷ zs) h each = absurd (omega arith)

pub keeps_two : (P : Action → Type 0) (next : ℤ → ℤ → Action) (xs : List ℤ) → length xs ≡ 2 → ((x y : ℤ) → P (next x y)) → P (with_two xs next)
keeps_two P next [] h each = absurd (omega arith)
keeps_two P next (x ∷ []) h each = absurd (omega arith)
keeps_two P next (x ∷ y ∷ []) h each = each x y
keeps_two P next (x ∷ y ∷ z ∷ zs) h each = absurd (omega arith)

pub keeps_lowest : (P : Action → Type 0) (next : ℤ → List ℤ → Action) (n : ℕ) (xs : List ℤ) → length xs ≡ 1 + n → ((x : ℤ) (ys : List ℤ) → length ys ≡ n → P (next x ys)) → P (with_lowest xs next)
keeps_lowest P next n [] h each = absurd (omega arith)
keeps_lowest P next n (x ∷ xs) h each = each x xs (omega arith)

pub keeps_result : (P : Action → Type 0) (exception : Exc) (o : Option ℤ) → P (Throws exception) → ((z : ℤ) → P (Pushes (z ∷ []))) → P (result_or exception o)
keeps_result P exception None throws pushes = throws
keeps_result P exception (Some z) throws pushes = pushes z

pub keeps_member : (P : Action → Type 0) (o : Option ℕ) → P (Throws Empty) → ((z : ℤ) → P (Pushes (z ∷ []))) → P (member_or_empty o)
keeps_member P None throws pushes = throws
keeps_member P (Some k) throws pushes = pushes _

pub keeps_offset : (P : Action → Type 0) (o : Option ℕ) (next : ℕ → Action) → P (Throws Rangefail) → ((k : ℕ) → P (next k)) → P (at_offset o next)
keeps_offset P None next throws each = throws
keeps_offset P (Some k) next throws each = each k

pub keeps_number : (P : Action → Type 0) (z : ℤ) (next : ℕ → Action) → P (Throws Rangefail) → ((k : ℕ) → P (next k)) → P (with_number z next)
keeps_number P z next throws each = keeps_offset P (number_in z) next throws each

-- what a test chooses between
pub by_test : {A : Type 0} (P : A → Type 0) (b : Bool) (x y : A) → (b ≡ true → P x) → (b ≡ false → P y) → P (if b then x else y)
by_test P true x y holds fails = holds refl
by_test P false x y holds fails = fails refl

pub le_tells : (m n : ℕ) → nat_le m n ≡ true → m ≤ n
le_tells m n h = search (rules, tests)

pub le_true : (m n : ℕ) → m ≤ n → nat_le m n ≡ true
le_true m n h = search (rules, tests)

-- a part that is there has its count
part_long : (xs : List ℤ) (first count : ℕ) → first + count ≤ length xs → length (take count (drop first xs)) ≡ count
part_long xs first count h = simp (length-take, length-drop) (omega arith)

pub keeps_part : (P : Action → Type 0) (exception : Exc) (xs : List ℤ) (first count : ℕ) → P (Throws exception) → ((zs : List ℤ) → length zs ≡ count → P (Pushes zs)) → P (numbers_or exception (part_of xs first count))
keeps_part P exception xs first count throws pushes =
    by_test (λ o. P (numbers_or exception o)) (nat_le (first + count) (length xs)) (Some (take count (drop first xs))) None
    (λ e. pushes (take count (drop first xs)) (part_long xs first count (le_tells (first + count) (length xs) e)))
    (λ e. throws)

pub keeps_framed : (P : Action → Type 0) (xs : List ℤ) (first count : ℕ) → first + count ≤ length xs → ((zs : List ℤ) → length zs ≡ count → P (Pushes zs)) → P (in_frame (part_of xs first count))
keeps_framed P xs first count within pushes =
    by_test (λ o. P (in_frame o)) (nat_le (first + count) (length xs)) (Some (take count (drop first xs))) None
    (λ e. pushes (take count (drop first xs)) (part_long xs first count within))
    (λ e. let yes = le_true (first + count) (length xs) within in absurd (let no : ⊥ = cc in no))

pub keeps_set_in_frame : (P : Action → Type 0) (locals first : ℕ) (zs : List ℤ) → first + length zs ≤ locals → P (Sets first zs) → P (set_in_frame locals first zs)
keeps_set_in_frame P locals first zs within sets =
    by_test P (nat_le (first + length zs) locals) (Sets first zs) Halts (λ e. sets) (λ e. let yes = le_true (first + length zs) locals within in absurd (let no : ⊥ = cc in no))

pub keeps_set_at : (P : Action → Type 0) (locals first : ℕ) (zs : List ℤ) → P (Throws Rangefail) → (first + length zs ≤ locals → P (Sets first zs)) → P (set_at locals first zs)
keeps_set_at P locals first zs throws sets =
    by_test P (nat_le (first + length zs) locals) (Sets first zs) (Throws Rangefail) (λ e. sets (le_tells (first + length zs) locals e)) (λ e. throws)

pub keeps_delays : (P : Action → Type 0) (priority : ℕ) (o : Option (List Alternative)) → P (Throws Rangefail) → ((events : List Alternative) → P (asks (AsksDelay events priority))) → P (delays priority o)
keeps_delays P priority None throws each = throws
keeps_delays P priority (Some events) throws each = each events

pub keeps_puts : (P : Action → Type 0) (o : Option (List ℕ)) → P (Throws Rangefail) → ((bytes : List ℕ) → P (asks (Put bytes))) → P (puts o)
keeps_puts P None throws each = throws
keeps_puts P (Some bytes) throws each = each bytes

-- slots that lie in so many locals
abbrev pub Lie : ℕ → List Slot → Type 0
Lie locals slots = All (λ slot. slot.local + slot.count ≤ locals) slots

-- triples whose slots lie in so many locals, and are at most so many
abbrev pub TriplesLie : ℕ → ℕ → Option Triples → Type 0
TriplesLie locals most None = Unit {0}
TriplesLie locals most (Some triples) = Lie locals triples.slots × (length triples.slots ≤ most)

abbrev SlotLies : ℕ → Option Slot → Type 0
SlotLies locals None = Unit {0}
SlotLies locals (Some slot) = slot.local + slot.count ≤ locals

slot_lies : (locals : ℕ) (local count : Option ℕ) → SlotLies locals (slot_in locals local count)
slot_lies locals (Some local) (Some count) =
    by_test (SlotLies locals) (nat_le (local + count) locals) (Some (record { local = local; count = count })) None (λ e. le_tells (local + count) locals e) (λ e. tt)
slot_lies locals (Some local) None = tt
slot_lies locals None count = tt

more_lie : (locals most number : ℕ) (thing : Option ℕ) (slot : Option Slot) (rest : Option Triples) → SlotLies locals slot → TriplesLie locals most rest → TriplesLie locals (suc (suc (suc most))) (with_triple number thing slot rest)
more_lie locals most number (Some thing) (Some slot) (Some rest) one all = (All-cons (λ (s : Slot). s.local + s.count ≤ locals) slot rest.slots one all.0, (let few = all.1 in omega arith))
more_lie locals most number (Some thing) (Some slot) None one all = tt
more_lie locals most number (Some thing) None rest one all = tt
more_lie locals most number None slot rest one all = tt

pub no_slots_lie : (locals : ℕ) → Lie locals []
no_slots_lie locals = λ k d h. absurd (omega arith)

pub triples_lie : (locals number : ℕ) (xs : List ℤ) → TriplesLie locals (length xs) (triples_of locals number xs)
triples_lie locals number [] = (no_slots_lie locals, omega arith)
triples_lie locals number (thing ∷ []) = tt
triples_lie locals number (thing ∷ local ∷ []) = tt
triples_lie locals number (thing ∷ local ∷ count ∷ rest) =
    more_lie locals (length rest) number (number_in thing) (slot_in locals (offset_of local) (offset_of count)) (triples_of locals (suc number) rest)
    (slot_lies locals (offset_of local) (offset_of count)) (triples_lie locals (suc number) rest)

pub keeps_receives : (P : Action → Type 0) (locals most : ℕ) (o : Option Triples) (request : Triples → Request) → TriplesLie locals most o → P (Throws Rangefail)
    → ((triples : Triples) → Lie locals triples.slots → length triples.slots ≤ most → P (Requests (request triples) triples.slots)) → P (receives o request)
keeps_receives P locals most None request lie throws each = throws
keeps_receives P locals most (Some triples) request lie throws each = each triples lie.0 lie.1
