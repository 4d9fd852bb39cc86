-- Layouts that are gone through place by place.
use Rattle.std.proofs.Common.{◌≡◌, ◌⊎◌, inl, inr, ℕ, ◌+◌, ◌-◌, ◌<◌, ◌≤◌, Bool, true, false, List, [], ◌∷◌, ◌++◌, ℤ, pos, length, get_or, take, drop, take_all, length-drop, get_or-drop, refl, sym, ◌∙◌, subst, arith, Some, IfSome}
use Rattle.std.specs.Prelude.{All, AllPairs, slice_get, IsTrue, ◌↔◌, nat_lt, min, max}
use Rattle.std.specs.declared.option.Option.{Option}
use Rattle.std.proofs.lemmas.Bool.{cases_lt, ltb-true, lt-ltb}
use Rattle.std.proofs.lemmas.List.{drop_more, drop_all, take_more}
use Rattle.std.proofs.lemmas.List.Elements.{All-nil, All-cons, All-head, All-tail, All-from_get_or}
use Rattle.std.proofs.lemmas.List.Kept.{AllPairs-cons}
use Rattle.std.proofs.lemmas.Option.{get_or_from_slice_get, slice_get-get_or, slice_get_within}
use Rattle.chill_base.specs.declared.layout.Bits.{Bits}
use Rattle.kernel_base.specs.declared.facts.Facts.{Facts}
use Rattle.kernel_base.specs.declared.value.Value.{Value}
use Rattle.kernel_base.specs.Facts.{IsWithinBits, ShareNoBit, IsLaidOut, IsSound}
use Rattle.sound_facts.specs.Layouts.{FitLayout, IsWithinAt, IsLaidOutAt, AreLaidOut}

abbrev pub no_bits : Bits
no_bits = record { word = 0; start = 0; end = 0; signed = false }

-- one place before those that are apart
pub apart_more : (layout behind : List Bits) (i : ℕ) → i < length layout → behind ≡ drop (i + 1) layout → All (ShareNoBit (get_or layout i no_bits)) behind
    → AllPairs ShareNoBit (drop (i + 1) layout) → AllPairs ShareNoBit (drop i layout)
apart_more layout behind i low same here apart =
    subst (AllPairs ShareNoBit) (sym (drop_more layout i no_bits low))
    (AllPairs-cons ShareNoBit (get_or layout i no_bits) (drop (i + 1) layout) (subst (All (ShareNoBit (get_or layout i no_bits))) same here) apart)

-- the slice behind a place
pub rest_is : (layout : List Bits) (n : ℕ) → take (length layout - n) (drop n layout) ≡ drop n layout
rest_is layout n = take_all (length layout - n) (drop n layout) (omega (arith, length-drop n layout))

none_apart : AllPairs ShareNoBit []
none_apart i j d less below = absurd (let no : ⊥ = omega arith in no)

pub apart_none : (layout : List Bits) (i : ℕ) → length layout ≤ i → AllPairs ShareNoBit (drop i layout)
apart_none layout i low = subst (AllPairs ShareNoBit) (sym (drop_all i layout low)) none_apart

all_joined : {X : Type 0} (P : X → Type 0) (xs ys : List X) → All P xs → All P ys → All P (xs ++ ys)
all_joined P [] ys all more = more
all_joined P (x ∷ xs) ys all more = All-cons P x (xs ++ ys) (All-head P x xs all) (all_joined P xs ys (All-tail P x xs all) more)

-- one more of the others is apart
pub apart_from_more : (bits : Bits) (others : List Bits) (i : ℕ) → i < length others → All (ShareNoBit bits) (take i others) → ShareNoBit bits (get_or others i no_bits) → All (ShareNoBit bits) (take (i + 1) others)
apart_from_more bits others i low before here =
    subst (All (ShareNoBit bits)) (sym (take_more others i no_bits low))
    (all_joined (ShareNoBit bits) (take i others) (get_or others i no_bits ∷ []) before (All-cons (ShareNoBit bits) (get_or others i no_bits) [] here (All-nil (ShareNoBit bits))))

pub apart_from_all : (bits : Bits) (others : List Bits) (i : ℕ) → length others ≤ i → All (ShareNoBit bits) (take i others) → All (ShareNoBit bits) others
apart_from_all bits others i low all = subst (All (ShareNoBit bits)) (take_all i others low) all

-- of those that are apart, one place and those behind it
pub apart_here : (layout behind : List Bits) (i : ℕ) → i < length layout → behind ≡ drop (i + 1) layout → AllPairs ShareNoBit layout → All (ShareNoBit (get_or layout i no_bits)) behind
apart_here layout behind i low same apart =
    subst (All (ShareNoBit (get_or layout i no_bits))) (sym same)
    (All-from_get_or (ShareNoBit (get_or layout i no_bits)) (drop (i + 1) layout) no_bits (λ k below.
    let less : i + 1 + k < length layout = omega (arith, length-drop (i + 1) layout) in
    let there : ShareNoBit (get_or layout i no_bits) (get_or layout (i + 1 + k) no_bits) = apart i (i + 1 + k) no_bits (omega arith) less in
    subst (ShareNoBit (get_or layout i no_bits)) (sym (get_or-drop (i + 1) layout k no_bits)) there))

-- a bit of both
shared : (a b : Bits) (bit : ℕ) → a.word ≡ b.word → a.start ≤ bit → b.start ≤ bit → bit ≤ a.end → bit ≤ b.end → ShareNoBit a b → ⊥
shared a b bit same low low' high high' apart = apart a.word bit (record { in_word = refl; low = low; high = high }) (record { in_word = same; low = low'; high = high' })

apart_by_cases : (a b : Bits) (first last : ℕ) → a.word ≡ b.word → first ≡ max a.start b.start → last ≡ min a.end b.end → ShareNoBit a b → (last < first) ⊎ (first ≤ last) → IsTrue (nat_lt last first)
apart_by_cases a b first last same is is' apart (inl less) = lt-ltb last first less
apart_by_cases a b first last same is is' apart (inr low) = absurd (shared a b first same (omega arith) (omega arith) (omega arith) (omega arith) apart)

-- bits of one word share none exactly where the greater of the first ones lies behind the smaller of the last ones
pub apart_by_ends : (a b : Bits) (first last : ℕ) → a.word ≡ b.word → first ≡ max a.start b.start → last ≡ min a.end b.end → IsTrue (nat_lt last first) ↔ ShareNoBit a b
apart_by_ends a b first last same is is' = (
  λ less word bit has has'. let low : last < first = ltb-true last first less in omega (arith, has.low, has.high, has'.low, has'.high),
  λ apart. apart_by_cases a b first last same is is' apart (cases_lt last first),
)

-- a scalar that is tested
pub within_at : (scalars : List ℤ) (layout : List Bits) (i : ℕ) → IsWithinBits (get_or layout i no_bits) (get_or scalars i (pos 0)) → IsWithinAt scalars layout i
within_at scalars layout i within bits number got got' =
    let b : get_or layout i no_bits ≡ bits = get_or_from_slice_get layout i bits no_bits got in
    let n : get_or scalars i (pos 0) ≡ number = get_or_from_slice_get scalars i number (pos 0) got' in
    subst (IsWithinBits bits) n (subst (λ (x : Bits). IsWithinBits x (get_or scalars i (pos 0))) b within)

-- a value that is tested, with its layout
pub laid_at : (values : List Value) (layouts : List (List Bits)) (i : ℕ) (value : Value) (layout seen : List Bits) → value ≡ get_or values i value → layout ≡ get_or layouts i layout → seen ≡ layout
    → IsLaidOut value seen → IsLaidOutAt values layouts i
laid_at values layouts i value layout seen is is' same laid value' layout' got got' =
    let v : get_or values i value ≡ value' = get_or_from_slice_get values i value' value got in
    let l : get_or layouts i layout ≡ layout' = get_or_from_slice_get layouts i layout' layout got' in
    let v' : value ≡ value' = cc in
    let l' : seen ≡ layout' = cc in
    subst (IsLaidOut value') l' (subst (λ (x : Value). IsLaidOut x seen) v' laid)

-- a scalar that is tested, where they all fit
pub fits_at : (scalars : List ℤ) (layout : List Bits) (i : ℕ) → i < length layout → FitLayout scalars layout → IsWithinBits (get_or layout i no_bits) (get_or scalars i (pos 0))
fits_at scalars layout i low fit =
    fit.within i low (get_or layout i no_bits) (get_or scalars i (pos 0)) (slice_get-get_or layout i no_bits low) (slice_get-get_or scalars i (pos 0) (omega (arith, fit.count)))

-- a value that is tested, where they all have their layouts
pub laid_here : (values : List Value) (layouts : List (List Bits)) (i : ℕ) (value : Value) (layout seen : List Bits) → i < length values → i < length layouts → value ≡ get_or values i value → layout ≡ get_or layouts i layout → seen ≡ layout
    → AreLaidOut values layouts → IsLaidOut value seen
laid_here values layouts i value layout seen low low' is is' same all =
    let laid : IsLaidOut (get_or values i value) (get_or layouts i layout) = all i low (get_or values i value) (get_or layouts i layout) (slice_get-get_or values i value low) (slice_get-get_or layouts i layout low') in
    subst (λ (v : Value). IsLaidOut v seen) (sym is) (subst (IsLaidOut (get_or values i value)) (sym is' ∙ sym same) laid)

more_by : (P : ℕ → Type 0) (i k : ℕ) → ((n : ℕ) → n < i → P n) → P i → k < i + 1 → (k < i) ⊎ (i ≤ k) → P k
more_by P i k below here low (inl less) = below k less
more_by P i k below here low (inr same) = let e : i ≡ k = omega arith in subst P e here

-- what holds below a number and at it
pub more_below : (P : ℕ → Type 0) (i : ℕ) → ((n : ℕ) → n < i → P n) → P i → (k : ℕ) → k < i + 1 → P k
more_below P i below here k low = more_by P i k below here low (cases_lt k i)

-- facts of which all else is tested
pub sound_if : (facts : Facts) (values : List Value) (layouts : List (List Bits)) (processes : List (Option ℕ)) (tells : Bool) → values ≡ facts.store → layouts ≡ facts.layouts → processes ≡ facts.signals
    → length facts.layouts ≡ length facts.store → 1 ≤ facts.units → facts.units ≤ 10000000 → All (λ to. IfSome to (λ process. process < facts.processes)) processes
    → IsTrue tells ↔ AreLaidOut values layouts → IsTrue tells ↔ IsSound facts
sound_if facts values layouts processes tells is is' is'' count least greatest signals tested = (
  λ t. record {
    locations = count;
    laid_out = λ k value layout got got'.
        let at : slice_get values k ≡ Some value = cc in
        let at' : slice_get layouts k ≡ Some layout = cc in
        tested.0 t k (slice_get_within values k value at) value layout at at';
    signals = subst (All (λ to. IfSome to (λ process. process < facts.processes))) is'' signals;
    least_budget = least;
    greatest_budget = greatest;
  },
  λ sound. tested.1 (λ k low value layout got got'.
      let at : slice_get facts.store k ≡ Some value = cc in
      let at' : slice_get facts.layouts k ≡ Some layout = cc in
      sound.laid_out k value layout at at'),
)
