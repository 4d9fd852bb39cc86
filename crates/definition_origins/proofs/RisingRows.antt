-- Where places rise, the first row that doesn't stand before a place tells what stands there; and the definitions of a text.
use Rattle.std.proofs.Common.{◌≡◌, ◌<◌, ◌≤◌, ◌-◌, ◌⊎◌, inl, inr, ℕ, zero, suc, Bool, true, false, List, [], ◌∷◌, ◌++◌, length, drop, take, refl, sym, subst, ap, ◌∙◌, Option, Some, None, arith, length-append}
use Rattle.std.specs.Prelude.{◌==◌, ◌&&◌, ◌||◌, nat_lt, slice_index_or, if◌then◌else◌}
use Rattle.std.proofs.lemmas.Bool.{ltb-true, ltb-false, lt-ltb, eqb-true, eq-eqb}
use Rattle.std.proofs.lemmas.List.{take-append-le, take_all}
use Rattle.chill_base.specs.declared.pos.Pos.{Pos}
use Rattle.names_model.specs.declared.definition.Definition.{Definition}
use Rattle.names_model.specs.declared.names.Resolved.{Resolved}
use Rattle.names_model.specs.Definitions.{predefined, with_predefined}
use Rattle.names_laws.specs.Rising.{Precedes, PrecedesEach, Rise, use_places}
use Rattle.checks_model.specs.Ground.{same_place, number_at}
use Rattle.definition_origins.specs.Uses.{precedes, first_at, text_of}

-- ---- two places

precedes_on : (p q r : Pos) → Precedes p q → Precedes q r → Precedes p r
precedes_on p q r (inl lines) (inl more) = inl (omega (arith, lines, more))
precedes_on p q r (inl lines) (inr more) = inl (omega (arith, lines, more.0))
precedes_on p q r (inr lines) (inl more) = inl (omega (arith, lines.0, more))
precedes_on p q r (inr lines) (inr more) = inr (lines.0 ∙ more.0, omega (arith, lines.1, more.1))

or-true : (b : Bool) → (b || true) ≡ true
or-true true = refl
or-true false = refl

and-false : (b : Bool) → (b && false) ≡ false
and-false true = refl
and-false false = refl

pub before : (p q : Pos) → Precedes p q → precedes p q ≡ true
before p q (inl lines) = rw (lt-ltb p.line q.line lines) refl
before p q (inr columns) = rw (eq-eqb p.line q.line columns.0, lt-ltb p.column q.column columns.1) (or-true (nat_lt p.line q.line))

stands_before : (p q : Pos) → precedes p q ≡ true → Precedes p q
stands_before p q e = by (nat_lt p.line q.line) (p.line == q.line) (nat_lt p.column q.column) refl refl refl e
  where
    by : (a b c : Bool) → nat_lt p.line q.line ≡ a → (p.line == q.line) ≡ b → nat_lt p.column q.column ≡ c → (a || (b && c)) ≡ true → Precedes p q
    by true b c f g h i = inl (ltb-true p.line q.line f)
    by false true true f g h i = inr (eqb-true p.line q.line g, ltb-true p.column q.column h)
    by false true false f g h i = cc
    by false false c f g h i = cc

above : (m n : ℕ) → nat_lt m n ≡ false → (m == n) ≡ false → n < m
above m n less same = by (n < m) (ltb-false m n less)
  where
    apart : m ≡ n → ⊥
    apart e = absurd (let f : true ≡ false = sym (eq-eqb m n e) ∙ same in cc)

    by : (A : Type 0) → n ≤ m → n < m
    by A le = omega (arith, le, apart)

stands_behind : (p q : Pos) → precedes p q ≡ false → same_place p q ≡ false → Precedes q p
stands_behind p q e s = by (nat_lt p.line q.line) (p.line == q.line) (nat_lt p.column q.column) (p.column == q.column) refl refl refl refl e s
  where
    by : (a b c d : Bool) → nat_lt p.line q.line ≡ a → (p.line == q.line) ≡ b → nat_lt p.column q.column ≡ c → (p.column == q.column) ≡ d → (a || (b && c)) ≡ false → (b && d) ≡ false → Precedes q p
    by true b c d f g h i j k = cc
    by false true true d f g h i j k = cc
    by false true false true f g h i j k = cc
    by false true false false f g h i j k = inr (sym (eqb-true p.line q.line g), above p.column q.column h i)
    by false false c d f g h i j k = inl (above p.line q.line f g)

less_apart : (m n : ℕ) → m < n → (m == n) ≡ false
less_apart m n less = by (m == n) refl
  where
    by : (b : Bool) → (m == n) ≡ b → (m == n) ≡ false
    by false e = e
    by true e = absurd (let same : m ≡ n = eqb-true m n e in omega arith)

more_apart : (m n : ℕ) → n < m → (m == n) ≡ false
more_apart m n less = by (m == n) refl
  where
    by : (b : Bool) → (m == n) ≡ b → (m == n) ≡ false
    by false e = e
    by true e = absurd (let same : m ≡ n = eqb-true m n e in omega arith)

apart_before : (p q : Pos) → Precedes p q → same_place p q ≡ false
apart_before p q (inl lines) = rw (less_apart p.line q.line lines) refl
apart_before p q (inr columns) = rw (less_apart p.column q.column columns.1) (and-false (p.line == q.line))

apart_behind : (p q : Pos) → Precedes q p → same_place p q ≡ false
apart_behind p q (inl lines) = rw (more_apart p.line q.line lines) refl
apart_behind p q (inr columns) = rw (more_apart p.column q.column columns.1) (and-false (p.line == q.line))

-- ---- rows whose places rise

each_index : (p : Pos) (us : List Resolved) (j : ℕ) (d : Resolved) → PrecedesEach p (use_places us) → j < length us → Precedes p (slice_index_or us j d).at
each_index p [] j d each less = absurd (omega (arith, less))
each_index p (u ∷ us) zero d each less = each.0
each_index p (u ∷ us) (suc j) d each less = each_index p us j d each.1 (omega (arith, less))

-- what `partition_point` asks
pub partitioned : (us : List Resolved) (at : Pos) → Rise (use_places us) → (i j : ℕ) (d : Resolved) → i ≤ j → j < length us → precedes (slice_index_or us j d).at at ≡ true → precedes (slice_index_or us i d).at at ≡ true
partitioned [] at rise i j d le less e = absurd (omega (arith, less))
partitioned (u ∷ us) at rise zero zero d le less e = e
partitioned (u ∷ us) at rise zero (suc j) d le less e =
    let v = slice_index_or us j d in
    before u.at at (precedes_on u.at v.at at (each_index u.at us j d rise.0 (omega (arith, less))) (stands_before v.at at e))
partitioned (u ∷ us) at rise (suc i) zero d le less e = absurd (omega (arith, le))
partitioned (u ∷ us) at rise (suc i) (suc j) d le less e = partitioned us at rise.1 i j d (omega (arith, le)) (omega (arith, less)) e

none_there : (us : List Resolved) (at : Pos) → PrecedesEach at (use_places us) → number_at us at ≡ None
none_there [] at each = refl
none_there (u ∷ us) at each = rw (apart_behind u.at at each.0) (none_there us at each.1)

each_on : (p q : Pos) (qs : List Pos) → Precedes p q → PrecedesEach q qs → PrecedesEach p qs
each_on p q [] first each = tt
each_on p q (r ∷ qs) first each = (precedes_on p q r first each.0, each_on p q qs first each.1)

first_of_none : (k : ℕ) (at : Pos) → None ≡ first_at (drop k []) at
first_of_none zero at = refl
first_of_none (suc k) at = refl

-- the first row that doesn't stand before the place is there, or none is
pub parted : (us : List Resolved) (at : Pos) (k : ℕ) → Rise (use_places us)
    → ((j : ℕ) (d : Resolved) → 0 ≤ j → j < k → precedes (slice_index_or us j d).at at ≡ true)
    → ((j : ℕ) (d : Resolved) → k ≤ j → j < length us → precedes (slice_index_or us j d).at at ≡ false)
    → number_at us at ≡ first_at (drop k us) at
parted [] at k rise early late = first_of_none k at
parted (u ∷ us) at zero rise early late = by (same_place u.at at) refl
  where
    by : (b : Bool) → same_place u.at at ≡ b → number_at (u ∷ us) at ≡ first_at (u ∷ us) at
    by true e = rw e refl
    by false e = rw e (none_there us at (each_on at u.at (use_places us) (stands_behind u.at at (late 0 u (omega arith) (omega arith)) e) rise.0))
parted (u ∷ us) at (suc k) rise early late =
    rw (apart_before u.at at (stands_before u.at at (early 0 u (omega arith) (omega arith))))
    (parted us at k rise.1 (λ j d le less. early (suc j) d (omega arith) (omega (arith, less))) (λ j d le less. late (suc j) d (omega (arith, le)) (omega (arith, less))))

-- ---- the definitions of a text

-- what stands in front of the predefined definitions
pub text_alone : (text : List Definition) → text_of (with_predefined text) ≡ text
text_alone text = rw (length-append text predefined) (grind (arith, take-append-le, take_all))
