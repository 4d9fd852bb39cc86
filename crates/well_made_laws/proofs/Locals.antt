-- Locals of one body that are defined apart have different numbers.
use Rattle.std.proofs.lemmas.Bool.{cases_lt, eqb-true}
use Rattle.std.proofs.Common.{◌≡◌, ◌<◌, ◌≤◌, ℕ, zero, suc, ◌==◌, Bool, true, false, List, [], ◌∷◌, Option, Some, None, length, take, inl, inr, refl, sym, ap, ◌∙◌, subst, arith}
use Rattle.std.specs.Prelude.{not, cond, if◌then◌else◌, slice_get}
use Rattle.std.specs.List.{filter}
use Rattle.checked_program.specs.declared.expr.Base.{Base}
use Rattle.checked_program.specs.declared.expr.Base.TheVariants as bases
use Rattle.checks_model.specs.ProcessRules.{meets_event, meets_buffer, meets_nothing}
use Rattle.elaborated_laws.proofs.Told.{no_some, same_some}
use Rattle.elaboration_model.specs.Numbering.{Source, Row, Thing, a_shared, a_local, an_event, a_buffer, a_message, a_region, a_body, no_thing, has_body, is_shared, is_signal, is_region_origin, is_local_of, count_before, body_number, body_around, thing_directly, local_in, thing_by, thing_of, local_number}
use Rattle.elaboration_model.specs.Expressions.{base_of}
use Rattle.within_laws.specs.Within.{IsOfBody}
use Rattle.code_laws.specs.Counters.{is_other}

-- ---- rows before a number

passed : (test : Row → Bool) (k : ℕ) (q : Row) (rs : List Row) (b : Bool) → test q ≡ b → count_before test (suc k) (q ∷ rs) ≡ (if b then suc (count_before test k rs) else count_before test k rs)
passed test k q rs true is = ap (λ b. length (cond b (q ∷ filter test (take k rs)) (filter test (take k rs)))) is
passed test k q rs false is = ap (λ b. length (cond b (q ∷ filter test (take k rs)) (filter test (take k rs)))) is

one_more : (test : Row → Bool) (x d : ℕ) (q : Row) (rs : List Row) (b : Bool) → test q ≡ b → count_before test x rs < count_before test d rs → count_before test (suc x) (q ∷ rs) < count_before test (suc d) (q ∷ rs)
one_more test x d q rs true is few = let one = passed test x q rs true is in let other = passed test d q rs true is in omega (arith, one, other, few)
one_more test x d q rs false is few = let one = passed test x q rs false is in let other = passed test d q rs false is in omega (arith, one, other, few)

-- more rows pass before a later row, where an earlier one does
pub fewer_before : (test : Row → Bool) (x d : ℕ) (rs : List Row) (r : Row) → slice_get rs x ≡ Some r → test r ≡ true → x < d → count_before test x rs < count_before test d rs
fewer_before test x zero rs r at passes less = absurd (omega (arith, less))
fewer_before test x (suc d) [] r at passes less = no_some r at
fewer_before test zero (suc d) (q ∷ rs) r at passes less = let more = passed test d q rs true (ap test (same_some q r at) ∙ passes) in omega (arith, more)
fewer_before test (suc x) (suc d) (q ∷ rs) r at passes less = one_more test x d q rs (test q) refl (fewer_before test x d rs r at passes (omega (arith, less)))

no_fewer_more : (test : Row → Bool) (x d : ℕ) (q : Row) (rs : List Row) (b : Bool) → test q ≡ b → count_before test x rs ≤ count_before test d rs → count_before test (suc x) (q ∷ rs) ≤ count_before test (suc d) (q ∷ rs)
no_fewer_more test x d q rs true is few = let one = passed test x q rs true is in let other = passed test d q rs true is in omega (arith, one, other, few)
no_fewer_more test x d q rs false is few = let one = passed test x q rs false is in let other = passed test d q rs false is in omega (arith, one, other, few)

-- no fewer rows pass before a later row
pub no_fewer : (test : Row → Bool) (x d : ℕ) (rs : List Row) → x ≤ d → count_before test x rs ≤ count_before test d rs
no_fewer test zero d rs less = omega arith
no_fewer test (suc x) zero rs less = absurd (omega (arith, less))
no_fewer test (suc x) (suc d) [] less = omega arith
no_fewer test (suc x) (suc d) (q ∷ rs) less = no_fewer_more test x d q rs (test q) refl (no_fewer test x d rs (omega (arith, less)))

-- ---- what is a local

abbrev body_in_thing : Thing → Option ℕ
body_in_thing (a_local b k) = Some b
body_in_thing th = None

module _ (s : Source) where
  pub record LocalRow (d c k : ℕ) : Type 0 where
    pub row : Row
    pub is : slice_get s.rows d ≡ Some row
    pub passes : is_local_of s.rows c row ≡ true
    pub number : count_before (is_local_of s.rows c) d s.rows ≡ k

  directly : {A : Type 0} (d c k : ℕ) (r : Row) → thing_directly s.rows d r ≡ a_local c k → A
  directly d c k r is = by (is_shared meets_nothing r) (is_shared meets_event r) (is_shared meets_buffer r) (is_signal r.origin) (is_region_origin r.origin) (has_body r.origin) (ap body_in_thing is)
    where
      by : {A : Type 0} (l m n o p q : Bool)
          → body_in_thing (if l then a_shared (count_before (is_shared meets_nothing) d s.rows)
          else (if m then an_event (count_before (is_shared meets_event) d s.rows)
          else (if n then a_buffer (count_before (is_shared meets_buffer) d s.rows)
          else (if o then a_message (count_before (λ r. is_signal r.origin) d s.rows)
          else (if p then a_region (count_before (λ r. is_region_origin r.origin) d s.rows) else (if q then a_body (body_number s.rows d) else no_thing)))))) ≡ Some c
          → A
      by true m n o p q same = no_some c same
      by false true n o p q same = no_some c same
      by false false true o p q same = no_some c same
      by false false false true p q same = no_some c same
      by false false false false true q same = no_some c same
      by false false false false false true same = no_some c same
      by false false false false false false same = no_some c same

  tested : (d c k e : ℕ) (r : Row) (b : Bool) → slice_get s.rows d ≡ Some r → is_local_of s.rows e r ≡ b → (if b then a_local e (count_before (is_local_of s.rows e) d s.rows) else no_thing) ≡ a_local c k → LocalRow d c k
  tested d c k e r true at passes is =
      let same = same_some e c (ap body_in_thing is) in
      record {
        row = r;
        is = at;
        passes = subst (λ x. is_local_of s.rows x r ≡ true) same passes;
        number = ap (λ x. count_before (is_local_of s.rows x) d s.rows) (sym same) ∙ same_some (count_before (is_local_of s.rows e) d s.rows) k (ap local_number is);
      }
  tested d c k e r false at passes is = no_some c (ap body_in_thing is)

  pub local_row : (d c k : ℕ) → thing_of s.rows d ≡ a_local c k → LocalRow d c k
  local_row d c k is = by (slice_get s.rows d) refl is
    where
      by_inside : (r : Row) (b : Option ℕ) → slice_get s.rows d ≡ Some r → local_in s.rows d r b ≡ a_local c k → LocalRow d c k
      by_inside r None at is = directly d c k r is
      by_inside r (Some e) at is = tested d c k e r (is_local_of s.rows e r) at refl is

      by : (o : Option Row) → slice_get s.rows d ≡ o → thing_by s.rows d o ≡ a_local c k → LocalRow d c k
      by None at is = no_some c (ap body_in_thing is)
      by (Some r) at is = by_inside r (body_around s.rows r.inside) at is

  -- two locals of one body and one number are defined at once
  pub one_local : (d e c k : ℕ) → thing_of s.rows d ≡ a_local c k → thing_of s.rows e ≡ a_local c k → d ≡ e
  one_local d e c k first other =
      let x = local_row d c k first in
      let y = local_row e c k other in
      let test = is_local_of s.rows c in
      let one = x.number in
      let two = y.number in
      elim (cases_lt d e) [
        | inl less ↦ (let few = fewer_before test d e s.rows x.row x.is x.passes less in absurd (omega (arith, few, one, two)))
        | inr more ↦ elim (cases_lt e d) [
          | inl less ↦ (let few = fewer_before test e d s.rows y.row y.is y.passes less in absurd (omega (arith, few, one, two)))
          | inr no_less ↦ omega (arith, more, no_less)
        ]
      ]

  differs : (k j : ℕ) → (k ≡ j → ⊥) → not (k == j) ≡ true
  differs k j apart = by (k == j) refl
    where
      by : (b : Bool) → (k == j) ≡ b → not b ≡ true
      by true is = absurd (apart (eqb-true k j is))
      by false is = refl

  -- a local that a name stands for
  pub as_local : (d k : ℕ) → local_number (thing_of s.rows d) ≡ Some k → (c : ℕ) × (thing_of s.rows d ≡ a_local c k)
  as_local d k is = by (thing_of s.rows d) is
    where
      by : (th : Thing) → local_number th ≡ Some k → (c : ℕ) × (th ≡ a_local c k)
      by (a_local c j) is = (c, ap (a_local c) (same_some j k is))
      by (a_shared j) is = no_some k is
      by (an_event j) is = no_some k is
      by (a_buffer j) is = no_some k is
      by (a_message j) is = no_some k is
      by (a_region j) is = no_some k is
      by (a_body j) is = no_some k is
      by no_thing is = no_some k is

  module _ (b k0 d0 : ℕ) (counter : thing_of s.rows d0 ≡ a_local b k0) where
    local_apart : (d c k : ℕ) → c ≡ b → (d ≡ d0 → ⊥) → thing_of s.rows d ≡ a_local c k → not (k == k0) ≡ true
    local_apart d c k same apart is = differs k k0 (λ alike. apart (one_local d d0 b k0 (is ∙ (ap (λ x. a_local x k) same ∙ ap (a_local b) alike)) counter))

    -- what is defined apart from the counter is another
    pub number_apart : (d k : ℕ) → IsOfBody b (thing_of s.rows d) → (d ≡ d0 → ⊥) → local_number (thing_of s.rows d) ≡ Some k → not (k == k0) ≡ true
    number_apart d k own apart is = let l = as_local d k is in local_apart d l.0 k (subst (IsOfBody b) l.1 own) apart l.1

    pub base_apart : (d : ℕ) (base : Base) → IsOfBody b (thing_of s.rows d) → (d ≡ d0 → ⊥) → base_of (thing_of s.rows d) ≡ Some base → is_other k0 base ≡ true
    base_apart d base own apart is = by (thing_of s.rows d) refl own is
      where
        by : (th : Thing) → thing_of s.rows d ≡ th → IsOfBody b th → base_of th ≡ Some base → is_other k0 base ≡ true
        by (a_local c k) at same is = subst (λ x. is_other k0 x ≡ true) (same_some (bases.Local k) base is) (local_apart d c k same apart at)
        by (a_shared j) at same is = subst (λ x. is_other k0 x ≡ true) (same_some (bases.Shared j) base is) refl
        by (an_event j) at same is = no_some base is
        by (a_buffer j) at same is = no_some base is
        by (a_message j) at same is = no_some base is
        by (a_region j) at same is = no_some base is
        by (a_body j) at same is = no_some base is
        by no_thing at same is = no_some base is
