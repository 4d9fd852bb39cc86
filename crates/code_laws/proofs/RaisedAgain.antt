-- Rows that raise exceptions again.
use Rattle.std.proofs.Common.{◌≡◌, ℕ, zero, suc, ◌+◌, ◌<◌, ◌≤◌, if◌then◌else◌, Bool, true, false, ◌&&◌, ◌||◌, ◌==◌, nat_lt, List, [], ◌∷◌, length, Some, slice_get, le-leb, lt-ltb, eq-eqb, eqb-true, inl, inr, refl, sym, ap, ◌∙◌, subst, arith}
use Rattle.std.specs.List.{list_any, filter}
use Rattle.kernel_base.specs.declared.ends.Exc.{Exc}
use Rattle.program_trees.specs.ProgramTree.{CheckedTree}
use Rattle.code_types.specs.declared.instr.Instr.{Instr}
use Rattle.code_types.specs.declared.instr.Instr.TheVariants as i
use Rattle.code_types.specs.declared.code.Code.{Code}
use Rattle.code_types.specs.declared.code.Handler.{Handler}
use Rattle.code_types.specs.Exceptions.{exception_number, exception_of}
use Rattle.code_types.specs.Places.{taker, takes, names_exception}
use Rattle.code_scheme.specs.StatementRows.{row_for}
use Rattle.code_scheme.specs.BodyItems.{is_among, raises, can_arise, numbers_from, raised_in, raised_and_listed, raise_again_code, raise_again_rows}
use Rattle.follow_laws.specs.Follows.{HasAt, CanArise}
use Rattle.code_laws.specs.Regions.{IsRaisedAgain, ArisesAmong, RaisedAgainLaw}

or_right : (a b : Bool) → b ≡ true → (a || b) ≡ true
or_right true b e = refl
or_right false b e = e

or_left : (a b : Bool) → a ≡ true → (a || b) ≡ true
or_left true b e = refl
or_left false b e = absurd (let no : ⊥ = cc in no)

-- ---- numbers that are among others

among_filter : (f : ℕ → Bool) (z : ℕ) (xs : List ℕ) → is_among z xs ≡ true → f z ≡ true → is_among z (filter f xs) ≡ true
among_filter f z [] e holds = e
among_filter f z (x ∷ xs) e holds = by_same (x == z) refl e (λ h. among_filter f z xs h holds)
  where
    by_holds : (t : Bool) → is_among z (filter f xs) ≡ true → is_among z (if t then x ∷ filter f xs else filter f xs) ≡ true
    by_holds true h = or_right (x == z) (is_among z (filter f xs)) h
    by_holds false h = h

    by_same : (t : Bool) → (x == z) ≡ t → (t || is_among z xs) ≡ true → (is_among z xs ≡ true → is_among z (filter f xs) ≡ true) → is_among z (if f x then x ∷ filter f xs else filter f xs) ≡ true
    by_same true is h others =
        let same : x ≡ z = eqb-true x z is in
        let yes_x : f x ≡ true = ap f same ∙ holds in
        subst (λ (t : Bool). is_among z (if t then x ∷ filter f xs else filter f xs) ≡ true) (sym yes_x) (or_left (x == z) (is_among z (filter f xs)) is)
    by_same false is h others = by_holds (f x) (others h)

among_numbers : (k n z : ℕ) → k ≤ z → z < k + n → is_among z (numbers_from k n) ≡ true
among_numbers k zero z low high = absurd (let no : ⊥ = omega (arith, low, high) in no)
among_numbers k (suc n) z low high = by_same (k == z) refl (λ above. among_numbers (suc k) n z above (omega (arith, high)))
  where
    by_same : (t : Bool) → (k == z) ≡ t → (suc k ≤ z → is_among z (numbers_from (suc k) n) ≡ true) → ((k == z) || is_among z (numbers_from (suc k) n)) ≡ true
    by_same true is others = or_left (k == z) (is_among z (numbers_from (suc k) n)) is
    by_same false is others =
        let other : k ≡ z → ⊥ = λ same. (let yes_same : (k == z) ≡ true = eq-eqb k z same in let no : ⊥ = cc in no) in
        or_right (k == z) (is_among z (numbers_from (suc k) n)) (others (omega (arith, low, other)))

-- ---- what can arise

any_at : (f : Instr → Bool) (all : List Instr) (from place : ℕ) (is : List Instr) (instr : Instr) → HasAt all from is → from ≤ place → place < from + length is → slice_get all place ≡ Some instr → f instr ≡ true → list_any f is ≡ true
any_at f all from place [] instr has low high at holds = absurd (let no : ⊥ = omega (arith, low, high) in no)
any_at f all from place (j ∷ is) instr has low high at holds = by_place (from == place) refl (λ above. any_at f all (from + 1) place is instr has.1 above (omega (arith, high)) at holds)
  where
    by_place : (t : Bool) → (from == place) ≡ t → (from + 1 ≤ place → list_any f is ≡ true) → (f j || list_any f is) ≡ true
    by_place true e others =
        let same : from ≡ place = eqb-true from place e in
        let first : j ≡ instr = (let there_first : slice_get all place ≡ Some j = subst (λ (q : ℕ). slice_get all q ≡ Some j) same has.0 in cc) in
        or_left (f j) (list_any f is) (ap f first ∙ holds)
    by_place false e others =
        let other : from ≡ place → ⊥ = λ same. (let yes_same : (from == place) ≡ true = eq-eqb from place same in let no : ⊥ = cc in no) in
        or_right (f j) (list_any f is) (others (omega (arith, low, other)))

number_back : (e : ℕ) → exception_number (exception_of e) ≡ e
number_back zero = refl
number_back (suc zero) = refl
number_back (suc (suc zero)) = refl
number_back (suc (suc (suc zero))) = refl
number_back (suc (suc (suc (suc zero)))) = refl
number_back (suc (suc (suc (suc (suc zero))))) = refl
number_back (suc (suc (suc (suc (suc (suc zero)))))) = refl
number_back (suc (suc (suc (suc (suc (suc (suc k))))))) = omega arith

arises_there : (p : CheckedTree) (code : Code) (is : List Instr) (from place : ℕ) (x : Exc) → ArisesAmong p code is from place x → can_arise p is (exception_number x) ≡ true
arises_there p code is from place x a = by_arises a.arises
  where
    n : ℕ
    n = exception_number x

    by_arises : CanArise code place x → (nat_lt (exception_number x) 7 || list_any (raises p (exception_number x)) is) ≡ true
    by_arises (inl language) = or_left (nat_lt n 7) (list_any (raises p n) is) language
    by_arises (inr (inl t)) =
        let number : t.0 ≡ n = sym (number_back t.0) ∙ ap exception_number t.2 in
        or_right (nat_lt n 7) (list_any (raises p n) is) (any_at (raises p n) code.instrs from place is (i.Raise t.0) a.has a.low a.high t.1 (eq-eqb t.0 n number))
    by_arises (inr (inr t)) =
        or_right (nat_lt n 7) (list_any (raises p n) is)
        (any_at (raises p n) code.instrs from place is (i.Call t.0) a.has a.low a.high t.1 (ap (λ (ns : List ℕ). names_exception ns x) (sym (a.listed t.0)) ∙ t.2))

among_raised : (p : CheckedTree) (code : Code) (is : List Instr) (from place : ℕ) (x : Exc) → ArisesAmong p code is from place x → is_among (exception_number x) (raised_in p is) ≡ true
among_raised p code is from place x a =
    among_filter (can_arise p is) (exception_number x) (numbers_from 0 (7 + length p.exceptions)) (among_numbers 0 (7 + length p.exceptions) (exception_number x) (omega arith) (omega (arith, a.there))) (arises_there p code is from place x a)

-- ---- rows

takes_is : (from until y target place : ℕ) (x : Exc) (t : Bool) → from ≤ place → place < until → (y == exception_number x) ≡ t → takes (row_for from until (y ∷ []) false target) place x ≡ t
takes_is from until y target place x t low high is =
    ap (λ (b : Bool). (b && nat_lt place until) && (false || ((y == exception_number x) || false))) (le-leb from place low)
    ∙ (ap (λ (b : Bool). (true && b) && (false || ((y == exception_number x) || false))) (lt-ltb place until high)
    ∙ (ap (λ (b : Bool). b || false) is ∙ plain t))
  where
    plain : (b : Bool) → (b || false) ≡ b
    plain true = refl
    plain false = refl

again_rows : (code : Code) (xs : List ℕ) (region from until target place : ℕ) (x : Exc) → from ≤ place → place < until → is_among (exception_number x) xs ≡ true → HasAt code.instrs target (raise_again_code region xs)
    → IsRaisedAgain code (raise_again_rows from until xs target) region place x
again_rows code [] region from until target place x low high among has = absurd (let no : ⊥ = cc in no)
again_rows code (y ∷ ys) region from until target place x low high among has =
    by_same (y == exception_number x) refl among
    (λ h. again_rows code ys region from until (target + 2) place x low high h (subst (λ (j : ℕ). HasAt code.instrs j (raise_again_code region ys)) (let e : target + 1 + 1 ≡ target + 2 = omega arith in e) has.1.1))
  where
    row : Handler
    row = row_for from until (y ∷ []) false target

    by_same : (t : Bool) → (y == exception_number x) ≡ t → (t || is_among (exception_number x) ys) ≡ true → (is_among (exception_number x) ys ≡ true → IsRaisedAgain code (raise_again_rows from until ys (target + 2)) region place x)
        → IsRaisedAgain code (raise_again_rows from until (y ∷ ys) target) region place x
    by_same true is h others =
        record {
          row = row;
          taken = ap (λ (t : Bool). if t then Some row else taker (raise_again_rows from until ys (target + 2)) place x) (takes_is from until y target place x true low high is);
          low = refl;
          leaves = has.0;
          raises = has.1.0 ∙ ap (λ (z : ℕ). Some (i.Raise z)) (eqb-true y (exception_number x) is);
        }
    by_same false is h others =
        let rest = others h in
        record {
          row = rest.row;
          taken = ap (λ (t : Bool). if t then Some row else taker (raise_again_rows from until ys (target + 2)) place x) (takes_is from until y target place x false low high is) ∙ rest.taken;
          low = rest.low;
          leaves = rest.leaves;
          raises = rest.raises;
        }

pub raised_again : RaisedAgainLaw
raised_again =
    record {
      initialising = λ p code is region from target place x a has. again_rows code (raised_in p is) region from (from + length is) target place x a.low a.high (among_raised p code is from place x a) has;
      critical = λ p code is listed region from target place x a names has.
          again_rows code (raised_and_listed p is listed) region from (from + length is) target place x a.low a.high
          (among_filter (λ z. is_among z listed) (exception_number x) (raised_in p is) (among_raised p code is from place x a) names) has;
    }
