-- Sets of exceptions by a mark for each number.
use Rattle.std.proofs.Common.{◌≡◌, ℕ, zero, suc, ◌+◌, ◌-◌, ◌<◌, ◌≤◌, min, Bool, true, false, ◌||◌, List, [], ◌∷◌, ◌++◌, length, get_or, set, take, drop, refl, sym, ap, ◌∙◌, arith, length-drop, ◌⊎◌, inl, inr}
use Rattle.std.specs.Prelude.{◌==◌, nat_lt, filter, map, option_map, Some, None}
use Rattle.std.specs.List.{list_any}
use Rattle.std.proofs.Math.Bool.{or_assoc}
use Rattle.std.proofs.Math.ListN.{length-set}
use Rattle.std.proofs.lemmas.Bool.{cases_lt, cases_eq}
use Rattle.std.proofs.lemmas.Bool.Decides.{nat_tests}
use Rattle.std.proofs.lemmas.List.{append-nil, get_or-set_same, get_or-set_other, take_more, take_all, drop_all}
use Rattle.std.proofs.lemmas.List.Elements.{filter-append}
use Rattle.std.proofs.lemmas.Option.{slice_get-map}
use Rattle.std.proofs.lemmas.List.Folds.{list_any-append}
use Rattle.code_types.specs.declared.instr.Instr.{Instr}
use Rattle.code_types.specs.declared.instr.Instr.TheVariants as i
use Rattle.checked_program.specs.declared.program.Body.{Body}
use Rattle.checked_program.specs.declared.program.Checked.{Checked}
use Rattle.program_trees.specs.ProgramTree.{CheckedTree, BodyRowTree, checked_tree, body_row_tree}
use Rattle.std.specs.Prelude.{slice_get}
use Rattle.code_scheme.specs.BodyItems.{language_exceptions, listed_in, is_among, raises, can_arise, numbers_from, raised_in}
use Rattle.expr_gen.proofs.Rows.{body_found}
use Rattle.stmt_gen.specs.Marking.{has_mark, MarksMore, MarksOne, MarksAll, MarksRaised, MarksAllRaised, HasNoMark, MarksBelow, marked_in, where_marked}

or_false : (b : Bool) → b ≡ (b || false)
or_false true = refl
or_false false = refl

pub none_more : (test : ℕ → Bool) → ((x : ℕ) → test x ≡ false) → (xs : List Bool) → MarksMore test xs xs
none_more test e xs = record { marks = λ x h. or_false (has_mark xs x) ∙ ap (λ (b : Bool). has_mark xs x || b) (sym (e x)); size = refl }

pub then_more : (p q r : ℕ → Bool) {xs ys zs : List Bool} → ((x : ℕ) → (p x || q x) ≡ r x) → MarksMore p xs ys → MarksMore q ys zs → MarksMore r xs zs
then_more p q r {xs} {ys} {zs} e a b = record {
  marks = λ x h. b.marks x (omega (arith, a.size, h)) ∙ ap (λ (t : Bool). t || q x) (a.marks x h) ∙ or_assoc (has_mark xs x) (p x) (q x) ∙ ap (λ (t : Bool). has_mark xs x || t) (e x);
  size = b.size ∙ a.size;
}

pub as_more : (p r : ℕ → Bool) {xs ys : List Bool} → ((x : ℕ) → p x ≡ r x) → MarksMore p xs ys → MarksMore r xs ys
as_more p r {xs} e a = record { marks = λ x h. a.marks x h ∙ ap (λ (t : Bool). has_mark xs x || t) (e x); size = a.size }

-- ---- one mark

or_true : (b : Bool) → true ≡ (b || true)
or_true true = refl
or_true false = refl

same_test : (n x : ℕ) → n ≡ x → (n == x) ≡ true
same_test n x e = grind (arith, nat_tests)

other_test : (n x : ℕ) → (n ≡ x → ⊥) → (n == x) ≡ false
other_test n x e = grind (arith, nat_tests)

at_mark : (xs : List Bool) (n x : ℕ) → n < length xs → (n ≡ x) ⊎ (n ≡ x → ⊥) → has_mark (set xs n true) x ≡ (has_mark xs x || (n == x))
at_mark xs n x h (inl e) = ap (λ (k : ℕ). has_mark (set xs n true) k) (sym e) ∙ get_or-set_same xs n true false h ∙ or_true (has_mark xs x) ∙ ap (λ (t : Bool). has_mark xs x || t) (sym (same_test n x e))
at_mark xs n x h (inr e) = get_or-set_other xs n x true false (λ f. e (sym f)) ∙ or_false (has_mark xs x) ∙ ap (λ (t : Bool). has_mark xs x || t) (sym (other_test n x e))

length_set : (xs : List Bool) (n : ℕ) (b : Bool) → length (set xs n b) ≡ length xs
length_set xs n b = simp length-set

pub one_marked : (xs : List Bool) (n : ℕ) → n < length xs → MarksOne n xs (set xs n true)
one_marked xs n h = record { marks = λ x _. at_mark xs n x h (cases_eq n x); size = length_set xs n true }

-- a number that has no mark
pub none_marked : (xs : List Bool) (n : ℕ) → length xs ≤ n → MarksOne n xs xs
none_marked xs n h = record {
  marks = λ x g. or_false (has_mark xs x) ∙ ap (λ (t : Bool). has_mark xs x || t) (sym (other_test n x (λ (e : n ≡ x). absurd (omega (arith, e, h, g)))));
  size = refl;
}

-- ---- the language's exceptions

below_next : (x k : ℕ) → (nat_lt x k || (k == x)) ≡ nat_lt x (k + 1)
below_next x k = grind (arith, nat_tests)

below_none : (x : ℕ) → false ≡ nat_lt x 0
below_none x = grind (arith, nat_tests)

pub language_begin : (count : ℕ) (marks : List Bool) → HasNoMark count marks → MarksBelow 0 count marks
language_begin count marks p = record { marks = λ x _. p.marks x ∙ below_none x; size = p.size }

pub language_turn : (k count : ℕ) {old new : List Bool} → MarksBelow k count old → MarksOne k old new → MarksBelow (k + 1) count new
language_turn k count p q = record { marks = λ x h. q.marks x (omega (arith, p.size, h)) ∙ ap (λ (t : Bool). t || (k == x)) (p.marks x h) ∙ below_next x k; size = q.size ∙ p.size }

pub language_end : (k count : ℕ) {marks : List Bool} → k ≡ language_exceptions → MarksBelow k count marks → MarksBelow language_exceptions count marks
language_end k count {marks} e p = record { marks = λ x h. p.marks x h ∙ ap (λ (n : ℕ). nat_lt x n) e; size = p.size }

-- ---- lists of numbers and instructions

any_one : {X : Type 0} (p : X → Bool) (y : X) → list_any p (y ∷ []) ≡ p y
any_one p y = sym (or_false (p y))

any_next : {X : Type 0} (p : X → Bool) (xs : List X) (k : ℕ) (y : X) → k < length xs → y ≡ get_or xs k y → (list_any p (take k xs) || p y) ≡ list_any p (take (k + 1) xs)
any_next p xs k y h e =
    ap (λ (t : Bool). list_any p (take k xs) || t) (sym (any_one p y)) ∙ sym (list_any-append p (take k xs) (y ∷ []))
    ∙ sym (ap (λ (ys : List _). list_any p ys) (take_more xs k y h ∙ ap (λ (z : _). take k xs ++ z ∷ []) (sym e)))

pub all_begin : (numbers : List ℕ) (marks : List Bool) → MarksAll (take 0 numbers) marks marks
all_begin numbers marks = none_more (λ x. is_among x (take 0 numbers)) (λ x. refl) marks

pub all_turn : (xs : List ℕ) (k y : ℕ) {a b c : List Bool} → k < length xs → y ≡ get_or xs k y → MarksAll (take k xs) a b → MarksOne y b c → MarksAll (take (k + 1) xs) a c
all_turn xs k y h e p q = then_more (λ x. is_among x (take k xs)) (λ x. y == x) (λ x. is_among x (take (k + 1) xs)) (λ x. any_next (λ (z : ℕ). z == x) xs k y h e) p q

pub all_end : (xs : List ℕ) (k : ℕ) {a b : List Bool} → length xs ≤ k → MarksAll (take k xs) a b → MarksAll xs a b
all_end xs k h p = as_more (λ x. is_among x (take k xs)) (λ x. is_among x xs) (λ x. ap (λ (ys : List ℕ). is_among x ys) (take_all k xs h)) p

pub raised_begin : (program : Checked) (instrs : List Instr) (marks : List Bool) → MarksAllRaised program (take 0 instrs) marks marks
raised_begin program instrs marks = none_more (λ x. list_any (raises (checked_tree program) x) (take 0 instrs)) (λ x. refl) marks

pub raised_turn : (program : Checked) (is : List Instr) (k : ℕ) (y : Instr) {a b c : List Bool} → k < length is → y ≡ get_or is k y
    → MarksAllRaised program (take k is) a b → MarksRaised program y b c → MarksAllRaised program (take (k + 1) is) a c
raised_turn program is k y h e p q =
    then_more (λ x. list_any (raises (checked_tree program) x) (take k is)) (λ x. raises (checked_tree program) x y) (λ x. list_any (raises (checked_tree program) x) (take (k + 1) is))
    (λ x. any_next (raises (checked_tree program) x) is k y h e) p q

pub raised_end : (program : Checked) (is : List Instr) (k : ℕ) {a b : List Bool} → length is ≤ k → MarksAllRaised program (take k is) a b → MarksAllRaised program is a b
raised_end program is k h p =
    as_more (λ x. list_any (raises (checked_tree program) x) (take k is)) (λ x. list_any (raises (checked_tree program) x) is) (λ x. ap (λ (ys : List Instr). list_any (raises (checked_tree program) x) ys) (take_all k is h)) p

-- ---- what an instruction raises

pub raise_marks : (program : Checked) (y : ℕ) (instr : Instr) {a b : List Bool} → instr ≡ i.Raise y → MarksOne y a b → MarksRaised program instr a b
raise_marks program y instr e p = as_more (λ x. y == x) (λ x. raises (checked_tree program) x instr) (λ x. sym (ap (raises (checked_tree program) x) e)) p

pub call_marks : (program : Checked) (b : ℕ) (instr : Instr) (listed : List ℕ) {old new : List Bool} → instr ≡ i.Call b → listed ≡ listed_in (slice_get (checked_tree program).bodies b)
    → MarksAll listed old new → MarksRaised program instr old new
call_marks program b instr listed e is p =
    as_more (λ x. is_among x listed) (λ x. raises (checked_tree program) x instr)
    (λ x. ap (is_among x) is ∙ sym (ap (raises (checked_tree program) x) e)) p

-- what a body lists
pub listed_there : (bodies : List Body) (k : ℕ) (body : Body) → slice_get bodies k ≡ Some body → body.listed ≡ listed_in (slice_get (map body_row_tree bodies) k)
listed_there bodies k body e = sym (ap listed_in (body_found bodies k body e))

pub listed_nowhere : (bodies : List Body) (k : ℕ) → slice_get bodies k ≡ None → [] ≡ listed_in (slice_get (map body_row_tree bodies) k)
listed_nowhere bodies k e = sym (ap listed_in (slice_get-map body_row_tree bodies k ∙ ap (option_map body_row_tree) e))

-- ---- the marked numbers, rising

numbers_end : (a n : ℕ) → numbers_from a (suc n) ≡ numbers_from a n ++ (a + n) ∷ []
numbers_end a zero = let none : a ≡ a + 0 = omega arith in ap (λ (k : ℕ). k ∷ []) none
numbers_end a (suc n) =
    let one : suc a + n ≡ a + suc n = omega arith in
    ap (λ (ks : List ℕ). a ∷ ks) (numbers_end (suc a) n ∙ ap (λ (k : ℕ). numbers_from (suc a) n ++ k ∷ []) one)

first_numbers : (k : ℕ) → numbers_from 0 (k + 1) ≡ numbers_from 0 k ++ k ∷ []
first_numbers k =
    let one : k + 1 ≡ suc k = omega arith in
    let none : 0 + k ≡ k = omega arith in
    ap (λ (n : ℕ). numbers_from 0 n) one ∙ numbers_end 0 k ∙ ap (λ (n : ℕ). numbers_from 0 k ++ n ∷ []) none

passes : (p : ℕ → Bool) (k : ℕ) → p k ≡ true → filter p (k ∷ []) ≡ k ∷ []
passes p k e = rw e refl

fails : (p : ℕ → Bool) (k : ℕ) → p k ≡ false → filter p (k ∷ []) ≡ []
fails p k e = rw e refl

pub marked_true : (p : ℕ → Bool) (k : ℕ) → p k ≡ true → filter p (numbers_from 0 (k + 1)) ≡ filter p (numbers_from 0 k) ++ k ∷ []
marked_true p k e = ap (filter p) (first_numbers k) ∙ filter-append p (numbers_from 0 k) (k ∷ []) ∙ ap (λ (ks : List ℕ). filter p (numbers_from 0 k) ++ ks) (passes p k e)

pub marked_false : (p : ℕ → Bool) (k : ℕ) → p k ≡ false → filter p (numbers_from 0 (k + 1)) ≡ filter p (numbers_from 0 k)
marked_false p k e = ap (filter p) (first_numbers k) ∙ filter-append p (numbers_from 0 k) (k ∷ []) ∙ ap (λ (ks : List ℕ). filter p (numbers_from 0 k) ++ ks) (fails p k e) ∙ append-nil (filter p (numbers_from 0 k))

pub marked_next : (p : ℕ → Bool) (k : ℕ) (b : Bool) → b ≡ p k → filter p (numbers_from 0 k) ++ where_marked b k ≡ filter p (numbers_from 0 (k + 1))
marked_next p k true e = sym (marked_true p k (sym e))
marked_next p k false e = append-nil (filter p (numbers_from 0 k)) ∙ sym (marked_false p k (sym e))

-- tests that agree on these numbers leave the same ones
filter_below : (p q : ℕ → Bool) (n k : ℕ) → k ≤ n → ((x : ℕ) → x < n → p x ≡ q x) → filter p (numbers_from 0 k) ≡ filter q (numbers_from 0 k)
filter_below p q n zero h e = refl
filter_below p q n (suc k) h e =
    let next : suc k ≡ k + 1 = omega arith in
    ap (λ (j : ℕ). filter p (numbers_from 0 j)) next ∙ sym (marked_next p k (p k) refl) ∙ ap (λ (ks : List ℕ). ks ++ where_marked (p k) k) (filter_below p q n k (omega (arith, h)) e)
    ∙ ap (λ (b : Bool). filter q (numbers_from 0 k) ++ where_marked b k) (e k (omega (arith, h))) ∙ marked_next q k (q k) refl ∙ ap (λ (j : ℕ). filter q (numbers_from 0 j)) (sym next)

-- ---- between two places

take_none : (n : ℕ) → take {A = Instr} n [] ≡ []
take_none zero = refl
take_none (suc n) = refl

between_cases : (xs : List Instr) (from until : ℕ) → (from ≤ min until (length xs)) ⊎ (min until (length xs) < from) → (until ≤ length xs) ⊎ (length xs < until)
    → take (until - from) (drop from xs) ≡ take (min until (length xs) - min from (min until (length xs))) (drop (min from (min until (length xs))) xs)
between_cases xs from until (inl a) (inl b) =
    let n : until - from ≡ min until (length xs) - min from (min until (length xs)) = omega arith in
    let m : from ≡ min from (min until (length xs)) = omega arith in
    ap (λ (k : ℕ). take k (drop from xs)) n ∙ ap (λ (k : ℕ). take (min until (length xs) - min from (min until (length xs))) (drop k xs)) m
between_cases xs from until (inl a) (inr b) =
    let m : from ≡ min from (min until (length xs)) = omega arith in
    let left : length (drop from xs) ≡ length xs - from = length-drop from xs in
    take_all (until - from) (drop from xs) (omega arith)
    ∙ sym (take_all (min until (length xs) - min from (min until (length xs))) (drop from xs) (omega arith))
    ∙ ap (λ (k : ℕ). take (min until (length xs) - min from (min until (length xs))) (drop k xs)) m
between_cases xs from until (inr a) (inl b) =
    let n : until - from ≡ 0 = omega arith in
    let m : min until (length xs) - min from (min until (length xs)) ≡ 0 = omega arith in
    ap (λ (k : ℕ). take k (drop from xs)) n ∙ sym (ap (λ (k : ℕ). take k (drop (min from (min until (length xs))) xs)) m)
between_cases xs from until (inr a) (inr b) =
    let m : min until (length xs) - min from (min until (length xs)) ≡ 0 = omega arith in
    let e : length xs ≤ from = omega arith in
    ap (λ (ys : List Instr). take (until - from) ys) (drop_all from xs e) ∙ take_none (until - from) ∙ sym (ap (λ (k : ℕ). take k (drop (min from (min until (length xs))) xs)) m)

order : (a b : ℕ) → (b < a) ⊎ (a ≤ b) → (a ≤ b) ⊎ (b < a)
order a b (inl e) = inr e
order a b (inr e) = inl e

pub between_is : (xs : List Instr) (from until a b : ℕ) → b ≡ min until (length xs) → a ≡ min from b → take (until - from) (drop from xs) ≡ take (b - a) (drop a xs)
between_is xs from until a b e f =
    let g : a ≡ min from (min until (length xs)) = f ∙ ap (λ (k : ℕ). min from k) e in
    between_cases xs from until (order from (min until (length xs)) (cases_lt (min until (length xs)) from)) (order until (length xs) (cases_lt (length xs) until))
    ∙ ap (λ (k : ℕ). take (k - min from (min until (length xs))) (drop (min from (min until (length xs))) xs)) (sym e) ∙ ap (λ (k : ℕ). take (b - k) (drop k xs)) (sym g)

-- ---- all together

pub raised_told : (program : Checked) (instrs : List Instr) (count : ℕ) (first found : List Bool) → count ≡ language_exceptions + length program.exceptions
    → MarksBelow language_exceptions count first → MarksAllRaised program instrs first found → marked_in found ≡ raised_in (checked_tree program) instrs
raised_told program instrs count first found n p q =
    let size : length found ≡ language_exceptions + length program.exceptions = q.size ∙ p.size ∙ n in
    let tests : (x : ℕ) → x < length found → has_mark found x ≡ can_arise (checked_tree program) instrs x =
    λ (x : ℕ) (h : x < length found). q.marks x (omega (arith, q.size, h)) ∙ ap (λ (t : Bool). t || list_any (raises (checked_tree program) x) instrs) (p.marks x (omega (arith, p.size, q.size, h))) in
    filter_below (has_mark found) (can_arise (checked_tree program) instrs) (length found) (length found) (omega arith) tests
    ∙ ap (λ (k : ℕ). filter (can_arise (checked_tree program) instrs) (numbers_from 0 k)) size
