-- Offsets, equal scalars, and scalars that are pushed or copied.
use Rattle.std.proofs.Common.{◌≡◌, ℕ, zero, suc, ◌+◌, ◌-◌, ◌*◌, ◌<◌, ◌≤◌, min, nat_le, nat_lt, if◌then◌else◌, Bool, true, false, ◌&&◌, List, [], ◌∷◌, ◌++◌, ℤ, pos, negsuc, ◌+ℤ◌, ◌-ℤ◌, ◌*ℤ◌, int_le, nat_abs, length, Some, None, slice_get, refl, sym, ap, ◌∙◌, subst, arith, length-append, append_assoc, append-nil}
use Rattle.std.proofs.lemmas.Int.{ints}
use Rattle.world_model.specs.Session.{Session}
use Rattle.modes.specs.declared.mode.Bounds.{Bounds}
use Rattle.modes.specs.Bounds.{natural_of, count_between}
use Rattle.modes.specs.Scalars.{repeated}
use Rattle.scalar_operators.specs.Numbers.{is_between, is_scalar, where_true, least_int, greatest_int}
use Rattle.code_types.specs.declared.instr.Instr.{Instr}
use Rattle.code_types.specs.declared.instr.Instr.TheVariants as i
use Rattle.source_meaning.specs.Operators.{one, offset_within}
use Rattle.code_scheme.specs.Pieces.{pushes, copies_from, copies_code, run_code, are_same, scalars_from, scalars_code}
use Rattle.follow_laws.specs.Follows.{HasAt, Around, here, GetsTo}
use Rattle.code_laws.specs.InRange.{AreInts}
use Rattle.follow_laws.proofs.Running.{has_front, has_back, gets_then}
use Rattle.follow_laws.proofs.Instructions.{pushes_by, puts_on, renamed}

-- ---- tests

pub both_true : (a b : Bool) → (a && b) ≡ true → (a ≡ true) × (b ≡ true)
both_true true true e = (refl, refl)
both_true true false e = absurd (let no : ⊥ = cc in no)
both_true false b e = absurd (let no : ⊥ = cc in no)

pub test_is : {A : Type 0} (b : Bool) (x : A) (y : A) → where_true b x ≡ Some y → (b ≡ true) × (x ≡ y)
test_is true x y e = (refl, cc)
test_is false x y e = absurd (let no : ⊥ = cc in no)

pub same_int : (x y : ℤ) → are_same x y ≡ true → x ≡ y
same_int x y e =
    let parts = both_true (int_le x y) (int_le y x) e in
    let low = parts.0 in
    let high = parts.1 in
    omega (arith, ints, low, high)

-- ---- offsets

natural_is : (z : ℤ) → int_le (pos 0) z ≡ true → pos (natural_of z) ≡ z
natural_is (pos n) e = refl
natural_is (negsuc n) e = absurd (let no : ⊥ = cc in no)

pub times_more : (m n size : ℕ) → m + 1 ≤ n → m * size + size ≤ n * size
times_more m n zero h = omega arith
times_more m n (suc size) h = omega (arith, times_more m n size h)

-- an offset that is found isn't negative, and leaves room for its element
pub record IsWithin (z : ℤ) (room : ℕ) (size : ℕ) : Type 0 where
  pub natural : pos (nat_abs z) ≡ z
  pub fits : nat_abs z + size ≤ room * size

pub offset_found : (b : Bounds) (size : ℕ) (x z : ℤ) → AreInts b → offset_within b size x ≡ Some z → IsWithin z (count_between b.low b.high) size
offset_found b size x z ints_are e = by_between (is_between b.low b.high x) refl e
  where
    inside : is_between b.low b.high x ≡ true → where_true (is_scalar ((x -ℤ b.low) *ℤ pos size)) ((x -ℤ b.low) *ℤ pos size) ≡ Some z → IsWithin z (count_between b.low b.high) size
    inside yes_between is =
        let parts = both_true (int_le b.low x) (int_le x b.high) yes_between in
        let lows = both_true (int_le least_int b.low) (int_le b.low greatest_int) ints_are.0 in
        let highs = both_true (int_le least_int b.high) (int_le b.high greatest_int) ints_are.1 in
        let above : int_le b.low x ≡ true = parts.0 in
        let below : int_le x b.high ≡ true = parts.1 in
        let low : int_le least_int b.low ≡ true = lows.0 in
        let high : int_le b.high greatest_int ≡ true = highs.1 in
        let d : ℤ = x -ℤ b.low in
        let q : ℤ = b.high -ℤ b.low +ℤ pos 1 in
        let d_positive : int_le (pos 0) d ≡ true = grind (arith, ints, above) in
        let q_positive : int_le (pos 0) q ≡ true = grind (arith, ints, above, below) in
        let m : ℕ = natural_of d in
        let n : ℕ = natural_of q in
        let m_is : pos m ≡ x -ℤ b.low = natural_is d d_positive in
        let n_is : pos n ≡ b.high -ℤ b.low +ℤ pos 1 = natural_is q q_positive in
        let few : m + 1 ≤ n = omega (arith, ints, m_is, n_is, below) in
        let small : n ≤ 18446744073709551615 = omega (arith, ints, n_is, low, high) in
        let count : count_between b.low b.high ≡ n = omega arith in
        let z_is : pos (m * size) ≡ z = ap (λ (k : ℤ). k *ℤ pos size) m_is ∙ (test_is (is_scalar (d *ℤ pos size)) (d *ℤ pos size) z is).1 in
        subst (λ (k : ℤ). IsWithin k (count_between b.low b.high) size) z_is
        (record { natural = refl; fits = subst (λ (k : ℕ). m * size + size ≤ k * size) (sym count) (times_more m n size few) })

    by_between : (t : Bool) → is_between b.low b.high x ≡ t → (if t then where_true (is_scalar ((x -ℤ b.low) *ℤ pos size)) ((x -ℤ b.low) *ℤ pos size) else None) ≡ Some z → IsWithin z (count_between b.low b.high) size
    by_between true is found = inside is found
    by_between false is found = absurd (let no : ⊥ = cc in no)

-- ---- copies

pub repeated_add : {A : Type 0} (m n : ℕ) (xs : List A) → repeated (m + n) xs ≡ repeated m xs ++ repeated n xs
repeated_add zero n xs = ap (λ (k : ℕ). repeated k xs) (let e : 0 + n ≡ n = omega arith in e)
repeated_add (suc m) n xs = ap (λ (k : ℕ). repeated k xs) (let e : suc m + n ≡ suc (m + n) = omega arith in e) ∙ (ap (λ (l : List _). xs ++ l) (repeated_add m n xs) ∙ sym (append_assoc xs (repeated m xs) (repeated n xs)))

pub repeated_length : {A : Type 0} (m n : ℕ) (xs : List A) → length xs ≡ n → length (repeated m xs) ≡ m * n
repeated_length zero n xs e = let z : 0 ≡ 0 * n = omega arith in z
repeated_length (suc m) n xs e = let z : n + m * n ≡ suc m * n = omega arith in omega (arith, z, length-append xs (repeated m xs), repeated_length m n xs e)

-- so many after so many doublings
abbrev pub doubled : ℕ → ℕ → ℕ
doubled zero n = n
doubled (suc k) n = doubled k (n + n)

pub doubled_more : (k n : ℕ) → n ≤ doubled k n
doubled_more zero n = omega arith
doubled_more (suc k) n = omega (arith, doubled_more k (n + n))

-- the last m of so many copies are copied
copy_run : (w : Around) (n there m at : ℕ) (stack xs locals : List ℤ) (s : Session)
    → length xs ≡ n → m ≤ there → slice_get w.code.instrs at ≡ Some (i.Copy (m * n))
    → GetsTo w.code (here w at (stack ++ repeated there xs) locals s) (here w (at + 1) (stack ++ repeated (there + m) xs) locals s)
copy_run w n there m at stack xs locals s long few has =
    let rest : ℕ = there - m in
    let top : List ℤ = repeated m xs in
    let base : List ℤ = stack ++ repeated rest xs in
    let split : repeated there xs ≡ repeated rest xs ++ top = ap (λ (k : ℕ). repeated k xs) (let e : there ≡ rest + m = omega arith in e) ∙ repeated_add rest m xs in
    let before : stack ++ repeated there xs ≡ base ++ top = ap (λ (l : List ℤ). stack ++ l) split ∙ sym (append_assoc stack (repeated rest xs) top) in
    let behind : base ++ (top ++ top) ≡ stack ++ repeated (there + m) xs =
    append_assoc stack (repeated rest xs) (top ++ top)
    ∙ ap (λ (l : List ℤ). stack ++ l) (sym (append_assoc (repeated rest xs) top top) ∙ (ap (λ (l : List ℤ). l ++ top) (sym split) ∙ sym (repeated_add there m xs))) in
    gets_then (renamed w at at (stack ++ repeated there xs) (base ++ top) locals s refl before)
    (gets_then (pushes_by w (i.Copy (m * n)) at base top locals s (top ++ top) has (sym (repeated_length m n xs long)) refl)
    (renamed w (at + 1) (at + 1) (base ++ (top ++ top)) (stack ++ repeated (there + m) xs) locals s refl behind))

-- how far copies come from a number of them on
abbrev Copies : Around → ℕ → ℕ → ℕ → List ℤ → List ℤ → List ℤ → Session → Type 0
Copies w k elements n stack xs locals s = (there at : ℕ) → 1 ≤ there → there ≤ elements → elements ≤ doubled k there
    → HasAt w.code.instrs at (copies_from k there elements n)
    → GetsTo w.code (here w at (stack ++ repeated there xs) locals s) (here w (at + length (copies_from k there elements n)) (stack ++ repeated elements xs) locals s)

enough_by : (k there elements : ℕ) (t : Bool) → nat_le there (elements - there) ≡ t → there < elements → elements ≤ doubled k (there + there) → elements ≤ doubled k (there + min there (elements - there))
enough_by k there elements true is less enough =
    let all : there + there ≡ there + min there (elements - there) = grind arith in
    subst (λ (j : ℕ). elements ≤ doubled k j) all enough
enough_by k there elements false is less enough =
    let all : elements ≡ there + min there (elements - there) = grind arith in
    subst (λ (j : ℕ). elements ≤ doubled k j) all (doubled_more k elements)

copies_by : (w : Around) (k there elements n at : ℕ) (stack xs locals : List ℤ) (s : Session) (t : Bool) → nat_lt there elements ≡ t
    → length xs ≡ n → 1 ≤ there → there ≤ elements → elements ≤ doubled k (there + there)
    → Copies w k elements n stack xs locals s
    → HasAt w.code.instrs at (if t then i.Copy (min there (elements - there) * n) ∷ copies_from k (there + min there (elements - there)) elements n else [])
    → GetsTo w.code (here w at (stack ++ repeated there xs) locals s) (here w (at + length (if t then i.Copy (min there (elements - there) * n) ∷ copies_from k (there + min there (elements - there)) elements n else [])) (stack ++ repeated elements xs) locals s)
copies_by w k there elements n at stack xs locals s true is long some few enough next h =
    let m : ℕ = min there (elements - there) in
    let less : there < elements = grind arith in
    let rest : List Instr = copies_from k (there + m) elements n in
    gets_then (copy_run w n there m at stack xs locals s long (omega arith) h.0)
    (gets_then (next (there + m) (at + 1) (omega arith) (omega arith) (enough_by k there elements (nat_le there (elements - there)) refl less enough) h.1)
    (renamed w (at + 1 + length rest) (at + suc (length rest)) (stack ++ repeated elements xs) (stack ++ repeated elements xs) locals s (omega arith) refl))
copies_by w k there elements n at stack xs locals s false is long some few enough next h =
    let all : there ≡ elements = grind arith in
    renamed w at (at + 0) (stack ++ repeated there xs) (stack ++ repeated elements xs) locals s (let e : at ≡ at + 0 = omega arith in e) (ap (λ (j : ℕ). stack ++ repeated j xs) all)

pub copies_run : (w : Around) (k elements n : ℕ) (stack xs locals : List ℤ) (s : Session) → length xs ≡ n → Copies w k elements n stack xs locals s
copies_run w zero elements n stack xs locals s long there at some few enough has =
    renamed w at (at + 0) (stack ++ repeated there xs) (stack ++ repeated elements xs) locals s (let e : at ≡ at + 0 = omega arith in e) (ap (λ (j : ℕ). stack ++ repeated j xs) (let e : there ≡ elements = omega arith in e))
copies_run w (suc k) elements n stack xs locals s long there at some few enough has =
    copies_by w k there elements n at stack xs locals s (nat_lt there elements) refl long some few enough (copies_run w k elements n stack xs locals s long) has

-- copies of one value
pub copies_of : (w : Around) (elements n at : ℕ) (stack xs locals : List ℤ) (s : Session)
    → length xs ≡ n → 1 ≤ elements → elements < 4294967296
    → HasAt w.code.instrs at (copies_code elements n)
    → GetsTo w.code (here w at (stack ++ xs) locals s) (here w (at + length (copies_code elements n)) (stack ++ repeated elements xs) locals s)
copies_of w elements n at stack xs locals s long some small has =
    let enough : elements ≤ doubled 32 1 = omega arith in
    gets_then (renamed w at at (stack ++ xs) (stack ++ repeated 1 xs) locals s refl (ap (λ (l : List ℤ). stack ++ l) (sym (append-nil xs))))
    (copies_run w 32 elements n stack xs locals s long 1 at (omega arith) some enough has)

-- a scalar so many times
run_run : (w : Around) (x : ℤ) (n at : ℕ) (stack locals : List ℤ) (s : Session)
    → n < 4294967296 → HasAt w.code.instrs at (run_code x n)
    → GetsTo w.code (here w at stack locals s) (here w (at + length (run_code x n)) (stack ++ repeated n (one x)) locals s)
run_run w x zero at stack locals s small has = renamed w at (at + 0) stack (stack ++ []) locals s (let e : at ≡ at + 0 = omega arith in e) (sym (append-nil stack))
run_run w x (suc n) at stack locals s small has =
    gets_then (puts_on w (i.Push x) at stack locals s (one x) has.0 refl refl)
    (gets_then (copies_of w (suc n) 1 (at + 1) stack (one x) locals s refl (omega arith) small has.1)
    (renamed w (at + 1 + length (copies_code (suc n) 1)) (at + length (run_code x (suc n))) (stack ++ repeated (suc n) (one x)) (stack ++ repeated (suc n) (one x)) locals s (omega arith) refl))

-- scalars behind so many equal ones
abbrev Scalars : Around → List ℤ → List ℤ → Session → Type 0
Scalars w ys locals s = (x : ℤ) (n at : ℕ) (stack : List ℤ) → n + length ys < 4294967296 → HasAt w.code.instrs at (scalars_from x n ys)
    → GetsTo w.code (here w at stack locals s) (here w (at + length (scalars_from x n ys)) (stack ++ (repeated n (one x) ++ ys)) locals s)

scalars_by : (w : Around) (x y : ℤ) (n : ℕ) (ys : List ℤ) (at : ℕ) (stack locals : List ℤ) (s : Session) (t : Bool) → (nat_lt 0 n && are_same x y) ≡ t
    → n + length (y ∷ ys) < 4294967296 → Scalars w ys locals s
    → HasAt w.code.instrs at (if t then scalars_from x (suc n) ys else run_code x n ++ scalars_from y 1 ys)
    → GetsTo w.code (here w at stack locals s) (here w (at + length (if t then scalars_from x (suc n) ys else run_code x n ++ scalars_from y 1 ys)) (stack ++ (repeated n (one x) ++ (y ∷ ys))) locals s)
scalars_by w x y n ys at stack locals s true is small next h =
    let same : x ≡ y = same_int x y (both_true (nat_lt 0 n) (are_same x y) is).1 in
    let more : repeated (suc n) (one x) ≡ repeated n (one x) ++ one x = ap (λ (k : ℕ). repeated k (one x)) (let e : suc n ≡ n + 1 = omega arith in e) ∙ repeated_add n 1 (one x) in
    let list : repeated (suc n) (one x) ++ ys ≡ repeated n (one x) ++ (y ∷ ys) =
    ap (λ (l : List ℤ). l ++ ys) more ∙ (append_assoc (repeated n (one x)) (one x) ys ∙ ap (λ (z : ℤ). repeated n (one x) ++ (z ∷ ys)) same) in
    gets_then (next x (suc n) at stack (omega arith) h)
    (renamed w (at + length (scalars_from x (suc n) ys)) (at + length (scalars_from x (suc n) ys)) (stack ++ (repeated (suc n) (one x) ++ ys)) (stack ++ (repeated n (one x) ++ (y ∷ ys))) locals s refl (ap (λ (l : List ℤ). stack ++ l) list))
scalars_by w x y n ys at stack locals s false is small next h =
    let first : List Instr = run_code x n in
    let rest : List Instr = scalars_from y 1 ys in
    let to : ℕ = at + length first in
    gets_then (run_run w x n at stack locals s (omega arith) (has_front w.code.instrs at first rest h))
    (gets_then (next y 1 to (stack ++ repeated n (one x)) (omega arith) (has_back w.code.instrs at to first rest refl h))
    (renamed w (to + length rest) (at + length (first ++ rest)) ((stack ++ repeated n (one x)) ++ (y ∷ ys)) (stack ++ (repeated n (one x) ++ (y ∷ ys))) locals s (omega (arith, length-append first rest)) (append_assoc stack (repeated n (one x)) (y ∷ ys))))

scalars_run_from : (w : Around) (ys locals : List ℤ) (s : Session) → Scalars w ys locals s
scalars_run_from w [] locals s x n at stack small has =
    gets_then (run_run w x n at stack locals s (omega arith) has)
    (renamed w (at + length (run_code x n)) (at + length (run_code x n)) (stack ++ repeated n (one x)) (stack ++ (repeated n (one x) ++ [])) locals s refl (ap (λ (l : List ℤ). stack ++ l) (sym (append-nil (repeated n (one x))))))
scalars_run_from w (y ∷ ys) locals s x n at stack small has = scalars_by w x y n ys at stack locals s (nat_lt 0 n && are_same x y) refl small (scalars_run_from w ys locals s) has

-- scalars in order
pub scalars_run : (w : Around) (xs : List ℤ) (at : ℕ) (stack locals : List ℤ) (s : Session)
    → length xs < 4294967296 → HasAt w.code.instrs at (scalars_code xs)
    → GetsTo w.code (here w at stack locals s) (here w (at + length (scalars_code xs)) (stack ++ xs) locals s)
scalars_run w xs at stack locals s small has = scalars_run_from w xs locals s (pos 0) 0 at stack (omega arith) has

-- each scalar by itself
pub pushes_run : (w : Around) (xs : List ℤ) (at : ℕ) (stack locals : List ℤ) (s : Session) → HasAt w.code.instrs at (pushes xs)
    → GetsTo w.code (here w at stack locals s) (here w (at + length xs) (stack ++ xs) locals s)
pushes_run w [] at stack locals s has = renamed w at (at + 0) stack (stack ++ []) locals s (let e : at ≡ at + 0 = omega arith in e) (sym (append-nil stack))
pushes_run w (x ∷ xs) at stack locals s has =
    gets_then (puts_on w (i.Push x) at stack locals s (one x) has.0 refl refl)
    (gets_then (pushes_run w xs (at + 1) (stack ++ one x) locals s has.1)
    (renamed w (at + 1 + length xs) (at + length (x ∷ xs)) ((stack ++ one x) ++ xs) (stack ++ (x ∷ xs)) locals s (omega arith) (append_assoc stack (one x) xs)))
