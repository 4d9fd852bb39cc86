-- Flat locals: a part of one is read and set.
use Rattle.std.proofs.Common.{◌≡◌, ℕ, zero, suc, ◌+◌, ◌-◌, ◌≤◌, if◌then◌else◌, true, List, [], ◌∷◌, ◌++◌, ℤ, length, take, drop, Some, None, slice_get, slice_set, slice_index_or, refl, sym, ap, ◌∙◌, arith, append_assoc, length-append, length-drop, length-take-le, nat_le, le-leb}
use Rattle.std.proofs.lemmas.List.{take-append-le, drop-append-le}
use Rattle.std.proofs.Math.Seq.{drop-append-add, take-append-add}
use Rattle.program_trees.specs.ProgramTree.{LocalRowTree}
use Rattle.world_model.specs.Lists.{with_scalars, scalars_at}
use Rattle.code_types.specs.Operands.{part_of}
use Rattle.follow_laws.specs.Follows.{flat, FitRows, scalars_in}

-- a part of the first of two lists
part_left : (xs ys : List ℤ) (k n : ℕ) → k + n ≤ length xs → take n (drop k (xs ++ ys)) ≡ take n (drop k xs)
part_left xs ys k n h =
    let long : n ≤ length (drop k xs) = omega (arith, length-drop k xs) in
    ap (take n) (drop-append-le k xs ys (omega arith)) ∙ take-append-le n (drop k xs) ys long

-- a part of the second
part_right : (xs ys : List ℤ) (k n m : ℕ) → length xs + k ≡ m → take n (drop m (xs ++ ys)) ≡ take n (drop k ys)
part_right xs ys k n m e = ap (λ (j : ℕ). take n (drop j (xs ++ ys))) (sym e) ∙ ap (take n) (drop-append-add xs ys k)

pub record IsPart (all : List ℤ) (at n : ℕ) (xs : List ℤ) (k : ℕ) : Type 0 where
  pub same : take n (drop at all) ≡ take n (drop k xs)
  pub inside : at + n ≤ length all
  pub within : k + n ≤ length xs

-- each row begins behind those before it
begins_behind : (first : ℕ) (rows : List LocalRowTree) (xss : List (List ℤ)) (i : ℕ) (row : LocalRowTree) → FitRows first rows xss → slice_get rows i ≡ Some row → first ≤ row.first
begins_behind first [] [] i row fit is = absurd (let no : ⊥ = cc in no)
begins_behind first [] (xs ∷ xss) i row fit is = absurd fit
begins_behind first (r ∷ rows) [] i row fit is = absurd fit
begins_behind first (r ∷ rows) (xs ∷ xss) zero row fit is =
    let same : r ≡ row = cc in
    let here : r.first ≡ row.first = ap (λ (q : LocalRowTree). q.first) same in
    omega (arith, fit.0)
begins_behind first (r ∷ rows) (xs ∷ xss) (suc i) row fit is = let b = begins_behind (first + r.count) rows xss i row fit.2 is in omega arith

-- a part of a local is a part of the flat list
pub part_flat : (first : ℕ) (rows : List LocalRowTree) (xss : List (List ℤ)) (rest : List ℤ) (i : ℕ) (row : LocalRowTree) (at k n : ℕ)
    → FitRows first rows xss → slice_get rows i ≡ Some row → first + at ≡ row.first + k → k + n ≤ row.count
    → IsPart (flat xss ++ rest) at n (slice_index_or xss i []) k
part_flat first [] [] rest i row at k n fit is e h = absurd (let no : ⊥ = cc in no)
part_flat first [] (xs ∷ xss) rest i row at k n fit is e h = absurd fit
part_flat first (r ∷ rows) [] rest i row at k n fit is e h = absurd fit
part_flat first (r ∷ rows) (xs ∷ xss) rest zero row at k n fit is e h =
    let same : r ≡ row = cc in
    let here : r.first ≡ row.first = ap (λ (q : LocalRowTree). q.first) same in
    let count : r.count ≡ row.count = ap (λ (q : LocalRowTree). q.count) same in
    let at_k : at ≡ k = omega (arith, fit.0) in
    let within : k + n ≤ length xs = omega (arith, fit.1) in
    record {
      same = ap (λ (l : List ℤ). take n (drop at l)) (append_assoc xs (flat xss) rest) ∙ (ap (λ (j : ℕ). take n (drop j (xs ++ (flat xss ++ rest)))) at_k ∙ part_left xs (flat xss ++ rest) k n within);
      inside = omega (arith, length-append (xs ++ flat xss) rest, length-append xs (flat xss));
      within = within;
    }
part_flat first (r ∷ rows) (xs ∷ xss) rest (suc i) row at k n fit is e h =
    let behind = begins_behind (first + r.count) rows xss i row fit.2 is in
    let at' : ℕ = at - length xs in
    let split : length xs + at' ≡ at = omega (arith, fit.1) in
    let again = part_flat (first + r.count) rows xss rest i row at' k n fit.2 is (omega (arith, fit.1)) h in
    record {
      same = ap (λ (l : List ℤ). take n (drop at l)) (append_assoc xs (flat xss) rest) ∙ (part_right xs (flat xss ++ rest) at' n at split ∙ again.same);
      inside = omega (arith, length-append (xs ++ flat xss) rest, length-append xs (flat xss), length-append (flat xss) rest, again.inside);
      within = again.within;
    }

pub part_is : (all xs : List ℤ) (at k n : ℕ) → IsPart all at n xs k → part_of all at n ≡ Some (scalars_at xs k n)
part_is all xs at k n p =
    let yes : nat_le (at + n) (length all) ≡ true = le-leb (at + n) (length all) p.inside in
    ap (λ b. if b then Some (take n (drop at all)) else None) yes ∙ ap Some p.same

pub set_left : (xs ys new : List ℤ) (k : ℕ) → k + length new ≤ length xs → with_scalars (xs ++ ys) k new ≡ with_scalars xs k new ++ ys
set_left xs ys new k h =
    ap (λ (l : List ℤ). (l ++ new) ++ drop (k + length new) (xs ++ ys)) (take-append-le k xs ys (omega arith))
    ∙ (ap (λ (l : List ℤ). (take k xs ++ new) ++ l) (drop-append-le (k + length new) xs ys h)
    ∙ sym (append_assoc (take k xs ++ new) (drop (k + length new) xs) ys))

pub set_right : (xs ys new : List ℤ) (k m : ℕ) → length xs + k ≡ m → with_scalars (xs ++ ys) m new ≡ xs ++ with_scalars ys k new
set_right xs ys new k m e =
    let f : m + length new ≡ length xs + (k + length new) = omega arith in
    ap (λ (j : ℕ). (take j (xs ++ ys) ++ new) ++ drop (m + length new) (xs ++ ys)) (sym e)
    ∙ (ap (λ (l : List ℤ). (l ++ new) ++ drop (m + length new) (xs ++ ys)) (take-append-add xs ys k)
    ∙ (ap (λ (j : ℕ). ((xs ++ take k ys) ++ new) ++ drop j (xs ++ ys)) f
    ∙ (ap (λ (l : List ℤ). ((xs ++ take k ys) ++ new) ++ l) (drop-append-add xs ys (k + length new))
    ∙ (ap (λ (l : List ℤ). l ++ drop (k + length new) ys) (append_assoc xs (take k ys) new)
    ∙ append_assoc xs (take k ys ++ new) (drop (k + length new) ys)))))

pub length-with_scalars : (xs new : List ℤ) (k : ℕ) → k + length new ≤ length xs → length (with_scalars xs k new) ≡ length xs
length-with_scalars xs new k h =
    omega (arith, length-append (take k xs ++ new) (drop (k + length new) xs), length-append (take k xs) new, length-take-le k xs (let low : k ≤ length xs = omega arith in low), length-drop (k + length new) xs)

-- a part of a local is set
pub set_flat : (first : ℕ) (rows : List LocalRowTree) (xss : List (List ℤ)) (rest new : List ℤ) (i : ℕ) (row : LocalRowTree) (at k : ℕ)
    → FitRows first rows xss → slice_get rows i ≡ Some row → first + at ≡ row.first + k → k + length new ≤ row.count
    → with_scalars (flat xss ++ rest) at new ≡ flat (slice_set xss i (with_scalars (slice_index_or xss i []) k new)) ++ rest
set_flat first [] [] rest new i row at k fit is e h = absurd (let no : ⊥ = cc in no)
set_flat first [] (xs ∷ xss) rest new i row at k fit is e h = absurd fit
set_flat first (r ∷ rows) [] rest new i row at k fit is e h = absurd fit
set_flat first (r ∷ rows) (xs ∷ xss) rest new zero row at k fit is e h =
    let same : r ≡ row = cc in
    let here : r.first ≡ row.first = ap (λ (q : LocalRowTree). q.first) same in
    let count : r.count ≡ row.count = ap (λ (q : LocalRowTree). q.count) same in
    let at_k : at ≡ k = omega (arith, fit.0) in
    let within : k + length new ≤ length xs = omega (arith, fit.1) in
    ap (λ (l : List ℤ). with_scalars l at new) (append_assoc xs (flat xss) rest)
    ∙ (ap (λ (j : ℕ). with_scalars (xs ++ (flat xss ++ rest)) j new) at_k
    ∙ (set_left xs (flat xss ++ rest) new k within
    ∙ sym (append_assoc (with_scalars xs k new) (flat xss) rest)))
set_flat first (r ∷ rows) (xs ∷ xss) rest new (suc i) row at k fit is e h =
    let behind = begins_behind (first + r.count) rows xss i row fit.2 is in
    let at' : ℕ = at - length xs in
    let split : length xs + at' ≡ at = omega (arith, fit.1) in
    ap (λ (l : List ℤ). with_scalars l at new) (append_assoc xs (flat xss) rest)
    ∙ (set_right xs (flat xss ++ rest) new at' at split
    ∙ (ap (λ (l : List ℤ). xs ++ l) (set_flat (first + r.count) rows xss rest new i row at' k fit.2 is (omega (arith, fit.1)) h)
    ∙ sym (append_assoc xs (flat (slice_set xss i (with_scalars (slice_index_or xss i []) k new))) rest)))

-- locals of which one is set fit as before
pub fit_set : (first : ℕ) (rows : List LocalRowTree) (xss : List (List ℤ)) (i : ℕ) (row : LocalRowTree) (v : List ℤ)
    → FitRows first rows xss → slice_get rows i ≡ Some row → length v ≡ row.count → FitRows first rows (slice_set xss i v)
fit_set first [] [] i row v fit is h = absurd (let no : ⊥ = cc in no)
fit_set first [] (xs ∷ xss) i row v fit is h = absurd fit
fit_set first (r ∷ rows) [] i row v fit is h = absurd fit
fit_set first (r ∷ rows) (xs ∷ xss) zero row v fit is h =
    let same : r ≡ row = cc in
    let count : r.count ≡ row.count = ap (λ (q : LocalRowTree). q.count) same in
    (fit.0, h ∙ sym count, fit.2)
fit_set first (r ∷ rows) (xs ∷ xss) (suc i) row v fit is h = (fit.0, fit.1, fit_set (first + r.count) rows xss i row v fit.2 is h)

-- a local has as many scalars as its row says
pub fit_length : (first : ℕ) (rows : List LocalRowTree) (xss : List (List ℤ)) (k : ℕ) (row : LocalRowTree) → FitRows first rows xss → slice_get rows k ≡ Some row → length (slice_index_or xss k []) ≡ row.count
fit_length first [] [] k row fit is = absurd (let no : ⊥ = cc in no)
fit_length first [] (xs ∷ xss) k row fit is = absurd fit
fit_length first (r ∷ rows) [] k row fit is = absurd fit
fit_length first (r ∷ rows) (xs ∷ xss) zero row fit is =
    let same : r ≡ row = cc in
    fit.1 ∙ ap (λ (q : LocalRowTree). q.count) same
fit_length first (r ∷ rows) (xs ∷ xss) (suc k) row fit is = fit_length (first + r.count) rows xss k row fit.2 is

-- so all have together
pub flat_length : (first : ℕ) (rows : List LocalRowTree) (xss : List (List ℤ)) → FitRows first rows xss → length (flat xss) ≡ scalars_in rows
flat_length first [] [] fit = refl
flat_length first [] (xs ∷ xss) fit = absurd fit
flat_length first (r ∷ rows) [] fit = absurd fit
flat_length first (r ∷ rows) (xs ∷ xss) fit = omega (arith, length-append xs (flat xss), flat_length (first + r.count) rows xss fit.2, fit.1)

-- a local lies in the scalars of all
pub row_inside : (first : ℕ) (rows : List LocalRowTree) (xss : List (List ℤ)) (k : ℕ) (row : LocalRowTree) → FitRows first rows xss → slice_get rows k ≡ Some row → row.first + row.count ≤ first + scalars_in rows
row_inside first [] [] k row fit is = absurd (let no : ⊥ = cc in no)
row_inside first [] (xs ∷ xss) k row fit is = absurd fit
row_inside first (r ∷ rows) [] k row fit is = absurd fit
row_inside first (r ∷ rows) (xs ∷ xss) zero row fit is =
    let same : r ≡ row = cc in
    let here : r.first ≡ row.first = ap (λ (q : LocalRowTree). q.first) same in
    let count : r.count ≡ row.count = ap (λ (q : LocalRowTree). q.count) same in
    omega (arith, fit.0)
row_inside first (r ∷ rows) (xs ∷ xss) (suc k) row fit is = omega (arith, row_inside (first + r.count) rows xss k row fit.2 is)
