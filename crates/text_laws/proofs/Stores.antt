-- Stores whose values are those of the modes of the locals, and what reads and writes of them give.
use Rattle.std.proofs.Common.{◌≡◌, ℕ, zero, suc, ◌+◌, ◌≤◌, List, [], ◌∷◌, ◌++◌, length, take, drop, Option, Some, None, sym, ap, ◌∙◌, subst, arith, length-append}
use Rattle.std.specs.Prelude.{ℤ, slice_get, slice_set, slice_index_or, IsTrue, All}
use Rattle.std.specs.List.{flat_map}
use Rattle.std.proofs.lemmas.List.{take_at, drop_at}
use Rattle.std.proofs.lemmas.List.Elements.{All-head, All-tail}
use Rattle.modes.specs.ModeTree.{ModeTree}
use Rattle.modes.specs.Scalars.{scalars_of}
use Rattle.modes.specs.Language.{parts_fit}
use Rattle.program_trees.specs.ProgramTree.{LocalRowTree}
use Rattle.world_model.specs.Lists.{scalars_at, with_scalars}
use Rattle.source_meaning.specs.Store.{Store, with_local, with_result, Taken, brings, lowest, begins_with, first_locals, count_in}
use Rattle.source_meaning.specs.StatementMeaning.{set_locals, spread_over, counts_over}
use Rattle.source_meaning.specs.Values.{Domain, domains_of, AreWithin, IsValueOf}
use Rattle.source_meaning.specs.TypedValues.{Context}
use Rattle.source_meaning.specs.TypedStatements.{LocalHas, LocalsHave}
use Rattle.text_laws.proofs.Values.{within_length, within_take, within_drop, lowest_within, count_domains}
use Rattle.text_laws.proofs.Taking.{PartAt}

-- each local has a value of its mode
abbrev pub LocalsFit : List LocalRowTree → List (List ℤ) → Type 0
LocalsFit [] [] = Unit {0}
LocalsFit [] (xs ∷ ls) = ⊥
LocalsFit (row ∷ rows) [] = ⊥
LocalsFit (row ∷ rows) (xs ∷ ls) = IsValueOf row.mode xs × LocalsFit rows ls

abbrev pub ResultFits : Option ModeTree → List ℤ → Type 0
ResultFits None xs = Unit {0}
ResultFits (Some m) xs = IsValueOf m xs

pub record StoreFits (rows : List LocalRowTree) (result : Option ModeTree) (store : Store) : Type 0 where
  pub locals : LocalsFit rows store.locals
  pub result_fits : ResultFits result store.result

pub local_fits : (rows : List LocalRowTree) (ls : List (List ℤ)) (i : ℕ) (row : LocalRowTree) → LocalsFit rows ls → slice_get rows i ≡ Some row → IsValueOf row.mode (slice_index_or ls i [])
local_fits [] ls i row w e = absurd (let f : ⊥ = cc in f)
local_fits (r ∷ rows) [] i row w e = absurd w
local_fits (r ∷ rows) (xs ∷ ls) zero row w e = let is : r ≡ row = cc in subst (λ (x : LocalRowTree). IsValueOf x.mode xs) is w.0
local_fits (r ∷ rows) (xs ∷ ls) (suc i) row w e = local_fits rows ls i row w.1 e

set_fits : (rows : List LocalRowTree) (ls : List (List ℤ)) (i : ℕ) (row : LocalRowTree) (xs : List ℤ) → LocalsFit rows ls → slice_get rows i ≡ Some row → IsValueOf row.mode xs → LocalsFit rows (slice_set ls i xs)
set_fits [] ls i row xs w e v = absurd (let f : ⊥ = cc in f)
set_fits (r ∷ rows) [] i row xs w e v = absurd w
set_fits (r ∷ rows) (ys ∷ ls) zero row xs w e v = let is : row ≡ r = cc in (subst (λ (x : LocalRowTree). IsValueOf x.mode xs) is v, w.1)
set_fits (r ∷ rows) (ys ∷ ls) (suc i) row xs w e v = (w.0, set_fits rows ls i row xs w.1 e v)

pub with_local_fits : (rows : List LocalRowTree) (result : Option ModeTree) (store : Store) (i : ℕ) (row : LocalRowTree) (xs : List ℤ) → StoreFits rows result store → slice_get rows i ≡ Some row → IsValueOf row.mode xs → StoreFits rows result (with_local store i xs)
with_local_fits rows result store i row xs w e v = record { locals = set_fits rows store.locals i row xs w.locals e v; result_fits = w.result_fits }

pub with_result_fits : (rows : List LocalRowTree) (m : ModeTree) (store : Store) (xs : List ℤ) → StoreFits rows (Some m) store → IsValueOf m xs → StoreFits rows (Some m) (with_result store xs)
with_result_fits rows m store xs w v = record { locals = w.locals; result_fits = v }

-- ---- parts

-- other scalars from one on
pub patched : (ds : List Domain) (ys xs : List ℤ) (k n : ℕ) → AreWithin ds ys → length xs ≡ n → k + n ≤ length ds → AreWithin (take n (drop k ds)) xs → AreWithin ds (with_scalars ys k xs)
patched ds ys xs zero n w e h v = front ds ys xs n w e v
  where
    front : (ds : List Domain) (ys xs : List ℤ) (n : ℕ) → AreWithin ds ys → length xs ≡ n → AreWithin (take n ds) xs → AreWithin ds (xs ++ drop (0 + length xs) ys)
    front ds ys [] n w e v = w
    front [] ys (x ∷ xs) zero w e v = absurd (let f : ⊥ = omega (arith, e) in f)
    front [] ys (x ∷ xs) (suc n) w e v = absurd v
    front (d ∷ ds) ys (x ∷ xs) zero w e v = absurd (let f : ⊥ = omega (arith, e) in f)
    front (d ∷ ds) [] (x ∷ xs) (suc n) w e v = absurd w
    front (d ∷ ds) (y ∷ ys) (x ∷ xs) (suc n) w e v =
        let at : 0 + suc (length xs) ≡ suc (0 + length xs) = omega arith in
        (v.0, subst (λ (j : ℕ). AreWithin ds (xs ++ drop j (y ∷ ys))) (sym at) (front ds ys xs n w.1 (omega (arith, e)) v.1))
patched [] [] xs (suc k) n w e h v = absurd (let f : ⊥ = omega (arith, h) in f)
patched [] (y ∷ ys) xs (suc k) n w e h v = absurd w
patched (d ∷ ds) [] xs (suc k) n w e h v = absurd w
patched (d ∷ ds) (y ∷ ys) xs (suc k) n w e h v =
    let at : suc k + length xs ≡ suc (k + length xs) = omega arith in
    (w.0, subst (λ (j : ℕ). AreWithin ds ((take k ys ++ xs) ++ drop j (y ∷ ys))) (sym at) (patched ds ys xs k n w.1 e (omega (arith, h)) v))

-- the scalars of a part are a value of its mode
pub part_value : (ds : List Domain) (ys : List ℤ) (m : ModeTree) (k n : ℕ) → AreWithin ds ys → PartAt ds m k → n ≡ scalars_of m → IsValueOf m (scalars_at ys k n)
part_value ds ys m k n w p e =
    subst (λ (j : ℕ). IsValueOf m (scalars_at ys k j)) (sym e)
    (subst (λ (es : List Domain). AreWithin es (take (scalars_of m) (drop k ys))) p.are (within_take (scalars_of m) (drop k ds) (drop k ys) (within_drop k ds ys w)))

pub patched_value : (ds : List Domain) (ys xs : List ℤ) (m : ModeTree) (k : ℕ) → AreWithin ds ys → PartAt ds m k → IsValueOf m xs → AreWithin ds (with_scalars ys k xs)
patched_value ds ys xs m k w p v =
    let count : length xs ≡ scalars_of m = sym (within_length (domains_of m) xs v) ∙ count_domains m in
    patched ds ys xs k (scalars_of m) w count p.inside (subst (λ (es : List Domain). AreWithin es xs) (sym p.are) v)

-- ---- parameters

abbrev pub TakenFits : ModeTree → Taken → Type 0
TakenFits m (brings xs) = IsValueOf m xs
TakenFits m lowest = Unit {0}

-- what parameters from one on begin with are values of their modes
abbrev pub TakensFit : List LocalRowTree → ℕ → List Taken → Type 0
TakensFit rows k [] = Unit {0}
TakensFit rows k (t ∷ ts) = ((row : LocalRowTree) × (slice_get rows k ≡ Some row) × TakenFits row.mode t) × TakensFit rows (suc k) ts

takens_behind : (row : LocalRowTree) (rows : List LocalRowTree) (k : ℕ) (ts : List Taken) → TakensFit (row ∷ rows) (suc k) ts → TakensFit rows k ts
takens_behind row rows k [] w = tt
takens_behind row rows k (t ∷ ts) w = (w.0, takens_behind row rows (suc k) ts w.1)

-- each row has a mode that a text can give
abbrev pub RowsFit : List LocalRowTree → Type 0
RowsFit [] = Unit {0}
RowsFit (row ∷ rows) = ((row.count ≡ scalars_of row.mode) × IsTrue (parts_fit row.mode)) × RowsFit rows

pub row_fits : (rows : List LocalRowTree) (i : ℕ) (row : LocalRowTree) → RowsFit rows → slice_get rows i ≡ Some row → (row.count ≡ scalars_of row.mode) × IsTrue (parts_fit row.mode)
row_fits [] i row w e = absurd (let f : ⊥ = cc in f)
row_fits (r ∷ rows) zero row w e = let is : r ≡ row = cc in subst (λ (x : LocalRowTree). (x.count ≡ scalars_of x.mode) × IsTrue (parts_fit x.mode)) is w.0
row_fits (r ∷ rows) (suc i) row w e = row_fits rows i row w.1 e

taken_begins : (row : LocalRowTree) (t : Taken) → IsTrue (parts_fit row.mode) → TakenFits row.mode t → IsValueOf row.mode (begins_with row t)
taken_begins row (brings xs) p v = v
taken_begins row lowest p v = lowest_within row.mode p

pub first_fits : (rows : List LocalRowTree) (ts : List Taken) → RowsFit rows → TakensFit rows 0 ts → LocalsFit rows (first_locals rows ts)
first_fits [] ts r w = tt
first_fits (row ∷ rows) [] r w = (lowest_within row.mode r.0.1, first_fits rows [] r.1 tt)
first_fits (row ∷ rows) (t ∷ ts) r w =
    let is : w.0.0 ≡ row = (let e : Some row ≡ Some w.0.0 = w.0.1 in let f : row ≡ w.0.0 = cc in sym f) in
    (taken_begins row t r.0.1 (subst (λ (x : LocalRowTree). TakenFits x.mode t) is w.0.2), first_fits rows ts r.1 (takens_behind row rows 0 ts w.1))

-- ---- what is copied out

-- the values from one on are those of the locals
abbrev pub ValuesFit : List LocalRowTree → ℕ → List (List ℤ) → Type 0
ValuesFit rows k [] = Unit {0}
ValuesFit rows k (xs ∷ ls) = ((row : LocalRowTree) → slice_get rows k ≡ Some row → IsValueOf row.mode xs) × ValuesFit rows (suc k) ls

values_behind : (row : LocalRowTree) (rows : List LocalRowTree) (k : ℕ) (ls : List (List ℤ)) → ValuesFit rows k ls → ValuesFit (row ∷ rows) (suc k) ls
values_behind row rows k [] w = tt
values_behind row rows k (xs ∷ ls) w = (w.0, values_behind row rows (suc k) ls w.1)

pub values_fit : (rows : List LocalRowTree) (ls : List (List ℤ)) → LocalsFit rows ls → ValuesFit rows 0 ls
values_fit [] [] w = tt
values_fit [] (xs ∷ ls) w = absurd w
values_fit (row ∷ rows) [] w = tt
values_fit (row ∷ rows) (xs ∷ ls) w = (λ other e. let is : row ≡ other = cc in subst (λ (x : LocalRowTree). IsValueOf x.mode xs) is w.0, values_behind row rows 0 ls (values_fit rows ls w.1))

-- ---- several locals

pub set_locals_fit : (c : Context) (result : Option ModeTree) (m : ModeTree) (is : List ℕ) (xs : List ℤ) (store : Store) → StoreFits c.rows result store → All (LocalHas c m) is → IsValueOf m xs → StoreFits c.rows result (set_locals is xs store)
set_locals_fit c result m [] xs store w h v = w
set_locals_fit c result m (i ∷ is) xs store w h v =
    let l = All-head (LocalHas c m) i is h in
    set_locals_fit c result m is xs (with_local store i xs) (with_local_fits c.rows result store i l.0 xs w l.1 (subst (λ (x : ModeTree). IsValueOf x xs) (sym l.2) v)) (All-tail (LocalHas c m) i is h) v

-- the front of joined values
front_value : (m : ModeTree) (es : List Domain) (xs : List ℤ) (n : ℕ) → n ≡ scalars_of m → AreWithin (domains_of m ++ es) xs → IsValueOf m (take n xs) × AreWithin es (drop n xs)
front_value m es xs n e v =
    let c : length (domains_of m) ≡ n = count_domains m ∙ sym e in (
      subst (λ (ds : List Domain). AreWithin ds (take n xs)) (take_at (domains_of m) es n c) (within_take n (domains_of m ++ es) xs v),
      subst (λ (ds : List Domain). AreWithin ds (drop n xs)) (drop_at (domains_of m) es n c) (within_drop n (domains_of m ++ es) xs v),
    )

count_of_row : (rows : List LocalRowTree) (i : ℕ) (row : LocalRowTree) → slice_get rows i ≡ Some row → count_in (slice_get rows i) ≡ row.count
count_of_row rows i row e = ap count_in e

-- what is received goes to the locals one after another
-- what locals take together
pub counts_have : (c : Context) (is : List ℕ) (ms : List ModeTree) → RowsFit c.rows → LocalsHave c is ms → length (flat_map domains_of ms) ≡ counts_over c.rows is
counts_have c [] ms r h = ap (λ (l : List ModeTree). length (flat_map domains_of l)) h
counts_have c (i ∷ is) ms r h =
    let row : LocalRowTree = h.3.0 in
    let at : slice_get c.rows i ≡ Some row = h.3.1 in
    let count : count_in (slice_get c.rows i) ≡ scalars_of h.0 = count_of_row c.rows i row at ∙ ((row_fits c.rows i row r at).0 ∙ ap scalars_of h.3.2) in
    let whole = ap (λ (l : List ModeTree). length (flat_map domains_of l)) h.2 in
    let sum = length-append (domains_of h.0) (flat_map domains_of h.1) in
    let first = count_domains h.0 in
    let behind = counts_have c is h.1 r h.4 in
    omega (arith, count, whole, sum, first, behind)

pub spread_fits : (c : Context) (result : Option ModeTree) (is : List ℕ) (ms : List ModeTree) (xs : List ℤ) (store : Store) → RowsFit c.rows → StoreFits c.rows result store → LocalsHave c is ms → AreWithin (flat_map domains_of ms) xs → StoreFits c.rows result (spread_over c.rows is xs store)
spread_fits c result [] ms xs store r w h v = w
spread_fits c result (i ∷ is) ms xs store r w h v =
    let m : ModeTree = h.0 in
    let row : LocalRowTree = h.3.0 in
    let at : slice_get c.rows i ≡ Some row = h.3.1 in
    let mode : row.mode ≡ m = h.3.2 in
    let count : count_in (slice_get c.rows i) ≡ scalars_of m = count_of_row c.rows i row at ∙ ((row_fits c.rows i row r at).0 ∙ ap scalars_of mode) in
    let parts = front_value m (flat_map domains_of h.1) xs (count_in (slice_get c.rows i)) count (subst (λ (l : List ModeTree). AreWithin (flat_map domains_of l) xs) h.2 v) in
    spread_fits c result is h.1 (drop (count_in (slice_get c.rows i)) xs) (with_local store i (take (count_in (slice_get c.rows i)) xs)) r
    (with_local_fits c.rows result store i row (take (count_in (slice_get c.rows i)) xs) w at (subst (λ (x : ModeTree). IsValueOf x (take (count_in (slice_get c.rows i)) xs)) (sym mode) parts.0))
    h.4 parts.1
