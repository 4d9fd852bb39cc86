-- How many scalars modes have: those that a text can give have few, and a lowest value as many.
use Rattle.std.proofs.Common.{◌≡◌, ◌+◌, ◌*◌, ◌≤◌, ℕ, zero, suc, List, [], ◌∷◌, length, length-append, refl, ap, ◌∙◌, subst, arith, Some, IsTrue, rules}
use Rattle.std.specs.Prelude.{ℤ, pos, Bool, true, false, ◌&&◌, nat_le, slice_get}
use Rattle.std.proofs.lemmas.List.{length-replicate}
use Rattle.std.proofs.Math.Nat.{mul-le-mul}
use Rattle.modes.specs.ModeTree.{ModeTree, int, boolean, char, instance, set_of, range, powerset, chars, array, structure, event, buffer, read, named, FieldNodes, no_fields, more_fields}
use Rattle.modes.specs.Form.{form_of}
use Rattle.modes.specs.Bounds.{values_of, bounds_of}
use Rattle.modes.specs.Scalars.{numbers_of, scalars_of, leaves_of, scalars_in_fields, repeated, lowest_of, lowest_of_fields}
use Rattle.modes.specs.Language.{IsOfLanguage, parts_fit, is_from_to, lie_in}
use Rattle.program_trees.specs.ProgramTree.{LocalRowTree}
use Rattle.source_meaning.specs.Typed.{AreLaidFrom}
use Rattle.source_meaning.specs.TypedValues.{IsArray}

pub both_hold : (a b : Bool) → IsTrue (a && b) → IsTrue a × IsTrue b
both_hold true b h = (search rules, h)
both_hold false b h = (h, cc)

at_most : (m n : ℕ) → IsTrue (nat_le m n) → m ≤ n
at_most m n holds = search (rules, holds)

-- ---- lowest values

many_lists : (n : ℕ) (xs : List ℤ) → length (repeated n xs) ≡ n * length xs
many_lists zero xs = omega arith
many_lists (suc n) xs =
    let l = length-append xs (repeated n xs) in
    let rest = many_lists n xs in
    let e : suc n * length xs ≡ length xs + n * length xs = grind arith in
    omega (arith, l, rest, e)

mutual
  pub lowest_counted : (m : ModeTree) → length (lowest_of m) ≡ scalars_of m
  lowest_counted int = refl
  lowest_counted boolean = refl
  lowest_counted char = refl
  lowest_counted instance = refl
  lowest_counted (set_of d n) = refl
  lowest_counted (range p l h) = refl
  lowest_counted (powerset m) = length-replicate (numbers_of (values_of m)) (pos 0)
  lowest_counted (chars n) = let k = length-replicate n (pos 32) in omega (arith, k)
  lowest_counted (array i e how) = many_lists (values_of i) (lowest_of e) ∙ ap (λ (k : ℕ). values_of i * k) (lowest_counted e)
  lowest_counted (structure fs p) = lowest_fields_counted fs
  lowest_counted (event l) = refl
  lowest_counted (buffer l e) = refl
  lowest_counted (read m) = lowest_counted m
  lowest_counted (named d n m) = lowest_counted m

  lowest_fields_counted : (fs : FieldNodes) → length (lowest_of_fields fs) ≡ scalars_in_fields 0 fs
  lowest_fields_counted no_fields = refl
  lowest_fields_counted (more_fields name m at fs) =
      let l = length-append (lowest_of m) (lowest_of_fields fs) in
      let a = lowest_counted m in
      let b = lowest_fields_counted fs in
      omega (arith, l, a, b)

-- ---- few scalars

mutual
  scalars_in_leaves : (m : ModeTree) → scalars_of m ≤ leaves_of m
  scalars_in_leaves int = omega arith
  scalars_in_leaves boolean = omega arith
  scalars_in_leaves char = omega arith
  scalars_in_leaves instance = omega arith
  scalars_in_leaves (set_of d n) = omega arith
  scalars_in_leaves (range p l h) = omega arith
  scalars_in_leaves (powerset m) = omega arith
  scalars_in_leaves (chars n) = omega arith
  scalars_in_leaves (array i e how) = mul-le-mul (let r : values_of i ≤ values_of i = omega arith in r) (scalars_in_leaves e)
  scalars_in_leaves (structure fs p) = scalars_in_field_leaves fs
  scalars_in_leaves (event l) = omega arith
  scalars_in_leaves (buffer l e) = omega arith
  scalars_in_leaves (read m) = scalars_in_leaves m
  scalars_in_leaves (named d n m) = scalars_in_leaves m

  scalars_in_field_leaves : (fs : FieldNodes) → scalars_in_fields 0 fs ≤ scalars_in_fields 1 fs
  scalars_in_field_leaves no_fields = omega arith
  scalars_in_field_leaves (more_fields name m at fs) = let a = scalars_in_leaves m in let b = scalars_in_field_leaves fs in omega (arith, a, b)

pub scalars_few : (m : ModeTree) → IsOfLanguage m → scalars_of m ≤ 4096
scalars_few m told = let a = scalars_in_leaves m in let b = told.size in omega (arith, a, b)

-- an array of the language has few elements
pub elements_few : (m index e : ModeTree) → IsTrue (parts_fit m) → IsArray (form_of m) index e → values_of index ≤ 4096
elements_few (array i own how) index e fits is =
    let parts = both_hold (parts_fit i) (is_from_to 1 4096 (values_of i) && parts_fit own) fits in
    let more = both_hold (is_from_to 1 4096 (values_of i)) (parts_fit own) parts.1 in
    let low = both_hold (nat_le 1 (values_of i)) (nat_le (values_of i) 4096) more.0 in
    subst (λ x. values_of x ≤ 4096) is.0 (at_most (values_of i) 4096 low.1)
elements_few (range p l h) index e fits is = elements_few p index e (both_hold (parts_fit p) (lie_in l h (bounds_of p)) fits).0 is
elements_few (read m) index e fits is = elements_few m index e fits is
elements_few (named d n m) index e fits is = elements_few m index e fits is
elements_few int index e fits is = absurd is
elements_few boolean index e fits is = absurd is
elements_few char index e fits is = absurd is
elements_few instance index e fits is = absurd is
elements_few (set_of d n) index e fits is = absurd is
elements_few (powerset m) index e fits is = absurd is
elements_few (chars n) index e fits is = absurd is
elements_few (structure fs p) index e fits is = absurd is
elements_few (event l) index e fits is = absurd is
elements_few (buffer l own) index e fits is = absurd is

-- ---- rows

-- a local has as many scalars as its mode, which a text can give
pub row_told : (rows : List LocalRowTree) (first k : ℕ) (row : LocalRowTree) → AreLaidFrom first rows → slice_get rows k ≡ Some row → (row.count ≡ scalars_of row.mode) × IsOfLanguage row.mode
row_told [] first k row laid is = absurd (let no : ⊥ = cc in no)
row_told (x ∷ rows) first zero row laid is =
    let same : x ≡ row = cc in
    subst (λ r. (r.count ≡ scalars_of r.mode) × IsOfLanguage r.mode) same (laid.1, laid.2)
row_told (x ∷ rows) first (suc k) row laid is = row_told rows (first + x.count) k row laid.3 is
