-- Lists of scalars that are values of modes: joined, repeated, cut, and the lowest ones.
use Rattle.std.proofs.Common.{◌≡◌, ℕ, zero, suc, ◌+◌, ◌*◌, ◌≤◌, List, [], ◌∷◌, ◌++◌, replicate, length, take, drop, Option, Some, None, refl, sym, ap, ◌∙◌, subst, arith, length-append}
use Rattle.std.specs.Prelude.{ℤ, pos, int_le, slice_get, IsTrue}
use Rattle.std.specs.Int.{bit_at}
use Rattle.std.proofs.lemmas.Nat.Bits.{bit_at-zero}
use Rattle.std.proofs.lemmas.Int.{ints}
use Rattle.kernel_base.specs.Facts.{TellsMembers}
use Rattle.modes.specs.declared.mode.Bounds.{Bounds}
use Rattle.modes.specs.ModeTree.{ModeTree, int, boolean, char, instance, set_of, range, powerset, chars, array, structure, event, buffer, read, named, FieldNodes, no_fields, more_fields}
use Rattle.modes.specs.Bounds.{bounds_of, bounds_in, values_of}
use Rattle.modes.specs.Scalars.{numbers_of, repeated, scalars_of, scalars_in_fields, lowest_of, lowest_of_fields}
use Rattle.modes.specs.Language.{parts_fit, fields_fit, lie_in}
use Rattle.modes.proofs.SimilarLemmas.{both}
use Rattle.layout_map.proofs.Steps.{le-from}
use Rattle.source_meaning.specs.Values.{Domain, domain_in, member_domains, domains_of, domains_of_fields, IsWithin, AreWithin, IsValueOf}
use Rattle.text_laws.proofs.Held.{untrue}

pub within_append : (ds es : List Domain) (xs ys : List ℤ) → AreWithin ds xs → AreWithin es ys → AreWithin (ds ++ es) (xs ++ ys)
within_append [] es [] ys v w = w
within_append [] es (x ∷ xs) ys v w = absurd v
within_append (d ∷ ds) es [] ys v w = absurd v
within_append (d ∷ ds) es (x ∷ xs) ys v w = (v.0, within_append ds es xs ys v.1 w)

pub within_repeated : (n : ℕ) (ds : List Domain) (xs : List ℤ) → AreWithin ds xs → AreWithin (repeated n ds) (repeated n xs)
within_repeated zero ds xs w = tt
within_repeated (suc n) ds xs w = within_append ds (repeated n ds) xs (repeated n xs) w (within_repeated n ds xs w)

pub within_length : (ds : List Domain) (xs : List ℤ) → AreWithin ds xs → length ds ≡ length xs
within_length [] [] w = refl
within_length [] (x ∷ xs) w = absurd w
within_length (d ∷ ds) [] w = absurd w
within_length (d ∷ ds) (x ∷ xs) w = ap suc (within_length ds xs w.1)

-- a number of the list lies in its domain
pub within_at : (ds : List Domain) (xs : List ℤ) (k : ℕ) (d : Domain) (x : ℤ) → AreWithin ds xs → slice_get ds k ≡ Some d → slice_get xs k ≡ Some x → IsWithin d x
within_at [] xs k d x w p q = absurd (let f : ⊥ = cc in f)
within_at (e ∷ ds) [] k d x w p q = absurd w
within_at (e ∷ ds) (y ∷ xs) zero d x w p q = let s : e ≡ d = cc in let t : y ≡ x = cc in subst (λ (z : ℤ). IsWithin d z) t (subst (λ (a : Domain). IsWithin a y) s w.0)
within_at (e ∷ ds) (y ∷ xs) (suc k) d x w p q = within_at ds xs k d x w.1 p q

pub within_drop : (k : ℕ) (ds : List Domain) (xs : List ℤ) → AreWithin ds xs → AreWithin (drop k ds) (drop k xs)
within_drop zero ds xs w = w
within_drop (suc k) [] [] w = tt
within_drop (suc k) [] (x ∷ xs) w = absurd w
within_drop (suc k) (d ∷ ds) [] w = absurd w
within_drop (suc k) (d ∷ ds) (x ∷ xs) w = within_drop k ds xs w.1

pub within_take : (k : ℕ) (ds : List Domain) (xs : List ℤ) → AreWithin ds xs → AreWithin (take k ds) (take k xs)
within_take zero ds xs w = tt
within_take (suc k) [] [] w = tt
within_take (suc k) [] (x ∷ xs) w = absurd w
within_take (suc k) (d ∷ ds) [] w = absurd w
within_take (suc k) (d ∷ ds) (x ∷ xs) w = (w.0, within_take k ds xs w.1)

-- ---- lowest values

pub no_members_told : (size first : ℕ) → TellsMembers size first (pos 0)
no_members_told size first = record { bits = 0; is = refl; word = omega arith; members = λ k one. absurd (let none : bit_at 0 k ≡ 0 = bit_at-zero k in let f : ⊥ = omega (arith, one, none) in f) }

pub none_within : (size first n : ℕ) → AreWithin (member_domains size first n) (replicate n (pos 0))
none_within size first zero = tt
none_within size first (suc n) = (no_members_told size first, none_within size (first + 32) n)

blanks_within : (n : ℕ) → AreWithin (replicate n (domain_in (bounds_of char))) (replicate n (pos 32))
blanks_within zero = tt
blanks_within (suc n) = ((omega (arith, ints), omega (arith, ints)), blanks_within n)

low_within : (o : Option Bounds) (l h : ℤ) → IsTrue (lie_in l h o) → IsWithin (domain_in (bounds_in o l h)) l
low_within None l h t = untrue t
low_within (Some b) l h t = let p : IsTrue (int_le l h) = (both _ _ t).0 in (omega (arith, ints), grind (arith, ints, p))

mutual
  pub lowest_within : (m : ModeTree) → IsTrue (parts_fit m) → IsValueOf m (lowest_of m)
  lowest_within int f = ((omega (arith, ints), omega (arith, ints)), tt)
  lowest_within boolean f = ((omega (arith, ints), omega (arith, ints)), tt)
  lowest_within char f = ((omega (arith, ints), omega (arith, ints)), tt)
  lowest_within instance f = ((omega (arith, ints), omega (arith, ints)), tt)
  lowest_within (set_of d n) f = let p : 1 ≤ n = le-from 1 n (both _ _ f).0 in ((omega (arith, ints), omega (arith, ints, p)), tt)
  lowest_within (range p l h) f = (low_within (bounds_of p) l h (both _ _ f).1, tt)
  lowest_within (powerset m) f = none_within (values_of m) 0 (numbers_of (values_of m))
  lowest_within (chars n) f = blanks_within n
  lowest_within (array i e how) f = within_repeated (values_of i) (domains_of e) (lowest_of e) (lowest_within e (both _ _ (both _ _ f).1).1)
  lowest_within (structure fs p) f = lowest_fields_within fs (both _ _ f).1
  lowest_within (event l) f = untrue f
  lowest_within (buffer l e) f = untrue f
  lowest_within (read m) f = lowest_within m f
  lowest_within (named d n m) f = lowest_within m f

  pub lowest_fields_within : (fs : FieldNodes) → IsTrue (fields_fit fs) → AreWithin (domains_of_fields fs) (lowest_of_fields fs)
  lowest_fields_within no_fields f = tt
  lowest_fields_within (more_fields name m at fs) f =
      within_append (domains_of m) (domains_of_fields fs) (lowest_of m) (lowest_of_fields fs) (lowest_within m (both _ _ f).0) (lowest_fields_within fs (both _ _ f).1)

-- ---- how many scalars

pub count_append : {A : Type 0} (n m : ℕ) (xs ys : List A) → length xs ≡ n → length ys ≡ m → length (xs ++ ys) ≡ n + m
count_append n m xs ys p q = omega (arith, p, q, length-append xs ys)

pub count_repeated : {A : Type 0} (n m : ℕ) (xs : List A) → length xs ≡ m → length (repeated n xs) ≡ n * m
count_repeated zero m xs p = omega arith
count_repeated (suc n) m xs p = let r = count_repeated n m xs p in let e : suc n * m ≡ m + n * m = omega arith in count_append m (n * m) xs (repeated n xs) p r ∙ sym e

count_replicate : {A : Type 0} (n : ℕ) (x : A) → length (replicate n x) ≡ n
count_replicate zero x = refl
count_replicate (suc n) x = ap suc (count_replicate n x)

count_members : (size first n : ℕ) → length (member_domains size first n) ≡ n
count_members size first zero = refl
count_members size first (suc n) = ap suc (count_members size (first + 32) n)

mutual
  -- a mode has as many domains as scalars
  pub count_domains : (m : ModeTree) → length (domains_of m) ≡ scalars_of m
  count_domains int = refl
  count_domains boolean = refl
  count_domains char = refl
  count_domains instance = refl
  count_domains (set_of d n) = refl
  count_domains (range p l h) = refl
  count_domains (powerset m) = count_members (values_of m) 0 (numbers_of (values_of m))
  count_domains (chars n) = omega (arith, count_replicate n (domain_in (bounds_of char)))
  count_domains (array i e how) = count_repeated (values_of i) (scalars_of e) (domains_of e) (count_domains e)
  count_domains (structure fs p) = count_field_domains fs
  count_domains (event l) = refl
  count_domains (buffer l e) = refl
  count_domains (read m) = count_domains m
  count_domains (named d n m) = count_domains m

  pub count_field_domains : (fs : FieldNodes) → length (domains_of_fields fs) ≡ scalars_in_fields 0 fs
  count_field_domains no_fields = refl
  count_field_domains (more_fields name m at fs) = count_append (scalars_of m) (scalars_in_fields 0 fs) (domains_of m) (domains_of_fields fs) (count_domains m) (count_field_domains fs)
