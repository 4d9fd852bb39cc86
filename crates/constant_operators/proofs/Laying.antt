-- A mode whose scalars have places is laid out.
use Rattle.std.proofs.Common.{◌≡◌, ℕ, zero, suc, Bool, true, false, List, length, Option, Some, None, refl, ◌∙◌}
use Rattle.std.specs.Prelude.{◌&&◌, not, is_ok, Ok, Err, IsTrue, if◌then◌else◌}
use Rattle.std.specs.declared.result.Result.{Result}
use Rattle.modes.specs.ModeTree.{ModeTree, int, boolean, char, instance, set_of, range, powerset, chars, array, structure, event, buffer, read, named, FieldNodes, no_fields, more_fields, PlaceTree, SpreadTree, words, packed, step}
use Rattle.modes.specs.Bounds.{values_of}
use Rattle.modes.proofs.SimilarLemmas.{both}
use Rattle.layout_map.specs.declared.overlap.Shared.{Shared}
use Rattle.layout_map.specs.Place.{is_possible_step}
use Rattle.layout_map.specs.Numbered.{next_number, are_mixed, is_misplaced, and_then, array_impossible, first_impossible, fields_impossible}
use Rattle.layout_map.specs.Overlap.{at_number, sharing_from, found, second_from, placed_overlap, ats_of, number_within, first_overlap, fields_overlap}
use Rattle.layout_map.specs.Spots.{is_placed, spots_of}
use Rattle.layout_map.specs.Outcome.{Outcome, spots, unless_shared, unless_impossible, outcome_of}
use Rattle.constant_operators.specs.Laid.{step_is_laid, are_apart, is_laid, fields_are_laid}

then_ok : {E : Type 0} (r : Result ℕ E) (f : ℕ → Result ℕ E) → IsTrue (is_ok r) → ((n : ℕ) → IsTrue (is_ok (f n))) → IsTrue (is_ok (and_then r f))
then_ok (Ok n) f a b = b n
then_ok (Err e) f a b = a

unless_ok : (b : Bool) (n : ℕ) (r : Result ℕ ℕ) → IsTrue (not b) → IsTrue (is_ok r) → IsTrue (is_ok (if b then Err n else r))
unless_ok true n r h e = h
unless_ok false n r h e = e

step_ok : (b : Bool) (n k : ℕ) → IsTrue b → IsTrue (is_ok {T = ℕ} {E = ℕ} (if b then Ok n else Err k))
step_ok true n k h = refl
step_ok false n k h = h

array_possible : (n : ℕ) (e : ModeTree) (how : SpreadTree) (number : ℕ) → IsTrue (step_is_laid n e how) → IsTrue (is_ok (array_impossible n e how number))
array_possible n e words number h = refl
array_possible n e packed number h = refl
array_possible n e (step p d) number h = step_ok (is_possible_step n e p d) (next_number number) number h

mutual
  possible : (m : ModeTree) (n : ℕ) → IsTrue (is_laid m) → IsTrue (is_ok (first_impossible m n))
  possible int n h = refl
  possible boolean n h = refl
  possible char n h = refl
  possible instance n h = refl
  possible (set_of d k) n h = refl
  possible (range p l u) n h = refl
  possible (powerset m) n h = refl
  possible (chars k) n h = refl
  possible (array i e how) n h =
      let s = both (step_is_laid (values_of i) e how) (is_laid e) h in
      then_ok (array_impossible (values_of i) e how n) (first_impossible e) (array_possible (values_of i) e how n s.0) (λ k. possible e k s.1)
  possible (structure fs p) n h = let s = both (are_apart fs) (fields_are_laid fs (are_mixed fs)) h in fields_possible fs (are_mixed fs) n s.1
  possible (event l) n h = refl
  possible (buffer l e) n h = refl
  possible (read m) n h = possible m n h
  possible (named d k m) n h = possible m n h

  fields_possible : (fs : FieldNodes) (mixed : Bool) (n : ℕ) → IsTrue (fields_are_laid fs mixed) → IsTrue (is_ok (fields_impossible fs mixed n))
  fields_possible no_fields mixed n h = refl
  fields_possible (more_fields name m at fs) mixed n h =
      let s = both (not (is_misplaced m at mixed)) (is_laid m && fields_are_laid fs mixed) h in
      let t = both (is_laid m) (fields_are_laid fs mixed) s.1 in
      then_ok (if is_misplaced m at mixed then Err n else first_impossible m (next_number n)) (fields_impossible fs mixed)
      (unless_ok (is_misplaced m at mixed) n (first_impossible m (next_number n)) s.0 (possible m (next_number n) t.0)) (λ k. fields_possible fs mixed k t.1)

-- ---- no two share a bit, whatever their numbers

found_same : (number j : ℕ) (o : Option ℕ) (r s : Result ℕ Shared) → is_ok r ≡ is_ok s → is_ok (found number j o r) ≡ is_ok (found 0 j o s)
found_same number j None r s e = e
found_same number j (Some i) r s e = refl

second_same : (n j number : ℕ) (ats : List (Option PlaceTree)) → is_ok (second_from n j number ats) ≡ is_ok (second_from n j 0 ats)
second_same zero j number ats = refl
second_same (suc n) j number ats = found_same number j (sharing_from j 0 (at_number ats j) ats) (second_from n (suc j) number ats) (second_from n (suc j) 0 ats) (second_same n (suc j) number ats)

either_ok : {E : Type 0} (b : Bool) (r s t : Result ℕ E) → is_ok r ≡ is_ok t → IsTrue (if b then is_ok t else true) → IsTrue (is_ok s) → IsTrue (is_ok (if b then r else s))
either_ok true r s t e h k = e ∙ h
either_ok false r s t e h k = k

mutual
  apart : (m : ModeTree) (n : ℕ) → IsTrue (is_laid m) → IsTrue (is_ok (first_overlap m n))
  apart int n h = refl
  apart boolean n h = refl
  apart char n h = refl
  apart instance n h = refl
  apart (set_of d k) n h = refl
  apart (range p l u) n h = refl
  apart (powerset m) n h = refl
  apart (chars k) n h = refl
  apart (array i e how) n h = let s = both (step_is_laid (values_of i) e how) (is_laid e) h in apart e (number_within how n) s.1
  apart (structure fs p) n h =
      let s = both (are_apart fs) (fields_are_laid fs (are_mixed fs)) h in
      either_ok (is_placed fs) (placed_overlap (ats_of fs) n) (fields_overlap fs n) (placed_overlap (ats_of fs) 0) (second_same (length (ats_of fs)) 0 n (ats_of fs)) s.0 (fields_apart fs (are_mixed fs) n s.1)
  apart (event l) n h = refl
  apart (buffer l e) n h = refl
  apart (read m) n h = apart m n h
  apart (named d k m) n h = apart m n h

  fields_apart : (fs : FieldNodes) (mixed : Bool) (n : ℕ) → IsTrue (fields_are_laid fs mixed) → IsTrue (is_ok (fields_overlap fs n))
  fields_apart no_fields mixed n h = refl
  fields_apart (more_fields name m at fs) mixed n h =
      let s = both (not (is_misplaced m at mixed)) (is_laid m && fields_are_laid fs mixed) h in
      let t = both (is_laid m) (fields_are_laid fs mixed) s.1 in
      then_ok (first_overlap m (next_number n)) (fields_overlap fs) (apart m (next_number n) t.0) (λ k. fields_apart fs mixed k t.1)

-- ---- the spots

spots_unless_shared : (r : Result ℕ Shared) (m : ModeTree) → IsTrue (is_ok r) → unless_shared r m ≡ spots (spots_of m)
spots_unless_shared (Ok n) m h = refl
spots_unless_shared (Err s) m h = absurd (cc)

spots_unless : (r : Result ℕ ℕ) (m : ModeTree) → IsTrue (is_ok r) → IsTrue (is_ok (first_overlap m 0)) → unless_impossible r m ≡ spots (spots_of m)
spots_unless (Ok n) m h k = spots_unless_shared (first_overlap m 0) m k
spots_unless (Err s) m h k = absurd (cc)

pub laid_outcome : (m : ModeTree) → IsTrue (is_laid m) → outcome_of m ≡ spots (spots_of m)
laid_outcome m h = spots_unless (first_impossible m 0) m (possible m 0 h) (apart m 0 h)
