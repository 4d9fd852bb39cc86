-- Which modes are similar, v-equivalent and equivalent.
use Rattle.std.specs.Prelude.{◌≡◌, ◌↔◌, ℕ, Bool, true, false, ◌&&◌, List, Option, None, MatchOption, IsTrue}
use Rattle.modes.specs.declared.mode.Bounds.{Bounds}
use Rattle.modes.specs.ModeTree.{ModeTree, int, boolean, char, instance, set_of, range, powerset, chars, array, structure, event, buffer, read, named, FieldNodes, no_fields, more_fields, PlaceTree, SpreadTree, FieldTree}
use Rattle.modes.specs.Bounds.{bounds_of}
use Rattle.modes.specs.Roots.{novelty_of, read_is}

-- What two similar modes have in common: the root without names, in which each part that has to be equivalent is kept
-- with its novelty, whether it is READ, its bounds and its own shape.
pub data Shape : Type 0 where
  like_int : Shape
  like_boolean : Shape
  like_char : Shape
  like_instance : Shape
  like_set : ℕ → ℕ → Shape
  like_powerset : Shape → Shape
  like_chars : ℕ → Shape
  like_array : Shape → Option Bounds → Shape → SpreadTree → Shape
  like_structure : Shape → Bool → Shape
  like_none : Shape
  part : Option ℕ → Bool → Option Bounds → Shape → Shape
  no_more : Shape
  next_field : List ℕ → Option PlaceTree → Shape → Shape → Shape

abbrev mutual
  pub shape_of : ModeTree → Shape
  shape_of int = like_int
  shape_of boolean = like_boolean
  shape_of char = like_char
  shape_of instance = like_instance
  shape_of (set_of d n) = like_set d n
  shape_of (range p l h) = shape_of p
  shape_of (powerset m) = like_powerset (part (novelty_of m) (read_is m) (bounds_of m) (shape_of m))
  shape_of (chars n) = like_chars n
  shape_of (array i e how) = like_array (shape_of i) (bounds_of i) (part (novelty_of e) (read_is e) (bounds_of e) (shape_of e)) how
  shape_of (structure fs p) = like_structure (shape_of_fields fs) p
  shape_of (event l) = like_none
  shape_of (buffer l e) = like_none
  shape_of (read m) = shape_of m
  shape_of (named d n m) = shape_of m

  pub shape_of_fields : FieldNodes → Shape
  shape_of_fields no_fields = no_more
  shape_of_fields (more_fields name m at fs) = next_field name at (part (novelty_of m) (read_is m) (bounds_of m) (shape_of m)) (shape_of_fields fs)

-- no event or buffer stands in the shape
abbrev pub has_values : Shape → Bool
has_values (like_powerset m) = has_values m
has_values (like_array i b e how) = has_values i && has_values e
has_values (like_structure fs p) = has_values fs
has_values like_none = false
has_values (part n r b m) = has_values m
has_values (next_field name at m fs) = has_values m && has_values fs
has_values like_int = true
has_values like_boolean = true
has_values like_char = true
has_values like_instance = true
has_values (like_set d n) = true
has_values (like_chars n) = true
has_values no_more = true

-- one shape, of values; an event or a buffer is similar to nothing
pub record Similar (a b : ModeTree) : Type 0 where
  pub shape : shape_of a ≡ shape_of b
  pub values : IsTrue (has_values (shape_of a))

-- what equivalent modes have in common besides their shape
pub record SameOutside (a b : ModeTree) : Type 0 where
  pub novelty : novelty_of a ≡ novelty_of b
  pub read : read_is a ≡ read_is b
  pub bounds : bounds_of a ≡ bounds_of b

-- similar, and of one novelty
pub record VEquivalent (a b : ModeTree) : Type 0 where
  pub similar : Similar a b
  pub novelty : novelty_of a ≡ novelty_of b

-- v-equivalent, both or neither READ, and discrete modes of the same bounds
pub record Equivalent (a b : ModeTree) : Type 0 where
  pub v_equivalent : VEquivalent a b
  pub read : read_is a ≡ read_is b
  pub bounds : bounds_of a ≡ bounds_of b

-- the same names in order, equivalent modes, the same places
pub record SimilarFields (a b : FieldNodes) : Type 0 where
  pub shape : shape_of_fields a ≡ shape_of_fields b
  pub values : IsTrue (has_values (shape_of_fields a))

-- one name, equivalent modes, the same place
pub record SimilarField (a b : FieldTree) : Type 0 where
  pub name : a.name ≡ b.name
  pub at : a.at ≡ b.at
  pub modes : Equivalent a.mode b.mode

-- a mode without parts, and of any other one that is similar to nothing
abbrev pub plain : ModeTree → ModeTree
plain int = int
plain boolean = boolean
plain char = char
plain instance = instance
plain (set_of d n) = set_of d n
plain (chars n) = chars n
plain (range p l h) = event None
plain (powerset m) = event None
plain (array i e how) = event None
plain (structure fs p) = event None
plain (event l) = event None
plain (buffer l e) = event None
plain (read m) = event None
plain (named d n m) = event None

-- two modes are similar exactly where a part of the one is to what is beside it; where nothing is, they aren't
abbrev pub IsDownTo : ModeTree → ModeTree → ModeTree → Option ModeTree → Type 0
IsDownTo a b inner beside = MatchOption beside (Similar a b → ⊥) (λ m. Similar a b ↔ Similar inner m)

-- the same of the fields of two structures
abbrev pub AreDownTo : FieldNodes → FieldNodes → ModeTree → Option ModeTree → Type 0
AreDownTo a b inner beside = MatchOption beside (SimilarFields a b → ⊥) (λ m. SimilarFields a b ↔ Similar inner m)

-- the same of two fields
abbrev pub FieldIsDownTo : FieldTree → FieldTree → Option ModeTree → Type 0
FieldIsDownTo a b beside = MatchOption beside (SimilarField a b → ⊥) (λ m. SimilarField a b ↔ Similar a.mode m)
