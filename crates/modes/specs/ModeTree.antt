-- Modes, without where they lie in memory.
use Rattle.std.specs.Prelude.{ℕ, Bool, List, [], ◌∷◌, map, ℤ, Option, option_map}
use Rattle.chill_base.specs.declared.layout.Bits.{Bits}
use Rattle.modes.specs.declared.mode.Mode.{Mode, Mode-F, fold-Mode}
use Rattle.modes.specs.declared.mode.Mode.TheOpen as opens
use Rattle.modes.specs.declared.mode.Field.{Field, Field-F, fold-Field}
use Rattle.modes.specs.declared.mode.Spread.{Spread}
use Rattle.modes.specs.declared.mode.Spread.TheVariants as spreads
use Rattle.modes.specs.declared.mode.Class.{Class}
use Rattle.modes.specs.declared.mode.Class.TheVariants as classes

-- bits of a word, as they are written
pub record PlaceTree : Type 0 where
  pub word : ℕ
  pub start : ℕ
  pub end : ℕ

-- how the elements of an array lie
pub data SpreadTree : Type 0 where
  words : SpreadTree
  packed : SpreadTree
  step : PlaceTree → ℕ → SpreadTree

mutual
  -- a mode
  pub data ModeTree : Type 0 where
    int : ModeTree
    boolean : ModeTree
    char : ModeTree
    instance : ModeTree
    set_of : ℕ → ℕ → ModeTree
    range : ModeTree → ℤ → ℤ → ModeTree
    powerset : ModeTree → ModeTree
    chars : ℕ → ModeTree
    array : ModeTree → ModeTree → SpreadTree → ModeTree
    structure : FieldNodes → Bool → ModeTree
    event : Option ℕ → ModeTree
    buffer : Option ℕ → ModeTree → ModeTree
    read : ModeTree → ModeTree
    named : ℕ → Bool → ModeTree → ModeTree

  -- the fields of a structure
  pub data FieldNodes : Type 0 where
    no_fields : FieldNodes
    more_fields : List ℕ → ModeTree → Option PlaceTree → FieldNodes → FieldNodes

-- a field of a structure
pub record FieldTree : Type 0 where
  pub name : List ℕ
  pub mode : ModeTree
  pub at : Option PlaceTree

-- fields as a structure holds them
abbrev pub field_nodes : List FieldTree → FieldNodes
field_nodes [] = no_fields
field_nodes (f ∷ fs) = more_fields f.name f.mode f.at (field_nodes fs)

-- a class
pub data ClassTree : Type 0 where
  value : ModeTree → ClassTree
  derived : ModeTree → ClassTree
  null : ClassTree
  nothing : ClassTree

-- ---- the trees of values

abbrev pub place_tree : Bits → PlaceTree
place_tree b = record { word = b.word; start = b.start; end = b.end }

abbrev pub spread_tree : Spread → SpreadTree
spread_tree spreads.Words = words
spread_tree spreads.Packed = packed
spread_tree (spreads.Step at d) = step (place_tree at) d

abbrev pub mode_layer : Mode-F ModeTree FieldTree → ModeTree
mode_layer opens.Int = int
mode_layer opens.Bool = boolean
mode_layer opens.Char = char
mode_layer opens.Instance = instance
mode_layer (opens.Set d n) = set_of d n
mode_layer (opens.Range p l h) = range p.value l h
mode_layer (opens.Powerset m) = powerset m.value
mode_layer (opens.Chars n) = chars n
mode_layer (opens.Array i e how) = array i.value e.value (spread_tree how)
mode_layer (opens.Struct fs p) = structure (field_nodes fs) p
mode_layer (opens.Event l) = event l
mode_layer (opens.Buffer l e) = buffer l e.value
mode_layer (opens.Read m) = read m.value
mode_layer (opens.Named d n m) = named d n m.value

abbrev pub field_layer : Field-F ModeTree FieldTree → FieldTree
field_layer f = record { name = f.name; mode = f.mode.value; at = option_map place_tree f.at }

-- the tree of a mode
unfoldable pub mode_tree : Mode → ModeTree
mode_tree = fold-Mode ModeTree FieldTree mode_layer field_layer

-- the tree of a field
unfoldable pub field_tree : Field → FieldTree
field_tree = fold-Field ModeTree FieldTree mode_layer field_layer

abbrev pub field_trees : List Field → List FieldTree
field_trees fs = map field_tree fs

-- the tree of a class
abbrev pub class_tree : Class → ClassTree
class_tree (classes.Value m) = value (mode_tree m.value)
class_tree (classes.Derived m) = derived (mode_tree m.value)
class_tree classes.Null = null
class_tree classes.Nothing = nothing
