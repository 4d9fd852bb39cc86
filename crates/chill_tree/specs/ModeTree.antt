-- Modes as they are written, without where they lie in memory.
use Rattle.std.specs.Prelude.{List, [], ◌∷◌, map, Option, option_map}
use Rattle.std.specs.declared.alloc.Global.{Global}
use Rattle.std.specs.declared.boxed.Box.{Box}
use Rattle.chill_base.specs.declared.pos.Pos.{Pos}
use Rattle.chill_tree.specs.declared.tree.name.Name.{Name}
use Rattle.chill_tree.specs.declared.tree.mode.Packing.{Packing}
use Rattle.chill_tree.specs.declared.tree.mode.PlaceForm.{PlaceForm}
use Rattle.chill_tree.specs.declared.tree.mode.Discrete.{Discrete}
use Rattle.chill_tree.specs.declared.tree.mode.Discrete.TheVariants as discretes
use Rattle.chill_tree.specs.declared.tree.mode.Index.{Index}
use Rattle.chill_tree.specs.declared.tree.mode.Index.TheVariants as indices
use Rattle.chill_tree.specs.declared.tree.mode.Place.{Place}
use Rattle.chill_tree.specs.declared.tree.mode.Step.{Step}
use Rattle.chill_tree.specs.declared.tree.mode.Spread.{Spread}
use Rattle.chill_tree.specs.declared.tree.mode.Spread.TheVariants as spreads
use Rattle.chill_tree.specs.declared.tree.mode.Base.{Base, Base-F, fold-Base}
use Rattle.chill_tree.specs.declared.tree.mode.Base.TheOpen as opens
use Rattle.chill_tree.specs.declared.tree.mode.Field.{Field, Field-F, fold-Field}
use Rattle.chill_tree.specs.declared.tree.mode.Mode.{Mode}
use Rattle.chill_tree.specs.declared.tree.mode.Mode.TheVariants as modes
use Rattle.chill_tree.specs.ExprTree.{ExprTree, boxed_expr}

-- a mode's name, a part of that mode between two bounds, or a set of elements
pub data DiscreteTree : Type 0 where
  named : Name → DiscreteTree
  bounded : Name → ExprTree → ExprTree → DiscreteTree
  set_of : Pos → List Name → DiscreteTree

-- the indices of an array
pub data IndexTree : Type 0 where
  index_named : Name → IndexTree
  index_bounded : ExprTree → ExprTree → IndexTree

-- a place in words
pub record PlaceTree : Type 0 where
  pub at : Pos
  pub word : ExprTree
  pub start : ExprTree
  pub form : PlaceForm
  pub bound : ExprTree

-- the place of an array's first element, and the bits from each to the next
pub record StepTree : Type 0 where
  pub at : Pos
  pub place : PlaceTree
  pub distance : ExprTree

-- how the elements of an array lie
pub data SpreadTree : Type 0 where
  by_packing : Packing → SpreadTree
  by_step : StepTree → SpreadTree

mutual
  -- a mode of values
  pub data BaseTree : Type 0 where
    discrete : DiscreteTree → BaseTree
    powerset : Pos → DiscreteTree → BaseTree
    chars : Pos → ExprTree → BaseTree
    structure : Pos → FieldNodes → Option Packing → BaseTree
    array : Pos → IndexTree → BaseTree → Option SpreadTree → BaseTree

  -- the fields of a structure
  pub data FieldNodes : Type 0 where
    no_fields : FieldNodes
    more_fields : List Name → BaseTree → Option PlaceTree → FieldNodes → FieldNodes

-- fields of one mode
pub record FieldTree : Type 0 where
  pub names : List Name
  pub base : BaseTree
  pub place : Option PlaceTree

-- fields as a structure holds them
abbrev pub field_nodes : List FieldTree → FieldNodes
field_nodes [] = no_fields
field_nodes (f ∷ fs) = more_fields f.names f.base f.place (field_nodes fs)

-- the fields that a structure holds
abbrev pub fields_in : FieldNodes → List FieldTree
fields_in no_fields = []
fields_in (more_fields ns b p fs) = record { names = ns; base = b; place = p } ∷ fields_in fs

-- a mode
pub data ModeTree : Type 0 where
  base_mode : BaseTree → ModeTree
  read_mode : Pos → BaseTree → ModeTree
  event_mode : Pos → Option ExprTree → ModeTree
  buffer_mode : Pos → Option ExprTree → BaseTree → ModeTree

-- ---- the trees of values

abbrev pub discrete_tree : Discrete → DiscreteTree
discrete_tree (discretes.Named n) = named n
discrete_tree (discretes.Range n l h) = bounded n (boxed_expr l) (boxed_expr h)
discrete_tree (discretes.Set at ns) = set_of at ns

abbrev pub index_tree : Index → IndexTree
index_tree (indices.Named n) = index_named n
index_tree (indices.Range l h) = index_bounded (boxed_expr l) (boxed_expr h)

abbrev pub place_tree : Place → PlaceTree
place_tree p = record { at = p.at; word = boxed_expr p.word; start = boxed_expr p.start; form = p.form; bound = boxed_expr p.bound }

abbrev pub step_tree : Step → StepTree
step_tree s = record { at = s.at; place = place_tree s.place; distance = boxed_expr s.distance }

abbrev pub spread_tree : Spread → SpreadTree
spread_tree (spreads.Packing p) = by_packing p
spread_tree (spreads.Step s) = by_step (step_tree s)

abbrev pub base_layer : Base-F BaseTree FieldTree → BaseTree
base_layer (opens.Discrete d) = discrete (discrete_tree d)
base_layer (opens.Powerset at d) = powerset at (discrete_tree d)
base_layer (opens.Chars at e) = chars at (boxed_expr e)
base_layer (opens.Struct at fs p) = structure at (field_nodes fs) p
base_layer (opens.Array at i b s) = array at (index_tree i) b.value (option_map spread_tree s)

abbrev pub field_layer : Field-F BaseTree FieldTree → FieldTree
field_layer f = record { names = f.names; base = f.base.value; place = option_map place_tree f.place }

-- the tree of a mode of values
unfoldable pub base_tree : Base → BaseTree
base_tree = fold-Base BaseTree FieldTree base_layer field_layer

-- the tree of a mode of values in a box
abbrev pub boxed_base : Box Base Global → BaseTree
boxed_base b = base_tree b.value

-- the tree of fields
unfoldable pub field_tree : Field → FieldTree
field_tree = fold-Field BaseTree FieldTree base_layer field_layer

abbrev pub field_trees : List Field → List FieldTree
field_trees fs = map field_tree fs

-- the tree of a mode
abbrev pub mode_tree : Mode → ModeTree
mode_tree (modes.Base b) = base_mode (boxed_base b)
mode_tree (modes.Read at b) = read_mode at (boxed_base b)
mode_tree (modes.Event at l) = event_mode at (option_map boxed_expr l)
mode_tree (modes.Buffer at l b) = buffer_mode at (option_map boxed_expr l) (boxed_base b)
