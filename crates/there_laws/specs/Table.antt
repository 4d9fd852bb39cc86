-- The law that names have what constants and modes need of them, in a table of which nothing is told.
use Rattle.std.specs.Prelude.{◌≡◌, ℕ, Bool, true, false, List, [], ◌∷◌, Option, Some, None, IsSome, slice_get}
use Rattle.chill_tree.specs.declared.tree.name.Name.{Name}
use Rattle.chill_tree.specs.ExprTree.{ExprTree, ExprNodes, RangeTree, RangeNodes, whole, character, text, this_instance, paren, receive, start, tuple, uniform, name, apply, field, prefixed, binary, no_exprs, more_exprs, alone, between, no_ranges, more_ranges}
use Rattle.chill_tree.specs.ModeTree as written
use Rattle.modes.specs.ModeTree.{ClassTree}
use Rattle.checks_model.specs.ValueTrees.{ValueTree}
use Rattle.checks_model.specs.Ground.{Ground, Origin, Entry, of_mode, a_synonym, a_mode, a_location, a_parameter, a_predefined, origin_of, entry_of, number_at, named_mode}
use Rattle.checks_model.specs.Classes.{class_of_origin, located_name}
use Rattle.checks_model.specs.Constants.{is_constant_origin, value_of_name}
use Rattle.checks_model.specs.WrittenModes.{set_named, told_of_mode, told_of_some_mode}
use Rattle.checks_model.specs.Table.{told_of_synonym}
use Rattle.table_laws.specs.OneTable.{IsEvaluated, IsOrder}
use Rattle.elaborated_laws.specs.Table.{AreDefined}
use Rattle.elaborated_laws.specs.Entries.{AllWrittenSo}
use Rattle.there_laws.specs.Constants.{IsMeasurable}
use Rattle.there_laws.specs.Shapes.{is_of_class}

-- ---- names that stand for modes

abbrev pub stands_for_mode : Option Origin → Bool
stands_for_mode (Some (a_mode novel w)) = true
stands_for_mode (Some (a_predefined (of_mode m))) = true
stands_for_mode _ = false

abbrev pub IsModeName : Ground → Name → Type 0
IsModeName g n = stands_for_mode (origin_of g n) ≡ true

abbrev pub IsSomeModeName : Ground → Option Name → Type 0
IsSomeModeName g None = Unit {0}
IsSomeModeName g (Some n) = IsModeName g n

abbrev mutual
  -- the names before tuples stand for modes
  pub TuplesNamed : Ground → ExprTree → Type 0
  TuplesNamed g (whole at n) = Unit {0}
  TuplesNamed g (character at n) = Unit {0}
  TuplesNamed g (text at n) = Unit {0}
  TuplesNamed g (this_instance at) = Unit {0}
  TuplesNamed g (paren at e) = TuplesNamed g e
  TuplesNamed g (receive at n) = Unit {0}
  TuplesNamed g (start at n es) = EachTuplesNamed g es
  TuplesNamed g (tuple at n b rs) = IsSomeModeName g n × RangesTuplesNamed g rs
  TuplesNamed g (uniform at n b e) = IsSomeModeName g n × TuplesNamed g e
  TuplesNamed g (name n) = Unit {0}
  TuplesNamed g (apply at e es) = TuplesNamed g e × EachTuplesNamed g es
  TuplesNamed g (field at e n) = TuplesNamed g e
  TuplesNamed g (prefixed at o e) = TuplesNamed g e
  TuplesNamed g (binary at l o p r) = TuplesNamed g l × TuplesNamed g r

  pub EachTuplesNamed : Ground → ExprNodes → Type 0
  EachTuplesNamed g no_exprs = Unit {0}
  EachTuplesNamed g (more_exprs e es) = TuplesNamed g e × EachTuplesNamed g es

  pub RangeTuplesNamed : Ground → RangeTree → Type 0
  RangeTuplesNamed g (alone e) = TuplesNamed g e
  RangeTuplesNamed g (between l h) = TuplesNamed g l × TuplesNamed g h

  pub RangesTuplesNamed : Ground → RangeNodes → Type 0
  RangesTuplesNamed g no_ranges = Unit {0}
  RangesTuplesNamed g (more_ranges r rs) = RangeTuplesNamed g r × RangesTuplesNamed g rs

abbrev pub SomeTuplesNamed : Ground → Option ExprTree → Type 0
SomeTuplesNamed g None = Unit {0}
SomeTuplesNamed g (Some e) = TuplesNamed g e

-- the names in a written mode stand for modes, and the elements of its SETs are defined
abbrev pub DiscreteNamed : Ground → written.DiscreteTree → Type 0
DiscreteNamed g (written.named n) = IsModeName g n
DiscreteNamed g (written.bounded n l h) = IsModeName g n × (TuplesNamed g l × TuplesNamed g h)
DiscreteNamed g (written.set_of at ns) = IsSome (set_named g ns)

abbrev pub IndexNamed : Ground → written.IndexTree → Type 0
IndexNamed g (written.index_named n) = IsModeName g n
IndexNamed g (written.index_bounded l h) = TuplesNamed g l × TuplesNamed g h

abbrev pub PlaceNamed : Ground → written.PlaceTree → Type 0
PlaceNamed g p = TuplesNamed g p.word × (TuplesNamed g p.start × TuplesNamed g p.bound)

abbrev pub SomePlaceNamed : Ground → Option written.PlaceTree → Type 0
SomePlaceNamed g None = Unit {0}
SomePlaceNamed g (Some p) = PlaceNamed g p

abbrev pub SpreadNamed : Ground → Option written.SpreadTree → Type 0
SpreadNamed g None = Unit {0}
SpreadNamed g (Some (written.by_packing p)) = Unit {0}
SpreadNamed g (Some (written.by_step s)) = PlaceNamed g s.place × TuplesNamed g s.distance

abbrev mutual
  pub BaseNamed : Ground → written.BaseTree → Type 0
  BaseNamed g (written.discrete d) = DiscreteNamed g d
  BaseNamed g (written.powerset at d) = DiscreteNamed g d
  BaseNamed g (written.chars at e) = TuplesNamed g e
  BaseNamed g (written.structure at fs p) = FieldsNamed g fs
  BaseNamed g (written.array at i b s) = IndexNamed g i × (BaseNamed g b × SpreadNamed g s)

  pub FieldsNamed : Ground → written.FieldNodes → Type 0
  FieldsNamed g written.no_fields = Unit {0}
  FieldsNamed g (written.more_fields ns b p fs) = (BaseNamed g b × SomePlaceNamed g p) × FieldsNamed g fs

abbrev pub ModeNamed : Ground → written.ModeTree → Type 0
ModeNamed g (written.base_mode b) = BaseNamed g b
ModeNamed g (written.read_mode at b) = BaseNamed g b
ModeNamed g (written.event_mode at l) = SomeTuplesNamed g l
ModeNamed g (written.buffer_mode at l b) = SomeTuplesNamed g l × BaseNamed g b

abbrev pub SomeModeNamed : Ground → Option written.ModeTree → Type 0
SomeModeNamed g None = Unit {0}
SomeModeNamed g (Some w) = ModeNamed g w

abbrev pub EachModeNamed : Ground → List written.ModeTree → Type 0
EachModeNamed g [] = Unit {0}
EachModeNamed g (w ∷ ws) = ModeNamed g w × EachModeNamed g ws

abbrev pub SomeModesNamed : Ground → Option (List written.ModeTree) → Type 0
SomeModesNamed g None = Unit {0}
SomeModesNamed g (Some ws) = EachModeNamed g ws

-- ---- definitions

-- the names in what defines something that constants and modes look up stand for what they have to, and nothing is told of it
abbrev pub IsSound : Ground → Origin → Type 0
IsSound g (a_synonym s) = (SomeModeNamed g s.mode × TuplesNamed g s.value) × ((told_of_some_mode g s.mode ≡ []) × (told_of_synonym g s ≡ []))
IsSound g (a_mode novel w) = ModeNamed g w × (told_of_mode g true w ≡ [])
IsSound g (a_location d) = ModeNamed g d.mode × (told_of_mode g true d.mode ≡ [])
IsSound g (a_parameter w) = ModeNamed g w × (told_of_mode g false w ≡ [])
IsSound g o = Unit {0}

abbrev pub AllSound : Ground → Type 0
AllSound g = (d : ℕ) (o : Origin) → slice_get g.origins d ≡ Some o → IsSound g o

-- what is known of something, by its entry, its number and what it is defined by: a constant has a value, of the shape of its class; the
-- name of a mode has its mode; and so has what may be measured
pub record IsThereBy (e : Option Entry) (k : Option ℕ) (o : Option Origin) : Type 0 where
  pub value : is_constant_origin o ≡ true → IsSome (value_of_name e o)
  pub shape : (c : ClassTree) (v : ValueTree) → class_of_origin e o ≡ Some c → value_of_name e o ≡ Some v → is_of_class c v ≡ true
  pub mode : stands_for_mode o ≡ true → IsSome (named_mode e k o)
  pub located : IsMeasurable (located_name e o)

abbrev pub IsNameThere : Ground → Name → Type 0
IsNameThere g n = IsThereBy (entry_of g n) (number_at g.uses n.at) (origin_of g n)

-- In a table that an order of its definitions leads through, and of which nothing is told, each name has what constants and modes need.
abbrev pub TableThereLaw : Type 0
TableThereLaw = (g : Ground) (order : List ℕ) → IsEvaluated g → IsOrder g order → AreDefined g → AllWrittenSo g → AllSound g → (n : Name) → IsNameThere g n
