-- The law that the modes that a text writes are there: what their names need.
use Rattle.std.specs.Prelude.{◌≡◌, Bool, [], Option, Some, None, IsSome}
use Rattle.chill_tree.specs.declared.tree.name.Name.{Name}
use Rattle.chill_tree.specs.ExprTree.{ExprTree}
use Rattle.chill_tree.specs.ModeTree as written
use Rattle.checks_model.specs.Ground.{Ground, mode_of_name}
use Rattle.checks_model.specs.WrittenModes.{set_named, mode_of, told_of_mode}
use Rattle.elaborated_laws.specs.Known.{IsKnownName}
use Rattle.there_laws.specs.Constants.{HasConstants}
use Rattle.there_laws.specs.Shapes.{HasShapes}

-- the names in a needed constant have values, of the shapes of their classes
abbrev pub IsNeeded : Ground → ExprTree → Type 0
IsNeeded g e = HasConstants g e × HasShapes g e

abbrev pub IsSomeNeeded : Ground → Option ExprTree → Type 0
IsSomeNeeded g None = Unit {0}
IsSomeNeeded g (Some e) = IsNeeded g e

-- a name of a mode has one, and the elements of a SET are defined
abbrev pub DiscreteNeeds : Ground → written.DiscreteTree → Type 0
DiscreteNeeds g (written.named n) = IsSome (mode_of_name g n)
DiscreteNeeds g (written.bounded n l h) = IsSome (mode_of_name g n) × (IsNeeded g l × IsNeeded g h)
DiscreteNeeds g (written.set_of at ns) = IsSome (set_named g ns)

abbrev pub IndexNeeds : Ground → written.IndexTree → Type 0
IndexNeeds g (written.index_named n) = IsSome (mode_of_name g n)
IndexNeeds g (written.index_bounded l h) = IsNeeded g l × IsNeeded g h

abbrev pub PlaceNeeds : Ground → written.PlaceTree → Type 0
PlaceNeeds g p = IsNeeded g p.word × (IsNeeded g p.start × IsNeeded g p.bound)

abbrev pub SomePlaceNeeds : Ground → Option written.PlaceTree → Type 0
SomePlaceNeeds g None = Unit {0}
SomePlaceNeeds g (Some p) = PlaceNeeds g p

abbrev pub SpreadNeeds : Ground → Option written.SpreadTree → Type 0
SpreadNeeds g None = Unit {0}
SpreadNeeds g (Some (written.by_packing p)) = Unit {0}
SpreadNeeds g (Some (written.by_step s)) = PlaceNeeds g s.place × IsNeeded g s.distance

abbrev mutual
  pub BaseNeeds : Ground → written.BaseTree → Type 0
  BaseNeeds g (written.discrete d) = DiscreteNeeds g d
  BaseNeeds g (written.powerset at d) = DiscreteNeeds g d
  BaseNeeds g (written.chars at e) = IsNeeded g e
  BaseNeeds g (written.structure at fs p) = FieldsNeed g fs
  BaseNeeds g (written.array at i b s) = IndexNeeds g i × (BaseNeeds g b × SpreadNeeds g s)

  pub FieldsNeed : Ground → written.FieldNodes → Type 0
  FieldsNeed g written.no_fields = Unit {0}
  FieldsNeed g (written.more_fields ns b p fs) = (BaseNeeds g b × SomePlaceNeeds g p) × FieldsNeed g fs

abbrev pub ModeNeeds : Ground → written.ModeTree → Type 0
ModeNeeds g (written.base_mode b) = BaseNeeds g b
ModeNeeds g (written.read_mode at b) = BaseNeeds g b
ModeNeeds g (written.event_mode at l) = IsSomeNeeded g l
ModeNeeds g (written.buffer_mode at l b) = IsSomeNeeded g l × BaseNeeds g b

-- A mode that a text writes, and of which nothing is told, is there.
abbrev pub WrittenThereLaw : Type 0
WrittenThereLaw = (g : Ground) (whole : Bool) (w : written.ModeTree) → ((n : Name) → IsKnownName g n) → ModeNeeds g w → told_of_mode g whole w ≡ [] → IsSome (mode_of g whole w)
