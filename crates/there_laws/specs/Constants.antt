-- The law that constants have values: what their names need, and where they stand.
use Rattle.std.specs.Prelude.{◌≡◌, true, false, not, [], Option, Some, IsSome}
use Rattle.chill_tree.specs.declared.tree.name.Name.{Name}
use Rattle.chill_tree.specs.ExprTree.{ExprTree, ExprNodes, RangeTree, RangeNodes, whole, character, text, this_instance, paren, receive, start, tuple, uniform, name, apply, field, prefixed, binary, no_exprs, more_exprs, alone, between, no_ranges, more_ranges}
use Rattle.modes.specs.ModeTree.{ModeTree}
use Rattle.checks_model.specs.Ground.{Ground, origin_of, entry_of}
use Rattle.checks_model.specs.Classes.{Measured, a_mode_of, misfit, other, measured_first}
use Rattle.checks_model.specs.Constants.{is_constant_origin, has_form, constant_as, value_of_name}
use Rattle.checks_model.specs.ConstantRules.{Standing, is_by_itself, is_in_synonym, told_as, misfits_as}
use Rattle.class_laws.specs.Known.{HasMode}
use Rattle.elaborated_laws.specs.Known.{IsDeclarable, IsKnownName}

-- a synonym, an element, TRUE, FALSE or NULL has a value
abbrev pub HasValue : Ground → Name → Type 0
HasValue g n = is_constant_origin (origin_of g n) ≡ true → IsSome (value_of_name (entry_of g n) (origin_of g n))

-- the mode of what may be measured is there
abbrev pub IsMeasurable : Measured → Type 0
IsMeasurable (a_mode_of m) = IsSome m
IsMeasurable misfit = Unit {0}
IsMeasurable other = Unit {0}

abbrev mutual
  -- the names in an expression have what its value needs of them
  pub HasConstants : Ground → ExprTree → Type 0
  HasConstants g (whole at n) = Unit {0}
  HasConstants g (character at n) = Unit {0}
  HasConstants g (text at n) = Unit {0}
  HasConstants g (this_instance at) = Unit {0}
  HasConstants g (paren at e) = HasConstants g e
  HasConstants g (receive at n) = Unit {0}
  HasConstants g (start at n es) = Unit {0}
  HasConstants g (tuple at n b rs) = HasMode g n × RangesHaveConstants g rs
  HasConstants g (uniform at n b e) = HasMode g n × HasConstants g e
  HasConstants g (name n) = HasValue g n
  HasConstants g (apply at e es) = IsMeasurable (measured_first g es) × HaveConstants g es
  HasConstants g (field at e n) = Unit {0}
  HasConstants g (prefixed at o e) = HasConstants g e
  HasConstants g (binary at l o p r) = HasConstants g l × HasConstants g r

  pub HaveConstants : Ground → ExprNodes → Type 0
  HaveConstants g no_exprs = Unit {0}
  HaveConstants g (more_exprs e es) = HasConstants g e × HaveConstants g es

  pub RangeHasConstants : Ground → RangeTree → Type 0
  RangeHasConstants g (alone e) = HasConstants g e
  RangeHasConstants g (between l h) = HasConstants g l × HasConstants g h

  pub RangesHaveConstants : Ground → RangeNodes → Type 0
  RangesHaveConstants g no_ranges = Unit {0}
  RangesHaveConstants g (more_ranges r rs) = RangeHasConstants g r × RangesHaveConstants g rs

-- What receives an expression that stands somewhere: a tuple's part, or a synonym with a written mode, has a mode, and this is one that a
-- location may have.
pub record IsReceived (s : Standing) (m : Option ModeTree) : Type 0 where
  pub there : is_by_itself s ≡ false → IsSome m
  pub fits : (k : ModeTree) → m ≡ Some k → IsDeclarable k

-- M12 isn't told of it, where it judges
abbrev pub FitsSynonym : Ground → Standing → Option ModeTree → ExprTree → Type 0
FitsSynonym g s m e = is_in_synonym s ≡ true → misfits_as g m e ≡ false

abbrev pub ConstantThereLaw : Type 0
ConstantThereLaw = (g : Ground) (s : Standing) (m : Option ModeTree) (e : ExprTree)
    → ((n : Name) → IsKnownName g n) → HasConstants g e → IsReceived s m → FitsSynonym g s m e → told_as g s m e ≡ [] → has_form g (not (is_by_itself s)) e ≡ true → IsSome (constant_as g m e)
