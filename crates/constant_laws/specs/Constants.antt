-- The law of the values of constants: each is one of its class's mode.
use Rattle.std.specs.Prelude.{◌≡◌, ℕ, ◌≤◌, true, false, not, List, [], ◌∷◌, Option, Some}
use Rattle.chill_tree.specs.declared.tree.name.Name.{Name}
use Rattle.chill_tree.specs.ExprTree.{ExprTree, ExprNodes, RangeTree, RangeNodes, whole, character, text, this_instance, paren, receive, start, tuple, uniform, name, apply, field, prefixed, binary, no_exprs, more_exprs, alone, between, no_ranges, more_ranges}
use Rattle.modes.specs.ModeTree.{ModeTree, ClassTree}
use Rattle.checks_model.specs.ValueTrees.{ValueTree}
use Rattle.checks_model.specs.Ground.{Ground, Entry, Origin, origin_of, entry_of, mode_of_name}
use Rattle.checks_model.specs.Classes.{class_as, class_of_origin, a_mode_of, located_name}
use Rattle.checks_model.specs.Constants.{has_form, constant_as, value_of_name}
use Rattle.checks_model.specs.ConstantRules.{Standing, is_by_itself, told_as}
use Rattle.table_laws.specs.Names.{names_in}
use Rattle.elaborated_laws.specs.Known.{IsKnownName}
use Rattle.elaborated_laws.specs.Classes.{HasModes, HasShortTexts}
use Rattle.written_laws.specs.Written.{Each}
use Rattle.there_laws.specs.Constants.{IsReceived, FitsSynonym}
use Rattle.constant_laws.specs.Values.{FitsClass}
use Rattle.constant_laws.specs.Places.{are_possible}

-- ---- the characters of a text

abbrev pub IsByte : ℕ → Type 0
IsByte b = b ≤ 255

abbrev mutual
  -- the characters and the text literals in an expression are bytes
  pub HasBytes : ExprTree → Type 0
  HasBytes (whole at n) = Unit {0}
  HasBytes (character at n) = IsByte n
  HasBytes (text at bytes) = Each IsByte bytes
  HasBytes (this_instance at) = Unit {0}
  HasBytes (paren at e) = HasBytes e
  HasBytes (receive at n) = Unit {0}
  HasBytes (start at n es) = HaveBytes es
  HasBytes (tuple at m b rs) = RangesHaveBytes rs
  HasBytes (uniform at m b e) = HasBytes e
  HasBytes (name n) = Unit {0}
  HasBytes (apply at e es) = HasBytes e × HaveBytes es
  HasBytes (field at e n) = HasBytes e
  HasBytes (prefixed at o e) = HasBytes e
  HasBytes (binary at l o p r) = HasBytes l × HasBytes r

  pub HaveBytes : ExprNodes → Type 0
  HaveBytes no_exprs = Unit {0}
  HaveBytes (more_exprs e es) = HasBytes e × HaveBytes es

  pub RangeHasBytes : RangeTree → Type 0
  RangeHasBytes (alone e) = HasBytes e
  RangeHasBytes (between l h) = HasBytes l × HasBytes h

  pub RangesHaveBytes : RangeNodes → Type 0
  RangesHaveBytes no_ranges = Unit {0}
  RangesHaveBytes (more_ranges r rs) = RangeHasBytes r × RangesHaveBytes rs

-- ---- names

-- what is known of something, by its entry and what it is defined by: a constant's value is one of its class's mode
abbrev pub FitsBy : Option Entry → Option Origin → Type 0
FitsBy e o = (c : ClassTree) (v : ValueTree) → class_of_origin e o ≡ Some c → value_of_name e o ≡ Some v → FitsClass c v

-- What a constant needs of the names in it: their values fit, their modes are such as a location may have, and what UPPER, LOWER and SIZE
-- measure has possible places.
pub record IsNameFit (g : Ground) (n : Name) : Type 0 where
  pub known : IsKnownName g n
  pub modes : HasModes g n
  pub value : FitsBy (entry_of g n) (origin_of g n)
  pub located : (m : ModeTree) → located_name (entry_of g n) (origin_of g n) ≡ a_mode_of (Some m) → are_possible m ≡ true
  pub own : (m : ModeTree) → mode_of_name g n ≡ Some m → are_possible m ≡ true

abbrev pub AreNamesFit : Ground → List Name → Type 0
AreNamesFit g [] = Unit {0}
AreNamesFit g (n ∷ ns) = IsNameFit g n × AreNamesFit g ns

-- ---- the law

-- The value of a constant in which nothing is told is one of its class's mode.
abbrev pub ConstantFitsLaw : Type 0
ConstantFitsLaw = (g : Ground) (s : Standing) (m : Option ModeTree) (e : ExprTree) (c : ClassTree) (v : ValueTree)
    → AreNamesFit g (names_in e) → HasShortTexts e → HasBytes e → IsReceived s m → FitsSynonym g s m e → told_as g s m e ≡ [] → has_form g (not (is_by_itself s)) e ≡ true → class_as g m e ≡ Some c → constant_as g m e ≡ Some v → FitsClass c v
