-- The law that the mode of an expression's class is a mode that a location may have.
use Rattle.std.specs.Prelude.{◌≡◌, ◌≤◌, List, [], ◌∷◌, length, Option, Some}
use Rattle.chill_tree.specs.declared.tree.name.Name.{Name}
use Rattle.chill_tree.specs.ExprTree.{ExprTree, ExprNodes, RangeTree, RangeNodes, whole, character, text, this_instance, paren, receive, start, tuple, uniform, name, apply, field, prefixed, binary, no_exprs, more_exprs, alone, between, no_ranges, more_ranges}
use Rattle.modes.specs.ModeTree.{ModeTree, ClassTree, value, derived, null, nothing}
use Rattle.checks_model.specs.Ground.{Ground, entry_of, mode_of_entry, class_of_entry, mode_of_name}
use Rattle.checks_model.specs.Classes.{class_as}
use Rattle.table_laws.specs.Names.{names_in}
use Rattle.elaborated_laws.specs.Known.{IsDeclarable}

-- the class has such a mode, or none
abbrev pub HasDeclarable : ClassTree → Type 0
HasDeclarable (value m) = IsDeclarable m
HasDeclarable (derived m) = IsDeclarable m
HasDeclarable null = Unit {0}
HasDeclarable nothing = Unit {0}

-- what is known of what a name stands for has such modes
pub record HasModes (g : Ground) (n : Name) : Type 0 where
  pub mode : (m : ModeTree) → mode_of_entry (entry_of g n) ≡ Some m → IsDeclarable m
  pub class : (c : ClassTree) → class_of_entry (entry_of g n) ≡ Some c → HasDeclarable c
  pub own : (m : ModeTree) → mode_of_name g n ≡ Some m → IsDeclarable m

abbrev pub HaveModes : Ground → List Name → Type 0
HaveModes g [] = Unit {0}
HaveModes g (n ∷ ns) = HasModes g n × HaveModes g ns

-- what the tokens of a text allow: its text literals have at most 256 bytes
abbrev mutual
  pub HasShortTexts : ExprTree → Type 0
  HasShortTexts (whole at n) = Unit {0}
  HasShortTexts (character at n) = Unit {0}
  HasShortTexts (text at bytes) = length bytes ≤ 256
  HasShortTexts (this_instance at) = Unit {0}
  HasShortTexts (paren at e) = HasShortTexts e
  HasShortTexts (receive at n) = Unit {0}
  HasShortTexts (start at n es) = HaveShortTexts es
  HasShortTexts (tuple at m b rs) = RangesHaveShortTexts rs
  HasShortTexts (uniform at m b e) = HasShortTexts e
  HasShortTexts (name n) = Unit {0}
  HasShortTexts (apply at e es) = HasShortTexts e × HaveShortTexts es
  HasShortTexts (field at e n) = HasShortTexts e
  HasShortTexts (prefixed at o e) = HasShortTexts e
  HasShortTexts (binary at l o p r) = HasShortTexts l × HasShortTexts r

  pub HaveShortTexts : ExprNodes → Type 0
  HaveShortTexts no_exprs = Unit {0}
  HaveShortTexts (more_exprs e es) = HasShortTexts e × HaveShortTexts es

  pub RangeHasShortTexts : RangeTree → Type 0
  RangeHasShortTexts (alone e) = HasShortTexts e
  RangeHasShortTexts (between l h) = HasShortTexts l × HasShortTexts h

  pub RangesHaveShortTexts : RangeNodes → Type 0
  RangesHaveShortTexts no_ranges = Unit {0}
  RangesHaveShortTexts (more_ranges r rs) = RangeHasShortTexts r × RangesHaveShortTexts rs

-- where the names in an expression have such modes, and what receives it does, its class does
abbrev pub ClassModeLaw : Type 0
ClassModeLaw = (g : Ground) (receiving : Option ModeTree) (e : ExprTree) (c : ClassTree)
    → HaveModes g (names_in e) → HasShortTexts e → ((m : ModeTree) → receiving ≡ Some m → IsDeclarable m) → class_as g receiving e ≡ Some c → HasDeclarable c
