-- What is found of the parts of tuples, and of tuples without a mode's name, where they go to modes.
use Rattle.std.specs.Prelude.{◌≡◌, ℕ, suc, Bool, true, false, ◌&&◌, not, if◌then◌else◌, List, [], ◌∷◌, ◌++◌, Option, Some, None, option_map, IsTrue, ℤ}
use Rattle.chill_tree.specs.ExprTree.{ExprTree, RangeTree, RangeNodes, alone, between, no_ranges, more_ranges, place_of}
use Rattle.diagnostics.specs.declared.diagnostic.Diagnostic.{Diagnostic}
use Rattle.diagnostics.specs.declared.rule.Rule.TheVariants as rules
use Rattle.modes.specs.ModeTree.{ModeTree, value}
use Rattle.modes.specs.Form.{FormTree}
use Rattle.modes.specs.Bounds.{bounds_of}
use Rattle.checks_model.specs.ValueTrees.{ValueTree, scalars_in}
use Rattle.checks_model.specs.Told.{tell_at, told_if, is_none_told, holds_of_both}
use Rattle.checks_model.specs.Ground.{Ground}
use Rattle.checks_model.specs.Classes.{class_as, mode_of_part, shape_fits}
use Rattle.checks_model.specs.Constants.{constant_as}
use Rattle.checks_model.specs.ConstantRules.{Standing, in_a_tuple, in_a_synonym, is_outside, told_as, told_in_range, told_in_ranges, class_misfits, value_misfits, misfits_as, told_of_synonym_value}
use Rattle.constant_values.specs.Fits.{fit_together}
use Rattle.constant_rules.specs.Walks.{synonym_value}
use Rattle.constant_rules.specs.declared.parts.Blame.{Blame}
use Rattle.constant_rules.specs.declared.parts.Blame.TheVariants as blames
use Rattle.constant_rules.specs.declared.parts.Part.{Part}
use Rattle.constant_rules.specs.declared.parts.Span.{Span}
use Rattle.constant_rules.specs.declared.parts.Tupled.{Tupled}
use Rattle.constant_rules.specs.declared.parts.Tupled.TheVariants as tupled

-- where a tuple stands that is blamed so
abbrev pub standing_of : Blame → Standing
standing_of blames.Each = in_a_tuple
standing_of blames.Whole = in_a_synonym

-- what is told in a part
abbrev pub told_in_part : Ground → Blame → Option ModeTree → ExprTree → List Diagnostic
told_in_part g blame m x = told_as g (standing_of blame) m x

-- a value is one of a mode, and lies in it
pub record IsWithin (m : Option ModeTree) (v : Option ValueTree) : Type 0 where
  pub fits : IsTrue (fit_together (option_map value m) v)
  pub inside : holds_of_both (λ v m. is_outside (bounds_of m) v) v m ≡ false

-- what is asked of a part that goes to a mode: its class and its value one by one, or whether it misfits
abbrev pub IsJudged : Ground → Blame → Option ModeTree → ExprTree → Part → Type 0
IsJudged g blames.Each m x part = (part.goes ≡ not (class_misfits g m x)) × (part.lies_inside ≡ not (value_misfits g m x))
IsJudged g blames.Whole m x part = (part.goes && part.lies_inside) ≡ not (misfits_as g m x)

-- a part in which nothing is told: how it is judged and, where it fits, its value
pub record IsCleanPart (g : Ground) (blame : Blame) (m : Option ModeTree) (x : ExprTree) (part : Part) : Type 0 where
  pub at : part.at ≡ place_of x
  pub judged : IsJudged g blame m x part
  pub value : (part.goes && part.lies_inside) ≡ true → part.known.value ≡ option_map scalars_in (constant_as g m x)
  pub within : (part.goes && part.lies_inside) ≡ true → IsWithin m (constant_as g m x)

-- what is known of a part in which that is told
pub record IsPart (g : Ground) (blame : Blame) (m : Option ModeTree) (x : ExprTree) (part : Part) : Type 0 where
  pub is_clean : part.known.is_clean ≡ is_none_told (told_in_part g blame m x)
  pub clean : is_none_told (told_in_part g blame m x) ≡ true → IsCleanPart g blame m x part

pub record FindsPart (g : Ground) (blame : Blame) (m : Option ModeTree) (x : ExprTree) (old new : List Diagnostic) (part : Part) : Type 0 where
  pub told : new ≡ old ++ told_in_part g blame m x
  pub known : IsPart g blame m x part

-- a tuple without a mode's name that fits the mode to which it goes, with its scalars
pub record IsFitting (g : Ground) (blame : Blame) (m : ModeTree) (x : ExprTree) (flat : Option (List ℤ)) : Type 0 where
  pub clean : is_none_told (told_in_part g blame (Some m) x) ≡ true
  pub class : class_as g (Some m) x ≡ Some (value m)
  pub value : flat ≡ option_map scalars_in (constant_as g (Some m) x)
  pub within : IsWithin (Some m) (constant_as g (Some m) x)
  pub judged : blame ≡ blames.Whole → misfits_as g (Some m) x ≡ false

-- what comes of a tuple without a mode's name that goes to a mode, in which and of which that is told
abbrev pub IsTupled : Ground → Blame → ModeTree → ExprTree → Tupled → Type 0
IsTupled g blame m x (tupled.Fits v) = IsFitting g blame m x v
IsTupled g blame m x tupled.Misfit = (is_none_told (told_in_part g blame (Some m) x) ≡ true) × (blame ≡ blames.Whole) × (misfits_as g (Some m) x ≡ true)
IsTupled g blame m x tupled.Told = is_none_told (told_in_part g blame (Some m) x) ≡ false

pub record FindsTupled (g : Ground) (blame : Blame) (m : ModeTree) (x : ExprTree) (old new : List Diagnostic) (t : Tupled) : Type 0 where
  pub told : new ≡ old ++ told_in_part g blame (Some m) x
  pub tupled : IsTupled g blame m x t

-- ---- ranges

-- what is so of an expression that goes to a mode, and of what is known of it
abbrev pub OfPart : Type 1
OfPart = Option ModeTree → ExprTree → Part → Type 0

abbrev pub IsLast : OfPart → Option ModeTree → ExprTree → Option Part → Type 0
IsLast P m x None = ⊥
IsLast P m x (Some part) = P m x part

abbrev pub IsSpan : OfPart → Option ModeTree → RangeTree → Span → Type 0
IsSpan P m (alone e) span = P m e span.first × (span.last ≡ None)
IsSpan P m (between l h) span = P m l span.first × IsLast P m h span.last

abbrev pub AreSpans : OfPart → (FormTree → Bool) → ℕ → Option ModeTree → RangeNodes → List Span → Type 0
AreSpans P fits k m no_ranges [] = Unit {0}
AreSpans P fits k m no_ranges (s ∷ ss) = ⊥
AreSpans P fits k m (more_ranges r rs) [] = ⊥
AreSpans P fits k m (more_ranges r rs) (s ∷ ss) = IsSpan P (mode_of_part fits k m) r s × AreSpans P fits (suc k) m rs ss

pub record FindsSpan (g : Ground) (blame : Blame) (m : Option ModeTree) (r : RangeTree) (old new : List Diagnostic) (span : Span) : Type 0 where
  pub told : new ≡ old ++ told_in_range g (standing_of blame) m r
  pub known : IsSpan (IsPart g blame) m r span

pub record FindsSpans (g : Ground) (blame : Blame) (m : ModeTree) (rs : RangeNodes) (old new : List Diagnostic) (spans : List Span) : Type 0 where
  pub told : new ≡ old ++ told_in_ranges g (standing_of blame) (shape_fits rs) 0 (Some m) rs
  pub known : AreSpans (IsPart g blame) (shape_fits rs) 0 (Some m) rs spans

-- of the parts of a tuple, one after the other: what is told with the rest is the whole, and so is what is known
pub record PassesSpans (g : Ground) (blame : Blame) (m : ModeTree) (k : ℕ) (rest all : RangeNodes) (old new : List Diagnostic) (spans : List Span) : Type 0 where
  pub told : new ++ told_in_ranges g (standing_of blame) (shape_fits all) k (Some m) rest ≡ old ++ told_in_ranges g (standing_of blame) (shape_fits all) 0 (Some m) all
  pub known : (ss : List Span) → AreSpans (IsPart g blame) (shape_fits all) k (Some m) rest ss → AreSpans (IsPart g blame) (shape_fits all) 0 (Some m) all (spans ++ ss)

-- ---- the value of a synonym

-- the scalars of a value that a written mode receives
pub record IsSynonymValue (m : Option ModeTree) (v : Option ValueTree) (flat : Option (List ℤ)) : Type 0 where
  pub scalars : flat ≡ option_map scalars_in v
  pub fits : IsTrue (fit_together (option_map value m) v)

pub record FindsSynonym (g : Ground) (m : ModeTree) (x : ExprTree) (old new : List Diagnostic) (flat : Option (List ℤ)) : Type 0 where
  pub told : new ≡ old ++ told_of_synonym_value g true (Some m) x
  pub value : IsSynonymValue (Some m) (synonym_value g (Some m) x) flat

-- M12 of a part that doesn't fit, and else its scalars
pub record Receives (part : Part) (old new : List Diagnostic) (flat : Option (List ℤ)) : Type 0 where
  pub told : new ≡ old ++ told_if (not (part.goes && part.lies_inside)) (tell_at rules.M12 part.at)
  pub value : flat ≡ (if part.goes && part.lies_inside then part.known.value else None)
