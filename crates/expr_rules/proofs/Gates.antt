-- Lists in which nothing is told, and what is known where something is.
use Rattle.std.proofs.Common.{◌≡◌, ◌++◌, ℕ, List, [], ◌∷◌, refl, ap, sym, ◌∙◌, append-nil, append_assoc, Option, Some, None}
use Rattle.std.specs.Prelude.{Bool, true, false, ◌&&◌, not, IsTrue, if◌then◌else◌, option_map}
use Rattle.diagnostics.specs.declared.diagnostic.Diagnostic.{Diagnostic}
use Rattle.modes.specs.ModeTree.{ClassTree}
use Rattle.checks_model.specs.Told.{is_none_told, then_told, told_if}
use Rattle.checks_model.specs.Operations.{part_of_class, field_of_form}
use Rattle.checks_model.specs.ValueRules.{clean_class}

pub none-both : (xs ys : List Diagnostic) → is_none_told (xs ++ ys) ≡ is_none_told xs && is_none_told ys
none-both [] ys = refl
none-both (x ∷ xs) ys = refl

pub none-then : (xs ys : List Diagnostic) → is_none_told (then_told xs ys) ≡ is_none_told xs && is_none_told ys
none-then [] ys = refl
none-then (x ∷ xs) ys = refl

pub none-if : (b : Bool) (d : Diagnostic) → is_none_told (told_if b d) ≡ not b
none-if true d = refl
none-if false d = refl

pub clean-none : (told : List Diagnostic) → clean_class told None ≡ None
clean-none [] = refl
clean-none (d ∷ ds) = refl

-- a field of something in which that is told
pub field-class : (name : List ℕ) (told : List Diagnostic) (c : Option ClassTree) → option_map (part_of_class (field_of_form name)) (clean_class told c) ≡ clean_class told (option_map (part_of_class (field_of_form name)) c)
field-class name [] c = refl
field-class name (d ∷ ds) c = refl

pub ruleset gates = (none-both, none-then, none-if, clean-none, append-nil, append_assoc)

pub ruleset mapped = (field-class)
