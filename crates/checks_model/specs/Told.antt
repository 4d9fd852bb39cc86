-- How rules are told.
use Rattle.std.specs.Prelude.{Bool, true, false, List, [], ◌∷◌, ◌++◌, if◌then◌else◌, Option, Some, None}
use Rattle.chill_base.specs.declared.pos.Pos.{Pos}
use Rattle.diagnostics.specs.declared.diagnostic.Diagnostic.{Diagnostic}
use Rattle.diagnostics.specs.declared.rule.Rule.{Rule}
use Rattle.names_model.specs.NameRules.{tell}

abbrev pub tell_at : Rule → Pos → Diagnostic
tell_at rule at = tell at rule []

abbrev pub told_if : Bool → Diagnostic → List Diagnostic
told_if broken d = if broken then d ∷ [] else []

abbrev pub is_none_told : List Diagnostic → Bool
is_none_told [] = true
is_none_told (d ∷ ds) = false

-- what is told later only where nothing is told first
abbrev pub then_told : List Diagnostic → List Diagnostic → List Diagnostic
then_told first later = first ++ (if is_none_told first then later else [])

-- what a rule asks for is there, and the rule holds
abbrev pub holds_of : {A : Type 0} → (A → Bool) → Option A → Bool
holds_of test None = false
holds_of test (Some x) = test x

abbrev pub holds_of_both : {A B : Type 0} → (A → B → Bool) → Option A → Option B → Bool
holds_of_both test (Some x) (Some y) = test x y
holds_of_both test _ _ = false
