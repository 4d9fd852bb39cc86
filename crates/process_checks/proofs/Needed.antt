-- A priority of which the phase of modes and constants tells nothing is a constant in which nothing is told.
use Rattle.std.proofs.Common.{◌≡◌, Bool, true, false, List, [], ◌∷◌, refl}
use Rattle.std.specs.Prelude.{not}
use Rattle.chill_tree.specs.ExprTree.{ExprTree, place_of}
use Rattle.diagnostics.specs.declared.diagnostic.Diagnostic.{Diagnostic}
use Rattle.diagnostics.specs.declared.rule.Rule.TheVariants as rules
use Rattle.checks_model.specs.Ground.{Ground}
use Rattle.checks_model.specs.Told.{tell_at, told_if, is_none_told, then_told}
use Rattle.checks_model.specs.Constants.{has_form}
use Rattle.checks_model.specs.ConstantRules.{told_of_constants, told_needed}

nothing_then : (told : List Diagnostic) (b : Bool) (d : Diagnostic) → then_told told (told_if (not b) d) ≡ [] → is_none_told told ≡ true
nothing_then [] b d e = refl
nothing_then (x ∷ told) b d e = absurd (let no : ⊥ = cc in no)

has_then : (told : List Diagnostic) (b : Bool) (d : Diagnostic) → then_told told (told_if (not b) d) ≡ [] → b ≡ true
has_then [] true d e = refl
has_then [] false d e = absurd (let no : ⊥ = cc in no)
has_then (x ∷ told) b d e = absurd (let no : ⊥ = cc in no)

pub needs_nothing : (g : Ground) (e : ExprTree) → told_needed g e ≡ [] → is_none_told (told_of_constants g e) ≡ true
needs_nothing g e n = nothing_then (told_of_constants g e) (has_form g false e) (tell_at rules.M1 (place_of e)) n

pub needs_form : (g : Ground) (e : ExprTree) → told_needed g e ≡ [] → has_form g false e ≡ true
needs_form g e n = has_then (told_of_constants g e) (has_form g false e) (tell_at rules.M1 (place_of e)) n

pub ruleset needed = (needs_nothing, needs_form)
