-- What may be told of a priority or of a location to be set; and a list to which some of what may be told is added.
use Rattle.std.specs.Prelude.{◌≡◌, ◌⊎◌, List, [], ◌∷◌, if◌then◌else◌}
use Rattle.chill_tree.specs.ExprTree.{place_of}
use Rattle.diagnostics.specs.declared.diagnostic.Diagnostic.{Diagnostic}
use Rattle.diagnostics.specs.declared.rule.Rule.TheVariants as rules
use Rattle.diagnostics.specs.Listing.{IsIn}
use Rattle.checks_model.specs.Told.{tell_at, is_none_told}
use Rattle.wait_exprs.specs.Waits.{WaitTree, set_of, priority_of}
use Rattle.met_names.specs.Facts.{Facts, told_source}
use Rattle.met_names.specs.Sources.{over_expr}

-- P6 of a priority, P7 of a location to be set, where nothing is told in it
abbrev pub could_be_told : Facts → WaitTree → List Diagnostic
could_be_told f (set_of e) = if is_none_told (over_expr (told_source f) e) then tell_at rules.P7 (place_of e) ∷ [] else []
could_be_told f (priority_of e) = if is_none_told (over_expr (told_source f) e) then tell_at rules.P6 (place_of e) ∷ [] else []

-- what is told after has all that was told before, and besides at most what could be told
pub record IsToldMore (could before after : List Diagnostic) : Type 0 where
  pub kept : (d : Diagnostic) → IsIn d before → IsIn d after
  pub only : (d : Diagnostic) → IsIn d after → IsIn d before ⊎ IsIn d could
  pub none : could ≡ [] → after ≡ before
