-- What is known of an expression in which something is told, or nothing.
use Rattle.std.specs.Prelude.{◌≡◌, Bool, List, Option, option_map}
use Rattle.modes.specs.declared.mode.Class.{Class}
use Rattle.modes.specs.ModeTree.{ClassTree, class_tree}
use Rattle.diagnostics.specs.declared.diagnostic.Diagnostic.{Diagnostic}
use Rattle.checks_model.specs.Told.{is_none_told}
use Rattle.checks_model.specs.ValueRules.{clean_class}
use Rattle.expr_rules.specs.declared.classed.Classed.{Classed}

abbrev pub classed : Option Class → Bool → Classed
classed c clean = record { class = c; is_clean = clean }

-- Its class is known where nothing is told inside it; L6 and what its receiver tells are told of the whole alone.
pub record IsKnown (inside whole : List Diagnostic) (c : Option ClassTree) (k : Classed) : Type 0 where
  pub is_clean : k.is_clean ≡ is_none_told whole
  pub class : option_map class_tree k.class ≡ clean_class inside c

-- the same where all that is told is told inside
abbrev pub IsOwn : List Diagnostic → Option ClassTree → Classed → Type 0
IsOwn told c k = IsKnown told told c k
