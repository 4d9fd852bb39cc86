-- What is told at nodes that stand behind each other.
use Rattle.std.proofs.Common.{◌≡◌, ◌++◌, ℕ, List, [], ◌∷◌, refl, ap, sym, ◌∙◌, append-nil, append_assoc, Option, Some, None}
use Rattle.std.specs.Prelude.{not, ◌==◌, length, option_map}
use Rattle.std.proofs.lemmas.Grind.{flat_map-append}
use Rattle.chill_tree.proofs.ExprViews.{expr_built, tree-range}
use Rattle.chill_tree.proofs.ModeViews.{base_built}
use Rattle.definition_origins.proofs.Views.{tree-field_out}
use Rattle.modes.specs.ModeTree.{ModeTree}
use Rattle.checks_model.specs.Told.{holds_of}

pub ruleset lists = (flat_map-append, append-nil, append_assoc)

pub ruleset gates = (append-nil, append_assoc)

pub ruleset mode_views = (base_built, tree-field_out, flat_map-append, append-nil, append_assoc)

pub ruleset range_views = (tree-range, flat_map-append, append-nil, append_assoc)

-- a wrong number of received names, by how many parts a message has
pub by-number : (count : ℕ) (ms : Option (List (Option ModeTree))) → holds_of (λ n. not (n == count)) (option_map (λ ms. length ms) ms) ≡ holds_of (λ ms. not (length ms == count)) ms
by-number count None = refl
by-number count (Some ms) = refl

pub ruleset received = (by-number, append-nil, append_assoc)
