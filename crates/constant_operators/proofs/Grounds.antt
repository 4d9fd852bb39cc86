-- What a ground has under a number is what the evaluation keeps there.
use Rattle.std.proofs.Common.{◌≡◌, ℕ, List, Option, map, refl}
use Rattle.std.specs.Prelude.{slice_get, option_map}
use Rattle.std.proofs.lemmas.Option.{slice_get-map}
use Rattle.checks_model.specs.Ground as model
use Rattle.definition_origins.specs.OriginTrees.{origin_tree}
use Rattle.constant_operators.specs.Grounds.{ground_of, entry_tree}
use Rattle.constant_operators.specs.declared.evaluation.Evaluation.{Evaluation}

pub origins-there : (e : Evaluation) (d : ℕ) → slice_get (ground_of e).origins d ≡ option_map origin_tree (slice_get e.origins d)
unfolding ground_of
origins-there e d = slice_get-map origin_tree e.origins d

pub entries-there : (e : Evaluation) (d : ℕ) → slice_get (ground_of e).entries d ≡ option_map entry_tree (slice_get e.entries.items d)
unfolding ground_of
entries-there e d = slice_get-map entry_tree e.entries.items d

pub uses-there : (e : Evaluation) → (ground_of e).uses ≡ e.names.now.uses
unfolding ground_of
uses-there e = refl

pub defined-there : (e : Evaluation) → (ground_of e).defined ≡ e.defined
unfolding ground_of
defined-there e = refl

pub ruleset looked_up = (origins-there, entries-there, uses-there, defined-there)
