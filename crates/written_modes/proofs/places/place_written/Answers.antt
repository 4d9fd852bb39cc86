use Rattle.std.proofs.Common.{◌∙◌, rules}
use Rattle.chill_tree.specs.ModeTree as written
use Rattle.constant_operators.specs.Grounds.{ground_of}
use Rattle.written_modes.specs.Places.{number_tree}
use Rattle.written_modes.proofs.PlaceLemmas.{place-by}
use Rattle.written_modes.proofs.places.place_written.Goals as goal

pub returns-clause-place : goal.returns-clause-place
returns-clause-place c = λ s.
    c.place_of.ensures
    ∙ place-by (ground_of c.args.ground.now) (written.place_tree c.args.place.now) (number_tree c.in_ok-word.word) (number_tree c.in_ok-start.start) (number_tree c.in_ok-bound.bound) (search rules) (search rules) (search rules)
