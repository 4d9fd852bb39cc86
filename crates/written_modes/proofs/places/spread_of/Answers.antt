use Rattle.std.proofs.Common.{◌≡◌, ◌++◌, ◌∙◌, ap, sym, rules, Some}
use Rattle.std.specs.Prelude.{Option, option_map}
use Rattle.chill_tree.specs.ModeTree as written
use Rattle.modes.specs.ModeTree.{spread_tree}
use Rattle.checks_model.specs.ConstantRules.{told_needed}
use Rattle.checks_model.specs.WrittenModes.{told_in_place, told_in_spread, told_spread, spread_there, unless_told}
use Rattle.constant_operators.specs.Grounds.{ground_of}
use Rattle.written_modes.specs.Wholes.{tree_there}
use Rattle.written_modes.specs.Places.{number_tree, placed_tree, step_by, step_misfits_by, told_step}
use Rattle.written_modes.proofs.PlaceLemmas.{spread-told, step-by, flat-made, join-four}
use Rattle.written_modes.proofs.places.spread_of.Goals as goal

pub returns-in_ok-left-in-Some-Step-clause-told : goal.returns-in_ok-left-in-Some-Step-clause-told
returns-in_ok-left-in-Some-Step-clause-told c = λ ground.
    let g = ground_of c.args.ground.now in
    let step = written.step_tree c.in-Some-Step.step in
    let own-step : Option written.SpreadTree = Some (written.by_step step) in
    let was : option_map written.spread_tree c.args.spread.now ≡ own-step = search rules in
    let p = placed_tree c.in_ok-first-in-Some-Step.first in
    let d = number_tree c.in_ok-distance-in-Some-Step.distance in
    let i = tree_there c.args.index.now in
    let e = tree_there c.args.element.now in
    let own = told_step c.args.at (step_misfits_by p d) i e (step_by p d) in
    let all : c.tell_spread.new.told ≡ ((c.args.told.now ++ told_in_place g step.place) ++ told_needed g step.distance) ++ own = search rules in
    all ∙ join-four c.args.told.now (told_in_place g step.place) (told_needed g step.distance) own (told_in_spread g own-step) (told_spread g c.args.at i e own-step) (flat-made g step) (spread-told g c.args.at i e step p d (search rules) (search rules))
    ∙ ap (λ (s : Option written.SpreadTree). c.args.told.now ++ (told_in_spread g s ++ told_spread g c.args.at i e s)) (sym was)

pub returns-in_ok-left-in-Some-Step-clause-spread : goal.returns-in_ok-left-in-Some-Step-clause-spread
returns-in_ok-left-in-Some-Step-clause-spread c = λ ground.
    let g = ground_of c.args.ground.now in
    let step = written.step_tree c.in-Some-Step.step in
    let own-step : Option written.SpreadTree = Some (written.by_step step) in
    let was : option_map written.spread_tree c.args.spread.now ≡ own-step = search rules in
    let p = placed_tree c.in_ok-first-in-Some-Step.first in
    let d = number_tree c.in_ok-distance-in-Some-Step.distance in
    let i = tree_there c.args.index.now in
    let e = tree_there c.args.element.now in
    let own = told_step c.args.at (step_misfits_by p d) i e (step_by p d) in
    let found : option_map spread_tree c.in_ok-left-in-Some-Step.left ≡ unless_told own (step_by p d) = search rules in
    let same : own ≡ told_spread g c.args.at i e own-step = spread-told g c.args.at i e step p d (search rules) (search rules) in
    found ∙ ap (λ t. unless_told t (step_by p d)) same ∙ ap (unless_told (told_spread g c.args.at i e own-step)) (step-by g step p d (search rules) (search rules))
    ∙ ap (λ (s : Option written.SpreadTree). unless_told (told_spread g c.args.at i e s) (spread_there g s)) (sym was)
