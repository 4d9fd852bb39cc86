use Rattle.std.proofs.Common.{not, false}
use Rattle.diagnostics.specs.declared.rule.Rule.TheVariants as told_rules
use Rattle.modes.specs.Form.{form_of}
use Rattle.checks_model.specs.Alike.{is_discrete}
use Rattle.checks_model.specs.Ground.{mode_of_name}
use Rattle.checks_model.specs.Told.{tell_at}
use Rattle.checks_model.specs.WrittenModes.{told_name}
use Rattle.constant_operators.specs.Grounds.{ground_of}
use Rattle.written_modes.specs.Wholes.{tree_there}
use Rattle.written_modes.proofs.GateLemmas.{told_of_held, kept_of_held}
use Rattle.written_modes.proofs.written.discrete_name.Goals as goal

pub returns-clause-told : goal.returns-clause-told
returns-clause-told c = λ ground.
    let g = ground_of c.args.ground.now in
    let n = c.args.name.now in
    told_of_held c.args.told.now c.named_mode.new.told c.of_discrete.new.told (told_name g false n) (tree_there c.in_ok-mode.mode) (mode_of_name g n) (λ m. not (is_discrete (form_of m))) (tell_at told_rules.M4 n.at)
    (c.in_ok-mode.ensures.told ground) (c.in_ok-mode.ensures.mode ground) c.in_ok-found.ensures.told

pub returns-clause-mode : goal.returns-clause-mode
returns-clause-mode c = λ ground.
    let g = ground_of c.args.ground.now in
    let n = c.args.name.now in
    kept_of_held (told_name g false n) (tree_there c.in_ok-mode.mode) (tree_there c.in_ok-found.found) (mode_of_name g n) (λ m. not (is_discrete (form_of m))) (tell_at told_rules.M4 n.at)
    (c.in_ok-mode.ensures.mode ground) c.in_ok-found.ensures.mode
