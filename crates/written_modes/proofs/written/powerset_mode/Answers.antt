use Rattle.std.proofs.Common.{◌≡◌, ◌++◌, rules}
use Rattle.chill_tree.specs.ModeTree as written
use Rattle.std.specs.Prelude.{option_map}
use Rattle.modes.specs.ModeTree.{powerset}
use Rattle.checks_model.specs.WrittenModes.{first_place_of, unless_told}
use Rattle.constant_operators.specs.Grounds.{ground_of}
use Rattle.written_modes.specs.Wholes.{tree_there, told_of_members}
use Rattle.written_modes.proofs.RangeLemmas.{powerset_told, powerset_kept}
use Rattle.written_modes.proofs.written.powerset_mode.Goals as goal

pub returns-clause-told : goal.returns-clause-told
returns-clause-told c = λ ground.
    let g = ground_of c.args.ground.now in
    let d = written.discrete_tree c.args.member.now in
    let last : c.of_members.new.told ≡ c.discrete_mode.new.told ++ told_of_members (tree_there c.in_ok-member.member) (first_place_of d) c.args.at = search rules in
    powerset_told g c.args.at d c.args.told.now c.discrete_mode.new.told c.of_members.new.told (tree_there c.in_ok-member.member)
    (c.in_ok-member.ensures.told ground) (c.in_ok-member.ensures.mode ground) last

pub returns-clause-mode : goal.returns-clause-mode
returns-clause-mode c = λ ground.
    let g = ground_of c.args.ground.now in
    let d = written.discrete_tree c.args.member.now in
    let kept : tree_there c.in_ok-found.found ≡ unless_told (told_of_members (tree_there c.in_ok-member.member) (first_place_of d) c.args.at) (option_map powerset (tree_there c.in_ok-member.member)) = search rules in
    powerset_kept g c.args.at d (tree_there c.in_ok-member.member) (tree_there c.in_ok-found.found) (c.in_ok-member.ensures.mode ground) kept
