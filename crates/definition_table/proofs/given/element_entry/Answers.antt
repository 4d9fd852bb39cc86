use Rattle.std.proofs.Common.{◌≡◌, ◌∙◌, sym, ap, rules}
use Rattle.std.specs.Prelude.{option_map}
use Rattle.modes.specs.ModeTree.{derived}
use Rattle.constant_operators.specs.Grounds.{ground_of}
use Rattle.definition_origins.specs.OriginTrees.{owner_tree}
use Rattle.definition_table.proofs.GivenLemmas.{element_found}
use Rattle.definition_table.proofs.given.element_entry.Goals as goal

pub returns : goal.returns
returns c = λ rise there.
    let own = c.args.own in
    element_found (ground_of c.args.ground.now) own.names.now own.part (owner_tree own.owner) _ _ c.in_ok-entry.entry there
    (c.derived.ensures ∙ ap (option_map derived) (c.in_ok-mode.ensures rise)) (search rules) c.in_ok-entry.ensures
