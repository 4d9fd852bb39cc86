use Rattle.std.proofs.Common.{◌≡◌, ◌∙◌, sym, ap, subst}
use Rattle.class_operators.specs.Predefined.{predefined_tree}
use Rattle.checks_model.specs.Ground.{a_predefined}
use Rattle.constant_operators.specs.Grounds.{ground_of, mode_of_predefined}
use Rattle.definition_table.specs.Entries.{IsEntryOf}
use Rattle.definition_table.proofs.GivenLemmas.{mode_found}
use Rattle.definition_table.proofs.given.mode_entry.Goals as goal

pub returns : goal.returns
returns c m same plain =
    subst (λ p. IsEntryOf (ground_of c.args.ground.now) (a_predefined p) c.of_mode.result) (sym same)
    (mode_found (ground_of c.args.ground.now) m _ c.of_mode.result (c.in_ok-mode.ensures plain ∙ ap mode_of_predefined same) c.of_mode.ensures)
