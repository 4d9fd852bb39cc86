use Rattle.std.proofs.Common.{◌≡◌, ◌∙◌, ap, sym}
use Rattle.std.specs.Prelude.{option_map}
use Rattle.class_operators.specs.Predefined.{predefined_tree}
use Rattle.mode_rules.proofs.actions.tell_in_call.Goals as goal

pub returns-in-Some : goal.returns-in-Some
returns-in-Some c = λ ready. c.tell_in_routine.ensures ready (sym (c.predefined_used.ensures ready.keeps) ∙ ap (option_map predefined_tree) c.in-Some.is)

pub returns-in-None : goal.returns-in-None
returns-in-None c = λ ready. c.tell_in_arguments.ensures ready (sym (c.predefined_used.ensures ready.keeps) ∙ ap (option_map predefined_tree) c.in-None.is)
