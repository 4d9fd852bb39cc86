use Rattle.std.proofs.Common.{◌≡◌, drop}
use Rattle.std.specs.List.{list_any}
use Rattle.code_types.specs.Answers.{is_listed, is_some_number}
use Rattle.world_model.specs.Lists.{number_for}
use Rattle.machine_steps.proofs.answering.lists.Given as goal

abbrev pub invariant-loop-alternative : goal.invariant-loop-alternative
invariant-loop-alternative l = is_listed l.alternatives l.number ≡ list_any (λ a. is_some_number (number_for l.alternatives a.thing) l.number) (drop l.alternative-index l.alternatives)
