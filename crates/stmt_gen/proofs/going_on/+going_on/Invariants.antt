use Rattle.std.proofs.Common.{◌≡◌, drop}
use Rattle.program_trees.specs.StatementTree.{statements_of}
use Rattle.code_scheme.specs.StatementGoing.{go_on, some_handled_goes_on, some_choice_goes_on, some_case_goes_on}
use Rattle.action_gen.specs.Trees.{choices_of, cases_of, handled_of}
use Rattle.stmt_gen.proofs.going_on.+going_on.Given as goal

abbrev pub invariant-go_on-loop-statement : goal.invariant-go_on-loop-statement
invariant-go_on-loop-statement l = go_on (statements_of (drop l.statement-index l.statements)) ≡ go_on (statements_of l.statements)

abbrev pub invariant-some_alternative_goes_on-loop-alternative : goal.invariant-some_alternative_goes_on-loop-alternative
invariant-some_alternative_goes_on-loop-alternative l = some_handled_goes_on (handled_of (drop l.alternative-index l.alternatives)) ≡ some_handled_goes_on (handled_of l.alternatives)

abbrev pub invariant-some_choice_goes_on-loop-choice : goal.invariant-some_choice_goes_on-loop-choice
invariant-some_choice_goes_on-loop-choice l = some_choice_goes_on (choices_of (drop l.choice-index l.choices)) ≡ some_choice_goes_on (choices_of l.choices)

abbrev pub invariant-some_case_goes_on-loop-alternative : goal.invariant-some_case_goes_on-loop-alternative
invariant-some_case_goes_on-loop-alternative l = some_case_goes_on (cases_of (drop l.alternative-index l.alternatives)) ≡ some_case_goes_on (cases_of l.alternatives)
