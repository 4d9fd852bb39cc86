use Rattle.std.proofs.Common.{◌≡◌, drop, map}
use Rattle.program_ranges.specs.StatementRanges.{statements_hold, all_within, all_receive, case_in_range, choice_in_range, delay_in_range, receive_in_range, handled_in_range, statement_in_range}
use Rattle.program_ranges.proofs.statements.+statement.Given as goal

abbrev pub invariant-statements_hold-loop-statement : goal.invariant-statements_hold-loop-statement
invariant-statements_hold-loop-statement l =
    statements_hold l.items (map statement_in_range (drop l.statement-index l.statements)) l.labels l.program l.body ≡ statements_hold l.items (map statement_in_range l.statements) l.labels l.program l.body

abbrev pub invariant-choices_in_range-loop-choice : goal.invariant-choices_in_range-loop-choice
invariant-choices_in_range-loop-choice l =
    all_within (map choice_in_range (drop l.choice-index l.choices)) l.labels l.program l.body ≡ all_within (map choice_in_range l.choices) l.labels l.program l.body

abbrev pub invariant-cases_in_range-loop-alternative : goal.invariant-cases_in_range-loop-alternative
invariant-cases_in_range-loop-alternative l =
    all_within (map case_in_range (drop l.alternative-index l.alternatives)) l.labels l.program l.body ≡ all_within (map case_in_range l.alternatives) l.labels l.program l.body

abbrev pub invariant-delays_in_range-loop-alternative : goal.invariant-delays_in_range-loop-alternative
invariant-delays_in_range-loop-alternative l =
    all_within (map delay_in_range (drop l.alternative-index l.alternatives)) l.labels l.program l.body ≡ all_within (map delay_in_range l.alternatives) l.labels l.program l.body

abbrev pub invariant-all_receive-loop-alternative : goal.invariant-all_receive-loop-alternative
invariant-all_receive-loop-alternative l =
    all_receive l.source (map receive_in_range (drop l.alternative-index l.alternatives)) l.labels l.program l.body ≡ all_receive l.source (map receive_in_range l.alternatives) l.labels l.program l.body

abbrev pub invariant-all_handled-loop-alternative : goal.invariant-all_handled-loop-alternative
invariant-all_handled-loop-alternative l =
    all_within (map handled_in_range (drop l.alternative-index l.alternatives)) l.labels l.program l.body ≡ all_within (map handled_in_range l.alternatives) l.labels l.program l.body
