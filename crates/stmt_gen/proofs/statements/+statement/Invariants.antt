use Rattle.stmt_gen.specs.Appending.{KeepsFront}
use Rattle.stmt_gen.proofs.Held.{StatementsLeft, HandledLeft, ChoicesLeft, CasesLeft, DelaysLeft, ReceivesLeft}
use Rattle.stmt_gen.proofs.statements.+statement.Given as goal

abbrev pub invariant-put_statements-loop-statement : goal.invariant-put_statements-loop-statement
invariant-put_statements-loop-statement l = record {
  left : StatementsLeft l.around l.statements l.statement-index l.initial.draft l.draft;
  keeps : KeepsFront l.initial.draft.code l.draft.code;
}

abbrev pub invariant-put_handled-loop-alternative : goal.invariant-put_handled-loop-alternative
invariant-put_handled-loop-alternative l = record {
  left : HandledLeft l.around l.alternatives l.alternative-index l.behind l.initial.draft l.draft;
  keeps : KeepsFront l.initial.draft.code l.draft.code;
}

abbrev pub invariant-put_choices-loop-choice : goal.invariant-put_choices-loop-choice
invariant-put_choices-loop-choice l = record {
  left : ChoicesLeft l.around l.choices l.choice-index l.behind l.initial.draft l.draft;
  keeps : KeepsFront l.initial.draft.code l.draft.code;
}

abbrev pub invariant-put_cases-loop-alternative : goal.invariant-put_cases-loop-alternative
invariant-put_cases-loop-alternative l = record {
  left : CasesLeft l.around l.alternatives l.alternative-index l.behind l.initial.draft l.draft;
  keeps : KeepsFront l.initial.draft.code l.draft.code;
}

abbrev pub invariant-put_delays-loop-number : goal.invariant-put_delays-loop-number
invariant-put_delays-loop-number l = record {
  left : DelaysLeft l.around l.alternatives l.chosen l.number l.behind l.initial.draft l.draft;
  keeps : KeepsFront l.initial.draft.code l.draft.code;
}

abbrev pub invariant-put_receives-loop-number : goal.invariant-put_receives-loop-number
invariant-put_receives-loop-number l = record {
  left : ReceivesLeft l.around l.alternatives l.kept l.number l.initial.draft l.draft;
  keeps : KeepsFront l.initial.draft.code l.draft.code;
}
