use Rattle.std.proofs.Common.{◌∙◌, sym, true, false}
use Rattle.action_gen.proofs.Nodes.{handled_goes, choice_goes, case_goes}
use Rattle.stmt_gen.proofs.going_on.+going_on.Goals as goal

pub some_alternative_goes_on-returns-then-go_on : goal.some_alternative_goes_on-returns-then-go_on
some_alternative_goes_on-returns-then-go_on t c =
    sym (handled_goes c.args.alternatives.now c.loop-alternative.alternative-index c.alternative-item.result c.as_slice.result.now c.go_on.result true c.loop-alternative-test.true c.alternative-item.is c.as_slice.ensures c.go_on.ensures c.if-go_on.true)
    ∙ c.loop-alternative.invariant

pub some_alternative_goes_on-loop-alternative-preserved : goal.some_alternative_goes_on-loop-alternative-preserved
some_alternative_goes_on-loop-alternative-preserved t c =
    sym (handled_goes c.args.alternatives.now c.loop-alternative.alternative-index c.alternative-item.result c.as_slice.result.now c.go_on.result false c.loop-alternative-test.true c.alternative-item.is c.as_slice.ensures c.go_on.ensures c.if-go_on.false)
    ∙ c.loop-alternative.invariant

pub some_choice_goes_on-returns-then-go_on : goal.some_choice_goes_on-returns-then-go_on
some_choice_goes_on-returns-then-go_on t c =
    sym (choice_goes c.args.choices.now c.loop-choice.choice-index c.choice-item.result c.as_slice.result.now c.go_on.result true c.loop-choice-test.true c.choice-item.is c.as_slice.ensures c.go_on.ensures c.if-go_on.true)
    ∙ c.loop-choice.invariant

pub some_choice_goes_on-loop-choice-preserved : goal.some_choice_goes_on-loop-choice-preserved
some_choice_goes_on-loop-choice-preserved t c =
    sym (choice_goes c.args.choices.now c.loop-choice.choice-index c.choice-item.result c.as_slice.result.now c.go_on.result false c.loop-choice-test.true c.choice-item.is c.as_slice.ensures c.go_on.ensures c.if-go_on.false)
    ∙ c.loop-choice.invariant

pub some_case_goes_on-returns-then-go_on : goal.some_case_goes_on-returns-then-go_on
some_case_goes_on-returns-then-go_on t c =
    sym (case_goes c.args.alternatives.now c.loop-alternative.alternative-index c.alternative-item.result c.as_slice.result.now c.go_on.result true c.loop-alternative-test.true c.alternative-item.is c.as_slice.ensures c.go_on.ensures c.if-go_on.true)
    ∙ c.loop-alternative.invariant

pub some_case_goes_on-loop-alternative-preserved : goal.some_case_goes_on-loop-alternative-preserved
some_case_goes_on-loop-alternative-preserved t c =
    sym (case_goes c.args.alternatives.now c.loop-alternative.alternative-index c.alternative-item.result c.as_slice.result.now c.go_on.result false c.loop-alternative-test.true c.alternative-item.is c.as_slice.ensures c.go_on.ensures c.if-go_on.false)
    ∙ c.loop-alternative.invariant
