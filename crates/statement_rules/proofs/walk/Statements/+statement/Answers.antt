use Rattle.statement_rules.specs.Grounds.{ground_at}
use Rattle.statement_rules.specs.Views.{around_tree}
use Rattle.statement_rules.proofs.Turns.{part_more, alternative_more}
use Rattle.statement_rules.proofs.walk.Statements.+statement.Goals as goal

pub tell_in_body-loop-part-preserved : goal.tell_in_body-loop-part-preserved
tell_in_body-loop-part-preserved t c = λ grounded.
    part_more (ground_at c.args.self.now) (around_tree c.args.around) c.args.body.now c.loop-part.part-index c.part-item.result c.loop-part.told c.tell_in_part.new.told _
    c.loop-part-test.true c.part-item.is (c.loop-part.invariant grounded) (c.in_ok-tell_in_part.ensures grounded)

pub tell_in_exceptions-loop-alternative-preserved : goal.tell_in_exceptions-loop-alternative-preserved
tell_in_exceptions-loop-alternative-preserved t c = λ grounded.
    alternative_more (ground_at c.args.self.now) (around_tree c.args.around) c.args.alternatives.now c.loop-alternative.alternative-index c.alternative-item.result c.loop-alternative.listed _ c.loop-alternative.told c.tell_in_listed.new.told _
    c.loop-alternative-test.true c.alternative-item.is (c.loop-alternative.invariant grounded) c.in_ok-listed.ensures.listed (c.in_ok-listed.ensures.told grounded)
