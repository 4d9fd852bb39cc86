use Rattle.std.proofs.Common.{ap, ◌∙◌, ◌++◌}
use Rattle.names_model.specs.NameRules.{told_mentions}
use Rattle.reach_tables.proofs.Appends.{flat_map-on}
use Rattle.reach_walk.proofs.told.tell_clauses.Goals as goal

pub loop-clause-preserved : goal.loop-clause-preserved
loop-clause-preserved c = λ text r s. flat_map-on (λ x. told_mentions text r x.text) c.args.clauses.now c.loop-clause.clause-index c.clause-item.result c.loop-clause.out.items _ _ c.loop-clause-test.true c.clause-item.is (c.loop-clause.invariant text r s) (c.in_ok-tell_mentions.ensures text r s ∙ ap (λ ms. c.loop-clause.out.items ++ told_mentions text r ms) c.as_slice.ensures)
