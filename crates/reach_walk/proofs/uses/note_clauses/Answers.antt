use Rattle.std.proofs.Common.{ap, ◌∙◌, ◌++◌}
use Rattle.names_model.specs.Resolving.{resolved_mentions}
use Rattle.reach_tables.proofs.Appends.{flat_map-on}
use Rattle.reach_walk.proofs.uses.note_clauses.Goals as goal

pub loop-clause-preserved : goal.loop-clause-preserved
loop-clause-preserved c = λ text r s. flat_map-on (λ x. resolved_mentions text r x.text) c.args.clauses.now c.loop-clause.clause-index c.clause-item.result c.loop-clause.out.items _ _ c.loop-clause-test.true c.clause-item.is (c.loop-clause.invariant text r s) (c.in_ok-note_mentions.ensures text r s ∙ ap (λ ms. c.loop-clause.out.items ++ resolved_mentions text r ms) c.as_slice.ensures)
