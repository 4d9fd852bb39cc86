use Rattle.names_model.proofs.PartViews.{tree-define, tree-routine}
use Rattle.reach_walk.proofs.told.tell_here.Goals as goal

pub returns-in-Define : goal.returns-in-Define
returns-in-Define c = λ text r s. rw (c.in-Define.is, tree-define c.in-Define.clause, ← c.as_slice.ensures) (c.tell_mentions.ensures text r s)

pub returns-in-Routine : goal.returns-in-Routine
returns-in-Routine c = λ text r s. rw (c.in-Routine.is, tree-routine c.in-Routine.name c.in-Routine.kind c.in-Routine.params c.in-Routine.returned c.in-Routine.size c.in-Routine.parts, ← c.as_slice-in-Routine.ensures, ← c.as_slice-in-Routine-2.ensures) (c.tell_head.ensures text r s)
