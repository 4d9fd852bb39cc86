-- Each control of a DO.
use Rattle.std.proofs.Common.{◌≡◌, ℕ, true, Option, Some, None, subst}
use Rattle.program_trees.specs.ExprTree.{ExprTree}
use Rattle.program_trees.specs.ProgramTree.{CheckedTree}
use Rattle.program_trees.specs.StatementTree.{ControlTree, while_true, for_ever, for_members, for_steps, StatementNodes}
use Rattle.source_meaning.specs.ExprMeaning.{Setting}
use Rattle.source_meaning.specs.StatementMeaning.{statements_mean}
use Rattle.source_meaning.specs.BodyMeaning.{Bodies, calls_in}
use Rattle.code_laws.specs.Counters.{some_leaves, loop_keeps}
use Rattle.code_laws.specs.Leaving.{LeavesLocal}
use Rattle.code_laws.specs.Loops.{SomeLeaves, CounterStays, LoopLaw}
use Rattle.code_laws.proofs.Values.{both_true}
use Rattle.code_laws.proofs.StayingStatements.{leaves_law}
use Rattle.code_laws.proofs.PlainLoops.{while_runs, ever_runs}
use Rattle.code_laws.proofs.MemberLoops.{member_loop_runs}
use Rattle.code_laws.proofs.StepLoops.{step_loop_runs}

pub loop_runs : LoopLaw
loop_runs w v st bodies inside (while_true e) l body along n at locals store s stands names fits loop within h = while_runs w v st inside e l body along n at locals store s loop within h
loop_runs w v st bodies inside for_ever l body along n at locals store s stands names fits loop within h = ever_runs w v st inside l body along n at locals store s loop within h
loop_runs w v st bodies inside (for_members counter e low condition) l body along n at locals store s stands names fits loop within h = member_loop_runs w v st bodies inside counter e low condition l body along n at locals store s stands names fits loop within h
loop_runs w v st bodies inside (for_steps counter e step f down condition) l body along n at locals store s stands names fits loop within h = step_loop_runs w v st bodies inside counter e step f down condition l body along n at locals store s stands names fits loop within h

-- ---- the counter of a loop over statements that leave it

some_stays : (p : CheckedTree) (bodies : Bodies) (frames i : ℕ) (v : Setting) (e : Option ExprTree) → v.calls ≡ calls_in p bodies frames → some_leaves i e ≡ true → SomeLeaves v i e
some_stays p bodies frames i v None is leaves = tt
some_stays p bodies frames i v (Some e) is leaves = λ xs store store1 s s1 went. subst (λ o. LeavesLocal i store o) went (leaves_law.expressions p bodies frames i v e store s is leaves)

-- A loop that alone sets its counter finds it as it left it.
pub counter_stays : (p : CheckedTree) (bodies : Bodies) (frames n : ℕ) (v : Setting) (control : ControlTree) (ss : StatementNodes) → v.calls ≡ calls_in p bodies frames → loop_keeps control ss ≡ true → CounterStays v control (statements_mean v n ss)
counter_stays p bodies frames n v (for_steps counter e step f down condition) ss is keeps = (
  some_stays p bodies frames counter v condition is (both_true _ _ keeps).0,
  λ z store store1 s s1 went. subst (λ o. LeavesLocal counter store o) went (leaves_law.statements p bodies frames counter n v ss store s is (both_true _ _ keeps).1),
)
counter_stays p bodies frames n v (while_true e) ss is keeps = tt
counter_stays p bodies frames n v for_ever ss is keeps = tt
counter_stays p bodies frames n v (for_members counter e low condition) ss is keeps = tt
