use Rattle.std.proofs.Common.{ap}
use Rattle.std.specs.Prelude.{Err}
use Rattle.chill_tree.specs.ItemTree.{program_tree}
use Rattle.text_to_code.proofs.Causes.{without_program, without_code, without_guard, handed_on}
use Rattle.text_to_code.proofs.build.build.Goals as goal

-- no program is elaborated
pub returns-in_err-program-clause-refused : goal.returns-in_err-program-clause-refused
returns-in_err-program-clause-refused c = handed_on (program_tree c.args.tree.now) c.from_residual.result _ c.from_residual.ensures.1 (without_program (program_tree c.args.tree.now) _)

-- no code is compiled of it
pub returns-in_err-code-clause-refused : goal.returns-in_err-code-clause-refused
returns-in_err-code-clause-refused c =
    handed_on (program_tree c.args.tree.now) c.from_residual-in_err-code.result _ c.from_residual-in_err-code.ensures.1
    (without_code (program_tree c.args.tree.now) c.in_ok-program.program.checked.value _ c.in_ok-program.ensures
    (λ is. rw c.checked.ensures at c.in_err-code.ensures.too_long (ap (λ e. Err e) is)))

-- the guard hands it back
pub returns-in_err-code-2-clause-refused : goal.returns-in_err-code-2-clause-refused
returns-in_err-code-2-clause-refused c =
    handed_on (program_tree c.args.tree.now) c.from_residual-in_err-code-2.result _ c.from_residual-in_err-code-2.ensures.1
    (without_guard (program_tree c.args.tree.now) c.in_ok-program.program.checked.value c.in_ok-code.code _ c.in_ok-program.ensures (rw c.checked.ensures at c.in_ok-code.ensures.made)
    (λ is. c.in_err-code-2.ensures.refused (ap (λ e. Err e) is)))
