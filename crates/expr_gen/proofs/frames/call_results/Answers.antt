use Rattle.std.proofs.Common.{◌≡◌, ℕ, zero, suc, ◌≤◌, min, List, [], ◌∷◌, length, drop, map, refl, arith}
use Rattle.checked_program.specs.declared.program.LocalRow.{LocalRow}
use Rattle.checked_program.specs.declared.program.Parameter.{Parameter}
use Rattle.program_trees.specs.ProgramTree.{local_row_tree}
use Rattle.code_scheme.specs.StatementSite.{back_scalars}
use Rattle.expr_gen.proofs.frames.call_results.Goals as goal

-- nothing is given back where no locals or no parameters are left
without_locals : (ps : List Parameter) → back_scalars ps [] ≡ 0
without_locals [] = refl
without_locals (p ∷ ps) = refl

back_end : (ps : List Parameter) (rows : List LocalRow) (k : ℕ) → min (length ps) (length rows) ≤ k → back_scalars (drop k ps) (map local_row_tree (drop k rows)) ≡ 0
back_end [] rows zero h = refl
back_end [] rows (suc k) h = refl
back_end (p ∷ ps) [] zero h = refl
back_end (p ∷ ps) [] (suc k) h = without_locals (drop k ps)
back_end (p ∷ ps) (row ∷ rows) zero h = absurd (omega arith)
back_end (p ∷ ps) (row ∷ rows) (suc k) h = back_end ps rows k (omega arith)

pub returns : goal.returns
returns c =
    let all : back_scalars c.as_slice-parameters.result.now (map local_row_tree c.as_slice-locals.result.now) ≡ back_scalars c.args.body.now.parameters (map local_row_tree c.args.body.now.locals) =
    rw (c.as_slice-parameters.ensures, c.as_slice-locals.ensures) refl in
    let left = back_end c.as_slice-parameters.result.now c.as_slice-locals.result.now c.loop-i.i (omega (arith, c.loop-i.invariant.end, c.loop-i-test.false)) in
    omega (arith, left, all, c.loop-i.invariant.counted, c.loop-i.invariant.few, c.result_scalars-scalars.ensures)
