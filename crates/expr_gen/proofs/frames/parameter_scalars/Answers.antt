use Rattle.std.proofs.Common.{◌≡◌, ℕ, min, List, length, take, map, inl, inr, sym, ap, ◌∙◌, arith}
use Rattle.std.proofs.lemmas.Bool.{cases_lt}
use Rattle.std.proofs.lemmas.List.{take-map, take_all}
use Rattle.checked_program.specs.declared.program.LocalRow.{LocalRow}
use Rattle.program_trees.specs.ProgramTree.{LocalRowTree, local_row_tree}
use Rattle.code_scheme.specs.Pieces.{capped}
use Rattle.code_scheme.specs.StatementSite.{scalars_in}
use Rattle.expr_gen.proofs.frames.parameter_scalars.Goals as goal

-- no more are taken than there are
taken_of : (xs : List LocalRow) (k : ℕ) → take (min k (length xs)) xs ≡ take k xs
taken_of xs k = elim (cases_lt k (length xs)) [
  | inl p ↦ (let e : min k (length xs) ≡ k = omega (arith, p) in ap (λ (n : ℕ). take n xs) e)
  | inr p ↦ (let e : min k (length xs) ≡ length xs = omega (arith, p) in ap (λ (n : ℕ). take n xs) e ∙ take_all (length xs) xs (omega arith) ∙ sym (take_all k xs p))
]

rows_taken : (xs ys : List LocalRow) (k n : ℕ) → ys ≡ xs → n ≡ min k (length ys) → map local_row_tree (take n ys) ≡ take k (map local_row_tree xs)
rows_taken xs ys k n same count = ap (λ (m : ℕ). map local_row_tree (take m ys)) count ∙ ap (λ (zs : List LocalRow). map local_row_tree zs) (taken_of ys k ∙ ap (λ (zs : List LocalRow). take k zs) same) ∙ sym (take-map local_row_tree k xs)

pub returns : goal.returns
returns c =
    let count : c.min-count.result ≡ min (length c.args.body.now.parameters) (length c.as_slice-locals.result.now) = c.min-count.ensures ∙ ap (λ (n : ℕ). min n (length c.as_slice-locals.result.now)) c.len.ensures in
    c.scalars_in.ensures ∙ ap (λ (rows : List LocalRowTree). capped (scalars_in rows)) (rows_taken c.args.body.now.locals c.as_slice-locals.result.now (length c.args.body.now.parameters) c.min-count.result c.as_slice-locals.ensures count)
