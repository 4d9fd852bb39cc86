use Rattle.std.proofs.Common.{◌≡◌, ℕ, ◌∙◌, [], length, min, map, drop, refl, ap}
use Rattle.std.proofs.lemmas.Result.{on_ok_weaker}
use Rattle.program_trees.specs.ProgramTree.{body_row_tree, local_row_tree}
use Rattle.expr_gen.proofs.Appending.{nothing}
use Rattle.code_gen.proofs.Appended.{rows_left, some_lowest, no_lowest, lowest_told}
use Rattle.code_gen.proofs.bodies.put_lowest_values.Goals as goal

pub returns-in_ok-first-in-Some : goal.returns-in_ok-first-in-Some
returns-in_ok-first-in-Some c =
    let count : c.min-parameters.result ≡ min (length c.args.body.now.parameters) (length c.as_slice-locals.result.now) = c.min-parameters.ensures ∙ ap (λ (n : ℕ). min n (length c.as_slice-locals.result.now)) c.len.ensures in
    let left = rows_left c.args.body.now.locals c.as_slice-locals.result.now (length c.args.body.now.parameters) c.min-parameters.result c.as_slice-locals.ensures count in
    let last = some_lowest c.args.body.now c.in-Some.mode c.deref.result.now c.in_ok-first-in-Some.first c.in-Some.is c.deref.ensures (c.in_ok-first-in-Some.ensures _ c.declared_scalars.ensures) in
    record { puts = on_ok_weaker c.put_lowest_value.result (λ q. lowest_told (body_row_tree c.args.body.now) _ _ _ left last c.in_ok-put_lowest_locals.ensures.puts q refl) c.put_lowest_value.ensures.puts }

pub returns-in-None : goal.returns-in-None
returns-in-None c =
    let count : c.min-parameters.result ≡ min (length c.args.body.now.parameters) (length c.as_slice-locals.result.now) = c.min-parameters.ensures ∙ ap (λ (n : ℕ). min n (length c.as_slice-locals.result.now)) c.len.ensures in
    let left = rows_left c.args.body.now.locals c.as_slice-locals.result.now (length c.args.body.now.parameters) c.min-parameters.result c.as_slice-locals.ensures count in
    record { puts = lowest_told (body_row_tree c.args.body.now) _ [] 0 left (no_lowest c.args.body.now c.in-None.is) c.in_ok-put_lowest_locals.ensures.puts (nothing c.put_lowest_locals.new.draft.code) refl }
