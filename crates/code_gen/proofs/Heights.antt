-- What the row of a body says, found instruction by instruction.
use Rattle.std.proofs.Common.{◌≡◌, ℕ, ◌+◌, ◌-◌, ◌<◌, ◌≤◌, max, List, ◌∷◌, length, get_or, drop, map, Some, None, arith, add-one, drop-cons, refl, sym, ap, ◌∙◌}
use Rattle.std.specs.Prelude.{slice_get, option_map}
use Rattle.std.proofs.lemmas.List.{at_drop_all}
use Rattle.std.proofs.lemmas.Option.{slice_get-map}
use Rattle.code_types.specs.declared.code.BodyRow.{BodyRow}
use Rattle.code_types.specs.declared.code.Code.{Code}
use Rattle.code_types.specs.declared.instr.Instr.{Instr}
use Rattle.code_types.specs.declared.instr.Instr.TheVariants.{Call}
use Rattle.code_types.specs.Places.{params_of, results_of}
use Rattle.checked_program.specs.declared.program.Body.{Body}
use Rattle.checked_program.specs.declared.program.Checked.{Checked}
use Rattle.program_trees.specs.ProgramTree.{BodyRowTree, checked_tree, body_row_tree}
use Rattle.code_scheme.specs.StatementSite.{parameter_scalars, call_results}
use Rattle.code_scheme.specs.BodyCode.{head_of, heads_of, height_behind, greatest_height, locals_named, most_locals}
use Rattle.expr_gen.proofs.Rows.{body_found}

item_there : (xs : List Instr) (k : ℕ) (d : Instr) → k < length xs → drop k xs ≡ get_or xs k d ∷ drop (k + 1) xs
item_there xs k d h = rw (add-one, drop-cons xs k d h) refl

pub locals_turn : (n m : ℕ) (xs : List Instr) (k : ℕ) (d : Instr) → k < length xs → m ≡ max n (locals_named (get_or xs k d)) → most_locals n (drop k xs) ≡ most_locals m (drop (k + 1) xs)
locals_turn n m xs k d h most = ap (most_locals n) (item_there xs k d h) ∙ ap (λ (j : ℕ). most_locals j (drop (k + 1) xs)) (sym most)

pub locals_done : (n : ℕ) (xs : List Instr) (k : ℕ) → length xs ≤ k → most_locals n (drop k xs) ≡ n
locals_done n xs k h = at_drop_all (most_locals n) xs k h

pub heights_turn : (heads : Code) (h g i m : ℕ) (xs : List Instr) (k : ℕ) (d : Instr) → k < length xs
    → i ≡ height_behind heads (get_or xs k d) h → m ≡ max g i → greatest_height heads h g (drop k xs) ≡ greatest_height heads i m (drop (k + 1) xs)
heights_turn heads h g i m xs k d there behind most =
    ap (greatest_height heads h g) (item_there xs k d there)
    ∙ ap (λ (j : ℕ). greatest_height heads j (max g j) (drop (k + 1) xs)) (sym behind)
    ∙ ap (λ (j : ℕ). greatest_height heads i j (drop (k + 1) xs)) (sym most)

pub heights_done : (heads : Code) (h g : ℕ) (xs : List Instr) (k : ℕ) → length xs ≤ k → greatest_height heads h g (drop k xs) ≡ g
heights_done heads h g xs k there = at_drop_all (greatest_height heads h g) xs k there

-- a body is found among the heads of bodies where it is among the rows
head_found : (p : Checked) (b : ℕ) (body : Body) → slice_get p.bodies b ≡ Some body → slice_get (heads_of (checked_tree p)).bodies b ≡ Some (head_of (body_row_tree body))
head_found p b body e = slice_get-map head_of (map body_row_tree p.bodies) b ∙ ap (option_map head_of) (body_found p.bodies b body e)

pub call_height : (p : Checked) (b : ℕ) (body : Body) (h taken given : ℕ) → slice_get p.bodies b ≡ Some body
    → taken ≡ parameter_scalars (body_row_tree body) → given ≡ call_results (body_row_tree body)
    → height_behind (heads_of (checked_tree p)) (Call b) h ≡ h - taken + given
call_height p b body h taken given e t g =
    ap (λ o. h - params_of o + results_of o) (head_found p b body e)
    ∙ ap (λ (j : ℕ). h - j + call_results (body_row_tree body)) (sym t)
    ∙ ap (λ (j : ℕ). h - taken + j) (sym g)

pub no_call_height : (p : Checked) (b h : ℕ) → slice_get p.bodies b ≡ None → height_behind (heads_of (checked_tree p)) (Call b) h ≡ h
no_call_height p b h e =
    let none : slice_get (heads_of (checked_tree p)).bodies b ≡ None =
    slice_get-map head_of (map body_row_tree p.bodies) b ∙ ap (option_map head_of) (slice_get-map body_row_tree p.bodies b ∙ ap (option_map body_row_tree) e) in
    let same : h - 0 + 0 ≡ h = omega arith in
    ap (λ o. h - params_of o + results_of o) none ∙ same
