-- A process that is started stands well.
use Rattle.std.proofs.Common.{◌≡◌, refl, ℕ, ◌+◌, ◌-◌, ◌<◌, ◌≤◌, ◌⊎◌, inl, inr, Bool, true, false, List, [], ◌∷◌, ◌++◌, ℤ, pos, length, ◌==◌, Option, Some, None, slice_get, subst, replicate, arith, sym}
use Rattle.std.specs.Prelude.{if◌then◌else◌}
use Rattle.std.proofs.lemmas.Bool.{eqb-true}
use Rattle.std.proofs.lemmas.Option.{same_Some}
use Rattle.std.proofs.lemmas.List.{length-append, length-replicate}
use Rattle.code_guard.proofs.EachItem.{all_at, item_or_past}
use Rattle.code_guard.proofs.Belonging.{end_next, end_last}
use Rattle.code_types.specs.declared.code.BodyRow.{BodyRow}
use Rattle.code_types.specs.declared.code.Code.{Code}
use Rattle.code_types.specs.Places.{end_of}
use Rattle.code_types.specs.Agreement.{Agrees, HoldsParams, HasHeight}
use Rattle.code_types.specs.State.{State, Running}
use Rattle.code_types.specs.Steps.{new_frame}
use Rattle.code_types.specs.Talk.{start_in, start_of}
use Rattle.code_safety.specs.Standing.{Stands, StandsWell}
use Rattle.code_safety.proofs.BodyPlaces.{stands_of}

-- a body isn't empty
pub first_inside : (code : Code) (agrees : Agrees code) (body : ℕ) (row : BodyRow) → slice_get code.bodies body ≡ Some row → row.first < end_of code body
first_inside code agrees body row e = by-next (item_or_past code.bodies (body + 1))
  where
    by-next : ((x : BodyRow) × (slice_get code.bodies (body + 1) ≡ Some x)) ⊎ (length code.bodies ≤ body + 1) → row.first < end_of code body
    by-next (inl h) = let ends = end_next code body h.0 h.1 in let rise = agrees.bodies.rise body row h.0 e h.1 in omega arith
    by-next (inr h) = let ends = end_last code body h in let inside : row.first < length code.instrs = all_at (λ (r : BodyRow). r.first < length code.instrs) code.bodies body row agrees.bodies.inside e in omega arith

-- a frame at the first instruction of its body, with an empty stack
pub stands_first : (code : Code) (agrees : Agrees code) (body : ℕ) (row : BodyRow) (arguments : List ℤ) → slice_get code.bodies body ≡ Some row → length arguments ≡ row.params
    → let f = new_frame body row arguments in Stands code agrees.heights f (λ instr height. length f.stack ≡ height)
stands_first code agrees body row arguments e count =
    let f = new_frame body row arguments in
    let holds : row.params ≤ row.locals = all_at HoldsParams code.bodies body row agrees.params e in
    let locals : length (arguments ++ replicate (row.locals - length arguments) (pos 0)) ≡ row.locals = simp (length-append, length-replicate) (omega arith) in
    let has : HasHeight agrees.heights row.first 0 = all_at (λ (r : BodyRow). HasHeight agrees.heights r.first 0) code.bodies body row agrees.are_heights.begin e in
    let from : row.first ≤ row.first = omega arith in
    stands_of code agrees f row 0 (λ instr height. length f.stack ≡ height) e from (first_inside code agrees body row e) has locals (λ instr. refl)

pub starts_well : (code : Code) (agrees : Agrees code) (instance process : ℕ) (arguments : List ℤ) (state : State) → start_of code instance process arguments ≡ Some state → StandsWell code agrees.heights state
starts_well code agrees instance process arguments state e = by-row (slice_get code.bodies process) refl e
  where
    by-count : (row : BodyRow) → slice_get code.bodies process ≡ Some row → (b : Bool) → (row.params == length arguments) ≡ b
        → (if b then Some (record { instance = instance; frames = new_frame process row arguments ∷ []; regions = []; mode = Running }) else None) ≡ Some state
        → StandsWell code agrees.heights state
    by-count row is true same starts =
        let count : row.params ≡ length arguments = eqb-true row.params (length arguments) same in
        subst (StandsWell code agrees.heights) (same_Some _ state starts) (record { frames = (stands_first code agrees process row arguments is (sym count), tt); few = omega arith })
    by-count row is false same starts = absurd (let no : ⊥ = cc in no)

    by-row : (o : Option BodyRow) → slice_get code.bodies process ≡ o → start_in instance process arguments o ≡ Some state → StandsWell code agrees.heights state
    by-row None is starts = absurd (let no : ⊥ = cc in no)
    by-row (Some row) is starts = by-count row is (row.params == length arguments) refl starts
