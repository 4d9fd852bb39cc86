-- A handler that takes an exception lies in the body of the place.
use Rattle.std.proofs.Common.{◌≡◌, refl, ℕ, zero, suc, ◌+◌, ◌<◌, ◌≤◌, Bool, true, false, ◌&&◌, ◌||◌, List, [], ◌∷◌, nat_le, Some, slice_get, subst, arith}
use Rattle.std.specs.Prelude.{if◌then◌else◌, nat_lt}
use Rattle.std.proofs.lemmas.Bool.{and_parts}
use Rattle.kernel_base.specs.declared.ends.Exc.{Exc}
use Rattle.code_guard.specs.Owners.{Owns}
use Rattle.code_guard.proofs.EachItem.{all_at}
use Rattle.code_guard.proofs.Belonging.{one_owner}
use Rattle.code_types.specs.declared.instr.Instr.{Instr}
use Rattle.code_types.specs.declared.code.Handler.{Handler}
use Rattle.code_types.specs.declared.code.BodyRow.{BodyRow}
use Rattle.code_types.specs.declared.code.Code.{Code}
use Rattle.code_types.specs.Places.{end_of, names_exception, pops, taker, takes}
use Rattle.code_types.specs.Agreement.{Agrees, StandsIn, HandlesIn, HandlesInOneBody, HasHeight, Everywhere}
use Rattle.code_safety.proofs.ActionOutcomes.{le_tells}
use Rattle.code_safety.proofs.Acts.{lt_tells}

-- one of the handlers, in whose range the place lies
pub record IsTaken (handlers : List Handler) (place : ℕ) (handler : Handler) : Type 0 where
  pub number : ℕ
  pub is_handler : slice_get handlers number ≡ Some handler
  pub from : handler.from ≤ place
  pub until : place < handler.until

takes_in_range : (handler : Handler) (place : ℕ) (exception : Exc) → takes handler place exception ≡ true → (handler.from ≤ place) × (place < handler.until)
takes_in_range handler place exception e =
    let range = and_parts (nat_le handler.from place && nat_lt place handler.until) (handler.otherwise || names_exception handler.names exception) e in
    let ends = and_parts (nat_le handler.from place) (nat_lt place handler.until) range.0 in
    (le_tells handler.from place ends.0, lt_tells place handler.until ends.1)

pub taken : (handlers : List Handler) (place : ℕ) (exception : Exc) (handler : Handler) → taker handlers place exception ≡ Some handler → IsTaken handlers place handler
taken [] place exception handler e = absurd (let no : ⊥ = cc in no)
taken (h ∷ hs) place exception handler e = by-test (takes h place exception) refl e (λ later. taken hs place exception handler later)
  where
    by-test : (b : Bool) → takes h place exception ≡ b → (if b then Some h else taker hs place exception) ≡ Some handler → (taker hs place exception ≡ Some handler → IsTaken hs place handler) → IsTaken (h ∷ hs) place handler
    by-test true takes_it is later =
        let same : h ≡ handler = cc in
        let range = takes_in_range h place exception takes_it in
        subst (IsTaken (h ∷ hs) place) same (record { number = zero; is_handler = refl; from = range.0; until = range.1 })
    by-test false leaves_it is later = let t = later is in record { number = suc t.number; is_handler = t.is_handler; from = t.from; until = t.until }

-- what a taken handler is to a place at which an instruction of a body stands
pub record Lands (code : Code) (heights : List ℕ) (body : ℕ) (row : BodyRow) (place popped height : ℕ) (handler : Handler) : Type 0 where
  pub from : row.first ≤ handler.target
  pub until : handler.target < end_of code body
  pub later : place < handler.target
  pub has : HasHeight heights handler.target handler.height
  pub keeps : handler.height + popped ≤ height

pub lands : (code : Code) (agrees : Agrees code) (body : ℕ) (row : BodyRow) (place : ℕ) (instr : Instr) (height : ℕ) (handler : Handler)
    → StandsIn code body row place instr → HasHeight agrees.heights place height → IsTaken code.handlers place handler
    → Lands code agrees.heights body row place (pops code body instr) height handler
lands code agrees body row place instr height handler at has t =
    let h : HandlesInOneBody code handler = all_at (HandlesInOneBody code) code.handlers t.number handler agrees.handlers t.is_handler in
    let from = t.from in
    let until = t.until in
    let begins = h.1.from in
    let behind = h.1.behind in
    let ends = h.1.until in
    let theirs : Owns code h.0 place = record { row = h.1.row; is_body = h.1.is_body; from = omega arith; until = omega arith } in
    let ours : Owns code body place = record { row = row; is_body = at.is_body; from = at.from; until = at.until } in
    let same : h.0 ≡ body = one_owner code agrees.bodies place h.0 body theirs ours in
    let here : HandlesIn code handler body = subst (HandlesIn code handler) same h.1 in
    let low = at.from in
    record {
      from = (let b = here.behind in omega arith);
      until = here.until;
      later = omega arith;
      has = all_at (λ (x : Handler). HasHeight agrees.heights x.target x.height) code.handlers t.number handler agrees.are_heights.targets t.is_handler;
      keeps = all_at (λ (x : Handler). Everywhere code (λ body row place instr. (height : ℕ) → x.from ≤ place → place < x.until → HasHeight agrees.heights place height → x.height + pops code body instr ≤ height)) code.handlers t.number handler agrees.are_heights.handled t.is_handler body row place instr at height from until has;
    }
