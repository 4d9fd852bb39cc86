-- What tests say of rows: the row of a tree is there, and has so many scalars.
use Rattle.std.proofs.Common.{◌≡◌, ℕ, Option, Some, None, refl, ap, sym, ◌∙◌, IsTrue}
use Rattle.std.specs.Prelude.{slice_get, option_map}
use Rattle.std.specs.declared.alloc.Global.{Global}
use Rattle.std.specs.declared.rc.Rc.{Rc}
use Rattle.std.proofs.lemmas.Option.{slice_get-map}
use Rattle.modes.specs.declared.mode.Mode.{Mode}
use Rattle.checked_program.specs.declared.expr.Base.{Base}
use Rattle.checked_program.specs.declared.expr.Base.TheVariants.{Shared, Local}
use Rattle.checked_program.specs.declared.program.Checked.{Checked}
use Rattle.checked_program.specs.declared.program.Body.{Body}
use Rattle.checked_program.specs.declared.program.LocalRow.{LocalRow}
use Rattle.checked_program.specs.declared.program.LocationRow.{LocationRow}
use Rattle.checked_program.specs.declared.program.Parameter.{Parameter}
use Rattle.checked_program.specs.declared.program.Passing.{Passing}
use Rattle.checked_program.specs.declared.program.Passing.TheVariants.{In, Out, InOut}
use Rattle.program_ranges.specs.Around.{is_count, base_count, local_count, location_count, mode_count, same_passing, passes, is_passed}
use Rattle.program_trees.specs.ProgramTree.{body_row_tree, checked_tree, local_row_tree, location_row_tree, shared_mode}
use Rattle.range_laws.specs.ExprInRange.{LocalInRange, BaseInRange, ResultInRange, PassedInRange}
use Rattle.range_laws.proofs.Tests.{both_hold, equal}

-- a body that is there is there as a tree
pub body_there : (program : Checked) (k : ℕ) (callee : Body) → slice_get program.bodies k ≡ Some callee → slice_get (checked_tree program).bodies k ≡ Some (body_row_tree callee)
body_there program k callee is = slice_get-map body_row_tree program.bodies k ∙ ap (option_map body_row_tree) is

-- so is a local
pub local_there : (k : ℕ) (body : Body) (row : LocalRow) → slice_get body.locals k ≡ Some row → slice_get (body_row_tree body).locals k ≡ Some (local_row_tree row)
local_there k body row is = slice_get-map local_row_tree body.locals k ∙ ap (option_map local_row_tree) is

local_counted : (k n : ℕ) (body : Body) (row : Option LocalRow) → slice_get body.locals k ≡ row → local_count row ≡ Some n → LocalInRange (body_row_tree body) k n
local_counted k n body None is counted = absurd (let no : ⊥ = cc in no)
local_counted k n body (Some row) is counted = (local_row_tree row, local_there k body row is, cc)

location_counted : (l n : ℕ) (program : Checked) (body : Body) (row : Option LocationRow) → slice_get program.locations l ≡ row → location_count row ≡ Some n → BaseInRange (checked_tree program) (body_row_tree body) (Shared l) n
location_counted l n program body None is counted = absurd (let no : ⊥ = cc in no)
location_counted l n program body (Some row) is counted = (location_row_tree row, slice_get-map location_row_tree program.locations l ∙ ap (option_map location_row_tree) is, cc)

pub base_told : (b : Base) (n : ℕ) (program : Checked) (body : Body) → base_count b program body ≡ Some n → BaseInRange (checked_tree program) (body_row_tree body) b n
base_told (Shared l) n program body is = location_counted l n program body (slice_get program.locations l) refl is
base_told (Local k) n program body is = local_counted k n body (slice_get body.locals k) refl is

-- some scalars are so many
pub counted : (o : Option ℕ) (n : ℕ) → IsTrue (is_count o n) → o ≡ Some n
counted None n holds = absurd (let no : ⊥ = cc in no)
counted (Some m) n holds = ap Some (equal m n holds)

pub local_told : (k n : ℕ) (body : Body) → IsTrue (is_count (local_count (slice_get body.locals k)) n) → LocalInRange (body_row_tree body) k n
local_told k n body holds = local_counted k n body (slice_get body.locals k) refl (counted (local_count (slice_get body.locals k)) n holds)

passing_same : (p q : Passing) → IsTrue (same_passing p q) → p ≡ q
passing_same In In holds = refl
passing_same In Out holds = absurd (let no : ⊥ = cc in no)
passing_same In InOut holds = absurd (let no : ⊥ = cc in no)
passing_same Out In holds = absurd (let no : ⊥ = cc in no)
passing_same Out Out holds = refl
passing_same Out InOut holds = absurd (let no : ⊥ = cc in no)
passing_same InOut In holds = absurd (let no : ⊥ = cc in no)
passing_same InOut Out holds = absurd (let no : ⊥ = cc in no)
passing_same InOut InOut holds = refl

passes_so : (o : Option Parameter) (how : Passing) → IsTrue (passes o how) → o ≡ Some (record { passing = how })
passes_so None how holds = absurd (let no : ⊥ = cc in no)
passes_so (Some q) how holds = ap (λ (h : Passing). Some (record { passing = h })) (passing_same q.passing how holds)

-- m scalars are passed where the test asks for n, which are as many
pub passed_told : (callee : Body) (k : ℕ) (how : Passing) (m n : ℕ) → m ≡ n → IsTrue (is_passed callee k how n) → PassedInRange (body_row_tree callee) k how m
passed_told callee k how m n same holds =
    let parts = both_hold (passes (slice_get callee.parameters k) how) (is_count (local_count (slice_get callee.locals k)) n) holds in
    let local = local_told k n callee parts.1 in
    (passes_so (slice_get callee.parameters k) how parts.0, (local.0, local.1, local.2 ∙ sym same))

pub result_told : (o : Option (Rc Mode Global)) (n : ℕ) → IsTrue (is_count (mode_count o) n) → ResultInRange (option_map shared_mode o) n
result_told None n holds = absurd (let no : ⊥ = cc in no)
result_told (Some m) n holds = let is = counted (mode_count (Some m)) n holds in cc
