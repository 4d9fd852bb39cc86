-- What being in range says of the bodies of a program.
use Rattle.std.proofs.Common.{◌≡◌, ℕ, zero, suc, List, [], ◌∷◌, map, Option, Some, None, subst, IsTrue}
use Rattle.std.specs.Prelude.{Bool, true, ◌&&◌, nat_le, length, slice_get, option_map}
use Rattle.std.specs.declared.alloc.Global.{Global}
use Rattle.std.specs.declared.boxed.Box.{Box}
use Rattle.checked_program.specs.declared.program.Checked.{Checked}
use Rattle.checked_program.specs.declared.program.Body.{Body}
use Rattle.checked_program.specs.declared.statement.Handler.{Handler}
use Rattle.checked_program.specs.declared.statement.Statement.{Statement}
use Rattle.program_ranges.specs.ActionRanges.{all_exceptions}
use Rattle.program_ranges.specs.StatementRanges.{statements_hold, some_within, statement_in_range, handler_in_range}
use Rattle.program_ranges.specs.ProgramRanges.{is_region, has_region, locals_fit, some_small, head_fits, inside_fits, bodies_fit, AreInRange}
use Rattle.program_trees.specs.StatementTree.{statements_of, handler_of}
use Rattle.program_trees.specs.ProgramTree.{BodyRowTree, body_row_tree, checked_tree}
use Rattle.range_laws.specs.StatementInRange.{ExceptionsInRange, StatementsInRange, HandlerInRange, BodyInRange, BodiesInRange}
use Rattle.range_laws.proofs.Tests.{both_hold}
use Rattle.range_laws.proofs.Statements.{exceptions_told, statement_told, handler_told}

statements_told : (ss : List Statement) (items : Bool) (program : Checked) (body : Body) → IsTrue (statements_hold items (map statement_in_range ss) 0 program body) → StatementsInRange (checked_tree program) (body_row_tree body) items (statements_of ss)
statements_told [] items program body holds = tt
statements_told (s ∷ ss) items program body holds =
    let parts = both_hold (statement_in_range s items 0 program body) (statements_hold items (map statement_in_range ss) 0 program body) holds in
    (statement_told s items 0 program body parts.0, statements_told ss items program body parts.1)

some_handler_told : (h : Option (Box Handler Global)) (program : Checked) (body : Body) → IsTrue (some_within (option_map (λ x. handler_in_range x.value) h) 0 program body) → HandlerInRange (checked_tree program) (body_row_tree body) (handler_of h)
some_handler_told None program body holds = tt
some_handler_told (Some h) program body holds = handler_told h.value 0 program body holds

listed_told : (body : Body) (program : Checked) → IsTrue (head_fits body program) → ExceptionsInRange (checked_tree program) body.listed
listed_told body program head =
    let first = is_region body.region program && has_region body.critical body.region in
    let second = nat_le (length body.parameters) (length body.locals) && locals_fit 0 body.locals in
    let third = some_small body.result && all_exceptions body.listed program in
    let rest = both_hold first (second && third) head in
    let last = both_hold second third rest.1 in
    exceptions_told body.listed program (both_hold (some_small body.result) (all_exceptions body.listed program) last.1).1

body_told : (body : Body) (program : Checked) → IsTrue (head_fits body program) → IsTrue (inside_fits body program) → BodyInRange (checked_tree program) (body_row_tree body)
body_told body program head holds =
    let parts = both_hold (statements_hold true (map statement_in_range body.statements) 0 program body) (some_within (option_map (λ x. handler_in_range x.value) body.handler) 0 program body) holds in
    record { listed = listed_told body program head; items = statements_told body.statements true program body parts.0; handled = some_handler_told body.handler program body parts.1 }

bodies_told : (bodies : List Body) (program : Checked) → IsTrue (bodies_fit bodies program) → (k : ℕ) (b : BodyRowTree) → slice_get (map body_row_tree bodies) k ≡ Some b → BodyInRange (checked_tree program) b
bodies_told [] program holds k b is = absurd (let no : ⊥ = cc in no)
bodies_told (x ∷ xs) program holds zero b is =
    let parts = both_hold (head_fits x program && inside_fits x program) (bodies_fit xs program) holds in
    let here = both_hold (head_fits x program) (inside_fits x program) parts.0 in
    let same : body_row_tree x ≡ b = cc in
    subst (BodyInRange (checked_tree program)) same (body_told x program here.0 here.1)
bodies_told (x ∷ xs) program holds (suc k) b is =
    bodies_told xs program (both_hold (head_fits x program && inside_fits x program) (bodies_fit xs program) holds).1 k b is

pub bodies_in_range : (p : Checked) → AreInRange p → BodiesInRange (checked_tree p)
bodies_in_range p in_range = bodies_told p.bodies p in_range.bodies
