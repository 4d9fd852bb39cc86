-- Calls, regions and shared locations.
use Rattle.std.specs.Prelude.{◌≡◌, refl, ℕ, zero, suc, List, [], ◌∷◌, pos, Option, Some, None, true, false}
use Rattle.kernel_base.specs.declared.ends.Exc.TheVariants.{Rangefail, Empty, User}
use Rattle.kernel_base.specs.declared.request.Request.TheVariants.{Read as AsksRead, Write as AsksWrite, Enter, Leave, Get}
use Rattle.kernel_base.specs.declared.answer.Answer.TheVariants.{Value, Done, Fail}
use Rattle.modes.specs.ModeTree.{ModeTree, int, range, array, words}
use Rattle.checked_program.specs.declared.expr.Base.TheVariants.{Shared}
use Rattle.checked_program.specs.declared.expr.Binary.TheVariants.{Add}
use Rattle.checked_program.specs.declared.program.Sort.TheVariants.{Outermost, Procedure}
use Rattle.checked_program.specs.declared.program.Passing.TheVariants.{In, Out, InOut}
use Rattle.checked_program.specs.declared.program.Parameter.{Parameter}
use Rattle.kernel_base.specs.declared.request.Place.{Place}
use Rattle.program_trees.specs.ExprTree.{ExprTree, expr, call, get_int, part_nodes, one_element, LocationTree, location, CallTree, called, ArgumentTree, argument_nodes, taken as in_value, given, both}
use Rattle.program_trees.specs.StatementTree.{StatementTree, statement, do_nothing, declare, set_lowest, module_at, region_at, assign, update, perform, return_with, set_result, cause, statement_nodes}
use Rattle.program_trees.specs.ProgramTree.{BodyRowTree, CheckedTree, LocalRowTree}
use Rattle.source_meaning.specs.Talk.{talk}
use Rattle.source_meaning.specs.OpenRegions.{open_behind}
use Rattle.source_meaning.proofs.Words.{Deed, Does, asks, body, dcl, ends, granted, int_bounds, ints, local_row, location_row, main, number, on, on_else, op, own, plain, program, put, raises, says, set, shared, taken, ticks, value_in, with_handler, within}

abbrev x : ExprTree
x = value_in (own 0)

abbrev y : ExprTree
y = value_in (own 1)

-- a procedure with such parameters, result, listed exceptions, locals and statements
abbrev procedure : List Parameter → Option ModeTree → List ℕ → List LocalRowTree → List StatementTree → BodyRowTree
procedure = body Procedure

abbrev passed_in : Parameter
passed_in = record { passing = In }

abbrev passed_out : Parameter
passed_out = record { passing = Out }

abbrev passed_both : Parameter
passed_both = record { passing = InOut }

abbrev call_of : ℕ → List ArgumentTree → CallTree
call_of b as' = called b (argument_nodes as')

-- a program of one module with these bodies behind the outermost process, without shared locations
abbrev with_bodies : List LocalRowTree → List StatementTree → List BodyRowTree → CheckedTree
with_bodies rows ss bodies = program (main rows ss ∷ bodies) []

-- f: PROC (a INT) RETURNS (INT); PUT_INT(a); RETURN a + 1; PUT_INT(0); END f; DCL x INT := f(f(1)); PUT_INT(x); f(7);
abbrev nested_calls : CheckedTree
nested_calls = with_bodies (ints 1) (dcl 0 (expr 1 None (call (call_of 1 (in_value (taken (expr 1 None (call (call_of 1 (in_value (taken (number (pos 1))) ∷ []))))) ∷ [])))) ∷ put x ∷ plain (perform (call_of 1 (in_value (taken (number (pos 7))) ∷ []))) ∷ []) (procedure (passed_in ∷ []) (Some int) [] (ints 1) (put x ∷ plain (return_with (Some (taken (op Add x (number (pos 1)))))) ∷ put (number (pos 0)) ∷ []) ∷ [])

nested_calls_do : Does nested_calls (ticks ∷ says (pos 1) ∷ ticks ∷ says (pos 2) ∷ says (pos 3) ∷ ticks ∷ says (pos 7) ∷ ends)
nested_calls_do = refl

-- p: PROC (a INT, b INT OUT, c INT INOUT); PUT_INT(b); b := a + c; c := b + 1; END p; DCL x INT := 5, y INT := 2;
-- p(1, x, y); PUT_INT(x); PUT_INT(y);
abbrev ways_of_passing : CheckedTree
ways_of_passing = with_bodies (ints 2) (dcl 0 (number (pos 5)) ∷ dcl 1 (number (pos 2)) ∷ plain (perform (call_of 1 (in_value (taken (number (pos 1))) ∷ given (own 0) (Some int_bounds) ∷ both (own 1) (Some int_bounds) (Some int_bounds) ∷ []))) ∷ put x ∷ put y ∷ []) (procedure (passed_in ∷ passed_out ∷ passed_both ∷ []) None [] (ints 3) (put y ∷ plain (set (own 1) (op Add x (value_in (own 2)))) ∷ plain (set (own 2) (op Add y (number (pos 1)))) ∷ []) ∷ [])

ways_of_passing_do : Does ways_of_passing (ticks ∷ says (pos 0) ∷ says (pos 3) ∷ says (pos 4) ∷ ends)
ways_of_passing_do = refl

-- p: PROC (a INT OUT, b INT OUT); a := 1; b := 7; END p; DCL x INT, y INT (0:5); p(x, y) ON (RANGEFAIL): PUT_INT(x); END;
-- the first is assigned before the second is tested
abbrev copied_out_in_order : CheckedTree
copied_out_in_order = with_bodies (local_row int 0 1 ∷ local_row (range int (pos 0) (pos 5)) 1 1 ∷ []) (plain (set_lowest (0 ∷ []) (pos 0 ∷ [])) ∷ plain (set_lowest (1 ∷ []) (pos 0 ∷ [])) ∷ statement false (perform (call_of 1 (given (own 0) (Some int_bounds) ∷ given (own 1) (Some (record { low = (pos 0); high = (pos 5) })) ∷ []))) (on 1 (put x ∷ [])) ∷ []) (procedure (passed_out ∷ passed_out ∷ []) None [] (ints 2) (plain (set (own 0) (number (pos 1))) ∷ plain (set (own 1) (number (pos 7))) ∷ []) ∷ [])

copied_out_in_order_does : Does copied_out_in_order (ticks ∷ says (pos 1) ∷ ends)
copied_out_in_order_does = refl

-- f: PROC () RETURNS (INT); RESULT 3; CAUSE busy; END ON ELSE PUT_INT(1); END f; g: PROC () RETURNS (INT); END g;
-- PUT_INT(f()); PUT_INT(g());
abbrev results : CheckedTree
results = with_bodies [] (put (expr 1 None (call (call_of 1 []))) ∷ put (expr 1 None (call (call_of 2 []))) ∷ []) (with_handler (on_else (put (number (pos 1)) ∷ [])) (procedure [] (Some int) [] [] (plain (set_result (taken (number (pos 3)))) ∷ plain (cause 7) ∷ [])) ∷ procedure [] (Some int) [] [] [] ∷ [])

results_are : Does results (ticks ∷ says (pos 1) ∷ says (pos 3) ∷ ticks ∷ says (pos 0) ∷ ends)
results_are = refl

-- f: PROC () RETURNS (INT); CAUSE busy; END ON ELSE RETURN 4; PUT_INT(0); END f; PUT_INT(f()); RETURN in the procedure's own
-- handler ends the call with that result
abbrev return_in_a_handler : CheckedTree
return_in_a_handler = with_bodies [] (put (expr 1 None (call (call_of 1 []))) ∷ []) (with_handler (on_else (plain (return_with (Some (taken (number (pos 4))))) ∷ put (number (pos 0)) ∷ [])) (procedure [] (Some int) [] [] (plain (cause 7) ∷ [])) ∷ [])

return_in_a_handler_does : Does return_in_a_handler (ticks ∷ says (pos 4) ∷ ends)
return_in_a_handler_does = refl

-- f: PROC () RETURNS (INT (0:5)); RETURN 9; END ON (RANGEFAIL): RESULT 3; END f; PUT_INT(f()); a result is tested where it is set
abbrev result_outside_its_mode : CheckedTree
result_outside_its_mode = with_bodies [] (put (expr 1 None (call (call_of 1 []))) ∷ []) (with_handler (on 1 (plain (set_result (within (pos 0) (pos 5) (number (pos 3)))) ∷ [])) (procedure [] (Some (range int (pos 0) (pos 5))) [] [] (plain (return_with (Some (within (pos 0) (pos 5) (number (pos 9))))) ∷ [])) ∷ [])

result_outside_its_mode_does : Does result_outside_its_mode (ticks ∷ says (pos 3) ∷ ends)
result_outside_its_mode_does = refl

-- p: PROC (a INT (0:5) INOUT); PUT_INT(a); END p; DCL x INT := 9; p(x) ON (RANGEFAIL): PUT_INT(1); END; what is copied in is
-- tested before the call makes its tick
abbrev copied_in_outside : CheckedTree
copied_in_outside = with_bodies (ints 1) (dcl 0 (number (pos 9)) ∷ statement false (perform (call_of 1 (both (own 0) (Some (record { low = (pos 0); high = (pos 5) })) (Some int_bounds) ∷ []))) (on 1 (put (number (pos 1)) ∷ [])) ∷ []) (procedure (passed_both ∷ []) None [] (local_row (range int (pos 0) (pos 5)) 0 1 ∷ []) (put x ∷ []) ∷ [])

copied_in_outside_does : Does copied_in_outside (says (pos 1) ∷ ends)
copied_in_outside_does = refl

-- M: MODULE CAUSE busy; PUT_INT(1); END ON (busy): PUT_INT(2); END M; N: MODULE PUT_INT(3); END N;
abbrev handler_of_a_module : CheckedTree
handler_of_a_module = program (body Outermost [] None [] [] (statement false (module_at (statement_nodes (plain (cause 7) ∷ put (number (pos 1)) ∷ []))) (on 7 (put (number (pos 2)) ∷ [])) ∷ plain (module_at (statement_nodes (put (number (pos 3)) ∷ []))) ∷ []) ∷ []) []

handler_of_a_module_does : Does handler_of_a_module (says (pos 2) ∷ says (pos 3) ∷ ends)
handler_of_a_module_does = refl

-- p: PROC () EXCEPTIONS (busy); CAUSE busy; END p; q: PROC (); CAUSE lost; END q; p() ON (busy): PUT_INT(1); END;
-- q() ON (lost): PUT_INT(2); END; where busy is exception 7 and lost 8
abbrev listed_exceptions : CheckedTree
listed_exceptions = with_bodies [] (statement false (perform (call_of 1 [])) (on 7 (put (number (pos 1)) ∷ [])) ∷ statement false (perform (call_of 2 [])) (on 8 (put (number (pos 2)) ∷ [])) ∷ []) (procedure [] None (7 ∷ []) [] (plain (cause 7) ∷ []) ∷ procedure [] None [] [] (plain (cause 8) ∷ []) ∷ [])

listed_exceptions_do : Does listed_exceptions (ticks ∷ says (pos 1) ∷ ticks ∷ raises (User 1))
listed_exceptions_do = refl

-- f: PROC (a INT); f(a + 1) ON (SPACEFAIL): PUT_INT(a); END; END f; f(1); the last of 250 frames has a = 249
abbrev deep_calls : CheckedTree
deep_calls = with_bodies [] (plain (perform (call_of 1 (in_value (taken (number (pos 1))) ∷ []))) ∷ []) (procedure (passed_in ∷ []) None [] (ints 1) (statement false (perform (call_of 1 (in_value (taken (op Add x (number (pos 1)))) ∷ []))) (on 5 (put x ∷ [])) ∷ []) ∷ [])

abbrev so_many_ticks : ℕ → List Deed → List Deed
so_many_ticks zero deeds = deeds
so_many_ticks (suc n) deeds = ticks ∷ so_many_ticks n deeds

deep_calls_do : Does deep_calls (so_many_ticks 249 (says (pos 249) ∷ ends))
deep_calls_do = refl

-- ---- shared locations and regions

abbrev place : ℕ → ℕ → ℕ → Place
place l first count = record { location = l; first = first; count = count }

abbrev three : ModeTree
three = array (range int (pos 1) (pos 3)) int words

abbrev element_of : ℕ → ExprTree → LocationTree
element_of l e = location (Shared l) (part_nodes (one_element e (record { low = (pos 1); high = (pos 3) }) 1 ∷ [])) 1

-- DCL n INT, a ARRAY (1:3) INT; DCL u, v INT := n; a(n) +:= n; PUT_INT(a(1)); where n is shared location 0, a 1, u 2, v 3
abbrev shared_locations : CheckedTree
shared_locations = program (main [] (plain do_nothing ∷ plain do_nothing ∷ plain (declare (Shared 2 ∷ Shared 3 ∷ []) (taken (value_in (shared 0)))) ∷ plain (update (element_of 1 (value_in (shared 0))) Add (value_in (shared 0)) (Some int_bounds)) ∷ put (value_in (element_of 1 (number (pos 1)))) ∷ []) ∷ []) (location_row int None ∷ location_row three None ∷ location_row int None ∷ location_row int None ∷ [])

shared_locations_do : Does shared_locations (asks (AsksRead (place 0 0 1)) (Value (pos 4 ∷ [])) ∷ asks (AsksWrite (place 2 0 1) (pos 4 ∷ [])) Done ∷ asks (AsksWrite (place 3 0 1) (pos 4 ∷ [])) Done ∷ asks (AsksRead (place 0 0 1)) (Value (pos 3 ∷ [])) ∷ asks (AsksRead (place 1 2 1)) (Value (pos 10 ∷ [])) ∷ asks (AsksRead (place 0 0 1)) (Value (pos 5 ∷ [])) ∷ asks (AsksWrite (place 1 2 1) (pos 15 ∷ [])) Done ∷ asks (AsksRead (place 1 0 1)) (Value (pos 0 ∷ [])) ∷ says (pos 0) ∷ ends)
shared_locations_do = refl

-- a(GET_INT()) := GET_INT(); twice; an index outside its bounds is told before the value is evaluated
abbrev order_of_an_assignment : CheckedTree
order_of_an_assignment = program (main [] (plain (set (element_of 0 (expr 1 None get_int)) (expr 1 None get_int)) ∷ plain (set (element_of 0 (expr 1 None get_int)) (expr 1 None get_int)) ∷ []) ∷ []) (location_row three None ∷ [])

order_of_an_assignment_is : Does order_of_an_assignment (asks Get (Value (pos 2 ∷ [])) ∷ asks Get (Value (pos 8 ∷ [])) ∷ asks (AsksWrite (place 0 1 1) (pos 8 ∷ [])) Done ∷ asks Get (Value (pos 4 ∷ [])) ∷ raises Rangefail)
order_of_an_assignment_is = refl

-- a critical procedure of region 0
abbrev critical_procedure : List Parameter → Option ModeTree → List ℕ → List LocalRowTree → List StatementTree → BodyRowTree
critical_procedure ps result listed rows ss = granted (body Procedure ps result listed rows ss)

-- R: REGION GRANT bump, twice, fails; DCL n INT := 0; bump: PROC (a INT OUT); n := n + 1; a := 6; END bump;
-- twice: PROC (); bump(n); END twice; fails: PROC () EXCEPTIONS (busy); CAUSE busy; END fails; END R;
-- M: MODULE .. BEGIN DCL x INT; bump(x); PUT_INT(x); END; twice(); fails() ON (busy): PUT_INT(7); END; END M;
abbrev region_with_procedures : CheckedTree
region_with_procedures = program (body Outermost [] None [] (ints 1) (plain (region_at 0 (statement_nodes (plain (declare (Shared 0 ∷ []) (taken (number (pos 0)))) ∷ []))) ∷ plain (module_at (statement_nodes (plain (perform (call_of 1 (given (own 0) (Some int_bounds) ∷ []))) ∷ put x ∷ plain (perform (call_of 2 [])) ∷ statement false (perform (call_of 3 [])) (on 7 (put (number (pos 7)) ∷ [])) ∷ []))) ∷ [])
    ∷ critical_procedure (passed_out ∷ []) None [] (ints 1) (plain (set (shared 0) (op Add (value_in (shared 0)) (number (pos 1)))) ∷ plain (set (own 0) (number (pos 6))) ∷ [])
    ∷ critical_procedure [] None [] [] (plain (perform (call_of 1 (given (shared 0) (Some int_bounds) ∷ []))) ∷ [])
    ∷ critical_procedure [] None (7 ∷ []) [] (plain (cause 7) ∷ [])
    ∷ []) (location_row int (Some 0) ∷ [])

region_with_procedures_does : Does region_with_procedures (asks (Enter 0) Done ∷ asks (AsksWrite (place 0 0 1) (pos 0 ∷ [])) Done ∷ asks (Leave 0) Done
    ∷ ticks ∷ asks (Enter 0) Done ∷ asks (AsksRead (place 0 0 1)) (Value (pos 0 ∷ [])) ∷ asks (AsksWrite (place 0 0 1) (pos 1 ∷ [])) Done ∷ asks (Leave 0) Done ∷ says (pos 6)
    ∷ ticks ∷ asks (Enter 0) Done ∷ ticks ∷ asks (AsksRead (place 0 0 1)) (Value (pos 1 ∷ [])) ∷ asks (AsksWrite (place 0 0 1) (pos 2 ∷ [])) Done ∷ asks (AsksWrite (place 0 0 1) (pos 6 ∷ [])) Done ∷ asks (Leave 0) Done
    ∷ ticks ∷ asks (Enter 0) Done ∷ asks (Leave 0) Done ∷ says (pos 7) ∷ ends)
region_with_procedures_does = refl

-- R: REGION GRANT fails; fails: PROC (); CAUSE busy; END fails; END R; M: MODULE .. fails(); END M; a region without
-- initialisations isn't entered for them
abbrev unlisted_in_a_region : CheckedTree
unlisted_in_a_region = program (body Outermost [] None [] [] (plain do_nothing ∷ plain (module_at (statement_nodes (plain (perform (call_of 1 [])) ∷ []))) ∷ []) ∷ critical_procedure [] None [] [] (plain (cause 7) ∷ []) ∷ []) []

unlisted_in_a_region_does : Does unlisted_in_a_region (ticks ∷ asks (Enter 0) Done ∷ raises (User 0))
unlisted_in_a_region_does = refl

-- B: REGION GRANT inner; inner: PROC (); PUT_INT(1); END inner; END B; A: REGION GRANT outer; SEIZE inner;
-- outer: PROC (); inner(); END outer; END A; M: MODULE .. outer(); END M; where A is region 1, and outer body 2
abbrev inside_of_region_1 : BodyRowTree → BodyRowTree
inside_of_region_1 b = record b { region = Some 1; critical = true }

abbrev region_in_region : CheckedTree
region_in_region = program (main [] (plain (perform (call_of 2 [])) ∷ []) ∷ critical_procedure [] None [] [] (put (number (pos 1)) ∷ []) ∷ inside_of_region_1 (procedure [] None [] [] (plain (perform (call_of 1 [])) ∷ [])) ∷ []) []

region_in_region_does : Does region_in_region (ticks ∷ asks (Enter 1) Done ∷ ticks ∷ asks (Enter 0) Done ∷ says (pos 1) ∷ asks (Leave 0) Done ∷ asks (Leave 1) Done ∷ ends)
region_in_region_does = refl

-- the regions are open in the order in which they were entered
open_in_order : open_behind [] (talk region_in_region 1 0 [] (Done ∷ Done ∷ []) 3).trace ≡ (1 ∷ 0 ∷ [])
open_in_order = refl

-- R: REGION DCL n INT (0:5) := GET_INT(); END ON (EMPTY): n := 2; END R; and the end of the input, and then a value outside
abbrev initialised_region : CheckedTree
initialised_region = program (body Outermost [] None [] [] (statement false (region_at 0 (statement_nodes (plain (declare (Shared 0 ∷ []) (within (pos 0) (pos 5) (expr 1 None get_int))) ∷ []))) (on 2 (plain (assign (shared 0) (within (pos 0) (pos 5) (number (pos 2)))) ∷ [])) ∷ []) ∷ []) (location_row (range int (pos 0) (pos 5)) (Some 0) ∷ [])

initialised_region_at_the_end : Does initialised_region (asks (Enter 0) Done ∷ asks Get (Fail Empty) ∷ asks (AsksWrite (place 0 0 1) (pos 2 ∷ [])) Done ∷ asks (Leave 0) Done ∷ ends)
initialised_region_at_the_end = refl

initialised_region_outside : Does initialised_region (asks (Enter 0) Done ∷ asks Get (Value (pos 9 ∷ [])) ∷ asks (Leave 0) Done ∷ raises Rangefail)
initialised_region_outside = refl

-- ---- where a process stands

-- behind the Enter of the second of two calls the process's own body comes first, and the innermost call last
stand_in_calls : (talk region_with_procedures 1 0 [] (Done ∷ Done ∷ Done ∷ []) 2).stand ≡ (record { body = 0; store = record { locals = (pos 0 ∷ []) ∷ []; result = [] } } ∷ record { body = 1; store = record { locals = (pos 0 ∷ []) ∷ []; result = [] } } ∷ [])
stand_in_calls = refl

-- at its own tick a call isn't open yet
stand_at_a_tick : (talk region_with_procedures 1 0 [] (Done ∷ Done ∷ Done ∷ []) 1).stand ≡ (record { body = 0; store = record { locals = (pos 0 ∷ []) ∷ []; result = [] } } ∷ [])
stand_at_a_tick = refl

-- nobody stands anywhere who has ended
stand_at_the_end : (talk unlisted_in_a_region 1 0 [] (Done ∷ Done ∷ []) 2).stand ≡ []
stand_at_the_end = refl

-- and before the answer to its End the call is open
stand_before_the_end : (talk unlisted_in_a_region 1 0 [] (Done ∷ []) 2).stand ≡ (record { body = 0; store = record { locals = []; result = [] } } ∷ record { body = 1; store = record { locals = []; result = [] } } ∷ [])
stand_before_the_end = refl

-- the regions that are open in a procedure of a region, and behind it
open_inside : open_behind [] (talk region_with_procedures 1 0 [] (Done ∷ Done ∷ Done ∷ Done ∷ []) 2).trace ≡ (0 ∷ [])
open_inside = refl

open_behind_it : open_behind [] (talk region_with_procedures 1 0 [] (Done ∷ Done ∷ Done ∷ Done ∷ Value (pos 0 ∷ []) ∷ Done ∷ Done ∷ []) 2).trace ≡ []
open_behind_it = refl
