-- The code of short statements, worked out by hand from the tables of `docs/MACHINE.md`.
use Rattle.std.specs.Prelude.{◌≡◌, refl, ℕ, true, false, List, [], ◌∷◌, ℤ, pos, Some, None}
use Rattle.code_types.specs.declared.instr.Instr.{Instr}
use Rattle.code_types.specs.declared.instr.Instr.TheVariants as i
use Rattle.code_types.specs.declared.code.Handler.{Handler}
use Rattle.modes.specs.ModeTree.{ModeTree, int, boolean, instance, range}
use Rattle.modes.specs.Bounds.{bounds_of}
use Rattle.checked_program.specs.declared.expr.Base.TheVariants.{Shared, Local}
use Rattle.checked_program.specs.declared.expr.Binary.TheVariants.{Add, Less}
use Rattle.checked_program.specs.declared.program.Passing.TheVariants.{InOut}
use Rattle.checked_program.specs.declared.program.Sort.{Sort}
use Rattle.checked_program.specs.declared.program.Sort.TheVariants.{Outermost, Procedure}
use Rattle.program_trees.specs.ExprTree.{ExprTree, expr, OperationTree, constant, contents, binary, ReceivedTree, received, no_received, more_received, no_parts, LocationTree, location, element, called, no_arguments, inout_argument}
use Rattle.program_trees.specs.StatementTree.{StatementTree, statement, ActionTree, declare, set_lowest, module_at, region_at, update, perform, put_int, put_line, exit_from, return_with, assert_that, cause, stop, send, signal, if_then, case_of, do_loop, begin_end, delay_case, receive_buffers, for_ever, for_members, for_steps, StatementNodes, no_statements, statement_nodes, no_choices, more_choices, no_cases, more_cases, no_delays, more_delays, no_receives, more_receives, no_otherwise, otherwise, no_handled, more_handled, HandlerNode, no_handler, handler}
use Rattle.program_trees.specs.ProgramTree.{LocalRowTree, BodyRowTree, CheckedTree}
use Rattle.code_scheme.specs.StatementSite.{Standing}
use Rattle.code_scheme.specs.StatementCode.{statement_code}
use Rattle.code_scheme.specs.StatementRows.{statement_rows, row_for}
use Rattle.code_scheme.specs.BodyItems.{items_code}
use Rattle.code_scheme.specs.BodyCode.{code_of}

-- ---- words

abbrev row : ModeTree → ℕ → ℕ → LocalRowTree
row m first count = record { name = []; mode = m; first = first; count = count }

abbrev of_int : OperationTree → ExprTree
of_int o = expr 1 (bounds_of int) o

abbrev number : ℤ → ExprTree
number z = of_int (constant (z ∷ []))

abbrev local : ℕ → LocationTree
local k = location (Local k) no_parts 1

abbrev shared : ℕ → LocationTree
shared l = location (Shared l) no_parts 1

-- the element of the array in local 3 at an index from 1 to 3
abbrev element_at : ExprTree → LocationTree
element_at e = location (Local 3) (element e (record { low = pos 1; high = pos 3 }) 1 no_parts) 1

abbrev value_in : ℕ → ExprTree
value_in k = of_int (contents (local k))

abbrev below : ExprTree → ExprTree → ExprTree
below a b = expr 1 (bounds_of boolean) (binary Less a b)

abbrev taken : ExprTree → ReceivedTree
taken e = received e (bounds_of int)

abbrev plain : ActionTree → StatementTree
plain a = statement false a no_handler

abbrev put : ℤ → StatementTree
put z = plain (put_int (number z))

abbrev do_all : List StatementTree → StatementNodes
do_all ss = statement_nodes ss

abbrev leave : StatementTree
leave = plain (exit_from 0)

-- a body with three locals of INT, an array of three and an instance
abbrev body_with : Sort → StatementNodes → HandlerNode → BodyRowTree
body_with sort ss h = record {
  definition = None;
  name = [];
  sort = sort;
  region = None;
  critical = false;
  parameters = [];
  result = None;
  listed = [];
  locals = row int 0 1 ∷ row int 1 1 ∷ row int 2 1 ∷ row int 3 3 ∷ row instance 6 1 ∷ [];
  statements = ss;
  handler = h;
}

abbrev program_with : List BodyRowTree → CheckedTree
program_with bodies = record {
  locations = [];
  bodies = bodies;
  regions = 1;
  events = [];
  buffers = [];
  signals = [];
  exceptions = [] ∷ [] ∷ [];
  reads_input = false;
  size = 0;
  definitions = [];
  modulions = [];
}

abbrev outer : BodyRowTree
outer = body_with Outermost no_statements no_handler

abbrev here : Standing
here = record { site = record { program = program_with (outer ∷ []); body = outer }; free = 7; exits = [] }

abbrev code : StatementTree → ℕ → List Instr
code s at = statement_code here s at

abbrev rows : StatementTree → ℕ → List Handler
rows s at = statement_rows here.site s at

-- ---- actions

two_names : code (plain (declare (Local 0 ∷ Shared 4 ∷ []) (taken (number (pos 5))))) 0 ≡ i.Push (pos 5) ∷ i.SetLocal 7 1 ∷ i.Local 7 1 ∷ i.SetLocal 0 1 ∷ i.Push (pos 0) ∷ i.Local 7 1 ∷ i.Write 4 0 1 ∷ []
two_names = refl

one_shared_name : code (plain (declare (Shared 4 ∷ []) (taken (number (pos 5))))) 0 ≡ i.Push (pos 0) ∷ i.Push (pos 5) ∷ i.Write 4 0 1 ∷ []
one_shared_name = refl

-- the element is of INT (0 : 9), and the sum of INT
added_to_an_element :
    code (plain (update (element_at (value_in 0)) Add (number (pos 1)) (Some (record { low = pos 0; high = pos 9 })))) 0
    ≡ i.Local 0 1 ∷ i.Index (pos 1) (pos 3) 1 ∷ i.Copy 1 ∷ i.LocalAt 3 1 ∷ i.Push (pos 1) ∷ i.Add ∷ i.Check (pos 0) (pos 9) ∷ i.SetLocalAt 3 1 ∷ []
added_to_an_element = refl

asserted : code (plain (assert_that (below (value_in 0) (value_in 1)))) 10 ≡ i.Local 0 1 ∷ i.Local 1 1 ∷ i.Less 1 ∷ i.Unless 15 ∷ i.Jump 16 ∷ i.Raise 3 ∷ []
asserted = refl

-- the signal goes to the instance in local 4
sent_to : code (plain (send (signal 2 (more_received (taken (number (pos 5))) no_received) (Some (of_int (contents (local 4))))) 3)) 0 ≡ i.Push (pos 5) ∷ i.Local 6 1 ∷ i.Signal 2 1 true 3 ∷ []
sent_to = refl

-- ---- choices

-- behind the first part control goes on behind all; the second one doesn't go on, and has no jump
choosing :
    code (statement true (if_then (more_choices (below (value_in 0) (value_in 1)) (do_all (put (pos 1) ∷ [])) (more_choices (below (value_in 1) (value_in 0)) (do_all (plain stop ∷ put (pos 2) ∷ [])) no_choices)) (do_all (put (pos 3) ∷ []))) no_handler) 20
    ≡ i.Local 0 1 ∷ i.Local 1 1 ∷ i.Less 1 ∷ i.Unless 27 ∷ i.Push (pos 1) ∷ i.PutInt ∷ i.Jump 34
    ∷ i.Local 1 1 ∷ i.Local 0 1 ∷ i.Less 1 ∷ i.Unless 32 ∷ i.Stop
    ∷ i.Push (pos 3) ∷ i.PutInt ∷ []
choosing = refl

-- no jump stands behind the last part
choosing_without_else :
    code (plain (if_then (more_choices (below (value_in 0) (value_in 1)) (do_all (put (pos 1) ∷ [])) no_choices) no_statements)) 20
    ≡ i.Local 0 1 ∷ i.Local 1 1 ∷ i.Less 1 ∷ i.Unless 26 ∷ i.Push (pos 1) ∷ i.PutInt ∷ []
choosing_without_else = refl

-- labels 1 and 3 to 5, and RANGEFAIL for others
selecting :
    code (plain (case_of (value_in 0) (more_cases (record { low = pos 1; high = pos 1 } ∷ record { low = pos 3; high = pos 5 } ∷ []) (do_all (put (pos 1) ∷ [])) no_cases) no_otherwise)) 0
    ≡ i.Local 0 1 ∷ i.SetLocal 7 1
    ∷ i.Local 7 1 ∷ i.Push (pos 1) ∷ i.Same 1
    ∷ i.Local 7 1 ∷ i.Push (pos 3) ∷ i.Less 1 ∷ i.Push (pos 5) ∷ i.Local 7 1 ∷ i.Less 1 ∷ i.Or ∷ i.Not
    ∷ i.Or ∷ i.Unless 18 ∷ i.Push (pos 1) ∷ i.PutInt ∷ i.Jump 19
    ∷ i.Raise 1 ∷ []
selecting = refl

-- ---- loops

-- the loop that is left by an EXIT of its label
for_ever_with_exit :
    code (statement true (do_loop for_ever (do_all (plain (if_then (more_choices (below (value_in 0) (value_in 1)) (do_all (leave ∷ [])) no_choices) no_statements) ∷ []))) no_handler) 10
    ≡ i.Local 0 1 ∷ i.Local 1 1 ∷ i.Less 1 ∷ i.Unless 15 ∷ i.Jump 16 ∷ i.Again 10 ∷ []
for_ever_with_exit = refl

counting_up :
    code (plain (do_loop (for_steps 0 (number (pos 1)) None (number (pos 9)) false None) (do_all (put (pos 1) ∷ [])))) 100
    ≡ i.Push (pos 1) ∷ i.Push (pos 9) ∷ i.SetLocal 7 2
    ∷ i.Local 8 1 ∷ i.Local 7 1 ∷ i.Less 1 ∷ i.Unless 108 ∷ i.Jump 122
    ∷ i.Local 7 1 ∷ i.SetLocal 0 1 ∷ i.Jump 119
    ∷ i.Local 0 1 ∷ i.Local 8 1 ∷ i.Less 1 ∷ i.Unless 122 ∷ i.Local 0 1 ∷ i.Push (pos 1) ∷ i.Add ∷ i.SetLocal 0 1
    ∷ i.Push (pos 1) ∷ i.PutInt ∷ i.Again 111 ∷ []
counting_up = refl

-- the step is in local 1, and kept in scratch local 8
counting_down_by :
    code (plain (do_loop (for_steps 0 (number (pos 9)) (Some (value_in 1)) (number (pos 1)) true (Some (below (value_in 0) (value_in 1)))) no_statements)) 0
    ≡ i.Push (pos 9) ∷ i.Local 1 1 ∷ i.Check (pos 1) (pos 2147483647) ∷ i.Push (pos 1) ∷ i.SetLocal 7 3
    ∷ i.Local 7 1 ∷ i.Local 9 1 ∷ i.Less 1 ∷ i.Unless 10 ∷ i.Jump 46
    ∷ i.Push (pos 2147483647) ∷ i.Local 8 1 ∷ i.Push (pos 1) ∷ i.Sub ∷ i.Sub ∷ i.Local 9 1 ∷ i.Less 1 ∷ i.Unless 24
    ∷ i.Push (pos 2147483647) ∷ i.Local 8 1 ∷ i.Push (pos 1) ∷ i.Sub ∷ i.Sub ∷ i.SetLocal 9 1
    ∷ i.Local 9 1 ∷ i.Local 8 1 ∷ i.Push (pos 1) ∷ i.Sub ∷ i.Add ∷ i.SetLocal 9 1
    ∷ i.Local 7 1 ∷ i.SetLocal 0 1 ∷ i.Jump 41
    ∷ i.Local 9 1 ∷ i.Local 0 1 ∷ i.Less 1 ∷ i.Unless 46 ∷ i.Local 0 1 ∷ i.Local 8 1 ∷ i.Sub ∷ i.SetLocal 0 1
    ∷ i.Local 0 1 ∷ i.Local 1 1 ∷ i.Less 1 ∷ i.Unless 46 ∷ i.Again 33 ∷ []
counting_down_by = refl

-- members from 1 on
for_each_member :
    code (plain (do_loop (for_members 0 (expr 1 None (constant (pos 5 ∷ []))) (pos 1) None) (do_all (put (pos 1) ∷ [])))) 0
    ≡ i.Push (pos 5) ∷ i.SetLocal 7 1
    ∷ i.Local 7 1 ∷ i.Card ∷ i.Unless 19
    ∷ i.Local 7 1 ∷ i.Copy 1 ∷ i.Least ∷ i.Copy 1 ∷ i.Push (pos 1) ∷ i.Add ∷ i.SetLocal 0 1 ∷ i.Copy 1 ∷ i.Span ∷ i.BitMinus ∷ i.SetLocal 7 1
    ∷ i.Push (pos 1) ∷ i.PutInt ∷ i.Again 2 ∷ []
for_each_member = refl

-- ---- waits

-- SET is an element, whose offset is kept in scratch local 7; the alternative is in 8, and the instance in 9
waiting_for_events :
    code (plain (delay_case (Some (element_at (value_in 0))) 2 (more_delays (3 ∷ 4 ∷ []) (do_all (put (pos 1) ∷ [])) (more_delays (5 ∷ []) no_statements no_delays)))) 0
    ≡ i.Local 0 1 ∷ i.Index (pos 1) (pos 3) 1 ∷ i.SetLocal 7 1
    ∷ i.Thing 3 ∷ i.Push (pos 0) ∷ i.Thing 4 ∷ i.Push (pos 0) ∷ i.Thing 5 ∷ i.Push (pos 1) ∷ i.Delay 3 2 ∷ i.SetLocal 8 2
    ∷ i.Local 7 1 ∷ i.Local 9 1 ∷ i.SetLocalAt 3 1
    ∷ i.Local 8 1 ∷ i.Push (pos 0) ∷ i.Same 1 ∷ i.Unless 21 ∷ i.Push (pos 1) ∷ i.PutInt ∷ i.Jump 25
    ∷ i.Local 8 1 ∷ i.Push (pos 1) ∷ i.Same 1 ∷ i.Unless 25 ∷ []
waiting_for_events = refl

receiving_or_else :
    code (plain (receive_buffers (Some (local 4)) (more_receives 6 (1 ∷ []) (do_all (put (pos 1) ∷ [])) no_receives) (otherwise (do_all (put (pos 2) ∷ []))))) 0
    ≡ i.Thing 6 ∷ i.Push (pos 1) ∷ i.Push (pos 1) ∷ i.Take 1 true ∷ i.SetLocal 7 2
    ∷ i.Local 7 1 ∷ i.Push (pos 1) ∷ i.Less 1 ∷ i.Unless 18
    ∷ i.Local 8 1 ∷ i.SetLocal 6 1
    ∷ i.Local 7 1 ∷ i.Push (pos 0) ∷ i.Same 1 ∷ i.Unless 18 ∷ i.Push (pos 1) ∷ i.PutInt ∷ i.Jump 20
    ∷ i.Push (pos 2) ∷ i.PutInt ∷ []
receiving_or_else = refl

-- ---- handlers

-- the label encloses the handler; control doesn't come from CAUSE
abbrev handled : StatementTree
handled = statement true (cause 7) (handler (more_handled (7 ∷ 8 ∷ []) (do_all (put (pos 1) ∷ [])) (more_handled (1 ∷ []) (do_all (leave ∷ [])) no_handled)) (otherwise (do_all (put (pos 2) ∷ []))))

handled_does : code handled 30 ≡ i.Raise 7 ∷ i.Push (pos 1) ∷ i.PutInt ∷ i.Jump 37 ∷ i.Jump 37 ∷ i.Push (pos 2) ∷ i.PutInt ∷ []
handled_does = refl

handled_by : rows handled 30 ≡ row_for 30 31 (7 ∷ 8 ∷ []) false 31 ∷ row_for 30 31 (1 ∷ []) false 34 ∷ row_for 30 31 [] true 35 ∷ []
handled_by = refl

-- rows stand innermost first, those of the actions behind those of what is guarded
abbrev nested : StatementTree
nested = statement false (begin_end (do_all (statement false put_line (handler (more_handled (0 ∷ []) no_statements no_handled) no_otherwise) ∷ []))) (handler no_handled (otherwise (do_all (statement false put_line (handler no_handled (otherwise no_statements)) ∷ []))))

nested_does : code nested 0 ≡ i.PutLine ∷ i.Jump 3 ∷ i.PutLine ∷ []
nested_does = refl

nested_by : rows nested 0 ≡ row_for 0 1 (0 ∷ []) false 1 ∷ row_for 0 1 [] true 2 ∷ row_for 2 3 [] true 3 ∷ []
nested_by = refl

-- ---- modulions

-- a region whose initialisation causes exception 8: eight exceptions can arise
abbrev region : StatementTree
region = plain (module_at (do_all (plain (region_at 0 (do_all (plain (cause 8) ∷ []))) ∷ put (pos 1) ∷ [])))

region_does :
    items_code here (do_all (region ∷ [])) 0
    ≡ i.Enter 0 ∷ i.Raise 8 ∷ i.Leave 0 ∷ i.Jump 20
    ∷ i.Leave 0 ∷ i.Raise 0 ∷ i.Leave 0 ∷ i.Raise 1 ∷ i.Leave 0 ∷ i.Raise 2 ∷ i.Leave 0 ∷ i.Raise 3
    ∷ i.Leave 0 ∷ i.Raise 4 ∷ i.Leave 0 ∷ i.Raise 5 ∷ i.Leave 0 ∷ i.Raise 6 ∷ i.Leave 0 ∷ i.Raise 8
    ∷ i.Push (pos 1) ∷ i.PutInt ∷ []
region_does = refl

-- ---- programs

-- The outermost process calls a critical procedure of region 0, whose parameter is INOUT and whose result is of INT (2 : 9). It
-- lists exception 8, and causes it.
abbrev critical : BodyRowTree
critical = record {
  definition = None;
  name = [];
  sort = Procedure;
  region = Some 0;
  critical = true;
  parameters = record { passing = InOut } ∷ [];
  result = Some (range int (pos 2) (pos 9));
  listed = 8 ∷ [];
  locals = row int 0 1 ∷ [];
  statements = do_all (plain (if_then (more_choices (below (value_in 0) (number (pos 5))) (do_all (plain (cause 8) ∷ [])) no_choices) no_statements) ∷ plain (return_with (Some (taken (number (pos 3))))) ∷ []);
  handler = no_handler;
}

abbrev calling : BodyRowTree
calling = body_with Outermost (do_all (plain (set_lowest (0 ∷ []) (pos 0 ∷ [])) ∷ plain (perform (called 1 (inout_argument (local 0) None None no_arguments))) ∷ [])) no_handler

program_does : code_of (program_with (calling ∷ critical ∷ [])) ≡ record {
  instrs = i.Local 0 1 ∷ i.Call 1 ∷ i.SetLocal 0 1 ∷ i.Pop 1 ∷ i.Finish
      ∷ i.Push (pos 2) ∷ i.SetLocal 1 1 ∷ i.Enter 0
      ∷ i.Local 0 1 ∷ i.Push (pos 5) ∷ i.Less 1 ∷ i.Unless 13 ∷ i.Raise 8
      ∷ i.Push (pos 3) ∷ i.SetLocal 1 1 ∷ i.Leave 0 ∷ i.Local 1 1 ∷ i.Local 0 1 ∷ i.Return
      ∷ i.Leave 0 ∷ i.Raise 8 ∷ [];
  handlers = row_for 8 19 (8 ∷ []) false 19 ∷ [];
  bodies = record { first = 0; params = 0; locals = 7; results = 0; height = 2; listed = [] }
      ∷ record { first = 5; params = 1; locals = 2; results = 2; height = 2; listed = 8 ∷ [] } ∷ [];
}
program_does = refl
