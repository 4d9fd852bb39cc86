-- Actions: choices, loops, labels, exceptions, declarations and the end of a process.
use Rattle.std.specs.Prelude.{◌≡◌, refl, List, [], ◌∷◌, ℤ, pos, Some, None, true, false}
use Rattle.kernel_base.specs.declared.ends.Exc.TheVariants.{Overflow, Rangefail, Assertfail, User}
use Rattle.kernel_base.specs.declared.ends.How.TheVariants.{Stopped}
use Rattle.kernel_base.specs.declared.request.Request.TheVariants.{Get, End}
use Rattle.kernel_base.specs.declared.answer.Answer.TheVariants.{Value, Done}
use Rattle.modes.specs.ModeTree.{int, range}
use Rattle.checked_program.specs.declared.expr.Binary.TheVariants.{Add, Subtract, Equal, Less}
use Rattle.checked_program.specs.declared.expr.Routine.TheVariants.{Absolute, Successor}
use Rattle.program_trees.specs.ExprTree.{ExprTree, expr, constant, get_int}
use Rattle.program_trees.specs.StatementTree.{StatementTree, statement, ActionTree, ControlTree, ChoiceTree, OtherwiseNode, do_nothing, set_lowest, update, drop_routine, put_text, put_line, exit_from, assert_that, cause, stop, if_then, case_of, do_loop, begin_end, while_true, for_ever, for_members, for_steps, statement_nodes, choice_nodes, case_nodes, handled_nodes, handler, no_otherwise, otherwise}
use Rattle.program_trees.specs.ProgramTree.{CheckedTree}
use Rattle.source_meaning.proofs.Words.{Does, alone, asks, dcl, dcl_in, ends, int_bounds, ints, labelled, local_row, number, on, on_else, op, own, plain, put, puts, raises, says, set, ticks, value_in}

abbrev x : ExprTree
x = value_in (own 0)

abbrev y : ExprTree
y = value_in (own 1)

abbrev text : List ℤ → StatementTree
text zs = plain (put_text (expr 1 None (constant zs)))

-- the actions of a choice or of an alternative
abbrev choice : ExprTree → List StatementTree → ChoiceTree
choice e ss = record { condition = e; actions = statement_nodes ss }

-- a loop over these statements
abbrev do_for : ControlTree → List StatementTree → StatementTree
do_for c ss = plain (do_loop c (statement_nodes ss))

-- BEGIN PUT_INT(x); x := 5; DCL x INT; PUT_INT(x); END; ; a local has its lowest value from the start, and a declaration sets it
-- again
abbrev declared_late : CheckedTree
declared_late = alone (ints 1) (plain (begin_end (statement_nodes (put x ∷ plain (set (own 0) (number (pos 5))) ∷ plain (set_lowest (0 ∷ []) (pos 0 ∷ [])) ∷ put x ∷ []))) ∷ plain do_nothing ∷ [])

declared_late_does : Does declared_late (says (pos 0) ∷ says (pos 0) ∷ ends)
declared_late_does = refl

-- DCL x INT := 2; IF x = 1 THEN PUT_INT(1); ELSIF x = 2 THEN PUT_INT(2); ELSE PUT_INT(3); FI; IF x = 1 THEN PUT_INT(4); FI;
-- IF x = 3 THEN PUT_INT(5); ELSE PUT_INT(6); FI;
abbrev choices : CheckedTree
choices = alone (ints 1) (dcl 0 (number (pos 2)) ∷ plain (if_then (choice_nodes (choice (op Equal x (number (pos 1))) (put (number (pos 1)) ∷ []) ∷ choice (op Equal x (number (pos 2))) (put (number (pos 2)) ∷ []) ∷ [])) (statement_nodes (put (number (pos 3)) ∷ []))) ∷ plain (if_then (choice_nodes (choice (op Equal x (number (pos 1))) (put (number (pos 4)) ∷ []) ∷ [])) (statement_nodes [])) ∷ plain (if_then (choice_nodes (choice (op Equal x (number (pos 3))) (put (number (pos 5)) ∷ []) ∷ [])) (statement_nodes (put (number (pos 6)) ∷ []))) ∷ [])

choices_do : Does choices (says (pos 2) ∷ says (pos 6) ∷ ends)
choices_do = refl

abbrev case_on : ExprTree → OtherwiseNode → ActionTree
case_on e o = case_of e (case_nodes (record { labels = record { low = (pos 1); high = (pos 1) } ∷ record { low = (pos 3); high = (pos 5) } ∷ []; actions = statement_nodes (put (number (pos 10)) ∷ []) } ∷ record { labels = record { low = (pos 4); high = (pos 6) } ∷ []; actions = statement_nodes (put (number (pos 11)) ∷ []) } ∷ [])) o

-- DCL x INT := 4; CASE x OF (1, 3 : 5): PUT_INT(10); (4 : 6): PUT_INT(11); ESAC; and so of x + 2; of 7 with ELSE; of 2 without
abbrev cases : CheckedTree
cases = alone (ints 1) (dcl 0 (number (pos 4)) ∷ plain (case_on x no_otherwise) ∷ plain (case_on (op Add x (number (pos 2))) no_otherwise) ∷ plain (case_on (op Add x (number (pos 3))) (otherwise (statement_nodes (put (number (pos 12)) ∷ [])))) ∷ plain (case_on (op Subtract x (number (pos 2))) no_otherwise) ∷ [])

cases_do : Does cases (says (pos 10) ∷ says (pos 11) ∷ says (pos 12) ∷ raises Rangefail)
cases_do = refl

-- DCL x INT; DO WHILE x < 2; PUT_INT(x); x +:= 1; OD;
abbrev while_loop : CheckedTree
while_loop = alone (ints 1) (plain (set_lowest (0 ∷ []) (pos 0 ∷ [])) ∷ do_for (while_true (op Less x (number (pos 2)))) (put x ∷ plain (update (own 0) Add (number (pos 1)) (Some int_bounds)) ∷ []) ∷ [])

while_loop_does : Does while_loop (says (pos 0) ∷ ticks ∷ says (pos 1) ∷ ticks ∷ ends)
while_loop_does = refl

-- DO FOR x := 1 BY 2 TO 4; PUT_INT(x); OD; the counter is 1 and 3
abbrev counting_up : CheckedTree
counting_up = alone (ints 1) (do_for (for_steps 0 (number (pos 1)) (Some (number (pos 2))) (number (pos 4)) false None) (put x ∷ []) ∷ [])

counting_up_does : Does counting_up (says (pos 1) ∷ ticks ∷ says (pos 3) ∷ ticks ∷ ends)
counting_up_does = refl

-- DO FOR x := 2 DOWN TO 1; PUT_INT(x); OD; DO FOR x := 2 TO 1; PUT_INT(x); OD;
abbrev counting_down : CheckedTree
counting_down = alone (ints 1) (do_for (for_steps 0 (number (pos 2)) None (number (pos 1)) true None) (put x ∷ []) ∷ do_for (for_steps 0 (number (pos 2)) None (number (pos 1)) false None) (put x ∷ []) ∷ [])

counting_down_does : Does counting_down (says (pos 2) ∷ ticks ∷ says (pos 1) ∷ ticks ∷ ends)
counting_down_does = refl

-- DO FOR x := 2147483646 TO 2147483647; PUT_INT(x - 2147483640); OD; the next value passes the end without OVERFLOW
abbrev counting_to_the_greatest : CheckedTree
counting_to_the_greatest = alone (ints 1) (do_for (for_steps 0 (number (pos 2147483646)) None (number (pos 2147483647)) false None) (put (op Subtract x (number (pos 2147483640))) ∷ []) ∷ [])

counting_to_the_greatest_does : Does counting_to_the_greatest (says (pos 6) ∷ ticks ∷ says (pos 7) ∷ ticks ∷ ends)
counting_to_the_greatest_does = refl

-- DO FOR x := 1 TO 9 WHILE x < 3; PUT_INT(x); OD; the condition is tested with the counter set
abbrev counting_while : CheckedTree
counting_while = alone (ints 1) (do_for (for_steps 0 (number (pos 1)) None (number (pos 9)) false (Some (op Less x (number (pos 3))))) (put x ∷ []) ∷ [])

counting_while_does : Does counting_while (says (pos 1) ∷ ticks ∷ says (pos 2) ∷ ticks ∷ ends)
counting_while_does = refl

-- DCL y INT; DO FOR x := GET_INT() BY y TO GET_INT(); OD; the step is tested before the end is evaluated
abbrev step_below_one : CheckedTree
step_below_one = alone (ints 2) (plain (set_lowest (1 ∷ []) (pos 0 ∷ [])) ∷ do_for (for_steps 0 (expr 1 None get_int) (Some y) (expr 1 None get_int) false None) [] ∷ [])

step_below_one_does : Does step_below_one (asks Get (Value (pos 5 ∷ [])) ∷ raises Rangefail)
step_below_one_does = refl

-- DO FOR x IN [1, 3] WHILE x < 4; PUT_INT(x); OD; members are counted from 1, so 1 and 3 are bits 0 and 2
abbrev over_members : CheckedTree
over_members = alone (ints 1) (do_for (for_members 0 (expr 1 None (constant (pos 5 ∷ []))) (pos 1) (Some (op Less x (number (pos 4))))) (put x ∷ []) ∷ [])

over_members_does : Does over_members (says (pos 1) ∷ ticks ∷ says (pos 3) ∷ ticks ∷ ends)
over_members_does = refl

-- a: DO FOR EVER; b: BEGIN EXIT b; PUT_INT(1); END b; PUT_INT(2); c: DO FOR EVER; EXIT a; OD c; OD a; PUT_INT(3);
abbrev labels : CheckedTree
labels = alone [] (labelled (do_loop for_ever (statement_nodes (labelled (begin_end (statement_nodes (plain (exit_from 0) ∷ put (number (pos 1)) ∷ []))) ∷ put (number (pos 2)) ∷ labelled (do_loop for_ever (statement_nodes (plain (exit_from 1) ∷ []))) ∷ []))) ∷ put (number (pos 3)) ∷ [])

labels_do : Does labels (says (pos 2) ∷ says (pos 3) ∷ ends)
labels_do = refl

-- a: BEGIN ASSERT FALSE; END ON (ASSERTFAIL): EXIT a; END a; PUT_INT(1); the label encloses the handler
abbrev label_around_a_handler : CheckedTree
label_around_a_handler = alone [] (statement true (begin_end (statement_nodes (plain (assert_that (number (pos 0))) ∷ []))) (on 3 (plain (exit_from 0) ∷ put (number (pos 9)) ∷ [])) ∷ put (number (pos 1)) ∷ [])

label_around_a_handler_does : Does label_around_a_handler (says (pos 1) ∷ ends)
label_around_a_handler_does = refl

-- CAUSE lost ON (busy): PUT_INT(1); ELSE PUT_INT(2); END; BEGIN CAUSE busy ON (busy): CAUSE lost; END; END ON ELSE PUT_INT(3);
-- END; CAUSE busy; PUT_INT(4); where lost, which is the first in the text, is exception 7 and busy 8
abbrev causes : CheckedTree
causes = alone [] (statement false (cause 7) (handler (handled_nodes (record { numbers = 8 ∷ []; actions = statement_nodes (put (number (pos 1)) ∷ []) } ∷ [])) (otherwise (statement_nodes (put (number (pos 2)) ∷ [])))) ∷ statement false (begin_end (statement_nodes (statement false (cause 8) (on 8 (plain (cause 7) ∷ [])) ∷ []))) (on_else (put (number (pos 3)) ∷ [])) ∷ plain (cause 8) ∷ put (number (pos 4)) ∷ [])

causes_do : Does causes (says (pos 2) ∷ says (pos 3) ∷ raises (User 1))
causes_do = refl

-- ASSERT TRUE; ASSERT FALSE; PUT_INT(1);
abbrev assertions : CheckedTree
assertions = alone [] (plain (assert_that (number (pos 1))) ∷ plain (assert_that (number (pos 0))) ∷ put (number (pos 1)) ∷ [])

assertions_do : Does assertions (raises Assertfail)
assertions_do = refl

-- PUT_TEXT("a"); PUT_NL(); ABS(1); STOP; PUT_TEXT("b");
abbrev stopping : CheckedTree
stopping = alone [] (text (pos 97 ∷ []) ∷ plain put_line ∷ plain (drop_routine Absolute (number (pos 1))) ∷ plain stop ∷ text (pos 98 ∷ []) ∷ [])

stopping_does : Does stopping (puts (97 ∷ []) ∷ puts (10 ∷ []) ∷ asks (End Stopped) Done ∷ [])
stopping_does = refl

-- DCL x INT (0:9) := 9; SUCC(x); of a routine that stands as an action the value is dropped, and not its exception
abbrev dropped_routine : CheckedTree
dropped_routine = alone (local_row (range int (pos 0) (pos 9)) 0 1 ∷ []) (dcl_in (pos 0) (pos 9) 0 (number (pos 9)) ∷ plain (drop_routine (Successor (pos 9)) x) ∷ [])

dropped_routine_does : Does dropped_routine (raises Overflow)
dropped_routine_does = refl
