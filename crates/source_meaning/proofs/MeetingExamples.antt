-- Processes, events, buffers and signals.
use Rattle.std.specs.Prelude.{◌≡◌, refl, ℕ, List, [], ◌∷◌, pos, Some, None, true, false}
use Rattle.kernel_base.specs.declared.ends.Exc.TheVariants.{Rangefail, Empty, Delayfail, Spacefail, Extinct}
use Rattle.kernel_base.specs.declared.request.Request.TheVariants.{Delay, Continue, SendBuffer, ReceiveBuffer, SendSignal, ReceiveSignal, Start, Get, Write}
use Rattle.kernel_base.specs.declared.answer.Answer.TheVariants.{Value, Done, Woken, Got, Otherwise, Instance, Fail, Chose, Handed, Stored}
use Rattle.modes.specs.ModeTree.{ModeTree, int, instance, range, chars, array, words}
use Rattle.checked_program.specs.declared.expr.Base.TheVariants.{Local}
use Rattle.checked_program.specs.declared.expr.Binary.TheVariants.{Subtract, Equal}
use Rattle.checked_program.specs.declared.expr.Routine.TheVariants.{Number}
use Rattle.checked_program.specs.declared.program.Sort.TheVariants.{Process}
use Rattle.checked_program.specs.declared.program.Passing.TheVariants.{In}
use Rattle.kernel_base.specs.declared.request.Alternative.{Alternative}
use Rattle.world_model.specs.Session.{Ask}
use Rattle.program_trees.specs.ExprTree.{ExprTree, expr, own_instance, contents, receive, start, get_int, received, received_nodes, part_nodes, one_element, LocationTree, location, no_parts, started}
use Rattle.program_trees.specs.StatementTree.{StatementTree, statement, NumbersTree, ReceiveTree, put_text, cause, start_of, delay, continue_at, send, to_buffer, signal, delay_case, receive_buffers, receive_signals, statement_nodes, delay_nodes, receive_nodes, no_otherwise, otherwise}
use Rattle.program_trees.specs.ProgramTree.{CheckedTree}
use Rattle.source_meaning.specs.Talk.{talk}
use Rattle.source_meaning.proofs.Words.{Does, alone, asks, body, dcl_any, ends, ints, local_row, location_row, main, number, of, on, op, own, plain, program, put, puts, raises, says, shared, taken, trace_of, value_in, with_handler, within}

abbrev x : ExprTree
x = value_in (own 0)

abbrev y : ExprTree
y = value_in (own 1)

abbrev first_of : ℕ → Alternative
first_of thing = record { thing = thing; number = 0 }

abbrev listed : ℕ → ℕ → Alternative
listed thing number = record { thing = thing; number = number }

-- one or the other event, and what is done then
abbrev woken_by : List ℕ → List StatementTree → NumbersTree
woken_by events ss = record { numbers = events; actions = statement_nodes ss }

-- a buffer or a signal, the names that are received, and what is done then
abbrev got_from : ℕ → List ℕ → List StatementTree → ReceiveTree
got_from source names ss = record { source = source; received = names; actions = statement_nodes ss }

abbrev twice : StatementTree → List StatementTree
twice s = s ∷ s ∷ []

-- DELAY e PRIORITY 5; CONTINUE f; DELAY e ON (DELAYFAIL): PUT_INT(1); END; where e is event 0 and f event 1
abbrev events : CheckedTree
events = alone [] (plain (delay 0 5) ∷ plain (continue_at 1) ∷ statement false (delay 0 0) (on 4 (put (number (pos 1)) ∷ [])) ∷ [])

events_do : Does events (asks (Delay (first_of 0 ∷ []) 5) (Woken 0 3) ∷ asks (Continue 1) (Chose (Some 2)) ∷ asks (Delay (first_of 0 ∷ []) 0) (Fail Delayfail) ∷ says (pos 1) ∷ ends)
events_do = refl

-- DCL a ARRAY (1:3) INSTANCE, where a is local 1; DELAY CASE SET a(GET_INT()) PRIORITY 2; (e, f): PUT_INT(1); (g): PUT_INT(2);
-- ESAC; PUT_INT(NUM(a(2) = NULL));
abbrev crowd : ModeTree
crowd = array (range int (pos 1) (pos 3)) instance words

abbrev of_crowd : ExprTree → LocationTree
of_crowd e = location (Local 1) (part_nodes (one_element e (record { low = (pos 1); high = (pos 3) }) 1 ∷ [])) 1

abbrev delay_cases : CheckedTree
delay_cases = alone (local_row int 0 1 ∷ local_row crowd 1 3 ∷ []) (plain (delay_case (Some (of_crowd (expr 1 None get_int))) 2 (delay_nodes (woken_by (0 ∷ 1 ∷ []) (put (number (pos 1)) ∷ []) ∷ woken_by (2 ∷ []) (put (number (pos 2)) ∷ []) ∷ []))) ∷ put (of Number (op Equal (value_in (of_crowd (number (pos 2)))) (number (pos 0)))) ∷ [])

delay_cases_do : Does delay_cases (asks Get (Value (pos 2 ∷ [])) ∷ asks (Delay (listed 0 0 ∷ listed 1 0 ∷ listed 2 1 ∷ []) 2) (Woken 1 7) ∷ says (pos 2) ∷ says (pos 0) ∷ ends)
delay_cases_do = refl

-- SEND b (GET_INT()) PRIORITY 5; SEND b (300); where b is buffer 1 of INT (0:255)
abbrev buffer_sends : CheckedTree
buffer_sends = alone [] (plain (send (to_buffer 1 (within (pos 0) (pos 255) (expr 1 None get_int))) 5) ∷ plain (send (to_buffer 1 (within (pos 0) (pos 255) (number (pos 300)))) 0) ∷ [])

buffer_sends_do : Does buffer_sends (asks Get (Value (pos 30 ∷ [])) ∷ asks (SendBuffer 1 (pos 30 ∷ []) 5) Stored ∷ raises Rangefail)
buffer_sends_do = refl

-- SEND s (1, 2) TO i; SEND s (1, 2); SEND t TO NULL ON (EMPTY): PUT_INT(1); END; SEND t TO THIS ON (EXTINCT): PUT_INT(2); END;
-- where i is local 0, an instance that was started
abbrev signal_sends : CheckedTree
signal_sends = alone (local_row instance 0 1 ∷ []) (dcl_any 0 (expr 1 None (start (started 1 (received_nodes (taken (number (pos 7)) ∷ []))))) ∷ plain (send (signal 0 (received_nodes (taken (number (pos 1)) ∷ taken (number (pos 2)) ∷ [])) (Some x)) 0) ∷ plain (send (signal 0 (received_nodes (taken (number (pos 1)) ∷ taken (number (pos 2)) ∷ [])) None) 3) ∷ statement false (send (signal 1 (received_nodes []) (Some (number (pos 0)))) 0) (on 2 (put (number (pos 1)) ∷ [])) ∷ statement false (send (signal 1 (received_nodes []) (Some (expr 1 None own_instance))) 0) (on 6 (put (number (pos 2)) ∷ [])) ∷ [])

signal_sends_do : Does signal_sends (asks (Start 1 (pos 7 ∷ [])) (Instance 4) ∷ asks (SendSignal 0 (pos 1 ∷ pos 2 ∷ []) (Some 4) 0) (Handed 4) ∷ asks (SendSignal 0 (pos 1 ∷ pos 2 ∷ []) None 3) Stored ∷ asks (SendSignal 1 [] (Some 0) 0) (Fail Empty) ∷ says (pos 1) ∷ asks (SendSignal 1 [] (Some 1) 0) (Fail Extinct) ∷ says (pos 2) ∷ ends)
signal_sends_do = refl

-- PUT_INT(RECEIVE b); where b is buffer 0 of INT
abbrev receive_as_a_value : CheckedTree
receive_as_a_value = alone [] (put (expr 1 None (receive 0)) ∷ [])

receive_as_a_value_does : Does receive_as_a_value (asks (ReceiveBuffer (first_of 0 ∷ []) false) (Got 0 1 (pos 20 ∷ []) 3) ∷ says (pos 20) ∷ ends)
receive_as_a_value_does = refl

-- RECEIVE CASE SET i; (b IN v): PUT_INT(1); (c IN w): PUT_INT(w); ELSE PUT_INT(3); ESAC; twice; where i is local 0, v local 1 of
-- two scalars and w local 2, b is buffer 0 and c buffer 1
abbrev receive_cases : CheckedTree
receive_cases = alone (local_row instance 0 1 ∷ local_row (chars 2) 1 2 ∷ local_row int 3 1 ∷ []) (twice (plain (receive_buffers (Some (own 0)) (receive_nodes (got_from 0 (1 ∷ []) (put (number (pos 1)) ∷ []) ∷ got_from 1 (2 ∷ []) (put (value_in (own 2)) ∷ put (of Number (op Equal x (number (pos 9)))) ∷ []) ∷ [])) (otherwise (statement_nodes (put (number (pos 3)) ∷ []))))))

receive_cases_do : Does receive_cases (asks (ReceiveBuffer (listed 0 0 ∷ listed 1 1 ∷ []) true) (Got 1 5 (pos 42 ∷ []) 9) ∷ says (pos 42) ∷ says (pos 1) ∷ asks (ReceiveBuffer (listed 0 0 ∷ listed 1 1 ∷ []) true) Otherwise ∷ says (pos 3) ∷ ends)
receive_cases_do = refl

-- RECEIVE CASE SET j; (b IN v): PUT_INT(v); ESAC; where j is shared location 0 and v local 0: the name is set with the answer, and
-- SET is assigned before the actions
abbrev set_of_a_shared_location : CheckedTree
set_of_a_shared_location = program (main (ints 1) (plain (receive_buffers (Some (shared 0)) (receive_nodes (got_from 0 (0 ∷ []) (put x ∷ []) ∷ [])) no_otherwise) ∷ []) ∷ []) (location_row instance None ∷ [])

set_of_a_shared_location_does : Does set_of_a_shared_location (asks (ReceiveBuffer (listed 0 0 ∷ []) false) (Got 0 1 (pos 20 ∷ []) 3) ∷ asks (Write (record { location = 0; first = 0; count = 1 }) (pos 3 ∷ [])) Done ∷ says (pos 20) ∷ ends)
set_of_a_shared_location_does = refl

-- RECEIVE CASE (s IN v, w): PUT_TEXT(v); PUT_INT(w); (t): ESAC; twice; where s has the parts CHARS (2) and INT, and t none
abbrev receive_signal_cases : CheckedTree
receive_signal_cases = alone (local_row instance 0 1 ∷ local_row (chars 2) 1 2 ∷ local_row int 3 1 ∷ []) (twice (plain (receive_signals None (receive_nodes (got_from 3 (1 ∷ 2 ∷ []) (plain (put_text (expr 2 None (contents (location (Local 1) no_parts 2)))) ∷ put (value_in (own 2)) ∷ []) ∷ got_from 4 [] [] ∷ [])) no_otherwise)))

receive_signal_cases_do : Does receive_signal_cases (asks (ReceiveSignal (listed 3 0 ∷ listed 4 1 ∷ []) false) (Got 0 1 (pos 97 ∷ pos 98 ∷ pos 5 ∷ []) 2) ∷ puts (97 ∷ 98 ∷ []) ∷ says (pos 5) ∷ asks (ReceiveSignal (listed 3 0 ∷ listed 4 1 ∷ []) false) (Got 1 2 [] 2) ∷ ends)
receive_signal_cases_do = refl

-- START p(1); START p(2) ON (SPACEFAIL): PUT_INT(1); END; where p is body 1
abbrev starts : CheckedTree
starts = alone [] (plain (start_of (started 1 (received_nodes (taken (number (pos 1)) ∷ [])))) ∷ statement false (start_of (started 1 (received_nodes (taken (number (pos 2)) ∷ [])))) (on 5 (put (number (pos 1)) ∷ [])) ∷ [])

starts_do : Does starts (asks (Start 1 (pos 1 ∷ [])) (Instance 2) ∷ asks (Start 1 (pos 2 ∷ [])) (Fail Spacefail) ∷ says (pos 1) ∷ ends)
starts_do = refl

-- p: PROCESS (a INT, b INT); PUT_INT(a - b); CAUSE busy; END ON (busy): PUT_INT(NUM(THIS = NULL)); END p; started with 9 and 2
abbrev process_with_arguments : CheckedTree
process_with_arguments = program (main [] [] ∷ with_handler (on 7 (put (of Number (op Equal (expr 1 None own_instance) (number (pos 0)))) ∷ [])) (body Process (record { passing = In } ∷ record { passing = In } ∷ []) None [] (ints 2) (put (op Subtract x y) ∷ plain (cause 7) ∷ [])) ∷ []) []

process_with_arguments_does : (talk process_with_arguments 5 1 (pos 9 ∷ pos 2 ∷ []) (Done ∷ Done ∷ Done ∷ []) 1).trace ≡ trace_of (says (pos 7) ∷ says (pos 0) ∷ ends)
process_with_arguments_does = refl

-- with fewer arguments than parameters nothing is told
process_without_arguments : (talk process_with_arguments 5 1 (pos 9 ∷ []) (Done ∷ Done ∷ Done ∷ []) 1).trace ≡ []
process_without_arguments = refl

-- an answer that can't come for its request ends the trace there
misfit_answer : (talk starts 1 0 [] (Stored ∷ Done ∷ []) 1).trace ≡ (Ask (Start 1 (pos 1 ∷ [])) ∷ [])
misfit_answer = refl
