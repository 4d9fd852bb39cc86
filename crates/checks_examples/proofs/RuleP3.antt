-- Rule P3: texts that break it, and texts that nearly do.
use Rattle.std.proofs.Common.{◌≡◌, refl}
use Rattle.std.specs.Prelude.{false, [], ◌∷◌, Some, None, codes}
use Rattle.chill_tree.specs.declared.tree.expr.Operator.TheVariants as ops
use Rattle.chill_tree.specs.declared.tree.item.ModulionKind.TheVariants as modulions
use Rattle.chill_tree.specs.ExprTree.{whole, this_instance, receive, tuple, name, binary, alone, range_nodes}
use Rattle.chill_tree.specs.ModeTree as w
use Rattle.chill_tree.specs.LocalTree.{syn_modes, new_modes, locations}
use Rattle.chill_tree.specs.SimpleTree.{assign, call_of, assert_that, delay, continue_event, send}
use Rattle.chill_tree.specs.StatementTree.{simple, bracketed, if_then, delay_case, receive_case, statement_nodes, branch_nodes, named_nodes, receive_nodes, otherwise_node, no_otherwise, handler_node}
use Rattle.chill_tree.specs.ItemTree.{ProgramTree, local_item, signals, action}
use Rattle.diagnostics.specs.declared.rule.Rule.TheVariants as rules
use Rattle.checks_model.specs.Table.{IsGroundOf, IsStatementGroundOf}
use Rattle.checks_model.specs.Phases.{broken_modes, broken_statements, broken_processes}
use Rattle.checks_examples.proofs.Programs.{at, n, modedef, decl, alt, recv, sig, modul, program, ground_of, counted_ground_of, told_of}

-- a tuple that is sent to none has no mode
--   m: MODULE DCL x INT; SEND x ([1, 2]); END m;
abbrev broken_1 : ProgramTree
broken_1 = program ((modul (n 1 1 (codes "m")) modulions.Module ((local_item (locations (at 1 11) ((decl ((n 1 15 (codes "x")) ∷ []) (w.base_mode (w.discrete (w.named (n 1 17 (codes "INT"))))) None) ∷ []))) ∷ (action (simple (at 1 22) (send (at 1 22) (n 1 27 (codes "x")) (Some ((tuple (at 1 30) None (at 1 30) (range_nodes ((alone (whole (at 1 31) 1)) ∷ (alone (whole (at 1 34) 2)) ∷ []))) ∷ [])) None None) (handler_node None))) ∷ []) None (Some (n 1 43 (codes "m")))) ∷ [])

broken_1-ground : IsGroundOf broken_1 (ground_of broken_1)
broken_1-ground = record { names = refl; entries = refl }

broken_1-modes : broken_modes (ground_of broken_1) broken_1 ≡ []
broken_1-modes = refl

broken_1-counted : IsStatementGroundOf broken_1 (counted_ground_of broken_1)
broken_1-counted = record { names = refl; entries = refl }

broken_1-statements : broken_statements (counted_ground_of broken_1) broken_1 ≡ []
broken_1-statements = refl

broken_1-processes : broken_processes (counted_ground_of broken_1) broken_1 ≡ (told_of rules.P3 1 27 (codes "x") ∷ [])
broken_1-processes = refl

-- DELAY
--   m: MODULE DCL x INT, b BUFFER INT; DELAY x; DELAY b PRIORITY 1; END m;
abbrev broken_2 : ProgramTree
broken_2 = program ((modul (n 1 1 (codes "m")) modulions.Module ((local_item (locations (at 1 11) ((decl ((n 1 15 (codes "x")) ∷ []) (w.base_mode (w.discrete (w.named (n 1 17 (codes "INT"))))) None) ∷ (decl ((n 1 22 (codes "b")) ∷ []) (w.buffer_mode (at 1 24) None (w.discrete (w.named (n 1 31 (codes "INT"))))) None) ∷ []))) ∷ (action (simple (at 1 36) (delay (at 1 36) (n 1 42 (codes "x")) None) (handler_node None))) ∷ (action (simple (at 1 45) (delay (at 1 45) (n 1 51 (codes "b")) (Some (whole (at 1 62) 1))) (handler_node None))) ∷ []) None (Some (n 1 69 (codes "m")))) ∷ [])

broken_2-ground : IsGroundOf broken_2 (ground_of broken_2)
broken_2-ground = record { names = refl; entries = refl }

broken_2-modes : broken_modes (ground_of broken_2) broken_2 ≡ []
broken_2-modes = refl

broken_2-counted : IsStatementGroundOf broken_2 (counted_ground_of broken_2)
broken_2-counted = record { names = refl; entries = refl }

broken_2-statements : broken_statements (counted_ground_of broken_2) broken_2 ≡ []
broken_2-statements = refl

broken_2-processes : broken_processes (counted_ground_of broken_2) broken_2 ≡ (told_of rules.P3 1 42 (codes "x") ∷ told_of rules.P3 1 51 (codes "b") ∷ [])
broken_2-processes = refl

-- DELAY CASE
--   m: MODULE DCL e EVENT, x INT, b BUFFER INT; DELAY CASE (e, x): (b): ESAC; END m;
abbrev broken_3 : ProgramTree
broken_3 = program ((modul (n 1 1 (codes "m")) modulions.Module ((local_item (locations (at 1 11) ((decl ((n 1 15 (codes "e")) ∷ []) (w.event_mode (at 1 17) None) None) ∷ (decl ((n 1 24 (codes "x")) ∷ []) (w.base_mode (w.discrete (w.named (n 1 26 (codes "INT"))))) None) ∷ (decl ((n 1 31 (codes "b")) ∷ []) (w.buffer_mode (at 1 33) None (w.discrete (w.named (n 1 40 (codes "INT"))))) None) ∷ []))) ∷ (action (bracketed (at 1 45) None (delay_case (at 1 45) None None (named_nodes ((alt (at 1 56) ((n 1 57 (codes "e")) ∷ (n 1 60 (codes "x")) ∷ []) []) ∷ (alt (at 1 64) ((n 1 65 (codes "b")) ∷ []) []) ∷ []))) (handler_node None) None)) ∷ []) None (Some (n 1 79 (codes "m")))) ∷ [])

broken_3-ground : IsGroundOf broken_3 (ground_of broken_3)
broken_3-ground = record { names = refl; entries = refl }

broken_3-modes : broken_modes (ground_of broken_3) broken_3 ≡ []
broken_3-modes = refl

broken_3-counted : IsStatementGroundOf broken_3 (counted_ground_of broken_3)
broken_3-counted = record { names = refl; entries = refl }

broken_3-statements : broken_statements (counted_ground_of broken_3) broken_3 ≡ []
broken_3-statements = refl

broken_3-processes : broken_processes (counted_ground_of broken_3) broken_3 ≡ (told_of rules.P3 1 60 (codes "x") ∷ told_of rules.P3 1 65 (codes "b") ∷ [])
broken_3-processes = refl

-- CONTINUE
--   m: MODULE DCL x EVENT, y INT, a ARRAY (1:2) INT, b BUFFER INT; CONTINUE x; CONTINUE y; CONTINUE a; CONTINUE b; END m;
abbrev broken_4 : ProgramTree
broken_4 = program ((modul (n 1 1 (codes "m")) modulions.Module ((local_item (locations (at 1 11) ((decl ((n 1 15 (codes "x")) ∷ []) (w.event_mode (at 1 17) None) None) ∷ (decl ((n 1 24 (codes "y")) ∷ []) (w.base_mode (w.discrete (w.named (n 1 26 (codes "INT"))))) None) ∷ (decl ((n 1 31 (codes "a")) ∷ []) (w.base_mode (w.array (at 1 33) (w.index_bounded (whole (at 1 40) 1) (whole (at 1 42) 2)) (w.discrete (w.named (n 1 45 (codes "INT")))) None)) None) ∷ (decl ((n 1 50 (codes "b")) ∷ []) (w.buffer_mode (at 1 52) None (w.discrete (w.named (n 1 59 (codes "INT"))))) None) ∷ []))) ∷ (action (simple (at 1 64) (continue_event (at 1 64) (n 1 73 (codes "x"))) (handler_node None))) ∷ (action (simple (at 1 76) (continue_event (at 1 76) (n 1 85 (codes "y"))) (handler_node None))) ∷ (action (simple (at 1 88) (continue_event (at 1 88) (n 1 97 (codes "a"))) (handler_node None))) ∷ (action (simple (at 1 100) (continue_event (at 1 100) (n 1 109 (codes "b"))) (handler_node None))) ∷ []) None (Some (n 1 116 (codes "m")))) ∷ [])

broken_4-ground : IsGroundOf broken_4 (ground_of broken_4)
broken_4-ground = record { names = refl; entries = refl }

broken_4-modes : broken_modes (ground_of broken_4) broken_4 ≡ []
broken_4-modes = refl

broken_4-counted : IsStatementGroundOf broken_4 (counted_ground_of broken_4)
broken_4-counted = record { names = refl; entries = refl }

broken_4-statements : broken_statements (counted_ground_of broken_4) broken_4 ≡ []
broken_4-statements = refl

broken_4-processes : broken_processes (counted_ground_of broken_4) broken_4 ≡ (told_of rules.P3 1 85 (codes "y") ∷ told_of rules.P3 1 97 (codes "a") ∷ told_of rules.P3 1 109 (codes "b") ∷ [])
broken_4-processes = refl

-- SEND
--   m: MODULE DCL x INT, e EVENT, i INSTANCE; SEND x; SEND x (1, 2); SEND e PRIORITY 1; SEND i TO THIS; END m;
abbrev broken_5 : ProgramTree
broken_5 = program ((modul (n 1 1 (codes "m")) modulions.Module ((local_item (locations (at 1 11) ((decl ((n 1 15 (codes "x")) ∷ []) (w.base_mode (w.discrete (w.named (n 1 17 (codes "INT"))))) None) ∷ (decl ((n 1 22 (codes "e")) ∷ []) (w.event_mode (at 1 24) None) None) ∷ (decl ((n 1 31 (codes "i")) ∷ []) (w.base_mode (w.discrete (w.named (n 1 33 (codes "INSTANCE"))))) None) ∷ []))) ∷ (action (simple (at 1 43) (send (at 1 43) (n 1 48 (codes "x")) None None None) (handler_node None))) ∷ (action (simple (at 1 51) (send (at 1 51) (n 1 56 (codes "x")) (Some ((whole (at 1 59) 1) ∷ (whole (at 1 62) 2) ∷ [])) None None) (handler_node None))) ∷ (action (simple (at 1 66) (send (at 1 66) (n 1 71 (codes "e")) None None (Some (whole (at 1 82) 1))) (handler_node None))) ∷ (action (simple (at 1 85) (send (at 1 85) (n 1 90 (codes "i")) None (Some (this_instance (at 1 95))) None) (handler_node None))) ∷ []) None (Some (n 1 105 (codes "m")))) ∷ [])

broken_5-ground : IsGroundOf broken_5 (ground_of broken_5)
broken_5-ground = record { names = refl; entries = refl }

broken_5-modes : broken_modes (ground_of broken_5) broken_5 ≡ []
broken_5-modes = refl

broken_5-counted : IsStatementGroundOf broken_5 (counted_ground_of broken_5)
broken_5-counted = record { names = refl; entries = refl }

broken_5-statements : broken_statements (counted_ground_of broken_5) broken_5 ≡ []
broken_5-statements = refl

broken_5-processes : broken_processes (counted_ground_of broken_5) broken_5 ≡ (told_of rules.P3 1 48 (codes "x") ∷ told_of rules.P3 1 56 (codes "x") ∷ told_of rules.P3 1 71 (codes "e") ∷ told_of rules.P3 1 90 (codes "i") ∷ [])
broken_5-processes = refl

-- RECEIVE as a value
--   m: MODULE DCL x INT, e EVENT; x := RECEIVE e; x := RECEIVE x; IF RECEIVE x THEN FI; END m;
abbrev broken_6 : ProgramTree
broken_6 = program ((modul (n 1 1 (codes "m")) modulions.Module ((local_item (locations (at 1 11) ((decl ((n 1 15 (codes "x")) ∷ []) (w.base_mode (w.discrete (w.named (n 1 17 (codes "INT"))))) None) ∷ (decl ((n 1 22 (codes "e")) ∷ []) (w.event_mode (at 1 24) None) None) ∷ []))) ∷ (action (simple (at 1 31) (assign (at 1 31) (name (n 1 31 (codes "x"))) (receive (at 1 36) (n 1 44 (codes "e")))) (handler_node None))) ∷ (action (simple (at 1 47) (assign (at 1 47) (name (n 1 47 (codes "x"))) (receive (at 1 52) (n 1 60 (codes "x")))) (handler_node None))) ∷ (action (bracketed (at 1 63) None (if_then (at 1 63) (receive (at 1 66) (n 1 74 (codes "x"))) (statement_nodes []) (branch_nodes []) no_otherwise) (handler_node None) None)) ∷ []) None (Some (n 1 89 (codes "m")))) ∷ [])

broken_6-ground : IsGroundOf broken_6 (ground_of broken_6)
broken_6-ground = record { names = refl; entries = refl }

broken_6-modes : broken_modes (ground_of broken_6) broken_6 ≡ []
broken_6-modes = refl

broken_6-counted : IsStatementGroundOf broken_6 (counted_ground_of broken_6)
broken_6-counted = record { names = refl; entries = refl }

broken_6-statements : broken_statements (counted_ground_of broken_6) broken_6 ≡ []
broken_6-statements = refl

broken_6-processes : broken_processes (counted_ground_of broken_6) broken_6 ≡ (told_of rules.P3 1 44 (codes "e") ∷ told_of rules.P3 1 60 (codes "x") ∷ told_of rules.P3 1 74 (codes "x") ∷ [])
broken_6-processes = refl

-- RECEIVE CASE
--   m: MODULE DCL x INT, e EVENT; SIGNAL s; RECEIVE CASE (s): (x): (e IN v, w): ESAC; END m;
abbrev broken_7 : ProgramTree
broken_7 = program ((modul (n 1 1 (codes "m")) modulions.Module ((local_item (locations (at 1 11) ((decl ((n 1 15 (codes "x")) ∷ []) (w.base_mode (w.discrete (w.named (n 1 17 (codes "INT"))))) None) ∷ (decl ((n 1 22 (codes "e")) ∷ []) (w.event_mode (at 1 24) None) None) ∷ []))) ∷ (signals (at 1 31) ((sig (n 1 38 (codes "s")) None None) ∷ [])) ∷ (action (bracketed (at 1 41) None (receive_case (at 1 41) None (receive_nodes ((recv (at 1 54) (n 1 55 (codes "s")) None []) ∷ (recv (at 1 59) (n 1 60 (codes "x")) None []) ∷ (recv (at 1 64) (n 1 65 (codes "e")) (Some ((n 1 70 (codes "v")) ∷ (n 1 73 (codes "w")) ∷ [])) []) ∷ [])) no_otherwise) (handler_node None) None)) ∷ []) None (Some (n 1 87 (codes "m")))) ∷ [])

broken_7-ground : IsGroundOf broken_7 (ground_of broken_7)
broken_7-ground = record { names = refl; entries = refl }

broken_7-modes : broken_modes (ground_of broken_7) broken_7 ≡ []
broken_7-modes = refl

broken_7-counted : IsStatementGroundOf broken_7 (counted_ground_of broken_7)
broken_7-counted = record { names = refl; entries = refl }

broken_7-statements : broken_statements (counted_ground_of broken_7) broken_7 ≡ []
broken_7-statements = refl

broken_7-processes : broken_processes (counted_ground_of broken_7) broken_7 ≡ (told_of rules.P3 1 60 (codes "x") ∷ told_of rules.P3 1 65 (codes "e") ∷ [])
broken_7-processes = refl

-- a name that is received from none has no mode
--   m: MODULE DCL x INT; RECEIVE CASE (x IN v): PUT_TEXT(v); ASSERT v; x := v + TRUE = v; ESAC; END m;
abbrev broken_8 : ProgramTree
broken_8 = program ((modul (n 1 1 (codes "m")) modulions.Module ((local_item (locations (at 1 11) ((decl ((n 1 15 (codes "x")) ∷ []) (w.base_mode (w.discrete (w.named (n 1 17 (codes "INT"))))) None) ∷ []))) ∷ (action (bracketed (at 1 22) None (receive_case (at 1 22) None (receive_nodes ((recv (at 1 35) (n 1 36 (codes "x")) (Some ((n 1 41 (codes "v")) ∷ [])) ((simple (at 1 45) (call_of (at 1 45) false (n 1 45 (codes "PUT_TEXT")) ((name (n 1 54 (codes "v"))) ∷ [])) (handler_node None)) ∷ (simple (at 1 58) (assert_that (at 1 58) (name (n 1 65 (codes "v")))) (handler_node None)) ∷ (simple (at 1 68) (assign (at 1 68) (name (n 1 68 (codes "x"))) (binary (at 1 73) (binary (at 1 73) (name (n 1 73 (codes "v"))) ops.Plus (at 1 75) (name (n 1 77 (codes "TRUE")))) ops.Equal (at 1 82) (name (n 1 84 (codes "v"))))) (handler_node None)) ∷ [])) ∷ [])) no_otherwise) (handler_node None) None)) ∷ []) None (Some (n 1 97 (codes "m")))) ∷ [])

broken_8-ground : IsGroundOf broken_8 (ground_of broken_8)
broken_8-ground = record { names = refl; entries = refl }

broken_8-modes : broken_modes (ground_of broken_8) broken_8 ≡ []
broken_8-modes = refl

broken_8-counted : IsStatementGroundOf broken_8 (counted_ground_of broken_8)
broken_8-counted = record { names = refl; entries = refl }

broken_8-statements : broken_statements (counted_ground_of broken_8) broken_8 ≡ []
broken_8-statements = refl

broken_8-processes : broken_processes (counted_ground_of broken_8) broken_8 ≡ (told_of rules.P3 1 36 (codes "x") ∷ [])
broken_8-processes = refl

-- a signal with a receiver
--   m: MODULE SIGNAL s = (INT), t; DCL i INSTANCE; SEND s (1) TO i; SEND t TO THIS PRIORITY 3; RECEIVE CASE (s IN v): (t): ELSE ESAC; END m;
abbrev near_1 : ProgramTree
near_1 = program ((modul (n 1 1 (codes "m")) modulions.Module ((signals (at 1 11) ((sig (n 1 18 (codes "s")) (Some ((w.base_mode (w.discrete (w.named (n 1 23 (codes "INT"))))) ∷ [])) None) ∷ (sig (n 1 29 (codes "t")) None None) ∷ [])) ∷ (local_item (locations (at 1 32) ((decl ((n 1 36 (codes "i")) ∷ []) (w.base_mode (w.discrete (w.named (n 1 38 (codes "INSTANCE"))))) None) ∷ []))) ∷ (action (simple (at 1 48) (send (at 1 48) (n 1 53 (codes "s")) (Some ((whole (at 1 56) 1) ∷ [])) (Some (name (n 1 62 (codes "i")))) None) (handler_node None))) ∷ (action (simple (at 1 65) (send (at 1 65) (n 1 70 (codes "t")) None (Some (this_instance (at 1 75))) (Some (whole (at 1 89) 3))) (handler_node None))) ∷ (action (bracketed (at 1 92) None (receive_case (at 1 92) None (receive_nodes ((recv (at 1 105) (n 1 106 (codes "s")) (Some ((n 1 111 (codes "v")) ∷ [])) []) ∷ (recv (at 1 115) (n 1 116 (codes "t")) None []) ∷ [])) (otherwise_node (Some []))) (handler_node None) None)) ∷ []) None (Some (n 1 135 (codes "m")))) ∷ [])

near_1-ground : IsGroundOf near_1 (ground_of near_1)
near_1-ground = record { names = refl; entries = refl }

near_1-modes : broken_modes (ground_of near_1) near_1 ≡ []
near_1-modes = refl

near_1-counted : IsStatementGroundOf near_1 (counted_ground_of near_1)
near_1-counted = record { names = refl; entries = refl }

near_1-statements : broken_statements (counted_ground_of near_1) near_1 ≡ []
near_1-statements = refl

near_1-processes : broken_processes (counted_ground_of near_1) near_1 ≡ []
near_1-processes = refl

-- events, buffers and signals, by names of their modes too
--   m: MODULE NEWMODE e = EVENT (2); SYNMODE f = e; NEWMODE b = BUFFER INT; DCL x f, y b, z EVENT, v INT; SIGNAL s; DELAY x; CONTINUE x; SEND y (1); v := RECEIVE y; RECEIVE CASE (y IN w): v := w; ESAC;
--   DELAY CASE (x, z): ESAC; SEND s TO NULL; END m;
abbrev near_2 : ProgramTree
near_2 = program ((modul (n 1 1 (codes "m")) modulions.Module ((local_item (new_modes (at 1 11) ((modedef (n 1 19 (codes "e")) (w.event_mode (at 1 23) (Some (whole (at 1 30) 2)))) ∷ []))) ∷ (local_item (syn_modes (at 1 34) ((modedef (n 1 42 (codes "f")) (w.base_mode (w.discrete (w.named (n 1 46 (codes "e")))))) ∷ []))) ∷ (local_item (new_modes (at 1 49) ((modedef (n 1 57 (codes "b")) (w.buffer_mode (at 1 61) None (w.discrete (w.named (n 1 68 (codes "INT")))))) ∷ []))) ∷ (local_item (locations (at 1 73) ((decl ((n 1 77 (codes "x")) ∷ []) (w.base_mode (w.discrete (w.named (n 1 79 (codes "f"))))) None) ∷ (decl ((n 1 82 (codes "y")) ∷ []) (w.base_mode (w.discrete (w.named (n 1 84 (codes "b"))))) None) ∷ (decl ((n 1 87 (codes "z")) ∷ []) (w.event_mode (at 1 89) None) None) ∷ (decl ((n 1 96 (codes "v")) ∷ []) (w.base_mode (w.discrete (w.named (n 1 98 (codes "INT"))))) None) ∷ []))) ∷ (signals (at 1 103) ((sig (n 1 110 (codes "s")) None None) ∷ [])) ∷ (action (simple (at 1 113) (delay (at 1 113) (n 1 119 (codes "x")) None) (handler_node None))) ∷ (action (simple (at 1 122) (continue_event (at 1 122) (n 1 131 (codes "x"))) (handler_node None))) ∷ (action (simple (at 1 134) (send (at 1 134) (n 1 139 (codes "y")) (Some ((whole (at 1 142) 1) ∷ [])) None None) (handler_node None))) ∷ (action (simple (at 1 146) (assign (at 1 146) (name (n 1 146 (codes "v"))) (receive (at 1 151) (n 1 159 (codes "y")))) (handler_node None))) ∷ (action (bracketed (at 1 162) None (receive_case (at 1 162) None (receive_nodes ((recv (at 1 175) (n 1 176 (codes "y")) (Some ((n 1 181 (codes "w")) ∷ [])) ((simple (at 1 185) (assign (at 1 185) (name (n 1 185 (codes "v"))) (name (n 1 190 (codes "w")))) (handler_node None)) ∷ [])) ∷ [])) no_otherwise) (handler_node None) None)) ∷ (action (bracketed (at 2 1) None (delay_case (at 2 1) None None (named_nodes ((alt (at 2 12) ((n 2 13 (codes "x")) ∷ (n 2 16 (codes "z")) ∷ []) []) ∷ []))) (handler_node None) None)) ∷ (action (simple (at 2 26) (send (at 2 26) (n 2 31 (codes "s")) None (Some (name (n 2 36 (codes "NULL")))) None) (handler_node None))) ∷ []) None (Some (n 2 46 (codes "m")))) ∷ [])

near_2-ground : IsGroundOf near_2 (ground_of near_2)
near_2-ground = record { names = refl; entries = refl }

near_2-modes : broken_modes (ground_of near_2) near_2 ≡ []
near_2-modes = refl

near_2-counted : IsStatementGroundOf near_2 (counted_ground_of near_2)
near_2-counted = record { names = refl; entries = refl }

near_2-statements : broken_statements (counted_ground_of near_2) near_2 ≡ []
near_2-statements = refl

near_2-processes : broken_processes (counted_ground_of near_2) near_2 ≡ []
near_2-processes = refl
