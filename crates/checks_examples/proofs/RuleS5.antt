-- Rule S5: texts that break it, and texts that nearly do.
use Rattle.std.proofs.Common.{◌≡◌, refl}
use Rattle.std.specs.Prelude.{true, false, [], ◌∷◌, Some, None, codes}
use Rattle.chill_tree.specs.declared.tree.expr.Operator.TheVariants as ops
use Rattle.chill_tree.specs.declared.tree.item.ModulionKind.TheVariants as modulions
use Rattle.chill_tree.specs.ExprTree.{whole, text, start, name, apply, binary, expr_nodes}
use Rattle.chill_tree.specs.ModeTree as w
use Rattle.chill_tree.specs.LocalTree.{locations}
use Rattle.chill_tree.specs.SimpleTree.{assign, call_of, return_with, start_of, send}
use Rattle.chill_tree.specs.StatementTree.{simple, bracketed, receive_case, receive_nodes, no_otherwise, handler_node, action_part}
use Rattle.chill_tree.specs.ItemTree.{ProgramTree, local_item, signals, procedure, process, action}
use Rattle.diagnostics.specs.declared.rule.Rule.TheVariants as rules
use Rattle.checks_model.specs.Table.{IsGroundOf, IsStatementGroundOf}
use Rattle.checks_model.specs.Phases.{broken_modes, broken_statements, broken_processes}
use Rattle.checks_examples.proofs.Programs.{at, n, decl, recv, sig, param, formal, proc, proce, modul, program, ground_of, counted_ground_of, told}

-- of a call as an action
--   m: MODULE p: PROC (k, l INT); END p; p(1); p(); p(1, 2, 3); CALL p(1); p(1, 2); END m;
abbrev broken_1 : ProgramTree
broken_1 = program ((modul (n 1 1 (codes "m")) modulions.Module ((procedure (proc (n 1 11 (codes "p")) ((param ((n 1 20 (codes "k")) ∷ (n 1 23 (codes "l")) ∷ []) (w.base_mode (w.discrete (w.named (n 1 25 (codes "INT"))))) None) ∷ []) None None [] None (Some (n 1 35 (codes "p"))))) ∷ (action (simple (at 1 38) (call_of (at 1 38) false (n 1 38 (codes "p")) ((whole (at 1 40) 1) ∷ [])) (handler_node None))) ∷ (action (simple (at 1 44) (call_of (at 1 44) false (n 1 44 (codes "p")) []) (handler_node None))) ∷ (action (simple (at 1 49) (call_of (at 1 49) false (n 1 49 (codes "p")) ((whole (at 1 51) 1) ∷ (whole (at 1 54) 2) ∷ (whole (at 1 57) 3) ∷ [])) (handler_node None))) ∷ (action (simple (at 1 61) (call_of (at 1 61) true (n 1 66 (codes "p")) ((whole (at 1 68) 1) ∷ [])) (handler_node None))) ∷ (action (simple (at 1 72) (call_of (at 1 72) false (n 1 72 (codes "p")) ((whole (at 1 74) 1) ∷ (whole (at 1 77) 2) ∷ [])) (handler_node None))) ∷ []) None (Some (n 1 85 (codes "m")))) ∷ [])

broken_1-ground : IsGroundOf broken_1 (ground_of broken_1)
broken_1-ground = record { names = refl; entries = refl }

broken_1-modes : broken_modes (ground_of broken_1) broken_1 ≡ []
broken_1-modes = refl

broken_1-counted : IsStatementGroundOf broken_1 (counted_ground_of broken_1)
broken_1-counted = record { names = refl; entries = refl }

broken_1-statements : broken_statements (counted_ground_of broken_1) broken_1 ≡ (told rules.S5 1 38 ∷ told rules.S5 1 44 ∷ told rules.S5 1 49 ∷ told rules.S5 1 66 ∷ [])
broken_1-statements = refl

-- of the routines of input and output
--   m: MODULE DCL x INT; PUT_INT(1, 2); PUT_TEXT("a", "b"); PUT_NL(1); x := GET_INT(1); PUT_INT(); END m;
abbrev broken_2 : ProgramTree
broken_2 = program ((modul (n 1 1 (codes "m")) modulions.Module ((local_item (locations (at 1 11) ((decl ((n 1 15 (codes "x")) ∷ []) (w.base_mode (w.discrete (w.named (n 1 17 (codes "INT"))))) None) ∷ []))) ∷ (action (simple (at 1 22) (call_of (at 1 22) false (n 1 22 (codes "PUT_INT")) ((whole (at 1 30) 1) ∷ (whole (at 1 33) 2) ∷ [])) (handler_node None))) ∷ (action (simple (at 1 37) (call_of (at 1 37) false (n 1 37 (codes "PUT_TEXT")) ((text (at 1 46) (97 ∷ [])) ∷ (text (at 1 51) (98 ∷ [])) ∷ [])) (handler_node None))) ∷ (action (simple (at 1 57) (call_of (at 1 57) false (n 1 57 (codes "PUT_NL")) ((whole (at 1 64) 1) ∷ [])) (handler_node None))) ∷ (action (simple (at 1 68) (assign (at 1 68) (name (n 1 68 (codes "x"))) (apply (at 1 73) (name (n 1 73 (codes "GET_INT"))) (expr_nodes ((whole (at 1 81) 1) ∷ [])))) (handler_node None))) ∷ (action (simple (at 1 85) (call_of (at 1 85) false (n 1 85 (codes "PUT_INT")) []) (handler_node None))) ∷ []) None (Some (n 1 100 (codes "m")))) ∷ [])

broken_2-ground : IsGroundOf broken_2 (ground_of broken_2)
broken_2-ground = record { names = refl; entries = refl }

broken_2-modes : broken_modes (ground_of broken_2) broken_2 ≡ []
broken_2-modes = refl

broken_2-counted : IsStatementGroundOf broken_2 (counted_ground_of broken_2)
broken_2-counted = record { names = refl; entries = refl }

broken_2-statements : broken_statements (counted_ground_of broken_2) broken_2 ≡ (told rules.S5 1 22 ∷ told rules.S5 1 37 ∷ told rules.S5 1 57 ∷ told rules.S5 1 73 ∷ told rules.S5 1 85 ∷ [])
broken_2-statements = refl

-- of START
--   m: MODULE DCL i INSTANCE; q: PROCESS (k INT); END q; START q(); START q(1, 2); i := START q(); START q(3); END m;
abbrev broken_3 : ProgramTree
broken_3 = program ((modul (n 1 1 (codes "m")) modulions.Module ((local_item (locations (at 1 11) ((decl ((n 1 15 (codes "i")) ∷ []) (w.base_mode (w.discrete (w.named (n 1 17 (codes "INSTANCE"))))) None) ∷ []))) ∷ (process (proce (n 1 27 (codes "q")) ((formal ((n 1 39 (codes "k")) ∷ []) (w.base_mode (w.discrete (w.named (n 1 41 (codes "INT")))))) ∷ []) [] None (Some (n 1 51 (codes "q"))))) ∷ (action (simple (at 1 54) (start_of (at 1 54) (n 1 60 (codes "q")) []) (handler_node None))) ∷ (action (simple (at 1 65) (start_of (at 1 65) (n 1 71 (codes "q")) ((whole (at 1 73) 1) ∷ (whole (at 1 76) 2) ∷ [])) (handler_node None))) ∷ (action (simple (at 1 80) (assign (at 1 80) (name (n 1 80 (codes "i"))) (start (at 1 85) (n 1 91 (codes "q")) (expr_nodes []))) (handler_node None))) ∷ (action (simple (at 1 96) (start_of (at 1 96) (n 1 102 (codes "q")) ((whole (at 1 104) 3) ∷ [])) (handler_node None))) ∷ []) None (Some (n 1 112 (codes "m")))) ∷ [])

broken_3-ground : IsGroundOf broken_3 (ground_of broken_3)
broken_3-ground = record { names = refl; entries = refl }

broken_3-modes : broken_modes (ground_of broken_3) broken_3 ≡ []
broken_3-modes = refl

broken_3-counted : IsStatementGroundOf broken_3 (counted_ground_of broken_3)
broken_3-counted = record { names = refl; entries = refl }

broken_3-statements : broken_statements (counted_ground_of broken_3) broken_3 ≡ (told rules.S5 1 60 ∷ told rules.S5 1 71 ∷ told rules.S5 1 91 ∷ [])
broken_3-statements = refl

-- of a call as a value
--   m: MODULE DCL x INT; f: PROC (k INT) RETURNS (INT); RETURN k; END f; x := f(); x := f(1, 2) + 1; x := f(3); END m;
abbrev broken_4 : ProgramTree
broken_4 = program ((modul (n 1 1 (codes "m")) modulions.Module ((local_item (locations (at 1 11) ((decl ((n 1 15 (codes "x")) ∷ []) (w.base_mode (w.discrete (w.named (n 1 17 (codes "INT"))))) None) ∷ []))) ∷ (procedure (proc (n 1 22 (codes "f")) ((param ((n 1 31 (codes "k")) ∷ []) (w.base_mode (w.discrete (w.named (n 1 33 (codes "INT"))))) None) ∷ []) (Some (w.base_mode (w.discrete (w.named (n 1 47 (codes "INT")))))) None ((action_part (simple (at 1 53) (return_with (at 1 53) (Some (name (n 1 60 (codes "k"))))) (handler_node None))) ∷ []) None (Some (n 1 67 (codes "f"))))) ∷ (action (simple (at 1 70) (assign (at 1 70) (name (n 1 70 (codes "x"))) (apply (at 1 75) (name (n 1 75 (codes "f"))) (expr_nodes []))) (handler_node None))) ∷ (action (simple (at 1 80) (assign (at 1 80) (name (n 1 80 (codes "x"))) (binary (at 1 85) (apply (at 1 85) (name (n 1 85 (codes "f"))) (expr_nodes ((whole (at 1 87) 1) ∷ (whole (at 1 90) 2) ∷ []))) ops.Plus (at 1 93) (whole (at 1 95) 1))) (handler_node None))) ∷ (action (simple (at 1 98) (assign (at 1 98) (name (n 1 98 (codes "x"))) (apply (at 1 103) (name (n 1 103 (codes "f"))) (expr_nodes ((whole (at 1 105) 3) ∷ [])))) (handler_node None))) ∷ []) None (Some (n 1 113 (codes "m")))) ∷ [])

broken_4-ground : IsGroundOf broken_4 (ground_of broken_4)
broken_4-ground = record { names = refl; entries = refl }

broken_4-modes : broken_modes (ground_of broken_4) broken_4 ≡ []
broken_4-modes = refl

broken_4-counted : IsStatementGroundOf broken_4 (counted_ground_of broken_4)
broken_4-counted = record { names = refl; entries = refl }

broken_4-statements : broken_statements (counted_ground_of broken_4) broken_4 ≡ (told rules.S5 1 75 ∷ told rules.S5 1 85 ∷ [])
broken_4-statements = refl

-- of SEND
--   m: MODULE DCL b BUFFER INT; SIGNAL s = (INT, INT), t; SEND s; SEND s (1); SEND t (1); SEND b; SEND b (1, 2); SEND s (1, 2); SEND t; SEND b (1); END m;
abbrev broken_5 : ProgramTree
broken_5 = program ((modul (n 1 1 (codes "m")) modulions.Module ((local_item (locations (at 1 11) ((decl ((n 1 15 (codes "b")) ∷ []) (w.buffer_mode (at 1 17) None (w.discrete (w.named (n 1 24 (codes "INT"))))) None) ∷ []))) ∷ (signals (at 1 29) ((sig (n 1 36 (codes "s")) (Some ((w.base_mode (w.discrete (w.named (n 1 41 (codes "INT"))))) ∷ (w.base_mode (w.discrete (w.named (n 1 46 (codes "INT"))))) ∷ [])) None) ∷ (sig (n 1 52 (codes "t")) None None) ∷ [])) ∷ (action (simple (at 1 55) (send (at 1 55) (n 1 60 (codes "s")) None None None) (handler_node None))) ∷ (action (simple (at 1 63) (send (at 1 63) (n 1 68 (codes "s")) (Some ((whole (at 1 71) 1) ∷ [])) None None) (handler_node None))) ∷ (action (simple (at 1 75) (send (at 1 75) (n 1 80 (codes "t")) (Some ((whole (at 1 83) 1) ∷ [])) None None) (handler_node None))) ∷ (action (simple (at 1 87) (send (at 1 87) (n 1 92 (codes "b")) None None None) (handler_node None))) ∷ (action (simple (at 1 95) (send (at 1 95) (n 1 100 (codes "b")) (Some ((whole (at 1 103) 1) ∷ (whole (at 1 106) 2) ∷ [])) None None) (handler_node None))) ∷ (action (simple (at 1 110) (send (at 1 110) (n 1 115 (codes "s")) (Some ((whole (at 1 118) 1) ∷ (whole (at 1 121) 2) ∷ [])) None None) (handler_node None))) ∷ (action (simple (at 1 125) (send (at 1 125) (n 1 130 (codes "t")) None None None) (handler_node None))) ∷ (action (simple (at 1 133) (send (at 1 133) (n 1 138 (codes "b")) (Some ((whole (at 1 141) 1) ∷ [])) None None) (handler_node None))) ∷ []) None (Some (n 1 149 (codes "m")))) ∷ [])

broken_5-ground : IsGroundOf broken_5 (ground_of broken_5)
broken_5-ground = record { names = refl; entries = refl }

broken_5-modes : broken_modes (ground_of broken_5) broken_5 ≡ []
broken_5-modes = refl

broken_5-counted : IsStatementGroundOf broken_5 (counted_ground_of broken_5)
broken_5-counted = record { names = refl; entries = refl }

broken_5-statements : broken_statements (counted_ground_of broken_5) broken_5 ≡ (told rules.S5 1 60 ∷ told rules.S5 1 68 ∷ told rules.S5 1 80 ∷ told rules.S5 1 92 ∷ told rules.S5 1 100 ∷ [])
broken_5-statements = refl

-- of an IN list
--   m: MODULE DCL b BUFFER INT; SIGNAL s = (INT, INT); RECEIVE CASE (s IN v): ESAC; RECEIVE CASE (s IN v, w, x): ESAC; RECEIVE CASE (b IN v, w): ESAC; END m;
abbrev broken_6 : ProgramTree
broken_6 = program ((modul (n 1 1 (codes "m")) modulions.Module ((local_item (locations (at 1 11) ((decl ((n 1 15 (codes "b")) ∷ []) (w.buffer_mode (at 1 17) None (w.discrete (w.named (n 1 24 (codes "INT"))))) None) ∷ []))) ∷ (signals (at 1 29) ((sig (n 1 36 (codes "s")) (Some ((w.base_mode (w.discrete (w.named (n 1 41 (codes "INT"))))) ∷ (w.base_mode (w.discrete (w.named (n 1 46 (codes "INT"))))) ∷ [])) None) ∷ [])) ∷ (action (bracketed (at 1 52) None (receive_case (at 1 52) None (receive_nodes ((recv (at 1 65) (n 1 66 (codes "s")) (Some ((n 1 71 (codes "v")) ∷ [])) []) ∷ [])) no_otherwise) (handler_node None) None)) ∷ (action (bracketed (at 1 81) None (receive_case (at 1 81) None (receive_nodes ((recv (at 1 94) (n 1 95 (codes "s")) (Some ((n 1 100 (codes "v")) ∷ (n 1 103 (codes "w")) ∷ (n 1 106 (codes "x")) ∷ [])) []) ∷ [])) no_otherwise) (handler_node None) None)) ∷ (action (bracketed (at 1 116) None (receive_case (at 1 116) None (receive_nodes ((recv (at 1 129) (n 1 130 (codes "b")) (Some ((n 1 135 (codes "v")) ∷ (n 1 138 (codes "w")) ∷ [])) []) ∷ [])) no_otherwise) (handler_node None) None)) ∷ []) None (Some (n 1 152 (codes "m")))) ∷ [])

broken_6-ground : IsGroundOf broken_6 (ground_of broken_6)
broken_6-ground = record { names = refl; entries = refl }

broken_6-modes : broken_modes (ground_of broken_6) broken_6 ≡ []
broken_6-modes = refl

broken_6-counted : IsStatementGroundOf broken_6 (counted_ground_of broken_6)
broken_6-counted = record { names = refl; entries = refl }

broken_6-statements : broken_statements (counted_ground_of broken_6) broken_6 ≡ (told rules.S5 1 66 ∷ told rules.S5 1 95 ∷ told rules.S5 1 130 ∷ [])
broken_6-statements = refl

-- no IN list is one of no names
--   m: MODULE DCL b BUFFER INT; SIGNAL s = (INT), t; RECEIVE CASE (s): (t): ESAC; RECEIVE CASE (b): ESAC; RECEIVE CASE (t IN v): ESAC; END m;
abbrev broken_7 : ProgramTree
broken_7 = program ((modul (n 1 1 (codes "m")) modulions.Module ((local_item (locations (at 1 11) ((decl ((n 1 15 (codes "b")) ∷ []) (w.buffer_mode (at 1 17) None (w.discrete (w.named (n 1 24 (codes "INT"))))) None) ∷ []))) ∷ (signals (at 1 29) ((sig (n 1 36 (codes "s")) (Some ((w.base_mode (w.discrete (w.named (n 1 41 (codes "INT"))))) ∷ [])) None) ∷ (sig (n 1 47 (codes "t")) None None) ∷ [])) ∷ (action (bracketed (at 1 50) None (receive_case (at 1 50) None (receive_nodes ((recv (at 1 63) (n 1 64 (codes "s")) None []) ∷ (recv (at 1 68) (n 1 69 (codes "t")) None []) ∷ [])) no_otherwise) (handler_node None) None)) ∷ (action (bracketed (at 1 79) None (receive_case (at 1 79) None (receive_nodes ((recv (at 1 92) (n 1 93 (codes "b")) None []) ∷ [])) no_otherwise) (handler_node None) None)) ∷ (action (bracketed (at 1 103) None (receive_case (at 1 103) None (receive_nodes ((recv (at 1 116) (n 1 117 (codes "t")) (Some ((n 1 122 (codes "v")) ∷ [])) []) ∷ [])) no_otherwise) (handler_node None) None)) ∷ []) None (Some (n 1 136 (codes "m")))) ∷ [])

broken_7-ground : IsGroundOf broken_7 (ground_of broken_7)
broken_7-ground = record { names = refl; entries = refl }

broken_7-modes : broken_modes (ground_of broken_7) broken_7 ≡ []
broken_7-modes = refl

broken_7-counted : IsStatementGroundOf broken_7 (counted_ground_of broken_7)
broken_7-counted = record { names = refl; entries = refl }

broken_7-statements : broken_statements (counted_ground_of broken_7) broken_7 ≡ (told rules.S5 1 64 ∷ told rules.S5 1 93 ∷ told rules.S5 1 117 ∷ [])
broken_7-statements = refl

-- of an index
--   m: MODULE DCL a ARRAY (1:2) INT, t CHARS (3), x INT, c CHAR; x := a(1, 2); x := a(); c := t(); c := t(0, 1); x := a(1); c := t(0); END m;
abbrev broken_8 : ProgramTree
broken_8 = program ((modul (n 1 1 (codes "m")) modulions.Module ((local_item (locations (at 1 11) ((decl ((n 1 15 (codes "a")) ∷ []) (w.base_mode (w.array (at 1 17) (w.index_bounded (whole (at 1 24) 1) (whole (at 1 26) 2)) (w.discrete (w.named (n 1 29 (codes "INT")))) None)) None) ∷ (decl ((n 1 34 (codes "t")) ∷ []) (w.base_mode (w.chars (at 1 36) (whole (at 1 43) 3))) None) ∷ (decl ((n 1 47 (codes "x")) ∷ []) (w.base_mode (w.discrete (w.named (n 1 49 (codes "INT"))))) None) ∷ (decl ((n 1 54 (codes "c")) ∷ []) (w.base_mode (w.discrete (w.named (n 1 56 (codes "CHAR"))))) None) ∷ []))) ∷ (action (simple (at 1 62) (assign (at 1 62) (name (n 1 62 (codes "x"))) (apply (at 1 67) (name (n 1 67 (codes "a"))) (expr_nodes ((whole (at 1 69) 1) ∷ (whole (at 1 72) 2) ∷ [])))) (handler_node None))) ∷ (action (simple (at 1 76) (assign (at 1 76) (name (n 1 76 (codes "x"))) (apply (at 1 81) (name (n 1 81 (codes "a"))) (expr_nodes []))) (handler_node None))) ∷ (action (simple (at 1 86) (assign (at 1 86) (name (n 1 86 (codes "c"))) (apply (at 1 91) (name (n 1 91 (codes "t"))) (expr_nodes []))) (handler_node None))) ∷ (action (simple (at 1 96) (assign (at 1 96) (name (n 1 96 (codes "c"))) (apply (at 1 101) (name (n 1 101 (codes "t"))) (expr_nodes ((whole (at 1 103) 0) ∷ (whole (at 1 106) 1) ∷ [])))) (handler_node None))) ∷ (action (simple (at 1 110) (assign (at 1 110) (name (n 1 110 (codes "x"))) (apply (at 1 115) (name (n 1 115 (codes "a"))) (expr_nodes ((whole (at 1 117) 1) ∷ [])))) (handler_node None))) ∷ (action (simple (at 1 121) (assign (at 1 121) (name (n 1 121 (codes "c"))) (apply (at 1 126) (name (n 1 126 (codes "t"))) (expr_nodes ((whole (at 1 128) 0) ∷ [])))) (handler_node None))) ∷ []) None (Some (n 1 136 (codes "m")))) ∷ [])

broken_8-ground : IsGroundOf broken_8 (ground_of broken_8)
broken_8-ground = record { names = refl; entries = refl }

broken_8-modes : broken_modes (ground_of broken_8) broken_8 ≡ []
broken_8-modes = refl

broken_8-counted : IsStatementGroundOf broken_8 (counted_ground_of broken_8)
broken_8-counted = record { names = refl; entries = refl }

broken_8-statements : broken_statements (counted_ground_of broken_8) broken_8 ≡ (told rules.S5 1 67 ∷ told rules.S5 1 81 ∷ told rules.S5 1 91 ∷ told rules.S5 1 101 ∷ [])
broken_8-statements = refl

-- as many parts as there are
--   m: MODULE DCL x INT; p: PROC (); END p; q: PROCESS (); END q; SIGNAL s = (INT, INT); p(); START q(); RECEIVE CASE (s IN v, w): ESAC; PUT_NL(); x := GET_INT(); END m;
abbrev near_1 : ProgramTree
near_1 = program ((modul (n 1 1 (codes "m")) modulions.Module ((local_item (locations (at 1 11) ((decl ((n 1 15 (codes "x")) ∷ []) (w.base_mode (w.discrete (w.named (n 1 17 (codes "INT"))))) None) ∷ []))) ∷ (procedure (proc (n 1 22 (codes "p")) [] None None [] None (Some (n 1 38 (codes "p"))))) ∷ (process (proce (n 1 41 (codes "q")) [] [] None (Some (n 1 60 (codes "q"))))) ∷ (signals (at 1 63) ((sig (n 1 70 (codes "s")) (Some ((w.base_mode (w.discrete (w.named (n 1 75 (codes "INT"))))) ∷ (w.base_mode (w.discrete (w.named (n 1 80 (codes "INT"))))) ∷ [])) None) ∷ [])) ∷ (action (simple (at 1 86) (call_of (at 1 86) false (n 1 86 (codes "p")) []) (handler_node None))) ∷ (action (simple (at 1 91) (start_of (at 1 91) (n 1 97 (codes "q")) []) (handler_node None))) ∷ (action (bracketed (at 1 102) None (receive_case (at 1 102) None (receive_nodes ((recv (at 1 115) (n 1 116 (codes "s")) (Some ((n 1 121 (codes "v")) ∷ (n 1 124 (codes "w")) ∷ [])) []) ∷ [])) no_otherwise) (handler_node None) None)) ∷ (action (simple (at 1 134) (call_of (at 1 134) false (n 1 134 (codes "PUT_NL")) []) (handler_node None))) ∷ (action (simple (at 1 144) (assign (at 1 144) (name (n 1 144 (codes "x"))) (apply (at 1 149) (name (n 1 149 (codes "GET_INT"))) (expr_nodes []))) (handler_node None))) ∷ []) None (Some (n 1 164 (codes "m")))) ∷ [])

near_1-ground : IsGroundOf near_1 (ground_of near_1)
near_1-ground = record { names = refl; entries = refl }

near_1-modes : broken_modes (ground_of near_1) near_1 ≡ []
near_1-modes = refl

near_1-counted : IsStatementGroundOf near_1 (counted_ground_of near_1)
near_1-counted = record { names = refl; entries = refl }

near_1-statements : broken_statements (counted_ground_of near_1) near_1 ≡ []
near_1-statements = refl

near_1-processes : broken_processes (counted_ground_of near_1) near_1 ≡ []
near_1-processes = refl

-- names of one list are as many parameters
--   m: MODULE DCL i INSTANCE, a ARRAY (1:2) ARRAY (1:2) CHARS (2); p: PROC (k, l INT, o BOOL); END p; q: PROCESS (k, l INT); END q; p(1, 2, TRUE); i := START q(1, 2); a(1)(2)(0) := a(2)(1)(1); END m;
abbrev near_2 : ProgramTree
near_2 = program ((modul (n 1 1 (codes "m")) modulions.Module ((local_item (locations (at 1 11) ((decl ((n 1 15 (codes "i")) ∷ []) (w.base_mode (w.discrete (w.named (n 1 17 (codes "INSTANCE"))))) None) ∷ (decl ((n 1 27 (codes "a")) ∷ []) (w.base_mode (w.array (at 1 29) (w.index_bounded (whole (at 1 36) 1) (whole (at 1 38) 2)) (w.array (at 1 41) (w.index_bounded (whole (at 1 48) 1) (whole (at 1 50) 2)) (w.chars (at 1 53) (whole (at 1 60) 2)) None) None)) None) ∷ []))) ∷ (procedure (proc (n 1 64 (codes "p")) ((param ((n 1 73 (codes "k")) ∷ (n 1 76 (codes "l")) ∷ []) (w.base_mode (w.discrete (w.named (n 1 78 (codes "INT"))))) None) ∷ (param ((n 1 83 (codes "o")) ∷ []) (w.base_mode (w.discrete (w.named (n 1 85 (codes "BOOL"))))) None) ∷ []) None None [] None (Some (n 1 96 (codes "p"))))) ∷ (process (proce (n 1 99 (codes "q")) ((formal ((n 1 111 (codes "k")) ∷ (n 1 114 (codes "l")) ∷ []) (w.base_mode (w.discrete (w.named (n 1 116 (codes "INT")))))) ∷ []) [] None (Some (n 1 126 (codes "q"))))) ∷ (action (simple (at 1 129) (call_of (at 1 129) false (n 1 129 (codes "p")) ((whole (at 1 131) 1) ∷ (whole (at 1 134) 2) ∷ (name (n 1 137 (codes "TRUE"))) ∷ [])) (handler_node None))) ∷ (action (simple (at 1 144) (assign (at 1 144) (name (n 1 144 (codes "i"))) (start (at 1 149) (n 1 155 (codes "q")) (expr_nodes ((whole (at 1 157) 1) ∷ (whole (at 1 160) 2) ∷ [])))) (handler_node None))) ∷ (action (simple (at 1 164) (assign (at 1 164) (apply (at 1 164) (apply (at 1 164) (apply (at 1 164) (name (n 1 164 (codes "a"))) (expr_nodes ((whole (at 1 166) 1) ∷ []))) (expr_nodes ((whole (at 1 169) 2) ∷ []))) (expr_nodes ((whole (at 1 172) 0) ∷ []))) (apply (at 1 178) (apply (at 1 178) (apply (at 1 178) (name (n 1 178 (codes "a"))) (expr_nodes ((whole (at 1 180) 2) ∷ []))) (expr_nodes ((whole (at 1 183) 1) ∷ []))) (expr_nodes ((whole (at 1 186) 1) ∷ [])))) (handler_node None))) ∷ []) None (Some (n 1 194 (codes "m")))) ∷ [])

near_2-ground : IsGroundOf near_2 (ground_of near_2)
near_2-ground = record { names = refl; entries = refl }

near_2-modes : broken_modes (ground_of near_2) near_2 ≡ []
near_2-modes = refl

near_2-counted : IsStatementGroundOf near_2 (counted_ground_of near_2)
near_2-counted = record { names = refl; entries = refl }

near_2-statements : broken_statements (counted_ground_of near_2) near_2 ≡ []
near_2-statements = refl

near_2-processes : broken_processes (counted_ground_of near_2) near_2 ≡ []
near_2-processes = refl
