-- Rule S10: texts that break it, and texts that nearly do.
use Rattle.std.proofs.Common.{◌≡◌, refl}
use Rattle.std.specs.Prelude.{true, false, [], ◌∷◌, Some, None, codes}
use Rattle.chill_tree.specs.declared.tree.expr.Operator.TheVariants as ops
use Rattle.chill_tree.specs.declared.tree.expr.Prefix.TheVariants as prefixes
use Rattle.chill_tree.specs.declared.tree.item.ModulionKind.TheVariants as modulions
use Rattle.chill_tree.specs.ExprTree.{whole, text, tuple, name, apply, prefixed, binary, alone, expr_nodes, range_nodes}
use Rattle.chill_tree.specs.ModeTree as w
use Rattle.chill_tree.specs.LocalTree.{locations}
use Rattle.chill_tree.specs.SimpleTree.{assign, call_of, return_with, start_of, send, while_holds, for_steps}
use Rattle.chill_tree.specs.StatementTree.{simple, bracketed, if_then, do_loop, statement_nodes, branch_nodes, no_otherwise, handler_node, action_part}
use Rattle.chill_tree.specs.ItemTree.{ProgramTree, local_item, signals, procedure, process, action}
use Rattle.diagnostics.specs.declared.rule.Rule.TheVariants as rules
use Rattle.checks_model.specs.Table.{IsGroundOf, IsStatementGroundOf}
use Rattle.checks_model.specs.Phases.{broken_modes, broken_statements, broken_processes}
use Rattle.checks_examples.proofs.Programs.{at, n, init, decl, sig, param, formal, proc, proce, modul, program, ground_of, counted_ground_of, told}

-- the routines of output
--   m: MODULE DCL n INT; n := PUT_INT(1); n := 1 + PUT_NL(); PUT_TEXT(PUT_TEXT("a")); END m;
abbrev broken_1 : ProgramTree
broken_1 = program ((modul (n 1 1 (codes "m")) modulions.Module ((local_item (locations (at 1 11) ((decl ((n 1 15 (codes "n")) ∷ []) (w.base_mode (w.discrete (w.named (n 1 17 (codes "INT"))))) None) ∷ []))) ∷ (action (simple (at 1 22) (assign (at 1 22) (name (n 1 22 (codes "n"))) (apply (at 1 27) (name (n 1 27 (codes "PUT_INT"))) (expr_nodes ((whole (at 1 35) 1) ∷ [])))) (handler_node None))) ∷ (action (simple (at 1 39) (assign (at 1 39) (name (n 1 39 (codes "n"))) (binary (at 1 44) (whole (at 1 44) 1) ops.Plus (at 1 46) (apply (at 1 48) (name (n 1 48 (codes "PUT_NL"))) (expr_nodes [])))) (handler_node None))) ∷ (action (simple (at 1 58) (call_of (at 1 58) false (n 1 58 (codes "PUT_TEXT")) ((apply (at 1 67) (name (n 1 67 (codes "PUT_TEXT"))) (expr_nodes ((text (at 1 76) (97 ∷ [])) ∷ []))) ∷ [])) (handler_node None))) ∷ []) None (Some (n 1 87 (codes "m")))) ∷ [])

broken_1-ground : IsGroundOf broken_1 (ground_of broken_1)
broken_1-ground = record { names = refl; entries = refl }

broken_1-modes : broken_modes (ground_of broken_1) broken_1 ≡ []
broken_1-modes = refl

broken_1-counted : IsStatementGroundOf broken_1 (counted_ground_of broken_1)
broken_1-counted = record { names = refl; entries = refl }

broken_1-statements : broken_statements (counted_ground_of broken_1) broken_1 ≡ (told rules.S10 1 27 ∷ told rules.S10 1 48 ∷ told rules.S10 1 67 ∷ [])
broken_1-statements = refl

-- a fault of an argument is told alone
--   m: MODULE DCL n INT; p: PROC (k INT); END p; n := p(TRUE); PUT_INT(p(n + TRUE)); n := p(1); END m;
abbrev broken_2 : ProgramTree
broken_2 = program ((modul (n 1 1 (codes "m")) modulions.Module ((local_item (locations (at 1 11) ((decl ((n 1 15 (codes "n")) ∷ []) (w.base_mode (w.discrete (w.named (n 1 17 (codes "INT"))))) None) ∷ []))) ∷ (procedure (proc (n 1 22 (codes "p")) ((param ((n 1 31 (codes "k")) ∷ []) (w.base_mode (w.discrete (w.named (n 1 33 (codes "INT"))))) None) ∷ []) None None [] None (Some (n 1 43 (codes "p"))))) ∷ (action (simple (at 1 46) (assign (at 1 46) (name (n 1 46 (codes "n"))) (apply (at 1 51) (name (n 1 51 (codes "p"))) (expr_nodes ((name (n 1 53 (codes "TRUE"))) ∷ [])))) (handler_node None))) ∷ (action (simple (at 1 60) (call_of (at 1 60) false (n 1 60 (codes "PUT_INT")) ((apply (at 1 68) (name (n 1 68 (codes "p"))) (expr_nodes ((binary (at 1 70) (name (n 1 70 (codes "n"))) ops.Plus (at 1 72) (name (n 1 74 (codes "TRUE")))) ∷ []))) ∷ [])) (handler_node None))) ∷ (action (simple (at 1 82) (assign (at 1 82) (name (n 1 82 (codes "n"))) (apply (at 1 87) (name (n 1 87 (codes "p"))) (expr_nodes ((whole (at 1 89) 1) ∷ [])))) (handler_node None))) ∷ []) None (Some (n 1 97 (codes "m")))) ∷ [])

broken_2-ground : IsGroundOf broken_2 (ground_of broken_2)
broken_2-ground = record { names = refl; entries = refl }

broken_2-modes : broken_modes (ground_of broken_2) broken_2 ≡ []
broken_2-modes = refl

broken_2-counted : IsStatementGroundOf broken_2 (counted_ground_of broken_2)
broken_2-counted = record { names = refl; entries = refl }

broken_2-statements : broken_statements (counted_ground_of broken_2) broken_2 ≡ (told rules.S2 1 53 ∷ told rules.S1 1 72 ∷ told rules.S10 1 87 ∷ [])
broken_2-statements = refl

-- in a declaration, an assignment, an argument, a condition
--   m: MODULE p: PROC (); END p; DCL n INT := p(); n := p(); PUT_INT(p()); IF p() THEN FI; DO WHILE p(); OD; END m;
abbrev broken_3 : ProgramTree
broken_3 = program ((modul (n 1 1 (codes "m")) modulions.Module ((procedure (proc (n 1 11 (codes "p")) [] None None [] None (Some (n 1 27 (codes "p"))))) ∷ (local_item (locations (at 1 30) ((decl ((n 1 34 (codes "n")) ∷ []) (w.base_mode (w.discrete (w.named (n 1 36 (codes "INT"))))) (Some (init (at 1 40) false (apply (at 1 43) (name (n 1 43 (codes "p"))) (expr_nodes []))))) ∷ []))) ∷ (action (simple (at 1 48) (assign (at 1 48) (name (n 1 48 (codes "n"))) (apply (at 1 53) (name (n 1 53 (codes "p"))) (expr_nodes []))) (handler_node None))) ∷ (action (simple (at 1 58) (call_of (at 1 58) false (n 1 58 (codes "PUT_INT")) ((apply (at 1 66) (name (n 1 66 (codes "p"))) (expr_nodes [])) ∷ [])) (handler_node None))) ∷ (action (bracketed (at 1 72) None (if_then (at 1 72) (apply (at 1 75) (name (n 1 75 (codes "p"))) (expr_nodes [])) (statement_nodes []) (branch_nodes []) no_otherwise) (handler_node None) None)) ∷ (action (bracketed (at 1 88) None (do_loop (at 1 88) (while_holds (at 1 91) (apply (at 1 97) (name (n 1 97 (codes "p"))) (expr_nodes []))) (statement_nodes [])) (handler_node None) None)) ∷ []) None (Some (n 1 110 (codes "m")))) ∷ [])

broken_3-ground : IsGroundOf broken_3 (ground_of broken_3)
broken_3-ground = record { names = refl; entries = refl }

broken_3-modes : broken_modes (ground_of broken_3) broken_3 ≡ []
broken_3-modes = refl

broken_3-counted : IsStatementGroundOf broken_3 (counted_ground_of broken_3)
broken_3-counted = record { names = refl; entries = refl }

broken_3-statements : broken_statements (counted_ground_of broken_3) broken_3 ≡ (told rules.S10 1 43 ∷ told rules.S10 1 53 ∷ told rules.S10 1 66 ∷ told rules.S10 1 75 ∷ told rules.S10 1 97 ∷ [])
broken_3-statements = refl

-- in an expression, an index, a tuple
--   m: MODULE DCL n INT, a ARRAY (1:2) INT; p: PROC (); END p; n := 1 + p(); n := -p(); a(p()) := 1; a := [1, p()]; n := ABS(p()); END m;
abbrev broken_4 : ProgramTree
broken_4 = program ((modul (n 1 1 (codes "m")) modulions.Module ((local_item (locations (at 1 11) ((decl ((n 1 15 (codes "n")) ∷ []) (w.base_mode (w.discrete (w.named (n 1 17 (codes "INT"))))) None) ∷ (decl ((n 1 22 (codes "a")) ∷ []) (w.base_mode (w.array (at 1 24) (w.index_bounded (whole (at 1 31) 1) (whole (at 1 33) 2)) (w.discrete (w.named (n 1 36 (codes "INT")))) None)) None) ∷ []))) ∷ (procedure (proc (n 1 41 (codes "p")) [] None None [] None (Some (n 1 57 (codes "p"))))) ∷ (action (simple (at 1 60) (assign (at 1 60) (name (n 1 60 (codes "n"))) (binary (at 1 65) (whole (at 1 65) 1) ops.Plus (at 1 67) (apply (at 1 69) (name (n 1 69 (codes "p"))) (expr_nodes [])))) (handler_node None))) ∷ (action (simple (at 1 74) (assign (at 1 74) (name (n 1 74 (codes "n"))) (prefixed (at 1 79) prefixes.Minus (apply (at 1 80) (name (n 1 80 (codes "p"))) (expr_nodes [])))) (handler_node None))) ∷ (action (simple (at 1 85) (assign (at 1 85) (apply (at 1 85) (name (n 1 85 (codes "a"))) (expr_nodes ((apply (at 1 87) (name (n 1 87 (codes "p"))) (expr_nodes [])) ∷ []))) (whole (at 1 95) 1)) (handler_node None))) ∷ (action (simple (at 1 98) (assign (at 1 98) (name (n 1 98 (codes "a"))) (tuple (at 1 103) None (at 1 103) (range_nodes ((alone (whole (at 1 104) 1)) ∷ (alone (apply (at 1 107) (name (n 1 107 (codes "p"))) (expr_nodes []))) ∷ [])))) (handler_node None))) ∷ (action (simple (at 1 113) (assign (at 1 113) (name (n 1 113 (codes "n"))) (apply (at 1 118) (name (n 1 118 (codes "ABS"))) (expr_nodes ((apply (at 1 122) (name (n 1 122 (codes "p"))) (expr_nodes [])) ∷ [])))) (handler_node None))) ∷ []) None (Some (n 1 132 (codes "m")))) ∷ [])

broken_4-ground : IsGroundOf broken_4 (ground_of broken_4)
broken_4-ground = record { names = refl; entries = refl }

broken_4-modes : broken_modes (ground_of broken_4) broken_4 ≡ []
broken_4-modes = refl

broken_4-counted : IsStatementGroundOf broken_4 (counted_ground_of broken_4)
broken_4-counted = record { names = refl; entries = refl }

broken_4-statements : broken_statements (counted_ground_of broken_4) broken_4 ≡ (told rules.S10 1 69 ∷ told rules.S10 1 80 ∷ told rules.S10 1 87 ∷ told rules.S10 1 107 ∷ told rules.S10 1 122 ∷ [])
broken_4-statements = refl

-- in RETURN, in a message, in TO, in START, in a loop
--   m: MODULE DCL b BUFFER INT; SIGNAL s; p: PROC (); END p; f: PROC () RETURNS (INT); RETURN p(); END f; q: PROCESS (k INT); END q;
--   SEND b (p()); SEND s TO p(); START q(p()); DO FOR i := p() TO 3; OD; END m;
abbrev broken_5 : ProgramTree
broken_5 = program ((modul (n 1 1 (codes "m")) modulions.Module ((local_item (locations (at 1 11) ((decl ((n 1 15 (codes "b")) ∷ []) (w.buffer_mode (at 1 17) None (w.discrete (w.named (n 1 24 (codes "INT"))))) None) ∷ []))) ∷ (signals (at 1 29) ((sig (n 1 36 (codes "s")) None None) ∷ [])) ∷ (procedure (proc (n 1 39 (codes "p")) [] None None [] None (Some (n 1 55 (codes "p"))))) ∷ (procedure (proc (n 1 58 (codes "f")) [] (Some (w.base_mode (w.discrete (w.named (n 1 78 (codes "INT")))))) None ((action_part (simple (at 1 84) (return_with (at 1 84) (Some (apply (at 1 91) (name (n 1 91 (codes "p"))) (expr_nodes [])))) (handler_node None))) ∷ []) None (Some (n 1 100 (codes "f"))))) ∷ (process (proce (n 1 103 (codes "q")) ((formal ((n 1 115 (codes "k")) ∷ []) (w.base_mode (w.discrete (w.named (n 1 117 (codes "INT")))))) ∷ []) [] None (Some (n 1 127 (codes "q"))))) ∷ (action (simple (at 2 1) (send (at 2 1) (n 2 6 (codes "b")) (Some ((apply (at 2 9) (name (n 2 9 (codes "p"))) (expr_nodes [])) ∷ [])) None None) (handler_node None))) ∷ (action (simple (at 2 15) (send (at 2 15) (n 2 20 (codes "s")) None (Some (apply (at 2 25) (name (n 2 25 (codes "p"))) (expr_nodes []))) None) (handler_node None))) ∷ (action (simple (at 2 30) (start_of (at 2 30) (n 2 36 (codes "q")) ((apply (at 2 38) (name (n 2 38 (codes "p"))) (expr_nodes [])) ∷ [])) (handler_node None))) ∷ (action (bracketed (at 2 44) None (do_loop (at 2 44) (for_steps (at 2 47) (n 2 51 (codes "i")) (apply (at 2 56) (name (n 2 56 (codes "p"))) (expr_nodes [])) None false (whole (at 2 63) 3) None) (statement_nodes [])) (handler_node None) None)) ∷ []) None (Some (n 2 74 (codes "m")))) ∷ [])

broken_5-ground : IsGroundOf broken_5 (ground_of broken_5)
broken_5-ground = record { names = refl; entries = refl }

broken_5-modes : broken_modes (ground_of broken_5) broken_5 ≡ []
broken_5-modes = refl

broken_5-counted : IsStatementGroundOf broken_5 (counted_ground_of broken_5)
broken_5-counted = record { names = refl; entries = refl }

broken_5-statements : broken_statements (counted_ground_of broken_5) broken_5 ≡ (told rules.S10 1 91 ∷ told rules.S10 2 9 ∷ told rules.S10 2 25 ∷ told rules.S10 2 38 ∷ told rules.S10 2 56 ∷ [])
broken_5-statements = refl

-- a call without a result as an action
--   m: MODULE p: PROC (); END p; p(); CALL p(); PUT_NL(); CALL PUT_INT(1); END m;
abbrev near_1 : ProgramTree
near_1 = program ((modul (n 1 1 (codes "m")) modulions.Module ((procedure (proc (n 1 11 (codes "p")) [] None None [] None (Some (n 1 27 (codes "p"))))) ∷ (action (simple (at 1 30) (call_of (at 1 30) false (n 1 30 (codes "p")) []) (handler_node None))) ∷ (action (simple (at 1 35) (call_of (at 1 35) true (n 1 40 (codes "p")) []) (handler_node None))) ∷ (action (simple (at 1 45) (call_of (at 1 45) false (n 1 45 (codes "PUT_NL")) []) (handler_node None))) ∷ (action (simple (at 1 55) (call_of (at 1 55) true (n 1 60 (codes "PUT_INT")) ((whole (at 1 68) 1) ∷ [])) (handler_node None))) ∷ []) None (Some (n 1 76 (codes "m")))) ∷ [])

near_1-ground : IsGroundOf near_1 (ground_of near_1)
near_1-ground = record { names = refl; entries = refl }

near_1-modes : broken_modes (ground_of near_1) near_1 ≡ []
near_1-modes = refl

near_1-counted : IsStatementGroundOf near_1 (counted_ground_of near_1)
near_1-counted = record { names = refl; entries = refl }

near_1-statements : broken_statements (counted_ground_of near_1) near_1 ≡ []
near_1-statements = refl

near_1-processes : broken_processes (counted_ground_of near_1) near_1 ≡ []
near_1-processes = refl

-- a call with a result may stand as an action, and so may a routine
--   m: MODULE DCL n INT; f: PROC () RETURNS (INT); RETURN 1; END f; f(); CALL f(); n := f() + GET_INT(); ABS(n); GET_INT(); UPPER(n); NUM(1); END m;
abbrev near_2 : ProgramTree
near_2 = program ((modul (n 1 1 (codes "m")) modulions.Module ((local_item (locations (at 1 11) ((decl ((n 1 15 (codes "n")) ∷ []) (w.base_mode (w.discrete (w.named (n 1 17 (codes "INT"))))) None) ∷ []))) ∷ (procedure (proc (n 1 22 (codes "f")) [] (Some (w.base_mode (w.discrete (w.named (n 1 42 (codes "INT")))))) None ((action_part (simple (at 1 48) (return_with (at 1 48) (Some (whole (at 1 55) 1))) (handler_node None))) ∷ []) None (Some (n 1 62 (codes "f"))))) ∷ (action (simple (at 1 65) (call_of (at 1 65) false (n 1 65 (codes "f")) []) (handler_node None))) ∷ (action (simple (at 1 70) (call_of (at 1 70) true (n 1 75 (codes "f")) []) (handler_node None))) ∷ (action (simple (at 1 80) (assign (at 1 80) (name (n 1 80 (codes "n"))) (binary (at 1 85) (apply (at 1 85) (name (n 1 85 (codes "f"))) (expr_nodes [])) ops.Plus (at 1 89) (apply (at 1 91) (name (n 1 91 (codes "GET_INT"))) (expr_nodes [])))) (handler_node None))) ∷ (action (simple (at 1 102) (call_of (at 1 102) false (n 1 102 (codes "ABS")) ((name (n 1 106 (codes "n"))) ∷ [])) (handler_node None))) ∷ (action (simple (at 1 110) (call_of (at 1 110) false (n 1 110 (codes "GET_INT")) []) (handler_node None))) ∷ (action (simple (at 1 121) (call_of (at 1 121) false (n 1 121 (codes "UPPER")) ((name (n 1 127 (codes "n"))) ∷ [])) (handler_node None))) ∷ (action (simple (at 1 131) (call_of (at 1 131) false (n 1 131 (codes "NUM")) ((whole (at 1 135) 1) ∷ [])) (handler_node None))) ∷ []) None (Some (n 1 143 (codes "m")))) ∷ [])

near_2-ground : IsGroundOf near_2 (ground_of near_2)
near_2-ground = record { names = refl; entries = refl }

near_2-modes : broken_modes (ground_of near_2) near_2 ≡ []
near_2-modes = refl

near_2-counted : IsStatementGroundOf near_2 (counted_ground_of near_2)
near_2-counted = record { names = refl; entries = refl }

near_2-statements : broken_statements (counted_ground_of near_2) near_2 ≡ []
near_2-statements = refl

near_2-processes : broken_processes (counted_ground_of near_2) near_2 ≡ []
near_2-processes = refl
