-- Rule S4: texts that break it, and texts that nearly do.
use Rattle.std.proofs.Common.{◌≡◌, refl}
use Rattle.std.specs.Prelude.{false, [], ◌∷◌, Some, None, codes}
use Rattle.chill_tree.specs.declared.tree.expr.Operator.TheVariants as ops
use Rattle.chill_tree.specs.declared.tree.expr.Prefix.TheVariants as prefixes
use Rattle.chill_tree.specs.declared.tree.item.ModulionKind.TheVariants as modulions
use Rattle.chill_tree.specs.ExprTree.{whole, text, name, apply, prefixed, binary, expr_nodes}
use Rattle.chill_tree.specs.ModeTree as w
use Rattle.chill_tree.specs.LocalTree.{new_modes, locations}
use Rattle.chill_tree.specs.SimpleTree.{return_with, assert_that, while_holds}
use Rattle.chill_tree.specs.StatementTree.{simple, bracketed, if_then, do_loop, statement_nodes, branch_nodes, no_otherwise, handler_node, action_part}
use Rattle.chill_tree.specs.ItemTree.{ProgramTree, local_item, procedure, action}
use Rattle.diagnostics.specs.declared.rule.Rule.TheVariants as rules
use Rattle.checks_model.specs.Table.{IsGroundOf, IsStatementGroundOf}
use Rattle.checks_model.specs.Phases.{broken_modes, broken_statements, broken_processes}
use Rattle.checks_examples.proofs.Programs.{at, n, modedef, init, decl, branch, proc, modul, program, ground_of, counted_ground_of, told}

-- a powerset is no condition
--   m: MODULE DCL p POWERSET BOOL; IF p THEN FI; IF TRUE IN p THEN FI; END m;
abbrev broken_1 : ProgramTree
broken_1 = program ((modul (n 1 1 (codes "m")) modulions.Module ((local_item (locations (at 1 11) ((decl ((n 1 15 (codes "p")) ∷ []) (w.base_mode (w.powerset (at 1 17) (w.named (n 1 26 (codes "BOOL"))))) None) ∷ []))) ∷ (action (bracketed (at 1 32) None (if_then (at 1 32) (name (n 1 35 (codes "p"))) (statement_nodes []) (branch_nodes []) no_otherwise) (handler_node None) None)) ∷ (action (bracketed (at 1 46) None (if_then (at 1 46) (binary (at 1 49) (name (n 1 49 (codes "TRUE"))) ops.In (at 1 54) (name (n 1 57 (codes "p")))) (statement_nodes []) (branch_nodes []) no_otherwise) (handler_node None) None)) ∷ []) None (Some (n 1 72 (codes "m")))) ∷ [])

broken_1-ground : IsGroundOf broken_1 (ground_of broken_1)
broken_1-ground = record { names = refl; entries = refl }

broken_1-modes : broken_modes (ground_of broken_1) broken_1 ≡ []
broken_1-modes = refl

broken_1-counted : IsStatementGroundOf broken_1 (counted_ground_of broken_1)
broken_1-counted = record { names = refl; entries = refl }

broken_1-statements : broken_statements (counted_ground_of broken_1) broken_1 ≡ (told rules.S4 1 35 ∷ [])
broken_1-statements = refl

-- of ASSERT
--   m: MODULE DCL x INT; ASSERT x; ASSERT 1; ASSERT NULL; ASSERT x = 1; END m;
abbrev broken_2 : ProgramTree
broken_2 = program ((modul (n 1 1 (codes "m")) modulions.Module ((local_item (locations (at 1 11) ((decl ((n 1 15 (codes "x")) ∷ []) (w.base_mode (w.discrete (w.named (n 1 17 (codes "INT"))))) None) ∷ []))) ∷ (action (simple (at 1 22) (assert_that (at 1 22) (name (n 1 29 (codes "x")))) (handler_node None))) ∷ (action (simple (at 1 32) (assert_that (at 1 32) (whole (at 1 39) 1)) (handler_node None))) ∷ (action (simple (at 1 42) (assert_that (at 1 42) (name (n 1 49 (codes "NULL")))) (handler_node None))) ∷ (action (simple (at 1 55) (assert_that (at 1 55) (binary (at 1 62) (name (n 1 62 (codes "x"))) ops.Equal (at 1 64) (whole (at 1 66) 1))) (handler_node None))) ∷ []) None (Some (n 1 73 (codes "m")))) ∷ [])

broken_2-ground : IsGroundOf broken_2 (ground_of broken_2)
broken_2-ground = record { names = refl; entries = refl }

broken_2-modes : broken_modes (ground_of broken_2) broken_2 ≡ []
broken_2-modes = refl

broken_2-counted : IsStatementGroundOf broken_2 (counted_ground_of broken_2)
broken_2-counted = record { names = refl; entries = refl }

broken_2-statements : broken_statements (counted_ground_of broken_2) broken_2 ≡ (told rules.S4 1 29 ∷ told rules.S4 1 39 ∷ told rules.S4 1 49 ∷ [])
broken_2-statements = refl

-- of IF and ELSIF
--   m: MODULE DCL x INT, c CHAR; IF x THEN ELSIF c THEN ELSIF "a" THEN FI; END m;
abbrev broken_3 : ProgramTree
broken_3 = program ((modul (n 1 1 (codes "m")) modulions.Module ((local_item (locations (at 1 11) ((decl ((n 1 15 (codes "x")) ∷ []) (w.base_mode (w.discrete (w.named (n 1 17 (codes "INT"))))) None) ∷ (decl ((n 1 22 (codes "c")) ∷ []) (w.base_mode (w.discrete (w.named (n 1 24 (codes "CHAR"))))) None) ∷ []))) ∷ (action (bracketed (at 1 30) None (if_then (at 1 30) (name (n 1 33 (codes "x"))) (statement_nodes []) (branch_nodes ((branch (at 1 40) (name (n 1 46 (codes "c"))) []) ∷ (branch (at 1 53) (text (at 1 59) (97 ∷ [])) []) ∷ [])) no_otherwise) (handler_node None) None)) ∷ []) None (Some (n 1 76 (codes "m")))) ∷ [])

broken_3-ground : IsGroundOf broken_3 (ground_of broken_3)
broken_3-ground = record { names = refl; entries = refl }

broken_3-modes : broken_modes (ground_of broken_3) broken_3 ≡ []
broken_3-modes = refl

broken_3-counted : IsStatementGroundOf broken_3 (counted_ground_of broken_3)
broken_3-counted = record { names = refl; entries = refl }

broken_3-statements : broken_statements (counted_ground_of broken_3) broken_3 ≡ (told rules.S4 1 33 ∷ told rules.S4 1 46 ∷ told rules.S4 1 59 ∷ [])
broken_3-statements = refl

-- a call that gives a BOOL
--   m: MODULE f: PROC () RETURNS (BOOL); RETURN TRUE; END f; IF f() THEN FI; DO WHILE NOT f(); OD; ASSERT f() OR FALSE; END m;
abbrev near_1 : ProgramTree
near_1 = program ((modul (n 1 1 (codes "m")) modulions.Module ((procedure (proc (n 1 11 (codes "f")) [] (Some (w.base_mode (w.discrete (w.named (n 1 31 (codes "BOOL")))))) None ((action_part (simple (at 1 38) (return_with (at 1 38) (Some (name (n 1 45 (codes "TRUE"))))) (handler_node None))) ∷ []) None (Some (n 1 55 (codes "f"))))) ∷ (action (bracketed (at 1 58) None (if_then (at 1 58) (apply (at 1 61) (name (n 1 61 (codes "f"))) (expr_nodes [])) (statement_nodes []) (branch_nodes []) no_otherwise) (handler_node None) None)) ∷ (action (bracketed (at 1 74) None (do_loop (at 1 74) (while_holds (at 1 77) (prefixed (at 1 83) prefixes.Not (apply (at 1 87) (name (n 1 87 (codes "f"))) (expr_nodes [])))) (statement_nodes [])) (handler_node None) None)) ∷ (action (simple (at 1 96) (assert_that (at 1 96) (binary (at 1 103) (apply (at 1 103) (name (n 1 103 (codes "f"))) (expr_nodes [])) ops.Or (at 1 107) (name (n 1 110 (codes "FALSE"))))) (handler_node None))) ∷ []) None (Some (n 1 121 (codes "m")))) ∷ [])

near_1-ground : IsGroundOf near_1 (ground_of near_1)
near_1-ground = record { names = refl; entries = refl }

near_1-modes : broken_modes (ground_of near_1) near_1 ≡ []
near_1-modes = refl

near_1-counted : IsStatementGroundOf near_1 (counted_ground_of near_1)
near_1-counted = record { names = refl; entries = refl }

near_1-statements : broken_statements (counted_ground_of near_1) near_1 ≡ []
near_1-statements = refl

near_1-processes : broken_processes (counted_ground_of near_1) near_1 ≡ []
near_1-processes = refl

-- BOOL of any novelty and range
--   m: MODULE NEWMODE flag = BOOL; DCL x flag, y BOOL (TRUE:TRUE), z READ BOOL := TRUE; IF x THEN ELSIF y THEN ELSIF z THEN FI; DO WHILE x AND x; OD; ASSERT TRUE; END m;
abbrev near_2 : ProgramTree
near_2 = program ((modul (n 1 1 (codes "m")) modulions.Module ((local_item (new_modes (at 1 11) ((modedef (n 1 19 (codes "flag")) (w.base_mode (w.discrete (w.named (n 1 26 (codes "BOOL")))))) ∷ []))) ∷ (local_item (locations (at 1 32) ((decl ((n 1 36 (codes "x")) ∷ []) (w.base_mode (w.discrete (w.named (n 1 38 (codes "flag"))))) None) ∷ (decl ((n 1 44 (codes "y")) ∷ []) (w.base_mode (w.discrete (w.bounded (n 1 46 (codes "BOOL")) (name (n 1 52 (codes "TRUE"))) (name (n 1 57 (codes "TRUE")))))) None) ∷ (decl ((n 1 64 (codes "z")) ∷ []) (w.read_mode (at 1 66) (w.discrete (w.named (n 1 71 (codes "BOOL"))))) (Some (init (at 1 76) false (name (n 1 79 (codes "TRUE")))))) ∷ []))) ∷ (action (bracketed (at 1 85) None (if_then (at 1 85) (name (n 1 88 (codes "x"))) (statement_nodes []) (branch_nodes ((branch (at 1 95) (name (n 1 101 (codes "y"))) []) ∷ (branch (at 1 108) (name (n 1 114 (codes "z"))) []) ∷ [])) no_otherwise) (handler_node None) None)) ∷ (action (bracketed (at 1 125) None (do_loop (at 1 125) (while_holds (at 1 128) (binary (at 1 134) (name (n 1 134 (codes "x"))) ops.And (at 1 136) (name (n 1 140 (codes "x"))))) (statement_nodes [])) (handler_node None) None)) ∷ (action (simple (at 1 147) (assert_that (at 1 147) (name (n 1 154 (codes "TRUE")))) (handler_node None))) ∷ []) None (Some (n 1 164 (codes "m")))) ∷ [])

near_2-ground : IsGroundOf near_2 (ground_of near_2)
near_2-ground = record { names = refl; entries = refl }

near_2-modes : broken_modes (ground_of near_2) near_2 ≡ []
near_2-modes = refl

near_2-counted : IsStatementGroundOf near_2 (counted_ground_of near_2)
near_2-counted = record { names = refl; entries = refl }

near_2-statements : broken_statements (counted_ground_of near_2) near_2 ≡ []
near_2-statements = refl

near_2-processes : broken_processes (counted_ground_of near_2) near_2 ≡ []
near_2-processes = refl
