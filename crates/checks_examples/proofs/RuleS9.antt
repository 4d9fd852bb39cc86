-- Rule S9: texts that break it, and texts that nearly do.
use Rattle.std.proofs.Common.{◌≡◌, refl}
use Rattle.std.specs.Prelude.{false, [], ◌∷◌, Some, None, codes}
use Rattle.chill_tree.specs.declared.tree.expr.Operator.TheVariants as ops
use Rattle.chill_tree.specs.declared.tree.item.ModulionKind.TheVariants as modulions
use Rattle.chill_tree.specs.declared.tree.item.Passed.TheVariants.{Names}
use Rattle.chill_tree.specs.ExprTree.{whole, tuple, name, apply, binary, alone, expr_nodes, range_nodes}
use Rattle.chill_tree.specs.ModeTree as w
use Rattle.chill_tree.specs.LocalTree.{locations}
use Rattle.chill_tree.specs.SimpleTree.{call_of, return_with, result_of, for_ever}
use Rattle.chill_tree.specs.StatementTree.{empty, simple, bracketed, if_then, do_loop, begin_end, statement_nodes, branch_nodes, no_otherwise, handler_node, body_nodes, action_part}
use Rattle.chill_tree.specs.ItemTree.{ProgramTree, seize, grant, local_item, procedure, process, action}
use Rattle.diagnostics.specs.declared.rule.Rule.TheVariants as rules
use Rattle.checks_model.specs.Table.{IsGroundOf, IsStatementGroundOf}
use Rattle.checks_model.specs.Phases.{broken_modes, broken_statements, broken_processes}
use Rattle.checks_examples.proofs.Programs.{at, n, decl, alt, hand, proc, proce, modul, program, ground_of, counted_ground_of, told}

-- in a handler of a module
--   m: MODULE ; END ON ELSE RETURN; END m;
abbrev broken_1 : ProgramTree
broken_1 = program ((modul (n 1 1 (codes "m")) modulions.Module ((action (empty (at 1 11))) ∷ []) (Some (hand (at 1 17) [] (Some ((simple (at 1 25) (return_with (at 1 25) None) (handler_node None)) ∷ [])))) (Some (n 1 37 (codes "m")))) ∷ [])

broken_1-ground : IsGroundOf broken_1 (ground_of broken_1)
broken_1-ground = record { names = refl; entries = refl }

broken_1-modes : broken_modes (ground_of broken_1) broken_1 ≡ []
broken_1-modes = refl

broken_1-counted : IsStatementGroundOf broken_1 (counted_ground_of broken_1)
broken_1-counted = record { names = refl; entries = refl }

broken_1-statements : broken_statements (counted_ground_of broken_1) broken_1 ≡ (told rules.S9 1 25 ∷ [])
broken_1-statements = refl

-- a value without RETURNS
--   m: MODULE p: PROC (); RETURN 1; RESULT 2; RETURN; END p; END m;
abbrev broken_2 : ProgramTree
broken_2 = program ((modul (n 1 1 (codes "m")) modulions.Module ((procedure (proc (n 1 11 (codes "p")) [] None None ((action_part (simple (at 1 23) (return_with (at 1 23) (Some (whole (at 1 30) 1))) (handler_node None))) ∷ (action_part (simple (at 1 33) (result_of (at 1 33) (whole (at 1 40) 2)) (handler_node None))) ∷ (action_part (simple (at 1 43) (return_with (at 1 43) None) (handler_node None))) ∷ []) None (Some (n 1 55 (codes "p"))))) ∷ []) None (Some (n 1 62 (codes "m")))) ∷ [])

broken_2-ground : IsGroundOf broken_2 (ground_of broken_2)
broken_2-ground = record { names = refl; entries = refl }

broken_2-modes : broken_modes (ground_of broken_2) broken_2 ≡ []
broken_2-modes = refl

broken_2-counted : IsStatementGroundOf broken_2 (counted_ground_of broken_2)
broken_2-counted = record { names = refl; entries = refl }

broken_2-statements : broken_statements (counted_ground_of broken_2) broken_2 ≡ (told rules.S9 1 23 ∷ told rules.S9 1 33 ∷ [])
broken_2-statements = refl

-- RESULT outside a procedure
--   m: MODULE DCL x INT; RESULT 1; IF TRUE THEN RESULT x; FI; END m;
abbrev broken_3 : ProgramTree
broken_3 = program ((modul (n 1 1 (codes "m")) modulions.Module ((local_item (locations (at 1 11) ((decl ((n 1 15 (codes "x")) ∷ []) (w.base_mode (w.discrete (w.named (n 1 17 (codes "INT"))))) None) ∷ []))) ∷ (action (simple (at 1 22) (result_of (at 1 22) (whole (at 1 29) 1)) (handler_node None))) ∷ (action (bracketed (at 1 32) None (if_then (at 1 32) (name (n 1 35 (codes "TRUE"))) (statement_nodes ((simple (at 1 45) (result_of (at 1 45) (name (n 1 52 (codes "x")))) (handler_node None)) ∷ [])) (branch_nodes []) no_otherwise) (handler_node None) None)) ∷ []) None (Some (n 1 63 (codes "m")))) ∷ [])

broken_3-ground : IsGroundOf broken_3 (ground_of broken_3)
broken_3-ground = record { names = refl; entries = refl }

broken_3-modes : broken_modes (ground_of broken_3) broken_3 ≡ []
broken_3-modes = refl

broken_3-counted : IsStatementGroundOf broken_3 (counted_ground_of broken_3)
broken_3-counted = record { names = refl; entries = refl }

broken_3-statements : broken_statements (counted_ground_of broken_3) broken_3 ≡ (told rules.S9 1 22 ∷ told rules.S9 1 45 ∷ [])
broken_3-statements = refl

-- outside a procedure
--   m: MODULE RETURN; BEGIN RETURN; END; DO FOR EVER; RETURN 1; OD; END m;
abbrev broken_4 : ProgramTree
broken_4 = program ((modul (n 1 1 (codes "m")) modulions.Module ((action (simple (at 1 11) (return_with (at 1 11) None) (handler_node None))) ∷ (action (bracketed (at 1 19) None (begin_end (at 1 19) (body_nodes ((action_part (simple (at 1 25) (return_with (at 1 25) None) (handler_node None))) ∷ []))) (handler_node None) None)) ∷ (action (bracketed (at 1 38) None (do_loop (at 1 38) (for_ever (at 1 41)) (statement_nodes ((simple (at 1 51) (return_with (at 1 51) (Some (whole (at 1 58) 1))) (handler_node None)) ∷ []))) (handler_node None) None)) ∷ []) None (Some (n 1 69 (codes "m")))) ∷ [])

broken_4-ground : IsGroundOf broken_4 (ground_of broken_4)
broken_4-ground = record { names = refl; entries = refl }

broken_4-modes : broken_modes (ground_of broken_4) broken_4 ≡ []
broken_4-modes = refl

broken_4-counted : IsStatementGroundOf broken_4 (counted_ground_of broken_4)
broken_4-counted = record { names = refl; entries = refl }

broken_4-statements : broken_statements (counted_ground_of broken_4) broken_4 ≡ (told rules.S9 1 11 ∷ told rules.S9 1 25 ∷ told rules.S9 1 51 ∷ [])
broken_4-statements = refl

-- in a process
--   m: MODULE q: PROCESS (); RETURN; RESULT 1; RETURN 1; END ON ELSE RETURN; END q; END m;
abbrev broken_5 : ProgramTree
broken_5 = program ((modul (n 1 1 (codes "m")) modulions.Module ((process (proce (n 1 11 (codes "q")) [] ((action_part (simple (at 1 26) (return_with (at 1 26) None) (handler_node None))) ∷ (action_part (simple (at 1 34) (result_of (at 1 34) (whole (at 1 41) 1)) (handler_node None))) ∷ (action_part (simple (at 1 44) (return_with (at 1 44) (Some (whole (at 1 51) 1))) (handler_node None))) ∷ []) (Some (hand (at 1 58) [] (Some ((simple (at 1 66) (return_with (at 1 66) None) (handler_node None)) ∷ [])))) (Some (n 1 78 (codes "q"))))) ∷ []) None (Some (n 1 85 (codes "m")))) ∷ [])

broken_5-ground : IsGroundOf broken_5 (ground_of broken_5)
broken_5-ground = record { names = refl; entries = refl }

broken_5-modes : broken_modes (ground_of broken_5) broken_5 ≡ []
broken_5-modes = refl

broken_5-counted : IsStatementGroundOf broken_5 (counted_ground_of broken_5)
broken_5-counted = record { names = refl; entries = refl }

broken_5-statements : broken_statements (counted_ground_of broken_5) broken_5 ≡ (told rules.S9 1 26 ∷ told rules.S9 1 34 ∷ told rules.S9 1 44 ∷ told rules.S9 1 66 ∷ [])
broken_5-statements = refl

-- the value has its own faults, and a tuple no mode
--   m: MODULE DCL x INT; p: PROC (); RETURN x + TRUE; RESULT [1]; END p; END m;
abbrev broken_6 : ProgramTree
broken_6 = program ((modul (n 1 1 (codes "m")) modulions.Module ((local_item (locations (at 1 11) ((decl ((n 1 15 (codes "x")) ∷ []) (w.base_mode (w.discrete (w.named (n 1 17 (codes "INT"))))) None) ∷ []))) ∷ (procedure (proc (n 1 22 (codes "p")) [] None None ((action_part (simple (at 1 34) (return_with (at 1 34) (Some (binary (at 1 41) (name (n 1 41 (codes "x"))) ops.Plus (at 1 43) (name (n 1 45 (codes "TRUE")))))) (handler_node None))) ∷ (action_part (simple (at 1 51) (result_of (at 1 51) (tuple (at 1 58) None (at 1 58) (range_nodes ((alone (whole (at 1 59) 1)) ∷ [])))) (handler_node None))) ∷ []) None (Some (n 1 67 (codes "p"))))) ∷ []) None (Some (n 1 74 (codes "m")))) ∷ [])

broken_6-ground : IsGroundOf broken_6 (ground_of broken_6)
broken_6-ground = record { names = refl; entries = refl }

broken_6-modes : broken_modes (ground_of broken_6) broken_6 ≡ []
broken_6-modes = refl

broken_6-counted : IsStatementGroundOf broken_6 (counted_ground_of broken_6)
broken_6-counted = record { names = refl; entries = refl }

broken_6-statements : broken_statements (counted_ground_of broken_6) broken_6 ≡ (told rules.S9 1 34 ∷ told rules.S1 1 43 ∷ told rules.S9 1 51 ∷ [])
broken_6-statements = refl

-- a procedure of a region
--   r: REGION GRANT f; f: PROC () RETURNS (INT); RETURN 1; END f; END r; m: MODULE SEIZE f; PUT_INT(f()); END m;
abbrev near_1 : ProgramTree
near_1 = program ((modul (n 1 1 (codes "r")) modulions.Region ((grant (at 1 11) (Names ((n 1 17 (codes "f")) ∷ []))) ∷ (procedure (proc (n 1 20 (codes "f")) [] (Some (w.base_mode (w.discrete (w.named (n 1 40 (codes "INT")))))) None ((action_part (simple (at 1 46) (return_with (at 1 46) (Some (whole (at 1 53) 1))) (handler_node None))) ∷ []) None (Some (n 1 60 (codes "f"))))) ∷ []) None (Some (n 1 67 (codes "r")))) ∷ (modul (n 1 70 (codes "m")) modulions.Module ((seize (at 1 80) (Names ((n 1 86 (codes "f")) ∷ []))) ∷ (action (simple (at 1 89) (call_of (at 1 89) false (n 1 89 (codes "PUT_INT")) ((apply (at 1 97) (name (n 1 97 (codes "f"))) (expr_nodes [])) ∷ [])) (handler_node None))) ∷ []) None (Some (n 1 107 (codes "m")))) ∷ [])

near_1-ground : IsGroundOf near_1 (ground_of near_1)
near_1-ground = record { names = refl; entries = refl }

near_1-modes : broken_modes (ground_of near_1) near_1 ≡ []
near_1-modes = refl

near_1-counted : IsStatementGroundOf near_1 (counted_ground_of near_1)
near_1-counted = record { names = refl; entries = refl }

near_1-statements : broken_statements (counted_ground_of near_1) near_1 ≡ []
near_1-statements = refl

near_1-processes : broken_processes (counted_ground_of near_1) near_1 ≡ []
near_1-processes = refl

-- in a procedure, its blocks and its handlers
--   m: MODULE f: PROC () RETURNS (INT); BEGIN RESULT 1; END; IF TRUE THEN RETURN 2; FI; RETURN; END ON (lost): RETURN 3; ELSE RESULT 4; END f; p: PROC (); RETURN; END ON ELSE RETURN; END p; END m;
abbrev near_2 : ProgramTree
near_2 = program ((modul (n 1 1 (codes "m")) modulions.Module ((procedure (proc (n 1 11 (codes "f")) [] (Some (w.base_mode (w.discrete (w.named (n 1 31 (codes "INT")))))) None ((action_part (bracketed (at 1 37) None (begin_end (at 1 37) (body_nodes ((action_part (simple (at 1 43) (result_of (at 1 43) (whole (at 1 50) 1)) (handler_node None))) ∷ []))) (handler_node None) None)) ∷ (action_part (bracketed (at 1 58) None (if_then (at 1 58) (name (n 1 61 (codes "TRUE"))) (statement_nodes ((simple (at 1 71) (return_with (at 1 71) (Some (whole (at 1 78) 2))) (handler_node None)) ∷ [])) (branch_nodes []) no_otherwise) (handler_node None) None)) ∷ (action_part (simple (at 1 85) (return_with (at 1 85) None) (handler_node None))) ∷ []) (Some (hand (at 1 97) ((alt (at 1 100) ((n 1 101 (codes "lost")) ∷ []) ((simple (at 1 108) (return_with (at 1 108) (Some (whole (at 1 115) 3))) (handler_node None)) ∷ [])) ∷ []) (Some ((simple (at 1 123) (result_of (at 1 123) (whole (at 1 130) 4)) (handler_node None)) ∷ [])))) (Some (n 1 137 (codes "f"))))) ∷ (procedure (proc (n 1 140 (codes "p")) [] None None ((action_part (simple (at 1 152) (return_with (at 1 152) None) (handler_node None))) ∷ []) (Some (hand (at 1 164) [] (Some ((simple (at 1 172) (return_with (at 1 172) None) (handler_node None)) ∷ [])))) (Some (n 1 184 (codes "p"))))) ∷ []) None (Some (n 1 191 (codes "m")))) ∷ [])

near_2-ground : IsGroundOf near_2 (ground_of near_2)
near_2-ground = record { names = refl; entries = refl }

near_2-modes : broken_modes (ground_of near_2) near_2 ≡ []
near_2-modes = refl

near_2-counted : IsStatementGroundOf near_2 (counted_ground_of near_2)
near_2-counted = record { names = refl; entries = refl }

near_2-statements : broken_statements (counted_ground_of near_2) near_2 ≡ []
near_2-statements = refl

near_2-processes : broken_processes (counted_ground_of near_2) near_2 ≡ []
near_2-processes = refl
