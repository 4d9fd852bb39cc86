-- Rule S8: texts that break it, and texts that nearly do.
use Rattle.std.proofs.Common.{◌≡◌, refl}
use Rattle.std.specs.Prelude.{true, false, [], ◌∷◌, Some, None, codes}
use Rattle.chill_tree.specs.declared.tree.expr.Operator.TheVariants as ops
use Rattle.chill_tree.specs.declared.tree.item.ModulionKind.TheVariants as modulions
use Rattle.chill_tree.specs.ExprTree.{whole, character, text, name, field, binary}
use Rattle.chill_tree.specs.ModeTree as w
use Rattle.chill_tree.specs.LocalTree.{new_modes, locations}
use Rattle.chill_tree.specs.SimpleTree.{assign, call_of, assert_that, for_members, for_steps}
use Rattle.chill_tree.specs.StatementTree.{simple, bracketed, do_loop, statement_nodes, handler_node}
use Rattle.chill_tree.specs.ItemTree.{ProgramTree, local_item, action}
use Rattle.diagnostics.specs.declared.rule.Rule.TheVariants as rules
use Rattle.checks_model.specs.Table.{IsGroundOf, IsStatementGroundOf}
use Rattle.checks_model.specs.Phases.{broken_modes, broken_statements, broken_processes}
use Rattle.checks_examples.proofs.Programs.{at, n, modedef, decl, modul, program, ground_of, counted_ground_of, told}

-- a step and a bound at once
--   m: MODULE DCL b BOOL; DO FOR k := 1 BY b TO TRUE; OD; DO FOR k := "a" BY b TO 3; OD; END m;
abbrev broken_1 : ProgramTree
broken_1 = program ((modul (n 1 1 (codes "m")) modulions.Module ((local_item (locations (at 1 11) ((decl ((n 1 15 (codes "b")) ∷ []) (w.base_mode (w.discrete (w.named (n 1 17 (codes "BOOL"))))) None) ∷ []))) ∷ (action (bracketed (at 1 23) None (do_loop (at 1 23) (for_steps (at 1 26) (n 1 30 (codes "k")) (whole (at 1 35) 1) (Some (name (n 1 40 (codes "b")))) false (name (n 1 45 (codes "TRUE"))) None) (statement_nodes [])) (handler_node None) None)) ∷ (action (bracketed (at 1 55) None (do_loop (at 1 55) (for_steps (at 1 58) (n 1 62 (codes "k")) (text (at 1 67) (97 ∷ [])) (Some (name (n 1 74 (codes "b")))) false (whole (at 1 79) 3) None) (statement_nodes [])) (handler_node None) None)) ∷ []) None (Some (n 1 90 (codes "m")))) ∷ [])

broken_1-ground : IsGroundOf broken_1 (ground_of broken_1)
broken_1-ground = record { names = refl; entries = refl }

broken_1-modes : broken_modes (ground_of broken_1) broken_1 ≡ []
broken_1-modes = refl

broken_1-counted : IsStatementGroundOf broken_1 (counted_ground_of broken_1)
broken_1-counted = record { names = refl; entries = refl }

broken_1-statements : broken_statements (counted_ground_of broken_1) broken_1 ≡ (told rules.S8 1 40 ∷ told rules.S8 1 45 ∷ told rules.S8 1 67 ∷ told rules.S8 1 74 ∷ [])
broken_1-statements = refl

-- a counter without a mode isn't asked for it
--   m: MODULE DO FOR i := 1 TO TRUE; PUT_INT(i + 1); OD; DO FOR i IN 3; PUT_TEXT(i); ASSERT i; OD; END m;
abbrev broken_2 : ProgramTree
broken_2 = program ((modul (n 1 1 (codes "m")) modulions.Module ((action (bracketed (at 1 11) None (do_loop (at 1 11) (for_steps (at 1 14) (n 1 18 (codes "i")) (whole (at 1 23) 1) None false (name (n 1 28 (codes "TRUE"))) None) (statement_nodes ((simple (at 1 34) (call_of (at 1 34) false (n 1 34 (codes "PUT_INT")) ((binary (at 1 42) (name (n 1 42 (codes "i"))) ops.Plus (at 1 44) (whole (at 1 46) 1)) ∷ [])) (handler_node None)) ∷ []))) (handler_node None) None)) ∷ (action (bracketed (at 1 54) None (do_loop (at 1 54) (for_members (at 1 57) (n 1 61 (codes "i")) (whole (at 1 66) 3) None) (statement_nodes ((simple (at 1 69) (call_of (at 1 69) false (n 1 69 (codes "PUT_TEXT")) ((name (n 1 78 (codes "i"))) ∷ [])) (handler_node None)) ∷ (simple (at 1 82) (assert_that (at 1 82) (name (n 1 89 (codes "i")))) (handler_node None)) ∷ []))) (handler_node None) None)) ∷ []) None (Some (n 1 100 (codes "m")))) ∷ [])

broken_2-ground : IsGroundOf broken_2 (ground_of broken_2)
broken_2-ground = record { names = refl; entries = refl }

broken_2-modes : broken_modes (ground_of broken_2) broken_2 ≡ []
broken_2-modes = refl

broken_2-counted : IsStatementGroundOf broken_2 (counted_ground_of broken_2)
broken_2-counted = record { names = refl; entries = refl }

broken_2-statements : broken_statements (counted_ground_of broken_2) broken_2 ≡ (told rules.S8 1 28 ∷ told rules.S8 1 66 ∷ [])
broken_2-statements = refl

-- two bounds that aren't compatible, at the second
--   m: MODULE DCL x INT; DO FOR k := 1 TO TRUE; OD; DO FOR k := 'a' DOWN TO x; OD; DO FOR k := x BY 2 TO 'a'; OD; END m;
abbrev broken_3 : ProgramTree
broken_3 = program ((modul (n 1 1 (codes "m")) modulions.Module ((local_item (locations (at 1 11) ((decl ((n 1 15 (codes "x")) ∷ []) (w.base_mode (w.discrete (w.named (n 1 17 (codes "INT"))))) None) ∷ []))) ∷ (action (bracketed (at 1 22) None (do_loop (at 1 22) (for_steps (at 1 25) (n 1 29 (codes "k")) (whole (at 1 34) 1) None false (name (n 1 39 (codes "TRUE"))) None) (statement_nodes [])) (handler_node None) None)) ∷ (action (bracketed (at 1 49) None (do_loop (at 1 49) (for_steps (at 1 52) (n 1 56 (codes "k")) (character (at 1 61) 97) None true (name (n 1 73 (codes "x"))) None) (statement_nodes [])) (handler_node None) None)) ∷ (action (bracketed (at 1 80) None (do_loop (at 1 80) (for_steps (at 1 83) (n 1 87 (codes "k")) (name (n 1 92 (codes "x"))) (Some (whole (at 1 97) 2)) false (character (at 1 102) 97) None) (statement_nodes [])) (handler_node None) None)) ∷ []) None (Some (n 1 115 (codes "m")))) ∷ [])

broken_3-ground : IsGroundOf broken_3 (ground_of broken_3)
broken_3-ground = record { names = refl; entries = refl }

broken_3-modes : broken_modes (ground_of broken_3) broken_3 ≡ []
broken_3-modes = refl

broken_3-counted : IsStatementGroundOf broken_3 (counted_ground_of broken_3)
broken_3-counted = record { names = refl; entries = refl }

broken_3-statements : broken_statements (counted_ground_of broken_3) broken_3 ≡ (told rules.S8 1 39 ∷ told rules.S8 1 73 ∷ told rules.S8 1 102 ∷ [])
broken_3-statements = refl

-- a bound that isn't discrete
--   m: MODULE DCL t CHARS (2), i INSTANCE; DO FOR k := t TO 3; OD; DO FOR k := 1 TO i; OD; DO FOR k := "a" TO "b"; OD; END m;
abbrev broken_4 : ProgramTree
broken_4 = program ((modul (n 1 1 (codes "m")) modulions.Module ((local_item (locations (at 1 11) ((decl ((n 1 15 (codes "t")) ∷ []) (w.base_mode (w.chars (at 1 17) (whole (at 1 24) 2))) None) ∷ (decl ((n 1 28 (codes "i")) ∷ []) (w.base_mode (w.discrete (w.named (n 1 30 (codes "INSTANCE"))))) None) ∷ []))) ∷ (action (bracketed (at 1 40) None (do_loop (at 1 40) (for_steps (at 1 43) (n 1 47 (codes "k")) (name (n 1 52 (codes "t"))) None false (whole (at 1 57) 3) None) (statement_nodes [])) (handler_node None) None)) ∷ (action (bracketed (at 1 64) None (do_loop (at 1 64) (for_steps (at 1 67) (n 1 71 (codes "k")) (whole (at 1 76) 1) None false (name (n 1 81 (codes "i"))) None) (statement_nodes [])) (handler_node None) None)) ∷ (action (bracketed (at 1 88) None (do_loop (at 1 88) (for_steps (at 1 91) (n 1 95 (codes "k")) (text (at 1 100) (97 ∷ [])) None false (text (at 1 107) (98 ∷ [])) None) (statement_nodes [])) (handler_node None) None)) ∷ []) None (Some (n 1 120 (codes "m")))) ∷ [])

broken_4-ground : IsGroundOf broken_4 (ground_of broken_4)
broken_4-ground = record { names = refl; entries = refl }

broken_4-modes : broken_modes (ground_of broken_4) broken_4 ≡ []
broken_4-modes = refl

broken_4-counted : IsStatementGroundOf broken_4 (counted_ground_of broken_4)
broken_4-counted = record { names = refl; entries = refl }

broken_4-statements : broken_statements (counted_ground_of broken_4) broken_4 ≡ (told rules.S8 1 52 ∷ told rules.S8 1 81 ∷ told rules.S8 1 100 ∷ told rules.S8 1 107 ∷ [])
broken_4-statements = refl

-- bounds of two novelties
--   m: MODULE NEWMODE o = INT; NEWMODE u = INT; DCL x INT, y o, z u; DO FOR k := x TO y; OD; DO FOR k := y TO z; OD; DO FOR k := y TO 3; OD; END m;
abbrev broken_5 : ProgramTree
broken_5 = program ((modul (n 1 1 (codes "m")) modulions.Module ((local_item (new_modes (at 1 11) ((modedef (n 1 19 (codes "o")) (w.base_mode (w.discrete (w.named (n 1 23 (codes "INT")))))) ∷ []))) ∷ (local_item (new_modes (at 1 28) ((modedef (n 1 36 (codes "u")) (w.base_mode (w.discrete (w.named (n 1 40 (codes "INT")))))) ∷ []))) ∷ (local_item (locations (at 1 45) ((decl ((n 1 49 (codes "x")) ∷ []) (w.base_mode (w.discrete (w.named (n 1 51 (codes "INT"))))) None) ∷ (decl ((n 1 56 (codes "y")) ∷ []) (w.base_mode (w.discrete (w.named (n 1 58 (codes "o"))))) None) ∷ (decl ((n 1 61 (codes "z")) ∷ []) (w.base_mode (w.discrete (w.named (n 1 63 (codes "u"))))) None) ∷ []))) ∷ (action (bracketed (at 1 66) None (do_loop (at 1 66) (for_steps (at 1 69) (n 1 73 (codes "k")) (name (n 1 78 (codes "x"))) None false (name (n 1 83 (codes "y"))) None) (statement_nodes [])) (handler_node None) None)) ∷ (action (bracketed (at 1 90) None (do_loop (at 1 90) (for_steps (at 1 93) (n 1 97 (codes "k")) (name (n 1 102 (codes "y"))) None false (name (n 1 107 (codes "z"))) None) (statement_nodes [])) (handler_node None) None)) ∷ (action (bracketed (at 1 114) None (do_loop (at 1 114) (for_steps (at 1 117) (n 1 121 (codes "k")) (name (n 1 126 (codes "y"))) None false (whole (at 1 131) 3) None) (statement_nodes [])) (handler_node None) None)) ∷ []) None (Some (n 1 142 (codes "m")))) ∷ [])

broken_5-ground : IsGroundOf broken_5 (ground_of broken_5)
broken_5-ground = record { names = refl; entries = refl }

broken_5-modes : broken_modes (ground_of broken_5) broken_5 ≡ []
broken_5-modes = refl

broken_5-counted : IsStatementGroundOf broken_5 (counted_ground_of broken_5)
broken_5-counted = record { names = refl; entries = refl }

broken_5-statements : broken_statements (counted_ground_of broken_5) broken_5 ≡ (told rules.S8 1 83 ∷ told rules.S8 1 107 ∷ [])
broken_5-statements = refl

-- a step that isn't of INT
--   m: MODULE DCL x INT, b BOOL; DO FOR k := 1 BY b TO 3; OD; DO FOR k := x BY 'a' DOWN TO 3; OD; DO FOR k := 1 BY x TO 3; OD; END m;
abbrev broken_6 : ProgramTree
broken_6 = program ((modul (n 1 1 (codes "m")) modulions.Module ((local_item (locations (at 1 11) ((decl ((n 1 15 (codes "x")) ∷ []) (w.base_mode (w.discrete (w.named (n 1 17 (codes "INT"))))) None) ∷ (decl ((n 1 22 (codes "b")) ∷ []) (w.base_mode (w.discrete (w.named (n 1 24 (codes "BOOL"))))) None) ∷ []))) ∷ (action (bracketed (at 1 30) None (do_loop (at 1 30) (for_steps (at 1 33) (n 1 37 (codes "k")) (whole (at 1 42) 1) (Some (name (n 1 47 (codes "b")))) false (whole (at 1 52) 3) None) (statement_nodes [])) (handler_node None) None)) ∷ (action (bracketed (at 1 59) None (do_loop (at 1 59) (for_steps (at 1 62) (n 1 66 (codes "k")) (name (n 1 71 (codes "x"))) (Some (character (at 1 76) 97)) true (whole (at 1 88) 3) None) (statement_nodes [])) (handler_node None) None)) ∷ (action (bracketed (at 1 95) None (do_loop (at 1 95) (for_steps (at 1 98) (n 1 102 (codes "k")) (whole (at 1 107) 1) (Some (name (n 1 112 (codes "x")))) false (whole (at 1 117) 3) None) (statement_nodes [])) (handler_node None) None)) ∷ []) None (Some (n 1 128 (codes "m")))) ∷ [])

broken_6-ground : IsGroundOf broken_6 (ground_of broken_6)
broken_6-ground = record { names = refl; entries = refl }

broken_6-modes : broken_modes (ground_of broken_6) broken_6 ≡ []
broken_6-modes = refl

broken_6-counted : IsStatementGroundOf broken_6 (counted_ground_of broken_6)
broken_6-counted = record { names = refl; entries = refl }

broken_6-statements : broken_statements (counted_ground_of broken_6) broken_6 ≡ (told rules.S8 1 47 ∷ told rules.S8 1 76 ∷ [])
broken_6-statements = refl

-- a step where the bounds aren't of INT
--   m: MODULE NEWMODE c = SET (red, green); DO FOR k := 'a' BY 1 TO 'z'; OD; DO FOR k := red BY 1 TO green; OD; DO FOR k := 'a' TO 'z'; OD; END m;
abbrev broken_7 : ProgramTree
broken_7 = program ((modul (n 1 1 (codes "m")) modulions.Module ((local_item (new_modes (at 1 11) ((modedef (n 1 19 (codes "c")) (w.base_mode (w.discrete (w.set_of (at 1 23) ((n 1 28 (codes "red")) ∷ (n 1 33 (codes "green")) ∷ []))))) ∷ []))) ∷ (action (bracketed (at 1 41) None (do_loop (at 1 41) (for_steps (at 1 44) (n 1 48 (codes "k")) (character (at 1 53) 97) (Some (whole (at 1 60) 1)) false (character (at 1 65) 122) None) (statement_nodes [])) (handler_node None) None)) ∷ (action (bracketed (at 1 74) None (do_loop (at 1 74) (for_steps (at 1 77) (n 1 81 (codes "k")) (name (n 1 86 (codes "red"))) (Some (whole (at 1 93) 1)) false (name (n 1 98 (codes "green"))) None) (statement_nodes [])) (handler_node None) None)) ∷ (action (bracketed (at 1 109) None (do_loop (at 1 109) (for_steps (at 1 112) (n 1 116 (codes "k")) (character (at 1 121) 97) None false (character (at 1 128) 122) None) (statement_nodes [])) (handler_node None) None)) ∷ []) None (Some (n 1 141 (codes "m")))) ∷ [])

broken_7-ground : IsGroundOf broken_7 (ground_of broken_7)
broken_7-ground = record { names = refl; entries = refl }

broken_7-modes : broken_modes (ground_of broken_7) broken_7 ≡ []
broken_7-modes = refl

broken_7-counted : IsStatementGroundOf broken_7 (counted_ground_of broken_7)
broken_7-counted = record { names = refl; entries = refl }

broken_7-statements : broken_statements (counted_ground_of broken_7) broken_7 ≡ (told rules.S8 1 60 ∷ told rules.S8 1 93 ∷ [])
broken_7-statements = refl

-- IN of no powerset
--   m: MODULE DCL x INT, a ARRAY (1:2) INT; DO FOR k IN x; OD; DO FOR k IN a; OD; DO FOR k IN "a"; OD; DO FOR k IN x.f; OD; END m;
abbrev broken_8 : ProgramTree
broken_8 = program ((modul (n 1 1 (codes "m")) modulions.Module ((local_item (locations (at 1 11) ((decl ((n 1 15 (codes "x")) ∷ []) (w.base_mode (w.discrete (w.named (n 1 17 (codes "INT"))))) None) ∷ (decl ((n 1 22 (codes "a")) ∷ []) (w.base_mode (w.array (at 1 24) (w.index_bounded (whole (at 1 31) 1) (whole (at 1 33) 2)) (w.discrete (w.named (n 1 36 (codes "INT")))) None)) None) ∷ []))) ∷ (action (bracketed (at 1 41) None (do_loop (at 1 41) (for_members (at 1 44) (n 1 48 (codes "k")) (name (n 1 53 (codes "x"))) None) (statement_nodes [])) (handler_node None) None)) ∷ (action (bracketed (at 1 60) None (do_loop (at 1 60) (for_members (at 1 63) (n 1 67 (codes "k")) (name (n 1 72 (codes "a"))) None) (statement_nodes [])) (handler_node None) None)) ∷ (action (bracketed (at 1 79) None (do_loop (at 1 79) (for_members (at 1 82) (n 1 86 (codes "k")) (text (at 1 91) (97 ∷ [])) None) (statement_nodes [])) (handler_node None) None)) ∷ (action (bracketed (at 1 100) None (do_loop (at 1 100) (for_members (at 1 103) (n 1 107 (codes "k")) (field (at 1 112) (name (n 1 112 (codes "x"))) (n 1 114 (codes "f"))) None) (statement_nodes [])) (handler_node None) None)) ∷ []) None (Some (n 1 125 (codes "m")))) ∷ [])

broken_8-ground : IsGroundOf broken_8 (ground_of broken_8)
broken_8-ground = record { names = refl; entries = refl }

broken_8-modes : broken_modes (ground_of broken_8) broken_8 ≡ []
broken_8-modes = refl

broken_8-counted : IsStatementGroundOf broken_8 (counted_ground_of broken_8)
broken_8-counted = record { names = refl; entries = refl }

broken_8-statements : broken_statements (counted_ground_of broken_8) broken_8 ≡ (told rules.S8 1 53 ∷ told rules.S8 1 72 ∷ told rules.S8 1 91 ∷ told rules.S8 1 112 ∷ [])
broken_8-statements = refl

-- BY of another novelty is of INT too
--   m: MODULE NEWMODE o = INT; DCL x o; DO FOR k := 1 BY x TO 3; PUT_INT(k); OD; END m;
abbrev near_1 : ProgramTree
near_1 = program ((modul (n 1 1 (codes "m")) modulions.Module ((local_item (new_modes (at 1 11) ((modedef (n 1 19 (codes "o")) (w.base_mode (w.discrete (w.named (n 1 23 (codes "INT")))))) ∷ []))) ∷ (local_item (locations (at 1 28) ((decl ((n 1 32 (codes "x")) ∷ []) (w.base_mode (w.discrete (w.named (n 1 34 (codes "o"))))) None) ∷ []))) ∷ (action (bracketed (at 1 37) None (do_loop (at 1 37) (for_steps (at 1 40) (n 1 44 (codes "k")) (whole (at 1 49) 1) (Some (name (n 1 54 (codes "x")))) false (whole (at 1 59) 3) None) (statement_nodes ((simple (at 1 62) (call_of (at 1 62) false (n 1 62 (codes "PUT_INT")) ((name (n 1 70 (codes "k"))) ∷ [])) (handler_node None)) ∷ []))) (handler_node None) None)) ∷ []) None (Some (n 1 82 (codes "m")))) ∷ [])

near_1-ground : IsGroundOf near_1 (ground_of near_1)
near_1-ground = record { names = refl; entries = refl }

near_1-modes : broken_modes (ground_of near_1) near_1 ≡ []
near_1-modes = refl

near_1-counted : IsStatementGroundOf near_1 (counted_ground_of near_1)
near_1-counted = record { names = refl; entries = refl }

near_1-statements : broken_statements (counted_ground_of near_1) near_1 ≡ []
near_1-statements = refl

near_1-processes : broken_processes (counted_ground_of near_1) near_1 ≡ []
near_1-processes = refl

-- bounds of each discrete mode
--   m: MODULE NEWMODE c = SET (red, green); NEWMODE o = INT (0:7); DCL x o, p POWERSET c; DO FOR k := x BY 2 TO 7; x := k; OD; DO FOR k := green DOWN TO red; OD; DO FOR k := FALSE TO TRUE; OD; DO FOR k IN p WHILE k = red; OD; END m;
abbrev near_2 : ProgramTree
near_2 = program ((modul (n 1 1 (codes "m")) modulions.Module ((local_item (new_modes (at 1 11) ((modedef (n 1 19 (codes "c")) (w.base_mode (w.discrete (w.set_of (at 1 23) ((n 1 28 (codes "red")) ∷ (n 1 33 (codes "green")) ∷ []))))) ∷ []))) ∷ (local_item (new_modes (at 1 41) ((modedef (n 1 49 (codes "o")) (w.base_mode (w.discrete (w.bounded (n 1 53 (codes "INT")) (whole (at 1 58) 0) (whole (at 1 60) 7))))) ∷ []))) ∷ (local_item (locations (at 1 64) ((decl ((n 1 68 (codes "x")) ∷ []) (w.base_mode (w.discrete (w.named (n 1 70 (codes "o"))))) None) ∷ (decl ((n 1 73 (codes "p")) ∷ []) (w.base_mode (w.powerset (at 1 75) (w.named (n 1 84 (codes "c"))))) None) ∷ []))) ∷ (action (bracketed (at 1 87) None (do_loop (at 1 87) (for_steps (at 1 90) (n 1 94 (codes "k")) (name (n 1 99 (codes "x"))) (Some (whole (at 1 104) 2)) false (whole (at 1 109) 7) None) (statement_nodes ((simple (at 1 112) (assign (at 1 112) (name (n 1 112 (codes "x"))) (name (n 1 117 (codes "k")))) (handler_node None)) ∷ []))) (handler_node None) None)) ∷ (action (bracketed (at 1 124) None (do_loop (at 1 124) (for_steps (at 1 127) (n 1 131 (codes "k")) (name (n 1 136 (codes "green"))) None true (name (n 1 150 (codes "red"))) None) (statement_nodes [])) (handler_node None) None)) ∷ (action (bracketed (at 1 159) None (do_loop (at 1 159) (for_steps (at 1 162) (n 1 166 (codes "k")) (name (n 1 171 (codes "FALSE"))) None false (name (n 1 180 (codes "TRUE"))) None) (statement_nodes [])) (handler_node None) None)) ∷ (action (bracketed (at 1 190) None (do_loop (at 1 190) (for_members (at 1 193) (n 1 197 (codes "k")) (name (n 1 202 (codes "p"))) (Some (binary (at 1 210) (name (n 1 210 (codes "k"))) ops.Equal (at 1 212) (name (n 1 214 (codes "red")))))) (statement_nodes [])) (handler_node None) None)) ∷ []) None (Some (n 1 227 (codes "m")))) ∷ [])

near_2-ground : IsGroundOf near_2 (ground_of near_2)
near_2-ground = record { names = refl; entries = refl }

near_2-modes : broken_modes (ground_of near_2) near_2 ≡ []
near_2-modes = refl

near_2-counted : IsStatementGroundOf near_2 (counted_ground_of near_2)
near_2-counted = record { names = refl; entries = refl }

near_2-statements : broken_statements (counted_ground_of near_2) near_2 ≡ []
near_2-statements = refl

near_2-processes : broken_processes (counted_ground_of near_2) near_2 ≡ []
near_2-processes = refl
