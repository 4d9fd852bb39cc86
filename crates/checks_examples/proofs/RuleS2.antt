-- Rule S2: texts that break it, and texts that nearly do.
use Rattle.std.proofs.Common.{◌≡◌, refl}
use Rattle.std.specs.Prelude.{true, false, [], ◌∷◌, Some, None, codes}
use Rattle.chill_tree.specs.declared.tree.expr.Prefix.TheVariants as prefixes
use Rattle.chill_tree.specs.declared.tree.mode.Packing.TheVariants as packings
use Rattle.chill_tree.specs.declared.tree.item.Passing.TheVariants as passings
use Rattle.chill_tree.specs.declared.tree.item.ModulionKind.TheVariants as modulions
use Rattle.chill_tree.specs.ExprTree.{whole, character, text, this_instance, start, tuple, uniform, name, apply, prefixed, alone, expr_nodes, range_nodes}
use Rattle.chill_tree.specs.ModeTree as w
use Rattle.chill_tree.specs.LocalTree.{syn_modes, new_modes, locations}
use Rattle.chill_tree.specs.SimpleTree.{assign, call_of, return_with, result_of, start_of, send}
use Rattle.chill_tree.specs.StatementTree.{simple, handler_node, local_part, action_part}
use Rattle.chill_tree.specs.ItemTree.{ProgramTree, local_item, signals, procedure, process, action}
use Rattle.diagnostics.specs.declared.rule.Rule.TheVariants as rules
use Rattle.checks_model.specs.Table.{IsGroundOf, IsStatementGroundOf}
use Rattle.checks_model.specs.Phases.{broken_modes, broken_statements, broken_processes}
use Rattle.checks_examples.proofs.Programs.{at, n, modedef, init, decl, fields, sig, param, formal, proc, proce, modul, program, ground_of, counted_ground_of, told}

-- an argument
--   m: MODULE DCL b BOOL; p: PROC (x INT, y CHAR IN); END p; p(b, "a"); CALL p(1, b); END m;
abbrev broken_1 : ProgramTree
broken_1 = program ((modul (n 1 1 (codes "m")) modulions.Module ((local_item (locations (at 1 11) ((decl ((n 1 15 (codes "b")) ∷ []) (w.base_mode (w.discrete (w.named (n 1 17 (codes "BOOL"))))) None) ∷ []))) ∷ (procedure (proc (n 1 23 (codes "p")) ((param ((n 1 32 (codes "x")) ∷ []) (w.base_mode (w.discrete (w.named (n 1 34 (codes "INT"))))) None) ∷ (param ((n 1 39 (codes "y")) ∷ []) (w.base_mode (w.discrete (w.named (n 1 41 (codes "CHAR"))))) (Some passings.In)) ∷ []) None None [] None (Some (n 1 55 (codes "p"))))) ∷ (action (simple (at 1 58) (call_of (at 1 58) false (n 1 58 (codes "p")) ((name (n 1 60 (codes "b"))) ∷ (text (at 1 63) (97 ∷ [])) ∷ [])) (handler_node None))) ∷ (action (simple (at 1 69) (call_of (at 1 69) true (n 1 74 (codes "p")) ((whole (at 1 76) 1) ∷ (name (n 1 79 (codes "b"))) ∷ [])) (handler_node None))) ∷ []) None (Some (n 1 87 (codes "m")))) ∷ [])

broken_1-ground : IsGroundOf broken_1 (ground_of broken_1)
broken_1-ground = record { names = refl; entries = refl }

broken_1-modes : broken_modes (ground_of broken_1) broken_1 ≡ []
broken_1-modes = refl

broken_1-counted : IsStatementGroundOf broken_1 (counted_ground_of broken_1)
broken_1-counted = record { names = refl; entries = refl }

broken_1-statements : broken_statements (counted_ground_of broken_1) broken_1 ≡ (told rules.S2 1 60 ∷ told rules.S2 1 63 ∷ told rules.S2 1 79 ∷ [])
broken_1-statements = refl

-- the receiver of a signal
--   m: MODULE DCL x INT; SIGNAL s; SEND s TO x; SEND s TO 1; SEND s TO THIS; SEND s TO NULL; END m;
abbrev broken_2 : ProgramTree
broken_2 = program ((modul (n 1 1 (codes "m")) modulions.Module ((local_item (locations (at 1 11) ((decl ((n 1 15 (codes "x")) ∷ []) (w.base_mode (w.discrete (w.named (n 1 17 (codes "INT"))))) None) ∷ []))) ∷ (signals (at 1 22) ((sig (n 1 29 (codes "s")) None None) ∷ [])) ∷ (action (simple (at 1 32) (send (at 1 32) (n 1 37 (codes "s")) None (Some (name (n 1 42 (codes "x")))) None) (handler_node None))) ∷ (action (simple (at 1 45) (send (at 1 45) (n 1 50 (codes "s")) None (Some (whole (at 1 55) 1)) None) (handler_node None))) ∷ (action (simple (at 1 58) (send (at 1 58) (n 1 63 (codes "s")) None (Some (this_instance (at 1 68))) None) (handler_node None))) ∷ (action (simple (at 1 74) (send (at 1 74) (n 1 79 (codes "s")) None (Some (name (n 1 84 (codes "NULL")))) None) (handler_node None))) ∷ []) None (Some (n 1 94 (codes "m")))) ∷ [])

broken_2-ground : IsGroundOf broken_2 (ground_of broken_2)
broken_2-ground = record { names = refl; entries = refl }

broken_2-modes : broken_modes (ground_of broken_2) broken_2 ≡ []
broken_2-modes = refl

broken_2-counted : IsStatementGroundOf broken_2 (counted_ground_of broken_2)
broken_2-counted = record { names = refl; entries = refl }

broken_2-statements : broken_statements (counted_ground_of broken_2) broken_2 ≡ (told rules.S2 1 42 ∷ told rules.S2 1 55 ∷ [])
broken_2-statements = refl

-- a formal of START
--   m: MODULE DCL i INSTANCE; q: PROCESS (x INT, y BOOL); END q; START q(TRUE, FALSE); i := START q(1, 0); END m;
abbrev broken_3 : ProgramTree
broken_3 = program ((modul (n 1 1 (codes "m")) modulions.Module ((local_item (locations (at 1 11) ((decl ((n 1 15 (codes "i")) ∷ []) (w.base_mode (w.discrete (w.named (n 1 17 (codes "INSTANCE"))))) None) ∷ []))) ∷ (process (proce (n 1 27 (codes "q")) ((formal ((n 1 39 (codes "x")) ∷ []) (w.base_mode (w.discrete (w.named (n 1 41 (codes "INT")))))) ∷ (formal ((n 1 46 (codes "y")) ∷ []) (w.base_mode (w.discrete (w.named (n 1 48 (codes "BOOL")))))) ∷ []) [] None (Some (n 1 59 (codes "q"))))) ∷ (action (simple (at 1 62) (start_of (at 1 62) (n 1 68 (codes "q")) ((name (n 1 70 (codes "TRUE"))) ∷ (name (n 1 76 (codes "FALSE"))) ∷ [])) (handler_node None))) ∷ (action (simple (at 1 84) (assign (at 1 84) (name (n 1 84 (codes "i"))) (start (at 1 89) (n 1 95 (codes "q")) (expr_nodes ((whole (at 1 97) 1) ∷ (whole (at 1 100) 0) ∷ [])))) (handler_node None))) ∷ []) None (Some (n 1 108 (codes "m")))) ∷ [])

broken_3-ground : IsGroundOf broken_3 (ground_of broken_3)
broken_3-ground = record { names = refl; entries = refl }

broken_3-modes : broken_modes (ground_of broken_3) broken_3 ≡ []
broken_3-modes = refl

broken_3-counted : IsStatementGroundOf broken_3 (counted_ground_of broken_3)
broken_3-counted = record { names = refl; entries = refl }

broken_3-statements : broken_statements (counted_ground_of broken_3) broken_3 ≡ (told rules.S2 1 70 ∷ told rules.S2 1 100 ∷ [])
broken_3-statements = refl

-- a declaration
--   m: MODULE DCL x INT := TRUE, t CHARS (3) := "ab", c CHAR := "a", i INSTANCE := 1; p: PROC (); DCL y INT INIT := 'a'; END p; END m;
abbrev broken_4 : ProgramTree
broken_4 = program ((modul (n 1 1 (codes "m")) modulions.Module ((local_item (locations (at 1 11) ((decl ((n 1 15 (codes "x")) ∷ []) (w.base_mode (w.discrete (w.named (n 1 17 (codes "INT"))))) (Some (init (at 1 21) false (name (n 1 24 (codes "TRUE")))))) ∷ (decl ((n 1 30 (codes "t")) ∷ []) (w.base_mode (w.chars (at 1 32) (whole (at 1 39) 3))) (Some (init (at 1 42) false (text (at 1 45) (97 ∷ 98 ∷ []))))) ∷ (decl ((n 1 51 (codes "c")) ∷ []) (w.base_mode (w.discrete (w.named (n 1 53 (codes "CHAR"))))) (Some (init (at 1 58) false (text (at 1 61) (97 ∷ []))))) ∷ (decl ((n 1 66 (codes "i")) ∷ []) (w.base_mode (w.discrete (w.named (n 1 68 (codes "INSTANCE"))))) (Some (init (at 1 77) false (whole (at 1 80) 1)))) ∷ []))) ∷ (procedure (proc (n 1 83 (codes "p")) [] None None ((local_part (locations (at 1 95) ((decl ((n 1 99 (codes "y")) ∷ []) (w.base_mode (w.discrete (w.named (n 1 101 (codes "INT"))))) (Some (init (at 1 105) true (character (at 1 113) 97)))) ∷ []))) ∷ []) None (Some (n 1 122 (codes "p"))))) ∷ []) None (Some (n 1 129 (codes "m")))) ∷ [])

broken_4-ground : IsGroundOf broken_4 (ground_of broken_4)
broken_4-ground = record { names = refl; entries = refl }

broken_4-modes : broken_modes (ground_of broken_4) broken_4 ≡ []
broken_4-modes = refl

broken_4-counted : IsStatementGroundOf broken_4 (counted_ground_of broken_4)
broken_4-counted = record { names = refl; entries = refl }

broken_4-statements : broken_statements (counted_ground_of broken_4) broken_4 ≡ (told rules.S2 1 24 ∷ told rules.S2 1 45 ∷ told rules.S2 1 61 ∷ told rules.S2 1 80 ∷ told rules.S2 1 113 ∷ [])
broken_4-statements = refl

-- RETURN and RESULT
--   m: MODULE f: PROC () RETURNS (INT); RESULT TRUE; RETURN 'a'; END f; g: PROC () RETURNS (CHARS (2)); RETURN "a"; END g; END m;
abbrev broken_5 : ProgramTree
broken_5 = program ((modul (n 1 1 (codes "m")) modulions.Module ((procedure (proc (n 1 11 (codes "f")) [] (Some (w.base_mode (w.discrete (w.named (n 1 31 (codes "INT")))))) None ((action_part (simple (at 1 37) (result_of (at 1 37) (name (n 1 44 (codes "TRUE")))) (handler_node None))) ∷ (action_part (simple (at 1 50) (return_with (at 1 50) (Some (character (at 1 57) 97))) (handler_node None))) ∷ []) None (Some (n 1 66 (codes "f"))))) ∷ (procedure (proc (n 1 69 (codes "g")) [] (Some (w.base_mode (w.chars (at 1 89) (whole (at 1 96) 2)))) None ((action_part (simple (at 1 101) (return_with (at 1 101) (Some (text (at 1 108) (97 ∷ [])))) (handler_node None))) ∷ []) None (Some (n 1 117 (codes "g"))))) ∷ []) None (Some (n 1 124 (codes "m")))) ∷ [])

broken_5-ground : IsGroundOf broken_5 (ground_of broken_5)
broken_5-ground = record { names = refl; entries = refl }

broken_5-modes : broken_modes (ground_of broken_5) broken_5 ≡ []
broken_5-modes = refl

broken_5-counted : IsStatementGroundOf broken_5 (counted_ground_of broken_5)
broken_5-counted = record { names = refl; entries = refl }

broken_5-statements : broken_statements (counted_ground_of broken_5) broken_5 ≡ (told rules.S2 1 44 ∷ told rules.S2 1 57 ∷ told rules.S2 1 108 ∷ [])
broken_5-statements = refl

-- a part of a tuple
--   m: MODULE DCL a ARRAY (1:2) INT, s STRUCT (f INT, g BOOL), p POWERSET INT (0:7); a := [1, TRUE]; s := [TRUE, 1]; p := [1, 'a']; a := [(*): TRUE]; END m;
abbrev broken_6 : ProgramTree
broken_6 = program ((modul (n 1 1 (codes "m")) modulions.Module ((local_item (locations (at 1 11) ((decl ((n 1 15 (codes "a")) ∷ []) (w.base_mode (w.array (at 1 17) (w.index_bounded (whole (at 1 24) 1) (whole (at 1 26) 2)) (w.discrete (w.named (n 1 29 (codes "INT")))) None)) None) ∷ (decl ((n 1 34 (codes "s")) ∷ []) (w.base_mode (w.structure (at 1 36) (w.field_nodes ((fields ((n 1 44 (codes "f")) ∷ []) (w.discrete (w.named (n 1 46 (codes "INT")))) None) ∷ (fields ((n 1 51 (codes "g")) ∷ []) (w.discrete (w.named (n 1 53 (codes "BOOL")))) None) ∷ [])) None)) None) ∷ (decl ((n 1 60 (codes "p")) ∷ []) (w.base_mode (w.powerset (at 1 62) (w.bounded (n 1 71 (codes "INT")) (whole (at 1 76) 0) (whole (at 1 78) 7)))) None) ∷ []))) ∷ (action (simple (at 1 82) (assign (at 1 82) (name (n 1 82 (codes "a"))) (tuple (at 1 87) None (at 1 87) (range_nodes ((alone (whole (at 1 88) 1)) ∷ (alone (name (n 1 91 (codes "TRUE")))) ∷ [])))) (handler_node None))) ∷ (action (simple (at 1 98) (assign (at 1 98) (name (n 1 98 (codes "s"))) (tuple (at 1 103) None (at 1 103) (range_nodes ((alone (name (n 1 104 (codes "TRUE")))) ∷ (alone (whole (at 1 110) 1)) ∷ [])))) (handler_node None))) ∷ (action (simple (at 1 114) (assign (at 1 114) (name (n 1 114 (codes "p"))) (tuple (at 1 119) None (at 1 119) (range_nodes ((alone (whole (at 1 120) 1)) ∷ (alone (character (at 1 123) 97)) ∷ [])))) (handler_node None))) ∷ (action (simple (at 1 129) (assign (at 1 129) (name (n 1 129 (codes "a"))) (uniform (at 1 134) None (at 1 134) (name (n 1 140 (codes "TRUE"))))) (handler_node None))) ∷ []) None (Some (n 1 151 (codes "m")))) ∷ [])

broken_6-ground : IsGroundOf broken_6 (ground_of broken_6)
broken_6-ground = record { names = refl; entries = refl }

broken_6-modes : broken_modes (ground_of broken_6) broken_6 ≡ []
broken_6-modes = refl

broken_6-counted : IsStatementGroundOf broken_6 (counted_ground_of broken_6)
broken_6-counted = record { names = refl; entries = refl }

broken_6-statements : broken_statements (counted_ground_of broken_6) broken_6 ≡ (told rules.S2 1 91 ∷ told rules.S2 1 104 ∷ told rules.S2 1 110 ∷ told rules.S2 1 123 ∷ told rules.S2 1 140 ∷ [])
broken_6-statements = refl

-- a part of a tuple in a tuple
--   m: MODULE DCL s STRUCT (f INT, g STRUCT (h CHAR, i ARRAY (1:2) BOOL)); s := [1, ['a', [TRUE, 1]]]; s := [1, ["a", [TRUE, TRUE]]]; END m;
abbrev broken_7 : ProgramTree
broken_7 = program ((modul (n 1 1 (codes "m")) modulions.Module ((local_item (locations (at 1 11) ((decl ((n 1 15 (codes "s")) ∷ []) (w.base_mode (w.structure (at 1 17) (w.field_nodes ((fields ((n 1 25 (codes "f")) ∷ []) (w.discrete (w.named (n 1 27 (codes "INT")))) None) ∷ (fields ((n 1 32 (codes "g")) ∷ []) (w.structure (at 1 34) (w.field_nodes ((fields ((n 1 42 (codes "h")) ∷ []) (w.discrete (w.named (n 1 44 (codes "CHAR")))) None) ∷ (fields ((n 1 50 (codes "i")) ∷ []) (w.array (at 1 52) (w.index_bounded (whole (at 1 59) 1) (whole (at 1 61) 2)) (w.discrete (w.named (n 1 64 (codes "BOOL")))) None) None) ∷ [])) None) None) ∷ [])) None)) None) ∷ []))) ∷ (action (simple (at 1 72) (assign (at 1 72) (name (n 1 72 (codes "s"))) (tuple (at 1 77) None (at 1 77) (range_nodes ((alone (whole (at 1 78) 1)) ∷ (alone (tuple (at 1 81) None (at 1 81) (range_nodes ((alone (character (at 1 82) 97)) ∷ (alone (tuple (at 1 87) None (at 1 87) (range_nodes ((alone (name (n 1 88 (codes "TRUE")))) ∷ (alone (whole (at 1 94) 1)) ∷ [])))) ∷ [])))) ∷ [])))) (handler_node None))) ∷ (action (simple (at 1 100) (assign (at 1 100) (name (n 1 100 (codes "s"))) (tuple (at 1 105) None (at 1 105) (range_nodes ((alone (whole (at 1 106) 1)) ∷ (alone (tuple (at 1 109) None (at 1 109) (range_nodes ((alone (text (at 1 110) (97 ∷ []))) ∷ (alone (tuple (at 1 115) None (at 1 115) (range_nodes ((alone (name (n 1 116 (codes "TRUE")))) ∷ (alone (name (n 1 122 (codes "TRUE")))) ∷ [])))) ∷ [])))) ∷ [])))) (handler_node None))) ∷ []) None (Some (n 1 135 (codes "m")))) ∷ [])

broken_7-ground : IsGroundOf broken_7 (ground_of broken_7)
broken_7-ground = record { names = refl; entries = refl }

broken_7-modes : broken_modes (ground_of broken_7) broken_7 ≡ []
broken_7-modes = refl

broken_7-counted : IsStatementGroundOf broken_7 (counted_ground_of broken_7)
broken_7-counted = record { names = refl; entries = refl }

broken_7-statements : broken_statements (counted_ground_of broken_7) broken_7 ≡ (told rules.S2 1 94 ∷ told rules.S2 1 110 ∷ [])
broken_7-statements = refl

-- an index of the array's own index mode
--   m: MODULE NEWMODE c = SET (red, green); DCL a ARRAY (c) INT, b ARRAY (BOOL) ARRAY (CHAR) BOOL, x INT; x := a(red); x := a(0); b(TRUE)('a') := FALSE; b('a')('a') := FALSE; b(TRUE)(TRUE) := FALSE; END m;
abbrev broken_8 : ProgramTree
broken_8 = program ((modul (n 1 1 (codes "m")) modulions.Module ((local_item (new_modes (at 1 11) ((modedef (n 1 19 (codes "c")) (w.base_mode (w.discrete (w.set_of (at 1 23) ((n 1 28 (codes "red")) ∷ (n 1 33 (codes "green")) ∷ []))))) ∷ []))) ∷ (local_item (locations (at 1 41) ((decl ((n 1 45 (codes "a")) ∷ []) (w.base_mode (w.array (at 1 47) (w.index_named (n 1 54 (codes "c"))) (w.discrete (w.named (n 1 57 (codes "INT")))) None)) None) ∷ (decl ((n 1 62 (codes "b")) ∷ []) (w.base_mode (w.array (at 1 64) (w.index_named (n 1 71 (codes "BOOL"))) (w.array (at 1 77) (w.index_named (n 1 84 (codes "CHAR"))) (w.discrete (w.named (n 1 90 (codes "BOOL")))) None) None)) None) ∷ (decl ((n 1 96 (codes "x")) ∷ []) (w.base_mode (w.discrete (w.named (n 1 98 (codes "INT"))))) None) ∷ []))) ∷ (action (simple (at 1 103) (assign (at 1 103) (name (n 1 103 (codes "x"))) (apply (at 1 108) (name (n 1 108 (codes "a"))) (expr_nodes ((name (n 1 110 (codes "red"))) ∷ [])))) (handler_node None))) ∷ (action (simple (at 1 116) (assign (at 1 116) (name (n 1 116 (codes "x"))) (apply (at 1 121) (name (n 1 121 (codes "a"))) (expr_nodes ((whole (at 1 123) 0) ∷ [])))) (handler_node None))) ∷ (action (simple (at 1 127) (assign (at 1 127) (apply (at 1 127) (apply (at 1 127) (name (n 1 127 (codes "b"))) (expr_nodes ((name (n 1 129 (codes "TRUE"))) ∷ []))) (expr_nodes ((character (at 1 135) 97) ∷ []))) (name (n 1 143 (codes "FALSE")))) (handler_node None))) ∷ (action (simple (at 1 150) (assign (at 1 150) (apply (at 1 150) (apply (at 1 150) (name (n 1 150 (codes "b"))) (expr_nodes ((character (at 1 152) 97) ∷ []))) (expr_nodes ((character (at 1 157) 97) ∷ []))) (name (n 1 165 (codes "FALSE")))) (handler_node None))) ∷ (action (simple (at 1 172) (assign (at 1 172) (apply (at 1 172) (apply (at 1 172) (name (n 1 172 (codes "b"))) (expr_nodes ((name (n 1 174 (codes "TRUE"))) ∷ []))) (expr_nodes ((name (n 1 180 (codes "TRUE"))) ∷ []))) (name (n 1 189 (codes "FALSE")))) (handler_node None))) ∷ []) None (Some (n 1 200 (codes "m")))) ∷ [])

broken_8-ground : IsGroundOf broken_8 (ground_of broken_8)
broken_8-ground = record { names = refl; entries = refl }

broken_8-modes : broken_modes (ground_of broken_8) broken_8 ≡ []
broken_8-modes = refl

broken_8-counted : IsStatementGroundOf broken_8 (counted_ground_of broken_8)
broken_8-counted = record { names = refl; entries = refl }

broken_8-statements : broken_statements (counted_ground_of broken_8) broken_8 ≡ (told rules.S2 1 123 ∷ told rules.S2 1 152 ∷ told rules.S2 1 180 ∷ [])
broken_8-statements = refl

-- bounds don't matter, nor does READ, nor that a value is constant
--   m: MODULE DCL x INT (0:7) := 9, y INT (20:30) := x, z READ INT := y; x := z; x := 300; y := -1; END m;
abbrev near_1 : ProgramTree
near_1 = program ((modul (n 1 1 (codes "m")) modulions.Module ((local_item (locations (at 1 11) ((decl ((n 1 15 (codes "x")) ∷ []) (w.base_mode (w.discrete (w.bounded (n 1 17 (codes "INT")) (whole (at 1 22) 0) (whole (at 1 24) 7)))) (Some (init (at 1 27) false (whole (at 1 30) 9)))) ∷ (decl ((n 1 33 (codes "y")) ∷ []) (w.base_mode (w.discrete (w.bounded (n 1 35 (codes "INT")) (whole (at 1 40) 20) (whole (at 1 43) 30)))) (Some (init (at 1 47) false (name (n 1 50 (codes "x")))))) ∷ (decl ((n 1 53 (codes "z")) ∷ []) (w.read_mode (at 1 55) (w.discrete (w.named (n 1 60 (codes "INT"))))) (Some (init (at 1 64) false (name (n 1 67 (codes "y")))))) ∷ []))) ∷ (action (simple (at 1 70) (assign (at 1 70) (name (n 1 70 (codes "x"))) (name (n 1 75 (codes "z")))) (handler_node None))) ∷ (action (simple (at 1 78) (assign (at 1 78) (name (n 1 78 (codes "x"))) (whole (at 1 83) 300)) (handler_node None))) ∷ (action (simple (at 1 88) (assign (at 1 88) (name (n 1 88 (codes "y"))) (prefixed (at 1 93) prefixes.Minus (whole (at 1 94) 1))) (handler_node None))) ∷ []) None (Some (n 1 101 (codes "m")))) ∷ [])

near_1-ground : IsGroundOf near_1 (ground_of near_1)
near_1-ground = record { names = refl; entries = refl }

near_1-modes : broken_modes (ground_of near_1) near_1 ≡ []
near_1-modes = refl

near_1-counted : IsStatementGroundOf near_1 (counted_ground_of near_1)
near_1-counted = record { names = refl; entries = refl }

near_1-statements : broken_statements (counted_ground_of near_1) near_1 ≡ []
near_1-statements = refl

near_1-processes : broken_processes (counted_ground_of near_1) near_1 ≡ []
near_1-processes = refl

-- what goes with a mode
--   m: MODULE NEWMODE o = INT; SYNMODE n = o; DCL x o, y n := x, z o (1:3) := y, i INSTANCE := NULL, j INSTANCE := THIS, t CHARS (2) := "ab", a ARRAY (1:2) INT, b ARRAY (1:2) INT NOPACK := a; x := z; END m;
abbrev near_2 : ProgramTree
near_2 = program ((modul (n 1 1 (codes "m")) modulions.Module ((local_item (new_modes (at 1 11) ((modedef (n 1 19 (codes "o")) (w.base_mode (w.discrete (w.named (n 1 23 (codes "INT")))))) ∷ []))) ∷ (local_item (syn_modes (at 1 28) ((modedef (n 1 36 (codes "n")) (w.base_mode (w.discrete (w.named (n 1 40 (codes "o")))))) ∷ []))) ∷ (local_item (locations (at 1 43) ((decl ((n 1 47 (codes "x")) ∷ []) (w.base_mode (w.discrete (w.named (n 1 49 (codes "o"))))) None) ∷ (decl ((n 1 52 (codes "y")) ∷ []) (w.base_mode (w.discrete (w.named (n 1 54 (codes "n"))))) (Some (init (at 1 56) false (name (n 1 59 (codes "x")))))) ∷ (decl ((n 1 62 (codes "z")) ∷ []) (w.base_mode (w.discrete (w.bounded (n 1 64 (codes "o")) (whole (at 1 67) 1) (whole (at 1 69) 3)))) (Some (init (at 1 72) false (name (n 1 75 (codes "y")))))) ∷ (decl ((n 1 78 (codes "i")) ∷ []) (w.base_mode (w.discrete (w.named (n 1 80 (codes "INSTANCE"))))) (Some (init (at 1 89) false (name (n 1 92 (codes "NULL")))))) ∷ (decl ((n 1 98 (codes "j")) ∷ []) (w.base_mode (w.discrete (w.named (n 1 100 (codes "INSTANCE"))))) (Some (init (at 1 109) false (this_instance (at 1 112))))) ∷ (decl ((n 1 118 (codes "t")) ∷ []) (w.base_mode (w.chars (at 1 120) (whole (at 1 127) 2))) (Some (init (at 1 130) false (text (at 1 133) (97 ∷ 98 ∷ []))))) ∷ (decl ((n 1 139 (codes "a")) ∷ []) (w.base_mode (w.array (at 1 141) (w.index_bounded (whole (at 1 148) 1) (whole (at 1 150) 2)) (w.discrete (w.named (n 1 153 (codes "INT")))) None)) None) ∷ (decl ((n 1 158 (codes "b")) ∷ []) (w.base_mode (w.array (at 1 160) (w.index_bounded (whole (at 1 167) 1) (whole (at 1 169) 2)) (w.discrete (w.named (n 1 172 (codes "INT")))) (Some (w.by_packing packings.NoPack)))) (Some (init (at 1 183) false (name (n 1 186 (codes "a")))))) ∷ []))) ∷ (action (simple (at 1 189) (assign (at 1 189) (name (n 1 189 (codes "x"))) (name (n 1 194 (codes "z")))) (handler_node None))) ∷ []) None (Some (n 1 201 (codes "m")))) ∷ [])

near_2-ground : IsGroundOf near_2 (ground_of near_2)
near_2-ground = record { names = refl; entries = refl }

near_2-modes : broken_modes (ground_of near_2) near_2 ≡ []
near_2-modes = refl

near_2-counted : IsStatementGroundOf near_2 (counted_ground_of near_2)
near_2-counted = record { names = refl; entries = refl }

near_2-statements : broken_statements (counted_ground_of near_2) near_2 ≡ []
near_2-statements = refl

near_2-processes : broken_processes (counted_ground_of near_2) near_2 ≡ []
near_2-processes = refl
