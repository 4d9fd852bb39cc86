-- Rule S3: texts that break it, and texts that nearly do.
use Rattle.std.proofs.Common.{◌≡◌, refl}
use Rattle.std.specs.Prelude.{false, [], ◌∷◌, Some, None, codes}
use Rattle.chill_tree.specs.declared.tree.expr.Operator.TheVariants as ops
use Rattle.chill_tree.specs.declared.tree.item.Passing.TheVariants as passings
use Rattle.chill_tree.specs.declared.tree.item.ModulionKind.TheVariants as modulions
use Rattle.chill_tree.specs.ExprTree.{whole, character, tuple, name, apply, field, alone, expr_nodes, range_nodes}
use Rattle.chill_tree.specs.ModeTree as w
use Rattle.chill_tree.specs.LocalTree.{synonyms, syn_modes, new_modes, locations}
use Rattle.chill_tree.specs.SimpleTree.{assign, update, return_with, for_members, for_steps}
use Rattle.chill_tree.specs.StatementTree.{simple, bracketed, do_loop, begin_end, receive_case, statement_nodes, receive_nodes, no_otherwise, handler_node, body_nodes, local_part, action_part}
use Rattle.chill_tree.specs.ItemTree.{ProgramTree, local_item, signals, procedure, action}
use Rattle.diagnostics.specs.declared.rule.Rule.TheVariants as rules
use Rattle.checks_model.specs.Table.{IsGroundOf, IsStatementGroundOf}
use Rattle.checks_model.specs.Phases.{broken_modes, broken_statements, broken_processes}
use Rattle.checks_examples.proofs.Programs.{at, n, syn, modedef, init, decl, fields, recv, sig, param, proc, modul, program, ground_of, counted_ground_of, told}

-- no mode for a tuple where the target has none
--   m: MODULE SYN k = 1; DCL x INT; k := [1]; x.f := [1, 2]; END m;
abbrev broken_1 : ProgramTree
broken_1 = program ((modul (n 1 1 (codes "m")) modulions.Module ((local_item (synonyms (at 1 11) ((syn ((n 1 15 (codes "k")) ∷ []) None (whole (at 1 19) 1)) ∷ []))) ∷ (local_item (locations (at 1 22) ((decl ((n 1 26 (codes "x")) ∷ []) (w.base_mode (w.discrete (w.named (n 1 28 (codes "INT"))))) None) ∷ []))) ∷ (action (simple (at 1 33) (assign (at 1 33) (name (n 1 33 (codes "k"))) (tuple (at 1 38) None (at 1 38) (range_nodes ((alone (whole (at 1 39) 1)) ∷ [])))) (handler_node None))) ∷ (action (simple (at 1 43) (assign (at 1 43) (field (at 1 43) (name (n 1 43 (codes "x"))) (n 1 45 (codes "f"))) (tuple (at 1 50) None (at 1 50) (range_nodes ((alone (whole (at 1 51) 1)) ∷ (alone (whole (at 1 54) 2)) ∷ [])))) (handler_node None))) ∷ []) None (Some (n 1 62 (codes "m")))) ∷ [])

broken_1-ground : IsGroundOf broken_1 (ground_of broken_1)
broken_1-ground = record { names = refl; entries = refl }

broken_1-modes : broken_modes (ground_of broken_1) broken_1 ≡ []
broken_1-modes = refl

broken_1-counted : IsStatementGroundOf broken_1 (counted_ground_of broken_1)
broken_1-counted = record { names = refl; entries = refl }

broken_1-statements : broken_statements (counted_ground_of broken_1) broken_1 ≡ (told rules.S3 1 33 ∷ told rules.S3 1 43 ∷ [])
broken_1-statements = refl

-- an assignment with an operator
--   m: MODULE DCL x READ INT := 1, y INT; x +:= 1; DO FOR i := 1 TO 3; i -:= 1; OD; y *:= 2; END m;
abbrev broken_2 : ProgramTree
broken_2 = program ((modul (n 1 1 (codes "m")) modulions.Module ((local_item (locations (at 1 11) ((decl ((n 1 15 (codes "x")) ∷ []) (w.read_mode (at 1 17) (w.discrete (w.named (n 1 22 (codes "INT"))))) (Some (init (at 1 26) false (whole (at 1 29) 1)))) ∷ (decl ((n 1 32 (codes "y")) ∷ []) (w.base_mode (w.discrete (w.named (n 1 34 (codes "INT"))))) None) ∷ []))) ∷ (action (simple (at 1 39) (update (at 1 39) (name (n 1 39 (codes "x"))) ops.Plus (at 1 41) (whole (at 1 45) 1)) (handler_node None))) ∷ (action (bracketed (at 1 48) None (do_loop (at 1 48) (for_steps (at 1 51) (n 1 55 (codes "i")) (whole (at 1 60) 1) None false (whole (at 1 65) 3) None) (statement_nodes ((simple (at 1 68) (update (at 1 68) (name (n 1 68 (codes "i"))) ops.Minus (at 1 70) (whole (at 1 74) 1)) (handler_node None)) ∷ []))) (handler_node None) None)) ∷ (action (simple (at 1 81) (update (at 1 81) (name (n 1 81 (codes "y"))) ops.Times (at 1 83) (whole (at 1 87) 2)) (handler_node None))) ∷ []) None (Some (n 1 94 (codes "m")))) ∷ [])

broken_2-ground : IsGroundOf broken_2 (ground_of broken_2)
broken_2-ground = record { names = refl; entries = refl }

broken_2-modes : broken_modes (ground_of broken_2) broken_2 ≡ []
broken_2-modes = refl

broken_2-counted : IsStatementGroundOf broken_2 (counted_ground_of broken_2)
broken_2-counted = record { names = refl; entries = refl }

broken_2-statements : broken_statements (counted_ground_of broken_2) broken_2 ≡ (told rules.S3 1 39 ∷ told rules.S3 1 68 ∷ [])
broken_2-statements = refl

-- a counter, of both kinds
--   m: MODULE DCL p POWERSET INT (0:7); DO FOR i := 1 TO 3; i := 2; OD; DO FOR i IN p; i := 2; OD; END m;
abbrev broken_3 : ProgramTree
broken_3 = program ((modul (n 1 1 (codes "m")) modulions.Module ((local_item (locations (at 1 11) ((decl ((n 1 15 (codes "p")) ∷ []) (w.base_mode (w.powerset (at 1 17) (w.bounded (n 1 26 (codes "INT")) (whole (at 1 31) 0) (whole (at 1 33) 7)))) None) ∷ []))) ∷ (action (bracketed (at 1 37) None (do_loop (at 1 37) (for_steps (at 1 40) (n 1 44 (codes "i")) (whole (at 1 49) 1) None false (whole (at 1 54) 3) None) (statement_nodes ((simple (at 1 57) (assign (at 1 57) (name (n 1 57 (codes "i"))) (whole (at 1 62) 2)) (handler_node None)) ∷ []))) (handler_node None) None)) ∷ (action (bracketed (at 1 69) None (do_loop (at 1 69) (for_members (at 1 72) (n 1 76 (codes "i")) (name (n 1 81 (codes "p"))) None) (statement_nodes ((simple (at 1 84) (assign (at 1 84) (name (n 1 84 (codes "i"))) (whole (at 1 89) 2)) (handler_node None)) ∷ []))) (handler_node None) None)) ∷ []) None (Some (n 1 100 (codes "m")))) ∷ [])

broken_3-ground : IsGroundOf broken_3 (ground_of broken_3)
broken_3-ground = record { names = refl; entries = refl }

broken_3-modes : broken_modes (ground_of broken_3) broken_3 ≡ []
broken_3-modes = refl

broken_3-counted : IsStatementGroundOf broken_3 (counted_ground_of broken_3)
broken_3-counted = record { names = refl; entries = refl }

broken_3-statements : broken_statements (counted_ground_of broken_3) broken_3 ≡ (told rules.S3 1 57 ∷ told rules.S3 1 84 ∷ [])
broken_3-statements = refl

-- a READ location, its parts, and one with a READ part
--   m: MODULE SYNMODE r = READ INT; DCL x READ INT := 1, s READ STRUCT (f INT) := [1], u STRUCT (g r, h INT) := [1, 2];
--   x := 2; s.f := 2; s := [3]; u := [3, 4]; u.g := 3; u.h := 4; END m;
abbrev broken_4 : ProgramTree
broken_4 = program ((modul (n 1 1 (codes "m")) modulions.Module ((local_item (syn_modes (at 1 11) ((modedef (n 1 19 (codes "r")) (w.read_mode (at 1 23) (w.discrete (w.named (n 1 28 (codes "INT")))))) ∷ []))) ∷ (local_item (locations (at 1 33) ((decl ((n 1 37 (codes "x")) ∷ []) (w.read_mode (at 1 39) (w.discrete (w.named (n 1 44 (codes "INT"))))) (Some (init (at 1 48) false (whole (at 1 51) 1)))) ∷ (decl ((n 1 54 (codes "s")) ∷ []) (w.read_mode (at 1 56) (w.structure (at 1 61) (w.field_nodes ((fields ((n 1 69 (codes "f")) ∷ []) (w.discrete (w.named (n 1 71 (codes "INT")))) None) ∷ [])) None)) (Some (init (at 1 76) false (tuple (at 1 79) None (at 1 79) (range_nodes ((alone (whole (at 1 80) 1)) ∷ [])))))) ∷ (decl ((n 1 84 (codes "u")) ∷ []) (w.base_mode (w.structure (at 1 86) (w.field_nodes ((fields ((n 1 94 (codes "g")) ∷ []) (w.discrete (w.named (n 1 96 (codes "r")))) None) ∷ (fields ((n 1 99 (codes "h")) ∷ []) (w.discrete (w.named (n 1 101 (codes "INT")))) None) ∷ [])) None)) (Some (init (at 1 106) false (tuple (at 1 109) None (at 1 109) (range_nodes ((alone (whole (at 1 110) 1)) ∷ (alone (whole (at 1 113) 2)) ∷ [])))))) ∷ []))) ∷ (action (simple (at 2 1) (assign (at 2 1) (name (n 2 1 (codes "x"))) (whole (at 2 6) 2)) (handler_node None))) ∷ (action (simple (at 2 9) (assign (at 2 9) (field (at 2 9) (name (n 2 9 (codes "s"))) (n 2 11 (codes "f"))) (whole (at 2 16) 2)) (handler_node None))) ∷ (action (simple (at 2 19) (assign (at 2 19) (name (n 2 19 (codes "s"))) (tuple (at 2 24) None (at 2 24) (range_nodes ((alone (whole (at 2 25) 3)) ∷ [])))) (handler_node None))) ∷ (action (simple (at 2 29) (assign (at 2 29) (name (n 2 29 (codes "u"))) (tuple (at 2 34) None (at 2 34) (range_nodes ((alone (whole (at 2 35) 3)) ∷ (alone (whole (at 2 38) 4)) ∷ [])))) (handler_node None))) ∷ (action (simple (at 2 42) (assign (at 2 42) (field (at 2 42) (name (n 2 42 (codes "u"))) (n 2 44 (codes "g"))) (whole (at 2 49) 3)) (handler_node None))) ∷ (action (simple (at 2 52) (assign (at 2 52) (field (at 2 52) (name (n 2 52 (codes "u"))) (n 2 54 (codes "h"))) (whole (at 2 59) 4)) (handler_node None))) ∷ []) None (Some (n 2 66 (codes "m")))) ∷ [])

broken_4-ground : IsGroundOf broken_4 (ground_of broken_4)
broken_4-ground = record { names = refl; entries = refl }

broken_4-modes : broken_modes (ground_of broken_4) broken_4 ≡ []
broken_4-modes = refl

broken_4-counted : IsStatementGroundOf broken_4 (counted_ground_of broken_4)
broken_4-counted = record { names = refl; entries = refl }

broken_4-statements : broken_statements (counted_ground_of broken_4) broken_4 ≡ (told rules.S3 2 1 ∷ told rules.S3 2 9 ∷ told rules.S3 2 19 ∷ told rules.S3 2 29 ∷ told rules.S3 2 42 ∷ [])
broken_4-statements = refl

-- a READ parameter, and a READ element
--   m: MODULE SYNMODE r = READ BOOL; DCL a ARRAY (1:2) r := [TRUE, FALSE]; p: PROC (k READ INT, l INT); k := 1; l := 1; END p; a(1) := TRUE; END m;
abbrev broken_5 : ProgramTree
broken_5 = program ((modul (n 1 1 (codes "m")) modulions.Module ((local_item (syn_modes (at 1 11) ((modedef (n 1 19 (codes "r")) (w.read_mode (at 1 23) (w.discrete (w.named (n 1 28 (codes "BOOL")))))) ∷ []))) ∷ (local_item (locations (at 1 34) ((decl ((n 1 38 (codes "a")) ∷ []) (w.base_mode (w.array (at 1 40) (w.index_bounded (whole (at 1 47) 1) (whole (at 1 49) 2)) (w.discrete (w.named (n 1 52 (codes "r")))) None)) (Some (init (at 1 54) false (tuple (at 1 57) None (at 1 57) (range_nodes ((alone (name (n 1 58 (codes "TRUE")))) ∷ (alone (name (n 1 64 (codes "FALSE")))) ∷ [])))))) ∷ []))) ∷ (procedure (proc (n 1 72 (codes "p")) ((param ((n 1 81 (codes "k")) ∷ []) (w.read_mode (at 1 83) (w.discrete (w.named (n 1 88 (codes "INT"))))) None) ∷ (param ((n 1 93 (codes "l")) ∷ []) (w.base_mode (w.discrete (w.named (n 1 95 (codes "INT"))))) None) ∷ []) None None ((action_part (simple (at 1 101) (assign (at 1 101) (name (n 1 101 (codes "k"))) (whole (at 1 106) 1)) (handler_node None))) ∷ (action_part (simple (at 1 109) (assign (at 1 109) (name (n 1 109 (codes "l"))) (whole (at 1 114) 1)) (handler_node None))) ∷ []) None (Some (n 1 121 (codes "p"))))) ∷ (action (simple (at 1 124) (assign (at 1 124) (apply (at 1 124) (name (n 1 124 (codes "a"))) (expr_nodes ((whole (at 1 126) 1) ∷ []))) (name (n 1 132 (codes "TRUE")))) (handler_node None))) ∷ []) None (Some (n 1 142 (codes "m")))) ∷ [])

broken_5-ground : IsGroundOf broken_5 (ground_of broken_5)
broken_5-ground = record { names = refl; entries = refl }

broken_5-modes : broken_modes (ground_of broken_5) broken_5 ≡ []
broken_5-modes = refl

broken_5-counted : IsStatementGroundOf broken_5 (counted_ground_of broken_5)
broken_5-counted = record { names = refl; entries = refl }

broken_5-statements : broken_statements (counted_ground_of broken_5) broken_5 ≡ (told rules.S3 1 101 ∷ told rules.S3 1 124 ∷ [])
broken_5-statements = refl

-- a received name, and its parts
--   m: MODULE DCL b BUFFER STRUCT (f INT); SIGNAL s = (INT); RECEIVE CASE (s IN v): v := 1; ESAC; RECEIVE CASE (b IN w): w.f := 1; ESAC; END m;
abbrev broken_6 : ProgramTree
broken_6 = program ((modul (n 1 1 (codes "m")) modulions.Module ((local_item (locations (at 1 11) ((decl ((n 1 15 (codes "b")) ∷ []) (w.buffer_mode (at 1 17) None (w.structure (at 1 24) (w.field_nodes ((fields ((n 1 32 (codes "f")) ∷ []) (w.discrete (w.named (n 1 34 (codes "INT")))) None) ∷ [])) None)) None) ∷ []))) ∷ (signals (at 1 40) ((sig (n 1 47 (codes "s")) (Some ((w.base_mode (w.discrete (w.named (n 1 52 (codes "INT"))))) ∷ [])) None) ∷ [])) ∷ (action (bracketed (at 1 58) None (receive_case (at 1 58) None (receive_nodes ((recv (at 1 71) (n 1 72 (codes "s")) (Some ((n 1 77 (codes "v")) ∷ [])) ((simple (at 1 81) (assign (at 1 81) (name (n 1 81 (codes "v"))) (whole (at 1 86) 1)) (handler_node None)) ∷ [])) ∷ [])) no_otherwise) (handler_node None) None)) ∷ (action (bracketed (at 1 95) None (receive_case (at 1 95) None (receive_nodes ((recv (at 1 108) (n 1 109 (codes "b")) (Some ((n 1 114 (codes "w")) ∷ [])) ((simple (at 1 118) (assign (at 1 118) (field (at 1 118) (name (n 1 118 (codes "w"))) (n 1 120 (codes "f"))) (whole (at 1 125) 1)) (handler_node None)) ∷ [])) ∷ [])) no_otherwise) (handler_node None) None)) ∷ []) None (Some (n 1 138 (codes "m")))) ∷ [])

broken_6-ground : IsGroundOf broken_6 (ground_of broken_6)
broken_6-ground = record { names = refl; entries = refl }

broken_6-modes : broken_modes (ground_of broken_6) broken_6 ≡ []
broken_6-modes = refl

broken_6-counted : IsStatementGroundOf broken_6 (counted_ground_of broken_6)
broken_6-counted = record { names = refl; entries = refl }

broken_6-statements : broken_statements (counted_ground_of broken_6) broken_6 ≡ (told rules.S3 1 81 ∷ told rules.S3 1 118 ∷ [])
broken_6-statements = refl

-- a synonym, an element and a constant of the language
--   m: MODULE SYN k = 1; NEWMODE c = SET (red, green); k := 2; red := green; TRUE := FALSE; NULL := NULL; END m;
abbrev broken_7 : ProgramTree
broken_7 = program ((modul (n 1 1 (codes "m")) modulions.Module ((local_item (synonyms (at 1 11) ((syn ((n 1 15 (codes "k")) ∷ []) None (whole (at 1 19) 1)) ∷ []))) ∷ (local_item (new_modes (at 1 22) ((modedef (n 1 30 (codes "c")) (w.base_mode (w.discrete (w.set_of (at 1 34) ((n 1 39 (codes "red")) ∷ (n 1 44 (codes "green")) ∷ []))))) ∷ []))) ∷ (action (simple (at 1 52) (assign (at 1 52) (name (n 1 52 (codes "k"))) (whole (at 1 57) 2)) (handler_node None))) ∷ (action (simple (at 1 60) (assign (at 1 60) (name (n 1 60 (codes "red"))) (name (n 1 67 (codes "green")))) (handler_node None))) ∷ (action (simple (at 1 74) (assign (at 1 74) (name (n 1 74 (codes "TRUE"))) (name (n 1 82 (codes "FALSE")))) (handler_node None))) ∷ (action (simple (at 1 89) (assign (at 1 89) (name (n 1 89 (codes "NULL"))) (name (n 1 97 (codes "NULL")))) (handler_node None))) ∷ []) None (Some (n 1 107 (codes "m")))) ∷ [])

broken_7-ground : IsGroundOf broken_7 (ground_of broken_7)
broken_7-ground = record { names = refl; entries = refl }

broken_7-modes : broken_modes (ground_of broken_7) broken_7 ≡ []
broken_7-modes = refl

broken_7-counted : IsStatementGroundOf broken_7 (counted_ground_of broken_7)
broken_7-counted = record { names = refl; entries = refl }

broken_7-statements : broken_statements (counted_ground_of broken_7) broken_7 ≡ (told rules.S3 1 52 ∷ told rules.S3 1 60 ∷ told rules.S3 1 74 ∷ told rules.S3 1 89 ∷ [])
broken_7-statements = refl

-- a procedure and a routine
--   m: MODULE f: PROC () RETURNS (INT); RETURN 1; END f; p: PROC (); END p; f := 1; p := 1; ABS := 1; f(1) := 2; GET_INT := 1; END m;
abbrev broken_8 : ProgramTree
broken_8 = program ((modul (n 1 1 (codes "m")) modulions.Module ((procedure (proc (n 1 11 (codes "f")) [] (Some (w.base_mode (w.discrete (w.named (n 1 31 (codes "INT")))))) None ((action_part (simple (at 1 37) (return_with (at 1 37) (Some (whole (at 1 44) 1))) (handler_node None))) ∷ []) None (Some (n 1 51 (codes "f"))))) ∷ (procedure (proc (n 1 54 (codes "p")) [] None None [] None (Some (n 1 70 (codes "p"))))) ∷ (action (simple (at 1 73) (assign (at 1 73) (name (n 1 73 (codes "f"))) (whole (at 1 78) 1)) (handler_node None))) ∷ (action (simple (at 1 81) (assign (at 1 81) (name (n 1 81 (codes "p"))) (whole (at 1 86) 1)) (handler_node None))) ∷ (action (simple (at 1 89) (assign (at 1 89) (name (n 1 89 (codes "ABS"))) (whole (at 1 96) 1)) (handler_node None))) ∷ (action (simple (at 1 99) (assign (at 1 99) (apply (at 1 99) (name (n 1 99 (codes "f"))) (expr_nodes ((whole (at 1 101) 1) ∷ []))) (whole (at 1 107) 2)) (handler_node None))) ∷ (action (simple (at 1 110) (assign (at 1 110) (name (n 1 110 (codes "GET_INT"))) (whole (at 1 121) 1)) (handler_node None))) ∷ []) None (Some (n 1 128 (codes "m")))) ∷ [])

broken_8-ground : IsGroundOf broken_8 (ground_of broken_8)
broken_8-ground = record { names = refl; entries = refl }

broken_8-modes : broken_modes (ground_of broken_8) broken_8 ≡ []
broken_8-modes = refl

broken_8-counted : IsStatementGroundOf broken_8 (counted_ground_of broken_8)
broken_8-counted = record { names = refl; entries = refl }

broken_8-statements : broken_statements (counted_ground_of broken_8) broken_8 ≡ (told rules.S3 1 73 ∷ told rules.S3 1 81 ∷ told rules.S3 1 89 ∷ told rules.S3 1 99 ∷ told rules.S3 1 110 ∷ [])
broken_8-statements = refl

-- an index of what is no location has no mode: a name with brackets calls nothing there
--   m: MODULE SYNMODE a = ARRAY (1:3) INT; f: PROC () RETURNS (a); RETURN [1, 2, 3]; END f; f(1)(TRUE) := 2; END m;
abbrev broken_9 : ProgramTree
broken_9 = program ((modul (n 1 1 (codes "m")) modulions.Module ((local_item (syn_modes (at 1 11) ((modedef (n 1 19 (codes "a")) (w.base_mode (w.array (at 1 23) (w.index_bounded (whole (at 1 30) 1) (whole (at 1 32) 3)) (w.discrete (w.named (n 1 35 (codes "INT")))) None))) ∷ []))) ∷ (procedure (proc (n 1 40 (codes "f")) [] (Some (w.base_mode (w.discrete (w.named (n 1 60 (codes "a")))))) None ((action_part (simple (at 1 64) (return_with (at 1 64) (Some (tuple (at 1 71) None (at 1 71) (range_nodes ((alone (whole (at 1 72) 1)) ∷ (alone (whole (at 1 75) 2)) ∷ (alone (whole (at 1 78) 3)) ∷ []))))) (handler_node None))) ∷ []) None (Some (n 1 86 (codes "f"))))) ∷ (action (simple (at 1 89) (assign (at 1 89) (apply (at 1 89) (apply (at 1 89) (name (n 1 89 (codes "f"))) (expr_nodes ((whole (at 1 91) 1) ∷ []))) (expr_nodes ((name (n 1 94 (codes "TRUE"))) ∷ []))) (whole (at 1 103) 2)) (handler_node None))) ∷ []) None (Some (n 1 110 (codes "m")))) ∷ [])

broken_9-ground : IsGroundOf broken_9 (ground_of broken_9)
broken_9-ground = record { names = refl; entries = refl }

broken_9-modes : broken_modes (ground_of broken_9) broken_9 ≡ []
broken_9-modes = refl

broken_9-counted : IsStatementGroundOf broken_9 (counted_ground_of broken_9)
broken_9-counted = record { names = refl; entries = refl }

broken_9-statements : broken_statements (counted_ground_of broken_9) broken_9 ≡ (told rules.S3 1 89 ∷ [])
broken_9-statements = refl

-- a location that has the name of a counter outside it
--   m: MODULE DO FOR i := 1 TO 3; BEGIN DCL i INT; i := 2; END; OD; END m;
abbrev near_1 : ProgramTree
near_1 = program ((modul (n 1 1 (codes "m")) modulions.Module ((action (bracketed (at 1 11) None (do_loop (at 1 11) (for_steps (at 1 14) (n 1 18 (codes "i")) (whole (at 1 23) 1) None false (whole (at 1 28) 3) None) (statement_nodes ((bracketed (at 1 31) None (begin_end (at 1 31) (body_nodes ((local_part (locations (at 1 37) ((decl ((n 1 41 (codes "i")) ∷ []) (w.base_mode (w.discrete (w.named (n 1 43 (codes "INT"))))) None) ∷ []))) ∷ (action_part (simple (at 1 48) (assign (at 1 48) (name (n 1 48 (codes "i"))) (whole (at 1 53) 2)) (handler_node None))) ∷ []))) (handler_node None) None) ∷ []))) (handler_node None) None)) ∷ []) None (Some (n 1 69 (codes "m")))) ∷ [])

near_1-ground : IsGroundOf near_1 (ground_of near_1)
near_1-ground = record { names = refl; entries = refl }

near_1-modes : broken_modes (ground_of near_1) near_1 ≡ []
near_1-modes = refl

near_1-counted : IsStatementGroundOf near_1 (counted_ground_of near_1)
near_1-counted = record { names = refl; entries = refl }

near_1-statements : broken_statements (counted_ground_of near_1) near_1 ≡ []
near_1-statements = refl

near_1-processes : broken_processes (counted_ground_of near_1) near_1 ≡ []
near_1-processes = refl

-- locations, parameters of each kind, and their parts
--   m: MODULE DCL x INT, a ARRAY (1:2) STRUCT (f CHARS (3)); p: PROC (k INT, l INT OUT, o INT INOUT, s STRUCT (f INT)); k := 1; l := 2; o := 3; s.f := 4; x := 5; END p; a(1).f(0) := 'a'; a(2) := a(1); END m;
abbrev near_2 : ProgramTree
near_2 = program ((modul (n 1 1 (codes "m")) modulions.Module ((local_item (locations (at 1 11) ((decl ((n 1 15 (codes "x")) ∷ []) (w.base_mode (w.discrete (w.named (n 1 17 (codes "INT"))))) None) ∷ (decl ((n 1 22 (codes "a")) ∷ []) (w.base_mode (w.array (at 1 24) (w.index_bounded (whole (at 1 31) 1) (whole (at 1 33) 2)) (w.structure (at 1 36) (w.field_nodes ((fields ((n 1 44 (codes "f")) ∷ []) (w.chars (at 1 46) (whole (at 1 53) 3)) None) ∷ [])) None) None)) None) ∷ []))) ∷ (procedure (proc (n 1 58 (codes "p")) ((param ((n 1 67 (codes "k")) ∷ []) (w.base_mode (w.discrete (w.named (n 1 69 (codes "INT"))))) None) ∷ (param ((n 1 74 (codes "l")) ∷ []) (w.base_mode (w.discrete (w.named (n 1 76 (codes "INT"))))) (Some passings.Out)) ∷ (param ((n 1 85 (codes "o")) ∷ []) (w.base_mode (w.discrete (w.named (n 1 87 (codes "INT"))))) (Some passings.InOut)) ∷ (param ((n 1 98 (codes "s")) ∷ []) (w.base_mode (w.structure (at 1 100) (w.field_nodes ((fields ((n 1 108 (codes "f")) ∷ []) (w.discrete (w.named (n 1 110 (codes "INT")))) None) ∷ [])) None)) None) ∷ []) None None ((action_part (simple (at 1 117) (assign (at 1 117) (name (n 1 117 (codes "k"))) (whole (at 1 122) 1)) (handler_node None))) ∷ (action_part (simple (at 1 125) (assign (at 1 125) (name (n 1 125 (codes "l"))) (whole (at 1 130) 2)) (handler_node None))) ∷ (action_part (simple (at 1 133) (assign (at 1 133) (name (n 1 133 (codes "o"))) (whole (at 1 138) 3)) (handler_node None))) ∷ (action_part (simple (at 1 141) (assign (at 1 141) (field (at 1 141) (name (n 1 141 (codes "s"))) (n 1 143 (codes "f"))) (whole (at 1 148) 4)) (handler_node None))) ∷ (action_part (simple (at 1 151) (assign (at 1 151) (name (n 1 151 (codes "x"))) (whole (at 1 156) 5)) (handler_node None))) ∷ []) None (Some (n 1 163 (codes "p"))))) ∷ (action (simple (at 1 166) (assign (at 1 166) (apply (at 1 166) (field (at 1 166) (apply (at 1 166) (name (n 1 166 (codes "a"))) (expr_nodes ((whole (at 1 168) 1) ∷ []))) (n 1 171 (codes "f"))) (expr_nodes ((whole (at 1 173) 0) ∷ []))) (character (at 1 179) 97)) (handler_node None))) ∷ (action (simple (at 1 184) (assign (at 1 184) (apply (at 1 184) (name (n 1 184 (codes "a"))) (expr_nodes ((whole (at 1 186) 2) ∷ []))) (apply (at 1 192) (name (n 1 192 (codes "a"))) (expr_nodes ((whole (at 1 194) 1) ∷ [])))) (handler_node None))) ∷ []) None (Some (n 1 202 (codes "m")))) ∷ [])

near_2-ground : IsGroundOf near_2 (ground_of near_2)
near_2-ground = record { names = refl; entries = refl }

near_2-modes : broken_modes (ground_of near_2) near_2 ≡ []
near_2-modes = refl

near_2-counted : IsStatementGroundOf near_2 (counted_ground_of near_2)
near_2-counted = record { names = refl; entries = refl }

near_2-statements : broken_statements (counted_ground_of near_2) near_2 ≡ []
near_2-statements = refl

near_2-processes : broken_processes (counted_ground_of near_2) near_2 ≡ []
near_2-processes = refl
