-- Rule S11: texts that break it, and texts that nearly do.
use Rattle.std.proofs.Common.{◌≡◌, refl}
use Rattle.std.specs.Prelude.{false, [], ◌∷◌, Some, None, codes}
use Rattle.chill_tree.specs.declared.tree.expr.Operator.TheVariants as ops
use Rattle.chill_tree.specs.declared.tree.item.ModulionKind.TheVariants as modulions
use Rattle.chill_tree.specs.ExprTree.{whole, character, tuple, uniform, name, apply, field, binary, alone, between, expr_nodes, range_nodes}
use Rattle.chill_tree.specs.ModeTree as w
use Rattle.chill_tree.specs.LocalTree.{synonyms, syn_modes, locations}
use Rattle.chill_tree.specs.SimpleTree.{assign, call_of, result_of, assert_that, while_holds, for_members, for_steps}
use Rattle.chill_tree.specs.StatementTree.{simple, bracketed, if_then, case_of, do_loop, statement_nodes, branch_nodes, case_nodes, no_otherwise, handler_node}
use Rattle.chill_tree.specs.ItemTree.{ProgramTree, local_item, procedure, action}
use Rattle.diagnostics.specs.declared.rule.Rule.TheVariants as rules
use Rattle.checks_model.specs.Table.{IsGroundOf, IsStatementGroundOf}
use Rattle.checks_model.specs.Phases.{broken_modes, broken_statements}
use Rattle.checks_examples.proofs.Programs.{at, n, syn, modedef, decl, fields, choice, param, proc, modul, program, ground_of, counted_ground_of, told}

-- a mode that has no tuples, by its name
--   m: MODULE DCL x INT; x := INT [x]; SYNMODE t = CHARS (1); DCL u t; u := t [u(0)]; END m;
abbrev broken_1 : ProgramTree
broken_1 = program ((modul (n 1 1 (codes "m")) modulions.Module ((local_item (locations (at 1 11) ((decl ((n 1 15 (codes "x")) ∷ []) (w.base_mode (w.discrete (w.named (n 1 17 (codes "INT"))))) None) ∷ []))) ∷ (action (simple (at 1 22) (assign (at 1 22) (name (n 1 22 (codes "x"))) (tuple (at 1 27) (Some (n 1 27 (codes "INT"))) (at 1 31) (range_nodes ((alone (name (n 1 32 (codes "x")))) ∷ [])))) (handler_node None))) ∷ (local_item (syn_modes (at 1 36) ((modedef (n 1 44 (codes "t")) (w.base_mode (w.chars (at 1 48) (whole (at 1 55) 1)))) ∷ []))) ∷ (local_item (locations (at 1 59) ((decl ((n 1 63 (codes "u")) ∷ []) (w.base_mode (w.discrete (w.named (n 1 65 (codes "t"))))) None) ∷ []))) ∷ (action (simple (at 1 68) (assign (at 1 68) (name (n 1 68 (codes "u"))) (tuple (at 1 73) (Some (n 1 73 (codes "t"))) (at 1 75) (range_nodes ((alone (apply (at 1 76) (name (n 1 76 (codes "u"))) (expr_nodes ((whole (at 1 78) 0) ∷ [])))) ∷ [])))) (handler_node None))) ∷ []) None (Some (n 1 87 (codes "m")))) ∷ [])

broken_1-ground : IsGroundOf broken_1 (ground_of broken_1)
broken_1-ground = record { names = refl; entries = refl }

broken_1-modes : broken_modes (ground_of broken_1) broken_1 ≡ []
broken_1-modes = refl

broken_1-counted : IsStatementGroundOf broken_1 (counted_ground_of broken_1)
broken_1-counted = record { names = refl; entries = refl }

broken_1-statements : broken_statements (counted_ground_of broken_1) broken_1 ≡ (told rules.S11 1 31 ∷ told rules.S11 1 75 ∷ [])
broken_1-statements = refl

-- a condition, and the bounds of a loop
--   m: MODULE IF [TRUE] THEN FI; ASSERT []; DO WHILE [1]; OD; DO FOR i := [1] TO [2]; OD; END m;
abbrev broken_2 : ProgramTree
broken_2 = program ((modul (n 1 1 (codes "m")) modulions.Module ((action (bracketed (at 1 11) None (if_then (at 1 11) (tuple (at 1 14) None (at 1 14) (range_nodes ((alone (name (n 1 15 (codes "TRUE")))) ∷ []))) (statement_nodes []) (branch_nodes []) no_otherwise) (handler_node None) None)) ∷ (action (simple (at 1 30) (assert_that (at 1 30) (tuple (at 1 37) None (at 1 37) (range_nodes []))) (handler_node None))) ∷ (action (bracketed (at 1 41) None (do_loop (at 1 41) (while_holds (at 1 44) (tuple (at 1 50) None (at 1 50) (range_nodes ((alone (whole (at 1 51) 1)) ∷ [])))) (statement_nodes [])) (handler_node None) None)) ∷ (action (bracketed (at 1 59) None (do_loop (at 1 59) (for_steps (at 1 62) (n 1 66 (codes "i")) (tuple (at 1 71) None (at 1 71) (range_nodes ((alone (whole (at 1 72) 1)) ∷ []))) None false (tuple (at 1 78) None (at 1 78) (range_nodes ((alone (whole (at 1 79) 2)) ∷ []))) None) (statement_nodes [])) (handler_node None) None)) ∷ []) None (Some (n 1 91 (codes "m")))) ∷ [])

broken_2-ground : IsGroundOf broken_2 (ground_of broken_2)
broken_2-ground = record { names = refl; entries = refl }

broken_2-modes : broken_modes (ground_of broken_2) broken_2 ≡ []
broken_2-modes = refl

broken_2-counted : IsStatementGroundOf broken_2 (counted_ground_of broken_2)
broken_2-counted = record { names = refl; entries = refl }

broken_2-statements : broken_statements (counted_ground_of broken_2) broken_2 ≡ (told rules.S11 1 14 ∷ told rules.S11 1 37 ∷ told rules.S11 1 50 ∷ told rules.S11 1 71 ∷ told rules.S11 1 78 ∷ [])
broken_2-statements = refl

-- a wrong number of parts, by a mode's name
--   m: MODULE DCL x INT; SYNMODE s = STRUCT (f, g INT); DCL y s; y := s [x]; y := s [x, 1, 2]; y := s [x, 1]; END m;
abbrev broken_3 : ProgramTree
broken_3 = program ((modul (n 1 1 (codes "m")) modulions.Module ((local_item (locations (at 1 11) ((decl ((n 1 15 (codes "x")) ∷ []) (w.base_mode (w.discrete (w.named (n 1 17 (codes "INT"))))) None) ∷ []))) ∷ (local_item (syn_modes (at 1 22) ((modedef (n 1 30 (codes "s")) (w.base_mode (w.structure (at 1 34) (w.field_nodes ((fields ((n 1 42 (codes "f")) ∷ (n 1 45 (codes "g")) ∷ []) (w.discrete (w.named (n 1 47 (codes "INT")))) None) ∷ [])) None))) ∷ []))) ∷ (local_item (locations (at 1 53) ((decl ((n 1 57 (codes "y")) ∷ []) (w.base_mode (w.discrete (w.named (n 1 59 (codes "s"))))) None) ∷ []))) ∷ (action (simple (at 1 62) (assign (at 1 62) (name (n 1 62 (codes "y"))) (tuple (at 1 67) (Some (n 1 67 (codes "s"))) (at 1 69) (range_nodes ((alone (name (n 1 70 (codes "x")))) ∷ [])))) (handler_node None))) ∷ (action (simple (at 1 74) (assign (at 1 74) (name (n 1 74 (codes "y"))) (tuple (at 1 79) (Some (n 1 79 (codes "s"))) (at 1 81) (range_nodes ((alone (name (n 1 82 (codes "x")))) ∷ (alone (whole (at 1 85) 1)) ∷ (alone (whole (at 1 88) 2)) ∷ [])))) (handler_node None))) ∷ (action (simple (at 1 92) (assign (at 1 92) (name (n 1 92 (codes "y"))) (tuple (at 1 97) (Some (n 1 97 (codes "s"))) (at 1 99) (range_nodes ((alone (name (n 1 100 (codes "x")))) ∷ (alone (whole (at 1 103) 1)) ∷ [])))) (handler_node None))) ∷ []) None (Some (n 1 111 (codes "m")))) ∷ [])

broken_3-ground : IsGroundOf broken_3 (ground_of broken_3)
broken_3-ground = record { names = refl; entries = refl }

broken_3-modes : broken_modes (ground_of broken_3) broken_3 ≡ []
broken_3-modes = refl

broken_3-counted : IsStatementGroundOf broken_3 (counted_ground_of broken_3)
broken_3-counted = record { names = refl; entries = refl }

broken_3-statements : broken_statements (counted_ground_of broken_3) broken_3 ≡ (told rules.S11 1 69 ∷ told rules.S11 1 81 ∷ [])
broken_3-statements = refl

-- where no mode receives it
--   m: MODULE DCL x INT, b BOOL; PUT_INT([1]); x := x + [1]; CASE [1] OF (1): ESAC; b := [1] = [1]; DO FOR i IN [1, 2]; OD; END m;
abbrev broken_4 : ProgramTree
broken_4 = program ((modul (n 1 1 (codes "m")) modulions.Module ((local_item (locations (at 1 11) ((decl ((n 1 15 (codes "x")) ∷ []) (w.base_mode (w.discrete (w.named (n 1 17 (codes "INT"))))) None) ∷ (decl ((n 1 22 (codes "b")) ∷ []) (w.base_mode (w.discrete (w.named (n 1 24 (codes "BOOL"))))) None) ∷ []))) ∷ (action (simple (at 1 30) (call_of (at 1 30) false (n 1 30 (codes "PUT_INT")) ((tuple (at 1 38) None (at 1 38) (range_nodes ((alone (whole (at 1 39) 1)) ∷ []))) ∷ [])) (handler_node None))) ∷ (action (simple (at 1 44) (assign (at 1 44) (name (n 1 44 (codes "x"))) (binary (at 1 49) (name (n 1 49 (codes "x"))) ops.Plus (at 1 51) (tuple (at 1 53) None (at 1 53) (range_nodes ((alone (whole (at 1 54) 1)) ∷ []))))) (handler_node None))) ∷ (action (bracketed (at 1 58) None (case_of (at 1 58) (tuple (at 1 63) None (at 1 63) (range_nodes ((alone (whole (at 1 64) 1)) ∷ []))) (case_nodes ((choice (at 1 70) ((alone (whole (at 1 71) 1)) ∷ []) []) ∷ [])) no_otherwise) (handler_node None) None)) ∷ (action (simple (at 1 81) (assign (at 1 81) (name (n 1 81 (codes "b"))) (binary (at 1 86) (tuple (at 1 86) None (at 1 86) (range_nodes ((alone (whole (at 1 87) 1)) ∷ []))) ops.Equal (at 1 90) (tuple (at 1 92) None (at 1 92) (range_nodes ((alone (whole (at 1 93) 1)) ∷ []))))) (handler_node None))) ∷ (action (bracketed (at 1 97) None (do_loop (at 1 97) (for_members (at 1 100) (n 1 104 (codes "i")) (tuple (at 1 109) None (at 1 109) (range_nodes ((alone (whole (at 1 110) 1)) ∷ (alone (whole (at 1 113) 2)) ∷ []))) None) (statement_nodes [])) (handler_node None) None)) ∷ []) None (Some (n 1 125 (codes "m")))) ∷ [])

broken_4-ground : IsGroundOf broken_4 (ground_of broken_4)
broken_4-ground = record { names = refl; entries = refl }

broken_4-modes : broken_modes (ground_of broken_4) broken_4 ≡ []
broken_4-modes = refl

broken_4-counted : IsStatementGroundOf broken_4 (counted_ground_of broken_4)
broken_4-counted = record { names = refl; entries = refl }

broken_4-statements : broken_statements (counted_ground_of broken_4) broken_4 ≡ (told rules.S11 1 38 ∷ told rules.S11 1 53 ∷ told rules.S11 1 63 ∷ told rules.S11 1 86 ∷ told rules.S11 1 92 ∷ told rules.S11 1 109 ∷ [])
broken_4-statements = refl

-- a mode that has no tuples
--   m: MODULE DCL x INT, t CHARS (2), i INSTANCE; x := [1]; t := ['a', 'b']; i := []; p: PROC (k BOOL); END p; p([TRUE]); END m;
abbrev broken_5 : ProgramTree
broken_5 = program ((modul (n 1 1 (codes "m")) modulions.Module ((local_item (locations (at 1 11) ((decl ((n 1 15 (codes "x")) ∷ []) (w.base_mode (w.discrete (w.named (n 1 17 (codes "INT"))))) None) ∷ (decl ((n 1 22 (codes "t")) ∷ []) (w.base_mode (w.chars (at 1 24) (whole (at 1 31) 2))) None) ∷ (decl ((n 1 35 (codes "i")) ∷ []) (w.base_mode (w.discrete (w.named (n 1 37 (codes "INSTANCE"))))) None) ∷ []))) ∷ (action (simple (at 1 47) (assign (at 1 47) (name (n 1 47 (codes "x"))) (tuple (at 1 52) None (at 1 52) (range_nodes ((alone (whole (at 1 53) 1)) ∷ [])))) (handler_node None))) ∷ (action (simple (at 1 57) (assign (at 1 57) (name (n 1 57 (codes "t"))) (tuple (at 1 62) None (at 1 62) (range_nodes ((alone (character (at 1 63) 97)) ∷ (alone (character (at 1 68) 98)) ∷ [])))) (handler_node None))) ∷ (action (simple (at 1 74) (assign (at 1 74) (name (n 1 74 (codes "i"))) (tuple (at 1 79) None (at 1 79) (range_nodes []))) (handler_node None))) ∷ (procedure (proc (n 1 83 (codes "p")) ((param ((n 1 92 (codes "k")) ∷ []) (w.base_mode (w.discrete (w.named (n 1 94 (codes "BOOL"))))) None) ∷ []) None None [] None (Some (n 1 105 (codes "p"))))) ∷ (action (simple (at 1 108) (call_of (at 1 108) false (n 1 108 (codes "p")) ((tuple (at 1 110) None (at 1 110) (range_nodes ((alone (name (n 1 111 (codes "TRUE")))) ∷ []))) ∷ [])) (handler_node None))) ∷ []) None (Some (n 1 123 (codes "m")))) ∷ [])

broken_5-ground : IsGroundOf broken_5 (ground_of broken_5)
broken_5-ground = record { names = refl; entries = refl }

broken_5-modes : broken_modes (ground_of broken_5) broken_5 ≡ []
broken_5-modes = refl

broken_5-counted : IsStatementGroundOf broken_5 (counted_ground_of broken_5)
broken_5-counted = record { names = refl; entries = refl }

broken_5-statements : broken_statements (counted_ground_of broken_5) broken_5 ≡ (told rules.S11 1 52 ∷ told rules.S11 1 62 ∷ told rules.S11 1 79 ∷ told rules.S11 1 110 ∷ [])
broken_5-statements = refl

-- a wrong number of parts
--   m: MODULE DCL s STRUCT (f, g INT), a ARRAY (1:3) INT; s := [1]; s := [1, 2, 3]; s := []; a := [1, 2]; a := []; a := [1, 2, 3, 4]; END m;
abbrev broken_6 : ProgramTree
broken_6 = program ((modul (n 1 1 (codes "m")) modulions.Module ((local_item (locations (at 1 11) ((decl ((n 1 15 (codes "s")) ∷ []) (w.base_mode (w.structure (at 1 17) (w.field_nodes ((fields ((n 1 25 (codes "f")) ∷ (n 1 28 (codes "g")) ∷ []) (w.discrete (w.named (n 1 30 (codes "INT")))) None) ∷ [])) None)) None) ∷ (decl ((n 1 36 (codes "a")) ∷ []) (w.base_mode (w.array (at 1 38) (w.index_bounded (whole (at 1 45) 1) (whole (at 1 47) 3)) (w.discrete (w.named (n 1 50 (codes "INT")))) None)) None) ∷ []))) ∷ (action (simple (at 1 55) (assign (at 1 55) (name (n 1 55 (codes "s"))) (tuple (at 1 60) None (at 1 60) (range_nodes ((alone (whole (at 1 61) 1)) ∷ [])))) (handler_node None))) ∷ (action (simple (at 1 65) (assign (at 1 65) (name (n 1 65 (codes "s"))) (tuple (at 1 70) None (at 1 70) (range_nodes ((alone (whole (at 1 71) 1)) ∷ (alone (whole (at 1 74) 2)) ∷ (alone (whole (at 1 77) 3)) ∷ [])))) (handler_node None))) ∷ (action (simple (at 1 81) (assign (at 1 81) (name (n 1 81 (codes "s"))) (tuple (at 1 86) None (at 1 86) (range_nodes []))) (handler_node None))) ∷ (action (simple (at 1 90) (assign (at 1 90) (name (n 1 90 (codes "a"))) (tuple (at 1 95) None (at 1 95) (range_nodes ((alone (whole (at 1 96) 1)) ∷ (alone (whole (at 1 99) 2)) ∷ [])))) (handler_node None))) ∷ (action (simple (at 1 103) (assign (at 1 103) (name (n 1 103 (codes "a"))) (tuple (at 1 108) None (at 1 108) (range_nodes []))) (handler_node None))) ∷ (action (simple (at 1 112) (assign (at 1 112) (name (n 1 112 (codes "a"))) (tuple (at 1 117) None (at 1 117) (range_nodes ((alone (whole (at 1 118) 1)) ∷ (alone (whole (at 1 121) 2)) ∷ (alone (whole (at 1 124) 3)) ∷ (alone (whole (at 1 127) 4)) ∷ [])))) (handler_node None))) ∷ []) None (Some (n 1 135 (codes "m")))) ∷ [])

broken_6-ground : IsGroundOf broken_6 (ground_of broken_6)
broken_6-ground = record { names = refl; entries = refl }

broken_6-modes : broken_modes (ground_of broken_6) broken_6 ≡ []
broken_6-modes = refl

broken_6-counted : IsStatementGroundOf broken_6 (counted_ground_of broken_6)
broken_6-counted = record { names = refl; entries = refl }

broken_6-statements : broken_statements (counted_ground_of broken_6) broken_6 ≡ (told rules.S11 1 60 ∷ told rules.S11 1 70 ∷ told rules.S11 1 86 ∷ told rules.S11 1 95 ∷ told rules.S11 1 108 ∷ told rules.S11 1 117 ∷ [])
broken_6-statements = refl

-- a range in what is no powerset
--   m: MODULE DCL s STRUCT (f, g INT), a ARRAY (1:2) INT, p POWERSET INT (0:7); s := [1, 2:3]; a := [1:2, 3]; p := [1:2, 3]; END m;
abbrev broken_7 : ProgramTree
broken_7 = program ((modul (n 1 1 (codes "m")) modulions.Module ((local_item (locations (at 1 11) ((decl ((n 1 15 (codes "s")) ∷ []) (w.base_mode (w.structure (at 1 17) (w.field_nodes ((fields ((n 1 25 (codes "f")) ∷ (n 1 28 (codes "g")) ∷ []) (w.discrete (w.named (n 1 30 (codes "INT")))) None) ∷ [])) None)) None) ∷ (decl ((n 1 36 (codes "a")) ∷ []) (w.base_mode (w.array (at 1 38) (w.index_bounded (whole (at 1 45) 1) (whole (at 1 47) 2)) (w.discrete (w.named (n 1 50 (codes "INT")))) None)) None) ∷ (decl ((n 1 55 (codes "p")) ∷ []) (w.base_mode (w.powerset (at 1 57) (w.bounded (n 1 66 (codes "INT")) (whole (at 1 71) 0) (whole (at 1 73) 7)))) None) ∷ []))) ∷ (action (simple (at 1 77) (assign (at 1 77) (name (n 1 77 (codes "s"))) (tuple (at 1 82) None (at 1 82) (range_nodes ((alone (whole (at 1 83) 1)) ∷ (between (whole (at 1 86) 2) (whole (at 1 88) 3)) ∷ [])))) (handler_node None))) ∷ (action (simple (at 1 92) (assign (at 1 92) (name (n 1 92 (codes "a"))) (tuple (at 1 97) None (at 1 97) (range_nodes ((between (whole (at 1 98) 1) (whole (at 1 100) 2)) ∷ (alone (whole (at 1 103) 3)) ∷ [])))) (handler_node None))) ∷ (action (simple (at 1 107) (assign (at 1 107) (name (n 1 107 (codes "p"))) (tuple (at 1 112) None (at 1 112) (range_nodes ((between (whole (at 1 113) 1) (whole (at 1 115) 2)) ∷ (alone (whole (at 1 118) 3)) ∷ [])))) (handler_node None))) ∷ []) None (Some (n 1 126 (codes "m")))) ∷ [])

broken_7-ground : IsGroundOf broken_7 (ground_of broken_7)
broken_7-ground = record { names = refl; entries = refl }

broken_7-modes : broken_modes (ground_of broken_7) broken_7 ≡ []
broken_7-modes = refl

broken_7-counted : IsStatementGroundOf broken_7 (counted_ground_of broken_7)
broken_7-counted = record { names = refl; entries = refl }

broken_7-statements : broken_statements (counted_ground_of broken_7) broken_7 ≡ (told rules.S11 1 82 ∷ told rules.S11 1 97 ∷ [])
broken_7-statements = refl

-- (*) in what is no array
--   m: MODULE DCL s STRUCT (f, g INT), a ARRAY (1:2) INT, p POWERSET INT (0:7); s := [(*): 1]; p := [(*): 1]; a := [(*): 1]; END m;
abbrev broken_8 : ProgramTree
broken_8 = program ((modul (n 1 1 (codes "m")) modulions.Module ((local_item (locations (at 1 11) ((decl ((n 1 15 (codes "s")) ∷ []) (w.base_mode (w.structure (at 1 17) (w.field_nodes ((fields ((n 1 25 (codes "f")) ∷ (n 1 28 (codes "g")) ∷ []) (w.discrete (w.named (n 1 30 (codes "INT")))) None) ∷ [])) None)) None) ∷ (decl ((n 1 36 (codes "a")) ∷ []) (w.base_mode (w.array (at 1 38) (w.index_bounded (whole (at 1 45) 1) (whole (at 1 47) 2)) (w.discrete (w.named (n 1 50 (codes "INT")))) None)) None) ∷ (decl ((n 1 55 (codes "p")) ∷ []) (w.base_mode (w.powerset (at 1 57) (w.bounded (n 1 66 (codes "INT")) (whole (at 1 71) 0) (whole (at 1 73) 7)))) None) ∷ []))) ∷ (action (simple (at 1 77) (assign (at 1 77) (name (n 1 77 (codes "s"))) (uniform (at 1 82) None (at 1 82) (whole (at 1 88) 1))) (handler_node None))) ∷ (action (simple (at 1 92) (assign (at 1 92) (name (n 1 92 (codes "p"))) (uniform (at 1 97) None (at 1 97) (whole (at 1 103) 1))) (handler_node None))) ∷ (action (simple (at 1 107) (assign (at 1 107) (name (n 1 107 (codes "a"))) (uniform (at 1 112) None (at 1 112) (whole (at 1 118) 1))) (handler_node None))) ∷ []) None (Some (n 1 126 (codes "m")))) ∷ [])

broken_8-ground : IsGroundOf broken_8 (ground_of broken_8)
broken_8-ground = record { names = refl; entries = refl }

broken_8-modes : broken_modes (ground_of broken_8) broken_8 ≡ []
broken_8-modes = refl

broken_8-counted : IsStatementGroundOf broken_8 (counted_ground_of broken_8)
broken_8-counted = record { names = refl; entries = refl }

broken_8-statements : broken_statements (counted_ground_of broken_8) broken_8 ≡ (told rules.S11 1 82 ∷ told rules.S11 1 97 ∷ [])
broken_8-statements = refl

-- faults of their own are told of parts
--   m: MODULE DCL x INT, a ARRAY (1:2) INT; a := [x + TRUE, 1]; PUT_INT(x + NUM(x = TRUE)); END m;
abbrev near_1 : ProgramTree
near_1 = program ((modul (n 1 1 (codes "m")) modulions.Module ((local_item (locations (at 1 11) ((decl ((n 1 15 (codes "x")) ∷ []) (w.base_mode (w.discrete (w.named (n 1 17 (codes "INT"))))) None) ∷ (decl ((n 1 22 (codes "a")) ∷ []) (w.base_mode (w.array (at 1 24) (w.index_bounded (whole (at 1 31) 1) (whole (at 1 33) 2)) (w.discrete (w.named (n 1 36 (codes "INT")))) None)) None) ∷ []))) ∷ (action (simple (at 1 41) (assign (at 1 41) (name (n 1 41 (codes "a"))) (tuple (at 1 46) None (at 1 46) (range_nodes ((alone (binary (at 1 47) (name (n 1 47 (codes "x"))) ops.Plus (at 1 49) (name (n 1 51 (codes "TRUE"))))) ∷ (alone (whole (at 1 57) 1)) ∷ [])))) (handler_node None))) ∷ (action (simple (at 1 61) (call_of (at 1 61) false (n 1 61 (codes "PUT_INT")) ((binary (at 1 69) (name (n 1 69 (codes "x"))) ops.Plus (at 1 71) (apply (at 1 73) (name (n 1 73 (codes "NUM"))) (expr_nodes ((binary (at 1 77) (name (n 1 77 (codes "x"))) ops.Equal (at 1 79) (name (n 1 81 (codes "TRUE")))) ∷ [])))) ∷ [])) (handler_node None))) ∷ []) None (Some (n 1 93 (codes "m")))) ∷ [])

near_1-ground : IsGroundOf near_1 (ground_of near_1)
near_1-ground = record { names = refl; entries = refl }

near_1-modes : broken_modes (ground_of near_1) near_1 ≡ []
near_1-modes = refl

near_1-counted : IsStatementGroundOf near_1 (counted_ground_of near_1)
near_1-counted = record { names = refl; entries = refl }

near_1-statements : broken_statements (counted_ground_of near_1) near_1 ≡ (told rules.S1 1 49 ∷ told rules.S1 1 79 ∷ [])
near_1-statements = refl

-- none where the mode is missing for another reason
--   m: MODULE SYN k = 1; DCL x INT; p: PROC (); END p; k := [1]; p([1]); RESULT [1]; x.f := [1]; END m;
abbrev near_2 : ProgramTree
near_2 = program ((modul (n 1 1 (codes "m")) modulions.Module ((local_item (synonyms (at 1 11) ((syn ((n 1 15 (codes "k")) ∷ []) None (whole (at 1 19) 1)) ∷ []))) ∷ (local_item (locations (at 1 22) ((decl ((n 1 26 (codes "x")) ∷ []) (w.base_mode (w.discrete (w.named (n 1 28 (codes "INT"))))) None) ∷ []))) ∷ (procedure (proc (n 1 33 (codes "p")) [] None None [] None (Some (n 1 49 (codes "p"))))) ∷ (action (simple (at 1 52) (assign (at 1 52) (name (n 1 52 (codes "k"))) (tuple (at 1 57) None (at 1 57) (range_nodes ((alone (whole (at 1 58) 1)) ∷ [])))) (handler_node None))) ∷ (action (simple (at 1 62) (call_of (at 1 62) false (n 1 62 (codes "p")) ((tuple (at 1 64) None (at 1 64) (range_nodes ((alone (whole (at 1 65) 1)) ∷ []))) ∷ [])) (handler_node None))) ∷ (action (simple (at 1 70) (result_of (at 1 70) (tuple (at 1 77) None (at 1 77) (range_nodes ((alone (whole (at 1 78) 1)) ∷ [])))) (handler_node None))) ∷ (action (simple (at 1 82) (assign (at 1 82) (field (at 1 82) (name (n 1 82 (codes "x"))) (n 1 84 (codes "f"))) (tuple (at 1 89) None (at 1 89) (range_nodes ((alone (whole (at 1 90) 1)) ∷ [])))) (handler_node None))) ∷ []) None (Some (n 1 98 (codes "m")))) ∷ [])

near_2-ground : IsGroundOf near_2 (ground_of near_2)
near_2-ground = record { names = refl; entries = refl }

near_2-modes : broken_modes (ground_of near_2) near_2 ≡ []
near_2-modes = refl

near_2-counted : IsStatementGroundOf near_2 (counted_ground_of near_2)
near_2-counted = record { names = refl; entries = refl }

near_2-statements : broken_statements (counted_ground_of near_2) near_2 ≡ (told rules.S3 1 52 ∷ told rules.S5 1 62 ∷ told rules.S9 1 70 ∷ told rules.S3 1 82 ∷ [])
near_2-statements = refl
