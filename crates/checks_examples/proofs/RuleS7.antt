-- Rule S7: texts that break it, and texts that nearly do.
use Rattle.std.proofs.Common.{◌≡◌, refl}
use Rattle.std.specs.Prelude.{[], ◌∷◌, Some, None, codes}
use Rattle.chill_tree.specs.declared.tree.expr.Operator.TheVariants as ops
use Rattle.chill_tree.specs.declared.tree.item.ModulionKind.TheVariants as modulions
use Rattle.chill_tree.specs.ExprTree.{whole, character, text, this_instance, name, apply, field, binary, alone, between, expr_nodes}
use Rattle.chill_tree.specs.ModeTree as w
use Rattle.chill_tree.specs.LocalTree.{synonyms, new_modes, locations}
use Rattle.chill_tree.specs.StatementTree.{bracketed, case_of, case_nodes, otherwise_node, no_otherwise, handler_node}
use Rattle.chill_tree.specs.ItemTree.{ProgramTree, local_item, procedure, action}
use Rattle.diagnostics.specs.declared.rule.Rule.TheVariants as rules
use Rattle.checks_model.specs.Table.{IsGroundOf, IsStatementGroundOf}
use Rattle.checks_model.specs.Phases.{broken_modes, broken_statements, broken_processes}
use Rattle.checks_examples.proofs.Programs.{at, n, syn, modedef, decl, fields, choice, proc, modul, program, ground_of, counted_ground_of, told}

-- each end of a range
--   m: MODULE DCL x INT; CASE x OF (1:'a'): (TRUE:2): ('a':'b', 3): ESAC; END m;
abbrev broken_1 : ProgramTree
broken_1 = program ((modul (n 1 1 (codes "m")) modulions.Module ((local_item (locations (at 1 11) ((decl ((n 1 15 (codes "x")) ∷ []) (w.base_mode (w.discrete (w.named (n 1 17 (codes "INT"))))) None) ∷ []))) ∷ (action (bracketed (at 1 22) None (case_of (at 1 22) (name (n 1 27 (codes "x"))) (case_nodes ((choice (at 1 32) ((between (whole (at 1 33) 1) (character (at 1 35) 97)) ∷ []) []) ∷ (choice (at 1 41) ((between (name (n 1 42 (codes "TRUE"))) (whole (at 1 47) 2)) ∷ []) []) ∷ (choice (at 1 51) ((between (character (at 1 52) 97) (character (at 1 56) 98)) ∷ (alone (whole (at 1 61) 3)) ∷ []) []) ∷ [])) no_otherwise) (handler_node None) None)) ∷ []) None (Some (n 1 75 (codes "m")))) ∷ [])

broken_1-ground : IsGroundOf broken_1 (ground_of broken_1)
broken_1-ground = record { names = refl; entries = refl }

broken_1-modes : broken_modes (ground_of broken_1) broken_1 ≡ []
broken_1-modes = refl

broken_1-counted : IsStatementGroundOf broken_1 (counted_ground_of broken_1)
broken_1-counted = record { names = refl; entries = refl }

broken_1-statements : broken_statements (counted_ground_of broken_1) broken_1 ≡ (told rules.S7 1 35 ∷ told rules.S7 1 42 ∷ told rules.S7 1 52 ∷ told rules.S7 1 56 ∷ [])
broken_1-statements = refl

-- a label that isn't compatible
--   m: MODULE DCL x INT, c CHAR; CASE x OF (TRUE): (1, 'a'): ESAC; CASE c OF (1): ("a"): ('a'): ESAC; END m;
abbrev broken_2 : ProgramTree
broken_2 = program ((modul (n 1 1 (codes "m")) modulions.Module ((local_item (locations (at 1 11) ((decl ((n 1 15 (codes "x")) ∷ []) (w.base_mode (w.discrete (w.named (n 1 17 (codes "INT"))))) None) ∷ (decl ((n 1 22 (codes "c")) ∷ []) (w.base_mode (w.discrete (w.named (n 1 24 (codes "CHAR"))))) None) ∷ []))) ∷ (action (bracketed (at 1 30) None (case_of (at 1 30) (name (n 1 35 (codes "x"))) (case_nodes ((choice (at 1 40) ((alone (name (n 1 41 (codes "TRUE")))) ∷ []) []) ∷ (choice (at 1 48) ((alone (whole (at 1 49) 1)) ∷ (alone (character (at 1 52) 97)) ∷ []) []) ∷ [])) no_otherwise) (handler_node None) None)) ∷ (action (bracketed (at 1 64) None (case_of (at 1 64) (name (n 1 69 (codes "c"))) (case_nodes ((choice (at 1 74) ((alone (whole (at 1 75) 1)) ∷ []) []) ∷ (choice (at 1 79) ((alone (text (at 1 80) (97 ∷ []))) ∷ []) []) ∷ (choice (at 1 86) ((alone (character (at 1 87) 97)) ∷ []) []) ∷ [])) no_otherwise) (handler_node None) None)) ∷ []) None (Some (n 1 103 (codes "m")))) ∷ [])

broken_2-ground : IsGroundOf broken_2 (ground_of broken_2)
broken_2-ground = record { names = refl; entries = refl }

broken_2-modes : broken_modes (ground_of broken_2) broken_2 ≡ []
broken_2-modes = refl

broken_2-counted : IsStatementGroundOf broken_2 (counted_ground_of broken_2)
broken_2-counted = record { names = refl; entries = refl }

broken_2-statements : broken_statements (counted_ground_of broken_2) broken_2 ≡ (told rules.S7 1 41 ∷ told rules.S7 1 52 ∷ told rules.S7 1 75 ∷ told rules.S7 1 80 ∷ [])
broken_2-statements = refl

-- elements of another SET
--   m: MODULE NEWMODE c = SET (red, green); NEWMODE d = SET (left, right); DCL x c; CASE x OF (red): (left): (NUM(green)): ESAC; END m;
abbrev broken_3 : ProgramTree
broken_3 = program ((modul (n 1 1 (codes "m")) modulions.Module ((local_item (new_modes (at 1 11) ((modedef (n 1 19 (codes "c")) (w.base_mode (w.discrete (w.set_of (at 1 23) ((n 1 28 (codes "red")) ∷ (n 1 33 (codes "green")) ∷ []))))) ∷ []))) ∷ (local_item (new_modes (at 1 41) ((modedef (n 1 49 (codes "d")) (w.base_mode (w.discrete (w.set_of (at 1 53) ((n 1 58 (codes "left")) ∷ (n 1 64 (codes "right")) ∷ []))))) ∷ []))) ∷ (local_item (locations (at 1 72) ((decl ((n 1 76 (codes "x")) ∷ []) (w.base_mode (w.discrete (w.named (n 1 78 (codes "c"))))) None) ∷ []))) ∷ (action (bracketed (at 1 81) None (case_of (at 1 81) (name (n 1 86 (codes "x"))) (case_nodes ((choice (at 1 91) ((alone (name (n 1 92 (codes "red")))) ∷ []) []) ∷ (choice (at 1 98) ((alone (name (n 1 99 (codes "left")))) ∷ []) []) ∷ (choice (at 1 106) ((alone (apply (at 1 107) (name (n 1 107 (codes "NUM"))) (expr_nodes ((name (n 1 111 (codes "green"))) ∷ [])))) ∷ []) []) ∷ [])) no_otherwise) (handler_node None) None)) ∷ []) None (Some (n 1 130 (codes "m")))) ∷ [])

broken_3-ground : IsGroundOf broken_3 (ground_of broken_3)
broken_3-ground = record { names = refl; entries = refl }

broken_3-modes : broken_modes (ground_of broken_3) broken_3 ≡ []
broken_3-modes = refl

broken_3-counted : IsStatementGroundOf broken_3 (counted_ground_of broken_3)
broken_3-counted = record { names = refl; entries = refl }

broken_3-statements : broken_statements (counted_ground_of broken_3) broken_3 ≡ (told rules.S7 1 99 ∷ told rules.S7 1 107 ∷ [])
broken_3-statements = refl

-- a selector that isn't discrete: it is told alone
--   m: MODULE DCL t CHARS (2), s STRUCT (f INT); CASE t OF (1): ESAC; CASE s OF (1): ESAC; CASE THIS OF (1): ESAC; CASE "a" OF ("a"): ESAC; END m;
abbrev broken_4 : ProgramTree
broken_4 = program ((modul (n 1 1 (codes "m")) modulions.Module ((local_item (locations (at 1 11) ((decl ((n 1 15 (codes "t")) ∷ []) (w.base_mode (w.chars (at 1 17) (whole (at 1 24) 2))) None) ∷ (decl ((n 1 28 (codes "s")) ∷ []) (w.base_mode (w.structure (at 1 30) (w.field_nodes ((fields ((n 1 38 (codes "f")) ∷ []) (w.discrete (w.named (n 1 40 (codes "INT")))) None) ∷ [])) None)) None) ∷ []))) ∷ (action (bracketed (at 1 46) None (case_of (at 1 46) (name (n 1 51 (codes "t"))) (case_nodes ((choice (at 1 56) ((alone (whole (at 1 57) 1)) ∷ []) []) ∷ [])) no_otherwise) (handler_node None) None)) ∷ (action (bracketed (at 1 67) None (case_of (at 1 67) (name (n 1 72 (codes "s"))) (case_nodes ((choice (at 1 77) ((alone (whole (at 1 78) 1)) ∷ []) []) ∷ [])) no_otherwise) (handler_node None) None)) ∷ (action (bracketed (at 1 88) None (case_of (at 1 88) (this_instance (at 1 93)) (case_nodes ((choice (at 1 101) ((alone (whole (at 1 102) 1)) ∷ []) []) ∷ [])) no_otherwise) (handler_node None) None)) ∷ (action (bracketed (at 1 112) None (case_of (at 1 112) (text (at 1 117) (97 ∷ [])) (case_nodes ((choice (at 1 124) ((alone (text (at 1 125) (97 ∷ []))) ∷ []) []) ∷ [])) no_otherwise) (handler_node None) None)) ∷ []) None (Some (n 1 141 (codes "m")))) ∷ [])

broken_4-ground : IsGroundOf broken_4 (ground_of broken_4)
broken_4-ground = record { names = refl; entries = refl }

broken_4-modes : broken_modes (ground_of broken_4) broken_4 ≡ []
broken_4-modes = refl

broken_4-counted : IsStatementGroundOf broken_4 (counted_ground_of broken_4)
broken_4-counted = record { names = refl; entries = refl }

broken_4-statements : broken_statements (counted_ground_of broken_4) broken_4 ≡ (told rules.S7 1 51 ∷ told rules.S7 1 72 ∷ told rules.S7 1 93 ∷ told rules.S7 1 117 ∷ [])
broken_4-statements = refl

-- another novelty
--   m: MODULE NEWMODE o = INT; SYN k o = 1; SYN l INT = 2; DCL x INT, y o; CASE x OF (k): (l): (3): ESAC; CASE y OF (k): (l): (3): ESAC; END m;
abbrev broken_5 : ProgramTree
broken_5 = program ((modul (n 1 1 (codes "m")) modulions.Module ((local_item (new_modes (at 1 11) ((modedef (n 1 19 (codes "o")) (w.base_mode (w.discrete (w.named (n 1 23 (codes "INT")))))) ∷ []))) ∷ (local_item (synonyms (at 1 28) ((syn ((n 1 32 (codes "k")) ∷ []) (Some (w.base_mode (w.discrete (w.named (n 1 34 (codes "o")))))) (whole (at 1 38) 1)) ∷ []))) ∷ (local_item (synonyms (at 1 41) ((syn ((n 1 45 (codes "l")) ∷ []) (Some (w.base_mode (w.discrete (w.named (n 1 47 (codes "INT")))))) (whole (at 1 53) 2)) ∷ []))) ∷ (local_item (locations (at 1 56) ((decl ((n 1 60 (codes "x")) ∷ []) (w.base_mode (w.discrete (w.named (n 1 62 (codes "INT"))))) None) ∷ (decl ((n 1 67 (codes "y")) ∷ []) (w.base_mode (w.discrete (w.named (n 1 69 (codes "o"))))) None) ∷ []))) ∷ (action (bracketed (at 1 72) None (case_of (at 1 72) (name (n 1 77 (codes "x"))) (case_nodes ((choice (at 1 82) ((alone (name (n 1 83 (codes "k")))) ∷ []) []) ∷ (choice (at 1 87) ((alone (name (n 1 88 (codes "l")))) ∷ []) []) ∷ (choice (at 1 92) ((alone (whole (at 1 93) 3)) ∷ []) []) ∷ [])) no_otherwise) (handler_node None) None)) ∷ (action (bracketed (at 1 103) None (case_of (at 1 103) (name (n 1 108 (codes "y"))) (case_nodes ((choice (at 1 113) ((alone (name (n 1 114 (codes "k")))) ∷ []) []) ∷ (choice (at 1 118) ((alone (name (n 1 119 (codes "l")))) ∷ []) []) ∷ (choice (at 1 123) ((alone (whole (at 1 124) 3)) ∷ []) []) ∷ [])) no_otherwise) (handler_node None) None)) ∷ []) None (Some (n 1 138 (codes "m")))) ∷ [])

broken_5-ground : IsGroundOf broken_5 (ground_of broken_5)
broken_5-ground = record { names = refl; entries = refl }

broken_5-modes : broken_modes (ground_of broken_5) broken_5 ≡ []
broken_5-modes = refl

broken_5-counted : IsStatementGroundOf broken_5 (counted_ground_of broken_5)
broken_5-counted = record { names = refl; entries = refl }

broken_5-statements : broken_statements (counted_ground_of broken_5) broken_5 ≡ (told rules.S7 1 83 ∷ told rules.S7 1 119 ∷ [])
broken_5-statements = refl

-- a selector of no class, and one that is broken
--   m: MODULE DCL x INT; p: PROC (); END p; CASE x.f OF (1): ESAC; CASE p OF (1): ESAC; CASE p() OF (1): ESAC; CASE x + TRUE OF (TRUE): ESAC; END m;
abbrev broken_6 : ProgramTree
broken_6 = program ((modul (n 1 1 (codes "m")) modulions.Module ((local_item (locations (at 1 11) ((decl ((n 1 15 (codes "x")) ∷ []) (w.base_mode (w.discrete (w.named (n 1 17 (codes "INT"))))) None) ∷ []))) ∷ (procedure (proc (n 1 22 (codes "p")) [] None None [] None (Some (n 1 38 (codes "p"))))) ∷ (action (bracketed (at 1 41) None (case_of (at 1 41) (field (at 1 46) (name (n 1 46 (codes "x"))) (n 1 48 (codes "f"))) (case_nodes ((choice (at 1 53) ((alone (whole (at 1 54) 1)) ∷ []) []) ∷ [])) no_otherwise) (handler_node None) None)) ∷ (action (bracketed (at 1 64) None (case_of (at 1 64) (name (n 1 69 (codes "p"))) (case_nodes ((choice (at 1 74) ((alone (whole (at 1 75) 1)) ∷ []) []) ∷ [])) no_otherwise) (handler_node None) None)) ∷ (action (bracketed (at 1 85) None (case_of (at 1 85) (apply (at 1 90) (name (n 1 90 (codes "p"))) (expr_nodes [])) (case_nodes ((choice (at 1 97) ((alone (whole (at 1 98) 1)) ∷ []) []) ∷ [])) no_otherwise) (handler_node None) None)) ∷ (action (bracketed (at 1 108) None (case_of (at 1 108) (binary (at 1 113) (name (n 1 113 (codes "x"))) ops.Plus (at 1 115) (name (n 1 117 (codes "TRUE")))) (case_nodes ((choice (at 1 125) ((alone (name (n 1 126 (codes "TRUE")))) ∷ []) []) ∷ [])) no_otherwise) (handler_node None) None)) ∷ []) None (Some (n 1 143 (codes "m")))) ∷ [])

broken_6-ground : IsGroundOf broken_6 (ground_of broken_6)
broken_6-ground = record { names = refl; entries = refl }

broken_6-modes : broken_modes (ground_of broken_6) broken_6 ≡ []
broken_6-modes = refl

broken_6-counted : IsStatementGroundOf broken_6 (counted_ground_of broken_6)
broken_6-counted = record { names = refl; entries = refl }

broken_6-statements : broken_statements (counted_ground_of broken_6) broken_6 ≡ (told rules.S7 1 46 ∷ told rules.S7 1 69 ∷ told rules.S10 1 90 ∷ told rules.S1 1 115 ∷ [])
broken_6-statements = refl

-- a literal is compatible with each novelty
--   m: MODULE NEWMODE o = INT; SYN k o = 1; DCL x o, y o (0:7); CASE x OF (2:3): (k): ESAC; CASE y OF (k:3): ESAC; CASE 1 OF (k): ESAC; END m;
abbrev near_1 : ProgramTree
near_1 = program ((modul (n 1 1 (codes "m")) modulions.Module ((local_item (new_modes (at 1 11) ((modedef (n 1 19 (codes "o")) (w.base_mode (w.discrete (w.named (n 1 23 (codes "INT")))))) ∷ []))) ∷ (local_item (synonyms (at 1 28) ((syn ((n 1 32 (codes "k")) ∷ []) (Some (w.base_mode (w.discrete (w.named (n 1 34 (codes "o")))))) (whole (at 1 38) 1)) ∷ []))) ∷ (local_item (locations (at 1 41) ((decl ((n 1 45 (codes "x")) ∷ []) (w.base_mode (w.discrete (w.named (n 1 47 (codes "o"))))) None) ∷ (decl ((n 1 50 (codes "y")) ∷ []) (w.base_mode (w.discrete (w.bounded (n 1 52 (codes "o")) (whole (at 1 55) 0) (whole (at 1 57) 7)))) None) ∷ []))) ∷ (action (bracketed (at 1 61) None (case_of (at 1 61) (name (n 1 66 (codes "x"))) (case_nodes ((choice (at 1 71) ((between (whole (at 1 72) 2) (whole (at 1 74) 3)) ∷ []) []) ∷ (choice (at 1 78) ((alone (name (n 1 79 (codes "k")))) ∷ []) []) ∷ [])) no_otherwise) (handler_node None) None)) ∷ (action (bracketed (at 1 89) None (case_of (at 1 89) (name (n 1 94 (codes "y"))) (case_nodes ((choice (at 1 99) ((between (name (n 1 100 (codes "k"))) (whole (at 1 102) 3)) ∷ []) []) ∷ [])) no_otherwise) (handler_node None) None)) ∷ (action (bracketed (at 1 112) None (case_of (at 1 112) (whole (at 1 117) 1) (case_nodes ((choice (at 1 122) ((alone (name (n 1 123 (codes "k")))) ∷ []) []) ∷ [])) no_otherwise) (handler_node None) None)) ∷ []) None (Some (n 1 137 (codes "m")))) ∷ [])

near_1-ground : IsGroundOf near_1 (ground_of near_1)
near_1-ground = record { names = refl; entries = refl }

near_1-modes : broken_modes (ground_of near_1) near_1 ≡ []
near_1-modes = refl

near_1-counted : IsStatementGroundOf near_1 (counted_ground_of near_1)
near_1-counted = record { names = refl; entries = refl }

near_1-statements : broken_statements (counted_ground_of near_1) near_1 ≡ []
near_1-statements = refl

near_1-processes : broken_processes (counted_ground_of near_1) near_1 ≡ []
near_1-processes = refl

-- labels outside the selector's bounds and constant selectors
--   m: MODULE NEWMODE c = SET (red, green); DCL x INT (0:7), y c, z CHAR; CASE x OF (9): (1:3, 5): ELSE ESAC; CASE y OF (red:green): ESAC; CASE z OF ('a':'z'): ESAC; CASE 1 OF (1, 2): ESAC; CASE x = 1 OF (TRUE): ESAC; END m;
abbrev near_2 : ProgramTree
near_2 = program ((modul (n 1 1 (codes "m")) modulions.Module ((local_item (new_modes (at 1 11) ((modedef (n 1 19 (codes "c")) (w.base_mode (w.discrete (w.set_of (at 1 23) ((n 1 28 (codes "red")) ∷ (n 1 33 (codes "green")) ∷ []))))) ∷ []))) ∷ (local_item (locations (at 1 41) ((decl ((n 1 45 (codes "x")) ∷ []) (w.base_mode (w.discrete (w.bounded (n 1 47 (codes "INT")) (whole (at 1 52) 0) (whole (at 1 54) 7)))) None) ∷ (decl ((n 1 58 (codes "y")) ∷ []) (w.base_mode (w.discrete (w.named (n 1 60 (codes "c"))))) None) ∷ (decl ((n 1 63 (codes "z")) ∷ []) (w.base_mode (w.discrete (w.named (n 1 65 (codes "CHAR"))))) None) ∷ []))) ∷ (action (bracketed (at 1 71) None (case_of (at 1 71) (name (n 1 76 (codes "x"))) (case_nodes ((choice (at 1 81) ((alone (whole (at 1 82) 9)) ∷ []) []) ∷ (choice (at 1 86) ((between (whole (at 1 87) 1) (whole (at 1 89) 3)) ∷ (alone (whole (at 1 92) 5)) ∷ []) []) ∷ [])) (otherwise_node (Some []))) (handler_node None) None)) ∷ (action (bracketed (at 1 107) None (case_of (at 1 107) (name (n 1 112 (codes "y"))) (case_nodes ((choice (at 1 117) ((between (name (n 1 118 (codes "red"))) (name (n 1 122 (codes "green")))) ∷ []) []) ∷ [])) no_otherwise) (handler_node None) None)) ∷ (action (bracketed (at 1 136) None (case_of (at 1 136) (name (n 1 141 (codes "z"))) (case_nodes ((choice (at 1 146) ((between (character (at 1 147) 97) (character (at 1 151) 122)) ∷ []) []) ∷ [])) no_otherwise) (handler_node None) None)) ∷ (action (bracketed (at 1 163) None (case_of (at 1 163) (whole (at 1 168) 1) (case_nodes ((choice (at 1 173) ((alone (whole (at 1 174) 1)) ∷ (alone (whole (at 1 177) 2)) ∷ []) []) ∷ [])) no_otherwise) (handler_node None) None)) ∷ (action (bracketed (at 1 187) None (case_of (at 1 187) (binary (at 1 192) (name (n 1 192 (codes "x"))) ops.Equal (at 1 194) (whole (at 1 196) 1)) (case_nodes ((choice (at 1 201) ((alone (name (n 1 202 (codes "TRUE")))) ∷ []) []) ∷ [])) no_otherwise) (handler_node None) None)) ∷ []) None (Some (n 1 219 (codes "m")))) ∷ [])

near_2-ground : IsGroundOf near_2 (ground_of near_2)
near_2-ground = record { names = refl; entries = refl }

near_2-modes : broken_modes (ground_of near_2) near_2 ≡ []
near_2-modes = refl

near_2-counted : IsStatementGroundOf near_2 (counted_ground_of near_2)
near_2-counted = record { names = refl; entries = refl }

near_2-statements : broken_statements (counted_ground_of near_2) near_2 ≡ []
near_2-statements = refl

near_2-processes : broken_processes (counted_ground_of near_2) near_2 ≡ []
near_2-processes = refl
