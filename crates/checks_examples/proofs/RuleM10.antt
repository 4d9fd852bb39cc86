-- Rule M10: texts that break it, and texts that nearly do.
use Rattle.std.proofs.Common.{◌≡◌, refl}
use Rattle.std.specs.Prelude.{false, [], ◌∷◌, Some, None, codes}
use Rattle.chill_tree.specs.declared.tree.expr.Operator.TheVariants as ops
use Rattle.chill_tree.specs.declared.tree.expr.Prefix.TheVariants as prefixes
use Rattle.chill_tree.specs.declared.tree.item.ModulionKind.TheVariants as modulions
use Rattle.chill_tree.specs.ExprTree.{whole, character, text, tuple, name, apply, prefixed, binary, alone, expr_nodes, range_nodes}
use Rattle.chill_tree.specs.ModeTree as w
use Rattle.chill_tree.specs.LocalTree.{synonyms, syn_modes, new_modes, locations}
use Rattle.chill_tree.specs.SimpleTree.{assign, call_of}
use Rattle.chill_tree.specs.StatementTree.{simple, handler_node}
use Rattle.chill_tree.specs.ItemTree.{ProgramTree, local_item, action}
use Rattle.diagnostics.specs.declared.rule.Rule.TheVariants as rules
use Rattle.checks_model.specs.Table.{IsGroundOf, IsStatementGroundOf}
use Rattle.checks_model.specs.Phases.{broken_modes, broken_statements, broken_processes}
use Rattle.checks_examples.proofs.Programs.{at, n, syn, modedef, decl, fields, modul, program, ground_of, counted_ground_of, told}

-- a wrong number of arguments
--   m: MODULE SYN a = NUM(1, 2); SYN b = ABS(1, 2, 3); SYNMODE p = POWERSET INT (0:7); SYN c = CARD(p [1], p [2]); END m;
abbrev broken_1 : ProgramTree
broken_1 = program ((modul (n 1 1 (codes "m")) modulions.Module ((local_item (synonyms (at 1 11) ((syn ((n 1 15 (codes "a")) ∷ []) None (apply (at 1 19) (name (n 1 19 (codes "NUM"))) (expr_nodes ((whole (at 1 23) 1) ∷ (whole (at 1 26) 2) ∷ [])))) ∷ []))) ∷ (local_item (synonyms (at 1 30) ((syn ((n 1 34 (codes "b")) ∷ []) None (apply (at 1 38) (name (n 1 38 (codes "ABS"))) (expr_nodes ((whole (at 1 42) 1) ∷ (whole (at 1 45) 2) ∷ (whole (at 1 48) 3) ∷ [])))) ∷ []))) ∷ (local_item (syn_modes (at 1 52) ((modedef (n 1 60 (codes "p")) (w.base_mode (w.powerset (at 1 64) (w.bounded (n 1 73 (codes "INT")) (whole (at 1 78) 0) (whole (at 1 80) 7))))) ∷ []))) ∷ (local_item (synonyms (at 1 84) ((syn ((n 1 88 (codes "c")) ∷ []) None (apply (at 1 92) (name (n 1 92 (codes "CARD"))) (expr_nodes ((tuple (at 1 97) (Some (n 1 97 (codes "p"))) (at 1 99) (range_nodes ((alone (whole (at 1 100) 1)) ∷ []))) ∷ (tuple (at 1 104) (Some (n 1 104 (codes "p"))) (at 1 106) (range_nodes ((alone (whole (at 1 107) 2)) ∷ []))) ∷ [])))) ∷ []))) ∷ []) None (Some (n 1 116 (codes "m")))) ∷ [])

broken_1-ground : IsGroundOf broken_1 (ground_of broken_1)
broken_1-ground = record { names = refl; entries = refl }

broken_1-modes : broken_modes (ground_of broken_1) broken_1 ≡ (told rules.M10 1 19 ∷ told rules.M10 1 38 ∷ told rules.M10 1 92 ∷ [])
broken_1-modes = refl

-- UPPER, LOWER and SIZE of what isn't a mode or location
--   m: MODULE SYN a = UPPER(1); SYN b = LOWER("a"); SYN c = SIZE(TRUE); SYN d = SIZE(1 + 2); SYN k = 3; SYN e = UPPER(k); END m;
abbrev broken_2 : ProgramTree
broken_2 = program ((modul (n 1 1 (codes "m")) modulions.Module ((local_item (synonyms (at 1 11) ((syn ((n 1 15 (codes "a")) ∷ []) None (apply (at 1 19) (name (n 1 19 (codes "UPPER"))) (expr_nodes ((whole (at 1 25) 1) ∷ [])))) ∷ []))) ∷ (local_item (synonyms (at 1 29) ((syn ((n 1 33 (codes "b")) ∷ []) None (apply (at 1 37) (name (n 1 37 (codes "LOWER"))) (expr_nodes ((text (at 1 43) (97 ∷ [])) ∷ [])))) ∷ []))) ∷ (local_item (synonyms (at 1 49) ((syn ((n 1 53 (codes "c")) ∷ []) None (apply (at 1 57) (name (n 1 57 (codes "SIZE"))) (expr_nodes ((name (n 1 62 (codes "TRUE"))) ∷ [])))) ∷ []))) ∷ (local_item (synonyms (at 1 69) ((syn ((n 1 73 (codes "d")) ∷ []) None (apply (at 1 77) (name (n 1 77 (codes "SIZE"))) (expr_nodes ((binary (at 1 82) (whole (at 1 82) 1) ops.Plus (at 1 84) (whole (at 1 86) 2)) ∷ [])))) ∷ []))) ∷ (local_item (synonyms (at 1 90) ((syn ((n 1 94 (codes "k")) ∷ []) None (whole (at 1 98) 3)) ∷ []))) ∷ (local_item (synonyms (at 1 101) ((syn ((n 1 105 (codes "e")) ∷ []) None (apply (at 1 109) (name (n 1 109 (codes "UPPER"))) (expr_nodes ((name (n 1 115 (codes "k"))) ∷ [])))) ∷ []))) ∷ []) None (Some (n 1 123 (codes "m")))) ∷ [])

broken_2-ground : IsGroundOf broken_2 (ground_of broken_2)
unfolding lib.Count.count_leading_zeros
broken_2-ground = record { names = refl; entries = refl }

broken_2-modes : broken_modes (ground_of broken_2) broken_2 ≡ (told rules.M10 1 19 ∷ told rules.M10 1 37 ∷ told rules.M10 1 57 ∷ told rules.M10 1 77 ∷ told rules.M10 1 109 ∷ [])
unfolding lib.Count.count_leading_zeros
broken_2-modes = refl

-- membership
--   m: MODULE SYNMODE p = POWERSET INT (0:7); SYN a = 'a' IN p [1]; SYN b = 1 IN 2; SYN c = p [1] IN p [1]; SYN d = 1 IN "a"; END m;
abbrev broken_3 : ProgramTree
broken_3 = program ((modul (n 1 1 (codes "m")) modulions.Module ((local_item (syn_modes (at 1 11) ((modedef (n 1 19 (codes "p")) (w.base_mode (w.powerset (at 1 23) (w.bounded (n 1 32 (codes "INT")) (whole (at 1 37) 0) (whole (at 1 39) 7))))) ∷ []))) ∷ (local_item (synonyms (at 1 43) ((syn ((n 1 47 (codes "a")) ∷ []) None (binary (at 1 51) (character (at 1 51) 97) ops.In (at 1 55) (tuple (at 1 58) (Some (n 1 58 (codes "p"))) (at 1 60) (range_nodes ((alone (whole (at 1 61) 1)) ∷ []))))) ∷ []))) ∷ (local_item (synonyms (at 1 65) ((syn ((n 1 69 (codes "b")) ∷ []) None (binary (at 1 73) (whole (at 1 73) 1) ops.In (at 1 75) (whole (at 1 78) 2))) ∷ []))) ∷ (local_item (synonyms (at 1 81) ((syn ((n 1 85 (codes "c")) ∷ []) None (binary (at 1 89) (tuple (at 1 89) (Some (n 1 89 (codes "p"))) (at 1 91) (range_nodes ((alone (whole (at 1 92) 1)) ∷ []))) ops.In (at 1 95) (tuple (at 1 98) (Some (n 1 98 (codes "p"))) (at 1 100) (range_nodes ((alone (whole (at 1 101) 1)) ∷ []))))) ∷ []))) ∷ (local_item (synonyms (at 1 105) ((syn ((n 1 109 (codes "d")) ∷ []) None (binary (at 1 113) (whole (at 1 113) 1) ops.In (at 1 115) (text (at 1 118) (97 ∷ [])))) ∷ []))) ∷ []) None (Some (n 1 127 (codes "m")))) ∷ [])

broken_3-ground : IsGroundOf broken_3 (ground_of broken_3)
broken_3-ground = record { names = refl; entries = refl }

broken_3-modes : broken_modes (ground_of broken_3) broken_3 ≡ (told rules.M10 1 55 ∷ told rules.M10 1 75 ∷ told rules.M10 1 95 ∷ told rules.M10 1 115 ∷ [])
broken_3-modes = refl

-- INT
--   m: MODULE SYN a = 1 + TRUE; SYN b = TRUE - FALSE; SYN c = 'a' * 2; SYN d = "a" / 1; SYN e = TRUE MOD 2; SYN f = 1 REM 'a'; SYN g = -TRUE; SYN h = -'a'; END m;
abbrev broken_4 : ProgramTree
broken_4 = program ((modul (n 1 1 (codes "m")) modulions.Module ((local_item (synonyms (at 1 11) ((syn ((n 1 15 (codes "a")) ∷ []) None (binary (at 1 19) (whole (at 1 19) 1) ops.Plus (at 1 21) (name (n 1 23 (codes "TRUE"))))) ∷ []))) ∷ (local_item (synonyms (at 1 29) ((syn ((n 1 33 (codes "b")) ∷ []) None (binary (at 1 37) (name (n 1 37 (codes "TRUE"))) ops.Minus (at 1 42) (name (n 1 44 (codes "FALSE"))))) ∷ []))) ∷ (local_item (synonyms (at 1 51) ((syn ((n 1 55 (codes "c")) ∷ []) None (binary (at 1 59) (character (at 1 59) 97) ops.Times (at 1 63) (whole (at 1 65) 2))) ∷ []))) ∷ (local_item (synonyms (at 1 68) ((syn ((n 1 72 (codes "d")) ∷ []) None (binary (at 1 76) (text (at 1 76) (97 ∷ [])) ops.Divide (at 1 80) (whole (at 1 82) 1))) ∷ []))) ∷ (local_item (synonyms (at 1 85) ((syn ((n 1 89 (codes "e")) ∷ []) None (binary (at 1 93) (name (n 1 93 (codes "TRUE"))) ops.Mod (at 1 98) (whole (at 1 102) 2))) ∷ []))) ∷ (local_item (synonyms (at 1 105) ((syn ((n 1 109 (codes "f")) ∷ []) None (binary (at 1 113) (whole (at 1 113) 1) ops.Rem (at 1 115) (character (at 1 119) 97))) ∷ []))) ∷ (local_item (synonyms (at 1 124) ((syn ((n 1 128 (codes "g")) ∷ []) None (prefixed (at 1 132) prefixes.Minus (name (n 1 133 (codes "TRUE"))))) ∷ []))) ∷ (local_item (synonyms (at 1 139) ((syn ((n 1 143 (codes "h")) ∷ []) None (prefixed (at 1 147) prefixes.Minus (character (at 1 148) 97))) ∷ []))) ∷ []) None (Some (n 1 157 (codes "m")))) ∷ [])

broken_4-ground : IsGroundOf broken_4 (ground_of broken_4)
broken_4-ground = record { names = refl; entries = refl }

broken_4-modes : broken_modes (ground_of broken_4) broken_4 ≡ (told rules.M10 1 21 ∷ told rules.M10 1 42 ∷ told rules.M10 1 63 ∷ told rules.M10 1 80 ∷ told rules.M10 1 98 ∷ told rules.M10 1 115 ∷ told rules.M10 1 132 ∷ told rules.M10 1 147 ∷ [])
broken_4-modes = refl

-- ORIF and ANDIF are for BOOL alone
--   m: MODULE SYNMODE p = POWERSET INT (0:7); SYN a = p [1] ORIF p [2]; SYN b = p [1] ANDIF p [2]; SYN c = TRUE ORIF 1; SYN d = 1 ANDIF TRUE; END m;
abbrev broken_5 : ProgramTree
broken_5 = program ((modul (n 1 1 (codes "m")) modulions.Module ((local_item (syn_modes (at 1 11) ((modedef (n 1 19 (codes "p")) (w.base_mode (w.powerset (at 1 23) (w.bounded (n 1 32 (codes "INT")) (whole (at 1 37) 0) (whole (at 1 39) 7))))) ∷ []))) ∷ (local_item (synonyms (at 1 43) ((syn ((n 1 47 (codes "a")) ∷ []) None (binary (at 1 51) (tuple (at 1 51) (Some (n 1 51 (codes "p"))) (at 1 53) (range_nodes ((alone (whole (at 1 54) 1)) ∷ []))) ops.OrIf (at 1 57) (tuple (at 1 62) (Some (n 1 62 (codes "p"))) (at 1 64) (range_nodes ((alone (whole (at 1 65) 2)) ∷ []))))) ∷ []))) ∷ (local_item (synonyms (at 1 69) ((syn ((n 1 73 (codes "b")) ∷ []) None (binary (at 1 77) (tuple (at 1 77) (Some (n 1 77 (codes "p"))) (at 1 79) (range_nodes ((alone (whole (at 1 80) 1)) ∷ []))) ops.AndIf (at 1 83) (tuple (at 1 89) (Some (n 1 89 (codes "p"))) (at 1 91) (range_nodes ((alone (whole (at 1 92) 2)) ∷ []))))) ∷ []))) ∷ (local_item (synonyms (at 1 96) ((syn ((n 1 100 (codes "c")) ∷ []) None (binary (at 1 104) (name (n 1 104 (codes "TRUE"))) ops.OrIf (at 1 109) (whole (at 1 114) 1))) ∷ []))) ∷ (local_item (synonyms (at 1 117) ((syn ((n 1 121 (codes "d")) ∷ []) None (binary (at 1 125) (whole (at 1 125) 1) ops.AndIf (at 1 127) (name (n 1 133 (codes "TRUE"))))) ∷ []))) ∷ []) None (Some (n 1 143 (codes "m")))) ∷ [])

broken_5-ground : IsGroundOf broken_5 (ground_of broken_5)
broken_5-ground = record { names = refl; entries = refl }

broken_5-modes : broken_modes (ground_of broken_5) broken_5 ≡ (told rules.M10 1 57 ∷ told rules.M10 1 83 ∷ told rules.M10 1 109 ∷ told rules.M10 1 127 ∷ [])
broken_5-modes = refl

-- comparisons by order
--   m: MODULE SYNMODE s = STRUCT (f INT); SYNMODE a = ARRAY (1:2) INT; SYN b = TRUE < 1; SYN c = s [1] < s [2]; SYN d = a [1, 2] >= a [1, 2]; SYN e = NULL <= NULL; SYN f = "a" > "ab"; END m;
abbrev broken_6 : ProgramTree
broken_6 = program ((modul (n 1 1 (codes "m")) modulions.Module ((local_item (syn_modes (at 1 11) ((modedef (n 1 19 (codes "s")) (w.base_mode (w.structure (at 1 23) (w.field_nodes ((fields ((n 1 31 (codes "f")) ∷ []) (w.discrete (w.named (n 1 33 (codes "INT")))) None) ∷ [])) None))) ∷ []))) ∷ (local_item (syn_modes (at 1 39) ((modedef (n 1 47 (codes "a")) (w.base_mode (w.array (at 1 51) (w.index_bounded (whole (at 1 58) 1) (whole (at 1 60) 2)) (w.discrete (w.named (n 1 63 (codes "INT")))) None))) ∷ []))) ∷ (local_item (synonyms (at 1 68) ((syn ((n 1 72 (codes "b")) ∷ []) None (binary (at 1 76) (name (n 1 76 (codes "TRUE"))) ops.Less (at 1 81) (whole (at 1 83) 1))) ∷ []))) ∷ (local_item (synonyms (at 1 86) ((syn ((n 1 90 (codes "c")) ∷ []) None (binary (at 1 94) (tuple (at 1 94) (Some (n 1 94 (codes "s"))) (at 1 96) (range_nodes ((alone (whole (at 1 97) 1)) ∷ []))) ops.Less (at 1 100) (tuple (at 1 102) (Some (n 1 102 (codes "s"))) (at 1 104) (range_nodes ((alone (whole (at 1 105) 2)) ∷ []))))) ∷ []))) ∷ (local_item (synonyms (at 1 109) ((syn ((n 1 113 (codes "d")) ∷ []) None (binary (at 1 117) (tuple (at 1 117) (Some (n 1 117 (codes "a"))) (at 1 119) (range_nodes ((alone (whole (at 1 120) 1)) ∷ (alone (whole (at 1 123) 2)) ∷ []))) ops.GreaterOrEqual (at 1 126) (tuple (at 1 129) (Some (n 1 129 (codes "a"))) (at 1 131) (range_nodes ((alone (whole (at 1 132) 1)) ∷ (alone (whole (at 1 135) 2)) ∷ []))))) ∷ []))) ∷ (local_item (synonyms (at 1 139) ((syn ((n 1 143 (codes "e")) ∷ []) None (binary (at 1 147) (name (n 1 147 (codes "NULL"))) ops.LessOrEqual (at 1 152) (name (n 1 155 (codes "NULL"))))) ∷ []))) ∷ (local_item (synonyms (at 1 161) ((syn ((n 1 165 (codes "f")) ∷ []) None (binary (at 1 169) (text (at 1 169) (97 ∷ [])) ops.Greater (at 1 173) (text (at 1 175) (97 ∷ 98 ∷ [])))) ∷ []))) ∷ []) None (Some (n 1 185 (codes "m")))) ∷ [])

broken_6-ground : IsGroundOf broken_6 (ground_of broken_6)
broken_6-ground = record { names = refl; entries = refl }

broken_6-modes : broken_modes (ground_of broken_6) broken_6 ≡ (told rules.M10 1 81 ∷ told rules.M10 1 100 ∷ told rules.M10 1 126 ∷ told rules.M10 1 152 ∷ told rules.M10 1 173 ∷ [])
broken_6-modes = refl

-- UPPER and LOWER of modes that are neither discrete nor arrays
--   m: MODULE SYNMODE p = POWERSET INT (0:7); SYNMODE s = STRUCT (f INT); SYNMODE t = CHARS (2); SYN a = UPPER(p); SYN b = LOWER(s); SYN c = UPPER(t); SYN d = LOWER(INSTANCE); DCL x t; SYN e = UPPER(x); END m;
abbrev broken_7 : ProgramTree
broken_7 = program ((modul (n 1 1 (codes "m")) modulions.Module ((local_item (syn_modes (at 1 11) ((modedef (n 1 19 (codes "p")) (w.base_mode (w.powerset (at 1 23) (w.bounded (n 1 32 (codes "INT")) (whole (at 1 37) 0) (whole (at 1 39) 7))))) ∷ []))) ∷ (local_item (syn_modes (at 1 43) ((modedef (n 1 51 (codes "s")) (w.base_mode (w.structure (at 1 55) (w.field_nodes ((fields ((n 1 63 (codes "f")) ∷ []) (w.discrete (w.named (n 1 65 (codes "INT")))) None) ∷ [])) None))) ∷ []))) ∷ (local_item (syn_modes (at 1 71) ((modedef (n 1 79 (codes "t")) (w.base_mode (w.chars (at 1 83) (whole (at 1 90) 2)))) ∷ []))) ∷ (local_item (synonyms (at 1 94) ((syn ((n 1 98 (codes "a")) ∷ []) None (apply (at 1 102) (name (n 1 102 (codes "UPPER"))) (expr_nodes ((name (n 1 108 (codes "p"))) ∷ [])))) ∷ []))) ∷ (local_item (synonyms (at 1 112) ((syn ((n 1 116 (codes "b")) ∷ []) None (apply (at 1 120) (name (n 1 120 (codes "LOWER"))) (expr_nodes ((name (n 1 126 (codes "s"))) ∷ [])))) ∷ []))) ∷ (local_item (synonyms (at 1 130) ((syn ((n 1 134 (codes "c")) ∷ []) None (apply (at 1 138) (name (n 1 138 (codes "UPPER"))) (expr_nodes ((name (n 1 144 (codes "t"))) ∷ [])))) ∷ []))) ∷ (local_item (synonyms (at 1 148) ((syn ((n 1 152 (codes "d")) ∷ []) None (apply (at 1 156) (name (n 1 156 (codes "LOWER"))) (expr_nodes ((name (n 1 162 (codes "INSTANCE"))) ∷ [])))) ∷ []))) ∷ (local_item (locations (at 1 173) ((decl ((n 1 177 (codes "x")) ∷ []) (w.base_mode (w.discrete (w.named (n 1 179 (codes "t"))))) None) ∷ []))) ∷ (local_item (synonyms (at 1 182) ((syn ((n 1 186 (codes "e")) ∷ []) None (apply (at 1 190) (name (n 1 190 (codes "UPPER"))) (expr_nodes ((name (n 1 196 (codes "x"))) ∷ [])))) ∷ []))) ∷ []) None (Some (n 1 204 (codes "m")))) ∷ [])

broken_7-ground : IsGroundOf broken_7 (ground_of broken_7)
broken_7-ground = record { names = refl; entries = refl }

broken_7-modes : broken_modes (ground_of broken_7) broken_7 ≡ (told rules.M10 1 102 ∷ told rules.M10 1 120 ∷ told rules.M10 1 138 ∷ told rules.M10 1 156 ∷ told rules.M10 1 190 ∷ [])
broken_7-modes = refl

-- powersets of different members
--   m: MODULE SYNMODE p = POWERSET INT (0:3); SYNMODE q = POWERSET INT (0:4); SYN a = p [1] OR q [1]; SYN b = p [1] = q [1]; SYN c = p [1] - q [1]; END m;
abbrev broken_8 : ProgramTree
broken_8 = program ((modul (n 1 1 (codes "m")) modulions.Module ((local_item (syn_modes (at 1 11) ((modedef (n 1 19 (codes "p")) (w.base_mode (w.powerset (at 1 23) (w.bounded (n 1 32 (codes "INT")) (whole (at 1 37) 0) (whole (at 1 39) 3))))) ∷ []))) ∷ (local_item (syn_modes (at 1 43) ((modedef (n 1 51 (codes "q")) (w.base_mode (w.powerset (at 1 55) (w.bounded (n 1 64 (codes "INT")) (whole (at 1 69) 0) (whole (at 1 71) 4))))) ∷ []))) ∷ (local_item (synonyms (at 1 75) ((syn ((n 1 79 (codes "a")) ∷ []) None (binary (at 1 83) (tuple (at 1 83) (Some (n 1 83 (codes "p"))) (at 1 85) (range_nodes ((alone (whole (at 1 86) 1)) ∷ []))) ops.Or (at 1 89) (tuple (at 1 92) (Some (n 1 92 (codes "q"))) (at 1 94) (range_nodes ((alone (whole (at 1 95) 1)) ∷ []))))) ∷ []))) ∷ (local_item (synonyms (at 1 99) ((syn ((n 1 103 (codes "b")) ∷ []) None (binary (at 1 107) (tuple (at 1 107) (Some (n 1 107 (codes "p"))) (at 1 109) (range_nodes ((alone (whole (at 1 110) 1)) ∷ []))) ops.Equal (at 1 113) (tuple (at 1 115) (Some (n 1 115 (codes "q"))) (at 1 117) (range_nodes ((alone (whole (at 1 118) 1)) ∷ []))))) ∷ []))) ∷ (local_item (synonyms (at 1 122) ((syn ((n 1 126 (codes "c")) ∷ []) None (binary (at 1 130) (tuple (at 1 130) (Some (n 1 130 (codes "p"))) (at 1 132) (range_nodes ((alone (whole (at 1 133) 1)) ∷ []))) ops.Minus (at 1 136) (tuple (at 1 138) (Some (n 1 138 (codes "q"))) (at 1 140) (range_nodes ((alone (whole (at 1 141) 1)) ∷ []))))) ∷ []))) ∷ []) None (Some (n 1 149 (codes "m")))) ∷ [])

broken_8-ground : IsGroundOf broken_8 (ground_of broken_8)
broken_8-ground = record { names = refl; entries = refl }

broken_8-modes : broken_modes (ground_of broken_8) broken_8 ≡ (told rules.M10 1 89 ∷ told rules.M10 1 113 ∷ told rules.M10 1 136 ∷ [])
broken_8-modes = refl

-- a routine of what isn't constant is no constant operand
--   m: MODULE DCL n INT; n := ABS(n) + 1; PUT_INT(NUM(n = 1)); END m;
abbrev near_1 : ProgramTree
near_1 = program ((modul (n 1 1 (codes "m")) modulions.Module ((local_item (locations (at 1 11) ((decl ((n 1 15 (codes "n")) ∷ []) (w.base_mode (w.discrete (w.named (n 1 17 (codes "INT"))))) None) ∷ []))) ∷ (action (simple (at 1 22) (assign (at 1 22) (name (n 1 22 (codes "n"))) (binary (at 1 27) (apply (at 1 27) (name (n 1 27 (codes "ABS"))) (expr_nodes ((name (n 1 31 (codes "n"))) ∷ []))) ops.Plus (at 1 34) (whole (at 1 36) 1))) (handler_node None))) ∷ (action (simple (at 1 39) (call_of (at 1 39) false (n 1 39 (codes "PUT_INT")) ((apply (at 1 47) (name (n 1 47 (codes "NUM"))) (expr_nodes ((binary (at 1 51) (name (n 1 51 (codes "n"))) ops.Equal (at 1 53) (whole (at 1 55) 1)) ∷ []))) ∷ [])) (handler_node None))) ∷ []) None (Some (n 1 64 (codes "m")))) ∷ [])

near_1-ground : IsGroundOf near_1 (ground_of near_1)
near_1-ground = record { names = refl; entries = refl }

near_1-modes : broken_modes (ground_of near_1) near_1 ≡ []
near_1-modes = refl

near_1-counted : IsStatementGroundOf near_1 (counted_ground_of near_1)
near_1-counted = record { names = refl; entries = refl }

near_1-statements : broken_statements (counted_ground_of near_1) near_1 ≡ []
near_1-statements = refl

near_1-processes : broken_processes (counted_ground_of near_1) near_1 ≡ []
near_1-processes = refl

-- a literal of Derived class fits each novelty
--   m: MODULE NEWMODE o = INT; SYN a o = 1; SYN b = a + 1; SYN c = 1 + a; SYN d o = b + c; SYN e = a = 1; SYN f o = -a; SYN g o = ABS(a); SYN h o = SUCC(a); END m;
abbrev near_2 : ProgramTree
near_2 = program ((modul (n 1 1 (codes "m")) modulions.Module ((local_item (new_modes (at 1 11) ((modedef (n 1 19 (codes "o")) (w.base_mode (w.discrete (w.named (n 1 23 (codes "INT")))))) ∷ []))) ∷ (local_item (synonyms (at 1 28) ((syn ((n 1 32 (codes "a")) ∷ []) (Some (w.base_mode (w.discrete (w.named (n 1 34 (codes "o")))))) (whole (at 1 38) 1)) ∷ []))) ∷ (local_item (synonyms (at 1 41) ((syn ((n 1 45 (codes "b")) ∷ []) None (binary (at 1 49) (name (n 1 49 (codes "a"))) ops.Plus (at 1 51) (whole (at 1 53) 1))) ∷ []))) ∷ (local_item (synonyms (at 1 56) ((syn ((n 1 60 (codes "c")) ∷ []) None (binary (at 1 64) (whole (at 1 64) 1) ops.Plus (at 1 66) (name (n 1 68 (codes "a"))))) ∷ []))) ∷ (local_item (synonyms (at 1 71) ((syn ((n 1 75 (codes "d")) ∷ []) (Some (w.base_mode (w.discrete (w.named (n 1 77 (codes "o")))))) (binary (at 1 81) (name (n 1 81 (codes "b"))) ops.Plus (at 1 83) (name (n 1 85 (codes "c"))))) ∷ []))) ∷ (local_item (synonyms (at 1 88) ((syn ((n 1 92 (codes "e")) ∷ []) None (binary (at 1 96) (name (n 1 96 (codes "a"))) ops.Equal (at 1 98) (whole (at 1 100) 1))) ∷ []))) ∷ (local_item (synonyms (at 1 103) ((syn ((n 1 107 (codes "f")) ∷ []) (Some (w.base_mode (w.discrete (w.named (n 1 109 (codes "o")))))) (prefixed (at 1 113) prefixes.Minus (name (n 1 114 (codes "a"))))) ∷ []))) ∷ (local_item (synonyms (at 1 117) ((syn ((n 1 121 (codes "g")) ∷ []) (Some (w.base_mode (w.discrete (w.named (n 1 123 (codes "o")))))) (apply (at 1 127) (name (n 1 127 (codes "ABS"))) (expr_nodes ((name (n 1 131 (codes "a"))) ∷ [])))) ∷ []))) ∷ (local_item (synonyms (at 1 135) ((syn ((n 1 139 (codes "h")) ∷ []) (Some (w.base_mode (w.discrete (w.named (n 1 141 (codes "o")))))) (apply (at 1 145) (name (n 1 145 (codes "SUCC"))) (expr_nodes ((name (n 1 150 (codes "a"))) ∷ [])))) ∷ []))) ∷ []) None (Some (n 1 158 (codes "m")))) ∷ [])

near_2-ground : IsGroundOf near_2 (ground_of near_2)
near_2-ground = record { names = refl; entries = refl }

near_2-modes : broken_modes (ground_of near_2) near_2 ≡ []
near_2-modes = refl

near_2-counted : IsStatementGroundOf near_2 (counted_ground_of near_2)
near_2-counted = record { names = refl; entries = refl }

near_2-statements : broken_statements (counted_ground_of near_2) near_2 ≡ []
near_2-statements = refl

near_2-processes : broken_processes (counted_ground_of near_2) near_2 ≡ []
near_2-processes = refl
