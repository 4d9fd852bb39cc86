-- Rule M12: texts that break it, and texts that nearly do.
use Rattle.std.proofs.Common.{◌≡◌, refl}
use Rattle.std.specs.Prelude.{[], ◌∷◌, Some, None, codes}
use Rattle.chill_tree.specs.declared.tree.expr.Operator.TheVariants as ops
use Rattle.chill_tree.specs.declared.tree.expr.Prefix.TheVariants as prefixes
use Rattle.chill_tree.specs.declared.tree.item.ModulionKind.TheVariants as modulions
use Rattle.chill_tree.specs.ExprTree.{whole, character, text, tuple, name, prefixed, binary, alone, range_nodes}
use Rattle.chill_tree.specs.ModeTree as w
use Rattle.chill_tree.specs.LocalTree.{synonyms, syn_modes, new_modes, locations}
use Rattle.chill_tree.specs.ItemTree.{ProgramTree, local_item}
use Rattle.diagnostics.specs.declared.rule.Rule.TheVariants as rules
use Rattle.checks_model.specs.Table.{IsGroundOf, IsStatementGroundOf}
use Rattle.checks_model.specs.Phases.{broken_modes, broken_statements, broken_processes}
use Rattle.checks_examples.proofs.Programs.{at, n, syn, modedef, decl, fields, modul, program, ground_of, counted_ground_of, told}

-- one expression of two names is told once
--   m: MODULE SYN a, b INT = TRUE; END m;
abbrev broken_1 : ProgramTree
broken_1 = program ((modul (n 1 1 (codes "m")) modulions.Module ((local_item (synonyms (at 1 11) ((syn ((n 1 15 (codes "a")) ∷ (n 1 18 (codes "b")) ∷ []) (Some (w.base_mode (w.discrete (w.named (n 1 20 (codes "INT")))))) (name (n 1 26 (codes "TRUE")))) ∷ []))) ∷ []) None (Some (n 1 36 (codes "m")))) ∷ [])

broken_1-ground : IsGroundOf broken_1 (ground_of broken_1)
broken_1-ground = record { names = refl; entries = refl }

broken_1-modes : broken_modes (ground_of broken_1) broken_1 ≡ (told rules.M12 1 26 ∷ [])
broken_1-modes = refl

-- under READ
--   m: MODULE SYN a READ INT (0:7) = 8; SYN b READ INT = 8; END m;
abbrev broken_2 : ProgramTree
broken_2 = program ((modul (n 1 1 (codes "m")) modulions.Module ((local_item (synonyms (at 1 11) ((syn ((n 1 15 (codes "a")) ∷ []) (Some (w.read_mode (at 1 17) (w.discrete (w.bounded (n 1 22 (codes "INT")) (whole (at 1 27) 0) (whole (at 1 29) 7))))) (whole (at 1 34) 8)) ∷ []))) ∷ (local_item (synonyms (at 1 37) ((syn ((n 1 41 (codes "b")) ∷ []) (Some (w.read_mode (at 1 43) (w.discrete (w.named (n 1 48 (codes "INT")))))) (whole (at 1 54) 8)) ∷ []))) ∷ []) None (Some (n 1 61 (codes "m")))) ∷ [])

broken_2-ground : IsGroundOf broken_2 (ground_of broken_2)
broken_2-ground = record { names = refl; entries = refl }

broken_2-modes : broken_modes (ground_of broken_2) broken_2 ≡ (told rules.M12 1 34 ∷ [])
broken_2-modes = refl

-- another novelty
--   m: MODULE NEWMODE o = INT; SYN a o = 3; SYN b INT = a; SYN c o = a + 1; SYN d INT = 3; SYN e o = d; END m;
abbrev broken_3 : ProgramTree
broken_3 = program ((modul (n 1 1 (codes "m")) modulions.Module ((local_item (new_modes (at 1 11) ((modedef (n 1 19 (codes "o")) (w.base_mode (w.discrete (w.named (n 1 23 (codes "INT")))))) ∷ []))) ∷ (local_item (synonyms (at 1 28) ((syn ((n 1 32 (codes "a")) ∷ []) (Some (w.base_mode (w.discrete (w.named (n 1 34 (codes "o")))))) (whole (at 1 38) 3)) ∷ []))) ∷ (local_item (synonyms (at 1 41) ((syn ((n 1 45 (codes "b")) ∷ []) (Some (w.base_mode (w.discrete (w.named (n 1 47 (codes "INT")))))) (name (n 1 53 (codes "a")))) ∷ []))) ∷ (local_item (synonyms (at 1 56) ((syn ((n 1 60 (codes "c")) ∷ []) (Some (w.base_mode (w.discrete (w.named (n 1 62 (codes "o")))))) (binary (at 1 66) (name (n 1 66 (codes "a"))) ops.Plus (at 1 68) (whole (at 1 70) 1))) ∷ []))) ∷ (local_item (synonyms (at 1 73) ((syn ((n 1 77 (codes "d")) ∷ []) (Some (w.base_mode (w.discrete (w.named (n 1 79 (codes "INT")))))) (whole (at 1 85) 3)) ∷ []))) ∷ (local_item (synonyms (at 1 88) ((syn ((n 1 92 (codes "e")) ∷ []) (Some (w.base_mode (w.discrete (w.named (n 1 94 (codes "o")))))) (name (n 1 98 (codes "d")))) ∷ []))) ∷ []) None (Some (n 1 105 (codes "m")))) ∷ [])

broken_3-ground : IsGroundOf broken_3 (ground_of broken_3)
broken_3-ground = record { names = refl; entries = refl }

broken_3-modes : broken_modes (ground_of broken_3) broken_3 ≡ (told rules.M12 1 53 ∷ told rules.M12 1 98 ∷ [])
broken_3-modes = refl

-- a value that doesn't go with it
--   m: MODULE SYN a INT = "abc"; SYN b BOOL = 1; SYN c CHAR = "a"; SYN d CHARS (2) = "a"; SYN e INSTANCE = 1; END m;
abbrev broken_4 : ProgramTree
broken_4 = program ((modul (n 1 1 (codes "m")) modulions.Module ((local_item (synonyms (at 1 11) ((syn ((n 1 15 (codes "a")) ∷ []) (Some (w.base_mode (w.discrete (w.named (n 1 17 (codes "INT")))))) (text (at 1 23) (97 ∷ 98 ∷ 99 ∷ []))) ∷ []))) ∷ (local_item (synonyms (at 1 30) ((syn ((n 1 34 (codes "b")) ∷ []) (Some (w.base_mode (w.discrete (w.named (n 1 36 (codes "BOOL")))))) (whole (at 1 43) 1)) ∷ []))) ∷ (local_item (synonyms (at 1 46) ((syn ((n 1 50 (codes "c")) ∷ []) (Some (w.base_mode (w.discrete (w.named (n 1 52 (codes "CHAR")))))) (text (at 1 59) (97 ∷ []))) ∷ []))) ∷ (local_item (synonyms (at 1 64) ((syn ((n 1 68 (codes "d")) ∷ []) (Some (w.base_mode (w.chars (at 1 70) (whole (at 1 77) 2)))) (text (at 1 82) (97 ∷ []))) ∷ []))) ∷ (local_item (synonyms (at 1 87) ((syn ((n 1 91 (codes "e")) ∷ []) (Some (w.base_mode (w.discrete (w.named (n 1 93 (codes "INSTANCE")))))) (whole (at 1 104) 1)) ∷ []))) ∷ []) None (Some (n 1 111 (codes "m")))) ∷ [])

broken_4-ground : IsGroundOf broken_4 (ground_of broken_4)
broken_4-ground = record { names = refl; entries = refl }

broken_4-modes : broken_modes (ground_of broken_4) broken_4 ≡ (told rules.M12 1 23 ∷ told rules.M12 1 43 ∷ told rules.M12 1 59 ∷ told rules.M12 1 82 ∷ told rules.M12 1 104 ∷ [])
broken_4-modes = refl

-- a value outside it
--   m: MODULE SYN a INT (0:7) = 8; SYN b INT (0:7) = -1; SYN c CHAR ('a':'c') = 'd'; SYNMODE n = INT (2:3); SYN d n = 1 + 3; END m;
abbrev broken_5 : ProgramTree
broken_5 = program ((modul (n 1 1 (codes "m")) modulions.Module ((local_item (synonyms (at 1 11) ((syn ((n 1 15 (codes "a")) ∷ []) (Some (w.base_mode (w.discrete (w.bounded (n 1 17 (codes "INT")) (whole (at 1 22) 0) (whole (at 1 24) 7))))) (whole (at 1 29) 8)) ∷ []))) ∷ (local_item (synonyms (at 1 32) ((syn ((n 1 36 (codes "b")) ∷ []) (Some (w.base_mode (w.discrete (w.bounded (n 1 38 (codes "INT")) (whole (at 1 43) 0) (whole (at 1 45) 7))))) (prefixed (at 1 50) prefixes.Minus (whole (at 1 51) 1))) ∷ []))) ∷ (local_item (synonyms (at 1 54) ((syn ((n 1 58 (codes "c")) ∷ []) (Some (w.base_mode (w.discrete (w.bounded (n 1 60 (codes "CHAR")) (character (at 1 66) 97) (character (at 1 70) 99))))) (character (at 1 77) 100)) ∷ []))) ∷ (local_item (syn_modes (at 1 82) ((modedef (n 1 90 (codes "n")) (w.base_mode (w.discrete (w.bounded (n 1 94 (codes "INT")) (whole (at 1 99) 2) (whole (at 1 101) 3))))) ∷ []))) ∷ (local_item (synonyms (at 1 105) ((syn ((n 1 109 (codes "d")) ∷ []) (Some (w.base_mode (w.discrete (w.named (n 1 111 (codes "n")))))) (binary (at 1 115) (whole (at 1 115) 1) ops.Plus (at 1 117) (whole (at 1 119) 3))) ∷ []))) ∷ []) None (Some (n 1 126 (codes "m")))) ∷ [])

broken_5-ground : IsGroundOf broken_5 (ground_of broken_5)
broken_5-ground = record { names = refl; entries = refl }

broken_5-modes : broken_modes (ground_of broken_5) broken_5 ≡ (told rules.M12 1 29 ∷ told rules.M12 1 50 ∷ told rules.M12 1 77 ∷ told rules.M12 1 115 ∷ [])
broken_5-modes = refl

-- arrays, structures and powersets of another mode
--   m: MODULE SYNMODE p = POWERSET INT (0:3); SYNMODE q = POWERSET INT (0:4); SYN a p = q [1]; SYNMODE s = STRUCT (f INT); SYNMODE t = STRUCT (g INT); SYN b s = t [1]; SYN c ARRAY (1:2) INT = s [1]; END m;
abbrev broken_6 : ProgramTree
broken_6 = program ((modul (n 1 1 (codes "m")) modulions.Module ((local_item (syn_modes (at 1 11) ((modedef (n 1 19 (codes "p")) (w.base_mode (w.powerset (at 1 23) (w.bounded (n 1 32 (codes "INT")) (whole (at 1 37) 0) (whole (at 1 39) 3))))) ∷ []))) ∷ (local_item (syn_modes (at 1 43) ((modedef (n 1 51 (codes "q")) (w.base_mode (w.powerset (at 1 55) (w.bounded (n 1 64 (codes "INT")) (whole (at 1 69) 0) (whole (at 1 71) 4))))) ∷ []))) ∷ (local_item (synonyms (at 1 75) ((syn ((n 1 79 (codes "a")) ∷ []) (Some (w.base_mode (w.discrete (w.named (n 1 81 (codes "p")))))) (tuple (at 1 85) (Some (n 1 85 (codes "q"))) (at 1 87) (range_nodes ((alone (whole (at 1 88) 1)) ∷ [])))) ∷ []))) ∷ (local_item (syn_modes (at 1 92) ((modedef (n 1 100 (codes "s")) (w.base_mode (w.structure (at 1 104) (w.field_nodes ((fields ((n 1 112 (codes "f")) ∷ []) (w.discrete (w.named (n 1 114 (codes "INT")))) None) ∷ [])) None))) ∷ []))) ∷ (local_item (syn_modes (at 1 120) ((modedef (n 1 128 (codes "t")) (w.base_mode (w.structure (at 1 132) (w.field_nodes ((fields ((n 1 140 (codes "g")) ∷ []) (w.discrete (w.named (n 1 142 (codes "INT")))) None) ∷ [])) None))) ∷ []))) ∷ (local_item (synonyms (at 1 148) ((syn ((n 1 152 (codes "b")) ∷ []) (Some (w.base_mode (w.discrete (w.named (n 1 154 (codes "s")))))) (tuple (at 1 158) (Some (n 1 158 (codes "t"))) (at 1 160) (range_nodes ((alone (whole (at 1 161) 1)) ∷ [])))) ∷ []))) ∷ (local_item (synonyms (at 1 165) ((syn ((n 1 169 (codes "c")) ∷ []) (Some (w.base_mode (w.array (at 1 171) (w.index_bounded (whole (at 1 178) 1) (whole (at 1 180) 2)) (w.discrete (w.named (n 1 183 (codes "INT")))) None))) (tuple (at 1 189) (Some (n 1 189 (codes "s"))) (at 1 191) (range_nodes ((alone (whole (at 1 192) 1)) ∷ [])))) ∷ []))) ∷ []) None (Some (n 1 200 (codes "m")))) ∷ [])

broken_6-ground : IsGroundOf broken_6 (ground_of broken_6)
broken_6-ground = record { names = refl; entries = refl }

broken_6-modes : broken_modes (ground_of broken_6) broken_6 ≡ (told rules.M12 1 85 ∷ told rules.M12 1 158 ∷ told rules.M12 1 189 ∷ [])
broken_6-modes = refl

-- what rests on it has its class and no value
--   m: MODULE SYN a INT = "abc"; SYN b = a + TRUE; SYN c = a + 1; SYN d INT (0:7) = a; DCL t CHARS (a); END m;
abbrev broken_7 : ProgramTree
broken_7 = program ((modul (n 1 1 (codes "m")) modulions.Module ((local_item (synonyms (at 1 11) ((syn ((n 1 15 (codes "a")) ∷ []) (Some (w.base_mode (w.discrete (w.named (n 1 17 (codes "INT")))))) (text (at 1 23) (97 ∷ 98 ∷ 99 ∷ []))) ∷ []))) ∷ (local_item (synonyms (at 1 30) ((syn ((n 1 34 (codes "b")) ∷ []) None (binary (at 1 38) (name (n 1 38 (codes "a"))) ops.Plus (at 1 40) (name (n 1 42 (codes "TRUE"))))) ∷ []))) ∷ (local_item (synonyms (at 1 48) ((syn ((n 1 52 (codes "c")) ∷ []) None (binary (at 1 56) (name (n 1 56 (codes "a"))) ops.Plus (at 1 58) (whole (at 1 60) 1))) ∷ []))) ∷ (local_item (synonyms (at 1 63) ((syn ((n 1 67 (codes "d")) ∷ []) (Some (w.base_mode (w.discrete (w.bounded (n 1 69 (codes "INT")) (whole (at 1 74) 0) (whole (at 1 76) 7))))) (name (n 1 81 (codes "a")))) ∷ []))) ∷ (local_item (locations (at 1 84) ((decl ((n 1 88 (codes "t")) ∷ []) (w.base_mode (w.chars (at 1 90) (name (n 1 97 (codes "a"))))) None) ∷ []))) ∷ []) None (Some (n 1 105 (codes "m")))) ∷ [])

broken_7-ground : IsGroundOf broken_7 (ground_of broken_7)
broken_7-ground = record { names = refl; entries = refl }

broken_7-modes : broken_modes (ground_of broken_7) broken_7 ≡ (told rules.M12 1 23 ∷ told rules.M10 1 40 ∷ [])
broken_7-modes = refl

-- what isn't constant is told besides, whatever it rests on
--   m: MODULE DCL v CHARS (300); SYN c = v; END m;
abbrev near_1 : ProgramTree
near_1 = program ((modul (n 1 1 (codes "m")) modulions.Module ((local_item (locations (at 1 11) ((decl ((n 1 15 (codes "v")) ∷ []) (w.base_mode (w.chars (at 1 17) (whole (at 1 24) 300))) None) ∷ []))) ∷ (local_item (synonyms (at 1 30) ((syn ((n 1 34 (codes "c")) ∷ []) None (name (n 1 38 (codes "v")))) ∷ []))) ∷ []) None (Some (n 1 45 (codes "m")))) ∷ [])

near_1-ground : IsGroundOf near_1 (ground_of near_1)
near_1-ground = record { names = refl; entries = refl }

near_1-modes : broken_modes (ground_of near_1) near_1 ≡ (told rules.M6 1 24 ∷ told rules.M1 1 38 ∷ [])
near_1-modes = refl

-- a written mode's values by another spelling of the same mode
--   m: MODULE SYNMODE a = ARRAY (1:2) INT; SYN k a = [1, 2]; SYN l ARRAY (1:2) INT = k; SYN n a = l; END m;
abbrev near_2 : ProgramTree
near_2 = program ((modul (n 1 1 (codes "m")) modulions.Module ((local_item (syn_modes (at 1 11) ((modedef (n 1 19 (codes "a")) (w.base_mode (w.array (at 1 23) (w.index_bounded (whole (at 1 30) 1) (whole (at 1 32) 2)) (w.discrete (w.named (n 1 35 (codes "INT")))) None))) ∷ []))) ∷ (local_item (synonyms (at 1 40) ((syn ((n 1 44 (codes "k")) ∷ []) (Some (w.base_mode (w.discrete (w.named (n 1 46 (codes "a")))))) (tuple (at 1 50) None (at 1 50) (range_nodes ((alone (whole (at 1 51) 1)) ∷ (alone (whole (at 1 54) 2)) ∷ [])))) ∷ []))) ∷ (local_item (synonyms (at 1 58) ((syn ((n 1 62 (codes "l")) ∷ []) (Some (w.base_mode (w.array (at 1 64) (w.index_bounded (whole (at 1 71) 1) (whole (at 1 73) 2)) (w.discrete (w.named (n 1 76 (codes "INT")))) None))) (name (n 1 82 (codes "k")))) ∷ []))) ∷ (local_item (synonyms (at 1 85) ((syn ((n 1 89 (codes "n")) ∷ []) (Some (w.base_mode (w.discrete (w.named (n 1 91 (codes "a")))))) (name (n 1 95 (codes "l")))) ∷ []))) ∷ []) None (Some (n 1 102 (codes "m")))) ∷ [])

near_2-ground : IsGroundOf near_2 (ground_of near_2)
near_2-ground = record { names = refl; entries = refl }

near_2-modes : broken_modes (ground_of near_2) near_2 ≡ []
near_2-modes = refl

near_2-counted : IsStatementGroundOf near_2 (counted_ground_of near_2)
near_2-counted = record { names = refl; entries = refl }

near_2-statements : broken_statements (counted_ground_of near_2) near_2 ≡ []
near_2-statements = refl

near_2-processes : broken_processes (counted_ground_of near_2) near_2 ≡ []
near_2-processes = refl
