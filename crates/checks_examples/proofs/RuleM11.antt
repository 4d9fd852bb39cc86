-- Rule M11: texts that break it, and texts that nearly do.
use Rattle.std.proofs.Common.{◌≡◌, refl}
use Rattle.std.specs.Prelude.{false, [], ◌∷◌, Some, None, codes}
use Rattle.chill_tree.specs.declared.tree.expr.Operator.TheVariants as ops
use Rattle.chill_tree.specs.declared.tree.expr.Prefix.TheVariants as prefixes
use Rattle.chill_tree.specs.declared.tree.item.ModulionKind.TheVariants as modulions
use Rattle.chill_tree.specs.ExprTree.{whole, paren, tuple, name, apply, prefixed, binary, alone, between, expr_nodes, range_nodes}
use Rattle.chill_tree.specs.ModeTree as w
use Rattle.chill_tree.specs.LocalTree.{synonyms, syn_modes, new_modes, locations}
use Rattle.chill_tree.specs.SimpleTree.{assign, call_of}
use Rattle.chill_tree.specs.StatementTree.{simple, handler_node}
use Rattle.chill_tree.specs.ItemTree.{ProgramTree, local_item, action}
use Rattle.diagnostics.specs.declared.rule.Rule.TheVariants as rules
use Rattle.checks_model.specs.Table.{IsGroundOf, IsStatementGroundOf}
use Rattle.checks_model.specs.Phases.{broken_modes, broken_statements, broken_processes}
use Rattle.checks_examples.proofs.Programs.{at, n, syn, modedef, init, decl, modul, program, ground_of, counted_ground_of, told}

-- a literal above INT
--   m: MODULE SYN a = 2147483648; SYN b = 18446744073709551615; SYN c = 2147483647; END m;
abbrev broken_1 : ProgramTree
broken_1 = program ((modul (n 1 1 (codes "m")) modulions.Module ((local_item (synonyms (at 1 11) ((syn ((n 1 15 (codes "a")) ∷ []) None (whole (at 1 19) 2147483648)) ∷ []))) ∷ (local_item (synonyms (at 1 31) ((syn ((n 1 35 (codes "b")) ∷ []) None (whole (at 1 39) 18446744073709551615)) ∷ []))) ∷ (local_item (synonyms (at 1 61) ((syn ((n 1 65 (codes "c")) ∷ []) None (whole (at 1 69) 2147483647)) ∷ []))) ∷ []) None (Some (n 1 85 (codes "m")))) ∷ [])

broken_1-ground : IsGroundOf broken_1 (ground_of broken_1)
broken_1-ground = record { names = refl; entries = refl }

broken_1-modes : broken_modes (ground_of broken_1) broken_1 ≡ (told rules.M11 1 19 ∷ told rules.M11 1 39 ∷ [])
broken_1-modes = refl

-- the sign and the amount of the least number
--   m: MODULE SYN k = -2147483648; SYN a = -k; SYN b = ABS(k); SYN c = -(-2147483648); END m;
abbrev broken_2 : ProgramTree
broken_2 = program ((modul (n 1 1 (codes "m")) modulions.Module ((local_item (synonyms (at 1 11) ((syn ((n 1 15 (codes "k")) ∷ []) None (prefixed (at 1 19) prefixes.Minus (whole (at 1 20) 2147483648))) ∷ []))) ∷ (local_item (synonyms (at 1 32) ((syn ((n 1 36 (codes "a")) ∷ []) None (prefixed (at 1 40) prefixes.Minus (name (n 1 41 (codes "k"))))) ∷ []))) ∷ (local_item (synonyms (at 1 44) ((syn ((n 1 48 (codes "b")) ∷ []) None (apply (at 1 52) (name (n 1 52 (codes "ABS"))) (expr_nodes ((name (n 1 56 (codes "k"))) ∷ [])))) ∷ []))) ∷ (local_item (synonyms (at 1 60) ((syn ((n 1 64 (codes "c")) ∷ []) None (prefixed (at 1 68) prefixes.Minus (paren (at 1 69) (prefixed (at 1 70) prefixes.Minus (whole (at 1 71) 2147483648))))) ∷ []))) ∷ []) None (Some (n 1 88 (codes "m")))) ∷ [])

broken_2-ground : IsGroundOf broken_2 (ground_of broken_2)
broken_2-ground = record { names = refl; entries = refl }

broken_2-modes : broken_modes (ground_of broken_2) broken_2 ≡ (told rules.M11 1 40 ∷ told rules.M11 1 52 ∷ told rules.M11 1 68 ∷ [])
broken_2-modes = refl

-- division by zero, MOD by less than 1
--   m: MODULE SYN a = 1 / 0; SYN b = 1 MOD 0; SYN c = 1 MOD -1; SYN d = 1 REM 0; SYN e = 0 / 0; END m;
abbrev broken_3 : ProgramTree
broken_3 = program ((modul (n 1 1 (codes "m")) modulions.Module ((local_item (synonyms (at 1 11) ((syn ((n 1 15 (codes "a")) ∷ []) None (binary (at 1 19) (whole (at 1 19) 1) ops.Divide (at 1 21) (whole (at 1 23) 0))) ∷ []))) ∷ (local_item (synonyms (at 1 26) ((syn ((n 1 30 (codes "b")) ∷ []) None (binary (at 1 34) (whole (at 1 34) 1) ops.Mod (at 1 36) (whole (at 1 40) 0))) ∷ []))) ∷ (local_item (synonyms (at 1 43) ((syn ((n 1 47 (codes "c")) ∷ []) None (binary (at 1 51) (whole (at 1 51) 1) ops.Mod (at 1 53) (prefixed (at 1 57) prefixes.Minus (whole (at 1 58) 1)))) ∷ []))) ∷ (local_item (synonyms (at 1 61) ((syn ((n 1 65 (codes "d")) ∷ []) None (binary (at 1 69) (whole (at 1 69) 1) ops.Rem (at 1 71) (whole (at 1 75) 0))) ∷ []))) ∷ (local_item (synonyms (at 1 78) ((syn ((n 1 82 (codes "e")) ∷ []) None (binary (at 1 86) (whole (at 1 86) 0) ops.Divide (at 1 88) (whole (at 1 90) 0))) ∷ []))) ∷ []) None (Some (n 1 97 (codes "m")))) ∷ [])

broken_3-ground : IsGroundOf broken_3 (ground_of broken_3)
broken_3-ground = record { names = refl; entries = refl }

broken_3-modes : broken_modes (ground_of broken_3) broken_3 ≡ (told rules.M11 1 21 ∷ told rules.M11 1 36 ∷ told rules.M11 1 53 ∷ told rules.M11 1 71 ∷ told rules.M11 1 88 ∷ [])
broken_3-modes = refl

-- a minus makes one number with a literal alone
--   m: MODULE SYN a = -2147483648; SYN b = -2147483649; SYN c = -(2147483648); SYN d = 0 - 2147483648; SYN e = - 2147483648; END m;
abbrev broken_4 : ProgramTree
broken_4 = program ((modul (n 1 1 (codes "m")) modulions.Module ((local_item (synonyms (at 1 11) ((syn ((n 1 15 (codes "a")) ∷ []) None (prefixed (at 1 19) prefixes.Minus (whole (at 1 20) 2147483648))) ∷ []))) ∷ (local_item (synonyms (at 1 32) ((syn ((n 1 36 (codes "b")) ∷ []) None (prefixed (at 1 40) prefixes.Minus (whole (at 1 41) 2147483649))) ∷ []))) ∷ (local_item (synonyms (at 1 53) ((syn ((n 1 57 (codes "c")) ∷ []) None (prefixed (at 1 61) prefixes.Minus (paren (at 1 62) (whole (at 1 63) 2147483648)))) ∷ []))) ∷ (local_item (synonyms (at 1 76) ((syn ((n 1 80 (codes "d")) ∷ []) None (binary (at 1 84) (whole (at 1 84) 0) ops.Minus (at 1 86) (whole (at 1 88) 2147483648))) ∷ []))) ∷ (local_item (synonyms (at 1 100) ((syn ((n 1 104 (codes "e")) ∷ []) None (prefixed (at 1 108) prefixes.Minus (whole (at 1 110) 2147483648))) ∷ []))) ∷ []) None (Some (n 1 126 (codes "m")))) ∷ [])

broken_4-ground : IsGroundOf broken_4 (ground_of broken_4)
broken_4-ground = record { names = refl; entries = refl }

broken_4-modes : broken_modes (ground_of broken_4) broken_4 ≡ (told rules.M11 1 41 ∷ told rules.M11 1 63 ∷ told rules.M11 1 88 ∷ [])
broken_4-modes = refl

-- SUCC and PRED past the ends
--   m: MODULE NEWMODE c = SET (red, green); SYN a = SUCC(TRUE); SYN b = PRED(FALSE); SYN d = SUCC(green); SYN e = PRED(red); SYN f = SUCC(2147483647); SYN g = PRED(-2147483648); END m;
abbrev broken_5 : ProgramTree
broken_5 = program ((modul (n 1 1 (codes "m")) modulions.Module ((local_item (new_modes (at 1 11) ((modedef (n 1 19 (codes "c")) (w.base_mode (w.discrete (w.set_of (at 1 23) ((n 1 28 (codes "red")) ∷ (n 1 33 (codes "green")) ∷ []))))) ∷ []))) ∷ (local_item (synonyms (at 1 41) ((syn ((n 1 45 (codes "a")) ∷ []) None (apply (at 1 49) (name (n 1 49 (codes "SUCC"))) (expr_nodes ((name (n 1 54 (codes "TRUE"))) ∷ [])))) ∷ []))) ∷ (local_item (synonyms (at 1 61) ((syn ((n 1 65 (codes "b")) ∷ []) None (apply (at 1 69) (name (n 1 69 (codes "PRED"))) (expr_nodes ((name (n 1 74 (codes "FALSE"))) ∷ [])))) ∷ []))) ∷ (local_item (synonyms (at 1 82) ((syn ((n 1 86 (codes "d")) ∷ []) None (apply (at 1 90) (name (n 1 90 (codes "SUCC"))) (expr_nodes ((name (n 1 95 (codes "green"))) ∷ [])))) ∷ []))) ∷ (local_item (synonyms (at 1 103) ((syn ((n 1 107 (codes "e")) ∷ []) None (apply (at 1 111) (name (n 1 111 (codes "PRED"))) (expr_nodes ((name (n 1 116 (codes "red"))) ∷ [])))) ∷ []))) ∷ (local_item (synonyms (at 1 122) ((syn ((n 1 126 (codes "f")) ∷ []) None (apply (at 1 130) (name (n 1 130 (codes "SUCC"))) (expr_nodes ((whole (at 1 135) 2147483647) ∷ [])))) ∷ []))) ∷ (local_item (synonyms (at 1 148) ((syn ((n 1 152 (codes "g")) ∷ []) None (apply (at 1 156) (name (n 1 156 (codes "PRED"))) (expr_nodes ((prefixed (at 1 161) prefixes.Minus (whole (at 1 162) 2147483648)) ∷ [])))) ∷ []))) ∷ []) None (Some (n 1 179 (codes "m")))) ∷ [])

broken_5-ground : IsGroundOf broken_5 (ground_of broken_5)
broken_5-ground = record { names = refl; entries = refl }

broken_5-modes : broken_modes (ground_of broken_5) broken_5 ≡ (told rules.M11 1 49 ∷ told rules.M11 1 69 ∷ told rules.M11 1 90 ∷ told rules.M11 1 111 ∷ told rules.M11 1 130 ∷ told rules.M11 1 156 ∷ [])
broken_5-modes = refl

-- MIN and MAX of nothing
--   m: MODULE SYNMODE p = POWERSET INT (0:7); SYN a = MIN(p []); SYN b = MAX(p [3:2]); SYN c = MIN(p [1] - p [1]); END m;
abbrev broken_6 : ProgramTree
broken_6 = program ((modul (n 1 1 (codes "m")) modulions.Module ((local_item (syn_modes (at 1 11) ((modedef (n 1 19 (codes "p")) (w.base_mode (w.powerset (at 1 23) (w.bounded (n 1 32 (codes "INT")) (whole (at 1 37) 0) (whole (at 1 39) 7))))) ∷ []))) ∷ (local_item (synonyms (at 1 43) ((syn ((n 1 47 (codes "a")) ∷ []) None (apply (at 1 51) (name (n 1 51 (codes "MIN"))) (expr_nodes ((tuple (at 1 55) (Some (n 1 55 (codes "p"))) (at 1 57) (range_nodes [])) ∷ [])))) ∷ []))) ∷ (local_item (synonyms (at 1 62) ((syn ((n 1 66 (codes "b")) ∷ []) None (apply (at 1 70) (name (n 1 70 (codes "MAX"))) (expr_nodes ((tuple (at 1 74) (Some (n 1 74 (codes "p"))) (at 1 76) (range_nodes ((between (whole (at 1 77) 3) (whole (at 1 79) 2)) ∷ []))) ∷ [])))) ∷ []))) ∷ (local_item (synonyms (at 1 84) ((syn ((n 1 88 (codes "c")) ∷ []) None (apply (at 1 92) (name (n 1 92 (codes "MIN"))) (expr_nodes ((binary (at 1 96) (tuple (at 1 96) (Some (n 1 96 (codes "p"))) (at 1 98) (range_nodes ((alone (whole (at 1 99) 1)) ∷ []))) ops.Minus (at 1 102) (tuple (at 1 104) (Some (n 1 104 (codes "p"))) (at 1 106) (range_nodes ((alone (whole (at 1 107) 1)) ∷ [])))) ∷ [])))) ∷ []))) ∷ []) None (Some (n 1 116 (codes "m")))) ∷ [])

broken_6-ground : IsGroundOf broken_6 (ground_of broken_6)
broken_6-ground = record { names = refl; entries = refl }

broken_6-modes : broken_modes (ground_of broken_6) broken_6 ≡ (told rules.M11 1 51 ∷ told rules.M11 1 70 ∷ told rules.M11 1 92 ∷ [])
broken_6-modes = refl

-- the example of the definition
--   M: MODULE PUT_INT(2147483647 + 1); END M;
abbrev broken_7 : ProgramTree
broken_7 = program ((modul (n 1 1 (codes "M")) modulions.Module ((action (simple (at 1 11) (call_of (at 1 11) false (n 1 11 (codes "PUT_INT")) ((binary (at 1 19) (whole (at 1 19) 2147483647) ops.Plus (at 1 30) (whole (at 1 32) 1)) ∷ [])) (handler_node None))) ∷ []) None (Some (n 1 40 (codes "M")))) ∷ [])

broken_7-ground : IsGroundOf broken_7 (ground_of broken_7)
broken_7-ground = record { names = refl; entries = refl }

broken_7-modes : broken_modes (ground_of broken_7) broken_7 ≡ (told rules.M11 1 30 ∷ [])
broken_7-modes = refl

-- ORIF and ANDIF have both operands looked at
--   m: MODULE SYN a = TRUE ORIF 1 / 0 = 1; SYN b = FALSE ANDIF 1 MOD 0 = 1; SYN c = TRUE ORIF (MIN(d []) = 1); SYNMODE d = POWERSET INT (0:7); END m;
abbrev broken_8 : ProgramTree
broken_8 = program ((modul (n 1 1 (codes "m")) modulions.Module ((local_item (synonyms (at 1 11) ((syn ((n 1 15 (codes "a")) ∷ []) None (binary (at 1 19) (name (n 1 19 (codes "TRUE"))) ops.OrIf (at 1 24) (binary (at 1 29) (binary (at 1 29) (whole (at 1 29) 1) ops.Divide (at 1 31) (whole (at 1 33) 0)) ops.Equal (at 1 35) (whole (at 1 37) 1)))) ∷ []))) ∷ (local_item (synonyms (at 1 40) ((syn ((n 1 44 (codes "b")) ∷ []) None (binary (at 1 48) (name (n 1 48 (codes "FALSE"))) ops.AndIf (at 1 54) (binary (at 1 60) (binary (at 1 60) (whole (at 1 60) 1) ops.Mod (at 1 62) (whole (at 1 66) 0)) ops.Equal (at 1 68) (whole (at 1 70) 1)))) ∷ []))) ∷ (local_item (synonyms (at 1 73) ((syn ((n 1 77 (codes "c")) ∷ []) None (binary (at 1 81) (name (n 1 81 (codes "TRUE"))) ops.OrIf (at 1 86) (paren (at 1 91) (binary (at 1 92) (apply (at 1 92) (name (n 1 92 (codes "MIN"))) (expr_nodes ((tuple (at 1 96) (Some (n 1 96 (codes "d"))) (at 1 98) (range_nodes [])) ∷ []))) ops.Equal (at 1 102) (whole (at 1 104) 1))))) ∷ []))) ∷ (local_item (syn_modes (at 1 108) ((modedef (n 1 116 (codes "d")) (w.base_mode (w.powerset (at 1 120) (w.bounded (n 1 129 (codes "INT")) (whole (at 1 134) 0) (whole (at 1 136) 7))))) ∷ []))) ∷ []) None (Some (n 1 144 (codes "m")))) ∷ [])

broken_8-ground : IsGroundOf broken_8 (ground_of broken_8)
broken_8-ground = record { names = refl; entries = refl }

broken_8-modes : broken_modes (ground_of broken_8) broken_8 ≡ (told rules.M11 1 31 ∷ told rules.M11 1 62 ∷ told rules.M11 1 92 ∷ [])
broken_8-modes = refl

-- what isn't constant raises its exception when it runs, and what a location takes isn't asked
--   m: MODULE DCL x INT (0:7) := 9; x := x / 0; x := x MOD 0; PUT_INT(x + 2147483647); x := -x - 2147483647; x := 300; END m;
abbrev near_1 : ProgramTree
near_1 = program ((modul (n 1 1 (codes "m")) modulions.Module ((local_item (locations (at 1 11) ((decl ((n 1 15 (codes "x")) ∷ []) (w.base_mode (w.discrete (w.bounded (n 1 17 (codes "INT")) (whole (at 1 22) 0) (whole (at 1 24) 7)))) (Some (init (at 1 27) false (whole (at 1 30) 9)))) ∷ []))) ∷ (action (simple (at 1 33) (assign (at 1 33) (name (n 1 33 (codes "x"))) (binary (at 1 38) (name (n 1 38 (codes "x"))) ops.Divide (at 1 40) (whole (at 1 42) 0))) (handler_node None))) ∷ (action (simple (at 1 45) (assign (at 1 45) (name (n 1 45 (codes "x"))) (binary (at 1 50) (name (n 1 50 (codes "x"))) ops.Mod (at 1 52) (whole (at 1 56) 0))) (handler_node None))) ∷ (action (simple (at 1 59) (call_of (at 1 59) false (n 1 59 (codes "PUT_INT")) ((binary (at 1 67) (name (n 1 67 (codes "x"))) ops.Plus (at 1 69) (whole (at 1 71) 2147483647)) ∷ [])) (handler_node None))) ∷ (action (simple (at 1 84) (assign (at 1 84) (name (n 1 84 (codes "x"))) (binary (at 1 89) (prefixed (at 1 89) prefixes.Minus (name (n 1 90 (codes "x")))) ops.Minus (at 1 92) (whole (at 1 94) 2147483647))) (handler_node None))) ∷ (action (simple (at 1 106) (assign (at 1 106) (name (n 1 106 (codes "x"))) (whole (at 1 111) 300)) (handler_node None))) ∷ []) None (Some (n 1 120 (codes "m")))) ∷ [])

near_1-ground : IsGroundOf near_1 (ground_of near_1)
near_1-ground = record { names = refl; entries = refl }

near_1-modes : broken_modes (ground_of near_1) near_1 ≡ []
near_1-modes = refl

near_1-counted : IsStatementGroundOf near_1 (counted_ground_of near_1)
near_1-counted = record { names = refl; entries = refl }

near_1-statements : broken_statements (counted_ground_of near_1) near_1 ≡ []
near_1-statements = refl

near_1-processes : broken_processes (counted_ground_of near_1) near_1 ≡ []
near_1-processes = refl

-- the limits of INT
--   m: MODULE SYN a = 2147483646 + 1; SYN b = -2147483647 - 1; SYN c = -65536 * 32768; SYN d = -(-2147483647); SYN e = -2147483648 / 1; SYN f = -2147483648 REM -1; END m;
abbrev near_2 : ProgramTree
near_2 = program ((modul (n 1 1 (codes "m")) modulions.Module ((local_item (synonyms (at 1 11) ((syn ((n 1 15 (codes "a")) ∷ []) None (binary (at 1 19) (whole (at 1 19) 2147483646) ops.Plus (at 1 30) (whole (at 1 32) 1))) ∷ []))) ∷ (local_item (synonyms (at 1 35) ((syn ((n 1 39 (codes "b")) ∷ []) None (binary (at 1 43) (prefixed (at 1 43) prefixes.Minus (whole (at 1 44) 2147483647)) ops.Minus (at 1 55) (whole (at 1 57) 1))) ∷ []))) ∷ (local_item (synonyms (at 1 60) ((syn ((n 1 64 (codes "c")) ∷ []) None (binary (at 1 68) (prefixed (at 1 68) prefixes.Minus (whole (at 1 69) 65536)) ops.Times (at 1 75) (whole (at 1 77) 32768))) ∷ []))) ∷ (local_item (synonyms (at 1 84) ((syn ((n 1 88 (codes "d")) ∷ []) None (prefixed (at 1 92) prefixes.Minus (paren (at 1 93) (prefixed (at 1 94) prefixes.Minus (whole (at 1 95) 2147483647))))) ∷ []))) ∷ (local_item (synonyms (at 1 108) ((syn ((n 1 112 (codes "e")) ∷ []) None (binary (at 1 116) (prefixed (at 1 116) prefixes.Minus (whole (at 1 117) 2147483648)) ops.Divide (at 1 128) (whole (at 1 130) 1))) ∷ []))) ∷ (local_item (synonyms (at 1 133) ((syn ((n 1 137 (codes "f")) ∷ []) None (binary (at 1 141) (prefixed (at 1 141) prefixes.Minus (whole (at 1 142) 2147483648)) ops.Rem (at 1 153) (prefixed (at 1 157) prefixes.Minus (whole (at 1 158) 1)))) ∷ []))) ∷ []) None (Some (n 1 165 (codes "m")))) ∷ [])

near_2-ground : IsGroundOf near_2 (ground_of near_2)
near_2-ground = record { names = refl; entries = refl }

near_2-modes : broken_modes (ground_of near_2) near_2 ≡ []
near_2-modes = refl

near_2-counted : IsStatementGroundOf near_2 (counted_ground_of near_2)
near_2-counted = record { names = refl; entries = refl }

near_2-statements : broken_statements (counted_ground_of near_2) near_2 ≡ []
near_2-statements = refl

near_2-processes : broken_processes (counted_ground_of near_2) near_2 ≡ []
near_2-processes = refl
