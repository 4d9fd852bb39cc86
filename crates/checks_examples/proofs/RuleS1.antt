-- Rule S1: texts that break it, and texts that nearly do.
use Rattle.std.proofs.Common.{◌≡◌, refl}
use Rattle.std.specs.Prelude.{false, [], ◌∷◌, Some, None, codes}
use Rattle.chill_tree.specs.declared.tree.expr.Operator.TheVariants as ops
use Rattle.chill_tree.specs.declared.tree.expr.Prefix.TheVariants as prefixes
use Rattle.chill_tree.specs.declared.tree.item.ModulionKind.TheVariants as modulions
use Rattle.chill_tree.specs.ExprTree.{whole, character, text, tuple, name, prefixed, binary, range_nodes}
use Rattle.chill_tree.specs.ModeTree as w
use Rattle.chill_tree.specs.LocalTree.{syn_modes, new_modes, locations}
use Rattle.chill_tree.specs.SimpleTree.{assign, call_of}
use Rattle.chill_tree.specs.StatementTree.{simple, handler_node}
use Rattle.chill_tree.specs.ItemTree.{ProgramTree, local_item, action}
use Rattle.diagnostics.specs.declared.rule.Rule.TheVariants as rules
use Rattle.checks_model.specs.Table.{IsGroundOf, IsStatementGroundOf}
use Rattle.checks_model.specs.Phases.{broken_modes, broken_statements, broken_processes}
use Rattle.checks_examples.proofs.Programs.{at, n, modedef, decl, modul, program, ground_of, counted_ground_of, told}

-- one operand
--   m: MODULE DCL x INT, b BOOL, t CHARS (2); x := -b; b := NOT x; x := -t; b := NOT t; END m;
abbrev broken_1 : ProgramTree
broken_1 = program ((modul (n 1 1 (codes "m")) modulions.Module ((local_item (locations (at 1 11) ((decl ((n 1 15 (codes "x")) ∷ []) (w.base_mode (w.discrete (w.named (n 1 17 (codes "INT"))))) None) ∷ (decl ((n 1 22 (codes "b")) ∷ []) (w.base_mode (w.discrete (w.named (n 1 24 (codes "BOOL"))))) None) ∷ (decl ((n 1 30 (codes "t")) ∷ []) (w.base_mode (w.chars (at 1 32) (whole (at 1 39) 2))) None) ∷ []))) ∷ (action (simple (at 1 43) (assign (at 1 43) (name (n 1 43 (codes "x"))) (prefixed (at 1 48) prefixes.Minus (name (n 1 49 (codes "b"))))) (handler_node None))) ∷ (action (simple (at 1 52) (assign (at 1 52) (name (n 1 52 (codes "b"))) (prefixed (at 1 57) prefixes.Not (name (n 1 61 (codes "x"))))) (handler_node None))) ∷ (action (simple (at 1 64) (assign (at 1 64) (name (n 1 64 (codes "x"))) (prefixed (at 1 69) prefixes.Minus (name (n 1 70 (codes "t"))))) (handler_node None))) ∷ (action (simple (at 1 73) (assign (at 1 73) (name (n 1 73 (codes "b"))) (prefixed (at 1 78) prefixes.Not (name (n 1 82 (codes "t"))))) (handler_node None))) ∷ []) None (Some (n 1 89 (codes "m")))) ∷ [])

broken_1-ground : IsGroundOf broken_1 (ground_of broken_1)
broken_1-ground = record { names = refl; entries = refl }

broken_1-modes : broken_modes (ground_of broken_1) broken_1 ≡ []
broken_1-modes = refl

broken_1-counted : IsStatementGroundOf broken_1 (counted_ground_of broken_1)
broken_1-counted = record { names = refl; entries = refl }

broken_1-statements : broken_statements (counted_ground_of broken_1) broken_1 ≡ (told rules.S1 1 48 ∷ told rules.S1 1 57 ∷ told rules.S1 1 69 ∷ told rules.S1 1 78 ∷ [])
broken_1-statements = refl

-- events and buffers aren't compared
--   m: MODULE DCL e, f EVENT, c BUFFER INT, b BOOL; b := e = f; b := c /= c; b := e = e; END m;
abbrev broken_2 : ProgramTree
broken_2 = program ((modul (n 1 1 (codes "m")) modulions.Module ((local_item (locations (at 1 11) ((decl ((n 1 15 (codes "e")) ∷ (n 1 18 (codes "f")) ∷ []) (w.event_mode (at 1 20) None) None) ∷ (decl ((n 1 27 (codes "c")) ∷ []) (w.buffer_mode (at 1 29) None (w.discrete (w.named (n 1 36 (codes "INT"))))) None) ∷ (decl ((n 1 41 (codes "b")) ∷ []) (w.base_mode (w.discrete (w.named (n 1 43 (codes "BOOL"))))) None) ∷ []))) ∷ (action (simple (at 1 49) (assign (at 1 49) (name (n 1 49 (codes "b"))) (binary (at 1 54) (name (n 1 54 (codes "e"))) ops.Equal (at 1 56) (name (n 1 58 (codes "f"))))) (handler_node None))) ∷ (action (simple (at 1 61) (assign (at 1 61) (name (n 1 61 (codes "b"))) (binary (at 1 66) (name (n 1 66 (codes "c"))) ops.NotEqual (at 1 68) (name (n 1 71 (codes "c"))))) (handler_node None))) ∷ (action (simple (at 1 74) (assign (at 1 74) (name (n 1 74 (codes "b"))) (binary (at 1 79) (name (n 1 79 (codes "e"))) ops.Equal (at 1 81) (name (n 1 83 (codes "e"))))) (handler_node None))) ∷ []) None (Some (n 1 90 (codes "m")))) ∷ [])

broken_2-ground : IsGroundOf broken_2 (ground_of broken_2)
broken_2-ground = record { names = refl; entries = refl }

broken_2-modes : broken_modes (ground_of broken_2) broken_2 ≡ []
broken_2-modes = refl

broken_2-counted : IsStatementGroundOf broken_2 (counted_ground_of broken_2)
broken_2-counted = record { names = refl; entries = refl }

broken_2-statements : broken_statements (counted_ground_of broken_2) broken_2 ≡ (told rules.S1 1 56 ∷ told rules.S1 1 68 ∷ told rules.S1 1 81 ∷ [])
broken_2-statements = refl

-- truth values
--   m: MODULE DCL x INT, b BOOL; b := b OR x; b := x AND b; b := x XOR x; b := b ORIF x; b := x ANDIF b; END m;
abbrev broken_3 : ProgramTree
broken_3 = program ((modul (n 1 1 (codes "m")) modulions.Module ((local_item (locations (at 1 11) ((decl ((n 1 15 (codes "x")) ∷ []) (w.base_mode (w.discrete (w.named (n 1 17 (codes "INT"))))) None) ∷ (decl ((n 1 22 (codes "b")) ∷ []) (w.base_mode (w.discrete (w.named (n 1 24 (codes "BOOL"))))) None) ∷ []))) ∷ (action (simple (at 1 30) (assign (at 1 30) (name (n 1 30 (codes "b"))) (binary (at 1 35) (name (n 1 35 (codes "b"))) ops.Or (at 1 37) (name (n 1 40 (codes "x"))))) (handler_node None))) ∷ (action (simple (at 1 43) (assign (at 1 43) (name (n 1 43 (codes "b"))) (binary (at 1 48) (name (n 1 48 (codes "x"))) ops.And (at 1 50) (name (n 1 54 (codes "b"))))) (handler_node None))) ∷ (action (simple (at 1 57) (assign (at 1 57) (name (n 1 57 (codes "b"))) (binary (at 1 62) (name (n 1 62 (codes "x"))) ops.Xor (at 1 64) (name (n 1 68 (codes "x"))))) (handler_node None))) ∷ (action (simple (at 1 71) (assign (at 1 71) (name (n 1 71 (codes "b"))) (binary (at 1 76) (name (n 1 76 (codes "b"))) ops.OrIf (at 1 78) (name (n 1 83 (codes "x"))))) (handler_node None))) ∷ (action (simple (at 1 86) (assign (at 1 86) (name (n 1 86 (codes "b"))) (binary (at 1 91) (name (n 1 91 (codes "x"))) ops.AndIf (at 1 93) (name (n 1 99 (codes "b"))))) (handler_node None))) ∷ []) None (Some (n 1 106 (codes "m")))) ∷ [])

broken_3-ground : IsGroundOf broken_3 (ground_of broken_3)
broken_3-ground = record { names = refl; entries = refl }

broken_3-modes : broken_modes (ground_of broken_3) broken_3 ≡ []
broken_3-modes = refl

broken_3-counted : IsStatementGroundOf broken_3 (counted_ground_of broken_3)
broken_3-counted = record { names = refl; entries = refl }

broken_3-statements : broken_statements (counted_ground_of broken_3) broken_3 ≡ (told rules.S1 1 37 ∷ told rules.S1 1 50 ∷ told rules.S1 1 64 ∷ told rules.S1 1 78 ∷ told rules.S1 1 93 ∷ [])
broken_3-statements = refl

-- arithmetic
--   m: MODULE DCL x INT, b BOOL, c CHAR; x := x + b; x := b - x; x := x * c; x := c / x; x := x MOD b; x := b REM x; END m;
abbrev broken_4 : ProgramTree
broken_4 = program ((modul (n 1 1 (codes "m")) modulions.Module ((local_item (locations (at 1 11) ((decl ((n 1 15 (codes "x")) ∷ []) (w.base_mode (w.discrete (w.named (n 1 17 (codes "INT"))))) None) ∷ (decl ((n 1 22 (codes "b")) ∷ []) (w.base_mode (w.discrete (w.named (n 1 24 (codes "BOOL"))))) None) ∷ (decl ((n 1 30 (codes "c")) ∷ []) (w.base_mode (w.discrete (w.named (n 1 32 (codes "CHAR"))))) None) ∷ []))) ∷ (action (simple (at 1 38) (assign (at 1 38) (name (n 1 38 (codes "x"))) (binary (at 1 43) (name (n 1 43 (codes "x"))) ops.Plus (at 1 45) (name (n 1 47 (codes "b"))))) (handler_node None))) ∷ (action (simple (at 1 50) (assign (at 1 50) (name (n 1 50 (codes "x"))) (binary (at 1 55) (name (n 1 55 (codes "b"))) ops.Minus (at 1 57) (name (n 1 59 (codes "x"))))) (handler_node None))) ∷ (action (simple (at 1 62) (assign (at 1 62) (name (n 1 62 (codes "x"))) (binary (at 1 67) (name (n 1 67 (codes "x"))) ops.Times (at 1 69) (name (n 1 71 (codes "c"))))) (handler_node None))) ∷ (action (simple (at 1 74) (assign (at 1 74) (name (n 1 74 (codes "x"))) (binary (at 1 79) (name (n 1 79 (codes "c"))) ops.Divide (at 1 81) (name (n 1 83 (codes "x"))))) (handler_node None))) ∷ (action (simple (at 1 86) (assign (at 1 86) (name (n 1 86 (codes "x"))) (binary (at 1 91) (name (n 1 91 (codes "x"))) ops.Mod (at 1 93) (name (n 1 97 (codes "b"))))) (handler_node None))) ∷ (action (simple (at 1 100) (assign (at 1 100) (name (n 1 100 (codes "x"))) (binary (at 1 105) (name (n 1 105 (codes "b"))) ops.Rem (at 1 107) (name (n 1 111 (codes "x"))))) (handler_node None))) ∷ []) None (Some (n 1 118 (codes "m")))) ∷ [])

broken_4-ground : IsGroundOf broken_4 (ground_of broken_4)
broken_4-ground = record { names = refl; entries = refl }

broken_4-modes : broken_modes (ground_of broken_4) broken_4 ≡ []
broken_4-modes = refl

broken_4-counted : IsStatementGroundOf broken_4 (counted_ground_of broken_4)
broken_4-counted = record { names = refl; entries = refl }

broken_4-statements : broken_statements (counted_ground_of broken_4) broken_4 ≡ (told rules.S1 1 45 ∷ told rules.S1 1 57 ∷ told rules.S1 1 69 ∷ told rules.S1 1 81 ∷ told rules.S1 1 93 ∷ told rules.S1 1 107 ∷ [])
broken_4-statements = refl

-- comparisons
--   m: MODULE DCL x INT, b BOOL, t CHARS (2), u CHARS (3), i INSTANCE; b := x = b; b := t /= u; b := t < u; b := i < i; b := x >= b; END m;
abbrev broken_5 : ProgramTree
broken_5 = program ((modul (n 1 1 (codes "m")) modulions.Module ((local_item (locations (at 1 11) ((decl ((n 1 15 (codes "x")) ∷ []) (w.base_mode (w.discrete (w.named (n 1 17 (codes "INT"))))) None) ∷ (decl ((n 1 22 (codes "b")) ∷ []) (w.base_mode (w.discrete (w.named (n 1 24 (codes "BOOL"))))) None) ∷ (decl ((n 1 30 (codes "t")) ∷ []) (w.base_mode (w.chars (at 1 32) (whole (at 1 39) 2))) None) ∷ (decl ((n 1 43 (codes "u")) ∷ []) (w.base_mode (w.chars (at 1 45) (whole (at 1 52) 3))) None) ∷ (decl ((n 1 56 (codes "i")) ∷ []) (w.base_mode (w.discrete (w.named (n 1 58 (codes "INSTANCE"))))) None) ∷ []))) ∷ (action (simple (at 1 68) (assign (at 1 68) (name (n 1 68 (codes "b"))) (binary (at 1 73) (name (n 1 73 (codes "x"))) ops.Equal (at 1 75) (name (n 1 77 (codes "b"))))) (handler_node None))) ∷ (action (simple (at 1 80) (assign (at 1 80) (name (n 1 80 (codes "b"))) (binary (at 1 85) (name (n 1 85 (codes "t"))) ops.NotEqual (at 1 87) (name (n 1 90 (codes "u"))))) (handler_node None))) ∷ (action (simple (at 1 93) (assign (at 1 93) (name (n 1 93 (codes "b"))) (binary (at 1 98) (name (n 1 98 (codes "t"))) ops.Less (at 1 100) (name (n 1 102 (codes "u"))))) (handler_node None))) ∷ (action (simple (at 1 105) (assign (at 1 105) (name (n 1 105 (codes "b"))) (binary (at 1 110) (name (n 1 110 (codes "i"))) ops.Less (at 1 112) (name (n 1 114 (codes "i"))))) (handler_node None))) ∷ (action (simple (at 1 117) (assign (at 1 117) (name (n 1 117 (codes "b"))) (binary (at 1 122) (name (n 1 122 (codes "x"))) ops.GreaterOrEqual (at 1 124) (name (n 1 127 (codes "b"))))) (handler_node None))) ∷ []) None (Some (n 1 134 (codes "m")))) ∷ [])

broken_5-ground : IsGroundOf broken_5 (ground_of broken_5)
broken_5-ground = record { names = refl; entries = refl }

broken_5-modes : broken_modes (ground_of broken_5) broken_5 ≡ []
broken_5-modes = refl

broken_5-counted : IsStatementGroundOf broken_5 (counted_ground_of broken_5)
broken_5-counted = record { names = refl; entries = refl }

broken_5-statements : broken_statements (counted_ground_of broken_5) broken_5 ≡ (told rules.S1 1 75 ∷ told rules.S1 1 87 ∷ told rules.S1 1 100 ∷ told rules.S1 1 112 ∷ told rules.S1 1 124 ∷ [])
broken_5-statements = refl

-- membership
--   m: MODULE DCL x INT, c CHAR, p POWERSET INT (0:7), b BOOL; b := c IN p; b := x IN x; b := p IN p; b := x IN p; END m;
abbrev broken_6 : ProgramTree
broken_6 = program ((modul (n 1 1 (codes "m")) modulions.Module ((local_item (locations (at 1 11) ((decl ((n 1 15 (codes "x")) ∷ []) (w.base_mode (w.discrete (w.named (n 1 17 (codes "INT"))))) None) ∷ (decl ((n 1 22 (codes "c")) ∷ []) (w.base_mode (w.discrete (w.named (n 1 24 (codes "CHAR"))))) None) ∷ (decl ((n 1 30 (codes "p")) ∷ []) (w.base_mode (w.powerset (at 1 32) (w.bounded (n 1 41 (codes "INT")) (whole (at 1 46) 0) (whole (at 1 48) 7)))) None) ∷ (decl ((n 1 52 (codes "b")) ∷ []) (w.base_mode (w.discrete (w.named (n 1 54 (codes "BOOL"))))) None) ∷ []))) ∷ (action (simple (at 1 60) (assign (at 1 60) (name (n 1 60 (codes "b"))) (binary (at 1 65) (name (n 1 65 (codes "c"))) ops.In (at 1 67) (name (n 1 70 (codes "p"))))) (handler_node None))) ∷ (action (simple (at 1 73) (assign (at 1 73) (name (n 1 73 (codes "b"))) (binary (at 1 78) (name (n 1 78 (codes "x"))) ops.In (at 1 80) (name (n 1 83 (codes "x"))))) (handler_node None))) ∷ (action (simple (at 1 86) (assign (at 1 86) (name (n 1 86 (codes "b"))) (binary (at 1 91) (name (n 1 91 (codes "p"))) ops.In (at 1 93) (name (n 1 96 (codes "p"))))) (handler_node None))) ∷ (action (simple (at 1 99) (assign (at 1 99) (name (n 1 99 (codes "b"))) (binary (at 1 104) (name (n 1 104 (codes "x"))) ops.In (at 1 106) (name (n 1 109 (codes "p"))))) (handler_node None))) ∷ []) None (Some (n 1 116 (codes "m")))) ∷ [])

broken_6-ground : IsGroundOf broken_6 (ground_of broken_6)
broken_6-ground = record { names = refl; entries = refl }

broken_6-modes : broken_modes (ground_of broken_6) broken_6 ≡ []
broken_6-modes = refl

broken_6-counted : IsStatementGroundOf broken_6 (counted_ground_of broken_6)
broken_6-counted = record { names = refl; entries = refl }

broken_6-statements : broken_statements (counted_ground_of broken_6) broken_6 ≡ (told rules.S1 1 67 ∷ told rules.S1 1 80 ∷ told rules.S1 1 93 ∷ [])
broken_6-statements = refl

-- values of different novelties
--   m: MODULE NEWMODE o = INT; NEWMODE u = INT; DCL x INT, y o, z u, b BOOL; x := x + y; y := y * z; b := x = z; y := y + 1; END m;
abbrev broken_7 : ProgramTree
broken_7 = program ((modul (n 1 1 (codes "m")) modulions.Module ((local_item (new_modes (at 1 11) ((modedef (n 1 19 (codes "o")) (w.base_mode (w.discrete (w.named (n 1 23 (codes "INT")))))) ∷ []))) ∷ (local_item (new_modes (at 1 28) ((modedef (n 1 36 (codes "u")) (w.base_mode (w.discrete (w.named (n 1 40 (codes "INT")))))) ∷ []))) ∷ (local_item (locations (at 1 45) ((decl ((n 1 49 (codes "x")) ∷ []) (w.base_mode (w.discrete (w.named (n 1 51 (codes "INT"))))) None) ∷ (decl ((n 1 56 (codes "y")) ∷ []) (w.base_mode (w.discrete (w.named (n 1 58 (codes "o"))))) None) ∷ (decl ((n 1 61 (codes "z")) ∷ []) (w.base_mode (w.discrete (w.named (n 1 63 (codes "u"))))) None) ∷ (decl ((n 1 66 (codes "b")) ∷ []) (w.base_mode (w.discrete (w.named (n 1 68 (codes "BOOL"))))) None) ∷ []))) ∷ (action (simple (at 1 74) (assign (at 1 74) (name (n 1 74 (codes "x"))) (binary (at 1 79) (name (n 1 79 (codes "x"))) ops.Plus (at 1 81) (name (n 1 83 (codes "y"))))) (handler_node None))) ∷ (action (simple (at 1 86) (assign (at 1 86) (name (n 1 86 (codes "y"))) (binary (at 1 91) (name (n 1 91 (codes "y"))) ops.Times (at 1 93) (name (n 1 95 (codes "z"))))) (handler_node None))) ∷ (action (simple (at 1 98) (assign (at 1 98) (name (n 1 98 (codes "b"))) (binary (at 1 103) (name (n 1 103 (codes "x"))) ops.Equal (at 1 105) (name (n 1 107 (codes "z"))))) (handler_node None))) ∷ (action (simple (at 1 110) (assign (at 1 110) (name (n 1 110 (codes "y"))) (binary (at 1 115) (name (n 1 115 (codes "y"))) ops.Plus (at 1 117) (whole (at 1 119) 1))) (handler_node None))) ∷ []) None (Some (n 1 126 (codes "m")))) ∷ [])

broken_7-ground : IsGroundOf broken_7 (ground_of broken_7)
broken_7-ground = record { names = refl; entries = refl }

broken_7-modes : broken_modes (ground_of broken_7) broken_7 ≡ []
broken_7-modes = refl

broken_7-counted : IsStatementGroundOf broken_7 (counted_ground_of broken_7)
broken_7-counted = record { names = refl; entries = refl }

broken_7-statements : broken_statements (counted_ground_of broken_7) broken_7 ≡ (told rules.S1 1 81 ∷ told rules.S1 1 93 ∷ told rules.S1 1 105 ∷ [])
broken_7-statements = refl

-- routines of output
--   m: MODULE DCL x INT, t CHARS (2), b BOOL, c CHAR; PUT_INT(b); PUT_INT("1"); PUT_TEXT(x); PUT_TEXT(c); PUT_TEXT('a'); PUT_INT(x); PUT_TEXT(t); END m;
abbrev broken_8 : ProgramTree
broken_8 = program ((modul (n 1 1 (codes "m")) modulions.Module ((local_item (locations (at 1 11) ((decl ((n 1 15 (codes "x")) ∷ []) (w.base_mode (w.discrete (w.named (n 1 17 (codes "INT"))))) None) ∷ (decl ((n 1 22 (codes "t")) ∷ []) (w.base_mode (w.chars (at 1 24) (whole (at 1 31) 2))) None) ∷ (decl ((n 1 35 (codes "b")) ∷ []) (w.base_mode (w.discrete (w.named (n 1 37 (codes "BOOL"))))) None) ∷ (decl ((n 1 43 (codes "c")) ∷ []) (w.base_mode (w.discrete (w.named (n 1 45 (codes "CHAR"))))) None) ∷ []))) ∷ (action (simple (at 1 51) (call_of (at 1 51) false (n 1 51 (codes "PUT_INT")) ((name (n 1 59 (codes "b"))) ∷ [])) (handler_node None))) ∷ (action (simple (at 1 63) (call_of (at 1 63) false (n 1 63 (codes "PUT_INT")) ((text (at 1 71) (49 ∷ [])) ∷ [])) (handler_node None))) ∷ (action (simple (at 1 77) (call_of (at 1 77) false (n 1 77 (codes "PUT_TEXT")) ((name (n 1 86 (codes "x"))) ∷ [])) (handler_node None))) ∷ (action (simple (at 1 90) (call_of (at 1 90) false (n 1 90 (codes "PUT_TEXT")) ((name (n 1 99 (codes "c"))) ∷ [])) (handler_node None))) ∷ (action (simple (at 1 103) (call_of (at 1 103) false (n 1 103 (codes "PUT_TEXT")) ((character (at 1 112) 97) ∷ [])) (handler_node None))) ∷ (action (simple (at 1 118) (call_of (at 1 118) false (n 1 118 (codes "PUT_INT")) ((name (n 1 126 (codes "x"))) ∷ [])) (handler_node None))) ∷ (action (simple (at 1 130) (call_of (at 1 130) false (n 1 130 (codes "PUT_TEXT")) ((name (n 1 139 (codes "t"))) ∷ [])) (handler_node None))) ∷ []) None (Some (n 1 147 (codes "m")))) ∷ [])

broken_8-ground : IsGroundOf broken_8 (ground_of broken_8)
broken_8-ground = record { names = refl; entries = refl }

broken_8-modes : broken_modes (ground_of broken_8) broken_8 ≡ []
broken_8-modes = refl

broken_8-counted : IsStatementGroundOf broken_8 (counted_ground_of broken_8)
broken_8-counted = record { names = refl; entries = refl }

broken_8-statements : broken_statements (counted_ground_of broken_8) broken_8 ≡ (told rules.S1 1 51 ∷ told rules.S1 1 63 ∷ told rules.S1 1 77 ∷ told rules.S1 1 90 ∷ told rules.S1 1 103 ∷ [])
broken_8-statements = refl

-- the operands of a comparison receive no mode for a tuple
--   m: MODULE DCL p POWERSET INT (0:7), b BOOL; b := p <= []; SYNMODE q = POWERSET INT (0:7); b := p <= q []; END m;
abbrev near_1 : ProgramTree
near_1 = program ((modul (n 1 1 (codes "m")) modulions.Module ((local_item (locations (at 1 11) ((decl ((n 1 15 (codes "p")) ∷ []) (w.base_mode (w.powerset (at 1 17) (w.bounded (n 1 26 (codes "INT")) (whole (at 1 31) 0) (whole (at 1 33) 7)))) None) ∷ (decl ((n 1 37 (codes "b")) ∷ []) (w.base_mode (w.discrete (w.named (n 1 39 (codes "BOOL"))))) None) ∷ []))) ∷ (action (simple (at 1 45) (assign (at 1 45) (name (n 1 45 (codes "b"))) (binary (at 1 50) (name (n 1 50 (codes "p"))) ops.LessOrEqual (at 1 52) (tuple (at 1 55) None (at 1 55) (range_nodes [])))) (handler_node None))) ∷ (local_item (syn_modes (at 1 59) ((modedef (n 1 67 (codes "q")) (w.base_mode (w.powerset (at 1 71) (w.bounded (n 1 80 (codes "INT")) (whole (at 1 85) 0) (whole (at 1 87) 7))))) ∷ []))) ∷ (action (simple (at 1 91) (assign (at 1 91) (name (n 1 91 (codes "b"))) (binary (at 1 96) (name (n 1 96 (codes "p"))) ops.LessOrEqual (at 1 98) (tuple (at 1 101) (Some (n 1 101 (codes "q"))) (at 1 103) (range_nodes [])))) (handler_node None))) ∷ []) None (Some (n 1 111 (codes "m")))) ∷ [])

near_1-ground : IsGroundOf near_1 (ground_of near_1)
near_1-ground = record { names = refl; entries = refl }

near_1-modes : broken_modes (ground_of near_1) near_1 ≡ []
near_1-modes = refl

near_1-counted : IsStatementGroundOf near_1 (counted_ground_of near_1)
near_1-counted = record { names = refl; entries = refl }

near_1-statements : broken_statements (counted_ground_of near_1) near_1 ≡ (told rules.S11 1 55 ∷ [])
near_1-statements = refl

-- what fits
--   m: MODULE NEWMODE o = INT (0:7); DCL x INT (0:9), y INT, z o, b BOOL, t CHARS (2), p POWERSET INT (0:7), i INSTANCE; y := x + y; z := z + 1 - z; b := t < "ab"; b := p <= p; END m;
abbrev near_2 : ProgramTree
near_2 = program ((modul (n 1 1 (codes "m")) modulions.Module ((local_item (new_modes (at 1 11) ((modedef (n 1 19 (codes "o")) (w.base_mode (w.discrete (w.bounded (n 1 23 (codes "INT")) (whole (at 1 28) 0) (whole (at 1 30) 7))))) ∷ []))) ∷ (local_item (locations (at 1 34) ((decl ((n 1 38 (codes "x")) ∷ []) (w.base_mode (w.discrete (w.bounded (n 1 40 (codes "INT")) (whole (at 1 45) 0) (whole (at 1 47) 9)))) None) ∷ (decl ((n 1 51 (codes "y")) ∷ []) (w.base_mode (w.discrete (w.named (n 1 53 (codes "INT"))))) None) ∷ (decl ((n 1 58 (codes "z")) ∷ []) (w.base_mode (w.discrete (w.named (n 1 60 (codes "o"))))) None) ∷ (decl ((n 1 63 (codes "b")) ∷ []) (w.base_mode (w.discrete (w.named (n 1 65 (codes "BOOL"))))) None) ∷ (decl ((n 1 71 (codes "t")) ∷ []) (w.base_mode (w.chars (at 1 73) (whole (at 1 80) 2))) None) ∷ (decl ((n 1 84 (codes "p")) ∷ []) (w.base_mode (w.powerset (at 1 86) (w.bounded (n 1 95 (codes "INT")) (whole (at 1 100) 0) (whole (at 1 102) 7)))) None) ∷ (decl ((n 1 106 (codes "i")) ∷ []) (w.base_mode (w.discrete (w.named (n 1 108 (codes "INSTANCE"))))) None) ∷ []))) ∷ (action (simple (at 1 118) (assign (at 1 118) (name (n 1 118 (codes "y"))) (binary (at 1 123) (name (n 1 123 (codes "x"))) ops.Plus (at 1 125) (name (n 1 127 (codes "y"))))) (handler_node None))) ∷ (action (simple (at 1 130) (assign (at 1 130) (name (n 1 130 (codes "z"))) (binary (at 1 135) (binary (at 1 135) (name (n 1 135 (codes "z"))) ops.Plus (at 1 137) (whole (at 1 139) 1)) ops.Minus (at 1 141) (name (n 1 143 (codes "z"))))) (handler_node None))) ∷ (action (simple (at 1 146) (assign (at 1 146) (name (n 1 146 (codes "b"))) (binary (at 1 151) (name (n 1 151 (codes "t"))) ops.Less (at 1 153) (text (at 1 155) (97 ∷ 98 ∷ [])))) (handler_node None))) ∷ (action (simple (at 1 161) (assign (at 1 161) (name (n 1 161 (codes "b"))) (binary (at 1 166) (name (n 1 166 (codes "p"))) ops.LessOrEqual (at 1 168) (name (n 1 171 (codes "p"))))) (handler_node None))) ∷ []) None (Some (n 1 178 (codes "m")))) ∷ [])

near_2-ground : IsGroundOf near_2 (ground_of near_2)
near_2-ground = record { names = refl; entries = refl }

near_2-modes : broken_modes (ground_of near_2) near_2 ≡ []
near_2-modes = refl

near_2-counted : IsStatementGroundOf near_2 (counted_ground_of near_2)
near_2-counted = record { names = refl; entries = refl }

near_2-statements : broken_statements (counted_ground_of near_2) near_2 ≡ []
near_2-statements = refl

near_2-processes : broken_processes (counted_ground_of near_2) near_2 ≡ []
near_2-processes = refl
