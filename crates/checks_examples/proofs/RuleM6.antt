-- Rule M6: texts that break it, and texts that nearly do.
use Rattle.std.proofs.Common.{◌≡◌, refl}
use Rattle.std.specs.Prelude.{[], ◌∷◌, Some, None, codes}
use Rattle.chill_tree.specs.declared.tree.expr.Operator.TheVariants as ops
use Rattle.chill_tree.specs.declared.tree.expr.Prefix.TheVariants as prefixes
use Rattle.chill_tree.specs.declared.tree.item.ModulionKind.TheVariants as modulions
use Rattle.chill_tree.specs.ExprTree.{whole, character, text, paren, name, prefixed, binary}
use Rattle.chill_tree.specs.ModeTree as w
use Rattle.chill_tree.specs.LocalTree.{synonyms, syn_modes, new_modes, locations}
use Rattle.chill_tree.specs.ItemTree.{ProgramTree, local_item}
use Rattle.diagnostics.specs.declared.rule.Rule.TheVariants as rules
use Rattle.checks_model.specs.Table.{IsGroundOf, IsStatementGroundOf}
use Rattle.checks_model.specs.Phases.{broken_modes, broken_statements, broken_processes}
use Rattle.checks_examples.proofs.Programs.{at, n, syn, modedef, decl, modul, program, ground_of, counted_ground_of, told}

-- of a text
--   m: MODULE DCL t CHARS (257), u CHARS (-1); END m;
abbrev broken_1 : ProgramTree
broken_1 = program ((modul (n 1 1 (codes "m")) modulions.Module ((local_item (locations (at 1 11) ((decl ((n 1 15 (codes "t")) ∷ []) (w.base_mode (w.chars (at 1 17) (whole (at 1 24) 257))) None) ∷ (decl ((n 1 30 (codes "u")) ∷ []) (w.base_mode (w.chars (at 1 32) (prefixed (at 1 39) prefixes.Minus (whole (at 1 40) 1)))) None) ∷ []))) ∷ []) None (Some (n 1 48 (codes "m")))) ∷ [])

broken_1-ground : IsGroundOf broken_1 (ground_of broken_1)
broken_1-ground = record { names = refl; entries = refl }

broken_1-modes : broken_modes (ground_of broken_1) broken_1 ≡ (told rules.M6 1 24 ∷ told rules.M6 1 39 ∷ [])
broken_1-modes = refl

-- of an event
--   m: MODULE DCL e EVENT (0), f EVENT (1001); END m;
abbrev broken_2 : ProgramTree
broken_2 = program ((modul (n 1 1 (codes "m")) modulions.Module ((local_item (locations (at 1 11) ((decl ((n 1 15 (codes "e")) ∷ []) (w.event_mode (at 1 17) (Some (whole (at 1 24) 0))) None) ∷ (decl ((n 1 28 (codes "f")) ∷ []) (w.event_mode (at 1 30) (Some (whole (at 1 37) 1001))) None) ∷ []))) ∷ []) None (Some (n 1 48 (codes "m")))) ∷ [])

broken_2-ground : IsGroundOf broken_2 (ground_of broken_2)
broken_2-ground = record { names = refl; entries = refl }

broken_2-modes : broken_modes (ground_of broken_2) broken_2 ≡ (told rules.M6 1 24 ∷ told rules.M6 1 37 ∷ [])
broken_2-modes = refl

-- of a buffer
--   m: MODULE DCL b BUFFER (-1) INT, c BUFFER (1001) INT; END m;
abbrev broken_3 : ProgramTree
broken_3 = program ((modul (n 1 1 (codes "m")) modulions.Module ((local_item (locations (at 1 11) ((decl ((n 1 15 (codes "b")) ∷ []) (w.buffer_mode (at 1 17) (Some (prefixed (at 1 25) prefixes.Minus (whole (at 1 26) 1))) (w.discrete (w.named (n 1 29 (codes "INT"))))) None) ∷ (decl ((n 1 34 (codes "c")) ∷ []) (w.buffer_mode (at 1 36) (Some (whole (at 1 44) 1001)) (w.discrete (w.named (n 1 50 (codes "INT"))))) None) ∷ []))) ∷ []) None (Some (n 1 59 (codes "m")))) ∷ [])

broken_3-ground : IsGroundOf broken_3 (ground_of broken_3)
broken_3-ground = record { names = refl; entries = refl }

broken_3-modes : broken_modes (ground_of broken_3) broken_3 ≡ (told rules.M6 1 25 ∷ told rules.M6 1 44 ∷ [])
broken_3-modes = refl

-- of an array, at the first token of its index
--   m: MODULE DCL a ARRAY (1:4097) BOOL; DCL b ARRAY (-2147483648:2147483647) BOOL; END m;
abbrev broken_4 : ProgramTree
broken_4 = program ((modul (n 1 1 (codes "m")) modulions.Module ((local_item (locations (at 1 11) ((decl ((n 1 15 (codes "a")) ∷ []) (w.base_mode (w.array (at 1 17) (w.index_bounded (whole (at 1 24) 1) (whole (at 1 26) 4097)) (w.discrete (w.named (n 1 32 (codes "BOOL")))) None)) None) ∷ []))) ∷ (local_item (locations (at 1 38) ((decl ((n 1 42 (codes "b")) ∷ []) (w.base_mode (w.array (at 1 44) (w.index_bounded (prefixed (at 1 51) prefixes.Minus (whole (at 1 52) 2147483648)) (whole (at 1 63) 2147483647)) (w.discrete (w.named (n 1 75 (codes "BOOL")))) None)) None) ∷ []))) ∷ []) None (Some (n 1 85 (codes "m")))) ∷ [])

broken_4-ground : IsGroundOf broken_4 (ground_of broken_4)
broken_4-ground = record { names = refl; entries = refl }

broken_4-modes : broken_modes (ground_of broken_4) broken_4 ≡ (told rules.M6 1 24 ∷ told rules.M6 1 51 ∷ [])
broken_4-modes = refl

-- of an array by an index mode
--   m: MODULE SYNMODE o = INT (0:9999); DCL a ARRAY (o) BOOL; DCL b ARRAY (INT) BOOL; END m;
abbrev broken_5 : ProgramTree
broken_5 = program ((modul (n 1 1 (codes "m")) modulions.Module ((local_item (syn_modes (at 1 11) ((modedef (n 1 19 (codes "o")) (w.base_mode (w.discrete (w.bounded (n 1 23 (codes "INT")) (whole (at 1 28) 0) (whole (at 1 30) 9999))))) ∷ []))) ∷ (local_item (locations (at 1 37) ((decl ((n 1 41 (codes "a")) ∷ []) (w.base_mode (w.array (at 1 43) (w.index_named (n 1 50 (codes "o"))) (w.discrete (w.named (n 1 53 (codes "BOOL")))) None)) None) ∷ []))) ∷ (local_item (locations (at 1 59) ((decl ((n 1 63 (codes "b")) ∷ []) (w.base_mode (w.array (at 1 65) (w.index_named (n 1 72 (codes "INT"))) (w.discrete (w.named (n 1 77 (codes "BOOL")))) None)) None) ∷ []))) ∷ []) None (Some (n 1 87 (codes "m")))) ∷ [])

broken_5-ground : IsGroundOf broken_5 (ground_of broken_5)
broken_5-ground = record { names = refl; entries = refl }

broken_5-modes : broken_modes (ground_of broken_5) broken_5 ≡ (told rules.M6 1 50 ∷ told rules.M6 1 72 ∷ [])
broken_5-modes = refl

-- a length that doesn't go with INT
--   m: MODULE DCL t CHARS (TRUE), e EVENT ('a'), b BUFFER ("a") INT; END m;
abbrev broken_6 : ProgramTree
broken_6 = program ((modul (n 1 1 (codes "m")) modulions.Module ((local_item (locations (at 1 11) ((decl ((n 1 15 (codes "t")) ∷ []) (w.base_mode (w.chars (at 1 17) (name (n 1 24 (codes "TRUE"))))) None) ∷ (decl ((n 1 31 (codes "e")) ∷ []) (w.event_mode (at 1 33) (Some (character (at 1 40) 97))) None) ∷ (decl ((n 1 46 (codes "b")) ∷ []) (w.buffer_mode (at 1 48) (Some (text (at 1 56) (97 ∷ []))) (w.discrete (w.named (n 1 61 (codes "INT"))))) None) ∷ []))) ∷ []) None (Some (n 1 70 (codes "m")))) ∷ [])

broken_6-ground : IsGroundOf broken_6 (ground_of broken_6)
broken_6-ground = record { names = refl; entries = refl }

broken_6-modes : broken_modes (ground_of broken_6) broken_6 ≡ (told rules.M6 1 24 ∷ told rules.M6 1 40 ∷ told rules.M6 1 56 ∷ [])
broken_6-modes = refl

-- a length of another novelty
--   m: MODULE NEWMODE o = INT; SYN k o = 3; DCL t CHARS (k); END m;
abbrev broken_7 : ProgramTree
broken_7 = program ((modul (n 1 1 (codes "m")) modulions.Module ((local_item (new_modes (at 1 11) ((modedef (n 1 19 (codes "o")) (w.base_mode (w.discrete (w.named (n 1 23 (codes "INT")))))) ∷ []))) ∷ (local_item (synonyms (at 1 28) ((syn ((n 1 32 (codes "k")) ∷ []) (Some (w.base_mode (w.discrete (w.named (n 1 34 (codes "o")))))) (whole (at 1 38) 3)) ∷ []))) ∷ (local_item (locations (at 1 41) ((decl ((n 1 45 (codes "t")) ∷ []) (w.base_mode (w.chars (at 1 47) (name (n 1 54 (codes "k"))))) None) ∷ []))) ∷ []) None (Some (n 1 62 (codes "m")))) ∷ [])

broken_7-ground : IsGroundOf broken_7 (ground_of broken_7)
broken_7-ground = record { names = refl; entries = refl }

broken_7-modes : broken_modes (ground_of broken_7) broken_7 ≡ (told rules.M6 1 54 ∷ [])
broken_7-modes = refl

-- at the first token of the length
--   m: MODULE SYN n = 256; DCL t CHARS (n + 1); DCL u CHARS ((n) * 2); END m;
abbrev broken_8 : ProgramTree
broken_8 = program ((modul (n 1 1 (codes "m")) modulions.Module ((local_item (synonyms (at 1 11) ((syn ((n 1 15 (codes "n")) ∷ []) None (whole (at 1 19) 256)) ∷ []))) ∷ (local_item (locations (at 1 24) ((decl ((n 1 28 (codes "t")) ∷ []) (w.base_mode (w.chars (at 1 30) (binary (at 1 37) (name (n 1 37 (codes "n"))) ops.Plus (at 1 39) (whole (at 1 41) 1)))) None) ∷ []))) ∷ (local_item (locations (at 1 45) ((decl ((n 1 49 (codes "u")) ∷ []) (w.base_mode (w.chars (at 1 51) (binary (at 1 58) (paren (at 1 58) (name (n 1 59 (codes "n")))) ops.Times (at 1 62) (whole (at 1 64) 2)))) None) ∷ []))) ∷ []) None (Some (n 1 72 (codes "m")))) ∷ [])

broken_8-ground : IsGroundOf broken_8 (ground_of broken_8)
broken_8-ground = record { names = refl; entries = refl }

broken_8-modes : broken_modes (ground_of broken_8) broken_8 ≡ (told rules.M6 1 37 ∷ told rules.M6 1 58 ∷ [])
broken_8-modes = refl

-- an event and a buffer without a length
--   m: MODULE DCL e EVENT, b BUFFER INT; END m;
abbrev near_1 : ProgramTree
near_1 = program ((modul (n 1 1 (codes "m")) modulions.Module ((local_item (locations (at 1 11) ((decl ((n 1 15 (codes "e")) ∷ []) (w.event_mode (at 1 17) None) None) ∷ (decl ((n 1 24 (codes "b")) ∷ []) (w.buffer_mode (at 1 26) None (w.discrete (w.named (n 1 33 (codes "INT"))))) None) ∷ []))) ∷ []) None (Some (n 1 42 (codes "m")))) ∷ [])

near_1-ground : IsGroundOf near_1 (ground_of near_1)
near_1-ground = record { names = refl; entries = refl }

near_1-modes : broken_modes (ground_of near_1) near_1 ≡ []
near_1-modes = refl

near_1-counted : IsStatementGroundOf near_1 (counted_ground_of near_1)
near_1-counted = record { names = refl; entries = refl }

near_1-statements : broken_statements (counted_ground_of near_1) near_1 ≡ []
near_1-statements = refl

near_1-processes : broken_processes (counted_ground_of near_1) near_1 ≡ []
near_1-processes = refl

-- the order is told in place of the number of an index
--   m: MODULE DCL a ARRAY (4097:-4097) BOOL; END m;
abbrev near_2 : ProgramTree
near_2 = program ((modul (n 1 1 (codes "m")) modulions.Module ((local_item (locations (at 1 11) ((decl ((n 1 15 (codes "a")) ∷ []) (w.base_mode (w.array (at 1 17) (w.index_bounded (whole (at 1 24) 4097) (prefixed (at 1 29) prefixes.Minus (whole (at 1 30) 4097))) (w.discrete (w.named (n 1 36 (codes "BOOL")))) None)) None) ∷ []))) ∷ []) None (Some (n 1 46 (codes "m")))) ∷ [])

near_2-ground : IsGroundOf near_2 (ground_of near_2)
near_2-ground = record { names = refl; entries = refl }

near_2-modes : broken_modes (ground_of near_2) near_2 ≡ (told rules.M2 1 24 ∷ [])
near_2-modes = refl
