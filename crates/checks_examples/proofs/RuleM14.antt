-- Rule M14: texts that break it, and texts that nearly do.
use Rattle.std.proofs.Common.{◌≡◌, refl}
use Rattle.std.specs.Prelude.{[], ◌∷◌, Some, None, codes}
use Rattle.chill_tree.specs.declared.tree.expr.Prefix.TheVariants as prefixes
use Rattle.chill_tree.specs.declared.tree.mode.PlaceForm.TheVariants as forms
use Rattle.chill_tree.specs.declared.tree.item.ModulionKind.TheVariants as modulions
use Rattle.chill_tree.specs.ExprTree.{whole, name, prefixed}
use Rattle.chill_tree.specs.ModeTree as w
use Rattle.chill_tree.specs.LocalTree.{locations}
use Rattle.chill_tree.specs.ItemTree.{ProgramTree, local_item}
use Rattle.diagnostics.specs.declared.rule.Rule.TheVariants as rules
use Rattle.checks_model.specs.Table.{IsGroundOf, IsStatementGroundOf}
use Rattle.checks_model.specs.Phases.{broken_modes, broken_statements, broken_processes}
use Rattle.checks_examples.proofs.Programs.{at, n, decl, place, step_of, fields, modul, program, ground_of, counted_ground_of, told_of}

-- bits outside a word, by their number
--   m: MODULE DCL s STRUCT (a INT (0:7) POS (0, 30, 3)); END m;
abbrev broken_1 : ProgramTree
broken_1 = program ((modul (n 1 1 (codes "m")) modulions.Module ((local_item (locations (at 1 11) ((decl ((n 1 15 (codes "s")) ∷ []) (w.base_mode (w.structure (at 1 17) (w.field_nodes ((fields ((n 1 25 (codes "a")) ∷ []) (w.discrete (w.bounded (n 1 27 (codes "INT")) (whole (at 1 32) 0) (whole (at 1 34) 7))) (Some (place (at 1 37) (whole (at 1 42) 0) (whole (at 1 45) 30) forms.Length (whole (at 1 49) 3)))) ∷ [])) None)) None) ∷ []))) ∷ []) None (Some (n 1 58 (codes "m")))) ∷ [])

broken_1-ground : IsGroundOf broken_1 (ground_of broken_1)
unfolding lib.Count.count_leading_zeros
broken_1-ground = record { names = refl; entries = refl }

broken_1-modes : broken_modes (ground_of broken_1) broken_1 ≡ (told_of rules.M14 1 25 (codes "a") ∷ [])
unfolding lib.Count.count_leading_zeros
broken_1-modes = refl

-- a structure inside has no place
--   m: MODULE DCL s STRUCT (a STRUCT (b BOOL) POS (0, 0 : 31)); END m;
abbrev broken_2 : ProgramTree
broken_2 = program ((modul (n 1 1 (codes "m")) modulions.Module ((local_item (locations (at 1 11) ((decl ((n 1 15 (codes "s")) ∷ []) (w.base_mode (w.structure (at 1 17) (w.field_nodes ((fields ((n 1 25 (codes "a")) ∷ []) (w.structure (at 1 27) (w.field_nodes ((fields ((n 1 35 (codes "b")) ∷ []) (w.discrete (w.named (n 1 37 (codes "BOOL")))) None) ∷ [])) None) (Some (place (at 1 43) (whole (at 1 48) 0) (whole (at 1 51) 0) forms.End (whole (at 1 55) 31)))) ∷ [])) None)) None) ∷ []))) ∷ []) None (Some (n 1 65 (codes "m")))) ∷ [])

broken_2-ground : IsGroundOf broken_2 (ground_of broken_2)
unfolding lib.Count.count_leading_zeros
broken_2-ground = record { names = refl; entries = refl }

broken_2-modes : broken_modes (ground_of broken_2) broken_2 ≡ (told_of rules.M14 1 25 (codes "a") ∷ [])
unfolding lib.Count.count_leading_zeros
broken_2-modes = refl

-- words outside 0 to 4,095
--   m: MODULE DCL s STRUCT (a BOOL POS (4096, 0 : 0), b BOOL POS (-1, 0 : 0)); END m;
abbrev broken_3 : ProgramTree
broken_3 = program ((modul (n 1 1 (codes "m")) modulions.Module ((local_item (locations (at 1 11) ((decl ((n 1 15 (codes "s")) ∷ []) (w.base_mode (w.structure (at 1 17) (w.field_nodes ((fields ((n 1 25 (codes "a")) ∷ []) (w.discrete (w.named (n 1 27 (codes "BOOL")))) (Some (place (at 1 32) (whole (at 1 37) 4096) (whole (at 1 43) 0) forms.End (whole (at 1 47) 0)))) ∷ (fields ((n 1 51 (codes "b")) ∷ []) (w.discrete (w.named (n 1 53 (codes "BOOL")))) (Some (place (at 1 58) (prefixed (at 1 63) prefixes.Minus (whole (at 1 64) 1)) (whole (at 1 67) 0) forms.End (whole (at 1 71) 0)))) ∷ [])) None)) None) ∷ []))) ∷ []) None (Some (n 1 80 (codes "m")))) ∷ [])

broken_3-ground : IsGroundOf broken_3 (ground_of broken_3)
unfolding lib.Count.count_leading_zeros
broken_3-ground = record { names = refl; entries = refl }

broken_3-modes : broken_modes (ground_of broken_3) broken_3 ≡ (told_of rules.M14 1 25 (codes "a") ∷ told_of rules.M14 1 51 (codes "b") ∷ [])
unfolding lib.Count.count_leading_zeros
broken_3-modes = refl

-- what isn't a scalar has no place
--   m: MODULE DCL s STRUCT (a CHARS (1) POS (0, 0 : 7)); DCL u STRUCT (a ARRAY (1:1) BOOL POS (0, 0 : 0)); END m;
abbrev broken_4 : ProgramTree
broken_4 = program ((modul (n 1 1 (codes "m")) modulions.Module ((local_item (locations (at 1 11) ((decl ((n 1 15 (codes "s")) ∷ []) (w.base_mode (w.structure (at 1 17) (w.field_nodes ((fields ((n 1 25 (codes "a")) ∷ []) (w.chars (at 1 27) (whole (at 1 34) 1)) (Some (place (at 1 37) (whole (at 1 42) 0) (whole (at 1 45) 0) forms.End (whole (at 1 49) 7)))) ∷ [])) None)) None) ∷ []))) ∷ (local_item (locations (at 1 54) ((decl ((n 1 58 (codes "u")) ∷ []) (w.base_mode (w.structure (at 1 60) (w.field_nodes ((fields ((n 1 68 (codes "a")) ∷ []) (w.array (at 1 70) (w.index_bounded (whole (at 1 77) 1) (whole (at 1 79) 1)) (w.discrete (w.named (n 1 82 (codes "BOOL")))) None) (Some (place (at 1 87) (whole (at 1 92) 0) (whole (at 1 95) 0) forms.End (whole (at 1 99) 0)))) ∷ [])) None)) None) ∷ []))) ∷ []) None (Some (n 1 108 (codes "m")))) ∷ [])

broken_4-ground : IsGroundOf broken_4 (ground_of broken_4)
unfolding lib.Count.count_leading_zeros
broken_4-ground = record { names = refl; entries = refl }

broken_4-modes : broken_modes (ground_of broken_4) broken_4 ≡ (told_of rules.M14 1 25 (codes "a") ∷ told_of rules.M14 1 68 (codes "a") ∷ [])
unfolding lib.Count.count_leading_zeros
broken_4-modes = refl

-- too few bits
--   m: MODULE DCL s STRUCT (a INT (0:255) POS (0, 0 : 6), b INT POS (1, 0 : 30), c CHAR POS (2, 0, 7)); END m;
abbrev broken_5 : ProgramTree
broken_5 = program ((modul (n 1 1 (codes "m")) modulions.Module ((local_item (locations (at 1 11) ((decl ((n 1 15 (codes "s")) ∷ []) (w.base_mode (w.structure (at 1 17) (w.field_nodes ((fields ((n 1 25 (codes "a")) ∷ []) (w.discrete (w.bounded (n 1 27 (codes "INT")) (whole (at 1 32) 0) (whole (at 1 34) 255))) (Some (place (at 1 39) (whole (at 1 44) 0) (whole (at 1 47) 0) forms.End (whole (at 1 51) 6)))) ∷ (fields ((n 1 55 (codes "b")) ∷ []) (w.discrete (w.named (n 1 57 (codes "INT")))) (Some (place (at 1 61) (whole (at 1 66) 1) (whole (at 1 69) 0) forms.End (whole (at 1 73) 30)))) ∷ (fields ((n 1 78 (codes "c")) ∷ []) (w.discrete (w.named (n 1 80 (codes "CHAR")))) (Some (place (at 1 85) (whole (at 1 90) 2) (whole (at 1 93) 0) forms.Length (whole (at 1 96) 7)))) ∷ [])) None)) None) ∷ []))) ∷ []) None (Some (n 1 105 (codes "m")))) ∷ [])

broken_5-ground : IsGroundOf broken_5 (ground_of broken_5)
unfolding lib.Count.count_leading_zeros
broken_5-ground = record { names = refl; entries = refl }

broken_5-modes : broken_modes (ground_of broken_5) broken_5 ≡ (told_of rules.M14 1 25 (codes "a") ∷ told_of rules.M14 1 55 (codes "b") ∷ told_of rules.M14 1 78 (codes "c") ∷ [])
unfolding lib.Count.count_leading_zeros
broken_5-modes = refl

-- a place for some fields and not for all
--   m: MODULE DCL s STRUCT (a BOOL POS (0, 0 : 0), b BOOL, c BOOL POS (0, 1 : 1)); END m;
abbrev broken_6 : ProgramTree
broken_6 = program ((modul (n 1 1 (codes "m")) modulions.Module ((local_item (locations (at 1 11) ((decl ((n 1 15 (codes "s")) ∷ []) (w.base_mode (w.structure (at 1 17) (w.field_nodes ((fields ((n 1 25 (codes "a")) ∷ []) (w.discrete (w.named (n 1 27 (codes "BOOL")))) (Some (place (at 1 32) (whole (at 1 37) 0) (whole (at 1 40) 0) forms.End (whole (at 1 44) 0)))) ∷ (fields ((n 1 48 (codes "b")) ∷ []) (w.discrete (w.named (n 1 50 (codes "BOOL")))) None) ∷ (fields ((n 1 56 (codes "c")) ∷ []) (w.discrete (w.named (n 1 58 (codes "BOOL")))) (Some (place (at 1 63) (whole (at 1 68) 0) (whole (at 1 71) 1) forms.End (whole (at 1 75) 1)))) ∷ [])) None)) None) ∷ []))) ∷ []) None (Some (n 1 84 (codes "m")))) ∷ [])

broken_6-ground : IsGroundOf broken_6 (ground_of broken_6)
unfolding lib.Count.count_leading_zeros
broken_6-ground = record { names = refl; entries = refl }

broken_6-modes : broken_modes (ground_of broken_6) broken_6 ≡ (told_of rules.M14 1 25 (codes "a") ∷ told_of rules.M14 1 56 (codes "c") ∷ [])
unfolding lib.Count.count_leading_zeros
broken_6-modes = refl

-- the same in STEP
--   m: MODULE DCL a ARRAY (1:1) BOOL STEP (POS (0, 0 : 0), TRUE); END m;
abbrev broken_7 : ProgramTree
broken_7 = program ((modul (n 1 1 (codes "m")) modulions.Module ((local_item (locations (at 1 11) ((decl ((n 1 15 (codes "a")) ∷ []) (w.base_mode (w.array (at 1 17) (w.index_bounded (whole (at 1 24) 1) (whole (at 1 26) 1)) (w.discrete (w.named (n 1 29 (codes "BOOL")))) (Some (w.by_step (step_of (at 1 34) (place (at 1 40) (whole (at 1 45) 0) (whole (at 1 48) 0) forms.End (whole (at 1 52) 0)) (name (n 1 56 (codes "TRUE")))))))) None) ∷ []))) ∷ []) None (Some (n 1 67 (codes "m")))) ∷ [])

broken_7-ground : IsGroundOf broken_7 (ground_of broken_7)
unfolding lib.Count.count_leading_zeros
broken_7-ground = record { names = refl; entries = refl }

broken_7-modes : broken_modes (ground_of broken_7) broken_7 ≡ (told_of rules.M14 1 17 (codes "element") ∷ [])
unfolding lib.Count.count_leading_zeros
broken_7-modes = refl

-- the step is below the bits of the place
--   m: MODULE DCL a ARRAY (0:1) BOOL STEP (POS (0, 0 : 7), 7); END m;
abbrev broken_8 : ProgramTree
broken_8 = program ((modul (n 1 1 (codes "m")) modulions.Module ((local_item (locations (at 1 11) ((decl ((n 1 15 (codes "a")) ∷ []) (w.base_mode (w.array (at 1 17) (w.index_bounded (whole (at 1 24) 0) (whole (at 1 26) 1)) (w.discrete (w.named (n 1 29 (codes "BOOL")))) (Some (w.by_step (step_of (at 1 34) (place (at 1 40) (whole (at 1 45) 0) (whole (at 1 48) 0) forms.End (whole (at 1 52) 7)) (whole (at 1 56) 7)))))) None) ∷ []))) ∷ []) None (Some (n 1 64 (codes "m")))) ∷ [])

broken_8-ground : IsGroundOf broken_8 (ground_of broken_8)
unfolding lib.Count.count_leading_zeros
broken_8-ground = record { names = refl; entries = refl }

broken_8-modes : broken_modes (ground_of broken_8) broken_8 ≡ (told_of rules.M14 1 17 (codes "element") ∷ [])
unfolding lib.Count.count_leading_zeros
broken_8-modes = refl

-- wider places than the bits
--   m: MODULE DCL s STRUCT (a BOOL POS (0, 0 : 15), b BOOL POS (0, 16, 16)); DCL a ARRAY (0:7) BOOL STEP (POS (0, 0 : 3), 4); END m;
abbrev near_1 : ProgramTree
near_1 = program ((modul (n 1 1 (codes "m")) modulions.Module ((local_item (locations (at 1 11) ((decl ((n 1 15 (codes "s")) ∷ []) (w.base_mode (w.structure (at 1 17) (w.field_nodes ((fields ((n 1 25 (codes "a")) ∷ []) (w.discrete (w.named (n 1 27 (codes "BOOL")))) (Some (place (at 1 32) (whole (at 1 37) 0) (whole (at 1 40) 0) forms.End (whole (at 1 44) 15)))) ∷ (fields ((n 1 49 (codes "b")) ∷ []) (w.discrete (w.named (n 1 51 (codes "BOOL")))) (Some (place (at 1 56) (whole (at 1 61) 0) (whole (at 1 64) 16) forms.Length (whole (at 1 68) 16)))) ∷ [])) None)) None) ∷ []))) ∷ (local_item (locations (at 1 74) ((decl ((n 1 78 (codes "a")) ∷ []) (w.base_mode (w.array (at 1 80) (w.index_bounded (whole (at 1 87) 0) (whole (at 1 89) 7)) (w.discrete (w.named (n 1 92 (codes "BOOL")))) (Some (w.by_step (step_of (at 1 97) (place (at 1 103) (whole (at 1 108) 0) (whole (at 1 111) 0) forms.End (whole (at 1 115) 3)) (whole (at 1 119) 4)))))) None) ∷ []))) ∷ []) None (Some (n 1 127 (codes "m")))) ∷ [])

near_1-ground : IsGroundOf near_1 (ground_of near_1)
unfolding lib.Count.count_leading_zeros
near_1-ground = record { names = refl; entries = refl }

near_1-modes : broken_modes (ground_of near_1) near_1 ≡ []
unfolding lib.Count.count_leading_zeros
near_1-modes = refl

near_1-counted : IsStatementGroundOf near_1 (counted_ground_of near_1)
unfolding lib.Count.count_leading_zeros
near_1-counted = record { names = refl; entries = refl }

near_1-statements : broken_statements (counted_ground_of near_1) near_1 ≡ []
unfolding lib.Count.count_leading_zeros
near_1-statements = refl

near_1-processes : broken_processes (counted_ground_of near_1) near_1 ≡ []
unfolding lib.Count.count_leading_zeros
near_1-processes = refl

-- the limits themselves
--   m: MODULE DCL s STRUCT (a INT (0:255) POS (0, 0 : 7), b BOOL POS (0, 31 : 31), c INT POS (4095, 0, 32));
--   DCL a ARRAY (1:1) BOOL STEP (POS (4095, 31 : 31), 262144); DCL b ARRAY (0:4095) INT STEP (POS (0, 0 : 31), 32); END m;
abbrev near_2 : ProgramTree
near_2 = program ((modul (n 1 1 (codes "m")) modulions.Module ((local_item (locations (at 1 11) ((decl ((n 1 15 (codes "s")) ∷ []) (w.base_mode (w.structure (at 1 17) (w.field_nodes ((fields ((n 1 25 (codes "a")) ∷ []) (w.discrete (w.bounded (n 1 27 (codes "INT")) (whole (at 1 32) 0) (whole (at 1 34) 255))) (Some (place (at 1 39) (whole (at 1 44) 0) (whole (at 1 47) 0) forms.End (whole (at 1 51) 7)))) ∷ (fields ((n 1 55 (codes "b")) ∷ []) (w.discrete (w.named (n 1 57 (codes "BOOL")))) (Some (place (at 1 62) (whole (at 1 67) 0) (whole (at 1 70) 31) forms.End (whole (at 1 75) 31)))) ∷ (fields ((n 1 80 (codes "c")) ∷ []) (w.discrete (w.named (n 1 82 (codes "INT")))) (Some (place (at 1 86) (whole (at 1 91) 4095) (whole (at 1 97) 0) forms.Length (whole (at 1 100) 32)))) ∷ [])) None)) None) ∷ []))) ∷ (local_item (locations (at 2 1) ((decl ((n 2 5 (codes "a")) ∷ []) (w.base_mode (w.array (at 2 7) (w.index_bounded (whole (at 2 14) 1) (whole (at 2 16) 1)) (w.discrete (w.named (n 2 19 (codes "BOOL")))) (Some (w.by_step (step_of (at 2 24) (place (at 2 30) (whole (at 2 35) 4095) (whole (at 2 41) 31) forms.End (whole (at 2 46) 31)) (whole (at 2 51) 262144)))))) None) ∷ []))) ∷ (local_item (locations (at 2 60) ((decl ((n 2 64 (codes "b")) ∷ []) (w.base_mode (w.array (at 2 66) (w.index_bounded (whole (at 2 73) 0) (whole (at 2 75) 4095)) (w.discrete (w.named (n 2 81 (codes "INT")))) (Some (w.by_step (step_of (at 2 85) (place (at 2 91) (whole (at 2 96) 0) (whole (at 2 99) 0) forms.End (whole (at 2 103) 31)) (whole (at 2 108) 32)))))) None) ∷ []))) ∷ []) None (Some (n 2 117 (codes "m")))) ∷ [])

near_2-ground : IsGroundOf near_2 (ground_of near_2)
unfolding lib.Count.count_leading_zeros
near_2-ground = record { names = refl; entries = refl }

near_2-modes : broken_modes (ground_of near_2) near_2 ≡ []
unfolding lib.Count.count_leading_zeros
near_2-modes = refl

near_2-counted : IsStatementGroundOf near_2 (counted_ground_of near_2)
unfolding lib.Count.count_leading_zeros
near_2-counted = record { names = refl; entries = refl }

near_2-statements : broken_statements (counted_ground_of near_2) near_2 ≡ []
unfolding lib.Count.count_leading_zeros
near_2-statements = refl

near_2-processes : broken_processes (counted_ground_of near_2) near_2 ≡ []
unfolding lib.Count.count_leading_zeros
near_2-processes = refl
