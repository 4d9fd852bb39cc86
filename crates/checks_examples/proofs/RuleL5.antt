-- Rule L5: texts that break it, and texts that nearly do.
use Rattle.std.proofs.Common.{◌≡◌, refl}
use Rattle.std.specs.Prelude.{[], ◌∷◌, Some, None, codes}
use Rattle.chill_tree.specs.declared.tree.mode.Packing.TheVariants as packings
use Rattle.chill_tree.specs.declared.tree.item.ModulionKind.TheVariants as modulions
use Rattle.chill_tree.specs.ExprTree.{whole}
use Rattle.chill_tree.specs.ModeTree as w
use Rattle.chill_tree.specs.LocalTree.{syn_modes, locations}
use Rattle.chill_tree.specs.ItemTree.{ProgramTree, local_item}
use Rattle.diagnostics.specs.declared.rule.Rule.TheVariants as rules
use Rattle.checks_model.specs.Table.{IsGroundOf, IsStatementGroundOf}
use Rattle.checks_model.specs.Phases.{broken_modes, broken_statements, broken_processes}
use Rattle.checks_examples.proofs.Programs.{at, n, modedef, decl, fields, modul, program, ground_of, counted_ground_of, told}

-- at the first token of the mode
--   m: MODULE DCL a ARRAY (1:4096) STRUCT (f, g INT); END m;
abbrev broken_1 : ProgramTree
broken_1 = program ((modul (n 1 1 (codes "m")) modulions.Module ((local_item (locations (at 1 11) ((decl ((n 1 15 (codes "a")) ∷ []) (w.base_mode (w.array (at 1 17) (w.index_bounded (whole (at 1 24) 1) (whole (at 1 26) 4096)) (w.structure (at 1 32) (w.field_nodes ((fields ((n 1 40 (codes "f")) ∷ (n 1 43 (codes "g")) ∷ []) (w.discrete (w.named (n 1 45 (codes "INT")))) None) ∷ [])) None) None)) None) ∷ []))) ∷ []) None (Some (n 1 55 (codes "m")))) ∷ [])

broken_1-ground : IsGroundOf broken_1 (ground_of broken_1)
broken_1-ground = record { names = refl; entries = refl }

broken_1-modes : broken_modes (ground_of broken_1) broken_1 ≡ (told rules.L5 1 17 ∷ [])
broken_1-modes = refl

-- packed scalars are scalars
--   m: MODULE DCL a ARRAY (1:4096) ARRAY (1:2) BOOL PACK; END m;
abbrev broken_2 : ProgramTree
broken_2 = program ((modul (n 1 1 (codes "m")) modulions.Module ((local_item (locations (at 1 11) ((decl ((n 1 15 (codes "a")) ∷ []) (w.base_mode (w.array (at 1 17) (w.index_bounded (whole (at 1 24) 1) (whole (at 1 26) 4096)) (w.array (at 1 32) (w.index_bounded (whole (at 1 39) 1) (whole (at 1 41) 2)) (w.discrete (w.named (n 1 44 (codes "BOOL")))) (Some (w.by_packing packings.Pack))) None)) None) ∷ []))) ∷ []) None (Some (n 1 59 (codes "m")))) ∷ [])

broken_2-ground : IsGroundOf broken_2 (ground_of broken_2)
broken_2-ground = record { names = refl; entries = refl }

broken_2-modes : broken_modes (ground_of broken_2) broken_2 ≡ (told rules.L5 1 17 ∷ [])
broken_2-modes = refl

-- the outer where no inner one passes it
--   m: MODULE DCL a ARRAY (1:2) ARRAY (1:64) ARRAY (1:64) INT; END m;
abbrev broken_3 : ProgramTree
broken_3 = program ((modul (n 1 1 (codes "m")) modulions.Module ((local_item (locations (at 1 11) ((decl ((n 1 15 (codes "a")) ∷ []) (w.base_mode (w.array (at 1 17) (w.index_bounded (whole (at 1 24) 1) (whole (at 1 26) 2)) (w.array (at 1 29) (w.index_bounded (whole (at 1 36) 1) (whole (at 1 38) 64)) (w.array (at 1 42) (w.index_bounded (whole (at 1 49) 1) (whole (at 1 51) 64)) (w.discrete (w.named (n 1 55 (codes "INT")))) None) None) None)) None) ∷ []))) ∷ []) None (Some (n 1 64 (codes "m")))) ∷ [])

broken_3-ground : IsGroundOf broken_3 (ground_of broken_3)
broken_3-ground = record { names = refl; entries = refl }

broken_3-modes : broken_modes (ground_of broken_3) broken_3 ≡ (told rules.L5 1 17 ∷ [])
broken_3-modes = refl

-- the bits of a structure don't matter
--   m: MODULE SYNMODE n = ARRAY (1:1000) INT; DCL s STRUCT (f, g, h, i n, j ARRAY (1:96) CHAR); END m;
abbrev near_1 : ProgramTree
near_1 = program ((modul (n 1 1 (codes "m")) modulions.Module ((local_item (syn_modes (at 1 11) ((modedef (n 1 19 (codes "n")) (w.base_mode (w.array (at 1 23) (w.index_bounded (whole (at 1 30) 1) (whole (at 1 32) 1000)) (w.discrete (w.named (n 1 38 (codes "INT")))) None))) ∷ []))) ∷ (local_item (locations (at 1 43) ((decl ((n 1 47 (codes "s")) ∷ []) (w.base_mode (w.structure (at 1 49) (w.field_nodes ((fields ((n 1 57 (codes "f")) ∷ (n 1 60 (codes "g")) ∷ (n 1 63 (codes "h")) ∷ (n 1 66 (codes "i")) ∷ []) (w.discrete (w.named (n 1 68 (codes "n")))) None) ∷ (fields ((n 1 71 (codes "j")) ∷ []) (w.array (at 1 73) (w.index_bounded (whole (at 1 80) 1) (whole (at 1 82) 96)) (w.discrete (w.named (n 1 86 (codes "CHAR")))) None) None) ∷ [])) None)) None) ∷ []))) ∷ []) None (Some (n 1 97 (codes "m")))) ∷ [])

near_1-ground : IsGroundOf near_1 (ground_of near_1)
near_1-ground = record { names = refl; entries = refl }

near_1-modes : broken_modes (ground_of near_1) near_1 ≡ []
near_1-modes = refl

near_1-counted : IsStatementGroundOf near_1 (counted_ground_of near_1)
near_1-counted = record { names = refl; entries = refl }

near_1-statements : broken_statements (counted_ground_of near_1) near_1 ≡ []
near_1-statements = refl

near_1-processes : broken_processes (counted_ground_of near_1) near_1 ≡ []
near_1-processes = refl

-- 4,096 scalars
--   m: MODULE DCL a ARRAY (1:64) ARRAY (1:64) INT, b ARRAY (1:2048) STRUCT (f INT, g BOOL), c ARRAY (1:4096) POWERSET INT (1:32); END m;
abbrev near_2 : ProgramTree
near_2 = program ((modul (n 1 1 (codes "m")) modulions.Module ((local_item (locations (at 1 11) ((decl ((n 1 15 (codes "a")) ∷ []) (w.base_mode (w.array (at 1 17) (w.index_bounded (whole (at 1 24) 1) (whole (at 1 26) 64)) (w.array (at 1 30) (w.index_bounded (whole (at 1 37) 1) (whole (at 1 39) 64)) (w.discrete (w.named (n 1 43 (codes "INT")))) None) None)) None) ∷ (decl ((n 1 48 (codes "b")) ∷ []) (w.base_mode (w.array (at 1 50) (w.index_bounded (whole (at 1 57) 1) (whole (at 1 59) 2048)) (w.structure (at 1 65) (w.field_nodes ((fields ((n 1 73 (codes "f")) ∷ []) (w.discrete (w.named (n 1 75 (codes "INT")))) None) ∷ (fields ((n 1 80 (codes "g")) ∷ []) (w.discrete (w.named (n 1 82 (codes "BOOL")))) None) ∷ [])) None) None)) None) ∷ (decl ((n 1 89 (codes "c")) ∷ []) (w.base_mode (w.array (at 1 91) (w.index_bounded (whole (at 1 98) 1) (whole (at 1 100) 4096)) (w.powerset (at 1 106) (w.bounded (n 1 115 (codes "INT")) (whole (at 1 120) 1) (whole (at 1 122) 32))) None)) None) ∷ []))) ∷ []) None (Some (n 1 131 (codes "m")))) ∷ [])

near_2-ground : IsGroundOf near_2 (ground_of near_2)
near_2-ground = record { names = refl; entries = refl }

near_2-modes : broken_modes (ground_of near_2) near_2 ≡ []
near_2-modes = refl

near_2-counted : IsStatementGroundOf near_2 (counted_ground_of near_2)
near_2-counted = record { names = refl; entries = refl }

near_2-statements : broken_statements (counted_ground_of near_2) near_2 ≡ []
near_2-statements = refl

near_2-processes : broken_processes (counted_ground_of near_2) near_2 ≡ []
near_2-processes = refl
