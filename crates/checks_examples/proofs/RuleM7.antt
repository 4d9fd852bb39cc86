-- Rule M7: texts that break it, and texts that nearly do.
use Rattle.std.proofs.Common.{◌≡◌, refl}
use Rattle.std.specs.Prelude.{[], ◌∷◌, Some, None, codes}
use Rattle.chill_tree.specs.declared.tree.item.ModulionKind.TheVariants as modulions
use Rattle.chill_tree.specs.ModeTree as w
use Rattle.chill_tree.specs.LocalTree.{locations}
use Rattle.chill_tree.specs.ItemTree.{ProgramTree, local_item}
use Rattle.diagnostics.specs.declared.rule.Rule.TheVariants as rules
use Rattle.checks_model.specs.Table.{IsGroundOf, IsStatementGroundOf}
use Rattle.checks_model.specs.Phases.{broken_modes, broken_statements, broken_processes}
use Rattle.checks_examples.proofs.Programs.{at, n, decl, fields, modul, program, ground_of, counted_ground_of, told_of}

-- in one list of names
--   m: MODULE DCL s STRUCT (a, b, a INT); END m;
abbrev broken_1 : ProgramTree
broken_1 = program ((modul (n 1 1 (codes "m")) modulions.Module ((local_item (locations (at 1 11) ((decl ((n 1 15 (codes "s")) ∷ []) (w.base_mode (w.structure (at 1 17) (w.field_nodes ((fields ((n 1 25 (codes "a")) ∷ (n 1 28 (codes "b")) ∷ (n 1 31 (codes "a")) ∷ []) (w.discrete (w.named (n 1 33 (codes "INT")))) None) ∷ [])) None)) None) ∷ []))) ∷ []) None (Some (n 1 43 (codes "m")))) ∷ [])

broken_1-ground : IsGroundOf broken_1 (ground_of broken_1)
broken_1-ground = record { names = refl; entries = refl }

broken_1-modes : broken_modes (ground_of broken_1) broken_1 ≡ (told_of rules.M7 1 31 (codes "a") ∷ [])
broken_1-modes = refl

-- one behind the other
--   m: MODULE DCL s STRUCT (a INT, a BOOL); END m;
abbrev broken_2 : ProgramTree
broken_2 = program ((modul (n 1 1 (codes "m")) modulions.Module ((local_item (locations (at 1 11) ((decl ((n 1 15 (codes "s")) ∷ []) (w.base_mode (w.structure (at 1 17) (w.field_nodes ((fields ((n 1 25 (codes "a")) ∷ []) (w.discrete (w.named (n 1 27 (codes "INT")))) None) ∷ (fields ((n 1 32 (codes "a")) ∷ []) (w.discrete (w.named (n 1 34 (codes "BOOL")))) None) ∷ [])) None)) None) ∷ []))) ∷ []) None (Some (n 1 45 (codes "m")))) ∷ [])

broken_2-ground : IsGroundOf broken_2 (ground_of broken_2)
broken_2-ground = record { names = refl; entries = refl }

broken_2-modes : broken_modes (ground_of broken_2) broken_2 ≡ (told_of rules.M7 1 32 (codes "a") ∷ [])
broken_2-modes = refl

-- two such names
--   m: MODULE DCL s STRUCT (a INT, b, a BOOL, b INT); END m;
abbrev broken_3 : ProgramTree
broken_3 = program ((modul (n 1 1 (codes "m")) modulions.Module ((local_item (locations (at 1 11) ((decl ((n 1 15 (codes "s")) ∷ []) (w.base_mode (w.structure (at 1 17) (w.field_nodes ((fields ((n 1 25 (codes "a")) ∷ []) (w.discrete (w.named (n 1 27 (codes "INT")))) None) ∷ (fields ((n 1 32 (codes "b")) ∷ (n 1 35 (codes "a")) ∷ []) (w.discrete (w.named (n 1 37 (codes "BOOL")))) None) ∷ (fields ((n 1 43 (codes "b")) ∷ []) (w.discrete (w.named (n 1 45 (codes "INT")))) None) ∷ [])) None)) None) ∷ []))) ∷ []) None (Some (n 1 55 (codes "m")))) ∷ [])

broken_3-ground : IsGroundOf broken_3 (ground_of broken_3)
broken_3-ground = record { names = refl; entries = refl }

broken_3-modes : broken_modes (ground_of broken_3) broken_3 ≡ (told_of rules.M7 1 35 (codes "a") ∷ told_of rules.M7 1 43 (codes "b") ∷ [])
broken_3-modes = refl

-- a structure and one inside it
--   m: MODULE DCL s STRUCT (a INT, b STRUCT (a INT, b INT)); END m;
abbrev near_1 : ProgramTree
near_1 = program ((modul (n 1 1 (codes "m")) modulions.Module ((local_item (locations (at 1 11) ((decl ((n 1 15 (codes "s")) ∷ []) (w.base_mode (w.structure (at 1 17) (w.field_nodes ((fields ((n 1 25 (codes "a")) ∷ []) (w.discrete (w.named (n 1 27 (codes "INT")))) None) ∷ (fields ((n 1 32 (codes "b")) ∷ []) (w.structure (at 1 34) (w.field_nodes ((fields ((n 1 42 (codes "a")) ∷ []) (w.discrete (w.named (n 1 44 (codes "INT")))) None) ∷ (fields ((n 1 49 (codes "b")) ∷ []) (w.discrete (w.named (n 1 51 (codes "INT")))) None) ∷ [])) None) None) ∷ [])) None)) None) ∷ []))) ∷ []) None (Some (n 1 62 (codes "m")))) ∷ [])

near_1-ground : IsGroundOf near_1 (ground_of near_1)
near_1-ground = record { names = refl; entries = refl }

near_1-modes : broken_modes (ground_of near_1) near_1 ≡ []
near_1-modes = refl

near_1-counted : IsStatementGroundOf near_1 (counted_ground_of near_1)
near_1-counted = record { names = refl; entries = refl }

near_1-statements : broken_statements (counted_ground_of near_1) near_1 ≡ []
near_1-statements = refl

near_1-processes : broken_processes (counted_ground_of near_1) near_1 ≡ []
near_1-processes = refl

-- names are compared exactly
--   m: MODULE DCL s STRUCT (a INT, A INT), u STRUCT (a INT); END m;
abbrev near_2 : ProgramTree
near_2 = program ((modul (n 1 1 (codes "m")) modulions.Module ((local_item (locations (at 1 11) ((decl ((n 1 15 (codes "s")) ∷ []) (w.base_mode (w.structure (at 1 17) (w.field_nodes ((fields ((n 1 25 (codes "a")) ∷ []) (w.discrete (w.named (n 1 27 (codes "INT")))) None) ∷ (fields ((n 1 32 (codes "A")) ∷ []) (w.discrete (w.named (n 1 34 (codes "INT")))) None) ∷ [])) None)) None) ∷ (decl ((n 1 40 (codes "u")) ∷ []) (w.base_mode (w.structure (at 1 42) (w.field_nodes ((fields ((n 1 50 (codes "a")) ∷ []) (w.discrete (w.named (n 1 52 (codes "INT")))) None) ∷ [])) None)) None) ∷ []))) ∷ []) None (Some (n 1 62 (codes "m")))) ∷ [])

near_2-ground : IsGroundOf near_2 (ground_of near_2)
near_2-ground = record { names = refl; entries = refl }

near_2-modes : broken_modes (ground_of near_2) near_2 ≡ []
near_2-modes = refl

near_2-counted : IsStatementGroundOf near_2 (counted_ground_of near_2)
near_2-counted = record { names = refl; entries = refl }

near_2-statements : broken_statements (counted_ground_of near_2) near_2 ≡ []
near_2-statements = refl

near_2-processes : broken_processes (counted_ground_of near_2) near_2 ≡ []
near_2-processes = refl
