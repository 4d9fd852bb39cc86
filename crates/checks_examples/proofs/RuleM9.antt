-- Rule M9: texts that break it, and texts that nearly do.
use Rattle.std.proofs.Common.{◌≡◌, refl}
use Rattle.std.specs.Prelude.{[], ◌∷◌, Some, None, codes}
use Rattle.chill_tree.specs.declared.tree.item.ModulionKind.TheVariants as modulions
use Rattle.chill_tree.specs.ExprTree.{whole}
use Rattle.chill_tree.specs.ModeTree as w
use Rattle.chill_tree.specs.LocalTree.{syn_modes, new_modes, locations}
use Rattle.chill_tree.specs.ItemTree.{ProgramTree, local_item, procedure, process}
use Rattle.diagnostics.specs.declared.rule.Rule.TheVariants as rules
use Rattle.checks_model.specs.Table.{IsGroundOf, IsStatementGroundOf}
use Rattle.checks_model.specs.Phases.{broken_modes, broken_statements, broken_processes}
use Rattle.checks_examples.proofs.Programs.{at, n, modedef, decl, fields, param, formal, proc, proce, modul, program, ground_of, counted_ground_of, told_of}

-- at each name
--   m: MODULE DCL x, y READ INT; END m;
abbrev broken_1 : ProgramTree
broken_1 = program ((modul (n 1 1 (codes "m")) modulions.Module ((local_item (locations (at 1 11) ((decl ((n 1 15 (codes "x")) ∷ (n 1 18 (codes "y")) ∷ []) (w.read_mode (at 1 20) (w.discrete (w.named (n 1 25 (codes "INT"))))) None) ∷ []))) ∷ []) None (Some (n 1 34 (codes "m")))) ∷ [])

broken_1-ground : IsGroundOf broken_1 (ground_of broken_1)
broken_1-ground = record { names = refl; entries = refl }

broken_1-modes : broken_modes (ground_of broken_1) broken_1 ≡ (told_of rules.M9 1 15 (codes "x") ∷ told_of rules.M9 1 18 (codes "y") ∷ [])
broken_1-modes = refl

-- a field is READ
--   m: MODULE SYNMODE r = READ INT; DCL x STRUCT (a INT, b r); END m;
abbrev broken_2 : ProgramTree
broken_2 = program ((modul (n 1 1 (codes "m")) modulions.Module ((local_item (syn_modes (at 1 11) ((modedef (n 1 19 (codes "r")) (w.read_mode (at 1 23) (w.discrete (w.named (n 1 28 (codes "INT")))))) ∷ []))) ∷ (local_item (locations (at 1 33) ((decl ((n 1 37 (codes "x")) ∷ []) (w.base_mode (w.structure (at 1 39) (w.field_nodes ((fields ((n 1 47 (codes "a")) ∷ []) (w.discrete (w.named (n 1 49 (codes "INT")))) None) ∷ (fields ((n 1 54 (codes "b")) ∷ []) (w.discrete (w.named (n 1 56 (codes "r")))) None) ∷ [])) None)) None) ∷ []))) ∷ []) None (Some (n 1 64 (codes "m")))) ∷ [])

broken_2-ground : IsGroundOf broken_2 (ground_of broken_2)
broken_2-ground = record { names = refl; entries = refl }

broken_2-modes : broken_modes (ground_of broken_2) broken_2 ≡ (told_of rules.M9 1 37 (codes "x") ∷ [])
broken_2-modes = refl

-- by the name of the mode
--   m: MODULE SYNMODE r = READ INT; NEWMODE q = r; DCL x r, y q; END m;
abbrev broken_3 : ProgramTree
broken_3 = program ((modul (n 1 1 (codes "m")) modulions.Module ((local_item (syn_modes (at 1 11) ((modedef (n 1 19 (codes "r")) (w.read_mode (at 1 23) (w.discrete (w.named (n 1 28 (codes "INT")))))) ∷ []))) ∷ (local_item (new_modes (at 1 33) ((modedef (n 1 41 (codes "q")) (w.base_mode (w.discrete (w.named (n 1 45 (codes "r")))))) ∷ []))) ∷ (local_item (locations (at 1 48) ((decl ((n 1 52 (codes "x")) ∷ []) (w.base_mode (w.discrete (w.named (n 1 54 (codes "r"))))) None) ∷ (decl ((n 1 57 (codes "y")) ∷ []) (w.base_mode (w.discrete (w.named (n 1 59 (codes "q"))))) None) ∷ []))) ∷ []) None (Some (n 1 66 (codes "m")))) ∷ [])

broken_3-ground : IsGroundOf broken_3 (ground_of broken_3)
broken_3-ground = record { names = refl; entries = refl }

broken_3-modes : broken_modes (ground_of broken_3) broken_3 ≡ (told_of rules.M9 1 52 (codes "x") ∷ told_of rules.M9 1 57 (codes "y") ∷ [])
broken_3-modes = refl

-- parameters and formals are no declared locations
--   m: MODULE p: PROC (k READ INT); END p; q: PROCESS (l READ INT); END q; END m;
abbrev near_1 : ProgramTree
near_1 = program ((modul (n 1 1 (codes "m")) modulions.Module ((procedure (proc (n 1 11 (codes "p")) ((param ((n 1 20 (codes "k")) ∷ []) (w.read_mode (at 1 22) (w.discrete (w.named (n 1 27 (codes "INT"))))) None) ∷ []) None None [] None (Some (n 1 37 (codes "p"))))) ∷ (process (proce (n 1 40 (codes "q")) ((formal ((n 1 52 (codes "l")) ∷ []) (w.read_mode (at 1 54) (w.discrete (w.named (n 1 59 (codes "INT")))))) ∷ []) [] None (Some (n 1 69 (codes "q"))))) ∷ []) None (Some (n 1 76 (codes "m")))) ∷ [])

near_1-ground : IsGroundOf near_1 (ground_of near_1)
near_1-ground = record { names = refl; entries = refl }

near_1-modes : broken_modes (ground_of near_1) near_1 ≡ []
near_1-modes = refl

near_1-counted : IsStatementGroundOf near_1 (counted_ground_of near_1)
near_1-counted = record { names = refl; entries = refl }

near_1-statements : broken_statements (counted_ground_of near_1) near_1 ≡ []
near_1-statements = refl

near_1-processes : broken_processes (counted_ground_of near_1) near_1 ≡ []
near_1-processes = refl

-- the READ member of a powerset is no part
--   m: MODULE SYNMODE r = READ INT (0:7); DCL x POWERSET r; DCL a ARRAY (r) INT; END m;
abbrev near_2 : ProgramTree
near_2 = program ((modul (n 1 1 (codes "m")) modulions.Module ((local_item (syn_modes (at 1 11) ((modedef (n 1 19 (codes "r")) (w.read_mode (at 1 23) (w.discrete (w.bounded (n 1 28 (codes "INT")) (whole (at 1 33) 0) (whole (at 1 35) 7))))) ∷ []))) ∷ (local_item (locations (at 1 39) ((decl ((n 1 43 (codes "x")) ∷ []) (w.base_mode (w.powerset (at 1 45) (w.named (n 1 54 (codes "r"))))) None) ∷ []))) ∷ (local_item (locations (at 1 57) ((decl ((n 1 61 (codes "a")) ∷ []) (w.base_mode (w.array (at 1 63) (w.index_named (n 1 70 (codes "r"))) (w.discrete (w.named (n 1 73 (codes "INT")))) None)) None) ∷ []))) ∷ []) None (Some (n 1 82 (codes "m")))) ∷ [])

near_2-ground : IsGroundOf near_2 (ground_of near_2)
near_2-ground = record { names = refl; entries = refl }

near_2-modes : broken_modes (ground_of near_2) near_2 ≡ []
near_2-modes = refl

near_2-counted : IsStatementGroundOf near_2 (counted_ground_of near_2)
near_2-counted = record { names = refl; entries = refl }

near_2-statements : broken_statements (counted_ground_of near_2) near_2 ≡ []
near_2-statements = refl

near_2-processes : broken_processes (counted_ground_of near_2) near_2 ≡ []
near_2-processes = refl
