-- Rule M4: texts that break it, and texts that nearly do.
use Rattle.std.proofs.Common.{◌≡◌, refl}
use Rattle.std.specs.Prelude.{[], ◌∷◌, Some, None, codes}
use Rattle.chill_tree.specs.declared.tree.item.ModulionKind.TheVariants as modulions
use Rattle.chill_tree.specs.ExprTree.{whole}
use Rattle.chill_tree.specs.ModeTree as w
use Rattle.chill_tree.specs.LocalTree.{syn_modes, new_modes, locations}
use Rattle.chill_tree.specs.ItemTree.{ProgramTree, local_item}
use Rattle.diagnostics.specs.declared.rule.Rule.TheVariants as rules
use Rattle.checks_model.specs.Table.{IsGroundOf, IsStatementGroundOf}
use Rattle.checks_model.specs.Phases.{broken_modes, broken_statements, broken_processes}
use Rattle.checks_examples.proofs.Programs.{at, n, modedef, decl, modul, program, ground_of, counted_ground_of, told}

-- a powerset's member
--   m: MODULE DCL x POWERSET INSTANCE; END m;
abbrev broken_1 : ProgramTree
broken_1 = program ((modul (n 1 1 (codes "m")) modulions.Module ((local_item (locations (at 1 11) ((decl ((n 1 15 (codes "x")) ∷ []) (w.base_mode (w.powerset (at 1 17) (w.named (n 1 26 (codes "INSTANCE"))))) None) ∷ []))) ∷ []) None (Some (n 1 40 (codes "m")))) ∷ [])

broken_1-ground : IsGroundOf broken_1 (ground_of broken_1)
broken_1-ground = record { names = refl; entries = refl }

broken_1-modes : broken_modes (ground_of broken_1) broken_1 ≡ (told rules.M4 1 26 ∷ [])
broken_1-modes = refl

-- under READ, at the mode's own name
--   m: MODULE SYNMODE t = READ CHARS (3); DCL a READ ARRAY (t) INT; END m;
abbrev broken_2 : ProgramTree
broken_2 = program ((modul (n 1 1 (codes "m")) modulions.Module ((local_item (syn_modes (at 1 11) ((modedef (n 1 19 (codes "t")) (w.read_mode (at 1 23) (w.chars (at 1 28) (whole (at 1 35) 3)))) ∷ []))) ∷ (local_item (locations (at 1 39) ((decl ((n 1 43 (codes "a")) ∷ []) (w.read_mode (at 1 45) (w.array (at 1 50) (w.index_named (n 1 57 (codes "t"))) (w.discrete (w.named (n 1 60 (codes "INT")))) None)) None) ∷ []))) ∷ []) None (Some (n 1 69 (codes "m")))) ∷ [])

broken_2-ground : IsGroundOf broken_2 (ground_of broken_2)
broken_2-ground = record { names = refl; entries = refl }

broken_2-modes : broken_modes (ground_of broken_2) broken_2 ≡ (told rules.M4 1 57 ∷ [])
broken_2-modes = refl

-- an array's index
--   m: MODULE SYNMODE t = CHARS (3); DCL a ARRAY (t) INT; DCL b ARRAY (INSTANCE) INT; END m;
abbrev broken_3 : ProgramTree
broken_3 = program ((modul (n 1 1 (codes "m")) modulions.Module ((local_item (syn_modes (at 1 11) ((modedef (n 1 19 (codes "t")) (w.base_mode (w.chars (at 1 23) (whole (at 1 30) 3)))) ∷ []))) ∷ (local_item (locations (at 1 34) ((decl ((n 1 38 (codes "a")) ∷ []) (w.base_mode (w.array (at 1 40) (w.index_named (n 1 47 (codes "t"))) (w.discrete (w.named (n 1 50 (codes "INT")))) None)) None) ∷ []))) ∷ (local_item (locations (at 1 55) ((decl ((n 1 59 (codes "b")) ∷ []) (w.base_mode (w.array (at 1 61) (w.index_named (n 1 68 (codes "INSTANCE"))) (w.discrete (w.named (n 1 78 (codes "INT")))) None)) None) ∷ []))) ∷ []) None (Some (n 1 87 (codes "m")))) ∷ [])

broken_3-ground : IsGroundOf broken_3 (ground_of broken_3)
broken_3-ground = record { names = refl; entries = refl }

broken_3-modes : broken_modes (ground_of broken_3) broken_3 ≡ (told rules.M4 1 47 ∷ told rules.M4 1 68 ∷ [])
broken_3-modes = refl

-- a range of a range
--   m: MODULE SYNMODE o = INT (0:7); SYNMODE u = o (1:6); DCL x u (2:5); END m;
abbrev near_1 : ProgramTree
near_1 = program ((modul (n 1 1 (codes "m")) modulions.Module ((local_item (syn_modes (at 1 11) ((modedef (n 1 19 (codes "o")) (w.base_mode (w.discrete (w.bounded (n 1 23 (codes "INT")) (whole (at 1 28) 0) (whole (at 1 30) 7))))) ∷ []))) ∷ (local_item (syn_modes (at 1 34) ((modedef (n 1 42 (codes "u")) (w.base_mode (w.discrete (w.bounded (n 1 46 (codes "o")) (whole (at 1 49) 1) (whole (at 1 51) 6))))) ∷ []))) ∷ (local_item (locations (at 1 55) ((decl ((n 1 59 (codes "x")) ∷ []) (w.base_mode (w.discrete (w.bounded (n 1 61 (codes "u")) (whole (at 1 64) 2) (whole (at 1 66) 5)))) None) ∷ []))) ∷ []) None (Some (n 1 74 (codes "m")))) ∷ [])

near_1-ground : IsGroundOf near_1 (ground_of near_1)
near_1-ground = record { names = refl; entries = refl }

near_1-modes : broken_modes (ground_of near_1) near_1 ≡ []
near_1-modes = refl

near_1-counted : IsStatementGroundOf near_1 (counted_ground_of near_1)
near_1-counted = record { names = refl; entries = refl }

near_1-statements : broken_statements (counted_ground_of near_1) near_1 ≡ []
near_1-statements = refl

near_1-processes : broken_processes (counted_ground_of near_1) near_1 ≡ []
near_1-processes = refl

-- discrete members and indices of each kind
--   m: MODULE SYNMODE o = INT (0:7); NEWMODE c = SET (red, green); SYNMODE r = READ o;
--   DCL x POWERSET o, y POWERSET c, z POWERSET BOOL, w POWERSET r; DCL a ARRAY (o) INT, b ARRAY (c) INT, d ARRAY (CHAR) BOOL; END m;
abbrev near_2 : ProgramTree
near_2 = program ((modul (n 1 1 (codes "m")) modulions.Module ((local_item (syn_modes (at 1 11) ((modedef (n 1 19 (codes "o")) (w.base_mode (w.discrete (w.bounded (n 1 23 (codes "INT")) (whole (at 1 28) 0) (whole (at 1 30) 7))))) ∷ []))) ∷ (local_item (new_modes (at 1 34) ((modedef (n 1 42 (codes "c")) (w.base_mode (w.discrete (w.set_of (at 1 46) ((n 1 51 (codes "red")) ∷ (n 1 56 (codes "green")) ∷ []))))) ∷ []))) ∷ (local_item (syn_modes (at 1 64) ((modedef (n 1 72 (codes "r")) (w.read_mode (at 1 76) (w.discrete (w.named (n 1 81 (codes "o")))))) ∷ []))) ∷ (local_item (locations (at 2 1) ((decl ((n 2 5 (codes "x")) ∷ []) (w.base_mode (w.powerset (at 2 7) (w.named (n 2 16 (codes "o"))))) None) ∷ (decl ((n 2 19 (codes "y")) ∷ []) (w.base_mode (w.powerset (at 2 21) (w.named (n 2 30 (codes "c"))))) None) ∷ (decl ((n 2 33 (codes "z")) ∷ []) (w.base_mode (w.powerset (at 2 35) (w.named (n 2 44 (codes "BOOL"))))) None) ∷ (decl ((n 2 50 (codes "w")) ∷ []) (w.base_mode (w.powerset (at 2 52) (w.named (n 2 61 (codes "r"))))) None) ∷ []))) ∷ (local_item (locations (at 2 64) ((decl ((n 2 68 (codes "a")) ∷ []) (w.base_mode (w.array (at 2 70) (w.index_named (n 2 77 (codes "o"))) (w.discrete (w.named (n 2 80 (codes "INT")))) None)) None) ∷ (decl ((n 2 85 (codes "b")) ∷ []) (w.base_mode (w.array (at 2 87) (w.index_named (n 2 94 (codes "c"))) (w.discrete (w.named (n 2 97 (codes "INT")))) None)) None) ∷ (decl ((n 2 102 (codes "d")) ∷ []) (w.base_mode (w.array (at 2 104) (w.index_named (n 2 111 (codes "CHAR"))) (w.discrete (w.named (n 2 117 (codes "BOOL")))) None)) None) ∷ []))) ∷ []) None (Some (n 2 127 (codes "m")))) ∷ [])

near_2-ground : IsGroundOf near_2 (ground_of near_2)
near_2-ground = record { names = refl; entries = refl }

near_2-modes : broken_modes (ground_of near_2) near_2 ≡ []
near_2-modes = refl

near_2-counted : IsStatementGroundOf near_2 (counted_ground_of near_2)
near_2-counted = record { names = refl; entries = refl }

near_2-statements : broken_statements (counted_ground_of near_2) near_2 ≡ []
near_2-statements = refl

near_2-processes : broken_processes (counted_ground_of near_2) near_2 ≡ []
near_2-processes = refl
