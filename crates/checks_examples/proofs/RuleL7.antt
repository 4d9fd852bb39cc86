-- Rule L7: texts that break it, and texts that nearly do.
use Rattle.std.proofs.Common.{◌≡◌, refl}
use Rattle.std.specs.Prelude.{[], ◌∷◌, Some, None, codes}
use Rattle.chill_tree.specs.declared.tree.item.ModulionKind.TheVariants as modulions
use Rattle.chill_tree.specs.ExprTree.{whole}
use Rattle.chill_tree.specs.ModeTree as w
use Rattle.chill_tree.specs.LocalTree.{syn_modes, locations}
use Rattle.chill_tree.specs.ItemTree.{ProgramTree, local_item}
use Rattle.diagnostics.specs.declared.rule.Rule.TheVariants as rules
use Rattle.checks_model.specs.Table.{IsGroundOf, IsStatementGroundOf}
use Rattle.checks_model.specs.Phases.{broken_modes, broken_statements, broken_processes}
use Rattle.checks_examples.proofs.Programs.{at, n, modedef, decl, modul, program, ground_of, counted_ground_of, told}

-- at the first location that passes the limit
--   m: MODULE DCL a1, a2, a3, a4, a5, a6, a7, a8, a9, a10, a11, a12, a13, a14, a15, a16, b, c ARRAY (1:4096) INT; END m;
abbrev broken_1 : ProgramTree
broken_1 = program ((modul (n 1 1 (codes "m")) modulions.Module ((local_item (locations (at 1 11) ((decl ((n 1 15 (codes "a1")) ∷ (n 1 19 (codes "a2")) ∷ (n 1 23 (codes "a3")) ∷ (n 1 27 (codes "a4")) ∷ (n 1 31 (codes "a5")) ∷ (n 1 35 (codes "a6")) ∷ (n 1 39 (codes "a7")) ∷ (n 1 43 (codes "a8")) ∷ (n 1 47 (codes "a9")) ∷ (n 1 51 (codes "a10")) ∷ (n 1 56 (codes "a11")) ∷ (n 1 61 (codes "a12")) ∷ (n 1 66 (codes "a13")) ∷ (n 1 71 (codes "a14")) ∷ (n 1 76 (codes "a15")) ∷ (n 1 81 (codes "a16")) ∷ (n 1 86 (codes "b")) ∷ (n 1 89 (codes "c")) ∷ []) (w.base_mode (w.array (at 1 91) (w.index_bounded (whole (at 1 98) 1) (whole (at 1 100) 4096)) (w.discrete (w.named (n 1 106 (codes "INT")))) None)) None) ∷ []))) ∷ []) None (Some (n 1 115 (codes "m")))) ∷ [])

broken_1-ground : IsGroundOf broken_1 (ground_of broken_1)
broken_1-ground = record { names = refl; entries = refl }

broken_1-modes : broken_modes (ground_of broken_1) broken_1 ≡ (told rules.L7 1 86 ∷ [])
broken_1-modes = refl

-- in text order, whatever the order of definition
--   n: MODULE DCL a1, a2, a3, a4, a5, a6, a7, a8, a9, a10, a11, a12, a13, a14, a15, a16, x, y k; SYNMODE k = ARRAY (1:4096) BOOL; END n;
abbrev broken_2 : ProgramTree
broken_2 = program ((modul (n 1 1 (codes "n")) modulions.Module ((local_item (locations (at 1 11) ((decl ((n 1 15 (codes "a1")) ∷ (n 1 19 (codes "a2")) ∷ (n 1 23 (codes "a3")) ∷ (n 1 27 (codes "a4")) ∷ (n 1 31 (codes "a5")) ∷ (n 1 35 (codes "a6")) ∷ (n 1 39 (codes "a7")) ∷ (n 1 43 (codes "a8")) ∷ (n 1 47 (codes "a9")) ∷ (n 1 51 (codes "a10")) ∷ (n 1 56 (codes "a11")) ∷ (n 1 61 (codes "a12")) ∷ (n 1 66 (codes "a13")) ∷ (n 1 71 (codes "a14")) ∷ (n 1 76 (codes "a15")) ∷ (n 1 81 (codes "a16")) ∷ (n 1 86 (codes "x")) ∷ (n 1 89 (codes "y")) ∷ []) (w.base_mode (w.discrete (w.named (n 1 91 (codes "k"))))) None) ∷ []))) ∷ (local_item (syn_modes (at 1 94) ((modedef (n 1 102 (codes "k")) (w.base_mode (w.array (at 1 106) (w.index_bounded (whole (at 1 113) 1) (whole (at 1 115) 4096)) (w.discrete (w.named (n 1 121 (codes "BOOL")))) None))) ∷ []))) ∷ []) None (Some (n 1 131 (codes "n")))) ∷ [])

broken_2-ground : IsGroundOf broken_2 (ground_of broken_2)
broken_2-ground = record { names = refl; entries = refl }

broken_2-modes : broken_modes (ground_of broken_2) broken_2 ≡ (told rules.L7 1 86 ∷ [])
broken_2-modes = refl

-- what has no mode counts for nothing
--   m: MODULE DCL x CHARS (300), y ARRAY (1:4096) CHARS (300); DCL a1, a2, a3, a4, a5, a6, a7, a8, a9, a10, a11, a12, a13, a14, a15, a16, b ARRAY (1:4096) INT; END m;
abbrev broken_3 : ProgramTree
broken_3 = program ((modul (n 1 1 (codes "m")) modulions.Module ((local_item (locations (at 1 11) ((decl ((n 1 15 (codes "x")) ∷ []) (w.base_mode (w.chars (at 1 17) (whole (at 1 24) 300))) None) ∷ (decl ((n 1 30 (codes "y")) ∷ []) (w.base_mode (w.array (at 1 32) (w.index_bounded (whole (at 1 39) 1) (whole (at 1 41) 4096)) (w.chars (at 1 47) (whole (at 1 54) 300)) None)) None) ∷ []))) ∷ (local_item (locations (at 1 60) ((decl ((n 1 64 (codes "a1")) ∷ (n 1 68 (codes "a2")) ∷ (n 1 72 (codes "a3")) ∷ (n 1 76 (codes "a4")) ∷ (n 1 80 (codes "a5")) ∷ (n 1 84 (codes "a6")) ∷ (n 1 88 (codes "a7")) ∷ (n 1 92 (codes "a8")) ∷ (n 1 96 (codes "a9")) ∷ (n 1 100 (codes "a10")) ∷ (n 1 105 (codes "a11")) ∷ (n 1 110 (codes "a12")) ∷ (n 1 115 (codes "a13")) ∷ (n 1 120 (codes "a14")) ∷ (n 1 125 (codes "a15")) ∷ (n 1 130 (codes "a16")) ∷ (n 1 135 (codes "b")) ∷ []) (w.base_mode (w.array (at 1 137) (w.index_bounded (whole (at 1 144) 1) (whole (at 1 146) 4096)) (w.discrete (w.named (n 1 152 (codes "INT")))) None)) None) ∷ []))) ∷ []) None (Some (n 1 161 (codes "m")))) ∷ [])

broken_3-ground : IsGroundOf broken_3 (ground_of broken_3)
broken_3-ground = record { names = refl; entries = refl }

broken_3-modes : broken_modes (ground_of broken_3) broken_3 ≡ (told rules.M6 1 24 ∷ told rules.M6 1 54 ∷ told rules.L7 1 135 ∷ [])
broken_3-modes = refl

-- a powerset is one scalar
--   m: MODULE DCL a1, a2, a3, a4, a5, a6, a7, a8, a9, a10, a11, a12, a13, a14, a15, x ARRAY (1:4096) POWERSET INT (1:32); END m;
abbrev near_1 : ProgramTree
near_1 = program ((modul (n 1 1 (codes "m")) modulions.Module ((local_item (locations (at 1 11) ((decl ((n 1 15 (codes "a1")) ∷ (n 1 19 (codes "a2")) ∷ (n 1 23 (codes "a3")) ∷ (n 1 27 (codes "a4")) ∷ (n 1 31 (codes "a5")) ∷ (n 1 35 (codes "a6")) ∷ (n 1 39 (codes "a7")) ∷ (n 1 43 (codes "a8")) ∷ (n 1 47 (codes "a9")) ∷ (n 1 51 (codes "a10")) ∷ (n 1 56 (codes "a11")) ∷ (n 1 61 (codes "a12")) ∷ (n 1 66 (codes "a13")) ∷ (n 1 71 (codes "a14")) ∷ (n 1 76 (codes "a15")) ∷ (n 1 81 (codes "x")) ∷ []) (w.base_mode (w.array (at 1 83) (w.index_bounded (whole (at 1 90) 1) (whole (at 1 92) 4096)) (w.powerset (at 1 98) (w.bounded (n 1 107 (codes "INT")) (whole (at 1 112) 1) (whole (at 1 114) 32))) None)) None) ∷ []))) ∷ []) None (Some (n 1 123 (codes "m")))) ∷ [])

near_1-ground : IsGroundOf near_1 (ground_of near_1)
near_1-ground = record { names = refl; entries = refl }

near_1-modes : broken_modes (ground_of near_1) near_1 ≡ []
near_1-modes = refl

near_1-counted : IsStatementGroundOf near_1 (counted_ground_of near_1)
near_1-counted = record { names = refl; entries = refl }

near_1-statements : broken_statements (counted_ground_of near_1) near_1 ≡ []
near_1-statements = refl

near_1-processes : broken_processes (counted_ground_of near_1) near_1 ≡ []
near_1-processes = refl

-- 65,536 scalars, and empty texts besides
--   m: MODULE DCL a1, a2, a3, a4, a5, a6, a7, a8, a9, a10, a11, a12, a13, a14, a15, x ARRAY (1:4096) INT; DCL t, u CHARS (0), e EVENT, b BUFFER ARRAY (1:4096) INT; END m;
abbrev near_2 : ProgramTree
near_2 = program ((modul (n 1 1 (codes "m")) modulions.Module ((local_item (locations (at 1 11) ((decl ((n 1 15 (codes "a1")) ∷ (n 1 19 (codes "a2")) ∷ (n 1 23 (codes "a3")) ∷ (n 1 27 (codes "a4")) ∷ (n 1 31 (codes "a5")) ∷ (n 1 35 (codes "a6")) ∷ (n 1 39 (codes "a7")) ∷ (n 1 43 (codes "a8")) ∷ (n 1 47 (codes "a9")) ∷ (n 1 51 (codes "a10")) ∷ (n 1 56 (codes "a11")) ∷ (n 1 61 (codes "a12")) ∷ (n 1 66 (codes "a13")) ∷ (n 1 71 (codes "a14")) ∷ (n 1 76 (codes "a15")) ∷ (n 1 81 (codes "x")) ∷ []) (w.base_mode (w.array (at 1 83) (w.index_bounded (whole (at 1 90) 1) (whole (at 1 92) 4096)) (w.discrete (w.named (n 1 98 (codes "INT")))) None)) None) ∷ []))) ∷ (local_item (locations (at 1 103) ((decl ((n 1 107 (codes "t")) ∷ (n 1 110 (codes "u")) ∷ []) (w.base_mode (w.chars (at 1 112) (whole (at 1 119) 0))) None) ∷ (decl ((n 1 123 (codes "e")) ∷ []) (w.event_mode (at 1 125) None) None) ∷ (decl ((n 1 132 (codes "b")) ∷ []) (w.buffer_mode (at 1 134) None (w.array (at 1 141) (w.index_bounded (whole (at 1 148) 1) (whole (at 1 150) 4096)) (w.discrete (w.named (n 1 156 (codes "INT")))) None)) None) ∷ []))) ∷ []) None (Some (n 1 165 (codes "m")))) ∷ [])

near_2-ground : IsGroundOf near_2 (ground_of near_2)
near_2-ground = record { names = refl; entries = refl }

near_2-modes : broken_modes (ground_of near_2) near_2 ≡ []
near_2-modes = refl

near_2-counted : IsStatementGroundOf near_2 (counted_ground_of near_2)
near_2-counted = record { names = refl; entries = refl }

near_2-statements : broken_statements (counted_ground_of near_2) near_2 ≡ []
near_2-statements = refl

near_2-processes : broken_processes (counted_ground_of near_2) near_2 ≡ []
near_2-processes = refl
