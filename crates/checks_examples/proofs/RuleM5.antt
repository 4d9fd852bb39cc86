-- Rule M5: texts that break it, and texts that nearly do.
use Rattle.std.proofs.Common.{◌≡◌, refl}
use Rattle.std.specs.Prelude.{[], ◌∷◌, Some, None, codes}
use Rattle.chill_tree.specs.declared.tree.expr.Prefix.TheVariants as prefixes
use Rattle.chill_tree.specs.declared.tree.item.ModulionKind.TheVariants as modulions
use Rattle.chill_tree.specs.ExprTree.{whole, character, prefixed}
use Rattle.chill_tree.specs.ModeTree as w
use Rattle.chill_tree.specs.LocalTree.{syn_modes, locations}
use Rattle.chill_tree.specs.ItemTree.{ProgramTree, local_item}
use Rattle.diagnostics.specs.declared.rule.Rule.TheVariants as rules
use Rattle.checks_model.specs.Table.{IsGroundOf, IsStatementGroundOf}
use Rattle.checks_model.specs.Phases.{broken_modes, broken_statements, broken_processes}
use Rattle.checks_examples.proofs.Programs.{at, n, modedef, decl, modul, program, ground_of, counted_ground_of, told}

-- at the powerset's first token
--   m: MODULE DCL x POWERSET INT (0:32); END m;
abbrev broken_1 : ProgramTree
broken_1 = program ((modul (n 1 1 (codes "m")) modulions.Module ((local_item (locations (at 1 11) ((decl ((n 1 15 (codes "x")) ∷ []) (w.base_mode (w.powerset (at 1 17) (w.bounded (n 1 26 (codes "INT")) (whole (at 1 31) 0) (whole (at 1 33) 32)))) None) ∷ []))) ∷ []) None (Some (n 1 42 (codes "m")))) ∷ [])

broken_1-ground : IsGroundOf broken_1 (ground_of broken_1)
broken_1-ground = record { names = refl; entries = refl }

broken_1-modes : broken_modes (ground_of broken_1) broken_1 ≡ (told rules.M5 1 17 ∷ [])
broken_1-modes = refl

-- of CHAR and of INT
--   m: MODULE DCL x POWERSET CHAR; DCL y POWERSET INT; END m;
abbrev broken_2 : ProgramTree
broken_2 = program ((modul (n 1 1 (codes "m")) modulions.Module ((local_item (locations (at 1 11) ((decl ((n 1 15 (codes "x")) ∷ []) (w.base_mode (w.powerset (at 1 17) (w.named (n 1 26 (codes "CHAR"))))) None) ∷ []))) ∷ (local_item (locations (at 1 32) ((decl ((n 1 36 (codes "y")) ∷ []) (w.base_mode (w.powerset (at 1 38) (w.named (n 1 47 (codes "INT"))))) None) ∷ []))) ∷ []) None (Some (n 1 56 (codes "m")))) ∷ [])

broken_2-ground : IsGroundOf broken_2 (ground_of broken_2)
broken_2-ground = record { names = refl; entries = refl }

broken_2-modes : broken_modes (ground_of broken_2) broken_2 ≡ (told rules.M5 1 17 ∷ told rules.M5 1 38 ∷ [])
broken_2-modes = refl

-- told where it is written, and not where its name stands
--   m: MODULE SYNMODE p = POWERSET INT (-16:16); DCL x p; DCL y ARRAY (1:2) p; END m;
abbrev broken_3 : ProgramTree
broken_3 = program ((modul (n 1 1 (codes "m")) modulions.Module ((local_item (syn_modes (at 1 11) ((modedef (n 1 19 (codes "p")) (w.base_mode (w.powerset (at 1 23) (w.bounded (n 1 32 (codes "INT")) (prefixed (at 1 37) prefixes.Minus (whole (at 1 38) 16)) (whole (at 1 41) 16))))) ∷ []))) ∷ (local_item (locations (at 1 46) ((decl ((n 1 50 (codes "x")) ∷ []) (w.base_mode (w.discrete (w.named (n 1 52 (codes "p"))))) None) ∷ []))) ∷ (local_item (locations (at 1 55) ((decl ((n 1 59 (codes "y")) ∷ []) (w.base_mode (w.array (at 1 61) (w.index_bounded (whole (at 1 68) 1) (whole (at 1 70) 2)) (w.discrete (w.named (n 1 73 (codes "p")))) None)) None) ∷ []))) ∷ []) None (Some (n 1 80 (codes "m")))) ∷ [])

broken_3-ground : IsGroundOf broken_3 (ground_of broken_3)
broken_3-ground = record { names = refl; entries = refl }

broken_3-modes : broken_modes (ground_of broken_3) broken_3 ≡ (told rules.M5 1 23 ∷ [])
broken_3-modes = refl

-- 32 members of a greater mode
--   m: MODULE SYNMODE o = INT (-16:15); DCL x POWERSET o; DCL y POWERSET INT (2147483616:2147483647); END m;
abbrev near_1 : ProgramTree
near_1 = program ((modul (n 1 1 (codes "m")) modulions.Module ((local_item (syn_modes (at 1 11) ((modedef (n 1 19 (codes "o")) (w.base_mode (w.discrete (w.bounded (n 1 23 (codes "INT")) (prefixed (at 1 28) prefixes.Minus (whole (at 1 29) 16)) (whole (at 1 32) 15))))) ∷ []))) ∷ (local_item (locations (at 1 37) ((decl ((n 1 41 (codes "x")) ∷ []) (w.base_mode (w.powerset (at 1 43) (w.named (n 1 52 (codes "o"))))) None) ∷ []))) ∷ (local_item (locations (at 1 55) ((decl ((n 1 59 (codes "y")) ∷ []) (w.base_mode (w.powerset (at 1 61) (w.bounded (n 1 70 (codes "INT")) (whole (at 1 75) 2147483616) (whole (at 1 86) 2147483647)))) None) ∷ []))) ∷ []) None (Some (n 1 103 (codes "m")))) ∷ [])

near_1-ground : IsGroundOf near_1 (ground_of near_1)
near_1-ground = record { names = refl; entries = refl }

near_1-modes : broken_modes (ground_of near_1) near_1 ≡ []
near_1-modes = refl

near_1-counted : IsStatementGroundOf near_1 (counted_ground_of near_1)
near_1-counted = record { names = refl; entries = refl }

near_1-statements : broken_statements (counted_ground_of near_1) near_1 ≡ []
near_1-statements = refl

near_1-processes : broken_processes (counted_ground_of near_1) near_1 ≡ []
near_1-processes = refl

-- 32 members
--   m: MODULE DCL x POWERSET INT (1:32); DCL y POWERSET CHAR ('a':'z'); DCL z POWERSET SET (e0, e1, e2, e3, e4, e5, e6, e7, e8, e9, e10, e11, e12, e13, e14, e15, e16, e17, e18, e19, e20, e21, e22, e23, e24, e25, e26, e27, e28, e29, e30, e31); END m;
abbrev near_2 : ProgramTree
near_2 = program ((modul (n 1 1 (codes "m")) modulions.Module ((local_item (locations (at 1 11) ((decl ((n 1 15 (codes "x")) ∷ []) (w.base_mode (w.powerset (at 1 17) (w.bounded (n 1 26 (codes "INT")) (whole (at 1 31) 1) (whole (at 1 33) 32)))) None) ∷ []))) ∷ (local_item (locations (at 1 38) ((decl ((n 1 42 (codes "y")) ∷ []) (w.base_mode (w.powerset (at 1 44) (w.bounded (n 1 53 (codes "CHAR")) (character (at 1 59) 97) (character (at 1 63) 122)))) None) ∷ []))) ∷ (local_item (locations (at 1 69) ((decl ((n 1 73 (codes "z")) ∷ []) (w.base_mode (w.powerset (at 1 75) (w.set_of (at 1 84) ((n 1 89 (codes "e0")) ∷ (n 1 93 (codes "e1")) ∷ (n 1 97 (codes "e2")) ∷ (n 1 101 (codes "e3")) ∷ (n 1 105 (codes "e4")) ∷ (n 1 109 (codes "e5")) ∷ (n 1 113 (codes "e6")) ∷ (n 1 117 (codes "e7")) ∷ (n 1 121 (codes "e8")) ∷ (n 1 125 (codes "e9")) ∷ (n 1 129 (codes "e10")) ∷ (n 1 134 (codes "e11")) ∷ (n 1 139 (codes "e12")) ∷ (n 1 144 (codes "e13")) ∷ (n 1 149 (codes "e14")) ∷ (n 1 154 (codes "e15")) ∷ (n 1 159 (codes "e16")) ∷ (n 1 164 (codes "e17")) ∷ (n 1 169 (codes "e18")) ∷ (n 1 174 (codes "e19")) ∷ (n 1 179 (codes "e20")) ∷ (n 1 184 (codes "e21")) ∷ (n 1 189 (codes "e22")) ∷ (n 1 194 (codes "e23")) ∷ (n 1 199 (codes "e24")) ∷ (n 1 204 (codes "e25")) ∷ (n 1 209 (codes "e26")) ∷ (n 1 214 (codes "e27")) ∷ (n 1 219 (codes "e28")) ∷ (n 1 224 (codes "e29")) ∷ (n 1 229 (codes "e30")) ∷ (n 1 234 (codes "e31")) ∷ [])))) None) ∷ []))) ∷ []) None (Some (n 1 244 (codes "m")))) ∷ [])

near_2-ground : IsGroundOf near_2 (ground_of near_2)
near_2-ground = record { names = refl; entries = refl }

near_2-modes : broken_modes (ground_of near_2) near_2 ≡ []
near_2-modes = refl

near_2-counted : IsStatementGroundOf near_2 (counted_ground_of near_2)
near_2-counted = record { names = refl; entries = refl }

near_2-statements : broken_statements (counted_ground_of near_2) near_2 ≡ []
near_2-statements = refl

near_2-processes : broken_processes (counted_ground_of near_2) near_2 ≡ []
near_2-processes = refl
