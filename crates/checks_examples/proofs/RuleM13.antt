-- Rule M13: texts that break it, and texts that nearly do.
use Rattle.std.proofs.Common.{◌≡◌, refl}
use Rattle.std.specs.Prelude.{[], ◌∷◌, Some, None, codes}
use Rattle.chill_tree.specs.declared.tree.mode.PlaceForm.TheVariants as forms
use Rattle.chill_tree.specs.declared.tree.item.ModulionKind.TheVariants as modulions
use Rattle.chill_tree.specs.ExprTree.{whole}
use Rattle.chill_tree.specs.ModeTree as w
use Rattle.chill_tree.specs.LocalTree.{locations}
use Rattle.chill_tree.specs.ItemTree.{ProgramTree, local_item}
use Rattle.diagnostics.specs.declared.rule.Rule.TheVariants as rules
use Rattle.checks_model.specs.Table.{IsGroundOf, IsStatementGroundOf}
use Rattle.checks_model.specs.Phases.{broken_modes, broken_statements, broken_processes}
use Rattle.checks_examples.proofs.Programs.{at, n, decl, place, fields, modul, program, ground_of, counted_ground_of, told_of, told_both}

-- two fields of one place
--   m: MODULE DCL s STRUCT (a, b BOOL POS (0, 3 : 3)); END m;
abbrev broken_1 : ProgramTree
broken_1 = program ((modul (n 1 1 (codes "m")) modulions.Module ((local_item (locations (at 1 11) ((decl ((n 1 15 (codes "s")) ∷ []) (w.base_mode (w.structure (at 1 17) (w.field_nodes ((fields ((n 1 25 (codes "a")) ∷ (n 1 28 (codes "b")) ∷ []) (w.discrete (w.named (n 1 30 (codes "BOOL")))) (Some (place (at 1 35) (whole (at 1 40) 0) (whole (at 1 43) 3) forms.End (whole (at 1 47) 3)))) ∷ [])) None)) None) ∷ []))) ∷ []) None (Some (n 1 56 (codes "m")))) ∷ [])

broken_1-ground : IsGroundOf broken_1 (ground_of broken_1)
unfolding lib.Count.count_leading_zeros
broken_1-ground = record { names = refl; entries = refl }

broken_1-modes : broken_modes (ground_of broken_1) broken_1 ≡ (told_both rules.M13 1 28 (codes "a") (codes "b") ∷ [])
unfolding lib.Count.count_leading_zeros
broken_1-modes = refl

-- no bits from 0 end at the greatest number
--   m: MODULE DCL s STRUCT (a BOOL POS (0, 0, 0), b BOOL POS (0, 3 : 3)); END m;
abbrev broken_2 : ProgramTree
broken_2 = program ((modul (n 1 1 (codes "m")) modulions.Module ((local_item (locations (at 1 11) ((decl ((n 1 15 (codes "s")) ∷ []) (w.base_mode (w.structure (at 1 17) (w.field_nodes ((fields ((n 1 25 (codes "a")) ∷ []) (w.discrete (w.named (n 1 27 (codes "BOOL")))) (Some (place (at 1 32) (whole (at 1 37) 0) (whole (at 1 40) 0) forms.Length (whole (at 1 43) 0)))) ∷ (fields ((n 1 47 (codes "b")) ∷ []) (w.discrete (w.named (n 1 49 (codes "BOOL")))) (Some (place (at 1 54) (whole (at 1 59) 0) (whole (at 1 62) 3) forms.End (whole (at 1 66) 3)))) ∷ [])) None)) None) ∷ []))) ∷ []) None (Some (n 1 75 (codes "m")))) ∷ [])

broken_2-ground : IsGroundOf broken_2 (ground_of broken_2)
unfolding lib.Count.count_leading_zeros
broken_2-ground = record { names = refl; entries = refl }

broken_2-modes : broken_modes (ground_of broken_2) broken_2 ≡ (told_of rules.M14 1 25 (codes "a") ∷ told_both rules.M13 1 47 (codes "a") (codes "b") ∷ [])
unfolding lib.Count.count_leading_zeros
broken_2-modes = refl

-- impossible places go by the numbers too
--   m: MODULE DCL s STRUCT (a INT POS (0, 0 : 40), b BOOL POS (0, 35 : 36)); END m;
abbrev broken_3 : ProgramTree
broken_3 = program ((modul (n 1 1 (codes "m")) modulions.Module ((local_item (locations (at 1 11) ((decl ((n 1 15 (codes "s")) ∷ []) (w.base_mode (w.structure (at 1 17) (w.field_nodes ((fields ((n 1 25 (codes "a")) ∷ []) (w.discrete (w.named (n 1 27 (codes "INT")))) (Some (place (at 1 31) (whole (at 1 36) 0) (whole (at 1 39) 0) forms.End (whole (at 1 43) 40)))) ∷ (fields ((n 1 48 (codes "b")) ∷ []) (w.discrete (w.named (n 1 50 (codes "BOOL")))) (Some (place (at 1 55) (whole (at 1 60) 0) (whole (at 1 63) 35) forms.End (whole (at 1 68) 36)))) ∷ [])) None)) None) ∷ []))) ∷ []) None (Some (n 1 78 (codes "m")))) ∷ [])

broken_3-ground : IsGroundOf broken_3 (ground_of broken_3)
unfolding lib.Count.count_leading_zeros
broken_3-ground = record { names = refl; entries = refl }

broken_3-modes : broken_modes (ground_of broken_3) broken_3 ≡ (told_of rules.M14 1 25 (codes "a") ∷ told_both rules.M13 1 48 (codes "a") (codes "b") ∷ told_of rules.M14 1 48 (codes "b") ∷ [])
unfolding lib.Count.count_leading_zeros
broken_3-modes = refl

-- the example of the definition
--   M: MODULE DCL s STRUCT (a INT (0:255) POS (0, 0 : 7), b INT (0:255) POS (0, 4 : 11)); END M;
abbrev broken_4 : ProgramTree
broken_4 = program ((modul (n 1 1 (codes "M")) modulions.Module ((local_item (locations (at 1 11) ((decl ((n 1 15 (codes "s")) ∷ []) (w.base_mode (w.structure (at 1 17) (w.field_nodes ((fields ((n 1 25 (codes "a")) ∷ []) (w.discrete (w.bounded (n 1 27 (codes "INT")) (whole (at 1 32) 0) (whole (at 1 34) 255))) (Some (place (at 1 39) (whole (at 1 44) 0) (whole (at 1 47) 0) forms.End (whole (at 1 51) 7)))) ∷ (fields ((n 1 55 (codes "b")) ∷ []) (w.discrete (w.bounded (n 1 57 (codes "INT")) (whole (at 1 62) 0) (whole (at 1 64) 255))) (Some (place (at 1 69) (whole (at 1 74) 0) (whole (at 1 77) 4) forms.End (whole (at 1 81) 11)))) ∷ [])) None)) None) ∷ []))) ∷ []) None (Some (n 1 91 (codes "M")))) ∷ [])

broken_4-ground : IsGroundOf broken_4 (ground_of broken_4)
unfolding lib.Count.count_leading_zeros
broken_4-ground = record { names = refl; entries = refl }

broken_4-modes : broken_modes (ground_of broken_4) broken_4 ≡ (told_both rules.M13 1 55 (codes "a") (codes "b") ∷ [])
unfolding lib.Count.count_leading_zeros
broken_4-modes = refl

-- the first of the earlier ones is named
--   m: MODULE DCL s STRUCT (a BOOL POS (0, 0 : 0), b BOOL POS (0, 1 : 1), c INT (0:3) POS (0, 0 : 1),
--   d BOOL POS (0, 1 : 1)); END m;
abbrev broken_5 : ProgramTree
broken_5 = program ((modul (n 1 1 (codes "m")) modulions.Module ((local_item (locations (at 1 11) ((decl ((n 1 15 (codes "s")) ∷ []) (w.base_mode (w.structure (at 1 17) (w.field_nodes ((fields ((n 1 25 (codes "a")) ∷ []) (w.discrete (w.named (n 1 27 (codes "BOOL")))) (Some (place (at 1 32) (whole (at 1 37) 0) (whole (at 1 40) 0) forms.End (whole (at 1 44) 0)))) ∷ (fields ((n 1 48 (codes "b")) ∷ []) (w.discrete (w.named (n 1 50 (codes "BOOL")))) (Some (place (at 1 55) (whole (at 1 60) 0) (whole (at 1 63) 1) forms.End (whole (at 1 67) 1)))) ∷ (fields ((n 1 71 (codes "c")) ∷ []) (w.discrete (w.bounded (n 1 73 (codes "INT")) (whole (at 1 78) 0) (whole (at 1 80) 3))) (Some (place (at 1 83) (whole (at 1 88) 0) (whole (at 1 91) 0) forms.End (whole (at 1 95) 1)))) ∷ (fields ((n 2 1 (codes "d")) ∷ []) (w.discrete (w.named (n 2 3 (codes "BOOL")))) (Some (place (at 2 8) (whole (at 2 13) 0) (whole (at 2 16) 1) forms.End (whole (at 2 20) 1)))) ∷ [])) None)) None) ∷ []))) ∷ []) None (Some (n 2 29 (codes "m")))) ∷ [])

broken_5-ground : IsGroundOf broken_5 (ground_of broken_5)
unfolding lib.Count.count_leading_zeros
broken_5-ground = record { names = refl; entries = refl }

broken_5-modes : broken_modes (ground_of broken_5) broken_5 ≡ (told_both rules.M13 1 71 (codes "a") (codes "c") ∷ told_both rules.M13 2 1 (codes "b") (codes "d") ∷ [])
unfolding lib.Count.count_leading_zeros
broken_5-modes = refl

-- by a first bit and a number of bits
--   m: MODULE DCL s STRUCT (a INT (0:15) POS (1, 4, 4), b INT (0:15) POS (1, 7, 4)); END m;
abbrev broken_6 : ProgramTree
broken_6 = program ((modul (n 1 1 (codes "m")) modulions.Module ((local_item (locations (at 1 11) ((decl ((n 1 15 (codes "s")) ∷ []) (w.base_mode (w.structure (at 1 17) (w.field_nodes ((fields ((n 1 25 (codes "a")) ∷ []) (w.discrete (w.bounded (n 1 27 (codes "INT")) (whole (at 1 32) 0) (whole (at 1 34) 15))) (Some (place (at 1 38) (whole (at 1 43) 1) (whole (at 1 46) 4) forms.Length (whole (at 1 49) 4)))) ∷ (fields ((n 1 53 (codes "b")) ∷ []) (w.discrete (w.bounded (n 1 55 (codes "INT")) (whole (at 1 60) 0) (whole (at 1 62) 15))) (Some (place (at 1 66) (whole (at 1 71) 1) (whole (at 1 74) 7) forms.Length (whole (at 1 77) 4)))) ∷ [])) None)) None) ∷ []))) ∷ []) None (Some (n 1 86 (codes "m")))) ∷ [])

broken_6-ground : IsGroundOf broken_6 (ground_of broken_6)
unfolding lib.Count.count_leading_zeros
broken_6-ground = record { names = refl; entries = refl }

broken_6-modes : broken_modes (ground_of broken_6) broken_6 ≡ (told_both rules.M13 1 53 (codes "a") (codes "b") ∷ [])
unfolding lib.Count.count_leading_zeros
broken_6-modes = refl

-- fields side by side
--   m: MODULE DCL s STRUCT (a INT (0:255) POS (0, 0 : 7), b INT (0:255) POS (0, 8 : 15)); END m;
abbrev near_1 : ProgramTree
near_1 = program ((modul (n 1 1 (codes "m")) modulions.Module ((local_item (locations (at 1 11) ((decl ((n 1 15 (codes "s")) ∷ []) (w.base_mode (w.structure (at 1 17) (w.field_nodes ((fields ((n 1 25 (codes "a")) ∷ []) (w.discrete (w.bounded (n 1 27 (codes "INT")) (whole (at 1 32) 0) (whole (at 1 34) 255))) (Some (place (at 1 39) (whole (at 1 44) 0) (whole (at 1 47) 0) forms.End (whole (at 1 51) 7)))) ∷ (fields ((n 1 55 (codes "b")) ∷ []) (w.discrete (w.bounded (n 1 57 (codes "INT")) (whole (at 1 62) 0) (whole (at 1 64) 255))) (Some (place (at 1 69) (whole (at 1 74) 0) (whole (at 1 77) 8) forms.End (whole (at 1 81) 15)))) ∷ [])) None)) None) ∷ []))) ∷ []) None (Some (n 1 91 (codes "m")))) ∷ [])

near_1-ground : IsGroundOf near_1 (ground_of near_1)
unfolding lib.Count.count_leading_zeros
near_1-ground = record { names = refl; entries = refl }

near_1-modes : broken_modes (ground_of near_1) near_1 ≡ []
unfolding lib.Count.count_leading_zeros
near_1-modes = refl

near_1-counted : IsStatementGroundOf near_1 (counted_ground_of near_1)
unfolding lib.Count.count_leading_zeros
near_1-counted = record { names = refl; entries = refl }

near_1-statements : broken_statements (counted_ground_of near_1) near_1 ≡ []
unfolding lib.Count.count_leading_zeros
near_1-statements = refl

near_1-processes : broken_processes (counted_ground_of near_1) near_1 ≡ []
unfolding lib.Count.count_leading_zeros
near_1-processes = refl

-- the same bits of different structures
--   m: MODULE DCL s STRUCT (a STRUCT (x BOOL POS (0, 0 : 0)), b STRUCT (y BOOL POS (0, 0 : 0))); END m;
abbrev near_2 : ProgramTree
near_2 = program ((modul (n 1 1 (codes "m")) modulions.Module ((local_item (locations (at 1 11) ((decl ((n 1 15 (codes "s")) ∷ []) (w.base_mode (w.structure (at 1 17) (w.field_nodes ((fields ((n 1 25 (codes "a")) ∷ []) (w.structure (at 1 27) (w.field_nodes ((fields ((n 1 35 (codes "x")) ∷ []) (w.discrete (w.named (n 1 37 (codes "BOOL")))) (Some (place (at 1 42) (whole (at 1 47) 0) (whole (at 1 50) 0) forms.End (whole (at 1 54) 0)))) ∷ [])) None) None) ∷ (fields ((n 1 59 (codes "b")) ∷ []) (w.structure (at 1 61) (w.field_nodes ((fields ((n 1 69 (codes "y")) ∷ []) (w.discrete (w.named (n 1 71 (codes "BOOL")))) (Some (place (at 1 76) (whole (at 1 81) 0) (whole (at 1 84) 0) forms.End (whole (at 1 88) 0)))) ∷ [])) None) None) ∷ [])) None)) None) ∷ []))) ∷ []) None (Some (n 1 98 (codes "m")))) ∷ [])

near_2-ground : IsGroundOf near_2 (ground_of near_2)
unfolding lib.Count.count_leading_zeros
near_2-ground = record { names = refl; entries = refl }

near_2-modes : broken_modes (ground_of near_2) near_2 ≡ []
unfolding lib.Count.count_leading_zeros
near_2-modes = refl

near_2-counted : IsStatementGroundOf near_2 (counted_ground_of near_2)
unfolding lib.Count.count_leading_zeros
near_2-counted = record { names = refl; entries = refl }

near_2-statements : broken_statements (counted_ground_of near_2) near_2 ≡ []
unfolding lib.Count.count_leading_zeros
near_2-statements = refl

near_2-processes : broken_processes (counted_ground_of near_2) near_2 ≡ []
unfolding lib.Count.count_leading_zeros
near_2-processes = refl
