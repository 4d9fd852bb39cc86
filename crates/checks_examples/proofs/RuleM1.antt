-- Rule M1: texts that break it, and texts that nearly do.
use Rattle.std.proofs.Common.{◌≡◌, refl}
use Rattle.std.specs.Prelude.{false, [], ◌∷◌, Some, None, codes}
use Rattle.chill_tree.specs.declared.tree.expr.Operator.TheVariants as ops
use Rattle.chill_tree.specs.declared.tree.item.ModulionKind.TheVariants as modulions
use Rattle.chill_tree.specs.ExprTree.{whole, paren, name, binary}
use Rattle.chill_tree.specs.ModeTree as w
use Rattle.chill_tree.specs.LocalTree.{synonyms, locations}
use Rattle.chill_tree.specs.ItemTree.{ProgramTree, local_item}
use Rattle.diagnostics.specs.declared.rule.Rule.TheVariants as rules
use Rattle.checks_model.specs.Table.{IsGroundOf, IsStatementGroundOf}
use Rattle.checks_model.specs.Phases.{broken_modes, broken_statements, broken_processes}
use Rattle.checks_examples.proofs.Programs.{at, n, syn, init, decl, modul, program, ground_of, counted_ground_of, told}

-- one expression of two synonyms is told once
--   m: MODULE DCL n INT; SYN k, l = n; END m;
abbrev broken_1 : ProgramTree
broken_1 = program ((modul (n 1 1 (codes "m")) modulions.Module ((local_item (locations (at 1 11) ((decl ((n 1 15 (codes "n")) ∷ []) (w.base_mode (w.discrete (w.named (n 1 17 (codes "INT"))))) None) ∷ []))) ∷ (local_item (synonyms (at 1 22) ((syn ((n 1 26 (codes "k")) ∷ (n 1 29 (codes "l")) ∷ []) None (name (n 1 33 (codes "n")))) ∷ []))) ∷ []) None (Some (n 1 40 (codes "m")))) ∷ [])

broken_1-ground : IsGroundOf broken_1 (ground_of broken_1)
broken_1-ground = record { names = refl; entries = refl }

broken_1-modes : broken_modes (ground_of broken_1) broken_1 ≡ (told rules.M1 1 33 ∷ [])
broken_1-modes = refl

-- the expression of a synonym
--   m: MODULE DCL n INT; SYN k = n + 1; END m;
abbrev broken_2 : ProgramTree
broken_2 = program ((modul (n 1 1 (codes "m")) modulions.Module ((local_item (locations (at 1 11) ((decl ((n 1 15 (codes "n")) ∷ []) (w.base_mode (w.discrete (w.named (n 1 17 (codes "INT"))))) None) ∷ []))) ∷ (local_item (synonyms (at 1 22) ((syn ((n 1 26 (codes "k")) ∷ []) None (binary (at 1 30) (name (n 1 30 (codes "n"))) ops.Plus (at 1 32) (whole (at 1 34) 1))) ∷ []))) ∷ []) None (Some (n 1 41 (codes "m")))) ∷ [])

broken_2-ground : IsGroundOf broken_2 (ground_of broken_2)
broken_2-ground = record { names = refl; entries = refl }

broken_2-modes : broken_modes (ground_of broken_2) broken_2 ≡ (told rules.M1 1 30 ∷ [])
broken_2-modes = refl

-- a synonym with a written mode
--   m: MODULE DCL n INT; SYN k INT = n; END m;
abbrev broken_3 : ProgramTree
broken_3 = program ((modul (n 1 1 (codes "m")) modulions.Module ((local_item (locations (at 1 11) ((decl ((n 1 15 (codes "n")) ∷ []) (w.base_mode (w.discrete (w.named (n 1 17 (codes "INT"))))) None) ∷ []))) ∷ (local_item (synonyms (at 1 22) ((syn ((n 1 26 (codes "k")) ∷ []) (Some (w.base_mode (w.discrete (w.named (n 1 28 (codes "INT")))))) (name (n 1 34 (codes "n")))) ∷ []))) ∷ []) None (Some (n 1 41 (codes "m")))) ∷ [])

broken_3-ground : IsGroundOf broken_3 (ground_of broken_3)
broken_3-ground = record { names = refl; entries = refl }

broken_3-modes : broken_modes (ground_of broken_3) broken_3 ≡ (told rules.M1 1 34 ∷ [])
broken_3-modes = refl

-- the value of a declaration needn't be constant
--   m: MODULE DCL n INT := 1; DCL x INT := n; END m;
abbrev near_1 : ProgramTree
near_1 = program ((modul (n 1 1 (codes "m")) modulions.Module ((local_item (locations (at 1 11) ((decl ((n 1 15 (codes "n")) ∷ []) (w.base_mode (w.discrete (w.named (n 1 17 (codes "INT"))))) (Some (init (at 1 21) false (whole (at 1 24) 1)))) ∷ []))) ∷ (local_item (locations (at 1 27) ((decl ((n 1 31 (codes "x")) ∷ []) (w.base_mode (w.discrete (w.named (n 1 33 (codes "INT"))))) (Some (init (at 1 37) false (name (n 1 40 (codes "n")))))) ∷ []))) ∷ []) None (Some (n 1 47 (codes "m")))) ∷ [])

near_1-ground : IsGroundOf near_1 (ground_of near_1)
near_1-ground = record { names = refl; entries = refl }

near_1-modes : broken_modes (ground_of near_1) near_1 ≡ []
near_1-modes = refl

near_1-counted : IsStatementGroundOf near_1 (counted_ground_of near_1)
near_1-counted = record { names = refl; entries = refl }

near_1-statements : broken_statements (counted_ground_of near_1) near_1 ≡ []
near_1-statements = refl

near_1-processes : broken_processes (counted_ground_of near_1) near_1 ≡ []
near_1-processes = refl

-- brackets round a constant
--   m: MODULE SYN k = (((3))); DCL x INT ((1):(k)); END m;
abbrev near_2 : ProgramTree
near_2 = program ((modul (n 1 1 (codes "m")) modulions.Module ((local_item (synonyms (at 1 11) ((syn ((n 1 15 (codes "k")) ∷ []) None (paren (at 1 19) (paren (at 1 20) (paren (at 1 21) (whole (at 1 22) 3))))) ∷ []))) ∷ (local_item (locations (at 1 28) ((decl ((n 1 32 (codes "x")) ∷ []) (w.base_mode (w.discrete (w.bounded (n 1 34 (codes "INT")) (paren (at 1 39) (whole (at 1 40) 1)) (paren (at 1 43) (name (n 1 44 (codes "k"))))))) None) ∷ []))) ∷ []) None (Some (n 1 53 (codes "m")))) ∷ [])

near_2-ground : IsGroundOf near_2 (ground_of near_2)
near_2-ground = record { names = refl; entries = refl }

near_2-modes : broken_modes (ground_of near_2) near_2 ≡ []
near_2-modes = refl

near_2-counted : IsStatementGroundOf near_2 (counted_ground_of near_2)
near_2-counted = record { names = refl; entries = refl }

near_2-statements : broken_statements (counted_ground_of near_2) near_2 ≡ []
near_2-statements = refl

near_2-processes : broken_processes (counted_ground_of near_2) near_2 ≡ []
near_2-processes = refl
