-- Rule M2: texts that break it, and texts that nearly do.
use Rattle.std.proofs.Common.{◌≡◌, refl}
use Rattle.std.specs.Prelude.{[], ◌∷◌, Some, None, codes}
use Rattle.chill_tree.specs.declared.tree.expr.Operator.TheVariants as ops
use Rattle.chill_tree.specs.declared.tree.expr.Prefix.TheVariants as prefixes
use Rattle.chill_tree.specs.declared.tree.item.ModulionKind.TheVariants as modulions
use Rattle.chill_tree.specs.ExprTree.{whole, name, prefixed, binary, alone, between}
use Rattle.chill_tree.specs.ModeTree as w
use Rattle.chill_tree.specs.LocalTree.{synonyms, locations}
use Rattle.chill_tree.specs.StatementTree.{bracketed, case_of, case_nodes, no_otherwise, handler_node}
use Rattle.chill_tree.specs.ItemTree.{ProgramTree, local_item, action}
use Rattle.diagnostics.specs.declared.rule.Rule.TheVariants as rules
use Rattle.checks_model.specs.Table.{IsGroundOf, IsStatementGroundOf}
use Rattle.checks_model.specs.Phases.{broken_modes, broken_statements, broken_processes}
use Rattle.checks_examples.proofs.Programs.{at, n, syn, decl, choice, modul, program, ground_of, counted_ground_of, told}

-- of a range, at the lower bound
--   m: MODULE DCL x INT (5:3); END m;
abbrev broken_1 : ProgramTree
broken_1 = program ((modul (n 1 1 (codes "m")) modulions.Module ((local_item (locations (at 1 11) ((decl ((n 1 15 (codes "x")) ∷ []) (w.base_mode (w.discrete (w.bounded (n 1 17 (codes "INT")) (whole (at 1 22) 5) (whole (at 1 24) 3)))) None) ∷ []))) ∷ []) None (Some (n 1 32 (codes "m")))) ∷ [])

broken_1-ground : IsGroundOf broken_1 (ground_of broken_1)
broken_1-ground = record { names = refl; entries = refl }

broken_1-modes : broken_modes (ground_of broken_1) broken_1 ≡ (told rules.M2 1 22 ∷ [])
broken_1-modes = refl

-- of an array
--   m: MODULE DCL a ARRAY (5:3) INT; END m;
abbrev broken_2 : ProgramTree
broken_2 = program ((modul (n 1 1 (codes "m")) modulions.Module ((local_item (locations (at 1 11) ((decl ((n 1 15 (codes "a")) ∷ []) (w.base_mode (w.array (at 1 17) (w.index_bounded (whole (at 1 24) 5) (whole (at 1 26) 3)) (w.discrete (w.named (n 1 29 (codes "INT")))) None)) None) ∷ []))) ∷ []) None (Some (n 1 38 (codes "m")))) ∷ [])

broken_2-ground : IsGroundOf broken_2 (ground_of broken_2)
broken_2-ground = record { names = refl; entries = refl }

broken_2-modes : broken_modes (ground_of broken_2) broken_2 ≡ (told rules.M2 1 24 ∷ [])
broken_2-modes = refl

-- at the first token of the lower bound
--   m: MODULE SYN n = 1; DCL x INT (n + 2:n); DCL y INT (-1:-2); END m;
abbrev broken_3 : ProgramTree
broken_3 = program ((modul (n 1 1 (codes "m")) modulions.Module ((local_item (synonyms (at 1 11) ((syn ((n 1 15 (codes "n")) ∷ []) None (whole (at 1 19) 1)) ∷ []))) ∷ (local_item (locations (at 1 22) ((decl ((n 1 26 (codes "x")) ∷ []) (w.base_mode (w.discrete (w.bounded (n 1 28 (codes "INT")) (binary (at 1 33) (name (n 1 33 (codes "n"))) ops.Plus (at 1 35) (whole (at 1 37) 2)) (name (n 1 39 (codes "n")))))) None) ∷ []))) ∷ (local_item (locations (at 1 43) ((decl ((n 1 47 (codes "y")) ∷ []) (w.base_mode (w.discrete (w.bounded (n 1 49 (codes "INT")) (prefixed (at 1 54) prefixes.Minus (whole (at 1 55) 1)) (prefixed (at 1 57) prefixes.Minus (whole (at 1 58) 2))))) None) ∷ []))) ∷ []) None (Some (n 1 66 (codes "m")))) ∷ [])

broken_3-ground : IsGroundOf broken_3 (ground_of broken_3)
broken_3-ground = record { names = refl; entries = refl }

broken_3-modes : broken_modes (ground_of broken_3) broken_3 ≡ (told rules.M2 1 33 ∷ told rules.M2 1 54 ∷ [])
broken_3-modes = refl

-- where the parent isn't discrete, the order isn't told
--   m: MODULE DCL x INSTANCE (5:3); END m;
abbrev near_1 : ProgramTree
near_1 = program ((modul (n 1 1 (codes "m")) modulions.Module ((local_item (locations (at 1 11) ((decl ((n 1 15 (codes "x")) ∷ []) (w.base_mode (w.discrete (w.bounded (n 1 17 (codes "INSTANCE")) (whole (at 1 27) 5) (whole (at 1 29) 3)))) None) ∷ []))) ∷ []) None (Some (n 1 37 (codes "m")))) ∷ [])

near_1-ground : IsGroundOf near_1 (ground_of near_1)
near_1-ground = record { names = refl; entries = refl }

near_1-modes : broken_modes (ground_of near_1) near_1 ≡ (told rules.M4 1 17 ∷ [])
near_1-modes = refl

-- a case label's range may be empty
--   m: MODULE DCL x INT; CASE x OF (5:3): (1): ESAC; END m;
abbrev near_2 : ProgramTree
near_2 = program ((modul (n 1 1 (codes "m")) modulions.Module ((local_item (locations (at 1 11) ((decl ((n 1 15 (codes "x")) ∷ []) (w.base_mode (w.discrete (w.named (n 1 17 (codes "INT"))))) None) ∷ []))) ∷ (action (bracketed (at 1 22) None (case_of (at 1 22) (name (n 1 27 (codes "x"))) (case_nodes ((choice (at 1 32) ((between (whole (at 1 33) 5) (whole (at 1 35) 3)) ∷ []) []) ∷ (choice (at 1 39) ((alone (whole (at 1 40) 1)) ∷ []) []) ∷ [])) no_otherwise) (handler_node None) None)) ∷ []) None (Some (n 1 54 (codes "m")))) ∷ [])

near_2-ground : IsGroundOf near_2 (ground_of near_2)
near_2-ground = record { names = refl; entries = refl }

near_2-modes : broken_modes (ground_of near_2) near_2 ≡ []
near_2-modes = refl

near_2-counted : IsStatementGroundOf near_2 (counted_ground_of near_2)
near_2-counted = record { names = refl; entries = refl }

near_2-statements : broken_statements (counted_ground_of near_2) near_2 ≡ []
near_2-statements = refl

near_2-processes : broken_processes (counted_ground_of near_2) near_2 ≡ []
near_2-processes = refl
