-- Rule S12: texts that break it, and texts that nearly do.
use Rattle.std.proofs.Common.{◌≡◌, refl}
use Rattle.std.specs.Prelude.{false, [], ◌∷◌, Some, None, codes}
use Rattle.chill_tree.specs.declared.tree.item.ModulionKind.TheVariants as modulions
use Rattle.chill_tree.specs.ExprTree.{whole, name}
use Rattle.chill_tree.specs.ModeTree as w
use Rattle.chill_tree.specs.LocalTree.{locations}
use Rattle.chill_tree.specs.SimpleTree.{assign, call_of, cause}
use Rattle.chill_tree.specs.StatementTree.{simple, bracketed, begin_end, handler_node, body_nodes, action_part}
use Rattle.chill_tree.specs.ItemTree.{ProgramTree, local_item, procedure, action}
use Rattle.diagnostics.specs.declared.rule.Rule.TheVariants as rules
use Rattle.checks_model.specs.Table.{IsGroundOf, IsStatementGroundOf}
use Rattle.checks_model.specs.Phases.{broken_modes, broken_statements, broken_processes}
use Rattle.checks_examples.proofs.Programs.{at, n, init, decl, alt, hand, proc, modul, program, ground_of, counted_ground_of, told_of}

-- in one list
--   m: MODULE BEGIN END ON (lost, lost): END; END m;
abbrev broken_1 : ProgramTree
broken_1 = program ((modul (n 1 1 (codes "m")) modulions.Module ((action (bracketed (at 1 11) None (begin_end (at 1 11) (body_nodes [])) (handler_node (Some (hand (at 1 21) ((alt (at 1 24) ((n 1 25 (codes "lost")) ∷ (n 1 31 (codes "lost")) ∷ []) []) ∷ []) None))) None)) ∷ []) None (Some (n 1 47 (codes "m")))) ∷ [])

broken_1-ground : IsGroundOf broken_1 (ground_of broken_1)
broken_1-ground = record { names = refl; entries = refl }

broken_1-modes : broken_modes (ground_of broken_1) broken_1 ≡ []
broken_1-modes = refl

broken_1-counted : IsStatementGroundOf broken_1 (counted_ground_of broken_1)
broken_1-counted = record { names = refl; entries = refl }

broken_1-statements : broken_statements (counted_ground_of broken_1) broken_1 ≡ (told_of rules.S12 1 31 (codes "lost") ∷ [])
broken_1-statements = refl

-- in two lists
--   m: MODULE DCL x INT; x := 1 ON (lost): (found, lost): END; END m;
abbrev broken_2 : ProgramTree
broken_2 = program ((modul (n 1 1 (codes "m")) modulions.Module ((local_item (locations (at 1 11) ((decl ((n 1 15 (codes "x")) ∷ []) (w.base_mode (w.discrete (w.named (n 1 17 (codes "INT"))))) None) ∷ []))) ∷ (action (simple (at 1 22) (assign (at 1 22) (name (n 1 22 (codes "x"))) (whole (at 1 27) 1)) (handler_node (Some (hand (at 1 29) ((alt (at 1 32) ((n 1 33 (codes "lost")) ∷ []) []) ∷ (alt (at 1 40) ((n 1 41 (codes "found")) ∷ (n 1 48 (codes "lost")) ∷ []) []) ∷ []) None))))) ∷ []) None (Some (n 1 64 (codes "m")))) ∷ [])

broken_2-ground : IsGroundOf broken_2 (ground_of broken_2)
broken_2-ground = record { names = refl; entries = refl }

broken_2-modes : broken_modes (ground_of broken_2) broken_2 ≡ []
broken_2-modes = refl

broken_2-counted : IsStatementGroundOf broken_2 (counted_ground_of broken_2)
broken_2-counted = record { names = refl; entries = refl }

broken_2-statements : broken_statements (counted_ground_of broken_2) broken_2 ≡ (told_of rules.S12 1 48 (codes "lost") ∷ [])
broken_2-statements = refl

-- in a region's handler
--   r: REGION DCL x INT := 1; END ON (lost, busy, lost): END r; m: MODULE END m;
abbrev broken_3 : ProgramTree
broken_3 = program ((modul (n 1 1 (codes "r")) modulions.Region ((local_item (locations (at 1 11) ((decl ((n 1 15 (codes "x")) ∷ []) (w.base_mode (w.discrete (w.named (n 1 17 (codes "INT"))))) (Some (init (at 1 21) false (whole (at 1 24) 1)))) ∷ []))) ∷ []) (Some (hand (at 1 31) ((alt (at 1 34) ((n 1 35 (codes "lost")) ∷ (n 1 41 (codes "busy")) ∷ (n 1 47 (codes "lost")) ∷ []) []) ∷ []) None)) (Some (n 1 58 (codes "r")))) ∷ (modul (n 1 61 (codes "m")) modulions.Module [] None (Some (n 1 75 (codes "m")))) ∷ [])

broken_3-ground : IsGroundOf broken_3 (ground_of broken_3)
broken_3-ground = record { names = refl; entries = refl }

broken_3-modes : broken_modes (ground_of broken_3) broken_3 ≡ []
broken_3-modes = refl

broken_3-counted : IsStatementGroundOf broken_3 (counted_ground_of broken_3)
broken_3-counted = record { names = refl; entries = refl }

broken_3-statements : broken_statements (counted_ground_of broken_3) broken_3 ≡ (told_of rules.S12 1 47 (codes "lost") ∷ [])
broken_3-statements = refl

-- names are compared exactly, but for those of the language
--   m: MODULE BEGIN END ON (lost, Lost, LOST, OVERFLOW, Overflow): ELSE END; END m;
abbrev near_1 : ProgramTree
near_1 = program ((modul (n 1 1 (codes "m")) modulions.Module ((action (bracketed (at 1 11) None (begin_end (at 1 11) (body_nodes [])) (handler_node (Some (hand (at 1 21) ((alt (at 1 24) ((n 1 25 (codes "lost")) ∷ (n 1 31 (codes "Lost")) ∷ (n 1 37 (codes "LOST")) ∷ (n 1 43 (codes "OVERFLOW")) ∷ (n 1 53 (codes "Overflow")) ∷ []) []) ∷ []) (Some [])))) None)) ∷ []) None (Some (n 1 78 (codes "m")))) ∷ [])

near_1-ground : IsGroundOf near_1 (ground_of near_1)
near_1-ground = record { names = refl; entries = refl }

near_1-modes : broken_modes (ground_of near_1) near_1 ≡ []
near_1-modes = refl

near_1-counted : IsStatementGroundOf near_1 (counted_ground_of near_1)
near_1-counted = record { names = refl; entries = refl }

near_1-statements : broken_statements (counted_ground_of near_1) near_1 ≡ []
near_1-statements = refl

near_1-processes : broken_processes (counted_ground_of near_1) near_1 ≡ []
near_1-processes = refl

-- the list of a procedure is no handler
--   m: MODULE p: PROC () EXCEPTIONS (lost, lost); CAUSE lost; END p; p() ON (lost): END; END m;
abbrev near_2 : ProgramTree
near_2 = program ((modul (n 1 1 (codes "m")) modulions.Module ((procedure (proc (n 1 11 (codes "p")) [] None (Some ((n 1 34 (codes "lost")) ∷ (n 1 40 (codes "lost")) ∷ [])) ((action_part (simple (at 1 47) (cause (at 1 47) (n 1 53 (codes "lost"))) (handler_node None))) ∷ []) None (Some (n 1 63 (codes "p"))))) ∷ (action (simple (at 1 66) (call_of (at 1 66) false (n 1 66 (codes "p")) []) (handler_node (Some (hand (at 1 70) ((alt (at 1 73) ((n 1 74 (codes "lost")) ∷ []) []) ∷ []) None))))) ∷ []) None (Some (n 1 90 (codes "m")))) ∷ [])

near_2-ground : IsGroundOf near_2 (ground_of near_2)
near_2-ground = record { names = refl; entries = refl }

near_2-modes : broken_modes (ground_of near_2) near_2 ≡ []
near_2-modes = refl

near_2-counted : IsStatementGroundOf near_2 (counted_ground_of near_2)
near_2-counted = record { names = refl; entries = refl }

near_2-statements : broken_statements (counted_ground_of near_2) near_2 ≡ []
near_2-statements = refl

near_2-processes : broken_processes (counted_ground_of near_2) near_2 ≡ []
near_2-processes = refl
