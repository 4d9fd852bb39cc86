-- Rule P1: texts that break it, and texts that nearly do.
use Rattle.std.proofs.Common.{◌≡◌, refl}
use Rattle.std.specs.Prelude.{false, [], ◌∷◌, Some, None, codes}
use Rattle.chill_tree.specs.declared.tree.expr.Operator.TheVariants as ops
use Rattle.chill_tree.specs.declared.tree.item.ModulionKind.TheVariants as modulions
use Rattle.chill_tree.specs.declared.tree.item.Passed.TheVariants.{Names}
use Rattle.chill_tree.specs.ExprTree.{whole, name}
use Rattle.chill_tree.specs.ModeTree as w
use Rattle.chill_tree.specs.LocalTree.{locations}
use Rattle.chill_tree.specs.SimpleTree.{update, call_of, start_of}
use Rattle.chill_tree.specs.StatementTree.{simple, handler_node, action_part}
use Rattle.chill_tree.specs.ItemTree.{ProgramTree, seize, grant, local_item, procedure, process, action, modulion_item}
use Rattle.diagnostics.specs.declared.rule.Rule.TheVariants as rules
use Rattle.checks_model.specs.Table.{IsGroundOf, IsStatementGroundOf}
use Rattle.checks_model.specs.Phases.{broken_modes, broken_statements, broken_processes}
use Rattle.checks_examples.proofs.Programs.{at, n, decl, proc, proce, modul, program, ground_of, counted_ground_of, told_of}

-- at its name
--   r: REGION p: PROCESS (); END p; END r; m: MODULE END m;
abbrev broken_1 : ProgramTree
broken_1 = program ((modul (n 1 1 (codes "r")) modulions.Region ((process (proce (n 1 11 (codes "p")) [] [] None (Some (n 1 30 (codes "p"))))) ∷ []) None (Some (n 1 37 (codes "r")))) ∷ (modul (n 1 40 (codes "m")) modulions.Module [] None (Some (n 1 54 (codes "m")))) ∷ [])

broken_1-ground : IsGroundOf broken_1 (ground_of broken_1)
broken_1-ground = record { names = refl; entries = refl }

broken_1-modes : broken_modes (ground_of broken_1) broken_1 ≡ []
broken_1-modes = refl

broken_1-counted : IsStatementGroundOf broken_1 (counted_ground_of broken_1)
broken_1-counted = record { names = refl; entries = refl }

broken_1-statements : broken_statements (counted_ground_of broken_1) broken_1 ≡ []
broken_1-statements = refl

broken_1-processes : broken_processes (counted_ground_of broken_1) broken_1 ≡ (told_of rules.P1 1 11 (codes "p") ∷ [])
broken_1-processes = refl

-- a region inside a module
--   m: MODULE r: REGION p: PROCESS (); END p; END r; p: PROCESS (); END p; END m;
abbrev broken_2 : ProgramTree
broken_2 = program ((modul (n 1 1 (codes "m")) modulions.Module ((modulion_item (modul (n 1 11 (codes "r")) modulions.Region ((process (proce (n 1 21 (codes "p")) [] [] None (Some (n 1 40 (codes "p"))))) ∷ []) None (Some (n 1 47 (codes "r"))))) ∷ (process (proce (n 1 50 (codes "p")) [] [] None (Some (n 1 69 (codes "p"))))) ∷ []) None (Some (n 1 76 (codes "m")))) ∷ [])

broken_2-ground : IsGroundOf broken_2 (ground_of broken_2)
broken_2-ground = record { names = refl; entries = refl }

broken_2-modes : broken_modes (ground_of broken_2) broken_2 ≡ []
broken_2-modes = refl

broken_2-counted : IsStatementGroundOf broken_2 (counted_ground_of broken_2)
broken_2-counted = record { names = refl; entries = refl }

broken_2-statements : broken_statements (counted_ground_of broken_2) broken_2 ≡ []
broken_2-statements = refl

broken_2-processes : broken_processes (counted_ground_of broken_2) broken_2 ≡ (told_of rules.P1 1 21 (codes "p") ∷ [])
broken_2-processes = refl

-- also where the region grants it
--   r: REGION GRANT p; p: PROCESS (); END p; END r; m: MODULE SEIZE p; START p(); END m;
abbrev broken_3 : ProgramTree
broken_3 = program ((modul (n 1 1 (codes "r")) modulions.Region ((grant (at 1 11) (Names ((n 1 17 (codes "p")) ∷ []))) ∷ (process (proce (n 1 20 (codes "p")) [] [] None (Some (n 1 39 (codes "p"))))) ∷ []) None (Some (n 1 46 (codes "r")))) ∷ (modul (n 1 49 (codes "m")) modulions.Module ((seize (at 1 59) (Names ((n 1 65 (codes "p")) ∷ []))) ∷ (action (simple (at 1 68) (start_of (at 1 68) (n 1 74 (codes "p")) []) (handler_node None))) ∷ []) None (Some (n 1 83 (codes "m")))) ∷ [])

broken_3-ground : IsGroundOf broken_3 (ground_of broken_3)
broken_3-ground = record { names = refl; entries = refl }

broken_3-modes : broken_modes (ground_of broken_3) broken_3 ≡ []
broken_3-modes = refl

broken_3-counted : IsStatementGroundOf broken_3 (counted_ground_of broken_3)
broken_3-counted = record { names = refl; entries = refl }

broken_3-statements : broken_statements (counted_ground_of broken_3) broken_3 ≡ []
broken_3-statements = refl

broken_3-processes : broken_processes (counted_ground_of broken_3) broken_3 ≡ (told_of rules.P1 1 20 (codes "p") ∷ [])
broken_3-processes = refl

-- a process of a module inside a module
--   m: MODULE a: MODULE GRANT p; p: PROCESS (); END p; END a; START p(); END m;
abbrev near_1 : ProgramTree
near_1 = program ((modul (n 1 1 (codes "m")) modulions.Module ((modulion_item (modul (n 1 11 (codes "a")) modulions.Module ((grant (at 1 21) (Names ((n 1 27 (codes "p")) ∷ []))) ∷ (process (proce (n 1 30 (codes "p")) [] [] None (Some (n 1 49 (codes "p"))))) ∷ []) None (Some (n 1 56 (codes "a"))))) ∷ (action (simple (at 1 59) (start_of (at 1 59) (n 1 65 (codes "p")) []) (handler_node None))) ∷ []) None (Some (n 1 74 (codes "m")))) ∷ [])

near_1-ground : IsGroundOf near_1 (ground_of near_1)
near_1-ground = record { names = refl; entries = refl }

near_1-modes : broken_modes (ground_of near_1) near_1 ≡ []
near_1-modes = refl

near_1-counted : IsStatementGroundOf near_1 (counted_ground_of near_1)
near_1-counted = record { names = refl; entries = refl }

near_1-statements : broken_statements (counted_ground_of near_1) near_1 ≡ []
near_1-statements = refl

near_1-processes : broken_processes (counted_ground_of near_1) near_1 ≡ []
near_1-processes = refl

-- a process that takes part in a region
--   r: REGION GRANT f; DCL x INT; f: PROC (); x +:= 1; END f; END r; m: MODULE SEIZE f; p: PROCESS (); f(); END p; START p(); END m;
abbrev near_2 : ProgramTree
near_2 = program ((modul (n 1 1 (codes "r")) modulions.Region ((grant (at 1 11) (Names ((n 1 17 (codes "f")) ∷ []))) ∷ (local_item (locations (at 1 20) ((decl ((n 1 24 (codes "x")) ∷ []) (w.base_mode (w.discrete (w.named (n 1 26 (codes "INT"))))) None) ∷ []))) ∷ (procedure (proc (n 1 31 (codes "f")) [] None None ((action_part (simple (at 1 43) (update (at 1 43) (name (n 1 43 (codes "x"))) ops.Plus (at 1 45) (whole (at 1 49) 1)) (handler_node None))) ∷ []) None (Some (n 1 56 (codes "f"))))) ∷ []) None (Some (n 1 63 (codes "r")))) ∷ (modul (n 1 66 (codes "m")) modulions.Module ((seize (at 1 76) (Names ((n 1 82 (codes "f")) ∷ []))) ∷ (process (proce (n 1 85 (codes "p")) [] ((action_part (simple (at 1 100) (call_of (at 1 100) false (n 1 100 (codes "f")) []) (handler_node None))) ∷ []) None (Some (n 1 109 (codes "p"))))) ∷ (action (simple (at 1 112) (start_of (at 1 112) (n 1 118 (codes "p")) []) (handler_node None))) ∷ []) None (Some (n 1 127 (codes "m")))) ∷ [])

near_2-ground : IsGroundOf near_2 (ground_of near_2)
near_2-ground = record { names = refl; entries = refl }

near_2-modes : broken_modes (ground_of near_2) near_2 ≡ []
near_2-modes = refl

near_2-counted : IsStatementGroundOf near_2 (counted_ground_of near_2)
near_2-counted = record { names = refl; entries = refl }

near_2-statements : broken_statements (counted_ground_of near_2) near_2 ≡ []
near_2-statements = refl

near_2-processes : broken_processes (counted_ground_of near_2) near_2 ≡ []
near_2-processes = refl
