-- Rule P4: texts that break it, and texts that nearly do.
use Rattle.std.proofs.Common.{◌≡◌, refl}
use Rattle.std.specs.Prelude.{false, [], ◌∷◌, Some, None, codes}
use Rattle.chill_tree.specs.declared.tree.item.ModulionKind.TheVariants as modulions
use Rattle.chill_tree.specs.declared.tree.item.Passed.TheVariants.{Names, All}
use Rattle.chill_tree.specs.ExprTree.{whole, name}
use Rattle.chill_tree.specs.ModeTree as w
use Rattle.chill_tree.specs.LocalTree.{locations}
use Rattle.chill_tree.specs.SimpleTree.{assign, call_of, continue_event}
use Rattle.chill_tree.specs.StatementTree.{simple, handler_node, action_part}
use Rattle.chill_tree.specs.ItemTree.{ProgramTree, seize, grant, local_item, procedure, action, modulion_item}
use Rattle.diagnostics.specs.declared.rule.Rule.TheVariants as rules
use Rattle.checks_model.specs.Table.{IsGroundOf, IsStatementGroundOf}
use Rattle.checks_model.specs.Phases.{broken_modes, broken_statements, broken_processes}
use Rattle.checks_examples.proofs.Programs.{at, n, decl, proc, modul, program, ground_of, counted_ground_of, told_of}

-- by its name
--   r: REGION GRANT x; DCL x INT; END r; m: MODULE END m;
abbrev broken_1 : ProgramTree
broken_1 = program ((modul (n 1 1 (codes "r")) modulions.Region ((grant (at 1 11) (Names ((n 1 17 (codes "x")) ∷ []))) ∷ (local_item (locations (at 1 20) ((decl ((n 1 24 (codes "x")) ∷ []) (w.base_mode (w.discrete (w.named (n 1 26 (codes "INT"))))) None) ∷ []))) ∷ []) None (Some (n 1 35 (codes "r")))) ∷ (modul (n 1 38 (codes "m")) modulions.Module [] None (Some (n 1 52 (codes "m")))) ∷ [])

broken_1-ground : IsGroundOf broken_1 (ground_of broken_1)
broken_1-ground = record { names = refl; entries = refl }

broken_1-modes : broken_modes (ground_of broken_1) broken_1 ≡ []
broken_1-modes = refl

broken_1-counted : IsStatementGroundOf broken_1 (counted_ground_of broken_1)
broken_1-counted = record { names = refl; entries = refl }

broken_1-statements : broken_statements (counted_ground_of broken_1) broken_1 ≡ []
broken_1-statements = refl

broken_1-processes : broken_processes (counted_ground_of broken_1) broken_1 ≡ (told_of rules.P4 1 17 (codes "x") ∷ [])
broken_1-processes = refl

-- in a module
--   m: MODULE r: REGION GRANT x; DCL x INT; END r; x := 1; END m;
abbrev broken_2 : ProgramTree
broken_2 = program ((modul (n 1 1 (codes "m")) modulions.Module ((modulion_item (modul (n 1 11 (codes "r")) modulions.Region ((grant (at 1 21) (Names ((n 1 27 (codes "x")) ∷ []))) ∷ (local_item (locations (at 1 30) ((decl ((n 1 34 (codes "x")) ∷ []) (w.base_mode (w.discrete (w.named (n 1 36 (codes "INT"))))) None) ∷ []))) ∷ []) None (Some (n 1 45 (codes "r"))))) ∷ (action (simple (at 1 48) (assign (at 1 48) (name (n 1 48 (codes "x"))) (whole (at 1 53) 1)) (handler_node None))) ∷ []) None (Some (n 1 60 (codes "m")))) ∷ [])

broken_2-ground : IsGroundOf broken_2 (ground_of broken_2)
broken_2-ground = record { names = refl; entries = refl }

broken_2-modes : broken_modes (ground_of broken_2) broken_2 ≡ []
broken_2-modes = refl

broken_2-counted : IsStatementGroundOf broken_2 (counted_ground_of broken_2)
broken_2-counted = record { names = refl; entries = refl }

broken_2-statements : broken_statements (counted_ground_of broken_2) broken_2 ≡ []
broken_2-statements = refl

broken_2-processes : broken_processes (counted_ground_of broken_2) broken_2 ≡ (told_of rules.P4 1 27 (codes "x") ∷ [])
broken_2-processes = refl

-- also where nobody takes it, and where somebody does
--   r: REGION GRANT x; DCL x INT; END r; m: MODULE SEIZE x; x := 1; END m;
abbrev broken_3 : ProgramTree
broken_3 = program ((modul (n 1 1 (codes "r")) modulions.Region ((grant (at 1 11) (Names ((n 1 17 (codes "x")) ∷ []))) ∷ (local_item (locations (at 1 20) ((decl ((n 1 24 (codes "x")) ∷ []) (w.base_mode (w.discrete (w.named (n 1 26 (codes "INT"))))) None) ∷ []))) ∷ []) None (Some (n 1 35 (codes "r")))) ∷ (modul (n 1 38 (codes "m")) modulions.Module ((seize (at 1 48) (Names ((n 1 54 (codes "x")) ∷ []))) ∷ (action (simple (at 1 57) (assign (at 1 57) (name (n 1 57 (codes "x"))) (whole (at 1 62) 1)) (handler_node None))) ∷ []) None (Some (n 1 69 (codes "m")))) ∷ [])

broken_3-ground : IsGroundOf broken_3 (ground_of broken_3)
broken_3-ground = record { names = refl; entries = refl }

broken_3-modes : broken_modes (ground_of broken_3) broken_3 ≡ []
broken_3-modes = refl

broken_3-counted : IsStatementGroundOf broken_3 (counted_ground_of broken_3)
broken_3-counted = record { names = refl; entries = refl }

broken_3-statements : broken_statements (counted_ground_of broken_3) broken_3 ≡ []
broken_3-statements = refl

broken_3-processes : broken_processes (counted_ground_of broken_3) broken_3 ≡ (told_of rules.P4 1 17 (codes "x") ∷ [])
broken_3-processes = refl

-- a module may grant its locations
--   m: MODULE GRANT x, e; DCL x INT, e EVENT; END m; n: MODULE SEIZE x, e; x := 1; CONTINUE e; END n;
abbrev near_1 : ProgramTree
near_1 = program ((modul (n 1 1 (codes "m")) modulions.Module ((grant (at 1 11) (Names ((n 1 17 (codes "x")) ∷ (n 1 20 (codes "e")) ∷ []))) ∷ (local_item (locations (at 1 23) ((decl ((n 1 27 (codes "x")) ∷ []) (w.base_mode (w.discrete (w.named (n 1 29 (codes "INT"))))) None) ∷ (decl ((n 1 34 (codes "e")) ∷ []) (w.event_mode (at 1 36) None) None) ∷ []))) ∷ []) None (Some (n 1 47 (codes "m")))) ∷ (modul (n 1 50 (codes "n")) modulions.Module ((seize (at 1 60) (Names ((n 1 66 (codes "x")) ∷ (n 1 69 (codes "e")) ∷ []))) ∷ (action (simple (at 1 72) (assign (at 1 72) (name (n 1 72 (codes "x"))) (whole (at 1 77) 1)) (handler_node None))) ∷ (action (simple (at 1 80) (continue_event (at 1 80) (n 1 89 (codes "e"))) (handler_node None))) ∷ []) None (Some (n 1 96 (codes "n")))) ∷ [])

near_1-ground : IsGroundOf near_1 (ground_of near_1)
near_1-ground = record { names = refl; entries = refl }

near_1-modes : broken_modes (ground_of near_1) near_1 ≡ []
near_1-modes = refl

near_1-counted : IsStatementGroundOf near_1 (counted_ground_of near_1)
near_1-counted = record { names = refl; entries = refl }

near_1-statements : broken_statements (counted_ground_of near_1) near_1 ≡ []
near_1-statements = refl

near_1-processes : broken_processes (counted_ground_of near_1) near_1 ≡ []
near_1-processes = refl

-- GRANT ALL leaves locations out
--   r: REGION GRANT ALL; DCL x INT, e EVENT; f: PROC (); x := 1; END f; END r; m: MODULE SEIZE ALL; f(); END m;
abbrev near_2 : ProgramTree
near_2 = program ((modul (n 1 1 (codes "r")) modulions.Region ((grant (at 1 11) (All (at 1 17))) ∷ (local_item (locations (at 1 22) ((decl ((n 1 26 (codes "x")) ∷ []) (w.base_mode (w.discrete (w.named (n 1 28 (codes "INT"))))) None) ∷ (decl ((n 1 33 (codes "e")) ∷ []) (w.event_mode (at 1 35) None) None) ∷ []))) ∷ (procedure (proc (n 1 42 (codes "f")) [] None None ((action_part (simple (at 1 54) (assign (at 1 54) (name (n 1 54 (codes "x"))) (whole (at 1 59) 1)) (handler_node None))) ∷ []) None (Some (n 1 66 (codes "f"))))) ∷ []) None (Some (n 1 73 (codes "r")))) ∷ (modul (n 1 76 (codes "m")) modulions.Module ((seize (at 1 86) (All (at 1 92))) ∷ (action (simple (at 1 97) (call_of (at 1 97) false (n 1 97 (codes "f")) []) (handler_node None))) ∷ []) None (Some (n 1 106 (codes "m")))) ∷ [])

near_2-ground : IsGroundOf near_2 (ground_of near_2)
near_2-ground = record { names = refl; entries = refl }

near_2-modes : broken_modes (ground_of near_2) near_2 ≡ []
near_2-modes = refl

near_2-counted : IsStatementGroundOf near_2 (counted_ground_of near_2)
near_2-counted = record { names = refl; entries = refl }

near_2-statements : broken_statements (counted_ground_of near_2) near_2 ≡ []
near_2-statements = refl

near_2-processes : broken_processes (counted_ground_of near_2) near_2 ≡ []
near_2-processes = refl
