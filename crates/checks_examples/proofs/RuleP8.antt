-- Rule P8: texts that break it, and texts that nearly do.
use Rattle.std.proofs.Common.{◌≡◌, refl}
use Rattle.std.specs.Prelude.{[], ◌∷◌, Some, None, codes}
use Rattle.chill_tree.specs.declared.tree.item.ModulionKind.TheVariants as modulions
use Rattle.chill_tree.specs.ExprTree.{whole, name}
use Rattle.chill_tree.specs.ModeTree as w
use Rattle.chill_tree.specs.LocalTree.{syn_modes, new_modes, locations}
use Rattle.chill_tree.specs.SimpleTree.{assign, delay, continue_event, for_ever}
use Rattle.chill_tree.specs.StatementTree.{simple, bracketed, do_loop, begin_end, statement_nodes, handler_node, body_nodes, local_part, action_part}
use Rattle.chill_tree.specs.ItemTree.{ProgramTree, local_item, procedure, action, modulion_item}
use Rattle.diagnostics.specs.declared.rule.Rule.TheVariants as rules
use Rattle.checks_model.specs.Table.{IsGroundOf, IsStatementGroundOf}
use Rattle.checks_model.specs.Phases.{broken_modes, broken_statements, broken_processes}
use Rattle.checks_examples.proofs.Programs.{at, n, modedef, decl, hand, proc, modul, program, ground_of, counted_ground_of, told_of}

-- in a handler
--   m: MODULE DCL x INT; x := 1 ON ELSE BEGIN DCL e EVENT; END; END; END m;
abbrev broken_1 : ProgramTree
broken_1 = program ((modul (n 1 1 (codes "m")) modulions.Module ((local_item (locations (at 1 11) ((decl ((n 1 15 (codes "x")) ∷ []) (w.base_mode (w.discrete (w.named (n 1 17 (codes "INT"))))) None) ∷ []))) ∷ (action (simple (at 1 22) (assign (at 1 22) (name (n 1 22 (codes "x"))) (whole (at 1 27) 1)) (handler_node (Some (hand (at 1 29) [] (Some ((bracketed (at 1 37) None (begin_end (at 1 37) (body_nodes ((local_part (locations (at 1 43) ((decl ((n 1 47 (codes "e")) ∷ []) (w.event_mode (at 1 49) None) None) ∷ []))) ∷ []))) (handler_node None) None) ∷ []))))))) ∷ []) None (Some (n 1 70 (codes "m")))) ∷ [])

broken_1-ground : IsGroundOf broken_1 (ground_of broken_1)
broken_1-ground = record { names = refl; entries = refl }

broken_1-modes : broken_modes (ground_of broken_1) broken_1 ≡ []
broken_1-modes = refl

broken_1-counted : IsStatementGroundOf broken_1 (counted_ground_of broken_1)
broken_1-counted = record { names = refl; entries = refl }

broken_1-statements : broken_statements (counted_ground_of broken_1) broken_1 ≡ []
broken_1-statements = refl

broken_1-processes : broken_processes (counted_ground_of broken_1) broken_1 ≡ (told_of rules.P8 1 47 (codes "e") ∷ [])
broken_1-processes = refl

-- in a block of a procedure of a region
--   r: REGION f: PROC (); BEGIN DCL e EVENT; CONTINUE e; END; END f; END r; m: MODULE END m;
abbrev broken_2 : ProgramTree
broken_2 = program ((modul (n 1 1 (codes "r")) modulions.Region ((procedure (proc (n 1 11 (codes "f")) [] None None ((action_part (bracketed (at 1 23) None (begin_end (at 1 23) (body_nodes ((local_part (locations (at 1 29) ((decl ((n 1 33 (codes "e")) ∷ []) (w.event_mode (at 1 35) None) None) ∷ []))) ∷ (action_part (simple (at 1 42) (continue_event (at 1 42) (n 1 51 (codes "e"))) (handler_node None))) ∷ []))) (handler_node None) None)) ∷ []) None (Some (n 1 63 (codes "f"))))) ∷ []) None (Some (n 1 70 (codes "r")))) ∷ (modul (n 1 73 (codes "m")) modulions.Module [] None (Some (n 1 87 (codes "m")))) ∷ [])

broken_2-ground : IsGroundOf broken_2 (ground_of broken_2)
broken_2-ground = record { names = refl; entries = refl }

broken_2-modes : broken_modes (ground_of broken_2) broken_2 ≡ []
broken_2-modes = refl

broken_2-counted : IsStatementGroundOf broken_2 (counted_ground_of broken_2)
broken_2-counted = record { names = refl; entries = refl }

broken_2-statements : broken_statements (counted_ground_of broken_2) broken_2 ≡ []
broken_2-statements = refl

broken_2-processes : broken_processes (counted_ground_of broken_2) broken_2 ≡ (told_of rules.P8 1 33 (codes "e") ∷ [])
broken_2-processes = refl

-- in a block of a module
--   m: MODULE BEGIN DCL e EVENT; END; DO FOR EVER; BEGIN DCL b BUFFER (1) INT; END; OD; END m;
abbrev broken_3 : ProgramTree
broken_3 = program ((modul (n 1 1 (codes "m")) modulions.Module ((action (bracketed (at 1 11) None (begin_end (at 1 11) (body_nodes ((local_part (locations (at 1 17) ((decl ((n 1 21 (codes "e")) ∷ []) (w.event_mode (at 1 23) None) None) ∷ []))) ∷ []))) (handler_node None) None)) ∷ (action (bracketed (at 1 35) None (do_loop (at 1 35) (for_ever (at 1 38)) (statement_nodes ((bracketed (at 1 48) None (begin_end (at 1 48) (body_nodes ((local_part (locations (at 1 54) ((decl ((n 1 58 (codes "b")) ∷ []) (w.buffer_mode (at 1 60) (Some (whole (at 1 68) 1)) (w.discrete (w.named (n 1 71 (codes "INT"))))) None) ∷ []))) ∷ []))) (handler_node None) None) ∷ []))) (handler_node None) None)) ∷ []) None (Some (n 1 89 (codes "m")))) ∷ [])

broken_3-ground : IsGroundOf broken_3 (ground_of broken_3)
broken_3-ground = record { names = refl; entries = refl }

broken_3-modes : broken_modes (ground_of broken_3) broken_3 ≡ []
broken_3-modes = refl

broken_3-counted : IsStatementGroundOf broken_3 (counted_ground_of broken_3)
broken_3-counted = record { names = refl; entries = refl }

broken_3-statements : broken_statements (counted_ground_of broken_3) broken_3 ≡ []
broken_3-statements = refl

broken_3-processes : broken_processes (counted_ground_of broken_3) broken_3 ≡ (told_of rules.P8 1 21 (codes "e") ∷ told_of rules.P8 1 58 (codes "b") ∷ [])
broken_3-processes = refl

-- a name of such a mode in a body, and a location of that mode around it
--   m: MODULE DCL x f; SYNMODE f = EVENT; p: PROC (); SYNMODE g = BUFFER INT; NEWMODE h = f; DELAY x; END p; END m;
abbrev near_1 : ProgramTree
near_1 = program ((modul (n 1 1 (codes "m")) modulions.Module ((local_item (locations (at 1 11) ((decl ((n 1 15 (codes "x")) ∷ []) (w.base_mode (w.discrete (w.named (n 1 17 (codes "f"))))) None) ∷ []))) ∷ (local_item (syn_modes (at 1 20) ((modedef (n 1 28 (codes "f")) (w.event_mode (at 1 32) None)) ∷ []))) ∷ (procedure (proc (n 1 39 (codes "p")) [] None None ((local_part (syn_modes (at 1 51) ((modedef (n 1 59 (codes "g")) (w.buffer_mode (at 1 63) None (w.discrete (w.named (n 1 70 (codes "INT")))))) ∷ []))) ∷ (local_part (new_modes (at 1 75) ((modedef (n 1 83 (codes "h")) (w.base_mode (w.discrete (w.named (n 1 87 (codes "f")))))) ∷ []))) ∷ (action_part (simple (at 1 90) (delay (at 1 90) (n 1 96 (codes "x")) None) (handler_node None))) ∷ []) None (Some (n 1 103 (codes "p"))))) ∷ []) None (Some (n 1 110 (codes "m")))) ∷ [])

near_1-ground : IsGroundOf near_1 (ground_of near_1)
near_1-ground = record { names = refl; entries = refl }

near_1-modes : broken_modes (ground_of near_1) near_1 ≡ []
near_1-modes = refl

near_1-counted : IsStatementGroundOf near_1 (counted_ground_of near_1)
near_1-counted = record { names = refl; entries = refl }

near_1-statements : broken_statements (counted_ground_of near_1) near_1 ≡ []
near_1-statements = refl

near_1-processes : broken_processes (counted_ground_of near_1) near_1 ≡ []
near_1-processes = refl

-- directly in a module or region
--   m: MODULE DCL e EVENT, b BUFFER INT; n: MODULE DCL f EVENT; END n; r: REGION DCL g EVENT, c BUFFER BOOL; END r; END m;
abbrev near_2 : ProgramTree
near_2 = program ((modul (n 1 1 (codes "m")) modulions.Module ((local_item (locations (at 1 11) ((decl ((n 1 15 (codes "e")) ∷ []) (w.event_mode (at 1 17) None) None) ∷ (decl ((n 1 24 (codes "b")) ∷ []) (w.buffer_mode (at 1 26) None (w.discrete (w.named (n 1 33 (codes "INT"))))) None) ∷ []))) ∷ (modulion_item (modul (n 1 38 (codes "n")) modulions.Module ((local_item (locations (at 1 48) ((decl ((n 1 52 (codes "f")) ∷ []) (w.event_mode (at 1 54) None) None) ∷ []))) ∷ []) None (Some (n 1 65 (codes "n"))))) ∷ (modulion_item (modul (n 1 68 (codes "r")) modulions.Region ((local_item (locations (at 1 78) ((decl ((n 1 82 (codes "g")) ∷ []) (w.event_mode (at 1 84) None) None) ∷ (decl ((n 1 91 (codes "c")) ∷ []) (w.buffer_mode (at 1 93) None (w.discrete (w.named (n 1 100 (codes "BOOL"))))) None) ∷ []))) ∷ []) None (Some (n 1 110 (codes "r"))))) ∷ []) None (Some (n 1 117 (codes "m")))) ∷ [])

near_2-ground : IsGroundOf near_2 (ground_of near_2)
near_2-ground = record { names = refl; entries = refl }

near_2-modes : broken_modes (ground_of near_2) near_2 ≡ []
near_2-modes = refl

near_2-counted : IsStatementGroundOf near_2 (counted_ground_of near_2)
near_2-counted = record { names = refl; entries = refl }

near_2-statements : broken_statements (counted_ground_of near_2) near_2 ≡ []
near_2-statements = refl

near_2-processes : broken_processes (counted_ground_of near_2) near_2 ≡ []
near_2-processes = refl
