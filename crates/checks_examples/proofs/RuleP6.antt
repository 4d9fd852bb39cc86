-- Rule P6: texts that break it, and texts that nearly do.
use Rattle.std.proofs.Common.{◌≡◌, refl}
use Rattle.std.specs.Prelude.{[], ◌∷◌, Some, None, codes}
use Rattle.chill_tree.specs.declared.tree.expr.Operator.TheVariants as ops
use Rattle.chill_tree.specs.declared.tree.expr.Prefix.TheVariants as prefixes
use Rattle.chill_tree.specs.declared.tree.item.ModulionKind.TheVariants as modulions
use Rattle.chill_tree.specs.ExprTree.{whole, paren, name, apply, prefixed, binary, expr_nodes}
use Rattle.chill_tree.specs.ModeTree as w
use Rattle.chill_tree.specs.LocalTree.{synonyms, new_modes, locations}
use Rattle.chill_tree.specs.SimpleTree.{delay, send}
use Rattle.chill_tree.specs.StatementTree.{simple, bracketed, delay_case, named_nodes, handler_node}
use Rattle.chill_tree.specs.ItemTree.{ProgramTree, local_item, signals, action}
use Rattle.diagnostics.specs.declared.rule.Rule.TheVariants as rules
use Rattle.checks_model.specs.Table.{IsGroundOf, IsStatementGroundOf}
use Rattle.checks_model.specs.Phases.{broken_modes, broken_statements, broken_processes}
use Rattle.checks_examples.proofs.Programs.{at, n, syn, modedef, decl, alt, hand, sig, modul, program, ground_of, counted_ground_of, told}

-- of DELAY
--   m: MODULE DCL e EVENT; DELAY e PRIORITY 1000001; DELAY e PRIORITY -1; END m;
abbrev broken_1 : ProgramTree
broken_1 = program ((modul (n 1 1 (codes "m")) modulions.Module ((local_item (locations (at 1 11) ((decl ((n 1 15 (codes "e")) ∷ []) (w.event_mode (at 1 17) None) None) ∷ []))) ∷ (action (simple (at 1 24) (delay (at 1 24) (n 1 30 (codes "e")) (Some (whole (at 1 41) 1000001))) (handler_node None))) ∷ (action (simple (at 1 50) (delay (at 1 50) (n 1 56 (codes "e")) (Some (prefixed (at 1 67) prefixes.Minus (whole (at 1 68) 1)))) (handler_node None))) ∷ []) None (Some (n 1 75 (codes "m")))) ∷ [])

broken_1-ground : IsGroundOf broken_1 (ground_of broken_1)
broken_1-ground = record { names = refl; entries = refl }

broken_1-modes : broken_modes (ground_of broken_1) broken_1 ≡ []
broken_1-modes = refl

broken_1-counted : IsStatementGroundOf broken_1 (counted_ground_of broken_1)
broken_1-counted = record { names = refl; entries = refl }

broken_1-statements : broken_statements (counted_ground_of broken_1) broken_1 ≡ []
broken_1-statements = refl

broken_1-processes : broken_processes (counted_ground_of broken_1) broken_1 ≡ (told rules.P6 1 41 ∷ told rules.P6 1 67 ∷ [])
broken_1-processes = refl

-- a priority of another novelty
--   m: MODULE NEWMODE o = INT; SYN k o = 1; DCL e EVENT; DELAY e PRIORITY k; END m;
abbrev broken_2 : ProgramTree
broken_2 = program ((modul (n 1 1 (codes "m")) modulions.Module ((local_item (new_modes (at 1 11) ((modedef (n 1 19 (codes "o")) (w.base_mode (w.discrete (w.named (n 1 23 (codes "INT")))))) ∷ []))) ∷ (local_item (synonyms (at 1 28) ((syn ((n 1 32 (codes "k")) ∷ []) (Some (w.base_mode (w.discrete (w.named (n 1 34 (codes "o")))))) (whole (at 1 38) 1)) ∷ []))) ∷ (local_item (locations (at 1 41) ((decl ((n 1 45 (codes "e")) ∷ []) (w.event_mode (at 1 47) None) None) ∷ []))) ∷ (action (simple (at 1 54) (delay (at 1 54) (n 1 60 (codes "e")) (Some (name (n 1 71 (codes "k"))))) (handler_node None))) ∷ []) None (Some (n 1 78 (codes "m")))) ∷ [])

broken_2-ground : IsGroundOf broken_2 (ground_of broken_2)
broken_2-ground = record { names = refl; entries = refl }

broken_2-modes : broken_modes (ground_of broken_2) broken_2 ≡ []
broken_2-modes = refl

broken_2-counted : IsStatementGroundOf broken_2 (counted_ground_of broken_2)
broken_2-counted = record { names = refl; entries = refl }

broken_2-statements : broken_statements (counted_ground_of broken_2) broken_2 ≡ []
broken_2-statements = refl

broken_2-processes : broken_processes (counted_ground_of broken_2) broken_2 ≡ (told rules.P6 1 71 ∷ [])
broken_2-processes = refl

-- at the first token of the expression
--   m: MODULE SYN k = 1000000; DCL e EVENT; DELAY e PRIORITY k + 1; DELAY e PRIORITY (k) * 2; END m;
abbrev broken_3 : ProgramTree
broken_3 = program ((modul (n 1 1 (codes "m")) modulions.Module ((local_item (synonyms (at 1 11) ((syn ((n 1 15 (codes "k")) ∷ []) None (whole (at 1 19) 1000000)) ∷ []))) ∷ (local_item (locations (at 1 28) ((decl ((n 1 32 (codes "e")) ∷ []) (w.event_mode (at 1 34) None) None) ∷ []))) ∷ (action (simple (at 1 41) (delay (at 1 41) (n 1 47 (codes "e")) (Some (binary (at 1 58) (name (n 1 58 (codes "k"))) ops.Plus (at 1 60) (whole (at 1 62) 1)))) (handler_node None))) ∷ (action (simple (at 1 65) (delay (at 1 65) (n 1 71 (codes "e")) (Some (binary (at 1 82) (paren (at 1 82) (name (n 1 83 (codes "k")))) ops.Times (at 1 86) (whole (at 1 88) 2)))) (handler_node None))) ∷ []) None (Some (n 1 95 (codes "m")))) ∷ [])

broken_3-ground : IsGroundOf broken_3 (ground_of broken_3)
broken_3-ground = record { names = refl; entries = refl }

broken_3-modes : broken_modes (ground_of broken_3) broken_3 ≡ []
broken_3-modes = refl

broken_3-counted : IsStatementGroundOf broken_3 (counted_ground_of broken_3)
broken_3-counted = record { names = refl; entries = refl }

broken_3-statements : broken_statements (counted_ground_of broken_3) broken_3 ≡ []
broken_3-statements = refl

broken_3-processes : broken_processes (counted_ground_of broken_3) broken_3 ≡ (told rules.P6 1 58 ∷ told rules.P6 1 82 ∷ [])
broken_3-processes = refl

-- a range of INT
--   m: MODULE SYN k INT (0:7) = 5; DCL e EVENT; DELAY e PRIORITY k; DELAY e PRIORITY NUM(TRUE) ON ELSE END; END m;
abbrev near_1 : ProgramTree
near_1 = program ((modul (n 1 1 (codes "m")) modulions.Module ((local_item (synonyms (at 1 11) ((syn ((n 1 15 (codes "k")) ∷ []) (Some (w.base_mode (w.discrete (w.bounded (n 1 17 (codes "INT")) (whole (at 1 22) 0) (whole (at 1 24) 7))))) (whole (at 1 29) 5)) ∷ []))) ∷ (local_item (locations (at 1 32) ((decl ((n 1 36 (codes "e")) ∷ []) (w.event_mode (at 1 38) None) None) ∷ []))) ∷ (action (simple (at 1 45) (delay (at 1 45) (n 1 51 (codes "e")) (Some (name (n 1 62 (codes "k"))))) (handler_node None))) ∷ (action (simple (at 1 65) (delay (at 1 65) (n 1 71 (codes "e")) (Some (apply (at 1 82) (name (n 1 82 (codes "NUM"))) (expr_nodes ((name (n 1 86 (codes "TRUE"))) ∷ []))))) (handler_node (Some (hand (at 1 92) [] (Some [])))))) ∷ []) None (Some (n 1 109 (codes "m")))) ∷ [])

near_1-ground : IsGroundOf near_1 (ground_of near_1)
near_1-ground = record { names = refl; entries = refl }

near_1-modes : broken_modes (ground_of near_1) near_1 ≡ []
near_1-modes = refl

near_1-counted : IsStatementGroundOf near_1 (counted_ground_of near_1)
near_1-counted = record { names = refl; entries = refl }

near_1-statements : broken_statements (counted_ground_of near_1) near_1 ≡ []
near_1-statements = refl

near_1-processes : broken_processes (counted_ground_of near_1) near_1 ≡ []
near_1-processes = refl

-- the limits themselves
--   m: MODULE SYN k = 1000000; DCL e EVENT, b BUFFER INT; SIGNAL s; DELAY e PRIORITY 0; SEND b (1) PRIORITY 1000000; SEND s PRIORITY k - 1; DELAY CASE PRIORITY k; (e): ESAC; END m;
abbrev near_2 : ProgramTree
near_2 = program ((modul (n 1 1 (codes "m")) modulions.Module ((local_item (synonyms (at 1 11) ((syn ((n 1 15 (codes "k")) ∷ []) None (whole (at 1 19) 1000000)) ∷ []))) ∷ (local_item (locations (at 1 28) ((decl ((n 1 32 (codes "e")) ∷ []) (w.event_mode (at 1 34) None) None) ∷ (decl ((n 1 41 (codes "b")) ∷ []) (w.buffer_mode (at 1 43) None (w.discrete (w.named (n 1 50 (codes "INT"))))) None) ∷ []))) ∷ (signals (at 1 55) ((sig (n 1 62 (codes "s")) None None) ∷ [])) ∷ (action (simple (at 1 65) (delay (at 1 65) (n 1 71 (codes "e")) (Some (whole (at 1 82) 0))) (handler_node None))) ∷ (action (simple (at 1 85) (send (at 1 85) (n 1 90 (codes "b")) (Some ((whole (at 1 93) 1) ∷ [])) None (Some (whole (at 1 105) 1000000))) (handler_node None))) ∷ (action (simple (at 1 114) (send (at 1 114) (n 1 119 (codes "s")) None None (Some (binary (at 1 130) (name (n 1 130 (codes "k"))) ops.Minus (at 1 132) (whole (at 1 134) 1)))) (handler_node None))) ∷ (action (bracketed (at 1 137) None (delay_case (at 1 137) None (Some (name (n 1 157 (codes "k")))) (named_nodes ((alt (at 1 160) ((n 1 161 (codes "e")) ∷ []) []) ∷ []))) (handler_node None) None)) ∷ []) None (Some (n 1 175 (codes "m")))) ∷ [])

near_2-ground : IsGroundOf near_2 (ground_of near_2)
near_2-ground = record { names = refl; entries = refl }

near_2-modes : broken_modes (ground_of near_2) near_2 ≡ []
near_2-modes = refl

near_2-counted : IsStatementGroundOf near_2 (counted_ground_of near_2)
near_2-counted = record { names = refl; entries = refl }

near_2-statements : broken_statements (counted_ground_of near_2) near_2 ≡ []
near_2-statements = refl

near_2-processes : broken_processes (counted_ground_of near_2) near_2 ≡ []
near_2-processes = refl
