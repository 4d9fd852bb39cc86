-- Rule P5: texts that break it, and texts that nearly do.
use Rattle.std.proofs.Common.{◌≡◌, refl}
use Rattle.std.specs.Prelude.{[], ◌∷◌, Some, None, codes}
use Rattle.chill_tree.specs.declared.tree.item.ModulionKind.TheVariants as modulions
use Rattle.chill_tree.specs.declared.tree.item.Passed.TheVariants.{Names}
use Rattle.chill_tree.specs.ModeTree as w
use Rattle.chill_tree.specs.LocalTree.{locations}
use Rattle.chill_tree.specs.StatementTree.{bracketed, delay_case, receive_case, named_nodes, receive_nodes, otherwise_node, no_otherwise, handler_node}
use Rattle.chill_tree.specs.ItemTree.{ProgramTree, seize, grant, local_item, signals, action}
use Rattle.diagnostics.specs.declared.rule.Rule.TheVariants as rules
use Rattle.checks_model.specs.Table.{IsGroundOf, IsStatementGroundOf}
use Rattle.checks_model.specs.Phases.{broken_modes, broken_statements, broken_processes}
use Rattle.checks_examples.proofs.Programs.{at, n, decl, alt, recv, sig, modul, program, ground_of, counted_ground_of, told_of}

-- the same twice is told of each rule
--   m: MODULE DCL x INT; DELAY CASE (x, x): ESAC; END m;
abbrev broken_1 : ProgramTree
broken_1 = program ((modul (n 1 1 (codes "m")) modulions.Module ((local_item (locations (at 1 11) ((decl ((n 1 15 (codes "x")) ∷ []) (w.base_mode (w.discrete (w.named (n 1 17 (codes "INT"))))) None) ∷ []))) ∷ (action (bracketed (at 1 22) None (delay_case (at 1 22) None None (named_nodes ((alt (at 1 33) ((n 1 34 (codes "x")) ∷ (n 1 37 (codes "x")) ∷ []) []) ∷ []))) (handler_node None) None)) ∷ []) None (Some (n 1 51 (codes "m")))) ∷ [])

broken_1-ground : IsGroundOf broken_1 (ground_of broken_1)
broken_1-ground = record { names = refl; entries = refl }

broken_1-modes : broken_modes (ground_of broken_1) broken_1 ≡ []
broken_1-modes = refl

broken_1-counted : IsStatementGroundOf broken_1 (counted_ground_of broken_1)
broken_1-counted = record { names = refl; entries = refl }

broken_1-statements : broken_statements (counted_ground_of broken_1) broken_1 ≡ []
broken_1-statements = refl

broken_1-processes : broken_processes (counted_ground_of broken_1) broken_1 ≡ (told_of rules.P3 1 34 (codes "x") ∷ told_of rules.P3 1 37 (codes "x") ∷ told_of rules.P5 1 37 (codes "x") ∷ [])
broken_1-processes = refl

-- an event in one alternative
--   m: MODULE DCL e, f EVENT; DELAY CASE (e, e, f): ESAC; END m;
abbrev broken_2 : ProgramTree
broken_2 = program ((modul (n 1 1 (codes "m")) modulions.Module ((local_item (locations (at 1 11) ((decl ((n 1 15 (codes "e")) ∷ (n 1 18 (codes "f")) ∷ []) (w.event_mode (at 1 20) None) None) ∷ []))) ∷ (action (bracketed (at 1 27) None (delay_case (at 1 27) None None (named_nodes ((alt (at 1 38) ((n 1 39 (codes "e")) ∷ (n 1 42 (codes "e")) ∷ (n 1 45 (codes "f")) ∷ []) []) ∷ []))) (handler_node None) None)) ∷ []) None (Some (n 1 59 (codes "m")))) ∷ [])

broken_2-ground : IsGroundOf broken_2 (ground_of broken_2)
broken_2-ground = record { names = refl; entries = refl }

broken_2-modes : broken_modes (ground_of broken_2) broken_2 ≡ []
broken_2-modes = refl

broken_2-counted : IsStatementGroundOf broken_2 (counted_ground_of broken_2)
broken_2-counted = record { names = refl; entries = refl }

broken_2-statements : broken_statements (counted_ground_of broken_2) broken_2 ≡ []
broken_2-statements = refl

broken_2-processes : broken_processes (counted_ground_of broken_2) broken_2 ≡ (told_of rules.P5 1 42 (codes "e") ∷ [])
broken_2-processes = refl

-- an event in two alternatives
--   m: MODULE DCL e, f EVENT; DELAY CASE (e, f): (f): (e, f): ESAC; END m;
abbrev broken_3 : ProgramTree
broken_3 = program ((modul (n 1 1 (codes "m")) modulions.Module ((local_item (locations (at 1 11) ((decl ((n 1 15 (codes "e")) ∷ (n 1 18 (codes "f")) ∷ []) (w.event_mode (at 1 20) None) None) ∷ []))) ∷ (action (bracketed (at 1 27) None (delay_case (at 1 27) None None (named_nodes ((alt (at 1 38) ((n 1 39 (codes "e")) ∷ (n 1 42 (codes "f")) ∷ []) []) ∷ (alt (at 1 46) ((n 1 47 (codes "f")) ∷ []) []) ∷ (alt (at 1 51) ((n 1 52 (codes "e")) ∷ (n 1 55 (codes "f")) ∷ []) []) ∷ []))) (handler_node None) None)) ∷ []) None (Some (n 1 69 (codes "m")))) ∷ [])

broken_3-ground : IsGroundOf broken_3 (ground_of broken_3)
broken_3-ground = record { names = refl; entries = refl }

broken_3-modes : broken_modes (ground_of broken_3) broken_3 ≡ []
broken_3-modes = refl

broken_3-counted : IsStatementGroundOf broken_3 (counted_ground_of broken_3)
broken_3-counted = record { names = refl; entries = refl }

broken_3-statements : broken_statements (counted_ground_of broken_3) broken_3 ≡ []
broken_3-statements = refl

broken_3-processes : broken_processes (counted_ground_of broken_3) broken_3 ≡ (told_of rules.P5 1 47 (codes "f") ∷ told_of rules.P5 1 52 (codes "e") ∷ told_of rules.P5 1 55 (codes "f") ∷ [])
broken_3-processes = refl

-- a buffer and a signal, each twice
--   m: MODULE DCL b BUFFER INT; SIGNAL s; RECEIVE CASE (b IN x): (b IN y): ESAC; RECEIVE CASE (s): (s): ELSE ESAC; END m;
abbrev broken_4 : ProgramTree
broken_4 = program ((modul (n 1 1 (codes "m")) modulions.Module ((local_item (locations (at 1 11) ((decl ((n 1 15 (codes "b")) ∷ []) (w.buffer_mode (at 1 17) None (w.discrete (w.named (n 1 24 (codes "INT"))))) None) ∷ []))) ∷ (signals (at 1 29) ((sig (n 1 36 (codes "s")) None None) ∷ [])) ∷ (action (bracketed (at 1 39) None (receive_case (at 1 39) None (receive_nodes ((recv (at 1 52) (n 1 53 (codes "b")) (Some ((n 1 58 (codes "x")) ∷ [])) []) ∷ (recv (at 1 62) (n 1 63 (codes "b")) (Some ((n 1 68 (codes "y")) ∷ [])) []) ∷ [])) no_otherwise) (handler_node None) None)) ∷ (action (bracketed (at 1 78) None (receive_case (at 1 78) None (receive_nodes ((recv (at 1 91) (n 1 92 (codes "s")) None []) ∷ (recv (at 1 96) (n 1 97 (codes "s")) None []) ∷ [])) (otherwise_node (Some []))) (handler_node None) None)) ∷ []) None (Some (n 1 116 (codes "m")))) ∷ [])

broken_4-ground : IsGroundOf broken_4 (ground_of broken_4)
broken_4-ground = record { names = refl; entries = refl }

broken_4-modes : broken_modes (ground_of broken_4) broken_4 ≡ []
broken_4-modes = refl

broken_4-counted : IsStatementGroundOf broken_4 (counted_ground_of broken_4)
broken_4-counted = record { names = refl; entries = refl }

broken_4-statements : broken_statements (counted_ground_of broken_4) broken_4 ≡ []
broken_4-statements = refl

broken_4-processes : broken_processes (counted_ground_of broken_4) broken_4 ≡ (told_of rules.P5 1 63 (codes "b") ∷ told_of rules.P5 1 97 (codes "s") ∷ [])
broken_4-processes = refl

-- a signal and then a buffer
--   m: MODULE DCL b BUFFER INT; SIGNAL s; RECEIVE CASE (s): (b IN x): ESAC; END m;
abbrev broken_5 : ProgramTree
broken_5 = program ((modul (n 1 1 (codes "m")) modulions.Module ((local_item (locations (at 1 11) ((decl ((n 1 15 (codes "b")) ∷ []) (w.buffer_mode (at 1 17) None (w.discrete (w.named (n 1 24 (codes "INT"))))) None) ∷ []))) ∷ (signals (at 1 29) ((sig (n 1 36 (codes "s")) None None) ∷ [])) ∷ (action (bracketed (at 1 39) None (receive_case (at 1 39) None (receive_nodes ((recv (at 1 52) (n 1 53 (codes "s")) None []) ∷ (recv (at 1 57) (n 1 58 (codes "b")) (Some ((n 1 63 (codes "x")) ∷ [])) []) ∷ [])) no_otherwise) (handler_node None) None)) ∷ []) None (Some (n 1 77 (codes "m")))) ∷ [])

broken_5-ground : IsGroundOf broken_5 (ground_of broken_5)
broken_5-ground = record { names = refl; entries = refl }

broken_5-modes : broken_modes (ground_of broken_5) broken_5 ≡ []
broken_5-modes = refl

broken_5-counted : IsStatementGroundOf broken_5 (counted_ground_of broken_5)
broken_5-counted = record { names = refl; entries = refl }

broken_5-statements : broken_statements (counted_ground_of broken_5) broken_5 ≡ []
broken_5-statements = refl

broken_5-processes : broken_processes (counted_ground_of broken_5) broken_5 ≡ (told_of rules.P5 1 58 (codes "b") ∷ [])
broken_5-processes = refl

-- a buffer, a signal, and the buffer again: each that has an earlier one of the other sort
--   m: MODULE DCL b BUFFER INT; SIGNAL s; RECEIVE CASE (b IN x): (s): (b IN y): ESAC; END m;
abbrev broken_6 : ProgramTree
broken_6 = program ((modul (n 1 1 (codes "m")) modulions.Module ((local_item (locations (at 1 11) ((decl ((n 1 15 (codes "b")) ∷ []) (w.buffer_mode (at 1 17) None (w.discrete (w.named (n 1 24 (codes "INT"))))) None) ∷ []))) ∷ (signals (at 1 29) ((sig (n 1 36 (codes "s")) None None) ∷ [])) ∷ (action (bracketed (at 1 39) None (receive_case (at 1 39) None (receive_nodes ((recv (at 1 52) (n 1 53 (codes "b")) (Some ((n 1 58 (codes "x")) ∷ [])) []) ∷ (recv (at 1 62) (n 1 63 (codes "s")) None []) ∷ (recv (at 1 67) (n 1 68 (codes "b")) (Some ((n 1 73 (codes "y")) ∷ [])) []) ∷ [])) no_otherwise) (handler_node None) None)) ∷ []) None (Some (n 1 87 (codes "m")))) ∷ [])

broken_6-ground : IsGroundOf broken_6 (ground_of broken_6)
broken_6-ground = record { names = refl; entries = refl }

broken_6-modes : broken_modes (ground_of broken_6) broken_6 ≡ []
broken_6-modes = refl

broken_6-counted : IsStatementGroundOf broken_6 (counted_ground_of broken_6)
broken_6-counted = record { names = refl; entries = refl }

broken_6-statements : broken_statements (counted_ground_of broken_6) broken_6 ≡ []
broken_6-statements = refl

broken_6-processes : broken_processes (counted_ground_of broken_6) broken_6 ≡ (told_of rules.P5 1 63 (codes "s") ∷ told_of rules.P5 1 68 (codes "b") ∷ [])
broken_6-processes = refl

-- one of the other sort is enough
--   m: MODULE DCL b, c BUFFER INT; SIGNAL s, t; RECEIVE CASE (s): (b IN x): (t): (c IN y): ESAC; END m;
abbrev broken_7 : ProgramTree
broken_7 = program ((modul (n 1 1 (codes "m")) modulions.Module ((local_item (locations (at 1 11) ((decl ((n 1 15 (codes "b")) ∷ (n 1 18 (codes "c")) ∷ []) (w.buffer_mode (at 1 20) None (w.discrete (w.named (n 1 27 (codes "INT"))))) None) ∷ []))) ∷ (signals (at 1 32) ((sig (n 1 39 (codes "s")) None None) ∷ (sig (n 1 42 (codes "t")) None None) ∷ [])) ∷ (action (bracketed (at 1 45) None (receive_case (at 1 45) None (receive_nodes ((recv (at 1 58) (n 1 59 (codes "s")) None []) ∷ (recv (at 1 63) (n 1 64 (codes "b")) (Some ((n 1 69 (codes "x")) ∷ [])) []) ∷ (recv (at 1 73) (n 1 74 (codes "t")) None []) ∷ (recv (at 1 78) (n 1 79 (codes "c")) (Some ((n 1 84 (codes "y")) ∷ [])) []) ∷ [])) no_otherwise) (handler_node None) None)) ∷ []) None (Some (n 1 98 (codes "m")))) ∷ [])

broken_7-ground : IsGroundOf broken_7 (ground_of broken_7)
broken_7-ground = record { names = refl; entries = refl }

broken_7-modes : broken_modes (ground_of broken_7) broken_7 ≡ []
broken_7-modes = refl

broken_7-counted : IsStatementGroundOf broken_7 (counted_ground_of broken_7)
broken_7-counted = record { names = refl; entries = refl }

broken_7-statements : broken_statements (counted_ground_of broken_7) broken_7 ≡ []
broken_7-statements = refl

broken_7-processes : broken_processes (counted_ground_of broken_7) broken_7 ≡ (told_of rules.P5 1 64 (codes "b") ∷ told_of rules.P5 1 74 (codes "t") ∷ told_of rules.P5 1 79 (codes "c") ∷ [])
broken_7-processes = refl

-- one definition by way of two names is no matter: a name is one definition in a reach
--   r: MODULE GRANT e; DCL e EVENT; END r; m: MODULE SEIZE e; DCL f EVENT; DELAY CASE (e): (f): (e): ESAC; END m;
abbrev broken_8 : ProgramTree
broken_8 = program ((modul (n 1 1 (codes "r")) modulions.Module ((grant (at 1 11) (Names ((n 1 17 (codes "e")) ∷ []))) ∷ (local_item (locations (at 1 20) ((decl ((n 1 24 (codes "e")) ∷ []) (w.event_mode (at 1 26) None) None) ∷ []))) ∷ []) None (Some (n 1 37 (codes "r")))) ∷ (modul (n 1 40 (codes "m")) modulions.Module ((seize (at 1 50) (Names ((n 1 56 (codes "e")) ∷ []))) ∷ (local_item (locations (at 1 59) ((decl ((n 1 63 (codes "f")) ∷ []) (w.event_mode (at 1 65) None) None) ∷ []))) ∷ (action (bracketed (at 1 72) None (delay_case (at 1 72) None None (named_nodes ((alt (at 1 83) ((n 1 84 (codes "e")) ∷ []) []) ∷ (alt (at 1 88) ((n 1 89 (codes "f")) ∷ []) []) ∷ (alt (at 1 93) ((n 1 94 (codes "e")) ∷ []) []) ∷ []))) (handler_node None) None)) ∷ []) None (Some (n 1 108 (codes "m")))) ∷ [])

broken_8-ground : IsGroundOf broken_8 (ground_of broken_8)
broken_8-ground = record { names = refl; entries = refl }

broken_8-modes : broken_modes (ground_of broken_8) broken_8 ≡ []
broken_8-modes = refl

broken_8-counted : IsStatementGroundOf broken_8 (counted_ground_of broken_8)
broken_8-counted = record { names = refl; entries = refl }

broken_8-statements : broken_statements (counted_ground_of broken_8) broken_8 ≡ []
broken_8-statements = refl

broken_8-processes : broken_processes (counted_ground_of broken_8) broken_8 ≡ (told_of rules.P5 1 94 (codes "e") ∷ [])
broken_8-processes = refl

-- what is no buffer or signal isn't mixed
--   m: MODULE DCL b BUFFER INT, e EVENT; RECEIVE CASE (b IN x): (e): ESAC; END m;
abbrev near_1 : ProgramTree
near_1 = program ((modul (n 1 1 (codes "m")) modulions.Module ((local_item (locations (at 1 11) ((decl ((n 1 15 (codes "b")) ∷ []) (w.buffer_mode (at 1 17) None (w.discrete (w.named (n 1 24 (codes "INT"))))) None) ∷ (decl ((n 1 29 (codes "e")) ∷ []) (w.event_mode (at 1 31) None) None) ∷ []))) ∷ (action (bracketed (at 1 38) None (receive_case (at 1 38) None (receive_nodes ((recv (at 1 51) (n 1 52 (codes "b")) (Some ((n 1 57 (codes "x")) ∷ [])) []) ∷ (recv (at 1 61) (n 1 62 (codes "e")) None []) ∷ [])) no_otherwise) (handler_node None) None)) ∷ []) None (Some (n 1 76 (codes "m")))) ∷ [])

near_1-ground : IsGroundOf near_1 (ground_of near_1)
near_1-ground = record { names = refl; entries = refl }

near_1-modes : broken_modes (ground_of near_1) near_1 ≡ []
near_1-modes = refl

near_1-counted : IsStatementGroundOf near_1 (counted_ground_of near_1)
near_1-counted = record { names = refl; entries = refl }

near_1-statements : broken_statements (counted_ground_of near_1) near_1 ≡ []
near_1-statements = refl

near_1-processes : broken_processes (counted_ground_of near_1) near_1 ≡ (told_of rules.P3 1 62 (codes "e") ∷ [])
near_1-processes = refl

-- two of one sort
--   m: MODULE DCL b, c BUFFER INT; SIGNAL s, t = (INT); RECEIVE CASE (b IN x): (c IN y): ESAC; RECEIVE CASE (s): (t IN v): ELSE ESAC; END m;
abbrev near_2 : ProgramTree
near_2 = program ((modul (n 1 1 (codes "m")) modulions.Module ((local_item (locations (at 1 11) ((decl ((n 1 15 (codes "b")) ∷ (n 1 18 (codes "c")) ∷ []) (w.buffer_mode (at 1 20) None (w.discrete (w.named (n 1 27 (codes "INT"))))) None) ∷ []))) ∷ (signals (at 1 32) ((sig (n 1 39 (codes "s")) None None) ∷ (sig (n 1 42 (codes "t")) (Some ((w.base_mode (w.discrete (w.named (n 1 47 (codes "INT"))))) ∷ [])) None) ∷ [])) ∷ (action (bracketed (at 1 53) None (receive_case (at 1 53) None (receive_nodes ((recv (at 1 66) (n 1 67 (codes "b")) (Some ((n 1 72 (codes "x")) ∷ [])) []) ∷ (recv (at 1 76) (n 1 77 (codes "c")) (Some ((n 1 82 (codes "y")) ∷ [])) []) ∷ [])) no_otherwise) (handler_node None) None)) ∷ (action (bracketed (at 1 92) None (receive_case (at 1 92) None (receive_nodes ((recv (at 1 105) (n 1 106 (codes "s")) None []) ∷ (recv (at 1 110) (n 1 111 (codes "t")) (Some ((n 1 116 (codes "v")) ∷ [])) []) ∷ [])) (otherwise_node (Some []))) (handler_node None) None)) ∷ []) None (Some (n 1 135 (codes "m")))) ∷ [])

near_2-ground : IsGroundOf near_2 (ground_of near_2)
near_2-ground = record { names = refl; entries = refl }

near_2-modes : broken_modes (ground_of near_2) near_2 ≡ []
near_2-modes = refl

near_2-counted : IsStatementGroundOf near_2 (counted_ground_of near_2)
near_2-counted = record { names = refl; entries = refl }

near_2-statements : broken_statements (counted_ground_of near_2) near_2 ≡ []
near_2-statements = refl

near_2-processes : broken_processes (counted_ground_of near_2) near_2 ≡ []
near_2-processes = refl
