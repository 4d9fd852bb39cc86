-- Rule P7: texts that break it, and texts that nearly do.
use Rattle.std.proofs.Common.{◌≡◌, refl}
use Rattle.std.specs.Prelude.{false, [], ◌∷◌, Some, None, codes}
use Rattle.chill_tree.specs.declared.tree.item.ModulionKind.TheVariants as modulions
use Rattle.chill_tree.specs.ExprTree.{whole, tuple, name, apply, field, alone, expr_nodes, range_nodes}
use Rattle.chill_tree.specs.ModeTree as w
use Rattle.chill_tree.specs.LocalTree.{new_modes, locations}
use Rattle.chill_tree.specs.StatementTree.{bracketed, delay_case, receive_case, named_nodes, receive_nodes, no_otherwise, handler_node, action_part}
use Rattle.chill_tree.specs.ItemTree.{ProgramTree, local_item, signals, procedure, action}
use Rattle.diagnostics.specs.declared.rule.Rule.TheVariants as rules
use Rattle.checks_model.specs.Table.{IsGroundOf, IsStatementGroundOf}
use Rattle.checks_model.specs.Phases.{broken_modes, broken_statements, broken_processes}
use Rattle.checks_examples.proofs.Programs.{at, n, modedef, init, decl, fields, alt, recv, sig, param, proc, modul, program, ground_of, counted_ground_of, told}

-- a READ location
--   m: MODULE DCL e EVENT, i READ INSTANCE := NULL; DELAY CASE SET i; (e): ESAC; END m;
abbrev broken_1 : ProgramTree
broken_1 = program ((modul (n 1 1 (codes "m")) modulions.Module ((local_item (locations (at 1 11) ((decl ((n 1 15 (codes "e")) ∷ []) (w.event_mode (at 1 17) None) None) ∷ (decl ((n 1 24 (codes "i")) ∷ []) (w.read_mode (at 1 26) (w.discrete (w.named (n 1 31 (codes "INSTANCE"))))) (Some (init (at 1 40) false (name (n 1 43 (codes "NULL")))))) ∷ []))) ∷ (action (bracketed (at 1 49) None (delay_case (at 1 49) (Some (name (n 1 64 (codes "i")))) None (named_nodes ((alt (at 1 67) ((n 1 68 (codes "e")) ∷ []) []) ∷ []))) (handler_node None) None)) ∷ []) None (Some (n 1 82 (codes "m")))) ∷ [])

broken_1-ground : IsGroundOf broken_1 (ground_of broken_1)
broken_1-ground = record { names = refl; entries = refl }

broken_1-modes : broken_modes (ground_of broken_1) broken_1 ≡ []
broken_1-modes = refl

broken_1-counted : IsStatementGroundOf broken_1 (counted_ground_of broken_1)
broken_1-counted = record { names = refl; entries = refl }

broken_1-statements : broken_statements (counted_ground_of broken_1) broken_1 ≡ []
broken_1-statements = refl

broken_1-processes : broken_processes (counted_ground_of broken_1) broken_1 ≡ (told rules.P7 1 64 ∷ [])
broken_1-processes = refl

-- a location of another mode
--   m: MODULE DCL e EVENT, x INT, b BOOL; SIGNAL s; DELAY CASE SET x; (e): ESAC; RECEIVE CASE SET b; (s): ESAC; END m;
abbrev broken_2 : ProgramTree
broken_2 = program ((modul (n 1 1 (codes "m")) modulions.Module ((local_item (locations (at 1 11) ((decl ((n 1 15 (codes "e")) ∷ []) (w.event_mode (at 1 17) None) None) ∷ (decl ((n 1 24 (codes "x")) ∷ []) (w.base_mode (w.discrete (w.named (n 1 26 (codes "INT"))))) None) ∷ (decl ((n 1 31 (codes "b")) ∷ []) (w.base_mode (w.discrete (w.named (n 1 33 (codes "BOOL"))))) None) ∷ []))) ∷ (signals (at 1 39) ((sig (n 1 46 (codes "s")) None None) ∷ [])) ∷ (action (bracketed (at 1 49) None (delay_case (at 1 49) (Some (name (n 1 64 (codes "x")))) None (named_nodes ((alt (at 1 67) ((n 1 68 (codes "e")) ∷ []) []) ∷ []))) (handler_node None) None)) ∷ (action (bracketed (at 1 78) None (receive_case (at 1 78) (Some (name (n 1 95 (codes "b")))) (receive_nodes ((recv (at 1 98) (n 1 99 (codes "s")) None []) ∷ [])) no_otherwise) (handler_node None) None)) ∷ []) None (Some (n 1 113 (codes "m")))) ∷ [])

broken_2-ground : IsGroundOf broken_2 (ground_of broken_2)
broken_2-ground = record { names = refl; entries = refl }

broken_2-modes : broken_modes (ground_of broken_2) broken_2 ≡ []
broken_2-modes = refl

broken_2-counted : IsStatementGroundOf broken_2 (counted_ground_of broken_2)
broken_2-counted = record { names = refl; entries = refl }

broken_2-statements : broken_statements (counted_ground_of broken_2) broken_2 ≡ []
broken_2-statements = refl

broken_2-processes : broken_processes (counted_ground_of broken_2) broken_2 ≡ (told rules.P7 1 64 ∷ told rules.P7 1 95 ∷ [])
broken_2-processes = refl

-- a part of a READ location
--   m: MODULE DCL e EVENT, s READ STRUCT (g INSTANCE) := [NULL]; DELAY CASE SET s.g; (e): ESAC; DELAY CASE SET e.f PRIORITY 3; (e): ESAC; END m;
abbrev broken_3 : ProgramTree
broken_3 = program ((modul (n 1 1 (codes "m")) modulions.Module ((local_item (locations (at 1 11) ((decl ((n 1 15 (codes "e")) ∷ []) (w.event_mode (at 1 17) None) None) ∷ (decl ((n 1 24 (codes "s")) ∷ []) (w.read_mode (at 1 26) (w.structure (at 1 31) (w.field_nodes ((fields ((n 1 39 (codes "g")) ∷ []) (w.discrete (w.named (n 1 41 (codes "INSTANCE")))) None) ∷ [])) None)) (Some (init (at 1 51) false (tuple (at 1 54) None (at 1 54) (range_nodes ((alone (name (n 1 55 (codes "NULL")))) ∷ [])))))) ∷ []))) ∷ (action (bracketed (at 1 62) None (delay_case (at 1 62) (Some (field (at 1 77) (name (n 1 77 (codes "s"))) (n 1 79 (codes "g")))) None (named_nodes ((alt (at 1 82) ((n 1 83 (codes "e")) ∷ []) []) ∷ []))) (handler_node None) None)) ∷ (action (bracketed (at 1 93) None (delay_case (at 1 93) (Some (field (at 1 108) (name (n 1 108 (codes "e"))) (n 1 110 (codes "f")))) (Some (whole (at 1 121) 3)) (named_nodes ((alt (at 1 124) ((n 1 125 (codes "e")) ∷ []) []) ∷ []))) (handler_node None) None)) ∷ []) None (Some (n 1 139 (codes "m")))) ∷ [])

broken_3-ground : IsGroundOf broken_3 (ground_of broken_3)
broken_3-ground = record { names = refl; entries = refl }

broken_3-modes : broken_modes (ground_of broken_3) broken_3 ≡ []
broken_3-modes = refl

broken_3-counted : IsStatementGroundOf broken_3 (counted_ground_of broken_3)
broken_3-counted = record { names = refl; entries = refl }

broken_3-statements : broken_statements (counted_ground_of broken_3) broken_3 ≡ []
broken_3-statements = refl

broken_3-processes : broken_processes (counted_ground_of broken_3) broken_3 ≡ (told rules.P7 1 77 ∷ told rules.P7 1 108 ∷ [])
broken_3-processes = refl

-- an INSTANCE of any novelty
--   m: MODULE NEWMODE n = INSTANCE; DCL e EVENT, i n; DELAY CASE SET i; (e): ESAC; END m;
abbrev near_1 : ProgramTree
near_1 = program ((modul (n 1 1 (codes "m")) modulions.Module ((local_item (new_modes (at 1 11) ((modedef (n 1 19 (codes "n")) (w.base_mode (w.discrete (w.named (n 1 23 (codes "INSTANCE")))))) ∷ []))) ∷ (local_item (locations (at 1 33) ((decl ((n 1 37 (codes "e")) ∷ []) (w.event_mode (at 1 39) None) None) ∷ (decl ((n 1 46 (codes "i")) ∷ []) (w.base_mode (w.discrete (w.named (n 1 48 (codes "n"))))) None) ∷ []))) ∷ (action (bracketed (at 1 51) None (delay_case (at 1 51) (Some (name (n 1 66 (codes "i")))) None (named_nodes ((alt (at 1 69) ((n 1 70 (codes "e")) ∷ []) []) ∷ []))) (handler_node None) None)) ∷ []) None (Some (n 1 84 (codes "m")))) ∷ [])

near_1-ground : IsGroundOf near_1 (ground_of near_1)
near_1-ground = record { names = refl; entries = refl }

near_1-modes : broken_modes (ground_of near_1) near_1 ≡ []
near_1-modes = refl

near_1-counted : IsStatementGroundOf near_1 (counted_ground_of near_1)
near_1-counted = record { names = refl; entries = refl }

near_1-statements : broken_statements (counted_ground_of near_1) near_1 ≡ []
near_1-statements = refl

near_1-processes : broken_processes (counted_ground_of near_1) near_1 ≡ []
near_1-processes = refl

-- locations, parameters and parts
--   m: MODULE DCL e EVENT, i INSTANCE, s STRUCT (g INSTANCE), a ARRAY (1:2) INSTANCE; SIGNAL t; p: PROC (k INSTANCE); DELAY CASE SET k; (e): ESAC; END p; DELAY CASE SET i PRIORITY 1; (e): ESAC; RECEIVE CASE SET s.g; (t): ESAC; RECEIVE CASE SET a(1); (t): ESAC; END m;
abbrev near_2 : ProgramTree
near_2 = program ((modul (n 1 1 (codes "m")) modulions.Module ((local_item (locations (at 1 11) ((decl ((n 1 15 (codes "e")) ∷ []) (w.event_mode (at 1 17) None) None) ∷ (decl ((n 1 24 (codes "i")) ∷ []) (w.base_mode (w.discrete (w.named (n 1 26 (codes "INSTANCE"))))) None) ∷ (decl ((n 1 36 (codes "s")) ∷ []) (w.base_mode (w.structure (at 1 38) (w.field_nodes ((fields ((n 1 46 (codes "g")) ∷ []) (w.discrete (w.named (n 1 48 (codes "INSTANCE")))) None) ∷ [])) None)) None) ∷ (decl ((n 1 59 (codes "a")) ∷ []) (w.base_mode (w.array (at 1 61) (w.index_bounded (whole (at 1 68) 1) (whole (at 1 70) 2)) (w.discrete (w.named (n 1 73 (codes "INSTANCE")))) None)) None) ∷ []))) ∷ (signals (at 1 83) ((sig (n 1 90 (codes "t")) None None) ∷ [])) ∷ (procedure (proc (n 1 93 (codes "p")) ((param ((n 1 102 (codes "k")) ∷ []) (w.base_mode (w.discrete (w.named (n 1 104 (codes "INSTANCE"))))) None) ∷ []) None None ((action_part (bracketed (at 1 115) None (delay_case (at 1 115) (Some (name (n 1 130 (codes "k")))) None (named_nodes ((alt (at 1 133) ((n 1 134 (codes "e")) ∷ []) []) ∷ []))) (handler_node None) None)) ∷ []) None (Some (n 1 148 (codes "p"))))) ∷ (action (bracketed (at 1 151) None (delay_case (at 1 151) (Some (name (n 1 166 (codes "i")))) (Some (whole (at 1 177) 1)) (named_nodes ((alt (at 1 180) ((n 1 181 (codes "e")) ∷ []) []) ∷ []))) (handler_node None) None)) ∷ (action (bracketed (at 1 191) None (receive_case (at 1 191) (Some (field (at 1 208) (name (n 1 208 (codes "s"))) (n 1 210 (codes "g")))) (receive_nodes ((recv (at 1 213) (n 1 214 (codes "t")) None []) ∷ [])) no_otherwise) (handler_node None) None)) ∷ (action (bracketed (at 1 224) None (receive_case (at 1 224) (Some (apply (at 1 241) (name (n 1 241 (codes "a"))) (expr_nodes ((whole (at 1 243) 1) ∷ [])))) (receive_nodes ((recv (at 1 247) (n 1 248 (codes "t")) None []) ∷ [])) no_otherwise) (handler_node None) None)) ∷ []) None (Some (n 1 262 (codes "m")))) ∷ [])

near_2-ground : IsGroundOf near_2 (ground_of near_2)
near_2-ground = record { names = refl; entries = refl }

near_2-modes : broken_modes (ground_of near_2) near_2 ≡ []
near_2-modes = refl

near_2-counted : IsStatementGroundOf near_2 (counted_ground_of near_2)
near_2-counted = record { names = refl; entries = refl }

near_2-statements : broken_statements (counted_ground_of near_2) near_2 ≡ []
near_2-statements = refl

near_2-processes : broken_processes (counted_ground_of near_2) near_2 ≡ []
near_2-processes = refl
