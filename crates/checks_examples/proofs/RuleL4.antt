-- Rule L4: texts that break it, and texts that nearly do.
use Rattle.std.proofs.Common.{◌≡◌, refl}
use Rattle.std.specs.Prelude.{false, [], ◌∷◌, Some, None, codes}
use Rattle.chill_tree.specs.declared.tree.item.ModulionKind.TheVariants as modulions
use Rattle.chill_tree.specs.ExprTree.{whole}
use Rattle.chill_tree.specs.ModeTree as w
use Rattle.chill_tree.specs.LocalTree.{synonyms, locations}
use Rattle.chill_tree.specs.SimpleTree.{for_steps}
use Rattle.chill_tree.specs.StatementTree.{bracketed, do_loop, begin_end, statement_nodes, handler_node, body_nodes, local_part}
use Rattle.chill_tree.specs.ItemTree.{ProgramTree, local_item, procedure, action}
use Rattle.diagnostics.specs.declared.rule.Rule.TheVariants as rules
use Rattle.checks_model.specs.Table.{IsGroundOf, IsStatementGroundOf}
use Rattle.checks_model.specs.Phases.{broken_modes, broken_statements, broken_processes}
use Rattle.checks_examples.proofs.Programs.{at, n, syn, decl, proc, modul, program, ground_of, counted_ground_of, told}

-- of the outermost process: what stands in blocks of modules and regions
--   m: MODULE BEGIN DCL a ARRAY (1:513) INT; END; END m;
abbrev broken_1 : ProgramTree
broken_1 = program ((modul (n 1 1 (codes "m")) modulions.Module ((action (bracketed (at 1 11) None (begin_end (at 1 11) (body_nodes ((local_part (locations (at 1 17) ((decl ((n 1 21 (codes "a")) ∷ []) (w.base_mode (w.array (at 1 23) (w.index_bounded (whole (at 1 30) 1) (whole (at 1 32) 513)) (w.discrete (w.named (n 1 37 (codes "INT")))) None)) None) ∷ []))) ∷ []))) (handler_node None) None)) ∷ []) None (Some (n 1 51 (codes "m")))) ∷ [])

broken_1-ground : IsGroundOf broken_1 (ground_of broken_1)
broken_1-ground = record { names = refl; entries = refl }

broken_1-modes : broken_modes (ground_of broken_1) broken_1 ≡ []
broken_1-modes = refl

broken_1-counted : IsStatementGroundOf broken_1 (counted_ground_of broken_1)
broken_1-counted = record { names = refl; entries = refl }

broken_1-statements : broken_statements (counted_ground_of broken_1) broken_1 ≡ (told rules.L4 1 1 ∷ [])
broken_1-statements = refl

-- of a procedure, at its name
--   m: MODULE p: PROC (); DCL a ARRAY (1:512) INT, x INT; END p; END m;
abbrev broken_2 : ProgramTree
broken_2 = program ((modul (n 1 1 (codes "m")) modulions.Module ((procedure (proc (n 1 11 (codes "p")) [] None None ((local_part (locations (at 1 23) ((decl ((n 1 27 (codes "a")) ∷ []) (w.base_mode (w.array (at 1 29) (w.index_bounded (whole (at 1 36) 1) (whole (at 1 38) 512)) (w.discrete (w.named (n 1 43 (codes "INT")))) None)) None) ∷ (decl ((n 1 48 (codes "x")) ∷ []) (w.base_mode (w.discrete (w.named (n 1 50 (codes "INT"))))) None) ∷ []))) ∷ []) None (Some (n 1 59 (codes "p"))))) ∷ []) None (Some (n 1 66 (codes "m")))) ∷ [])

broken_2-ground : IsGroundOf broken_2 (ground_of broken_2)
broken_2-ground = record { names = refl; entries = refl }

broken_2-modes : broken_modes (ground_of broken_2) broken_2 ≡ []
broken_2-modes = refl

broken_2-counted : IsStatementGroundOf broken_2 (counted_ground_of broken_2)
broken_2-counted = record { names = refl; entries = refl }

broken_2-statements : broken_statements (counted_ground_of broken_2) broken_2 ≡ (told rules.L4 1 11 ∷ [])
broken_2-statements = refl

-- a counter of the outermost process
--   m: MODULE BEGIN DCL a, b CHARS (256); END; DO FOR i := 1 TO 3; OD; END m;
abbrev broken_3 : ProgramTree
broken_3 = program ((modul (n 1 1 (codes "m")) modulions.Module ((action (bracketed (at 1 11) None (begin_end (at 1 11) (body_nodes ((local_part (locations (at 1 17) ((decl ((n 1 21 (codes "a")) ∷ (n 1 24 (codes "b")) ∷ []) (w.base_mode (w.chars (at 1 26) (whole (at 1 33) 256))) None) ∷ []))) ∷ []))) (handler_node None) None)) ∷ (action (bracketed (at 1 44) None (do_loop (at 1 44) (for_steps (at 1 47) (n 1 51 (codes "i")) (whole (at 1 56) 1) None false (whole (at 1 61) 3) None) (statement_nodes [])) (handler_node None) None)) ∷ []) None (Some (n 1 72 (codes "m")))) ∷ [])

broken_3-ground : IsGroundOf broken_3 (ground_of broken_3)
broken_3-ground = record { names = refl; entries = refl }

broken_3-modes : broken_modes (ground_of broken_3) broken_3 ≡ []
broken_3-modes = refl

broken_3-counted : IsStatementGroundOf broken_3 (counted_ground_of broken_3)
broken_3-counted = record { names = refl; entries = refl }

broken_3-statements : broken_statements (counted_ground_of broken_3) broken_3 ≡ (told rules.L4 1 1 ∷ [])
broken_3-statements = refl

-- a powerset is one scalar
--   m: MODULE p: PROC (); DCL a ARRAY (1:512) POWERSET INT (1:32); END p; END m;
abbrev near_1 : ProgramTree
near_1 = program ((modul (n 1 1 (codes "m")) modulions.Module ((procedure (proc (n 1 11 (codes "p")) [] None None ((local_part (locations (at 1 23) ((decl ((n 1 27 (codes "a")) ∷ []) (w.base_mode (w.array (at 1 29) (w.index_bounded (whole (at 1 36) 1) (whole (at 1 38) 512)) (w.powerset (at 1 43) (w.bounded (n 1 52 (codes "INT")) (whole (at 1 57) 1) (whole (at 1 59) 32))) None)) None) ∷ []))) ∷ []) None (Some (n 1 68 (codes "p"))))) ∷ []) None (Some (n 1 75 (codes "m")))) ∷ [])

near_1-ground : IsGroundOf near_1 (ground_of near_1)
near_1-ground = record { names = refl; entries = refl }

near_1-modes : broken_modes (ground_of near_1) near_1 ≡ []
near_1-modes = refl

near_1-counted : IsStatementGroundOf near_1 (counted_ground_of near_1)
near_1-counted = record { names = refl; entries = refl }

near_1-statements : broken_statements (counted_ground_of near_1) near_1 ≡ []
near_1-statements = refl

near_1-processes : broken_processes (counted_ground_of near_1) near_1 ≡ []
near_1-processes = refl

-- shared locations, synonyms and results aren't local; an empty text has no scalars
--   m: MODULE DCL z ARRAY (1:4096) INT; f: PROC () RETURNS (ARRAY (1:256) INT); DCL a ARRAY (1:512) INT, t CHARS (0); SYN k = 1; END f; END m;
abbrev near_2 : ProgramTree
near_2 = program ((modul (n 1 1 (codes "m")) modulions.Module ((local_item (locations (at 1 11) ((decl ((n 1 15 (codes "z")) ∷ []) (w.base_mode (w.array (at 1 17) (w.index_bounded (whole (at 1 24) 1) (whole (at 1 26) 4096)) (w.discrete (w.named (n 1 32 (codes "INT")))) None)) None) ∷ []))) ∷ (procedure (proc (n 1 37 (codes "f")) [] (Some (w.base_mode (w.array (at 1 57) (w.index_bounded (whole (at 1 64) 1) (whole (at 1 66) 256)) (w.discrete (w.named (n 1 71 (codes "INT")))) None))) None ((local_part (locations (at 1 77) ((decl ((n 1 81 (codes "a")) ∷ []) (w.base_mode (w.array (at 1 83) (w.index_bounded (whole (at 1 90) 1) (whole (at 1 92) 512)) (w.discrete (w.named (n 1 97 (codes "INT")))) None)) None) ∷ (decl ((n 1 102 (codes "t")) ∷ []) (w.base_mode (w.chars (at 1 104) (whole (at 1 111) 0))) None) ∷ []))) ∷ (local_part (synonyms (at 1 115) ((syn ((n 1 119 (codes "k")) ∷ []) None (whole (at 1 123) 1)) ∷ []))) ∷ []) None (Some (n 1 130 (codes "f"))))) ∷ []) None (Some (n 1 137 (codes "m")))) ∷ [])

near_2-ground : IsGroundOf near_2 (ground_of near_2)
near_2-ground = record { names = refl; entries = refl }

near_2-modes : broken_modes (ground_of near_2) near_2 ≡ []
near_2-modes = refl

near_2-counted : IsStatementGroundOf near_2 (counted_ground_of near_2)
near_2-counted = record { names = refl; entries = refl }

near_2-statements : broken_statements (counted_ground_of near_2) near_2 ≡ []
near_2-statements = refl

near_2-processes : broken_processes (counted_ground_of near_2) near_2 ≡ []
near_2-processes = refl
