-- Rule L6: texts that break it, and texts that nearly do.
use Rattle.std.proofs.Common.{◌≡◌, refl}
use Rattle.std.specs.Prelude.{false, [], ◌∷◌, Some, None, codes}
use Rattle.chill_tree.specs.declared.tree.expr.Operator.TheVariants as ops
use Rattle.chill_tree.specs.declared.tree.item.ModulionKind.TheVariants as modulions
use Rattle.chill_tree.specs.ExprTree.{whole, name, apply, binary, expr_nodes}
use Rattle.chill_tree.specs.ModeTree as w
use Rattle.chill_tree.specs.LocalTree.{locations}
use Rattle.chill_tree.specs.SimpleTree.{assign, call_of, assert_that}
use Rattle.chill_tree.specs.StatementTree.{simple, bracketed, if_then, receive_case, statement_nodes, branch_nodes, receive_nodes, no_otherwise, handler_node}
use Rattle.chill_tree.specs.ItemTree.{ProgramTree, local_item, signals, procedure, action}
use Rattle.diagnostics.specs.declared.rule.Rule.TheVariants as rules
use Rattle.checks_model.specs.Table.{IsGroundOf, IsStatementGroundOf}
use Rattle.checks_model.specs.Phases.{broken_modes, broken_statements, broken_processes}
use Rattle.checks_examples.proofs.Programs.{at, n, init, decl, recv, sig, proc, modul, program, ground_of, counted_ground_of, told}

-- where it is told, its place isn't asked
--   m: MODULE DCL a ARRAY (1:257) INT, x INT; x := a; PUT_INT(a); ASSERT a; END m;
abbrev broken_1 : ProgramTree
broken_1 = program ((modul (n 1 1 (codes "m")) modulions.Module ((local_item (locations (at 1 11) ((decl ((n 1 15 (codes "a")) ∷ []) (w.base_mode (w.array (at 1 17) (w.index_bounded (whole (at 1 24) 1) (whole (at 1 26) 257)) (w.discrete (w.named (n 1 31 (codes "INT")))) None)) None) ∷ (decl ((n 1 36 (codes "x")) ∷ []) (w.base_mode (w.discrete (w.named (n 1 38 (codes "INT"))))) None) ∷ []))) ∷ (action (simple (at 1 43) (assign (at 1 43) (name (n 1 43 (codes "x"))) (name (n 1 48 (codes "a")))) (handler_node None))) ∷ (action (simple (at 1 51) (call_of (at 1 51) false (n 1 51 (codes "PUT_INT")) ((name (n 1 59 (codes "a"))) ∷ [])) (handler_node None))) ∷ (action (simple (at 1 63) (assert_that (at 1 63) (name (n 1 70 (codes "a")))) (handler_node None))) ∷ []) None (Some (n 1 77 (codes "m")))) ∷ [])

broken_1-ground : IsGroundOf broken_1 (ground_of broken_1)
broken_1-ground = record { names = refl; entries = refl }

broken_1-modes : broken_modes (ground_of broken_1) broken_1 ≡ []
broken_1-modes = refl

broken_1-counted : IsStatementGroundOf broken_1 (counted_ground_of broken_1)
broken_1-counted = record { names = refl; entries = refl }

broken_1-statements : broken_statements (counted_ground_of broken_1) broken_1 ≡ (told rules.L6 1 48 ∷ told rules.S1 1 51 ∷ told rules.L6 1 59 ∷ told rules.L6 1 70 ∷ [])
broken_1-statements = refl

-- in an assignment and a declaration
--   m: MODULE DCL a, b ARRAY (1:257) INT; DCL c ARRAY (1:257) INT := a; a := b; END m;
abbrev broken_2 : ProgramTree
broken_2 = program ((modul (n 1 1 (codes "m")) modulions.Module ((local_item (locations (at 1 11) ((decl ((n 1 15 (codes "a")) ∷ (n 1 18 (codes "b")) ∷ []) (w.base_mode (w.array (at 1 20) (w.index_bounded (whole (at 1 27) 1) (whole (at 1 29) 257)) (w.discrete (w.named (n 1 34 (codes "INT")))) None)) None) ∷ []))) ∷ (local_item (locations (at 1 39) ((decl ((n 1 43 (codes "c")) ∷ []) (w.base_mode (w.array (at 1 45) (w.index_bounded (whole (at 1 52) 1) (whole (at 1 54) 257)) (w.discrete (w.named (n 1 59 (codes "INT")))) None)) (Some (init (at 1 63) false (name (n 1 66 (codes "a")))))) ∷ []))) ∷ (action (simple (at 1 69) (assign (at 1 69) (name (n 1 69 (codes "a"))) (name (n 1 74 (codes "b")))) (handler_node None))) ∷ []) None (Some (n 1 81 (codes "m")))) ∷ [])

broken_2-ground : IsGroundOf broken_2 (ground_of broken_2)
broken_2-ground = record { names = refl; entries = refl }

broken_2-modes : broken_modes (ground_of broken_2) broken_2 ≡ []
broken_2-modes = refl

broken_2-counted : IsStatementGroundOf broken_2 (counted_ground_of broken_2)
broken_2-counted = record { names = refl; entries = refl }

broken_2-statements : broken_statements (counted_ground_of broken_2) broken_2 ≡ (told rules.L6 1 66 ∷ told rules.L6 1 74 ∷ [])
broken_2-statements = refl

-- both operands of a comparison
--   m: MODULE DCL a, b ARRAY (1:257) INT, c BOOL; c := a = b; IF a /= a THEN FI; END m;
abbrev broken_3 : ProgramTree
broken_3 = program ((modul (n 1 1 (codes "m")) modulions.Module ((local_item (locations (at 1 11) ((decl ((n 1 15 (codes "a")) ∷ (n 1 18 (codes "b")) ∷ []) (w.base_mode (w.array (at 1 20) (w.index_bounded (whole (at 1 27) 1) (whole (at 1 29) 257)) (w.discrete (w.named (n 1 34 (codes "INT")))) None)) None) ∷ (decl ((n 1 39 (codes "c")) ∷ []) (w.base_mode (w.discrete (w.named (n 1 41 (codes "BOOL"))))) None) ∷ []))) ∷ (action (simple (at 1 47) (assign (at 1 47) (name (n 1 47 (codes "c"))) (binary (at 1 52) (name (n 1 52 (codes "a"))) ops.Equal (at 1 54) (name (n 1 56 (codes "b"))))) (handler_node None))) ∷ (action (bracketed (at 1 59) None (if_then (at 1 59) (binary (at 1 62) (name (n 1 62 (codes "a"))) ops.NotEqual (at 1 64) (name (n 1 67 (codes "a")))) (statement_nodes []) (branch_nodes []) no_otherwise) (handler_node None) None)) ∷ []) None (Some (n 1 82 (codes "m")))) ∷ [])

broken_3-ground : IsGroundOf broken_3 (ground_of broken_3)
broken_3-ground = record { names = refl; entries = refl }

broken_3-modes : broken_modes (ground_of broken_3) broken_3 ≡ []
broken_3-modes = refl

broken_3-counted : IsStatementGroundOf broken_3 (counted_ground_of broken_3)
broken_3-counted = record { names = refl; entries = refl }

broken_3-statements : broken_statements (counted_ground_of broken_3) broken_3 ≡ (told rules.L6 1 52 ∷ told rules.L6 1 56 ∷ told rules.L6 1 62 ∷ told rules.L6 1 67 ∷ [])
broken_3-statements = refl

-- the same as an action, which drops it
--   m: MODULE f: PROC () RETURNS (ARRAY (1:257) INT); END f; f(); END m;
abbrev near_1 : ProgramTree
near_1 = program ((modul (n 1 1 (codes "m")) modulions.Module ((procedure (proc (n 1 11 (codes "f")) [] (Some (w.base_mode (w.array (at 1 31) (w.index_bounded (whole (at 1 38) 1) (whole (at 1 40) 257)) (w.discrete (w.named (n 1 45 (codes "INT")))) None))) None [] None (Some (n 1 55 (codes "f"))))) ∷ (action (simple (at 1 58) (call_of (at 1 58) false (n 1 58 (codes "f")) []) (handler_node None))) ∷ []) None (Some (n 1 67 (codes "m")))) ∷ [])

near_1-ground : IsGroundOf near_1 (ground_of near_1)
near_1-ground = record { names = refl; entries = refl }

near_1-modes : broken_modes (ground_of near_1) near_1 ≡ []
near_1-modes = refl

near_1-counted : IsStatementGroundOf near_1 (counted_ground_of near_1)
near_1-counted = record { names = refl; entries = refl }

near_1-statements : broken_statements (counted_ground_of near_1) near_1 ≡ []
near_1-statements = refl

near_1-processes : broken_processes (counted_ground_of near_1) near_1 ≡ []
near_1-processes = refl

-- a received name isn't a value, and a message may be large
--   m: MODULE SIGNAL s = (ARRAY (1:500) INT); DCL x INT; RECEIVE CASE (s IN v): x := v(1); ESAC; END m;
abbrev near_2 : ProgramTree
near_2 = program ((modul (n 1 1 (codes "m")) modulions.Module ((signals (at 1 11) ((sig (n 1 18 (codes "s")) (Some ((w.base_mode (w.array (at 1 23) (w.index_bounded (whole (at 1 30) 1) (whole (at 1 32) 500)) (w.discrete (w.named (n 1 37 (codes "INT")))) None)) ∷ [])) None) ∷ [])) ∷ (local_item (locations (at 1 43) ((decl ((n 1 47 (codes "x")) ∷ []) (w.base_mode (w.discrete (w.named (n 1 49 (codes "INT"))))) None) ∷ []))) ∷ (action (bracketed (at 1 54) None (receive_case (at 1 54) None (receive_nodes ((recv (at 1 67) (n 1 68 (codes "s")) (Some ((n 1 73 (codes "v")) ∷ [])) ((simple (at 1 77) (assign (at 1 77) (name (n 1 77 (codes "x"))) (apply (at 1 82) (name (n 1 82 (codes "v"))) (expr_nodes ((whole (at 1 84) 1) ∷ [])))) (handler_node None)) ∷ [])) ∷ [])) no_otherwise) (handler_node None) None)) ∷ []) None (Some (n 1 98 (codes "m")))) ∷ [])

near_2-ground : IsGroundOf near_2 (ground_of near_2)
near_2-ground = record { names = refl; entries = refl }

near_2-modes : broken_modes (ground_of near_2) near_2 ≡ []
near_2-modes = refl

near_2-counted : IsStatementGroundOf near_2 (counted_ground_of near_2)
near_2-counted = record { names = refl; entries = refl }

near_2-statements : broken_statements (counted_ground_of near_2) near_2 ≡ []
near_2-statements = refl

near_2-processes : broken_processes (counted_ground_of near_2) near_2 ≡ []
near_2-processes = refl
