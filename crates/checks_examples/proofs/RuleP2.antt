-- Rule P2: texts that break it, and texts that nearly do.
use Rattle.std.proofs.Common.{◌≡◌, refl}
use Rattle.std.specs.Prelude.{false, [], ◌∷◌, Some, None, codes}
use Rattle.chill_tree.specs.declared.tree.item.ModulionKind.TheVariants as modulions
use Rattle.chill_tree.specs.declared.tree.item.Passed.TheVariants.{Names}
use Rattle.chill_tree.specs.ExprTree.{whole, name}
use Rattle.chill_tree.specs.ModeTree as w
use Rattle.chill_tree.specs.LocalTree.{locations}
use Rattle.chill_tree.specs.SimpleTree.{assign, call_of}
use Rattle.chill_tree.specs.StatementTree.{empty, simple, handler_node}
use Rattle.chill_tree.specs.ItemTree.{ProgramTree, grant, local_item, procedure, action, modulion_item}
use Rattle.diagnostics.specs.declared.rule.Rule.TheVariants as rules
use Rattle.checks_model.specs.Table.{IsGroundOf, IsStatementGroundOf}
use Rattle.checks_model.specs.Phases.{broken_modes, broken_statements, broken_processes}
use Rattle.checks_examples.proofs.Programs.{at, n, init, decl, alt, hand, proc, modul, program, ground_of, counted_ground_of, told}

-- an action of one token
--   r: REGION ; ; END r; m: MODULE END m;
abbrev broken_1 : ProgramTree
broken_1 = program ((modul (n 1 1 (codes "r")) modulions.Region ((action (empty (at 1 11))) ∷ (action (empty (at 1 13))) ∷ []) None (Some (n 1 19 (codes "r")))) ∷ (modul (n 1 22 (codes "m")) modulions.Module [] None (Some (n 1 36 (codes "m")))) ∷ [])

broken_1-ground : IsGroundOf broken_1 (ground_of broken_1)
broken_1-ground = record { names = refl; entries = refl }

broken_1-modes : broken_modes (ground_of broken_1) broken_1 ≡ []
broken_1-modes = refl

broken_1-counted : IsStatementGroundOf broken_1 (counted_ground_of broken_1)
broken_1-counted = record { names = refl; entries = refl }

broken_1-statements : broken_statements (counted_ground_of broken_1) broken_1 ≡ []
broken_1-statements = refl

broken_1-processes : broken_processes (counted_ground_of broken_1) broken_1 ≡ (told rules.P2 1 11 ∷ told rules.P2 1 13 ∷ [])
broken_1-processes = refl

-- an action
--   r: REGION DCL x INT; x := 1; END r; m: MODULE END m;
abbrev broken_2 : ProgramTree
broken_2 = program ((modul (n 1 1 (codes "r")) modulions.Region ((local_item (locations (at 1 11) ((decl ((n 1 15 (codes "x")) ∷ []) (w.base_mode (w.discrete (w.named (n 1 17 (codes "INT"))))) None) ∷ []))) ∷ (action (simple (at 1 22) (assign (at 1 22) (name (n 1 22 (codes "x"))) (whole (at 1 27) 1)) (handler_node None))) ∷ []) None (Some (n 1 34 (codes "r")))) ∷ (modul (n 1 37 (codes "m")) modulions.Module [] None (Some (n 1 51 (codes "m")))) ∷ [])

broken_2-ground : IsGroundOf broken_2 (ground_of broken_2)
broken_2-ground = record { names = refl; entries = refl }

broken_2-modes : broken_modes (ground_of broken_2) broken_2 ≡ []
broken_2-modes = refl

broken_2-counted : IsStatementGroundOf broken_2 (counted_ground_of broken_2)
broken_2-counted = record { names = refl; entries = refl }

broken_2-statements : broken_statements (counted_ground_of broken_2) broken_2 ≡ []
broken_2-statements = refl

broken_2-processes : broken_processes (counted_ground_of broken_2) broken_2 ≡ (told rules.P2 1 22 ∷ [])
broken_2-processes = refl

-- a module and a region
--   r: REGION a: MODULE END a; b: REGION END b; END r; m: MODULE END m;
abbrev broken_3 : ProgramTree
broken_3 = program ((modul (n 1 1 (codes "r")) modulions.Region ((modulion_item (modul (n 1 11 (codes "a")) modulions.Module [] None (Some (n 1 25 (codes "a"))))) ∷ (modulion_item (modul (n 1 28 (codes "b")) modulions.Region [] None (Some (n 1 42 (codes "b"))))) ∷ []) None (Some (n 1 49 (codes "r")))) ∷ (modul (n 1 52 (codes "m")) modulions.Module [] None (Some (n 1 66 (codes "m")))) ∷ [])

broken_3-ground : IsGroundOf broken_3 (ground_of broken_3)
broken_3-ground = record { names = refl; entries = refl }

broken_3-modes : broken_modes (ground_of broken_3) broken_3 ≡ []
broken_3-modes = refl

broken_3-counted : IsStatementGroundOf broken_3 (counted_ground_of broken_3)
broken_3-counted = record { names = refl; entries = refl }

broken_3-statements : broken_statements (counted_ground_of broken_3) broken_3 ≡ []
broken_3-statements = refl

broken_3-processes : broken_processes (counted_ground_of broken_3) broken_3 ≡ (told rules.P2 1 11 ∷ told rules.P2 1 28 ∷ [])
broken_3-processes = refl

-- a region in a module, among actions
--   m: MODULE ; r: REGION GRANT f; f: PROC (); END f; END r; f(); a: MODULE ; END a; END m;
abbrev near_1 : ProgramTree
near_1 = program ((modul (n 1 1 (codes "m")) modulions.Module ((action (empty (at 1 11))) ∷ (modulion_item (modul (n 1 13 (codes "r")) modulions.Region ((grant (at 1 23) (Names ((n 1 29 (codes "f")) ∷ []))) ∷ (procedure (proc (n 1 32 (codes "f")) [] None None [] None (Some (n 1 48 (codes "f"))))) ∷ []) None (Some (n 1 55 (codes "r"))))) ∷ (action (simple (at 1 58) (call_of (at 1 58) false (n 1 58 (codes "f")) []) (handler_node None))) ∷ (modulion_item (modul (n 1 63 (codes "a")) modulions.Module ((action (empty (at 1 73))) ∷ []) None (Some (n 1 79 (codes "a"))))) ∷ []) None (Some (n 1 86 (codes "m")))) ∷ [])

near_1-ground : IsGroundOf near_1 (ground_of near_1)
near_1-ground = record { names = refl; entries = refl }

near_1-modes : broken_modes (ground_of near_1) near_1 ≡ []
near_1-modes = refl

near_1-counted : IsStatementGroundOf near_1 (counted_ground_of near_1)
near_1-counted = record { names = refl; entries = refl }

near_1-statements : broken_statements (counted_ground_of near_1) near_1 ≡ []
near_1-statements = refl

near_1-processes : broken_processes (counted_ground_of near_1) near_1 ≡ []
near_1-processes = refl

-- a handler of a region may hold actions
--   r: REGION DCL x INT := 1; END ON (OVERFLOW): x := 2; ; ELSE PUT_INT(x); END r; m: MODULE END m;
abbrev near_2 : ProgramTree
near_2 = program ((modul (n 1 1 (codes "r")) modulions.Region ((local_item (locations (at 1 11) ((decl ((n 1 15 (codes "x")) ∷ []) (w.base_mode (w.discrete (w.named (n 1 17 (codes "INT"))))) (Some (init (at 1 21) false (whole (at 1 24) 1)))) ∷ []))) ∷ []) (Some (hand (at 1 31) ((alt (at 1 34) ((n 1 35 (codes "OVERFLOW")) ∷ []) ((simple (at 1 46) (assign (at 1 46) (name (n 1 46 (codes "x"))) (whole (at 1 51) 2)) (handler_node None)) ∷ (empty (at 1 54)) ∷ [])) ∷ []) (Some ((simple (at 1 61) (call_of (at 1 61) false (n 1 61 (codes "PUT_INT")) ((name (n 1 69 (codes "x"))) ∷ [])) (handler_node None)) ∷ [])))) (Some (n 1 77 (codes "r")))) ∷ (modul (n 1 80 (codes "m")) modulions.Module [] None (Some (n 1 94 (codes "m")))) ∷ [])

near_2-ground : IsGroundOf near_2 (ground_of near_2)
near_2-ground = record { names = refl; entries = refl }

near_2-modes : broken_modes (ground_of near_2) near_2 ≡ []
near_2-modes = refl

near_2-counted : IsStatementGroundOf near_2 (counted_ground_of near_2)
near_2-counted = record { names = refl; entries = refl }

near_2-statements : broken_statements (counted_ground_of near_2) near_2 ≡ []
near_2-statements = refl

near_2-processes : broken_processes (counted_ground_of near_2) near_2 ≡ []
near_2-processes = refl
