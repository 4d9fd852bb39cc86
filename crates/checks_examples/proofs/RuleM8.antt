-- Rule M8: texts that break it, and texts that nearly do.
use Rattle.std.proofs.Common.{◌≡◌, refl}
use Rattle.std.specs.Prelude.{[], ◌∷◌, Some, None, codes}
use Rattle.chill_tree.specs.declared.tree.item.ModulionKind.TheVariants as modulions
use Rattle.chill_tree.specs.ExprTree.{whole}
use Rattle.chill_tree.specs.ModeTree as w
use Rattle.chill_tree.specs.LocalTree.{synonyms, syn_modes, new_modes, locations}
use Rattle.chill_tree.specs.StatementTree.{local_part}
use Rattle.chill_tree.specs.ItemTree.{ProgramTree, local_item, signals, procedure}
use Rattle.diagnostics.specs.declared.rule.Rule.TheVariants as rules
use Rattle.checks_model.specs.Table.{IsGroundOf, IsStatementGroundOf}
use Rattle.checks_model.specs.Phases.{broken_modes, broken_statements, broken_processes}
use Rattle.checks_examples.proofs.Programs.{at, n, syn, modedef, decl, fields, sig, param, proc, modul, program, ground_of, counted_ground_of, told}

-- the mode of a synonym
--   m: MODULE SYN k EVENT = 1; END m;
abbrev broken_1 : ProgramTree
broken_1 = program ((modul (n 1 1 (codes "m")) modulions.Module ((local_item (synonyms (at 1 11) ((syn ((n 1 15 (codes "k")) ∷ []) (Some (w.event_mode (at 1 17) None)) (whole (at 1 25) 1)) ∷ []))) ∷ []) None (Some (n 1 32 (codes "m")))) ∷ [])

broken_1-ground : IsGroundOf broken_1 (ground_of broken_1)
broken_1-ground = record { names = refl; entries = refl }

broken_1-modes : broken_modes (ground_of broken_1) broken_1 ≡ (told rules.M8 1 17 ∷ [])
broken_1-modes = refl

-- a parameter and a result
--   m: MODULE p: PROC (k EVENT) RETURNS (BUFFER INT); END p; END m;
abbrev broken_2 : ProgramTree
broken_2 = program ((modul (n 1 1 (codes "m")) modulions.Module ((procedure (proc (n 1 11 (codes "p")) ((param ((n 1 20 (codes "k")) ∷ []) (w.event_mode (at 1 22) None) None) ∷ []) (Some (w.buffer_mode (at 1 38) None (w.discrete (w.named (n 1 45 (codes "INT")))))) None [] None (Some (n 1 55 (codes "p"))))) ∷ []) None (Some (n 1 62 (codes "m")))) ∷ [])

broken_2-ground : IsGroundOf broken_2 (ground_of broken_2)
broken_2-ground = record { names = refl; entries = refl }

broken_2-modes : broken_modes (ground_of broken_2) broken_2 ≡ (told rules.M8 1 22 ∷ told rules.M8 1 38 ∷ [])
broken_2-modes = refl

-- a part of a signal
--   m: MODULE SYNMODE e = EVENT; SIGNAL s = (EVENT, INT, e); END m;
abbrev broken_3 : ProgramTree
broken_3 = program ((modul (n 1 1 (codes "m")) modulions.Module ((local_item (syn_modes (at 1 11) ((modedef (n 1 19 (codes "e")) (w.event_mode (at 1 23) None)) ∷ []))) ∷ (signals (at 1 30) ((sig (n 1 37 (codes "s")) (Some ((w.event_mode (at 1 42) None) ∷ (w.base_mode (w.discrete (w.named (n 1 49 (codes "INT"))))) ∷ (w.base_mode (w.discrete (w.named (n 1 54 (codes "e"))))) ∷ [])) None) ∷ [])) ∷ []) None (Some (n 1 62 (codes "m")))) ∷ [])

broken_3-ground : IsGroundOf broken_3 (ground_of broken_3)
broken_3-ground = record { names = refl; entries = refl }

broken_3-modes : broken_modes (ground_of broken_3) broken_3 ≡ (told rules.M8 1 42 ∷ told rules.M8 1 54 ∷ [])
broken_3-modes = refl

-- a body may give a name to such a mode
--   m: MODULE p: PROC (); SYNMODE e = EVENT; DCL x INT; END p; END m;
abbrev near_1 : ProgramTree
near_1 = program ((modul (n 1 1 (codes "m")) modulions.Module ((procedure (proc (n 1 11 (codes "p")) [] None None ((local_part (syn_modes (at 1 23) ((modedef (n 1 31 (codes "e")) (w.event_mode (at 1 35) None)) ∷ []))) ∷ (local_part (locations (at 1 42) ((decl ((n 1 46 (codes "x")) ∷ []) (w.base_mode (w.discrete (w.named (n 1 48 (codes "INT"))))) None) ∷ []))) ∷ []) None (Some (n 1 57 (codes "p"))))) ∷ []) None (Some (n 1 64 (codes "m")))) ∷ [])

near_1-ground : IsGroundOf near_1 (ground_of near_1)
near_1-ground = record { names = refl; entries = refl }

near_1-modes : broken_modes (ground_of near_1) near_1 ≡ []
near_1-modes = refl

near_1-counted : IsStatementGroundOf near_1 (counted_ground_of near_1)
near_1-counted = record { names = refl; entries = refl }

near_1-statements : broken_statements (counted_ground_of near_1) near_1 ≡ []
near_1-statements = refl

near_1-processes : broken_processes (counted_ground_of near_1) near_1 ≡ []
near_1-processes = refl

-- the whole mode of DCL, SYNMODE and NEWMODE
--   m: MODULE SYNMODE e = EVENT (3); NEWMODE f = e; NEWMODE b = BUFFER (2) STRUCT (a INT); DCL x e, y f, z b; END m;
abbrev near_2 : ProgramTree
near_2 = program ((modul (n 1 1 (codes "m")) modulions.Module ((local_item (syn_modes (at 1 11) ((modedef (n 1 19 (codes "e")) (w.event_mode (at 1 23) (Some (whole (at 1 30) 3)))) ∷ []))) ∷ (local_item (new_modes (at 1 34) ((modedef (n 1 42 (codes "f")) (w.base_mode (w.discrete (w.named (n 1 46 (codes "e")))))) ∷ []))) ∷ (local_item (new_modes (at 1 49) ((modedef (n 1 57 (codes "b")) (w.buffer_mode (at 1 61) (Some (whole (at 1 69) 2)) (w.structure (at 1 72) (w.field_nodes ((fields ((n 1 80 (codes "a")) ∷ []) (w.discrete (w.named (n 1 82 (codes "INT")))) None) ∷ [])) None))) ∷ []))) ∷ (local_item (locations (at 1 88) ((decl ((n 1 92 (codes "x")) ∷ []) (w.base_mode (w.discrete (w.named (n 1 94 (codes "e"))))) None) ∷ (decl ((n 1 97 (codes "y")) ∷ []) (w.base_mode (w.discrete (w.named (n 1 99 (codes "f"))))) None) ∷ (decl ((n 1 102 (codes "z")) ∷ []) (w.base_mode (w.discrete (w.named (n 1 104 (codes "b"))))) None) ∷ []))) ∷ []) None (Some (n 1 111 (codes "m")))) ∷ [])

near_2-ground : IsGroundOf near_2 (ground_of near_2)
near_2-ground = record { names = refl; entries = refl }

near_2-modes : broken_modes (ground_of near_2) near_2 ≡ []
near_2-modes = refl

near_2-counted : IsStatementGroundOf near_2 (counted_ground_of near_2)
near_2-counted = record { names = refl; entries = refl }

near_2-statements : broken_statements (counted_ground_of near_2) near_2 ≡ []
near_2-statements = refl

near_2-processes : broken_processes (counted_ground_of near_2) near_2 ≡ []
near_2-processes = refl
