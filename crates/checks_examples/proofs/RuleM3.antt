-- Rule M3: texts that break it, and texts that nearly do.
use Rattle.std.proofs.Common.{◌≡◌, refl}
use Rattle.std.specs.Prelude.{[], ◌∷◌, Some, None, codes}
use Rattle.chill_tree.specs.declared.tree.expr.Operator.TheVariants as ops
use Rattle.chill_tree.specs.declared.tree.expr.Prefix.TheVariants as prefixes
use Rattle.chill_tree.specs.declared.tree.item.ModulionKind.TheVariants as modulions
use Rattle.chill_tree.specs.ExprTree.{whole, text, name, prefixed, binary}
use Rattle.chill_tree.specs.ModeTree as w
use Rattle.chill_tree.specs.LocalTree.{synonyms, syn_modes, new_modes, locations}
use Rattle.chill_tree.specs.ItemTree.{ProgramTree, local_item}
use Rattle.diagnostics.specs.declared.rule.Rule.TheVariants as rules
use Rattle.checks_model.specs.Table.{IsGroundOf, IsStatementGroundOf}
use Rattle.checks_model.specs.Phases.{broken_modes, broken_statements, broken_processes}
use Rattle.checks_examples.proofs.Programs.{at, n, syn, modedef, decl, modul, program, ground_of, counted_ground_of, told}

-- NULL is no bound
--   m: MODULE DCL x INT (NULL:3); END m;
abbrev broken_1 : ProgramTree
broken_1 = program ((modul (n 1 1 (codes "m")) modulions.Module ((local_item (locations (at 1 11) ((decl ((n 1 15 (codes "x")) ∷ []) (w.base_mode (w.discrete (w.bounded (n 1 17 (codes "INT")) (name (n 1 22 (codes "NULL"))) (whole (at 1 27) 3)))) None) ∷ []))) ∷ []) None (Some (n 1 35 (codes "m")))) ∷ [])

broken_1-ground : IsGroundOf broken_1 (ground_of broken_1)
broken_1-ground = record { names = refl; entries = refl }

broken_1-modes : broken_modes (ground_of broken_1) broken_1 ≡ (told rules.M3 1 22 ∷ [])
broken_1-modes = refl

-- a text of one character is no character
--   m: MODULE DCL x CHAR ("a":"b"); END m;
abbrev broken_2 : ProgramTree
broken_2 = program ((modul (n 1 1 (codes "m")) modulions.Module ((local_item (locations (at 1 11) ((decl ((n 1 15 (codes "x")) ∷ []) (w.base_mode (w.discrete (w.bounded (n 1 17 (codes "CHAR")) (text (at 1 23) (97 ∷ [])) (text (at 1 27) (98 ∷ []))))) None) ∷ []))) ∷ []) None (Some (n 1 37 (codes "m")))) ∷ [])

broken_2-ground : IsGroundOf broken_2 (ground_of broken_2)
broken_2-ground = record { names = refl; entries = refl }

broken_2-modes : broken_modes (ground_of broken_2) broken_2 ≡ (told rules.M3 1 23 ∷ told rules.M3 1 27 ∷ [])
broken_2-modes = refl

-- a value of another novelty as an array's bound
--   m: MODULE NEWMODE o = INT; SYN k o = 3; DCL a ARRAY (k:5) INT; END m;
abbrev broken_3 : ProgramTree
broken_3 = program ((modul (n 1 1 (codes "m")) modulions.Module ((local_item (new_modes (at 1 11) ((modedef (n 1 19 (codes "o")) (w.base_mode (w.discrete (w.named (n 1 23 (codes "INT")))))) ∷ []))) ∷ (local_item (synonyms (at 1 28) ((syn ((n 1 32 (codes "k")) ∷ []) (Some (w.base_mode (w.discrete (w.named (n 1 34 (codes "o")))))) (whole (at 1 38) 3)) ∷ []))) ∷ (local_item (locations (at 1 41) ((decl ((n 1 45 (codes "a")) ∷ []) (w.base_mode (w.array (at 1 47) (w.index_bounded (name (n 1 54 (codes "k"))) (whole (at 1 56) 5)) (w.discrete (w.named (n 1 59 (codes "INT")))) None)) None) ∷ []))) ∷ []) None (Some (n 1 68 (codes "m")))) ∷ [])

broken_3-ground : IsGroundOf broken_3 (ground_of broken_3)
broken_3-ground = record { names = refl; entries = refl }

broken_3-modes : broken_modes (ground_of broken_3) broken_3 ≡ (told rules.M3 1 54 ∷ [])
broken_3-modes = refl

-- a literal goes with each novelty, and a synonym with its own
--   m: MODULE NEWMODE o = INT (0:7); SYN k o = 3; DCL x o (0:7), y o (k:k), z o (k:k + 4); END m;
abbrev near_1 : ProgramTree
near_1 = program ((modul (n 1 1 (codes "m")) modulions.Module ((local_item (new_modes (at 1 11) ((modedef (n 1 19 (codes "o")) (w.base_mode (w.discrete (w.bounded (n 1 23 (codes "INT")) (whole (at 1 28) 0) (whole (at 1 30) 7))))) ∷ []))) ∷ (local_item (synonyms (at 1 34) ((syn ((n 1 38 (codes "k")) ∷ []) (Some (w.base_mode (w.discrete (w.named (n 1 40 (codes "o")))))) (whole (at 1 44) 3)) ∷ []))) ∷ (local_item (locations (at 1 47) ((decl ((n 1 51 (codes "x")) ∷ []) (w.base_mode (w.discrete (w.bounded (n 1 53 (codes "o")) (whole (at 1 56) 0) (whole (at 1 58) 7)))) None) ∷ (decl ((n 1 62 (codes "y")) ∷ []) (w.base_mode (w.discrete (w.bounded (n 1 64 (codes "o")) (name (n 1 67 (codes "k"))) (name (n 1 69 (codes "k")))))) None) ∷ (decl ((n 1 73 (codes "z")) ∷ []) (w.base_mode (w.discrete (w.bounded (n 1 75 (codes "o")) (name (n 1 78 (codes "k"))) (binary (at 1 80) (name (n 1 80 (codes "k"))) ops.Plus (at 1 82) (whole (at 1 84) 4))))) None) ∷ []))) ∷ []) None (Some (n 1 92 (codes "m")))) ∷ [])

near_1-ground : IsGroundOf near_1 (ground_of near_1)
near_1-ground = record { names = refl; entries = refl }

near_1-modes : broken_modes (ground_of near_1) near_1 ≡ []
near_1-modes = refl

near_1-counted : IsStatementGroundOf near_1 (counted_ground_of near_1)
near_1-counted = record { names = refl; entries = refl }

near_1-statements : broken_statements (counted_ground_of near_1) near_1 ≡ []
near_1-statements = refl

near_1-processes : broken_processes (counted_ground_of near_1) near_1 ≡ []
near_1-processes = refl

-- the bounds of the parent itself
--   m: MODULE SYNMODE o = INT (-3:3); DCL x o (-3:3); NEWMODE c = SET (red, green); DCL y c (red:green), z BOOL (FALSE:TRUE); END m;
abbrev near_2 : ProgramTree
near_2 = program ((modul (n 1 1 (codes "m")) modulions.Module ((local_item (syn_modes (at 1 11) ((modedef (n 1 19 (codes "o")) (w.base_mode (w.discrete (w.bounded (n 1 23 (codes "INT")) (prefixed (at 1 28) prefixes.Minus (whole (at 1 29) 3)) (whole (at 1 31) 3))))) ∷ []))) ∷ (local_item (locations (at 1 35) ((decl ((n 1 39 (codes "x")) ∷ []) (w.base_mode (w.discrete (w.bounded (n 1 41 (codes "o")) (prefixed (at 1 44) prefixes.Minus (whole (at 1 45) 3)) (whole (at 1 47) 3)))) None) ∷ []))) ∷ (local_item (new_modes (at 1 51) ((modedef (n 1 59 (codes "c")) (w.base_mode (w.discrete (w.set_of (at 1 63) ((n 1 68 (codes "red")) ∷ (n 1 73 (codes "green")) ∷ []))))) ∷ []))) ∷ (local_item (locations (at 1 81) ((decl ((n 1 85 (codes "y")) ∷ []) (w.base_mode (w.discrete (w.bounded (n 1 87 (codes "c")) (name (n 1 90 (codes "red"))) (name (n 1 94 (codes "green")))))) None) ∷ (decl ((n 1 102 (codes "z")) ∷ []) (w.base_mode (w.discrete (w.bounded (n 1 104 (codes "BOOL")) (name (n 1 110 (codes "FALSE"))) (name (n 1 116 (codes "TRUE")))))) None) ∷ []))) ∷ []) None (Some (n 1 127 (codes "m")))) ∷ [])

near_2-ground : IsGroundOf near_2 (ground_of near_2)
near_2-ground = record { names = refl; entries = refl }

near_2-modes : broken_modes (ground_of near_2) near_2 ≡ []
near_2-modes = refl

near_2-counted : IsStatementGroundOf near_2 (counted_ground_of near_2)
near_2-counted = record { names = refl; entries = refl }

near_2-statements : broken_statements (counted_ground_of near_2) near_2 ≡ []
near_2-statements = refl

near_2-processes : broken_processes (counted_ground_of near_2) near_2 ≡ []
near_2-processes = refl
