-- What is asked where something is told: nothing of what isn't there, and the rest all the same.
use Rattle.std.proofs.Common.{◌≡◌, refl}
use Rattle.std.specs.Prelude.{false, [], ◌∷◌, Some, None, codes}
use Rattle.chill_tree.specs.declared.tree.expr.Operator.TheVariants as ops
use Rattle.chill_tree.specs.declared.tree.mode.PlaceForm.TheVariants as forms
use Rattle.chill_tree.specs.declared.tree.item.Passing.TheVariants as passings
use Rattle.chill_tree.specs.declared.tree.item.ModulionKind.TheVariants as modulions
use Rattle.chill_tree.specs.ExprTree.{whole, text, this_instance, paren, receive, tuple, name, apply, binary, alone, between, expr_nodes, range_nodes}
use Rattle.chill_tree.specs.ModeTree as w
use Rattle.chill_tree.specs.LocalTree.{synonyms, syn_modes, locations}
use Rattle.chill_tree.specs.SimpleTree.{assign, update, call_of, return_with, for_steps}
use Rattle.chill_tree.specs.StatementTree.{simple, bracketed, case_of, do_loop, delay_case, statement_nodes, case_nodes, named_nodes, no_otherwise, handler_node, action_part}
use Rattle.chill_tree.specs.ItemTree.{ProgramTree, local_item, procedure, action}
use Rattle.diagnostics.specs.declared.rule.Rule.TheVariants as rules
use Rattle.checks_model.specs.Table.{IsGroundOf, IsStatementGroundOf}
use Rattle.checks_model.specs.Phases.{broken_modes, broken_statements, broken_processes}
use Rattle.checks_examples.proofs.Programs.{at, n, syn, modedef, init, decl, place, fields, choice, alt, param, proc, modul, program, ground_of, counted_ground_of, told, told_of}

-- a bad length tells nothing of what rests on it
--   m: MODULE DCL x INT; DCL a CHARS (x); SYNMODE n = CHARS (x); DCL b n; END m;
abbrev text_1 : ProgramTree
text_1 = program ((modul (n 1 1 (codes "m")) modulions.Module ((local_item (locations (at 1 11) ((decl ((n 1 15 (codes "x")) ∷ []) (w.base_mode (w.discrete (w.named (n 1 17 (codes "INT"))))) None) ∷ []))) ∷ (local_item (locations (at 1 22) ((decl ((n 1 26 (codes "a")) ∷ []) (w.base_mode (w.chars (at 1 28) (name (n 1 35 (codes "x"))))) None) ∷ []))) ∷ (local_item (syn_modes (at 1 39) ((modedef (n 1 47 (codes "n")) (w.base_mode (w.chars (at 1 51) (name (n 1 58 (codes "x")))))) ∷ []))) ∷ (local_item (locations (at 1 62) ((decl ((n 1 66 (codes "b")) ∷ []) (w.base_mode (w.discrete (w.named (n 1 68 (codes "n"))))) None) ∷ []))) ∷ []) None (Some (n 1 75 (codes "m")))) ∷ [])

text_1-ground : IsGroundOf text_1 (ground_of text_1)
text_1-ground = record { names = refl; entries = refl }

text_1-modes : broken_modes (ground_of text_1) text_1 ≡ (told rules.M1 1 35 ∷ told rules.M1 1 58 ∷ [])
text_1-modes = refl

-- a call without RETURNS as an initial value
--   m: MODULE f: PROC (); END f; DCL n INT := f(); END m;
abbrev text_2 : ProgramTree
text_2 = program ((modul (n 1 1 (codes "m")) modulions.Module ((procedure (proc (n 1 11 (codes "f")) [] None None [] None (Some (n 1 27 (codes "f"))))) ∷ (local_item (locations (at 1 30) ((decl ((n 1 34 (codes "n")) ∷ []) (w.base_mode (w.discrete (w.named (n 1 36 (codes "INT"))))) (Some (init (at 1 40) false (apply (at 1 43) (name (n 1 43 (codes "f"))) (expr_nodes []))))) ∷ []))) ∷ []) None (Some (n 1 52 (codes "m")))) ∷ [])

text_2-ground : IsGroundOf text_2 (ground_of text_2)
text_2-ground = record { names = refl; entries = refl }

text_2-modes : broken_modes (ground_of text_2) text_2 ≡ []
text_2-modes = refl

text_2-counted : IsStatementGroundOf text_2 (counted_ground_of text_2)
text_2-counted = record { names = refl; entries = refl }

text_2-statements : broken_statements (counted_ground_of text_2) text_2 ≡ (told rules.S10 1 43 ∷ [])
text_2-statements = refl

-- each end of a range of labels is asked by itself
--   m: MODULE SYNMODE c = SET (red, green); DCL i INT; CASE i OF (1 : TRUE, red : TRUE): ESAC; END m;
abbrev text_3 : ProgramTree
text_3 = program ((modul (n 1 1 (codes "m")) modulions.Module ((local_item (syn_modes (at 1 11) ((modedef (n 1 19 (codes "c")) (w.base_mode (w.discrete (w.set_of (at 1 23) ((n 1 28 (codes "red")) ∷ (n 1 33 (codes "green")) ∷ []))))) ∷ []))) ∷ (local_item (locations (at 1 41) ((decl ((n 1 45 (codes "i")) ∷ []) (w.base_mode (w.discrete (w.named (n 1 47 (codes "INT"))))) None) ∷ []))) ∷ (action (bracketed (at 1 52) None (case_of (at 1 52) (name (n 1 57 (codes "i"))) (case_nodes ((choice (at 1 62) ((between (whole (at 1 63) 1) (name (n 1 67 (codes "TRUE")))) ∷ (between (name (n 1 73 (codes "red"))) (name (n 1 79 (codes "TRUE")))) ∷ []) []) ∷ [])) no_otherwise) (handler_node None) None)) ∷ []) None (Some (n 1 96 (codes "m")))) ∷ [])

text_3-ground : IsGroundOf text_3 (ground_of text_3)
text_3-ground = record { names = refl; entries = refl }

text_3-modes : broken_modes (ground_of text_3) text_3 ≡ []
text_3-modes = refl

text_3-counted : IsStatementGroundOf text_3 (counted_ground_of text_3)
text_3-counted = record { names = refl; entries = refl }

text_3-statements : broken_statements (counted_ground_of text_3) text_3 ≡ (told rules.S7 1 67 ∷ told rules.S7 1 73 ∷ told rules.S7 1 79 ∷ [])
text_3-statements = refl

-- where the selector isn't discrete, it alone is told
--   m: MODULE CASE THIS OF (1): ESAC; END m;
abbrev text_4 : ProgramTree
text_4 = program ((modul (n 1 1 (codes "m")) modulions.Module ((action (bracketed (at 1 11) None (case_of (at 1 11) (this_instance (at 1 16)) (case_nodes ((choice (at 1 24) ((alone (whole (at 1 25) 1)) ∷ []) []) ∷ [])) no_otherwise) (handler_node None) None)) ∷ []) None (Some (n 1 39 (codes "m")))) ∷ [])

text_4-ground : IsGroundOf text_4 (ground_of text_4)
text_4-ground = record { names = refl; entries = refl }

text_4-modes : broken_modes (ground_of text_4) text_4 ≡ []
text_4-modes = refl

text_4-counted : IsStatementGroundOf text_4 (counted_ground_of text_4)
text_4-counted = record { names = refl; entries = refl }

text_4-statements : broken_statements (counted_ground_of text_4) text_4 ≡ (told rules.S7 1 16 ∷ [])
text_4-statements = refl

-- a tuple without a mode's name for a parameter that is passed out
--   m: MODULE SYNMODE n = ARRAY (1:2) INT; f: PROC (a n OUT); END f; f([1, TRUE]); f(n [1, 2]); END m;
abbrev text_5 : ProgramTree
text_5 = program ((modul (n 1 1 (codes "m")) modulions.Module ((local_item (syn_modes (at 1 11) ((modedef (n 1 19 (codes "n")) (w.base_mode (w.array (at 1 23) (w.index_bounded (whole (at 1 30) 1) (whole (at 1 32) 2)) (w.discrete (w.named (n 1 35 (codes "INT")))) None))) ∷ []))) ∷ (procedure (proc (n 1 40 (codes "f")) ((param ((n 1 49 (codes "a")) ∷ []) (w.base_mode (w.discrete (w.named (n 1 51 (codes "n"))))) (Some passings.Out)) ∷ []) None None [] None (Some (n 1 63 (codes "f"))))) ∷ (action (simple (at 1 66) (call_of (at 1 66) false (n 1 66 (codes "f")) ((tuple (at 1 68) None (at 1 68) (range_nodes ((alone (whole (at 1 69) 1)) ∷ (alone (name (n 1 72 (codes "TRUE")))) ∷ []))) ∷ [])) (handler_node None))) ∷ (action (simple (at 1 80) (call_of (at 1 80) false (n 1 80 (codes "f")) ((tuple (at 1 82) (Some (n 1 82 (codes "n"))) (at 1 84) (range_nodes ((alone (whole (at 1 85) 1)) ∷ (alone (whole (at 1 88) 2)) ∷ []))) ∷ [])) (handler_node None))) ∷ []) None (Some (n 1 97 (codes "m")))) ∷ [])

text_5-ground : IsGroundOf text_5 (ground_of text_5)
text_5-ground = record { names = refl; entries = refl }

text_5-modes : broken_modes (ground_of text_5) text_5 ≡ []
text_5-modes = refl

text_5-counted : IsStatementGroundOf text_5 (counted_ground_of text_5)
text_5-counted = record { names = refl; entries = refl }

text_5-statements : broken_statements (counted_ground_of text_5) text_5 ≡ (told rules.S11 1 68 ∷ told rules.S6 1 82 ∷ [])
text_5-statements = refl

-- a READ location keeps its class as a target, and what is no location has none
--   m: MODULE DCL r READ INT := 1; SYN k = 1; r := TRUE; r +:= TRUE; k := TRUE; k +:= TRUE; END m;
abbrev text_6 : ProgramTree
text_6 = program ((modul (n 1 1 (codes "m")) modulions.Module ((local_item (locations (at 1 11) ((decl ((n 1 15 (codes "r")) ∷ []) (w.read_mode (at 1 17) (w.discrete (w.named (n 1 22 (codes "INT"))))) (Some (init (at 1 26) false (whole (at 1 29) 1)))) ∷ []))) ∷ (local_item (synonyms (at 1 32) ((syn ((n 1 36 (codes "k")) ∷ []) None (whole (at 1 40) 1)) ∷ []))) ∷ (action (simple (at 1 43) (assign (at 1 43) (name (n 1 43 (codes "r"))) (name (n 1 48 (codes "TRUE")))) (handler_node None))) ∷ (action (simple (at 1 54) (update (at 1 54) (name (n 1 54 (codes "r"))) ops.Plus (at 1 56) (name (n 1 60 (codes "TRUE")))) (handler_node None))) ∷ (action (simple (at 1 66) (assign (at 1 66) (name (n 1 66 (codes "k"))) (name (n 1 71 (codes "TRUE")))) (handler_node None))) ∷ (action (simple (at 1 77) (update (at 1 77) (name (n 1 77 (codes "k"))) ops.Plus (at 1 79) (name (n 1 83 (codes "TRUE")))) (handler_node None))) ∷ []) None (Some (n 1 93 (codes "m")))) ∷ [])

text_6-ground : IsGroundOf text_6 (ground_of text_6)
text_6-ground = record { names = refl; entries = refl }

text_6-modes : broken_modes (ground_of text_6) text_6 ≡ []
text_6-modes = refl

text_6-counted : IsStatementGroundOf text_6 (counted_ground_of text_6)
text_6-counted = record { names = refl; entries = refl }

text_6-statements : broken_statements (counted_ground_of text_6) text_6 ≡ (told rules.S3 1 43 ∷ told rules.S2 1 48 ∷ told rules.S3 1 54 ∷ told rules.S1 1 56 ∷ told rules.S3 1 66 ∷ told rules.S3 1 77 ∷ [])
text_6-statements = refl

-- a counter as a target
--   m: MODULE DO FOR i := 1 TO 3; i := TRUE; OD; END m;
abbrev text_7 : ProgramTree
text_7 = program ((modul (n 1 1 (codes "m")) modulions.Module ((action (bracketed (at 1 11) None (do_loop (at 1 11) (for_steps (at 1 14) (n 1 18 (codes "i")) (whole (at 1 23) 1) None false (whole (at 1 28) 3) None) (statement_nodes ((simple (at 1 31) (assign (at 1 31) (name (n 1 31 (codes "i"))) (name (n 1 36 (codes "TRUE")))) (handler_node None)) ∷ []))) (handler_node None) None)) ∷ []) None (Some (n 1 50 (codes "m")))) ∷ [])

text_7-ground : IsGroundOf text_7 (ground_of text_7)
text_7-ground = record { names = refl; entries = refl }

text_7-modes : broken_modes (ground_of text_7) text_7 ≡ []
text_7-modes = refl

text_7-counted : IsStatementGroundOf text_7 (counted_ground_of text_7)
text_7-counted = record { names = refl; entries = refl }

text_7-statements : broken_statements (counted_ground_of text_7) text_7 ≡ (told rules.S3 1 31 ∷ told rules.S2 1 36 ∷ [])
text_7-statements = refl

-- what the phase of modes found of a definition is taken from it
--   m: MODULE DCL a ARRAY (1:3) INT, t BOOL; SYN v = SIZE(a(TRUE)); t := v; END m;
abbrev text_8 : ProgramTree
text_8 = program ((modul (n 1 1 (codes "m")) modulions.Module ((local_item (locations (at 1 11) ((decl ((n 1 15 (codes "a")) ∷ []) (w.base_mode (w.array (at 1 17) (w.index_bounded (whole (at 1 24) 1) (whole (at 1 26) 3)) (w.discrete (w.named (n 1 29 (codes "INT")))) None)) None) ∷ (decl ((n 1 34 (codes "t")) ∷ []) (w.base_mode (w.discrete (w.named (n 1 36 (codes "BOOL"))))) None) ∷ []))) ∷ (local_item (synonyms (at 1 42) ((syn ((n 1 46 (codes "v")) ∷ []) None (apply (at 1 50) (name (n 1 50 (codes "SIZE"))) (expr_nodes ((apply (at 1 55) (name (n 1 55 (codes "a"))) (expr_nodes ((name (n 1 57 (codes "TRUE"))) ∷ []))) ∷ [])))) ∷ []))) ∷ (action (simple (at 1 65) (assign (at 1 65) (name (n 1 65 (codes "t"))) (name (n 1 70 (codes "v")))) (handler_node None))) ∷ []) None (Some (n 1 77 (codes "m")))) ∷ [])

text_8-ground : IsGroundOf text_8 (ground_of text_8)
unfolding lib.Count.count_leading_zeros
text_8-ground = record { names = refl; entries = refl }

text_8-modes : broken_modes (ground_of text_8) text_8 ≡ []
unfolding lib.Count.count_leading_zeros
text_8-modes = refl

text_8-counted : IsStatementGroundOf text_8 (counted_ground_of text_8)
unfolding lib.Count.count_leading_zeros
text_8-counted = record { names = refl; entries = refl }

text_8-statements : broken_statements (counted_ground_of text_8) text_8 ≡ (told rules.S2 1 57 ∷ told rules.S2 1 70 ∷ [])
unfolding lib.Count.count_leading_zeros
text_8-statements = refl

-- a class that doesn't rest on parts
--   m: MODULE SYNMODE n = ARRAY (1:2) INT; SYN a = 1 / 0; SYN b = n [a, 2]; DCL v INT (b : 9); END m;
abbrev text_9 : ProgramTree
text_9 = program ((modul (n 1 1 (codes "m")) modulions.Module ((local_item (syn_modes (at 1 11) ((modedef (n 1 19 (codes "n")) (w.base_mode (w.array (at 1 23) (w.index_bounded (whole (at 1 30) 1) (whole (at 1 32) 2)) (w.discrete (w.named (n 1 35 (codes "INT")))) None))) ∷ []))) ∷ (local_item (synonyms (at 1 40) ((syn ((n 1 44 (codes "a")) ∷ []) None (binary (at 1 48) (whole (at 1 48) 1) ops.Divide (at 1 50) (whole (at 1 52) 0))) ∷ []))) ∷ (local_item (synonyms (at 1 55) ((syn ((n 1 59 (codes "b")) ∷ []) None (tuple (at 1 63) (Some (n 1 63 (codes "n"))) (at 1 65) (range_nodes ((alone (name (n 1 66 (codes "a")))) ∷ (alone (whole (at 1 69) 2)) ∷ [])))) ∷ []))) ∷ (local_item (locations (at 1 73) ((decl ((n 1 77 (codes "v")) ∷ []) (w.base_mode (w.discrete (w.bounded (n 1 79 (codes "INT")) (name (n 1 84 (codes "b"))) (whole (at 1 88) 9)))) None) ∷ []))) ∷ []) None (Some (n 1 96 (codes "m")))) ∷ [])

text_9-ground : IsGroundOf text_9 (ground_of text_9)
text_9-ground = record { names = refl; entries = refl }

text_9-modes : broken_modes (ground_of text_9) text_9 ≡ (told rules.M11 1 50 ∷ told rules.M3 1 84 ∷ [])
text_9-modes = refl

-- a call of constant form as a target
--   m: MODULE SIZE(3) := 1; END m;
abbrev text_10 : ProgramTree
text_10 = program ((modul (n 1 1 (codes "m")) modulions.Module ((action (simple (at 1 11) (assign (at 1 11) (apply (at 1 11) (name (n 1 11 (codes "SIZE"))) (expr_nodes ((whole (at 1 16) 3) ∷ []))) (whole (at 1 22) 1)) (handler_node None))) ∷ []) None (Some (n 1 29 (codes "m")))) ∷ [])

text_10-ground : IsGroundOf text_10 (ground_of text_10)
unfolding lib.Count.count_leading_zeros
text_10-ground = record { names = refl; entries = refl }

text_10-modes : broken_modes (ground_of text_10) text_10 ≡ (told rules.M10 1 11 ∷ [])
unfolding lib.Count.count_leading_zeros
text_10-modes = refl

-- a call that isn't of constant form as a target
--   m: MODULE DCL big ARRAY (1:300) INT; SIZE(big) := 1; PUT_INT(1) := 1; END m;
abbrev text_11 : ProgramTree
text_11 = program ((modul (n 1 1 (codes "m")) modulions.Module ((local_item (locations (at 1 11) ((decl ((n 1 15 (codes "big")) ∷ []) (w.base_mode (w.array (at 1 19) (w.index_bounded (whole (at 1 26) 1) (whole (at 1 28) 300)) (w.discrete (w.named (n 1 33 (codes "INT")))) None)) None) ∷ []))) ∷ (action (simple (at 1 38) (assign (at 1 38) (apply (at 1 38) (name (n 1 38 (codes "SIZE"))) (expr_nodes ((name (n 1 43 (codes "big"))) ∷ []))) (whole (at 1 51) 1)) (handler_node None))) ∷ (action (simple (at 1 54) (assign (at 1 54) (apply (at 1 54) (name (n 1 54 (codes "PUT_INT"))) (expr_nodes ((whole (at 1 62) 1) ∷ []))) (whole (at 1 68) 1)) (handler_node None))) ∷ []) None (Some (n 1 75 (codes "m")))) ∷ [])

text_11-ground : IsGroundOf text_11 (ground_of text_11)
unfolding lib.Count.count_leading_zeros
text_11-ground = record { names = refl; entries = refl }

text_11-modes : broken_modes (ground_of text_11) text_11 ≡ []
unfolding lib.Count.count_leading_zeros
text_11-modes = refl

text_11-counted : IsStatementGroundOf text_11 (counted_ground_of text_11)
unfolding lib.Count.count_leading_zeros
text_11-counted = record { names = refl; entries = refl }

text_11-statements : broken_statements (counted_ground_of text_11) text_11 ≡ (told rules.S3 1 38 ∷ told rules.S3 1 54 ∷ [])
unfolding lib.Count.count_leading_zeros
text_11-statements = refl

-- an index behind a part that breaks a rule
--   m: MODULE DCL a ARRAY (1:2) ARRAY (1:2) INT, x INT; x := a(TRUE)(TRUE); x := a(1, 2)(TRUE); END m;
abbrev text_12 : ProgramTree
text_12 = program ((modul (n 1 1 (codes "m")) modulions.Module ((local_item (locations (at 1 11) ((decl ((n 1 15 (codes "a")) ∷ []) (w.base_mode (w.array (at 1 17) (w.index_bounded (whole (at 1 24) 1) (whole (at 1 26) 2)) (w.array (at 1 29) (w.index_bounded (whole (at 1 36) 1) (whole (at 1 38) 2)) (w.discrete (w.named (n 1 41 (codes "INT")))) None) None)) None) ∷ (decl ((n 1 46 (codes "x")) ∷ []) (w.base_mode (w.discrete (w.named (n 1 48 (codes "INT"))))) None) ∷ []))) ∷ (action (simple (at 1 53) (assign (at 1 53) (name (n 1 53 (codes "x"))) (apply (at 1 58) (apply (at 1 58) (name (n 1 58 (codes "a"))) (expr_nodes ((name (n 1 60 (codes "TRUE"))) ∷ []))) (expr_nodes ((name (n 1 66 (codes "TRUE"))) ∷ [])))) (handler_node None))) ∷ (action (simple (at 1 73) (assign (at 1 73) (name (n 1 73 (codes "x"))) (apply (at 1 78) (apply (at 1 78) (name (n 1 78 (codes "a"))) (expr_nodes ((whole (at 1 80) 1) ∷ (whole (at 1 83) 2) ∷ []))) (expr_nodes ((name (n 1 86 (codes "TRUE"))) ∷ [])))) (handler_node None))) ∷ []) None (Some (n 1 97 (codes "m")))) ∷ [])

text_12-ground : IsGroundOf text_12 (ground_of text_12)
text_12-ground = record { names = refl; entries = refl }

text_12-modes : broken_modes (ground_of text_12) text_12 ≡ []
text_12-modes = refl

text_12-counted : IsStatementGroundOf text_12 (counted_ground_of text_12)
text_12-counted = record { names = refl; entries = refl }

text_12-statements : broken_statements (counted_ground_of text_12) text_12 ≡ (told rules.S2 1 60 ∷ told rules.S5 1 78 ∷ [])
text_12-statements = refl

-- what stands in an index behind a wrong number
--   m: MODULE f: PROC (i INT) RETURNS (INT); RETURN i; END f; DCL a ARRAY (1:2) ARRAY (1:2) INT, x INT; x := a(1, 2)(f(TRUE)); END m;
abbrev text_13 : ProgramTree
text_13 = program ((modul (n 1 1 (codes "m")) modulions.Module ((procedure (proc (n 1 11 (codes "f")) ((param ((n 1 20 (codes "i")) ∷ []) (w.base_mode (w.discrete (w.named (n 1 22 (codes "INT"))))) None) ∷ []) (Some (w.base_mode (w.discrete (w.named (n 1 36 (codes "INT")))))) None ((action_part (simple (at 1 42) (return_with (at 1 42) (Some (name (n 1 49 (codes "i"))))) (handler_node None))) ∷ []) None (Some (n 1 56 (codes "f"))))) ∷ (local_item (locations (at 1 59) ((decl ((n 1 63 (codes "a")) ∷ []) (w.base_mode (w.array (at 1 65) (w.index_bounded (whole (at 1 72) 1) (whole (at 1 74) 2)) (w.array (at 1 77) (w.index_bounded (whole (at 1 84) 1) (whole (at 1 86) 2)) (w.discrete (w.named (n 1 89 (codes "INT")))) None) None)) None) ∷ (decl ((n 1 94 (codes "x")) ∷ []) (w.base_mode (w.discrete (w.named (n 1 96 (codes "INT"))))) None) ∷ []))) ∷ (action (simple (at 1 101) (assign (at 1 101) (name (n 1 101 (codes "x"))) (apply (at 1 106) (apply (at 1 106) (name (n 1 106 (codes "a"))) (expr_nodes ((whole (at 1 108) 1) ∷ (whole (at 1 111) 2) ∷ []))) (expr_nodes ((apply (at 1 114) (name (n 1 114 (codes "f"))) (expr_nodes ((name (n 1 116 (codes "TRUE"))) ∷ []))) ∷ [])))) (handler_node None))) ∷ []) None (Some (n 1 128 (codes "m")))) ∷ [])

text_13-ground : IsGroundOf text_13 (ground_of text_13)
text_13-ground = record { names = refl; entries = refl }

text_13-modes : broken_modes (ground_of text_13) text_13 ≡ []
text_13-modes = refl

text_13-counted : IsStatementGroundOf text_13 (counted_ground_of text_13)
text_13-counted = record { names = refl; entries = refl }

text_13-statements : broken_statements (counted_ground_of text_13) text_13 ≡ (told rules.S5 1 106 ∷ told rules.S2 1 116 ∷ [])
text_13-statements = refl

-- a routine's call of constant form that stands as an action
--   m: MODULE SUCC(1 / 0, 2); END m;
abbrev text_14 : ProgramTree
text_14 = program ((modul (n 1 1 (codes "m")) modulions.Module ((action (simple (at 1 11) (call_of (at 1 11) false (n 1 11 (codes "SUCC")) ((binary (at 1 16) (whole (at 1 16) 1) ops.Divide (at 1 18) (whole (at 1 20) 0)) ∷ (whole (at 1 23) 2) ∷ [])) (handler_node None))) ∷ []) None (Some (n 1 31 (codes "m")))) ∷ [])

text_14-ground : IsGroundOf text_14 (ground_of text_14)
text_14-ground = record { names = refl; entries = refl }

text_14-modes : broken_modes (ground_of text_14) text_14 ≡ (told rules.M11 1 18 ∷ [])
text_14-modes = refl

-- a procedure's call as an action is told both
--   m: MODULE f: PROC (i INT); END f; g: PROC (i INT) RETURNS (INT); RETURN i; END g; f(g(TRUE), 2); END m;
abbrev text_15 : ProgramTree
text_15 = program ((modul (n 1 1 (codes "m")) modulions.Module ((procedure (proc (n 1 11 (codes "f")) ((param ((n 1 20 (codes "i")) ∷ []) (w.base_mode (w.discrete (w.named (n 1 22 (codes "INT"))))) None) ∷ []) None None [] None (Some (n 1 32 (codes "f"))))) ∷ (procedure (proc (n 1 35 (codes "g")) ((param ((n 1 44 (codes "i")) ∷ []) (w.base_mode (w.discrete (w.named (n 1 46 (codes "INT"))))) None) ∷ []) (Some (w.base_mode (w.discrete (w.named (n 1 60 (codes "INT")))))) None ((action_part (simple (at 1 66) (return_with (at 1 66) (Some (name (n 1 73 (codes "i"))))) (handler_node None))) ∷ []) None (Some (n 1 80 (codes "g"))))) ∷ (action (simple (at 1 83) (call_of (at 1 83) false (n 1 83 (codes "f")) ((apply (at 1 85) (name (n 1 85 (codes "g"))) (expr_nodes ((name (n 1 87 (codes "TRUE"))) ∷ []))) ∷ (whole (at 1 94) 2) ∷ [])) (handler_node None))) ∷ []) None (Some (n 1 102 (codes "m")))) ∷ [])

text_15-ground : IsGroundOf text_15 (ground_of text_15)
text_15-ground = record { names = refl; entries = refl }

text_15-modes : broken_modes (ground_of text_15) text_15 ≡ []
text_15-modes = refl

text_15-counted : IsStatementGroundOf text_15 (counted_ground_of text_15)
text_15-counted = record { names = refl; entries = refl }

text_15-statements : broken_statements (counted_ground_of text_15) text_15 ≡ (told rules.S5 1 83 ∷ told rules.S2 1 87 ∷ [])
text_15-statements = refl

-- a routine's argument in which something is told
--   m: MODULE f: PROC (i INT) RETURNS (INT); RETURN i; END f; PUT_TEXT(f(TRUE)); END m;
abbrev text_16 : ProgramTree
text_16 = program ((modul (n 1 1 (codes "m")) modulions.Module ((procedure (proc (n 1 11 (codes "f")) ((param ((n 1 20 (codes "i")) ∷ []) (w.base_mode (w.discrete (w.named (n 1 22 (codes "INT"))))) None) ∷ []) (Some (w.base_mode (w.discrete (w.named (n 1 36 (codes "INT")))))) None ((action_part (simple (at 1 42) (return_with (at 1 42) (Some (name (n 1 49 (codes "i"))))) (handler_node None))) ∷ []) None (Some (n 1 56 (codes "f"))))) ∷ (action (simple (at 1 59) (call_of (at 1 59) false (n 1 59 (codes "PUT_TEXT")) ((apply (at 1 68) (name (n 1 68 (codes "f"))) (expr_nodes ((name (n 1 70 (codes "TRUE"))) ∷ []))) ∷ [])) (handler_node None))) ∷ []) None (Some (n 1 82 (codes "m")))) ∷ [])

text_16-ground : IsGroundOf text_16 (ground_of text_16)
text_16-ground = record { names = refl; entries = refl }

text_16-modes : broken_modes (ground_of text_16) text_16 ≡ []
text_16-modes = refl

text_16-counted : IsStatementGroundOf text_16 (counted_ground_of text_16)
text_16-counted = record { names = refl; entries = refl }

text_16-statements : broken_statements (counted_ground_of text_16) text_16 ≡ (told rules.S2 1 70 ∷ [])
text_16-statements = refl

-- what is measured stands without brackets round it
--   m: MODULE DCL x, y INT; y := SIZE((x)); END m;
abbrev text_17 : ProgramTree
text_17 = program ((modul (n 1 1 (codes "m")) modulions.Module ((local_item (locations (at 1 11) ((decl ((n 1 15 (codes "x")) ∷ (n 1 18 (codes "y")) ∷ []) (w.base_mode (w.discrete (w.named (n 1 20 (codes "INT"))))) None) ∷ []))) ∷ (action (simple (at 1 25) (assign (at 1 25) (name (n 1 25 (codes "y"))) (apply (at 1 30) (name (n 1 30 (codes "SIZE"))) (expr_nodes ((paren (at 1 35) (name (n 1 36 (codes "x")))) ∷ [])))) (handler_node None))) ∷ []) None (Some (n 1 45 (codes "m")))) ∷ [])

text_17-ground : IsGroundOf text_17 (ground_of text_17)
unfolding lib.Count.count_leading_zeros
text_17-ground = record { names = refl; entries = refl }

text_17-modes : broken_modes (ground_of text_17) text_17 ≡ []
unfolding lib.Count.count_leading_zeros
text_17-modes = refl

text_17-counted : IsStatementGroundOf text_17 (counted_ground_of text_17)
unfolding lib.Count.count_leading_zeros
text_17-counted = record { names = refl; entries = refl }

text_17-statements : broken_statements (counted_ground_of text_17) text_17 ≡ (told rules.S1 1 30 ∷ [])
unfolding lib.Count.count_leading_zeros
text_17-statements = refl

-- each number of POS is asked by itself
--   m: MODULE DCL i INT; DCL s STRUCT (a BOOL POS (TRUE, i : 3)); END m;
abbrev text_18 : ProgramTree
text_18 = program ((modul (n 1 1 (codes "m")) modulions.Module ((local_item (locations (at 1 11) ((decl ((n 1 15 (codes "i")) ∷ []) (w.base_mode (w.discrete (w.named (n 1 17 (codes "INT"))))) None) ∷ []))) ∷ (local_item (locations (at 1 22) ((decl ((n 1 26 (codes "s")) ∷ []) (w.base_mode (w.structure (at 1 28) (w.field_nodes ((fields ((n 1 36 (codes "a")) ∷ []) (w.discrete (w.named (n 1 38 (codes "BOOL")))) (Some (place (at 1 43) (name (n 1 48 (codes "TRUE"))) (name (n 1 54 (codes "i"))) forms.End (whole (at 1 58) 3)))) ∷ [])) None)) None) ∷ []))) ∷ []) None (Some (n 1 67 (codes "m")))) ∷ [])

text_18-ground : IsGroundOf text_18 (ground_of text_18)
unfolding lib.Count.count_leading_zeros
text_18-ground = record { names = refl; entries = refl }

text_18-modes : broken_modes (ground_of text_18) text_18 ≡ (told_of rules.M14 1 36 (codes "a") ∷ told rules.M1 1 54 ∷ [])
unfolding lib.Count.count_leading_zeros
text_18-modes = refl

-- a tuple for a mode that is broken
--   m: MODULE SYN z ARRAY (5:3) INT = [1, 2]; END m;
abbrev text_19 : ProgramTree
text_19 = program ((modul (n 1 1 (codes "m")) modulions.Module ((local_item (synonyms (at 1 11) ((syn ((n 1 15 (codes "z")) ∷ []) (Some (w.base_mode (w.array (at 1 17) (w.index_bounded (whole (at 1 24) 5) (whole (at 1 26) 3)) (w.discrete (w.named (n 1 29 (codes "INT")))) None))) (tuple (at 1 35) None (at 1 35) (range_nodes ((alone (whole (at 1 36) 1)) ∷ (alone (whole (at 1 39) 2)) ∷ [])))) ∷ []))) ∷ []) None (Some (n 1 47 (codes "m")))) ∷ [])

text_19-ground : IsGroundOf text_19 (ground_of text_19)
text_19-ground = record { names = refl; entries = refl }

text_19-modes : broken_modes (ground_of text_19) text_19 ≡ (told rules.M2 1 24 ∷ [])
text_19-modes = refl

-- a tuple with a part that has no value has none
--   m: MODULE SYNMODE n = ARRAY (1:2) INT; SYN d INT = TRUE; SYN q = NUM(n [d, 3] = n [3, 4]); DCL v INT (1 : q); END m;
abbrev text_20 : ProgramTree
text_20 = program ((modul (n 1 1 (codes "m")) modulions.Module ((local_item (syn_modes (at 1 11) ((modedef (n 1 19 (codes "n")) (w.base_mode (w.array (at 1 23) (w.index_bounded (whole (at 1 30) 1) (whole (at 1 32) 2)) (w.discrete (w.named (n 1 35 (codes "INT")))) None))) ∷ []))) ∷ (local_item (synonyms (at 1 40) ((syn ((n 1 44 (codes "d")) ∷ []) (Some (w.base_mode (w.discrete (w.named (n 1 46 (codes "INT")))))) (name (n 1 52 (codes "TRUE")))) ∷ []))) ∷ (local_item (synonyms (at 1 58) ((syn ((n 1 62 (codes "q")) ∷ []) None (apply (at 1 66) (name (n 1 66 (codes "NUM"))) (expr_nodes ((binary (at 1 70) (tuple (at 1 70) (Some (n 1 70 (codes "n"))) (at 1 72) (range_nodes ((alone (name (n 1 73 (codes "d")))) ∷ (alone (whole (at 1 76) 3)) ∷ []))) ops.Equal (at 1 79) (tuple (at 1 81) (Some (n 1 81 (codes "n"))) (at 1 83) (range_nodes ((alone (whole (at 1 84) 3)) ∷ (alone (whole (at 1 87) 4)) ∷ [])))) ∷ [])))) ∷ []))) ∷ (local_item (locations (at 1 92) ((decl ((n 1 96 (codes "v")) ∷ []) (w.base_mode (w.discrete (w.bounded (n 1 98 (codes "INT")) (whole (at 1 103) 1) (name (n 1 107 (codes "q")))))) None) ∷ []))) ∷ []) None (Some (n 1 115 (codes "m")))) ∷ [])

text_20-ground : IsGroundOf text_20 (ground_of text_20)
text_20-ground = record { names = refl; entries = refl }

text_20-modes : broken_modes (ground_of text_20) text_20 ≡ (told rules.M12 1 52 ∷ [])
text_20-modes = refl

-- what is measured has no value
--   m: MODULE SYN z = 1 / 0; SYN y = SIZE(z); END m;
abbrev text_21 : ProgramTree
text_21 = program ((modul (n 1 1 (codes "m")) modulions.Module ((local_item (synonyms (at 1 11) ((syn ((n 1 15 (codes "z")) ∷ []) None (binary (at 1 19) (whole (at 1 19) 1) ops.Divide (at 1 21) (whole (at 1 23) 0))) ∷ []))) ∷ (local_item (synonyms (at 1 26) ((syn ((n 1 30 (codes "y")) ∷ []) None (apply (at 1 34) (name (n 1 34 (codes "SIZE"))) (expr_nodes ((name (n 1 39 (codes "z"))) ∷ [])))) ∷ []))) ∷ []) None (Some (n 1 47 (codes "m")))) ∷ [])

text_21-ground : IsGroundOf text_21 (ground_of text_21)
unfolding lib.Count.count_leading_zeros
text_21-ground = record { names = refl; entries = refl }

text_21-modes : broken_modes (ground_of text_21) text_21 ≡ (told rules.M11 1 21 ∷ [])
unfolding lib.Count.count_leading_zeros
text_21-modes = refl

-- a synonym's tuple is looked at from outside
--   m: MODULE SYNMODE m2 = ARRAY (1:2) INT (0:5); SYN z ARRAY (1:2) m2 = [[1, 9], m2 [TRUE, 2]]; END m;
abbrev text_22 : ProgramTree
text_22 = program ((modul (n 1 1 (codes "m")) modulions.Module ((local_item (syn_modes (at 1 11) ((modedef (n 1 19 (codes "m2")) (w.base_mode (w.array (at 1 24) (w.index_bounded (whole (at 1 31) 1) (whole (at 1 33) 2)) (w.discrete (w.bounded (n 1 36 (codes "INT")) (whole (at 1 41) 0) (whole (at 1 43) 5))) None))) ∷ []))) ∷ (local_item (synonyms (at 1 47) ((syn ((n 1 51 (codes "z")) ∷ []) (Some (w.base_mode (w.array (at 1 53) (w.index_bounded (whole (at 1 60) 1) (whole (at 1 62) 2)) (w.discrete (w.named (n 1 65 (codes "m2")))) None))) (tuple (at 1 70) None (at 1 70) (range_nodes ((alone (tuple (at 1 71) None (at 1 71) (range_nodes ((alone (whole (at 1 72) 1)) ∷ (alone (whole (at 1 75) 9)) ∷ [])))) ∷ (alone (tuple (at 1 79) (Some (n 1 79 (codes "m2"))) (at 1 82) (range_nodes ((alone (name (n 1 83 (codes "TRUE")))) ∷ (alone (whole (at 1 89) 2)) ∷ [])))) ∷ [])))) ∷ []))) ∷ []) None (Some (n 1 98 (codes "m")))) ∷ [])

text_22-ground : IsGroundOf text_22 (ground_of text_22)
text_22-ground = record { names = refl; entries = refl }

text_22-modes : broken_modes (ground_of text_22) text_22 ≡ (told rules.M10 1 82 ∷ [])
text_22-modes = refl

-- a step beside an expression of a later phase
--   m: MODULE SYNMODE c = SET (red, green); DCL e EVENT; DO FOR k := red BY RECEIVE e TO green; OD; END m;
abbrev text_23 : ProgramTree
text_23 = program ((modul (n 1 1 (codes "m")) modulions.Module ((local_item (syn_modes (at 1 11) ((modedef (n 1 19 (codes "c")) (w.base_mode (w.discrete (w.set_of (at 1 23) ((n 1 28 (codes "red")) ∷ (n 1 33 (codes "green")) ∷ []))))) ∷ []))) ∷ (local_item (locations (at 1 41) ((decl ((n 1 45 (codes "e")) ∷ []) (w.event_mode (at 1 47) None) None) ∷ []))) ∷ (action (bracketed (at 1 54) None (do_loop (at 1 54) (for_steps (at 1 57) (n 1 61 (codes "k")) (name (n 1 66 (codes "red"))) (Some (receive (at 1 73) (n 1 81 (codes "e")))) false (name (n 1 86 (codes "green"))) None) (statement_nodes [])) (handler_node None) None)) ∷ []) None (Some (n 1 101 (codes "m")))) ∷ [])

text_23-ground : IsGroundOf text_23 (ground_of text_23)
text_23-ground = record { names = refl; entries = refl }

text_23-modes : broken_modes (ground_of text_23) text_23 ≡ []
text_23-modes = refl

text_23-counted : IsStatementGroundOf text_23 (counted_ground_of text_23)
text_23-counted = record { names = refl; entries = refl }

text_23-statements : broken_statements (counted_ground_of text_23) text_23 ≡ (told rules.S8 1 73 ∷ [])
text_23-statements = refl

-- only the end of a loop is told
--   m: MODULE DO FOR i := 1 TO TRUE; PUT_INT(i + 1); OD; END m;
abbrev text_24 : ProgramTree
text_24 = program ((modul (n 1 1 (codes "m")) modulions.Module ((action (bracketed (at 1 11) None (do_loop (at 1 11) (for_steps (at 1 14) (n 1 18 (codes "i")) (whole (at 1 23) 1) None false (name (n 1 28 (codes "TRUE"))) None) (statement_nodes ((simple (at 1 34) (call_of (at 1 34) false (n 1 34 (codes "PUT_INT")) ((binary (at 1 42) (name (n 1 42 (codes "i"))) ops.Plus (at 1 44) (whole (at 1 46) 1)) ∷ [])) (handler_node None)) ∷ []))) (handler_node None) None)) ∷ []) None (Some (n 1 58 (codes "m")))) ∷ [])

text_24-ground : IsGroundOf text_24 (ground_of text_24)
text_24-ground = record { names = refl; entries = refl }

text_24-modes : broken_modes (ground_of text_24) text_24 ≡ []
text_24-modes = refl

text_24-counted : IsStatementGroundOf text_24 (counted_ground_of text_24)
text_24-counted = record { names = refl; entries = refl }

text_24-statements : broken_statements (counted_ground_of text_24) text_24 ≡ (told rules.S8 1 28 ∷ [])
text_24-statements = refl

-- an index of the location that SET names
--   m: MODULE DCL e EVENT, a ARRAY (1:2) INSTANCE; DELAY CASE SET a(RECEIVE e); (e): ESAC; END m;
abbrev text_25 : ProgramTree
text_25 = program ((modul (n 1 1 (codes "m")) modulions.Module ((local_item (locations (at 1 11) ((decl ((n 1 15 (codes "e")) ∷ []) (w.event_mode (at 1 17) None) None) ∷ (decl ((n 1 24 (codes "a")) ∷ []) (w.base_mode (w.array (at 1 26) (w.index_bounded (whole (at 1 33) 1) (whole (at 1 35) 2)) (w.discrete (w.named (n 1 38 (codes "INSTANCE")))) None)) None) ∷ []))) ∷ (action (bracketed (at 1 48) None (delay_case (at 1 48) (Some (apply (at 1 63) (name (n 1 63 (codes "a"))) (expr_nodes ((receive (at 1 65) (n 1 73 (codes "e"))) ∷ [])))) None (named_nodes ((alt (at 1 77) ((n 1 78 (codes "e")) ∷ []) []) ∷ []))) (handler_node None) None)) ∷ []) None (Some (n 1 92 (codes "m")))) ∷ [])

text_25-ground : IsGroundOf text_25 (ground_of text_25)
text_25-ground = record { names = refl; entries = refl }

text_25-modes : broken_modes (ground_of text_25) text_25 ≡ []
text_25-modes = refl

text_25-counted : IsStatementGroundOf text_25 (counted_ground_of text_25)
text_25-counted = record { names = refl; entries = refl }

text_25-statements : broken_statements (counted_ground_of text_25) text_25 ≡ []
text_25-statements = refl

text_25-processes : broken_processes (counted_ground_of text_25) text_25 ≡ (told_of rules.P3 1 73 (codes "e") ∷ [])
text_25-processes = refl

-- a synonym's value that is broken, and a mode that is
--   m: MODULE SYN a INT = "abc"; SYN b = a + TRUE; END m;
abbrev text_26 : ProgramTree
text_26 = program ((modul (n 1 1 (codes "m")) modulions.Module ((local_item (synonyms (at 1 11) ((syn ((n 1 15 (codes "a")) ∷ []) (Some (w.base_mode (w.discrete (w.named (n 1 17 (codes "INT")))))) (text (at 1 23) (97 ∷ 98 ∷ 99 ∷ []))) ∷ []))) ∷ (local_item (synonyms (at 1 30) ((syn ((n 1 34 (codes "b")) ∷ []) None (binary (at 1 38) (name (n 1 38 (codes "a"))) ops.Plus (at 1 40) (name (n 1 42 (codes "TRUE"))))) ∷ []))) ∷ []) None (Some (n 1 52 (codes "m")))) ∷ [])

text_26-ground : IsGroundOf text_26 (ground_of text_26)
text_26-ground = record { names = refl; entries = refl }

text_26-modes : broken_modes (ground_of text_26) text_26 ≡ (told rules.M12 1 23 ∷ told rules.M10 1 40 ∷ [])
text_26-modes = refl

-- a text too long as a mode
--   m: MODULE DCL v CHARS (300); SYN c = v; END m;
abbrev text_27 : ProgramTree
text_27 = program ((modul (n 1 1 (codes "m")) modulions.Module ((local_item (locations (at 1 11) ((decl ((n 1 15 (codes "v")) ∷ []) (w.base_mode (w.chars (at 1 17) (whole (at 1 24) 300))) None) ∷ []))) ∷ (local_item (synonyms (at 1 30) ((syn ((n 1 34 (codes "c")) ∷ []) None (name (n 1 38 (codes "v")))) ∷ []))) ∷ []) None (Some (n 1 45 (codes "m")))) ∷ [])

text_27-ground : IsGroundOf text_27 (ground_of text_27)
text_27-ground = record { names = refl; entries = refl }

text_27-modes : broken_modes (ground_of text_27) text_27 ≡ (told rules.M6 1 24 ∷ told rules.M1 1 38 ∷ [])
text_27-modes = refl
