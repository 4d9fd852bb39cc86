-- Texts that break no rule have an elaborated program.
use Rattle.std.proofs.Common.{◌≡◌, refl}
use Rattle.std.specs.Prelude.{true, false, [], ◌∷◌, Some, None, codes}
use Rattle.chill_tree.specs.declared.tree.expr.Operator.TheVariants as ops
use Rattle.chill_tree.specs.declared.tree.expr.Prefix.TheVariants as prefixes
use Rattle.chill_tree.specs.declared.tree.item.Passing.TheVariants as passings
use Rattle.chill_tree.specs.declared.tree.item.ModulionKind.TheVariants as modulions
use Rattle.chill_tree.specs.declared.tree.item.Passed.TheVariants.{Names}
use Rattle.chill_tree.specs.ExprTree.{whole, this_instance, tuple, uniform, name, apply, field, prefixed, binary, alone, between, expr_nodes, range_nodes}
use Rattle.chill_tree.specs.ModeTree as w
use Rattle.chill_tree.specs.LocalTree.{synonyms, syn_modes, new_modes, locations}
use Rattle.chill_tree.specs.SimpleTree.{assign, update, call_of, return_with, result_of, assert_that, cause, start_of, continue_event, send, while_holds, for_steps}
use Rattle.chill_tree.specs.StatementTree.{empty, simple, bracketed, if_then, do_loop, begin_end, delay_case, receive_case, statement_nodes, branch_nodes, named_nodes, receive_nodes, otherwise_node, no_otherwise, handler_node, body_nodes, local_part, action_part}
use Rattle.chill_tree.specs.ItemTree.{ProgramTree, seize, grant, local_item, signals, procedure, process, action}
use Rattle.elaboration_model.specs.Elaborated.{elaborated}
use Rattle.std.specs.Prelude.{is_some}
use Rattle.checks_examples.proofs.Programs.{at, n, syn, modedef, decl, fields, alt, recv, hand, sig, param, proc, proce, modul, program, counted_ground_of}

-- a signal with a receiver
--   m: MODULE SIGNAL s = (INT), t; DCL i INSTANCE; SEND s (1) TO i; SEND t TO THIS PRIORITY 3; RECEIVE CASE (s IN v): (t): ELSE ESAC; END m;
abbrev text_1 : ProgramTree
text_1 = program ((modul (n 1 1 (codes "m")) modulions.Module ((signals (at 1 11) ((sig (n 1 18 (codes "s")) (Some ((w.base_mode (w.discrete (w.named (n 1 23 (codes "INT"))))) ∷ [])) None) ∷ (sig (n 1 29 (codes "t")) None None) ∷ [])) ∷ (local_item (locations (at 1 32) ((decl ((n 1 36 (codes "i")) ∷ []) (w.base_mode (w.discrete (w.named (n 1 38 (codes "INSTANCE"))))) None) ∷ []))) ∷ (action (simple (at 1 48) (send (at 1 48) (n 1 53 (codes "s")) (Some ((whole (at 1 56) 1) ∷ [])) (Some (name (n 1 62 (codes "i")))) None) (handler_node None))) ∷ (action (simple (at 1 65) (send (at 1 65) (n 1 70 (codes "t")) None (Some (this_instance (at 1 75))) (Some (whole (at 1 89) 3))) (handler_node None))) ∷ (action (bracketed (at 1 92) None (receive_case (at 1 92) None (receive_nodes ((recv (at 1 105) (n 1 106 (codes "s")) (Some ((n 1 111 (codes "v")) ∷ [])) []) ∷ (recv (at 1 115) (n 1 116 (codes "t")) None []) ∷ [])) (otherwise_node (Some []))) (handler_node None) None)) ∷ []) None (Some (n 1 135 (codes "m")))) ∷ [])

text_1-elaborated : is_some (elaborated (counted_ground_of text_1) text_1) ≡ true
text_1-elaborated = refl

-- a process that takes part in a region
--   r: REGION GRANT f; DCL x INT; f: PROC (); x +:= 1; END f; END r; m: MODULE SEIZE f; p: PROCESS (); f(); END p; START p(); END m;
abbrev text_2 : ProgramTree
text_2 = program ((modul (n 1 1 (codes "r")) modulions.Region ((grant (at 1 11) (Names ((n 1 17 (codes "f")) ∷ []))) ∷ (local_item (locations (at 1 20) ((decl ((n 1 24 (codes "x")) ∷ []) (w.base_mode (w.discrete (w.named (n 1 26 (codes "INT"))))) None) ∷ []))) ∷ (procedure (proc (n 1 31 (codes "f")) [] None None ((action_part (simple (at 1 43) (update (at 1 43) (name (n 1 43 (codes "x"))) ops.Plus (at 1 45) (whole (at 1 49) 1)) (handler_node None))) ∷ []) None (Some (n 1 56 (codes "f"))))) ∷ []) None (Some (n 1 63 (codes "r")))) ∷ (modul (n 1 66 (codes "m")) modulions.Module ((seize (at 1 76) (Names ((n 1 82 (codes "f")) ∷ []))) ∷ (process (proce (n 1 85 (codes "p")) [] ((action_part (simple (at 1 100) (call_of (at 1 100) false (n 1 100 (codes "f")) []) (handler_node None))) ∷ []) None (Some (n 1 109 (codes "p"))))) ∷ (action (simple (at 1 112) (start_of (at 1 112) (n 1 118 (codes "p")) []) (handler_node None))) ∷ []) None (Some (n 1 127 (codes "m")))) ∷ [])

text_2-elaborated : is_some (elaborated (counted_ground_of text_2) text_2) ≡ true
text_2-elaborated = refl

-- a call that gives a BOOL
--   m: MODULE f: PROC () RETURNS (BOOL); RETURN TRUE; END f; IF f() THEN FI; DO WHILE NOT f(); OD; ASSERT f() OR FALSE; END m;
abbrev text_3 : ProgramTree
text_3 = program ((modul (n 1 1 (codes "m")) modulions.Module ((procedure (proc (n 1 11 (codes "f")) [] (Some (w.base_mode (w.discrete (w.named (n 1 31 (codes "BOOL")))))) None ((action_part (simple (at 1 38) (return_with (at 1 38) (Some (name (n 1 45 (codes "TRUE"))))) (handler_node None))) ∷ []) None (Some (n 1 55 (codes "f"))))) ∷ (action (bracketed (at 1 58) None (if_then (at 1 58) (apply (at 1 61) (name (n 1 61 (codes "f"))) (expr_nodes [])) (statement_nodes []) (branch_nodes []) no_otherwise) (handler_node None) None)) ∷ (action (bracketed (at 1 74) None (do_loop (at 1 74) (while_holds (at 1 77) (prefixed (at 1 83) prefixes.Not (apply (at 1 87) (name (n 1 87 (codes "f"))) (expr_nodes [])))) (statement_nodes [])) (handler_node None) None)) ∷ (action (simple (at 1 96) (assert_that (at 1 96) (binary (at 1 103) (apply (at 1 103) (name (n 1 103 (codes "f"))) (expr_nodes [])) ops.Or (at 1 107) (name (n 1 110 (codes "FALSE"))))) (handler_node None))) ∷ []) None (Some (n 1 121 (codes "m")))) ∷ [])

text_3-elaborated : is_some (elaborated (counted_ground_of text_3) text_3) ≡ true
text_3-elaborated = refl

-- a range of members may be empty
--   m: MODULE SYNMODE p = POWERSET INT (0:7); SYN a INT (0:0) = CARD(p [5:3]); SYN b p = [5:3]; END m;
abbrev text_4 : ProgramTree
text_4 = program ((modul (n 1 1 (codes "m")) modulions.Module ((local_item (syn_modes (at 1 11) ((modedef (n 1 19 (codes "p")) (w.base_mode (w.powerset (at 1 23) (w.bounded (n 1 32 (codes "INT")) (whole (at 1 37) 0) (whole (at 1 39) 7))))) ∷ []))) ∷ (local_item (synonyms (at 1 43) ((syn ((n 1 47 (codes "a")) ∷ []) (Some (w.base_mode (w.discrete (w.bounded (n 1 49 (codes "INT")) (whole (at 1 54) 0) (whole (at 1 56) 0))))) (apply (at 1 61) (name (n 1 61 (codes "CARD"))) (expr_nodes ((tuple (at 1 66) (Some (n 1 66 (codes "p"))) (at 1 68) (range_nodes ((between (whole (at 1 69) 5) (whole (at 1 71) 3)) ∷ []))) ∷ [])))) ∷ []))) ∷ (local_item (synonyms (at 1 76) ((syn ((n 1 80 (codes "b")) ∷ []) (Some (w.base_mode (w.discrete (w.named (n 1 82 (codes "p")))))) (tuple (at 1 86) None (at 1 86) (range_nodes ((between (whole (at 1 87) 5) (whole (at 1 89) 3)) ∷ [])))) ∷ []))) ∷ []) None (Some (n 1 97 (codes "m")))) ∷ [])

text_4-elaborated : is_some (elaborated (counted_ground_of text_4) text_4) ≡ true
text_4-elaborated = refl

-- P5: the later name, the same or of the other sort
--   M: MODULE DCL e, f EVENT; DELAY CASE (e): ; (f): ; ESAC; END M;
abbrev text_5 : ProgramTree
text_5 = program ((modul (n 1 1 (codes "M")) modulions.Module ((local_item (locations (at 1 11) ((decl ((n 1 15 (codes "e")) ∷ (n 1 18 (codes "f")) ∷ []) (w.event_mode (at 1 20) None) None) ∷ []))) ∷ (action (bracketed (at 1 27) None (delay_case (at 1 27) None None (named_nodes ((alt (at 1 38) ((n 1 39 (codes "e")) ∷ []) ((empty (at 1 43)) ∷ [])) ∷ (alt (at 1 45) ((n 1 46 (codes "f")) ∷ []) ((empty (at 1 50)) ∷ [])) ∷ []))) (handler_node None) None)) ∷ []) None (Some (n 1 62 (codes "M")))) ∷ [])

text_5-elaborated : is_some (elaborated (counted_ground_of text_5) text_5) ≡ true
text_5-elaborated = refl

-- a location that has the name of a counter outside it
--   m: MODULE DO FOR i := 1 TO 3; BEGIN DCL i INT; i := 2; END; OD; END m;
abbrev text_6 : ProgramTree
text_6 = program ((modul (n 1 1 (codes "m")) modulions.Module ((action (bracketed (at 1 11) None (do_loop (at 1 11) (for_steps (at 1 14) (n 1 18 (codes "i")) (whole (at 1 23) 1) None false (whole (at 1 28) 3) None) (statement_nodes ((bracketed (at 1 31) None (begin_end (at 1 31) (body_nodes ((local_part (locations (at 1 37) ((decl ((n 1 41 (codes "i")) ∷ []) (w.base_mode (w.discrete (w.named (n 1 43 (codes "INT"))))) None) ∷ []))) ∷ (action_part (simple (at 1 48) (assign (at 1 48) (name (n 1 48 (codes "i"))) (whole (at 1 53) 2)) (handler_node None))) ∷ []))) (handler_node None) None) ∷ []))) (handler_node None) None)) ∷ []) None (Some (n 1 69 (codes "m")))) ∷ [])

text_6-elaborated : is_some (elaborated (counted_ground_of text_6) text_6) ≡ true
text_6-elaborated = refl

-- 256 scalars
--   m: MODULE DCL a, b ARRAY (1:256) INT, t CHARS (256), c BOOL; a := b; c := a = b; t := t; PUT_TEXT(t); END m;
abbrev text_7 : ProgramTree
text_7 = program ((modul (n 1 1 (codes "m")) modulions.Module ((local_item (locations (at 1 11) ((decl ((n 1 15 (codes "a")) ∷ (n 1 18 (codes "b")) ∷ []) (w.base_mode (w.array (at 1 20) (w.index_bounded (whole (at 1 27) 1) (whole (at 1 29) 256)) (w.discrete (w.named (n 1 34 (codes "INT")))) None)) None) ∷ (decl ((n 1 39 (codes "t")) ∷ []) (w.base_mode (w.chars (at 1 41) (whole (at 1 48) 256))) None) ∷ (decl ((n 1 54 (codes "c")) ∷ []) (w.base_mode (w.discrete (w.named (n 1 56 (codes "BOOL"))))) None) ∷ []))) ∷ (action (simple (at 1 62) (assign (at 1 62) (name (n 1 62 (codes "a"))) (name (n 1 67 (codes "b")))) (handler_node None))) ∷ (action (simple (at 1 70) (assign (at 1 70) (name (n 1 70 (codes "c"))) (binary (at 1 75) (name (n 1 75 (codes "a"))) ops.Equal (at 1 77) (name (n 1 79 (codes "b"))))) (handler_node None))) ∷ (action (simple (at 1 82) (assign (at 1 82) (name (n 1 82 (codes "t"))) (name (n 1 87 (codes "t")))) (handler_node None))) ∷ (action (simple (at 1 90) (call_of (at 1 90) false (n 1 90 (codes "PUT_TEXT")) ((name (n 1 99 (codes "t"))) ∷ [])) (handler_node None))) ∷ []) None (Some (n 1 107 (codes "m")))) ∷ [])

text_7-elaborated : is_some (elaborated (counted_ground_of text_7) text_7) ≡ true
text_7-elaborated = refl

-- a mode that has a READ, and no location
--   m: MODULE SYNMODE r = READ INT; NEWMODE s = STRUCT (a r, b INT); SIGNAL t = (READ INT); DCL b BUFFER r; END m;
abbrev text_8 : ProgramTree
text_8 = program ((modul (n 1 1 (codes "m")) modulions.Module ((local_item (syn_modes (at 1 11) ((modedef (n 1 19 (codes "r")) (w.read_mode (at 1 23) (w.discrete (w.named (n 1 28 (codes "INT")))))) ∷ []))) ∷ (local_item (new_modes (at 1 33) ((modedef (n 1 41 (codes "s")) (w.base_mode (w.structure (at 1 45) (w.field_nodes ((fields ((n 1 53 (codes "a")) ∷ []) (w.discrete (w.named (n 1 55 (codes "r")))) None) ∷ (fields ((n 1 58 (codes "b")) ∷ []) (w.discrete (w.named (n 1 60 (codes "INT")))) None) ∷ [])) None))) ∷ []))) ∷ (signals (at 1 66) ((sig (n 1 73 (codes "t")) (Some ((w.read_mode (at 1 78) (w.discrete (w.named (n 1 83 (codes "INT"))))) ∷ [])) None) ∷ [])) ∷ (local_item (locations (at 1 89) ((decl ((n 1 93 (codes "b")) ∷ []) (w.buffer_mode (at 1 95) None (w.discrete (w.named (n 1 102 (codes "r"))))) None) ∷ []))) ∷ []) None (Some (n 1 109 (codes "m")))) ∷ [])

text_8-elaborated : is_some (elaborated (counted_ground_of text_8) text_8) ≡ true
text_8-elaborated = refl

-- a call with a result may stand as an action, and so may a routine
--   m: MODULE DCL n INT; f: PROC () RETURNS (INT); RETURN 1; END f; f(); CALL f(); n := f() + GET_INT(); ABS(n); GET_INT(); UPPER(n); NUM(1); END m;
abbrev text_9 : ProgramTree
text_9 = program ((modul (n 1 1 (codes "m")) modulions.Module ((local_item (locations (at 1 11) ((decl ((n 1 15 (codes "n")) ∷ []) (w.base_mode (w.discrete (w.named (n 1 17 (codes "INT"))))) None) ∷ []))) ∷ (procedure (proc (n 1 22 (codes "f")) [] (Some (w.base_mode (w.discrete (w.named (n 1 42 (codes "INT")))))) None ((action_part (simple (at 1 48) (return_with (at 1 48) (Some (whole (at 1 55) 1))) (handler_node None))) ∷ []) None (Some (n 1 62 (codes "f"))))) ∷ (action (simple (at 1 65) (call_of (at 1 65) false (n 1 65 (codes "f")) []) (handler_node None))) ∷ (action (simple (at 1 70) (call_of (at 1 70) true (n 1 75 (codes "f")) []) (handler_node None))) ∷ (action (simple (at 1 80) (assign (at 1 80) (name (n 1 80 (codes "n"))) (binary (at 1 85) (apply (at 1 85) (name (n 1 85 (codes "f"))) (expr_nodes [])) ops.Plus (at 1 89) (apply (at 1 91) (name (n 1 91 (codes "GET_INT"))) (expr_nodes [])))) (handler_node None))) ∷ (action (simple (at 1 102) (call_of (at 1 102) false (n 1 102 (codes "ABS")) ((name (n 1 106 (codes "n"))) ∷ [])) (handler_node None))) ∷ (action (simple (at 1 110) (call_of (at 1 110) false (n 1 110 (codes "GET_INT")) []) (handler_node None))) ∷ (action (simple (at 1 121) (call_of (at 1 121) false (n 1 121 (codes "UPPER")) ((name (n 1 127 (codes "n"))) ∷ [])) (handler_node None))) ∷ (action (simple (at 1 131) (call_of (at 1 131) false (n 1 131 (codes "NUM")) ((whole (at 1 135) 1) ∷ [])) (handler_node None))) ∷ []) None (Some (n 1 143 (codes "m")))) ∷ [])

text_9-elaborated : is_some (elaborated (counted_ground_of text_9) text_9) ≡ true
text_9-elaborated = refl

-- the list of a procedure is no handler
--   m: MODULE p: PROC () EXCEPTIONS (lost, lost); CAUSE lost; END p; p() ON (lost): END; END m;
abbrev text_10 : ProgramTree
text_10 = program ((modul (n 1 1 (codes "m")) modulions.Module ((procedure (proc (n 1 11 (codes "p")) [] None (Some ((n 1 34 (codes "lost")) ∷ (n 1 40 (codes "lost")) ∷ [])) ((action_part (simple (at 1 47) (cause (at 1 47) (n 1 53 (codes "lost"))) (handler_node None))) ∷ []) None (Some (n 1 63 (codes "p"))))) ∷ (action (simple (at 1 66) (call_of (at 1 66) false (n 1 66 (codes "p")) []) (handler_node (Some (hand (at 1 70) ((alt (at 1 73) ((n 1 74 (codes "lost")) ∷ []) []) ∷ []) None))))) ∷ []) None (Some (n 1 90 (codes "m")))) ∷ [])

text_10-elaborated : is_some (elaborated (counted_ground_of text_10) text_10) ≡ true
text_10-elaborated = refl

-- a module may grant its locations
--   m: MODULE GRANT x, e; DCL x INT, e EVENT; END m; n: MODULE SEIZE x, e; x := 1; CONTINUE e; END n;
abbrev text_11 : ProgramTree
text_11 = program ((modul (n 1 1 (codes "m")) modulions.Module ((grant (at 1 11) (Names ((n 1 17 (codes "x")) ∷ (n 1 20 (codes "e")) ∷ []))) ∷ (local_item (locations (at 1 23) ((decl ((n 1 27 (codes "x")) ∷ []) (w.base_mode (w.discrete (w.named (n 1 29 (codes "INT"))))) None) ∷ (decl ((n 1 34 (codes "e")) ∷ []) (w.event_mode (at 1 36) None) None) ∷ []))) ∷ []) None (Some (n 1 47 (codes "m")))) ∷ (modul (n 1 50 (codes "n")) modulions.Module ((seize (at 1 60) (Names ((n 1 66 (codes "x")) ∷ (n 1 69 (codes "e")) ∷ []))) ∷ (action (simple (at 1 72) (assign (at 1 72) (name (n 1 72 (codes "x"))) (whole (at 1 77) 1)) (handler_node None))) ∷ (action (simple (at 1 80) (continue_event (at 1 80) (n 1 89 (codes "e"))) (handler_node None))) ∷ []) None (Some (n 1 96 (codes "n")))) ∷ [])

text_11-elaborated : is_some (elaborated (counted_ground_of text_11) text_11) ≡ true
text_11-elaborated = refl

-- the root keeps the novelty
--   m: MODULE NEWMODE o = INT (0:7); DCL x o; x := x + 1; x := 1 - x; x := -x; x := ABS(x); x := SUCC(x) MOD 8; END m;
abbrev text_12 : ProgramTree
text_12 = program ((modul (n 1 1 (codes "m")) modulions.Module ((local_item (new_modes (at 1 11) ((modedef (n 1 19 (codes "o")) (w.base_mode (w.discrete (w.bounded (n 1 23 (codes "INT")) (whole (at 1 28) 0) (whole (at 1 30) 7))))) ∷ []))) ∷ (local_item (locations (at 1 34) ((decl ((n 1 38 (codes "x")) ∷ []) (w.base_mode (w.discrete (w.named (n 1 40 (codes "o"))))) None) ∷ []))) ∷ (action (simple (at 1 43) (assign (at 1 43) (name (n 1 43 (codes "x"))) (binary (at 1 48) (name (n 1 48 (codes "x"))) ops.Plus (at 1 50) (whole (at 1 52) 1))) (handler_node None))) ∷ (action (simple (at 1 55) (assign (at 1 55) (name (n 1 55 (codes "x"))) (binary (at 1 60) (whole (at 1 60) 1) ops.Minus (at 1 62) (name (n 1 64 (codes "x"))))) (handler_node None))) ∷ (action (simple (at 1 67) (assign (at 1 67) (name (n 1 67 (codes "x"))) (prefixed (at 1 72) prefixes.Minus (name (n 1 73 (codes "x"))))) (handler_node None))) ∷ (action (simple (at 1 76) (assign (at 1 76) (name (n 1 76 (codes "x"))) (apply (at 1 81) (name (n 1 81 (codes "ABS"))) (expr_nodes ((name (n 1 85 (codes "x"))) ∷ [])))) (handler_node None))) ∷ (action (simple (at 1 89) (assign (at 1 89) (name (n 1 89 (codes "x"))) (binary (at 1 94) (apply (at 1 94) (name (n 1 94 (codes "SUCC"))) (expr_nodes ((name (n 1 99 (codes "x"))) ∷ []))) ops.Mod (at 1 102) (whole (at 1 106) 8))) (handler_node None))) ∷ []) None (Some (n 1 113 (codes "m")))) ∷ [])

text_12-elaborated : is_some (elaborated (counted_ground_of text_12) text_12) ≡ true
text_12-elaborated = refl

-- a tuple in a tuple takes its mode from it
--   m: MODULE SYNMODE s = STRUCT (f INT, g ARRAY (1:2) BOOL); SYN v = s [1, [TRUE, FALSE]]; SYN w = s [1, [(*): FALSE]]; SYN x BOOL (FALSE:FALSE) = v = w; END m;
abbrev text_13 : ProgramTree
text_13 = program ((modul (n 1 1 (codes "m")) modulions.Module ((local_item (syn_modes (at 1 11) ((modedef (n 1 19 (codes "s")) (w.base_mode (w.structure (at 1 23) (w.field_nodes ((fields ((n 1 31 (codes "f")) ∷ []) (w.discrete (w.named (n 1 33 (codes "INT")))) None) ∷ (fields ((n 1 38 (codes "g")) ∷ []) (w.array (at 1 40) (w.index_bounded (whole (at 1 47) 1) (whole (at 1 49) 2)) (w.discrete (w.named (n 1 52 (codes "BOOL")))) None) None) ∷ [])) None))) ∷ []))) ∷ (local_item (synonyms (at 1 59) ((syn ((n 1 63 (codes "v")) ∷ []) None (tuple (at 1 67) (Some (n 1 67 (codes "s"))) (at 1 69) (range_nodes ((alone (whole (at 1 70) 1)) ∷ (alone (tuple (at 1 73) None (at 1 73) (range_nodes ((alone (name (n 1 74 (codes "TRUE")))) ∷ (alone (name (n 1 80 (codes "FALSE")))) ∷ [])))) ∷ [])))) ∷ []))) ∷ (local_item (synonyms (at 1 89) ((syn ((n 1 93 (codes "w")) ∷ []) None (tuple (at 1 97) (Some (n 1 97 (codes "s"))) (at 1 99) (range_nodes ((alone (whole (at 1 100) 1)) ∷ (alone (uniform (at 1 103) None (at 1 103) (name (n 1 109 (codes "FALSE"))))) ∷ [])))) ∷ []))) ∷ (local_item (synonyms (at 1 118) ((syn ((n 1 122 (codes "x")) ∷ []) (Some (w.base_mode (w.discrete (w.bounded (n 1 124 (codes "BOOL")) (name (n 1 130 (codes "FALSE"))) (name (n 1 136 (codes "FALSE"))))))) (binary (at 1 145) (name (n 1 145 (codes "v"))) ops.Equal (at 1 147) (name (n 1 149 (codes "w"))))) ∷ []))) ∷ []) None (Some (n 1 156 (codes "m")))) ∷ [])

text_13-elaborated : is_some (elaborated (counted_ground_of text_13) text_13) ≡ true
text_13-elaborated = refl

-- MIN and MAX of elements
--   m: MODULE NEWMODE c = SET (red, green, blue); SYNMODE p = POWERSET c; SYN a c (green:green) = MIN(p [blue, green]); SYN b c (blue:blue) = MAX(p [blue, green]); END m;
abbrev text_14 : ProgramTree
text_14 = program ((modul (n 1 1 (codes "m")) modulions.Module ((local_item (new_modes (at 1 11) ((modedef (n 1 19 (codes "c")) (w.base_mode (w.discrete (w.set_of (at 1 23) ((n 1 28 (codes "red")) ∷ (n 1 33 (codes "green")) ∷ (n 1 40 (codes "blue")) ∷ []))))) ∷ []))) ∷ (local_item (syn_modes (at 1 47) ((modedef (n 1 55 (codes "p")) (w.base_mode (w.powerset (at 1 59) (w.named (n 1 68 (codes "c")))))) ∷ []))) ∷ (local_item (synonyms (at 1 71) ((syn ((n 1 75 (codes "a")) ∷ []) (Some (w.base_mode (w.discrete (w.bounded (n 1 77 (codes "c")) (name (n 1 80 (codes "green"))) (name (n 1 86 (codes "green"))))))) (apply (at 1 95) (name (n 1 95 (codes "MIN"))) (expr_nodes ((tuple (at 1 99) (Some (n 1 99 (codes "p"))) (at 1 101) (range_nodes ((alone (name (n 1 102 (codes "blue")))) ∷ (alone (name (n 1 108 (codes "green")))) ∷ []))) ∷ [])))) ∷ []))) ∷ (local_item (synonyms (at 1 117) ((syn ((n 1 121 (codes "b")) ∷ []) (Some (w.base_mode (w.discrete (w.bounded (n 1 123 (codes "c")) (name (n 1 126 (codes "blue"))) (name (n 1 131 (codes "blue"))))))) (apply (at 1 139) (name (n 1 139 (codes "MAX"))) (expr_nodes ((tuple (at 1 143) (Some (n 1 143 (codes "p"))) (at 1 145) (range_nodes ((alone (name (n 1 146 (codes "blue")))) ∷ (alone (name (n 1 152 (codes "green")))) ∷ []))) ∷ [])))) ∷ []))) ∷ []) None (Some (n 1 165 (codes "m")))) ∷ [])

text_14-elaborated : is_some (elaborated (counted_ground_of text_14) text_14) ≡ true
text_14-elaborated = refl

-- ranges of one parent, SYNMODE names, parts and parameters
--   m: MODULE SYNMODE o = INT; DCL x INT (0:7), y o, a ARRAY (1:2) STRUCT (f INT); p: PROC (k INT OUT, l INT (3:4) INOUT); p(k, l); p(l, k); END p; p(x, y); p(a(1).f, a(x).f); END m;
abbrev text_15 : ProgramTree
text_15 = program ((modul (n 1 1 (codes "m")) modulions.Module ((local_item (syn_modes (at 1 11) ((modedef (n 1 19 (codes "o")) (w.base_mode (w.discrete (w.named (n 1 23 (codes "INT")))))) ∷ []))) ∷ (local_item (locations (at 1 28) ((decl ((n 1 32 (codes "x")) ∷ []) (w.base_mode (w.discrete (w.bounded (n 1 34 (codes "INT")) (whole (at 1 39) 0) (whole (at 1 41) 7)))) None) ∷ (decl ((n 1 45 (codes "y")) ∷ []) (w.base_mode (w.discrete (w.named (n 1 47 (codes "o"))))) None) ∷ (decl ((n 1 50 (codes "a")) ∷ []) (w.base_mode (w.array (at 1 52) (w.index_bounded (whole (at 1 59) 1) (whole (at 1 61) 2)) (w.structure (at 1 64) (w.field_nodes ((fields ((n 1 72 (codes "f")) ∷ []) (w.discrete (w.named (n 1 74 (codes "INT")))) None) ∷ [])) None) None)) None) ∷ []))) ∷ (procedure (proc (n 1 80 (codes "p")) ((param ((n 1 89 (codes "k")) ∷ []) (w.base_mode (w.discrete (w.named (n 1 91 (codes "INT"))))) (Some passings.Out)) ∷ (param ((n 1 100 (codes "l")) ∷ []) (w.base_mode (w.discrete (w.bounded (n 1 102 (codes "INT")) (whole (at 1 107) 3) (whole (at 1 109) 4)))) (Some passings.InOut)) ∷ []) None None ((action_part (simple (at 1 120) (call_of (at 1 120) false (n 1 120 (codes "p")) ((name (n 1 122 (codes "k"))) ∷ (name (n 1 125 (codes "l"))) ∷ [])) (handler_node None))) ∷ (action_part (simple (at 1 129) (call_of (at 1 129) false (n 1 129 (codes "p")) ((name (n 1 131 (codes "l"))) ∷ (name (n 1 134 (codes "k"))) ∷ [])) (handler_node None))) ∷ []) None (Some (n 1 142 (codes "p"))))) ∷ (action (simple (at 1 145) (call_of (at 1 145) false (n 1 145 (codes "p")) ((name (n 1 147 (codes "x"))) ∷ (name (n 1 150 (codes "y"))) ∷ [])) (handler_node None))) ∷ (action (simple (at 1 154) (call_of (at 1 154) false (n 1 154 (codes "p")) ((field (at 1 156) (apply (at 1 156) (name (n 1 156 (codes "a"))) (expr_nodes ((whole (at 1 158) 1) ∷ []))) (n 1 161 (codes "f"))) ∷ (field (at 1 164) (apply (at 1 164) (name (n 1 164 (codes "a"))) (expr_nodes ((name (n 1 166 (codes "x"))) ∷ []))) (n 1 169 (codes "f"))) ∷ [])) (handler_node None))) ∷ []) None (Some (n 1 177 (codes "m")))) ∷ [])

text_15-elaborated : is_some (elaborated (counted_ground_of text_15) text_15) ≡ true
text_15-elaborated = refl

-- in a procedure, its blocks and its handlers
--   m: MODULE f: PROC () RETURNS (INT); BEGIN RESULT 1; END; IF TRUE THEN RETURN 2; FI; RETURN; END ON (lost): RETURN 3; ELSE RESULT 4; END f; p: PROC (); RETURN; END ON ELSE RETURN; END p; END m;
abbrev text_16 : ProgramTree
text_16 = program ((modul (n 1 1 (codes "m")) modulions.Module ((procedure (proc (n 1 11 (codes "f")) [] (Some (w.base_mode (w.discrete (w.named (n 1 31 (codes "INT")))))) None ((action_part (bracketed (at 1 37) None (begin_end (at 1 37) (body_nodes ((action_part (simple (at 1 43) (result_of (at 1 43) (whole (at 1 50) 1)) (handler_node None))) ∷ []))) (handler_node None) None)) ∷ (action_part (bracketed (at 1 58) None (if_then (at 1 58) (name (n 1 61 (codes "TRUE"))) (statement_nodes ((simple (at 1 71) (return_with (at 1 71) (Some (whole (at 1 78) 2))) (handler_node None)) ∷ [])) (branch_nodes []) no_otherwise) (handler_node None) None)) ∷ (action_part (simple (at 1 85) (return_with (at 1 85) None) (handler_node None))) ∷ []) (Some (hand (at 1 97) ((alt (at 1 100) ((n 1 101 (codes "lost")) ∷ []) ((simple (at 1 108) (return_with (at 1 108) (Some (whole (at 1 115) 3))) (handler_node None)) ∷ [])) ∷ []) (Some ((simple (at 1 123) (result_of (at 1 123) (whole (at 1 130) 4)) (handler_node None)) ∷ [])))) (Some (n 1 137 (codes "f"))))) ∷ (procedure (proc (n 1 140 (codes "p")) [] None None ((action_part (simple (at 1 152) (return_with (at 1 152) None) (handler_node None))) ∷ []) (Some (hand (at 1 164) [] (Some ((simple (at 1 172) (return_with (at 1 172) None) (handler_node None)) ∷ [])))) (Some (n 1 184 (codes "p"))))) ∷ []) None (Some (n 1 191 (codes "m")))) ∷ [])

text_16-elaborated : is_some (elaborated (counted_ground_of text_16) text_16) ≡ true
text_16-elaborated = refl
