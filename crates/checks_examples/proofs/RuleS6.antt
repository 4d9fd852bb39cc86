-- Rule S6: texts that break it, and texts that nearly do.
use Rattle.std.proofs.Common.{◌≡◌, refl}
use Rattle.std.specs.Prelude.{false, [], ◌∷◌, Some, None, codes}
use Rattle.chill_tree.specs.declared.tree.expr.Operator.TheVariants as ops
use Rattle.chill_tree.specs.declared.tree.expr.Prefix.TheVariants as prefixes
use Rattle.chill_tree.specs.declared.tree.item.Passing.TheVariants as passings
use Rattle.chill_tree.specs.declared.tree.item.ModulionKind.TheVariants as modulions
use Rattle.chill_tree.specs.ExprTree.{whole, paren, tuple, name, apply, field, prefixed, binary, alone, expr_nodes, range_nodes}
use Rattle.chill_tree.specs.ModeTree as w
use Rattle.chill_tree.specs.LocalTree.{synonyms, syn_modes, new_modes, locations}
use Rattle.chill_tree.specs.SimpleTree.{call_of, return_with, for_steps}
use Rattle.chill_tree.specs.StatementTree.{simple, bracketed, do_loop, receive_case, statement_nodes, receive_nodes, no_otherwise, handler_node, action_part}
use Rattle.chill_tree.specs.ItemTree.{ProgramTree, local_item, signals, procedure, action}
use Rattle.diagnostics.specs.declared.rule.Rule.TheVariants as rules
use Rattle.checks_model.specs.Table.{IsGroundOf, IsStatementGroundOf}
use Rattle.checks_model.specs.Phases.{broken_modes, broken_statements, broken_processes}
use Rattle.checks_examples.proofs.Programs.{at, n, syn, modedef, init, decl, fields, recv, sig, param, proc, modul, program, ground_of, counted_ground_of, told}

-- a location in brackets
--   m: MODULE DCL x INT; p: PROC (k INT INOUT); END p; p((x)); p(x); END m;
abbrev broken_1 : ProgramTree
broken_1 = program ((modul (n 1 1 (codes "m")) modulions.Module ((local_item (locations (at 1 11) ((decl ((n 1 15 (codes "x")) ∷ []) (w.base_mode (w.discrete (w.named (n 1 17 (codes "INT"))))) None) ∷ []))) ∷ (procedure (proc (n 1 22 (codes "p")) ((param ((n 1 31 (codes "k")) ∷ []) (w.base_mode (w.discrete (w.named (n 1 33 (codes "INT"))))) (Some passings.InOut)) ∷ []) None None [] None (Some (n 1 49 (codes "p"))))) ∷ (action (simple (at 1 52) (call_of (at 1 52) false (n 1 52 (codes "p")) ((paren (at 1 54) (name (n 1 55 (codes "x")))) ∷ [])) (handler_node None))) ∷ (action (simple (at 1 60) (call_of (at 1 60) false (n 1 60 (codes "p")) ((name (n 1 62 (codes "x"))) ∷ [])) (handler_node None))) ∷ []) None (Some (n 1 70 (codes "m")))) ∷ [])

broken_1-ground : IsGroundOf broken_1 (ground_of broken_1)
broken_1-ground = record { names = refl; entries = refl }

broken_1-modes : broken_modes (ground_of broken_1) broken_1 ≡ []
broken_1-modes = refl

broken_1-counted : IsStatementGroundOf broken_1 (counted_ground_of broken_1)
broken_1-counted = record { names = refl; entries = refl }

broken_1-statements : broken_statements (counted_ground_of broken_1) broken_1 ≡ (told rules.S6 1 54 ∷ [])
broken_1-statements = refl

-- a value
--   m: MODULE DCL x INT; p: PROC (k INT OUT); END p; p(1); p(x + 1); p(-x); p(x); END m;
abbrev broken_2 : ProgramTree
broken_2 = program ((modul (n 1 1 (codes "m")) modulions.Module ((local_item (locations (at 1 11) ((decl ((n 1 15 (codes "x")) ∷ []) (w.base_mode (w.discrete (w.named (n 1 17 (codes "INT"))))) None) ∷ []))) ∷ (procedure (proc (n 1 22 (codes "p")) ((param ((n 1 31 (codes "k")) ∷ []) (w.base_mode (w.discrete (w.named (n 1 33 (codes "INT"))))) (Some passings.Out)) ∷ []) None None [] None (Some (n 1 47 (codes "p"))))) ∷ (action (simple (at 1 50) (call_of (at 1 50) false (n 1 50 (codes "p")) ((whole (at 1 52) 1) ∷ [])) (handler_node None))) ∷ (action (simple (at 1 56) (call_of (at 1 56) false (n 1 56 (codes "p")) ((binary (at 1 58) (name (n 1 58 (codes "x"))) ops.Plus (at 1 60) (whole (at 1 62) 1)) ∷ [])) (handler_node None))) ∷ (action (simple (at 1 66) (call_of (at 1 66) false (n 1 66 (codes "p")) ((prefixed (at 1 68) prefixes.Minus (name (n 1 69 (codes "x")))) ∷ [])) (handler_node None))) ∷ (action (simple (at 1 73) (call_of (at 1 73) false (n 1 73 (codes "p")) ((name (n 1 75 (codes "x"))) ∷ [])) (handler_node None))) ∷ []) None (Some (n 1 83 (codes "m")))) ∷ [])

broken_2-ground : IsGroundOf broken_2 (ground_of broken_2)
broken_2-ground = record { names = refl; entries = refl }

broken_2-modes : broken_modes (ground_of broken_2) broken_2 ≡ []
broken_2-modes = refl

broken_2-counted : IsStatementGroundOf broken_2 (counted_ground_of broken_2)
broken_2-counted = record { names = refl; entries = refl }

broken_2-statements : broken_statements (counted_ground_of broken_2) broken_2 ≡ (told rules.S6 1 52 ∷ told rules.S6 1 58 ∷ told rules.S6 1 68 ∷ [])
broken_2-statements = refl

-- a part that isn't there
--   m: MODULE DCL x INT, s STRUCT (f INT); p: PROC (k INT OUT); END p; p(x.f); p(s.g); p(x(1)); p(p); END m;
abbrev broken_3 : ProgramTree
broken_3 = program ((modul (n 1 1 (codes "m")) modulions.Module ((local_item (locations (at 1 11) ((decl ((n 1 15 (codes "x")) ∷ []) (w.base_mode (w.discrete (w.named (n 1 17 (codes "INT"))))) None) ∷ (decl ((n 1 22 (codes "s")) ∷ []) (w.base_mode (w.structure (at 1 24) (w.field_nodes ((fields ((n 1 32 (codes "f")) ∷ []) (w.discrete (w.named (n 1 34 (codes "INT")))) None) ∷ [])) None)) None) ∷ []))) ∷ (procedure (proc (n 1 40 (codes "p")) ((param ((n 1 49 (codes "k")) ∷ []) (w.base_mode (w.discrete (w.named (n 1 51 (codes "INT"))))) (Some passings.Out)) ∷ []) None None [] None (Some (n 1 65 (codes "p"))))) ∷ (action (simple (at 1 68) (call_of (at 1 68) false (n 1 68 (codes "p")) ((field (at 1 70) (name (n 1 70 (codes "x"))) (n 1 72 (codes "f"))) ∷ [])) (handler_node None))) ∷ (action (simple (at 1 76) (call_of (at 1 76) false (n 1 76 (codes "p")) ((field (at 1 78) (name (n 1 78 (codes "s"))) (n 1 80 (codes "g"))) ∷ [])) (handler_node None))) ∷ (action (simple (at 1 84) (call_of (at 1 84) false (n 1 84 (codes "p")) ((apply (at 1 86) (name (n 1 86 (codes "x"))) (expr_nodes ((whole (at 1 88) 1) ∷ []))) ∷ [])) (handler_node None))) ∷ (action (simple (at 1 93) (call_of (at 1 93) false (n 1 93 (codes "p")) ((name (n 1 95 (codes "p"))) ∷ [])) (handler_node None))) ∷ []) None (Some (n 1 103 (codes "m")))) ∷ [])

broken_3-ground : IsGroundOf broken_3 (ground_of broken_3)
broken_3-ground = record { names = refl; entries = refl }

broken_3-modes : broken_modes (ground_of broken_3) broken_3 ≡ []
broken_3-modes = refl

broken_3-counted : IsStatementGroundOf broken_3 (counted_ground_of broken_3)
broken_3-counted = record { names = refl; entries = refl }

broken_3-statements : broken_statements (counted_ground_of broken_3) broken_3 ≡ (told rules.S6 1 70 ∷ told rules.S6 1 78 ∷ told rules.S6 1 86 ∷ told rules.S6 1 95 ∷ [])
broken_3-statements = refl

-- a READ location, a counter, a received name, a synonym
--   m: MODULE DCL r READ INT := 1; SYN k = 1; SIGNAL s = (INT); p: PROC (k INT OUT); END p; p(r); DO FOR i := 1 TO 3; p(i); OD; RECEIVE CASE (s IN v): p(v); ESAC; p(k); END m;
abbrev broken_4 : ProgramTree
broken_4 = program ((modul (n 1 1 (codes "m")) modulions.Module ((local_item (locations (at 1 11) ((decl ((n 1 15 (codes "r")) ∷ []) (w.read_mode (at 1 17) (w.discrete (w.named (n 1 22 (codes "INT"))))) (Some (init (at 1 26) false (whole (at 1 29) 1)))) ∷ []))) ∷ (local_item (synonyms (at 1 32) ((syn ((n 1 36 (codes "k")) ∷ []) None (whole (at 1 40) 1)) ∷ []))) ∷ (signals (at 1 43) ((sig (n 1 50 (codes "s")) (Some ((w.base_mode (w.discrete (w.named (n 1 55 (codes "INT"))))) ∷ [])) None) ∷ [])) ∷ (procedure (proc (n 1 61 (codes "p")) ((param ((n 1 70 (codes "k")) ∷ []) (w.base_mode (w.discrete (w.named (n 1 72 (codes "INT"))))) (Some passings.Out)) ∷ []) None None [] None (Some (n 1 86 (codes "p"))))) ∷ (action (simple (at 1 89) (call_of (at 1 89) false (n 1 89 (codes "p")) ((name (n 1 91 (codes "r"))) ∷ [])) (handler_node None))) ∷ (action (bracketed (at 1 95) None (do_loop (at 1 95) (for_steps (at 1 98) (n 1 102 (codes "i")) (whole (at 1 107) 1) None false (whole (at 1 112) 3) None) (statement_nodes ((simple (at 1 115) (call_of (at 1 115) false (n 1 115 (codes "p")) ((name (n 1 117 (codes "i"))) ∷ [])) (handler_node None)) ∷ []))) (handler_node None) None)) ∷ (action (bracketed (at 1 125) None (receive_case (at 1 125) None (receive_nodes ((recv (at 1 138) (n 1 139 (codes "s")) (Some ((n 1 144 (codes "v")) ∷ [])) ((simple (at 1 148) (call_of (at 1 148) false (n 1 148 (codes "p")) ((name (n 1 150 (codes "v"))) ∷ [])) (handler_node None)) ∷ [])) ∷ [])) no_otherwise) (handler_node None) None)) ∷ (action (simple (at 1 160) (call_of (at 1 160) false (n 1 160 (codes "p")) ((name (n 1 162 (codes "k"))) ∷ [])) (handler_node None))) ∷ []) None (Some (n 1 170 (codes "m")))) ∷ [])

broken_4-ground : IsGroundOf broken_4 (ground_of broken_4)
broken_4-ground = record { names = refl; entries = refl }

broken_4-modes : broken_modes (ground_of broken_4) broken_4 ≡ []
broken_4-modes = refl

broken_4-counted : IsStatementGroundOf broken_4 (counted_ground_of broken_4)
broken_4-counted = record { names = refl; entries = refl }

broken_4-statements : broken_statements (counted_ground_of broken_4) broken_4 ≡ (told rules.S6 1 91 ∷ told rules.S6 1 117 ∷ told rules.S6 1 150 ∷ told rules.S6 1 162 ∷ [])
broken_4-statements = refl

-- a READ part, and a location with one
--   m: MODULE SYNMODE r = READ INT; SYNMODE t = STRUCT (f r, g INT); DCL s t := [1, 2], u READ ARRAY (1:2) INT := [1, 2]; p: PROC (k INT OUT); END p; q: PROC (k t INOUT); END q; p(s.f); p(s.g); q(s); p(u(1)); END m;
abbrev broken_5 : ProgramTree
broken_5 = program ((modul (n 1 1 (codes "m")) modulions.Module ((local_item (syn_modes (at 1 11) ((modedef (n 1 19 (codes "r")) (w.read_mode (at 1 23) (w.discrete (w.named (n 1 28 (codes "INT")))))) ∷ []))) ∷ (local_item (syn_modes (at 1 33) ((modedef (n 1 41 (codes "t")) (w.base_mode (w.structure (at 1 45) (w.field_nodes ((fields ((n 1 53 (codes "f")) ∷ []) (w.discrete (w.named (n 1 55 (codes "r")))) None) ∷ (fields ((n 1 58 (codes "g")) ∷ []) (w.discrete (w.named (n 1 60 (codes "INT")))) None) ∷ [])) None))) ∷ []))) ∷ (local_item (locations (at 1 66) ((decl ((n 1 70 (codes "s")) ∷ []) (w.base_mode (w.discrete (w.named (n 1 72 (codes "t"))))) (Some (init (at 1 74) false (tuple (at 1 77) None (at 1 77) (range_nodes ((alone (whole (at 1 78) 1)) ∷ (alone (whole (at 1 81) 2)) ∷ [])))))) ∷ (decl ((n 1 85 (codes "u")) ∷ []) (w.read_mode (at 1 87) (w.array (at 1 92) (w.index_bounded (whole (at 1 99) 1) (whole (at 1 101) 2)) (w.discrete (w.named (n 1 104 (codes "INT")))) None)) (Some (init (at 1 108) false (tuple (at 1 111) None (at 1 111) (range_nodes ((alone (whole (at 1 112) 1)) ∷ (alone (whole (at 1 115) 2)) ∷ [])))))) ∷ []))) ∷ (procedure (proc (n 1 119 (codes "p")) ((param ((n 1 128 (codes "k")) ∷ []) (w.base_mode (w.discrete (w.named (n 1 130 (codes "INT"))))) (Some passings.Out)) ∷ []) None None [] None (Some (n 1 144 (codes "p"))))) ∷ (procedure (proc (n 1 147 (codes "q")) ((param ((n 1 156 (codes "k")) ∷ []) (w.base_mode (w.discrete (w.named (n 1 158 (codes "t"))))) (Some passings.InOut)) ∷ []) None None [] None (Some (n 1 172 (codes "q"))))) ∷ (action (simple (at 1 175) (call_of (at 1 175) false (n 1 175 (codes "p")) ((field (at 1 177) (name (n 1 177 (codes "s"))) (n 1 179 (codes "f"))) ∷ [])) (handler_node None))) ∷ (action (simple (at 1 183) (call_of (at 1 183) false (n 1 183 (codes "p")) ((field (at 1 185) (name (n 1 185 (codes "s"))) (n 1 187 (codes "g"))) ∷ [])) (handler_node None))) ∷ (action (simple (at 1 191) (call_of (at 1 191) false (n 1 191 (codes "q")) ((name (n 1 193 (codes "s"))) ∷ [])) (handler_node None))) ∷ (action (simple (at 1 197) (call_of (at 1 197) false (n 1 197 (codes "p")) ((apply (at 1 199) (name (n 1 199 (codes "u"))) (expr_nodes ((whole (at 1 201) 1) ∷ []))) ∷ [])) (handler_node None))) ∷ []) None (Some (n 1 210 (codes "m")))) ∷ [])

broken_5-ground : IsGroundOf broken_5 (ground_of broken_5)
broken_5-ground = record { names = refl; entries = refl }

broken_5-modes : broken_modes (ground_of broken_5) broken_5 ≡ []
broken_5-modes = refl

broken_5-counted : IsStatementGroundOf broken_5 (counted_ground_of broken_5)
broken_5-counted = record { names = refl; entries = refl }

broken_5-statements : broken_statements (counted_ground_of broken_5) broken_5 ≡ (told rules.S6 1 177 ∷ told rules.S6 1 193 ∷ told rules.S6 1 199 ∷ [])
broken_5-statements = refl

-- a call and a part of a call
--   m: MODULE SYNMODE t = STRUCT (f INT); f: PROC () RETURNS (INT); RETURN 1; END f; g: PROC () RETURNS (t); RETURN [1]; END g; p: PROC (k INT OUT); END p; p(f()); p(g().f); p(GET_INT()); END m;
abbrev broken_6 : ProgramTree
broken_6 = program ((modul (n 1 1 (codes "m")) modulions.Module ((local_item (syn_modes (at 1 11) ((modedef (n 1 19 (codes "t")) (w.base_mode (w.structure (at 1 23) (w.field_nodes ((fields ((n 1 31 (codes "f")) ∷ []) (w.discrete (w.named (n 1 33 (codes "INT")))) None) ∷ [])) None))) ∷ []))) ∷ (procedure (proc (n 1 39 (codes "f")) [] (Some (w.base_mode (w.discrete (w.named (n 1 59 (codes "INT")))))) None ((action_part (simple (at 1 65) (return_with (at 1 65) (Some (whole (at 1 72) 1))) (handler_node None))) ∷ []) None (Some (n 1 79 (codes "f"))))) ∷ (procedure (proc (n 1 82 (codes "g")) [] (Some (w.base_mode (w.discrete (w.named (n 1 102 (codes "t")))))) None ((action_part (simple (at 1 106) (return_with (at 1 106) (Some (tuple (at 1 113) None (at 1 113) (range_nodes ((alone (whole (at 1 114) 1)) ∷ []))))) (handler_node None))) ∷ []) None (Some (n 1 122 (codes "g"))))) ∷ (procedure (proc (n 1 125 (codes "p")) ((param ((n 1 134 (codes "k")) ∷ []) (w.base_mode (w.discrete (w.named (n 1 136 (codes "INT"))))) (Some passings.Out)) ∷ []) None None [] None (Some (n 1 150 (codes "p"))))) ∷ (action (simple (at 1 153) (call_of (at 1 153) false (n 1 153 (codes "p")) ((apply (at 1 155) (name (n 1 155 (codes "f"))) (expr_nodes [])) ∷ [])) (handler_node None))) ∷ (action (simple (at 1 161) (call_of (at 1 161) false (n 1 161 (codes "p")) ((field (at 1 163) (apply (at 1 163) (name (n 1 163 (codes "g"))) (expr_nodes [])) (n 1 167 (codes "f"))) ∷ [])) (handler_node None))) ∷ (action (simple (at 1 171) (call_of (at 1 171) false (n 1 171 (codes "p")) ((apply (at 1 173) (name (n 1 173 (codes "GET_INT"))) (expr_nodes [])) ∷ [])) (handler_node None))) ∷ []) None (Some (n 1 189 (codes "m")))) ∷ [])

broken_6-ground : IsGroundOf broken_6 (ground_of broken_6)
broken_6-ground = record { names = refl; entries = refl }

broken_6-modes : broken_modes (ground_of broken_6) broken_6 ≡ []
broken_6-modes = refl

broken_6-counted : IsStatementGroundOf broken_6 (counted_ground_of broken_6)
broken_6-counted = record { names = refl; entries = refl }

broken_6-statements : broken_statements (counted_ground_of broken_6) broken_6 ≡ (told rules.S6 1 155 ∷ told rules.S6 1 163 ∷ told rules.S6 1 173 ∷ [])
broken_6-statements = refl

-- another mode, another novelty
--   m: MODULE NEWMODE o = INT; DCL x o, b BOOL, t CHARS (2); p: PROC (k INT OUT); END p; q: PROC (k o INOUT, l CHARS (3) OUT); END q; p(x); p(b); q(x, t); q(b, t); END m;
abbrev broken_7 : ProgramTree
broken_7 = program ((modul (n 1 1 (codes "m")) modulions.Module ((local_item (new_modes (at 1 11) ((modedef (n 1 19 (codes "o")) (w.base_mode (w.discrete (w.named (n 1 23 (codes "INT")))))) ∷ []))) ∷ (local_item (locations (at 1 28) ((decl ((n 1 32 (codes "x")) ∷ []) (w.base_mode (w.discrete (w.named (n 1 34 (codes "o"))))) None) ∷ (decl ((n 1 37 (codes "b")) ∷ []) (w.base_mode (w.discrete (w.named (n 1 39 (codes "BOOL"))))) None) ∷ (decl ((n 1 45 (codes "t")) ∷ []) (w.base_mode (w.chars (at 1 47) (whole (at 1 54) 2))) None) ∷ []))) ∷ (procedure (proc (n 1 58 (codes "p")) ((param ((n 1 67 (codes "k")) ∷ []) (w.base_mode (w.discrete (w.named (n 1 69 (codes "INT"))))) (Some passings.Out)) ∷ []) None None [] None (Some (n 1 83 (codes "p"))))) ∷ (procedure (proc (n 1 86 (codes "q")) ((param ((n 1 95 (codes "k")) ∷ []) (w.base_mode (w.discrete (w.named (n 1 97 (codes "o"))))) (Some passings.InOut)) ∷ (param ((n 1 106 (codes "l")) ∷ []) (w.base_mode (w.chars (at 1 108) (whole (at 1 115) 3))) (Some passings.Out)) ∷ []) None None [] None (Some (n 1 128 (codes "q"))))) ∷ (action (simple (at 1 131) (call_of (at 1 131) false (n 1 131 (codes "p")) ((name (n 1 133 (codes "x"))) ∷ [])) (handler_node None))) ∷ (action (simple (at 1 137) (call_of (at 1 137) false (n 1 137 (codes "p")) ((name (n 1 139 (codes "b"))) ∷ [])) (handler_node None))) ∷ (action (simple (at 1 143) (call_of (at 1 143) false (n 1 143 (codes "q")) ((name (n 1 145 (codes "x"))) ∷ (name (n 1 148 (codes "t"))) ∷ [])) (handler_node None))) ∷ (action (simple (at 1 152) (call_of (at 1 152) false (n 1 152 (codes "q")) ((name (n 1 154 (codes "b"))) ∷ (name (n 1 157 (codes "t"))) ∷ [])) (handler_node None))) ∷ []) None (Some (n 1 165 (codes "m")))) ∷ [])

broken_7-ground : IsGroundOf broken_7 (ground_of broken_7)
broken_7-ground = record { names = refl; entries = refl }

broken_7-modes : broken_modes (ground_of broken_7) broken_7 ≡ []
broken_7-modes = refl

broken_7-counted : IsStatementGroundOf broken_7 (counted_ground_of broken_7)
broken_7-counted = record { names = refl; entries = refl }

broken_7-statements : broken_statements (counted_ground_of broken_7) broken_7 ≡ (told rules.S6 1 133 ∷ told rules.S6 1 139 ∷ told rules.S6 1 148 ∷ told rules.S6 1 154 ∷ told rules.S6 1 157 ∷ [])
broken_7-statements = refl

-- a broken part is told alone
--   m: MODULE DCL a ARRAY (1:2) INT; p: PROC (k INT OUT); END p; p(a(TRUE)); p(p(a(1))); p(a(1, 2)); END m;
abbrev near_1 : ProgramTree
near_1 = program ((modul (n 1 1 (codes "m")) modulions.Module ((local_item (locations (at 1 11) ((decl ((n 1 15 (codes "a")) ∷ []) (w.base_mode (w.array (at 1 17) (w.index_bounded (whole (at 1 24) 1) (whole (at 1 26) 2)) (w.discrete (w.named (n 1 29 (codes "INT")))) None)) None) ∷ []))) ∷ (procedure (proc (n 1 34 (codes "p")) ((param ((n 1 43 (codes "k")) ∷ []) (w.base_mode (w.discrete (w.named (n 1 45 (codes "INT"))))) (Some passings.Out)) ∷ []) None None [] None (Some (n 1 59 (codes "p"))))) ∷ (action (simple (at 1 62) (call_of (at 1 62) false (n 1 62 (codes "p")) ((apply (at 1 64) (name (n 1 64 (codes "a"))) (expr_nodes ((name (n 1 66 (codes "TRUE"))) ∷ []))) ∷ [])) (handler_node None))) ∷ (action (simple (at 1 74) (call_of (at 1 74) false (n 1 74 (codes "p")) ((apply (at 1 76) (name (n 1 76 (codes "p"))) (expr_nodes ((apply (at 1 78) (name (n 1 78 (codes "a"))) (expr_nodes ((whole (at 1 80) 1) ∷ []))) ∷ []))) ∷ [])) (handler_node None))) ∷ (action (simple (at 1 86) (call_of (at 1 86) false (n 1 86 (codes "p")) ((apply (at 1 88) (name (n 1 88 (codes "a"))) (expr_nodes ((whole (at 1 90) 1) ∷ (whole (at 1 93) 2) ∷ []))) ∷ [])) (handler_node None))) ∷ []) None (Some (n 1 102 (codes "m")))) ∷ [])

near_1-ground : IsGroundOf near_1 (ground_of near_1)
near_1-ground = record { names = refl; entries = refl }

near_1-modes : broken_modes (ground_of near_1) near_1 ≡ []
near_1-modes = refl

near_1-counted : IsStatementGroundOf near_1 (counted_ground_of near_1)
near_1-counted = record { names = refl; entries = refl }

near_1-statements : broken_statements (counted_ground_of near_1) near_1 ≡ (told rules.S2 1 66 ∷ told rules.S10 1 76 ∷ told rules.S5 1 88 ∷ [])
near_1-statements = refl

-- an IN parameter takes any value
--   m: MODULE DCL r READ INT := 1; p: PROC (k INT, l INT IN); END p; p(r, (r)); p(1, r + 1); DO FOR i := 1 TO 3; p(i, i); OD; END m;
abbrev near_2 : ProgramTree
near_2 = program ((modul (n 1 1 (codes "m")) modulions.Module ((local_item (locations (at 1 11) ((decl ((n 1 15 (codes "r")) ∷ []) (w.read_mode (at 1 17) (w.discrete (w.named (n 1 22 (codes "INT"))))) (Some (init (at 1 26) false (whole (at 1 29) 1)))) ∷ []))) ∷ (procedure (proc (n 1 32 (codes "p")) ((param ((n 1 41 (codes "k")) ∷ []) (w.base_mode (w.discrete (w.named (n 1 43 (codes "INT"))))) None) ∷ (param ((n 1 48 (codes "l")) ∷ []) (w.base_mode (w.discrete (w.named (n 1 50 (codes "INT"))))) (Some passings.In)) ∷ []) None None [] None (Some (n 1 63 (codes "p"))))) ∷ (action (simple (at 1 66) (call_of (at 1 66) false (n 1 66 (codes "p")) ((name (n 1 68 (codes "r"))) ∷ (paren (at 1 71) (name (n 1 72 (codes "r")))) ∷ [])) (handler_node None))) ∷ (action (simple (at 1 77) (call_of (at 1 77) false (n 1 77 (codes "p")) ((whole (at 1 79) 1) ∷ (binary (at 1 82) (name (n 1 82 (codes "r"))) ops.Plus (at 1 84) (whole (at 1 86) 1)) ∷ [])) (handler_node None))) ∷ (action (bracketed (at 1 90) None (do_loop (at 1 90) (for_steps (at 1 93) (n 1 97 (codes "i")) (whole (at 1 102) 1) None false (whole (at 1 107) 3) None) (statement_nodes ((simple (at 1 110) (call_of (at 1 110) false (n 1 110 (codes "p")) ((name (n 1 112 (codes "i"))) ∷ (name (n 1 115 (codes "i"))) ∷ [])) (handler_node None)) ∷ []))) (handler_node None) None)) ∷ []) None (Some (n 1 127 (codes "m")))) ∷ [])

near_2-ground : IsGroundOf near_2 (ground_of near_2)
near_2-ground = record { names = refl; entries = refl }

near_2-modes : broken_modes (ground_of near_2) near_2 ≡ []
near_2-modes = refl

near_2-counted : IsStatementGroundOf near_2 (counted_ground_of near_2)
near_2-counted = record { names = refl; entries = refl }

near_2-statements : broken_statements (counted_ground_of near_2) near_2 ≡ []
near_2-statements = refl

near_2-processes : broken_processes (counted_ground_of near_2) near_2 ≡ []
near_2-processes = refl
