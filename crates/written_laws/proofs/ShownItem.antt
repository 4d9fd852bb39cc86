-- What is shown of a program: its nodes have short expressions, and what it defines is written with fields.
use Rattle.std.proofs.Common.{ℕ, true, List, [], ◌∷◌, ◌++◌, Option, Some, None}
use Rattle.std.specs.Prelude.{map, flat_map}
use Rattle.chill_tree.specs.declared.token.Word.TheVariants as words
use Rattle.chill_tree.specs.declared.tree.name.Name.{Name}
use Rattle.chill_tree.specs.declared.tree.item.ModulionKind.{ModulionKind}
use Rattle.chill_tree.specs.declared.tree.item.Passed.{Passed}
use Rattle.chill_tree.specs.declared.tree.item.Passing.{Passing}
use Rattle.chill_tree.specs.ExprTree.{ExprTree}
use Rattle.chill_tree.specs.ModeTree.{ModeTree}
use Rattle.chill_tree.specs.StatementTree.{BodyTree, HandlerTree, body_nodes, handler_node}
use Rattle.chill_tree.specs.ItemTree.{SignalTree, ParamTree, FormalTree, ProcedureTree, ProcessTree, ItemTree, ItemNodes, item_nodes, ModulionTree, modulion_item, ProgramTree}
use Rattle.rules_model.specs.Marks.{Toks}
use Rattle.rules_model.specs.ListGrammar.{IsName, is_name, IsClause, no_clause, with_clause}
use Rattle.rules_model.specs.ModeGrammar.{IsMode}
use Rattle.rules_model.specs.ItemGrammar.{IsPassed, pass_names, pass_all, AreSignalParts, no_signal_parts, with_signal_parts, IsSignal, is_signal, IsPassing, no_passing, pass_in, pass_out, pass_in_out, IsParam, is_param, IsFormal, is_formal, AreWithin, none_within, some_within, IsResult, is_result, AreExceptions, are_exceptions, IsBlock, is_block, IsProcedure, is_procedure, IsProcess, is_process, IsKind, is_module, is_region, IsItem, is_seize, is_grant, is_local_item, are_signals, is_procedure_item, is_process_item, is_modulion_item, is_action, AreItems, no_items, then_item, IsModulion, is_modulion, AreModulions, no_modulions, then_modulion, IsTreeOf, is_tree}
use Rattle.rules_model.specs.Diagnoses.{HasTree}
use Rattle.checks_model.specs.Ground.{a_parameter}
use Rattle.checks_model.specs.Origins.{sets_in, elements_of, elements_of_some, origins_in_parts, origins_in_handler, origins_of_signal, origins_of_param, origins_of_formal, origins_of_body, origins_of_procedure, origins_of_process, origins_of_item, origins_of_items, text_origins}
use Rattle.checks_model.specs.Phases.{some_expr, exprs_of_simple, priority_of, exprs_of_control, exprs_of_labels, initial_expr}
use Rattle.checks_model.specs.Sites.{Site, Around, in_procedure, in_no_procedure, at_item, at_synonym, at_mode_definition, at_declaration, at_mode, at_simple, at_condition, at_selector, at_labels, at_control, at_set, at_priority, at_event, at_source, at_received, at_exceptions, at_body, at_program, sites_of_parts, sites_of_handler, sites_of_modes, sites_of_result, sites_of_body, sites_of_procedure, sites_of_process, sites_of_item, sites_of_items, locals_of_body, sites}
use Rattle.elaborated_laws.specs.Classes.{HasShortTexts}
use Rattle.written_laws.specs.Written.{Each, exprs_at, HasShortExprs, HasNamed, HasNamedExprs, DeclaresSome, ShortTextsLaw, PathsLaw, DeclarationsLaw}
use Rattle.written_laws.proofs.Shown.{Shown, none, skip, ends, both, before, behind, so, Shows, listed, each_append, each_any, each_map, each_flat, and_one}
use Rattle.written_laws.proofs.Tokens.{tokens_short}
use Rattle.written_laws.proofs.Sets.{each_more}
use Rattle.written_laws.proofs.ShownExpr.{IsSpelled, AreSpelled}
use Rattle.written_laws.proofs.ShownMode.{IsFilled, names_passed, closing_passed, mode_shown}
use Rattle.written_laws.proofs.ShownLocal.{IsSomeFilled, AreSomeFilled, IsShaped, Fine, fine_both, fine_before, elements_shaped, some_elements_shaped, names_shaped, local_shown}
use Rattle.written_laws.proofs.ShownStatement.{IsHandled, statement_shown, handler_shown, body_shown}

passed_by : {w : Passed} {toks rest : Toks} → IsPassed w toks rest → Shown (Unit {0}) toks rest
passed_by (pass_names d) = names_passed d
passed_by pass_all = skip none

-- nodes of modes have no expressions that are asked
modes_short : (ms : List ModeTree) → Each AreSpelled (map at_mode ms)
modes_short ms = each_map (λ m. Unit {0}) AreSpelled at_mode (λ m fits. tt) ms (each_any (λ m. Unit {0}) (λ m. tt) ms)

-- ---- signals

a_mode_shown : Shows IsFilled IsMode
a_mode_shown m toks rest d = mode_shown d

signal_parts_shown : {ms : Option (List ModeTree)} {toks rest : Toks} → AreSignalParts ms toks rest → Shown (AreSomeFilled ms) toks rest
signal_parts_shown no_signal_parts = none
signal_parts_shown (with_signal_parts d) = skip (skip (ends (listed IsFilled a_mode_shown d)))

receiver_passed : {t : Option Name} {toks rest : Toks} → IsClause words.To IsName t toks rest → Shown (Unit {0}) toks rest
receiver_passed no_clause = none
receiver_passed (with_clause is_name) = skip (skip none)

abbrev SignalIs : SignalTree → Type 0
SignalIs s = AreSomeFilled s.parts

signal_shown : Shows SignalIs IsSignal
signal_shown s toks rest (is_signal ms t) = skip (before (signal_parts_shown ms) (receiver_passed t))

signal_sites_short : (ms : Option (List ModeTree)) → Each AreSpelled (sites_of_modes ms)
signal_sites_short None = tt
signal_sites_short (Some ms) = modes_short ms

signal_shaped : (s : SignalTree) → SignalIs s → Each IsShaped (origins_of_signal s)
signal_shaped s is = (is, by_parts s.parts)
  where
    by_parts : (ms : Option (List ModeTree)) → Each IsShaped (elim ms [ None ↦ [] | Some ws ↦ flat_map (elements_of None) ws ])
    by_parts None = tt
    by_parts (Some ws) = each_flat (λ w. Unit {0}) IsShaped (elements_of None) (λ w fits. elements_shaped None (sets_in w)) ws (each_any (λ w. Unit {0}) (λ w. tt) ws)

signals_fine : (ss : List SignalTree) → Each SignalIs ss → Fine (flat_map (λ s. sites_of_modes s.parts) ss) (flat_map origins_of_signal ss)
signals_fine ss each = (each_flat SignalIs AreSpelled (λ s. sites_of_modes s.parts) (λ s is. signal_sites_short s.parts) ss each, each_flat SignalIs IsShaped origins_of_signal signal_shaped ss each)

-- ---- procedures and processes

passing_passed : {w : Option Passing} {toks rest : Toks} → IsPassing w toks rest → Shown (Unit {0}) toks rest
passing_passed no_passing = none
passing_passed pass_in = skip none
passing_passed pass_out = skip none
passing_passed pass_in_out = skip none

abbrev ParamIs : ParamTree → Type 0
ParamIs p = IsFilled p.mode

param_shown : Shows ParamIs IsParam
param_shown p toks rest (is_param ns o w) = behind (names_passed ns) (before (mode_shown o) (passing_passed w))

abbrev FormalIs : FormalTree → Type 0
FormalIs p = IsFilled p.mode

formal_shown : Shows FormalIs IsFormal
formal_shown p toks rest (is_formal ns o) = behind (names_passed ns) (mode_shown o)

within_shown : {A : Type 0} (P : A → Type 0) {Is : A → Toks → Toks → Type 0} → Shows P Is → {xs : List A} {toks rest : Toks} → AreWithin Is xs toks rest → Shown (Each P xs) toks rest
within_shown P shows none_within = skip none
within_shown P shows (some_within d) = ends (listed P shows d)

params_shaped : (ps : List ParamTree) → Each ParamIs ps → Each IsShaped (flat_map origins_of_param ps)
params_shaped ps each = each_flat ParamIs IsShaped origins_of_param (λ p is. names_shaped p.names (a_parameter p.mode) (elements_of None p.mode) is (elements_shaped None (sets_in p.mode))) ps each

formals_shaped : (ps : List FormalTree) → Each FormalIs ps → Each IsShaped (flat_map origins_of_formal ps)
formals_shaped ps each = each_flat FormalIs IsShaped origins_of_formal (λ p is. names_shaped p.names (a_parameter p.mode) (elements_of None p.mode) is (elements_shaped None (sets_in p.mode))) ps each

param_sites : (ps : List ParamTree) → Each AreSpelled (map (λ q. at_mode q.mode) ps)
param_sites ps = each_map (λ p. Unit {0}) AreSpelled (λ q. at_mode q.mode) (λ p fits. tt) ps (each_any (λ p. Unit {0}) (λ p. tt) ps)

formal_sites : (ps : List FormalTree) → Each AreSpelled (map (λ q. at_mode q.mode) ps)
formal_sites ps = each_map (λ p. Unit {0}) AreSpelled (λ q. at_mode q.mode) (λ p fits. tt) ps (each_any (λ p. Unit {0}) (λ p. tt) ps)

returns_shown : {o : Option ModeTree} {toks rest : Toks} → IsClause words.Returns IsResult o toks rest → Shown (IsSomeFilled o) toks rest
returns_shown no_clause = none
returns_shown (with_clause (is_result d)) = skip (skip (ends (mode_shown d)))

result_sites : (o : Option ModeTree) → Each AreSpelled (sites_of_result o)
result_sites None = tt
result_sites (Some m) = (tt, tt)

exceptions_passed : {es : Option (List Name)} {toks rest : Toks} → IsClause words.Exceptions AreExceptions es toks rest → Shown (Unit {0}) toks rest
exceptions_passed no_clause = none
exceptions_passed (with_clause (are_exceptions d)) = skip (skip (ends (names_passed d)))

block_shown : (a : Around) {n : Name} {ps : List BodyTree} {h : Option HandlerTree} {c : Option Name} {toks rest : Toks} → IsBlock n ps h c toks rest → Shown (Fine (sites_of_body a ps h) (origins_of_body ps h)) toks rest
block_shown a (is_block {ps = ps} {h = h} b k c) =
    so (λ p. fine_both (sites_of_parts a (body_nodes ps)) (sites_of_handler a (handler_node h)) (origins_in_parts (body_nodes ps)) (origins_in_handler (handler_node h)) p.0 p.1)
    (both (ends (body_shown a b)) (before (handler_shown a k) (ends (closing_passed c))))

procedure_fine : (p : ProcedureTree) → Each ParamIs p.params → IsSomeFilled p.returns → Fine (sites_of_body (in_procedure p) p.body p.handler) (origins_of_body p.body p.handler) → Fine (sites_of_procedure p) (origins_of_procedure p)
procedure_fine p params result body = let behind = at_body (Some p.name) (flat_map (λ q. q.names) p.params ++ locals_of_body p.body p.handler) ∷ sites_of_body (in_procedure p) p.body p.handler in (
  each_append AreSpelled (map (λ q. at_mode q.mode) p.params ++ sites_of_result p.returns) behind (each_append AreSpelled (map (λ q. at_mode q.mode) p.params) (sites_of_result p.returns) (param_sites p.params) (result_sites p.returns)) (tt, body.0),
  (
    result,
    each_append IsShaped (flat_map origins_of_param p.params ++ elements_of_some p.returns) (origins_of_body p.body p.handler) (each_append IsShaped (flat_map origins_of_param p.params) (elements_of_some p.returns) (params_shaped p.params params) (some_elements_shaped p.returns)) body.1,
  ),
)

procedure_shown : {x : ProcedureTree} {toks rest : Toks} → IsProcedure x toks rest → Shown (Fine (sites_of_procedure x) (origins_of_procedure x)) toks rest
procedure_shown {x = x} (is_procedure w r e d) =
    so (λ p. procedure_fine x p.0.0 p.0.1 p.1) (both (both (skip (skip (skip (skip (within_shown ParamIs param_shown w))))) (before (returns_shown r) (ends (exceptions_passed e)))) (block_shown (in_procedure x) d))

process_fine : (p : ProcessTree) → Each FormalIs p.formals → Fine (sites_of_body in_no_procedure p.body p.handler) (origins_of_body p.body p.handler) → Fine (sites_of_process p) (origins_of_process p)
process_fine p formals body = (
  each_append AreSpelled (map (λ q. at_mode q.mode) p.formals) (at_body (Some p.name) (flat_map (λ q. q.names) p.formals ++ locals_of_body p.body p.handler) ∷ sites_of_body in_no_procedure p.body p.handler) (formal_sites p.formals) (tt, body.0),
  (tt, each_append IsShaped (flat_map origins_of_formal p.formals) (origins_of_body p.body p.handler) (formals_shaped p.formals formals) body.1),
)

process_shown : {x : ProcessTree} {toks rest : Toks} → IsProcess x toks rest → Shown (Fine (sites_of_process x) (origins_of_process x)) toks rest
process_shown {x = x} (is_process w d) = so (λ p. process_fine x p.0 p.1) (both (skip (skip (skip (skip (ends (within_shown FormalIs formal_shown w)))))) (block_shown in_no_procedure d))

-- ---- items

kind_passed : {k : ModulionKind} {toks rest : Toks} → IsKind k toks rest → Shown (Unit {0}) toks rest
kind_passed is_module = skip none
kind_passed is_region = skip none

abbrev ItemIs : ItemTree → Type 0
ItemIs i = Fine (sites_of_item i) (origins_of_item i)

-- the items of a modulion of a kind, which has these
items_fine : (kind : ModulionKind) (all : ItemNodes) (is : List ItemTree) → Each ItemIs is → Fine (sites_of_items kind all (item_nodes is)) (origins_of_items (item_nodes is))
items_fine kind all [] each = (tt, tt)
items_fine kind all (i ∷ is) each =
    fine_both (at_item kind all i ∷ sites_of_item i) (sites_of_items kind all (item_nodes is)) (origins_of_item i) (origins_of_items (item_nodes is))
    (fine_before (at_item kind all i) (sites_of_item i) (origins_of_item i) tt each.0) (items_fine kind all is each.1)

modulion_fine : (m : ModulionTree) → Each ItemIs m.items → IsHandled in_no_procedure m.handler → ItemIs (modulion_item m)
modulion_fine m items handled =
    let both = fine_both (sites_of_items m.kind (item_nodes m.items) (item_nodes m.items)) (sites_of_handler in_no_procedure (handler_node m.handler)) (origins_of_items (item_nodes m.items)) (origins_in_handler (handler_node m.handler))
    (items_fine m.kind (item_nodes m.items) m.items items) handled in
    (both.0, (tt, both.1))

mutual
  item_shown : {i : ItemTree} {toks rest : Toks} → IsItem i toks rest → Shown (ItemIs i) toks rest
  item_shown (is_seize d) = so (λ p. (tt, tt)) (skip (ends (passed_by d)))
  item_shown (is_grant d) = so (λ p. (tt, tt)) (skip (ends (passed_by d)))
  item_shown (is_local_item d) = local_shown true d
  item_shown (are_signals {ss = ss} d) = skip (ends (so (signals_fine ss) (listed SignalIs signal_shown d)))
  item_shown (is_procedure_item d) = procedure_shown d
  item_shown (is_process_item d) = process_shown d
  item_shown (is_modulion_item d) = modulion_shown d
  item_shown (is_action d) = statement_shown in_no_procedure d

  items_shown : {is : List ItemTree} {toks rest : Toks} → AreItems is toks rest → Shown (Each ItemIs is) toks rest
  items_shown no_items = none
  items_shown (then_item {is = is} {i = i} l d) = and_one ItemIs is i (items_shown l) (item_shown d)

  modulion_shown : {x : ModulionTree} {toks rest : Toks} → IsModulion x toks rest → Shown (ItemIs (modulion_item x)) toks rest
  modulion_shown {x = x} (is_modulion k d e c) =
      skip (skip (behind (kind_passed k) (so (λ p. modulion_fine x p.0 p.1) (both (ends (items_shown d)) (before (handler_shown in_no_procedure e) (ends (closing_passed c)))))))

abbrev ModulionIs : ModulionTree → Type 0
ModulionIs m = ItemIs (modulion_item m)

modulions_shown : {xs : List ModulionTree} {toks rest : Toks} → AreModulions xs toks rest → Shown (Each ModulionIs xs) toks rest
modulions_shown no_modulions = none
modulions_shown (then_modulion {xs = xs} {x = x} l d) = and_one ModulionIs xs x (modulions_shown l) (modulion_shown d)

-- ---- the program

item_sites : (ms : List ModulionTree) → Each ModulionIs ms → Each AreSpelled (flat_map sites_of_item (map modulion_item ms))
item_sites [] each = tt
item_sites (m ∷ ms) each = each_append AreSpelled (sites_of_item (modulion_item m)) (flat_map sites_of_item (map modulion_item ms)) each.0.0 (item_sites ms each.1)

-- the nodes of a text, and its definitions
pub program_fine : (text : List ℕ) (t : ProgramTree) → HasTree text t → Fine (sites t) (text_origins t)
program_fine text t has = by_tree has.tree_of
  where
    by_tree : {x : ProgramTree} → IsTreeOf has.tokens x → Fine (sites x) (text_origins x)
    by_tree (is_tree {xs = xs} d some) =
        let each = ((modulions_shown d).by (tokens_short text has.tokens has.are)).0 in
        ((tt, (tt, item_sites xs each)), each_flat ModulionIs IsShaped (λ m. origins_of_item (modulion_item m)) (λ m is. is.1) xs each)

-- what is so of the expressions at nodes
exprs_so : (P : ExprTree → Type 0) → ((e : ExprTree) → IsSpelled e → P e) → (s : Site) → AreSpelled s → Each P (exprs_at s)
exprs_so P so (at_declaration shared d) spelled = each_more IsSpelled P so (some_expr (initial_expr d.initial)) spelled.0
exprs_so P so (at_item kind all i) spelled = tt
exprs_so P so (at_synonym s) spelled = (so s.value spelled.0, tt)
exprs_so P so (at_mode_definition d) spelled = tt
exprs_so P so (at_mode m) spelled = tt
exprs_so P so (at_simple a s) spelled = each_more IsSpelled P so (exprs_of_simple s ++ some_expr (priority_of s)) spelled
exprs_so P so (at_condition e) spelled = (so e spelled.0, tt)
exprs_so P so (at_selector e) spelled = (so e spelled.0, tt)
exprs_so P so (at_labels e ls) spelled = each_more IsSpelled P so (exprs_of_labels ls) spelled
exprs_so P so (at_control c) spelled = each_more IsSpelled P so (exprs_of_control c) spelled
exprs_so P so (at_set e) spelled = (so e spelled.0, tt)
exprs_so P so (at_priority e) spelled = (so e spelled.0, tt)
exprs_so P so (at_event earlier n) spelled = tt
exprs_so P so (at_source earlier n) spelled = tt
exprs_so P so (at_received n names) spelled = tt
exprs_so P so (at_exceptions earlier ns) spelled = tt
exprs_so P so (at_body n locals) spelled = tt
exprs_so P so (at_program shared) spelled = tt

pub short_texts : ShortTextsLaw
short_texts text t has = each_more AreSpelled HasShortExprs (exprs_so HasShortTexts (λ e spelled. spelled.0)) (sites t) (program_fine text t has).0

pub named_paths : PathsLaw
named_paths text t has = each_more AreSpelled HasNamedExprs (exprs_so HasNamed (λ e spelled. spelled.1)) (sites t) (program_fine text t has).0

declaration_named : (s : Site) → AreSpelled s → DeclaresSome s
declaration_named (at_declaration shared d) spelled = spelled.1
declaration_named s spelled = tt

pub declarations_named : DeclarationsLaw
declarations_named text t has = each_more AreSpelled DeclaresSome declaration_named (sites t) (program_fine text t has).0
