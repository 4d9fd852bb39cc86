-- The names of a routine's parameters are defined as parameters, so none of them is a counter.
use Rattle.std.proofs.Common.{◌≡◌, ℕ, zero, suc, ◌+◌, Bool, true, false, List, [], ◌∷◌, ◌++◌, inl, inr, append_assoc, Option, Some, None, refl, sym, ap, ◌∙◌, subst, arith, length, Contains}
use Rattle.std.specs.Prelude.{map, flat_map, slice_get, replicate, option_and_then}
use Rattle.std.proofs.lemmas.List.Elements.{Contains-append_left, Contains-append_right}
use Rattle.chill_base.specs.declared.pos.Pos.{Pos}
use Rattle.chill_tree.specs.declared.tree.name.Name.{Name}
use Rattle.chill_tree.specs.ModeTree as written
use Rattle.chill_tree.specs.LocalTree.{LocalTree, synonyms, syn_modes, new_modes, locations}
use Rattle.chill_tree.specs.SimpleTree.{ControlTree, while_holds, for_ever, for_members, for_steps}
use Rattle.chill_tree.specs.StatementTree.{StatementTree, BracketedTree, StatementNodes, ElsIfNodes, CaseNodes, NamedNodes, ReceiveNodes, OtherwiseNode, HandlerNode, BodyNodes, empty, simple, bracketed, if_then, case_of, do_loop, begin_end, delay_case, receive_case, no_statements, more_statements, no_branches, more_branches, no_cases, more_cases, no_named, more_named, no_receives, more_receives, no_otherwise, otherwise, no_handler, handler, no_parts, more_locals, more_actions, handler_node, body_nodes}
use Rattle.chill_tree.specs.ItemTree.{SignalTree, ParamTree, ProcedureTree, FormalTree, ProcessTree, ItemTree, ItemNodes, local_item, signals, procedure, process, action, no_items, more_items, ModulionTree, modulion_item, ProgramTree}
use Rattle.chill_tree.specs.ItemTree.{seize as seize_item, grant as grant_item, modulion as modulion_of}
use Rattle.names_model.specs.declared.definition.Definition.{Definition}
use Rattle.names_model.specs.declared.definition.Inside.{Inside}
use Rattle.names_model.specs.declared.definition.Inside.TheVariants.{Outermost, Modulion, Body}
use Rattle.names_model.specs.declared.kind.Kind.TheVariants as kinds
use Rattle.names_model.specs.declared.identifier.Identifier.{Identifier}
use Rattle.names_model.specs.declared.names.Resolved.{Resolved}
use Rattle.names_model.specs.declared.part.Mention.{Mention}
use Rattle.names_model.specs.Identifiers.{identifier}
use Rattle.names_model.specs.ModeMentions.{mentions_of_mode, mentions_of_some_mode}
use Rattle.names_model.specs.Parts.{PartTree, part_nodes}
use Rattle.names_model.specs.Sizes.{elements_in, head_size, size_of}
use Rattle.names_model.specs.Definitions.{with_predefined, predefined, defined, elements_defined, names_defined, params_defined, definitions_of, definitions_in, text_definitions, numbers_on}
use Rattle.names_model.specs.StatementParts.{clause, local_parts, statement_parts, handler_parts}
use Rattle.names_model.specs.ItemParts.{seized, granted, signal_parts, param_clause, formal_clause, whole_body, item_parts, each_item, program_parts}
use Rattle.names_model.specs.Resolving.{level_of}
use Rattle.names_laws.specs.Rising.{Rise, use_places, definition_places}
use Rattle.names_laws.proofs.RisingTokens.{rising_tokens}
use Rattle.names_laws.proofs.RisingDefinitions.{rising_definitions}
use Rattle.names_laws.proofs.Members.{none_in, here_in, later_in, in_cases, in_flat_map}
use Rattle.ground_laws.proofs.Rows.{row_found}
use Rattle.ground_laws.proofs.Defining.{origins_define}
use Rattle.checks_model.specs.Ground.{Ground, Entry, Origin, a_synonym, a_mode, an_element, a_location, a_parameter, a_counter, a_received, a_procedure, a_process, a_signal, a_modulion, a_predefined, number_at, origin_of}
use Rattle.checks_model.specs.Origins.{sets_in, elements, elements_of, elements_of_some, origins_of_names, origins_of_synonym, owner_of, origins_of_mode, origins_of_declaration, origins_of_local, counters_in, received_in, origins_in, origins_in_bracketed, origins_in_each, origins_in_branches, origins_in_cases, origins_in_named, origins_in_receives, origins_in_otherwise, origins_in_handler, origins_in_parts, origins_of_signal, origins_of_param, origins_of_formal, origins_of_item, origins_of_items, in_both_cases, predefined_origins, text_origins, origins_of}
use Rattle.checks_model.specs.Table.{ground_with, numbered}
use Rattle.checks_model.specs.Diagnoses.{HasNames}
use Rattle.table_laws.specs.Frames.{parameters_of}
use Rattle.elaborated_laws.proofs.Told.{same_some}
use Rattle.written_laws.specs.Written.{Each}
use Rattle.written_laws.proofs.Shown.{each_append, each_map, each_any, each_flat, each_same}
use Rattle.written_laws.proofs.WrittenSo.{each_predefined}
use Rattle.order_laws.specs.Texts.{is_counter}
use Rattle.order_laws.proofs.Selves.{definition_there, got_append}

-- ---- among definitions

-- a name is defined as a parameter
abbrev pub IsParamOf : List Definition → Name → Type 0
IsParamOf ds n = (x : Definition) × (Contains ds x × ((x.kind ≡ kinds.Parameter) × (x.name ≡ identifier n)))

-- those of a routine are
abbrev pub HasParams : List Definition → Origin → Type 0
HasParams ds o = Each (IsParamOf ds) (parameters_of (Some o))

each_weaken : {A : Type 0} (P Q : A → Type 0) → ((x : A) → P x → Q x) → (xs : List A) → Each P xs → Each Q xs
each_weaken P Q of [] all = tt
each_weaken P Q of (x ∷ xs) all = (of x all.0, each_weaken P Q of xs all.1)

param_wider : (ds es : List Definition) → ((x : Definition) → Contains ds x → Contains es x) → (n : Name) → IsParamOf ds n → IsParamOf es n
param_wider ds es wider n is = (is.0, (wider is.0 is.1.0, is.1.1))

params_wider : (ds es : List Definition) → ((x : Definition) → Contains ds x → Contains es x) → (o : Origin) → HasParams ds o → HasParams es o
params_wider ds es wider o has = each_weaken (IsParamOf ds) (IsParamOf es) (param_wider ds es wider) (parameters_of (Some o)) has

-- what has no parameters
abbrev IsPlain : Origin → Type 0
IsPlain o = parameters_of (Some o) ≡ []

plain_has : (ds : List Definition) (o : Origin) → IsPlain o → HasParams ds o
plain_has ds o is = subst (λ ns. Each (IsParamOf ds) ns) (sym is) tt

-- what parts define, and others behind them
definitions_split : (inside : Inside) (from : ℕ) (ps qs : List PartTree)
    → (k : ℕ) × (definitions_in inside from (part_nodes (ps ++ qs)) ≡ definitions_in inside from (part_nodes ps) ++ definitions_in inside k (part_nodes qs))
definitions_split inside from [] qs = (from, refl)
definitions_split inside from (p ∷ ps) qs =
    let h = definitions_split inside (from + size_of p) ps qs in
    (h.0, ap (λ ds. definitions_of inside from p ++ ds) h.1 ∙ sym (append_assoc (definitions_of inside from p) (definitions_in inside (from + size_of p) (part_nodes ps)) (definitions_in inside h.0 (part_nodes qs))))

record Having (os : List Origin) (ps : List PartTree) : Type 0 where
  has : (inside : Inside) (from : ℕ) → Each (HasParams (definitions_in inside from (part_nodes ps))) os

plain_having : (os : List Origin) (ps : List PartTree) → Each IsPlain os → Having os ps
plain_having os ps plain = record { has = λ inside from. each_weaken IsPlain (HasParams (definitions_in inside from (part_nodes ps))) (plain_has (definitions_in inside from (part_nodes ps))) os plain }

both_having : (os us : List Origin) (ps qs : List PartTree) → Having os ps → Having us qs → Having (os ++ us) (ps ++ qs)
both_having os us ps qs one other = record {
  has = λ inside from.
      let split = definitions_split inside from ps qs in
      let ds = definitions_in inside from (part_nodes ps) in
      let es = definitions_in inside split.0 (part_nodes qs) in
      subst (λ xs. Each (HasParams xs) (os ++ us)) (sym split.1)
      (each_append (HasParams (ds ++ es)) os us
      (each_weaken (HasParams ds) (HasParams (ds ++ es)) (params_wider ds (ds ++ es) (λ x c. Contains-append_left ds es x c)) os (one.has inside from))
      (each_weaken (HasParams es) (HasParams (ds ++ es)) (params_wider es (ds ++ es) (λ x c. Contains-append_right ds es x c)) us (other.has inside split.0)));
}

-- ---- what defines no routine

elements_plain : (owner : Option (Name × Bool)) (sets : List (List Name)) → Each IsPlain (flat_map (elements owner) sets)
elements_plain owner sets =
    each_flat (λ ns. Unit {0}) IsPlain (elements owner) (λ ns fits. each_map (λ k. Unit {0}) IsPlain (λ part. an_element ns part owner) (λ k fits. refl) (numbers_on 0 (length ns)) (each_any (λ k. Unit {0}) (λ k. tt) (numbers_on 0 (length ns)))) sets
    (each_any (λ ns. Unit {0}) (λ ns. tt) sets)

some_plain : (w : Option written.ModeTree) → Each IsPlain (elements_of_some w)
some_plain None = tt
some_plain (Some w) = elements_plain None (sets_in w)

names_plain : (ns : List Name) (o : Origin) (inside : List Origin) → IsPlain o → Each IsPlain inside → Each IsPlain (origins_of_names ns o inside)
names_plain ns o inside own rest = each_append IsPlain (replicate (length ns) o) inside (each_same IsPlain (length ns) o own) rest

each_plain : {A : Type 0} (g : A → List Origin) (xs : List A) → ((x : A) → Each IsPlain (g x)) → Each IsPlain (flat_map g xs)
each_plain g xs fits = each_flat (λ x. Unit {0}) IsPlain g (λ x is. fits x) xs (each_any (λ x. Unit {0}) (λ x. tt) xs)

local_plain : (l : LocalTree) → Each IsPlain (origins_of_local l)
local_plain (synonyms at ss) = each_plain origins_of_synonym ss (λ s. names_plain s.names (a_synonym s) (elements_of_some s.mode) refl (some_plain s.mode))
local_plain (syn_modes at ds) = each_plain (origins_of_mode false) ds (λ d. (refl, elements_plain (owner_of false d) (sets_in d.mode)))
local_plain (new_modes at ds) = each_plain (origins_of_mode true) ds (λ d. (refl, elements_plain (owner_of true d) (sets_in d.mode)))
local_plain (locations at ds) = each_plain origins_of_declaration ds (λ d. names_plain d.names (a_location d) (elements_of None d.mode) refl (elements_plain None (sets_in d.mode)))

received_plain : (n : Name) (r : Option (List Name)) → Each IsPlain (received_in n r)
received_plain n None = tt
received_plain n (Some ns) = each_map (λ k. Unit {0}) IsPlain (a_received n (length ns)) (λ k fits. refl) (numbers_on 0 (length ns)) (each_any (λ k. Unit {0}) (λ k. tt) (numbers_on 0 (length ns)))

counters_plain : (c : ControlTree) → Each IsPlain (counters_in c)
counters_plain (while_holds at e) = tt
counters_plain (for_ever at) = tt
counters_plain (for_members at n s c) = (refl, tt)
counters_plain (for_steps at n s b down e c) = (refl, tt)

two : (os us : List Origin) → Each IsPlain os → Each IsPlain us → Each IsPlain (os ++ us)
two os us one other = each_append IsPlain os us one other

mutual
  statement_plain : (s : StatementTree) → Each IsPlain (origins_in s)
  statement_plain (empty at) = tt
  statement_plain (simple at a h) = handler_plain h
  statement_plain (bracketed at l a h closing) = two (origins_in_bracketed a) (origins_in_handler h) (bracketed_plain a) (handler_plain h)

  bracketed_plain : (a : BracketedTree) → Each IsPlain (origins_in_bracketed a)
  bracketed_plain (if_then at c ss bs o) =
      two (origins_in_each ss ++ origins_in_branches bs) (origins_in_otherwise o) (two (origins_in_each ss) (origins_in_branches bs) (each_statement ss) (branches_plain bs)) (otherwise_plain o)
  bracketed_plain (case_of at e as' o) = two (origins_in_cases as') (origins_in_otherwise o) (cases_plain as') (otherwise_plain o)
  bracketed_plain (do_loop at c ss) = two (counters_in c) (origins_in_each ss) (counters_plain c) (each_statement ss)
  bracketed_plain (begin_end at ps) = body_plain ps
  bracketed_plain (delay_case at set p as') = named_plain as'
  bracketed_plain (receive_case at set as' o) = two (origins_in_receives as') (origins_in_otherwise o) (receives_plain as') (otherwise_plain o)

  each_statement : (ss : StatementNodes) → Each IsPlain (origins_in_each ss)
  each_statement no_statements = tt
  each_statement (more_statements s ss) = two (origins_in s) (origins_in_each ss) (statement_plain s) (each_statement ss)

  branches_plain : (bs : ElsIfNodes) → Each IsPlain (origins_in_branches bs)
  branches_plain no_branches = tt
  branches_plain (more_branches at c ss bs) = two (origins_in_each ss) (origins_in_branches bs) (each_statement ss) (branches_plain bs)

  cases_plain : (as' : CaseNodes) → Each IsPlain (origins_in_cases as')
  cases_plain no_cases = tt
  cases_plain (more_cases at ls ss as') = two (origins_in_each ss) (origins_in_cases as') (each_statement ss) (cases_plain as')

  named_plain : (as' : NamedNodes) → Each IsPlain (origins_in_named as')
  named_plain no_named = tt
  named_plain (more_named at ns ss as') = two (origins_in_each ss) (origins_in_named as') (each_statement ss) (named_plain as')

  receives_plain : (as' : ReceiveNodes) → Each IsPlain (origins_in_receives as')
  receives_plain no_receives = tt
  receives_plain (more_receives at n r ss as') = two (received_in n r ++ origins_in_each ss) (origins_in_receives as') (two (received_in n r) (origins_in_each ss) (received_plain n r) (each_statement ss)) (receives_plain as')

  otherwise_plain : (o : OtherwiseNode) → Each IsPlain (origins_in_otherwise o)
  otherwise_plain no_otherwise = tt
  otherwise_plain (otherwise ss) = each_statement ss

  handler_plain : (h : HandlerNode) → Each IsPlain (origins_in_handler h)
  handler_plain no_handler = tt
  handler_plain (handler at as' o) = two (origins_in_named as') (origins_in_otherwise o) (named_plain as') (otherwise_plain o)

  body_plain : (ps : BodyNodes) → Each IsPlain (origins_in_parts ps)
  body_plain no_parts = tt
  body_plain (more_locals l ps) = two (origins_of_local l) (origins_in_parts ps) (local_plain l) (body_plain ps)
  body_plain (more_actions s ps) = two (origins_in s) (origins_in_parts ps) (statement_plain s) (body_plain ps)

signal_plain : (s : SignalTree) → Each IsPlain (origins_of_signal s)
signal_plain s = (refl, by s.parts)
  where
    by : (ws : Option (List written.ModeTree)) → Each IsPlain (elim ws [ None ↦ [] | Some ms ↦ flat_map (elements_of None) ms ])
    by None = tt
    by (Some ms) = each_plain (elements_of None) ms (λ w. elements_plain None (sets_in w))

params_plain : (ps : List ParamTree) → Each IsPlain (flat_map origins_of_param ps)
params_plain ps = each_plain origins_of_param ps (λ p. names_plain p.names (a_parameter p.mode) (elements_of None p.mode) refl (elements_plain None (sets_in p.mode)))

formals_plain : (ps : List FormalTree) → Each IsPlain (flat_map origins_of_formal ps)
formals_plain ps = each_plain origins_of_formal ps (λ p. names_plain p.names (a_parameter p.mode) (elements_of None p.mode) refl (elements_plain None (sets_in p.mode)))

-- ---- routines

names_params : (inside : Inside) (ms : List Mention) (ns : List Name) → Each (IsParamOf (names_defined inside (clause kinds.Parameter ns ms))) ns
names_params inside ms [] = tt
names_params inside ms (n ∷ ns) =
    let rest = names_defined inside (clause kinds.Parameter ns ms) in
    let own : Definition = record { name = identifier n; kind = kinds.Parameter; inside = inside; elements = 0 } in (
      (own, (here_in own rest own refl, (refl, refl))),
      each_weaken (IsParamOf rest) (IsParamOf (own ∷ rest)) (param_wider rest (own ∷ rest) (λ x c. later_in own rest x c)) ns (names_params inside ms ns),
    )

clauses_params : {P : Type 0} (names : P → List Name) (mode : P → written.ModeTree) (around body : Inside) (ps : List P)
    → Each (IsParamOf (params_defined around body (map (λ p. clause kinds.Parameter (names p) (mentions_of_mode (mode p))) ps))) (flat_map names ps)
clauses_params names mode around body [] = tt
clauses_params names mode around body (p ∷ ps) =
    let ms = mentions_of_mode (mode p) in
    let own = names_defined body (clause kinds.Parameter (names p) ms) in
    let inner = elements_defined around (elements_in ms) in
    let rest = params_defined around body (map (λ p. clause kinds.Parameter (names p) (mentions_of_mode (mode p))) ps) in
    each_append (IsParamOf ((own ++ inner) ++ rest)) (names p) (flat_map names ps)
    (each_weaken (IsParamOf own) (IsParamOf ((own ++ inner) ++ rest)) (param_wider own ((own ++ inner) ++ rest) (λ x c. Contains-append_left (own ++ inner) rest x (Contains-append_left own inner x c))) (names p) (names_params body ms (names p)))
    (each_weaken (IsParamOf rest) (IsParamOf ((own ++ inner) ++ rest)) (param_wider rest ((own ++ inner) ++ rest) (λ x c. Contains-append_right (own ++ inner) rest x c)) (flat_map names ps) (clauses_params names mode around body ps))

-- a routine's own definition, its parameters and what follows them
in_routine : (own : Definition) (params result body : List Definition) (x : Definition) → Contains params x → Contains (((own ∷ params ++ result) ++ body) ++ []) x
in_routine own params result body x c =
    Contains-append_left ((own ∷ params ++ result) ++ body) [] x (Contains-append_left (own ∷ params ++ result) body x (Contains-append_left (own ∷ params) result x (later_in own params x c)))

procedure_has : (p : ProcedureTree) → Having (origins_of_item (procedure p)) (item_parts (procedure p))
procedure_has p = record {
  has = λ inside from.
      let cs = map param_clause p.params in
      let params = params_defined inside (Body from) cs in
      let result = mentions_of_some_mode p.returns in
      let body = definitions_in (Body from) (from + head_size cs result) (part_nodes (whole_body p.body p.handler)) in
      let ds = ((defined inside kinds.Procedure (identifier p.name) ∷ params ++ elements_defined inside (elements_in result)) ++ body) ++ [] in (
        each_weaken (IsParamOf params) (IsParamOf ds) (param_wider params ds (λ x c. in_routine (defined inside kinds.Procedure (identifier p.name)) params (elements_defined inside (elements_in result)) body x c)) (flat_map (λ q. q.names) p.params)
            (clauses_params (λ (q : ParamTree). q.names) (λ (q : ParamTree). q.mode) inside (Body from) p.params),
        each_weaken IsPlain (HasParams ds) (plain_has ds) ((flat_map origins_of_param p.params ++ elements_of_some p.returns) ++ (origins_in_parts (body_nodes p.body) ++ origins_in_handler (handler_node p.handler)))
            (two (flat_map origins_of_param p.params ++ elements_of_some p.returns) (origins_in_parts (body_nodes p.body) ++ origins_in_handler (handler_node p.handler)) (two (flat_map origins_of_param p.params) (elements_of_some p.returns) (params_plain p.params) (some_plain p.returns))
            (two (origins_in_parts (body_nodes p.body)) (origins_in_handler (handler_node p.handler)) (body_plain (body_nodes p.body)) (handler_plain (handler_node p.handler)))),
      );
}

process_has : (p : ProcessTree) → Having (origins_of_item (process p)) (item_parts (process p))
process_has p = record {
  has = λ inside from.
      let cs = map formal_clause p.formals in
      let params = params_defined inside (Body from) cs in
      let body = definitions_in (Body from) (from + head_size cs []) (part_nodes (whole_body p.body p.handler)) in
      let ds = ((defined inside kinds.Process (identifier p.name) ∷ params ++ []) ++ body) ++ [] in (
        each_weaken (IsParamOf params) (IsParamOf ds) (param_wider params ds (λ x c. in_routine (defined inside kinds.Process (identifier p.name)) params [] body x c)) (flat_map (λ q. q.names) p.formals)
            (clauses_params (λ (q : FormalTree). q.names) (λ (q : FormalTree). q.mode) inside (Body from) p.formals),
        each_weaken IsPlain (HasParams ds) (plain_has ds) (flat_map origins_of_formal p.formals ++ (origins_in_parts (body_nodes p.body) ++ origins_in_handler (handler_node p.handler)))
            (two (flat_map origins_of_formal p.formals) (origins_in_parts (body_nodes p.body) ++ origins_in_handler (handler_node p.handler)) (formals_plain p.formals)
            (two (origins_in_parts (body_nodes p.body)) (origins_in_handler (handler_node p.handler)) (body_plain (body_nodes p.body)) (handler_plain (handler_node p.handler)))),
      );
}

mutual
  item_has : (i : ItemTree) → Having (origins_of_item i) (item_parts i)
  item_has (seize_item at w) = plain_having [] (seized w) tt
  item_has (grant_item at w) = plain_having [] (granted w) tt
  item_has (local_item l) = plain_having (origins_of_local l) (local_parts l) (local_plain l)
  item_has (signals at ss) = plain_having (flat_map origins_of_signal ss) (flat_map signal_parts ss) (each_plain origins_of_signal ss signal_plain)
  item_has (procedure p) = procedure_has p
  item_has (process p) = process_has p
  item_has (modulion_of n kind items h closing) = record {
    has = λ inside from.
        let ps = each_item items ++ handler_parts [] (handler_node h) in
        let os = origins_of_items items ++ origins_in_handler (handler_node h) in
        let inner = definitions_in (Modulion from) (suc from) (part_nodes ps) in
        let own = defined inside kinds.Modulion (identifier n) in
        let ds = (own ∷ inner) ++ [] in
        let all = both_having (origins_of_items items) (origins_in_handler (handler_node h)) (each_item items) (handler_parts [] (handler_node h)) (items_have items) (plain_having (origins_in_handler (handler_node h)) (handler_parts [] (handler_node h)) (handler_plain (handler_node h))) in
        (tt, each_weaken (HasParams inner) (HasParams ds) (params_wider inner ds (λ x c. Contains-append_left (own ∷ inner) [] x (later_in own inner x c))) os (all.has (Modulion from) (suc from)));
  }
  item_has (action s) = plain_having (origins_in s) (statement_parts [] s) (statement_plain s)

  items_have : (is : ItemNodes) → Having (origins_of_items is) (each_item is)
  items_have no_items = plain_having [] [] tt
  items_have (more_items i is) = both_having (origins_of_item i) (origins_of_items is) (item_parts i) (each_item is) (item_has i) (items_have is)

modulions_have : (ms : List ModulionTree) → Having (flat_map (λ m. origins_of_item (modulion_item m)) ms) (flat_map (λ m. item_parts (modulion_item m)) ms)
modulions_have [] = plain_having [] [] tt
modulions_have (m ∷ ms) =
    both_having (origins_of_item (modulion_item m)) (flat_map (λ m. origins_of_item (modulion_item m)) ms) (item_parts (modulion_item m)) (flat_map (λ m. item_parts (modulion_item m)) ms) (item_has (modulion_item m)) (modulions_have ms)

text_has : (t : ProgramTree) → Each (HasParams (text_definitions (level_of t))) (text_origins t)
text_has t = (modulions_have t.modulions).has Outermost 0

-- ---- by their numbers

numbered_places : (k : ℕ) (ds : List Definition) → use_places (numbered k ds) ≡ definition_places ds
numbered_places k [] = refl
numbered_places k (d ∷ ds) = ap (λ ps. d.name.at ∷ ps) (numbered_places (suc k) ds)

abbrev row_to : Definition → ℕ → Resolved
row_to d k = record { at = d.name.at; to = k }

-- a definition stands under some number
record Stands (ds : List Definition) (from : ℕ) (x : Definition) : Type 0 where
  number : ℕ
  got : slice_get ds number ≡ Some x
  row : Contains (numbered from ds) (row_to x (from + number))

stands : (ds : List Definition) (from : ℕ) (x : Definition) → Contains ds x → Stands ds from x
stands [] from x c = absurd (none_in x c)
stands (d ∷ ds) from x c = elim (in_cases d ds x c) [
  | inl is ↦ record {
    number = 0;
    got = ap Some is;
    row = here_in (row_to d from) (numbered (suc from) ds) (row_to x (from + 0)) (ap (λ y. row_to y from) is ∙ ap (row_to x) (let same : from ≡ from + 0 = omega arith in same));
  }
  | inr there ↦ (let rest = stands ds (suc from) x there in record {
    number = suc rest.number;
    got = rest.got;
    row = later_in (row_to d from) (numbered (suc from) ds) (row_to x (from + suc rest.number)) (subst (λ j. Contains (numbered (suc from) ds) (row_to x j)) (let same : suc from + rest.number ≡ from + suc rest.number = omega arith in same) rest.row);
  })
]

got_more : {A : Type 0} (xs ys : List A) (k : ℕ) (x : A) → slice_get xs k ≡ Some x → slice_get (xs ++ ys) k ≡ Some x
got_more [] ys k x is = cc
got_more (y ∷ xs) ys zero x is = is
got_more (y ∷ xs) ys (suc k) x is = got_more xs ys k x is

not_counter : (o : Option Origin) (d : Definition) → d.kind ≡ kinds.Parameter → ((c : ControlTree) → o ≡ Some (a_counter c) → d.kind ≡ kinds.Counter) → is_counter o ≡ false
not_counter (Some (a_counter c)) d is counts = let same : kinds.Counter ≡ kinds.Parameter = sym (counts c refl) ∙ is in cc
not_counter None d is counts = refl
not_counter (Some (a_synonym s)) d is counts = refl
not_counter (Some (a_mode novel m)) d is counts = refl
not_counter (Some (an_element ns part owner)) d is counts = refl
not_counter (Some (a_location l)) d is counts = refl
not_counter (Some (a_parameter m)) d is counts = refl
not_counter (Some (a_received n count part)) d is counts = refl
not_counter (Some (a_procedure p)) d is counts = refl
not_counter (Some (a_process p)) d is counts = refl
not_counter (Some (a_signal s)) d is counts = refl
not_counter (Some (a_modulion kind items)) d is counts = refl
not_counter (Some (a_predefined p)) d is counts = refl

language_plain : Each IsPlain predefined_origins
language_plain = each_flat (λ p. Unit {0}) IsPlain in_both_cases (λ p fits. (refl, (refl, tt))) each_predefined (each_any (λ p. Unit {0}) (λ p. tt) each_predefined)

each_member : {A : Type 0} (P : A → Type 0) (xs : List A) (x : A) → Each P xs → Contains xs x → P x
each_member P [] x all c = absurd (none_in x c)
each_member P (y ∷ xs) x all c = elim (in_cases y xs x c) [
  | inl is ↦ subst P is all.0
  | inr there ↦ each_member P xs x all.1 there
]

module _ (txt : List ℕ) (t : ProgramTree) (es : List Entry) (has : HasNames txt t) where
  -- what a parameter's name defines is no counter
  param_apart : (n : Name) → IsParamOf (text_definitions (level_of t)) n → (d : ℕ) → number_at (ground_with t es).defined n.at ≡ Some d → is_counter (slice_get (origins_of t) d) ≡ false
  param_apart n is d number =
      let ds = text_definitions (level_of t) in
      let x = is.0 in
      let at = stands ds 0 x is.1.0 in
      let tokens = has.has_tree in
      let rise = rising_definitions tokens.tokens t (rising_tokens txt tokens.tokens tokens.are) tokens.tree_of in
      let same : 0 + at.number ≡ at.number = omega arith in
      let found : number_at (numbered 0 ds) x.name.at ≡ Some at.number = row_found (numbered 0 ds) (row_to x at.number) (subst Rise (sym (numbered_places 0 ds)) rise) (subst (λ j. Contains (numbered 0 ds) (row_to x j)) same at.row) in
      let place : x.name.at ≡ n.at = ap (λ (i : Identifier). i.at) is.1.1.1 in
      let one : at.number ≡ d = same_some at.number d (sym found ∙ ap (number_at (numbered 0 ds)) place ∙ number) in
      let got : slice_get (with_predefined ds) d ≡ Some x = subst (λ k. slice_get (with_predefined ds) k ≡ Some x) one (got_more ds predefined at.number x at.got) in
      not_counter (slice_get (origins_of t) d) x is.1.1.0 (λ c counts. let there = definition_there (origins_of t) (with_predefined ds) d (a_counter c) (origins_define t) counts in ap (λ (y : Definition). y.kind) (same_some x there.0 (sym got ∙ there.1.0)) ∙ there.1.1.0)

  each_of : (os : List Origin) (d : ℕ) (o : Origin) → Each (HasParams (text_definitions (level_of t))) os → slice_get os d ≡ Some o → HasParams (text_definitions (level_of t)) o
  each_of [] d o all is = cc
  each_of (p ∷ os) zero o all is = subst (HasParams (text_definitions (level_of t))) (same_some p o is) all.0
  each_of (p ∷ os) (suc d) o all is = each_of os d o all.1 is

  each_in : (ns : List Name) (n : Name) → Each (IsParamOf (text_definitions (level_of t))) ns → Contains ns n → IsParamOf (text_definitions (level_of t)) n
  each_in [] n all c = absurd (none_in n c)
  each_in (m ∷ ns) n all c = elim (in_cases m ns n c) [
    | inl is ↦ subst (IsParamOf (text_definitions (level_of t))) is all.0
    | inr there ↦ each_in ns n all.1 there
  ]

  -- the parameters of what a name stands for are no counters
  params_apart : (o : Option Origin) (e : ℕ) (n : Name) → slice_get (origins_of t) e ≡ o → Contains (parameters_of o) n → (d : ℕ) → number_at (ground_with t es).defined n.at ≡ Some d → is_counter (slice_get (origins_of t) d) ≡ false
  params_apart None e n at c d number = absurd (none_in n c)
  params_apart (Some o) e n at c d number = elim (got_append (text_origins t) predefined_origins e o at) [
    | inl own ↦ param_apart n (each_in (parameters_of (Some o)) n (each_of (text_origins t) e o (text_has t) own) c) d number
    | inr language ↦ absurd (none_in n (subst (λ ns. Contains ns n) (each_member IsPlain predefined_origins o language_plain language) c))
  ]

  by_number : (k : Option ℕ) (p : Name) → Contains (parameters_of (option_and_then (slice_get (origins_of t)) k)) p → (d : ℕ) → number_at (ground_with t es).defined p.at ≡ Some d → is_counter (slice_get (origins_of t) d) ≡ false
  by_number None p c d number = absurd (none_in p c)
  by_number (Some e) p c d number = params_apart (slice_get (origins_of t) e) e p refl c d number

-- the parameters of what a name stands for are no counters
pub params_are_apart : (txt : List ℕ) (t : ProgramTree) (g : Ground) → HasNames txt t → ground_with t g.entries ≡ g
    → (n p : Name) → Contains (parameters_of (origin_of g n)) p → (d : ℕ) → number_at g.defined p.at ≡ Some d → is_counter (slice_get g.origins d) ≡ false
params_are_apart txt t g has is =
    subst (λ (h : Ground). (n p : Name) → Contains (parameters_of (origin_of h n)) p → (d : ℕ) → number_at h.defined p.at ≡ Some d → is_counter (slice_get h.origins d) ≡ false) is
    (λ n p. by_number txt t g.entries has (number_at (ground_with t g.entries).uses n.at) p)
