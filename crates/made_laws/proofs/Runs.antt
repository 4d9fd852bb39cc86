-- What a RECEIVE CASE receives is defined in one place, one name behind the other.
use Rattle.std.proofs.Common.{◌≡◌, ℕ, zero, suc, ◌+◌, Bool, false, true, List, [], ◌∷◌, ◌++◌, length, length-append, Option, Some, None, refl, sym, ap, ◌∙◌, subst, arith, append_assoc, append-nil}
use Rattle.std.specs.Prelude.{map, flat_map, slice_get}
use Rattle.chill_tree.specs.declared.tree.name.Name.{Name}
use Rattle.chill_tree.specs.declared.tree.item.ModulionKind.{ModulionKind}
use Rattle.chill_tree.specs.ExprTree.{ExprTree}
use Rattle.chill_tree.specs.ModeTree as written
use Rattle.chill_tree.specs.LocalTree.{LocalTree, synonyms, syn_modes, new_modes, locations}
use Rattle.chill_tree.specs.StatementTree.{StatementTree, BracketedTree, StatementNodes, ElsIfNodes, CaseNodes, NamedNodes, ReceiveNodes, OtherwiseNode, HandlerNode, BodyNodes, BodyTree, HandlerTree, empty, simple, bracketed, if_then, case_of, do_loop, begin_end, delay_case, receive_case, no_statements, more_statements, no_branches, more_branches, no_cases, more_cases, no_named, more_named, no_receives, more_receives, no_otherwise, otherwise, no_handler, handler, no_parts, more_locals, more_actions, handler_node, body_nodes}
use Rattle.chill_tree.specs.ItemTree.{SignalTree, ParamTree, ProcedureTree, FormalTree, ProcessTree, ItemTree, ItemNodes, local_item, signals, procedure, process, action, no_items, more_items, ModulionTree, modulion_item}
use Rattle.chill_tree.specs.ItemTree.{seize as seize_item, grant as grant_item, modulion as modulion_of}
use Rattle.names_model.specs.declared.identifier.Identifier.{Identifier}
use Rattle.names_model.specs.declared.kind.Kind.{Kind}
use Rattle.names_model.specs.declared.kind.Kind.TheVariants as kinds
use Rattle.names_model.specs.declared.definition.Inside.{Inside}
use Rattle.names_model.specs.declared.definition.Inside.TheVariants.{Modulion, Body}
use Rattle.names_model.specs.declared.definition.Definition.{Definition}
use Rattle.names_model.specs.declared.part.Mention.{Mention}
use Rattle.names_model.specs.declared.part.Clause.{Clause}
use Rattle.names_model.specs.Identifiers.{identifier, identifiers}
use Rattle.names_model.specs.Parts.{PartTree, routine, part_nodes}
use Rattle.names_model.specs.Sizes.{elements_in, head_size, sizes_of, block_of}
use Rattle.names_model.specs.Definitions.{within, defined, elements_defined, params_defined, definitions_in}
use Rattle.names_model.specs.declared.kind.Need.TheVariants as needs
use Rattle.names_model.specs.ExprMentions.{used, mentions_of, mentions_of_some, mentions_of_ranges}
use Rattle.names_model.specs.ModeMentions.{mentions_of_mode, mentions_of_some_mode}
use Rattle.names_model.specs.StatementParts.{clause, mentioned, labelled, local_parts, received_parts, simple_parts, control_parts, turn_parts, statement_parts, bracketed_parts, action_parts, branch_parts, case_parts, event_parts, receive_parts, otherwise_parts, handler_parts, exception_parts, body_parts}
use Rattle.names_model.specs.ItemParts.{whole_body, item_parts, each_item}
use Rattle.checks_model.specs.Sites.{Site, Around, in_procedure, in_no_procedure, at_item, at_synonym, at_mode_definition, at_declaration, at_mode, at_simple, at_condition, at_selector, at_labels, at_control, at_set, at_priority, at_source, at_received, at_exceptions, at_body, some_site, events_listed, sites_of_local, sites_of, sites_of_bracketed, sites_of_each, sites_of_branches, sites_of_cases, sites_of_events, sites_of_receives, sites_of_otherwise, sites_of_handler, sites_of_exceptions, sites_of_parts, sites_of_modes, sites_of_result, sites_of_body, sites_of_procedure, sites_of_process, sites_of_item, sites_of_items, locals_of_body}
use Rattle.written_laws.specs.Written.{Each}
use Rattle.written_laws.proofs.Shown.{each_append, each_map, each_any}
use Rattle.written_laws.proofs.Sets.{each_more}
use Rattle.program_laws.proofs.DefinitionNames.{definitions_split}

-- ---- runs

-- these names are defined one behind the other, from a number on, all in one place
abbrev pub AreRun : List Definition → Inside → ℕ → List Name → Type 0
AreRun ds around k [] = Unit {0}
AreRun ds around k (n ∷ ns) = ((x : Definition) × ((slice_get ds k ≡ Some x) × ((x.name ≡ identifier n) × (x.inside ≡ around)))) × AreRun ds around (suc k) ns

pub record RunIn (ds : List Definition) (ns : List Name) : Type 0 where
  pub start : ℕ
  pub around : Inside
  pub are : AreRun ds around start ns

abbrev pub SiteRun : List Definition → Site → Type 0
SiteRun ds (at_received n (Some ns)) = RunIn ds ns
SiteRun ds s = Unit {0}

among_first : {A : Type 0} (xs ys : List A) (k : ℕ) (x : A) → slice_get xs k ≡ Some x → slice_get (xs ++ ys) k ≡ Some x
among_first [] ys k x at = let no : ⊥ = cc in absurd no
among_first (z ∷ xs) ys zero x at = at
among_first (z ∷ xs) ys (suc k) x at = among_first xs ys k x at

among_later : {A : Type 0} (xs ys : List A) (k : ℕ) → slice_get (xs ++ ys) (length xs + k) ≡ slice_get ys k
among_later [] ys k = ap (slice_get ys) (let same : 0 + k ≡ k = omega arith in same)
among_later (z ∷ xs) ys k = ap (slice_get (z ∷ (xs ++ ys))) (let next : suc (length xs) + k ≡ suc (length xs + k) = omega arith in next) ∙ among_later xs ys k

run_first : (ds es : List Definition) (around : Inside) (k : ℕ) (ns : List Name) → AreRun ds around k ns → AreRun (ds ++ es) around k ns
run_first ds es around k [] are = tt
run_first ds es around k (n ∷ ns) are = ((are.0.0, (among_first ds es k are.0.0 are.0.1.0, are.0.1.1)), run_first ds es around (suc k) ns are.1)

run_later : (ds es : List Definition) (around : Inside) (k : ℕ) (ns : List Name) → AreRun es around k ns → AreRun (ds ++ es) around (length ds + k) ns
run_later ds es around k [] are = tt
run_later ds es around k (n ∷ ns) are =
    ((are.0.0, (among_later ds es k ∙ are.0.1.0, are.0.1.1)), subst (λ j. AreRun (ds ++ es) around j ns) (let next : length ds + suc k ≡ suc (length ds + k) = omega arith in next) (run_later ds es around (suc k) ns are.1))

site_first : (ds es : List Definition) (s : Site) → SiteRun ds s → SiteRun (ds ++ es) s
site_first ds es (at_received n (Some ns)) run = record { start = run.start; around = run.around; are = run_first ds es run.around run.start ns run.are }
site_first ds es (at_received n None) run = tt
site_first ds es s run = tt

site_later : (ds es : List Definition) (s : Site) → SiteRun es s → SiteRun (ds ++ es) s
site_later ds es (at_received n (Some ns)) run = record { start = length ds + run.start; around = run.around; are = run_later ds es run.around run.start ns run.are }
site_later ds es (at_received n None) run = tt
site_later ds es s run = tt

-- ---- parts

-- what is received at some nodes is so defined by some parts
pub record Runs (ps : List PartTree) (ss : List Site) : Type 0 where
  pub runs : (around : Inside) (from : ℕ) → Each (SiteRun (definitions_in around from (part_nodes ps))) ss

-- nothing is received at a node
abbrev Apart : Site → Type 0
Apart s = (ds : List Definition) → SiteRun ds s

apart : (ps : List PartTree) (ss : List Site) → Each Apart ss → Runs ps ss
apart ps ss none = record { runs = λ inside from. each_more Apart (SiteRun (definitions_in inside from (part_nodes ps))) (λ s run. run (definitions_in inside from (part_nodes ps))) ss none }

joined : {ps qs : List PartTree} {ss ts : List Site} → Runs ps ss → Runs qs ts → Runs (ps ++ qs) (ss ++ ts)
joined {ps = ps} {qs = qs} {ss = ss} {ts = ts} one other = record {
  runs = λ inside from.
      let ds = definitions_in inside from (part_nodes ps) in
      let es = definitions_in inside (from + sizes_of (part_nodes ps)) (part_nodes qs) in
      subst (λ xs. Each (SiteRun xs) (ss ++ ts)) (sym (definitions_split inside from ps qs))
      (each_append (SiteRun (ds ++ es)) ss ts (each_more (SiteRun ds) (SiteRun (ds ++ es)) (site_first ds es) ss (one.runs inside from))
      (each_more (SiteRun es) (SiteRun (ds ++ es)) (site_later ds es) ts (other.runs inside (from + sizes_of (part_nodes ps)))));
}

blocked : {ps : List PartTree} {ss : List Site} → Runs ps ss → Runs (block_of ps ∷ []) ss
blocked {ps = ps} {ss = ss} inner = record {
  runs = λ inside from. subst (λ ds. Each (SiteRun ds) ss) (sym (append-nil (definitions_in (within inside) from (part_nodes ps)))) (inner.runs (within inside) from);
}

-- a node more, at which nothing is received
before : {ps : List PartTree} {ss : List Site} (s : Site) → Apart s → Runs ps ss → Runs ps (s ∷ ss)
before {ps = ps} s none inner = record { runs = λ inside from. (none (definitions_in inside from (part_nodes ps)), inner.runs inside from) }

all_apart : {A : Type 0} (f : A → Site) → ((x : A) → Apart (f x)) → (xs : List A) → Each Apart (map f xs)
all_apart f none xs = each_map (λ x. Unit {0}) Apart f (λ x fits. none x) xs (each_any (λ x. Unit {0}) (λ x. tt) xs)

-- ---- what is received

run_of : (before' : List Definition) (around : Inside) (count : ℕ) (kind : Kind) (ns : List Name) (later : List Definition)
    → AreRun (before' ++ (map (λ (n : Identifier). record { name = n; kind = kind; inside = around; elements = count }) (identifiers ns) ++ later)) around (length before' + 0) ns
run_of before' around count kind [] later = tt
run_of before' around count kind (n ∷ ns) later =
    let d : Definition = record { name = identifier n; kind = kind; inside = around; elements = count } in
    let rest = map (λ (n : Identifier). record { name = n; kind = kind; inside = around; elements = count }) (identifiers ns) ++ later in
    let next = run_of (before' ++ d ∷ []) around count kind ns later in
    let long = length-append before' (d ∷ []) in
    let same : (before' ++ d ∷ []) ++ rest ≡ before' ++ (d ∷ rest) = append_assoc before' (d ∷ []) rest in
    let start : length (before' ++ d ∷ []) + 0 ≡ suc (length before' + 0) = omega (arith, long) in
    ((d, (among_later before' (d ∷ rest) 0, (refl, refl))), subst (λ k. AreRun (before' ++ (d ∷ rest)) around k ns) start (subst (λ xs. AreRun xs around (length (before' ++ d ∷ []) + 0) ns) same next))

received_runs : (n : Name) (r : Option (List Name)) → Runs (received_parts r) (at_received n r ∷ [])
received_runs n None = apart [] (at_received n None ∷ []) ((λ ds. tt), tt)
received_runs n (Some ns) = record {
  runs = λ inside from. (
    record {
      start = 0;
      around = inside;
      are = subst (λ xs. AreRun xs inside 0 ns) (sym (append-nil (map (λ (n : Identifier). record { name = n; kind = kinds.Received; inside = inside; elements = 0 }) (identifiers ns) ++ []))) (run_of [] inside 0 kinds.Received ns []);
    },
    tt,
  );
}

-- ---- statements

set_apart : (e : Option ExprTree) → Each Apart (some_site at_set e)
set_apart None = tt
set_apart (Some e) = ((λ ds. tt), tt)

priority_apart : (e : Option ExprTree) → Each Apart (some_site at_priority e)
priority_apart None = tt
priority_apart (Some e) = ((λ ds. tt), tt)

events_apart : (earlier ns : List Name) → Each Apart (events_listed earlier ns)
events_apart earlier [] = tt
events_apart earlier (n ∷ ns) = ((λ ds. tt), events_apart (earlier ++ n ∷ []) ns)

local_apart : (shared : Bool) (l : LocalTree) → Each Apart (sites_of_local shared l)
local_apart shared (synonyms at ss) = all_apart at_synonym (λ x ds. tt) ss
local_apart shared (syn_modes at ms) = all_apart at_mode_definition (λ x ds. tt) ms
local_apart shared (new_modes at ms) = all_apart at_mode_definition (λ x ds. tt) ms
local_apart shared (locations at ls) = all_apart (at_declaration shared) (λ x ds. tt) ls

-- one node at which nothing is received
alone : (ps : List PartTree) (s : Site) → Apart s → Runs ps (s ∷ [])
alone ps s none = apart ps (s ∷ []) (none, tt)

mutual
  statement_runs : (s : StatementTree) (a : Around) (labels : List Name) → Runs (statement_parts labels s) (sites_of a s)
  statement_runs (empty at) a labels = apart [] [] tt
  statement_runs (simple at x h) a labels = joined (alone (simple_parts labels x) (at_simple a x) (λ ds. tt)) (handler_runs h a labels)
  statement_runs (bracketed at l x h closing) a labels = joined (bracketed_runs x a (labelled l labels)) (handler_runs h a (labelled l labels))

  bracketed_runs : (x : BracketedTree) (a : Around) (labels : List Name) → Runs (bracketed_parts labels x) (sites_of_bracketed a x)
  bracketed_runs (if_then at c ss bs o) a labels = joined (joined (joined (alone (mentioned (mentions_of c)) (at_condition c) (λ ds. tt)) (each_runs ss a labels)) (branches_runs bs a labels)) (otherwise_runs o a labels)
  bracketed_runs (case_of at e as' o) a labels = joined (joined (alone (mentioned (mentions_of e)) (at_selector e) (λ ds. tt)) (cases_runs as' a e labels)) (otherwise_runs o a labels)
  bracketed_runs (do_loop at c ss) a labels = joined (apart (control_parts c) [] tt) (blocked (joined (alone (turn_parts c) (at_control c) (λ ds. tt)) (each_runs ss a labels)))
  bracketed_runs (begin_end at ps) a labels = blocked (body_runs ps a labels)
  bracketed_runs (delay_case at set p as') a labels =
      joined (apart (mentioned (mentions_of_some set ++ mentions_of_some p)) (some_site at_set set ++ some_site at_priority p) (each_append Apart (some_site at_set set) (some_site at_priority p) (set_apart set) (priority_apart p)))
      (events_runs as' a [] labels)
  bracketed_runs (receive_case at set as' o) a labels =
      joined (joined (apart (mentioned (mentions_of_some set)) (some_site at_set set) (set_apart set)) (receives_runs as' a [] labels)) (otherwise_runs o a labels)

  each_runs : (ss : StatementNodes) (a : Around) (labels : List Name) → Runs (action_parts labels ss) (sites_of_each a ss)
  each_runs no_statements a labels = apart [] [] tt
  each_runs (more_statements s ss) a labels = joined (statement_runs s a labels) (each_runs ss a labels)

  branches_runs : (bs : ElsIfNodes) (a : Around) (labels : List Name) → Runs (branch_parts labels bs) (sites_of_branches a bs)
  branches_runs no_branches a labels = apart [] [] tt
  branches_runs (more_branches at c ss bs) a labels = joined (joined (alone (mentioned (mentions_of c)) (at_condition c) (λ ds. tt)) (each_runs ss a labels)) (branches_runs bs a labels)

  cases_runs : (as' : CaseNodes) (a : Around) (e : ExprTree) (labels : List Name) → Runs (case_parts labels as') (sites_of_cases a e as')
  cases_runs no_cases a e labels = apart [] [] tt
  cases_runs (more_cases at ls ss as') a e labels = joined (joined (alone (mentioned (mentions_of_ranges ls)) (at_labels e ls) (λ ds. tt)) (each_runs ss a labels)) (cases_runs as' a e labels)

  events_runs : (as' : NamedNodes) (a : Around) (earlier labels : List Name) → Runs (event_parts labels as') (sites_of_events a earlier as')
  events_runs no_named a earlier labels = apart [] [] tt
  events_runs (more_named at ns ss as') a earlier labels =
      joined (joined (apart (mentioned (flat_map (used needs.Location) ns)) (events_listed earlier ns) (events_apart earlier ns)) (blocked (each_runs ss a labels))) (events_runs as' a (earlier ++ ns) labels)

  receives_runs : (as' : ReceiveNodes) (a : Around) (earlier labels : List Name) → Runs (receive_parts labels as') (sites_of_receives a earlier as')
  receives_runs no_receives a earlier labels = apart [] [] tt
  receives_runs (more_receives at n r ss as') a earlier labels =
      joined (joined (alone (mentioned (used needs.Message n)) (at_source earlier n) (λ ds. tt)) (blocked (joined (received_runs n r) (each_runs ss a labels)))) (receives_runs as' a (earlier ++ n ∷ []) labels)

  otherwise_runs : (o : OtherwiseNode) (a : Around) (labels : List Name) → Runs (otherwise_parts labels o) (sites_of_otherwise a o)
  otherwise_runs no_otherwise a labels = apart [] [] tt
  otherwise_runs (otherwise ss) a labels = each_runs ss a labels

  handler_runs : (h : HandlerNode) (a : Around) (labels : List Name) → Runs (handler_parts labels h) (sites_of_handler a h)
  handler_runs no_handler a labels = apart [] [] tt
  handler_runs (handler at as' o) a labels = blocked (joined (exceptions_runs as' a [] labels) (otherwise_runs o a labels))

  exceptions_runs : (as' : NamedNodes) (a : Around) (earlier labels : List Name) → Runs (exception_parts labels as') (sites_of_exceptions a earlier as')
  exceptions_runs no_named a earlier labels = apart [] [] tt
  exceptions_runs (more_named at ns ss as') a earlier labels = joined (before (at_exceptions earlier ns) (λ ds. tt) (each_runs ss a labels)) (exceptions_runs as' a (earlier ++ ns) labels)

  body_runs : (ps : BodyNodes) (a : Around) (labels : List Name) → Runs (body_parts labels ps) (sites_of_parts a ps)
  body_runs no_parts a labels = apart [] [] tt
  body_runs (more_locals l ps) a labels = joined (apart (local_parts l) (sites_of_local false l) (local_apart false l)) (body_runs ps a labels)
  body_runs (more_actions s ps) a labels = joined (statement_runs s a labels) (body_runs ps a labels)

-- ---- procedures and processes

whole_runs : (a : Around) (ps : List BodyTree) (h : Option HandlerTree) → Runs (whole_body ps h) (sites_of_body a ps h)
whole_runs a ps h = joined (body_runs (body_nodes ps) a []) (handler_runs (handler_node h) a [])

-- what stands in the body of a routine, behind nodes at which nothing is received
routine_runs : (n : Identifier) (kind : Kind) (cs : List Clause) (result : List Mention) (ps : List PartTree) (front inner : List Site) → Each Apart front → Runs ps inner → Runs (routine n kind cs result (sizes_of (part_nodes ps)) (part_nodes ps) ∷ []) (front ++ inner)
routine_runs n kind cs result ps front inner none runs = record {
  runs = λ inside from.
      let head = defined inside kind n ∷ params_defined inside (Body from) cs ++ elements_defined inside (elements_in result) in
      let ds = definitions_in (Body from) (from + head_size cs result) (part_nodes ps) in
      let all = (head ++ ds) ++ [] in
      each_append (SiteRun all) front inner (each_more Apart (SiteRun all) (λ s run. run all) front none)
      (each_more (SiteRun ds) (SiteRun all) (λ s run. site_first (head ++ ds) [] s (site_later head ds s run)) inner (runs.runs (Body from) (from + head_size cs result)));
}

modes_apart : (ms : List written.ModeTree) → Each Apart (map at_mode ms)
modes_apart ms = all_apart at_mode (λ m ds. tt) ms

parts_apart : (ms : Option (List written.ModeTree)) → Each Apart (sites_of_modes ms)
parts_apart None = tt
parts_apart (Some ms) = modes_apart ms

result_apart : (m : Option written.ModeTree) → Each Apart (sites_of_result m)
result_apart None = tt
result_apart (Some m) = ((λ ds. tt), tt)

procedure_runs : (p : ProcedureTree) → Runs (item_parts (procedure p)) (sites_of_procedure p)
procedure_runs p =
    let front = map (λ (q : ParamTree). at_mode q.mode) p.params ++ sites_of_result p.returns in
    let own = at_body (Some p.name) (flat_map (λ q. q.names) p.params ++ locals_of_body p.body p.handler) in
    let inner = sites_of_body (in_procedure p) p.body p.handler in
    subst (λ ss. Runs (item_parts (procedure p)) ss) (append_assoc front (own ∷ []) inner)
    (routine_runs (identifier p.name) kinds.Procedure (map (λ (q : ParamTree). clause kinds.Parameter q.names (mentions_of_mode q.mode)) p.params) (mentions_of_some_mode p.returns) (whole_body p.body p.handler) (front ++ own ∷ []) inner
    (each_append Apart front (own ∷ []) (each_append Apart (map (λ (q : ParamTree). at_mode q.mode) p.params) (sites_of_result p.returns) (all_apart (λ (q : ParamTree). at_mode q.mode) (λ q ds. tt) p.params) (result_apart p.returns)) ((λ ds. tt), tt))
    (whole_runs (in_procedure p) p.body p.handler))

process_runs : (p : ProcessTree) → Runs (item_parts (process p)) (sites_of_process p)
process_runs p =
    let front = map (λ (q : FormalTree). at_mode q.mode) p.formals in
    let own = at_body (Some p.name) (flat_map (λ q. q.names) p.formals ++ locals_of_body p.body p.handler) in
    let inner = sites_of_body in_no_procedure p.body p.handler in
    subst (λ ss. Runs (item_parts (process p)) ss) (append_assoc front (own ∷ []) inner)
    (routine_runs (identifier p.name) kinds.Process (map (λ (q : FormalTree). clause kinds.Parameter q.names (mentions_of_mode q.mode)) p.formals) [] (whole_body p.body p.handler) (front ++ own ∷ []) inner
    (each_append Apart front (own ∷ []) (all_apart (λ (q : FormalTree). at_mode q.mode) (λ q ds. tt) p.formals) ((λ ds. tt), tt)) (whole_runs in_no_procedure p.body p.handler))

-- ---- items

signals_apart : (ss : List SignalTree) → Each Apart (flat_map (λ s. sites_of_modes s.parts) ss)
signals_apart [] = tt
signals_apart (s ∷ ss) = each_append Apart (sites_of_modes s.parts) (flat_map (λ s. sites_of_modes s.parts) ss) (parts_apart s.parts) (signals_apart ss)

mutual
  item_runs : (i : ItemTree) → Runs (item_parts i) (sites_of_item i)
  item_runs (seize_item at passed) = apart (item_parts (seize_item at passed)) [] tt
  item_runs (grant_item at passed) = apart (item_parts (grant_item at passed)) [] tt
  item_runs (local_item l) = apart (local_parts l) (sites_of_local true l) (local_apart true l)
  item_runs (signals at ss) = apart (item_parts (signals at ss)) (sites_of_item (signals at ss)) (signals_apart ss)
  item_runs (procedure p) = procedure_runs p
  item_runs (process p) = process_runs p
  item_runs (action s) = statement_runs s in_no_procedure []
  item_runs (modulion_of n kind items h closing) =
      let inner = joined (items_runs kind items items) (handler_runs (handler_node h) in_no_procedure []) in
      let ss = sites_of_items kind items items ++ sites_of_handler in_no_procedure (handler_node h) in
      let ps = each_item items ++ handler_parts [] (handler_node h) in
      record {
        runs = λ inside from.
            let ds = definitions_in (Modulion from) (suc from) (part_nodes ps) in
            each_more (SiteRun ds) (SiteRun ((defined inside kinds.Modulion (identifier n) ∷ ds) ++ [])) (λ s run. site_first (defined inside kinds.Modulion (identifier n) ∷ ds) [] s (site_later (defined inside kinds.Modulion (identifier n) ∷ []) ds s run)) ss
            (inner.runs (Modulion from) (suc from));
      }

  items_runs : (kind : ModulionKind) (all items : ItemNodes) → Runs (each_item items) (sites_of_items kind all items)
  items_runs kind all no_items = apart [] [] tt
  items_runs kind all (more_items i items) = joined (before (at_item kind all i) (λ ds. tt) (item_runs i)) (items_runs kind all items)

pub text_runs : (ms : List ModulionTree) → Runs (flat_map (λ m. item_parts (modulion_item m)) ms) (flat_map sites_of_item (map modulion_item ms))
text_runs [] = apart [] [] tt
text_runs (m ∷ ms) = joined (item_runs (modulion_item m)) (text_runs ms)
