-- The rows of names: each name that a node, a procedure, a process or a modulion defines stands with what defines it under one number; and
-- what is so of the processes that signals are for.
use Rattle.std.proofs.Common.{◌≡◌, ℕ, zero, suc, ◌+◌, Bool, true, false, List, [], ◌∷◌, ◌++◌, length, length-append, Option, Some, None, ◌⊎◌, inl, inr, refl, sym, ap, ◌∙◌, subst, arith, append_assoc, append-nil}
use Rattle.std.specs.Prelude.{map, flat_map, replicate}
use Rattle.std.proofs.lemmas.List.{length-map}
use Rattle.chill_tree.specs.declared.tree.name.Name.{Name}
use Rattle.chill_tree.specs.declared.tree.item.ModulionKind.{ModulionKind}
use Rattle.chill_tree.specs.ExprTree.{ExprTree}
use Rattle.chill_tree.specs.ModeTree as written
use Rattle.chill_tree.specs.LocalTree.{SynonymTree, ModeDefinitionTree, DeclarationTree, LocalTree, synonyms, syn_modes, new_modes, locations}
use Rattle.chill_tree.specs.SimpleTree.{ControlTree, while_holds, for_ever, for_members, for_steps}
use Rattle.chill_tree.specs.StatementTree.{StatementTree, BracketedTree, StatementNodes, ElsIfNodes, CaseNodes, NamedNodes, ReceiveNodes, OtherwiseNode, HandlerNode, BodyNodes, HandlerTree, BodyTree, empty, simple, bracketed, if_then, case_of, do_loop, begin_end, delay_case, receive_case, no_statements, more_statements, no_branches, more_branches, no_cases, more_cases, no_named, more_named, no_receives, more_receives, no_otherwise, otherwise, no_handler, handler, no_parts, more_locals, more_actions, handler_node, body_nodes}
use Rattle.chill_tree.specs.ItemTree.{SignalTree, ParamTree, ProcedureTree, FormalTree, ProcessTree, ItemTree, ItemNodes, local_item, signals, procedure, process, action, no_items, more_items, ModulionTree, modulion_item}
use Rattle.chill_tree.specs.ItemTree.{seize as seize_item, grant as grant_item, modulion as modulion_of}
use Rattle.names_model.specs.declared.identifier.Identifier.{Identifier}
use Rattle.names_model.specs.declared.kind.Kind.{Kind}
use Rattle.names_model.specs.declared.kind.Kind.TheVariants as kinds
use Rattle.names_model.specs.declared.kind.Need.TheVariants as needs
use Rattle.names_model.specs.declared.definition.Inside.{Inside}
use Rattle.names_model.specs.declared.definition.Inside.TheVariants.{Modulion, Body}
use Rattle.names_model.specs.declared.definition.Definition.{Definition}
use Rattle.names_model.specs.declared.part.Mention.{Mention}
use Rattle.names_model.specs.declared.part.Mention.TheVariants.{Use}
use Rattle.names_model.specs.declared.part.Clause.{Clause}
use Rattle.names_model.specs.Identifiers.{identifier, identifiers}
use Rattle.names_model.specs.Parts.{PartTree, define, routine, part_nodes}
use Rattle.names_model.specs.Sizes.{elements_in, clauses_size, head_size, sizes_of, block_of}
use Rattle.names_model.specs.Definitions.{within, defined, elements_defined, params_defined, definitions_of, definitions_in, numbers_on}
use Rattle.names_model.specs.ExprMentions.{used, mentions_of, mentions_of_some, mentions_of_ranges}
use Rattle.names_model.specs.ModeMentions.{mentions_of_mode, mentions_of_some_mode}
use Rattle.names_model.specs.StatementParts.{clause, mentioned, synonym_part, mode_part, initial_parts, declaration_parts, local_parts, simple_parts, control_parts, turn_parts, labelled, received_parts, statement_parts, bracketed_parts, action_parts, branch_parts, case_parts, event_parts, receive_parts, otherwise_parts, handler_parts, exception_parts, body_parts}
use Rattle.names_model.specs.ItemParts.{seized, granted, receiver_parts, mentions_of_parts, signal_parts, whole_body, item_parts, each_item}
use Rattle.checks_model.specs.Ground.{Origin, a_synonym, a_mode, an_element, a_location, a_parameter, a_counter, a_received, a_procedure, a_process, a_signal, a_modulion}
use Rattle.checks_model.specs.Origins.{sets_in, elements, elements_of, elements_of_some, origins_of_names, origins_of_synonym, owner_of, origins_of_mode, origins_of_declaration, origins_of_local, counters_in, received_in, origins_in, origins_in_bracketed, origins_in_each, origins_in_branches, origins_in_cases, origins_in_named, origins_in_receives, origins_in_otherwise, origins_in_handler, origins_in_parts, origins_of_signal, origins_of_formal, origins_of_body, origins_of_procedure, origins_of_process, origins_of_item, origins_of_items}
use Rattle.checks_model.specs.Sites.{Site, Around, in_procedure, in_no_procedure, at_item, at_synonym, at_mode_definition, at_declaration, at_mode, at_simple, at_condition, at_selector, at_labels, at_control, at_set, at_priority, at_source, at_received, at_exceptions, at_body, at_program, some_site, events_listed, counter_in, sites_of_local, sites_of, sites_of_bracketed, sites_of_each, sites_of_branches, sites_of_cases, sites_of_events, sites_of_receives, sites_of_otherwise, sites_of_handler, sites_of_exceptions, sites_of_parts, locals_of_body, sites_of_modes, sites_of_result, sites_of_body, sites_of_procedure, sites_of_process, sites_of_item, sites_of_items}
use Rattle.written_laws.specs.Written.{Each}
use Rattle.written_laws.proofs.Shown.{each_append, each_any, each_map, each_flat, each_same}
use Rattle.written_laws.proofs.Sets.{each_more}
use Rattle.written_laws.proofs.Texts.{PartsPass, parts_split}
use Rattle.written_laws.proofs.Rows.{DefineNothing, mentions_define, simple_defines, control_defines, initial_defines, receiver_defines, seized_define, granted_define, some_count, many_count, mode_elements_count, synonym_count}
use Rattle.program_laws.proofs.DefinitionNames.{names_of_clause, names_of_params, names_in, names_split, two_lists, name_of_definition, params_names, no_names, definitions_length, sizes_split, definitions_split, no_sizes}

-- ---- rows

-- a name stands with what defines it, in two lists of one order
abbrev pub IsDefinedAs : List Origin → List Identifier → Name → Origin → Type 0
IsDefinedAs [] is n o = ⊥
IsDefinedAs (x ∷ os) [] n o = ⊥
IsDefinedAs (x ∷ os) (i ∷ is) n o = ((x ≡ o) × (i ≡ identifier n)) ⊎ IsDefinedAs os is n o

abbrev pub Carries : List Origin → List Identifier → List Origin → List Identifier → Type 0
Carries os is us js = (n : Name) (o : Origin) → IsDefinedAs os is n o → IsDefinedAs us js n o

first_defined : (os us : List Origin) (is js : List Identifier) → Carries os is (os ++ us) (is ++ js)
first_defined [] us is js n o at = absurd at
first_defined (x ∷ os) us [] js n o at = absurd at
first_defined (x ∷ os) us (i ∷ is) js n o (inl at) = inl at
first_defined (x ∷ os) us (i ∷ is) js n o (inr at) = inr (first_defined os us is js n o at)

later_defined : (os us : List Origin) (is js : List Identifier) → length os ≡ length is → Carries us js (os ++ us) (is ++ js)
later_defined [] us [] js same n o at = at
later_defined [] us (i ∷ is) js same n o at = absurd (omega (arith, same))
later_defined (x ∷ os) us [] js same n o at = absurd (omega (arith, same))
later_defined (x ∷ os) us (i ∷ is) js same n o at = inr (later_defined os us is js (let less : length os ≡ length is = omega (arith, same) in less) n o at)

-- names that one thing defines
abbrev pub AreDefinedAs : List Origin → List Identifier → Origin → List Name → Type 0
AreDefinedAs os is o ns = Each (λ n. IsDefinedAs os is n o) ns

-- one of so many received names
abbrev pub IsReceivedAs : List Origin → List Identifier → Name → ℕ → Name → Type 0
IsReceivedAs os is source count n = (part : ℕ) × IsDefinedAs os is n (a_received source count part)

-- so many received names in order, from a part on
abbrev pub AreReceivedAs : List Origin → List Identifier → Name → ℕ → ℕ → List Name → Type 0
AreReceivedAs os is source count k [] = Unit {0}
AreReceivedAs os is source count k (n ∷ ns) = IsDefinedAs os is n (a_received source count k) × AreReceivedAs os is source count (suc k) ns

pub each_received : (os : List Origin) (is : List Identifier) (source : Name) (count k : ℕ) (ns : List Name) → AreReceivedAs os is source count k ns → Each (IsReceivedAs os is source count) ns
each_received os is source count k [] all = tt
each_received os is source count k (n ∷ ns) all = ((k, all.0), each_received os is source count (suc k) ns all.1)

-- the node of the whole program stands in no item
abbrev pub SiteSo : List Origin → List Identifier → Site → Type 0
SiteSo os is (at_declaration shared d) = AreDefinedAs os is (a_location d) d.names
SiteSo os is (at_control c) = AreDefinedAs os is (a_counter c) (counter_in c)
SiteSo os is (at_received n (Some ns)) = AreReceivedAs os is n (length ns) 0 ns
SiteSo os is (at_program shared) = ⊥
SiteSo os is s = Unit {0}

abbrev pub ParamSo : List Origin → List Identifier → ParamTree → Type 0
ParamSo os is p = AreDefinedAs os is (a_parameter p.mode) p.names

abbrev pub FormalSo : List Origin → List Identifier → FormalTree → Type 0
FormalSo os is p = AreDefinedAs os is (a_parameter p.mode) p.names

abbrev pub OriginSo : List Origin → List Identifier → Origin → Type 0
OriginSo os is (a_procedure p) = IsDefinedAs os is p.name (a_procedure p) × Each (ParamSo os is) p.params
OriginSo os is (a_process p) = Each (FormalSo os is) p.formals
OriginSo os is o = Unit {0}

abbrev mutual
  pub ModulionSo : List Origin → List Identifier → ItemTree → Type 0
  ModulionSo os is (modulion_of n kind items h closing) = IsDefinedAs os is n (a_modulion kind items) × EachModulionSo os is items
  ModulionSo os is (seize_item at passed) = Unit {0}
  ModulionSo os is (grant_item at passed) = Unit {0}
  ModulionSo os is (local_item l) = Unit {0}
  ModulionSo os is (signals at ss) = Unit {0}
  ModulionSo os is (procedure p) = Unit {0}
  ModulionSo os is (process p) = Unit {0}
  ModulionSo os is (action s) = Unit {0}

  pub EachModulionSo : List Origin → List Identifier → ItemNodes → Type 0
  EachModulionSo os is no_items = Unit {0}
  EachModulionSo os is (more_items i items) = ModulionSo os is i × EachModulionSo os is items

are_more : (os us : List Origin) (is js : List Identifier) (o : Origin) → Carries os is us js → (ns : List Name) → AreDefinedAs os is o ns → AreDefinedAs us js o ns
are_more os us is js o carry ns all = each_more (λ n. IsDefinedAs os is n o) (λ n. IsDefinedAs us js n o) (λ n at. carry n o at) ns all

received_more : (os us : List Origin) (is js : List Identifier) (source : Name) (count k : ℕ) → Carries os is us js → (ns : List Name) → AreReceivedAs os is source count k ns → AreReceivedAs us js source count k ns
received_more os us is js source count k carry [] all = tt
received_more os us is js source count k carry (n ∷ ns) all = (carry n (a_received source count k) all.0, received_more os us is js source count (suc k) carry ns all.1)

site_more : (os us : List Origin) (is js : List Identifier) → Carries os is us js → (s : Site) → SiteSo os is s → SiteSo us js s
site_more os us is js carry (at_declaration shared d) so = are_more os us is js (a_location d) carry d.names so
site_more os us is js carry (at_control c) so = are_more os us is js (a_counter c) carry (counter_in c) so
site_more os us is js carry (at_received n (Some ns)) so = received_more os us is js n (length ns) 0 carry ns so
site_more os us is js carry (at_program shared) so = so
site_more os us is js carry s so = tt

origin_more : (os us : List Origin) (is js : List Identifier) → Carries os is us js → (o : Origin) → OriginSo os is o → OriginSo us js o
origin_more os us is js carry (a_procedure p) so = (carry p.name (a_procedure p) so.0, each_more (ParamSo os is) (ParamSo us js) (λ q at. are_more os us is js (a_parameter q.mode) carry q.names at) p.params so.1)
origin_more os us is js carry (a_process p) so = each_more (FormalSo os is) (FormalSo us js) (λ q at. are_more os us is js (a_parameter q.mode) carry q.names at) p.formals so
origin_more os us is js carry o so = tt

mutual
  modulion_more : (os us : List Origin) (is js : List Identifier) → Carries os is us js → (i : ItemTree) → ModulionSo os is i → ModulionSo us js i
  modulion_more os us is js carry (modulion_of n kind items h closing) so = (carry n (a_modulion kind items) so.0, modulions_more os us is js carry items so.1)
  modulion_more os us is js carry (seize_item at passed) so = tt
  modulion_more os us is js carry (grant_item at passed) so = tt
  modulion_more os us is js carry (local_item l) so = tt
  modulion_more os us is js carry (signals at ss) so = tt
  modulion_more os us is js carry (procedure p) so = tt
  modulion_more os us is js carry (process p) so = tt
  modulion_more os us is js carry (action s) so = tt

  modulions_more : (os us : List Origin) (is js : List Identifier) → Carries os is us js → (items : ItemNodes) → EachModulionSo os is items → EachModulionSo us js items
  modulions_more os us is js carry no_items so = tt
  modulions_more os us is js carry (more_items i items) so = (modulion_more os us is js carry i so.0, modulions_more os us is js carry items so.1)

-- the names of a clause, and others behind them
own_names : (ns : List Name) (o : Origin) (us : List Origin) (js : List Identifier) → AreDefinedAs (replicate (length ns) o ++ us) (identifiers ns ++ js) o ns
own_names [] o us js = tt
own_names (n ∷ ns) o us js =
    let os = replicate (length ns) o ++ us in
    let is = identifiers ns ++ js in
    (inl (refl, refl), are_more os (o ∷ os) is (identifier n ∷ is) o (λ m x at. inr at) ns (own_names ns o us js))

pub length-replicate : {A : Type 0} (k : ℕ) (x : A) → length (replicate k x) ≡ k
length-replicate zero x = refl
length-replicate (suc k) x = ap suc (length-replicate k x)

names_same : (ns : List Name) (o : Origin) (us : List Origin) (js : List Identifier) → length us ≡ length js → length (replicate (length ns) o ++ us) ≡ length (identifiers ns ++ js)
names_same ns o us js same =
    let one = length-append (replicate (length ns) o) us in
    let other = length-append (identifiers ns) js in
    let mine = length-replicate (length ns) o in
    let theirs = length-map ns identifier in
    omega (arith, one, other, mine, theirs, same)

both_same : {A B : Type 0} (as' bs : List A) (cs ds : List B) → length as' ≡ length cs → length bs ≡ length ds → length (as' ++ bs) ≡ length (cs ++ ds)
both_same as' bs cs ds first later = let one = length-append as' bs in let other = length-append cs ds in omega (arith, one, other, first, later)

-- ---- parameters

module _ {A : Type 0} (names : A → List Name) (mode : A → written.ModeTree) where
  abbrev pub ParamOrigins : List A → List Origin
  ParamOrigins xs = flat_map (λ x. origins_of_names (names x) (a_parameter (mode x)) (elements_of None (mode x))) xs

  abbrev param_names : List A → List Identifier
  param_names xs = names_of_params (map (λ x. clause kinds.Parameter (names x) (mentions_of_mode (mode x))) xs)

  params_same : (xs : List A) → length (ParamOrigins xs) ≡ length (param_names xs)
  params_same [] = refl
  params_same (x ∷ xs) =
      both_same (origins_of_names (names x) (a_parameter (mode x)) (elements_of None (mode x))) (ParamOrigins xs) (identifiers (names x) ++ elements_in (mentions_of_mode (mode x))) (param_names xs)
      (names_same (names x) (a_parameter (mode x)) (elements_of None (mode x)) (elements_in (mentions_of_mode (mode x))) (mode_elements_count None (mode x))) (params_same xs)

  params_rows : (xs : List A) → Each (λ x. AreDefinedAs (ParamOrigins xs) (param_names xs) (a_parameter (mode x)) (names x)) xs
  params_rows [] = tt
  params_rows (x ∷ xs) =
      let os = origins_of_names (names x) (a_parameter (mode x)) (elements_of None (mode x)) in
      let is = identifiers (names x) ++ elements_in (mentions_of_mode (mode x)) in
      let us = ParamOrigins xs in
      let js = param_names xs in
      let same = names_same (names x) (a_parameter (mode x)) (elements_of None (mode x)) (elements_in (mentions_of_mode (mode x))) (mode_elements_count None (mode x)) in (
        are_more os (os ++ us) is (is ++ js) (a_parameter (mode x)) (first_defined os us is js) (names x) (own_names (names x) (a_parameter (mode x)) (elements_of None (mode x)) (elements_in (mentions_of_mode (mode x)))),
        each_more (λ y. AreDefinedAs us js (a_parameter (mode y)) (names y)) (λ y. AreDefinedAs (os ++ us) (is ++ js) (a_parameter (mode y)) (names y))
            (λ y at. are_more us (os ++ us) js (is ++ js) (a_parameter (mode y)) (later_defined os us is js same) (names y) at) xs (params_rows xs),
      )

-- ---- the heads of routines

-- what is defined begins with the parameters of a routine, which stand in its body
abbrev pub Begins : {A : Type 0} → (A → List Name) → (A → written.ModeTree) → ℕ → List A → List Origin → List Definition → Type 0
Begins names mode from xs os ds =
    (rest : List Origin) × (later : List Definition) × (around : Inside) × (os ≡ ParamOrigins names mode xs ++ rest) × (ds ≡ params_defined around (Body from) (map (λ x. clause kinds.Parameter (names x) (mentions_of_mode (mode x))) xs) ++ later)

abbrev pub HeadOk : ℕ → Origin → List Origin → List Definition → Type 0
HeadOk from (a_procedure p) os ds = Begins (λ (q : ParamTree). q.names) (λ q. q.mode) from p.params os ds
HeadOk from (a_process p) os ds = Begins (λ (q : FormalTree). q.names) (λ q. q.mode) from p.formals os ds
HeadOk from o os ds = Unit {0}

-- so does what stands behind each procedure and each process, the first origin having this number
abbrev pub HeadsOk : ℕ → List Origin → List Definition → Type 0
HeadsOk from [] ds = Unit {0}
HeadsOk from (o ∷ os) [] = Unit {0}
HeadsOk from (o ∷ os) (d ∷ ds) = HeadOk from o os ds × HeadsOk (suc from) os ds

begins_more : {A : Type 0} (names : A → List Name) (mode : A → written.ModeTree) (from : ℕ) (xs : List A) (os us : List Origin) (ds es : List Definition) → Begins names mode from xs os ds → Begins names mode from xs (os ++ us) (ds ++ es)
begins_more names mode from xs os us ds es (rest, later, around, origins, definitions) =
    let own = params_defined around (Body from) (map (λ x. clause kinds.Parameter (names x) (mentions_of_mode (mode x))) xs) in
    (rest ++ us, later ++ es, around, ap (λ zs. zs ++ us) origins ∙ append_assoc (ParamOrigins names mode xs) rest us, ap (λ zs. zs ++ es) definitions ∙ append_assoc own later es)

head_more : (from : ℕ) (o : Origin) (os us : List Origin) (ds es : List Definition) → HeadOk from o os ds → HeadOk from o (os ++ us) (ds ++ es)
head_more from (a_procedure p) os us ds es ok = begins_more (λ (q : ParamTree). q.names) (λ q. q.mode) from p.params os us ds es ok
head_more from (a_process p) os us ds es ok = begins_more (λ (q : FormalTree). q.names) (λ q. q.mode) from p.formals os us ds es ok
head_more from o os us ds es ok = tt

pub heads_both : (from : ℕ) (os us : List Origin) (ds es : List Definition) → length os ≡ length ds → HeadsOk from os ds → HeadsOk (from + length os) us es → HeadsOk from (os ++ us) (ds ++ es)
heads_both from [] us [] es same first later = subst (λ n. HeadsOk n us es) (let back : from + 0 ≡ from = omega arith in back) later
heads_both from [] us (d ∷ ds) es same first later = absurd (omega (arith, same))
heads_both from (o ∷ os) us [] es same first later = absurd (omega (arith, same))
heads_both from (o ∷ os) us (d ∷ ds) es same first later = (
  head_more from o os us ds es first.0,
  heads_both (suc from) os us ds es (let less : length os ≡ length ds = omega (arith, same) in less) first.1 (subst (λ n. HeadsOk n us es) (let next : from + suc (length os) ≡ suc from + length os = omega arith in next) later),
)

-- no procedure and no process
abbrev NotRoutine : Origin → Type 0
NotRoutine o = (from : ℕ) (os : List Origin) (ds : List Definition) → HeadOk from o os ds

none_heads : (from : ℕ) (os : List Origin) (ds : List Definition) → Each NotRoutine os → HeadsOk from os ds
none_heads from [] ds none = tt
none_heads from (o ∷ os) [] none = tt
none_heads from (o ∷ os) (d ∷ ds) none = (none.0 from os ds, none_heads (suc from) os ds none.1)

-- ---- parts

module _ (test : Mention → Bool) where
  -- the test holds of the process that a signal is for
  abbrev pub SomeReceiver : Option Name → Type 0
  SomeReceiver None = Unit {0}
  SomeReceiver (Some n) = test (Use (identifier n) needs.Process) ≡ true

  abbrev pub SignalSo : Origin → Type 0
  SignalSo (a_signal s) = SomeReceiver s.process
  SignalSo o = Unit {0}

  -- what parts define, at some nodes
  pub record Held (os : List Origin) (ps : List PartTree) (ss : List Site) : Type 0 where
    pub names : List Identifier
    pub are : names_in (part_nodes ps) ≡ names
    pub same : length os ≡ length names
    pub origins : Each (OriginSo os names) os
    pub at_sites : Each (SiteSo os names) ss
    pub signal : PartsPass test (part_nodes ps) → Each SignalSo os
    pub size : sizes_of (part_nodes ps) ≡ length os
    pub heads : (inside : Inside) (from : ℕ) → HeadsOk from os (definitions_in inside from (part_nodes ps))

  nothing : (ps : List PartTree) → DefineNothing ps → Held [] ps []
  nothing ps none = record { names = []; are = no_names ps none; same = refl; origins = tt; at_sites = tt; signal = λ pass. tt; size = no_sizes ps none; heads = λ inside from. tt }

  joined : {os us : List Origin} {ps qs : List PartTree} {ss ts : List Site} → Held os ps ss → Held us qs ts → Held (os ++ us) (ps ++ qs) (ss ++ ts)
  joined {os = os} {us = us} {ps = ps} {qs = qs} {ss = ss} {ts = ts} m k =
      let is = m.names in
      let js = k.names in
      let early = first_defined os us is js in
      let late = later_defined os us is js m.same in
      record {
        names = is ++ js;
        are = names_split ps qs ∙ two_lists m.are k.are;
        same = both_same os us is js m.same k.same;
        origins = each_append (OriginSo (os ++ us) (is ++ js)) os us (each_more (OriginSo os is) (OriginSo (os ++ us) (is ++ js)) (origin_more os (os ++ us) is (is ++ js) early) os m.origins)
            (each_more (OriginSo us js) (OriginSo (os ++ us) (is ++ js)) (origin_more us (os ++ us) js (is ++ js) late) us k.origins);
        at_sites = each_append (SiteSo (os ++ us) (is ++ js)) ss ts (each_more (SiteSo os is) (SiteSo (os ++ us) (is ++ js)) (site_more os (os ++ us) is (is ++ js) early) ss m.at_sites)
            (each_more (SiteSo us js) (SiteSo (os ++ us) (is ++ js)) (site_more us (os ++ us) js (is ++ js) late) ts k.at_sites);
        signal = λ pass. (let two = parts_split test ps qs pass in each_append SignalSo os us (m.signal two.0) (k.signal two.1));
        size = (let split = sizes_split ps qs in let one = m.size in let other = k.size in let both = length-append os us in omega (arith, split, one, other, both));
        heads = λ inside from.
            let one = definitions_in inside from (part_nodes ps) in
            let other = definitions_in inside (from + sizes_of (part_nodes ps)) (part_nodes qs) in
            let long : length os ≡ length one = m.same ∙ (ap length (sym m.are) ∙ sym (definitions_length inside from (part_nodes ps))) in
            subst (λ ds. HeadsOk from (os ++ us) ds) (sym (definitions_split inside from ps qs))
            (heads_both from os us one other long (m.heads inside from) (subst (λ n. HeadsOk (from + n) us other) m.size (k.heads inside (from + sizes_of (part_nodes ps)))));
      }

  with_site : {os : List Origin} {ps : List PartTree} {ss : List Site} (s : Site) → ((us : List Origin) (is : List Identifier) → SiteSo us is s) → Held os ps ss → Held os ps (s ∷ ss)
  with_site {os = os} s so m = record { names = m.names; are = m.are; same = m.same; origins = m.origins; at_sites = (so os m.names, m.at_sites); signal = m.signal; size = m.size; heads = m.heads }

  abbrev Anywhere : List Site → Type 0
  Anywhere ss = Each (λ s. (us : List Origin) (is : List Identifier) → SiteSo us is s) ss

  with_sites : {ps : List PartTree} (ss : List Site) → Anywhere ss → Held [] ps [] → Held [] ps ss
  with_sites [] all m = m
  with_sites (s ∷ ss) all m = with_site s all.0 (with_sites ss all.1 m)

  no_more : {os : List Origin} {ps : List PartTree} {ss : List Site} → Held (os ++ []) ps ss → Held os ps ss
  no_more {os = os} {ps = ps} {ss = ss} m = subst (λ us. Held us ps ss) (append-nil os) m

  blocked : {os : List Origin} {ps : List PartTree} {ss : List Site} → Held os ps ss → Held os (block_of ps ∷ []) ss
  blocked {os = os} {ps = ps} m = record { names = m.names; are = append-nil (names_in (part_nodes ps)) ∙ m.are; same = m.same; origins = m.origins; at_sites = m.at_sites; signal = λ pass. m.signal pass.0; size = (let own = m.size in omega (arith, own)); heads = λ inside from. subst (λ ds. HeadsOk from os ds) (sym (append-nil (definitions_in (within inside) from (part_nodes ps)))) (m.heads (within inside) from) }

  mentions : (ms : List Mention) → Held [] (mentioned ms) []
  mentions ms = nothing (mentioned ms) (mentions_define ms)

  elements_origins : (us : List Origin) (is : List Identifier) (owner : Option (Name × Bool)) (sets : List (List Name)) → Each (OriginSo us is) (flat_map (elements owner) sets)
  elements_origins us is owner sets =
      each_flat (λ ns. Unit {0}) (OriginSo us is) (elements owner)
      (λ ns fits. each_map (λ k. Unit {0}) (OriginSo us is) (λ part. an_element ns part owner) (λ k fits. tt) (numbers_on 0 (length ns)) (each_any (λ k. Unit {0}) (λ k. tt) (numbers_on 0 (length ns)))) sets
      (each_any (λ ns. Unit {0}) (λ ns. tt) sets)

  elements_signals : (owner : Option (Name × Bool)) (sets : List (List Name)) → Each SignalSo (flat_map (elements owner) sets)
  elements_signals owner sets =
      each_flat (λ ns. Unit {0}) SignalSo (elements owner)
      (λ ns fits. each_map (λ k. Unit {0}) SignalSo (λ part. an_element ns part owner) (λ k fits. tt) (numbers_on 0 (length ns)) (each_any (λ k. Unit {0}) (λ k. tt) (numbers_on 0 (length ns)))) sets
      (each_any (λ ns. Unit {0}) (λ ns. tt) sets)

  elements_routines : (owner : Option (Name × Bool)) (sets : List (List Name)) → Each NotRoutine (flat_map (elements owner) sets)
  elements_routines owner sets =
      each_flat (λ ns. Unit {0}) NotRoutine (elements owner)
      (λ ns fits. each_map (λ k. Unit {0}) NotRoutine (λ part. an_element ns part owner) (λ k fits from os ds. tt) (numbers_on 0 (length ns)) (each_any (λ k. Unit {0}) (λ k. tt) (numbers_on 0 (length ns)))) sets
      (each_any (λ ns. Unit {0}) (λ ns. tt) sets)

  -- what stands behind the names of a clause
  record Behind (inside : List Origin) : Type 0 where
    any_origins : (us : List Origin) (is : List Identifier) → Each (OriginSo us is) inside
    no_signals : Each SignalSo inside
    no_routines : Each NotRoutine inside

  elements_behind : (owner : Option (Name × Bool)) (sets : List (List Name)) → Behind (flat_map (elements owner) sets)
  elements_behind owner sets = record { any_origins = λ us is. elements_origins us is owner sets; no_signals = elements_signals owner sets; no_routines = elements_routines owner sets }

  some_behind : (w : Option written.ModeTree) → Behind (elements_of_some w)
  some_behind None = record { any_origins = λ us is. tt; no_signals = tt; no_routines = tt }
  some_behind (Some w) = elements_behind None (sets_in w)

  -- a clause alone
  clause_held : (kind : Kind) (ns : List Name) (ms : List Mention) (o : Origin) (inside : List Origin) (s : Site) → ((us : List Origin) (is : List Identifier) → OriginSo us is o) → SignalSo o → NotRoutine o → Behind inside → length inside ≡ length (elements_in ms)
      → ((us : List Origin) (is : List Identifier) → AreDefinedAs us is o ns → SiteSo us is s) → Held (replicate (length ns) o ++ inside) (define (clause kind ns ms) ∷ []) (s ∷ [])
  clause_held kind ns ms o inside s own signal apart behind count so =
      let os = replicate (length ns) o ++ inside in
      let is = identifiers ns ++ elements_in ms in
      record {
        names = is;
        are = append-nil is;
        same = names_same ns o inside (elements_in ms) count;
        origins = each_append (OriginSo os is) (replicate (length ns) o) inside (each_same (OriginSo os is) (length ns) o (own os is)) (behind.any_origins os is);
        at_sites = (so os is (own_names ns o inside (elements_in ms)), tt);
        signal = λ pass. each_append SignalSo (replicate (length ns) o) inside (each_same SignalSo (length ns) o signal) behind.no_signals;
        size =
            (let first = length-append (replicate (length ns) o) inside in let own = length-replicate (length ns) o in let named = length-map ns identifier in omega (arith, first, own, named, count));
        heads = λ around from. none_heads from os (definitions_in around from (part_nodes (define (clause kind ns ms) ∷ []))) (each_append NotRoutine (replicate (length ns) o) inside (each_same NotRoutine (length ns) o apart) behind.no_routines);
      }

  -- ---- definition statements

  synonyms_held : (ss : List SynonymTree) → Held (flat_map origins_of_synonym ss) (map synonym_part ss) (map at_synonym ss)
  synonyms_held [] = nothing [] tt
  synonyms_held (s ∷ ss) =
      joined (clause_held kinds.Synonym s.names (mentions_of_some_mode s.mode ++ mentions_of s.value) (a_synonym s) (elements_of_some s.mode) (at_synonym s) (λ us is. tt) tt (λ from os ds. tt) (some_behind s.mode) (synonym_count s) (λ us is at. tt)) (synonyms_held ss)

  modes_held : (novel : Bool) (ds : List ModeDefinitionTree) → Held (flat_map (origins_of_mode novel) ds) (map mode_part ds) (map at_mode_definition ds)
  modes_held novel [] = nothing [] tt
  modes_held novel (d ∷ ds) =
      joined (clause_held kinds.Mode (d.name ∷ []) (mentions_of_mode d.mode) (a_mode novel d.mode) (elements_of (owner_of novel d) d.mode) (at_mode_definition d) (λ us is. tt) tt (λ from os ds. tt) (elements_behind (owner_of novel d) (sets_in d.mode)) (mode_elements_count (owner_of novel d) d.mode) (λ us is at. tt))
      (modes_held novel ds)

  declaration_held : (shared : Bool) (d : DeclarationTree) → Held (origins_of_declaration d) (declaration_parts d) (at_declaration shared d ∷ [])
  declaration_held shared d =
      no_more (joined (clause_held kinds.Location d.names (mentions_of_mode d.mode) (a_location d) (elements_of None d.mode) (at_declaration shared d) (λ us is. tt) tt (λ from os ds. tt) (elements_behind None (sets_in d.mode)) (mode_elements_count None d.mode) (λ us is at. at))
      (nothing (initial_parts d.initial) (initial_defines d.initial)))

  declarations_held : (shared : Bool) (ds : List DeclarationTree) → Held (flat_map origins_of_declaration ds) (flat_map declaration_parts ds) (map (at_declaration shared) ds)
  declarations_held shared [] = nothing [] tt
  declarations_held shared (d ∷ ds) = joined (declaration_held shared d) (declarations_held shared ds)

  local_held : (shared : Bool) (l : LocalTree) → Held (origins_of_local l) (local_parts l) (sites_of_local shared l)
  local_held shared (synonyms at ss) = synonyms_held ss
  local_held shared (syn_modes at ds) = modes_held false ds
  local_held shared (new_modes at ds) = modes_held true ds
  local_held shared (locations at ds) = declarations_held shared ds

  -- ---- actions

  counter_held : (c : ControlTree) (n : Name) → counter_in c ≡ n ∷ [] → Held (a_counter c ∷ []) (define (clause kinds.Counter (n ∷ []) []) ∷ []) (at_control c ∷ [])
  counter_held c n is =
      clause_held kinds.Counter (n ∷ []) [] (a_counter c) [] (at_control c) (λ us js. tt) tt (λ from os ds. tt) (record { any_origins = λ us js. tt; no_signals = tt; no_routines = tt }) refl (λ us js at. subst (λ ns. AreDefinedAs us js (a_counter c) ns) (sym is) at)

  turn_held : (c : ControlTree) → Held (counters_in c) (turn_parts c) (at_control c ∷ [])
  turn_held (while_holds at c) = with_site (at_control (while_holds at c)) (λ us is. tt) (mentions (mentions_of c))
  turn_held (for_ever at) = with_site (at_control (for_ever at)) (λ us is. tt) (nothing [] tt)
  turn_held (for_members at n s c) = joined (counter_held (for_members at n s c) n refl) (mentions (mentions_of_some c))
  turn_held (for_steps at n s b down e c) = joined (counter_held (for_steps at n s b down e c) n refl) (mentions (mentions_of_some c))

  received_rows : (source : Name) (count k : ℕ) (ns : List Name) → AreReceivedAs (map (a_received source count) (numbers_on k (length ns))) (identifiers ns) source count k ns
  received_rows source count k [] = tt
  received_rows source count k (n ∷ ns) =
      let us = map (a_received source count) (numbers_on (suc k) (length ns)) in
      (inl (refl, refl), received_more us (a_received source count k ∷ us) (identifiers ns) (identifier n ∷ identifiers ns) source count (suc k) (λ m o at. inr at) ns (received_rows source count (suc k) ns))

  received_same : (source : Name) (count k : ℕ) (ns : List Name) → length (map (a_received source count) (numbers_on k (length ns))) ≡ length (identifiers ns)
  received_same source count k [] = refl
  received_same source count k (n ∷ ns) = ap suc (received_same source count (suc k) ns)

  received_any : (P : Origin → Type 0) (source : Name) (count k : ℕ) (ns : List Name) → ((part : ℕ) → P (a_received source count part)) → Each P (map (a_received source count) (numbers_on k (length ns)))
  received_any P source count k [] all = tt
  received_any P source count k (n ∷ ns) all = (all k, received_any P source count (suc k) ns all)

  received_held : (n : Name) (r : Option (List Name)) → Held (received_in n r) (received_parts r) (at_received n r ∷ [])
  received_held n None = with_site (at_received n None) (λ us is. tt) (nothing [] tt)
  received_held n (Some ns) =
      let os = received_in n (Some ns) in
      record {
        names = identifiers ns;
        are = append-nil (identifiers ns ++ []) ∙ append-nil (identifiers ns);
        same = received_same n (length ns) 0 ns;
        origins = received_any (OriginSo os (identifiers ns)) n (length ns) 0 ns (λ part. tt);
        at_sites = (received_rows n (length ns) 0 ns, tt);
        signal = λ pass. received_any SignalSo n (length ns) 0 ns (λ part. tt);
        size = (let long = received_same n (length ns) 0 ns in omega (arith, long));
        heads = λ around from. none_heads from os (definitions_in around from (part_nodes (received_parts (Some ns)))) (received_any NotRoutine n (length ns) 0 ns (λ part from os ds. tt));
      }

  set_anywhere : (e : Option ExprTree) → Anywhere (some_site at_set e)
  set_anywhere None = tt
  set_anywhere (Some e) = ((λ us is. tt), tt)

  priority_anywhere : (e : Option ExprTree) → Anywhere (some_site at_priority e)
  priority_anywhere None = tt
  priority_anywhere (Some e) = ((λ us is. tt), tt)

  events_anywhere : (earlier ns : List Name) → Anywhere (events_listed earlier ns)
  events_anywhere earlier [] = tt
  events_anywhere earlier (n ∷ ns) = ((λ us is. tt), events_anywhere (earlier ++ n ∷ []) ns)

  both_anywhere : (ss ts : List Site) → Anywhere ss → Anywhere ts → Anywhere (ss ++ ts)
  both_anywhere ss ts one other = each_append (λ s. (us : List Origin) (is : List Identifier) → SiteSo us is s) ss ts one other

  mutual
    statement_held : (s : StatementTree) (a : Around) (labels : List Name) → Held (origins_in s) (statement_parts labels s) (sites_of a s)
    statement_held (empty at) a labels = nothing [] tt
    statement_held (simple at x h) a labels = joined (with_site (at_simple a x) (λ us is. tt) (nothing (simple_parts labels x) (simple_defines labels x))) (handler_held h a labels)
    statement_held (bracketed at l x h closing) a labels = joined (bracketed_held x a (labelled l labels)) (handler_held h a (labelled l labels))

    bracketed_held : (x : BracketedTree) (a : Around) (labels : List Name) → Held (origins_in_bracketed x) (bracketed_parts labels x) (sites_of_bracketed a x)
    bracketed_held (if_then at c ss bs o) a labels =
        joined (joined (joined (with_site (at_condition c) (λ us is. tt) (mentions (mentions_of c))) (each_held ss a labels)) (branches_held bs a labels)) (otherwise_held o a labels)
    bracketed_held (case_of at e as' o) a labels = joined (joined (with_site (at_selector e) (λ us is. tt) (mentions (mentions_of e))) (cases_held as' a e labels)) (otherwise_held o a labels)
    bracketed_held (do_loop at c ss) a labels = joined (nothing (control_parts c) (control_defines c)) (blocked (joined (turn_held c) (each_held ss a labels)))
    bracketed_held (begin_end at ps) a labels = blocked (body_held ps a labels)
    bracketed_held (delay_case at set p as') a labels =
        joined (with_sites (some_site at_set set ++ some_site at_priority p) (both_anywhere (some_site at_set set) (some_site at_priority p) (set_anywhere set) (priority_anywhere p)) (mentions (mentions_of_some set ++ mentions_of_some p))) (events_held as' a [] labels)
    bracketed_held (receive_case at set as' o) a labels =
        joined (joined (with_sites (some_site at_set set) (set_anywhere set) (mentions (mentions_of_some set))) (receives_held as' a [] labels)) (otherwise_held o a labels)

    each_held : (ss : StatementNodes) (a : Around) (labels : List Name) → Held (origins_in_each ss) (action_parts labels ss) (sites_of_each a ss)
    each_held no_statements a labels = nothing [] tt
    each_held (more_statements s ss) a labels = joined (statement_held s a labels) (each_held ss a labels)

    branches_held : (bs : ElsIfNodes) (a : Around) (labels : List Name) → Held (origins_in_branches bs) (branch_parts labels bs) (sites_of_branches a bs)
    branches_held no_branches a labels = nothing [] tt
    branches_held (more_branches at c ss bs) a labels = joined (joined (with_site (at_condition c) (λ us is. tt) (mentions (mentions_of c))) (each_held ss a labels)) (branches_held bs a labels)

    cases_held : (as' : CaseNodes) (a : Around) (e : ExprTree) (labels : List Name) → Held (origins_in_cases as') (case_parts labels as') (sites_of_cases a e as')
    cases_held no_cases a e labels = nothing [] tt
    cases_held (more_cases at ls ss as') a e labels = joined (joined (with_site (at_labels e ls) (λ us is. tt) (mentions (mentions_of_ranges ls))) (each_held ss a labels)) (cases_held as' a e labels)

    events_held : (as' : NamedNodes) (a : Around) (earlier labels : List Name) → Held (origins_in_named as') (event_parts labels as') (sites_of_events a earlier as')
    events_held no_named a earlier labels = nothing [] tt
    events_held (more_named at ns ss as') a earlier labels =
        joined (joined (with_sites (events_listed earlier ns) (events_anywhere earlier ns) (mentions (flat_map (used needs.Location) ns))) (blocked (each_held ss a labels))) (events_held as' a (earlier ++ ns) labels)

    receives_held : (as' : ReceiveNodes) (a : Around) (earlier labels : List Name) → Held (origins_in_receives as') (receive_parts labels as') (sites_of_receives a earlier as')
    receives_held no_receives a earlier labels = nothing [] tt
    receives_held (more_receives at n r ss as') a earlier labels =
        joined (joined (with_site (at_source earlier n) (λ us is. tt) (mentions (used needs.Message n))) (blocked (joined (received_held n r) (each_held ss a labels)))) (receives_held as' a (earlier ++ n ∷ []) labels)

    otherwise_held : (o : OtherwiseNode) (a : Around) (labels : List Name) → Held (origins_in_otherwise o) (otherwise_parts labels o) (sites_of_otherwise a o)
    otherwise_held no_otherwise a labels = nothing [] tt
    otherwise_held (otherwise ss) a labels = each_held ss a labels

    handler_held : (h : HandlerNode) (a : Around) (labels : List Name) → Held (origins_in_handler h) (handler_parts labels h) (sites_of_handler a h)
    handler_held no_handler a labels = nothing [] tt
    handler_held (handler at as' o) a labels = blocked (joined (exceptions_held as' a [] labels) (otherwise_held o a labels))

    exceptions_held : (as' : NamedNodes) (a : Around) (earlier labels : List Name) → Held (origins_in_named as') (exception_parts labels as') (sites_of_exceptions a earlier as')
    exceptions_held no_named a earlier labels = nothing [] tt
    exceptions_held (more_named at ns ss as') a earlier labels = joined (with_site (at_exceptions earlier ns) (λ us is. tt) (each_held ss a labels)) (exceptions_held as' a (earlier ++ ns) labels)

    body_held : (ps : BodyNodes) (a : Around) (labels : List Name) → Held (origins_in_parts ps) (body_parts labels ps) (sites_of_parts a ps)
    body_held no_parts a labels = nothing [] tt
    body_held (more_locals l ps) a labels = joined (local_held false l) (body_held ps a labels)
    body_held (more_actions s ps) a labels = joined (statement_held s a labels) (body_held ps a labels)

  -- ---- signals, procedures and processes

  modes_anywhere : (us : List Origin) (is : List Identifier) (ms : List written.ModeTree) → Each (SiteSo us is) (map at_mode ms)
  modes_anywhere us is [] = tt
  modes_anywhere us is (m ∷ ms) = (tt, modes_anywhere us is ms)

  parts_anywhere : (us : List Origin) (is : List Identifier) (ms : Option (List written.ModeTree)) → Each (SiteSo us is) (sites_of_modes ms)
  parts_anywhere us is None = tt
  parts_anywhere us is (Some ms) = modes_anywhere us is ms

  result_anywhere : (us : List Origin) (is : List Identifier) (m : Option written.ModeTree) → Each (SiteSo us is) (sites_of_result m)
  result_anywhere us is None = tt
  result_anywhere us is (Some m) = (tt, tt)

  receiver_so : (n : Option Name) → PartsPass test (part_nodes (receiver_parts n)) → SomeReceiver n
  receiver_so None pass = tt
  receiver_so (Some n) pass = pass.0

  signal_held : (s : SignalTree) → Held (origins_of_signal s) (signal_parts s) (sites_of_modes s.parts)
  signal_held s =
      let os = origins_of_signal s in
      let is = identifier s.name ∷ elements_in (mentions_of_parts s.parts) in
      record {
        names = is;
        are = ap (λ js. is ++ js) (no_names (receiver_parts s.process) (receiver_defines s.process)) ∙ append-nil is;
        same = ap suc (count s.parts);
        origins = (tt, (behind s.parts).any_origins os is);
        at_sites = parts_anywhere os is s.parts;
        signal = λ pass. (receiver_so s.process pass.1, (behind s.parts).no_signals);
        size = (let long = count s.parts in let none = no_sizes (receiver_parts s.process) (receiver_defines s.process) in omega (arith, long, none));
        heads = λ around from. none_heads from os (definitions_in around from (part_nodes (signal_parts s))) ((λ from os ds. tt), (behind s.parts).no_routines);
      }
    where
      count : (ws : Option (List written.ModeTree)) → length {A = Origin} (elim ws [ None ↦ [] | Some ms ↦ flat_map (elements_of None) ms ]) ≡ length (elements_in (mentions_of_parts ws))
      count None = refl
      count (Some ms) = many_count ms

      behind : (ws : Option (List written.ModeTree)) → Behind (elim ws [ None ↦ [] | Some ms ↦ flat_map (elements_of None) ms ])
      behind None = record { any_origins = λ us is. tt; no_signals = tt; no_routines = tt }
      behind (Some ms) = record {
        any_origins = λ us is. each_flat (λ w. Unit {0}) (OriginSo us is) (elements_of None) (λ w fits. elements_origins us is None (sets_in w)) ms (each_any (λ w. Unit {0}) (λ w. tt) ms);
        no_signals = each_flat (λ w. Unit {0}) SignalSo (elements_of None) (λ w fits. elements_signals None (sets_in w)) ms (each_any (λ w. Unit {0}) (λ w. tt) ms);
        no_routines = each_flat (λ w. Unit {0}) NotRoutine (elements_of None) (λ w fits. elements_routines None (sets_in w)) ms (each_any (λ w. Unit {0}) (λ w. tt) ms);
      }

  signals_held : (ss : List SignalTree) → Held (flat_map origins_of_signal ss) (flat_map signal_parts ss) (flat_map (λ s. sites_of_modes s.parts) ss)
  signals_held [] = nothing [] tt
  signals_held (s ∷ ss) = joined (signal_held s) (signals_held ss)

  whole_held : (a : Around) (ps : List BodyTree) (h : Option HandlerTree) → Held (origins_of_body ps h) (whole_body ps h) (sites_of_body a ps h)
  whole_held a ps h = joined (body_held (body_nodes ps) a []) (handler_held (handler_node h) a [])

  params_origins : {A : Type 0} (names : A → List Name) (mode : A → written.ModeTree) (us : List Origin) (is : List Identifier) (xs : List A) → Each (OriginSo us is) (ParamOrigins names mode xs)
  params_origins names mode us is xs =
      each_flat (λ x. Unit {0}) (OriginSo us is) (λ x. origins_of_names (names x) (a_parameter (mode x)) (elements_of None (mode x)))
      (λ x fits. each_append (OriginSo us is) (replicate (length (names x)) (a_parameter (mode x))) (elements_of None (mode x)) (each_same (OriginSo us is) (length (names x)) (a_parameter (mode x)) tt) (elements_origins us is None (sets_in (mode x)))) xs
      (each_any (λ x. Unit {0}) (λ x. tt) xs)

  params_signals : {A : Type 0} (names : A → List Name) (mode : A → written.ModeTree) (xs : List A) → Each SignalSo (ParamOrigins names mode xs)
  params_signals names mode xs =
      each_flat (λ x. Unit {0}) SignalSo (λ x. origins_of_names (names x) (a_parameter (mode x)) (elements_of None (mode x)))
      (λ x fits. each_append SignalSo (replicate (length (names x)) (a_parameter (mode x))) (elements_of None (mode x)) (each_same SignalSo (length (names x)) (a_parameter (mode x)) tt) (elements_signals None (sets_in (mode x)))) xs
      (each_any (λ x. Unit {0}) (λ x. tt) xs)

  params_routines : {A : Type 0} (names : A → List Name) (mode : A → written.ModeTree) (xs : List A) → Each NotRoutine (ParamOrigins names mode xs)
  params_routines names mode xs =
      each_flat (λ x. Unit {0}) NotRoutine (λ x. origins_of_names (names x) (a_parameter (mode x)) (elements_of None (mode x)))
      (λ x fits. each_append NotRoutine (replicate (length (names x)) (a_parameter (mode x))) (elements_of None (mode x)) (each_same NotRoutine (length (names x)) (a_parameter (mode x)) (λ from os ds. tt)) (elements_routines None (sets_in (mode x)))) xs
      (each_any (λ x. Unit {0}) (λ x. tt) xs)

  params_count : (cs : List Clause) → length (names_of_params cs) ≡ clauses_size cs
  params_count [] = refl
  params_count (c ∷ cs) =
      let own = length-append c.names (elements_in c.text) in
      let both = length-append (names_of_clause c) (names_of_params cs) in
      let rest = params_count cs in
      omega (arith, own, both, rest)

  -- a routine: its own name, its head, and its body
  routine_held : {A : Type 0} (names : A → List Name) (mode : A → written.ModeTree) (o : Origin) (n : Name) (kind : Kind) (xs : List A) (result : Option written.ModeTree) (body : List Origin) (ps : List PartTree) (inner ss : List Site)
      → SignalSo o → ((us : List Origin) (is : List Identifier) → IsDefinedAs us is n o → Each (λ x. AreDefinedAs us is (a_parameter (mode x)) (names x)) xs → OriginSo us is o)
      → ((us : List Origin) (is : List Identifier) → Each (SiteSo us is) inner → Each (SiteSo us is) ss)
      → ((from : ℕ) (us : List Origin) (ds : List Definition) → Begins names mode from xs us ds → HeadOk from o us ds)
      → Held body ps inner
      → Held (o ∷ (ParamOrigins names mode xs ++ elements_of_some result) ++ body)
      (routine (identifier n) kind (map (λ x. clause kinds.Parameter (names x) (mentions_of_mode (mode x))) xs) (mentions_of_some_mode result) (sizes_of (part_nodes ps)) (part_nodes ps) ∷ []) ss
  routine_held names mode o n kind xs result body ps inner ss signal own around begins m =
      let params = ParamOrigins names mode xs in
      let es = elements_of_some result in
      let ks = param_names names mode xs in
      let js = elements_in (mentions_of_some_mode result) in
      let head = params ++ es in
      let is = ks ++ js in
      let head_same = both_same params es ks js (params_same names mode xs) (some_count result) in
      let os = o ∷ head ++ body in
      let all = identifier n ∷ is ++ m.names in
      let cs = map (λ x. clause kinds.Parameter (names x) (mentions_of_mode (mode x))) xs in
      let counted = params_count cs in
      let in_params = params_same names mode xs in
      let in_result = some_count result in
      let head_long = length-append params es in
      let in_head : Carries params ks os all = λ k x at. inr (first_defined head body is m.names k x (first_defined params es ks js k x at)) in
      let in_body : Carries body m.names os all = λ k x at. inr (later_defined head body is m.names head_same k x at) in
      record {
        names = all;
        are = append-nil (identifier n ∷ is ++ names_in (part_nodes ps)) ∙ ap (λ zs. identifier n ∷ is ++ zs) m.are;
        same = ap suc (both_same head body is m.names head_same m.same);
        origins = (
          own os all (inl (refl, refl))
              (each_more (λ x. AreDefinedAs params ks (a_parameter (mode x)) (names x)) (λ x. AreDefinedAs os all (a_parameter (mode x)) (names x)) (λ x at. are_more params os ks all (a_parameter (mode x)) in_head (names x) at) xs
              (params_rows names mode xs)),
          each_append (OriginSo os all) head body (each_append (OriginSo os all) params es (params_origins names mode os all xs) ((some_behind result).any_origins os all))
              (each_more (OriginSo body m.names) (OriginSo os all) (origin_more body os m.names all in_body) body m.origins),
        );
        at_sites = around os all (each_more (SiteSo body m.names) (SiteSo os all) (site_more body os m.names all in_body) inner m.at_sites);
        signal = λ pass. (signal, each_append SignalSo head body (each_append SignalSo params es (params_signals names mode xs) (some_behind result).no_signals) (m.signal pass.0.1));
        size = (let inner_size = m.size in let whole = length-append head body in omega (arith, counted, in_params, in_result, head_long, inner_size, whole));
        heads = λ inside from.
            let ps_defined = params_defined inside (Body from) cs in
            let es_defined = elements_defined inside js in
            let body_defined = definitions_in (Body from) (from + head_size cs (mentions_of_some_mode result)) (part_nodes ps) in
            let long_params = sym (length-map ps_defined name_of_definition) ∙ ap length (params_names inside (Body from) cs) in
            let long_elements = length-map js (defined inside kinds.Element) in
            let both_defined = length-append ps_defined es_defined in
            let long : length head ≡ length (ps_defined ++ es_defined) = omega (arith, head_long, in_params, in_result, both_defined, long_params, long_elements) in
            let at_body : from + head_size cs (mentions_of_some_mode result) ≡ suc from + length head = omega (arith, counted, in_params, in_result, head_long) in
            let inner_heads : HeadsOk (suc from + length head) body body_defined = subst (λ k. HeadsOk k body body_defined) at_body (m.heads (Body from) (from + head_size cs (mentions_of_some_mode result))) in
            subst (λ ds. HeadsOk from os ds) (sym (append-nil (definitions_of inside from (routine (identifier n) kind cs (mentions_of_some_mode result) (sizes_of (part_nodes ps)) (part_nodes ps))))) (
              begins from (head ++ body) ((ps_defined ++ es_defined) ++ body_defined) (es ++ body, es_defined ++ body_defined, inside, append_assoc params es body, append_assoc ps_defined es_defined body_defined),
              heads_both (suc from) head body (ps_defined ++ es_defined) body_defined long (none_heads (suc from) head (ps_defined ++ es_defined) (each_append NotRoutine params es (params_routines names mode xs) (some_behind result).no_routines)) inner_heads,
            );
      }

  procedure_held : (p : ProcedureTree) → Held (origins_of_procedure p) (item_parts (procedure p)) (sites_of_procedure p)
  procedure_held p =
      let front = map (λ (q : ParamTree). at_mode q.mode) p.params ++ sites_of_result p.returns in
      let inner = sites_of_body (in_procedure p) p.body p.handler in
      let own = at_body (Some p.name) (flat_map (λ q. q.names) p.params ++ locals_of_body p.body p.handler) in
      routine_held (λ (q : ParamTree). q.names) (λ q. q.mode) (a_procedure p) p.name kinds.Procedure p.params p.returns (origins_of_body p.body p.handler) (whole_body p.body p.handler) inner (sites_of_procedure p) tt (λ us is name all. (name, all))
      (λ us is all. each_append (SiteSo us is) front (own ∷ inner) (each_append (SiteSo us is) (map (λ (q : ParamTree). at_mode q.mode) p.params) (sites_of_result p.returns) (modes us is p.params) (result_anywhere us is p.returns)) (tt, all)) (λ from us ds is. is)
      (whole_held (in_procedure p) p.body p.handler)
    where
      modes : (us : List Origin) (is : List Identifier) (ps : List ParamTree) → Each (SiteSo us is) (map (λ (q : ParamTree). at_mode q.mode) ps)
      modes us is [] = tt
      modes us is (q ∷ qs) = (tt, modes us is qs)

  process_held : (p : ProcessTree) → Held (origins_of_process p) (item_parts (process p)) (sites_of_process p)
  process_held p =
      let front = map (λ (q : FormalTree). at_mode q.mode) p.formals in
      let inner = sites_of_body in_no_procedure p.body p.handler in
      let own = at_body (Some p.name) (flat_map (λ q. q.names) p.formals ++ locals_of_body p.body p.handler) in
      subst (λ os. Held (a_process p ∷ os ++ origins_of_body p.body p.handler) (item_parts (process p)) (sites_of_process p)) (append-nil (flat_map origins_of_formal p.formals))
      (routine_held (λ (q : FormalTree). q.names) (λ q. q.mode) (a_process p) p.name kinds.Process p.formals None (origins_of_body p.body p.handler) (whole_body p.body p.handler) inner (sites_of_process p) tt (λ us is name all. all)
      (λ us is all. each_append (SiteSo us is) front (own ∷ inner) (modes us is p.formals) (tt, all)) (λ from us ds is. is) (whole_held in_no_procedure p.body p.handler))
    where
      modes : (us : List Origin) (is : List Identifier) (ps : List FormalTree) → Each (SiteSo us is) (map (λ (q : FormalTree). at_mode q.mode) ps)
      modes us is [] = tt
      modes us is (q ∷ qs) = (tt, modes us is qs)

  -- ---- items

  -- an item, and the modulions in it
  record ItemHeld (i : ItemTree) : Type 0 where
    held : Held (origins_of_item i) (item_parts i) (sites_of_item i)
    modulion : ModulionSo (origins_of_item i) held.names i

  record ItemsHeld (kind : ModulionKind) (all items : ItemNodes) : Type 0 where
    held : Held (origins_of_items items) (each_item items) (sites_of_items kind all items)
    modulions : EachModulionSo (origins_of_items items) held.names items

  mutual
    unfolding joined with_site

    item_held : (i : ItemTree) → ItemHeld i
    item_held (seize_item at passed) = record { held = nothing (seized passed) (seized_define passed); modulion = tt }
    item_held (grant_item at passed) = record { held = nothing (granted passed) (granted_define passed); modulion = tt }
    item_held (local_item l) = record { held = local_held true l; modulion = tt }
    item_held (signals at ss) = record { held = signals_held ss; modulion = tt }
    item_held (procedure p) = record { held = procedure_held p; modulion = tt }
    item_held (process p) = record { held = process_held p; modulion = tt }
    item_held (action s) = record { held = statement_held s in_no_procedure []; modulion = tt }
    item_held (modulion_of n kind items h closing) =
        let all = items_held kind items items in
        let m = joined all.held (handler_held (handler_node h) in_no_procedure []) in
        let us = origins_of_items items ++ origins_in_handler (handler_node h) in
        let os = a_modulion kind items ∷ us in
        let is = identifier n ∷ m.names in
        let inner : Carries us m.names os is = λ k o at. inr at in
        let front : Carries (origins_of_items items) all.held.names os is = λ k o at. inr (first_defined (origins_of_items items) (origins_in_handler (handler_node h)) all.held.names (handler_held (handler_node h) in_no_procedure []).names k o at) in
        let ps = each_item items ++ handler_parts [] (handler_node h) in
        record {
          held = record {
            names = is;
            are = append-nil (identifier n ∷ names_in (part_nodes ps)) ∙ ap (λ js. identifier n ∷ js) m.are;
            same = ap suc m.same;
            origins = (tt, each_more (OriginSo us m.names) (OriginSo os is) (origin_more us os m.names is inner) us m.origins);
            at_sites = each_more (SiteSo us m.names) (SiteSo os is) (site_more us os m.names is inner) (sites_of_items kind items items ++ sites_of_handler in_no_procedure (handler_node h)) m.at_sites;
            signal = λ pass. (tt, m.signal pass.0);
            size = (let inner_size = m.size in omega (arith, inner_size));
            heads = λ inside from.
                subst (λ ds. HeadsOk from os ds) (sym (append-nil (defined inside kinds.Modulion (identifier n) ∷ definitions_in (Modulion from) (suc from) (part_nodes ps)))) (tt, m.heads (Modulion from) (suc from));
          };
          modulion = (inl (refl, refl), modulions_more (origins_of_items items) os all.held.names is front items all.modulions);
        }

    items_held : (kind : ModulionKind) (all items : ItemNodes) → ItemsHeld kind all items
    items_held kind all no_items = record { held = nothing [] tt; modulions = tt }
    items_held kind all (more_items i items) =
        let one = item_held i in
        let rest = items_held kind all items in
        let os = origins_of_item i in
        let us = origins_of_items items in
        let is = one.held.names in
        let js = rest.held.names in
        record {
          held = joined (with_site (at_item kind all i) (λ vs ks. tt) one.held) rest.held;
          modulions = (modulion_more os (os ++ us) is (is ++ js) (first_defined os us is js) i one.modulion, modulions_more us (os ++ us) js (is ++ js) (later_defined os us is js one.held.same) items rest.modulions);
        }

  -- modulions of the outermost level
  pub record TextHeld (ms : List ModulionTree) : Type 0 where
    pub held : Held (flat_map (λ m. origins_of_item (modulion_item m)) ms) (flat_map (λ m. item_parts (modulion_item m)) ms) (flat_map sites_of_item (map modulion_item ms))
    pub modulions : Each (ModulionSo (flat_map (λ m. origins_of_item (modulion_item m)) ms) held.names) (map modulion_item ms)

  pub text_held : (ms : List ModulionTree) → TextHeld ms
  unfolding joined
  text_held [] = record { held = nothing [] tt; modulions = tt }
  text_held (m ∷ ms) =
      let one = item_held (modulion_item m) in
      let rest = text_held ms in
      let os = origins_of_item (modulion_item m) in
      let us = flat_map (λ m. origins_of_item (modulion_item m)) ms in
      let is = one.held.names in
      let js = rest.held.names in
      record {
        held = joined one.held rest.held;
        modulions = (
          modulion_more os (os ++ us) is (is ++ js) (first_defined os us is js) (modulion_item m) one.modulion,
          each_more (ModulionSo us js) (ModulionSo (os ++ us) (is ++ js)) (modulion_more us (os ++ us) js (is ++ js) (later_defined os us is js one.held.same)) (map modulion_item ms) rest.modulions,
        );
      }
