-- Each definition of a program and what it is defined by stand under one number.
use Rattle.std.proofs.Common.{◌≡◌, ℕ, suc, ◌+◌, Bool, true, false, List, [], ◌∷◌, ◌++◌, length, inl, inr, refl, sym, ap, ◌∙◌, subst, Option, Some, None, Contains, append_assoc, append-nil}
use Rattle.std.specs.Prelude.{map, flat_map, replicate, slice_get, option_map, if◌then◌else◌}
use Rattle.std.proofs.lemmas.Grind.{flat_map-append}
use Rattle.std.proofs.lemmas.List.{map-append}
use Rattle.chill_tree.specs.declared.tree.name.Name.{Name}
use Rattle.chill_tree.specs.declared.tree.item.Passed.{Passed}
use Rattle.chill_tree.specs.declared.tree.item.Passed.TheVariants.{Names, All}
use Rattle.chill_tree.specs.ExprTree.{ExprTree, ExprNodes, RangeTree, RangeNodes, whole, character, text, this_instance, paren, receive, start, tuple, uniform, name, apply, field, prefixed, binary, no_exprs, more_exprs, alone, between, no_ranges, more_ranges}
use Rattle.chill_tree.specs.ModeTree as written
use Rattle.chill_tree.specs.LocalTree.{SynonymTree, ModeDefinitionTree, InitialTree, DeclarationTree, LocalTree, synonyms, syn_modes, new_modes, locations}
use Rattle.chill_tree.specs.SimpleTree.{SimpleTree, assign, update, call_of, exit, return_with, result_of, assert_that, cause, stop, start_of, delay, continue_event, send, ControlTree, while_holds, for_ever, for_members, for_steps}
use Rattle.chill_tree.specs.StatementTree.{StatementTree, BracketedTree, StatementNodes, ElsIfNodes, CaseNodes, NamedNodes, ReceiveNodes, OtherwiseNode, HandlerNode, BodyNodes, HandlerTree, BodyTree, empty, simple, bracketed, if_then, case_of, do_loop, begin_end, delay_case, receive_case, no_statements, more_statements, no_branches, more_branches, no_cases, more_cases, no_named, more_named, no_receives, more_receives, no_otherwise, otherwise, no_handler, handler, no_parts, more_locals, more_actions, handler_node, body_nodes}
use Rattle.chill_tree.specs.ItemTree.{SignalTree, ParamTree, ProcedureTree, FormalTree, ProcessTree, ItemTree, ItemNodes, local_item, signals, procedure, process, action, no_items, more_items, ModulionTree, modulion_item}
use Rattle.chill_tree.specs.ItemTree.{seize as seize_item, grant as grant_item, modulion as modulion_of}
use Rattle.names_model.specs.declared.identifier.Identifier.{Identifier}
use Rattle.names_model.specs.declared.kind.Kind.{Kind}
use Rattle.names_model.specs.declared.kind.Kind.TheVariants as kinds
use Rattle.names_model.specs.declared.kind.Need.TheVariants as needs
use Rattle.names_model.specs.declared.definition.Inside.{Inside}
use Rattle.names_model.specs.declared.definition.Inside.TheVariants.{Outermost, Modulion, Body}
use Rattle.names_model.specs.declared.definition.Definition.{Definition}
use Rattle.names_model.specs.declared.part.Mention.{Mention}
use Rattle.names_model.specs.declared.part.Mention.TheVariants.{Use, Argument, Element}
use Rattle.names_model.specs.declared.part.Clause.{Clause}
use Rattle.names_model.specs.Identifiers.{identifier, identifiers}
use Rattle.names_model.specs.Parts.{PartTree, PartNodes, define, mention, seize, grant, modulion, routine, block, part_nodes}
use Rattle.names_model.specs.Parts as parts
use Rattle.names_model.specs.Sizes.{elements_in, head_size, size_of, sizes_of, block_of}
use Rattle.names_model.specs.Definitions.{within, defined, elements_defined, elements_with, names_defined, params_defined, definitions_of, definitions_in, text_definitions, predefined, numbers_on}
use Rattle.names_model.specs.ExprMentions.{used, tuple_mode, begun, mentions_as, mentions_in_each, mentions_of, mentions_of_some, mentions_of_args, mentions_of_ranges}
use Rattle.names_model.specs.ExprMentions as mentions
use Rattle.names_model.specs.ModeMentions.{mentions_of_discrete, mentions_of_index, mentions_of_place, mentions_of_some_place, mentions_of_spread, mentions_of_base, mentions_of_fields, mentions_of_mode, mentions_of_some_mode}
use Rattle.names_model.specs.StatementParts.{clause, mentioned, synonym_part, mode_part, initial_parts, declaration_parts, local_parts, encloses, exit_parts, mentions_of_some_args, simple_parts, control_parts, counter_part, turn_parts, labelled, received_parts, statement_parts, bracketed_parts, action_parts, branch_parts, case_parts, event_parts, receive_parts, otherwise_parts, handler_parts, exception_parts, body_parts}
use Rattle.names_model.specs.ItemParts.{seized, granted, receiver_parts, mentions_of_parts, signal_parts, param_clause, formal_clause, whole_body, procedure_part, process_part, item_parts, each_item}
use Rattle.names_model.specs.Resolving.{level_of}
use Rattle.names_laws.proofs.Members.{here_in, later_in}
use Rattle.checks_model.specs.Ground.{Origin, a_synonym, a_mode, an_element, a_location, a_parameter, a_counter, a_received, a_procedure, a_process, a_signal}
use Rattle.checks_model.specs.Origins.{set_in_discrete, sets_in_base, sets_in_fields, sets_in, elements, elements_of, elements_of_some, origins_of_synonym, owner_of, origins_of_mode, origins_of_declaration, origins_of_local, counters_in, received_in, origins_in, origins_in_bracketed, origins_in_each, origins_in_branches, origins_in_cases, origins_in_named, origins_in_receives, origins_in_otherwise, origins_in_handler, origins_in_parts, origins_of_signal, origins_of_param, origins_of_formal, origins_of_body, origins_of_procedure, origins_of_process, origins_of_item, origins_of_items, text_origins, predefined_origins}
use Rattle.ground_laws.specs.Defining.{counter_named, Defines, AllDefine, OriginsLaw}

-- ---- one behind the other

pub both : (os ps : List Origin) (ds es : List Definition) → AllDefine os ds → AllDefine ps es → AllDefine (os ++ ps) (ds ++ es)
both [] ps [] es h k = k
both (o ∷ os) ps (d ∷ ds) es h k = (h.0, both os ps ds es h.1 k)
both [] ps (d ∷ ds) es h k = absurd h
both (o ∷ os) ps [] es h k = absurd h

-- ---- elements

abbrev no_elements : List Mention → Type 0
no_elements ms = elements_in ms ≡ []

elements_append : (ms ns : List Mention) → elements_in (ms ++ ns) ≡ elements_in ms ++ elements_in ns
elements_append [] ns = refl
elements_append (Use n need ∷ ms) ns = elements_append ms ns
elements_append (Argument n callee ∷ ms) ns = elements_append ms ns
elements_append (Element n ∷ ms) ns = ap (λ xs. n ∷ xs) (elements_append ms ns)

none_and_none : (ms ns : List Mention) → no_elements ms → no_elements ns → no_elements (ms ++ ns)
none_and_none ms ns h k = elements_append ms ns ∙ ap (λ xs. xs ++ elements_in ns) h ∙ k

none_in_mode_name : (m : Option Name) → no_elements (tuple_mode m)
none_in_mode_name None = refl
none_in_mode_name (Some n) = refl

none_begun : (of : Option Name) (n : Name) → no_elements (begun of n)
none_begun None n = refl
none_begun (Some callee) n = refl

mutual
  none_as : (e : ExprTree) (of : Option Name) → no_elements (mentions_as of e)
  none_as (whole at n) of = refl
  none_as (character at n) of = refl
  none_as (text at n) of = refl
  none_as (this_instance at) of = refl
  none_as (paren at e) of = none_as e None
  none_as (receive at n) of = refl
  none_as (start at n es) of = none_in_each es None
  none_as (tuple at m b rs) of = none_and_none (tuple_mode m) (mentions.mentions_in_ranges rs) (none_in_mode_name m) (none_in_ranges rs)
  none_as (uniform at m b e) of = none_and_none (tuple_mode m) (mentions_as None e) (none_in_mode_name m) (none_as e None)
  none_as (name n) of = none_begun of n
  none_as (apply at e es) of = none_and_none (mentions_as None e) (mentions_in_each (mentions.callee_of e) es) (none_as e None) (none_in_each es (mentions.callee_of e))
  none_as (field at e n) of = none_as e None
  none_as (prefixed at o e) of = none_as e None
  none_as (binary at l o p r) of = none_and_none (mentions_as None l) (mentions_as None r) (none_as l None) (none_as r None)

  none_in_each : (es : ExprNodes) (of : Option Name) → no_elements (mentions_in_each of es)
  none_in_each no_exprs of = refl
  none_in_each (more_exprs e es) of = none_and_none (mentions_as of e) (mentions_in_each of es) (none_as e of) (none_in_each es of)

  none_in_range : (r : RangeTree) → no_elements (mentions.mentions_in_range r)
  none_in_range (alone e) = none_as e None
  none_in_range (between l h) = none_and_none (mentions_as None l) (mentions_as None h) (none_as l None) (none_as h None)

  none_in_ranges : (rs : RangeNodes) → no_elements (mentions.mentions_in_ranges rs)
  none_in_ranges no_ranges = refl
  none_in_ranges (more_ranges r rs) = none_and_none (mentions.mentions_in_range r) (mentions.mentions_in_ranges rs) (none_in_range r) (none_in_ranges rs)

none_of : (e : ExprTree) → no_elements (mentions_of e)
none_of e = none_as e None

none_of_some : (e : Option ExprTree) → no_elements (mentions_of_some e)
none_of_some None = refl
none_of_some (Some e) = none_of e

-- the elements of the SETs in a mode
elements_listed : (ns : List Name) → elements_in (map (λ n. Element (identifier n)) ns) ≡ identifiers ns
elements_listed [] = refl
elements_listed (n ∷ ns) = ap (λ xs. identifier n ∷ xs) (elements_listed ns)

elements_of_two : (ms ns : List Mention) (xs ys : List Identifier) → elements_in ms ≡ xs → elements_in ns ≡ ys → elements_in (ms ++ ns) ≡ xs ++ ys
elements_of_two ms ns xs ys h k = elements_append ms ns ∙ ap (λ zs. zs ++ elements_in ns) h ∙ ap (λ zs. xs ++ zs) k

abbrev flat : List (List Name) → List Identifier
flat sets = flat_map identifiers sets

discrete_elements : (d : written.DiscreteTree) → elements_in (mentions_of_discrete d) ≡ flat (set_in_discrete d)
discrete_elements (written.named n) = refl
discrete_elements (written.bounded n l h) = elements_of_two (used needs.Mode n ++ mentions_of l) (mentions_of h) [] [] (none_of l) (none_of h)
discrete_elements (written.set_of at ns) = elements_listed ns ∙ sym (append-nil (identifiers ns))

none_in_index : (i : written.IndexTree) → no_elements (mentions_of_index i)
none_in_index (written.index_named n) = refl
none_in_index (written.index_bounded l h) = none_and_none (mentions_of l) (mentions_of h) (none_of l) (none_of h)

none_in_place : (p : written.PlaceTree) → no_elements (mentions_of_place p)
none_in_place p = none_and_none (mentions_of p.word ++ mentions_of p.start) (mentions_of p.bound) (none_and_none (mentions_of p.word) (mentions_of p.start) (none_of p.word) (none_of p.start)) (none_of p.bound)

none_in_some_place : (p : Option written.PlaceTree) → no_elements (mentions_of_some_place p)
none_in_some_place None = refl
none_in_some_place (Some p) = none_in_place p

none_in_spread : (s : Option written.SpreadTree) → no_elements (mentions_of_spread s)
none_in_spread None = refl
none_in_spread (Some (written.by_packing p)) = refl
none_in_spread (Some (written.by_step s)) = none_and_none (mentions_of_place s.place) (mentions_of s.distance) (none_in_place s.place) (none_of s.distance)

mutual
  base_elements : (b : written.BaseTree) → elements_in (mentions_of_base b) ≡ flat (sets_in_base b)
  base_elements (written.discrete d) = discrete_elements d
  base_elements (written.powerset at d) = discrete_elements d
  base_elements (written.chars at e) = none_of e
  base_elements (written.structure at fs p) = fields_elements fs
  base_elements (written.array at i b s) =
      elements_of_two (mentions_of_index i ++ mentions_of_base b) (mentions_of_spread s) (flat (sets_in_base b)) []
      (elements_of_two (mentions_of_index i) (mentions_of_base b) [] (flat (sets_in_base b)) (none_in_index i) (base_elements b)) (none_in_spread s) ∙ append-nil (flat (sets_in_base b))

  fields_elements : (fs : written.FieldNodes) → elements_in (mentions_of_fields fs) ≡ flat (sets_in_fields fs)
  fields_elements written.no_fields = refl
  fields_elements (written.more_fields ns b p fs) =
      elements_of_two (mentions_of_base b ++ mentions_of_some_place p) (mentions_of_fields fs) (flat (sets_in_base b)) (flat (sets_in_fields fs))
      (elements_of_two (mentions_of_base b) (mentions_of_some_place p) (flat (sets_in_base b)) [] (base_elements b) (none_in_some_place p) ∙ append-nil (flat (sets_in_base b))) (fields_elements fs)
      ∙ sym (flat_map-append identifiers (sets_in_base b) (sets_in_fields fs))

mode_elements : (m : written.ModeTree) → elements_in (mentions_of_mode m) ≡ flat (sets_in m)
mode_elements (written.base_mode b) = base_elements b
mode_elements (written.read_mode at b) = base_elements b
mode_elements (written.event_mode at l) = none_of_some l
mode_elements (written.buffer_mode at l b) = elements_of_two (mentions_of_some l) (mentions_of_base b) [] (flat (sets_in_base b)) (none_of_some l) (base_elements b)

-- ---- the origins of elements

length-snoc : (ns : List Name) (n : Name) → length (ns ++ n ∷ []) ≡ suc (length ns)
length-snoc [] n = refl
length-snoc (m ∷ ns) n = ap suc (length-snoc ns n)

got_behind : (pre ns : List Name) (n : Name) → slice_get (pre ++ n ∷ ns) (length pre) ≡ Some n
got_behind [] ns n = refl
got_behind (p ∷ pre) ns n = got_behind pre ns n

element_at : (inside : Inside) (owner : Option (Name × Bool)) (all pre ns : List Name) (n : Name) (k : ℕ) → all ≡ pre ++ n ∷ ns → k ≡ length pre → Defines (an_element all k owner) (defined inside kinds.Element (identifier n))
element_at inside owner all pre ns n k is at = (refl, rw (is, at) (ap (option_map identifier) (got_behind pre ns n)))

elements_from : (inside : Inside) (owner : Option (Name × Bool)) (all pre ns : List Name) (k : ℕ) → all ≡ pre ++ ns → k ≡ length pre
    → AllDefine (map (λ part. an_element all part owner) (numbers_on k (length ns))) (elements_defined inside (identifiers ns))
elements_from inside owner all pre [] k is at = tt
elements_from inside owner all pre (n ∷ ns) k is at = (
  element_at inside owner all pre ns n k is at,
  elements_from inside owner all (pre ++ n ∷ []) ns (suc k) (is ∙ sym (append_assoc pre (n ∷ []) ns)) (ap suc at ∙ sym (length-snoc pre n)),
)

set_elements : (inside : Inside) (owner : Option (Name × Bool)) (ns : List Name) → AllDefine (elements owner ns) (elements_defined inside (identifiers ns))
set_elements inside owner ns = elements_from inside owner ns [] ns 0 refl refl

sets_elements : (inside : Inside) (owner : Option (Name × Bool)) (sets : List (List Name)) → AllDefine (flat_map (elements owner) sets) (elements_defined inside (flat sets))
sets_elements inside owner [] = tt
sets_elements inside owner (ns ∷ sets) =
    subst (λ ds. AllDefine (elements owner ns ++ flat_map (elements owner) sets) ds) (sym (map-append (defined inside kinds.Element) (identifiers ns) (flat sets)))
    (both (elements owner ns) (flat_map (elements owner) sets) (elements_defined inside (identifiers ns)) (elements_defined inside (flat sets)) (set_elements inside owner ns) (sets_elements inside owner sets))

elements_with_text : (inside : Inside) (owner : Option (Name × Bool)) (sets : List (List Name)) (ms : List Mention) → elements_in ms ≡ flat sets → AllDefine (flat_map (elements owner) sets) (elements_defined inside (elements_in ms))
elements_with_text inside owner sets ms same = subst (λ xs. AllDefine (flat_map (elements owner) sets) (elements_defined inside xs)) (sym same) (sets_elements inside owner sets)

abbrev sets_of_some : Option written.ModeTree → List (List Name)
sets_of_some None = []
sets_of_some (Some m) = sets_in m

some_mode_elements : (m : Option written.ModeTree) → elements_in (mentions_of_some_mode m) ≡ flat (sets_of_some m)
some_mode_elements None = refl
some_mode_elements (Some m) = mode_elements m

some_elements : (m : Option written.ModeTree) → flat_map (elements None) (sets_of_some m) ≡ elements_of_some m
some_elements None = refl
some_elements (Some m) = refl

-- ---- clauses

names_alike : (o : Origin) (f : Identifier → Definition) (ns : List Name) → ((n : Identifier) → Contains (identifiers ns) n → Defines o (f n)) → AllDefine (replicate (length ns) o) (map f (identifiers ns))
names_alike o f [] each = tt
names_alike o f (n ∷ ns) each = (each (identifier n) (here_in (identifier n) (identifiers ns) (identifier n) refl), names_alike o f ns (λ m c. each m (later_in (identifier n) (identifiers ns) m c)))

-- what defines each name of a clause, and what defines its elements, which may stand elsewhere
clause_defined : (names around : Inside) (kind : Kind) (ns : List Name) (ms : List Mention) (o : Origin) (owner : Option (Name × Bool)) (sets : List (List Name))
    → ((n : Identifier) (inside : Inside) (count : ℕ) → Contains (identifiers ns) n → Defines o (record { name = n; kind = kind; inside = inside; elements = count }))
    → elements_in ms ≡ flat sets
    → AllDefine (replicate (length ns) o ++ flat_map (elements owner) sets) (names_defined names (clause kind ns ms) ++ elements_defined around (elements_in ms))
clause_defined names around kind ns ms o owner sets each same =
    both (replicate (length ns) o) (flat_map (elements owner) sets) (names_defined names (clause kind ns ms)) (elements_defined around (elements_in ms))
    (names_alike o (λ n. record { name = n; kind = kind; inside = names; elements = elements_with kind (elements_in ms) }) ns (λ n c. each n names (elements_with kind (elements_in ms)) c))
    (elements_with_text around owner sets ms same)

-- ---- parts

-- the parts of a reach define what the origins define
pub record Matched (os : List Origin) (ps : List PartTree) : Type 0 where
  pub by : (inside : Inside) (from : ℕ) → AllDefine os (definitions_in inside from (part_nodes ps))

definitions_split : (inside : Inside) (from : ℕ) (ps qs : List PartTree)
    → (k : ℕ) × (definitions_in inside from (part_nodes (ps ++ qs)) ≡ definitions_in inside from (part_nodes ps) ++ definitions_in inside k (part_nodes qs))
definitions_split inside from [] qs = (from, refl)
definitions_split inside from (p ∷ ps) qs =
    let h = definitions_split inside (from + size_of p) ps qs in
    (h.0, ap (λ ds. definitions_of inside from p ++ ds) h.1 ∙ sym (append_assoc (definitions_of inside from p) (definitions_in inside (from + size_of p) (part_nodes ps)) (definitions_in inside h.0 (part_nodes qs))))

nothing : Matched [] []
nothing = record { by = λ inside from. tt }

joined : {os us : List Origin} {ps qs : List PartTree} → Matched os ps → Matched us qs → Matched (os ++ us) (ps ++ qs)
joined {os = os} {us = us} {ps = ps} {qs = qs} m k = record {
  by = λ inside from.
      let h = definitions_split inside from ps qs in
      subst (λ ds. AllDefine (os ++ us) ds) (sym h.1) (both os us (definitions_in inside from (part_nodes ps)) (definitions_in inside h.0 (part_nodes qs)) (m.by inside from) (k.by inside h.0));
}

one_part : {os : List Origin} {p : PartTree} → ((inside : Inside) (from : ℕ) → AllDefine os (definitions_of inside from p)) → Matched os (p ∷ [])
one_part {os = os} {p = p} h = record { by = λ inside from. subst (λ ds. AllDefine os ds) (sym (append-nil (definitions_of inside from p))) (h inside from) }

none_mentioned : (ms : List Mention) → Matched [] (mentioned ms)
none_mentioned ms = record { by = λ inside from. each inside ms from }
  where
    each : (inside : Inside) (ms : List Mention) (from : ℕ) → AllDefine [] (definitions_in inside from (part_nodes (mentioned ms)))
    each inside [] from = tt
    each inside (m ∷ ms) from = each inside ms (from + 0)

blocked : {os : List Origin} {ps : List PartTree} → Matched os ps → Matched os (block_of ps ∷ [])
blocked m = one_part (λ inside from. m.by (within inside) from)

-- a clause alone
clause_part : (kind : Kind) (ns : List Name) (ms : List Mention) (o : Origin) (owner : Option (Name × Bool)) (sets : List (List Name))
    → ((n : Identifier) (inside : Inside) (count : ℕ) → Contains (identifiers ns) n → Defines o (record { name = n; kind = kind; inside = inside; elements = count }))
    → elements_in ms ≡ flat sets
    → Matched (replicate (length ns) o ++ flat_map (elements owner) sets) (define (clause kind ns ms) ∷ [])
clause_part kind ns ms o owner sets each same = one_part (λ inside from. clause_defined inside inside kind ns ms o owner sets each same)

-- ---- definition statements

synonym_matched : (s : SynonymTree) → Matched (origins_of_synonym s) (synonym_part s ∷ [])
synonym_matched s =
    subst (λ es. Matched (replicate (length s.names) (a_synonym s) ++ es) (synonym_part s ∷ [])) (some_elements s.mode)
    (clause_part kinds.Synonym s.names (mentions_of_some_mode s.mode ++ mentions_of s.value) (a_synonym s) None (sets_of_some s.mode) (λ n inside count c. (refl, c))
    (elements_of_two (mentions_of_some_mode s.mode) (mentions_of s.value) (flat (sets_of_some s.mode)) [] (some_mode_elements s.mode) (none_of s.value) ∙ append-nil (flat (sets_of_some s.mode))))

mode_matched : (novel : Bool) (d : ModeDefinitionTree) → Matched (origins_of_mode novel d) (mode_part d ∷ [])
mode_matched novel d = clause_part kinds.Mode (d.name ∷ []) (mentions_of_mode d.mode) (a_mode novel d.mode) (owner_of novel d) (sets_in d.mode) (λ n inside count c. refl) (mode_elements d.mode)

initial_matched : (i : Option InitialTree) → Matched [] (initial_parts i)
initial_matched None = nothing
initial_matched (Some i) = none_mentioned (mentions_of i.value)

declaration_matched : (d : DeclarationTree) → Matched (origins_of_declaration d) (declaration_parts d)
declaration_matched d =
    subst (λ os. Matched os (declaration_parts d)) (append-nil (origins_of_declaration d))
    (joined (clause_part kinds.Location d.names (mentions_of_mode d.mode) (a_location d) None (sets_in d.mode) (λ n inside count c. (refl, c)) (mode_elements d.mode)) (initial_matched d.initial))

synonyms_matched : (ss : List SynonymTree) → Matched (flat_map origins_of_synonym ss) (map synonym_part ss)
synonyms_matched [] = nothing
synonyms_matched (s ∷ ss) = joined (synonym_matched s) (synonyms_matched ss)

modes_matched : (novel : Bool) (ds : List ModeDefinitionTree) → Matched (flat_map (origins_of_mode novel) ds) (map mode_part ds)
modes_matched novel [] = nothing
modes_matched novel (d ∷ ds) = joined (mode_matched novel d) (modes_matched novel ds)

declarations_matched : (ds : List DeclarationTree) → Matched (flat_map origins_of_declaration ds) (flat_map declaration_parts ds)
declarations_matched [] = nothing
declarations_matched (d ∷ ds) = joined (declaration_matched d) (declarations_matched ds)

local_matched : (l : LocalTree) → Matched (origins_of_local l) (local_parts l)
local_matched (synonyms at ss) = synonyms_matched ss
local_matched (syn_modes at ds) = modes_matched false ds
local_matched (new_modes at ds) = modes_matched true ds
local_matched (locations at ds) = declarations_matched ds

-- ---- actions

exit_matched : (labels : List Name) (n : Name) → Matched [] (exit_parts labels n)
exit_matched labels n = by (encloses labels n)
  where
    by : (b : Bool) → Matched [] (if b then [] else parts.stray (identifier n) ∷ [])
    by true = nothing
    by false = one_part (λ inside from. tt)

simple_matched : (labels : List Name) (a : SimpleTree) → Matched [] (simple_parts labels a)
simple_matched labels (assign at t v) = none_mentioned (mentions_of t ++ mentions_of v)
simple_matched labels (update at t o p v) = none_mentioned (mentions_of t ++ mentions_of v)
simple_matched labels (call_of at word n es) = none_mentioned (used needs.Action n ++ mentions_of_args (Some n) es)
simple_matched labels (exit at n) = exit_matched labels n
simple_matched labels (return_with at v) = none_mentioned (mentions_of_some v)
simple_matched labels (result_of at v) = none_mentioned (mentions_of v)
simple_matched labels (assert_that at c) = none_mentioned (mentions_of c)
simple_matched labels (cause at n) = nothing
simple_matched labels (stop at) = nothing
simple_matched labels (start_of at n es) = none_mentioned (used needs.Process n ++ mentions_of_args None es)
simple_matched labels (delay at n p) = none_mentioned (used needs.Location n ++ mentions_of_some p)
simple_matched labels (continue_event at n) = none_mentioned (used needs.Location n)
simple_matched labels (send at n es to p) = none_mentioned (used needs.Message n ++ mentions_of_some_args es ++ mentions_of_some to ++ mentions_of_some p)

control_matched : (c : ControlTree) → Matched [] (control_parts c)
control_matched (while_holds at c) = nothing
control_matched (for_ever at) = nothing
control_matched (for_members at n s c) = none_mentioned (mentions_of s)
control_matched (for_steps at n s b down e c) = none_mentioned (mentions_of s ++ mentions_of_some b ++ mentions_of e)

counter_matched : (c : ControlTree) (n : Name) → option_map identifier (counter_named c) ≡ Some (identifier n) → Matched (a_counter c ∷ []) (counter_part n ∷ [])
counter_matched c n is = one_part (λ inside from. ((refl, is), tt))

turn_matched : (c : ControlTree) → Matched (counters_in c) (turn_parts c)
turn_matched (while_holds at c) = none_mentioned (mentions_of c)
turn_matched (for_ever at) = nothing
turn_matched (for_members at n s c) = joined (counter_matched (for_members at n s c) n refl) (none_mentioned (mentions_of_some c))
turn_matched (for_steps at n s b down e c) = joined (counter_matched (for_steps at n s b down e c) n refl) (none_mentioned (mentions_of_some c))

received_from : (inside : Inside) (source : Name) (count k : ℕ) (ns : List Name)
    → AllDefine (map (a_received source count) (numbers_on k (length ns))) (map (λ n. record { name = n; kind = kinds.Received; inside = inside; elements = 0 }) (identifiers ns))
received_from inside source count k [] = tt
received_from inside source count k (n ∷ ns) = (refl, received_from inside source count (suc k) ns)

received_matched : (n : Name) (r : Option (List Name)) → Matched (received_in n r) (received_parts r)
received_matched n None = nothing
received_matched n (Some ns) = one_part (λ inside from.
    subst (λ ds. AllDefine (received_in n (Some ns)) ds) (sym (append-nil (names_defined inside (clause kinds.Received ns [])))) (received_from inside n (length ns) 0 ns))

mutual
  statement_matched : (s : StatementTree) (labels : List Name) → Matched (origins_in s) (statement_parts labels s)
  statement_matched (empty at) labels = nothing
  statement_matched (simple at a h) labels = joined (simple_matched labels a) (handler_matched h labels)
  statement_matched (bracketed at l a h closing) labels = joined (bracketed_matched a (labelled l labels)) (handler_matched h (labelled l labels))

  bracketed_matched : (a : BracketedTree) (labels : List Name) → Matched (origins_in_bracketed a) (bracketed_parts labels a)
  bracketed_matched (if_then at c ss bs o) labels = joined (joined (joined (none_mentioned (mentions_of c)) (each_matched ss labels)) (branches_matched bs labels)) (otherwise_matched o labels)
  bracketed_matched (case_of at e as' o) labels = joined (joined (none_mentioned (mentions_of e)) (cases_matched as' labels)) (otherwise_matched o labels)
  bracketed_matched (do_loop at c ss) labels = joined (control_matched c) (blocked (joined (turn_matched c) (each_matched ss labels)))
  bracketed_matched (begin_end at ps) labels = blocked (body_matched ps labels)
  bracketed_matched (delay_case at set p as') labels = joined (none_mentioned (mentions_of_some set ++ mentions_of_some p)) (events_matched as' labels)
  bracketed_matched (receive_case at set as' o) labels = joined (joined (none_mentioned (mentions_of_some set)) (receives_matched as' labels)) (otherwise_matched o labels)

  each_matched : (ss : StatementNodes) (labels : List Name) → Matched (origins_in_each ss) (action_parts labels ss)
  each_matched no_statements labels = nothing
  each_matched (more_statements s ss) labels = joined (statement_matched s labels) (each_matched ss labels)

  branches_matched : (bs : ElsIfNodes) (labels : List Name) → Matched (origins_in_branches bs) (branch_parts labels bs)
  branches_matched no_branches labels = nothing
  branches_matched (more_branches at c ss bs) labels = joined (joined (none_mentioned (mentions_of c)) (each_matched ss labels)) (branches_matched bs labels)

  cases_matched : (as' : CaseNodes) (labels : List Name) → Matched (origins_in_cases as') (case_parts labels as')
  cases_matched no_cases labels = nothing
  cases_matched (more_cases at ls ss as') labels = joined (joined (none_mentioned (mentions_of_ranges ls)) (each_matched ss labels)) (cases_matched as' labels)

  events_matched : (as' : NamedNodes) (labels : List Name) → Matched (origins_in_named as') (event_parts labels as')
  events_matched no_named labels = nothing
  events_matched (more_named at ns ss as') labels = joined (joined (none_mentioned (flat_map (used needs.Location) ns)) (blocked (each_matched ss labels))) (events_matched as' labels)

  receives_matched : (as' : ReceiveNodes) (labels : List Name) → Matched (origins_in_receives as') (receive_parts labels as')
  receives_matched no_receives labels = nothing
  receives_matched (more_receives at n r ss as') labels = joined (joined (none_mentioned (used needs.Message n)) (blocked (joined (received_matched n r) (each_matched ss labels)))) (receives_matched as' labels)

  otherwise_matched : (o : OtherwiseNode) (labels : List Name) → Matched (origins_in_otherwise o) (otherwise_parts labels o)
  otherwise_matched no_otherwise labels = nothing
  otherwise_matched (otherwise ss) labels = each_matched ss labels

  handler_matched : (h : HandlerNode) (labels : List Name) → Matched (origins_in_handler h) (handler_parts labels h)
  handler_matched no_handler labels = nothing
  handler_matched (handler at as' o) labels = blocked (joined (exceptions_matched as' labels) (otherwise_matched o labels))

  exceptions_matched : (as' : NamedNodes) (labels : List Name) → Matched (origins_in_named as') (exception_parts labels as')
  exceptions_matched no_named labels = nothing
  exceptions_matched (more_named at ns ss as') labels = joined (each_matched ss labels) (exceptions_matched as' labels)

  body_matched : (ps : BodyNodes) (labels : List Name) → Matched (origins_in_parts ps) (body_parts labels ps)
  body_matched no_parts labels = nothing
  body_matched (more_locals l ps) labels = joined (local_matched l) (body_matched ps labels)
  body_matched (more_actions s ps) labels = joined (statement_matched s labels) (body_matched ps labels)

-- ---- items

seized_matched : (passed : Passed) → Matched [] (seized passed)
seized_matched (Names ns) = record { by = λ inside from. each inside ns from }
  where
    each : (inside : Inside) (ns : List Name) (from : ℕ) → AllDefine [] (definitions_in inside from (part_nodes (map (λ n. seize (identifier n)) ns)))
    each inside [] from = tt
    each inside (n ∷ ns) from = each inside ns (from + 0)
seized_matched (All at) = one_part (λ inside from. tt)

granted_matched : (passed : Passed) → Matched [] (granted passed)
granted_matched (Names ns) = record { by = λ inside from. each inside ns from }
  where
    each : (inside : Inside) (ns : List Name) (from : ℕ) → AllDefine [] (definitions_in inside from (part_nodes (map (λ n. grant (identifier n)) ns)))
    each inside [] from = tt
    each inside (n ∷ ns) from = each inside ns (from + 0)
granted_matched (All at) = one_part (λ inside from. tt)

receiver_matched : (n : Option Name) → Matched [] (receiver_parts n)
receiver_matched None = nothing
receiver_matched (Some n) = none_mentioned (used needs.Process n)

many_elements : (ms : List written.ModeTree) → elements_in (flat_map mentions_of_mode ms) ≡ flat (flat_map sets_in ms)
many_elements [] = refl
many_elements (m ∷ ms) =
    elements_of_two (mentions_of_mode m) (flat_map mentions_of_mode ms) (flat (sets_in m)) (flat (flat_map sets_in ms)) (mode_elements m) (many_elements ms) ∙ sym (flat_map-append identifiers (sets_in m) (flat_map sets_in ms))

many_origins : (ms : List written.ModeTree) → flat_map (elements None) (flat_map sets_in ms) ≡ flat_map (elements_of None) ms
many_origins [] = refl
many_origins (m ∷ ms) = flat_map-append (elements None) (sets_in m) (flat_map sets_in ms) ∙ ap (λ os. elements_of None m ++ os) (many_origins ms)

abbrev origins_of_parts : Option (List written.ModeTree) → List Origin
origins_of_parts None = []
origins_of_parts (Some ms) = flat_map (elements_of None) ms

parts_matched : (o : Origin) (n : Name) (ms : Option (List written.ModeTree)) → ((inside : Inside) (count : ℕ) → Defines o (record { name = identifier n; kind = kinds.Signal; inside = inside; elements = count }))
    → Matched (o ∷ origins_of_parts ms) (define (clause kinds.Signal (n ∷ []) (mentions_of_parts ms)) ∷ [])
parts_matched o n None own = one_part (λ inside from. (own inside 0, tt))
parts_matched o n (Some ms) own =
    one_part (λ inside from. (own inside 0, subst (λ os. AllDefine os (elements_defined inside (elements_in (flat_map mentions_of_mode ms)))) (many_origins ms) (elements_with_text inside None (flat_map sets_in ms) (flat_map mentions_of_mode ms) (many_elements ms))))

signal_matched : (s : SignalTree) → Matched (origins_of_signal s) (signal_parts s)
signal_matched s =
    subst (λ os. Matched os (signal_parts s)) (append-nil (origins_of_signal s))
    (joined (parts_matched (a_signal s) s.name s.parts (λ inside count. (refl, refl))) (receiver_matched s.process))

signals_matched : (ss : List SignalTree) → Matched (flat_map origins_of_signal ss) (flat_map signal_parts ss)
signals_matched [] = nothing
signals_matched (s ∷ ss) = joined (signal_matched s) (signals_matched ss)

params_defined_by : (around body : Inside) (ps : List ParamTree) → AllDefine (flat_map origins_of_param ps) (params_defined around body (map param_clause ps))
params_defined_by around body [] = tt
params_defined_by around body (p ∷ ps) =
    both (origins_of_param p) (flat_map origins_of_param ps) (names_defined body (param_clause p) ++ elements_defined around (elements_in (mentions_of_mode p.mode))) (params_defined around body (map param_clause ps))
    (clause_defined body around kinds.Parameter p.names (mentions_of_mode p.mode) (a_parameter p.mode) None (sets_in p.mode) (λ n inside count c. refl) (mode_elements p.mode)) (params_defined_by around body ps)

formals_defined_by : (around body : Inside) (ps : List FormalTree) → AllDefine (flat_map origins_of_formal ps) (params_defined around body (map formal_clause ps))
formals_defined_by around body [] = tt
formals_defined_by around body (p ∷ ps) =
    both (origins_of_formal p) (flat_map origins_of_formal ps) (names_defined body (formal_clause p) ++ elements_defined around (elements_in (mentions_of_mode p.mode))) (params_defined around body (map formal_clause ps))
    (clause_defined body around kinds.Parameter p.names (mentions_of_mode p.mode) (a_parameter p.mode) None (sets_in p.mode) (λ n inside count c. refl) (mode_elements p.mode)) (formals_defined_by around body ps)

body_of_matched : (ps : List BodyTree) (h : Option HandlerTree) → Matched (origins_of_body ps h) (whole_body ps h)
body_of_matched ps h = joined (body_matched (body_nodes ps) []) (handler_matched (handler_node h) [])

result_defined : (inside : Inside) (m : Option written.ModeTree) → AllDefine (elements_of_some m) (elements_defined inside (elements_in (mentions_of_some_mode m)))
result_defined inside m = subst (λ os. AllDefine os (elements_defined inside (elements_in (mentions_of_some_mode m)))) (some_elements m) (elements_with_text inside None (sets_of_some m) (mentions_of_some_mode m) (some_mode_elements m))

-- a routine: its own name, its head, and its body
routine_matched : (o : Origin) (head body : List Origin) (n : Identifier) (kind : Kind) (params : List Clause) (result : List Mention) (ps : List PartTree)
    → ((inside : Inside) → Defines o (defined inside kind n))
    → ((around inside : Inside) → AllDefine head (params_defined around inside params ++ elements_defined around (elements_in result)))
    → Matched body ps
    → Matched (o ∷ head ++ body) (routine n kind params result (sizes_of (part_nodes ps)) (part_nodes ps) ∷ [])
routine_matched o head body n kind params result ps own heads inner = one_part (λ inside from. (
  own inside,
  both head body (params_defined inside (Body from) params ++ elements_defined inside (elements_in result)) (definitions_in (Body from) (from + head_size params result) (part_nodes ps))
      (heads inside (Body from)) (inner.by (Body from) (from + head_size params result)),
))

procedure_matched : (p : ProcedureTree) → Matched (origins_of_procedure p) (procedure_part p ∷ [])
procedure_matched p =
    routine_matched (a_procedure p) (flat_map origins_of_param p.params ++ elements_of_some p.returns) (origins_of_body p.body p.handler) (identifier p.name) kinds.Procedure (map param_clause p.params) (mentions_of_some_mode p.returns) (whole_body p.body p.handler)
    (λ inside. (refl, refl))
    (λ around inside. both (flat_map origins_of_param p.params) (elements_of_some p.returns) (params_defined around inside (map param_clause p.params)) (elements_defined around (elements_in (mentions_of_some_mode p.returns))) (params_defined_by around inside p.params) (result_defined around p.returns))
    (body_of_matched p.body p.handler)

process_matched : (p : ProcessTree) → Matched (origins_of_process p) (process_part p ∷ [])
process_matched p =
    routine_matched (a_process p) (flat_map origins_of_formal p.formals) (origins_of_body p.body p.handler) (identifier p.name) kinds.Process (map formal_clause p.formals) [] (whole_body p.body p.handler)
    (λ inside. (refl, refl))
    (λ around inside. subst (λ ds. AllDefine (flat_map origins_of_formal p.formals) ds) (sym (append-nil (params_defined around inside (map formal_clause p.formals)))) (formals_defined_by around inside p.formals))
    (body_of_matched p.body p.handler)

mutual
  item_matched : (i : ItemTree) → Matched (origins_of_item i) (item_parts i)
  item_matched (seize_item at passed) = seized_matched passed
  item_matched (grant_item at passed) = granted_matched passed
  item_matched (local_item l) = local_matched l
  item_matched (signals at ss) = signals_matched ss
  item_matched (procedure p) = procedure_matched p
  item_matched (process p) = process_matched p
  item_matched (modulion_of n kind items h closing) =
      let inner = joined (items_matched items) (handler_matched (handler_node h) []) in
      one_part (λ inside from. (refl, inner.by (Modulion from) (suc from)))
  item_matched (action s) = statement_matched s []

  items_matched : (is : ItemNodes) → Matched (origins_of_items is) (each_item is)
  items_matched no_items = nothing
  items_matched (more_items i is) = joined (item_matched i) (items_matched is)

modulions_matched : (ms : List ModulionTree) → Matched (flat_map (λ m. origins_of_item (modulion_item m)) ms) (flat_map (λ m. item_parts (modulion_item m)) ms)
modulions_matched [] = nothing
modulions_matched (m ∷ ms) = joined (item_matched (modulion_item m)) (modulions_matched ms)

-- ---- predefined names

predefined_defined : AllDefine predefined_origins predefined
predefined_defined = (
  (refl, inl refl),
  (
    (refl, inr refl),
    (
      (refl, inl refl),
      (
        (refl, inr refl),
        (
          (refl, inl refl),
          (
            (refl, inr refl),
            (
              (refl, inl refl),
              (
                (refl, inr refl),
                (
                  (refl, inl refl),
                  (
                    (refl, inr refl),
                    (
                      (refl, inl refl),
                      (
                        (refl, inr refl),
                        (
                          (refl, inl refl),
                          (
                            (refl, inr refl),
                            (
                              (refl, inl refl),
                              (
                                (refl, inr refl),
                                (
                                  (refl, inl refl),
                                  (
                                    (refl, inr refl),
                                    (
                                      (refl, inl refl),
                                      (
                                        (refl, inr refl),
                                        (
                                          (refl, inl refl),
                                          (
                                            (refl, inr refl),
                                            (
                                              (refl, inl refl),
                                              (
                                                (refl, inr refl),
                                                (
                                                  (refl, inl refl),
                                                  (
                                                    (refl, inr refl),
                                                    (
                                                      (refl, inl refl),
                                                      (
                                                        (refl, inr refl),
                                                        (
                                                          (refl, inl refl),
                                                          (
                                                            (refl, inr refl),
                                                            (
                                                              (refl, inl refl),
                                                              (
                                                                (refl, inr refl),
                                                                (
                                                                  (refl, inl refl),
                                                                  (
                                                                    (refl, inr refl),
                                                                    (
                                                                      (refl, inl refl),
                                                                      (
                                                                        (refl, inr refl),
                                                                        (
                                                                          (refl, inl refl),
                                                                          (
                                                                            (refl, inr refl),
                                                                            (
                                                                              (refl, inl refl),
                                                                              (
                                                                                (refl, inr refl),
                                                                                ((refl, inl refl), ((refl, inr refl), tt)),
                                                                              ),
                                                                            ),
                                                                          ),
                                                                        ),
                                                                      ),
                                                                    ),
                                                                  ),
                                                                ),
                                                              ),
                                                            ),
                                                          ),
                                                        ),
                                                      ),
                                                    ),
                                                  ),
                                                ),
                                              ),
                                            ),
                                          ),
                                        ),
                                      ),
                                    ),
                                  ),
                                ),
                              ),
                            ),
                          ),
                        ),
                      ),
                    ),
                  ),
                ),
              ),
            ),
          ),
        ),
      ),
    ),
  ),
)

pub origins_define : OriginsLaw
origins_define t = both (text_origins t) predefined_origins (text_definitions (level_of t)) predefined (let m = modulions_matched t.modulions in m.by Outermost 0) predefined_defined
