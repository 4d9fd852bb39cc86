-- What defines something in a text: its SETs' elements are among the definitions, and so are the names of the modes that SETs are
-- the whole of; and what holds of each mention in the text's parts holds of those in its text.
use Rattle.std.proofs.Common.{◌≡◌, ℕ, suc, ◌+◌, Bool, true, false, List, [], ◌∷◌, ◌++◌, Option, Some, None, ◌⊎◌, inl, inr, length, refl, sym, ap, ◌∙◌, subst, append_assoc, append-nil}
use Rattle.std.specs.Prelude.{map, flat_map, replicate, if◌then◌else◌}
use Rattle.chill_base.specs.declared.pos.Pos.{Pos}
use Rattle.chill_tree.specs.declared.tree.name.Name.{Name}
use Rattle.chill_tree.specs.ModeTree as written
use Rattle.chill_tree.specs.LocalTree.{SynonymTree, ModeDefinitionTree, DeclarationTree, LocalTree, synonyms, syn_modes, new_modes, locations}
use Rattle.chill_tree.specs.SimpleTree.{ControlTree, while_holds, for_ever, for_members, for_steps}
use Rattle.chill_tree.specs.StatementTree.{StatementTree, BracketedTree, StatementNodes, ElsIfNodes, CaseNodes, NamedNodes, ReceiveNodes, OtherwiseNode, HandlerNode, BodyNodes, HandlerTree, BodyTree, empty, simple, bracketed, if_then, case_of, do_loop, begin_end, delay_case, receive_case, no_statements, more_statements, no_branches, more_branches, no_cases, more_cases, no_named, more_named, no_receives, more_receives, no_otherwise, otherwise, no_handler, handler, no_parts, more_locals, more_actions, handler_node, body_nodes}
use Rattle.chill_tree.specs.ItemTree.{SignalTree, ParamTree, ProcedureTree, FormalTree, ProcessTree, ItemTree, ItemNodes, local_item, signals, procedure, process, action, no_items, more_items, ModulionTree, modulion_item, ProgramTree}
use Rattle.chill_tree.specs.ItemTree.{seize as seize_item, grant as grant_item, modulion as modulion_of}
use Rattle.names_model.specs.declared.definition.Inside.{Inside}
use Rattle.names_model.specs.declared.definition.Inside.TheVariants.{Outermost, Modulion, Body}
use Rattle.names_model.specs.declared.definition.Definition.{Definition}
use Rattle.names_model.specs.declared.kind.Kind.{Kind}
use Rattle.names_model.specs.declared.kind.Kind.TheVariants as kinds
use Rattle.names_model.specs.declared.kind.Need.TheVariants as needs
use Rattle.names_model.specs.declared.identifier.Identifier.{Identifier}
use Rattle.names_model.specs.declared.part.Mention.{Mention}
use Rattle.names_model.specs.declared.part.Mention.TheVariants.{Use}
use Rattle.names_model.specs.declared.part.Clause.{Clause}
use Rattle.names_model.specs.Identifiers.{identifier, identifiers}
use Rattle.names_model.specs.Parts.{PartTree, mention, routine, part_nodes}
use Rattle.names_model.specs.Sizes.{elements_in, head_size, size_of, sizes_of, block_of}
use Rattle.names_model.specs.Definitions.{within, defined, elements_defined, elements_with, params_defined, definitions_of, definitions_in, text_definitions, numbers_on}
use Rattle.names_model.specs.ExprMentions.{used, mentions_of, mentions_of_some, mentions_of_ranges}
use Rattle.names_model.specs.ModeMentions.{mentions_of_mode, mentions_of_some_mode}
use Rattle.names_model.specs.StatementParts.{clause, mentioned, synonym_part, mode_part, initial_parts, declaration_parts, local_parts, simple_parts, control_parts, turn_parts, labelled, received_parts, statement_parts, bracketed_parts, action_parts, branch_parts, case_parts, event_parts, receive_parts, otherwise_parts, handler_parts, exception_parts, body_parts}
use Rattle.names_model.specs.ItemParts.{seized, granted, receiver_parts, mentions_of_parts, signal_parts, param_clause, formal_clause, whole_body, procedure_part, process_part, item_parts, each_item}
use Rattle.names_model.specs.Resolving.{level_of}
use Rattle.checks_model.specs.Ground.{Origin, a_synonym, a_mode, an_element, a_location, a_parameter, a_counter, a_received, a_procedure, a_process, a_signal, a_modulion, a_predefined}
use Rattle.checks_model.specs.Origins.{is_set, sets_in, elements, elements_of, elements_of_some, origins_of_synonym, owner_of, origins_of_mode, origins_of_declaration, origins_of_local, counters_in, received_in, origins_in, origins_in_bracketed, origins_in_each, origins_in_branches, origins_in_cases, origins_in_named, origins_in_receives, origins_in_otherwise, origins_in_handler, origins_in_parts, origins_of_signal, origins_of_param, origins_of_formal, origins_of_procedure, origins_of_process, origins_of_item, origins_of_items, text_origins}
use Rattle.written_laws.specs.Written.{Each}
use Rattle.written_laws.proofs.Shown.{each_append, each_map, each_any, each_flat, each_same}
use Rattle.written_laws.proofs.Texts.{AllPass, ClausePasses, HeadPasses, PartPasses, PartsPass, parts_split, TextPasses, elements_pass, some_pass, many_pass, names_pass}
use Rattle.written_laws.proofs.Rows.{row_of, no_text, rows_of_clause, rows_of_params, rows_of, rows_in, rows_split, IsSized, AreSized, sized_both, DefineNothing, no_rows, nothing_sized, mentions_define, simple_defines, control_defines, initial_defines, receiver_defines, seized_define, granted_define, some_count, many_count, HaveNoText, no_text_rows, elements_without, some_without, names_rows, mode_elements_count, synonym_count}
use Rattle.std.proofs.lemmas.List.{length-map, map-append}
use Rattle.written_laws.proofs.Sets.{length-numbers, HasElements, HasSets, Closed, each_more, sets_of, sets_of_parts, sets_before, closed_both, sets_have, elements_closed, with_elements, some_closed, some_have, many_closed, many_have}

-- ---- names at places

-- some definition's name stands at the place
abbrev pub IsNamedAt : List Definition → Pos → Type 0
IsNamedAt [] at = ⊥
IsNamedAt (d ∷ ds) at = (d.name.at ≡ at) ⊎ IsNamedAt ds at

named_first : (ds es : List Definition) (at : Pos) → IsNamedAt ds at → IsNamedAt (ds ++ es) at
named_first [] es at is = absurd is
named_first (d ∷ ds) es at (inl same) = inl same
named_first (d ∷ ds) es at (inr there) = inr (named_first ds es at there)

named_later : (ds es : List Definition) (at : Pos) → IsNamedAt es at → IsNamedAt (ds ++ es) at
named_later [] es at is = is
named_later (d ∷ ds) es at is = inr (named_later ds es at is)

abbrev pub IsSomeNamed : List Definition → Option (Name × Bool) → Type 0
IsSomeNamed ds None = Unit {0}
IsSomeNamed ds (Some o) = IsNamedAt ds o.0.at

abbrev pub has_element : List Name → Bool
has_element [] = false
has_element (n ∷ ns) = true

-- An element is of a SET that has one, and the mode that this SET is the whole of is defined. What a text defines isn't predefined.
abbrev pub IsOwned : List Definition → Origin → Type 0
IsOwned ds (an_element ns part owner) = (has_element ns ≡ true) × IsSomeNamed ds owner
IsOwned ds (a_predefined p) = ⊥
IsOwned ds o = Unit {0}

some_first : (ds es : List Definition) (owner : Option (Name × Bool)) → IsSomeNamed ds owner → IsSomeNamed (ds ++ es) owner
some_first ds es None is = tt
some_first ds es (Some o) is = named_first ds es o.0.at is

some_later : (ds es : List Definition) (owner : Option (Name × Bool)) → IsSomeNamed es owner → IsSomeNamed (ds ++ es) owner
some_later ds es None is = tt
some_later ds es (Some o) is = named_later ds es o.0.at is

owned_first : (ds es : List Definition) (o : Origin) → IsOwned ds o → IsOwned (ds ++ es) o
owned_first ds es (an_element ns part owner) is = (is.0, some_first ds es owner is.1)
owned_first ds es (a_synonym s) is = tt
owned_first ds es (a_mode novel w) is = tt
owned_first ds es (a_location d) is = tt
owned_first ds es (a_parameter w) is = tt
owned_first ds es (a_counter c) is = tt
owned_first ds es (a_received n count part) is = tt
owned_first ds es (a_procedure p) is = tt
owned_first ds es (a_process p) is = tt
owned_first ds es (a_signal s) is = tt
owned_first ds es (a_modulion kind items) is = tt
owned_first ds es (a_predefined p) is = is

owned_later : (ds es : List Definition) (o : Origin) → IsOwned es o → IsOwned (ds ++ es) o
owned_later ds es (an_element ns part owner) is = (is.0, some_later ds es owner is.1)
owned_later ds es (a_synonym s) is = tt
owned_later ds es (a_mode novel w) is = tt
owned_later ds es (a_location d) is = tt
owned_later ds es (a_parameter w) is = tt
owned_later ds es (a_counter c) is = tt
owned_later ds es (a_received n count part) is = tt
owned_later ds es (a_procedure p) is = tt
owned_later ds es (a_process p) is = tt
owned_later ds es (a_signal s) is = tt
owned_later ds es (a_modulion kind items) is = tt
owned_later ds es (a_predefined p) is = is

-- ---- elements

element_owned : (ds : List Definition) (owner : Option (Name × Bool)) (ns : List Name) → IsSomeNamed ds owner → Each (IsOwned ds) (elements owner ns)
element_owned ds owner [] named = tt
element_owned ds owner (n ∷ ns) named =
    each_map (λ k. Unit {0}) (IsOwned ds) (λ part. an_element (n ∷ ns) part owner) (λ k fits. (refl, named)) (numbers_on 0 (length (n ∷ ns))) (each_any (λ k. Unit {0}) (λ k. tt) (numbers_on 0 (length (n ∷ ns))))

elements_owned : (ds : List Definition) (owner : Option (Name × Bool)) (sets : List (List Name)) → IsSomeNamed ds owner → Each (IsOwned ds) (flat_map (elements owner) sets)
elements_owned ds owner sets named = each_flat (λ ns. Unit {0}) (IsOwned ds) (elements owner) (λ ns fits. element_owned ds owner ns named) sets (each_any (λ ns. Unit {0}) (λ ns. tt) sets)

some_owned : (ds : List Definition) (w : Option written.ModeTree) → Each (IsOwned ds) (elements_of_some w)
some_owned ds None = tt
some_owned ds (Some w) = elements_owned ds None (sets_in w) tt

many_owned : (ds : List Definition) (ws : List written.ModeTree) → Each (IsOwned ds) (flat_map (elements_of None) ws)
many_owned ds ws = each_flat (λ w. Unit {0}) (IsOwned ds) (elements_of None) (λ w fits. elements_owned ds None (sets_in w) tt) ws (each_any (λ w. Unit {0}) (λ w. tt) ws)

-- ---- parts

-- what the parts of a reach define is so, where something is mentioned before them
pub record DefiningBehind (before : List Mention) (os : List Origin) (ps : List PartTree) : Type 0 where
  pub closed : Closed os
  pub owned : (inside : Inside) (from : ℕ) → Each (IsOwned (definitions_in inside from (part_nodes ps))) os
  pub passing : (test : Mention → Bool) → AllPass test before → PartsPass test (part_nodes ps) → Each (TextPasses test) os
  pub rows : map row_of os ≡ rows_in (part_nodes ps)
  pub sized : AreSized (part_nodes ps)

abbrev pub Defining : List Origin → List PartTree → Type 0
Defining os ps = DefiningBehind [] os ps

definitions_split : (inside : Inside) (from : ℕ) (ps qs : List PartTree)
    → (k : ℕ) × (definitions_in inside from (part_nodes (ps ++ qs)) ≡ definitions_in inside from (part_nodes ps) ++ definitions_in inside k (part_nodes qs))
definitions_split inside from [] qs = (from, refl)
definitions_split inside from (p ∷ ps) qs =
    let h = definitions_split inside (from + size_of p) ps qs in
    (h.0, ap (λ ds. definitions_of inside from p ++ ds) h.1 ∙ sym (append_assoc (definitions_of inside from p) (definitions_in inside (from + size_of p) (part_nodes ps)) (definitions_in inside h.0 (part_nodes qs))))

pub nothing : (ps : List PartTree) → DefineNothing ps → Defining [] ps
nothing ps none = record { closed = tt; owned = λ inside from. tt; passing = λ test before pass. tt; rows = sym (no_rows ps none); sized = nothing_sized ps none }

-- parts that mention names
pub mentions_alone : (ms : List Mention) → Defining [] (mentioned ms)
mentions_alone ms = nothing (mentioned ms) (mentions_define ms)

-- what has no owner
unowned : {before : List Mention} (os : List Origin) (ps : List PartTree) → Closed os → ((ds : List Definition) → Each (IsOwned ds) os) → ((test : Mention → Bool) → AllPass test before → PartsPass test (part_nodes ps) → Each (TextPasses test) os)
    → map row_of os ≡ rows_in (part_nodes ps) → AreSized (part_nodes ps) → DefiningBehind before os ps
unowned os ps closed owned passing rows sized = record { closed = closed; owned = λ inside from. owned (definitions_in inside from (part_nodes ps)); passing = passing; rows = rows; sized = sized }

pub joined : {before : List Mention} {os us : List Origin} {ps qs : List PartTree} → DefiningBehind before os ps → DefiningBehind before us qs → DefiningBehind before (os ++ us) (ps ++ qs)
joined {os = os} {us = us} {ps = ps} {qs = qs} m k = record {
  closed = closed_both os us m.closed k.closed;
  owned = λ inside from.
      let h = definitions_split inside from ps qs in
      let ds = definitions_in inside from (part_nodes ps) in
      let es = definitions_in inside h.0 (part_nodes qs) in
      subst (λ fs. Each (IsOwned fs) (os ++ us)) (sym h.1)
      (each_append (IsOwned (ds ++ es)) os us (each_more (IsOwned ds) (IsOwned (ds ++ es)) (owned_first ds es) os (m.owned inside from)) (each_more (IsOwned es) (IsOwned (ds ++ es)) (owned_later ds es) us (k.owned inside h.0)));
  passing = λ test before pass. let h = parts_split test ps qs pass in each_append (TextPasses test) os us (m.passing test before h.0) (k.passing test before h.1);
  rows = map-append row_of os us ∙ ap (λ rs. rs ++ map row_of us) m.rows ∙ ap (λ rs. rows_in (part_nodes ps) ++ rs) k.rows ∙ sym (rows_split ps qs);
  sized = sized_both ps qs m.sized k.sized;
}

one_part : {before : List Mention} {os : List Origin} {p : PartTree} → Closed os → ((inside : Inside) (from : ℕ) → Each (IsOwned (definitions_of inside from p)) os) → ((test : Mention → Bool) → AllPass test before → PartPasses test p → Each (TextPasses test) os)
    → map row_of os ≡ rows_of p → IsSized p → DefiningBehind before os (p ∷ [])
one_part {os = os} {p = p} closed h passing rows sized = record {
  closed = closed;
  owned = λ inside from. subst (λ ds. Each (IsOwned ds) os) (sym (append-nil (definitions_of inside from p))) (h inside from);
  passing = λ test before pass. passing test before pass.0;
  rows = rows ∙ sym (append-nil (rows_of p));
  sized = (sized, tt);
}

pub blocked : {before : List Mention} {os : List Origin} {ps : List PartTree} → DefiningBehind before os ps → DefiningBehind before os (block_of ps ∷ [])
blocked m = one_part m.closed (λ inside from. m.owned (within inside) from) m.passing m.rows (refl, m.sized)

-- what is mentioned before doesn't matter, or is mentioned at the head of the parts
pub behind : {before : List Mention} {os : List Origin} {ps : List PartTree} → Defining os ps → DefiningBehind before os ps
behind m = record { closed = m.closed; owned = m.owned; passing = λ test before pass. m.passing test tt pass; rows = m.rows; sized = m.sized }

pub headed : {os : List Origin} {ps : List PartTree} (m : Mention) → DefiningBehind (m ∷ []) os ps → Defining os (mention m ∷ ps)
headed m k = record { closed = k.closed; owned = λ inside from. k.owned inside (from + 0); passing = λ test before pass. k.passing test (pass.0, tt) pass.1; rows = k.rows; sized = (tt, k.sized) }

-- ---- definition statements

-- names of one definition that owns no SET, then the elements in its mode
names_defining : (count : ℕ) (o : Origin) (inside : List Origin) (ps : List PartTree) → Each (HasElements inside) (sets_of o) → Closed inside → ((ds : List Definition) → IsOwned ds o) → ((ds : List Definition) → Each (IsOwned ds) inside)
    → ((test : Mention → Bool) → PartsPass test (part_nodes ps) → TextPasses test o) → ((test : Mention → Bool) → Each (TextPasses test) inside) → map row_of (replicate count o ++ inside) ≡ rows_in (part_nodes ps) → AreSized (part_nodes ps)
    → Defining (replicate count o ++ inside) ps
names_defining count o inside ps has closed own owned passing untold rows sized =
    unowned (replicate count o ++ inside) ps (with_elements count o inside has closed) (λ ds. each_append (IsOwned ds) (replicate count o) inside (each_same (IsOwned ds) count o (own ds)) (owned ds))
    (λ test before pass. names_pass test count o inside (passing test pass) (untold test)) rows sized

synonym_defining : (s : SynonymTree) → Defining (origins_of_synonym s) (synonym_part s ∷ [])
synonym_defining s = names_defining (length s.names) (a_synonym s) (elements_of_some s.mode) (synonym_part s ∷ []) (some_have s.mode) (some_closed s.mode) (λ ds. tt) (λ ds. some_owned ds s.mode) (λ test pass. pass.0) (λ test. some_pass test s.mode)
    (names_rows s.names (a_synonym s) (elements_of_some s.mode) (some_without s.mode) (synonym_count s) ∙ sym (append-nil (rows_of (synonym_part s)))) (tt, tt)

-- the owner of a mode's SET is the mode's own name, which stands first
owner_named : (b : Bool) (n : Name) (novel : Bool) (x : Definition) (ds : List Definition) → x.name.at ≡ n.at → IsSomeNamed (x ∷ ds) (if b then Some (n, novel) else None)
owner_named true n novel x ds same = inl same
owner_named false n novel x ds same = tt

mode_defining : (novel : Bool) (d : ModeDefinitionTree) → Defining (origins_of_mode novel d) (mode_part d ∷ [])
mode_defining novel d =
    one_part (with_elements 1 (a_mode novel d.mode) (elements_of (owner_of novel d) d.mode) (sets_have (owner_of novel d) (sets_in d.mode)) (elements_closed (owner_of novel d) (sets_in d.mode)))
    (λ inside from.
    let inner = elements_in (mentions_of_mode d.mode) in
    let own : Definition = record { name = identifier d.name; kind = kinds.Mode; inside = inside; elements = elements_with kinds.Mode inner } in
    (tt, elements_owned (definitions_of inside from (mode_part d)) (owner_of novel d) (sets_in d.mode) (owner_named (is_set d.mode) d.name novel own (elements_defined inside inner) refl)))
    (λ test before pass. (pass, elements_pass test (owner_of novel d) (sets_in d.mode)))
    (names_rows (d.name ∷ []) (a_mode novel d.mode) (elements_of (owner_of novel d) d.mode) (elements_without (owner_of novel d) (sets_in d.mode)) (mode_elements_count (owner_of novel d) d.mode)) tt

declaration_defining : (d : DeclarationTree) → Defining (origins_of_declaration d) (declaration_parts d)
declaration_defining d = names_defining (length d.names) (a_location d) (elements_of None d.mode) (declaration_parts d) (sets_have None (sets_in d.mode)) (elements_closed None (sets_in d.mode)) (λ ds. tt) (λ ds. elements_owned ds None (sets_in d.mode) tt)
    (λ test pass. pass.0) (λ test. elements_pass test None (sets_in d.mode))
    (names_rows d.names (a_location d) (elements_of None d.mode) (elements_without None (sets_in d.mode)) (mode_elements_count None d.mode) ∙ sym (append-nil (rows_of_clause false (clause kinds.Location d.names (mentions_of_mode d.mode))))
    ∙ ap (λ rs. rows_of_clause false (clause kinds.Location d.names (mentions_of_mode d.mode)) ++ rs) (sym (no_rows (initial_parts d.initial) (initial_defines d.initial)))) (tt, nothing_sized (initial_parts d.initial) (initial_defines d.initial))

synonyms_defining : (ss : List SynonymTree) → Defining (flat_map origins_of_synonym ss) (map synonym_part ss)
synonyms_defining [] = nothing [] tt
synonyms_defining (s ∷ ss) = joined (synonym_defining s) (synonyms_defining ss)

modes_defining : (novel : Bool) (ds : List ModeDefinitionTree) → Defining (flat_map (origins_of_mode novel) ds) (map mode_part ds)
modes_defining novel [] = nothing [] tt
modes_defining novel (d ∷ ds) = joined (mode_defining novel d) (modes_defining novel ds)

declarations_defining : (ds : List DeclarationTree) → Defining (flat_map origins_of_declaration ds) (flat_map declaration_parts ds)
declarations_defining [] = nothing [] tt
declarations_defining (d ∷ ds) = joined (declaration_defining d) (declarations_defining ds)

pub local_defining : (l : LocalTree) → Defining (origins_of_local l) (local_parts l)
local_defining (synonyms at ss) = synonyms_defining ss
local_defining (syn_modes at ds) = modes_defining false ds
local_defining (new_modes at ds) = modes_defining true ds
local_defining (locations at ds) = declarations_defining ds

-- ---- actions

counter_rows : (ms : List Mention) → no_text ∷ [] ≡ no_text ∷ rows_in (part_nodes (mentioned ms))
counter_rows ms = ap (λ rs. no_text ∷ rs) (sym (no_rows (mentioned ms) (mentions_define ms)))

pub counters_defining : (c : ControlTree) → Defining (counters_in c) (turn_parts c)
counters_defining (while_holds at c) = mentions_alone (mentions_of c)
counters_defining (for_ever at) = nothing [] tt
counters_defining (for_members at n s c) = unowned (a_counter (for_members at n s c) ∷ []) (turn_parts (for_members at n s c)) (tt, tt) (λ ds. (tt, tt)) (λ test before pass. (tt, tt)) (counter_rows (mentions_of_some c)) (tt, nothing_sized (mentioned (mentions_of_some c)) (mentions_define (mentions_of_some c)))
counters_defining (for_steps at n s b down e c) = unowned (a_counter (for_steps at n s b down e c) ∷ []) (turn_parts (for_steps at n s b down e c)) (tt, tt) (λ ds. (tt, tt)) (λ test before pass. (tt, tt)) (counter_rows (mentions_of_some c)) (tt, nothing_sized (mentioned (mentions_of_some c)) (mentions_define (mentions_of_some c)))

received_rows : (n : Name) (count : ℕ) (ks : List ℕ) → map row_of (map (a_received n count) ks) ≡ replicate (length ks) no_text
received_rows n count [] = refl
received_rows n count (k ∷ ks) = ap (λ rs. no_text ∷ rs) (received_rows n count ks)

pub received_defining : (n : Name) (r : Option (List Name)) → DefiningBehind (used needs.Message n) (received_in n r) (received_parts r)
received_defining n None = behind (nothing [] tt)
received_defining n (Some ns) =
    let numbers = numbers_on 0 (length ns) in
    let any = each_any (λ k. Unit {0}) (λ k. tt) numbers in
    unowned (received_in n (Some ns)) (received_parts (Some ns)) (each_map (λ k. Unit {0}) (HasSets (received_in n (Some ns))) (a_received n (length ns)) (λ k fits. tt) numbers any) (λ ds. each_map (λ k. Unit {0}) (IsOwned ds) (a_received n (length ns)) (λ k fits. tt) numbers any)
    (λ test before pass. each_map (λ k. Unit {0}) (TextPasses test) (a_received n (length ns)) (λ k fits. before) numbers any)
    (received_rows n (length ns) numbers ∙ ap (λ k. replicate k no_text) (length-numbers 0 (length ns) ∙ sym (length-map ns identifier)) ∙ sym (append-nil (replicate (length (identifiers ns)) no_text)) ∙ sym (append-nil (replicate (length (identifiers ns)) no_text ++ []))) (tt, tt)

mutual
  pub statement_defining : (s : StatementTree) (labels : List Name) → Defining (origins_in s) (statement_parts labels s)
  statement_defining (empty at) labels = nothing [] tt
  statement_defining (simple at a h) labels = joined (nothing (simple_parts labels a) (simple_defines labels a)) (handler_defining h labels)
  statement_defining (bracketed at l a h closing) labels = joined (bracketed_defining a (labelled l labels)) (handler_defining h (labelled l labels))

  pub bracketed_defining : (a : BracketedTree) (labels : List Name) → Defining (origins_in_bracketed a) (bracketed_parts labels a)
  bracketed_defining (if_then at c ss bs o) labels = joined (joined (joined (mentions_alone (mentions_of c)) (each_defining ss labels)) (branches_defining bs labels)) (otherwise_defining o labels)
  bracketed_defining (case_of at e as' o) labels = joined (joined (mentions_alone (mentions_of e)) (cases_defining as' labels)) (otherwise_defining o labels)
  bracketed_defining (do_loop at c ss) labels = joined (nothing (control_parts c) (control_defines c)) (blocked (joined (counters_defining c) (each_defining ss labels)))
  bracketed_defining (begin_end at ps) labels = blocked (body_defining ps labels)
  bracketed_defining (delay_case at set p as') labels = joined (mentions_alone (mentions_of_some set ++ mentions_of_some p)) (events_defining as' labels)
  bracketed_defining (receive_case at set as' o) labels = joined (joined (mentions_alone (mentions_of_some set)) (receives_defining as' labels)) (otherwise_defining o labels)

  pub each_defining : (ss : StatementNodes) (labels : List Name) → Defining (origins_in_each ss) (action_parts labels ss)
  each_defining no_statements labels = nothing [] tt
  each_defining (more_statements s ss) labels = joined (statement_defining s labels) (each_defining ss labels)

  pub branches_defining : (bs : ElsIfNodes) (labels : List Name) → Defining (origins_in_branches bs) (branch_parts labels bs)
  branches_defining no_branches labels = nothing [] tt
  branches_defining (more_branches at c ss bs) labels = joined (joined (mentions_alone (mentions_of c)) (each_defining ss labels)) (branches_defining bs labels)

  pub cases_defining : (as' : CaseNodes) (labels : List Name) → Defining (origins_in_cases as') (case_parts labels as')
  cases_defining no_cases labels = nothing [] tt
  cases_defining (more_cases at ls ss as') labels = joined (joined (mentions_alone (mentions_of_ranges ls)) (each_defining ss labels)) (cases_defining as' labels)

  pub events_defining : (as' : NamedNodes) (labels : List Name) → Defining (origins_in_named as') (event_parts labels as')
  events_defining no_named labels = nothing [] tt
  events_defining (more_named at ns ss as') labels = joined (joined (mentions_alone (flat_map (used needs.Location) ns)) (blocked (each_defining ss labels))) (events_defining as' labels)

  pub receives_defining : (as' : ReceiveNodes) (labels : List Name) → Defining (origins_in_receives as') (receive_parts labels as')
  receives_defining no_receives labels = nothing [] tt
  receives_defining (more_receives at n r ss as') labels = joined (headed (Use (identifier n) needs.Message) (blocked (joined (received_defining n r) (behind (each_defining ss labels))))) (receives_defining as' labels)

  pub otherwise_defining : (o : OtherwiseNode) (labels : List Name) → Defining (origins_in_otherwise o) (otherwise_parts labels o)
  otherwise_defining no_otherwise labels = nothing [] tt
  otherwise_defining (otherwise ss) labels = each_defining ss labels

  pub handler_defining : (h : HandlerNode) (labels : List Name) → Defining (origins_in_handler h) (handler_parts labels h)
  handler_defining no_handler labels = nothing [] tt
  handler_defining (handler at as' o) labels = blocked (joined (exceptions_defining as' labels) (otherwise_defining o labels))

  pub exceptions_defining : (as' : NamedNodes) (labels : List Name) → Defining (origins_in_named as') (exception_parts labels as')
  exceptions_defining no_named labels = nothing [] tt
  exceptions_defining (more_named at ns ss as') labels = joined (each_defining ss labels) (exceptions_defining as' labels)

  pub body_defining : (ps : BodyNodes) (labels : List Name) → Defining (origins_in_parts ps) (body_parts labels ps)
  body_defining no_parts labels = nothing [] tt
  body_defining (more_locals l ps) labels = joined (local_defining l) (body_defining ps labels)
  body_defining (more_actions s ps) labels = joined (statement_defining s labels) (body_defining ps labels)

-- ---- signals, procedures and processes

abbrev origins_of_parts : Option (List written.ModeTree) → List Origin
origins_of_parts None = []
origins_of_parts (Some ws) = flat_map (elements_of None) ws

parts_have : (ws : Option (List written.ModeTree)) → Each (HasElements (origins_of_parts ws)) (sets_of_parts ws)
parts_have None = tt
parts_have (Some ws) = many_have ws

parts_closed : (ws : Option (List written.ModeTree)) → Closed (origins_of_parts ws)
parts_closed None = tt
parts_closed (Some ws) = many_closed ws

parts_owned : (ds : List Definition) (ws : Option (List written.ModeTree)) → Each (IsOwned ds) (origins_of_parts ws)
parts_owned ds None = tt
parts_owned ds (Some ws) = many_owned ds ws

parts_pass : (test : Mention → Bool) (ws : Option (List written.ModeTree)) → Each (TextPasses test) (origins_of_parts ws)
parts_pass test None = tt
parts_pass test (Some ws) = many_pass test ws

parts_without : (ws : Option (List written.ModeTree)) → HaveNoText (origins_of_parts ws)
parts_without None = tt
parts_without (Some ws) = each_flat (λ w. Unit {0}) (λ o. row_of o ≡ no_text) (elements_of None) (λ w fits. elements_without None (sets_in w)) ws (each_any (λ w. Unit {0}) (λ w. tt) ws)

parts_count : (ws : Option (List written.ModeTree)) → length (origins_of_parts ws) ≡ length (elements_in (mentions_of_parts ws))
parts_count None = refl
parts_count (Some ws) = many_count ws

signal_defining : (s : SignalTree) → Defining (origins_of_signal s) (signal_parts s)
signal_defining s = unowned (origins_of_signal s) (signal_parts s) (with_elements 1 (a_signal s) (origins_of_parts s.parts) (parts_have s.parts) (parts_closed s.parts)) (λ ds. (tt, parts_owned ds s.parts)) (λ test before pass. (pass.0, parts_pass test s.parts))
    (names_rows (s.name ∷ []) (a_signal s) (origins_of_parts s.parts) (parts_without s.parts) (parts_count s.parts) ∙ sym (append-nil (rows_of_clause false (clause kinds.Signal (s.name ∷ []) (mentions_of_parts s.parts))))
    ∙ ap (λ rs. rows_of_clause false (clause kinds.Signal (s.name ∷ []) (mentions_of_parts s.parts)) ++ rs) (sym (no_rows (receiver_parts s.process) (receiver_defines s.process)))) (tt, nothing_sized (receiver_parts s.process) (receiver_defines s.process))

signals_defining : (ss : List SignalTree) → Defining (flat_map origins_of_signal ss) (flat_map signal_parts ss)
signals_defining [] = nothing [] tt
signals_defining (s ∷ ss) = joined (signal_defining s) (signals_defining ss)

param_closed : (w : written.ModeTree) (ns : List Name) → Closed (replicate (length ns) (a_parameter w) ++ elements_of None w)
param_closed w ns = with_elements (length ns) (a_parameter w) (elements_of None w) (sets_have None (sets_in w)) (elements_closed None (sets_in w))

param_owned : (ds : List Definition) (w : written.ModeTree) (ns : List Name) → Each (IsOwned ds) (replicate (length ns) (a_parameter w) ++ elements_of None w)
param_owned ds w ns = each_append (IsOwned ds) (replicate (length ns) (a_parameter w)) (elements_of None w) (each_same (IsOwned ds) (length ns) (a_parameter w) tt) (elements_owned ds None (sets_in w) tt)

params_closed : (ps : List ParamTree) → Closed (flat_map origins_of_param ps)
params_closed [] = tt
params_closed (p ∷ ps) = closed_both (origins_of_param p) (flat_map origins_of_param ps) (param_closed p.mode p.names) (params_closed ps)

params_owned : (ds : List Definition) (ps : List ParamTree) → Each (IsOwned ds) (flat_map origins_of_param ps)
params_owned ds ps = each_flat (λ p. Unit {0}) (IsOwned ds) origins_of_param (λ p fits. param_owned ds p.mode p.names) ps (each_any (λ p. Unit {0}) (λ p. tt) ps)

formals_closed : (ps : List FormalTree) → Closed (flat_map origins_of_formal ps)
formals_closed [] = tt
formals_closed (p ∷ ps) = closed_both (origins_of_formal p) (flat_map origins_of_formal ps) (param_closed p.mode p.names) (formals_closed ps)

formals_owned : (ds : List Definition) (ps : List FormalTree) → Each (IsOwned ds) (flat_map origins_of_formal ps)
formals_owned ds ps = each_flat (λ p. Unit {0}) (IsOwned ds) origins_of_formal (λ p fits. param_owned ds p.mode p.names) ps (each_any (λ p. Unit {0}) (λ p. tt) ps)

params_pass : (test : Mention → Bool) (ps : List ParamTree) → Each (ClausePasses test) (map param_clause ps) → Each (TextPasses test) (flat_map origins_of_param ps)
params_pass test [] pass = tt
params_pass test (p ∷ ps) pass =
    each_append (TextPasses test) (origins_of_param p) (flat_map origins_of_param ps) (names_pass test (length p.names) (a_parameter p.mode) (elements_of None p.mode) pass.0 (elements_pass test None (sets_in p.mode))) (params_pass test ps pass.1)

formals_pass : (test : Mention → Bool) (ps : List FormalTree) → Each (ClausePasses test) (map formal_clause ps) → Each (TextPasses test) (flat_map origins_of_formal ps)
formals_pass test [] pass = tt
formals_pass test (p ∷ ps) pass =
    each_append (TextPasses test) (origins_of_formal p) (flat_map origins_of_formal ps) (names_pass test (length p.names) (a_parameter p.mode) (elements_of None p.mode) pass.0 (elements_pass test None (sets_in p.mode))) (formals_pass test ps pass.1)

params_rows : (ps : List ParamTree) → map row_of (flat_map origins_of_param ps) ≡ rows_of_params (map param_clause ps)
params_rows [] = refl
params_rows (p ∷ ps) =
    map-append row_of (origins_of_param p) (flat_map origins_of_param ps) ∙ ap (λ rs. rs ++ map row_of (flat_map origins_of_param ps)) (names_rows p.names (a_parameter p.mode) (elements_of None p.mode) (elements_without None (sets_in p.mode)) (mode_elements_count None p.mode))
    ∙ ap (λ rs. rows_of_clause true (param_clause p) ++ rs) (params_rows ps)

formals_rows : (ps : List FormalTree) → map row_of (flat_map origins_of_formal ps) ≡ rows_of_params (map formal_clause ps)
formals_rows [] = refl
formals_rows (p ∷ ps) =
    map-append row_of (origins_of_formal p) (flat_map origins_of_formal ps) ∙ ap (λ rs. rs ++ map row_of (flat_map origins_of_formal ps)) (names_rows p.names (a_parameter p.mode) (elements_of None p.mode) (elements_without None (sets_in p.mode)) (mode_elements_count None p.mode))
    ∙ ap (λ rs. rows_of_clause true (formal_clause p) ++ rs) (formals_rows ps)

-- a routine: its own definition with its head, and its body
routine_defining : (os body : List Origin) (n : Identifier) (kind : Kind) (params : List Clause) (result : List Mention) (ps : List PartTree) → Closed os → ((ds : List Definition) → Each (IsOwned ds) os) → Defining body ps
    → ((test : Mention → Bool) → HeadPasses test params result → Each (TextPasses test) os) → map row_of os ≡ (false, result) ∷ rows_of_params params ++ replicate (length (elements_in result)) no_text → Defining (os ++ body) (routine n kind params result (sizes_of (part_nodes ps)) (part_nodes ps) ∷ [])
routine_defining os body n kind params result ps closed owned inner passing rows = one_part (closed_both os body closed inner.closed) (λ inside from.
    let ds = defined inside kind n ∷ params_defined inside (Body from) params ++ elements_defined inside (elements_in result) in
    let es = definitions_in (Body from) (from + head_size params result) (part_nodes ps) in
    each_append (IsOwned (ds ++ es)) os body (owned (ds ++ es)) (each_more (IsOwned es) (IsOwned (ds ++ es)) (owned_later ds es) body (inner.owned (Body from) (from + head_size params result))))
    (λ test before pass. each_append (TextPasses test) os body (passing test pass.0) (inner.passing test tt pass.1))
    (map-append row_of os body ∙ ap (λ rs. rs ++ map row_of body) rows ∙ ap (λ rs. ((false, result) ∷ rows_of_params params ++ replicate (length (elements_in result)) no_text) ++ rs) inner.rows) (refl, inner.sized)

pub body_of_defining : (ps : List BodyTree) (h : Option HandlerTree) → Defining (origins_in_parts (body_nodes ps) ++ origins_in_handler (handler_node h)) (whole_body ps h)
body_of_defining ps h = joined (body_defining (body_nodes ps) []) (handler_defining (handler_node h) [])

pub procedure_defining : (p : ProcedureTree) → Defining (origins_of_procedure p) (procedure_part p ∷ [])
procedure_defining p =
    let params = flat_map origins_of_param p.params in
    let result = elements_of_some p.returns in
    routine_defining (a_procedure p ∷ params ++ result) (origins_in_parts (body_nodes p.body) ++ origins_in_handler (handler_node p.handler)) (identifier p.name) kinds.Procedure (map param_clause p.params) (mentions_of_some_mode p.returns) (whole_body p.body p.handler)
    (with_elements 1 (a_procedure p) (params ++ result) (sets_before params result (a_procedure p) (some_have p.returns)) (closed_both params result (params_closed p.params) (some_closed p.returns)))
    (λ ds. (tt, each_append (IsOwned ds) params result (params_owned ds p.params) (some_owned ds p.returns)))
    (body_of_defining p.body p.handler) (λ test pass. (pass.1, each_append (TextPasses test) params result (params_pass test p.params pass.0) (some_pass test p.returns)))
    (ap (λ rs. (false, mentions_of_some_mode p.returns) ∷ rs)
    (map-append row_of params result ∙ ap (λ rs. rs ++ map row_of result) (params_rows p.params) ∙ ap (λ rs. rows_of_params (map param_clause p.params) ++ rs) (no_text_rows result (some_without p.returns) ∙ ap (λ k. replicate k no_text) (some_count p.returns))))

pub process_defining : (p : ProcessTree) → Defining (origins_of_process p) (process_part p ∷ [])
process_defining p =
    routine_defining (a_process p ∷ flat_map origins_of_formal p.formals) (origins_in_parts (body_nodes p.body) ++ origins_in_handler (handler_node p.handler)) (identifier p.name) kinds.Process (map formal_clause p.formals) [] (whole_body p.body p.handler)
    (with_elements 1 (a_process p) (flat_map origins_of_formal p.formals) tt (formals_closed p.formals)) (λ ds. (tt, formals_owned ds p.formals)) (body_of_defining p.body p.handler) (λ test pass. (tt, formals_pass test p.formals pass.0))
    (ap (λ rs. no_text ∷ rs) (formals_rows p.formals ∙ sym (append-nil (rows_of_params (map formal_clause p.formals)))))

-- ---- items

mutual
  pub item_defining : (i : ItemTree) → Defining (origins_of_item i) (item_parts i)
  item_defining (seize_item at w) = nothing (seized w) (seized_define w)
  item_defining (grant_item at w) = nothing (granted w) (granted_define w)
  item_defining (local_item l) = local_defining l
  item_defining (signals at ss) = signals_defining ss
  item_defining (procedure p) = procedure_defining p
  item_defining (process p) = process_defining p
  item_defining (modulion_of n kind items h closing) =
      let inner = joined (items_defining items) (handler_defining (handler_node h) []) in
      one_part (closed_both (a_modulion kind items ∷ []) (origins_of_items items ++ origins_in_handler (handler_node h)) (tt, tt) inner.closed) (λ inside from.
      let es = definitions_in (Modulion from) (suc from) (part_nodes (each_item items ++ handler_parts [] (handler_node h))) in
      (tt, each_more (IsOwned es) (IsOwned (defined inside kinds.Modulion (identifier n) ∷ es)) (owned_later (defined inside kinds.Modulion (identifier n) ∷ []) es) (origins_of_items items ++ origins_in_handler (handler_node h)) (inner.owned (Modulion from) (suc from)))) (λ test before pass. (tt, inner.passing test tt pass)) (ap (λ rs. no_text ∷ rs) inner.rows) (refl, inner.sized)
  item_defining (action s) = statement_defining s []

  pub items_defining : (is : ItemNodes) → Defining (origins_of_items is) (each_item is)
  items_defining no_items = nothing [] tt
  items_defining (more_items i is) = joined (item_defining i) (items_defining is)

modulions_defining : (ms : List ModulionTree) → Defining (flat_map (λ m. origins_of_item (modulion_item m)) ms) (flat_map (λ m. item_parts (modulion_item m)) ms)
modulions_defining [] = nothing [] tt
modulions_defining (m ∷ ms) = joined (item_defining (modulion_item m)) (modulions_defining ms)

-- what defines something in a program
pub program_defining : (t : ProgramTree) → Closed (text_origins t) × Each (IsOwned (text_definitions (level_of t))) (text_origins t)
program_defining t = let m = modulions_defining t.modulions in (m.closed, m.owned Outermost 0)

-- and what holds of each mention in the parts of a program holds of those in what it defines something by
pub program_passing : (t : ProgramTree) (test : Mention → Bool) → PartsPass test (level_of t) → Each (TextPasses test) (text_origins t)
program_passing t test pass = (modulions_defining t.modulions).passing test tt pass

-- and each has its row
pub program_rows : (t : ProgramTree) → map row_of (text_origins t) ≡ rows_in (level_of t)
program_rows t = (modulions_defining t.modulions).rows

-- the parts that hold others have the numbers of the definitions in them
pub program_sized : (t : ProgramTree) → AreSized (level_of t)
program_sized t = (modulions_defining t.modulions).sized
