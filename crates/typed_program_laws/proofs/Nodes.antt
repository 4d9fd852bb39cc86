-- The names at a node stand for what they have to.
use Rattle.std.proofs.Common.{◌≡◌, ℕ, zero, suc, ◌+◌, ◌==◌, true, List, [], ◌∷◌, length, Option, Some, None, refl, sym, ap, ◌∙◌, subst, arith}
use Rattle.std.specs.Prelude.{map, slice_get, option_map, option_and_then, if◌then◌else◌, not}
use Rattle.std.proofs.lemmas.Bool.{eqb-true, eq-eqb}
use Rattle.chill_tree.specs.declared.tree.name.Name.{Name}
use Rattle.chill_tree.specs.ExprTree.{ExprTree}
use Rattle.chill_tree.specs.LocalTree.{DeclarationTree}
use Rattle.chill_tree.specs.SimpleTree.{SimpleTree, update, start_of, delay, continue_event, send, ControlTree, while_holds, for_ever, for_members, for_steps}
use Rattle.chill_tree.specs.ItemTree.{ProgramTree}
use Rattle.modes.specs.ModeTree.{ModeTree}
use Rattle.diagnostics.specs.declared.rule.Rule.TheVariants as rules
use Rattle.checked_program.specs.declared.expr.Base.{Base}
use Rattle.checked_program.specs.declared.expr.Base.TheVariants as bases
use Rattle.program_trees.specs.ProgramTree.{CheckedTree}
use Rattle.checks_model.specs.Ground.{Ground, Origin, a_location, a_counter, a_received, entry_defined, mode_of_entry, message_parts}
use Rattle.checks_model.specs.Told.{tell_at, holds_of}
use Rattle.checks_model.specs.ActionRules.{count_received, told_received_names}
use Rattle.checks_model.specs.ProcessRules.{for_messages, told_misfit, told_listed}
use Rattle.checks_model.specs.Table.{received_mode, entry_with_counters}
use Rattle.checks_model.specs.Origins.{text_origins}
use Rattle.checks_model.specs.Diagnoses.{BreaksNoRule}
use Rattle.checks_model.specs.Sites.{Site, Around, at_declaration, at_simple, at_control, at_event, at_source, at_received, at_program, counter_in}
use Rattle.table_laws.specs.Names.{names_in}
use Rattle.written_laws.specs.Written.{Each, exprs_at}
use Rattle.elaborated_laws.proofs.Told.{no_some, same_some, none_first, none_later, not_broken, not_true}
use Rattle.elaboration_model.specs.Numbering.{Source, Thing, a_local, thing_of, thing_defined, event_used, local_number, local_defined}
use Rattle.elaboration_model.specs.Parts.{made_each}
use Rattle.elaboration_model.specs.Elaborated.{source_of, elaborated}
use Rattle.elaboration_model.specs.Expressions.{base_of}
use Rattle.elaboration_model.specs.Statements.{some_names, base_defined, first_mode, source_used}
use Rattle.expression_laws.specs.Statements.{IsNodeClean}
use Rattle.constant_laws.specs.Constants.{HasBytes, IsNameFit}
use Rattle.program_laws.proofs.Rows.{AreDefinedAs, AreReceivedAs, SiteSo}
use Rattle.program_laws.proofs.Defined.{DefinedIn, names_list, defined_in, entry_at}
use Rattle.head_laws.proofs.Rows.{made_parts}
use Rattle.reached_laws.specs.Reached.{IsUseReached, IsDefinitionReached, IsSiteReached}
use Rattle.source_meaning.specs.TypedValues.{Context, BaseHas}
use Rattle.source_meaning.specs.TypedStatements.{LocalHas, LocalsHave, IsEvent}
use Rattle.lead_laws.specs.Leads.{IsInBody}
use Rattle.typed_laws.specs.Typed.{AreNamesTyped}
use Rattle.action_laws.specs.Actions.{IsSound, is_updating, ActionTyped}
use Rattle.action_laws.specs.Controls.{ControlTyped}
use Rattle.body_laws.specs.Statements.{ReceivedTyped, NodeTyped, IsNodeSound}
use Rattle.typed_program_laws.proofs.Names.{base_at, name_leads, name_typed}
use Rattle.typed_program_laws.proofs.Messages.{IsSource, are_alike, message_typed, source_is}

-- an operator that stands with `:=`
abbrev pub UpdateSo : Site → Type 0
UpdateSo (at_simple a (update at t o p v)) = is_updating o ≡ true
UpdateSo n = Unit {0}

local_of : (x : Option Thing) (k : ℕ) → option_and_then local_number x ≡ Some k → option_and_then base_of x ≡ Some (bases.Local k)
local_of (Some (a_local c j)) k is = ap (λ i. Some (bases.Local i)) (same_some j k is)
local_of (Some x) k is = no_some k is
local_of None k is = no_some k is

abbrev Behind : {A : Type 0} → List A → ℕ → List A → Type 0
Behind {A} xs k ys = (j e : ℕ) → e ≡ k + j → slice_get xs e ≡ slice_get ys j

mapped_some : (ms : List ModeTree) (k : ℕ) → slice_get (map Some ms) k ≡ option_map Some (slice_get ms k)
mapped_some [] k = refl
mapped_some (m ∷ ms) zero = refl
mapped_some (m ∷ ms) (suc k) = mapped_some ms k

mapped_length : (ms : List ModeTree) → length (map Some ms) ≡ length ms
mapped_length [] = refl
mapped_length (m ∷ ms) = ap suc (mapped_length ms)

module _ (text : List ℕ) (t : ProgramTree) (h : Ground) (p : CheckedTree) (has : BreaksNoRule text t h) (made : elaborated h t ≡ Some p) where
  abbrev s : Source
  s = source_of h t

  -- the names before one that a RECEIVE CASE lists are such as it is
  abbrev pub SourceSo : Site → Type 0
  SourceSo (at_source earlier n) = Each (IsSource text t h p has made) earlier
  SourceSo n = Unit {0}

  abbrev pub DefinedSo : Site → Type 0
  DefinedSo (at_program shared) = Unit {0}
  DefinedSo n = SiteSo (text_origins t) (names_list text t h has) n

  -- what is known of a node
  pub record IsNodeKnown (n : Site) : Type 0 where
    pub clean : IsNodeClean s n
    pub defined : DefinedSo n
    pub bytes : Each HasBytes (exprs_at n)
    pub updates : UpdateSo n
    pub sources : SourceSo n

  module _ (fit : (n : Name) → IsNameFit h n) (body : ℕ) (ctx : Context) (is_in : IsInBody s p ctx body) where
    abbrev Used : Name → Type 0
    Used n = IsUseReached s body ctx.region n

    abbrev Defined : Name → Type 0
    Defined n = IsDefinitionReached s body ctx.region n

    names_typed : (ns : List Name) → Each Used ns → AreNamesTyped s ctx ns
    names_typed [] all = tt
    names_typed (n ∷ ns) all = (name_typed text t h p has made body ctx is_in n (fit n) all.0, names_typed ns all.1)

    exprs_sound : (es : List ExprTree) → Each (λ e. Each Used (names_in e)) es → Each HasBytes es → Each (IsSound s ctx) es
    exprs_sound [] used bytes = tt
    exprs_sound (e ∷ es) used bytes = (record { names = names_typed (names_in e) used.0; bytes = bytes.0 }, exprs_sound es used.1 bytes.1)

    -- ---- what names define

    mode_by : (n : Name) (o : Origin) (k : DefinedIn h n o) → mode_of_entry (entry_defined h n) ≡ (entry_with_counters h o).mode
    mode_by n o k = ap (λ x. mode_of_entry (option_and_then (slice_get h.entries) x)) k.at ∙ ap mode_of_entry (entry_at text t h has k.number o k.origin)

    defined_base : (n : Name) (o : Origin) (k : DefinedIn h n o) (m : ModeTree) (b : Base) → Defined n → (entry_with_counters h o).mode ≡ Some m → base_defined s n ≡ Some b → BaseHas ctx b m
    defined_base n o k m b within mode is =
        base_at text t h p has made body ctx is_in k.number m b (λ r at. within k.number r k.at at) (ap mode_of_entry (entry_at text t h has k.number o k.origin) ∙ mode)
        (sym (ap (λ x. option_and_then base_of (option_map (thing_of s.rows) x)) k.at) ∙ is)

    defined_local : (n : Name) (o : Origin) (k : DefinedIn h n o) (m : ModeTree) (j : ℕ) → Defined n → (entry_with_counters h o).mode ≡ Some m → local_defined s n ≡ Some j → LocalHas ctx m j
    defined_local n o k m j within mode is = defined_base n o k m (bases.Local j) within mode (local_of (thing_defined s n) j is)

    -- ---- declarations

    declared_first : (d : DeclarationTree) (ns : List Name) (m : ModeTree) → AreDefinedAs (text_origins t) (names_list text t h has) (a_location d) ns → first_mode s ns ≡ Some m → (entry_with_counters h (a_location d)).mode ≡ Some m
    declared_first d [] m all is = no_some m is
    declared_first d (n ∷ ns) m all is = sym (mode_by n (a_location d) (defined_in text t h has n (a_location d) all.0)) ∙ is

    declared_each : (d : DeclarationTree) (ns : List Name) (m : ModeTree) → AreDefinedAs (text_origins t) (names_list text t h has) (a_location d) ns → Each Defined ns → (entry_with_counters h (a_location d)).mode ≡ Some m → Each (λ n. (b : Base) → base_defined s n ≡ Some b → BaseHas ctx b m) ns
    declared_each d [] m all within mode = tt
    declared_each d (n ∷ ns) m all within mode = ((λ b is. defined_base n (a_location d) (defined_in text t h has n (a_location d) all.0) m b within.0 mode is), declared_each d ns m all.1 within.1 mode)

    -- ---- loops

    control_typed : (c : ControlTree) → AreDefinedAs (text_origins t) (names_list text t h has) (a_counter c) (counter_in c) → Each Defined (counter_in c) → ControlTyped s ctx c
    control_typed (while_holds at c) so within = tt
    control_typed (for_ever at) so within = tt
    control_typed (for_members at n set c) so within =
        let o = a_counter (for_members at n set c) in
        let k = defined_in text t h has n o so.0 in
        (mode_by n o k, λ m j mode is. defined_local n o k m j within.0 mode is)
    control_typed (for_steps at n from step down to c) so within = (let o = a_counter (for_steps at n from step down to c) in let k = defined_in text t h has n o so.0 in λ m j mode is. defined_local n o k m j within.0 mode is)

    -- ---- what is received

    part_mode : (source : Name) (count i : ℕ) (own : List ModeTree) (m : ModeTree) → message_parts h source ≡ Some (map Some own) → length own ≡ count → slice_get own i ≡ Some m → (entry_with_counters h (a_received source count i)).mode ≡ Some m
    part_mode source count i own m are long at =
        ap (λ x. received_mode x count i) are
        ∙ (ap (λ b. if b then option_and_then (λ k. k) (slice_get (map Some own) i) else None) (eq-eqb (length (map Some own)) count (mapped_length own ∙ long))
        ∙ ap (option_and_then (λ k. k)) (mapped_some own i ∙ ap (option_map Some) at))

    locals_received : (source : Name) (count i : ℕ) (own rest : List ModeTree) (ns : List Name) (ks : List ℕ) → message_parts h source ≡ Some (map Some own) → length own ≡ count → Behind own i rest → length rest ≡ length ns → AreReceivedAs (text_origins t) (names_list text t h has) source count i ns → Each Defined ns
        → made_each (local_defined s) ns ≡ Some ks → LocalsHave ctx ks rest
    locals_received source count i own [] [] ks are long behind same so within built = subst (λ l. LocalsHave ctx l []) (same_some [] ks built) refl
    locals_received source count i own (m ∷ rest) [] ks are long behind same so within built = absurd (let none : ⊥ = omega (arith, same) in none)
    locals_received source count i own [] (n ∷ ns) ks are long behind same so within built = absurd (let none : ⊥ = omega (arith, same) in none)
    locals_received source count i own (m ∷ rest) (n ∷ ns) ks are long behind same so within built =
        let parts = made_parts (λ y ys. y ∷ ys) (local_defined s n) (made_each (local_defined s) ns) ks built in
        let o = a_received source count i in
        let k = defined_in text t h has n o so.0 in
        let here = defined_local n o k m parts.first within.0 (part_mode source count i own m are long (behind 0 i (omega arith))) parts.of_first in
        let next : Behind own (suc i) rest = λ j e is. behind (suc j) e (omega (arith, is)) in
        subst (λ l. LocalsHave ctx l (m ∷ rest)) parts.whole (m, rest, refl, here, locals_received source count (suc i) own rest ns parts.later are long next (omega (arith, same)) so.1 within.1 parts.of_later)

    count_is : (n : Name) (names : Option (List Name)) (own : List ModeTree) → message_parts h n ≡ Some (map Some own) → told_received_names h n names ≡ [] → length own ≡ count_received names
    count_is n names own are told =
        let none = not_broken (holds_of (λ (ms : List (Option ModeTree)). not (length ms == count_received names)) (message_parts h n)) (tell_at rules.S5 n.at) told in
        let same = not_true (length (map Some own) == count_received names) (sym (ap (holds_of (λ (ms : List (Option ModeTree)). not (length ms == count_received names))) are) ∙ none) in
        sym (mapped_length own) ∙ eqb-true (length (map Some own)) (count_received names) same

    whole_behind : (own : List ModeTree) → Behind own 0 own
    whole_behind own j e same = ap (slice_get own) (let back : e ≡ j = omega (arith, same) in back)

    none_received : (own : List ModeTree) → length own ≡ 0 → own ≡ []
    none_received [] none = refl
    none_received (m ∷ ms) none = absurd (let no : ⊥ = omega (arith, none) in no)

    received_typed : (n : Name) (names : Option (List Name)) → SiteSo (text_origins t) (names_list text t h has) (at_received n names) → told_received_names h n names ≡ [] → IsSiteReached s body ctx.region (at_received n names) → (ks : List ℕ) (k : ℕ) → made_each (local_defined s) (some_names names) ≡ Some ks → source_used s n ≡ Some k → ReceivedTyped s ctx n ks k
    received_typed n None so told within ks k built source =
        let x = source_is text t h p has made body ctx is_in n k within.others.0 source in
        record { modes = x.modes; buffer = x.buffer; signal = x.signal; locals = subst (λ l. LocalsHave ctx l x.modes) (same_some [] ks built) (none_received x.modes (count_is n None x.modes x.are told)) }
    received_typed n (Some ns) so told within ks k built source =
        let x = source_is text t h p has made body ctx is_in n k within.others.0 source in
        let long = count_is n (Some ns) x.modes x.are told in
        record { modes = x.modes; buffer = x.buffer; signal = x.signal; locals = locals_received n (length ns) 0 x.modes x.modes ns ks x.are long (whole_behind x.modes) long so within.defined built }

    -- ---- actions

    event_of : (n : Name) → Used n → (k : ℕ) → event_used s n ≡ Some k → IsEvent ctx k
    event_of n used = (name_leads text t h p has made body ctx is_in n used).event

    action_typed : (a : Around) (x : SimpleTree) → UpdateSo (at_simple a x) → IsSiteReached s body ctx.region (at_simple a x) → ActionTyped s ctx x
    action_typed a (update at k o q v) updates within = updates
    action_typed a (start_of at n es) updates within = name_typed text t h p has made body ctx is_in n (fit n) within.others.0
    action_typed a (delay at n q) updates within = event_of n within.others.0
    action_typed a (continue_event at n) updates within = event_of n within.others.0
    action_typed a (send at n es to q) updates within = message_typed text t h p has made body ctx is_in n within.others.0
    action_typed a x updates within = tt

    -- ---- nodes

    node_typed : (n : Site) → IsNodeKnown n → IsSiteReached s body ctx.region n → NodeTyped s ctx n
    node_typed (at_declaration shared d) known within = λ m is. declared_each d d.names m known.defined within.defined (declared_first d d.names m known.defined is)
    node_typed (at_simple a x) known within = action_typed a x known.updates within
    node_typed (at_control c) known within = control_typed c known.defined within.defined
    node_typed (at_event earlier n) known within = event_of n within.others.0
    node_typed (at_source earlier n) known within =
        let clean_is = known.clean in
        are_alike text t h p has made earlier n (record { stands = clean_is.stands; fits = none_first (told_misfit h for_messages n) (told_listed h earlier n) clean_is.processes }) known.sources
        (none_later (told_misfit h for_messages n) (told_listed h earlier n) clean_is.processes)
    node_typed (at_received n names) known within = (let clean_is = known.clean in received_typed n names known.defined clean_is.statements within)
    node_typed n known within = tt

    pub node_sound : (n : Site) → IsNodeKnown n → IsSiteReached s body ctx.region n → IsNodeSound s ctx n
    node_sound n known within = record { clean = known.clean; sound = exprs_sound (exprs_at n) within.exprs known.bytes; names = node_typed n known within }
