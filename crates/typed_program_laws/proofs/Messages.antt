-- What a name leads to that is sent to and received from: a buffer or a signal, and the modes of what it brings.
use Rattle.std.proofs.Common.{◌≡◌, ℕ, Bool, true, false, List, [], ◌∷◌, length, Option, Some, None, ◌⊎◌, inl, inr, refl, sym, ap, ◌∙◌, subst, true≢false}
use Rattle.std.specs.Prelude.{map, slice_get, option_map, option_and_then, if◌then◌else◌}
use Rattle.std.specs.List.{list_any}
use Rattle.chill_tree.specs.declared.tree.name.Name.{Name}
use Rattle.chill_tree.specs.ItemTree.{SignalTree, ProgramTree}
use Rattle.modes.specs.ModeTree.{ModeTree, buffer, read, named}
use Rattle.diagnostics.specs.declared.rule.Rule.TheVariants as rules
use Rattle.names_model.specs.NameRules.{tell}
use Rattle.names_model.specs.Definitions.{text_definitions}
use Rattle.names_model.specs.Resolving.{level_of}
use Rattle.program_trees.specs.ProgramTree.{CheckedTree, BufferRowTree, SignalRowTree}
use Rattle.checks_model.specs.Ground.{Ground, Entry, Origin, a_signal, a_location, origin_of, entry_of, mode_of_entry, number_at, element_of, buffer_element, message_of, message_parts}
use Rattle.checks_model.specs.Told.{holds_of_both}
use Rattle.checks_model.specs.ProcessRules.{Meeting, meets_event, meets_buffer, meets_signal, meets_nothing, meeting_of, met_by, met_at, for_messages, told_misfit, is_other_sort, clashes_with, told_listed}
use Rattle.checks_model.specs.Diagnoses.{BreaksNoRule}
use Rattle.elaborated_laws.specs.Rows.{LeadsTo}
use Rattle.elaborated_laws.proofs.Rows.{leads}
use Rattle.elaborated_laws.proofs.Told.{no_some, same_some, there_mapped, there_chained, not_broken, neither_left, neither_right}
use Rattle.elaboration_model.specs.Numbering.{Source, Row, is_signal, is_shared, is_local_of, body_around, count_before, Thing, a_local, a_shared, an_event, a_buffer, a_message, a_region, a_body, no_thing, thing_directly, local_in, thing_by, thing_of, thing_used, source_number}
use Rattle.elaboration_model.specs.Elaborated.{source_of, buffer_as, signal_as, elaborated}
use Rattle.elaboration_model.specs.Statements.{is_buffer, source_used}
use Rattle.expression_laws.specs.Names.{stands_for_message, takes_parts}
use Rattle.expression_laws.proofs.Outside.{row_parts}
use Rattle.program_laws.proofs.Grounds.{all_names_known}
use Rattle.reached_laws.specs.Reached.{IsUseReached}
use Rattle.reached_laws.proofs.Places.{row_is}
use Rattle.source_meaning.specs.TypedValues.{Context, BufferHas}
use Rattle.source_meaning.specs.TypedStatements.{SignalHas, BufferBrings}
use Rattle.lead_laws.specs.Leads.{IsInBody}
use Rattle.action_laws.specs.Actions.{IsMessageTyped}
use Rattle.body_laws.specs.Statements.{IsAlikeWith}
use Rattle.written_laws.specs.Written.{Each}
use Rattle.typed_program_laws.proofs.Names.{with_origin, name_leads}

element_row : (d : ℕ) (r : Row) (m : ModeTree) (x : BufferRowTree) → buffer_as d r m ≡ Some x → (element_of m ≡ Some x.element) × (meeting_of m ≡ meets_buffer)
element_row d r (buffer l e) x is = (ap (λ (q : BufferRowTree). Some q.element) (same_some (record { definition = d; name = r.name; length = l; element = e }) x is), refl)
element_row d r (read m) x is = element_row d r m x is
element_row d r (named k n m) x is = element_row d r m x is
element_row d r m x is = no_some x is

message_by : (e : Option Entry) (o : Option Origin) (m : ModeTree) → ((sg : SignalTree) → o ≡ Some (a_signal sg) → ⊥) → option_and_then element_of (mode_of_entry e) ≡ Some m → message_of e o ≡ Some (Some m ∷ [])
message_by e (Some (a_signal sg)) m none is = absurd (none sg refl)
message_by e o m none is = ap (option_map (λ k. Some k ∷ [])) is

abbrev is_buffer_thing : Thing → Bool
is_buffer_thing (a_buffer k) = true
is_buffer_thing x = false

abbrev is_message_thing : Thing → Bool
is_message_thing (a_message k) = true
is_message_thing x = false

same_buffer : (o : Option Thing) (x : Thing) → o ≡ Some x → is_buffer o ≡ is_buffer_thing x
same_buffer o x is = ap is_buffer is ∙ by x
  where
    by : (y : Thing) → is_buffer (Some y) ≡ is_buffer_thing y
    by (a_buffer k) = refl
    by y = refl

-- the definition of a signal is no buffer
signal_thing : (rs : List Row) (d : ℕ) (r : Row) (sg : SignalTree) → r.origin ≡ a_signal sg → slice_get rs d ≡ Some r → is_buffer_thing (thing_of rs d) ≡ false
signal_thing rs d r sg origin at = ap (λ x. is_buffer_thing (thing_by rs d x)) at ∙ by (body_around rs r.inside)
  where
    local : (c : ℕ) (l : Bool) → is_buffer_thing (if l then a_local c (count_before (is_local_of rs c) d rs) else no_thing) ≡ false
    local c true = refl
    local c false = refl

    by : (c : Option ℕ) → is_buffer_thing (local_in rs d r c) ≡ false
    by None = ap (λ k. is_buffer_thing (thing_directly rs d (with_origin r k))) origin
    by (Some c) = local c (is_local_of rs c r)

-- nor is that of a location a signal
location_thing : (rs : List Row) (d : ℕ) (r : Row) → is_signal r.origin ≡ false → slice_get rs d ≡ Some r → is_message_thing (thing_of rs d) ≡ false
location_thing rs d r other at = ap (λ x. is_message_thing (thing_by rs d x)) at ∙ by (body_around rs r.inside)
  where
    local : (c : ℕ) (l : Bool) → is_message_thing (if l then a_local c (count_before (is_local_of rs c) d rs) else no_thing) ≡ false
    local c true = refl
    local c false = refl

    directly : (a b c e f g : Bool) (i j k l m n : ℕ) → e ≡ false → is_message_thing (if a then a_shared i else (if b then an_event j else (if c then a_buffer k else (if e then a_message l else (if f then a_region m else (if g then a_body n else no_thing)))))) ≡ false
    directly true b c e f g i j k l m n apart = refl
    directly false true c e f g i j k l m n apart = refl
    directly false false true e f g i j k l m n apart = refl
    directly false false false true f g i j k l m n apart = absurd (true≢false apart)
    directly false false false false true g i j k l m n apart = refl
    directly false false false false false true i j k l m n apart = refl
    directly false false false false false false i j k l m n apart = refl

    by : (c : Option ℕ) → is_message_thing (local_in rs d r c) ≡ false
    by None = directly (is_shared meets_nothing r) (is_shared meets_event r) (is_shared meets_buffer r) (is_signal r.origin) _ _ _ _ _ _ _ _ other
    by (Some c) = local c (is_local_of rs c r)

taken_thing : (x : Thing) (count : ℕ) → takes_parts x count ≡ true → (is_buffer_thing x ≡ true) ⊎ (is_message_thing x ≡ true)
taken_thing (a_buffer k) count is = inl refl
taken_thing (a_message k) count is = inr refl
taken_thing x count is = absurd (true≢false (sym is))

buffer_number_of : (x : Thing) → is_buffer_thing x ≡ true → (k : ℕ) × (x ≡ a_buffer k)
buffer_number_of (a_buffer k) is = (k, refl)
buffer_number_of x is = absurd (true≢false (sym is))

message_number_of : (x : Thing) → is_message_thing x ≡ true → (k : ℕ) × (x ≡ a_message k)
message_number_of (a_message k) is = (k, refl)
message_number_of x is = absurd (true≢false (sym is))

other_sort : (a b : Meeting) (x y : Option Meeting) → x ≡ Some a → y ≡ Some b → holds_of_both is_other_sort x y ≡ false → is_other_sort a b ≡ false
other_sort a b x y first later none = sym (ap (λ z. holds_of_both is_other_sort z (Some b)) first) ∙ (sym (ap (holds_of_both is_other_sort x) later) ∙ none)

module _ (text : List ℕ) (t : ProgramTree) (h : Ground) (p : CheckedTree) (has : BreaksNoRule text t h) (made : elaborated h t ≡ Some p) where
  abbrev s : Source
  s = source_of h t

  -- a name with its number and its row
  record NumberIs (n : Name) (x : Thing) : Type 0 where
    number : ℕ
    is : number_at h.uses n.at ≡ Some number
    thing : thing_of s.rows number ≡ x
    lead : LeadsTo s p number x

  number_is : (n : Name) (x : Thing) → thing_used s n ≡ Some x → NumberIs n x
  number_is n x is =
      let there = there_mapped (thing_of s.rows) (number_at h.uses n.at) x is in
      record { number = there.0; is = there.1; thing = there.2; lead = subst (λ y. LeadsTo s p there.0 y) there.2 (leads s t p there.0 made) }

  origin_row : (n : Name) (d : ℕ) (r : Row) → number_at h.uses n.at ≡ Some d → slice_get s.rows d ≡ Some r → origin_of h n ≡ Some r.origin
  origin_row n d r number at = ap (option_and_then (slice_get h.origins)) number ∙ (row_is (text_definitions (level_of t)) h.origins h.entries d r at).origin

  entry_row : (n : Name) (d : ℕ) (r : Row) → number_at h.uses n.at ≡ Some d → slice_get s.rows d ≡ Some r → mode_of_entry (entry_of h n) ≡ r.mode
  entry_row n d r number at = let parts = row_parts (text_definitions (level_of t)) h.origins h.entries d r at in ap (λ x. mode_of_entry (option_and_then (slice_get h.entries) x)) number ∙ (ap mode_of_entry parts.has ∙ sym parts.mode)

  -- ---- buffers

  record BufferIs (n : Name) (k : ℕ) : Type 0 where
    row : BufferRowTree
    at : slice_get p.buffers k ≡ Some row
    element : buffer_element h n ≡ Some row.element
    parts : message_parts h n ≡ Some (Some row.element ∷ [])
    meets : option_map meeting_of (mode_of_entry (entry_of h n)) ≡ Some meets_buffer
    no_signal : (sg : SignalTree) → origin_of h n ≡ Some (a_signal sg) → ⊥

  buffer_is : (n : Name) (k : ℕ) → thing_used s n ≡ Some (a_buffer k) → BufferIs n k
  buffer_is n k is =
      let u = number_is n (a_buffer k) is in
      let lead = u.lead in
      let m = there_chained (buffer_as u.number lead.0) lead.0.mode lead.1 lead.4 in
      let both = element_row u.number lead.0 m.0 lead.1 m.2 in
      let mode = entry_row n u.number lead.0 u.is lead.2 ∙ m.1 in
      let element = ap (option_and_then element_of) mode ∙ both.0 in
      let none : (sg : SignalTree) → origin_of h n ≡ Some (a_signal sg) → ⊥ = λ sg origin.
      true≢false (sym (ap is_buffer_thing u.thing) ∙ signal_thing s.rows u.number lead.0 sg (same_some lead.0.origin (a_signal sg) (sym (origin_row n u.number lead.0 u.is lead.2) ∙ origin)) lead.2) in
      record {
        row = lead.1;
        at = lead.3;
        element = element;
        parts = message_by (entry_of h n) (origin_of h n) lead.1.element none element;
        no_signal = none;
        meets = ap (option_map meeting_of) mode ∙ ap Some both.1;
      }

  -- ---- what is received

  module _ (body : ℕ) (ctx : Context) (is_in : IsInBody s p ctx body) where
    pub record SourceIs (n : Name) (k : ℕ) : Type 0 where
      pub modes : List ModeTree
      pub are : message_parts h n ≡ Some (map Some modes)
      pub buffer : is_buffer (thing_used s n) ≡ true → BufferBrings ctx k modes
      pub signal : is_buffer (thing_used s n) ≡ false → SignalHas ctx k modes

    buffer_source : (n : Name) (k : ℕ) → thing_used s n ≡ Some (a_buffer k) → SourceIs n k
    buffer_source n k is =
        let b = buffer_is n k is in
        record {
          modes = b.row.element ∷ [];
          are = b.parts;
          buffer = λ same. (b.row.element, refl, (b.row, ap (λ (q : CheckedTree). slice_get q.buffers k) is_in.program ∙ b.at, refl));
          signal = λ other. absurd (true≢false (sym (same_buffer (thing_used s n) (a_buffer k) is) ∙ other));
        }

    signal_parts : (n : Name) (d : ℕ) (r : Row) (x : SignalRowTree) → number_at h.uses n.at ≡ Some d → slice_get s.rows d ≡ Some r → signal_as s d r r.origin ≡ Some x → (ms : List (Option ModeTree)) × (message_parts h n ≡ Some ms)
    signal_parts n d r x number at is = by r.origin refl is
      where
        by : (o : Origin) → r.origin ≡ o → signal_as s d r o ≡ Some x → (ms : List (Option ModeTree)) × (message_parts h n ≡ Some ms)
        by (a_signal sg) origin is =
            let parts = row_parts (text_definitions (level_of t)) h.origins h.entries d r at in
            let entry : entry_of h n ≡ Some parts.entry = ap (option_and_then (slice_get h.entries)) number ∙ parts.has in
            (parts.entry.parts, ap (message_of (entry_of h n)) (origin_row n d r number at ∙ ap Some origin) ∙ ap (option_map (λ (e : Entry). e.parts)) entry)
        by o origin is = no_some x is

    signal_source : (n : Name) (k : ℕ) → IsUseReached s body ctx.region n → thing_used s n ≡ Some (a_message k) → SourceIs n k
    signal_source n k used is =
        let u = number_is n (a_message k) is in
        let lead = u.lead in
        let ms = signal_parts n u.number lead.0 lead.1 u.is lead.2 lead.4 in
        let own = (name_leads text t h p has made body ctx is_in n used).signal k ms.0 is ms.1 in
        record {
          modes = own.0;
          are = ms.1 ∙ ap Some own.1.1;
          buffer = λ other. absurd (true≢false (sym other ∙ same_buffer (thing_used s n) (a_message k) is));
          signal = λ other. own.1.0;
        }

    pub source_is : (n : Name) (k : ℕ) → IsUseReached s body ctx.region n → source_used s n ≡ Some k → SourceIs n k
    source_is n k used is = let there = there_chained source_number (thing_used s n) k is in by there.0 there.1 there.2
      where
        by : (x : Thing) → thing_used s n ≡ Some x → source_number x ≡ Some k → SourceIs n k
        by (a_buffer j) thing number = subst (SourceIs n) (same_some j k number) (buffer_source n j thing)
        by (a_message j) thing number = subst (SourceIs n) (same_some j k number) (signal_source n j used thing)
        by x thing number = no_some k number

    -- what is sent to
    pub message_typed : (n : Name) → IsUseReached s body ctx.region n → IsMessageTyped s ctx n
    message_typed n used =
        let leads_to = name_leads text t h p has made body ctx is_in n used in
        record {
          buffer = λ k m thing parts. by k m thing parts;
          signal = leads_to.signal;
        }
      where
        first_mode : (m k : ModeTree) → Some (Some m ∷ []) ≡ Some (Some k ∷ []) → m ≡ k
        first_mode m k is = same_some m k (ap head is)
          where
            head : Option (List (Option ModeTree)) → Option ModeTree
            head (Some (x ∷ xs)) = x
            head x = None

        by : (k : ℕ) (m : ModeTree) → thing_used s n ≡ Some (a_buffer k) → message_parts h n ≡ Some (Some m ∷ []) → BufferHas ctx k m
        by k m thing parts =
            let b = buffer_is n k thing in
            (b.row, ap (λ (q : CheckedTree). slice_get q.buffers k) is_in.program ∙ b.at, first_mode b.row.element m (sym b.parts ∙ parts))

  -- ---- RECEIVE CASE

  -- a name of which nothing is told, from which something is received
  pub record IsSource (n : Name) : Type 0 where
    pub stands : stands_for_message (origin_of h n) ≡ true
    pub fits : told_misfit h for_messages n ≡ []

  abbrev SortIs : Name → Type 0
  SortIs n = ((is_buffer (thing_used s n) ≡ true) × (met_at h n ≡ Some meets_buffer)) ⊎ ((is_buffer (thing_used s n) ≡ false) × (met_at h n ≡ Some meets_signal))

  abbrev BySort : Name → Option Origin → Type 0
  BySort n o = ((is_buffer (thing_used s n) ≡ true) × (met_by (entry_of h n) o ≡ Some meets_buffer)) ⊎ ((is_buffer (thing_used s n) ≡ false) × (met_by (entry_of h n) o ≡ Some meets_signal))

  buffer_sort : (n : Name) (k : ℕ) (o : Option Origin) → origin_of h n ≡ o → stands_for_message o ≡ true → thing_used s n ≡ Some (a_buffer k) → BySort n o
  buffer_sort n k (Some (a_location d)) origin stands is = inl (same_buffer (thing_used s n) (a_buffer k) is, (buffer_is n k is).meets)
  buffer_sort n k (Some (a_signal sg)) origin stands is = absurd ((buffer_is n k is).no_signal sg origin)
  buffer_sort n k o origin stands is = absurd (true≢false (sym stands))

  message_sort : (n : Name) (k : ℕ) (o : Option Origin) → origin_of h n ≡ o → stands_for_message o ≡ true → thing_used s n ≡ Some (a_message k) → BySort n o
  message_sort n k (Some (a_signal sg)) origin stands is = inr (same_buffer (thing_used s n) (a_message k) is, refl)
  message_sort n k (Some (a_location d)) origin stands is =
      let u = number_is n (a_message k) is in
      let lead = u.lead in
      let own = same_some lead.0.origin (a_location d) (sym (origin_row n u.number lead.0 u.is lead.2) ∙ origin) in
      absurd (true≢false (sym (ap is_message_thing u.thing) ∙ location_thing s.rows u.number lead.0 (ap is_signal own) lead.2))
  message_sort n k o origin stands is = absurd (true≢false (sym stands))

  sort_is : (n : Name) → IsSource n → SortIs n
  sort_is n source =
      let known = (all_names_known text t h has n).message source.stands source.fits in
      elim (taken_thing known.thing (length known.parts) known.takes) [
        | inl takes ↦ (let k = buffer_number_of known.thing takes in buffer_sort n k.0 (origin_of h n) refl source.stands (known.used ∙ ap Some k.1))
        | inr takes ↦ (let k = message_number_of known.thing takes in message_sort n k.0 (origin_of h n) refl source.stands (known.used ∙ ap Some k.1))
      ]

  same_sort : (n e : Name) → SortIs n → SortIs e → holds_of_both is_other_sort (met_at h n) (met_at h e) ≡ false → is_buffer (thing_used s n) ≡ is_buffer (thing_used s e)
  same_sort n e (inl one) (inl other) none = one.0 ∙ sym other.0
  same_sort n e (inr one) (inr other) none = one.0 ∙ sym other.0
  same_sort n e (inl one) (inr other) none = absurd (true≢false (other_sort meets_buffer meets_signal (met_at h n) (met_at h e) one.1 other.1 none))
  same_sort n e (inr one) (inl other) none = absurd (true≢false (other_sort meets_signal meets_buffer (met_at h n) (met_at h e) one.1 other.1 none))

  -- all names of a RECEIVE CASE are of one sort
  pub are_alike : (earlier : List Name) (n : Name) → IsSource n → Each IsSource earlier → told_listed h earlier n ≡ [] → IsAlikeWith s earlier n
  are_alike [] n source sources told = tt
  are_alike (e ∷ es) n source sources told =
      let none = not_broken (list_any (clashes_with h n) (e ∷ es)) (tell n.at rules.P5 n.text) told in
      let own = neither_left (clashes_with h n e) (list_any (clashes_with h n) es) none in
      same_sort n e (sort_is n source) (sort_is e sources.0) (neither_right _ (holds_of_both is_other_sort (met_at h n) (met_at h e)) own)
