-- In a text that breaks no rule on names all but counters is known in both grounds: what is received is received from a location or a
-- signal, of which the same is known.
use Rattle.std.proofs.Common.{◌≡◌, ℕ, Bool, true, false, List, [], ◌∷◌, Option, Some, None, true≢false, refl, sym, ap, ◌∙◌, subst, Contains}
use Rattle.std.specs.Prelude.{slice_get, option_map, option_and_then}
use Rattle.std.proofs.lemmas.Option.{slice_get-map}
use Rattle.chill_tree.specs.declared.tree.name.Name.{Name}
use Rattle.chill_tree.specs.ItemTree.{ProgramTree}
use Rattle.names_model.specs.Kinds.{is_message}
use Rattle.names_model.specs.Definitions.{with_predefined, kind_of, is_of, is_kind_at}
use Rattle.names_laws.proofs.Members.{here_in}
use Rattle.ground_laws.proofs.Defining.{origins_define}
use Rattle.checks_model.specs.Ground.{Ground, Origin, a_synonym, a_mode, an_element, a_location, a_parameter, a_counter, a_received, a_procedure, a_process, a_signal, a_modulion, a_predefined, origin_of, entry_of, number_at}
use Rattle.checks_model.specs.Origins.{origins_of}
use Rattle.checks_model.specs.Table.{ground_with, entry_by, entry_with_counters, IsGroundOf, IsStatementGroundOf}
use Rattle.checks_model.specs.Diagnoses.{HasNames}
use Rattle.table_laws.specs.Names.{names_needed}
use Rattle.table_laws.specs.Frames.{is_read, SameKnownEach}
use Rattle.table_laws.specs.OneTable.{SameText}
use Rattle.table_laws.proofs.EntryFrames.{entry_frame}
use Rattle.table_laws.proofs.OneTable.{one_table}
use Rattle.written_laws.proofs.Mentioned.{definitions_of}
use Rattle.order_laws.specs.Orders.{some_number}
use Rattle.order_laws.specs.Counters.{is_looked_up}
use Rattle.order_laws.specs.Texts.{OneGroundLaw, is_counter, TextCountersLaw}
use Rattle.order_laws.proofs.Counters.{looked_up, number_same, origin_same, counters_apart}
use Rattle.order_laws.proofs.Selves.{definition_there, sent_to, text_order}

-- ---- the grounds of one text

pub grounds_alike : (t : ProgramTree) (g h : Ground) → g ≡ ground_with t g.entries → h ≡ ground_with t h.entries → SameText g h
grounds_alike t g h is_g is_h = record {
  uses = ap (λ (x : Ground). x.uses) is_g ∙ sym (ap (λ (x : Ground). x.uses) is_h);
  defined = ap (λ (x : Ground). x.defined) is_g ∙ sym (ap (λ (x : Ground). x.defined) is_h);
  origins = ap (λ (x : Ground). x.origins) is_g ∙ sym (ap (λ (x : Ground). x.origins) is_h);
}

pub one_ground : OneGroundLaw
one_ground text t g h has is_g is_h =
    let order = text_order text t g has is_g.names in
    let entries = one_table g h order.0 (grounds_alike t g h is_g.names is_h.names) order.1 is_g.entries is_h.entries in
    is_g.names ∙ ap (ground_with t) entries ∙ sym is_h.names

-- ---- what may be sent to

-- neither a counter nor a received name
abbrev is_plain : Option Origin → Bool
is_plain (Some (a_counter c)) = false
is_plain (Some (a_received n count part)) = false
is_plain _ = true

sent_plain : (t : ProgramTree) (e : ℕ) (o : Origin) → slice_get (origins_of t) e ≡ Some o → is_kind_at is_message (with_predefined (definitions_of t)) e ≡ true → is_plain (Some o) ≡ true
sent_plain t e (a_counter c) at sent =
    let d = definition_there (origins_of t) (with_predefined (definitions_of t)) e (a_counter c) (origins_define t) at in
    sym (ap is_message d.1.1.0) ∙ subst (λ k. is_of is_message (kind_of k) ≡ true) d.1.0 sent
sent_plain t e (a_received n count part) at sent =
    let d = definition_there (origins_of t) (with_predefined (definitions_of t)) e (a_received n count part) (origins_define t) at in
    sym (ap is_message d.1.1) ∙ subst (λ k. is_of is_message (kind_of k) ≡ true) d.1.0 sent
sent_plain t e (a_synonym s) at sent = refl
sent_plain t e (a_mode novel m) at sent = refl
sent_plain t e (an_element ns part owner) at sent = refl
sent_plain t e (a_location d) at sent = refl
sent_plain t e (a_parameter m) at sent = refl
sent_plain t e (a_procedure p) at sent = refl
sent_plain t e (a_process p) at sent = refl
sent_plain t e (a_signal s) at sent = refl
sent_plain t e (a_modulion kind items) at sent = refl
sent_plain t e (a_predefined p) at sent = refl

module _ (g h : Ground) (text : SameText g h) (looked : (d : ℕ) → is_looked_up (slice_get g.origins d) ≡ true → slice_get g.entries d ≡ slice_get h.entries d) where
  -- of every name the same is known that is read
  entry_read : (n : Name) → is_read (origin_of g n) ≡ true → entry_of g n ≡ entry_of h n
  entry_read n read = by_number (number_at g.uses n.at) read ∙ ap (option_and_then (slice_get h.entries)) (number_same g h n text)
    where
      by_number : (k : Option ℕ) → is_read (option_and_then (slice_get g.origins) k) ≡ true → option_and_then (slice_get g.entries) k ≡ option_and_then (slice_get h.entries) k
      by_number None read = refl
      by_number (Some d) read = looked d (looked_up (slice_get g.origins d) read)

  known : (ns : List Name) → SameKnownEach g h ns
  known [] = tt
  known (n ∷ ns) = (record { number = number_same g h n text; origin = origin_same g h n text; entry = entry_read n }, known ns)

  plain_entry : (o : Option Origin) → is_plain o ≡ true → option_map (entry_by g) o ≡ option_map (entry_with_counters h) o
  plain_entry None plain = refl
  plain_entry (Some (a_synonym s)) plain = ap Some (entry_frame g h (a_synonym s) text.defined (known (names_needed (a_synonym s))))
  plain_entry (Some (a_mode novel m)) plain = ap Some (entry_frame g h (a_mode novel m) text.defined (known (names_needed (a_mode novel m))))
  plain_entry (Some (an_element ns part owner)) plain = ap Some (entry_frame g h (an_element ns part owner) text.defined tt)
  plain_entry (Some (a_location d)) plain = ap Some (entry_frame g h (a_location d) text.defined (known (names_needed (a_location d))))
  plain_entry (Some (a_parameter m)) plain = ap Some (entry_frame g h (a_parameter m) text.defined (known (names_needed (a_parameter m))))
  plain_entry (Some (a_procedure p)) plain = ap Some (entry_frame g h (a_procedure p) text.defined (known (names_needed (a_procedure p))))
  plain_entry (Some (a_signal s)) plain = ap Some (entry_frame g h (a_signal s) text.defined (known (names_needed (a_signal s))))
  plain_entry (Some (a_process p)) plain = refl
  plain_entry (Some (a_modulion kind items)) plain = refl
  plain_entry (Some (a_predefined p)) plain = refl
  plain_entry (Some (a_counter c)) plain = absurd (true≢false (sym plain))
  plain_entry (Some (a_received n count part)) plain = absurd (true≢false (sym plain))

module _ (text : List ℕ) (t : ProgramTree) (g h : Ground) (has : HasNames text t) (is_g : IsGroundOf t g) (is_h : IsStatementGroundOf t h) where
  alike : SameText g h
  alike = grounds_alike t g h is_g.names is_h.names

  looked : (d : ℕ) → is_looked_up (slice_get g.origins d) ≡ true → slice_get g.entries d ≡ slice_get h.entries d
  looked d up = let order = text_order text t g has is_g.names in counters_apart g h order.0 alike order.1 is_g.entries is_h.entries d up

  by_entry : (d : ℕ) → option_map (entry_by g) (slice_get g.origins d) ≡ option_map (entry_with_counters h) (slice_get g.origins d) → slice_get g.entries d ≡ slice_get h.entries d
  by_entry d same =
      ap (λ es. slice_get es d) is_g.entries ∙ slice_get-map (entry_by g) g.origins d ∙ same ∙ ap (λ os. option_map (entry_with_counters h) (slice_get os d)) alike.origins
      ∙ sym (ap (λ es. slice_get es d) is_h.entries ∙ slice_get-map (entry_with_counters h) h.origins d)

  plain_same : (d : ℕ) → is_plain (slice_get g.origins d) ≡ true → slice_get g.entries d ≡ slice_get h.entries d
  plain_same d plain = by_entry d (plain_entry g h alike looked (slice_get g.origins d) plain)

  origins : g.origins ≡ origins_of t
  origins = ap (λ (x : Ground). x.origins) is_g.names

  -- what a received name is received from is plain
  message_same : (d : ℕ) (n : Name) (count part : ℕ) → slice_get g.origins d ≡ Some (a_received n count part) → entry_of g n ≡ entry_of h n
  message_same d n count part at = by_number (number_at g.uses n.at) refl ∙ ap (option_and_then (slice_get h.entries)) (number_same g h n alike)
    where
      plain_at : (e : ℕ) (o : Option Origin) → slice_get (origins_of t) e ≡ o → is_kind_at is_message (with_predefined (definitions_of t)) e ≡ true → is_plain o ≡ true
      plain_at e None is sent = refl
      plain_at e (Some o) is sent = sent_plain t e o is sent

      by_number : (k : Option ℕ) → number_at g.uses n.at ≡ k → option_and_then (slice_get g.entries) k ≡ option_and_then (slice_get h.entries) k
      by_number None is = refl
      by_number (Some e) is =
          let row : number_at (ground_with t g.entries).uses n.at ≡ Some e = ap (λ (x : Ground). number_at x.uses n.at) (sym is_g.names) ∙ is in
          let sent = sent_to text t g.entries has d e n count part (sym (ap (λ os. slice_get os d) origins) ∙ at) (subst (λ k. Contains (some_number k) e) (sym row) (here_in e [] e refl)) in
          plain_same e (plain_at e (slice_get g.origins e) (sym (ap (λ os. slice_get os e) origins)) sent)

  received_entry : (d : ℕ) (n : Name) (count part : ℕ) → slice_get g.origins d ≡ Some (a_received n count part) → entry_by g (a_received n count part) ≡ entry_by h (a_received n count part)
  received_entry d n count part at = entry_frame g h (a_received n count part) alike.defined (record { number = number_same g h n alike; origin = origin_same g h n alike; entry = message_same d n count part at })

  same_but_counters : (d : ℕ) (o : Option Origin) → slice_get g.origins d ≡ o → is_counter o ≡ false → slice_get g.entries d ≡ slice_get h.entries d
  same_but_counters d (Some (a_received n count part)) at apart =
      by_entry d (subst (λ o. option_map (entry_by g) o ≡ option_map (entry_with_counters h) o) (sym at) (ap Some (received_entry d n count part at)))
  same_but_counters d (Some (a_counter c)) at apart = absurd (true≢false apart)
  same_but_counters d None at apart = plain_same d (ap is_plain at)
  same_but_counters d (Some (a_synonym s)) at apart = plain_same d (ap is_plain at)
  same_but_counters d (Some (a_mode novel m)) at apart = plain_same d (ap is_plain at)
  same_but_counters d (Some (an_element ns part owner)) at apart = plain_same d (ap is_plain at)
  same_but_counters d (Some (a_location l)) at apart = plain_same d (ap is_plain at)
  same_but_counters d (Some (a_parameter m)) at apart = plain_same d (ap is_plain at)
  same_but_counters d (Some (a_procedure p)) at apart = plain_same d (ap is_plain at)
  same_but_counters d (Some (a_process p)) at apart = plain_same d (ap is_plain at)
  same_but_counters d (Some (a_signal s)) at apart = plain_same d (ap is_plain at)
  same_but_counters d (Some (a_modulion kind items)) at apart = plain_same d (ap is_plain at)
  same_but_counters d (Some (a_predefined p)) at apart = plain_same d (ap is_plain at)

pub but_counters : TextCountersLaw
but_counters text t g h has is_g is_h d apart = same_but_counters text t g h has is_g is_h d (slice_get g.origins d) refl apart

-- where all but counters has the same entry in a ground as before, it has it by that ground
module _ (text : List ℕ) (t : ProgramTree) (g h : Ground) (has : HasNames text t) (is_g : IsGroundOf t g) (alike_h : SameText g h) (same : (d : ℕ) → is_counter (slice_get g.origins d) ≡ false → slice_get g.entries d ≡ slice_get h.entries d) where
  looked_no_counter : (o : Option Origin) → is_looked_up o ≡ true → is_counter o ≡ false
  looked_no_counter None up = refl
  looked_no_counter (Some (a_counter c)) up = absurd (true≢false (sym up))
  looked_no_counter (Some (a_synonym s)) up = refl
  looked_no_counter (Some (a_mode novel m)) up = refl
  looked_no_counter (Some (an_element ns part owner)) up = refl
  looked_no_counter (Some (a_location l)) up = refl
  looked_no_counter (Some (a_parameter m)) up = refl
  looked_no_counter (Some (a_received n count part)) up = refl
  looked_no_counter (Some (a_procedure p)) up = refl
  looked_no_counter (Some (a_process p)) up = refl
  looked_no_counter (Some (a_signal s)) up = refl
  looked_no_counter (Some (a_modulion kind items)) up = refl
  looked_no_counter (Some (a_predefined p)) up = refl

  plain_no_counter : (o : Option Origin) → is_plain o ≡ true → is_counter o ≡ false
  plain_no_counter None up = refl
  plain_no_counter (Some (a_counter c)) up = absurd (true≢false (sym up))
  plain_no_counter (Some (a_synonym s)) up = refl
  plain_no_counter (Some (a_mode novel m)) up = refl
  plain_no_counter (Some (an_element ns part owner)) up = refl
  plain_no_counter (Some (a_location l)) up = refl
  plain_no_counter (Some (a_parameter m)) up = refl
  plain_no_counter (Some (a_received n count part)) up = refl
  plain_no_counter (Some (a_procedure p)) up = refl
  plain_no_counter (Some (a_process p)) up = refl
  plain_no_counter (Some (a_signal s)) up = refl
  plain_no_counter (Some (a_modulion kind items)) up = refl
  plain_no_counter (Some (a_predefined p)) up = refl

  looked_same : (d : ℕ) → is_looked_up (slice_get g.origins d) ≡ true → slice_get g.entries d ≡ slice_get h.entries d
  looked_same d up = same d (looked_no_counter (slice_get g.origins d) up)

  origins_same : g.origins ≡ origins_of t
  origins_same = ap (λ (x : Ground). x.origins) is_g.names

  plain_at : (e : ℕ) (o : Option Origin) → slice_get (origins_of t) e ≡ o → is_kind_at is_message (with_predefined (definitions_of t)) e ≡ true → is_plain o ≡ true
  plain_at e None is sent = refl
  plain_at e (Some o) is sent = sent_plain t e o is sent

  source_same : (d : ℕ) (n : Name) (count part : ℕ) → slice_get g.origins d ≡ Some (a_received n count part) → entry_of g n ≡ entry_of h n
  source_same d n count part at = by_number (number_at g.uses n.at) refl ∙ ap (option_and_then (slice_get h.entries)) (number_same g h n alike_h)
    where
      by_number : (k : Option ℕ) → number_at g.uses n.at ≡ k → option_and_then (slice_get g.entries) k ≡ option_and_then (slice_get h.entries) k
      by_number None is = refl
      by_number (Some e) is =
          let row : number_at (ground_with t g.entries).uses n.at ≡ Some e = ap (λ (x : Ground). number_at x.uses n.at) (sym is_g.names) ∙ is in
          let sent = sent_to text t g.entries has d e n count part (sym (ap (λ os. slice_get os d) origins_same) ∙ at) (subst (λ k. Contains (some_number k) e) (sym row) (here_in e [] e refl)) in
          same e (plain_no_counter (slice_get g.origins e) (plain_at e (slice_get g.origins e) (sym (ap (λ os. slice_get os e) origins_same)) sent))

  entry_now : (d : ℕ) (o : Option Origin) → slice_get g.origins d ≡ o → is_counter o ≡ false → option_map (entry_by g) o ≡ option_map (entry_with_counters h) o
  entry_now d (Some (a_received n count part)) at apart =
      ap Some (entry_frame g h (a_received n count part) alike_h.defined (record { number = number_same g h n alike_h; origin = origin_same g h n alike_h; entry = source_same d n count part at }))
  entry_now d (Some (a_counter c)) at apart = absurd (true≢false apart)
  entry_now d None at apart = refl
  entry_now d (Some (a_synonym s)) at apart = plain_entry g h alike_h looked_same (Some (a_synonym s)) refl
  entry_now d (Some (a_mode novel m)) at apart = plain_entry g h alike_h looked_same (Some (a_mode novel m)) refl
  entry_now d (Some (an_element ns part owner)) at apart = plain_entry g h alike_h looked_same (Some (an_element ns part owner)) refl
  entry_now d (Some (a_location l)) at apart = plain_entry g h alike_h looked_same (Some (a_location l)) refl
  entry_now d (Some (a_parameter m)) at apart = plain_entry g h alike_h looked_same (Some (a_parameter m)) refl
  entry_now d (Some (a_procedure p)) at apart = plain_entry g h alike_h looked_same (Some (a_procedure p)) refl
  entry_now d (Some (a_process p)) at apart = plain_entry g h alike_h looked_same (Some (a_process p)) refl
  entry_now d (Some (a_signal s)) at apart = plain_entry g h alike_h looked_same (Some (a_signal s)) refl
  entry_now d (Some (a_modulion kind items)) at apart = plain_entry g h alike_h looked_same (Some (a_modulion kind items)) refl
  entry_now d (Some (a_predefined p)) at apart = plain_entry g h alike_h looked_same (Some (a_predefined p)) refl

pub entries_kept : (text : List ℕ) (t : ProgramTree) (g h : Ground) → HasNames text t → IsGroundOf t g → SameText g h → ((d : ℕ) → is_counter (slice_get g.origins d) ≡ false → slice_get g.entries d ≡ slice_get h.entries d)
    → (d : ℕ) → is_counter (slice_get g.origins d) ≡ false → slice_get h.entries d ≡ option_map (entry_with_counters h) (slice_get g.origins d)
entries_kept text t g h has is_g alike same d apart =
    sym (same d apart) ∙ ap (λ es. slice_get es d) is_g.entries ∙ slice_get-map (entry_by g) g.origins d ∙ entry_now text t g h has is_g alike same d (slice_get g.origins d) refl apart
