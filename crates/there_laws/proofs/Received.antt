-- In a text that breaks no rule each received name has its mode: it is received from a buffer or by a signal, as one of as many names as
-- that has parts.
use Rattle.std.proofs.Common.{◌≡◌, ◌<◌, ℕ, zero, suc, ◌==◌, Bool, true, false, List, [], ◌∷◌, length, Option, Some, None, true≢false, arith, refl, sym, ap, ◌∙◌, subst}
use Rattle.std.specs.Prelude.{IsSome, not, slice_get, option_map, option_and_then, if◌then◌else◌}
use Rattle.std.proofs.lemmas.Bool.{eqb-true}
use Rattle.std.proofs.lemmas.Option.{slice_get-map}
use Rattle.diagnostics.specs.declared.rule.Rule.TheVariants as rules
use Rattle.chill_tree.specs.declared.tree.name.Name.{Name}
use Rattle.chill_tree.specs.LocalTree.{DeclarationTree}
use Rattle.chill_tree.specs.ItemTree.{SignalTree, ProgramTree}
use Rattle.modes.specs.ModeTree.{ModeTree}
use Rattle.names_model.specs.declared.definition.Definition.{Definition}
use Rattle.names_model.specs.declared.kind.Kind.{Kind}
use Rattle.names_model.specs.Kinds.{is_message}
use Rattle.names_model.specs.Definitions.{text_definitions, with_predefined, is_kind_at}
use Rattle.names_model.specs.Resolving.{level_of}
use Rattle.ground_laws.specs.Defining.{kind_of_predefined, Defines, AllDefine}
use Rattle.ground_laws.proofs.Defining.{origins_define}
use Rattle.checks_model.specs.Told.{tell_at, holds_of}
use Rattle.checks_model.specs.Ground.{Ground, Origin, Entry, Predefined, of_mode, truth, no_instance, num, succ, pred, abs, card, min, max, upper, lower, size, put_int, put_text, put_nl, get_int, a_synonym, a_mode, an_element, a_location, a_parameter, a_counter, a_received, a_procedure, a_process, a_signal, a_modulion, a_predefined, origin_of, entry_of, number_at, mode_of_entry, message_of, message_parts, element_of}
use Rattle.checks_model.specs.Classes.{located_name}
use Rattle.checks_model.specs.Origins.{origins_of}
use Rattle.checks_model.specs.Table.{entry_with_counters, received_mode}
use Rattle.checks_model.specs.Diagnoses.{HasNames, BreaksNoRule}
use Rattle.checks_model.specs.ActionRules.{told_control}
use Rattle.checks_model.specs.ProcessRules.{for_messages, told_misfit, told_listed}
use Rattle.checks_model.specs.Phases.{statements_told_at, processes_told_at, told_of_statements, told_of_processes}
use Rattle.checks_model.specs.Sites.{Site, sites}
use Rattle.class_laws.proofs.Receiving.{receive_there}
use Rattle.elaborated_laws.proofs.Told.{none_first, not_broken, not_true, no_some, same_some}
use Rattle.written_laws.specs.Written.{Each}
use Rattle.written_laws.proofs.WrittenSo.{none_listed, each_there}
use Rattle.order_laws.proofs.Selves.{is_message_at, message_stands}
use Rattle.there_laws.specs.Constants.{IsMeasurable}
use Rattle.there_laws.specs.Names.{ControlsLaw, ReceivedLaw}
use Rattle.there_laws.proofs.Nodes.{Gives, program_defined}
use Rattle.there_laws.proofs.Told.{each_clean}
use Rattle.there_laws.proofs.Names.{all_numbers_there, signals_known}

-- ---- what may be sent to

abbrev is_sendable : Option Origin → Bool
is_sendable (Some (a_location d)) = true
is_sendable (Some (a_signal s)) = true
is_sendable _ = false

abbrev IsMessageKind : Kind → Type 0
IsMessageKind k = is_message k ≡ true

predefined_apart : (p : Predefined) → is_message (kind_of_predefined p) ≡ true → is_sendable (Some (a_predefined p)) ≡ true
predefined_apart (of_mode m) sent = sent
predefined_apart (truth b) sent = sent
predefined_apart no_instance sent = sent
predefined_apart num sent = sent
predefined_apart succ sent = sent
predefined_apart pred sent = sent
predefined_apart abs sent = sent
predefined_apart card sent = sent
predefined_apart min sent = sent
predefined_apart max sent = sent
predefined_apart upper sent = sent
predefined_apart lower sent = sent
predefined_apart size sent = sent
predefined_apart put_int sent = sent
predefined_apart put_text sent = sent
predefined_apart put_nl sent = sent
predefined_apart get_int sent = sent

origin_sendable : (o : Origin) (d : Definition) → Defines o d → IsMessageKind d.kind → is_sendable (Some o) ≡ true
origin_sendable (a_synonym s) d is sent = subst IsMessageKind is.0 sent
origin_sendable (a_mode novel m) d is sent = subst IsMessageKind is sent
origin_sendable (an_element ns part owner) d is sent = subst IsMessageKind is.0 sent
origin_sendable (a_location l) d is sent = refl
origin_sendable (a_parameter m) d is sent = subst IsMessageKind is sent
origin_sendable (a_counter c) d is sent = subst IsMessageKind is.0 sent
origin_sendable (a_received n count part) d is sent = subst IsMessageKind is sent
origin_sendable (a_procedure p) d is sent = subst IsMessageKind is.0 sent
origin_sendable (a_process p) d is sent = subst IsMessageKind is.0 sent
origin_sendable (a_signal s) d is sent = refl
origin_sendable (a_modulion kind items) d is sent = subst IsMessageKind is sent
origin_sendable (a_predefined p) d is sent = predefined_apart p (subst IsMessageKind is.0 sent)

defined_sendable : (os : List Origin) (ds : List Definition) (k : ℕ) → AllDefine os ds → is_kind_at is_message ds k ≡ true → is_sendable (slice_get os k) ≡ true
defined_sendable [] [] k all sent = sent
defined_sendable [] (d ∷ ds) k all sent = absurd all
defined_sendable (o ∷ os) [] k all sent = absurd all
defined_sendable (o ∷ os) (d ∷ ds) zero all sent = origin_sendable o d all.0 sent
defined_sendable (o ∷ os) (d ∷ ds) (suc k) all sent = defined_sendable os ds k all.1 sent

-- ---- what is told at nodes

-- the right number of names is received, from what may be received from, and nothing is told of a loop
abbrev IsFine : Ground → Origin → Type 0
IsFine h (a_counter c) = told_control h c ≡ []
IsFine h (a_received n count part) = (part < count) × ((holds_of (λ ms. not (length ms == count)) (message_parts h n) ≡ false) × (told_misfit h for_messages n ≡ []))
IsFine h o = Unit {0}

-- nothing is told at a node of statements and of processes
abbrev IsCleanFor : Ground → Site → Type 0
IsCleanFor h s = (statements_told_at h s ≡ []) × (processes_told_at h s ≡ [])

fine_given : (h : Ground) → Gives (IsCleanFor h) (IsFine h)
fine_given h = record {
  synonym = λ s clean. tt;
  mode = λ novel d clean. tt;
  location = λ shared d clean. tt;
  parameter = λ w clean. tt;
  procedure = λ p clean. tt;
  signal = λ s clean. tt;
  counter = λ c clean. clean.0;
  received = λ earlier n ns part less source clean. (less, (not_broken (holds_of (λ ms. not (length ms == length ns)) (message_parts h n)) (tell_at rules.S5 n.at) clean.0, none_first (told_misfit h for_messages n) (told_listed h earlier n) source.1));
  element = λ ns part owner. tt;
  process = λ p. tt;
  modulion = λ kind items. tt;
  predefined = λ p. tt;
}

both_clean : (h : Ground) (ss : List Site) → Each (λ s. statements_told_at h s ≡ []) ss → Each (λ s. processes_told_at h s ≡ []) ss → Each (IsCleanFor h) ss
both_clean h [] first later = tt
both_clean h (s ∷ ss) first later = ((first.0, later.0), both_clean h ss first.1 later.1)

-- ---- one part of a message

same_count : (a b : ℕ) → not (a == b) ≡ false → (a == b) ≡ true
same_count a b is = not_true (a == b) is

part_got : (ms : List (Option ModeTree)) (part : ℕ) → part < length ms → Each (λ m. IsSome m) ms → IsSome (option_and_then (λ m. m) (slice_get ms part))
part_got [] part less each = absurd (omega arith)
part_got (m ∷ ms) zero less each = each.0
part_got (m ∷ ms) (suc part) less each = part_got ms part (omega arith) each.1

message_mode : (ms : Option (List (Option ModeTree))) (count part : ℕ) → IsSome ms → ((xs : List (Option ModeTree)) → ms ≡ Some xs → Each (λ m. IsSome m) xs) → part < count → holds_of (λ ms. not (length ms == count)) ms ≡ false → IsSome (received_mode ms count part)
message_mode None count part there each less right = absurd (true≢false (sym there))
message_mode (Some xs) count part there each less right =
    let same = same_count (length xs) count right in
    let long : length xs ≡ count = eqb-true (length xs) count same in
    subst (λ b. IsSome (if b then option_and_then (λ m. m) (slice_get xs part) else None)) (sym same) (part_got xs part (omega (arith, long, less)) (each xs refl))

some_part : (m : Option ModeTree) → IsSome m → (xs : List (Option ModeTree)) → option_map (λ m. Some m ∷ []) m ≡ Some xs → Each (λ m. IsSome m) xs
some_part (Some m) there xs is = subst (λ ys. Each (λ m. IsSome m) ys) (same_some (Some m ∷ []) xs is) (refl, tt)
some_part None there xs is = no_some xs is

mapped_there : {A B : Type 0} (f : A → B) (x : Option A) → IsSome x → IsSome (option_map f x)
mapped_there f (Some x) there = refl
mapped_there f None there = absurd (true≢false (sym there))

-- all parts of a message are there
record MessageThere (h : Ground) (n : Name) : Type 0 where
  there : IsSome (message_parts h n)
  each : (xs : List (Option ModeTree)) → message_parts h n ≡ Some xs → Each (λ m. IsSome m) xs

module _ (text : List ℕ) (t : ProgramTree) (h : Ground) (has : BreaksNoRule text t h) where
  all_fine : Each (IsFine h) (origins_of t)
  all_fine =
      program_defined (IsCleanFor h) (IsFine h) (fine_given h) t
      (both_clean h (sites t) (each_clean (statements_told_at h) (sites t) (none_listed (told_of_statements h t) has.statements)) (each_clean (processes_told_at h) (sites t) (none_listed (told_of_processes h t) has.processes)))

  origins : h.origins ≡ origins_of t
  origins = ap (λ (x : Ground). x.origins) has.is_ground.names

  fine : (d : ℕ) (o : Origin) → slice_get h.origins d ≡ Some o → IsFine h o
  fine d o at = each_there (IsFine h) (origins_of t) d o all_fine (sym (ap (λ os. slice_get os d) origins) ∙ at)

  entry_at : (d : ℕ) (o : Origin) → slice_get h.origins d ≡ Some o → slice_get h.entries d ≡ Some (entry_with_counters h o)
  entry_at d o at = ap (λ es. slice_get es d) has.is_ground.entries ∙ slice_get-map (entry_with_counters h) h.origins d ∙ ap (option_map (entry_with_counters h)) at

  -- the message of a received name, by its number and by what defines that
  of_location : (n : Name) (e : ℕ) (l : DeclarationTree) → number_at h.uses n.at ≡ Some e → slice_get h.origins e ≡ Some (a_location l) → told_misfit h for_messages n ≡ [] → MessageThere h n
  of_location n e l number at none =
      let origin : origin_of h n ≡ Some (a_location l) = ap (option_and_then (slice_get h.origins)) number ∙ at in
      let located : IsSome (mode_of_entry (slice_get h.entries e)) = subst (λ o. IsMeasurable (located_name (slice_get h.entries e) o)) at (all_numbers_there text t has.plain_ground h has.has_modes has.is_ground e).located in
      let own : IsSome (mode_of_entry (entry_of h n)) = subst (λ k. IsSome (mode_of_entry (option_and_then (slice_get h.entries) k))) (sym number) located in
      let element = receive_there h n l origin own none in
      let same : message_parts h n ≡ option_map (λ m. Some m ∷ []) (option_and_then element_of (mode_of_entry (entry_of h n))) = ap (message_of (entry_of h n)) origin in
      record {
        there = subst (λ ms. IsSome ms) (sym same) (mapped_there (λ m. Some m ∷ []) (option_and_then element_of (mode_of_entry (entry_of h n))) element);
        each = λ xs is. some_part (option_and_then element_of (mode_of_entry (entry_of h n))) element xs (sym same ∙ is);
      }

  of_signal : (n : Name) (e : ℕ) (s : SignalTree) → number_at h.uses n.at ≡ Some e → slice_get h.origins e ≡ Some (a_signal s) → MessageThere h n
  of_signal n e s number at =
      let origin : origin_of h n ≡ Some (a_signal s) = ap (option_and_then (slice_get h.origins)) number ∙ at in
      let own = entry_with_counters h (a_signal s) in
      let entry : entry_of h n ≡ Some own = ap (option_and_then (slice_get h.entries)) number ∙ entry_at e (a_signal s) at in
      let same : message_parts h n ≡ Some own.parts = ap (message_of (entry_of h n)) origin ∙ ap (option_map (λ (x : Entry). x.parts)) entry in
      record {
        there = subst (λ ms. IsSome ms) (sym same) refl;
        each = λ xs is. subst (λ ys. Each (λ m. IsSome m) ys) (same_some own.parts xs (sym same ∙ is)) (signals_known text t has.plain_ground h has.has_modes has.is_ground e s own at (entry_at e (a_signal s) at));
      }

  message_there : (d : ℕ) (n : Name) (count part : ℕ) → slice_get h.origins d ≡ Some (a_received n count part) → told_misfit h for_messages n ≡ [] → MessageThere h n
  message_there d n count part at none = by_number (number_at h.uses n.at) refl stands
    where
      names : HasNames text t
      names = has.has_modes.has_names

      stands : is_message_at text t h.entries names (number_at h.uses n.at) ≡ true
      stands =
          subst (λ (x : Ground). is_message_at text t h.entries names (number_at x.uses n.at) ≡ true) (sym has.is_ground.names) (message_stands text t h.entries names d n count part (sym (ap (λ os. slice_get os d) origins) ∙ at))

      by_origin : (e : ℕ) (o : Option Origin) → number_at h.uses n.at ≡ Some e → slice_get h.origins e ≡ o → is_sendable o ≡ true → MessageThere h n
      by_origin e (Some (a_location l)) number is sent = of_location n e l number is none
      by_origin e (Some (a_signal s)) number is sent = of_signal n e s number is
      by_origin e None number is sent = absurd (true≢false (sym sent))
      by_origin e (Some (a_synonym s)) number is sent = absurd (true≢false (sym sent))
      by_origin e (Some (a_mode novel m)) number is sent = absurd (true≢false (sym sent))
      by_origin e (Some (an_element ns i owner)) number is sent = absurd (true≢false (sym sent))
      by_origin e (Some (a_parameter m)) number is sent = absurd (true≢false (sym sent))
      by_origin e (Some (a_counter c)) number is sent = absurd (true≢false (sym sent))
      by_origin e (Some (a_received k i j)) number is sent = absurd (true≢false (sym sent))
      by_origin e (Some (a_procedure p)) number is sent = absurd (true≢false (sym sent))
      by_origin e (Some (a_process p)) number is sent = absurd (true≢false (sym sent))
      by_origin e (Some (a_modulion kind items)) number is sent = absurd (true≢false (sym sent))
      by_origin e (Some (a_predefined p)) number is sent = absurd (true≢false (sym sent))

      by_number : (k : Option ℕ) → number_at h.uses n.at ≡ k → is_message_at text t h.entries names k ≡ true → MessageThere h n
      by_number None number sent = absurd (true≢false (sym sent))
      by_number (Some e) number sent =
          by_origin e (slice_get h.origins e) number refl (subst (λ os. is_sendable (slice_get os e) ≡ true) (sym origins) (defined_sendable (origins_of t) (with_predefined (text_definitions (level_of t))) e (origins_define t) sent))

  received_known : (d : ℕ) (n : Name) (count part : ℕ) → slice_get h.origins d ≡ Some (a_received n count part) → IsSome (mode_of_entry (slice_get h.entries d))
  received_known d n count part at =
      let told = fine d (a_received n count part) at in
      let message = message_there d n count part at told.1.1 in
      subst (λ e. IsSome (mode_of_entry e)) (sym (entry_at d (a_received n count part) at)) (message_mode (message_parts h n) count part message.there message.each told.0 told.1.0)

pub received_there : ReceivedLaw
received_there text t h has d n count part at = received_known text t h has d n count part at

pub controls_clean : ControlsLaw
controls_clean text t h has d c at = fine text t h has d (a_counter c) at
