-- What the names of a text define, by numbers, and the modes of these.
use Rattle.std.proofs.Common.{◌≡◌, ℕ, zero, suc, Bool, true, false, List, [], ◌∷◌, ◌++◌, Option, Some, None, inl, inr, refl, sym, ap, ◌∙◌, subst}
use Rattle.std.specs.Prelude.{IsSome, map, flat_map, slice_get, option_map, option_and_then}
use Rattle.std.proofs.lemmas.Option.{slice_get-map}
use Rattle.chill_tree.specs.declared.tree.name.Name.{Name}
use Rattle.chill_tree.specs.ModeTree as written
use Rattle.chill_tree.specs.LocalTree.{DeclarationTree}
use Rattle.chill_tree.specs.ItemTree.{ProcedureTree, SignalTree, ProgramTree}
use Rattle.modes.specs.ModeTree.{ModeTree}
use Rattle.modes.specs.Language.{IsOfLanguage}
use Rattle.names_model.specs.declared.identifier.Identifier.{Identifier}
use Rattle.names_model.specs.declared.kind.Need.TheVariants as needs
use Rattle.names_model.specs.declared.definition.Definition.{Definition}
use Rattle.names_model.specs.declared.definition.Inside.TheVariants.{Outermost}
use Rattle.names_model.specs.declared.part.Mention.{Mention}
use Rattle.names_model.specs.declared.part.Mention.TheVariants.{Use, Argument, Element}
use Rattle.names_model.specs.Identifiers.{identifier}
use Rattle.names_model.specs.Definitions.{text_definitions}
use Rattle.names_model.specs.Resolving.{level_of}
use Rattle.ground_laws.proofs.Rows.{each_use}
use Rattle.checks_model.specs.Ground.{Ground, Origin, a_location, a_parameter, a_procedure, a_signal, origin_at, origin_of, number_at, entry_defined, mode_of_entry}
use Rattle.checks_model.specs.Classes.{located_name}
use Rattle.checks_model.specs.WrittenModes.{mode_of, some_mode_of}
use Rattle.checks_model.specs.Origins.{in_both_cases, text_origins, predefined_origins, origins_of}
use Rattle.checks_model.specs.Table.{numbered, parts_of_signal, entry_with_counters}
use Rattle.checks_model.specs.Sites.{items_of, sites_of_item}
use Rattle.checks_model.specs.Diagnoses.{BreaksNoRule}
use Rattle.table_laws.specs.Names.{names_in_mode}
use Rattle.elaborated_laws.specs.Known.{IsDeclarable, IsKnownName}
use Rattle.elaborated_laws.specs.Modes.{IsWritten}
use Rattle.elaborated_laws.specs.Entries.{IsSomeWritten, AllWritten, AreSomeWritten, AllWrittenSo}
use Rattle.elaborated_laws.proofs.Told.{no_some, same_some}
use Rattle.elaborated_laws.proofs.Modes.{language_declarable, mode_fits}
use Rattle.written_laws.specs.Written.{Each}
use Rattle.written_laws.proofs.Shown.{each_append, each_any, each_flat}
use Rattle.written_laws.proofs.Mentioned.{is_resolved, HoldsWhereUntold, program_passes}
use Rattle.written_laws.proofs.WrittenSo.{each_predefined, each_there, all_written}
use Rattle.there_laws.specs.Constants.{IsMeasurable}
use Rattle.there_laws.proofs.Constants.{each_known}
use Rattle.there_laws.proofs.Names.{all_numbers_there, names_known, results_known, signals_known}
use Rattle.expression_laws.specs.Names.{stands_for_process, IsPlace, ArePlaces}
use Rattle.expression_laws.proofs.Outside.{defined_at}
use Rattle.expression_laws.proofs.Mentions.{IsGroundOfText, process_stands, use_stands}
use Rattle.program_laws.proofs.DefinitionNames.{name_of_definition, all_names}
use Rattle.program_laws.proofs.Rows.{IsDefinedAs, SiteSo, OriginSo, ModulionSo, HeadsOk, SomeReceiver, SignalSo, text_held}

-- ---- numbers

record NumberOf (os : List Origin) (is : List Identifier) (n : Name) (o : Origin) : Type 0 where
  number : ℕ
  origin : slice_get os number ≡ Some o
  name : slice_get is number ≡ Some (identifier n)

number_of : (os : List Origin) (is : List Identifier) (n : Name) (o : Origin) → IsDefinedAs os is n o → NumberOf os is n o
number_of [] is n o at = absurd at
number_of (x ∷ os) [] n o at = absurd at
number_of (x ∷ os) (i ∷ is) n o (inl at) = record { number = zero; origin = ap Some at.0; name = ap Some at.1 }
number_of (x ∷ os) (i ∷ is) n o (inr at) = let k = number_of os is n o at in record { number = suc k.number; origin = k.origin; name = k.name }

definition_named : (ds : List Definition) (k : ℕ) (i : Identifier) → slice_get (map name_of_definition ds) k ≡ Some i → (x : Definition) × ((slice_get ds k ≡ Some x) × (x.name ≡ i))
definition_named [] k i at = no_some i at
definition_named (d ∷ ds) zero i at = (d, (refl, same_some d.name i at))
definition_named (d ∷ ds) (suc k) i at = definition_named ds k i at

among_first : (os us : List Origin) (k : ℕ) (o : Origin) → slice_get os k ≡ Some o → slice_get (os ++ us) k ≡ Some o
among_first [] us k o at = no_some o at
among_first (x ∷ os) us zero o at = at
among_first (x ∷ os) us (suc k) o at = among_first os us k o at

-- a name defines what is defined so
pub record DefinedIn (h : Ground) (n : Name) (o : Origin) : Type 0 where
  pub number : ℕ
  pub at : number_at h.defined n.at ≡ Some number
  pub origin : slice_get h.origins number ≡ Some o

-- ---- the processes of signals

abbrev is_process_so : Ground → Mention → Bool
is_process_so g (Use n needs.Process) = stands_for_process (origin_at g n.at)
is_process_so g m = true

module _ (text : List ℕ) (t : ProgramTree) (h : Ground) (has : BreaksNoRule text t h) where
  ground_of : IsGroundOfText t h
  ground_of = record { uses = ap (λ (x : Ground). x.uses) has.is_ground.names; origins = ap (λ (x : Ground). x.origins) has.is_ground.names }

  mention_so : HoldsWhereUntold t (is_process_so h)
  mention_so k (Use n needs.Process) used none =
      let names = has.has_modes.has_names in
      use_stands t h k.reach (record { at = n.at; text = n.spelling }) needs.Process stands_for_process ground_of process_stands
      (record { told = none; row = λ i c. (let row = each_use names.has_tree.tokens t k i (is_resolved text t names) (used i c) in record { number = row.number; seen = row.is_seen; has_row = row.has_row }) })
  mention_so k (Use n needs.Mode) used none = refl
  mention_so k (Use n needs.Action) used none = refl
  mention_so k (Use n needs.Location) used none = refl
  mention_so k (Use n needs.Message) used none = refl
  mention_so k (Use n needs.Value) used none = refl
  mention_so k (Argument n callee) used none = refl
  mention_so k (Element n) used none = refl

  -- the names of the definitions of the text
  pub names_list : List Identifier
  names_list = (text_held (is_process_so h) t.modulions).held.names

  -- ---- what the walk gives

  pub defined_in : (n : Name) (o : Origin) → IsDefinedAs (text_origins t) names_list n o → DefinedIn h n o
  unfolding names_list
  defined_in n o at =
      let names = has.has_modes.has_names in
      let held = (text_held (is_process_so h) t.modulions).held in
      let ds = text_definitions (level_of t) in
      let k = number_of (text_origins t) held.names n o at in
      let x = definition_named ds k.number (identifier n) (ap (λ is. slice_get is k.number) (all_names Outermost 0 (level_of t) ∙ held.are) ∙ k.name) in
      let place_is : x.0.name.at ≡ n.at = ap (λ (i : Identifier). i.at) x.1.1 in
      record {
        number = k.number;
        at = ap (λ (y : Ground). number_at y.defined n.at) has.is_ground.names ∙ (ap (number_at (numbered 0 ds)) (sym place_is) ∙ defined_at text t k.number x.0 names x.1.0);
        origin = ap (λ (y : Ground). slice_get y.origins k.number) has.is_ground.names ∙ among_first (text_origins t) predefined_origins k.number o k.origin;
      }

  pub sites_so : Each (SiteSo (text_origins t) names_list) (flat_map sites_of_item (items_of t))
  unfolding names_list
  sites_so = (text_held (is_process_so h) t.modulions).held.at_sites

  -- parameters stand behind each procedure and each process
  pub heads_so : HeadsOk 0 (text_origins t) (text_definitions (level_of t))
  heads_so = (text_held (is_process_so h) t.modulions).held.heads Outermost 0

  pub modulions_so : Each (ModulionSo (text_origins t) names_list) (items_of t)
  unfolding names_list
  modulions_so = (text_held (is_process_so h) t.modulions).modulions

  pub origin_so : (d : ℕ) (o : Origin) → slice_get h.origins d ≡ Some o → OriginSo (text_origins t) names_list o
  unfolding names_list
  origin_so d o at =
      let held = (text_held (is_process_so h) t.modulions).held in
      let P = OriginSo (text_origins t) held.names in
      each_there P (origins_of t) d o (each_append P (text_origins t) predefined_origins held.origins (each_flat (λ p. Unit {0}) P in_both_cases (λ p fits. (tt, (tt, tt))) each_predefined (each_any (λ p. Unit {0}) (λ p. tt) each_predefined)))
      (sym (ap (λ (y : Ground). slice_get y.origins d) has.is_ground.names) ∙ at)

  -- the process that a signal is for
  pub signal_so : (d : ℕ) (s : SignalTree) → slice_get h.origins d ≡ Some (a_signal s) → (n : Name) → s.process ≡ Some n → stands_for_process (origin_of h n) ≡ true
  signal_so d s at n is =
      let held = (text_held (is_process_so h) t.modulions).held in
      let P = SignalSo (is_process_so h) in
      let all = held.signal (program_passes text t (is_process_so h) has.has_modes.has_names mention_so) in
      let own = each_there P (origins_of t) d (a_signal s) (each_append P (text_origins t) predefined_origins all (each_flat (λ p. Unit {0}) P in_both_cases (λ p fits. (tt, (tt, tt))) each_predefined (each_any (λ p. Unit {0}) (λ p. tt) each_predefined)))
      (sym (ap (λ (y : Ground). slice_get y.origins d) has.is_ground.names) ∙ at) in
      subst (λ x. SomeReceiver (is_process_so h) x) is own

  -- ---- modes by numbers

  known : (n : Name) → IsKnownName h n
  known n = names_known text t has.plain_ground h has.has_modes has.is_ground n

  pub written_so : AllWrittenSo h
  written_so = all_written text t h has.has_modes.has_names has.is_ground.names

  pub entry_at : (d : ℕ) (o : Origin) → slice_get h.origins d ≡ Some o → slice_get h.entries d ≡ Some (entry_with_counters h o)
  entry_at d o at = ap (λ es. slice_get es d) has.is_ground.entries ∙ slice_get-map (entry_with_counters h) h.origins d ∙ ap (option_map (entry_with_counters h)) at

  pub own_mode : (d : ℕ) (o : Origin) (m : ModeTree) → slice_get h.origins d ≡ Some o → mode_of_entry (slice_get h.entries d) ≡ Some m → (entry_with_counters h o).mode ≡ Some m
  own_mode d o m at is = sym (ap mode_of_entry (entry_at d o at)) ∙ is

  located : (d : ℕ) (o : Origin) → slice_get h.origins d ≡ Some o → IsMeasurable (located_name (slice_get h.entries d) (Some o))
  located d o at = subst (λ x. IsMeasurable (located_name (slice_get h.entries d) x)) at (all_numbers_there text t has.plain_ground h has.has_modes has.is_ground d).located

  pub part_language : (w : written.ModeTree) (m : ModeTree) → IsWritten w → mode_of h false w ≡ Some m → IsOfLanguage m
  part_language w m shape is = mode_fits h false w m (each_known h (names_in_mode w) known) shape is

  part_fits : (w : written.ModeTree) (m : ModeTree) → IsWritten w → mode_of h false w ≡ Some m → IsDeclarable m
  part_fits w m shape is = language_declarable m (mode_fits h false w m (each_known h (names_in_mode w) known) shape is)

  pub location_place : (k : ℕ) (d : DeclarationTree) → slice_get h.origins k ≡ Some (a_location d) → IsPlace (mode_of_entry (slice_get h.entries k))
  location_place k d at = record { there = located k (a_location d) at; fits = λ m is. mode_fits h true d.mode m (each_known h (names_in_mode d.mode) known) (written_so k (a_location d) at) (own_mode k (a_location d) m at is) }

  pub param_place : (k : ℕ) (w : written.ModeTree) → slice_get h.origins k ≡ Some (a_parameter w) → IsPlace (mode_of_entry (slice_get h.entries k))
  param_place k w at = record { there = located k (a_parameter w) at; fits = λ m is. part_fits w m (written_so k (a_parameter w) at) (own_mode k (a_parameter w) m at is) }

  some_fits : (w : Option written.ModeTree) (m : ModeTree) → IsSomeWritten w → some_mode_of h w ≡ Some m → IsDeclarable m
  some_fits None m shape is = no_some m is
  some_fits (Some w) m shape is = part_fits w m shape is

  pub result_place : (k : ℕ) (p : ProcedureTree) → slice_get h.origins k ≡ Some (a_procedure p) → IsSome p.returns → IsPlace (mode_of_entry (slice_get h.entries k))
  result_place k p at returns = record {
    there = results_known text t has.plain_ground h has.has_modes has.is_ground k p at returns;
    fits = λ m is. some_fits p.returns m (written_so k (a_procedure p) at) (own_mode k (a_procedure p) m at is);
  }

  each_place : (ws : List written.ModeTree) → AllWritten ws → Each (λ m. IsSome m) (map (mode_of h false) ws) → ArePlaces (map (mode_of h false) ws)
  each_place [] shape there = tt
  each_place (w ∷ ws) shape there = (record { there = there.0; fits = λ m is. part_fits w m shape.0 is }, each_place ws shape.1 there.1)

  pub parts_places : (k : ℕ) (s : SignalTree) → slice_get h.origins k ≡ Some (a_signal s) → ArePlaces (parts_of_signal h s.parts)
  parts_places k s at = by s.parts (written_so k (a_signal s) at) (signals_known text t has.plain_ground h has.has_modes has.is_ground k s (entry_with_counters h (a_signal s)) at (entry_at k (a_signal s) at))
    where
      by : (ws : Option (List written.ModeTree)) → AreSomeWritten ws → Each (λ m. IsSome m) (parts_of_signal h ws) → ArePlaces (parts_of_signal h ws)
      by None shape there = tt
      by (Some ws) shape there = each_place ws shape there

  -- the mode of what a name defines
  pub defined_place : (n : Name) (o : Origin) (k : DefinedIn h n o) → IsPlace (mode_of_entry (slice_get h.entries k.number)) → IsPlace (mode_of_entry (entry_defined h n))
  defined_place n o k is = subst (λ x. IsPlace (mode_of_entry (option_and_then (slice_get h.entries) x))) (sym k.at) is
