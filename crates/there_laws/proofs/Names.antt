-- What is known of definitions and names in the ground that knows counters: but for counters it is what is known in the other.
use Rattle.std.proofs.Common.{◌≡◌, ℕ, Bool, true, false, List, [], ◌∷◌, Option, Some, None, true≢false, refl, sym, ap, ◌∙◌, subst}
use Rattle.std.specs.Prelude.{IsSome, is_some, map, flat_map, slice_get, option_map, option_and_then}
use Rattle.std.proofs.lemmas.Option.{slice_get-map}
use Rattle.chill_tree.specs.declared.tree.name.Name.{Name}
use Rattle.chill_tree.specs.ModeTree as written
use Rattle.chill_tree.specs.ItemTree.{ProgramTree, ProcedureTree, SignalTree}
use Rattle.checks_model.specs.Ground.{Ground, Origin, Entry, a_synonym, a_mode, an_element, a_location, a_parameter, a_counter, a_received, a_procedure, a_process, a_signal, a_modulion, a_predefined, origin_of, entry_of, number_at, mode_of_entry, class_of_entry, named_mode, mode_of_name}
use Rattle.checks_model.specs.Classes.{class_of_origin}
use Rattle.checks_model.specs.Constants.{value_of_name}
use Rattle.checks_model.specs.WrittenModes.{mode_of, some_mode_of, told_of_mode, told_of_some_mode}
use Rattle.checks_model.specs.Table.{entry_by, parts_of_signal, IsStatementGroundOf}
use Rattle.checks_model.specs.Diagnoses.{HasModes}
use Rattle.table_laws.specs.Names.{names_in_mode}
use Rattle.table_laws.specs.OneTable.{SameText}
use Rattle.elaborated_laws.specs.Known.{IsKnownName}
use Rattle.elaborated_laws.specs.Classes as classes
use Rattle.elaborated_laws.proofs.Told.{none_first, none_later, no_some, same_some}
use Rattle.elaborated_laws.proofs.Table.{table_known}
use Rattle.elaborated_laws.proofs.Entries.{table_modes}
use Rattle.written_laws.specs.Written.{Each}
use Rattle.written_laws.proofs.WrittenSo.{all_written, all_defined}
use Rattle.order_laws.specs.Texts.{is_counter}
use Rattle.order_laws.proofs.Counters.{number_same, origin_same}
use Rattle.order_laws.proofs.Selves.{text_order}
use Rattle.order_laws.proofs.TextCounters.{grounds_alike, but_counters}
use Rattle.there_laws.specs.Table.{IsThereBy, SomeModeNamed, EachModeNamed, SomeModesNamed}
use Rattle.there_laws.specs.Told.{told_of_parts}
use Rattle.there_laws.specs.Names.{NumbersThereLaw, NamesKnownLaw, ResultsLaw, SignalsLaw}
use Rattle.there_laws.proofs.Constants.{AllKnown}
use Rattle.there_laws.proofs.Modes.{written_there}
use Rattle.there_laws.proofs.Needs.{AreThere, mode_needs}
use Rattle.there_laws.proofs.Told.{untold}
use Rattle.there_laws.proofs.Named.{all_named}
use Rattle.there_laws.proofs.Plain.{text_numbers, text_there}
use Rattle.there_laws.proofs.Counted.{unneeded}

-- ---- counters

-- what is known of a counter gives no value and no mode's name
counter_value : (e : Option Entry) (o : Option Origin) → is_counter o ≡ true → value_of_name e o ≡ None
counter_value e (Some (a_counter c)) is = refl
counter_value e (Some (a_synonym s)) is = absurd (true≢false (sym is))
counter_value e (Some (a_mode novel m)) is = absurd (true≢false (sym is))
counter_value e (Some (an_element ns part owner)) is = absurd (true≢false (sym is))
counter_value e (Some (a_location d)) is = absurd (true≢false (sym is))
counter_value e (Some (a_parameter m)) is = absurd (true≢false (sym is))
counter_value e (Some (a_received n count part)) is = absurd (true≢false (sym is))
counter_value e (Some (a_procedure p)) is = absurd (true≢false (sym is))
counter_value e (Some (a_process p)) is = absurd (true≢false (sym is))
counter_value e (Some (a_signal s)) is = absurd (true≢false (sym is))
counter_value e (Some (a_modulion kind items)) is = absurd (true≢false (sym is))
counter_value e (Some (a_predefined p)) is = absurd (true≢false (sym is))
counter_value e None is = absurd (true≢false (sym is))

pub counter_mode_name : (e : Option Entry) (k : Option ℕ) (o : Option Origin) → is_counter o ≡ true → named_mode e k o ≡ None
counter_mode_name e None (Some (a_counter c)) is = refl
counter_mode_name e (Some d) (Some (a_counter c)) is = refl
counter_mode_name e k (Some (a_synonym s)) is = absurd (true≢false (sym is))
counter_mode_name e k (Some (a_mode novel m)) is = absurd (true≢false (sym is))
counter_mode_name e k (Some (an_element ns part owner)) is = absurd (true≢false (sym is))
counter_mode_name e k (Some (a_location d)) is = absurd (true≢false (sym is))
counter_mode_name e k (Some (a_parameter m)) is = absurd (true≢false (sym is))
counter_mode_name e k (Some (a_received n count part)) is = absurd (true≢false (sym is))
counter_mode_name e k (Some (a_procedure p)) is = absurd (true≢false (sym is))
counter_mode_name e k (Some (a_process p)) is = absurd (true≢false (sym is))
counter_mode_name e k (Some (a_signal s)) is = absurd (true≢false (sym is))
counter_mode_name e k (Some (a_modulion kind items)) is = absurd (true≢false (sym is))
counter_mode_name e k (Some (a_predefined p)) is = absurd (true≢false (sym is))
counter_mode_name e k None is = absurd (true≢false (sym is))

-- it isn't looked up by constants and modes
counter_needs : (e : Option Entry) (k : Option ℕ) (o : Option Origin) → is_counter o ≡ true → IsThereBy e k o
counter_needs e k (Some (a_counter c)) is = unneeded e k (Some (a_counter c)) refl
counter_needs e k (Some (a_synonym s)) is = absurd (true≢false (sym is))
counter_needs e k (Some (a_mode novel m)) is = absurd (true≢false (sym is))
counter_needs e k (Some (an_element ns part owner)) is = absurd (true≢false (sym is))
counter_needs e k (Some (a_location d)) is = absurd (true≢false (sym is))
counter_needs e k (Some (a_parameter m)) is = absurd (true≢false (sym is))
counter_needs e k (Some (a_received n count part)) is = absurd (true≢false (sym is))
counter_needs e k (Some (a_procedure p)) is = absurd (true≢false (sym is))
counter_needs e k (Some (a_process p)) is = absurd (true≢false (sym is))
counter_needs e k (Some (a_signal s)) is = absurd (true≢false (sym is))
counter_needs e k (Some (a_modulion kind items)) is = absurd (true≢false (sym is))
counter_needs e k (Some (a_predefined p)) is = absurd (true≢false (sym is))
counter_needs e k None is = absurd (true≢false (sym is))

-- ---- modes of results and of signals

result_there : (g : Ground) (r : Option written.ModeTree) → AllKnown g → ((ns : List Name) → AreThere g ns) → SomeModeNamed g r → told_of_some_mode g r ≡ [] → IsSome r → IsSome (some_mode_of g r)
result_there g None known there named none is = absurd (true≢false (sym is))
result_there g (Some w) known there named none is = written_there g false w known (mode_needs g w (there (names_in_mode w)) named) none

each_there : (g : Ground) (ws : List written.ModeTree) → AllKnown g → ((ns : List Name) → AreThere g ns) → EachModeNamed g ws → flat_map (told_of_mode g false) ws ≡ [] → Each (λ m. IsSome m) (map (mode_of g false) ws)
each_there g [] known there named none = tt
each_there g (w ∷ ws) known there named none = (
  written_there g false w known (mode_needs g w (there (names_in_mode w)) named.0) (none_first (told_of_mode g false w) (flat_map (told_of_mode g false) ws) none),
  each_there g ws known there named.1 (none_later (told_of_mode g false w) (flat_map (told_of_mode g false) ws) none),
)

parts_there : (g : Ground) (ws : Option (List written.ModeTree)) → AllKnown g → ((ns : List Name) → AreThere g ns) → SomeModesNamed g ws → told_of_parts g ws ≡ [] → Each (λ m. IsSome m) (parts_of_signal g ws)
parts_there g None known there named none = tt
parts_there g (Some ws) known there named none = each_there g ws known there named none

module _ (text : List ℕ) (t : ProgramTree) (g h : Ground) (has : HasModes text t g) (is_h : IsStatementGroundOf t h) where
  alike : SameText g h
  alike = grounds_alike t g h has.is_ground.names is_h.names

  known : AllKnown g
  known n = let order = text_order text t g has.has_names has.is_ground.names in table_known g order.0 has.is_ground.entries order.1 (all_defined text t g has.has_names has.is_ground.names) n

  all_there : (ns : List Name) → AreThere g ns
  all_there [] = tt
  all_there (n ∷ ns) = (text_there text t g has n, all_there ns)

  modes : (n : Name) → classes.HasModes g n
  modes n =
      let order = text_order text t g has.has_names has.is_ground.names in
      table_modes g order.0 has.is_ground.entries order.1 (all_defined text t g has.has_names has.is_ground.names) (all_written text t g has.has_names has.is_ground.names) n

  entry_at : (d : ℕ) → is_counter (slice_get g.origins d) ≡ false → slice_get g.entries d ≡ slice_get h.entries d
  entry_at d apart = but_counters text t g h has.has_names has.is_ground is_h d apart

  origin_at_number : (d : ℕ) → slice_get g.origins d ≡ slice_get h.origins d
  origin_at_number d = ap (λ os. slice_get os d) alike.origins

  -- ---- by numbers

  number_there : (d : ℕ) → IsThereBy (slice_get h.entries d) (Some d) (slice_get h.origins d)
  number_there d = subst (λ o. IsThereBy (slice_get h.entries d) (Some d) o) (origin_at_number d) (by (is_counter (slice_get g.origins d)) refl)
    where
      by : (b : Bool) → is_counter (slice_get g.origins d) ≡ b → IsThereBy (slice_get h.entries d) (Some d) (slice_get g.origins d)
      by true is = counter_needs (slice_get h.entries d) (Some d) (slice_get g.origins d) is
      by false apart = subst (λ e. IsThereBy e (Some d) (slice_get g.origins d)) (entry_at d apart) (text_numbers text t g has d)

  -- ---- by names

  entry_named : (n : Name) → is_counter (origin_of g n) ≡ false → entry_of g n ≡ entry_of h n
  entry_named n apart = by (number_at g.uses n.at) apart ∙ ap (option_and_then (slice_get h.entries)) (number_same g h n alike)
    where
      by : (k : Option ℕ) → is_counter (option_and_then (slice_get g.origins) k) ≡ false → option_and_then (slice_get g.entries) k ≡ option_and_then (slice_get h.entries) k
      by None apart = refl
      by (Some d) apart = entry_at d apart

  mode_named : (n : Name) → is_counter (origin_of g n) ≡ false → mode_of_name g n ≡ mode_of_name h n
  mode_named n apart =
      ap (λ e. named_mode e (number_at g.uses n.at) (origin_of g n)) (entry_named n apart) ∙ ap (λ k. named_mode (entry_of h n) k (origin_of g n)) (number_same g h n alike)
      ∙ ap (named_mode (entry_of h n) (number_at h.uses n.at)) (origin_same g h n alike)

  name_modes : (n : Name) → is_counter (origin_of h n) ≡ false → classes.HasModes h n
  name_modes n apart =
      let plain : is_counter (origin_of g n) ≡ false = ap is_counter (origin_same g h n alike) ∙ apart in
      let own = modes n in
      record {
        mode = λ m is. own.mode m (ap mode_of_entry (entry_named n plain) ∙ is);
        class = λ c is. own.class c (ap class_of_entry (entry_named n plain) ∙ is);
        own = λ m is. own.own m (mode_named n plain ∙ is);
      }

  name_known : (n : Name) → IsKnownName h n
  name_known n = by (is_counter (origin_of g n)) refl
    where
      by : (b : Bool) → is_counter (origin_of g n) ≡ b → IsKnownName h n
      by true is =
          let counter : is_counter (origin_of h n) ≡ true = ap is_counter (sym (origin_same g h n alike)) ∙ is in
          record {
            class = λ value. absurd (true≢false (sym value ∙ ap is_some (counter_value (entry_of h n) (origin_of h n) counter)));
            mode = λ m named. no_some m (sym (counter_mode_name (entry_of h n) (number_at h.uses n.at) (origin_of h n) counter) ∙ named);
          }
      by false plain =
          let own = known n in
          let values : value_of_name (entry_of g n) (origin_of g n) ≡ value_of_name (entry_of h n) (origin_of h n) = ap (λ e. value_of_name e (origin_of g n)) (entry_named n plain) ∙ ap (value_of_name (entry_of h n)) (origin_same g h n alike) in
          let same : class_of_origin (entry_of g n) (origin_of g n) ≡ class_of_origin (entry_of h n) (origin_of h n) = ap (λ e. class_of_origin e (origin_of g n)) (entry_named n plain) ∙ ap (class_of_origin (entry_of h n)) (origin_same g h n alike) in
          record {
            class = λ value. subst (λ c. IsSome c) same (own.class (subst (λ v. IsSome v) (sym values) value));
            mode = λ m named. own.mode m (mode_named n plain ∙ named);
          }

  -- ---- by what defines them

  entry_is : (d : ℕ) (o : Origin) → slice_get h.origins d ≡ Some o → is_counter (Some o) ≡ false → slice_get h.entries d ≡ Some (entry_by g o)
  entry_is d o at apart =
      let own : slice_get g.origins d ≡ Some o = origin_at_number d ∙ at in
      sym (entry_at d (ap is_counter own ∙ apart)) ∙ ap (λ es. slice_get es d) has.is_ground.entries ∙ slice_get-map (entry_by g) g.origins d ∙ ap (option_map (entry_by g)) own

  result_known : (d : ℕ) (p : ProcedureTree) → slice_get h.origins d ≡ Some (a_procedure p) → IsSome p.returns → IsSome (mode_of_entry (slice_get h.entries d))
  result_known d p at is =
      let own : slice_get g.origins d ≡ Some (a_procedure p) = origin_at_number d ∙ at in
      let named = all_named text t g has.has_names has.is_ground.names d (a_procedure p) own in
      let none = untold g t (ap (λ (x : Ground). x.origins) has.is_ground.names) has.modes d (a_procedure p) own in
      subst (λ e. IsSome (mode_of_entry e)) (sym (entry_is d (a_procedure p) at refl)) (result_there g p.returns known all_there named none is)

  signal_known : (d : ℕ) (s : SignalTree) (e : Entry) → slice_get h.origins d ≡ Some (a_signal s) → slice_get h.entries d ≡ Some e → Each (λ m. IsSome m) e.parts
  signal_known d s e at entry =
      let own : slice_get g.origins d ≡ Some (a_signal s) = origin_at_number d ∙ at in
      let named = all_named text t g has.has_names has.is_ground.names d (a_signal s) own in
      let none = untold g t (ap (λ (x : Ground). x.origins) has.is_ground.names) has.modes d (a_signal s) own in
      subst (λ (x : Entry). Each (λ m. IsSome m) x.parts) (same_some (entry_by g (a_signal s)) e (sym (entry_is d (a_signal s) at refl) ∙ entry)) (parts_there g s.parts known all_there named none)

pub all_numbers_there : NumbersThereLaw
all_numbers_there text t g h has is_h d = number_there text t g h has is_h d

pub names_known : NamesKnownLaw
names_known text t g h has is_h n = name_known text t g h has is_h n

-- of all but counters the modes are such as a location may have
pub plain_modes : (text : List ℕ) (t : ProgramTree) (g h : Ground) → HasModes text t g → IsStatementGroundOf t h → (n : Name) → is_counter (origin_of h n) ≡ false → classes.HasModes h n
plain_modes text t g h has is_h n apart = name_modes text t g h has is_h n apart

pub results_known : ResultsLaw
results_known text t g h has is_h d p at is = result_known text t g h has is_h d p at is

pub signals_known : SignalsLaw
signals_known text t g h has is_h d s e at entry = signal_known text t g h has is_h d s e at entry
