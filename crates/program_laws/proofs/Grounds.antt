-- All is known of the names of a text that breaks no rule.
use Rattle.std.proofs.Common.{◌≡◌, ℕ, true, false, List, [], ◌∷◌, ◌++◌, Option, Some, None, true≢false, refl, sym, ap, ◌∙◌}
use Rattle.std.specs.Prelude.{not, map, flat_map, slice_get, option_map, option_and_then}
use Rattle.chill_tree.specs.declared.tree.name.Name.{Name}
use Rattle.chill_tree.specs.declared.tree.item.Passing.{Passing}
use Rattle.chill_tree.specs.ModeTree as written
use Rattle.chill_tree.specs.ItemTree.{ParamTree, FormalTree, ProgramTree}
use Rattle.modes.specs.ModeTree.{ModeTree}
use Rattle.checks_model.specs.Ground.{Ground, Origin, Entry, a_parameter, a_procedure, a_process, a_signal, origin_of, entry_of, number_at, message_of, message_parts}
use Rattle.checks_model.specs.ValueRules.{returns_none}
use Rattle.checks_model.specs.Origins.{text_origins}
use Rattle.checks_model.specs.Table.{entry_with_counters}
use Rattle.checks_model.specs.Diagnoses.{BreaksNoRule}
use Rattle.written_laws.specs.Written.{Each}
use Rattle.there_laws.proofs.Counted.{counted_there}
use Rattle.there_laws.proofs.Names as there
use Rattle.there_laws.proofs.CounterModes.{names_modes}
use Rattle.elaboration_model.specs.Numbering.{is_signal}
use Rattle.elaboration_model.specs.Expressions.{Formal, passing_of, mode_defined, formals_of_param, formals_by, modes_of_formal, modes_by}
use Rattle.elaboration_model.specs.Elaborated.{source_of}
use Rattle.expression_laws.specs.Names.{stands_for_procedure, IsPlace, ArePlaces, AreFormals, AllNamesKnown}
use Rattle.expression_laws.specs.Things.{AllRowsPlaced, origin_is, returns_mode, IsGroundKnown}
use Rattle.expression_laws.proofs.KnownNames.{names_known}
use Rattle.expression_laws.proofs.Outside.{meets_outside}
use Rattle.expression_laws.proofs.TextRows.{rows_placed}
use Rattle.program_laws.proofs.Rows.{AreDefinedAs, ParamSo, FormalSo}
use Rattle.program_laws.proofs.Counters.{processes_clean, result_there, counted_there_all}
use Rattle.program_laws.proofs.Defined.{names_list, defined_in, origin_so, entry_at, param_place, parts_places, defined_place}

returned : (o : Option Origin) → origin_is returns_mode o ≡ true → (returns_none o ≡ false) × (stands_for_procedure o ≡ true)
returned (Some (a_procedure p)) is = (ap not is, refl)
returned o is = absurd (true≢false (sym is))

formals_both : (fs gs : List Formal) → AreFormals fs → AreFormals gs → AreFormals (fs ++ gs)
formals_both [] gs first later = later
formals_both (f ∷ fs) gs first later = (first.0, formals_both fs gs first.1 later)

places_both : (ms ks : List (Option ModeTree)) → ArePlaces ms → ArePlaces ks → ArePlaces (ms ++ ks)
places_both [] ks first later = later
places_both (m ∷ ms) ks first later = (first.0, places_both ms ks first.1 later)

module _ (text : List ℕ) (t : ProgramTree) (h : Ground) (has : BreaksNoRule text t h) where
  pub all_placed : AllRowsPlaced (source_of h t)
  all_placed = rows_placed t h has.is_ground (meets_outside text t h has.has_modes.has_names has.is_ground (processes_clean text t h has))

  -- ---- signals

  parts_known : (n : Name) → origin_is is_signal (origin_of h n) ≡ true → (ms : List (Option ModeTree)) × ((message_parts h n ≡ Some ms) × ArePlaces ms)
  parts_known n is = by (number_at h.uses n.at) refl is
    where
      by_origin : (e : ℕ) (o : Option Origin) → number_at h.uses n.at ≡ Some e → slice_get h.origins e ≡ o → origin_is is_signal o ≡ true → (ms : List (Option ModeTree)) × ((message_parts h n ≡ Some ms) × ArePlaces ms)
      by_origin e (Some (a_signal s)) number at is =
          let own = entry_with_counters h (a_signal s) in
          let origin : origin_of h n ≡ Some (a_signal s) = ap (option_and_then (slice_get h.origins)) number ∙ at in
          let entry : entry_of h n ≡ Some own = ap (option_and_then (slice_get h.entries)) number ∙ entry_at text t h has e (a_signal s) at in
          let same : message_parts h n ≡ Some own.parts = ap (message_of (entry_of h n)) origin ∙ ap (option_map (λ (x : Entry). x.parts)) entry in
          (own.parts, (same, parts_places text t h has e s at))
      by_origin e o number at is = absurd (true≢false (sym is))

      by : (k : Option ℕ) → number_at h.uses n.at ≡ k → origin_is is_signal (option_and_then (slice_get h.origins) k) ≡ true → (ms : List (Option ModeTree)) × ((message_parts h n ≡ Some ms) × ArePlaces ms)
      by None number is = absurd (true≢false (sym is))
      by (Some e) number is = by_origin e (slice_get h.origins e) number refl is

  -- ---- parameters

  param_mode : (n : Name) (w : written.ModeTree) → AreDefinedAs (text_origins t) (names_list text t h has) (a_parameter w) (n ∷ []) → IsPlace (mode_defined (source_of h t) n)
  param_mode n w at =
      let k = defined_in text t h has n (a_parameter w) at.0 in
      defined_place text t h has n (a_parameter w) k (param_place text t h has k.number w k.origin)

  names_formals : (p : Passing) (w : written.ModeTree) (ns : List Name) → AreDefinedAs (text_origins t) (names_list text t h has) (a_parameter w) ns → AreFormals (map (λ n. (p, mode_defined (source_of h t) n)) ns)
  names_formals p w [] all = tt
  names_formals p w (n ∷ ns) all = (param_mode n w (all.0, tt), names_formals p w ns all.1)

  params_formals : (qs : List ParamTree) → Each (ParamSo (text_origins t) (names_list text t h has)) qs → AreFormals (flat_map (formals_of_param (source_of h t)) qs)
  params_formals [] all = tt
  params_formals (q ∷ qs) all =
      formals_both (formals_of_param (source_of h t) q) (flat_map (formals_of_param (source_of h t)) qs) (names_formals (passing_of q.passing) q.mode q.names all.0) (params_formals qs all.1)

  names_places : (w : written.ModeTree) (ns : List Name) → AreDefinedAs (text_origins t) (names_list text t h has) (a_parameter w) ns → ArePlaces (map (mode_defined (source_of h t)) ns)
  names_places w [] all = tt
  names_places w (n ∷ ns) all = (param_mode n w (all.0, tt), names_places w ns all.1)

  formals_places : (qs : List FormalTree) → Each (FormalSo (text_origins t) (names_list text t h has)) qs → ArePlaces (flat_map (modes_of_formal (source_of h t)) qs)
  formals_places [] all = tt
  formals_places (q ∷ qs) all = places_both (modes_of_formal (source_of h t) q) (flat_map (modes_of_formal (source_of h t)) qs) (names_places q.mode q.names all.0) (formals_places qs all.1)

  formals_known : (n : Name) → AreFormals (formals_by (source_of h t) (origin_of h n))
  formals_known n = by (number_at h.uses n.at)
    where
      by_origin : (e : ℕ) (o : Option Origin) → slice_get h.origins e ≡ o → AreFormals (formals_by (source_of h t) o)
      by_origin e (Some (a_procedure p)) at = params_formals p.params (origin_so text t h has e (a_procedure p) at).1
      by_origin e o at = tt

      by : (k : Option ℕ) → AreFormals (formals_by (source_of h t) (option_and_then (slice_get h.origins) k))
      by None = tt
      by (Some e) = by_origin e (slice_get h.origins e) refl

  places_known : (n : Name) → ArePlaces (modes_by (source_of h t) (origin_of h n))
  places_known n = by (number_at h.uses n.at)
    where
      by_origin : (e : ℕ) (o : Option Origin) → slice_get h.origins e ≡ o → ArePlaces (modes_by (source_of h t) o)
      by_origin e (Some (a_process p)) at = formals_places p.formals (origin_so text t h has e (a_process p) at)
      by_origin e o at = tt

      by : (k : Option ℕ) → ArePlaces (modes_by (source_of h t) (option_and_then (slice_get h.origins) k))
      by None = tt
      by (Some e) = by_origin e (slice_get h.origins e) refl

  -- ---- names

  ground_known : (n : Name) → IsGroundKnown (source_of h t) n
  ground_known n = record {
    there = counted_there text t has.plain_ground h has.has_modes has.is_ground n;
    known = there.names_known text t has.plain_ground h has.has_modes has.is_ground n;
    modes = names_modes text t has.plain_ground h has.has_modes has.is_ground n;
    counted = counted_there_all text t h has n;
    result = λ is. (let r = returned (origin_of h n) is in result_there text t h has n r.0 r.1);
    parts = parts_known n;
    formals = formals_known n;
    places = places_known n;
  }

  pub all_names_known : AllNamesKnown (source_of h t)
  all_names_known n = names_known (source_of h t) n all_placed (ground_known n)
