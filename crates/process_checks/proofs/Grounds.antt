-- The facts of an evaluation are those of its ground.
use Rattle.std.proofs.Common.{◌≡◌, ℕ, zero, suc, ◌+◌, List, [], ◌∷◌, map, Option, Some, None, refl, sym, ap, ◌∙◌, arith}
use Rattle.std.specs.Prelude.{option_map, option_and_then, slice_get}
use Rattle.std.proofs.lemmas.Option.{same_Some, slice_get-map}
use Rattle.modes.specs.ModeTree.{ModeTree, int, boolean, char, instance, set_of, range, powerset, chars, array, structure, event, buffer, read, named}
use Rattle.checks_model.specs.Ground.{Ground, number_at, origin_of, entry_of, entry_defined, mode_of_entry, a_synonym, a_mode, an_element, a_location, a_parameter, a_counter, a_received, a_procedure, a_process, a_signal, a_modulion, a_predefined}
use Rattle.checks_model.specs.Ground as model
use Rattle.checks_model.specs.ProcessRules.{Meeting as MetAt, meets_signal, meeting_of, met_by}
use Rattle.definition_origins.specs.declared.origin.Origin.{Origin}
use Rattle.definition_origins.specs.declared.origin.Origin.TheVariants as origins
use Rattle.constant_operators.specs.declared.evaluation.Entry.{Entry}
use Rattle.constant_operators.specs.declared.evaluation.Evaluation.{Evaluation}
use Rattle.met_names.specs.Facts.{met_in, flat, meeting_at}
use Rattle.process_names.specs.Phase.{as_met, AreFactsOf}
use Rattle.process_checks.specs.MetByNumber.{mode_known, declared_as, declared_by, used_as, used_from, facts_of}
use Rattle.process_checks.specs.ByNames.{Sort, of_signal, of_location, of_neither, sort_defined, sort_held, IsEvaluationOn}

met_alike : (m : ModeTree) → as_met (met_in m) ≡ meeting_of m
met_alike (event l) = refl
met_alike (buffer l e) = refl
met_alike (read m) = met_alike m
met_alike (named d n m) = met_alike m
met_alike int = refl
met_alike boolean = refl
met_alike char = refl
met_alike instance = refl
met_alike (set_of d n) = refl
met_alike (range m l h) = refl
met_alike (powerset m) = refl
met_alike (chars n) = refl
met_alike (array i e how) = refl
met_alike (structure fs p) = refl

-- what is met where a definition of a sort has a mode
abbrev met_sort : Option Sort → Option ModeTree → Option MetAt
met_sort None m = None
met_sort (Some of_signal) m = Some meets_signal
met_sort (Some of_location) m = option_map meeting_of m
met_sort (Some of_neither) m = None

by_ground : (e : Option model.Entry) (o : Option model.Origin) → met_by e o ≡ met_sort (option_map sort_defined o) (mode_of_entry e)
by_ground e None = refl
by_ground e (Some (a_signal s)) = refl
by_ground e (Some (a_location d)) = refl
by_ground e (Some (a_synonym s)) = refl
by_ground e (Some (a_mode novel m)) = refl
by_ground e (Some (an_element ns part owner)) = refl
by_ground e (Some (a_parameter m)) = refl
by_ground e (Some (a_counter c)) = refl
by_ground e (Some (a_received n count part)) = refl
by_ground e (Some (a_procedure p)) = refl
by_ground e (Some (a_process p)) = refl
by_ground e (Some (a_modulion kind items)) = refl
by_ground e (Some (a_predefined p)) = refl

-- the mode that is known of what may be missing
abbrev mode_by : Option Entry → Option ModeTree
mode_by None = None
mode_by (Some e) = mode_known e

declared_alike : (e : Option Entry) → option_map as_met (declared_by e) ≡ option_map meeting_of (mode_by e)
declared_alike None = refl
declared_alike (Some e) = by (mode_known e)
  where
    by : (m : Option ModeTree) → option_map as_met (option_map met_in m) ≡ option_map meeting_of m
    by None = refl
    by (Some m) = ap Some (met_alike m)

by_evaluation : (e : Option Entry) (o : Option Origin) → option_map as_met (flat (option_map (λ own. used_as own e) o)) ≡ met_sort (option_map sort_held o) (mode_by e)
by_evaluation e None = refl
by_evaluation e (Some (origins.Signal s)) = refl
by_evaluation e (Some (origins.Location d first)) = declared_alike e
by_evaluation e (Some (origins.Synonym s first)) = refl
by_evaluation e (Some (origins.SynMode d)) = refl
by_evaluation e (Some (origins.NewMode d)) = refl
by_evaluation e (Some (origins.Element own)) = refl
by_evaluation e (Some (origins.Parameter m passing first)) = refl
by_evaluation e (Some (origins.Counter c)) = refl
by_evaluation e (Some (origins.Received a part)) = refl
by_evaluation e (Some (origins.Procedure p)) = refl
by_evaluation e (Some (origins.Process p)) = refl
by_evaluation e (Some (origins.Modulion m)) = refl
by_evaluation e (Some (origins.Predefined own)) = refl

modes_alike : (k : Option model.Entry) (e : Option Entry) → option_map (λ known. known.mode) k ≡ option_map mode_known e → mode_of_entry k ≡ mode_by e
modes_alike None None same = refl
modes_alike None (Some e) same = absurd (let no : ⊥ = cc in no)
modes_alike (Some k) None same = absurd (let no : ⊥ = cc in no)
modes_alike (Some k) (Some e) same = same_Some k.mode (mode_known e) same

used_got : (es : List Entry) (os : List Origin) (from d : ℕ) → slice_get (used_from es from os) d ≡ option_map (λ o. used_as o (slice_get es (from + d))) (slice_get os d)
used_got es [] from d = refl
used_got es (o ∷ os) from zero = ap (λ n. Some (used_as o (slice_get es n))) (omega arith)
used_got es (o ∷ os) from (suc d) = used_got es os (suc from) d ∙ ap (λ n. option_map (λ own. used_as own (slice_get es n)) (slice_get os d)) (omega arith)

declared_got : (es : List Entry) (d : ℕ) → flat (slice_get (map declared_as es) d) ≡ declared_by (slice_get es d)
declared_got es d = ap flat (slice_get-map declared_as es d) ∙ by (slice_get es d)
  where
    by : (e : Option Entry) → flat (option_map declared_as e) ≡ declared_by e
    by None = refl
    by (Some e) = refl

module _ (g : Ground) (e : Evaluation) (evaluated : IsEvaluationOn g e) where
  abbrev es : List Entry
  es = e.entries.items

  mode_at : (d : ℕ) → mode_of_entry (slice_get g.entries d) ≡ mode_by (slice_get es d)
  mode_at d = modes_alike (slice_get g.entries d) (slice_get es d) (sym (slice_get-map (λ known. known.mode) g.entries d) ∙ ap (λ ms. slice_get ms d) evaluated.modes ∙ slice_get-map mode_known es d)

  sort_at : (d : ℕ) → option_map sort_defined (slice_get g.origins d) ≡ option_map sort_held (slice_get e.origins d)
  sort_at d = sym (slice_get-map sort_defined g.origins d) ∙ ap (λ ss. slice_get ss d) evaluated.sorts ∙ slice_get-map sort_held e.origins d

  used_at : (n : Option ℕ) → met_by (option_and_then (slice_get g.entries) n) (option_and_then (slice_get g.origins) n) ≡ option_map as_met (meeting_at (used_from es 0 e.origins) n)
  used_at None = refl
  used_at (Some d) =
      by_ground (slice_get g.entries d) (slice_get g.origins d)
      ∙ ap (λ s. met_sort s (mode_of_entry (slice_get g.entries d))) (sort_at d)
      ∙ ap (met_sort (option_map sort_held (slice_get e.origins d))) (mode_at d)
      ∙ sym (by_evaluation (slice_get es d) (slice_get e.origins d))
      ∙ ap (λ k. option_map as_met (flat (option_map (λ o. used_as o (slice_get es k)) (slice_get e.origins d)))) (omega arith)
      ∙ ap (λ m. option_map as_met (flat m)) (sym (used_got es e.origins 0 d))

  declared_at : (n : Option ℕ) → option_map meeting_of (mode_of_entry (option_and_then (slice_get g.entries) n)) ≡ option_map as_met (meeting_at (map declared_as es) n)
  declared_at None = refl
  declared_at (Some d) = ap (option_map meeting_of) (mode_at d) ∙ sym (declared_alike (slice_get es d)) ∙ ap (option_map as_met) (sym (declared_got es d))

  pub are_facts : AreFactsOf (facts_of e) g
  are_facts = record {
    numbers = λ n. ap (λ us. number_at us n.at) (sym evaluated.uses);
    used = λ n. used_at (number_at g.uses n.at) ∙ ap (λ us. option_map as_met (meeting_at (used_from es 0 e.origins) (number_at us n.at))) evaluated.uses;
    declared = λ n. declared_at (number_at g.defined n.at) ∙ ap (λ ds. option_map as_met (meeting_at (map declared_as es) (number_at ds n.at))) evaluated.defined;
  }
