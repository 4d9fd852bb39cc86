-- A text that breaks no rule on names has one ground that knows counters: all but counters is known there as in the one that
-- doesn't, and a counter's mode asks of no counter but such as stand before it.
use Rattle.std.proofs.Common.{◌≡◌, ◌⊎◌, inl, inr, ℕ, zero, suc, ◌<◌, Bool, true, false, List, [], ◌∷◌, Option, Some, None, true≢false, refl, sym, ap, ◌∙◌, subst, arith, Contains}
use Rattle.std.specs.Prelude.{slice_get, option_map, option_and_then}
use Rattle.std.proofs.lemmas.Option.{slice_get-map}
use Rattle.chill_tree.specs.declared.tree.name.Name.{Name}
use Rattle.chill_tree.specs.SimpleTree.{ControlTree}
use Rattle.chill_tree.specs.ItemTree.{ProgramTree}
use Rattle.names_laws.proofs.Members.{here_in, later_in}
use Rattle.checks_model.specs.Ground.{Ground, Origin, a_synonym, a_mode, an_element, a_location, a_parameter, a_counter, a_received, a_procedure, a_process, a_signal, a_modulion, a_predefined, origin_of, number_at}
use Rattle.checks_model.specs.ActionRules.{counter_mode}
use Rattle.checks_model.specs.Table.{of_mode_alone, entry_with_counters, ground_with, IsGroundOf, IsStatementGroundOf}
use Rattle.checks_model.specs.Diagnoses.{HasNames}
use Rattle.table_laws.specs.Names.{names_bounding}
use Rattle.table_laws.specs.Frames.{SameAt, SameAtEach, SameDefined, SameParameters, parameters_of}
use Rattle.table_laws.specs.OneTable.{SameText}
use Rattle.table_laws.proofs.ToldFrames.{counter_frame}
use Rattle.order_laws.specs.Texts.{is_counter}
use Rattle.order_laws.proofs.Counters.{number_same, origin_same}
use Rattle.order_laws.proofs.CounterOrder.{counters_rise}
use Rattle.order_laws.proofs.GroundThere.{ground_there}
use Rattle.order_laws.proofs.Params.{params_are_apart}
use Rattle.order_laws.proofs.TextCounters.{but_counters, grounds_alike}
use Rattle.diagnosis_laws.specs.Lists.{OneStatementGroundLaw}

-- lists are one whose elements are
same_lists : {A : Type 0} (xs ys : List A) → ((k : ℕ) → slice_get xs k ≡ slice_get ys k) → xs ≡ ys
same_lists [] [] same = refl
same_lists [] (y ∷ ys) same = absurd (let none : None ≡ Some y = same 0 in let no : ⊥ = cc in no)
same_lists (x ∷ xs) [] same = absurd (let none : Some x ≡ None = same 0 in let no : ⊥ = cc in no)
same_lists (x ∷ xs) (y ∷ ys) same = joined x y xs ys (same 0) (same_lists xs ys (λ k. same (suc k)))
  where
    joined : {A : Type 0} (x y : A) (xs ys : List A) → Some x ≡ Some y → xs ≡ ys → x ∷ xs ≡ y ∷ ys
    joined x y xs ys one rest = cc

is_or_not : (b : Bool) → (b ≡ true) ⊎ (b ≡ false)
is_or_not true = inl refl
is_or_not false = inr refl

counter_there : (o : Option Origin) → is_counter o ≡ true → (c : ControlTree) × (o ≡ Some (a_counter c))
counter_there (Some (a_counter c)) is = (c, refl)
counter_there None is = absurd (true≢false (sym is))
counter_there (Some (a_synonym s)) is = absurd (true≢false (sym is))
counter_there (Some (a_mode novel m)) is = absurd (true≢false (sym is))
counter_there (Some (an_element ns part owner)) is = absurd (true≢false (sym is))
counter_there (Some (a_location l)) is = absurd (true≢false (sym is))
counter_there (Some (a_parameter m)) is = absurd (true≢false (sym is))
counter_there (Some (a_received n count part)) is = absurd (true≢false (sym is))
counter_there (Some (a_procedure p)) is = absurd (true≢false (sym is))
counter_there (Some (a_process p)) is = absurd (true≢false (sym is))
counter_there (Some (a_signal s)) is = absurd (true≢false (sym is))
counter_there (Some (a_modulion kind items)) is = absurd (true≢false (sym is))
counter_there (Some (a_predefined p)) is = absurd (true≢false (sym is))

module _ (text : List ℕ) (t : ProgramTree) (g h : Ground) (has : HasNames text t) (is_g : IsStatementGroundOf t g) (is_h : IsStatementGroundOf t h) where
  alike : SameText g h
  alike = grounds_alike t g h is_g.names is_h.names

  -- of all but counters the same is known as in the ground for modes and constants
  plain_so : (d : ℕ) → is_counter (slice_get g.origins d) ≡ false → slice_get g.entries d ≡ slice_get h.entries d
  plain_so d none = by_plain (ground_there text t has)
    where
      by_plain : (f : Ground) × IsGroundOf t f → slice_get g.entries d ≡ slice_get h.entries d
      by_plain (f, is_f) =
          let as_g = grounds_alike t f g is_f.names is_g.names in
          let apart : is_counter (slice_get f.origins d) ≡ false = ap (λ os. is_counter (slice_get os d)) as_g.origins ∙ none in
          sym (but_counters text t f g has is_f is_g d apart) ∙ but_counters text t f h has is_f is_h d apart

  -- where the same is known of the counters before a number, it is known of what stands before it where it is a counter
  module _ (d : ℕ) (before : (e : ℕ) → e < d → slice_get g.entries e ≡ slice_get h.entries e) where
    entry_so : (k : Option ℕ) → ((e : ℕ) → k ≡ Some e → is_counter (slice_get g.origins e) ≡ true → e < d) → option_and_then (slice_get g.entries) k ≡ option_and_then (slice_get h.entries) k
    entry_so None low = refl
    entry_so (Some e) low = elim (is_or_not (is_counter (slice_get g.origins e))) [ inl counts ↦ before e (low e refl counts) | inr none ↦ plain_so e none ]

    name_so : (c : ControlTree) (n : Name) → slice_get g.origins d ≡ Some (a_counter c) → Contains (names_bounding c) n → SameAt g h n
    name_so c n at i = record {
      number = number_same g h n alike;
      origin = origin_same g h n alike;
      entry = entry_so (number_at g.uses n.at) (λ e is counts. let k = counter_there (slice_get g.origins e) counts in counters_rise text t g has is_g.names d e c k.0 n at i is k.1) ∙ ap (option_and_then (slice_get h.entries)) (number_same g h n alike);
    }

    names_so : (c : ControlTree) (ns : List Name) → slice_get g.origins d ≡ Some (a_counter c) → ((n : Name) → Contains ns n → Contains (names_bounding c) n) → SameAtEach g h ns
    names_so c [] at among = tt
    names_so c (n ∷ ns) at among = (name_so c n at (among n (here_in n ns n refl)), names_so c ns at (λ m i. among m (later_in n ns m i)))

    -- so are parameters, which are no counters
    defined_so : (n : Name) (ps : List Name) → ((p : Name) → Contains ps p → Contains (parameters_of (origin_of g n)) p) → SameDefined g h ps
    defined_so n [] among = tt
    defined_so n (p ∷ ps) among = (
      entry_so (number_at g.defined p.at) (λ e is counts. absurd (true≢false (sym counts ∙ params_are_apart text t g has (sym is_g.names) n p (among p (here_in p ps p refl)) e is)))
          ∙ ap (option_and_then (slice_get h.entries)) (ap (λ us. number_at us p.at) alike.defined),
      defined_so n ps (λ q i. among q (later_in p ps q i)),
    )

    parameters_so : (ns : List Name) → SameParameters g h ns
    parameters_so [] = tt
    parameters_so (n ∷ ns) = (defined_so n (parameters_of (origin_of g n)) (λ p i. i), parameters_so ns)

    counter_so : (c : ControlTree) → slice_get g.origins d ≡ Some (a_counter c) → counter_mode g c ≡ counter_mode h c
    counter_so c at = counter_frame g h c (names_so c (names_bounding c) at (λ n i. i)) (parameters_so (names_bounding c))

    by_entry : option_map (entry_with_counters g) (slice_get g.origins d) ≡ option_map (entry_with_counters h) (slice_get g.origins d) → slice_get g.entries d ≡ slice_get h.entries d
    by_entry same =
        ap (λ es. slice_get es d) is_g.entries ∙ slice_get-map (entry_with_counters g) g.origins d ∙ same ∙ ap (λ os. option_map (entry_with_counters h) (slice_get os d)) alike.origins
        ∙ sym (ap (λ es. slice_get es d) is_h.entries ∙ slice_get-map (entry_with_counters h) h.origins d)

    counted_so : (o : Option Origin) (c : ControlTree) → slice_get g.origins d ≡ o → o ≡ Some (a_counter c) → slice_get g.entries d ≡ slice_get h.entries d
    counted_so o c at counts =
        let here = at ∙ counts in
        by_entry (subst (λ o. option_map (entry_with_counters g) o ≡ option_map (entry_with_counters h) o) (sym here) (ap (λ m. Some (of_mode_alone m)) (counter_so c here)))

    here_so : slice_get g.entries d ≡ slice_get h.entries d
    here_so = elim (is_or_not (is_counter (slice_get g.origins d))) [
      | inl counts ↦ (let k = counter_there (slice_get g.origins d) counts in counted_so (slice_get g.origins d) k.0 refl k.1)
      | inr none ↦ plain_so d none
    ]

  -- below a number, one after the other
  below : (n d : ℕ) → d < n → slice_get g.entries d ≡ slice_get h.entries d
  below zero d less = absurd (omega (arith, less))
  below (suc n) d less = here_so d (λ e low. below n e (omega (arith, low, less)))

  entries_so : g.entries ≡ h.entries
  entries_so = same_lists g.entries h.entries (λ d. below (suc d) d (omega arith))

  ground_so : g ≡ h
  ground_so = is_g.names ∙ ap (ground_with t) entries_so ∙ sym is_h.names

pub one_statement_ground : OneStatementGroundLaw
one_statement_ground text t g h has is_g is_h = ground_so text t g h has is_g is_h
