-- A table that knows counters has the same of what is looked up, along an order.
use Rattle.std.proofs.Common.{◌≡◌, ℕ, true, List, [], ◌∷◌, length, inl, inr, Option, Some, None, true≢false, refl, sym, ap, ◌∙◌, subst, Contains}
use Rattle.std.specs.Prelude.{IfSome, slice_get, option_map, option_and_then}
use Rattle.std.proofs.lemmas.Bool.{cases_lt}
use Rattle.std.proofs.lemmas.Option.{slice_get-map, slice_get_past}
use Rattle.chill_tree.specs.declared.tree.name.Name.{Name}
use Rattle.names_laws.proofs.Members.{none_in, in_cases}
use Rattle.checks_model.specs.Ground.{Ground, Origin, a_synonym, a_mode, an_element, a_location, a_parameter, a_counter, a_received, a_procedure, a_process, a_signal, a_modulion, a_predefined, origin_of, entry_of, number_at}
use Rattle.checks_model.specs.Table.{entry_by, entry_with_counters}
use Rattle.table_laws.specs.Names.{names_needed}
use Rattle.table_laws.specs.Frames.{is_read, SameKnownEach}
use Rattle.table_laws.specs.OneTable.{IsEvaluated, SameText, AllDone, NeedsDone, NeedsEarlier}
use Rattle.table_laws.proofs.KnownFrames.{of_two}
use Rattle.table_laws.proofs.EntryFrames.{entry_frame}
use Rattle.order_laws.specs.Counters.{IsEvaluatedWithCounters, is_looked_up, CountersLaw}

-- ---- the same of what is done

abbrev SameOfDone : Ground → Ground → List ℕ → Type 0
SameOfDone g h done = (d : ℕ) → Contains done d → is_looked_up (slice_get g.origins d) ≡ true → slice_get g.entries d ≡ slice_get h.entries d

pub looked_up : (o : Option Origin) → is_read o ≡ true → is_looked_up o ≡ true
looked_up (Some (a_predefined p)) read = refl
looked_up (Some (a_synonym s)) read = refl
looked_up (Some (a_mode novel m)) read = refl
looked_up (Some (an_element ns part owner)) read = refl
looked_up (Some (a_location d)) read = refl
looked_up (Some (a_parameter m)) read = refl
looked_up (Some (a_counter c)) read = read
looked_up (Some (a_received n count part)) read = read
looked_up (Some (a_procedure p)) read = read
looked_up (Some (a_process p)) read = read
looked_up (Some (a_signal s)) read = read
looked_up (Some (a_modulion kind items)) read = read
looked_up None read = read

pub number_same : (g h : Ground) (n : Name) → SameText g h → number_at g.uses n.at ≡ number_at h.uses n.at
number_same g h n text = ap (λ us. number_at us n.at) text.uses

pub origin_same : (g h : Ground) (n : Name) → SameText g h → origin_of g n ≡ origin_of h n
origin_same g h n text = of_two (λ os d. option_and_then (slice_get os) d) text.origins (number_same g h n text)

entry_same : (g h : Ground) (done : List ℕ) (n : Name) → SameText g h → SameOfDone g h done → is_read (origin_of g n) ≡ true → IfSome (number_at g.uses n.at) (Contains done) → entry_of g n ≡ entry_of h n
entry_same g h done n text same read there = by_number (number_at g.uses n.at) read there ∙ ap (option_and_then (slice_get h.entries)) (number_same g h n text)
  where
    by_number : (k : Option ℕ) → is_read (option_and_then (slice_get g.origins) k) ≡ true → IfSome k (Contains done) → option_and_then (slice_get g.entries) k ≡ option_and_then (slice_get h.entries) k
    by_number None read there = refl
    by_number (Some d) read there = same d there (looked_up (slice_get g.origins d) read)

names_same : (g h : Ground) (done : List ℕ) (ns : List Name) → SameText g h → SameOfDone g h done → AllDone g done ns → SameKnownEach g h ns
names_same g h done [] text same all = tt
names_same g h done (n ∷ ns) text same all =
    (record { number = number_same g h n text; origin = origin_same g h n text; entry = λ read. entry_same g h done n text same read (all.0 read) }, names_same g h done ns text same all.1)

-- what is known of one definition
by_origin : (g h : Ground) (done : List ℕ) (o : Option Origin) → SameText g h → SameOfDone g h done → NeedsDone g done o → is_looked_up o ≡ true → option_map (entry_by g) o ≡ option_map (entry_with_counters h) o
by_origin g h done None text same all up = refl
by_origin g h done (Some (a_synonym s)) text same all up = ap Some (entry_frame g h (a_synonym s) text.defined (names_same g h done (names_needed (a_synonym s)) text same all))
by_origin g h done (Some (a_mode novel m)) text same all up = ap Some (entry_frame g h (a_mode novel m) text.defined (names_same g h done (names_needed (a_mode novel m)) text same all))
by_origin g h done (Some (an_element ns part owner)) text same all up = ap Some (entry_frame g h (an_element ns part owner) text.defined tt)
by_origin g h done (Some (a_location d)) text same all up = ap Some (entry_frame g h (a_location d) text.defined (names_same g h done (names_needed (a_location d)) text same all))
by_origin g h done (Some (a_parameter m)) text same all up = ap Some (entry_frame g h (a_parameter m) text.defined (names_same g h done (names_needed (a_parameter m)) text same all))
by_origin g h done (Some (a_predefined p)) text same all up = refl
by_origin g h done (Some (a_counter c)) text same all up = absurd (true≢false (sym up))
by_origin g h done (Some (a_received n count part)) text same all up = absurd (true≢false (sym up))
by_origin g h done (Some (a_procedure p)) text same all up = absurd (true≢false (sym up))
by_origin g h done (Some (a_process p)) text same all up = absurd (true≢false (sym up))
by_origin g h done (Some (a_signal s)) text same all up = absurd (true≢false (sym up))
by_origin g h done (Some (a_modulion kind items)) text same all up = absurd (true≢false (sym up))

-- ---- along an order

at_number : (g h : Ground) (done : List ℕ) (d : ℕ) → SameText g h → IsEvaluated g → IsEvaluatedWithCounters h → SameOfDone g h done → NeedsDone g done (slice_get g.origins d)
    → is_looked_up (slice_get g.origins d) ≡ true → slice_get g.entries d ≡ slice_get h.entries d
at_number g h done d text at_g at_h same all up =
    ap (λ es. slice_get es d) at_g ∙ slice_get-map (entry_by g) g.origins d ∙ by_origin g h done (slice_get g.origins d) text same all up ∙ ap (λ os. option_map (entry_with_counters h) (slice_get os d)) text.origins
    ∙ sym (ap (λ es. slice_get es d) at_h ∙ slice_get-map (entry_with_counters h) h.origins d)

one_more : (g h : Ground) (done : List ℕ) (d : ℕ) → SameOfDone g h done → (is_looked_up (slice_get g.origins d) ≡ true → slice_get g.entries d ≡ slice_get h.entries d) → SameOfDone g h (d ∷ done)
one_more g h done d same own e c = elim (in_cases d done e c) [
  | inl is ↦ subst (λ x. is_looked_up (slice_get g.origins x) ≡ true → slice_get g.entries x ≡ slice_get h.entries x) is own
  | inr there ↦ same e there
]

all_same : (g h : Ground) (done order : List ℕ) → SameText g h → IsEvaluated g → IsEvaluatedWithCounters h → SameOfDone g h done → NeedsEarlier g done order → SameOfDone g h order
all_same g h done [] text at_g at_h same earlier d c = absurd (none_in d c)
all_same g h done (e ∷ order) text at_g at_h same earlier d c =
    let own = at_number g h done e text at_g at_h same earlier.0 in
    one_more g h order e (all_same g h (e ∷ done) order text at_g at_h (one_more g h done e same own) earlier.1) own d c

pub counters_apart : CountersLaw
counters_apart g h order text is_order at_g at_h d up = elim (cases_lt d (length g.origins)) [
  | inl less ↦ all_same g h [] order text at_g at_h (λ e c. absurd (none_in e c)) is_order.earlier d (is_order.all d less) up
  | inr past ↦ at_number g h [] d text at_g at_h (λ e c. absurd (none_in e c)) (subst (NeedsDone g []) (sym (slice_get_past g.origins d past)) tt) up
]
