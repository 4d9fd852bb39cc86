-- Where of what is done the same is known in two grounds, so is of what a definition needs.
use Rattle.std.proofs.Common.{◌≡◌, ℕ, true, List, [], ◌∷◌, Option, Some, None, refl, sym, ap, ◌∙◌, Contains}
use Rattle.std.specs.Prelude.{IfSome, slice_get, option_and_then}
use Rattle.chill_tree.specs.declared.tree.name.Name.{Name}
use Rattle.checks_model.specs.Ground.{Ground, Origin, a_synonym, a_mode, an_element, a_location, a_parameter, a_counter, a_received, a_procedure, a_process, a_signal, a_modulion, a_predefined, origin_of, entry_of, number_at}
use Rattle.table_laws.specs.Names.{names_needed}
use Rattle.table_laws.specs.Frames.{is_read, SameKnownEach, SameNeeded}
use Rattle.table_laws.specs.OneTable.{SameText, AllDone, NeedsDone}

abbrev pub SameDone : Ground → Ground → List ℕ → Type 0
SameDone g h done = (d : ℕ) → Contains done d → slice_get g.entries d ≡ slice_get h.entries d

number_same : (g h : Ground) (n : Name) → SameText g h → number_at g.uses n.at ≡ number_at h.uses n.at
number_same g h n text = ap (λ us. number_at us n.at) text.uses

origin_same : (g h : Ground) (n : Name) → SameText g h → origin_of g n ≡ origin_of h n
origin_same g h n text = ap (λ os. option_and_then (slice_get os) (number_at g.uses n.at)) text.origins ∙ ap (λ d. option_and_then (slice_get h.origins) d) (number_same g h n text)

entry_same : (g h : Ground) (done : List ℕ) (n : Name) → SameText g h → SameDone g h done → IfSome (number_at h.uses n.at) (Contains done) → entry_of g n ≡ entry_of h n
entry_same g h done n text same there = ap (λ d. option_and_then (slice_get g.entries) d) (number_same g h n text) ∙ by_number (number_at h.uses n.at) there
  where
    by_number : (d : Option ℕ) → IfSome d (Contains done) → option_and_then (slice_get g.entries) d ≡ option_and_then (slice_get h.entries) d
    by_number None there = refl
    by_number (Some d) there = same d there

known_each : (g h : Ground) (done : List ℕ) (ns : List Name) → SameText g h → SameDone g h done → AllDone h done ns → SameKnownEach g h ns
known_each g h done [] text same all = tt
known_each g h done (n ∷ ns) text same all =
    (record { number = number_same g h n text; origin = origin_same g h n text; entry = λ is. entry_same g h done n text same (all.0 (sym (origin_is g h n text) ∙ is)) }, known_each g h done ns text same all.1)
  where
    origin_is : (g h : Ground) (n : Name) → SameText g h → is_read (origin_of g n) ≡ is_read (origin_of h n)
    origin_is g h n text = ap is_read (origin_same g h n text)

pub needed_known : (g h : Ground) (done : List ℕ) (o : Origin) → SameText g h → SameDone g h done → NeedsDone h done (Some o) → SameNeeded g h o
needed_known g h done (a_received n count part) text same there = record { number = number_same g h n text; origin = origin_same g h n text; entry = entry_same g h done n text same there }
needed_known g h done (a_synonym s) text same all = known_each g h done (names_needed (a_synonym s)) text same all
needed_known g h done (a_mode novel m) text same all = known_each g h done (names_needed (a_mode novel m)) text same all
needed_known g h done (an_element names part owner) text same all = known_each g h done (names_needed (an_element names part owner)) text same all
needed_known g h done (a_location d) text same all = known_each g h done (names_needed (a_location d)) text same all
needed_known g h done (a_parameter m) text same all = known_each g h done (names_needed (a_parameter m)) text same all
needed_known g h done (a_counter c) text same all = known_each g h done (names_needed (a_counter c)) text same all
needed_known g h done (a_procedure p) text same all = known_each g h done (names_needed (a_procedure p)) text same all
needed_known g h done (a_process p) text same all = known_each g h done (names_needed (a_process p)) text same all
needed_known g h done (a_signal s) text same all = known_each g h done (names_needed (a_signal s)) text same all
needed_known g h done (a_modulion kind items) text same all = known_each g h done (names_needed (a_modulion kind items)) text same all
needed_known g h done (a_predefined p) text same all = known_each g h done (names_needed (a_predefined p)) text same all
