-- There is one table, and filling it in an order gives it.
use Rattle.std.proofs.Common.{◌≡◌, ◌<◌, ℕ, zero, suc, List, [], ◌∷◌, Option, Some, None, length, refl, sym, ap, ◌∙◌, ◌⊎◌, inl, inr, subst, arith, set, Contains, length-set}
use Rattle.std.specs.Prelude.{map, IfSome, slice_get, option_map, option_and_then}
use Rattle.std.proofs.lemmas.Option.{slice_get-map, same_Some}
use Rattle.std.proofs.lemmas.List.{length-map}
use Rattle.names_laws.proofs.Members.{none_in, here_in, later_in, in_cases}
use Rattle.chill_tree.specs.declared.tree.name.Name.{Name}
use Rattle.checks_model.specs.Ground.{Ground, Origin, Entry, a_synonym, a_mode, an_element, a_location, a_parameter, a_counter, a_received, a_procedure, a_process, a_signal, a_modulion, a_predefined, origin_of, entry_of, number_at}
use Rattle.checks_model.specs.Table.{entry_by}
use Rattle.table_laws.specs.Names.{names_needed}
use Rattle.table_laws.specs.Frames.{SameKnownEach, SameNeeded}
use Rattle.table_laws.specs.OneTable.{IsEvaluated, SameText, AllDone, NeedsDone, NeedsEarlier, with_entries, entry_at, filled, EachOnce, OneTableLaw, FilledLaw}
use Rattle.table_laws.proofs.KnownFrames.{of_two}
use Rattle.table_laws.proofs.EntryFrames.{entry_frame}

-- ---- lists by their elements

same_lists : {A : Type 0} (xs ys : List A) → length xs ≡ length ys → ((k : ℕ) → k < length xs → slice_get xs k ≡ slice_get ys k) → xs ≡ ys
same_lists [] [] long same = refl
same_lists [] (y ∷ ys) long same = absurd (omega (arith, long))
same_lists (x ∷ xs) [] long same = absurd (omega (arith, long))
same_lists (x ∷ xs) (y ∷ ys) long same = of_two (λ a b. a ∷ b) (same_Some x y (same 0 (omega arith))) (same_lists xs ys (omega (arith, long)) (λ k less. same (suc k) (omega (arith, less))))

-- ---- the same where the entries of what is done are

abbrev SameDone : Ground → Ground → List ℕ → Type 0
SameDone g h done = (d : ℕ) → Contains done d → slice_get g.entries d ≡ slice_get h.entries d

number_same : (g h : Ground) (n : Name) → SameText g h → number_at g.uses n.at ≡ number_at h.uses n.at
number_same g h n text = ap (λ us. number_at us n.at) text.uses

origin_same : (g h : Ground) (n : Name) → SameText g h → origin_of g n ≡ origin_of h n
origin_same g h n text = of_two (λ os d. option_and_then (slice_get os) d) text.origins (number_same g h n text)

entry_same : (g h : Ground) (done : List ℕ) (n : Name) → SameText g h → SameDone g h done → IfSome (number_at g.uses n.at) (Contains done) → entry_of g n ≡ entry_of h n
entry_same g h done n text same there = by_number (number_at g.uses n.at) there ∙ ap (option_and_then (slice_get h.entries)) (number_same g h n text)
  where
    by_number : (d : Option ℕ) → IfSome d (Contains done) → option_and_then (slice_get g.entries) d ≡ option_and_then (slice_get h.entries) d
    by_number None there = refl
    by_number (Some d) there = same d there

names_known : (g h : Ground) (done : List ℕ) (ns : List Name) → SameText g h → SameDone g h done → AllDone g done ns → SameKnownEach g h ns
names_known g h done [] text same all = tt
names_known g h done (n ∷ ns) text same all =
    (record { number = number_same g h n text; origin = origin_same g h n text; entry = λ is. entry_same g h done n text same (all.0 is) }, names_known g h done ns text same all.1)

needed_same : (g h : Ground) (done : List ℕ) (o : Origin) → SameText g h → SameDone g h done → NeedsDone g done (Some o) → SameNeeded g h o
needed_same g h done (a_received n count part) text same there = record { number = number_same g h n text; origin = origin_same g h n text; entry = entry_same g h done n text same there }
needed_same g h done (a_synonym s) text same all = names_known g h done (names_needed (a_synonym s)) text same all
needed_same g h done (a_mode novel m) text same all = names_known g h done (names_needed (a_mode novel m)) text same all
needed_same g h done (an_element names part owner) text same all = names_known g h done (names_needed (an_element names part owner)) text same all
needed_same g h done (a_location d) text same all = names_known g h done (names_needed (a_location d)) text same all
needed_same g h done (a_parameter m) text same all = names_known g h done (names_needed (a_parameter m)) text same all
needed_same g h done (a_counter c) text same all = names_known g h done (names_needed (a_counter c)) text same all
needed_same g h done (a_procedure p) text same all = names_known g h done (names_needed (a_procedure p)) text same all
needed_same g h done (a_process p) text same all = names_known g h done (names_needed (a_process p)) text same all
needed_same g h done (a_signal s) text same all = names_known g h done (names_needed (a_signal s)) text same all
needed_same g h done (a_modulion kind items) text same all = names_known g h done (names_needed (a_modulion kind items)) text same all
needed_same g h done (a_predefined p) text same all = names_known g h done (names_needed (a_predefined p)) text same all

by_origin : (g h : Ground) (done : List ℕ) (o : Option Origin) → SameText g h → SameDone g h done → NeedsDone g done o → option_map (entry_by g) o ≡ option_map (entry_by h) o
by_origin g h done None text same all = refl
by_origin g h done (Some o) text same all = ap Some (entry_frame g h o text.defined (needed_same g h done o text same all))

-- ---- one table

evaluated_at : (g : Ground) (d : ℕ) → IsEvaluated g → slice_get g.entries d ≡ option_map (entry_by g) (slice_get g.origins d)
evaluated_at g d evaluated = ap (λ es. slice_get es d) evaluated ∙ slice_get-map (entry_by g) g.origins d

one_more : (g h : Ground) (done : List ℕ) (d : ℕ) → SameText g h → IsEvaluated g → IsEvaluated h → SameDone g h done → NeedsDone g done (slice_get g.origins d) → SameDone g h (d ∷ done)
one_more g h done d text at_g at_h same all e among = elim (in_cases d done e among) [
  | inl is ↦ subst (λ x. slice_get g.entries x ≡ slice_get h.entries x) is at_d
  | inr there ↦ same e there
]
  where
    at_d : slice_get g.entries d ≡ slice_get h.entries d
    at_d = evaluated_at g d at_g ∙ by_origin g h done (slice_get g.origins d) text same all ∙ ap (λ os. option_map (entry_by h) (slice_get os d)) text.origins ∙ sym (evaluated_at h d at_h)

all_same : (g h : Ground) (done order : List ℕ) → SameText g h → IsEvaluated g → IsEvaluated h → SameDone g h done → NeedsEarlier g done order → (d : ℕ) → Contains order d → slice_get g.entries d ≡ slice_get h.entries d
all_same g h done [] text at_g at_h same earlier d c = absurd (none_in d c)
all_same g h done (e ∷ order) text at_g at_h same earlier d c = elim (in_cases e order d c) [
  | inl is ↦ one_more g h done e text at_g at_h same earlier.0 d (here_in e done d is)
  | inr there ↦ all_same g h (e ∷ done) order text at_g at_h (one_more g h done e text at_g at_h same earlier.0) earlier.1 d there
]

long_as_origins : (g : Ground) → IsEvaluated g → length g.entries ≡ length g.origins
long_as_origins g evaluated = ap length evaluated ∙ length-map g.origins (entry_by g)

pub one_table : OneTableLaw
one_table g h order text order_of at_g at_h =
    same_lists g.entries h.entries (long_as_origins g at_g ∙ ap length text.origins ∙ sym (long_as_origins h at_h))
    (λ k less. all_same g h [] order text at_g at_h (λ d c. absurd (none_in d c)) order_of.earlier k (order_of.all k (let long = long_as_origins g at_g in omega (arith, less, long))))

-- ---- filling a table

set_here : {A B : Type 0} (xs : List A) (ys : List B) (d : ℕ) (x : A) → length xs ≡ length ys → slice_get (set xs d x) d ≡ option_map (λ y. x) (slice_get ys d)
set_here [] [] d x long = refl
set_here [] (y ∷ ys) d x long = absurd (omega (arith, long))
set_here (z ∷ xs) [] d x long = absurd (omega (arith, long))
set_here (z ∷ xs) (y ∷ ys) zero x long = refl
set_here (z ∷ xs) (y ∷ ys) (suc d) x long = set_here xs ys d x (omega (arith, long))

set_elsewhere : {A : Type 0} (xs : List A) (d e : ℕ) (x : A) → ¬ (d ≡ e) → slice_get xs e ≡ slice_get (set xs d x) e
set_elsewhere [] d e x apart = refl
set_elsewhere (y ∷ ys) zero zero x apart = absurd (apart refl)
set_elsewhere (y ∷ ys) zero (suc e) x apart = refl
set_elsewhere (y ∷ ys) (suc d) zero x apart = refl
set_elsewhere (y ∷ ys) (suc d) (suc e) x apart = set_elsewhere ys d e x (λ same. apart (ap suc same))

-- what is known of a definition that is done is so by the table, and it needs only what is done
record IsFilled (g : Ground) (es : List Entry) (done : List ℕ) (d : ℕ) : Type 0 where
  entry : slice_get es d ≡ option_map (entry_by (with_entries g es)) (slice_get g.origins d)
  needs : NeedsDone g done (slice_get g.origins d)

abbrev AllFilled : Ground → List Entry → List ℕ → Type 0
AllFilled g es done = (d : ℕ) → Contains done d → IsFilled g es done d

if_some_later : (done : List ℕ) (d : ℕ) (k : Option ℕ) → IfSome k (Contains done) → IfSome k (Contains (d ∷ done))
if_some_later done d None there = there
if_some_later done d (Some k) there = later_in d done k there

all_done_later : (g : Ground) (done : List ℕ) (d : ℕ) (ns : List Name) → AllDone g done ns → AllDone g (d ∷ done) ns
all_done_later g done d [] all = tt
all_done_later g done d (n ∷ ns) all = ((λ is. if_some_later done d (number_at g.uses n.at) (all.0 is)), all_done_later g done d ns all.1)

needs_later : (g : Ground) (done : List ℕ) (d : ℕ) (o : Option Origin) → NeedsDone g done o → NeedsDone g (d ∷ done) o
needs_later g done d None all = tt
needs_later g done d (Some (a_received n count part)) there = if_some_later done d (number_at g.uses n.at) there
needs_later g done d (Some (a_synonym s)) all = all_done_later g done d (names_needed (a_synonym s)) all
needs_later g done d (Some (a_mode novel m)) all = all_done_later g done d (names_needed (a_mode novel m)) all
needs_later g done d (Some (an_element names part owner)) all = all_done_later g done d (names_needed (an_element names part owner)) all
needs_later g done d (Some (a_location l)) all = all_done_later g done d (names_needed (a_location l)) all
needs_later g done d (Some (a_parameter m)) all = all_done_later g done d (names_needed (a_parameter m)) all
needs_later g done d (Some (a_counter c)) all = all_done_later g done d (names_needed (a_counter c)) all
needs_later g done d (Some (a_procedure p)) all = all_done_later g done d (names_needed (a_procedure p)) all
needs_later g done d (Some (a_process p)) all = all_done_later g done d (names_needed (a_process p)) all
needs_later g done d (Some (a_signal s)) all = all_done_later g done d (names_needed (a_signal s)) all
needs_later g done d (Some (a_modulion kind items)) all = all_done_later g done d (names_needed (a_modulion kind items)) all
needs_later g done d (Some (a_predefined p)) all = all_done_later g done d (names_needed (a_predefined p)) all

-- the same text whatever the table
same_text : (g : Ground) (es ks : List Entry) → SameText (with_entries g es) (with_entries g ks)
same_text g es ks = record { uses = refl; defined = refl; origins = refl }

set_done : (g : Ground) (es : List Entry) (done : List ℕ) (d : ℕ) (x : Entry) → ¬ Contains done d → SameDone (with_entries g es) (with_entries g (set es d x)) done
set_done g es done d x new e among = set_elsewhere es d e x (λ same. new (subst (Contains done) (sym same) among))

filled_at : (g : Ground) (es : List Entry) (o : Option Origin) → option_map (λ y. entry_at (with_entries g es) o) o ≡ option_map (entry_by (with_entries g es)) o
filled_at g es None = refl
filled_at g es (Some o) = refl

-- the table in which the entry of one more is set
abbrev with_one : Ground → List Entry → ℕ → List Entry
with_one g es d = set es d (entry_at (with_entries g es) (slice_get g.origins d))

one_filled : (g : Ground) (es : List Entry) (done : List ℕ) (d : ℕ) → length es ≡ length g.origins → ¬ Contains done d → NeedsDone g done (slice_get g.origins d)
    → AllFilled g es done → AllFilled g (with_one g es d) (d ∷ done)
one_filled g es done d long new needs kept e among = elim (in_cases d done e among) [
  | inl is ↦ subst (IsFilled g (with_one g es d) (d ∷ done)) is at_d
  | inr there ↦ at_other there
]
  where
    same : SameDone (with_entries g es) (with_entries g (with_one g es d)) done
    same = set_done g es done d (entry_at (with_entries g es) (slice_get g.origins d)) new

    moved : (o : Option Origin) → NeedsDone g done o → option_map (entry_by (with_entries g es)) o ≡ option_map (entry_by (with_entries g (with_one g es d))) o
    moved o all = by_origin (with_entries g es) (with_entries g (with_one g es d)) done o (same_text g es (with_one g es d)) same all

    at_d : IsFilled g (with_one g es d) (d ∷ done) d
    at_d = record {
      entry = set_here es g.origins d (entry_at (with_entries g es) (slice_get g.origins d)) long ∙ filled_at g es (slice_get g.origins d) ∙ moved (slice_get g.origins d) needs;
      needs = needs_later g done d (slice_get g.origins d) needs;
    }

    at_other : Contains done e → IsFilled g (with_one g es d) (d ∷ done) e
    at_other there = record {
      entry = sym (same e there) ∙ (kept e there).entry ∙ moved (slice_get g.origins e) (kept e there).needs;
      needs = needs_later g done d (slice_get g.origins e) (kept e there).needs;
    }

-- what a table is when the rest has been filled
record IsWhole (g : Ground) (es : List Entry) (done order : List ℕ) : Type 0 where
  long : length es ≡ length g.origins
  at_each : (d : ℕ) → Contains done d ⊎ Contains order d → slice_get es d ≡ option_map (entry_by (with_entries g es)) (slice_get g.origins d)

whole_behind : (g : Ground) (es : List Entry) (done : List ℕ) (d : ℕ) (order : List ℕ) → IsWhole g es (d ∷ done) order → IsWhole g es done (d ∷ order)
whole_behind g es done d order rest = record { long = rest.long; at_each = by_part }
  where
    by_part : (e : ℕ) → Contains done e ⊎ Contains (d ∷ order) e → slice_get es e ≡ option_map (entry_by (with_entries g es)) (slice_get g.origins e)
    by_part e (inl there) = rest.at_each e (inl (later_in d done e there))
    by_part e (inr there) = elim (in_cases d order e there) [
      | inl is ↦ rest.at_each e (inl (here_in d done e is))
      | inr later ↦ rest.at_each e (inr later)
    ]

all_filled : (g : Ground) (es : List Entry) (done order : List ℕ) → length es ≡ length g.origins → NeedsEarlier g done order → EachOnce done order → AllFilled g es done → IsWhole g (filled g es order) done order
all_filled g es done [] long earlier once kept = record { long = long; at_each = by_part }
  where
    by_part : (d : ℕ) → Contains done d ⊎ Contains [] d → slice_get es d ≡ option_map (entry_by (with_entries g es)) (slice_get g.origins d)
    by_part d (inl there) = (kept d there).entry
    by_part d (inr there) = absurd (none_in d there)
all_filled g es done (d ∷ order) long earlier once kept =
    whole_behind g (filled g (with_one g es d) order) done d order
    (all_filled g (with_one g es d) (d ∷ done) order (length-set es d (entry_at (with_entries g es) (slice_get g.origins d)) ∙ long) earlier.1 once.1 (one_filled g es done d long once.0 earlier.0 kept))

pub filling : FilledLaw
filling g es order long order_of once =
    let whole = all_filled g es [] order long order_of.earlier once (λ d c. absurd (none_in d c)) in
    same_lists (filled g es order) (map (entry_by (with_entries g (filled g es order))) g.origins) (whole.long ∙ sym (length-map g.origins (entry_by (with_entries g (filled g es order)))))
    (λ k less. whole.at_each k (inr (order_of.all k (let long = whole.long in omega (arith, less, long)))) ∙ sym (slice_get-map (entry_by (with_entries g (filled g es order))) g.origins k))
