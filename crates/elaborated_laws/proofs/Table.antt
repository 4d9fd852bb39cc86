-- What constants and modes need of names is known of each name of a table.
use Rattle.std.proofs.Common.{◌≡◌, ◌<◌, ℕ, Bool, true, false, List, [], ◌∷◌, ◌++◌, Option, Some, None, length, true≢false, refl, sym, ap, ◌∙◌, ◌⊎◌, inl, inr, subst, Contains}
use Rattle.std.specs.Prelude.{IsSome, IfSome, is_some, not, map, slice_get, option_map, option_and_then}
use Rattle.std.proofs.lemmas.Bool.{cases_lt}
use Rattle.std.proofs.lemmas.Option.{slice_get-map, slice_get_past}
use Rattle.names_laws.proofs.Members.{none_in, here_in, in_cases}
use Rattle.chill_tree.specs.declared.tree.name.Name.{Name}
use Rattle.chill_tree.specs.ExprTree.{ExprTree, place_of}
use Rattle.chill_tree.specs.ModeTree as written
use Rattle.chill_tree.specs.LocalTree.{SynonymTree}
use Rattle.modes.specs.ModeTree.{ModeTree, ClassTree, value, derived, named}
use Rattle.diagnostics.specs.declared.diagnostic.Diagnostic.{Diagnostic}
use Rattle.diagnostics.specs.declared.rule.Rule.TheVariants as rules
use Rattle.checks_model.specs.Told.{tell_at, told_if}
use Rattle.checks_model.specs.ValueTrees.{ValueTree}
use Rattle.checks_model.specs.Ground.{Ground, Origin, Entry, Predefined, of_mode, truth, no_instance, num, succ, pred, abs, card, min, max, upper, lower, size, put_int, put_text, put_nl, get_int, a_synonym, a_mode, an_element, a_location, a_parameter, a_counter, a_received, a_procedure, a_process, a_signal, a_modulion, a_predefined, number_at, origin_of, entry_of, named_mode}
use Rattle.checks_model.specs.Classes.{class_of, class_of_origin}
use Rattle.checks_model.specs.Constants.{has_form, constant_as, constant_of, value_of_name}
use Rattle.checks_model.specs.ConstantRules.{by_itself, told_as, misfits_as, told_of_value, told_of_synonym_value}
use Rattle.checks_model.specs.WrittenModes.{mode_of, some_mode_of, unless_told}
use Rattle.checks_model.specs.Table.{entry_by, set_mode, told_of_synonym, value_within, synonym_entry}
use Rattle.table_laws.specs.Names.{names_in, names_in_mode, names_in_some_mode, names_needed}
use Rattle.table_laws.specs.Frames.{is_read}
use Rattle.table_laws.specs.OneTable.{IsEvaluated, AllDone, NeedsDone, NeedsEarlier, IsOrder}
use Rattle.elaborated_laws.specs.Known.{IsDeclarable, IsKnownName, AreKnown}
use Rattle.elaborated_laws.specs.Table.{IsDefinedSo, AreDefined, KnownTableLaw}
use Rattle.elaborated_laws.proofs.Told.{none_inside, none_then, not_broken, not_true, no_some, same_some, there_mapped, there_chained}
use Rattle.elaborated_laws.proofs.Constants.{known_later, class_there}
use Rattle.elaborated_laws.proofs.Modes.{language_declarable, mode_fits}

-- what is known of something by its entry, its number and what it is defined by
record KnownBy (e : Option Entry) (k : Option ℕ) (o : Option Origin) : Type 0 where
  class : IsSome (value_of_name e o) → IsSome (class_of_origin e o)
  mode : (m : ModeTree) → named_mode e k o ≡ Some m → IsDeclarable m

-- what has no value and isn't the name of a mode
nothing_named : (e : Option Entry) (k : Option ℕ) (o : Option Origin) → value_of_name e o ≡ None → named_mode e k o ≡ None → KnownBy e k o
nothing_named e k o no_value no_mode = record {
  class = λ there. absurd (true≢false (sym there ∙ ap is_some no_value));
  mode = λ m is. no_some m (sym no_mode ∙ is);
}

predefined_known : (g : Ground) (e : Option Entry) (k : Option ℕ) (p : Predefined) → IsDefinedSo g (a_predefined p) → KnownBy e k (Some (a_predefined p))
predefined_known g e None (of_mode m) defined = record { class = λ there. absurd (true≢false (sym there)); mode = λ own is. subst IsDeclarable (same_some m own is) (language_declarable m defined) }
predefined_known g e None (truth b) defined = record { class = λ there. refl; mode = λ m is. no_some m is }
predefined_known g e None no_instance defined = record { class = λ there. refl; mode = λ m is. no_some m is }
predefined_known g e None num defined = nothing_named e None (Some (a_predefined num)) refl refl
predefined_known g e None succ defined = nothing_named e None (Some (a_predefined succ)) refl refl
predefined_known g e None pred defined = nothing_named e None (Some (a_predefined pred)) refl refl
predefined_known g e None abs defined = nothing_named e None (Some (a_predefined abs)) refl refl
predefined_known g e None card defined = nothing_named e None (Some (a_predefined card)) refl refl
predefined_known g e None min defined = nothing_named e None (Some (a_predefined min)) refl refl
predefined_known g e None max defined = nothing_named e None (Some (a_predefined max)) refl refl
predefined_known g e None upper defined = nothing_named e None (Some (a_predefined upper)) refl refl
predefined_known g e None lower defined = nothing_named e None (Some (a_predefined lower)) refl refl
predefined_known g e None size defined = nothing_named e None (Some (a_predefined size)) refl refl
predefined_known g e None put_int defined = nothing_named e None (Some (a_predefined put_int)) refl refl
predefined_known g e None put_text defined = nothing_named e None (Some (a_predefined put_text)) refl refl
predefined_known g e None put_nl defined = nothing_named e None (Some (a_predefined put_nl)) refl refl
predefined_known g e None get_int defined = nothing_named e None (Some (a_predefined get_int)) refl refl
predefined_known g e (Some d) (of_mode m) defined = record { class = λ there. absurd (true≢false (sym there)); mode = λ own is. subst IsDeclarable (same_some m own is) (language_declarable m defined) }
predefined_known g e (Some d) (truth b) defined = record { class = λ there. refl; mode = λ m is. no_some m is }
predefined_known g e (Some d) no_instance defined = record { class = λ there. refl; mode = λ m is. no_some m is }
predefined_known g e (Some d) num defined = nothing_named e (Some d) (Some (a_predefined num)) refl refl
predefined_known g e (Some d) succ defined = nothing_named e (Some d) (Some (a_predefined succ)) refl refl
predefined_known g e (Some d) pred defined = nothing_named e (Some d) (Some (a_predefined pred)) refl refl
predefined_known g e (Some d) abs defined = nothing_named e (Some d) (Some (a_predefined abs)) refl refl
predefined_known g e (Some d) card defined = nothing_named e (Some d) (Some (a_predefined card)) refl refl
predefined_known g e (Some d) min defined = nothing_named e (Some d) (Some (a_predefined min)) refl refl
predefined_known g e (Some d) max defined = nothing_named e (Some d) (Some (a_predefined max)) refl refl
predefined_known g e (Some d) upper defined = nothing_named e (Some d) (Some (a_predefined upper)) refl refl
predefined_known g e (Some d) lower defined = nothing_named e (Some d) (Some (a_predefined lower)) refl refl
predefined_known g e (Some d) size defined = nothing_named e (Some d) (Some (a_predefined size)) refl refl
predefined_known g e (Some d) put_int defined = nothing_named e (Some d) (Some (a_predefined put_int)) refl refl
predefined_known g e (Some d) put_text defined = nothing_named e (Some d) (Some (a_predefined put_text)) refl refl
predefined_known g e (Some d) put_nl defined = nothing_named e (Some d) (Some (a_predefined put_nl)) refl refl
predefined_known g e (Some d) get_int defined = nothing_named e (Some d) (Some (a_predefined get_int)) refl refl

-- ---- what neither constants nor modes look up

unread_known : (g : Ground) (e : Option Entry) (k : Option ℕ) (o : Option Origin) → is_read o ≡ false → ((x : Origin) → o ≡ Some x → IsDefinedSo g x) → KnownBy e k o
unread_known g e None None is defined = nothing_named e None None refl refl
unread_known g e None (Some (a_counter c)) is defined = nothing_named e None (Some (a_counter c)) refl refl
unread_known g e None (Some (a_received n count part)) is defined = nothing_named e None (Some (a_received n count part)) refl refl
unread_known g e None (Some (a_procedure p)) is defined = nothing_named e None (Some (a_procedure p)) refl refl
unread_known g e None (Some (a_process p)) is defined = nothing_named e None (Some (a_process p)) refl refl
unread_known g e None (Some (a_signal s)) is defined = nothing_named e None (Some (a_signal s)) refl refl
unread_known g e None (Some (a_modulion kind items)) is defined = nothing_named e None (Some (a_modulion kind items)) refl refl
unread_known g e None (Some (a_predefined p)) is defined = predefined_known g e None p (defined (a_predefined p) refl)
unread_known g e None (Some (a_synonym s)) is defined = absurd (true≢false is)
unread_known g e None (Some (a_mode novel w)) is defined = absurd (true≢false is)
unread_known g e None (Some (an_element names part owner)) is defined = absurd (true≢false is)
unread_known g e None (Some (a_location l)) is defined = absurd (true≢false is)
unread_known g e None (Some (a_parameter w)) is defined = absurd (true≢false is)
unread_known g e (Some d) None is defined = nothing_named e (Some d) None refl refl
unread_known g e (Some d) (Some (a_counter c)) is defined = nothing_named e (Some d) (Some (a_counter c)) refl refl
unread_known g e (Some d) (Some (a_received n count part)) is defined = nothing_named e (Some d) (Some (a_received n count part)) refl refl
unread_known g e (Some d) (Some (a_procedure p)) is defined = nothing_named e (Some d) (Some (a_procedure p)) refl refl
unread_known g e (Some d) (Some (a_process p)) is defined = nothing_named e (Some d) (Some (a_process p)) refl refl
unread_known g e (Some d) (Some (a_signal s)) is defined = nothing_named e (Some d) (Some (a_signal s)) refl refl
unread_known g e (Some d) (Some (a_modulion kind items)) is defined = nothing_named e (Some d) (Some (a_modulion kind items)) refl refl
unread_known g e (Some d) (Some (a_predefined p)) is defined = predefined_known g e (Some d) p (defined (a_predefined p) refl)
unread_known g e (Some d) (Some (a_synonym s)) is defined = absurd (true≢false is)
unread_known g e (Some d) (Some (a_mode novel w)) is defined = absurd (true≢false is)
unread_known g e (Some d) (Some (an_element names part owner)) is defined = absurd (true≢false is)
unread_known g e (Some d) (Some (a_location l)) is defined = absurd (true≢false is)
unread_known g e (Some d) (Some (a_parameter w)) is defined = absurd (true≢false is)

-- ---- by numbers

abbrev IsKnownNumber : Ground → ℕ → Type 0
IsKnownNumber g d = KnownBy (slice_get g.entries d) (Some d) (slice_get g.origins d)

abbrev AllKnown : Ground → List ℕ → Type 0
AllKnown g done = (d : ℕ) → Contains done d → IsKnownNumber g d

by_number : (g : Ground) (k : Option ℕ) → ((d : ℕ) → k ≡ Some d → IsKnownNumber g d) → KnownBy (option_and_then (slice_get g.entries) k) k (option_and_then (slice_get g.origins) k)
by_number g None known = nothing_named None None None refl refl
by_number g (Some d) known = known d refl

named_so : (g : Ground) (n : Name) → KnownBy (entry_of g n) (number_at g.uses n.at) (origin_of g n) → IsKnownName g n
named_so g n known = record { class = known.class; mode = known.mode }

name_known : (g : Ground) (n : Name) → ((d : ℕ) → number_at g.uses n.at ≡ Some d → IsKnownNumber g d) → IsKnownName g n
name_known g n known = named_so g n (by_number g (number_at g.uses n.at) known)

origin_defined : (g : Ground) (n : Name) → AreDefined g → (x : Origin) → origin_of g n ≡ Some x → IsDefinedSo g x
origin_defined g n defined x is = let there = there_chained (slice_get g.origins) (number_at g.uses n.at) x is in defined there.0 x there.2

-- a name of which what is looked up is done
done_known : (g : Ground) (done : List ℕ) (n : Name) → AreDefined g → AllKnown g done → (is_read (origin_of g n) ≡ true → IfSome (number_at g.uses n.at) (Contains done)) → IsKnownName g n
done_known g done n defined known there = by_read (is_read (origin_of g n)) refl
  where
    by_read : (b : Bool) → is_read (origin_of g n) ≡ b → IsKnownName g n
    by_read true is = name_known g n (λ d at. known d (subst (λ k. IfSome k (Contains done)) at (there is)))
    by_read false is = named_so g n (unread_known g (entry_of g n) (number_at g.uses n.at) (origin_of g n) is (origin_defined g n defined))

names_known : (g : Ground) (done : List ℕ) (ns : List Name) → AreDefined g → AllKnown g done → AllDone g done ns → AreKnown g ns
names_known g done [] defined known all = tt
names_known g done (n ∷ ns) defined known all = (done_known g done n defined known all.0, names_known g done ns defined known all.1)

-- ---- synonyms

told_nothing : {A : Type 0} (told : List Diagnostic) (x : Option A) → IsSome (unless_told told x) → told ≡ []
told_nothing [] x there = refl
told_nothing (d ∷ ds) x there = absurd (true≢false (sym there))

there_anyway : {A : Type 0} (told : List Diagnostic) (x : Option A) → IsSome (unless_told told x) → IsSome x
there_anyway [] x there = there
there_anyway (d ∷ ds) x there = absurd (true≢false (sym there))

within_there : {A : Type 0} (f : ModeTree → Option A) (m : Option ModeTree) → IsSome (option_and_then f m) → IsSome (option_map value m)
within_there f (Some m) there = refl
within_there f None there = absurd (true≢false (sym there))

-- the class of a synonym without a mode
alone_known : (g : Ground) (s : SynonymTree) → AreKnown g (names_in s.value) → s.mode ≡ None → IsSome (unless_told (told_of_synonym g s) (constant_of g s.value)) → IsSome (unless_told (told_of_synonym g s) (class_of g s.value))
alone_known g s names is there =
    let e = s.value in
    let none = told_nothing (told_of_synonym g s) (constant_of g e) there in
    let alone : told_of_synonym_value g false None e ≡ [] = ap (λ w. told_of_synonym_value g (is_some w) (some_mode_of g w) e) (sym is) ∙ none in
    let clean = none_inside (told_of_value g false None e) (told_if (misfits_as g None e) (tell_at rules.M12 (place_of e))) alone in
    let no_form = told_if (not (has_form g false e)) (tell_at rules.M1 (place_of e)) in
    let form = not_true (has_form g false e) (not_broken (not (has_form g false e)) (tell_at rules.M1 (place_of e)) (none_then (told_as g by_itself None e) no_form clean)) in
    subst (λ told. IsSome (unless_told told (class_of g e))) (sym none)
    (class_there g by_itself false None e names (none_inside (told_as g by_itself None e) no_form clean) form (there_anyway (told_of_synonym g s) (constant_of g e) there))

synonym_known : (g : Ground) (s : SynonymTree) (w : Option written.ModeTree) → AreKnown g (names_in s.value) → s.mode ≡ w → IsSome (synonym_entry g s w).value → IsSome (synonym_entry g s w).class
synonym_known g s None names is there = alone_known g s names is there
synonym_known g s (Some w) names is there = within_there (λ m. constant_as g (Some m) s.value) (mode_of g false w) (there_anyway (told_of_synonym g s) (value_within g (mode_of g false w) s.value) there)

mapped_there : {A B : Type 0} (f : A → B) (x : Option A) → IsSome x → IsSome (option_map f x)
mapped_there f (Some x) there = refl
mapped_there f None there = absurd (true≢false (sym there))

-- ---- by what defines it

mode_known : (g : Ground) (d : ℕ) (novel : Bool) (w : written.ModeTree) (m : ModeTree) → AreKnown g (names_in_mode w) → IsDefinedSo g (a_mode novel w) → option_map (named d novel) (mode_of g true w) ≡ Some m → IsDeclarable m
mode_known g d novel w m names defined is =
    let there = there_mapped (named d novel) (mode_of g true w) m is in
    subst IsDeclarable there.2 (mode_fits g true w there.0 names defined there.1)

by_origin : (g : Ground) (done : List ℕ) (d : ℕ) (o : Option Origin) → AreDefined g → AllKnown g done → ((x : Origin) → o ≡ Some x → IsDefinedSo g x) → NeedsDone g done o → KnownBy (option_map (entry_by g) o) (Some d) o
by_origin g done d None defined known so needs = nothing_named None (Some d) None refl refl
by_origin g done d (Some (a_synonym s)) defined known so needs = record {
  class = synonym_known g s s.mode (known_later g (names_in_some_mode s.mode) (names_in s.value) (names_known g done (names_needed (a_synonym s)) defined known needs)) refl;
  mode = λ m is. no_some m is;
}
by_origin g done d (Some (a_mode novel w)) defined known so needs = record {
  class = λ there. absurd (true≢false (sym there));
  mode = λ m is. mode_known g d novel w m (names_known g done (names_in_mode w) defined known needs) (so (a_mode novel w) refl) is;
}
by_origin g done d (Some (an_element names part owner)) defined known so needs = record {
  class = λ there. mapped_there derived (set_mode g names owner) (so (an_element names part owner) refl);
  mode = λ m is. no_some m is;
}
by_origin g done d (Some (a_predefined p)) defined known so needs = predefined_known g (Some (entry_by g (a_predefined p))) (Some d) p (so (a_predefined p) refl)
by_origin g done d (Some (a_location l)) defined known so needs = nothing_named (Some (entry_by g (a_location l))) (Some d) (Some (a_location l)) refl refl
by_origin g done d (Some (a_parameter w)) defined known so needs = nothing_named (Some (entry_by g (a_parameter w))) (Some d) (Some (a_parameter w)) refl refl
by_origin g done d (Some (a_counter c)) defined known so needs = nothing_named (Some (entry_by g (a_counter c))) (Some d) (Some (a_counter c)) refl refl
by_origin g done d (Some (a_received n count part)) defined known so needs = nothing_named (Some (entry_by g (a_received n count part))) (Some d) (Some (a_received n count part)) refl refl
by_origin g done d (Some (a_procedure p)) defined known so needs = nothing_named (Some (entry_by g (a_procedure p))) (Some d) (Some (a_procedure p)) refl refl
by_origin g done d (Some (a_process p)) defined known so needs = nothing_named (Some (entry_by g (a_process p))) (Some d) (Some (a_process p)) refl refl
by_origin g done d (Some (a_signal s)) defined known so needs = nothing_named (Some (entry_by g (a_signal s))) (Some d) (Some (a_signal s)) refl refl
by_origin g done d (Some (a_modulion kind items)) defined known so needs = nothing_named (Some (entry_by g (a_modulion kind items))) (Some d) (Some (a_modulion kind items)) refl refl

number_known : (g : Ground) (done : List ℕ) (d : ℕ) → IsEvaluated g → AreDefined g → AllKnown g done → NeedsDone g done (slice_get g.origins d) → IsKnownNumber g d
number_known g done d evaluated defined known needs =
    let at : slice_get g.entries d ≡ option_map (entry_by g) (slice_get g.origins d) = ap (λ es. slice_get es d) evaluated ∙ slice_get-map (entry_by g) g.origins d in
    subst (λ e. KnownBy e (Some d) (slice_get g.origins d)) (sym at) (by_origin g done d (slice_get g.origins d) defined known (defined d) needs)

one_more : (g : Ground) (done : List ℕ) (d : ℕ) → IsKnownNumber g d → AllKnown g done → AllKnown g (d ∷ done)
one_more g done d at_d known e among = elim (in_cases d done e among) [
  | inl is ↦ subst (IsKnownNumber g) is at_d
  | inr there ↦ known e there
]

all_known : (g : Ground) (done order : List ℕ) → IsEvaluated g → AreDefined g → AllKnown g done → NeedsEarlier g done order → (d : ℕ) → Contains order d → IsKnownNumber g d
all_known g done [] evaluated defined known earlier d c = absurd (none_in d c)
all_known g done (e ∷ order) evaluated defined known earlier d c =
    let at_e = number_known g done e evaluated defined known earlier.0 in
    elim (in_cases e order d c) [
      | inl is ↦ subst (IsKnownNumber g) is at_e
      | inr there ↦ all_known g (e ∷ done) order evaluated defined (one_more g done e at_e known) earlier.1 d there
    ]

-- ---- the law

pub table_known : KnownTableLaw
table_known g order evaluated is_order defined n = name_known g n (λ d at. any_number d)
  where
    none_done : AllKnown g []
    none_done d c = absurd (none_in d c)

    any_number : (d : ℕ) → IsKnownNumber g d
    any_number d = elim (cases_lt d (length g.origins)) [
      | inl less ↦ all_known g [] order evaluated defined none_done is_order.earlier d (is_order.all d less)
      | inr past ↦ number_known g [] d evaluated defined none_done (subst (NeedsDone g []) (sym (slice_get_past g.origins d past)) tt)
    ]
