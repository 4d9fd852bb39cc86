-- All is known of the names of a text that constants need: along an order of its definitions the values of constants fit, and no place in a
-- mode is impossible.
use Rattle.std.proofs.Common.{◌≡◌, ◌<◌, ◌≤◌, ℕ, zero, suc, Bool, true, false, List, [], ◌∷◌, ◌++◌, Option, Some, None, ℤ, pos, length, inl, inr, refl, sym, ap, ◌∙◌, subst, arith, true≢false, Contains}
use Rattle.std.proofs.lemmas.Bool.{cases_lt}
use Rattle.std.proofs.lemmas.Int.{ints}
use Rattle.std.proofs.lemmas.Option.{slice_get-map, slice_get_past}
use Rattle.std.specs.Prelude.{IsSome, IfSome, is_some, not, slice_get, option_map, option_and_then, ◌-ℤ◌}
use Rattle.names_laws.proofs.Members.{none_in, in_cases}
use Rattle.chill_tree.specs.declared.tree.name.Name.{Name}
use Rattle.chill_tree.specs.ExprTree.{ExprTree, place_of}
use Rattle.chill_tree.specs.ModeTree as written
use Rattle.chill_tree.specs.LocalTree.{SynonymTree}
use Rattle.chill_tree.specs.ItemTree.{ProgramTree}
use Rattle.diagnostics.specs.declared.rule.Rule.TheVariants as rules
use Rattle.modes.specs.ModeTree as modes
use Rattle.modes.specs.ModeTree.{ModeTree, ClassTree, value, derived, null, nothing, set_of}
use Rattle.modes.specs.declared.mode.Bounds.{Bounds}
use Rattle.names_model.specs.Definitions.{text_definitions, with_predefined}
use Rattle.names_model.specs.declared.definition.Definition.{Definition}
use Rattle.names_model.specs.Identifiers.{identifier}
use Rattle.names_model.specs.Resolving.{level_of}
use Rattle.checks_model.specs.Told.{tell_at, told_if}
use Rattle.checks_model.specs.ValueTrees.{ValueTree, number}
use Rattle.checks_model.specs.Ground.{Ground, Origin, Entry, Predefined, of_mode, truth, no_instance, a_synonym, a_mode, an_element, a_location, a_parameter, a_counter, a_received, a_procedure, a_process, a_signal, a_modulion, a_predefined, number_at, origin_of, entry_of, mode_of_entry, named_mode, mode_of_name}
use Rattle.checks_model.specs.OperatorValues.{truth_value}
use Rattle.checks_model.specs.Origins.{text_origins, in_both_cases, predefined_origins, origins_of}
use Rattle.checks_model.specs.Classes.{class_as, class_of, class_of_origin, Measured, a_mode_of, located_name}
use Rattle.checks_model.specs.Constants.{has_form, constant_as, constant_of, value_of_name}
use Rattle.checks_model.specs.ConstantRules.{by_itself, in_a_synonym, told_as, misfits_as, told_of_value, told_of_synonym_value}
use Rattle.checks_model.specs.WrittenModes.{mode_of, some_mode_of}
use Rattle.checks_model.specs.Table.{entry_by, set_mode, named_set, told_of_synonym, value_within, synonym_entry, ground_with, IsStatementGroundOf}
use Rattle.checks_model.specs.Diagnoses.{HasModes}
use Rattle.ground_laws.specs.Defining.{Defines, AllDefine}
use Rattle.ground_laws.proofs.Defining.{origins_define}
use Rattle.table_laws.specs.Names.{names_in, names_in_mode, names_in_some_mode, names_needed}
use Rattle.table_laws.specs.Frames.{is_read}
use Rattle.table_laws.specs.OneTable.{SameText, IsEvaluated, IsOrder, AllDone, NeedsDone, NeedsEarlier}
use Rattle.elaborated_laws.specs.Known.{IsDeclarable, IsKnownName}
use Rattle.elaborated_laws.specs.Classes as classes
use Rattle.elaborated_laws.specs.Classes.{HasShortTexts}
use Rattle.elaborated_laws.specs.Modes.{IsWritten}
use Rattle.elaborated_laws.specs.Entries.{IsSomeWritten, IsWrittenSo}
use Rattle.elaborated_laws.proofs.Told.{none_inside, none_then, not_broken, not_true, no_some, same_some, there_mapped, there_chained, unless_none, unless_there}
use Rattle.elaborated_laws.proofs.Constants.{class_there}
use Rattle.elaborated_laws.proofs.Modes.{language_declarable, mode_fits}
use Rattle.elaborated_laws.proofs.Table.{table_known}
use Rattle.elaborated_laws.proofs.Entries.{table_modes}
use Rattle.written_laws.specs.Written.{Each}
use Rattle.written_laws.proofs.Defining.{IsOwned, program_defining}
use Rattle.written_laws.proofs.Sets.{each_more}
use Rattle.written_laws.proofs.Shown.{each_append, each_flat}
use Rattle.written_laws.proofs.WrittenSo.{each_predefined, all_written, all_defined}
use Rattle.order_laws.specs.Texts.{is_counter}
use Rattle.order_laws.proofs.Selves.{text_order}
use Rattle.order_laws.proofs.TextCounters.{grounds_alike, but_counters}
use Rattle.there_laws.specs.Constants.{IsReceived}
use Rattle.there_laws.proofs.Constants.{AllKnown, each_known}
use Rattle.there_laws.proofs.CounterModes.{names_modes}
use Rattle.there_laws.proofs.Modes.{value_in}
use Rattle.there_laws.proofs.Names.{names_known}
use Rattle.constant_laws.specs.Places.{are_possible}
use Rattle.constant_laws.specs.Values.{IsBetween, IsOfMode, IsOfShape, FitsClass}
use Rattle.constant_laws.specs.Constants.{HasBytes, FitsBy, IsNameFit, AreNamesFit}
use Rattle.constant_laws.specs.Text.{SynonymsHaveBytes, NamesFitLaw}
use Rattle.constant_laws.proofs.Operators.{truth_fits}
use Rattle.constant_laws.proofs.Constants.{constant_fits, received_fits}
use Rattle.constant_laws.proofs.Possible.{ArePossible, IsOwnPossible, mode_possible}

-- what is known of something by its entry, its number and what it is defined by
record IsFitBy (e : Option Entry) (k : Option ℕ) (o : Option Origin) : Type 0 where
  value : FitsBy e o
  located : (m : ModeTree) → located_name e o ≡ a_mode_of (Some m) → are_possible m ≡ true
  own : (m : ModeTree) → named_mode e k o ≡ Some m → are_possible m ≡ true

abbrev measured_of : Measured → Option ModeTree
measured_of (a_mode_of m) = m
measured_of x = None

-- ---- what isn't looked up

truth_name : (b : Bool) (c : ClassTree) (v : ValueTree) → Some (derived modes.boolean) ≡ Some c → Some (truth_value b) ≡ Some v → FitsClass c v
truth_name b c v class made = let same = same_some (derived modes.boolean) c class in subst (λ k. FitsClass k v) same (truth_fits (derived modes.boolean) v refl refl (b, sym (same_some (truth_value b) v made)))

no_instance_name : (c : ClassTree) (v : ValueTree) → Some null ≡ Some c → Some (number (pos 0)) ≡ Some v → FitsClass c v
no_instance_name c v class made = subst (λ k. FitsClass k v) (same_some null c class) (subst (λ y. FitsClass null y) (same_some (number (pos 0)) v made) (grind (arith, ints), grind (arith, ints)))

-- predefined modes are plain
abbrev IsPlain : Option Origin → Type 0
IsPlain (Some (a_predefined (of_mode m))) = are_possible m ≡ true
IsPlain o = Unit {0}

unread_fit : (e : Option Entry) (k : Option ℕ) (o : Option Origin) → is_read o ≡ false → IsPlain o → IsFitBy e k o
unread_fit e None (Some (a_predefined (of_mode m))) is plain = record { value = λ c v class made. no_some v made; located = λ x at. no_some x (ap measured_of at); own = λ x at. ap are_possible (sym (same_some m x at)) ∙ plain }
unread_fit e (Some d) (Some (a_predefined (of_mode m))) is plain = record { value = λ c v class made. no_some v made; located = λ x at. no_some x (ap measured_of at); own = λ x at. ap are_possible (sym (same_some m x at)) ∙ plain }
unread_fit e None (Some (a_predefined (truth b))) is plain = record { value = truth_name b; located = λ x at. no_some x (ap measured_of at); own = λ x at. no_some x at }
unread_fit e (Some d) (Some (a_predefined (truth b))) is plain = record { value = truth_name b; located = λ x at. no_some x (ap measured_of at); own = λ x at. no_some x at }
unread_fit e None (Some (a_predefined no_instance)) is plain = record { value = no_instance_name; located = λ x at. no_some x (ap measured_of at); own = λ x at. no_some x at }
unread_fit e (Some d) (Some (a_predefined no_instance)) is plain = record { value = no_instance_name; located = λ x at. no_some x (ap measured_of at); own = λ x at. no_some x at }
unread_fit e k (Some (a_synonym s)) is plain = absurd (true≢false is)
unread_fit e k (Some (a_mode novel w)) is plain = absurd (true≢false is)
unread_fit e k (Some (an_element names part owner)) is plain = absurd (true≢false is)
unread_fit e k (Some (a_location d)) is plain = absurd (true≢false is)
unread_fit e k (Some (a_parameter w)) is plain = absurd (true≢false is)
unread_fit e None o is plain = record { value = λ c v class made. no_some v made; located = λ x at. no_some x (ap measured_of at); own = λ x at. no_some x at }
unread_fit e (Some d) o is plain = record { value = λ c v class made. no_some v made; located = λ x at. no_some x (ap measured_of at); own = λ x at. no_some x at }

-- ---- by numbers

abbrev IsNumberFit : Ground → ℕ → Type 0
IsNumberFit g d = IsFitBy (slice_get g.entries d) (Some d) (slice_get g.origins d)

abbrev AllFit : Ground → List ℕ → Type 0
AllFit g done = (d : ℕ) → Contains done d → IsNumberFit g d

abbrev AllPlain : Ground → Type 0
AllPlain g = (d : ℕ) → IsPlain (slice_get g.origins d)

by_number : (g : Ground) (k : Option ℕ) → ((d : ℕ) → k ≡ Some d → IsNumberFit g d) → IsFitBy (option_and_then (slice_get g.entries) k) k (option_and_then (slice_get g.origins) k)
by_number g None there = unread_fit None None None refl tt
by_number g (Some d) there = there d refl

plain_name : (g : Ground) (k : Option ℕ) → AllPlain g → IsPlain (option_and_then (slice_get g.origins) k)
plain_name g None plain = tt
plain_name g (Some d) plain = plain d

-- what is there of every name, whatever is done
record IsTableKnown (g : Ground) : Type 0 where
  known : (n : Name) → IsKnownName g n
  modes : (n : Name) → classes.HasModes g n
  plain : AllPlain g

done_fit : (g : Ground) (done : List ℕ) (n : Name) → IsTableKnown g → AllFit g done → (is_read (origin_of g n) ≡ true → IfSome (number_at g.uses n.at) (Contains done)) → IsFitBy (entry_of g n) (number_at g.uses n.at) (origin_of g n)
done_fit g done n table fit looked = by_read (is_read (origin_of g n)) refl
  where
    by_read : (b : Bool) → is_read (origin_of g n) ≡ b → IsFitBy (entry_of g n) (number_at g.uses n.at) (origin_of g n)
    by_read true is = by_number g (number_at g.uses n.at) (λ d at. fit d (subst (λ k. IfSome k (Contains done)) at (looked is)))
    by_read false is = unread_fit (entry_of g n) (number_at g.uses n.at) (origin_of g n) is (plain_name g (number_at g.uses n.at) table.plain)

names_fit_done : (g : Ground) (done : List ℕ) (ns : List Name) → IsTableKnown g → AllFit g done → AllDone g done ns → AreNamesFit g ns
names_fit_done g done [] table fit all = tt
names_fit_done g done (n ∷ ns) table fit all = let own = done_fit g done n table fit all.0 in (record { known = table.known n; modes = table.modes n; value = own.value; located = own.located; own = own.own }, names_fit_done g done ns table fit all.1)

possible_of : (g : Ground) (ns : List Name) → AreNamesFit g ns → ArePossible g ns
possible_of g [] fit = tt
possible_of g (n ∷ ns) fit = (fit.0.own, possible_of g ns fit.1)

names_first : (g : Ground) (ns ks : List Name) → AreNamesFit g (ns ++ ks) → AreNamesFit g ns × AreNamesFit g ks
names_first g [] ks fit = (tt, fit)
names_first g (n ∷ ns) ks fit = let rest = names_first g ns ks fit.1 in ((fit.0, rest.0), rest.1)

-- ---- synonyms

abbrev SynonymFits : Entry → Type 0
SynonymFits x = (c : ClassTree) (v : ValueTree) → x.class ≡ Some c → x.value ≡ Some v → FitsClass c v

itself_received : IsReceived by_itself None
itself_received = record { there = λ apart. absurd (true≢false apart); fits = λ k is. no_some k is }

alone_synonym : (g : Ground) (s : SynonymTree) → AreNamesFit g (names_in s.value) → HasShortTexts s.value → HasBytes s.value → s.mode ≡ None → SynonymFits (synonym_entry g s None)
alone_synonym g s fit short few is c v class made =
    let e = s.value in
    let told = told_of_synonym g s in
    let none = unless_none told (constant_of g e) v made in
    let alone : told_of_synonym_value g false None e ≡ [] = ap (λ w. told_of_synonym_value g (is_some w) (some_mode_of g w) e) (sym is) ∙ none in
    let clean = none_inside (told_of_value g false None e) (told_if (misfits_as g None e) (tell_at rules.M12 (place_of e))) alone in
    let no_form = told_if (not (has_form g false e)) (tell_at rules.M1 (place_of e)) in
    let form = not_true (has_form g false e) (not_broken (not (has_form g false e)) (tell_at rules.M1 (place_of e)) (none_then (told_as g by_itself None e) no_form clean)) in
    constant_fits g by_itself None e c v fit short few itself_received (λ at. absurd (true≢false (sym at))) (none_inside (told_as g by_itself None e) no_form clean) form (unless_there told (class_of g e) c class) (unless_there told (constant_of g e) v made)

moded_synonym : (g : Ground) (s : SynonymTree) (w : written.ModeTree) → AllKnown g → AreNamesFit g (names_in s.value) → HasShortTexts s.value → HasBytes s.value → IsWritten w → s.mode ≡ Some w → SynonymFits (synonym_entry g s (Some w))
moded_synonym g s w known fit short few is_written is c v class made =
    let e = s.value in
    let told = told_of_synonym g s in
    let own = there_mapped value (mode_of g false w) c class in
    let m = own.0 in
    let none = unless_none told (value_within g (mode_of g false w) e) v made in
    let with_mode : told_of_synonym_value g true (Some m) e ≡ [] = sym (ap (λ k. told_of_synonym_value g true k e) own.1) ∙ (ap (λ x. told_of_synonym_value g (is_some x) (some_mode_of g x) e) (sym is) ∙ none) in
    let misfits = misfits_as g (Some m) e in
    let clean = none_inside (told_of_value g true (Some m) e) (told_if misfits (tell_at rules.M12 (place_of e))) with_mode in
    let fits = not_broken misfits (tell_at rules.M12 (place_of e)) (none_then (told_of_value g true (Some m) e) (told_if misfits (tell_at rules.M12 (place_of e))) with_mode) in
    let no_form = told_if (not (has_form g true e)) (tell_at rules.M1 (place_of e)) in
    let told_inside = none_inside (told_as g in_a_synonym (Some m) e) no_form clean in
    let form = not_true (has_form g true e) (not_broken (not (has_form g true e)) (tell_at rules.M1 (place_of e)) (none_then (told_as g in_a_synonym (Some m) e) no_form clean)) in
    let received : IsReceived in_a_synonym (Some m) = record { there = λ apart. refl; fits = λ k same. subst IsDeclarable (same_some m k same) (language_declarable m (mode_fits g false w m (each_known g (names_in_mode w) known) is_written own.1)) } in
    let value_is : constant_as g (Some m) e ≡ Some v = sym (ap (λ k. value_within g k e) own.1) ∙ unless_there told (value_within g (mode_of g false w) e) v made in
    let class_is = value_in (class_as g (Some m) e) (class_there g in_a_synonym true (Some m) e (each_known g (names_in e) known) told_inside form (ap is_some value_is)) in
    let of = constant_fits g in_a_synonym (Some m) e class_is.0 v fit short few received (λ in_synonym. fits) told_inside form class_is.1 value_is in
    subst (λ k. FitsClass k v) own.2 (received_fits g m e class_is.0 v class_is.1 value_is fits of)

synonym_fits : (g : Ground) (s : SynonymTree) (w : Option written.ModeTree) → AllKnown g → s.mode ≡ w → AreNamesFit g (names_in s.value) → HasShortTexts s.value → HasBytes s.value → IsSomeWritten w → SynonymFits (synonym_entry g s w)
synonym_fits g s None known is fit short few is_written = alone_synonym g s fit short few is
synonym_fits g s (Some w) known is fit short few is_written = moded_synonym g s w known fit short few is_written is

-- ---- elements

-- an element is among the elements of its SET
abbrev IsElementOf : Origin → Type 0
IsElementOf (an_element ns part owner) = part < length ns
IsElementOf o = Unit {0}

element_between : (part count : ℕ) → part < count → IsBetween (Some (record { low = pos 0; high = pos count -ℤ pos 1 })) (pos part)
element_between part count less = (grind (arith, ints), grind (arith, ints, less))

element_fits : (g : Ground) (ns : List Name) (part : ℕ) (owner : Option (Name × Bool)) (m : ModeTree) → part < length ns → set_mode g ns owner ≡ Some m → IsOfMode m (number (pos part))
element_fits g [] part owner m less is = no_some m is
element_fits g (n ∷ ns) part owner m less is = let there = there_chained (λ first. named_set g owner (set_of first (length (n ∷ ns)))) (number_at g.defined n.at) m is in by_owner owner there.0 there.2
  where
    by_owner : (o : Option (Name × Bool)) (first : ℕ) → named_set g o (set_of first (length (n ∷ ns))) ≡ Some m → IsOfMode m (number (pos part))
    by_owner None first same = subst (λ x. IsOfMode x (number (pos part))) (same_some (set_of first (length (n ∷ ns))) m same) (element_between part (length (n ∷ ns)) less)
    by_owner (Some o) first same = let mapped = there_mapped (λ d. modes.named d o.1 (set_of first (length (n ∷ ns)))) (number_at g.defined o.0.at) m same in subst (λ x. IsOfMode x (number (pos part))) mapped.2 (element_between part (length (n ∷ ns)) less)

element_class : (g : Ground) (ns : List Name) (part : ℕ) (owner : Option (Name × Bool)) (c : ClassTree) (v : ValueTree) → part < length ns → option_map derived (set_mode g ns owner) ≡ Some c → Some (number (pos part)) ≡ Some v → FitsClass c v
element_class g ns part owner c v less class made =
    let own = there_mapped derived (set_mode g ns owner) c class in
    subst (λ k. FitsClass k v) own.2 (subst (λ y. IsOfMode own.0 y) (same_some (number (pos part)) v made) (element_fits g ns part owner own.0 less own.1))

-- ---- by what defines it

record IsOriginFit (g : Ground) (o : Origin) : Type 0 where
  written : IsWrittenSo o
  element : IsElementOf o
  bytes : (s : SynonymTree) → o ≡ a_synonym s → HasBytes s.value

origin_fit : (g : Ground) (done : List ℕ) (d : ℕ) (o : Option Origin) → IsTableKnown g → AllFit g done → ((x : Origin) → o ≡ Some x → IsOriginFit g x) → IsPlain o → NeedsDone g done o → IsFitBy (option_map (entry_by g) o) (Some d) o
origin_fit g done d (Some (a_synonym s)) table fit origins plain needs =
    let own = origins (a_synonym s) refl in
    let names = names_first g (names_in_some_mode s.mode) (names_in s.value) (names_fit_done g done (names_needed (a_synonym s)) table fit needs) in
    record { value = synonym_fits g s s.mode table.known refl names.1 own.written.1 (own.bytes s refl) own.written.0; located = λ x at. no_some x (ap measured_of at); own = λ x at. no_some x at }
origin_fit g done d (Some (a_mode novel w)) table fit origins plain needs = record {
  value = λ c v class made. no_some v made;
  located = λ x at. no_some x (ap measured_of at);
  own = λ x at. let there = there_mapped (modes.named d novel) (mode_of g true w) x at in ap are_possible (sym there.2) ∙ mode_possible g true w there.0 (possible_of g (names_in_mode w) (names_fit_done g done (names_in_mode w) table fit needs)) there.1;
}
origin_fit g done d (Some (an_element names part owner)) table fit origins plain needs = record {
  value = λ c v class made. element_class g names part owner c v (origins (an_element names part owner) refl).element class made;
  located = λ x at. no_some x (ap measured_of at);
  own = λ x at. no_some x at;
}
origin_fit g done d (Some (a_location l)) table fit origins plain needs = record {
  value = λ c v class made. no_some v made;
  located = λ x at. mode_possible g true l.mode x (possible_of g (names_in_mode l.mode) (names_fit_done g done (names_in_mode l.mode) table fit needs)) (ap measured_of at);
  own = λ x at. no_some x at;
}
origin_fit g done d (Some (a_parameter w)) table fit origins plain needs = record {
  value = λ c v class made. no_some v made;
  located = λ x at. mode_possible g false w x (possible_of g (names_in_mode w) (names_fit_done g done (names_in_mode w) table fit needs)) (ap measured_of at);
  own = λ x at. no_some x at;
}
origin_fit g done d None table fit origins plain needs = unread_fit None (Some d) None refl tt
origin_fit g done d (Some o) table fit origins plain needs = unread_fit (Some (entry_by g o)) (Some d) (Some o) refl plain

abbrev AllOriginsFit : Ground → Type 0
AllOriginsFit g = (d : ℕ) (o : Origin) → slice_get g.origins d ≡ Some o → IsOriginFit g o

number_fit : (g : Ground) (done : List ℕ) (d : ℕ) → IsEvaluated g → IsTableKnown g → AllFit g done → AllOriginsFit g → NeedsDone g done (slice_get g.origins d) → IsNumberFit g d
number_fit g done d evaluated table fit origins needs =
    let at : slice_get g.entries d ≡ option_map (entry_by g) (slice_get g.origins d) = ap (λ es. slice_get es d) evaluated ∙ slice_get-map (entry_by g) g.origins d in
    subst (λ e. IsFitBy e (Some d) (slice_get g.origins d)) (sym at) (origin_fit g done d (slice_get g.origins d) table fit (origins d) (table.plain d) needs)

one_more : (g : Ground) (done : List ℕ) (d : ℕ) → IsNumberFit g d → AllFit g done → AllFit g (d ∷ done)
one_more g done d at_d fit e among = elim (in_cases d done e among) [
  | inl is ↦ subst (IsNumberFit g) is at_d
  | inr later ↦ fit e later
]

all_fit : (g : Ground) (done order : List ℕ) → IsEvaluated g → IsTableKnown g → AllFit g done → AllOriginsFit g → NeedsEarlier g done order → (d : ℕ) → Contains order d → IsNumberFit g d
all_fit g done [] evaluated table fit origins earlier d c = absurd (none_in d c)
all_fit g done (e ∷ order) evaluated table fit origins earlier d c =
    let at_e = number_fit g done e evaluated table fit origins earlier.0 in
    elim (in_cases e order d c) [
      | inl is ↦ subst (IsNumberFit g) is at_e
      | inr later ↦ all_fit g (e ∷ done) order evaluated table (one_more g done e at_e fit) origins earlier.1 d later
    ]

numbers_fit : (g : Ground) (order : List ℕ) → IsEvaluated g → IsOrder g order → IsTableKnown g → AllOriginsFit g → (d : ℕ) → IsNumberFit g d
numbers_fit g order evaluated is_order table origins d = elim (cases_lt d (length g.origins)) [
  | inl less ↦ all_fit g [] order evaluated table (λ e c. absurd (none_in e c)) origins is_order.earlier d (is_order.all d less)
  | inr past ↦ number_fit g [] d evaluated table (λ e c. absurd (none_in e c)) origins (subst (NeedsDone g []) (sym (slice_get_past g.origins d past)) tt)
]

-- ---- the definitions of a text

got_before : {A : Type 0} (xs : List A) (k : ℕ) (x : A) → slice_get xs k ≡ Some x → k < length xs
got_before [] k x is = no_some x is
got_before (y ∷ xs) zero x is = omega arith
got_before (y ∷ xs) (suc k) x is = let rest = got_before xs k x is in omega (arith, rest)

element_defined : (o : Origin) (d : Definition) → Defines o d → IsElementOf o
element_defined (an_element ns part owner) d defines = let there = there_mapped identifier (slice_get ns part) d.name defines.1 in got_before ns part there.0 there.1
element_defined o d defines = tt

elements_in_lists : (os : List Origin) (ds : List Definition) (k : ℕ) (o : Origin) → AllDefine os ds → slice_get os k ≡ Some o → IsElementOf o
elements_in_lists [] ds k o all is = no_some o is
elements_in_lists (x ∷ os) [] k o all is = absurd all
elements_in_lists (x ∷ os) (d ∷ ds) zero o all is = subst IsElementOf (same_some x o is) (element_defined x d all.0)
elements_in_lists (x ∷ os) (d ∷ ds) (suc k) o all is = elements_in_lists os ds k o all.1 is

origin_element : (t : ProgramTree) (d : ℕ) (o : Origin) → slice_get (origins_of t) d ≡ Some o → IsElementOf o
origin_element t d o is = elements_in_lists (origins_of t) (with_predefined (text_definitions (level_of t))) d o (origins_define t) is

-- ---- predefined names

plain_owned : (ds : List Definition) (o : Origin) → IsOwned ds o → IsPlain (Some o)
plain_owned ds (a_predefined p) owned = absurd owned
plain_owned ds o owned = tt

predefined_plain : Each (λ o. IsPlain (Some o)) predefined_origins
predefined_plain = each_flat (λ p. IsPlain (Some (a_predefined p))) (λ o. IsPlain (Some o)) in_both_cases (λ p fits. (fits, (fits, tt))) each_predefined
    (refl, (refl, (refl, (refl, (tt, (tt, (tt, (tt, (tt, (tt, (tt, (tt, (tt, (tt, (tt, (tt, (tt, (tt, (tt, (tt, (tt, tt)))))))))))))))))))))

origins_plain : (t : ProgramTree) → Each (λ o. IsPlain (Some o)) (origins_of t)
origins_plain t =
    let ds = text_definitions (level_of t) in
    each_append (λ o. IsPlain (Some o)) (text_origins t) predefined_origins (each_more (IsOwned ds) (λ o. IsPlain (Some o)) (plain_owned ds) (text_origins t) (program_defining t).1) predefined_plain

plain_at : (os : List Origin) (d : ℕ) → Each (λ o. IsPlain (Some o)) os → IsPlain (slice_get os d)
plain_at [] d each = tt
plain_at (o ∷ os) zero each = each.0
plain_at (o ∷ os) (suc d) each = plain_at os d each.1

-- ---- counters

counter_fit : (e : Option Entry) (d : ℕ) (o : Option Origin) → is_counter o ≡ true → IsFitBy e (Some d) o
counter_fit e d (Some (a_counter c)) is = record { value = λ k v class made. no_some v made; located = λ x at. no_some x (ap measured_of at); own = λ x at. no_some x at }
counter_fit e d o is = absurd (true≢false (sym is))

-- ---- the law

module _ (text : List ℕ) (t : ProgramTree) (g h : Ground) (has : HasModes text t g) (is_h : IsStatementGroundOf t h) (bytes : SynonymsHaveBytes h) where
  alike : SameText g h
  alike = grounds_alike t g h has.is_ground.names is_h.names

  origins_are : g.origins ≡ origins_of t
  origins_are = ap (λ (x : Ground). x.origins) has.is_ground.names

  order : (os : List ℕ) × IsOrder g os
  order = text_order text t g has.has_names has.is_ground.names

  table : IsTableKnown g
  table = record {
    known = λ n. table_known g order.0 has.is_ground.entries order.1 (all_defined text t g has.has_names has.is_ground.names) n;
    modes = λ n. table_modes g order.0 has.is_ground.entries order.1 (all_defined text t g has.has_names has.is_ground.names) (all_written text t g has.has_names has.is_ground.names) n;
    plain = λ d. subst (λ os. IsPlain (slice_get os d)) (sym origins_are) (plain_at (origins_of t) d (origins_plain t));
  }

  synonym_bytes : (d : ℕ) (s : SynonymTree) → slice_get g.origins d ≡ Some (a_synonym s) → HasBytes s.value
  synonym_bytes d s at = bytes d s (ap (λ os. slice_get os d) (sym alike.origins) ∙ at)

  origins_fit : AllOriginsFit g
  origins_fit d o at = record {
    written = all_written text t g has.has_names has.is_ground.names d o at;
    element = origin_element t d o (sym (ap (λ os. slice_get os d) origins_are) ∙ at);
    bytes = λ s is. synonym_bytes d s (at ∙ ap Some is);
  }

  plain_number : (d : ℕ) → IsNumberFit g d
  plain_number d = numbers_fit g order.0 has.is_ground.entries order.1 table origins_fit d

  number_known : (d : ℕ) → IsNumberFit h d
  number_known d = subst (λ o. IsFitBy (slice_get h.entries d) (Some d) o) (ap (λ os. slice_get os d) alike.origins) (by (is_counter (slice_get g.origins d)) refl)
    where
      by : (b : Bool) → is_counter (slice_get g.origins d) ≡ b → IsFitBy (slice_get h.entries d) (Some d) (slice_get g.origins d)
      by true is = counter_fit (slice_get h.entries d) d (slice_get g.origins d) is
      by false apart = subst (λ e. IsFitBy e (Some d) (slice_get g.origins d)) (but_counters text t g h has.has_names has.is_ground is_h d apart) (plain_number d)

  name_fit : (n : Name) → IsNameFit h n
  name_fit n =
      let own = by_number h (number_at h.uses n.at) (λ d at. number_known d) in
      record { known = names_known text t g h has is_h n; modes = names_modes text t g h has is_h n; value = own.value; located = own.located; own = own.own }

pub text_names_fit : NamesFitLaw
text_names_fit text t g h has is_h bytes n = name_fit text t g h has is_h bytes n
