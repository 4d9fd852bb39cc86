-- Names have what constants and modes need of them, in a table of which nothing is told.
use Rattle.std.proofs.Common.{◌≡◌, ℕ, ◌||◌, Bool, true, false, List, [], ◌∷◌, Option, Some, None, ℤ, pos, length, true≢false, refl, sym, ap, ◌∙◌, inl, inr, subst, Contains}
use Rattle.std.specs.Prelude.{IsSome, IfSome, is_some, not, slice_get, option_map, option_and_then}
use Rattle.std.proofs.lemmas.Bool.{cases_lt}
use Rattle.std.proofs.lemmas.Option.{slice_get-map, slice_get_past}
use Rattle.names_laws.proofs.Members.{none_in, in_cases}
use Rattle.chill_tree.specs.declared.tree.name.Name.{Name}
use Rattle.chill_tree.specs.ExprTree.{ExprTree, paren, tuple, uniform, place_of}
use Rattle.chill_tree.specs.ModeTree as written
use Rattle.chill_tree.specs.LocalTree.{SynonymTree}
use Rattle.diagnostics.specs.declared.rule.Rule.TheVariants as rules
use Rattle.modes.specs.ModeTree as modes
use Rattle.modes.specs.ModeTree.{ModeTree, ClassTree, value, derived, null, nothing, set_of}
use Rattle.modes.specs.Form.{form_of}
use Rattle.checks_model.specs.Alike.{goes_with}
use Rattle.checks_model.specs.Told.{tell_at, told_if, holds_of_both}
use Rattle.checks_model.specs.ValueTrees.{ValueTree, number}
use Rattle.checks_model.specs.Ground.{Ground, Origin, Entry, of_mode, truth, no_instance, a_synonym, a_mode, an_element, a_location, a_parameter, a_predefined, number_at, origin_of, entry_of}
use Rattle.checks_model.specs.OperatorValues.{truth_value}
use Rattle.checks_model.specs.Classes.{class_as, class_of, shape_fits, uniform_fits}
use Rattle.checks_model.specs.Constants.{has_form, constant_as, constant_of}
use Rattle.checks_model.specs.ConstantRules.{by_itself, in_a_synonym, told_as, misfits_as, class_misfits, value_misfits, told_of_value, told_of_synonym_value}
use Rattle.checks_model.specs.WrittenModes.{mode_of, some_mode_of, told_of_some_mode}
use Rattle.checks_model.specs.Table.{entry_by, set_mode, named_set, told_of_synonym, value_within, synonym_entry}
use Rattle.table_laws.specs.Names.{names_in, names_in_mode, names_in_some_mode, names_needed}
use Rattle.table_laws.specs.Frames.{is_read}
use Rattle.table_laws.specs.OneTable.{IsEvaluated, IsOrder, AllDone, NeedsDone, NeedsEarlier}
use Rattle.elaborated_laws.specs.Table.{AreDefined}
use Rattle.elaborated_laws.specs.Known.{IsDeclarable}
use Rattle.elaborated_laws.specs.Modes.{IsWritten}
use Rattle.elaborated_laws.specs.Entries.{IsSomeWritten, IsWrittenSo, AllWrittenSo}
use Rattle.elaborated_laws.proofs.Told.{none_inside, none_then, not_broken, not_true, neither_left, no_some, same_some, there_mapped, there_chained, unless_there}
use Rattle.elaborated_laws.proofs.Constants.{class_there}
use Rattle.elaborated_laws.proofs.Modes.{language_declarable, mode_fits}
use Rattle.elaborated_laws.proofs.Table.{table_known}
use Rattle.there_laws.specs.Constants.{IsReceived}
use Rattle.there_laws.specs.Shapes.{is_number, has_shape, is_of_class, HasShapes}
use Rattle.there_laws.specs.Modes.{IsNeeded}
use Rattle.there_laws.specs.Table.{SomeModeNamed, IsSound, AllSound, IsThereBy, IsNameThere, TableThereLaw}
use Rattle.there_laws.proofs.Constants.{AllKnown, each_known, constant_there, alone_there}
use Rattle.there_laws.proofs.Shapes.{similar_shape}
use Rattle.there_laws.proofs.ConstantShapes.{instance_form, similar_left, of_when, constant_shape}
use Rattle.there_laws.proofs.Modes.{mapped, told_nothing, value_in, written_there}
use Rattle.there_laws.proofs.Needs.{AreThere, there_first, there_later, expr_needs, mode_needs}

-- ---- what isn't looked up

unread_there : (e : Option Entry) (k : Option ℕ) (o : Option Origin) → is_read o ≡ false → IsThereBy e k o
unread_there e None (Some (a_predefined (of_mode m))) is = record { value = λ form. absurd (true≢false (sym form)); shape = λ c v class made. no_some v made; mode = λ stands. refl; located = tt }
unread_there e (Some d) (Some (a_predefined (of_mode m))) is = record { value = λ form. absurd (true≢false (sym form)); shape = λ c v class made. no_some v made; mode = λ stands. refl; located = tt }
unread_there e k (Some (a_predefined (truth b))) is = record { value = λ form. refl; shape = λ c v class made. truth_shape c v class made; mode = λ stands. absurd (true≢false (sym stands)); located = tt }
  where
    truth_shape : (c : ClassTree) (v : ValueTree) → Some (derived modes.boolean) ≡ Some c → Some (truth_value b) ≡ Some v → is_of_class c v ≡ true
    truth_shape c v class made = subst (λ k. is_of_class k v ≡ true) (same_some (derived modes.boolean) c class) (ap is_number (sym (same_some (truth_value b) v made)))
unread_there e k (Some (a_predefined no_instance)) is = record { value = λ form. refl; shape = λ c v class made. subst (λ k. is_of_class k v ≡ true) (same_some null c class) (ap is_number (sym (same_some (number (pos 0)) v made))); mode = λ stands. absurd (true≢false (sym stands)); located = tt }
unread_there e k (Some (a_synonym s)) is = absurd (true≢false is)
unread_there e k (Some (a_mode novel w)) is = absurd (true≢false is)
unread_there e k (Some (an_element names part owner)) is = absurd (true≢false is)
unread_there e k (Some (a_location d)) is = absurd (true≢false is)
unread_there e k (Some (a_parameter w)) is = absurd (true≢false is)
unread_there e k o is = record { value = λ form. absurd (true≢false (sym form)); shape = λ c v class made. no_some v made; mode = λ stands. absurd (true≢false (sym stands)); located = tt }

-- ---- by numbers

abbrev pub IsNumberThere : Ground → ℕ → Type 0
IsNumberThere g d = IsThereBy (slice_get g.entries d) (Some d) (slice_get g.origins d)

abbrev AllThere : Ground → List ℕ → Type 0
AllThere g done = (d : ℕ) → Contains done d → IsNumberThere g d

by_number : (g : Ground) (k : Option ℕ) → ((d : ℕ) → k ≡ Some d → IsNumberThere g d) → IsThereBy (option_and_then (slice_get g.entries) k) k (option_and_then (slice_get g.origins) k)
by_number g None there = unread_there None None None refl
by_number g (Some d) there = there d refl

done_there : (g : Ground) (done : List ℕ) (n : Name) → AllThere g done → (is_read (origin_of g n) ≡ true → IfSome (number_at g.uses n.at) (Contains done)) → IsNameThere g n
done_there g done n there looked = by_read (is_read (origin_of g n)) refl
  where
    by_read : (b : Bool) → is_read (origin_of g n) ≡ b → IsNameThere g n
    by_read true is = by_number g (number_at g.uses n.at) (λ d at. there d (subst (λ k. IfSome k (Contains done)) at (looked is)))
    by_read false is = unread_there (entry_of g n) (number_at g.uses n.at) (origin_of g n) is

names_there : (g : Ground) (done : List ℕ) (ns : List Name) → AllThere g done → AllDone g done ns → AreThere g ns
names_there g done [] there all = tt
names_there g done (n ∷ ns) there all = (done_there g done n there all.0, names_there g done ns there all.1)

-- ---- synonyms

-- a value whose class goes with a mode is of the mode's shape
goes_shape : (c : ClassTree) (m : ModeTree) (v : ValueTree) → goes_with c m ≡ true → is_of_class c v ≡ true → has_shape (form_of m) v ≡ true
goes_shape (value n) m v goes holds = similar_left n m v goes holds
goes_shape (derived n) m v goes holds = similar_shape n m v goes holds
goes_shape null m v goes holds = instance_form (form_of m) v goes ∙ holds
goes_shape nothing m v goes holds = absurd (true≢false (sym goes))

class_fits : (g : Ground) (m : ModeTree) (e : ExprTree) (c : ClassTree) (v : ValueTree) → HasShapes g e → class_as g (Some m) e ≡ Some c → constant_as g (Some m) e ≡ Some v → (class_misfits g (Some m) e || value_misfits g (Some m) e) ≡ false → has_shape (form_of m) v ≡ true
class_fits g m e c v shapes class made fits =
    let goes = not_true (goes_with c m) (ap (λ k. holds_of_both (λ c m. not (goes_with c m)) k (Some m)) (sym class) ∙ neither_left (class_misfits g (Some m) e) (value_misfits g (Some m) e) fits) in
    goes_shape c m v goes (constant_shape g (Some m) e c v shapes class made)

synonym_shape : (g : Ground) (m : ModeTree) (e : ExprTree) (c : ClassTree) (v : ValueTree) → HasShapes g e → class_as g (Some m) e ≡ Some c → constant_as g (Some m) e ≡ Some v → misfits_as g (Some m) e ≡ false → has_shape (form_of m) v ≡ true
synonym_shape g m (paren at e) c v shapes class made fits = synonym_shape g m e c v shapes class made fits
synonym_shape g m (tuple at None b rs) c v shapes class made fits = subst (λ k. is_of_class k v ≡ true) (sym (of_when (shape_fits rs (form_of m)) (value m) c class)) (constant_shape g (Some m) (tuple at None b rs) c v shapes class made)
synonym_shape g m (uniform at None b e) c v shapes class made fits = subst (λ k. is_of_class k v ≡ true) (sym (of_when (uniform_fits (form_of m)) (value m) c class)) (constant_shape g (Some m) (uniform at None b e) c v shapes class made)
synonym_shape g m e c v shapes class made fits = class_fits g m e c v shapes class made fits

-- what is shown of a synonym's entry
record SynonymThere (x : Entry) : Type 0 where
  value : IsSome x.value
  shape : (c : ClassTree) (v : ValueTree) → x.class ≡ Some c → x.value ≡ Some v → is_of_class c v ≡ true

alone_synonym : (g : Ground) (s : SynonymTree) → AllKnown g → IsNeeded g s.value → s.mode ≡ None → told_of_synonym g s ≡ [] → SynonymThere (synonym_entry g s None)
alone_synonym g s known needs is none =
    let e = s.value in
    let told = told_of_synonym g s in
    let alone : told_of_synonym_value g false None e ≡ [] = ap (λ w. told_of_synonym_value g (is_some w) (some_mode_of g w) e) (sym is) ∙ none in
    let clean = none_inside (told_of_value g false None e) (told_if (misfits_as g None e) (tell_at rules.M12 (place_of e))) alone in
    let no_form = told_if (not (has_form g false e)) (tell_at rules.M1 (place_of e)) in
    let form = not_true (has_form g false e) (not_broken (not (has_form g false e)) (tell_at rules.M1 (place_of e)) (none_then (told_as g by_itself None e) no_form clean)) in
    record {
      value = told_nothing told (constant_of g e) none (alone_there g e known needs.0 (none_inside (told_as g by_itself None e) no_form clean) form);
      shape = λ c v class made. constant_shape g None e c v needs.1 (unless_there told (class_of g e) c class) (unless_there told (constant_of g e) v made);
    }

moded_synonym : (g : Ground) (s : SynonymTree) (w : written.ModeTree) → AllKnown g → IsNeeded g s.value → IsWritten w → IsSome (mode_of g false w) → s.mode ≡ Some w → told_of_synonym g s ≡ [] → SynonymThere (synonym_entry g s (Some w))
moded_synonym g s w known needs is_written there is none =
    let e = s.value in
    let told = told_of_synonym g s in
    let m = value_in (mode_of g false w) there in
    let with_mode : told_of_synonym_value g true (Some m.0) e ≡ [] = sym (ap (λ k. told_of_synonym_value g true k e) m.1) ∙ (ap (λ x. told_of_synonym_value g (is_some x) (some_mode_of g x) e) (sym is) ∙ none) in
    let misfits = misfits_as g (Some m.0) e in
    let clean = none_inside (told_of_value g true (Some m.0) e) (told_if misfits (tell_at rules.M12 (place_of e))) with_mode in
    let fits = not_broken misfits (tell_at rules.M12 (place_of e)) (none_then (told_of_value g true (Some m.0) e) (told_if misfits (tell_at rules.M12 (place_of e))) with_mode) in
    let no_form = told_if (not (has_form g true e)) (tell_at rules.M1 (place_of e)) in
    let told_inside = none_inside (told_as g in_a_synonym (Some m.0) e) no_form clean in
    let form = not_true (has_form g true e) (not_broken (not (has_form g true e)) (tell_at rules.M1 (place_of e)) (none_then (told_as g in_a_synonym (Some m.0) e) no_form clean)) in
    let received : IsReceived in_a_synonym (Some m.0) = record { there = λ apart. refl; fits = λ k same. subst IsDeclarable (same_some m.0 k same) (language_declarable m.0 (mode_fits g false w m.0 (each_known g (names_in_mode w) known) is_written m.1)) } in
    let made = constant_there g in_a_synonym (Some m.0) e known needs.0 received (λ in_synonym. fits) told_inside form in
    let class = value_in (class_as g (Some m.0) e) (class_there g in_a_synonym true (Some m.0) e (each_known g (names_in e) known) told_inside form made) in
    let within : value_within g (mode_of g false w) e ≡ constant_as g (Some m.0) e = ap (λ k. value_within g k e) m.1 in
    record {
      value = told_nothing told (value_within g (mode_of g false w) e) none (subst IsSome (sym within) made);
      shape = λ c v own result.
          let same = there_mapped value (mode_of g false w) c own in
          let mode : m.0 ≡ same.0 = same_some m.0 same.0 (sym m.1 ∙ same.1) in
          subst (λ k. is_of_class k v ≡ true) (ap value mode ∙ same.2) (synonym_shape g m.0 e class.0 v needs.1 class.1 (sym within ∙ unless_there told (value_within g (mode_of g false w) e) v result) fits);
    }

synonym_there : (g : Ground) (s : SynonymTree) (w : Option written.ModeTree) → AllKnown g → s.mode ≡ w → IsNeeded g s.value → IsSomeWritten w → (AreThere g (names_in_some_mode w) × (SomeModeNamed g w × (told_of_some_mode g w ≡ []))) → told_of_synonym g s ≡ [] → SynonymThere (synonym_entry g s w)
synonym_there g s None known is needs is_written mode none = alone_synonym g s known needs is none
synonym_there g s (Some w) known is needs is_written mode none = moded_synonym g s w known needs is_written (written_there g false w known (mode_needs g w mode.0 mode.1.0) mode.1.1) is none

-- ---- by what defines it

set_number : (g : Ground) (names : List Name) (owner : Option (Name × Bool)) (m : ModeTree) (n : ℤ) → set_mode g names owner ≡ Some m → has_shape (form_of m) (number n) ≡ true
set_number g [] owner m n is = no_some m is
set_number g (k ∷ ks) owner m n is = let there = there_chained (λ first. named_set g owner (set_of first (length (k ∷ ks)))) (number_at g.defined k.at) m is in by_owner owner there.0 there.2
  where
    by_owner : (o : Option (Name × Bool)) (first : ℕ) → named_set g o (set_of first (length (k ∷ ks))) ≡ Some m → has_shape (form_of m) (number n) ≡ true
    by_owner None first same = subst (λ x. has_shape (form_of x) (number n) ≡ true) (same_some (set_of first (length (k ∷ ks))) m same) refl
    by_owner (Some o) first same = let mapped = there_mapped (λ d. modes.named d o.1 (set_of first (length (k ∷ ks)))) (number_at g.defined o.0.at) m same in subst (λ x. has_shape (form_of x) (number n) ≡ true) mapped.2 refl

origin_there : (g : Ground) (done : List ℕ) (d : ℕ) (o : Option Origin) → AllKnown g → AllThere g done → ((x : Origin) → o ≡ Some x → IsWrittenSo x) → ((x : Origin) → o ≡ Some x → IsSound g x) → NeedsDone g done o → IsThereBy (option_map (entry_by g) o) (Some d) o
origin_there g done d (Some (a_synonym s)) known there is_written sound needs =
    let so = sound (a_synonym s) refl in
    let names = names_there g done (names_needed (a_synonym s)) there needs in
    let own = synonym_there g s s.mode known refl (expr_needs g s.value (there_later g (names_in_some_mode s.mode) (names_in s.value) names) so.0.1) (is_written (a_synonym s) refl).0 (there_first g (names_in_some_mode s.mode) (names_in s.value) names, (so.0.0, so.1.0)) so.1.1 in
    record { value = λ form. own.value; shape = own.shape; mode = λ stands. absurd (true≢false (sym stands)); located = tt }
origin_there g done d (Some (a_mode novel w)) known there is_written sound needs =
    let so = sound (a_mode novel w) refl in
    record {
      value = λ form. absurd (true≢false (sym form));
      shape = λ c v class made. no_some v made;
      mode = λ stands. mapped (modes.named d novel) (mode_of g true w) (written_there g true w known (mode_needs g w (names_there g done (names_in_mode w) there needs) so.0) so.1);
      located = tt;
    }
origin_there g done d (Some (an_element names part owner)) known there is_written sound needs = record {
  value = λ form. refl;
  shape = λ c v class made.
      let own = there_mapped derived (set_mode g names owner) c class in
      subst (λ k. is_of_class k v ≡ true) own.2 (subst (λ y. has_shape (form_of own.0) y ≡ true) (same_some (number (pos part)) v made) (set_number g names owner own.0 (pos part) own.1));
  mode = λ stands. absurd (true≢false (sym stands));
  located = tt;
}
origin_there g done d (Some (a_location l)) known there is_written sound needs =
    let so = sound (a_location l) refl in
    record {
      value = λ form. absurd (true≢false (sym form));
      shape = λ c v class made. no_some v made;
      mode = λ stands. absurd (true≢false (sym stands));
      located = written_there g true l.mode known (mode_needs g l.mode (names_there g done (names_in_mode l.mode) there needs) so.0) so.1;
    }
origin_there g done d (Some (a_parameter w)) known there is_written sound needs =
    let so = sound (a_parameter w) refl in
    record {
      value = λ form. absurd (true≢false (sym form));
      shape = λ c v class made. no_some v made;
      mode = λ stands. absurd (true≢false (sym stands));
      located = written_there g false w known (mode_needs g w (names_there g done (names_in_mode w) there needs) so.0) so.1;
    }
origin_there g done d None known there is_written sound needs = unread_there None (Some d) None refl
origin_there g done d (Some o) known there is_written sound needs = unread_there (Some (entry_by g o)) (Some d) (Some o) refl

number_there : (g : Ground) (done : List ℕ) (d : ℕ) → IsEvaluated g → AllKnown g → AllThere g done → AllWrittenSo g → AllSound g → NeedsDone g done (slice_get g.origins d) → IsNumberThere g d
number_there g done d evaluated known there is_written sound needs =
    let at : slice_get g.entries d ≡ option_map (entry_by g) (slice_get g.origins d) = ap (λ es. slice_get es d) evaluated ∙ slice_get-map (entry_by g) g.origins d in
    subst (λ e. IsThereBy e (Some d) (slice_get g.origins d)) (sym at) (origin_there g done d (slice_get g.origins d) known there (is_written d) (sound d) needs)

one_more : (g : Ground) (done : List ℕ) (d : ℕ) → IsNumberThere g d → AllThere g done → AllThere g (d ∷ done)
one_more g done d at_d there e among = elim (in_cases d done e among) [
  | inl is ↦ subst (IsNumberThere g) is at_d
  | inr later ↦ there e later
]

all_there : (g : Ground) (done order : List ℕ) → IsEvaluated g → AllKnown g → AllThere g done → AllWrittenSo g → AllSound g → NeedsEarlier g done order → (d : ℕ) → Contains order d → IsNumberThere g d
all_there g done [] evaluated known there is_written sound earlier d c = absurd (none_in d c)
all_there g done (e ∷ order) evaluated known there is_written sound earlier d c =
    let at_e = number_there g done e evaluated known there is_written sound earlier.0 in
    elim (in_cases e order d c) [
      | inl is ↦ subst (IsNumberThere g) is at_e
      | inr later ↦ all_there g (e ∷ done) order evaluated known (one_more g done e at_e there) is_written sound earlier.1 d later
    ]

-- ---- the law

pub numbers_there : (g : Ground) (order : List ℕ) → IsEvaluated g → IsOrder g order → AreDefined g → AllWrittenSo g → AllSound g → (d : ℕ) → IsNumberThere g d
numbers_there g order evaluated is_order defined is_written sound d = any_number d
  where
    known : AllKnown g
    known k = table_known g order evaluated is_order defined k

    none_done : AllThere g []
    none_done d c = absurd (none_in d c)

    any_number : (d : ℕ) → IsNumberThere g d
    any_number d = elim (cases_lt d (length g.origins)) [
      | inl less ↦ all_there g [] order evaluated known none_done is_written sound is_order.earlier d (is_order.all d less)
      | inr past ↦ number_there g [] d evaluated known none_done is_written sound (subst (NeedsDone g []) (sym (slice_get_past g.origins d past)) tt)
    ]

pub table_there : TableThereLaw
table_there g order evaluated is_order defined is_written sound n = by_number g (number_at g.uses n.at) (λ d at. numbers_there g order evaluated is_order defined is_written sound d)
