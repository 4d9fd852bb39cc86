-- Synonyms with and without a written mode.
use Rattle.std.proofs.Common.{◌≡◌, true, false, List, [], ◌∷◌, Option, Some, None, refl, sym, ap, ◌∙◌, subst}
use Rattle.std.specs.Prelude.{is_some, option_map, IsTrue}
use Rattle.chill_tree.specs.ExprTree.{ExprTree}
use Rattle.chill_tree.specs.ModeTree as written
use Rattle.chill_tree.specs.LocalTree.{SynonymTree}
use Rattle.diagnostics.specs.declared.diagnostic.Diagnostic.{Diagnostic}
use Rattle.modes.specs.ModeTree.{ModeTree, ClassTree, class_tree, mode_tree, value}
use Rattle.checks_model.specs.ValueTrees.{ValueTree, scalars_in}
use Rattle.checks_model.specs.Ground as model
use Rattle.checks_model.specs.Ground.{Ground, a_synonym}
use Rattle.checks_model.specs.Told.{is_none_told}
use Rattle.checks_model.specs.Classes.{class_of}
use Rattle.checks_model.specs.Constants.{constant_of}
use Rattle.checks_model.specs.ConstantRules.{told_needed, told_of_synonym_value}
use Rattle.checks_model.specs.WrittenModes.{mode_of, some_mode_of, unless_told}
use Rattle.checks_model.specs.Table.{synonym_entry, told_of_synonym, value_within}
use Rattle.constant_values.specs.Fits.{fit_together}
use Rattle.constant_operators.specs.declared.evaluation.Entry.{Entry}
use Rattle.constant_operators.specs.declared.known.Known.{Known}
use Rattle.constant_operators.specs.Known.{IsKnownConstant}
use Rattle.constant_operators.specs.Grounds.{unknown_entry}
use Rattle.constant_rules.specs.Walks.{IsNeeded}
use Rattle.definition_table.specs.Entries.{IsEntryOf, IsPlainSynonym, IsSynonymOf}
use Rattle.definition_table.proofs.EntryLemmas.{entry_with, value_tree, synonym_safe}
use Rattle.definition_table.proofs.WithoutMode.{without_mode}

-- ---- what is found

unless_some : {A : Type 0} (ds : List Diagnostic) (x : Option A) → is_none_told ds ≡ false → unless_told ds x ≡ None
unless_some [] x is = cc
unless_some (d ∷ ds) x is = refl

unless_none : {A : Type 0} (ds : List Diagnostic) (x : Option A) → is_none_told ds ≡ true → unless_told ds x ≡ x
unless_none [] x is = refl
unless_none (d ∷ ds) x is = cc

pub none_found : (g : Ground) (e : ExprTree) (k : Option Known) → k ≡ None → IsNeeded g e k → IsPlainSynonym g e unknown_entry
none_found g e (Some k) is needed = cc
none_found g e None is needed =
    let no_class = unless_some (told_needed g e) (class_of g e) needed in
    let no_value = unless_some (told_needed g e) (constant_of g e) needed in
    record {
      mode = refl;
      class = sym no_class;
      value = ap (option_map scalars_in) (sym no_value);
      fits = subst (λ c. IsTrue (fit_together c (unless_told (told_needed g e) (constant_of g e)))) (sym no_class) (subst (λ v. IsTrue (fit_together None v)) (sym no_value) refl);
      parts = refl;
    }

pub some_found : (g : Ground) (e : ExprTree) (k : Known) (x : Entry) → IsNeeded g e (Some k) → x.mode ≡ None → x.class ≡ k.class → x.value ≡ k.value → x.parts ≡ [] → IsPlainSynonym g e x
some_found g e k x needed mode class same parts =
    let same_class = unless_none (told_needed g e) (class_of g e) needed.0 in
    let same_value = unless_none (told_needed g e) (constant_of g e) needed.0 in
    let known = needed.1.known in
    record {
      mode = ap (option_map (λ m. mode_tree m.value)) mode;
      class = ap (option_map class_tree) class ∙ known.class ∙ sym same_class;
      value = same ∙ known.value ∙ ap (option_map scalars_in) (sym same_value);
      fits = subst (λ c. IsTrue (fit_together c (unless_told (told_needed g e) (constant_of g e)))) (sym same_class) (subst (λ v. IsTrue (fit_together (class_of g e) v)) (sym same_value) known.fits);
      parts = parts;
    }

-- ---- what the table has

abbrev entry_from : Ground → Option written.ModeTree → ExprTree → model.Entry
entry_from g None e = entry_with None (unless_told (told_of_synonym_value g false None e) (class_of g e)) (unless_told (told_of_synonym_value g false None e) (constant_of g e)) []
entry_from g (Some w) e = entry_with (mode_of g false w) (option_map value (mode_of g false w)) (unless_told (told_of_synonym_value g true (mode_of g false w) e) (value_within g (mode_of g false w) e)) []

from_same : (g : Ground) (s : SynonymTree) (m : Option written.ModeTree) → s.mode ≡ m → synonym_entry g s m ≡ entry_from g m s.value
from_same g s None is = ap (λ k. entry_with None (unless_told (told_of_synonym_value g (is_some k) (some_mode_of g k) s.value) (class_of g s.value)) (unless_told (told_of_synonym_value g (is_some k) (some_mode_of g k) s.value) (constant_of g s.value)) []) is
from_same g s (Some w) is = ap (λ k. entry_with (mode_of g false w) (option_map value (mode_of g false w)) (unless_told (told_of_synonym_value g (is_some k) (some_mode_of g k) s.value) (value_within g (mode_of g false w) s.value)) []) is

entry_same : (g : Ground) (s : SynonymTree) (m : Option written.ModeTree) → s.mode ≡ m → synonym_entry g s s.mode ≡ entry_from g m s.value
entry_same g s m is = from_same g s s.mode refl ∙ ap (λ k. entry_from g k s.value) is

pub plain_synonym : (g : Ground) (s : SynonymTree) (x : Entry) → s.mode ≡ None → IsPlainSynonym g s.value x → IsEntryOf g (a_synonym s) x
plain_synonym g s x none is =
    let needed = without_mode g s.value in
    record {
      known = value_tree x None (unless_told (told_needed g s.value) (class_of g s.value)) (unless_told (told_needed g s.value) (constant_of g s.value)) is
          ∙ ap (λ ds. entry_with None (unless_told ds (class_of g s.value)) (unless_told ds (constant_of g s.value)) []) (sym needed)
          ∙ sym (entry_same g s None none);
      safe = synonym_safe s x None (unless_told (told_needed g s.value) (class_of g s.value)) (unless_told (told_needed g s.value) (constant_of g s.value)) is;
    }

pub synonym_with : (g : Ground) (s : SynonymTree) (w : written.ModeTree) (x : Entry) → s.mode ≡ Some w → IsSynonymOf g (mode_of g false w) s.value x → IsEntryOf g (a_synonym s) x
synonym_with g s w x there is = record {
  known = value_tree x (mode_of g false w) (option_map value (mode_of g false w)) (unless_told (told_of_synonym_value g true (mode_of g false w) s.value) (value_within g (mode_of g false w) s.value)) is ∙ sym (entry_same g s (Some w) there);
  safe = synonym_safe s x (mode_of g false w) (option_map value (mode_of g false w)) (unless_told (told_of_synonym_value g true (mode_of g false w) s.value) (value_within g (mode_of g false w) s.value)) is;
}

-- ---- what is told

pub told_plain : (g : Ground) (s : SynonymTree) → s.mode ≡ None → told_of_synonym g s ≡ told_needed g s.value
told_plain g s none = ap (λ k. told_of_synonym_value g (is_some k) (some_mode_of g k) s.value) none ∙ without_mode g s.value

pub told_with : (g : Ground) (s : SynonymTree) (w : written.ModeTree) → s.mode ≡ Some w → told_of_synonym g s ≡ told_of_synonym_value g true (mode_of g false w) s.value
told_with g s w there = ap (λ k. told_of_synonym_value g (is_some k) (some_mode_of g k) s.value) there

pub ruleset synonym_views = (plain_synonym, synonym_with, told_plain, told_with)
