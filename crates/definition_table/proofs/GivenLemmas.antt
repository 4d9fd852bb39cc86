-- Elements and predefined names, and definitions of which nothing is known.
use Rattle.std.proofs.Common.{◌≡◌, ◌<◌, ◌⊎◌, inl, inr, ℕ, zero, suc, true, false, true≢false, List, [], ◌∷◌, ◌++◌, Option, Some, None, map, get_or, length, length-append, refl, sym, ap, ◌∙◌, subst, arith}
use Rattle.std.specs.Prelude.{Bool, is_some, option_map, option_and_then, slice_get, IsSome, IsTrue, ℤ, pos}
use Rattle.chill_tree.specs.declared.tree.name.Name.{Name}
use Rattle.chill_tree.specs.LocalTree.{SynonymTree}
use Rattle.std.proofs.lemmas.Option.{same_Some, slice_get-map}
use Rattle.modes.specs.ModeTree.{ModeTree, ClassTree, class_tree, derived, null, boolean, mode_tree, set_of, named}
use Rattle.checks_model.specs.ValueTrees.{ValueTree, number, scalars_in}
use Rattle.checks_model.specs.OperatorValues.{truth_value}
use Rattle.checks_model.specs.Ground as model
use Rattle.checks_model.specs.Ground.{Ground, Origin, Predefined, of_mode, truth, no_instance, a_synonym, an_element, a_predefined, number_at}
use Rattle.checks_model.specs.Constants.{is_constant_origin, value_of_name}
use Rattle.checks_model.specs.Classes.{class_of_origin}
use Rattle.checks_model.specs.WrittenModes.{set_named}
use Rattle.checks_model.specs.Table.{named_set, set_mode, entry_by}
use Rattle.constant_values.specs.Fits.{fit_together}
use Rattle.constant_operators.specs.declared.evaluation.Entry.{Entry}
use Rattle.constant_operators.specs.Grounds.{entry_tree, ground_of, unknown_entry, is_measured_origin}
use Rattle.constant_operators.specs.declared.evaluation.Evaluation.{Evaluation}
use Rattle.definition_origins.specs.declared.origin.Origin.{Origin as Written}
use Rattle.definition_origins.specs.OriginTrees.{origin_tree, origin_trees}
use Rattle.elaborated_laws.specs.Table.{AreDefined, IsDefinedSo}
use Rattle.definition_table.specs.Entries.{IsSafe, IsEntryOf, IsConstant, IsModeAlone, AreSafe}
use Rattle.definition_table.proofs.EntryLemmas.{entry_with, tree_by, value_there, neither_safe, kept_by, alone_found}

-- ---- the modes of elements

pub set_mode-by : (g : Ground) (ns : List Name) (owner : Option (Name × Bool)) → set_mode g ns owner ≡ option_and_then (named_set g owner) (set_named g ns)
set_mode-by g [] owner = refl
set_mode-by g (n ∷ ns) owner = by (number_at g.defined n.at)
  where
    by : (k : Option ℕ) → option_and_then (λ first. named_set g owner (set_of first (length (n ∷ ns)))) k ≡ option_and_then (named_set g owner) (option_map (λ first. set_of first (length (n ∷ ns))) k)
    by None = refl
    by (Some k) = refl

pub ruleset set_mode_by = (set_mode-by)

-- a number is a value of the mode of a SET
number_fits : (g : Ground) (ns : List Name) (owner : Option (Name × Bool)) (n : ℤ) → IsTrue (is_some (set_mode g ns owner)) → IsTrue (fit_together (option_map derived (set_mode g ns owner)) (Some (number n)))
number_fits g [] owner n is = is
number_fits g (e ∷ es) owner n is = by_first (number_at g.defined e.at) owner is
  where
    by_owner : (o : Name × Bool) (k : Option ℕ) (m : ModeTree) → IsTrue (fit_together (Some (derived m)) (Some (number n))) → IsTrue (is_some (option_map (λ d. named d o.1 m) k)) → IsTrue (fit_together (option_map derived (option_map (λ d. named d o.1 m) k)) (Some (number n)))
    by_owner o None m fits is = is
    by_owner o (Some k) m fits is = fits

    by_first : (k : Option ℕ) (owner : Option (Name × Bool)) → IsTrue (is_some (option_and_then (λ first. named_set g owner (set_of first (length (e ∷ es)))) k))
        → IsTrue (fit_together (option_map derived (option_and_then (λ first. named_set g owner (set_of first (length (e ∷ es)))) k)) (Some (number n)))
    by_first None owner is = is
    by_first (Some k) None is = refl
    by_first (Some k) (Some o) is = by_owner o (number_at g.defined o.0.at) (set_of k (length (e ∷ es))) refl is

constant_tree : (x : Entry) (c : Option ClassTree) (n : ℤ) → IsConstant c n x → IsTrue (fit_together c (Some (number n))) → entry_tree x ≡ entry_with None c (Some (number n)) []
constant_tree x c n is fits =
    tree_by x None c (Some (number n)) [] (ap (option_map (λ m. mode_tree m.value)) is.mode) is.class (value_there x c (Some (number n)) is.class is.value fits) (ap (map (option_map (λ m. mode_tree m.value))) is.parts)

constant_safe : (o : Origin) (x : Entry) (c : Option ClassTree) (n : ℤ) → IsConstant c n x → IsTrue (fit_together c (Some (number n))) → is_measured_origin (Some o) ≡ false
    → class_of_origin (Some (entry_tree x)) (Some o) ≡ c → value_of_name (Some (entry_tree x)) (Some o) ≡ Some (number n) → IsSafe o x
constant_safe o x c n is fits unmeasured class value = record {
  constant = λ yes. kept_by x (class_of_origin (Some (entry_tree x)) (Some o)) (value_of_name (Some (entry_tree x)) (Some o)) c (Some (number n)) class value is.class is.value fits;
  laid = λ yes. absurd (true≢false (sym yes ∙ unmeasured));
  few = λ yes. absurd (true≢false (sym yes ∙ unmeasured));
}

pub element_found : (g : Ground) (ns : List Name) (part : ℕ) (owner : Option (Name × Bool)) (c : Option ClassTree) (n : ℤ) (x : Entry)
    → IsSome (set_mode g ns owner) → c ≡ option_map derived (set_mode g ns owner) → n ≡ pos part → IsConstant c n x → IsEntryOf g (an_element ns part owner) x
element_found g ns part owner c n x there class value is =
    let fits : IsTrue (fit_together c (Some (number n))) = subst (λ k. IsTrue (fit_together k (Some (number n)))) (sym class) (number_fits g ns owner n there) in
    let tree = constant_tree x c n is fits in
    record {
      known = tree ∙ ap (λ k. entry_with None k (Some (number n)) []) class ∙ ap (λ k. entry_with None (option_map derived (set_mode g ns owner)) (Some (number k)) []) value;
      safe = constant_safe (an_element ns part owner) x c n is fits refl is.class (ap (λ k. Some (number k)) (sym value));
    }

-- ---- predefined names

pub truth_found : (g : Ground) (b : Bool) (n : ℤ) (x : Entry) → truth_value b ≡ number n → IsConstant (Some (derived boolean)) n x → IsEntryOf g (a_predefined (truth b)) x
truth_found g b n x same is = record {
  known = constant_tree x (Some (derived boolean)) n is refl ∙ ap (λ v. entry_with None (Some (derived boolean)) (Some v) []) (sym same);
  safe = constant_safe (a_predefined (truth b)) x (Some (derived boolean)) n is refl refl refl (ap Some same);
}

pub instance_found : (g : Ground) (x : Entry) → IsConstant (Some null) (pos 0) x → IsEntryOf g (a_predefined no_instance) x
instance_found g x is = record {
  known = constant_tree x (Some null) (pos 0) is refl;
  safe = constant_safe (a_predefined no_instance) x (Some null) (pos 0) is refl refl refl refl;
}

pub mode_found : (g : Ground) (m : ModeTree) (o : Option ModeTree) (x : Entry) → o ≡ Some m → IsModeAlone o x → IsEntryOf g (a_predefined (of_mode m)) x
mode_found g m o x same is = record { known = is.tree ∙ ap (λ k. entry_with k None None []) same; safe = neither_safe (a_predefined (of_mode m)) x refl refl }

-- ---- nothing is known

pub unknown_found : (g : Ground) (o : Origin) → entry_by g o ≡ entry_with None None None [] → is_constant_origin (Some o) ≡ false → is_measured_origin (Some o) ≡ false → IsEntryOf g o unknown_entry
unknown_found g o same varying unmeasured = record { known = sym same; safe = neither_safe o unknown_entry varying unmeasured }

abbrev pub IsUngiven : Origin → Type 0
IsUngiven o = (class_of_origin (Some (entry_tree unknown_entry)) (Some o) ≡ None) × (value_of_name (Some (entry_tree unknown_entry)) (Some o) ≡ None)

pub unknown_synonym : (s : SynonymTree) → IsSafe (a_synonym s) unknown_entry
unknown_synonym s = record {
  constant = λ yes. record { class = refl; value = refl; fits = refl };
  laid = λ yes. absurd (true≢false (sym yes));
  few = λ yes. absurd (true≢false (sym yes));
}

pub unknown_mode : (o : Origin) → is_constant_origin (Some o) ≡ false → IsSafe o unknown_entry
unknown_mode o varying = record {
  constant = λ yes. absurd (true≢false (sym yes ∙ varying));
  laid = λ yes. λ m is. cc;
  few = λ yes. λ m is. cc;
}

-- ---- entries in a row

got_last : {A : Type 0} (xs : List A) (y : A) (d : ℕ) (x : A) → slice_get (xs ++ y ∷ []) d ≡ Some x → (slice_get xs d ≡ Some x) ⊎ ((d ≡ length xs) × (y ≡ x))
got_last [] y zero x is = inr (refl, same_Some y x is)
got_last [] y (suc d) x is = cc
got_last (z ∷ xs) y zero x is = inl is
got_last (z ∷ xs) y (suc d) x is = elim (got_last xs y d x is) [
  | inl there ↦ inl there
  | inr last ↦ inr (ap suc last.0, last.1)
]

pub safe_pushed : (os : List Origin) (found new : List Entry) (o : Origin) (x : Entry) → new ≡ found ++ x ∷ [] → slice_get os (length found) ≡ Some o → IsSafe o x → AreSafe os found → AreSafe os new
safe_pushed os found new o x pushed at safe each d p y is_o is_x = elim (got_last found x d y (ap (λ (xs : List Entry). slice_get xs d) (sym pushed) ∙ is_x)) [
  | inl there ↦ each d p y is_o there
  | inr last ↦ (
      let same : o ≡ p = same_Some o p (sym at ∙ ap (slice_get os) (sym last.0) ∙ is_o) in
      subst (λ z. IsSafe p z) last.1 (subst (λ q. IsSafe q x) same safe))
]

got_item : {A : Type 0} (xs : List A) (k : ℕ) (x : A) → k < length xs → slice_get xs k ≡ Some (get_or xs k x)
got_item [] k x less = absurd (omega (arith, less))
got_item (y ∷ xs) zero x less = refl
got_item (y ∷ xs) (suc k) x less = got_item xs k x (omega (arith, less))

pub item_there : (items os : List Written) (k n : ℕ) (o : Written) → items ≡ os → k < length items → o ≡ get_or items k o → n ≡ k → slice_get (origin_trees os) n ≡ Some (origin_tree o)
item_there items os k n o same less is at =
    slice_get-map origin_tree os n
    ∙ ap (option_map origin_tree) (ap (λ (xs : List Written). slice_get xs n) (sym same) ∙ ap (slice_get items) at ∙ got_item items k o less ∙ ap Some (sym is))

pub item_defined : (e : Evaluation) (k : ℕ) (o : Written) → AreDefined (ground_of e) → slice_get (origin_trees e.origins) k ≡ Some (origin_tree o) → IsDefinedSo (ground_of e) (origin_tree o)
unfolding ground_of
item_defined e k o defined at = defined k (origin_tree o) at
