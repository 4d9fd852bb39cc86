-- Modes of classes: what is elaborated by a class of values has a mode, and classes that go together have similar ones.
use Rattle.std.proofs.Common.{◌≡◌, ℕ, Bool, true, false, ◌&&◌, Option, Some, None, refl, sym, ap, ◌∙◌, subst, arith, eqb-true, true≢false}
use Rattle.std.specs.Prelude.{not}
use Rattle.modes.specs.ModeTree.{ModeTree, ClassTree, value, derived, null, nothing, instance, event, buffer, int, boolean, char, set_of, range, powerset, chars, array, structure, read, named}
use Rattle.modes.specs.Form.{FormTree, form_of, of_instance}
use Rattle.modes.specs.Roots.{root_of, novelty_of}
use Rattle.modes.specs.Bounds.{bounds_of}
use Rattle.modes.specs.Scalars.{scalars_of}
use Rattle.modes.specs.Language.{IsOfLanguage}
use Rattle.modes.specs.Similar.{Similar, VEquivalent, Shape, shape_of, has_values, like_instance}
use Rattle.checks_model.specs.Alike.{is_instance, is_meeting, mode_in, class_is, are_similar, are_v_equivalent, same_number, goes_with, are_compatible}
use Rattle.checks_model.specs.Operations.{form_in}
use Rattle.program_trees.specs.ExprTree as made
use Rattle.elaboration_model.specs.Expressions.{count_in}
use Rattle.elaborated_laws.specs.Known.{IsDeclarable}
use Rattle.elaborated_laws.specs.Classes.{HasDeclarable}
use Rattle.elaborated_laws.proofs.Told.{both_left, both_right, no_some, same_some}
use Rattle.expression_laws.specs.Names.{is_of_values}
use Rattle.constant_laws.specs.Values.{IsOfMode, FitsClass}
use Rattle.constant_laws.proofs.Same.{are_alike}
use Rattle.constant_laws.proofs.Shapes.{goes_shape, compatible_shapes}
use Rattle.constant_laws.proofs.Routines.{valued_language}
use Rattle.checks_model.specs.ValueTrees.{ValueTree}
use Rattle.typed_laws.specs.Typed.{mode_for}

-- what is made of a class of values
pub record ModeOf (c : ClassTree) : Type 0 where
  pub mode : ModeTree
  pub of : mode_for c ≡ Some mode
  pub fits : IsOfLanguage mode
  pub count : count_in c ≡ scalars_of mode
  pub bounds : made.root_bounds c ≡ bounds_of (root_of mode)
  pub declarable : IsDeclarable mode

instance_language : IsOfLanguage instance
instance_language = record { parts = refl; size = omega arith }

pub mode_of_class : (c : ClassTree) → HasDeclarable c → is_of_values c ≡ true → ModeOf c
mode_of_class (value m) fits valued = record { mode = m; of = refl; fits = valued_language m fits valued; count = refl; bounds = refl; declarable = fits }
mode_of_class (derived m) fits valued = record { mode = m; of = refl; fits = valued_language m fits valued; count = refl; bounds = refl; declarable = fits }
mode_of_class null fits valued = record { mode = instance; of = refl; fits = instance_language; count = refl; bounds = refl; declarable = instance_language }
mode_of_class nothing fits valued = absurd (true≢false (sym valued))

pub value_of_class : (c : ClassTree) (m : ModeTree) (v : ValueTree) → mode_for c ≡ Some m → FitsClass c v → IsOfMode m v
value_of_class (value k) m v is fits = subst (λ x. IsOfMode x v) (same_some k m is) fits
value_of_class (derived k) m v is fits = subst (λ x. IsOfMode x v) (same_some k m is) fits
value_of_class null m v is fits = subst (λ x. IsOfMode x v) (same_some instance m is) fits
value_of_class nothing m v is fits = no_some m is

pub mode_for_in : (c : ClassTree) (m : ModeTree) → mode_in c ≡ Some m → mode_for c ≡ Some m
mode_for_in (value k) m is = is
mode_for_in (derived k) m is = is
mode_for_in null m is = no_some m is
mode_for_in nothing m is = no_some m is

-- of a class that passes a test of its form
pub tested_form : (test : FormTree → Bool) (c : ClassTree) (m : ModeTree) → mode_for c ≡ Some m → class_is test c ≡ true → test (form_of m) ≡ true
tested_form test (value k) m is holds = subst (λ x. test (form_of x) ≡ true) (same_some k m is) holds
tested_form test (derived k) m is holds = subst (λ x. test (form_of x) ≡ true) (same_some k m is) holds
tested_form test null m is holds = absurd (true≢false (sym holds))
tested_form test nothing m is holds = no_some m is

pub its_form : (c : ClassTree) (m : ModeTree) (f : FormTree) → mode_for c ≡ Some m → form_in c ≡ Some f → form_of m ≡ f
its_form (value k) m f is form = ap form_of (sym (same_some k m is)) ∙ same_some (form_of k) f form
its_form (derived k) m f is form = ap form_of (sym (same_some k m is)) ∙ same_some (form_of k) f form
its_form null m f is form = no_some f form
its_form nothing m f is form = no_some f form

pub its_mode : (c : ClassTree) (m k : ModeTree) → mode_for c ≡ Some m → mode_in c ≡ Some k → k ≡ m
its_mode c m k is own = same_some k m (sym (mode_for_in c k own) ∙ is)

pub declared_mode : (c : ClassTree) (m : ModeTree) → HasDeclarable c → mode_for c ≡ Some m → IsDeclarable m
declared_mode (value k) m fits is = subst IsDeclarable (same_some k m is) fits
declared_mode (derived k) m fits is = subst IsDeclarable (same_some k m is) fits
declared_mode null m fits is = subst IsDeclarable (same_some instance m is) instance_language
declared_mode nothing m fits is = no_some m is

-- ---- similar modes

instance_form : (f : FormTree) → is_instance f ≡ true → f ≡ of_instance
instance_form of_instance is = refl
instance_form f is = absurd (true≢false (sym is))

equivalent_alike : (a b : ModeTree) → are_v_equivalent a b ≡ true → Similar a b
equivalent_alike a b same = are_alike a b (both_left (are_similar a b) (same_number (novelty_of a) (novelty_of b)) same)

instance_second : (a : ModeTree) → is_instance (form_of a) ≡ true → Similar a instance
instance_second a is = let same = compatible_shapes (value a) null is in record { shape = same; values = ap has_values same }

instance_first : (a : ModeTree) → is_instance (form_of a) ≡ true → Similar instance a
instance_first a is = record { shape = compatible_shapes null (value a) is; values = refl }

pub compatible_alike : (l r : ClassTree) (a b : ModeTree) → mode_for l ≡ Some a → mode_for r ≡ Some b → are_compatible l r ≡ true → Similar a b
compatible_alike l r a b left right same = by l r same left right
  where
    by : (l r : ClassTree) → are_compatible l r ≡ true → mode_for l ≡ Some a → mode_for r ≡ Some b → Similar a b
    by (value x) (value y) same left right = subst (λ p. Similar p b) (same_some x a left) (subst (λ q. Similar x q) (same_some y b right) (equivalent_alike x y same))
    by (value x) (derived y) same left right = subst (λ p. Similar p b) (same_some x a left) (subst (λ q. Similar x q) (same_some y b right) (are_alike x y same))
    by (derived x) (value y) same left right = subst (λ p. Similar p b) (same_some x a left) (subst (λ q. Similar x q) (same_some y b right) (are_alike x y same))
    by (derived x) (derived y) same left right = subst (λ p. Similar p b) (same_some x a left) (subst (λ q. Similar x q) (same_some y b right) (are_alike x y same))
    by (value x) null same left right = subst (λ p. Similar p b) (same_some x a left) (subst (λ q. Similar x q) (same_some instance b right) (instance_second x same))
    by (derived x) null same left right = subst (λ p. Similar p b) (same_some x a left) (subst (λ q. Similar x q) (same_some instance b right) (instance_second x same))
    by null (value y) same left right = subst (λ p. Similar p b) (same_some instance a left) (subst (λ q. Similar instance q) (same_some y b right) (instance_first y same))
    by null (derived y) same left right = subst (λ p. Similar p b) (same_some instance a left) (subst (λ q. Similar instance q) (same_some y b right) (instance_first y same))
    by null null same left right = subst (λ p. Similar p b) (same_some instance a left) (subst (λ q. Similar instance q) (same_some instance b right) (instance_first instance refl))
    by (value x) nothing same left right = absurd (true≢false (sym same))
    by (derived x) nothing same left right = absurd (true≢false (sym same))
    by null nothing same left right = absurd (true≢false (sym same))
    by nothing r same left right = absurd (true≢false (sym same))

pub goes_alike : (c : ClassTree) (own m : ModeTree) → mode_for c ≡ Some own → goes_with c m ≡ true → Similar own m
goes_alike (value k) own m is goes = subst (λ x. Similar x m) (same_some k own is) (equivalent_alike k m goes)
goes_alike (derived k) own m is goes = subst (λ x. Similar x m) (same_some k own is) (are_alike k m goes)
goes_alike null own m is goes = subst (λ x. Similar x m) (same_some instance own is) (instance_first m goes)
goes_alike nothing own m is goes = no_some own is

same_numbers : (a b : Option ℕ) → same_number a b ≡ true → a ≡ b
same_numbers None None same = refl
same_numbers (Some a) (Some b) same = ap Some (eqb-true a b same)
same_numbers a b same = absurd (true≢false (sym same))

-- a location that is given back
pub equivalent_modes : (a b : ModeTree) → are_v_equivalent a b ≡ true → VEquivalent a b
equivalent_modes a b same = record { similar = equivalent_alike a b same; novelty = same_numbers (novelty_of a) (novelty_of b) (both_right (are_similar a b) (same_number (novelty_of a) (novelty_of b)) same) }
