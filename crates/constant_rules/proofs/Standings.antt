-- What is told in an expression doesn't depend on where it stands where no mode receives it, nor on the mode where it stands by
-- itself.
use Rattle.std.proofs.Common.{◌≡◌, ℕ, suc, Bool, true, false, List, [], ◌∷◌, ◌++◌, Option, Some, None, refl, ap, sym, ◌∙◌}
use Rattle.std.specs.Prelude.{◌&&◌}
use Rattle.std.proofs.lemmas.List.{append-nil}
use Rattle.chill_base.specs.declared.pos.Pos.{Pos}
use Rattle.chill_tree.specs.declared.tree.name.Name.{Name}
use Rattle.chill_tree.specs.ExprTree.{ExprTree, RangeTree, RangeNodes, whole, character, text, this_instance, paren, receive, start, tuple, uniform, name, apply, field, prefixed, binary, alone, between, no_ranges, more_ranges, place_of}
use Rattle.diagnostics.specs.declared.diagnostic.Diagnostic.{Diagnostic}
use Rattle.diagnostics.specs.declared.rule.Rule.TheVariants as rules
use Rattle.modes.specs.ModeTree.{ModeTree}
use Rattle.modes.specs.Form.{FormTree}
use Rattle.checks_model.specs.Alike.{goes_with}
use Rattle.checks_model.specs.Told.{tell_at, told_if, then_told, holds_of_both}
use Rattle.checks_model.specs.Ground.{Ground, mode_of_name}
use Rattle.checks_model.specs.Classes.{class_as, mode_of_part, shape_fits, uniform_fits}
use Rattle.checks_model.specs.Constants.{constant_as, has_form, have_form}
use Rattle.modes.specs.Bounds.{bounds_of}
use Rattle.checks_model.specs.ConstantRules.{Standing, by_itself, in_a_tuple, in_a_synonym, is_outside, told_as, told_in_range, told_in_ranges, told_part, told_part_range, told_parts, told_tuple, told_uniform, told_of_constants, told_if_constant, standing_of_parts, is_judged}
use Rattle.constant_rules.specs.Walks.{told_in_ends, told_in_all}

pub then_nothing : (xs : List Diagnostic) → then_told xs [] ≡ xs
then_nothing [] = refl
then_nothing (x ∷ xs) = append-nil (x ∷ xs)

both_none : {A B : Type 0} (test : A → B → Bool) (o : Option A) → holds_of_both test o None ≡ false
both_none test None = refl
both_none test (Some x) = refl

-- ---- nothing is told of a tuple that no mode receives

pub part_none : (g : Ground) (e : ExprTree) → told_part g None e ≡ []
part_none g e = ap (λ (b : Bool). told_if (b && holds_of_both (λ v m. is_outside (bounds_of m) v) (constant_as g None e) None) (tell_at rules.M11 (place_of e))) (both_none goes_with (class_as g None e))

pub range_none : (g : Ground) (r : RangeTree) → told_part_range g None r ≡ []
range_none g (alone e) = part_none g e
range_none g (between l h) = ap (λ (xs : List Diagnostic). xs ++ told_part g None h) (part_none g l) ∙ part_none g h

parts_none : (g : Ground) (fits : FormTree → Bool) (k : ℕ) (rs : RangeNodes) → told_parts g fits k None rs ≡ []
parts_none g fits k no_ranges = refl
parts_none g fits k (more_ranges r rs) = ap (λ (xs : List Diagnostic). xs ++ told_parts g fits (suc k) None rs) (range_none g r) ∙ parts_none g fits (suc k) rs

if_constant_nothing : (b : Bool) (own : List Diagnostic) → own ≡ [] → told_if_constant b own ≡ []
if_constant_nothing true own e = e
if_constant_nothing false own e = refl

-- ---- by itself

mutual
  pub alone_anywhere : (g : Ground) (m : Option ModeTree) (e : ExprTree) → told_as g by_itself m e ≡ told_of_constants g e
  alone_anywhere g m (paren at e) = alone_anywhere g m e
  alone_anywhere g m (tuple at None b rs) = ap (λ (xs : List Diagnostic). then_told xs []) (all_alone g (shape_fits rs) 0 m rs ∙ sym (all_alone g (shape_fits rs) 0 None rs))
  alone_anywhere g m (tuple at (Some n) b rs) = refl
  alone_anywhere g m (uniform at None b e) = ap (λ (xs : List Diagnostic). then_told xs []) (alone_anywhere g (mode_of_part uniform_fits 0 m) e ∙ sym (alone_anywhere g None e))
  alone_anywhere g m (uniform at (Some n) b e) = refl
  alone_anywhere g m (whole at n) = refl
  alone_anywhere g m (character at n) = refl
  alone_anywhere g m (text at n) = refl
  alone_anywhere g m (this_instance at) = refl
  alone_anywhere g m (receive at n) = refl
  alone_anywhere g m (start at n es) = refl
  alone_anywhere g m (name n) = refl
  alone_anywhere g m (apply at e es) = refl
  alone_anywhere g m (field at e n) = refl
  alone_anywhere g m (prefixed at o e) = refl
  alone_anywhere g m (binary at l o p r) = refl

  pub all_alone : (g : Ground) (fits : FormTree → Bool) (k : ℕ) (m : Option ModeTree) (rs : RangeNodes) → told_in_ranges g by_itself fits k m rs ≡ told_in_all g rs
  all_alone g fits k m no_ranges = refl
  all_alone g fits k m (more_ranges r rs) =
      ap (λ (xs : List Diagnostic). xs ++ told_in_ranges g by_itself fits (suc k) m rs) (range_alone g (mode_of_part fits k m) r) ∙ ap (λ (xs : List Diagnostic). told_in_ends g r ++ xs) (all_alone g fits (suc k) m rs)

  pub range_alone : (g : Ground) (m : Option ModeTree) (r : RangeTree) → told_in_range g by_itself m r ≡ told_in_ends g r
  range_alone g m (alone e) = alone_anywhere g m e
  range_alone g m (between l h) =
      ap (λ (xs : List Diagnostic). xs ++ told_as g by_itself m h) (alone_anywhere g m l) ∙ ap (λ (xs : List Diagnostic). told_of_constants g l ++ xs) (alone_anywhere g m h)

-- ---- without a mode

mutual
  pub without_mode : (g : Ground) (s : Standing) (e : ExprTree) → told_as g s None e ≡ told_of_constants g e
  without_mode g s (paren at e) = without_mode g s e
  without_mode g s (tuple at None b rs) =
      ap (λ (own : List Diagnostic). then_told (told_in_ranges g (standing_of_parts s None (have_form g rs)) (shape_fits rs) 0 None rs) own)
      (if_constant_nothing (is_judged s None (have_form g rs)) (told_tuple g None rs b) (parts_none g (shape_fits rs) 0 rs))
      ∙ ap (λ (xs : List Diagnostic). then_told xs []) (all_without g (standing_of_parts s None (have_form g rs)) (shape_fits rs) 0 rs ∙ sym (all_alone g (shape_fits rs) 0 None rs))
  without_mode g by_itself (tuple at (Some n) b rs) = refl
  without_mode g in_a_tuple (tuple at (Some n) b rs) = refl
  without_mode g in_a_synonym (tuple at (Some n) b rs) = refl
  without_mode g s (uniform at None b e) =
      ap (λ (own : List Diagnostic). then_told (told_as g (standing_of_parts s None (has_form g true e)) None e) own)
      (if_constant_nothing (is_judged s None (has_form g true e)) (told_uniform g None e b) (part_none g e))
      ∙ ap (λ (xs : List Diagnostic). then_told xs []) (without_mode g (standing_of_parts s None (has_form g true e)) e)
  without_mode g by_itself (uniform at (Some n) b e) = refl
  without_mode g in_a_tuple (uniform at (Some n) b e) = refl
  without_mode g in_a_synonym (uniform at (Some n) b e) = refl
  without_mode g s (whole at n) = refl
  without_mode g s (character at n) = refl
  without_mode g s (text at n) = refl
  without_mode g s (this_instance at) = refl
  without_mode g s (receive at n) = refl
  without_mode g s (start at n es) = refl
  without_mode g s (name n) = refl
  without_mode g s (apply at e es) = refl
  without_mode g s (field at e n) = refl
  without_mode g s (prefixed at o e) = refl
  without_mode g s (binary at l o p r) = refl

  pub all_without : (g : Ground) (s : Standing) (fits : FormTree → Bool) (k : ℕ) (rs : RangeNodes) → told_in_ranges g s fits k None rs ≡ told_in_all g rs
  all_without g s fits k no_ranges = refl
  all_without g s fits k (more_ranges r rs) =
      ap (λ (xs : List Diagnostic). xs ++ told_in_ranges g s fits (suc k) None rs) (range_without g s r) ∙ ap (λ (xs : List Diagnostic). told_in_ends g r ++ xs) (all_without g s fits (suc k) rs)

  pub range_without : (g : Ground) (s : Standing) (r : RangeTree) → told_in_range g s None r ≡ told_in_ends g r
  range_without g s (alone e) = without_mode g s e
  range_without g s (between l h) =
      ap (λ (xs : List Diagnostic). xs ++ told_as g s None h) (without_mode g s l) ∙ ap (λ (xs : List Diagnostic). told_of_constants g l ++ xs) (without_mode g s h)

-- ---- a tuple that isn't constant

pub unnamed_alone : (g : Ground) (at b : Pos) (rs : RangeNodes) → told_of_constants g (tuple at None b rs) ≡ told_in_all g rs
unnamed_alone g at b rs = then_nothing (told_in_ranges g by_itself (shape_fits rs) 0 None rs) ∙ all_alone g (shape_fits rs) 0 None rs

pub varying_tuple : (g : Ground) (at : Pos) (n : Name) (b : Pos) (rs : RangeNodes) → have_form g rs ≡ false → told_of_constants g (tuple at (Some n) b rs) ≡ told_in_all g rs
varying_tuple g at n b rs h =
    ap (λ (f : Bool). then_told (told_in_ranges g (standing_of_parts by_itself (Some n) f) (shape_fits rs) 0 (mode_of_name g n) rs)
    (told_if_constant (is_judged by_itself (Some n) f) (told_tuple g (mode_of_name g n) rs b))) h
    ∙ then_nothing (told_in_ranges g by_itself (shape_fits rs) 0 (mode_of_name g n) rs) ∙ all_alone g (shape_fits rs) 0 (mode_of_name g n) rs

pub uniform_alone : (g : Ground) (at b : Pos) (e : ExprTree) → told_of_constants g (uniform at None b e) ≡ told_of_constants g e
uniform_alone g at b e = then_nothing (told_of_constants g e)

pub varying_uniform : (g : Ground) (at : Pos) (n : Name) (b : Pos) (e : ExprTree) → has_form g true e ≡ false → told_of_constants g (uniform at (Some n) b e) ≡ told_of_constants g e
varying_uniform g at n b e h =
    ap (λ (f : Bool). then_told (told_as g (standing_of_parts by_itself (Some n) f) (mode_of_part uniform_fits 0 (mode_of_name g n)) e)
    (told_if_constant (is_judged by_itself (Some n) f) (told_uniform g (mode_of_name g n) e b))) h
    ∙ then_nothing (told_as g by_itself (mode_of_part uniform_fits 0 (mode_of_name g n)) e) ∙ alone_anywhere g (mode_of_part uniform_fits 0 (mode_of_name g n)) e
