-- What is told of a synonym without a written mode is told where a constant is needed: M12 asks for its mode.
use Rattle.std.proofs.Common.{◌≡◌, ◌++◌, ℕ, suc, Bool, true, false, ◌||◌, not, List, [], ◌∷◌, Option, Some, None, refl, ap, ◌∙◌, append-nil}
use Rattle.chill_tree.specs.ExprTree.{ExprTree, RangeTree, RangeNodes, whole, character, text, this_instance, paren, receive, start, tuple, uniform, name, apply, field, prefixed, binary, alone, between, no_ranges, more_ranges, place_of}
use Rattle.chill_tree.specs.LocalTree.{SynonymTree}
use Rattle.modes.specs.ModeTree.{ModeTree, ClassTree}
use Rattle.modes.specs.Form.{FormTree}
use Rattle.diagnostics.specs.declared.diagnostic.Diagnostic.{Diagnostic}
use Rattle.diagnostics.specs.declared.rule.Rule.TheVariants as rules
use Rattle.checks_model.specs.Ground.{Ground}
use Rattle.checks_model.specs.ValueTrees.{ValueTree}
use Rattle.checks_model.specs.Told.{tell_at, told_if, then_told, is_none_told, holds_of_both}
use Rattle.checks_model.specs.Alike.{goes_with}
use Rattle.checks_model.specs.Classes.{class_as, shape_fits, uniform_fits, mode_of_part, part_mode}
use Rattle.checks_model.specs.Constants.{constant_as}
use Rattle.checks_model.specs.ConstantRules.{class_misfits, value_misfits, misfits_as, some_misfits, one_misfits, told_needed, told_of_synonym_value, is_outside}

none_of_both : {A B : Type 0} (test : A → B → Bool) (x : Option A) → holds_of_both test x None ≡ false
none_of_both test None = refl
none_of_both test (Some x) = refl

own_fits : (g : Ground) (e : ExprTree) → (class_misfits g None e || value_misfits g None e) ≡ false
own_fits g e =
    let class : class_misfits g None e ≡ false = none_of_both (λ c m. not (goes_with c m)) (class_as g None e) in
    let value : holds_of_both goes_with (class_as g None e) None ≡ false = none_of_both goes_with (class_as g None e) in
    rw (class, value) refl

mutual
  none_misfits : (g : Ground) (e : ExprTree) → misfits_as g None e ≡ false
  none_misfits g (paren at e) = none_misfits g e
  none_misfits g (tuple at None b rs) = some_fit g (shape_fits rs) 0 rs
  none_misfits g (tuple at (Some n) b rs) = own_fits g (tuple at (Some n) b rs)
  none_misfits g (uniform at None b e) = none_misfits g e
  none_misfits g (uniform at (Some n) b e) = own_fits g (uniform at (Some n) b e)
  none_misfits g (whole at n) = own_fits g (whole at n)
  none_misfits g (character at n) = own_fits g (character at n)
  none_misfits g (text at bs) = own_fits g (text at bs)
  none_misfits g (this_instance at) = own_fits g (this_instance at)
  none_misfits g (receive at n) = own_fits g (receive at n)
  none_misfits g (start at n es) = own_fits g (start at n es)
  none_misfits g (name n) = own_fits g (name n)
  none_misfits g (apply at e es) = own_fits g (apply at e es)
  none_misfits g (field at e n) = own_fits g (field at e n)
  none_misfits g (prefixed at o e) = own_fits g (prefixed at o e)
  none_misfits g (binary at l o p r) = own_fits g (binary at l o p r)

  some_fit : (g : Ground) (fits : FormTree → Bool) (k : ℕ) (rs : RangeNodes) → some_misfits g fits k None rs ≡ false
  some_fit g fits k no_ranges = refl
  some_fit g fits k (more_ranges r rs) = ap (λ b. b || some_misfits g fits (suc k) None rs) (one_fits g r) ∙ some_fit g fits (suc k) rs

  one_fits : (g : Ground) (r : RangeTree) → one_misfits g None r ≡ false
  one_fits g (alone e) = none_misfits g e
  one_fits g (between l h) = ap (λ b. b || misfits_as g None h) (none_misfits g l) ∙ none_misfits g h

then_none : (ds : List Diagnostic) → then_told ds [] ≡ ds
then_none [] = refl
then_none (d ∷ ds) = append-nil (d ∷ ds)

pub without_mode : (g : Ground) (e : ExprTree) → told_of_synonym_value g false None e ≡ told_needed g e
without_mode g e = ap (λ b. then_told (told_needed g e) (told_if b (tell_at rules.M12 (place_of e)))) (none_misfits g e) ∙ then_none (told_needed g e)
