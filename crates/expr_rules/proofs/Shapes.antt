-- The shapes of tuples.
use Rattle.std.proofs.Common.{◌≡◌, ◌++◌, ℕ, zero, suc, List, [], ◌∷◌, refl, ap, sym, ◌∙◌, Option, Some, None, add-one}
use Rattle.std.specs.Prelude.{Bool, true, false, ◌&&◌, not, if◌then◌else◌, option_map, option_and_then, map, slice_get, length}
use Rattle.chill_tree.specs.ExprTree.{RangeTree, RangeNodes, no_ranges, more_ranges, alone, between, range_nodes, range_trees, range_of}
use Rattle.chill_tree.specs.declared.tree.expr.ValueRange.{ValueRange}
use Rattle.modes.specs.ModeTree.{ModeTree, ClassTree, FieldTree, FieldNodes, field_nodes, value}
use Rattle.modes.specs.Form.{FormTree, form_of}
use Rattle.checks_model.specs.Told.{holds_of}
use Rattle.checks_model.specs.Ground.{Ground}
use Rattle.checks_model.specs.Operations.{when}
use Rattle.checks_model.specs.Classes.{count_ranges, count_fields, field_mode_at, value_if}
use Rattle.checks_model.specs.ValueRules.{Receiver, nothing_asked, of_mode, passed_back, condition, selector, bound, set_of_members, received_mode, shape_misfits}

pub ranges-counted : (rs : List RangeTree) → count_ranges (range_nodes rs) ≡ length rs
ranges-counted [] = refl
ranges-counted (r ∷ rs) = ap suc (ranges-counted rs)

pub fields-counted : (fs : List FieldTree) → count_fields (field_nodes fs) ≡ length fs
fields-counted [] = refl
fields-counted (f ∷ fs) = ap suc (fields-counted fs)

pub field-found : (k : ℕ) (fs : List FieldTree) → field_mode_at k (field_nodes fs) ≡ option_map (λ f. f.mode) (slice_get fs k)
field-found k [] = refl
field-found zero (f ∷ fs) = refl
field-found (suc k) (f ∷ fs) = field-found k fs

fits_known : (fits : FormTree → Bool) (m : ModeTree) (b : Bool) → fits (form_of m) ≡ b → not b ≡ false → value_if fits m ≡ Some (value m)
fits_known fits m true e h = ap (λ b. when b (value m)) e
fits_known fits m false e h = cc

-- a tuple that has the form of its mode has the class of it
pub shaped-class : (fits : FormTree → Bool) (r : Receiver) → shape_misfits fits None r (received_mode r) ≡ false → option_and_then (value_if fits) (received_mode r) ≡ option_map value (received_mode r)
shaped-class fits (of_mode None) h = refl
shaped-class fits (of_mode (Some m)) h = fits_known fits m (fits (form_of m)) refl h
shaped-class fits nothing_asked h = refl
shaped-class fits (passed_back m) h = refl
shaped-class fits condition h = refl
shaped-class fits selector h = refl
shaped-class fits bound h = refl
shaped-class fits set_of_members h = refl

pub ruleset shapes = (ranges-counted, fields-counted, shaped-class)

pub ruleset ranges = (ranges-counted)

pub ruleset fields = (field-found)
