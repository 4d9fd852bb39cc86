-- Whether what is known of a priority is outside its limits.
use Rattle.std.proofs.Common.{◌≡◌, Bool, true, false, List, Option, Some, None, ℤ, refl, ap, sym, ◌∙◌}
use Rattle.std.specs.Prelude.{◌||◌, not, IsTrue, slice_get, option_map, option_and_then}
use Rattle.modes.specs.ModeTree.{ModeTree, ClassTree, class_tree, int}
use Rattle.modes.specs.Similar.{shape_of}
use Rattle.checks_model.specs.TestLaws.{GoesWithTestLaw}
use Rattle.checks_model.specs.Alike.{goes_with}
use Rattle.checks_model.specs.Told.{holds_of}
use Rattle.checks_model.specs.ValueTrees.{ValueTree, scalars_in}
use Rattle.checks_model.specs.ProcessRules.{is_priority}
use Rattle.constant_values.specs.Fits.{fits_class}
use Rattle.constant_values.proofs.ShapeValues.{goes_shape}
use Rattle.constant_values.proofs.OperandValues.{fits_as, discrete_shape, IsOneNumber, number_of}
use Rattle.constant_operators.specs.declared.known.Known.{Known}
use Rattle.constant_operators.specs.Known.{IsKnown}
use Rattle.process_checks.specs.Waiting.{misfits_as_priority, is_outside_limits}

abbrev first_of : Option (List ℤ) → Option ℤ
first_of flat = option_and_then (λ flat. slice_get flat 0) flat

one_outside : (w : ValueTree) → IsOneNumber w → is_outside_limits (slice_get (scalars_in w) 0) ≡ not (is_priority w)
one_outside w one = ap (λ (x : ValueTree). is_outside_limits (slice_get (scalars_in x) 0)) one.is ∙ ap (λ (x : ValueTree). not (is_priority x)) (sym one.is)

by_class : (law : GoesWithTestLaw) (c : ClassTree) (w : ValueTree) (b : Bool) → goes_with c int ≡ b → IsTrue (fits_class c w) → (not b || is_outside_limits (slice_get (scalars_in w) 0)) ≡ (not b || not (is_priority w))
by_class law c w false e fits = refl
by_class law c w true e fits = one_outside w (number_of (shape_of int) w (discrete_shape int refl) (fits_as c (Some (shape_of int)) w (goes_shape c int ((law c int).0 e)) fits))

-- the first scalar of what is known of a class and a value says what the value says
pub outside_limits : (law : GoesWithTestLaw) (c : Option ClassTree) (v : Option ValueTree) (k : Known) → IsKnown c v k → (holds_of (λ c. not (goes_with c int)) c || is_outside_limits (first_of k.value)) ≡ misfits_as_priority c v
outside_limits law c None k i = ap (λ flat. holds_of (λ c. not (goes_with c int)) c || is_outside_limits (first_of flat)) i.value
outside_limits law None (Some w) k i = absurd (let fits = i.fits in cc)
outside_limits law (Some c) (Some w) k i = ap (λ flat. not (goes_with c int) || is_outside_limits (first_of flat)) i.value ∙ by_class law c w (goes_with c int) refl i.fits

-- the same where the class goes with INT, by what the tests of the code answer
pub within : (law : GoesWithTestLaw) (c : Option ClassTree) (v : Option ValueTree) (k : Known) (m : ModeTree) (misfits out : Bool) → m ≡ int → IsKnown c v k → misfits ≡ holds_of (λ c. not (goes_with c m)) (option_map class_tree k.class) → misfits ≡ false
    → out ≡ is_outside_limits (first_of k.value) → out ≡ misfits_as_priority c v
within law c v k m misfits out whole i is goes e =
    let same : misfits ≡ holds_of (λ c. not (goes_with c int)) c = is ∙ ap (λ (m : ModeTree). holds_of (λ c. not (goes_with c m)) (option_map class_tree k.class)) whole ∙ ap (holds_of (λ c. not (goes_with c int))) i.class in
    e ∙ ap (λ b. b || is_outside_limits (first_of k.value)) (sym goes ∙ same) ∙ outside_limits law c v k i

pub ruleset limits = (within)
