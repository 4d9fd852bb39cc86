-- Whether a known value lies outside a mode with which its class goes.
use Rattle.std.proofs.Common.{◌≡◌, ℕ, zero, suc, Bool, true, false, List, [], ◌∷◌, Option, Some, None, ℤ, int_le, refl, ap, sym, ◌∙◌}
use Rattle.std.specs.Prelude.{◌&&◌, not, IsTrue, IsFalse, is_some, slice_get, option_map, option_and_then}
use Rattle.std.proofs.lemmas.Option.{same_Some}
use Rattle.modes.specs.declared.mode.Bounds.{Bounds}
use Rattle.modes.specs.ModeTree.{ModeTree, ClassTree}
use Rattle.modes.specs.Bounds.{bounds_of}
use Rattle.modes.specs.Similar.{Shape, shape_of}
use Rattle.checks_model.specs.TestLaws.{GoesWithTestLaw}
use Rattle.checks_model.specs.Alike.{goes_with}
use Rattle.checks_model.specs.Told.{holds_of}
use Rattle.checks_model.specs.ValueTrees.{ValueTree, number, members, parts, scalars_in}
use Rattle.checks_model.specs.ConstantRules.{is_outside}
use Rattle.constant_values.specs.Fits.{fits_class, fit_together}
use Rattle.constant_values.proofs.ShapeValues.{goes_shape}
use Rattle.constant_values.proofs.OperandValues.{fits_as, discrete_shape, IsOneNumber, number_of}
use Rattle.constant_operators.specs.declared.known.Known.{Known}
use Rattle.constant_operators.specs.Known.{IsKnown}

abbrev pub first_of : Option (List ℤ) → Option ℤ
first_of flat = option_and_then (λ flat. slice_get flat 0) flat

pub no_bounds : (v : Option ValueTree) (b : Option Bounds) → b ≡ None → holds_of (is_outside b) v ≡ false
no_bounds None b e = refl
no_bounds (Some v) None e = refl
no_bounds (Some v) (Some b) e = absurd (cc)

none_outside : (w : ValueTree) (b : Option Bounds) → slice_get (scalars_in w) 0 ≡ None → is_outside b w ≡ false
none_outside w None e = refl
none_outside (number n) (Some b) e = absurd (cc)
none_outside (members bs) (Some b) e = refl
none_outside (parts vs) (Some b) e = refl

pub no_number : (v : Option ValueTree) (b : Option Bounds) (flat : Option (List ℤ)) → flat ≡ option_map scalars_in v → first_of flat ≡ None → holds_of (is_outside b) v ≡ false
no_number None b flat e n = refl
no_number (Some w) b flat e n = none_outside w b (ap first_of (sym e) ∙ n)

goes_true : (b : Bool) → IsFalse (not b) → IsTrue b
goes_true true e = refl
goes_true false e = absurd (cc)

one_outside : (w : ValueTree) (b : Bounds) (n : ℤ) → IsOneNumber w → slice_get (scalars_in w) 0 ≡ Some n → is_outside (Some b) w ≡ not (int_le b.low n && int_le n b.high)
one_outside w b n one e =
    let same : one.n ≡ n = same_Some one.n n (ap (λ (x : ValueTree). slice_get (scalars_in x) 0) (sym one.is) ∙ e) in
    ap (is_outside (Some b)) one.is ∙ ap (λ (x : ℤ). not (int_le b.low x && int_le x b.high)) same

class_outside : (law : GoesWithTestLaw) (c : ClassTree) (w : ValueTree) (m : ModeTree) (b : Bounds) (n : ℤ) → IsTrue (fits_class c w) → IsTrue (goes_with c m) → bounds_of m ≡ Some b → slice_get (scalars_in w) 0 ≡ Some n
    → is_outside (bounds_of m) w ≡ not (int_le b.low n && int_le n b.high)
class_outside law c w m b n fits goes e f =
    let takes = discrete_shape m (ap is_some e) in
    let one = number_of (shape_of m) w takes (fits_as c (Some (shape_of m)) w (goes_shape c m ((law c m).0 goes)) fits) in
    ap (λ (o : Option Bounds). is_outside o w) e ∙ one_outside w b n one f

pub outside : (law : GoesWithTestLaw) (c : Option ClassTree) (v : Option ValueTree) (k : Known) (m : ModeTree) (b : Bounds) (n : ℤ) → IsKnown c v k → IsFalse (holds_of (λ c. not (goes_with c m)) c)
    → bounds_of m ≡ Some b → first_of k.value ≡ Some n → holds_of (is_outside (bounds_of m)) v ≡ not (int_le b.low n && int_le n b.high)
outside law c None k m b n i goes e f = absurd (let none : first_of k.value ≡ None = ap first_of i.value in cc)
outside law None (Some w) k m b n i goes e f = absurd (let fits = i.fits in cc)
outside law (Some c) (Some w) k m b n i goes e f = class_outside law c w m b n i.fits (goes_true (goes_with c m) goes) e (ap first_of (sym i.value) ∙ f)
