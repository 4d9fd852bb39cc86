-- What UPPER, LOWER and SIZE measure, and what they give.
use Rattle.std.proofs.Common.{◌≡◌, ℕ, Bool, true, false, List, [], ◌∷◌, Option, Some, None, ℤ, pos, refl, ap, sym, ◌∙◌, subst, ◌⊎◌, inl, inr}
use Rattle.std.specs.Prelude.{not, IsTrue, IsFalse, is_some, option_map}
use Rattle.chill_base.specs.declared.layout.Bits.{Bits}
use Rattle.modes.specs.declared.mode.Bounds.{Bounds}
use Rattle.modes.specs.ModeTree.{ModeTree, ClassTree, derived, int}
use Rattle.modes.specs.Form.{FormTree, form_of}
use Rattle.modes.specs.Bounds.{bounds_of}
use Rattle.layout_map.specs.Spots.{spots_of, words_of}
use Rattle.layout_map.specs.Outcome.{Outcome, spots, overlap, impossible, outcome_of}
use Rattle.checks_model.specs.Alike.{is_meeting}
use Rattle.checks_model.specs.ValueTrees.{ValueTree, number, scalars_in}
use Rattle.checks_model.specs.Ground.{Entry, Predefined, a_predefined, of_mode, truth, no_instance, num, succ, pred, abs, card, min, max, upper, lower, size, put_int, put_text, put_nl, get_int}
use Rattle.checks_model.specs.Operations.{when, is_measuring, measured_mode, class_of_measure}
use Rattle.checks_model.specs.OperatorValues.{value_of_measure}
use Rattle.checks_model.specs.Classes.{Measured, a_mode_of, misfit, other, measured_part, measured_name}
use Rattle.checks_model.specs.Constants.{is_measured}
use Rattle.class_operators.specs.Predefined.{predefined_tree}
use Rattle.class_operators.specs.declared.predefined.Predefined as rust
use Rattle.class_operators.specs.declared.predefined.Predefined.TheVariants as predefined
use Rattle.constant_values.specs.Fits.{fits_class}
use Rattle.constant_values.proofs.ShapeValues.{class_fits_shape}
use Rattle.constant_values.proofs.OperandValues.{discrete_shape}
use Rattle.constant_operators.specs.Grounds.{mode_of_predefined}
use Rattle.constant_operators.specs.Laid.{is_laid}
use Rattle.constant_operators.specs.Known.{Holds, IsKnown, IsKnownConstant, IsMeasure}
use Rattle.constant_operators.specs.Measures.{or_misfit, or_other, measured_bound}
use Rattle.constant_operators.specs.declared.known.Known.{Known}
use Rattle.constant_operators.proofs.Laying.{laid_outcome}

-- ---- parts

part_by : (part : FormTree → Option ModeTree) (m : ModeTree) (o : Option ModeTree) → part (form_of m) ≡ o → measured_part part (a_mode_of (Some m)) ≡ or_misfit o
part_by part m None e = rw e refl
part_by part m (Some p) e = rw e refl

pub part-found : (part : FormTree → Option ModeTree) (m : ModeTree) → measured_part part (a_mode_of (Some m)) ≡ or_misfit (part (form_of m))
part-found part m = part_by part m (part (form_of m)) refl

misfit_measured : (o : Option ModeTree) → is_measured (or_misfit o) ≡ true
misfit_measured None = refl
misfit_measured (Some m) = refl

pub part-kept : (part : FormTree → Option ModeTree) (x : Measured) → is_measured (measured_part part x) ≡ is_measured x
part-kept part (a_mode_of None) = refl
part-kept part (a_mode_of (Some m)) = ap is_measured (part-found part m) ∙ misfit_measured (part (form_of m))
part-kept part misfit = refl
part-kept part other = refl

pub ruleset measured_parts = (part-found, part-kept)

-- ---- names

pub name-predefined : (own : Option ModeTree) (e : Option Entry) (p : Predefined) → measured_name own e (Some (a_predefined p)) ≡ or_other (mode_of_predefined p)
name-predefined own e (of_mode m) = refl
name-predefined own e (truth b) = refl
name-predefined own e no_instance = refl
name-predefined own e num = refl
name-predefined own e succ = refl
name-predefined own e pred = refl
name-predefined own e abs = refl
name-predefined own e card = refl
name-predefined own e min = refl
name-predefined own e max = refl
name-predefined own e upper = refl
name-predefined own e lower = refl
name-predefined own e size = refl
name-predefined own e put_int = refl
name-predefined own e put_text = refl
name-predefined own e put_nl = refl
name-predefined own e get_int = refl

pub other-measured : (o : Option ModeTree) → is_measured (or_other o) ≡ is_some o
other-measured None = refl
other-measured (Some m) = refl

pub ruleset measured_names = (name-predefined, other-measured)

-- ---- bounds

bound_cases : (p : Predefined) → IsTrue (is_measuring p) → (p ≡ size → ⊥) → (p ≡ upper) ⊎ (p ≡ lower)
bound_cases upper h other_than = inl refl
bound_cases lower h other_than = inr refl
bound_cases size h other_than = absurd (other_than refl)
bound_cases (of_mode m) h other_than = absurd (cc)
bound_cases (truth b) h other_than = absurd (cc)
bound_cases no_instance h other_than = absurd (cc)
bound_cases num h other_than = absurd (cc)
bound_cases succ h other_than = absurd (cc)
bound_cases pred h other_than = absurd (cc)
bound_cases abs h other_than = absurd (cc)
bound_cases card h other_than = absurd (cc)
bound_cases min h other_than = absurd (cc)
bound_cases max h other_than = absurd (cc)
bound_cases put_int h other_than = absurd (cc)
bound_cases put_text h other_than = absurd (cc)
bound_cases put_nl h other_than = absurd (cc)
bound_cases get_int h other_than = absurd (cc)

-- the mode whose bounds are asked
abbrev asked : ModeTree → ModeTree
asked m = measured_mode m (form_of m)

number_fits : (m : ModeTree) (n : ℤ) (b : Bounds) → bounds_of m ≡ Some b → IsTrue (fits_class (derived m) (number n))
number_fits m n b e = class_fits_shape (derived m) (number n) ∙ discrete_shape m (ap is_some e)

class_there : (m : ModeTree) (b : Bounds) → bounds_of m ≡ Some b → when (is_some (bounds_of m)) (derived m) ≡ Some (derived m)
class_there m b e = ap (λ (o : Option Bounds). when (is_some o) (derived m)) e

class_missing : (m : ModeTree) → bounds_of m ≡ None → when (is_some (bounds_of m)) (derived m) ≡ None
class_missing m e = ap (λ (o : Option Bounds). when (is_some o) (derived m)) e

pub none_measured : (p : Predefined) (m : ModeTree) → IsTrue (is_measuring p) → (p ≡ size → ⊥) → bounds_of (asked m) ≡ None → class_of_measure p m ≡ None
none_measured p m h other_than e = elim (bound_cases p h other_than) [
  | inl is ↦ ap (λ (q : Predefined). class_of_measure q m) is ∙ class_missing (asked m) e
  | inr is ↦ ap (λ (q : Predefined). class_of_measure q m) is ∙ class_missing (asked m) e
]

measured_known : (c : ClassTree) (n : ℤ) (d : Option ClassTree) (v : Option ValueTree) (k : Known) → Holds (Some c) (Some (n ∷ [])) k → d ≡ Some c → v ≡ Some (number n) → IsTrue (fits_class c (number n)) → IsMeasure d v (Some k)
measured_known c n d v k holds e f fits =
    subst (λ (x : Option ClassTree). IsMeasure x v (Some k)) (sym e) (subst (λ (w : Option ValueTree). IsMeasure (Some c) w (Some k)) (sym f)
    (refl, record { known = record { class = holds.class; value = holds.value; fits = fits }; is_constant = holds.is_constant; is_clean = holds.is_clean }))

upper_measured : (m : ModeTree) (b : Bounds) (k : Known) → bounds_of (asked m) ≡ Some b → Holds (Some (derived (asked m))) (Some (b.high ∷ [])) k → IsMeasure (class_of_measure upper m) (value_of_measure upper m) (Some k)
upper_measured m b k e holds =
    measured_known (derived (asked m)) b.high (class_of_measure upper m) (value_of_measure upper m) k holds (class_there (asked m) b e) (ap (option_map (λ (x : Bounds). number x.high)) e) (number_fits (asked m) b.high b e)

lower_measured : (m : ModeTree) (b : Bounds) (k : Known) → bounds_of (asked m) ≡ Some b → Holds (Some (derived (asked m))) (Some (b.low ∷ [])) k → IsMeasure (class_of_measure lower m) (value_of_measure lower m) (Some k)
lower_measured m b k e holds =
    measured_known (derived (asked m)) b.low (class_of_measure lower m) (value_of_measure lower m) k holds (class_there (asked m) b e) (ap (option_map (λ (x : Bounds). number x.low)) e) (number_fits (asked m) b.low b e)

of_bound : (p : Predefined) (m : ModeTree) (b : Bounds) (k : Known) → IsTrue (is_measuring p) → (p ≡ size → ⊥) → bounds_of (asked m) ≡ Some b
    → Holds (Some (derived (asked m))) (Some (measured_bound p b ∷ [])) k → IsMeasure (class_of_measure p m) (value_of_measure p m) (Some k)
of_bound p m b k h other_than e holds = elim (bound_cases p h other_than) [
  | inl is ↦ subst (λ (q : Predefined). IsMeasure (class_of_measure q m) (value_of_measure q m) (Some k)) (sym is)
      (upper_measured m b k e (subst (λ (q : Predefined). Holds (Some (derived (asked m))) (Some (measured_bound q b ∷ [])) k) is holds))
  | inr is ↦ subst (λ (q : Predefined). IsMeasure (class_of_measure q m) (value_of_measure q m) (Some k)) (sym is)
      (lower_measured m b k e (subst (λ (q : Predefined). Holds (Some (derived (asked m))) (Some (measured_bound q b ∷ [])) k) is holds))
]

bound_class : (p : Predefined) (m : ModeTree) (b : Bounds) → IsTrue (is_measuring p) → (p ≡ size → ⊥) → bounds_of (asked m) ≡ Some b → class_of_measure p m ≡ Some (derived (asked m))
bound_class p m b h other_than e = elim (bound_cases p h other_than) [
  | inl is ↦ ap (λ (q : Predefined). class_of_measure q m) is ∙ class_there (asked m) b e
  | inr is ↦ ap (λ (q : Predefined). class_of_measure q m) is ∙ class_there (asked m) b e
]

pub bound_measured : (p : Predefined) (m : ModeTree) (b : Bounds) (c : ClassTree) (k : Known) → IsTrue (is_measuring p) → (p ≡ size → ⊥) → bounds_of (asked m) ≡ Some b → Some c ≡ class_of_measure p m
    → Holds (Some c) (Some (measured_bound p b ∷ [])) k → IsMeasure (class_of_measure p m) (value_of_measure p m) (Some k)
bound_measured p m b c k h other_than e class holds =
    of_bound p m b k h other_than e (subst (λ (d : Option ClassTree). Holds d (Some (measured_bound p b ∷ [])) k) (class ∙ bound_class p m b h other_than e) holds)

pub not_size : (p : rust.Predefined) → (p ≡ predefined.Size → ⊥) → predefined_tree p ≡ size → ⊥
not_size predefined.Size other_than e = other_than refl
not_size predefined.Int other_than e = cc
not_size predefined.Bool other_than e = cc
not_size predefined.Char other_than e = cc
not_size predefined.Instance other_than e = cc
not_size predefined.True other_than e = cc
not_size predefined.False other_than e = cc
not_size predefined.Null other_than e = cc
not_size predefined.Num other_than e = cc
not_size predefined.Succ other_than e = cc
not_size predefined.Pred other_than e = cc
not_size predefined.Abs other_than e = cc
not_size predefined.Card other_than e = cc
not_size predefined.Min other_than e = cc
not_size predefined.Max other_than e = cc
not_size predefined.Upper other_than e = cc
not_size predefined.Lower other_than e = cc
not_size predefined.PutInt other_than e = cc
not_size predefined.PutText other_than e = cc
not_size predefined.PutLine other_than e = cc
not_size predefined.GetInt other_than e = cc

-- ---- words

abbrev spots_in : Outcome → List Bits
spots_in (spots bs) = bs
spots_in _ = []

pub size_measured : (m : ModeTree) (bs : List Bits) (k : Known) → is_meeting (form_of m) ≡ false → IsTrue (is_laid m) → outcome_of m ≡ spots bs
    → IsKnownConstant (Some (derived int)) (Some (number (pos (words_of bs)))) k → IsMeasure (class_of_measure size m) (value_of_measure size m) (Some k)
size_measured m bs k whole laid e known =
    let same : bs ≡ spots_of m = ap spots_in (sym e ∙ laid_outcome m laid) in
    let class : class_of_measure size m ≡ Some (derived int) = ap (λ (b : Bool). when (not b) (derived int)) whole in
    subst (λ (c : Option ClassTree). IsMeasure c (value_of_measure size m) (Some k)) (sym class)
    (refl, subst (λ (l : List Bits). IsKnownConstant (Some (derived int)) (Some (number (pos (words_of l)))) k) same known)

pub meeting_measured : (m : ModeTree) → is_meeting (form_of m) ≡ true → class_of_measure size m ≡ None
meeting_measured m meets = ap (λ (b : Bool). when (not b) (derived int)) meets

pub no_overlap : (m : ModeTree) (i j : ℕ) → IsTrue (is_laid m) → outcome_of m ≡ overlap i j → ⊥
no_overlap m i j laid e = let other = sym (laid_outcome m laid) ∙ e in cc

pub not_impossible : (m : ModeTree) (i : ℕ) → IsTrue (is_laid m) → outcome_of m ≡ impossible i → ⊥
not_impossible m i laid e = let other = sym (laid_outcome m laid) ∙ e in cc
