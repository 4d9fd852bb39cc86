-- What is found of UPPER, LOWER and SIZE, by what they measure.
use Rattle.std.proofs.Common.{◌≡◌, Bool, true, false, List, [], ◌∷◌, ◌++◌, Option, Some, None, refl, ap, sym, subst, ◌∙◌}
use Rattle.std.specs.Prelude.{not, IsTrue, is_some, option_map}
use Rattle.chill_base.specs.declared.pos.Pos.{Pos}
use Rattle.diagnostics.specs.declared.diagnostic.Diagnostic.{Diagnostic}
use Rattle.diagnostics.specs.declared.rule.Rule.TheVariants as rules
use Rattle.modes.specs.declared.mode.Class.{Class}
use Rattle.modes.specs.ModeTree.{ModeTree, ClassTree, class_tree}
use Rattle.checks_model.specs.ValueTrees.{ValueTree}
use Rattle.checks_model.specs.Told.{tell_at, told_if, is_none_told}
use Rattle.checks_model.specs.Ground.{Predefined}
use Rattle.checks_model.specs.Operations.{class_of_measure}
use Rattle.checks_model.specs.OperatorValues.{value_of_measure}
use Rattle.checks_model.specs.Classes.{Measured, a_mode_of, misfit, other, class_of_measured, measured_misfits}
use Rattle.checks_model.specs.Constants.{value_of_measured}
use Rattle.checks_model.specs.ConstantRules.{told_if_constant}
use Rattle.constant_operators.specs.Laid.{is_laid}
use Rattle.constant_operators.proofs.LaidParts.{IsLaidMeasure}
use Rattle.constant_operators.specs.declared.known.Known.{Known}
use Rattle.constant_operators.specs.Known.{IsKnownConstant, Holds, IsVarying, IsTold}
use Rattle.constant_rules.specs.Found.{IsFound, Finds}
use Rattle.constant_rules.specs.Walks.{measure_told, measured_form, FindsMeasure}
use Rattle.constant_rules.proofs.Finding.{constant_found, found_here, found_so, told_found}
use Rattle.constant_rules.proofs.OfNodes.{node_told, node_varying, node_found}

-- where something is told in the argument
pub measure_unclean : (p : Predefined) (m : Measured) (at : Pos) (f : Bool) (t : List Diagnostic) (c : Option ClassTree) (old : List Diagnostic) (k : Known) → measured_form m f ≡ true → is_none_told t ≡ false → IsTold true k → FindsMeasure at p m f t c old old k
measure_unclean p m at f t c old k form none own =
    node_told (measured_form m f) t (told_if_constant (measured_form m f) (measure_told at p m c)) (class_of_measured p m) (value_of_measured p m) old k none (own.is_constant ∙ sym form) own.is_clean

-- where nothing is told in it, and what is measured fits or doesn't
measure_fits : (p : Predefined) (m : Measured) (at : Pos) (f : Bool) (t : List Diagnostic) (c : Option ClassTree) (old : List Diagnostic) (k : Known) → measured_form m f ≡ true → is_none_told t ≡ true → measured_misfits p m c ≡ false → IsKnownConstant (class_of_measured p m) (value_of_measured p m) k
    → FindsMeasure at p m f t c old old k
measure_fits p m at f t c old k form none fits h =
    node_found (measured_form m f) t (measure_told at p m c) (class_of_measured p m) (value_of_measured p m) old old k form none
    (found_so refl (ap (λ (b : Bool). told_if b (tell_at rules.M10 at)) fits) (λ _. (refl, refl)) (found_here old (constant_found h)))

measure_misfits : (p : Predefined) (m : Measured) (at : Pos) (f : Bool) (t : List Diagnostic) (c : Option ClassTree) (old new : List Diagnostic) (k : Known) → measured_form m f ≡ true → is_none_told t ≡ true → measured_misfits p m c ≡ true → Finds true (tell_at rules.M10 at ∷ []) (class_of_measured p m) (value_of_measured p m) old new k
    → FindsMeasure at p m f t c old new k
measure_misfits p m at f t c old new k form none some h =
    node_found (measured_form m f) t (measure_told at p m c) (class_of_measured p m) (value_of_measured p m) old new k form none
    (found_so refl (ap (λ (b : Bool). told_if b (tell_at rules.M10 at)) some) (λ _. (refl, refl)) h)

told_so : (at : Pos) (c : Option ClassTree) (v : Option ValueTree) (old new : List Diagnostic) (k : Known) → new ≡ old ++ tell_at rules.M10 at ∷ [] → IsTold true k → Finds true (tell_at rules.M10 at ∷ []) c v old new k
told_so at c v old new k told h = record { told = told; found = told_found h.is_constant h.is_clean refl }

unknown_known : (k : Known) → Holds None None k → IsKnownConstant None None k
unknown_known k own = record { known = record { class = own.class; value = own.value; fits = refl }; is_constant = own.is_constant; is_clean = own.is_clean }

-- a mode
pub mode_unclean : (p : Predefined) (m : Option ModeTree) (at : Pos) (f : Bool) (t : List Diagnostic) (c : Option ClassTree) (old : List Diagnostic) (k : Known) → is_none_told t ≡ false → IsTold true k → FindsMeasure at p (a_mode_of m) f t c old old k
mode_unclean p m at f t c old k none own = measure_unclean p (a_mode_of m) at f t c old k refl none own

pub mode_fits : (p : Predefined) (m : ModeTree) (at : Pos) (f : Bool) (t : List Diagnostic) (c : Option ClassTree) (old : List Diagnostic) (k : Known) → is_none_told t ≡ true → is_some (class_of_measure p m) ≡ true → IsKnownConstant (class_of_measure p m) (value_of_measure p m) k → FindsMeasure at p (a_mode_of (Some m)) f t c old old k
mode_fits p m at f t c old k none some h = measure_fits p (a_mode_of (Some m)) at f t c old k refl none (ap not some) h

pub mode_misfits : (p : Predefined) (m : ModeTree) (at : Pos) (f : Bool) (t : List Diagnostic) (c : Option ClassTree) (old new : List Diagnostic) (k : Known) → is_none_told t ≡ true → class_of_measure p m ≡ None → new ≡ old ++ tell_at rules.M10 at ∷ [] → IsTold true k
    → FindsMeasure at p (a_mode_of (Some m)) f t c old new k
mode_misfits p m at f t c old new k none refused told h = measure_misfits p (a_mode_of (Some m)) at f t c old new k refl none (ap (λ (o : Option ClassTree). not (is_some o)) refused) (told_so at (class_of_measured p (a_mode_of (Some m))) (value_of_measured p (a_mode_of (Some m))) old new k told h)

-- a mode that isn't known
pub mode_unknown : (p : Predefined) (at : Pos) (f : Bool) (t : List Diagnostic) (c : Option ClassTree) (old : List Diagnostic) (k : Known) → is_none_told t ≡ true → Holds None None k → FindsMeasure at p (a_mode_of None) f t c old old k
mode_unknown p at f t c old k none h = measure_fits p (a_mode_of None) at f t c old k refl none refl (unknown_known k h)

-- a part that doesn't fit
pub part_unclean : (p : Predefined) (at : Pos) (f : Bool) (t : List Diagnostic) (c : Option ClassTree) (old : List Diagnostic) (k : Known) → is_none_told t ≡ false → IsTold true k → FindsMeasure at p misfit f t c old old k
part_unclean p at f t c old k none own = measure_unclean p misfit at f t c old k refl none own

pub part_misfits : (p : Predefined) (at : Pos) (f : Bool) (t : List Diagnostic) (c : Option ClassTree) (old new : List Diagnostic) (k : Known) → is_none_told t ≡ true → new ≡ old ++ tell_at rules.M10 at ∷ [] → IsTold true k → FindsMeasure at p misfit f t c old new k
part_misfits p at f t c old new k none told h = measure_misfits p misfit at f t c old new k refl none refl (told_so at None None old new k told h)

-- neither
pub other_varying : (p : Predefined) (at : Pos) (f : Bool) (t : List Diagnostic) (c : Option ClassTree) (v : Option ValueTree) (old : List Diagnostic) (known k : Known) → IsFound f t c v known → known.is_constant ≡ false → IsVarying None known.is_clean k → FindsMeasure at p other f t c old old k
other_varying p at f t c v old known k h constant own = node_varying f t (measure_told at p other c) None None old k (sym h.is_constant ∙ constant) own.is_constant (own.is_clean ∙ h.is_clean)

pub other_unclean : (p : Predefined) (at : Pos) (f : Bool) (t : List Diagnostic) (c : Option ClassTree) (v : Option ValueTree) (old : List Diagnostic) (known k : Known) → IsFound f t c v known → known.is_constant ≡ true → known.is_clean ≡ false → IsTold true k → FindsMeasure at p other f t c old old k
other_unclean p at f t c v old known k h constant clean own = measure_unclean p other at f t c old k (sym h.is_constant ∙ constant) (sym h.is_clean ∙ clean) own

class_found : (f : Bool) (t : List Diagnostic) (c : Option ClassTree) (v : Option ValueTree) (known : Known) → IsFound f t c v known → known.is_constant ≡ true → known.is_clean ≡ true → option_map class_tree known.class ≡ c
class_found f t c v known h constant clean = (h.known (sym h.is_constant ∙ constant) (sym h.is_clean ∙ clean)).class

pub other_unknown : (p : Predefined) (at : Pos) (f : Bool) (t : List Diagnostic) (c : Option ClassTree) (v : Option ValueTree) (old : List Diagnostic) (known k : Known) → IsFound f t c v known → known.is_constant ≡ true → known.is_clean ≡ true → known.class ≡ None → Holds None None k → FindsMeasure at p other f t c old old k
other_unknown p at f t c v old known k h constant clean none own =
    measure_fits p other at f t c old k (sym h.is_constant ∙ constant) (sym h.is_clean ∙ clean) (ap is_some (sym (class_found f t c v known h constant clean) ∙ ap (option_map class_tree) none)) (unknown_known k own)

pub other_misfits : (p : Predefined) (at : Pos) (f : Bool) (t : List Diagnostic) (c : Option ClassTree) (v : Option ValueTree) (old new : List Diagnostic) (known k : Known) (own : Class) → IsFound f t c v known → known.is_constant ≡ true → known.is_clean ≡ true → known.class ≡ Some own
    → new ≡ old ++ tell_at rules.M10 at ∷ [] → IsTold true k → FindsMeasure at p other f t c old new k
other_misfits p at f t c v old new known k own h constant clean some told own_told =
    measure_misfits p other at f t c old new k (sym h.is_constant ∙ constant) (sym h.is_clean ∙ clean) (ap is_some (sym (class_found f t c v known h constant clean) ∙ ap (option_map class_tree) some)) (told_so at None None old new k told own_told)

-- by what is measured
pub measured_so : (p : Predefined) (m n : Measured) (at : Pos) (f : Bool) (t : List Diagnostic) (c : Option ClassTree) (old new : List Diagnostic) (k : Known) → m ≡ n → FindsMeasure at p m f t c old new k → FindsMeasure at p n f t c old new k
measured_so p m n at f t c old new k e h = subst (λ (m : Measured). FindsMeasure at p m f t c old new k) e h

-- the mode that is measured has places
pub mode_laid : (m : ModeTree) (n : Measured) → a_mode_of (Some m) ≡ n → IsLaidMeasure n → IsTrue (is_laid m)
mode_laid m n e h = subst IsLaidMeasure (sym e) h
