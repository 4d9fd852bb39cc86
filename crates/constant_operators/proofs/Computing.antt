-- What comes of operators and routines on what is known.
use Rattle.std.proofs.Common.{◌≡◌, false, Bool, List, Option, Some, None, ℤ, refl, ap, sym, ◌∙◌}
use Rattle.std.specs.Prelude.{not, IsTrue, is_some, option_map}
use Rattle.chill_tree.specs.declared.tree.expr.Operator.{Operator}
use Rattle.chill_tree.specs.declared.tree.expr.Prefix.{Prefix}
use Rattle.modes.specs.ModeTree.{ClassTree, class_tree}
use Rattle.checks_model.specs.TestLaws.{CompatibleTestLaw}
use Rattle.checks_model.specs.Operations.{class_of_binary, class_of_unary, class_of_routine, argument_misfits}
use Rattle.checks_model.specs.Ground.{Predefined, of_mode, truth, no_instance, num, succ, pred, abs, card, min, max, upper, lower, size, put_int, put_text, put_nl, get_int}
use Rattle.checks_model.specs.Constants.{is_value_routine}
use Rattle.checks_model.specs.ValueTrees.{ValueTree, scalars_in}
use Rattle.checks_model.specs.OperatorValues.{value_of_binary, value_of_unary, value_of_routine}
use Rattle.constant_values.specs.Fits.{fits_class}
use Rattle.constant_values.specs.Operands.{IsOperand, AreOperands}
use Rattle.constant_operators.specs.Known.{IsKnown, IsComputed, IsResult, binary_misfits, binary_raises, binary_class, binary_value, unary_misfits, unary_raises, unary_class, unary_value, routine_misfits, routine_raises, routine_class, routine_value}
use Rattle.constant_operators.specs.declared.known.Known.{Known}
use Rattle.constant_operators.specs.declared.operators.Computed.{Computed}
use Rattle.constant_operators.specs.declared.operators.Computed.TheVariants as computed
use Rattle.constant_operators.proofs.ResultFits.{binary_fits, unary_fits, routine_fits}

-- ---- what is known

-- a result with its value, or without one
told_result : (c : Option ClassTree) (v : Option ValueTree) (own : ClassTree) (flat : Option (List ℤ)) (misfit raised : Bool) (r : Computed) → IsResult own flat r → c ≡ Some own → flat ≡ option_map scalars_in v → misfit ≡ false
    → raised ≡ not (is_some v) → ((x : ValueTree) → v ≡ Some x → IsTrue (fits_class own x)) → IsComputed misfit raised c v r
told_result (Some c) (Some x) own (Some flat) misfit raised (computed.Known k) h e f m r fits =
    (m, r, record { known = record { class = h.class ∙ sym e; value = h.value ∙ f; fits = (let same : c ≡ own = cc in ap (λ (y : ClassTree). fits_class y x) same ∙ fits x refl) }; is_constant = h.is_constant; is_clean = h.is_clean })
told_result (Some c) None own None misfit raised (computed.OutOfRange of) h e f m r fits = (m, r, e ∙ ap (λ (y : ClassTree). Some y) (sym h))
told_result None v own flat misfit raised r h e f m s fits = absurd (cc)
told_result (Some c) None own (Some flat) misfit raised r h e f m s fits = absurd (cc)
told_result (Some c) (Some x) own None misfit raised r h e f m s fits = absurd (cc)
told_result (Some c) (Some x) own (Some flat) misfit raised computed.Misfit h e f m r fits = absurd h
told_result (Some c) (Some x) own (Some flat) misfit raised (computed.OutOfRange of) h e f m r fits = absurd h
told_result (Some c) None own None misfit raised computed.Misfit h e f m r fits = absurd h
told_result (Some c) None own None misfit raised (computed.Known k) h e f m r fits = absurd h

-- an operand, by what is known of it
pub record IsOne (c : Option ClassTree) (v : Option ValueTree) (own : ClassTree) (flat : List ℤ) : Type 0 where
  pub x : ValueTree
  pub class : c ≡ Some own
  pub value : v ≡ Some x
  pub operand : IsOperand own x flat

pub one_operand : (c : Option ClassTree) (v : Option ValueTree) (k : Known) (own : ClassTree) (flat : List ℤ) → IsKnown c v k → option_map class_tree k.class ≡ Some own → k.value ≡ Some flat → IsOne c v own flat
one_operand (Some c) (Some x) k own flat i e f =
    let same : c ≡ own = (let known : Some c ≡ Some own = sym i.class ∙ e in cc) in
    let scalars : scalars_in x ≡ flat = (let known : Some (scalars_in x) ≡ Some flat = sym i.value ∙ f in cc) in
    record { x = x; class = sym i.class ∙ e; value = refl; operand = record { fits = sym (ap (λ (y : ClassTree). fits_class y x) same) ∙ i.fits; scalars = scalars } }
one_operand None v k own flat i e f = absurd (let known : None ≡ Some own = sym i.class ∙ e in cc)
one_operand (Some c) None k own flat i e f = absurd (let known : None ≡ Some flat = sym i.value ∙ f in cc)

-- ---- an operator between two

binary_fit : (o : Operator) (c d : Option ClassTree) (one other own : ClassTree) → c ≡ Some one → d ≡ Some other → class_of_binary o one other ≡ Some own → binary_misfits o c d ≡ false
binary_fit o c d one other own e f m =
    ap (λ (x : Option ClassTree). binary_misfits o x d) e ∙ ap (λ (x : Option ClassTree). binary_misfits o (Some one) x) f ∙ ap (λ (x : Option ClassTree). not (is_some x)) m

binary_own : (o : Operator) (c d : Option ClassTree) (one other own : ClassTree) → c ≡ Some one → d ≡ Some other → class_of_binary o one other ≡ Some own → binary_class o c d ≡ Some own
binary_own o c d one other own e f m = ap (λ (x : Option ClassTree). binary_class o x d) e ∙ ap (λ (x : Option ClassTree). binary_class o (Some one) x) f ∙ m

pub both_operands : (o : Operator) (c d own : ClassTree) (v w : ValueTree) (left right : List ℤ) → class_of_binary o c d ≡ Some own → IsOperand c v left → IsOperand d w right → AreOperands o c d v w left right
both_operands o c d own v w left right m one other = record { taken = ap (λ (x : Option ClassTree). is_some x) m; one = one; other = other }

pub binary_result : (law : CompatibleTestLaw) (o : Operator) (c d : Option ClassTree) (v w : Option ValueTree) (one other own : ClassTree) (left right : List ℤ) (flat : Option (List ℤ)) (r : Computed) → (a : IsOne c v one left) → (b : IsOne d w other right)
    → class_of_binary o one other ≡ Some own → flat ≡ option_map scalars_in (value_of_binary o other a.x b.x) → IsResult own flat r → IsComputed (binary_misfits o c d) (binary_raises o c v d w) (binary_class o c d) (binary_value o v d w) r
binary_result law o c d v w one other own left right flat r a b m f h =
    let value : binary_value o v d w ≡ value_of_binary o other a.x b.x =
    ap (λ (x : Option ValueTree). binary_value o x d w) a.value ∙ ap (λ (x : Option ClassTree). binary_value o (Some a.x) x w) b.class ∙ ap (λ (x : Option ValueTree). binary_value o (Some a.x) (Some other) x) b.value in
    let raised : binary_raises o c v d w ≡ not (is_some (value_of_binary o other a.x b.x)) =
    ap (λ (x : Option ClassTree). binary_raises o x v d w) a.class ∙ ap (λ (x : Option ValueTree). binary_raises o (Some one) x d w) a.value
    ∙ ap (λ (x : Option ClassTree). binary_raises o (Some one) (Some a.x) x w) b.class ∙ ap (λ (x : Option ValueTree). binary_raises o (Some one) (Some a.x) (Some other) x) b.value in
    told_result (binary_class o c d) (binary_value o v d w) own flat (binary_misfits o c d) (binary_raises o c v d w) r h (binary_own o c d one other own a.class b.class m) (f ∙ sym (ap (option_map scalars_in) value))
    (binary_fit o c d one other own a.class b.class m) (raised ∙ sym (ap (λ (x : Option ValueTree). not (is_some x)) value))
    (λ x e. binary_fits law o one other own a.x b.x x left right (both_operands o one other own a.x b.x left right m a.operand b.operand) m (sym value ∙ e))

-- ---- an operator before one

unary_fit : (o : Prefix) (c : Option ClassTree) (one own : ClassTree) → c ≡ Some one → class_of_unary o one ≡ Some own → unary_misfits o c ≡ false
unary_fit o c one own e m = ap (λ (x : Option ClassTree). unary_misfits o x) e ∙ ap (λ (x : Option ClassTree). not (is_some x)) m

unary_own : (o : Prefix) (c : Option ClassTree) (one own : ClassTree) → c ≡ Some one → class_of_unary o one ≡ Some own → unary_class o c ≡ Some own
unary_own o c one own e m = ap (λ (x : Option ClassTree). unary_class o x) e ∙ m

pub unary_result : (o : Prefix) (c : Option ClassTree) (v : Option ValueTree) (one own : ClassTree) (operand : List ℤ) (flat : Option (List ℤ)) (r : Computed) → (a : IsOne c v one operand) → class_of_unary o one ≡ Some own
    → flat ≡ option_map scalars_in (value_of_unary o a.x) → IsResult own flat r → IsComputed (unary_misfits o c) (unary_raises o c v) (unary_class o c) (unary_value o v) r
unary_result o c v one own operand flat r a m f h =
    let value : unary_value o v ≡ value_of_unary o a.x = ap (λ (x : Option ValueTree). unary_value o x) a.value in
    let raised : unary_raises o c v ≡ not (is_some (value_of_unary o a.x)) = ap (λ (x : Option ClassTree). unary_raises o x v) a.class ∙ ap (λ (x : Option ValueTree). unary_raises o (Some one) x) a.value in
    told_result (unary_class o c) (unary_value o v) own flat (unary_misfits o c) (unary_raises o c v) r h (unary_own o c one own a.class m) (f ∙ sym (ap (option_map scalars_in) value))
    (unary_fit o c one own a.class m) (raised ∙ sym (ap (λ (x : Option ValueTree). not (is_some x)) value))
    (λ x e. unary_fits o one own a.x x operand (record { taken = ap (λ (x : Option ClassTree). is_some x) m; operand = a.operand }) m (sym value ∙ e))

-- ---- a routine

-- the routines that have a value are those whose argument the table judges
judged : (p : Predefined) (c : ClassTree) → IsTrue (is_value_routine p) → argument_misfits p c ≡ not (is_some (class_of_routine p c))
judged put_int c h = absurd (cc)
judged put_text c h = absurd (cc)
judged put_nl c h = absurd (cc)
judged get_int c h = absurd (cc)
judged num c h = refl
judged succ c h = refl
judged pred c h = refl
judged abs c h = refl
judged card c h = refl
judged min c h = refl
judged max c h = refl
judged upper c h = refl
judged lower c h = refl
judged size c h = refl
judged (of_mode m) c h = refl
judged (truth b) c h = refl
judged no_instance c h = refl

routine_fit : (p : Predefined) (c : Option ClassTree) (one own : ClassTree) → IsTrue (is_value_routine p) → c ≡ Some one → class_of_routine p one ≡ Some own → routine_misfits p c ≡ false
routine_fit p c one own i e m = ap (λ (x : Option ClassTree). routine_misfits p x) e ∙ judged p one i ∙ ap (λ (x : Option ClassTree). not (is_some x)) m

routine_own : (p : Predefined) (c : Option ClassTree) (one own : ClassTree) → c ≡ Some one → class_of_routine p one ≡ Some own → routine_class p c ≡ Some own
routine_own p c one own e m = ap (λ (x : Option ClassTree). routine_class p x) e ∙ m

pub routine_result : (p : Predefined) (c : Option ClassTree) (v : Option ValueTree) (one own : ClassTree) (operand : List ℤ) (flat : Option (List ℤ)) (r : Computed) → (a : IsOne c v one operand) → IsTrue (is_value_routine p)
    → class_of_routine p one ≡ Some own → flat ≡ option_map scalars_in (value_of_routine p one a.x) → IsResult own flat r → IsComputed (routine_misfits p c) (routine_raises p c v) (routine_class p c) (routine_value p c v) r
routine_result p c v one own operand flat r a i m f h =
    let value : routine_value p c v ≡ value_of_routine p one a.x = ap (λ (x : Option ClassTree). routine_value p x v) a.class ∙ ap (λ (x : Option ValueTree). routine_value p (Some one) x) a.value in
    let raised : routine_raises p c v ≡ not (is_some (value_of_routine p one a.x)) = ap (λ (x : Option ClassTree). routine_raises p x v) a.class ∙ ap (λ (x : Option ValueTree). routine_raises p (Some one) x) a.value in
    told_result (routine_class p c) (routine_value p c v) own flat (routine_misfits p c) (routine_raises p c v) r h (routine_own p c one own a.class m) (f ∙ sym (ap (option_map scalars_in) value))
    (routine_fit p c one own i a.class m) (raised ∙ sym (ap (λ (x : Option ValueTree). not (is_some x)) value))
    (λ x e. routine_fits p one own a.x x operand (record { taken = ap (λ (x : Option ClassTree). is_some x) m; operand = a.operand }) m (sym value ∙ e))
