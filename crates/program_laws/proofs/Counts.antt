-- An elaborated expression has as many scalars as a value of its class, and the bounds of its root.
use Rattle.std.proofs.Common.{◌≡◌, Bool, true, false, List, [], ◌∷◌, Option, Some, None, refl, sym}
use Rattle.std.specs.Prelude.{if◌then◌else◌}
use Rattle.chill_tree.specs.ExprTree.{ExprTree, whole, character, text, this_instance, paren, receive, start, tuple, uniform, name, apply, field, prefixed, binary}
use Rattle.modes.specs.ModeTree.{ModeTree, ClassTree}
use Rattle.program_trees.specs.ExprTree as made
use Rattle.diagnostics.specs.declared.diagnostic.Diagnostic.{Diagnostic}
use Rattle.checks_model.specs.ValueTrees.{ValueTree, scalars_in}
use Rattle.checks_model.specs.Classes.{class_as}
use Rattle.checks_model.specs.Constants.{has_form, constant_as}
use Rattle.checks_model.specs.ConstantRules.{told_of_constants}
use Rattle.checks_model.specs.WrittenModes.{unless_told}
use Rattle.elaborated_laws.proofs.Told.{no_some, same_some}
use Rattle.elaboration_model.specs.Numbering.{Source}
use Rattle.elaboration_model.specs.Parts.{made_of}
use Rattle.elaboration_model.specs.Expressions.{count_in, constant_expr, folded}
use Rattle.program_laws.specs.Counts.{IsOfClass, CountsLaw}

of_constant : (s : Source) (m : Option ModeTree) (e : ExprTree) (c : Option ClassTree) (v : Option ValueTree) (x : made.ExprTree) → class_as s.known m e ≡ c → constant_expr c v ≡ Some x → IsOfClass s m e x
of_constant s m e (Some c) (Some v) x class is = record { class = c; is = class; operation = made.constant (scalars_in v); whole = sym (same_some (made.expr (count_in c) (made.root_bounds c) (made.constant (scalars_in v))) x is) }
of_constant s m e (Some c) None x class is = no_some x is
of_constant s m e None (Some v) x class is = no_some x is
of_constant s m e None None x class is = no_some x is

of_operation : (s : Source) (m : Option ModeTree) (e : ExprTree) (c : Option ClassTree) (o : Option made.OperationTree) (x : made.ExprTree) → class_as s.known m e ≡ c → made_of (λ c o. made.expr (count_in c) (made.root_bounds c) o) c o ≡ Some x → IsOfClass s m e x
of_operation s m e (Some c) (Some o) x class is = record { class = c; is = class; operation = o; whole = sym (same_some (made.expr (count_in c) (made.root_bounds c) o) x is) }
of_operation s m e (Some c) None x class is = no_some x is
of_operation s m e None (Some o) x class is = no_some x is
of_operation s m e None None x class is = no_some x is

-- what is there is the same where what is told is left out
is_untold : {A : Type 0} (told : List Diagnostic) (x : Option A) (y : A) → unless_told told x ≡ Some y → x ≡ Some y
is_untold [] x y is = is
is_untold (d ∷ ds) x y is = no_some y is

of_folded : (s : Source) (m : Option ModeTree) (e : ExprTree) (o : Option made.OperationTree) (x : made.ExprTree) → folded s m e o ≡ Some x → IsOfClass s m e x
of_folded s m e o x is = by (has_form s.known false e) is
  where
    by : (b : Bool) → (if b then unless_told (told_of_constants s.known e) (constant_expr (class_as s.known m e) (constant_as s.known m e)) else made_of (λ c o. made.expr (count_in c) (made.root_bounds c) o) (class_as s.known m e) o) ≡ Some x → IsOfClass s m e x
    by true is = of_constant s m e (class_as s.known m e) (constant_as s.known m e) x refl (is_untold (told_of_constants s.known e) (constant_expr (class_as s.known m e) (constant_as s.known m e)) x is)
    by false is = of_operation s m e (class_as s.known m e) o x refl is

pub counts_are : CountsLaw
counts_are s m (whole at n) x is = of_folded s m (whole at n) None x is
counts_are s m (character at n) x is = of_folded s m (character at n) None x is
counts_are s m (text at bytes) x is = of_folded s m (text at bytes) None x is
counts_are s m (this_instance at) x is = of_folded s m (this_instance at) (Some made.own_instance) x is
counts_are s m (paren at e) x is = let inner = counts_are s m e x is in record { class = inner.class; is = inner.is; operation = inner.operation; whole = inner.whole }
counts_are s m (receive at n) x is = of_folded s m (receive at n) _ x is
counts_are s m (start at n es) x is = of_folded s m (start at n es) _ x is
counts_are s m (tuple at n b rs) x is = of_folded s m (tuple at n b rs) _ x is
counts_are s m (uniform at n b e) x is = of_folded s m (uniform at n b e) _ x is
counts_are s m (name n) x is = of_folded s m (name n) _ x is
counts_are s m (apply at e es) x is = of_folded s m (apply at e es) _ x is
counts_are s m (field at e n) x is = of_folded s m (field at e n) _ x is
counts_are s m (prefixed at o e) x is = of_folded s m (prefixed at o e) _ x is
counts_are s m (binary at l o p r) x is = of_folded s m (binary at l o p r) _ x is
