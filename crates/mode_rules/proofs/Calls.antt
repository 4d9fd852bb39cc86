-- A call that stands as an action, as the expression that it would be.
use Rattle.std.proofs.Common.{◌≡◌, ◌++◌, List, [], ◌∷◌, Option, Some, None, refl, sym, ap, ◌∙◌, append-nil}
use Rattle.std.specs.Prelude.{flat_map}
use Rattle.chill_tree.specs.declared.tree.name.Name.{Name}
use Rattle.chill_tree.specs.ExprTree.{ExprTree, ExprNodes, apply, name, expr_nodes}
use Rattle.diagnostics.specs.declared.diagnostic.Diagnostic.{Diagnostic}
use Rattle.checks_model.specs.Ground as model
use Rattle.checks_model.specs.Ground.{Ground, Origin, Predefined, a_synonym, an_element, a_mode, a_location, a_parameter, a_counter, a_received, a_procedure, a_process, a_signal, a_modulion, a_predefined, origin_of}
use Rattle.checks_model.specs.Operations.{is_measuring}
use Rattle.checks_model.specs.Told.{then_told}
use Rattle.checks_model.specs.Classes.{callee_by}
use Rattle.checks_model.specs.Constants.{are_arguments, value_routine}
use Rattle.checks_model.specs.ConstantRules.{told_of_constants, told_in_each, told_call, told_if_constant, when_routine}
use Rattle.constant_operators.specs.declared.known.Known.{Known}
use Rattle.constant_operators.specs.Grounds.{predefined_of}
use Rattle.constant_rules.specs.Walks.{constant_routine, told_of_routine, FindsRoutine}
use Rattle.mode_rules.specs.Walk.{over_all, over_call}

pub each_told : (g : Ground) (es : List ExprTree) → told_in_each g (expr_nodes es) ≡ over_all g es
each_told g [] = refl
each_told g (e ∷ es) = ap (λ ds. told_of_constants g e ++ ds) (each_told g es)

then_none : (ds : List Diagnostic) → then_told ds [] ≡ ds
then_none [] = refl
then_none (d ∷ ds) = append-nil (d ∷ ds)

routine_same : (n : Name) (p : Predefined) → value_routine (callee_by n (Some (a_predefined p))) ≡ constant_routine p
routine_same n (model.of_mode m) = refl
routine_same n (model.truth b) = refl
routine_same n model.no_instance = refl
routine_same n model.num = refl
routine_same n model.succ = refl
routine_same n model.pred = refl
routine_same n model.abs = refl
routine_same n model.card = refl
routine_same n model.min = refl
routine_same n model.max = refl
routine_same n model.upper = refl
routine_same n model.lower = refl
routine_same n model.size = refl
routine_same n model.put_int = refl
routine_same n model.put_text = refl
routine_same n model.put_nl = refl
routine_same n model.get_int = refl

no_routine : (n : Name) (o : Option Origin) → predefined_of o ≡ None → value_routine (callee_by n o) ≡ None
no_routine n None none = refl
no_routine n (Some (a_predefined p)) none = cc
no_routine n (Some (a_synonym s)) none = refl
no_routine n (Some (an_element ns part owner)) none = refl
no_routine n (Some (a_mode novel m)) none = refl
no_routine n (Some (a_location d)) none = refl
no_routine n (Some (a_parameter m)) none = refl
no_routine n (Some (a_counter c)) none = refl
no_routine n (Some (a_received qn count part)) none = refl
no_routine n (Some (a_procedure p)) none = refl
no_routine n (Some (a_process p)) none = refl
no_routine n (Some (a_signal s)) none = refl
no_routine n (Some (a_modulion kind items)) none = refl

abbrev called : Ground → Name → ExprNodes → Option Predefined → List Diagnostic
called g n es r = then_told (told_in_each g es) (when_routine r (λ p. told_if_constant (are_arguments g (is_measuring p) es) (told_call g n.at p es)))

abbrev some_predefined : Option Predefined → Option Origin
some_predefined None = None
some_predefined (Some p) = Some (a_predefined p)

predefined_is : (o : Option Origin) (p : Predefined) → predefined_of o ≡ Some p → o ≡ Some (a_predefined p)
predefined_is None p is = cc
predefined_is (Some (a_predefined q)) p is = ap (λ k. some_predefined k) is
predefined_is (Some (a_synonym s)) p is = cc
predefined_is (Some (an_element ns part owner)) p is = cc
predefined_is (Some (a_mode novel m)) p is = cc
predefined_is (Some (a_location d)) p is = cc
predefined_is (Some (a_parameter m)) p is = cc
predefined_is (Some (a_counter c)) p is = cc
predefined_is (Some (a_received n count part)) p is = cc
predefined_is (Some (a_procedure q)) p is = cc
predefined_is (Some (a_process q)) p is = cc
predefined_is (Some (a_signal s)) p is = cc
predefined_is (Some (a_modulion kind items)) p is = cc

pub routine_told : (g : Ground) (n : Name) (es : List ExprTree) (p : Predefined) (old new : List Diagnostic) (k : Known) → predefined_of (origin_of g n) ≡ Some p → FindsRoutine g n.at p (expr_nodes es) old new k → new ≡ old ++ over_call g n es
routine_told g n es p old new k is found =
    found.told ∙ ap (λ ds. old ++ ds)
    (ap (called g n (expr_nodes es)) (sym (routine_same n p)) ∙ ap (λ o. called g n (expr_nodes es) (value_routine (callee_by n o))) (sym (predefined_is (origin_of g n) p is)))

pub action_told : (g : Ground) (n : Name) (es : List ExprTree) → predefined_of (origin_of g n) ≡ None → over_all g es ≡ over_call g n es
action_told g n es none = sym (each_told g es) ∙ sym (ap (called g n (expr_nodes es)) (no_routine n (origin_of g n) none) ∙ then_none (told_in_each g (expr_nodes es)))
