-- Operands in which nothing is told, and routines by what is told of their arguments.
use Rattle.std.proofs.Common.{◌≡◌, ◌++◌, List, [], ◌∷◌, refl, ap, sym, ◌∙◌, subst, append-nil, Option, Some, None}
use Rattle.std.specs.Prelude.{Bool, true, false, ◌&&◌, ◌==◌, not, if◌then◌else◌, option_map}
use Rattle.chill_base.specs.declared.pos.Pos.{Pos}
use Rattle.chill_tree.specs.ExprTree.{ExprTree, ExprNodes}
use Rattle.modes.specs.ModeTree.{ClassTree, class_tree}
use Rattle.diagnostics.specs.declared.diagnostic.Diagnostic.{Diagnostic}
use Rattle.diagnostics.specs.declared.rule.Rule.TheVariants as rules
use Rattle.checks_model.specs.Told.{is_none_told, then_told, told_if, tell_at}
use Rattle.checks_model.specs.Ground.{Ground, Predefined}
use Rattle.checks_model.specs.Operations.{gives_no_value, arguments_of}
use Rattle.checks_model.specs.Classes.{class_of_call, class_of_first, measured_first, count_exprs}
use Rattle.checks_model.specs.ValueRules.{Receiver, told_in, told_number, call_misfits, clean_class}
use Rattle.checks_model.specs.ActionRules.{told_in_routine}
use Rattle.expr_rules.specs.declared.classed.Classed.{Classed}
use Rattle.expr_rules.specs.Known.{IsKnown, IsOwn}
use Rattle.expr_rules.specs.Steps.{value_own_told, only_class, told_of_routine, routine_call_told}
use Rattle.expr_rules.proofs.Nodes.{clean-class}
use Rattle.expr_rules.proofs.Routines.{routine-called, class-called}

-- the class of an operand in which nothing is told
pub operand-class : (g : Ground) (r : Receiver) (e : ExprTree) (c : Option ClassTree) → is_none_told (value_own_told g r e) ≡ true → clean_class (told_in g r e) c ≡ c
operand-class g r e c none = clean-class (told_in g r e) _ c none

pub ruleset operands = (operand-class)

-- ---- routines

abbrev numbered : Ground → Predefined → ExprNodes → Pos → List Diagnostic
numbered g p es at = then_told (told_number at (count_exprs es) (arguments_of p)) (told_if (call_misfits g p es) (tell_at rules.S1 at))

call_by : (g : Ground) (p : Predefined) (es : ExprNodes) (at : Pos) → is_none_told (told_in_routine g p es) ≡ true → gives_no_value p ≡ false → routine_call_told g p es at ≡ numbered g p es at
call_by g p es at none gives = by_list (told_in_routine g p es) (gives_no_value p) none gives
  where
    by_list : (t : List Diagnostic) (b : Bool) → is_none_told t ≡ true → b ≡ false → then_told t (told_if b (tell_at rules.S10 at) ++ numbered g p es at) ≡ numbered g p es at
    by_list [] false none gives = refl
    by_list [] true none gives = cc
    by_list (d ∷ ds) b none gives = cc

clean_same : (n later : List Diagnostic) (c d : Option ClassTree) → (is_none_told n ≡ true → c ≡ d) → clean_class (then_told n later) c ≡ clean_class (then_told n later) d
clean_same [] later c d same = ap (clean_class later) (same refl)
clean_same (x ∷ xs) later c d same = refl

-- what a routine gives, of arguments in which nothing is told
pub routine_known : (g : Ground) (p : Predefined) (es : ExprNodes) (at : Pos) (k : Classed) (c : Option ClassTree) → is_none_told (told_in_routine g p es) ≡ true → gives_no_value p ≡ false → c ≡ only_class g es
    → IsOwn (told_of_routine g p es true c at) (class_of_call p (measured_first g es) c) k → IsOwn (routine_call_told g p es at) (class_of_call p (measured_first g es) (class_of_first g es)) k
routine_known g p es at k c none gives one known =
    let now = subst (λ (x : Option ClassTree). IsOwn (told_of_routine g p es true x at) (class_of_call p (measured_first g es) x) k) one known in
    let told : told_of_routine g p es true (only_class g es) at ≡ numbered g p es at = routine-called g p es at none in
    let whole = call_by g p es at none gives in
    record {
      is_clean = now.is_clean ∙ ap is_none_told (told ∙ sym whole);
      class = now.class ∙ ap (λ (t : List Diagnostic). clean_class t (class_of_call p (measured_first g es) (only_class g es))) told
          ∙ clean_same (told_number at (count_exprs es) (arguments_of p)) (told_if (call_misfits g p es) (tell_at rules.S1 at)) (class_of_call p (measured_first g es) (only_class g es)) (class_of_call p (measured_first g es) (class_of_first g es))
          (λ right. ap (class_of_call p (measured_first g es)) (class-called g p es at none right))
          ∙ ap (λ (t : List Diagnostic). clean_class t (class_of_call p (measured_first g es) (class_of_first g es))) (sym whole);
    }
