-- Calls of routines: the number of arguments, and what the only one is to be.
use Rattle.std.proofs.Common.{◌≡◌, ◌≢◌, ◌++◌, ℕ, zero, suc, List, [], ◌∷◌, refl, ap, sym, ◌∙◌, subst, append-nil, append_assoc, Option, Some, None, arith}
use Rattle.std.specs.Prelude.{Bool, true, false, ◌&&◌, ◌==◌, not, if◌then◌else◌, is_some, option_and_then}
use Rattle.chill_base.specs.declared.pos.Pos.{Pos}
use Rattle.chill_tree.specs.ExprTree.{ExprTree, ExprNodes, no_exprs, more_exprs}
use Rattle.modes.specs.ModeTree.{ModeTree, ClassTree}
use Rattle.diagnostics.specs.declared.diagnostic.Diagnostic.{Diagnostic}
use Rattle.diagnostics.specs.declared.rule.Rule.TheVariants as rules
use Rattle.checks_model.specs.Told.{is_none_told, then_told, told_if, tell_at, holds_of}
use Rattle.checks_model.specs.Ground.{Ground, Predefined, of_mode, truth, no_instance, num, succ, pred, abs, card, min, max, upper, lower, size, put_int, put_text, put_nl, get_int}
use Rattle.checks_model.specs.Operations.{is_measuring, gives_no_value, arguments_of, argument_misfits, class_of_routine}
use Rattle.checks_model.specs.Classes.{class_of, class_of_first, class_of_call, class_of_measured, Measured, other, measured, measured_first, measured_misfits, count_exprs}
use Rattle.checks_model.specs.ValueRules.{nothing_asked, told_in, value_told, told_inside_each, told_number, call_misfits, clean_class}
use Rattle.checks_model.specs.ActionRules.{told_in_routine, told_routine}
use Rattle.checks_model.specs.Classes.{routine}
use Rattle.class_operators.specs.Predefined.{predefined_tree, cannot_be_put}
use Rattle.class_operators.specs.declared.predefined.Predefined as rust
use Rattle.class_operators.specs.declared.predefined.Predefined.TheVariants as predefined
use Rattle.expr_rules.specs.Steps.{only_class, routine_misfits, told_of_routine, class_without}
use Rattle.expr_rules.proofs.Arguments.{eq-other, exprs-counted}
use Rattle.expr_rules.proofs.Gates.{none-both, none-then}

-- ---- how many arguments

number_of : (p : Predefined) (n : ℕ) → suc n ≡ arguments_of p → arguments_of p ≡ 1
number_of put_nl n e = absurd (omega arith)
number_of get_int n e = absurd (omega arith)
number_of (of_mode m) n e = refl
number_of (truth b) n e = refl
number_of no_instance n e = refl
number_of num n e = refl
number_of succ n e = refl
number_of pred n e = refl
number_of abs n e = refl
number_of card n e = refl
number_of min n e = refl
number_of max n e = refl
number_of upper n e = refl
number_of lower n e = refl
number_of size n e = refl
number_of put_int n e = refl
number_of put_text n e = refl

pub one-argument : (p : Predefined) (n : ℕ) → suc n ≡ arguments_of p → arguments_of p ≡ 1
one-argument p n e = number_of p n e

never_two : (p : Predefined) (n : ℕ) → suc (suc n) ≢ arguments_of p
never_two p n e = let one = number_of p (suc n) e in omega arith

-- ---- what the table says of them

pub misfits-value : (p : Predefined) (c : ClassTree) → gives_no_value p ≡ false → arguments_of p ≡ 1 → argument_misfits p c ≡ not (is_some (class_of_routine p c))
misfits-value put_int c h one = cc
misfits-value put_text c h one = cc
misfits-value put_nl c h one = cc
misfits-value get_int c h one = cc
misfits-value (of_mode m) c h one = refl
misfits-value (truth b) c h one = refl
misfits-value no_instance c h one = refl
misfits-value num c h one = refl
misfits-value succ c h one = refl
misfits-value pred c h one = refl
misfits-value abs c h one = refl
misfits-value card c h one = refl
misfits-value min c h one = refl
misfits-value max c h one = refl
misfits-value upper c h one = refl
misfits-value lower c h one = refl
misfits-value size c h one = refl

pub put-class : (p : Predefined) (c : ClassTree) → gives_no_value p ≡ true → class_of_routine p c ≡ None
put-class put_int c h = refl
put-class put_text c h = refl
put-class put_nl c h = refl
put-class get_int c h = cc
put-class (of_mode m) c h = cc
put-class (truth b) c h = cc
put-class no_instance c h = cc
put-class num c h = cc
put-class succ c h = cc
put-class pred c h = cc
put-class abs c h = cc
put-class card c h = cc
put-class min c h = cc
put-class max c h = cc
put-class upper c h = cc
put-class lower c h = cc
put-class size c h = cc

pub put-misfits : (own : rust.Predefined) (c : ClassTree) → gives_no_value (predefined_tree own) ≡ true → arguments_of (predefined_tree own) ≡ 1 → cannot_be_put own c ≡ argument_misfits (predefined_tree own) c
put-misfits predefined.PutInt c h one = refl
put-misfits predefined.PutText c h one = refl
put-misfits predefined.PutLine c h one = refl
put-misfits predefined.Int c h one = cc
put-misfits predefined.Bool c h one = cc
put-misfits predefined.Char c h one = cc
put-misfits predefined.Instance c h one = cc
put-misfits predefined.True c h one = cc
put-misfits predefined.False c h one = cc
put-misfits predefined.Null c h one = cc
put-misfits predefined.Num c h one = cc
put-misfits predefined.Succ c h one = cc
put-misfits predefined.Pred c h one = cc
put-misfits predefined.Abs c h one = cc
put-misfits predefined.Card c h one = cc
put-misfits predefined.Min c h one = cc
put-misfits predefined.Max c h one = cc
put-misfits predefined.Upper c h one = cc
put-misfits predefined.Lower c h one = cc
put-misfits predefined.Size c h one = cc
put-misfits predefined.GetInt c h one = cc

pub ruleset values = (misfits-value, put-class, put-misfits)

-- ---- routines with no argument and with one

no_class : (c : Option ClassTree) → holds_of (λ (c : ClassTree). false) c ≡ false
no_class None = refl
no_class (Some c) = refl

no_result : (c : Option ClassTree) → option_and_then (class_of_routine put_nl) c ≡ None
no_result None = refl
no_result (Some c) = refl

pub without-misfits : (g : Ground) (p : Predefined) (clean : Bool) (c : Option ClassTree) → 0 ≡ arguments_of p → routine_misfits g p no_exprs clean c ≡ false
without-misfits g put_nl clean None e = refl
without-misfits g put_nl clean (Some c) e = refl
without-misfits g get_int clean None e = refl
without-misfits g get_int clean (Some c) e = refl
without-misfits g (of_mode m) clean c e = cc
without-misfits g (truth b) clean c e = cc
without-misfits g no_instance clean c e = cc
without-misfits g num clean c e = cc
without-misfits g succ clean c e = cc
without-misfits g pred clean c e = cc
without-misfits g abs clean c e = cc
without-misfits g card clean c e = cc
without-misfits g min clean c e = cc
without-misfits g max clean c e = cc
without-misfits g upper clean c e = cc
without-misfits g lower clean c e = cc
without-misfits g size clean c e = cc
without-misfits g put_int clean c e = cc
without-misfits g put_text clean c e = cc

pub without-class : (p : Predefined) (m : Measured) (c : Option ClassTree) → 0 ≡ arguments_of p → class_of_call p m c ≡ class_without p
without-class put_nl m c e = no_result c
without-class get_int m c e = refl
without-class (of_mode x) m c e = cc
without-class (truth b) m c e = cc
without-class no_instance m c e = cc
without-class num m c e = cc
without-class succ m c e = cc
without-class pred m c e = cc
without-class abs m c e = cc
without-class card m c e = cc
without-class min m c e = cc
without-class max m c e = cc
without-class upper m c e = cc
without-class lower m c e = cc
without-class size m c e = cc
without-class put_int m c e = cc
without-class put_text m c e = cc

pub call-measuring : (p : Predefined) (m : Measured) (c : Option ClassTree) → is_measuring p ≡ true → class_of_call p m c ≡ class_of_measured p m
call-measuring upper m c h = refl
call-measuring lower m c h = refl
call-measuring size m c h = refl
call-measuring get_int m c h = cc
call-measuring (of_mode x) m c h = cc
call-measuring (truth b) m c h = cc
call-measuring no_instance m c h = cc
call-measuring num m c h = cc
call-measuring succ m c h = cc
call-measuring pred m c h = cc
call-measuring abs m c h = cc
call-measuring card m c h = cc
call-measuring min m c h = cc
call-measuring max m c h = cc
call-measuring put_int m c h = cc
call-measuring put_text m c h = cc
call-measuring put_nl m c h = cc

pub call-value : (p : Predefined) (m : Measured) (c : Option ClassTree) → is_measuring p ≡ false → arguments_of p ≡ 1 → class_of_call p m c ≡ option_and_then (class_of_routine p) c
call-value upper m c h one = cc
call-value lower m c h one = cc
call-value size m c h one = cc
call-value get_int m c h one = cc
call-value put_nl m c h one = refl
call-value (of_mode x) m c h one = refl
call-value (truth b) m c h one = refl
call-value no_instance m c h one = refl
call-value num m c h one = refl
call-value succ m c h one = refl
call-value pred m c h one = refl
call-value abs m c h one = refl
call-value card m c h one = refl
call-value min m c h one = refl
call-value max m c h one = refl
call-value put_int m c h one = refl
call-value put_text m c h one = refl

pub ruleset numbers = (one-argument, without-misfits, without-class, call-measuring, call-value, exprs-counted)

-- ---- a call by what is told in its arguments

number_wrong : (p : Predefined) (at : Pos) (n : ℕ) (ds : List Diagnostic) → then_told (told_number at (suc (suc n)) (arguments_of p)) ds ≡ told_number at (suc (suc n)) (arguments_of p)
number_wrong p at n ds = by (suc (suc n) == arguments_of p) (eq-other (suc (suc n)) (arguments_of p) (never_two p n))
  where
    by : (b : Bool) → b ≡ false → then_told (told_if (not b) (tell_at rules.S5 at)) ds ≡ told_if (not b) (tell_at rules.S5 at)
    by false e = refl
    by true e = cc

-- the misfit of the only argument of which that is told, by how its class is asked
abbrev by_class : Bool → Bool → Predefined → Measured → Option ClassTree → Bool
by_class measures clean p m c = if measures then clean && measured_misfits p m c else holds_of (argument_misfits p) c

clean_first : (t rest : List Diagnostic) (c : Option ClassTree) → is_none_told (t ++ rest) ≡ true → clean_class t c ≡ c
clean_first [] rest c h = refl
clean_first (d ∷ ds) rest c h = cc

clean_inside : (measures : Bool) (t own received : List Diagnostic) (c : Option ClassTree) → is_none_told (if measures then t ++ [] else then_told (then_told t own) received ++ []) ≡ true → clean_class t c ≡ c
clean_inside true t own received c h = clean_first t [] c h
clean_inside false [] own received c h = refl
clean_inside false (d ∷ ds) own received c h = cc

action_misfits : (measures : Bool) (t own : List Diagnostic) (p : Predefined) (m : Measured) (c : Option ClassTree)
    → by_class measures (is_none_told (if measures then t ++ [] else own)) p m (clean_class t c) ≡ is_none_told (t ++ []) && (if measures then measured_misfits p m c else holds_of (argument_misfits p) c)
action_misfits true [] own p m c = refl
action_misfits true (d ∷ ds) own p m c = refl
action_misfits false [] own p m c = refl
action_misfits false (d ∷ ds) own p m c = refl

no_misfits : (measures : Bool) (p : Predefined) → by_class measures (is_none_told (if measures then [] else [])) p other None ≡ true && (if measures then measured_misfits p other None else holds_of (argument_misfits p) None)
no_misfits true p = refl
no_misfits false p = refl

-- S5 and S1 of a call in whose arguments nothing is told
pub routine-called : (g : Ground) (p : Predefined) (es : ExprNodes) (at : Pos) → is_none_told (told_in_routine g p es) ≡ true
    → told_of_routine g p es true (only_class g es) at ≡ then_told (told_number at (count_exprs es) (arguments_of p)) (told_if (call_misfits g p es) (tell_at rules.S1 at))
routine-called g p no_exprs at h = refl
routine-called g p (more_exprs e no_exprs) at h =
    let t = told_in g nothing_asked e in
    let same : clean_class t (class_of g e) ≡ class_of g e = clean_inside (is_measuring p) t _ _ (class_of g e) h in
    ap (λ (c : Option ClassTree). told_of_routine g p (more_exprs e no_exprs) true c at) same
routine-called g p (more_exprs e (more_exprs f es)) at h = number_wrong p at (count_exprs es) _ ∙ sym (number_wrong p at (count_exprs es) _)

-- and of one that stands as an action
pub routine-action : (g : Ground) (p : Predefined) (es : ExprNodes) (at : Pos)
    → told_in_routine g p es ++ told_of_routine g p es (is_none_told (told_in_routine g p es)) (only_class g es) at ≡ told_routine g (routine p) es at
routine-action g p no_exprs at = ap (λ (b : Bool). told_in_routine g p no_exprs ++ then_told (told_number at 0 (arguments_of p)) (told_if b (tell_at rules.S1 at))) (no_misfits (is_measuring p) p)
routine-action g p (more_exprs e no_exprs) at =
    let t = told_in g nothing_asked e in
    ap (λ (b : Bool). told_in_routine g p (more_exprs e no_exprs) ++ then_told (told_number at 1 (arguments_of p)) (told_if b (tell_at rules.S1 at)))
    (action_misfits (is_measuring p) t (value_told g nothing_asked e t ++ []) p (measured g e) (class_of g e))
routine-action g p (more_exprs e (more_exprs f es)) at =
    ap (λ (l : List Diagnostic). told_in_routine g p (more_exprs e (more_exprs f es)) ++ l) (number_wrong p at (count_exprs es) _ ∙ sym (number_wrong p at (count_exprs es) _))

-- the class of the only argument of a call in which nothing is told
pub class-called : (g : Ground) (p : Predefined) (es : ExprNodes) (at : Pos) → is_none_told (told_in_routine g p es) ≡ true → is_none_told (told_number at (count_exprs es) (arguments_of p)) ≡ true
    → only_class g es ≡ class_of_first g es
class-called g p no_exprs at h one = refl
class-called g p (more_exprs e no_exprs) at h one = clean_inside (is_measuring p) (told_in g nothing_asked e) _ _ (class_of g e) h
class-called g p (more_exprs e (more_exprs f es)) at h one =
    let wrong : is_none_told (told_number at (suc (suc (count_exprs es))) (arguments_of p)) ≡ false = ap (λ (b : Bool). is_none_told (told_if (not b) (tell_at rules.S5 at))) (eq-other (suc (suc (count_exprs es))) (arguments_of p) (never_two p (count_exprs es))) in
    cc

pub ruleset routines = (routine-called, routine-action, class-called, one-argument, without-misfits, without-class, call-measuring, call-value, exprs-counted, none-both, none-then, append-nil, append_assoc)
