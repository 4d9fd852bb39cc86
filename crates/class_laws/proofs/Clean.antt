-- An expression in which nothing is told has its class, where what it names is known.
use Rattle.std.proofs.Common.{◌≡◌, Bool, true, false, List, [], ◌∷◌, ◌++◌, Option, Some, None, true≢false, arith, refl, sym, ap, ◌∙◌}
use Rattle.std.proofs.lemmas.Bool.{eqb-true}
use Rattle.std.specs.Prelude.{IsSome, is_some, option_map, option_and_then, not, ◌==◌, ◌&&◌, if◌then◌else◌, length, replicate}
use Rattle.chill_base.specs.declared.pos.Pos.{Pos}
use Rattle.chill_tree.specs.declared.tree.name.Name.{Name}
use Rattle.chill_tree.specs.declared.tree.expr.Operator.{Operator}
use Rattle.chill_tree.specs.declared.tree.expr.Prefix.{Prefix}
use Rattle.chill_tree.specs.ExprTree.{ExprTree, ExprNodes, whole, character, text, this_instance, paren, receive, start, tuple, uniform, name, apply, field, prefixed, binary, no_exprs, more_exprs, place_of}
use Rattle.modes.specs.ModeTree.{ModeTree, ClassTree, value}
use Rattle.modes.specs.Form.{FormTree, form_of}
use Rattle.diagnostics.specs.declared.diagnostic.Diagnostic.{Diagnostic}
use Rattle.diagnostics.specs.declared.rule.Rule.TheVariants as rules
use Rattle.checks_model.specs.Told.{tell_at, told_if, is_none_told, then_told, holds_of, holds_of_both}
use Rattle.checks_model.specs.Ground.{Ground, Predefined, of_mode as of_its_mode, truth, no_instance, num, succ, pred, abs, card, min, max, upper, lower, size, put_int, put_text, put_nl, get_int, origin_of, entry_of, mode_of_entry, element_of}
use Rattle.checks_model.specs.Operations.{class_of_binary, class_of_unary, class_of_routine, class_of_measure, part_of_class, element_of_form, field_of_form, is_measuring, gives_no_value, arguments_of, operands_misfit, operand_misfits, when}
use Rattle.checks_model.specs.Classes.{class_as, class_of, class_of_first, class_behind, class_of_call, class_of_measured, both_classes, result_class, Callee, calls, routine, no_callee, callee_of, Measured, a_mode_of, misfit, other, measured_first, measured_misfits, tuple_mode, value_if, shape_fits, uniform_fits, mode_of_part, count_exprs}
use Rattle.checks_model.specs.ValueRules.{Receiver, nothing_asked, of_mode, passed_back, condition, selector, bound, set_of_members, received_mode, told_received, own_told, value_told, call_misfits, told_number, receivers_of, receivers_behind, clean_class, returns_none, shape_misfits, told_behind, told_in, told_in_args, told_inside_each, told_in_parts, index_mode, is_too_large, bare}
use Rattle.class_laws.specs.Known.{HasMode, MeasuredKnown, RoutineKnown, BracketsKnown, FirstKnown, is_unknown_place, CleanLaw}

-- ---- lists in which nothing is told

none_first : (xs ys : List Diagnostic) → xs ++ ys ≡ [] → xs ≡ []
none_first [] ys none = refl
none_first (x ∷ xs) ys none = absurd (true≢false (sym (ap is_none_told none)))

none_later : (xs ys : List Diagnostic) → xs ++ ys ≡ [] → ys ≡ []
none_later [] ys none = none
none_later (x ∷ xs) ys none = absurd (true≢false (sym (ap is_none_told none)))

none_inside : (xs ys : List Diagnostic) → then_told xs ys ≡ [] → xs ≡ []
none_inside xs ys none = none_first xs (if is_none_told xs then ys else []) none

none_then : (xs ys : List Diagnostic) → then_told xs ys ≡ [] → ys ≡ []
none_then [] ys none = none
none_then (x ∷ xs) ys none = absurd (true≢false (sym (ap is_none_told none)))

pub not_broken : (b : Bool) (d : Diagnostic) → told_if b d ≡ [] → b ≡ false
not_broken false d none = refl
not_broken true d none = absurd (true≢false (sym (ap is_none_told none)))

pub not_true : (b : Bool) → not b ≡ false → b ≡ true
not_true true no_misfit = refl
not_true false no_misfit = absurd (true≢false no_misfit)

-- ---- classes that are there

mapped : {A B : Type 0} (f : A → B) (x : Option A) → IsSome x → IsSome (option_map f x)
mapped f (Some x) there = refl
mapped f None there = absurd (true≢false (sym there))

unary_there : (o : Prefix) (c : Option ClassTree) → IsSome c → holds_of (operand_misfits o) c ≡ false → IsSome (option_and_then (class_of_unary o) c)
unary_there o (Some c) there fits = not_true (is_some (class_of_unary o c)) fits
unary_there o None there fits = absurd (true≢false (sym there))

binary_there : (o : Operator) (c k : Option ClassTree) → IsSome c → IsSome k → holds_of_both (operands_misfit o) c k ≡ false → IsSome (both_classes (class_of_binary o) c k)
binary_there o (Some c) (Some k) left right fits = not_true (is_some (class_of_binary o c k)) fits
binary_there o None k left right fits = absurd (true≢false (sym left))
binary_there o (Some c) None left right fits = absurd (true≢false (sym right))

-- ---- tuples

fitting : (fits : FormTree → Bool) (m : ModeTree) (b : Bool) → fits (form_of m) ≡ b → not b ≡ false → IsSome (when b (value m))
fitting fits m true is fit = refl
fitting fits m false is fit = absurd (true≢false fit)

of_its_form : (fits : FormTree → Bool) (m : Option ModeTree) → IsSome m → holds_of (λ m. not (fits (form_of m))) m ≡ false → IsSome (option_and_then (value_if fits) m)
of_its_form fits (Some m) there fit = fitting fits m (fits (form_of m)) refl fit
of_its_form fits None there fit = absurd (true≢false (sym there))

-- where a place is of a mode that is known, an unnamed tuple takes that mode; where it is no place of a mode, S11 is told
shape_there : (g : Ground) (fits : FormTree → Bool) (n : Option Name) (r : Receiver) → HasMode g n → is_unknown_place r ≡ false → shape_misfits fits n r (tuple_mode g n (received_mode r)) ≡ false
    → IsSome (option_and_then (value_if fits) (tuple_mode g n (received_mode r)))
shape_there g fits (Some n) r known place fit = of_its_form fits (tuple_mode g (Some n) (received_mode r)) known fit
shape_there g fits None (of_mode (Some m)) known place fit = of_its_form fits (Some m) refl fit
shape_there g fits None (of_mode None) known place fit = absurd (true≢false place)
shape_there g fits None nothing_asked known place fit = absurd (true≢false fit)
shape_there g fits None (passed_back m) known place fit = absurd (true≢false fit)
shape_there g fits None condition known place fit = absurd (true≢false fit)
shape_there g fits None selector known place fit = absurd (true≢false fit)
shape_there g fits None bound known place fit = absurd (true≢false fit)
shape_there g fits None set_of_members known place fit = absurd (true≢false fit)

-- ---- brackets

-- what a routine is called with, and that nothing is told of it: its argument's class is there where that is a value
measure_there : (p : Predefined) (m : Measured) (c : Option ClassTree) → MeasuredKnown m (IsSome c) → measured_misfits p m c ≡ false → IsSome (class_of_measured p m)
measure_there p (a_mode_of (Some m)) c known fits = not_true (is_some (class_of_measure p m)) fits
measure_there p (a_mode_of None) c known fits = absurd (true≢false (sym known))
measure_there p misfit c known fits = absurd (true≢false fits)
measure_there p other c known fits = absurd (true≢false (sym known ∙ fits))

routine_there : (p : Predefined) (c : Option ClassTree) → IsSome c → holds_of (λ c. not (is_some (class_of_routine p c))) c ≡ false → IsSome (option_and_then (class_of_routine p) c)
routine_there p (Some c) there fits = not_true (is_some (class_of_routine p c)) fits
routine_there p None there fits = absurd (true≢false (sym there))

-- where there is one argument, or none is asked for
call_there : (g : Ground) (p : Predefined) (es : ExprNodes) → gives_no_value p ≡ false → call_misfits g p es ≡ false
    → (arguments_of p ≡ 1 → RoutineKnown (is_measuring p) (measured_first g es) (IsSome (class_of_first g es))) → IsSome (class_of_call p (measured_first g es) (class_of_first g es))
call_there g (of_its_mode m) es gives fits known = routine_there (of_its_mode m) (class_of_first g es) (known refl) fits
call_there g (truth b) es gives fits known = routine_there (truth b) (class_of_first g es) (known refl) fits
call_there g no_instance es gives fits known = routine_there no_instance (class_of_first g es) (known refl) fits
call_there g num es gives fits known = routine_there num (class_of_first g es) (known refl) fits
call_there g succ es gives fits known = routine_there succ (class_of_first g es) (known refl) fits
call_there g pred es gives fits known = routine_there pred (class_of_first g es) (known refl) fits
call_there g abs es gives fits known = routine_there abs (class_of_first g es) (known refl) fits
call_there g card es gives fits known = routine_there card (class_of_first g es) (known refl) fits
call_there g min es gives fits known = routine_there min (class_of_first g es) (known refl) fits
call_there g max es gives fits known = routine_there max (class_of_first g es) (known refl) fits
call_there g upper es gives fits known = measure_there upper (measured_first g es) (class_of_first g es) (known refl) fits
call_there g lower es gives fits known = measure_there lower (measured_first g es) (class_of_first g es) (known refl) fits
call_there g size es gives fits known = measure_there size (measured_first g es) (class_of_first g es) (known refl) fits
call_there g put_int es gives fits known = absurd (true≢false gives)
call_there g put_text es gives fits known = absurd (true≢false gives)
call_there g put_nl es gives fits known = absurd (true≢false gives)
call_there g get_int es gives fits known = refl

measured_known : {A B : Type 0} (m : Measured) → (A → B) → MeasuredKnown m A → MeasuredKnown m B
measured_known (a_mode_of m) f known = known
measured_known misfit f known = known
measured_known other f known = f known

routine_known : {A B : Type 0} (measures : Bool) (m : Measured) → (A → B) → RoutineKnown measures m A → RoutineKnown measures m B
routine_known true m f known = measured_known m f known
routine_known false m f known = f known

-- in arguments of a routine nothing is told as values, so nothing in them
own_inside : (g : Ground) (e : ExprTree) → own_told g nothing_asked e (told_in g nothing_asked e) ≡ [] → told_in g nothing_asked e ≡ []
own_inside g e none = none_inside (told_in g nothing_asked e) (told_if (holds_of is_too_large (class_of g e)) (tell_at rules.L6 (place_of (bare e)))) none

inside_first : (g : Ground) (r : Receiver) (e : ExprTree) → value_told g r e (told_in g r e) ≡ [] → told_in g r e ≡ []
inside_first g r e none =
    none_inside (told_in g r e) (told_if (holds_of is_too_large (class_as g (received_mode r) e)) (tell_at rules.L6 (place_of (bare e)))) (none_inside (own_told g r e (told_in g r e)) (told_received g r e) none)

args_inside : (g : Ground) (es : ExprNodes) → told_in_args g (replicate (count_exprs es) nothing_asked) es ≡ [] → told_inside_each g es ≡ []
args_inside g no_exprs none = refl
args_inside g (more_exprs e es) none =
    let first = none_first (value_told g nothing_asked e (told_in g nothing_asked e)) (told_in_args g (replicate (count_exprs es) nothing_asked) es) none in
    let rest = none_later (value_told g nothing_asked e (told_in g nothing_asked e)) (told_in_args g (replicate (count_exprs es) nothing_asked) es) none in
    ap (λ l. l ++ told_inside_each g es) (inside_first g nothing_asked e first) ∙ args_inside g es rest

routine_inside : (g : Ground) (measures : Bool) (es : ExprNodes) → (if measures then told_inside_each g es else told_in_args g (replicate (count_exprs es) nothing_asked) es) ≡ [] → told_inside_each g es ≡ []
routine_inside g true es none = none
routine_inside g false es none = args_inside g es none

-- what stands before brackets has its class, and so has the one argument, where nothing is told in them
record PartsThere (g : Ground) (base : Option ClassTree) (inside : List Diagnostic) (es : ExprNodes) (Base Argument : Type 0) : Type 0 where
  of_base : Base → inside ≡ [] → IsSome base
  of_argument : Argument → told_inside_each g es ≡ [] → count_exprs es ≡ 1 → IsSome (class_of_first g es)

behind_there : (g : Ground) (c : Callee) (at : Pos) (result base k : Option ClassTree) (inside : List Diagnostic) (es : ExprNodes) {Base Argument : Type 0} → PartsThere g base inside es Base Argument
    → BracketsKnown g c result Base Argument (measured_first g es) → told_behind g c at base inside (told_in_args g (receivers_behind g c k (count_exprs es)) es) (told_inside_each g es) es ≡ []
    → IsSome (class_behind c result base (measured_first g es) (class_of_first g es))
behind_there g (calls n) at result base k inside es there known none =
    let numbers = told_number at (count_exprs es) (length (receivers_of g n)) in
    let without = told_if (returns_none (origin_of g n)) (tell_at rules.S10 at) in
    known (not_broken (returns_none (origin_of g n)) (tell_at rules.S10 at) (none_later numbers without (none_then (told_in_args g (receivers_behind g (calls n) k (count_exprs es)) es) (numbers ++ without) none)))
behind_there g (routine p) at result base k inside es there known none =
    let in_args = if is_measuring p then told_inside_each g es else told_in_args g (replicate (count_exprs es) nothing_asked) es in
    let without = told_if (gives_no_value p) (tell_at rules.S10 at) in
    let numbers = told_number at (count_exprs es) (arguments_of p) in
    let misfit = told_if (call_misfits g p es) (tell_at rules.S1 at) in
    let at_it = none_then in_args (without ++ then_told numbers misfit) none in
    let at_arguments = none_later without (then_told numbers misfit) at_it in
    let count = not_true (count_exprs es == arguments_of p) (not_broken (not (count_exprs es == arguments_of p)) (tell_at rules.S5 at) (none_inside numbers misfit at_arguments)) in
    let clean = routine_inside g (is_measuring p) es (none_inside in_args (without ++ then_told numbers misfit) none) in
    call_there g p es (not_broken (gives_no_value p) (tell_at rules.S10 at) (none_first without (then_told numbers misfit) at_it))
    (not_broken (call_misfits g p es) (tell_at rules.S1 at) (none_then numbers misfit at_arguments))
    (λ one. routine_known (is_measuring p) (measured_first g es) (λ argument. there.of_argument argument clean (eqb-true (count_exprs es) (arguments_of p) count ∙ one)) known)
behind_there g no_callee at result base k inside es there known none =
    let in_args = told_in_args g (receivers_behind g no_callee k (count_exprs es)) es in
    mapped (part_of_class element_of_form) base
    (there.of_base known (none_first inside in_args (none_inside (inside ++ in_args) (told_if (is_some (index_mode base) && not (count_exprs es == 1)) (tell_at rules.S5 at)) none)))

-- ---- the law

mutual
  pub clean_there : CleanLaw
  clean_there g r (whole at n) known place none = refl
  clean_there g r (character at n) known place none = refl
  clean_there g r (text at n) known place none = refl
  clean_there g r (this_instance at) known place none = refl
  clean_there g r (paren at e) known place none = clean_there g r e known place none
  clean_there g r (receive at n) known place none = mapped value (option_and_then element_of (mode_of_entry (entry_of g n))) known
  clean_there g r (start at n es) known place none = refl
  clean_there g r (tuple at n b rs) known place none =
      let misfits = shape_misfits (shape_fits rs) n r (tuple_mode g n (received_mode r)) in
      shape_there g (shape_fits rs) n r known place (not_broken misfits (tell_at rules.S11 b) (none_then (told_in_parts g (shape_fits rs) 0 (tuple_mode g n (received_mode r)) rs) (told_if misfits (tell_at rules.S11 b)) none))
  clean_there g r (uniform at n b e) known place none =
      let misfits = shape_misfits uniform_fits n r (tuple_mode g n (received_mode r)) in
      let part = of_mode (mode_of_part uniform_fits 0 (tuple_mode g n (received_mode r))) in
      shape_there g uniform_fits n r known place (not_broken misfits (tell_at rules.S11 b) (none_then (value_told g part e (told_in g part e)) (told_if misfits (tell_at rules.S11 b)) none))
  clean_there g r (name n) known place none = known
  clean_there g r (apply at e es) known place none =
      behind_there g (callee_of g e) (place_of e) (result_class g e) (class_of g e) (clean_class (told_in g nothing_asked e) (class_of g e)) (told_in g nothing_asked e) es
      (record {
        of_base = λ base clean. clean_there g nothing_asked e base refl clean;
        of_argument = λ argument clean count. first_there g es argument clean count;
      })
      known none
  clean_there g r (field at e n) known place none = mapped (part_of_class (field_of_form n.text)) (class_of g e) (clean_there g nothing_asked e known refl none)
  clean_there g r (prefixed at o e) known place none =
      let inside = own_told g nothing_asked e (told_in g nothing_asked e) in
      let misfits = holds_of (operand_misfits o) (class_of g e) in
      unary_there o (class_of g e) (clean_there g nothing_asked e known refl (own_inside g e (none_inside inside (told_if misfits (tell_at rules.S1 at)) none)))
      (not_broken misfits (tell_at rules.S1 at) (none_then inside (told_if misfits (tell_at rules.S1 at)) none))
  clean_there g r (binary at l o p k) known place none =
      let left = own_told g nothing_asked l (told_in g nothing_asked l) in
      let right = own_told g nothing_asked k (told_in g nothing_asked k) in
      let misfits = holds_of_both (operands_misfit o) (class_of g l) (class_of g k) in
      let inside = none_inside (left ++ right) (told_if misfits (tell_at rules.S1 p)) none in
      binary_there o (class_of g l) (class_of g k) (clean_there g nothing_asked l known.0 refl (own_inside g l (none_first left right inside))) (clean_there g nothing_asked k known.1 refl (own_inside g k (none_later left right inside)))
      (not_broken misfits (tell_at rules.S1 p) (none_then (left ++ right) (told_if misfits (tell_at rules.S1 p)) none))

  first_there : (g : Ground) (es : ExprNodes) → FirstKnown g es → told_inside_each g es ≡ [] → count_exprs es ≡ 1 → IsSome (class_of_first g es)
  first_there g no_exprs known none count = absurd (omega (arith, count))
  first_there g (more_exprs e es) known none count = clean_there g nothing_asked e known refl (none_first (told_in g nothing_asked e) (told_inside_each g es) none)
