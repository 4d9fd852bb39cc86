-- Where nothing is told in an expression, each argument that is passed back is a location that can be written.
use Rattle.std.proofs.Common.{◌≡◌, ℕ, suc, Bool, true, false, ◌&&◌, List, [], ◌∷◌, ◌++◌, length, Option, Some, None, refl, sym, subst, true≢false}
use Rattle.std.specs.Prelude.{not, if◌then◌else◌, is_some, map, ◌==◌}
use Rattle.chill_tree.specs.declared.tree.item.Passing.{Passing}
use Rattle.chill_tree.specs.declared.tree.item.Passing.TheVariants as passings
use Rattle.chill_tree.specs.ExprTree.{ExprTree, ExprNodes, RangeTree, RangeNodes, whole, character, text, this_instance, paren, receive, start, tuple, uniform, name, apply, field, prefixed, binary, no_exprs, more_exprs, alone, between, no_ranges, more_ranges, place_of}
use Rattle.modes.specs.ModeTree.{ModeTree}
use Rattle.modes.specs.Form.{FormTree}
use Rattle.diagnostics.specs.declared.diagnostic.Diagnostic.{Diagnostic}
use Rattle.diagnostics.specs.declared.rule.Rule.TheVariants as rules
use Rattle.checks_model.specs.Alike.{are_v_equivalent}
use Rattle.checks_model.specs.Ground.{Ground, Predefined, origin_of}
use Rattle.checks_model.specs.Operations.{operands_misfit, operand_misfits, is_measuring, gives_no_value, arguments_of}
use Rattle.checks_model.specs.Classes.{Callee, calls, routine, no_callee, callee_of, class_as, class_of, tuple_mode, shape_fits, uniform_fits, mode_of_part, count_exprs}
use Rattle.checks_model.specs.Told.{tell_at, told_if, then_told, holds_of, holds_of_both}
use Rattle.checks_model.specs.ValueRules.{Receiver, nothing_asked, of_mode, passed_back, received_mode, place, is_free, does_not_fit_parameter, told_received, call_misfits, told_number, receivers_of, each_receiver, head_or_none, rest_of, returns_none, shape_misfits, is_too_large, bare, own_told, value_told, index_mode, receivers_behind, clean_class, told_behind, told_in, told_in_args, told_inside_each, told_in_range, told_in_parts}
use Rattle.elaborated_laws.proofs.Told.{none_first, none_later, none_inside, none_then, not_broken, both_left}
use Rattle.there_laws.proofs.Modes.{value_in}
use Rattle.elaboration_model.specs.Numbering.{Source}
use Rattle.elaboration_model.specs.Expressions.{Formal, formals_by}
use Rattle.expression_laws.specs.Names.{AreFormals, AllNamesKnown}
use Rattle.expression_laws.proofs.Known.{callee_called}
use Rattle.expression_laws.proofs.Applied.{told_inside, receiver_for, arguments_clean, procedure_receivers}
use Rattle.expression_laws.proofs.Expressions.{fits_parameter}

-- a parameter that gives its value back
abbrev pub is_back : Passing → Bool
is_back passings.In = false
is_back passings.Out = true
is_back passings.InOut = true

module _ (s : Source) where
  abbrev pub IsFree : ExprTree → Type 0
  IsFree e = is_free (place s.known e).access ≡ true

  -- what goes to a parameter that gives back can be written
  abbrev pub ArgumentsFree : List Formal → ExprNodes → Type 0
  ArgumentsFree [] es = Unit {0}
  ArgumentsFree (f ∷ fs) no_exprs = Unit {0}
  ArgumentsFree (f ∷ fs) (more_exprs e es) = (is_back f.0 ≡ true → IsFree e) × ArgumentsFree fs es

  abbrev pub CallFree : Callee → ExprNodes → Type 0
  CallFree (calls n) es = ArgumentsFree (formals_by s (origin_of s.known n)) es
  CallFree (routine p) es = Unit {0}
  CallFree no_callee es = Unit {0}

  abbrev mutual
    -- so it is in each call in an expression
    pub FreeIn : ExprTree → Type 0
    FreeIn (whole at n) = Unit {0}
    FreeIn (character at n) = Unit {0}
    FreeIn (text at n) = Unit {0}
    FreeIn (this_instance at) = Unit {0}
    FreeIn (paren at e) = FreeIn e
    FreeIn (receive at n) = Unit {0}
    FreeIn (start at n es) = EachFree es
    FreeIn (tuple at m b rs) = RangesFree rs
    FreeIn (uniform at m b e) = FreeIn e
    FreeIn (name n) = Unit {0}
    FreeIn (apply at e es) = FreeIn e × EachFree es × CallFree (callee_of s.known e) es
    FreeIn (field at e n) = FreeIn e
    FreeIn (prefixed at o e) = FreeIn e
    FreeIn (binary at l o p r) = FreeIn l × FreeIn r

    pub EachFree : ExprNodes → Type 0
    EachFree no_exprs = Unit {0}
    EachFree (more_exprs e es) = FreeIn e × EachFree es

    pub RangeFree : RangeTree → Type 0
    RangeFree (alone e) = FreeIn e
    RangeFree (between l h) = FreeIn l × FreeIn h

    pub RangesFree : RangeNodes → Type 0
    RangesFree no_ranges = Unit {0}
    RangesFree (more_ranges r rs) = RangeFree r × RangesFree rs

  -- ---- where nothing is told

  module _ (known : AllNamesKnown s) where
    abbrev g : Ground
    g = s.known

    back_free : (m : Option ModeTree) (e : ExprTree) → (q : ModeTree) → m ≡ Some q → value_told s.known (passed_back m) e (told_in s.known (passed_back m) e) ≡ [] → IsFree e
    back_free m e q is none =
        let misfits = holds_of (does_not_fit_parameter (place s.known e)) m in
        let fits = fits_parameter s.known e m q is (not_broken misfits (tell_at rules.S6 (place_of e)) (none_then (own_told s.known (passed_back m) e (told_in s.known (passed_back m) e)) (told_received s.known (passed_back m) e) none)) in
        both_left (is_free (place s.known e).access) (holds_of (λ own. are_v_equivalent own q) (place s.known e).mode) fits

    argument_free : (f : Formal) (e : ExprTree) → (q : ModeTree) → f.1 ≡ Some q → value_told s.known (receiver_for f) e (told_in s.known (receiver_for f) e) ≡ [] → is_back f.0 ≡ true → IsFree e
    argument_free (passings.In, m) e q is none back = absurd (true≢false (sym back))
    argument_free (passings.Out, m) e q is none back = back_free m e q is none
    argument_free (passings.InOut, m) e q is none back = back_free m e q is none

    pub arguments_free : (fs : List Formal) (es : ExprNodes) → AreFormals fs → told_in_args s.known (map receiver_for fs) es ≡ [] → ArgumentsFree fs es
    arguments_free [] es places none = tt
    arguments_free (f ∷ fs) no_exprs places none = tt
    arguments_free (f ∷ fs) (more_exprs e es) places none =
        let own = value_told s.known (receiver_for f) e (told_in s.known (receiver_for f) e) in
        let rest = told_in_args s.known (map receiver_for fs) es in
        let q = value_in f.1 places.0.there in
        (argument_free f e q.0 q.1 (none_first own rest none), arguments_free fs es places.1 (none_later own rest none))

    routine_named : (e : ExprTree) (p : Predefined) → callee_of s.known e ≡ routine p → FreeIn e
    routine_named (name n) p is = tt
    routine_named e p is = absurd (let f : ⊥ = cc in f)

    pub by_measuring : (b : Bool) (measured args : List Diagnostic) (A : Type 0) → (measured ≡ [] → A) → (args ≡ [] → A) → (if b then measured else args) ≡ [] → A
    by_measuring true measured args A one other none = one none
    by_measuring false measured args A one other none = other none

    -- brackets behind an expression
    behind_free : (k : Callee) (e : ExprTree) (es : ExprNodes) → callee_of s.known e ≡ k → (told_in s.known nothing_asked e ≡ [] → FreeIn e) → ((rs : List Receiver) → told_in_args s.known rs es ≡ [] → EachFree es) → (told_inside_each s.known es ≡ [] → EachFree es)
        → told_behind s.known k (place_of e) (class_of s.known e) (told_in s.known nothing_asked e) (told_in_args s.known (receivers_behind s.known k (clean_class (told_in s.known nothing_asked e) (class_of s.known e)) (count_exprs es)) es) (told_inside_each s.known es) es ≡ []
        → FreeIn e × EachFree es × CallFree k es
    behind_free (calls n) e es is inside each measured none =
        let args = told_in_args s.known (each_receiver (receivers_of s.known n) (count_exprs es)) es in
        let numbers = told_number (place_of e) (count_exprs es) (length (receivers_of s.known n)) in
        let without = told_if (returns_none (origin_of s.known n)) (tell_at rules.S10 (place_of e)) in
        let called = callee_called s.known e n is in
        let fs = formals_by s (origin_of s.known n) in
        let first = none_inside args (numbers ++ without) none in
        let clean = arguments_clean s.known receiver_for fs (receivers_of s.known n) es (place_of e) (procedure_receivers s n called.procedure) first (none_first numbers without (none_then args (numbers ++ without) none)) in
        (subst FreeIn (sym called.is_name) tt, each (each_receiver (receivers_of s.known n) (count_exprs es)) first, arguments_free fs es (known n).formals clean.told)
    behind_free (routine p) e es is inside each measured none =
        let args = told_in_args s.known (receivers_behind s.known (routine p) (clean_class (told_in s.known nothing_asked e) (class_of s.known e)) (count_exprs es)) es in
        let behind = told_if (gives_no_value p) (tell_at rules.S10 (place_of e)) ++ then_told (told_number (place_of e) (count_exprs es) (arguments_of p)) (told_if (call_misfits s.known p es) (tell_at rules.S1 (place_of e))) in (
          routine_named e p is,
          by_measuring (is_measuring p) (told_inside_each s.known es) args (EachFree es) measured (each (receivers_behind s.known (routine p) (clean_class (told_in s.known nothing_asked e) (class_of s.known e)) (count_exprs es)))
              (none_inside (if is_measuring p then told_inside_each s.known es else args) behind none),
          tt,
        )
    behind_free no_callee e es is inside each measured none =
        let own = told_in s.known nothing_asked e in
        let rs = receivers_behind s.known no_callee (clean_class (told_in s.known nothing_asked e) (class_of s.known e)) (count_exprs es) in
        let args = told_in_args s.known rs es in
        let both = none_inside (own ++ args) (told_if (is_some (index_mode (class_of s.known e)) && not (count_exprs es == 1)) (tell_at rules.S5 (place_of e))) none in
        (inside (none_first own args both), each rs (none_later own args both), tt)

    own_none : (e : ExprTree) → own_told s.known nothing_asked e (told_in s.known nothing_asked e) ≡ [] → told_in s.known nothing_asked e ≡ []
    own_none e none = none_inside (told_in s.known nothing_asked e) (told_if (holds_of is_too_large (class_as s.known None e)) (tell_at rules.L6 (place_of (bare e)))) none

    mutual
      pub expr_free : (r : Receiver) (e : ExprTree) → told_in s.known r e ≡ [] → FreeIn e
      expr_free r (whole at n) none = tt
      expr_free r (character at n) none = tt
      expr_free r (text at n) none = tt
      expr_free r (this_instance at) none = tt
      expr_free r (paren at e) none = expr_free r e none
      expr_free r (receive at n) none = tt
      expr_free r (start at n es) none =
          args_free (each_receiver (receivers_of s.known n) (count_exprs es)) es (none_inside (told_in_args s.known (each_receiver (receivers_of s.known n) (count_exprs es)) es) (told_number n.at (count_exprs es) (length (receivers_of s.known n))) none)
      expr_free r (tuple at m b rs) none =
          let own = tuple_mode s.known m (received_mode r) in
          parts_free (shape_fits rs) 0 own rs (none_inside (told_in_parts s.known (shape_fits rs) 0 own rs) (told_if (shape_misfits (shape_fits rs) m r own) (tell_at rules.S11 b)) none)
      expr_free r (uniform at m b e) none =
          let own = tuple_mode s.known m (received_mode r) in
          let inner = of_mode (mode_of_part uniform_fits 0 own) in
          expr_free inner e (told_inside s.known inner e (none_inside (value_told s.known inner e (told_in s.known inner e)) (told_if (shape_misfits uniform_fits m r own) (tell_at rules.S11 b)) none))
      expr_free r (name n) none = tt
      expr_free r (apply at e es) none = behind_free (callee_of s.known e) e es refl (expr_free nothing_asked e) (λ rs. args_free rs es) (inside_free es) none
      expr_free r (field at e n) none = expr_free nothing_asked e none
      expr_free r (prefixed at o e) none = expr_free nothing_asked e (own_none e (none_inside (own_told s.known nothing_asked e (told_in s.known nothing_asked e)) (told_if (holds_of (operand_misfits o) (class_of s.known e)) (tell_at rules.S1 at)) none))
      expr_free r (binary at lhs o p rhs) none =
          let left = own_told s.known nothing_asked lhs (told_in s.known nothing_asked lhs) in
          let right = own_told s.known nothing_asked rhs (told_in s.known nothing_asked rhs) in
          let both = none_inside (left ++ right) (told_if (holds_of_both (operands_misfit o) (class_of s.known lhs) (class_of s.known rhs)) (tell_at rules.S1 p)) none in
          (expr_free nothing_asked lhs (own_none lhs (none_first left right both)), expr_free nothing_asked rhs (own_none rhs (none_later left right both)))

      pub args_free : (rs : List Receiver) (es : ExprNodes) → told_in_args s.known rs es ≡ [] → EachFree es
      args_free rs no_exprs none = tt
      args_free rs (more_exprs e es) none =
          let r = head_or_none rs in
          let own = value_told s.known r e (told_in s.known r e) in
          let rest = told_in_args s.known (rest_of rs) es in
          (expr_free r e (told_inside s.known r e (none_first own rest none)), args_free (rest_of rs) es (none_later own rest none))

      pub inside_free : (es : ExprNodes) → told_inside_each s.known es ≡ [] → EachFree es
      inside_free no_exprs none = tt
      inside_free (more_exprs e es) none =
          let own = told_in s.known nothing_asked e in
          (expr_free nothing_asked e (none_first own (told_inside_each s.known es) none), inside_free es (none_later own (told_inside_each s.known es) none))

      range_free : (m : Option ModeTree) (r : RangeTree) → told_in_range s.known m r ≡ [] → RangeFree r
      range_free m (alone e) none = expr_free (of_mode m) e (told_inside s.known (of_mode m) e none)
      range_free m (between l h) none =
          let low = value_told s.known (of_mode m) l (told_in s.known (of_mode m) l) in
          let high = value_told s.known (of_mode m) h (told_in s.known (of_mode m) h) in
          (expr_free (of_mode m) l (told_inside s.known (of_mode m) l (none_first low high none)), expr_free (of_mode m) h (told_inside s.known (of_mode m) h (none_later low high none)))

      parts_free : (fits : FormTree → Bool) (k : ℕ) (m : Option ModeTree) (rs : RangeNodes) → told_in_parts s.known fits k m rs ≡ [] → RangesFree rs
      parts_free fits k m no_ranges none = tt
      parts_free fits k m (more_ranges r rs) none =
          let own = told_in_range s.known (mode_of_part fits k m) r in
          let rest = told_in_parts s.known fits (suc k) m rs in
          (range_free (mode_of_part fits k m) r (none_first own rest none), parts_free fits (suc k) m rs (none_later own rest none))

    pub value_free : (r : Receiver) (e : ExprTree) → value_told s.known r e (told_in s.known r e) ≡ [] → FreeIn e
    value_free r e none = expr_free r e (told_inside s.known r e none)
