-- What controls a loop is typed, where nothing is told of it.
use Rattle.std.proofs.Common.{◌≡◌, ℕ, Bool, true, false, ◌&&◌, ◌||◌, List, [], ◌∷◌, ◌++◌, Option, Some, None, ℤ, ◌⊎◌, inl, inr, refl, sym, ap, ◌∙◌, subst, true≢false}
use Rattle.std.specs.Prelude.{IsSome, not, if◌then◌else◌, option_map, option_and_then, flat_map}
use Rattle.chill_tree.specs.ExprTree.{ExprTree, place_of}
use Rattle.chill_tree.specs.SimpleTree.{ControlTree, while_holds, for_ever, for_members, for_steps}
use Rattle.modes.specs.declared.mode.Bounds.{Bounds}
use Rattle.modes.specs.ModeTree.{ModeTree, ClassTree, value, derived, null, nothing}
use Rattle.modes.specs.Form.{FormTree, form_of, of_int, of_powerset, of_instance}
use Rattle.modes.specs.Roots.{root_of}
use Rattle.modes.specs.Bounds.{bounds_of}
use Rattle.modes.specs.Similar.{Similar, Shape, shape_of, like_int, like_instance}
use Rattle.diagnostics.specs.declared.rule.Rule.TheVariants as rules
use Rattle.checked_program.specs.declared.program.Sort.TheVariants as sorts
use Rattle.program_trees.specs.ExprTree as made
use Rattle.program_trees.specs.StatementTree as done
use Rattle.checks_model.specs.Alike.{is_int, is_powerset, is_discrete, is_instance, mode_in, class_is, are_compatible}
use Rattle.checks_model.specs.Ground.{Ground}
use Rattle.checks_model.specs.Operations.{form_in, their_class}
use Rattle.checks_model.specs.Classes.{class_of}
use Rattle.checks_model.specs.ConstantRules.{told_of_constants}
use Rattle.checks_model.specs.Told.{tell_at, told_if, then_told, holds_of, holds_of_both}
use Rattle.checks_model.specs.ValueRules.{nothing_asked, condition, bound, set_of_members, told_value, told_some_value, told_in, clean_class}
use Rattle.checks_model.specs.ActionRules.{clean, told_step, step_misfits, bounds_misfit, counter_of, counter_of_both, member_in, counter_mode}
use Rattle.checks_model.specs.Sites.{at_control}
use Rattle.checks_model.specs.Phases.{some_expr}
use Rattle.written_laws.specs.Written.{Each}
use Rattle.elaborated_laws.specs.Known.{IsDeclarable}
use Rattle.elaborated_laws.proofs.Told.{none_first, none_later, none_inside, none_then, not_broken, not_true, not_second, neither_left, neither_right, both_left, both_right, no_some, same_some, there_mapped, there_chained}
use Rattle.elaborated_laws.proofs.Classes.{no_receiver}
use Rattle.statement_laws.proofs.Arguments.{alike}
use Rattle.there_laws.proofs.Modes.{value_in}
use Rattle.elaboration_model.specs.Numbering.{Source, local_defined}
use Rattle.elaboration_model.specs.Parts.{made_of_some}
use Rattle.elaboration_model.specs.Expressions.{expr_alone, mode_defined}
use Rattle.elaboration_model.specs.Statements.{low_of, members_loop, steps_loop, control}
use Rattle.expression_laws.specs.Names.{IsWellNamed, AllNamesKnown}
use Rattle.expression_laws.specs.Statements.{IsNodeClean}
use Rattle.expression_laws.proofs.Values.{class_valued}
use Rattle.expression_laws.proofs.Actions.{value_known, test_holds, each_first, each_later, flat_both, none_single}
use Rattle.constant_laws.proofs.Shapes.{form_shape, shape_is, root_shape, is_single, discrete_single, single_bounds, IsRooted, their_root, PowersetIn, powerset_in}
use Rattle.source_meaning.specs.TypedValues.{Context, HasMode, IsRootOfEither}
use Rattle.source_meaning.specs.TypedStatements as typed
use Rattle.source_meaning.specs.TypedStatements.{IsSomeCondition, IsOfInt, LocalHas, IsStepped, IsTypedControl}
use Rattle.typed_laws.specs.Typed.{mode_for, TypedAs}
use Rattle.action_laws.specs.Actions.{IsSound}
use Rattle.action_laws.specs.Controls.{ControlTyped, ControlTypedLaw}
use Rattle.typed_laws.proofs.Modes.{mode_for_in, tested_form, its_form, its_mode, compatible_alike}
use Rattle.typed_laws.proofs.Operators.{int_form}
use Rattle.typed_laws.proofs.Expressions.{expr_typed}
use Rattle.action_laws.proofs.Actions.{value_alone, condition_typed}

-- ---- shapes of counters

abbrev is_like_int : Shape → Bool
is_like_int like_int = true
is_like_int s = false

abbrev is_like_instance : Shape → Bool
is_like_instance like_instance = true
is_like_instance s = false

int_by_shape : (m : ModeTree) → is_like_int (shape_of m) ≡ true → form_of m ≡ of_int
int_by_shape m is = by (form_of m) (ap is_like_int (sym (shape_is m)) ∙ is)
  where
    by : (f : FormTree) → is_like_int (form_shape f) ≡ true → f ≡ of_int
    by of_int is = refl
    by f is = absurd (true≢false (sym is))

int_shape_of : (m : ModeTree) → is_int (form_of m) ≡ true → is_like_int (shape_of m) ≡ true
int_shape_of m is = ap is_like_int (shape_is m ∙ ap form_shape (int_form (form_of m) is))

-- the root of a discrete mode has bounds
root_bounded : (m : ModeTree) → is_discrete (form_of m) ≡ true → (b : Bounds) × (bounds_of (root_of m) ≡ Some b)
root_bounded m is = elim (single_bounds (root_of m) (ap is_single (root_shape m ∙ shape_is m) ∙ discrete_single (form_of m) is)) [
  | inl other ↦ absurd (no_instance (form_of m) is (ap is_like_instance (sym (shape_is m) ∙ (sym (root_shape m) ∙ shape_is (root_of m))) ∙ instance_like (form_of (root_of m)) other))
  | inr there ↦ value_in (bounds_of (root_of m)) there
]
  where
    instance_like : (f : FormTree) → is_instance f ≡ true → is_like_instance (form_shape f) ≡ true
    instance_like of_instance is = refl
    instance_like f is = absurd (true≢false (sym is))

    no_instance : (f : FormTree) → is_discrete f ≡ true → is_like_instance (form_shape f) ≡ true → ⊥
    no_instance of_instance is other = true≢false (sym is)
    no_instance f is other = true≢false (sym other)

-- ---- the parts of a loop

record MembersParts (k : Option ℕ) (set : Option made.ExprTree) (low : Option ℤ) (c : Option (Option made.ExprTree)) (x : done.ControlTree) : Type 0 where
  counter : ℕ
  members : made.ExprTree
  least : ℤ
  condition_is : Option made.ExprTree
  of_counter : k ≡ Some counter
  of_members : set ≡ Some members
  of_least : low ≡ Some least
  of_condition : c ≡ Some condition_is
  whole : done.for_members counter members least condition_is ≡ x

members_parts : (k : Option ℕ) (set : Option made.ExprTree) (low : Option ℤ) (c : Option (Option made.ExprTree)) (x : done.ControlTree) → members_loop k set low c ≡ Some x → MembersParts k set low c x
members_parts (Some k) (Some set) (Some low) (Some c) x is = record { counter = k; members = set; least = low; condition_is = c; of_counter = refl; of_members = refl; of_least = refl; of_condition = refl; whole = same_some (done.for_members k set low c) x is }
members_parts None set low c x is = no_some x is
members_parts (Some k) None low c x is = no_some x is
members_parts (Some k) (Some set) None c x is = no_some x is
members_parts (Some k) (Some set) (Some low) None x is = no_some x is

record StepsParts (down : Bool) (k : Option ℕ) (from : Option made.ExprTree) (step : Option (Option made.ExprTree)) (to : Option made.ExprTree) (c : Option (Option made.ExprTree)) (x : done.ControlTree) : Type 0 where
  counter : ℕ
  start : made.ExprTree
  by : Option made.ExprTree
  end : made.ExprTree
  condition_is : Option made.ExprTree
  of_counter : k ≡ Some counter
  of_start : from ≡ Some start
  of_step : step ≡ Some by
  of_end : to ≡ Some end
  of_condition : c ≡ Some condition_is
  whole : done.for_steps counter start by end down condition_is ≡ x

steps_parts : (down : Bool) (k : Option ℕ) (from : Option made.ExprTree) (step : Option (Option made.ExprTree)) (to : Option made.ExprTree) (c : Option (Option made.ExprTree)) (x : done.ControlTree) → steps_loop down k from step to c ≡ Some x → StepsParts down k from step to c x
steps_parts down (Some k) (Some from) (Some step) (Some to) (Some c) x is =
    record { counter = k; start = from; by = step; end = to; condition_is = c; of_counter = refl; of_start = refl; of_step = refl; of_end = refl; of_condition = refl; whole = same_some (done.for_steps k from step to down c) x is }
steps_parts down None from step to c x is = no_some x is
steps_parts down (Some k) None step to c x is = no_some x is
steps_parts down (Some k) (Some from) None to c x is = no_some x is
steps_parts down (Some k) (Some from) (Some step) None c x is = no_some x is
steps_parts down (Some k) (Some from) (Some step) (Some to) None x is = no_some x is

-- a statement around, of which the context alone is asked
abbrev around_it : Context → typed.Around
around_it ctx = record { context = ctx; sort = sorts.Outermost; result = None; labels = 0 }

module _ (s : Source) (ctx : Context) (known : AllNamesKnown s) where
  -- an expression whose class passes a test
  record TestedTyped (test : FormTree → Bool) (e : ExprTree) (x : made.ExprTree) : Type 0 where
    class : ClassTree
    is : class_of s.known e ≡ Some class
    clean_is : clean s.known e ≡ Some class
    passes : class_is test class ≡ true
    typed_as : TypedAs ctx x class

  bound_typed : (e : ExprTree) (x : made.ExprTree) → IsSound s ctx e → IsWellNamed s.known e → told_of_constants s.known e ≡ [] → told_value s.known bound e ≡ [] → expr_alone s e ≡ Some x → TestedTyped is_discrete e x
  bound_typed e x sound named constants none built =
      let g = s.known in
      let v = value_known s bound e known named refl none in
      let passes = test_holds is_discrete (class_of g e) v.class (tell_at rules.S8 (place_of e)) v.is v.received in
      record {
        class = v.class;
        is = v.is;
        clean_is = ap (λ l. clean_class l (class_of g e)) (sym (alike g bound refl refl e) ∙ v.told) ∙ v.is;
        passes = passes;
        typed_as = expr_typed s ctx known bound e v.class x sound.names sound.bytes (record { named = named; receives = no_receiver; constants = constants; told = v.told }) v.is (class_valued is_discrete v.class refl passes) built;
      }

  set_typed : (e : ExprTree) (x : made.ExprTree) → IsSound s ctx e → IsWellNamed s.known e → told_of_constants s.known e ≡ [] → told_value s.known set_of_members e ≡ [] → expr_alone s e ≡ Some x → TestedTyped is_powerset e x
  set_typed e x sound named constants none built =
      let g = s.known in
      let v = value_known s set_of_members e known named refl none in
      let passes = test_holds is_powerset (class_of g e) v.class (tell_at rules.S8 (place_of e)) v.is v.received in
      record {
        class = v.class;
        is = v.is;
        clean_is = ap (λ l. clean_class l (class_of g e)) (sym (alike g set_of_members refl refl e) ∙ v.told) ∙ v.is;
        passes = passes;
        typed_as = expr_typed s ctx known set_of_members e v.class x sound.names sound.bytes (record { named = named; receives = no_receiver; constants = constants; told = v.told }) v.is (class_valued is_powerset v.class refl passes) built;
      }

  some_condition : (c : Option ExprTree) (x : Option made.ExprTree) → Each (IsSound s ctx) (some_expr c) → Each (IsWellNamed s.known) (some_expr c) → flat_map (told_of_constants s.known) (some_expr c) ≡ [] → told_some_value s.known condition c ≡ [] → made_of_some (expr_alone s) c ≡ Some x → IsSomeCondition ctx x
  some_condition None x sound named constants none built = subst (λ q. IsSomeCondition ctx q) (same_some None x built) tt
  some_condition (Some e) x sound named constants none built =
      let there = there_mapped Some (expr_alone s e) x built in
      subst (λ q. IsSomeCondition ctx q) there.2 (condition_typed s (around_it ctx) known e there.0 sound.0 named.0 (none_single (told_of_constants s.known e) constants) none there.1)

  some_step : (counter : ModeTree) (f : FormTree) (b : Option ExprTree) (x : Option made.ExprTree) → (is_int (form_of counter) ≡ true → f ≡ of_int) → Each (IsSound s ctx) (some_expr b) → Each (IsWellNamed s.known) (some_expr b) → flat_map (told_of_constants s.known) (some_expr b) ≡ [] → told_step s.known (Some counter) b ≡ []
      → made_of_some (expr_alone s) b ≡ Some x → IsStepped ctx x f
  some_step counter f None x int_is sound named constants none built = subst (λ q. IsStepped ctx q f) (same_some None x built) tt
  some_step counter f (Some e) x int_is sound named constants none built =
      let g = s.known in
      let there = there_mapped Some (expr_alone s e) x built in
      let misfits = step_misfits g (Some counter) e in
      let misfit = told_if misfits (tell_at rules.S8 (place_of e)) in
      let v = value_known s nothing_asked e known named.0 refl (none_inside (told_value g nothing_asked e) misfit none) in
      let class : clean g e ≡ Some v.class = ap (λ l. clean_class l (class_of g e)) v.told ∙ v.is in
      let apart = holds_of (λ c. not (class_is is_int c)) (clean g e) in
      let no_int = not (is_int (form_of counter)) in
      let fine = not_broken misfits (tell_at rules.S8 (place_of e)) (none_then (told_value g nothing_asked e) misfit none) in
      let passes = not_true (class_is is_int v.class) (ap (holds_of (λ c. not (class_is is_int c))) (sym class) ∙ neither_left apart no_int fine) in
      let t = expr_typed s ctx known nothing_asked e v.class there.0 sound.0.names sound.0.bytes (record { named = named.0; receives = no_receiver; constants = none_single (told_of_constants g e) constants; told = v.told }) v.is (class_valued is_int v.class refl passes) there.1 in
      subst (λ q. IsStepped ctx q f) there.2 ((t.mode, t.has, int_form (form_of t.mode) (tested_form is_int v.class t.mode t.of passes)), int_is (not_true (is_int (form_of counter)) (neither_right apart no_int fine)))

  -- the mode of a counter: the root of one bound's
  record CounterIs (l h : ClassTree) (a b : ModeTree) : Type 0 where
    mode : ModeTree
    is : counter_of l h ≡ Some mode
    root : IsRootOfEither mode a b
    bounds : Bounds
    bounded : bounds_of mode ≡ Some bounds
    int_is : is_int (form_of mode) ≡ true → form_of a ≡ of_int

  counter_is : (l h : ClassTree) (a b : ModeTree) → mode_for l ≡ Some a → mode_for h ≡ Some b → class_is is_discrete l ≡ true → class_is is_discrete h ≡ true → are_compatible l h ≡ true → CounterIs l h a b
  counter_is l h a b left right first second same =
      let c = their_there l h first in
      let alike_is = compatible_alike l h a b left right same in
      let whole : counter_of l h ≡ option_and_then mode_in (their_class l h) = ap (λ x. if (x && class_is is_discrete h) && are_compatible l h then option_and_then mode_in (their_class l h) else None) first ∙ (ap (λ x. if x && are_compatible l h then option_and_then mode_in (their_class l h) else None) second ∙ ap (λ x. if x then option_and_then mode_in (their_class l h) else None) same) in
      let has : option_and_then mode_in (their_class l h) ≡ mode_in c.0 = ap (option_and_then mode_in) c.1 in
      elim (their_root l h c.0 c.1) [
        | inl r ↦ (let own = its_mode l a r.mode left r.of in let bounds = root_bounded r.mode (subst (λ m. is_discrete (form_of m) ≡ true) (sym own) (tested_form is_discrete l a left first)) in record { mode = root_of r.mode; is = whole ∙ (has ∙ r.is); root = inl (ap root_of own); bounds = bounds.0; bounded = bounds.1; int_is = λ is. int_by_shape a (ap is_like_int (ap shape_of (sym own) ∙ sym (root_shape r.mode)) ∙ int_shape_of (root_of r.mode) is) })
        | inr r ↦ (let own = its_mode h b r.mode right r.of in let bounds = root_bounded r.mode (subst (λ m. is_discrete (form_of m) ≡ true) (sym own) (tested_form is_discrete h b right second)) in record { mode = root_of r.mode; is = whole ∙ (has ∙ r.is); root = inr (ap root_of own); bounds = bounds.0; bounded = bounds.1; int_is = λ is. int_by_shape a (ap is_like_int (alike_is.shape ∙ (ap shape_of (sym own) ∙ sym (root_shape r.mode))) ∙ int_shape_of (root_of r.mode) is) })
      ]
    where
      their_there : (l h : ClassTree) → class_is is_discrete l ≡ true → (c : ClassTree) × (their_class l h ≡ Some c)
      their_there (value a) h is = (value (root_of a), refl)
      their_there (derived a) (value b) is = (value (root_of b), refl)
      their_there (derived a) (derived b) is = (derived (root_of a), refl)
      their_there (derived a) null is = (derived (root_of a), refl)
      their_there (derived a) nothing is = (derived (root_of a), refl)
      their_there null h is = absurd (true≢false (sym is))
      their_there nothing h is = absurd (true≢false (sym is))

pub control_typed_law : ControlTypedLaw
control_typed_law s ctx (while_holds at c) x known clean_is sound typed_names built =
    let there = there_mapped done.while_true (expr_alone s c) x built in
    subst (λ q. IsTypedControl ctx q) there.2 (condition_typed s (around_it ctx) known c there.0 sound.0 clean_is.named.0 (none_single (told_of_constants s.known c) clean_is.modes) clean_is.statements there.1)
control_typed_law s ctx (for_ever at) x known clean_is sound typed_names built = subst (λ q. IsTypedControl ctx q) (same_some done.for_ever x built) tt
control_typed_law s ctx (for_members at n set c) x known clean_is sound typed_names built =
    let g = s.known in
    let others = flat_map (told_of_constants g) (some_expr c) in
    let inside = told_value g set_of_members set in
    let turned = told_some_value g condition c in
    let parts = members_parts (local_defined s n) (expr_alone s set) (low_of (mode_defined s n)) (made_of_some (expr_alone s) c) x built in
    let t = set_typed s ctx known set parts.members sound.0 clean_is.named.0 (none_first (told_of_constants g set) others clean_is.modes) (none_first inside turned clean_is.statements) parts.of_members in
    let of = powerset_in t.class t.passes in
    let mode_is : counter_mode g (for_members at n set c) ≡ Some of.mode = ap (λ k. option_and_then member_in (option_and_then form_in k)) t.clean_is ∙ ap (option_and_then member_in) of.form in
    let least = there_mapped (λ (b : Bounds). b.low) (option_and_then bounds_of (mode_defined s n)) parts.least parts.of_least in
    let bounds = sym (ap (option_and_then bounds_of) (typed_names.0 ∙ mode_is)) ∙ least.1 in
    subst (λ q. IsTypedControl ctx q) parts.whole (
      (t.typed_as.mode, of.mode, least.0, t.typed_as.has, its_form t.class t.typed_as.mode (of_powerset of.mode) t.typed_as.of of.form, bounds, least.2, typed_names.1 of.mode parts.counter mode_is parts.of_counter),
      some_condition s ctx known c parts.condition_is sound.1 clean_is.named.1 (none_later (told_of_constants g set) others clean_is.modes) (none_later inside turned clean_is.statements) parts.of_condition,
    )
control_typed_law s ctx (for_steps at n from step down to c) x known clean_is sound typed_names built =
    let g = s.known in
    let start_is = told_value g bound from in
    let end_is = told_value g bound to in
    let misfits = holds_of_both bounds_misfit (clean g from) (clean g to) in
    let misfit = told_if misfits (tell_at rules.S8 (place_of to)) in
    let counter = counter_of_both (clean g from) (clean g to) in
    let stepped_is = told_step g counter step in
    let turned = told_some_value g condition c in
    let first_four = none_first (start_is ++ end_is ++ misfit ++ stepped_is) turned clean_is.statements in
    let first_three = none_first (start_is ++ end_is ++ misfit) stepped_is first_four in
    let first_two = none_first (start_is ++ end_is) misfit first_three in
    let behind = flat_map (told_of_constants g) (some_expr step ++ to ∷ some_expr c) in
    let own = flat_map (told_of_constants g) (some_expr step) in
    let last = flat_map (told_of_constants g) (some_expr c) in
    let constants = sym (flat_both (told_of_constants g) (some_expr step) (to ∷ some_expr c)) ∙ none_later (told_of_constants g from) behind clean_is.modes in
    let to_constants = none_later own (told_of_constants g to ++ last) constants in
    let later = each_later (IsWellNamed g) (some_expr step) (to ∷ some_expr c) clean_is.named.1 in
    let sounds = each_later (IsSound s ctx) (some_expr step) (to ∷ some_expr c) sound.1 in
    let parts = steps_parts down (local_defined s n) (expr_alone s from) (made_of_some (expr_alone s) step) (expr_alone s to) (made_of_some (expr_alone s) c) x built in
    let a = bound_typed s ctx known from parts.start sound.0 clean_is.named.0 (none_first (told_of_constants g from) behind clean_is.modes) (none_first start_is end_is first_two) parts.of_start in
    let b = bound_typed s ctx known to parts.end sounds.0 later.0 (none_first (told_of_constants g to) last to_constants) (none_later start_is end_is first_two) parts.of_end in
    let fit = not_broken misfits (tell_at rules.S8 (place_of to)) (none_later (start_is ++ end_is) misfit first_three) in
    let apart : bounds_misfit a.class b.class ≡ false = ap (λ k. holds_of_both bounds_misfit k (Some b.class)) (sym a.clean_is) ∙ (ap (λ k. holds_of_both bounds_misfit (clean g from) k) (sym b.clean_is) ∙ fit) in
    let both : (class_is is_discrete a.class && class_is is_discrete b.class) ≡ true = ap (λ k. k && class_is is_discrete b.class) a.passes ∙ b.passes in
    let same = not_true (are_compatible a.class b.class) (not_second (class_is is_discrete a.class && class_is is_discrete b.class) (not (are_compatible a.class b.class)) both apart) in
    let m = counter_is s ctx known a.class b.class a.typed_as.mode b.typed_as.mode a.typed_as.of b.typed_as.of a.passes b.passes same in
    let mode_is : counter ≡ Some m.mode = ap (λ k. counter_of_both k (clean g to)) a.clean_is ∙ (ap (λ k. counter_of_both (Some a.class) k) b.clean_is ∙ m.is) in
    subst (λ q. IsTypedControl ctx q) parts.whole (
      (
        m.mode,
        a.typed_as.mode,
        b.typed_as.mode,
        m.bounds,
        a.typed_as.has,
        b.typed_as.has,
        compatible_alike a.class b.class a.typed_as.mode b.typed_as.mode a.typed_as.of b.typed_as.of same,
        typed_names m.mode parts.counter mode_is parts.of_counter,
        m.root,
        m.bounded,
        some_step s ctx known m.mode (form_of a.typed_as.mode) step parts.by m.int_is (each_first (IsSound s ctx) (some_expr step) (to ∷ some_expr c) sound.1) (each_first (IsWellNamed g) (some_expr step) (to ∷ some_expr c) clean_is.named.1) (none_first own (told_of_constants g to ++ last) constants)
            (subst (λ k. told_step g k step ≡ []) mode_is (none_later (start_is ++ end_is ++ misfit) stepped_is first_four)) parts.of_step,
      ),
      some_condition s ctx known c parts.condition_is sounds.1 later.1 (none_later (told_of_constants g to) last to_constants) (none_later (start_is ++ end_is ++ misfit ++ stepped_is) turned clean_is.statements) parts.of_condition,
    )
