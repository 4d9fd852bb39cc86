-- An expression in whose calls what is passed back can be written leaves the counters of its body as they are.
use Rattle.std.proofs.Common.{◌≡◌, ℕ, suc, Bool, true, false, ◌&&◌, List, [], ◌∷◌, ◌++◌, Option, Some, None, refl, sym, ap, ◌∙◌, subst, true≢false}
use Rattle.std.specs.Prelude.{if◌then◌else◌, slice_get, option_map, option_and_then}
use Rattle.chill_tree.specs.declared.tree.name.Name.{Name}
use Rattle.chill_tree.specs.declared.tree.item.Passing.TheVariants as passings
use Rattle.chill_tree.specs.ExprTree.{ExprTree, ExprNodes, RangeTree, RangeNodes, whole, character, text, this_instance, paren, receive, start, tuple, uniform, name, apply, field, prefixed, binary, no_exprs, more_exprs, alone, between, no_ranges, more_ranges}
use Rattle.chill_tree.specs.SimpleTree.{ControlTree}
use Rattle.modes.specs.declared.mode.Bounds.{Bounds}
use Rattle.modes.specs.ModeTree.{ModeTree, ClassTree}
use Rattle.modes.specs.Form.{FormTree, form_of, of_powerset, of_array, of_structure}
use Rattle.modes.specs.Bounds.{bounds_of, values_of}
use Rattle.modes.specs.Scalars.{scalars_of}
use Rattle.checked_program.specs.declared.expr.Base.{Base}
use Rattle.program_trees.specs.ExprTree as made
use Rattle.checks_model.specs.Alike.{mode_in}
use Rattle.checks_model.specs.ValueTrees.{ValueTree, scalars_in}
use Rattle.checks_model.specs.Ground.{Predefined, get_int, a_counter, origin_of, entry_of, number_at}
use Rattle.checks_model.specs.Operations.{field_of_form, element_of_form}
use Rattle.checks_model.specs.Classes.{Callee, calls, routine, no_callee, callee_of, class_as, class_of, tuple_mode, shape_fits, uniform_fits, mode_of_part}
use Rattle.checks_model.specs.Constants.{has_form, constant_as}
use Rattle.checks_model.specs.ConstantRules.{told_of_constants}
use Rattle.checks_model.specs.WrittenModes.{unless_told}
use Rattle.checks_model.specs.ValueRules.{place_by_origin, place_by_mode, path_of}
use Rattle.table_laws.specs.Names.{names_in, names_in_each, names_in_range, names_in_ranges, some_name}
use Rattle.written_laws.specs.Written.{Each}
use Rattle.elaborated_laws.proofs.Told.{no_some, same_some, both_left, both_right, of_both, there_mapped, there_chained, unless_there}
use Rattle.elaboration_model.specs.Numbering.{Source, a_local, thing_of, thing_used, body_used, buffer_used}
use Rattle.elaboration_model.specs.Parts.{made_of, made_of_three, made_if}
use Rattle.elaboration_model.specs.Expressions.{count_in, constant_expr, folded, received_as, Root, at_base, of_value, Path, base_of, path_at, path_of_value, with_part, first_of_field, field_path, index_bounds, element_path, contents_at, operation_at, Target, target_at, target_of, Formal, formals_by, modes_by, argument_for, head_mode, rest_of, if_all, tuple_operation, uniform_operation, routine_operation, routine_on, applied_operation, applied_path, class_first, mode_in_brackets, formals_called, location_named, path_of_name, operator_before, operator_between, expr_as, path, arguments, received_each, only_one, ranges_as, range_as, parts_as, part_as}
use Rattle.expression_laws.proofs.Actions.{each_first, each_later}
use Rattle.expression_laws.proofs.Places.{is_located, part_place, in_place, free_located}
use Rattle.head_laws.proofs.Rows.{made_parts, three_parts}
use Rattle.code_laws.specs.Counters.{is_other, expr_leaves, operation_leaves, received_leaves, all_leave, parts_leave, target_leaves, ranges_leave, arguments_leave}
use Rattle.within_laws.specs.Within.{IsUsedWithin}
use Rattle.well_made_laws.proofs.Free.{is_back, IsFree, ArgumentsFree, CallFree, FreeIn, EachFree, RangeFree, RangesFree}
use Rattle.well_made_laws.proofs.Locals.{base_apart}

-- ---- what is made where all parts are there

pub record IfMade {A B C : Type 0} (f : A → B → Option C) (a : Option A) (b : Option B) (y : C) : Type 0 where
  pub first : A
  pub second : B
  pub of_first : a ≡ Some first
  pub of_second : b ≡ Some second
  pub whole : f first second ≡ Some y

pub if_parts : {A B C : Type 0} (f : A → B → Option C) (a : Option A) (b : Option B) (y : C) → made_if f a b ≡ Some y → IfMade f a b y
if_parts f (Some a) (Some b) y is = record { first = a; second = b; of_first = refl; of_second = refl; whole = is }
if_parts f None b y is = no_some y is
if_parts f (Some a) None y is = no_some y is

never_placed : (m : Option ModeTree) → is_located (place_by_mode false m).access ≡ false
never_placed None = refl
never_placed (Some m) = refl

-- a counter of a body: what it is defined by, and its number among the locals
pub record IsCounterOf (s : Source) (b k0 d0 : ℕ) : Type 0 where
  pub thing : thing_of s.rows d0 ≡ a_local b k0
  pub loop : ControlTree
  pub origin : slice_get s.known.origins d0 ≡ Some (a_counter loop)

module _ (s : Source) (b k0 d0 : ℕ) (counter : IsCounterOf s b k0 d0) where
  abbrev Own : List Name → Type 0
  Own ns = Each (IsUsedWithin s b) ns

  -- ---- parts of names

  abbrev RootLeaves : Root → Type 0
  RootLeaves (at_base base) = Unit {0}
  RootLeaves (of_value e) = expr_leaves k0 e ≡ true

  pub record PathLeaves (p : Path) : Type 0 where
    pub root : RootLeaves p.root
    pub parts : parts_leave k0 (made.part_nodes p.parts) ≡ true

  abbrev PartLeaves : made.PartTree → Type 0
  PartLeaves (made.one_field first count) = Unit {0}
  PartLeaves (made.one_element e bounds count) = expr_leaves k0 e ≡ true

  with_last : (ps : List made.PartTree) (part : made.PartTree) → PartLeaves part → parts_leave k0 (made.part_nodes ps) ≡ true → parts_leave k0 (made.part_nodes (ps ++ part ∷ [])) ≡ true
  with_last [] (made.one_field first count) last all = refl
  with_last [] (made.one_element e bounds count) last all = of_both (expr_leaves k0 e) true last refl
  with_last (made.one_field first count ∷ ps) part last all = with_last ps part last all
  with_last (made.one_element e bounds count ∷ ps) part last all =
      let rest = parts_leave k0 (made.part_nodes ps) in
      of_both (expr_leaves k0 e) (parts_leave k0 (made.part_nodes (ps ++ part ∷ []))) (both_left (expr_leaves k0 e) rest all) (with_last ps part last (both_right (expr_leaves k0 e) rest all))

  one_part : (p q : Path) (part : made.PartTree) (m : ModeTree) → with_part part m p ≡ q → PartLeaves part → PathLeaves p → PathLeaves q
  one_part p q part m is last all = subst PathLeaves is (record { root = all.root; parts = with_last p.parts part last all.parts })

  field_leaves : (n : List ℕ) (p q : Path) → field_path n p ≡ Some q → PathLeaves p → PathLeaves q
  field_leaves n p q is all =
      let there = there_mapped (λ m. with_part (made.one_field (first_of_field n (form_of p.mode)) (scalars_of m)) m p) (field_of_form n (form_of p.mode)) q is in
      one_part p q (made.one_field (first_of_field n (form_of p.mode)) (scalars_of there.0)) there.0 there.2 tt all

  element_leaves : (x : made.ExprTree) (p q : Path) → element_path x p ≡ Some q → expr_leaves k0 x ≡ true → PathLeaves p → PathLeaves q
  element_leaves x p q is index all =
      let of_bounds : Bounds → ModeTree → Path = λ c m. with_part (made.one_element x c (scalars_of m)) m p in
      let m = made_parts of_bounds (index_bounds (form_of p.mode)) (element_of_form (form_of p.mode)) q is in
      one_part p q (made.one_element x m.first (scalars_of m.later)) m.later m.whole index all

  operation_at_leaves : (p : Path) → PathLeaves p → operation_leaves k0 (operation_at p) ≡ true
  operation_at_leaves p all = by p.root all.root
    where
      by : (r : Root) → RootLeaves r → operation_leaves k0 (contents_at r p.parts (scalars_of p.mode)) ≡ true
      by (at_base base) root = all.parts
      by (of_value e) root = of_both (expr_leaves k0 e) (parts_leave k0 (made.part_nodes p.parts)) root all.parts

  value_path_leaves : (e : Option made.ExprTree) (c : Option ClassTree) (p : Path) → ((x : made.ExprTree) → e ≡ Some x → expr_leaves k0 x ≡ true) → path_of_value e c ≡ Some p → PathLeaves p
  value_path_leaves e c p inside is =
      let of_value_at : made.ExprTree → ModeTree → Path = λ e m. record { root = of_value e; parts = []; mode = m } in
      let m = made_parts of_value_at e (option_and_then mode_in c) p is in
      subst PathLeaves m.whole (record { root = inside m.first m.of_first; parts = refl })

  location_leaves : (base : Option Base) (m : Option ModeTree) (p : Path) → path_at base m ≡ Some p → PathLeaves p
  location_leaves base m p is =
      let at : Base → ModeTree → Path = λ base m. record { root = at_base base; parts = []; mode = m } in
      let made_by = made_parts at base m p is in
      subst PathLeaves made_by.whole (record { root = tt; parts = refl })

  -- ---- operations

  folded_leaves : (m : Option ModeTree) (e : ExprTree) (o : Option made.OperationTree) (x : made.ExprTree) → ((op : made.OperationTree) → o ≡ Some op → operation_leaves k0 op ≡ true) → folded s m e o ≡ Some x → expr_leaves k0 x ≡ true
  folded_leaves m e o x inside is = by (has_form s.known false e) is
    where
      by : (form : Bool)
          → (if form then unless_told (told_of_constants s.known e) (constant_expr (class_as s.known m e) (constant_as s.known m e)) else made_of (λ c o. made.expr (count_in c) (made.root_bounds c) o) (class_as s.known m e) o) ≡ Some x
          → expr_leaves k0 x ≡ true
      by true is =
          let as_constant : ClassTree → ValueTree → made.ExprTree = λ c v. made.expr (count_in c) (made.root_bounds c) (made.constant (scalars_in v)) in
          let m' = made_parts as_constant (class_as s.known m e) (constant_as s.known m e) x (unless_there (told_of_constants s.known e) (constant_expr (class_as s.known m e) (constant_as s.known m e)) x is) in
          subst (λ y. expr_leaves k0 y ≡ true) m'.whole refl
      by false is =
          let as_operation : ClassTree → made.OperationTree → made.ExprTree = λ c o. made.expr (count_in c) (made.root_bounds c) o in
          let m' = made_parts as_operation (class_as s.known m e) o x is in
          subst (λ y. expr_leaves k0 y ≡ true) m'.whole (inside m'.later m'.of_later)

  pub received_as_leaves : (m : Option ModeTree) (e : Option made.ExprTree) (r : made.ReceivedTree) → ((x : made.ExprTree) → e ≡ Some x → expr_leaves k0 x ≡ true) → received_as m e ≡ Some r → received_leaves k0 r ≡ true
  received_as_leaves m e r inside is =
      let taken : ModeTree → made.ExprTree → made.ReceivedTree = λ m e. made.received e (bounds_of m) in
      let m' = made_parts taken m e r is in
      subst (λ y. received_leaves k0 y ≡ true) m'.whole (inside m'.later m'.of_later)

  tuple_leaves : (f : FormTree) (ranges : Option made.RangeNodes) (parts : Option made.ReceivedNodes) (o : made.OperationTree) → ((rs : made.RangeNodes) → ranges ≡ Some rs → ranges_leave k0 rs ≡ true) → ((rs : made.ReceivedNodes) → parts ≡ Some rs → all_leave k0 rs ≡ true)
      → tuple_operation f ranges parts ≡ Some o → operation_leaves k0 o ≡ true
  tuple_leaves (of_powerset m) ranges parts o members elements is = let m' = made_parts made.powerset (bounds_of m) ranges o is in subst (λ y. operation_leaves k0 y ≡ true) m'.whole (members m'.later m'.of_later)
  tuple_leaves (of_array i e how) ranges parts o members elements is = let there = there_mapped made.parts parts o is in subst (λ y. operation_leaves k0 y ≡ true) there.2 (elements there.0 there.1)
  tuple_leaves (of_structure fs p) ranges parts o members elements is = let there = there_mapped made.parts parts o is in subst (λ y. operation_leaves k0 y ≡ true) there.2 (elements there.0 there.1)
  tuple_leaves f ranges parts o members elements is = no_some o is

  uniform_leaves : (f : FormTree) (r : made.ReceivedTree) (o : made.OperationTree) → received_leaves k0 r ≡ true → uniform_operation f r ≡ Some o → operation_leaves k0 o ≡ true
  uniform_leaves (of_array i e how) r o inside is = subst (λ y. operation_leaves k0 y ≡ true) (same_some (made.uniform (values_of i) r) o is) inside
  uniform_leaves f r o inside is = no_some o is

  routine_leaves : (p : Predefined) (c : Option ClassTree) (e : Option made.ExprTree) (o : made.OperationTree) → ((x : made.ExprTree) → e ≡ Some x → expr_leaves k0 x ≡ true) → routine_operation p c e ≡ Some o → operation_leaves k0 o ≡ true
  routine_leaves get_int c e o inside is = subst (λ y. operation_leaves k0 y ≡ true) (same_some made.get_int o is) refl
  routine_leaves p c e o inside is = let m' = made_parts made.routine (option_and_then (routine_on p) c) e o is in subst (λ y. operation_leaves k0 y ≡ true) m'.whole (inside m'.later m'.of_later)

  -- what a name with brackets is
  applied_leaves : (k : Callee) (es : ExprNodes) (c : Option ClassTree) (e : Option made.ExprTree) (p : Option Path) (o : made.OperationTree) → CallFree s k es
      → ((fs : List Formal) (as' : made.ArgumentNodes) → ArgumentsFree s fs es → arguments s fs es ≡ Some as' → arguments_leave k0 as' ≡ true) → ((x : made.ExprTree) → e ≡ Some x → expr_leaves k0 x ≡ true) → ((q : Path) → p ≡ Some q → PathLeaves q)
      → applied_operation s k (arguments s (formals_called s k) es) c e p ≡ Some o → operation_leaves k0 o ≡ true
  applied_leaves (calls n) es c e p o call args only leads is =
      let fs = formals_by s (origin_of s.known n) in
      let m' = made_parts (λ b as'. made.call (made.called b as')) (body_used s n) (arguments s fs es) o is in
      subst (λ y. operation_leaves k0 y ≡ true) m'.whole (args fs m'.later call m'.of_later)
  applied_leaves (routine q) es c e p o call args only leads is = routine_leaves q c e o only is
  applied_leaves no_callee es c e p o call args only leads is =
      let there = there_mapped operation_at p o is in subst (λ y. operation_leaves k0 y ≡ true) there.2 (operation_at_leaves there.0 (leads there.0 there.1))

  indexed_leaves : (index : Option made.ExprTree) (before : Option Path) (q : Path) → ((x : made.ExprTree) → index ≡ Some x → expr_leaves k0 x ≡ true) → ((p : Path) → before ≡ Some p → PathLeaves p) → made_if element_path index before ≡ Some q → PathLeaves q
  indexed_leaves index before q inside front is =
      let m' = if_parts element_path index before q is in
      element_leaves m'.first m'.second q m'.whole (inside m'.first m'.of_first) (front m'.second m'.of_second)

  called_path_leaves : (k : Callee) (v : Option made.ExprTree) (c : Option ClassTree) (p : Option Path) (q : Path) → ((x : made.ExprTree) → v ≡ Some x → expr_leaves k0 x ≡ true) → ((r : Path) → p ≡ Some r → PathLeaves r) → applied_path k v c p ≡ Some q → PathLeaves q
  called_path_leaves (calls n) v c p q inside leads is = value_path_leaves v c q inside is
  called_path_leaves (routine n) v c p q inside leads is = value_path_leaves v c q inside is
  called_path_leaves no_callee v c p q inside leads is = leads q is

  -- ---- locations that can be written

  abbrev RootOther : Root → Type 0
  RootOther (at_base base) = is_other k0 base ≡ true
  RootOther (of_value e) = Unit {0}

  used_apart : (n : Name) (d : ℕ) → is_located (place_by_origin (entry_of s.known n) (origin_of s.known n)).access ≡ true → number_at s.known.uses n.at ≡ Some d → d ≡ d0 → ⊥
  used_apart n d located at same =
      let origin : origin_of s.known n ≡ Some (a_counter counter.loop) = ap (option_and_then (slice_get s.known.origins)) at ∙ (ap (slice_get s.known.origins) same ∙ counter.origin) in
      let here : is_located (place_by_origin (entry_of s.known n) (Some (a_counter counter.loop))).access ≡ true = subst (λ o. is_located (place_by_origin (entry_of s.known n) o).access ≡ true) origin located in
      true≢false (sym here ∙ never_placed _)

  used_base : (n : Name) (base : Base) → IsUsedWithin s b n → is_located (place_by_origin (entry_of s.known n) (origin_of s.known n)).access ≡ true → option_and_then base_of (thing_used s n) ≡ Some base → is_other k0 base ≡ true
  used_base n base own located is = by (number_at s.known.uses n.at) refl is
    where
      by : (d : Option ℕ) → number_at s.known.uses n.at ≡ d → option_and_then base_of (option_map (thing_of s.rows) d) ≡ Some base → is_other k0 base ≡ true
      by None at is = no_some base is
      by (Some d) at is = base_apart s b k0 d0 counter.thing d base (own d at) (λ same. used_apart n d located at same) is

  path_other : (base : Option Base) (m : Option ModeTree) (p : Path) → ((x : Base) → base ≡ Some x → is_other k0 x ≡ true) → path_at base m ≡ Some p → RootOther p.root
  path_other base m p other is =
      let at : Base → ModeTree → Path = λ base m. record { root = at_base base; parts = []; mode = m } in
      let m' = made_parts at base m p is in
      subst (λ (x : Path). RootOther x.root) m'.whole (other m'.first m'.of_first)

  value_other : (e : Option made.ExprTree) (c : Option ClassTree) (p : Path) → path_of_value e c ≡ Some p → RootOther p.root
  value_other e c p is =
      let of_value_at : made.ExprTree → ModeTree → Path = λ e m. record { root = of_value e; parts = []; mode = m } in
      let m' = made_parts of_value_at e (option_and_then mode_in c) p is in
      subst (λ (x : Path). RootOther x.root) m'.whole tt

  name_other : (n : Name) (p : Path) → IsUsedWithin s b n → is_located (place_by_origin (entry_of s.known n) (origin_of s.known n)).access ≡ true → path_of_name s n ≡ Some p → RootOther p.root
  name_other n p own located is = by (has_form s.known false (name n)) is
    where
      by : (form : Bool) → (if form then path_of_value (folded s None (name n) None) (class_of s.known (name n)) else location_named s n) ≡ Some p → RootOther p.root
      by true is = value_other (folded s None (name n) None) (class_of s.known (name n)) p is
      by false is = path_other (option_and_then base_of (thing_used s n)) (option_and_then mode_in (class_of s.known (name n))) p (λ x at. used_base n x own located at) is

  same_root : (p q : Path) (part : made.PartTree) (m : ModeTree) → with_part part m p ≡ q → RootOther p.root → RootOther q.root
  same_root p q part m is other = subst (λ (x : Path). RootOther x.root) is other

  -- a location of which something is asked that only locations have is none of the counter
  pub base_other : (e : ExprTree) (p : Path) → Own (names_in e) → is_located (path_of s.known e).access ≡ true → path s e ≡ Some p → RootOther p.root
  base_other (name n) p own located is = name_other n p own.0 located is
  base_other (field at e n) p own located is =
      let there = there_chained (field_path n.text) (path s e) p is in
      let step = there_mapped (λ m. with_part (made.one_field (first_of_field n.text (form_of there.0.mode)) (scalars_of m)) m there.0) (field_of_form n.text (form_of there.0.mode)) p there.2 in
      same_root there.0 p (made.one_field (first_of_field n.text (form_of there.0.mode)) (scalars_of step.0)) step.0 step.2 (base_other e there.0 own (part_place (field_of_form n.text) (path_of s.known e) located).whole there.1)
  base_other (apply at e es) p own located is =
      let whole = (part_place element_of_form (path_of s.known e) located).whole in
      let called = (in_place s.known e whole).called in
      let index = only_one s (mode_in_brackets s (callee_of s.known e) e) es in
      let v = folded s None (apply at e es) (applied_operation s (callee_of s.known e) (arguments s (formals_called s (callee_of s.known e)) es) (class_first s es) (only_one s None es) None) in
      let brackets : made_if element_path index (path s e) ≡ Some p = sym (ap (λ k. applied_path k v (class_of s.known (apply at e es)) (made_if element_path index (path s e))) called) ∙ is in
      let m' = if_parts element_path index (path s e) p brackets in
      let of_bounds : Bounds → ModeTree → Path = λ c m. with_part (made.one_element m'.first c (scalars_of m)) m m'.second in
      let step = made_parts of_bounds (index_bounds (form_of m'.second.mode)) (element_of_form (form_of m'.second.mode)) p m'.whole in
      same_root m'.second p (made.one_element m'.first step.first (scalars_of step.later)) step.later step.whole (base_other e m'.second (each_first (IsUsedWithin s b) (names_in e) (names_in_each es) own) whole m'.of_second)
  base_other e p own located is = absurd (true≢false (sym located))

  -- what is set is none of the counter, and what is done to find it leaves that
  pub target_apart : (e : ExprTree) (p : Path) (t : Target) → Own (names_in e) → IsFree s e → path s e ≡ Some p → PathLeaves p → target_of p ≡ Some t → target_leaves k0 t.0 ≡ true
  target_apart e p t own free is inside made_of_it = by p.root (base_other e p own (free_located s.known e free) is) made_of_it
    where
      by : (r : Root) → RootOther r → target_at r p.parts p.mode ≡ Some t → target_leaves k0 t.0 ≡ true
      by (at_base base) other is =
          subst (λ (x : Target). target_leaves k0 x.0 ≡ true) (same_some (made.location base (made.part_nodes p.parts) (scalars_of p.mode), p.mode) t is) (of_both (is_other k0 base) (parts_leave k0 (made.part_nodes p.parts)) other inside.parts)
      by (of_value e) other is = no_some t is

  -- ---- arguments

  nothing_left : {A B : Type 0} (xs : List A) (x y : B) → if_all xs x ≡ Some y → x ≡ y
  nothing_left [] x y is = same_some x y is
  nothing_left (z ∷ zs) x y is = no_some y is

  argument_leaves : (f : Formal) (e : ExprTree) (a : made.ArgumentTree) (rest : made.ArgumentNodes) → (is_back f.0 ≡ true → IsFree s e) → Own (names_in e) → ((x : made.ExprTree) → expr_as s f.1 e ≡ Some x → expr_leaves k0 x ≡ true) → ((p : Path) → path s e ≡ Some p → PathLeaves p)
      → argument_for f (received_as f.1 (expr_as s f.1 e)) (option_and_then target_of (path s e)) ≡ Some a → arguments_leave k0 rest ≡ true → arguments_leave k0 (made.with_argument a rest) ≡ true
  argument_leaves (passings.In, m) e a rest free own inside leads is later =
      let there = there_mapped made.taken (received_as m (expr_as s m e)) a is in
      subst (λ y. arguments_leave k0 (made.with_argument y rest) ≡ true) there.2 (of_both (received_leaves k0 there.0) (arguments_leave k0 rest) (received_as_leaves m (expr_as s m e) there.0 inside there.1) later)
  argument_leaves (passings.Out, m) e a rest free own inside leads is later =
      let there = there_mapped (λ (t : Target). made.given t.0 (bounds_of t.1)) (option_and_then target_of (path s e)) a is in
      let p = there_chained target_of (path s e) there.0 there.1 in
      subst (λ y. arguments_leave k0 (made.with_argument y rest) ≡ true) there.2 (of_both (target_leaves k0 there.0.0) (arguments_leave k0 rest) (target_apart e p.0 there.0 own (free refl) p.1 (leads p.0 p.1) p.2) later)
  argument_leaves (passings.InOut, m) e a rest free own inside leads is later =
      let of_both_ways : ModeTree → Target → made.ArgumentTree = λ m t. made.both t.0 (bounds_of m) (bounds_of t.1) in
      let m' = made_parts of_both_ways m (option_and_then target_of (path s e)) a is in
      let p = there_chained target_of (path s e) m'.later m'.of_later in
      subst (λ y. arguments_leave k0 (made.with_argument y rest) ≡ true) m'.whole (of_both (target_leaves k0 m'.later.0) (arguments_leave k0 rest) (target_apart e p.0 m'.later own (free refl) p.1 (leads p.0 p.1) p.2) later)

  head_leaves : (fs : List Formal) (e : ExprTree) (es : ExprNodes) (as' : made.ArgumentNodes) → ArgumentsFree s fs (more_exprs e es) → Own (names_in e) → ((m : Option ModeTree) (x : made.ExprTree) → expr_as s m e ≡ Some x → expr_leaves k0 x ≡ true) → ((p : Path) → path s e ≡ Some p → PathLeaves p)
      → ((gs : List Formal) (bs : made.ArgumentNodes) → ArgumentsFree s gs es → arguments s gs es ≡ Some bs → arguments_leave k0 bs ≡ true)
      → arguments s fs (more_exprs e es) ≡ Some as' → arguments_leave k0 as' ≡ true
  head_leaves [] e es as' free own inside leads later is =
      let m' = made_parts made.with_argument None (arguments s [] es) as' is in
      no_some m'.first m'.of_first
  head_leaves (f ∷ fs) e es as' free own inside leads later is =
      let first = argument_for f (received_as f.1 (expr_as s f.1 e)) (option_and_then target_of (path s e)) in
      let m' = made_parts made.with_argument first (arguments s fs es) as' is in
      subst (λ y. arguments_leave k0 y ≡ true) m'.whole (argument_leaves f e m'.first m'.later free.0 own (inside f.1) leads m'.of_first (later fs m'.later free.1 m'.of_later))

  abbrev RangeLeaves : made.RangeTree → Type 0
  RangeLeaves (made.alone e) = expr_leaves k0 e ≡ true
  RangeLeaves (made.between e f) = (expr_leaves k0 e ≡ true) × (expr_leaves k0 f ≡ true)

  with_range_leaves : (r : made.RangeTree) (rs : made.RangeNodes) → RangeLeaves r → ranges_leave k0 rs ≡ true → ranges_leave k0 (made.with_range r rs) ≡ true
  with_range_leaves (made.alone e) rs own rest = of_both (expr_leaves k0 e) (ranges_leave k0 rs) own rest
  with_range_leaves (made.between e f) rs own rest = of_both (expr_leaves k0 e) (expr_leaves k0 f && ranges_leave k0 rs) own.0 (of_both (expr_leaves k0 f) (ranges_leave k0 rs) own.1 rest)

  -- a name alone
  name_path : (n : Name) (p : Path) → path_of_name s n ≡ Some p → PathLeaves p
  name_path n p is = by (has_form s.known false (name n)) is
    where
      by : (form : Bool) → (if form then path_of_value (folded s None (name n) None) (class_of s.known (name n)) else location_named s n) ≡ Some p → PathLeaves p
      by true is = value_path_leaves (folded s None (name n) None) (class_of s.known (name n)) p (λ x at. folded_leaves None (name n) None x (λ op none. no_some op none) at) is
      by false is = location_leaves (option_and_then base_of (thing_used s n)) (option_and_then mode_in (class_of s.known (name n))) p is

  -- ---- expressions

  mutual
    pub expr_leave : (m : Option ModeTree) (e : ExprTree) (x : made.ExprTree) → FreeIn s e → Own (names_in e) → expr_as s m e ≡ Some x → expr_leaves k0 x ≡ true
    expr_leave m (whole at n) x free own is = folded_leaves m (whole at n) None x (λ op none. no_some op none) is
    expr_leave m (character at n) x free own is = folded_leaves m (character at n) None x (λ op none. no_some op none) is
    expr_leave m (text at n) x free own is = folded_leaves m (text at n) None x (λ op none. no_some op none) is
    expr_leave m (this_instance at) x free own is = folded_leaves m (this_instance at) (Some made.own_instance) x (λ op at'. subst (λ y. operation_leaves k0 y ≡ true) (same_some made.own_instance op at') refl) is
    expr_leave m (paren at e) x free own is = expr_leave m e x free own is
    expr_leave m (receive at n) x free own is =
        folded_leaves m (receive at n) (option_map made.receive (buffer_used s n)) x (λ op at'. let there = there_mapped made.receive (buffer_used s n) op at' in subst (λ y. operation_leaves k0 y ≡ true) there.2 refl) is
    expr_leave m (start at n es) x free own is =
        let ms = modes_by s (origin_of s.known n) in
        folded_leaves m (start at n es) (made_of (λ b rs. made.start (made.started b rs)) (body_used s n) (received_each s ms es)) x
        (λ op at'. let m' = made_parts (λ b rs. made.start (made.started b rs)) (body_used s n) (received_each s ms es) op at' in subst (λ y. operation_leaves k0 y ≡ true) m'.whole (each_leave ms es m'.later free own.1 m'.of_later)) is
    expr_leave m (tuple at n c rs) x free own is =
        let operation : ModeTree → Option made.OperationTree = λ mode. tuple_operation (form_of mode) (ranges_as s mode rs) (parts_as s (shape_fits rs) 0 (Some mode) rs) in
        let inner = each_later (IsUsedWithin s b) (some_name n) (names_in_ranges rs) own in
        folded_leaves m (tuple at n c rs) (option_and_then operation (tuple_mode s.known n m)) x
        (λ op at'. let there = there_chained operation (tuple_mode s.known n m) op at' in
        tuple_leaves (form_of there.0) (ranges_as s there.0 rs) (parts_as s (shape_fits rs) 0 (Some there.0) rs) op (λ ys made_so. ranges_leave_all there.0 rs ys free inner made_so) (λ ys made_so. parts_leave_all (shape_fits rs) 0 (Some there.0) rs ys free inner made_so) there.2) is
    expr_leave m (uniform at n c e) x free own is =
        let k = mode_of_part uniform_fits 0 (tuple_mode s.known n m) in
        let operation : ModeTree → made.ReceivedTree → Option made.OperationTree = λ mode r. uniform_operation (form_of mode) r in
        folded_leaves m (uniform at n c e) (made_if operation (tuple_mode s.known n m) (received_as k (expr_as s k e))) x
        (λ op at'. let m' = if_parts operation (tuple_mode s.known n m) (received_as k (expr_as s k e)) op at' in
        uniform_leaves (form_of m'.first) m'.second op (received_as_leaves k (expr_as s k e) m'.second (λ y made_so. expr_leave k e y free (each_later (IsUsedWithin s b) (some_name n) (names_in e) own) made_so) m'.of_second) m'.whole) is
    expr_leave m (name n) x free own is =
        folded_leaves m (name n) (option_map operation_at (location_named s n)) x
        (λ op at'. let there = there_mapped operation_at (location_named s n) op at' in
        subst (λ y. operation_leaves k0 y ≡ true) there.2 (operation_at_leaves there.0 (location_leaves (option_and_then base_of (thing_used s n)) (option_and_then mode_in (class_of s.known (name n))) there.0 there.1))) is
    expr_leave m (apply at e es) x free own is =
        let first = each_first (IsUsedWithin s b) (names_in e) (names_in_each es) own in
        let later = each_later (IsUsedWithin s b) (names_in e) (names_in_each es) own in
        let k = callee_of s.known e in
        let index = only_one s (mode_in_brackets s k e) es in
        folded_leaves m (apply at e es) (applied_operation s k (arguments s (formals_called s k) es) (class_first s es) index (made_if element_path index (path s e))) x
        (λ op at'. applied_leaves k es (class_first s es) index (made_if element_path index (path s e)) op free.2 (λ fs as' args made_so. arguments_leave_all fs es as' free.1 args later made_so) (λ y made_so. only_leave (mode_in_brackets s k e) es y free.1 later made_so)
        (λ q made_so. indexed_leaves index (path s e) q (λ y made_it. only_leave (mode_in_brackets s k e) es y free.1 later made_it) (λ p made_it. path_leave e p free.0 first made_it) made_so) at') is
    expr_leave m (field at e n) x free own is =
        folded_leaves m (field at e n) (option_map operation_at (option_and_then (field_path n.text) (path s e))) x
        (λ op at'. let there = there_mapped operation_at (option_and_then (field_path n.text) (path s e)) op at' in
        let before = there_chained (field_path n.text) (path s e) there.0 there.1 in
        subst (λ y. operation_leaves k0 y ≡ true) there.2 (operation_at_leaves there.0 (field_leaves n.text before.0 there.0 before.2 (path_leave e before.0 free own before.1)))) is
    expr_leave m (prefixed at o e) x free own is =
        folded_leaves m (prefixed at o e) (made_of (λ c e. made.prefixed (operator_before o c) e) (class_of s.known e) (expr_as s None e)) x
        (λ op at'. let m' = made_parts (λ c e. made.prefixed (operator_before o c) e) (class_of s.known e) (expr_as s None e) op at' in subst (λ y. operation_leaves k0 y ≡ true) m'.whole (expr_leave None e m'.later free own m'.of_later)) is
    expr_leave m (binary at l o p r) x free own is =
        let op_between = made_if (operator_between o) (class_of s.known l) (class_of s.known r) in
        folded_leaves m (binary at l o p r) (made_of_three made.binary op_between (expr_as s None l) (expr_as s None r)) x
        (λ op at'. let m' = three_parts made.binary op_between (expr_as s None l) (expr_as s None r) op at' in
        let one = expr_leave None l m'.middle free.0 (each_first (IsUsedWithin s b) (names_in l) (names_in r) own) m'.of_middle in
        let other = expr_leave None r m'.later free.1 (each_later (IsUsedWithin s b) (names_in l) (names_in r) own) m'.of_later in
        subst (λ y. operation_leaves k0 y ≡ true) m'.whole (of_both (expr_leaves k0 m'.middle) (expr_leaves k0 m'.later) one other)) is

    pub path_leave : (e : ExprTree) (p : Path) → FreeIn s e → Own (names_in e) → path s e ≡ Some p → PathLeaves p
    path_leave (name n) p free own is = name_path n p is
    path_leave (field at e n) p free own is = let there = there_chained (field_path n.text) (path s e) p is in field_leaves n.text there.0 p there.2 (path_leave e there.0 free own there.1)
    path_leave (apply at e es) p free own is =
        let first = each_first (IsUsedWithin s b) (names_in e) (names_in_each es) own in
        let later = each_later (IsUsedWithin s b) (names_in e) (names_in_each es) own in
        let k = callee_of s.known e in
        let index = only_one s (mode_in_brackets s k e) es in
        let o = applied_operation s k (arguments s (formals_called s k) es) (class_first s es) (only_one s None es) None in
        called_path_leaves k (folded s None (apply at e es) o) (class_of s.known (apply at e es)) (made_if element_path index (path s e)) p
        (λ y made_so. folded_leaves None (apply at e es) o y
        (λ op at'. applied_leaves k es (class_first s es) (only_one s None es) None op free.2 (λ fs as' args made_it. arguments_leave_all fs es as' free.1 args later made_it) (λ z made_it. only_leave None es z free.1 later made_it) (λ q none. no_some q none) at') made_so)
        (λ q made_so. indexed_leaves index (path s e) q (λ y made_it. only_leave (mode_in_brackets s k e) es y free.1 later made_it) (λ r made_it. path_leave e r free.0 first made_it) made_so) is
    path_leave e p free own is = no_some p is

    pub arguments_leave_all : (fs : List Formal) (es : ExprNodes) (as' : made.ArgumentNodes) → EachFree s es → ArgumentsFree s fs es → Own (names_in_each es) → arguments s fs es ≡ Some as' → arguments_leave k0 as' ≡ true
    arguments_leave_all fs no_exprs as' free args own is = subst (λ y. arguments_leave k0 y ≡ true) (nothing_left fs made.no_arguments as' is) refl
    arguments_leave_all fs (more_exprs e es) as' free args own is =
        let first = each_first (IsUsedWithin s b) (names_in e) (names_in_each es) own in
        let later = each_later (IsUsedWithin s b) (names_in e) (names_in_each es) own in
        head_leaves fs e es as' args first (λ m x made_so. expr_leave m e x free.0 first made_so) (λ p made_so. path_leave e p free.0 first made_so) (λ gs bs rest made_so. arguments_leave_all gs es bs free.1 rest later made_so) is

    pub each_leave : (ms : List (Option ModeTree)) (es : ExprNodes) (rs : made.ReceivedNodes) → EachFree s es → Own (names_in_each es) → received_each s ms es ≡ Some rs → all_leave k0 rs ≡ true
    each_leave ms no_exprs rs free own is = subst (λ y. all_leave k0 y ≡ true) (nothing_left ms made.no_received rs is) refl
    each_leave ms (more_exprs e es) rs free own is =
        let m' = made_parts made.more_received (received_as (head_mode ms) (expr_as s (head_mode ms) e)) (received_each s (rest_of ms) es) rs is in
        let one = received_as_leaves (head_mode ms) (expr_as s (head_mode ms) e) m'.first (λ y made_so. expr_leave (head_mode ms) e y free.0 (each_first (IsUsedWithin s b) (names_in e) (names_in_each es) own) made_so) m'.of_first in
        let rest = each_leave (rest_of ms) es m'.later free.1 (each_later (IsUsedWithin s b) (names_in e) (names_in_each es) own) m'.of_later in
        subst (λ y. all_leave k0 y ≡ true) m'.whole (of_both (received_leaves k0 m'.first) (all_leave k0 m'.later) one rest)

    pub only_leave : (m : Option ModeTree) (es : ExprNodes) (x : made.ExprTree) → EachFree s es → Own (names_in_each es) → only_one s m es ≡ Some x → expr_leaves k0 x ≡ true
    only_leave m no_exprs x free own is = no_some x is
    only_leave m (more_exprs e no_exprs) x free own is = expr_leave m e x free.0 (each_first (IsUsedWithin s b) (names_in e) [] own) is
    only_leave m (more_exprs e (more_exprs f fs)) x free own is = no_some x is

    ranges_leave_all : (mode : ModeTree) (rs : RangeNodes) (ys : made.RangeNodes) → RangesFree s rs → Own (names_in_ranges rs) → ranges_as s mode rs ≡ Some ys → ranges_leave k0 ys ≡ true
    ranges_leave_all mode no_ranges ys free own is = subst (λ y. ranges_leave k0 y ≡ true) (same_some made.no_ranges ys is) refl
    ranges_leave_all mode (more_ranges r rs) ys free own is =
        let k = mode_of_part (λ f. true) 0 (Some mode) in
        let m' = made_parts made.with_range (range_as s k r) (ranges_as s mode rs) ys is in
        let one = range_leave k r m'.first free.0 (each_first (IsUsedWithin s b) (names_in_range r) (names_in_ranges rs) own) m'.of_first in
        let rest = ranges_leave_all mode rs m'.later free.1 (each_later (IsUsedWithin s b) (names_in_range r) (names_in_ranges rs) own) m'.of_later in
        subst (λ y. ranges_leave k0 y ≡ true) m'.whole (with_range_leaves m'.first m'.later one rest)

    range_leave : (m : Option ModeTree) (r : RangeTree) (y : made.RangeTree) → RangeFree s r → Own (names_in_range r) → range_as s m r ≡ Some y → RangeLeaves y
    range_leave m (alone e) y free own is = let there = there_mapped made.alone (expr_as s m e) y is in subst RangeLeaves there.2 (expr_leave m e there.0 free own there.1)
    range_leave m (between l h) y free own is =
        let m' = made_parts made.between (expr_as s m l) (expr_as s m h) y is in
        subst RangeLeaves m'.whole (expr_leave m l m'.first free.0 (each_first (IsUsedWithin s b) (names_in l) (names_in h) own) m'.of_first, expr_leave m h m'.later free.1 (each_later (IsUsedWithin s b) (names_in l) (names_in h) own) m'.of_later)

    parts_leave_all : (fits : FormTree → Bool) (k : ℕ) (m : Option ModeTree) (rs : RangeNodes) (ys : made.ReceivedNodes) → RangesFree s rs → Own (names_in_ranges rs) → parts_as s fits k m rs ≡ Some ys → all_leave k0 ys ≡ true
    parts_leave_all fits k m no_ranges ys free own is = subst (λ y. all_leave k0 y ≡ true) (same_some made.no_received ys is) refl
    parts_leave_all fits k m (more_ranges r rs) ys free own is =
        let n = mode_of_part fits k m in
        let m' = made_parts made.more_received (part_as s n r) (parts_as s fits (suc k) m rs) ys is in
        let one = part_leave n r m'.first free.0 (each_first (IsUsedWithin s b) (names_in_range r) (names_in_ranges rs) own) m'.of_first in
        let rest = parts_leave_all fits (suc k) m rs m'.later free.1 (each_later (IsUsedWithin s b) (names_in_range r) (names_in_ranges rs) own) m'.of_later in
        subst (λ y. all_leave k0 y ≡ true) m'.whole (of_both (received_leaves k0 m'.first) (all_leave k0 m'.later) one rest)

    part_leave : (m : Option ModeTree) (r : RangeTree) (y : made.ReceivedTree) → RangeFree s r → Own (names_in_range r) → part_as s m r ≡ Some y → received_leaves k0 y ≡ true
    part_leave m (alone e) y free own is = received_as_leaves m (expr_as s m e) y (λ z made_so. expr_leave m e z free own made_so) is
    part_leave m (between l h) y free own is = no_some y is
