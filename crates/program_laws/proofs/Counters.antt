-- In a text that breaks no rule each counter has a mode: from the outermost loop in, the names around a loop have classes.
use Rattle.std.proofs.Common.{◌≡◌, ◌<◌, ℕ, zero, suc, Bool, true, false, List, [], ◌∷◌, ◌++◌, Option, Some, None, true≢false, ◌&&◌, arith, refl, sym, ap, ◌∙◌, subst, Contains}
use Rattle.std.specs.Prelude.{IsSome, is_some, not, slice_get, option_map, option_and_then, if◌then◌else◌}
use Rattle.std.proofs.lemmas.Option.{slice_get-map}
use Rattle.std.proofs.lemmas.List.Elements.{Contains-append_left, Contains-append_right}
use Rattle.diagnostics.specs.declared.rule.Rule.TheVariants as rules
use Rattle.chill_tree.specs.declared.tree.name.Name.{Name}
use Rattle.chill_tree.specs.ExprTree.{ExprTree, ExprNodes, whole, character, text as text_of_chars, this_instance, paren, receive, start, tuple, uniform, name, apply, field, prefixed, binary, no_exprs, more_exprs, place_of}
use Rattle.chill_tree.specs.SimpleTree.{ControlTree, while_holds, for_ever, for_members, for_steps}
use Rattle.chill_tree.specs.ItemTree.{ProgramTree}
use Rattle.modes.specs.ModeTree.{ClassTree, value, derived, null, nothing}
use Rattle.modes.specs.Form.{FormTree, form_of, of_powerset}
use Rattle.names_model.specs.declared.definition.Definition.{Definition}
use Rattle.names_model.specs.Definitions.{text_definitions, with_predefined}
use Rattle.names_model.specs.Resolving.{level_of}
use Rattle.names_laws.proofs.Members.{here_in}
use Rattle.names_model.specs.Identifiers.{identifier}
use Rattle.ground_laws.specs.Defining.{counter_named}
use Rattle.ground_laws.proofs.Defining.{origins_define}
use Rattle.checks_model.specs.Alike.{mode_in, are_compatible, class_is, is_discrete, is_powerset}
use Rattle.checks_model.specs.Ground.{Ground, Origin, a_counter, a_received, origin_of, entry_of, number_at, mode_of_entry, mode_of_name}
use Rattle.checks_model.specs.Operations.{form_in, their_class, is_measuring}
use Rattle.checks_model.specs.Classes.{class_of, class_of_name, Callee, calls, routine, no_callee, callee_of, result_class, measured, measured_first, located_name}
use Rattle.checks_model.specs.Told.{tell_at, told_if, holds_of_both}
use Rattle.checks_model.specs.ValueRules.{Receiver, nothing_asked, condition, bound, set_of_members, told_in, told_received, own_told, told_value, told_some_value, clean_class, returns_none, received_mode, may_have_mode}
use Rattle.checks_model.specs.ActionRules.{measures, clean, bounds_misfit, counter_of, counter_of_both, member_in, counter_mode, told_step, told_control}
use Rattle.checks_model.specs.Phases.{some_expr, exprs_of_control, processes_told_at, told_of_processes}
use Rattle.checks_model.specs.Origins.{origins_of}
use Rattle.checks_model.specs.Sites.{Site, sites}
use Rattle.checks_model.specs.Table.{entry_with_counters}
use Rattle.checks_model.specs.Diagnoses.{BreaksNoRule}
use Rattle.class_laws.specs.Known.{HasMode, RoutineKnown, BracketsKnown, IsKnown, FirstKnown}
use Rattle.class_laws.proofs.Clean.{clean_there}
use Rattle.class_laws.proofs.Receiving.{receive_there}
use Rattle.statement_laws.proofs.Arguments.{alike}
use Rattle.table_laws.specs.Names.{names_in, names_in_each, names_bounding}
use Rattle.elaborated_laws.proofs.Told.{none_first, none_later, none_then, not_broken, not_true, not_second, of_both, no_some}
use Rattle.written_laws.specs.Written.{Each, HasShortExprs, HasNamedExprs, exprs_at}
use Rattle.written_laws.proofs.ShownItem.{short_texts, named_paths}
use Rattle.written_laws.proofs.WrittenSo.{each_there, none_listed}
use Rattle.order_laws.proofs.CounterDepths.{counters_deep}
use Rattle.there_laws.specs.Constants.{IsMeasurable}
use Rattle.there_laws.specs.Table.{IsSomeModeName, TuplesNamed, EachTuplesNamed, IsNameThere}
use Rattle.there_laws.proofs.Modes.{value_in}
use Rattle.there_laws.proofs.Needs.{AreThere, expr_needs}
use Rattle.there_laws.proofs.Nodes.{Gives, program_defined}
use Rattle.there_laws.proofs.Told.{each_clean}
use Rattle.there_laws.proofs.Counted.{counted_there}
use Rattle.there_laws.proofs.Names.{names_known, results_known}
use Rattle.there_laws.proofs.Received.{received_there, controls_clean}
use Rattle.expression_laws.specs.Names.{stands_for_value, stands_for_procedure, Stands, EachStands, IsWellNamed}
use Rattle.expression_laws.specs.Named.{IsNodeNamed}
use Rattle.expression_laws.specs.Things.{is_counted, origin_is}
use Rattle.expression_laws.proofs.Operators.{map_there}
use Rattle.expression_laws.proofs.Known.{location_of, procedure_of, callee_called, measured_from, name_measured}
use Rattle.expression_laws.proofs.KnownNames.{name_class}
use Rattle.expression_laws.proofs.Applied.{told_inside}
use Rattle.expression_laws.proofs.Actions.{test_holds, each_later}
use Rattle.expression_laws.proofs.Named.{nodes_named}
use Rattle.expression_laws.proofs.TextRows.{definition_there}
use Rattle.expression_laws.proofs.WellNamed.{well_named}
use Rattle.program_laws.specs.Counters.{CountersThereLaw}

-- ---- what the class of an expression needs of its names

abbrev pub HasClass : Ground → Name → Type 0
HasClass g n = stands_for_value (origin_of g n) ≡ true → IsSome (class_of_name g n)

module _ (g : Ground) (there : (n : Name) → IsNameThere g n) (results : (n : Name) → returns_none (origin_of g n) ≡ false → stands_for_procedure (origin_of g n) ≡ true → IsSome (mode_of_entry (entry_of g n))) where
  abbrev HaveClasses : List Name → Type 0
  HaveClasses ns = (n : Name) → Contains ns n → HasClass g n

  classes_first : (ns ks : List Name) → HaveClasses (ns ++ ks) → HaveClasses ns
  classes_first ns ks all n i = all n (Contains-append_left ns ks n i)

  classes_later : (ns ks : List Name) → HaveClasses (ns ++ ks) → HaveClasses ks
  classes_later ns ks all n i = all n (Contains-append_right ns ks n i)

  all_are_there : (ns : List Name) → AreThere g ns
  all_are_there [] = tt
  all_are_there (n ∷ ns) = (there n, all_are_there ns)

  has_mode : (n : Option Name) → IsSomeModeName g n → HasMode g n
  has_mode None named = tt
  has_mode (Some n) named = (there n).mode named

  receive_known : (n : Name) → Stands g (receive n.at n) → IsKnown g (receive n.at n)
  receive_known n stands =
      let d = location_of (origin_of g n) stands.0 in
      receive_there g n d.0 d.1 (subst (λ o. IsMeasurable (located_name (entry_of g n) o)) d.1 (there n).located) stands.1

  brackets_known : (e : ExprTree) (es : ExprNodes) (k : Callee) → callee_of g e ≡ k → IsKnown g e → ((b : Bool) → EachStands g b es → RoutineKnown b (measured_first g es) (FirstKnown g es))
      → EachStands g (measures (callee_of g e)) es → BracketsKnown g k (result_class g e) (IsKnown g e) (FirstKnown g es) (measured_first g es)
  brackets_known e es (calls n) is base first stands =
      let called = callee_called g e n is in
      λ returns. subst (λ x. IsSome (result_class g x)) (sym called.is_name) (map_there value (mode_of_entry (entry_of g n)) (results n returns called.procedure))
  brackets_known e es (routine p) is base first stands = first (is_measuring p) (subst (λ k. EachStands g (measures k) es) is stands)
  brackets_known e es no_callee is base first stands = base

  mutual
    known_by : (e : ExprTree) → HaveClasses (names_in e) → TuplesNamed g e → Stands g e → IsKnown g e
    known_by (whole at n) classes tuples stands = tt
    known_by (character at n) classes tuples stands = tt
    known_by (text_of_chars at n) classes tuples stands = tt
    known_by (this_instance at) classes tuples stands = tt
    known_by (paren at e) classes tuples stands = known_by e classes tuples stands
    known_by (receive at n) classes tuples stands = receive_known n stands
    known_by (start at n es) classes tuples stands = tt
    known_by (tuple at n b rs) classes tuples stands = has_mode n tuples.0
    known_by (uniform at n b e) classes tuples stands = has_mode n tuples.0
    known_by (name n) classes tuples stands = classes n (here_in n [] n refl) stands
    known_by (apply at e es) classes tuples stands =
        let measurable = (expr_needs g (apply at e es) (all_are_there (names_in (apply at e es))) tuples).0.0 in
        brackets_known e es (callee_of g e) refl (known_by e (classes_first (names_in e) (names_in_each es) classes) tuples.0 stands.0) (first_by es (classes_later (names_in e) (names_in_each es) classes) tuples.1 measurable) stands.1
    known_by (field at e n) classes tuples stands = known_by e classes tuples stands
    known_by (prefixed at o e) classes tuples stands = known_by e classes tuples stands
    known_by (binary at l o p r) classes tuples stands =
        (known_by l (classes_first (names_in l) (names_in r) classes) tuples.0 stands.0, known_by r (classes_later (names_in l) (names_in r) classes) tuples.1 stands.1)

    first_by : (es : ExprNodes) → HaveClasses (names_in_each es) → EachTuplesNamed g es → IsMeasurable (measured_first g es) → (b : Bool) → EachStands g b es → RoutineKnown b (measured_first g es) (FirstKnown g es)
    first_by no_exprs classes tuples there true stands = tt
    first_by no_exprs classes tuples there false stands = tt
    first_by (more_exprs e es) classes tuples there false stands = known_by e (classes_first (names_in e) (names_in_each es) classes) tuples.0 stands.0
    first_by (more_exprs (name n) es) classes tuples located true stands =
        name_measured (mode_of_name g n) (entry_of g n) (origin_of g n) (there n).mode (there n).located (classes n (here_in n (names_in_each es) n refl)) stands.0
    first_by (more_exprs e es) classes tuples there true stands = measured_from (measured g e) there (known_by e (classes_first (names_in e) (names_in_each es) classes) tuples.0 stands.0)

-- ---- the values around a loop

-- the class of a value that something receives, and what is told of it
record Received (g : Ground) (r : Receiver) (e : ExprTree) : Type 0 where
  class : ClassTree
  is : class_of g e ≡ Some class
  clean_is : clean g e ≡ Some class
  told : told_received g r e ≡ []

received : (g : Ground) (r : Receiver) (e : ExprTree) → IsKnown g e → received_mode r ≡ None → may_have_mode r ≡ false → told_value g r e ≡ [] → Received g r e
received g r e known mode apart none =
    let same = alike g r mode apart e in
    let untold : told_in g nothing_asked e ≡ [] = sym same ∙ told_inside g r e none in
    let c = value_in (class_of g e) (clean_there g nothing_asked e known refl untold) in
    record {
      class = c.0;
      is = c.1;
      clean_is = ap (λ ds. clean_class ds (class_of g e)) untold ∙ c.1;
      told = none_then (own_told g r e (told_in g r e)) (told_received g r e) none;
    }

their_there : (l r : ClassTree) → class_is is_discrete l ≡ true → class_is is_discrete r ≡ true → IsSome (option_and_then mode_in (their_class l r))
their_there (value a) r first later = refl
their_there (derived a) (value b) first later = refl
their_there (derived a) (derived b) first later = refl
their_there (derived a) null first later = absurd (true≢false (sym later))
their_there (derived a) nothing first later = absurd (true≢false (sym later))
their_there null r first later = absurd (true≢false (sym first))
their_there nothing r first later = absurd (true≢false (sym first))

counter_made : (l r : ClassTree) → class_is is_discrete l ≡ true → class_is is_discrete r ≡ true → bounds_misfit l r ≡ false → IsSome (counter_of l r)
counter_made l r first later fit =
    let both = of_both (class_is is_discrete l) (class_is is_discrete r) first later in
    let alike_are = not_true (are_compatible l r) (not_second (class_is is_discrete l && class_is is_discrete r) (not (are_compatible l r)) both fit) in
    let all = of_both (class_is is_discrete l && class_is is_discrete r) (are_compatible l r) both alike_are in
    subst (λ b. IsSome (if b then option_and_then mode_in (their_class l r) else None)) (sym all) (their_there l r first later)

member_there : (c : ClassTree) → class_is is_powerset c ≡ true → IsSome (option_and_then member_in (form_in c))
member_there (value m) set = by (form_of m) set
  where
    by : (f : FormTree) → is_powerset f ≡ true → IsSome (member_in f)
    by (of_powerset k) set = refl
    by f set = absurd (true≢false (sym set))
member_there (derived m) set = by (form_of m) set
  where
    by : (f : FormTree) → is_powerset f ≡ true → IsSome (member_in f)
    by (of_powerset k) set = refl
    by f set = absurd (true≢false (sym set))
member_there null set = absurd (true≢false (sym set))
member_there nothing set = absurd (true≢false (sym set))

abbrev counts : ControlTree → Bool
counts (while_holds at c) = false
counts (for_ever at) = false
counts (for_members at n s c) = true
counts (for_steps at n s b down e c) = true

module _ (g : Ground) (there : (n : Name) → IsNameThere g n) (results : (n : Name) → returns_none (origin_of g n) ≡ false → stands_for_procedure (origin_of g n) ≡ true → IsSome (mode_of_entry (entry_of g n))) where
  control_counts : (c : ControlTree) → counts c ≡ true → Each (IsWellNamed g) (exprs_of_control c) → ((n : Name) → Contains (names_bounding c) n → HasClass g n) → told_control g c ≡ [] → IsSome (counter_mode g c)
  control_counts (while_holds at c) is well classes none = absurd (true≢false (sym is))
  control_counts (for_ever at) is well classes none = absurd (true≢false (sym is))
  control_counts (for_members at n s c) is well classes none =
      let r = received g set_of_members s (known_by g there results s classes well.0.tuples well.0.stands) refl refl (none_first (told_value g set_of_members s) (told_some_value g condition c) none) in
      let set = test_holds is_powerset (class_of g s) r.class (tell_at rules.S8 (place_of s)) r.is r.told in
      subst (λ x. IsSome (option_and_then member_in (option_and_then form_in x))) (sym r.clean_is) (member_there r.class set)
  control_counts (for_steps at n s b down e c) is well classes none =
      let last = each_later (IsWellNamed g) (s ∷ some_expr b) (e ∷ some_expr c) well in
      let one = told_value g bound s in
      let two = told_value g bound e in
      let misfit = told_if (holds_of_both bounds_misfit (clean g s) (clean g e)) (tell_at rules.S8 (place_of e)) in
      let step = told_step g (counter_of_both (clean g s) (clean g e)) b in
      let three = none_first (one ++ two ++ misfit) step (none_first (one ++ two ++ misfit ++ step) (told_some_value g condition c) none) in
      let two_none = none_first (one ++ two) misfit three in
      let first = received g bound s (known_by g there results s (classes_first g there results (names_in s) (names_in e) classes) well.0.tuples well.0.stands) refl refl (none_first one two two_none) in
      let later = received g bound e (known_by g there results e (classes_later g there results (names_in s) (names_in e) classes) last.0.tuples last.0.stands) refl refl (none_later one two two_none) in
      let first_is = test_holds is_discrete (class_of g s) first.class (tell_at rules.S8 (place_of s)) first.is first.told in
      let later_is = test_holds is_discrete (class_of g e) later.class (tell_at rules.S8 (place_of e)) later.is later.told in
      let fit = not_broken (holds_of_both bounds_misfit (clean g s) (clean g e)) (tell_at rules.S8 (place_of e)) (none_later (one ++ two) misfit three) in
      let both : holds_of_both bounds_misfit (Some first.class) (Some later.class) ≡ false =
      ap (λ x. holds_of_both bounds_misfit x (Some later.class)) (sym first.clean_is) ∙ (ap (λ y. holds_of_both bounds_misfit (clean g s) y) (sym later.clean_is) ∙ fit) in
      subst (λ x. IsSome (counter_of_both x (clean g e))) (sym first.clean_is) (subst (λ y. IsSome (counter_of_both (Some first.class) y)) (sym later.clean_is) (counter_made first.class later.class first_is later_is both))

-- ---- nodes of which nothing is told

-- the expressions at a node are as a text has them
abbrev pub IsWellAt : Ground → Site → Type 0
IsWellAt g n = Each (IsWellNamed g) (exprs_at n)

abbrev IsWellLoop : Ground → Origin → Type 0
IsWellLoop g (a_counter c) = Each (IsWellNamed g) (exprs_of_control c)
IsWellLoop g o = Unit {0}

loops_given : (g : Ground) → Gives (IsWellAt g) (IsWellLoop g)
loops_given g = record {
  synonym = λ s well. tt;
  mode = λ novel d well. tt;
  location = λ shared d well. tt;
  parameter = λ w well. tt;
  procedure = λ p well. tt;
  signal = λ s well. tt;
  counter = λ c well. well;
  received = λ earlier n ns part less source well. tt;
  element = λ ns part owner. tt;
  process = λ p. tt;
  modulion = λ kind items. tt;
  predefined = λ p. tt;
}

all_well : (g : Ground) (ns : List Site) → Each (IsNodeNamed g) ns → Each HasShortExprs ns → Each HasNamedExprs ns → Each (λ n. processes_told_at g n ≡ []) ns → Each (IsWellAt g) ns
all_well g [] named short paths none = tt
all_well g (n ∷ ns) named short paths none = (well_named g n named.0 short.0 paths.0 none.0, all_well g ns named.1 short.1 paths.1 none.1)

module _ (text : List ℕ) (t : ProgramTree) (h : Ground) (has : BreaksNoRule text t h) where
  pub processes_clean : Each (λ n. processes_told_at h n ≡ []) (sites t)
  processes_clean = each_clean (processes_told_at h) (sites t) (none_listed (told_of_processes h t) has.processes)

  pub sites_well : Each (IsWellAt h) (sites t)
  sites_well =
      let names = has.has_modes.has_names in
      all_well h (sites t) (nodes_named text t h names has.is_ground.names) (short_texts text t names.has_tree) (named_paths text t names.has_tree) processes_clean

  origins : h.origins ≡ origins_of t
  origins = ap (λ (x : Ground). x.origins) has.is_ground.names

  pub loop_well : (d : ℕ) (c : ControlTree) → slice_get h.origins d ≡ Some (a_counter c) → Each (IsWellNamed h) (exprs_of_control c)
  loop_well d c at = each_there (IsWellLoop h) (origins_of t) d (a_counter c) (program_defined (IsWellAt h) (IsWellLoop h) (loops_given h) t sites_well) (sym (ap (λ os. slice_get os d) origins) ∙ at)

  -- what defines a counter is a loop that counts
  loop_counts : (d : ℕ) (c : ControlTree) → slice_get h.origins d ≡ Some (a_counter c) → counts c ≡ true
  loop_counts d c at =
      let made = definition_there (origins_of t) (with_predefined (text_definitions (level_of t))) d (a_counter c) (origins_define t) (sym (ap (λ os. slice_get os d) origins) ∙ at) in
      by c made.0 made.1.1.1
    where
      by : (c : ControlTree) (x : Definition) → option_map identifier (counter_named c) ≡ Some x.name → counts c ≡ true
      by (while_holds at c) x is = no_some x.name is
      by (for_ever at) x is = no_some x.name is
      by (for_members at n s c) x is = refl
      by (for_steps at n s b down e c) x is = refl

  names_there : (n : Name) → IsNameThere h n
  names_there n = counted_there text t has.plain_ground h has.has_modes has.is_ground n

  entry_at : (d : ℕ) (o : Origin) → slice_get h.origins d ≡ Some o → slice_get h.entries d ≡ Some (entry_with_counters h o)
  entry_at d o at = ap (λ es. slice_get es d) has.is_ground.entries ∙ slice_get-map (entry_with_counters h) h.origins d ∙ ap (option_map (entry_with_counters h)) at

  -- a procedure that is named has the mode of its result
  pub result_there : (n : Name) → returns_none (origin_of h n) ≡ false → stands_for_procedure (origin_of h n) ≡ true → IsSome (mode_of_entry (entry_of h n))
  result_there n returns stands = by (number_at h.uses n.at) refl returns stands
    where
      by_origin : (e : ℕ) (o : Option Origin) → slice_get h.origins e ≡ o → returns_none o ≡ false → stands_for_procedure o ≡ true → IsSome (mode_of_entry (slice_get h.entries e))
      by_origin e o at returns stands =
          let p = procedure_of o stands in
          results_known text t has.plain_ground h has.has_modes has.is_ground e p.0 (at ∙ p.1) (not_true (is_some p.0.returns) (subst (λ x. returns_none x ≡ false) p.1 returns))

      by : (k : Option ℕ) → number_at h.uses n.at ≡ k → returns_none (option_and_then (slice_get h.origins) k) ≡ false → stands_for_procedure (option_and_then (slice_get h.origins) k) ≡ true → IsSome (mode_of_entry (entry_of h n))
      by None number returns stands = absurd (true≢false (sym stands))
      by (Some e) number returns stands = subst (λ k. IsSome (mode_of_entry (option_and_then (slice_get h.entries) k))) (sym number) (by_origin e (slice_get h.origins e) refl returns stands)

  -- ---- counters, from the outermost loop in

  abbrev IsModal : ℕ → Type 0
  IsModal e = (c : ControlTree) → slice_get h.origins e ≡ Some (a_counter c) → IsSome (counter_mode h c)

  -- a name that is counted or received has a mode
  pub counted_by : (n : Name) → ((e : ℕ) → number_at h.uses n.at ≡ Some e → IsModal e) → origin_is is_counted (origin_of h n) ≡ true → IsSome (mode_of_entry (entry_of h n))
  counted_by n modal is = by (number_at h.uses n.at) refl is
    where
      by_origin : (e : ℕ) (o : Option Origin) → number_at h.uses n.at ≡ Some e → slice_get h.origins e ≡ o → origin_is is_counted o ≡ true → IsSome (mode_of_entry (slice_get h.entries e))
      by_origin e (Some (a_counter c)) number at is = subst (λ x. IsSome (mode_of_entry x)) (sym (entry_at e (a_counter c) at)) (modal e number c at)
      by_origin e (Some (a_received k count part)) number at is = received_there text t h has e k count part at
      by_origin e o number at is = absurd (true≢false (sym is))

      by : (k : Option ℕ) → number_at h.uses n.at ≡ k → origin_is is_counted (option_and_then (slice_get h.origins) k) ≡ true → IsSome (mode_of_entry (entry_of h n))
      by None number is = absurd (true≢false (sym is))
      by (Some e) number is = subst (λ k. IsSome (mode_of_entry (option_and_then (slice_get h.entries) k))) (sym number) (by_origin e (slice_get h.origins e) number refl is)

  class_by : (n : Name) → ((e : ℕ) → number_at h.uses n.at ≡ Some e → IsModal e) → HasClass h n
  class_by n modal stands =
      name_class (entry_of h n) (origin_of h n) (λ form. (names_known text t has.plain_ground h has.has_modes has.is_ground n).class ((names_there n).value form)) (names_there n).located (counted_by n modal) stands

  depth : ℕ → ℕ
  depth = (counters_deep text t h has.has_modes.has_names has.is_ground.names).0

  named_less : (d e : ℕ) (c : ControlTree) (n : Name) → slice_get h.origins d ≡ Some (a_counter c) → Contains (names_bounding c) n → number_at h.uses n.at ≡ Some e → depth e < depth d
  unfolding depth
  named_less d e c n at i number = (counters_deep text t h has.has_modes.has_names has.is_ground.names).1 d e c n at i number

  modal_below : (k d : ℕ) → depth d < k → IsModal d
  modal_below zero d less c at = absurd (omega arith)
  modal_below (suc k) d less c at =
      control_counts h names_there result_there c (loop_counts d c at) (loop_well d c at)
      (λ n i. class_by n (λ e number. let inner = named_less d e c n at i number in modal_below k e (omega (arith, less, inner))))
      (controls_clean text t h has d c at)

  pub all_modal : (d : ℕ) → IsModal d
  all_modal d = let more : depth d < suc (depth d) = omega arith in modal_below (suc (depth d)) d more

  pub counted_there_all : (n : Name) → origin_is is_counted (origin_of h n) ≡ true → IsSome (mode_of_entry (entry_of h n))
  counted_there_all n is = counted_by n (λ e number. all_modal e) is

pub counters_there : CountersThereLaw
counters_there text t h has d c at = subst (λ e. IsSome (mode_of_entry e)) (sym (entry_at text t h has d (a_counter c) at)) (all_modal text t h has d c at)
