-- Statements, bodies and handlers are there, where nothing is told at their nodes.
use Rattle.std.proofs.Common.{◌≡◌, Bool, true, false, ◌&&◌, ◌||◌, List, [], ◌∷◌, ◌++◌, length, Option, Some, None, refl, sym, ap, ◌∙◌, subst, true≢false}
use Rattle.std.specs.Prelude.{ℕ, ℤ, IsSome, not, option_map, option_and_then, map, flat_map}
use Rattle.chill_tree.specs.declared.tree.name.Name.{Name}
use Rattle.chill_tree.specs.ExprTree.{ExprTree, RangeTree, place_of}
use Rattle.chill_tree.specs.LocalTree.{DeclarationTree, LocalTree, synonyms, syn_modes, new_modes, locations}
use Rattle.chill_tree.specs.SimpleTree.{SimpleTree, ControlTree, while_holds, for_ever, for_members, for_steps}
use Rattle.chill_tree.specs.StatementTree.{StatementTree, BracketedTree, StatementNodes, ElsIfNodes, CaseNodes, NamedNodes, ReceiveNodes, OtherwiseNode, HandlerNode, BodyNodes, empty, simple, bracketed, if_then, case_of, do_loop, begin_end, delay_case, receive_case, no_statements, more_statements, no_branches, more_branches, no_cases, more_cases, no_named, more_named, no_receives, more_receives, no_otherwise, otherwise, no_handler, handler, no_parts, more_locals, more_actions}
use Rattle.modes.specs.ModeTree.{ModeTree, ClassTree}
use Rattle.modes.specs.Form.{form_of}
use Rattle.diagnostics.specs.declared.diagnostic.Diagnostic.{Diagnostic}
use Rattle.diagnostics.specs.declared.rule.Rule.TheVariants as rules
use Rattle.names_model.specs.StatementParts.{labelled}
use Rattle.program_trees.specs.ExprTree as made
use Rattle.program_trees.specs.StatementTree as done
use Rattle.checks_model.specs.Alike.{is_int, is_instance, is_powerset, is_discrete, is_meeting, class_is}
use Rattle.checks_model.specs.Ground.{Ground, origin_of}
use Rattle.checks_model.specs.Classes.{class_of}
use Rattle.checks_model.specs.ConstantRules.{told_of_constants, told_of_some_constants, told_needed}
use Rattle.checks_model.specs.WrittenModes.{told_of_mode}
use Rattle.checks_model.specs.Told.{tell_at, told_if, then_told, holds_of, holds_of_both}
use Rattle.checks_model.specs.ValueRules.{nothing_asked, of_mode, condition, selector, bound, set_of_members, is_not_discrete, is_no_powerset, told_value, told_some_value, told_in, clean_class, place, is_free}
use Rattle.checks_model.specs.ActionRules.{told_in_indices, clean, told_labels, told_label, told_control, told_step, step_misfits, bounds_misfit, counter_of_both}
use Rattle.checks_model.specs.ProcessRules.{for_events, for_messages, told_misfit, told_listed, told_set, takes_instance}
use Rattle.checks_model.specs.Sites as sites
use Rattle.checks_model.specs.Sites.{Site, at_declaration, at_simple, at_condition, at_selector, at_labels, at_control, at_set, at_priority, at_event, at_source, at_received, at_exceptions, some_site, events_listed, sites_of_local, sites_of, sites_of_bracketed, sites_of_each, sites_of_branches, sites_of_cases, sites_of_events, sites_of_receives, sites_of_otherwise, sites_of_handler, sites_of_exceptions, sites_of_parts}
use Rattle.checks_model.specs.Phases.{some_expr, initial_expr, exprs_of_control, exprs_of_labels, exprs_of_mode, told_without_value, told_alone, declared_mode, told_met}
use Rattle.written_laws.specs.Written.{Each}
use Rattle.elaborated_laws.proofs.Told.{none_first, none_later, none_inside, none_then, not_broken, not_true, neither_left, both_left, both_right, no_some, same_some}
use Rattle.elaborated_laws.proofs.Classes.{no_receiver}
use Rattle.statement_laws.proofs.Arguments.{alike}
use Rattle.there_laws.proofs.Modes.{value_in}
use Rattle.elaboration_model.specs.Numbering.{Source, Thing, a_buffer, a_message, thing_used, event_used, source_number, local_defined}
use Rattle.elaboration_model.specs.Parts.{made_of, made_of_three, made_each, made_of_some}
use Rattle.elaboration_model.specs.Exceptions.{exception_number}
use Rattle.elaboration_model.specs.Expressions.{Target, expr_alone, received_by, target, mode_defined}
use Rattle.elaboration_model.specs.Statements.{Around, within, priority, label, plain, base_defined, locals_among, set_locals, declared_as, first_mode, declaration, declarations, before, action_of, low_of, members_loop, steps_loop, control, some_names, first_is_buffer, receives_from, set_location, source_used, with_receive, delayed, is_labelled, statement, holding, each, choices, cases, delays, receives, otherwise_done, or_else, handled, exceptions, body}
use Rattle.expression_laws.specs.Names.{stands_for_location, takes_parts, IsPlace, MessageKnown, IsWellNamed, AllNamesKnown}
use Rattle.expression_laws.specs.Statements.{AreDeclared, ControlStands, IsNodeClean, IsAround, ExitsStand, BracketedExits, EachExits, BranchExits, CaseExits, NamedExits, ReceiveExits, ElseExits, HandlerExits, BodyExits, StatementThereLaw, BodyThereLaw, HandlerThereLaw}
use Rattle.expression_laws.proofs.Values.{goes_place, class_valued, instance_valued}
use Rattle.expression_laws.proofs.Operators.{map_there}
use Rattle.expression_laws.proofs.Parts.{made_there, three_there, is_there, value_goes}
use Rattle.expression_laws.proofs.Places.{in_place, free_located}
use Rattle.expression_laws.proofs.Expressions.{expr_there, free_target, path_there}
use Rattle.expression_laws.proofs.Constants.{priority_there, labels_there}
use Rattle.expression_laws.proofs.Actions.{ValueKnown, value_known, test_holds, condition_there, received_value, each_first, each_later, flat_both, action_there}

single : (xs : List Diagnostic) → xs ++ [] ≡ [] → xs ≡ []
single xs none = none_first xs [] none

-- ---- values by what receives them

selector_known : (s : Source) (e : ExprTree) → AllNamesKnown s → IsWellNamed s.known e → told_value s.known selector e ≡ [] → (c : ClassTree) × ((class_of s.known e ≡ Some c) × (class_is is_discrete c ≡ true))
selector_known s e known named none =
    let v = value_known s selector e known named refl none in
    (v.class, (v.is, test_holds is_discrete (class_of s.known e) v.class (tell_at rules.S7 (place_of e)) v.is v.received))

selector_clean : (s : Source) (e : ExprTree) (c : ClassTree) → AllNamesKnown s → IsWellNamed s.known e → told_value s.known selector e ≡ [] → class_of s.known e ≡ Some c → clean s.known e ≡ Some c
selector_clean s e c known named none class = let v = value_known s selector e known named refl none in ap (λ l. clean_class l (class_of s.known e)) (sym (alike s.known selector refl refl e) ∙ v.told) ∙ class

selector_there : (s : Source) (e : ExprTree) → AllNamesKnown s → IsWellNamed s.known e → told_of_constants s.known e ≡ [] → told_value s.known selector e ≡ [] → IsSome (expr_alone s e)
selector_there s e known named constants none =
    let v = value_known s selector e known named refl none in
    let passes = test_holds is_discrete (class_of s.known e) v.class (tell_at rules.S7 (place_of e)) v.is v.received in
    expr_there s selector e v.class known (record { named = named; receives = no_receiver; constants = constants; told = v.told }) v.is (class_valued is_discrete v.class refl passes)

bound_there : (s : Source) (e : ExprTree) → AllNamesKnown s → IsWellNamed s.known e → told_of_constants s.known e ≡ [] → told_value s.known bound e ≡ [] → IsSome (expr_alone s e)
bound_there s e known named constants none =
    let v = value_known s bound e known named refl none in
    let passes = test_holds is_discrete (class_of s.known e) v.class (tell_at rules.S8 (place_of e)) v.is v.received in
    expr_there s bound e v.class known (record { named = named; receives = no_receiver; constants = constants; told = v.told }) v.is (class_valued is_discrete v.class refl passes)

members_there : (s : Source) (e : ExprTree) → AllNamesKnown s → IsWellNamed s.known e → told_of_constants s.known e ≡ [] → told_value s.known set_of_members e ≡ [] → IsSome (expr_alone s e)
members_there s e known named constants none =
    let v = value_known s set_of_members e known named refl none in
    let passes = test_holds is_powerset (class_of s.known e) v.class (tell_at rules.S8 (place_of e)) v.is v.received in
    expr_there s set_of_members e v.class known (record { named = named; receives = no_receiver; constants = constants; told = v.told }) v.is (class_valued is_powerset v.class refl passes)

-- what follows BY
step_there : (s : Source) (counter : Option ModeTree) (e : ExprTree) → AllNamesKnown s → IsWellNamed s.known e → told_of_constants s.known e ≡ [] → told_step s.known counter (Some e) ≡ [] → IsSome (expr_alone s e)
step_there s counter e known named constants none =
    let g = s.known in
    let misfits = step_misfits g counter e in
    let misfit = told_if misfits (tell_at rules.S8 (place_of e)) in
    let v = value_known s nothing_asked e known named refl (none_inside (told_value g nothing_asked e) misfit none) in
    let class : clean g e ≡ Some v.class = ap (λ l. clean_class l (class_of g e)) v.told ∙ v.is in
    let apart = holds_of (λ c. not (class_is is_int c)) (clean g e) in
    let fits = neither_left apart (holds_of (λ m. not (is_int (form_of m))) counter) (not_broken misfits (tell_at rules.S8 (place_of e)) (none_then (told_value g nothing_asked e) misfit none)) in
    let passes = not_true (class_is is_int v.class) (ap (holds_of (λ c. not (class_is is_int c))) (sym class) ∙ fits) in
    expr_there s nothing_asked e v.class known (record { named = named; receives = no_receiver; constants = constants; told = v.told }) v.is (class_valued is_int v.class refl passes)

-- ---- loops

some_condition : (s : Source) (c : Option ExprTree) → AllNamesKnown s → Each (IsWellNamed s.known) (some_expr c) → flat_map (told_of_constants s.known) (some_expr c) ≡ [] → told_some_value s.known condition c ≡ [] → IsSome (made_of_some (expr_alone s) c)
some_condition s None known named constants none = refl
some_condition s (Some e) known named constants none = map_there Some (expr_alone s e) (condition_there s e known named.0 (single (told_of_constants s.known e) constants) none)

some_step : (s : Source) (counter : Option ModeTree) (b : Option ExprTree) → AllNamesKnown s → Each (IsWellNamed s.known) (some_expr b) → flat_map (told_of_constants s.known) (some_expr b) ≡ [] → told_step s.known counter b ≡ [] → IsSome (made_of_some (expr_alone s) b)
some_step s counter None known named constants none = refl
some_step s counter (Some e) known named constants none = map_there Some (expr_alone s e) (step_there s counter e known named.0 (single (told_of_constants s.known e) constants) none)

members_made : (k : Option ℕ) (set : Option made.ExprTree) (low : Option ℤ) (c : Option (Option made.ExprTree)) → IsSome k → IsSome set → IsSome low → IsSome c → IsSome (members_loop k set low c)
members_made (Some k) (Some set) (Some low) (Some c) first second third fourth = refl
members_made None set low c first second third fourth = absurd (true≢false (sym first))
members_made (Some k) None low c first second third fourth = absurd (true≢false (sym second))
members_made (Some k) (Some set) None c first second third fourth = absurd (true≢false (sym third))
members_made (Some k) (Some set) (Some low) None first second third fourth = absurd (true≢false (sym fourth))

steps_made : (down : Bool) (k : Option ℕ) (from : Option made.ExprTree) (step : Option (Option made.ExprTree)) (to : Option made.ExprTree) (c : Option (Option made.ExprTree)) → IsSome k → IsSome from → IsSome step → IsSome to → IsSome c → IsSome (steps_loop down k from step to c)
steps_made down (Some k) (Some from) (Some step) (Some to) (Some c) first second third fourth fifth = refl
steps_made down None from step to c first second third fourth fifth = absurd (true≢false (sym first))
steps_made down (Some k) None step to c first second third fourth fifth = absurd (true≢false (sym second))
steps_made down (Some k) (Some from) None to c first second third fourth fifth = absurd (true≢false (sym third))
steps_made down (Some k) (Some from) (Some step) None c first second third fourth fifth = absurd (true≢false (sym fourth))
steps_made down (Some k) (Some from) (Some step) (Some to) None first second third fourth fifth = absurd (true≢false (sym fifth))

control_there : (s : Source) (c : ControlTree) → AllNamesKnown s → IsNodeClean s (at_control c) → IsSome (control s c)
control_there s (while_holds at c) known clean_is =
    map_there done.while_true (expr_alone s c) (condition_there s c known clean_is.named.0 (single (told_of_constants s.known c) clean_is.modes) clean_is.statements)
control_there s (for_ever at) known clean_is = refl
control_there s (for_members at n set c) known clean_is =
    let g = s.known in
    let others = flat_map (told_of_constants g) (some_expr c) in
    let inside = told_value g set_of_members set in
    let turned = told_some_value g condition c in
    members_made (local_defined s n) (expr_alone s set) (low_of (mode_defined s n)) (made_of_some (expr_alone s) c) clean_is.stands.0
    (members_there s set known clean_is.named.0 (none_first (told_of_constants g set) others clean_is.modes) (none_first inside turned clean_is.statements))
    clean_is.stands.1
    (some_condition s c known clean_is.named.1 (none_later (told_of_constants g set) others clean_is.modes) (none_later inside turned clean_is.statements))
control_there s (for_steps at n from step down to c) known clean_is =
    let g = s.known in
    let start_is = told_value g bound from in
    let end_is = told_value g bound to in
    let misfit = told_if (holds_of_both bounds_misfit (clean g from) (clean g to)) (tell_at rules.S8 (place_of to)) in
    let counter = counter_of_both (clean g from) (clean g to) in
    let stepped_is = told_step g counter step in
    let turned = told_some_value g condition c in
    let first_four = none_first (start_is ++ end_is ++ misfit ++ stepped_is) turned clean_is.statements in
    let first_three = none_first (start_is ++ end_is ++ misfit) stepped_is first_four in
    let first_two = none_first (start_is ++ end_is) misfit first_three in
    let behind = flat_map (told_of_constants g) (some_expr step ++ to ∷ some_expr c) in
    let own = flat_map (told_of_constants g) (some_expr step) in
    let last = flat_map (told_of_constants g) (some_expr c) in
    let constants = sym (flat_both (told_of_constants g) (some_expr step) (to ∷ some_expr c)) ∙ none_later (told_of_constants g from) behind clean_is.modes in
    let to_constants = none_later own (told_of_constants g to ++ last) constants in
    let later = each_later (IsWellNamed g) (some_expr step) (to ∷ some_expr c) clean_is.named.1 in
    steps_made down (local_defined s n) (expr_alone s from) (made_of_some (expr_alone s) step) (expr_alone s to) (made_of_some (expr_alone s) c) clean_is.stands
    (bound_there s from known clean_is.named.0 (none_first (told_of_constants g from) behind clean_is.modes) (none_first start_is end_is first_two))
    (some_step s counter step known (each_first (IsWellNamed g) (some_expr step) (to ∷ some_expr c) clean_is.named.1) (none_first own (told_of_constants g to ++ last) constants) (none_later (start_is ++ end_is ++ misfit) stepped_is first_four))
    (bound_there s to known later.0 (none_first (told_of_constants g to) last to_constants) (none_later start_is end_is first_two))
    (some_condition s c known later.1 (none_later (told_of_constants g to) last to_constants) (none_later (start_is ++ end_is ++ misfit ++ stepped_is) turned clean_is.statements))

-- ---- declarations

pub each_made : {A B : Type 0} (f : A → Option B) (xs : List A) → Each (λ x. IsSome (f x)) xs → IsSome (made_each f xs)
each_made f [] all = refl
each_made f (x ∷ xs) all = made_there (λ y ys. y ∷ ys) (f x) (made_each f xs) all.0 (each_made f xs all.1)

same_declared : (s : Source) (ns : List Name) → declared_mode s.known ns ≡ first_mode s ns
same_declared s [] = refl
same_declared s (n ∷ ns) = refl

declared_there : (s : Source) (ns : List Name) (e : Option ExprTree) → AllNamesKnown s → AreDeclared s ns → Each (IsWellNamed s.known) (some_expr e) → told_of_some_constants s.known e ≡ [] → told_some_value s.known (of_mode (declared_mode s.known ns)) e ≡ [] → IsSome (declared_as s ns (first_mode s ns) e)
declared_there s ns None known are named constants none = map_there (set_locals (locals_among (map (local_defined s) ns))) (first_mode s ns) are.mode.there
declared_there s ns (Some e) known are named constants none =
    let m = value_in (first_mode s ns) are.mode.there in
    let told = subst (λ k. told_value s.known (of_mode k) e ≡ []) (same_declared s ns) none in
    let goes = value_goes s m.0 e known named.0 (subst (λ k. told_value s.known (of_mode k) e ≡ []) m.1 told) in
    made_there done.declare (made_each (base_defined s) ns) (received_by s (first_mode s ns) e) (each_made (base_defined s) ns (are.bases m.0 m.1 (goes_place goes.class m.0 goes.goes)))
    (received_value s (first_mode s ns) e known are.mode named.0 constants told)

declaration_there : (s : Source) (shared : Bool) (d : DeclarationTree) → AllNamesKnown s → IsNodeClean s (at_declaration shared d) → IsSome (declaration s d)
declaration_there s shared d known clean_is =
    let g = s.known in
    let e = initial_expr d.initial in
    let unvalued = flat_map (told_without_value g d.initial) d.names in
    let alone_told = flat_map (told_alone g) (exprs_of_mode d.mode) in
    map_there plain (declared_as s d.names (first_mode s d.names) e)
    (declared_there s d.names e known clean_is.stands clean_is.named (none_later (told_of_mode g true d.mode ++ unvalued) (told_of_some_constants g e) clean_is.modes) (none_later alone_told (told_some_value g (of_mode (declared_mode g d.names)) e) clean_is.statements))

declared_each : (s : Source) (shared : Bool) (ds : List DeclarationTree) → AllNamesKnown s → Each (IsNodeClean s) (map (at_declaration shared) ds) → IsSome (made_each (declaration s) ds)
declared_each s shared [] known all = refl
declared_each s shared (d ∷ ds) known all = made_there (λ y ys. y ∷ ys) (declaration s d) (made_each (declaration s) ds) (declaration_there s shared d known all.0) (declared_each s shared ds known all.1)

pub declarations_there : (s : Source) (shared : Bool) (l : LocalTree) → AllNamesKnown s → Each (IsNodeClean s) (sites_of_local shared l) → IsSome (declarations s l)
declarations_there s shared (locations at ds) known all = declared_each s shared ds known all
declarations_there s shared (synonyms at ss) known all = refl
declarations_there s shared (syn_modes at ds) known all = refl
declarations_there s shared (new_modes at ds) known all = refl

-- ---- what actions that hold others evaluate

priority_site : (s : Source) (p : Option ExprTree) → AllNamesKnown s → Each (IsNodeClean s) (some_site at_priority p) → IsSome (priority s p)
priority_site s None known all = refl
priority_site s (Some e) known all = let clean_is = all.0 in priority_there s e known clean_is.named.0 clean_is.modes clean_is.processes

takes_free : (g : Ground) (e : ExprTree) → takes_instance (place g e) ≡ true → is_free (place g e).access ≡ true
takes_free g e takes = both_right (holds_of (λ m. is_instance (form_of m)) (place g e).mode) (is_free (place g e).access) takes

instance_mode : (m : Option ModeTree) → holds_of (λ m. is_instance (form_of m)) m ≡ true → (k : ModeTree) × ((m ≡ Some k) × (not (is_meeting (form_of k)) ≡ true))
instance_mode (Some k) is = (k, (refl, instance_valued (form_of k) is))
instance_mode None is = absurd (true≢false (sym is))

set_there : (s : Source) (set : Option ExprTree) → AllNamesKnown s → Each (IsNodeClean s) (some_site at_set set) → IsSome (set_location s set)
set_there s None known all = refl
set_there s (Some e) known all =
    let g = s.known in
    let clean_is = all.0 in
    let wrong = not (takes_instance (place g e)) in
    let takes = not_true (takes_instance (place g e)) (not_broken wrong (tell_at rules.P7 (place_of e)) (none_then (told_met g e) (told_set g e) clean_is.processes)) in
    let free = takes_free g e takes in
    let own = in_place g e (free_located g e free) in
    let m = instance_mode (place g e).mode (both_left (holds_of (λ m. is_instance (form_of m)) (place g e).mode) (is_free (place g e).access) takes) in
    let there = free_target s e m.0 clean_is.named.0 clean_is.modes (sym own.told ∙ clean_is.statements) free m.1.0 m.1.1 (path_there s e known) in
    map_there Some (option_map (λ (t : Target). t.0) (target s e)) (map_there (λ (t : Target). t.0) (target s e) (is_there (target s e) there.at there.is))

-- ---- names that are listed

events_there : (s : Source) (earlier ns : List Name) → AllNamesKnown s → Each (IsNodeClean s) (events_listed earlier ns) → IsSome (made_each (event_used s) ns)
events_there s earlier [] known all = refl
events_there s earlier (n ∷ ns) known all =
    let clean_is = all.0 in
    made_there (λ y ys. y ∷ ys) (event_used s n) (made_each (event_used s) ns) ((known n).event clean_is.stands (none_first (told_misfit s.known for_events n) (told_listed s.known earlier n) clean_is.processes))
    (events_there s (earlier ++ n ∷ []) ns known all.1)

number_takes : (thing : Thing) (count : ℕ) → takes_parts thing count ≡ true → IsSome (source_number thing)
number_takes (a_buffer k) count takes = refl
number_takes (a_message k) count takes = refl
number_takes thing count takes = absurd (true≢false (sym takes))

source_there : (s : Source) (earlier : List Name) (n : Name) → AllNamesKnown s → IsNodeClean s (at_source earlier n) → IsSome (source_used s n)
source_there s earlier n known clean_is =
    let m = (known n).message clean_is.stands (none_first (told_misfit s.known for_messages n) (told_listed s.known earlier n) clean_is.processes) in
    subst (λ t. IsSome (option_and_then source_number t)) (sym m.used) (number_takes m.thing (length m.parts) m.takes)

receive_made : (k : Option ℕ) (ks : Option (List ℕ)) (ss : Option done.StatementNodes) (as' : Option done.ReceiveNodes) → IsSome k → IsSome ks → IsSome ss → IsSome as' → IsSome (with_receive k ks ss as')
receive_made (Some k) (Some ks) (Some ss) (Some as') first second third fourth = refl
receive_made None ks ss as' first second third fourth = absurd (true≢false (sym first))
receive_made (Some k) None ss as' first second third fourth = absurd (true≢false (sym second))
receive_made (Some k) (Some ks) None as' first second third fourth = absurd (true≢false (sym third))
receive_made (Some k) (Some ks) (Some ss) None first second third fourth = absurd (true≢false (sym fourth))

-- ---- labels

within_labels : (l : Option Name) (a : Around) → labelled l a.labels ≡ (within l a).labels
within_labels None a = refl
within_labels (Some l) a = refl

around_within : (s : Source) (l : Option Name) (a : Around) (around : sites.Around) → IsAround s a around → IsAround s (within l a) around
around_within s None a around is = is
around_within s (Some l) a around is = record { result = is.result; place = is.place }

-- ---- the laws

abbrev Cleans : Source → List Site → Type 0
Cleans s ns = Each (IsNodeClean s) ns

clean_first : (s : Source) (xs ys : List Site) → Cleans s (xs ++ ys) → Cleans s xs
clean_first s xs ys all = each_first (IsNodeClean s) xs ys all

clean_later : (s : Source) (xs ys : List Site) → Cleans s (xs ++ ys) → Cleans s ys
clean_later s xs ys all = each_later (IsNodeClean s) xs ys all

mutual
  pub statement_there : StatementThereLaw
  statement_there s a around (empty at) known is exits all = refl
  statement_there s a around (simple at act h) known is exits all = made_there (done.statement false) (action_of s a act) (handled s a h) (action_there s a around act known is exits.0 all.0) (handler_there s a around h known is exits.1 all.1)
  statement_there s a around (bracketed at l b h closing) known is exits all =
      let inner = within l a in
      let first = sites_of_bracketed around b in
      let later = sites_of_handler around h in
      made_there (done.statement (is_labelled l)) (holding s inner b) (handled s inner h)
      (holding_there s inner around b known (around_within s l a around is) (subst (λ ls. BracketedExits ls b) (within_labels l a) exits.0) (clean_first s first later all))
      (handler_there s inner around h known (around_within s l a around is) (subst (λ ls. HandlerExits ls h) (within_labels l a) exits.1) (clean_later s first later all))

  holding_there : (s : Source) (a : Around) (around : sites.Around) (b : BracketedTree) → AllNamesKnown s → IsAround s a around → BracketedExits a.labels b → Cleans s (sites_of_bracketed around b) → IsSome (holding s a b)
  holding_there s a around (if_then at c ss bs o) known is exits all =
      let clean_is = all.0 in
      let held = sites_of_each around ss in
      let branches = sites_of_branches around bs in
      let last = sites_of_otherwise around o in
      let first = clean_first s (held ++ branches) last all.1 in
      let choice = made_of_three done.more_choices (expr_alone s c) (each s a ss) (choices s a bs) in
      made_there done.if_then choice (otherwise_done s a o)
      (three_there done.more_choices (expr_alone s c) (each s a ss) (choices s a bs) (condition_there s c known clean_is.named.0 clean_is.modes clean_is.statements)
      (each_there s a around ss known is exits.0 (clean_first s held branches first)) (branches_there s a around bs known is exits.1.0 (clean_later s held branches first)))
      (done_there s a around o known is exits.1.1 (clean_later s (held ++ branches) last all.1))
  holding_there s a around (case_of at e as' o) known is exits all =
      let clean_is = all.0 in
      let held = sites_of_cases around e as' in
      let last = sites_of_otherwise around o in
      let k = selector_known s e known clean_is.named.0 clean_is.statements in
      let class : clean s.known e ≡ Some k.0 = selector_clean s e k.0 known clean_is.named.0 clean_is.statements k.1.0 in
      three_there done.case_of (expr_alone s e) (cases s a as') (or_else s a o) (selector_there s e known clean_is.named.0 clean_is.modes clean_is.statements)
      (cases_there s a around e k.0 as' known is class k.1.1 exits.0 (clean_first s held last all.1)) (else_there s a around o known is exits.1 (clean_later s held last all.1))
  holding_there s a around (do_loop at c ss) known is exits all = made_there done.do_loop (control s c) (each s a ss) (control_there s c known all.0) (each_there s a around ss known is exits all.1)
  holding_there s a around (begin_end at ps) known is exits all = map_there done.begin_end (body s a ps) (body_there s a around ps known is exits all)
  holding_there s a around (delay_case at set p as') known is exits all =
      let sets = some_site at_set set in
      let ranked = some_site at_priority p in
      let held = sites_of_events around [] as' in
      let first = clean_first s (sets ++ ranked) held all in
      three_there done.delay_case (set_location s set) (priority s p) (delays s a as') (set_there s set known (clean_first s sets ranked first)) (priority_site s p known (clean_later s sets ranked first))
      (delays_there s a around [] as' known is exits (clean_later s (sets ++ ranked) held all))
  holding_there s a around (receive_case at set as' o) known is exits all =
      let sets = some_site at_set set in
      let held = sites_of_receives around [] as' in
      let last = sites_of_otherwise around o in
      let first = clean_first s (sets ++ held) last all in
      three_there (receives_from (first_is_buffer s as')) (set_location s set) (receives s a as') (or_else s a o) (set_there s set known (clean_first s sets held first))
      (receives_there s a around [] as' known is exits.0 (clean_later s sets held first)) (else_there s a around o known is exits.1 (clean_later s (sets ++ held) last all))

  each_there : (s : Source) (a : Around) (around : sites.Around) (xs : StatementNodes) → AllNamesKnown s → IsAround s a around → EachExits a.labels xs → Cleans s (sites_of_each around xs) → IsSome (each s a xs)
  each_there s a around no_statements known is exits all = refl
  each_there s a around (more_statements x xs) known is exits all =
      made_there done.more_statements (statement s a x) (each s a xs) (statement_there s a around x known is exits.0 (clean_first s (sites_of around x) (sites_of_each around xs) all))
      (each_there s a around xs known is exits.1 (clean_later s (sites_of around x) (sites_of_each around xs) all))

  branches_there : (s : Source) (a : Around) (around : sites.Around) (bs : ElsIfNodes) → AllNamesKnown s → IsAround s a around → BranchExits a.labels bs → Cleans s (sites_of_branches around bs) → IsSome (choices s a bs)
  branches_there s a around no_branches known is exits all = refl
  branches_there s a around (more_branches at c ss bs) known is exits all =
      let clean_is = all.0 in
      let held = sites_of_each around ss in
      let others = sites_of_branches around bs in
      three_there done.more_choices (expr_alone s c) (each s a ss) (choices s a bs) (condition_there s c known clean_is.named.0 clean_is.modes clean_is.statements) (each_there s a around ss known is exits.0 (clean_first s held others all.1))
      (branches_there s a around bs known is exits.1 (clean_later s held others all.1))

  cases_there : (s : Source) (a : Around) (around : sites.Around) (e : ExprTree) (k : ClassTree) (as' : CaseNodes) → AllNamesKnown s → IsAround s a around → clean s.known e ≡ Some k → class_is is_discrete k ≡ true → CaseExits a.labels as' → Cleans s (sites_of_cases around e as') → IsSome (cases s a as')
  cases_there s a around e k no_cases known is class discrete exits all = refl
  cases_there s a around e k (more_cases at ls ss as') known is class discrete exits all =
      let clean_is = all.0 in
      let held = sites_of_each around ss in
      let others = sites_of_cases around e as' in
      three_there done.more_cases (made_each (label s) ls) (each s a ss) (cases s a as') (labels_there s k ls known discrete clean_is.named clean_is.modes (subst (λ c. flat_map (told_label s.known c) ls ≡ []) class clean_is.statements))
      (each_there s a around ss known is exits.0 (clean_first s held others all.1)) (cases_there s a around e k as' known is class discrete exits.1 (clean_later s held others all.1))

  delays_there : (s : Source) (a : Around) (around : sites.Around) (earlier : List Name) (as' : NamedNodes) → AllNamesKnown s → IsAround s a around → NamedExits a.labels as' → Cleans s (sites_of_events around earlier as') → IsSome (delays s a as')
  delays_there s a around earlier no_named known is exits all = refl
  delays_there s a around earlier (more_named at ns ss as') known is exits all =
      let listed = events_listed earlier ns in
      let held = sites_of_each around ss in
      let others = sites_of_events around (earlier ++ ns) as' in
      let first = clean_first s (listed ++ held) others all in
      three_there done.more_delays (made_each (event_used s) ns) (each s a ss) (delays s a as') (events_there s earlier ns known (clean_first s listed held first)) (each_there s a around ss known is exits.0 (clean_later s listed held first))
      (delays_there s a around (earlier ++ ns) as' known is exits.1 (clean_later s (listed ++ held) others all))

  receives_there : (s : Source) (a : Around) (around : sites.Around) (earlier : List Name) (as' : ReceiveNodes) → AllNamesKnown s → IsAround s a around → ReceiveExits a.labels as' → Cleans s (sites_of_receives around earlier as') → IsSome (receives s a as')
  receives_there s a around earlier no_receives known is exits all = refl
  receives_there s a around earlier (more_receives at n r ss as') known is exits all =
      let held = sites_of_each around ss in
      let others = sites_of_receives around (earlier ++ n ∷ []) as' in
      let names_are = all.1.0 in
      receive_made (source_used s n) (made_each (local_defined s) (some_names r)) (each s a ss) (receives s a as') (source_there s earlier n known all.0) (each_made (local_defined s) (some_names r) names_are.stands)
      (each_there s a around ss known is exits.0 (clean_first s held others all.1.1)) (receives_there s a around (earlier ++ n ∷ []) as' known is exits.1 (clean_later s held others all.1.1))

  done_there : (s : Source) (a : Around) (around : sites.Around) (o : OtherwiseNode) → AllNamesKnown s → IsAround s a around → ElseExits a.labels o → Cleans s (sites_of_otherwise around o) → IsSome (otherwise_done s a o)
  done_there s a around no_otherwise known is exits all = refl
  done_there s a around (otherwise ss) known is exits all = each_there s a around ss known is exits all

  else_there : (s : Source) (a : Around) (around : sites.Around) (o : OtherwiseNode) → AllNamesKnown s → IsAround s a around → ElseExits a.labels o → Cleans s (sites_of_otherwise around o) → IsSome (or_else s a o)
  else_there s a around no_otherwise known is exits all = refl
  else_there s a around (otherwise ss) known is exits all = map_there done.otherwise (each s a ss) (each_there s a around ss known is exits all)

  pub handler_there : HandlerThereLaw
  handler_there s a around no_handler known is exits all = refl
  handler_there s a around (handler at as' o) known is exits all =
      let listed = sites_of_exceptions around [] as' in
      let last = sites_of_otherwise around o in
      made_there done.handler (exceptions s a as') (or_else s a o) (exceptions_there s a around [] as' known is exits.0 (clean_first s listed last all)) (else_there s a around o known is exits.1 (clean_later s listed last all))

  exceptions_there : (s : Source) (a : Around) (around : sites.Around) (earlier : List Name) (as' : NamedNodes) → AllNamesKnown s → IsAround s a around → NamedExits a.labels as' → Cleans s (sites_of_exceptions around earlier as') → IsSome (exceptions s a as')
  exceptions_there s a around earlier no_named known is exits all = refl
  exceptions_there s a around earlier (more_named at ns ss as') known is exits all =
      let clean_is = all.0 in
      let held = sites_of_each around ss in
      let others = sites_of_exceptions around (earlier ++ ns) as' in
      three_there done.more_handled (made_each (exception_number s.own_exceptions) ns) (each s a ss) (exceptions s a as') (each_made (exception_number s.own_exceptions) ns clean_is.stands)
      (each_there s a around ss known is exits.0 (clean_first s held others all.1)) (exceptions_there s a around (earlier ++ ns) as' known is exits.1 (clean_later s held others all.1))

  pub body_there : BodyThereLaw
  body_there s a around no_parts known is exits all = refl
  body_there s a around (more_locals l ps) known is exits all =
      let first = sites_of_local false l in
      let later = sites_of_parts around ps in
      made_there before (declarations s l) (body s a ps) (declarations_there s false l known (clean_first s first later all)) (body_there s a around ps known is exits (clean_later s first later all))
  body_there s a around (more_actions x ps) known is exits all =
      let first = sites_of around x in
      let later = sites_of_parts around ps in
      made_there done.more_statements (statement s a x) (body s a ps) (statement_there s a around x known is exits.0 (clean_first s first later all)) (body_there s a around ps known is exits.1 (clean_later s first later all))
