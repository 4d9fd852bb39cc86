-- Statements that are elaborated: each loop in them alone sets its counter.
use Rattle.std.proofs.Common.{◌≡◌, ◌≤◌, ℕ, Bool, true, false, List, [], ◌∷◌, ◌++◌, Option, Some, None, ℤ, refl, subst, arith}
use Rattle.std.specs.Prelude.{All, map, option_map, option_and_then}
use Rattle.std.proofs.lemmas.List.Elements.{All-nil, All-cons}
use Rattle.chill_tree.specs.declared.tree.name.Name.{Name}
use Rattle.chill_tree.specs.ExprTree.{ExprTree}
use Rattle.chill_tree.specs.LocalTree.{DeclarationTree, LocalTree, synonyms, syn_modes, new_modes, locations}
use Rattle.chill_tree.specs.SimpleTree.{ControlTree, while_holds, for_ever, for_members, for_steps}
use Rattle.chill_tree.specs.StatementTree.{StatementTree, BracketedTree, StatementNodes, ElsIfNodes, CaseNodes, NamedNodes, ReceiveNodes, OtherwiseNode, HandlerNode, BodyNodes, empty, simple, bracketed, if_then, case_of, do_loop, begin_end, delay_case, receive_case, no_statements, more_statements, no_branches, more_branches, no_cases, more_cases, no_named, more_named, no_receives, more_receives, no_otherwise, otherwise, no_handler, handler, no_parts, more_locals, more_actions}
use Rattle.modes.specs.ModeTree.{ModeTree}
use Rattle.program_trees.specs.ExprTree as made
use Rattle.program_trees.specs.StatementTree as done
use Rattle.checks_model.specs.Ground.{number_at}
use Rattle.checks_model.specs.Phases.{initial_expr}
use Rattle.checks_model.specs.Sites.{Site, Around as Place, at_control, at_declaration, at_set, at_priority, some_site, events_listed, sites_of_local, sites_of, sites_of_bracketed, sites_of_each, sites_of_branches, sites_of_cases, sites_of_events, sites_of_receives, sites_of_otherwise, sites_of_handler, sites_of_exceptions, sites_of_parts}
use Rattle.table_laws.specs.Names.{names_in, names_in_some}
use Rattle.written_laws.specs.Written.{Each}
use Rattle.elaborated_laws.proofs.Told.{no_some, same_some, of_both, there_mapped}
use Rattle.elaboration_model.specs.Parts.{made_of_three, made_each, made_of_some}
use Rattle.elaboration_model.specs.Numbering.{Source, a_local, thing_of, event_used, local_number, local_defined}
use Rattle.elaboration_model.specs.Exceptions.{exception_number}
use Rattle.elaboration_model.specs.Expressions.{expr_alone, received_by, mode_defined}
use Rattle.elaboration_model.specs.Statements.{Around, within, priority, label, plain, base_defined, locals_among, set_locals, declared_as, first_mode, declaration, declarations, before, action_of, low_of, members_loop, steps_loop, control, some_names, receives_from, first_is_buffer, set_location, source_used, is_labelled, statement, holding, each, choices, cases, delays, receives, otherwise_done, or_else, handled, exceptions, body}
use Rattle.expression_laws.proofs.Actions.{each_first, each_later}
use Rattle.head_laws.proofs.Rows.{made_parts, three_parts}
use Rattle.code_laws.specs.Counters.{some_leaves, statements_leave, statements_keep, statement_keeps, handler_keeps, handled_keep, otherwise_keeps, action_keeps, loop_keeps, choices_keep, cases_keep, delays_keep, receives_keep}
use Rattle.code_laws.specs.Bodies.{DeclareBehind}
use Rattle.within_laws.specs.Within.{IsOfBody, IsUsedWithin, names_defined}
use Rattle.well_made_laws.proofs.Locals.{as_local}
use Rattle.well_made_laws.proofs.Expressions.{IsCounterOf}
use Rattle.well_made_laws.proofs.Actions.{IsSimple, simple_keeps, action_plain, some_left}
use Rattle.well_made_laws.proofs.Statements.{receive_parts, CounterIs, SiteGood, LaterApart, Rises, rises_first, rises_later, each_left}

-- ---- the parts of a loop that counts

steps_parts : (P : done.ControlTree → Type 0) (down : Bool) (k : Option ℕ) (from : Option made.ExprTree) (step : Option (Option made.ExprTree)) (to : Option made.ExprTree) (c : Option (Option made.ExprTree)) (z : done.ControlTree)
    → ((j : ℕ) (x : made.ExprTree) (y : Option made.ExprTree) (u : made.ExprTree) (v : Option made.ExprTree) → k ≡ Some j → c ≡ Some v → P (done.for_steps j x y u down v)) → steps_loop down k from step to c ≡ Some z → P z
steps_parts P down (Some k) (Some from) (Some step) (Some to) (Some c) z so is = subst P (same_some (done.for_steps k from step to down c) z is) (so k from step to c refl refl)
steps_parts P down None from step to c z so is = no_some z is
steps_parts P down (Some k) None step to c z so is = no_some z is
steps_parts P down (Some k) (Some from) None to c z so is = no_some z is
steps_parts P down (Some k) (Some from) (Some step) None c z so is = no_some z is
steps_parts P down (Some k) (Some from) (Some step) (Some to) None z so is = no_some z is

members_keep : (k : Option ℕ) (set : Option made.ExprTree) (low : Option ℤ) (c : Option (Option made.ExprTree)) (z : done.ControlTree) (ss : done.StatementNodes) → members_loop k set low c ≡ Some z → loop_keeps z ss ≡ true
members_keep (Some k) (Some set) (Some low) (Some c) z ss is = subst (λ y. loop_keeps y ss ≡ true) (same_some (done.for_members k set low c) z is) refl
members_keep None set low c z ss is = no_some z is
members_keep (Some k) None low c z ss is = no_some z is
members_keep (Some k) (Some set) None c z ss is = no_some z is
members_keep (Some k) (Some set) (Some low) None z ss is = no_some z is

module _ (s : Source) (b : ℕ) where
  abbrev Good : List Site → Type 0
  Good ss = Each (SiteGood s b) ss

  good_first : (xs ys : List Site) → Good (xs ++ ys) → Good xs
  good_first xs ys all = each_first (SiteGood s b) xs ys all

  good_later : (xs ys : List Site) → Good (xs ++ ys) → Good ys
  good_later xs ys all = each_later (SiteGood s b) xs ys all

  -- ---- loops

  record CounterAt (n : Name) (k : ℕ) : Type 0 where
    number : ℕ
    at : number_at s.known.defined n.at ≡ Some number
    is : IsCounterOf s b k number

  counter_at : (c : ControlTree) (n : Name) (k : ℕ) → CounterIs s b c n → local_defined s n ≡ Some k → CounterAt n k
  counter_at c n k own is = by (number_at s.known.defined n.at) refl is
    where
      by : (d : Option ℕ) → number_at s.known.defined n.at ≡ d → option_and_then local_number (option_map (thing_of s.rows) d) ≡ Some k → CounterAt n k
      by None at is = no_some k is
      by (Some d) at is =
          let l = as_local s d k is in
          let same = subst (IsOfBody b) l.1 (own d at).0 in
          record { number = d; at = at; is = record { thing = subst (λ x. thing_of s.rows d ≡ a_local x k) same l.1; loop = c; origin = (own d at).1 } }

  loop_kept : (a : Around) (place : Place) (c : ControlTree) (ss : StatementNodes) (z : done.ControlTree) (zs : done.StatementNodes) → SiteGood s b (at_control c) → Good (sites_of_each place ss) → LaterApart s b (at_control c) (sites_of_each place ss)
      → control s c ≡ Some z → each s a ss ≡ Some zs → loop_keeps z zs ≡ true
  loop_kept a place (while_holds at c) ss z zs good inner apart is are = let there = there_mapped done.while_true (expr_alone s c) z is in subst (λ y. loop_keeps y zs ≡ true) there.2 refl
  loop_kept a place (for_ever at) ss z zs good inner apart is are = subst (λ y. loop_keeps y zs ≡ true) (same_some done.for_ever z is) refl
  loop_kept a place (for_members at n x c) ss z zs good inner apart is are = members_keep (local_defined s n) (expr_alone s x) (low_of (mode_defined s n)) (made_of_some (expr_alone s) c) z zs is
  loop_kept a place (for_steps at n x step down to c) ss z zs good inner apart is are =
      steps_parts (λ y. loop_keeps y zs ≡ true) down (local_defined s n) (expr_alone s x) (made_of_some (expr_alone s) step) (expr_alone s to) (made_of_some (expr_alone s) c) z
      (λ k from by_step end condition numbered conditional.
      let k0 = counter_at (for_steps at n x step down to c) n k good.free.1.0 numbered in
      let own = each_later (IsUsedWithin s b) (names_in x ++ names_in_some step ++ names_in to) (names_in_some c) good.own in
      let one = some_left s b k k0.number k0.is None c condition good.free.0.3 own conditional in
      let two = each_left s b k k0.number k0.is a place ss zs are inner (apart.0 k0.number k0.at) in
      of_both (some_leaves k condition) (statements_leave k zs) one two) is

  -- ---- declarations

  set_kept : (ks : List ℕ) (m : ModeTree) → action_keeps (set_locals ks m) ≡ true
  set_kept [] m = refl
  set_kept (k ∷ ks) m = refl

  declared_kept : (d : DeclarationTree) (e : Option ExprTree) (z : done.ActionTree) → declared_as s d.names (first_mode s d.names) e ≡ Some z → action_keeps z ≡ true
  declared_kept d (Some e) z is = let m = made_parts done.declare (made_each (base_defined s) d.names) (received_by s (first_mode s d.names) e) z is in subst (λ x. action_keeps x ≡ true) m.whole refl
  declared_kept d None z is =
      let there = there_mapped (set_locals (locals_among (map (local_defined s) d.names))) (first_mode s d.names) z is in
      subst (λ x. action_keeps x ≡ true) there.2 (set_kept (locals_among (map (local_defined s) d.names)) there.0)

  before_kept : (xs : List done.StatementTree) (rest : done.StatementNodes) → Each (λ x. statement_keeps x ≡ true) xs → statements_keep rest ≡ true → statements_keep (before xs rest) ≡ true
  before_kept [] rest all later = later
  before_kept (x ∷ xs) rest all later = of_both (statement_keeps x) (statements_keep (before xs rest)) all.0 (before_kept xs rest all.1 later)

  each_declared : (ds : List DeclarationTree) (xs : List done.StatementTree) → made_each (declaration s) ds ≡ Some xs → Each (λ x. statement_keeps x ≡ true) xs
  each_declared [] xs is = subst (Each (λ x. statement_keeps x ≡ true)) (same_some [] xs is) tt
  each_declared (d ∷ ds) xs is =
      let m = made_parts (λ y ys. y ∷ ys) (declaration s d) (made_each (declaration s) ds) xs is in
      let there = there_mapped plain (declared_as s d.names (first_mode s d.names) (initial_expr d.initial)) m.first m.of_first in
      let own = declared_kept d (initial_expr d.initial) there.0 there.1 in
      subst (Each (λ x. statement_keeps x ≡ true)) m.whole (subst (λ x. statement_keeps x ≡ true) there.2 (of_both (action_keeps there.0) true own refl), each_declared ds m.later m.of_later)

  pub local_kept : (l : LocalTree) (xs : List done.StatementTree) (rest : done.StatementNodes) → declarations s l ≡ Some xs → statements_keep rest ≡ true → statements_keep (before xs rest) ≡ true
  local_kept (locations at ds) xs rest is later = before_kept xs rest (each_declared ds xs is) later
  local_kept (synonyms at ss) xs rest is later = subst (λ ys. statements_keep (before ys rest) ≡ true) (same_some [] xs is) later
  local_kept (syn_modes at ds) xs rest is later = subst (λ ys. statements_keep (before ys rest) ≡ true) (same_some [] xs is) later
  local_kept (new_modes at ds) xs rest is later = subst (λ ys. statements_keep (before ys rest) ≡ true) (same_some [] xs is) later

  case_kept : (buffers : Bool) (set : Option made.LocationTree) (rs : done.ReceiveNodes) (o : done.OtherwiseNode) → receives_keep rs ≡ true → otherwise_keeps o ≡ true → action_keeps (receives_from buffers set rs o) ≡ true
  case_kept true set rs o one two = of_both (receives_keep rs) (otherwise_keeps o) one two
  case_kept false set rs o one two = of_both (receives_keep rs) (otherwise_keeps o) one two

  -- ---- statements

  abbrev Rise : List Site → Type 0
  Rise ss = Rises s b ss

  mutual
    pub statement_kept : (a : Around) (place : Place) (x : StatementTree) (z : done.StatementTree) → statement s a x ≡ Some z → Good (sites_of place x) → Rise (sites_of place x) → statement_keeps z ≡ true
    statement_kept a place (empty at) z is good rise = subst (λ y. statement_keeps y ≡ true) (same_some (plain done.do_nothing) z is) refl
    statement_kept a place (simple at act h) z is good rise =
        let m = made_parts (done.statement false) (action_of s a act) (handled s a h) z is in
        subst (λ y. statement_keeps y ≡ true) m.whole (of_both (action_keeps m.first) (handler_keeps m.later) (simple_keeps s m.first (action_plain s a act m.first m.of_first)) (handler_kept a place h m.later m.of_later good.1 rise.1))
    statement_kept a place (bracketed at l act h closing) z is good rise =
        let m = made_parts (done.statement (is_labelled l)) (holding s (within l a) act) (handled s (within l a) h) z is in
        let first = sites_of_bracketed place act in
        let later = sites_of_handler place h in
        subst (λ y. statement_keeps y ≡ true) m.whole
        (of_both (action_keeps m.first) (handler_keeps m.later) (holding_kept (within l a) place act m.first m.of_first (good_first first later good) (rises_first s b first later rise)) (handler_kept (within l a) place h m.later m.of_later (good_later first later good) (rises_later s b first later rise)))

    holding_kept : (a : Around) (place : Place) (x : BracketedTree) (z : done.ActionTree) → holding s a x ≡ Some z → Good (sites_of_bracketed place x) → Rise (sites_of_bracketed place x) → action_keeps z ≡ true
    holding_kept a place (if_then at c ss bs o) z is good rise =
        let m = made_parts done.if_then (made_of_three done.more_choices (expr_alone s c) (each s a ss) (choices s a bs)) (otherwise_done s a o) z is in
        let k = three_parts done.more_choices (expr_alone s c) (each s a ss) (choices s a bs) m.first m.of_first in
        let in_statements = sites_of_each place ss in
        let in_branches = sites_of_branches place bs in
        let in_else = sites_of_otherwise place o in
        let front = good_first (in_statements ++ in_branches) in_else good.1 in
        let front_rise = rises_first s b (in_statements ++ in_branches) in_else rise.1 in
        let one = each_kept a place ss k.middle k.of_middle (good_first in_statements in_branches front) (rises_first s b in_statements in_branches front_rise) in
        let two = choices_kept a place bs k.later k.of_later (good_later in_statements in_branches front) (rises_later s b in_statements in_branches front_rise) in
        let three = else_kept a place o m.later m.of_later (good_later (in_statements ++ in_branches) in_else good.1) (rises_later s b (in_statements ++ in_branches) in_else rise.1) in
        let chosen = subst (λ cs. choices_keep cs ≡ true) k.whole (of_both (statements_keep k.middle) (choices_keep k.later) one two) in
        subst (λ y. action_keeps y ≡ true) m.whole (of_both (choices_keep m.first) (statements_keep m.later) chosen three)
    holding_kept a place (case_of at e as' o) z is good rise =
        let k = three_parts done.case_of (expr_alone s e) (cases s a as') (or_else s a o) z is in
        let in_cases = sites_of_cases place e as' in
        let in_else = sites_of_otherwise place o in
        let one = cases_kept a place e as' k.middle k.of_middle (good_first in_cases in_else good.1) (rises_first s b in_cases in_else rise.1) in
        let two = otherwise_kept a place o k.later k.of_later (good_later in_cases in_else good.1) (rises_later s b in_cases in_else rise.1) in
        subst (λ y. action_keeps y ≡ true) k.whole (of_both (cases_keep k.middle) (otherwise_keeps k.later) one two)
    holding_kept a place (do_loop at c ss) z is good rise =
        let m = made_parts done.do_loop (control s c) (each s a ss) z is in
        subst (λ y. action_keeps y ≡ true) m.whole (of_both (loop_keeps m.first m.later) (statements_keep m.later) (loop_kept a place c ss m.first m.later good.0 good.1 rise.0 m.of_first m.of_later) (each_kept a place ss m.later m.of_later good.1 rise.1))
    holding_kept a place (begin_end at ps) z is good rise = let there = there_mapped done.begin_end (body s a ps) z is in subst (λ y. action_keeps y ≡ true) there.2 (body_kept a place ps there.0 there.1 good rise)
    holding_kept a place (delay_case at set q as') z is good rise =
        let k = three_parts done.delay_case (set_location s set) (priority s q) (delays s a as') z is in
        let front = some_site at_set set ++ some_site at_priority q in
        let rest = sites_of_events place [] as' in
        subst (λ y. action_keeps y ≡ true) k.whole (delays_kept a place [] as' k.later k.of_later (good_later front rest good) (rises_later s b front rest rise))
    holding_kept a place (receive_case at set as' o) z is good rise =
        let k = three_parts (receives_from (first_is_buffer s as')) (set_location s set) (receives s a as') (or_else s a o) z is in
        let in_set = some_site at_set set in
        let in_receives = sites_of_receives place [] as' in
        let in_else = sites_of_otherwise place o in
        let front = good_first (in_set ++ in_receives) in_else good in
        let front_rise = rises_first s b (in_set ++ in_receives) in_else rise in
        let one = receives_kept a place [] as' k.middle k.of_middle (good_later in_set in_receives front) (rises_later s b in_set in_receives front_rise) in
        let two = otherwise_kept a place o k.later k.of_later (good_later (in_set ++ in_receives) in_else good) (rises_later s b (in_set ++ in_receives) in_else rise) in
        subst (λ y. action_keeps y ≡ true) k.whole (case_kept (first_is_buffer s as') k.first k.middle k.later one two)

    each_kept : (a : Around) (place : Place) (xs : StatementNodes) (z : done.StatementNodes) → each s a xs ≡ Some z → Good (sites_of_each place xs) → Rise (sites_of_each place xs) → statements_keep z ≡ true
    each_kept a place no_statements z is good rise = subst (λ y. statements_keep y ≡ true) (same_some done.no_statements z is) refl
    each_kept a place (more_statements x xs) z is good rise =
        let m = made_parts done.more_statements (statement s a x) (each s a xs) z is in
        let first = sites_of place x in
        let later = sites_of_each place xs in
        subst (λ y. statements_keep y ≡ true) m.whole (of_both (statement_keeps m.first) (statements_keep m.later) (statement_kept a place x m.first m.of_first (good_first first later good) (rises_first s b first later rise)) (each_kept a place xs m.later m.of_later (good_later first later good) (rises_later s b first later rise)))

    choices_kept : (a : Around) (place : Place) (bs : ElsIfNodes) (z : done.ChoiceNodes) → choices s a bs ≡ Some z → Good (sites_of_branches place bs) → Rise (sites_of_branches place bs) → choices_keep z ≡ true
    choices_kept a place no_branches z is good rise = subst (λ y. choices_keep y ≡ true) (same_some done.no_choices z is) refl
    choices_kept a place (more_branches at c ss bs) z is good rise =
        let k = three_parts done.more_choices (expr_alone s c) (each s a ss) (choices s a bs) z is in
        let first = sites_of_each place ss in
        let later = sites_of_branches place bs in
        let one = each_kept a place ss k.middle k.of_middle (good_first first later good.1) (rises_first s b first later rise.1) in
        let two = choices_kept a place bs k.later k.of_later (good_later first later good.1) (rises_later s b first later rise.1) in
        subst (λ y. choices_keep y ≡ true) k.whole (of_both (statements_keep k.middle) (choices_keep k.later) one two)

    cases_kept : (a : Around) (place : Place) (e : ExprTree) (as' : CaseNodes) (z : done.CaseNodes) → cases s a as' ≡ Some z → Good (sites_of_cases place e as') → Rise (sites_of_cases place e as') → cases_keep z ≡ true
    cases_kept a place e no_cases z is good rise = subst (λ y. cases_keep y ≡ true) (same_some done.no_cases z is) refl
    cases_kept a place e (more_cases at ls ss as') z is good rise =
        let k = three_parts done.more_cases (made_each (label s) ls) (each s a ss) (cases s a as') z is in
        let first = sites_of_each place ss in
        let later = sites_of_cases place e as' in
        let one = each_kept a place ss k.middle k.of_middle (good_first first later good.1) (rises_first s b first later rise.1) in
        let two = cases_kept a place e as' k.later k.of_later (good_later first later good.1) (rises_later s b first later rise.1) in
        subst (λ y. cases_keep y ≡ true) k.whole (of_both (statements_keep k.middle) (cases_keep k.later) one two)

    delays_kept : (a : Around) (place : Place) (earlier : List Name) (as' : NamedNodes) (z : done.DelayNodes) → delays s a as' ≡ Some z → Good (sites_of_events place earlier as') → Rise (sites_of_events place earlier as') → delays_keep z ≡ true
    delays_kept a place earlier no_named z is good rise = subst (λ y. delays_keep y ≡ true) (same_some done.no_delays z is) refl
    delays_kept a place earlier (more_named at ns ss as') z is good rise =
        let k = three_parts done.more_delays (made_each (event_used s) ns) (each s a ss) (delays s a as') z is in
        let listed = events_listed earlier ns in
        let inside = sites_of_each place ss in
        let later = sites_of_events place (earlier ++ ns) as' in
        let one = each_kept a place ss k.middle k.of_middle (good_later listed inside (good_first (listed ++ inside) later good)) (rises_later s b listed inside (rises_first s b (listed ++ inside) later rise)) in
        let two = delays_kept a place (earlier ++ ns) as' k.later k.of_later (good_later (listed ++ inside) later good) (rises_later s b (listed ++ inside) later rise) in
        subst (λ y. delays_keep y ≡ true) k.whole (of_both (statements_keep k.middle) (delays_keep k.later) one two)

    receives_kept : (a : Around) (place : Place) (earlier : List Name) (as' : ReceiveNodes) (z : done.ReceiveNodes) → receives s a as' ≡ Some z → Good (sites_of_receives place earlier as') → Rise (sites_of_receives place earlier as') → receives_keep z ≡ true
    receives_kept a place earlier no_receives z is good rise = subst (λ y. receives_keep y ≡ true) (same_some done.no_receives z is) refl
    receives_kept a place earlier (more_receives at n r ss as') z is good rise =
        let inside = sites_of_each place ss in
        let later = sites_of_receives place (earlier ++ n ∷ []) as' in
        receive_parts (λ y. receives_keep y ≡ true) (source_used s n) (made_each (local_defined s) (some_names r)) (each s a ss) (receives s a as') z is
        (λ j js xs rest numbered of_each of_rest.
        let one = each_kept a place ss xs of_each (good_first inside later good.1.1) (rises_first s b inside later rise.1.1) in
        let two = receives_kept a place (earlier ++ n ∷ []) as' rest of_rest (good_later inside later good.1.1) (rises_later s b inside later rise.1.1) in
        of_both (statements_keep xs) (receives_keep rest) one two)

    else_kept : (a : Around) (place : Place) (o : OtherwiseNode) (z : done.StatementNodes) → otherwise_done s a o ≡ Some z → Good (sites_of_otherwise place o) → Rise (sites_of_otherwise place o) → statements_keep z ≡ true
    else_kept a place no_otherwise z is good rise = subst (λ y. statements_keep y ≡ true) (same_some done.no_statements z is) refl
    else_kept a place (otherwise ss) z is good rise = each_kept a place ss z is good rise

    otherwise_kept : (a : Around) (place : Place) (o : OtherwiseNode) (z : done.OtherwiseNode) → or_else s a o ≡ Some z → Good (sites_of_otherwise place o) → Rise (sites_of_otherwise place o) → otherwise_keeps z ≡ true
    otherwise_kept a place no_otherwise z is good rise = subst (λ y. otherwise_keeps y ≡ true) (same_some done.no_otherwise z is) refl
    otherwise_kept a place (otherwise ss) z is good rise = let there = there_mapped done.otherwise (each s a ss) z is in subst (λ y. otherwise_keeps y ≡ true) there.2 (each_kept a place ss there.0 there.1 good rise)

    pub handler_kept : (a : Around) (place : Place) (h : HandlerNode) (z : done.HandlerNode) → handled s a h ≡ Some z → Good (sites_of_handler place h) → Rise (sites_of_handler place h) → handler_keeps z ≡ true
    handler_kept a place no_handler z is good rise = subst (λ y. handler_keeps y ≡ true) (same_some done.no_handler z is) refl
    handler_kept a place (handler at as' o) z is good rise =
        let m = made_parts done.handler (exceptions s a as') (or_else s a o) z is in
        let first = sites_of_exceptions place [] as' in
        let later = sites_of_otherwise place o in
        let one = handled_kept a place [] as' m.first m.of_first (good_first first later good) (rises_first s b first later rise) in
        let two = otherwise_kept a place o m.later m.of_later (good_later first later good) (rises_later s b first later rise) in
        subst (λ y. handler_keeps y ≡ true) m.whole (of_both (handled_keep m.first) (otherwise_keeps m.later) one two)

    handled_kept : (a : Around) (place : Place) (earlier : List Name) (as' : NamedNodes) (z : done.HandledNodes) → exceptions s a as' ≡ Some z → Good (sites_of_exceptions place earlier as') → Rise (sites_of_exceptions place earlier as') → handled_keep z ≡ true
    handled_kept a place earlier no_named z is good rise = subst (λ y. handled_keep y ≡ true) (same_some done.no_handled z is) refl
    handled_kept a place earlier (more_named at ns ss as') z is good rise =
        let k = three_parts done.more_handled (made_each (exception_number s.own_exceptions) ns) (each s a ss) (exceptions s a as') z is in
        let first = sites_of_each place ss in
        let later = sites_of_exceptions place (earlier ++ ns) as' in
        let one = each_kept a place ss k.middle k.of_middle (good_first first later good.1) (rises_first s b first later rise.1) in
        let two = handled_kept a place (earlier ++ ns) as' k.later k.of_later (good_later first later good.1) (rises_later s b first later rise.1) in
        subst (λ y. handled_keep y ≡ true) k.whole (of_both (statements_keep k.middle) (handled_keep k.later) one two)

    pub body_kept : (a : Around) (place : Place) (ps : BodyNodes) (z : done.StatementNodes) → body s a ps ≡ Some z → Good (sites_of_parts place ps) → Rise (sites_of_parts place ps) → statements_keep z ≡ true
    body_kept a place no_parts z is good rise = subst (λ y. statements_keep y ≡ true) (same_some done.no_statements z is) refl
    body_kept a place (more_locals l ps) z is good rise =
        let m = made_parts before (declarations s l) (body s a ps) z is in
        let first = sites_of_local false l in
        let later = sites_of_parts place ps in
        subst (λ y. statements_keep y ≡ true) m.whole (local_kept l m.first m.later m.of_first (body_kept a place ps m.later m.of_later (good_later first later good) (rises_later s b first later rise)))
    body_kept a place (more_actions x ps) z is good rise =
        let m = made_parts done.more_statements (statement s a x) (body s a ps) z is in
        let first = sites_of place x in
        let later = sites_of_parts place ps in
        subst (λ y. statements_keep y ≡ true) m.whole (of_both (statement_keeps m.first) (statements_keep m.later) (statement_kept a place x m.first m.of_first (good_first first later good) (rises_first s b first later rise)) (body_kept a place ps m.later m.of_later (good_later first later good) (rises_later s b first later rise)))

-- ---- the declarations with which a body begins

-- all that isn't a declaration of locals without a value
abbrev NotLowest : done.StatementTree → Type 0
NotLowest (done.statement l (done.set_lowest ks xs) h) = ⊥
NotLowest x = Unit {0}

pub none_behind : (n : ℕ) (x : done.StatementTree) (xs : done.StatementNodes) → NotLowest x → DeclareBehind n (done.more_statements x xs)
none_behind n (done.statement l (done.set_lowest ks ys) h) xs not = absurd not
none_behind n x xs not = tt

module _ (s : Source) where
  simple_not_lowest : (l : Bool) (z : done.ActionTree) (h : done.HandlerNode) → IsSimple s z → NotLowest (done.statement l z h)
  simple_not_lowest l (done.set_lowest ks xs) h is = absurd is
  simple_not_lowest l z h is = tt

  received_not_lowest : (l : Bool) (h : done.HandlerNode) (buffers : Bool) (set : Option made.LocationTree) (rs : done.ReceiveNodes) (o : done.OtherwiseNode) → NotLowest (done.statement l (receives_from buffers set rs o) h)
  received_not_lowest l h true set rs o = tt
  received_not_lowest l h false set rs o = tt

  holding_not_lowest : (l : Bool) (h : done.HandlerNode) (a : Around) (x : BracketedTree) (z : done.ActionTree) → holding s a x ≡ Some z → NotLowest (done.statement l z h)
  holding_not_lowest l h a (if_then at c ss bs o) z is = let m = made_parts done.if_then (made_of_three done.more_choices (expr_alone s c) (each s a ss) (choices s a bs)) (otherwise_done s a o) z is in subst (λ y. NotLowest (done.statement l y h)) m.whole tt
  holding_not_lowest l h a (case_of at e as' o) z is = let k = three_parts done.case_of (expr_alone s e) (cases s a as') (or_else s a o) z is in subst (λ y. NotLowest (done.statement l y h)) k.whole tt
  holding_not_lowest l h a (do_loop at c ss) z is = let m = made_parts done.do_loop (control s c) (each s a ss) z is in subst (λ y. NotLowest (done.statement l y h)) m.whole tt
  holding_not_lowest l h a (begin_end at ps) z is = let there = there_mapped done.begin_end (body s a ps) z is in subst (λ y. NotLowest (done.statement l y h)) there.2 tt
  holding_not_lowest l h a (delay_case at set q as') z is = let k = three_parts done.delay_case (set_location s set) (priority s q) (delays s a as') z is in subst (λ y. NotLowest (done.statement l y h)) k.whole tt
  holding_not_lowest l h a (receive_case at set as' o) z is =
      let k = three_parts (receives_from (first_is_buffer s as')) (set_location s set) (receives s a as') (or_else s a o) z is in
      subst (λ y. NotLowest (done.statement l y h)) k.whole (received_not_lowest l h (first_is_buffer s as') k.first k.middle k.later)

  statement_not_lowest : (a : Around) (x : StatementTree) (z : done.StatementTree) → statement s a x ≡ Some z → NotLowest z
  statement_not_lowest a (empty at) z is = subst NotLowest (same_some (plain done.do_nothing) z is) tt
  statement_not_lowest a (simple at act h) z is = let m = made_parts (done.statement false) (action_of s a act) (handled s a h) z is in subst NotLowest m.whole (simple_not_lowest false m.first m.later (action_plain s a act m.first m.of_first))
  statement_not_lowest a (bracketed at l act h closing) z is =
      let m = made_parts (done.statement (is_labelled l)) (holding s (within l a) act) (handled s (within l a) h) z is in
      subst NotLowest m.whole (holding_not_lowest (is_labelled l) m.later (within l a) act m.first m.of_first)

  -- the locals that a node declares come behind so many
  abbrev pub IsBehind : ℕ → Name → Type 0
  IsBehind n m = (k : ℕ) → local_defined s m ≡ Some k → n ≤ k

  abbrev pub SiteBehind : ℕ → Site → Type 0
  SiteBehind n site = Each (IsBehind n) (names_defined site)

  among_behind : (n : ℕ) (ns : List Name) → Each (IsBehind n) ns → All (λ i. n ≤ i) (locals_among (map (local_defined s) ns))
  among_behind n [] all = All-nil (λ i. n ≤ i)
  among_behind n (m ∷ ns) all = by (local_defined s m) refl (among_behind n ns all.1)
    where
      by : (k : Option ℕ) → local_defined s m ≡ k → All (λ i. n ≤ i) (locals_among (map (local_defined s) ns)) → All (λ i. n ≤ i) (locals_among (k ∷ map (local_defined s) ns))
      by None at rest = rest
      by (Some k) at rest = All-cons (λ i. n ≤ i) k (locals_among (map (local_defined s) ns)) (all.0 k at) rest

  set_behind : (n : ℕ) (ks : List ℕ) (m : ModeTree) (rest : done.StatementNodes) → All (λ i. n ≤ i) ks → DeclareBehind n rest → DeclareBehind n (done.more_statements (plain (set_locals ks m)) rest)
  set_behind n [] m rest all later = tt
  set_behind n (k ∷ ks) m rest all later = (all, later)

  declared_behind : (n : ℕ) (d : DeclarationTree) (e : Option ExprTree) (z : done.ActionTree) (rest : done.StatementNodes) → Each (IsBehind n) d.names → declared_as s d.names (first_mode s d.names) e ≡ Some z → DeclareBehind n rest → DeclareBehind n (done.more_statements (plain z) rest)
  declared_behind n d (Some e) z rest all is later =
      let m = made_parts done.declare (made_each (base_defined s) d.names) (received_by s (first_mode s d.names) e) z is in subst (λ x. DeclareBehind n (done.more_statements (plain x) rest)) m.whole tt
  declared_behind n d None z rest all is later =
      let there = there_mapped (set_locals (locals_among (map (local_defined s) d.names))) (first_mode s d.names) z is in
      subst (λ x. DeclareBehind n (done.more_statements (plain x) rest)) there.2 (set_behind n (locals_among (map (local_defined s) d.names)) there.0 rest (among_behind n d.names all) later)

  each_behind : (n : ℕ) (ds : List DeclarationTree) (xs : List done.StatementTree) (rest : done.StatementNodes) → Each (SiteBehind n) (map (at_declaration false) ds) → made_each (declaration s) ds ≡ Some xs → DeclareBehind n rest → DeclareBehind n (before xs rest)
  each_behind n [] xs rest all is later = subst (λ ys. DeclareBehind n (before ys rest)) (same_some [] xs is) later
  each_behind n (d ∷ ds) xs rest all is later =
      let m = made_parts (λ y ys. y ∷ ys) (declaration s d) (made_each (declaration s) ds) xs is in
      let there = there_mapped plain (declared_as s d.names (first_mode s d.names) (initial_expr d.initial)) m.first m.of_first in
      let inner = each_behind n ds m.later rest all.1 m.of_later later in
      subst (λ ys. DeclareBehind n (before ys rest)) m.whole
      (subst (λ x. DeclareBehind n (done.more_statements x (before m.later rest))) there.2 (declared_behind n d (initial_expr d.initial) there.0 (before m.later rest) all.0 there.1 inner))

  local_behind : (n : ℕ) (l : LocalTree) (xs : List done.StatementTree) (rest : done.StatementNodes) → Each (SiteBehind n) (sites_of_local false l) → declarations s l ≡ Some xs → DeclareBehind n rest → DeclareBehind n (before xs rest)
  local_behind n (locations at ds) xs rest all is later = each_behind n ds xs rest all is later
  local_behind n (synonyms at ss) xs rest all is later = subst (λ ys. DeclareBehind n (before ys rest)) (same_some [] xs is) later
  local_behind n (syn_modes at ds) xs rest all is later = subst (λ ys. DeclareBehind n (before ys rest)) (same_some [] xs is) later
  local_behind n (new_modes at ds) xs rest all is later = subst (λ ys. DeclareBehind n (before ys rest)) (same_some [] xs is) later

  pub body_behind : (n : ℕ) (a : Around) (place : Place) (ps : BodyNodes) (z : done.StatementNodes) → body s a ps ≡ Some z → Each (SiteBehind n) (sites_of_parts place ps) → DeclareBehind n z
  body_behind n a place no_parts z is all = subst (DeclareBehind n) (same_some done.no_statements z is) tt
  body_behind n a place (more_locals l ps) z is all =
      let m = made_parts before (declarations s l) (body s a ps) z is in
      let first = sites_of_local false l in
      let later = sites_of_parts place ps in
      subst (DeclareBehind n) m.whole (local_behind n l m.first m.later (each_first (SiteBehind n) first later all) m.of_first (body_behind n a place ps m.later m.of_later (each_later (SiteBehind n) first later all)))
  body_behind n a place (more_actions x ps) z is all =
      let m = made_parts done.more_statements (statement s a x) (body s a ps) z is in
      subst (DeclareBehind n) m.whole (none_behind n m.first m.later (statement_not_lowest a x m.first m.of_first))

all_numbers : (ks : List ℕ) → All (λ i. 0 ≤ i) ks
all_numbers [] = All-nil (λ i. 0 ≤ i)
all_numbers (k ∷ ks) = All-cons (λ i. 0 ≤ i) k ks (omega arith) (all_numbers ks)

-- no declaration names a local before the first
pub none_before : (xs : done.StatementNodes) → DeclareBehind 0 xs
none_before done.no_statements = tt
none_before (done.more_statements (done.statement l (done.set_lowest ks ys) h) xs) = (all_numbers ks, none_before xs)
none_before (done.more_statements x xs) = tt
