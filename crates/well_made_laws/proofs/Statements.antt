-- Statements that are elaborated leave the counters around them as they are, so each loop alone sets its own.
use Rattle.std.proofs.Common.{◌≡◌, ◌<◌, ◌≤◌, ℕ, suc, Bool, true, false, ◌&&◌, List, [], ◌∷◌, ◌++◌, Option, Some, None, ℤ, refl, sym, ◌∙◌, subst, arith}
use Rattle.std.specs.Prelude.{not, ◌==◌, map, slice_get, option_map, option_and_then}
use Rattle.std.specs.List.{list_all}
use Rattle.chill_tree.specs.declared.tree.name.Name.{Name}
use Rattle.chill_tree.specs.ExprTree.{ExprTree}
use Rattle.chill_tree.specs.LocalTree.{DeclarationTree, LocalTree, synonyms, syn_modes, new_modes, locations}
use Rattle.chill_tree.specs.SimpleTree.{ControlTree, while_holds, for_ever, for_members, for_steps}
use Rattle.chill_tree.specs.StatementTree.{StatementTree, BracketedTree, StatementNodes, ElsIfNodes, CaseNodes, NamedNodes, ReceiveNodes, OtherwiseNode, HandlerNode, BodyNodes, empty, simple, bracketed, if_then, case_of, do_loop, begin_end, delay_case, receive_case, no_statements, more_statements, no_branches, more_branches, no_cases, more_cases, no_named, more_named, no_receives, more_receives, no_otherwise, otherwise, no_handler, handler, no_parts, more_locals, more_actions}
use Rattle.modes.specs.ModeTree.{ModeTree}
use Rattle.checked_program.specs.declared.expr.Base.{Base}
use Rattle.program_trees.specs.ExprTree as made
use Rattle.program_trees.specs.StatementTree as done
use Rattle.checks_model.specs.Ground.{a_counter, number_at}
use Rattle.checks_model.specs.Phases.{initial_expr}
use Rattle.checks_model.specs.Sites.{Site, Around as Place, at_declaration, at_simple, at_condition, at_selector, at_control, at_set, at_priority, some_site, events_listed, counter_in, names_received, sites_of_local, sites_of, sites_of_bracketed, sites_of_each, sites_of_branches, sites_of_cases, sites_of_events, sites_of_receives, sites_of_otherwise, sites_of_handler, sites_of_exceptions, sites_of_parts}
use Rattle.table_laws.specs.Names.{names_in, names_in_some}
use Rattle.written_laws.specs.Written.{Each}
use Rattle.elaborated_laws.proofs.Told.{no_some, same_some, of_both, there_mapped}
use Rattle.elaboration_model.specs.Parts.{made_of_three, made_each, made_of_some}
use Rattle.elaboration_model.specs.Numbering.{Source, thing_of, event_used, local_number, local_defined}
use Rattle.elaboration_model.specs.Exceptions.{exception_number}
use Rattle.elaboration_model.specs.Expressions.{Target, target, expr_alone, received_by, mode_defined, base_of}
use Rattle.elaboration_model.specs.Statements.{Around, within, priority, label, plain, base_defined, locals_among, set_locals, declared_as, first_mode, declaration, declarations, before, action_of, low_of, members_loop, steps_loop, control, some_names, receives_from, first_is_buffer, set_location, source_used, with_receive, is_labelled, statement, holding, each, choices, cases, delays, receives, otherwise_done, or_else, handled, exceptions, body}
use Rattle.expression_laws.proofs.Actions.{each_first, each_later}
use Rattle.head_laws.proofs.Rows.{made_parts, three_parts}
use Rattle.code_laws.specs.Counters.{is_other, expr_leaves, some_leaves, received_leaves, target_leaves, set_leaves, are_others, control_leaves, statements_leave, statement_leaves, handler_leaves, handled_leave, otherwise_leaves, action_leaves, choices_leave, cases_leave, delays_leave, receives_leave}
use Rattle.within_laws.specs.Within.{IsOfBody, IsUsedWithin, AreDefinedFrom, AreSitesWithin, names_used, names_defined}
use Rattle.well_made_laws.proofs.Free.{FreeIn}
use Rattle.well_made_laws.proofs.Locals.{number_apart, base_apart}
use Rattle.well_made_laws.proofs.Expressions.{IsCounterOf}
use Rattle.well_made_laws.proofs.Actions.{SomeFree, TargetFree, ActionFree, expr_left, received_left, target_left, some_left, action_left}

-- ---- what an alternative of a RECEIVE CASE is made of

pub receive_parts : (P : done.ReceiveNodes → Type 0) (k : Option ℕ) (ks : Option (List ℕ)) (ss : Option done.StatementNodes) (rest : Option done.ReceiveNodes) (z : done.ReceiveNodes) → with_receive k ks ss rest ≡ Some z
    → ((j : ℕ) (js : List ℕ) (xs : done.StatementNodes) (rs : done.ReceiveNodes) → ks ≡ Some js → ss ≡ Some xs → rest ≡ Some rs → P (done.more_receives j js xs rs)) → P z
receive_parts P (Some k) (Some ks) (Some ss) (Some rs) z is step = subst P (same_some (done.more_receives k ks ss rs) z is) (step k ks ss rs refl refl refl)
receive_parts P (Some k) (Some ks) (Some ss) None z is step = no_some z is
receive_parts P (Some k) (Some ks) None rest z is step = no_some z is
receive_parts P (Some k) None ss rest z is step = no_some z is
receive_parts P None ks ss rest z is step = no_some z is

module _ (s : Source) (b : ℕ) where
  -- ---- nodes

  abbrev pub ControlFree : ControlTree → Type 0
  ControlFree (while_holds at c) = FreeIn s c
  ControlFree (for_ever at) = Unit {0}
  ControlFree (for_members at n x c) = FreeIn s x × SomeFree s c
  ControlFree (for_steps at n x step down to c) = FreeIn s x × SomeFree s step × FreeIn s to × SomeFree s c

  -- a counter is one of the body, and is defined by its loop
  abbrev pub CounterIs : ControlTree → Name → Type 0
  CounterIs c n = (d : ℕ) → number_at s.known.defined n.at ≡ Some d → IsOfBody b (thing_of s.rows d) × (slice_get s.known.origins d ≡ Some (a_counter c))

  -- what is set in the expressions at a node can be written
  abbrev pub SiteFree : Site → Type 0
  SiteFree (at_declaration shared d) = SomeFree s (initial_expr d.initial)
  SiteFree (at_simple a act) = ActionFree s act
  SiteFree (at_condition e) = FreeIn s e
  SiteFree (at_selector e) = FreeIn s e
  SiteFree (at_control c) = ControlFree c × Each (CounterIs c) (counter_in c)
  SiteFree (at_set e) = TargetFree s e
  SiteFree n = Unit {0}

  pub record SiteGood (n : Site) : Type 0 where
    pub free : SiteFree n
    pub own : Each (IsUsedWithin s b) (names_used n)

  -- what is defined at a node is another than a definition
  abbrev pub IsApart : ℕ → Name → Type 0
  IsApart d0 n = (d : ℕ) → number_at s.known.defined n.at ≡ Some d → IsOfBody b (thing_of s.rows d) × (d ≡ d0 → ⊥)

  abbrev pub SiteApart : ℕ → Site → Type 0
  SiteApart d0 n = Each (IsApart d0) (names_defined n)

  -- what is defined behind the node of a loop is another than its counter
  abbrev pub LaterApart : Site → List Site → Type 0
  LaterApart (at_control c) ns = Each (λ m. (d : ℕ) → number_at s.known.defined m.at ≡ Some d → Each (SiteApart d) ns) (counter_in c)
  LaterApart n ns = Unit {0}

  abbrev pub Rises : List Site → Type 0
  Rises [] = Unit {0}
  Rises (n ∷ ns) = LaterApart n ns × Rises ns

  fewer_apart : (ns : List Name) (xs ys : List Site) → Each (λ m. (d : ℕ) → number_at s.known.defined m.at ≡ Some d → Each (SiteApart d) (xs ++ ys)) ns → Each (λ m. (d : ℕ) → number_at s.known.defined m.at ≡ Some d → Each (SiteApart d) xs) ns
  fewer_apart [] xs ys all = tt
  fewer_apart (n ∷ ns) xs ys all = ((λ d at. each_first (SiteApart d) xs ys (all.0 d at)), fewer_apart ns xs ys all.1)

  later_first : (n : Site) (xs ys : List Site) → LaterApart n (xs ++ ys) → LaterApart n xs
  later_first (at_control c) xs ys all = fewer_apart (counter_in c) xs ys all
  later_first n xs ys all = tt

  pub rises_first : (xs ys : List Site) → Rises (xs ++ ys) → Rises xs
  rises_first [] ys all = tt
  rises_first (n ∷ xs) ys all = (later_first n xs ys all.0, rises_first xs ys all.1)

  pub rises_later : (xs ys : List Site) → Rises (xs ++ ys) → Rises ys
  rises_later [] ys all = all
  rises_later (n ∷ xs) ys all = rises_later xs ys all.1

  -- ---- by numbers

  defined_behind : (d0 low : ℕ) (ns : List Name) (high : ℕ) → d0 < low → AreDefinedFrom s b low ns high → Each (IsApart d0) ns
  defined_behind d0 low [] high less all = tt
  defined_behind d0 low (n ∷ ns) high less all = (
    (λ d at.
        let same = same_some d all.0 (sym at ∙ all.2) in
        let above = all.1 in
        (subst (λ k. IsOfBody b (thing_of s.rows k)) (sym same) all.3, (λ is. absurd (omega (arith, less, above, same, is))))),
    defined_behind d0 (suc all.0) ns high (let above = all.1 in omega (arith, less, above)) all.4,
  )

  defined_low : (low : ℕ) (ns : List Name) (high : ℕ) → AreDefinedFrom s b low ns high → low ≤ high
  defined_low low [] high all = all
  defined_low low (n ∷ ns) high all = let above = all.1 in let rest = defined_low (suc all.0) ns high all.4 in omega (arith, above, rest)

  sites_behind : (d0 low : ℕ) (ns : List Site) (high : ℕ) → d0 < low → AreSitesWithin s b low ns high → Each (SiteApart d0) ns
  sites_behind d0 low [] high less all = tt
  sites_behind d0 low (n ∷ ns) high less all =
      let more = defined_low low (names_defined n) all.1.0 all.1.1 in (defined_behind d0 low (names_defined n) all.1.0 less all.1.1, sites_behind d0 all.1.0 ns high (omega (arith, less, more)) all.1.2)

  -- numbers of what is defined lie below what follows
  names_below : (low : ℕ) (ns : List Name) (middle : ℕ) (ss : List Site) (high : ℕ) → AreDefinedFrom s b low ns middle → AreSitesWithin s b middle ss high → Each (λ m. (d : ℕ) → number_at s.known.defined m.at ≡ Some d → Each (SiteApart d) ss) ns
  names_below low [] middle ss high all rest = tt
  names_below low (n ∷ ns) middle ss high all rest = (
    (λ d at.
        let same = same_some d all.0 (sym at ∙ all.2) in
        let more = defined_low (suc all.0) ns middle all.4 in
        sites_behind d middle ss high (omega (arith, same, more)) rest),
    names_below (suc all.0) ns middle ss high all.4 rest,
  )

  pub rises_within : (low : ℕ) (ss : List Site) (high : ℕ) → AreSitesWithin s b low ss high → Rises ss
  rises_within low [] high all = tt
  rises_within low (n ∷ ss) high all = (by n all.1.1, rises_within all.1.0 ss high all.1.2)
    where
      by : (m : Site) → AreDefinedFrom s b low (names_defined m) all.1.0 → LaterApart m ss
      by (at_control c) own = names_below low (counter_in c) all.1.0 ss high own all.1.2
      by m own = tt

-- ---- what is left as it is

module _ (s : Source) (b k0 d0 : ℕ) (counter : IsCounterOf s b k0 d0) where
  abbrev Good : List Site → Type 0
  Good ss = Each (SiteGood s b) ss

  abbrev Apart : List Site → Type 0
  Apart ss = Each (SiteApart s b d0) ss

  good_first : (xs ys : List Site) → Good (xs ++ ys) → Good xs
  good_first xs ys all = each_first (SiteGood s b) xs ys all

  good_later : (xs ys : List Site) → Good (xs ++ ys) → Good ys
  good_later xs ys all = each_later (SiteGood s b) xs ys all

  apart_first : (xs ys : List Site) → Apart (xs ++ ys) → Apart xs
  apart_first xs ys all = each_first (SiteApart s b d0) xs ys all

  apart_later : (xs ys : List Site) → Apart (xs ++ ys) → Apart ys
  apart_later xs ys all = each_later (SiteApart s b d0) xs ys all

  -- ---- what is defined

  local_left : (n : Name) (k : ℕ) → IsApart s b d0 n → local_defined s n ≡ Some k → not (k == k0) ≡ true
  local_left n k apart is = by (number_at s.known.defined n.at) refl is
    where
      by : (d : Option ℕ) → number_at s.known.defined n.at ≡ d → option_and_then local_number (option_map (thing_of s.rows) d) ≡ Some k → not (k == k0) ≡ true
      by None at is = no_some k is
      by (Some d) at is = number_apart s b k0 d0 counter.thing d k (apart d at).0 (apart d at).1 is

  base_left : (n : Name) (x : Base) → IsApart s b d0 n → base_defined s n ≡ Some x → is_other k0 x ≡ true
  base_left n x apart is = by (number_at s.known.defined n.at) refl is
    where
      by : (d : Option ℕ) → number_at s.known.defined n.at ≡ d → option_and_then base_of (option_map (thing_of s.rows) d) ≡ Some x → is_other k0 x ≡ true
      by None at is = no_some x is
      by (Some d) at is = base_apart s b k0 d0 counter.thing d x (apart d at).0 (apart d at).1 is

  bases_left : (ns : List Name) (bs : List Base) → Each (IsApart s b d0) ns → made_each (base_defined s) ns ≡ Some bs → list_all (is_other k0) bs ≡ true
  bases_left [] bs apart is = subst (λ x. list_all (is_other k0) x ≡ true) (same_some [] bs is) refl
  bases_left (n ∷ ns) bs apart is =
      let m = made_parts (λ y ys. y ∷ ys) (base_defined s n) (made_each (base_defined s) ns) bs is in
      subst (λ x. list_all (is_other k0) x ≡ true) m.whole (of_both (is_other k0 m.first) (list_all (is_other k0) m.later) (base_left n m.first apart.0 m.of_first) (bases_left ns m.later apart.1 m.of_later))

  numbers_left : (ns : List Name) (ks : List ℕ) → Each (IsApart s b d0) ns → made_each (local_defined s) ns ≡ Some ks → are_others k0 ks ≡ true
  numbers_left [] ks apart is = subst (λ x. are_others k0 x ≡ true) (same_some [] ks is) refl
  numbers_left (n ∷ ns) ks apart is =
      let m = made_parts (λ y ys. y ∷ ys) (local_defined s n) (made_each (local_defined s) ns) ks is in
      subst (λ x. are_others k0 x ≡ true) m.whole (of_both (not (m.first == k0)) (are_others k0 m.later) (local_left n m.first apart.0 m.of_first) (numbers_left ns m.later apart.1 m.of_later))

  among_left : (ns : List Name) → Each (IsApart s b d0) ns → are_others k0 (locals_among (map (local_defined s) ns)) ≡ true
  among_left [] apart = refl
  among_left (n ∷ ns) apart = by (local_defined s n) refl (among_left ns apart.1)
    where
      by : (k : Option ℕ) → local_defined s n ≡ k → are_others k0 (locals_among (map (local_defined s) ns)) ≡ true → are_others k0 (locals_among (k ∷ map (local_defined s) ns)) ≡ true
      by None at rest = rest
      by (Some k) at rest = of_both (not (k == k0)) (are_others k0 (locals_among (map (local_defined s) ns))) (local_left n k apart.0 at) rest

  set_left : (ks : List ℕ) (m : ModeTree) → are_others k0 ks ≡ true → action_leaves k0 (set_locals ks m) ≡ true
  set_left [] m others = refl
  set_left (k ∷ ks) m others = others

  declared_left : (d : DeclarationTree) (e : Option ExprTree) (z : done.ActionTree) → SomeFree s e → Each (IsUsedWithin s b) (names_in_some e) → Each (IsApart s b d0) d.names → declared_as s d.names (first_mode s d.names) e ≡ Some z → action_leaves k0 z ≡ true
  declared_left d (Some e) z free own apart is =
      let m = made_parts done.declare (made_each (base_defined s) d.names) (received_by s (first_mode s d.names) e) z is in
      subst (λ x. action_leaves k0 x ≡ true) m.whole (of_both (list_all (is_other k0) m.first) (received_leaves k0 m.later) (bases_left d.names m.first apart m.of_first) (received_left s b k0 d0 counter (first_mode s d.names) e m.later free own m.of_later))
  declared_left d None z free own apart is =
      let there = there_mapped (set_locals (locals_among (map (local_defined s) d.names))) (first_mode s d.names) z is in
      subst (λ x. action_leaves k0 x ≡ true) there.2 (set_left (locals_among (map (local_defined s) d.names)) there.0 (among_left d.names apart))

  before_left : (xs : List done.StatementTree) (rest : done.StatementNodes) → Each (λ x. statement_leaves k0 x ≡ true) xs → statements_leave k0 rest ≡ true → statements_leave k0 (before xs rest) ≡ true
  before_left [] rest all later = later
  before_left (x ∷ xs) rest all later = of_both (statement_leaves k0 x) (statements_leave k0 (before xs rest)) all.0 (before_left xs rest all.1 later)

  each_declared : (shared : Bool) (ds : List DeclarationTree) (xs : List done.StatementTree) → Good (map (at_declaration shared) ds) → Apart (map (at_declaration shared) ds) → made_each (declaration s) ds ≡ Some xs → Each (λ x. statement_leaves k0 x ≡ true) xs
  each_declared shared [] xs good apart is = subst (Each (λ x. statement_leaves k0 x ≡ true)) (same_some [] xs is) tt
  each_declared shared (d ∷ ds) xs good apart is =
      let m = made_parts (λ y ys. y ∷ ys) (declaration s d) (made_each (declaration s) ds) xs is in
      let there = there_mapped plain (declared_as s d.names (first_mode s d.names) (initial_expr d.initial)) m.first m.of_first in
      let own = declared_left d (initial_expr d.initial) there.0 good.0.free good.0.own apart.0 there.1 in
      subst (Each (λ x. statement_leaves k0 x ≡ true)) m.whole (subst (λ x. statement_leaves k0 x ≡ true) there.2 (of_both (action_leaves k0 there.0) true own refl), each_declared shared ds m.later good.1 apart.1 m.of_later)

  pub local_before_left : (shared : Bool) (l : LocalTree) (xs : List done.StatementTree) (rest : done.StatementNodes) → Good (sites_of_local shared l) → Apart (sites_of_local shared l) → declarations s l ≡ Some xs → statements_leave k0 rest ≡ true → statements_leave k0 (before xs rest) ≡ true
  local_before_left shared (locations at ds) xs rest good apart is later = before_left xs rest (each_declared shared ds xs good apart is) later
  local_before_left shared (synonyms at ss) xs rest good apart is later = subst (λ ys. statements_leave k0 (before ys rest) ≡ true) (same_some [] xs is) later
  local_before_left shared (syn_modes at ds) xs rest good apart is later = subst (λ ys. statements_leave k0 (before ys rest) ≡ true) (same_some [] xs is) later
  local_before_left shared (new_modes at ds) xs rest good apart is later = subst (λ ys. statements_leave k0 (before ys rest) ≡ true) (same_some [] xs is) later

  -- ---- loops and what is received

  abbrev ControlLeaves : done.ControlTree → Type 0
  ControlLeaves c = control_leaves k0 c ≡ true

  members_left : (k : Option ℕ) (set : Option made.ExprTree) (low : Option ℤ) (c : Option (Option made.ExprTree)) (z : done.ControlTree) → ((j : ℕ) → k ≡ Some j → not (j == k0) ≡ true) → ((x : made.ExprTree) → set ≡ Some x → expr_leaves k0 x ≡ true) → ((x : Option made.ExprTree) → c ≡ Some x → some_leaves k0 x ≡ true)
      → members_loop k set low c ≡ Some z → ControlLeaves z
  members_left (Some k) (Some set) (Some low) (Some c) z one two three is =
      subst ControlLeaves (same_some (done.for_members k set low c) z is) (of_both (not (k == k0)) (expr_leaves k0 set && some_leaves k0 c) (one k refl) (of_both (expr_leaves k0 set) (some_leaves k0 c) (two set refl) (three c refl)))
  members_left None set low c z one two three is = no_some z is
  members_left (Some k) None low c z one two three is = no_some z is
  members_left (Some k) (Some set) None c z one two three is = no_some z is
  members_left (Some k) (Some set) (Some low) None z one two three is = no_some z is

  steps_left : (down : Bool) (k : Option ℕ) (from : Option made.ExprTree) (step : Option (Option made.ExprTree)) (to : Option made.ExprTree) (c : Option (Option made.ExprTree)) (z : done.ControlTree) → ((j : ℕ) → k ≡ Some j → not (j == k0) ≡ true)
      → ((x : made.ExprTree) → from ≡ Some x → expr_leaves k0 x ≡ true) → ((x : Option made.ExprTree) → step ≡ Some x → some_leaves k0 x ≡ true) → ((x : made.ExprTree) → to ≡ Some x → expr_leaves k0 x ≡ true) → ((x : Option made.ExprTree) → c ≡ Some x → some_leaves k0 x ≡ true)
      → steps_loop down k from step to c ≡ Some z → ControlLeaves z
  steps_left down (Some k) (Some from) (Some step) (Some to) (Some c) z one two three four five is =
      let bounds = of_both (expr_leaves k0 from) (some_leaves k0 step) (two from refl) (three step refl) in
      let behind = of_both (expr_leaves k0 to) (some_leaves k0 c) (four to refl) (five c refl) in
      subst ControlLeaves (same_some (done.for_steps k from step to down c) z is)
      (of_both (not (k == k0)) ((expr_leaves k0 from && some_leaves k0 step) && (expr_leaves k0 to && some_leaves k0 c)) (one k refl) (of_both (expr_leaves k0 from && some_leaves k0 step) (expr_leaves k0 to && some_leaves k0 c) bounds behind))
  steps_left down None from step to c z one two three four five is = no_some z is
  steps_left down (Some k) None step to c z one two three four five is = no_some z is
  steps_left down (Some k) (Some from) None to c z one two three four five is = no_some z is
  steps_left down (Some k) (Some from) (Some step) None c z one two three four five is = no_some z is
  steps_left down (Some k) (Some from) (Some step) (Some to) None z one two three four five is = no_some z is

  control_left : (c : ControlTree) (z : done.ControlTree) → SiteGood s b (at_control c) → SiteApart s b d0 (at_control c) → control s c ≡ Some z → ControlLeaves z
  control_left (while_holds at c) z good apart is = let there = there_mapped done.while_true (expr_alone s c) z is in subst ControlLeaves there.2 (expr_left s b k0 d0 counter None c there.0 good.free.0 good.own there.1)
  control_left (for_ever at) z good apart is = subst ControlLeaves (same_some done.for_ever z is) refl
  control_left (for_members at n x c) z good apart is =
      members_left (local_defined s n) (expr_alone s x) (low_of (mode_defined s n)) (made_of_some (expr_alone s) c) z (λ j made_so. local_left n j apart.0 made_so)
      (λ y made_so. expr_left s b k0 d0 counter None x y good.free.0.0 (each_first (IsUsedWithin s b) (names_in x) (names_in_some c) good.own) made_so)
      (λ y made_so. some_left s b k0 d0 counter None c y good.free.0.1 (each_later (IsUsedWithin s b) (names_in x) (names_in_some c) good.own) made_so) is
  control_left (for_steps at n x step down to c) z good apart is =
      let own = each_first (IsUsedWithin s b) (names_in x ++ names_in_some step ++ names_in to) (names_in_some c) good.own in
      let front = each_first (IsUsedWithin s b) (names_in x ++ names_in_some step) (names_in to) own in
      steps_left down (local_defined s n) (expr_alone s x) (made_of_some (expr_alone s) step) (expr_alone s to) (made_of_some (expr_alone s) c) z (λ j made_so. local_left n j apart.0 made_so)
      (λ y made_so. expr_left s b k0 d0 counter None x y good.free.0.0 (each_first (IsUsedWithin s b) (names_in x) (names_in_some step) front) made_so)
      (λ y made_so. some_left s b k0 d0 counter None step y good.free.0.1 (each_later (IsUsedWithin s b) (names_in x) (names_in_some step) front) made_so)
      (λ y made_so. expr_left s b k0 d0 counter None to y good.free.0.2 (each_later (IsUsedWithin s b) (names_in x ++ names_in_some step) (names_in to) own) made_so)
      (λ y made_so. some_left s b k0 d0 counter None c y good.free.0.3 (each_later (IsUsedWithin s b) (names_in x ++ names_in_some step ++ names_in to) (names_in_some c) good.own) made_so) is

  set_location_left : (e : Option ExprTree) (z : Option made.LocationTree) → Good (some_site at_set e) → set_location s e ≡ Some z → set_leaves k0 z ≡ true
  set_location_left None z good is = subst (λ x. set_leaves k0 x ≡ true) (same_some None z is) refl
  set_location_left (Some e) z good is =
      let there = there_mapped Some (option_map (λ (t : Target). t.0) (target s e)) z is in
      let t = there_mapped (λ (t : Target). t.0) (target s e) there.0 there.1 in
      subst (λ x. set_leaves k0 x ≡ true) there.2 (subst (λ x. target_leaves k0 x ≡ true) t.2 (target_left s b k0 d0 counter e t.0 good.0.free good.0.own t.1))

  received_names : (names : Option (List Name)) → some_names names ≡ names_received names
  received_names None = refl
  received_names (Some ns) = refl

  case_left : (buffers : Bool) (set : Option made.LocationTree) (rs : done.ReceiveNodes) (o : done.OtherwiseNode) → set_leaves k0 set ≡ true → receives_leave k0 rs ≡ true → otherwise_leaves k0 o ≡ true → action_leaves k0 (receives_from buffers set rs o) ≡ true
  case_left true set rs o one two three = of_both (set_leaves k0 set) (receives_leave k0 rs && otherwise_leaves k0 o) one (of_both (receives_leave k0 rs) (otherwise_leaves k0 o) two three)
  case_left false set rs o one two three = of_both (set_leaves k0 set) (receives_leave k0 rs && otherwise_leaves k0 o) one (of_both (receives_leave k0 rs) (otherwise_leaves k0 o) two three)

  -- ---- statements

  mutual
    pub statement_left : (a : Around) (place : Place) (x : StatementTree) (z : done.StatementTree) → statement s a x ≡ Some z → Good (sites_of place x) → Apart (sites_of place x) → statement_leaves k0 z ≡ true
    statement_left a place (empty at) z is good apart = subst (λ y. statement_leaves k0 y ≡ true) (same_some (plain done.do_nothing) z is) refl
    statement_left a place (simple at act h) z is good apart =
        let m = made_parts (done.statement false) (action_of s a act) (handled s a h) z is in
        subst (λ y. statement_leaves k0 y ≡ true) m.whole (of_both (action_leaves k0 m.first) (handler_leaves k0 m.later) (action_left s b k0 d0 counter a act m.first good.0.free good.0.own m.of_first) (handler_left a place h m.later m.of_later good.1 apart.1))
    statement_left a place (bracketed at l act h closing) z is good apart =
        let m = made_parts (done.statement (is_labelled l)) (holding s (within l a) act) (handled s (within l a) h) z is in
        let first = sites_of_bracketed place act in
        let later = sites_of_handler place h in
        subst (λ y. statement_leaves k0 y ≡ true) m.whole
        (of_both (action_leaves k0 m.first) (handler_leaves k0 m.later) (holding_left (within l a) place act m.first m.of_first (good_first first later good) (apart_first first later apart)) (handler_left (within l a) place h m.later m.of_later (good_later first later good) (apart_later first later apart)))

    holding_left : (a : Around) (place : Place) (x : BracketedTree) (z : done.ActionTree) → holding s a x ≡ Some z → Good (sites_of_bracketed place x) → Apart (sites_of_bracketed place x) → action_leaves k0 z ≡ true
    holding_left a place (if_then at c ss bs o) z is good apart =
        let m = made_parts done.if_then (made_of_three done.more_choices (expr_alone s c) (each s a ss) (choices s a bs)) (otherwise_done s a o) z is in
        let k = three_parts done.more_choices (expr_alone s c) (each s a ss) (choices s a bs) m.first m.of_first in
        let in_statements = sites_of_each place ss in
        let in_branches = sites_of_branches place bs in
        let in_else = sites_of_otherwise place o in
        let front = good_first (in_statements ++ in_branches) in_else good.1 in
        let front_apart = apart_first (in_statements ++ in_branches) in_else apart.1 in
        let zero = expr_left s b k0 d0 counter None c k.first good.0.free good.0.own k.of_first in
        let one = each_left a place ss k.middle k.of_middle (good_first in_statements in_branches front) (apart_first in_statements in_branches front_apart) in
        let two = choices_left a place bs k.later k.of_later (good_later in_statements in_branches front) (apart_later in_statements in_branches front_apart) in
        let three = else_left a place o m.later m.of_later (good_later (in_statements ++ in_branches) in_else good.1) (apart_later (in_statements ++ in_branches) in_else apart.1) in
        let chosen = subst (λ cs. choices_leave k0 cs ≡ true) k.whole (of_both (expr_leaves k0 k.first) (statements_leave k0 k.middle && choices_leave k0 k.later) zero (of_both (statements_leave k0 k.middle) (choices_leave k0 k.later) one two)) in
        subst (λ y. action_leaves k0 y ≡ true) m.whole (of_both (choices_leave k0 m.first) (statements_leave k0 m.later) chosen three)
    holding_left a place (case_of at e as' o) z is good apart =
        let k = three_parts done.case_of (expr_alone s e) (cases s a as') (or_else s a o) z is in
        let in_cases = sites_of_cases place e as' in
        let in_else = sites_of_otherwise place o in
        let zero = expr_left s b k0 d0 counter None e k.first good.0.free good.0.own k.of_first in
        let one = cases_left a place e as' k.middle k.of_middle (good_first in_cases in_else good.1) (apart_first in_cases in_else apart.1) in
        let two = otherwise_left a place o k.later k.of_later (good_later in_cases in_else good.1) (apart_later in_cases in_else apart.1) in
        subst (λ y. action_leaves k0 y ≡ true) k.whole (of_both (expr_leaves k0 k.first) (cases_leave k0 k.middle && otherwise_leaves k0 k.later) zero (of_both (cases_leave k0 k.middle) (otherwise_leaves k0 k.later) one two))
    holding_left a place (do_loop at c ss) z is good apart =
        let m = made_parts done.do_loop (control s c) (each s a ss) z is in
        subst (λ y. action_leaves k0 y ≡ true) m.whole (of_both (control_leaves k0 m.first) (statements_leave k0 m.later) (control_left c m.first good.0 apart.0 m.of_first) (each_left a place ss m.later m.of_later good.1 apart.1))
    holding_left a place (begin_end at ps) z is good apart = let there = there_mapped done.begin_end (body s a ps) z is in subst (λ y. action_leaves k0 y ≡ true) there.2 (body_left a place ps there.0 there.1 good apart)
    holding_left a place (delay_case at set q as') z is good apart =
        let k = three_parts done.delay_case (set_location s set) (priority s q) (delays s a as') z is in
        let in_set = some_site at_set set in
        let in_priority = some_site at_priority q in
        let rest = sites_of_events place [] as' in
        let one = set_location_left set k.first (good_first in_set in_priority (good_first (in_set ++ in_priority) rest good)) k.of_first in
        let two = delays_left a place [] as' k.later k.of_later (good_later (in_set ++ in_priority) rest good) (apart_later (in_set ++ in_priority) rest apart) in
        subst (λ y. action_leaves k0 y ≡ true) k.whole (of_both (set_leaves k0 k.first) (delays_leave k0 k.later) one two)
    holding_left a place (receive_case at set as' o) z is good apart =
        let k = three_parts (receives_from (first_is_buffer s as')) (set_location s set) (receives s a as') (or_else s a o) z is in
        let in_set = some_site at_set set in
        let in_receives = sites_of_receives place [] as' in
        let in_else = sites_of_otherwise place o in
        let front = good_first (in_set ++ in_receives) in_else good in
        let front_apart = apart_first (in_set ++ in_receives) in_else apart in
        let zero = set_location_left set k.first (good_first in_set in_receives front) k.of_first in
        let one = receives_left a place [] as' k.middle k.of_middle (good_later in_set in_receives front) (apart_later in_set in_receives front_apart) in
        let two = otherwise_left a place o k.later k.of_later (good_later (in_set ++ in_receives) in_else good) (apart_later (in_set ++ in_receives) in_else apart) in
        subst (λ y. action_leaves k0 y ≡ true) k.whole (case_left (first_is_buffer s as') k.first k.middle k.later zero one two)

    pub each_left : (a : Around) (place : Place) (xs : StatementNodes) (z : done.StatementNodes) → each s a xs ≡ Some z → Good (sites_of_each place xs) → Apart (sites_of_each place xs) → statements_leave k0 z ≡ true
    each_left a place no_statements z is good apart = subst (λ y. statements_leave k0 y ≡ true) (same_some done.no_statements z is) refl
    each_left a place (more_statements x xs) z is good apart =
        let m = made_parts done.more_statements (statement s a x) (each s a xs) z is in
        let first = sites_of place x in
        let later = sites_of_each place xs in
        subst (λ y. statements_leave k0 y ≡ true) m.whole (of_both (statement_leaves k0 m.first) (statements_leave k0 m.later) (statement_left a place x m.first m.of_first (good_first first later good) (apart_first first later apart)) (each_left a place xs m.later m.of_later (good_later first later good) (apart_later first later apart)))

    choices_left : (a : Around) (place : Place) (bs : ElsIfNodes) (z : done.ChoiceNodes) → choices s a bs ≡ Some z → Good (sites_of_branches place bs) → Apart (sites_of_branches place bs) → choices_leave k0 z ≡ true
    choices_left a place no_branches z is good apart = subst (λ y. choices_leave k0 y ≡ true) (same_some done.no_choices z is) refl
    choices_left a place (more_branches at c ss bs) z is good apart =
        let k = three_parts done.more_choices (expr_alone s c) (each s a ss) (choices s a bs) z is in
        let first = sites_of_each place ss in
        let later = sites_of_branches place bs in
        let zero = expr_left s b k0 d0 counter None c k.first good.0.free good.0.own k.of_first in
        let one = each_left a place ss k.middle k.of_middle (good_first first later good.1) (apart_first first later apart.1) in
        let two = choices_left a place bs k.later k.of_later (good_later first later good.1) (apart_later first later apart.1) in
        subst (λ y. choices_leave k0 y ≡ true) k.whole (of_both (expr_leaves k0 k.first) (statements_leave k0 k.middle && choices_leave k0 k.later) zero (of_both (statements_leave k0 k.middle) (choices_leave k0 k.later) one two))

    cases_left : (a : Around) (place : Place) (e : ExprTree) (as' : CaseNodes) (z : done.CaseNodes) → cases s a as' ≡ Some z → Good (sites_of_cases place e as') → Apart (sites_of_cases place e as') → cases_leave k0 z ≡ true
    cases_left a place e no_cases z is good apart = subst (λ y. cases_leave k0 y ≡ true) (same_some done.no_cases z is) refl
    cases_left a place e (more_cases at ls ss as') z is good apart =
        let k = three_parts done.more_cases (made_each (label s) ls) (each s a ss) (cases s a as') z is in
        let first = sites_of_each place ss in
        let later = sites_of_cases place e as' in
        let one = each_left a place ss k.middle k.of_middle (good_first first later good.1) (apart_first first later apart.1) in
        let two = cases_left a place e as' k.later k.of_later (good_later first later good.1) (apart_later first later apart.1) in
        subst (λ y. cases_leave k0 y ≡ true) k.whole (of_both (statements_leave k0 k.middle) (cases_leave k0 k.later) one two)

    delays_left : (a : Around) (place : Place) (earlier : List Name) (as' : NamedNodes) (z : done.DelayNodes) → delays s a as' ≡ Some z → Good (sites_of_events place earlier as') → Apart (sites_of_events place earlier as') → delays_leave k0 z ≡ true
    delays_left a place earlier no_named z is good apart = subst (λ y. delays_leave k0 y ≡ true) (same_some done.no_delays z is) refl
    delays_left a place earlier (more_named at ns ss as') z is good apart =
        let k = three_parts done.more_delays (made_each (event_used s) ns) (each s a ss) (delays s a as') z is in
        let listed = events_listed earlier ns in
        let inside = sites_of_each place ss in
        let later = sites_of_events place (earlier ++ ns) as' in
        let one = each_left a place ss k.middle k.of_middle (good_later listed inside (good_first (listed ++ inside) later good)) (apart_later listed inside (apart_first (listed ++ inside) later apart)) in
        let two = delays_left a place (earlier ++ ns) as' k.later k.of_later (good_later (listed ++ inside) later good) (apart_later (listed ++ inside) later apart) in
        subst (λ y. delays_leave k0 y ≡ true) k.whole (of_both (statements_leave k0 k.middle) (delays_leave k0 k.later) one two)

    receives_left : (a : Around) (place : Place) (earlier : List Name) (as' : ReceiveNodes) (z : done.ReceiveNodes) → receives s a as' ≡ Some z → Good (sites_of_receives place earlier as') → Apart (sites_of_receives place earlier as') → receives_leave k0 z ≡ true
    receives_left a place earlier no_receives z is good apart = subst (λ y. receives_leave k0 y ≡ true) (same_some done.no_receives z is) refl
    receives_left a place earlier (more_receives at n r ss as') z is good apart =
        let inside = sites_of_each place ss in
        let later = sites_of_receives place (earlier ++ n ∷ []) as' in
        receive_parts (λ y. receives_leave k0 y ≡ true) (source_used s n) (made_each (local_defined s) (some_names r)) (each s a ss) (receives s a as') z is
        (λ j js xs rest numbered of_each of_rest.
        let zero = numbers_left (names_received r) js apart.1.0 (subst (λ ns. made_each (local_defined s) ns ≡ Some js) (received_names r) numbered) in
        let one = each_left a place ss xs of_each (good_first inside later good.1.1) (apart_first inside later apart.1.1) in
        let two = receives_left a place (earlier ++ n ∷ []) as' rest of_rest (good_later inside later good.1.1) (apart_later inside later apart.1.1) in
        of_both (are_others k0 js) (statements_leave k0 xs && receives_leave k0 rest) zero (of_both (statements_leave k0 xs) (receives_leave k0 rest) one two))

    else_left : (a : Around) (place : Place) (o : OtherwiseNode) (z : done.StatementNodes) → otherwise_done s a o ≡ Some z → Good (sites_of_otherwise place o) → Apart (sites_of_otherwise place o) → statements_leave k0 z ≡ true
    else_left a place no_otherwise z is good apart = subst (λ y. statements_leave k0 y ≡ true) (same_some done.no_statements z is) refl
    else_left a place (otherwise ss) z is good apart = each_left a place ss z is good apart

    otherwise_left : (a : Around) (place : Place) (o : OtherwiseNode) (z : done.OtherwiseNode) → or_else s a o ≡ Some z → Good (sites_of_otherwise place o) → Apart (sites_of_otherwise place o) → otherwise_leaves k0 z ≡ true
    otherwise_left a place no_otherwise z is good apart = subst (λ y. otherwise_leaves k0 y ≡ true) (same_some done.no_otherwise z is) refl
    otherwise_left a place (otherwise ss) z is good apart = let there = there_mapped done.otherwise (each s a ss) z is in subst (λ y. otherwise_leaves k0 y ≡ true) there.2 (each_left a place ss there.0 there.1 good apart)

    handler_left : (a : Around) (place : Place) (h : HandlerNode) (z : done.HandlerNode) → handled s a h ≡ Some z → Good (sites_of_handler place h) → Apart (sites_of_handler place h) → handler_leaves k0 z ≡ true
    handler_left a place no_handler z is good apart = subst (λ y. handler_leaves k0 y ≡ true) (same_some done.no_handler z is) refl
    handler_left a place (handler at as' o) z is good apart =
        let m = made_parts done.handler (exceptions s a as') (or_else s a o) z is in
        let first = sites_of_exceptions place [] as' in
        let later = sites_of_otherwise place o in
        let one = handled_left a place [] as' m.first m.of_first (good_first first later good) (apart_first first later apart) in
        let two = otherwise_left a place o m.later m.of_later (good_later first later good) (apart_later first later apart) in
        subst (λ y. handler_leaves k0 y ≡ true) m.whole (of_both (handled_leave k0 m.first) (otherwise_leaves k0 m.later) one two)

    handled_left : (a : Around) (place : Place) (earlier : List Name) (as' : NamedNodes) (z : done.HandledNodes) → exceptions s a as' ≡ Some z → Good (sites_of_exceptions place earlier as') → Apart (sites_of_exceptions place earlier as') → handled_leave k0 z ≡ true
    handled_left a place earlier no_named z is good apart = subst (λ y. handled_leave k0 y ≡ true) (same_some done.no_handled z is) refl
    handled_left a place earlier (more_named at ns ss as') z is good apart =
        let k = three_parts done.more_handled (made_each (exception_number s.own_exceptions) ns) (each s a ss) (exceptions s a as') z is in
        let first = sites_of_each place ss in
        let later = sites_of_exceptions place (earlier ++ ns) as' in
        let one = each_left a place ss k.middle k.of_middle (good_first first later good.1) (apart_first first later apart.1) in
        let two = handled_left a place (earlier ++ ns) as' k.later k.of_later (good_later first later good.1) (apart_later first later apart.1) in
        subst (λ y. handled_leave k0 y ≡ true) k.whole (of_both (statements_leave k0 k.middle) (handled_leave k0 k.later) one two)

    body_left : (a : Around) (place : Place) (ps : BodyNodes) (z : done.StatementNodes) → body s a ps ≡ Some z → Good (sites_of_parts place ps) → Apart (sites_of_parts place ps) → statements_leave k0 z ≡ true
    body_left a place no_parts z is good apart = subst (λ y. statements_leave k0 y ≡ true) (same_some done.no_statements z is) refl
    body_left a place (more_locals l ps) z is good apart =
        let m = made_parts before (declarations s l) (body s a ps) z is in
        let first = sites_of_local false l in
        let later = sites_of_parts place ps in
        let rest = body_left a place ps m.later m.of_later (good_later first later good) (apart_later first later apart) in
        subst (λ y. statements_leave k0 y ≡ true) m.whole (local_before_left false l m.first m.later (good_first first later good) (apart_first first later apart) m.of_first rest)
    body_left a place (more_actions x ps) z is good apart =
        let m = made_parts done.more_statements (statement s a x) (body s a ps) z is in
        let first = sites_of place x in
        let later = sites_of_parts place ps in
        subst (λ y. statements_leave k0 y ≡ true) m.whole (of_both (statement_leaves k0 m.first) (statements_leave k0 m.later) (statement_left a place x m.first m.of_first (good_first first later good) (apart_first first later apart)) (body_left a place ps m.later m.of_later (good_later first later good) (apart_later first later apart)))
