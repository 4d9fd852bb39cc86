-- Statements, bodies and handlers are typed, where nothing is told at their nodes.
use Rattle.std.proofs.Common.{◌≡◌, ℕ, suc, ◌≤◌, Bool, true, false, ◌&&◌, List, [], ◌∷◌, ◌++◌, length, Option, Some, None, refl, sym, ap, ◌∙◌, subst, true≢false}
use Rattle.std.specs.Prelude.{not, if◌then◌else◌, option_map, option_and_then, map, flat_map, All}
use Rattle.chill_tree.specs.declared.tree.name.Name.{Name}
use Rattle.chill_tree.specs.ExprTree.{ExprTree, place_of}
use Rattle.chill_tree.specs.LocalTree.{DeclarationTree, LocalTree, synonyms, syn_modes, new_modes, locations}
use Rattle.chill_tree.specs.StatementTree.{StatementTree, BracketedTree, StatementNodes, ElsIfNodes, CaseNodes, NamedNodes, ReceiveNodes, OtherwiseNode, HandlerNode, BodyNodes, empty, simple, bracketed, if_then, case_of, do_loop, begin_end, delay_case, receive_case, no_statements, more_statements, no_branches, more_branches, no_cases, more_cases, no_named, more_named, no_receives, more_receives, no_otherwise, otherwise, no_handler, handler, no_parts, more_locals, more_actions}
use Rattle.modes.specs.ModeTree.{ModeTree}
use Rattle.modes.specs.Bounds.{bounds_of}
use Rattle.modes.specs.Form.{FormTree, form_of, of_instance}
use Rattle.diagnostics.specs.declared.rule.Rule.TheVariants as rules
use Rattle.checked_program.specs.declared.expr.Base.{Base}
use Rattle.program_trees.specs.ExprTree as made
use Rattle.program_trees.specs.StatementTree as done
use Rattle.checks_model.specs.Alike.{is_discrete, is_instance, is_meeting}
use Rattle.checks_model.specs.Classes.{class_of}
use Rattle.checks_model.specs.ConstantRules.{told_of_some_constants}
use Rattle.checks_model.specs.WrittenModes.{told_of_mode}
use Rattle.checks_model.specs.Told.{tell_at, holds_of}
use Rattle.checks_model.specs.ValueRules.{of_mode, selector, told_value, told_some_value, place, is_free}
use Rattle.checks_model.specs.ProcessRules.{told_set, takes_instance}
use Rattle.checks_model.specs.Phases as phases
use Rattle.checks_model.specs.Phases.{some_expr, initial_expr, exprs_of_mode, told_without_value, told_alone, told_met}
use Rattle.checks_model.specs.Sites as sites
use Rattle.checks_model.specs.Sites.{Site, at_declaration, at_simple, at_set, at_priority, at_source, some_site, events_listed, sites_of_local, sites_of, sites_of_bracketed, sites_of_each, sites_of_branches, sites_of_cases, sites_of_events, sites_of_receives, sites_of_otherwise, sites_of_handler, sites_of_exceptions, sites_of_parts}
use Rattle.written_laws.specs.Written.{Each}
use Rattle.elaborated_laws.proofs.Told.{none_later, none_then, not_broken, not_true, both_left, both_right, no_some, same_some, there_mapped}
use Rattle.elaborated_laws.proofs.Classes.{no_receiver}
use Rattle.there_laws.proofs.Modes.{value_in}
use Rattle.elaboration_model.specs.Numbering.{Source, thing_used, event_used, local_defined}
use Rattle.elaboration_model.specs.Exceptions.{exception_number}
use Rattle.elaboration_model.specs.Parts.{made_of, made_of_three, made_each, made_of_some}
use Rattle.elaboration_model.specs.Expressions.{Target, expr_alone, received_by, target}
use Rattle.elaboration_model.specs.Statements.{Around, within, is_labelled, priority, label, plain, base_defined, locals_among, set_locals, declared_as, first_mode, declaration, declarations, before, action_of, control, some_names, is_buffer, receives_from, first_is_buffer, set_location, source_used, with_receive, delayed, statement, holding, each, choices, cases, delays, receives, otherwise_done, or_else, handled, exceptions, body}
use Rattle.expression_laws.specs.Names.{IsWellNamed, AllNamesKnown}
use Rattle.expression_laws.specs.Statements.{AreDeclared, IsNodeClean, IsAround}
use Rattle.expression_laws.proofs.Values.{class_valued, discrete_there}
use Rattle.expression_laws.proofs.Parts.{class_declarable}
use Rattle.expression_laws.proofs.Places.{in_place, free_located}
use Rattle.expression_laws.proofs.Actions.{value_known, test_holds, each_first, each_later}
use Rattle.source_meaning.specs.TypedValues.{Context, BaseHas}
use Rattle.source_meaning.specs.TypedStatements as typed
use Rattle.source_meaning.specs.TypedStatements.{IsDiscrete, TakesInstance, SignalHas, BufferBrings, IsEvent, Brings, labelled_around, IsTypedStatement, AreTyped, IsTypedHandler, AreTypedAlternatives, IsTypedOtherwise, IsTypedAction, AreTypedChoices, AreTypedCases, AreTypedDelays, AreTypedReceives}
use Rattle.typed_laws.specs.Typed.{mode_for}
use Rattle.typed_laws.proofs.Modes.{tested_form, declared_mode}
use Rattle.typed_laws.proofs.Made.{made_parts, three_parts}
use Rattle.typed_laws.proofs.Bracketed.{free_typed}
use Rattle.typed_laws.proofs.Expressions.{expr_typed, path_typed_law}
use Rattle.action_laws.specs.Actions.{IsSound, StandsAround}
use Rattle.action_laws.proofs.Actions.{condition_typed, value_received, priority_small, action_typed_law}
use Rattle.action_laws.proofs.Controls.{control_typed_law}
use Rattle.body_laws.specs.Statements.{ReceivedTyped, IsAlikeWith, NodeTyped, IsNodeSound, StatementTypedLaw, BodyTypedLaw, HandlerTypedLaw}
use Rattle.body_laws.proofs.Places.{is_plain, statement_has, stands_within, each_all, lowest_typed, lowest_plain, action_plain}

abbrev Sounds : Source → Context → List Site → Type 0
Sounds s ctx ns = Each (IsNodeSound s ctx) ns

sound_first : (s : Source) (ctx : Context) (xs ys : List Site) → Sounds s ctx (xs ++ ys) → Sounds s ctx xs
sound_first s ctx xs ys all = each_first (IsNodeSound s ctx) xs ys all

sound_later : (s : Source) (ctx : Context) (xs ys : List Site) → Sounds s ctx (xs ++ ys) → Sounds s ctx ys
sound_later s ctx xs ys all = each_later (IsNodeSound s ctx) xs ys all

same_context : (l : Bool) (at : typed.Around) → at.context ≡ (labelled_around l at).context
same_context true at = refl
same_context false at = refl

around_within : (s : Source) (l : Option Name) (a : Around) (around : sites.Around) → IsAround s a around → IsAround s (within l a) around
around_within s None a around is = is
around_within s (Some l) a around is = record { result = is.result; place = is.place }

-- ---- what actions that hold others evaluate

selector_typed : (s : Source) (ctx : Context) (known : AllNamesKnown s) (e : ExprTree) (x : made.ExprTree) → IsNodeSound s ctx (sites.at_selector e) → expr_alone s e ≡ Some x → IsDiscrete ctx x
selector_typed s ctx known e x node built =
    let clean_is = node.clean in
    let named = clean_is.named.0 in
    let v = value_known s selector e known named refl clean_is.statements in
    let passes = test_holds is_discrete (class_of s.known e) v.class (tell_at rules.S7 (place_of e)) v.is v.received in
    let t = expr_typed s ctx known selector e v.class x node.sound.0.names node.sound.0.bytes (record { named = named; receives = no_receiver; constants = clean_is.modes; told = v.told }) v.is (class_valued is_discrete v.class refl passes) built in
    let declarable = declared_mode v.class t.mode (class_declarable s None e v.class known named no_receiver v.is) t.of in
    let b = value_in (bounds_of t.mode) (discrete_there t.mode declarable (tested_form is_discrete v.class t.mode t.of passes)) in
    (t.mode, b.0, t.has, b.1)

priority_typed : (s : Source) (at : typed.Around) (known : AllNamesKnown s) (p : Option ExprTree) (k : ℕ) → Sounds s at.context (some_site at_priority p) → priority s p ≡ Some k → k ≤ 1000000
priority_typed s at known None k all built = priority_small s at known None k refl refl built
priority_typed s at known (Some e) k all built = (let clean_is = all.0.clean in priority_small s at known (Some e) k clean_is.modes clean_is.processes built)

-- the location behind SET
instance_at : (m : Option ModeTree) → holds_of (λ m. is_instance (form_of m)) m ≡ true → (k : ModeTree) × ((m ≡ Some k) × ((form_of k ≡ of_instance) × (not (is_meeting (form_of k)) ≡ true)))
instance_at (Some k) is = let form = by (form_of k) is in (k, (refl, (form, ap (λ f. not (is_meeting f)) form)))
  where
    by : (f : FormTree) → is_instance f ≡ true → f ≡ of_instance
    by of_instance is = refl
    by f is = absurd (true≢false (sym is))
instance_at None is = absurd (true≢false (sym is))

set_typed : (s : Source) (ctx : Context) (known : AllNamesKnown s) (set : Option ExprTree) (x : Option made.LocationTree) → Sounds s ctx (some_site at_set set) → set_location s set ≡ Some x → TakesInstance ctx x
set_typed s ctx known None x all built = subst (λ q. TakesInstance ctx q) (same_some None x built) tt
set_typed s ctx known (Some e) x all built =
    let g = s.known in
    let clean_is = all.0.clean in
    let sound = all.0.sound.0 in
    let wrong = not (takes_instance (place g e)) in
    let takes = not_true (takes_instance (place g e)) (not_broken wrong (tell_at rules.P7 (place_of e)) (none_then (told_met g e) (told_set g e) clean_is.processes)) in
    let free = both_right (holds_of (λ m. is_instance (form_of m)) (place g e).mode) (is_free (place g e).access) takes in
    let own = in_place g e (free_located g e free) in
    let m = instance_at (place g e).mode (both_left (holds_of (λ m. is_instance (form_of m)) (place g e).mode) (is_free (place g e).access) takes) in
    let there = there_mapped Some (option_map (λ (t : Target). t.0) (target s e)) x built in
    let t = there_mapped (λ (t : Target). t.0) (target s e) there.0 there.1 in
    let loc = free_typed s ctx e m.0 t.0 clean_is.named.0 clean_is.modes (sym own.told ∙ clean_is.statements) free m.1.0 m.1.1.1 (path_typed_law s ctx e known sound.names sound.bytes) t.1 in
    subst (λ q. TakesInstance ctx q) (ap Some t.2 ∙ there.2) (t.0.1, loc.0, ap form_of loc.1 ∙ m.1.1.0)

events_typed : (s : Source) (ctx : Context) (earlier ns : List Name) (ks : List ℕ) → Sounds s ctx (events_listed earlier ns) → made_each (event_used s) ns ≡ Some ks → All (IsEvent ctx) ks
events_typed s ctx earlier ns ks all built = each_all (event_used s) (IsEvent ctx) ns ks built (listed earlier ns all)
  where
    listed : (earlier ns : List Name) → Sounds s ctx (events_listed earlier ns) → Each (λ n. (k : ℕ) → event_used s n ≡ Some k → IsEvent ctx k) ns
    listed earlier [] all = tt
    listed earlier (n ∷ ns) all = (all.0.names, listed (earlier ++ n ∷ []) ns all.1)

-- ---- declarations

same_declared : (s : Source) (ns : List Name) → phases.declared_mode s.known ns ≡ first_mode s ns
same_declared s [] = refl
same_declared s (n ∷ ns) = refl

declared_typed : (s : Source) (at : typed.Around) (known : AllNamesKnown s) (ns : List Name) (e : Option ExprTree) (x : done.ActionTree) → AreDeclared s ns → ((m : ModeTree) → first_mode s ns ≡ Some m → Each (λ n. (b : Base) → base_defined s n ≡ Some b → BaseHas at.context b m) ns) → Each (IsSound s at.context) (some_expr e) → Each (IsWellNamed s.known) (some_expr e)
    → told_of_some_constants s.known e ≡ [] → told_some_value s.known (of_mode (phases.declared_mode s.known ns)) e ≡ [] → declared_as s ns (first_mode s ns) e ≡ Some x → IsTypedAction at x × (is_plain x ≡ true)
declared_typed s at known ns None x are names sound named constants none built =
    let there = there_mapped (set_locals (locals_among (map (local_defined s) ns))) (first_mode s ns) x built in
    (subst (λ q. IsTypedAction at q) there.2 (lowest_typed s at there.0 ns (names there.0 there.1)), subst (λ q. is_plain q ≡ true) there.2 (lowest_plain (locals_among (map (local_defined s) ns)) there.0))
declared_typed s at known ns (Some e) x are names sound named constants none built =
    let m = value_in (first_mode s ns) are.mode.there in
    let told = subst (λ k. told_value s.known (of_mode k) e ≡ []) (same_declared s ns) none in
    let parts = made_parts done.declare (made_each (base_defined s) ns) (received_by s (first_mode s ns) e) x built in
    let bases_have = each_all (base_defined s) (λ b. BaseHas at.context b m.0) ns parts.first parts.of_first (names m.0 m.1) in
    let taken = value_received s at known (first_mode s ns) e parts.second sound.0 are.mode.fits named.0 constants told parts.of_second m.0 m.1 in
    (subst (λ q. IsTypedAction at q) parts.whole (m.0, bases_have, taken), subst (λ q. is_plain q ≡ true) parts.whole refl)

declaration_typed : (s : Source) (at : typed.Around) (known : AllNamesKnown s) (shared : Bool) (d : DeclarationTree) (y : done.StatementTree) → IsNodeSound s at.context (at_declaration shared d) → declaration s d ≡ Some y → IsTypedStatement at y
declaration_typed s at known shared d y node built =
    let g = s.known in
    let clean_is = node.clean in
    let e = initial_expr d.initial in
    let unvalued = flat_map (told_without_value g d.initial) d.names in
    let alone_told = flat_map (told_alone g) (exprs_of_mode d.mode) in
    let there = there_mapped plain (declared_as s d.names (first_mode s d.names) e) y built in
    let has = declared_typed s at known d.names e there.0 clean_is.stands node.names node.sound clean_is.named (none_later (told_of_mode g true d.mode ++ unvalued) (told_of_some_constants g e) clean_is.modes) (none_later alone_told (told_some_value g (of_mode (phases.declared_mode g d.names)) e) clean_is.statements) there.1 in
    subst (λ q. IsTypedStatement at q) there.2 (statement_has at false there.0 done.no_handler has.1 has.0 tt)

declared_each : (s : Source) (at : typed.Around) (known : AllNamesKnown s) (shared : Bool) (ds : List DeclarationTree) (ys : List done.StatementTree) → Sounds s at.context (map (at_declaration shared) ds) → made_each (declaration s) ds ≡ Some ys → Each (IsTypedStatement at) ys
declared_each s at known shared [] ys all built = subst (λ l. Each (IsTypedStatement at) l) (same_some [] ys built) tt
declared_each s at known shared (d ∷ ds) ys all built =
    let parts = made_parts (λ y ys. y ∷ ys) (declaration s d) (made_each (declaration s) ds) ys built in
    subst (λ l. Each (IsTypedStatement at) l) parts.whole (declaration_typed s at known shared d parts.first all.0 parts.of_first, declared_each s at known shared ds parts.second all.1 parts.of_second)

pub declarations_typed : (s : Source) (at : typed.Around) (known : AllNamesKnown s) (shared : Bool) (l : LocalTree) (ys : List done.StatementTree) → Sounds s at.context (sites_of_local shared l) → declarations s l ≡ Some ys → Each (IsTypedStatement at) ys
declarations_typed s at known shared (locations p ds) ys all built = declared_each s at known shared ds ys all built
declarations_typed s at known shared (synonyms p ss) ys all built = subst (λ l. Each (IsTypedStatement at) l) (same_some [] ys built) tt
declarations_typed s at known shared (syn_modes p ds) ys all built = subst (λ l. Each (IsTypedStatement at) l) (same_some [] ys built) tt
declarations_typed s at known shared (new_modes p ds) ys all built = subst (λ l. Each (IsTypedStatement at) l) (same_some [] ys built) tt

pub before_typed : (at : typed.Around) (xs : List done.StatementTree) (rest : done.StatementNodes) → Each (IsTypedStatement at) xs → AreTyped at rest → AreTyped at (before xs rest)
before_typed at [] rest all have = have
before_typed at (x ∷ xs) rest all have = (all.0, before_typed at xs rest all.1 have)

-- ---- what is received

record ReceiveParts (k : Option ℕ) (ks : Option (List ℕ)) (ss : Option done.StatementNodes) (as' : Option done.ReceiveNodes) (x : done.ReceiveNodes) : Type 0 where
  thing : ℕ
  names : List ℕ
  actions : done.StatementNodes
  rest : done.ReceiveNodes
  of_thing : k ≡ Some thing
  of_names : ks ≡ Some names
  of_actions : ss ≡ Some actions
  of_rest : as' ≡ Some rest
  whole : done.more_receives thing names actions rest ≡ x

receive_parts : (k : Option ℕ) (ks : Option (List ℕ)) (ss : Option done.StatementNodes) (as' : Option done.ReceiveNodes) (x : done.ReceiveNodes) → with_receive k ks ss as' ≡ Some x → ReceiveParts k ks ss as' x
receive_parts (Some k) (Some ks) (Some ss) (Some as') x is = record { thing = k; names = ks; actions = ss; rest = as'; of_thing = refl; of_names = refl; of_actions = refl; of_rest = refl; whole = same_some (done.more_receives k ks ss as') x is }
receive_parts None ks ss as' x is = no_some x is
receive_parts (Some k) None ss as' x is = no_some x is
receive_parts (Some k) (Some ks) None as' x is = no_some x is
receive_parts (Some k) (Some ks) (Some ss) None x is = no_some x is

abbrev brings_of : Context → Bool → Brings
brings_of ctx true = BufferBrings ctx
brings_of ctx false = SignalHas ctx

what_brings : (s : Source) (ctx : Context) (n : Name) (ks : List ℕ) (k : ℕ) (b : Bool) → is_buffer (thing_used s n) ≡ b → (r : ReceivedTyped s ctx n ks k) → brings_of ctx b k r.modes
what_brings s ctx n ks k true is r = r.buffer is
what_brings s ctx n ks k false is r = r.signal is

receives_have : (at : typed.Around) (b : Bool) (set : Option made.LocationTree) (rs : done.ReceiveNodes) (o : done.OtherwiseNode) → TakesInstance at.context set → AreTypedReceives at (brings_of at.context b) rs → IsTypedOtherwise at o → IsTypedAction at (receives_from b set rs o)
receives_have at true set rs o first second third = (first, second, third)
receives_have at false set rs o first second third = (first, second, third)

receives_plain : (b : Bool) (set : Option made.LocationTree) (rs : done.ReceiveNodes) (o : done.OtherwiseNode) → is_plain (receives_from b set rs o) ≡ true
receives_plain true set rs o = refl
receives_plain false set rs o = refl

-- the names before say of what this one is
abbrev Agrees : Source → Bool → List Name → ReceiveNodes → Type 0
Agrees s b [] as' = first_is_buffer s as' ≡ b
Agrees s b (e ∷ es) as' = is_buffer (thing_used s e) ≡ b

this_agrees : (s : Source) (b : Bool) (earlier : List Name) (n : Name) (as' : ReceiveNodes) → first_is_buffer s as' ≡ is_buffer (thing_used s n) → Agrees s b earlier as' → IsAlikeWith s earlier n → is_buffer (thing_used s n) ≡ b
this_agrees s b [] n as' first agrees same = sym first ∙ agrees
this_agrees s b (e ∷ es) n as' first agrees same = same ∙ agrees

next_agrees : (s : Source) (b : Bool) (earlier : List Name) (n : Name) (as' rest : ReceiveNodes) → is_buffer (thing_used s n) ≡ b → Agrees s b earlier as' → Agrees s b (earlier ++ n ∷ []) rest
next_agrees s b [] n as' rest is agrees = is
next_agrees s b (e ∷ es) n as' rest is agrees = agrees

-- ---- the laws

mutual
  statement_typed : StatementTypedLaw
  statement_typed s a around at (empty p) y known is stands all built = subst (λ q. IsTypedStatement at q) (same_some (plain done.do_nothing) y built) (statement_has at false done.do_nothing done.no_handler refl tt tt)
  statement_typed s a around at (simple p act h) y known is stands all built =
      let parts = made_parts (done.statement false) (action_of s a act) (handled s a h) y built in
      let node = all.0 in
      subst (λ q. IsTypedStatement at q) parts.whole
      (statement_has at false parts.first parts.second (action_plain s a act parts.first parts.of_first) (action_typed_law s a around at act parts.first known is stands node.clean node.sound node.names parts.of_first) (handler_typed s a around at h parts.second known is stands all.1 parts.of_second))
  statement_typed s a around at (bracketed p l b h closing) y known is stands all built =
      let inner = within l a in
      let here = labelled_around (is_labelled l) at in
      let first = sites_of_bracketed around b in
      let later = sites_of_handler around h in
      let sounds = subst (λ c. Sounds s c (first ++ later)) (same_context (is_labelled l) at) all in
      let inside = stands_within s l a around at stands in
      let parts = made_parts (done.statement (is_labelled l)) (holding s inner b) (handled s inner h) y built in
      let has = holding_typed s inner around here b parts.first known (around_within s l a around is) inside (sound_first s here.context first later sounds) parts.of_first in
      subst (λ q. IsTypedStatement at q) parts.whole
      (statement_has at (is_labelled l) parts.first parts.second has.1 has.0 (handler_typed s inner around here h parts.second known (around_within s l a around is) inside (sound_later s here.context first later sounds) parts.of_second))

  holding_typed : (s : Source) (a : Around) (around : sites.Around) (at : typed.Around) (b : BracketedTree) (x : done.ActionTree) → AllNamesKnown s → IsAround s a around → StandsAround s a around at → Sounds s at.context (sites_of_bracketed around b) → holding s a b ≡ Some x → IsTypedAction at x × (is_plain x ≡ true)
  holding_typed s a around at (if_then p c ss bs o) x known is stands all built =
      let node = all.0 in
      let clean_is = node.clean in
      let held = sites_of_each around ss in
      let branches = sites_of_branches around bs in
      let last = sites_of_otherwise around o in
      let first = sound_first s at.context (held ++ branches) last all.1 in
      let parts = made_parts done.if_then (made_of_three done.more_choices (expr_alone s c) (each s a ss) (choices s a bs)) (otherwise_done s a o) x built in
      let choice = three_parts done.more_choices (expr_alone s c) (each s a ss) (choices s a bs) parts.first parts.of_first in
      let has = subst (λ q. AreTypedChoices at q) choice.whole (condition_typed s at known c choice.first node.sound.0 clean_is.named.0 clean_is.modes clean_is.statements choice.of_first, each_typed s a around at ss choice.second known is stands (sound_first s at.context held branches first) choice.of_second, branches_typed s a around at bs choice.third known is stands (sound_later s at.context held branches first) choice.of_third) in
      (subst (λ q. IsTypedAction at q) parts.whole (has, done_typed s a around at o parts.second known is stands (sound_later s at.context (held ++ branches) last all.1) parts.of_second), subst (λ q. is_plain q ≡ true) parts.whole refl)
  holding_typed s a around at (case_of p e as' o) x known is stands all built =
      let held = sites_of_cases around e as' in
      let last = sites_of_otherwise around o in
      let parts = three_parts done.case_of (expr_alone s e) (cases s a as') (or_else s a o) x built in
      (subst (λ q. IsTypedAction at q) parts.whole (selector_typed s at.context known e parts.first all.0 parts.of_first, cases_typed s a around at e as' parts.second known is stands (sound_first s at.context held last all.1) parts.of_second, else_typed s a around at o parts.third known is stands (sound_later s at.context held last all.1) parts.of_third), subst (λ q. is_plain q ≡ true) parts.whole refl)
  holding_typed s a around at (do_loop p c ss) x known is stands all built =
      let node = all.0 in
      let parts = made_parts done.do_loop (control s c) (each s a ss) x built in
      (subst (λ q. IsTypedAction at q) parts.whole (control_typed_law s at.context c parts.first known node.clean node.sound node.names parts.of_first, each_typed s a around at ss parts.second known is stands all.1 parts.of_second), subst (λ q. is_plain q ≡ true) parts.whole refl)
  holding_typed s a around at (begin_end p ps) x known is stands all built =
      let there = there_mapped done.begin_end (body s a ps) x built in
      (subst (λ q. IsTypedAction at q) there.2 (body_typed s a around at ps there.0 known is stands all there.1), subst (λ q. is_plain q ≡ true) there.2 refl)
  holding_typed s a around at (delay_case p set q as') x known is stands all built =
      let sets = some_site at_set set in
      let ranked = some_site at_priority q in
      let held = sites_of_events around [] as' in
      let first = sound_first s at.context (sets ++ ranked) held all in
      let parts = three_parts done.delay_case (set_location s set) (priority s q) (delays s a as') x built in
      (subst (λ y. IsTypedAction at y) parts.whole (set_typed s at.context known set parts.first (sound_first s at.context sets ranked first) parts.of_first, priority_typed s at known q parts.second (sound_later s at.context sets ranked first) parts.of_second, delays_typed s a around at [] as' parts.third known is stands (sound_later s at.context (sets ++ ranked) held all) parts.of_third), subst (λ y. is_plain y ≡ true) parts.whole refl)
  holding_typed s a around at (receive_case p set as' o) x known is stands all built =
      let sets = some_site at_set set in
      let held = sites_of_receives around [] as' in
      let last = sites_of_otherwise around o in
      let first = sound_first s at.context (sets ++ held) last all in
      let b = first_is_buffer s as' in
      let parts = three_parts (receives_from b) (set_location s set) (receives s a as') (or_else s a o) x built in
      (subst (λ y. IsTypedAction at y) parts.whole (receives_have at b parts.first parts.second parts.third (set_typed s at.context known set parts.first (sound_first s at.context sets held first) parts.of_first) (receives_typed s a around at b [] as' parts.second known is stands refl (sound_later s at.context sets held first) parts.of_second) (else_typed s a around at o parts.third known is stands (sound_later s at.context (sets ++ held) last all) parts.of_third)), subst (λ y. is_plain y ≡ true) parts.whole (receives_plain b parts.first parts.second parts.third))

  each_typed : (s : Source) (a : Around) (around : sites.Around) (at : typed.Around) (xs : StatementNodes) (ys : done.StatementNodes) → AllNamesKnown s → IsAround s a around → StandsAround s a around at → Sounds s at.context (sites_of_each around xs) → each s a xs ≡ Some ys → AreTyped at ys
  each_typed s a around at no_statements ys known is stands all built = subst (λ q. AreTyped at q) (same_some done.no_statements ys built) tt
  each_typed s a around at (more_statements x xs) ys known is stands all built =
      let parts = made_parts done.more_statements (statement s a x) (each s a xs) ys built in
      subst (λ q. AreTyped at q) parts.whole (statement_typed s a around at x parts.first known is stands (sound_first s at.context (sites_of around x) (sites_of_each around xs) all) parts.of_first, each_typed s a around at xs parts.second known is stands (sound_later s at.context (sites_of around x) (sites_of_each around xs) all) parts.of_second)

  branches_typed : (s : Source) (a : Around) (around : sites.Around) (at : typed.Around) (bs : ElsIfNodes) (ys : done.ChoiceNodes) → AllNamesKnown s → IsAround s a around → StandsAround s a around at → Sounds s at.context (sites_of_branches around bs) → choices s a bs ≡ Some ys → AreTypedChoices at ys
  branches_typed s a around at no_branches ys known is stands all built = subst (λ q. AreTypedChoices at q) (same_some done.no_choices ys built) tt
  branches_typed s a around at (more_branches p c ss bs) ys known is stands all built =
      let node = all.0 in
      let clean_is = node.clean in
      let held = sites_of_each around ss in
      let others = sites_of_branches around bs in
      let parts = three_parts done.more_choices (expr_alone s c) (each s a ss) (choices s a bs) ys built in
      subst (λ q. AreTypedChoices at q) parts.whole (condition_typed s at known c parts.first node.sound.0 clean_is.named.0 clean_is.modes clean_is.statements parts.of_first, each_typed s a around at ss parts.second known is stands (sound_first s at.context held others all.1) parts.of_second, branches_typed s a around at bs parts.third known is stands (sound_later s at.context held others all.1) parts.of_third)

  cases_typed : (s : Source) (a : Around) (around : sites.Around) (at : typed.Around) (e : ExprTree) (as' : CaseNodes) (ys : done.CaseNodes) → AllNamesKnown s → IsAround s a around → StandsAround s a around at → Sounds s at.context (sites_of_cases around e as') → cases s a as' ≡ Some ys → AreTypedCases at ys
  cases_typed s a around at e no_cases ys known is stands all built = subst (λ q. AreTypedCases at q) (same_some done.no_cases ys built) tt
  cases_typed s a around at e (more_cases p ls ss as') ys known is stands all built =
      let held = sites_of_each around ss in
      let others = sites_of_cases around e as' in
      let parts = three_parts done.more_cases (made_each (label s) ls) (each s a ss) (cases s a as') ys built in
      subst (λ q. AreTypedCases at q) parts.whole (each_typed s a around at ss parts.second known is stands (sound_first s at.context held others all.1) parts.of_second, cases_typed s a around at e as' parts.third known is stands (sound_later s at.context held others all.1) parts.of_third)

  delays_typed : (s : Source) (a : Around) (around : sites.Around) (at : typed.Around) (earlier : List Name) (as' : NamedNodes) (ys : done.DelayNodes) → AllNamesKnown s → IsAround s a around → StandsAround s a around at → Sounds s at.context (sites_of_events around earlier as') → delays s a as' ≡ Some ys → AreTypedDelays at ys
  delays_typed s a around at earlier no_named ys known is stands all built = subst (λ q. AreTypedDelays at q) (same_some done.no_delays ys built) tt
  delays_typed s a around at earlier (more_named p ns ss as') ys known is stands all built =
      let listed = events_listed earlier ns in
      let held = sites_of_each around ss in
      let others = sites_of_events around (earlier ++ ns) as' in
      let first = sound_first s at.context (listed ++ held) others all in
      let parts = three_parts done.more_delays (made_each (event_used s) ns) (each s a ss) (delays s a as') ys built in
      subst (λ q. AreTypedDelays at q) parts.whole (events_typed s at.context earlier ns parts.first (sound_first s at.context listed held first) parts.of_first, each_typed s a around at ss parts.second known is stands (sound_later s at.context listed held first) parts.of_second, delays_typed s a around at (earlier ++ ns) as' parts.third known is stands (sound_later s at.context (listed ++ held) others all) parts.of_third)

  receives_typed : (s : Source) (a : Around) (around : sites.Around) (at : typed.Around) (b : Bool) (earlier : List Name) (as' : ReceiveNodes) (ys : done.ReceiveNodes) → AllNamesKnown s → IsAround s a around → StandsAround s a around at → Agrees s b earlier as' → Sounds s at.context (sites_of_receives around earlier as') → receives s a as' ≡ Some ys
      → AreTypedReceives at (brings_of at.context b) ys
  receives_typed s a around at b earlier no_receives ys known is stands agrees all built = subst (λ q. AreTypedReceives at (brings_of at.context b) q) (same_some done.no_receives ys built) tt
  receives_typed s a around at b earlier (more_receives p n r ss as') ys known is stands agrees all built =
      let held = sites_of_each around ss in
      let others = sites_of_receives around (earlier ++ n ∷ []) as' in
      let parts = receive_parts (source_used s n) (made_each (local_defined s) (some_names r)) (each s a ss) (receives s a as') ys built in
      let got = all.1.0.names parts.names parts.thing parts.of_names parts.of_thing in
      let same = this_agrees s b earlier n (more_receives p n r ss as') refl agrees all.0.names in
      subst (λ q. AreTypedReceives at (brings_of at.context b) q) parts.whole (
        (got.modes, what_brings s at.context n parts.names parts.thing b same got, got.locals),
        each_typed s a around at ss parts.actions known is stands (sound_first s at.context held others all.1.1) parts.of_actions,
        receives_typed s a around at b (earlier ++ n ∷ []) as' parts.rest known is stands (next_agrees s b earlier n (more_receives p n r ss as') as' same agrees) (sound_later s at.context held others all.1.1) parts.of_rest,
      )

  done_typed : (s : Source) (a : Around) (around : sites.Around) (at : typed.Around) (o : OtherwiseNode) (ys : done.StatementNodes) → AllNamesKnown s → IsAround s a around → StandsAround s a around at → Sounds s at.context (sites_of_otherwise around o) → otherwise_done s a o ≡ Some ys → AreTyped at ys
  done_typed s a around at no_otherwise ys known is stands all built = subst (λ q. AreTyped at q) (same_some done.no_statements ys built) tt
  done_typed s a around at (otherwise ss) ys known is stands all built = each_typed s a around at ss ys known is stands all built

  else_typed : (s : Source) (a : Around) (around : sites.Around) (at : typed.Around) (o : OtherwiseNode) (y : done.OtherwiseNode) → AllNamesKnown s → IsAround s a around → StandsAround s a around at → Sounds s at.context (sites_of_otherwise around o) → or_else s a o ≡ Some y → IsTypedOtherwise at y
  else_typed s a around at no_otherwise y known is stands all built = subst (λ q. IsTypedOtherwise at q) (same_some done.no_otherwise y built) tt
  else_typed s a around at (otherwise ss) y known is stands all built = (let there = there_mapped done.otherwise (each s a ss) y built in subst (λ q. IsTypedOtherwise at q) there.2 (each_typed s a around at ss there.0 known is stands all there.1))

  handler_typed : HandlerTypedLaw
  handler_typed s a around at no_handler y known is stands all built = subst (λ q. IsTypedHandler at q) (same_some done.no_handler y built) tt
  handler_typed s a around at (handler p as' o) y known is stands all built =
      let listed = sites_of_exceptions around [] as' in
      let last = sites_of_otherwise around o in
      let parts = made_parts done.handler (exceptions s a as') (or_else s a o) y built in
      subst (λ q. IsTypedHandler at q) parts.whole (exceptions_typed s a around at [] as' parts.first known is stands (sound_first s at.context listed last all) parts.of_first, else_typed s a around at o parts.second known is stands (sound_later s at.context listed last all) parts.of_second)

  exceptions_typed : (s : Source) (a : Around) (around : sites.Around) (at : typed.Around) (earlier : List Name) (as' : NamedNodes) (ys : done.HandledNodes) → AllNamesKnown s → IsAround s a around → StandsAround s a around at → Sounds s at.context (sites_of_exceptions around earlier as') → exceptions s a as' ≡ Some ys → AreTypedAlternatives at ys
  exceptions_typed s a around at earlier no_named ys known is stands all built = subst (λ q. AreTypedAlternatives at q) (same_some done.no_handled ys built) tt
  exceptions_typed s a around at earlier (more_named p ns ss as') ys known is stands all built =
      let held = sites_of_each around ss in
      let others = sites_of_exceptions around (earlier ++ ns) as' in
      let parts = three_parts done.more_handled (made_each (exception_number s.own_exceptions) ns) (each s a ss) (exceptions s a as') ys built in
      subst (λ q. AreTypedAlternatives at q) parts.whole (each_typed s a around at ss parts.second known is stands (sound_first s at.context held others all.1) parts.of_second, exceptions_typed s a around at (earlier ++ ns) as' parts.third known is stands (sound_later s at.context held others all.1) parts.of_third)

  body_typed : BodyTypedLaw
  body_typed s a around at no_parts ys known is stands all built = subst (λ q. AreTyped at q) (same_some done.no_statements ys built) tt
  body_typed s a around at (more_locals l ps) ys known is stands all built =
      let first = sites_of_local false l in
      let later = sites_of_parts around ps in
      let parts = made_parts before (declarations s l) (body s a ps) ys built in
      subst (λ q. AreTyped at q) parts.whole (before_typed at parts.first parts.second (declarations_typed s at known false l parts.first (sound_first s at.context first later all) parts.of_first) (body_typed s a around at ps parts.second known is stands (sound_later s at.context first later all) parts.of_second))
  body_typed s a around at (more_actions x ps) ys known is stands all built =
      let first = sites_of around x in
      let later = sites_of_parts around ps in
      let parts = made_parts done.more_statements (statement s a x) (body s a ps) ys built in
      subst (λ q. AreTyped at q) parts.whole (statement_typed s a around at x parts.first known is stands (sound_first s at.context first later all) parts.of_first, body_typed s a around at ps parts.second known is stands (sound_later s at.context first later all) parts.of_second)

pub statement_typed_law : StatementTypedLaw
statement_typed_law = statement_typed

pub body_typed_law : BodyTypedLaw
body_typed_law = body_typed

pub handler_typed_law : HandlerTypedLaw
handler_typed_law = handler_typed
