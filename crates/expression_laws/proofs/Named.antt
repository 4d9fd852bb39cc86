-- At the nodes of a text that breaks no rule on names, names stand for what they have to.
use Rattle.std.proofs.Common.{◌≡◌, ℕ, suc, ◌+◌, Bool, true, false, List, [], ◌∷◌, ◌++◌, Option, Some, None, refl, sym, ap, ◌∙◌, subst, true≢false}
use Rattle.std.specs.Prelude.{map, flat_map}
use Rattle.chill_tree.specs.declared.tree.name.Name.{Name}
use Rattle.chill_tree.specs.declared.tree.item.ModulionKind.{ModulionKind}
use Rattle.chill_tree.specs.ExprTree.{ExprTree, RangeTree, name, apply, alone, between, no_exprs, more_exprs, expr_nodes, range_nodes}
use Rattle.chill_tree.specs.ModeTree as written
use Rattle.chill_tree.specs.LocalTree.{SynonymTree, ModeDefinitionTree, InitialTree, DeclarationTree, LocalTree, synonyms, syn_modes, new_modes, locations}
use Rattle.chill_tree.specs.SimpleTree.{SimpleTree, assign, update, call_of, exit, return_with, result_of, assert_that, cause, stop, start_of, delay, continue_event, send, ControlTree, while_holds, for_ever, for_members, for_steps}
use Rattle.chill_tree.specs.StatementTree.{StatementTree, BracketedTree, StatementNodes, ElsIfNodes, CaseNodes, NamedNodes, ReceiveNodes, OtherwiseNode, HandlerNode, BodyNodes, HandlerTree, BodyTree, empty, simple, bracketed, if_then, case_of, do_loop, begin_end, delay_case, receive_case, no_statements, more_statements, no_branches, more_branches, no_cases, more_cases, no_named, more_named, no_receives, more_receives, no_otherwise, otherwise, no_handler, handler, no_parts, more_locals, more_actions, handler_node, body_nodes}
use Rattle.chill_tree.specs.ItemTree.{SignalTree, ParamTree, ProcedureTree, FormalTree, ProcessTree, ItemTree, ItemNodes, local_item, signals, procedure, process, action, no_items, more_items, ModulionTree, ProgramTree, modulion_item}
use Rattle.chill_tree.specs.ItemTree.{seize as seize_item, grant as grant_item, modulion as modulion_of}
use Rattle.names_model.specs.declared.kind.Need.TheVariants as needs
use Rattle.names_model.specs.declared.part.Mention.{Mention}
use Rattle.names_model.specs.Identifiers.{identifier}
use Rattle.names_model.specs.declared.kind.Kind.TheVariants as kinds
use Rattle.names_model.specs.Parts.{define, part_nodes}
use Rattle.names_model.specs.Sizes.{size_of, block_of, head_size}
use Rattle.names_model.specs.Seeing.{Reach, outermost, in_modulion, in_block}
use Rattle.names_model.specs.NameRules.{body_reach}
use Rattle.names_model.specs.ExprMentions.{used, mentions_in_each, mentions_in_range, mentions_of, mentions_of_some, mentions_of_args, mentions_of_ranges, mentions_in_ranges}
use Rattle.names_model.specs.ModeMentions.{mentions_of_mode, mentions_of_some_mode}
use Rattle.names_model.specs.StatementParts.{clause, mentioned, synonym_part, mode_part, initial_parts, declaration_parts, local_parts, exit_parts, mentions_of_some_args, simple_parts, control_parts, counter_part, turn_parts, labelled, received_parts, statement_parts, bracketed_parts, action_parts, branch_parts, case_parts, event_parts, receive_parts, otherwise_parts, handler_parts, exception_parts, body_parts}
use Rattle.names_model.specs.ItemParts.{whole_body, item_parts, each_item, param_clause, formal_clause}
use Rattle.names_model.specs.Resolving.{level_of}
use Rattle.names_laws.proofs.Members.{here_in}
use Rattle.checks_model.specs.Ground.{Ground, Origin, of_mode, a_procedure, a_predefined, origin_of}
use Rattle.checks_model.specs.Operations.{is_routine}
use Rattle.checks_model.specs.Sites.{Site, Around, in_procedure, in_no_procedure, at_item, at_synonym, at_mode_definition, at_declaration, at_mode, at_simple, at_condition, at_selector, at_labels, at_set, at_control, at_priority, at_event, at_source, at_received, at_exceptions, at_body, some_site, events_listed, sites_of_local, sites_of, sites_of_bracketed, sites_of_each, sites_of_branches, sites_of_cases, sites_of_events, sites_of_receives, sites_of_otherwise, sites_of_handler, sites_of_exceptions, sites_of_parts, sites_of_modes, sites_of_result, sites_of_body, sites_of_procedure, sites_of_process, sites_of_item, sites_of_items, locals_of_body, items_of, sites}
use Rattle.checks_model.specs.Phases.{some_expr, some_exprs, exprs_of_simple, priority_of, exprs_of_control, exprs_of_label, exprs_of_labels, initial_expr}
use Rattle.checks_model.specs.Table.{ground_with}
use Rattle.written_laws.specs.Written.{Each, exprs_at}
use Rattle.written_laws.proofs.Shown.{each_append, each_any}
use Rattle.expression_laws.specs.Names.{stands_for_value, stands_for_location, stands_for_message, stands_for_process, stands_for_call}
use Rattle.expression_laws.specs.Named.{ExprNamed, IsNodeNamed, NodesNamedLaw}
use Rattle.expression_laws.proofs.Mentions.{SeenRow, MentionsAt, PartsAt, AreAt, StandAt, first_at, later_at, mentioned_at, mentions_first, mentions_later, IsGroundOfText, program_at, use_stands, location_stands, message_stands, process_stands, call_stands, expr_so, each_so, args_so}

-- a called name may begin a value
call_value : (o : Option Origin) → stands_for_call o ≡ true → stands_for_value o ≡ true
call_value (Some (a_procedure p)) is = refl
call_value (Some (a_predefined (of_mode m))) is = is
call_value (Some (a_predefined p)) is = refl
call_value o is = absurd (true≢false (sym is))

module _ (t : ProgramTree) (g : Ground) (of : IsGroundOfText t g) where
  abbrev Named : List Site → Type 0
  Named ns = Each (IsNodeNamed g) ns

  abbrev ExprsNamed : List ExprTree → Type 0
  ExprsNamed es = Each (ExprNamed g) es

  both : (ss ts : List Site) → Named ss → Named ts → Named (ss ++ ts)
  both ss ts first later = each_append (IsNodeNamed g) ss ts first later

  both_exprs : (xs ys : List ExprTree) → ExprsNamed xs → ExprsNamed ys → ExprsNamed (xs ++ ys)
  both_exprs xs ys first later = each_append (ExprNamed g) xs ys first later

  -- ---- expressions

  expr_named : (r : Reach) (from : ℕ) (e : ExprTree) → AreAt t r from (mentioned (mentions_of e)) → ExprNamed g e
  expr_named r from e at = expr_so t g r e of (mentioned_at t r from (mentions_of e) at)

  some_named : (r : Reach) (e : Option ExprTree) → MentionsAt t r (mentions_of_some e) → ExprsNamed (some_expr e)
  some_named r None at = tt
  some_named r (Some e) at = (expr_so t g r e of at, tt)

  list_named : (r : Reach) (es : List ExprTree) → MentionsAt t r (mentions_in_each None (expr_nodes es)) → ExprsNamed es
  list_named r [] at = tt
  list_named r (e ∷ es) at = (expr_so t g r e of (mentions_first t r (mentions_of e) (mentions_in_each None (expr_nodes es)) at), list_named r es (mentions_later t r (mentions_of e) (mentions_in_each None (expr_nodes es)) at))

  some_list_named : (r : Reach) (es : Option (List ExprTree)) → MentionsAt t r (mentions_of_some_args es) → ExprsNamed (some_exprs es)
  some_list_named r None at = tt
  some_list_named r (Some es) at = list_named r es at

  labels_named : (r : Reach) (ls : List RangeTree) → MentionsAt t r (mentions_in_ranges (range_nodes ls)) → ExprsNamed (exprs_of_labels ls)
  labels_named r [] at = tt
  labels_named r (alone e ∷ ls) at = (expr_so t g r e of (mentions_first t r (mentions_of e) (mentions_in_ranges (range_nodes ls)) at), labels_named r ls (mentions_later t r (mentions_of e) (mentions_in_ranges (range_nodes ls)) at))
  labels_named r (between l h ∷ ls) at =
      let own = mentions_first t r (mentions_of l ++ mentions_of h) (mentions_in_ranges (range_nodes ls)) at in (
        expr_so t g r l of (mentions_first t r (mentions_of l) (mentions_of h) own),
        (expr_so t g r h of (mentions_later t r (mentions_of l) (mentions_of h) own), labels_named r ls (mentions_later t r (mentions_of l ++ mentions_of h) (mentions_in_ranges (range_nodes ls)) at)),
      )

  two_named : (r : Reach) (from : ℕ) (l h : ExprTree) → AreAt t r from (mentioned (mentions_of l ++ mentions_of h)) → ExprNamed g l × ExprNamed g h
  two_named r from l h at =
      let all = mentioned_at t r from (mentions_of l ++ mentions_of h) at in
      (expr_so t g r l of (mentions_first t r (mentions_of l) (mentions_of h) all), expr_so t g r h of (mentions_later t r (mentions_of l) (mentions_of h) all))

  -- ---- actions that hold no others

  simple_named : (a : Around) (labels : List Name) (r : Reach) (from : ℕ) (x : SimpleTree) → AreAt t r from (simple_parts labels x) → IsNodeNamed g (at_simple a x)
  simple_named a labels r from (assign at k v) here = let two = two_named r from k v here in ((two.0, (two.1, tt)), tt)
  simple_named a labels r from (update at k o p v) here = let two = two_named r from k v here in ((two.0, (two.1, tt)), tt)
  simple_named a labels r from (call_of at word n es) here =
      let all = mentioned_at t r from (used needs.Action n ++ mentions_of_args (Some n) es) here in
      let callee : SeenRow t r (identifier n) = (let own = all.0 in own.row (identifier n) (here_in (identifier n) [] (identifier n) refl)) in
      let args = args_so t g r (expr_nodes es) n of callee all.1 in
      let calls = use_stands t g r n needs.Action stands_for_call of call_stands all.0 in
      ((((tt, args.0), (call_value (origin_of g n) calls, args.1)), tt), calls)
  simple_named a labels r from (exit at n) here = (tt, tt)
  simple_named a labels r from (return_with at None) here = (tt, tt)
  simple_named a labels r from (return_with at (Some e)) here = ((expr_named r from e here, tt), tt)
  simple_named a labels r from (result_of at e) here = ((expr_named r from e here, tt), tt)
  simple_named a labels r from (assert_that at c) here = ((expr_named r from c here, tt), tt)
  simple_named a labels r from (cause at n) here = (tt, tt)
  simple_named a labels r from (stop at) here = (tt, tt)
  simple_named a labels r from (start_of at n es) here =
      let all = mentioned_at t r from (used needs.Process n ++ mentions_of_args None es) here in
      (both_exprs es [] (list_named r es all.1) tt, use_stands t g r n needs.Process stands_for_process of process_stands all.0)
  simple_named a labels r from (delay at n p) here =
      let all = mentioned_at t r from (used needs.Location n ++ mentions_of_some p) here in
      (some_named r p all.1, use_stands t g r n needs.Location stands_for_location of location_stands all.0)
  simple_named a labels r from (continue_event at n) here =
      let all = mentioned_at t r from (used needs.Location n) here in
      (tt, use_stands t g r n needs.Location stands_for_location of location_stands all.0)
  simple_named a labels r from (send at n es to p) here =
      let args = mentions_of_some_args es in
      let all = mentioned_at t r from (used needs.Message n ++ args ++ mentions_of_some to ++ mentions_of_some p) here in
      let three = mentions_first t r (used needs.Message n ++ args ++ mentions_of_some to) (mentions_of_some p) all in
      let two = mentions_first t r (used needs.Message n ++ args) (mentions_of_some to) three in (
        both_exprs (some_exprs es ++ some_expr to) (some_expr p)
            (both_exprs (some_exprs es) (some_expr to) (some_list_named r es two.1) (some_named r to (mentions_later t r (used needs.Message n ++ args) (mentions_of_some to) three)))
            (some_named r p (mentions_later t r (used needs.Message n ++ args ++ mentions_of_some to) (mentions_of_some p) all)),
        use_stands t g r n needs.Message stands_for_message of message_stands two.0,
      )

  -- what a loop evaluates before its block and in it
  control_named : (c : ControlTree) (r k : Reach) (from at_turn : ℕ) → AreAt t r from (control_parts c) → AreAt t k at_turn (turn_parts c) → IsNodeNamed g (at_control c)
  control_named (while_holds at c) r k from at_turn before turn = ((expr_named k at_turn c turn, tt), tt)
  control_named (for_ever at) r k from at_turn before turn = (tt, tt)
  control_named (for_members at n s c) r k from at_turn before turn = ((expr_named r from s before, some_named k c (mentioned_at t k (at_turn + size_of (counter_part n)) (mentions_of_some c) turn.1)), tt)
  control_named (for_steps at n s b down e c) r k from at_turn before turn =
      let all = mentioned_at t r from (mentions_of s ++ mentions_of_some b ++ mentions_of e) before in
      let two = mentions_first t r (mentions_of s ++ mentions_of_some b) (mentions_of e) all in (
        (
          expr_so t g r s of (mentions_first t r (mentions_of s) (mentions_of_some b) two),
          both_exprs (some_expr b) (e ∷ some_expr c) (some_named r b (mentions_later t r (mentions_of s) (mentions_of_some b) two))
              (expr_so t g r e of (mentions_later t r (mentions_of s ++ mentions_of_some b) (mentions_of e) all), some_named k c (mentioned_at t k (at_turn + size_of (counter_part n)) (mentions_of_some c) turn.1)),
        ),
        tt,
      )

  events_named : (r : Reach) (from : ℕ) (earlier ns : List Name) → AreAt t r from (mentioned (flat_map (used needs.Location) ns)) → Named (events_listed earlier ns)
  events_named r from earlier [] at = tt
  events_named r from earlier (n ∷ ns) at =
      let all = mentioned_at t r from (flat_map (used needs.Location) (n ∷ ns)) at in
      ((tt, use_stands t g r n needs.Location stands_for_location of location_stands all.0), events_named r (from + 0) (earlier ++ n ∷ []) ns at.1)

  set_named : (r : Reach) (e : Option ExprTree) → MentionsAt t r (mentions_of_some e) → Named (some_site at_set e)
  set_named r None at = tt
  set_named r (Some e) at = (((expr_so t g r e of at, tt), tt), tt)

  priority_named : (r : Reach) (e : Option ExprTree) → MentionsAt t r (mentions_of_some e) → Named (some_site at_priority e)
  priority_named r None at = tt
  priority_named r (Some e) at = (((expr_so t g r e of at, tt), tt), tt)

  -- ---- definition statements

  synonyms_named : (r : Reach) (from : ℕ) (ss : List SynonymTree) → AreAt t r from (map synonym_part ss) → Named (map at_synonym ss)
  synonyms_named r from [] at = tt
  synonyms_named r from (s ∷ ss) at = (((expr_so t g r s.value of (mentions_later t r (mentions_of_some_mode s.mode) (mentions_of s.value) at.0), tt), tt), synonyms_named r (from + size_of (synonym_part s)) ss at.1)

  modes_named : (ds : List ModeDefinitionTree) → Named (map at_mode_definition ds)
  modes_named [] = tt
  modes_named (d ∷ ds) = ((tt, tt), modes_named ds)

  initial_named : (r : Reach) (from : ℕ) (i : Option InitialTree) → AreAt t r from (initial_parts i) → ExprsNamed (some_expr (initial_expr i))
  initial_named r from None at = tt
  initial_named r from (Some i) at = (expr_named r from i.value at, tt)

  declarations_named : (shared : Bool) (r : Reach) (from : ℕ) (ds : List DeclarationTree) → AreAt t r from (flat_map declaration_parts ds) → Named (map (at_declaration shared) ds)
  declarations_named shared r from [] at = tt
  declarations_named shared r from (d ∷ ds) at =
      let own = first_at t r from (declaration_parts d) (flat_map declaration_parts ds) at in
      let rest = later_at t r from (declaration_parts d) (flat_map declaration_parts ds) at in
      let init = later_at t r from (define (clause kinds.Location d.names (mentions_of_mode d.mode)) ∷ []) (initial_parts d.initial) own in
      ((initial_named r init.from d.initial init.holds, tt), declarations_named shared r rest.from ds rest.holds)

  local_named : (shared : Bool) (r : Reach) (from : ℕ) (l : LocalTree) → AreAt t r from (local_parts l) → Named (sites_of_local shared l)
  local_named shared r from (synonyms at ss) here = synonyms_named r from ss here
  local_named shared r from (syn_modes at ds) here = modes_named ds
  local_named shared r from (new_modes at ds) here = modes_named ds
  local_named shared r from (locations at ds) here = declarations_named shared r from ds here

  -- ---- statements

  mutual
    statement_named : (s : StatementTree) (a : Around) (labels : List Name) (r : Reach) (from : ℕ) → AreAt t r from (statement_parts labels s) → Named (sites_of a s)
    statement_named (empty at) a labels r from here = tt
    statement_named (simple at x h) a labels r from here =
        let rest = later_at t r from (simple_parts labels x) (handler_parts labels h) here in
        (simple_named a labels r from x (first_at t r from (simple_parts labels x) (handler_parts labels h) here), handler_named h a labels r rest.from rest.holds)
    statement_named (bracketed at l x h closing) a labels r from here =
        let inner = labelled l labels in
        let rest = later_at t r from (bracketed_parts inner x) (handler_parts inner h) here in
        both (sites_of_bracketed a x) (sites_of_handler a h) (bracketed_named x a inner r from (first_at t r from (bracketed_parts inner x) (handler_parts inner h) here)) (handler_named h a inner r rest.from rest.holds)

    bracketed_named : (x : BracketedTree) (a : Around) (labels : List Name) (r : Reach) (from : ℕ) → AreAt t r from (bracketed_parts labels x) → Named (sites_of_bracketed a x)
    bracketed_named (if_then at c ss bs o) a labels r from here =
        let own = mentioned (mentions_of c) in
        let most = first_at t r from (own ++ action_parts labels ss ++ branch_parts labels bs) (otherwise_parts labels o) here in
        let last = later_at t r from (own ++ action_parts labels ss ++ branch_parts labels bs) (otherwise_parts labels o) here in
        let front = first_at t r from (own ++ action_parts labels ss) (branch_parts labels bs) most in
        let middle = later_at t r from (own ++ action_parts labels ss) (branch_parts labels bs) most in
        let held = later_at t r from own (action_parts labels ss) front in (
          ((expr_named r from c (first_at t r from own (action_parts labels ss) front), tt), tt),
          both (sites_of_each a ss ++ sites_of_branches a bs) (sites_of_otherwise a o) (both (sites_of_each a ss) (sites_of_branches a bs) (each_named ss a labels r held.from held.holds) (branches_named bs a labels r middle.from middle.holds))
              (else_named o a labels r last.from last.holds),
        )
    bracketed_named (case_of at e as' o) a labels r from here =
        let own = mentioned (mentions_of e) in
        let most = first_at t r from (own ++ case_parts labels as') (otherwise_parts labels o) here in
        let last = later_at t r from (own ++ case_parts labels as') (otherwise_parts labels o) here in
        let held = later_at t r from own (case_parts labels as') most in
        (((expr_named r from e (first_at t r from own (case_parts labels as') most), tt), tt), both (sites_of_cases a e as') (sites_of_otherwise a o) (cases_named as' a e labels r held.from held.holds) (else_named o a labels r last.from last.holds))
    bracketed_named (do_loop at c ss) a labels r from here =
        let inner = turn_parts c ++ action_parts labels ss in
        let block_at = later_at t r from (control_parts c) (block_of inner ∷ []) here in
        let k = in_block r [] block_at.from (part_nodes inner) in
        let held = later_at t k block_at.from (turn_parts c) (action_parts labels ss) block_at.holds.0 in
        (control_named c r k from block_at.from (first_at t r from (control_parts c) (block_of inner ∷ []) here) (first_at t k block_at.from (turn_parts c) (action_parts labels ss) block_at.holds.0), each_named ss a labels k held.from held.holds)
    bracketed_named (begin_end at ps) a labels r from here = body_named ps a labels (in_block r [] from (part_nodes (body_parts labels ps))) from here.0
    bracketed_named (delay_case at set p as') a labels r from here =
        let own = mentioned (mentions_of_some set ++ mentions_of_some p) in
        let all = mentioned_at t r from (mentions_of_some set ++ mentions_of_some p) (first_at t r from own (event_parts labels as') here) in
        let held = later_at t r from own (event_parts labels as') here in
        both (some_site at_set set ++ some_site at_priority p) (sites_of_events a [] as')
        (both (some_site at_set set) (some_site at_priority p) (set_named r set (mentions_first t r (mentions_of_some set) (mentions_of_some p) all)) (priority_named r p (mentions_later t r (mentions_of_some set) (mentions_of_some p) all)))
        (delays_named as' a [] labels r held.from held.holds)
    bracketed_named (receive_case at set as' o) a labels r from here =
        let own = mentioned (mentions_of_some set) in
        let most = first_at t r from (own ++ receive_parts labels as') (otherwise_parts labels o) here in
        let last = later_at t r from (own ++ receive_parts labels as') (otherwise_parts labels o) here in
        let held = later_at t r from own (receive_parts labels as') most in
        both (some_site at_set set ++ sites_of_receives a [] as') (sites_of_otherwise a o)
        (both (some_site at_set set) (sites_of_receives a [] as') (set_named r set (mentioned_at t r from (mentions_of_some set) (first_at t r from own (receive_parts labels as') most))) (receives_named as' a [] labels r held.from held.holds))
        (else_named o a labels r last.from last.holds)

    each_named : (ss : StatementNodes) (a : Around) (labels : List Name) (r : Reach) (from : ℕ) → AreAt t r from (action_parts labels ss) → Named (sites_of_each a ss)
    each_named no_statements a labels r from here = tt
    each_named (more_statements s ss) a labels r from here =
        let rest = later_at t r from (statement_parts labels s) (action_parts labels ss) here in
        both (sites_of a s) (sites_of_each a ss) (statement_named s a labels r from (first_at t r from (statement_parts labels s) (action_parts labels ss) here)) (each_named ss a labels r rest.from rest.holds)

    branches_named : (bs : ElsIfNodes) (a : Around) (labels : List Name) (r : Reach) (from : ℕ) → AreAt t r from (branch_parts labels bs) → Named (sites_of_branches a bs)
    branches_named no_branches a labels r from here = tt
    branches_named (more_branches at c ss bs) a labels r from here =
        let own = mentioned (mentions_of c) in
        let front = first_at t r from (own ++ action_parts labels ss) (branch_parts labels bs) here in
        let rest = later_at t r from (own ++ action_parts labels ss) (branch_parts labels bs) here in
        let held = later_at t r from own (action_parts labels ss) front in
        (((expr_named r from c (first_at t r from own (action_parts labels ss) front), tt), tt), both (sites_of_each a ss) (sites_of_branches a bs) (each_named ss a labels r held.from held.holds) (branches_named bs a labels r rest.from rest.holds))

    cases_named : (as' : CaseNodes) (a : Around) (e : ExprTree) (labels : List Name) (r : Reach) (from : ℕ) → AreAt t r from (case_parts labels as') → Named (sites_of_cases a e as')
    cases_named no_cases a e labels r from here = tt
    cases_named (more_cases at ls ss as') a e labels r from here =
        let own = mentioned (mentions_of_ranges ls) in
        let front = first_at t r from (own ++ action_parts labels ss) (case_parts labels as') here in
        let rest = later_at t r from (own ++ action_parts labels ss) (case_parts labels as') here in
        let held = later_at t r from own (action_parts labels ss) front in (
          (labels_named r ls (mentioned_at t r from (mentions_of_ranges ls) (first_at t r from own (action_parts labels ss) front)), tt),
          both (sites_of_each a ss) (sites_of_cases a e as') (each_named ss a labels r held.from held.holds) (cases_named as' a e labels r rest.from rest.holds),
        )

    delays_named : (as' : NamedNodes) (a : Around) (earlier labels : List Name) (r : Reach) (from : ℕ) → AreAt t r from (event_parts labels as') → Named (sites_of_events a earlier as')
    delays_named no_named a earlier labels r from here = tt
    delays_named (more_named at ns ss as') a earlier labels r from here =
        let own = mentioned (flat_map (used needs.Location) ns) in
        let inner = action_parts labels ss in
        let front = first_at t r from (own ++ block_of inner ∷ []) (event_parts labels as') here in
        let rest = later_at t r from (own ++ block_of inner ∷ []) (event_parts labels as') here in
        let block_at = later_at t r from own (block_of inner ∷ []) front in
        both (events_listed earlier ns ++ sites_of_each a ss) (sites_of_events a (earlier ++ ns) as')
        (both (events_listed earlier ns) (sites_of_each a ss) (events_named r from earlier ns (first_at t r from own (block_of inner ∷ []) front)) (each_named ss a labels (in_block r [] block_at.from (part_nodes inner)) block_at.from block_at.holds.0))
        (delays_named as' a (earlier ++ ns) labels r rest.from rest.holds)

    receives_named : (as' : ReceiveNodes) (a : Around) (earlier labels : List Name) (r : Reach) (from : ℕ) → AreAt t r from (receive_parts labels as') → Named (sites_of_receives a earlier as')
    receives_named no_receives a earlier labels r from here = tt
    receives_named (more_receives at n x ss as') a earlier labels r from here =
        let own = mentioned (used needs.Message n) in
        let inner = received_parts x ++ action_parts labels ss in
        let front = first_at t r from (own ++ block_of inner ∷ []) (receive_parts labels as') here in
        let rest = later_at t r from (own ++ block_of inner ∷ []) (receive_parts labels as') here in
        let block_at = later_at t r from own (block_of inner ∷ []) front in
        let k = in_block r [] block_at.from (part_nodes inner) in
        let held = later_at t k block_at.from (received_parts x) (action_parts labels ss) block_at.holds.0 in
        let source = mentioned_at t r from (used needs.Message n) (first_at t r from own (block_of inner ∷ []) front) in (
          (tt, use_stands t g r n needs.Message stands_for_message of message_stands source.0),
          ((tt, tt), both (sites_of_each a ss) (sites_of_receives a (earlier ++ n ∷ []) as') (each_named ss a labels k held.from held.holds) (receives_named as' a (earlier ++ n ∷ []) labels r rest.from rest.holds)),
        )

    else_named : (o : OtherwiseNode) (a : Around) (labels : List Name) (r : Reach) (from : ℕ) → AreAt t r from (otherwise_parts labels o) → Named (sites_of_otherwise a o)
    else_named no_otherwise a labels r from here = tt
    else_named (otherwise ss) a labels r from here = each_named ss a labels r from here

    handler_named : (h : HandlerNode) (a : Around) (labels : List Name) (r : Reach) (from : ℕ) → AreAt t r from (handler_parts labels h) → Named (sites_of_handler a h)
    handler_named no_handler a labels r from here = tt
    handler_named (handler at as' o) a labels r from here =
        let inner = exception_parts labels as' ++ otherwise_parts labels o in
        let k = in_block r [] from (part_nodes inner) in
        let last = later_at t k from (exception_parts labels as') (otherwise_parts labels o) here.0 in
        both (sites_of_exceptions a [] as') (sites_of_otherwise a o) (exceptions_named as' a [] labels k from (first_at t k from (exception_parts labels as') (otherwise_parts labels o) here.0)) (else_named o a labels k last.from last.holds)

    exceptions_named : (as' : NamedNodes) (a : Around) (earlier labels : List Name) (r : Reach) (from : ℕ) → AreAt t r from (exception_parts labels as') → Named (sites_of_exceptions a earlier as')
    exceptions_named no_named a earlier labels r from here = tt
    exceptions_named (more_named at ns ss as') a earlier labels r from here =
        let rest = later_at t r from (action_parts labels ss) (exception_parts labels as') here in
        ((tt, tt), both (sites_of_each a ss) (sites_of_exceptions a (earlier ++ ns) as') (each_named ss a labels r from (first_at t r from (action_parts labels ss) (exception_parts labels as') here)) (exceptions_named as' a (earlier ++ ns) labels r rest.from rest.holds))

    body_named : (ps : BodyNodes) (a : Around) (labels : List Name) (r : Reach) (from : ℕ) → AreAt t r from (body_parts labels ps) → Named (sites_of_parts a ps)
    body_named no_parts a labels r from here = tt
    body_named (more_locals l ps) a labels r from here =
        let rest = later_at t r from (local_parts l) (body_parts labels ps) here in
        both (sites_of_local false l) (sites_of_parts a ps) (local_named false r from l (first_at t r from (local_parts l) (body_parts labels ps) here)) (body_named ps a labels r rest.from rest.holds)
    body_named (more_actions s ps) a labels r from here =
        let rest = later_at t r from (statement_parts labels s) (body_parts labels ps) here in
        both (sites_of a s) (sites_of_parts a ps) (statement_named s a labels r from (first_at t r from (statement_parts labels s) (body_parts labels ps) here)) (body_named ps a labels r rest.from rest.holds)

  -- ---- items

  whole_named : (a : Around) (r : Reach) (from : ℕ) (ps : List BodyTree) (h : Option HandlerTree) → AreAt t r from (whole_body ps h) → Named (sites_of_body a ps h)
  whole_named a r from ps h here =
      let rest = later_at t r from (body_parts [] (body_nodes ps)) (handler_parts [] (handler_node h)) here in
      both (sites_of_parts a (body_nodes ps)) (sites_of_handler a (handler_node h)) (body_named (body_nodes ps) a [] r from (first_at t r from (body_parts [] (body_nodes ps)) (handler_parts [] (handler_node h)) here))
      (handler_named (handler_node h) a [] r rest.from rest.holds)

  mode_sites : (ms : List written.ModeTree) → Named (map at_mode ms)
  mode_sites [] = tt
  mode_sites (m ∷ ms) = ((tt, tt), mode_sites ms)

  signals_named : (ss : List SignalTree) → Named (flat_map (λ s. sites_of_modes s.parts) ss)
  signals_named [] = tt
  signals_named (s ∷ ss) = both (sites_of_modes s.parts) (flat_map (λ s. sites_of_modes s.parts) ss) (some_modes s.parts) (signals_named ss)
    where
      some_modes : (ms : Option (List written.ModeTree)) → Named (sites_of_modes ms)
      some_modes None = tt
      some_modes (Some ms) = mode_sites ms

  procedure_named : (p : ProcedureTree) (r : Reach) (from : ℕ) → AreAt t r from (whole_body p.body p.handler) → Named (sites_of_procedure p)
  procedure_named p r from here =
      both (map (λ q. at_mode q.mode) p.params ++ sites_of_result p.returns) (at_body (Some p.name) (flat_map (λ q. q.names) p.params ++ locals_of_body p.body p.handler) ∷ sites_of_body (in_procedure p) p.body p.handler)
      (both (map (λ q. at_mode q.mode) p.params) (sites_of_result p.returns) (params p.params) (result p.returns)) ((tt, tt), whole_named (in_procedure p) r from p.body p.handler here)
    where
      params : (ps : List ParamTree) → Named (map (λ q. at_mode q.mode) ps)
      params [] = tt
      params (q ∷ qs) = ((tt, tt), params qs)

      result : (m : Option written.ModeTree) → Named (sites_of_result m)
      result None = tt
      result (Some m) = ((tt, tt), tt)

  process_named : (p : ProcessTree) (r : Reach) (from : ℕ) → AreAt t r from (whole_body p.body p.handler) → Named (sites_of_process p)
  process_named p r from here =
      both (map (λ q. at_mode q.mode) p.formals) (at_body (Some p.name) (flat_map (λ q. q.names) p.formals ++ locals_of_body p.body p.handler) ∷ sites_of_body in_no_procedure p.body p.handler) (formals p.formals) ((tt, tt), whole_named in_no_procedure r from p.body p.handler here)
    where
      formals : (ps : List FormalTree) → Named (map (λ q. at_mode q.mode) ps)
      formals [] = tt
      formals (q ∷ qs) = ((tt, tt), formals qs)

  mutual
    item_named : (i : ItemTree) (r : Reach) (from : ℕ) → AreAt t r from (item_parts i) → Named (sites_of_item i)
    item_named (seize_item at passed) r from here = tt
    item_named (grant_item at passed) r from here = tt
    item_named (local_item l) r from here = local_named true r from l here
    item_named (signals at ss) r from here = signals_named ss
    item_named (procedure p) r from here =
        procedure_named p (body_reach r from (map param_clause p.params) (mentions_of_some_mode p.returns) (part_nodes (whole_body p.body p.handler))) (from + head_size (map param_clause p.params) (mentions_of_some_mode p.returns)) here.0
    item_named (process p) r from here = process_named p (body_reach r from (map formal_clause p.formals) [] (part_nodes (whole_body p.body p.handler))) (from + head_size (map formal_clause p.formals) []) here.0
    item_named (modulion_of n kind items h closing) r from here =
        let inner = each_item items ++ handler_parts [] (handler_node h) in
        let k = in_modulion r (suc from) (part_nodes inner) in
        let last = later_at t k (suc from) (each_item items) (handler_parts [] (handler_node h)) here.0 in
        both (sites_of_items kind items items) (sites_of_handler in_no_procedure (handler_node h)) (items_named kind items items k (suc from) (first_at t k (suc from) (each_item items) (handler_parts [] (handler_node h)) here.0))
        (handler_named (handler_node h) in_no_procedure [] k last.from last.holds)
    item_named (action s) r from here = statement_named s in_no_procedure [] r from here

    items_named : (kind : ModulionKind) (all is : ItemNodes) (r : Reach) (from : ℕ) → AreAt t r from (each_item is) → Named (sites_of_items kind all is)
    items_named kind all no_items r from here = tt
    items_named kind all (more_items i is) r from here =
        let rest = later_at t r from (item_parts i) (each_item is) here in
        ((tt, tt), both (sites_of_item i) (sites_of_items kind all is) (item_named i r from (first_at t r from (item_parts i) (each_item is) here)) (items_named kind all is r rest.from rest.holds))

  modulions_named : (ms : List ModulionTree) (r : Reach) (from : ℕ) → AreAt t r from (flat_map (λ m. item_parts (modulion_item m)) ms) → Named (flat_map sites_of_item (map modulion_item ms))
  modulions_named [] r from here = tt
  modulions_named (m ∷ ms) r from here =
      let rest = later_at t r from (item_parts (modulion_item m)) (flat_map (λ m. item_parts (modulion_item m)) ms) here in
      both (sites_of_item (modulion_item m)) (flat_map sites_of_item (map modulion_item ms)) (item_named (modulion_item m) r from (first_at t r from (item_parts (modulion_item m)) (flat_map (λ m. item_parts (modulion_item m)) ms) here))
      (modulions_named ms r rest.from rest.holds)

pub nodes_named : NodesNamedLaw
nodes_named text t g has is =
    let of : IsGroundOfText t g = record { uses = ap (λ (x : Ground). x.uses) is; origins = ap (λ (x : Ground). x.origins) is } in
    ((tt, tt), ((tt, tt), modulions_named t g of t.modulions (outermost (level_of t)) 0 (program_at text t has)))
