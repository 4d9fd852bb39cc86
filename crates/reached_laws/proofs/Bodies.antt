-- The walk over definition statements, statements and bodies.
use Rattle.std.proofs.Common.{ℕ, suc, ◌+◌, Bool, true, false, List, [], ◌∷◌, ◌++◌, Option, Some, None, length, inl, inr, refl}
use Rattle.std.specs.Prelude.{map, flat_map, replicate, if◌then◌else◌}
use Rattle.chill_tree.specs.declared.tree.name.Name.{Name}
use Rattle.chill_tree.specs.ExprTree.{ExprTree, RangeTree, alone, between, expr_nodes, range_nodes}
use Rattle.chill_tree.specs.ModeTree as written
use Rattle.chill_tree.specs.LocalTree.{SynonymTree, ModeDefinitionTree, InitialTree, DeclarationTree, LocalTree, synonyms, syn_modes, new_modes, locations}
use Rattle.chill_tree.specs.SimpleTree.{SimpleTree, assign, update, call_of, exit, return_with, result_of, assert_that, cause, stop, start_of, delay, continue_event, send, ControlTree, while_holds, for_ever, for_members, for_steps}
use Rattle.chill_tree.specs.StatementTree.{StatementTree, BracketedTree, StatementNodes, ElsIfNodes, CaseNodes, NamedNodes, ReceiveNodes, OtherwiseNode, HandlerNode, BodyNodes, HandlerTree, BodyTree, empty, simple, bracketed, if_then, case_of, do_loop, begin_end, delay_case, receive_case, no_statements, more_statements, no_branches, more_branches, no_cases, more_cases, no_named, more_named, no_receives, more_receives, no_otherwise, otherwise, no_handler, handler, no_parts, more_locals, more_actions, handler_node, body_nodes}
use Rattle.chill_tree.specs.ItemTree.{ProgramTree}
use Rattle.names_model.specs.declared.kind.Kind.TheVariants as kinds
use Rattle.names_model.specs.declared.kind.Need.TheVariants as needs
use Rattle.names_model.specs.declared.definition.Inside.{Inside}
use Rattle.names_model.specs.declared.part.Mention.{Mention}
use Rattle.names_model.specs.Identifiers.{identifier}
use Rattle.names_model.specs.Parts.{PartTree, define, stray, part_nodes}
use Rattle.names_model.specs.Sizes.{sizes_of, block_of}
use Rattle.names_model.specs.Definitions.{text_definitions, numbers_on}
use Rattle.names_model.specs.Seeing.{Reach}
use Rattle.names_model.specs.ExprMentions.{used, mentions_in_each, mentions_of, mentions_of_some, mentions_of_args, mentions_of_ranges, mentions_in_ranges}
use Rattle.names_model.specs.ModeMentions.{mentions_of_mode, mentions_of_some_mode}
use Rattle.names_model.specs.StatementParts.{clause, mentioned, encloses, synonym_part, mode_part, initial_parts, declaration_parts, local_parts, mentions_of_some_args, simple_parts, control_parts, counter_part, turn_parts, labelled, received_parts, statement_parts, bracketed_parts, action_parts, branch_parts, case_parts, event_parts, receive_parts, otherwise_parts, handler_parts, exception_parts, body_parts}
use Rattle.names_model.specs.ItemParts.{whole_body}
use Rattle.names_model.specs.Resolving.{level_of}
use Rattle.checks_model.specs.Ground.{Origin, a_synonym, an_element, a_location, a_counter, a_received}
use Rattle.checks_model.specs.Origins.{sets_in, elements, elements_of, elements_of_some, origins_of_names, origins_of_synonym, owner_of, origins_of_mode, origins_of_declaration, origins_of_local, counters_in, received_in, origins_in, origins_in_bracketed, origins_in_each, origins_in_branches, origins_in_cases, origins_in_named, origins_in_receives, origins_in_otherwise, origins_in_handler, origins_in_parts, origins_of_body}
use Rattle.checks_model.specs.Sites.{Site, Around, at_synonym, at_mode_definition, at_declaration, at_simple, at_condition, at_selector, at_labels, at_set, at_control, at_priority, at_source, at_received, at_exceptions, some_site, events_listed, sites_of_local, sites_of, sites_of_bracketed, sites_of_each, sites_of_branches, sites_of_cases, sites_of_events, sites_of_receives, sites_of_otherwise, sites_of_handler, sites_of_exceptions, sites_of_parts, sites_of_body}
use Rattle.checks_model.specs.Phases.{some_expr, some_exprs, exprs_of_simple, priority_of, exprs_of_labels, initial_expr}
use Rattle.table_laws.specs.Names.{names_in}
use Rattle.written_laws.specs.Written.{Each}
use Rattle.written_laws.proofs.Shown.{each_append, each_any, each_flat, each_map, each_same}
use Rattle.reached_laws.specs.Reached.{names_of_action}
use Rattle.reached_laws.proofs.Reaches.{Fact, IsGood}
use Rattle.reached_laws.proofs.Uses as uses
use Rattle.reached_laws.proofs.Uses.{MentionsSeen, mentioned_seen, mentions_first, mentions_later}
use Rattle.reached_laws.proofs.Walked as walk
use Rattle.reached_laws.proofs.Walked.{NotRoutine}

-- ---- origins that are no routines

pub elements_none : (owner : Option (Name × Bool)) (sets : List (List Name)) → Each NotRoutine (flat_map (elements owner) sets)
elements_none owner sets =
    each_flat (λ ns. Unit {0}) NotRoutine (elements owner) (λ ns fits. each_map (λ k. Unit {0}) NotRoutine (λ part. an_element ns part owner) (λ k fits. refl) (numbers_on 0 (length ns)) (each_any (λ k. Unit {0}) (λ k. tt) (numbers_on 0 (length ns)))) sets
    (each_any (λ ns. Unit {0}) (λ ns. tt) sets)

pub some_none : (w : Option written.ModeTree) → Each NotRoutine (elements_of_some w)
some_none None = tt
some_none (Some w) = elements_none None (sets_in w)

pub names_none : (ns : List Name) (o : Origin) (inside : List Origin) → NotRoutine o → Each NotRoutine inside → Each NotRoutine (origins_of_names ns o inside)
names_none ns o inside own rest = each_append NotRoutine (replicate (length ns) o) inside (each_same NotRoutine (length ns) o own) rest

module _ (t : ProgramTree) (Q : Fact (text_definitions (level_of t))) where
  abbrev Good : Reach → Type 0
  Good r = IsGood (text_definitions (level_of t)) Q r

  abbrev So : Site → Type 0
  So n = walk.SiteSo t Q n

  abbrev ExprSo : ExprTree → Type 0
  ExprSo e = Each (walk.UsedSo t Q) (names_in e)

  abbrev Walks : List Origin → List PartTree → List Site → Type 0
  Walks os ps ss = walk.Walked t Q os ps ss

  -- ---- expressions

  use_so : (r : Reach) → Good r → (need : _) (n : Name) → MentionsSeen t r (used need n) → walk.UsedSo t Q n
  use_so r good need n seen = uses.use_so t r (walk.UsedSo t Q) (walk.seen_so t Q r good) need n seen.0

  expr_so : (r : Reach) → Good r → (e : ExprTree) → MentionsSeen t r (mentions_of e) → ExprSo e
  expr_so r good e seen = uses.expr_so t r (walk.UsedSo t Q) (walk.seen_so t Q r good) None e seen

  some_so : (r : Reach) → Good r → (e : Option ExprTree) → MentionsSeen t r (mentions_of_some e) → Each ExprSo (some_expr e)
  some_so r good None seen = tt
  some_so r good (Some e) seen = (expr_so r good e seen, tt)

  list_so : (r : Reach) → Good r → (es : List ExprTree) → MentionsSeen t r (mentions_in_each None (expr_nodes es)) → Each ExprSo es
  list_so r good [] seen = tt
  list_so r good (e ∷ es) seen = (expr_so r good e (mentions_first t r (mentions_of e) (mentions_in_each None (expr_nodes es)) seen), list_so r good es (mentions_later t r (mentions_of e) (mentions_in_each None (expr_nodes es)) seen))

  some_list_so : (r : Reach) → Good r → (es : Option (List ExprTree)) → MentionsSeen t r (mentions_of_some_args es) → Each ExprSo (some_exprs es)
  some_list_so r good None seen = tt
  some_list_so r good (Some es) seen = list_so r good es seen

  labels_so : (r : Reach) → Good r → (ls : List RangeTree) → MentionsSeen t r (mentions_in_ranges (range_nodes ls)) → Each ExprSo (exprs_of_labels ls)
  labels_so r good [] seen = tt
  labels_so r good (alone e ∷ ls) seen = (expr_so r good e (mentions_first t r (mentions_of e) (mentions_in_ranges (range_nodes ls)) seen), labels_so r good ls (mentions_later t r (mentions_of e) (mentions_in_ranges (range_nodes ls)) seen))
  labels_so r good (between l h ∷ ls) seen =
      let own = mentions_first t r (mentions_of l ++ mentions_of h) (mentions_in_ranges (range_nodes ls)) seen in (
        expr_so r good l (mentions_first t r (mentions_of l) (mentions_of h) own),
        (expr_so r good h (mentions_later t r (mentions_of l) (mentions_of h) own), labels_so r good ls (mentions_later t r (mentions_of l ++ mentions_of h) (mentions_in_ranges (range_nodes ls)) seen)),
      )

  both_exprs : (xs ys : List ExprTree) → Each ExprSo xs → Each ExprSo ys → Each ExprSo (xs ++ ys)
  both_exprs xs ys first later = each_append ExprSo xs ys first later

  one_expr : (n : Site) (e : ExprTree) → (ExprSo e → So n) → Walks [] (mentioned (mentions_of e)) (n ∷ [])
  one_expr n e so = walk.mentions t Q (mentions_of e) (n ∷ []) (λ r good seen. (so (expr_so r good e seen), tt))

  -- ---- definition statements

  synonyms_walked : (ss : List SynonymTree) → Walks (flat_map origins_of_synonym ss) (map synonym_part ss) (map at_synonym ss)
  synonyms_walked [] = walk.nothing t Q
  synonyms_walked (s ∷ ss) =
      let first = mentions_of_some_mode s.mode in
      walk.joined t Q (walk.clause_walked t Q kinds.Synonym s.names (first ++ mentions_of s.value) (origins_of_synonym s) (at_synonym s ∷ []) (inl refl) (names_none s.names (a_synonym s) (elements_of_some s.mode) refl (some_none s.mode))
      (λ r good seen. (record { exprs = (expr_so r good s.value (mentions_later t r first (mentions_of s.value) seen), tt); others = tt; defined = tt }, tt))) (synonyms_walked ss)

  modes_walked : (novel : Bool) (ds : List ModeDefinitionTree) → Walks (flat_map (origins_of_mode novel) ds) (map mode_part ds) (map at_mode_definition ds)
  modes_walked novel [] = walk.nothing t Q
  modes_walked novel (d ∷ ds) =
      walk.joined t Q (walk.clause_walked t Q kinds.Mode (d.name ∷ []) (mentions_of_mode d.mode) (origins_of_mode novel d) (at_mode_definition d ∷ []) (inr (identifier d.name, (refl, refl))) (refl, elements_none (owner_of novel d) (sets_in d.mode))
      (λ r good seen. (record { exprs = tt; others = tt; defined = tt }, tt))) (modes_walked novel ds)

  abbrev At : Inside → Reach → ℕ → List PartTree → Type 0
  At i r from ps = walk.At t Q i r from ps

  initial_walked : (x : Option InitialTree) → Walks [] (initial_parts x) []
  initial_walked None = walk.nothing t Q
  initial_walked (Some x) = walk.mentions t Q (mentions_of x.value) [] (λ r good seen. tt)

  initial_so : (i : Inside) (r : Reach) (from : ℕ) (x : Option InitialTree) → At i r from (initial_parts x) → Each ExprSo (some_expr (initial_expr x))
  initial_so i r from None at = tt
  initial_so i r from (Some x) at = (expr_so r at.good x.value (mentioned_seen t r from (mentions_of x.value) at.seen), tt)

  declaration_walked : (shared : Bool) (d : DeclarationTree) → Walks (origins_of_declaration d) (declaration_parts d) (at_declaration shared d ∷ [])
  declaration_walked shared d =
      let ms = mentions_of_mode d.mode in
      let front = define (clause kinds.Location d.names ms) ∷ [] in
      let m = initial_walked d.initial in
      record {
        plain = (inl refl, m.plain);
        sized = (tt, m.sized);
        none = names_none d.names (a_location d) (elements_of None d.mode) refl (elements_none None (sets_in d.mode));
        names = λ i r from at. (
          record {
            exprs = initial_so i r (from + sizes_of (part_nodes front)) d.initial (walk.at_later t Q i r from front (initial_parts d.initial) (tt, tt) at);
            others = tt;
            defined = walk.clause_names t Q i r from kinds.Location d.names ms (walk.at_first t Q i r from front (initial_parts d.initial) (tt, tt) at);
          },
          tt,
        );
      }

  declarations_walked : (shared : Bool) (ds : List DeclarationTree) → Walks (flat_map origins_of_declaration ds) (flat_map declaration_parts ds) (map (at_declaration shared) ds)
  declarations_walked shared [] = walk.nothing t Q
  declarations_walked shared (d ∷ ds) = walk.joined t Q (declaration_walked shared d) (declarations_walked shared ds)

  pub local_walked : (shared : Bool) (l : LocalTree) → Walks (origins_of_local l) (local_parts l) (sites_of_local shared l)
  local_walked shared (synonyms at ss) = synonyms_walked ss
  local_walked shared (syn_modes at ds) = modes_walked false ds
  local_walked shared (new_modes at ds) = modes_walked true ds
  local_walked shared (locations at ds) = declarations_walked shared ds

  -- ---- actions that hold no others

  -- the names of an action, by what it mentions
  simple_leaf : (a : Around) (x : SimpleTree) (ms : List Mention) → ((r : Reach) → Good r → MentionsSeen t r ms → Each ExprSo (exprs_of_simple x ++ some_expr (priority_of x)) × Each (walk.UsedSo t Q) (names_of_action x)) → Walks [] (mentioned ms) (at_simple a x ∷ [])
  simple_leaf a x ms so = walk.mentions t Q ms (at_simple a x ∷ []) (λ r good seen. (let both = so r good seen in (record { exprs = both.0; others = both.1; defined = tt }, tt)))

  exit_walked : (a : Around) (at : _) (n : Name) (b : Bool) → Walks [] (if b then [] else stray (identifier n) ∷ []) (at_simple a (exit at n) ∷ [])
  exit_walked a at n true = walk.bare t Q (at_simple a (exit at n)) (record { exprs = tt; others = tt; defined = tt }) (walk.nothing t Q)
  exit_walked a at n false = record { plain = (tt, tt); sized = (tt, tt); none = tt; names = λ i r from here. (record { exprs = tt; others = tt; defined = tt }, tt) }

  pub simple_walked : (a : Around) (labels : List Name) (x : SimpleTree) → Walks [] (simple_parts labels x) (at_simple a x ∷ [])
  simple_walked a labels (assign at k v) = simple_leaf a (assign at k v) (mentions_of k ++ mentions_of v) (λ r good seen. ((expr_so r good k (mentions_first t r (mentions_of k) (mentions_of v) seen), (expr_so r good v (mentions_later t r (mentions_of k) (mentions_of v) seen), tt)), tt))
  simple_walked a labels (update at k o p v) = simple_leaf a (update at k o p v) (mentions_of k ++ mentions_of v) (λ r good seen. ((expr_so r good k (mentions_first t r (mentions_of k) (mentions_of v) seen), (expr_so r good v (mentions_later t r (mentions_of k) (mentions_of v) seen), tt)), tt))
  simple_walked a labels (call_of at word n es) =
      simple_leaf a (call_of at word n es) (used needs.Action n ++ mentions_of_args (Some n) es)
      (λ r good seen. (((use_so r good needs.Action n (seen.0, tt), uses.each_so t r (walk.UsedSo t Q) (walk.seen_so t Q r good) (Some n) (expr_nodes es) seen.1), tt), tt))
  simple_walked a labels (exit at n) = exit_walked a at n (encloses labels n)
  simple_walked a labels (return_with at v) = simple_leaf a (return_with at v) (mentions_of_some v) (λ r good seen. (both_exprs (some_expr v) [] (some_so r good v seen) tt, tt))
  simple_walked a labels (result_of at v) = simple_leaf a (result_of at v) (mentions_of v) (λ r good seen. ((expr_so r good v seen, tt), tt))
  simple_walked a labels (assert_that at c) = simple_leaf a (assert_that at c) (mentions_of c) (λ r good seen. ((expr_so r good c seen, tt), tt))
  simple_walked a labels (cause at n) = simple_leaf a (cause at n) [] (λ r good seen. (tt, tt))
  simple_walked a labels (stop at) = simple_leaf a (stop at) [] (λ r good seen. (tt, tt))
  simple_walked a labels (start_of at n es) = simple_leaf a (start_of at n es) (used needs.Process n ++ mentions_of_args None es) (λ r good seen. (both_exprs es [] (list_so r good es seen.1) tt, (use_so r good needs.Process n (seen.0, tt), tt)))
  simple_walked a labels (delay at n p) = simple_leaf a (delay at n p) (used needs.Location n ++ mentions_of_some p) (λ r good seen. (some_so r good p seen.1, (use_so r good needs.Location n (seen.0, tt), tt)))
  simple_walked a labels (continue_event at n) = simple_leaf a (continue_event at n) (used needs.Location n) (λ r good seen. (tt, (use_so r good needs.Location n seen, tt)))
  simple_walked a labels (send at n es to p) =
      let args = mentions_of_some_args es in
      let two = used needs.Message n ++ args in
      let three = two ++ mentions_of_some to in
      simple_leaf a (send at n es to p) (three ++ mentions_of_some p)
      (λ r good seen.
      let front = mentions_first t r three (mentions_of_some p) seen in
      let first = mentions_first t r two (mentions_of_some to) front in (
        both_exprs (some_exprs es ++ some_expr to) (some_expr p) (both_exprs (some_exprs es) (some_expr to) (some_list_so r good es first.1) (some_so r good to (mentions_later t r two (mentions_of_some to) front))) (some_so r good p (mentions_later t r three (mentions_of_some p) seen)),
        (use_so r good needs.Message n (first.0, tt), tt),
      ))

  -- ---- loops

  counter_walked : (c : ControlTree) (n : Name) → Walks (a_counter c ∷ []) (counter_part n ∷ []) []
  counter_walked c n = walk.clause_walked t Q kinds.Counter (n ∷ []) [] (a_counter c ∷ []) [] (inl refl) (refl, tt) (λ r good seen. tt)

  control_walked : (c : ControlTree) → Walks [] (control_parts c) []
  control_walked (while_holds at c) = walk.nothing t Q
  control_walked (for_ever at) = walk.nothing t Q
  control_walked (for_members at n s c) = walk.mentions t Q (mentions_of s) [] (λ r good seen. tt)
  control_walked (for_steps at n s b down e c) = walk.mentions t Q (mentions_of s ++ mentions_of_some b ++ mentions_of e) [] (λ r good seen. tt)

  turn_walked : (c : ControlTree) → Walks (counters_in c) (turn_parts c) []
  turn_walked (while_holds at c) = walk.mentions t Q (mentions_of c) [] (λ r good seen. tt)
  turn_walked (for_ever at) = walk.nothing t Q
  turn_walked (for_members at n s c) = walk.joined t Q (counter_walked (for_members at n s c) n) (walk.mentions t Q (mentions_of_some c) [] (λ r good seen. tt))
  turn_walked (for_steps at n s b down e c) = walk.joined t Q (counter_walked (for_steps at n s b down e c) n) (walk.mentions t Q (mentions_of_some c) [] (λ r good seen. tt))

  -- the counter and the condition stand in the block of the loop
  record TurnSo (c : Option ExprTree) (n : Name) : Type 0 where
    condition : Each ExprSo (some_expr c)
    counter : Each (walk.DefinedSo t Q) (n ∷ [])

  turn_so : (j : Inside) (k : Reach) (next : ℕ) (n : Name) (c : Option ExprTree) → At j k next (counter_part n ∷ mentioned (mentions_of_some c)) → TurnSo c n
  turn_so j k next n c at =
      let front = counter_part n ∷ [] in
      let rest = walk.at_later t Q j k next front (mentioned (mentions_of_some c)) (tt, tt) at in
      record {
        condition = some_so k rest.good c (mentioned_seen t k (next + sizes_of (part_nodes front)) (mentions_of_some c) rest.seen);
        counter = walk.clause_names t Q j k next kinds.Counter (n ∷ []) [] (walk.at_first t Q j k next front (mentioned (mentions_of_some c)) (tt, tt) at);
      }

  control_so : (c : ControlTree) (r k : Reach) (i j : Inside) (from next : ℕ) → At i r from (control_parts c) → At j k next (turn_parts c) → So (at_control c)
  control_so (while_holds at c) r k i j from next before turn = record { exprs = (expr_so k turn.good c (mentioned_seen t k next (mentions_of c) turn.seen), tt); others = tt; defined = tt }
  control_so (for_ever at) r k i j from next before turn = record { exprs = tt; others = tt; defined = tt }
  control_so (for_members at n s c) r k i j from next before turn =
      let inner = turn_so j k next n c turn in
      record { exprs = (expr_so r before.good s (mentioned_seen t r from (mentions_of s) before.seen), inner.condition); others = tt; defined = inner.counter }
  control_so (for_steps at n s b down e c) r k i j from next before turn =
      let inner = turn_so j k next n c turn in
      let two = mentions_of s ++ mentions_of_some b in
      let seen = mentioned_seen t r from (two ++ mentions_of e) before.seen in
      let front = mentions_first t r two (mentions_of e) seen in
      record {
        exprs = (
          expr_so r before.good s (mentions_first t r (mentions_of s) (mentions_of_some b) front),
          both_exprs (some_expr b) (e ∷ some_expr c) (some_so r before.good b (mentions_later t r (mentions_of s) (mentions_of_some b) front)) (expr_so r before.good e (mentions_later t r two (mentions_of e) seen), inner.condition),
        );
        others = tt;
        defined = inner.counter;
      }

  -- ---- what is received

  received_none : (source : Name) (count k : ℕ) (ns : List Name) → Each NotRoutine (map (a_received source count) (numbers_on k (length ns)))
  received_none source count k [] = tt
  received_none source count k (n ∷ ns) = (refl, received_none source count (suc k) ns)

  received_walked : (n : Name) (r : Option (List Name)) → Walks (received_in n r) (received_parts r) []
  received_walked n None = walk.nothing t Q
  received_walked n (Some ns) = walk.clause_walked t Q kinds.Received ns [] (received_in n (Some ns)) [] (inl refl) (received_none n (length ns) 0 ns) (λ r good seen. tt)

  received_so : (j : Inside) (k : Reach) (next : ℕ) (n : Name) (r : Option (List Name)) → walk.UsedSo t Q n → At j k next (received_parts r) → So (at_received n r)
  received_so j k next n None source at = record { exprs = tt; others = (source, tt); defined = tt }
  received_so j k next n (Some ns) source at = record { exprs = tt; others = (source, tt); defined = walk.clause_names t Q j k next kinds.Received ns [] at }

  source_so : (i : Inside) (r : Reach) (from : ℕ) (n : Name) → At i r from (mentioned (used needs.Message n)) → walk.UsedSo t Q n
  source_so i r from n at = use_so r at.good needs.Message n (mentioned_seen t r from (used needs.Message n) at.seen)

  -- ---- statements

  events_so : (r : Reach) → Good r → (earlier ns : List Name) → MentionsSeen t r (flat_map (used needs.Location) ns) → Each So (events_listed earlier ns)
  events_so r good earlier [] seen = tt
  events_so r good earlier (n ∷ ns) seen = (record { exprs = tt; others = (use_so r good needs.Location n (seen.0, tt), tt); defined = tt }, events_so r good (earlier ++ n ∷ []) ns seen.1)

  some_sites : (f : ExprTree → Site) → ((e : ExprTree) → ExprSo e → So (f e)) → (e : Option ExprTree) → Each ExprSo (some_expr e) → Each So (some_site f e)
  some_sites f so None all = tt
  some_sites f so (Some e) all = (so e all.0, tt)

  set_sites : (e : Option ExprTree) → Each ExprSo (some_expr e) → Each So (some_site at_set e)
  set_sites e all = some_sites at_set (λ x so. record { exprs = (so, tt); others = tt; defined = tt }) e all

  priority_sites : (e : Option ExprTree) → Each ExprSo (some_expr e) → Each So (some_site at_priority e)
  priority_sites e all = some_sites at_priority (λ x so. record { exprs = (so, tt); others = tt; defined = tt }) e all

  condition_walked : (c : ExprTree) → Walks [] (mentioned (mentions_of c)) (at_condition c ∷ [])
  condition_walked c = one_expr (at_condition c) c (λ so. record { exprs = (so, tt); others = tt; defined = tt })

  mutual
    pub statement_walked : (s : StatementTree) (a : Around) (labels : List Name) → Walks (origins_in s) (statement_parts labels s) (sites_of a s)
    statement_walked (empty at) a labels = walk.nothing t Q
    statement_walked (simple at x h) a labels = walk.joined t Q (simple_walked a labels x) (handler_walked h a labels)
    statement_walked (bracketed at l x h closing) a labels = walk.joined t Q (bracketed_walked x a (labelled l labels)) (handler_walked h a (labelled l labels))

    bracketed_walked : (x : BracketedTree) (a : Around) (labels : List Name) → Walks (origins_in_bracketed x) (bracketed_parts labels x) (sites_of_bracketed a x)
    bracketed_walked (if_then at c ss bs o) a labels = walk.joined t Q (walk.joined t Q (walk.joined t Q (condition_walked c) (each_walked ss a labels)) (branches_walked bs a labels)) (else_walked o a labels)
    bracketed_walked (case_of at e as' o) a labels =
        walk.joined t Q (walk.joined t Q (one_expr (at_selector e) e (λ so. record { exprs = (so, tt); others = tt; defined = tt })) (cases_walked as' a e labels)) (else_walked o a labels)
    bracketed_walked (do_loop at c ss) a labels =
        let turn = turn_walked c in
        walk.before_block t Q (at_control c) (control_walked c) (walk.joined t Q turn (each_walked ss a labels)) (λ r k i j from next before inner. control_so c r k i j from next before (walk.at_first t Q j k next (turn_parts c) (action_parts labels ss) turn.sized inner))
    bracketed_walked (begin_end at ps) a labels = walk.blocked t Q (body_walked ps a labels)
    bracketed_walked (delay_case at set p as') a labels =
        let sets = mentions_of_some set in
        let ranks = mentions_of_some p in
        walk.joined t Q
        (walk.mentions t Q (sets ++ ranks) (some_site at_set set ++ some_site at_priority p)
        (λ r good seen. each_append So (some_site at_set set) (some_site at_priority p) (set_sites set (some_so r good set (mentions_first t r sets ranks seen))) (priority_sites p (some_so r good p (mentions_later t r sets ranks seen)))))
        (events_walked as' a [] labels)
    bracketed_walked (receive_case at set as' o) a labels =
        walk.joined t Q (walk.joined t Q (walk.mentions t Q (mentions_of_some set) (some_site at_set set) (λ r good seen. set_sites set (some_so r good set seen))) (receives_walked as' a [] labels)) (else_walked o a labels)

    each_walked : (ss : StatementNodes) (a : Around) (labels : List Name) → Walks (origins_in_each ss) (action_parts labels ss) (sites_of_each a ss)
    each_walked no_statements a labels = walk.nothing t Q
    each_walked (more_statements s ss) a labels = walk.joined t Q (statement_walked s a labels) (each_walked ss a labels)

    branches_walked : (bs : ElsIfNodes) (a : Around) (labels : List Name) → Walks (origins_in_branches bs) (branch_parts labels bs) (sites_of_branches a bs)
    branches_walked no_branches a labels = walk.nothing t Q
    branches_walked (more_branches at c ss bs) a labels = walk.joined t Q (walk.joined t Q (condition_walked c) (each_walked ss a labels)) (branches_walked bs a labels)

    cases_walked : (as' : CaseNodes) (a : Around) (e : ExprTree) (labels : List Name) → Walks (origins_in_cases as') (case_parts labels as') (sites_of_cases a e as')
    cases_walked no_cases a e labels = walk.nothing t Q
    cases_walked (more_cases at ls ss as') a e labels =
        walk.joined t Q (walk.joined t Q (walk.mentions t Q (mentions_of_ranges ls) (at_labels e ls ∷ []) (λ r good seen. (record { exprs = labels_so r good ls seen; others = tt; defined = tt }, tt))) (each_walked ss a labels)) (cases_walked as' a e labels)

    events_walked : (as' : NamedNodes) (a : Around) (earlier labels : List Name) → Walks (origins_in_named as') (event_parts labels as') (sites_of_events a earlier as')
    events_walked no_named a earlier labels = walk.nothing t Q
    events_walked (more_named at ns ss as') a earlier labels =
        walk.joined t Q (walk.joined t Q (walk.mentions t Q (flat_map (used needs.Location) ns) (events_listed earlier ns) (λ r good seen. events_so r good earlier ns seen)) (walk.blocked t Q (each_walked ss a labels))) (events_walked as' a (earlier ++ ns) labels)

    receives_walked : (as' : ReceiveNodes) (a : Around) (earlier labels : List Name) → Walks (origins_in_receives as') (receive_parts labels as') (sites_of_receives a earlier as')
    receives_walked no_receives a earlier labels = walk.nothing t Q
    receives_walked (more_receives at n x ss as') a earlier labels =
        let source = walk.mentions t Q (used needs.Message n) [] (λ r good seen. tt) in
        let got = received_walked n x in
        let inner = block_of (received_parts x ++ action_parts labels ss) ∷ [] in
        walk.joined t Q
        (walk.with_site t Q (at_source earlier n) (λ i r from at. record { exprs = tt; others = (source_so i r from n (walk.at_first t Q i r from (mentioned (used needs.Message n)) inner source.sized at), tt); defined = tt })
        (walk.before_block t Q (at_received n x) source (walk.joined t Q got (each_walked ss a labels))
        (λ r k i j from next before within. received_so j k next n x (source_so i r from n before) (walk.at_first t Q j k next (received_parts x) (action_parts labels ss) got.sized within))))
        (receives_walked as' a (earlier ++ n ∷ []) labels)

    else_walked : (o : OtherwiseNode) (a : Around) (labels : List Name) → Walks (origins_in_otherwise o) (otherwise_parts labels o) (sites_of_otherwise a o)
    else_walked no_otherwise a labels = walk.nothing t Q
    else_walked (otherwise ss) a labels = each_walked ss a labels

    pub handler_walked : (h : HandlerNode) (a : Around) (labels : List Name) → Walks (origins_in_handler h) (handler_parts labels h) (sites_of_handler a h)
    handler_walked no_handler a labels = walk.nothing t Q
    handler_walked (handler at as' o) a labels = walk.blocked t Q (walk.joined t Q (exceptions_walked as' a [] labels) (else_walked o a labels))

    exceptions_walked : (as' : NamedNodes) (a : Around) (earlier labels : List Name) → Walks (origins_in_named as') (exception_parts labels as') (sites_of_exceptions a earlier as')
    exceptions_walked no_named a earlier labels = walk.nothing t Q
    exceptions_walked (more_named at ns ss as') a earlier labels =
        walk.joined t Q (walk.bare t Q (at_exceptions earlier ns) (record { exprs = tt; others = tt; defined = tt }) (each_walked ss a labels)) (exceptions_walked as' a (earlier ++ ns) labels)

    body_walked : (ps : BodyNodes) (a : Around) (labels : List Name) → Walks (origins_in_parts ps) (body_parts labels ps) (sites_of_parts a ps)
    body_walked no_parts a labels = walk.nothing t Q
    body_walked (more_locals l ps) a labels = walk.joined t Q (local_walked false l) (body_walked ps a labels)
    body_walked (more_actions s ps) a labels = walk.joined t Q (statement_walked s a labels) (body_walked ps a labels)

  pub whole_walked : (a : Around) (ps : List BodyTree) (h : Option HandlerTree) → Walks (origins_of_body ps h) (whole_body ps h) (sites_of_body a ps h)
  whole_walked a ps h = walk.joined t Q (body_walked (body_nodes ps) a []) (handler_walked (handler_node h) a [])
