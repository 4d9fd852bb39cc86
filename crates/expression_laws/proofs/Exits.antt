-- Where N4 is told of nothing each EXIT has the label of an action around it.
use Rattle.std.proofs.Common.{◌≡◌, ℕ, suc, ◌+◌, Bool, true, false, ◌||◌, List, [], ◌∷◌, ◌++◌, Option, Some, None, Contains, inl, inr, refl, sym, ap, ◌∙◌, subst, true≢false}
use Rattle.std.specs.Prelude.{IsSome, is_some, if◌then◌else◌, option_map, map, flat_map}
use Rattle.std.specs.Str.{bytes_eq}
use Rattle.std.proofs.lemmas.List.Elements.{Contains-append_left, Contains-append_right}
use Rattle.chill_tree.specs.declared.tree.name.Name.{Name}
use Rattle.chill_tree.specs.LocalTree.{LocalTree}
use Rattle.chill_tree.specs.SimpleTree.{SimpleTree, assign, update, call_of, exit, return_with, result_of, assert_that, cause, stop, start_of, delay, continue_event, send}
use Rattle.chill_tree.specs.StatementTree.{StatementTree, BracketedTree, StatementNodes, ElsIfNodes, CaseNodes, NamedNodes, ReceiveNodes, OtherwiseNode, HandlerNode, BodyNodes, HandlerTree, BodyTree, empty, simple, bracketed, if_then, case_of, do_loop, begin_end, delay_case, receive_case, no_statements, more_statements, no_branches, more_branches, no_cases, more_cases, no_named, more_named, no_receives, more_receives, no_otherwise, otherwise, no_handler, handler, no_parts, more_locals, more_actions, handler_node, body_nodes}
use Rattle.chill_tree.specs.ItemTree.{ItemTree, ItemNodes, local_item, signals, procedure, process, action, no_items, more_items, ModulionTree, ProgramTree, modulion_item}
use Rattle.chill_tree.specs.ItemTree.{seize as seize_item, grant as grant_item, modulion as modulion_of}
use Rattle.names_model.specs.Identifiers.{identifier}
use Rattle.names_model.specs.Parts as parts
use Rattle.names_model.specs.Parts.{PartTree, PartNodes, define, mention, seize, seize_all, grant, grant_all, stray, modulion, routine, block, part_nodes}
use Rattle.names_model.specs.Sizes.{head_size, size_of, block_of}
use Rattle.names_model.specs.Seeing.{Reach, outermost, in_modulion, in_block}
use Rattle.names_model.specs.NameRules.{Node, node, nodes, nodes_inside, body_reach, told_here, told, twice_inside, told_twice, told_in, told_surplus}
use Rattle.names_model.specs.ExprMentions.{used, mentions_of, mentions_of_some, mentions_of_ranges}
use Rattle.names_model.specs.StatementParts.{mentioned, local_parts, encloses, exit_parts, simple_parts, control_parts, turn_parts, labelled, received_parts, statement_parts, bracketed_parts, action_parts, branch_parts, case_parts, event_parts, receive_parts, otherwise_parts, handler_parts, exception_parts, body_parts}
use Rattle.names_model.specs.ItemParts.{whole_body, item_parts, each_item, signal_parts}
use Rattle.names_model.specs.Resolving.{level_of, told_of_names, broken_names}
use Rattle.names_model.specs.Dependence.{told_selves, groups_in}
use Rattle.names_laws.proofs.Members.{here_in, later_in, none_in, in_cases}
use Rattle.diagnostics.specs.declared.diagnostic.Diagnostic.{Diagnostic}
use Rattle.elaborated_laws.proofs.Told.{none_first, none_later}
use Rattle.names_model.specs.declared.definition.Definition.{Definition}
use Rattle.names_model.specs.declared.kind.Need.TheVariants as needs
use Rattle.names_model.specs.Definitions.{text_definitions}
use Rattle.checks_model.specs.Sites.{items_of}
use Rattle.written_laws.specs.Written.{Each}
use Rattle.written_laws.proofs.WrittenSo.{none_listed}
use Rattle.elaboration_model.specs.Statements.{outwards}
use Rattle.expression_laws.specs.Statements.{ExitStands, ExitsStand, BracketedExits, EachExits, BranchExits, CaseExits, NamedExits, ReceiveExits, ElseExits, HandlerExits, BodyExits}
use Rattle.expression_laws.proofs.Operators.{map_there}
use Rattle.expression_laws.specs.Exits.{ItemExits, EachItemExits, ExitsLaw}

-- ---- parts without strays

abbrev NoStray : PartTree → Type 0
NoStray (stray n) = ⊥
NoStray p = Unit {0}

abbrev mutual
  IsFree : PartTree → Type 0
  IsFree (define c) = Unit {0}
  IsFree (mention m) = Unit {0}
  IsFree (seize n) = Unit {0}
  IsFree (seize_all at) = Unit {0}
  IsFree (grant n) = Unit {0}
  IsFree (grant_all at) = Unit {0}
  IsFree (stray n) = ⊥
  IsFree (modulion n region size ps) = AreFree ps
  IsFree (routine n kind params result size ps) = AreFree ps
  IsFree (block size ps) = AreFree ps

  AreFree : PartNodes → Type 0
  AreFree parts.no_parts = Unit {0}
  AreFree (parts.more_parts p ps) = IsFree p × AreFree ps

mutual
  part_free : (p : PartTree) (r : Reach) (from : ℕ) → NoStray p → ((k : Node) → Contains (nodes_inside r from p) k → NoStray k.part) → IsFree p
  part_free (define c) r from own inside = tt
  part_free (mention m) r from own inside = tt
  part_free (seize n) r from own inside = tt
  part_free (seize_all at) r from own inside = tt
  part_free (grant n) r from own inside = tt
  part_free (grant_all at) r from own inside = tt
  part_free (stray n) r from own inside = own
  part_free (modulion n region count ps) r from own inside = parts_free ps (in_modulion r (suc from) ps) (suc from) inside
  part_free (routine n kind params result count ps) r from own inside = parts_free ps (body_reach r from params result ps) (from + head_size params result) inside
  part_free (block count ps) r from own inside = parts_free ps (in_block r [] from ps) from inside

  parts_free : (ps : PartNodes) (r : Reach) (from : ℕ) → ((k : Node) → Contains (nodes r from ps) k → NoStray k.part) → AreFree ps
  parts_free parts.no_parts r from each = tt
  parts_free (parts.more_parts p ps) r from each =
      let inside = nodes_inside r from p in
      let behind = nodes r (from + size_of p) ps in (
        part_free p r from (each (node r from p) (here_in (node r from p) (inside ++ behind) (node r from p) refl)) (λ k c. each k (later_in (node r from p) (inside ++ behind) k (Contains-append_left inside behind k c))),
        parts_free ps r (from + size_of p) (λ k c. each k (later_in (node r from p) (inside ++ behind) k (Contains-append_right inside behind k c))),
      )

stray_told : (text : List Definition) (r : Reach) (p : PartTree) → told_here text r p ≡ [] → NoStray p
stray_told text r (stray n) none = cc
stray_told text r p none = tt

none_at : {X : Type 0} (f : X → List Diagnostic) (xs : List X) (x : X) → flat_map f xs ≡ [] → Contains xs x → f x ≡ []
none_at f [] x none c = absurd (none_in x c)
none_at f (y ∷ xs) x none c = elim (in_cases y xs x c) [
  | inl is ↦ subst (λ z. f z ≡ []) is (none_first (f y) (flat_map f xs) none)
  | inr there ↦ none_at f xs x (none_later (f y) (flat_map f xs) none) there
]

-- nothing is told of a node where nothing is told of names
pub untold_here : (t : ProgramTree) (k : Node) → broken_names (level_of t) ≡ [] → Contains (nodes (outermost (level_of t)) 0 (level_of t)) k → told_here (text_definitions (level_of t)) k.reach k.part ≡ []
untold_here t k none c =
    let ps = level_of t in
    let text = text_definitions ps in
    let rules = told_in text (outermost ps) 0 ps in
    let selves = told_selves text (groups_in text (outermost ps) 0 ps) in
    let first = none_first rules selves (none_first (rules ++ selves) (told_surplus text) (none_listed (told_of_names ps) none)) in
    let each = none_later (told_twice text (outermost ps)) (flat_map (told text) (nodes (outermost ps) 0 ps)) first in
    none_first (told_here text k.reach k.part) (twice_inside text k.reach k.from k.part) (none_at (told text) (nodes (outermost ps) 0 ps) k each c)

abbrev Free : List PartTree → Type 0
Free ps = AreFree (part_nodes ps)

split : (ps qs : List PartTree) → Free (ps ++ qs) → Free ps × Free qs
split [] qs free = (tt, free)
split (p ∷ ps) qs free = let rest = split ps qs free.1 in ((free.0, rest.0), rest.1)

-- ---- EXITs

found : (labels : List Name) (n : Name) → encloses labels n ≡ true → IsSome (outwards n labels)
found [] n is = absurd (true≢false (sym is))
found (l ∷ ls) n is = by (bytes_eq l.text n.text) (found ls n) is
  where
    by : (b : Bool) → (encloses ls n ≡ true → IsSome (outwards n ls)) → (b || encloses ls n) ≡ true → IsSome (if b then Some 0 else option_map suc (outwards n ls))
    by true later is = refl
    by false later is = map_there suc (outwards n ls) (later is)

simple_exits : (labels : List Name) (a : SimpleTree) → Free (simple_parts labels a) → ExitStands labels a
simple_exits labels (exit at n) free = by (encloses labels n) refl free
  where
    by : (b : Bool) → encloses labels n ≡ b → Free (if b then [] else stray (identifier n) ∷ []) → IsSome (outwards n labels)
    by true is free = found labels n is
    by false is free = absurd free.0
simple_exits labels a free = tt

mutual
  statement_exits : (s : StatementTree) (labels : List Name) → Free (statement_parts labels s) → ExitsStand labels s
  statement_exits (empty at) labels free = tt
  statement_exits (simple at a h) labels free = let h2 = split (simple_parts labels a) (handler_parts labels h) free in (simple_exits labels a h2.0, handler_exits h labels h2.1)
  statement_exits (bracketed at l b h closing) labels free =
      let inner = labelled l labels in
      let both = split (bracketed_parts inner b) (handler_parts inner h) free in
      (bracketed_exits b inner both.0, handler_exits h inner both.1)

  bracketed_exits : (b : BracketedTree) (labels : List Name) → Free (bracketed_parts labels b) → BracketedExits labels b
  bracketed_exits (if_then at c ss bs o) labels free =
      let own = mentioned (mentions_of c) in
      let last = split (own ++ action_parts labels ss ++ branch_parts labels bs) (otherwise_parts labels o) free in
      let middle = split (own ++ action_parts labels ss) (branch_parts labels bs) last.0 in
      (each_exits ss labels (split own (action_parts labels ss) middle.0).1, (branches_exits bs labels middle.1, else_exits o labels last.1))
  bracketed_exits (case_of at e as' o) labels free =
      let own = mentioned (mentions_of e) in
      let last = split (own ++ case_parts labels as') (otherwise_parts labels o) free in
      (cases_exits as' labels (split own (case_parts labels as') last.0).1, else_exits o labels last.1)
  bracketed_exits (do_loop at c ss) labels free =
      let inner = turn_parts c ++ action_parts labels ss in
      let both = split (control_parts c) (block_of inner ∷ []) free in
      each_exits ss labels (split (turn_parts c) (action_parts labels ss) both.1.0).1
  bracketed_exits (begin_end at ps) labels free = body_exits ps labels free.0
  bracketed_exits (delay_case at set p as') labels free = named_exits as' labels (split (mentioned (mentions_of_some set ++ mentions_of_some p)) (event_parts labels as') free).1
  bracketed_exits (receive_case at set as' o) labels free =
      let own = mentioned (mentions_of_some set) in
      let last = split (own ++ receive_parts labels as') (otherwise_parts labels o) free in
      (receives_exits as' labels (split own (receive_parts labels as') last.0).1, else_exits o labels last.1)

  each_exits : (ss : StatementNodes) (labels : List Name) → Free (action_parts labels ss) → EachExits labels ss
  each_exits no_statements labels free = tt
  each_exits (more_statements s ss) labels free = let both = split (statement_parts labels s) (action_parts labels ss) free in (statement_exits s labels both.0, each_exits ss labels both.1)

  branches_exits : (bs : ElsIfNodes) (labels : List Name) → Free (branch_parts labels bs) → BranchExits labels bs
  branches_exits no_branches labels free = tt
  branches_exits (more_branches at c ss bs) labels free =
      let own = mentioned (mentions_of c) in
      let both = split (own ++ action_parts labels ss) (branch_parts labels bs) free in
      (each_exits ss labels (split own (action_parts labels ss) both.0).1, branches_exits bs labels both.1)

  cases_exits : (as' : CaseNodes) (labels : List Name) → Free (case_parts labels as') → CaseExits labels as'
  cases_exits no_cases labels free = tt
  cases_exits (more_cases at ls ss as') labels free =
      let own = mentioned (mentions_of_ranges ls) in
      let both = split (own ++ action_parts labels ss) (case_parts labels as') free in
      (each_exits ss labels (split own (action_parts labels ss) both.0).1, cases_exits as' labels both.1)

  named_exits : (as' : NamedNodes) (labels : List Name) → Free (event_parts labels as') → NamedExits labels as'
  named_exits no_named labels free = tt
  named_exits (more_named at ns ss as') labels free =
      let own = mentioned (flat_map (used needs.Location) ns) in
      let both = split (own ++ block_of (action_parts labels ss) ∷ []) (event_parts labels as') free in
      (each_exits ss labels (split own (block_of (action_parts labels ss) ∷ []) both.0).1.0, named_exits as' labels both.1)

  receives_exits : (as' : ReceiveNodes) (labels : List Name) → Free (receive_parts labels as') → ReceiveExits labels as'
  receives_exits no_receives labels free = tt
  receives_exits (more_receives at n r ss as') labels free =
      let own = mentioned (used needs.Message n) in
      let inner = received_parts r ++ action_parts labels ss in
      let both = split (own ++ block_of inner ∷ []) (receive_parts labels as') free in
      (each_exits ss labels (split (received_parts r) (action_parts labels ss) (split own (block_of inner ∷ []) both.0).1.0).1, receives_exits as' labels both.1)

  else_exits : (o : OtherwiseNode) (labels : List Name) → Free (otherwise_parts labels o) → ElseExits labels o
  else_exits no_otherwise labels free = tt
  else_exits (otherwise ss) labels free = each_exits ss labels free

  handler_exits : (h : HandlerNode) (labels : List Name) → Free (handler_parts labels h) → HandlerExits labels h
  handler_exits no_handler labels free = tt
  handler_exits (handler at as' o) labels free = let both = split (exception_parts labels as') (otherwise_parts labels o) free.0 in (exceptions_exits as' labels both.0, else_exits o labels both.1)

  exceptions_exits : (as' : NamedNodes) (labels : List Name) → Free (exception_parts labels as') → NamedExits labels as'
  exceptions_exits no_named labels free = tt
  exceptions_exits (more_named at ns ss as') labels free = let both = split (action_parts labels ss) (exception_parts labels as') free in (each_exits ss labels both.0, exceptions_exits as' labels both.1)

  body_exits : (ps : BodyNodes) (labels : List Name) → Free (body_parts labels ps) → BodyExits labels ps
  body_exits no_parts labels free = tt
  body_exits (more_locals l ps) labels free = body_exits ps labels (split (local_parts l) (body_parts labels ps) free).1
  body_exits (more_actions s ps) labels free = let both = split (statement_parts labels s) (body_parts labels ps) free in (statement_exits s labels both.0, body_exits ps labels both.1)

-- ---- items

whole_exits : (ps : List BodyTree) (h : Option HandlerTree) → Free (whole_body ps h) → BodyExits [] (body_nodes ps) × HandlerExits [] (handler_node h)
whole_exits ps h free = let both = split (body_parts [] (body_nodes ps)) (handler_parts [] (handler_node h)) free in (body_exits (body_nodes ps) [] both.0, handler_exits (handler_node h) [] both.1)

mutual
  item_exits : (i : ItemTree) → Free (item_parts i) → ItemExits i
  item_exits (seize_item at passed) free = tt
  item_exits (grant_item at passed) free = tt
  item_exits (local_item l) free = tt
  item_exits (signals at ss) free = tt
  item_exits (procedure p) free = whole_exits p.body p.handler free.0
  item_exits (process p) free = whole_exits p.body p.handler free.0
  item_exits (modulion_of n kind items h closing) free = let both = split (each_item items) (handler_parts [] (handler_node h)) free.0 in (items_exits items both.0, handler_exits (handler_node h) [] both.1)
  item_exits (action s) free = statement_exits s [] free

  items_exits : (is : ItemNodes) → Free (each_item is) → EachItemExits is
  items_exits no_items free = tt
  items_exits (more_items i is) free = let both = split (item_parts i) (each_item is) free in (item_exits i both.0, items_exits is both.1)

modulions_exits : (ms : List ModulionTree) → Free (flat_map (λ m. item_parts (modulion_item m)) ms) → Each ItemExits (map modulion_item ms)
modulions_exits [] free = tt
modulions_exits (m ∷ ms) free = let both = split (item_parts (modulion_item m)) (flat_map (λ m. item_parts (modulion_item m)) ms) free in (item_exits (modulion_item m) both.0, modulions_exits ms both.1)

pub exits_there : ExitsLaw
exits_there text t has =
    modulions_exits t.modulions
    (parts_free (level_of t) (outermost (level_of t)) 0 (λ k c. stray_told (text_definitions (level_of t)) k.reach k.part (untold_here t k has.names c)))
