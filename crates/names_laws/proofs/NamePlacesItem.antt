-- The names in an item, a modulion or a program stand among its tokens, in order.
use Rattle.std.proofs.Common.{◌≡◌, List, [], ◌∷◌, ◌++◌, Option, refl, ap, subst, append-nil}
use Rattle.std.specs.Prelude.{map, flat_map}
use Rattle.chill_base.specs.declared.pos.Pos.{Pos}
use Rattle.chill_tree.specs.declared.token.Word.TheVariants as words
use Rattle.chill_tree.specs.declared.tree.name.Name.{Name}
use Rattle.chill_tree.specs.declared.tree.item.ModulionKind.{ModulionKind}
use Rattle.chill_tree.specs.declared.tree.item.Passed.{Passed}
use Rattle.chill_tree.specs.declared.tree.item.Passed.TheVariants.{Names, All}
use Rattle.chill_tree.specs.declared.tree.item.Passing.{Passing}
use Rattle.chill_tree.specs.ModeTree.{ModeTree}
use Rattle.chill_tree.specs.StatementTree.{HandlerTree, handler_node, BodyTree}
use Rattle.chill_tree.specs.ItemTree.{ParamTree, FormalTree, ProcedureTree, ProcessTree, ItemTree, item_nodes, ModulionTree, modulion_item, ProgramTree}
use Rattle.rules_model.specs.Marks.{Toks}
use Rattle.rules_model.specs.ListGrammar.{IsName, is_name, IsClause, no_clause, with_clause}
use Rattle.rules_model.specs.ModeGrammar.{IsMode}
use Rattle.rules_model.specs.ItemGrammar.{IsPassed, pass_names, pass_all, AreSignalParts, no_signal_parts, with_signal_parts, IsSignal, is_signal, IsPassing, no_passing, pass_in, pass_out, pass_in_out, IsParam, is_param, IsFormal, is_formal, AreWithin, none_within, some_within, IsResult, is_result, AreExceptions, are_exceptions, IsBlock, is_block, IsProcedure, is_procedure, IsProcess, is_process, IsKind, is_module, is_region, IsItem, is_seize, is_grant, is_local_item, are_signals, is_procedure_item, is_process_item, is_modulion_item, is_action, AreItems, no_items, then_item, IsModulion, is_modulion, AreModulions, no_modulions, then_modulion, IsTreeOf, is_tree}
use Rattle.names_model.specs.declared.kind.Kind.TheVariants as kinds
use Rattle.names_model.specs.declared.part.Clause.{Clause}
use Rattle.names_model.specs.Identifiers.{identifier}
use Rattle.names_model.specs.Parts.{seize, grant}
use Rattle.names_model.specs.ModeMentions.{mentions_of_mode, mentions_of_some_mode}
use Rattle.names_model.specs.StatementParts.{handler_parts}
use Rattle.names_model.specs.ItemParts.{seized, granted, receiver_parts, mentions_of_parts, signal_parts, param_clause, formal_clause, whole_body, procedure_part, process_part, item_parts, each_item, program_parts}
use Rattle.names_laws.proofs.NamePlaces.{Sought, of_mention, of_part, of_clause, Within, nowhere, Uses, none, skip, ends, pass, then_passed, both, as_list, as_places, many_and, taking_name, mentioning, clause_places, defining, modulion_uses, routine_uses}
use Rattle.names_laws.proofs.NamePlacesMode.{Keeps, listed_uses, mapped, names_passed, names_defined, closing_passed, mode_uses, local_uses}
use Rattle.names_laws.proofs.NamePlacesStatement.{statement_uses, handler_uses, body_uses}

module _ (sought : Sought) where
  -- ---- what is passed

  seizes_none : (ns : List Name) → [] ≡ flat_map (of_part sought) (map (λ n. seize (identifier n)) ns)
  seizes_none [] = refl
  seizes_none (n ∷ ns) = seizes_none ns

  grants_none : (ns : List Name) → [] ≡ flat_map (of_part sought) (map (λ n. grant (identifier n)) ns)
  grants_none [] = refl
  grants_none (n ∷ ns) = grants_none ns

  seized_none : (w : Passed) → [] ≡ flat_map (of_part sought) (seized w)
  seized_none (Names ns) = seizes_none ns
  seized_none (All at) = refl

  granted_none : (w : Passed) → [] ≡ flat_map (of_part sought) (granted w)
  granted_none (Names ns) = grants_none ns
  granted_none (All at) = refl

  passed_none : {w : Passed} {toks rest : Toks} → IsPassed w toks rest → Uses (of_part sought) [] toks rest
  passed_none (pass_names d) = names_passed d
  passed_none pass_all = skip none

  -- ---- signals

  a_mode_uses : Keeps (of_mention sought) IsMode mentions_of_mode
  a_mode_uses o toks rest d = mode_uses sought d

  signal_modes_uses : {ms : Option (List ModeTree)} {toks rest : Toks} → AreSignalParts ms toks rest → Uses (of_mention sought) (mentions_of_parts ms) toks rest
  signal_modes_uses no_signal_parts = none
  signal_modes_uses (with_signal_parts d) = skip (skip (ends (listed_uses mentions_of_mode a_mode_uses d)))

  receiver_uses : {t : Option Name} {toks rest : Toks} → IsClause words.To IsName t toks rest → Uses (of_part sought) (receiver_parts t) toks rest
  receiver_uses no_clause = none
  receiver_uses (with_clause is_name) = skip (mentioning sought none)

  signal_uses : Keeps (of_part sought) IsSignal signal_parts
  signal_uses s toks rest (is_signal {n = n} ms t) = defining sought _ (n ∷ []) _ _ (taking_name sought n) (signal_modes_uses ms) (receiver_uses t)

  -- ---- procedures and processes

  passing_none : {w : Option Passing} {toks rest : Toks} → IsPassing w toks rest → Uses (of_mention sought) [] toks rest
  passing_none no_passing = none
  passing_none pass_in = skip none
  passing_none pass_out = skip none
  passing_none pass_in_out = skip none

  param_uses : Keeps (of_clause sought) IsParam (λ p. param_clause p ∷ [])
  param_uses p toks rest (is_param ns o w) = clause_places sought _ _ _ (names_defined sought ns) (then_passed (mode_uses sought o) (passing_none w))

  formal_uses : Keeps (of_clause sought) IsFormal (λ p. formal_clause p ∷ [])
  formal_uses p toks rest (is_formal ns o) = clause_places sought _ _ _ (names_defined sought ns) (mode_uses sought o)

  within_uses : {X A : Type 0} {f : X → List Pos} {Is : A → Toks → Toks → Type 0} (g : A → List X) → Keeps f Is g → {as' : List A} {toks rest : Toks} → AreWithin Is as' toks rest → Uses f (flat_map g as') toks rest
  within_uses g keeps none_within = skip none
  within_uses g keeps (some_within d) = ends (listed_uses g keeps d)

  params_uses : {ps : List ParamTree} {toks rest : Toks} → AreWithin IsParam ps toks rest → Uses (of_clause sought) (map param_clause ps) toks rest
  params_uses {ps = ps} d = as_list (mapped param_clause ps) (within_uses (λ p. param_clause p ∷ []) param_uses d)

  formals_uses : {ps : List FormalTree} {toks rest : Toks} → AreWithin IsFormal ps toks rest → Uses (of_clause sought) (map formal_clause ps) toks rest
  formals_uses {ps = ps} d = as_list (mapped formal_clause ps) (within_uses (λ p. formal_clause p ∷ []) formal_uses d)

  returns_uses : {o : Option ModeTree} {toks rest : Toks} → IsClause words.Returns IsResult o toks rest → Uses (of_mention sought) (mentions_of_some_mode o) toks rest
  returns_uses no_clause = none
  returns_uses (with_clause (is_result d)) = skip (skip (ends (mode_uses sought d)))

  exceptions_none : {es : Option (List Name)} {toks rest : Toks} → IsClause words.Exceptions AreExceptions es toks rest → Uses (of_mention sought) [] toks rest
  exceptions_none no_clause = none
  exceptions_none (with_clause (are_exceptions d)) = skip (skip (ends (names_passed d)))

  block_uses : {n : Name} {ps : List BodyTree} {h : Option HandlerTree} {c : Option Name} {toks rest : Toks} → IsBlock n ps h c toks rest → Uses (of_part sought) (whole_body ps h) toks rest
  block_uses (is_block b h c) = both (ends (body_uses sought b)) (then_passed (handler_uses sought [] h) (ends (closing_passed c)))

  procedure_uses : {x : ProcedureTree} {toks rest : Toks} → IsProcedure x toks rest → Uses (of_part sought) (procedure_part x ∷ []) toks rest
  procedure_uses (is_procedure {n = n} {ps = ps} {o = o} {b = b} {h = h} w r e d) =
      routine_uses sought n kinds.Procedure (map param_clause ps) (mentions_of_some_mode o) (whole_body b h)
      (taking_name sought n) (skip (skip (skip (params_uses w)))) (then_passed (returns_uses r) (ends (exceptions_none e))) (block_uses d)

  process_uses : {x : ProcessTree} {toks rest : Toks} → IsProcess x toks rest → Uses (of_part sought) (process_part x ∷ []) toks rest
  process_uses (is_process {n = n} {ps = ps} {b = b} {h = h} w d) =
      routine_uses sought n kinds.Process (map formal_clause ps) [] (whole_body b h) (taking_name sought n) (skip (skip (skip (ends (formals_uses w))))) none (block_uses d)

  -- ---- items

  kind_none : {k : ModulionKind} {toks rest : Toks} → IsKind k toks rest → Uses (of_part sought) [] toks rest
  kind_none is_module = skip none
  kind_none is_region = skip none

  items_flat : (is : List ItemTree) → flat_map item_parts is ≡ each_item (item_nodes is)
  items_flat [] = refl
  items_flat (i ∷ is) = ap (λ ps. item_parts i ++ ps) (items_flat is)

  mutual
    item_uses : {i : ItemTree} {toks rest : Toks} → IsItem i toks rest → Uses (of_part sought) (item_parts i) toks rest
    item_uses (is_seize {w = w} d) = skip (as_places {f = (of_part sought)} {xs = []} (seized_none w) (ends (passed_none d)))
    item_uses (is_grant {w = w} d) = skip (as_places {f = (of_part sought)} {xs = []} (granted_none w) (ends (passed_none d)))
    item_uses (is_local_item d) = local_uses sought d
    item_uses (are_signals d) = skip (ends (listed_uses signal_parts signal_uses d))
    item_uses (is_procedure_item d) = procedure_uses d
    item_uses (is_process_item d) = process_uses d
    item_uses (is_modulion_item d) = in_modulion_uses d
    item_uses (is_action d) = statement_uses sought [] d

    items_uses : {is : List ItemTree} {toks rest : Toks} → AreItems is toks rest → Uses (of_part sought) (flat_map item_parts is) toks rest
    items_uses no_items = none
    items_uses (then_item {is = is} {i = i} l d) = many_and item_parts is i (items_uses l) (item_uses d)

    in_modulion_uses : {x : ModulionTree} {toks rest : Toks} → IsModulion x toks rest → Uses (of_part sought) (item_parts (modulion_item x)) toks rest
    in_modulion_uses (is_modulion {n = n} {k = k} {is = is} {h = h} w d e c) =
        modulion_uses sought n k (each_item (item_nodes is) ++ handler_parts [] (handler_node h)) (taking_name sought n) (skip (pass (kind_none w)
        (both (as_list (items_flat is) (ends (items_uses d))) (then_passed (handler_uses sought [] e) (ends (closing_passed c))))))

  modulions_uses : {xs : List ModulionTree} {toks rest : Toks} → AreModulions xs toks rest → Uses (of_part sought) (flat_map (λ m. item_parts (modulion_item m)) xs) toks rest
  modulions_uses no_modulions = none
  modulions_uses (then_modulion {xs = xs} {x = x} l d) = many_and (λ m. item_parts (modulion_item m)) xs x (modulions_uses l) (in_modulion_uses d)

  -- the names in a program are among its tokens, in order
  pub program_within : {toks : Toks} {x : ProgramTree} → IsTreeOf toks x → Within (flat_map (of_part sought) (program_parts x)) toks
  program_within {toks = toks} {x = x} (is_tree {xs = xs} d some) = subst (λ ps. Within ps toks) (append-nil (flat_map (of_part sought) (flat_map (λ m. item_parts (modulion_item m)) xs))) ((modulions_uses d).by [] nowhere)
