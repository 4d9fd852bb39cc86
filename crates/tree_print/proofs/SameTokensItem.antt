-- The tokens of an item, a modulion or a program are one at other places too.
use Rattle.std.proofs.Common.{◌≡◌, List, [], ◌∷◌, ◌++◌, map, Option, Some, None, refl}
use Rattle.std.specs.Prelude.{option_map}
use Rattle.chill_base.specs.declared.pos.Pos.{Pos}
use Rattle.chill_tree.specs.declared.token.Word.TheVariants as words
use Rattle.chill_tree.specs.declared.token.Sign.TheVariants as signs
use Rattle.chill_tree.specs.declared.tree.name.Name.{Name}
use Rattle.chill_tree.specs.declared.tree.item.ModulionKind.{ModulionKind}
use Rattle.chill_tree.specs.declared.tree.item.Passed.{Passed}
use Rattle.chill_tree.specs.declared.tree.item.Passed.TheVariants as passes
use Rattle.chill_tree.specs.declared.tree.item.Passing.{Passing}
use Rattle.chill_tree.specs.ModeTree.{ModeTree}
use Rattle.chill_tree.specs.StatementTree.{HandlerTree, BodyTree}
use Rattle.chill_tree.specs.ItemTree.{ProcedureTree, ProcessTree, ItemTree, seize, grant, local_item, signals, procedure, process, modulion, action, more_items, item_nodes, ModulionTree, modulion_item}
use Rattle.rules_model.specs.Marks.{Toks, sign, word}
use Rattle.rules_model.specs.ModeGrammar.{IsMode}
use Rattle.rules_model.specs.ItemGrammar.{IsPassed, pass_names, pass_all, AreSignalParts, no_signal_parts, with_signal_parts, IsSignal, is_signal, IsPassing, no_passing, pass_in, pass_out, pass_in_out, IsParam, is_param, IsFormal, is_formal, AreWithin, none_within, some_within, IsResult, is_result, AreExceptions, are_exceptions, IsBlock, is_block, IsProcedure, is_procedure, IsProcess, is_process, IsKind, is_module, is_region, IsItem, is_seize, is_grant, is_local_item, are_signals, is_procedure_item, is_process_item, is_modulion_item, is_action, AreItems, no_items, then_item, IsModulion, is_modulion, AreModulions, no_modulions, then_modulion}
use Rattle.tree_print.specs.SameTree.{nowhere, unplaced_name, unplaced_mode, unplaced_handler_tree, unplaced_part, unplaced_passed, unplaced_signal, unplaced_param, unplaced_formal, unplaced_procedure, unplaced_process, unplaced_item, unplaced_items, unplaced_modulion}
use Rattle.tree_print.proofs.SameTokens.{Places, placed, before, Again, Stays, and_same, same_held}
use Rattle.tree_print.proofs.SameTokensList.{same_listed, same_name, same_names, same_clause, same_closing}
use Rattle.tree_print.proofs.SameTokensMode.{same_mode, same_local}
use Rattle.tree_print.proofs.SameTokensStatement.{same_statement, same_handler, same_body}

-- ---- what passes a border, and signals

same_passed : {x : Passed} {toks rest : Toks} → IsPassed x toks rest → (f : Places) → Again IsPassed unplaced_passed f x toks rest
same_passed (pass_names d) f = let x = same_names d f in record { tree = passes.Names x.tree; is = pass_names x.is; same = λ i. passes.Names (x.same i) }
same_passed (pass_all {rest = rest}) f = record { tree = passes.All (before f rest); is = pass_all; same = refl }

a_same_mode : (f : Places) → Stays IsMode unplaced_mode f
a_same_mode f o toks rest d = same_mode d f

same_signal_parts : {ms : Option (List ModeTree)} {toks rest : Toks} → AreSignalParts ms toks rest → (f : Places) → Again AreSignalParts (option_map (map unplaced_mode)) f ms toks rest
same_signal_parts no_signal_parts f = record { tree = None; is = no_signal_parts; same = refl }
same_signal_parts (with_signal_parts d) f = let x = same_listed unplaced_mode f (a_same_mode f) d in record { tree = Some x.tree; is = with_signal_parts x.is; same = λ i. Some (x.same i) }

same_signal : (f : Places) → Stays IsSignal unplaced_signal f
same_signal f s toks rest (is_signal {n = n} ms t) =
    let x = same_signal_parts ms f in
    let y = same_clause unplaced_name f (same_name f) t in
    record { tree = record { name = record { at = _; text = n.text }; parts = x.tree; process = y.tree }; is = is_signal x.is y.is; same = λ i. record { name = unplaced_name n; parts = x.same i; process = y.same i } }

-- ---- procedures and processes

same_passing : {w : Option Passing} {toks rest : Toks} → IsPassing w toks rest → (f : Places) → IsPassing w (placed f toks) (placed f rest)
same_passing no_passing f = no_passing
same_passing pass_in f = pass_in
same_passing pass_out f = pass_out
same_passing pass_in_out f = pass_in_out

same_param : (f : Places) → Stays IsParam unplaced_param f
same_param f p toks rest (is_param {w = w} ns o d) =
    let x = same_names ns f in
    let y = same_mode o f in
    record { tree = record { names = x.tree; mode = y.tree; passing = w }; is = is_param x.is y.is (same_passing d f); same = λ i. record { names = x.same i; mode = y.same i; passing = w } }

same_formal : (f : Places) → Stays IsFormal unplaced_formal f
same_formal f p toks rest (is_formal ns o) =
    let x = same_names ns f in
    let y = same_mode o f in
    record { tree = record { names = x.tree; mode = y.tree }; is = is_formal x.is y.is; same = λ i. record { names = x.same i; mode = y.same i } }

same_within : {X : Type 0} {Is : X → Toks → Toks → Type 0} (unplaced : X → X) (f : Places) → Stays Is unplaced f → {xs : List X} {toks rest : Toks} → AreWithin Is xs toks rest → Again (AreWithin Is) (map unplaced) f xs toks rest
same_within unplaced f stays none_within = record { tree = []; is = none_within; same = refl }
same_within unplaced f stays (some_within d) = let x = same_listed unplaced f stays d in record { tree = x.tree; is = some_within x.is; same = x.same }

same_result : (f : Places) → Stays IsResult unplaced_mode f
same_result f o toks rest (is_result d) = let x = same_mode d f in record { tree = x.tree; is = is_result x.is; same = x.same }

same_exceptions : (f : Places) → Stays AreExceptions (map unplaced_name) f
same_exceptions f ns toks rest (are_exceptions d) = let x = same_names d f in record { tree = x.tree; is = are_exceptions x.is; same = x.same }

record BlockAgain (f : Places) (n : Name) (ps : List BodyTree) (h : Option HandlerTree) (c : Option Name) (toks rest : Toks) : Type 0 where
  body : List BodyTree
  handler : Option HandlerTree
  closing : Option Name
  is : IsBlock n body handler closing (placed f toks) (placed f rest)
  same_body : map unplaced_part ps ≡ map unplaced_part body
  same_handler : option_map unplaced_handler_tree h ≡ option_map unplaced_handler_tree handler
  same_closing : option_map unplaced_name c ≡ option_map unplaced_name closing

-- the name at the start may stand at any place
same_block : {n : Name} {ps : List BodyTree} {h : Option HandlerTree} {c : Option Name} {toks rest : Toks} → IsBlock n ps h c toks rest → (f : Places) (at : Pos) → BlockAgain f (record { at = at; text = n.text }) ps h c toks rest
same_block (is_block {n = n} b h c) f at =
    let x = same_body b f in
    let y = same_handler h f in
    let z = same_closing c f (Some (record { at = at; text = n.text })) refl in
    record { body = x.tree; handler = y.tree; closing = z.tree; is = is_block x.is y.is z.is; same_body = x.same; same_handler = y.same; same_closing = z.same }

same_procedure : {x : ProcedureTree} {toks rest : Toks} → IsProcedure x toks rest → (f : Places) → Again IsProcedure unplaced_procedure f x toks rest
same_procedure (is_procedure {n = n} {p = p} {q = q} {r = r} {m = m} ps o es d) f =
    let at = before f (sign p signs.Colon ∷ word q words.Proc ∷ sign r signs.Open ∷ m) in
    let x = same_within unplaced_param f (same_param f) ps in
    let y = same_clause unplaced_mode f (same_result f) o in
    let z = same_clause (map unplaced_name) f (same_exceptions f) es in
    let u = same_block d f at in
    record {
      tree = record { name = record { at = at; text = n.text }; params = x.tree; returns = y.tree; exceptions = z.tree; body = u.body; handler = u.handler; closing = u.closing };
      is = is_procedure x.is y.is z.is u.is;
      same = λ i. record { name = unplaced_name n; params = x.same i; returns = y.same i; exceptions = z.same i; body = u.same_body i; handler = u.same_handler i; closing = u.same_closing i };
    }

same_process : {x : ProcessTree} {toks rest : Toks} → IsProcess x toks rest → (f : Places) → Again IsProcess unplaced_process f x toks rest
same_process (is_process {n = n} {p = p} {q = q} {r = r} {m = m} ps d) f =
    let at = before f (sign p signs.Colon ∷ word q words.Process ∷ sign r signs.Open ∷ m) in
    let x = same_within unplaced_formal f (same_formal f) ps in
    let u = same_block d f at in
    record {
      tree = record { name = record { at = at; text = n.text }; formals = x.tree; body = u.body; handler = u.handler; closing = u.closing };
      is = is_process x.is u.is;
      same = λ i. record { name = unplaced_name n; formals = x.same i; body = u.same_body i; handler = u.same_handler i; closing = u.same_closing i };
    }

-- ---- items and modulions

same_kind : {k : ModulionKind} {toks rest : Toks} → IsKind k toks rest → (f : Places) → IsKind k (placed f toks) (placed f rest)
same_kind is_module f = is_module
same_kind is_region f = is_region

pub items_held : (is : List ItemTree) → unplaced_items (item_nodes is) ≡ item_nodes (map unplaced_item is)
items_held [] = refl
items_held (i ∷ is) = λ j. more_items (unplaced_item i) (items_held is j)

modulion_held : (x : ModulionTree) → unplaced_item (modulion_item x) ≡ modulion_item (unplaced_modulion x)
modulion_held x = λ i. modulion (unplaced_name x.name) x.kind (items_held x.items i) (option_map unplaced_handler_tree x.handler) (option_map unplaced_name x.closing)

mutual
  same_item : {x : ItemTree} {toks rest : Toks} → IsItem x toks rest → (f : Places) → Again IsItem unplaced_item f x toks rest
  same_item (is_seize d) f = let x = same_passed d f in record { tree = seize _ x.tree; is = is_seize x.is; same = λ i. seize nowhere (x.same i) }
  same_item (is_grant d) f = let x = same_passed d f in record { tree = grant _ x.tree; is = is_grant x.is; same = λ i. grant nowhere (x.same i) }
  same_item (is_local_item d) f = let x = same_local d f in record { tree = local_item x.tree; is = is_local_item x.is; same = λ i. local_item (x.same i) }
  same_item (are_signals d) f = let x = same_listed unplaced_signal f (same_signal f) d in record { tree = signals _ x.tree; is = are_signals x.is; same = λ i. signals nowhere (x.same i) }
  same_item (is_procedure_item d) f = let x = same_procedure d f in record { tree = procedure x.tree; is = is_procedure_item x.is; same = λ i. procedure (x.same i) }
  same_item (is_process_item d) f = let x = same_process d f in record { tree = process x.tree; is = is_process_item x.is; same = λ i. process (x.same i) }
  same_item (is_modulion_item {x = m} d) f =
      let x = same_modulion d f in
      record { tree = modulion_item x.tree; is = is_modulion_item x.is; same = same_held modulion_item unplaced_item unplaced_modulion modulion_held m x.tree x.same }
  same_item (is_action d) f = let x = same_statement d f in record { tree = action x.tree; is = is_action x.is; same = λ i. action (x.same i) }

  same_items : {is : List ItemTree} {toks rest : Toks} → AreItems is toks rest → (f : Places) → Again AreItems (map unplaced_item) f is toks rest
  same_items no_items f = record { tree = []; is = no_items; same = refl }
  same_items (then_item {is = is} {i = i} l d) f =
      let x = same_items l f in
      let y = same_item d f in
      record { tree = x.tree ++ y.tree ∷ []; is = then_item x.is y.is; same = and_same unplaced_item is x.tree i y.tree x.same y.same }

  same_modulion : {x : ModulionTree} {toks rest : Toks} → IsModulion x toks rest → (f : Places) → Again IsModulion unplaced_modulion f x toks rest
  same_modulion (is_modulion {n = n} {k = k} {p = p} {toks = toks} d l h c) f =
      let at = before f (sign p signs.Colon ∷ toks) in
      let x = same_items l f in
      let y = same_handler h f in
      let z = same_closing c f (Some (record { at = at; text = n.text })) refl in
      record {
        tree = record { name = record { at = at; text = n.text }; kind = k; items = x.tree; handler = y.tree; closing = z.tree };
        is = is_modulion (same_kind d f) x.is y.is z.is;
        same = λ i. record { name = unplaced_name n; kind = k; items = x.same i; handler = y.same i; closing = z.same i };
      }

pub same_modulions : {xs : List ModulionTree} {toks rest : Toks} → AreModulions xs toks rest → (f : Places) → Again AreModulions (map unplaced_modulion) f xs toks rest
same_modulions no_modulions f = record { tree = []; is = no_modulions; same = refl }
same_modulions (then_modulion {xs = xs} {x = x} l d) f =
    let ys = same_modulions l f in
    let y = same_modulion d f in
    record { tree = ys.tree ++ y.tree ∷ []; is = then_modulion ys.is y.is; same = and_same unplaced_modulion xs ys.tree x y.tree ys.same y.same }
