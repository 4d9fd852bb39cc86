-- The tokens of an item, a modulion or a program are its own.
use Rattle.std.proofs.Common.{◌≡◌, List, [], ◌∷◌, ◌++◌, Option, refl, ap, ◌∙◌, append-nil}
use Rattle.std.specs.Prelude.{flat_map}
use Rattle.chill_tree.specs.declared.token.Sign.TheVariants as signs
use Rattle.chill_tree.specs.declared.tree.name.Name.{Name}
use Rattle.chill_tree.specs.declared.tree.item.ModulionKind.{ModulionKind}
use Rattle.chill_tree.specs.declared.tree.item.Passed.{Passed}
use Rattle.chill_tree.specs.declared.tree.item.Passing.{Passing}
use Rattle.chill_tree.specs.ModeTree.{ModeTree}
use Rattle.chill_tree.specs.StatementTree.{HandlerTree, handler_node, BodyTree, body_nodes}
use Rattle.chill_tree.specs.ItemTree.{ProcedureTree, ProcessTree, ItemTree, item_nodes, ModulionTree, ProgramTree}
use Rattle.rules_model.specs.Marks.{Toks}
use Rattle.rules_model.specs.ModeGrammar.{IsMode}
use Rattle.rules_model.specs.ItemGrammar.{IsPassed, pass_names, pass_all, AreSignalParts, no_signal_parts, with_signal_parts, IsSignal, is_signal, IsPassing, no_passing, pass_in, pass_out, pass_in_out, IsParam, is_param, IsFormal, is_formal, AreWithin, none_within, some_within, IsResult, is_result, AreExceptions, are_exceptions, IsBlock, is_block, IsProcedure, is_procedure, IsProcess, is_process, IsKind, is_module, is_region, IsItem, is_seize, is_grant, is_local_item, are_signals, is_procedure_item, is_process_item, is_modulion_item, is_action, AreItems, no_items, then_item, IsModulion, is_modulion, AreModulions, no_modulions, then_modulion, IsTreeOf, is_tree}
use Rattle.rules_model.specs.TreeTokens.{Kinds, given, word_kinds, sign_kinds, name_kinds, names_kinds, in_parens, with_commas, mode_kinds, passed_kinds, signal_kinds, passing_kinds, param_kinds, formal_kinds, body_kinds, ending_kinds, procedure_kinds, process_kinds, kind_word, item_kinds, items_kinds, modulion_kinds, modulions_kinds, tokens_of_tree}
use Rattle.tree_print.specs.Canonical.{token_kinds}
use Rattle.tree_print.proofs.TreeTokens.{Writes, nothing, token, last, both, onto, as_kinds, many_none, many_and}
use Rattle.tree_print.proofs.TreeTokensList.{Tells, listed_tokens, name_tokens, names_tokens, clause_tokens, closing_tokens}
use Rattle.tree_print.proofs.TreeTokensMode.{mode_tokens, local_tokens}
use Rattle.tree_print.proofs.TreeTokensStatement.{statement_tokens, handler_tokens, body_tokens}

passed_tokens : {x : Passed} {toks rest : Toks} → IsPassed x toks rest → Writes (passed_kinds x) toks rest
passed_tokens (pass_names d) = names_tokens d
passed_tokens pass_all = last

a_mode_tokens : Tells IsMode mode_kinds
a_mode_tokens o toks rest d = mode_tokens d

signal_parts_tokens : {ms : Option (List ModeTree)} {toks rest : Toks} → AreSignalParts ms toks rest → Writes (given (λ xs. sign_kinds signs.Equal ++ in_parens (with_commas mode_kinds xs)) ms) toks rest
signal_parts_tokens no_signal_parts = nothing
signal_parts_tokens (with_signal_parts d) = token (token (both (listed_tokens mode_kinds a_mode_tokens d).writes last))

signal_tokens : Tells IsSignal signal_kinds
signal_tokens x toks rest (is_signal ms t) = token (both (signal_parts_tokens ms) (clause_tokens name_kinds name_tokens t))

passing_tokens : {w : Option Passing} {toks rest : Toks} → IsPassing w toks rest → Writes (given passing_kinds w) toks rest
passing_tokens no_passing = nothing
passing_tokens pass_in = last
passing_tokens pass_out = last
passing_tokens pass_in_out = last

param_tokens : Tells IsParam param_kinds
param_tokens x toks rest (is_param ns o w) = both (both (names_tokens ns) (mode_tokens o)) (passing_tokens w)

formal_tokens : Tells IsFormal formal_kinds
formal_tokens x toks rest (is_formal ns o) = both (names_tokens ns) (mode_tokens o)

within_tokens : {X : Type 0} {Is : X → Toks → Toks → Type 0} (ks : X → Kinds) → Tells Is ks → {xs : List X} {toks rest : Toks} → AreWithin Is xs toks rest → Writes (with_commas ks xs ++ sign_kinds signs.Close) toks rest
within_tokens ks tells none_within = last
within_tokens ks tells (some_within d) = both (listed_tokens ks tells d).writes last

result_tokens : Tells IsResult (λ o. in_parens (mode_kinds o))
result_tokens o toks rest (is_result d) = token (both (mode_tokens d) last)

exceptions_tokens : Tells AreExceptions (λ ns. in_parens (names_kinds ns))
exceptions_tokens ns toks rest (are_exceptions d) = token (both (names_tokens d) last)

block_tokens : {n : Name} {ps : List BodyTree} {h : Option HandlerTree} {c : Option Name} {toks rest : Toks} → IsBlock n ps h c toks rest → Writes (body_kinds (body_nodes ps) ++ ending_kinds (handler_node h) c) toks rest
block_tokens (is_block b h c) = both (body_tokens b) (token (both (both (handler_tokens h) (closing_tokens c)) last))

procedure_tokens : {x : ProcedureTree} {toks rest : Toks} → IsProcedure x toks rest → Writes (procedure_kinds x) toks rest
procedure_tokens (is_procedure {b = b} {h = h} {c = c} ps o es d) =
    token (token (token (token (onto (body_kinds (body_nodes b)) (ending_kinds (handler_node h) c)
    (both (both (both (within_tokens param_kinds param_tokens ps) (clause_tokens (λ o. in_parens (mode_kinds o)) result_tokens o)) (clause_tokens (λ ns. in_parens (names_kinds ns)) exceptions_tokens es)) last)
    (block_tokens d)))))

process_tokens : {x : ProcessTree} {toks rest : Toks} → IsProcess x toks rest → Writes (process_kinds x) toks rest
process_tokens (is_process {b = b} {h = h} {c = c} ps d) =
    token (token (token (token (onto (body_kinds (body_nodes b)) (ending_kinds (handler_node h) c) (both (within_tokens formal_kinds formal_tokens ps) last) (block_tokens d)))))

kind_tokens : {k : ModulionKind} {toks rest : Toks} → IsKind k toks rest → Writes (word_kinds (kind_word k)) toks rest
kind_tokens is_module = last
kind_tokens is_region = last

items_flat : (is : List ItemTree) → flat_map item_kinds is ≡ items_kinds (item_nodes is)
items_flat [] = refl
items_flat (i ∷ is) = ap (λ ks. item_kinds i ++ ks) (items_flat is)

mutual
  item_tokens : {i : ItemTree} {toks rest : Toks} → IsItem i toks rest → Writes (item_kinds i) toks rest
  item_tokens (is_seize d) = token (both (passed_tokens d) last)
  item_tokens (is_grant d) = token (both (passed_tokens d) last)
  item_tokens (is_local_item d) = local_tokens d
  item_tokens (are_signals d) = token (both (listed_tokens signal_kinds signal_tokens d).writes last)
  item_tokens (is_procedure_item d) = procedure_tokens d
  item_tokens (is_process_item d) = process_tokens d
  item_tokens (is_modulion_item d) = modulion_tokens d
  item_tokens (is_action d) = statement_tokens d

  items_tokens : {is : List ItemTree} {toks rest : Toks} → AreItems is toks rest → Writes (flat_map item_kinds is) toks rest
  items_tokens no_items = many_none item_kinds
  items_tokens (then_item {is = is} {i = i} l d) = many_and item_kinds is i (items_tokens l) (item_tokens d)

  modulion_tokens : {x : ModulionTree} {toks rest : Toks} → IsModulion x toks rest → Writes (modulion_kinds x) toks rest
  modulion_tokens (is_modulion {is = is} k d h c) =
      token (token (both (both (kind_tokens k) (as_kinds (items_flat is) (items_tokens d))) (token (both (both (handler_tokens h) (closing_tokens c)) last))))

modulions_flat : (xs : List ModulionTree) → flat_map modulion_kinds xs ≡ modulions_kinds xs
modulions_flat [] = refl
modulions_flat (x ∷ xs) = ap (λ ks. modulion_kinds x ++ ks) (modulions_flat xs)

modulions_tokens : {xs : List ModulionTree} {toks rest : Toks} → AreModulions xs toks rest → Writes (flat_map modulion_kinds xs) toks rest
modulions_tokens no_modulions = many_none modulion_kinds
modulions_tokens (then_modulion {xs = xs} {x = x} l d) = many_and modulion_kinds xs x (modulions_tokens l) (modulion_tokens d)

-- tokens that have a tree are of the tree's kinds
pub tokens_are : {toks : Toks} {x : ProgramTree} → IsTreeOf toks x → token_kinds toks ≡ tokens_of_tree x
tokens_are (is_tree {xs = xs} d some) = (as_kinds (modulions_flat xs) (modulions_tokens d)).by ∙ append-nil (modulions_kinds xs)
