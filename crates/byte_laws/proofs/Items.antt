-- The characters and the text literals at the nodes of a text of bytes are bytes.
use Rattle.std.proofs.Common.{true, ℕ, List, [], ◌∷◌, ◌++◌, Option, Some, None, subst}
use Rattle.std.specs.Prelude.{map, flat_map}
use Rattle.chill_tree.specs.declared.tree.name.Name.{Name}
use Rattle.chill_tree.specs.declared.tree.item.ModulionKind.{ModulionKind}
use Rattle.chill_tree.specs.ModeTree as written
use Rattle.chill_tree.specs.StatementTree.{BodyTree, HandlerTree, handler_node, body_nodes}
use Rattle.chill_tree.specs.ItemTree.{SignalTree, ProcedureTree, ProcessTree, ItemTree, seize, grant, local_item, signals, procedure, process, modulion, action, ItemNodes, no_items, more_items, ModulionTree, modulion_item, ProgramTree}
use Rattle.rules_model.specs.Diagnoses.{HasTree}
use Rattle.rules_model.specs.TreeTokens.{given, name_kinds, with_commas, in_parens, sign_kinds, word_kinds, mode_kinds, names_kinds, handler_kinds, body_kinds, param_kinds, formal_kinds, ending_kinds, procedure_kinds, process_kinds, item_kinds, items_kinds, modulion_kinds, modulions_kinds, kind_word}
use Rattle.chill_tree.specs.declared.token.Word.TheVariants as words
use Rattle.chill_tree.specs.declared.token.Sign.TheVariants as signs
use Rattle.checks_model.specs.Sites.{Around, in_procedure, in_no_procedure, at_mode, at_body, sites_of_modes, sites_of_result, sites_of_body, sites_of_procedure, sites_of_process, sites_of_parts, sites_of_handler, sites_of_item, sites_of_items, locals_of_body, sites}
use Rattle.tree_print.proofs.TreeTokensItem.{tokens_are}
use Rattle.written_laws.specs.Written.{Each}
use Rattle.byte_laws.specs.Bytes.{IsByte, HasByteExprs}
use Rattle.byte_laws.proofs.Tokens.{Fine, pieces, tokens_bytes}
use Rattle.byte_laws.proofs.Exprs.{of_local}
use Rattle.byte_laws.proofs.Statements.{Bytes, joined_bytes, of_statement, of_handler, of_parts}

mode_sites : {A : Type 0} (f : A → written.ModeTree) (xs : List A) → Bytes (map (λ x. at_mode (f x)) xs)
mode_sites f [] = tt
mode_sites f (x ∷ xs) = (tt, mode_sites f xs)

result_sites : (m : Option written.ModeTree) → Bytes (sites_of_result m)
result_sites None = tt
result_sites (Some m) = (tt, tt)

modes_sites : (ms : Option (List written.ModeTree)) → Bytes (sites_of_modes ms)
modes_sites None = tt
modes_sites (Some ms) = mode_sites (λ m. m) ms

signals_sites : (ss : List SignalTree) → Bytes (flat_map (λ s. sites_of_modes s.parts) ss)
signals_sites [] = tt
signals_sites (s ∷ ss) = joined_bytes (sites_of_modes s.parts) (flat_map (λ s. sites_of_modes s.parts) ss) (modes_sites s.parts) (signals_sites ss)

of_body : (a : Around) (ps : List BodyTree) (h : Option HandlerTree) (closing : Option Name) → Fine (body_kinds (body_nodes ps)) → Fine (ending_kinds (handler_node h) closing) → Bytes (sites_of_body a ps h)
of_body a ps h closing body ending =
    let p = pieces (word_kinds words.End) (handler_kinds (handler_node h) ∷ given name_kinds closing ∷ sign_kinds signs.Semicolon ∷ []) ending in
    joined_bytes (sites_of_parts a (body_nodes ps)) (sites_of_handler a (handler_node h)) (of_parts a (body_nodes ps) body) (of_handler a (handler_node h) p.1.0)

of_procedure : (p : ProcedureTree) → Fine (procedure_kinds p) → Bytes (sites_of_procedure p)
of_procedure p fine =
    let q = pieces (name_kinds p.name) (sign_kinds signs.Colon ∷ word_kinds words.Proc ∷ in_parens (with_commas param_kinds p.params) ∷ given (λ m. word_kinds words.Returns ++ in_parens (mode_kinds m)) p.returns ∷ given (λ ns. word_kinds words.Exceptions ++ in_parens (names_kinds ns)) p.exceptions ∷ sign_kinds signs.Semicolon ∷ body_kinds (body_nodes p.body) ∷ ending_kinds (handler_node p.handler) p.closing ∷ []) fine in
    let more = q.1.1.1.1.1.1.1 in
    let all = flat_map (λ r. r.names) p.params ++ locals_of_body p.body p.handler in
    joined_bytes (map (λ r. at_mode r.mode) p.params ++ sites_of_result p.returns) (at_body (Some p.name) all ∷ sites_of_body (in_procedure p) p.body p.handler)
    (joined_bytes (map (λ r. at_mode r.mode) p.params) (sites_of_result p.returns) (mode_sites (λ r. r.mode) p.params) (result_sites p.returns))
    (tt, of_body (in_procedure p) p.body p.handler p.closing more.0 more.1.0)

of_process : (p : ProcessTree) → Fine (process_kinds p) → Bytes (sites_of_process p)
of_process p fine =
    let q = pieces (name_kinds p.name) (sign_kinds signs.Colon ∷ word_kinds words.Process ∷ in_parens (with_commas formal_kinds p.formals) ∷ sign_kinds signs.Semicolon ∷ body_kinds (body_nodes p.body) ∷ ending_kinds (handler_node p.handler) p.closing ∷ []) fine in
    let more = q.1.1.1.1.1 in
    let all = flat_map (λ r. r.names) p.formals ++ locals_of_body p.body p.handler in
    joined_bytes (map (λ r. at_mode r.mode) p.formals) (at_body (Some p.name) all ∷ sites_of_body in_no_procedure p.body p.handler) (mode_sites (λ r. r.mode) p.formals)
    (tt, of_body in_no_procedure p.body p.handler p.closing more.0 more.1.0)

mutual
  of_item : (i : ItemTree) → Fine (item_kinds i) → Bytes (sites_of_item i)
  of_item (seize at passed) fine = tt
  of_item (grant at passed) fine = tt
  of_item (local_item l) fine = of_local true l fine
  of_item (signals at ss) fine = signals_sites ss
  of_item (procedure p) fine = of_procedure p fine
  of_item (process p) fine = of_process p fine
  of_item (modulion n k is h c) fine =
      let p = pieces (name_kinds n) (sign_kinds signs.Colon ∷ word_kinds (kind_word k) ∷ items_kinds is ∷ ending_kinds (handler_node h) c ∷ []) fine in
      let q = pieces (word_kinds words.End) (handler_kinds (handler_node h) ∷ given name_kinds c ∷ sign_kinds signs.Semicolon ∷ []) p.1.1.1.1.0 in
      joined_bytes (sites_of_items k is is) (sites_of_handler in_no_procedure (handler_node h)) (of_items k is is p.1.1.1.0) (of_handler in_no_procedure (handler_node h) q.1.0)
  of_item (action s) fine = of_statement in_no_procedure s fine

  of_items : (k : ModulionKind) (all is : ItemNodes) → Fine (items_kinds is) → Bytes (sites_of_items k all is)
  of_items k all no_items fine = tt
  of_items k all (more_items i is) fine = let p = pieces (item_kinds i) (items_kinds is ∷ []) fine in (tt, joined_bytes (sites_of_item i) (sites_of_items k all is) (of_item i p.0) (of_items k all is p.1.0))

of_modulions : (ms : List ModulionTree) → Fine (modulions_kinds ms) → Bytes (flat_map sites_of_item (map modulion_item ms))
of_modulions [] fine = tt
of_modulions (m ∷ ms) fine =
    let p = pieces (modulion_kinds m) (modulions_kinds ms ∷ []) fine in
    joined_bytes (sites_of_item (modulion_item m)) (flat_map sites_of_item (map modulion_item ms)) (of_item (modulion_item m) p.0) (of_modulions ms p.1.0)

pub tree_bytes : (text : List ℕ) (t : ProgramTree) → Each IsByte text → HasTree text t → Each HasByteExprs (sites t)
tree_bytes text t each has = (tt, (tt, of_modulions t.modulions (subst Fine (tokens_are has.tree_of) (tokens_bytes text has.tokens has.are each))))
