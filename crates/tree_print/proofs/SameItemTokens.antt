-- Programs that are the same but for places have the same tokens.
use Rattle.std.proofs.Common.{◌≡◌, List, [], ◌∷◌, ◌++◌, map, Option, Some, None, refl, ap, sym, ◌∙◌}
use Rattle.std.specs.Prelude.{option_map}
use Rattle.chill_tree.specs.declared.token.Word.{Word}
use Rattle.chill_tree.specs.declared.token.Word.TheVariants as words
use Rattle.chill_tree.specs.declared.token.Sign.TheVariants as signs
use Rattle.chill_tree.specs.declared.tree.name.Name.{Name}
use Rattle.chill_tree.specs.declared.tree.item.Passed.{Passed}
use Rattle.chill_tree.specs.declared.tree.item.Passed.TheVariants as passes
use Rattle.chill_tree.specs.ExprTree.{ExprTree}
use Rattle.chill_tree.specs.ModeTree.{ModeTree}
use Rattle.chill_tree.specs.SimpleTree.{SimpleTree, assign, update, call_of, exit, return_with, result_of, assert_that, cause, stop, start_of, delay, continue_event, send, ControlTree, while_holds, for_ever, for_members, for_steps}
use Rattle.chill_tree.specs.StatementTree.{StatementTree, empty, simple, bracketed, BracketedTree, if_then, case_of, do_loop, begin_end, delay_case, receive_case, StatementNodes, no_statements, more_statements, ElsIfNodes, no_branches, more_branches, CaseNodes, no_cases, more_cases, NamedNodes, no_named, more_named, ReceiveNodes, no_receives, more_receives, OtherwiseNode, no_otherwise, otherwise, HandlerNode, no_handler, handler, BodyNodes, no_parts, more_locals, more_actions, HandlerTree, handler_node, BodyTree, body_nodes}
use Rattle.chill_tree.specs.ItemTree.{SignalTree, ParamTree, ProcedureTree, FormalTree, ProcessTree, ItemTree, seize, grant, local_item, signals, procedure, process, modulion, action, ItemNodes, no_items, more_items, item_nodes, ModulionTree, ProgramTree}
use Rattle.rules_model.specs.TreeTokens.{word_kinds, sign_kinds, name_kinds, given, with_commas, in_parens, names_kinds, operator_kind, expr_kinds, range_kinds, mode_kinds, flag_kinds, clause_kinds, control_kinds, args_kinds, simple_kinds, delay_head_kinds, receive_head_kinds, label_kinds, statement_kinds, bracketed_kinds, statements_kinds, branches_kinds, cases_kinds, named_alternatives_kinds, receives_kinds, otherwise_kinds, handler_kinds, body_kinds, passed_kinds, signal_kinds, passing_kinds, param_kinds, formal_kinds, ending_kinds, procedure_kinds, process_kinds, kind_word, item_kinds, items_kinds, modulion_kinds, modulions_kinds, tokens_of_tree}
use Rattle.tree_print.specs.SameTree.{unplaced_name, unplaced_expr, unplaced_range, unplaced_mode, unplaced_control, unplaced_simple, unplaced_statement, unplaced_bracketed, unplaced_statements, unplaced_branches, unplaced_cases, unplaced_named, unplaced_receives, unplaced_otherwise, unplaced_handler, unplaced_body, unplaced_handler_tree, unplaced_part, unplaced_passed, unplaced_signal, unplaced_param, unplaced_formal, unplaced_procedure, unplaced_process, unplaced_item, unplaced_items, unplaced_modulion, unplaced_program, IsSameTree}
use Rattle.tree_print.proofs.SameTokensStatement.{handler_held, body_held}
use Rattle.tree_print.proofs.SameTokensItem.{items_held}
use Rattle.tree_print.proofs.SameTreeTokens.{given_alike, commas_alike, names_alike, label_alike, expr_alike, range_alike, mode_alike, local_alike}

-- ---- actions that hold no other

clause_alike : (w : Word) (e : Option ExprTree) → clause_kinds w (option_map unplaced_expr e) ≡ clause_kinds w e
clause_alike w = given_alike (λ e. word_kinds w ++ expr_kinds e) unplaced_expr (λ e i. word_kinds w ++ expr_alike e i)

control_alike : (c : ControlTree) → control_kinds (unplaced_control c) ≡ control_kinds c
control_alike (while_holds at e) = λ i. word_kinds words.While ++ expr_alike e i
control_alike (for_ever at) = refl
control_alike (for_members at n e c) = λ i. word_kinds words.For ++ name_kinds n ++ word_kinds words.In ++ expr_alike e i ++ clause_alike words.While c i
control_alike (for_steps at n e b d f c) =
    λ i. word_kinds words.For ++ name_kinds n ++ sign_kinds signs.Becomes ++ expr_alike e i ++ clause_alike words.By b i ++ flag_kinds words.Down d ++ word_kinds words.To ++ expr_alike f i ++ clause_alike words.While c i

args_alike : (es : List ExprTree) → args_kinds (map unplaced_expr es) ≡ args_kinds es
args_alike es = λ i. in_parens (commas_alike expr_kinds unplaced_expr expr_alike es i)

simple_alike : (a : SimpleTree) → simple_kinds (unplaced_simple a) ≡ simple_kinds a
simple_alike (assign at t v) = λ i. expr_alike t i ++ sign_kinds signs.Becomes ++ expr_alike v i
simple_alike (update at t o p v) = λ i. expr_alike t i ++ operator_kind o ∷ sign_kinds signs.Becomes ++ expr_alike v i
simple_alike (call_of at c n es) = λ i. flag_kinds words.Call c ++ name_kinds n ++ args_alike es i
simple_alike (exit at n) = refl
simple_alike (return_with at v) = λ i. word_kinds words.Return ++ given_alike expr_kinds unplaced_expr expr_alike v i
simple_alike (result_of at v) = λ i. word_kinds words.Result ++ expr_alike v i
simple_alike (assert_that at v) = λ i. word_kinds words.Assert ++ expr_alike v i
simple_alike (cause at n) = refl
simple_alike (stop at) = refl
simple_alike (start_of at n es) = λ i. word_kinds words.Start ++ name_kinds n ++ args_alike es i
simple_alike (delay at n c) = λ i. word_kinds words.Delay ++ name_kinds n ++ clause_alike words.Priority c i
simple_alike (continue_event at n) = refl
simple_alike (send at n es t c) = λ i. word_kinds words.Send ++ name_kinds n ++ given_alike args_kinds (map unplaced_expr) args_alike es i ++ clause_alike words.To t i ++ clause_alike words.Priority c i

-- ---- statements

delay_head_alike : (l c : Option ExprTree) → delay_head_kinds (option_map unplaced_expr l) (option_map unplaced_expr c) ≡ delay_head_kinds l c
delay_head_alike None None = refl
delay_head_alike None (Some e) = λ i. word_kinds words.Priority ++ expr_alike e i ++ sign_kinds signs.Semicolon
delay_head_alike (Some l) c = λ i. word_kinds words.Set ++ expr_alike l i ++ clause_alike words.Priority c i ++ sign_kinds signs.Semicolon

receive_head_alike : (l : Option ExprTree) → receive_head_kinds (option_map unplaced_expr l) ≡ receive_head_kinds l
receive_head_alike = given_alike (λ l. word_kinds words.Set ++ expr_kinds l ++ sign_kinds signs.Semicolon) unplaced_expr (λ l i. word_kinds words.Set ++ expr_alike l i ++ sign_kinds signs.Semicolon)

before_alike : (n : Option Name) → label_kinds (option_map unplaced_name n) ≡ label_kinds n
before_alike = given_alike (λ n. name_kinds n ++ sign_kinds signs.Colon) unplaced_name (λ n. refl)

received_alike : (ns : Option (List Name)) → given (λ xs. word_kinds words.In ++ names_kinds xs) (option_map (map unplaced_name) ns) ≡ given (λ xs. word_kinds words.In ++ names_kinds xs) ns
received_alike = given_alike (λ xs. word_kinds words.In ++ names_kinds xs) (map unplaced_name) (λ xs i. word_kinds words.In ++ names_alike xs i)

mutual
  statement_alike : (s : StatementTree) → statement_kinds (unplaced_statement s) ≡ statement_kinds s
  statement_alike (empty at) = refl
  statement_alike (simple at a h) = λ i. simple_alike a i ++ handler_alike h i ++ sign_kinds signs.Semicolon
  statement_alike (bracketed at l b h c) = λ i. before_alike l i ++ bracketed_alike b i ++ handler_alike h i ++ label_alike c i ++ sign_kinds signs.Semicolon

  bracketed_alike : (b : BracketedTree) → bracketed_kinds (unplaced_bracketed b) ≡ bracketed_kinds b
  bracketed_alike (if_then at e ss bs o) = λ i. word_kinds words.If ++ expr_alike e i ++ word_kinds words.Then ++ statements_alike ss i ++ branches_alike bs i ++ otherwise_alike o i ++ word_kinds words.Fi
  bracketed_alike (case_of at e cs o) = λ i. word_kinds words.Case ++ expr_alike e i ++ word_kinds words.Of ++ cases_alike cs i ++ otherwise_alike o i ++ word_kinds words.Esac
  bracketed_alike (do_loop at c ss) = λ i. word_kinds words.Do ++ control_alike c i ++ sign_kinds signs.Semicolon ++ statements_alike ss i ++ word_kinds words.Od
  bracketed_alike (begin_end at ps) = λ i. word_kinds words.Begin ++ body_alike ps i ++ word_kinds words.End
  bracketed_alike (delay_case at l c ns) = λ i. word_kinds words.Delay ++ word_kinds words.Case ++ delay_head_alike l c i ++ named_alike ns i ++ word_kinds words.Esac
  bracketed_alike (receive_case at l rs o) = λ i. word_kinds words.Receive ++ word_kinds words.Case ++ receive_head_alike l i ++ receives_alike rs i ++ otherwise_alike o i ++ word_kinds words.Esac

  statements_alike : (ss : StatementNodes) → statements_kinds (unplaced_statements ss) ≡ statements_kinds ss
  statements_alike no_statements = refl
  statements_alike (more_statements s ss) = λ i. statement_alike s i ++ statements_alike ss i

  branches_alike : (bs : ElsIfNodes) → branches_kinds (unplaced_branches bs) ≡ branches_kinds bs
  branches_alike no_branches = refl
  branches_alike (more_branches at e ss bs) = λ i. word_kinds words.ElsIf ++ expr_alike e i ++ word_kinds words.Then ++ statements_alike ss i ++ branches_alike bs i

  cases_alike : (cs : CaseNodes) → cases_kinds (unplaced_cases cs) ≡ cases_kinds cs
  cases_alike no_cases = refl
  cases_alike (more_cases at ls ss cs) = λ i. in_parens (commas_alike range_kinds unplaced_range range_alike ls i) ++ sign_kinds signs.Colon ++ statements_alike ss i ++ cases_alike cs i

  named_alike : (ns : NamedNodes) → named_alternatives_kinds (unplaced_named ns) ≡ named_alternatives_kinds ns
  named_alike no_named = refl
  named_alike (more_named at ns ss cs) = λ i. in_parens (names_alike ns i) ++ sign_kinds signs.Colon ++ statements_alike ss i ++ named_alike cs i

  receives_alike : (rs : ReceiveNodes) → receives_kinds (unplaced_receives rs) ≡ receives_kinds rs
  receives_alike no_receives = refl
  receives_alike (more_receives at n ns ss cs) = λ i. in_parens (name_kinds n ++ received_alike ns i) ++ sign_kinds signs.Colon ++ statements_alike ss i ++ receives_alike cs i

  otherwise_alike : (o : OtherwiseNode) → otherwise_kinds (unplaced_otherwise o) ≡ otherwise_kinds o
  otherwise_alike no_otherwise = refl
  otherwise_alike (otherwise ss) = λ i. word_kinds words.Else ++ statements_alike ss i

  handler_alike : (h : HandlerNode) → handler_kinds (unplaced_handler h) ≡ handler_kinds h
  handler_alike no_handler = refl
  handler_alike (handler at ns o) = λ i. word_kinds words.On ++ named_alike ns i ++ otherwise_alike o i ++ word_kinds words.End

  body_alike : (ps : BodyNodes) → body_kinds (unplaced_body ps) ≡ body_kinds ps
  body_alike no_parts = refl
  body_alike (more_locals l ps) = λ i. local_alike l i ++ body_alike ps i
  body_alike (more_actions s ps) = λ i. statement_alike s i ++ body_alike ps i

-- ---- items

-- handlers and bodies as items hold them
held_handler_alike : (h : Option HandlerTree) → handler_kinds (handler_node (option_map unplaced_handler_tree h)) ≡ handler_kinds (handler_node h)
held_handler_alike h = ap handler_kinds (sym (handler_held h)) ∙ handler_alike (handler_node h)

held_body_alike : (ps : List BodyTree) → body_kinds (body_nodes (map unplaced_part ps)) ≡ body_kinds (body_nodes ps)
held_body_alike ps = ap body_kinds (sym (body_held ps)) ∙ body_alike (body_nodes ps)

ending_alike : (h : Option HandlerTree) (c : Option Name) → ending_kinds (handler_node (option_map unplaced_handler_tree h)) (option_map unplaced_name c) ≡ ending_kinds (handler_node h) c
ending_alike h c = λ i. word_kinds words.End ++ held_handler_alike h i ++ label_alike c i ++ sign_kinds signs.Semicolon

passed_alike : (x : Passed) → passed_kinds (unplaced_passed x) ≡ passed_kinds x
passed_alike (passes.Names ns) = names_alike ns
passed_alike (passes.All at) = refl

parts_alike : (ms : List ModeTree) → sign_kinds signs.Equal ++ in_parens (with_commas mode_kinds (map unplaced_mode ms)) ≡ sign_kinds signs.Equal ++ in_parens (with_commas mode_kinds ms)
parts_alike ms = λ i. sign_kinds signs.Equal ++ in_parens (commas_alike mode_kinds unplaced_mode mode_alike ms i)

signal_alike : (x : SignalTree) → signal_kinds (unplaced_signal x) ≡ signal_kinds x
signal_alike x = λ i. name_kinds x.name ++ given_alike (λ ms. sign_kinds signs.Equal ++ in_parens (with_commas mode_kinds ms)) (map unplaced_mode) parts_alike x.parts i ++ given_alike (λ n. word_kinds words.To ++ name_kinds n) unplaced_name (λ n. refl) x.process i

param_alike : (x : ParamTree) → param_kinds (unplaced_param x) ≡ param_kinds x
param_alike x = λ i. names_alike x.names i ++ mode_alike x.mode i ++ given passing_kinds x.passing

formal_alike : (x : FormalTree) → formal_kinds (unplaced_formal x) ≡ formal_kinds x
formal_alike x = λ i. names_alike x.names i ++ mode_alike x.mode i

procedure_alike : (x : ProcedureTree) → procedure_kinds (unplaced_procedure x) ≡ procedure_kinds x
procedure_alike x =
    λ i. name_kinds x.name ++ sign_kinds signs.Colon ++ word_kinds words.Proc ++ in_parens (commas_alike param_kinds unplaced_param param_alike x.params i) ++ given_alike (λ m. word_kinds words.Returns ++ in_parens (mode_kinds m)) unplaced_mode (λ m j. word_kinds words.Returns ++ in_parens (mode_alike m j)) x.returns i ++ given_alike (λ ns. word_kinds words.Exceptions ++ in_parens (names_kinds ns)) (map unplaced_name) (λ ns j. word_kinds words.Exceptions ++ in_parens (names_alike ns j)) x.exceptions i ++ sign_kinds signs.Semicolon ++ held_body_alike x.body i ++ ending_alike x.handler x.closing i

process_alike : (x : ProcessTree) → process_kinds (unplaced_process x) ≡ process_kinds x
process_alike x = λ i. name_kinds x.name ++ sign_kinds signs.Colon ++ word_kinds words.Process ++ in_parens (commas_alike formal_kinds unplaced_formal formal_alike x.formals i) ++ sign_kinds signs.Semicolon ++ held_body_alike x.body i ++ ending_alike x.handler x.closing i

mutual
  item_alike : (x : ItemTree) → item_kinds (unplaced_item x) ≡ item_kinds x
  item_alike (seize at p) = λ i. word_kinds words.Seize ++ passed_alike p i ++ sign_kinds signs.Semicolon
  item_alike (grant at p) = λ i. word_kinds words.Grant ++ passed_alike p i ++ sign_kinds signs.Semicolon
  item_alike (local_item l) = local_alike l
  item_alike (signals at xs) = λ i. word_kinds words.Signal ++ commas_alike signal_kinds unplaced_signal signal_alike xs i ++ sign_kinds signs.Semicolon
  item_alike (procedure x) = procedure_alike x
  item_alike (process x) = process_alike x
  item_alike (modulion n k is h c) = λ i. name_kinds n ++ sign_kinds signs.Colon ++ word_kinds (kind_word k) ++ items_alike is i ++ ending_alike h c i
  item_alike (action s) = statement_alike s

  items_alike : (is : ItemNodes) → items_kinds (unplaced_items is) ≡ items_kinds is
  items_alike no_items = refl
  items_alike (more_items x is) = λ i. item_alike x i ++ items_alike is i

held_items_alike : (is : List ItemTree) → items_kinds (item_nodes (map unplaced_item is)) ≡ items_kinds (item_nodes is)
held_items_alike is = ap items_kinds (sym (items_held is)) ∙ items_alike (item_nodes is)

modulion_alike : (x : ModulionTree) → modulion_kinds (unplaced_modulion x) ≡ modulion_kinds x
modulion_alike x = λ i. name_kinds x.name ++ sign_kinds signs.Colon ++ word_kinds (kind_word x.kind) ++ held_items_alike x.items i ++ ending_alike x.handler x.closing i

modulions_alike : (xs : List ModulionTree) → modulions_kinds (map unplaced_modulion xs) ≡ modulions_kinds xs
modulions_alike [] = refl
modulions_alike (x ∷ xs) = λ i. modulion_alike x i ++ modulions_alike xs i

program_alike : (x : ProgramTree) → tokens_of_tree (unplaced_program x) ≡ tokens_of_tree x
program_alike x = modulions_alike x.modulions

-- trees that are the same but for places have the same tokens
pub same_tree_tokens : (x y : ProgramTree) → IsSameTree x y → tokens_of_tree x ≡ tokens_of_tree y
same_tree_tokens x y e = sym (program_alike x) ∙ ap tokens_of_tree e ∙ program_alike y
