-- The tokens of a tree, without their places.
use Rattle.std.specs.Prelude.{Bool, List, [], ◌∷◌, ◌++◌, Option, Some, None, if◌then◌else◌}
use Rattle.chill_tree.specs.declared.token.Word.{Word}
use Rattle.chill_tree.specs.declared.token.Word.TheVariants as words
use Rattle.chill_tree.specs.declared.token.Sign.{Sign}
use Rattle.chill_tree.specs.declared.token.Sign.TheVariants as signs
use Rattle.chill_tree.specs.declared.token.TokenKind.{TokenKind}
use Rattle.chill_tree.specs.declared.token.TokenKind.TheVariants as kinds
use Rattle.chill_tree.specs.declared.tree.name.Name.{Name}
use Rattle.chill_tree.specs.declared.tree.expr.Operator.{Operator}
use Rattle.chill_tree.specs.declared.tree.expr.Operator.TheVariants as operators
use Rattle.chill_tree.specs.declared.tree.expr.Prefix.{Prefix}
use Rattle.chill_tree.specs.declared.tree.expr.Prefix.TheVariants as prefixes
use Rattle.chill_tree.specs.declared.tree.mode.Packing.{Packing}
use Rattle.chill_tree.specs.declared.tree.mode.Packing.TheVariants as packings
use Rattle.chill_tree.specs.declared.tree.mode.PlaceForm.{PlaceForm}
use Rattle.chill_tree.specs.declared.tree.mode.PlaceForm.TheVariants as forms
use Rattle.chill_tree.specs.declared.tree.item.ModulionKind.{ModulionKind}
use Rattle.chill_tree.specs.declared.tree.item.ModulionKind.TheVariants as modulions
use Rattle.chill_tree.specs.declared.tree.item.Passed.{Passed}
use Rattle.chill_tree.specs.declared.tree.item.Passed.TheVariants as passes
use Rattle.chill_tree.specs.declared.tree.item.Passing.{Passing}
use Rattle.chill_tree.specs.declared.tree.item.Passing.TheVariants as ways
use Rattle.chill_tree.specs.ExprTree.{ExprTree, whole, character, text, this_instance, paren, receive, start, tuple, uniform, name, apply, field, prefixed, binary, ExprNodes, no_exprs, more_exprs, RangeTree, alone, between, RangeNodes, no_ranges, more_ranges}
use Rattle.chill_tree.specs.ModeTree.{DiscreteTree, named, bounded, set_of, IndexTree, index_named, index_bounded, PlaceTree, SpreadTree, by_packing, by_step, BaseTree, discrete, powerset, chars, structure, array, FieldNodes, no_fields, more_fields, ModeTree, base_mode, read_mode, event_mode, buffer_mode}
use Rattle.chill_tree.specs.LocalTree.{SynonymTree, ModeDefinitionTree, InitialTree, DeclarationTree, LocalTree, synonyms, syn_modes, new_modes, locations}
use Rattle.chill_tree.specs.SimpleTree.{SimpleTree, assign, update, call_of, exit, return_with, result_of, assert_that, cause, stop, start_of, delay, continue_event, send, ControlTree, while_holds, for_ever, for_members, for_steps}
use Rattle.chill_tree.specs.StatementTree.{StatementTree, empty, simple, bracketed, BracketedTree, if_then, case_of, do_loop, begin_end, delay_case, receive_case, StatementNodes, no_statements, more_statements, ElsIfNodes, no_branches, more_branches, CaseNodes, no_cases, more_cases, NamedNodes, no_named, more_named, ReceiveNodes, no_receives, more_receives, OtherwiseNode, no_otherwise, otherwise, HandlerNode, no_handler, handler, handler_node, BodyNodes, no_parts, more_locals, more_actions, body_nodes}
use Rattle.chill_tree.specs.ItemTree.{SignalTree, ParamTree, ProcedureTree, FormalTree, ProcessTree, ItemTree, seize, grant, local_item, signals, procedure, process, modulion, action, ItemNodes, no_items, more_items, item_nodes, ModulionTree, ProgramTree}

-- tokens without their places
abbrev pub Kinds : Type 0
Kinds = List TokenKind

-- a word, a sign and a name alone
abbrev pub word_kinds : Word → Kinds
word_kinds x = kinds.Word x ∷ []

abbrev pub sign_kinds : Sign → Kinds
sign_kinds x = kinds.Sign x ∷ []

abbrev pub name_kinds : Name → Kinds
name_kinds n = kinds.Name n.text ∷ []

-- what is there, or nothing
abbrev pub given : {X : Type 0} → (X → Kinds) → Option X → Kinds
given f None = []
given f (Some x) = f x

-- each with a comma before it
abbrev pub after_commas : {X : Type 0} → (X → Kinds) → List X → Kinds
after_commas f [] = []
after_commas f (x ∷ xs) = sign_kinds signs.Comma ++ f x ++ after_commas f xs

-- a list with commas between
abbrev pub with_commas : {X : Type 0} → (X → Kinds) → List X → Kinds
with_commas f [] = []
with_commas f (x ∷ xs) = f x ++ after_commas f xs

-- in parentheses
abbrev pub in_parens : Kinds → Kinds
in_parens ks = sign_kinds signs.Open ++ ks ++ sign_kinds signs.Close

abbrev pub names_kinds : List Name → Kinds
names_kinds = with_commas name_kinds

-- ---- expressions

-- the token of an operator
abbrev pub operator_kind : Operator → TokenKind
operator_kind operators.Or = kinds.Word words.Or
operator_kind operators.Xor = kinds.Word words.Xor
operator_kind operators.OrIf = kinds.Word words.OrIf
operator_kind operators.And = kinds.Word words.And
operator_kind operators.AndIf = kinds.Word words.AndIf
operator_kind operators.Equal = kinds.Sign signs.Equal
operator_kind operators.NotEqual = kinds.Sign signs.NotEqual
operator_kind operators.Less = kinds.Sign signs.Less
operator_kind operators.LessOrEqual = kinds.Sign signs.LessOrEqual
operator_kind operators.Greater = kinds.Sign signs.Greater
operator_kind operators.GreaterOrEqual = kinds.Sign signs.GreaterOrEqual
operator_kind operators.In = kinds.Word words.In
operator_kind operators.Plus = kinds.Sign signs.Plus
operator_kind operators.Minus = kinds.Sign signs.Minus
operator_kind operators.Times = kinds.Sign signs.Times
operator_kind operators.Divide = kinds.Sign signs.Divide
operator_kind operators.Mod = kinds.Word words.Mod
operator_kind operators.Rem = kinds.Word words.Rem

abbrev pub prefix_kinds : Prefix → Kinds
prefix_kinds prefixes.Minus = sign_kinds signs.Minus
prefix_kinds prefixes.Not = word_kinds words.Not

abbrev mutual
  pub expr_kinds : ExprTree → Kinds
  expr_kinds (whole at n) = kinds.Whole n ∷ []
  expr_kinds (character at n) = kinds.Char n ∷ []
  expr_kinds (text at n) = kinds.Text n ∷ []
  expr_kinds (this_instance at) = word_kinds words.This
  expr_kinds (paren at e) = in_parens (expr_kinds e)
  expr_kinds (receive at n) = word_kinds words.Receive ++ name_kinds n
  expr_kinds (start at n es) = word_kinds words.Start ++ name_kinds n ++ in_parens (exprs_kinds es)
  expr_kinds (tuple at m b rs) = given name_kinds m ++ sign_kinds signs.OpenBracket ++ ranges_kinds rs ++ sign_kinds signs.CloseBracket
  expr_kinds (uniform at m b e) = given name_kinds m ++ sign_kinds signs.OpenBracket ++ in_parens (sign_kinds signs.Times) ++ sign_kinds signs.Colon ++ expr_kinds e ++ sign_kinds signs.CloseBracket
  expr_kinds (name n) = name_kinds n
  expr_kinds (apply at e es) = expr_kinds e ++ in_parens (exprs_kinds es)
  expr_kinds (field at e n) = expr_kinds e ++ sign_kinds signs.Dot ++ name_kinds n
  expr_kinds (prefixed at o e) = prefix_kinds o ++ expr_kinds e
  expr_kinds (binary at l o p r) = expr_kinds l ++ operator_kind o ∷ expr_kinds r

  pub exprs_kinds : ExprNodes → Kinds
  exprs_kinds no_exprs = []
  exprs_kinds (more_exprs e es) = expr_kinds e ++ more_exprs_kinds es

  pub more_exprs_kinds : ExprNodes → Kinds
  more_exprs_kinds no_exprs = []
  more_exprs_kinds (more_exprs e es) = sign_kinds signs.Comma ++ expr_kinds e ++ more_exprs_kinds es

  pub range_kinds : RangeTree → Kinds
  range_kinds (alone e) = expr_kinds e
  range_kinds (between e f) = expr_kinds e ++ sign_kinds signs.Colon ++ expr_kinds f

  pub ranges_kinds : RangeNodes → Kinds
  ranges_kinds no_ranges = []
  ranges_kinds (more_ranges r rs) = range_kinds r ++ more_ranges_kinds rs

  pub more_ranges_kinds : RangeNodes → Kinds
  more_ranges_kinds no_ranges = []
  more_ranges_kinds (more_ranges r rs) = sign_kinds signs.Comma ++ range_kinds r ++ more_ranges_kinds rs

-- ---- modes and definitions

abbrev pub length_kinds : Option ExprTree → Kinds
length_kinds = given (λ e. in_parens (expr_kinds e))

abbrev pub discrete_kinds : DiscreteTree → Kinds
discrete_kinds (named n) = name_kinds n
discrete_kinds (bounded n l h) = name_kinds n ++ in_parens (expr_kinds l ++ sign_kinds signs.Colon ++ expr_kinds h)
discrete_kinds (set_of at ns) = word_kinds words.Set ++ in_parens (names_kinds ns)

abbrev pub index_kinds : IndexTree → Kinds
index_kinds (index_named n) = name_kinds n
index_kinds (index_bounded l h) = expr_kinds l ++ sign_kinds signs.Colon ++ expr_kinds h

abbrev pub form_kinds : PlaceForm → Kinds
form_kinds forms.End = sign_kinds signs.Colon
form_kinds forms.Length = sign_kinds signs.Comma

abbrev pub place_kinds : PlaceTree → Kinds
place_kinds p = word_kinds words.Pos ++ in_parens (expr_kinds p.word ++ sign_kinds signs.Comma ++ expr_kinds p.start ++ form_kinds p.form ++ expr_kinds p.bound)

abbrev pub packing_kinds : Packing → Kinds
packing_kinds packings.Pack = word_kinds words.Pack
packing_kinds packings.NoPack = word_kinds words.NoPack

abbrev pub spread_kinds : SpreadTree → Kinds
spread_kinds (by_packing p) = packing_kinds p
spread_kinds (by_step x) = word_kinds words.Step ++ in_parens (place_kinds x.place ++ sign_kinds signs.Comma ++ expr_kinds x.distance)

abbrev mutual
  pub base_kinds : BaseTree → Kinds
  base_kinds (discrete d) = discrete_kinds d
  base_kinds (powerset at d) = word_kinds words.Powerset ++ discrete_kinds d
  base_kinds (chars at e) = word_kinds words.Chars ++ in_parens (expr_kinds e)
  base_kinds (structure at fs p) = word_kinds words.Struct ++ in_parens (fields_kinds fs) ++ given packing_kinds p
  base_kinds (array at i e x) = word_kinds words.Array ++ in_parens (index_kinds i) ++ base_kinds e ++ given spread_kinds x

  pub fields_kinds : FieldNodes → Kinds
  fields_kinds no_fields = []
  fields_kinds (more_fields ns b p fs) = names_kinds ns ++ base_kinds b ++ given place_kinds p ++ more_fields_kinds fs

  pub more_fields_kinds : FieldNodes → Kinds
  more_fields_kinds no_fields = []
  more_fields_kinds (more_fields ns b p fs) = sign_kinds signs.Comma ++ names_kinds ns ++ base_kinds b ++ given place_kinds p ++ more_fields_kinds fs

abbrev pub mode_kinds : ModeTree → Kinds
mode_kinds (base_mode b) = base_kinds b
mode_kinds (read_mode at b) = word_kinds words.Read ++ base_kinds b
mode_kinds (event_mode at l) = word_kinds words.Event ++ length_kinds l
mode_kinds (buffer_mode at l b) = word_kinds words.Buffer ++ length_kinds l ++ base_kinds b

abbrev pub synonym_kinds : SynonymTree → Kinds
synonym_kinds x = names_kinds x.names ++ given mode_kinds x.mode ++ sign_kinds signs.Equal ++ expr_kinds x.value

abbrev pub mode_definition_kinds : ModeDefinitionTree → Kinds
mode_definition_kinds x = name_kinds x.name ++ sign_kinds signs.Equal ++ mode_kinds x.mode

-- a word that stands where the flag is set
abbrev pub flag_kinds : Word → Bool → Kinds
flag_kinds x b = if b then word_kinds x else []

abbrev pub initial_kinds : InitialTree → Kinds
initial_kinds x = flag_kinds words.Init x.init ++ sign_kinds signs.Becomes ++ expr_kinds x.value

abbrev pub declaration_kinds : DeclarationTree → Kinds
declaration_kinds x = names_kinds x.names ++ mode_kinds x.mode ++ given initial_kinds x.initial

abbrev pub local_kinds : LocalTree → Kinds
local_kinds (synonyms at xs) = word_kinds words.Syn ++ with_commas synonym_kinds xs ++ sign_kinds signs.Semicolon
local_kinds (syn_modes at xs) = word_kinds words.SynMode ++ with_commas mode_definition_kinds xs ++ sign_kinds signs.Semicolon
local_kinds (new_modes at xs) = word_kinds words.NewMode ++ with_commas mode_definition_kinds xs ++ sign_kinds signs.Semicolon
local_kinds (locations at xs) = word_kinds words.Dcl ++ with_commas declaration_kinds xs ++ sign_kinds signs.Semicolon

-- ---- actions

-- a word and an expression, if there is one
abbrev pub clause_kinds : Word → Option ExprTree → Kinds
clause_kinds x = given (λ e. word_kinds x ++ expr_kinds e)

abbrev pub control_kinds : ControlTree → Kinds
control_kinds (while_holds at e) = word_kinds words.While ++ expr_kinds e
control_kinds (for_ever at) = word_kinds words.For ++ word_kinds words.Ever
control_kinds (for_members at n e c) = word_kinds words.For ++ name_kinds n ++ word_kinds words.In ++ expr_kinds e ++ clause_kinds words.While c
control_kinds (for_steps at n e b d f c) =
    word_kinds words.For ++ name_kinds n ++ sign_kinds signs.Becomes ++ expr_kinds e ++ clause_kinds words.By b ++ flag_kinds words.Down d ++ word_kinds words.To ++ expr_kinds f ++ clause_kinds words.While c

abbrev pub args_kinds : List ExprTree → Kinds
args_kinds es = in_parens (with_commas expr_kinds es)

abbrev pub simple_kinds : SimpleTree → Kinds
simple_kinds (assign at t v) = expr_kinds t ++ sign_kinds signs.Becomes ++ expr_kinds v
simple_kinds (update at t o p v) = expr_kinds t ++ operator_kind o ∷ sign_kinds signs.Becomes ++ expr_kinds v
simple_kinds (call_of at c n es) = flag_kinds words.Call c ++ name_kinds n ++ args_kinds es
simple_kinds (exit at n) = word_kinds words.Exit ++ name_kinds n
simple_kinds (return_with at v) = word_kinds words.Return ++ given expr_kinds v
simple_kinds (result_of at v) = word_kinds words.Result ++ expr_kinds v
simple_kinds (assert_that at v) = word_kinds words.Assert ++ expr_kinds v
simple_kinds (cause at n) = word_kinds words.Cause ++ name_kinds n
simple_kinds (stop at) = word_kinds words.Stop
simple_kinds (start_of at n es) = word_kinds words.Start ++ name_kinds n ++ args_kinds es
simple_kinds (delay at n c) = word_kinds words.Delay ++ name_kinds n ++ clause_kinds words.Priority c
simple_kinds (continue_event at n) = word_kinds words.Continue ++ name_kinds n
simple_kinds (send at n es t c) = word_kinds words.Send ++ name_kinds n ++ given args_kinds es ++ clause_kinds words.To t ++ clause_kinds words.Priority c

-- ---- statements

-- what a DELAY CASE says before its alternatives
abbrev pub delay_head_kinds : Option ExprTree → Option ExprTree → Kinds
delay_head_kinds None None = []
delay_head_kinds None (Some e) = word_kinds words.Priority ++ expr_kinds e ++ sign_kinds signs.Semicolon
delay_head_kinds (Some l) c = word_kinds words.Set ++ expr_kinds l ++ clause_kinds words.Priority c ++ sign_kinds signs.Semicolon

abbrev pub receive_head_kinds : Option ExprTree → Kinds
receive_head_kinds = given (λ l. word_kinds words.Set ++ expr_kinds l ++ sign_kinds signs.Semicolon)

abbrev pub label_kinds : Option Name → Kinds
label_kinds = given (λ n. name_kinds n ++ sign_kinds signs.Colon)

abbrev mutual
  pub statement_kinds : StatementTree → Kinds
  statement_kinds (empty at) = sign_kinds signs.Semicolon
  statement_kinds (simple at a h) = simple_kinds a ++ handler_kinds h ++ sign_kinds signs.Semicolon
  statement_kinds (bracketed at l b h c) = label_kinds l ++ bracketed_kinds b ++ handler_kinds h ++ given name_kinds c ++ sign_kinds signs.Semicolon

  pub bracketed_kinds : BracketedTree → Kinds
  bracketed_kinds (if_then at e ss bs o) = word_kinds words.If ++ expr_kinds e ++ word_kinds words.Then ++ statements_kinds ss ++ branches_kinds bs ++ otherwise_kinds o ++ word_kinds words.Fi
  bracketed_kinds (case_of at e cs o) = word_kinds words.Case ++ expr_kinds e ++ word_kinds words.Of ++ cases_kinds cs ++ otherwise_kinds o ++ word_kinds words.Esac
  bracketed_kinds (do_loop at c ss) = word_kinds words.Do ++ control_kinds c ++ sign_kinds signs.Semicolon ++ statements_kinds ss ++ word_kinds words.Od
  bracketed_kinds (begin_end at ps) = word_kinds words.Begin ++ body_kinds ps ++ word_kinds words.End
  bracketed_kinds (delay_case at l c ns) = word_kinds words.Delay ++ word_kinds words.Case ++ delay_head_kinds l c ++ named_alternatives_kinds ns ++ word_kinds words.Esac
  bracketed_kinds (receive_case at l rs o) = word_kinds words.Receive ++ word_kinds words.Case ++ receive_head_kinds l ++ receives_kinds rs ++ otherwise_kinds o ++ word_kinds words.Esac

  pub statements_kinds : StatementNodes → Kinds
  statements_kinds no_statements = []
  statements_kinds (more_statements x ss) = statement_kinds x ++ statements_kinds ss

  pub branches_kinds : ElsIfNodes → Kinds
  branches_kinds no_branches = []
  branches_kinds (more_branches at e ss bs) = word_kinds words.ElsIf ++ expr_kinds e ++ word_kinds words.Then ++ statements_kinds ss ++ branches_kinds bs

  pub cases_kinds : CaseNodes → Kinds
  cases_kinds no_cases = []
  cases_kinds (more_cases at ls ss cs) = in_parens (with_commas range_kinds ls) ++ sign_kinds signs.Colon ++ statements_kinds ss ++ cases_kinds cs

  pub named_alternatives_kinds : NamedNodes → Kinds
  named_alternatives_kinds no_named = []
  named_alternatives_kinds (more_named at ns ss cs) = in_parens (names_kinds ns) ++ sign_kinds signs.Colon ++ statements_kinds ss ++ named_alternatives_kinds cs

  pub receives_kinds : ReceiveNodes → Kinds
  receives_kinds no_receives = []
  receives_kinds (more_receives at n ns ss cs) = in_parens (name_kinds n ++ given (λ xs. word_kinds words.In ++ names_kinds xs) ns) ++ sign_kinds signs.Colon ++ statements_kinds ss ++ receives_kinds cs

  pub otherwise_kinds : OtherwiseNode → Kinds
  otherwise_kinds no_otherwise = []
  otherwise_kinds (otherwise ss) = word_kinds words.Else ++ statements_kinds ss

  pub handler_kinds : HandlerNode → Kinds
  handler_kinds no_handler = []
  handler_kinds (handler at ns o) = word_kinds words.On ++ named_alternatives_kinds ns ++ otherwise_kinds o ++ word_kinds words.End

  pub body_kinds : BodyNodes → Kinds
  body_kinds no_parts = []
  body_kinds (more_locals l ps) = local_kinds l ++ body_kinds ps
  body_kinds (more_actions x ps) = statement_kinds x ++ body_kinds ps

-- ---- items

abbrev pub passed_kinds : Passed → Kinds
passed_kinds (passes.Names ns) = names_kinds ns
passed_kinds (passes.All at) = word_kinds words.All

abbrev pub signal_kinds : SignalTree → Kinds
signal_kinds x = name_kinds x.name ++ given (λ ms. sign_kinds signs.Equal ++ in_parens (with_commas mode_kinds ms)) x.parts ++ given (λ n. word_kinds words.To ++ name_kinds n) x.process

abbrev pub passing_kinds : Passing → Kinds
passing_kinds ways.In = word_kinds words.In
passing_kinds ways.Out = word_kinds words.Out
passing_kinds ways.InOut = word_kinds words.InOut

abbrev pub param_kinds : ParamTree → Kinds
param_kinds x = names_kinds x.names ++ mode_kinds x.mode ++ given passing_kinds x.passing

abbrev pub formal_kinds : FormalTree → Kinds
formal_kinds x = names_kinds x.names ++ mode_kinds x.mode

-- END, a handler and the name at the end
abbrev pub ending_kinds : HandlerNode → Option Name → Kinds
ending_kinds h c = word_kinds words.End ++ handler_kinds h ++ given name_kinds c ++ sign_kinds signs.Semicolon

abbrev pub procedure_kinds : ProcedureTree → Kinds
procedure_kinds x =
    name_kinds x.name ++ sign_kinds signs.Colon ++ word_kinds words.Proc ++ in_parens (with_commas param_kinds x.params) ++ given (λ m. word_kinds words.Returns ++ in_parens (mode_kinds m)) x.returns ++ given (λ ns. word_kinds words.Exceptions ++ in_parens (names_kinds ns)) x.exceptions ++ sign_kinds signs.Semicolon ++ body_kinds (body_nodes x.body) ++ ending_kinds (handler_node x.handler) x.closing

abbrev pub process_kinds : ProcessTree → Kinds
process_kinds x = name_kinds x.name ++ sign_kinds signs.Colon ++ word_kinds words.Process ++ in_parens (with_commas formal_kinds x.formals) ++ sign_kinds signs.Semicolon ++ body_kinds (body_nodes x.body) ++ ending_kinds (handler_node x.handler) x.closing

abbrev pub kind_word : ModulionKind → Word
kind_word modulions.Module = words.Module
kind_word modulions.Region = words.Region

abbrev mutual
  pub item_kinds : ItemTree → Kinds
  item_kinds (seize at p) = word_kinds words.Seize ++ passed_kinds p ++ sign_kinds signs.Semicolon
  item_kinds (grant at p) = word_kinds words.Grant ++ passed_kinds p ++ sign_kinds signs.Semicolon
  item_kinds (local_item l) = local_kinds l
  item_kinds (signals at xs) = word_kinds words.Signal ++ with_commas signal_kinds xs ++ sign_kinds signs.Semicolon
  item_kinds (procedure x) = procedure_kinds x
  item_kinds (process x) = process_kinds x
  item_kinds (modulion n k is h c) = name_kinds n ++ sign_kinds signs.Colon ++ word_kinds (kind_word k) ++ items_kinds is ++ ending_kinds (handler_node h) c
  item_kinds (action x) = statement_kinds x

  pub items_kinds : ItemNodes → Kinds
  items_kinds no_items = []
  items_kinds (more_items i is) = item_kinds i ++ items_kinds is

abbrev pub modulion_kinds : ModulionTree → Kinds
modulion_kinds m = name_kinds m.name ++ sign_kinds signs.Colon ++ word_kinds (kind_word m.kind) ++ items_kinds (item_nodes m.items) ++ ending_kinds (handler_node m.handler) m.closing

abbrev pub modulions_kinds : List ModulionTree → Kinds
modulions_kinds [] = []
modulions_kinds (m ∷ ms) = modulion_kinds m ++ modulions_kinds ms

-- the tokens of a program's tree
abbrev pub tokens_of_tree : ProgramTree → Kinds
tokens_of_tree x = modulions_kinds x.modulions
