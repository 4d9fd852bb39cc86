-- The tokens of an expression are the expression's.
use Rattle.std.proofs.Common.{◌≡◌, ℕ, List, [], ◌∷◌, ◌++◌, Option, Some, None, refl, ap, sym, ◌∙◌}
use Rattle.chill_base.specs.declared.pos.Pos.{Pos}
use Rattle.chill_tree.specs.declared.token.Sign.{Sign}
use Rattle.chill_tree.specs.declared.token.Sign.TheVariants as signs
use Rattle.chill_tree.specs.declared.token.Word.{Word}
use Rattle.chill_tree.specs.declared.token.Word.TheVariants as words
use Rattle.chill_tree.specs.declared.token.TokenKind.{TokenKind}
use Rattle.chill_tree.specs.declared.token.TokenKind.TheVariants as kinds
use Rattle.chill_tree.specs.declared.tree.name.Name.{Name}
use Rattle.chill_tree.specs.declared.tree.expr.Operator.{Operator}
use Rattle.chill_tree.specs.ExprTree.{ExprTree, expr_nodes, RangeTree, range_nodes}
use Rattle.rules_model.specs.Marks.{Toks, operator_of}
use Rattle.rules_model.specs.ExprGrammar.{IsTupleHead, bare, of_mode, IsNamed, a_name, with_args, with_field, AreArgs, no_args, some_args, AreExprs, one_expr, and_expr, IsRange, is_alone, is_between, AreRanges, one_range, and_range, AreParts, no_parts, some_parts, IsOperand, is_whole, is_character, is_text, is_this, is_paren, is_receive, is_start, is_tuple, is_uniform, is_named, IsRanked, is_plain, is_minus, is_not, is_chain, IsChain, first, turn, IsLocation, is_loc}
use Rattle.rules_model.specs.TreeTokens.{sign_kinds, name_kinds, given, after_commas, with_commas, operator_kind, expr_kinds, exprs_kinds, more_exprs_kinds, range_kinds, ranges_kinds, more_ranges_kinds}
use Rattle.tree_print.proofs.TreeTokens.{Writes, token, token_of, last, both, onto, as_kinds, WritesList, list_one, list_and}

-- ---- the lists of nodes

exprs_after : (es : List ExprTree) → after_commas expr_kinds es ≡ more_exprs_kinds (expr_nodes es)
exprs_after [] = refl
exprs_after (e ∷ es) = ap (λ ks. sign_kinds signs.Comma ++ expr_kinds e ++ ks) (exprs_after es)

pub exprs_listed : (es : List ExprTree) → with_commas expr_kinds es ≡ exprs_kinds (expr_nodes es)
exprs_listed [] = refl
exprs_listed (e ∷ es) = ap (λ ks. expr_kinds e ++ ks) (exprs_after es)

ranges_after : (rs : List RangeTree) → after_commas range_kinds rs ≡ more_ranges_kinds (range_nodes rs)
ranges_after [] = refl
ranges_after (r ∷ rs) = ap (λ ks. sign_kinds signs.Comma ++ range_kinds r ++ ks) (ranges_after rs)

ranges_listed : (rs : List RangeTree) → with_commas range_kinds rs ≡ ranges_kinds (range_nodes rs)
ranges_listed [] = refl
ranges_listed (r ∷ rs) = ap (λ ks. range_kinds r ++ ks) (ranges_after rs)

-- ---- operators

-- nothing where there is no operator
abbrev kind_for : Option Operator → TokenKind → TokenKind
kind_for None k = k
kind_for (Some o) k = operator_kind o

kind_of_word : (w : Word) → kind_for (operator_of (kinds.Word w)) (kinds.Word w) ≡ kinds.Word w
kind_of_word words.Or = refl
kind_of_word words.Xor = refl
kind_of_word words.OrIf = refl
kind_of_word words.And = refl
kind_of_word words.AndIf = refl
kind_of_word words.In = refl
kind_of_word words.Mod = refl
kind_of_word words.Rem = refl
kind_of_word _ = refl

kind_of_sign : (s : Sign) → kind_for (operator_of (kinds.Sign s)) (kinds.Sign s) ≡ kinds.Sign s
kind_of_sign signs.Equal = refl
kind_of_sign signs.NotEqual = refl
kind_of_sign signs.Less = refl
kind_of_sign signs.LessOrEqual = refl
kind_of_sign signs.Greater = refl
kind_of_sign signs.GreaterOrEqual = refl
kind_of_sign signs.Plus = refl
kind_of_sign signs.Minus = refl
kind_of_sign signs.Times = refl
kind_of_sign signs.Divide = refl
kind_of_sign _ = refl

kind_again : (k : TokenKind) → kind_for (operator_of k) k ≡ k
kind_again (kinds.Word w) = kind_of_word w
kind_again (kinds.Sign s) = kind_of_sign s
kind_again (kinds.Name n) = refl
kind_again (kinds.Whole n) = refl
kind_again (kinds.Char n) = refl
kind_again (kinds.Text n) = refl

pub operator_token : (k : TokenKind) (o : Operator) → operator_of k ≡ Some o → k ≡ operator_kind o
operator_token k o e = sym (kind_again k) ∙ ap (λ x. kind_for x k) e

-- ---- expressions

tuple_head_tokens : {mode : Option Name} {b : Pos} {toks rest : Toks} → IsTupleHead mode b toks rest → Writes (given name_kinds mode ++ sign_kinds signs.OpenBracket) toks rest
tuple_head_tokens bare = last
tuple_head_tokens of_mode = token last

mutual
  pub named_tokens : {k : ℕ} {e : ExprTree} {toks rest : Toks} → IsNamed k e toks rest → Writes (expr_kinds e) toks rest
  named_tokens a_name = last
  named_tokens (with_args {es = es} d a lt) = both (named_tokens d) (token (args_tokens a))
  named_tokens (with_field d lt) = both (both (named_tokens d) last) last

  pub args_tokens : {es : List ExprTree} {toks rest : Toks} → AreArgs es toks rest → Writes (exprs_kinds (expr_nodes es) ++ sign_kinds signs.Close) toks rest
  args_tokens no_args = last
  args_tokens (some_args {es = es} d) = both (as_kinds (exprs_listed es) (exprs_tokens d).writes) last

  pub exprs_tokens : {es : List ExprTree} {toks rest : Toks} → AreExprs es toks rest → WritesList expr_kinds es toks rest
  exprs_tokens (one_expr d) = list_one expr_kinds (ranked_tokens d)
  exprs_tokens (and_expr l d) = list_and expr_kinds (exprs_tokens l) (ranked_tokens d)

  pub range_tokens : {r : RangeTree} {toks rest : Toks} → IsRange r toks rest → Writes (range_kinds r) toks rest
  range_tokens (is_alone d) = ranked_tokens d
  range_tokens (is_between d g) = both (both (ranked_tokens d) last) (ranked_tokens g)

  pub ranges_tokens : {rs : List RangeTree} {toks rest : Toks} → AreRanges rs toks rest → WritesList range_kinds rs toks rest
  ranges_tokens (one_range d) = list_one range_kinds (range_tokens d)
  ranges_tokens (and_range l d) = list_and range_kinds (ranges_tokens l) (range_tokens d)

  pub parts_tokens : {rs : List RangeTree} {toks rest : Toks} → AreParts rs toks rest → Writes (ranges_kinds (range_nodes rs) ++ sign_kinds signs.CloseBracket) toks rest
  parts_tokens no_parts = last
  parts_tokens (some_parts {rs = rs} d) = both (as_kinds (ranges_listed rs) (ranges_tokens d).writes) last

  pub operand_tokens : {e : ExprTree} {toks rest : Toks} → IsOperand e toks rest → Writes (expr_kinds e) toks rest
  operand_tokens is_whole = last
  operand_tokens is_character = last
  operand_tokens is_text = last
  operand_tokens is_this = last
  operand_tokens (is_paren d) = token (both (ranked_tokens d) last)
  operand_tokens is_receive = token last
  operand_tokens (is_start d) = token (token (token (args_tokens d)))
  operand_tokens (is_tuple {rs = rs} h d) = onto (ranges_kinds (range_nodes rs)) (sign_kinds signs.CloseBracket) (tuple_head_tokens h) (parts_tokens d)
  operand_tokens (is_uniform h d) = both (both (both (both (tuple_head_tokens h) (token (token last))) last) (ranked_tokens d)) last
  operand_tokens (is_named d) = named_tokens d

  pub ranked_tokens : {r : ℕ} {e : ExprTree} {toks rest : Toks} → IsRanked r e toks rest → Writes (expr_kinds e) toks rest
  ranked_tokens (is_plain d) = operand_tokens d
  ranked_tokens (is_minus d) = token (operand_tokens d)
  ranked_tokens (is_not d) = token (operand_tokens d)
  ranked_tokens (is_chain d) = chain_tokens d

  pub chain_tokens : {r k : ℕ} {e : ExprTree} {toks rest : Toks} → IsChain r k e toks rest → Writes (expr_kinds e) toks rest
  chain_tokens (first d) = ranked_tokens d
  chain_tokens (turn {o = o} {kind = kind} c is rank d lt) = both (chain_tokens c) (token_of (operator_token kind o is) (ranked_tokens d))

pub location_tokens : {e : ExprTree} {toks rest : Toks} → IsLocation e toks rest → Writes (expr_kinds e) toks rest
location_tokens (is_loc d loc) = named_tokens d
