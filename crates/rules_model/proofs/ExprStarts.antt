-- How expressions begin, and that each takes a token.
use Rattle.std.proofs.Common.{◌≡◌, ℕ, ◌+◌, ◌<◌, ◌≤◌, true, false, List, [], ◌∷◌, length, Option, refl, arith, length-append}
use Rattle.chill_base.specs.declared.pos.Pos.{Pos}
use Rattle.chill_tree.specs.declared.token.Word.TheVariants as words
use Rattle.chill_tree.specs.declared.token.Sign.TheVariants as signs
use Rattle.chill_tree.specs.declared.token.TokenKind.{TokenKind}
use Rattle.chill_tree.specs.declared.token.TokenKind.TheVariants as kinds
use Rattle.chill_tree.specs.declared.tree.name.Name.{Name}
use Rattle.chill_tree.specs.ExprTree.{ExprTree, RangeTree}
use Rattle.rules_model.specs.Marks.{Toks, tok, name_token, begins, begins_with, starts_expr, begins_expr}
use Rattle.rules_model.specs.ExprGrammar.{IsTupleHead, bare, of_mode, IsNamed, a_name, with_args, with_field, AreArgs, no_args, some_args, AreExprs, one_expr, and_expr, IsRange, is_alone, is_between, AreRanges, one_range, and_range, AreParts, no_parts, some_parts, IsOperand, is_whole, is_character, is_text, is_this, is_paren, is_receive, is_start, is_tuple, is_uniform, is_named, IsRanked, is_plain, is_minus, is_not, is_chain, IsChain, first, turn, IsLocation, is_loc}
use Rattle.rules_model.specs.ExprReading.{begins_uniform}

head_shrinks : {o : Option Name} {b : Pos} {toks rest : Toks} → IsTupleHead o b toks rest → length rest < length toks
head_shrinks bare = omega arith
head_shrinks of_mode = omega arith

mutual
  pub named_shrinks : {k : ℕ} {e : ExprTree} {toks rest : Toks} → IsNamed k e toks rest → length rest < length toks
  named_shrinks a_name = omega arith
  named_shrinks (with_args d a lt) = omega (arith, named_shrinks d, args_shrink a)
  named_shrinks (with_field d lt) = omega (arith, named_shrinks d)

  pub args_shrink : {es : List ExprTree} {toks rest : Toks} → AreArgs es toks rest → length rest < length toks
  args_shrink no_args = omega arith
  args_shrink (some_args d) = omega (arith, exprs_shrink d)

  pub exprs_shrink : {es : List ExprTree} {toks rest : Toks} → AreExprs es toks rest → length es + length rest ≤ length toks
  exprs_shrink (one_expr d) = omega (arith, ranked_shrinks d)
  exprs_shrink (and_expr {es = es} {e = e} l d) = omega (arith, exprs_shrink l, ranked_shrinks d, length-append es (e ∷ []))

  pub range_shrinks : {r : RangeTree} {toks rest : Toks} → IsRange r toks rest → length rest < length toks
  range_shrinks (is_alone d) = ranked_shrinks d
  range_shrinks (is_between d f) = omega (arith, ranked_shrinks d, ranked_shrinks f)

  pub ranges_shrink : {rs : List RangeTree} {toks rest : Toks} → AreRanges rs toks rest → length rs + length rest ≤ length toks
  ranges_shrink (one_range d) = omega (arith, range_shrinks d)
  ranges_shrink (and_range {rs = rs} {r = r} l d) = omega (arith, ranges_shrink l, range_shrinks d, length-append rs (r ∷ []))

  pub parts_shrink : {rs : List RangeTree} {toks rest : Toks} → AreParts rs toks rest → length rest < length toks
  parts_shrink no_parts = omega arith
  parts_shrink (some_parts d) = omega (arith, ranges_shrink d)

  pub operand_shrinks : {e : ExprTree} {toks rest : Toks} → IsOperand e toks rest → length rest < length toks
  operand_shrinks is_whole = omega arith
  operand_shrinks is_character = omega arith
  operand_shrinks is_text = omega arith
  operand_shrinks is_this = omega arith
  operand_shrinks (is_paren d) = omega (arith, ranked_shrinks d)
  operand_shrinks is_receive = omega arith
  operand_shrinks (is_start d) = omega (arith, args_shrink d)
  operand_shrinks (is_tuple h d) = omega (arith, head_shrinks h, parts_shrink d)
  operand_shrinks (is_uniform h d) = omega (arith, head_shrinks h, ranked_shrinks d)
  operand_shrinks (is_named d) = named_shrinks d

  pub ranked_shrinks : {r : ℕ} {e : ExprTree} {toks rest : Toks} → IsRanked r e toks rest → length rest < length toks
  ranked_shrinks (is_plain d) = operand_shrinks d
  ranked_shrinks (is_minus d) = omega (arith, operand_shrinks d)
  ranked_shrinks (is_not d) = omega (arith, operand_shrinks d)
  ranked_shrinks (is_chain d) = chain_shrinks d

  pub chain_shrinks : {r k : ℕ} {e : ExprTree} {toks rest : Toks} → IsChain r k e toks rest → length rest < length toks
  chain_shrinks (first d) = ranked_shrinks d
  chain_shrinks (turn l e1 e2 d lt) = omega (arith, chain_shrinks l, ranked_shrinks d)

pub location_shrinks : {e : ExprTree} {toks rest : Toks} → IsLocation e toks rest → length rest < length toks
location_shrinks (is_loc d l) = named_shrinks d

-- ---- how they begin

pub named_begins : {k : ℕ} {e : ExprTree} {toks rest : Toks} → IsNamed k e toks rest → begins_expr toks ≡ true
named_begins a_name = refl
named_begins (with_args d a lt) = named_begins d
named_begins (with_field d lt) = named_begins d

head_begins : {o : Option Name} {b : Pos} {toks rest : Toks} → IsTupleHead o b toks rest → begins_expr toks ≡ true
head_begins bare = refl
head_begins of_mode = refl

operand_begins : {e : ExprTree} {toks rest : Toks} → IsOperand e toks rest → begins_expr toks ≡ true
operand_begins is_whole = refl
operand_begins is_character = refl
operand_begins is_text = refl
operand_begins is_this = refl
operand_begins (is_paren d) = refl
operand_begins is_receive = refl
operand_begins (is_start d) = refl
operand_begins (is_tuple h d) = head_begins h
operand_begins (is_uniform h d) = head_begins h
operand_begins (is_named d) = named_begins d

mutual
  pub ranked_begins : {r : ℕ} {e : ExprTree} {toks rest : Toks} → IsRanked r e toks rest → begins_expr toks ≡ true
  ranked_begins (is_plain d) = operand_begins d
  ranked_begins (is_minus d) = refl
  ranked_begins (is_not d) = refl
  ranked_begins (is_chain d) = chain_begins d

  pub chain_begins : {r k : ℕ} {e : ExprTree} {toks rest : Toks} → IsChain r k e toks rest → begins_expr toks ≡ true
  chain_begins (first d) = ranked_begins d
  chain_begins (turn l e1 e2 d lt) = chain_begins l

pub exprs_begin : {es : List ExprTree} {toks rest : Toks} → AreExprs es toks rest → begins_expr toks ≡ true
exprs_begin (one_expr d) = ranked_begins d
exprs_begin (and_expr l d) = exprs_begin l

-- no operand begins with a minus or NOT
pub named_unsigned : {k : ℕ} {e : ExprTree} {toks rest : Toks} → IsNamed k e toks rest → (begins signs.Minus toks ≡ false) × (begins_with words.Not toks ≡ false)
named_unsigned a_name = (refl, refl)
named_unsigned (with_args d a lt) = named_unsigned d
named_unsigned (with_field d lt) = named_unsigned d

head_unsigned : {o : Option Name} {b : Pos} {toks rest : Toks} → IsTupleHead o b toks rest → (begins signs.Minus toks ≡ false) × (begins_with words.Not toks ≡ false)
head_unsigned bare = (refl, refl)
head_unsigned of_mode = (refl, refl)

pub operand_unsigned : {e : ExprTree} {toks rest : Toks} → IsOperand e toks rest → (begins signs.Minus toks ≡ false) × (begins_with words.Not toks ≡ false)
operand_unsigned is_whole = (refl, refl)
operand_unsigned is_character = (refl, refl)
operand_unsigned is_text = (refl, refl)
operand_unsigned is_this = (refl, refl)
operand_unsigned (is_paren d) = (refl, refl)
operand_unsigned is_receive = (refl, refl)
operand_unsigned (is_start d) = (refl, refl)
operand_unsigned (is_tuple h d) = head_unsigned h
operand_unsigned (is_uniform h d) = head_unsigned h
operand_unsigned (is_named d) = named_unsigned d

-- what begins no expression
pub record NoEnd (toks : Toks) : Type 0 where
  pub close : begins signs.Close toks ≡ false
  pub bracket : begins signs.CloseBracket toks ≡ false
  pub times : begins signs.Times toks ≡ false
  pub colon : begins signs.Colon toks ≡ false
  pub semicolon : begins signs.Semicolon toks ≡ false

kind_no_end : (at : Pos) (k : TokenKind) (ts : Toks) → starts_expr k ≡ true → NoEnd (tok at k ∷ ts)
kind_no_end at (kinds.Whole n) ts h = record { close = refl; bracket = refl; times = refl; colon = refl; semicolon = refl }
kind_no_end at (kinds.Char n) ts h = record { close = refl; bracket = refl; times = refl; colon = refl; semicolon = refl }
kind_no_end at (kinds.Text n) ts h = record { close = refl; bracket = refl; times = refl; colon = refl; semicolon = refl }
kind_no_end at (kinds.Name n) ts h = record { close = refl; bracket = refl; times = refl; colon = refl; semicolon = refl }
kind_no_end at (kinds.Word w) ts h = record { close = refl; bracket = refl; times = refl; colon = refl; semicolon = refl }
kind_no_end at (kinds.Sign signs.Open) ts h = record { close = refl; bracket = refl; times = refl; colon = refl; semicolon = refl }
kind_no_end at (kinds.Sign signs.OpenBracket) ts h = record { close = refl; bracket = refl; times = refl; colon = refl; semicolon = refl }
kind_no_end at (kinds.Sign signs.Minus) ts h = record { close = refl; bracket = refl; times = refl; colon = refl; semicolon = refl }
kind_no_end at (kinds.Sign _) ts h = absurd cc

pub no_end : (toks : Toks) → begins_expr toks ≡ true → NoEnd toks
no_end [] h = absurd cc
no_end (t ∷ ts) h = kind_no_end t.at t.kind ts h

-- no part of a tuple begins with "(" and "*"
pub named_uniform : {k : ℕ} {e : ExprTree} {toks rest : Toks} → IsNamed k e toks rest → begins_uniform toks ≡ false
named_uniform a_name = refl
named_uniform (with_args d a lt) = named_uniform d
named_uniform (with_field d lt) = named_uniform d

head_uniform : {o : Option Name} {b : Pos} {toks rest : Toks} → IsTupleHead o b toks rest → begins_uniform toks ≡ false
head_uniform bare = refl
head_uniform of_mode = refl

operand_uniform : {e : ExprTree} {toks rest : Toks} → IsOperand e toks rest → begins_uniform toks ≡ false
operand_uniform is_whole = refl
operand_uniform is_character = refl
operand_uniform is_text = refl
operand_uniform is_this = refl
operand_uniform (is_paren {m = m} d) = (no_end m (ranked_begins d)).times
operand_uniform is_receive = refl
operand_uniform (is_start d) = refl
operand_uniform (is_tuple h d) = head_uniform h
operand_uniform (is_uniform h d) = head_uniform h
operand_uniform (is_named d) = named_uniform d

mutual
  ranked_uniform : {r : ℕ} {e : ExprTree} {toks rest : Toks} → IsRanked r e toks rest → begins_uniform toks ≡ false
  ranked_uniform (is_plain d) = operand_uniform d
  ranked_uniform (is_minus d) = refl
  ranked_uniform (is_not d) = refl
  ranked_uniform (is_chain d) = chain_uniform d

  chain_uniform : {r k : ℕ} {e : ExprTree} {toks rest : Toks} → IsChain r k e toks rest → begins_uniform toks ≡ false
  chain_uniform (first d) = ranked_uniform d
  chain_uniform (turn l e1 e2 d lt) = chain_uniform l

range_begins : {r : RangeTree} {toks rest : Toks} → IsRange r toks rest → (begins_expr toks ≡ true) × (begins_uniform toks ≡ false)
range_begins (is_alone d) = (ranked_begins d, ranked_uniform d)
range_begins (is_between d f) = (ranked_begins d, ranked_uniform d)

pub ranges_begin : {rs : List RangeTree} {toks rest : Toks} → AreRanges rs toks rest → (begins_expr toks ≡ true) × (begins_uniform toks ≡ false)
ranges_begin (one_range d) = range_begins d
ranges_begin (and_range l d) = ranges_begin l

pub parts_uniform : {rs : List RangeTree} {toks rest : Toks} → AreParts rs toks rest → begins_uniform toks ≡ false
parts_uniform no_parts = refl
parts_uniform (some_parts d) = (ranges_begin d).1

pub named_few : {k : ℕ} {e : ExprTree} {toks rest : Toks} → IsNamed k e toks rest → k ≤ 32
named_few a_name = omega arith
named_few (with_args d a lt) = omega (arith, lt)
named_few (with_field d lt) = omega (arith, lt)

pub chain_few : {r k : ℕ} {e : ExprTree} {toks rest : Toks} → IsChain r k e toks rest → k ≤ 32
chain_few (first d) = omega arith
chain_few (turn l e1 e2 d lt) = omega (arith, lt)

-- a name with parts begins with a name, and what follows is what follows the name or begins a part
pub record NameFirst (toks : Toks) : Type 0 where
  pub name : Name
  pub others : Toks
  pub here : toks ≡ name_token name ∷ others
  pub no_bracket : begins signs.OpenBracket others ≡ false
  pub no_colon : begins signs.Colon others ≡ false

pub name_first : {k : ℕ} {e : ExprTree} {toks rest : Toks} → IsNamed k e toks rest → begins signs.OpenBracket rest ≡ false → begins signs.Colon rest ≡ false → NameFirst toks
name_first (a_name {n = n} {rest = rest}) h c = record { name = n; others = rest; here = refl; no_bracket = h; no_colon = c }
name_first (with_args d a lt) h c = name_first d refl refl
name_first (with_field d lt) h c = name_first d refl refl
