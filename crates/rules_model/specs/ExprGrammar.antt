-- The grammar of expressions: which tokens, up to which rest, are which tree.
use Rattle.std.specs.Prelude.{◌≡◌, ℕ, suc, ◌<◌, Bool, true, false, List, [], ◌∷◌, ◌++◌, Option, Some, None}
use Rattle.chill_base.specs.declared.pos.Pos.{Pos}
use Rattle.chill_tree.specs.declared.token.Word.TheVariants as words
use Rattle.chill_tree.specs.declared.token.Sign.TheVariants as signs
use Rattle.chill_tree.specs.declared.token.TokenKind.{TokenKind}
use Rattle.chill_tree.specs.declared.token.TokenKind.TheVariants as kinds
use Rattle.chill_tree.specs.declared.tree.name.Name.{Name}
use Rattle.chill_tree.specs.declared.tree.expr.Operator.{Operator}
use Rattle.chill_tree.specs.declared.tree.expr.Prefix.TheVariants as prefixes
use Rattle.chill_tree.specs.ExprTree.{ExprTree, whole, character, text, this_instance, paren, receive, start, tuple, uniform, name, apply, field, prefixed, binary, RangeTree, alone, between, no_exprs, more_exprs, expr_nodes, range_nodes, place_of}
use Rattle.rules_model.specs.Marks.{Toks, tok, sign, word, name_token, operator_of, rank_of}

-- what stands before the parts of a tuple: a mode's name or none, and the bracket at a place
pub data IsTupleHead : Option Name → Pos → Toks → Toks → Type 0 where
  bare : {b : Pos} {rest : Toks} → IsTupleHead None b (sign b signs.OpenBracket ∷ rest) rest
  of_mode : {n : Name} {b : Pos} {rest : Toks} → IsTupleHead (Some n) b (name_token n ∷ sign b signs.OpenBracket ∷ rest) rest

-- the place of a tuple's first token
abbrev pub tuple_place : Option Name → Pos → Pos
tuple_place None b = b
tuple_place (Some n) b = n.at

mutual
  -- name {"(" [args] ")" | "." name}, with so many parts, at most 32
  pub data IsNamed : ℕ → ExprTree → Toks → Toks → Type 0 where
    a_name : {n : Name} {rest : Toks} → IsNamed 0 (name n) (name_token n ∷ rest) rest
    with_args : {k : ℕ} {e : ExprTree} {es : List ExprTree} {p : Pos} {toks m rest : Toks} → IsNamed k e toks (sign p signs.Open ∷ m) → AreArgs es m rest → k < 32 → IsNamed (suc k) (apply (place_of e) e (expr_nodes es)) toks rest
    with_field : {k : ℕ} {e : ExprTree} {n : Name} {p : Pos} {toks rest : Toks} → IsNamed k e toks (sign p signs.Dot ∷ name_token n ∷ rest) → k < 32 → IsNamed (suc k) (field (place_of e) e n) toks rest

  -- [args] ")"
  pub data AreArgs : List ExprTree → Toks → Toks → Type 0 where
    no_args : {p : Pos} {rest : Toks} → AreArgs [] (sign p signs.Close ∷ rest) rest
    some_args : {es : List ExprTree} {p : Pos} {toks rest : Toks} → AreExprs es toks (sign p signs.Close ∷ rest) → AreArgs es toks rest

  -- args = expr {"," expr}
  pub data AreExprs : List ExprTree → Toks → Toks → Type 0 where
    one_expr : {e : ExprTree} {toks rest : Toks} → IsRanked 5 e toks rest → AreExprs (e ∷ []) toks rest
    and_expr : {es : List ExprTree} {e : ExprTree} {p : Pos} {toks m rest : Toks} → AreExprs es toks (sign p signs.Comma ∷ m) → IsRanked 5 e m rest → AreExprs (es ++ e ∷ []) toks rest

  -- part = expr [":" expr]
  pub data IsRange : RangeTree → Toks → Toks → Type 0 where
    is_alone : {e : ExprTree} {toks rest : Toks} → IsRanked 5 e toks rest → IsRange (alone e) toks rest
    is_between : {e f : ExprTree} {p : Pos} {toks m rest : Toks} → IsRanked 5 e toks (sign p signs.Colon ∷ m) → IsRanked 5 f m rest → IsRange (between e f) toks rest

  -- part {"," part}
  pub data AreRanges : List RangeTree → Toks → Toks → Type 0 where
    one_range : {r : RangeTree} {toks rest : Toks} → IsRange r toks rest → AreRanges (r ∷ []) toks rest
    and_range : {rs : List RangeTree} {r : RangeTree} {p : Pos} {toks m rest : Toks} → AreRanges rs toks (sign p signs.Comma ∷ m) → IsRange r m rest → AreRanges (rs ++ r ∷ []) toks rest

  -- [part {"," part}] "]"
  pub data AreParts : List RangeTree → Toks → Toks → Type 0 where
    no_parts : {p : Pos} {rest : Toks} → AreParts [] (sign p signs.CloseBracket ∷ rest) rest
    some_parts : {rs : List RangeTree} {p : Pos} {toks rest : Toks} → AreRanges rs toks (sign p signs.CloseBracket ∷ rest) → AreParts rs toks rest

  -- e6
  pub data IsOperand : ExprTree → Toks → Toks → Type 0 where
    is_whole : {at : Pos} {n : ℕ} {rest : Toks} → IsOperand (whole at n) (tok at (kinds.Whole n) ∷ rest) rest
    is_character : {at : Pos} {n : ℕ} {rest : Toks} → IsOperand (character at n) (tok at (kinds.Char n) ∷ rest) rest
    is_text : {at : Pos} {s : List ℕ} {rest : Toks} → IsOperand (text at s) (tok at (kinds.Text s) ∷ rest) rest
    is_this : {at : Pos} {rest : Toks} → IsOperand (this_instance at) (word at words.This ∷ rest) rest
    is_paren : {at p : Pos} {e : ExprTree} {m rest : Toks} → IsRanked 5 e m (sign p signs.Close ∷ rest) → IsOperand (paren at e) (sign at signs.Open ∷ m) rest
    is_receive : {at : Pos} {n : Name} {rest : Toks} → IsOperand (receive at n) (word at words.Receive ∷ name_token n ∷ rest) rest
    is_start : {at p : Pos} {n : Name} {es : List ExprTree} {m rest : Toks} → AreArgs es m rest → IsOperand (start at n (expr_nodes es)) (word at words.Start ∷ name_token n ∷ sign p signs.Open ∷ m) rest
    is_tuple : {b : Pos} {mode : Option Name} {rs : List RangeTree} {toks m rest : Toks} → IsTupleHead mode b toks m → AreParts rs m rest → IsOperand (tuple (tuple_place mode b) mode b (range_nodes rs)) toks rest
    is_uniform : {b p q r s t : Pos} {mode : Option Name} {e : ExprTree} {toks m rest : Toks} → IsTupleHead mode b toks (sign p signs.Open ∷ sign q signs.Times ∷ sign r signs.Close ∷ sign s signs.Colon ∷ m) → IsRanked 5 e m (sign t signs.CloseBracket ∷ rest) → IsOperand (uniform (tuple_place mode b) mode b e) toks rest
    is_named : {k : ℕ} {e : ExprTree} {toks rest : Toks} → IsNamed k e toks rest → IsOperand e toks rest

  -- e5 where the rank is 0, then e4, e3, e2, e1 and expr
  pub data IsRanked : ℕ → ExprTree → Toks → Toks → Type 0 where
    is_plain : {e : ExprTree} {toks rest : Toks} → IsOperand e toks rest → IsRanked 0 e toks rest
    is_minus : {at : Pos} {e : ExprTree} {m rest : Toks} → IsOperand e m rest → IsRanked 0 (prefixed at prefixes.Minus e) (sign at signs.Minus ∷ m) rest
    is_not : {at : Pos} {e : ExprTree} {m rest : Toks} → IsOperand e m rest → IsRanked 0 (prefixed at prefixes.Not e) (word at words.Not ∷ m) rest
    is_chain : {r k : ℕ} {e : ExprTree} {toks rest : Toks} → IsChain r k e toks rest → IsRanked (suc r) e toks rest

  -- operands of a rank with so many operators of the next between them, at most 32
  pub data IsChain : ℕ → ℕ → ExprTree → Toks → Toks → Type 0 where
    first : {r : ℕ} {e : ExprTree} {toks rest : Toks} → IsRanked r e toks rest → IsChain r 0 e toks rest
    turn : {r k : ℕ} {l e : ExprTree} {o : Operator} {p : Pos} {kind : TokenKind} {toks m rest : Toks} → IsChain r k l toks (tok p kind ∷ m) → operator_of kind ≡ Some o → rank_of o ≡ suc r → IsRanked r e m rest → k < 32 → IsChain r (suc k) (binary (place_of l) l o p e) toks rest

-- expr
abbrev pub IsExpr : ExprTree → Toks → Toks → Type 0
IsExpr e toks rest = IsRanked 5 e toks rest

-- whether a name with parts has one expression in each pair of brackets
abbrev pub is_location : ExprTree → Bool
is_location (name n) = true
is_location (field at e n) = is_location e
is_location (apply at e (more_exprs i no_exprs)) = is_location e
is_location _ = false

-- loc = name {"(" expr ")" | "." name}
pub data IsLocation : ExprTree → Toks → Toks → Type 0 where
  is_loc : {k : ℕ} {e : ExprTree} {toks rest : Toks} → IsNamed k e toks rest → is_location e ≡ true → IsLocation e toks rest
