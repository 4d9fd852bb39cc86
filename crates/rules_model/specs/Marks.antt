-- What stands at the front of a list of tokens.
use Rattle.std.specs.Prelude.{ℕ, ◌==◌, Bool, true, false, List, [], ◌∷◌, Option, Some, None}
use Rattle.chill_base.specs.declared.pos.Pos.{Pos}
use Rattle.chill_tree.specs.declared.token.Word.{Word}
use Rattle.chill_tree.specs.declared.token.Word.TheVariants as words
use Rattle.chill_tree.specs.declared.token.Sign.{Sign}
use Rattle.chill_tree.specs.declared.token.Sign.TheVariants as signs
use Rattle.chill_tree.specs.declared.token.Token.{Token}
use Rattle.chill_tree.specs.declared.token.TokenKind.{TokenKind}
use Rattle.chill_tree.specs.declared.token.TokenKind.TheVariants as kinds
use Rattle.chill_tree.specs.declared.tree.name.Name.{Name}
use Rattle.chill_tree.specs.declared.tree.expr.Operator.{Operator}
use Rattle.chill_tree.specs.declared.tree.expr.Operator.TheVariants as operators

-- a list of tokens
abbrev pub Toks : Type 0
Toks = List Token

-- a token of a kind at a place
abbrev pub tok : Pos → TokenKind → Token
tok at k = record { at = at; kind = k }

-- a sign, a word and a name at their places
abbrev pub sign : Pos → Sign → Token
sign at s = tok at (kinds.Sign s)

abbrev pub word : Pos → Word → Token
word at w = tok at (kinds.Word w)

abbrev pub name_token : Name → Token
name_token n = tok n.at (kinds.Name n.text)

-- signs and words by number, so that they can be compared
abbrev pub sign_code : Sign → ℕ
sign_code signs.Open = 0
sign_code signs.Close = 1
sign_code signs.OpenBracket = 2
sign_code signs.CloseBracket = 3
sign_code signs.Comma = 4
sign_code signs.Semicolon = 5
sign_code signs.Colon = 6
sign_code signs.Becomes = 7
sign_code signs.Dot = 8
sign_code signs.Plus = 9
sign_code signs.Minus = 10
sign_code signs.Times = 11
sign_code signs.Divide = 12
sign_code signs.Equal = 13
sign_code signs.NotEqual = 14
sign_code signs.Less = 15
sign_code signs.LessOrEqual = 16
sign_code signs.Greater = 17
sign_code signs.GreaterOrEqual = 18

abbrev pub word_code : Word → ℕ
word_code words.All = 0
word_code words.And = 1
word_code words.AndIf = 2
word_code words.Array = 3
word_code words.Assert = 4
word_code words.Begin = 5
word_code words.Buffer = 6
word_code words.By = 7
word_code words.Call = 8
word_code words.Case = 9
word_code words.Cause = 10
word_code words.Chars = 11
word_code words.Continue = 12
word_code words.Dcl = 13
word_code words.Delay = 14
word_code words.Do = 15
word_code words.Down = 16
word_code words.Else = 17
word_code words.ElsIf = 18
word_code words.End = 19
word_code words.Esac = 20
word_code words.Event = 21
word_code words.Ever = 22
word_code words.Exceptions = 23
word_code words.Exit = 24
word_code words.Fi = 25
word_code words.For = 26
word_code words.Grant = 27
word_code words.If = 28
word_code words.In = 29
word_code words.Init = 30
word_code words.InOut = 31
word_code words.Mod = 32
word_code words.Module = 33
word_code words.NewMode = 34
word_code words.NoPack = 35
word_code words.Not = 36
word_code words.Od = 37
word_code words.Of = 38
word_code words.On = 39
word_code words.Or = 40
word_code words.OrIf = 41
word_code words.Out = 42
word_code words.Pack = 43
word_code words.Pos = 44
word_code words.Powerset = 45
word_code words.Priority = 46
word_code words.Proc = 47
word_code words.Process = 48
word_code words.Read = 49
word_code words.Receive = 50
word_code words.Region = 51
word_code words.Rem = 52
word_code words.Result = 53
word_code words.Return = 54
word_code words.Returns = 55
word_code words.Seize = 56
word_code words.Send = 57
word_code words.Set = 58
word_code words.Signal = 59
word_code words.Start = 60
word_code words.Step = 61
word_code words.Stop = 62
word_code words.Struct = 63
word_code words.Syn = 64
word_code words.SynMode = 65
word_code words.Then = 66
word_code words.This = 67
word_code words.To = 68
word_code words.While = 69
word_code words.Xor = 70

-- whether a token is this sign
abbrev pub is_sign : Sign → TokenKind → Bool
is_sign s (kinds.Sign t) = sign_code s == sign_code t
is_sign s (kinds.Word w) = false
is_sign s (kinds.Name n) = false
is_sign s (kinds.Whole n) = false
is_sign s (kinds.Char n) = false
is_sign s (kinds.Text n) = false

-- whether a token is this word
abbrev pub is_word : Word → TokenKind → Bool
is_word w (kinds.Word v) = word_code w == word_code v
is_word w (kinds.Sign s) = false
is_word w (kinds.Name n) = false
is_word w (kinds.Whole n) = false
is_word w (kinds.Char n) = false
is_word w (kinds.Text n) = false

-- whether the sign stands at the front
abbrev pub begins : Sign → Toks → Bool
begins s [] = false
begins s (t ∷ rest) = is_sign s t.kind

-- whether the word stands at the front
abbrev pub begins_with : Word → Toks → Bool
begins_with w [] = false
begins_with w (t ∷ rest) = is_word w t.kind

-- whether a token is a name
abbrev pub is_name : TokenKind → Bool
is_name (kinds.Name n) = true
is_name _ = false

-- whether a name stands at the front
abbrev pub begins_name : Toks → Bool
begins_name [] = false
begins_name (t ∷ rest) = is_name t.kind

-- the tokens behind the first
abbrev pub behind : Toks → Toks
behind [] = []
behind (t ∷ rest) = rest

-- the place of the first token, or none at the end
abbrev pub front : Toks → Option Pos
front [] = None
front (t ∷ rest) = Some t.at

-- the operator between two operands that a token is
abbrev pub operator_of : TokenKind → Option Operator
operator_of (kinds.Word words.Or) = Some operators.Or
operator_of (kinds.Word words.Xor) = Some operators.Xor
operator_of (kinds.Word words.OrIf) = Some operators.OrIf
operator_of (kinds.Word words.And) = Some operators.And
operator_of (kinds.Word words.AndIf) = Some operators.AndIf
operator_of (kinds.Word words.In) = Some operators.In
operator_of (kinds.Word words.Mod) = Some operators.Mod
operator_of (kinds.Word words.Rem) = Some operators.Rem
operator_of (kinds.Sign signs.Equal) = Some operators.Equal
operator_of (kinds.Sign signs.NotEqual) = Some operators.NotEqual
operator_of (kinds.Sign signs.Less) = Some operators.Less
operator_of (kinds.Sign signs.LessOrEqual) = Some operators.LessOrEqual
operator_of (kinds.Sign signs.Greater) = Some operators.Greater
operator_of (kinds.Sign signs.GreaterOrEqual) = Some operators.GreaterOrEqual
operator_of (kinds.Sign signs.Plus) = Some operators.Plus
operator_of (kinds.Sign signs.Minus) = Some operators.Minus
operator_of (kinds.Sign signs.Times) = Some operators.Times
operator_of (kinds.Sign signs.Divide) = Some operators.Divide
operator_of _ = None

-- how loosely an operator binds: 5 the loosest
abbrev pub rank_of : Operator → ℕ
rank_of operators.Or = 5
rank_of operators.Xor = 5
rank_of operators.OrIf = 5
rank_of operators.And = 4
rank_of operators.AndIf = 4
rank_of operators.Equal = 3
rank_of operators.NotEqual = 3
rank_of operators.Less = 3
rank_of operators.LessOrEqual = 3
rank_of operators.Greater = 3
rank_of operators.GreaterOrEqual = 3
rank_of operators.In = 3
rank_of operators.Plus = 2
rank_of operators.Minus = 2
rank_of operators.Times = 1
rank_of operators.Divide = 1
rank_of operators.Mod = 1
rank_of operators.Rem = 1

-- whether an operator may stand before the sign of an assignment
abbrev pub may_update : Operator → Bool
may_update operators.Or = true
may_update operators.Xor = true
may_update operators.And = true
may_update operators.Plus = true
may_update operators.Minus = true
may_update operators.Times = true
may_update operators.Divide = true
may_update operators.Mod = true
may_update operators.Rem = true
may_update operators.OrIf = false
may_update operators.AndIf = false
may_update operators.Equal = false
may_update operators.NotEqual = false
may_update operators.Less = false
may_update operators.LessOrEqual = false
may_update operators.Greater = false
may_update operators.GreaterOrEqual = false
may_update operators.In = false

-- whether an expression may begin with the token
abbrev pub starts_expr : TokenKind → Bool
starts_expr (kinds.Whole n) = true
starts_expr (kinds.Char n) = true
starts_expr (kinds.Text n) = true
starts_expr (kinds.Name n) = true
starts_expr (kinds.Word words.This) = true
starts_expr (kinds.Word words.Receive) = true
starts_expr (kinds.Word words.Start) = true
starts_expr (kinds.Word words.Not) = true
starts_expr (kinds.Sign signs.Open) = true
starts_expr (kinds.Sign signs.OpenBracket) = true
starts_expr (kinds.Sign signs.Minus) = true
starts_expr _ = false

abbrev pub begins_expr : Toks → Bool
begins_expr [] = false
begins_expr (t ∷ rest) = starts_expr t.kind
