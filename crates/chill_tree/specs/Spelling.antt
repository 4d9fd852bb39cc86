-- How words and signs are spelled (Z.200, chapter on the lexical elements).
use Rattle.std.specs.Prelude.{◌≡◌, ℕ, ◌+◌, ◌-◌, ◌*◌, ◌/◌, ◌%◌, Bool, ◌||◌, ◌⊎◌, List, [], ◌∷◌, length, slice_index, Option, map, codes}
use Rattle.std.specs.List.{find}
use Rattle.std.specs.Str.{bytes_eq}
use Rattle.chill_tree.specs.declared.token.Word.{Word}
use Rattle.chill_tree.specs.declared.token.Word.TheVariants as words
use Rattle.chill_tree.specs.declared.token.Sign.{Sign}
use Rattle.chill_tree.specs.declared.token.Sign.TheVariants as signs

-- each word in upper case
abbrev pub word_spelling : Word → List ℕ
word_spelling words.All = codes "ALL"
word_spelling words.And = codes "AND"
word_spelling words.AndIf = codes "ANDIF"
word_spelling words.Array = codes "ARRAY"
word_spelling words.Assert = codes "ASSERT"
word_spelling words.Begin = codes "BEGIN"
word_spelling words.Buffer = codes "BUFFER"
word_spelling words.By = codes "BY"
word_spelling words.Call = codes "CALL"
word_spelling words.Case = codes "CASE"
word_spelling words.Cause = codes "CAUSE"
word_spelling words.Chars = codes "CHARS"
word_spelling words.Continue = codes "CONTINUE"
word_spelling words.Dcl = codes "DCL"
word_spelling words.Delay = codes "DELAY"
word_spelling words.Do = codes "DO"
word_spelling words.Down = codes "DOWN"
word_spelling words.Else = codes "ELSE"
word_spelling words.ElsIf = codes "ELSIF"
word_spelling words.End = codes "END"
word_spelling words.Esac = codes "ESAC"
word_spelling words.Event = codes "EVENT"
word_spelling words.Ever = codes "EVER"
word_spelling words.Exceptions = codes "EXCEPTIONS"
word_spelling words.Exit = codes "EXIT"
word_spelling words.Fi = codes "FI"
word_spelling words.For = codes "FOR"
word_spelling words.Grant = codes "GRANT"
word_spelling words.If = codes "IF"
word_spelling words.In = codes "IN"
word_spelling words.Init = codes "INIT"
word_spelling words.InOut = codes "INOUT"
word_spelling words.Mod = codes "MOD"
word_spelling words.Module = codes "MODULE"
word_spelling words.NewMode = codes "NEWMODE"
word_spelling words.NoPack = codes "NOPACK"
word_spelling words.Not = codes "NOT"
word_spelling words.Od = codes "OD"
word_spelling words.Of = codes "OF"
word_spelling words.On = codes "ON"
word_spelling words.Or = codes "OR"
word_spelling words.OrIf = codes "ORIF"
word_spelling words.Out = codes "OUT"
word_spelling words.Pack = codes "PACK"
word_spelling words.Pos = codes "POS"
word_spelling words.Powerset = codes "POWERSET"
word_spelling words.Priority = codes "PRIORITY"
word_spelling words.Proc = codes "PROC"
word_spelling words.Process = codes "PROCESS"
word_spelling words.Read = codes "READ"
word_spelling words.Receive = codes "RECEIVE"
word_spelling words.Region = codes "REGION"
word_spelling words.Rem = codes "REM"
word_spelling words.Result = codes "RESULT"
word_spelling words.Return = codes "RETURN"
word_spelling words.Returns = codes "RETURNS"
word_spelling words.Seize = codes "SEIZE"
word_spelling words.Send = codes "SEND"
word_spelling words.Set = codes "SET"
word_spelling words.Signal = codes "SIGNAL"
word_spelling words.Start = codes "START"
word_spelling words.Step = codes "STEP"
word_spelling words.Stop = codes "STOP"
word_spelling words.Struct = codes "STRUCT"
word_spelling words.Syn = codes "SYN"
word_spelling words.SynMode = codes "SYNMODE"
word_spelling words.Then = codes "THEN"
word_spelling words.This = codes "THIS"
word_spelling words.To = codes "TO"
word_spelling words.While = codes "WHILE"
word_spelling words.Xor = codes "XOR"

-- each sign
abbrev pub sign_spelling : Sign → List ℕ
sign_spelling signs.Open = codes "("
sign_spelling signs.Close = codes ")"
sign_spelling signs.OpenBracket = codes "["
sign_spelling signs.CloseBracket = codes "]"
sign_spelling signs.Comma = codes ","
sign_spelling signs.Semicolon = codes ";"
sign_spelling signs.Colon = codes ":"
sign_spelling signs.Becomes = codes ":="
sign_spelling signs.Dot = codes "."
sign_spelling signs.Plus = codes "+"
sign_spelling signs.Minus = codes "-"
sign_spelling signs.Times = codes "*"
sign_spelling signs.Divide = codes "/"
sign_spelling signs.Equal = codes "="
sign_spelling signs.NotEqual = codes "/="
sign_spelling signs.Less = codes "<"
sign_spelling signs.LessOrEqual = codes "<="
sign_spelling signs.Greater = codes ">"
sign_spelling signs.GreaterOrEqual = codes ">="

-- letters in upper case, written in lower case
abbrev pub lower_case : List ℕ → List ℕ
lower_case letters = map (λ letter. letter + 32) letters

-- the bytes are the word, all in upper or all in lower case
abbrev pub IsSpelled : Word → List ℕ → Type 0
IsSpelled word bytes = (bytes ≡ word_spelling word) ⊎ (bytes ≡ lower_case (word_spelling word))

-- whether they are
abbrev pub is_spelled : List ℕ → Word → Bool
is_spelled bytes word = bytes_eq bytes (word_spelling word) || bytes_eq bytes (lower_case (word_spelling word))

-- every word
unfoldable pub all_words : List Word
all_words =
    words.All ∷ words.And ∷ words.AndIf ∷ words.Array ∷ words.Assert ∷ words.Begin ∷ words.Buffer ∷
    words.By ∷ words.Call ∷ words.Case ∷ words.Cause ∷ words.Chars ∷ words.Continue ∷ words.Dcl ∷
    words.Delay ∷ words.Do ∷ words.Down ∷ words.Else ∷ words.ElsIf ∷ words.End ∷ words.Esac ∷
    words.Event ∷ words.Ever ∷ words.Exceptions ∷ words.Exit ∷ words.Fi ∷ words.For ∷ words.Grant ∷
    words.If ∷ words.In ∷ words.Init ∷ words.InOut ∷ words.Mod ∷ words.Module ∷ words.NewMode ∷
    words.NoPack ∷ words.Not ∷ words.Od ∷ words.Of ∷ words.On ∷ words.Or ∷ words.OrIf ∷ words.Out ∷
    words.Pack ∷ words.Pos ∷ words.Powerset ∷ words.Priority ∷ words.Proc ∷ words.Process ∷ words.Read ∷
    words.Receive ∷ words.Region ∷ words.Rem ∷ words.Result ∷ words.Return ∷ words.Returns ∷ words.Seize
    ∷ words.Send ∷ words.Set ∷ words.Signal ∷ words.Start ∷ words.Step ∷ words.Stop ∷ words.Struct ∷
    words.Syn ∷ words.SynMode ∷ words.Then ∷ words.This ∷ words.To ∷ words.While ∷ words.Xor ∷ []

-- the reserved word that the bytes spell, if any
unfoldable pub word_of : List ℕ → Option Word
word_of bytes = find (is_spelled bytes) all_words

-- a number below 256 for bytes, the same in upper and in lower case: no two words have the same
abbrev pub place_of : List ℕ → ℕ
place_of bytes =
    (31 * (slice_index bytes 0 % 32) + 21 * (slice_index bytes (length bytes / 2) % 32) + slice_index bytes (length bytes - 1) % 32 + 5 * (length bytes % 32)) % 256
