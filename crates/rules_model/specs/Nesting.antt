-- How deep tokens stand in one another.
use Rattle.std.specs.Prelude.{ℕ, zero, suc, ◌<◌, ℤ, pos, ◌-ℤ◌, Bool, true, false, List, [], ◌∷◌, take, count_by, Option, Some, None, if◌then◌else◌}
use Rattle.chill_base.specs.declared.pos.Pos.{Pos}
use Rattle.chill_tree.specs.declared.token.Word.TheVariants as words
use Rattle.chill_tree.specs.declared.token.Sign.TheVariants as signs
use Rattle.chill_tree.specs.declared.token.Token.{Token}
use Rattle.chill_tree.specs.declared.token.TokenKind.{TokenKind}
use Rattle.chill_tree.specs.declared.token.TokenKind.TheVariants as kinds

-- ( [ MODULE REGION PROC PROCESS IF CASE DO BEGIN ON
abbrev pub opens : TokenKind → Bool
opens (kinds.Sign signs.Open) = true
opens (kinds.Sign signs.OpenBracket) = true
opens (kinds.Word words.Module) = true
opens (kinds.Word words.Region) = true
opens (kinds.Word words.Proc) = true
opens (kinds.Word words.Process) = true
opens (kinds.Word words.If) = true
opens (kinds.Word words.Case) = true
opens (kinds.Word words.Do) = true
opens (kinds.Word words.Begin) = true
opens (kinds.Word words.On) = true
opens _ = false

-- ) ] END FI ESAC OD
abbrev pub closes : TokenKind → Bool
closes (kinds.Sign signs.Close) = true
closes (kinds.Sign signs.CloseBracket) = true
closes (kinds.Word words.End) = true
closes (kinds.Word words.Fi) = true
closes (kinds.Word words.Esac) = true
closes (kinds.Word words.Od) = true
closes _ = false

-- the nesting of a list of tokens at its token k, from 0: the opening tokens up to it less the closing ones. It may
-- be negative
abbrev pub nesting_at : List Token → ℕ → ℤ
nesting_at toks k = pos (count_by (λ t. opens t.kind) (take (suc k) toks)) -ℤ pos (count_by (λ t. closes t.kind) (take (suc k) toks))

-- one level less is left behind an opening token, one more behind a closing one
abbrev pub less : ℕ → ℕ
less zero = zero
less (suc n) = n

abbrev pub room_after : TokenKind → ℕ → ℕ
room_after k n = if opens k then less n else if closes k then suc n else n

-- so many levels are enough: at each token at least one is left
abbrev pub StaysBelow : ℕ → List Token → Type 0
StaysBelow n [] = Unit {0}
StaysBelow n (t ∷ ts) = (0 < room_after t.kind n) × StaysBelow (room_after t.kind n) ts

abbrev pub deep_or : ℕ → Pos → Option Pos → Option Pos
deep_or zero p o = Some p
deep_or (suc n) p o = o

-- the place of the first token at which no level of so many is left
abbrev pub first_deep : ℕ → List Token → Option Pos
first_deep n [] = None
first_deep n (t ∷ ts) = deep_or (room_after t.kind n) t.at (first_deep (room_after t.kind n) ts)
