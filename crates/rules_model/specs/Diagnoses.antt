-- What is told of a text that has no tree.
use Rattle.std.specs.Prelude.{◌≡◌, ◌⊎◌, ℕ, ◌<◌, ◌≤◌, List, [], length, slice_get, Some, None}
use Rattle.std.specs.declared.option.Option.{Option}
use Rattle.chill_base.specs.declared.pos.Pos.{Pos}
use Rattle.diagnostics.specs.declared.rule.Rule.{Rule}
use Rattle.diagnostics.specs.declared.rule.Rule.TheVariants as rules
use Rattle.diagnostics.specs.declared.diagnostic.Diagnostic.{Diagnostic}
use Rattle.chill_tree.specs.declared.token.Token.{Token}
use Rattle.chill_tree.specs.ItemTree.{ProgramTree}
use Rattle.rules_model.specs.TokensCut.{AreTokensOf, IsBadAt, behind_all, first_place}
use Rattle.rules_model.specs.Nesting.{first_deep}
use Rattle.rules_model.specs.ItemGrammar.{IsTreeOf}

-- a diagnostic of a rule that tells no names
abbrev pub plain : Pos → Rule → Diagnostic
plain at rule = record { at = at; rule = rule; first = []; second = [] }

-- a text has at most 262144 bytes
abbrev pub IsShort : List ℕ → Type 0
IsShort text = length text ≤ 262144

-- no token nests deeper than 64
abbrev pub IsShallow : List Token → Type 0
IsShallow tokens = first_deep 65 tokens ≡ None

-- the place of one of the tokens, or of the text's end
abbrev pub IsPlaceIn : List ℕ → List Token → Pos → Type 0
IsPlaceIn text tokens at = ((k : ℕ) × (token : Token) × (slice_get tokens k ≡ Some token) × (token.at ≡ at)) ⊎ (at ≡ behind_all first_place text)

-- The text has these tokens, they nest no deeper than they may, and they have this tree.
pub record HasTree (text : List ℕ) (tree : ProgramTree) : Type 0 where
  pub tokens : List Token
  pub short : IsShort text
  pub are : AreTokensOf text tokens
  pub shallow : IsShallow tokens
  pub tree_of : IsTreeOf tokens tree

-- What is told of a text without a tree: the first of these rules that it breaks. The place of the last is free.
pub data Diagnoses : List ℕ → Diagnostic → Type 0 where
  -- it is too long
  too_long : {text : List ℕ} → 262144 < length text → Diagnoses text (plain first_place rules.L1)
  -- a byte begins no token
  no_token : {text : List ℕ} {at : Pos} → IsShort text → IsBadAt text at → Diagnoses text (plain at rules.T1)
  -- the nesting reaches 65
  too_deep : {text : List ℕ} {tokens : List Token} {at : Pos} → IsShort text → AreTokensOf text tokens → first_deep 65 tokens ≡ Some at → Diagnoses text (plain at rules.L2)
  -- no tree exists
  no_program : {text : List ℕ} {tokens : List Token} {at : Pos} → IsShort text → AreTokensOf text tokens → IsShallow tokens → ((tree : ProgramTree) → IsTreeOf tokens tree → ⊥) → IsPlaceIn text tokens at
      → Diagnoses text (plain at rules.T2)
