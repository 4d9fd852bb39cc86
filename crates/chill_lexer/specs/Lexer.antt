-- What the lexer tells of a text that has no tokens.
use Rattle.std.specs.Prelude.{◌≡◌, ℕ, List, []}
use Rattle.chill_base.specs.declared.pos.Pos.{Pos}
use Rattle.diagnostics.specs.declared.diagnostic.Diagnostic.{Diagnostic}
use Rattle.diagnostics.specs.declared.rule.Rule.TheVariants as rules
use Rattle.chill_lexer.specs.declared.lexer.LexRefusal.{LexRefusal}
use Rattle.chill_lexer.specs.declared.lexer.LexRefusal.TheVariants as refusals
use Rattle.rules_model.specs.TokensCut.{IsBadAt}

-- the diagnostic is rule T1 at the place, and gives no names
abbrev pub IsNoToken : Pos → Diagnostic → Type 0
IsNoToken at told = (told.at ≡ at) × (told.rule ≡ rules.T1) × (told.first ≡ []) × (told.second ≡ [])

-- a byte begins no token, first where the diagnostic says; want of memory is free to come
abbrev pub IsRefusal : List ℕ → LexRefusal → Type 0
IsRefusal text (refusals.Bad told) = IsBadAt text told.at × (told.rule ≡ rules.T1) × (told.first ≡ []) × (told.second ≡ [])
IsRefusal text refusals.Memory = Unit {0}
