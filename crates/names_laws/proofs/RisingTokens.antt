-- The places of the tokens of a text rise.
use Rattle.std.proofs.Common.{ℕ, ◌+◌, ◌==◌, Bool, true, false, inl, inr, List, [], ◌∷◌, ◌++◌, refl, sym, ◌∙◌, subst, arith}
use Rattle.std.specs.Prelude.{if◌then◌else◌}
use Rattle.chill_base.specs.declared.pos.Pos.{Pos}
use Rattle.rules_model.specs.TokensShapes.{Shape, Spells, Piece, between, token}
use Rattle.rules_model.specs.TokensReading.{shape_at}
use Rattle.rules_model.specs.TokensCut.{behind, behind_all, first_place, Cut, ArePieces, own_token, tokens_among}
use Rattle.rules_model.proofs.TokensExact.{complete}
use Rattle.names_laws.specs.Rising.{Precedes, PrecedesEach, Rise, token_places, RisingTokensLaw}

before_both : (p q r : Pos) → Precedes p q → Precedes q r → Precedes p r
before_both p q r (inl a) (inl b) = inl (omega (arith, a, b))
before_both p q r (inl a) (inr b) = inl (omega (arith, a, b.0))
before_both p q r (inr a) (inl b) = inl (omega (arith, a.0, b))
before_both p q r (inr a) (inr b) = inr (a.0 ∙ b.0, omega (arith, a.1, b.1))

-- a place stands before the one behind a byte, and behind more of them
before_next : (at : Pos) (b : ℕ) → Precedes at (behind at b)
before_next at b = by (b == 10)
  where
    by : (ends : Bool) → Precedes at (if ends then record { line = at.line + 1; column = 1 } else record { line = at.line; column = at.column + 1 })
    by true = inl (omega arith)
    by false = inr (refl, omega arith)

before_more : (q at : Pos) (bs : List ℕ) → Precedes q at → Precedes q (behind_all at bs)
before_more q at [] before = before
before_more q at (b ∷ bs) before = before_more q (behind at b) bs (before_both q at (behind at b) before (before_next at b))

no_shape : (s : Shape) → Spells s [] → ⊥
unfolding shape_at
no_shape s spells = complete s [] [] spells

before_end : (s : Shape) (at : Pos) (bs : List ℕ) → Spells s bs → Precedes at (behind_all at bs)
before_end s at [] spells = absurd (no_shape s spells)
before_end s at (b ∷ bs) spells = before_more at (behind at b) bs (before_next at b)

-- what stands before a place stands before all tokens from it on
before_tokens : (q at : Pos) (cuts : List Cut) → Precedes q at → PrecedesEach q (token_places (tokens_among at cuts))
before_tokens q at [] before = tt
before_tokens q at (cut ∷ cuts) before = by cut.piece (before_tokens q (behind_all at cut.bytes) cuts (before_more q at cut.bytes before))
  where
    by : (piece : Piece) → PrecedesEach q (token_places (tokens_among (behind_all at cut.bytes) cuts)) → PrecedesEach q (token_places (own_token at piece ++ tokens_among (behind_all at cut.bytes) cuts))
    by between later = later
    by (token kind) later = (before, later)

tokens_rise : (at : Pos) (cuts : List Cut) (rest : List ℕ) → ArePieces cuts rest → Rise (token_places (tokens_among at cuts))
tokens_rise at [] rest pieces = tt
tokens_rise at (cut ∷ cuts) rest pieces = by cut.piece (tokens_rise (behind_all at cut.bytes) cuts rest pieces.1)
  where
    by : (piece : Piece) → Rise (token_places (tokens_among (behind_all at cut.bytes) cuts)) → Rise (token_places (own_token at piece ++ tokens_among (behind_all at cut.bytes) cuts))
    by between later = later
    by (token kind) later = (before_tokens at (behind_all at cut.bytes) cuts (before_end pieces.0.shape at cut.bytes pieces.0.longest.spells), later)

pub rising_tokens : RisingTokensLaw
rising_tokens text tokens are = subst (λ ts. Rise (token_places ts)) (sym are.are) (tokens_rise first_place are.cuts [] are.pieces)
