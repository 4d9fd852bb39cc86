-- Where a text has no program: the place by its tokens, and the place that is told of the text.
use Rattle.std.proofs.Common.{◌≡◌, ℕ, List, Some, refl, ◌⊎◌, inl, inr}
use Rattle.chill_base.specs.declared.pos.Pos.{Pos}
use Rattle.chill_tree.specs.declared.token.Token.{Token}
use Rattle.rules_model.specs.Diagnoses as diagnoses
use Rattle.rules_model.specs.TokensCut.{behind_all, first_place}
use Rattle.chill_parser.specs.Parsing.{IsPlaceIn}

-- the place of a token may be told
pub token_told : (text : List ℕ) (toks : List Token) (p : Pos) → IsPlaceIn toks (Some p) → diagnoses.IsPlaceIn text toks p
token_told text toks p x = inl (x.index, x.token, x.here, x.place)

-- where there is none, the text's end may be told
pub end_told : (text : List ℕ) (toks : List Token) → diagnoses.IsPlaceIn text toks (behind_all first_place text)
end_told text toks = inr refl

-- a place that may be told is a token's or the text's end
pub place_found : (text : List ℕ) (toks : List Token) (p : Pos) → diagnoses.IsPlaceIn text toks p → IsPlaceIn toks (Some p) ⊎ (p ≡ behind_all first_place text)
place_found text toks p (inl x) = inl (record { index = x.0; token = x.1; here = x.2; place = x.3 })
place_found text toks p (inr e) = inr e
