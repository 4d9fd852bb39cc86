use Rattle.std.proofs.Common.{sym, subst, ◌∙◌, refl, Option, ℕ}
use Rattle.rules_model.specs.TokensShapes.{Piece}
use Rattle.chill_lexer.specs.Runs.{IsPut}
use Rattle.chill_lexer.specs.Front.{IsFront}
use Rattle.chill_lexer.proofs.FrontLemmas.{piece_empty, piece_word, piece_whole, piece_separator, one_place, front_put}
use Rattle.chill_lexer.proofs.front.any_front.Goals as goal

pub returns-in_default : goal.returns-in_default
returns-in_default c = piece_empty c.args.text.now c.in_default.len_below

pub returns-then-is_letter : goal.returns-then-is_letter
returns-then-is_letter c =
    let length = c.in_ok-word.field-0 in let new = c.word.new.tokens.items in
    let put = subst (λ (o : Option (Piece × ℕ)). IsPut c.args.at o c.args.tokens.now.items new length)
    (piece_word c.args.text.now c.in-len1-up.len_at_least (sym c.is_letter.ensures ∙ c.if-is_letter.true)) c.in_ok-word.ensures in
    subst (IsFront c.args.at c.args.text.now c.args.tokens.now.items new) (sym c.of_token.ensures)
    (front_put c.args.at c.args.text.now c.args.tokens.now.items new length put)

pub returns-then-is_separator : goal.returns-then-is_separator
returns-then-is_separator c = (
  (
    piece_separator c.args.text.now c.in-len1-up.len_at_least (sym c.is_separator.ensures ∙ c.if-is_separator.true),
    c.behind.ensures ∙ one_place c.args.at c.args.text.now c.in-len1-up.len_at_least,
  ),
  refl,
)

pub returns-then-is_decimal : goal.returns-then-is_decimal
returns-then-is_decimal c =
    let length = c.put_found.result in let new = c.put_found.new.tokens.items in
    let put = subst (λ (o : Option (Piece × ℕ)). IsPut c.args.at o c.args.tokens.now.items new length)
    (c.whole.ensures ∙ piece_whole c.args.text.now c.in-len1-up.len_at_least (sym c.is_decimal.ensures ∙ c.if-is_decimal.true)) c.put_found.ensures in
    subst (IsFront c.args.at c.args.text.now c.args.tokens.now.items new) (sym c.of_token-then-is_decimal.ensures)
    (front_put c.args.at c.args.text.now c.args.tokens.now.items new length put)
