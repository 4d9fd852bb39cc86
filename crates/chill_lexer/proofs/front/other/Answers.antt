use Rattle.std.proofs.Common.{IfOk, ap, subst, ◌∙◌, Option, ℕ, List, get_or, arith}
use Rattle.std.proofs.lemmas.List.{take_rest}
use Rattle.rules_model.specs.TokensShapes.{Piece}
use Rattle.rules_model.specs.TokensReading.{limited, character_at, quoted_at, text_length, sign_at}
use Rattle.chill_lexer.specs.Runs.{IsPut}
use Rattle.chill_lexer.proofs.FrontLemmas.{piece_empty, piece_character, piece_text, piece_sign}
use Rattle.chill_lexer.proofs.front.other.Goals as goal

pub returns-in_default : goal.returns-in_default
returns-in_default c = piece_empty c.args.text.now c.in_default.len_below

pub returns-in-39 : goal.returns-in-39
returns-in-39 c =
    subst (λ (o : Option (Piece × ℕ)). IsPut c.args.at o c.args.tokens.now.items c.put_character.new.tokens.items c.put_character.result)
    (ap (λ (xs : List ℕ). limited (character_at xs)) (take_rest c.args.text.now 1) ∙ piece_character c.args.text.now c.in-len1-up.len_at_least c.in-39.is)
    c.put_character.ensures

pub returns-in-34 : goal.returns-in-34
returns-in-34 c =
    subst (λ (o : Option (Piece × ℕ)). IfOk c.put_text.result (λ length. IsPut c.args.at o c.args.tokens.now.items c.put_text.new.tokens.items length))
    (ap (λ (xs : List ℕ). limited (quoted_at xs (text_length xs))) (take_rest c.args.text.now 1) ∙ piece_text c.args.text.now c.in-len1-up.len_at_least c.in-34.is)
    c.put_text.ensures

pub returns-in_default-first : goal.returns-in_default-first
returns-in_default-first c =
    subst (λ (o : Option (Piece × ℕ)). IsPut c.args.at o c.args.tokens.now.items c.put_found.new.tokens.items c.put_found.result)
    (c.sign.ensures ∙ ap (λ (xs : List ℕ). limited (sign_at (get_or c.args.text.now 0 0) xs)) (take_rest c.args.text.now 1)
    ∙ piece_sign c.args.text.now c.in-len1-up.len_at_least c.requires.no_separator c.requires.no_letter c.requires.no_decimal
    (λ e. omega arith) (λ e. omega arith) c.requires.no_line c.requires.no_comment) c.put_found.ensures
