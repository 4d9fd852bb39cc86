use Rattle.std.proofs.Common.{sym, ap, ◌∙◌, ℕ, arith, get_or, inl, Some}
use Rattle.rules_model.specs.TokensShapes.{base_of, token}
use Rattle.rules_model.specs.TokensReading.{limited}
use Rattle.chill_tree.specs.declared.token.TokenKind.TheVariants as kinds
use Rattle.chill_lexer.proofs.RunLemmas.{based_unmarked}
use Rattle.chill_lexer.proofs.FrontLemmas.{piece_word, blank_along, lone_piece, digit_piece, name_along}
use Rattle.chill_lexer.proofs.front.along.Goals as goal

pub returns-then-second-ne39-clause-found : goal.returns-then-second-ne39-clause-found
returns-then-second-ne39-clause-found c =
    let text = c.args.text.now in
    name_along c.args.at text c.args.tokens.now.items c.short_name.new.tokens.items c.short_name.result _
    (ap limited (based_unmarked (base_of (get_or text 0 0)) text c.if-second-ne39.true) ∙ piece_word text (omega arith) (sym c.is_letter.ensures ∙ c.if-is_letter.true))
    c.short_name.ensures.found

pub returns-then-first-eq32-clause-found : goal.returns-then-first-eq32-clause-found
returns-then-first-eq32-clause-found c = blank_along c.args.at c.args.text.now c.args.tokens.now.items (omega arith) c.if-first-eq32.true

pub returns-clause-found : goal.returns-clause-found
returns-clause-found c =
    inl (
      c.in_ok-kind.kind,
      lone_piece c.args.text.now c.in_ok-kind.kind c.in_ok-kind.length (omega arith) (sym c.goes_on.ensures ∙ c.if-goes_on.false) c.in_ok-kind.ensures.apart
          (sym c.in_ok-kind.ensures.found),
      c.put-2.ensures,
    )

pub returns-then-not-is_name_byte-clause-found : goal.returns-then-not-is_name_byte-clause-found
returns-then-not-is_name_byte-clause-found c =
    inl (
      kinds.Whole c.digit_of.result,
      digit_piece c.args.text.now (omega arith) (sym c.is_decimal.ensures ∙ c.if-is_decimal.true) (sym c.is_name_byte.ensures ∙ c.if-not-is_name_byte.true)
          ∙ ap (λ (n : ℕ). Some (token (kinds.Whole n), 1)) (sym c.digit_of.ensures),
      c.put.ensures,
    )
