use Rattle.std.proofs.Common.{◌≡◌, IfOk, ap, sym, subst, ◌∙◌, Option, true, false, get_or, drop, ℕ, List}
use Rattle.std.proofs.lemmas.List.{take_rest}
use Rattle.rules_model.specs.TokensShapes.{base_of, Piece}
use Rattle.rules_model.specs.TokensReading.{Found, limited, based_at, name_at, digits_at}
use Rattle.chill_lexer.specs.Runs.{IsPut, begins_numeral}
use Rattle.chill_lexer.proofs.RunLemmas.{based_unmarked, based_undigited, based_digited}
use Rattle.chill_lexer.proofs.literal.word.Goals as goal
use Rattle.chill_lexer.proofs.literal.word.Goals.{in_default-base_of-via-in-Some+else-begins_numeral, in_default-base_of-via-in_default-base_of}

pub returns-then-mark-ne39 : goal.returns-then-mark-ne39
returns-then-mark-ne39 c =
    subst (λ (o : Found). IfOk c.name-then-mark-ne39.result (λ length. IsPut c.args.at (limited o) c.args.tokens.now.items c.name-then-mark-ne39.new.tokens.items length))
    (based_unmarked (base_of (get_or c.args.text.now 0 0)) c.args.text.now c.if-mark-ne39.true) c.name-then-mark-ne39.ensures

pub returns-in-Some : goal.returns-in-Some
returns-in-Some c =
    let text = c.args.text.now in let base = c.in-Some.base in
    let some : begins_numeral base (drop 2 text) ≡ true = ap (begins_numeral base) (sym (take_rest text 2)) ∙ sym c.begins_numeral.ensures ∙ c.if-begins_numeral.true in
    subst (λ (o : Option (Piece × ℕ)). IsPut c.args.at o c.args.tokens.now.items c.put_based.new.tokens.items c.put_based.result)
    (ap (λ (xs : List ℕ). limited (digits_at base xs)) (take_rest text 2) ∙ ap limited (based_digited base text c.if-mark-ne39.false some)
    ∙ ap (λ (o : Option ℕ). limited (based_at o text)) (sym c.in-Some.is ∙ c.base_of.ensures)) c.put_based.ensures

no_base : (c : goal.After-name-in_default-base_of) → name_at c.args.text.now ≡ based_at (base_of (get_or c.args.text.now 0 0)) c.args.text.now
no_base c =
    let text = c.args.text.now in
    elim c.in_default-base_of.branch [
      | in_default-base_of-via-in-Some+else-begins_numeral w ↦
          let none : begins_numeral w.in-Some.base (drop 2 text) ≡ false =
          ap (begins_numeral w.in-Some.base) (sym (take_rest text 2)) ∙ sym w.begins_numeral.ensures ∙ w.if-begins_numeral.false in
          based_undigited w.in-Some.base text none ∙ ap (λ (o : Option ℕ). based_at o text) (sym w.in-Some.is ∙ c.base_of.ensures)
      | in_default-base_of-via-in_default-base_of w ↦ ap (λ (o : Option ℕ). based_at o text) (sym w.in_default-base_of.is ∙ c.base_of.ensures)
    ]

pub returns-in_default-base_of : goal.returns-in_default-base_of
returns-in_default-base_of c =
    subst (λ (o : Found). IfOk c.name-in_default-base_of.result (λ length. IsPut c.args.at (limited o) c.args.tokens.now.items c.name-in_default-base_of.new.tokens.items length))
    (no_base c) c.name-in_default-base_of.ensures
