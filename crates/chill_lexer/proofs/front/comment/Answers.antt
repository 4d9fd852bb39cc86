use Rattle.std.proofs.Common.{◌≡◌, ap, sym, ◌∙◌, ℕ, Some, option_map, drop, take, arith}
use Rattle.std.proofs.lemmas.List.{take_rest}
use Rattle.chill_base.specs.declared.pos.Pos.{Pos}
use Rattle.rules_model.specs.TokensCut.{behind_all}
use Rattle.rules_model.specs.TokensReading.{closing_length}
use Rattle.chill_lexer.proofs.FrontLemmas.{comment_found, comment_unclosed, comment_within, comment_place}
use Rattle.chill_lexer.proofs.front.comment.Goals as goal

closed : (c : goal.In-Some) → closing_length (drop 2 c.args.text.now) ≡ Some c.in-Some.length
closed c = ap closing_length (sym (take_rest c.args.text.now 2)) ∙ sym c.closing.ensures.length ∙ ap (option_map {T = ℕ × Pos} {U = ℕ} (λ found. found.0)) c.in-Some.is

pub overflow_add-result : goal.overflow_add-result
overflow_add-result c = let h = comment_within c.args.text.now c.in-Some.length c.requires.starts (closed c) in omega arith

pub returns-in-Some : goal.returns-in-Some
returns-in-Some c = (
  comment_found c.args.text.now c.in-Some.length c.requires.starts (closed c),
  c.in-Some.ensures.place ∙ (λ i. behind_all (c.right.ensures i) (take c.in-Some.length (take_rest c.args.text.now 2 i)))
      ∙ comment_place c.args.at c.args.text.now c.in-Some.length c.requires.starts,
)

pub returns-in-None : goal.returns-in-None
returns-in-None c =
    comment_unclosed c.args.text.now c.requires.starts
    (ap closing_length (sym (take_rest c.args.text.now 2)) ∙ sym c.closing.ensures.length ∙ ap (option_map {T = ℕ × Pos} {U = ℕ} (λ found. found.0)) c.in-None.is)
