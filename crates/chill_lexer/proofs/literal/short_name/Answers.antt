use Rattle.std.proofs.Common.{◌∙◌, sym, ap, arith, take, ℕ, List}
use Rattle.std.proofs.lemmas.List.{take-take}
use Rattle.rules_model.specs.TokensShapes.{named}
use Rattle.chill_tree.specs.declared.token.TokenKind.TheVariants as kinds
use Rattle.chill_lexer.proofs.RunLemmas.{short_name}
use Rattle.chill_lexer.proofs.literal.short_name.Goals as goal

pub returns-in-Some-spelled-clause-found : goal.returns-in-Some-spelled-clause-found
returns-in-Some-spelled-clause-found c =
    let text = c.args.text.now in let n = c.name_length-length.result in (
      kinds.Word c.in-Some-spelled.word,
      short_name text c.in-Some.bytes.now n 14 _ c.in-Some.ensures.cases.0 c.name_length-length.ensures (omega arith) (omega arith)
          (ap (named (take n text)) (sym c.spelled.ensures.exact ∙ c.in-Some-spelled.is)),
      c.put.ensures,
    )

pub returns-in-None-clause-found : goal.returns-in-None-clause-found
returns-in-None-clause-found c =
    let text = c.args.text.now in let n = c.name_length-length.result in
    let bytes = c.inline.ensures ∙ ap (take n) (c.copied.ensures ∙ c.in-Some.ensures.cases.0) ∙ take-take n 14 text (omega arith) in (
      kinds.Name c.inline.result,
      short_name text c.in-Some.bytes.now n 14 _ c.in-Some.ensures.cases.0 c.name_length-length.ensures (omega arith) (omega arith)
          (ap (named (take n text)) (sym c.spelled.ensures.exact ∙ c.in-None.is) ∙ ap (λ (b : List ℕ). kinds.Name b) (sym bytes)),
      c.put-in-None.ensures,
    )
