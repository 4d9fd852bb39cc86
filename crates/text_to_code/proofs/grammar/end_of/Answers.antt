use Rattle.std.proofs.Common.{sym, ap, ◌∙◌, get_or, arith}
use Rattle.chill_base.specs.declared.pos.Pos.{Pos}
use Rattle.rules_model.specs.TokensCut.{behind, first_place}
use Rattle.chill_lexer.proofs.RunLemmas.{behind_all-more, behind-within}
use Rattle.text_to_code.proofs.grammar.end_of.Goals as goal

pub loop-byte-preserved : goal.loop-byte-preserved
loop-byte-preserved c =
    let text = c.args.text.now in let i = c.loop-byte.byte-index in
    let within = behind-within c.loop-byte.at (get_or text i 0) in
    let line = ap (λ (at : Pos). at.line) c.behind-at.ensures in let column = ap (λ (at : Pos). at.column) c.behind-at.ensures in
    record {
      place = c.behind-at.ensures ∙ ap (λ (at : Pos). behind at (get_or text i 0)) c.loop-byte.invariant.place ∙ sym (behind_all-more first_place text i (omega arith));
      line = omega arith;
      column = omega arith;
    }
