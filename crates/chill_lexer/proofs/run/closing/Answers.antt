use Rattle.std.proofs.Common.{◌≢◌, ◌⊎◌, inl, inr, ◌+◌, refl, arith, sym, ap, ◌∙◌, get_or}
use Rattle.chill_base.specs.declared.pos.Pos.{Pos}
use Rattle.rules_model.specs.TokensCut.{behind}
use Rattle.rules_model.specs.TokensReading.{closing_length}
use Rattle.chill_lexer.proofs.RunLemmas.{closing_start, closing_here, closing_on, closing_none, behind_all-more, behind-within, behind_closing}
use Rattle.chill_lexer.proofs.run.closing.Goals as goal
use Rattle.chill_lexer.proofs.run.closing.Goals.{else-text-length-eq42-via-then-text-length-eq42+else-text-length-eq47, else-text-length-eq42-via-else-text-length-eq42}

pub loop-length-init : goal.loop-length-init
loop-length-init c = record { within = omega arith; so_far = closing_start (closing_length c.args.text.now); place = refl; line = omega arith; column = omega arith }

pub returns-then-text-length-eq47-clause-length : goal.returns-then-text-length-eq47-clause-length
returns-then-text-length-eq47-clause-length c =
    closing_here c.args.text.now c.loop-length.length c.loop-length-test.true c.if-text-length-eq42.true c.if-text-length-eq47.true c.loop-length.invariant.so_far

pub returns-then-text-length-eq47-clause-place : goal.returns-then-text-length-eq47-clause-place
returns-then-text-length-eq47-clause-place c =
    c.behind-then-text-length-eq47.ensures ∙ ap (λ (at : Pos). behind at 47) c.behind.ensures
    ∙ behind_closing c.args.start c.loop-length.at c.args.text.now c.loop-length.length c.loop-length-test.true c.if-text-length-eq42.true c.if-text-length-eq47.true c.loop-length.invariant.place

pub loop-length-preserved : goal.loop-length-preserved
loop-length-preserved c =
    let text = c.args.text.now in let i = c.loop-length.length in
    let other : (get_or text i 0 ≢ 42) ⊎ (get_or text (i + 1) 0 ≢ 47) = elim c.else-text-length-eq42.branch [
      | else-text-length-eq42-via-then-text-length-eq42+else-text-length-eq47 w ↦ inr w.if-text-length-eq47.false
      | else-text-length-eq42-via-else-text-length-eq42 w ↦ inl w.if-text-length-eq42.false
    ] in
    let within = behind-within c.loop-length.at (get_or text i 0) in
    let line = ap (λ (at : Pos). at.line) c.behind-at.ensures in let column = ap (λ (at : Pos). at.column) c.behind-at.ensures in
    record {
      within = omega arith;
      so_far = closing_on text i c.loop-length-test.true other c.loop-length.invariant.so_far;
      place = c.behind-at.ensures ∙ ap (λ (at : Pos). behind at (get_or text i 0)) c.loop-length.invariant.place
          ∙ sym (behind_all-more c.args.start text i (omega arith));
      line = omega arith;
      column = omega arith;
    }

pub returns-clause-length : goal.returns-clause-length
returns-clause-length c = closing_none c.args.text.now c.loop-length.length c.loop-length-test.false c.loop-length.invariant.so_far
