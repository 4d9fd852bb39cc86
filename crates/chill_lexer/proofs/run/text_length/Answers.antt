use Rattle.std.proofs.Common.{inl, inr, arith}
use Rattle.rules_model.specs.TokensReading.{text_length}
use Rattle.chill_lexer.proofs.RunLemmas.{found_start, text_at_line, text_at_end, text_at_two, text_at_byte, text_at_all}
use Rattle.chill_lexer.proofs.run.text_length.Goals as goal
use Rattle.chill_lexer.proofs.run.text_length.Goals.{then-length-text-via-then-length-text, then-length-text-via-else-length-text+then-text-length-ne34}

pub loop-length-init : goal.loop-length-init
loop-length-init c = record { within = omega arith; so_far = found_start (text_length c.args.text.now) }

pub returns-in-10 : goal.returns-in-10
returns-in-10 c = text_at_line c.args.text.now c.loop-length.length c.loop-length.found c.loop-length-test.true c.in-10.is c.loop-length.invariant.so_far

pub loop-length-preserved-in-34 : goal.loop-length-preserved-in-34
loop-length-preserved-in-34 c = record {
  within = omega arith;
  so_far = text_at_two c.args.text.now c.loop-length.length c.loop-length.found (omega arith) c.in-34.is c.if-text-length-ne34.false c.loop-length.invariant.so_far;
}

pub loop-length-preserved : goal.loop-length-preserved
loop-length-preserved c = record {
  within = omega arith;
  so_far = text_at_byte c.args.text.now c.loop-length.length c.loop-length.found c.loop-length-test.true (λ e. omega arith) (λ e. omega arith) c.loop-length.invariant.so_far;
}

pub returns : goal.returns
returns c = text_at_all c.args.text.now c.loop-length.length c.loop-length.found c.loop-length-test.false c.loop-length.invariant.so_far

pub returns-then-length-text : goal.returns-then-length-text
returns-then-length-text c =
    text_at_end c.args.text.now c.loop-length.length c.loop-length.found c.loop-length-test.true c.in-34.is
    (elim c.then-length-text.branch [
      | then-length-text-via-then-length-text w ↦ inl w.if-length-text.true
      | then-length-text-via-else-length-text+then-text-length-ne34 w ↦ inr w.if-text-length-ne34.true
    ])
    c.loop-length.invariant.so_far
