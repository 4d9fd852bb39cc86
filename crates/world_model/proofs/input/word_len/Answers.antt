use Rattle.std.proofs.Common.{◌∙◌, sym, ap, arith, length, not}
use Rattle.world_model.specs.Input.{is_separator}
use Rattle.world_model.proofs.PassingFronts.{prefix_stops, prefix_all}
use Rattle.world_model.proofs.input.word_len.Goals as goal

pub returns-then-is_separator : goal.returns-then-is_separator
returns-then-is_separator c = prefix_stops (λ b. not (is_separator b)) c.args.bytes.now c.loop-i.i c.loop-i.invariant c.loop-i-test.true (ap not (sym c.is_separator.ensures ∙ c.if-is_separator.true))

pub returns : goal.returns
returns c = prefix_all (λ b. not (is_separator b)) c.args.bytes.now (length c.args.bytes.now) (λ i. length c.args.bytes.now) (λ k low. c.loop-i.invariant k (omega arith))
