use Rattle.std.proofs.Common.{◌∙◌, sym, arith, length}
use Rattle.world_model.specs.Input.{is_separator}
use Rattle.world_model.proofs.PassingFronts.{prefix_stops, prefix_all}
use Rattle.world_model.proofs.input.separators_len.Goals as goal

pub returns-then-not-is_separator : goal.returns-then-not-is_separator
returns-then-not-is_separator c = prefix_stops is_separator c.args.bytes.now c.loop-i.i c.loop-i.invariant c.loop-i-test.true (sym c.is_separator.ensures ∙ c.if-not-is_separator.true)

pub returns : goal.returns
returns c = prefix_all is_separator c.args.bytes.now (length c.args.bytes.now) (λ i. length c.args.bytes.now) (λ k low. c.loop-i.invariant k (omega arith))
