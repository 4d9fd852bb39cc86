use Rattle.std.proofs.Common.{ℕ, ◌-◌, sym, ap, ◌∙◌, subst, take, get_or}
use Rattle.std.proofs.lemmas.List.{take_more}
use Rattle.world_model.specs.Input.{value_from}
use Rattle.world_check.specs.Numbers.{IsClipped}
use Rattle.world_check.proofs.Digits.{value_from-append, clipped_again}
use Rattle.world_check.proofs.numbers.value_of.Goals as goal

pub loop-byte-preserved : goal.loop-byte-preserved
loop-byte-preserved c =
    let digit : ℕ = get_or c.args.bytes.now c.loop-byte.byte-index 0 in
    let front = take c.loop-byte.byte-index c.args.bytes.now in
    let more = ap (value_from 0) (take_more c.args.bytes.now c.loop-byte.byte-index 0 c.loop-byte-test.true) ∙ value_from-append 0 front digit in (
      c.with_digit-read.ensures.small,
      subst (λ (n : ℕ). IsClipped n c.with_digit-read.result) (sym more)
          (clipped_again (value_from 0 front) c.loop-byte.read (digit - 48) c.with_digit-read.result c.loop-byte.invariant.1 c.with_digit-read.ensures.is),
    )
