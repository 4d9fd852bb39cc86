use Rattle.std.proofs.Common.{◌∙◌}
use Rattle.chill_lexer.proofs.RunLemmas.{unquoted_skip, unquoted_take, unquoted_all}
use Rattle.chill_lexer.proofs.literal.unquoted.Goals as goal
use Rattle.chill_lexer.proofs.literal.unquoted.Goals.{then-doubled, else-doubled+in_ok-push}

pub loop-byte-preserved : goal.loop-byte-preserved
loop-byte-preserved c =
    elim c.if-doubled.branch [
      | then-doubled w ↦ unquoted_skip c.loop-byte.value c.if-doubled.value c.args.text.now c.loop-byte.byte-index c.loop-byte.doubled c.if-doubled.doubled
          c.loop-byte-test.true w.if-doubled.true w.value-is w.doubled-is c.loop-byte.invariant
      | else-doubled+in_ok-push w ↦ unquoted_take c.loop-byte.value c.if-doubled.value c.args.text.now c.loop-byte.byte-index c.loop-byte.doubled c.if-doubled.doubled
          c.loop-byte-test.true w.if-doubled.false (w.value-is ∙ w.in_ok-push.ensures.ok) w.doubled-is c.loop-byte.invariant
    ]

pub returns : goal.returns
returns c = unquoted_all c.loop-byte.value c.args.text.now c.loop-byte.byte-index c.loop-byte.doubled c.loop-byte-test.false c.loop-byte.invariant
