use Rattle.text_to_code.proofs.TellingLemmas.{long_diagnosed, bad_diagnosed}
use Rattle.text_to_code.proofs.grammar.tokens_of.Goals as goal

-- it is too long
pub returns-then-text-gt-MAX_BYTES-clause-breaks : goal.returns-then-text-gt-MAX_BYTES-clause-breaks
returns-then-text-gt-MAX_BYTES-clause-breaks c = long_diagnosed c.args.text.now c.plainly.result c.if-text-gt-MAX_BYTES.true c.plainly.ensures

-- a byte begins no token
pub returns-in-Err-Bad-clause-breaks : goal.returns-in-Err-Bad-clause-breaks
returns-in-Err-Bad-clause-breaks c =
    let arm = c.in-Err-Bad in
    let refused = rw arm.field-0-is at arm.ensures.refused in
    bad_diagnosed c.args.text.now arm.told c.if-text-gt-MAX_BYTES.false refused.0 refused.1 refused.2 refused.3
