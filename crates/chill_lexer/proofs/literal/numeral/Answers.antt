use Rattle.std.proofs.Common.{arith}
use Rattle.std.proofs.lemmas.List.{take_rest}
use Rattle.chill_lexer.proofs.RunLemmas.{numeral_found, more_within}
use Rattle.chill_lexer.proofs.literal.numeral.Goals as goal

pub overflow_add-result : goal.overflow_add-result
overflow_add-result c = let h = more_within c.args.base c.numeral-length.result.0 c.args.text.now _ (take_rest c.args.text.now 1) c.numeral-length.ensures.length c.in-len1-up.len_at_least in omega arith

pub returns-clause-within : goal.returns-clause-within
returns-clause-within c = more_within c.args.base c.numeral-length.result.0 c.args.text.now _ (take_rest c.args.text.now 1) c.numeral-length.ensures.length c.in-len1-up.len_at_least

pub returns-clause-value : goal.returns-clause-value
returns-clause-value c =
    numeral_found c.args.base c.digit_of.result c.numeral-length.result.0 c.args.text.now _ c.numeral-length.result.1 c.in_ok-number.field-0 c.requires.small c.requires.begins
    (take_rest c.args.text.now 1) c.digit_of.ensures c.numeral-length.ensures.length c.numeral-length.ensures.value c.in_ok-number.was
