use Rattle.rules_model.proofs.TokensLaws.{some_reading, one_list, one_place, not_both}
use Rattle.rules_model.proofs.tokens.one_reading.Goals as goal

pub returns-clause-some : goal.returns-clause-some
returns-clause-some c = some_reading

pub returns-clause-tokens : goal.returns-clause-tokens
returns-clause-tokens c = one_list

pub returns-clause-bad : goal.returns-clause-bad
returns-clause-bad c = one_place

pub returns-clause-apart : goal.returns-clause-apart
returns-clause-apart c = not_both
