use Rattle.std.proofs.Common.{◌≡◌, ◌++◌, drop}
use Rattle.rules_model.specs.TokensReading.{unquoted}
use Rattle.chill_lexer.proofs.RunLemmas.{unquoted_behind}
use Rattle.chill_lexer.proofs.literal.unquoted.Given as goal

-- the value so far, and what is left of it
abbrev pub invariant-loop-byte : goal.invariant-loop-byte
invariant-loop-byte l = l.value ++ unquoted_behind l.doubled (drop l.byte-index l.text) ≡ unquoted l.text
