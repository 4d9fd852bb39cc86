use Rattle.std.proofs.Common.{length, ◌-◌, ◌≡◌, ◌+◌, ◌^◌, ◌<◌, ◌≤◌, take, drop, SomeIff, fold}
use Rattle.rules_model.specs.TokensShapes.{with_digit}
use Rattle.rules_model.specs.TokensReading.{more_length}
use Rattle.chill_lexer.proofs.run.numeral.Given as goal

-- the numeral so far and its number
abbrev pub invariant-loop-length : goal.invariant-loop-length
invariant-loop-length l = record {
  within : l.length ≤ length l.text;
  so_far : l.length + more_length l.base (drop l.length l.text) ≡ more_length l.base l.text;
  number : SomeIff l.value (fold (with_digit l.base) l.first (take l.length l.text) < 2 ^ 64) (fold (with_digit l.base) l.first (take l.length l.text));
}

abbrev pub decreases-loop-length : goal.decreases-loop-length
decreases-loop-length l = length l.text - l.length
