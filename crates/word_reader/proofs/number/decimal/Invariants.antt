use Rattle.std.proofs.Common.{◌≡◌, ◌<◌, ◌^◌, drop}
use Rattle.word_reader.specs.Number.{decimal_after}
use Rattle.word_reader.proofs.number.decimal.Given as goal

abbrev pub invariant-loop-digit : goal.invariant-loop-digit
invariant-loop-digit l = record {
  read : decimal_after 0 l.text ≡ decimal_after l.n (drop l.digit-index l.text);
  small : l.n < 10 ^ l.digit-index;
}
