use Rattle.std.proofs.Common.{length, ◌-◌, ◌≡◌, ◌≤◌, drop}
use Rattle.rules_model.specs.TokensReading.{text_length}
use Rattle.chill_lexer.proofs.RunLemmas.{found_behind}
use Rattle.chill_lexer.proofs.run.text_length.Given as goal

-- the last `"` that may close the text, unless a later one does
abbrev pub invariant-loop-length : goal.invariant-loop-length
invariant-loop-length l = record {
  within : l.length ≤ length l.text;
  so_far : text_length l.text ≡ found_behind l.found l.length (text_length (drop l.length l.text));
}

abbrev pub decreases-loop-length : goal.decreases-loop-length
decreases-loop-length l = length l.text - l.length
