use Rattle.std.proofs.Common.{length, ◌-◌, ◌+◌, ◌≡◌, ◌≤◌, take, drop}
use Rattle.rules_model.specs.TokensCut.{behind_all}
use Rattle.rules_model.specs.TokensReading.{closing_length}
use Rattle.chill_lexer.proofs.RunLemmas.{closing_behind}
use Rattle.chill_lexer.proofs.run.closing.Given as goal

-- no `*/` so far, and the place reached
abbrev pub invariant-loop-length : goal.invariant-loop-length
invariant-loop-length l = record {
  within : l.length ≤ length l.text;
  so_far : closing_length l.text ≡ closing_behind l.length (closing_length (drop l.length l.text));
  place : l.at ≡ behind_all l.fn.start (take l.length l.text);
  line : l.at.line ≤ l.fn.start.line + l.length;
  column : l.at.column ≤ l.fn.start.column + l.length;
}

abbrev pub decreases-loop-length : goal.decreases-loop-length
decreases-loop-length l = length l.text - l.length
