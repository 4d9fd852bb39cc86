use Rattle.std.proofs.Common.{length, ◌+◌, ◌≤◌}
use Rattle.chill_lexer.proofs.LexerLemmas.{IsSoFar}
use Rattle.chill_lexer.proofs.lexer.lex.Given as goal

-- the pieces so far, and a place that the rest can't carry too far
abbrev pub invariant-loop-rest : goal.invariant-loop-rest
invariant-loop-rest l = record {
  so_far : IsSoFar l.text l.tokens.items l.at l.rest;
  line : l.at.line + length l.rest ≤ length l.text + 1;
  column : l.at.column + length l.rest ≤ length l.text + 1;
}

abbrev pub decreases-loop-rest : goal.decreases-loop-rest
decreases-loop-rest l = length l.rest
