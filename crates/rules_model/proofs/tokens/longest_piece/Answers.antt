use Rattle.rules_model.proofs.TokensLaws.{one_piece}
use Rattle.rules_model.proofs.tokens.longest_piece.Goals as goal

pub returns-clause-only : goal.returns-clause-only
returns-clause-only c = one_piece
