use Rattle.text_laws.proofs.laws.suits_law.Goals as goal
use Rattle.text_laws.proofs.Suits.{suits}

pub returns : goal.returns
returns c = suits
