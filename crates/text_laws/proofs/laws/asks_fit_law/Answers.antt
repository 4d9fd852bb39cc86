use Rattle.text_laws.proofs.laws.asks_fit_law.Goals as goal
use Rattle.text_laws.proofs.AsksFit.{asks_fit}

pub returns : goal.returns
returns c = asks_fit
