use Rattle.world_model.proofs.RequestsAnswered.{given_answers_law}
use Rattle.world_model.proofs.laws.given_answers_law.Goals as goal

pub returns : goal.returns
returns c = given_answers_law
