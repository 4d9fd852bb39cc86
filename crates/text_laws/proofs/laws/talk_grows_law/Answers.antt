use Rattle.text_laws.proofs.laws.talk_grows_law.Goals as goal
use Rattle.text_laws.proofs.GrowingTalks.{talk_grows}

pub returns : goal.returns
returns c = talk_grows
