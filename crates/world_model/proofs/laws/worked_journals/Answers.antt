use Rattle.std.proofs.Common.{refl}
use Rattle.world_model.proofs.laws.worked_journals.Goals as goal

pub returns : goal.returns
returns c = record { stored = refl; goes_on = refl; nothing_left = refl; three_sends = refl; sender_answered = refl; all_ended = refl; still = refl }
