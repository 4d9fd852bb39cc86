use Rattle.world_check.proofs.pending.may_take_none.Goals as goal

pub returns-then-otherwise : goal.returns-then-otherwise
returns-then-otherwise c = (λ is. (c.if-otherwise.true, c.no_signal_pends.ensures.0 is), λ both. c.no_signal_pends.ensures.1 both.1)
