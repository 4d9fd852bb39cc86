use Rattle.world_check.proofs.pending.may_take.Goals as goal

pub returns : goal.returns
returns c = (λ is. record { listed = c.is_listed_as.ensures.0 c.if-not-is_listed_as.false; is = c.is_value.ensures.0 c.if-not-is_value.false; highest = c.no_signal_above.ensures.0 is }, λ may. c.no_signal_above.ensures.1 may.highest)
