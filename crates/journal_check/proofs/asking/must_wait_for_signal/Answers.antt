use Rattle.journal_check.proofs.asking.must_wait_for_signal.Goals as goal

pub returns-then-not-otherwise : goal.returns-then-not-otherwise
returns-then-not-otherwise c = (λ is. (c.if-not-otherwise.true, c.no_signal_pends.ensures.0 is), λ both. c.no_signal_pends.ensures.1 both.1)
