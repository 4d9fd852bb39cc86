use Rattle.std.proofs.Common.{ℕ, Option, ap, sym, ◌∙◌}
use Rattle.std.specs.List.{find}
use Rattle.std.specs.Option.{option_map}
use Rattle.buffers_signals.specs.Lists.{receiver_of}
use Rattle.buffers_signals.specs.Signals.{is_receiver}
use Rattle.buffers_signals.proofs.Hearing.{addressed, first_of_all}
use Rattle.buffers_signals.proofs.signals.receiver_for.Goals as goal

pub returns-in-Some : goal.returns-in-Some
returns-in-Some c =
    c.addressed.ensures ∙ ap (option_map receiver_of) (addressed c.args.signal c.in-Some.to c.args.receivers.now.receivers c.each_once.ensures)
    ∙ ap (λ (o : Option ℕ). option_map receiver_of (find (is_receiver c.args.wanted.now c.args.signal o) c.args.receivers.now.receivers)) (sym c.in-Some.is)

pub returns-in-None : goal.returns-in-None
returns-in-None c =
    c.first_of.ensures ∙ first_of_all c.args.wanted.now c.args.signal c.args.receivers.now.receivers c.each_once.ensures
    ∙ ap (λ (o : Option ℕ). option_map receiver_of (find (is_receiver c.args.wanted.now c.args.signal o) c.args.receivers.now.receivers)) (sym c.in-None.is)
