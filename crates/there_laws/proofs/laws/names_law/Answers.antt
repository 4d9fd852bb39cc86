use Rattle.there_laws.proofs.laws.names_law.Goals as goal
use Rattle.there_laws.proofs.Names.{all_numbers_there, names_known, results_known, signals_known}
use Rattle.there_laws.proofs.CounterModes.{names_modes}
use Rattle.there_laws.proofs.Received.{received_there, controls_clean}

pub returns : goal.returns
returns c = record { numbers = all_numbers_there; known = names_known; modes = names_modes; results = results_known; signals = signals_known; received = received_there; controls = controls_clean }
