use Rattle.elaborated_laws.proofs.laws.known_law.Goals as goal
use Rattle.elaborated_laws.proofs.Constants.{class_there}
use Rattle.elaborated_laws.proofs.Modes.{mode_fits}
use Rattle.elaborated_laws.proofs.Table.{table_known}
use Rattle.elaborated_laws.proofs.Classes.{class_mode}
use Rattle.elaborated_laws.proofs.Rows.{leads, text_size_is, reads_input_is}

pub returns : goal.returns
returns c = record { class = class_there; mode = mode_fits; class_mode = class_mode; table = table_known; rows = leads; size = text_size_is; input = reads_input_is }
