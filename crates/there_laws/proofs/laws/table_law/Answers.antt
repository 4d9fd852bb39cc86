use Rattle.there_laws.proofs.laws.table_law.Goals as goal
use Rattle.there_laws.proofs.Table.{table_there}
use Rattle.there_laws.proofs.Named.{all_named}
use Rattle.there_laws.proofs.Plain.{text_there}
use Rattle.there_laws.proofs.Counted.{counted_there}

pub returns : goal.returns
returns c = record { table = table_there; named = all_named; text = text_there; counters = counted_there }
