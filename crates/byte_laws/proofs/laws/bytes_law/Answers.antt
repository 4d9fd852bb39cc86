use Rattle.byte_laws.proofs.laws.bytes_law.Goals as goal
use Rattle.byte_laws.proofs.Items.{tree_bytes}

pub returns : goal.returns
returns c = tree_bytes
