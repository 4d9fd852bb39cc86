use Rattle.written_laws.proofs.laws.written_law.Goals as goal
use Rattle.written_laws.proofs.ShownItem.{short_texts, named_paths, declarations_named}
use Rattle.written_laws.proofs.WrittenSo.{all_written, all_defined}

pub returns : goal.returns
returns c = record { texts = short_texts; paths = named_paths; declarations = declarations_named; written = all_written; defined = all_defined }
