use Rattle.std.proofs.Common.{◌≡◌, ◌++◌, take, length}
use Rattle.std.specs.List.{flat_map}
use Rattle.journal_text.specs.Journal.{number_text, scalar_text}
use Rattle.journal_text.proofs.fields_written.push_scalars.Given as goal

abbrev pub invariant-loop-scalar : goal.invariant-loop-scalar
invariant-loop-scalar l = l.text.items ≡ l.fn.text.items ++ (number_text (length l.scalars) ++ flat_map scalar_text (take l.scalar-index l.scalars))
