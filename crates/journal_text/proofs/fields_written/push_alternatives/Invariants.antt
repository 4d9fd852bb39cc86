use Rattle.std.proofs.Common.{◌≡◌, ◌++◌, take, length}
use Rattle.std.specs.List.{flat_map}
use Rattle.journal_text.specs.Journal.{number_text, alternative_text}
use Rattle.journal_text.proofs.fields_written.push_alternatives.Given as goal

abbrev pub invariant-loop-alternative : goal.invariant-loop-alternative
invariant-loop-alternative l = l.text.items ≡ l.fn.text.items ++ (number_text (length l.alternatives) ++ flat_map alternative_text (take l.alternative-index l.alternatives))
