use Rattle.std.proofs.Common.{◌≡◌, drop}
use Rattle.journal_text.specs.Reading.{digits_from}
use Rattle.journal_text.proofs.fields_read.value_of.Given as goal

abbrev pub invariant-loop-byte : goal.invariant-loop-byte
invariant-loop-byte l = digits_from l.most l.read (drop l.byte-index l.word) ≡ digits_from l.most 0 l.word
