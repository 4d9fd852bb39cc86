use Rattle.std.proofs.Common.{◌≡◌, drop, map, string_bytes}
use Rattle.word_reader.specs.Reading.{reading_of, opening, walk}
use Rattle.word_reader.proofs.reading.walk.Given as goal

abbrev pub invariant-loop-i : goal.invariant-loop-i
invariant-loop-i l = walk l.manner opening (map string_bytes l.words) ≡ walk l.manner (reading_of (map string_bytes l.words) l.reading) (drop l.i (map string_bytes l.words))
