use Rattle.std.proofs.Common.{◌≡◌, max, drop}
use Rattle.layout_map.specs.Spots.{words_of}
use Rattle.layout_map.proofs.bits.words.Given as goal

abbrev pub invariant-loop-bits : goal.invariant-loop-bits
invariant-loop-bits l = max l.count (words_of (drop l.bits-index l.bits-items)) ≡ words_of l.layout
