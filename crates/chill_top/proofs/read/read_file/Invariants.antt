use Rattle.std.proofs.Common.{◌≡◌, ◌≤◌, ◌-◌, ℕ, List, length, vec_len}
use Rattle.chill_top.specs.Reading.{IsFront}
use Rattle.chill_top.proofs.read.read_file.Given as goal

-- the text so far is a front of the file, and no count rose
abbrev pub invariant-pieces : goal.invariant-pieces
invariant-pieces g l =
    let library = g.L.Library in
    record {
      front : IsFront (library.contents l.library l.name) l.text.items;
      fits : length l.text.items ≤ l.most;
      same : (n : List ℕ) → library.contents l.library n ≡ library.contents l.fn.library n;
      stays : (n : List ℕ) → library.faults l.library n ≡ library.faults l.fn.library n;
      room : length l.piece.items ≡ 65536;
    }

abbrev pub decreases-pieces : goal.decreases-pieces
decreases-pieces g l = l.most - vec_len l.text
