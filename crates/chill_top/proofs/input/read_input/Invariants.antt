use Rattle.std.proofs.Common.{◌≡◌, ◌≤◌, ◌-◌, length, vec_len}
use Rattle.chill_top.specs.Reading.{IsTaken}
use Rattle.chill_top.proofs.input.read_input.Given as goal

-- a front of the input is taken, and no count rose
abbrev pub invariant-pieces : goal.invariant-pieces
invariant-pieces g l =
    let feed = g.I.Feed in
    record {
      taken : IsTaken (feed.bytes l.fn.feed) (feed.bytes l.feed) l.input.items;
      fits : length l.input.items ≤ 1048577;
      stays : feed.faults l.feed ≡ feed.faults l.fn.feed;
      room : length l.piece.items ≡ 65536;
    }

abbrev pub decreases-pieces : goal.decreases-pieces
decreases-pieces g l = 1048577 - vec_len l.input
