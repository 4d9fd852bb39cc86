use Rattle.std.proofs.Common.{◌≡◌, ◌-◌, length, take}
use Rattle.std.specs.Io.KnownBytes.{Appends}
use Rattle.chill_top.proofs.write.write_all.Given as goal

-- a front of the text is taken, and no count rose
abbrev pub invariant-puts : goal.invariant-puts
invariant-puts g l =
    let sink = g.S.Sink in
    record {
      front : Appends (sink.taken l.fn.sink) (sink.taken l.sink) (take l.done l.text);
      stays : sink.faults l.sink ≡ sink.faults l.fn.sink;
    }

abbrev pub decreases-puts : goal.decreases-puts
decreases-puts g l = length l.text - l.done
