-- Bytes in memory.
use Rattle.std.specs.Prelude.{◌≡◌, ℕ, ◌+◌, ◌<◌, List, [], length, take, drop, Ok, Err}
use Rattle.std.specs.declared.result.Result.{Result}
use Rattle.outside_ports.specs.Faults.{count_after}

-- a feed in memory: its bytes, how many of them are taken, the numbers of the takes that fail, and how many takes there were
-- and failed
pub record FeedState : Type 0 where
  pub whole : List ℕ
  pub taken : ℕ
  pub fails : List ℕ
  pub calls : ℕ
  pub faults : ℕ

abbrev pub new_feed : List ℕ → List ℕ → FeedState
new_feed bytes fails = record { whole = bytes; taken = 0; fails = fails; calls = 0; faults = 0 }

-- the bytes that are left
abbrev pub left_of : FeedState → List ℕ
left_of feed = drop feed.taken feed.whole

-- a front of the bytes stands in the buffer, and there are none only where the bytes or the room end
pub record IsHandedOver (bytes : List ℕ) (n : ℕ) (buffer : List ℕ) : Type 0 where
  pub front : take n buffer ≡ take n bytes
  pub end : n ≡ 0 → 0 < length buffer → bytes ≡ []

-- a take is counted with its bytes or its fault
abbrev pub feed_after : {E : Type 0} → FeedState → Result ℕ E → FeedState
feed_after feed (Ok n) = record feed { taken = feed.taken + n; calls = count_after feed.calls }
feed_after feed (Err _) = record feed { calls = count_after feed.calls; faults = count_after feed.faults }
