-- A sink in memory.
use Rattle.std.specs.Prelude.{◌≡◌, ◌⊎◌, ℕ, ◌-◌, ◌<◌, ◌≤◌, min, List, [], ◌++◌, length, take, if◌then◌else◌, is_err, Ok, Err, Contains}
use Rattle.std.specs.declared.result.Result.{Result}
use Rattle.outside_ports.specs.Faults.{count_after}

-- what it took, how much it takes in one put and in all, the numbers of the puts that fail, and how many puts there
-- were and failed
pub record SinkState : Type 0 where
  pub taken : List ℕ
  pub piece : ℕ
  pub room : ℕ
  pub fails : List ℕ
  pub calls : ℕ
  pub faults : ℕ

abbrev pub new_sink : ℕ → ℕ → List ℕ → SinkState
new_sink piece room fails = record { taken = []; piece = piece; room = room; fails = fails; calls = 0; faults = 0 }

-- the next put is a fault: it is one of those that fail, or bytes come where no room is left
abbrev pub RefusesPut : SinkState → List ℕ → Type 0
RefusesPut sink bytes = Contains sink.fails (count_after sink.calls) ⊎ ((0 < length bytes) × (sink.room ≤ length sink.taken))

-- how many bytes a put takes that is no fault
abbrev pub amount_taken : SinkState → List ℕ → ℕ
amount_taken sink bytes = min (min (length bytes) sink.piece) (sink.room - length sink.taken)

-- a put is counted with its bytes or its fault
abbrev pub sink_after : {E : Type 0} → SinkState → List ℕ → Result ℕ E → SinkState
sink_after sink bytes (Ok n) = record sink { taken = sink.taken ++ take n bytes; calls = count_after sink.calls }
sink_after sink bytes (Err _) = record sink { calls = count_after sink.calls; faults = count_after sink.faults }
