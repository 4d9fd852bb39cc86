-- What watchers are after they were shown a journal, and which of them are gone.
use Rattle.std.specs.Prelude.{◌≡◌, ℕ, ◌+◌, ◌≤◌, List, [], ◌∷◌, length, take, Bool, true, false, IsTrue, IsFalse, if◌then◌else◌, Ok, Err}
use Rattle.std.specs.declared.result.Result.{Result}
use Rattle.kernel_base.specs.declared.event.Event.{Event}
use Rattle.outside_ports.specs.Watcher.{Watching, after, refuses_now}
use Rattle.outside_ports.specs.declared.watcher.WatchFault.{WatchFault}
use Rattle.outside_ports.specs.declared.watcher.WatchFault.TheVariants.{Refused, Memory}

-- a watcher after these events, one by one
abbrev pub fold_of : Watching → List Event → Watching
fold_of watching [] = watching
fold_of watching (event ∷ events) = fold_of (after watching event) events

-- it refuses some event of these, in the state after those before that one
abbrev pub refuses_some : Watching → List Event → Bool
refuses_some watching [] = false
refuses_some watching (event ∷ events) = if refuses_now watching event then true else refuses_some (after watching event) events

-- those that refuse none of the events, in their order, each after all of the events
abbrev pub stayed : List Watching → List Event → List Watching
stayed [] events = []
stayed (watching ∷ others) events = if refuses_some watching events then stayed others events else fold_of watching events ∷ stayed others events

-- the places of those that refuse some event, rising, where the first has this place
abbrev pub places_from : ℕ → List Watching → List Event → List ℕ
places_from first [] events = []
places_from first (watching ∷ others) events =
    if refuses_some watching events then first ∷ places_from (first + 1) others events else places_from (first + 1) others events

-- the places of those that refuse some event, counted from 0, rising
abbrev pub places : List Watching → List Event → List ℕ
places watchings events = places_from 0 watchings events

-- a watcher saw the first of the events, and refused none of them
pub record SawFirst (old : Watching) (events : List Event) (new : Watching) : Type 0 where
  pub count : ℕ
  pub few : count ≤ length events
  pub saw : IsFalse (refuses_some old (take count events))
  pub folded : new ≡ fold_of old (take count events)

-- what is left of watchers where the showing broke off: those that are gone refuse some event, and the others saw the first of the
-- events, in their order
pub data IsLeft (events : List Event) : List Watching → List Watching → Type 0 where
  nothing : IsLeft events [] []
  kept : {old new : Watching} {others rest : List Watching} → SawFirst old events new → IsLeft events others rest → IsLeft events (old ∷ others) (new ∷ rest)
  dropped : {old : Watching} {others rest : List Watching} → IsTrue (refuses_some old events) → IsLeft events others rest → IsLeft events (old ∷ others) rest

-- one watcher was shown the events
abbrev pub IsShown : Watching → List Event → Result (Unit {0}) WatchFault → Watching → Type 0
IsShown old events (Ok _) new = IsFalse (refuses_some old events) × (new ≡ fold_of old events)
IsShown old events (Err Refused) new = IsTrue (refuses_some old events)
IsShown old events (Err Memory) new = SawFirst old events new
