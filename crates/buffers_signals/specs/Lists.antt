-- Words on the lists of senders and receivers.
use Rattle.std.specs.Prelude.{◌≡◌, ℕ, ◌==◌, Bool, List, slice_get, Some, is_some}
use Rattle.std.specs.List.{count_by}
use Rattle.world_model.specs.Lists.{number_for}
use Rattle.buffers_signals.specs.declared.messages.Held.{Held}
use Rattle.buffers_signals.specs.declared.messages.Receiver.{Receiver}

abbrev pub sender_of : Held → ℕ
sender_of held = held.value.sender

abbrev pub receiver_of : Receiver → ℕ
receiver_of receiver = receiver.who

-- it stands in the list
abbrev pub IsIn : {X : Type 0} → List X → X → Type 0
IsIn xs x = (place : ℕ) × (slice_get xs place ≡ Some x)

-- how often a send number stands among these values
abbrev pub times_held : ℕ → List Held → ℕ
times_held send held = count_by (λ h. h.value.send == send) held

-- it lists the buffer or signal
abbrev pub lists : ℕ → Receiver → Bool
lists thing receiver = is_some (number_for receiver.things thing)
