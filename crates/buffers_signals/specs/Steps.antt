-- What single steps of receiving do.
use Rattle.std.specs.Prelude.{List}
use Rattle.kernel_base.specs.declared.request.Alternative.{Alternative}
use Rattle.world_model.specs.declared.world.StoredValue.{StoredValue}
use Rattle.buffers_signals.specs.declared.messages.Held.{Held}
use Rattle.buffers_signals.specs.declared.messages.Received.{Received}
use Rattle.buffers_signals.specs.declared.messages.Received.TheVariants.{Got}
use Rattle.buffers_signals.specs.Buffers.{SeenBuffers, Takes, Values}

-- a value is taken
abbrev pub GotFrom : SeenBuffers → SeenBuffers → List Alternative → Received → Type 0
GotFrom old new buffers (Got answer refill) = Takes old new buffers answer refill
GotFrom old new buffers received = ⊥

-- the values in buffers, and those whose senders wait
abbrev pub values : List (List StoredValue) → List Held → Values
values stored senders = record { stored = stored; senders = senders }
