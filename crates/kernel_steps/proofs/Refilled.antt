-- What a receive and a send leave in the buffers, and in the world.
use Rattle.std.proofs.Common.{◌≡◌, ℕ, ◌<◌, List, [], ◌∷◌, ◌++◌, ℤ, length, map, length-set, refl, ap, ◌∙◌, Option, Some, None, slice_get, slice_set}
use Rattle.std.specs.Prelude.{slice_index_or, Bool}
use Rattle.std.proofs.lemmas.List.{length-map}
use Rattle.kernel_base.specs.declared.facts.Facts.{Facts}
use Rattle.kernel_base.specs.declared.request.Alternative.{Alternative}
use Rattle.kernel_base.specs.declared.request.Request.TheVariants.{SendBuffer, ReceiveBuffer}
use Rattle.world_model.specs.declared.world.Phase.{Phase}
use Rattle.world_model.specs.declared.world.Phase.TheVariants.{Active, Waiting}
use Rattle.world_model.specs.declared.world.StoredValue.{StoredValue}
use Rattle.world_model.specs.declared.world.World.{World}
use Rattle.world_model.specs.World.{stored_in, values_but}
use Rattle.kernel_lists.specs.Once.{others}
use Rattle.buffers_signals.specs.declared.messages.Held.{Held}
use Rattle.value_queues.specs.Queues.{with_placed, stored_but}
use Rattle.buffers_signals.specs.Lists.{sender_of, receiver_of}
use Rattle.buffers_signals.specs.Buffers.{SeenBuffers}
use Rattle.kernel_steps.specs.Queued.{sending_in, receiving_in, Trades}
use Rattle.kernel_steps.proofs.Keyed.{mirror_stay, mirror_stop, mirror_begin}
use Rattle.kernel_steps.proofs.Trading.{SameStored, stored_kept, stored_push, stored_without}

-- a value is taken, and no sender is chosen
pub trades_less : (facts : Facts) (w w' : World) (old new : SeenBuffers) (send : ℕ) → w'.phases ≡ w.phases → w'.processes ≡ w.processes → w'.stored ≡ map (values_but send) w.stored
    → new.lengths ≡ old.lengths → new.stored ≡ stored_but send old.stored → new.senders ≡ old.senders → new.receivers ≡ old.receivers → Trades facts w old → Trades facts w' new
trades_less facts w w' old new send phases processes stored lengths less senders receivers h = record {
  lengths = lengths ∙ h.lengths;
  each = ap length stored ∙ length-map w.stored (values_but send) ∙ h.each;
  stored = stored_without w w' old.stored new.stored send stored less h.stored;
  senders = rw (phases, senders) h.senders;
  receivers = rw (phases, processes, receivers) h.receivers;
}

-- one that waited to send is chosen, and what is stored is told apart
pub trades_sent : (facts : Facts) (w w' : World) (old new : SeenBuffers) (sender : ℕ) (b : ℕ) (scalars : List ℤ) (priority : ℕ) (send back : Option ℕ) (phase : Phase) → slice_get w.phases sender ≡ Some (Waiting (SendBuffer b scalars priority) send back) → w'.phases ≡ slice_set w.phases sender phase → w'.processes ≡ w.processes
    → sending_in sender phase ≡ None → receiving_in w.processes sender phase ≡ None → length w'.stored ≡ length w.stored → SameStored new.stored w'
    → new.lengths ≡ old.lengths → new.senders ≡ others sender_of old.senders sender → new.receivers ≡ old.receivers → Trades facts w old → Trades facts w' new
trades_sent facts w w' old new sender b scalars priority send back phase at phases processes none none' each stored lengths senders receivers h = record {
  lengths = lengths ∙ h.lengths;
  each = each ∙ h.each;
  stored = stored;
  senders = rw (phases, senders) (mirror_stop sender_of sending_in old.senders w.phases sender _ phase at none h.senders);
  receivers = rw (phases, processes, receivers) (mirror_stay receiver_of (receiving_in w.processes) old.receivers w.phases sender _ phase at refl none' h.receivers);
}

-- one that waited to receive is handed a value
pub trades_handed : (facts : Facts) (w w' : World) (old new : SeenBuffers) (who : ℕ) (buffers : List Alternative) (otherwise : Bool) (send back : Option ℕ) (phase : Phase) → slice_get w.phases who ≡ Some (Waiting (ReceiveBuffer buffers otherwise) send back) → w'.phases ≡ slice_set w.phases who phase → w'.processes ≡ w.processes → w'.stored ≡ w.stored
    → sending_in who phase ≡ None → receiving_in w.processes who phase ≡ None → new.lengths ≡ old.lengths → new.stored ≡ old.stored → new.senders ≡ old.senders → new.receivers ≡ others receiver_of old.receivers who → Trades facts w old → Trades facts w' new
trades_handed facts w w' old new who buffers otherwise send back phase at phases processes stored none none' lengths kept senders receivers h = record {
  lengths = lengths ∙ h.lengths;
  each = ap length stored ∙ h.each;
  stored = stored_kept w w' old.stored new.stored stored kept h.stored;
  senders = rw (phases, senders) (mirror_stay sender_of sending_in old.senders w.phases who _ phase at refl none h.senders);
  receivers = rw (phases, processes, receivers) (mirror_stop receiver_of (receiving_in w.processes) old.receivers w.phases who _ phase at none' h.receivers);
}

-- a value is stored
pub trades_stored : (facts : Facts) (w w' : World) (old new : SeenBuffers) (one : Held) → one.buffer < length w.stored → one.buffer < length old.stored → w'.phases ≡ w.phases → w'.processes ≡ w.processes → w'.stored ≡ slice_set w.stored one.buffer (stored_in w one.buffer ++ one.value ∷ [])
    → new.lengths ≡ old.lengths → new.stored ≡ with_placed old.stored one.buffer one.value → new.senders ≡ old.senders → new.receivers ≡ old.receivers → Trades facts w old → Trades facts w' new
trades_stored facts w w' old new one low there phases processes stored lengths more senders receivers h = record {
  lengths = lengths ∙ h.lengths;
  each = ap length stored ∙ length-set w.stored one.buffer (stored_in w one.buffer ++ one.value ∷ []) ∙ h.each;
  stored = stored_push w w' old.stored new.stored one low there stored more h.stored;
  senders = rw (phases, senders) h.senders;
  receivers = rw (phases, processes, receivers) h.receivers;
}

-- one comes to wait to send
pub trades_sends : (facts : Facts) (w w' : World) (old new : SeenBuffers) (b : ℕ) (value : StoredValue) (back : Option ℕ) → slice_get w.phases value.sender ≡ Some Active → w'.phases ≡ slice_set w.phases value.sender (Waiting (SendBuffer b value.scalars value.priority) (Some value.send) back) → w'.processes ≡ w.processes → w'.stored ≡ w.stored
    → new.lengths ≡ old.lengths → new.stored ≡ old.stored → new.senders ≡ old.senders ++ record { buffer = b; value = value } ∷ [] → new.receivers ≡ old.receivers → Trades facts w old → Trades facts w' new
trades_sends facts w w' old new b value back at phases processes stored lengths kept senders receivers h = record {
  lengths = lengths ∙ h.lengths;
  each = ap length stored ∙ h.each;
  stored = stored_kept w w' old.stored new.stored stored kept h.stored;
  senders = rw (phases, senders) (mirror_begin sender_of sending_in old.senders w.phases value.sender Active (Waiting (SendBuffer b value.scalars value.priority) (Some value.send) back) (record { buffer = b; value = value }) at refl refl refl h.senders);
  receivers = rw (phases, processes, receivers) (mirror_stay receiver_of (receiving_in w.processes) old.receivers w.phases value.sender Active _ at refl refl h.receivers);
}

-- one comes to wait to receive
pub trades_receives : (facts : Facts) (w w' : World) (old new : SeenBuffers) (who : ℕ) (buffers : List Alternative) (otherwise : Bool) (send back : Option ℕ) → slice_get w.phases who ≡ Some Active → w'.phases ≡ slice_set w.phases who (Waiting (ReceiveBuffer buffers otherwise) send back) → w'.processes ≡ w.processes → w'.stored ≡ w.stored
    → new.lengths ≡ old.lengths → new.stored ≡ old.stored → new.senders ≡ old.senders → new.receivers ≡ old.receivers ++ record { who = who; process = slice_index_or w.processes who 0; things = buffers } ∷ [] → Trades facts w old → Trades facts w' new
trades_receives facts w w' old new who buffers otherwise send back at phases processes stored lengths kept senders receivers h = record {
  lengths = lengths ∙ h.lengths;
  each = ap length stored ∙ h.each;
  stored = stored_kept w w' old.stored new.stored stored kept h.stored;
  senders = rw (phases, senders) (mirror_stay sender_of sending_in old.senders w.phases who Active _ at refl refl h.senders);
  receivers = rw (phases, processes, receivers) (mirror_begin receiver_of (receiving_in w.processes) old.receivers w.phases who Active (Waiting (ReceiveBuffer buffers otherwise) send back) (record { who = who; process = slice_index_or w.processes who 0; things = buffers }) at refl refl refl h.receivers);
}
