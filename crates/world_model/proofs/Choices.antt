-- What was chosen by priority had the highest.
use Rattle.std.proofs.Common.{◌≡◌, ℕ, zero, suc, List, ℤ, refl, ap, Option, Some, None}
use Rattle.kernel_base.specs.declared.facts.Facts.{Facts}
use Rattle.kernel_base.specs.declared.request.Alternative.{Alternative}
use Rattle.kernel_base.specs.declared.request.Request.TheVariants.{Continue, ReceiveBuffer, ReceiveSignal}
use Rattle.kernel_base.specs.declared.answer.Answer.TheVariants.{Got, Chose}
use Rattle.kernel_base.specs.declared.event.Event.{Event}
use Rattle.kernel_base.specs.declared.event.Event.TheVariants.{Did}
use Rattle.world_model.specs.declared.world.StoredValue.{StoredValue}
use Rattle.world_model.specs.declared.world.World.{World}
use Rattle.world_model.specs.World.{world_of, buffer_length}
use Rattle.world_model.specs.Allowed.{IsPossible, TakesValue, TakesSignal, IsRefill, IsCandidateOf}
use Rattle.world_model.specs.Laws.{PriorityLaw, ChoseHighest, IsRefilledByHighest, GotHighestValue, GotHighestSignal}
use Rattle.world_model.proofs.RunParts.{next_allowed}

-- the refill, by the length of the buffer
refilled : (facts : Facts) (w : World) (length : Option ℕ) (buffer : ℕ) (value : StoredValue) (refill : Option ℕ) → buffer_length facts buffer ≡ length → IsCandidateOf length w buffer value → IsRefill length w buffer value.sender refill → IsRefilledByHighest facts w refill
refilled facts w length buffer value None is from r = tt
refilled facts w None buffer value (Some sender) is from r = absurd (let f : ⊥ = cc in f)
refilled facts w (Some zero) buffer value (Some sender) is from r = record {
  buffer = buffer;
  value = value;
  is_sender = let e : value.sender ≡ sender = cc in e;
  offered = from;
  highest = λ n positive other offered. absurd (let f : ⊥ = cc in f);
}
refilled facts w (Some (suc n)) buffer value (Some sender) is from r = record {
  buffer = buffer;
  value = r.0;
  is_sender = r.1;
  offered = r.2;
  highest = λ m positive other offered. r.3 other offered;
}

took_highest : (facts : Facts) (w : World) (buffers : List Alternative) (alternative : ℕ) (value : StoredValue) (refill : Option ℕ) → TakesValue facts w buffers alternative value refill → GotHighestValue facts w buffers value.send value.sender value.scalars × IsRefilledByHighest facts w refill
took_highest facts w buffers alternative value refill takes = (
  record { buffer = takes.buffer; alternative = alternative; value = value; is_send = refl; is_sender = refl; are_scalars = refl; listed = takes.listed; candidate = takes.candidate; highest = takes.highest },
  refilled facts w (buffer_length facts takes.buffer) takes.buffer value refill refl takes.candidate takes.refills,
)

took_signal : (facts : Facts) (w : World) (who : ℕ) (signals : List Alternative) (alternative send : ℕ) (scalars : List ℤ) (by : ℕ) → TakesSignal facts w who signals alternative send scalars by → GotHighestSignal facts w who signals send by scalars
took_signal facts w who signals alternative send scalars by takes = record {
  alternative = alternative;
  signal = takes.signal;
  is_send = ap (λ (v : StoredValue). v.send) takes.is;
  is_sender = ap (λ (v : StoredValue). v.sender) takes.is;
  are_scalars = ap (λ (v : StoredValue). v.scalars) takes.is;
  pends = takes.pends;
  highest = takes.highest;
}

chose_highest : (facts : Facts) (w : World) (event : Event) → IsPossible facts w event → ChoseHighest facts w event
chose_highest facts w (Did who ticks (Continue event) (Chose (Some p)) refill) may = may.1.1
chose_highest facts w (Did who ticks (ReceiveBuffer buffers otherwise) (Got alternative send scalars by) refill) may = took_highest facts w buffers alternative (record { send = send; sender = by; scalars = scalars; priority = may.1.0 }) refill may.1.1
chose_highest facts w (Did who ticks (ReceiveSignal signals otherwise) (Got alternative send scalars by) refill) may = took_signal facts w who signals alternative send scalars by may.1.1
chose_highest facts w event may = tt

pub priority_law : PriorityLaw
priority_law facts before event behind run = chose_highest facts (world_of facts before) event (next_allowed facts before event behind run).possible
