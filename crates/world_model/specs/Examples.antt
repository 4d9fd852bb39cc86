-- Two journals by hand, and the worlds and ends that they come to.
use Rattle.std.specs.Prelude.{◌≡◌, false, List, [], ◌∷◌, pos, Some, None}
use Rattle.kernel_base.specs.declared.facts.Facts.{Facts}
use Rattle.kernel_base.specs.declared.ends.How.TheVariants.{Normal}
use Rattle.kernel_base.specs.declared.ends.Over.TheVariants.{AllEnded, Still}
use Rattle.kernel_base.specs.declared.request.Request.TheVariants.{SendBuffer, ReceiveBuffer, Start, End, Continue, Delay}
use Rattle.kernel_base.specs.declared.request.Alternative.{Alternative}
use Rattle.kernel_base.specs.declared.answer.Answer.TheVariants.{Done, Got, Instance, Stored, Chose}
use Rattle.kernel_base.specs.declared.event.Event.{Event}
use Rattle.kernel_base.specs.declared.event.Event.TheVariants.{Did, Waits, Goes}
use Rattle.world_model.specs.World.{world_of}
use Rattle.world_model.specs.Over.{over_of}
use Rattle.world_model.specs.Journal.{answers_of}

-- one event without a length, one buffer of length 2, two processes
abbrev pub small_facts : Facts
small_facts = record {
  store = [];
  layouts = [];
  regions = 0;
  events = None ∷ [];
  buffers = Some 2 ∷ [];
  processes = 2;
  signals = [];
  input = [];
  units = 1000;
}

abbrev pub only_thing : List Alternative
only_thing = record { thing = 0; number = 0 } ∷ []

-- 10, then 20 with priority 5, are stored; instance 2 waits to store 30
abbrev pub buffer_is_full : List Event
buffer_is_full =
    Did 1 0 (SendBuffer 0 (pos 10 ∷ []) 0) Stored None
    ∷ Did 1 0 (SendBuffer 0 (pos 20 ∷ []) 5) Stored None
    ∷ Did 1 0 (Start 1 []) (Instance 2) None
    ∷ Waits 2 0 (SendBuffer 0 (pos 30 ∷ []) 0)
    ∷ []

-- 20 is received, and 30 takes its place; then 10 and 30 are received
abbrev pub buffer_is_refilled : List Event
buffer_is_refilled =
    Did 1 0 (SendBuffer 0 (pos 10 ∷ []) 0) Stored None
    ∷ Did 1 0 (SendBuffer 0 (pos 20 ∷ []) 5) Stored None
    ∷ Did 1 0 (Start 1 []) (Instance 2) None
    ∷ Waits 2 0 (SendBuffer 0 (pos 30 ∷ []) 0)
    ∷ Did 1 0 (ReceiveBuffer only_thing false) (Got 0 2 (pos 20 ∷ []) 1) (Some 2)
    ∷ Goes 2 Stored
    ∷ Did 2 0 (End Normal) Done None
    ∷ Did 1 0 (ReceiveBuffer only_thing false) (Got 0 1 (pos 10 ∷ []) 1) None
    ∷ Did 1 0 (ReceiveBuffer only_thing false) (Got 0 3 (pos 30 ∷ []) 2) None
    ∷ Did 1 0 (End Normal) Done None
    ∷ []

-- nobody is delayed when the event is continued; then its process delays for ever
abbrev pub delays_for_ever : List Event
delays_for_ever = Did 1 0 (Continue 0) (Chose None) None ∷ Waits 1 0 (Delay only_thing 0) ∷ []

pub record WorkedJournals : Type 0 where
  pub stored : (world_of small_facts buffer_is_full).stored ≡ (record { send = 1; sender = 1; scalars = pos 10 ∷ []; priority = 0 } ∷ record { send = 2; sender = 1; scalars = pos 20 ∷ []; priority = 5 } ∷ []) ∷ []
  pub goes_on : over_of small_facts buffer_is_full ≡ None
  pub nothing_left : (world_of small_facts buffer_is_refilled).stored ≡ [] ∷ []
  pub three_sends : (world_of small_facts buffer_is_refilled).sends ≡ 3
  pub sender_answered : answers_of 2 buffer_is_refilled ≡ Stored ∷ Done ∷ []
  pub all_ended : over_of small_facts buffer_is_refilled ≡ Some AllEnded
  pub still : over_of small_facts delays_for_ever ≡ Some Still
