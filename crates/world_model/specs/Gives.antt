-- Which answers can come for a request, whatever the world.
use Rattle.std.specs.Prelude.{◌≡◌, ℕ, zero, suc, ◌≤◌, Bool, List, [], ◌∷◌, ℤ, pos, neg_ℤ, ◌≤ℤ◌, length, Some, None, IsTrue}
use Rattle.std.specs.declared.option.Option.{Option}
use Rattle.kernel_base.specs.declared.ends.Exc.TheVariants.{Rangefail, Empty, Delayfail, Spacefail, Extinct}
use Rattle.kernel_base.specs.declared.request.Alternative.{Alternative}
use Rattle.kernel_base.specs.declared.request.Request.{Request}
use Rattle.kernel_base.specs.declared.request.Request.TheVariants.{Read, Write, Enter, Leave, Delay, Continue, SendBuffer, ReceiveBuffer, SendSignal, ReceiveSignal, Start, Put, Get, End}
use Rattle.kernel_base.specs.declared.answer.Answer.{Answer}
use Rattle.kernel_base.specs.declared.answer.Answer.TheVariants.{Value, Done, Woken, Got, Otherwise, Instance, Fail, Chose, Handed, Stored}
use Rattle.world_model.specs.Lists.{number_for}

-- the number of the first alternative of something that is listed
abbrev pub IsListed : List Alternative → ℕ → Type 0
IsListed alternatives number = (thing : ℕ) × (number_for alternatives thing ≡ Some number)

abbrev pub GivesRead : ℕ → Answer → Type 0
GivesRead count (Value scalars) = length scalars ≡ count
GivesRead count answer = ⊥

abbrev pub GivesDelay : List Alternative → Answer → Type 0
GivesDelay events (Fail Delayfail) = Unit {0}
GivesDelay events (Woken alternative by) = IsListed events alternative × (1 ≤ by)
GivesDelay events answer = ⊥

abbrev pub GivesContinue : Answer → Type 0
GivesContinue (Chose None) = Unit {0}
GivesContinue (Chose (Some p)) = 1 ≤ p
GivesContinue answer = ⊥

abbrev pub GivesSendBuffer : Answer → Type 0
GivesSendBuffer (Handed p) = 1 ≤ p
GivesSendBuffer Stored = Unit {0}
GivesSendBuffer answer = ⊥

abbrev pub GivesReceive : List Alternative → Bool → Answer → Type 0
GivesReceive things otherwise (Got alternative send scalars by) = IsListed things alternative × (1 ≤ send) × (1 ≤ by)
GivesReceive things otherwise Otherwise = IsTrue otherwise
GivesReceive things otherwise answer = ⊥

abbrev pub GivesSendSignal : Option ℕ → Answer → Type 0
GivesSendSignal (Some zero) (Fail Empty) = Unit {0}
GivesSendSignal (Some (suc i)) (Fail Extinct) = Unit {0}
GivesSendSignal (Some (suc i)) (Handed p) = p ≡ suc i
GivesSendSignal (Some (suc i)) Stored = Unit {0}
GivesSendSignal None (Handed p) = 1 ≤ p
GivesSendSignal None Stored = Unit {0}
GivesSendSignal to answer = ⊥

abbrev pub GivesStart : Answer → Type 0
GivesStart (Fail Spacefail) = Unit {0}
GivesStart (Instance i) = 2 ≤ i
GivesStart answer = ⊥

abbrev pub IsInt : ℤ → Type 0
IsInt number = (neg_ℤ (pos 2147483648) ≤ℤ number) × (number ≤ℤ pos 2147483647)

abbrev pub GivesGet : Answer → Type 0
GivesGet (Value (number ∷ [])) = IsInt number
GivesGet (Fail Empty) = Unit {0}
GivesGet (Fail Rangefail) = Unit {0}
GivesGet answer = ⊥

-- the answer can come for the request
abbrev pub Gives : Request → Answer → Type 0
Gives (Read place) answer = GivesRead place.count answer
Gives (Write place scalars) answer = answer ≡ Done
Gives (Enter region) answer = answer ≡ Done
Gives (Leave region) answer = answer ≡ Done
Gives (Delay events priority) answer = GivesDelay events answer
Gives (Continue event) answer = GivesContinue answer
Gives (SendBuffer buffer scalars priority) answer = GivesSendBuffer answer
Gives (ReceiveBuffer buffers otherwise) answer = GivesReceive buffers otherwise answer
Gives (SendSignal signal scalars to priority) answer = GivesSendSignal to answer
Gives (ReceiveSignal signals otherwise) answer = GivesReceive signals otherwise answer
Gives (Start process scalars) answer = GivesStart answer
Gives (Put bytes) answer = answer ≡ Done
Gives Get answer = GivesGet answer
Gives (End how) answer = answer ≡ Done
