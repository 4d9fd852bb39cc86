-- The ranges of the numbers in an event.
use Rattle.std.specs.Prelude.{ℕ, ◌^◌, ◌<◌, List, ℤ, pos, neg_ℤ, ◌≤ℤ◌, ◌<ℤ◌, IfSome, All}
use Rattle.kernel_base.specs.declared.ends.Exc.{Exc}
use Rattle.kernel_base.specs.declared.ends.Exc.TheVariants.{User}
use Rattle.kernel_base.specs.declared.ends.How.{How}
use Rattle.kernel_base.specs.declared.ends.How.TheVariants.{Raised}
use Rattle.kernel_base.specs.declared.request.Place.{Place}
use Rattle.kernel_base.specs.declared.request.Alternative.{Alternative}
use Rattle.kernel_base.specs.declared.request.Request.{Request}
use Rattle.kernel_base.specs.declared.request.Request.TheVariants.{Read, Write, Enter, Leave, Delay, Continue, SendBuffer, ReceiveBuffer, SendSignal, ReceiveSignal, Start, Put, Get, End}
use Rattle.kernel_base.specs.declared.answer.Answer.{Answer}
use Rattle.kernel_base.specs.declared.answer.Answer.TheVariants.{Value, Done, Woken, Got, Otherwise, Instance, Fail, Chose, Handed, Stored}
use Rattle.kernel_base.specs.declared.event.Event.{Event}
use Rattle.kernel_base.specs.declared.event.Event.TheVariants.{Did, Waits, Goes, Runs}

-- the number of a thing or an instance, a count or a priority
abbrev pub IsNumber : ℕ → Type 0
IsNumber n = n < 2 ^ 32

abbrev pub IsScalar : ℤ → Type 0
IsScalar z = (neg_ℤ (pos (2 ^ 63)) ≤ℤ z) × (z <ℤ pos (2 ^ 63))

abbrev pub AreScalars : List ℤ → Type 0
AreScalars scalars = All IsScalar scalars

pub record IsPlaceInRange (place : Place) : Type 0 where
  pub location : IsNumber place.location
  pub first : IsNumber place.first
  pub count : IsNumber place.count

abbrev pub AreAlternatives : List Alternative → Type 0
AreAlternatives alternatives = All (λ a. IsNumber a.thing × IsNumber a.number) alternatives

abbrev pub IsExcInRange : Exc → Type 0
IsExcInRange (User n) = IsNumber n
IsExcInRange exception = Unit {0}

abbrev pub IsHowInRange : How → Type 0
IsHowInRange (Raised exception) = IsExcInRange exception
IsHowInRange how = Unit {0}

abbrev pub IsRequestInRange : Request → Type 0
IsRequestInRange (Read place) = IsPlaceInRange place
IsRequestInRange (Write place scalars) = IsPlaceInRange place × AreScalars scalars
IsRequestInRange (Enter region) = IsNumber region
IsRequestInRange (Leave region) = IsNumber region
IsRequestInRange (Delay events priority) = AreAlternatives events × IsNumber priority
IsRequestInRange (Continue event) = IsNumber event
IsRequestInRange (SendBuffer buffer scalars priority) = IsNumber buffer × AreScalars scalars × IsNumber priority
IsRequestInRange (ReceiveBuffer buffers otherwise) = AreAlternatives buffers
IsRequestInRange (SendSignal signal scalars to priority) = IsNumber signal × AreScalars scalars × IfSome to IsNumber × IsNumber priority
IsRequestInRange (ReceiveSignal signals otherwise) = AreAlternatives signals
IsRequestInRange (Start process scalars) = IsNumber process × AreScalars scalars
IsRequestInRange (Put bytes) = All (λ byte. byte < 256) bytes
IsRequestInRange Get = Unit {0}
IsRequestInRange (End how) = IsHowInRange how

abbrev pub IsAnswerInRange : Answer → Type 0
IsAnswerInRange (Value scalars) = AreScalars scalars
IsAnswerInRange Done = Unit {0}
IsAnswerInRange (Woken alternative by) = IsNumber alternative × IsNumber by
IsAnswerInRange (Got alternative send scalars by) = IsNumber alternative × IsNumber send × AreScalars scalars × IsNumber by
IsAnswerInRange Otherwise = Unit {0}
IsAnswerInRange (Instance i) = IsNumber i
IsAnswerInRange (Fail exception) = IsExcInRange exception
IsAnswerInRange (Chose chosen) = IfSome chosen IsNumber
IsAnswerInRange (Handed p) = IsNumber p
IsAnswerInRange Stored = Unit {0}

-- each number in an event has the range of its type
abbrev pub IsInRange : Event → Type 0
IsInRange (Did who ticks request answer refill) = IsNumber who × IsNumber ticks × IsRequestInRange request × IsAnswerInRange answer × IfSome refill IsNumber
IsInRange (Waits who ticks request) = IsNumber who × IsNumber ticks × IsRequestInRange request
IsInRange (Goes who answer) = IsNumber who × IsAnswerInRange answer
IsInRange (Runs who ticks) = IsNumber who × IsNumber ticks
