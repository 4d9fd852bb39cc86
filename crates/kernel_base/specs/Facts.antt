-- When facts are sound, which numbers a scalar takes, and which requests fit.
use Rattle.std.specs.Prelude.{◌≡◌, ℕ, ◌+◌, ◌-◌, ◌^◌, ◌<◌, ◌≤◌, ℤ, pos, neg_ℤ, ◌≤ℤ◌, ◌<ℤ◌, List, length, slice_get, slice_index_or, Some, All, AllPairs, EachIndex, MatchBool, IfSome, IsSomeAnd}
use Rattle.std.specs.Int.{bit_at}
use Rattle.std.specs.List.Sorted.{IsStrictlyIncreasing}
use Rattle.kernel_base.specs.declared.request.Place.{Place}
use Rattle.kernel_base.specs.declared.request.Alternative.{Alternative}
use Rattle.kernel_base.specs.declared.request.Request.{Request}
use Rattle.kernel_base.specs.declared.request.Request.TheVariants.{Read, Write, Enter, Leave, Delay, Continue, SendBuffer, ReceiveBuffer, SendSignal, ReceiveSignal, Start, Put, Get, End}
use Rattle.chill_base.specs.declared.layout.Bits.{Bits}
use Rattle.kernel_base.specs.declared.facts.Facts.{Facts}
use Rattle.kernel_base.specs.declared.value.Value.{Value}
use Rattle.kernel_base.specs.declared.value.ScalarKind.{ScalarKind}
use Rattle.kernel_base.specs.declared.value.ScalarKind.TheVariants.{Plain, Powerset}
use Rattle.kernel_base.specs.Value.{scalars_of, kinds_of, powersets_of}

-- bits that a word has
pub record IsInWord (bits : Bits) : Type 0 where
  pub ordered : bits.start ≤ bits.end
  pub within : bits.end ≤ 31

-- a number from -(2 ^ top) to 2 ^ top - 1, which takes top + 1 bits in two's complement
pub record IsSignedBelow (top : ℕ) (number : ℤ) : Type 0 where
  pub low : neg_ℤ (pos (2 ^ top)) ≤ℤ number
  pub high : number <ℤ pos (2 ^ top)

-- a number from 0 to 2 ^ count - 1, which takes count bits
pub record IsUnsignedBelow (count : ℕ) (number : ℤ) : Type 0 where
  pub low : pos 0 ≤ℤ number
  pub high : number <ℤ pos (2 ^ count)

-- a number that these bits hold
pub record IsWithinBits (bits : Bits) (number : ℤ) : Type 0 where
  pub in_word : IsInWord bits
  pub fits : MatchBool bits.signed (IsSignedBelow (bits.end - bits.start) number) (IsUnsignedBelow (bits.end - bits.start + 1) number)

-- each member that these bits tell, from offset first on, is one of a powerset of so many
abbrev pub HasNoOther : ℕ → ℕ → ℕ → Type 0
HasNoOther size first bits = (k : ℕ) → bit_at bits k ≡ 1 → first + k < size

-- a number of 32 bits, each of which tells a member that the powerset has
pub record TellsMembers (size first : ℕ) (number : ℤ) : Type 0 where
  pub bits : ℕ
  pub is : number ≡ pos bits
  pub word : bits < 2 ^ 32
  pub members : HasNoOther size first bits

-- a number that may stand for a scalar of this kind, as far as its kind goes
abbrev pub FitsKind : ScalarKind → ℤ → Type 0
FitsKind Plain number = Unit {0}
FitsKind (Powerset size first) number = TellsMembers size first number

-- where the location's layout has bits for scalar number `index`, they hold the number
abbrev pub FitsLayout : Facts → ℕ → ℕ → ℤ → Type 0
FitsLayout facts location index number = (layout : List Bits) (bits : Bits) → slice_get facts.layouts location ≡ Some layout → slice_get layout index ≡ Some bits → IsWithinBits bits number

-- where scalar number `index` of the location belongs to a powerset, the number tells members of it
abbrev pub FitsValue : Facts → ℕ → ℕ → ℤ → Type 0
FitsValue facts location index number = (value : Value) (kind : ScalarKind) → slice_get facts.store location ≡ Some value → slice_get (kinds_of value) index ≡ Some kind → FitsKind kind number

-- a number within the bits of a location's scalar
pub record FitsScalar (facts : Facts) (location index : ℕ) (number : ℤ) : Type 0 where
  pub layout : FitsLayout facts location index number
  pub value : FitsValue facts location index number

-- a place lies in its location
pub record LiesInLocation (facts : Facts) (place : Place) : Type 0 where
  pub location : place.location < length facts.store
  pub scalars : IsSomeAnd (slice_get facts.layouts place.location) (λ layout. place.first + place.count ≤ length layout)

-- as many scalars as the place counts, each within its bits
pub record FitsWrite (facts : Facts) (place : Place) (scalars : List ℤ) : Type 0 where
  pub lies : LiesInLocation facts place
  pub count : length scalars ≡ place.count
  pub within : EachIndex scalars (λ k. FitsScalar facts place.location (place.first + k) (slice_index_or scalars k (pos 0)))

-- what the alternatives name is there
abbrev pub NameThings : ℕ → List Alternative → Type 0
NameThings count alternatives = All (λ alternative. alternative.thing < count) alternatives

-- What a request names is there, its place lies in its location, and what it writes is within the bits.
abbrev pub FitsRequest : Facts → Request → Type 0
FitsRequest facts (Read place) = LiesInLocation facts place
FitsRequest facts (Write place scalars) = FitsWrite facts place scalars
FitsRequest facts (Enter region) = region < facts.regions
FitsRequest facts (Leave region) = region < facts.regions
FitsRequest facts (Delay events priority) = NameThings (length facts.events) events
FitsRequest facts (Continue event) = event < length facts.events
FitsRequest facts (SendBuffer buffer scalars priority) = buffer < length facts.buffers
FitsRequest facts (ReceiveBuffer buffers otherwise) = NameThings (length facts.buffers) buffers
FitsRequest facts (SendSignal signal scalars to priority) = signal < length facts.signals
FitsRequest facts (ReceiveSignal signals otherwise) = NameThings (length facts.signals) signals
FitsRequest facts (Start process scalars) = process < facts.processes
FitsRequest facts (Put bytes) = Unit {0}
FitsRequest facts Get = Unit {0}
FitsRequest facts (End how) = Unit {0}

-- the bit of the word is one of these bits
pub record HasBit (bits : Bits) (word bit : ℕ) : Type 0 where
  pub in_word : word ≡ bits.word
  pub low : bits.start ≤ bit
  pub high : bit ≤ bits.end

-- no bit belongs to both
abbrev pub ShareNoBit : Bits → Bits → Type 0
ShareNoBit a b = (word bit : ℕ) → HasBit a word bit → HasBit b word bit → ⊥

-- the members' offsets rise and are below the number of values of the member mode
pub record IsPowerset (powerset : ℕ × List ℕ) : Type 0 where
  pub rise : IsStrictlyIncreasing powerset.1
  pub below : All (λ offset. offset < powerset.0) powerset.1

-- A location of this value has this layout: a place for each scalar, in which the scalar fits, and no two share a bit.
pub record IsLaidOut (value : Value) (layout : List Bits) : Type 0 where
  pub count : length (scalars_of value) ≡ length layout
  pub in_words : All IsInWord layout
  pub apart : AllPairs ShareNoBit layout
  pub within : (k : ℕ) (bits : Bits) (number : ℤ) → slice_get layout k ≡ Some bits → slice_get (scalars_of value) k ≡ Some number → IsWithinBits bits number
  pub powersets : All IsPowerset (powersets_of value)

-- Facts from which a run may start.
pub record IsSound (facts : Facts) : Type 0 where
  pub locations : length facts.layouts ≡ length facts.store
  pub laid_out : (location : ℕ) (value : Value) (layout : List Bits) → slice_get facts.store location ≡ Some value → slice_get facts.layouts location ≡ Some layout → IsLaidOut value layout
  pub signals : All (λ to. IfSome to (λ process. process < facts.processes)) facts.signals
  pub least_budget : 1 ≤ facts.units
  pub greatest_budget : facts.units ≤ 10000000
