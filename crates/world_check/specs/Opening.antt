-- Values whose scalars are numbers of 64 bits, and that those of sound facts are such.
use Rattle.std.specs.Prelude.{ℕ, ◌≤◌, List, length, All}
use Rattle.kernel_base.specs.declared.facts.Facts.{Facts}
use Rattle.kernel_base.specs.declared.value.Value.{Value}
use Rattle.kernel_base.specs.Value.{powersets_of}
use Rattle.kernel_base.specs.Facts.{IsSound}

-- no more members than the member mode has values
abbrev pub HasFewMembers : ℕ × List ℕ → Type 0
HasFewMembers powerset = length powerset.1 ≤ powerset.0

abbrev pub HasFewMembersEach : Value → Type 0
HasFewMembersEach value = All HasFewMembers (powersets_of value)

-- Each powerset in the store of sound facts has no more members than its member mode has values.
abbrev pub SoundFactsLaw : Type 0
SoundFactsLaw = (facts : Facts) → IsSound facts → All HasFewMembersEach facts.store
