-- What a wait is for is pushed by Thing: the events of a Delay, the buffers of a Take, and the signals of a Hear.
use Rattle.std.specs.Prelude.{ℕ, zero, suc, Bool, true, false, List, [], ◌∷◌, IsTrue}
use Rattle.code_types.specs.declared.instr.Instr.{Instr}
use Rattle.code_types.specs.declared.instr.Instr.TheVariants.{Push, Thing, Delay, Take, Hear}

abbrev pub is_push : Instr → Bool
is_push (Push k) = true
is_push instr = false

abbrev pub is_thing : Instr → Bool
is_thing (Thing k) = true
is_thing instr = false

-- So many pairs of an event and a number stand before an instruction: Thing, and Push. The instructions before it are told from
-- the last one on.
abbrev pub ArePairs : ℕ → List Instr → Type 0
ArePairs zero before = Unit {0}
ArePairs (suc n) [] = ⊥
ArePairs (suc n) (x ∷ []) = ⊥
ArePairs (suc n) (x ∷ y ∷ before) = IsTrue (is_push x) × IsTrue (is_thing y) × ArePairs n before

-- so many triples of a buffer or a signal and two numbers: Thing, and two Push
abbrev pub AreTriples : ℕ → List Instr → Type 0
AreTriples zero before = Unit {0}
AreTriples (suc n) [] = ⊥
AreTriples (suc n) (x ∷ []) = ⊥
AreTriples (suc n) (x ∷ y ∷ []) = ⊥
AreTriples (suc n) (x ∷ y ∷ z ∷ before) = IsTrue (is_push x) × IsTrue (is_push y) × IsTrue (is_thing z) × AreTriples n before

-- what an instruction waits for is given by those before it
abbrev pub IsGiven : List Instr → Instr → Type 0
IsGiven before (Delay n priority) = ArePairs n before
IsGiven before (Take n otherwise) = AreTriples n before
IsGiven before (Hear n otherwise) = AreTriples n before
IsGiven before instr = Unit {0}

-- so is it for each of these instructions, behind others
abbrev pub AreGiven : List Instr → List Instr → Type 0
AreGiven before [] = Unit {0}
AreGiven before (instr ∷ is) = IsGiven before instr × AreGiven (instr ∷ before) is
