use Rattle.std.proofs.Common.{◌≡◌, ◌<◌, ◌≤◌, ◌^◌, ℕ, inl, inr, arith, refl}
use Rattle.std.specs.Int.{bit_at}
use Rattle.std.proofs.lemmas.Bool.{cases_lt}
use Rattle.std.proofs.lemmas.Nat.Bits.{bit_at_above}
use Rattle.kernel_base.proofs.fitting.tells_members.Goals as goal

-- a bit that is set in a number of 32 bits is one of these
below_word : (bits k end : ℕ) → bits < 2 ^ 32 → bit_at bits k ≡ 1 → 32 ≤ end → k < end
below_word bits k end word set past = elim (cases_lt k 32) [
  | inl low ↦ omega arith
  | inr high ↦ absurd (let above : bit_at bits k ≡ 0 = bit_at_above bits 32 k word high in let no : ⊥ = omega arith in no)
]

pub returns : goal.returns
returns c = (
  (λ _ k set. c.loop-k.invariant k (below_word c.args.bits k c.loop-k.k c.ranges.bits.fits set c.loop-k-test.false) set),
  (λ _. refl),
)
