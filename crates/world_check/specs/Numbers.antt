-- Numbers of any size, told by numbers that stop rising at a limit.
use Rattle.std.specs.Prelude.{◌≡◌, ℕ, ◌<◌, ◌≤◌, [], ◌∷◌, ℤ, Some, None, Ok, Err}
use Rattle.std.specs.declared.option.Option.{Option}
use Rattle.std.specs.declared.result.Result.{Result}
use Rattle.kernel_base.specs.declared.ends.Exc.{Exc}
use Rattle.kernel_base.specs.declared.answer.Answer.{Answer}
use Rattle.kernel_base.specs.declared.answer.Answer.TheVariants.{Value, Fail}
use Rattle.kernel_base.specs.declared.ends.Exc.TheVariants.{Rangefail}

-- above each number that GET_INT may answer, without its sign
abbrev pub limit : ℕ
limit = 4294967296

-- the number itself below the limit, else the limit
pub record IsClipped (number clipped : ℕ) : Type 0 where
  pub same : number < limit → clipped ≡ number
  pub above : limit ≤ number → clipped ≡ limit

-- no number in either case, or a number and the same number clipped
abbrev pub AreClipped : Option ℕ → Option ℕ → Type 0
AreClipped None None = Unit {0}
AreClipped None (Some clipped) = ⊥
AreClipped (Some number) None = ⊥
AreClipped (Some number) (Some clipped) = IsClipped number clipped

-- the answer that tells a number, or that there is none in the range
abbrev pub answer_of : Option ℤ → Answer
answer_of None = Fail Rangefail
answer_of (Some number) = Value (number ∷ [])

-- the answer that tells a number, or an exception
abbrev pub told_by : Result ℤ Exc → Answer
told_by (Ok number) = Value (number ∷ [])
told_by (Err exception) = Fail exception
