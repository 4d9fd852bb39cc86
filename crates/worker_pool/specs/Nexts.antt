-- What a worker finds to do.
use Rattle.std.specs.Prelude.{ℕ, ◌<◌}
use Rattle.worker_pool.specs.declared.shared.Next.{Next}
use Rattle.worker_pool.specs.declared.shared.Next.TheVariants.{Answer as AnswerNext}

-- an answer is for one of so many logs
abbrev pub FitsLogs : ℕ → Next → Type 0
FitsLogs count (AnswerNext place answer) = place < count
FitsLogs count next = Unit {0}
