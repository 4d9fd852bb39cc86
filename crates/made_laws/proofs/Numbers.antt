-- The numbers of an elaborated program are in range, where it is typed.
use Rattle.compilable_laws.proofs.Programs.{program_fits}
use Rattle.typed_ranges.proofs.Statements.{bodies_in_range}
use Rattle.made_laws.specs.Made.{InRangeLaw, FitsTextLaw}
use Rattle.made_laws.proofs.Made.{few_made, placed_made}

pub made_in_range : InRangeLaw
made_in_range text t g p of_text typed = bodies_in_range p typed (placed_made text t g p of_text)

pub made_fits : FitsTextLaw
made_fits text t g p of_text typed = program_fits p typed (made_in_range text t g p of_text typed) (few_made text t g p of_text)
