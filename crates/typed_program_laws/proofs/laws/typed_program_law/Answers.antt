-- The places of its shared locations are a law of `made_laws`; the rest is shown here.
use Rattle.made_laws.proofs.Layouts.{layouts_made}
use Rattle.typed_program_laws.proofs.Program.{program_typed}
use Rattle.typed_program_laws.proofs.laws.typed_program_law.Goals as goal

pub returns : goal.returns
returns c = λ text t g p bytes has made. program_typed text t g p bytes has made (layouts_made text t g p has made)
