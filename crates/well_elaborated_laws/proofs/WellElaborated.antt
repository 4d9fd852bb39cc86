-- The elaborated program of a text is well elaborated.
use Rattle.std.proofs.Common.{arith}
use Rattle.head_laws.proofs.Few.{few_things}
use Rattle.made_laws.proofs.Layouts.{layouts_made}
use Rattle.made_laws.proofs.Made.{few_made}
use Rattle.made_laws.proofs.Numbers.{made_in_range, made_fits}
use Rattle.typed_program_laws.proofs.Program.{program_typed}
use Rattle.well_made_laws.proofs.Bodies.{bodies_well_made}
use Rattle.well_elaborated_laws.specs.WellElaborated.{WellElaboratedLaw}

pub well_elaborated : WellElaboratedLaw
well_elaborated text t g p bytes of_text =
    let clean = of_text.clean in
    let made = of_text.made in
    let typed = program_typed text t g p bytes clean made (layouts_made text t g p clean made) in
    let bodies = (few_things text t g p clean made).bodies in
    record {
      typed = typed;
      few_bodies = omega (arith, bodies);
      few = few_made text t g p of_text;
      in_range = made_in_range text t g p of_text typed;
      fits = made_fits text t g p of_text typed;
      well_made = bodies_well_made text t g p clean made;
    }
