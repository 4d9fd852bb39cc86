use Rattle.std.proofs.Common.{rules, SFits, w64}
use Rattle.std.proofs.lemmas.Int.{to_z-of_z}
use Rattle.kernel_base.proofs.fitting.fits_scalar.Goals as goal

pub returns-then-fits_layout : goal.returns-then-fits_layout
returns-then-fits_layout c =
    let range : SFits w64 c.args.number.now = search rules in
    let layout = simp to_z-of_z at c.fits_layout.ensures in
    let value = simp to_z-of_z at c.fits_value.ensures in
    ((λ it. record { layout = layout.0 c.if-fits_layout.true; value = value.0 it }), (λ fits. value.1 fits.value))

pub returns-else-fits_layout : goal.returns-else-fits_layout
returns-else-fits_layout c =
    let range : SFits w64 c.args.number.now = search rules in
    let layout = simp to_z-of_z at c.fits_layout.ensures in
    ((λ it. absurd (let no : ⊥ = cc in no)), (λ fits. layout.1 fits.layout))
