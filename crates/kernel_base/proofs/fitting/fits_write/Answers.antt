use Rattle.std.proofs.Common.{arith, refl, below_more}
use Rattle.kernel_base.proofs.fitting.fits_write.Goals as goal

pub returns-then-not-fits_scalar : goal.returns-then-not-fits_scalar
returns-then-not-fits_scalar c =
    ((λ it. absurd (let no : ⊥ = cc in no)), (λ fits. c.if-not-fits_scalar.ensures.1 (fits.within c.loop-i.i c.loop-i-test.true)))

pub loop-i-preserved : goal.loop-i-preserved
loop-i-preserved c =
    below_more _ _ c.loop-i.invariant (c.fits_scalar.ensures.0 c.if-not-fits_scalar.false)

pub returns : goal.returns
returns c = (
  (λ it. record { lies = c.lies_in_location.ensures.0 c.if-not-lies_in_location.false; count = c.if-scalars-place.false; within = λ k low. c.loop-i.invariant k (omega arith) }),
  (λ fits. refl),
)
