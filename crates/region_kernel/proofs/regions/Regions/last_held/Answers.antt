use Rattle.std.proofs.Common.{eq-eqb, ◌∙◌}
use Rattle.std.proofs.lemmas.Bool.{ne_eqb}
use Rattle.region_kernel.proofs.Locks.{last_yes, last_no}
use Rattle.region_kernel.proofs.regions.Regions.last_held.Goals.{then-lock-who, else-lock-who}
use Rattle.region_kernel.proofs.regions.Regions.last_held.Goals as goal

pub loop-lock-preserved : goal.loop-lock-preserved
loop-lock-preserved c =
    elim c.if-lock-who.branch [
      | then-lock-who w ↦ w.last-is ∙ last_yes _ c.args.who c.loop-lock.lock-index _ c.loop-lock-test.true (eq-eqb _ _ w.if-lock-who.true)
      | else-lock-who w ↦ w.last-is ∙ c.loop-lock.invariant ∙ last_no _ c.args.who c.loop-lock.lock-index _ c.loop-lock-test.true (ne_eqb _ _ w.if-lock-who.false)
    ]
