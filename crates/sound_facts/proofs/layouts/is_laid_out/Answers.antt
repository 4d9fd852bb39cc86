use Rattle.sound_facts.proofs.PowersetLemmas.{laid_out, fits}
use Rattle.sound_facts.proofs.layouts.is_laid_out.Goals as goal

pub returns : goal.returns
returns c = (
  λ t. laid_out c.args.value.now c.args.scalars.now c.args.layout.now c.requires (c.has_powersets.ensures.0 c.if-not-has_powersets.false) (c.are_apart.ensures.0 c.if-not-are_apart.false) (c.fit_layout.ensures.0 t),
  λ laid. c.fit_layout.ensures.1 (fits c.args.value.now c.args.scalars.now c.args.layout.now c.requires laid),
)
