use Rattle.text_to_code.proofs.Causes.{fits}
use Rattle.text_to_code.proofs.build.compiled.Goals as goal

pub returns-in-Ok-clause-made : goal.returns-in-Ok-clause-made
returns-in-Ok-clause-made c = record {
  small = fits c.in-Ok.code c.args.program.now.size c.in-Ok.ensures.too_long;
  agrees = c.in-Ok.ensures.agrees;
  talks = c.in-Ok.ensures.talks;
}
