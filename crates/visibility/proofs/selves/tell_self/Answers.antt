use Rattle.visibility.proofs.SelfSteps.{no_definition, none_told}
use Rattle.visibility.proofs.selves.tell_self.Goals as goal

pub returns-in-None : goal.returns-in-None
returns-in-None c = λ gs t. none_told _ _ c.args.out.now.items (no_definition c.args.book.now.all.items c.args.number c.deref.result.now c.deref.ensures.value c.in-None.ensures.lookup.0)
