use Rattle.std.proofs.Common.{sym, subst, ℕ}
use Rattle.std.specs.Prelude.{◌↔◌, IsTrue}
use Rattle.std.specs.declared.option.Option.{Option}
use Rattle.world_model.specs.Allowed.{IsRefillBy}
use Rattle.journal_check.proofs.receiving.refills_by.Goals as goal

pub returns-in-None : goal.returns-in-None
returns-in-None c = subst (λ (r : Option ℕ). IsTrue c.nobody_sends.result ↔ IsRefillBy c.args.world.now c.args.buffer r) (sym c.in-None.is) c.nobody_sends.ensures
