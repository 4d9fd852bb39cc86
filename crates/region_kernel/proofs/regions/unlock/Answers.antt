use Rattle.std.proofs.Common.{◌≡◌, ℕ, Option, rules, sym, subst}
use Rattle.std.proofs.lemmas.Fn.{filter_same}
use Rattle.region_kernel.specs.Regions.{locks_but}
use Rattle.region_kernel.proofs.regions.unlock.Goals as goal

pub returns-in-Some-clause-locks : goal.returns-in-Some-clause-locks
returns-in-Some-clause-locks c = subst (λ (o : Option ℕ). c.retain.new.self.items ≡ locks_but c.args.locks.now.items c.args.region o) (sym c.in-Some.is) (filter_same _ _ _ (λ x b f' k. search rules) _ _ c.retain.ensures.filtered)
