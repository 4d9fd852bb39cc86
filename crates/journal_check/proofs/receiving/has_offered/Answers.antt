use Rattle.std.proofs.Common.{◌≡◌, ℕ, Some, subst}
use Rattle.world_check.proofs.Waiters.{refuted}
use Rattle.journal_check.specs.Receiving.{NoValueAbove}
use Rattle.journal_check.proofs.receiving.has_offered.Goals as goal

pub returns-in-Some : goal.returns-in-Some
returns-in-Some c = (
  λ is. record { priority = c.in-Some.priority; offered = (c.offered_as.ensures c.in-Some.priority).0 c.in-Some.is; highest = c.no_value_above.ensures.0 is },
  λ has. let there : c.offered_as.result ≡ Some has.priority = (c.offered_as.ensures has.priority).1 has.offered in
      let here : c.offered_as.result ≡ Some c.in-Some.priority = c.in-Some.is in
      let same : has.priority ≡ c.in-Some.priority = cc in
      c.no_value_above.ensures.1 (subst (λ (p : ℕ). NoValueAbove c.args.facts.now c.args.world.now c.args.buffers.now p) same has.highest),
)

pub returns-in-None : goal.returns-in-None
returns-in-None c = refuted (λ has. let there : c.offered_as.result ≡ Some has.priority = (c.offered_as.ensures has.priority).1 has.offered in let none = c.in-None.is in cc)
