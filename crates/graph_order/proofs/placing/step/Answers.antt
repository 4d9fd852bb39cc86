use Rattle.std.proofs.Common.{◌⊎◌, inl, inr, ℕ, List, refl, subst}
use Rattle.std.specs.List.{All, Contains}
use Rattle.graph_order.specs.Placing.{WasPut}
use Rattle.graph_order.proofs.placing.step.Goals as goal

pub returns-in_ok-put-in-None : goal.returns-in_ok-put-in-None
returns-in_ok-put-in-None c = inr (inl (record {
  placed = c.in_ok-put-in-None.ensures;
  waiting = refl;
  done = subst (λ (ns : List ℕ). All (Contains c.args.placed.now.order) ns) c.needs_of.ensures c.in-None.ensures;
}))
