use Rattle.std.proofs.Common.{◌≡◌, true, List, ℕ, rules, arith, subst}
use Rattle.std.specs.List.{All, Contains}
use Rattle.std.proofs.lemmas.List.{take_all}
use Rattle.std.proofs.lemmas.List.Elements.{All-more}
use Rattle.graph_order.proofs.Members.{from_not}
use Rattle.graph_order.proofs.placing.missing.Goals as goal

pub loop-node-preserved : goal.loop-node-preserved
loop-node-preserved c =
    let there : c.has.result ≡ true = search (rules, from_not) in
    All-more (Contains c.args.placed.now.order) c.args.nodes.now c.loop-node.node-index 0 (omega arith) c.loop-node.invariant (c.has.ensures.0 there)

pub returns : goal.returns
returns c = subst (λ (ns : List ℕ). All (Contains c.args.placed.now.order) ns) (take_all c.loop-node.node-index c.args.nodes.now (omega (arith, c.loop-node-test.false))) c.loop-node.invariant
