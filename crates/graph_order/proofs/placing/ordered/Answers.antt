use Rattle.std.proofs.Common.{◌≡◌, ◌<◌, ◌⊎◌, ℕ, List, [], sym, subst}
use Rattle.std.specs.List.{All, Contains}
use Rattle.graph_order.specs.Needs.{NeedsBefore, HasCircle}
use Rattle.graph_order.specs.Placing.{AreAdded}
use Rattle.graph_order.proofs.Rounds.{all_below, all_put, behind_or_circle}
use Rattle.graph_order.proofs.placing.ordered.Goals as goal

pub put_rest-requires : goal.put_rest-requires
put_rest-requires c = subst (λ (ns : List ℕ). All (λ d. d < c.rounds.new.placed.count) ns) (sym c.as_slice-2.ensures) (all_below c.args.needs.now c.rounds.new.placed c.in_ok-rest.rest c.in_ok-rest.ensures.sorted)

pub returns-clause-all : goal.returns-clause-all
returns-clause-all c d less =
    let added = subst (λ (ns : List ℕ). AreAdded c.rounds.new.placed c.put_rest.new.placed ns) c.as_slice-2.ensures c.in_ok-put_rest.ensures in
    subst (λ (ns : List ℕ). Contains ns d) (sym c.into_order.ensures.order) (all_put c.args.needs.now c.rounds.new.placed c.put_rest.new.placed c.in_ok-rest.rest c.in_ok-rest.ensures added d less)

pub returns-clause-earlier : goal.returns-clause-earlier
returns-clause-earlier c inside =
    let added = subst (λ (ns : List ℕ). AreAdded c.rounds.new.placed c.put_rest.new.placed ns) c.as_slice-2.ensures c.in_ok-put_rest.ensures in
    subst (λ (ns : List ℕ). NeedsBefore c.args.needs.now [] ns ⊎ HasCircle c.args.needs.now) (sym c.into_order.ensures.order) (behind_or_circle c.args.needs.now c.rounds.new.placed c.put_rest.new.placed c.in_ok-rest.rest inside c.in_ok-rest.ensures added)
