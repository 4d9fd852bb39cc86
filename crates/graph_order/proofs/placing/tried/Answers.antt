use Rattle.std.proofs.Common.{◌<◌, ℕ, List, sym, subst}
use Rattle.std.specs.List.{All}
use Rattle.std.proofs.lemmas.List.Elements.{All-push}
use Rattle.graph_order.proofs.Members.{each_below_more}
use Rattle.graph_order.proofs.placing.tried.Goals as goal

pub all_tried-preserved : goal.all_tried-preserved
all_tried-preserved c = record {
  below = subst (λ (ns : List ℕ). All (λ d. d < c.args.count) ns) (sym c.in_ok-push-2.ensures.ok) (All-push (λ d. d < c.args.count) c.all_tried.nodes c.all_tried.node c.all_tried.invariant.below c.all_tried-test.true);
  each = each_below_more c.all_tried.nodes c.push-in-all_tried.new.self c.all_tried.node c.in_ok-push-2.ensures.ok c.all_tried.invariant.each;
}
