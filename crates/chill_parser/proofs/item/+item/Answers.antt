use Rattle.std.proofs.Common.{◌≡◌}
use Rattle.std.proofs.lemmas.List.{map_push}
use Rattle.chill_tree.specs.ItemTree.{item_tree, item_trees}
use Rattle.rules_model.specs.Reading.{push}
use Rattle.rules_model.specs.ItemReading.{item_at, items_at}
use Rattle.expr_parser.proofs.Repeats.{goes_on_by}
use Rattle.chill_parser.proofs.item.+item.Goals as goal

pub each_item-loop-preserved : goal.each_item-loop-preserved
each_item-loop-preserved t c =
    goes_on_by (item_at c.args.inner (items_at c.args.inner)) push c.args.limit _ (λ x. (item_tree x.0, x.1.now)) c.loop.counter (item_trees c.loop.items) (item_trees c.push.new.self) c.loop.rest.now c.in_ok-item.field-0 (c.in-Some.item, c.in-Some.after) c.loop-test.true c.in_ok-item.ensures c.in-Some.is (let e : item_trees c.push.new.self ≡ push (item_trees c.loop.items) (item_tree c.in-Some.item) = rw c.in_ok-push.ensures.ok (map_push item_tree c.loop.items c.in-Some.item) in e) c.loop.invariant
