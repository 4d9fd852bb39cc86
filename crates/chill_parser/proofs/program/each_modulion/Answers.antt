use Rattle.std.proofs.Common.{◌≡◌}
use Rattle.std.proofs.lemmas.List.{map_push}
use Rattle.std.specs.Prelude.{map}
use Rattle.chill_tree.specs.ItemTree.{modulion_tree}
use Rattle.rules_model.specs.Reading.{push}
use Rattle.rules_model.specs.ItemReading.{modulion_piece_at}
use Rattle.expr_parser.proofs.Repeats.{goes_on_by}
use Rattle.chill_parser.proofs.program.each_modulion.Goals as goal

pub loop-preserved : goal.loop-preserved
loop-preserved c =
    goes_on_by (modulion_piece_at c.args.inner) push c.args.limit _ (λ x. (modulion_tree x.0, x.1.now)) c.loop.counter (map modulion_tree c.loop.modulions) (map modulion_tree c.push.new.self) c.loop.rest.now c.in_ok-modulion.field-0 (c.in-Some.modulion, c.in-Some.after) c.loop-test.true c.in_ok-modulion.ensures c.in-Some.is (let e : map modulion_tree c.push.new.self ≡ push (map modulion_tree c.loop.modulions) (modulion_tree c.in-Some.modulion) = rw c.in_ok-push.ensures.ok (map_push modulion_tree c.loop.modulions c.in-Some.modulion) in e) c.loop.invariant
