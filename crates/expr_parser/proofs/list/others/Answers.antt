use Rattle.std.proofs.Common.{◌≡◌, map}
use Rattle.std.proofs.lemmas.List.{map_push}
use Rattle.rules_model.specs.Reading.{push, another_at}
use Rattle.expr_parser.proofs.Repeats.{goes_on_by}
use Rattle.expr_parser.proofs.list.others.Goals as goal

pub loop-preserved : goal.loop-preserved
loop-preserved g c =
    goes_on_by (another_at (g.L.Listed.reads c.args.listed.now)) push c.args.limit _ (λ x. (g.L.Listed.tree x.0, x.1.now)) c.loop.counter (map g.L.Listed.tree c.loop.items) (map g.L.Listed.tree c.push.new.self) c.loop.rest.now c.in_ok-item.field-0 (c.in-Some.item, c.in-Some.after) c.loop-test.true c.in_ok-item.ensures c.in-Some.is (let e : map g.L.Listed.tree c.push.new.self ≡ push (map g.L.Listed.tree c.loop.items) (g.L.Listed.tree c.in-Some.item) = rw c.in_ok-push.ensures.ok (map_push g.L.Listed.tree c.loop.items c.in-Some.item) in e) c.loop.invariant
