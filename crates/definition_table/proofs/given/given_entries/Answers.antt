use Rattle.std.proofs.Common.{◌≡◌, ◌∙◌, ◌+◌, ap}
use Rattle.definition_table.proofs.GivenLemmas.{item_there, item_defined}
use Rattle.definition_origins.specs.OriginTrees.{origin_trees}
use Rattle.definition_table.proofs.given.given_entries.Goals as goal

pub loop-origin-preserved : goal.loop-origin-preserved
loop-origin-preserved c = record {
  len = c.in_ok-push_given.ensures.len ∙ ap (λ n. n + 1) c.loop-origin.invariant.len;
  safe = λ rise plain defined.
      let e = c.args.ground.now in
      let at = item_there c.as_slice-origin-items.result.now e.origins c.loop-origin.origin-index _ c.origin-item.result c.as_slice-origin-items.ensures c.loop-origin-test.true c.origin-item.is c.loop-origin.invariant.len in
      c.in_ok-push_given.ensures.safe rise plain (item_defined e _ c.origin-item.result defined at) (origin_trees e.origins) at (c.loop-origin.invariant.safe rise plain defined);
}
