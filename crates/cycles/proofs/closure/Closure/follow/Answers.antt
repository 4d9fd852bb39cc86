use Rattle.std.proofs.Common.{arith, slice_index_or}
use Rattle.cycles.specs.Depends.{IsSet}
use Rattle.cycles.proofs.Reaching.{grown_twice, sound_more, source_kept, edges_more, at_member}
use Rattle.cycles.proofs.closure.Closure.follow.Goals as goal

pub loop-edge-preserved : goal.loop-edge-preserved
loop-edge-preserved c =
    let edges = c.args.edges.now in
    let out = c.edges_out_of-edge-items.result.now in
    let i = c.loop-edge.edge-index in
    let edge = slice_index_or out i (record { from = 0; to = 0 }) in
    let old = c.loop-edge.self.reached.items in
    let new = c.reach.new.self.reached.items in
    let so_far = c.loop-edge.invariant in
    let one = c.in_ok-reach.ensures in
    let at = c.edges_out_of-edge-items.ensures.from i (record { from = 0; to = 0 }) c.loop-edge-test.true in
    record {
      grown = grown_twice _ _ _ _ _ _ so_far.grown one.grown;
      sound = λ start sound source. sound_more edges start old new edge c.args.node at.0 at.1 (source_kept start _ old c.args.node so_far.grown.set source) (so_far.sound start sound source) one.only;
      set = edges_more out (λ e. IsSet new e.to) i (record { from = 0; to = 0 }) c.loop-edge-test.true one.set (λ k d low. one.grown.set _ (so_far.set k d low));
    }

pub returns-clause-followed : goal.returns-clause-followed
returns-clause-followed c = λ e at from.
    let out = c.edges_out_of-edge-items.result.now in
    at_member out (λ x. IsSet c.loop-edge.self.reached.items x.to) (λ k d low. c.loop-edge.invariant.set k d (omega (arith, low))) e (c.edges_out_of-edge-items.ensures.each e at from)
