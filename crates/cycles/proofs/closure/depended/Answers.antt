use Rattle.std.proofs.Common.{◌≡◌, length, inl, refl, arith}
use Rattle.std.proofs.lemmas.List.Elements.{Contains-push}
use Rattle.cycles.proofs.Reaching.{complete, all_followed, sources_more, followed_more}
use Rattle.cycles.proofs.closure.depended.Goals as goal

-- the node that was taken out has been followed
pub nodes-preserved : goal.nodes-preserved
nodes-preserved c =
    let edges = c.args.edges.now in
    let start = c.args.start in
    let node = c.in-Some.node in
    let reached = c.nodes.closure.reached.items in
    let new = c.follow.new.self.reached.items in
    let rest = c.pop.new.self.items in
    let later = c.follow.new.self.waiting.items in
    let done = c.in_ok-follow.ensures in
    let sources = rw c.in-Some.ensures.items at c.nodes.invariant.sources in
    let followed = rw c.in-Some.ensures.items at c.nodes.invariant.followed in
    record {
      size = omega (arith, done.grown.size);
      sound = done.sound start c.nodes.invariant.sound (sources node (Contains-push rest node));
      sources = sources_more edges start node reached new rest later done.grown sources;
      followed = followed_more edges start node reached new rest later done.grown done.followed followed;
    }

pub returns-clause-exact : goal.returns-clause-exact
returns-clause-exact c = λ v.
    let edges = c.args.edges.now in
    let start = c.args.start in
    let reached = c.nodes.closure.reached.items in
    let none : length c.nodes.closure.waiting.items ≡ 0 = omega (arith, c.in_default.ensures.cases.0) in
    (c.nodes.invariant.sound v, λ d. complete edges start reached (all_followed edges start reached c.nodes.closure.waiting.items none c.nodes.invariant.followed) start v (inl refl) d)
