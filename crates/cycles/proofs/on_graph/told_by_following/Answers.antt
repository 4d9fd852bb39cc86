use Rattle.std.proofs.Common.{◌<◌, ◌↔◌, ℕ}
use Rattle.std.proofs.lemmas.List.Sorted.{All-permutation, IsPermutation-sym}
use Rattle.std.proofs.lemmas.Result.{IfOk-weaker}
use Rattle.cycles.specs.Depends.{Depends, IsSet}
use Rattle.cycles.proofs.Reaching.{depends_permuted}
use Rattle.cycles.proofs.on_graph.told_by_following.Goals as goal

pub told_in_order-requires-clause-ends : goal.told_in_order-requires-clause-ends
told_in_order-requires-clause-ends c = rw c.deref.ensures.value (All-permutation (λ e. (e.from < c.args.count) × (e.to < c.args.count)) c.args.edges.now _ c.in_ok-sorted.ensures.same c.requires)

-- the order of the edges changes no dependence
pub returns-clause-exact : goal.returns-clause-exact
returns-clause-exact c =
    let edges = c.args.edges.now in
    let sorted = c.in_ok-sorted.sorted.items in
    let moved = c.in_ok-sorted.ensures.same in
    let back = IsPermutation-sym edges sorted moved in
    let exact = rw c.deref.ensures.value at c.told_in_order.ensures.exact in
    IfOk-weaker c.told_in_order.result
    (λ cyclic. (v : ℕ) → v < c.args.count → IsSet cyclic.items v ↔ Depends sorted v v)
    (λ cyclic. (v : ℕ) → v < c.args.count → IsSet cyclic.items v ↔ Depends edges v v)
    (λ cyclic told v low. (λ s. depends_permuted sorted edges back ((told v low).0 s), λ d. (told v low).1 (depends_permuted edges sorted moved d)))
    exact
