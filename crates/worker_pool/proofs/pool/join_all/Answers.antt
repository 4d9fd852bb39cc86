use Rattle.std.proofs.Common.{◌≡◌, ◌<◌, All, length, rules, subst}
use Rattle.code_types.specs.declared.code.Code.{Code}
use Rattle.worker_pool.specs.Logs.{IsLog}
use Rattle.worker_pool.proofs.pool.join_all.Goals as goal

pub add_logs-requires-clause-logs : goal.add_logs-requires-clause-logs
add_logs-requires-clause-logs g c =
    let some : 0 < length c.rest.children.items = search rules in
    let first = c.rest.invariant.1 0 c.remove-child.result some in
    let same : c.remove-child.result.promise.0.now ≡ c.args.guarded.now = rw (← c.remove-child.ensures.value) at first in
    subst (λ (code : Code). All (IsLog code) c.in_ok-join_one.field-0.items) same c.in_ok-join_one.ensures
