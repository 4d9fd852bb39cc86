use Rattle.std.proofs.Common.{◌≡◌, ◌-◌, length, take, drop, arith, rules, leb, ltb}
use Rattle.std.proofs.lemmas.List.{take_all, length-drop}
use Rattle.std.proofs.lemmas.List.Sorted.{IsPartitionPoint-from_clause, IsPartitionedBy-leb, IsPartitionedBy-ltb, IsNonDecreasingBy-drop}
use Rattle.cycles.proofs.Runs.{IsRun, run_of, run_from, run_each}
use Rattle.cycles.proofs.closure.edges_out_of.Goals as goal
use Rattle.cycles.proofs.closure.edges_out_of.Goals.{After-partition_point-count}

-- what lies behind the first place
behind : (c : After-partition_point-count) → take (length c.args.edges.now - c.partition_point-begin.result) (drop c.partition_point-begin.result c.args.edges.now) ≡ drop c.partition_point-begin.result c.args.edges.now
behind c = take_all _ (drop c.partition_point-begin.result c.args.edges.now) (omega (arith, length-drop c.partition_point-begin.result c.args.edges.now))

-- the edges between the two places
run : (c : After-partition_point-count) → IsRun c.args.edges.now c.args.node c.partition_point-begin.result c.partition_point-count.result
run c =
    let edges = c.args.edges.now in
    let node = c.args.node in
    let begin = c.partition_point-begin.result in
    let first = IsPartitionPoint-from_clause (λ e. ltb e.from node) edges _ c.partition_point-begin.ensures.partitioned (IsPartitionedBy-ltb (λ e. e.from) edges node c.requires) (λ a r q k. search rules) in
    let parted = IsPartitionedBy-leb (λ e. e.from) (drop begin edges) node (IsNonDecreasingBy-drop (λ e. e.from) begin edges c.requires) in
    let second = IsPartitionPoint-from_clause (λ e. leb e.from node) _ _ c.partition_point-count.ensures.partitioned (rw (behind c) parted) (λ a r q k. search rules) in
    run_of edges node begin c.partition_point-count.result first (rw (behind c) at second)

pub returns-clause-from : goal.returns-clause-from
returns-clause-from c = rw (behind c) (run_from c.args.edges.now c.args.node c.partition_point-begin.result c.partition_point-count.result (run c))

pub returns-clause-each : goal.returns-clause-each
returns-clause-each c = rw (behind c) (run_each c.args.edges.now c.args.node c.partition_point-begin.result c.partition_point-count.result (run c))
