use Rattle.std.proofs.Common.{ℕ, sym, ap, ◌∙◌}
use Rattle.std.proofs.lemmas.Result.{on_ok_weaker}
use Rattle.program_trees.specs.StatementTree.{set_tree}
use Rattle.code_scheme.specs.Pieces.{capped}
use Rattle.code_scheme.specs.StatementWaits.{count_of_sources}
use Rattle.expr_gen.proofs.Appending.{and_then, kept_by, kept_on}
use Rattle.action_gen.specs.Trees.{receives_of}
use Rattle.action_gen.specs.Receiving.{kind_of, waits_else}
use Rattle.action_gen.specs.Putting.{standing_of}
use Rattle.action_gen.proofs.Waiting.{receive_made, sources_count}
use Rattle.action_gen.proofs.waits.put_receive_wait.Goals as goal

pub returns-clause-puts : goal.returns-clause-puts
returns-clause-puts c =
    let count = c.in_ok-count.ensures (count_of_sources (receives_of c.args.alternatives.now)) (c.counted.ensures ∙ ap (λ (n : ℕ). capped n) (sym (sources_count c.args.alternatives.now))) in
    let instr = rw (c.instr.ensures, count) at c.in_ok-put.ensures.puts in
    let kept = rw c.in_ok-chosen.ensures at c.in_ok-put-2.ensures.puts in
    let nothing = rw (c.has_else.ensures, c.in_ok-chosen.ensures, count) at c.in_ok-put_nothing.ensures.puts in
    on_ok_weaker c.put_set.result
    (λ q. receive_made (standing_of c.args.around.now) (kind_of c.args.receives) (set_tree c.args.set.now) (receives_of c.args.alternatives.now) (waits_else c.args.receives) c.args.otherwise
    c.in_ok-put_set_place.ensures.puts c.in_ok-put_sources.ensures.puts instr kept nothing q)
    c.put_set.ensures.puts

pub returns-clause-keeps : goal.returns-clause-keeps
returns-clause-keeps c =
    kept_on (kept_by (and_then c.in_ok-put_set_place.ensures.puts (and_then c.in_ok-put_sources.ensures.puts (and_then c.in_ok-put.ensures.puts (and_then c.in_ok-put-2.ensures.puts c.in_ok-put_nothing.ensures.puts)))))
    c.put_set.ensures.keeps
