use Rattle.std.proofs.Common.{ap, sym, ◌∙◌}
use Rattle.std.proofs.lemmas.Result.{on_ok_weaker}
use Rattle.expr_gen.specs.declared.conditions.Branch.{Branch}
use Rattle.expr_gen.proofs.Deciding.{uniform_condition, decided_told}
use Rattle.expr_gen.proofs.conditions.+condition.Goals as goal

pub returns-in-Uniform-clause-puts : goal.returns-in-Uniform-clause-puts
returns-in-Uniform-clause-puts t c =
    on_ok_weaker c.put_plain-in-Uniform.result (λ q. uniform_condition _ _ _ c.args.branch.when c.args.branch.target c.args.condition.now c.in-Uniform.elements c.in-Uniform.value c.in-Uniform.is q) c.put_plain-in-Uniform.ensures.puts

pub returns-in_ok-put_condition-in-Some-clause-puts : goal.returns-in_ok-put_condition-in-Some-clause-puts
returns-in_ok-put_condition-in-Some-clause-puts t c =
    let first = c.in_ok-first-in-Some.ensures in
    on_ok_weaker c.put_condition-in-Some-2.result
    (λ q. decided_told _ _ c.args.condition.now c.in-Binary.operator c.in-Binary.left c.in-Binary.right c.deref-in-Some.result.now c.deref-in-Some-2.result.now c.deref-in-Some-3.result.now c.deref-in-Some-4.result.now
    c.in-Some.value c.args.branch.when c.in_ok-first-in-Some.first.when c.args.branch.target c.in_ok-first-in-Some.first.target
    c.in-Binary.is (sym c.decided_by.ensures ∙ c.in-Some.is) c.deref-in-Some.ensures c.deref-in-Some-2.ensures c.deref-in-Some-3.ensures c.deref-in-Some-4.ensures
    (ap (λ (b : Branch). b.when) first) (ap (λ (b : Branch). b.target) first) c.in_ok-put_condition-in-Some.ensures.puts q)
    c.put_condition-in-Some-2.ensures.puts
