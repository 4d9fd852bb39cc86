use Rattle.std.proofs.Common.{◌≡◌, ◌+◌, true, length, refl, sym, rules}
use Rattle.expr_gen.proofs.Appending.{at_last}
use Rattle.expr_gen.proofs.conditions.put_branch.Goals as goal

pub returns-clause-puts : goal.returns-clause-puts
returns-clause-puts c =
    let jumps : c.args.branch.when ≡ true = search rules in
    let on : c.in_ok-on.on ≡ length c.args.draft.now.code.instrs + 2 = c.in_ok-on.ensures 2 refl in
    rw (jumps, sym on) (at_last c.put-3.result _ _ _ c.in_ok-put.ensures.puts c.put-3.ensures.puts)
