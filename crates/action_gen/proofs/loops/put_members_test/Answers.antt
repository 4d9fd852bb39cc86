use Rattle.std.proofs.Common.{rules, w64}
use mir.Val.{SFits}
use Rattle.std.proofs.lemmas.Int.{to_z-of_z}
use Rattle.std.proofs.lemmas.Result.{on_ok_weaker}
use Rattle.action_gen.proofs.Controls.{members_test_made}
use Rattle.action_gen.proofs.loops.put_members_test.Goals as goal

pub returns-clause-puts : goal.returns-clause-puts
returns-clause-puts c =
    let fits : SFits w64 c.args.low = search rules in
    let member = simp to_z-of_z at c.put_next_member.ensures.puts in
    on_ok_weaker c.put_next_member.result
    (λ q. members_test_made c.args.around.now.free c.args.counter c.args.low c.args.behind c.in_ok-put.ensures.puts c.in_ok-put-2.ensures.puts c.in_ok-put-3.ensures.puts q)
    member
