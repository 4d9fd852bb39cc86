use Rattle.std.proofs.Common.{rules, w64}
use mir.Val.{SFits}
use Rattle.std.proofs.lemmas.Int.{to_z-of_z}
use Rattle.std.proofs.lemmas.Result.{on_ok_weaker}
use Rattle.expr_gen.proofs.Appending.{and_then, kept_by, kept_on}
use Rattle.action_gen.proofs.Controls.{all_then}
use Rattle.action_gen.proofs.loops.put_next_member.Goals as goal

pub returns-clause-puts : goal.returns-clause-puts
returns-clause-puts c =
    let fits : SFits w64 c.args.low = search rules in
    let member = simp to_z-of_z at c.in_ok-put_member.ensures.puts in
    on_ok_weaker c.put-9.result
    (λ q. all_then c.in_ok-put.ensures.puts (all_then c.in_ok-put-2.ensures.puts (all_then c.in_ok-put-3.ensures.puts (all_then c.in_ok-put-4.ensures.puts
    (all_then member (all_then c.in_ok-put-5.ensures.puts (all_then c.in_ok-put-6.ensures.puts (all_then c.in_ok-put-7.ensures.puts (all_then c.in_ok-put-8.ensures.puts q)))))))))
    c.put-9.ensures.puts

pub returns-in_err-put-5-clause-keeps : goal.returns-in_err-put-5-clause-keeps
returns-in_err-put-5-clause-keeps c = kept_on (kept_by (and_then c.in_ok-put.ensures.puts (and_then c.in_ok-put-2.ensures.puts (and_then c.in_ok-put-3.ensures.puts (and_then c.in_ok-put-4.ensures.puts c.in_ok-put_member.ensures.puts))))) c.in_err-put-5.ensures.keeps

pub returns-in_err-put-6-clause-keeps : goal.returns-in_err-put-6-clause-keeps
returns-in_err-put-6-clause-keeps c = kept_on (kept_by (and_then c.in_ok-put.ensures.puts (and_then c.in_ok-put-2.ensures.puts (and_then c.in_ok-put-3.ensures.puts (and_then c.in_ok-put-4.ensures.puts (and_then c.in_ok-put_member.ensures.puts c.in_ok-put-5.ensures.puts)))))) c.in_err-put-6.ensures.keeps

pub returns-in_err-put-7-clause-keeps : goal.returns-in_err-put-7-clause-keeps
returns-in_err-put-7-clause-keeps c = kept_on (kept_by (and_then c.in_ok-put.ensures.puts (and_then c.in_ok-put-2.ensures.puts (and_then c.in_ok-put-3.ensures.puts (and_then c.in_ok-put-4.ensures.puts (and_then c.in_ok-put_member.ensures.puts (and_then c.in_ok-put-5.ensures.puts c.in_ok-put-6.ensures.puts))))))) c.in_err-put-7.ensures.keeps

pub returns-in_err-put-8-clause-keeps : goal.returns-in_err-put-8-clause-keeps
returns-in_err-put-8-clause-keeps c = kept_on (kept_by (and_then c.in_ok-put.ensures.puts (and_then c.in_ok-put-2.ensures.puts (and_then c.in_ok-put-3.ensures.puts (and_then c.in_ok-put-4.ensures.puts (and_then c.in_ok-put_member.ensures.puts (and_then c.in_ok-put-5.ensures.puts (and_then c.in_ok-put-6.ensures.puts c.in_ok-put-7.ensures.puts)))))))) c.in_err-put-8.ensures.keeps

pub returns-clause-keeps : goal.returns-clause-keeps
returns-clause-keeps c = kept_on (kept_by (and_then c.in_ok-put.ensures.puts (and_then c.in_ok-put-2.ensures.puts (and_then c.in_ok-put-3.ensures.puts (and_then c.in_ok-put-4.ensures.puts (and_then c.in_ok-put_member.ensures.puts (and_then c.in_ok-put-5.ensures.puts (and_then c.in_ok-put-6.ensures.puts (and_then c.in_ok-put-7.ensures.puts c.in_ok-put-8.ensures.puts))))))))) c.put-9.ensures.keeps
