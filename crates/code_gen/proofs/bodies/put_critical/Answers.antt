use Rattle.std.proofs.Common.{◌≡◌, length, ◌∙◌, refl, arith}
use Rattle.std.proofs.lemmas.Result.{on_ok_weaker}
use Rattle.action_gen.specs.Putting.{site_tree}
use Rattle.code_gen.proofs.Appended.{critical_told}
use Rattle.code_gen.proofs.bodies.put_critical.Goals as goal

pub returns : goal.returns
returns c =
    let from : c.in_ok-from.from ≡ length c.put.new.self.code.instrs = omega (arith, c.in_ok-from.ensures 0 refl) in
    let until : c.in_ok-until.until ≡ length c.put_handled.new.draft.code.instrs = omega (arith, c.in_ok-until.ensures 0 refl) in
    record {
      puts = on_ok_weaker c.put_again.result (λ q. critical_told (site_tree c.args.site) c.args.region c.in_ok-from.from c.in_ok-until.until _ c.in_ok-raised.raised c.as_slice.result.now
          c.in_ok-put.ensures.puts from c.in_ok-put_handled.ensures.puts until c.in_ok-put_some_way_out.ensures.puts c.in_ok-raised.ensures (c.as_slice.ensures ∙ c.in_ok-listed.ensures) q) c.put_again.ensures.puts;
    }
