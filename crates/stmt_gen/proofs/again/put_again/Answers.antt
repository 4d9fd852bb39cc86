use Rattle.std.proofs.Common.{◌≡◌, ℕ, ◌++◌, List, [], ◌∷◌, length, get_or, ap, refl, ◌∙◌, arith}
use Rattle.std.proofs.lemmas.List.{get_or_default}
use Rattle.stmt_gen.proofs.Front.{still_front, front_on}
use Rattle.stmt_gen.proofs.Released.{releases_turn}
use Rattle.stmt_gen.proofs.again.put_again.Goals as goal

pub loop-exception-preserved : goal.loop-exception-preserved
loop-exception-preserved c =
    let there : c.in_ok-target.target ≡ length c.loop-exception.draft.code.instrs = omega (arith, c.in_ok-target.ensures 0 refl) in
    record {
      left = releases_turn c.args.region c.args.exceptions.now c.args.from c.args.until c.loop-exception.exception-index (get_or c.args.exceptions.now c.loop-exception.exception-index 0) c.in_ok-target.target _ c.put_row.new.draft c.put.new.self
          c.loop-exception-test.true (get_or_default c.args.exceptions.now c.loop-exception.exception-index 0 _ c.loop-exception-test.true) there
          (c.in_ok-push.ensures.ok ∙ ap (λ (xs : List ℕ). xs ++ get_or c.args.exceptions.now c.loop-exception.exception-index 0 ∷ []) c.new-names.ensures)
          c.loop-exception.invariant.left c.in_ok-put_row.ensures.puts c.in_ok-put.ensures.puts c.in_ok-put-2.ensures.puts;
      keeps = front_on c.loop-exception.invariant.keeps (front_on c.in_ok-put_row.ensures.keeps (front_on (still_front c.in_ok-put.ensures.keeps) (still_front c.in_ok-put-2.ensures.keeps)));
    }
