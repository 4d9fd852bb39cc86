use Rattle.std.proofs.Common.{ℕ, ◌≡◌, ◌+◌, ◌*◌, List, length, refl, ap, ◌∙◌, arith}
use Rattle.std.proofs.lemmas.Result.{on_ok_weaker}
use Rattle.stmt_gen.proofs.Front.{still_front, front_on}
use Rattle.stmt_gen.proofs.Modular.{region_put}
use Rattle.stmt_gen.proofs.items.put_region.Goals as goal

pub returns-clause-puts : goal.returns-clause-puts
returns-clause-puts c =
    let from : c.in_ok-from.from ≡ length c.put.new.self.code.instrs = omega (arith, c.in_ok-from.ensures 0 refl) in
    let until : c.in_ok-until.until ≡ length c.put_some_handler.new.draft.code.instrs = omega (arith, c.in_ok-until.ensures 0 refl) in
    let size : length c.as_slice.result.now ≡ length c.in_ok-raised.raised = ap (λ (xs : List ℕ). length xs) c.as_slice.ensures in
    let behind = c.in_ok-behind.ensures (2 * length c.as_slice.result.now + 2)
    (omega (arith, size, c.len.ensures, c.min-count.ensures, c.saturating_mul.ensures, c.saturating_add.ensures)) in
    on_ok_weaker c.put_again.result (λ q. region_put c.args.around.now c.args.region c.in_ok-from.from c.in_ok-until.until c.in_ok-behind.behind c.args.initialisations.now c.args.handler.now c.as_slice.result.now c.put-2.new.self c.put-3.new.self
    from until (c.as_slice.ensures ∙ c.in_ok-raised.ensures) behind c.in_ok-put.ensures.puts c.in_ok-put_statements.ensures.puts c.in_ok-put_some_handler.ensures.puts c.in_ok-put-2.ensures.puts c.in_ok-put-3.ensures.puts q) c.put_again.ensures.puts

pub returns-clause-keeps : goal.returns-clause-keeps
returns-clause-keeps c =
    front_on (still_front c.in_ok-put.ensures.keeps) (front_on c.in_ok-put_statements.ensures.keeps (front_on c.in_ok-put_some_handler.ensures.keeps
    (front_on (still_front c.in_ok-put-2.ensures.keeps) (front_on (still_front c.in_ok-put-3.ensures.keeps) c.put_again.ensures.keeps))))
