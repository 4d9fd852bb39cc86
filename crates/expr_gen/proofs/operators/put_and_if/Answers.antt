use Rattle.std.proofs.Common.{◌≡◌, ◌+◌, ℕ, Result, Ok, Err, OnOk, List, length, sym, arith}
use Rattle.code_types.specs.declared.code.Code.{Code}
use Rattle.code_types.specs.declared.instr.Instr.{Instr}
use Rattle.code_scheme.specs.Pieces.{capped}
use Rattle.expr_gen.specs.Putting.{Appends}
use Rattle.expr_gen.proofs.Appending.{and_then}
use Rattle.expr_gen.proofs.operators.put_and_if.Goals as goal

-- what holds for each number of instructions, where the last part is appended
for_each : {T E : Type 0} (r : Result T E) (second : ℕ) (f : ℕ → List Instr) (b : List Instr) (k : ℕ) (x y z : Code)
    → ((n : ℕ) → second ≡ capped n → Appends b 1 y z → Appends (f n) k x z) → OnOk r (Appends b 1 y z) → OnOk r ((n : ℕ) → second ≡ capped n → Appends (f n) k x z)
for_each (Ok v) second f b k x y z g q = λ n e. g n e q
for_each (Err v) second f b k x y z g q = tt

pub returns-clause-puts : goal.returns-clause-puts
returns-clause-puts c = for_each c.put-3.result c.args.second _ _ _ _ _ _ (λ n e q.
    let step : c.saturating_add.result ≡ capped (n + 3) = omega arith in
    let over : c.in_ok-behind.behind ≡ length c.args.draft.now.code.instrs + (n + 3) = c.in_ok-behind.ensures (n + 3) step in
    rw (sym over) (and_then (and_then c.in_ok-put.ensures.puts c.in_ok-put-2.ensures.puts) q))
    c.put-3.ensures.puts
