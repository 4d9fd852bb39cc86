-- What is appended in steps, with handler rows.
use Rattle.std.proofs.Common.{◌≡◌, ℕ, ◌+◌, List, ◌++◌, length, refl, sym, ap, ◌∙◌, arith, append_assoc}
use Rattle.std.proofs.lemmas.List.{append-nil}
use Rattle.code_types.specs.declared.code.Code.{Code}
use Rattle.code_types.specs.declared.code.Handler.{Handler}
use Rattle.code_types.specs.declared.instr.Instr.{Instr}
use Rattle.code_scheme.specs.StatementCode.{CodeAt, no_code}
use Rattle.code_scheme.specs.StatementRows.{RowsAt, no_rows}
use Rattle.expr_gen.specs.Putting.{Appends}
use Rattle.stmt_gen.specs.Appending.{AppendsAt, AppendsRows, StillTo}

-- nothing
pub nothing_at : (x : Code) → AppendsAt no_code 0 no_rows x x
nothing_at x = record { instrs = sym (append-nil x.instrs); length = omega arith; handlers = sym (append-nil x.handlers); bodies = refl }

-- instructions without rows
pub without_rows : (made : CodeAt) {n : ℕ} {x y : Code} → Appends (made (length x.instrs)) n x y → AppendsAt made n no_rows x y
without_rows made {n} {x} {y} p = record { instrs = p.instrs; length = p.length; handlers = p.handlers ∙ sym (append-nil x.handlers); bodies = p.bodies }

-- one part behind another
pub then_at : {a b : CodeAt} {m n : ℕ} {r s : RowsAt} {x y z : Code}
    → AppendsAt a m r x y → AppendsAt b n s y z → AppendsAt (λ at. a at ++ b (at + m)) (m + n) (λ at. r at ++ s (at + m)) x z
then_at {a} {b} {m} {n} {r} {s} {x} {y} {z} p q = record {
  instrs = q.instrs ∙ ap (λ (k : ℕ). y.instrs ++ b k) p.length ∙ ap (λ (is : List Instr). is ++ b (length x.instrs + m)) p.instrs ∙ append_assoc x.instrs (a (length x.instrs)) (b (length x.instrs + m));
  length = omega (arith, p.length, q.length);
  handlers = q.handlers ∙ ap (λ (k : ℕ). y.handlers ++ s k) p.length ∙ ap (λ (hs : List Handler). hs ++ s (length x.instrs + m)) p.handlers ∙ append_assoc x.handlers (r (length x.instrs)) (s (length x.instrs + m));
  bodies = q.bodies ∙ p.bodies;
}

-- the same part, told otherwise
pub told_as : {a : CodeAt} (b : CodeAt) {m : ℕ} (n : ℕ) {r : RowsAt} (s : RowsAt) {x y : Code}
    → a (length x.instrs) ≡ b (length x.instrs) → m ≡ n → r (length x.instrs) ≡ s (length x.instrs) → AppendsAt a m r x y → AppendsAt b n s x y
told_as {a} b {m} n {r} s {x} {y} code size rows p = record {
  instrs = p.instrs ∙ ap (λ (is : List Instr). x.instrs ++ is) code;
  length = omega (arith, p.length, size);
  handlers = p.handlers ∙ ap (λ (hs : List Handler). x.handlers ++ hs) rows;
  bodies = p.bodies;
}

-- rows first
pub rows_before : (rows : List Handler) {a : CodeAt} {m : ℕ} {r : RowsAt} {x y z : Code}
    → AppendsRows rows x y → AppendsAt a m r y z → AppendsAt a m (λ at. rows ++ r at) x z
rows_before rows {a} {m} {r} {x} {y} {z} p q = record {
  instrs = q.instrs ∙ ap (λ (is : List Instr). is ++ a (length is)) p.instrs;
  length = q.length ∙ ap (λ (is : List Instr). length is + m) p.instrs;
  handlers = q.handlers ∙ ap (λ (is : List Instr). y.handlers ++ r (length is)) p.instrs ∙ ap (λ (hs : List Handler). hs ++ r (length x.instrs)) p.handlers ∙ append_assoc x.handlers rows (r (length x.instrs));
  bodies = q.bodies ∙ p.bodies;
}

pub begin : (a : CodeAt) (m : ℕ) (r : RowsAt) (x : Code) → StillTo a m r a m r x x
begin a m r x = record { instrs = refl; length = refl; handlers = refl; bodies = refl }

-- a part was appended, behind which the others are left
pub step : {a b c d : CodeAt} {m k l n : ℕ} {r s t u : RowsAt} {x y z : Code}
    → b (length y.instrs) ≡ c (length y.instrs) ++ d (length y.instrs + k) → l ≡ k + n → s (length y.instrs) ≡ t (length y.instrs) ++ u (length y.instrs + k)
    → StillTo a m r b l s x y → AppendsAt c k t y z → StillTo a m r d n u x z
step {a} {b} {c} {d} {m} {k} {l} {n} {r} {s} {t} {u} {x} {y} {z} code size rows p q = record {
  instrs = ap (λ (j : ℕ). z.instrs ++ d j) q.length ∙ ap (λ (is : List Instr). is ++ d (length y.instrs + k)) q.instrs
      ∙ append_assoc y.instrs (c (length y.instrs)) (d (length y.instrs + k)) ∙ ap (λ (is : List Instr). y.instrs ++ is) (sym code) ∙ p.instrs;
  length = omega (arith, p.length, q.length, size);
  handlers = ap (λ (j : ℕ). z.handlers ++ u j) q.length ∙ ap (λ (hs : List Handler). hs ++ u (length y.instrs + k)) q.handlers
      ∙ append_assoc y.handlers (t (length y.instrs)) (u (length y.instrs + k)) ∙ ap (λ (hs : List Handler). y.handlers ++ hs) (sym rows) ∙ p.handlers;
  bodies = q.bodies ∙ p.bodies;
}

-- all that was left was appended
pub end : {a b : CodeAt} {m n : ℕ} {r s : RowsAt} {x y z : Code} → StillTo a m r b n s x y → AppendsAt b n s y z → AppendsAt a m r x z
end p q = record {
  instrs = q.instrs ∙ p.instrs;
  length = q.length ∙ p.length;
  handlers = q.handlers ∙ p.handlers;
  bodies = q.bodies ∙ p.bodies;
}

-- the same, where both are told otherwise
pub still_as : {a : CodeAt} (b : CodeAt) {m : ℕ} (n : ℕ) {r : RowsAt} (s : RowsAt) {c : CodeAt} (d : CodeAt) {k : ℕ} (l : ℕ) {t : RowsAt} (u : RowsAt) {x y : Code}
    → a (length x.instrs) ≡ b (length x.instrs) → m ≡ n → r (length x.instrs) ≡ s (length x.instrs)
    → c (length y.instrs) ≡ d (length y.instrs) → k ≡ l → t (length y.instrs) ≡ u (length y.instrs)
    → StillTo a m r c k t x y → StillTo b n s d l u x y
still_as {a} b {m} n {r} s {c} d {k} l {t} u {x} {y} code size rows left left_size left_rows p = record {
  instrs = ap (λ (is : List Instr). y.instrs ++ is) (sym left) ∙ p.instrs ∙ ap (λ (is : List Instr). x.instrs ++ is) code;
  length = omega (arith, p.length, size, left_size);
  handlers = ap (λ (hs : List Handler). y.handlers ++ hs) (sym left_rows) ∙ p.handlers ∙ ap (λ (hs : List Handler). x.handlers ++ hs) rows;
  bodies = p.bodies;
}

-- a part first
pub before_still : {a b c : CodeAt} {m n k : ℕ} {r s t : RowsAt} {x y z : Code}
    → AppendsAt a m r x y → StillTo b n s c k t y z → StillTo (λ at. a at ++ b (at + m)) (m + n) (λ at. r at ++ s (at + m)) c k t x z
before_still {a} {b} {c} {m} {n} {k} {r} {s} {t} {x} {y} {z} p q = record {
  instrs = q.instrs ∙ ap (λ (j : ℕ). y.instrs ++ b j) p.length ∙ ap (λ (is : List Instr). is ++ b (length x.instrs + m)) p.instrs ∙ append_assoc x.instrs (a (length x.instrs)) (b (length x.instrs + m));
  length = omega (arith, p.length, q.length);
  handlers = q.handlers ∙ ap (λ (j : ℕ). y.handlers ++ s j) p.length ∙ ap (λ (hs : List Handler). hs ++ s (length x.instrs + m)) p.handlers ∙ append_assoc x.handlers (r (length x.instrs)) (s (length x.instrs + m));
  bodies = q.bodies ∙ p.bodies;
}
