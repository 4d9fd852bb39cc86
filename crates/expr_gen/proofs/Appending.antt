-- What is appended in steps.
use Rattle.std.proofs.Common.{◌≡◌, ℕ, ◌+◌, List, [], ◌++◌, length, refl, sym, ap, ◌∙◌, arith, append_assoc, Result, Ok, Err, OnOk}
use Rattle.std.proofs.lemmas.List.{append-nil}
use Rattle.code_types.specs.declared.code.Code.{Code}
use Rattle.code_types.specs.declared.instr.Instr.{Instr}
use Rattle.expr_gen.specs.Putting.{Appends, Keeps}

-- nothing
pub nothing : (x : Code) → Appends [] 0 x x
nothing x = record { instrs = sym (append-nil x.instrs); length = omega arith; handlers = refl; bodies = refl }

-- one part behind another
pub and_then : {a b : List Instr} {m n : ℕ} {x y z : Code} → Appends a m x y → Appends b n y z → Appends (a ++ b) (m + n) x z
and_then {a} {b} {m} {n} {x} {y} {z} p q = record {
  instrs = q.instrs ∙ ap (λ is. is ++ b) p.instrs ∙ append_assoc x.instrs a b;
  length = omega (arith, p.length, q.length);
  handlers = q.handlers ∙ p.handlers;
  bodies = q.bodies ∙ p.bodies;
}

-- the same part with its number of instructions in another form
pub resized : {a : List Instr} {m n : ℕ} {x y : Code} → m ≡ n → Appends a m x y → Appends a n x y
resized e p = record { instrs = p.instrs; length = omega (arith, p.length, e); handlers = p.handlers; bodies = p.bodies }

-- the last part of several, where it is appended
pub at_last : {T E : Type 0} {a : List Instr} {m : ℕ} {x y : Code} (r : Result T E) (b : List Instr) (n : ℕ) (z : Code) → Appends a m x y → OnOk r (Appends b n y z) → OnOk r (Appends (a ++ b) (m + n) x z)
at_last (Ok v) b n z p q = and_then p q
at_last (Err e) b n z p q = tt

-- what is appended leaves what stood before
pub kept_by : {a : List Instr} {n : ℕ} {x y : Code} → Appends a n x y → Keeps x y
kept_by {a} p = record { more = a; instrs = p.instrs; handlers = p.handlers; bodies = p.bodies }

pub kept_as : {x y : Code} → y ≡ x → Keeps x y
kept_as {x} {y} e = rw e (kept_by (nothing x))

pub kept_on : {x y z : Code} → Keeps x y → Keeps y z → Keeps x z
kept_on {x} {y} {z} p q = record {
  more = p.more ++ q.more;
  instrs = q.instrs ∙ ap (λ is. is ++ q.more) p.instrs ∙ append_assoc x.instrs p.more q.more;
  handlers = q.handlers ∙ p.handlers;
  bodies = q.bodies ∙ p.bodies;
}

pub ruleset keeping = (kept_by, kept_as, kept_on)

-- What is still to be appended to one code, where all this is to be appended to an earlier one.
pub record StillTo (all : ℕ → List Instr) (size : ℕ) (left : ℕ → List Instr) (left_size : ℕ) (old now : Code) : Type 0 where
  pub instrs : now.instrs ++ left (length now.instrs) ≡ old.instrs ++ all (length old.instrs)
  pub length : length now.instrs + left_size ≡ length old.instrs + size
  pub handlers : now.handlers ≡ old.handlers
  pub bodies : now.bodies ≡ old.bodies

-- a part was appended, behind which the others are left
pub step : {a b : ℕ → List Instr} {c : List Instr} (d : ℕ → List Instr) {m k l : ℕ} (n : ℕ) {x y z : Code}
    → b (length y.instrs) ≡ c ++ d (length y.instrs + k) → l ≡ k + n
    → StillTo a m b l x y → Appends c k y z → StillTo a m d n x z
step {a} {b} {c} d {m} {k} {l} n {x} {y} {z} code size p q = record {
  instrs = ap (λ (j : ℕ). z.instrs ++ d j) q.length ∙ ap (λ (is : List Instr). is ++ d (length y.instrs + k)) q.instrs
      ∙ append_assoc y.instrs c (d (length y.instrs + k)) ∙ ap (λ (is : List Instr). y.instrs ++ is) (sym code) ∙ p.instrs;
  length = omega (arith, p.length, q.length, size);
  handlers = q.handlers ∙ p.handlers;
  bodies = q.bodies ∙ p.bodies;
}

-- all is appended
pub done : {a b : ℕ → List Instr} {m n : ℕ} {x y : Code} → StillTo a m b n x y → b (length y.instrs) ≡ [] → n ≡ 0 → Appends (a (length x.instrs)) m x y
done {a} {b} {m} {n} {x} {y} p code size = record {
  instrs = sym (append-nil y.instrs) ∙ ap (λ (is : List Instr). y.instrs ++ is) (sym code) ∙ p.instrs;
  length = omega (arith, p.length, size);
  handlers = p.handlers;
  bodies = p.bodies;
}

-- the last of what is left is appended
pub finish : {a b : ℕ → List Instr} {m n : ℕ} {x y z : Code} → StillTo a m b n x y → Appends (b (length y.instrs)) n y z → Appends (a (length x.instrs)) m x z
finish p q = record {
  instrs = q.instrs ∙ p.instrs;
  length = q.length ∙ p.length;
  handlers = q.handlers ∙ p.handlers;
  bodies = q.bodies ∙ p.bodies;
}
