-- Sums that are held as numbers of 32 bits.
use Rattle.code_types.specs.declared.instr.Instr.TheVariants as i
use Rattle.std.proofs.Common.{[], ◌∷◌, ◌≡◌, ℕ, zero, suc, ◌+◌, ◌≤◌, Bool, true, false, refl, arith, ◌∙◌, sym, ap}
use Rattle.code_scheme.specs.Pieces.{capped}
use Rattle.code_scheme.specs.StatementGoing.{leave_size, leave_code, joined}
use Rattle.stmt_gen.specs.JoiningSizes.{behind_waiting}

-- all that wait have their jump where some instructions stand behind them
pub waits : (w m : ℕ) → 1 ≤ m → behind_waiting w m ≡ w + m
waits w zero p = omega (arith, p)
waits w (suc m) p = refl

pub leaves : (g : Bool) (m : ℕ) → 1 ≤ m → leave_size g m ≡ leave_size g 1
leaves g zero p = omega (arith, p)
leaves true (suc m) p = refl
leaves false (suc m) p = refl

-- where a part of no instructions is joined
pub then_nothing : (s w rest : ℕ) (g : Bool) (n : ℕ) → 0 ≡ capped n → capped (s + behind_waiting (capped (w + leave_size g 1)) rest) ≡ capped (s + behind_waiting w (joined n g rest))
then_nothing s w zero true n e = let none : n ≡ 0 = omega (arith, e) in rw none refl
then_nothing s w zero false n e = let none : n ≡ 0 = omega (arith, e) in rw none refl
then_nothing s w (suc rest) g n e =
    let none : n ≡ 0 = omega (arith, e) in
    let one : leave_size g (suc rest) ≡ leave_size g 1 = leaves g (suc rest) (omega arith) in
    let now : behind_waiting (capped (w + leave_size g 1)) (suc rest) ≡ capped (w + leave_size g 1) + suc rest = waits _ (suc rest) (omega arith) in
    let later : behind_waiting w (joined n g (suc rest)) ≡ w + joined n g (suc rest) = waits w (joined n g (suc rest)) (omega arith) in
    omega (arith, none, one, now, later)

pub then_some : (s w rest : ℕ) (g : Bool) (n k : ℕ) → k ≡ capped n → 1 ≤ k
    → capped (capped (capped (s + w) + k) + behind_waiting (leave_size g 1) rest) ≡ capped (s + behind_waiting w (joined n g rest))
then_some s w zero true n k e p = let later : behind_waiting w (joined n true 0) ≡ w + joined n true 0 = waits w (joined n true 0) (omega (arith, e, p)) in omega (arith, e, later)
then_some s w zero false n k e p = let later : behind_waiting w (joined n false 0) ≡ w + joined n false 0 = waits w (joined n false 0) (omega (arith, e, p)) in omega (arith, e, later)
then_some s w (suc rest) g n k e p =
    let one : leave_size g (suc rest) ≡ leave_size g 1 = leaves g (suc rest) (omega arith) in
    let now : behind_waiting (leave_size g 1) (suc rest) ≡ leave_size g 1 + suc rest = waits _ (suc rest) (omega arith) in
    let later : behind_waiting w (joined n g (suc rest)) ≡ w + joined n g (suc rest) = waits w (joined n g (suc rest)) (omega arith) in
    omega (arith, e, one, now, later)

-- a jump leads over a jump and what lies behind it where one leads over that
pub leave_over : (g : Bool) (rest : ℕ) → leave_size g (leave_size g rest + rest) ≡ leave_size g rest
leave_over false zero = refl
leave_over true zero = refl
leave_over g (suc rest) = leaves g (leave_size g (suc rest) + suc rest) (omega arith) ∙ sym (leaves g (suc rest) (omega arith))

pub leave_capped : (g : Bool) (rest : ℕ) → leave_size g (capped rest) ≡ leave_size g rest
leave_capped false rest = refl
leave_capped true zero = refl
leave_capped true (suc rest) = leaves true (capped (suc rest)) (omega arith) ∙ sym (leaves true (suc rest) (omega arith))

-- where control comes and the place behind the parts is a later one, there is a jump
pub jumps : (rest at behind : ℕ) → behind ≡ at + (leave_size true rest + rest) → (at ≡ behind → ⊥) → (leave_code true rest behind ≡ i.Jump behind ∷ []) × (leave_size true rest ≡ 1)
jumps zero at behind e n = absurd (n (omega (arith, e)))
jumps (suc rest) at behind e n = (refl, refl)

-- where it is this one, there is none
pub stays : (g : Bool) (rest at behind : ℕ) → behind ≡ at + (leave_size g rest + rest) → at ≡ behind → (leave_code g rest behind ≡ []) × (leave_size g rest ≡ 0)
stays false rest at behind e n = (refl, refl)
stays true zero at behind e n = (refl, refl)
stays true (suc rest) at behind e n = absurd (omega (arith, e, n))
