-- What single instructions make of the frame.
use Rattle.std.proofs.Common.{◌≡◌, ℕ, suc, ◌+◌, ◌<◌, ◌≤◌, if◌then◌else◌, Bool, true, false, ◌&&◌, List, [], ◌∷◌, ◌++◌, ℤ, pos, ◌+ℤ◌, length, Option, Some, None, slice_get, nat_le, le-leb, refl, sym, ap, ◌∙◌, subst, arith, inl}
use Rattle.kernel_base.specs.declared.ends.Exc.TheVariants.{Rangefail}
use Rattle.kernel_base.specs.declared.request.Request.TheVariants.{Read, Write}
use Rattle.world_model.specs.Session.{Session}
use Rattle.world_model.specs.Lists.{with_scalars, scalars_at}
use Rattle.modes.specs.declared.mode.Bounds.{Bounds}
use Rattle.program_trees.specs.ProgramTree.{LocalRowTree}
use Rattle.scalar_operators.specs.Numbers.{is_between, where_true}
use Rattle.code_types.specs.declared.instr.Instr.{Instr}
use Rattle.code_types.specs.declared.instr.Instr.TheVariants as i
use Rattle.code_types.specs.declared.code.Handler.{Handler}
use Rattle.code_types.specs.Places.{finds}
use Rattle.code_types.specs.Operands.{part_of, offset_of, number_in}
use Rattle.code_types.specs.Actions.{Action, Pushes, Sets, GoesTo, Throws, Halts, at_offset, numbers_or, in_frame, result_or, set_at, asks}
use Rattle.source_meaning.specs.Store.{Store, local_value, in_local, in_shared}
use Rattle.source_meaning.specs.Flow.{Goes, Raised}
use Rattle.source_meaning.specs.Operators.{sole_number, one, Computed, Yields, Throws as ThrowsIt, offset_within}
use Rattle.source_meaning.specs.ExprMeaning.{as_computed, or_rangefail, tested, read_at, assign_at}
use Rattle.follow_laws.specs.Follows.{Around, is_of_language, here, Holds, GetsTo, Follows, always, HoldsWith, Nothing, on_top, IsLong, run_by, action_in}
use Rattle.follow_laws.proofs.Running.{is_there, after, acts, makes, nullary, comes, raises}
use Rattle.follow_laws.proofs.Holding.{local_read, local_set}
use Rattle.follow_laws.proofs.Requesting.{Untaken, done_by, value_by}

-- ---- what actions make of the frame

pub pushes_by : (w : Around) (i : Instr) (at : ℕ) (base xs locals : List ℤ) (s : Session) (zs : List ℤ)
    → slice_get w.code.instrs at ≡ Some i → finds w.code w.body i ≡ length xs
    → action_in w i at (base ++ xs) locals xs ≡ Pushes zs
    → GetsTo w.code (here w at (base ++ xs) locals s) (here w (at + 1) (base ++ zs) locals s)
pushes_by w i at base xs locals s zs is found does = acts w i at base xs locals s (Pushes zs) is found does

pub sets_by : (w : Around) (i : Instr) (at : ℕ) (base xs locals : List ℤ) (s : Session) (f : ℕ) (zs : List ℤ)
    → slice_get w.code.instrs at ≡ Some i → finds w.code w.body i ≡ length xs
    → action_in w i at (base ++ xs) locals xs ≡ Sets f zs
    → GetsTo w.code (here w at (base ++ xs) locals s) (here w (at + 1) base (with_scalars locals f zs) s)
sets_by w i at base xs locals s f zs is found does = acts w i at base xs locals s (Sets f zs) is found does

pub jumps_by : (w : Around) (i : Instr) (at : ℕ) (base xs locals : List ℤ) (s : Session) (to : ℕ)
    → slice_get w.code.instrs at ≡ Some i → finds w.code w.body i ≡ length xs
    → action_in w i at (base ++ xs) locals xs ≡ GoesTo to
    → GetsTo w.code (here w at (base ++ xs) locals s) (here w to base locals s)
jumps_by w i at base xs locals s to is found does = acts w i at base xs locals s (GoesTo to) is found does

-- an instruction without operands pushes
pub puts_on : (w : Around) (i : Instr) (at : ℕ) (stack locals : List ℤ) (s : Session) (zs : List ℤ)
    → slice_get w.code.instrs at ≡ Some i → finds w.code w.body i ≡ 0
    → action_in w i at stack locals [] ≡ Pushes zs
    → GetsTo w.code (here w at stack locals s) (here w (at + 1) (stack ++ zs) locals s)
puts_on w i at stack locals s zs is found does = nullary w i at stack locals s (Pushes zs) is found does

-- the machine is there, by other names
pub renamed : (w : Around) (at to : ℕ) (stack stack' locals : List ℤ) (s : Session) → at ≡ to → stack ≡ stack' → GetsTo w.code (here w at stack locals s) (here w to stack' locals s)
renamed w at to stack stack' locals s e f = is_there w.code (here w at stack locals s) (here w to stack' locals s) (ap (λ (n : ℕ). here w n stack locals s) e ∙ ap (λ (l : List ℤ). here w to l locals s) f)

-- ---- results of operators

-- what an instruction does that gives such a result
abbrev pub as_action : Computed → Action
as_action (Yields xs) = Pushes xs
as_action (ThrowsIt x) = Throws x

-- a result, if there is one, is such a value; else an exception of the language is raised
abbrev pub YieldsSuch : (List ℤ → Type 0) → Computed → Type 0
YieldsSuch P (Yields xs) = P xs
YieldsSuch P (ThrowsIt x) = is_of_language x ≡ true

computed_runs : (w : Around) (c : Computed) (P : List ℤ → Type 0) (at to lo hi : ℕ) (rows : List Handler) (stack base locals : List ℤ) (store : Store) (s : Session)
    → YieldsSuch P c → at + 1 ≡ to → lo ≤ at → at < hi → Untaken rows at → Holds w store locals
    → Follows w (run_by w at stack base locals s (as_action c)) lo hi rows (always to) (on_top base) (HoldsWith w P) (as_computed c store s)
computed_runs w (Yields xs) P at to lo hi rows stack base locals store s is e low high none h = comes {v = xs} e refl (is, h)
computed_runs w (ThrowsIt x) P at to lo hi rows stack base locals store s is e low high none h = raises (inl is) low high (none x) h

-- an instruction gives the result of an operator
pub computed_by : (w : Around) (i : Instr) (c : Computed) (P : List ℤ → Type 0) (at to lo hi : ℕ) (rows : List Handler) (base xs locals : List ℤ) (store : Store) (s : Session)
    → slice_get w.code.instrs at ≡ Some i → finds w.code w.body i ≡ length xs
    → action_in w i at (base ++ xs) locals xs ≡ as_action c
    → YieldsSuch P c → at + 1 ≡ to → lo ≤ at → at < hi → Untaken rows at → Holds w store locals
    → Follows w (here w at (base ++ xs) locals s) lo hi rows (always to) (on_top base) (HoldsWith w P) (as_computed c store s)
computed_by w i c P at to lo hi rows base xs locals store s is found does such e low high none h =
    makes i at base xs locals s (as_action c) is found does (computed_runs w c P at to lo hi rows (base ++ xs) base locals store s such e low high none h)

-- a list of one number is that number
pub sole : (xs : List ℤ) → length xs ≡ 1 → xs ≡ one (sole_number xs)
sole [] e = absurd (let no : ⊥ = omega arith in no)
sole (x ∷ []) e = refl
sole (x ∷ y ∷ xs) e = absurd (let no : ⊥ = omega arith in no)

-- ---- tests

test_action : (b : Bool) (x : ℤ) → result_or Rangefail (where_true b x) ≡ as_action (if b then Yields (one x) else ThrowsIt Rangefail)
test_action true x = refl
test_action false x = refl

test_means : (b : Bool) (x : ℤ) (store : Store) (s : Session) → as_computed (if b then Yields (one x) else ThrowsIt Rangefail) store s ≡ (if b then Goes (one x) store s else Raised Rangefail store s)
test_means true x store s = refl
test_means false x store s = refl

test_yields : (b : Bool) (x : ℤ) → YieldsSuch (IsLong 1) (if b then Yields (one x) else ThrowsIt Rangefail)
test_yields true x = refl
test_yields false x = refl

-- Check tests the number on top.
pub check_by : (w : Around) (b : Bounds) (xs : List ℤ) (at to lo hi : ℕ) (rows : List Handler) (base locals : List ℤ) (store : Store) (s : Session)
    → length xs ≡ 1 → at + 1 ≡ to → lo ≤ at → at < hi → Untaken rows at
    → slice_get w.code.instrs at ≡ Some (i.Check b.low b.high) → Holds w store locals
    → Follows w (here w at (base ++ xs) locals s) lo hi rows (always to) (on_top base) (HoldsWith w (IsLong 1)) (tested (Some b) xs store s)
check_by w b xs at to lo hi rows base locals store s long e low high none has h =
    let x : ℤ = sole_number xs in
    let t : Bool = is_between b.low b.high x in
    let is : xs ≡ one x = sole xs long in
    subst (λ (l : List ℤ). Follows w (here w at (base ++ l) locals s) lo hi rows (always to) (on_top base) (HoldsWith w (IsLong 1)) (if t then Goes l store s else Raised Rangefail store s)) (sym is)
    (subst (λ o. Follows w (here w at (base ++ one x) locals s) lo hi rows (always to) (on_top base) (HoldsWith w (IsLong 1)) o) (test_means t x store s)
    (computed_by w (i.Check b.low b.high) (if t then Yields (one x) else ThrowsIt Rangefail) (IsLong 1) at to lo hi rows base (one x) locals store s has refl (test_action t x) (test_yields t x) e low high none h))

-- an offset goes on top
abbrev pub offset_on : List ℤ → ℤ → List ℤ
offset_on base z = base ++ one z

abbrev pub offset_or_fail : Option ℤ → Computed
offset_or_fail None = ThrowsIt Rangefail
offset_or_fail (Some z) = Yields (one z)

index_action : (o : Option ℤ) → result_or Rangefail o ≡ as_action (offset_or_fail o)
index_action None = refl
index_action (Some z) = refl

index_runs : (w : Around) (o : Option ℤ) (P : ℤ → Type 0) (at to lo hi : ℕ) (rows : List Handler) (stack base locals : List ℤ) (store : Store) (s : Session)
    → ((z : ℤ) → o ≡ Some z → P z) → at + 1 ≡ to → lo ≤ at → at < hi → Untaken rows at → Holds w store locals
    → Follows w (run_by w at stack base locals s (as_action (offset_or_fail o))) lo hi rows (always to) (offset_on base) (HoldsWith w P) (or_rangefail o store s)
index_runs w None P at to lo hi rows stack base locals store s such e low high none h = raises (inl refl) low high (none Rangefail) h
index_runs w (Some z) P at to lo hi rows stack base locals store s such e low high none h = comes {v = z} e refl (such z refl, h)

-- Index finds the offset of the number on top.
pub index_by : (w : Around) (b : Bounds) (size : ℕ) (P : ℤ → Type 0) (xs : List ℤ) (at to lo hi : ℕ) (rows : List Handler) (base locals : List ℤ) (store : Store) (s : Session)
    → length xs ≡ 1 → at + 1 ≡ to → lo ≤ at → at < hi → Untaken rows at
    → ((z : ℤ) → offset_within b size (sole_number xs) ≡ Some z → P z)
    → slice_get w.code.instrs at ≡ Some (i.Index b.low b.high size) → Holds w store locals
    → Follows w (here w at (base ++ xs) locals s) lo hi rows (always to) (offset_on base) (HoldsWith w P) (or_rangefail (offset_within b size (sole_number xs)) store s)
index_by w b size P xs at to lo hi rows base locals store s long e low high none such has h =
    let x : ℤ = sole_number xs in
    let o : Option ℤ = offset_within b size x in
    subst (λ (l : List ℤ). Follows w (here w at (base ++ l) locals s) lo hi rows (always to) (offset_on base) (HoldsWith w P) (or_rangefail o store s)) (sym (sole xs long))
    (makes (i.Index b.low b.high size) at base (one x) locals s (as_action (offset_or_fail o)) has refl (index_action o)
    (index_runs w o P at to lo hi rows (base ++ one x) base locals store s such e low high none h))

-- ---- contents and assignment

-- an offset that isn't negative
pub offset_is : (k : ℕ) → offset_of (pos k) ≡ Some k
offset_is k =
    let low : nat_le 0 k ≡ true = le-leb 0 k (omega arith) in
    ap (λ b. where_true b k) low

-- a number of 32 bits
pub number_is : (f k : ℕ) → f + k < 4294967296 → number_in (pos f +ℤ pos k) ≡ Some (f + k)
number_is f k h =
    let low : nat_le 0 (f + k) ≡ true = le-leb 0 (f + k) (omega arith) in
    let high : nat_le (f + k) 4294967295 ≡ true = le-leb (f + k) 4294967295 (omega arith) in
    ap (λ b. where_true (b && nat_le (f + k) 4294967295) (f + k)) low ∙ ap (λ b. where_true (true && b) (f + k)) high

-- a part of a local at a fixed place
pub local_by : (w : Around) (k first n f : ℕ) (row : LocalRowTree) (at to lo hi : ℕ) (rows : List Handler) (stack locals : List ℤ) (store : Store) (s : Session)
    → at + 1 ≡ to → slice_get w.rows k ≡ Some row → first + n ≤ row.count → f ≡ row.first + first
    → slice_get w.code.instrs at ≡ Some (i.Local f n) → Holds w store locals
    → Follows w (here w at stack locals s) lo hi rows (always to) (on_top stack) (HoldsWith w (IsLong n)) (read_at n (in_local k first) store s)
local_by w k first n f row at to lo hi rows stack locals store s e is low f_is has h =
    let part = local_read w store locals k first n f row h is low f_is in
    after (puts_on w (i.Local f n) at stack locals s (scalars_at (local_value store k) first n) has refl (ap in_frame part.is))
    (comes {v = scalars_at (local_value store k) first n} e refl (part.long, h))

-- a part of a local at an offset
pub local_at_by : (w : Around) (k first offset n f : ℕ) (row : LocalRowTree) (at to lo hi : ℕ) (rows : List Handler) (base locals : List ℤ) (store : Store) (s : Session)
    → at + 1 ≡ to → slice_get w.rows k ≡ Some row → first + offset + n ≤ row.count → f ≡ row.first + first
    → slice_get w.code.instrs at ≡ Some (i.LocalAt f n) → Holds w store locals
    → Follows w (here w at (base ++ one (pos offset)) locals s) lo hi rows (always to) (on_top base) (HoldsWith w (IsLong n)) (read_at n (in_local k (first + offset)) store s)
local_at_by w k first offset n f row at to lo hi rows base locals store s e is low f_is has h =
    let part = local_read w store locals k (first + offset) n (f + offset) row h is low (omega arith) in
    after (pushes_by w (i.LocalAt f n) at base (one (pos offset)) locals s (scalars_at (local_value store k) (first + offset) n) has refl
    (ap (λ o. at_offset o (λ k. numbers_or Rangefail (part_of locals (f + k) n))) (offset_is offset) ∙ ap (numbers_or Rangefail) part.is))
    (comes {v = scalars_at (local_value store k) (first + offset) n} e refl (part.long, h))

-- a part of a shared location
pub shared_by : (w : Around) (l first offset n : ℕ) (at to lo hi : ℕ) (rows : List Handler) (base locals : List ℤ) (store : Store) (s : Session)
    → at + 1 ≡ to → lo ≤ at → at < hi → Untaken rows at → first + offset < 4294967296
    → slice_get w.code.instrs at ≡ Some (i.Read l first n) → Holds w store locals
    → Follows w (here w at (base ++ one (pos offset)) locals s) lo hi rows (always to) (on_top base) (HoldsWith w (IsLong n)) (read_at n (in_shared l (first + offset)) store s)
shared_by w l first offset n at to lo hi rows base locals store s e low high none fit has h =
    value_by w (i.Read l first n) lo hi to n rows at (Read (record { location = l; first = first + offset; count = n })) base (one (pos offset)) locals store s has refl
    (ap (λ o. at_offset o (λ at. asks (Read (record { location = l; first = at; count = n })))) (number_is first offset fit)) refl e low high none h

-- a part of a local is set, at a fixed place
pub set_by : (w : Around) (k first n f : ℕ) (row : LocalRowTree) (xs : List ℤ) (at to lo hi : ℕ) (rows : List Handler) (base locals : List ℤ) (store : Store) (s : Session)
    → length xs ≡ n → at + 1 ≡ to → slice_get w.rows k ≡ Some row → first + n ≤ row.count → f ≡ row.first + first
    → slice_get w.code.instrs at ≡ Some (i.SetLocal f n) → Holds w store locals
    → Follows w (here w at (base ++ xs) locals s) lo hi rows (always to) (always base) (HoldsWith w Nothing) (assign_at n (in_local k first) xs store s)
set_by w k first n f row xs at to lo hi rows base locals store s long e is low f_is has h =
    let set = local_set w store locals k first f row xs h is (omega arith) f_is in
    let yes : nat_le (f + length xs) (length locals) ≡ true = le-leb (f + length xs) (length locals) set.inside in
    after (sets_by w (i.SetLocal f n) at base xs locals s f xs has (sym long) (ap (λ t. if t then Sets f xs else Halts) yes))
    (comes {v = tt} e refl (tt, set.holds))

-- a part of a local is set, at an offset below the value
pub set_at_by : (w : Around) (k first offset n f : ℕ) (row : LocalRowTree) (xs : List ℤ) (at to lo hi : ℕ) (rows : List Handler) (base locals : List ℤ) (store : Store) (s : Session)
    → length xs ≡ n → at + 1 ≡ to → slice_get w.rows k ≡ Some row → first + offset + n ≤ row.count → f ≡ row.first + first
    → slice_get w.code.instrs at ≡ Some (i.SetLocalAt f n) → Holds w store locals
    → Follows w (here w at (base ++ (pos offset ∷ xs)) locals s) lo hi rows (always to) (always base) (HoldsWith w Nothing) (assign_at n (in_local k (first + offset)) xs store s)
set_at_by w k first offset n f row xs at to lo hi rows base locals store s long e is low f_is has h =
    let set = local_set w store locals k (first + offset) (f + offset) row xs h is (omega arith) (omega arith) in
    let yes : nat_le (f + offset + length xs) (length locals) ≡ true = le-leb (f + offset + length xs) (length locals) set.inside in
    after (sets_by w (i.SetLocalAt f n) at base (pos offset ∷ xs) locals s (f + offset) xs has (let c : 1 + n ≡ suc (length xs) = omega arith in c)
    (ap (λ o. at_offset o (λ k. set_at (length locals) (f + k) xs)) (offset_is offset) ∙ ap (λ t. if t then Sets (f + offset) xs else Throws Rangefail) yes))
    (comes {v = tt} e refl (tt, set.holds))

-- a part of a shared location is written, at an offset below the value
pub write_by : (w : Around) (l first offset n : ℕ) (xs : List ℤ) (at to lo hi : ℕ) (rows : List Handler) (base locals : List ℤ) (store : Store) (s : Session)
    → length xs ≡ n → at + 1 ≡ to → lo ≤ at → at < hi → Untaken rows at → first + offset < 4294967296
    → slice_get w.code.instrs at ≡ Some (i.Write l first n) → Holds w store locals
    → Follows w (here w at (base ++ (pos offset ∷ xs)) locals s) lo hi rows (always to) (always base) (HoldsWith w Nothing) (assign_at n (in_shared l (first + offset)) xs store s)
write_by w l first offset n xs at to lo hi rows base locals store s long e low high none fit has h =
    done_by w (i.Write l first n) lo hi to rows at (Write (record { location = l; first = first + offset; count = n }) xs) base (pos offset ∷ xs) locals store s has (let c : 1 + n ≡ suc (length xs) = omega arith in c)
    (ap (λ o. at_offset o (λ at. asks (Write (record { location = l; first = at; count = n }) xs))) (number_is first offset fit)) tt e low high none h
