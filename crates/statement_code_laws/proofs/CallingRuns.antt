-- Calls and starts whose values are dropped.
use Rattle.std.proofs.Common.{◌≡◌, ℕ, ◌+◌, if◌then◌else◌, nat_lt, ltb-false, Bool, true, false, List, [], ◌∷◌, ℤ, length, refl, sym, ap, arith}
use Rattle.world_model.specs.Session.{Session}
use Rattle.code_types.specs.declared.instr.Instr.{Instr}
use Rattle.code_types.specs.declared.instr.Instr.TheVariants as i
use Rattle.program_trees.specs.ExprTree.{CallTree, StartTree, call, start}
use Rattle.program_trees.specs.StatementTree.{perform, start_of}
use Rattle.code_scheme.specs.Pieces.{Layout}
use Rattle.code_scheme.specs.ExprSizes.{call_size, start_size}
use Rattle.code_scheme.specs.ExprCode.{call_code, start_code}
use Rattle.code_scheme.specs.StatementSite.{layout}
use Rattle.code_scheme.specs.StatementPlain.{dropped_scalars, drop_code}
use Rattle.follow_laws.specs.Follows.{HasAt, Around, here, GetsTo}
use Rattle.code_laws.specs.OwnBounds.{start_within, call_within}
use Rattle.follow_laws.proofs.Running.{has_front, has_back, after, follows_then, comes}
use Rattle.follow_laws.proofs.Instructions.{renamed}
use Rattle.code_laws.proofs.Sizes.{call_length, start_length}
use Rattle.code_laws.proofs.BetweenRuns.{pop_run}
use Rattle.code_laws.proofs.ExprRuns.{operation_runs}
use Rattle.statement_code_laws.specs.Actions.{ActionActs, CallingLaw}
use Rattle.statement_code_laws.proofs.PlainRuns.{plain_acts, open_here}

-- a value of so many scalars is dropped
drop_run : (w : Around) (n at : ℕ) (xs locals : List ℤ) (s : Session) → length xs ≡ n → HasAt w.code.instrs at (drop_code n)
    → GetsTo w.code (here w at xs locals s) (here w (at + length (drop_code n)) [] locals s)
drop_run w n at xs locals s long has = by_test (nat_lt 0 n) refl has
  where
    no_scalars : (ys : List ℤ) → length ys ≡ 0 → ys ≡ []
    no_scalars [] e = refl
    no_scalars (y ∷ ys) e = absurd (let no : ⊥ = omega arith in no)

    by_test : (t : Bool) → nat_lt 0 n ≡ t → HasAt w.code.instrs at (if t then i.Pop n ∷ [] else [])
        → GetsTo w.code (here w at xs locals s) (here w (at + length (if t then i.Pop n ∷ [] else [])) [] locals s)
    by_test true e h = pop_run w xs n at [] locals s (sym long) h.0
    by_test false e h =
        let none : length xs ≡ 0 = omega (arith, long, ltb-false 0 n e) in
        renamed w at (at + 0) xs [] locals s (let z : at ≡ at + 0 = omega arith in z) (no_scalars xs none)

performed : (c : CallTree) → ActionActs (perform c)
performed c w v st bodies inside n from stands names fits has =
    plain_acts (λ store s locals within h.
    let lay : Layout = layout st.site in
    let count : ℕ = dropped_scalars st.site c in
    let at : ℕ = from + call_size c in
    let until : ℕ = from + (call_size c + length (drop_code count)) in
    let first : List Instr = call_code lay st.free c from in
    let has1 = has_back w.code.instrs from at first (drop_code count) (ap (λ (j : ℕ). from + j) (call_length lay st.free c count from fits)) has in
    follows_then
    (operation_runs w v lay bodies inside from until st.free count (call c) from at [] locals store s stands.suited names stands.free fits refl (omega arith) (omega arith) (has_front w.code.instrs from first (drop_code count) has) (open_here w v inside (λ cs. call_within v cs c store s) stands.suited.open_now within) h)
    (λ xs store1 s1 locals1 q.
    after (drop_run w count at xs locals1 s1 q.0 has1) (comes {v = tt} (omega arith) refl (tt, q.1))))

started : (t : StartTree) → ActionActs (start_of t)
started t w v st bodies inside n from stands names fits has =
    plain_acts (λ store s locals within h.
    let lay : Layout = layout st.site in
    let at : ℕ = from + start_size t in
    let until : ℕ = from + (start_size t + 1) in
    let first : List Instr = start_code lay st.free t from in
    let pop : List Instr = i.Pop 1 ∷ [] in
    let has1 = has_back w.code.instrs from at first pop (ap (λ (j : ℕ). from + j) (start_length lay st.free t from fits)) has in
    follows_then
    (operation_runs w v lay bodies inside from until st.free 1 (start t) from at [] locals store s stands.suited names stands.free (fits, refl) refl (omega arith) (omega arith) (has_front w.code.instrs from first pop has) (open_here w v inside (λ cs. start_within v cs t store s) stands.suited.open_now within) h)
    (λ xs store1 s1 locals1 q.
    after (pop_run w xs 1 at [] locals1 s1 (sym q.0) has1.0) (comes {v = tt} (omega arith) refl (tt, q.1))))

pub calling_law : CallingLaw
calling_law = record { performed = performed; started = started }
