-- The machine comes to at most one place behind its code, since it goes on from none.
use Rattle.std.proofs.Common.{◌≡◌, ℕ, zero, suc, ◌≤◌, List, [], ◌∷◌, ℤ, length, Option, refl, sym, ap, ◌∙◌}
use Rattle.std.proofs.lemmas.Option.{slice_get_past}
use Rattle.world_model.specs.Session.{Item, Session}
use Rattle.code_types.specs.declared.instr.Instr.{Instr}
use Rattle.code_types.specs.declared.code.Code.{Code}
use Rattle.code_types.specs.State.{Frame, State, Running}
use Rattle.code_types.specs.Steps.{Run, At, Over, executed, run_after, step, steps}
use Rattle.follow_laws.specs.Follows.{Around, frame_at, state_at, here, GetsTo}

over_stays : (code : Code) (n : ℕ) (q : State) (t : List Item) → steps code n (Over q t) ≡ Over q t
over_stays code zero q t = refl
over_stays code (suc n) q t = over_stays code n q t

-- a state from which the machine doesn't go on
record Ends (code : Code) (q : State) (s : Session) : Type 0 where
  trace : List Item
  over : step code (At q s) ≡ Over q trace

not_over : (q r : State) (s : Session) (t : List Item) → Over r t ≡ At q s → ⊥
not_over q r s t e = let no : ⊥ = cc in no

-- a run that ends comes to no other state
ended_alone : (code : Code) (n : ℕ) (q r : State) (s u : Session) → Ends code q s → steps code n (At q s) ≡ At r u → At q s ≡ At r u
ended_alone code zero q r s u ends e = e
ended_alone code (suc n) q r s u ends e =
    absurd (not_over r q u ends.trace (sym (over_stays code n q ends.trace) ∙ (ap (λ (m : Run). steps code n m) (sym ends.over) ∙ e)))

one_end : (code : Code) (c d : ℕ) (m : Run) (q r : State) (s u : Session) → Ends code q s → Ends code r u → steps code c m ≡ At q s → steps code d m ≡ At r u → At q s ≡ At r u
one_end code zero d m q r s u ends_q ends_r e f = ended_alone code d q r s u ends_q (ap (λ (x : Run). steps code d x) (sym e) ∙ f)
one_end code (suc c) zero m q r s u ends_q ends_r e f = sym (ended_alone code (suc c) r q u s ends_r (ap (λ (x : Run). steps code (suc c) x) (sym f) ∙ e))
one_end code (suc c) (suc d) m q r s u ends_q ends_r e f = one_end code c d (step code m) q r s u ends_q ends_r e f

behind_code : (w : Around) (at : ℕ) (locals : List ℤ) (s : Session) → length w.code.instrs ≤ at → Ends w.code (state_at w Running at [] locals) s
behind_code w at locals s low =
    let q : State = state_at w Running at [] locals in
    record { trace = s.trace; over = ap (λ (o : Option Instr). run_after q s (executed w.code q (frame_at w at [] locals) w.below o)) (slice_get_past w.code.instrs at low) }

abbrev place_in : List Frame → ℕ
place_in [] = 0
place_in (f ∷ fs) = f.place

abbrev run_place : Run → ℕ
run_place (At q s) = place_in q.frames
run_place (Over q t) = 0

pub one_place : (w : Around) (m : Run) (a b : ℕ) (locals others : List ℤ) (s u : Session) → length w.code.instrs ≤ a → length w.code.instrs ≤ b
    → GetsTo w.code m (here w a [] locals s) → GetsTo w.code m (here w b [] others u) → a ≡ b
one_place w m a b locals others s u low_a low_b p q =
    ap run_place (one_end w.code p.count q.count m (state_at w Running a [] locals) (state_at w Running b [] others) s u (behind_code w a locals s low_a) (behind_code w b others u low_b) p.by q.by)
