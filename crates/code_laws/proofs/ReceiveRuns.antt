-- A value that is received from a buffer.
use Rattle.std.proofs.Common.{◌≡◌, ℕ, zero, suc, ◌+◌, ◌≤◌, nat_le, le-leb, eqb-true, eq-eqb, ◌==◌, if◌then◌else◌, Bool, true, false, ◌&&◌, ◌||◌, List, [], ◌∷◌, ◌++◌, ℤ, pos, length, Some, None, refl, sym, ap, ◌∙◌, subst, arith, append_assoc}
use Rattle.kernel_base.specs.declared.request.Request.{Request}
use Rattle.kernel_base.specs.declared.request.Request.TheVariants.{ReceiveBuffer}
use Rattle.kernel_base.specs.declared.answer.Answer.{Answer}
use Rattle.kernel_base.specs.declared.answer.Answer.TheVariants.{Value, Done, Woken, Got, Otherwise, Instance, Fail, Chose, Handed, Stored}
use Rattle.world_model.specs.Session.{Session}
use Rattle.world_model.specs.Lists.{with_scalars}
use Rattle.scalar_operators.specs.Numbers.{where_true}
use Rattle.code_types.specs.declared.instr.Instr.TheVariants as i
use Rattle.code_types.specs.Operands.{number_in, offset_of, slot_in, with_triple}
use Rattle.code_types.specs.Actions.{Requests, receives, in_frame}
use Rattle.code_types.specs.Answers.{is_listed, is_some_number, goes_on}
use Rattle.code_types.specs.State.{Slot, Asking}
use Rattle.code_types.specs.Steps.{At}
use Rattle.source_meaning.specs.Store.{Store}
use Rattle.source_meaning.specs.Flow.{Goes, takes_answer}
use Rattle.source_meaning.specs.Operators.{one}
use Rattle.source_meaning.specs.ExprMeaning.{brought_by, asked_value}
use Rattle.code_scheme.specs.ExprCode.{receive_code}
use Rattle.follow_laws.specs.Follows.{HasAt, Around, free_in, keeping, frame_at, state_at, here, Holds, Follows, always, HoldsWith, on_top, IsLong, action_in}
use Rattle.code_laws.specs.InRange.{IsNumber32}
use Rattle.follow_laws.proofs.Running.{after, comes, forgotten}
use Rattle.follow_laws.proofs.Requesting.{IsNoFailure, asks_by, none_takes}
use Rattle.follow_laws.proofs.Holding.{HasPart, IsSet, scratch_set, scratch_read}
use Rattle.follow_laws.proofs.Instructions.{puts_on, renamed, offset_is}
use Rattle.code_laws.proofs.Values.{both_true}
use Rattle.code_laws.proofs.BetweenRuns.{pop_run}

abbrev request_for : ℕ → Request
request_for b = ReceiveBuffer (record { thing = b; number = 0 } ∷ []) false

abbrev slots_for : ℕ → ℕ → List Slot
slots_for free n = record { local = free; count = n } ∷ []

pub thing_is : (b : ℕ) → IsNumber32 b → number_in (pos b) ≡ Some b
thing_is b h =
    let low : nat_le 0 b ≡ true = le-leb 0 b (omega arith) in
    let high : nat_le b 4294967295 ≡ true = le-leb b 4294967295 (omega arith) in
    ap (λ t. where_true (t && nat_le b 4294967295) b) low ∙ ap (λ t. where_true (true && t) b) high

no_truth : {A : Type 0} → false ≡ true → A
no_truth e = absurd (let no : ⊥ = cc in no)

-- the alternative that is got is the only one
first_alone : (b k : ℕ) → is_listed (record { thing = b; number = 0 } ∷ []) k ≡ true → k ≡ 0
first_alone b k e = by_number (subst (λ (t : Bool). (is_some_number (if t then Some 0 else None) k || false) ≡ true) (eq-eqb b b refl) e)
  where
    by_number : ((0 == k) || false) ≡ true → k ≡ 0
    by_number e2 = sym (eqb-true 0 k (or_false (0 == k) e2))
      where
        or_false : (t : Bool) → (t || false) ≡ true → t ≡ true
        or_false true e3 = refl
        or_false false e3 = no_truth e3

pub receive_runs : (w : Around) (b n free at to lo hi : ℕ) (stack locals : List ℤ) (store : Store) (s : Session)
    → free ≡ free_in w → IsNumber32 b → free + n ≤ w.row.locals
    → HasAt w.code.instrs at (receive_code b n free) → at + 6 ≡ to → lo ≤ at → to ≤ hi → Holds w store locals
    → Follows w (here w at stack locals s) lo hi [] (always to) (on_top stack) (HoldsWith w (IsLong n)) (asked_value (request_for b) (n ∷ []) store s)
receive_runs w b n free at to lo hi stack locals store s free_is small room has e low high h =
    after (puts_on w (i.Thing b) at stack locals s (one (pos b)) has.0 refl refl)
    (after (puts_on w (i.Push (pos free)) (at + 1) (stack ++ one (pos b)) locals s (one (pos free)) has.1.0 refl refl)
    (after (puts_on w (i.Push (pos n)) (at + 1 + 1) ((stack ++ one (pos b)) ++ one (pos free)) locals s (one (pos n)) has.1.1.0 refl refl)
    (after (renamed w p p (((stack ++ one (pos b)) ++ one (pos free)) ++ one (pos n)) (stack ++ operands) locals s refl (append_assoc (stack ++ one (pos b)) (one (pos free)) (one (pos n)) ∙ append_assoc stack (one (pos b)) (pos free ∷ pos n ∷ [])))
    (asks_by w (i.Take 1 false) lo hi [] (always to) (on_top stack) (HoldsWith w (IsLong n)) p (request_for b) (slots_for free n) stack operands locals store s (λ answer. Goes (brought_by answer)) has.1.1.1.0 refl does tt (omega arith) (omega arith) (none_takes p) h
    by_answer))))
  where
    p : ℕ
    p = at + 1 + 1 + 1

    operands : List ℤ
    operands = pos b ∷ pos free ∷ pos n ∷ []

    inside : nat_le (free + n) (length locals) ≡ true
    inside = le-leb (free + n) (length locals) (omega (arith, h.long))

    slot_is : slot_in (length locals) (offset_of (pos free)) (offset_of (pos n)) ≡ Some (record { local = free; count = n })
    slot_is =
        ap (λ o. slot_in (length locals) o (offset_of (pos n))) (offset_is free)
        ∙ (ap (λ o. slot_in (length locals) (Some free) o) (offset_is n)
        ∙ ap (λ t. where_true t (record { local = free; count = n })) inside)

    does : action_in w (i.Take 1 false) p (stack ++ operands) locals operands ≡ Requests (request_for b) (slots_for free n)
    does =
        ap (λ o. receives (with_triple 0 o (slot_in (length locals) (offset_of (pos free)) (offset_of (pos n))) (Some (record { things = []; slots = [] }))) (λ triples. ReceiveBuffer triples.things false)) (thing_is b small)
        ∙ ap (λ o. receives (with_triple 0 (Some b) o (Some (record { things = []; slots = [] }))) (λ triples. ReceiveBuffer triples.things false)) slot_is

    got : (k m by : ℕ) (xs : List ℤ) (s1 : Session) → k ≡ 0 → takes_answer (request_for b) (n ∷ []) (Got k m xs by) ≡ true
        → Follows w (At (goes_on (state_at w (Asking (request_for b) (slots_for free n)) p stack locals) (request_for b) (slots_for free n) (Got k m xs by) (frame_at w p stack locals ∷ w.below)) s1) lo hi [] (always to) (on_top stack) (HoldsWith w (IsLong n)) (Goes xs store s1)
    got (suc k) m by xs s1 first fit = absurd (let no : ⊥ = omega arith in no)
    got zero m by xs s1 first fit =
        let long : length xs ≡ n = eqb-true (length xs) n (both_true _ _ fit).1 in
        let set : IsSet (keeping w xs) store locals free xs = scratch_set w store locals xs free h free_is (omega arith) in
        let locals2 : List ℤ = with_scalars locals free xs in
        let part : HasPart locals2 free n xs = scratch_read w store locals2 xs free n set.holds free_is (sym long) in
        after (pop_run w (pos 0 ∷ pos by ∷ []) 2 (p + 1) stack locals2 s1 refl has.1.1.1.1.0)
        (after (puts_on w (i.Local free n) (p + 1 + 1) stack locals2 s1 xs has.1.1.1.1.1.0 refl (ap in_frame part.is))
        (comes {v = xs} (omega arith) refl (long, forgotten w xs store locals2 set.holds)))

    by_answer : (a : Answer) (s1 : Session) → IsNoFailure a → takes_answer (request_for b) (n ∷ []) a ≡ true
        → Follows w (At (goes_on (state_at w (Asking (request_for b) (slots_for free n)) p stack locals) (request_for b) (slots_for free n) a (frame_at w p stack locals ∷ w.below)) s1) lo hi [] (always to) (on_top stack) (HoldsWith w (IsLong n)) (Goes (brought_by a) store s1)
    by_answer (Got k m xs by) s1 given fit = got k m by xs s1 (first_alone b k (both_true _ _ (both_true _ _ fit).0).0) fit
    by_answer (Fail x) s1 given fit = absurd given
    by_answer (Value xs) s1 given fit = no_truth fit
    by_answer Done s1 given fit = no_truth fit
    by_answer (Woken k by) s1 given fit = no_truth fit
    by_answer Otherwise s1 given fit = no_truth fit
    by_answer (Instance j) s1 given fit = no_truth fit
    by_answer (Chose c) s1 given fit = no_truth fit
    by_answer (Handed j) s1 given fit = no_truth fit
    by_answer Stored s1 given fit = no_truth fit
