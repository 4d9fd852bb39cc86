-- The pieces of a loop that counts: what it keeps, its order, and its limit.
use Rattle.std.proofs.Common.{◌≡◌, ℕ, suc, ◌+◌, ◌*◌, if◌then◌else◌, Bool, true, false, List, [], ◌∷◌, ◌++◌, ℤ, pos, ◌+ℤ◌, ◌-ℤ◌, length, Option, Some, None, slice_get, refl, sym, ap, ◌∙◌, subst, arith, append_assoc, length-append}
use Rattle.kernel_base.specs.declared.ends.Exc.TheVariants.{Overflow}
use Rattle.world_model.specs.Session.{Session}
use Rattle.world_model.specs.Lists.{with_scalars}
use Rattle.scalar_operators.specs.Numbers.{is_int, truth_number, comes_before}
use Rattle.code_types.specs.declared.instr.Instr.{Instr}
use Rattle.code_types.specs.declared.instr.Instr.TheVariants as i
use Rattle.code_types.specs.Actions.{in_frame, result_or}
use Rattle.code_types.specs.Operands.{part_of}
use Rattle.source_meaning.specs.Store.{Store}
use Rattle.source_meaning.specs.Operators.{one, truth}
use Rattle.source_meaning.specs.StatementMeaning.{next_value}
use Rattle.code_scheme.specs.Pieces.{are_same}
use Rattle.code_scheme.specs.StatementLoops.{Step, by_constant, by_kept, step_from, Steps, steps_with, order_code, before_code, forth, back, rest_code, nearest_code, nearer_code, near_end_code, moved_end_code, is_one, limit_code, by_step}
use Rattle.follow_laws.specs.Follows.{HasAt, Around, keeping, free_in, here, Holds, GetsTo, Arrives}
use Rattle.follow_laws.proofs.Running.{has_front, has_back, gets_then}
use Rattle.follow_laws.proofs.Holding.{IsSet, kept_read, kept_set}
use Rattle.follow_laws.proofs.Instructions.{pushes_by, puts_on, renamed}
use Rattle.code_laws.proofs.Values.{same_int}
use Rattle.code_laws.proofs.OperatorRuns.{truth_back, less_run}
use Rattle.code_laws.proofs.BetweenRuns.{unless_run, result_int}
use Rattle.code_laws.proofs.CallPieces.{kept_same}
use Rattle.code_laws.proofs.LoopPieces.{set_run}
use Rattle.code_laws.proofs.StepValues.{IsStep, goes_before, back_value, extreme, nearest, nearer, limit, StandsFor, end_stands, limit_stands, rest_int, nearest_int, limit_int}

-- ---- what is kept

-- the start, the step where it is no constant, and the end
abbrev pub kept_numbers : Option ℤ → ℤ → ℤ → ℤ → List ℤ
kept_numbers (Some d) from by end = from ∷ end ∷ []
kept_numbers None from by end = from ∷ by ∷ end ∷ []

-- the step is the constant, where there is one
abbrev pub IsConstant : Option ℤ → ℤ → Type 0
IsConstant None by = Unit {0}
IsConstant (Some d) by = d ≡ by

abbrev pub StepStands : Step → ℤ → List ℤ → Type 0
StepStands (by_constant d) by locals = d ≡ by
StepStands (by_kept k) by locals = part_of locals k 1 ≡ Some (one by)

-- where these numbers stand
pub record Reads (c : Steps) (from by end : ℤ) (locals : List ℤ) : Type 0 where
  pub start_is : part_of locals c.start 1 ≡ Some (one from)
  pub step_is : StepStands c.step by locals
  pub end_is : part_of locals c.end 1 ≡ Some (one end)

kept_at : (w : Around) (store : Store) (locals pre post ks : List ℤ) (x : ℤ) (f : ℕ) → Holds (keeping w ks) store locals → ks ≡ pre ++ (x ∷ post) → f ≡ free_in w + length pre → part_of locals f 1 ≡ Some (one x)
kept_at w store locals pre post ks x f h is f_is =
    (kept_read (keeping w ks) store locals (w.kept ++ pre) (one x) post f 1 h (ap (λ (l : List ℤ). w.kept ++ l) is ∙ sym (append_assoc w.kept pre (x ∷ post))) (omega (arith, f_is, length-append w.kept pre)) refl).is

set_at_kept : (w : Around) (store : Store) (locals pre post ks : List ℤ) (x z : ℤ) (f : ℕ) → Holds (keeping w ks) store locals → ks ≡ pre ++ (x ∷ post) → f ≡ free_in w + length pre → IsSet (keeping w (pre ++ (z ∷ post))) store locals f (one z)
set_at_kept w store locals pre post ks x z f h is f_is =
    let set = kept_set (keeping w ks) store locals (w.kept ++ pre) (one x) post (one z) f h (ap (λ (l : List ℤ). w.kept ++ l) is ∙ sym (append_assoc w.kept pre (x ∷ post))) (omega (arith, f_is, length-append w.kept pre)) refl in
    record { inside = set.inside; holds = kept_same w ((w.kept ++ pre) ++ (one z ++ post)) (w.kept ++ (pre ++ (z ∷ post))) store (with_scalars locals f (one z)) (append_assoc w.kept pre (z ∷ post)) set.holds }

pub reads_of : (w : Around) (cs : Option ℤ) (counter free : ℕ) (down : Bool) (from by end : ℤ) (store : Store) (locals : List ℤ) → free ≡ free_in w → IsConstant cs by → Holds (keeping w (kept_numbers cs from by end)) store locals
    → Reads (steps_with counter cs down free) from by end locals
reads_of w (Some d) counter free down from by end store locals f_is constant h =
    record {
      start_is = kept_at w store locals [] (end ∷ []) (from ∷ end ∷ []) from free h refl (omega (arith, f_is));
      step_is = constant;
      end_is = kept_at w store locals (from ∷ []) [] (from ∷ end ∷ []) end (free + 1) h refl (omega (arith, f_is));
    }
reads_of w None counter free down from by end store locals f_is constant h =
    record {
      start_is = kept_at w store locals [] (by ∷ end ∷ []) (from ∷ by ∷ end ∷ []) from free h refl (omega (arith, f_is));
      step_is = kept_at w store locals (from ∷ []) (end ∷ []) (from ∷ by ∷ end ∷ []) by (free + 1) h refl (omega (arith, f_is));
      end_is = kept_at w store locals (from ∷ by ∷ []) [] (from ∷ by ∷ end ∷ []) end (free + 2) h refl (omega (arith, f_is));
    }

set_end : (w : Around) (cs : Option ℤ) (counter free : ℕ) (down : Bool) (from by end new : ℤ) (store : Store) (locals : List ℤ) → free ≡ free_in w → Holds (keeping w (kept_numbers cs from by end)) store locals
    → IsSet (keeping w (kept_numbers cs from by new)) store locals (steps_with counter cs down free).end (one new)
set_end w (Some d) counter free down from by end new store locals f_is h = set_at_kept w store locals (from ∷ []) [] (from ∷ end ∷ []) end new (free + 1) h refl (omega (arith, f_is))
set_end w None counter free down from by end new store locals f_is h = set_at_kept w store locals (from ∷ by ∷ []) [] (from ∷ by ∷ end ∷ []) end new (free + 2) h refl (omega (arith, f_is))

-- ---- order

pub local_run : (w : Around) (k : ℕ) (z : ℤ) (at : ℕ) (base locals : List ℤ) (s : Session) → part_of locals k 1 ≡ Some (one z) → slice_get w.code.instrs at ≡ Some (i.Local k 1)
    → GetsTo w.code (here w at base locals s) (here w (at + 1) (base ++ one z) locals s)
local_run w k z at base locals s part has = puts_on w (i.Local k 1) at base locals s (one z) has refl (ap in_frame part)

order_run : (w : Around) (f g : ℕ) (a b : ℤ) (at : ℕ) (locals : List ℤ) (s : Session) → part_of locals f 1 ≡ Some (one a) → part_of locals g 1 ≡ Some (one b) → HasAt w.code.instrs at (order_code f g)
    → GetsTo w.code (here w at [] locals s) (here w (at + 3) (truth (comes_before (one a) (one b))) locals s)
order_run w f g a b at locals s first second has =
    gets_then (local_run w f a at [] locals s first has.0)
    (gets_then (local_run w g b (at + 1) (one a) locals s second has.1.0)
    (gets_then (less_run w 1 (at + 1 + 1) [] (one a) (one b) locals s refl refl has.1.1.0)
    (renamed w (at + 1 + 1 + 1) (at + 3) (truth (comes_before (one a) (one b))) (truth (comes_before (one a) (one b))) locals s (omega arith) refl)))

pub before_run : (w : Around) (down : Bool) (f g : ℕ) (a b : ℤ) (at : ℕ) (locals : List ℤ) (s : Session) → part_of locals f 1 ≡ Some (one a) → part_of locals g 1 ≡ Some (one b) → HasAt w.code.instrs at (before_code down f g)
    → GetsTo w.code (here w at [] locals s) (here w (at + 3) (truth (goes_before down a b)) locals s)
before_run w false f g a b at locals s first second has = order_run w f g a b at locals s first second has
before_run w true f g a b at locals s first second has = order_run w g f b a at locals s second first has

-- ---- steps

pub step_run : (w : Around) (c : Step) (by : ℤ) (at : ℕ) (base locals : List ℤ) (s : Session) → StepStands c by locals → slice_get w.code.instrs at ≡ Some (by_step c)
    → GetsTo w.code (here w at base locals s) (here w (at + 1) (base ++ one by) locals s)
step_run w (by_constant d) by at base locals s stands has =
    gets_then (puts_on w (i.Push d) at base locals s (one d) has refl refl)
    (renamed w (at + 1) (at + 1) (base ++ one d) (base ++ one by) locals s refl (ap (λ (z : ℤ). base ++ one z) stands))
step_run w (by_kept k) by at base locals s stands has = local_run w k by at base locals s stands has

-- 1 less than the step
rest_run : (w : Around) (c : Step) (by : ℤ) (at : ℕ) (base locals : List ℤ) (s : Session) → StepStands c by locals → IsStep by → HasAt w.code.instrs at (rest_code c)
    → GetsTo w.code (here w at base locals s) (here w (at + length (rest_code c)) (base ++ one (by -ℤ pos 1)) locals s)
rest_run w (by_constant d) by at base locals s stands step has =
    gets_then (puts_on w (i.Push (d -ℤ pos 1)) at base locals s (one (d -ℤ pos 1)) has.0 refl refl)
    (renamed w (at + 1) (at + 1) (base ++ one (d -ℤ pos 1)) (base ++ one (by -ℤ pos 1)) locals s refl (ap (λ (z : ℤ). base ++ one (z -ℤ pos 1)) stands))
rest_run w (by_kept k) by at base locals s stands step has =
    gets_then (local_run w k by at base locals s stands has.0)
    (gets_then (puts_on w (i.Push (pos 1)) (at + 1) (base ++ one by) locals s (one (pos 1)) has.1.0 refl refl)
    (gets_then (renamed w (at + 1 + 1) (at + 1 + 1) ((base ++ one by) ++ one (pos 1)) (base ++ (by ∷ pos 1 ∷ [])) locals s refl (append_assoc base (one by) (one (pos 1))))
    (gets_then (pushes_by w i.Sub (at + 1 + 1) base (by ∷ pos 1 ∷ []) locals s (one (by -ℤ pos 1)) has.1.1.0 refl (ap (result_or Overflow) (result_int (by -ℤ pos 1) (rest_int by step))))
    (renamed w (at + 1 + 1 + 1) (at + 3) (base ++ one (by -ℤ pos 1)) (base ++ one (by -ℤ pos 1)) locals s (omega arith) refl))))

pub forth_run : (w : Around) (down : Bool) (a b : ℤ) (at : ℕ) (base locals : List ℤ) (s : Session) → is_int (next_value down a b) ≡ true → slice_get w.code.instrs at ≡ Some (forth down)
    → GetsTo w.code (here w at (base ++ (a ∷ b ∷ [])) locals s) (here w (at + 1) (base ++ one (next_value down a b)) locals s)
forth_run w false a b at base locals s inside has = pushes_by w i.Add at base (a ∷ b ∷ []) locals s (one (a +ℤ b)) has refl (ap (result_or Overflow) (result_int (a +ℤ b) inside))
forth_run w true a b at base locals s inside has = pushes_by w i.Sub at base (a ∷ b ∷ []) locals s (one (a -ℤ b)) has refl (ap (result_or Overflow) (result_int (a -ℤ b) inside))

back_run : (w : Around) (down : Bool) (a b : ℤ) (at : ℕ) (base locals : List ℤ) (s : Session) → is_int (back_value down a b) ≡ true → slice_get w.code.instrs at ≡ Some (back down)
    → GetsTo w.code (here w at (base ++ (a ∷ b ∷ [])) locals s) (here w (at + 1) (base ++ one (back_value down a b)) locals s)
back_run w false a b at base locals s inside has = pushes_by w i.Sub at base (a ∷ b ∷ []) locals s (one (a -ℤ b)) has refl (ap (result_or Overflow) (result_int (a -ℤ b) inside))
back_run w true a b at base locals s inside has = pushes_by w i.Add at base (a ∷ b ∷ []) locals s (one (a +ℤ b)) has refl (ap (result_or Overflow) (result_int (a +ℤ b) inside))

-- ---- the limit

abbrev counting : ℕ → ℕ → Step → ℕ → Bool → Steps
counting counter start step end down = record { counter = counter; start = start; step = step; end = end; down = down }

nearest_run : (w : Around) (c : Steps) (by : ℤ) (at : ℕ) (base locals : List ℤ) (s : Session) → StepStands c.step by locals → IsStep by → HasAt w.code.instrs at (nearest_code c)
    → GetsTo w.code (here w at base locals s) (here w (at + (length (rest_code c.step) + 2)) (base ++ one (nearest c.down by)) locals s)
nearest_run w c by at base locals s stands step has =
    let r : List Instr = rest_code c.step in
    let far : ℤ = extreme c.down in
    gets_then (puts_on w (i.Push far) at base locals s (one far) has.0 refl refl)
    (gets_then (rest_run w c.step by (at + 1) (base ++ one far) locals s stands step (has_front w.code.instrs (at + 1) r (forth c.down ∷ []) has.1))
    (gets_then (renamed w (at + 1 + length r) (at + 1 + length r) ((base ++ one far) ++ one (by -ℤ pos 1)) (base ++ (far ∷ (by -ℤ pos 1) ∷ [])) locals s refl (append_assoc base (one far) (one (by -ℤ pos 1))))
    (gets_then (forth_run w c.down far (by -ℤ pos 1) (at + 1 + length r) base locals s (nearest_int c.down by step) (has_back w.code.instrs (at + 1) (at + 1 + length r) r (forth c.down ∷ []) refl has.1).0)
    (renamed w (at + 1 + length r + 1) (at + (length r + 2)) (base ++ one (nearest c.down by)) (base ++ one (nearest c.down by)) locals s (omega arith) refl))))

nearest_long : (c : Steps) → length (nearest_code c) ≡ length (rest_code c.step) + 2
nearest_long c = omega (arith, length-append (rest_code c.step) (forth c.down ∷ []))

-- whether the end comes before the one whose limit is the last value of INT
nearer_run : (w : Around) (counter start : ℕ) (step : Step) (end_at : ℕ) (down : Bool) (by end : ℤ) (at : ℕ) (more : List Instr) (locals : List ℤ) (s : Session)
    → StepStands step by locals → part_of locals end_at 1 ≡ Some (one end) → IsStep by → HasAt w.code.instrs at (nearer_code (counting counter start step end_at down) ++ (i.Less 1 ∷ more))
    → GetsTo w.code (here w at [] locals s) (here w (at + (length (rest_code step) + 4)) (truth (goes_before down end (nearest down by))) locals s)
nearer_run w counter start step end_at false by end at more locals s stands end_is is_step has =
    let c : Steps = counting counter start step end_at false in
    let r : ℕ = length (rest_code step) in
    let n : ℤ = nearest false by in
    gets_then (local_run w end_at end at [] locals s end_is has.0)
    (gets_then (nearest_run w c by (at + 1) (one end) locals s stands is_step (has_front w.code.instrs (at + 1) (nearest_code c) (i.Less 1 ∷ more) has.1))
    (gets_then (less_run w 1 (at + 1 + (r + 2)) [] (one end) (one n) locals s refl refl (has_back w.code.instrs (at + 1) (at + 1 + (r + 2)) (nearest_code c) (i.Less 1 ∷ more) (ap (λ (j : ℕ). at + 1 + j) (nearest_long c)) has.1).0)
    (renamed w (at + 1 + (r + 2) + 1) (at + (r + 4)) (truth (goes_before false end n)) (truth (goes_before false end n)) locals s (omega arith) refl)))
nearer_run w counter start step end_at true by end at more locals s stands end_is is_step has =
    let c : Steps = counting counter start step end_at true in
    let r : ℕ = length (rest_code step) in
    let n : ℤ = nearest true by in
    let front : List Instr = nearest_code c ++ i.Local end_at 1 ∷ [] in
    let has_first = has_front w.code.instrs at front (i.Less 1 ∷ more) has in
    let long : at + length front ≡ at + (r + 3) = omega (arith, length-append (nearest_code c) (i.Local end_at 1 ∷ []), nearest_long c) in
    gets_then (nearest_run w c by at [] locals s stands is_step (has_front w.code.instrs at (nearest_code c) (i.Local end_at 1 ∷ []) has_first))
    (gets_then (local_run w end_at end (at + (r + 2)) (one n) locals s end_is (has_back w.code.instrs at (at + (r + 2)) (nearest_code c) (i.Local end_at 1 ∷ []) (ap (λ (j : ℕ). at + j) (nearest_long c)) has_first).0)
    (gets_then (renamed w (at + (r + 2) + 1) (at + (r + 3)) (n ∷ end ∷ []) (n ∷ end ∷ []) locals s (omega arith) refl)
    (gets_then (less_run w 1 (at + (r + 3)) [] (one n) (one end) locals s refl refl (has_back w.code.instrs at (at + (r + 3)) front (i.Less 1 ∷ more) long has).0)
    (renamed w (at + (r + 3) + 1) (at + (r + 4)) (truth (goes_before true end n)) (truth (goes_before true end n)) locals s (omega arith) refl))))

nearer_long : (counter start : ℕ) (step : Step) (end_at : ℕ) (down : Bool) → length (nearer_code (counting counter start step end_at down)) ≡ length (rest_code step) + 3
nearer_long counter start step end_at false = ap suc (nearest_long (counting counter start step end_at false)) ∙ (let e : suc (length (rest_code step) + 2) ≡ length (rest_code step) + 3 = omega arith in e)
nearer_long counter start step end_at true = omega (arith, length-append (nearest_code (counting counter start step end_at true)) (i.Local end_at 1 ∷ []), nearest_long (counting counter start step end_at true))

-- the end is moved so far that its limit lies in INT
near_run : (w : Around) (cs : Option ℤ) (counter free : ℕ) (down : Bool) (from by end : ℤ) (at : ℕ) (store : Store) (locals : List ℤ) (s : Session)
    → free ≡ free_in w → IsConstant cs by → IsStep by → HasAt w.code.instrs at (near_end_code (steps_with counter cs down free) at)
    → Holds (keeping w (kept_numbers cs from by end)) store locals
    → Arrives w (here w at [] locals s) (at + (2 * length (rest_code (steps_with counter cs down free).step) + 8)) [] (Holds (keeping w (kept_numbers cs from by (nearer down by end))) store) s
near_run w cs counter free down from by end at store locals s f_is constant is_step has h = by_nearer (goes_before down end n) refl
  where
    c : Steps
    c = steps_with counter cs down free

    n : ℤ
    n = nearest down by

    r : ℕ
    r = length (rest_code c.step)

    to : ℕ
    to = at + (2 * r + 8)

    reads : Reads c from by end locals
    reads = reads_of w cs counter free down from by end store locals f_is constant h

    moving : List Instr
    moving = nearest_code c ++ i.SetLocal c.end 1 ∷ []

    test : GetsTo w.code (here w at [] locals s) (here w (at + (r + 4)) (truth (goes_before down end n)) locals s)
    test = nearer_run w c.counter c.start c.step c.end down by end at (i.Unless to ∷ moving) locals s reads.step_is reads.end_is is_step has

    behind : HasAt w.code.instrs (at + (r + 3)) (i.Less 1 ∷ i.Unless to ∷ moving)
    behind = has_back w.code.instrs at (at + (r + 3)) (nearer_code c) (i.Less 1 ∷ i.Unless to ∷ moving) (ap (λ (j : ℕ). at + j) (nearer_long c.counter c.start c.step c.end down)) has

    unless_is : slice_get w.code.instrs (at + (r + 4)) ≡ Some (i.Unless to)
    unless_is = ap (λ (j : ℕ). slice_get w.code.instrs j) (let e : at + (r + 4) ≡ at + (r + 3) + 1 = omega arith in e) ∙ behind.1.0

    by_nearer : (t : Bool) → goes_before down end n ≡ t → Arrives w (here w at [] locals s) to [] (Holds (keeping w (kept_numbers cs from by (if t then n else end))) store) s
    by_nearer false is =
        record {
          locals = locals;
          holds = h;
          by = gets_then test (unless_run w (truth_number (goes_before down end n)) false to (at + (r + 4)) [] locals s (truth_back (goes_before down end n) ∙ is) unless_is);
        }
    by_nearer true is =
        let set = set_end w cs counter free down from by end n store locals f_is h in
        let a : ℕ = at + (r + 3) + 1 + 1 in
        record {
          locals = with_scalars locals c.end (one n);
          holds = set.holds;
          by = gets_then test
              (gets_then (unless_run w (truth_number (goes_before down end n)) true to (at + (r + 4)) [] locals s (truth_back (goes_before down end n) ∙ is) unless_is)
              (gets_then (renamed w (at + (r + 4) + 1) a [] [] locals s (omega arith) refl)
              (gets_then (nearest_run w c by a [] locals s reads.step_is is_step (has_front w.code.instrs a (nearest_code c) (i.SetLocal c.end 1 ∷ []) behind.1.1))
              (gets_then (set_run w c.end 1 (a + (r + 2)) [] (one n) locals s set.inside refl (has_back w.code.instrs a (a + (r + 2)) (nearest_code c) (i.SetLocal c.end 1 ∷ []) (ap (λ (j : ℕ). a + j) (nearest_long c)) behind.1.1).0)
              (renamed w (a + (r + 2) + 1) to [] [] (with_scalars locals c.end (one n)) s (omega arith) refl)))));
        }

-- the end is moved by 1 less than the step
moved_run : (w : Around) (cs : Option ℤ) (counter free : ℕ) (down : Bool) (from by end : ℤ) (at : ℕ) (store : Store) (locals : List ℤ) (s : Session)
    → free ≡ free_in w → IsConstant cs by → IsStep by → is_int (back_value down end (by -ℤ pos 1)) ≡ true → HasAt w.code.instrs at (moved_end_code (steps_with counter cs down free))
    → Holds (keeping w (kept_numbers cs from by end)) store locals
    → Arrives w (here w at [] locals s) (at + (length (rest_code (steps_with counter cs down free).step) + 3)) [] (Holds (keeping w (kept_numbers cs from by (back_value down end (by -ℤ pos 1)))) store) s
moved_run w cs counter free down from by end at store locals s f_is constant is_step inside has h =
    let c : Steps = steps_with counter cs down free in
    let r : List Instr = rest_code c.step in
    let x : ℤ = back_value down end (by -ℤ pos 1) in
    let reads = reads_of w cs counter free down from by end store locals f_is constant h in
    let set = set_end w cs counter free down from by end x store locals f_is h in
    let rest : List Instr = back down ∷ i.SetLocal c.end 1 ∷ [] in
    let behind = has_back w.code.instrs (at + 1) (at + 1 + length r) r rest refl has.1 in
    record {
      locals = with_scalars locals c.end (one x);
      holds = set.holds;
      by = gets_then (local_run w c.end end at [] locals s reads.end_is has.0)
          (gets_then (rest_run w c.step by (at + 1) (one end) locals s reads.step_is is_step (has_front w.code.instrs (at + 1) r rest has.1))
          (gets_then (back_run w down end (by -ℤ pos 1) (at + 1 + length r) [] locals s inside behind.0)
          (gets_then (set_run w c.end 1 (at + 1 + length r + 1) [] (one x) locals s set.inside refl behind.1.0)
          (renamed w (at + 1 + length r + 1 + 1) (at + (length r + 3)) [] [] (with_scalars locals c.end (one x)) s (omega arith) refl))));
    }

-- what stands for the end: the end itself with a step that is the constant 1
abbrev pub stop_of : Bool → Bool → ℤ → ℤ → ℤ
stop_of is_end down by end = if is_end then end else limit down by end

pub stop_stands : (cs : Option ℤ) (free : ℕ) (down : Bool) (by end : ℤ) → IsConstant cs by → IsStep by → StandsFor down by end (stop_of (is_one (step_from cs free)) down by end)
stop_stands None free down by end constant step = limit_stands down by end step
stop_stands (Some d) free down by end constant step = by_one (are_same d (pos 1)) refl
  where
    by_one : (t : Bool) → are_same d (pos 1) ≡ t → StandsFor down by end (stop_of t down by end)
    by_one true is = subst (λ (z : ℤ). StandsFor down z end end) (sym (same_int d (pos 1) is) ∙ constant) (end_stands down end)
    by_one false is = limit_stands down by end step

pub near_long : (c : Steps) (at : ℕ) → length (near_end_code c at) ≡ 2 * length (rest_code c.step) + 8
near_long c at =
    omega (arith, length-append (nearer_code c) (i.Less 1 ∷ i.Unless (at + (2 * length (rest_code c.step) + 8)) ∷ (nearest_code c ++ i.SetLocal c.end 1 ∷ [])), length-append (nearest_code c) (i.SetLocal c.end 1 ∷ []), nearest_long c, nearer_long c.counter c.start c.step c.end c.down)

pub moved_long : (c : Steps) → length (moved_end_code c) ≡ length (rest_code c.step) + 3
moved_long c = omega (arith, length-append (rest_code c.step) (back c.down ∷ i.SetLocal c.end 1 ∷ []))

pub limit_long : (c : Steps) (at to : ℕ) → length (limit_code c at) ≡ length (limit_code c to)
limit_long c at to = by_one (is_one c.step)
  where
    by_one : (t : Bool) → length (if t then [] else near_end_code c at ++ moved_end_code c) ≡ length (if t then [] else near_end_code c to ++ moved_end_code c)
    by_one true = refl
    by_one false = omega (arith, length-append (near_end_code c at) (moved_end_code c), length-append (near_end_code c to) (moved_end_code c), near_long c at, near_long c to)

pub limit_run : (w : Around) (cs : Option ℤ) (counter free : ℕ) (down : Bool) (from by end : ℤ) (at : ℕ) (store : Store) (locals : List ℤ) (s : Session)
    → free ≡ free_in w → IsConstant cs by → IsStep by → is_int end ≡ true → HasAt w.code.instrs at (limit_code (steps_with counter cs down free) at)
    → Holds (keeping w (kept_numbers cs from by end)) store locals
    → Arrives w (here w at [] locals s) (at + length (limit_code (steps_with counter cs down free) at)) [] (Holds (keeping w (kept_numbers cs from by (stop_of (is_one (step_from cs free)) down by end))) store) s
limit_run w cs counter free down from by end at store locals s f_is constant is_step inside has h = by_one (is_one c.step) has
  where
    c : Steps
    c = steps_with counter cs down free

    r : ℕ
    r = length (rest_code c.step)

    by_one : (t : Bool) → HasAt w.code.instrs at (if t then [] else near_end_code c at ++ moved_end_code c)
        → Arrives w (here w at [] locals s) (at + length (if t then [] else near_end_code c at ++ moved_end_code c)) [] (Holds (keeping w (kept_numbers cs from by (stop_of t down by end))) store) s
    by_one true has1 = record { locals = locals; holds = h; by = renamed w at (at + 0) [] [] locals s (omega arith) refl }
    by_one false has1 =
        let near = near_run w cs counter free down from by end at store locals s f_is constant is_step (has_front w.code.instrs at (near_end_code c at) (moved_end_code c) has1) h in
        let at1 : ℕ = at + (2 * r + 8) in
        let moved = moved_run w cs counter free down from by (nearer down by end) at1 store near.locals s f_is constant is_step (limit_int down by end is_step inside) (has_back w.code.instrs at at1 (near_end_code c at) (moved_end_code c) (ap (λ (j : ℕ). at + j) (near_long c at)) has1) near.holds in
        record {
          locals = moved.locals;
          holds = moved.holds;
          by = gets_then near.by (gets_then moved.by
              (renamed w (at1 + (r + 3)) (at + length (near_end_code c at ++ moved_end_code c)) [] [] moved.locals s (omega (arith, length-append (near_end_code c at) (moved_end_code c), near_long c at, moved_long c)) refl));
        }

-- how long the code of a limit is, whatever the counter
pub limit_size : (cs : Option ℤ) (counter free : ℕ) (down : Bool) (at : ℕ) → length (limit_code (steps_with counter cs down free) at) ≡ length (limit_code (steps_with 0 cs false 0) 0)
limit_size cs counter free down at = by_step_of cs
  where
    both : (c d : Steps) → length (rest_code c.step) ≡ length (rest_code d.step) → (t : Bool) → length (if t then [] else near_end_code c at ++ moved_end_code c) ≡ length (if t then [] else near_end_code d 0 ++ moved_end_code d)
    both c d same true = refl
    both c d same false = omega (arith, length-append (near_end_code c at) (moved_end_code c), length-append (near_end_code d 0) (moved_end_code d), near_long c at, near_long d 0, moved_long c, moved_long d, same)

    by_step_of : (os : Option ℤ) → length (limit_code (steps_with counter os down free) at) ≡ length (limit_code (steps_with 0 os false 0) 0)
    by_step_of (Some d) = both (steps_with counter (Some d) down free) (steps_with 0 (Some d) false 0) refl (are_same d (pos 1))
    by_step_of None = both (steps_with counter None down free) (steps_with 0 None false 0) refl false
