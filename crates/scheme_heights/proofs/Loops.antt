-- The control of a DO is a stretch before the turns, and one before each turn.
use Rattle.std.proofs.Common.{◌≡◌, ◌⊎◌, ◌+◌, ◌-◌, ◌*◌, ◌≤◌, ◌<◌, ℕ, Bool, true, false, List, [], ◌∷◌, ◌++◌, ℤ, length, length-append, take, refl, sym, ap, ◌∙◌, subst, inl, inr, arith, Option, Some, None, slice_get}
use Rattle.std.specs.Prelude.{if◌then◌else◌}
use Rattle.std.proofs.lemmas.List.{append_assoc}
use Rattle.modes.specs.declared.mode.Bounds.{Bounds}
use Rattle.modes.specs.ModeTree.{int}
use Rattle.modes.specs.Bounds.{bounds_of}
use Rattle.code_types.specs.declared.instr.Instr.{Instr}
use Rattle.code_types.specs.declared.instr.Instr.TheVariants as i
use Rattle.code_types.specs.declared.code.Code.{Code}
use Rattle.program_trees.specs.ExprTree.{ExprTree}
use Rattle.program_trees.specs.StatementTree.{ControlTree, while_true, for_ever, for_members, for_steps}
use Rattle.code_scheme.specs.Pieces.{first_in, check_code, branch_code, member_code, bounds_to_test, bounds_of_value}
use Rattle.code_scheme.specs.ExprSizes.{expr_size, condition_size}
use Rattle.code_scheme.specs.ExprCode.{expr_code}
use Rattle.code_scheme.specs.StatementSite.{layout, Standing, taking}
use Rattle.code_scheme.specs.StatementLoops.{while_code, some_while_code, some_while_size, next_member_code, members_test, members_test_size, step_bounds, Step, by_constant, by_kept, constant_step, step_from, kept_with, steps_kept, Steps, steps_with, within_code, within_size, step_code, step_size, bounds_code, bounds_size, before_code, forth, back, rest_code, nearest_code, nearer_code, near_end_code, moved_end_code, is_one, limit_code, first_test_code, by_step, next_code, first_value_code, before_turns, before_turns_size, turn_test, turn_test_size}
use Rattle.code_scheme.specs.BodyCode.{heads_of}
use Rattle.scheme_heights.specs.Stretches.{behind, Outlets, no_outlets, Lands, IsStretch}
use Rattle.scheme_heights.specs.StatementCounts.{NumberFits, SomeNumberFits, ControlFits}
use Rattle.scheme_heights.specs.Laws.{to_place}
use Rattle.scheme_heights.proofs.Joining.{join, take_front}
use Rattle.scheme_heights.proofs.Parts.{Stretch, sized, end, cons, cons_unless, lands_over, member_stretch}
use Rattle.scheme_heights.proofs.Operators.{ends, take_all}
use Rattle.scheme_heights.proofs.Expressions.{moved, expr_stretch}
use Rattle.scheme_heights.proofs.Conditions.{join_outlets, before_outlets, branch_stretch, condition_stretch}
use Rattle.scheme_heights.proofs.Waits.{after_outlets}
use Rattle.scheme_heights.proofs.PlainActions.{tests_any}

-- ---- WHILE

while_stretch : (w : Standing) (body at height : ℕ) (e : ExprTree) (place : ℕ) → NumberFits w.site.program e → at + condition_size e false ≤ place → IsStretch (heads_of w.site.program) body (to_place place height) at height (while_code w e place at) (condition_size e false) height
while_stretch w body at height e place fits low = condition_stretch (layout w.site) body w.free e fits.0 fits.1 false place at height low

some_while_stretch : (w : Standing) (body at height : ℕ) (condition : Option ExprTree) (place : ℕ) → SomeNumberFits w.site.program condition → at + some_while_size condition ≤ place → IsStretch (heads_of w.site.program) body (to_place place height) at height (some_while_code w condition place at) (some_while_size condition) height
some_while_stretch w body at height None place fits low = record { steps = tt; count = refl; leaves = refl }
some_while_stretch w body at height (Some e) place fits low = while_stretch w body at height e place fits low

-- ---- FOR IN

next_member_stretch : (heads : Code) (body at height left counter : ℕ) (low : ℤ) → IsStretch heads body no_outlets at height (next_member_code left counter low) (9 + length (member_code low)) height
next_member_stretch heads body at height left counter low =
    let m = length (member_code low) in
    let last : Stretch heads body (at + 4 + m) (height + 3) (i.SetLocal counter 1 ∷ i.Copy 1 ∷ i.Span ∷ i.BitMinus ∷ i.SetLocal left 1 ∷ []) height =
    cons (omega arith) tt tt refl refl (cons (omega arith) tt tt refl refl (cons (omega arith) tt tt refl refl (cons (omega arith) tt tt refl refl (cons (omega arith) tt tt refl refl (end (omega arith)))))) in
    let member : IsStretch heads body no_outlets (at + 4) (height + 3) (member_code low) m (height + 3) = subst (λ (h : ℕ). IsStretch heads body no_outlets (at + 4) h (member_code low) m h) (let e : height + 2 + 1 ≡ height + 3 = omega arith in e) (sized m refl (member_stretch heads body (at + 4) (height + 2) low)) in
    let rest = join heads body (at + 4) (height + 3) (member_code low) _ m 5 (height + 3) height (at + 4 + m) (m + 5) refl refl member (sized 5 refl last) in
    let count = rest.count in
    sized (9 + m) (omega (arith, count))
    (cons (omega arith) tt tt refl refl (cons (omega arith) tt tt refl refl (cons (omega arith) tt tt refl refl (cons (omega arith) tt tt refl refl (moved (omega arith) (omega arith) rest)))))

members_test_stretch : (heads : Code) (body at height left counter : ℕ) (low : ℤ) (place : ℕ) → at + members_test_size low ≤ place → IsStretch heads body (to_place place height) at height (members_test left counter low place) (members_test_size low) height
members_test_stretch heads body at height left counter low place below =
    let m = length (member_code low) in
    before_outlets heads body (to_place place height) at height (i.Local left 1 ∷ i.Card ∷ []) _ 2 (1 + (9 + m)) (height + 1) height (at + 2) _ refl (omega arith)
    (sized 2 refl (cons (omega arith) tt tt refl refl (cons (omega arith) tt tt refl refl (end (omega arith)))))
    (after_outlets heads body (to_place place height) (at + 2) (height + 1) (i.Unless place ∷ []) _ 1 (9 + m) height height (at + 2 + 1) _ refl refl (branch_stretch heads body (at + 2) height place false (omega (arith, below)))
    (next_member_stretch heads body (at + 2 + 1) height left counter low))

-- ---- FOR from a start to an end

within_stretch : (w : Standing) (body at height : ℕ) (b : Option Bounds) (e : ExprTree) → NumberFits w.site.program e → IsStretch (heads_of w.site.program) body no_outlets at height (within_code w b e at) (within_size b e) (height + 1)
within_stretch w body at height b e fits =
    let heads = heads_of w.site.program in
    let c = length (check_code (bounds_to_test b (bounds_of_value e))) in
    join heads body at height (expr_code (layout w.site) w.free e at) _ (expr_size e) c (height + 1) (height + 1) (at + expr_size e) _ refl refl (ends (ap (λ (k : ℕ). height + k) fits.1) (expr_stretch (layout w.site) body w.free e fits.0 at height))
    (tests_any heads body (at + expr_size e) height (bounds_to_test b (bounds_of_value e)))

-- how many scalars a step has that is no constant
abbrev step_count : Option ℤ → ℕ
step_count (Some d) = 0
step_count None = 1

-- a step that is no constant is written
abbrev IsWritten : Option ℤ → Option ExprTree → Type 0
IsWritten None None = ⊥
IsWritten known step = Unit {0}

written : (step : Option ExprTree) → IsWritten (constant_step step) step
written None = tt
written (Some e) = some_written (constant_step (Some e))
  where
    some_written : (known : Option ℤ) → IsWritten known (Some e)
    some_written None = tt
    some_written (Some d) = tt

step_stretch : (w : Standing) (body at height : ℕ) (known : Option ℤ) (step : Option ExprTree) → IsWritten known step → SomeNumberFits w.site.program step → IsStretch (heads_of w.site.program) body no_outlets at height (step_code w known step at) (step_size known step) (height + step_count known)
step_stretch w body at height (Some d) step told fits = sized 0 refl (end (omega arith))
step_stretch w body at height None None told fits = absurd told
step_stretch w body at height None (Some e) told fits = within_stretch w body at height step_bounds e fits

kept_count : (known : Option ℤ) → kept_with known ≡ 2 + step_count known
kept_count None = refl
kept_count (Some d) = refl

bounds_stretch : (w : Standing) (body at height : ℕ) (from : ExprTree) (step : Option ExprTree) (to : ExprTree) → NumberFits w.site.program from → SomeNumberFits w.site.program step → NumberFits w.site.program to → IsStretch (heads_of w.site.program) body no_outlets at height (bounds_code w from step to at) (bounds_size from step to) height
bounds_stretch w body at height from step to first fits last =
    let heads = heads_of w.site.program in
    let n = within_size (bounds_of int) from in
    let m = step_size (constant_step step) step in
    let k = within_size (bounds_of int) to in
    let c = step_count (constant_step step) in
    let kept = kept_count (constant_step step) in
    let r = at + (n + m) + k in
    let keep : IsStretch heads body no_outlets r (height + 1 + c + 1) (i.SetLocal w.free (steps_kept step) ∷ []) 1 height = sized 1 refl (cons (omega (arith, kept)) tt tt refl refl (end (omega (arith, kept)))) in
    let ended = join heads body (at + (n + m)) (height + 1 + c) _ (i.SetLocal w.free (steps_kept step) ∷ []) k 1 (height + 1 + c + 1) height r (k + 1) refl refl (within_stretch w body (at + (n + m)) (height + 1 + c) (bounds_of int) to last) keep in
    join heads body at height _ _ n (m + (k + 1)) (height + 1) height (at + n) _ refl refl (within_stretch w body at height (bounds_of int) from first)
    (join heads body (at + n) (height + 1) _ _ m (k + 1) (height + 1 + c) height (at + (n + m)) _ (omega arith) refl (step_stretch w body (at + n) (height + 1) (constant_step step) step (written step) fits) ended)

-- the sum or the difference of two numbers
sum_stretch : (heads : Code) (body at height : ℕ) (up : Bool) → Stretch heads body at (height + 2) ((if up then i.Sub else i.Add) ∷ []) (height + 1)
sum_stretch heads body at height true = cons (omega arith) tt tt refl refl (end (omega arith))
sum_stretch heads body at height false = cons (omega arith) tt tt refl refl (end (omega arith))

sum_back_stretch : (heads : Code) (body at height : ℕ) (up : Bool) → Stretch heads body at (height + 2) ((if up then i.Add else i.Sub) ∷ []) (height + 1)
sum_back_stretch heads body at height true = cons (omega arith) tt tt refl refl (end (omega arith))
sum_back_stretch heads body at height false = cons (omega arith) tt tt refl refl (end (omega arith))

rest_stretch : (heads : Code) (body at height : ℕ) (step : Step) → IsStretch heads body no_outlets at height (rest_code step) (length (rest_code step)) (height + 1)
rest_stretch heads body at height (by_constant d) = sized 1 refl (cons (omega arith) tt tt refl refl (end (omega arith)))
rest_stretch heads body at height (by_kept k) = sized 3 refl (cons (omega arith) tt tt refl refl (cons (omega arith) tt tt refl refl (cons (omega arith) tt tt refl refl (end (omega arith)))))

-- behind one number, 1 less than the step is added or subtracted
rested : (heads : Code) (body at height : ℕ) (instr : Instr) (step : Step) (sum : Instr) → ((p h : ℕ) → Stretch heads body p h (instr ∷ []) (h + 1)) → ((p h : ℕ) → Stretch heads body p (h + 2) (sum ∷ []) (h + 1)) → IsStretch heads body no_outlets at height (instr ∷ (rest_code step ++ sum ∷ [])) (2 + length (rest_code step)) (height + 1)
rested heads body at height instr step sum first last =
    let n = length (rest_code step) in
    let both : IsStretch heads body no_outlets (at + 1) (height + 1) (rest_code step ++ sum ∷ []) (n + 1) (height + 1) =
    join heads body (at + 1) (height + 1) (rest_code step) (sum ∷ []) n 1 (height + 1 + 1) (height + 1) (at + 1 + n) _ refl refl (rest_stretch heads body (at + 1) (height + 1) step) (subst (λ (h : ℕ). IsStretch heads body no_outlets (at + 1 + n) h (sum ∷ []) 1 (height + 1)) (let e : height + 2 ≡ height + 1 + 1 = omega arith in e) (last (at + 1 + n) height)) in
    join heads body at height (instr ∷ []) _ 1 (n + 1) (height + 1) (height + 1) (at + 1) _ refl (omega arith) (first at height) both

pushed : (heads : Code) (body : ℕ) (x : ℤ) (p h : ℕ) → Stretch heads body p h (i.Push x ∷ []) (h + 1)
pushed heads body x p h = cons (omega arith) tt tt refl refl (end (omega arith))

found : (heads : Code) (body k p h : ℕ) → Stretch heads body p h (i.Local k 1 ∷ []) (h + 1)
found heads body k p h = cons (omega arith) tt tt refl refl (end (omega arith))

nearest_stretch : (heads : Code) (body at height : ℕ) (c : Steps) → IsStretch heads body no_outlets at height (nearest_code c) (2 + length (rest_code c.step)) (height + 1)
nearest_stretch heads body at height c = rested heads body at height _ c.step (forth c.down) (pushed heads body _) (λ p h. sum_stretch heads body p h c.down)

nearer_stretch : (heads : Code) (body at height : ℕ) (c : Steps) → IsStretch heads body no_outlets at height (nearer_code c) (3 + length (rest_code c.step)) (height + 2)
nearer_stretch heads body at height c = either c.down
  where
    n : ℕ
    n = length (rest_code c.step)

    either : (down : Bool) → IsStretch heads body no_outlets at height (if down then nearest_code c ++ i.Local c.end 1 ∷ [] else i.Local c.end 1 ∷ nearest_code c) (3 + n) (height + 2)
    either true = join heads body at height (nearest_code c) (i.Local c.end 1 ∷ []) (2 + n) 1 (height + 1) (height + 2) (at + (2 + n)) _ refl (omega arith) (nearest_stretch heads body at height c) (ends (omega arith) (found heads body c.end (at + (2 + n)) (height + 1)))
    either false = join heads body at height (i.Local c.end 1 ∷ []) (nearest_code c) 1 (2 + n) (height + 1) (height + 2) (at + 1) _ refl (omega arith) (found heads body c.end at height) (ends (omega arith) (nearest_stretch heads body (at + 1) (height + 1) c))

near_end_stretch : (heads : Code) (body at height : ℕ) (c : Steps) → IsStretch heads body no_outlets at height (near_end_code c at) (2 * length (rest_code c.step) + 8) height
near_end_stretch heads body at height c =
    join heads body at height (nearer_code c) _ (3 + n) (1 + (1 + (2 + n + 1))) (height + 2) height p _ refl (omega arith) (nearer_stretch heads body at height c)
    (join heads body p (height + 2) (i.Less 1 ∷ []) _ 1 (1 + (2 + n + 1)) (height + 1) height (p + 1) _ refl refl (sized 1 refl (cons (omega arith) tt tt refl refl (end (omega arith))))
    (sized (1 + (2 + n + 1)) (omega (arith, count)) (cons_unless (omega arith) (omega arith) lands (moved refl (omega arith) last))))
  where
    n : ℕ
    n = length (rest_code c.step)

    p : ℕ
    p = at + (3 + n)

    last : IsStretch heads body no_outlets (p + 1 + 1) height (nearest_code c ++ i.SetLocal c.end 1 ∷ []) (2 + n + 1) height
    last = join heads body (p + 1 + 1) height (nearest_code c) (i.SetLocal c.end 1 ∷ []) (2 + n) 1 (height + 1) height (p + 1 + 1 + (2 + n)) (2 + n + 1) refl refl (nearest_stretch heads body (p + 1 + 1) height c) (sized 1 refl (cons (omega arith) tt tt refl refl (end (omega arith))))

    count : length (nearest_code c ++ i.SetLocal c.end 1 ∷ []) ≡ 2 + n + 1
    count = last.count

    lands : Lands heads (p + 1 + 1) (height + 1 - 1 + 0) (nearest_code c ++ i.SetLocal c.end 1 ∷ []) (at + (2 * n + 8)) (height + 1 - 1 + 0)
    lands = lands_over heads _ _ _ _ (length (nearest_code c ++ i.SetLocal c.end 1 ∷ [])) _ (omega (arith, count)) (omega arith)
        (ap (behind heads (height + 1 - 1 + 0)) (take_all (nearest_code c ++ i.SetLocal c.end 1 ∷ [])) ∙ (ap (λ (h : ℕ). behind heads h (nearest_code c ++ i.SetLocal c.end 1 ∷ [])) (let e : height + 1 - 1 + 0 ≡ height = omega arith in e) ∙ (last.leaves ∙ (omega arith))))

moved_end_stretch : (heads : Code) (body at height : ℕ) (c : Steps) → IsStretch heads body no_outlets at height (moved_end_code c) (3 + length (rest_code c.step)) height
moved_end_stretch heads body at height c = subst (λ (is : List Instr). IsStretch heads body no_outlets at height (i.Local c.end 1 ∷ is) (3 + n) height) same all
  where
    n : ℕ
    n = length (rest_code c.step)

    all : IsStretch heads body no_outlets at height ((i.Local c.end 1 ∷ (rest_code c.step ++ back c.down ∷ [])) ++ i.SetLocal c.end 1 ∷ []) (3 + n) height
    all = join heads body at height (i.Local c.end 1 ∷ (rest_code c.step ++ back c.down ∷ [])) (i.SetLocal c.end 1 ∷ []) (2 + n) 1 (height + 1) height (at + (2 + n)) _ refl (omega arith) (rested heads body at height _ c.step (back c.down) (found heads body c.end) (λ p h. sum_back_stretch heads body p h c.down)) (sized 1 refl (cons (omega arith) tt tt refl refl (end (omega arith))))

    same : (rest_code c.step ++ back c.down ∷ []) ++ i.SetLocal c.end 1 ∷ [] ≡ rest_code c.step ++ back c.down ∷ i.SetLocal c.end 1 ∷ []
    same = append_assoc (rest_code c.step) (back c.down ∷ []) (i.SetLocal c.end 1 ∷ [])

-- how many instructions the limit has
abbrev limit_size : Step → ℕ
limit_size step = if is_one step then 0 else (2 * length (rest_code step) + 8) + (3 + length (rest_code step))

limit_stretch : (heads : Code) (body at height : ℕ) (c : Steps) → IsStretch heads body no_outlets at height (limit_code c at) (limit_size c.step) height
limit_stretch heads body at height c = either (is_one c.step)
  where
    n : ℕ
    n = length (rest_code c.step)

    either : (one' : Bool) → IsStretch heads body no_outlets at height (if one' then [] else near_end_code c at ++ moved_end_code c) (if one' then 0 else (2 * n + 8) + (3 + n)) height
    either true = sized 0 refl (end refl)
    either false = join heads body at height (near_end_code c at) (moved_end_code c) (2 * n + 8) (3 + n) height height (at + (2 * n + 8)) _ refl refl (near_end_stretch heads body at height c) (moved_end_stretch heads body (at + (2 * n + 8)) height c)

-- it has as many for each counter
same_size : (step : Option ℤ) (free other : ℕ) → limit_size (step_from step free) ≡ limit_size (step_from step other)
same_size (Some d) free other = refl
same_size None free other = refl

order_stretch : (heads : Code) (body at height first second : ℕ) (down : Bool) → IsStretch heads body no_outlets at height (before_code down first second) 3 (height + 1)
order_stretch heads body at height first second true = sized 3 refl (cons (omega arith) tt tt refl refl (cons (omega arith) tt tt refl refl (cons (omega arith) tt tt refl refl (end (omega arith)))))
order_stretch heads body at height first second false = sized 3 refl (cons (omega arith) tt tt refl refl (cons (omega arith) tt tt refl refl (cons (omega arith) tt tt refl refl (end (omega arith)))))

first_test_stretch : (heads : Code) (body at height : ℕ) (c : Steps) (place : ℕ) → at + 5 ≤ place → IsStretch heads body (to_place place height) at height (first_test_code c place at) 5 height
first_test_stretch heads body at height c place low =
    before_outlets heads body (to_place place height) at height (before_code c.down c.end c.start) (branch_code true place (at + 3)) 3 2 (height + 1) height (at + 3) 5 refl refl (order_stretch heads body at height c.end c.start c.down)
    (branch_stretch heads body (at + 3) height place true (omega (arith, low)))

stepped : (heads : Code) (body at height : ℕ) (step : Step) → Stretch heads body at height (by_step step ∷ []) (height + 1)
stepped heads body at height (by_constant d) = pushed heads body d at height
stepped heads body at height (by_kept k) = found heads body k at height

-- the counter gets the next value
count_stretch : (heads : Code) (body at height : ℕ) (c : Steps) → IsStretch heads body no_outlets at height (i.Local c.counter 1 ∷ by_step c.step ∷ forth c.down ∷ i.SetLocal c.counter 1 ∷ []) 4 height
count_stretch heads body at height c =
    join heads body at height (i.Local c.counter 1 ∷ []) _ 1 3 (height + 1) height (at + 1) 4 refl refl (found heads body c.counter at height)
    (join heads body (at + 1) (height + 1) (by_step c.step ∷ []) _ 1 2 (height + 2) height (at + 2) 3 (omega arith) refl (ends (omega arith) (stepped heads body (at + 1) (height + 1) c.step))
    (join heads body (at + 2) (height + 2) (forth c.down ∷ []) (i.SetLocal c.counter 1 ∷ []) 1 1 (height + 1) height (at + 3) 2 (omega arith) refl (sum_stretch heads body (at + 2) height c.down)
    (sized 1 refl (cons (omega arith) tt tt refl refl (end (omega arith))))))

next_stretch : (heads : Code) (body at height : ℕ) (c : Steps) (place : ℕ) → at + 8 ≤ place → IsStretch heads body (to_place place height) at height (next_code c place) 8 height
next_stretch heads body at height c place low =
    before_outlets heads body (to_place place height) at height (before_code c.down c.counter c.end) _ 3 5 (height + 1) height (at + 3) 8 refl refl (order_stretch heads body at height c.counter c.end c.down)
    (after_outlets heads body (to_place place height) (at + 3) (height + 1) (i.Unless place ∷ []) _ 1 4 height height (at + 3 + 1) 5 refl refl (branch_stretch heads body (at + 3) height place false (omega (arith, low)))
    (count_stretch heads body (at + 3 + 1) height c))

-- behind the loop, or past the test of the next value
abbrev pub first_outlets : ℕ → ℕ → ℕ → Outlets
first_outlets place past height to k = to_place place height to k ⊎ to_place past height to k

-- a jump out, with nothing on the stack
pub jump_stretch : (heads : Code) (body at target : ℕ) (outlets : Outlets) → at < target → outlets target 0 → IsStretch heads body outlets at 0 (i.Jump target ∷ []) 1 0
jump_stretch heads body at target outlets forward out = record {
  steps = (record { operands = omega arith; named = tt; forward = forward; jumps = inr (subst (outlets target) (let e : 0 ≡ 0 - 0 + 0 = omega arith in e) out); ended = λ last. inr (omega arith) }, tt);
  count = refl;
  leaves = omega arith;
}

first_value_stretch : (heads : Code) (body at : ℕ) (c : Steps) (size place : ℕ) → size ≡ limit_size c.step → at + (5 + (size + 3)) ≤ place → IsStretch heads body (first_outlets place (at + (5 + (size + 3)) + 8) 0) at 0 (first_value_code c place at) (5 + (size + 3)) 0
first_value_stretch heads body at c size place same low =
    join_outlets heads body (to_place place 0) out out at 0 (first_test_code c place at) _ 5 (size + 3) 0 0 (at + 5) _ refl refl (λ to k to_behind. inr (inl to_behind)) (λ to k go. go) (first_test_stretch heads body at 0 c place (omega (arith, low)))
    (before_outlets heads body out (at + 5) 0 (limit_code c (at + 5)) _ size 3 0 0 (at + 5 + size) _ refl refl (subst (λ (n : ℕ). IsStretch heads body no_outlets (at + 5) 0 (limit_code c (at + 5)) n 0) (sym same) (limit_stretch heads body (at + 5) 0 c))
    (before_outlets heads body out (at + 5 + size) 0 (i.Local c.start 1 ∷ i.SetLocal c.counter 1 ∷ []) _ 2 1 0 0 (at + 5 + size + 2) 3 refl refl (sized 2 refl (cons (omega arith) tt tt refl refl (cons (omega arith) tt tt refl refl (end (omega arith)))))
    (jump_stretch heads body (at + 5 + size + 2) (at + (5 + (length (limit_code c 0) + 11))) out (omega (arith, same, count)) (inr (omega (arith, same, count), refl)))))
  where
    out : Outlets
    out = first_outlets place (at + (5 + (size + 3)) + 8) 0

    count : length (limit_code c 0) ≡ limit_size c.step
    count = let s = limit_stretch heads body 0 0 c in s.count

-- ---- controls

-- out of what stands before the turns
abbrev pub before_outlets_of : ControlTree → ℕ → ℕ → Outlets
before_outlets_of (while_true e) place turns = no_outlets
before_outlets_of for_ever place turns = no_outlets
before_outlets_of (for_members counter e low condition) place turns = no_outlets
before_outlets_of (for_steps counter from step to down condition) place turns = first_outlets place (turns + 8) 0

pub before_turns_stretch : (w : Standing) (body at : ℕ) (c : ControlTree) (place : ℕ) → ControlFits w.site.program c → at + before_turns_size c ≤ place → IsStretch (heads_of w.site.program) body (before_outlets_of c place (at + before_turns_size c)) at 0 (before_turns w c place at) (before_turns_size c) 0
before_turns_stretch w body at (while_true e) place fits low = sized 0 refl (end refl)
before_turns_stretch w body at for_ever place fits low = sized 0 refl (end refl)
before_turns_stretch w body at (for_members counter e low condition) place fits below =
    let heads = heads_of w.site.program in
    join heads body at 0 (expr_code (layout w.site) w.free e at) (i.SetLocal w.free 1 ∷ []) (expr_size e) 1 (0 + 1) 0 (at + expr_size e) _ refl refl (ends (ap (λ (k : ℕ). 0 + k) fits.0.1) (expr_stretch (layout w.site) body w.free e fits.0.0 at 0))
    (sized 1 refl (cons (omega arith) tt tt refl refl (end (omega arith))))
before_turns_stretch w body at (for_steps counter from step to down condition) place fits below =
    let heads = heads_of w.site.program in
    let c : Steps = steps_with (first_in (slice_get w.site.body.locals counter)) (constant_step step) down w.free in
    let n = bounds_size from step to in
    let size = length (limit_code (steps_with 0 (constant_step step) false 0) 0) in
    let count = limit_stretch heads body 0 0 (steps_with 0 (constant_step step) false 0) in
    let same : size ≡ limit_size c.step = count.count ∙ same_size (constant_step step) 0 w.free in
    let last = first_value_stretch heads body (at + n) c size place same (omega (arith, below)) in
    let further : at + n + (5 + (size + 3)) ≡ at + (n + (5 + (size + 3))) = omega arith in
    before_outlets heads body (first_outlets place (at + (n + (5 + (size + 3))) + 8) 0) at 0 (bounds_code w from step to at) _ n (5 + (size + 3)) 0 0 (at + n) _ refl refl (bounds_stretch w body at 0 from step to fits.0 fits.1 fits.2)
    (subst (λ (x : ℕ). IsStretch heads body (first_outlets place (x + 8) 0) (at + n) 0 (first_value_code c place (at + n)) (5 + (size + 3)) 0) further last)

-- out of the test before a turn
abbrev pub test_outlets : ControlTree → ℕ → Outlets
test_outlets (while_true e) place = to_place place 0
test_outlets for_ever place = no_outlets
test_outlets (for_members counter e low condition) place = to_place place 0
test_outlets (for_steps counter from step to down condition) place = to_place place 0

pub turn_test_stretch : (w : Standing) (body at : ℕ) (c : ControlTree) (place : ℕ) → ControlFits w.site.program c → at + turn_test_size c ≤ place → IsStretch (heads_of w.site.program) body (test_outlets c place) at 0 (turn_test w c place at) (turn_test_size c) 0
turn_test_stretch w body at (while_true e) place fits low = while_stretch w body at 0 e place fits low
turn_test_stretch w body at for_ever place fits low = sized 0 refl (end refl)
turn_test_stretch w body at (for_members counter e low condition) place fits below =
    let heads = heads_of w.site.program in
    let n = members_test_size low in
    join_outlets heads body (to_place place 0) (to_place place 0) (to_place place 0) at 0 (members_test w.free (first_in (slice_get w.site.body.locals counter)) low place) _ n (some_while_size condition) 0 0 (at + n) _ refl refl (λ to k go. inr go) (λ to k go. go)
    (members_test_stretch heads body at 0 w.free (first_in (slice_get w.site.body.locals counter)) low place (omega (arith, below)))
    (some_while_stretch (taking w 1) body (at + n) 0 condition place fits.1 (omega (arith, below)))
turn_test_stretch w body at (for_steps counter from step to down condition) place fits below =
    let heads = heads_of w.site.program in
    let c : Steps = steps_with (first_in (slice_get w.site.body.locals counter)) (constant_step step) down w.free in
    join_outlets heads body (to_place place 0) (to_place place 0) (to_place place 0) at 0 (next_code c place) _ 8 (some_while_size condition) 0 0 (at + 8) _ refl refl (λ to k go. inr go) (λ to k go. go) (next_stretch heads body at 0 c place (omega (arith, below)))
    (some_while_stretch (taking w (steps_kept step)) body (at + 8) 0 condition place fits.3 (omega (arith, below)))

-- past the test of the next value stands what stands behind it
pub past_lands : (heads : Code) (body at : ℕ) (c : Steps) (place : ℕ) (is : List Instr) → at + 8 ≤ place → Lands heads at 0 (next_code c place ++ is) (at + 8) 0
past_lands heads body at c place is low =
    let next = next_stretch heads body at 0 c place low in
    let count = next.count in
    let joined = length-append (next_code c place) is in
    lands_over heads at 0 (next_code c place ++ is) (at + 8) 8 0 refl (omega (arith, count, joined))
    (ap (behind heads 0) (take_front 8 (next_code c place) is (omega (arith, count))) ∙ (ap (λ (n : ℕ). behind heads 0 (take n (next_code c place))) (sym count) ∙ (ap (behind heads 0) (take_all (next_code c place)) ∙ next.leaves)))
