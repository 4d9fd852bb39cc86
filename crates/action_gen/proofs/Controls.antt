-- What is appended for the controls of DO, part after part.
use Rattle.std.proofs.Common.{◌≡◌, ℕ, ◌+◌, ◌*◌, Bool, true, false, List, [], ◌∷◌, ◌++◌, ℤ, pos, length, Option, Some, None, refl, sym, ap, subst, ◌∙◌, arith, length-append}
use Rattle.std.specs.Prelude.{slice_get, option_map, if◌then◌else◌}
use Rattle.code_types.specs.declared.code.Code.{Code}
use Rattle.code_types.specs.declared.instr.Instr.{Instr}
use Rattle.code_types.specs.declared.instr.Instr.TheVariants as i
use Rattle.std.specs.declared.alloc.Global.{Global}
use Rattle.std.specs.declared.boxed.Box.{Box}
use Rattle.modes.specs.declared.mode.Bounds.{Bounds}
use Rattle.modes.specs.ModeTree.{int}
use Rattle.modes.specs.Bounds.{bounds_of}
use Rattle.checked_program.specs.declared.expr.Expr.{Expr}
use Rattle.checked_program.specs.declared.statement.Control.{Control}
use Rattle.checked_program.specs.declared.statement.Control.TheVariants as controls
use Rattle.program_trees.specs.ExprTree.{ExprTree, expr_tree, boxed_expr}
use Rattle.program_trees.specs.StatementTree.{for_members, for_steps, control_tree}
use Rattle.code_scheme.specs.Pieces.{check_code, bounds_to_test, bounds_of_value, first_in, branch_code, member_code}
use Rattle.code_scheme.specs.ExprSizes.{expr_size, condition_size}
use Rattle.code_scheme.specs.ExprCode.{expr_code}
use Rattle.code_scheme.specs.StatementSite.{Standing, layout, taking}
use Rattle.code_scheme.specs.StatementLoops.{by_constant, Steps, steps_with, constant_step, steps_kept, within_code, within_size, step_code, step_size, bounds_code, bounds_size, before_code, rest_code, nearest_code, nearer_code, near_end_code, moved_end_code, is_one, limit_code, first_test_code, next_code, first_value_code, first_value_size, while_code, some_while_code, some_while_size, next_member_code, members_test, members_test_size, before_turns, before_turns_size, turn_test, turn_test_size}
use Rattle.expr_gen.specs.Putting.{Appends}
use Rattle.action_gen.specs.declared.steps.Step.{Step as RustStep}
use Rattle.action_gen.specs.declared.steps.Step.TheVariants.{Kept}
use Rattle.action_gen.specs.Counting.{step_of}
use Rattle.expr_gen.proofs.Appending.{nothing, and_then, resized}
use Rattle.expr_gen.proofs.Made.{moved}
use Rattle.action_gen.proofs.Lengths.{nearer_length, near_end_length}

-- one part behind another, of as many instructions as they have
pub all_then : {a b : List Instr} {x y z : Code} → Appends a (length a) x y → Appends b (length b) y z → Appends (a ++ b) (length (a ++ b)) x z
all_then {a} {b} p q = resized (sym (length-append a b)) (and_then p q)

-- ---- start, step and end

pub within_made : (w : Standing) (b : Bounds) (e : ExprTree) {x y z : Code}
    → Appends (expr_code (layout w.site) w.free e (length x.instrs)) (expr_size e) x y
    → Appends (check_code (bounds_to_test (Some b) (bounds_of_value e))) (length (check_code (bounds_to_test (Some b) (bounds_of_value e)))) y z
    → Appends (within_code w (Some b) e (length x.instrs)) (within_size (Some b) e) x z
within_made w b e p q = and_then p q

pub no_step : (w : Standing) (c : Option ℤ) (step : Option ExprTree) (d : ℤ) (x : Code) → c ≡ Some d
    → Appends (step_code w c step (length x.instrs)) (step_size c step) x x
no_step w c step d x e = rw e (nothing x)

pub bounds_made : (w : Standing) (from : ExprTree) (step : Option ExprTree) (to : ExprTree) {x y1 y2 y3 z : Code}
    → Appends (within_code w (bounds_of int) from (length x.instrs)) (within_size (bounds_of int) from) x y1
    → Appends (step_code w (constant_step step) step (length y1.instrs)) (step_size (constant_step step) step) y1 y2
    → Appends (within_code w (bounds_of int) to (length y2.instrs)) (within_size (bounds_of int) to) y2 y3
    → Appends (i.SetLocal w.free (steps_kept step) ∷ []) 1 y3 z
    → Appends (bounds_code w from step to (length x.instrs)) (bounds_size from step to) x z
bounds_made w from step to p q r s =
    and_then p (and_then (moved (λ at. step_code w (constant_step step) step at) p.length q)
    (and_then (moved (λ at. within_code w (bounds_of int) to at) (omega (arith, p.length, q.length)) r) s))

-- ---- the first value

pub first_test_made : (c : Steps) (behind : ℕ) {x y z : Code}
    → Appends (before_code c.down c.end c.start) 3 x y
    → Appends (branch_code true behind (length y.instrs)) 2 y z
    → Appends (first_test_code c behind (length x.instrs)) 5 x z
first_test_made c behind p q = and_then p (moved (λ at. branch_code true behind at) p.length q)

pub kept_rest : (s : RustStep) (k : ℕ) {x z : Code} → s ≡ Kept k
    → Appends (i.Local k 1 ∷ i.Push (pos 1) ∷ i.Sub ∷ []) 3 x z → Appends (rest_code (step_of s)) (length (rest_code (step_of s))) x z
kept_rest s k e p = rw e p

pub nearer_down : (c : Steps) {x y z : Code} → c.down ≡ true
    → Appends (nearest_code c) (length (nearest_code c)) x y → Appends (i.Local c.end 1 ∷ []) 1 y z → Appends (nearer_code c) (length (nearer_code c)) x z
nearer_down c e p q =
    let all = all_then p q in
    rw e (rw e at all)

pub nearer_up : (c : Steps) {x y z : Code} → c.down ≡ false
    → Appends (i.Local c.end 1 ∷ []) 1 x y → Appends (nearest_code c) (length (nearest_code c)) y z → Appends (nearer_code c) (length (nearer_code c)) x z
nearer_up c e p q =
    let all = all_then p q in
    rw e (rw e at all)

pub no_limit : (c : Steps) (x : Code) → is_one c.step ≡ true → Appends (limit_code c (length x.instrs)) (length (limit_code c 0)) x x
no_limit c x e = rw e (nothing x)

pub limit_made : (c : Steps) {x y z : Code} → is_one c.step ≡ false
    → Appends (near_end_code c (length x.instrs)) (length (near_end_code c 0)) x y
    → Appends (moved_end_code c) (length (moved_end_code c)) y z
    → Appends (limit_code c (length x.instrs)) (length (limit_code c 0)) x z
limit_made c e p q = rw e (resized (sym (length-append (near_end_code c 0) (moved_end_code c))) (and_then p q))

pub near_end_made : (c : Steps) (behind : ℕ) {x y1 y2 y3 y4 z : Code} → behind ≡ length y2.instrs + (length (rest_code c.step) + 4)
    → Appends (nearer_code c) (length (nearer_code c)) x y1
    → Appends (i.Less 1 ∷ []) 1 y1 y2
    → Appends (i.Unless behind ∷ []) 1 y2 y3
    → Appends (nearest_code c) (length (nearest_code c)) y3 y4
    → Appends (i.SetLocal c.end 1 ∷ []) 1 y4 z
    → Appends (near_end_code c (length x.instrs)) (length (near_end_code c 0)) x z
near_end_made c behind {x} {y1} {y2} e p q r s t =
    let to : behind ≡ length x.instrs + (2 * length (rest_code c.step) + 8) = omega (arith, e, p.length, q.length, nearer_length c) in
    resized (near_end_length c 0) (and_then p (and_then q (and_then (moved (λ (k : ℕ). i.Unless k ∷ []) to r) (and_then s t))))

pub first_value_made : (c : Steps) (behind turn : ℕ) {x y1 y2 y3 y4 z : Code} → turn ≡ length y4.instrs + 9
    → Appends (first_test_code c behind (length x.instrs)) 5 x y1
    → Appends (limit_code c (length y1.instrs)) (length (limit_code c 0)) y1 y2
    → Appends (i.Local c.start 1 ∷ []) 1 y2 y3
    → Appends (i.SetLocal c.counter 1 ∷ []) 1 y3 y4
    → Appends (i.Jump turn ∷ []) 1 y4 z
    → Appends (first_value_code c behind (length x.instrs)) (first_value_size c) x z
first_value_made c behind turn {x} {y1} {y2} {y3} {y4} e p q r s t =
    let to : turn ≡ length x.instrs + (5 + (length (limit_code c 0) + 11)) = omega (arith, e, p.length, q.length, r.length, s.length) in
    and_then p (and_then (moved (λ at. limit_code c at) p.length q) (and_then r (and_then s (moved (λ (k : ℕ). i.Jump k ∷ []) to t))))

-- how many instructions that has doesn't go by the counter, the scratch locals and the direction
one_or_none : (b : Bool) (xs ys : List Instr) → length xs ≡ length ys → length (if b then [] else xs) ≡ length (if b then [] else ys)
one_or_none true xs ys e = refl
one_or_none false xs ys e = e

limit_length : (counter : ℕ) (step : Option ℤ) (down : Bool) (free : ℕ) → length (limit_code (steps_with counter step down free) 0) ≡ length (limit_code (steps_with 0 step false 0) 0)
limit_length counter (Some d) true free = one_or_none (is_one (by_constant d)) _ _ refl
limit_length counter (Some d) false free = one_or_none (is_one (by_constant d)) _ _ refl
limit_length counter None true free = refl
limit_length counter None false free = refl

pub first_value_length : (counter : ℕ) (step : Option ℤ) (down : Bool) (free : ℕ) → first_value_size (steps_with counter step down free) ≡ first_value_size (steps_with 0 step false 0)
first_value_length counter step down free = ap (λ (n : ℕ). 5 + (n + 3)) (limit_length counter step down free)

-- ---- controls

pub members_made : (w : Standing) (counter : ℕ) (e : ExprTree) (low : ℤ) (condition : Option ExprTree) (behind : ℕ) {x y z : Code}
    → Appends (expr_code (layout w.site) w.free e (length x.instrs)) (expr_size e) x y
    → Appends (i.SetLocal w.free 1 ∷ []) 1 y z
    → Appends (before_turns w (for_members counter e low condition) behind (length x.instrs)) (before_turns_size (for_members counter e low condition)) x z
members_made w counter e low condition behind p q = and_then p q

pub members_test_made : (left counter : ℕ) (low : ℤ) (behind : ℕ) {x y1 y2 y3 z : Code}
    → Appends (i.Local left 1 ∷ []) 1 x y1
    → Appends (i.Card ∷ []) 1 y1 y2
    → Appends (i.Unless behind ∷ []) 1 y2 y3
    → Appends (next_member_code left counter low) (length (next_member_code left counter low)) y3 z
    → Appends (members_test left counter low behind) (members_test_size low) x z
members_test_made left counter low behind p q r s =
    let size = length-append (member_code low) (i.SetLocal counter 1 ∷ i.Copy 1 ∷ i.Span ∷ i.BitMinus ∷ i.SetLocal left 1 ∷ []) in
    resized (omega (arith, size)) (and_then p (and_then q (and_then r s)))

pub members_turn_made : (w : Standing) (counter : ℕ) (e : ExprTree) (low : ℤ) (condition : Option ExprTree) (behind : ℕ) {x y z : Code}
    → Appends (members_test w.free (first_in (slice_get w.site.body.locals counter)) low behind) (members_test_size low) x y
    → Appends (some_while_code (taking w 1) condition behind (length y.instrs)) (some_while_size condition) y z
    → Appends (turn_test w (for_members counter e low condition) behind (length x.instrs)) (turn_test_size (for_members counter e low condition)) x z
members_turn_made w counter e low condition behind p q = and_then p (moved (λ at. some_while_code (taking w 1) condition behind at) p.length q)

pub steps_turn_made : (w : Standing) (counter : ℕ) (from : ExprTree) (step : Option ExprTree) (to : ExprTree) (down : Bool) (condition : Option ExprTree) (behind : ℕ) {x y z : Code}
    → Appends (next_code (steps_with (first_in (slice_get w.site.body.locals counter)) (constant_step step) down w.free) behind) 8 x y
    → Appends (some_while_code (taking w (steps_kept step)) condition behind (length y.instrs)) (some_while_size condition) y z
    → Appends (turn_test w (for_steps counter from step to down condition) behind (length x.instrs)) (turn_test_size (for_steps counter from step to down condition)) x z
steps_turn_made w counter from step to down condition behind p q = and_then p (moved (λ at. some_while_code (taking w (steps_kept step)) condition behind at) p.length q)

pub steps_before_made : (w : Standing) (counter : ℕ) (from : ExprTree) (step : Option ExprTree) (to : ExprTree) (down : Bool) (condition : Option ExprTree) (behind : ℕ) {x y z : Code}
    → Appends (bounds_code w from step to (length x.instrs)) (bounds_size from step to) x y
    → Appends (first_value_code (steps_with (first_in (slice_get w.site.body.locals counter)) (constant_step step) down w.free) behind (length y.instrs))
    (first_value_size (steps_with (first_in (slice_get w.site.body.locals counter)) (constant_step step) down w.free)) y z
    → Appends (before_turns w (for_steps counter from step to down condition) behind (length x.instrs)) (before_turns_size (for_steps counter from step to down condition)) x z
steps_before_made w counter from step to down condition behind p q =
    let c : Steps = steps_with (first_in (slice_get w.site.body.locals counter)) (constant_step step) down w.free in
    and_then p (resized (first_value_length (first_in (slice_get w.site.body.locals counter)) (constant_step step) down w.free) (moved (λ at. first_value_code c behind at) p.length q))

-- ---- controls as they are written

pub while_before : (w : Standing) (control : Control) (b : Box Expr Global) (behind : ℕ) (x : Code) → control ≡ controls.While b
    → Appends (before_turns w (control_tree control) behind (length x.instrs)) (before_turns_size (control_tree control)) x x
while_before w control b behind x e = rw e (nothing x)

pub forever_before : (w : Standing) (control : Control) (behind : ℕ) (x : Code) → control ≡ controls.Forever
    → Appends (before_turns w (control_tree control) behind (length x.instrs)) (before_turns_size (control_tree control)) x x
forever_before w control behind x e = rw e (nothing x)

pub members_before : (w : Standing) (control : Control) (counter : ℕ) (b : Box Expr Global) (low : ℤ) (condition : Option (Box Expr Global)) (v : Expr) (behind : ℕ) {x y z : Code}
    → control ≡ controls.Members counter b low condition → v ≡ b.value
    → Appends (expr_code (layout w.site) w.free (expr_tree v) (length x.instrs)) (expr_size (expr_tree v)) x y
    → Appends (i.SetLocal w.free 1 ∷ []) 1 y z
    → Appends (before_turns w (control_tree control) behind (length x.instrs)) (before_turns_size (control_tree control)) x z
members_before w control counter b low condition v behind {x} {y} {z} e f p q =
    let own = subst (λ (u : Expr). Appends (expr_code (layout w.site) w.free (expr_tree u) (length x.instrs)) (expr_size (expr_tree u)) x y) f p in
    rw e (members_made w counter (boxed_expr b) low (option_map boxed_expr condition) behind own q)

-- the counter's first scalar is that of its row
steps_alike : (counter first : ℕ) (step : Option ℤ) (down : Bool) (free : ℕ) → counter ≡ first → steps_with counter step down free ≡ steps_with first step down free
steps_alike counter first step down free e = ap (λ (k : ℕ). steps_with k step down free) e

pub steps_before : (w : Standing) (control : Control) (counter first : ℕ) (from : Box Expr Global) (by : Option (Box Expr Global)) (to : Box Expr Global) (down : Bool) (condition : Option (Box Expr Global)) (v u : Expr) (c : Steps) (behind : ℕ) {x y z : Code}
    → control ≡ controls.Steps counter from by to down condition → v ≡ from.value → u ≡ to.value
    → first_in (slice_get w.site.body.locals counter) ≡ first → c ≡ steps_with first (constant_step (option_map boxed_expr by)) down w.free
    → Appends (bounds_code w (expr_tree v) (option_map boxed_expr by) (expr_tree u) (length x.instrs)) (bounds_size (expr_tree v) (option_map boxed_expr by) (expr_tree u)) x y
    → Appends (first_value_code c behind (length y.instrs)) (first_value_size c) y z
    → Appends (before_turns w (control_tree control) behind (length x.instrs)) (before_turns_size (control_tree control)) x z
steps_before w control counter first from by to down condition v u c behind {x} {y} {z} e f g row same p q =
    let step : Option ExprTree = option_map boxed_expr by in
    let own1 = subst (λ (t : Expr). Appends (bounds_code w (expr_tree t) step (expr_tree u) (length x.instrs)) (bounds_size (expr_tree t) step (expr_tree u)) x y) f p in
    let own2 = subst (λ (t : Expr). Appends (bounds_code w (boxed_expr from) step (expr_tree t) (length x.instrs)) (bounds_size (boxed_expr from) step (expr_tree t)) x y) g own1 in
    let is : c ≡ steps_with (first_in (slice_get w.site.body.locals counter)) (constant_step step) down w.free = same ∙ sym (steps_alike _ first (constant_step step) down w.free row) in
    let value = subst (λ (d : Steps). Appends (first_value_code d behind (length y.instrs)) (first_value_size d) y z) is q in
    rw e (steps_before_made w counter (boxed_expr from) step (boxed_expr to) down (option_map boxed_expr condition) behind own2 value)

pub while_test : (w : Standing) (control : Control) (b : Box Expr Global) (v : Expr) (behind : ℕ) {x z : Code} → control ≡ controls.While b → v ≡ b.value
    → Appends (while_code w (expr_tree v) behind (length x.instrs)) (condition_size (expr_tree v) false) x z
    → Appends (turn_test w (control_tree control) behind (length x.instrs)) (turn_test_size (control_tree control)) x z
while_test w control b v behind {x} {z} e f p =
    let own = subst (λ (u : Expr). Appends (while_code w (expr_tree u) behind (length x.instrs)) (condition_size (expr_tree u) false) x z) f p in
    rw e own

pub forever_test : (w : Standing) (control : Control) (behind : ℕ) (x : Code) → control ≡ controls.Forever
    → Appends (turn_test w (control_tree control) behind (length x.instrs)) (turn_test_size (control_tree control)) x x
forever_test w control behind x e = rw e (nothing x)

pub members_turn : (w taken : Standing) (control : Control) (counter first : ℕ) (b : Box Expr Global) (low : ℤ) (condition : Option (Box Expr Global)) (behind : ℕ) {x y z : Code}
    → control ≡ controls.Members counter b low condition → first_in (slice_get w.site.body.locals counter) ≡ first → taken ≡ taking w 1
    → Appends (members_test w.free first low behind) (members_test_size low) x y
    → Appends (some_while_code taken (option_map boxed_expr condition) behind (length y.instrs)) (some_while_size (option_map boxed_expr condition)) y z
    → Appends (turn_test w (control_tree control) behind (length x.instrs)) (turn_test_size (control_tree control)) x z
members_turn w taken control counter first b low condition behind {x} {y} {z} e row same p q =
    let own = subst (λ (k : ℕ). Appends (members_test w.free k low behind) (members_test_size low) x y) (sym row) p in
    let condition_test = subst (λ (t : Standing). Appends (some_while_code t (option_map boxed_expr condition) behind (length y.instrs)) (some_while_size (option_map boxed_expr condition)) y z) same q in
    rw e (members_turn_made w counter (boxed_expr b) low (option_map boxed_expr condition) behind own condition_test)

pub steps_turn : (w taken : Standing) (control : Control) (counter first : ℕ) (from : Box Expr Global) (by : Option (Box Expr Global)) (to : Box Expr Global) (down : Bool) (condition : Option (Box Expr Global)) (c : Steps) (behind : ℕ) {x y z : Code}
    → control ≡ controls.Steps counter from by to down condition
    → first_in (slice_get w.site.body.locals counter) ≡ first → c ≡ steps_with first (constant_step (option_map boxed_expr by)) down w.free → taken ≡ taking w (steps_kept (option_map boxed_expr by))
    → Appends (next_code c behind) 8 x y
    → Appends (some_while_code taken (option_map boxed_expr condition) behind (length y.instrs)) (some_while_size (option_map boxed_expr condition)) y z
    → Appends (turn_test w (control_tree control) behind (length x.instrs)) (turn_test_size (control_tree control)) x z
steps_turn w taken control counter first from by to down condition c behind {x} {y} {z} e row is same p q =
    let step : Option ExprTree = option_map boxed_expr by in
    let counts : c ≡ steps_with (first_in (slice_get w.site.body.locals counter)) (constant_step step) down w.free = is ∙ sym (steps_alike _ first (constant_step step) down w.free row) in
    let own = subst (λ (d : Steps). Appends (next_code d behind) 8 x y) counts p in
    let condition_test = subst (λ (t : Standing). Appends (some_while_code t (option_map boxed_expr condition) behind (length y.instrs)) (some_while_size (option_map boxed_expr condition)) y z) same q in
    rw e (steps_turn_made w counter (boxed_expr from) step (boxed_expr to) down (option_map boxed_expr condition) behind own condition_test)
