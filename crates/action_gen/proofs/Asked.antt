-- What calls, requests and other actions without statements append, part after part.
use Rattle.std.proofs.Common.{◌≡◌, ℕ, ◌+◌, ◌-◌, ◌<◌, ◌≤◌, Bool, true, false, List, [], ◌∷◌, ◌++◌, length, get_or, reverse, refl, sym, ap, subst, ◌∙◌, arith, Option, Some, None}
use Rattle.std.proofs.lemmas.List.{get_or-reverse, get_or_past, length-reverse}
use Rattle.code_types.specs.declared.code.Code.{Code}
use Rattle.code_types.specs.declared.instr.Instr.{Instr}
use Rattle.code_types.specs.declared.instr.Instr.TheVariants as i
use Rattle.checked_program.specs.declared.expr.Routine.{Routine}
use Rattle.std.specs.Prelude.{option_map, is_some}
use Rattle.std.specs.declared.alloc.Global.{Global}
use Rattle.std.specs.declared.boxed.Box.{Box}
use Rattle.checked_program.specs.declared.expr.Expr.{Expr, out-Expr}
use Rattle.checked_program.specs.declared.expr.Received.{Received}
use Rattle.checked_program.specs.declared.statement.Action.{Action}
use Rattle.checked_program.specs.declared.statement.Action.TheVariants as actions
use Rattle.checked_program.specs.declared.statement.Sent.{Sent}
use Rattle.checked_program.specs.declared.statement.Statement.{Statement}
use Rattle.checked_program.specs.declared.statement.Sent.TheVariants as sents
use Rattle.program_trees.specs.ExprTree.{ExprTree, ReceivedTree, ReceivedNodes, CallTree, count_of, expr_tree, received_count, received_tree, received_of, boxed_expr}
use Rattle.program_trees.specs.StatementTree.{ActionTree, action_tree, SentTree, to_buffer, signal, sent_tree}
use Rattle.code_scheme.specs.Pieces.{routine_code}
use Rattle.code_scheme.specs.ExprSizes.{expr_size, received_size, received_sizes, call_size, condition_size}
use Rattle.code_scheme.specs.ExprCode.{expr_code, received_code, received_codes, counts_of, call_code, condition_code}
use Rattle.code_scheme.specs.StatementSite.{Standing, layout}
use Rattle.code_scheme.specs.StatementPlain.{taken_by, drop_code, perform_code, perform_size, dropped_scalars, drop_routine_code, drop_routine_size, assert_code, assert_size, receiver_code, receiver_size, has_receiver, send_code, send_size}
use Rattle.code_scheme.specs.StatementSize.{action_size}
use Rattle.code_scheme.specs.StatementCode.{action_code}
use Rattle.expr_gen.specs.Putting.{Appends}
use Rattle.expr_gen.proofs.Appending.{and_then, resized, nothing}
use Rattle.expr_gen.proofs.Made.{moved, count_is}
use Rattle.action_gen.proofs.Views.{action_tree-Nothing, action_tree-Module, action_tree-Region, action_tree-Evaluate, action_tree-PutText}

-- a call, whose result is dropped
pub perform_told : (w : Standing) (c : CallTree) (n : ℕ) {x y z : Code} → n ≡ dropped_scalars w.site c
    → Appends (call_code (layout w.site) w.free c (length x.instrs)) (call_size c) x y
    → Appends (drop_code n) (length (drop_code n)) y z
    → Appends (perform_code w c (length x.instrs)) (perform_size w.site c) x z
perform_told w c n {x} {y} {z} e p q = and_then p (subst (λ (k : ℕ). Appends (drop_code k) (length (drop_code k)) y z) e q)

pub dropped_told : (w : Standing) (r : Routine) (e : ExprTree) {x y1 y2 z : Code}
    → Appends (expr_code (layout w.site) w.free e (length x.instrs)) (expr_size e) x y1
    → Appends (routine_code r) (length (routine_code r)) y1 y2
    → Appends (i.Pop 1 ∷ []) 1 y2 z
    → Appends (drop_routine_code w r e (length x.instrs)) (drop_routine_size r e) x z
dropped_told w r e p q s = and_then p (and_then q s)

pub assert_told : (w : Standing) (e : ExprTree) (target : ℕ) {x y z : Code} → target ≡ length x.instrs + (condition_size e true + 1)
    → Appends (condition_code (layout w.site) w.free e true target (length x.instrs)) (condition_size e true) x y
    → Appends (i.Raise 3 ∷ []) 1 y z
    → Appends (assert_code w e (length x.instrs)) (assert_size e) x z
assert_told w e target {x} {y} {z} is p q =
    and_then (subst (λ (k : ℕ). Appends (condition_code (layout w.site) w.free e true k (length x.instrs)) (condition_size e true) x y) is p) q

-- the place of a label that is so many outwards
pub exit_at : (exits : List ℕ) (k : ℕ) → k < length exits → get_or exits (length exits - 1 - k) 0 ≡ get_or (reverse exits) k 0
exit_at exits k h = sym (get_or-reverse exits k 0 h)

pub no_exit : (exits : List ℕ) (k : ℕ) → length exits ≤ k → 0 ≡ get_or (reverse exits) k 0
no_exit exits k h = sym (get_or_past (reverse exits) k 0 (omega (arith, length-reverse exits, h)))

-- ---- SEND

pub buffer_told : (w : Standing) (b : ℕ) (r : ReceivedTree) (priority n : ℕ) {x y z : Code} → n ≡ received_count r
    → Appends (received_code (layout w.site) w.free r (length x.instrs)) (received_size r) x y
    → Appends (i.Send b n priority ∷ []) 1 y z
    → Appends (send_code w (to_buffer b r) priority (length x.instrs)) (send_size (to_buffer b r)) x z
buffer_told w b r priority n {x} {y} {z} e p q = and_then p (subst (λ (k : ℕ). Appends (i.Send b k priority ∷ []) 1 y z) e q)

pub signal_told : (w : Standing) (s : ℕ) (rs : ReceivedNodes) (to : Option ExprTree) (priority n : ℕ) (is_some : Bool) {x y1 y2 z : Code}
    → n ≡ counts_of rs → is_some ≡ has_receiver to
    → Appends (received_codes (layout w.site) w.free rs (length x.instrs)) (received_sizes rs) x y1
    → Appends (receiver_code w to (length y1.instrs)) (receiver_size to) y1 y2
    → Appends (i.Signal s n is_some priority ∷ []) 1 y2 z
    → Appends (send_code w (signal s rs to) priority (length x.instrs)) (send_size (signal s rs to)) x z
signal_told w s rs to priority n is_some {x} {y1} {y2} {z} e f p q t =
    let own : Appends (i.Signal s (counts_of rs) (has_receiver to) priority ∷ []) 1 y2 z =
    subst (λ (b : Bool). Appends (i.Signal s (counts_of rs) b priority ∷ []) 1 y2 z) f (subst (λ (k : ℕ). Appends (i.Signal s k is_some priority ∷ []) 1 y2 z) e t) in
    and_then p (and_then (moved (λ at. receiver_code w to at) p.length q) own)

pub buffer_sent : (w : Standing) (s : Sent) (b : ℕ) (v : Received) (priority n : ℕ) {x y z : Code} → s ≡ sents.ToBuffer b v → n ≡ received_count (received_tree v)
    → Appends (received_code (layout w.site) w.free (received_tree v) (length x.instrs)) (received_size (received_tree v)) x y
    → Appends (i.Send b n priority ∷ []) 1 y z
    → Appends (send_code w (sent_tree s) priority (length x.instrs)) (send_size (sent_tree s)) x z
buffer_sent w s b v priority n {x} {y} {z} is e p q =
    subst (λ (t : Sent). Appends (send_code w (sent_tree t) priority (length x.instrs)) (send_size (sent_tree t)) x z) (sym is) (buffer_told w b (received_tree v) priority n e p q)

some_written : (e : Option (Box Expr Global)) → is_some e ≡ has_receiver (option_map boxed_expr e)
some_written None = refl
some_written (Some e) = refl

pub signal_sent : (w : Standing) (s : Sent) (signal_number : ℕ) (vs rs : List Received) (to : Option (Box Expr Global)) (priority n : ℕ) (written : Bool) {x y1 y2 z : Code}
    → s ≡ sents.Signal signal_number vs to → rs ≡ vs → n ≡ counts_of (received_of rs) → written ≡ is_some to
    → Appends (received_codes (layout w.site) w.free (received_of rs) (length x.instrs)) (received_sizes (received_of rs)) x y1
    → Appends (receiver_code w (option_map boxed_expr to) (length y1.instrs)) (receiver_size (option_map boxed_expr to)) y1 y2
    → Appends (i.Signal signal_number n written priority ∷ []) 1 y2 z
    → Appends (send_code w (sent_tree s) priority (length x.instrs)) (send_size (sent_tree s)) x z
signal_sent w s signal_number vs rs to priority n written {x} {y1} {y2} {z} is same e f p q t =
    subst (λ (k : Sent). Appends (send_code w (sent_tree k) priority (length x.instrs)) (send_size (sent_tree k)) x z) (sym is)
    (subst (λ (ks : List Received). Appends (send_code w (signal signal_number (received_of ks) (option_map boxed_expr to)) priority (length x.instrs)) (send_size (signal signal_number (received_of ks) (option_map boxed_expr to))) x z) same
    (signal_told w signal_number (received_of rs) (option_map boxed_expr to) priority n written e (f ∙ some_written to) p q t))

-- ---- actions

pub nothing_told : (w : Standing) (a : Action) (x : Code) → a ≡ actions.Nothing
    → Appends (action_code w (action_tree a) (length x.instrs)) (action_size w.site (action_tree a)) x x
nothing_told w a x is =
    subst (λ (t : ActionTree). Appends (action_code w t (length x.instrs)) (action_size w.site t) x x) (sym (ap action_tree is ∙ action_tree-Nothing)) (nothing x)

-- a modulion's code stands in bodies of its own
pub module_told : (w : Standing) (a : Action) (ss : List Statement) (x : Code) → a ≡ actions.Module ss
    → Appends (action_code w (action_tree a) (length x.instrs)) (action_size w.site (action_tree a)) x x
module_told w a ss x is =
    subst (λ (t : ActionTree). Appends (action_code w t (length x.instrs)) (action_size w.site t) x x) (sym (ap action_tree is ∙ action_tree-Module ss)) (nothing x)

pub region_told : (w : Standing) (a : Action) (r : ℕ) (ss : List Statement) (x : Code) → a ≡ actions.Region r ss
    → Appends (action_code w (action_tree a) (length x.instrs)) (action_size w.site (action_tree a)) x x
region_told w a r ss x is =
    subst (λ (t : ActionTree). Appends (action_code w t (length x.instrs)) (action_size w.site t) x x) (sym (ap action_tree is ∙ action_tree-Region r ss)) (nothing x)

pub evaluate_told : (w : Standing) (a : Action) (e : Box Expr Global) (u v : Expr) {x z : Code} → a ≡ actions.Evaluate e → u ≡ e.value → v ≡ e.value
    → Appends (taken_by w (expr_tree u) (i.Pop (out-Expr v).count) (length x.instrs)) (expr_size (expr_tree u) + 1) x z
    → Appends (action_code w (action_tree a) (length x.instrs)) (action_size w.site (action_tree a)) x z
evaluate_told w a e u v {x} {z} is eu ev p =
    subst (λ (t : ActionTree). Appends (action_code w t (length x.instrs)) (action_size w.site t) x z) (sym (ap action_tree is ∙ action_tree-Evaluate e))
    (subst (λ (y : Expr). Appends (taken_by w (expr_tree y) (i.Pop (count_of (boxed_expr e))) (length x.instrs)) (expr_size (expr_tree y) + 1) x z) eu
    (subst (λ (k : ℕ). Appends (taken_by w (expr_tree u) (i.Pop k) (length x.instrs)) (expr_size (expr_tree u) + 1) x z) (count_is v ∙ ap (λ (y : Expr). count_of (expr_tree y)) ev) p))

pub text_told : (w : Standing) (a : Action) (e : Box Expr Global) (u v : Expr) {x z : Code} → a ≡ actions.PutText e → u ≡ e.value → v ≡ e.value
    → Appends (taken_by w (expr_tree u) (i.PutText (out-Expr v).count) (length x.instrs)) (expr_size (expr_tree u) + 1) x z
    → Appends (action_code w (action_tree a) (length x.instrs)) (action_size w.site (action_tree a)) x z
text_told w a e u v {x} {z} is eu ev p =
    subst (λ (t : ActionTree). Appends (action_code w t (length x.instrs)) (action_size w.site t) x z) (sym (ap action_tree is ∙ action_tree-PutText e))
    (subst (λ (y : Expr). Appends (taken_by w (expr_tree y) (i.PutText (count_of (boxed_expr e))) (length x.instrs)) (expr_size (expr_tree y) + 1) x z) eu
    (subst (λ (k : ℕ). Appends (taken_by w (expr_tree u) (i.PutText k) (length x.instrs)) (expr_size (expr_tree u) + 1) x z) (count_is v ∙ ap (λ (y : Expr). count_of (expr_tree y)) ev) p))
