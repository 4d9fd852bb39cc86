-- What is appended for each construct that holds statements, by what is appended for its parts.
use Rattle.std.proofs.Common.{◌≡◌, ℕ, suc, ◌+◌, Bool, true, false, List, [], ◌∷◌, ◌++◌, length, refl, sym, ap, ◌∙◌, arith, append_assoc}
use Rattle.std.specs.Prelude.{if◌then◌else◌}
use Rattle.modes.specs.declared.mode.Bounds.{Bounds}
use Rattle.code_types.specs.declared.code.Code.{Code}
use Rattle.code_types.specs.declared.code.Handler.{Handler}
use Rattle.code_types.specs.declared.instr.Instr.{Instr}
use Rattle.code_types.specs.declared.instr.Instr.TheVariants as i
use Rattle.program_trees.specs.ExprTree.{ExprTree}
use Rattle.program_trees.specs.StatementTree.{StatementTree, statement, ActionTree, StatementNodes, no_statements, more_statements, ChoiceNodes, no_choices, more_choices, CaseNodes, no_cases, more_cases, DelayNodes, no_delays, more_delays, ReceiveNodes, no_receives, more_receives, OtherwiseNode, HandledNodes, no_handled, more_handled, HandlerNode, no_handler, handler}
use Rattle.code_scheme.specs.ExprSizes.{condition_size}
use Rattle.code_scheme.specs.ExprCode.{condition_code}
use Rattle.code_scheme.specs.StatementSite.{Site, Standing, layout}
use Rattle.code_scheme.specs.StatementGoing.{go_on, goes_on, action_goes_on, leave_size, leave_code}
use Rattle.code_scheme.specs.StatementWaits.{is_chosen_code}
use Rattle.code_scheme.specs.StatementSize.{labels_code, labels_size, statements_size, statement_size, handler_size, handled_size, otherwise_size, action_size, choices_size, cases_size, delays_size, receives_size}
use Rattle.code_scheme.specs.StatementCode.{CodeAt, no_code, joining, chosen, next_place, statements_code, statement_code, handler_code, handled_code, otherwise_code, action_code, choices_code, cases_code, delays_code, receives_code}
use Rattle.code_scheme.specs.StatementRows.{RowsAt, no_rows, own_rows, statements_rows, statement_rows, handler_rows, handled_rows, otherwise_rows, action_rows, choices_rows, cases_rows, delays_rows, receives_rows}
use Rattle.expr_gen.specs.Putting.{Appends}
use Rattle.stmt_gen.specs.Appending.{AppendsAt, AppendsRows, StillTo}
use Rattle.stmt_gen.specs.Constructs.{guarded_code, choice_code}
use Rattle.stmt_gen.proofs.Placing.{step, told_as, then_at, without_rows, rows_before}

-- ---- sums

joined_sum : (s l r : ℕ) → s + (l + r) ≡ s + l + r
joined_sum s l r = omega arith

nothing_more : (s l : ℕ) → l ≡ 0 → s ≡ s + (l + 0)
nothing_more s l e = omega (arith, e)

one_more : (s l : ℕ) → 1 + (s + l) ≡ 1 + s + l
one_more s l = omega arith

with_one_more : (t s l : ℕ) → t + (1 + s + l) ≡ t + suc s + l
with_one_more t s l = omega arith

-- ---- statements

-- a statement is appended, behind which control goes on
pub next_statement : {all : CodeAt} {n : ℕ} {rows : RowsAt} (w : Standing) (s : StatementTree) (ss : StatementNodes) {x y z : Code}
    → goes_on s ≡ true
    → StillTo all n rows (statements_code w (more_statements s ss)) (statements_size w.site (more_statements s ss)) (statements_rows w.site (more_statements s ss)) x y
    → AppendsAt (statement_code w s) (statement_size w.site s) (statement_rows w.site s) y z
    → StillTo all n rows (statements_code w ss) (statements_size w.site ss) (statements_rows w.site ss) x z
next_statement w s ss {x} {y} goes p q =
    step (ap (λ (g : Bool). statement_code w s (length y.instrs) ++ (if g then statements_code w ss (length y.instrs + statement_size w.site s) else [])) goes)
    (ap (λ (g : Bool). statement_size w.site s + (if g then statements_size w.site ss else 0)) goes)
    (ap (λ (g : Bool). statement_rows w.site s (length y.instrs) ++ (if g then statements_rows w.site ss (length y.instrs + statement_size w.site s) else [])) goes) p q

-- a statement, behind which control doesn't go on, is what is left
pub last_statement : {all : CodeAt} {n : ℕ} {rows : RowsAt} (w : Standing) (s : StatementTree) (ss : StatementNodes) {x y z : Code}
    → goes_on s ≡ false
    → StillTo all n rows (statements_code w (more_statements s ss)) (statements_size w.site (more_statements s ss)) (statements_rows w.site (more_statements s ss)) x y
    → AppendsAt (statement_code w s) (statement_size w.site s) (statement_rows w.site s) y z
    → StillTo all n rows no_code 0 no_rows x z
last_statement w s ss {x} {y} goes p q =
    step (ap (λ (g : Bool). statement_code w s (length y.instrs) ++ (if g then statements_code w ss (length y.instrs + statement_size w.site s) else [])) goes)
    (ap (λ (g : Bool). statement_size w.site s + (if g then statements_size w.site ss else 0)) goes)
    (ap (λ (g : Bool). statement_rows w.site s (length y.instrs) ++ (if g then statements_rows w.site ss (length y.instrs + statement_size w.site s) else [])) goes) p q

-- an action with its handler
pub guarded : (w : Standing) (labelled : Bool) (a : ActionTree) (h : HandlerNode) {x y z : Code}
    → AppendsAt (action_code w a) (action_size w.site a) (action_rows w.site a) x y
    → AppendsAt (handler_code w h (action_goes_on a)) (leave_size (action_goes_on a) (handler_size w.site h) + handler_size w.site h) (handler_rows w.site h (action_goes_on a) (length x.instrs)) y z
    → AppendsAt (guarded_code w (statement labelled a h)) (statement_size w.site (statement labelled a h)) (statement_rows w.site (statement labelled a h)) x z
guarded w labelled a h p q = told_as _ _ _ refl refl refl (then_at p q)

-- an action without one
pub unguarded : (w : Standing) (labelled : Bool) (a : ActionTree) {x y : Code}
    → AppendsAt (action_code w a) (action_size w.site a) (action_rows w.site a) x y
    → (action_code w a (length x.instrs) ≡ action_code w a (length x.instrs) ++ [])
    → (action_rows w.site a (length x.instrs) ≡ action_rows w.site a (length x.instrs) ++ [])
    → (leave_size (action_goes_on a) 0 ≡ 0)
    → AppendsAt (guarded_code w (statement labelled a no_handler)) (statement_size w.site (statement labelled a no_handler)) (statement_rows w.site (statement labelled a no_handler)) x y
unguarded w labelled a p code rows none = told_as _ _ _ code (nothing_more (action_size w.site a) (leave_size (action_goes_on a) 0) none) rows p

-- ---- handlers

-- a handler's rows, the jump over its alternatives, and these
pub handling : (w : Standing) (hs : HandledNodes) (o : OtherwiseNode) (comes : Bool) (from behind : ℕ) {u x y z : Code}
    → behind ≡ length u.instrs + (leave_size comes (handler_size w.site (handler hs o)) + handler_size w.site (handler hs o))
    → AppendsRows (own_rows w.site from (length u.instrs) hs o (length u.instrs + leave_size comes (handler_size w.site (handler hs o)))) u x
    → Appends (leave_code comes (handler_size w.site (handler hs o)) behind) (leave_size comes (handler_size w.site (handler hs o))) x y
    → AppendsAt (handled_code w hs behind (otherwise_size w.site o 0) (otherwise_code w o no_code)) (handler_size w.site (handler hs o)) (handled_rows w.site hs (otherwise_size w.site o 0) (otherwise_rows w.site o)) y z
    → AppendsAt (handler_code w (handler hs o) comes) (leave_size comes (handler_size w.site (handler hs o)) + handler_size w.site (handler hs o)) (handler_rows w.site (handler hs o) comes from) u z
handling w hs o comes from behind {u} {x} is rows jump rest =
    told_as _ _ _
    (ap (λ (b : ℕ). leave_code comes (handler_size w.site (handler hs o)) b ++ handled_code w hs b (otherwise_size w.site o 0) (otherwise_code w o no_code) (length u.instrs + leave_size comes (handler_size w.site (handler hs o)))) is)
    refl refl
    (rows_before _ rows (then_at (without_rows (λ at. leave_code comes (handler_size w.site (handler hs o)) behind) jump) rest))

-- an alternative of a handler
pub next_handled : {all : CodeAt} {n : ℕ} {rows : RowsAt} (w : Standing) (names : List ℕ) (ss : StatementNodes) (hs : HandledNodes) (behind last : ℕ) (rest : CodeAt) (rest_rows : RowsAt) {x y z : Code}
    → StillTo all n rows (handled_code w (more_handled names ss hs) behind last rest) (handled_size w.site (more_handled names ss hs) last) (handled_rows w.site (more_handled names ss hs) last rest_rows) x y
    → AppendsAt (λ at. joining (statements_code w ss at) (go_on ss) (handled_size w.site hs last) behind) (statements_size w.site ss + leave_size (go_on ss) (handled_size w.site hs last)) (statements_rows w.site ss) y z
    → StillTo all n rows (handled_code w hs behind last rest) (handled_size w.site hs last) (handled_rows w.site hs last rest_rows) x z
next_handled w names ss hs behind last rest rest_rows p q =
    step refl (joined_sum (statements_size w.site ss) (leave_size (go_on ss) (handled_size w.site hs last)) (handled_size w.site hs last)) refl p q

-- ---- choices

-- actions and the jump behind them
pub joined_on : (w : Standing) (ss : StatementNodes) (rest behind : ℕ) {x y z : Code}
    → AppendsAt (statements_code w ss) (statements_size w.site ss) (statements_rows w.site ss) x y
    → Appends (leave_code (go_on ss) rest behind) (leave_size (go_on ss) rest) y z
    → (statements_rows w.site ss (length x.instrs) ++ [] ≡ statements_rows w.site ss (length x.instrs))
    → AppendsAt (λ at. joining (statements_code w ss at) (go_on ss) rest behind) (statements_size w.site ss + leave_size (go_on ss) rest) (statements_rows w.site ss) x z
joined_on w ss rest behind p q none = told_as _ _ _ refl refl none (then_at p (without_rows (λ at. leave_code (go_on ss) rest behind) q))

-- a Boolean's jump before them
pub chosen_on : (w : Standing) (ss : StatementNodes) (rest behind next : ℕ) {x y z : Code}
    → next ≡ length x.instrs + (suc (statements_size w.site ss) + leave_size (go_on ss) rest)
    → Appends (i.Unless next ∷ []) 1 x y
    → AppendsAt (λ at. joining (statements_code w ss at) (go_on ss) rest behind) (statements_size w.site ss + leave_size (go_on ss) rest) (statements_rows w.site ss) y z
    → AppendsAt (chosen (statements_code w ss) (statements_size w.site ss) (go_on ss) rest behind) (1 + statements_size w.site ss + leave_size (go_on ss) rest) (λ at. statements_rows w.site ss (at + 1)) x z
chosen_on w ss rest behind next {x} is p q =
    told_as _ _ _ (ap (λ (k : ℕ). i.Unless k ∷ joining (statements_code w ss (length x.instrs + 1)) (go_on ss) rest behind) is) (one_more (statements_size w.site ss) (leave_size (go_on ss) rest)) refl
    (then_at (without_rows (λ at. i.Unless next ∷ []) p) q)

pub next_choice : {all : CodeAt} {n : ℕ} {rows : RowsAt} (w : Standing) (e : ExprTree) (ss : StatementNodes) (cs : ChoiceNodes) (behind last : ℕ) (rest : CodeAt) (rest_rows : RowsAt) {x y z : Code}
    → StillTo all n rows (choices_code w (more_choices e ss cs) behind last rest) (choices_size w.site (more_choices e ss cs) last) (choices_rows w.site (more_choices e ss cs) last rest_rows) x y
    → AppendsAt (choice_code w e ss (choices_size w.site cs last) behind) (condition_size e false + statements_size w.site ss + leave_size (go_on ss) (choices_size w.site cs last)) (λ at. statements_rows w.site ss (at + condition_size e false)) y z
    → StillTo all n rows (choices_code w cs behind last rest) (choices_size w.site cs last) (choices_rows w.site cs last rest_rows) x z
next_choice w e ss cs behind last rest rest_rows {x} {y} p q =
    step (sym (append_assoc (condition_code (layout w.site) w.free e false (next_place (length y.instrs) (condition_size e false + statements_size w.site ss) (go_on ss) (choices_size w.site cs last)) (length y.instrs))
    (joining (statements_code w ss (length y.instrs + condition_size e false)) (go_on ss) (choices_size w.site cs last) behind)
    (choices_code w cs behind last rest (next_place (length y.instrs) (condition_size e false + statements_size w.site ss) (go_on ss) (choices_size w.site cs last))))) (joined_sum (condition_size e false + statements_size w.site ss) (leave_size (go_on ss) (choices_size w.site cs last)) (choices_size w.site cs last)) refl p q

-- an alternative of a CASE: its labels, and its actions
pub cased : (w : Standing) (labels : List Bounds) (ss : StatementNodes) (rest behind : ℕ) {x y z : Code}
    → Appends (labels_code w.free labels) (labels_size labels) x y
    → AppendsAt (chosen (statements_code w ss) (statements_size w.site ss) (go_on ss) rest behind) (1 + statements_size w.site ss + leave_size (go_on ss) rest) (λ at. statements_rows w.site ss (at + 1)) y z
    → AppendsAt (λ at. labels_code w.free labels ++ chosen (statements_code w ss) (statements_size w.site ss) (go_on ss) rest behind (at + labels_size labels))
    (labels_size labels + suc (statements_size w.site ss) + leave_size (go_on ss) rest) (λ at. statements_rows w.site ss (at + labels_size labels + 1)) x z
cased w labels ss rest behind p q = told_as _ _ _ refl (with_one_more (labels_size labels) (statements_size w.site ss) (leave_size (go_on ss) rest)) refl (then_at (without_rows (λ at. labels_code w.free labels) p) q)

pub next_case : {all : CodeAt} {n : ℕ} {rows : RowsAt} (w : Standing) (labels : List Bounds) (ss : StatementNodes) (cs : CaseNodes) (behind last : ℕ) (rest : CodeAt) (rest_rows : RowsAt) {x y z : Code}
    → StillTo all n rows (cases_code w (more_cases labels ss cs) behind last rest) (cases_size w.site (more_cases labels ss cs) last) (cases_rows w.site (more_cases labels ss cs) last rest_rows) x y
    → AppendsAt (λ at. labels_code w.free labels ++ chosen (statements_code w ss) (statements_size w.site ss) (go_on ss) (cases_size w.site cs last) behind (at + labels_size labels))
    (labels_size labels + suc (statements_size w.site ss) + leave_size (go_on ss) (cases_size w.site cs last)) (λ at. statements_rows w.site ss (at + labels_size labels + 1)) y z
    → StillTo all n rows (cases_code w cs behind last rest) (cases_size w.site cs last) (cases_rows w.site cs last rest_rows) x z
next_case w labels ss cs behind last rest rest_rows {x} {y} p q =
    step (sym (append_assoc (labels_code w.free labels)
    (chosen (statements_code w ss) (statements_size w.site ss) (go_on ss) (cases_size w.site cs last) behind (length y.instrs + labels_size labels))
    (cases_code w cs behind last rest (next_place (length y.instrs) (labels_size labels + suc (statements_size w.site ss)) (go_on ss) (cases_size w.site cs last))))) (joined_sum (labels_size labels + suc (statements_size w.site ss)) (leave_size (go_on ss) (cases_size w.site cs last)) (cases_size w.site cs last)) refl p q

-- an alternative of a wait: the test of its number, and its actions
pub waited : (w : Standing) (kept k : ℕ) (ss : StatementNodes) (rest behind : ℕ) {x y z : Code}
    → Appends (is_chosen_code kept k) 3 x y
    → AppendsAt (chosen (statements_code w ss) (statements_size w.site ss) (go_on ss) rest behind) (1 + statements_size w.site ss + leave_size (go_on ss) rest) (λ at. statements_rows w.site ss (at + 1)) y z
    → AppendsAt (λ at. is_chosen_code kept k ++ chosen (statements_code w ss) (statements_size w.site ss) (go_on ss) rest behind (at + 3))
    (3 + suc (statements_size w.site ss) + leave_size (go_on ss) rest) (λ at. statements_rows w.site ss (at + 3 + 1)) x z
waited w kept k ss rest behind p q = told_as _ _ _ refl (with_one_more 3 (statements_size w.site ss) (leave_size (go_on ss) rest)) refl (then_at (without_rows (λ at. is_chosen_code kept k) p) q)

pub next_delay : {all : CodeAt} {n : ℕ} {rows : RowsAt} (w : Standing) (kept k : ℕ) (es : List ℕ) (ss : StatementNodes) (ds : DelayNodes) (behind : ℕ) {x y z : Code}
    → StillTo all n rows (delays_code w kept k (more_delays es ss ds) behind) (delays_size w.site (more_delays es ss ds)) (delays_rows w.site (more_delays es ss ds)) x y
    → AppendsAt (λ at. is_chosen_code kept k ++ chosen (statements_code w ss) (statements_size w.site ss) (go_on ss) (delays_size w.site ds) behind (at + 3))
    (3 + suc (statements_size w.site ss) + leave_size (go_on ss) (delays_size w.site ds)) (λ at. statements_rows w.site ss (at + 3 + 1)) y z
    → StillTo all n rows (delays_code w kept (suc k) ds behind) (delays_size w.site ds) (delays_rows w.site ds) x z
next_delay w kept k es ss ds behind {x} {y} p q =
    step (sym (append_assoc (is_chosen_code kept k)
    (chosen (statements_code w ss) (statements_size w.site ss) (go_on ss) (delays_size w.site ds) behind (length y.instrs + 3))
    (delays_code w kept (suc k) ds behind (next_place (length y.instrs) (3 + suc (statements_size w.site ss)) (go_on ss) (delays_size w.site ds))))) (joined_sum (3 + suc (statements_size w.site ss)) (leave_size (go_on ss) (delays_size w.site ds)) (delays_size w.site ds)) refl p q

pub next_receive : {all : CodeAt} {n : ℕ} {rows : RowsAt} (w : Standing) (kept k source : ℕ) (ks : List ℕ) (ss : StatementNodes) (rs : ReceiveNodes) (behind last : ℕ) (rest : CodeAt) (rest_rows : RowsAt) {x y z : Code}
    → StillTo all n rows (receives_code w kept k (more_receives source ks ss rs) behind last rest) (receives_size w.site (more_receives source ks ss rs) last) (receives_rows w.site (more_receives source ks ss rs) last rest_rows) x y
    → AppendsAt (λ at. is_chosen_code kept k ++ chosen (statements_code w ss) (statements_size w.site ss) (go_on ss) (receives_size w.site rs last) behind (at + 3))
    (3 + suc (statements_size w.site ss) + leave_size (go_on ss) (receives_size w.site rs last)) (λ at. statements_rows w.site ss (at + 3 + 1)) y z
    → StillTo all n rows (receives_code w kept (suc k) rs behind last rest) (receives_size w.site rs last) (receives_rows w.site rs last rest_rows) x z
next_receive w kept k source ks ss rs behind last rest rest_rows {x} {y} p q =
    step (sym (append_assoc (is_chosen_code kept k)
    (chosen (statements_code w ss) (statements_size w.site ss) (go_on ss) (receives_size w.site rs last) behind (length y.instrs + 3))
    (receives_code w kept (suc k) rs behind last rest (next_place (length y.instrs) (3 + suc (statements_size w.site ss)) (go_on ss) (receives_size w.site rs last))))) (joined_sum (3 + suc (statements_size w.site ss)) (leave_size (go_on ss) (receives_size w.site rs last)) (receives_size w.site rs last)) refl p q
