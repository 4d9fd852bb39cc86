-- What modules, regions and statements append at their places, part after part.
use Rattle.std.proofs.Common.{◌≡◌, ℕ, suc, ◌+◌, ◌*◌, ◌-◌, ◌<◌, ◌≤◌, Bool, true, false, List, [], ◌∷◌, ◌++◌, Option, Some, None, length, get_or, take, drop, refl, sym, ap, subst, ◌∙◌, arith, append_assoc, length-append}
use Rattle.std.specs.Prelude.{if◌then◌else◌}
use Rattle.std.specs.declared.alloc.Global.{Global}
use Rattle.std.specs.declared.boxed.Box.{Box}
use Rattle.std.proofs.lemmas.Bool.{false≢true}
use Rattle.std.proofs.lemmas.List.{append-nil, at_drop_all, take_all}
use Rattle.code_types.specs.declared.code.Code.{Code}
use Rattle.code_types.specs.declared.code.Handler.{Handler}
use Rattle.code_types.specs.declared.instr.Instr.{Instr}
use Rattle.code_types.specs.declared.instr.Instr.TheVariants as i
use Rattle.checked_program.specs.declared.statement.Action.{Action}
use Rattle.checked_program.specs.declared.statement.Action.TheVariants as actions
use Rattle.checked_program.specs.declared.statement.Handler.{Handler as CheckedHandler}
use Rattle.checked_program.specs.declared.statement.Statement.{Statement, out-Statement}
use Rattle.program_trees.specs.StatementTree.{StatementTree, statement, ActionTree, do_nothing, declare, set_lowest, module_at, region_at, assign, update, perform, drop_routine, evaluate, put_int, put_text, put_line, exit_from, return_with, set_result, assert_that, cause, stop, start_of, delay, continue_at, send, if_then, case_of, do_loop, begin_end, delay_case, receive_buffers, receive_signals, StatementNodes, no_statements, more_statements, HandlerNode, no_handler, handler, statement_tree, action_tree, handler_tree, statements_of, handler_of}
use Rattle.code_scheme.specs.Pieces.{capped}
use Rattle.code_scheme.specs.StatementSite.{Site, Standing}
use Rattle.code_scheme.specs.StatementGoing.{go_on, goes_on, is_modulion, leave_size}
use Rattle.code_scheme.specs.StatementSize.{statements_size, statement_size, handler_size}
use Rattle.code_scheme.specs.StatementCode.{CodeAt, statement_code, statements_code, handler_code}
use Rattle.code_scheme.specs.StatementRows.{RowsAt, statement_rows, statements_rows, handler_rows}
use Rattle.code_scheme.specs.BodyItems.{raised_in, raise_again_code, raise_again_rows, initialising_code, releasing_code, items_code, items_rows, item_code, item_rows, item_action_code, item_action_rows, region_code, region_rows}
use Rattle.expr_gen.specs.declared.building.Draft.{Draft}
use Rattle.expr_gen.specs.Putting.{Puts}
use Rattle.expr_gen.proofs.Items.{item_at}
use Rattle.stmt_gen.specs.Appending.{AppendsAt, AppendsBoth}
use Rattle.stmt_gen.specs.Holding.{site_around, PutsStatements, PutsStatement, PutsHandler}
use Rattle.stmt_gen.specs.Modulions.{PutsReleases, instrs_between, PutsItems, PutsItem, PutsModule, PutsRegion, PutsSomeHandler}
use Rattle.action_gen.specs.Putting.{standing_of}
use Rattle.action_gen.specs.declared.around.Around.{Around}
use Rattle.stmt_gen.proofs.Placing.{nothing_at, then_at, told_as}
use Rattle.action_gen.proofs.Views.{action_tree-Module, action_tree-Region, statement_tree-out}

-- ---- items one behind the other

pub record ItemsTo (w : Standing) (all left : StatementNodes) (old now : Code) : Type 0 where
  pub instrs : now.instrs ++ items_code w left (length now.instrs) ≡ old.instrs ++ items_code w all (length old.instrs)
  pub handlers : now.handlers ++ items_rows w left (length now.instrs) ≡ old.handlers ++ items_rows w all (length old.instrs)
  pub bodies : now.bodies ≡ old.bodies

abbrev AtItem : Standing → StatementTree → Code → Code → Type 0
AtItem w t x y = AppendsBoth (item_code w t (length x.instrs)) (item_rows w t (length x.instrs)) x y

abbrev AtItems : Standing → StatementNodes → Code → Code → Type 0
AtItems w ss x y = AppendsBoth (items_code w ss (length x.instrs)) (items_rows w ss (length x.instrs)) x y

pub record ItemsLeft (around : Around) (items : List Statement) (k : ℕ) (old now : Draft) : Type 0 where
  pub left : ItemsTo (standing_of around) (statements_of items) (statements_of (drop k items)) old.code now.code

pub items_begin : (around : Around) (items : List Statement) (x : Draft) → ItemsLeft around items 0 x x
items_begin around items x = record { left = record { instrs = refl; handlers = refl; bodies = refl } }

items_at : (xs : List Statement) (k : ℕ) (x : Statement) → k < length xs → x ≡ get_or xs k x → statements_of (drop k xs) ≡ more_statements (statement_tree x) (statements_of (drop (k + 1) xs))
items_at xs k x h e = ap statements_of (item_at xs k x h e)

length_after : {made : List Instr} {rows : List Handler} {x y : Code} → AppendsBoth made rows x y → length y.instrs ≡ length x.instrs + length made
length_after {made} {rows} {x} p = ap (λ (is : List Instr). length is) p.instrs ∙ length-append x.instrs made

item_step : (w : Standing) (all ss : StatementNodes) (s : StatementTree) {x y z : Code} → goes_on s ≡ true → ItemsTo w all (more_statements s ss) x y → AtItem w s y z → ItemsTo w all ss x z
item_step w all ss s {x} {y} {z} goes p q =
    let code : items_code w (more_statements s ss) (length y.instrs) ≡ item_code w s (length y.instrs) ++ items_code w ss (length y.instrs + length (item_code w s (length y.instrs))) =
    ap (λ (g : Bool). item_code w s (length y.instrs) ++ (if g then items_code w ss (length y.instrs + length (item_code w s (length y.instrs))) else [])) goes in
    let rows : items_rows w (more_statements s ss) (length y.instrs) ≡ item_rows w s (length y.instrs) ++ items_rows w ss (length y.instrs + length (item_code w s (length y.instrs))) =
    ap (λ (g : Bool). item_rows w s (length y.instrs) ++ (if g then items_rows w ss (length y.instrs + length (item_code w s (length y.instrs))) else [])) goes in
    record {
      instrs = ap (λ (k : ℕ). z.instrs ++ items_code w ss k) (length_after q) ∙ ap (λ (is : List Instr). is ++ items_code w ss (length y.instrs + length (item_code w s (length y.instrs)))) q.instrs
          ∙ append_assoc y.instrs (item_code w s (length y.instrs)) (items_code w ss (length y.instrs + length (item_code w s (length y.instrs)))) ∙ ap (λ (is : List Instr). y.instrs ++ is) (sym code) ∙ p.instrs;
      handlers = ap (λ (k : ℕ). z.handlers ++ items_rows w ss k) (length_after q) ∙ ap (λ (rs : List Handler). rs ++ items_rows w ss (length y.instrs + length (item_code w s (length y.instrs)))) q.handlers
          ∙ append_assoc y.handlers (item_rows w s (length y.instrs)) (items_rows w ss (length y.instrs + length (item_code w s (length y.instrs)))) ∙ ap (λ (rs : List Handler). y.handlers ++ rs) (sym rows) ∙ p.handlers;
      bodies = q.bodies ∙ p.bodies;
    }

item_last : (w : Standing) (all ss : StatementNodes) (s : StatementTree) {x y z : Code} → goes_on s ≡ false → ItemsTo w all (more_statements s ss) x y → AtItem w s y z → AtItems w all x z
item_last w all ss s {x} {y} {z} goes p q =
    let code : items_code w (more_statements s ss) (length y.instrs) ≡ item_code w s (length y.instrs) ++ [] =
    ap (λ (g : Bool). item_code w s (length y.instrs) ++ (if g then items_code w ss (length y.instrs + length (item_code w s (length y.instrs))) else [])) goes in
    let rows : items_rows w (more_statements s ss) (length y.instrs) ≡ item_rows w s (length y.instrs) ++ [] =
    ap (λ (g : Bool). item_rows w s (length y.instrs) ++ (if g then items_rows w ss (length y.instrs + length (item_code w s (length y.instrs))) else [])) goes in
    record {
      instrs = q.instrs ∙ ap (λ (is : List Instr). y.instrs ++ is) (sym (append-nil _) ∙ sym code) ∙ p.instrs;
      handlers = q.handlers ∙ ap (λ (rs : List Handler). y.handlers ++ rs) (sym (append-nil _) ∙ sym rows) ∙ p.handlers;
      bodies = q.bodies ∙ p.bodies;
    }

pub items_turn : (around : Around) (items : List Statement) (k : ℕ) (it : Statement) {x y z : Draft} → k < length items → it ≡ get_or items k it → goes_on (statement_tree it) ≡ true
    → ItemsLeft around items k x y → PutsItem around it y z → ItemsLeft around items (k + 1) x z
items_turn around items k it {x} {y} h e goes p q = record {
  left = item_step (standing_of around) (statements_of items) (statements_of (drop (k + 1) items)) (statement_tree it) goes
      (subst (λ (t : StatementNodes). ItemsTo (standing_of around) (statements_of items) t x.code y.code) (items_at items k it h e) p.left) q.puts;
}

pub items_stop : (around : Around) (items : List Statement) (k : ℕ) (it : Statement) {x y z : Draft} → k < length items → it ≡ get_or items k it → goes_on (statement_tree it) ≡ false
    → ItemsLeft around items k x y → PutsItem around it y z → PutsItems around items x z
items_stop around items k it {x} {y} h e goes p q = record {
  puts = item_last (standing_of around) (statements_of items) (statements_of (drop (k + 1) items)) (statement_tree it) goes
      (subst (λ (t : StatementNodes). ItemsTo (standing_of around) (statements_of items) t x.code y.code) (items_at items k it h e) p.left) q.puts;
}

pub items_end : (around : Around) (items : List Statement) (k : ℕ) {x y : Draft} → length items ≤ k → ItemsLeft around items k x y → PutsItems around items x y
items_end around items k {x} {y} h p =
    let last = subst (λ (t : StatementNodes). ItemsTo (standing_of around) (statements_of items) t x.code y.code) (at_drop_all statements_of items k h) p.left in
    record { puts = record { instrs = sym (append-nil y.code.instrs) ∙ last.instrs; handlers = sym (append-nil y.code.handlers) ∙ last.handlers; bodies = last.bodies } }

abbrev statement_size_of : Around → StatementTree → ℕ
statement_size_of around t = statement_size (site_around around) t

-- ---- an item

-- what is no modulion is a statement
statement_item : (w : Standing) (l : Bool) (a : ActionTree) (h : HandlerNode) (at : ℕ) → is_modulion a ≡ false → item_action_code w l a h at ≡ statement_code w (statement l a h) at
statement_item w l do_nothing h at e = refl
statement_item w l (declare names r) h at e = refl
statement_item w l (set_lowest locals xs) h at e = refl
statement_item w l (module_at ss) h at e = absurd (false≢true (sym e))
statement_item w l (region_at r ss) h at e = absurd (false≢true (sym e))
statement_item w l (assign x r) h at e = refl
statement_item w l (update x o y bounds) h at e = refl
statement_item w l (perform c) h at e = refl
statement_item w l (drop_routine r x) h at e = refl
statement_item w l (evaluate x) h at e = refl
statement_item w l (put_int x) h at e = refl
statement_item w l (put_text x) h at e = refl
statement_item w l put_line h at e = refl
statement_item w l (exit_from k) h at e = refl
statement_item w l (return_with r) h at e = refl
statement_item w l (set_result r) h at e = refl
statement_item w l (assert_that x) h at e = refl
statement_item w l (cause x) h at e = refl
statement_item w l stop h at e = refl
statement_item w l (start_of t) h at e = refl
statement_item w l (delay x priority) h at e = refl
statement_item w l (continue_at x) h at e = refl
statement_item w l (send sent priority) h at e = refl
statement_item w l (if_then cs ss) h at e = refl
statement_item w l (case_of x cs o) h at e = refl
statement_item w l (do_loop c ss) h at e = refl
statement_item w l (begin_end ss) h at e = refl
statement_item w l (delay_case set priority ds) h at e = refl
statement_item w l (receive_buffers set rs o) h at e = refl
statement_item w l (receive_signals set rs o) h at e = refl

statement_item_rows : (w : Standing) (l : Bool) (a : ActionTree) (h : HandlerNode) (at : ℕ) → is_modulion a ≡ false → item_action_rows w l a h at ≡ statement_rows w.site (statement l a h) at
statement_item_rows w l do_nothing h at e = refl
statement_item_rows w l (declare names r) h at e = refl
statement_item_rows w l (set_lowest locals xs) h at e = refl
statement_item_rows w l (module_at ss) h at e = absurd (false≢true (sym e))
statement_item_rows w l (region_at r ss) h at e = absurd (false≢true (sym e))
statement_item_rows w l (assign x r) h at e = refl
statement_item_rows w l (update x o y bounds) h at e = refl
statement_item_rows w l (perform c) h at e = refl
statement_item_rows w l (drop_routine r x) h at e = refl
statement_item_rows w l (evaluate x) h at e = refl
statement_item_rows w l (put_int x) h at e = refl
statement_item_rows w l (put_text x) h at e = refl
statement_item_rows w l put_line h at e = refl
statement_item_rows w l (exit_from k) h at e = refl
statement_item_rows w l (return_with r) h at e = refl
statement_item_rows w l (set_result r) h at e = refl
statement_item_rows w l (assert_that x) h at e = refl
statement_item_rows w l (cause x) h at e = refl
statement_item_rows w l stop h at e = refl
statement_item_rows w l (start_of t) h at e = refl
statement_item_rows w l (delay x priority) h at e = refl
statement_item_rows w l (continue_at x) h at e = refl
statement_item_rows w l (send sent priority) h at e = refl
statement_item_rows w l (if_then cs ss) h at e = refl
statement_item_rows w l (case_of x cs o) h at e = refl
statement_item_rows w l (do_loop c ss) h at e = refl
statement_item_rows w l (begin_end ss) h at e = refl
statement_item_rows w l (delay_case set priority ds) h at e = refl
statement_item_rows w l (receive_buffers set rs o) h at e = refl
statement_item_rows w l (receive_signals set rs o) h at e = refl

pub statement_told : (around : Around) (s : Statement) (a : Action) {x y : Draft} → a ≡ (out-Statement s).action.value → is_modulion (action_tree a) ≡ false → PutsStatement around s x y → PutsItem around s x y
statement_told around s a {x} {y} a_is none p =
    let tree = statement_tree-out s ∙ ap (λ (v : Action). statement (out-Statement s).labelled (action_tree v) (handler_of (out-Statement s).handler)) (sym a_is) in
    let own = subst (λ (t : StatementTree). AppendsAt (statement_code (standing_of around) t) (statement_size_of around t) (statement_rows (site_around around) t) x.code y.code) tree p.puts in
    record {
      puts = subst (λ (t : StatementTree). AtItem (standing_of around) t x.code y.code) (sym tree) (record {
        instrs = own.instrs ∙ ap (λ (is : List Instr). x.code.instrs ++ is) (sym (statement_item (standing_of around) (out-Statement s).labelled (action_tree a) (handler_of (out-Statement s).handler) (length x.code.instrs) none));
        handlers = own.handlers ∙ ap (λ (rs : List Handler). x.code.handlers ++ rs) (sym (statement_item_rows (standing_of around) (out-Statement s).labelled (action_tree a) (handler_of (out-Statement s).handler) (length x.code.instrs) none));
        bodies = own.bodies;
      });
    }

pub module_told : (around : Around) (s : Statement) (a : Action) (own items : List Statement) (h : Option (Box CheckedHandler Global)) {x y : Draft} → a ≡ (out-Statement s).action.value → a ≡ actions.Module own → items ≡ own → h ≡ (out-Statement s).handler
    → PutsModule around items h x y → PutsItem around s x y
module_told around s a own items h {x} {y} a_is is items_are h_is p =
    let action : action_tree a ≡ module_at (statements_of items) = ap action_tree is ∙ action_tree-Module own ∙ ap (λ (v : List Statement). module_at (statements_of v)) (sym items_are) in
    let tree : statement_tree s ≡ statement (out-Statement s).labelled (module_at (statements_of items)) (handler_of h) =
    statement_tree-out s ∙ ap (λ (v : Action). statement (out-Statement s).labelled (action_tree v) (handler_of (out-Statement s).handler)) (sym a_is)
    ∙ ap (λ (t : ActionTree). statement (out-Statement s).labelled t (handler_of (out-Statement s).handler)) action
    ∙ ap (λ (v : Option (Box CheckedHandler Global)). statement (out-Statement s).labelled (module_at (statements_of items)) (handler_of v)) (sym h_is) in
    record { puts = subst (λ (t : StatementTree). AtItem (standing_of around) t x.code y.code) (sym tree) p.puts }

pub region_told : (around : Around) (s : Statement) (a : Action) (region : ℕ) (own ss : List Statement) (h : Option (Box CheckedHandler Global)) {x y : Draft} → a ≡ (out-Statement s).action.value → a ≡ actions.Region region own → ss ≡ own → h ≡ (out-Statement s).handler
    → PutsRegion around region ss h x y → PutsItem around s x y
region_told around s a region own ss h {x} {y} a_is is ss_are h_is p =
    let action : action_tree a ≡ region_at region (statements_of ss) = ap action_tree is ∙ action_tree-Region region own ∙ ap (λ (v : List Statement). region_at region (statements_of v)) (sym ss_are) in
    let tree : statement_tree s ≡ statement (out-Statement s).labelled (region_at region (statements_of ss)) (handler_of h) =
    statement_tree-out s ∙ ap (λ (v : Action). statement (out-Statement s).labelled (action_tree v) (handler_of (out-Statement s).handler)) (sym a_is)
    ∙ ap (λ (t : ActionTree). statement (out-Statement s).labelled t (handler_of (out-Statement s).handler)) action
    ∙ ap (λ (v : Option (Box CheckedHandler Global)). statement (out-Statement s).labelled (region_at region (statements_of ss)) (handler_of v)) (sym h_is) in
    record { puts = subst (λ (t : StatementTree). AtItem (standing_of around) t x.code y.code) (sym tree) p.puts }

-- ---- a module

pub handler_there : (around : Around) (o : Option (Box CheckedHandler Global)) (boxed : Box CheckedHandler Global) (h : CheckedHandler) (from : ℕ) (comes : Bool) {x y : Draft} → o ≡ Some boxed → h ≡ boxed.value
    → PutsHandler around h from comes x y → PutsSomeHandler around o from comes x y
handler_there around o boxed h from comes {x} {y} some is p =
    let tree : handler_of o ≡ handler_tree h = ap (λ (v : Option (Box CheckedHandler Global)). handler_of v) some ∙ ap (λ (v : CheckedHandler). handler_tree v) (sym is) in
    record {
      puts = subst (λ (t : HandlerNode). AppendsAt (handler_code (standing_of around) t comes) (leave_size comes (handler_size (site_around around) t) + handler_size (site_around around) t) (handler_rows (site_around around) t comes from) x.code y.code)
          (sym tree) p.puts;
    }

leaves_no : (g : Bool) → leave_size g 0 + 0 ≡ 0
leaves_no true = refl
leaves_no false = refl

pub no_handler_there : (around : Around) (o : Option (Box CheckedHandler Global)) (from : ℕ) (comes : Bool) (x : Draft) → o ≡ None → PutsSomeHandler around o from comes x x
no_handler_there around o from comes x none =
    let tree : handler_of o ≡ no_handler = ap (λ (v : Option (Box CheckedHandler Global)). handler_of v) none in
    record {
      puts = subst (λ (t : HandlerNode). AppendsAt (handler_code (standing_of around) t comes) (leave_size comes (handler_size (site_around around) t) + handler_size (site_around around) t) (handler_rows (site_around around) t comes from) x.code x.code)
          (sym tree) (told_as _ _ _ refl (sym (leaves_no comes)) refl (nothing_at x.code));
    }

both_then : (made : List Instr) (rows : List Handler) {b : CodeAt} {n : ℕ} {s : RowsAt} {x y z : Code} → AppendsBoth made rows x y → AppendsAt b n s y z
    → AppendsBoth (made ++ b (length x.instrs + length made)) (rows ++ s (length x.instrs + length made)) x z
both_then made rows {b} {n} {s} {x} {y} {z} p q = record {
  instrs = q.instrs ∙ ap (λ (k : ℕ). y.instrs ++ b k) (length_after p) ∙ ap (λ (is : List Instr). is ++ b (length x.instrs + length made)) p.instrs ∙ append_assoc x.instrs made (b (length x.instrs + length made));
  handlers = q.handlers ∙ ap (λ (k : ℕ). y.handlers ++ s k) (length_after p) ∙ ap (λ (rs : List Handler). rs ++ s (length x.instrs + length made)) p.handlers ∙ append_assoc x.handlers rows (s (length x.instrs + length made));
  bodies = q.bodies ∙ p.bodies;
}

pub module_put : (around : Around) (items : List Statement) (h : Option (Box CheckedHandler Global)) (from : ℕ) (comes : Bool) {x y z : Draft} → from ≡ length x.code.instrs → comes ≡ go_on (statements_of items)
    → PutsItems around items x y → PutsSomeHandler around h from comes y z → PutsModule around items h x z
module_put around items h from comes {x} {y} {z} there goes p q =
    let q1 = subst (λ (g : Bool). AppendsAt (handler_code (standing_of around) (handler_of h) g) (leave_size g (handler_size (site_around around) (handler_of h)) + handler_size (site_around around) (handler_of h)) (handler_rows (site_around around) (handler_of h) g from) y.code z.code) goes q.puts in
    let q2 = subst (λ (k : ℕ). AppendsAt (handler_code (standing_of around) (handler_of h) (go_on (statements_of items))) (leave_size (go_on (statements_of items)) (handler_size (site_around around) (handler_of h)) + handler_size (site_around around) (handler_of h)) (handler_rows (site_around around) (handler_of h) (go_on (statements_of items)) k) y.code z.code) there q1 in
    record { puts = both_then (items_code (standing_of around) (statements_of items) (length x.code.instrs)) (items_rows (standing_of around) (statements_of items) (length x.code.instrs)) p.puts q2 }

-- ---- a region

drop_before : (before inside : List Instr) → drop (length before) (before ++ inside) ≡ inside
drop_before [] inside = refl
drop_before (x ∷ xs) inside = drop_before xs inside

rows_joined : (x y z a b c : List Handler) → y ≡ x ++ a → z ≡ y ++ b → z ++ c ≡ x ++ (a ++ (b ++ c))
rows_joined x y z a b c e f = ap (λ (rs : List Handler). rs ++ c) f ∙ append_assoc y b c ∙ ap (λ (rs : List Handler). rs ++ (b ++ c)) e ∙ append_assoc x a (b ++ c)

-- the instructions between two places of which some stand before the first
between_told : (before inside : List Instr) (from until : ℕ) → from ≡ length before → until ≡ length (before ++ inside) → take (until - from) (drop from (before ++ inside)) ≡ inside
between_told before inside from until e f =
    let n : until - from ≡ length inside = omega (arith, e, f, length-append before inside) in
    ap (λ (k : ℕ). take (until - from) (drop k (before ++ inside))) e ∙ ap (λ (is : List Instr). take (until - from) is) (drop_before before inside)
    ∙ take_all (until - from) inside (omega (arith, n))

region_node : (w : Standing) (r from until behind : ℕ) (ss : StatementNodes) (h : HandlerNode) (raised : List ℕ) {x y1 y2 y3 y4 y5 z : Code}
    → from ≡ length y1.instrs → until ≡ length y3.instrs → raised ≡ raised_in w.site.program (take (until - from) (drop from y3.instrs)) → behind ≡ length y3.instrs + (2 * length raised + 2)
    → Puts (i.Enter r) x y1
    → AppendsAt (statements_code w ss) (statements_size w.site ss) (statements_rows w.site ss) y1 y2
    → AppendsAt (handler_code w h true) (leave_size true (handler_size w.site h) + handler_size w.site h) (handler_rows w.site h true from) y2 y3
    → Puts (i.Leave r) y3 y4 → Puts (i.Jump behind) y4 y5
    → AppendsBoth (raise_again_code r raised) (raise_again_rows from until raised (length y5.instrs)) y5 z
    → AppendsBoth (region_code w r ss h (length x.instrs)) (region_rows w r ss h (length x.instrs)) x z
region_node w r from until behind ss h raised {x} {y1} {y2} {y3} {y4} {y5} {z} from_is until_is raised_is behind_is enter p q leave jump again =
    let at1 : length y1.instrs ≡ length x.instrs + 1 = enter.length in
    let first : y2.instrs ≡ y1.instrs ++ statements_code w ss (length x.instrs + 1) = p.instrs ∙ ap (λ (k : ℕ). y1.instrs ++ statements_code w ss k) at1 in
    let at2 : length y2.instrs ≡ length x.instrs + 1 + statements_size w.site ss = omega (arith, at1, p.length) in
    let all : y3.instrs ≡ y1.instrs ++ initialising_code w ss h (length x.instrs + 1) = q.instrs ∙ ap (λ (k : ℕ). y2.instrs ++ handler_code w h true k) at2
    ∙ ap (λ (is : List Instr). is ++ handler_code w h true (length x.instrs + 1 + statements_size w.site ss)) first
    ∙ append_assoc y1.instrs (statements_code w ss (length x.instrs + 1)) (handler_code w h true (length x.instrs + 1 + statements_size w.site ss)) in
    let at3 : length y3.instrs ≡ length x.instrs + 1 + length (initialising_code w ss h (length x.instrs + 1)) =
    ap (λ (is : List Instr). length is) all ∙ length-append y1.instrs (initialising_code w ss h (length x.instrs + 1)) ∙ ap (λ (k : ℕ). k + length (initialising_code w ss h (length x.instrs + 1))) at1 in
    let between : take (until - from) (drop from y3.instrs) ≡ initialising_code w ss h (length x.instrs + 1) =
    ap (λ (is : List Instr). take (until - from) (drop from is)) all
    ∙ between_told y1.instrs (initialising_code w ss h (length x.instrs + 1)) from until from_is (until_is ∙ ap (λ (is : List Instr). length is) all) in
    let found : raised ≡ raised_in w.site.program (initialising_code w ss h (length x.instrs + 1)) = raised_is ∙ ap (λ (is : List Instr). raised_in w.site.program is) between in
    let from_at : from ≡ length x.instrs + 1 = from_is ∙ at1 in
    let until_at : until ≡ length x.instrs + 1 + length (initialising_code w ss h (length x.instrs + 1)) = until_is ∙ at3 in
    let to : behind ≡ length x.instrs + 1 + length (initialising_code w ss h (length x.instrs + 1)) + (2 * length (raised_in w.site.program (initialising_code w ss h (length x.instrs + 1))) + 2) =
    behind_is ∙ ap (λ (xs : List ℕ). length y3.instrs + (2 * length xs + 2)) found ∙ ap (λ (k : ℕ). k + (2 * length (raised_in w.site.program (initialising_code w ss h (length x.instrs + 1))) + 2)) at3 in
    let at5 : length y5.instrs ≡ length x.instrs + 1 + length (initialising_code w ss h (length x.instrs + 1)) + 2 = omega (arith, at3, leave.length, jump.length) in
    let last : z.instrs ≡ y3.instrs ++ (i.Leave r ∷ i.Jump behind ∷ raise_again_code r raised) =
    again.instrs ∙ ap (λ (is : List Instr). is ++ raise_again_code r raised) (jump.instrs ∙ ap (λ (is : List Instr). is ++ i.Jump behind ∷ []) leave.instrs ∙ append_assoc y3.instrs (i.Leave r ∷ []) (i.Jump behind ∷ []))
    ∙ append_assoc y3.instrs (i.Leave r ∷ i.Jump behind ∷ []) (raise_again_code r raised) in
    let rows2 : y2.handlers ≡ x.handlers ++ statements_rows w.site ss (length x.instrs + 1) = p.handlers ∙ ap (λ (k : ℕ). y1.handlers ++ statements_rows w.site ss k) at1 ∙ ap (λ (rs : List Handler). rs ++ statements_rows w.site ss (length x.instrs + 1)) enter.handlers in
    let rows3 : y3.handlers ≡ y2.handlers ++ handler_rows w.site h true (length x.instrs + 1) (length x.instrs + 1 + statements_size w.site ss) =
    q.handlers ∙ ap (λ (k : ℕ). y2.handlers ++ handler_rows w.site h true from k) at2 ∙ ap (λ (k : ℕ). y2.handlers ++ handler_rows w.site h true k (length x.instrs + 1 + statements_size w.site ss)) from_at in
    let rows5 : z.handlers ≡ y3.handlers ++ raise_again_rows (length x.instrs + 1) (length x.instrs + 1 + length (initialising_code w ss h (length x.instrs + 1))) (raised_in w.site.program (initialising_code w ss h (length x.instrs + 1)))
    (length x.instrs + 1 + length (initialising_code w ss h (length x.instrs + 1)) + 2) =
    again.handlers ∙ ap (λ (rs : List Handler). rs ++ raise_again_rows from until raised (length y5.instrs)) (jump.handlers ∙ leave.handlers)
    ∙ ap (λ (k : ℕ). y3.handlers ++ raise_again_rows from until raised k) at5
    ∙ ap (λ (k : ℕ). y3.handlers ++ raise_again_rows k until raised (length x.instrs + 1 + length (initialising_code w ss h (length x.instrs + 1)) + 2)) from_at
    ∙ ap (λ (k : ℕ). y3.handlers ++ raise_again_rows (length x.instrs + 1) k raised (length x.instrs + 1 + length (initialising_code w ss h (length x.instrs + 1)) + 2)) until_at
    ∙ ap (λ (xs : List ℕ). y3.handlers ++ raise_again_rows (length x.instrs + 1) (length x.instrs + 1 + length (initialising_code w ss h (length x.instrs + 1))) xs (length x.instrs + 1 + length (initialising_code w ss h (length x.instrs + 1)) + 2)) found in
    record {
      instrs = last ∙ ap (λ (k : ℕ). y3.instrs ++ (i.Leave r ∷ i.Jump k ∷ raise_again_code r raised)) to
          ∙ ap (λ (xs : List ℕ). y3.instrs ++ (i.Leave r ∷ i.Jump (length x.instrs + 1 + length (initialising_code w ss h (length x.instrs + 1)) + (2 * length (raised_in w.site.program (initialising_code w ss h (length x.instrs + 1))) + 2)) ∷ raise_again_code r xs)) found
          ∙ ap (λ (is : List Instr). is ++ releasing_code w.site.program r (initialising_code w ss h (length x.instrs + 1)) (length x.instrs + 1 + length (initialising_code w ss h (length x.instrs + 1))))
          (all ∙ ap (λ (is : List Instr). is ++ initialising_code w ss h (length x.instrs + 1)) enter.instrs ∙ append_assoc x.instrs (i.Enter r ∷ []) (initialising_code w ss h (length x.instrs + 1)))
          ∙ append_assoc x.instrs (i.Enter r ∷ initialising_code w ss h (length x.instrs + 1)) (releasing_code w.site.program r (initialising_code w ss h (length x.instrs + 1)) (length x.instrs + 1 + length (initialising_code w ss h (length x.instrs + 1))));
      handlers = rows5 ∙ rows_joined x.handlers y2.handlers y3.handlers _ _ _ rows2 rows3;
      bodies = again.bodies ∙ jump.bodies ∙ leave.bodies ∙ q.bodies ∙ p.bodies ∙ enter.bodies;
    }

pub region_put : (around : Around) (r from until behind : ℕ) (ss : List Statement) (h : Option (Box CheckedHandler Global)) (raised : List ℕ) (y4 y5 : Draft) {x y1 y2 y3 z : Draft}
    → from ≡ length y1.code.instrs → until ≡ length y3.code.instrs → raised ≡ raised_in (site_around around).program (instrs_between from until y3) → behind ≡ length y3.code.instrs + (2 * length raised + 2)
    → Puts (i.Enter r) x.code y1.code → PutsStatements around ss y1 y2 → PutsSomeHandler around h from true y2 y3 → Puts (i.Leave r) y3.code y4.code → Puts (i.Jump behind) y4.code y5.code
    → PutsReleases r raised from until y5 z → PutsRegion around r ss h x z
region_put around r from until behind ss h raised y4 y5 a b c d enter p q leave jump again = record {
  puts = region_node (standing_of around) r from until behind (statements_of ss) (handler_of h) raised a b c d enter p.puts q.puts leave jump again;
}
