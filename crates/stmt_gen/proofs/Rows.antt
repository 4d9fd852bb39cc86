-- The rows of a handler, one for each alternative.
use Rattle.std.proofs.Common.{◌≡◌, ℕ, ◌+◌, ◌-◌, ◌<◌, ◌≤◌, Bool, true, false, List, [], ◌∷◌, ◌++◌, Option, Some, None, length, get_or, drop, refl, sym, ap, subst, ◌∙◌, arith, append_assoc}
use Rattle.std.proofs.lemmas.List.{append-nil, at_drop_all}
use Rattle.code_types.specs.declared.code.Code.{Code}
use Rattle.code_types.specs.declared.code.Handler.{Handler}
use Rattle.checked_program.specs.declared.statement.Handler.{Handler as CheckedHandler, out-Handler}
use Rattle.checked_program.specs.declared.statement.HandlerAlternative.{HandlerAlternative, out-HandlerAlternative}
use Rattle.checked_program.specs.declared.statement.Statement.{Statement}
use Rattle.program_trees.specs.StatementTree.{StatementNodes, OtherwiseNode, otherwise, HandledNodes, more_handled, HandlerNode, handler, NumbersTree, handler_tree, statements_of}
use Rattle.code_scheme.specs.Pieces.{capped}
use Rattle.code_scheme.specs.StatementSite.{Site}
use Rattle.code_scheme.specs.StatementGoing.{go_on, leave_size}
use Rattle.code_scheme.specs.StatementSize.{statements_size, handler_size, handled_size, otherwise_size}
use Rattle.code_scheme.specs.StatementRows.{row_for, own_rows, else_row}
use Rattle.expr_gen.specs.declared.building.Draft.{Draft}
use Rattle.expr_gen.specs.declared.frames.Site.{Site as RustSite}
use Rattle.expr_gen.proofs.Items.{item_at}
use Rattle.stmt_gen.specs.Appending.{AppendsRows}
use Rattle.stmt_gen.specs.HandlerRows.{PutsRows}
use Rattle.action_gen.specs.Putting.{site_of, rows_of_handler}
use Rattle.action_gen.specs.Trees.{handled_tree, handled_of, else_of}
use Rattle.stmt_gen.specs.declared.again.Span.{Span}
use Rattle.stmt_gen.proofs.Capping.{leave_over}
use Rattle.action_gen.proofs.Views.{handled_tree-out, handler_tree-out}

-- The rows that are left, of which the first one's target is known, where so much of the code is left up to the place behind.
pub record RowsTo (site : Site) (all left : HandledNodes) (o : OtherwiseNode) (from until first behind target : ℕ) (old now : Code) : Type 0 where
  pub handlers : now.handlers ++ own_rows site from until left o target ≡ old.handlers ++ own_rows site from until all o first
  pub place : target + handled_size site left (otherwise_size site o 0) ≡ behind
  pub instrs : now.instrs ≡ old.instrs
  pub bodies : now.bodies ≡ old.bodies

abbrev site_at : RustSite → Site
site_at site = site_of site.program.now site.body.now

pub record RowsLeft (site : RustSite) (hs : List HandlerAlternative) (o : Option (List Statement)) (first : Span) (behind k target : ℕ) (old now : Draft) : Type 0 where
  pub left : behind ≡ first.target + handled_size (site_at site) (handled_of hs) (otherwise_size (site_at site) (else_of o) 0)
      → RowsTo (site_at site) (handled_of hs) (handled_of (drop k hs)) (else_of o) first.from first.until first.target behind target old.code now.code

pub rows_begin : (site : RustSite) (hs : List HandlerAlternative) (o : Option (List Statement)) (first : Span) (behind : ℕ) (x : Draft) → RowsLeft site hs o first behind 0 first.target x x
rows_begin site hs o first behind x = record { left = λ there. record { handlers = refl; place = sym there; instrs = refl; bodies = refl } }

-- the place of the next alternative, where that behind all is a number of 32 bits
pub next_row : (target s rest behind size end over jump next : ℕ) (g : Bool) → behind ≤ 4294967295 → target + (s + (leave_size g rest + rest)) ≡ behind
    → size ≡ capped s → end ≡ capped (target + size) → over ≡ behind - end → ((n : ℕ) → over ≡ capped n → jump ≡ leave_size g n) → next ≡ capped (end + jump)
    → next ≡ target + (s + leave_size g rest)
next_row target s rest behind size end over jump next g fits is size_is end_is over_is jumps next_is =
    let e : end ≡ target + s = omega (arith, fits, is, size_is, end_is) in
    let o : over ≡ capped (leave_size g rest + rest) = omega (arith, fits, is, e, over_is) in
    let j : jump ≡ leave_size g rest = jumps (leave_size g rest + rest) o ∙ leave_over g rest in
    omega (arith, fits, is, e, j, next_is)

rows_step : (site : Site) (all hs : HandledNodes) (o : OtherwiseNode) (from until first behind target next : ℕ) (names : List ℕ) (ss : StatementNodes) {x y z : Code}
    → RowsTo site all (more_handled names ss hs) o from until first behind target x y
    → (target + (statements_size site ss + (leave_size (go_on ss) (handled_size site hs (otherwise_size site o 0)) + handled_size site hs (otherwise_size site o 0))) ≡ behind
    → next ≡ target + (statements_size site ss + leave_size (go_on ss) (handled_size site hs (otherwise_size site o 0))))
    → AppendsRows (row_for from until names false target ∷ []) y z
    → RowsTo site all hs o from until first behind next x z
rows_step site all hs o from until first behind target next names ss {x} {y} {z} p there q =
    let rest : ℕ = handled_size site hs (otherwise_size site o 0) in
    let left : target + (statements_size site ss + (leave_size (go_on ss) (handled_size site hs (otherwise_size site o 0)) + handled_size site hs (otherwise_size site o 0))) ≡ behind = p.place in
    let to : next ≡ target + (statements_size site ss + leave_size (go_on ss) (handled_size site hs (otherwise_size site o 0))) = there left in
    record {
      handlers = ap (λ (k : ℕ). z.handlers ++ own_rows site from until hs o k) to
          ∙ ap (λ (rs : List Handler). rs ++ own_rows site from until hs o (target + (statements_size site ss + leave_size (go_on ss) (handled_size site hs (otherwise_size site o 0))))) q.handlers
          ∙ append_assoc y.handlers (row_for from until names false target ∷ []) (own_rows site from until hs o (target + (statements_size site ss + leave_size (go_on ss) (handled_size site hs (otherwise_size site o 0)))))
          ∙ p.handlers;
      place = omega (arith, to, left);
      instrs = q.instrs ∙ p.instrs;
      bodies = q.bodies ∙ p.bodies;
    }

abbrev numbers_tree : List ℕ → StatementNodes → NumbersTree
numbers_tree names ss = record { numbers = names; actions = ss }

pub rows_turn : (site : RustSite) (hs : List HandlerAlternative) (o : Option (List Statement)) (first : Span) (behind k target next : ℕ) (it : HandlerAlternative) (names : List ℕ) (ss : List Statement) {x y z : Draft}
    → k < length hs → it ≡ get_or hs k it → names ≡ (out-HandlerAlternative it).exceptions → ss ≡ (out-HandlerAlternative it).actions
    → ((rest : ℕ) → target + (statements_size (site_at site) (statements_of ss) + (leave_size (go_on (statements_of ss)) rest + rest)) ≡ behind
    → next ≡ target + (statements_size (site_at site) (statements_of ss) + leave_size (go_on (statements_of ss)) rest))
    → RowsLeft site hs o first behind k target x y → AppendsRows (row_for first.from first.until names false target ∷ []) y.code z.code
    → RowsLeft site hs o first behind (k + 1) next x z
rows_turn site hs o first behind k target next it names ss {x} {y} {z} h e names_are ss_is there p q =
    let own : handled_tree it ≡ numbers_tree names (statements_of ss) = handled_tree-out it ∙ ap (λ (v : List ℕ). numbers_tree v (statements_of (out-HandlerAlternative it).actions)) (sym names_are)
    ∙ ap (λ (v : List Statement). numbers_tree names (statements_of v)) (sym ss_is) in
    let tree : handled_of (drop k hs) ≡ more_handled names (statements_of ss) (handled_of (drop (k + 1) hs)) =
    ap handled_of (item_at hs k it h e) ∙ ap (λ (t : NumbersTree). more_handled t.numbers t.actions (handled_of (drop (k + 1) hs))) own in
    record {
      left = λ is. rows_step (site_at site) (handled_of hs) (handled_of (drop (k + 1) hs)) (else_of o) first.from first.until first.target behind target next names (statements_of ss)
          (subst (λ (t : HandledNodes). RowsTo (site_at site) (handled_of hs) t (else_of o) first.from first.until first.target behind target x.code y.code) tree (p.left is))
          (there (handled_size (site_at site) (handled_of (drop (k + 1) hs)) (otherwise_size (site_at site) (else_of o) 0))) q;
    }

-- the last row is that of ELSE, where it is written
rows_done : (site : RustSite) (h : CheckedHandler) (hs : List HandlerAlternative) (first : Span) (behind k target : ℕ) {x y z : Draft} → hs ≡ (out-Handler h).alternatives → length hs ≤ k
    → RowsLeft site hs (out-Handler h).otherwise first behind k target x y
    → AppendsRows (else_row first.from first.until (else_of (out-Handler h).otherwise) target) y.code z.code → PutsRows site h first behind x z
rows_done site h hs first behind k target {x} {y} {z} hs_are e p q =
    let tree : handler_tree h ≡ handler (handled_of hs) (else_of (out-Handler h).otherwise) = handler_tree-out h ∙ ap (λ (v : List HandlerAlternative). handler (handled_of v) (else_of (out-Handler h).otherwise)) (sym hs_are) in
    let own : (behind ≡ first.target + handler_size (site_at site) (handler (handled_of hs) (else_of (out-Handler h).otherwise)))
    → AppendsRows (rows_of_handler (site_at site) first.from first.until (handler (handled_of hs) (else_of (out-Handler h).otherwise)) first.target) x.code z.code = λ there.
    let r = p.left there in
    let last = subst (λ (t : HandledNodes). RowsTo (site_at site) (handled_of hs) t (else_of (out-Handler h).otherwise) first.from first.until first.target behind target x.code y.code) (at_drop_all handled_of hs k e) r in
    record { handlers = q.handlers ∙ last.handlers; instrs = q.instrs ∙ last.instrs; bodies = q.bodies ∙ last.bodies } in
    record { puts = subst (λ (t : HandlerNode). behind ≡ first.target + handler_size (site_at site) t → AppendsRows (rows_of_handler (site_at site) first.from first.until t first.target) x.code z.code) (sym tree) own }

pub rows_else : (site : RustSite) (h : CheckedHandler) (hs : List HandlerAlternative) (own : List Statement) (first : Span) (behind k target : ℕ) {x y z : Draft} → hs ≡ (out-Handler h).alternatives → length hs ≤ k
    → (out-Handler h).otherwise ≡ Some own → RowsLeft site hs (out-Handler h).otherwise first behind k target x y
    → AppendsRows (row_for first.from first.until [] true target ∷ []) y.code z.code → PutsRows site h first behind x z
rows_else site h hs own first behind k target {x} {y} {z} hs_are e some p q =
    rows_done site h hs first behind k target hs_are e p
    (subst (λ (v : Option (List Statement)). AppendsRows (else_row first.from first.until (else_of v) target) y.code z.code) (sym some) q)

pub rows_end : (site : RustSite) (h : CheckedHandler) (hs : List HandlerAlternative) (first : Span) (behind k target : ℕ) {x y : Draft} → hs ≡ (out-Handler h).alternatives → length hs ≤ k
    → (out-Handler h).otherwise ≡ None → RowsLeft site hs (out-Handler h).otherwise first behind k target x y → PutsRows site h first behind x y
rows_end site h hs first behind k target {x} {y} hs_are e none p =
    rows_done site h hs first behind k target hs_are e p
    (subst (λ (v : Option (List Statement)). AppendsRows (else_row first.from first.until (else_of v) target) y.code y.code) (sym none) (record { handlers = sym (append-nil y.code.handlers); instrs = refl; bodies = refl }))
