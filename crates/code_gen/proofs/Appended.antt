-- What is appended for a body, part after part.
use Rattle.std.proofs.Common.{◌≡◌, ℕ, ◌+◌, ◌-◌, ◌<◌, ◌≤◌, min, Bool, List, [], ◌∷◌, ◌++◌, length, take, drop, get_or, map, inl, inr, Option, Some, None, refl, sym, ap, subst, ◌∙◌, arith, append_assoc, length-append, length-drop}
use Rattle.std.specs.Prelude.{filter, option_map}
use Rattle.std.specs.declared.alloc.Global.{Global}
use Rattle.std.specs.declared.rc.Rc.{Rc}
use Rattle.std.proofs.lemmas.Bool.{cases_lt}
use Rattle.std.proofs.lemmas.List.{append-nil, at_drop_all, drop-map, take_all}
use Rattle.std.proofs.Math.Seq.{drop-append_seam, take-append_seam}
use Rattle.code_types.specs.declared.code.BodyRow.{BodyRow}
use Rattle.code_types.specs.declared.code.Code.{Code}
use Rattle.code_types.specs.declared.code.Handler.{Handler}
use Rattle.code_types.specs.declared.instr.Instr.{Instr}
use Rattle.code_types.specs.declared.instr.Instr.TheVariants as i
use Rattle.modes.specs.declared.mode.Mode.{Mode}
use Rattle.modes.specs.ModeTree.{mode_tree}
use Rattle.modes.specs.Scalars.{lowest_of}
use Rattle.checked_program.specs.declared.program.Body.{Body}
use Rattle.checked_program.specs.declared.program.LocalRow.{LocalRow}
use Rattle.program_trees.specs.ProgramTree.{CheckedTree, BodyRowTree, LocalRowTree, body_row_tree, local_row_tree, shared_mode}
use Rattle.program_trees.specs.StatementTree.{StatementNodes, HandlerNode, no_handler}
use Rattle.code_scheme.specs.StatementSite.{Site, Standing, declared_scalars}
use Rattle.code_scheme.specs.StatementGoing.{go_on}
use Rattle.code_scheme.specs.StatementCode.{CodeAt, handler_code}
use Rattle.code_scheme.specs.StatementRows.{RowsAt, handler_rows}
use Rattle.code_scheme.specs.StatementPlain.{entered_by}
use Rattle.code_scheme.specs.BodyItems.{is_among, raised_in, raise_again_code, raise_again_rows, items_code, items_rows}
use Rattle.code_scheme.specs.BodyCode.{standing_in, behind_lowest, items_of, guarded_code, guarded_rows, end_code, lowest_value_code, locals_code, lowest_result_code, lowest_code, raised_again, doing_code, doing_rows, body_code, body_handlers, body_row, site_in, bodies_code, bodies_handlers, body_rows, code_of}
use Rattle.expr_gen.specs.Empty.{empty_code}
use Rattle.expr_gen.specs.Putting.{Appends, Puts}
use Rattle.expr_gen.proofs.Appending.{and_then, resized}
use Rattle.expr_gen.proofs.Items.{item_at}
use Rattle.stmt_gen.specs.Appending.{AppendsAt, AppendsBoth}
use Rattle.code_gen.specs.Bodies.{row_with, AppendsBody, AppendsBodies}

-- ---- instructions with rows

pub without_rows : {a : List Instr} {n : ℕ} {x y : Code} → Appends a n x y → AppendsBoth a [] x y
without_rows {a} {n} {x} {y} p = record { instrs = p.instrs; handlers = p.handlers ∙ sym (append-nil x.handlers); bodies = p.bodies }

pub at_place : {made : CodeAt} {n : ℕ} {rows : RowsAt} {x y : Code} → AppendsAt made n rows x y → AppendsBoth (made (length x.instrs)) (rows (length x.instrs)) x y
at_place p = record { instrs = p.instrs; handlers = p.handlers; bodies = p.bodies }

pub both_then : {a b : List Instr} {r s : List Handler} {x y z : Code} → AppendsBoth a r x y → AppendsBoth b s y z → AppendsBoth (a ++ b) (r ++ s) x z
both_then {a} {b} {r} {s} {x} {y} {z} p q = record {
  instrs = q.instrs ∙ ap (λ (is : List Instr). is ++ b) p.instrs ∙ append_assoc x.instrs a b;
  handlers = q.handlers ∙ ap (λ (hs : List Handler). hs ++ s) p.handlers ∙ append_assoc x.handlers r s;
  bodies = q.bodies ∙ p.bodies;
}

pub length_behind : {a : List Instr} {r : List Handler} {x y : Code} → AppendsBoth a r x y → length y.instrs ≡ length x.instrs + length a
length_behind {a} {r} {x} {y} p = ap length p.instrs ∙ length-append x.instrs a

-- ---- lowest values

-- no more parameters are left out than there are locals
left_out : (xs : List LocalRow) (k : ℕ) → drop (min k (length xs)) xs ≡ drop k xs
left_out xs k = elim (cases_lt k (length xs)) [
  | inl p ↦ (let e : min k (length xs) ≡ k = omega (arith, p) in ap (λ (n : ℕ). drop n xs) e)
  | inr p ↦ (let e : length xs ≤ min k (length xs) = omega (arith, p) in at_drop_all (λ (ys : List LocalRow). ys) xs (min k (length xs)) e ∙ sym (at_drop_all (λ (ys : List LocalRow). ys) xs k p))
]

pub rows_left : (xs ys : List LocalRow) (k n : ℕ) → ys ≡ xs → n ≡ min k (length ys) → map local_row_tree (take (length ys - n) (drop n ys)) ≡ drop k (map local_row_tree xs)
rows_left xs ys k n same count =
    ap (λ (zs : List LocalRow). map local_row_tree zs) (take_all (length ys - n) (drop n ys) (omega (arith, length-drop n ys)))
    ∙ ap (λ (m : ℕ). map local_row_tree (drop m ys)) count
    ∙ ap (λ (zs : List LocalRow). map local_row_tree zs) (left_out ys k ∙ ap (λ (zs : List LocalRow). drop k zs) same)
    ∙ sym (drop-map local_row_tree k xs)

pub some_lowest : (body : Body) (mode : Rc Mode Global) (m : Mode) (first : ℕ) → body.result ≡ Some mode → m ≡ mode.value → first ≡ declared_scalars (body_row_tree body)
    → lowest_value_code (lowest_of (mode_tree m)) first ≡ lowest_result_code (body_row_tree body).result (declared_scalars (body_row_tree body))
some_lowest body mode m first is same count =
    ap (λ (k : ℕ). lowest_value_code (lowest_of (mode_tree m)) k) count
    ∙ ap (λ (n : Mode). lowest_value_code (lowest_of (mode_tree n)) (declared_scalars (body_row_tree body))) same
    ∙ sym (ap (λ (o : Option (Rc Mode Global)). lowest_result_code (option_map shared_mode o) (declared_scalars (body_row_tree body))) is)

pub no_lowest : (body : Body) → body.result ≡ None → [] ≡ lowest_result_code (body_row_tree body).result (declared_scalars (body_row_tree body))
no_lowest body is = sym (ap (λ (o : Option (Rc Mode Global)). lowest_result_code (option_map shared_mode o) (declared_scalars (body_row_tree body))) is)

pub lowest_told : (b : BodyRowTree) (rows : List LocalRowTree) (rest : List Instr) (n : ℕ) {x y z : Code}
    → rows ≡ drop (length b.parameters) b.locals → rest ≡ lowest_result_code b.result (declared_scalars b)
    → Appends (locals_code rows) (length (locals_code rows)) x y → Appends rest n y z → n ≡ length rest
    → Appends (lowest_code b) (length (lowest_code b)) x z
lowest_told b rows rest n {x} {y} {z} left last p q many =
    let all : Appends (locals_code rows ++ rest) (length (locals_code rows ++ rest)) x z =
    resized (let e : length (locals_code rows) + n ≡ length (locals_code rows ++ rest) = omega (arith, length-append (locals_code rows) rest, many) in e) (and_then p q) in
    let whole : locals_code rows ++ rest ≡ lowest_code b =
    ap (λ (rs : List LocalRowTree). locals_code rs ++ rest) left ∙ ap (λ (is : List Instr). locals_code (drop (length b.parameters) b.locals) ++ is) last in
    subst (λ (is : List Instr). Appends is (length is) x z) whole all

-- ---- the statements of a body with its handler

-- what a handler has that isn't there
pub handlerless : (w : Standing) (comes : Bool) (from : ℕ) (x : Code) → AppendsAt (handler_code w no_handler comes) 0 (handler_rows w.site no_handler comes from) x x
handlerless w comes from x = record { instrs = sym (append-nil x.instrs); handlers = sym (append-nil x.handlers); bodies = refl; length = omega arith }

pub guarded_told : (site : Site) (w : Standing) (ss : StatementNodes) (h : HandlerNode) (comes : Bool) (from n : ℕ) {x y z : Code}
    → w ≡ standing_in site → ss ≡ behind_lowest site.body.statements → h ≡ site.body.handler → comes ≡ go_on site.body.statements → from ≡ length x.instrs
    → AppendsBoth (items_code w ss (length x.instrs)) (items_rows w ss (length x.instrs)) x y
    → AppendsAt (handler_code w h comes) n (handler_rows w.site h comes from) y z
    → AppendsBoth (guarded_code site (length x.instrs)) (guarded_rows site (length x.instrs)) x z
guarded_told site w ss h comes from n {x} {y} {z} same_w same_ss same_h same_comes same_from p q =
    let at = length x.instrs in
    let here : AppendsBoth (items_code (standing_in site) ss at) (items_rows (standing_in site) ss at) x y =
    subst (λ (v : Standing). AppendsBoth (items_code v ss at) (items_rows v ss at) x y) same_w p in
    let items : AppendsBoth (items_of site at) (items_rows (standing_in site) (behind_lowest site.body.statements) at) x y =
    subst (λ (ts : StatementNodes). AppendsBoth (items_code (standing_in site) ts at) (items_rows (standing_in site) ts at) x y) same_ss here in
    let there : length y.instrs ≡ at + length (items_of site at) = length_behind items in
    let first : AppendsBoth (handler_code w h comes (length y.instrs)) (handler_rows w.site h comes from (length y.instrs)) y z = at_place q in
    let second : AppendsBoth (handler_code (standing_in site) h comes (length y.instrs)) (handler_rows site h comes from (length y.instrs)) y z =
    subst (λ (v : Standing). AppendsBoth (handler_code v h comes (length y.instrs)) (handler_rows v.site h comes from (length y.instrs)) y z) same_w first in
    let third : AppendsBoth (handler_code (standing_in site) site.body.handler comes (length y.instrs)) (handler_rows site site.body.handler comes from (length y.instrs)) y z =
    subst (λ (k : HandlerNode). AppendsBoth (handler_code (standing_in site) k comes (length y.instrs)) (handler_rows site k comes from (length y.instrs)) y z) same_h second in
    let fourth : AppendsBoth (handler_code (standing_in site) site.body.handler (go_on site.body.statements) (length y.instrs)) (handler_rows site site.body.handler (go_on site.body.statements) from (length y.instrs)) y z =
    subst (λ (c : Bool). AppendsBoth (handler_code (standing_in site) site.body.handler c (length y.instrs)) (handler_rows site site.body.handler c from (length y.instrs)) y z) same_comes third in
    let fifth : AppendsBoth (handler_code (standing_in site) site.body.handler (go_on site.body.statements) (length y.instrs)) (handler_rows site site.body.handler (go_on site.body.statements) at (length y.instrs)) y z =
    subst (λ (k : ℕ). AppendsBoth (handler_code (standing_in site) site.body.handler (go_on site.body.statements) (length y.instrs)) (handler_rows site site.body.handler (go_on site.body.statements) k (length y.instrs)) y z) same_from fourth in
    let behind : AppendsBoth (handler_code (standing_in site) site.body.handler (go_on site.body.statements) (at + length (items_of site at))) (handler_rows site site.body.handler (go_on site.body.statements) at (at + length (items_of site at))) y z =
    subst (λ (k : ℕ). AppendsBoth (handler_code (standing_in site) site.body.handler (go_on site.body.statements) k) (handler_rows site site.body.handler (go_on site.body.statements) at k) y z) there fifth in
    both_then items behind

-- ---- what a body does

pub plain_told : (site : Site) {n : ℕ} {x y z : Code}
    → AppendsBoth (guarded_code site (length x.instrs)) (guarded_rows site (length x.instrs)) x y
    → Appends (end_code site.body) n y z
    → AppendsBoth (doing_code None site (length x.instrs)) (doing_rows None site (length x.instrs)) x z
plain_told site {n} {x} {y} {z} p q = record {
  instrs = (both_then p (without_rows q)).instrs;
  handlers = q.handlers ∙ p.handlers;
  bodies = q.bodies ∙ p.bodies;
}

-- the instructions between two places are those that were appended there
between_places : (a g e : List Instr) (from until : ℕ) → from ≡ length a → until ≡ length a + length g → take (until - from) (drop from ((a ++ g) ++ e)) ≡ g
between_places a g e from until f u =
    let count : until - from ≡ length g = omega (arith, f, u) in
    ap (λ (k : ℕ). take k (drop from ((a ++ g) ++ e))) count
    ∙ ap (λ (k : ℕ). take (length g) (drop k ((a ++ g) ++ e))) f
    ∙ ap (λ (is : List Instr). take (length g) (drop (length a) is)) (append_assoc a g e)
    ∙ ap (λ (is : List Instr). take (length g) is) (drop-append_seam a (g ++ e))
    ∙ take-append_seam g e

pub critical_told : (site : Site) (r from until n : ℕ) (raised listed : List ℕ) {x y u v z : Code}
    → Puts (i.Enter r) x y
    → from ≡ length y.instrs
    → AppendsBoth (guarded_code site (length y.instrs)) (guarded_rows site (length y.instrs)) y u
    → until ≡ length u.instrs
    → Appends (end_code site.body) n u v
    → raised ≡ raised_in site.program (take (until - from) (drop from v.instrs))
    → listed ≡ filter (λ x. is_among x site.body.listed) raised
    → AppendsBoth (raise_again_code r listed) (raise_again_rows from until listed (length v.instrs)) v z
    → AppendsBoth (doing_code (Some r) site (length x.instrs)) (doing_rows (Some r) site (length x.instrs)) x z
critical_told site r from until n raised listed {x} {y} {u} {v} {z} enter same_from handled same_until way is_raised is_listed again =
    let at = length y.instrs in
    let g = guarded_code site at in
    let e = end_code site.body in
    let ends : until ≡ at + length g = same_until ∙ length_behind handled in
    let whole : v.instrs ≡ (y.instrs ++ g) ++ e = way.instrs ∙ ap (λ (is : List Instr). is ++ e) handled.instrs in
    let inside : take (until - from) (drop from v.instrs) ≡ g =
    ap (λ (is : List Instr). take (until - from) (drop from is)) whole ∙ between_places y.instrs g e from until same_from ends in
    let same : listed ≡ raised_again site at =
    is_listed ∙ ap (filter (λ x. is_among x site.body.listed)) (is_raised ∙ ap (raised_in site.program) inside) in
    let target : length v.instrs ≡ at + length g + length e =
    ap length way.instrs ∙ length-append u.instrs e ∙ ap (λ (k : ℕ). k + length e) (length_behind handled) in
    let first : AppendsBoth (raise_again_code r (raised_again site at)) (raise_again_rows from until (raised_again site at) (length v.instrs)) v z =
    subst (λ (xs : List ℕ). AppendsBoth (raise_again_code r xs) (raise_again_rows from until xs (length v.instrs)) v z) same again in
    let second : AppendsBoth (raise_again_code r (raised_again site at)) (raise_again_rows at until (raised_again site at) (length v.instrs)) v z =
    subst (λ (k : ℕ). AppendsBoth (raise_again_code r (raised_again site at)) (raise_again_rows k until (raised_again site at) (length v.instrs)) v z) same_from first in
    let third : AppendsBoth (raise_again_code r (raised_again site at)) (raise_again_rows at (at + length g) (raised_again site at) (length v.instrs)) v z =
    subst (λ (k : ℕ). AppendsBoth (raise_again_code r (raised_again site at)) (raise_again_rows at k (raised_again site at) (length v.instrs)) v z) ends second in
    let last : AppendsBoth (raise_again_code r (raised_again site at)) (raise_again_rows at (at + length g) (raised_again site at) (at + length g + length e)) v z =
    subst (λ (k : ℕ). AppendsBoth (raise_again_code r (raised_again site at)) (raise_again_rows at (at + length g) (raised_again site at) k) v z) target third in
    let all : AppendsBoth (i.Enter r ∷ (g ++ (e ++ raise_again_code r (raised_again site at)))) (guarded_rows site at ++ raise_again_rows at (at + length g) (raised_again site at) (at + length g + length e)) x z =
    both_then (without_rows enter) (both_then handled (both_then (without_rows way) last)) in
    subst (λ (k : ℕ). AppendsBoth (i.Enter r ∷ (guarded_code site k ++ (e ++ raise_again_code r (raised_again site k))))
    (guarded_rows site k ++ raise_again_rows k (k + length (guarded_code site k)) (raised_again site k) (k + length (guarded_code site k) + length e)) x z) enter.length all

-- ---- a body and its row

pub body_told : (site : Site) (row : BodyRow) (first n : ℕ) {x y z w : Code}
    → first ≡ length x.instrs
    → Appends (lowest_code site.body) n x y → n ≡ length (lowest_code site.body)
    → AppendsBoth (doing_code (entered_by site.body) site (length y.instrs)) (doing_rows (entered_by site.body) site (length y.instrs)) y z
    → row ≡ row_with site first (drop first z.instrs)
    → w.instrs ≡ z.instrs → w.handlers ≡ z.handlers → w.bodies ≡ z.bodies ++ row ∷ []
    → AppendsBody site x w
body_told site row first n {x} {y} {z} {w} same p many q is_row instrs handlers bodies =
    let at = length x.instrs in
    let there : length y.instrs ≡ at + length (lowest_code site.body) = omega (arith, p.length, many) in
    let doing : AppendsBoth (doing_code (entered_by site.body) site (at + length (lowest_code site.body))) (doing_rows (entered_by site.body) site (at + length (lowest_code site.body))) y z =
    subst (λ (k : ℕ). AppendsBoth (doing_code (entered_by site.body) site k) (doing_rows (entered_by site.body) site k) y z) there q in
    let both : AppendsBoth (body_code site at) (body_handlers site at) x z = both_then (without_rows p) doing in
    let own : drop first z.instrs ≡ body_code site at =
    ap (λ (k : ℕ). drop k z.instrs) same ∙ ap (drop at) both.instrs ∙ drop-append_seam x.instrs (body_code site at) in
    let made : row ≡ body_row site at = is_row ∙ ap (λ (k : ℕ). row_with site k (drop first z.instrs)) same ∙ ap (row_with site at) own in
    record {
      instrs = instrs ∙ both.instrs;
      handlers = handlers ∙ both.handlers;
      bodies = bodies ∙ ap (λ (bs : List BodyRow). bs ++ row ∷ []) both.bodies ∙ ap (λ (b : BodyRow). x.bodies ++ b ∷ []) made;
    }

-- ---- bodies, one by one

-- What is still to be appended to one code, where all these bodies are to be appended to an earlier one.
pub record BodiesLeft (p : CheckedTree) (all left : List BodyRowTree) (old now : Code) : Type 0 where
  pub instrs : now.instrs ++ bodies_code p left (length now.instrs) ≡ old.instrs ++ bodies_code p all (length old.instrs)
  pub handlers : now.handlers ++ bodies_handlers p left (length now.instrs) ≡ old.handlers ++ bodies_handlers p all (length old.instrs)
  pub bodies : now.bodies ++ body_rows p left (length now.instrs) ≡ old.bodies ++ body_rows p all (length old.instrs)

pub bodies_turn : {p : CheckedTree} {all : List BodyRowTree} (b : BodyRowTree) (bs : List BodyRowTree) {x y z : Code}
    → BodiesLeft p all (b ∷ bs) x y → AppendsBody (site_in p b) y z → BodiesLeft p all bs x z
bodies_turn {p} {all} b bs {x} {y} {z} l q =
    let at = length y.instrs in
    let next = at + length (body_code (site_in p b) at) in
    let there : length z.instrs ≡ next = ap length q.instrs ∙ length-append y.instrs (body_code (site_in p b) at) in
    record {
      instrs = ap (λ (k : ℕ). z.instrs ++ bodies_code p bs k) there ∙ ap (λ (is : List Instr). is ++ bodies_code p bs next) q.instrs
          ∙ append_assoc y.instrs (body_code (site_in p b) at) (bodies_code p bs next) ∙ l.instrs;
      handlers = ap (λ (k : ℕ). z.handlers ++ bodies_handlers p bs k) there ∙ ap (λ (hs : List Handler). hs ++ bodies_handlers p bs next) q.handlers
          ∙ append_assoc y.handlers (body_handlers (site_in p b) at) (bodies_handlers p bs next) ∙ l.handlers;
      bodies = ap (λ (k : ℕ). z.bodies ++ body_rows p bs k) there ∙ ap (λ (rs : List BodyRow). rs ++ body_rows p bs next) q.bodies
          ∙ append_assoc y.bodies (body_row (site_in p b) at ∷ []) (body_rows p bs next) ∙ l.bodies;
    }

pub bodies_done : {p : CheckedTree} {all : List BodyRowTree} {x y : Code} → BodiesLeft p all [] x y → AppendsBodies p all x y
bodies_done {p} {all} {x} {y} l = record {
  instrs = sym (append-nil y.instrs) ∙ l.instrs;
  handlers = sym (append-nil y.handlers) ∙ l.handlers;
  bodies = sym (append-nil y.bodies) ∙ l.bodies;
}

pub bodies_at : (p : CheckedTree) (all : List BodyRowTree) (xs : List Body) (k : ℕ) (it : Body) {x y z : Code} → k < length xs → it ≡ get_or xs k it
    → BodiesLeft p all (map body_row_tree (drop k xs)) x y → AppendsBody (site_in p (body_row_tree it)) y z
    → BodiesLeft p all (map body_row_tree (drop (k + 1) xs)) x z
bodies_at p all xs k it {x} {y} {z} h e l q =
    bodies_turn (body_row_tree it) (map body_row_tree (drop (k + 1) xs)) (subst (λ (bs : List Body). BodiesLeft p all (map body_row_tree bs) x y) (item_at xs k it h e) l) q

pub bodies_end : (p : CheckedTree) (all : List BodyRowTree) (xs : List Body) (k : ℕ) {x y : Code} → length xs ≤ k
    → BodiesLeft p all (map body_row_tree (drop k xs)) x y → AppendsBodies p all x y
bodies_end p all xs k {x} {y} h l = bodies_done (subst (λ (bs : List BodyRowTree). BodiesLeft p all bs x y) (at_drop_all (map body_row_tree) xs k h) l)

-- ---- the code of a program

pub code_told : (p : CheckedTree) (x y : Code) → x ≡ empty_code → AppendsBodies p p.bodies x y → y ≡ code_of p
code_told p x y none all =
    let made : AppendsBodies p p.bodies empty_code y = subst (λ (k : Code). AppendsBodies p p.bodies k y) none all in
    let instrs : y.instrs ≡ bodies_code p p.bodies 0 = made.instrs in
    let handlers : y.handlers ≡ bodies_handlers p p.bodies 0 = made.handlers in
    let bodies : y.bodies ≡ body_rows p p.bodies 0 = made.bodies in
    ap (λ (is : List Instr). record { instrs = is; handlers = y.handlers; bodies = y.bodies }) instrs
    ∙ ap (λ (hs : List Handler). record { instrs = bodies_code p p.bodies 0; handlers = hs; bodies = y.bodies }) handlers
    ∙ ap (λ (rs : List BodyRow). record { instrs = bodies_code p p.bodies 0; handlers = bodies_handlers p p.bodies 0; bodies = rs }) bodies
