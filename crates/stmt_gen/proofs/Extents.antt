-- How many instructions statements have, by what their parts have.
use Rattle.std.proofs.Common.{◌≡◌, ℕ, suc, ◌+◌, ◌<◌, ◌≤◌, Bool, true, false, List, [], ◌∷◌, length, get_or, drop, refl, sym, ap, ◌∙◌, arith, Option, Some, None}
use Rattle.std.specs.declared.alloc.Global.{Global}
use Rattle.std.specs.declared.boxed.Box.{Box}
use Rattle.modes.specs.declared.mode.Bounds.{Bounds}
use Rattle.checked_program.specs.declared.expr.Expr.{Expr}
use Rattle.checked_program.specs.declared.statement.Action.{Action}
use Rattle.checked_program.specs.declared.statement.Action.TheVariants as actions
use Rattle.checked_program.specs.declared.statement.CaseAlternative.{CaseAlternative, out-CaseAlternative}
use Rattle.checked_program.specs.declared.statement.Choice.{Choice, out-Choice}
use Rattle.checked_program.specs.declared.statement.DelayAlternative.{DelayAlternative, out-DelayAlternative}
use Rattle.checked_program.specs.declared.statement.Handler.{Handler, out-Handler}
use Rattle.checked_program.specs.declared.statement.HandlerAlternative.{HandlerAlternative, out-HandlerAlternative}
use Rattle.checked_program.specs.declared.statement.ReceiveAlternative.{ReceiveAlternative, out-ReceiveAlternative}
use Rattle.checked_program.specs.declared.statement.Statement.{Statement, out-Statement}
use Rattle.program_trees.specs.ExprTree.{expr_tree}
use Rattle.program_trees.specs.StatementTree.{ActionTree, StatementTree, statement, HandlerNode, StatementNodes, CaseNodes, ChoiceNodes, DelayNodes, HandledNodes, ReceiveNodes, action_tree, handler_tree, handler_of, statement_tree, statements_of}
use Rattle.code_scheme.specs.Pieces.{capped}
use Rattle.code_scheme.specs.ExprSizes.{expr_size, condition_size}
use Rattle.code_scheme.specs.StatementSite.{Site}
use Rattle.code_scheme.specs.StatementGoing.{go_on, action_goes_on, joined}
use Rattle.code_scheme.specs.StatementSize.{labels_size, statements_size, statement_size, handler_size, handled_size, otherwise_size, action_size, choices_size, cases_size, delays_size, receives_size}
use Rattle.stmt_gen.specs.declared.joining.Joined.{Joined}
use Rattle.stmt_gen.specs.Joining.{size_before}
use Rattle.action_gen.specs.Trees.{choice_tree, choices_of, cases_of, delays_of, receives_of, handled_of, else_of}
use Rattle.stmt_gen.specs.Puts.{IsJoined, Joins, JoinsAll}
use Rattle.action_gen.proofs.Nodes.{handled_at, choices_at, choice_actions, cases_at, delays_at, receives_at, handled_end, choices_end, cases_end, delays_end, receives_end, statements_end}
use Rattle.action_gen.proofs.Views.{action_tree-If, action_tree-Case, statement_tree-out}

-- ---- parts of which one is done

capped_last : (size n : ℕ) → size ≤ 4294967295 → capped (size + 0) ≡ capped n → size ≡ capped n
capped_last size n few e = omega (arith, few, e)

plus_none : (n : ℕ) → n + (0 + 0) ≡ n
plus_none n = omega arith

-- the last part goes on nowhere
pub last_joined : (parts all : Joined) (f : ℕ → ℕ) (size n : ℕ) → Joins parts f → IsJoined parts size false all → size ≡ capped n → all.size ≤ 4294967295
    → all.size ≡ capped (f n)
last_joined parts all f size n p j e few =
    capped_last all.size (f n) few (j n 0 e ∙ p (n + (0 + 0)) ∙ ap (λ (m : ℕ). capped (f m)) (plus_none n))

-- one part is done, where any of several may be
more_joined : (parts next : Joined) (f now left : ℕ → ℕ) (size n : ℕ) (g : Bool)
    → ((rest : ℕ) → now rest ≡ joined n g (left rest))
    → size ≡ capped n → IsJoined parts size g next
    → ((rest : ℕ) → capped (size_before parts (now rest)) ≡ capped (f rest))
    → (rest : ℕ) → capped (size_before next (left rest)) ≡ capped (f rest)
more_joined parts next f now left size n g is e j p rest =
    j n (left rest) e ∙ ap (λ (m : ℕ). capped (size_before parts m)) (sym (is rest)) ∙ p rest

both_capped : (a b s m n : ℕ) → a ≡ capped m → b ≡ capped n → s ≡ capped (a + b) → s ≡ capped (m + n)
both_capped a b s m n e f g = omega (arith, e, f, g)

pub handled_counted : (site : Site) (xs : List HandlerAlternative) (k : ℕ) (x : HandlerAlternative) (ss : List Statement) (f : ℕ → ℕ) (parts next : Joined) (size : ℕ) (g : Bool)
    → k < length xs → x ≡ get_or xs k x → ss ≡ (out-HandlerAlternative x).actions
    → size ≡ capped (statements_size site (statements_of ss)) → g ≡ go_on (statements_of ss) → IsJoined parts size g next
    → ((rest : ℕ) → capped (size_before parts (handled_size site (handled_of (drop k xs)) rest)) ≡ capped (f rest))
    → (rest : ℕ) → capped (size_before next (handled_size site (handled_of (drop (k + 1) xs)) rest)) ≡ capped (f rest)
handled_counted site xs k x ss f parts next size g h e a i goes j p =
    more_joined parts next f (handled_size site (handled_of (drop k xs))) (handled_size site (handled_of (drop (k + 1) xs))) size (statements_size site (statements_of ss)) g
    (λ rest. ap (λ (hs : HandledNodes). handled_size site hs rest) (handled_at xs k x ss h e a)
    ∙ ap (λ (b : Bool). joined (statements_size site (statements_of ss)) b (handled_size site (handled_of (drop (k + 1) xs)) rest)) (sym goes)) i j p

pub choices_counted : (site : Site) (xs : List Choice) (k : ℕ) (x : Choice) (ss : List Statement) (f : ℕ → ℕ) (parts next : Joined) (size : ℕ) (g : Bool)
    → k < length xs → x ≡ get_or xs k x → ss ≡ (out-Choice x).actions
    → size ≡ capped (condition_size (choice_tree x).condition false + statements_size site (choice_tree x).actions) → g ≡ go_on (statements_of ss) → IsJoined parts size g next
    → ((rest : ℕ) → capped (size_before parts (choices_size site (choices_of (drop k xs)) rest)) ≡ capped (f rest))
    → (rest : ℕ) → capped (size_before next (choices_size site (choices_of (drop (k + 1) xs)) rest)) ≡ capped (f rest)
choices_counted site xs k x ss f parts next size g h e a i goes j p =
    more_joined parts next f (choices_size site (choices_of (drop k xs))) (choices_size site (choices_of (drop (k + 1) xs))) size (condition_size (choice_tree x).condition false + statements_size site (choice_tree x).actions) g
    (λ rest. ap (λ (cs : ChoiceNodes). choices_size site cs rest) (choices_at xs k x h e)
    ∙ ap (λ (b : Bool). joined (condition_size (choice_tree x).condition false + statements_size site (choice_tree x).actions) b (choices_size site (choices_of (drop (k + 1) xs)) rest))
    (ap go_on (choice_actions x ss a) ∙ sym goes)) i j p

pub cases_counted : (site : Site) (xs : List CaseAlternative) (k : ℕ) (x : CaseAlternative) (ss : List Statement) (f : ℕ → ℕ) (parts next : Joined) (bs : List Bounds) (labels chosen size : ℕ) (g : Bool)
    → k < length xs → x ≡ get_or xs k x → ss ≡ (out-CaseAlternative x).actions → bs ≡ (out-CaseAlternative x).labels
    → labels ≡ capped (labels_size bs) → chosen ≡ capped (suc (statements_size site (statements_of ss))) → size ≡ capped (labels + chosen)
    → g ≡ go_on (statements_of ss) → IsJoined parts size g next
    → ((rest : ℕ) → capped (size_before parts (cases_size site (cases_of (drop k xs)) rest)) ≡ capped (f rest))
    → (rest : ℕ) → capped (size_before next (cases_size site (cases_of (drop (k + 1) xs)) rest)) ≡ capped (f rest)
cases_counted site xs k x ss f parts next bs labels chosen size g h e a b l c s goes j p =
    more_joined parts next f (cases_size site (cases_of (drop k xs))) (cases_size site (cases_of (drop (k + 1) xs))) size (labels_size (out-CaseAlternative x).labels + suc (statements_size site (statements_of ss))) g
    (λ rest. ap (λ (cs : CaseNodes). cases_size site cs rest) (cases_at xs k x ss h e a)
    ∙ ap (λ (b : Bool). joined (labels_size (out-CaseAlternative x).labels + suc (statements_size site (statements_of ss))) b (cases_size site (cases_of (drop (k + 1) xs)) rest)) (sym goes))
    (both_capped labels chosen size (labels_size (out-CaseAlternative x).labels) (suc (statements_size site (statements_of ss))) (l ∙ ap (λ (x : List Bounds). capped (labels_size x)) b) c s) j p

three_more : (a s n : ℕ) → a ≡ capped n → s ≡ capped (a + 3) → s ≡ capped (3 + n)
three_more a s n e f = omega (arith, e, f)

pub delays_counted : (site : Site) (xs : List DelayAlternative) (k : ℕ) (x : DelayAlternative) (ss : List Statement) (all : ℕ) (parts next : Joined) (chosen size : ℕ) (g : Bool)
    → k < length xs → x ≡ get_or xs k x → ss ≡ (out-DelayAlternative x).actions
    → chosen ≡ capped (suc (statements_size site (statements_of ss))) → size ≡ capped (chosen + 3)
    → g ≡ go_on (statements_of ss) → IsJoined parts size g next
    → capped (size_before parts (delays_size site (delays_of (drop k xs)))) ≡ capped all
    → capped (size_before next (delays_size site (delays_of (drop (k + 1) xs)))) ≡ capped all
delays_counted site xs k x ss all parts next chosen size g h e a c s goes j p =
    more_joined parts next (λ n. all) (λ n. delays_size site (delays_of (drop k xs))) (λ n. delays_size site (delays_of (drop (k + 1) xs))) size (3 + suc (statements_size site (statements_of ss))) g
    (λ rest. ap (λ (ds : DelayNodes). delays_size site ds) (delays_at xs k x ss h e a)
    ∙ ap (λ (b : Bool). joined (3 + suc (statements_size site (statements_of ss))) b (delays_size site (delays_of (drop (k + 1) xs)))) (sym goes))
    (three_more chosen size (suc (statements_size site (statements_of ss))) c s) j (λ n. p) 0

pub receives_counted : (site : Site) (xs : List ReceiveAlternative) (k : ℕ) (x : ReceiveAlternative) (ss : List Statement) (f : ℕ → ℕ) (parts next : Joined) (chosen size : ℕ) (g : Bool)
    → k < length xs → x ≡ get_or xs k x → ss ≡ (out-ReceiveAlternative x).actions
    → chosen ≡ capped (suc (statements_size site (statements_of ss))) → size ≡ capped (chosen + 3)
    → g ≡ go_on (statements_of ss) → IsJoined parts size g next
    → ((rest : ℕ) → capped (size_before parts (receives_size site (receives_of (drop k xs)) rest)) ≡ capped (f rest))
    → (rest : ℕ) → capped (size_before next (receives_size site (receives_of (drop (k + 1) xs)) rest)) ≡ capped (f rest)
receives_counted site xs k x ss f parts next chosen size g h e a c s goes j p =
    more_joined parts next f (receives_size site (receives_of (drop k xs))) (receives_size site (receives_of (drop (k + 1) xs))) size (3 + suc (statements_size site (statements_of ss))) g
    (λ rest. ap (λ (rs : ReceiveNodes). receives_size site rs rest) (receives_at xs k x ss h e a)
    ∙ ap (λ (b : Bool). joined (3 + suc (statements_size site (statements_of ss))) b (receives_size site (receives_of (drop (k + 1) xs)) rest)) (sym goes))
    (three_more chosen size (suc (statements_size site (statements_of ss))) c s) j p

-- ---- statements

both_joined : (none one two : Joined) (size m n k : ℕ) (g : Bool) → ((rest : ℕ) → size_before none rest ≡ rest)
    → IsJoined none size g one → IsJoined one m false two → size ≡ capped n → m ≡ capped k → two.size ≤ 4294967295 → two.size ≡ capped (joined n g k)
both_joined none one two size m n k g z i j e f few =
    last_joined one two (λ r. joined n g r) m k (λ rest. i n rest e ∙ ap (λ (r : ℕ). capped r) (z (joined n g rest))) j f few

pub guarded_counted : (site : Site) (s : Statement) (h : Box Handler Global) (a b : Action) (c : Handler) (none one two : Joined) (size m : ℕ) (g : Bool)
    → (out-Statement s).handler ≡ Some h → a ≡ (out-Statement s).action.value → b ≡ (out-Statement s).action.value → c ≡ h.value
    → size ≡ capped (action_size site (action_tree a)) → g ≡ action_goes_on (action_tree b) → m ≡ capped (handler_size site (handler_tree c))
    → ((rest : ℕ) → size_before none rest ≡ rest) → IsJoined none size g one → IsJoined one m false two → two.size ≤ 4294967295
    → two.size ≡ capped (statement_size site (statement_tree s))
guarded_counted site s h a b c none one two size m g is ea eb ec i j k z p q few =
    let t : statement_tree s ≡ statement (out-Statement s).labelled (action_tree (out-Statement s).action.value) (handler_of (Some h)) =
    statement_tree-out s ∙ ap (λ (o : Option (Box Handler Global)). statement (out-Statement s).labelled (action_tree (out-Statement s).action.value) (handler_of o)) is in
    both_joined none one two size m (action_size site (action_tree (out-Statement s).action.value)) (handler_size site (handler_tree h.value)) g z p q
    (i ∙ ap (λ (x : Action). capped (action_size site (action_tree x))) ea) (k ∙ ap (λ (x : Handler). capped (handler_size site (handler_tree x))) ec) few
    ∙ ap (λ (x : Bool). capped (joined (action_size site (action_tree (out-Statement s).action.value)) x (handler_size site (handler_tree h.value)))) (j ∙ ap (λ (x : Action). action_goes_on (action_tree x)) eb)
    ∙ ap (λ (x : StatementTree). capped (statement_size site x)) (sym t)

pub if_counted : (site : Site) (a : Action) (cs ds : List Choice) (ss ts : List Statement) (parts all : Joined) (last : ℕ)
    → a ≡ actions.If cs ss → ds ≡ cs → ts ≡ ss
    → Joins parts (choices_size site (choices_of ds)) → last ≡ capped (statements_size site (statements_of ts)) → IsJoined parts last false all → all.size ≤ 4294967295
    → all.size ≡ capped (action_size site (action_tree a))
if_counted site a cs ds ss ts parts all last is ed et p e j few =
    last_joined parts all (choices_size site (choices_of ds)) last (statements_size site (statements_of ts)) p j e few
    ∙ ap (λ (x : List Choice). capped (choices_size site (choices_of x) (statements_size site (statements_of ts)))) ed
    ∙ ap (λ (x : List Statement). capped (choices_size site (choices_of cs) (statements_size site (statements_of x)))) et
    ∙ ap (λ (x : ActionTree). capped (action_size site x)) (sym (ap action_tree is ∙ action_tree-If cs ss))

-- ---- alternatives

pub case_counted : (site : Site) (a : Action) (e : Box Expr Global) (cs ds : List CaseAlternative) (ss ts : List Statement) (selector : Expr) (last size : ℕ)
    → a ≡ actions.Case e cs (Some ss) → ds ≡ cs → ts ≡ ss → selector ≡ e.value → last ≡ capped (statements_size site (statements_of ts))
    → ((n : ℕ) → last ≡ capped n → size ≡ capped (expr_size (expr_tree selector) + suc (cases_size site (cases_of ds) n)))
    → size ≡ capped (action_size site (action_tree a))
case_counted site a e cs ds ss ts selector last size is ed et es l k =
    k (statements_size site (statements_of ts)) l
    ∙ ap (λ (x : List CaseAlternative). capped (expr_size (expr_tree selector) + suc (cases_size site (cases_of x) (statements_size site (statements_of ts))))) ed
    ∙ ap (λ (x : List Statement). capped (expr_size (expr_tree selector) + suc (cases_size site (cases_of cs) (statements_size site (statements_of x))))) et
    ∙ ap (λ (x : Expr). capped (expr_size (expr_tree x) + suc (cases_size site (cases_of cs) (statements_size site (statements_of ss))))) es
    ∙ ap (λ (x : ActionTree). capped (action_size site x)) (sym (ap action_tree is ∙ action_tree-Case e cs (Some ss)))

-- ---- ends of loops

pub statements_none : (site : Site) (xs : List Statement) (k : ℕ) → length xs ≤ k → statements_size site (statements_of (drop k xs)) ≡ 0
statements_none site xs k h = ap (λ (ss : StatementNodes). statements_size site ss) (statements_end xs k h)
