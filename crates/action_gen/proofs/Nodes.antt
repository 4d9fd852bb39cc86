-- The items of lists of statements and of alternatives that a loop goes along, and the nodes of those that are left.
use Rattle.std.proofs.Common.{◌≡◌, ℕ, ◌+◌, ◌<◌, ◌≤◌, List, [], ◌∷◌, length, get_or, drop, map, refl, sym, ap, ◌∙◌, Bool, true, false, ◌||◌}
use Rattle.std.proofs.lemmas.List.{at_drop_all}
use Rattle.checked_program.specs.declared.statement.CaseAlternative.{CaseAlternative, out-CaseAlternative}
use Rattle.checked_program.specs.declared.statement.Choice.{Choice, out-Choice}
use Rattle.checked_program.specs.declared.statement.DelayAlternative.{DelayAlternative, out-DelayAlternative}
use Rattle.checked_program.specs.declared.statement.HandlerAlternative.{HandlerAlternative, out-HandlerAlternative}
use Rattle.checked_program.specs.declared.statement.ReceiveAlternative.{ReceiveAlternative, out-ReceiveAlternative}
use Rattle.checked_program.specs.declared.statement.Statement.{Statement}
use Rattle.program_trees.specs.ExprTree.{boxed_expr}
use Rattle.program_trees.specs.StatementTree.{statement_tree, statements_of, StatementNodes, no_statements, more_statements, no_choices, more_choices, no_cases, more_cases, no_delays, more_delays, no_receives, more_receives, no_handled, more_handled, ChoiceTree, CaseTree, NumbersTree, ReceiveTree}
use Rattle.code_scheme.specs.StatementGoing.{go_on, some_handled_goes_on, some_choice_goes_on, some_case_goes_on}
use Rattle.expr_gen.proofs.Items.{item_at}
use Rattle.action_gen.specs.Trees.{choice_tree, case_tree, delay_tree, handled_tree, receive_tree, choices_of, cases_of, delays_of, receives_of, handled_of}
use Rattle.action_gen.proofs.Views.{choice_tree-out, case_tree-out, delay_tree-out, handled_tree-out, receive_tree-out}

pub statements_at : (xs : List Statement) (k : ℕ) (x : Statement) → k < length xs → x ≡ get_or xs k x
    → statements_of (drop k xs) ≡ more_statements (statement_tree x) (statements_of (drop (k + 1) xs))
statements_at xs k x h e = ap statements_of (item_at xs k x h e)

pub statements_end : (xs : List Statement) (k : ℕ) → length xs ≤ k → statements_of (drop k xs) ≡ no_statements
statements_end xs k h = at_drop_all statements_of xs k h

pub handled_at : (xs : List HandlerAlternative) (k : ℕ) (x : HandlerAlternative) (ss : List Statement)
    → k < length xs → x ≡ get_or xs k x → ss ≡ (out-HandlerAlternative x).actions
    → handled_of (drop k xs) ≡ more_handled (out-HandlerAlternative x).exceptions (statements_of ss) (handled_of (drop (k + 1) xs))
handled_at xs k x ss h e f =
    ap handled_of (item_at xs k x h e)
    ∙ ap (λ (t : NumbersTree). more_handled t.numbers t.actions (handled_of (drop (k + 1) xs))) (handled_tree-out x)
    ∙ ap (λ (s : List Statement). more_handled (out-HandlerAlternative x).exceptions (statements_of s) (handled_of (drop (k + 1) xs))) (sym f)

pub handled_end : (xs : List HandlerAlternative) (k : ℕ) → length xs ≤ k → handled_of (drop k xs) ≡ no_handled
handled_end xs k h = at_drop_all handled_of xs k h

pub choices_at : (xs : List Choice) (k : ℕ) (x : Choice) → k < length xs → x ≡ get_or xs k x
    → choices_of (drop k xs) ≡ more_choices (choice_tree x).condition (choice_tree x).actions (choices_of (drop (k + 1) xs))
choices_at xs k x h e = ap choices_of (item_at xs k x h e)

pub choices_end : (xs : List Choice) (k : ℕ) → length xs ≤ k → choices_of (drop k xs) ≡ no_choices
choices_end xs k h = at_drop_all choices_of xs k h

pub choice_actions : (x : Choice) (ss : List Statement) → ss ≡ (out-Choice x).actions → (choice_tree x).actions ≡ statements_of ss
choice_actions x ss f = ap (λ (t : ChoiceTree). t.actions) (choice_tree-out x) ∙ ap statements_of (sym f)

pub cases_at : (xs : List CaseAlternative) (k : ℕ) (x : CaseAlternative) (ss : List Statement)
    → k < length xs → x ≡ get_or xs k x → ss ≡ (out-CaseAlternative x).actions
    → cases_of (drop k xs) ≡ more_cases (out-CaseAlternative x).labels (statements_of ss) (cases_of (drop (k + 1) xs))
cases_at xs k x ss h e f =
    ap cases_of (item_at xs k x h e)
    ∙ ap (λ (t : CaseTree). more_cases t.labels t.actions (cases_of (drop (k + 1) xs))) (case_tree-out x)
    ∙ ap (λ (s : List Statement). more_cases (out-CaseAlternative x).labels (statements_of s) (cases_of (drop (k + 1) xs))) (sym f)

pub cases_end : (xs : List CaseAlternative) (k : ℕ) → length xs ≤ k → cases_of (drop k xs) ≡ no_cases
cases_end xs k h = at_drop_all cases_of xs k h

pub delays_at : (xs : List DelayAlternative) (k : ℕ) (x : DelayAlternative) (ss : List Statement)
    → k < length xs → x ≡ get_or xs k x → ss ≡ (out-DelayAlternative x).actions
    → delays_of (drop k xs) ≡ more_delays (out-DelayAlternative x).events (statements_of ss) (delays_of (drop (k + 1) xs))
delays_at xs k x ss h e f =
    ap delays_of (item_at xs k x h e)
    ∙ ap (λ (t : NumbersTree). more_delays t.numbers t.actions (delays_of (drop (k + 1) xs))) (delay_tree-out x)
    ∙ ap (λ (s : List Statement). more_delays (out-DelayAlternative x).events (statements_of s) (delays_of (drop (k + 1) xs))) (sym f)

pub delays_end : (xs : List DelayAlternative) (k : ℕ) → length xs ≤ k → delays_of (drop k xs) ≡ no_delays
delays_end xs k h = at_drop_all delays_of xs k h

pub receives_at : (xs : List ReceiveAlternative) (k : ℕ) (x : ReceiveAlternative) (ss : List Statement)
    → k < length xs → x ≡ get_or xs k x → ss ≡ (out-ReceiveAlternative x).actions
    → receives_of (drop k xs) ≡ more_receives (out-ReceiveAlternative x).source (out-ReceiveAlternative x).received (statements_of ss) (receives_of (drop (k + 1) xs))
receives_at xs k x ss h e f =
    ap receives_of (item_at xs k x h e)
    ∙ ap (λ (t : ReceiveTree). more_receives t.source t.received t.actions (receives_of (drop (k + 1) xs))) (receive_tree-out x)
    ∙ ap (λ (s : List Statement). more_receives (out-ReceiveAlternative x).source (out-ReceiveAlternative x).received (statements_of s) (receives_of (drop (k + 1) xs))) (sym f)

pub receives_end : (xs : List ReceiveAlternative) (k : ℕ) → length xs ≤ k → receives_of (drop k xs) ≡ no_receives
receives_end xs k h = at_drop_all receives_of xs k h

-- ---- whether control comes behind one of them

pub handled_goes : (xs : List HandlerAlternative) (k : ℕ) (x : HandlerAlternative) (ss : List Statement) (g b : Bool)
    → k < length xs → x ≡ get_or xs k x → ss ≡ (out-HandlerAlternative x).actions → g ≡ go_on (statements_of ss) → g ≡ b
    → some_handled_goes_on (handled_of (drop k xs)) ≡ (b || some_handled_goes_on (handled_of (drop (k + 1) xs)))
handled_goes xs k x ss g b h e f i j =
    ap some_handled_goes_on (handled_at xs k x ss h e f) ∙ ap (λ (c : Bool). c || some_handled_goes_on (handled_of (drop (k + 1) xs))) (sym i ∙ j)

pub choice_goes : (xs : List Choice) (k : ℕ) (x : Choice) (ss : List Statement) (g b : Bool)
    → k < length xs → x ≡ get_or xs k x → ss ≡ (out-Choice x).actions → g ≡ go_on (statements_of ss) → g ≡ b
    → some_choice_goes_on (choices_of (drop k xs)) ≡ (b || some_choice_goes_on (choices_of (drop (k + 1) xs)))
choice_goes xs k x ss g b h e f i j =
    ap some_choice_goes_on (choices_at xs k x h e)
    ∙ ap (λ (c : Bool). c || some_choice_goes_on (choices_of (drop (k + 1) xs))) (ap go_on (choice_actions x ss f) ∙ sym i ∙ j)

pub case_goes : (xs : List CaseAlternative) (k : ℕ) (x : CaseAlternative) (ss : List Statement) (g b : Bool)
    → k < length xs → x ≡ get_or xs k x → ss ≡ (out-CaseAlternative x).actions → g ≡ go_on (statements_of ss) → g ≡ b
    → some_case_goes_on (cases_of (drop k xs)) ≡ (b || some_case_goes_on (cases_of (drop (k + 1) xs)))
case_goes xs k x ss g b h e f i j =
    ap some_case_goes_on (cases_at xs k x ss h e f) ∙ ap (λ (c : Bool). c || some_case_goes_on (cases_of (drop (k + 1) xs))) (sym i ∙ j)
