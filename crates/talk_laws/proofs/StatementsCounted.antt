-- The numbers of scalars in the statements of a typed program in range fit each other.
use Rattle.std.proofs.Common.{◌≡◌, ◌∷◌, [], List, ℕ, ℤ, length, Bool, true, false, Option, Some, None, refl, subst, arith}
use Rattle.modes.specs.ModeTree.{ModeTree}
use Rattle.program_trees.specs.ExprTree.{ExprTree, ReceivedTree, LocationTree, location_count, count_of}
use Rattle.program_trees.specs.StatementTree.{SentTree, to_buffer, signal, ControlTree, while_true, for_ever, for_members, for_steps, StatementTree, statement, ActionTree, do_nothing, declare, set_lowest, module_at, region_at, assign, update, perform, drop_routine, evaluate, put_int, put_text, put_line, exit_from, return_with, set_result, assert_that, cause, stop, start_of, delay, continue_at, send, if_then, case_of, do_loop, begin_end, delay_case, receive_buffers, receive_signals, StatementNodes, no_statements, more_statements, ChoiceNodes, no_choices, more_choices, CaseNodes, no_cases, more_cases, DelayNodes, no_delays, more_delays, ReceiveNodes, no_receives, more_receives, OtherwiseNode, no_otherwise, otherwise, HandledNodes, no_handled, more_handled, HandlerNode, no_handler, handler}
use Rattle.program_trees.specs.ProgramTree.{CheckedTree}
use Rattle.source_meaning.specs.TypedValues.{Context, HasMode}
use Rattle.source_meaning.specs.StatementMeaning.{is_label}
use Rattle.source_meaning.specs.TypedStatements.{Around, IsSomeCondition, IsReceiver, TakesInstance, IsStepped, IsTypedSend, IsTypedControl, IsTypedReturn, Brings, BufferBrings, SignalHas, labelled_around, around_action, around_handler, IsTypedStatement, AreTyped, IsTypedHandler, AreTypedAlternatives, IsTypedOtherwise, IsTypedAction, AreTypedChoices, AreTypedCases, AreTypedDelays, AreTypedReceives}
use Rattle.source_meaning.specs.Typed.{around_body, IsTyped}
use Rattle.modes.specs.Form.{FormTree, form_of}
use Rattle.code_scheme.specs.Pieces.{Layout}
use Rattle.code_scheme.specs.StatementSite.{Site, layout}
use Rattle.code_scheme.specs.StatementPlain.{dropped_scalars}
use Rattle.code_scheme.specs.BodyCode.{site_in}
use Rattle.code_laws.specs.InRange.{IsNumber32}
use Rattle.code_laws.specs.StatementsInRange.{FitsNumber, FitsSomeNumber, FitsResult, FitsReturn, FitsSet, FitsSent, FitsControl, labels_with, FitsStatements, FitsStatement, FitsHandler, FitsHandled, FitsOtherwise, FitsAction, FitsChoices, FitsCases, FitsDelays, FitsReceives, FitsItems, FitsItem, FitsProgram}
use Rattle.scheme_heights.specs.StatementCounts.{LowestFits, NumberFits, SomeNumberFits, SetPlaceFits, SentFits, GivenFits, ReturnFits, ControlFits, labels_within, StatementsFit, StatementFits, HandlerFits, HandledFit, OtherwiseFits, ActionFits, ChoicesFit, CasesFit, DelaysFit, ReceivesFit, ItemsFit, ItemFits, TextFits}
use Rattle.talk_laws.proofs.CountsInRange.{StandsTyped, takes_counts, values_taken, expr_counts, received_counts, all_counts, place_counts, start_counts, call_counts}

-- ---- where statements stand

-- a statement of a body of a program in range, by its numbers and by its modes
pub record StandsAround (site : Site) (at : Around) : Type 0 where
  pub in_range : FitsProgram site.program
  pub same : at.context.program ≡ site.program

in_context : (site : Site) (at : Around) → StandsAround site at → StandsTyped (layout site) at.context
in_context site at st = record { in_range = st.in_range; same = st.same }

in_label : (site : Site) (labelled : Bool) (at : Around) → StandsAround site at → StandsAround site (labelled_around labelled at)
in_label site false at st = st
in_label site true at st = record { in_range = st.in_range; same = st.same }

in_action : (site : Site) (labelled : Bool) (a : ActionTree) (at : Around) → StandsAround site at → StandsAround site (around_action labelled a at)
in_action site labelled (region_at r ss) at st = record { in_range = st.in_range; same = st.same }
in_action site labelled a at st = in_label site (is_label labelled a) at st

in_handler : (site : Site) (region : Option ℕ) (labelled : Bool) (a : ActionTree) (at : Around) → StandsAround site at → StandsAround site (around_handler region labelled a at)
in_handler site region true do_nothing at st = record { in_range = st.in_range; same = st.same }
in_handler site region false do_nothing at st = record { in_range = st.in_range; same = st.same }
in_handler site region labelled a at st = in_action site labelled a at st

same_labels : (labelled : Bool) (n : ℕ) → labels_with labelled n ≡ labels_within labelled n
same_labels false n = refl
same_labels true n = refl

-- ---- parts of actions

number_counts : (lay : Layout) (c : Context) (e : ExprTree) (m : ModeTree) → StandsTyped lay c → HasMode c e m → FitsNumber lay e → NumberFits lay.program e
number_counts lay c e m st typed fits = (expr_counts lay c e m st typed fits.0, fits.1)

some_condition_counts : (lay : Layout) (c : Context) (o : Option ExprTree) → StandsTyped lay c → IsSomeCondition c o → FitsSomeNumber lay o → SomeNumberFits lay.program o
some_condition_counts lay c None st typed fits = tt
some_condition_counts lay c (Some e) st typed fits = number_counts lay c e typed.0 st typed.1 fits

receiver_counts : (lay : Layout) (c : Context) (o : Option ExprTree) → StandsTyped lay c → IsReceiver c o → FitsSomeNumber lay o → SomeNumberFits lay.program o
receiver_counts lay c None st typed fits = tt
receiver_counts lay c (Some e) st typed fits = number_counts lay c e typed.0 st typed.1 fits

step_counts : (lay : Layout) (c : Context) (o : Option ExprTree) (f : FormTree) → StandsTyped lay c → IsStepped c o f → FitsSomeNumber lay o → SomeNumberFits lay.program o
step_counts lay c None f st typed fits = tt
step_counts lay c (Some e) f st typed fits = number_counts lay c e typed.0.0 st typed.0.1 fits

set_counts : (lay : Layout) (c : Context) (o : Option LocationTree) → StandsTyped lay c → TakesInstance c o → FitsSet lay o → SetPlaceFits lay.program o
set_counts lay c None st typed fits = tt
set_counts lay c (Some l) st typed fits = (place_counts lay c l typed.0 st typed.1 fits.0, fits.1)

sent_counts : (lay : Layout) (c : Context) (t : SentTree) → StandsTyped lay c → IsTypedSend c t → FitsSent lay t → SentFits lay.program t
sent_counts lay c (to_buffer b r) st typed fits = received_counts lay c r typed.0 st typed.2 fits
sent_counts lay c (signal n rs to) st typed fits = (all_counts lay c rs st (values_taken c rs typed.0.0 typed.0.2) fits.0, receiver_counts lay c to st typed.1 fits.1)

control_counts : (lay : Layout) (c : Context) (t : ControlTree) → StandsTyped lay c → IsTypedControl c t → FitsControl lay t → ControlFits lay.program t
control_counts lay c (while_true e) st typed fits = number_counts lay c e typed.0 st typed.1 fits
control_counts lay c for_ever st typed fits = tt
control_counts lay c (for_members counter e low condition) st typed fits = (
  number_counts lay c e typed.0.0 st typed.0.3 fits.1,
  some_condition_counts lay c condition st typed.1 fits.2,
)
control_counts lay c (for_steps counter e step f down condition) st typed fits = (
  number_counts lay c e typed.0.1 st typed.0.4 fits.1,
  step_counts lay c step (form_of typed.0.1) st typed.0.10 fits.2,
  number_counts lay c f typed.0.2 st typed.0.5 fits.3,
  some_condition_counts lay c condition st typed.1 fits.4,
)

given_counts : (site : Site) (at : Around) (r : ReceivedTree) → StandsAround site at → IsTypedReturn at (Some r) → FitsResult site r → GivenFits site r
given_counts site at r st typed fits = (received_counts (layout site) at.context r typed.1 (in_context site at st) typed.3 fits.0, fits.1)

return_counts : (site : Site) (at : Around) (o : Option ReceivedTree) → StandsAround site at → IsTypedReturn at o → FitsReturn site o → ReturnFits site o
return_counts site at None st typed fits = tt
return_counts site at (Some r) st typed fits = given_counts site at r st typed fits

-- what alternatives do is typed, whatever they receive
abbrev pub AreTypedInside : Around → ReceiveNodes → Type 0
AreTypedInside at no_receives = Unit {0}
AreTypedInside at (more_receives source ks ss rs) = AreTyped at ss × AreTypedInside at rs

typed_inside : (at : Around) (brings : Brings) (rs : ReceiveNodes) → AreTypedReceives at brings rs → AreTypedInside at rs
typed_inside at brings no_receives typed = tt
typed_inside at brings (more_receives source ks ss rs) typed = (typed.1, typed_inside at brings rs typed.2)

-- a value of fewer than 2^32 scalars may be the lowest of any locals
lowest_counts : (locals : List ℕ) (xs : List ℤ) → IsNumber32 (length xs) → LowestFits locals xs
lowest_counts [] xs few = tt
lowest_counts (k ∷ ks) xs few = omega (arith, few)

-- ---- statements

mutual
  statements_counts : (site : Site) (at : Around) (n : ℕ) (ss : StatementNodes) → StandsAround site at → AreTyped at ss → FitsStatements site n ss → StatementsFit site n ss
  statements_counts site at n no_statements st typed fits = tt
  statements_counts site at n (more_statements s ss) st typed fits = (statement_counts site at n s st typed.0 fits.0, statements_counts site at n ss st typed.1 fits.1)

  statement_counts : (site : Site) (at : Around) (n : ℕ) (s : StatementTree) → StandsAround site at → IsTypedStatement at s → FitsStatement site n s → StatementFits site n s
  statement_counts site at n (statement labelled a h) st typed fits =
      let same = same_labels labelled n in (
        subst (λ (k : ℕ). ActionFits site k a) same (action_counts site (around_action labelled a at) (labels_with labelled n) a (in_action site labelled a at st) typed.1 fits.0),
        subst (λ (k : ℕ). HandlerFits site k h) same (handler_counts site (around_handler typed.2.0 labelled a at) (labels_with labelled n) h (in_handler site typed.2.0 labelled a at st) typed.2.1 fits.1),
      )

  handler_counts : (site : Site) (at : Around) (n : ℕ) (h : HandlerNode) → StandsAround site at → IsTypedHandler at h → FitsHandler site n h → HandlerFits site n h
  handler_counts site at n no_handler st typed fits = tt
  handler_counts site at n (handler hs o) st typed fits = (handled_counts site at n hs st typed.0 fits.0, otherwise_counts site at n o st typed.1 fits.1)

  handled_counts : (site : Site) (at : Around) (n : ℕ) (hs : HandledNodes) → StandsAround site at → AreTypedAlternatives at hs → FitsHandled site n hs → HandledFit site n hs
  handled_counts site at n no_handled st typed fits = tt
  handled_counts site at n (more_handled names ss hs) st typed fits = (statements_counts site at n ss st typed.0 fits.0, handled_counts site at n hs st typed.1 fits.1)

  otherwise_counts : (site : Site) (at : Around) (n : ℕ) (o : OtherwiseNode) → StandsAround site at → IsTypedOtherwise at o → FitsOtherwise site n o → OtherwiseFits site n o
  otherwise_counts site at n no_otherwise st typed fits = tt
  otherwise_counts site at n (otherwise ss) st typed fits = statements_counts site at n ss st typed fits

  action_counts : (site : Site) (at : Around) (n : ℕ) (a : ActionTree) → StandsAround site at → IsTypedAction at a → FitsAction site n a → ActionFits site n a
  action_counts site at n do_nothing st typed fits = tt
  action_counts site at n (declare names r) st typed fits = received_counts (layout site) at.context r typed.0 (in_context site at st) typed.2 fits.0
  action_counts site at n (set_lowest locals xs) st typed fits = lowest_counts locals xs fits.1
  action_counts site at n (module_at ss) st typed fits = fits
  action_counts site at n (region_at r ss) st typed fits = fits
  action_counts site at n (assign l r) st typed fits = (
    place_counts (layout site) at.context l typed.0 (in_context site at st) typed.1 fits.0,
    received_counts (layout site) at.context r typed.0 (in_context site at st) typed.2 fits.1,
    fits.2,
  )
  action_counts site at n (update l o e bounds) st typed fits = (
    place_counts (layout site) at.context l typed.0 (in_context site at st) typed.3 fits.0,
    expr_counts (layout site) at.context e typed.1 (in_context site at st) typed.4 fits.1,
    takes_counts o (location_count l) (count_of e) fits.2,
    fits.3,
  )
  action_counts site at n (perform t) st typed fits = call_counts (layout site) at.context (dropped_scalars site t) t typed.0 (in_context site at st) typed.1 fits
  action_counts site at n (drop_routine r e) st typed fits = number_counts (layout site) at.context e typed.0 (in_context site at st) typed.2 fits
  action_counts site at n (evaluate e) st typed fits = expr_counts (layout site) at.context e typed.0 (in_context site at st) typed.1 fits
  action_counts site at n (put_int e) st typed fits = number_counts (layout site) at.context e typed.0 (in_context site at st) typed.1 fits
  action_counts site at n (put_text e) st typed fits = expr_counts (layout site) at.context e typed.0 (in_context site at st) typed.2 fits
  action_counts site at n put_line st typed fits = tt
  action_counts site at n (exit_from k) st typed fits = fits
  action_counts site at n (return_with r) st typed fits = return_counts site at r st typed fits
  action_counts site at n (set_result r) st typed fits = given_counts site at r st typed fits
  action_counts site at n (assert_that e) st typed fits = number_counts (layout site) at.context e typed.0 (in_context site at st) typed.1 fits
  action_counts site at n (cause x) st typed fits = tt
  action_counts site at n stop st typed fits = tt
  action_counts site at n (start_of t) st typed fits = start_counts (layout site) at.context t (in_context site at st) typed fits
  action_counts site at n (delay e priority) st typed fits = tt
  action_counts site at n (continue_at e) st typed fits = tt
  action_counts site at n (send sent priority) st typed fits = sent_counts (layout site) at.context sent (in_context site at st) typed.0 fits
  action_counts site at n (if_then cs ss) st typed fits = (choices_counts site at n cs st typed.0 fits.0, statements_counts site at n ss st typed.1 fits.1)
  action_counts site at n (case_of e cs o) st typed fits = (
    number_counts (layout site) at.context e typed.0.0 (in_context site at st) typed.0.2 fits.0,
    cases_counts site at n cs st typed.1 fits.1,
    otherwise_counts site at n o st typed.2 fits.2,
  )
  action_counts site at n (do_loop control ss) st typed fits = (control_counts (layout site) at.context control (in_context site at st) typed.0 fits.0, statements_counts site at n ss st typed.1 fits.1)
  action_counts site at n (begin_end ss) st typed fits = statements_counts site at n ss st typed fits
  action_counts site at n (delay_case set priority ds) st typed fits = (set_counts (layout site) at.context set (in_context site at st) typed.0 fits.0, delays_counts site at n ds st typed.2 fits.2)
  action_counts site at n (receive_buffers set rs o) st typed fits = (
    set_counts (layout site) at.context set (in_context site at st) typed.0 fits.0,
    receives_counts site at n rs st (typed_inside at (BufferBrings at.context) rs typed.1) fits.1,
    otherwise_counts site at n o st typed.2 fits.2,
  )
  action_counts site at n (receive_signals set rs o) st typed fits = (
    set_counts (layout site) at.context set (in_context site at st) typed.0 fits.0,
    receives_counts site at n rs st (typed_inside at (SignalHas at.context) rs typed.1) fits.1,
    otherwise_counts site at n o st typed.2 fits.2,
  )

  choices_counts : (site : Site) (at : Around) (n : ℕ) (cs : ChoiceNodes) → StandsAround site at → AreTypedChoices at cs → FitsChoices site n cs → ChoicesFit site n cs
  choices_counts site at n no_choices st typed fits = tt
  choices_counts site at n (more_choices e ss cs) st typed fits = (
    number_counts (layout site) at.context e typed.0.0 (in_context site at st) typed.0.1 fits.0,
    statements_counts site at n ss st typed.1 fits.1,
    choices_counts site at n cs st typed.2 fits.2,
  )

  cases_counts : (site : Site) (at : Around) (n : ℕ) (cs : CaseNodes) → StandsAround site at → AreTypedCases at cs → FitsCases site n cs → CasesFit site n cs
  cases_counts site at n no_cases st typed fits = tt
  cases_counts site at n (more_cases labels ss cs) st typed fits = (statements_counts site at n ss st typed.0 fits.0, cases_counts site at n cs st typed.1 fits.1)

  delays_counts : (site : Site) (at : Around) (n : ℕ) (ds : DelayNodes) → StandsAround site at → AreTypedDelays at ds → FitsDelays site n ds → DelaysFit site n ds
  delays_counts site at n no_delays st typed fits = tt
  delays_counts site at n (more_delays es ss ds) st typed fits = (statements_counts site at n ss st typed.1 fits.1, delays_counts site at n ds st typed.2 fits.2)

  receives_counts : (site : Site) (at : Around) (n : ℕ) (rs : ReceiveNodes) → StandsAround site at → AreTypedInside at rs → FitsReceives site n rs → ReceivesFit site n rs
  receives_counts site at n no_receives st typed fits = tt
  receives_counts site at n (more_receives source ks ss rs) st typed fits = (statements_counts site at n ss st typed.0 fits.2, receives_counts site at n rs st typed.1 fits.3)

-- ---- bodies

mutual
  items_counts : (site : Site) (at : Around) (ss : StatementNodes) → StandsAround site at → AreTyped at ss → FitsItems site ss → ItemsFit site ss
  items_counts site at no_statements st typed fits = tt
  items_counts site at (more_statements s ss) st typed fits = (item_counts site at s st typed.0 fits.0, items_counts site at ss st typed.1 fits.1)

  item_counts : (site : Site) (at : Around) (s : StatementTree) → StandsAround site at → IsTypedStatement at s → FitsItem site s → ItemFits site s
  item_counts site at (statement labelled (module_at ss) h) st typed fits = (
    items_counts site (around_action labelled (module_at ss) at) ss (in_action site labelled (module_at ss) at st) typed.1 fits.0,
    handler_counts site (around_handler typed.2.0 labelled (module_at ss) at) 0 h (in_handler site typed.2.0 labelled (module_at ss) at st) typed.2.1 fits.1,
  )
  item_counts site at (statement labelled (region_at r ss) h) st typed fits = (
    statements_counts site (around_action labelled (region_at r ss) at) 0 ss (in_action site labelled (region_at r ss) at st) typed.1.1 fits.0,
    handler_counts site (around_handler typed.2.0 labelled (region_at r ss) at) 0 h (in_handler site typed.2.0 labelled (region_at r ss) at st) typed.2.1 fits.1,
  )
  item_counts site at (statement labelled a h) st typed fits = statement_counts site at 0 (statement labelled a h) st typed fits

pub text_fits : (p : CheckedTree) → IsTyped p → FitsProgram p → TextFits p
text_fits p typed in_range k b is =
    let body = typed.bodies k b is in
    let whole = in_range.bodies k b is in
    let st : StandsAround (site_in p b) (around_body p b) = record { in_range = in_range; same = refl } in (
      items_counts (site_in p b) (around_body p b) b.statements st body.statements whole.statements,
      handler_counts (site_in p b) (around_body p b) 0 b.handler st body.handler whole.handler,
    )
