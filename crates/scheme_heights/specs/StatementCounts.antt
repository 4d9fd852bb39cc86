-- The numbers of scalars in statements and bodies fit each other: what an assignment takes, what tests a condition, what a RETURN
-- gives; and modules and regions stand among the items of a body alone.
use Rattle.std.specs.Prelude.{◌≡◌, ℕ, suc, ◌≤◌, ◌<◌, Bool, true, false, List, [], ◌∷◌, length, ℤ, Option, Some, None, slice_get}
use Rattle.modes.specs.ModeTree.{ModeTree}
use Rattle.modes.specs.Scalars.{lowest_of}
use Rattle.program_trees.specs.ExprTree.{ExprTree, ReceivedTree, LocationTree, count_of, received_count, location_count}
use Rattle.program_trees.specs.StatementTree.{SentTree, to_buffer, signal, ControlTree, while_true, for_ever, for_members, for_steps, StatementTree, statement, ActionTree, do_nothing, declare, set_lowest, module_at, region_at, assign, update, perform, drop_routine, evaluate, put_int, put_text, put_line, exit_from, return_with, set_result, assert_that, cause, stop, start_of, delay, continue_at, send, if_then, case_of, do_loop, begin_end, delay_case, receive_buffers, receive_signals, StatementNodes, no_statements, more_statements, ChoiceNodes, no_choices, more_choices, CaseNodes, no_cases, more_cases, DelayNodes, no_delays, more_delays, ReceiveNodes, no_receives, more_receives, OtherwiseNode, no_otherwise, otherwise, HandledNodes, no_handled, more_handled, HandlerNode, no_handler, handler}
use Rattle.program_trees.specs.ProgramTree.{LocalRowTree, BodyRowTree, CheckedTree}
use Rattle.code_scheme.specs.StatementSite.{Site, result_scalars, call_results}
use Rattle.code_scheme.specs.StatementPlain.{dropped_scalars}
use Rattle.code_scheme.specs.BodyCode.{site_in, results_by}
use Rattle.scheme_heights.specs.Counts.{TakesCounts, CountsFit, ReceivedFits, AllFit, PlaceFits, StartFits, CallFits}

-- ---- parts of actions

-- a value of one scalar
abbrev pub NumberFits : CheckedTree → ExprTree → Type 0
NumberFits p e = CountsFit p e × (count_of e ≡ 1)

abbrev pub SomeNumberFits : CheckedTree → Option ExprTree → Type 0
SomeNumberFits p None = Unit {0}
SomeNumberFits p (Some e) = NumberFits p e

-- a location of one scalar, which gets an instance
abbrev pub SetPlaceFits : CheckedTree → Option LocationTree → Type 0
SetPlaceFits p None = Unit {0}
SetPlaceFits p (Some l) = PlaceFits p l × (location_count l ≡ 1)

abbrev pub SentFits : CheckedTree → SentTree → Type 0
SentFits p (to_buffer b r) = ReceivedFits p r
SentFits p (signal n rs to) = AllFit p rs × SomeNumberFits p to

-- a lowest value that some local gets
abbrev pub LowestFits : List ℕ → List ℤ → Type 0
LowestFits [] xs = Unit {0}
LowestFits (k ∷ ks) xs = length xs ≤ 4294967295

-- a value with as many scalars as the result of the body
abbrev pub GivenFits : Site → ReceivedTree → Type 0
GivenFits site r = ReceivedFits site.program r × (received_count r ≡ result_scalars site.body)

abbrev pub ReturnFits : Site → Option ReceivedTree → Type 0
ReturnFits site None = Unit {0}
ReturnFits site (Some r) = GivenFits site r

abbrev pub ControlFits : CheckedTree → ControlTree → Type 0
ControlFits p (while_true e) = NumberFits p e
ControlFits p for_ever = Unit {0}
ControlFits p (for_members counter e low condition) = NumberFits p e × SomeNumberFits p condition
ControlFits p (for_steps counter from step to down condition) = NumberFits p from × SomeNumberFits p step × NumberFits p to × SomeNumberFits p condition

-- ---- statements, with so many labelled statements around them

-- how many are around what a statement holds
abbrev pub labels_within : Bool → ℕ → ℕ
labels_within false n = n
labels_within true n = suc n

abbrev mutual
  pub StatementsFit : Site → ℕ → StatementNodes → Type 0
  StatementsFit site labels no_statements = Unit {0}
  StatementsFit site labels (more_statements s ss) = StatementFits site labels s × StatementsFit site labels ss

  pub StatementFits : Site → ℕ → StatementTree → Type 0
  StatementFits site labels (statement labelled a h) = ActionFits site (labels_within labelled labels) a × HandlerFits site (labels_within labelled labels) h

  pub HandlerFits : Site → ℕ → HandlerNode → Type 0
  HandlerFits site labels no_handler = Unit {0}
  HandlerFits site labels (handler hs o) = HandledFit site labels hs × OtherwiseFits site labels o

  pub HandledFit : Site → ℕ → HandledNodes → Type 0
  HandledFit site labels no_handled = Unit {0}
  HandledFit site labels (more_handled names ss hs) = StatementsFit site labels ss × HandledFit site labels hs

  pub OtherwiseFits : Site → ℕ → OtherwiseNode → Type 0
  OtherwiseFits site labels no_otherwise = Unit {0}
  OtherwiseFits site labels (otherwise ss) = StatementsFit site labels ss

  pub ActionFits : Site → ℕ → ActionTree → Type 0
  ActionFits site labels do_nothing = Unit {0}
  ActionFits site labels (declare names r) = ReceivedFits site.program r
  ActionFits site labels (set_lowest locals xs) = LowestFits locals xs
  ActionFits site labels (module_at ss) = ⊥
  ActionFits site labels (region_at r ss) = ⊥
  ActionFits site labels (assign l r) = PlaceFits site.program l × ReceivedFits site.program r × (received_count r ≡ location_count l)
  ActionFits site labels (update l o e bounds) =
      PlaceFits site.program l × CountsFit site.program e × TakesCounts o (location_count l) (count_of e) × (location_count l ≡ 1)
  ActionFits site labels (perform c) = CallFits site.program (dropped_scalars site c) c
  ActionFits site labels (drop_routine r e) = NumberFits site.program e
  ActionFits site labels (evaluate e) = CountsFit site.program e
  ActionFits site labels (put_int e) = NumberFits site.program e
  ActionFits site labels (put_text e) = CountsFit site.program e
  ActionFits site labels put_line = Unit {0}
  ActionFits site labels (exit_from k) = k < labels
  ActionFits site labels (return_with r) = ReturnFits site r
  ActionFits site labels (set_result r) = GivenFits site r
  ActionFits site labels (assert_that e) = NumberFits site.program e
  ActionFits site labels (cause x) = Unit {0}
  ActionFits site labels stop = Unit {0}
  ActionFits site labels (start_of t) = StartFits site.program t
  ActionFits site labels (delay e priority) = Unit {0}
  ActionFits site labels (continue_at e) = Unit {0}
  ActionFits site labels (send sent priority) = SentFits site.program sent
  ActionFits site labels (if_then cs ss) = ChoicesFit site labels cs × StatementsFit site labels ss
  ActionFits site labels (case_of e cs o) = NumberFits site.program e × CasesFit site labels cs × OtherwiseFits site labels o
  ActionFits site labels (do_loop c ss) = ControlFits site.program c × StatementsFit site labels ss
  ActionFits site labels (begin_end ss) = StatementsFit site labels ss
  ActionFits site labels (delay_case set priority ds) = SetPlaceFits site.program set × DelaysFit site labels ds
  ActionFits site labels (receive_buffers set rs o) = SetPlaceFits site.program set × ReceivesFit site labels rs × OtherwiseFits site labels o
  ActionFits site labels (receive_signals set rs o) = SetPlaceFits site.program set × ReceivesFit site labels rs × OtherwiseFits site labels o

  pub ChoicesFit : Site → ℕ → ChoiceNodes → Type 0
  ChoicesFit site labels no_choices = Unit {0}
  ChoicesFit site labels (more_choices e ss cs) = NumberFits site.program e × StatementsFit site labels ss × ChoicesFit site labels cs

  pub CasesFit : Site → ℕ → CaseNodes → Type 0
  CasesFit site labels no_cases = Unit {0}
  CasesFit site labels (more_cases bs ss cs) = StatementsFit site labels ss × CasesFit site labels cs

  pub DelaysFit : Site → ℕ → DelayNodes → Type 0
  DelaysFit site labels no_delays = Unit {0}
  DelaysFit site labels (more_delays es ss ds) = StatementsFit site labels ss × DelaysFit site labels ds

  pub ReceivesFit : Site → ℕ → ReceiveNodes → Type 0
  ReceivesFit site labels no_receives = Unit {0}
  ReceivesFit site labels (more_receives thing ks ss rs) = StatementsFit site labels ss × ReceivesFit site labels rs

-- ---- items, which no labelled statement is around

abbrev mutual
  pub ItemsFit : Site → StatementNodes → Type 0
  ItemsFit site no_statements = Unit {0}
  ItemsFit site (more_statements s ss) = ItemFits site s × ItemsFit site ss

  pub ItemFits : Site → StatementTree → Type 0
  ItemFits site (statement labelled a h) = ItemActionFits site labelled a h

  pub ItemActionFits : Site → Bool → ActionTree → HandlerNode → Type 0
  ItemActionFits site labelled (module_at ss) h = ItemsFit site ss × HandlerFits site 0 h
  ItemActionFits site labelled (region_at r ss) h = StatementsFit site 0 ss × HandlerFits site 0 h
  ItemActionFits site labelled a h = StatementFits site 0 (statement labelled a h)

-- ---- bodies

-- a value of each local, and of the result, has no more scalars than 32 bits number
abbrev pub AreFew : List LocalRowTree → Type 0
AreFew [] = Unit {0}
AreFew (row ∷ rows) = (length (lowest_of row.mode) ≤ 4294967295) × AreFew rows

abbrev pub IsFew : Option ModeTree → Type 0
IsFew None = Unit {0}
IsFew (Some m) = length (lowest_of m) ≤ 4294967295

-- a body of a program: its statements and its handler fit, and a process gives nothing back
pub record BodyFits (p : CheckedTree) (b : BodyRowTree) : Type 0 where
  pub items : ItemsFit (site_in p b) b.statements
  pub handled : HandlerFits (site_in p b) 0 b.handler
  pub results : results_by b.sort b ≡ call_results b
  pub locals : AreFew b.locals
  pub result : IsFew b.result

-- a program: there is a body
pub record ProgramFits (p : CheckedTree) : Type 0 where
  pub some : 0 < length p.bodies
  pub bodies : (k : ℕ) (b : BodyRowTree) → slice_get p.bodies k ≡ Some b → BodyFits p b

-- what is asked of a typed program besides: the statements and the handlers of its bodies fit
abbrev pub TextFits : CheckedTree → Type 0
TextFits p = (k : ℕ) (b : BodyRowTree) → slice_get p.bodies k ≡ Some b → ItemsFit (site_in p b) b.statements × HandlerFits (site_in p b) 0 b.handler
