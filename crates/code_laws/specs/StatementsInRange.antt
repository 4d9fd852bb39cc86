-- When the numbers in statements, bodies and programs are in range, as those of a program are that may be compiled.
use Rattle.std.specs.Prelude.{◌≡◌, ℕ, suc, ◌+◌, ◌<◌, ◌≤◌, Bool, true, false, List, [], ◌∷◌, length, Option, Some, None, slice_get, All}
use Rattle.modes.specs.Scalars.{scalars_of}
use Rattle.program_trees.specs.ExprTree.{ExprTree, ReceivedTree, LocationTree, count_of, received_count, location_count}
use Rattle.program_trees.specs.StatementTree.{SentTree, to_buffer, signal, ControlTree, while_true, for_ever, for_members, for_steps, StatementTree, statement, ActionTree, do_nothing, declare, set_lowest, module_at, region_at, assign, update, perform, drop_routine, evaluate, put_int, put_text, put_line, exit_from, return_with, set_result, assert_that, cause, stop, start_of, delay, continue_at, send, if_then, case_of, do_loop, begin_end, delay_case, receive_buffers, receive_signals, StatementNodes, no_statements, more_statements, ChoiceNodes, no_choices, more_choices, CaseNodes, no_cases, more_cases, DelayNodes, no_delays, more_delays, ReceiveNodes, no_receives, more_receives, OtherwiseNode, no_otherwise, otherwise, HandledNodes, no_handled, more_handled, HandlerNode, no_handler, handler}
use Rattle.program_trees.specs.ProgramTree.{LocalRowTree, BodyRowTree, CheckedTree}
use Rattle.code_scheme.specs.Pieces.{Layout}
use Rattle.code_scheme.specs.StatementSite.{Site, layout, result_scalars}
use Rattle.code_scheme.specs.StatementPlain.{dropped_scalars}
use Rattle.code_laws.specs.Calls.{result_scalars as scalars_of_mode}
use Rattle.code_laws.specs.InRange.{IsNumber32, BaseFits, OperandsFit, FitsExpr, FitsReceived, FitsAll, FitsLocation, FitsStart, FitsCall}

-- a local of so many scalars
abbrev pub LocalFits : Layout → ℕ → ℕ → Type 0
LocalFits lay n k = (row : LocalRowTree) × (slice_get lay.rows k ≡ Some row) × (row.count ≡ n)

-- an expression of one scalar
abbrev pub FitsNumber : Layout → ExprTree → Type 0
FitsNumber lay e = FitsExpr lay e × (count_of e ≡ 1)

abbrev pub FitsSomeNumber : Layout → Option ExprTree → Type 0
FitsSomeNumber lay None = Unit {0}
FitsSomeNumber lay (Some e) = FitsNumber lay e

-- a value of as many scalars as the result of the body has
abbrev pub FitsResult : Site → ReceivedTree → Type 0
FitsResult site r = FitsReceived (layout site) r × (received_count r ≡ result_scalars site.body)

abbrev pub FitsReturn : Site → Option ReceivedTree → Type 0
FitsReturn site None = Unit {0}
FitsReturn site (Some r) = FitsResult site r

-- the location after SET gets one number
abbrev pub FitsSet : Layout → Option LocationTree → Type 0
FitsSet lay None = Unit {0}
FitsSet lay (Some l) = FitsLocation lay l × (location_count l ≡ 1)

-- locals that follow each other, the first of them this scalar
abbrev pub FollowFrom : Layout → ℕ → List ℕ → Type 0
FollowFrom lay first [] = Unit {0}
FollowFrom lay first (k ∷ ks) = (row : LocalRowTree) × (slice_get lay.rows k ≡ Some row) × (row.first ≡ first) × FollowFrom lay (row.first + row.count) ks

abbrev pub FollowEachOther : Layout → List ℕ → Type 0
FollowEachOther lay [] = Unit {0}
FollowEachOther lay (k ∷ ks) = (row : LocalRowTree) × (slice_get lay.rows k ≡ Some row) × FollowFrom lay (row.first + row.count) ks

-- there is an exception of this number
abbrev pub IsException : CheckedTree → ℕ → Type 0
IsException p x = x < 7 + length p.exceptions

abbrev pub FitsSent : Layout → SentTree → Type 0
FitsSent lay (to_buffer b r) = FitsReceived lay r
FitsSent lay (signal n rs to) = FitsAll lay rs × FitsSomeNumber lay to

-- how many alternatives a DELAY CASE has
abbrev pub count_of_delays : DelayNodes → ℕ
count_of_delays no_delays = 0
count_of_delays (more_delays es ss ds) = suc (count_of_delays ds)

-- the control of a DO, whose counter is a local of one scalar
abbrev pub FitsControl : Layout → ControlTree → Type 0
FitsControl lay (while_true e) = FitsNumber lay e
FitsControl lay for_ever = Unit {0}
FitsControl lay (for_members counter e low condition) = LocalFits lay 1 counter × FitsNumber lay e × FitsSomeNumber lay condition
FitsControl lay (for_steps counter e step f down condition) = LocalFits lay 1 counter × FitsNumber lay e × FitsSomeNumber lay step × FitsNumber lay f × FitsSomeNumber lay condition

-- the labelled statements around what a statement holds
abbrev pub labels_with : Bool → ℕ → ℕ
labels_with false n = n
labels_with true n = suc n

-- ---- statements within so many labelled ones

abbrev mutual
  pub FitsStatements : Site → ℕ → StatementNodes → Type 0
  FitsStatements site n no_statements = Unit {0}
  FitsStatements site n (more_statements s ss) = FitsStatement site n s × FitsStatements site n ss

  pub FitsStatement : Site → ℕ → StatementTree → Type 0
  FitsStatement site n (statement labelled a h) = FitsAction site (labels_with labelled n) a × FitsHandler site (labels_with labelled n) h

  pub FitsHandler : Site → ℕ → HandlerNode → Type 0
  FitsHandler site n no_handler = Unit {0}
  FitsHandler site n (handler hs o) = FitsHandled site n hs × FitsOtherwise site n o

  pub FitsHandled : Site → ℕ → HandledNodes → Type 0
  FitsHandled site n no_handled = Unit {0}
  FitsHandled site n (more_handled names ss hs) = FitsStatements site n ss × FitsHandled site n hs

  pub FitsOtherwise : Site → ℕ → OtherwiseNode → Type 0
  FitsOtherwise site n no_otherwise = Unit {0}
  FitsOtherwise site n (otherwise ss) = FitsStatements site n ss

  -- a module or a region stands among the items of a body alone
  pub FitsAction : Site → ℕ → ActionTree → Type 0
  FitsAction site n do_nothing = Unit {0}
  FitsAction site n (declare names r) = FitsReceived (layout site) r × All (λ b. BaseFits (layout site) b (received_count r)) names
  FitsAction site n (set_lowest locals xs) = All (LocalFits (layout site) (length xs)) locals × IsNumber32 (length xs)
  FitsAction site n (module_at ss) = ⊥
  FitsAction site n (region_at r ss) = ⊥
  FitsAction site n (assign l r) = FitsLocation (layout site) l × FitsReceived (layout site) r × (received_count r ≡ location_count l)
  FitsAction site n (update l o e bounds) = FitsLocation (layout site) l × FitsExpr (layout site) e × OperandsFit o (location_count l) (count_of e) × (location_count l ≡ 1)
  FitsAction site n (perform t) = FitsCall (layout site) t (dropped_scalars site t)
  FitsAction site n (drop_routine r e) = FitsNumber (layout site) e
  FitsAction site n (evaluate e) = FitsExpr (layout site) e
  FitsAction site n (put_int e) = FitsNumber (layout site) e
  FitsAction site n (put_text e) = FitsExpr (layout site) e
  FitsAction site n put_line = Unit {0}
  FitsAction site n (exit_from k) = k < n
  FitsAction site n (return_with r) = FitsReturn site r
  FitsAction site n (set_result r) = FitsResult site r
  FitsAction site n (assert_that e) = FitsNumber (layout site) e
  FitsAction site n (cause x) = IsException site.program x
  FitsAction site n stop = Unit {0}
  FitsAction site n (start_of t) = FitsStart (layout site) t
  FitsAction site n (delay e priority) = IsNumber32 e
  FitsAction site n (continue_at e) = Unit {0}
  FitsAction site n (send sent priority) = FitsSent (layout site) sent
  FitsAction site n (if_then cs ss) = FitsChoices site n cs × FitsStatements site n ss
  FitsAction site n (case_of e cs o) = FitsNumber (layout site) e × FitsCases site n cs × FitsOtherwise site n o
  FitsAction site n (do_loop control ss) = FitsControl (layout site) control × FitsStatements site n ss
  FitsAction site n (begin_end ss) = FitsStatements site n ss
  FitsAction site n (delay_case set priority ds) = FitsSet (layout site) set × IsNumber32 (count_of_delays ds) × FitsDelays site n ds
  FitsAction site n (receive_buffers set rs o) = FitsSet (layout site) set × FitsReceives site n rs × FitsOtherwise site n o
  FitsAction site n (receive_signals set rs o) = FitsSet (layout site) set × FitsReceives site n rs × FitsOtherwise site n o

  pub FitsChoices : Site → ℕ → ChoiceNodes → Type 0
  FitsChoices site n no_choices = Unit {0}
  FitsChoices site n (more_choices e ss cs) = FitsNumber (layout site) e × FitsStatements site n ss × FitsChoices site n cs

  pub FitsCases : Site → ℕ → CaseNodes → Type 0
  FitsCases site n no_cases = Unit {0}
  FitsCases site n (more_cases labels ss cs) = FitsStatements site n ss × FitsCases site n cs

  pub FitsDelays : Site → ℕ → DelayNodes → Type 0
  FitsDelays site n no_delays = Unit {0}
  FitsDelays site n (more_delays es ss ds) = All IsNumber32 es × FitsStatements site n ss × FitsDelays site n ds

  pub FitsReceives : Site → ℕ → ReceiveNodes → Type 0
  FitsReceives site n no_receives = Unit {0}
  FitsReceives site n (more_receives source ks ss rs) = IsNumber32 source × FollowEachOther (layout site) ks × FitsStatements site n ss × FitsReceives site n rs

-- ---- bodies

abbrev mutual
  -- statements, modules and regions
  pub FitsItems : Site → StatementNodes → Type 0
  FitsItems site no_statements = Unit {0}
  FitsItems site (more_statements s ss) = FitsItem site s × FitsItems site ss

  pub FitsItem : Site → StatementTree → Type 0
  FitsItem site (statement labelled a h) = FitsItemAction site labelled a h

  pub FitsItemAction : Site → Bool → ActionTree → HandlerNode → Type 0
  FitsItemAction site labelled (module_at ss) h = FitsItems site ss × FitsHandler site 0 h
  FitsItemAction site labelled (region_at r ss) h = FitsStatements site 0 ss × FitsHandler site 0 h
  FitsItemAction site labelled a h = FitsStatement site 0 (statement labelled a h)

-- locals of as many scalars as their modes, at most 4,096 each, which follow each other from this scalar on
abbrev pub AreLaid : ℕ → List LocalRowTree → Type 0
AreLaid first [] = Unit {0}
AreLaid first (row ∷ rows) = (row.first ≡ first) × (row.count ≡ scalars_of row.mode) × (row.count < 4097) × AreLaid (first + row.count) rows

-- the numbers of a body are in range; its parameters are its first locals
pub record FitsWhole (p : CheckedTree) (b : BodyRowTree) : Type 0 where
  pub parameters : length b.parameters ≤ length b.locals
  pub locals : AreLaid 0 b.locals
  pub result : result_scalars b ≡ scalars_of_mode b.result
  pub listed : All (IsException p) b.listed
  pub statements : FitsItems (record { program = p; body = b }) b.statements
  pub handler : FitsHandler (record { program = p; body = b }) 0 b.handler

-- the numbers of a program are in range
pub record FitsProgram (p : CheckedTree) : Type 0 where
  pub outermost : 1 ≤ length p.bodies
  pub bodies : (k : ℕ) (b : BodyRowTree) → slice_get p.bodies k ≡ Some b → FitsWhole p b
