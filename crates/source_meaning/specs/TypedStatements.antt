-- What an elaborated program says of its statements is what their modes say.
use Rattle.std.specs.Prelude.{◌≡◌, ◌⊎◌, ℕ, zero, suc, ◌<◌, ◌≤◌, Bool, true, false, List, [], ◌∷◌, ℤ, Option, Some, None, slice_get, length, All}
use Rattle.modes.specs.declared.mode.Bounds.{Bounds}
use Rattle.modes.specs.ModeTree.{ModeTree, boolean, instance}
use Rattle.modes.specs.Form.{FormTree, of_int, of_boolean, of_instance, of_powerset, of_chars, form_of}
use Rattle.modes.specs.Bounds.{bounds_of}
use Rattle.modes.specs.Scalars.{lowest_of}
use Rattle.modes.specs.Similar.{Similar}
use Rattle.checked_program.specs.declared.expr.Base.{Base}
use Rattle.checked_program.specs.declared.program.Sort.{Sort}
use Rattle.checked_program.specs.declared.program.Sort.TheVariants.{Outermost, Procedure}
use Rattle.program_trees.specs.ExprTree.{ExprTree, ReceivedTree, ReceivedNodes, LocationTree, StartTree, CallTree}
use Rattle.program_trees.specs.StatementTree.{SentTree, to_buffer, signal, ControlTree, while_true, for_ever, for_members, for_steps, StatementTree, statement, ActionTree, do_nothing, declare, set_lowest, module_at, region_at, assign, update, perform, drop_routine, evaluate, put_int, put_text, put_line, exit_from, return_with, set_result, assert_that, cause, stop, start_of, delay, continue_at, send, if_then, case_of, do_loop, begin_end, delay_case, receive_buffers, receive_signals, StatementNodes, no_statements, more_statements, ChoiceNodes, no_choices, more_choices, CaseNodes, no_cases, more_cases, DelayNodes, no_delays, more_delays, ReceiveNodes, no_receives, more_receives, OtherwiseNode, no_otherwise, otherwise, HandledNodes, no_handled, more_handled, HandlerNode, no_handler, handler}
use Rattle.program_trees.specs.ProgramTree.{SignalRowTree, LocalRowTree, CheckedTree}
use Rattle.source_meaning.specs.TypedValues.{Context, BaseHas, BufferHas, IsRootOfEither, BinaryHas, RoutineHas, HasMode, IsTakenBy, AllHave, LocationHas, IsTypedStart, IsTypedCall}
use Rattle.source_meaning.specs.StatementMeaning.{is_label}

-- where a statement stands, besides: what its body is of, the mode of the result, and how many labelled statements are around
-- it
pub record Around : Type 0 where
  pub context : Context
  pub sort : Sort
  pub result : Option ModeTree
  pub labels : ℕ

-- ---- expressions of actions

abbrev pub IsCondition : Context → ExprTree → Type 0
IsCondition c e = (m : ModeTree) × HasMode c e m × (form_of m ≡ of_boolean)

abbrev pub IsSomeCondition : Context → Option ExprTree → Type 0
IsSomeCondition c None = Unit {0}
IsSomeCondition c (Some e) = IsCondition c e

abbrev pub IsOfInt : Context → ExprTree → Type 0
IsOfInt c e = (m : ModeTree) × HasMode c e m × (form_of m ≡ of_int)

abbrev pub IsText : Context → ExprTree → Type 0
IsText c e = (m : ModeTree) × (n : ℕ) × HasMode c e m × (form_of m ≡ of_chars n)

abbrev pub IsDiscrete : Context → ExprTree → Type 0
IsDiscrete c e = (m : ModeTree) × (b : Bounds) × HasMode c e m × (bounds_of m ≡ Some b)

-- an instance that is sent to
abbrev pub IsReceiver : Context → Option ExprTree → Type 0
IsReceiver c None = Unit {0}
IsReceiver c (Some e) = (m : ModeTree) × HasMode c e m × (form_of m ≡ of_instance)

-- a location that takes an instance
abbrev pub TakesInstance : Context → Option LocationTree → Type 0
TakesInstance c None = Unit {0}
TakesInstance c (Some l) = (m : ModeTree) × LocationHas c l m × (form_of m ≡ of_instance)

abbrev pub AllBasesHave : Context → List Base → ModeTree → Type 0
AllBasesHave c names m = All (λ b. BaseHas c b m) names

-- a local of this mode
abbrev pub LocalHas : Context → ModeTree → ℕ → Type 0
LocalHas c m i = (row : LocalRowTree) × (slice_get c.rows i ≡ Some row) × (row.mode ≡ m)

-- locals of these modes in order
abbrev pub LocalsHave : Context → List ℕ → List ModeTree → Type 0
LocalsHave c [] ms = ms ≡ []
LocalsHave c (i ∷ is) ms = (m : ModeTree) × (rest : List ModeTree) × (ms ≡ m ∷ rest) × LocalHas c m i × LocalsHave c is rest

-- the parts of a signal have these modes
abbrev pub SignalHas : Context → ℕ → List ModeTree → Type 0
SignalHas c n ms = (row : SignalRowTree) × (slice_get c.program.signals n ≡ Some row) × (row.parts ≡ ms)

abbrev pub IsEvent : Context → ℕ → Type 0
IsEvent c e = e < length c.program.events

abbrev pub IsTypedSend : Context → SentTree → Type 0
IsTypedSend c (to_buffer b r) = (m : ModeTree) × BufferHas c b m × IsTakenBy c r m
IsTypedSend c (signal n rs to) = ((ms : List ModeTree) × SignalHas c n ms × AllHave c rs ms) × IsReceiver c to

-- a step is of INT, and so are start and end then
abbrev pub IsStepped : Context → Option ExprTree → FormTree → Type 0
IsStepped c None f = Unit {0}
IsStepped c (Some e) f = IsOfInt c e × (f ≡ of_int)

-- What controls a loop: members are counted from the lower bound of their mode, which is the counter's; start and end are
-- similar and discrete, and the counter's mode is the root of one of theirs, so that each value between them is one of its.
abbrev pub IsTypedControl : Context → ControlTree → Type 0
IsTypedControl c (while_true e) = IsCondition c e
IsTypedControl c for_ever = Unit {0}
IsTypedControl c (for_members counter e low condition) =
    ((m : ModeTree) × (own : ModeTree) × (b : Bounds) × HasMode c e m × (form_of m ≡ of_powerset own) × (bounds_of own ≡ Some b) × (b.low ≡ low) × LocalHas c own counter) × IsSomeCondition c condition
IsTypedControl c (for_steps counter e step f down condition) =
    ((m : ModeTree) × (own : ModeTree) × (other : ModeTree) × (b : Bounds) × HasMode c e own × HasMode c f other × Similar own other × LocalHas c m counter × IsRootOfEither m own other × (bounds_of m ≡ Some b) × IsStepped c step (form_of own)) × IsSomeCondition c condition

-- RETURN and RESULT stand in procedures, and have a value where there is a result alone
abbrev pub IsTypedReturn : Around → Option ReceivedTree → Type 0
IsTypedReturn at None = at.sort ≡ Procedure
IsTypedReturn at (Some r) = (at.sort ≡ Procedure) × (m : ModeTree) × (at.result ≡ Some m) × IsTakenBy at.context r m

abbrev pub AnyResult : Context → CallTree → Type 0
AnyResult c t = (result : Option ModeTree) × IsTypedCall c t result

-- what is received has the modes of a buffer's values, or of a signal's parts
abbrev pub Brings : Type 1
Brings = ℕ → List ModeTree → Type 0

-- a buffer brings one value
abbrev pub BufferBrings : Context → ℕ → List ModeTree → Type 0
BufferBrings c b ms = (m : ModeTree) × (ms ≡ m ∷ []) × BufferHas c b m

-- inside a labelled statement, and inside a region
abbrev pub labelled_around : Bool → Around → Around
labelled_around false at = at
labelled_around true at = record at { labels = suc at.labels }

abbrev pub with_region : Option ℕ → Context → Context
with_region region c = record c { region = region }

abbrev pub in_region_around : Option ℕ → Around → Around
in_region_around region at = record at { context = with_region region at.context }

-- what stands around what a region's initialisations do is the region
abbrev pub around_in : ActionTree → Around → Around
around_in (region_at r ss) at = in_region_around (Some r) at
around_in a at = at

-- what stands around a statement's action
abbrev pub around_action : Bool → ActionTree → Around → Around
around_action labelled a at = labelled_around (is_label labelled a) (around_in a at)

-- What stands around a statement's handler: what stands around its action. A region whose declarations have no values does
-- nothing; its handler, which nothing comes to, stands in the region all the same.
abbrev pub around_handler : Option ℕ → Bool → ActionTree → Around → Around
around_handler region labelled do_nothing at = labelled_around labelled (in_region_around region at)
around_handler region labelled a at = around_action labelled a at

-- in the outermost process, in no labelled statement and in no region
pub record StandsAtTop (at : Around) : Type 0 where
  pub outermost : at.sort ≡ Outermost
  pub unlabelled : at.labels ≡ 0
  pub outside : at.context.region ≡ None

-- modules and regions stand at the top alone
abbrev pub HasPlace : ActionTree → Around → Type 0
HasPlace (module_at ss) at = StandsAtTop at
HasPlace (region_at r ss) at = StandsAtTop at
HasPlace a at = Unit {0}

-- ---- statements

abbrev mutual
  pub IsTypedStatement : Around → StatementTree → Type 0
  IsTypedStatement at (statement labelled a h) =
      HasPlace a at × IsTypedAction (around_action labelled a at) a × ((region : Option ℕ) × IsTypedHandler (around_handler region labelled a at) h)

  pub AreTyped : Around → StatementNodes → Type 0
  AreTyped at no_statements = Unit {0}
  AreTyped at (more_statements a ss) = IsTypedStatement at a × AreTyped at ss

  pub IsTypedHandler : Around → HandlerNode → Type 0
  IsTypedHandler at no_handler = Unit {0}
  IsTypedHandler at (handler hs o) = AreTypedAlternatives at hs × IsTypedOtherwise at o

  pub AreTypedAlternatives : Around → HandledNodes → Type 0
  AreTypedAlternatives at no_handled = Unit {0}
  AreTypedAlternatives at (more_handled names ss hs) = AreTyped at ss × AreTypedAlternatives at hs

  pub IsTypedOtherwise : Around → OtherwiseNode → Type 0
  IsTypedOtherwise at no_otherwise = Unit {0}
  IsTypedOtherwise at (otherwise ss) = AreTyped at ss

  pub IsTypedAction : Around → ActionTree → Type 0
  IsTypedAction at do_nothing = Unit {0}
  IsTypedAction at (declare names r) = (m : ModeTree) × AllBasesHave at.context names m × IsTakenBy at.context r m
  IsTypedAction at (set_lowest locals xs) = (m : ModeTree) × All (LocalHas at.context m) locals × (xs ≡ lowest_of m)
  IsTypedAction at (module_at ss) = AreTyped at ss
  IsTypedAction at (region_at r ss) = (r < at.context.program.regions) × AreTyped at ss
  IsTypedAction at (assign l r) = (m : ModeTree) × LocationHas at.context l m × IsTakenBy at.context r m
  IsTypedAction at (update l o e bounds) =
      (m : ModeTree) × (own : ModeTree) × (of : ModeTree) × LocationHas at.context l m × HasMode at.context e own × BinaryHas o m own of × Similar of m × (bounds_of m ≡ bounds)
  IsTypedAction at (perform t) = AnyResult at.context t
  IsTypedAction at (drop_routine r e) = (a : ModeTree) × (m : ModeTree) × HasMode at.context e a × RoutineHas r a m
  IsTypedAction at (evaluate e) = (m : ModeTree) × HasMode at.context e m
  IsTypedAction at (put_int e) = IsOfInt at.context e
  IsTypedAction at (put_text e) = IsText at.context e
  IsTypedAction at put_line = Unit {0}
  IsTypedAction at (exit_from k) = k < at.labels
  IsTypedAction at (return_with r) = IsTypedReturn at r
  IsTypedAction at (set_result r) = IsTypedReturn at (Some r)
  IsTypedAction at (assert_that e) = IsCondition at.context e
  IsTypedAction at (cause x) = Unit {0}
  IsTypedAction at stop = Unit {0}
  IsTypedAction at (start_of t) = IsTypedStart at.context t
  IsTypedAction at (delay e priority) = IsEvent at.context e × (priority ≤ 1000000)
  IsTypedAction at (continue_at e) = IsEvent at.context e
  IsTypedAction at (send sent priority) = IsTypedSend at.context sent × (priority ≤ 1000000)
  IsTypedAction at (if_then cs ss) = AreTypedChoices at cs × AreTyped at ss
  IsTypedAction at (case_of e cs o) = IsDiscrete at.context e × AreTypedCases at cs × IsTypedOtherwise at o
  IsTypedAction at (do_loop control ss) = IsTypedControl at.context control × AreTyped at ss
  IsTypedAction at (begin_end ss) = AreTyped at ss
  IsTypedAction at (delay_case set priority ds) = TakesInstance at.context set × (priority ≤ 1000000) × AreTypedDelays at ds
  IsTypedAction at (receive_buffers set rs o) = TakesInstance at.context set × AreTypedReceives at (BufferBrings at.context) rs × IsTypedOtherwise at o
  IsTypedAction at (receive_signals set rs o) = TakesInstance at.context set × AreTypedReceives at (SignalHas at.context) rs × IsTypedOtherwise at o

  pub AreTypedChoices : Around → ChoiceNodes → Type 0
  AreTypedChoices at no_choices = Unit {0}
  AreTypedChoices at (more_choices e ss cs) = IsCondition at.context e × AreTyped at ss × AreTypedChoices at cs

  pub AreTypedCases : Around → CaseNodes → Type 0
  AreTypedCases at no_cases = Unit {0}
  AreTypedCases at (more_cases labels ss cs) = AreTyped at ss × AreTypedCases at cs

  pub AreTypedDelays : Around → DelayNodes → Type 0
  AreTypedDelays at no_delays = Unit {0}
  AreTypedDelays at (more_delays es ss ds) = All (IsEvent at.context) es × AreTyped at ss × AreTypedDelays at ds

  pub AreTypedReceives : Around → Brings → ReceiveNodes → Type 0
  AreTypedReceives at brings no_receives = Unit {0}
  AreTypedReceives at brings (more_receives thing is ss rs) =
      ((ms : List ModeTree) × brings thing ms × LocalsHave at.context is ms) × AreTyped at ss × AreTypedReceives at brings rs
