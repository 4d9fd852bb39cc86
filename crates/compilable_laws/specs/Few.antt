-- Bounds that neither modes nor scalars give: numbers of things, and of alternatives, that 32 bits hold.
use Rattle.std.specs.Prelude.{◌≡◌, ℕ, List, [], ◌∷◌, ℤ, length, Some, slice_get}
use Rattle.program_trees.specs.StatementTree.{StatementTree, statement, ActionTree, set_lowest, module_at, region_at, if_then, case_of, do_loop, begin_end, delay_case, receive_buffers, receive_signals, StatementNodes, no_statements, more_statements, ChoiceNodes, no_choices, more_choices, CaseNodes, no_cases, more_cases, DelayNodes, no_delays, more_delays, ReceiveNodes, no_receives, more_receives, OtherwiseNode, no_otherwise, otherwise, HandledNodes, no_handled, more_handled, HandlerNode, no_handler, handler}
use Rattle.program_trees.specs.ProgramTree.{BodyRowTree, CheckedTree}
use Rattle.code_laws.specs.InRange.{IsNumber32}
use Rattle.code_laws.specs.StatementsInRange.{count_of_delays}

-- The lowest value of no local has few scalars. That of a local is of the local's mode.
abbrev pub LowestIsFew : List ℕ → List ℤ → Type 0
LowestIsFew [] xs = IsNumber32 (length xs)
LowestIsFew (k ∷ ks) xs = Unit {0}

abbrev mutual
  pub StatementsHaveFew : StatementNodes → Type 0
  StatementsHaveFew no_statements = Unit {0}
  StatementsHaveFew (more_statements s ss) = StatementHasFew s × StatementsHaveFew ss

  pub StatementHasFew : StatementTree → Type 0
  StatementHasFew (statement labelled a h) = ActionHasFew a × HandlerHasFew h

  pub HandlerHasFew : HandlerNode → Type 0
  HandlerHasFew no_handler = Unit {0}
  HandlerHasFew (handler hs o) = HandledHaveFew hs × OtherwiseHasFew o

  pub HandledHaveFew : HandledNodes → Type 0
  HandledHaveFew no_handled = Unit {0}
  HandledHaveFew (more_handled names ss hs) = StatementsHaveFew ss × HandledHaveFew hs

  pub OtherwiseHasFew : OtherwiseNode → Type 0
  OtherwiseHasFew no_otherwise = Unit {0}
  OtherwiseHasFew (otherwise ss) = StatementsHaveFew ss

  -- a DELAY CASE has few alternatives
  pub ActionHasFew : ActionTree → Type 0
  ActionHasFew (set_lowest locals xs) = LowestIsFew locals xs
  ActionHasFew (module_at ss) = StatementsHaveFew ss
  ActionHasFew (region_at r ss) = StatementsHaveFew ss
  ActionHasFew (if_then cs ss) = ChoicesHaveFew cs × StatementsHaveFew ss
  ActionHasFew (case_of e cs o) = CasesHaveFew cs × OtherwiseHasFew o
  ActionHasFew (do_loop control ss) = StatementsHaveFew ss
  ActionHasFew (begin_end ss) = StatementsHaveFew ss
  ActionHasFew (delay_case set priority ds) = IsNumber32 (count_of_delays ds) × DelaysHaveFew ds
  ActionHasFew (receive_buffers set rs o) = ReceivesHaveFew rs × OtherwiseHasFew o
  ActionHasFew (receive_signals set rs o) = ReceivesHaveFew rs × OtherwiseHasFew o
  ActionHasFew a = Unit {0}

  pub ChoicesHaveFew : ChoiceNodes → Type 0
  ChoicesHaveFew no_choices = Unit {0}
  ChoicesHaveFew (more_choices e ss cs) = StatementsHaveFew ss × ChoicesHaveFew cs

  pub CasesHaveFew : CaseNodes → Type 0
  CasesHaveFew no_cases = Unit {0}
  CasesHaveFew (more_cases labels ss cs) = StatementsHaveFew ss × CasesHaveFew cs

  pub DelaysHaveFew : DelayNodes → Type 0
  DelaysHaveFew no_delays = Unit {0}
  DelaysHaveFew (more_delays es ss ds) = StatementsHaveFew ss × DelaysHaveFew ds

  pub ReceivesHaveFew : ReceiveNodes → Type 0
  ReceivesHaveFew no_receives = Unit {0}
  ReceivesHaveFew (more_receives source ks ss rs) = StatementsHaveFew ss × ReceivesHaveFew rs

-- those of a body
pub record BodyHasFew (b : BodyRowTree) : Type 0 where
  pub statements : StatementsHaveFew b.statements
  pub handler : HandlerHasFew b.handler

-- fewer than 2^32 events, buffers and signals
pub record HasFewThings (p : CheckedTree) : Type 0 where
  pub events : IsNumber32 (length p.events)
  pub buffers : IsNumber32 (length p.buffers)
  pub signals : IsNumber32 (length p.signals)

-- few things, and few in each body
pub record HasFew (p : CheckedTree) : Type 0 where
  pub things : HasFewThings p
  pub bodies : (k : ℕ) (b : BodyRowTree) → slice_get p.bodies k ≡ Some b → BodyHasFew b
