-- The one form of the laws of statements and of what holds some.
use Rattle.std.specs.Prelude.{◌≡◌, ℕ, ◌+◌, Bool, true, length, Option}
use Rattle.program_trees.specs.ExprTree.{ExprTree, LocationTree}
use Rattle.program_trees.specs.StatementTree.{ControlTree, StatementTree, statement, ActionTree, if_then, case_of, do_loop, begin_end, delay_case, receive_buffers, receive_signals, StatementNodes, no_statements, more_statements, ChoiceNodes, no_choices, more_choices, CaseNodes, no_cases, more_cases, DelayNodes, no_delays, more_delays, ReceiveNodes, no_receives, more_receives, OtherwiseNode, no_otherwise, otherwise, HandledNodes, no_handled, more_handled, HandlerNode, no_handler, handler}
use Rattle.source_meaning.specs.ExprMeaning.{Setting}
use Rattle.source_meaning.specs.StatementMeaning.{statements_mean, statement_mean}
use Rattle.source_meaning.specs.BodyMeaning.{Bodies}
use Rattle.code_scheme.specs.StatementSite.{Standing}
use Rattle.code_scheme.specs.StatementGoing.{go_on, goes_on}
use Rattle.code_scheme.specs.StatementSize.{statements_size, statement_size}
use Rattle.code_scheme.specs.StatementCode.{statements_code, statement_code}
use Rattle.code_scheme.specs.StatementRows.{statements_rows, statement_rows}
use Rattle.follow_laws.specs.Follows.{HasAt, Around}
use Rattle.code_laws.specs.BodyBounds.{BodiesWithin}
use Rattle.code_laws.specs.Expressions.{NamesIn}
use Rattle.code_laws.specs.StatementBounds.{statements_within, statement_within}
use Rattle.code_laws.specs.StatementsInRange.{FitsStatements, FitsStatement}
use Rattle.code_laws.specs.Statements.{StandsAs, calls_from}
use Rattle.code_laws.specs.Counters.{loop_keeps}
use Rattle.statement_code_laws.specs.Parts.{Acts}
use Rattle.statement_code_laws.specs.Actions.{ActionActs}

-- the code of a statement with its handler acts as the statement means, wherever it stands
abbrev pub StatementActs : StatementTree → Type 0
StatementActs t = (w : Around) (v : Setting) (st : Standing) (bodies : Bodies) (inside : BodiesWithin) (n from : ℕ)
    → StandsAs w v st bodies inside → NamesIn w from (from + statement_size st.site t) → FitsStatement st.site (length st.exits) t
    → HasAt w.code.instrs from (statement_code st t from)
    → Acts w from (from + statement_size st.site t) (statement_rows st.site t from) (from + statement_size st.site t) (goes_on t) (statement_within v (calls_from inside w) n t) (statement_mean v n t)

-- so do statements behind each other
abbrev pub StatementsAct : StatementNodes → Type 0
StatementsAct ss = (w : Around) (v : Setting) (st : Standing) (bodies : Bodies) (inside : BodiesWithin) (n from : ℕ)
    → StandsAs w v st bodies inside → NamesIn w from (from + statements_size st.site ss) → FitsStatements st.site (length st.exits) ss
    → HasAt w.code.instrs from (statements_code st ss from)
    → Acts w from (from + statements_size st.site ss) (statements_rows st.site ss from) (from + statements_size st.site ss) (go_on ss) (statements_within v (calls_from inside w) n ss) (statements_mean v n ss)

-- ---- so do the statements of each alternative, and those of ELSE where it is written

abbrev pub SomeAct : OtherwiseNode → Type 0
SomeAct no_otherwise = Unit {0}
SomeAct (otherwise ss) = StatementsAct ss

abbrev pub EachChoice : ChoiceNodes → Type 0
EachChoice no_choices = Unit {0}
EachChoice (more_choices e ss cs) = StatementsAct ss × EachChoice cs

abbrev pub EachCase : CaseNodes → Type 0
EachCase no_cases = Unit {0}
EachCase (more_cases labels ss cs) = StatementsAct ss × EachCase cs

abbrev pub EachDelay : DelayNodes → Type 0
EachDelay no_delays = Unit {0}
EachDelay (more_delays es ss ds) = StatementsAct ss × EachDelay ds

abbrev pub EachReceive : ReceiveNodes → Type 0
EachReceive no_receives = Unit {0}
EachReceive (more_receives thing names ss rs) = StatementsAct ss × EachReceive rs

abbrev pub EachHandled : HandledNodes → Type 0
EachHandled no_handled = Unit {0}
EachHandled (more_handled names ss hs) = StatementsAct ss × EachHandled hs

abbrev pub HandlerActs : HandlerNode → Type 0
HandlerActs no_handler = Unit {0}
HandlerActs (handler hs o) = EachHandled hs × SomeAct o

-- ---- what holds statements acts where these do

-- Statements behind each other, BEGIN, IF, CASE, DELAY CASE and RECEIVE CASE, and a statement with its label and its handler.
pub record JoiningLaw : Type 0 where
  pub none : StatementsAct no_statements
  pub more : (t : StatementTree) (ts : StatementNodes) → StatementActs t → StatementsAct ts → StatementsAct (more_statements t ts)
  pub begun : (ss : StatementNodes) → StatementsAct ss → ActionActs (begin_end ss)
  pub chosen : (cs : ChoiceNodes) (ss : StatementNodes) → EachChoice cs → StatementsAct ss → ActionActs (if_then cs ss)
  pub selected : (e : ExprTree) (cs : CaseNodes) (o : OtherwiseNode) → EachCase cs → SomeAct o → ActionActs (case_of e cs o)
  pub delayed : (set : Option LocationTree) (priority : ℕ) (ds : DelayNodes) → EachDelay ds → ActionActs (delay_case set priority ds)
  pub buffers : (set : Option LocationTree) (rs : ReceiveNodes) (o : OtherwiseNode) → EachReceive rs → SomeAct o → ActionActs (receive_buffers set rs o)
  pub signals : (set : Option LocationTree) (rs : ReceiveNodes) (o : OtherwiseNode) → EachReceive rs → SomeAct o → ActionActs (receive_signals set rs o)
  pub handled : (labelled : Bool) (a : ActionTree) (h : HandlerNode) → ActionActs a → HandlerActs h → StatementActs (statement labelled a h)

-- Loops that alone set their counters act where their actions do.
abbrev pub LoopsAct : Type 0
LoopsAct = (control : ControlTree) (ss : StatementNodes) → loop_keeps control ss ≡ true → StatementsAct ss → ActionActs (do_loop control ss)
