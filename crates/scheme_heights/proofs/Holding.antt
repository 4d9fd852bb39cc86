-- What is told of each kind of node: its code is a block, wherever it stands.
use Rattle.std.proofs.Common.{◌≡◌, ◌+◌, ◌-◌, ◌≤◌, ℕ, Bool, true, List, ◌++◌, length}
use Rattle.std.specs.Prelude.{◌||◌}
use Rattle.code_types.specs.declared.instr.Instr.{Instr}
use Rattle.code_types.specs.declared.code.Handler.{Handler}
use Rattle.program_trees.specs.StatementTree.{StatementTree, ActionTree, StatementNodes, ChoiceNodes, CaseNodes, DelayNodes, ReceiveNodes, OtherwiseNode, HandledNodes, no_handled, HandlerNode}
use Rattle.code_scheme.specs.StatementSite.{Standing}
use Rattle.code_scheme.specs.StatementGoing.{go_on, goes_on, handler_goes_on, otherwise_goes_on, some_handled_goes_on, action_goes_on, some_choice_goes_on, some_case_goes_on, joined}
use Rattle.code_scheme.specs.StatementSize.{statements_size, statement_size, handler_size, handled_size, otherwise_size, choices_size, cases_size, delays_size, receives_size, action_size}
use Rattle.code_scheme.specs.StatementCode.{CodeAt, no_code, no_label_code, statements_code, statement_code, handler_code, handled_code, otherwise_code, action_code, choices_code, cases_code, delays_code, receives_code}
use Rattle.code_scheme.specs.StatementRows.{RowsAt, own_rows, statements_rows, statement_rows, handler_rows, handled_rows, otherwise_rows, action_rows, choices_rows, cases_rows, delays_rows, receives_rows}
use Rattle.code_scheme.specs.BodyCode.{heads_of}
use Rattle.scheme_heights.specs.Closed.{inside_or, AreRowsIn, IsBlock, leads_out}
use Rattle.scheme_heights.specs.StatementCounts.{StatementsFit, StatementFits, HandlerFits, HandledFit, OtherwiseFits, ActionFits, ChoicesFit, CasesFit, DelaysFit, ReceivesFit}
use Rattle.scheme_heights.proofs.Choosing.{StandsBefore}

-- ---- what is told of each kind of node: the code of it is a block, wherever it stands

pub record StatementsHold (ss : StatementNodes) : Type 0 where
  pub holds : (w : Standing) (body at bound : ℕ) → StandsBefore body bound w → at + statements_size w.site ss ≤ bound → StatementsFit w.site (length w.exits) ss
      → IsBlock (heads_of w.site.program) body (leads_out (go_on ss) (at + statements_size w.site ss) w.exits) at (statements_code w ss at) (statements_rows w.site ss at) (statements_size w.site ss)

pub record StatementHolds (s : StatementTree) : Type 0 where
  pub holds : (w : Standing) (body at bound : ℕ) → StandsBefore body bound w → at + statement_size w.site s ≤ bound → StatementFits w.site (length w.exits) s
      → IsBlock (heads_of w.site.program) body (leads_out (goes_on s) (at + statement_size w.site s) w.exits) at (statement_code w s at) (statement_rows w.site s at) (statement_size w.site s)

-- a handler behind what it guards
pub record HandlerHolds (h : HandlerNode) : Type 0 where
  pub holds : (w : Standing) (body : ℕ) (comes : Bool) (from n at bound : ℕ) (x : List Instr) (some : List Handler) → StandsBefore body bound w → at ≡ from + n → from + joined n comes (handler_size w.site h) ≤ bound → HandlerFits w.site (length w.exits) h
      → IsBlock (heads_of w.site.program) body (leads_out comes at w.exits) from x some n
      → IsBlock (heads_of w.site.program) body (leads_out (comes || handler_goes_on h) (from + joined n comes (handler_size w.site h)) w.exits) from (x ++ handler_code w h comes at) (some ++ handler_rows w.site h comes from at) (joined n comes (handler_size w.site h))

-- the alternatives of a handler behind what stands before them, with the handler's own rows
abbrev pub AlternativesHold : HandledNodes → OtherwiseNode → Type 0
AlternativesHold hs o =
    (w : Standing) (body from at until place bound : ℕ) (x : List Instr) (some : List Handler) (n : ℕ) (goes : Bool) → StandsBefore body bound w → at ≡ from + n → from ≤ until → until ≤ at → place ≡ at + handled_size w.site hs (otherwise_size w.site o 0) → place ≤ bound
    → HandledFit w.site (length w.exits) hs → OtherwiseFits w.site (length w.exits) o → IsBlock (heads_of w.site.program) body (leads_out goes place w.exits) from x some n
    → IsBlock (heads_of w.site.program) body (leads_out (goes || (otherwise_goes_on o || some_handled_goes_on hs)) place w.exits) from (x ++ handled_code w hs place (otherwise_size w.site o 0) (otherwise_code w o no_code) at) (some ++ handled_rows w.site hs (otherwise_size w.site o 0) (otherwise_rows w.site o) at) (n + handled_size w.site hs (otherwise_size w.site o 0))
    × AreRowsIn (heads_of w.site.program) from (leads_out (goes || (otherwise_goes_on o || some_handled_goes_on hs)) place w.exits) from (x ++ handled_code w hs place (otherwise_size w.site o 0) (otherwise_code w o no_code) at) (own_rows w.site from until hs o at)

-- ELSE of a handler behind what stands before it; ELSE of a CASE, or RANGEFAIL; and ELSE of a RECEIVE CASE, behind which control
-- goes on anyhow
pub record OtherwiseHolds (o : OtherwiseNode) : Type 0 where
  pub handled : AlternativesHold no_handled o
  pub labels : (w : Standing) (body at place bound : ℕ) → StandsBefore body bound w → at + otherwise_size w.site o 1 ≡ place → place ≤ bound → OtherwiseFits w.site (length w.exits) o
      → IsBlock (heads_of w.site.program) body (leads_out (otherwise_goes_on o) place w.exits) at (otherwise_code w o no_label_code at) (otherwise_rows w.site o at) (otherwise_size w.site o 1)
  pub received : (w : Standing) (body at place bound : ℕ) → StandsBefore body bound w → at + otherwise_size w.site o 0 ≡ place → place ≤ bound → OtherwiseFits w.site (length w.exits) o
      → IsBlock (heads_of w.site.program) body (leads_out true place w.exits) at (otherwise_code w o no_code at) (otherwise_rows w.site o at) (otherwise_size w.site o 0)

pub record HandledHold (hs : HandledNodes) : Type 0 where
  pub holds : (o : OtherwiseNode) → OtherwiseHolds o → AlternativesHold hs o

pub record ActionHolds (a : ActionTree) : Type 0 where
  pub holds : (w : Standing) (body at bound : ℕ) → StandsBefore body bound w → at + action_size w.site a ≤ bound → ActionFits w.site (length w.exits) a
      → IsBlock (heads_of w.site.program) body (leads_out (action_goes_on a) (at + action_size w.site a) w.exits) at (action_code w a at) (action_rows w.site a at) (action_size w.site a)

-- parts of which one is done, before what stands behind them
pub record ChoicesHold (cs : ChoiceNodes) : Type 0 where
  pub holds : (w : Standing) (body at place bound last : ℕ) (rest : CodeAt) (rows : RowsAt) (goes : Bool) → StandsBefore body bound w → place ≡ at + choices_size w.site cs last → place ≤ bound → ChoicesFit w.site (length w.exits) cs
      → ((p : ℕ) → p + last ≡ place → IsBlock (heads_of w.site.program) body (leads_out goes place w.exits) p (rest p) (rows p) last)
      → IsBlock (heads_of w.site.program) body (leads_out (goes || some_choice_goes_on cs) place w.exits) at (choices_code w cs place last rest at) (choices_rows w.site cs last rows at) (choices_size w.site cs last)

pub record CasesHold (cs : CaseNodes) : Type 0 where
  pub holds : (w : Standing) (body at place bound last : ℕ) (rest : CodeAt) (rows : RowsAt) (goes : Bool) → StandsBefore body bound w → place ≡ at + cases_size w.site cs last → place ≤ bound → CasesFit w.site (length w.exits) cs
      → ((p : ℕ) → p + last ≡ place → IsBlock (heads_of w.site.program) body (leads_out goes place w.exits) p (rest p) (rows p) last)
      → IsBlock (heads_of w.site.program) body (leads_out (goes || some_case_goes_on cs) place w.exits) at (cases_code w cs place last rest at) (cases_rows w.site cs last rows at) (cases_size w.site cs last)

pub record DelaysHold (ds : DelayNodes) : Type 0 where
  pub holds : (w : Standing) (body kept k at place bound : ℕ) → StandsBefore body bound w → place ≡ at + delays_size w.site ds → place ≤ bound → DelaysFit w.site (length w.exits) ds
      → IsBlock (heads_of w.site.program) body (leads_out true place w.exits) at (delays_code w kept k ds place at) (delays_rows w.site ds at) (delays_size w.site ds)

-- and control comes to what stands behind them
pub record ReceivesHold (rs : ReceiveNodes) : Type 0 where
  pub holds : (w : Standing) (body kept k at place bound last : ℕ) (rest : CodeAt) (rows : RowsAt) → StandsBefore body bound w → place ≡ at + receives_size w.site rs last → place ≤ bound → ReceivesFit w.site (length w.exits) rs
      → ((p : ℕ) → p + last ≡ place → IsBlock (heads_of w.site.program) body (leads_out true place w.exits) p (rest p) (rows p) last)
      → IsBlock (heads_of w.site.program) body (leads_out true place w.exits) at (receives_code w kept k rs place last rest at) (receives_rows w.site rs last rows at) (receives_size w.site rs last)
      × inside_or (heads_of w.site.program) at 0 (receives_code w kept k rs place last rest at) (leads_out true place w.exits) (place - last) 0
