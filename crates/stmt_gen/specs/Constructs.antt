-- What parts of statements append.
use Rattle.std.specs.Prelude.{ℕ, ◌+◌, List, ◌++◌, false, Option}
use Rattle.code_types.specs.declared.instr.Instr.{Instr}
use Rattle.code_types.specs.declared.code.Handler.{Handler}
use Rattle.program_trees.specs.ExprTree.{ExprTree, LocationTree}
use Rattle.program_trees.specs.StatementTree.{StatementTree, statement, StatementNodes, ReceiveNodes, OtherwiseNode, receive_buffers, receive_signals}
use Rattle.code_scheme.specs.ExprSizes.{condition_size}
use Rattle.code_scheme.specs.ExprCode.{condition_code}
use Rattle.code_scheme.specs.StatementSite.{Site, Standing, layout}
use Rattle.code_scheme.specs.StatementGoing.{go_on, action_goes_on}
use Rattle.code_scheme.specs.StatementWaits.{Receives, from_buffers, of_signals}
use Rattle.code_scheme.specs.StatementSize.{statements_size, action_size}
use Rattle.code_scheme.specs.StatementCode.{action_code, handler_code, statements_code, joining, next_place}
use Rattle.code_scheme.specs.StatementRows.{action_rows}

-- a statement with its handler, within its label
abbrev pub guarded_code : Standing → StatementTree → ℕ → List Instr
guarded_code w (statement labelled a h) at = action_code w a at ++ handler_code w h (action_goes_on a) (at + action_size w.site a)

-- a condition and its actions, with so many instructions behind them
abbrev pub choice_code : Standing → ExprTree → StatementNodes → ℕ → ℕ → ℕ → List Instr
choice_code w e ss rest behind at =
    condition_code (layout w.site) w.free e false (next_place at (condition_size e false + statements_size w.site ss) (go_on ss) rest) at ++
    joining (statements_code w ss (at + condition_size e false)) (go_on ss) rest behind

-- a RECEIVE CASE of either sort
abbrev pub receive_action_code : Standing → Receives → Option LocationTree → ReceiveNodes → OtherwiseNode → ℕ → List Instr
receive_action_code w from_buffers set rs o at = action_code w (receive_buffers set rs o) at
receive_action_code w of_signals set rs o at = action_code w (receive_signals set rs o) at

abbrev pub receive_action_rows : Site → Option LocationTree → ReceiveNodes → OtherwiseNode → ℕ → List Handler
receive_action_rows site set rs o at = action_rows site (receive_buffers set rs o) at
