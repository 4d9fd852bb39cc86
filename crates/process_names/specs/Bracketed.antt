-- What is told of an action that holds others, in three: before what it holds, in what it holds, and in its ELSE.
use Rattle.std.specs.Prelude.{List, [], ◌++◌}
use Rattle.chill_tree.specs.StatementTree.{BracketedTree, if_then, case_of, do_loop, begin_end, delay_case, receive_case}
use Rattle.diagnostics.specs.declared.diagnostic.Diagnostic.{Diagnostic}
use Rattle.met_names.specs.Facts.{Facts, told_source}
use Rattle.met_names.specs.Sources.{over_expr, over_some}
use Rattle.process_names.specs.Heard.{nothing_heard, told_events, told_sources}
use Rattle.process_names.specs.Walk.{over_control, over_actions, over_branches, over_cases, over_named, over_receives, over_otherwise, over_body}

module _ (f : Facts) where
  abbrev pub over_head : BracketedTree → List Diagnostic
  over_head (if_then at c ss bs o) = over_expr (told_source f) c
  over_head (case_of at e as' o) = over_expr (told_source f) e
  over_head (do_loop at c ss) = over_control f c
  over_head (begin_end at ps) = []
  over_head (delay_case at set p as') = over_some (told_source f) set ++ (over_some (told_source f) p ++ told_events f nothing_heard as')
  over_head (receive_case at set as' o) = over_some (told_source f) set ++ told_sources f nothing_heard as'

  abbrev pub over_held : BracketedTree → List Diagnostic
  over_held (if_then at c ss bs o) = over_actions f ss ++ over_branches f bs
  over_held (case_of at e as' o) = over_cases f as'
  over_held (do_loop at c ss) = over_actions f ss
  over_held (begin_end at ps) = over_body f ps
  over_held (delay_case at set p as') = over_named f as'
  over_held (receive_case at set as' o) = over_receives f as'

  abbrev pub over_else : BracketedTree → List Diagnostic
  over_else (if_then at c ss bs o) = over_otherwise f o
  over_else (case_of at e as' o) = over_otherwise f o
  over_else (do_loop at c ss) = []
  over_else (begin_end at ps) = []
  over_else (delay_case at set p as') = []
  over_else (receive_case at set as' o) = over_otherwise f o
