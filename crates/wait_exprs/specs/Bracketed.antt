-- What an action that holds others has in what it holds, and in its ELSE; and what a part of a body has.
use Rattle.std.specs.Prelude.{List, [], ◌++◌}
use Rattle.chill_tree.specs.StatementTree.{BracketedTree, BodyTree, if_then, case_of, do_loop, begin_end, delay_case, receive_case, local_part, action_part}
use Rattle.wait_exprs.specs.Waits.{WaitTree, waits_in, waits_in_each, waits_in_branches, waits_in_cases, waits_in_named, waits_in_receives, waits_otherwise, waits_in_parts}

abbrev pub waits_inside : BracketedTree → List WaitTree
waits_inside (if_then at c ss bs o) = waits_in_each ss ++ waits_in_branches bs
waits_inside (case_of at e as' o) = waits_in_cases as'
waits_inside (do_loop at c ss) = waits_in_each ss
waits_inside (begin_end at ps) = waits_in_parts ps
waits_inside (delay_case at set p as') = waits_in_named as'
waits_inside (receive_case at set as' o) = waits_in_receives as'

abbrev pub waits_in_else : BracketedTree → List WaitTree
waits_in_else (if_then at c ss bs o) = waits_otherwise o
waits_in_else (case_of at e as' o) = waits_otherwise o
waits_in_else (do_loop at c ss) = []
waits_in_else (begin_end at ps) = []
waits_in_else (delay_case at set p as') = []
waits_in_else (receive_case at set as' o) = waits_otherwise o

abbrev pub waits_in_part : BodyTree → List WaitTree
waits_in_part (local_part l) = []
waits_in_part (action_part s) = waits_in s
