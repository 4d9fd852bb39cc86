-- The parts of an action that holds others, in three: what it evaluates first, what it holds, and its ELSE.
use Rattle.std.specs.Prelude.{List, [], ◌∷◌, ◌++◌}
use Rattle.chill_tree.specs.declared.tree.name.Name.{Name}
use Rattle.chill_tree.specs.StatementTree.{BracketedTree, if_then, case_of, do_loop, begin_end, delay_case, receive_case}
use Rattle.names_model.specs.Parts.{PartTree}
use Rattle.names_model.specs.Sizes.{block_of}
use Rattle.names_model.specs.ExprMentions.{mentions_of, mentions_of_some}
use Rattle.names_model.specs.StatementParts.{mentioned, control_parts, turn_parts, action_parts, branch_parts, case_parts, event_parts, receive_parts, otherwise_parts, body_parts}

-- the names in what is evaluated before anything that is held
abbrev pub evaluated_parts : BracketedTree → List PartTree
evaluated_parts (if_then at c ss bs o) = mentioned (mentions_of c)
evaluated_parts (case_of at e as' o) = mentioned (mentions_of e)
evaluated_parts (do_loop at c ss) = control_parts c
evaluated_parts (begin_end at ps) = []
evaluated_parts (delay_case at set p as') = mentioned (mentions_of_some set ++ mentions_of_some p)
evaluated_parts (receive_case at set as' o) = mentioned (mentions_of_some set)

-- what is held but the ELSE
abbrev pub held_parts : List Name → BracketedTree → List PartTree
held_parts labels (if_then at c ss bs o) = action_parts labels ss ++ branch_parts labels bs
held_parts labels (case_of at e as' o) = case_parts labels as'
held_parts labels (do_loop at c ss) = block_of (turn_parts c ++ action_parts labels ss) ∷ []
held_parts labels (begin_end at ps) = block_of (body_parts labels ps) ∷ []
held_parts labels (delay_case at set p as') = event_parts labels as'
held_parts labels (receive_case at set as' o) = receive_parts labels as'

-- the ELSE
abbrev pub else_parts : List Name → BracketedTree → List PartTree
else_parts labels (if_then at c ss bs o) = otherwise_parts labels o
else_parts labels (case_of at e as' o) = otherwise_parts labels o
else_parts labels (do_loop at c ss) = []
else_parts labels (begin_end at ps) = []
else_parts labels (delay_case at set p as') = []
else_parts labels (receive_case at set as' o) = otherwise_parts labels o
