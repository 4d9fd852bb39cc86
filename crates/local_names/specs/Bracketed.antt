-- The locals of what an action holds, apart from its ELSE; and of a part of a body.
use Rattle.std.specs.Prelude.{List, [], ◌++◌, flat_map}
use Rattle.chill_tree.specs.declared.tree.name.Name.{Name}
use Rattle.chill_tree.specs.StatementTree.{BracketedTree, BodyTree, if_then, case_of, do_loop, begin_end, delay_case, receive_case, local_part, action_part}
use Rattle.chill_tree.specs.ItemTree.{ProcedureTree, ProcessTree}
use Rattle.checks_model.specs.Sites.{declared_in, counter_in, locals_in, locals_in_each, locals_in_branches, locals_in_cases, locals_in_named, locals_in_receives, locals_in_otherwise, locals_in_parts, locals_of_body}

abbrev pub locals_held : BracketedTree → List Name
locals_held (if_then at c ss bs o) = locals_in_each ss ++ locals_in_branches bs
locals_held (case_of at e as' o) = locals_in_cases as'
locals_held (do_loop at c ss) = counter_in c ++ locals_in_each ss
locals_held (begin_end at ps) = locals_in_parts ps
locals_held (delay_case at set p as') = locals_in_named as'
locals_held (receive_case at set as' o) = locals_in_receives as'

abbrev pub locals_in_else : BracketedTree → List Name
locals_in_else (if_then at c ss bs o) = locals_in_otherwise o
locals_in_else (case_of at e as' o) = locals_in_otherwise o
locals_in_else (do_loop at c ss) = []
locals_in_else (begin_end at ps) = []
locals_in_else (delay_case at set p as') = []
locals_in_else (receive_case at set as' o) = locals_in_otherwise o

abbrev pub locals_in_part : BodyTree → List Name
locals_in_part (local_part l) = declared_in l
locals_in_part (action_part s) = locals_in s

-- ---- the locals of a body, as its node in a program has them

abbrev pub locals_of_procedure : ProcedureTree → List Name
locals_of_procedure p = flat_map (λ q. q.names) p.params ++ locals_of_body p.body p.handler

abbrev pub locals_of_process : ProcessTree → List Name
locals_of_process p = flat_map (λ q. q.names) p.formals ++ locals_of_body p.body p.handler
