-- Which actions hold others at every time, not only behind a wait.
use Rattle.std.specs.Prelude.{Bool, true, false}
use Rattle.program_trees.specs.StatementTree.{ActionTree, if_then, case_of, do_loop, begin_end}

-- IF, CASE, DO and BEGIN
abbrev pub is_structured : ActionTree → Bool
is_structured (if_then cs ss) = true
is_structured (case_of e cs o) = true
is_structured (do_loop c ss) = true
is_structured (begin_end ss) = true
is_structured a = false
