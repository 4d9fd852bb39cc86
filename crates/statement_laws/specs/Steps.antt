-- The steps in which a walk tells of statements and of arguments.
use Rattle.std.specs.Prelude.{List, [], ◌∷◌, ◌++◌, flat_map, Option, Some, None, option_map, option_and_then}
use Rattle.chill_tree.specs.declared.tree.name.Name.{Name}
use Rattle.chill_tree.specs.ExprTree.{ExprNodes, no_exprs, more_exprs}
use Rattle.chill_tree.specs.StatementTree.{BracketedTree, CaseNodes, NamedNodes, ReceiveNodes, if_then, case_of, do_loop, begin_end, delay_case, receive_case, no_cases, more_cases, no_named, more_named, no_receives, more_receives}
use Rattle.modes.specs.ModeTree.{ModeTree, ClassTree}
use Rattle.diagnostics.specs.declared.diagnostic.Diagnostic.{Diagnostic}
use Rattle.checks_model.specs.Ground.{Ground, Entry, Origin, a_signal, element_of, mode_of_entry}
use Rattle.checks_model.specs.ValueRules.{Receiver, told_in, value_told}
use Rattle.checks_model.specs.ActionRules.{clean, told_label, told_received_names, told_exceptions}
use Rattle.checks_model.specs.Sites.{Site, Around, at_condition, at_selector, at_control, at_set, at_priority, some_site, sites_of_each, sites_of_branches, sites_of_otherwise, sites_of_parts}
use Rattle.checks_model.specs.Phases.{statements_told_at}

-- what is told at some nodes
abbrev pub told_at_all : Ground → List Site → List Diagnostic
told_at_all g sites = flat_map (statements_told_at g) sites

-- ---- an action that holds others: what is evaluated before them, those with what is evaluated among them, and ELSE

abbrev pub evaluated_sites : BracketedTree → List Site
evaluated_sites (if_then at c ss bs o) = at_condition c ∷ []
evaluated_sites (case_of at e as' o) = at_selector e ∷ []
evaluated_sites (do_loop at c ss) = at_control c ∷ []
evaluated_sites (begin_end at ps) = []
evaluated_sites (delay_case at set p as') = some_site at_set set ++ some_site at_priority p
evaluated_sites (receive_case at set as' o) = some_site at_set set

-- the alternatives of a CASE, whose selector is of a class
abbrev pub told_in_cases : Ground → Around → Option ClassTree → CaseNodes → List Diagnostic
told_in_cases g a sel no_cases = []
told_in_cases g a sel (more_cases at ls ss as') = (flat_map (told_label g sel) ls ++ told_at_all g (sites_of_each a ss)) ++ told_in_cases g a sel as'

-- those of a DELAY CASE
abbrev pub told_in_named : Ground → Around → NamedNodes → List Diagnostic
told_in_named g a no_named = []
told_in_named g a (more_named at ns ss as') = told_at_all g (sites_of_each a ss) ++ told_in_named g a as'

-- those of a RECEIVE CASE
abbrev pub told_in_receives : Ground → Around → ReceiveNodes → List Diagnostic
told_in_receives g a no_receives = []
told_in_receives g a (more_receives at n r ss as') = (told_received_names g n r ++ told_at_all g (sites_of_each a ss)) ++ told_in_receives g a as'

-- those of a handler behind some exceptions
abbrev pub told_in_exceptions : Ground → Around → List Name → NamedNodes → List Diagnostic
told_in_exceptions g a earlier no_named = []
told_in_exceptions g a earlier (more_named at ns ss as') = (told_exceptions earlier ns ++ told_at_all g (sites_of_each a ss)) ++ told_in_exceptions g a (earlier ++ ns) as'

abbrev pub told_held : Ground → Around → BracketedTree → List Diagnostic
told_held g a (if_then at c ss bs o) = told_at_all g (sites_of_each a ss) ++ told_at_all g (sites_of_branches a bs)
told_held g a (case_of at e as' o) = told_in_cases g a (clean g e) as'
told_held g a (do_loop at c ss) = told_at_all g (sites_of_each a ss)
told_held g a (begin_end at ps) = told_at_all g (sites_of_parts a ps)
told_held g a (delay_case at set p as') = told_in_named g a as'
told_held g a (receive_case at set as' o) = told_in_receives g a as'

abbrev pub told_else : Ground → Around → BracketedTree → List Diagnostic
told_else g a (if_then at c ss bs o) = told_at_all g (sites_of_otherwise a o)
told_else g a (case_of at e as' o) = told_at_all g (sites_of_otherwise a o)
told_else g a (receive_case at set as' o) = told_at_all g (sites_of_otherwise a o)
told_else g a _ = []

-- ---- arguments and messages

-- in some expressions, each of which goes to the same receiver
abbrev pub told_in_all : Ground → Receiver → ExprNodes → List Diagnostic
told_in_all g r no_exprs = []
told_in_all g r (more_exprs e es) = value_told g r e (told_in g r e) ++ told_in_all g r es

-- the parts of a signal
abbrev pub parts_by : Option Entry → Option Origin → Option (List (Option ModeTree))
parts_by e (Some (a_signal s)) = option_map (λ e. e.parts) e
parts_by e _ = None

-- the one part of a buffer's messages
abbrev pub part_of_buffer : Option Entry → Option (List (Option ModeTree))
part_of_buffer e = option_map (λ m. Some m ∷ []) (option_and_then element_of (mode_of_entry e))

-- the first that is there
abbrev pub either : {A : Type 0} → Option A → Option A → Option A
either (Some x) y = Some x
either None y = y
