-- The steps in which the walk tells of statements.
use Rattle.std.specs.Prelude.{true, List, [], ◌++◌, flat_map, Option, Some, None}
use Rattle.chill_tree.specs.ExprTree.{ExprTree}
use Rattle.chill_tree.specs.StatementTree.{BracketedTree, BodyTree, case_of, local_part, action_part}
use Rattle.chill_tree.specs.ItemTree.{ItemNodes, no_items, more_items, ProcedureTree, ProcessTree, ProgramTree}
use Rattle.modes.specs.ModeTree.{ModeTree, ClassTree}
use Rattle.diagnostics.specs.declared.diagnostic.Diagnostic.{Diagnostic}
use Rattle.checks_model.specs.Ground.{Ground}
use Rattle.checks_model.specs.ActionRules.{clean, told_label_end, told_step}
use Rattle.checks_model.specs.Sites.{Site, Around, at_body, sites_of, sites_of_local, sites_of_item, outermost_locals, items_of}
use Rattle.checks_model.specs.Phases.{told_alone}
use Rattle.statement_laws.specs.Steps.{told_at_all}
use Rattle.local_names.specs.Bracketed.{locals_of_procedure, locals_of_process}

-- expressions that go nowhere
abbrev pub told_in_exprs : Ground → List ExprTree → List Diagnostic
told_in_exprs g es = flat_map (told_alone g) es

-- the class of the selector of a CASE
abbrev pub selector_class : Ground → BracketedTree → Option ClassTree
selector_class g (case_of at e as' o) = clean g e
selector_class g _ = None

-- what is told in some items of a modulion
abbrev pub told_in_items : Ground → ItemNodes → List Diagnostic
told_in_items g no_items = []
told_in_items g (more_items i is) = told_at_all g (sites_of_item i) ++ told_in_items g is

-- what is told of the step of a loop, whose counter has a mode
abbrev pub step_told : Ground → Option ModeTree → ExprTree → List Diagnostic
step_told g counter e = told_step g counter (Some e)

-- ---- bodies with their locals

abbrev pub site_of_procedure : ProcedureTree → Site
site_of_procedure p = at_body (Some p.name) (locals_of_procedure p)

abbrev pub site_of_process : ProcessTree → Site
site_of_process p = at_body (Some p.name) (locals_of_process p)

abbrev pub site_of_outermost : ProgramTree → Site
site_of_outermost t = at_body None (flat_map outermost_locals (items_of t))

-- ---- labels

-- what is told of the higher end of a label, where there is one
abbrev pub told_last : Ground → Option ClassTree → Option ExprTree → List Diagnostic
told_last g sel None = []
told_last g sel (Some e) = told_label_end g sel e

-- ---- bodies

-- what is told in a part of a body
abbrev pub told_in_part : Ground → Around → BodyTree → List Diagnostic
told_in_part g a (local_part l) = told_at_all g (sites_of_local true l)
told_in_part g a (action_part s) = told_at_all g (sites_of a s)
