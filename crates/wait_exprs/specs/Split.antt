-- The phase of processes in two: what names decide, and what is asked of priorities (P6) and of locations that take an instance
-- (P7), each only where nothing is told in it.
use Rattle.std.specs.Prelude.{List, [], ◌++◌, flat_map, if◌then◌else◌}
use Rattle.chill_tree.specs.ItemTree.{ProgramTree}
use Rattle.diagnostics.specs.declared.diagnostic.Diagnostic.{Diagnostic}
use Rattle.diagnostics.specs.Listing.{SameMembers}
use Rattle.checks_model.specs.Ground.{Ground}
use Rattle.checks_model.specs.Told.{is_none_told}
use Rattle.checks_model.specs.Constants.{constant_of}
use Rattle.checks_model.specs.ProcessRules.{told_priority, told_set}
use Rattle.checks_model.specs.Phases.{exprs_of_simple, told_met, told_some_met, told_met_by, processes_told_at, told_of_processes}
use Rattle.checks_model.specs.Phases as phases
use Rattle.checks_model.specs.Sites.{Site, at_simple, at_set, at_priority, sites}
use Rattle.wait_exprs.specs.Waits.{WaitTree, set_of, priority_of, waits_of}

-- what the phase of processes tells at a node, without P6 and P7
abbrev pub names_told_at : Ground → Site → List Diagnostic
names_told_at g (at_simple a s) = told_met_by g s ++ flat_map (told_met g) (exprs_of_simple s) ++ told_some_met g (phases.priority_of s)
names_told_at g (at_set e) = told_met g e
names_told_at g (at_priority e) = told_met g e
names_told_at g s = processes_told_at g s

abbrev pub told_by_names : Ground → ProgramTree → List Diagnostic
told_by_names g t = flat_map (names_told_at g) (sites t)

abbrev pub told_wait : Ground → WaitTree → List Diagnostic
told_wait g (set_of e) = if is_none_told (told_met g e) then told_set g e else []
told_wait g (priority_of e) = if is_none_told (told_met g e) then told_priority g (constant_of g) e else []

-- What the phase tells is what names decide, and what is told of all that waits have.
abbrev pub SplitLaw : Type 0
SplitLaw = (g : Ground) (t : ProgramTree) → SameMembers (told_by_names g t ++ flat_map (told_wait g) (waits_of t)) (told_of_processes g t)
