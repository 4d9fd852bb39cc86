-- What is answered of the processes of a program, held against the phase: exactly what names decide, and besides at most P6 of
-- priorities and P7 of locations to be set.
use Rattle.std.specs.Prelude.{◌≡◌, ◌⊎◌, List, [], ◌∷◌, map, flat_map, if◌then◌else◌, Result, Ok, Err}
use Rattle.chill_tree.specs.ExprTree.{place_of}
use Rattle.chill_tree.specs.ItemTree.{ProgramTree}
use Rattle.diagnostics.specs.declared.diagnostic.Diagnostic.{Diagnostic}
use Rattle.diagnostics.specs.declared.rule.Rule.TheVariants as rules
use Rattle.diagnostics.specs.Listing.{IsIn}
use Rattle.visibility.specs.declared.refusal.Refusal.{Refusal}
use Rattle.visibility.specs.declared.refusal.Refusal.TheVariants as refusals
use Rattle.checks_model.specs.Ground.{Ground, a_synonym, a_mode, an_element, a_location, a_parameter, a_counter, a_received, a_procedure, a_process, a_signal, a_modulion, a_predefined}
use Rattle.checks_model.specs.Ground as model
use Rattle.checks_model.specs.Told.{tell_at, is_none_told}
use Rattle.checks_model.specs.Phases.{told_met, broken_processes}
use Rattle.wait_exprs.specs.Waits.{WaitTree, set_of, priority_of, waits_of}
use Rattle.wait_exprs.specs.Split.{told_by_names}
use Rattle.definition_origins.specs.declared.origin.Origin.{Origin}
use Rattle.definition_origins.specs.declared.origin.Origin.TheVariants as origins
use Rattle.constant_operators.specs.declared.evaluation.Evaluation.{Evaluation}
use Rattle.process_checks.specs.MetByNumber.{mode_known}

-- ---- the ground of an evaluation

-- what a definition is, as far as processes may meet at it
pub data Sort : Type 0 where
  of_signal : Sort
  of_location : Sort
  of_neither : Sort

abbrev pub sort_defined : model.Origin → Sort
sort_defined (a_signal s) = of_signal
sort_defined (a_location d) = of_location
sort_defined (a_synonym s) = of_neither
sort_defined (a_mode novel m) = of_neither
sort_defined (an_element ns part owner) = of_neither
sort_defined (a_parameter m) = of_neither
sort_defined (a_counter c) = of_neither
sort_defined (a_received n count part) = of_neither
sort_defined (a_procedure p) = of_neither
sort_defined (a_process p) = of_neither
sort_defined (a_modulion kind items) = of_neither
sort_defined (a_predefined p) = of_neither

abbrev pub sort_held : Origin → Sort
sort_held (origins.Signal s) = of_signal
sort_held (origins.Location d first) = of_location
sort_held (origins.Synonym s first) = of_neither
sort_held (origins.SynMode d) = of_neither
sort_held (origins.NewMode d) = of_neither
sort_held (origins.Element own) = of_neither
sort_held (origins.Parameter m passing first) = of_neither
sort_held (origins.Counter c) = of_neither
sort_held (origins.Received a part) = of_neither
sort_held (origins.Procedure p) = of_neither
sort_held (origins.Process p) = of_neither
sort_held (origins.Modulion m) = of_neither
sort_held (origins.Predefined own) = of_neither

-- the evaluation has what names stand for, which definitions are signals and locations, and their modes, as the ground has them
pub record IsEvaluationOn (g : Ground) (e : Evaluation) : Type 0 where
  pub uses : g.uses ≡ e.names.now.uses
  pub defined : g.defined ≡ e.defined
  pub sorts : map sort_defined g.origins ≡ map sort_held e.origins
  pub modes : map (λ k. k.mode) g.entries ≡ map mode_known e.entries.items

-- ---- what is told

-- what may be told of a priority or of a location to be set, where nothing is told in it
abbrev pub tellable : Ground → WaitTree → List Diagnostic
tellable g (set_of e) = if is_none_told (told_met g e) then tell_at rules.P7 (place_of e) ∷ [] else []
tellable g (priority_of e) = if is_none_told (told_met g e) then tell_at rules.P6 (place_of e) ∷ [] else []

pub record IsToldByNames (g : Ground) (t : ProgramTree) (told : List Diagnostic) : Type 0 where
  -- all that names decide
  pub has_all : (d : Diagnostic) → IsIn d (told_by_names g t) → IsIn d told
  -- nothing else, but what may be told of priorities and of locations to be set
  pub has_no_other : (d : Diagnostic) → IsIn d told → IsIn d (told_by_names g t) ⊎ IsIn d (flat_map (tellable g) (waits_of t))
  -- a program without these: the list of the phase
  pub is_exact : waits_of t ≡ [] → told ≡ broken_processes g t

abbrev pub TellsByNames : Ground → ProgramTree → Result Unit Refusal → Type 0
TellsByNames g t (Ok u) = IsToldByNames g t []
TellsByNames g t (Err (refusals.Broken list)) = IsToldByNames g t list
TellsByNames g t (Err refusals.Memory) = Unit {0}
