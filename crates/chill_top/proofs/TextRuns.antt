-- The code of a program that is well elaborated runs as its text does, and no fault of the compiler is told of it.
use Rattle.std.proofs.Common.{inl, inr, ℕ, List, subst}
use Rattle.checked_program.specs.declared.program.Checked.{Checked}
use Rattle.code_gen.specs.Facts.{facts_of}
use Rattle.code_types.specs.declared.code.Code.{Code}
use Rattle.code_types.specs.Runs.{IsCodeRun}
use Rattle.facts_laws.proofs.Facts.{facts_law}
use Rattle.facts_laws.specs.Laws.{IsTypedProgram}
use Rattle.kernel_base.specs.declared.event.Event.{Event}
use Rattle.kernel_base.specs.Facts.{IsSound}
use Rattle.program_trees.specs.ProgramTree.{checked_tree}
use Rattle.region_laws.proofs.RegionLocations.{region_locations_law}
use Rattle.source_meaning.specs.Runs.{IsSourceRun}
use Rattle.text_laws.proofs.CodeJournals.{same_runs}
use Rattle.text_laws.proofs.JournalLaws.{run_fits}
use Rattle.text_laws.proofs.SoundFacts.{facts_are_sound}
use Rattle.text_laws.proofs.Suits.{suits}
use Rattle.text_laws.specs.Laws.{AreTypedFacts, IsTextRun}
use Rattle.chill_top.specs.Plan.{HasNoFacts, IsUnrun, unfounded, unsuited}
use Rattle.chill_top.specs.TextRuns.{HasTextRuns, IsBudget, IsRunOfText}
use Rattle.text_laws.specs.Laws.{HasFittingTalks}
use Rattle.text_to_code.proofs.Causes.{compilable}
use Rattle.text_to_code.specs.Building.{IsWellElaborated}
use Rattle.text_to_code.specs.Telling.{HasCode}

-- what is compiled of a program that is well elaborated has the text's talks
talks_of : (text : List ℕ) (program : Checked) (code : Code) → HasCode text program code → IsWellElaborated program → HasFittingTalks (checked_tree program) code
talks_of text program code has_code of = has_code.built.compiled.talks (compilable program has_code.built.elaborated of)

typed_facts : (program : Checked) (input : List ℕ) (units : ℕ) → IsTypedProgram program → IsBudget units → AreTypedFacts (checked_tree program) (facts_of program input units)
typed_facts program input units typed budget = record {
  typed = typed.typed;
  input = input;
  units = units;
  least = budget.least;
  most = budget.most;
  are = facts_law.are program input units typed;
}

-- a run of the code is one of the text
pub run_of_text : (text : List ℕ) (program : Checked) (code : Code) (input : List ℕ) (units : ℕ) (events : List Event) → IsSound (facts_of program input units) → IsCodeRun code (facts_of program input units) events
    → HasCode text program code → IsWellElaborated program → IsRunOfText (checked_tree program) (facts_of program input units) events
run_of_text text program code input units events sound run has_code of =
    let facts = facts_of program input units in
    let typed : AreTypedFacts (checked_tree program) facts = typed_facts program input units of.typed (record { least = sound.least_budget; most = sound.greatest_budget }) in
    let source : IsSourceRun (checked_tree program) facts events = (same_runs (checked_tree program) code facts events typed (talks_of text program code has_code of)).0 run in
    let text : IsTextRun (checked_tree program) facts events = record { typed = typed; run = source } in
    record {
      run = source;
      values = run_fits.keeps (checked_tree program) facts events text;
      fitting = λ who birth born. run_fits.fits (checked_tree program) facts events who birth text born;
      locations = λ before event behind is. region_locations_law (checked_tree program) facts before event behind of.typed.typed (subst (IsSourceRun (checked_tree program) facts) is source);
    }

-- and so are all of its runs
pub has_text_runs : (text : List ℕ) (program : Checked) (code : Code) → HasCode text program code → IsWellElaborated program → HasTextRuns program code
has_text_runs text program code has_code of input units events budget =
    same_runs (checked_tree program) code (facts_of program input units) events (typed_facts program input units of.typed budget) (talks_of text program code has_code of)

founded : (program : Checked) (input : List ℕ) (units : ℕ) → IsTypedProgram program → IsBudget units → HasNoFacts program input units → ⊥
founded program input units typed budget (inl none) = facts_law.laid program typed none
founded program input units typed budget (inr unsound) = unsound (facts_are_sound (checked_tree program) (facts_of program input units) (typed_facts program input units typed budget))

-- a code of a text is run
pub is_run : (text : List ℕ) (program : Checked) (code : Code) (input : List ℕ) (units : ℕ) → HasCode text program code → IsUnrun program code input units → IsBudget units → IsWellElaborated program → ⊥
is_run text program code input units has_code (unfounded none) budget of = founded program input units of.typed budget none
is_run text program code input units has_code (unsuited misfit) budget of = misfit (suits (checked_tree program) code (facts_of program input units) (typed_facts program input units of.typed budget) (talks_of text program code has_code of))
