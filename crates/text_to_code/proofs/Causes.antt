-- Why the building of a tree was given up, by how far it came.
use Rattle.std.proofs.Common.{◌≡◌, ◌⊎◌, inl, inr, ℕ, ◌<◌, ◌≤◌, refl, sym, subst}
use Rattle.std.specs.Prelude.{◌↔◌, Ok, Err, IfErr, IsErrAnd, IsErrOf}
use Rattle.std.specs.declared.result.Result.{Result}
use Rattle.std.proofs.lemmas.Bool.{cases_lt}
use Rattle.chill_tree.specs.ItemTree.{ProgramTree}
use Rattle.checked_program.specs.declared.program.Checked.{Checked}
use Rattle.code_gen.specs.declared.refusal.CodeRefusal.{CodeRefusal}
use Rattle.code_gen.specs.declared.refusal.CodeRefusal.TheVariants.{CodeTooLong}
use Rattle.code_types.specs.Agreement.{Agrees}
use Rattle.code_types.specs.declared.code.Code.{Code}
use Rattle.program_ranges.specs.ProgramRanges.{AreInRange}
use Rattle.code_laws.specs.Talk.{IsCompilable}
use Rattle.compilable_laws.proofs.Programs.{program_compilable}
use Rattle.program_trees.specs.ProgramTree.{checked_tree}
use Rattle.text_to_code.specs.Building.{IsElaborated, IsWellElaborated, IsCompiled, IsGivenUp, IsUnguarded, unelaborated, uncompiled, unguarded}
use Rattle.text_to_code.specs.declared.build.BuildRefusal.{BuildRefusal}
use Rattle.text_to_code.specs.declared.build.BuildRefusal.TheVariants as refusals

-- before there was a program
pub without_program : (tree : ProgramTree) (refusal : BuildRefusal) → IsGivenUp tree refusal
without_program tree refusals.NotBuilt = unelaborated
without_program tree refusals.Memory = tt

-- before there was code
pub without_code : (tree : ProgramTree) (program : Checked) (refusal : BuildRefusal) → IsElaborated tree program
    → (refusal ≡ refusals.NotBuilt → 65536 < program.size) → IsGivenUp tree refusal
without_code tree program refusals.NotBuilt made too_long = uncompiled program made (too_long refl)
without_code tree program refusals.Memory made too_long = tt

-- a program that is well elaborated may be compiled
pub compilable : (program : Checked) → AreInRange program → IsWellElaborated program → IsCompilable (checked_tree program)
compilable program in_range well = program_compilable program (record {
  in_range = in_range;
  typed = well.typed.typed;
  few = well.few;
  well_made = well.well_made;
})

-- the guard takes what is compiled of it
disagreeing : (program : Checked) (code : Code) → AreInRange program → IsCompiled program code → (Agrees code → ⊥) → IsUnguarded program code
disagreeing program code in_range compiled disagrees = record {
  disagrees = disagrees;
  not_of_well_elaborated = λ well. disagrees (compiled.agrees (compilable program in_range well));
}

-- by the guard
pub without_guard : (tree : ProgramTree) (program : Checked) (code : Code) (refusal : BuildRefusal) → IsElaborated tree program → IsCompiled program code
    → (refusal ≡ refusals.NotBuilt → Agrees code → ⊥) → IsGivenUp tree refusal
without_guard tree program code refusals.NotBuilt made compiled disagrees =
    unguarded program code made compiled (disagreeing program code made compiled (disagrees refl))
without_guard tree program code refusals.Memory made compiled disagrees = tt

-- a refusal that is handed on
pub handed_on : {T : Type 0} (tree : ProgramTree) (made : Result T BuildRefusal) (refusal : BuildRefusal) → IsErrAnd made (λ e. e ≡ refusal) → IsGivenUp tree refusal
    → IfErr made (IsGivenUp tree)
handed_on tree (Ok built) refusal same given_up = tt
handed_on tree (Err e) refusal same given_up = subst (IsGivenUp tree) (sym same) given_up

fits_by : (code : Code) (size : ℕ) → IsErrOf {T = Code} {E = CodeRefusal} (Ok code) CodeTooLong ↔ (65536 < size) → (65536 < size) ⊎ (size ≤ 65536) → size ≤ 65536
fits_by code size exact (inl more) =
    let same : ◌≡◌ {A = Result Code CodeRefusal} (Ok code) (Err CodeTooLong) = exact.1 more in
    absurd (let no : ⊥ = cc in no)
fits_by code size exact (inr le) = le

-- what is compiled isn't too large
pub fits : (code : Code) (size : ℕ) → IsErrOf {T = Code} {E = CodeRefusal} (Ok code) CodeTooLong ↔ (65536 < size) → size ≤ 65536
fits code size exact = fits_by code size exact (cases_lt 65536 size)
