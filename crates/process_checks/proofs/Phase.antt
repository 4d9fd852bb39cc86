-- What is told by names, of priorities and of locations to be set is what the phase tells.
use Rattle.std.proofs.Common.{◌≡◌, List, [], ◌∷◌, ◌++◌, refl, ap, sym, ◌∙◌}
use Rattle.std.specs.Prelude.{map, flat_map, Result, Ok, Err}
use Rattle.chill_tree.specs.ItemTree.{ProgramTree}
use Rattle.diagnostics.specs.declared.diagnostic.Diagnostic.{Diagnostic}
use Rattle.diagnostics.specs.Listing.{listed}
use Rattle.diagnostics.specs.Order.{diagnostic_cmp}
use Rattle.diagnostics.proofs.Apart.{diagnostic_total, told_apart}
use Rattle.diagnostics.proofs.Ordered.{listed_same}
use Rattle.visibility.specs.declared.refusal.Refusal.{Refusal}
use Rattle.visibility.specs.declared.refusal.Refusal.TheVariants as refusals
use Rattle.checks_model.specs.Phases.{told_of_processes, broken_processes}
use Rattle.wait_exprs.specs.Waits.{waits_of}
use Rattle.wait_exprs.specs.Split.{told_by_names, told_wait}
use Rattle.wait_exprs.proofs.Same.{same, both, after}
use Rattle.wait_exprs.proofs.Splitting.{split}
use Rattle.definition_origins.specs.declared.origin.Origin.{Origin}
use Rattle.definition_origins.specs.declared.origin.Origin.TheVariants as origins
use Rattle.definition_origins.specs.OriginTrees.{origin_tree, origin_trees}
use Rattle.constant_operators.specs.Grounds.{entry_tree, ground_of}
use Rattle.constant_operators.specs.declared.evaluation.Entry.{Entry}
use Rattle.constant_operators.specs.declared.evaluation.Evaluation.{Evaluation}
use Rattle.process_names.specs.Walk.{over_program}
use Rattle.process_names.specs.Phase.{AreFactsOf}
use Rattle.process_names.proofs.Phase.{names_told}
use Rattle.process_checks.specs.Answers.{AnswersList, Answers}
use Rattle.process_checks.specs.MetByNumber.{mode_known, facts_of}
use Rattle.process_checks.specs.ByNames.{sort_defined, sort_held, IsEvaluationOn}
use Rattle.process_checks.proofs.Grounds.{are_facts}

sort_alike : (o : Origin) → sort_defined (origin_tree o) ≡ sort_held o
sort_alike (origins.Signal s) = refl
sort_alike (origins.Location d first) = refl
sort_alike (origins.Synonym s first) = refl
sort_alike (origins.SynMode d) = refl
sort_alike (origins.NewMode d) = refl
sort_alike (origins.Element own) = refl
sort_alike (origins.Parameter m passing first) = refl
sort_alike (origins.Counter c) = refl
sort_alike (origins.Received a part) = refl
sort_alike (origins.Procedure p) = refl
sort_alike (origins.Process p) = refl
sort_alike (origins.Modulion m) = refl
sort_alike (origins.Predefined own) = refl

sorts_alike : (os : List Origin) → map sort_defined (origin_trees os) ≡ map sort_held os
sorts_alike [] = refl
sorts_alike (o ∷ os) = ap (λ s. s ∷ map sort_defined (origin_trees os)) (sort_alike o) ∙ ap (λ ss. sort_held o ∷ ss) (sorts_alike os)

modes_alike : (es : List Entry) → map (λ k. k.mode) (map entry_tree es) ≡ map mode_known es
modes_alike [] = refl
modes_alike (e ∷ es) = ap (λ ms. mode_known e ∷ ms) (modes_alike es)

-- an evaluation has what its ground has
of_itself : (e : Evaluation) → IsEvaluationOn (ground_of e) e
unfolding ground_of
of_itself e = record { uses = refl; defined = refl; sorts = sorts_alike e.origins; modes = modes_alike e.entries.items }

pub own_facts : (e : Evaluation) → AreFactsOf (facts_of e) (ground_of e)
own_facts e = are_facts (ground_of e) e (of_itself e)

pub exactly : (e : Evaluation) (t : ProgramTree) (told : List Diagnostic) → told ≡ over_program (facts_of e) t ++ flat_map (told_wait (ground_of e)) (waits_of t) → listed diagnostic_cmp told ≡ broken_processes (ground_of e) t
exactly e t told is =
    let g = ground_of e in let f = facts_of e in let w = flat_map (told_wait g) (waits_of t) in
    ap (listed diagnostic_cmp) is
    ∙ listed_same diagnostic_total told_apart (over_program f t ++ w) (told_of_processes g t)
    (after (over_program f t ++ w) (told_by_names g t ++ w) (told_of_processes g t) (both (over_program f t) w (told_by_names g t) w (names_told f g t (own_facts e)) (same w w refl)) (split g t))

-- an answer that has some list is exact where that is the list of the phase
pub answered : (list broken : List Diagnostic) (result : Result (Unit {0}) Refusal) → AnswersList list result → list ≡ broken → Answers broken result
answered list broken (Ok done) is same = sym same ∙ is
answered list broken (Err (refusals.Broken ds)) is same = sym same ∙ is
answered list broken (Err refusals.Memory) is same = tt
