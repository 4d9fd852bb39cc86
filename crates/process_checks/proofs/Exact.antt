-- What is told by the facts of an evaluation is what the phase tells by names, and some of what may be told besides.
use Rattle.std.proofs.Common.{◌≡◌, inl, inr, List, [], ◌∷◌, ◌++◌, ap, ◌∙◌, subst, append-nil, Result, Ok, Err}
use Rattle.std.specs.Prelude.{flat_map, if◌then◌else◌}
use Rattle.chill_tree.specs.ExprTree.{place_of}
use Rattle.chill_tree.specs.ItemTree.{ProgramTree}
use Rattle.diagnostics.specs.declared.diagnostic.Diagnostic.{Diagnostic}
use Rattle.diagnostics.specs.declared.rule.Rule.TheVariants as rules
use Rattle.diagnostics.specs.Listing.{IsIn, SameMembers, listed}
use Rattle.diagnostics.specs.Order.{diagnostic_cmp}
use Rattle.diagnostics.proofs.Apart.{diagnostic_total, told_apart}
use Rattle.diagnostics.proofs.Ordered.{in_listed, from_listed, listed_same}
use Rattle.visibility.specs.declared.refusal.Refusal.{Refusal}
use Rattle.visibility.specs.declared.refusal.Refusal.TheVariants as refusals
use Rattle.checks_model.specs.Ground.{Ground}
use Rattle.checks_model.specs.Told.{tell_at, is_none_told}
use Rattle.checks_model.specs.Phases.{told_of_processes}
use Rattle.wait_exprs.specs.Waits.{WaitTree, set_of, priority_of, waits_of}
use Rattle.wait_exprs.specs.Split.{told_by_names, told_wait}
use Rattle.wait_exprs.proofs.Same.{after, equal_on}
use Rattle.wait_exprs.proofs.Splitting.{split}
use Rattle.constant_operators.specs.declared.evaluation.Evaluation.{Evaluation}
use Rattle.process_names.specs.Walk.{over_program}
use Rattle.process_names.proofs.Phase.{names_told, source_told}
use Rattle.process_checks.specs.Answers.{AnswersList}
use Rattle.process_checks.specs.MetByNumber.{facts_of}
use Rattle.process_checks.specs.Telling.{could_be_told, IsToldMore}
use Rattle.process_checks.specs.ByNames.{IsEvaluationOn, tellable, IsToldByNames, TellsByNames}
use Rattle.process_checks.proofs.Grounds.{are_facts}

module _ (g : Ground) (e : Evaluation) (evaluated : IsEvaluationOn g e) where
  tellable_alike : (w : WaitTree) → could_be_told (facts_of e) w ≡ tellable g w
  tellable_alike (set_of s) = ap (λ ds. if is_none_told ds then tell_at rules.P7 (place_of s) ∷ [] else []) (source_told (facts_of e) g (are_facts g e evaluated) s)
  tellable_alike (priority_of p) = ap (λ ds. if is_none_told ds then tell_at rules.P6 (place_of p) ∷ [] else []) (source_told (facts_of e) g (are_facts g e evaluated) p)

  all_alike : (ws : List WaitTree) → flat_map (could_be_told (facts_of e)) ws ≡ flat_map (tellable g) ws
  all_alike ws = equal_on (tellable g) (could_be_told (facts_of e)) tellable_alike ws

in_list : (told : List Diagnostic) (d : Diagnostic) → IsIn d told → IsIn d (listed diagnostic_cmp told)
in_list told d h = in_listed diagnostic_total told_apart d told h

from_list : (told : List Diagnostic) (d : Diagnostic) → IsIn d (listed diagnostic_cmp told) → IsIn d told
from_list told d h = from_listed diagnostic_total told_apart d told h

-- where there is no priority and no location to be set, names decide the phase
names_alone : (g : Ground) (t : ProgramTree) → waits_of t ≡ [] → SameMembers (told_by_names g t) (told_of_processes g t)
names_alone g t none = subst (λ ds. SameMembers ds (told_of_processes g t)) (ap (λ ws. told_by_names g t ++ flat_map (told_wait g) ws) none ∙ append-nil (told_by_names g t)) (split g t)

pub told_by : (g : Ground) (e : Evaluation) (t : ProgramTree) (told : List Diagnostic) → IsEvaluationOn g e
    → IsToldMore (flat_map (could_be_told (facts_of e)) (waits_of t)) (over_program (facts_of e) t) told → IsToldByNames g t (listed diagnostic_cmp told)
told_by g e t told evaluated more =
    let alike = names_told (facts_of e) g t (are_facts g e evaluated) in
    record {
      has_all = λ d h. in_list told d (more.kept d (alike.back d h));
      has_no_other = λ d h. elim (more.only d (from_list told d h)) [
        | inl k ↦ inl (alike.there d k)
        | inr k ↦ inr (subst (IsIn d) (all_alike g e evaluated (waits_of t)) k)
      ];
      is_exact = λ none.
          ap (listed diagnostic_cmp) (more.none (ap (flat_map (could_be_told (facts_of e))) none))
          ∙ listed_same diagnostic_total told_apart (over_program (facts_of e) t) (told_of_processes g t) (after (over_program (facts_of e) t) (told_by_names g t) (told_of_processes g t) alike (names_alone g t none));
    }

pub answered_by : (g : Ground) (t : ProgramTree) (list : List Diagnostic) (result : Result (Unit {0}) Refusal) → AnswersList list result → IsToldByNames g t list → TellsByNames g t result
answered_by g t list (Ok u) is told = subst (IsToldByNames g t) is told
answered_by g t list (Err (refusals.Broken ds)) is told = subst (IsToldByNames g t) is told
answered_by g t list (Err refusals.Memory) is told = tt
