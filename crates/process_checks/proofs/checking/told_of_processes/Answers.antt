use Rattle.std.proofs.Common.{◌≡◌, ◌++◌, ap, sym, ◌∙◌, subst, refl}
use Rattle.std.specs.Prelude.{flat_map}
use Rattle.chill_tree.specs.ItemTree.{program_tree}
use Rattle.wait_exprs.specs.Waits.{waits_of}
use Rattle.wait_exprs.specs.Views.{wait_trees}
use Rattle.process_names.specs.Walk.{over_program}
use Rattle.wait_exprs.specs.Split.{told_wait}
use Rattle.constant_operators.specs.Grounds.{ground_of}
use Rattle.process_names.specs.Phase.{AreFactsOf}
use Rattle.process_checks.specs.MetByNumber.{facts_of}
use Rattle.process_checks.specs.Waiting.{AreNeeded}
use Rattle.process_checks.proofs.Phase.{own_facts}
use Rattle.process_checks.proofs.ToldMore.{by_facts}
use Rattle.process_checks.proofs.checking.told_of_processes.Goals as goal

pub returns-clause-more : goal.returns-clause-more
returns-clause-more c =
    let e = c.args.evaluation.now in
    let t = program_tree c.args.tree.now in
    let found = c.new-meetings.result in
    let facts : found ≡ facts_of e = c.new-meetings.ensures ∙ rw (c.as_slice.ensures, c.as_slice-2.ensures, c.as_slice-3.ensures, c.as_slice-4.ensures, c.in_ok-used.ensures, c.in_ok-declared.ensures) refl in
    let waits : wait_trees c.as_slice-5.result.now ≡ waits_of t = ap wait_trees c.as_slice-5.ensures ∙ c.in_ok-waits.ensures in
    by_facts (facts_of e) found t (waits_of t) (wait_trees c.as_slice-5.result.now) c.tell_in_program.new.told c.tell_waits.new.told facts waits
    (c.in_ok-tell_in_program.ensures ∙ ap (λ ds. ds ++ over_program found t) c.new-told.ensures)
    c.in_ok-tell_waits.ensures.more

pub returns-clause-exact : goal.returns-clause-exact
returns-clause-exact c = λ ground needed.
    let e = c.args.evaluation.now in
    let g = ground_of e in
    let t = program_tree c.args.tree.now in
    let found = c.new-meetings.result in
    let facts : found ≡ facts_of e = c.new-meetings.ensures ∙ rw (c.as_slice.ensures, c.as_slice-2.ensures, c.as_slice-3.ensures, c.as_slice-4.ensures, c.in_ok-used.ensures, c.in_ok-declared.ensures) refl in
    let waits : wait_trees c.as_slice-5.result.now ≡ waits_of t = ap wait_trees c.as_slice-5.ensures ∙ c.in_ok-waits.ensures in
    let names : c.tell_in_program.new.told ≡ over_program found t = c.in_ok-tell_in_program.ensures ∙ ap (λ ds. ds ++ over_program found t) c.new-told.ensures in
    c.in_ok-tell_waits.ensures.exact (record { ground = ground; facts = subst (λ f. AreFactsOf f g) (sym facts) (own_facts e) }) (subst (AreNeeded g) (sym waits) needed)
    ∙ ap (λ ds. ds ++ flat_map (told_wait g) (wait_trees c.as_slice-5.result.now)) (names ∙ ap (λ f. over_program f t) facts)
    ∙ ap (λ ws. over_program (facts_of e) t ++ flat_map (told_wait g) ws) waits
