-- The bodies of procedures and processes are typed.
use Rattle.std.proofs.Common.{◌≡◌, ℕ, suc, Bool, true, false, List, [], length, Option, Some, None, refl, sym, ap, ◌∙◌, subst, true≢false}
use Rattle.std.specs.Prelude.{option_and_then}
use Rattle.chill_tree.specs.StatementTree.{body_nodes, handler_node}
use Rattle.chill_tree.specs.ItemTree.{ProcedureTree, ProcessTree}
use Rattle.modes.specs.ModeTree.{ModeTree}
use Rattle.checked_program.specs.declared.program.Sort.TheVariants as sorts
use Rattle.program_trees.specs.StatementTree as done
use Rattle.program_trees.specs.ProgramTree.{CheckedTree, BodyRowTree, LocalRowTree}
use Rattle.checks_model.specs.Ground.{a_procedure, a_process}
use Rattle.checks_model.specs.ActionRules.{Returning, no_procedure, a_value}
use Rattle.checks_model.specs.Phases.{returning_of}
use Rattle.checks_model.specs.Sites as sites
use Rattle.checks_model.specs.Sites.{sites_of_parts, sites_of_handler}
use Rattle.written_laws.specs.Written.{Each}
use Rattle.elaborated_laws.proofs.Told.{there_chained}
use Rattle.elaboration_model.specs.Numbering.{Source, Row, has_body, count_before}
use Rattle.elaboration_model.specs.Elaborated.{listed_by, result_of, locals_of, inside_of, procedure_body, procedure_made, process_body, body_as}
use Rattle.elaboration_model.specs.Statements.{in_body, body, handled}
use Rattle.expression_laws.specs.Names.{AllNamesKnown}
use Rattle.expression_laws.specs.Statements.{IsAround}
use Rattle.source_meaning.specs.TypedStatements.{AreTyped, IsTypedHandler}
use Rattle.source_meaning.specs.Typed.{around_body}
use Rattle.typed_laws.proofs.Made.{MadeParts, made_parts, ThreeParts, three_parts}
use Rattle.action_laws.specs.Actions.{StandsAround}
use Rattle.body_laws.specs.Statements.{IsNodeSound}
use Rattle.body_laws.specs.Rows.{IsTypedInside, ProcedureTypedLaw, ProcessTypedLaw}
use Rattle.body_laws.proofs.Statements.{body_typed_law, handler_typed_law}

abbrev Inside : Type 0
Inside = done.StatementNodes × done.HandlerNode

pub procedure_typed : ProcedureTypedLaw
procedure_typed s p d r q b around known is around_is statements handler =
    let result = there_chained (procedure_made s d r q) (result_of s q) b is in
    let locals = locals_of s (suc (count_before (λ r. has_body r.origin) d s.rows)) in
    let parts = three_parts (procedure_body s d r q result.0) (listed_by s q.exceptions) locals (inside_of s result.0 q.body q.handler) b result.2 in
    let both : done.StatementNodes → done.HandlerNode → Inside = λ ss hs. (ss, hs) in
    let inside = made_parts both (body s (in_body result.0) (body_nodes q.body)) (handled s (in_body result.0) (handler_node q.handler)) parts.third parts.of_third in
    let same_result : b.result ≡ result.0 = sym (ap (λ (x : BodyRowTree). x.result) parts.whole) in
    let same_sort : b.sort ≡ sorts.Procedure = sym (ap (λ (x : BodyRowTree). x.sort) parts.whole) in
    let statements_are : inside.first ≡ b.statements = ap (λ (x : Inside). x.0) inside.whole ∙ ap (λ (x : BodyRowTree). x.statements) parts.whole in
    let handler_is : inside.second ≡ b.handler = ap (λ (x : Inside). x.1) inside.whole ∙ ap (λ (x : BodyRowTree). x.handler) parts.whole in
    let stands : StandsAround s (in_body result.0) around (around_body p b) = record { labels = refl; result = same_result; sort = λ other. same_sort } in
    let is_around = subst (λ m. IsAround s (in_body m) around) same_result around_is in
    record {
      statements = subst (λ x. AreTyped (around_body p b) x) statements_are (body_typed_law s (in_body result.0) around (around_body p b) (body_nodes q.body) inside.first known is_around stands statements inside.of_first);
      handler = subst (λ x. IsTypedHandler (around_body p b) x) handler_is (handler_typed_law s (in_body result.0) around (around_body p b) (handler_node q.handler) inside.second known is_around stands handler inside.of_second);
    }

no_result : (s : Source) (around : sites.Around) → returning_of s.known around ≡ no_procedure → IsAround s (in_body None) around
no_result s around none = record { result = λ m is. absurd (true≢false (ap gives (sym is ∙ none))); place = λ m is. absurd (true≢false (ap gives (sym is ∙ none))) }
  where
    gives : Returning → Bool
    gives (a_value m) = true
    gives r = false

pub process_typed : ProcessTypedLaw
process_typed s p d r q b around known is none statements handler =
    let locals = locals_of s (suc (count_before (λ r. has_body r.origin) d s.rows)) in
    let parts = made_parts (process_body d r q) locals (inside_of s None q.body q.handler) b is in
    let both : done.StatementNodes → done.HandlerNode → Inside = λ ss hs. (ss, hs) in
    let inside = made_parts both (body s (in_body None) (body_nodes q.body)) (handled s (in_body None) (handler_node q.handler)) parts.second parts.of_second in
    let same_result : b.result ≡ None = sym (ap (λ (x : BodyRowTree). x.result) parts.whole) in
    let statements_are : inside.first ≡ b.statements = ap (λ (x : Inside). x.0) inside.whole ∙ ap (λ (x : BodyRowTree). x.statements) parts.whole in
    let handler_is : inside.second ≡ b.handler = ap (λ (x : Inside). x.1) inside.whole ∙ ap (λ (x : BodyRowTree). x.handler) parts.whole in
    let stands : StandsAround s (in_body None) around (around_body p b) = record { labels = refl; result = same_result; sort = λ other. absurd (other none) } in
    record {
      statements = subst (λ x. AreTyped (around_body p b) x) statements_are (body_typed_law s (in_body None) around (around_body p b) (body_nodes q.body) inside.first known (no_result s around none) stands statements inside.of_first);
      handler = subst (λ x. IsTypedHandler (around_body p b) x) handler_is (handler_typed_law s (in_body None) around (around_body p b) (handler_node q.handler) inside.second known (no_result s around none) stands handler inside.of_second);
    }
