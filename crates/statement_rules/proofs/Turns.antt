-- What is told of one more part of a body, or alternative of a handler.
use Rattle.std.proofs.Common.{◌≡◌, ℕ, ◌+◌, ◌<◌, List, ◌∷◌, ◌++◌, map, length, get_or, drop, sym, ap, ◌∙◌, append_assoc}
use Rattle.std.proofs.lemmas.List.{drop_more}
use Rattle.chill_tree.specs.declared.tree.name.Name.{Name}
use Rattle.chill_tree.specs.declared.tree.statement.BodyPart.{BodyPart}
use Rattle.chill_tree.specs.declared.tree.statement.NamedAlternative.{NamedAlternative}
use Rattle.chill_tree.specs.StatementTree.{body_tree, body_trees, body_nodes, named_tree, named_nodes, statement_nodes}
use Rattle.diagnostics.specs.declared.diagnostic.Diagnostic.{Diagnostic}
use Rattle.checks_model.specs.Ground.{Ground}
use Rattle.checks_model.specs.ActionRules.{told_exceptions}
use Rattle.checks_model.specs.Sites.{Around, sites_of_each, sites_of_parts}
use Rattle.statement_laws.specs.Steps.{told_at_all, told_in_exceptions}
use Rattle.statement_rules.specs.Steps.{told_in_part}
use Rattle.statement_rules.proofs.Bodies.{body-more}

pub part_more : (g : Ground) (a : Around) (items : List BodyPart) (k : ℕ) (p : BodyPart) (told next whole : List Diagnostic) → k < length items → p ≡ get_or items k p
    → told ++ told_at_all g (sites_of_parts a (body_nodes (body_trees (drop k items)))) ≡ whole → next ≡ told ++ told_in_part g a (body_tree p)
    → next ++ told_at_all g (sites_of_parts a (body_nodes (body_trees (drop (k + 1) items)))) ≡ whole
part_more g a items k p told next whole less there so_far more =
    let rest = told_at_all g (sites_of_parts a (body_nodes (body_trees (drop (k + 1) items)))) in
    let split : drop k items ≡ p ∷ drop (k + 1) items = drop_more items k p less ∙ ap (λ x. x ∷ drop (k + 1) items) (sym there) in
    let same = ap (λ (ps : List BodyPart). told_at_all g (sites_of_parts a (body_nodes (body_trees ps)))) split ∙ body-more g a (body_tree p) (body_trees (drop (k + 1) items)) in
    ap (λ ds. ds ++ rest) more ∙ append_assoc told (told_in_part g a (body_tree p)) rest ∙ ap (λ ds. told ++ ds) (sym same) ∙ so_far

pub alternative_more : (g : Ground) (a : Around) (items : List NamedAlternative) (k : ℕ) (p : NamedAlternative) (listed after : List Name) (told next whole : List Diagnostic) → k < length items → p ≡ get_or items k p
    → told ++ told_in_exceptions g a listed (named_nodes (map named_tree (drop k items))) ≡ whole → after ≡ listed ++ (named_tree p).names
    → next ≡ told ++ (told_exceptions listed (named_tree p).names ++ told_at_all g (sites_of_each a (statement_nodes (named_tree p).actions)))
    → next ++ told_in_exceptions g a after (named_nodes (map named_tree (drop (k + 1) items))) ≡ whole
alternative_more g a items k p listed after told next whole less there so_far grown more =
    let own = told_exceptions listed (named_tree p).names ++ told_at_all g (sites_of_each a (statement_nodes (named_tree p).actions)) in
    let rest = λ (l : List Name). told_in_exceptions g a l (named_nodes (map named_tree (drop (k + 1) items))) in
    let split : drop k items ≡ p ∷ drop (k + 1) items = drop_more items k p less ∙ ap (λ x. x ∷ drop (k + 1) items) (sym there) in
    ap (λ ds. ds ++ rest after) more ∙ ap (λ (l : List Name). (told ++ own) ++ rest l) grown ∙ append_assoc told own (rest (listed ++ (named_tree p).names))
    ∙ ap (λ (ps : List NamedAlternative). told ++ told_in_exceptions g a listed (named_nodes (map named_tree ps))) (sym split) ∙ so_far
