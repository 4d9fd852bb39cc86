-- What is told in actions that hold others, in handlers and in bodies, in the steps of the walk.
use Rattle.std.proofs.Common.{◌≡◌, ◌++◌, List, ◌∷◌, false, ap, ◌∙◌, append-nil, append_assoc}
use Rattle.std.proofs.lemmas.Grind.{flat_map-append}
use Rattle.local_names.proofs.BodyViews.{tree-handler_out}
use Rattle.chill_tree.specs.StatementTree.{BodyTree, local_part, action_part, body_nodes}
use Rattle.chill_tree.proofs.StatementViews.{statement_built}
use Rattle.checks_model.specs.Ground.{Ground}
use Rattle.checks_model.specs.Sites.{Around, sites_of, sites_of_local, sites_of_parts}
use Rattle.checks_model.specs.Phases.{statements_told_at}
use Rattle.statement_laws.specs.Steps.{told_at_all}
use Rattle.statement_laws.proofs.Statements.{bracketed_told, exceptions_told}
use Rattle.statement_rules.specs.Steps.{told_in_part}
use Rattle.statement_rules.proofs.Alike.{local_alike}

-- what is told in a body is told in its first part and in the others
pub body-more : (g : Ground) (a : Around) (b : BodyTree) (bs : List BodyTree) → told_at_all g (sites_of_parts a (body_nodes (b ∷ bs))) ≡ told_in_part g a b ++ told_at_all g (sites_of_parts a (body_nodes bs))
body-more g a (local_part l) bs =
    flat_map-append (statements_told_at g) (sites_of_local false l) (sites_of_parts a (body_nodes bs)) ∙ ap (λ ds. ds ++ told_at_all g (sites_of_parts a (body_nodes bs))) (local_alike g l)
body-more g a (action_part s) bs = flat_map-append (statements_told_at g) (sites_of a s) (sites_of_parts a (body_nodes bs))

pub ruleset statement_views = (statement_built, flat_map-append, append-nil, append_assoc)

pub ruleset bracketed_views = (bracketed_told, append-nil, append_assoc)

pub ruleset handler_views = (tree-handler_out, exceptions_told, flat_map-append, append-nil, append_assoc)

pub ruleset body_views = (body-more, append-nil, append_assoc)
