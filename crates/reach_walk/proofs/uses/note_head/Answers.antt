use Rattle.std.proofs.Common.{ap, ◌∙◌, ◌++◌, append_assoc}
use Rattle.std.specs.Prelude.{flat_map}
use Rattle.names_model.specs.Resolving.{resolved_mentions}
use Rattle.reach_walk.proofs.uses.note_head.Goals as goal

pub returns : goal.returns
returns c = λ text r s. c.in_ok-note_mentions.ensures text r s ∙ ap (λ z. z ++ resolved_mentions text r c.args.returned.now) (c.in_ok-note_clauses.ensures text r s) ∙ append_assoc c.args.out.now.items (flat_map (λ x. resolved_mentions text r x.text) c.args.params.now) (resolved_mentions text r c.args.returned.now)
