use Rattle.std.proofs.Common.{ap, ◌∙◌, ◌++◌, append_assoc}
use Rattle.std.specs.Prelude.{flat_map}
use Rattle.names_model.specs.NameRules.{told_mentions}
use Rattle.reach_walk.proofs.told.tell_head.Goals as goal

pub returns : goal.returns
returns c = λ text r s. c.in_ok-tell_mentions.ensures text r s ∙ ap (λ z. z ++ told_mentions text r c.args.returned.now) (c.in_ok-tell_clauses.ensures text r s) ∙ append_assoc c.args.out.now.items (flat_map (λ x. told_mentions text r x.text) c.args.params.now) (told_mentions text r c.args.returned.now)
