use Rattle.std.proofs.Common.{◌≡◌, ◌++◌, drop}
use Rattle.std.specs.Prelude.{flat_map}
use Rattle.names_model.specs.declared.kind.Need.TheVariants as needs
use Rattle.names_model.specs.ExprMentions.{used}
use Rattle.reach_parts.proofs.statement.mention_events.Given as goal

abbrev pub invariant-loop-name : goal.invariant-loop-name
invariant-loop-name l = l.mentions ++ flat_map (used needs.Location) (drop l.name-index l.names) ≡ flat_map (used needs.Location) l.names
