use Rattle.std.proofs.Common.{◌≡◌, List, ◌++◌, drop}
use Rattle.names_model.specs.declared.definition.Definition.{Definition}
use Rattle.names_model.specs.Seeing.{Reach}
use Rattle.names_model.specs.Resolving.{resolved_mentions}
use Rattle.reach_tables.specs.Scopes.{Shows}
use Rattle.reach_walk.proofs.uses.note_mentions.Given as goal

abbrev pub invariant-loop-mention : goal.invariant-loop-mention
invariant-loop-mention l = (whole : List Definition) (r : Reach) → Shows l.book l.scope whole r → l.out.items ++ resolved_mentions whole r (drop l.mention-index l.text) ≡ l.fn.out.items ++ resolved_mentions whole r l.text
