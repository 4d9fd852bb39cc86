use Rattle.std.proofs.Common.{◌≡◌, List, ◌++◌, drop}
use Rattle.names_model.specs.declared.definition.Definition.{Definition}
use Rattle.names_model.specs.Seeing.{Reach}
use Rattle.names_model.specs.NameRules.{told_mentions}
use Rattle.reach_tables.specs.Scopes.{Shows}
use Rattle.reach_walk.proofs.told.tell_mentions.Given as goal

abbrev pub invariant-loop-mention : goal.invariant-loop-mention
invariant-loop-mention l = (whole : List Definition) (r : Reach) → Shows l.book l.scope whole r → l.out.items ++ told_mentions whole r (drop l.mention-index l.text) ≡ l.fn.out.items ++ told_mentions whole r l.text
