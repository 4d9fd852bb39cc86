use Rattle.std.proofs.Common.{◌≡◌, List, ◌++◌, drop}
use Rattle.names_model.specs.declared.definition.Definition.{Definition}
use Rattle.names_model.specs.Dependence.{named_in}
use Rattle.names_model.specs.Seeing.{Reach}
use Rattle.reach_tables.specs.Scopes.{Shows}
use Rattle.reach_walk.proofs.groups.named_in.Given as goal

abbrev pub invariant-loop-mention : goal.invariant-loop-mention
invariant-loop-mention l = (whole : List Definition) (r : Reach) → Shows l.book l.scope whole r → l.numbers ++ named_in whole r (drop l.mention-index l.text) ≡ named_in whole r l.text
