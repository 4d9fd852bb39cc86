use Rattle.std.proofs.Common.{◌≡◌, ◌++◌, drop}
use Rattle.names_model.specs.Sizes.{elements_in}
use Rattle.names_model.specs.Definitions.{elements_defined}
use Rattle.reach_tables.proofs.definitions.push_elements.Given as goal

abbrev pub invariant-loop-mention : goal.invariant-loop-mention
invariant-loop-mention l = l.out.items ++ elements_defined l.inside (elements_in (drop l.mention-index l.text)) ≡ l.fn.out.items ++ elements_defined l.inside (elements_in l.text)
