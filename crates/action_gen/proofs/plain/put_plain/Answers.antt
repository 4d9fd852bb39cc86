use Rattle.action_gen.specs.Putting.{standing_of}
use Rattle.action_gen.proofs.Asked.{nothing_told, module_told, region_told}
use Rattle.action_gen.proofs.plain.put_plain.Goals as goal

pub returns-in-Nothing-clause-puts : goal.returns-in-Nothing-clause-puts
returns-in-Nothing-clause-puts c = λ _. nothing_told (standing_of c.args.around.now) c.args.action.now c.args.draft.now.code c.in-Nothing.is

pub returns-in-Module-clause-puts : goal.returns-in-Module-clause-puts
returns-in-Module-clause-puts c = λ _. module_told (standing_of c.args.around.now) c.args.action.now _ c.args.draft.now.code c.in-Module.is

pub returns-in-Region-clause-puts : goal.returns-in-Region-clause-puts
returns-in-Region-clause-puts c = λ _. region_told (standing_of c.args.around.now) c.args.action.now _ _ c.args.draft.now.code c.in-Region.is
