-- What statements stand in, and what that gives back, without where it lies in memory.
use Rattle.chill_tree.specs.ItemTree.{procedure_tree}
use Rattle.checks_model.specs.Sites as sites
use Rattle.checks_model.specs.ActionRules as model
use Rattle.expr_rules.specs.Views.{some_mode}
use Rattle.statement_rules.specs.declared.around.Around.{Around}
use Rattle.statement_rules.specs.declared.around.Around.TheVariants as arounds
use Rattle.statement_rules.specs.declared.around.Returning.{Returning}
use Rattle.statement_rules.specs.declared.around.Returning.TheVariants as returnings

abbrev pub around_tree : Around → sites.Around
around_tree (arounds.Procedure p) = sites.in_procedure (procedure_tree p.now)
around_tree arounds.NoProcedure = sites.in_no_procedure

abbrev pub returning_tree : Returning → model.Returning
returning_tree returnings.NoProcedure = model.no_procedure
returning_tree returnings.NoValue = model.no_value
returning_tree (returnings.Value m) = model.a_value (some_mode m)
