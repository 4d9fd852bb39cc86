-- A part behind a name, without where it lies in memory.
use Rattle.chill_tree.specs.ExprTree.{expr_trees}
use Rattle.expr_parser.specs.declared.part.NamePart.{NamePart}
use Rattle.expr_parser.specs.declared.part.NamePart.TheVariants as made
use Rattle.rules_model.specs.ExprReading.{Args, Field}
use Rattle.rules_model.specs.ExprReading as reading

abbrev pub part_of : NamePart → reading.NamePart
part_of (made.Args es) = Args (expr_trees es)
part_of (made.Field n) = Field n
