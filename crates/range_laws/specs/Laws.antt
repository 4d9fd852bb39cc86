-- The law of what being in range says of trees.
use Rattle.checked_program.specs.declared.program.Checked.{Checked}
use Rattle.program_ranges.specs.ProgramRanges.{AreInRange}
use Rattle.program_trees.specs.ProgramTree.{checked_tree}
use Rattle.range_laws.specs.StatementInRange.{BodiesInRange}

-- The bodies of a program in range are in range as trees.
abbrev pub BodiesInRangeLaw : Type 0
BodiesInRangeLaw = (p : Checked) → AreInRange p → BodiesInRange (checked_tree p)
