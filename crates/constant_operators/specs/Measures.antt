-- What UPPER, LOWER and SIZE measure, without where it lies in memory.
use Rattle.std.specs.Prelude.{Option, ℤ, Some, None}
use Rattle.modes.specs.declared.mode.Bounds.{Bounds}
use Rattle.modes.specs.ModeTree.{ModeTree, mode_tree}
use Rattle.chill_tree.specs.declared.tree.name.Name.{Name}
use Rattle.checks_model.specs.Ground.{Ground, Predefined, upper, origin_of, entry_of, mode_of_name}
use Rattle.checks_model.specs.Classes.{Measured, a_mode_of, misfit, other, measured_name, located_name}
use Rattle.constant_operators.specs.declared.measuring.Measured as rust
use Rattle.constant_operators.specs.declared.measuring.Measured.TheVariants as measures

abbrev pub measured_tree : rust.Measured → Measured
measured_tree (measures.Mode m) = a_mode_of (Some (mode_tree m.value))
measured_tree measures.Broken = a_mode_of None
measured_tree measures.Misfit = misfit
measured_tree measures.Other = other

-- the bound that UPPER gives, or else LOWER
abbrev pub measured_bound : Predefined → Bounds → ℤ
measured_bound upper b = b.high
measured_bound _ b = b.low

-- what a name stands for, as an argument and in front of parts
abbrev pub measured_named : Ground → Name → Measured
measured_named g n = measured_name (mode_of_name g n) (entry_of g n) (origin_of g n)

abbrev pub located_named : Ground → Name → Measured
located_named g n = located_name (entry_of g n) (origin_of g n)

-- the part of a mode, which doesn't fit where there is none
abbrev pub or_misfit : Option ModeTree → Measured
or_misfit None = misfit
or_misfit (Some m) = a_mode_of (Some m)

-- a mode, or nothing that can be measured
abbrev pub or_other : Option ModeTree → Measured
or_other None = other
or_other (Some m) = a_mode_of (Some m)
