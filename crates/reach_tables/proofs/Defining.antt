-- Definitions that are collected.
use Rattle.std.proofs.Common.{◌≡◌, ℕ, ◌+◌, ◌<◌, List, ◌++◌}
use Rattle.std.specs.Prelude.{◌^◌}
use Rattle.names_model.specs.declared.definition.Inside.{Inside}
use Rattle.names_model.specs.declared.definition.Definition.{Definition}
use Rattle.names_model.specs.Parts.{PartTree}
use Rattle.names_model.specs.Sizes.{size_of}
use Rattle.names_model.specs.Definitions.{definitions_of}
use Rattle.reach_tables.specs.Offsets.{FitsInside}

-- the definitions in a part are put behind others
abbrev pub InsideDefined : Inside → ℕ → (new old : List Definition) → PartTree → Type 0
InsideDefined inside from new old p = from + size_of p < 2 ^ 32 → FitsInside from p → new ≡ old ++ definitions_of inside from p
