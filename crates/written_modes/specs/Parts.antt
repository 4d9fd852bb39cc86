-- The parts of a mode, and how many scalars they have.
use Rattle.std.specs.Prelude.{Bool, true, false, ◌&&◌, ◌==◌, not}
use Rattle.modes.specs.ModeTree.{ModeTree, array, structure, FieldNodes, no_fields, more_fields}
use Rattle.modes.specs.Bounds.{values_of}
use Rattle.checks_model.specs.Classes.{count_fields}
use Rattle.checks_model.specs.WrittenModes.{is_large}

abbrev pub fields_have_few : FieldNodes → Bool
fields_have_few no_fields = true
fields_have_few (more_fields name m at fs) = not (is_large m) && fields_have_few fs

-- no element and no field has more scalars than a mode may have
abbrev pub has_few_parts : ModeTree → Bool
has_few_parts (array i e how) = not (is_large e)
has_few_parts (structure fs p) = fields_have_few fs
has_few_parts _ = true

-- an array of one element or a structure of one field
abbrev pub has_one_part : ModeTree → Bool
has_one_part (array i e how) = values_of i == 1
has_one_part (structure fs p) = count_fields fs == 1
has_one_part _ = false
