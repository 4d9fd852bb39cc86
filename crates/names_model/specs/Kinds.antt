-- What names stand for, and what is needed of them.
use Rattle.std.specs.Prelude.{Bool, true, false}
use Rattle.names_model.specs.declared.kind.Kind.{Kind}
use Rattle.names_model.specs.declared.kind.Kind.TheVariants as kinds
use Rattle.names_model.specs.declared.kind.Need.{Need}
use Rattle.names_model.specs.declared.kind.Need.TheVariants as needs

abbrev pub is_mode : Kind → Bool
is_mode kinds.Mode = true
is_mode kinds.PredefinedMode = true
is_mode _ = false

abbrev pub is_process : Kind → Bool
is_process kinds.Process = true
is_process _ = false

abbrev pub is_location : Kind → Bool
is_location kinds.Location = true
is_location _ = false

-- what may be called as an action
abbrev pub is_called : Kind → Bool
is_called kinds.Procedure = true
is_called kinds.PredefinedRoutine = true
is_called kinds.MeasuringRoutine = true
is_called _ = false

-- what may be sent to, and received from
abbrev pub is_message : Kind → Bool
is_message kinds.Location = true
is_message kinds.Signal = true
is_message _ = false

-- what may begin a value or a location
abbrev pub is_value : Kind → Bool
is_value kinds.Location = true
is_value kinds.Parameter = true
is_value kinds.Counter = true
is_value kinds.Received = true
is_value kinds.Synonym = true
is_value kinds.Element = true
is_value kinds.Procedure = true
is_value kinds.PredefinedConstant = true
is_value kinds.PredefinedRoutine = true
is_value kinds.MeasuringRoutine = true
is_value _ = false

-- a name of the kind may stand where this is needed
abbrev pub fits : Need → Kind → Bool
fits needs.Mode kind = is_mode kind
fits needs.Process kind = is_process kind
fits needs.Action kind = is_called kind
fits needs.Location kind = is_location kind
fits needs.Message kind = is_message kind
fits needs.Value kind = is_value kind

-- UPPER, LOWER and SIZE
abbrev pub is_measuring : Kind → Bool
is_measuring kinds.MeasuringRoutine = true
is_measuring _ = false

-- what N6 speaks of: a synonym or a mode depends on itself through anything, a location through locations alone
abbrev pub is_constant : Kind → Bool
is_constant kinds.Synonym = true
is_constant kinds.Mode = true
is_constant _ = false
