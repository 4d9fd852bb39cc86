-- Values whose powersets have members that rise and are values of their member modes.
use Rattle.std.specs.Prelude.{All}
use Rattle.kernel_base.specs.declared.value.Value.{Value}
use Rattle.kernel_base.specs.Value.{powersets_of}
use Rattle.kernel_base.specs.Facts.{IsPowerset}

abbrev pub HasPowersets : Value → Type 0
HasPowersets value = All IsPowerset (powersets_of value)
