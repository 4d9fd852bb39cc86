-- What a refusal of the guard tells.
use Rattle.std.specs.Prelude.{◌≡◌}
use Rattle.code_types.specs.declared.code.Code.{Code}
use Rattle.code_types.specs.Agreement.{Agrees}
use Rattle.code_guard.specs.declared.guarded.GuardRefusal.{GuardRefusal}
use Rattle.code_guard.specs.declared.guarded.GuardRefusal.TheVariants.{Disagrees, Memory}

-- a code that disagrees is handed back as it was
abbrev pub IsRefusal : Code → GuardRefusal → Type 0
IsRefusal code (Disagrees back) = (back ≡ code) × (Agrees code → ⊥)
IsRefusal code Memory = Unit {0}
