-- The code that a draft begins with.
use Rattle.std.specs.Prelude.{[]}
use Rattle.code_types.specs.declared.code.Code.{Code}

-- no code
abbrev pub empty_code : Code
empty_code = record { instrs = []; handlers = []; bodies = [] }
