-- What was read of a file or of the input.
use Rattle.std.specs.Prelude.{◌≡◌, ◌⊎◌, ℕ, List, [], ◌++◌, length, take, None, Some, IfSome, IsSomeAnd}
use Rattle.std.specs.declared.option.Option.{Option}
use Rattle.outside_ports.specs.Library.{Contents, untold, missing, held}
use Rattle.chill_top.specs.Commands.{IsTextBy}
use Rattle.word_reader.specs.declared.command.Command.{Command}

-- what was read is a front of the file, where that is told
abbrev pub IsFront : Contents → List ℕ → Type 0
IsFront untold read = Unit {0}
IsFront missing read = read ≡ []
IsFront (held text) read = take (length read) text ≡ read

-- what was read is the text, or so many bytes of a longer one
abbrev pub IsReadingUpTo : ℕ → List ℕ → List ℕ → Type 0
IsReadingUpTo most text read = (read ≡ text) ⊎ (read ≡ take most text)

-- what was read is the text, or the first 262145 bytes of a longer one
abbrev pub IsReadingOf : List ℕ → List ℕ → Type 0
IsReadingOf text read = IsReadingUpTo 262145 text read

-- what was read is a reading of the text of the command
pub record IsRead (command : Command) (contents : List ℕ → Contents) (read : List ℕ) : Type 0 where
  pub text : List ℕ
  pub told : IsTextBy command contents text
  pub reading : IsReadingOf text read

-- what was read is the whole input, or the first 1048577 bytes of a longer one
pub record IsInputFront (whole read : List ℕ) : Type 0 where
  pub front : read ≡ take 1048577 whole

-- where the input is told, what was read is such a front of it
abbrev pub IsInputRead : Option (List ℕ) → List ℕ → Type 0
IsInputRead told read = IfSome told (λ whole. IsInputFront whole read)

-- what was read is the whole input, where that is told
abbrev pub IsWholeInput : Option (List ℕ) → List ℕ → Type 0
IsWholeInput told read = IfSome told (λ whole. whole ≡ read)

-- of an input that is told, what was read stands before what is left; one that isn't told isn't later
abbrev pub IsTaken : Option (List ℕ) → Option (List ℕ) → List ℕ → Type 0
IsTaken None left read = left ≡ None
IsTaken (Some whole) left read = IsSomeAnd left (λ rest. whole ≡ read ++ rest)
