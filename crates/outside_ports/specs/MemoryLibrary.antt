-- Files in memory.
use Rattle.std.specs.Prelude.{◌≡◌, ◌⊎◌, ℕ, List, [], ◌∷◌, if◌then◌else◌, None, Some, is_err, Contains}
use Rattle.std.specs.declared.option.Option.{Option}
use Rattle.std.specs.declared.result.Result.{Result}
use Rattle.std.specs.Str.{bytes_eq}
use Rattle.outside_ports.specs.declared.memory_library.File.{File}
use Rattle.outside_ports.specs.Faults.{count_after}
use Rattle.outside_ports.specs.Library.{Contents, missing, held}

-- a library in memory: its files, the numbers of the reads that fail, and how many reads there were and failed
pub record LibraryState : Type 0 where
  pub files : List File
  pub fails : List ℕ
  pub calls : ℕ
  pub faults : ℕ

abbrev pub new_library : List File → List ℕ → LibraryState
new_library files fails = record { files = files; fails = fails; calls = 0; faults = 0 }

-- the bytes of the first file of this name
abbrev pub bytes_of : List File → List ℕ → Option (List ℕ)
bytes_of [] name = None
bytes_of (file ∷ files) name = if bytes_eq file.name name then Some file.bytes else bytes_of files name

-- what is told of a name
abbrev pub told_of : Option (List ℕ) → Contents
told_of None = missing
told_of (Some bytes) = held bytes

abbrev pub contents_of : List File → List ℕ → Contents
contents_of files name = told_of (bytes_of files name)

-- the next read is a fault: it is one of those that fail, or there is no file of this name
abbrev pub FailsAt : LibraryState → List ℕ → Type 0
FailsAt library name = Contains library.fails (count_after library.calls) ⊎ (bytes_of library.files name ≡ None)

-- a read is counted, and so is its fault
abbrev pub library_after : {T E : Type 0} → LibraryState → Result T E → LibraryState
library_after library result = record library {
  calls = count_after library.calls;
  faults = if is_err result then count_after library.faults else library.faults;
}
