use Rattle.std.proofs.Common.{◌≡◌, drop}
use Rattle.outside_ports.specs.MemoryLibrary.{bytes_of}
use Rattle.outside_ports.proofs.memory_library.find.Given as goal

-- what is left has the file that all have
abbrev pub invariant-loop-file : goal.invariant-loop-file
invariant-loop-file l = bytes_of (drop l.file-index l.files) l.name ≡ bytes_of l.files l.name
