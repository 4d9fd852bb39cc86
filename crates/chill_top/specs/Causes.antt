-- Faults of ports, each with its cause.
use Rattle.std.specs.Prelude.{ℕ, ◌<◌, List, length, take}
use Rattle.std.specs.declared.option.Option.{Option}
use Rattle.std.specs.Io.KnownBytes.{Appends, Keeps}
use Rattle.outside_ports.specs.Faults.{Rose}
use Rattle.outside_ports.specs.Library.{Contents}
use Rattle.word_reader.specs.declared.command.Command.{Command}
use Rattle.chill_top.specs.Commands.{IsTextBy, Names, Runs}
use Rattle.chill_top.specs.Plan.{ReadsInput}

-- the library's count for a file that the command names rose
pub record IsReadFault (command : Command) (before now : List ℕ → ℕ) : Type 0 where
  pub file : List ℕ
  pub named : Names command file
  pub rose : Rose (before file) (now file)

-- the feed's count rose, under a command that runs its text, of which the program reads input
pub record IsFeedFault (command : Command) (contents : List ℕ → Contents) (before now : ℕ) : Type 0 where
  pub running : Runs command
  pub text : List ℕ
  pub told : IsTextBy command contents text
  pub reads : ReadsInput text
  pub rose : Rose before now

-- a sink took a proper front of a text
pub record AppendsFront (old new : Option (List ℕ)) (text : List ℕ) : Type 0 where
  pub count : ℕ
  pub proper : count < length text
  pub front : Appends old new (take count text)

-- out failed, and err took nothing
pub record IsOutBroken (out_text : List ℕ) (out out' err err' : Option (List ℕ)) (faults faults' : ℕ) : Type 0 where
  pub out_took : AppendsFront out out' out_text
  pub err_took : Keeps err err'
  pub rose : Rose faults faults'

-- err failed, and out took its whole text
pub record IsErrBroken (out_text err_text : List ℕ) (out out' err err' : Option (List ℕ)) (faults faults' : ℕ) : Type 0 where
  pub out_took : Appends out out' out_text
  pub err_took : AppendsFront err err' err_text
  pub rose : Rose faults faults'
