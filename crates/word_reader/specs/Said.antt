-- The command that a list of words means (our own choice).
use Rattle.std.specs.Prelude.{◌≡◌, List, [], ◌∷◌, Option, None, if◌then◌else◌, option_map, option_and_then, unwrap_or, codes}
use Rattle.std.specs.Str.{bytes_eq}
use Rattle.word_reader.specs.Number.{number_of}
use Rattle.word_reader.specs.Reading.{Text, Reading, opening, plain_manner, record_manner, replay_manner, run_manner, walk}
use Rattle.word_reader.specs.declared.deciding.Wording.{Wording}
use Rattle.word_reader.specs.declared.deciding.Wording.TheVariants as wording
use Rattle.word_reader.specs.declared.command.Command.{Command}
use Rattle.word_reader.specs.declared.command.Command.TheVariants.{Run, Check, List as ListFile, Format, Make, Record, Replay}

-- the command whose file a word names
abbrev pub command_of : Wording → Command
command_of (wording.Run file workers units watch) = Run file.now workers units watch
command_of (wording.Check file) = Check file.now
command_of (wording.List file) = ListFile file.now
command_of (wording.Format file) = Format file.now
command_of (wording.Make subscribers) = Make subscribers
command_of (wording.Record file workers units) = Record file.now workers units
command_of (wording.Replay file journal units) = Replay file.now journal.now units

-- `run`: 4 workers and 1,000,000 units where the words don't say how many
abbrev pub run_of : Reading → Option Command
run_of r = option_map (λ file. Run file (unwrap_or r.workers 4) (unwrap_or r.units 1000000) r.watch) r.place

-- `record`: the same numbers where the words don't say them
abbrev pub record_of : Reading → Option Command
record_of r = option_map (λ file. Record file (unwrap_or r.workers 4) (unwrap_or r.units 1000000)) r.place

-- `replay`: two words, and the same budget where the words don't say it
abbrev pub replay_of : Reading → Option Command
replay_of r = option_and_then (λ file. option_map (λ journal. Replay file journal (unwrap_or r.units 1000000)) r.second) r.place

-- the positional word
abbrev pub file_of : Reading → Option Text
file_of r = r.place

abbrev pub check_of : Reading → Option Command
check_of r = option_map Check (file_of r)

abbrev pub list_of : Reading → Option Command
list_of r = option_map ListFile (file_of r)

abbrev pub format_of : Reading → Option Command
format_of r = option_map Format (file_of r)

-- `make`: its word is a number
abbrev pub made_of : Reading → Option Command
made_of r = option_and_then (λ text. option_map Make (number_of 1 200 text)) (file_of r)

-- words that read so say this command, or none
abbrev pub IsSaid : Option Wording → (Reading → Option Command) → Option Reading → Type 0
IsSaid said of reading = option_map command_of said ≡ option_and_then of reading

-- the first word is the command's own
abbrev pub said_by : Text → List Text → Option Command
said_by verb words =
    if bytes_eq verb (codes "run") then option_and_then run_of (walk run_manner opening words)
    else (if bytes_eq verb (codes "check") then option_and_then check_of (walk plain_manner opening words)
    else (if bytes_eq verb (codes "list") then option_and_then list_of (walk plain_manner opening words)
    else (if bytes_eq verb (codes "format") then option_and_then format_of (walk plain_manner opening words)
    else (if bytes_eq verb (codes "make") then option_and_then made_of (walk plain_manner opening words)
    else (if bytes_eq verb (codes "record") then option_and_then record_of (walk record_manner opening words)
    else (if bytes_eq verb (codes "replay") then option_and_then replay_of (walk replay_manner opening words) else None))))))

abbrev pub said : List Text → Option Command
said [] = None
said (verb ∷ words) = said_by verb words
