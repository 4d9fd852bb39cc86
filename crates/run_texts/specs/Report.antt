-- The report of a run.
use Rattle.std.specs.Prelude.{ℕ, zero, suc, Bool, true, false, List, [], ◌∷◌, ◌++◌, codes, slice_index_or, slice_get, length, Some, None}
use Rattle.std.specs.Fmt.{decimal}
use Rattle.std.specs.declared.option.Option.{Option}
use Rattle.kernel_base.specs.declared.ends.Exc.{Exc}
use Rattle.kernel_base.specs.declared.ends.Exc.TheVariants.{Overflow, Rangefail, Empty, Assertfail, Delayfail, Spacefail, Extinct, User}
use Rattle.kernel_base.specs.declared.ends.How.TheVariants as hows
use Rattle.kernel_base.specs.declared.ends.Over.{Over}
use Rattle.kernel_base.specs.declared.ends.Over.TheVariants.{AllEnded, Still, Spent}
use Rattle.kernel_base.specs.declared.event.Event.{Event}
use Rattle.checked_program.specs.declared.program.Checked.{Checked}
use Rattle.checked_program.specs.declared.program.Body.{Body}
use Rattle.run_texts.specs.declared.processes.ProcessState.{ProcessState}
use Rattle.run_texts.specs.declared.processes.ProcessState.TheVariants as states
use Rattle.run_texts.specs.declared.processes.Processes.{Processes}
use Rattle.run_texts.specs.declared.words.Told.{Told}
use Rattle.run_texts.specs.declared.words.Told.TheVariants.{Raised, Suspended, Delayed, Active}
use Rattle.run_texts.specs.Processes.{processes_after, state_of, has_regions, number_of}

abbrev pub name_in : Option Body → List ℕ
name_in None = []
name_in (Some body) = body.name

-- the name of a process; empty where the program has none of this number
abbrev pub process_name : Checked → ℕ → List ℕ
process_name program number = name_in (slice_get program.bodies number)

-- the spelling of a user's exception; empty where the program has none of this number
abbrev pub spelling : Checked → ℕ → List ℕ
spelling program number = slice_index_or program.exceptions number []

-- an exception as CHILL spells it
abbrev pub exception_name : Checked → Exc → List ℕ
exception_name program Overflow = codes "OVERFLOW"
exception_name program Rangefail = codes "RANGEFAIL"
exception_name program Empty = codes "EMPTY"
exception_name program Assertfail = codes "ASSERTFAIL"
exception_name program Delayfail = codes "DELAYFAIL"
exception_name program Spacefail = codes "SPACEFAIL"
exception_name program Extinct = codes "EXTINCT"
exception_name program (User number) = spelling program number

-- one that was chosen and has regions needs one of them to go on
abbrev pub told_of_chosen : Bool → Told
told_of_chosen true = Suspended
told_of_chosen false = Active

-- what is told of a process, which holds regions or none once it goes on
abbrev pub told_of : ProcessState → Bool → Option Told
told_of states.Active has_regions = Some Active
told_of states.Delayed has_regions = Some Delayed
told_of states.Chosen has_regions = Some (told_of_chosen has_regions)
told_of (states.Ended (hows.Raised exception)) has_regions = Some (Raised exception)
told_of (states.Ended how) has_regions = None

-- the last line, where there is one
abbrev pub last_line : Over → List ℕ
last_line AllEnded = []
last_line Still = codes "stuck\n"
last_line Spent = codes "spent\n"

abbrev pub told_text : Checked → Told → List ℕ
told_text program (Raised exception) = codes "exception " ++ exception_name program exception
told_text program Suspended = codes "suspended"
told_text program Delayed = codes "delayed"
told_text program Active = codes "active"

-- process I NAME: STATE, and a line feed
abbrev pub line_of : Checked → ℕ → ℕ → Told → List ℕ
line_of program instance number told =
    codes "process " ++ decimal instance ++ codes " " ++ process_name program number ++ codes ": " ++ told_text program told ++ codes "\n"

abbrev pub line_if : Checked → ℕ → ℕ → Option Told → List ℕ
line_if program instance number None = []
line_if program instance number (Some told) = line_of program instance number told

-- the line of an instance that has one
abbrev pub line_at : Checked → Processes → ℕ → List ℕ
line_at program ps instance = line_if program instance (number_of ps instance) (told_of (state_of ps instance) (has_regions ps instance))

-- the lines of the instances below a number, by rising instance
abbrev pub lines_below : Checked → Processes → ℕ → List ℕ
lines_below program ps zero = []
lines_below program ps (suc n) = lines_below program ps n ++ line_at program ps n

-- the lines of all instances, and how the run was over
abbrev pub report_by : Checked → Processes → Over → List ℕ
report_by program ps over = lines_below program ps (length ps.states) ++ last_line over

-- The report: how far each process has come at the end of the events that didn't end normally or by STOP, and the last line.
abbrev pub report_of : Checked → List Event → Over → List ℕ
report_of program events over = report_by program (processes_after events) over
