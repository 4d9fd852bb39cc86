-- The facts of a program: what its runs start from.
use Rattle.std.specs.Prelude.{◌≡◌, ◌+◌, ℕ, min, max, List, [], ◌∷◌, map}
use Rattle.chill_base.specs.declared.layout.Bits.{Bits}
use Rattle.checked_program.specs.declared.program.Checked.{Checked}
use Rattle.checked_program.specs.declared.program.Body.{Body}
use Rattle.checked_program.specs.declared.program.LocationRow.{LocationRow}
use Rattle.checked_program.specs.declared.program.Sort.{Sort}
use Rattle.checked_program.specs.declared.program.Sort.TheVariants.{Outermost, Process, Procedure}
use Rattle.kernel_base.specs.declared.facts.Facts.{Facts}
use Rattle.layout_map.specs.Outcome.{outcome_of, spots}
use Rattle.layout_map.specs.Spots.{spots_of}
use Rattle.modes.specs.ModeTree.{ModeTree, mode_tree}
use Rattle.code_gen.specs.Lowest.{lowest_value}

abbrev pub mode_of : LocationRow → ModeTree
mode_of row = mode_tree row.mode.value

-- a procedure's body is none of a process
abbrev pub number_behind : Sort → ℕ → ℕ
number_behind Outermost number = number + 1
number_behind Process number = number + 1
number_behind Procedure number = 0

-- one more than the greatest number of a process, where the first of the bodies has this number
abbrev pub behind_processes : ℕ → List Body → ℕ
behind_processes number [] = 0
behind_processes number (body ∷ bodies) = max (number_behind body.sort number) (behind_processes (number + 1) bodies)

-- how many numbers of processes there are; more than 32 bits can tell, which no program has, are held as 2 ^ 32 - 1
abbrev pub process_count : List Body → ℕ
process_count bodies = min (behind_processes 0 bodies) 4294967295

-- The lowest value of each shared location and its layout, the counts and lengths that are written, the input and the budget.
abbrev pub facts_of : Checked → List ℕ → ℕ → Facts
facts_of program input units = record {
  store = map (λ row. lowest_value (mode_of row)) program.locations;
  layouts = map (λ row. spots_of (mode_of row)) program.locations;
  regions = program.regions;
  events = map (λ row. row.length) program.events;
  buffers = map (λ row. row.length) program.buffers;
  processes = process_count program.bodies;
  signals = map (λ row. row.process) program.signals;
  input = input;
  units = units;
}

-- a location has no layout
abbrev pub HasNoLayout : LocationRow → Type 0
HasNoLayout row = (bits : List Bits) → outcome_of (mode_of row) ≡ spots bits → ⊥
