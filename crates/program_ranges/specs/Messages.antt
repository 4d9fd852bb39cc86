-- When the numbers of what is sent and received are in range.
use Rattle.std.specs.Prelude.{ℕ, zero, suc, ◌+◌, Bool, true, false, ◌&&◌, nat_eq, List, [], ◌∷◌, map, length, slice_get, Option, Some, None, option_map}
use Rattle.checked_program.specs.declared.program.Checked.{Checked}
use Rattle.checked_program.specs.declared.program.Body.{Body}
use Rattle.checked_program.specs.declared.program.LocalRow.{LocalRow}
use Rattle.checked_program.specs.declared.program.BufferRow.{BufferRow}
use Rattle.checked_program.specs.declared.program.SignalRow.{SignalRow}
use Rattle.checked_program.specs.declared.statement.Sent.{Sent}
use Rattle.checked_program.specs.declared.statement.Sent.TheVariants.{ToBuffer, Signal}
use Rattle.program_ranges.specs.declared.messages.Source.{Source}
use Rattle.program_ranges.specs.declared.messages.Source.TheVariants.{Buffers, Signals}
use Rattle.program_ranges.specs.Around.{is_count, mode_count, buffer_count, local_count}
use Rattle.program_ranges.specs.ExprRanges.{Test, Counted, some_number, expr_ranges, received_ranges}

-- the part of this number of a signal
abbrev pub signal_part : Option SignalRow → ℕ → Option ℕ
signal_part None i = None
signal_part (Some row) i = mode_count (slice_get row.parts i)

-- how many scalars the part of this number has of what comes from a buffer or by a signal; what a buffer gives is one part
abbrev pub part_count : Source → ℕ → ℕ → Checked → Option ℕ
part_count Buffers n zero program = buffer_count (slice_get program.buffers n)
part_count Buffers n (suc i) program = None
part_count Signals n i program = signal_part (slice_get program.signals n) i

abbrev pub one_part : Option BufferRow → Option ℕ
one_part None = None
one_part (Some row) = Some 1

abbrev pub signal_parts : Option SignalRow → Option ℕ
signal_parts None = None
signal_parts (Some row) = Some (length row.parts)

-- how many parts come, where the buffer or the signal is there
abbrev pub parts_of : Source → ℕ → Checked → Option ℕ
parts_of Buffers n program = one_part (slice_get program.buffers n)
parts_of Signals n program = signal_parts (slice_get program.signals n)

-- both are there and equal
abbrev pub same_count : Option ℕ → Option ℕ → Bool
same_count None n = false
same_count (Some m) n = is_count n m

-- a local for each part from this number on
abbrev pub parts_received : Source → ℕ → ℕ → List ℕ → Test
parts_received source n i [] program body = is_count (parts_of source n program) i
parts_received source n i (k ∷ ks) program body = same_count (local_count (slice_get body.locals k)) (part_count source n i program) && parts_received source n (i + 1) ks program body

-- the local's first scalar is this one, where one is told
abbrev pub begins_at : Option ℕ → Option LocalRow → Bool
begins_at None row = true
begins_at (Some first) None = false
begins_at (Some first) (Some row) = nat_eq row.first first

-- the number of the scalar behind a local
abbrev pub behind : Option LocalRow → Option ℕ
behind None = None
behind (Some row) = Some (row.first + row.count)

-- the locals follow each other, and the first of them this scalar where one is told
abbrev pub locals_follow : Option ℕ → List ℕ → Body → Bool
locals_follow first [] body = true
locals_follow first (k ∷ ks) body = begins_at first (slice_get body.locals k) && locals_follow (behind (slice_get body.locals k)) ks body

-- a value for the part of this number of a signal
abbrev pub is_part : ℕ → ℕ → Counted → Test
is_part n i v program body = v.holds program body && is_count (signal_part (slice_get program.signals n) i) v.count

-- a value for each part from this number on
abbrev pub parts_sent : ℕ → ℕ → List Counted → Test
parts_sent n i [] program body = is_count (parts_of Signals n program) i
parts_sent n i (v ∷ vs) program body = is_part n i v program body && parts_sent n (i + 1) vs program body

abbrev pub sent_in_range : Sent → Test
sent_in_range (ToBuffer b v) program body = (received_ranges v).holds program body && is_count (buffer_count (slice_get program.buffers b)) (received_ranges v).count
sent_in_range (Signal s vs to) program body = parts_sent s 0 (map received_ranges vs) program body && some_number (option_map (λ e. expr_ranges e.value) to) program body
