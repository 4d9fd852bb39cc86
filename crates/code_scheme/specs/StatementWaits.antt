-- DELAY CASE and RECEIVE CASE: what stands before their alternatives.
use Rattle.std.specs.Prelude.{ℕ, suc, ◌+◌, ◌*◌, Bool, true, false, List, [], ◌∷◌, ◌++◌, pos, length, Option, Some, None, slice_get}
use Rattle.code_types.specs.declared.instr.Instr.{Instr}
use Rattle.code_types.specs.declared.instr.Instr.TheVariants as i
use Rattle.program_trees.specs.ExprTree.{LocationTree}
use Rattle.program_trees.specs.ProgramTree.{LocalRowTree}
use Rattle.program_trees.specs.StatementTree.{DelayNodes, no_delays, more_delays, ReceiveNodes, no_receives, more_receives, OtherwiseNode, no_otherwise, otherwise}
use Rattle.code_scheme.specs.Pieces.{first_in, store_code, keep_code, kept_code, offsets_kept}
use Rattle.code_scheme.specs.ExprSizes.{place_size}
use Rattle.code_scheme.specs.ExprCode.{place_code}
use Rattle.code_scheme.specs.StatementSite.{layout, Standing}

-- ---- SET

-- the place of the location after SET is found and kept
abbrev pub set_place_code : Standing → Option LocationTree → ℕ → List Instr
set_place_code w None at = []
set_place_code w (Some l) at = place_code (layout w.site) w.free l at ++ keep_code l w.free

abbrev pub set_place_size : Option LocationTree → ℕ
set_place_size None = 0
set_place_size (Some l) = place_size l + offsets_kept l

abbrev pub set_kept : Option LocationTree → ℕ
set_kept None = 0
set_kept (Some l) = offsets_kept l

-- the scratch local that keeps the number of the alternative; the instance stands behind it
abbrev pub chosen_in : ℕ → Option LocationTree → ℕ
chosen_in free set = free + set_kept set

-- the location gets the instance
abbrev pub set_code : Standing → Option LocationTree → List Instr
set_code w None = []
set_code w (Some l) = kept_code l w.free ++ (i.Local (chosen_in w.free (Some l) + 1) 1 ∷ store_code (layout w.site) l)

abbrev pub set_size : Option LocationTree → ℕ
set_size None = 0
set_size (Some l) = offsets_kept l + 2

-- ---- DELAY CASE

-- each event with the number of its alternative
abbrev pub events_code : ℕ → List ℕ → List Instr
events_code k [] = []
events_code k (e ∷ es) = i.Thing e ∷ i.Push (pos k) ∷ events_code k es

abbrev pub all_events_code : ℕ → DelayNodes → List Instr
all_events_code k no_delays = []
all_events_code k (more_delays es ss ds) = events_code k es ++ all_events_code (suc k) ds

abbrev pub count_of_events : DelayNodes → ℕ
count_of_events no_delays = 0
count_of_events (more_delays es ss ds) = length es + count_of_events ds

abbrev pub delay_wait_code : Standing → Option LocationTree → ℕ → DelayNodes → ℕ → List Instr
delay_wait_code w set priority ds at =
    set_place_code w set at ++
    (all_events_code 0 ds ++ (i.Delay (count_of_events ds) priority ∷ i.SetLocal (chosen_in w.free set) 2 ∷ set_code w set))

abbrev pub delay_wait_size : Option LocationTree → DelayNodes → ℕ
delay_wait_size set ds = set_place_size set + (2 * count_of_events ds + (2 + set_size set))

-- ---- RECEIVE CASE

-- the first of the locals that get what is received, which follow each other
abbrev pub first_received : List LocalRowTree → List ℕ → ℕ
first_received rows [] = 0
first_received rows (k ∷ ks) = first_in (slice_get rows k)

abbrev pub scalars_of_row : Option LocalRowTree → ℕ
scalars_of_row None = 0
scalars_of_row (Some row) = row.count

-- how many scalars they have together
abbrev pub scalars_received : List LocalRowTree → List ℕ → ℕ
scalars_received rows [] = 0
scalars_received rows (k ∷ ks) = scalars_of_row (slice_get rows k) + scalars_received rows ks

-- what is received, and the locals that get it
abbrev pub sources_code : List LocalRowTree → ReceiveNodes → List Instr
sources_code rows no_receives = []
sources_code rows (more_receives source ks ss rs) =
    i.Thing source ∷ i.Push (pos (first_received rows ks)) ∷ i.Push (pos (scalars_received rows ks)) ∷ sources_code rows rs

abbrev pub count_of_sources : ReceiveNodes → ℕ
count_of_sources no_receives = 0
count_of_sources (more_receives source ks ss rs) = suc (count_of_sources rs)

-- from buffers or of signals
pub data Receives : Type 0 where
  from_buffers : Receives
  of_signals : Receives

abbrev pub receive_instr : Receives → ℕ → Bool → Instr
receive_instr from_buffers n has_else = i.Take n has_else
receive_instr of_signals n has_else = i.Hear n has_else

-- to this place where nothing came, if ELSE is written
abbrev pub nothing_code : Bool → ℕ → ℕ → ℕ → List Instr
nothing_code false chosen n nothing = []
nothing_code true chosen n nothing = i.Local chosen 1 ∷ i.Push (pos n) ∷ i.Less 1 ∷ i.Unless nothing ∷ []

abbrev pub has_else : OtherwiseNode → Bool
has_else no_otherwise = false
has_else (otherwise ss) = true

abbrev pub receive_wait_code : Standing → Receives → Option LocationTree → ReceiveNodes → Bool → ℕ → ℕ → List Instr
receive_wait_code w receives set rs has_else nothing at =
    set_place_code w set at ++
    (sources_code w.site.body.locals rs ++
    (receive_instr receives (count_of_sources rs) has_else ∷ i.SetLocal (chosen_in w.free set) 2 ∷
    (nothing_code has_else (chosen_in w.free set) (count_of_sources rs) nothing ++ set_code w set)))

abbrev pub receive_wait_size : Option LocationTree → ReceiveNodes → Bool → ℕ
receive_wait_size set rs has_else =
    set_place_size set + (3 * count_of_sources rs + (2 + (length (nothing_code has_else 0 0 0) + set_size set)))

-- ---- alternatives

-- whether the alternative of this number is the one that is kept
abbrev pub is_chosen_code : ℕ → ℕ → List Instr
is_chosen_code chosen k = i.Local chosen 1 ∷ i.Push (pos k) ∷ i.Same 1 ∷ []
