-- What the words behind the command's own have said so far.
use Rattle.std.specs.Prelude.{ℕ, ◌==◌, ◌&&◌, List, [], ◌∷◌, length, drop, Bool, true, false, Option, Some, None, is_some, if◌then◌else◌, nat_lt, nat_eq, option_map, option_and_then, slice_index, slice_index_or, map, string_bytes, codes}
use Rattle.std.specs.List.{starts_with}
use Rattle.std.specs.Str.{bytes_eq}
use Rattle.std.specs.declared.string.String.{String}
use Rattle.word_reader.specs.Number.{number_of}
use Rattle.word_reader.specs.declared.reading.Waiting.{Waiting}
use Rattle.word_reader.specs.declared.reading.Waiting.TheVariants.{Nothing, Workers, Units}
use Rattle.word_reader.specs.declared.reading.Manner.{Manner}
use Rattle.word_reader.specs.declared.reading.Reading.{Reading as Held}

abbrev pub Text : Type 0
Text = List ℕ

pub record Reading : Type 0 where
  pub place : Option Text
  pub second : Option Text
  pub workers : Option ℕ
  pub units : Option ℕ
  pub watch : Bool
  pub waiting : Waiting
  pub trailing : Bool

-- the word at a place
abbrev pub word_at : {A : Type 0} → List (String A) → ℕ → Text
word_at words i = slice_index_or (map string_bytes words) i []

-- a reading whose places are those of words, as the definitions have it: with the words themselves
abbrev pub reading_of : List Text → Held → Reading
reading_of words h = record {
  place = option_map (λ i. slice_index_or words i []) h.place;
  second = option_map (λ i. slice_index_or words i []) h.second;
  workers = h.workers;
  units = h.units;
  watch = h.watch;
  waiting = h.waiting;
  trailing = h.trailing;
}

abbrev pub opening : Reading
opening = record { place = None; second = None; workers = None; units = None; watch = false; waiting = Nothing; trailing = false }

-- the word is the second positional, where the command takes two
abbrev pub placed_second : Manner → Reading → Text → Option Reading
placed_second m s w = if m.takes_two then (if is_some s.second then None else Some (record s { second = Some w })) else None

-- the word is positional
abbrev pub placed : Manner → Reading → Text → Option Reading
placed m s w = if is_some s.place then placed_second m s w else Some (record s { place = Some w })

-- the text is the number of an option
abbrev pub with_workers : Reading → Text → Option Reading
with_workers s w = option_map (λ n. record s { workers = Some n; waiting = Nothing }) (number_of 1 16 w)

abbrev pub with_units : Reading → Text → Option Reading
with_units s w = option_map (λ n. record s { units = Some n; waiting = Nothing }) (number_of 1 10000000 w)

-- the word begins with '-' and is longer
abbrev pub is_option : Text → Bool
is_option w = nat_lt 1 (length w) && (slice_index w 0 == 45)

abbrev pub plain : Manner → Reading → Text → Option Reading
plain m s w = if is_option w then None else placed m s w

abbrev pub watched : Manner → Reading → Text → Option Reading
watched m s w = if bytes_eq w (codes "--watch") then (if s.watch then None else Some (record s { watch = true })) else plain m s w

abbrev pub for_watch : Manner → Reading → Text → Option Reading
for_watch m s w = if m.has_watch then watched m s w else plain m s w

abbrev pub counted_units : Manner → Reading → Text → Option Reading
counted_units m s w = if bytes_eq w (codes "--units") then (if is_some s.units then None else Some (record s { waiting = Units }))
    else (if starts_with nat_eq w (codes "--units=") then (if is_some s.units then None else with_units s (drop 8 w)) else for_watch m s w)

abbrev pub for_units : Manner → Reading → Text → Option Reading
for_units m s w = if m.has_units then counted_units m s w else plain m s w

abbrev pub counted_workers : Manner → Reading → Text → Option Reading
counted_workers m s w = if bytes_eq w (codes "--workers") then (if is_some s.workers then None else Some (record s { waiting = Workers }))
    else (if starts_with nat_eq w (codes "--workers=") then (if is_some s.workers then None else with_workers s (drop 10 w)) else for_units m s w)

abbrev pub for_workers : Manner → Reading → Text → Option Reading
for_workers m s w = if m.has_workers then counted_workers m s w else for_units m s w

abbrev pub idle : Manner → Reading → Text → Option Reading
idle m s w = if bytes_eq w (codes "--") then Some (record s { trailing = true }) else for_workers m s w

abbrev pub awaited : Waiting → Manner → Reading → Text → Option Reading
awaited Nothing m s w = idle m s w
awaited Workers m s w = with_workers s w
awaited Units m s w = with_units s w

abbrev pub step : Manner → Reading → Text → Option Reading
step m s w = if s.trailing then placed m s w else awaited s.waiting m s w

abbrev pub ended : Waiting → Reading → Option Reading
ended Nothing s = Some s
ended _ s = None

-- the state after the words, where no option lacks its number
abbrev pub walk : Manner → Reading → List Text → Option Reading
walk m s [] = ended s.waiting s
walk m s (w ∷ ws) = option_and_then (λ t. walk m t ws) (step m s w)

-- what words say from the start
abbrev pub read_by : {A : Type 0} → Manner → List (String A) → Option Reading
read_by m words = walk m opening (map string_bytes words)

-- `run` has all options, `record` two and `replay` one; `replay` alone takes two positional words
abbrev pub run_manner : Manner
run_manner = record { has_workers = true; has_units = true; has_watch = true; takes_two = false }

abbrev pub record_manner : Manner
record_manner = record { has_workers = true; has_units = true; has_watch = false; takes_two = false }

abbrev pub replay_manner : Manner
replay_manner = record { has_workers = false; has_units = true; has_watch = false; takes_two = true }

abbrev pub plain_manner : Manner
plain_manner = record { has_workers = false; has_units = false; has_watch = false; takes_two = false }
