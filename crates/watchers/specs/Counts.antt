-- The two watchers that count: events by their kinds, and how often each region was entered.
use Rattle.std.specs.Prelude.{ℕ, zero, suc, List, [], ◌++◌, codes, length, Bool, false, nat_le, slice_set, slice_index, Some, None}
use Rattle.std.specs.Fmt.{decimal}
use Rattle.std.specs.declared.option.Option.{Option}
use Rattle.kernel_base.specs.declared.request.Request.{Request}
use Rattle.kernel_base.specs.declared.request.Request.TheVariants.{Enter}
use Rattle.kernel_base.specs.declared.event.Event.{Event}
use Rattle.kernel_base.specs.declared.event.Event.TheVariants.{Did, Waits, Goes, Runs}
use Rattle.outside_ports.specs.Faults.{count_after}
use Rattle.outside_ports.specs.Watcher.{Watching}

-- the counts after one more at a place
abbrev pub counted : List ℕ → ℕ → List ℕ
counted counts place = slice_set counts place (count_after (slice_index counts place))

-- the place of an event's kind among the counts
abbrev pub kind_of : Event → ℕ
kind_of (Did who ticks request answer refill) = 0
kind_of (Waits who ticks request) = 1
kind_of (Goes who answer) = 2
kind_of (Runs who ticks) = 3

-- a line for each kind
abbrev pub kinds_text : List ℕ → List ℕ
kinds_text counts =
    codes "did " ++ decimal (slice_index counts 0) ++ codes "\nwaits " ++ decimal (slice_index counts 1)
    ++ codes "\ngoes " ++ decimal (slice_index counts 2) ++ codes "\nruns " ++ decimal (slice_index counts 3) ++ codes "\n"

-- it counts every event, and refuses none
abbrev pub event_counter : List ℕ → Watching
event_counter counts = record {
  state = counts;
  step = λ old event. counted old (kind_of event);
  refuses = λ old event. false;
  text = kinds_text;
}

-- the region that a request asks to enter
abbrev pub region_of : Request → Option ℕ
region_of (Enter region) = Some region
region_of request = None

-- the region that is entered, at once or after a wait
abbrev pub entered : Event → Option ℕ
entered (Did who ticks request answer refill) = region_of request
entered (Waits who ticks request) = region_of request
entered (Goes who answer) = None
entered (Runs who ticks) = None

abbrev pub counted_entry : List ℕ → Option ℕ → List ℕ
counted_entry counts None = counts
counted_entry counts (Some region) = counted counts region

-- the table has 4,096 regions
abbrev pub is_past_table : Option ℕ → Bool
is_past_table None = false
is_past_table (Some region) = nat_le 4096 region

-- the line of a region, where it was entered
abbrev pub region_line : ℕ → ℕ → List ℕ
region_line region zero = []
region_line region (suc n) = codes "region " ++ decimal region ++ codes " entered " ++ decimal (suc n) ++ codes "\n"

-- the lines of the regions below a number, rising
abbrev pub regions_below : List ℕ → ℕ → List ℕ
regions_below counts zero = []
regions_below counts (suc n) = regions_below counts n ++ region_line n (slice_index counts n)

-- it counts the events that enter a region, by the region, and refuses one that its table doesn't have
abbrev pub region_counter : List ℕ → Watching
region_counter counts = record {
  state = counts;
  step = λ old event. counted_entry old (entered event);
  refuses = λ old event. is_past_table (entered event);
  text = λ old. regions_below old (length old);
}
