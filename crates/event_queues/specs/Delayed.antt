-- Who is delayed, and whom CONTINUE chooses.
use Rattle.std.specs.Prelude.{◌≡◌, ℕ, ◌≤◌, ◌==◌, Bool, List, ◌∷◌, length, slice_get, slice_index_or, if◌then◌else◌, Some, None, IsSome, nat_eq}
use Rattle.std.specs.Map.{lookup}
use Rattle.std.specs.Option.{option_map}
use Rattle.std.specs.List.{list_any}
use Rattle.std.specs.declared.option.Option.{Option}
use Rattle.kernel_base.specs.declared.request.Alternative.{Alternative}
use Rattle.world_model.specs.Lists.{number_for}
use Rattle.world_model.specs.Waiting.{is_full_at}
use Rattle.kernel_lists.specs.Once.{others}
use Rattle.wait_queues.specs.declared.waiters.Waiter.{Waiter}
use Rattle.wait_queues.specs.Waiting.{AreTied, Joins, waiter_of, waiting_at}
use Rattle.event_queues.specs.declared.sets.Delayed.{Delayed}

-- the length of each event; by process what it is delayed on; by event those that wait, in the order of choice; and for
-- how many changes there is room
pub record Sets : Type 0 where
  pub lengths : List (Option ℕ)
  pub delayed : List (ℕ × Delayed)
  pub waiting : List (List Waiter)
  pub spare : ℕ

-- what a process is delayed on
abbrev pub listed_in : List (ℕ × Delayed) → ℕ → Option Delayed
listed_in delayed who = lookup (nat_eq who) delayed

abbrev pub events_of : Delayed → List Alternative
events_of d = d.events

-- how one that is delayed waits on an event, if it lists it: under the number of the first alternative that does
abbrev pub delayed_on : ℕ → ℕ → Delayed → Option Waiter
delayed_on event who d = option_map (λ number. record { who = who; number = number; priority = d.priority }) (number_for d.events event)

-- each event has its queue, in which exactly those wait that list it
pub record AreKept (lengths : List (Option ℕ)) (delayed : List (ℕ × Delayed)) (waiting : List (List Waiter)) : Type 0 where
  pub each : length waiting ≡ length lengths
  pub tied : AreTied delayed_on delayed waiting

-- the event has as many delayed processes as its length
abbrev pub is_full_on : List (Option ℕ) → List (List Waiter) → ℕ → Bool
is_full_on lengths waiting event = is_full_at (slice_index_or lengths event None) (length (waiting_at waiting event))

-- some listed event has as many delayed processes as its length
abbrev pub is_full_for : Sets → List Alternative → Bool
is_full_for s events = list_any (λ a. is_full_on s.lengths s.waiting a.thing) events

-- One more is delayed so. What is listed of the others stays.
pub record Comes (old new : Sets) (who : ℕ) (d : Delayed) : Type 0 where
  pub listed : (other : ℕ) → listed_in new.delayed other ≡ (if who == other then Some d else listed_in old.delayed other)
  pub waiting : Joins who d.priority d.events old.waiting new.waiting

-- One isn't delayed any more. What is listed of the others stays, and the order in which they wait.
pub record Goes (old new : Sets) (who : ℕ) : Type 0 where
  pub listed : (other : ℕ) → listed_in new.delayed other ≡ (if who == other then None else listed_in old.delayed other)
  pub each : length new.waiting ≡ length old.waiting
  pub waiting : (event : ℕ) (ws : List Waiter) → slice_get old.waiting event ≡ Some ws → slice_get new.waiting event ≡ Some (others waiter_of ws who)

-- The process stood first on the event, through the alternative of this number, and nobody there had a higher priority. It
-- isn't delayed any more.
pub record Wakes (event : ℕ) (old new : Sets) (chosen : Alternative) : Type 0 where
  pub first : Waiter
  pub rest : List Waiter
  pub stood : slice_get old.waiting event ≡ Some (first ∷ rest)
  pub who : chosen.thing ≡ first.who
  pub number_is : chosen.number ≡ first.number
  pub item : Delayed
  pub was : listed_in old.delayed chosen.thing ≡ Some item
  pub number : number_for item.events event ≡ Some chosen.number
  pub highest : (other : ℕ) (d : Delayed) → listed_in old.delayed other ≡ Some d → IsSome (number_for d.events event) → d.priority ≤ item.priority
  pub goes : Goes old new chosen.thing

-- nobody is delayed on the event
abbrev pub NobodyOn : ℕ → List (ℕ × Delayed) → Type 0
NobodyOn event delayed = (who : ℕ) (d : Delayed) → listed_in delayed who ≡ Some d → number_for d.events event ≡ None
