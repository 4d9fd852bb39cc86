-- What the kernel notes of a burst.
use Rattle.std.specs.Prelude.{◌≡◌, ℕ, List, slice_get, Some}
use Rattle.kernel_base.specs.declared.event.Event.{Event}
use Rattle.kernel_base.specs.declared.event.Event.TheVariants.{Did, Waits, Runs}
use Rattle.code_machine.specs.declared.burst.Stop.{Stop}
use Rattle.code_machine.specs.declared.burst.Stop.TheVariants.{Asks, Paused}
use Rattle.kernel_steps.specs.declared.reply.Reply.{Reply}
use Rattle.kernel_steps.specs.View.{View, Commits, Pauses}
use Rattle.serial_run.specs.Coming.{WasOpen}
use Rattle.worker_pool.specs.declared.desk.Outcome.{Outcome}
use Rattle.worker_pool.specs.declared.desk.Outcome.TheVariants.{Noted, Over, Stranger}

-- a burst that asks nothing has 256 ticks
abbrev pub IsStop : Stop → Type 0
IsStop (Asks ticks request) = Unit {0}
IsStop (Paused ticks) = ticks ≡ 256

-- the event tells of this burst of an instance
abbrev pub TellsOf : ℕ → Stop → Event → Type 0
TellsOf who (Asks ticks request) (Did w t r answer refill) = (w ≡ who) × (t ≡ ticks) × (r ≡ request)
TellsOf who (Asks ticks request) (Waits w t r) = (w ≡ who) × (t ≡ ticks) × (r ≡ request)
TellsOf who (Paused ticks) (Runs w t) = (w ≡ who) × (t ≡ ticks)
TellsOf who stop event = ⊥

-- where a burst was noted, it was by an event that tells of it
abbrev pub IsOutcomeOf : ℕ → Stop → Outcome → Type 0
IsOutcomeOf who stop (Noted event) = TellsOf who stop event
IsOutcomeOf who stop Over = Unit {0}
IsOutcomeOf who stop Stranger = Unit {0}

-- the event that stands at a place was noted
abbrev pub IsEventAt : List Event → ℕ → Outcome → Type 0
IsEventAt events place (Noted event) = slice_get events place ≡ Some event
IsEventAt events place Over = ⊥
IsEventAt events place Stranger = ⊥

-- what the commit of a burst comes to
abbrev pub NotesStop : View → View → ℕ → Stop → Reply → Type 0
NotesStop old new who (Asks ticks request) reply = Commits old new who ticks request reply
NotesStop old new who (Paused ticks) reply = Pauses old new who ticks reply

-- if the run wasn't over before any event but a going on, it still wasn't
abbrev pub KeepsOpen : View → View → Type 0
KeepsOpen old new = WasOpen old.facts old.events → WasOpen new.facts new.events
