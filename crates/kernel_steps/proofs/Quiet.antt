-- What waits and what was sent is the same once one that was chosen goes on.
use Rattle.std.proofs.Common.{◌≡◌, ℕ, List, refl, ap, Option, Some, None, slice_set}
use Rattle.kernel_base.specs.declared.facts.Facts.{Facts}
use Rattle.kernel_base.specs.declared.answer.Answer.{Answer}
use Rattle.world_model.specs.declared.world.Phase.{Phase}
use Rattle.world_model.specs.declared.world.Phase.TheVariants.{Active, Chosen}
use Rattle.world_model.specs.declared.world.World.{World}
use Rattle.world_model.specs.Waiting.{phase_of}
use Rattle.world_model.specs.World.{locked_back, back_in, freed_last}
use Rattle.event_queues.specs.Delayed.{Sets}
use Rattle.buffers_signals.specs.Buffers.{SeenBuffers}
use Rattle.buffers_signals.specs.Signals.{SeenSignals}
use Rattle.kernel_steps.specs.Queued.{Sleeps, Trades, Hears}
use Rattle.kernel_steps.specs.Seated.{gone_on}
use Rattle.kernel_steps.proofs.Queued.{sleeps_stay, trades_stay, hears_stay}

-- all but the regions
pub record KeepsRest (w w' : World) : Type 0 where
  pub processes : w'.processes ≡ w.processes
  pub arguments : w'.arguments ≡ w.arguments
  pub phases : w'.phases ≡ w.phases
  pub store : w'.store ≡ w.store
  pub stored : w'.stored ≡ w.stored
  pub pending : w'.pending ≡ w.pending
  pub input : w'.input ≡ w.input
  pub output : w'.output ≡ w.output
  pub sends : w'.sends ≡ w.sends

pub back_keeps : (w : World) (who : ℕ) (back : Option ℕ) → KeepsRest w (locked_back w who back)
back_keeps w who None = record { processes = refl; arguments = refl; phases = refl; store = refl; stored = refl; pending = refl; input = refl; output = refl; sends = refl }
back_keeps w who (Some region) = record { processes = refl; arguments = refl; phases = refl; store = refl; stored = refl; pending = refl; input = refl; output = refl; sends = refl }

pub gone_phases : (w : World) (who : ℕ) → (gone_on w who).phases ≡ slice_set w.phases who Active
gone_phases w who = ap (λ (phases : List Phase). slice_set phases who Active) (back_keeps w who (back_in (phase_of w who))).phases

pub sleeps_go : (facts : Facts) (w : World) (s : Sets) (who : ℕ) (answer : Answer) (back : Option ℕ) → phase_of w who ≡ Some (Chosen answer back) → Sleeps facts w s → Sleeps facts (gone_on w who) s
sleeps_go facts w s who answer back at h = sleeps_stay facts w (gone_on w who) s who (Chosen answer back) Active at (gone_phases w who) refl refl (λ event. refl) (λ event. refl) h

pub trades_go : (facts : Facts) (w : World) (b : SeenBuffers) (who : ℕ) (answer : Answer) (back : Option ℕ) → phase_of w who ≡ Some (Chosen answer back) → Trades facts w b → Trades facts (gone_on w who) b
trades_go facts w b who answer back at h = let same = back_keeps w who (back_in (phase_of w who)) in trades_stay facts w (gone_on w who) b who (Chosen answer back) Active at (gone_phases w who) same.processes same.stored refl refl refl refl h

pub hears_go : (facts : Facts) (w : World) (s : SeenSignals) (who : ℕ) (answer : Answer) (back : Option ℕ) → phase_of w who ≡ Some (Chosen answer back) → Hears facts w s → Hears facts (gone_on w who) s
hears_go facts w s who answer back at h = let same = back_keeps w who (back_in (phase_of w who)) in hears_stay facts w (gone_on w who) s who (Chosen answer back) Active at (gone_phases w who) same.processes same.pending refl refl h

pub freed_keeps : (w : World) (who : ℕ) (back : Option ℕ) → KeepsRest w (freed_last w who back)
freed_keeps w who None = record { processes = refl; arguments = refl; phases = refl; store = refl; stored = refl; pending = refl; input = refl; output = refl; sends = refl }
freed_keeps w who (Some region) = record { processes = refl; arguments = refl; phases = refl; store = refl; stored = refl; pending = refl; input = refl; output = refl; sends = refl }
