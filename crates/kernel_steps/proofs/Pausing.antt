-- A burst that a process uses up is noted.
use Rattle.std.proofs.Common.{◌≡◌, ℕ, [], ◌∷◌, ◌++◌, append-nil, refl, sym, ◌∙◌, arith, None}
use Rattle.kernel_base.specs.declared.event.Event.TheVariants.{Runs}
use Rattle.world_model.specs.Ranges.{IsNumber}
use Rattle.world_model.specs.Waiting.{IsActive}
use Rattle.kernel_steps.specs.declared.state.State.{State}
use Rattle.kernel_steps.specs.Kept.{world_in, IsKept, Rests}
use Rattle.kernel_steps.specs.View.{view_of, Grows}
use Rattle.kernel_steps.proofs.Keeping.{Follows, kept_by}
use Rattle.kernel_steps.proofs.Served.{rests_same, grows_by}

-- nothing is ready any more
abbrev pub unready : State → State
unready s = record s { ready = None }

rests_unready : (s s' : State) → s'.facts ≡ s.facts → s'.queues ≡ s.queues → s'.store ≡ s.store → s'.read ≡ s.read → s'.taken ≡ s.taken → s'.arguments ≡ s.arguments → Rests s.facts (world_in s) s → Rests s.facts (world_in s) s'
rests_unready s s' f q st r t a h = rests_same s.facts (world_in s) (world_in s) s s' refl (record { processes = refl; stored = refl; pending = refl; sends = refl; arguments = refl; queues = q; store = rw st h.store; locations = refl; input = rw r h.input; read = rw r h.read; taken = t; argued = rw a refl }) h

kept_unready : (s : State) → IsKept s → IsKept (unready s)
kept_unready s k = record { sound = k.sound; book = k.book; seated = k.seated; rests = rests_unready s (unready s) refl refl refl refl refl refl k.rests }

-- the state with the journal of another, in which nothing is ready
abbrev pub paused : State → State → State
paused s t = record s { journal = t.journal; ready = None }

follows_pause : (s t : State) (who ticks : ℕ) → IsKept s → IsActive (world_in s) who → IsNumber who → IsNumber ticks → ticks ≡ 256 → t.journal.events ≡ s.journal.events ++ Runs who ticks ∷ [] → Follows (unready s) (paused s t) (Runs who ticks) None
follows_pause s t who ticks k active a b is e = record {
  may = record { allowed = record { in_range = (a, b); possible = (active, omega (arith, is)) }; width = omega arith; burst = is; phases = omega arith };
  facts = refl;
  widest = refl;
  ready = refl;
  events = e ∙ sym (append-nil (s.journal.events ++ Runs who ticks ∷ []));
  in_range = tt;
  settles = record { seated = k.seated; answer = refl };
  rests = rests_unready s (paused s t) refl refl refl refl refl refl k.rests;
}

pub pause_keeps : (s t : State) (who ticks : ℕ) → IsKept s → IsActive (world_in s) who → IsNumber who → IsNumber ticks → ticks ≡ 256 → t.journal.events ≡ s.journal.events ++ Runs who ticks ∷ [] → IsKept (paused s t)
pause_keeps s t who ticks k active a b is e = kept_by (unready s) (paused s t) (Runs who ticks) None (kept_unready s k) (follows_pause s t who ticks k active a b is e)

pub pause_grows : (s t : State) (who ticks : ℕ) → IsKept s → IsActive (world_in s) who → IsNumber who → IsNumber ticks → ticks ≡ 256 → t.journal.events ≡ s.journal.events ++ Runs who ticks ∷ [] → Grows (view_of s) (view_of (paused s t)) (Runs who ticks)
pause_grows s t who ticks k active a b is e =
    let g = grows_by (unready s) (paused s t) (Runs who ticks) None (kept_unready s k) (follows_pause s t who ticks k active a b is e) refl refl in
    record { goes = g.goes; only = g.only; events = g.events; idle = g.idle; unfetched = g.unfetched; facts = g.facts; taken = g.taken }
