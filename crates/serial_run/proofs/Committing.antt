-- What a commit and a pause come to behind the room that was made for them, and for the machine.
use Rattle.std.proofs.Common.{◌≡◌, ℕ, ◌<◌, List, [], length, refl, sym, ap, ◌∙◌, subst, Option}
use Rattle.kernel_base.specs.declared.facts.Facts.{Facts}
use Rattle.kernel_base.specs.declared.request.Request.{Request}
use Rattle.kernel_base.specs.declared.answer.Answer.{Answer}
use Rattle.kernel_base.specs.declared.event.Event.{Event}
use Rattle.kernel_base.specs.declared.event.Event.TheVariants.{Did, Waits, Runs}
use Rattle.kernel_base.specs.Facts.{IsSound}
use Rattle.world_model.specs.Allowed.{IsRun}
use Rattle.code_types.specs.declared.code.Code.{Code}
use Rattle.world_model.specs.Journal.{ticks_of}
use Rattle.code_types.specs.Talk.{Leads}
use Rattle.kernel_steps.specs.View.{View, Prepared, Keeps, Grows, MayGoOn, MayCommit, Commits, Pauses}
use Rattle.kernel_steps.specs.declared.reply.Reply.{Reply}
use Rattle.kernel_steps.specs.declared.reply.Reply.TheVariants.{Now, Later, Over, Stranger}
use Rattle.machine_steps.specs.declared.process.Process.{Process}
use Rattle.serial_run.specs.declared.runner.Runner.{Runner}
use Rattle.code_machine.specs.Running.{RunsOn, IsUp, Bursts}
use Rattle.machine_steps.specs.Views.{state_of}
use Rattle.code_machine.specs.declared.burst.Stop.TheVariants.{Asks, Paused}
use Rattle.serial_run.specs.Standing.{Stands, IsFresh, AllStand, Advances, IsAnswered, TakesReply}
use Rattle.serial_run.proofs.Served.{did_reached, waits_reached, runs_reached, served_now, served_later, served_paused}

abbrev roomy : View → Option Prepared → View
roomy v ready = record { facts = v.facts; events = v.events; unfetched = v.unfetched; taken = v.taken; ready = ready }

-- but for the room nothing changed
but_room : (old mid : View) → Keeps old mid → mid ≡ roomy old mid.ready
but_room old mid k =
    ap (λ (x : Facts). record { facts = x; events = mid.events; unfetched = mid.unfetched; taken = mid.taken; ready = mid.ready }) k.facts
    ∙ (ap (λ (x : List Event). record { facts = old.facts; events = x; unfetched = mid.unfetched; taken = mid.taken; ready = mid.ready }) k.events
    ∙ (ap (λ (x : List (Option Answer)). record { facts = old.facts; events = old.events; unfetched = x; taken = mid.taken; ready = mid.ready }) k.unfetched
    ∙ ap (λ (x : ℕ). record { facts = old.facts; events = old.events; unfetched = old.unfetched; taken = x; ready = mid.ready }) k.taken))

grows_roomy : (old new : View) (ready : Option Prepared) (event : Event) → Grows (roomy old ready) new event → Grows old new event
grows_roomy old new ready event g = record { goes = g.goes; only = g.only; events = g.events; idle = g.idle; unfetched = g.unfetched; facts = g.facts; taken = g.taken }

keeps_roomy : (old new : View) (ready : Option Prepared) → Keeps (roomy old ready) new → Keeps old new
keeps_roomy old new ready k = record { facts = k.facts; events = k.events; unfetched = k.unfetched; taken = k.taken }

goes_roomy : (old : View) (ready : Option Prepared) (who : ℕ) → MayGoOn (roomy old ready) who → MayGoOn old who
goes_roomy old ready who m = record { active = m.active; fetched = m.fetched }

goes_back : (old : View) (ready : Option Prepared) (who : ℕ) → MayGoOn old who → MayGoOn (roomy old ready) who
goes_back old ready who m = record { active = m.active; fetched = m.fetched }

may_roomy : (old : View) (ready : Option Prepared) (who : ℕ) (request : Request) → MayCommit (roomy old ready) who request → MayCommit old who request
may_roomy old ready who request m = record { goes = goes_roomy old ready who m.goes; fits = m.fits }

may_back : (old : View) (ready : Option Prepared) (who : ℕ) (request : Request) → MayCommit old who request → MayCommit (roomy old ready) who request
may_back old ready who request m = record { goes = goes_back old ready who m.goes; fits = m.fits }

commits_roomy : (old new : View) (ready : Option Prepared) (who ticks : ℕ) (request : Request) (reply : Reply) → Commits (roomy old ready) new who ticks request reply → Commits old new who ticks request reply
commits_roomy old new ready who ticks request (Now answer) c = (c.0, may_roomy old ready who request c.1, (c.2.0, c.2.1, grows_roomy old new ready _ c.2.2))
commits_roomy old new ready who ticks request Later c = (c.0, may_roomy old ready who request c.1, (c.2.0, grows_roomy old new ready _ c.2.1))
commits_roomy old new ready who ticks request Over c = (c.0, keeps_roomy old new ready c.1)
commits_roomy old new ready who ticks request Stranger c = (c.0, λ m. c.1 (may_back old ready who request m), keeps_roomy old new ready c.2)

pauses_roomy : (old new : View) (ready : Option Prepared) (who ticks : ℕ) (reply : Reply) → Pauses (roomy old ready) new who ticks reply → Pauses old new who ticks reply
pauses_roomy old new ready who ticks (Now answer) c = (c.0, goes_roomy old ready who c.1, c.2, grows_roomy old new ready _ c.3)
pauses_roomy old new ready who ticks Later c = c
pauses_roomy old new ready who ticks Over c = (c.0, keeps_roomy old new ready c.1)
pauses_roomy old new ready who ticks Stranger c = (c.0, λ m. c.1 (goes_back old ready who m), keeps_roomy old new ready c.2)

pub commits_from : (old mid new : View) (who ticks : ℕ) (request : Request) (reply : Reply) → Keeps old mid → Commits mid new who ticks request reply → Commits old new who ticks request reply
commits_from old mid new who ticks request reply k c = commits_roomy old new mid.ready who ticks request reply (subst (λ (v : View). Commits v new who ticks request reply) (but_room old mid k) c)

pub pauses_from : (old mid new : View) (who ticks : ℕ) (reply : Reply) → Keeps old mid → Pauses mid new who ticks reply → Pauses old new who ticks reply
pauses_from old mid new who ticks reply k c = pauses_roomy old new mid.ready who ticks reply (subst (λ (v : View). Pauses v new who ticks reply) (but_room old mid k) c)

-- a machine whose request was committed has advanced, and stands
pub request_served : (code : Code) (old new : View) (r : Runner) (asking after : Process) (ticks : ℕ) (request : Request) (reply : Reply)
    → Stands code old r → r.instance < length old.unfetched → IsUp (state_of r.machine).mode
    → Bursts code 256 (state_of r.machine) (state_of asking) (Asks ticks request) → RunsOn code asking
    → Commits old new r.instance ticks request reply → TakesReply asking after reply
    → IsSound new.facts → IsRun new.facts new.events
    → Advances code old new r.instance × Stands code new (record { instance = r.instance; machine = after })
request_served code old new r asking after ticks request (Now answer) h low up bursts runs c takes sound run =
    let g : Grows old new (Did r.instance ticks request answer c.2.0) = c.2.2 in (
      record { event = Did r.instance ticks request answer c.2.0; by = refl; reached = did_reached code old r (state_of asking) ticks request answer c.2.0 h c.1.goes.fetched bursts.1; is_open = c.0; grows = g; sound = sound; run = run },
      served_now code old new r asking after ticks request answer c.2.0 h c.1.goes.fetched up bursts.1 bursts.2 g sound run (takes.0 code) (takes.1 code runs) takes.2,
    )
request_served code old new r asking after ticks request Later h low up bursts runs c takes sound run =
    let g : Grows old new (Waits r.instance ticks request) = c.2.1 in (
      record { event = Waits r.instance ticks request; by = refl; reached = waits_reached code old r (state_of asking) ticks request h c.1.goes.fetched bursts.1; is_open = c.0; grows = g; sound = sound; run = run },
      subst (λ (m : Process). Stands code new (record { instance = r.instance; machine = m })) (sym takes)
          (served_later code old new r asking ticks request h c.1.goes.fetched low up bursts.1 bursts.2 g sound run runs),
    )
request_served code old new r asking after ticks request Over h low up bursts runs c takes sound run = absurd takes
request_served code old new r asking after ticks request Stranger h low up bursts runs c takes sound run = absurd takes

-- a machine whose burst made all its ticks has advanced, and stands
pub pause_served : (code : Code) (old new : View) (r : Runner) (after : Process) (ticks : ℕ) (reply : Reply)
    → Stands code old r → r.instance < length old.unfetched → IsUp (state_of r.machine).mode
    → Bursts code 256 (state_of r.machine) (state_of after) (Paused ticks) → RunsOn code after
    → Pauses old new r.instance ticks reply → IsAnswered reply
    → IsSound new.facts → IsRun new.facts new.events
    → Advances code old new r.instance × Stands code new (record { instance = r.instance; machine = after })
pause_served code old new r after ticks (Now answer) h low up bursts runs c answered sound run =
    let g : Grows old new (Runs r.instance ticks) = c.3 in
    let leads : Leads code (state_of r.machine) [] (ticks_of ticks) (state_of after) = subst (λ (n : ℕ). Leads code (state_of r.machine) [] (ticks_of n) (state_of after)) (sym bursts.0) bursts.1 in (
      record { event = Runs r.instance ticks; by = refl; reached = runs_reached code old r (state_of after) ticks h c.1.fetched leads; is_open = c.0; grows = g; sound = sound; run = run },
      served_paused code old new r after ticks h c.1.fetched low up leads bursts.2 g sound run runs,
    )
pause_served code old new r after ticks Later h low up bursts runs c answered sound run = absurd answered
pause_served code old new r after ticks Over h low up bursts runs c answered sound run = absurd answered
pause_served code old new r after ticks Stranger h low up bursts runs c answered sound run = absurd answered

fresh_roomy : (old : View) (ready : Option Prepared) (i : ℕ) → IsFresh old i → IsFresh (roomy old ready) i
fresh_roomy old ready i h = record { line = h.line; requests = h.requests; unfetched = h.unfetched }

stands_roomy : (code : Code) (old : View) (ready : Option Prepared) (r : Runner) → Stands code old r → Stands code (roomy old ready) r
stands_roomy code old ready r h = record { runs = h.runs; come = h.come }

all_roomy : (code : Code) (old : View) (ready : Option Prepared) (runners : List Runner) → AllStand code old runners → AllStand code (roomy old ready) runners
all_roomy code old ready runners h = record {
  sound = h.sound;
  run = h.run;
  count = h.count;
  instances = h.instances;
  stand = λ k r at. stands_roomy code old ready r (h.stand k r at);
  fresh = λ i high. fresh_roomy old ready i (h.fresh i high);
  places = h.places;
  there = h.there;
  first = h.first;
  was_open = h.was_open;
  follow = h.follow;
}

-- all stand as before where nothing changed but the room
pub all_kept : (code : Code) (old new : View) (runners : List Runner) → Keeps old new → AllStand code old runners → AllStand code new runners
all_kept code old new runners k h = subst (λ (v : View). AllStand code v runners) (sym (but_room old new k)) (all_roomy code old new.ready runners h)
