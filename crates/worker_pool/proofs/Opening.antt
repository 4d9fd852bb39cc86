-- The run wasn't over before any event but a going on, behind a commit.
use Rattle.std.proofs.Common.{◌≡◌, ℕ, List, [], sym, subst, Option, Some, None, Ok, Err}
use Rattle.std.specs.Prelude.{IfOk, OnErr}
use Rattle.std.specs.declared.result.Result.{Result}
use Rattle.chill_base.specs.declared.memory.Memory.{Memory}
use Rattle.kernel_base.specs.declared.facts.Facts.{Facts}
use Rattle.kernel_base.specs.declared.request.Request.{Request}
use Rattle.kernel_base.specs.declared.answer.Answer.{Answer}
use Rattle.kernel_base.specs.declared.event.Event.{Event}
use Rattle.kernel_base.specs.declared.event.Event.TheVariants.{Did, Waits, Runs}
use Rattle.world_model.specs.Over.{over_of}
use Rattle.kernel_steps.specs.View.{View, Keeps, Grows, Commits, Pauses, Fetches, Takes}
use Rattle.kernel_steps.specs.declared.reply.New.{New}
use Rattle.kernel_steps.specs.declared.reply.Reply.{Reply}
use Rattle.kernel_steps.specs.declared.reply.Reply.TheVariants.{Now, Later, Over, Stranger}
use Rattle.serial_run.specs.Coming.{WasOpen}
use Rattle.serial_run.proofs.Open.{open_more, open_none}
use Rattle.worker_pool.specs.Notes.{KeepsOpen}

pub open_kept : (old new : View) → Keeps old new → KeepsOpen old new
open_kept old new k was = subst (λ (x : Facts). WasOpen x new.events) (sym k.facts) (subst (λ (xs : List Event). WasOpen old.facts xs) (sym k.events) was)

open_grown : (old new : View) (event : Event) → over_of old.facts old.events ≡ None → Grows old new event → KeepsOpen old new
open_grown old new event is_open g was =
    subst (λ (x : Facts). WasOpen x new.events) (sym g.facts)
    (subst (λ (xs : List Event). WasOpen old.facts xs) (sym g.events) (open_more old.facts old.events event g.goes was is_open g.only))

open_committed : (old new : View) (who ticks : ℕ) (request : Request) (reply : Reply) → Commits old new who ticks request reply → KeepsOpen old new
open_committed old new who ticks request (Now answer) c = open_grown old new (Did who ticks request answer c.2.0) c.0 c.2.2
open_committed old new who ticks request Later c = open_grown old new (Waits who ticks request) c.0 c.2.1
open_committed old new who ticks request Over c = open_kept old new c.1
open_committed old new who ticks request Stranger c = open_kept old new c.2

open_paused : (old new : View) (who ticks : ℕ) (reply : Reply) → Pauses old new who ticks reply → KeepsOpen old new
open_paused old new who ticks (Now answer) c = open_grown old new (Runs who ticks) c.0 c.3
open_paused old new who ticks Later c = absurd c
open_paused old new who ticks Over c = open_kept old new c.1
open_paused old new who ticks Stranger c = open_kept old new c.2

pub open_commit : (old new : View) (who ticks : ℕ) (request : Request) (result : Result Reply Memory) → IfOk result (Commits old new who ticks request) → OnErr result (Keeps old new) → KeepsOpen old new
open_commit old new who ticks request (Ok reply) c k = open_committed old new who ticks request reply c
open_commit old new who ticks request (Err memory) c k = open_kept old new k

pub open_pause : (old new : View) (who ticks : ℕ) (result : Result Reply Memory) → IfOk result (Pauses old new who ticks) → OnErr result (Keeps old new) → KeepsOpen old new
open_pause old new who ticks (Ok reply) c k = open_paused old new who ticks reply c
open_pause old new who ticks (Err memory) c k = open_kept old new k

-- before the first event
pub open_first : (v : View) → v.events ≡ [] → WasOpen v.facts v.events
open_first v none = subst (λ (xs : List Event). WasOpen v.facts xs) (sym none) (open_none v.facts)

pub open_fetched : (old new : View) (who : ℕ) (answer : Option Answer) → Fetches old new who answer → KeepsOpen old new
open_fetched old new who answer f was = subst (λ (x : Facts). WasOpen x new.events) (sym f.facts) (subst (λ (xs : List Event). WasOpen old.facts xs) (sym f.events) was)

pub open_taken : (old new : View) (taken : Option New) → Takes old new taken → KeepsOpen old new
open_taken old new None t = open_kept old new t.1
open_taken old new (Some taken) t = λ was. subst (λ (x : Facts). WasOpen x new.events) (sym t.facts) (subst (λ (xs : List Event). WasOpen old.facts xs) (sym t.events) was)
