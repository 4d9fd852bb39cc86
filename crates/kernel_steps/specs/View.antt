-- What a contract sees of a kernel, and what its calls answer.
use Rattle.std.specs.Prelude.{◌≡◌, ℕ, ◌+◌, ◌≤◌, List, [], ◌∷◌, ◌++◌, length, slice_get, slice_set, slice_index_or, Some, None, IsSome, Bool, true, false}
use Rattle.std.specs.List.{AllByRecursion, count_by}
use Rattle.std.specs.Option.{option_map}
use Rattle.std.specs.declared.option.Option.{Option}
use Rattle.kernel_base.specs.declared.facts.Facts.{Facts}
use Rattle.kernel_base.specs.declared.request.Request.{Request}
use Rattle.kernel_base.specs.declared.answer.Answer.{Answer}
use Rattle.kernel_base.specs.declared.answer.Answer.TheVariants.{Done, Instance}
use Rattle.kernel_base.specs.declared.event.Event.{Event}
use Rattle.kernel_base.specs.declared.event.Event.TheVariants.{Did, Waits, Goes, Runs}
use Rattle.kernel_base.specs.Facts.{FitsRequest}
use Rattle.world_model.specs.declared.world.Phase.{Phase}
use Rattle.world_model.specs.declared.world.Phase.TheVariants.{Active}
use Rattle.world_model.specs.declared.world.World.{World}
use Rattle.world_model.specs.World.{world_of}
use Rattle.world_model.specs.Waiting.{IsActive}
use Rattle.world_model.specs.Allowed.{Answers, MustWait}
use Rattle.world_model.specs.Over.{over_of}
use Rattle.kernel_steps.specs.declared.state.Ready.{Ready}
use Rattle.kernel_steps.specs.declared.state.State.{State}
use Rattle.kernel_steps.specs.declared.reply.New.{New}
use Rattle.kernel_steps.specs.declared.reply.Reply.{Reply}
use Rattle.kernel_steps.specs.declared.reply.Reply.TheVariants.{Now, Later, Over, Stranger}
use Rattle.kernel_steps.specs.Seated.{IsIdle}

-- whom the room is for, and for which request
pub record Prepared : Type 0 where
  pub who : ℕ
  pub request : Request

-- the facts; the journal; by instance the answers that wait to be fetched; the last instance that was taken; and for what
-- there is room
pub record View : Type 0 where
  pub facts : Facts
  pub events : List Event
  pub unfetched : List (Option Answer)
  pub taken : ℕ
  pub ready : Option Prepared

abbrev pub prepared : Ready → Prepared
prepared r = record { who = r.who; request = r.request }

abbrev pub view_of : State → View
view_of s = record {
  facts = s.facts;
  events = s.journal.events;
  unfetched = s.seats.unfetched.items;
  taken = s.taken;
  ready = option_map prepared s.ready;
}

-- the world that the journal leaves
abbrev pub world_seen : View → World
world_seen v = world_of v.facts v.events

-- the answer of the last Goes of `who`, until it is fetched
abbrev pub unfetched_of : List (Option Answer) → ℕ → Option Answer
unfetched_of answers who = slice_index_or answers who None

-- the answers that wait to be fetched after an event, and after several
abbrev pub handed_by : List (Option Answer) → Event → List (Option Answer)
handed_by answers (Goes who answer) = slice_set answers who (Some answer)
handed_by answers (Did who ticks request (Instance i) refill) = answers ++ None ∷ []
handed_by answers event = answers

abbrev pub handed : List (Option Answer) → List Event → List (Option Answer)
handed answers [] = answers
handed answers (event ∷ events) = handed (handed_by answers event) events

-- a going on
abbrev pub IsGoing : Event → Type 0
IsGoing (Goes who answer) = Unit {0}
IsGoing event = ⊥

-- nothing changes that a contract sees, but for the room
pub record Keeps (old new : View) : Type 0 where
  pub facts : new.facts ≡ old.facts
  pub events : new.events ≡ old.events
  pub unfetched : new.unfetched ≡ old.unfetched
  pub taken : new.taken ≡ old.taken

-- The journal grows by this event and by each going on that it makes possible: nobody is left who was chosen and may go
-- on. The answers of those that went on wait to be fetched.
pub record Grows (old new : View) (event : Event) : Type 0 where
  pub goes : List Event
  pub only : AllByRecursion IsGoing goes
  pub events : new.events ≡ old.events ++ event ∷ goes
  pub idle : IsIdle (world_seen new)
  pub unfetched : new.unfetched ≡ handed old.unfetched (event ∷ goes)
  pub facts : new.facts ≡ old.facts
  pub taken : new.taken ≡ old.taken

-- `who` is active, and its last answer was fetched
pub record MayGoOn (v : View) (who : ℕ) : Type 0 where
  pub active : IsActive (world_seen v) who
  pub fetched : unfetched_of v.unfetched who ≡ None

-- and its request fits
pub record MayCommit (v : View) (who : ℕ) (request : Request) : Type 0 where
  pub goes : MayGoOn v who
  pub fits : FitsRequest v.facts request

-- it is answered at once by one of the answers that it may have, or it waits where it must
abbrev pub Served : View → View → ℕ → ℕ → Request → Reply → Type 0
Served old new who ticks request (Now answer) = (refill : Option ℕ) × Answers old.facts (world_seen old) who request answer refill × Grows old new (Did who ticks request answer refill)
Served old new who ticks request Later = MustWait old.facts (world_seen old) who request × Grows old new (Waits who ticks request)
Served old new who ticks request reply = ⊥

-- what a commit comes to
abbrev pub Commits : View → View → ℕ → ℕ → Request → Reply → Type 0
Commits old new who ticks request Over = IsSome (over_of old.facts old.events) × Keeps old new
Commits old new who ticks request Stranger = (over_of old.facts old.events ≡ None) × (MayCommit old who request → ⊥) × Keeps old new
Commits old new who ticks request reply = (over_of old.facts old.events ≡ None) × MayCommit old who request × Served old new who ticks request reply

-- what a pause comes to
abbrev pub Pauses : View → View → ℕ → ℕ → Reply → Type 0
Pauses old new who ticks Over = IsSome (over_of old.facts old.events) × Keeps old new
Pauses old new who ticks Stranger = (over_of old.facts old.events ≡ None) × (MayGoOn old who → ⊥) × Keeps old new
Pauses old new who ticks (Now answer) = (over_of old.facts old.events ≡ None) × MayGoOn old who × (answer ≡ Done) × Grows old new (Runs who ticks)
Pauses old new who ticks Later = ⊥

-- the answer that is fetched
pub record Fetches (old new : View) (who : ℕ) (answer : Option Answer) : Type 0 where
  pub answer_is : answer ≡ unfetched_of old.unfetched who
  pub unfetched : new.unfetched ≡ slice_set old.unfetched who None
  pub facts : new.facts ≡ old.facts
  pub events : new.events ≡ old.events
  pub taken : new.taken ≡ old.taken

-- the next instance is taken
pub record TakesNext (old new : View) (taken : New) : Type 0 where
  pub instance : taken.instance ≡ old.taken + 1
  pub process : slice_get (world_seen old).processes taken.instance ≡ Some taken.process
  pub scalars : slice_get (world_seen old).arguments taken.instance ≡ Some taken.scalars
  pub taken_is : new.taken ≡ old.taken + 1
  pub facts : new.facts ≡ old.facts
  pub events : new.events ≡ old.events
  pub unfetched : new.unfetched ≡ old.unfetched

abbrev pub Takes : View → View → Option New → Type 0
Takes old new None = (length (world_seen old).processes ≤ old.taken + 1) × Keeps old new
Takes old new (Some taken) = TakesNext old new taken

-- a kernel with no event
pub record Opens (facts : Facts) (v : View) : Type 0 where
  pub facts_are : v.facts ≡ facts
  pub events : v.events ≡ []
  pub unfetched : v.unfetched ≡ None ∷ None ∷ []
  pub taken : v.taken ≡ 0

-- ready for this commit
abbrev pub IsReadyFor : View → ℕ → Request → Type 0
IsReadyFor v who request = v.ready ≡ Some (record { who = who; request = request })

-- ready for a commit or a pause of `who`
abbrev pub IsReadyOf : View → ℕ → Type 0
IsReadyOf v who = (request : Request) × IsReadyFor v who request

-- how many are active in a world
abbrev pub is_active_in : Phase → Bool
is_active_in Active = true
is_active_in phase = false

abbrev pub count_of_actives : World → ℕ
count_of_actives w = count_by is_active_in w.phases
