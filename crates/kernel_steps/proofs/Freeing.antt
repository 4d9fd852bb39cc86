-- END: behind its event all regions of the one that ended are free; the seats free them one by one.
use Rattle.std.proofs.Common.{◌≡◌, ◌≢◌, ℕ, zero, suc, ◌+◌, ◌≤◌, ◌<◌, true, false, List, [], ◌∷◌, ◌++◌, length, map, length-set, append-nil, append_assoc, refl, sym, ap, ◌∙◌, inl, inr, arith, subst, Option, Some, None, slice_get, slice_set, eq-eqb}
use Rattle.std.specs.Prelude.{slice_index_or, option_map, ◌==◌, IfSome}
use Rattle.std.specs.List.{AllByRecursion}
use Rattle.std.specs.Option.{option_eq}
use lib.Dec.{eqb}
use Rattle.std.proofs.lemmas.Bool.{cases_Bool, eqb-true, cases_eq}
use Rattle.std.proofs.lemmas.Option.{slice_get-map}
use Rattle.kernel_base.specs.declared.ends.How.{How}
use Rattle.kernel_base.specs.declared.answer.Answer.{Answer}
use Rattle.kernel_base.specs.declared.answer.Answer.TheVariants.{Done}
use Rattle.kernel_base.specs.declared.request.Request.TheVariants.{End}
use Rattle.kernel_base.specs.declared.event.Event.{Event}
use Rattle.kernel_base.specs.declared.event.Event.TheVariants.{Did, Goes}
use Rattle.world_model.specs.declared.world.Phase.{Phase}
use Rattle.world_model.specs.declared.world.Phase.TheVariants.{Active, Chosen, Ended}
use Rattle.world_model.specs.declared.world.World.{World}
use Rattle.world_model.specs.Waiting.{phase_of}
use Rattle.world_model.specs.World.{held_by, with_phase, freed, ended, other_occupant, locked_back, back_in}
use Rattle.world_model.specs.Allowed.{Occupies, MayGo, MayLockBack}
use Rattle.world_model.proofs.ChangedLists.{written_elsewhere, read_elsewhere}
use Rattle.world_model.specs.Waiting.{IsActive}
use Rattle.world_model.specs.World.{world_of}
use Rattle.world_model.specs.Ranges.{IsNumber, IsInRange}
use Rattle.world_model.proofs.ChangedLists.{written_here, read_is, stands_there}
use Rattle.world_model.proofs.HeldIsOccupied.{HoldsOccupied, StandsIn, journal_holds, freed_holds, step_holds}
use Rattle.instance_table.specs.declared.phase.Phase.TheVariants as kinds
use Rattle.journal_book.specs.Book.{Book}
use Rattle.region_kernel.specs.Regions.{SeenRegions}
use Rattle.kernel_steps.specs.declared.seats.Going.{Going}
use Rattle.kernel_steps.specs.declared.seats.Seats.{Seats}
use Rattle.kernel_steps.specs.declared.state.Ready.{Ready}
use Rattle.kernel_steps.specs.declared.state.State.{State}
use Rattle.kernel_steps.specs.Seated.{AreQueuedBy, gone_on, Seated, Settles}
use Rattle.kernel_steps.specs.Kept.{world_in, Rests, IsBook, IsKept}
use Rattle.kernel_steps.specs.View.{IsGoing, handed, handed_by}
use Rattle.kernel_steps.specs.Serving.{CanServe, Serves, goes_of}
use Rattle.kernel_steps.proofs.Queueing.{queues_stay}
use Rattle.kernel_steps.proofs.Placed.{Rewrites, map_set, set_set, set_cases, within, some_instance, placed_phase}
use Rattle.kernel_base.specs.Facts.{IsSound}
use Rattle.kernel_steps.specs.declared.reply.Reply.TheVariants.{Now}
use Rattle.kernel_steps.proofs.Counts.{regions_stay}
use Rattle.kernel_steps.proofs.Quiet.{gone_phases}
use Rattle.kernel_steps.proofs.Idle.{idle_fewer, chosen_before}
use Rattle.kernel_steps.proofs.Keeping.{MayCome, book_push, world_push, rests_go}
use Rattle.kernel_steps.proofs.Served.{rests_set, seated_same}

set_apart : {X : Type 0} (xs : List X) (i j : ℕ) (a b : X) → i ≢ j → slice_set (slice_set xs i a) j b ≡ slice_set (slice_set xs j b) i a
set_apart [] i j a b apart = refl
set_apart (x ∷ xs) zero zero a b apart = absurd (apart refl)
set_apart (x ∷ xs) zero (suc j) a b apart = refl
set_apart (x ∷ xs) (suc i) zero a b apart = refl
set_apart (x ∷ xs) (suc i) (suc j) a b apart = ap (λ l. x ∷ l) (set_apart xs i j a b (λ e. apart (ap suc e)))

pub set_back : {X : Type 0} (xs : List X) (i : ℕ) (x : X) → slice_get xs i ≡ Some x → slice_set xs i x ≡ xs
set_back [] i x at = refl
set_back (y ∷ xs) zero x at = let e : y ≡ x = cc in ap (λ z. z ∷ xs) (sym e)
set_back (y ∷ xs) (suc i) x at = ap (λ l. y ∷ l) (set_back xs i x at)

pub set_read : {X : Type 0} (xs : List X) (i : ℕ) (d : X) → slice_index_or xs i d ≡ d → slice_set xs i d ≡ xs
set_read [] i d is = refl
set_read (y ∷ xs) zero d is = ap (λ z. z ∷ xs) (sym is)
set_read (y ∷ xs) (suc i) d is = ap (λ l. y ∷ l) (set_read xs i d is)

own_gone : (who : ℕ) → other_occupant who (Some who) ≡ None
own_gone who = let t : (who == who) ≡ true = eq-eqb who who refl in rw t refl

still_other : (who p : ℕ) → p ≢ who → other_occupant who (Some p) ≡ Some p
still_other who p apart = elim (cases_Bool (p == who)) [
  | inl same ↦ absurd (apart (eqb-true p who same))
  | inr differ ↦ rw differ refl
]

away_here : (who : ℕ) (o : Option ℕ) → (o ≡ Some who → ⊥) → other_occupant who o ≡ o
away_here who None apart = refl
away_here who (Some p) apart = still_other who p (λ e. apart (ap Some e))

pub map_away : (who : ℕ) (os : List (Option ℕ)) → ((r : ℕ) → slice_get os r ≡ Some (Some who) → ⊥) → map (other_occupant who) os ≡ os
map_away who [] apart = refl
map_away who (o ∷ os) apart =
    let here = away_here who o (λ e. apart 0 (ap Some e)) in
    let behind = map_away who os (λ r at. apart (suc r) at) in
    ap (λ x. x ∷ map (other_occupant who) os) here ∙ ap (λ l. o ∷ l) behind

-- a region of the one that ended is freed: all its regions are free in the same world
pub ended_freed : (v : World) (who r : ℕ) (how : How) → Occupies v who r → ended (freed v who r) who how ≡ ended v who how
ended_freed v who r how owns =
    let f = other_occupant who in
    let at : slice_get (map f v.occupants) r ≡ Some None = slice_get-map f v.occupants r ∙ ap (option_map f) owns ∙ ap Some (own_gone who) in
    let os : map f (slice_set v.occupants r None) ≡ map f v.occupants = map_set f v.occupants r None ∙ set_back (map f v.occupants) r None at in
    let hs : slice_set (freed v who r).held who [] ≡ slice_set v.held who [] = set_set v.held who _ [] in
    λ i. record v { phases = slice_set v.phases who (Ended how); occupants = os i; held = hs i }

back_apart : (v : World) (who p : ℕ) (how : How) (back : Option ℕ) → p ≢ who → ended (with_phase (locked_back v p back) p Active) who how ≡ with_phase (locked_back (ended v who how) p back) p Active
back_apart v who p how None apart =
    let ph = set_apart v.phases p who Active (Ended how) apart in
    λ i. record v { phases = ph i; occupants = map (other_occupant who) v.occupants; held = slice_set v.held who [] }
back_apart v who p how (Some r) apart =
    let f = other_occupant who in
    let ph = set_apart v.phases p who Active (Ended how) apart in
    let os : map f (slice_set v.occupants r (Some p)) ≡ slice_set (map f v.occupants) r (Some p) = map_set f v.occupants r (Some p) ∙ ap (λ (o : Option ℕ). slice_set (map f v.occupants) r o) (still_other who p apart) in
    let hs : slice_set (slice_set v.held p (held_by v p ++ r ∷ [])) who [] ≡ slice_set (slice_set v.held who []) p (held_by (ended v who how) p ++ r ∷ []) =
    set_apart v.held p who (held_by v p ++ r ∷ []) [] apart ∙ ap (λ (h : List ℕ). slice_set (slice_set v.held who []) p (h ++ r ∷ [])) (sym (read_elsewhere v.held who p [] [] apart)) in
    λ i. record v { phases = ph i; occupants = os i; held = hs i }

-- another goes on before or behind the end
pub ended_gone : (v : World) (who p : ℕ) (how : How) → p ≢ who → ended (gone_on v p) who how ≡ gone_on (ended v who how) p
ended_gone v who p how apart =
    let same : phase_of (ended v who how) p ≡ phase_of v p = written_elsewhere v.phases who p (Ended how) apart in
    back_apart v who p how (back_in (phase_of v p)) apart ∙ ap (λ (phase : Option Phase). with_phase (locked_back (ended v who how) p (back_in phase)) p Active) (sym same)

still_free : (v : World) (who : ℕ) (how : How) (back : Option ℕ) → MayLockBack v back → MayLockBack (ended v who how) back
still_free v who how None may = tt
still_free v who how (Some r) may = slice_get-map (other_occupant who) v.occupants r ∙ ap (option_map (other_occupant who)) may

pub may_go_behind : (v : World) (who p : ℕ) (answer : Answer) (how : How) → p ≢ who → MayGo v p answer → MayGo (ended v who how) p answer
may_go_behind v who p answer how apart may = record { back = may.back; chosen = written_elsewhere v.phases who p (Ended how) apart ∙ may.chosen; free = still_free v who how may.back may.free }

-- the phase of one that ended, with the regions as they are
pub to_ended : (w : World) (s s' : Seats) (who : ℕ) (how : How) → IsActive w who → s'.instances.processes ≡ s.instances.processes → s'.instances.phases ≡ slice_set s.instances.phases who (kinds.Ended how) → s'.regions ≡ s.regions → s'.backs ≡ s.backs → s'.chosen ≡ s.chosen → s'.unfetched ≡ s.unfetched → Seated w s → Seated (with_phase w who (Ended how)) s'
to_ended w s s' who how active p ph rs bs cs us h =
    let k = h.placed in
    let some = some_instance w s who Active k active (λ e. let f : ⊥ = cc in f) in
    let new = Ended how in
    let queues = subst (λ (qs : List (List ℕ)). AreQueuedBy qs (slice_set w.phases who new)) (sym (ap (λ (x : SeenRegions). x.queues) rs)) (queues_stay s.regions.queues w.phases who Active new active refl refl k.queues) in
    let r : Rewrites w s s' who new = record {
      processes = p;
      phases = ph;
      occupants = ap (λ (x : SeenRegions). x.occupants) rs;
      locks = ap (λ (x : SeenRegions). x.locks) rs;
      queues = queues;
      backs = λ q apart. ap (λ l. slice_get l.items q) bs;
      back = λ request send back e. absurd (let f : ⊥ = cc in f);
      there = λ request send region e. absurd (let f : ⊥ = cc in f);
      answers = λ q apart. ap (λ l. slice_get l.items q) cs;
      answer = λ a b e. absurd (let f : ⊥ = cc in f);
      back_each = ap (λ l. length l.items) bs;
      answer_each = ap (λ l. length l.items) cs;
      fetch_each = ap (λ l. length l.items) us;
    } in
    record { placed = placed_phase w s s' who new some r k; idle = idle_fewer w (with_phase w who new) (λ region free. free) (λ q a b chosen. chosen_before w.phases who new q a b (λ e. let f : ⊥ = cc in f) chosen) h.idle }

-- The regions below n were freed. The seats stand for a world in which the others are not free yet, and the journal leaves
-- the one in which they are.
pub record FreesUpTo (old s : State) (who ticks : ℕ) (how : How) (n : ℕ) : Type 0 where
  pub v : World
  pub seated : Seated v s.seats
  pub at : phase_of v who ≡ Some (Ended how)
  pub holds : HoldsOccupied v
  pub freed : (r : ℕ) → r < n → Occupies v who r → ⊥
  pub world : world_in s ≡ ended v who how
  pub book : IsBook s.facts s.widest s.journal.events
  pub rests : Rests s.facts (ended v who how) s
  pub goes : List Event
  pub only : AllByRecursion IsGoing goes
  pub events : s.journal.events ≡ old.journal.events ++ Did who ticks (End how) Done None ∷ goes
  pub unfetched : s.seats.unfetched.items ≡ handed old.seats.unfetched.items goes
  pub facts : s.facts ≡ old.facts
  pub ready : s.ready ≡ old.ready
  pub taken : s.taken ≡ old.taken
  pub each : length v.occupants ≡ old.facts.regions
  pub journal_room : old.facts.regions + 1 ≤ s.journal.spare + n
  pub regions_room : old.facts.regions + 2 ≤ s.seats.regions.spare + n

-- none was freed
pub frees_first : (s : State) (t : Seats) (j : Book) (who ticks : ℕ) (how : How) (r : Ready) → CanServe s who (End how) r → IsNumber who → IsNumber ticks → Seated (with_phase (world_in s) who (Ended how)) t → t.unfetched ≡ s.seats.unfetched → t.regions ≡ s.seats.regions
    → j.events ≡ s.journal.events ++ Did who ticks (End how) Done None ∷ [] → s.journal.spare ≤ j.spare + 1 → FreesUpTo s (record s { seats = t; journal = j }) who ticks how 0
frees_first s t j who ticks how r can w_in t_in seated us rs events spare =
    let k = can.kept in
    let w = world_in s in
    let w1 = ended w who how in
    let event = Did who ticks (End how) Done None in
    let v = with_phase w who (Ended how) in
    let same : ended v who how ≡ w1 = λ i. record w1 { phases = set_set w.phases who (Ended how) (Ended how) i } in
    let may : MayCome s.facts s.widest w event = record {
      allowed = record { in_range = (w_in, t_in, can.in_range, tt, tt); possible = (record { active = can.may.goes.active; fits = can.may.fits }, (refl, refl)) };
      width = omega arith;
      burst = tt;
      phases = let l = length-set w.phases who (Ended how) in omega (arith, l);
    } in
    let active = can.may.goes.active in
    let held = journal_holds s.facts s.journal.events k.book.run in
    let room = can.room.regions in
    let journal = can.room.journal in
    let rspare : t.regions.spare ≡ s.seats.regions.spare = ap (λ (x : SeenRegions). x.spare) rs in
    record {
      v = v;
      seated = seated;
      at = written_here w.phases who (Ended how) Active active;
      holds = record { occupied = held.occupied };
      freed = λ n low owns. omega (arith, low);
      world = ap (world_of s.facts) events ∙ world_push s.facts s.journal.events event ∙ sym same;
      book = subst (λ (es : List Event). IsBook s.facts s.widest es) (sym events) (book_push s.facts s.widest s.journal.events event k.book may);
      rests = subst (λ (x : World). Rests s.facts x (record s { seats = t; journal = j })) (sym same)
          (rests_set s.facts w w1 s (record s { seats = t; journal = j }) who Active (Ended how) active refl refl refl (λ e. refl) (λ e. refl) refl refl refl refl refl refl
          (record { processes = refl; stored = refl; pending = refl; sends = refl; arguments = refl; queues = refl; store = k.rests.store; locations = refl; input = k.rests.input; read = k.rests.read; taken = refl; argued = refl }) k.rests);
      goes = [];
      only = tt;
      events = events;
      unfetched = ap (λ l. l.items) us;
      facts = refl;
      ready = refl;
      taken = refl;
      each = k.book.regions;
      journal_room = omega (arith, journal, spare);
      regions_room = omega (arith, room, rspare);
    }

handed_push : (answers : List (Option Answer)) (goes : List Event) (event : Event) → handed answers (goes ++ event ∷ []) ≡ handed_by (handed answers goes) event
handed_push answers [] event = refl
handed_push answers (e ∷ goes) event = handed_push (handed_by answers e) goes event

only_push : (goes : List Event) (event : Event) → AllByRecursion IsGoing goes → IsGoing event → AllByRecursion IsGoing (goes ++ event ∷ [])
only_push [] event only is = (is, tt)
only_push (e ∷ goes) event only is = (only.0, only_push goes event only.1 is)

rests_moved : (w : World) (s : State) (t : Seats) (j : Book) → Rests s.facts w s → Rests s.facts w (record s { seats = t; journal = j })
rests_moved w s t j r = record { sleeps = r.sleeps; trades = r.trades; hears = r.hears; sends = r.sends; last = r.last; store = r.store; locations = r.locations; input = r.input; read = r.read; argues = r.argues }

-- one that goes on takes no region for another
back_occupies : (w : World) (p who r : ℕ) (back : Option ℕ) → p ≢ who → Occupies (locked_back w p back) who r → Occupies w who r
back_occupies w p who r None apart owns = owns
back_occupies w p who r (Some at) apart owns = elim (set_cases w.occupants at r (Some p) (Some who) owns) [
  | inl here ↦ absurd (apart (let e : Some who ≡ Some p = here.1 in let f : p ≡ who = cc in f))
  | inr there ↦ there.1
]

freed_more : (v : World) (who n r : ℕ) → ((r : ℕ) → r < n → Occupies v who r → ⊥) → r < n + 1 → Occupies (freed v who n) who r → ⊥
freed_more v who n r before low owns = elim (set_cases v.occupants n r None (Some who) owns) [
  | inl here ↦ (let e : Some who ≡ None = here.1 in let f : ⊥ = cc in f)
  | inr there ↦ (let apart = there.0 in before r (omega (arith, low, apart)) there.1)
]

not_here : (v : World) (who n r : ℕ) → ((r : ℕ) → r < n → Occupies v who r → ⊥) → (Occupies v who n → ⊥) → r < n + 1 → Occupies v who r → ⊥
not_here v who n r before other low owns = elim (cases_eq r n) [
  | inl same ↦ other (subst (λ (k : ℕ). Occupies v who k) same owns)
  | inr apart ↦ before r (omega (arith, low, apart)) owns
]

-- another occupies the next region, or nobody does
pub frees_other : (old s : State) (who ticks : ℕ) (how : How) (n : ℕ) (h : FreesUpTo old s who ticks how n) → (Occupies h.v who n → ⊥) → FreesUpTo old s who ticks how (n + 1)
frees_other old s who ticks how n h other = record {
  v = h.v;
  seated = h.seated;
  at = h.at;
  holds = h.holds;
  freed = λ r low owns. not_here h.v who n r h.freed other low owns;
  world = h.world;
  book = h.book;
  rests = h.rests;
  goes = h.goes;
  only = h.only;
  events = h.events;
  unfetched = h.unfetched;
  facts = h.facts;
  ready = h.ready;
  taken = h.taken;
  each = h.each;
  journal_room = omega (arith, h.journal_room);
  regions_room = omega (arith, h.regions_room);
}

-- the next region is freed
pub frees_own : (old s : State) (t : Seats) (j : Book) (who ticks : ℕ) (how : How) (n : ℕ) (going : Option Going) (h : FreesUpTo old s who ticks how n) → Occupies h.v who n → Settles (freed h.v who n) s.seats t going → j.events ≡ s.journal.events ++ goes_of going → IfSome going (λ g. IsInRange (Goes g.who g.answer))
    → s.journal.spare ≤ j.spare + 1 → s.seats.regions.spare ≤ t.regions.spare + 1 → FreesUpTo old (record s { seats = t; journal = j }) who ticks how (n + 1)
frees_own old s t j who ticks how n None h owns settles events range jspare rspare =
    let v1 = freed h.v who n in
    let same : ended v1 who how ≡ ended h.v who how = ended_freed h.v who n how owns in
    let more : j.events ≡ s.journal.events = events ∙ append-nil s.journal.events in
    record {
      v = v1;
      seated = settles.seated;
      at = h.at;
      holds = freed_holds h.v who n owns h.holds;
      freed = λ r low mine. freed_more h.v who n r h.freed low mine;
      world = ap (world_of s.facts) more ∙ h.world ∙ sym same;
      book = subst (λ (es : List Event). IsBook s.facts s.widest es) (sym more) h.book;
      rests = subst (λ (x : World). Rests s.facts x (record s { seats = t; journal = j })) (sym same) (rests_moved (ended h.v who how) s t j h.rests);
      goes = h.goes;
      only = h.only;
      events = more ∙ h.events;
      unfetched = settles.answer ∙ h.unfetched;
      facts = h.facts;
      ready = h.ready;
      taken = h.taken;
      each = length-set h.v.occupants n None ∙ h.each;
      journal_room = omega (arith, h.journal_room, jspare);
      regions_room = omega (arith, h.regions_room, rspare);
    }
frees_own old s t j who ticks how n (Some going) h owns settles events range jspare rspare =
    let p = going.who in
    let v1 = freed h.v who n in
    let v2 = gone_on v1 p in
    let x = ended h.v who how in
    let s' : State = record s { seats = t; journal = j } in
    let same : ended v1 who how ≡ x = ended_freed h.v who n how owns in
    let may = settles.may in
    let chosen : phase_of h.v p ≡ Some (Chosen going.answer may.back) = may.chosen in
    let apart : p ≢ who = λ e. (let both : Some (Chosen going.answer may.back) ≡ Some (Ended how) = sym chosen ∙ ap (phase_of h.v) e ∙ h.at in let f : ⊥ = cc in f) in
    let event : Event = Goes p going.answer in
    let behind : MayGo x p going.answer = subst (λ (w : World). MayGo w p going.answer) same (may_go_behind v1 who p going.answer how apart may) in
    let world : ended v2 who how ≡ gone_on x p = ended_gone v1 who p how apart ∙ ap (λ (w : World). gone_on w p) same in
    let come : MayCome s.facts s.widest x event = record {
      allowed = record { in_range = range; possible = behind };
      width = omega arith;
      burst = tt;
      phases = let e = ap length (gone_phases x p) in let l = length-set x.phases p Active in omega (arith, e, l);
    } in
    record {
      v = v2;
      seated = settles.seated;
      at = ap (λ (l : List Phase). slice_get l who) (gone_phases v1 p) ∙ written_elsewhere v1.phases p who Active (λ e. apart (sym e)) ∙ h.at;
      holds = step_holds s.facts v1 event may (freed_holds h.v who n owns h.holds);
      freed = λ r low mine. freed_more h.v who n r h.freed low (back_occupies v1 p who r (back_in (phase_of v1 p)) apart mine);
      world = ap (world_of s.facts) events ∙ world_push s.facts s.journal.events event ∙ ap (λ (w : World). gone_on w p) h.world ∙ sym world;
      book = subst (λ (es : List Event). IsBook s.facts s.widest es) (sym events) (book_push s.facts s.widest s.journal.events event h.book (subst (λ (w : World). MayCome s.facts s.widest w event) (sym h.world) come));
      rests = subst (λ (w : World). Rests s.facts w s') (sym world) (rests_go s.facts x s' going behind.back behind.chosen (rests_moved x s t j h.rests));
      goes = h.goes ++ event ∷ [];
      only = only_push h.goes event h.only tt;
      events = events ∙ ap (λ (l : List Event). l ++ event ∷ []) h.events ∙ append_assoc old.journal.events (Did who ticks (End how) Done None ∷ h.goes) (event ∷ []);
      unfetched = settles.answer ∙ ap (λ (l : List (Option Answer)). slice_set l p (Some going.answer)) h.unfetched ∙ sym (handed_push old.seats.unfetched.items h.goes event);
      facts = h.facts;
      ready = h.ready;
      taken = h.taken;
      each = regions_stay s.facts v1 event ∙ length-set h.v.occupants n None ∙ h.each;
      journal_room = omega (arith, h.journal_room, jspare);
      regions_room = omega (arith, h.regions_room, rspare);
    }

nothing_held : (v : World) (who : ℕ) (regions : List ℕ) → held_by v who ≡ regions → ((r : ℕ) → StandsIn (held_by v who) r → ⊥) → regions ≡ []
nothing_held v who [] is none = refl
nothing_held v who (r ∷ regions) is none = absurd (none r (0, ap (λ (l : List ℕ). slice_get l 0) is))

-- all were freed
pub frees_all : (old s : State) (who ticks : ℕ) (how : How) (n : ℕ) (r : Ready) → FreesUpTo old s who ticks how n → old.facts.regions ≤ n → CanServe old who (End how) r → Serves old s who ticks (End how) (Now Done)
frees_all old s who ticks how n r h all can =
    let v = h.v in
    let x = ended v who how in
    let none : (r : ℕ) → Occupies v who r → ⊥ = λ r owns. h.freed r (let low = within v.occupants r (Some who) owns in let e = h.each in omega (arith, low, e, all)) owns in
    let empty : held_by v who ≡ [] = nothing_held v who (held_by v who) refl (λ r stands. none r (h.holds.occupied who r stands)) in
    let seated : Seated x s.seats = seated_same v x s.seats refl (set_back v.phases who (Ended how) h.at) (map_away who v.occupants none) (set_read v.held who [] empty) h.seated in
    let kept : IsKept s = record {
      sound = subst IsSound (sym h.facts) can.kept.sound;
      book = h.book;
      seated = subst (λ (w : World). Seated w s.seats) (sym h.world) seated;
      rests = subst (λ (w : World). Rests s.facts w s) (sym h.world) h.rests;
    } in
    record {
      kept = kept;
      ready = h.ready;
      served = (None, (refl, refl), record { goes = h.goes; only = h.only; events = h.events; idle = kept.seated.idle; unfetched = h.unfetched; facts = h.facts; taken = h.taken });
    }

pub own_found : (occupants : List (Option ℕ)) (region who : ℕ) (found : Option ℕ) → found ≡ slice_index_or occupants region None → option_eq eqb found (Some who) ≡ true → slice_get occupants region ≡ Some (Some who)
own_found occupants region who None is own = absurd (let f : ⊥ = cc in f)
own_found occupants region who (Some p) is own = stands_there occupants region None (Some p) (sym is) (λ e. let f : ⊥ = cc in f) ∙ ap (λ (n : ℕ). Some (Some n)) (eqb-true p who own)

pub other_found : (occupants : List (Option ℕ)) (region who : ℕ) (found : Option ℕ) → found ≡ slice_index_or occupants region None → option_eq eqb found (Some who) ≡ false → slice_get occupants region ≡ Some (Some who) → ⊥
other_found occupants region who found is other owns =
    let here : found ≡ Some who = is ∙ read_is occupants region None (Some who) owns in
    let yes = eq-eqb who who refl in
    let no : false ≡ true = sym other ∙ ap (λ (o : Option ℕ). option_eq eqb o (Some who)) here ∙ yes in
    let f : ⊥ = cc in f
