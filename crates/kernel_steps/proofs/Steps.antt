-- What each step of the seats does to the world.
use Rattle.std.proofs.Common.{◌≡◌, ◌≢◌, ◌⊎◌, ℕ, ◌+◌, ◌<◌, List, [], ◌∷◌, ◌++◌, ℤ, length, length-set, get_or, refl, sym, ap, ◌∙◌, inl, inr, Option, Some, None, slice_get, slice_set, subst}
use Rattle.std.specs.Prelude.{slice_index_or, true, false, is_some}
use Rattle.kernel_base.specs.declared.request.Request.{Request}
use Rattle.kernel_base.specs.declared.answer.Answer.{Answer}
use Rattle.world_model.specs.declared.world.Phase.{Phase}
use Rattle.world_model.specs.declared.world.Phase.TheVariants.{Active, Waiting, Chosen, Ended}
use Rattle.world_model.specs.declared.world.World.{World}
use Rattle.world_model.specs.Lists.{last_of}
use Rattle.world_model.specs.Waiting.{phase_of, IsActive}
use Rattle.world_model.specs.World as worlds
use Rattle.world_model.specs.World.{with_phase, locked, freed, freed_last, entered, occupant, locked_back, back_in}
use Rattle.world_model.specs.Allowed.{IsFree, Occupies, MayLockBack}
use Rattle.world_model.proofs.ChangedLists.{written_here, written_elsewhere, read_is, pushed_or_old, pushed_keeps, read_pushed, stands_there}
use Rattle.instance_table.specs.declared.phase.Phase.TheVariants as kinds
use Rattle.std.proofs.lemmas.Option.{slice_get-get_or, get_or_from_slice_get}
use Rattle.std.proofs.lemmas.List.{length_push, map-append, length-map}
use Rattle.kernel_base.specs.declared.ends.How.TheVariants.{Normal}
use Rattle.region_kernel.specs.Regions.{Changes, SeenRegions, occupant_of, held_by, occupants_locked, locks_locked, locks_but, with_lock, first_waiting, queue_but, queue_of}
use Rattle.kernel_steps.specs.declared.seats.Going.{Going}
use Rattle.kernel_steps.specs.declared.seats.Seats.{Seats}
use Rattle.kernel_steps.specs.Seated.{AreQueuedBy, kind_of, suspended_in, twice, Placed, IsIdle, Seated, OwnsLast, waiting, started, gone_on, GoesOn, NobodyGoes, Settles}
use Rattle.kernel_steps.proofs.Queueing.{none_taken, queues_begin, queues_more, queues_stay, queues_stop}
use Rattle.kernel_steps.proofs.Placed.{Rewrites, Stays, set_set, within, placed_same, placed_phase, placed_locked, placed_freed, some_instance, set_cases}
use Rattle.kernel_steps.proofs.Idle.{idle_fewer, chosen_before, idle_locked, idle_freed, free_swapped}

-- nothing changed but what is to be fetched
pub placed_stays : (w : World) (s s' : Seats) → Stays s s' → s'.regions.occupants ≡ s.regions.occupants → s'.regions.locks ≡ s.regions.locks → s'.regions.queues ≡ s.regions.queues → Placed w s → Placed w s'
placed_stays w s s' t o l q k = record {
  processes = t.processes ∙ k.processes;
  phases = t.phases ∙ k.phases;
  occupants = o ∙ k.occupants;
  held = λ p. ap (λ ls. held_by ls p) l ∙ k.held p;
  queues = subst (λ (qs : List (List ℕ)). AreQueuedBy qs w.phases) (sym q) k.queues;
  backs = λ p request send back at. ap (λ bs. slice_get bs p) t.backs ∙ k.backs p request send back at;
  there = k.there;
  answers = λ p a back at. ap (λ cs. slice_get cs p) t.chosen ∙ k.answers p a back at;
  zeroth = k.zeroth;
  held_each = k.held_each;
  back_each = ap length t.backs ∙ k.back_each;
  answer_each = ap length t.chosen ∙ k.answer_each;
  fetch_each = t.fetch_each ∙ k.fetch_each;
}

-- an instance whose phase is known is in each list
pub made : (w : World) (s : Seats) (who : ℕ) (phase : Phase) → Placed w s → phase_of w who ≡ Some phase → who < length w.held
made w s who phase k at = rw k.held_each (within w.phases who phase at)

entered_free : (w : World) (s s' : Seats) (who region : ℕ) → IsActive w who → IsFree w region → Stays s s' → s'.unfetched.items ≡ s.unfetched.items
    → s'.regions.occupants ≡ occupants_locked s.regions.occupants region who (occupant_of s.regions region) → s'.regions.locks ≡ locks_locked s.regions.locks region who (occupant_of s.regions region) → s'.regions.queues ≡ s.regions.queues
    → Seated w s → NobodyGoes (entered w who region (occupant w region)) s s'
entered_free w s s' who region active free t u os ls q h =
    let here : occupant w region ≡ None = read_is w.occupants region None None free in
    let there : occupant_of s.regions region ≡ None = ap (λ (l : List (Option ℕ)). slice_index_or l region None) h.placed.occupants ∙ here in
    let o : s'.regions.occupants ≡ slice_set s.regions.occupants region (Some who) = os ∙ ap (occupants_locked s.regions.occupants region who) there in
    let l : s'.regions.locks ≡ s.regions.locks ++ record { region = region; who = who } ∷ [] = ls ∙ ap (locks_locked s.regions.locks region who) there in
    let low = made w s who Active h.placed active in
    subst (λ (found : Option ℕ). NobodyGoes (entered w who region found) s s') (sym here)
    (record { seated = record { placed = placed_locked w s s' who region low t o l q h.placed; idle = idle_locked w who region h.idle }; answer = u })

entered_own : (w : World) (s s' : Seats) (who region : ℕ) → Occupies w who region → Stays s s' → s'.unfetched.items ≡ s.unfetched.items
    → s'.regions.occupants ≡ occupants_locked s.regions.occupants region who (occupant_of s.regions region) → s'.regions.locks ≡ locks_locked s.regions.locks region who (occupant_of s.regions region) → s'.regions.queues ≡ s.regions.queues
    → Seated w s → NobodyGoes (entered w who region (occupant w region)) s s'
entered_own w s s' who region owns t u os ls q h =
    let here : occupant w region ≡ Some who = read_is w.occupants region None (Some who) owns in
    let there : occupant_of s.regions region ≡ Some who = ap (λ (l : List (Option ℕ)). slice_index_or l region None) h.placed.occupants ∙ here in
    let o : s'.regions.occupants ≡ s.regions.occupants = os ∙ ap (occupants_locked s.regions.occupants region who) there in
    let l : s'.regions.locks ≡ s.regions.locks = ls ∙ ap (locks_locked s.regions.locks region who) there in
    subst (λ (found : Option ℕ). NobodyGoes (entered w who region found) s s') (sym here)
    (record { seated = record { placed = placed_stays w s s' t o l q h.placed; idle = h.idle }; answer = u })

pub enters : (w : World) (s s' : Seats) (who region : ℕ) → IsActive w who → IsFree w region ⊎ Occupies w who region → Stays s s' → s'.unfetched.items ≡ s.unfetched.items
    → s'.regions.occupants ≡ occupants_locked s.regions.occupants region who (occupant_of s.regions region) → s'.regions.locks ≡ locks_locked s.regions.locks region who (occupant_of s.regions region) → s'.regions.queues ≡ s.regions.queues
    → Seated w s → NobodyGoes (entered w who region (occupant w region)) s s'
enters w s s' who region active (inl free) t u os ls q h = entered_free w s s' who region active free t u os ls q h
enters w s s' who region active (inr owns) t u os ls q h = entered_own w s s' who region owns t u os ls q h

-- the regions are the same where a phase changes
same_lock : (w : World) (who : ℕ) (phase : Phase) (back : Option ℕ) → MayLockBack (with_phase w who phase) back → MayLockBack w back
same_lock w who phase None may = tt
same_lock w who phase (Some region) may = may

-- one that was chosen for a region that another occupies may not go on
idle_chosen_at : (w : World) (who region other : ℕ) (answer : Answer) (q : ℕ) (a : Answer) (back : Option ℕ) → phase_of (with_phase w who (Chosen answer (Some region))) q ≡ Some (Chosen a back) → MayLockBack (with_phase w who (Chosen answer (Some region))) back → Occupies w other region → IsIdle w → ⊥
idle_chosen_at w who region other answer q a back chosen free occupied idle = elim (set_cases w.phases who q (Chosen answer (Some region)) (Chosen a back) chosen) [
  | inl here ↦ (let e : back ≡ Some region = let h = here.1 in cc in
      let f : IsFree w region = subst (λ (b : Option ℕ). MayLockBack w b) e (same_lock w who (Chosen answer (Some region)) back free) in
      let no : ⊥ = cc in no)
  | inr there ↦ idle q a (record { back = back; chosen = there.1; free = same_lock w who (Chosen answer (Some region)) back free })
]

idle_chosen : (w : World) (who region other : ℕ) (answer : Answer) → Occupies w other region → IsIdle w → IsIdle (with_phase w who (Chosen answer (Some region)))
idle_chosen w who region other answer occupied idle q a may = idle_chosen_at w who region other answer q a may.back may.chosen may.free occupied idle

-- what changes where one is suspended
pub record Suspends (s s' : Seats) (who region : ℕ) (answer : Answer) : Type 0 where
  pub processes : s'.instances.processes ≡ s.instances.processes
  pub phases : s'.instances.phases ≡ slice_set s.instances.phases who kinds.Suspended
  pub occupants : s'.regions.occupants ≡ s.regions.occupants
  pub locks : s'.regions.locks ≡ s.regions.locks
  pub queues : Changes region (queue_of s.regions.queues region ++ who ∷ []) s.regions.queues s'.regions.queues
  pub backs : s'.backs.items ≡ s.backs.items
  pub chosen : s'.chosen.items ≡ slice_set s.chosen.items who (Some (twice answer))
  pub unfetched : s'.unfetched.items ≡ s.unfetched.items

pub suspended : (w : World) (s s' : Seats) (who region other : ℕ) (phase : Phase) (answer : Answer) → phase_of w who ≡ Some phase → suspended_in who phase ≡ None → Occupies w other region → 0 < who → Suspends s s' who region answer → Seated w s → NobodyGoes (with_phase w who (Chosen answer (Some region))) s s'
suspended w s s' who region other phase answer at tells occupied some c h =
    let k = h.placed in
    let low : who < length s.chosen.items = rw k.answer_each (within w.phases who phase at) in
    let was = slice_get-get_or s.chosen.items who None low in
    let queues = queues_begin s.regions.queues s'.regions.queues w.phases who region phase answer c.queues at tells k.queues in
    let r : Rewrites w s s' who (Chosen answer (Some region)) = record {
      processes = c.processes;
      phases = c.phases;
      occupants = c.occupants;
      locks = c.locks;
      queues = queues;
      backs = λ q apart. ap (λ l. slice_get l q) c.backs;
      back = λ request send back e. absurd (let f : ⊥ = cc in f);
      there = λ request send r e. absurd (let f : ⊥ = cc in f);
      answers = λ q apart. ap (λ l. slice_get l q) c.chosen ∙ written_elsewhere s.chosen.items who q (Some (twice answer)) apart;
      answer = λ a back e. ap (λ l. slice_get l who) c.chosen ∙ written_here s.chosen.items who (Some (twice answer)) _ was ∙ (let same : answer ≡ a = cc in ap (λ (x : Answer). Some (Some (twice x))) same);
      back_each = ap length c.backs;
      answer_each = ap length c.chosen ∙ length-set s.chosen.items who (Some (twice answer));
      fetch_each = ap length c.unfetched;
    } in
    record { seated = record { placed = placed_phase w s s' who (Chosen answer (Some region)) some r k; idle = idle_chosen w who region other answer occupied h.idle }; answer = c.unfetched }

-- one that was chosen goes on, in a world in which its region is free
pub goes_on : (w : World) (s s' : Seats) (p : ℕ) (answer : Answer) (back : Option ℕ) (going : Going) → going.who ≡ p → going.answer ≡ answer → phase_of w p ≡ Some (Chosen answer back) → MayLockBack w back
    → Placed (with_phase (locked_back w p back) p Active) s' → IsIdle (with_phase (locked_back w p back) p Active) → s'.unfetched.items ≡ slice_set s.unfetched.items p (Some answer) → GoesOn w s s' going
goes_on w s s' p answer back going who is at free placed idle u =
    let there : Seated (gone_on w p) s' = subst (λ (phase : Option Phase). Seated (with_phase (locked_back w p (back_in phase)) p Active) s') (sym at) (record { placed = placed; idle = idle }) in
    let here : going ≡ record { who = p; answer = answer } = λ i. record { who = who i; answer = is i } in
    subst (λ (g : Going). GoesOn w s s' g) (sym here) (record { may = record { back = back; chosen = at; free = free }; seated = there; answer = u })

-- what changes where one that waited goes on, beside the regions
pub record Starts (s s' : Seats) (who : ℕ) (answer : Answer) : Type 0 where
  pub processes : s'.instances.processes ≡ s.instances.processes
  pub phases : s'.instances.phases ≡ slice_set s.instances.phases who kinds.Active
  pub backs : s'.backs.items ≡ s.backs.items
  pub chosen : (q : ℕ) → q ≢ who → slice_get s'.chosen.items q ≡ slice_get s.chosen.items q
  pub answer_each : length s'.chosen.items ≡ length s.chosen.items
  pub unfetched : s'.unfetched.items ≡ slice_set s.unfetched.items who (Some answer)

-- to active, with the regions and the queues as they are
to_active : (w : World) (s s' : Seats) (who : ℕ) (answer : Answer) → 0 < who → Starts s s' who answer → s'.regions.occupants ≡ s.regions.occupants → s'.regions.locks ≡ s.regions.locks → AreQueuedBy s'.regions.queues (slice_set w.phases who Active) → Placed w s → Placed (with_phase w who Active) s'
to_active w s s' who answer some c o l queues k = placed_phase w s s' who Active some (record {
  processes = c.processes;
  phases = c.phases;
  occupants = o;
  locks = l;
  queues = queues;
  backs = λ q apart. ap (λ bs. slice_get bs q) c.backs;
  back = λ request send back e. absurd (let f : ⊥ = cc in f);
  there = λ request send r e. absurd (let f : ⊥ = cc in f);
  answers = c.chosen;
  answer = λ a back e. absurd (let f : ⊥ = cc in f);
  back_each = ap length c.backs;
  answer_each = c.answer_each;
  fetch_each = ap length c.unfetched ∙ length-set s.unfetched.items who (Some answer);
}) k

-- the phases where one that waited was chosen and goes on
twice_set : (phases : List Phase) (who : ℕ) (a b : Phase) → slice_set (slice_set phases who a) who b ≡ slice_set phases who b
twice_set phases who a b = set_set phases who a b

-- one that waited and has no region to lock again
pub chosen_goes : (w : World) (s s' : Seats) (who : ℕ) (request : Request) (send : Option ℕ) (answer : Answer) (going : Going) → phase_of w who ≡ Some (Waiting request send None) → going.who ≡ who → going.answer ≡ answer
    → Starts s s' who answer → s'.regions ≡ s.regions → Seated w s → GoesOn (with_phase w who (Chosen answer None)) s s' going
chosen_goes w s s' who request send answer going at owner is c r h =
    let k = h.placed in
    let w1 = with_phase w who (Chosen answer None) in
    let some = some_instance w s who (Waiting request send None) k at (λ e. let f : ⊥ = cc in f) in
    let queues = subst (λ (qs : List (List ℕ)). AreQueuedBy qs (slice_set w.phases who Active)) (sym (ap (λ (x : SeenRegions). x.queues) r)) (queues_stay s.regions.queues w.phases who (Waiting request send None) Active at refl refl k.queues) in
    let placed = to_active w s s' who answer some c (ap (λ (x : SeenRegions). x.occupants) r) (ap (λ (x : SeenRegions). x.locks) r) queues k in
    let same = twice_set w.phases who (Chosen answer None) Active in
    goes_on w1 s s' who answer None going owner is (written_here w.phases who (Chosen answer None) _ at) tt
    (placed_same (with_phase w who Active) (with_phase w1 who Active) s' refl same refl refl placed)
    (idle_fewer w (with_phase w1 who Active) (λ region free. free) (λ q a back chosen. chosen_before w.phases who Active q a back (λ e. let f : ⊥ = cc in f) (ap (λ (l : List Phase). slice_get l q) (sym same) ∙ chosen)) h.idle)
    c.unfetched

-- one that waited, whose region is free
pub chosen_goes_back : (w : World) (s s' : Seats) (who region : ℕ) (request : Request) (send : Option ℕ) (answer : Answer) (going : Going) → phase_of w who ≡ Some (Waiting request send (Some region)) → IsFree w region → going.who ≡ who → going.answer ≡ answer
    → Starts s s' who answer → s'.regions.occupants ≡ slice_set s.regions.occupants region (Some who) → s'.regions.locks ≡ s.regions.locks ++ record { region = region; who = who } ∷ [] → s'.regions.queues ≡ s.regions.queues → Seated w s → GoesOn (with_phase w who (Chosen answer (Some region))) s s' going
chosen_goes_back w s s' who region request send answer going at free owner is c o l q h =
    let k = h.placed in
    let w1 = with_phase w who (Chosen answer (Some region)) in
    let some = some_instance w s who (Waiting request send (Some region)) k at (λ e. let f : ⊥ = cc in f) in
    let s1 : Seats = record s { regions = record s.regions { occupants = slice_set s.regions.occupants region (Some who); locks = s.regions.locks ++ record { region = region; who = who } ∷ [] } } in
    let k1 = placed_locked w s s1 who region (made w s who (Waiting request send (Some region)) k at) (record { processes = refl; phases = refl; backs = refl; chosen = refl; fetch_each = refl }) refl refl refl k in
    let queues = subst (λ (qs : List (List ℕ)). AreQueuedBy qs (slice_set w.phases who Active)) (sym q) (queues_stay s.regions.queues w.phases who (Waiting request send (Some region)) Active at refl refl k.queues) in
    let c1 : Starts s1 s' who answer = record { processes = c.processes; phases = c.phases; backs = c.backs; chosen = c.chosen; answer_each = c.answer_each; unfetched = c.unfetched } in
    let placed = to_active (locked w who region) s1 s' who answer some c1 o l queues k1 in
    let same = twice_set w.phases who (Chosen answer (Some region)) Active in
    goes_on w1 s s' who answer (Some region) going owner is (written_here w.phases who (Chosen answer (Some region)) _ at) free
    (placed_same (with_phase (locked w who region) who Active) (with_phase (locked w1 who region) who Active) s' refl same refl refl placed)
    (idle_fewer (locked w who region) (with_phase (locked w1 who region) who Active) (λ r f. f) (λ p a back chosen. chosen_before w.phases who Active p a back (λ e. let f : ⊥ = cc in f) (ap (λ (l : List Phase). slice_get l p) (sym same) ∙ chosen)) (idle_locked w who region h.idle))
    c.unfetched

-- a region is freed, and nobody waits for it
pub frees : (w : World) (s s' : Seats) (who region : ℕ) → Occupies w who region → first_waiting s.regions.queues region ≡ None → Stays s s' → s'.unfetched.items ≡ s.unfetched.items → s'.regions.occupants ≡ slice_set s.regions.occupants region None → s'.regions.locks ≡ locks_but s.regions.locks region (occupant_of s.regions region) → Changes region (queue_but (queue_of s.regions.queues region) None) s.regions.queues s'.regions.queues → Seated w s → NobodyGoes (freed w who region) s s'
frees w s s' who region owns none t u o l q h =
    let here : occupant_of s.regions region ≡ Some who = ap (λ (os : List (Option ℕ)). slice_index_or os region None) h.placed.occupants ∙ read_is w.occupants region None (Some who) owns in
    let locks : s'.regions.locks ≡ locks_but s.regions.locks region (Some who) = l ∙ ap (locks_but s.regions.locks region) here in
    record { seated = record { placed = placed_freed w s s' who region t o locks (none_taken s.regions.queues s'.regions.queues region q) h.placed; idle = idle_freed w s who region none h.placed h.idle }; answer = u }

-- a region is freed, and the first that waits for it goes on
pub frees_to : (w : World) (s s' : Seats) (who region p : ℕ) (answer : Answer) (going : Going) → Occupies w who region → phase_of w p ≡ Some (Chosen answer (Some region)) → going.who ≡ p → going.answer ≡ answer → Starts s s' p answer
    → s'.regions.occupants ≡ slice_set s.regions.occupants region (Some p) → s'.regions.locks ≡ with_lock (locks_but s.regions.locks region (occupant_of s.regions region)) region (Some p) → Changes region (queue_but (queue_of s.regions.queues region) (Some p)) s.regions.queues s'.regions.queues → Seated w s → GoesOn (freed w who region) s s' going
frees_to w s s' who region p answer going owns at owner is c o l q h =
    let k = h.placed in
    let here : occupant_of s.regions region ≡ Some who = ap (λ (os : List (Option ℕ)). slice_index_or os region None) k.occupants ∙ read_is w.occupants region None (Some who) owns in
    let some = some_instance w s p (Chosen answer (Some region)) k at (λ e. let f : ⊥ = cc in f) in
    let s1 : Seats = record s { regions = record s.regions { occupants = slice_set s.regions.occupants region None; locks = locks_but s.regions.locks region (Some who) } } in
    let s2 : Seats = record s1 { regions = record s1.regions { occupants = slice_set s1.regions.occupants region (Some p); locks = s1.regions.locks ++ record { region = region; who = p } ∷ [] } } in
    let w1 = freed w who region in
    let k1 = placed_freed w s s1 who region (record { processes = refl; phases = refl; backs = refl; chosen = refl; fetch_each = refl }) refl refl (λ r. refl) k in
    let k2 = placed_locked w1 s1 s2 p region (made w1 s1 p (Chosen answer (Some region)) k1 at) (record { processes = refl; phases = refl; backs = refl; chosen = refl; fetch_each = refl }) refl refl refl k1 in
    let queues = queues_stop s.regions.queues s'.regions.queues w.phases p region answer q at k.queues in
    let c2 : Starts s2 s' p answer = record { processes = c.processes; phases = c.phases; backs = c.backs; chosen = c.chosen; answer_each = c.answer_each; unfetched = c.unfetched } in
    let o2 : s'.regions.occupants ≡ s2.regions.occupants = o ∙ sym (set_set s.regions.occupants region None (Some p)) in
    let l2 : s'.regions.locks ≡ s2.regions.locks = l ∙ ap (λ found. with_lock (locks_but s.regions.locks region found) region (Some p)) here in
    let placed = to_active (locked w1 p region) s2 s' p answer some c2 o2 l2 queues k2 in
    goes_on w1 s s' p answer (Some region) going owner is at (written_here w.occupants region None (Some who) owns)
    placed
    (idle_fewer w (with_phase (locked w1 p region) p Active) (λ r free. free_swapped w who p region r free) (λ x a back chosen. chosen_before w.phases p Active x a back (λ e. let f : ⊥ = cc in f) chosen) h.idle)
    c.unfetched

-- the phase and the region to lock again, as one comes to wait
pub record Waits (s s' : Seats) (who : ℕ) (back : Option ℕ) : Type 0 where
  pub processes : s'.instances.processes ≡ s.instances.processes
  pub phases : s'.instances.phases ≡ slice_set s.instances.phases who kinds.Waiting
  pub regions : s'.regions ≡ s.regions
  pub backs : s'.backs.items ≡ slice_set s.backs.items who back
  pub chosen : s'.chosen.items ≡ s.chosen.items
  pub unfetched : s'.unfetched.items ≡ s.unfetched.items

owned_there : (w : World) (who region : ℕ) → Occupies w who region → region < length w.occupants
owned_there w who region owns = within w.occupants region (Some who) owns

-- to waiting, with the regions as they are
pub to_waiting : (w : World) (s s' : Seats) (who : ℕ) (request : Request) (send back : Option ℕ) → IsActive w who → OwnsLast w who → back ≡ last_of (worlds.held_by w who) → Waits s s' who back → Seated w s → Seated (with_phase w who (Waiting request send back)) s'
to_waiting w s s' who request send back active owns is c h =
    let k = h.placed in
    let some = some_instance w s who Active k active (λ e. let f : ⊥ = cc in f) in
    let low : who < length s.backs.items = rw k.back_each (within w.phases who Active active) in
    let was = slice_get-get_or s.backs.items who None low in
    let new = Waiting request send back in
    let queues = subst (λ (qs : List (List ℕ)). AreQueuedBy qs (slice_set w.phases who new)) (sym (ap (λ (x : SeenRegions). x.queues) c.regions)) (queues_stay s.regions.queues w.phases who Active new active refl refl k.queues) in
    let r : Rewrites w s s' who new = record {
      processes = c.processes;
      phases = c.phases;
      occupants = ap (λ (x : SeenRegions). x.occupants) c.regions;
      locks = ap (λ (x : SeenRegions). x.locks) c.regions;
      queues = queues;
      backs = λ q apart. ap (λ l. slice_get l q) c.backs ∙ written_elsewhere s.backs.items who q back apart;
      back = λ req se b e. ap (λ l. slice_get l who) c.backs ∙ written_here s.backs.items who back _ was ∙ (let same : back ≡ b = cc in ap Some same);
      there = λ req se region e. owned_there w who region (owns region (sym is ∙ (let same : back ≡ Some region = cc in same)));
      answers = λ q apart. ap (λ l. slice_get l q) c.chosen;
      answer = λ a b e. absurd (let f : ⊥ = cc in f);
      back_each = ap length c.backs ∙ length-set s.backs.items who back;
      answer_each = ap length c.chosen;
      fetch_each = ap length c.unfetched;
    } in
    record { placed = placed_phase w s s' who new some r k; idle = idle_fewer w (with_phase w who new) (λ region free. free) (λ q a b chosen. chosen_before w.phases who new q a b (λ e. let f : ⊥ = cc in f) chosen) h.idle }

-- who goes on is told against what was to be fetched
pub settles_from : (w : World) (s s1 s' : Seats) (result : Option Going) → s1.unfetched.items ≡ s.unfetched.items → Settles w s1 s' result → Settles w s s' result
settles_from w s s1 s' None u h = record { seated = h.seated; answer = h.answer ∙ u }
settles_from w s s1 s' (Some going) u h = record { may = h.may; seated = h.seated; answer = h.answer ∙ ap (λ l. slice_set l going.who (Some going.answer)) u }

-- it waits, and held nothing
pub waits_bare : (w : World) (s s' : Seats) (who : ℕ) (request : Request) (send : Option ℕ) → IsActive w who → OwnsLast w who → last_of (worlds.held_by w who) ≡ None → Waits s s' who None → Seated w s → NobodyGoes (waiting w who request send) s s'
waits_bare w s s' who request send active owns none c h =
    subst (λ (back : Option ℕ). NobodyGoes (with_phase (freed_last w who back) who (Waiting request send back)) s s') (sym none)
    (record { seated = to_waiting w s s' who request send None active owns (sym none) c h; answer = c.unfetched })

-- it waits, and its last region was released in the world in which it waits already
pub waits_freed : (w : World) (s s1 s' : Seats) (who region : ℕ) (request : Request) (send : Option ℕ) (result : Option Going) → last_of (worlds.held_by w who) ≡ Some region → s1.unfetched.items ≡ s.unfetched.items
    → Settles (freed (with_phase w who (Waiting request send (Some region))) who region) s1 s' result → Settles (waiting w who request send) s s' result
waits_freed w s s1 s' who region request send result is u h =
    subst (λ (back : Option ℕ). Settles (with_phase (freed_last w who back) who (Waiting request send back)) s s' result) (sym is) (settles_from (with_phase (freed w who region) who (Waiting request send (Some region))) s s1 s' result u h)

pushed_chosen : (phases : List Phase) (q : ℕ) (answer : Answer) (back : Option ℕ) → slice_get (phases ++ Active ∷ []) q ≡ Some (Chosen answer back) → slice_get phases q ≡ Some (Chosen answer back)
pushed_chosen phases q answer back at = elim (pushed_or_old phases q Active (Chosen answer back) at) [
  | inl last ↦ absurd (let e = last.1 in let f : ⊥ = cc in f)
  | inr old ↦ old
]

pushed_waiting : (phases : List Phase) (q : ℕ) (request : Request) (send back : Option ℕ) → slice_get (phases ++ Active ∷ []) q ≡ Some (Waiting request send back) → slice_get phases q ≡ Some (Waiting request send back)
pushed_waiting phases q request send back at = elim (pushed_or_old phases q Active (Waiting request send back) at) [
  | inl last ↦ absurd (let e = last.1 in let f : ⊥ = cc in f)
  | inr old ↦ old
]

longer : {X Y : Type 0} (xs : List X) (ys : List Y) (x : X) (y : Y) → length xs ≡ length ys → length (xs ++ x ∷ []) ≡ length (ys ++ y ∷ [])
longer xs ys x y same = length_push xs x ∙ ap (λ n. n + 1) same ∙ sym (length_push ys y)

-- an instance is started
pub starts_new : (w : World) (s s' : Seats) (process : ℕ) (scalars : List ℤ) → s'.instances.processes ≡ s.instances.processes ++ process ∷ [] → s'.instances.phases ≡ s.instances.phases ++ kinds.Active ∷ [] → s'.regions ≡ s.regions
    → s'.backs.items ≡ s.backs.items ++ None ∷ [] → s'.chosen.items ≡ s.chosen.items ++ None ∷ [] → s'.unfetched.items ≡ s.unfetched.items ++ None ∷ [] → Seated w s → Seated (started w process scalars) s'
starts_new w s s' process scalars p ph r b c u h =
    let k = h.placed in
    record {
      placed = record {
        processes = p ∙ ap (λ l. l ++ process ∷ []) k.processes;
        phases = ph ∙ ap (λ l. l ++ kinds.Active ∷ []) k.phases ∙ sym (map-append kind_of w.phases (Active ∷ []));
        occupants = ap (λ (x : SeenRegions). x.occupants) r ∙ k.occupants;
        held = λ q. ap (λ (x : SeenRegions). held_by x.locks q) r ∙ k.held q ∙ sym (read_pushed w.held q []);
        queues = subst (λ (x : SeenRegions). AreQueuedBy x.queues (w.phases ++ Active ∷ [])) (sym r) (queues_more s.regions.queues w.phases Active refl k.queues);
        backs = λ q request send back at. ap (λ l. slice_get l q) b ∙ pushed_keeps s.backs.items q None back (k.backs q request send back (pushed_waiting w.phases q request send back at));
        there = λ q request send region at. k.there q request send region (pushed_waiting w.phases q request send (Some region) at);
        answers = λ q answer back at. ap (λ l. slice_get l q) c ∙ pushed_keeps s.chosen.items q None (Some (twice answer)) (k.answers q answer back (pushed_chosen w.phases q answer back at));
        zeroth = pushed_keeps w.phases 0 Active (Ended Normal) k.zeroth;
        held_each = longer w.held w.phases [] Active k.held_each;
        back_each = ap length b ∙ longer s.backs.items w.phases None Active k.back_each;
        answer_each = ap length c ∙ longer s.chosen.items w.phases None Active k.answer_each;
        fetch_each = ap length u ∙ longer s.unfetched.items w.phases None Active k.fetch_each;
      };
      idle = idle_fewer w (started w process scalars) (λ region free. free) (λ q answer back chosen. pushed_chosen w.phases q answer back chosen) h.idle;
    }

-- an instance whose phase is known is in the table, and in the lists of answers
pub in_table : (w : World) (s : Seats) (who : ℕ) (phase : Phase) → Placed w s → phase_of w who ≡ Some phase → who < length s.instances.phases
in_table w s who phase k at = rw k.phases (rw (length-map w.phases kind_of) (within w.phases who phase at))

pub in_fetched : (w : World) (s : Seats) (who : ℕ) (phase : Phase) → Placed w s → phase_of w who ≡ Some phase → who < length s.unfetched.items
in_fetched w s who phase k at = rw k.fetch_each (within w.phases who phase at)

pub in_chosen : (w : World) (s : Seats) (who : ℕ) (phase : Phase) → Placed w s → phase_of w who ≡ Some phase → who < length s.chosen.items
in_chosen w s who phase k at = rw k.answer_each (within w.phases who phase at)

pub in_backs : (w : World) (s : Seats) (who : ℕ) (phase : Phase) → Placed w s → phase_of w who ≡ Some phase → who < length s.backs.items
in_backs w s who phase k at = rw k.back_each (within w.phases who phase at)

-- a region whose occupant was found is occupied, and else it is free
pub occupied_by : (occupants : List (Option ℕ)) (region : ℕ) (found : Option ℕ) → found ≡ slice_index_or occupants region None → is_some found ≡ true → (other : ℕ) × (slice_get occupants region ≡ Some (Some other))
occupied_by occupants region None is some = absurd (let f : ⊥ = cc in f)
occupied_by occupants region (Some other) is some = (other, stands_there occupants region None (Some other) (sym is) (λ e. let f : ⊥ = cc in f))

pub free_where : (occupants : List (Option ℕ)) (region : ℕ) (found : Option ℕ) → region < length occupants → found ≡ slice_index_or occupants region None → is_some found ≡ false → slice_get occupants region ≡ Some None
free_where occupants region None low is none = slice_get-get_or occupants region None low ∙ ap Some (sym is)
free_where occupants region (Some other) low is none = absurd (let f : ⊥ = cc in f)

pub none_where : (occupants : List (Option ℕ)) (region : ℕ) (found : Option ℕ) → found ≡ slice_index_or occupants region None → is_some found ≡ false → slice_index_or occupants region None ≡ None
none_where occupants region None is none = sym is
none_where occupants region (Some other) is none = absurd (let f : ⊥ = cc in f)

-- the region to lock again that is read
pub back_read : (w : World) (s : Seats) (who : ℕ) (request : Request) (send back found : Option ℕ) → Placed w s → phase_of w who ≡ Some (Waiting request send back) → found ≡ get_or s.backs.items who found → back ≡ found
back_read w s who request send back found k at is = sym (is ∙ get_or_from_slice_get s.backs.items who back found (k.backs who request send back at))
