-- What the machines make of an event, by what that of its instance makes.
use Rattle.std.proofs.Common.{◌≡◌, ℕ, ◌+◌, ◌<◌, Bool, true, false, refl, sym, ap, ◌∙◌, subst, List, length, Option, Some, None, slice_get, slice_set, get_or}
use Rattle.std.specs.Prelude.{MatchBool, IfOk, Ok, Err}
use Rattle.std.specs.declared.result.Result.{Result}
use Rattle.std.proofs.lemmas.Option.{slice_get_read, slice_get_within}
use Rattle.kernel_base.specs.declared.request.Request.{Request}
use Rattle.kernel_base.specs.declared.answer.Answer.{Answer}
use Rattle.kernel_base.specs.declared.event.Event.{Event}
use Rattle.kernel_base.specs.declared.event.Event.TheVariants.{Did, Waits, Goes, Runs}
use Rattle.code_types.specs.declared.code.Code.{Code}
use Rattle.machine_steps.specs.declared.process.Process.{Process}
use Rattle.code_machine.specs.declared.burst.Stop.TheVariants.{Asks, Paused}
use Rattle.run_checker.specs.Slots.{Adds, CanFollow, CannotFollow, Follows, HasAsked, HasRun, IsReadyAt, IsThere, Misses, Takes, is_end}

pub if_ok : {T E : Type 0} (r : Result T E) (P Q : T → Type 0) → ((x : T) → P x → Q x) → IfOk r P → IfOk r Q
if_ok (Ok x) P Q gives known = gives x known
if_ok (Err e) P Q gives known = known

ready_low : (code : Code) (machines : List (Option Process)) (i : ℕ) (o : Option (Option Process)) → slice_get machines i ≡ o → IsReadyAt code o → i < length machines
ready_low code machines i (Some slot) at ready = slice_get_within machines i slot at
ready_low code machines i None at ready = absurd ready

there_low : (machines : List (Option Process)) (i : ℕ) (o : Option (Option Process)) → slice_get machines i ≡ o → IsThere o → i < length machines
there_low machines i (Some slot) at there = slice_get_within machines i slot at
there_low machines i None at there = absurd there

stands_at : (machines : List (Option Process)) (who : ℕ) (old : Option Process) → who < length machines → old ≡ get_or machines who old → slice_get machines who ≡ Some old
stands_at machines who old low is = slice_get_read machines (length machines) who old refl low is

can_by : (code : Code) (machines : List (Option Process)) (event same : Event) → event ≡ same → CanFollow code machines event → CanFollow code machines same
can_by code machines event same is can = subst (λ (e : Event). CanFollow code machines e) is can

pub when_true : (held : Bool) (A B : Type 0) → held ≡ true → MatchBool held A B → A
when_true true A B is told = told
when_true false A B is told = absurd (let f : ⊥ = cc in f)

pub when_false : (held : Bool) (A B : Type 0) → held ≡ false → MatchBool held A B → B
when_false true A B is told = absurd (let f : ⊥ = cc in f)
when_false false A B is told = told

-- its machine asked and was answered
pub did_follows : (code : Code) (event : Event) (who ticks : ℕ) (request : Request) (answer : Answer) (refill : Option ℕ) (machines new : List (Option Process)) (old asked given : Option Process) (held ends : Bool) → event ≡ Did who ticks request answer refill
    → CanFollow code machines event → old ≡ get_or machines who old → held ≡ true → MatchBool held (HasAsked code ticks request old asked) (Misses code (ticks + 1) (Asks ticks request) old)
    → ends ≡ is_end request → Takes code answer ends asked given → Adds code request answer (slice_set machines who given) new → Follows code event machines new
did_follows code event who ticks request answer refill machines new old asked given held ends is can at sure told same takes adds =
    let ready = (can_by code machines event (Did who ticks request answer refill) is can).0 in
    subst (λ (e : Event). Follows code e machines new) (sym is) (record {
      between = slice_set machines who given;
      changes = record {
        old = old;
        changed = given;
        there = stands_at machines who old (ready_low code machines who (slice_get machines who) refl ready) at;
        way = record { asked = asked; asks = when_true held (HasAsked code ticks request old asked) (Misses code (ticks + 1) (Asks ticks request) old) sure told; takes = subst (λ (b : Bool). Takes code answer b asked given) same takes };
        is = refl;
      };
      adds = adds;
    })

-- its machine makes another burst
pub did_misses : (code : Code) (event : Event) (who ticks : ℕ) (request : Request) (answer : Answer) (refill : Option ℕ) (machines : List (Option Process)) (old asked : Option Process) (held : Bool) → event ≡ Did who ticks request answer refill
    → CanFollow code machines event → old ≡ get_or machines who old → held ≡ false → MatchBool held (HasAsked code ticks request old asked) (Misses code (ticks + 1) (Asks ticks request) old)
    → CannotFollow code event machines
did_misses code event who ticks request answer refill machines old asked held is can at sure told =
    let ready = (can_by code machines event (Did who ticks request answer refill) is can).0 in
    subst (λ (e : Event). CannotFollow code e machines) (sym is) (record {
      old = old;
      there = stands_at machines who old (ready_low code machines who (slice_get machines who) refl ready) at;
      misses = when_false held (HasAsked code ticks request old asked) (Misses code (ticks + 1) (Asks ticks request) old) sure told;
    })

waits_by : (code : Code) (who ticks : ℕ) (request : Request) (machines : List (Option Process)) (old new : Option Process) (held : Bool) → slice_get machines who ≡ Some old → MatchBool held (HasAsked code ticks request old new) (Misses code (ticks + 1) (Asks ticks request) old)
    → MatchBool held (Follows code (Waits who ticks request) machines (slice_set machines who new)) (CannotFollow code (Waits who ticks request) machines)
waits_by code who ticks request machines old new true at told = record { old = old; changed = new; there = at; way = told; is = refl }
waits_by code who ticks request machines old new false at told = record { old = old; there = at; misses = told }

pub waits_told : (code : Code) (event : Event) (who ticks : ℕ) (request : Request) (machines : List (Option Process)) (old new : Option Process) (held : Bool) → event ≡ Waits who ticks request → CanFollow code machines event → old ≡ get_or machines who old
    → MatchBool held (HasAsked code ticks request old new) (Misses code (ticks + 1) (Asks ticks request) old) → MatchBool held (Follows code event machines (slice_set machines who new)) (CannotFollow code event machines)
waits_told code event who ticks request machines old new held is can at told =
    let ready = (can_by code machines event (Waits who ticks request) is can).0 in
    subst (λ (e : Event). MatchBool held (Follows code e machines (slice_set machines who new)) (CannotFollow code e machines)) (sym is)
    (waits_by code who ticks request machines old new held (stands_at machines who old (ready_low code machines who (slice_get machines who) refl ready) at) told)

runs_by : (code : Code) (who ticks : ℕ) (machines : List (Option Process)) (old new : Option Process) (held : Bool) → slice_get machines who ≡ Some old → MatchBool held (HasRun code ticks old new) (Misses code ticks (Paused ticks) old)
    → MatchBool held (Follows code (Runs who ticks) machines (slice_set machines who new)) (CannotFollow code (Runs who ticks) machines)
runs_by code who ticks machines old new true at told = record { old = old; changed = new; there = at; way = told; is = refl }
runs_by code who ticks machines old new false at told = record { old = old; there = at; misses = told }

pub runs_told : (code : Code) (event : Event) (who ticks : ℕ) (machines : List (Option Process)) (old new : Option Process) (held : Bool) → event ≡ Runs who ticks → CanFollow code machines event → old ≡ get_or machines who old
    → MatchBool held (HasRun code ticks old new) (Misses code ticks (Paused ticks) old) → MatchBool held (Follows code event machines (slice_set machines who new)) (CannotFollow code event machines)
runs_told code event who ticks machines old new held is can at told =
    let ready = (can_by code machines event (Runs who ticks) is can).0 in
    subst (λ (e : Event). MatchBool held (Follows code e machines (slice_set machines who new)) (CannotFollow code e machines)) (sym is)
    (runs_by code who ticks machines old new held (stands_at machines who old (ready_low code machines who (slice_get machines who) refl ready) at) told)

-- its machine was answered
pub goes_follows : (code : Code) (event : Event) (who : ℕ) (answer : Answer) (machines : List (Option Process)) (old new : Option Process) → event ≡ Goes who answer → CanFollow code machines event → old ≡ get_or machines who old
    → Takes code answer false old new → Follows code event machines (slice_set machines who new)
goes_follows code event who answer machines old new is can at takes =
    let there = can_by code machines event (Goes who answer) is can in
    subst (λ (e : Event). Follows code e machines (slice_set machines who new)) (sym is)
    (record { old = old; changed = new; there = stands_at machines who old (there_low machines who (slice_get machines who) refl there) at; way = takes; is = refl })
