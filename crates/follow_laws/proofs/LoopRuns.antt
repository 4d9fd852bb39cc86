-- Loops: a turn, a tick, and the rest of the turns.
use Rattle.std.proofs.Common.{◌≡◌, ℕ, zero, suc, List, [], ℤ, Option, Some, None, refl, ap, ◌∙◌}
use Rattle.world_model.specs.Session.{Session, Ticked, GoesOn, Last, tick}
use Rattle.code_types.specs.declared.instr.Instr.TheVariants as i
use Rattle.code_types.specs.declared.code.Handler.{Handler}
use Rattle.code_types.specs.Actions.{TicksTo}
use Rattle.code_types.specs.State.{Mode}
use Rattle.code_types.specs.State.{Running}
use Rattle.code_types.specs.Steps.{run_behind}
use Rattle.source_meaning.specs.Store.{Store}
use Rattle.source_meaning.specs.Flow.{Flow, Goes, Meaning, after_tick}
use Rattle.source_meaning.specs.StatementMeaning.{turns, turn_or_end}
use Rattle.follow_laws.specs.Follows.{Around, keeping, state_at, here, Holds, Follows, always, HoldsWith, Nothing, no_stack, Does}
use Rattle.follow_laws.specs.Parts.{LoopPlaces, turn_place, TurnHolds, Invariant, LoopFollows, TurnsFollow, where_decided, TurnsLawOf, TurnsLaw}
use Rattle.follow_laws.proofs.Running.{after, nullary, follows_then_is, comes, stops, forgotten, forgetting}

-- a tick, in the mode behind it; what is behind it knows that it was made
pub tick_follows_is : {A : Type 0} (w : Around) (mode : Mode) (t : Ticked) (lo hi : ℕ) (rows : List Handler) (to : A → ℕ) (give : A → List ℤ) (Q : A → Store → List ℤ → Type 0) (at : ℕ) (stack locals : List ℤ) (store : Store) (next : Session → Flow A)
    → Holds w store locals
    → ((s : Session) → t ≡ GoesOn s → Follows w (run_behind (state_at w mode at stack locals) (GoesOn s)) lo hi rows to give Q (next s))
    → Follows w (run_behind (state_at w mode at stack locals) t) lo hi rows to give Q (after_tick t store next)
tick_follows_is w mode (GoesOn s) lo hi rows to give Q at stack locals store next h f = f s refl
tick_follows_is w mode (Last t) lo hi rows to give Q at stack locals store next h f = stops mode t h

pub tick_follows : {A : Type 0} (w : Around) (mode : Mode) (t : Ticked) (lo hi : ℕ) (rows : List Handler) (to : A → ℕ) (give : A → List ℤ) (Q : A → Store → List ℤ → Type 0) (at : ℕ) (stack locals : List ℤ) (store : Store) (next : Session → Flow A)
    → Holds w store locals
    → ((s : Session) → Follows w (run_behind (state_at w mode at stack locals) (GoesOn s)) lo hi rows to give Q (next s))
    → Follows w (run_behind (state_at w mode at stack locals) t) lo hi rows to give Q (after_tick t store next)
tick_follows w mode t lo hi rows to give Q at stack locals store next h f = tick_follows_is w mode t lo hi rows to give Q at stack locals store next h (λ s is. f s)

-- behind the test: the loop is over, or its turn, a tick and the rest of its turns
behind_test : {C : Type 0} (w : Around) (l : LoopPlaces) (kept_of : C → List ℤ) (at_test at_turn : Invariant C) (test : C → Meaning (Option C)) (body : Meaning (Unit {0})) (n : ℕ) (rest : C → Meaning (Unit {0}))
    → LoopFollows w l kept_of at_test at_turn test body
    → ((c : C) (store : Store) (s : Session) (locals : List ℤ) → at_test n c store s → Holds (keeping w (kept_of c)) store locals → Does w (here w l.again [] locals s) l.from l.until l.rows l.behind (rest c store s))
    → (o : Option C) (store : Store) (s : Session) (locals : List ℤ) → ((c : C) → o ≡ Some c → at_turn n c store s) → TurnHolds w kept_of o store locals
    → Does w (here w (turn_place l o) [] locals s) l.from l.until l.rows l.behind (turn_or_end o body rest store s)
behind_test w l kept_of at_test at_turn test body n rest loop others None store s locals holds h = comes {v = tt} refl refl (tt, h)
behind_test w l kept_of at_test at_turn test body n rest loop others (Some c) store s locals holds h =
    follows_then_is (forgetting (kept_of c) (loop.turns n c store s locals (holds c refl) h))
    (λ v store2 s2 locals2 q is.
    after (nullary w (i.Again l.again) l.back [] locals2 s2 (TicksTo l.again) (loop.back store store2 s s2 is) refl refl)
    (tick_follows_is w Running (tick s2) l.from l.until l.rows (always l.behind) no_stack (HoldsWith w Nothing) l.again [] locals2 store2 (λ s3. rest c store2 s3) (forgotten w (kept_of c) store2 locals2 q.1)
    (λ s3 ticks. others c store2 s3 locals2 (loop.keeps n c store store2 s s2 s3 (holds c refl) is ticks) q.1)))

some_goes : {C : Type 0} (c : C) (o : Option C) (f : Flow (Option C)) (store : Store) (s : Session) → f ≡ Goes o store s → o ≡ Some c → f ≡ Goes (Some c) store s
some_goes c o f store s is e = is ∙ ap (λ t. Goes t store s) e

-- the turns from the place to which turns go back
turns_again : {C : Type 0} (w : Around) (l : LoopPlaces) (kept_of : C → List ℤ) (at_test at_turn : Invariant C) (test : C → Meaning (Option C)) (body : Meaning (Unit {0}))
    → LoopFollows w l kept_of at_test at_turn test body
    → (n : ℕ) (c : C) (store : Store) (s : Session) (locals : List ℤ) → at_test n c store s → Holds (keeping w (kept_of c)) store locals
    → Does w (here w l.again [] locals s) l.from l.until l.rows l.behind (turns n test body c store s)
turns_again w l kept_of at_test at_turn test body loop zero c store s locals holds h = record { by = tt }
turns_again w l kept_of at_test at_turn test body loop (suc n) c store s locals holds h =
    follows_then_is (loop.tests n c store s locals holds h)
    (λ o store1 s1 locals1 h1 is.
    behind_test w l kept_of at_test at_turn test body n (turns n test body) loop
    (λ c2 store2 s2 locals2 holds2 h2. turns_again w l kept_of at_test at_turn test body loop n c2 store2 s2 locals2 holds2 h2)
    o store1 s1 locals1 (λ c1 e. loop.leads n c c1 store store1 s s1 holds (some_goes c1 o (test c store s) store1 s1 is e)) h1)

pub turns_run : {C : Type 0} (w : Around) (l : LoopPlaces) (kept_of : C → List ℤ) (at_test at_turn : Invariant C) (test : C → Meaning (Option C)) (body : Meaning (Unit {0})) → TurnsFollow w l kept_of at_test at_turn test body
turns_run w l kept_of at_test at_turn test body loop n m c store s leads first =
    follows_then_is first
    (λ o store1 s1 locals1 h1 is.
    behind_test w l kept_of at_test at_turn test body n (turns n test body) loop (turns_again w l kept_of at_test at_turn test body loop n)
    o store1 s1 locals1 (λ c1 e. leads c1 store1 s1 (some_goes c1 o (test c store s) store1 s1 is e)) h1)

turns_decided : {C : Type 0} → TurnsLawOf C
turns_decided w l kept_of at_test at_turn test body = turns_run w l kept_of (where_decided at_test) (where_decided at_turn) test body

pub turns_law : TurnsLaw
turns_law = record { plain = turns_decided; members = turns_decided; counting = turns_decided }
