-- Statements with a label or a handler.
use Rattle.std.proofs.Common.{◌≡◌, ℕ, zero, suc, ◌≤◌, if◌then◌else◌, Bool, true, false, List, [], ◌∷◌, ◌++◌, ℤ, take, Option, Some, None, refl, sym, ap, ◌∙◌, subst, arith}
use Rattle.kernel_base.specs.declared.ends.Exc.{Exc}
use Rattle.world_model.specs.Session.{Session}
use Rattle.code_types.specs.declared.code.Handler.{Handler}
use Rattle.code_types.specs.Places.{taker, takes}
use Rattle.code_types.specs.State.{Running, Raising}
use Rattle.code_types.specs.Steps.{Run, At, caught as caught_by, run_after}
use Rattle.source_meaning.specs.Store.{Store}
use Rattle.source_meaning.specs.Flow.{Flow, Goes, Raised, Exits, Returned, Stops, Gone, Bound, Meaning}
use Rattle.source_meaning.specs.StatementMeaning.{ends_exit, caught}
use Rattle.follow_laws.specs.Follows.{Around, frame_at, state_at, here, Holds, GetsTo, RaisesIn, ComesBy, always, HoldsWith, Nothing, no_stack, Does}
use Rattle.follow_laws.specs.Parts.{labelled, LabelledLaw, IsCovered, TakeNothing, Handles, HandledLaw}
use Rattle.follow_laws.proofs.Running.{gets_then, after, wider}

-- ---- labels

held_alike : (w : Around) (behind : ℕ) (store : Store) (locals : List ℤ) → Holds (labelled w behind) store locals → Holds w store locals
held_alike w behind store locals h = record { rest = h.rest; is = h.is; fit = h.fit; result = h.result; long = h.long }

label_passes : (w : Around) (m : Run) (lo hi : ℕ) (rows : List Handler) (behind : ℕ) (o : Flow (Unit {0}))
    → ComesBy (labelled w behind) m lo hi rows (always behind) no_stack (HoldsWith (labelled w behind) Nothing) o
    → ComesBy w m lo hi rows (always behind) no_stack (HoldsWith w Nothing) (ends_exit o)
label_passes w m lo hi rows behind (Goes v store s) f = record { locals = f.locals; holds = (tt, held_alike w behind store f.locals f.holds.1); by = f.by }
label_passes w m lo hi rows behind (Raised x store s) f = record { place = f.place; stack = f.stack; locals = f.locals; from = f.from; until = f.until; untaken = f.untaken; arises = f.arises; holds = held_alike w behind store f.locals f.holds; by = f.by }
label_passes w m lo hi rows behind (Exits zero store s) f = record { locals = f.locals; holds = (tt, held_alike w behind store f.locals f.holds); by = f.by }
label_passes w m lo hi rows behind (Exits (suc k) store s) f = record { locals = f.locals; holds = held_alike w behind store f.locals f.holds; by = f.by }
label_passes w m lo hi rows behind (Returned store s) f = record { place = f.place; has = f.has; arrives = record { locals = f.arrives.locals; holds = held_alike w behind store f.arrives.locals f.arrives.holds; by = f.arrives.by } }
label_passes w m lo hi rows behind (Stops t inner store) f = record { state = f.state; front = f.front; frames = f.frames; are = f.are; by = f.by }
label_passes w m lo hi rows behind (Gone t) f = record { state = f.state; none = f.none; by = f.by }
label_passes w m lo hi rows behind Bound f = tt

pub labelled_runs : LabelledLaw
labelled_runs w m lo hi rows behind o f = record { by = label_passes w m lo hi rows behind o f.by }

-- ---- handlers

-- a list's head takes the exception, or what is behind it
head_none : (t : Bool) (h : Handler) (u v w : Option Handler) → (u ≡ None → v ≡ w) → (if t then Some h else u) ≡ None → (if t then Some h else v) ≡ w
head_none true h u v w f e = absurd (let no : ⊥ = cc in no)
head_none false h u v w f e = f e

head_some : (t : Bool) (h row : Handler) (u v : Option Handler) → (u ≡ Some row → v ≡ Some row) → (if t then Some h else u) ≡ Some row → (if t then Some h else v) ≡ Some row
head_some true h row u v f e = e
head_some false h row u v f e = f e

pub taker_right : (a b : List Handler) (place : ℕ) (x : Exc) → taker a place x ≡ None → taker (a ++ b) place x ≡ taker b place x
taker_right [] b place x none = refl
taker_right (h ∷ a) b place x none = head_none (takes h place x) h (taker a place x) (taker (a ++ b) place x) (taker b place x) (λ e. taker_right a b place x e) none

pub taker_left : (a b : List Handler) (place : ℕ) (x : Exc) (row : Handler) → taker a place x ≡ Some row → taker (a ++ b) place x ≡ Some row
taker_left [] b place x row some = absurd (let no : ⊥ = cc in no)
taker_left (h ∷ a) b place x row some = head_some (takes h place x) h row (taker a place x) (taker (a ++ b) place x) (λ e. taker_left a b place x row e) some

-- a raised exception that a row takes
pub lands : (w : Around) (place : ℕ) (stack locals : List ℤ) (x : Exc) (row : Handler) (s : Session)
    → taker w.code.handlers place x ≡ Some row → row.height ≡ 0
    → GetsTo w.code (At (state_at w (Raising x) place stack locals) s) (here w row.target [] locals s)
lands w place stack locals x row s is low =
    record { count = 1; by = ap (λ t. run_after (state_at w (Raising x) place stack locals) s (caught_by w.code (state_at w (Raising x) place stack locals) x (frame_at w place stack locals) w.below t)) is ∙ ap (λ (j : ℕ). At (state_at w Running row.target (take j stack) locals) s) low }

-- what is raised in the action: a row of the statement takes it, or it goes on
raised_passes : (w : Around) (from until hi behind : ℕ) (inner own acts : List Handler) (m : Run) (h : Exc → Meaning (Unit {0})) (x : Exc) (store : Store) (s : Session) (t : Option Handler)
    → IsCovered w from hi (inner ++ (own ++ acts))
    → TakeNothing acts from until → TakeNothing inner until hi → TakeNothing own until hi
    → from ≤ until → until ≤ hi
    → Handles w until hi behind own acts (Raised x store s) h
    → (r : RaisesIn w m from until inner x store s) → taker own r.place x ≡ t
    → Does w m from hi (inner ++ (own ++ acts)) behind (h x store s)
raised_passes w from until hi behind inner own acts m h x store s (Some row) covered after_acts inside beside low high handles r taken =
    let whole : taker (inner ++ (own ++ acts)) r.place x ≡ Some row = taker_right inner (own ++ acts) r.place x r.untaken ∙ taker_left own acts r.place x row taken in
    let is = covered.at r.place x row r.from (omega (arith, r.until)) whole in
    let acting = (handles r.place x store s r.locals refl r.holds).0 row taken in
    after (gets_then r.by (lands w r.place r.stack r.locals x row s is acting.0))
    (wider low (let e : hi ≤ hi = omega arith in e)
    (λ y place from_here until_here none. taker_right inner (own ++ acts) place y (inside place y from_here until_here) ∙ (taker_right own acts place y (beside place y from_here until_here) ∙ none))
    (λ v store locals q. q) acting.1)
raised_passes w from until hi behind inner own acts m h x store s None covered after_acts inside beside low high handles r untaken =
    let goes_on = (handles r.place x store s r.locals refl r.holds).1 untaken in
    subst (λ o. Does w m from hi (inner ++ (own ++ acts)) behind o) (sym goes_on)
    (record {
      by = record {
        place = r.place;
        stack = r.stack;
        locals = r.locals;
        from = r.from;
        until = omega (arith, r.until);
        untaken = taker_right inner (own ++ acts) r.place x r.untaken ∙ (taker_right own acts r.place x untaken ∙ after_acts r.place x r.from r.until);
        arises = r.arises;
        holds = r.holds;
        by = r.by;
      };
    })

handled_passes : (w : Around) (from until hi behind : ℕ) (inner own acts : List Handler) (m : Run) (o : Flow (Unit {0})) (h : Exc → Meaning (Unit {0}))
    → IsCovered w from hi (inner ++ (own ++ acts))
    → TakeNothing acts from until → TakeNothing inner until hi → TakeNothing own until hi
    → from ≤ until → until ≤ hi
    → Handles w until hi behind own acts o h
    → ComesBy w m from until inner (always behind) no_stack (HoldsWith w Nothing) o
    → Does w m from hi (inner ++ (own ++ acts)) behind (caught o h)
handled_passes w from until hi behind inner own acts m (Raised x store s) h covered after_acts inside beside low high handles f = raised_passes w from until hi behind inner own acts m h x store s (taker own f.place x) covered after_acts inside beside low high handles f refl
handled_passes w from until hi behind inner own acts m (Goes v store s) h covered after_acts inside beside low high handles f = record { by = f }
handled_passes w from until hi behind inner own acts m (Exits k store s) h covered after_acts inside beside low high handles f = record { by = f }
handled_passes w from until hi behind inner own acts m (Returned store s) h covered after_acts inside beside low high handles f = record { by = f }
handled_passes w from until hi behind inner own acts m (Stops t calls store) h covered after_acts inside beside low high handles f = record { by = f }
handled_passes w from until hi behind inner own acts m (Gone t) h covered after_acts inside beside low high handles f = record { by = f }
handled_passes w from until hi behind inner own acts m Bound h covered after_acts inside beside low high handles f = record { by = tt }

pub handled_runs : HandledLaw
handled_runs w from until hi behind inner own acts m o h covered after_acts inside beside low high handles f = handled_passes w from until hi behind inner own acts m o h covered after_acts inside beside low high handles f.by
