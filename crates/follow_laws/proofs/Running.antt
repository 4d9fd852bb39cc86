-- How runs of the machine are put together.
use Rattle.std.proofs.Common.{◌≡◌, ℕ, zero, suc, ◌+◌, ◌-◌, ◌<◌, ◌≤◌, if◌then◌else◌, Bool, true, false, List, [], ◌∷◌, ◌++◌, ℤ, length, take, drop, Some, None, slice_get, nat_le, le-leb, refl, sym, ap, ◌∙◌, subst, arith, append_assoc, append-nil, length-append}
use Rattle.std.proofs.Math.Seq.{take-append_seam, drop-append_seam}
use Rattle.kernel_base.specs.declared.ends.Exc.{Exc}
use Rattle.world_model.specs.Session.{Item, Session}
use Rattle.code_types.specs.declared.instr.Instr.{Instr}
use Rattle.code_types.specs.declared.code.Code.{Code}
use Rattle.code_types.specs.declared.code.Handler.{Handler}
use Rattle.code_types.specs.Places.{finds, taker}
use Rattle.code_types.specs.Operands.{topmost, below_topmost}
use Rattle.code_types.specs.Actions.{Action, action_of}
use Rattle.code_types.specs.State.{Frame, State, Mode, Running, Raising}
use Rattle.code_types.specs.Steps.{Move, Stays, Run, At, Over, made, executed, run_after, step, steps}
use Rattle.source_meaning.specs.Store.{Store}
use Rattle.source_meaning.specs.Flow.{Flow, Goes, Raised, Exits, Returned, Stops, Gone, Bound, Meaning, then_do}
use Rattle.follow_laws.specs.Follows.{HasAt, flat, Around, keeping, frame_at, state_at, here, Holds, GetsTo, run_by, action_in, Arrives, CanArise, RaisesIn, IsFrameOf, own_call, ComesBy, Follows}

pub has_front : (all : List Instr) (at : ℕ) (a b : List Instr) → HasAt all at (a ++ b) → HasAt all at a
has_front all at [] b h = tt
has_front all at (i ∷ a) b h = (h.0, has_front all (at + 1) a b h.1)

pub has_back : (all : List Instr) (at to : ℕ) (a b : List Instr) → at + length a ≡ to → HasAt all at (a ++ b) → HasAt all to b
has_back all at to [] b e h = let e' : at ≡ to = omega arith in subst (λ n. HasAt all n b) e' h
has_back all at to (i ∷ a) b e h = has_back all (at + 1) to a b (omega arith) h.1

-- ---- steps

pub stays : (code : Code) (m : Run) → GetsTo code m m
stays code m = record { count = 0; by = refl }

pub is_there : (code : Code) (m n : Run) → m ≡ n → GetsTo code m n
is_there code m n e = record { count = 0; by = e }

pub one_more : (code : Code) (m n : Run) → steps code 1 m ≡ n → GetsTo code m n
one_more code m n e = record { count = 1; by = e }

steps_then : (code : Code) (k : ℕ) (m n r : Run) → steps code k m ≡ n → GetsTo code n r → GetsTo code m r
steps_then code zero m n r e q = subst (λ x. GetsTo code x r) (sym e) q
steps_then code (suc k) m n r e q =
    let rest = steps_then code k (step code m) n r e q in
    record { count = suc rest.count; by = rest.by }

pub gets_then : {code : Code} {m n r : Run} → GetsTo code m n → GetsTo code n r → GetsTo code m r
gets_then {code} {m} {n} {r} p q = steps_then code p.count m n r p.by q

pub arrives_after : {w : Around} {m n : Run} {to : ℕ} {stack : List ℤ} {Q : List ℤ → Type 0} {s : Session} → GetsTo w.code m n → Arrives w n to stack Q s → Arrives w m to stack Q s
arrives_after r a = record { locals = a.locals; holds = a.holds; by = gets_then r a.by }

pub raises_after : {w : Around} {m n : Run} {lo hi : ℕ} {rows : List Handler} {x : Exc} {store : Store} {s : Session} → GetsTo w.code m n → RaisesIn w n lo hi rows x store s → RaisesIn w m lo hi rows x store s
raises_after r f = record { place = f.place; stack = f.stack; locals = f.locals; from = f.from; until = f.until; untaken = f.untaken; arises = f.arises; holds = f.holds; by = gets_then r f.by }

-- what is reached on the way to an outcome
pub comes_after : {A : Type 0} (w : Around) (m n : Run) (lo hi : ℕ) (rows : List Handler) (to : A → ℕ) (stack : A → List ℤ) (Q : A → Store → List ℤ → Type 0) (o : Flow A)
    → GetsTo w.code m n → ComesBy w n lo hi rows to stack Q o → ComesBy w m lo hi rows to stack Q o
comes_after w m n lo hi rows to stack Q (Goes v store s) r f = arrives_after r f
comes_after w m n lo hi rows to stack Q (Raised x store s) r f = raises_after r f
comes_after w m n lo hi rows to stack Q (Exits k store s) r f = arrives_after r f
comes_after w m n lo hi rows to stack Q (Returned store s) r f = record { place = f.place; has = f.has; arrives = arrives_after r f.arrives }
comes_after w m n lo hi rows to stack Q (Stops t inner store) r f = record { state = f.state; front = f.front; frames = f.frames; are = f.are; by = gets_then r f.by }
comes_after w m n lo hi rows to stack Q (Gone t) r f = record { state = f.state; none = f.none; by = gets_then r f.by }
comes_after w m n lo hi rows to stack Q Bound r f = tt

pub after : {A : Type 0} {w : Around} {m n : Run} {lo hi : ℕ} {rows : List Handler} {to : A → ℕ} {stack : A → List ℤ} {Q : A → Store → List ℤ → Type 0} {o : Flow A}
    → GetsTo w.code m n → Follows w n lo hi rows to stack Q o → Follows w m lo hi rows to stack Q o
after {A} {w} {m} {n} {lo} {hi} {rows} {to} {stack} {Q} {o} r f = record { by = comes_after w m n lo hi rows to stack Q o r f.by }

-- ---- one part after another

comes_then : {A B : Type 0} (w : Around) (m : Run) (lo hi : ℕ) (rows : List Handler) (to : A → ℕ) (to' : B → ℕ) (stack : A → List ℤ) (stack' : B → List ℤ) (Q : A → Store → List ℤ → Type 0) (Q' : B → Store → List ℤ → Type 0) (o : Flow A) (next : A → Meaning B)
    → ComesBy w m lo hi rows to stack Q o
    → ((v : A) (store : Store) (s : Session) (locals : List ℤ) → Q v store locals → o ≡ Goes v store s → Follows w (here w (to v) (stack v) locals s) lo hi rows to' stack' Q' (next v store s))
    → ComesBy w m lo hi rows to' stack' Q' (then_do o next)
comes_then w m lo hi rows to to' stack stack' Q Q' (Goes v store s) next f g = comes_after w m (here w (to v) (stack v) f.locals s) lo hi rows to' stack' Q' (next v store s) f.by (g v store s f.locals f.holds refl).by
comes_then w m lo hi rows to to' stack stack' Q Q' (Raised x store s) next f g = f
comes_then w m lo hi rows to to' stack stack' Q Q' (Exits k store s) next f g = f
comes_then w m lo hi rows to to' stack stack' Q Q' (Returned store s) next f g = f
comes_then w m lo hi rows to to' stack stack' Q Q' (Stops t inner store) next f g = f
comes_then w m lo hi rows to to' stack stack' Q Q' (Gone t) next f g = f
comes_then w m lo hi rows to to' stack stack' Q Q' Bound next f g = tt

-- the part behind knows what the first one gave
pub follows_then_is : {A B : Type 0} {w : Around} {m : Run} {lo hi : ℕ} {rows : List Handler} {to : A → ℕ} {to' : B → ℕ} {stack : A → List ℤ} {stack' : B → List ℤ} {Q : A → Store → List ℤ → Type 0} {Q' : B → Store → List ℤ → Type 0} {o : Flow A} {next : A → Meaning B}
    → Follows w m lo hi rows to stack Q o
    → ((v : A) (store : Store) (s : Session) (locals : List ℤ) → Q v store locals → o ≡ Goes v store s → Follows w (here w (to v) (stack v) locals s) lo hi rows to' stack' Q' (next v store s))
    → Follows w m lo hi rows to' stack' Q' (then_do o next)
follows_then_is {A} {B} {w} {m} {lo} {hi} {rows} {to} {to'} {stack} {stack'} {Q} {Q'} {o} {next} f g = record { by = comes_then w m lo hi rows to to' stack stack' Q Q' o next f.by g }

pub follows_then : {A B : Type 0} {w : Around} {m : Run} {lo hi : ℕ} {rows : List Handler} {to : A → ℕ} {to' : B → ℕ} {stack : A → List ℤ} {stack' : B → List ℤ} {Q : A → Store → List ℤ → Type 0} {Q' : B → Store → List ℤ → Type 0} {o : Flow A} {next : A → Meaning B}
    → Follows w m lo hi rows to stack Q o
    → ((v : A) (store : Store) (s : Session) (locals : List ℤ) → Q v store locals → Follows w (here w (to v) (stack v) locals s) lo hi rows to' stack' Q' (next v store s))
    → Follows w m lo hi rows to' stack' Q' (then_do o next)
follows_then f g = follows_then_is f (λ v store s locals q is. g v store s locals q)

-- ---- what is weaker

-- wider places, and rows that take nothing besides there
raises_wider : (w : Around) (m : Run) (lo hi lo' hi' : ℕ) (rows rows' : List Handler) (x : Exc) (store : Store) (s : Session)
    → lo' ≤ lo → hi ≤ hi' → ((place : ℕ) → lo ≤ place → place < hi → taker rows place x ≡ None → taker rows' place x ≡ None)
    → RaisesIn w m lo hi rows x store s → RaisesIn w m lo' hi' rows' x store s
raises_wider w m lo hi lo' hi' rows rows' x store s l u none f = record { place = f.place; stack = f.stack; locals = f.locals; from = omega (arith, f.from); until = omega (arith, f.until); untaken = none f.place f.from f.until f.untaken; arises = f.arises; holds = f.holds; by = f.by }

-- no exception that none of the first rows takes in these places is taken by one of the others
abbrev pub TakeNoMore : List Handler → List Handler → ℕ → ℕ → Type 0
TakeNoMore rows rows' lo hi = (x : Exc) (place : ℕ) → lo ≤ place → place < hi → taker rows place x ≡ None → taker rows' place x ≡ None

comes_wider : {A : Type 0} (w : Around) (m : Run) (lo hi lo' hi' : ℕ) (rows rows' : List Handler) (to : A → ℕ) (stack : A → List ℤ) (Q Q' : A → Store → List ℤ → Type 0) (o : Flow A)
    → lo' ≤ lo → hi ≤ hi' → TakeNoMore rows rows' lo hi
    → ((v : A) (store : Store) (locals : List ℤ) → Q v store locals → Q' v store locals)
    → ComesBy w m lo hi rows to stack Q o → ComesBy w m lo' hi' rows' to stack Q' o
comes_wider w m lo hi lo' hi' rows rows' to stack Q Q' (Goes v store s) l u none weak f = record { locals = f.locals; holds = weak v store f.locals f.holds; by = f.by }
comes_wider w m lo hi lo' hi' rows rows' to stack Q Q' (Raised x store s) l u none weak f = raises_wider w m lo hi lo' hi' rows rows' x store s l u (none x) f
comes_wider w m lo hi lo' hi' rows rows' to stack Q Q' (Exits k store s) l u none weak f = f
comes_wider w m lo hi lo' hi' rows rows' to stack Q Q' (Returned store s) l u none weak f = f
comes_wider w m lo hi lo' hi' rows rows' to stack Q Q' (Stops t inner store) l u none weak f = f
comes_wider w m lo hi lo' hi' rows rows' to stack Q Q' (Gone t) l u none weak f = f
comes_wider w m lo hi lo' hi' rows rows' to stack Q Q' Bound l u none weak f = tt

pub wider : {A : Type 0} {w : Around} {m : Run} {lo hi lo' hi' : ℕ} {rows rows' : List Handler} {to : A → ℕ} {stack : A → List ℤ} {Q Q' : A → Store → List ℤ → Type 0} {o : Flow A}
    → lo' ≤ lo → hi ≤ hi' → TakeNoMore rows rows' lo hi
    → ((v : A) (store : Store) (locals : List ℤ) → Q v store locals → Q' v store locals)
    → Follows w m lo hi rows to stack Q o → Follows w m lo' hi' rows' to stack Q' o
wider {A} {w} {m} {lo} {hi} {lo'} {hi'} {rows} {rows'} {to} {stack} {Q} {Q'} {o} l u none weak f = record { by = comes_wider w m lo hi lo' hi' rows rows' to stack Q Q' o l u none weak f.by }

-- what is kept may be forgotten
pub forgotten : (w : Around) (ks : List ℤ) (store : Store) (locals : List ℤ) → Holds (keeping w ks) store locals → Holds w store locals
forgotten w ks store locals h =
    record {
      rest = ks ++ h.rest;
      is = h.is ∙ ap (λ (l : List ℤ). flat store.locals ++ (store.result ++ l)) (append_assoc w.kept ks h.rest);
      fit = h.fit;
      result = h.result;
      long = h.long;
    }

forgetting_comes : {A : Type 0} (w : Around) (ks : List ℤ) (m : Run) (lo hi : ℕ) (rows : List Handler) (to : A → ℕ) (stack : A → List ℤ) (Q : A → Store → List ℤ → Type 0) (o : Flow A)
    → ComesBy (keeping w ks) m lo hi rows to stack Q o → ComesBy w m lo hi rows to stack Q o
forgetting_comes w ks m lo hi rows to stack Q (Goes v store s) f = record { locals = f.locals; holds = f.holds; by = f.by }
forgetting_comes w ks m lo hi rows to stack Q (Raised x store s) f = record { place = f.place; stack = f.stack; locals = f.locals; from = f.from; until = f.until; untaken = f.untaken; arises = f.arises; holds = forgotten w ks store f.locals f.holds; by = f.by }
forgetting_comes w ks m lo hi rows to stack Q (Exits k store s) f = record { locals = f.locals; holds = forgotten w ks store f.locals f.holds; by = f.by }
forgetting_comes w ks m lo hi rows to stack Q (Returned store s) f = record { place = f.place; has = f.has; arrives = record { locals = f.arrives.locals; holds = forgotten w ks store f.arrives.locals f.arrives.holds; by = f.arrives.by } }
forgetting_comes w ks m lo hi rows to stack Q (Stops t inner store) f = record { state = f.state; front = f.front; frames = f.frames; are = f.are; by = f.by }
forgetting_comes w ks m lo hi rows to stack Q (Gone t) f = record { state = f.state; none = f.none; by = f.by }
forgetting_comes w ks m lo hi rows to stack Q Bound f = tt

-- a part within which more is kept: what holds behind it may tell of that
pub forgetting : {A : Type 0} {w : Around} {m : Run} {lo hi : ℕ} {rows : List Handler} {to : A → ℕ} {stack : A → List ℤ} {Q : A → Store → List ℤ → Type 0} {o : Flow A} (ks : List ℤ)
    → Follows (keeping w ks) m lo hi rows to stack Q o → Follows w m lo hi rows to stack Q o
forgetting {A} {w} {m} {lo} {hi} {rows} {to} {stack} {Q} {o} ks f = record { by = forgetting_comes w ks m lo hi rows to stack Q o f.by }

-- ---- an instruction that finds its operands on top

chosen : (b : Bool) (m n : Move) → b ≡ true → (if b then m else n) ≡ m
chosen true m n e = refl
chosen false m n e = absurd (let no : ⊥ = cc in no)

pub on_top_of : (base xs : List ℤ) → topmost (length xs) (base ++ xs) ≡ xs
on_top_of base xs =
    let e : length (base ++ xs) - length xs ≡ length base = omega (arith, length-append base xs) in
    ap (λ (n : ℕ). drop n (base ++ xs)) e ∙ drop-append_seam base xs

pub below_of : (base xs : List ℤ) → below_topmost (length xs) (base ++ xs) ≡ base
below_of base xs =
    let e : length (base ++ xs) - length xs ≡ length base = omega (arith, length-append base xs) in
    ap (λ (n : ℕ). take n (base ++ xs)) e ∙ take-append_seam base xs

executed_is : (code : Code) (s : State) (f : Frame) (below : List Frame) (i : Instr) (base xs : List ℤ)
    → finds code f.body i ≡ length xs → f.stack ≡ base ++ xs
    → executed code s f below (Some i) ≡ made s f below base (action_of s f i xs)
executed_is code s f below i base xs found is =
    let long : finds code f.body i ≤ length f.stack = omega (arith, ap (λ (l : List ℤ). length l) is, length-append base xs) in
    let yes : nat_le (finds code f.body i) (length f.stack) ≡ true = le-leb (finds code f.body i) (length f.stack) long in
    let low : below_topmost (finds code f.body i) f.stack ≡ base = ap (λ (n : ℕ). below_topmost n f.stack) found ∙ (ap (λ (l : List ℤ). below_topmost (length xs) l) is ∙ below_of base xs) in
    let high : topmost (finds code f.body i) f.stack ≡ xs = ap (λ (n : ℕ). topmost n f.stack) found ∙ (ap (λ (l : List ℤ). topmost (length xs) l) is ∙ on_top_of base xs) in
    chosen (nat_le (finds code f.body i) (length f.stack)) (made s f below (below_topmost (finds code f.body i) f.stack) (action_of s f i (topmost (finds code f.body i) f.stack))) Stays yes
    ∙ (ap (λ (l : List ℤ). made s f below l (action_of s f i (topmost (finds code f.body i) f.stack))) low
    ∙ ap (λ (l : List ℤ). made s f below base (action_of s f i l)) high)

-- An instruction acts on the operands on top.
pub acts : (w : Around) (i : Instr) (at : ℕ) (base xs locals : List ℤ) (s : Session) (a : Action)
    → slice_get w.code.instrs at ≡ Some i → finds w.code w.body i ≡ length xs
    → action_in w i at (base ++ xs) locals xs ≡ a
    → GetsTo w.code (here w at (base ++ xs) locals s) (run_by w at (base ++ xs) base locals s a)
acts w i at base xs locals s a is found does =
    let stack : List ℤ = base ++ xs in
    let q : State = state_at w Running at stack locals in
    let f : Frame = frame_at w at stack locals in
    let made_so : executed w.code q f w.below (slice_get w.code.instrs at) ≡ made q f w.below base a =
    ap (λ x. executed w.code q f w.below x) is ∙ (executed_is w.code q f w.below i base xs found refl ∙ ap (λ (b : Action). made q f w.below base b) does) in
    record { count = 1; by = ap (λ x. run_after q s x) made_so }

pub makes : {A : Type 0} {w : Around} {lo hi : ℕ} {rows : List Handler} {to : A → ℕ} {give : A → List ℤ} {Q : A → Store → List ℤ → Type 0} {o : Flow A} (i : Instr) (at : ℕ) (base xs locals : List ℤ) (s : Session) (a : Action)
    → slice_get w.code.instrs at ≡ Some i → finds w.code w.body i ≡ length xs
    → action_in w i at (base ++ xs) locals xs ≡ a
    → Follows w (run_by w at (base ++ xs) base locals s a) lo hi rows to give Q o
    → Follows w (here w at (base ++ xs) locals s) lo hi rows to give Q o
makes {A} {w} i at base xs locals s a is found does f = after (acts w i at base xs locals s a is found does) f

-- an instruction without operands
pub nullary : (w : Around) (i : Instr) (at : ℕ) (stack locals : List ℤ) (s : Session) (a : Action)
    → slice_get w.code.instrs at ≡ Some i → finds w.code w.body i ≡ 0
    → action_in w i at stack locals [] ≡ a
    → GetsTo w.code (here w at stack locals s) (run_by w at stack stack locals s a)
nullary w i at stack locals s a is found does =
    let same : stack ++ [] ≡ stack = append-nil stack in
    subst (λ (l : List ℤ). GetsTo w.code (here w at l locals s) (run_by w at l stack locals s a)) same
    (acts w i at stack [] locals s a is found (subst (λ (l : List ℤ). action_in w i at l locals [] ≡ a) (sym same) does))

-- ---- where outcomes come

-- the machine is there, but for the names of its place and its stack
pub comes : {A : Type 0} {w : Around} {v : A} {lo hi at : ℕ} {rows : List Handler} {to : A → ℕ} {give : A → List ℤ} {Q : A → Store → List ℤ → Type 0} {stack locals : List ℤ} {store : Store} {s : Session}
    → at ≡ to v → stack ≡ give v → Q v store locals
    → Follows w (here w at stack locals s) lo hi rows to give Q (Goes v store s)
comes {A} {w} {v} {lo} {hi} {at} {rows} {to} {give} {Q} {stack} {locals} {store} {s} e f q =
    record {
      by = record {
        locals = locals;
        holds = q;
        by = is_there w.code (here w at stack locals s) (here w (to v) (give v) locals s) (ap (λ (n : ℕ). here w n stack locals s) e ∙ ap (λ (l : List ℤ). here w (to v) l locals s) f);
      };
    }

-- an exception is raised here
pub raises : {A : Type 0} {w : Around} {x : Exc} {lo hi at : ℕ} {rows : List Handler} {to : A → ℕ} {give : A → List ℤ} {Q : A → Store → List ℤ → Type 0} {stack locals : List ℤ} {store : Store} {s : Session}
    → CanArise w.code at x → lo ≤ at → at < hi → taker rows at x ≡ None → Holds w store locals
    → Follows w (At (state_at w (Raising x) at stack locals) s) lo hi rows to give Q (Raised x store s)
raises {A} {w} {x} {lo} {hi} {at} {rows} {to} {give} {Q} {stack} {locals} {store} {s} arises l u none h =
    record { by = record { place = at; stack = stack; locals = locals; from = l; until = u; untaken = none; arises = arises; holds = h; by = stays w.code (At (state_at w (Raising x) at stack locals) s) } }

-- the frame of this part is that of its open call
pub own_frame : (w : Around) (at : ℕ) (stack locals : List ℤ) (store : Store) → Holds w store locals → IsFrameOf (frame_at w at stack locals) (own_call w store)
own_frame w at stack locals store h = record { body = refl; rest = store.result ++ (w.kept ++ h.rest); is = h.is }

-- the talk stops in this frame
pub stops : {A : Type 0} {w : Around} {lo hi : ℕ} {rows : List Handler} {to : A → ℕ} {give : A → List ℤ} {Q : A → Store → List ℤ → Type 0} {at : ℕ} {stack locals : List ℤ} {store : Store} (mode : Mode) (t : List Item)
    → Holds w store locals
    → Follows w (Over (state_at w mode at stack locals) t) lo hi rows to give Q (Stops t [] store)
stops {A} {w} {lo} {hi} {rows} {to} {give} {Q} {at} {stack} {locals} {store} mode t h =
    record { by = record { state = state_at w mode at stack locals; front = frame_at w at stack locals ∷ []; frames = refl; are = (own_frame w at stack locals store h, tt); by = stays w.code (Over (state_at w mode at stack locals) t) } }
