-- Calls: the tick, the frame, and what the body's end makes of the caller.
use Rattle.std.proofs.Common.{◌≡◌, ℕ, suc, ◌+◌, ◌<◌, ◌≤◌, if◌then◌else◌, Bool, true, false, List, [], ◌∷◌, ◌++◌, ℤ, length, reverse, Some, slice_get, nat_lt, nat_le, le-leb, refl, sym, ap, ◌∙◌, subst, arith, append_assoc, length-append, inl, inr}
use Rattle.std.proofs.lemmas.List.{reverse-append}
use Rattle.kernel_base.specs.declared.ends.Exc.{Exc}
use Rattle.kernel_base.specs.declared.ends.Exc.TheVariants.{Spacefail}
use Rattle.kernel_base.specs.declared.ends.How.{How}
use Rattle.kernel_base.specs.declared.ends.How.TheVariants.{Raised as RaisedHow}
use Rattle.kernel_base.specs.declared.request.Request.TheVariants.{End}
use Rattle.kernel_base.specs.declared.answer.Answer.{Answer}
use Rattle.world_model.specs.Session.{Item, Ask, Session, Asked, Answered, Unanswered, ask, Ticked, GoesOn, Last, tick}
use Rattle.modes.specs.Scalars.{lowest_of}
use Rattle.checked_program.specs.declared.program.Parameter.{Parameter}
use Rattle.program_trees.specs.ProgramTree.{LocalRowTree, BodyRowTree}
use Rattle.code_types.specs.declared.instr.Instr.TheVariants as i
use Rattle.code_types.specs.declared.code.BodyRow.{BodyRow}
use Rattle.code_types.specs.declared.code.Handler.{Handler}
use Rattle.code_types.specs.Places.{taker, params_of, listed_of, names_exception}
use Rattle.code_types.specs.Operands.{topmost, below_topmost}
use Rattle.code_types.specs.Actions.{Calls, Throws, most_frames}
use Rattle.code_types.specs.Answers.{fits_request, ended}
use Rattle.code_types.specs.State.{Frame, OpenRegion, State, Running, Called, Raising, Asking}
use Rattle.code_types.specs.Steps.{Move, Goes, Asks, Stays, Run, At, Over, with_frames, moved, new_frame, entered, called, caught, run_behind, run_with, run_after}
use Rattle.source_meaning.specs.Store.{Store, OpenCall, Taken, brings, lowest}
use Rattle.source_meaning.specs.Flow.{Flow, Raised, takes_answer, Given, Halts, reply_in, finished, finish, after_tick}
use Rattle.source_meaning.specs.BodyMeaning.{Ending, Through, Out, Halted, Ended, Unknown, at_call}
use Rattle.source_meaning.specs.Talk.{parameter_scalars}
use Rattle.follow_laws.specs.Follows.{Around, CanArise, frame_at, state_at, Holds, GetsTo, IsFrameOf, AreFramesOf, own_call, always, HoldsWith, Follows, run_by}
use Rattle.code_laws.specs.StatementBounds.{where_goes_on}
use Rattle.code_laws.specs.Calls.{taken_scalars, results_back, in_frame_of, EndsFitting, Returns, open_in, FitTaken, CallLaw}
use Rattle.follow_laws.proofs.Running.{stays, is_there, one_more, gets_then, after, makes, comes, raises, stops, own_frame, on_top_of, below_of}
use Rattle.follow_laws.proofs.Requesting.{Untaken, fits_alike}

-- a frame below others is the first one of them, seen from the outermost
pub frames_below : (front : List Frame) (f : Frame) (calls : List OpenCall) (c : OpenCall) → AreFramesOf (reverse front) calls → IsFrameOf f c → AreFramesOf (reverse (front ++ f ∷ [])) (c ∷ calls)
frames_below front f calls c are is = subst (λ (fs : List Frame). AreFramesOf fs (c ∷ calls)) (sym (reverse-append front (f ∷ []))) (is, are)

-- The process asks its end, with a call open above the caller.
pub ends_follow : {A : Type 0} (w : Around) (lo hi : ℕ) (rows : List Handler) (to : A → ℕ) (give : A → List ℤ) (Q : A → Store → List ℤ → Type 0) (how : How) (top caller : Frame) (c : OpenCall) (regions : List OpenRegion) (store : Store) (s : Session)
    → IsFrameOf top c → IsFrameOf caller (own_call w store)
    → Follows w (At (record { instance = w.instance; frames = top ∷ caller ∷ w.below; regions = regions; mode = Asking (End how) [] }) (record s { trace = s.trace ++ Ask (End how) ∷ [] })) lo hi rows to give Q (finish how (c ∷ []) store s)
ends_follow {A} w lo hi rows to give Q how top caller c regions store s o d =
    after {n = run_with q (End how) [] (ask (End how) s) trace} (one_more w.code (At q (record s { trace = trace })) (run_with q (End how) [] (ask (End how) s) trace) refl) (by_asked (ask (End how) s))
  where
    q : State
    q = record { instance = w.instance; frames = top ∷ caller ∷ w.below; regions = regions; mode = Asking (End how) [] }

    trace : List Item
    trace = s.trace ++ Ask (End how) ∷ []

    halts : (t : List Item) → Follows w (Over q t) lo hi rows to give Q (finished (Halts t) (c ∷ []) store)
    halts t = record { by = record { state = q; front = top ∷ caller ∷ []; frames = refl; are = (d, (o, tt)); by = stays w.code (Over q t) } }

    by_fit : (a : Answer) (s1 : Session) (x y : Bool) → x ≡ y → Follows w (if y then At (ended q) s1 else Over q trace) lo hi rows to give Q (finished (if x then Given a s1 else Halts trace) (c ∷ []) store)
    by_fit a s1 true true e = record { by = record { state = ended q; none = refl; by = one_more w.code (At (ended q) s1) (Over (ended q) s1.trace) refl } }
    by_fit a s1 false false e = halts trace
    by_fit a s1 true false e = absurd (let no : ⊥ = cc in no)
    by_fit a s1 false true e = absurd (let no : ⊥ = cc in no)

    by_asked : (x : Asked) → Follows w (run_with q (End how) [] x trace) lo hi rows to give Q (finished (reply_in (End how) [] x trace) (c ∷ []) store)
    by_asked (Answered a s1) = by_fit a s1 (takes_answer (End how) [] a) (fits_request (End how) [] a) (fits_alike (End how) [] a)
    by_asked (Unanswered t) = halts t

-- an exception has gone out of a body: it is raised at the call, or ends the process
out_follow : {A : Type 0} (w : Around) (lo hi : ℕ) (rows : List Handler) (to : A → ℕ) (at : ℕ) (give : A → List ℤ) (Q : A → Store → List ℤ → Type 0) (listed : Bool) (x : Exc) (top : Frame) (c : OpenCall) (regions : List OpenRegion) (base locals : List ℤ) (store : Store) (s : Session)
    → (listed ≡ true → CanArise w.code at x) → (listed ≡ true → regions ≡ w.regions)
    → lo ≤ at → at < hi → Untaken rows at → Holds w store locals → IsFrameOf top c
    → Follows w (run_after (record { instance = w.instance; frames = top ∷ frame_at w at base locals ∷ w.below; regions = regions; mode = Raising x }) s
    (if listed then Goes (record { instance = w.instance; frames = frame_at w at base locals ∷ w.below; regions = regions; mode = Raising x }) else Asks (End (RaisedHow x)) (record { instance = w.instance; frames = top ∷ frame_at w at base locals ∷ w.below; regions = regions; mode = Asking (End (RaisedHow x)) [] }))) lo hi rows to give Q
    (if listed then Raised x store s else finish (RaisedHow x) (c ∷ []) store s)
out_follow w lo hi rows to at give Q true x top c regions base locals store s arises same l u none h o =
    after (is_there w.code (At (record { instance = w.instance; frames = frame_at w at base locals ∷ w.below; regions = regions; mode = Raising x }) s) (At (state_at w (Raising x) at base locals) s)
    (ap (λ (rs : List OpenRegion). At (record { instance = w.instance; frames = frame_at w at base locals ∷ w.below; regions = rs; mode = Raising x }) s) (same refl)))
    (raises (arises refl) l u (none x) h)
out_follow w lo hi rows to at give Q false x top c regions base locals store s arises same l u none h o = ends_follow w lo hi rows to give Q (RaisedHow x) top (frame_at w at base locals) c regions store s o (own_frame w at base locals store h)

-- what a body's end makes of its caller
back_follow : (w : Around) (b : ℕ) (body : BodyRowTree) (row : BodyRow) (at lo hi : ℕ) (rows : List Handler) (base locals : List ℤ) (store : Store) (m : Run) (e : Ending)
    → slice_get w.code.bodies b ≡ Some row → row.listed ≡ body.listed → slice_get w.code.instrs at ≡ Some (i.Call b)
    → lo ≤ at → at < hi → Untaken rows at → Holds w store locals
    → Returns w.code w.instance b body (frame_at w at base locals) w.below w.regions m e
    → Follows w m lo hi rows (always (at + 1)) (λ final. base ++ results_back body final) (HoldsWith w (EndsFitting body)) (at_call b (Some body) store e)
back_follow w b body row at lo hi rows base locals store m (Through inner s) is same call l u none h r =
    after r.1 (comes {v = inner} refl refl (r.0, h))
back_follow w b body row at lo hi rows base locals store m (Out x inner s) is same call l u none h r =
    let q : State = record { instance = w.instance; frames = r.frame ∷ frame_at w at base locals ∷ w.below; regions = r.still_open; mode = Raising x } in
    let goes : State = record { instance = w.instance; frames = frame_at w at base locals ∷ w.below; regions = r.still_open; mode = Raising x } in
    let asks : State = record q { mode = Asking (End (RaisedHow x)) [] } in
    let lists : listed_of (slice_get w.code.bodies r.frame.body) ≡ body.listed = ap (λ (j : ℕ). listed_of (slice_get w.code.bodies j)) r.shows.body ∙ (ap listed_of is ∙ same) in
    let move_is : caught w.code q x r.frame (frame_at w at base locals ∷ w.below) (taker w.code.handlers r.frame.place x) ≡ (if names_exception body.listed x then Goes goes else Asks (End (RaisedHow x)) asks) =
    ap (λ t. caught w.code q x r.frame (frame_at w at base locals ∷ w.below) t) r.untaken
    ∙ ap (λ (ns : List ℕ). if names_exception ns x then Goes goes else Asks (End (RaisedHow x)) asks) lists in
    after (gets_then r.by (one_more w.code (At q s) (run_after q s (if names_exception body.listed x then Goes goes else Asks (End (RaisedHow x)) asks)) (ap (λ v. run_after q s v) move_is)))
    (out_follow w lo hi rows (always (at + 1)) at (λ final. base ++ results_back body final) (HoldsWith w (EndsFitting body)) (names_exception body.listed x) x r.frame (record { body = b; store = inner }) r.still_open base locals store s
    (λ lists_it. inr (inr (b, call, ap (λ (ns : List ℕ). names_exception ns x) (ap listed_of is ∙ same) ∙ lists_it))) r.same l u none h r.shows)
back_follow w b body row at lo hi rows base locals store m (Halted t calls inner) is same call l u none h r =
    record {
      by = record {
        state = r.state;
        front = r.front ++ frame_at w at base locals ∷ [];
        frames = r.frames ∙ sym (append_assoc r.front (frame_at w at base locals ∷ []) w.below);
        are = frames_below r.front (frame_at w at base locals) (record { body = b; store = inner } ∷ calls) (own_call w store) r.are (own_frame w at base locals store h);
        by = r.by;
      };
    }
back_follow w b body row at lo hi rows base locals store m (Ended t) is same call l u none h r = record { by = r }
back_follow w b body row at lo hi rows base locals store m Unknown is same call l u none h r = record { by = tt }

chosen : (b : Bool) (m n : Move) → b ≡ true → (if b then m else n) ≡ m
chosen true m n e = refl
chosen false m n e = absurd (let no : ⊥ = cc in no)

-- the frame of the call whose tick is made
enters : (w : Around) (b : ℕ) (row : BodyRow) (at : ℕ) (base xs locals : List ℤ) (s : Session)
    → slice_get w.code.instrs at ≡ Some (i.Call b) → slice_get w.code.bodies b ≡ Some row → length xs ≡ row.params
    → GetsTo w.code (At (state_at w Called at (base ++ xs) locals) s) (in_frame_of w.instance b row xs (frame_at w at base locals ∷ w.below) w.regions s)
enters w b row at base xs locals s is has long =
    let q : State = state_at w Called at (base ++ xs) locals in
    let f : Frame = frame_at w at (base ++ xs) locals in
    let room : row.params ≤ length (base ++ xs) = omega (arith, length-append base xs) in
    let yes : nat_le row.params (length (base ++ xs)) ≡ true = le-leb row.params (length (base ++ xs)) room in
    let high : topmost row.params (base ++ xs) ≡ xs = ap (λ (n : ℕ). topmost n (base ++ xs)) (sym long) ∙ on_top_of base xs in
    let low : below_topmost row.params (base ++ xs) ≡ base = ap (λ (n : ℕ). below_topmost n (base ++ xs)) (sym long) ∙ below_of base xs in
    let goes_in : (ys zs : List ℤ) → Move = λ ys zs. Goes (with_frames q (new_frame b row ys ∷ moved f f.place zs ∷ w.below) Running) in
    let move_is : called w.code q f w.below (slice_get w.code.instrs at) ≡ goes_in xs base =
    ap (λ x. called w.code q f w.below x) is
    ∙ (ap (λ x. entered q f w.below b x) has
    ∙ (chosen (nat_le row.params (length (base ++ xs))) (goes_in (topmost row.params (base ++ xs)) (below_topmost row.params (base ++ xs))) Stays yes
    ∙ (ap (λ (ys : List ℤ). goes_in ys (below_topmost row.params (base ++ xs))) high ∙ ap (λ (zs : List ℤ). goes_in xs zs) low))) in
    one_more w.code (At q s) (in_frame_of w.instance b row xs (frame_at w at base locals ∷ w.below) w.regions s) (ap (λ v. run_after q s v) move_is)

-- a tick of a call, behind which it is known that there is another
ticked : {A : Type 0} (w : Around) (t : Ticked) (lo hi : ℕ) (rows : List Handler) (to : A → ℕ) (give : A → List ℤ) (Q : A → Store → List ℤ → Type 0) (at : ℕ) (stack locals : List ℤ) (store : Store) (within : Session → Bool) (next : Session → Flow A)
    → Holds w store locals → where_goes_on t within ≡ true
    → ((s : Session) → within s ≡ true → Follows w (At (state_at w Called at stack locals) s) lo hi rows to give Q (next s))
    → Follows w (run_behind (state_at w Called at stack locals) t) lo hi rows to give Q (after_tick t store next)
ticked w (GoesOn s) lo hi rows to give Q at stack locals store within next h keeps f = f s keeps
ticked w (Last t) lo hi rows to give Q at stack locals store within next h keeps f = stops Called t h

-- there is room for a frame, or SPACEFAIL
by_room : {A : Type 0} (w : Around) (room : Bool) (lo hi : ℕ) (rows : List Handler) (to : A → ℕ) (give : A → List ℤ) (Q : A → Store → List ℤ → Type 0) (at : ℕ) (base xs locals : List ℤ) (store : Store) (s : Session) (within : Session → Bool) (next : Session → Flow A)
    → lo ≤ at → at < hi → Untaken rows at → Holds w store locals → (if room then where_goes_on (tick s) within else true) ≡ true
    → ((s1 : Session) → within s1 ≡ true → Follows w (At (state_at w Called at (base ++ xs) locals) s1) lo hi rows to give Q (next s1))
    → Follows w (run_by w at (base ++ xs) base locals s (if room then Calls else Throws Spacefail)) lo hi rows to give Q (if room then after_tick (tick s) store next else Raised Spacefail store s)
by_room w true lo hi rows to give Q at base xs locals store s within next l u none h keeps f = ticked w (tick s) lo hi rows to give Q at (base ++ xs) locals store within next h keeps f
by_room w false lo hi rows to give Q at base xs locals store s within next l u none h keeps f = raises (inl refl) l u (none Spacefail) h

pub taken_long : (rows : List LocalRowTree) (ps : List Parameter) (ts : List Taken) → FitTaken rows ps ts → length (taken_scalars rows ts) ≡ parameter_scalars rows ps
taken_long rows [] [] fit = refl
taken_long rows [] (t ∷ ts) fit = absurd fit
taken_long rows (p ∷ ps) [] fit = absurd fit
taken_long [] (p ∷ ps) (t ∷ ts) fit = absurd fit
taken_long (row ∷ rows) (p ∷ ps) (brings xs ∷ ts) fit = omega (arith, length-append xs (taken_scalars rows ts), fit.0, taken_long rows ps ts fit.1)
taken_long (row ∷ rows) (p ∷ ps) (lowest ∷ ts) fit = omega (arith, length-append (lowest_of row.mode) (taken_scalars rows ts), fit.0, taken_long rows ps ts fit.1)

pub call_runs : CallLaw
call_runs w p bodies within b body ts at lo hi rows base locals store s follow is_body procedure below fit is l u none h keeps =
    let xs : List ℤ = taken_scalars body.locals ts in
    let give : Store → List ℤ = λ final. base ++ results_back body final in
    let mine = follow.row b body is_body in
    let row : BodyRow = mine.0 in
    let params : length xs ≡ row.params = taken_long body.locals body.parameters ts fit ∙ sym mine.2.params in
    let frames : suc (length w.below) + 1 ≡ suc (length (frame_at w at base locals ∷ w.below)) = omega arith in
    makes (i.Call b) at base xs locals s (if nat_lt (suc (length w.below)) most_frames then Calls else Throws Spacefail) is (ap params_of mine.1 ∙ sym params) refl
    (by_room w (nat_lt (suc (length w.below)) most_frames) lo hi rows (always (at + 1)) give (HoldsWith w (EndsFitting body)) at base xs locals store s (λ s1. within b (suc (length w.below) + 1) (open_in w.regions) ts s1) (λ s1. at_call b (slice_get p.bodies b) store (bodies b (suc (length w.below) + 1) (open_in w.regions) ts s1)) l u none h keeps
    (λ s1 keeps1.
    subst (λ o. Follows w (At (state_at w Called at (base ++ xs) locals) s1) lo hi rows (always (at + 1)) give (HoldsWith w (EndsFitting body)) (at_call b o store (bodies b (suc (length w.below) + 1) (open_in w.regions) ts s1))) (sym is_body)
    (after (enters w b row at base xs locals s1 is mine.1 params)
    (back_follow w b body row at lo hi rows base locals store (in_frame_of w.instance b row xs (frame_at w at base locals ∷ w.below) w.regions s1) (bodies b (suc (length w.below) + 1) (open_in w.regions) ts s1) mine.1 mine.2.listed is l u none h
    (subst (λ (n : ℕ). Returns w.code w.instance b body (frame_at w at base locals) w.below w.regions (in_frame_of w.instance b row xs (frame_at w at base locals ∷ w.below) w.regions s1) (bodies b n (open_in w.regions) ts s1)) (sym frames)
    (follow.at b body row (frame_at w at base locals) w.below w.regions ts s1 is_body mine.1 procedure below fit
    (subst (λ (n : ℕ). within b n (open_in w.regions) ts s1 ≡ true) frames keeps1)))))))
