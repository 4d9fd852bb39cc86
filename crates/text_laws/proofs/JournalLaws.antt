-- Runs of the text: their requests fit it, and so do all that its processes get.
use Rattle.std.proofs.Common.{◌≡◌, ◌≤◌, ◌<◌, ℕ, zero, suc, Bool, true, false, List, [], ◌∷◌, ◌++◌, ℤ, length, map, get_or, refl, sym, ap, ◌∙◌, subst, inl, inr, arith, Option, Some, None, slice_get, append-nil, append_assoc, eq-eqb}
use Rattle.std.specs.Prelude.{if◌then◌else◌, ◌==◌, slice_index_or, replicate, All, IfSome}
use Rattle.std.specs.List.{flat_map}
use Rattle.std.proofs.lemmas.Bool.{eqb-true, cases_lt}
use Rattle.std.proofs.lemmas.Option.{slice_get-get_or, slice_get_within}
use Rattle.std.proofs.lemmas.List.Concat.{flat_map-append}
use Rattle.std.proofs.lemmas.List.Elements.{All-nil, All-cons, All-append}
use Rattle.kernel_base.specs.declared.facts.Facts.{Facts}
use Rattle.kernel_base.specs.declared.request.Request.{Request}
use Rattle.kernel_base.specs.declared.request.Request.TheVariants.{Start}
use Rattle.kernel_base.specs.declared.answer.Answer.{Answer}
use Rattle.kernel_base.specs.declared.answer.Answer.TheVariants.{Instance}
use Rattle.kernel_base.specs.declared.event.Event.{Event}
use Rattle.kernel_base.specs.declared.event.Event.TheVariants.{Did, Waits, Goes, Runs}
use Rattle.kernel_base.specs.Facts.{IsSound}
use Rattle.kernel_base.specs.Value.{scalars_of}
use Rattle.world_model.specs.declared.world.Phase.TheVariants.{Active}
use Rattle.world_model.specs.declared.world.StoredValue.{StoredValue}
use Rattle.world_model.specs.declared.world.World.{World}
use Rattle.world_model.specs.Waiting.{phase_of, IsActive}
use Rattle.world_model.specs.World.{opening, after, after_all, world_of}
use Rattle.world_model.specs.Allowed.{IsAllowed, IsRunFrom, IsRun}
use Rattle.world_model.specs.Ranges.{IsNumber, IsScalar, AreScalars, IsAnswerInRange, IsInRange}
use Rattle.world_model.specs.Journal.{ticks_of, items_by, line_of, answers_by, answers_of, Birth, births_by, first_birth, started_as, born_of}
use Rattle.world_model.specs.Session.{Item, Tick, Ask}
use Rattle.world_model.proofs.RunParts.{front_runs, next_allowed}
use Rattle.world_model.proofs.Well.{IsWell, some_active, run_well, opening_well}
use Rattle.run_laws.specs.Laws.{birth_in, Births}
use Rattle.run_laws.proofs.Births.{births_law}
use Rattle.modes.specs.Scalars.{lowest_of}
use Rattle.modes.specs.Language.{IsOfLanguage}
use Rattle.program_trees.specs.ProgramTree.{LocationRowTree, CheckedTree}
use Rattle.code_types.specs.Runs.{Begins, ticks_in}
use Rattle.source_meaning.specs.Talk.{talk}
use Rattle.source_meaning.specs.Runs.{talk_in_journal, FollowsText}
use Rattle.source_meaning.specs.Values.{IsValueOf}
use Rattle.source_meaning.specs.Fitting.{AreOfTypes, HasFittingAnswers, IsFitting}
use Rattle.source_meaning.specs.Facts.{AreFactsOf}
use Rattle.source_meaning.specs.Typed.{IsTyped}
use Rattle.text_laws.specs.Requests.{FitsText, AskWell}
use Rattle.text_laws.specs.Journals.{AsksText, AllAskText, IsOpenWith, PhaseFits, IsBirth, KeepsValues}
use Rattle.text_laws.specs.Laws.{AreTypedFacts, IsTextRun, WorldKeepsLaw, RunFitsLaw}
use Rattle.text_laws.proofs.Values.{lowest_within}
use Rattle.text_laws.proofs.SoundFacts.{all_at, facts_are_sound}
use Rattle.text_laws.proofs.TalkAsks.{talk_asks}
use Rattle.text_laws.proofs.AsksFit.{no_answers_fit, asks_fit}
use Rattle.text_laws.proofs.WorldValues.{StoreIsOfModes}
use Rattle.text_laws.proofs.Journals.{births_first, first_in, KeptSome, if_true, step_kept}
use Rattle.text_laws.proofs.Traces.{begins_on}
use Rattle.text_laws.proofs.GrowingTalks.{talk_grows}

-- ---- the opening

mapped_there : {A : Type 0} (f : A → List ℤ) (xs : List A) (i : ℕ) (x : A) → slice_get xs i ≡ Some x → slice_index_or (map f xs) i [] ≡ f x
mapped_there f [] i x e = absurd (let no : ⊥ = cc in no)
mapped_there f (y ∷ xs) zero x e = let is : y ≡ x = cc in ap f is
mapped_there f (y ∷ xs) (suc i) x e = mapped_there f xs i x e

nothing_stored : (count b : ℕ) → slice_index_or (replicate count (let none : List StoredValue = [] in none)) b [] ≡ []
nothing_stored zero b = refl
nothing_stored (suc count) zero = refl
nothing_stored (suc count) (suc b) = nothing_stored count b

opening_store : (p : CheckedTree) (input : List ℕ) (units : ℕ) (facts : Facts) → IsTyped p → AreFactsOf p input units facts → StoreIsOfModes p (map scalars_of facts.store)
opening_store p input units facts typed are l row at =
    subst (λ (s : List (List ℤ)). IsValueOf row.mode (slice_index_or s l [])) (sym are.store.scalars)
    (subst (λ (xs : List ℤ). IsValueOf row.mode xs) (sym (mapped_there (λ (r : LocationRowTree). lowest_of r.mode) p.locations l row at))
    (lowest_within row.mode (all_at (λ (r : LocationRowTree). IsOfLanguage r.mode × IfSome r.region (λ x. x < p.regions)) p.locations l row typed.locations at).0.parts))

opening_phase : (p : CheckedTree) (facts : Facts) (i : ℕ) → PhaseFits p None (phase_of (opening facts) i)
opening_phase p facts zero = refl
opening_phase p facts (suc zero) = refl
opening_phase p facts (suc (suc i)) = refl

opening_kept : (p : CheckedTree) (input : List ℕ) (units : ℕ) (facts : Facts) → IsTyped p → AreFactsOf p input units facts → KeptSome p (opening facts) []
opening_kept p input units facts typed are = record {
  opens = λ i. None;
  kept = record {
    modes = record {
      values = λ b k value at. absurd (let e : slice_get (let none : List StoredValue = [] in none) k ≡ Some value = ap (λ (vs : List StoredValue). slice_get vs k) (sym (nothing_stored (length facts.buffers) b)) ∙ at in let f : ⊥ = cc in f);
      signals = λ k signal at. absurd (let f : ⊥ = cc in f);
    };
    store = opening_store p input units facts typed are;
    phases = opening_phase p facts;
    asked = λ i r e. absurd (let f : ⊥ = cc in f);
    lines = λ i. (refl, refl);
    births = births_first p typed;
  };
}

pub typed_opening : (p : CheckedTree) (facts : Facts) → AreTypedFacts p facts → KeptSome p (opening facts) []
typed_opening p facts t = opening_kept p t.input t.units facts t.typed t.are

-- ---- event by event

pub after_more : (facts : Facts) (w : World) (xs ys : List Event) → after_all facts w (xs ++ ys) ≡ after_all facts (after_all facts w xs) ys
after_more facts w [] ys = refl
after_more facts w (x ∷ xs) ys = after_more facts (after facts w x) xs ys

-- each event's request fits, where what came before it is kept
abbrev GoodEvents : CheckedTree → Facts → List Event → Type 0
GoodEvents p facts final = (before : List Event) (event : Event) (behind : List Event) → final ≡ before ++ event ∷ behind → KeptSome p (world_of facts before) before → AsksText p event

keep_on : (p : CheckedTree) (facts : Facts) (final : List Event) → IsSound facts → IsRun facts final → GoodEvents p facts final → (before behind : List Event) → final ≡ before ++ behind → KeptSome p (world_of facts before) before → KeptSome p (world_of facts final) final
keep_on p facts final sound run good before [] e k =
    subst (λ (l : List Event). KeptSome p (world_of facts l) l) (sym (e ∙ append-nil before)) k
keep_on p facts final sound run good before (event ∷ behind) e k =
    let run' : IsRun facts (before ++ event ∷ behind) = subst (IsRun facts) e run in
    let front : IsRun facts before = front_runs facts (opening facts) before (event ∷ behind) run' in
    let well : IsWell facts (world_of facts before) = run_well facts (opening facts) before front (opening_well facts sound) in
    let allowed : IsAllowed facts (world_of facts before) event = next_allowed facts before event behind run' in
    let next : KeptSome p (after facts (world_of facts before) event) (before ++ event ∷ []) = step_kept p facts (world_of facts before) before k.opens k.kept event well allowed.possible (good before event behind e k) in
    keep_on p facts final sound run good (before ++ event ∷ []) behind (e ∙ sym (append_assoc before (event ∷ []) behind))
    (subst (λ (w : World). KeptSome p w (before ++ event ∷ [])) (sym (after_more facts (opening facts) before (event ∷ []))) next)

all_kept : (p : CheckedTree) (facts : Facts) (final : List Event) → AreTypedFacts p facts → IsRun facts final → GoodEvents p facts final → KeptSome p (world_of facts final) final
all_kept p facts final t run good = keep_on p facts final (facts_are_sound p facts t) run good [] final refl (typed_opening p facts t)

-- what is kept, as the laws say it
keeps_values : (p : CheckedTree) (facts : Facts) (final : List Event) → KeptSome p (world_of facts final) final → KeepsValues p facts final
keeps_values p facts final k = record {
  holds = record {
    store = k.kept.store;
    stored = k.kept.modes.values;
    pending = k.kept.modes.signals;
    waiting = λ who request send back e. k.kept.asked who request (subst (PhaseFits p (k.opens who)) e (k.kept.phases who));
  };
  gets = λ who. record { open_request = k.opens who; answered = k.kept.lines who; phase = k.kept.phases who };
  births = k.kept.births;
}

one_asks : (p : CheckedTree) (before : List Event) (event : Event) (behind : List Event) → AllAskText p (before ++ event ∷ behind) → AsksText p event
one_asks p [] event behind a = a.0
one_asks p (x ∷ before) event behind a = one_asks p before event behind a.1

pub world_keeps : WorldKeepsLaw
world_keeps p facts events t run asks =
    keeps_values p facts events (all_kept p facts events t run (λ before event behind e k. one_asks p before event behind (subst (AllAskText p) e asks)))

-- ---- lines

-- what an instance did asks what fits, as far as its answers fit
abbrev LinesAsk : CheckedTree → List Event → Type 0
LinesAsk p final = (who : ℕ) (birth : Birth) → born_of who final ≡ Some birth → IsBirth p birth.process birth.arguments → AskWell p (line_of who final) (answers_of who final)

ask_front : (p : CheckedTree) (line rest : List Item) (as' : List Answer) → AskWell p (line ++ rest) as' → AskWell p line as'
ask_front p [] rest as' w = tt
ask_front p (Tick ∷ line) rest as' w = ask_front p line rest as' w
ask_front p (Ask r ∷ line) rest [] w = (w.0, ask_front p line rest [] w.1)
ask_front p (Ask r ∷ line) rest (a ∷ as') w = (w.0, λ f. ask_front p line rest as' (w.1 f))

well_ticks : (p : CheckedTree) (n : ℕ) (r : Request) (more : List Item) (rest : List Answer) → AskWell p ((ticks_of n ++ Ask r ∷ []) ++ more) rest → FitsText p r
well_ticks p zero r more [] w = w.0
well_ticks p zero r more (a ∷ rest) w = w.0
well_ticks p (suc n) r more rest w = well_ticks p n r more rest w

pub well_at : (p : CheckedTree) (line : List Item) (n : ℕ) (r : Request) (more : List Item) (as' rest : List Answer) → AskWell p (line ++ ((ticks_of n ++ Ask r ∷ []) ++ more)) (as' ++ rest) → IsOpenWith p line as' None → FitsText p r
well_at p [] n r more as' rest w h = well_ticks p n r more rest (subst (λ (xs : List Answer). AskWell p ((ticks_of n ++ Ask r ∷ []) ++ more) (xs ++ rest)) h.0 w)
well_at p (Tick ∷ line) n r more as' rest w h = well_at p line n r more as' rest w h
well_at p (Ask q ∷ line) n r more [] rest w h = absurd (let e : None ≡ Some q = h.1 in let f : ⊥ = cc in f)
well_at p (Ask q ∷ line) n r more (a ∷ as') rest w h = well_at p line n r more as' rest (w.1 h.0) h.1

-- one that was made was born
made_birth : (w : World) (before : List Event) → Births w before → (who : ℕ) → 1 ≤ who → who < length w.phases → (birth : Birth) × (born_of who before ≡ Some birth)
made_birth w before b zero some low = absurd (let f : ⊥ = omega (arith, some) in f)
made_birth w before b (suc zero) some low = (record { process = 0; arguments = [] }, refl)
made_birth w before b (suc (suc i)) some low =
    let pl = b.processes in
    let al = b.arguments in
    let at : slice_get w.processes (suc (suc i)) ≡ Some (get_or w.processes (suc (suc i)) 0) = slice_get-get_or w.processes (suc (suc i)) 0 (omega (arith, low, pl)) in
    let args : slice_get w.arguments (suc (suc i)) ≡ Some (get_or w.arguments (suc (suc i)) []) = slice_get-get_or w.arguments (suc (suc i)) [] (omega (arith, low, al)) in (
      record { process = get_or w.processes (suc (suc i)) 0; arguments = get_or w.arguments (suc (suc i)) [] },
      b.births (suc (suc i)) (omega arith) ∙ (ap (λ (o : Option ℕ). birth_in o (slice_get w.arguments (suc (suc i)))) at ∙ ap (λ (o : Option (List ℤ)). birth_in (Some (get_or w.processes (suc (suc i)) 0)) o) args),
    )

first_keeps : (xs ys : List Birth) (birth : Birth) → first_birth xs ≡ Some birth → first_birth (xs ++ ys) ≡ Some birth
first_keeps [] ys birth e = absurd (let f : ⊥ = cc in f)
first_keeps (x ∷ xs) ys birth e = e

pub born_more : (before more : List Event) (who : ℕ) (birth : Birth) → born_of who before ≡ Some birth → born_of who (before ++ more) ≡ Some birth
born_more before more zero birth e = ap first_birth (flat_map-append (births_by 0) before more) ∙ first_keeps (flat_map (births_by 0) before) (flat_map (births_by 0) more) birth e
born_more before more (suc zero) birth e = e
born_more before more (suc (suc i)) birth e = ap first_birth (flat_map-append (births_by (suc (suc i))) before more) ∙ first_keeps (flat_map (births_by (suc (suc i))) before) (flat_map (births_by (suc (suc i))) more) birth e

-- an active instance was born, before and in the whole journal
pub active_birth : (facts : Facts) (before behind final : List Event) (event : Event) (who : ℕ) → IsSound facts → final ≡ before ++ event ∷ behind → IsRun facts final → IsActive (world_of facts before) who → (birth : Birth) × (born_of who before ≡ Some birth) × (born_of who final ≡ Some birth)
active_birth facts before behind final event who sound e run active =
    let run' : IsRun facts (before ++ event ∷ behind) = subst (IsRun facts) e run in
    let front : IsRun facts before = front_runs facts (opening facts) before (event ∷ behind) run' in
    let well : IsWell facts (world_of facts before) = run_well facts (opening facts) before front (opening_well facts sound) in
    let made = made_birth (world_of facts before) before (births_law facts before front) who (some_active (world_of facts before).phases who well.phases active) (slice_get_within (world_of facts before).phases who Active active) in
    (made.0, made.1, ap (born_of who) e ∙ born_more before (event ∷ behind) who made.0 made.1)

module _ (p : CheckedTree) (facts : Facts) (final : List Event) (sound : IsSound facts) (run : IsRun facts final) (lines : LinesAsk p final) where
  -- the request that an active process asks next
  next_fits : (before : List Event) (event : Event) (behind : List Event) (who ticks : ℕ) (request : Request) → final ≡ before ++ event ∷ behind → KeptSome p (world_of facts before) before → IsActive (world_of facts before) who → items_by who event ≡ ticks_of ticks ++ Ask request ∷ [] → FitsText p request
  next_fits before event behind who ticks request e k active items =
      let made = active_birth facts before behind final event who sound e run active in
      let w : AskWell p (line_of who final) (answers_of who final) = lines who made.0 made.2 (k.kept.births who made.0 made.1) in
      let line : line_of who final ≡ line_of who before ++ ((ticks_of ticks ++ Ask request ∷ []) ++ line_of who behind) =
      ap (line_of who) e ∙ (flat_map-append (items_by who) before (event ∷ behind) ∙ ap (λ (l : List Item). line_of who before ++ (l ++ line_of who behind)) items) in
      let answers : answers_of who final ≡ answers_of who before ++ (answers_by who event ++ answers_of who behind) =
      ap (answers_of who) e ∙ flat_map-append (answers_by who) before (event ∷ behind) in
      let none : k.opens who ≡ None = subst (PhaseFits p (k.opens who)) active (k.kept.phases who) in
      well_at p (line_of who before) ticks request (line_of who behind) (answers_of who before) (answers_by who event ++ answers_of who behind)
      (subst (λ (as' : List Answer). AskWell p (line_of who before ++ ((ticks_of ticks ++ Ask request ∷ []) ++ line_of who behind)) as') answers (subst (λ (l : List Item). AskWell p l (answers_of who final)) line w))
      (subst (λ (o : Option Request). IsOpenWith p (line_of who before) (answers_of who before) o) none (k.kept.lines who))

  good_lines : GoodEvents p facts final
  good_lines before (Did who ticks request answer refill) behind e k =
      let allowed = next_allowed facts before (Did who ticks request answer refill) behind (subst (IsRun facts) e run) in
      next_fits before (Did who ticks request answer refill) behind who ticks request e k allowed.possible.0.active (if_true (who == who) (ticks_of ticks ++ Ask request ∷ []) [] (eq-eqb who who refl))
  good_lines before (Waits who ticks request) behind e k =
      let allowed = next_allowed facts before (Waits who ticks request) behind (subst (IsRun facts) e run) in
      next_fits before (Waits who ticks request) behind who ticks request e k allowed.possible.0.active (if_true (who == who) (ticks_of ticks ++ Ask request ∷ []) [] (eq-eqb who who refl))
  good_lines before (Goes who answer) behind e k = tt
  good_lines before (Runs who ticks) behind e k = tt

-- ---- ranges

answer_in_range : (i : ℕ) (event : Event) → IsInRange event → All IsAnswerInRange (answers_by i event)
answer_in_range i (Did who ticks request answer refill) r = by_test (who == i)
  where
    by_test : (t : Bool) → All IsAnswerInRange (if t then answer ∷ [] else [])
    by_test true = All-cons IsAnswerInRange answer [] r.3 (All-nil IsAnswerInRange)
    by_test false = All-nil IsAnswerInRange
answer_in_range i (Waits who ticks request) r = All-nil IsAnswerInRange
answer_in_range i (Goes who answer) r = by_test (who == i)
  where
    by_test : (t : Bool) → All IsAnswerInRange (if t then answer ∷ [] else [])
    by_test true = All-cons IsAnswerInRange answer [] r.1 (All-nil IsAnswerInRange)
    by_test false = All-nil IsAnswerInRange
answer_in_range i (Runs who ticks) r = All-nil IsAnswerInRange

pub answers_in_range : (facts : Facts) (w : World) (events : List Event) (i : ℕ) → IsRunFrom facts w events → All IsAnswerInRange (answers_of i events)
answers_in_range facts w [] i run = All-nil IsAnswerInRange
answers_in_range facts w (event ∷ events) i run = All-append IsAnswerInRange (answers_by i event) (answers_of i events) (answer_in_range i event run.0.in_range) (answers_in_range facts (after facts w event) events i run.1)

-- an instance and its arguments are in range
abbrev BirthInRange : ℕ → Birth → Type 0
BirthInRange i birth = IsNumber i × AreScalars birth.arguments

event_birth_in_range : (i : ℕ) (event : Event) (birth : Birth) → IsInRange event → first_birth (births_by i event) ≡ Some birth → BirthInRange i birth
event_birth_in_range i (Did who ticks (Start process zs) (Instance j) refill) birth r e = made_by (j == i) refl e
  where
    made_by : (t : Bool) → (j == i) ≡ t → first_birth (if t then record { process = process; arguments = zs } ∷ [] else []) ≡ Some birth → BirthInRange i birth
    made_by true u e =
        let is : record { process = process; arguments = zs } ≡ birth = cc in
        let same : j ≡ i = eqb-true j i u in
        (subst IsNumber same r.3, subst (λ (b : Birth). AreScalars b.arguments) is r.2.1)
    made_by false u e = absurd (let no : ⊥ = cc in no)
event_birth_in_range i event birth r e = absurd (let no : ⊥ = cc in no)

started_in_range : (facts : Facts) (w : World) (events : List Event) (i : ℕ) (birth : Birth) → IsRunFrom facts w events → started_as i events ≡ Some birth → BirthInRange i birth
started_in_range facts w [] i birth run e = absurd (let no : ⊥ = cc in no)
started_in_range facts w (event ∷ events) i birth run e = elim (first_in (births_by i event) (flat_map (births_by i) events) birth e) [
  | inl here ↦ event_birth_in_range i event birth run.0.in_range here
  | inr there ↦ started_in_range facts (after facts w event) events i birth run.1 there
]

pub born_in_range : (facts : Facts) (w : World) (events : List Event) (i : ℕ) (birth : Birth) → IsRunFrom facts w events → born_of i events ≡ Some birth → IsNumber i × AreScalars birth.arguments
born_in_range facts w events zero birth run e = started_in_range facts w events 0 birth run e
born_in_range facts w events (suc zero) birth run e =
    let is : record { process = 0; arguments = [] } ≡ birth = cc in
    (omega arith, subst (λ (b : Birth). AreScalars b.arguments) is (All-nil IsScalar))
born_in_range facts w events (suc (suc i)) birth run e = started_in_range facts w events (suc (suc i)) birth run e

-- ---- runs of the text

pub types_of : (facts : Facts) (events : List Event) (who : ℕ) (birth : Birth) → IsRun facts events → born_of who events ≡ Some birth → AreOfTypes who birth.arguments (answers_of who events)
types_of facts events who birth run born =
    let r = born_in_range facts (opening facts) events who birth run born in
    record { who = r.0; arguments = r.1; given = answers_in_range facts (opening facts) events who run }

-- where each instance that was born as it should follows the text, its line asks what fits
lines_follow : (p : CheckedTree) (facts : Facts) (events : List Event) → IsTyped p → IsRun facts events → ((who : ℕ) (birth : Birth) → born_of who events ≡ Some birth → IsBirth p birth.process birth.arguments → FollowsText p events who birth) → LinesAsk p events
lines_follow p facts events typed run follows who birth born fits =
    let f = follows who birth born fits in
    let trace : List Item = (talk_in_journal p events who birth).trace in
    let w : AskWell p trace (answers_of who events) = talk_asks p who birth.process birth.arguments (answers_of who events) (suc (ticks_in (line_of who events))) fits.0 typed (types_of facts events who birth run born) fits.1 fits.2 in
    ask_front p (line_of who events) f.0 (answers_of who events) (subst (λ (t : List Item). AskWell p t (answers_of who events)) f.1 w)

pub run_kept : (p : CheckedTree) (facts : Facts) (events : List Event) → AreTypedFacts p facts → IsRun facts events → ((who : ℕ) (birth : Birth) → born_of who events ≡ Some birth → IsBirth p birth.process birth.arguments → FollowsText p events who birth) → KeptSome p (world_of facts events) events
run_kept p facts events t run follows =
    all_kept p facts events t run (good_lines p facts events (facts_are_sound p facts t) run (lines_follow p facts events t.typed run follows))

-- where what an instance did begins its talk, its answers fit, whatever ticks are left
fits_front : (p : CheckedTree) (front rest : List Item) (as' : List Answer) → HasFittingAnswers p (front ++ rest) as' → HasFittingAnswers p front as'
fits_front p [] rest as' h = tt
fits_front p (Tick ∷ front) rest as' h = fits_front p front rest as' h
fits_front p (Ask q ∷ front) rest [] h = tt
fits_front p (Ask q ∷ front) rest (a ∷ as') h = (h.0, fits_front p front rest as' h.1)

open_fits : (p : CheckedTree) (line rest : List Item) (as' : List Answer) (o : Option Request) → IsOpenWith p line as' o → HasFittingAnswers p (line ++ rest) as'
open_fits p [] rest as' o h = subst (HasFittingAnswers p rest) (sym h.0) (no_answers_fit p rest)
open_fits p (Tick ∷ line) rest as' o h = open_fits p line rest as' o h
open_fits p (Ask q ∷ line) rest [] o h = tt
open_fits p (Ask q ∷ line) rest (a ∷ as') o h = (h.0, open_fits p line rest as' o h.1)

-- the same talk with no more answers
more_ticks : (p : CheckedTree) (who process : ℕ) (zs : List ℤ) (as' : List Answer) (n m : ℕ) → 1 ≤ m → n ≤ m → Begins (talk p who process zs as' n).trace (talk p who process zs as' m).trace
more_ticks p who process zs as' n m some low = subst (λ (bs : List Answer). Begins (talk p who process zs as' n).trace (talk p who process zs bs m).trace) (append-nil as') (talk_grows p who process zs as' [] n m some low)

pub all_answered : (p : CheckedTree) (who process : ℕ) (zs : List ℤ) (line : List Item) (as' : List Answer) (o : Option Request) (n : ℕ) → 1 ≤ n → IsOpenWith p line as' o → Begins line (talk p who process zs as' n).trace → (m : ℕ) → HasFittingAnswers p (talk p who process zs as' m).trace as'
all_answered p who process zs line as' o n some h begins m = elim (cases_lt m n) [
  | inl low ↦ (
      let more = more_ticks p who process zs as' m n some (omega (arith, low)) in
      let whole : HasFittingAnswers p (talk p who process zs as' n).trace as' = subst (λ (t : List Item). HasFittingAnswers p t as') (sym begins.1) (open_fits p line begins.0 as' o h) in
      fits_front p (talk p who process zs as' m).trace more.0 as' (subst (λ (t : List Item). HasFittingAnswers p t as') more.1 whole))
  | inr high ↦ (
      let on = begins_on line (talk p who process zs as' n).trace (talk p who process zs as' m).trace begins (more_ticks p who process zs as' n m (omega (arith, some, high)) high) in
      subst (λ (t : List Item). HasFittingAnswers p t as') (sym on.1) (open_fits p line on.0 as' o h))
]

-- an instance of a run whose line begins its talk fits
pub instance_fits : (p : CheckedTree) (facts : Facts) (events : List Event) (who : ℕ) (birth : Birth) (k : KeptSome p (world_of facts events) events) (n : ℕ) → 1 ≤ n → AreOfTypes who birth.arguments (answers_of who events) → IsBirth p birth.process birth.arguments
    → Begins (line_of who events) (talk p who birth.process birth.arguments (answers_of who events) n).trace → IsFitting p who birth.process birth.arguments (answers_of who events)
instance_fits p facts events who birth k n some types b begins = record {
  in_range = types;
  body = b.0;
  is_body = b.1;
  fits = b.2;
  answered = all_answered p who birth.process birth.arguments (line_of who events) (answers_of who events) (k.opens who) n some (k.kept.lines who) begins;
}

pub source_kept : (p : CheckedTree) (facts : Facts) (events : List Event) → IsTextRun p facts events → KeptSome p (world_of facts events) events
source_kept p facts events r = run_kept p facts events r.typed r.run.run (λ who birth born fits. r.run.follows who birth born)

pub source_fits : (p : CheckedTree) (facts : Facts) (events : List Event) (who : ℕ) (birth : Birth) → IsTextRun p facts events → born_of who events ≡ Some birth → IsFitting p who birth.process birth.arguments (answers_of who events)
source_fits p facts events who birth r born =
    let k = source_kept p facts events r in
    instance_fits p facts events who birth k (suc (ticks_in (line_of who events))) (omega arith) (types_of facts events who birth r.run.run born) (k.kept.births who birth born) (r.run.follows who birth born)

pub run_fits : RunFitsLaw
run_fits = record {
  keeps = λ p facts events r. keeps_values p facts events (source_kept p facts events r);
  fits = source_fits;
  asks = λ p facts events who birth n r born. asks_fit.all p who birth.process birth.arguments (answers_of who events) n r.typed.typed (source_fits p facts events who birth r born);
}
