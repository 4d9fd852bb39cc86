-- A code that has the text's talks where answers fit suits the facts of the text.
use Rattle.std.proofs.Common.{◌≡◌, ◌≤◌, ◌+◌, ℕ, suc, Bool, true, false, List, [], ◌∷◌, ◌++◌, ℤ, length, refl, sym, ap, ◌∙◌, subst, inl, inr, arith, append-nil, append_assoc, length-append, Option, Some, None, slice_get}
use Rattle.std.specs.Prelude.{if◌then◌else◌, ◌==◌, ◌&&◌, IsTrue, IsSomeAnd}
use Rattle.std.proofs.lemmas.Bool.{cases_Bool, eqb-true}
use Rattle.kernel_base.specs.declared.facts.Facts.{Facts}
use Rattle.kernel_base.specs.declared.request.Request.{Request}
use Rattle.kernel_base.specs.declared.request.Request.TheVariants.{End}
use Rattle.kernel_base.specs.declared.answer.Answer.{Answer}
use Rattle.kernel_base.specs.declared.answer.Answer.TheVariants.{Done}
use Rattle.kernel_base.specs.declared.event.Event.{Event}
use Rattle.world_model.specs.Session.{Item, Tick, Ask, session_of}
use Rattle.world_model.specs.Journal.{ticks_of, line_of, answers_by, answers_of, Birth, born_of}
use Rattle.program_trees.specs.ProgramTree.{CheckedTree}
use Rattle.code_types.specs.declared.code.BodyRow.{BodyRow}
use Rattle.code_types.specs.declared.code.Code.{Code}
use Rattle.code_types.specs.Answers.{gives, fills_slot, answered}
use Rattle.code_types.specs.State.{Slot, State, Mode, Asking}
use Rattle.code_types.specs.Steps.{At, Over, move_in, run_after, step, steps}
use Rattle.code_types.specs.Talk.{Reaches, TalkFrom, CodeTalk, start_in, start_of}
use Rattle.code_types.specs.Runs.{Begins, IsCodeRun, ticks_in, RequestsFit, BirthsFit, AnswersFit}
use Rattle.code_types.proofs.ManySteps.{steps-+, one_talk}
use Rattle.run_laws.proofs.Retiming.{retimed, reached_law}
use Rattle.run_laws.proofs.OpenRegions.{asks_in}
use Rattle.source_meaning.specs.Talk.{talk}
use Rattle.source_meaning.specs.Fitting.{FitsAnswer, HasFittingAnswers, IsFitting}
use Rattle.text_laws.specs.Requests.{FitsText, AskWell}
use Rattle.text_laws.specs.Journals.{IsOpenWith, PhaseFits}
use Rattle.text_laws.specs.Laws.{AreTypedFacts, IsTextRun, HasFittingTalks, SuitsLaw}
use Rattle.text_laws.proofs.Traces.{asks_ask}
use Rattle.text_laws.proofs.InRange.{fits_facts}
use Rattle.text_laws.proofs.Stages.{StopsFor, want_of_answer, want_of_ticks, its_end}
use Rattle.text_laws.proofs.TalkAsks.{talk_asks, talk_rests}
use Rattle.text_laws.proofs.FewerAnswers.{asking_counts}
use Rattle.text_laws.proofs.Journals.{answers_on}
use Rattle.text_laws.proofs.JournalLaws.{born_more, well_at, source_kept, source_fits}
use Rattle.text_laws.proofs.CodeJournals.{code_source}

-- ---- bodies

-- a talk that stops for a reason tells something
tells_some : (answers : List Answer) (n : ℕ) → 1 ≤ n → StopsFor answers n [] → ⊥
tells_some answers n some (want_of_answer e) = let f : ⊥ = omega (arith, e) in f
tells_some answers n some (want_of_ticks low) = let f : ⊥ = omega (arith, some, low) in f
tells_some answers n some (its_end [] how e) = let f : ⊥ = cc in f
tells_some answers n some (its_end (x ∷ front) how e) = let f : ⊥ = cc in f

-- where something is told, an instance has started
has_started : (code : Code) (o : Option State) (answers : List Answer) (n : ℕ) (trace : List Item) → 1 ≤ n → StopsFor answers n trace → TalkFrom code o answers n trace → o ≡ None → ⊥
has_started code o answers n trace some rests talks none = tells_some answers n some (subst (StopsFor answers n) (subst (λ (s : Option State). TalkFrom code s answers n trace) none talks) rests)

body_is : (instance process : ℕ) (zs : List ℤ) (o : Option BodyRow) → (start_in instance process zs o ≡ None → ⊥) → IsSomeAnd o (λ row. row.params ≡ length zs)
body_is instance process zs None some = absurd (some refl)
body_is instance process zs (Some row) some = elim (cases_Bool (row.params == length zs)) [
  | inl same ↦ eqb-true row.params (length zs) same
  | inr other ↦ absurd (some (rw other refl))
]

-- ---- answers

last_fits : (p : CheckedTree) (front : List Item) (request : Request) (answers : List Answer) (a : Answer) → length (asks_in front) ≡ length answers → HasFittingAnswers p (front ++ Ask request ∷ []) (answers ++ a ∷ []) → FitsAnswer p request a
last_fits p [] request [] a counted h = h.0
last_fits p [] request (b ∷ answers) a counted h = absurd (let f : ⊥ = omega (arith, counted) in f)
last_fits p (Tick ∷ front) request answers a counted h = last_fits p front request answers a counted h
last_fits p (Ask other ∷ front) request [] a counted h = absurd (let f : ⊥ = omega (arith, counted) in f)
last_fits p (Ask other ∷ front) request (b ∷ answers) a counted h = last_fits p front request answers a (omega (arith, counted)) h.1

-- an answer that doesn't fill its slot ends the run at its request
stops_there : (code : Code) (state : State) (request : Request) (slots : List Slot) (answer : Answer) (trace : List Item) (ticks : ℕ) → state.mode ≡ Asking request slots → fills_slot slots answer ≡ false → step code (At state (record { trace = trace; answers = answer ∷ []; ticks = ticks })) ≡ Over state trace
stops_there code state request slots answer trace ticks asking empty =
    ap (λ (m : Mode). run_after state (record { trace = trace; answers = answer ∷ []; ticks = ticks }) (move_in code state m state.frames)) asking
    ∙ unfilled (gives request answer) (fills_slot slots answer) empty
  where
    unfilled : (given full : Bool) → full ≡ false → (if given && full then At (answered state request slots answer) (record { trace = trace; answers = []; ticks = ticks }) else Over state trace) ≡ Over state trace
    unfilled true full e = rw e refl
    unfilled false full e = refl

-- so the talk with it is what was done so far
talk_stops : (code : Code) (instance process : ℕ) (zs : List ℤ) (answers : List Answer) (trace : List Item) (state : State) (request : Request) (slots : List Slot) (answer : Answer) → Reaches code instance process zs answers trace state → state.mode ≡ Asking request slots → fills_slot slots answer ≡ false
    → CodeTalk code instance process zs (answers ++ answer ∷ []) (suc (ticks_in trace)) trace
talk_stops code instance process zs answers trace state request slots answer reaches asking empty =
    let leads = reaches.leads in
    let t = retimed code leads.count reaches.start (session_of answers leads.ticks) state (record { trace = trace; answers = []; ticks = leads.left }) leads.by in
    let made = t.counted in
    let n : 1 + t.made ≡ suc (ticks_in trace) = omega (arith, made) in
    let by : steps code (leads.count + 1) (At reaches.start (session_of (answers ++ answer ∷ []) (1 + t.made))) ≡ Over state trace =
    steps-+ code leads.count 1 (At reaches.start (session_of (answers ++ answer ∷ []) (1 + t.made))) ∙ (ap (steps code 1) (t.again (answer ∷ []) 1 (omega arith)) ∙ stops_there code state request slots answer trace 1 asking empty) in
    subst (λ (k : ℕ). CodeTalk code instance process zs (answers ++ answer ∷ []) k trace) n
    (subst (λ (o : Option State). TalkFrom code o (answers ++ answer ∷ []) (1 + t.made) trace) (sym reaches.starts) (record { count = leads.count + 1; stands = state; by = by }))

-- but a talk whose answers fit doesn't stop there
never_stops_there : (p : CheckedTree) (answers : List Answer) (answer : Answer) (slots : List Slot) (trace : List Item) → length (asks_in trace) ≡ length answers + 1 → fills_slot slots answer ≡ false → HasFittingAnswers p trace (answers ++ answer ∷ []) → StopsFor (answers ++ answer ∷ []) (suc (ticks_in trace)) trace → ⊥
never_stops_there p answers answer slots trace counted empty fits (want_of_answer e) =
    let n = length-append answers (answer ∷ []) in
    let f : ⊥ = omega (arith, e, counted, n) in
    f
never_stops_there p answers answer slots trace counted empty fits (want_of_ticks low) = let f : ⊥ = omega (arith, low) in f
never_stops_there p answers answer slots trace counted empty fits (its_end front how e) =
    let more = asks_ask front (End how) in
    let whole = ap (λ (l : List Item). length (asks_in l)) e in
    let last : FitsAnswer p (End how) answer = last_fits p front (End how) answers answer (omega (arith, counted, more, whole)) (subst (λ (l : List Item). HasFittingAnswers p l (answers ++ answer ∷ [])) e fits) in
    let is : answer ≡ Done = last.gives in
    let full : fills_slot slots Done ≡ false = subst (λ (a : Answer). fills_slot slots a ≡ false) is empty in
    let f : ⊥ = cc in
    f

module _ (p : CheckedTree) (code : Code) (facts : Facts) (typed : AreTypedFacts p facts) (has : HasFittingTalks p code) where
  text_run : (events : List Event) → IsCodeRun code facts events → IsTextRun p facts events
  text_run events r = record { typed = typed; run = code_source p code facts typed has events r }

  requests_fit : RequestsFit code facts
  requests_fit events who birth ticks request state r active born reaches =
      let t = text_run events r in
      let k = source_kept p facts events t in
      let fits = source_fits p facts events who birth t born in
      let line : List Item = line_of who events in
      let answers : List Answer = answers_of who events in
      let now : List Item = ticks_of ticks ++ Ask request ∷ [] in
      let n : ℕ = suc (ticks_in (line ++ now)) in
      let whole : List Item = (talk p who birth.process birth.arguments answers n).trace in
      let talks : CodeTalk code who birth.process birth.arguments answers n whole = has who birth.process birth.arguments answers n (omega arith) fits in
      let more : CodeTalk code who birth.process birth.arguments (answers ++ []) n whole = subst (λ (as' : List Answer). CodeTalk code who birth.process birth.arguments as' n whole) (sym (append-nil answers)) talks in
      let begins : Begins (line ++ now) whole = reached_law code who birth.process birth.arguments answers [] n (line ++ now) whole state reaches more (omega arith) in
      let w : AskWell p whole answers = talk_asks p who birth.process birth.arguments answers n fits.body typed.typed fits.in_range fits.is_body fits.fits in
      let parts : AskWell p (line ++ (now ++ begins.0)) answers = subst (λ (l : List Item). AskWell p l answers) (append_assoc line now begins.0) (subst (λ (l : List Item). AskWell p l answers) begins.1 w) in
      let none : k.opens who ≡ None = subst (PhaseFits p (k.opens who)) active (k.kept.phases who) in
      let asked : FitsText p request = well_at p line ticks request begins.0 answers [] (subst (λ (as' : List Answer). AskWell p (line ++ (now ++ begins.0)) as') (sym (append-nil answers)) parts) (subst (λ (o : Option Request). IsOpenWith p line answers o) none (k.kept.lines who)) in
      fits_facts p typed.input typed.units facts request typed.typed typed.are asked

  births_fit : BirthsFit code facts
  births_fit events who birth r born =
      let fits = source_fits p facts events who birth (text_run events r) born in
      let answers : List Answer = answers_of who events in
      let rests = talk_rests p who birth.process birth.arguments answers 1 typed.typed (omega arith) fits in
      let talks = has who birth.process birth.arguments answers 1 (omega arith) fits in
      body_is who birth.process birth.arguments (slice_get code.bodies birth.process)
      (has_started code (start_of code who birth.process birth.arguments) answers 1 (talk p who birth.process birth.arguments answers 1).trace (omega arith) rests talks)

  -- an answer that doesn't fill its slot comes in no run
  none_empty : (events : List Event) (event : Event) (who : ℕ) (birth : Birth) (answer : Answer) (request : Request) (slots : List Slot) (state : State) → IsCodeRun code facts (events ++ event ∷ []) → born_of who events ≡ Some birth → answers_by who event ≡ answer ∷ []
      → Reaches code who birth.process birth.arguments (answers_of who events) (line_of who (events ++ event ∷ [])) state → state.mode ≡ Asking request slots → fills_slot slots answer ≡ false → ⊥
  none_empty events event who birth answer request slots state r born given reaches asking empty =
      let all : List Event = events ++ event ∷ [] in
      let line : List Item = line_of who all in
      let answers : List Answer = answers_of who events ++ answer ∷ [] in
      let n : ℕ = suc (ticks_in line) in
      let fits : IsFitting p who birth.process birth.arguments answers =
      subst (IsFitting p who birth.process birth.arguments) (answers_on who events event (answer ∷ []) given) (source_fits p facts all who birth (text_run all r) (born_more events (event ∷ []) who birth born)) in
      let told : List Item = (talk p who birth.process birth.arguments answers n).trace in
      let same : told ≡ line = one_talk code who birth.process birth.arguments answers n told line (has who birth.process birth.arguments answers n (omega arith) fits)
      (talk_stops code who birth.process birth.arguments (answers_of who events) line state request slots answer reaches asking empty) in
      never_stops_there p (answers_of who events) answer slots line (asking_counts code who birth.process birth.arguments (answers_of who events) line state request slots reaches asking) empty
      (subst (λ (l : List Item). HasFittingAnswers p l answers) same (fits.answered n))
      (subst (λ (l : List Item). StopsFor answers n l) same (talk_rests p who birth.process birth.arguments answers n typed.typed (omega arith) fits))

  answers_fit : AnswersFit code facts
  answers_fit events event who birth answer request slots state r born given reaches asking = is_filled (fills_slot slots answer) (none_empty events event who birth answer request slots state r born given reaches asking)
    where
      is_filled : (b : Bool) → (b ≡ false → ⊥) → IsTrue b
      is_filled true some = refl
      is_filled false some = absurd (some refl)

pub suits : SuitsLaw
suits p code facts typed has = record {
  requests = requests_fit p code facts typed has;
  births = births_fit p code facts typed has;
  answers = answers_fit p code facts typed has;
}
