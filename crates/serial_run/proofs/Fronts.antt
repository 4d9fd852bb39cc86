-- Fronts of a journal that are runs of a code, once more was noted.
use Rattle.std.proofs.Common.{◌≡◌, ◌≢◌, ◌⊎◌, ℕ, zero, suc, ◌+◌, ◌≤◌, ◌<◌, List, [], ◌∷◌, ◌++◌, length, refl, sym, ap, ◌∙◌, subst, inl, inr, arith, append_assoc, append-nil, Option, Some, None}
use Rattle.std.specs.List.{AllByRecursion}
use Rattle.std.proofs.lemmas.Bool.{cases_eq, cases_lt}
use Rattle.std.proofs.lemmas.Option.{slice_get_cases}
use Rattle.kernel_base.specs.declared.facts.Facts.{Facts}
use Rattle.kernel_base.specs.declared.answer.Answer.{Answer}
use Rattle.kernel_base.specs.declared.event.Event.{Event}
use Rattle.kernel_base.specs.declared.event.Event.TheVariants.{Did, Waits, Goes, Runs}
use Rattle.world_model.specs.declared.world.World.{World}
use Rattle.world_model.specs.Session.{Item}
use Rattle.world_model.specs.World.{opening, world_of}
use Rattle.world_model.specs.Allowed.{IsRun}
use Rattle.world_model.specs.Journal.{line_of, answers_of, Birth, born_of}
use Rattle.world_model.specs.Laws.{IsDoneBy}
use Rattle.world_model.proofs.RunParts.{front_runs}
use Rattle.code_types.specs.declared.code.Code.{Code}
use Rattle.code_types.specs.Talk.{CodeTalk}
use Rattle.code_types.specs.Runs.{Begins, FollowsCode, IsCodeRun, ticks_in}
use Rattle.code_safety.proofs.TalkPrefixes.{talk_prefix}
use Rattle.run_laws.specs.Laws.{Births, HasReached, HasTalks}
use Rattle.run_laws.proofs.Births.{births_law}
use Rattle.run_laws.proofs.Following.{follows_law}
use Rattle.kernel_steps.specs.View.{IsGoing}
use Rattle.serial_run.specs.Coming.{EachFrontFollows}
use Rattle.serial_run.proofs.Coming.{line_more, answers_more, born_more}
use Rattle.serial_run.proofs.Owing.{apart, goes_quiet}

-- an instance follows the code where its line begins a talk with its answers
follows_by : (code : Code) (events : List Event) (who : ℕ) (birth : Birth) (answers : List Answer) (line trace : List Item) → answers_of who events ≡ answers → line_of who events ≡ line
    → CodeTalk code who birth.process birth.arguments answers (suc (ticks_in line)) trace → Begins line trace → FollowsCode code events who birth
follows_by code events who birth answers line trace same_answers same_line talks begins = record {
  trace = trace;
  talks = subst (λ (l : List Item). CodeTalk code who birth.process birth.arguments (answers_of who events) (suc (ticks_in l)) trace) (sym same_line)
      (subst (λ (a : List Answer). CodeTalk code who birth.process birth.arguments a (suc (ticks_in line)) trace) (sym same_answers) talks);
  begins = subst (λ (l : List Item). Begins l trace) (sym same_line) begins;
}

-- an instance that did nothing follows the code
quiet_follows : (code : Code) (events : List Event) (who : ℕ) (birth : Birth) → HasTalks code → line_of who events ≡ [] → FollowsCode code events who birth
quiet_follows code events who birth has quiet =
    let talk = has who birth.process birth.arguments (answers_of who events) (suc (ticks_in [])) in
    follows_by code events who birth (answers_of who events) [] talk.0 refl quiet talk.1 (talk.0, refl)

quiet_line : (who : ℕ) (events more : List Event) → line_of who more ≡ [] → line_of who (events ++ more) ≡ line_of who events
quiet_line who events more quiet = line_more who events more ∙ (ap (λ (t : List Item). line_of who events ++ t) quiet ∙ append-nil (line_of who events))

-- one that did nothing more follows the code as before, whatever it is answered
answered_follows : (code : Code) (events more : List Event) (who : ℕ) (birth : Birth) → HasTalks code → line_of who more ≡ [] → FollowsCode code events who birth → FollowsCode code (events ++ more) who birth
answered_follows code events more who birth has quiet f =
    let n : ℕ = suc (ticks_in (line_of who events)) in
    let answers : List Answer = answers_of who events ++ answers_of who more in
    let talk = has who birth.process birth.arguments answers n in
    let same : n ≡ n + 0 = omega arith in
    let on : Begins f.trace talk.0 = talk_prefix code who birth.process birth.arguments (answers_of who events) (answers_of who more) n 0 f.trace talk.0 f.talks
    (subst (λ (k : ℕ). CodeTalk code who birth.process birth.arguments answers k talk.0) same talk.1) in
    let begins : Begins (line_of who events) talk.0 = (f.begins.0 ++ on.0, on.1 ∙ (ap (λ (t : List Item). t ++ on.0) f.begins.1 ∙ append_assoc (line_of who events) f.begins.0 on.0)) in
    follows_by code (events ++ more) who birth answers (line_of who events) talk.0 (answers_more who events more) (quiet_line who events more quiet) talk.1 begins

-- an instance that was made was born
pub made_born : (w : World) (events : List Event) (i : ℕ) → Births w events → 1 ≤ i → i < length w.phases → (birth : Birth) × (born_of i events ≡ Some birth)
made_born w events zero b some low = absurd (let f : ⊥ = omega (arith, some) in f)
made_born w events (suc zero) b some low = (record { process = 0; arguments = [] }, refl)
made_born w events (suc (suc i)) b some low = elim ((slice_get_cases w.processes (suc (suc i))).1) [
  | inl (process, inside, at, item) ↦ elim ((slice_get_cases w.arguments (suc (suc i))).1) [
    | inl (arguments, within, there, found) ↦ (record { process = process; arguments = arguments }, b.births (suc (suc i)) (omega arith) ∙ rw (at, there) refl)
    | inr (past, none) ↦ absurd (let n = b.arguments in let f : ⊥ = omega (arith, n, past, low) in f)
  ]
  | inr (past, none) ↦ absurd (let n = b.processes in let f : ⊥ = omega (arith, n, past, low) in f)
]

-- who was born was made
pub born_made : (w : World) (events : List Event) (i : ℕ) (birth : Birth) → Births w events → born_of i events ≡ Some birth → (1 ≤ i) × (i < length w.phases)
born_made w events zero birth b born = absurd (let none : None ≡ Some birth = sym b.nobody ∙ born in let f : ⊥ = cc in f)
born_made w events (suc zero) birth b born = let some = b.some in (omega arith, omega (arith, some))
born_made w events (suc (suc i)) birth b born = elim ((slice_get_cases w.processes (suc (suc i))).1) [
  | inl (process, inside, at, item) ↦ (omega arith, let n = b.processes in omega (arith, n, inside))
  | inr (past, none) ↦ absurd (let e : None ≡ Some birth = sym (b.births (suc (suc i)) (omega arith) ∙ rw none refl) ∙ born in let f : ⊥ = cc in f)
]

-- one that wasn't born did nothing
unborn_quiet : (facts : Facts) (events : List Event) (i : ℕ) → IsRun facts events → 1 ≤ i → born_of i events ≡ None → line_of i events ≡ []
unborn_quiet facts events i run some none =
    let b = births_law facts events run in
    elim (cases_lt i (length (world_of facts events).phases)) [
      | inl low ↦ (let born = made_born (world_of facts events) events i b some low in absurd (let both : None ≡ Some born.0 = sym none ∙ born.1 in let f : ⊥ = cc in f))
      | inr past ↦ (b.quiet i past).0
    ]

-- A journal with more is a run of the code where each instance that was born follows it, and the others did nothing more.
more_runs : (code : Code) (facts : Facts) (events more : List Event) → HasTalks code → IsRun facts events → IsRun facts (events ++ more)
    → ((who : ℕ) (birth : Birth) → born_of who events ≡ Some birth → FollowsCode code (events ++ more) who birth)
    → ((who : ℕ) → born_of who events ≡ None → line_of who more ≡ [])
    → IsCodeRun code facts (events ++ more)
more_runs code facts events more has before run each others = record { run = run; follows = λ who birth born. by_birth who birth (born_of who events) refl born }
  where
    by_birth : (who : ℕ) (birth : Birth) (o : Option Birth) → born_of who events ≡ o → born_of who (events ++ more) ≡ Some birth → FollowsCode code (events ++ more) who birth
    by_birth who birth (Some old) is born =
        let both : Some old ≡ Some birth = sym (born_more who events more old is) ∙ born in
        let same : old ≡ birth = cc in
        subst (λ (b : Birth). FollowsCode code (events ++ more) who b) same (each who old is)
    by_birth who birth None is born =
        let some = (born_made (world_of facts (events ++ more)) (events ++ more) who birth (births_law facts (events ++ more) run) born).0 in
        quiet_follows code (events ++ more) who birth has (quiet_line who events more (others who is) ∙ unborn_quiet facts events who before some is)

-- goings on leave a run of the code a run of the code
goes_run : (code : Code) (facts : Facts) (events goes : List Event) → HasTalks code → AllByRecursion IsGoing goes → IsRun facts (events ++ goes) → IsCodeRun code facts events → IsCodeRun code facts (events ++ goes)
goes_run code facts events goes has only run r = more_runs code facts events goes has r.run run
    (λ who birth born. answered_follows code events goes who birth has (goes_quiet who goes only) (r.follows who birth born)) (λ who none. goes_quiet who goes only)

other_quiet : (i who : ℕ) (event : Event) → IsDoneBy who event → who ≢ i → line_of i (event ∷ []) ≡ []
other_quiet i who (Did by ticks request answer refill) is other = let test = apart by i (λ e. other (sym is ∙ e)) in rw test refl
other_quiet i who (Waits by ticks request) is other = let test = apart by i (λ e. other (sym is ∙ e)) in rw test refl
other_quiet i who (Goes by answer) is other = absurd is
other_quiet i who (Runs by ticks) is other = let test = apart by i (λ e. other (sym is ∙ e)) in rw test refl

-- so does an event of an instance that reaches it
pub event_run : (code : Code) (facts : Facts) (events : List Event) (event : Event) (who : ℕ) (birth : Birth) → HasTalks code → IsDoneBy who event → born_of who events ≡ Some birth → HasReached code (events ++ event ∷ []) who
    → IsRun facts (events ++ event ∷ []) → IsCodeRun code facts events → IsCodeRun code facts (events ++ event ∷ [])
event_run code facts events event who birth has by born h run r = more_runs code facts events (event ∷ []) has r.run run each others
  where
    each : (i : ℕ) (its : Birth) → born_of i events ≡ Some its → FollowsCode code (events ++ event ∷ []) i its
    each i its is = elim (cases_eq who i) [
      | inl mine ↦ (
          let here : born_of who events ≡ Some its = subst (λ (k : ℕ). born_of k events ≡ Some its) (sym mine) is in
          let both : Some h.birth ≡ Some its = sym h.born ∙ born_more who events (event ∷ []) its here in
          let same : h.birth ≡ its = cc in
          subst (λ (k : ℕ). FollowsCode code (events ++ event ∷ []) k its) mine
          (subst (λ (b : Birth). FollowsCode code (events ++ event ∷ []) who b) same (follows_law code (events ++ event ∷ []) who h.birth h.given h.behind h.state has h.answers h.reached)))
      | inr other ↦ answered_follows code events (event ∷ []) i its has (other_quiet i who event by other) (r.follows i its is)
    ]

    others : (i : ℕ) → born_of i events ≡ None → line_of i (event ∷ []) ≡ []
    others i none = elim (cases_eq who i) [
      | inl mine ↦ absurd (let both : None ≡ Some birth = sym none ∙ subst (λ (k : ℕ). born_of k events ≡ Some birth) mine born in let f : ⊥ = cc in f)
      | inr other ↦ other_quiet i who event by other
    ]

-- a front of a journal with more ends among the old events, or behind them
fronts : (old more before behind : List Event) → old ++ more ≡ before ++ behind
    → ((rest : List Event) × (old ≡ before ++ rest)) ⊎ ((front : List Event) × (before ≡ old ++ front) × (more ≡ front ++ behind))
fronts [] more before behind is = inr (before, refl, is)
fronts (o ∷ old) more [] behind is = inl (o ∷ old, refl)
fronts (o ∷ old) more (b ∷ before) behind is =
    let head : o ≡ b = cc in
    elim (fronts old more before behind (let e : old ++ more ≡ before ++ behind = cc in e)) [
      | inl (rest, same) ↦ inl (rest, ap (λ (x : Event). x ∷ old) head ∙ ap (λ (xs : List Event). b ∷ xs) same)
      | inr (front, same, left) ↦ inr (front, ap (λ (x : Event). x ∷ before) (sym head) ∙ ap (λ (xs : List Event). o ∷ xs) same, left)
    ]

all_front : (front behind : List Event) → AllByRecursion IsGoing (front ++ behind) → AllByRecursion IsGoing front
all_front [] behind all = tt
all_front (event ∷ front) behind all = (all.0, all_front front behind all.1)

-- a front that ends behind the event
front_run : (code : Code) (facts : Facts) (old : List Event) (event : Event) (front behind goes : List Event) → HasTalks code → goes ≡ front ++ behind → AllByRecursion IsGoing goes
    → IsRun facts (old ++ event ∷ goes) → IsCodeRun code facts (old ++ event ∷ []) → IsCodeRun code facts (old ++ event ∷ front)
front_run code facts old event front behind goes has is only run r =
    let whole : IsRun facts (old ++ event ∷ (front ++ behind)) = subst (λ (xs : List Event). IsRun facts (old ++ event ∷ xs)) is run in
    let longer : IsRun facts (old ++ event ∷ front) = front_runs facts (opening facts) (old ++ event ∷ front) behind (subst (IsRun facts) (sym (append_assoc old (event ∷ front) behind)) whole) in
    let same : (old ++ event ∷ []) ++ front ≡ old ++ event ∷ front = append_assoc old (event ∷ []) front in
    subst (IsCodeRun code facts) same (goes_run code facts (old ++ event ∷ []) front has (all_front front behind (subst (AllByRecursion IsGoing) is only)) (subst (IsRun facts) (sym same) longer) r)

-- each front follows the code, once an event of an instance that reaches it was noted, with goings on behind
pub follow_more : (code : Code) (facts : Facts) (old : List Event) (event : Event) (goes : List Event) (who : ℕ) (birth : Birth) → HasTalks code → EachFrontFollows code facts old
    → IsDoneBy who event → born_of who old ≡ Some birth → HasReached code (old ++ event ∷ []) who → AllByRecursion IsGoing goes → IsRun facts (old ++ event ∷ goes)
    → EachFrontFollows code facts (old ++ event ∷ goes)
follow_more code facts old event goes who birth has led by born h only run before behind is = elim (fronts old (event ∷ goes) before behind is) [
  | inl (rest, same) ↦ led before rest same
  | inr (front, same, left) ↦ subst (IsCodeRun code facts) (sym same) (by_front front left)
]
  where
    all : IsCodeRun code facts old
    all = led old [] (sym (append-nil old))

    one : IsCodeRun code facts (old ++ event ∷ [])
    one = event_run code facts old event who birth has by born h (front_runs facts (opening facts) (old ++ event ∷ []) goes (subst (IsRun facts) (sym (append_assoc old (event ∷ []) goes)) run)) all

    by_front : (front : List Event) → event ∷ goes ≡ front ++ behind → IsCodeRun code facts (old ++ front)
    by_front [] left = subst (IsCodeRun code facts) (sym (append-nil old)) all
    by_front (f ∷ front) left =
        let same : event ≡ f = cc in
        let rest : goes ≡ front ++ behind = cc in
        subst (λ (e : Event). IsCodeRun code facts (old ++ e ∷ front)) same (front_run code facts old event front behind goes has rest only run one)

-- the journal without events is a run of each code
pub follow_none : (code : Code) (facts : Facts) → HasTalks code → EachFrontFollows code facts []
follow_none code facts has [] behind is = record { run = tt; follows = λ who birth born. quiet_follows code [] who birth has refl }
follow_none code facts has (event ∷ before) behind is = absurd (let f : ⊥ = cc in f)
