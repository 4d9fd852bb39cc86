-- Runs of a code that has the text's talks where answers fit: event by event their answers fit, so they are runs of the text.
use Rattle.std.proofs.Common.{◌≡◌, ℕ, zero, suc, List, [], ◌∷◌, ◌++◌, length, refl, sym, ap, ◌∙◌, subst, inl, inr, arith, append-nil, append_assoc, eq-eqb, Option, Some, None}
use Rattle.std.specs.Prelude.{◌==◌}
use Rattle.std.proofs.lemmas.Bool.{cases_eq}
use Rattle.std.proofs.lemmas.List.Concat.{flat_map-append}
use Rattle.kernel_base.specs.declared.facts.Facts.{Facts}
use Rattle.kernel_base.specs.declared.request.Request.{Request}
use Rattle.kernel_base.specs.declared.answer.Answer.{Answer}
use Rattle.kernel_base.specs.declared.event.Event.{Event}
use Rattle.kernel_base.specs.declared.event.Event.TheVariants.{Did, Waits, Goes, Runs}
use Rattle.kernel_base.specs.Facts.{IsSound}
use Rattle.world_model.specs.declared.world.World.{World}
use Rattle.world_model.specs.Session.{Item, Tick, Ask}
use Rattle.world_model.specs.Waiting.{IsActive}
use Rattle.world_model.specs.World.{opening, after, world_of}
use Rattle.world_model.specs.Allowed.{IsAllowed, IsPossible, IsRun}
use Rattle.world_model.specs.Journal.{ticks_of, items_by, line_of, answers_by, answers_of, Birth, born_of}
use Rattle.world_model.proofs.RunParts.{front_runs, next_allowed}
use Rattle.world_model.proofs.Well.{IsWell, run_well, opening_well}
use Rattle.program_trees.specs.ProgramTree.{CheckedTree}
use Rattle.code_types.specs.declared.code.Code.{Code}
use Rattle.code_types.specs.Talk.{CodeTalk}
use Rattle.code_types.specs.Runs.{Begins, FollowsCode, IsCodeRun, ticks_in}
use Rattle.run_laws.proofs.OpenRegions.{asks_in, asks_in-append}
use Rattle.source_meaning.specs.Talk.{talk}
use Rattle.source_meaning.specs.Runs.{IsSourceRun}
use Rattle.source_meaning.specs.Fitting.{AreOfTypes, IsFitting}
use Rattle.text_laws.specs.Requests.{FitsText, AskWell}
use Rattle.text_laws.specs.Journals.{AsksText, IsOpenWith, PhaseFits, IsBirth}
use Rattle.text_laws.specs.Laws.{AreTypedFacts, HasFittingTalks, TextRunsLaw}
use Rattle.text_laws.proofs.SoundFacts.{facts_are_sound}
use Rattle.text_laws.proofs.TalkAsks.{talk_asks}
use Rattle.text_laws.proofs.Traces.{begins_on}
use Rattle.text_laws.proofs.GrowingTalks.{talk_grows}
use Rattle.text_laws.proofs.FewerAnswers.{front_begins}
use Rattle.text_laws.proofs.WorldSteps.{differs}
use Rattle.text_laws.proofs.Journals.{KeptSome, if_true, if_false, line_on, answers_on, step_kept}
use Rattle.text_laws.proofs.JournalLaws.{typed_opening, after_more, well_at, answers_in_range, born_in_range, active_birth, instance_fits, source_fits}

-- ---- what an instance does by an event

data Doing (i : ℕ) (w : World) (event : Event) : Type 0 where
  does_nothing : items_by i event ≡ [] → Doing i w event
  asks_next : (ticks : ℕ) (request : Request) → items_by i event ≡ ticks_of ticks ++ Ask request ∷ [] → IsActive w i → Doing i w event
  makes_ticks : (ticks : ℕ) → items_by i event ≡ ticks_of ticks → IsActive w i → Doing i w event

doing : (facts : Facts) (w : World) (i : ℕ) (event : Event) → IsPossible facts w event → Doing i w event
doing facts w i (Did who ticks request answer refill) may = elim (cases_eq i who) [
  | inl same ↦ asks_next ticks request (if_true (who == i) (ticks_of ticks ++ Ask request ∷ []) [] (eq-eqb who i (sym same))) (subst (IsActive w) (sym same) may.0.active)
  | inr apart ↦ does_nothing (if_false (who == i) (ticks_of ticks ++ Ask request ∷ []) [] (differs who i apart))
]
doing facts w i (Waits who ticks request) may = elim (cases_eq i who) [
  | inl same ↦ asks_next ticks request (if_true (who == i) (ticks_of ticks ++ Ask request ∷ []) [] (eq-eqb who i (sym same))) (subst (IsActive w) (sym same) may.0.active)
  | inr apart ↦ does_nothing (if_false (who == i) (ticks_of ticks ++ Ask request ∷ []) [] (differs who i apart))
]
doing facts w i (Goes who answer) may = does_nothing refl
doing facts w i (Runs who ticks) may = elim (cases_eq i who) [
  | inl same ↦ makes_ticks ticks (if_true (who == i) (ticks_of ticks) [] (eq-eqb who i (sym same))) (subst (IsActive w) (sym same) may.0)
  | inr apart ↦ does_nothing (if_false (who == i) (ticks_of ticks) [] (differs who i apart))
]

-- ---- lines

ticks_last : (n : ℕ) → ticks_of (suc n) ≡ ticks_of n ++ Tick ∷ []
ticks_last zero = refl
ticks_last (suc n) = ap (λ (l : List Item). Tick ∷ l) (ticks_last n)

no_asks_in_ticks : (n : ℕ) → asks_in (ticks_of n) ≡ []
no_asks_in_ticks zero = refl
no_asks_in_ticks (suc n) = no_asks_in_ticks n

-- where each request of a line has its answer, there are as many
settled_line : (p : CheckedTree) (line : List Item) (as' : List Answer) → IsOpenWith p line as' None → length (asks_in line) ≡ length as'
settled_line p [] as' h = sym (ap length h.0)
settled_line p (Tick ∷ line) as' h = settled_line p line as' h
settled_line p (Ask q ∷ line) [] h = absurd (let e : None ≡ Some q = h.1 in let f : ⊥ = cc in f)
settled_line p (Ask q ∷ line) (a ∷ as') h = ap suc (settled_line p line as' h.1)

ticks_asked : (line : List Item) (n : ℕ) (as' : List Answer) → length (asks_in line) ≡ length as' → length (asks_in (line ++ ticks_of n)) ≡ length as'
ticks_asked line n as' e = ap length (asks_in-append line (ticks_of n) ∙ (ap (λ (rs : List Request). asks_in line ++ rs) (no_asks_in_ticks n) ∙ append-nil (asks_in line))) ∙ e

-- a front of what begins, and what stands in its middle
begins_front : (a b t : List Item) → Begins (a ++ b) t → Begins a t
begins_front a b t (rest, e) = (b ++ rest, e ∙ append_assoc a b rest)

module _ (p : CheckedTree) (code : Code) (facts : Facts) (typed : AreTypedFacts p facts) (has : HasFittingTalks p code) (final : List Event) (r : IsCodeRun code facts final) where
  -- the ticks of an instance in the whole journal, and one more
  abbrev ticks_given : ℕ → ℕ
  ticks_given i = suc (ticks_in (line_of i final))

  -- what an instance did so far begins its talk with the answers so far
  abbrev BeginTalks : List Event → Type 0
  BeginTalks before = (i : ℕ) (birth : Birth) → born_of i final ≡ Some birth → IsBirth p birth.process birth.arguments
      → Begins (line_of i before) (talk p i birth.process birth.arguments (answers_of i before) (ticks_given i)).trace

  record FollowsSoFar (before : List Event) : Type 0 where
    pub kept : KeptSome p (world_of facts before) before
    pub leads : BeginTalks before

  sound : IsSound facts
  sound = facts_are_sound p facts typed

  fits_so_far : (before behind : List Event) (i : ℕ) (birth : Birth) → final ≡ before ++ behind → FollowsSoFar before → born_of i final ≡ Some birth → IsBirth p birth.process birth.arguments → IsFitting p i birth.process birth.arguments (answers_of i before)
  fits_so_far before behind i birth e f born b =
      let front : IsRun facts before = front_runs facts (opening facts) before behind (subst (IsRun facts) e r.run) in
      let range = born_in_range facts (opening facts) final i birth r.run born in
      let types : AreOfTypes i birth.arguments (answers_of i before) = record { who = range.0; arguments = range.1; given = answers_in_range facts (opening facts) before i front } in
      instance_fits p facts before i birth f.kept (ticks_given i) (omega arith) types b (f.leads i birth born b)

  -- what an active instance does next begins its talk
  next_begins : (before : List Event) (event : Event) (behind : List Event) (i : ℕ) (birth : Birth) (base : List Item) (item : Item) → final ≡ before ++ event ∷ behind → FollowsSoFar before → born_of i final ≡ Some birth → IsBirth p birth.process birth.arguments → length (asks_in base) ≡ length (answers_of i before) → line_of i before ++ items_by i event ≡ base ++ item ∷ []
      → Begins (base ++ item ∷ []) (talk p i birth.process birth.arguments (answers_of i before) (ticks_given i)).trace
  next_begins before event behind i birth base item e f born b counted split =
      let follows : FollowsCode code final i birth = r.follows i birth born in
      let rest : List Answer = answers_by i event ++ answers_of i behind in
      let answers : answers_of i final ≡ answers_of i before ++ rest = ap (answers_of i) e ∙ flat_map-append (answers_by i) before (event ∷ behind) in
      let line : line_of i final ≡ (line_of i before ++ items_by i event) ++ line_of i behind = ap (line_of i) e ∙ (flat_map-append (items_by i) before (event ∷ behind) ∙ sym (append_assoc (line_of i before) (items_by i event) (line_of i behind))) in
      let front : Begins (base ++ item ∷ []) follows.trace =
      begins_front (base ++ item ∷ []) (line_of i behind) follows.trace (subst (λ (l : List Item). Begins (l ++ line_of i behind) follows.trace) split (subst (λ (l : List Item). Begins l follows.trace) line follows.begins)) in
      let whole : CodeTalk code i birth.process birth.arguments (answers_of i before ++ rest) (ticks_given i) follows.trace = subst (λ (as' : List Answer). CodeTalk code i birth.process birth.arguments as' (ticks_given i) follows.trace) answers follows.talks in
      let few : CodeTalk code i birth.process birth.arguments (answers_of i before) (ticks_given i) (talk p i birth.process birth.arguments (answers_of i before) (ticks_given i)).trace =
      has i birth.process birth.arguments (answers_of i before) (ticks_given i) (omega arith) (fits_so_far before (event ∷ behind) i birth e f born b) in
      front_begins code i birth.process birth.arguments (answers_of i before) rest (ticks_given i) base item (talk p i birth.process birth.arguments (answers_of i before) (ticks_given i)).trace follows.trace (omega arith) few whole counted front

  active_settled : (before : List Event) (i : ℕ) → FollowsSoFar before → IsActive (world_of facts before) i → IsOpenWith p (line_of i before) (answers_of i before) None
  active_settled before i f active =
      let none : f.kept.opens i ≡ None = subst (PhaseFits p (f.kept.opens i)) active (f.kept.kept.phases i) in
      subst (λ (o : Option Request). IsOpenWith p (line_of i before) (answers_of i before) o) none (f.kept.kept.lines i)

  -- what each instance did, this event included, begins its talk with the answers before it
  items_begin : (before : List Event) (event : Event) (behind : List Event) (i : ℕ) (birth : Birth) → final ≡ before ++ event ∷ behind → FollowsSoFar before → born_of i final ≡ Some birth → IsBirth p birth.process birth.arguments → Doing i (world_of facts before) event
      → Begins (line_of i before ++ items_by i event) (talk p i birth.process birth.arguments (answers_of i before) (ticks_given i)).trace
  items_begin before event behind i birth e f born b (does_nothing none) =
      subst (λ (l : List Item). Begins l (talk p i birth.process birth.arguments (answers_of i before) (ticks_given i)).trace) (sym (ap (λ (l : List Item). line_of i before ++ l) none ∙ append-nil (line_of i before))) (f.leads i birth born b)
  items_begin before event behind i birth e f born b (asks_next ticks request items active) =
      let split : line_of i before ++ items_by i event ≡ (line_of i before ++ ticks_of ticks) ++ Ask request ∷ [] = ap (λ (l : List Item). line_of i before ++ l) items ∙ sym (append_assoc (line_of i before) (ticks_of ticks) (Ask request ∷ [])) in
      let counted = ticks_asked (line_of i before) ticks (answers_of i before) (settled_line p (line_of i before) (answers_of i before) (active_settled before i f active)) in
      subst (λ (l : List Item). Begins l (talk p i birth.process birth.arguments (answers_of i before) (ticks_given i)).trace) (sym split)
      (next_begins before event behind i birth (line_of i before ++ ticks_of ticks) (Ask request) e f born b counted split)
  items_begin before event behind i birth e f born b (makes_ticks zero items active) =
      subst (λ (l : List Item). Begins l (talk p i birth.process birth.arguments (answers_of i before) (ticks_given i)).trace) (sym (ap (λ (l : List Item). line_of i before ++ l) items ∙ append-nil (line_of i before))) (f.leads i birth born b)
  items_begin before event behind i birth e f born b (makes_ticks (suc ticks) items active) =
      let split : line_of i before ++ items_by i event ≡ (line_of i before ++ ticks_of ticks) ++ Tick ∷ [] = ap (λ (l : List Item). line_of i before ++ l) (items ∙ ticks_last ticks) ∙ sym (append_assoc (line_of i before) (ticks_of ticks) (Tick ∷ [])) in
      let counted = ticks_asked (line_of i before) ticks (answers_of i before) (settled_line p (line_of i before) (answers_of i before) (active_settled before i f active)) in
      subst (λ (l : List Item). Begins l (talk p i birth.process birth.arguments (answers_of i before) (ticks_given i)).trace) (sym split)
      (next_begins before event behind i birth (line_of i before ++ ticks_of ticks) Tick e f born b counted split)

  -- an event that asks asks what fits
  next_asks_fit : (before : List Event) (event : Event) (behind : List Event) (i ticks : ℕ) (request : Request) → final ≡ before ++ event ∷ behind → FollowsSoFar before → items_by i event ≡ ticks_of ticks ++ Ask request ∷ [] → IsActive (world_of facts before) i → FitsText p request
  next_asks_fit before event behind i ticks request e f items active =
      let made = active_birth facts before behind final event i sound e r.run active in
      let b : IsBirth p made.0.process made.0.arguments = f.kept.kept.births i made.0 made.1 in
      let begins = items_begin before event behind i made.0 e f made.2 b (asks_next ticks request items active) in
      let fits = fits_so_far before (event ∷ behind) i made.0 e f made.2 b in
      let t : List Item = (talk p i made.0.process made.0.arguments (answers_of i before) (ticks_given i)).trace in
      let w : AskWell p t (answers_of i before) = talk_asks p i made.0.process made.0.arguments (answers_of i before) (ticks_given i) b.0 typed.typed fits.in_range b.1 b.2 in
      let whole : t ≡ line_of i before ++ ((ticks_of ticks ++ Ask request ∷ []) ++ begins.0) = begins.1 ∙ (ap (λ (l : List Item). (line_of i before ++ l) ++ begins.0) items ∙ append_assoc (line_of i before) (ticks_of ticks ++ Ask request ∷ []) begins.0) in
      well_at p (line_of i before) ticks request begins.0 (answers_of i before) []
      (subst (λ (as' : List Answer). AskWell p (line_of i before ++ ((ticks_of ticks ++ Ask request ∷ []) ++ begins.0)) as') (sym (append-nil (answers_of i before))) (subst (λ (l : List Item). AskWell p l (answers_of i before)) whole w))
      (active_settled before i f active)

  event_fits : (before : List Event) (event : Event) (behind : List Event) → final ≡ before ++ event ∷ behind → FollowsSoFar before → IsPossible facts (world_of facts before) event → AsksText p event
  event_fits before (Did who ticks request answer refill) behind e f may = next_asks_fit before (Did who ticks request answer refill) behind who ticks request e f (if_true (who == who) (ticks_of ticks ++ Ask request ∷ []) [] (eq-eqb who who refl)) may.0.active
  event_fits before (Waits who ticks request) behind e f may = next_asks_fit before (Waits who ticks request) behind who ticks request e f (if_true (who == who) (ticks_of ticks ++ Ask request ∷ []) [] (eq-eqb who who refl)) may.0.active
  event_fits before (Goes who answer) behind e f may = tt
  event_fits before (Runs who ticks) behind e f may = tt

  -- ---- event by event

  follows_next : (before : List Event) (event : Event) (behind : List Event) → final ≡ before ++ event ∷ behind → FollowsSoFar before → FollowsSoFar (before ++ event ∷ [])
  follows_next before event behind e f =
      let run : IsRun facts (before ++ event ∷ behind) = subst (IsRun facts) e r.run in
      let front : IsRun facts before = front_runs facts (opening facts) before (event ∷ behind) run in
      let well : IsWell facts (world_of facts before) = run_well facts (opening facts) before front (opening_well facts sound) in
      let allowed : IsAllowed facts (world_of facts before) event = next_allowed facts before event behind run in
      let next : KeptSome p (after facts (world_of facts before) event) (before ++ event ∷ []) = step_kept p facts (world_of facts before) before f.kept.opens f.kept.kept event well allowed.possible (event_fits before event behind e f allowed.possible) in
      record {
        kept = subst (λ (w : World). KeptSome p w (before ++ event ∷ [])) (sym (after_more facts (opening facts) before (event ∷ []))) next;
        leads = λ i birth born b.
            let begins = items_begin before event behind i birth e f born b (doing facts (world_of facts before) i event allowed.possible) in
            let on = talk_grows p i birth.process birth.arguments (answers_of i before) (answers_by i event) (ticks_given i) (ticks_given i) (omega arith) (omega arith) in
            subst (λ (l : List Item). Begins l (talk p i birth.process birth.arguments (answers_of i (before ++ event ∷ [])) (ticks_given i)).trace) (sym (line_on i before event (items_by i event) refl))
            (subst (λ (as' : List Answer). Begins (line_of i before ++ items_by i event) (talk p i birth.process birth.arguments as' (ticks_given i)).trace) (sym (answers_on i before event (answers_by i event) refl))
            (begins_on (line_of i before ++ items_by i event) (talk p i birth.process birth.arguments (answers_of i before) (ticks_given i)).trace (talk p i birth.process birth.arguments (answers_of i before ++ answers_by i event) (ticks_given i)).trace begins on));
      }

  follows_to_end : (before behind : List Event) → final ≡ before ++ behind → FollowsSoFar before → FollowsSoFar final
  follows_to_end before [] e f = subst FollowsSoFar (sym (e ∙ append-nil before)) f
  follows_to_end before (event ∷ behind) e f = follows_to_end (before ++ event ∷ []) behind (e ∙ sym (append_assoc before (event ∷ []) behind)) (follows_next before event behind e f)

  follows_all : FollowsSoFar final
  follows_all = follows_to_end [] final refl (record { kept = typed_opening p facts typed; leads = λ i birth born b. ((talk p i birth.process birth.arguments [] (ticks_given i)).trace, refl) })

  pub code_source : IsSourceRun p facts final
  code_source = record { run = r.run; follows = λ who birth born. follows_all.leads who birth born (follows_all.kept.kept.births who birth born) }

source_code : (p : CheckedTree) (code : Code) (facts : Facts) (events : List Event) → AreTypedFacts p facts → HasFittingTalks p code → IsSourceRun p facts events → IsCodeRun code facts events
source_code p code facts events typed has r = record {
  run = r.run;
  follows = λ who birth born. record {
    trace = (talk p who birth.process birth.arguments (answers_of who events) (suc (ticks_in (line_of who events)))).trace;
    talks = has who birth.process birth.arguments (answers_of who events) (suc (ticks_in (line_of who events))) (omega arith) (source_fits p facts events who birth (record { typed = typed; run = r }) born);
    begins = r.follows who birth born;
  };
}

pub same_runs : TextRunsLaw
same_runs p code facts events typed has = (λ r. code_source p code facts typed has events r, λ r. source_code p code facts events typed has r)
