-- Logs whose starts are looked for beside a journal.
use Rattle.std.proofs.Common.{◌≡◌, ℕ, zero, suc, ◌+◌, ◌<◌, ◌≤◌, List, [], ◌∷◌, length, Bool, true, false, refl, sym, ap, ◌∙◌, subst, inl, inr, arith, Some, None, slice_get, slice_set, drop, get_or, replicate, get_or-set_same, get_or-set_other}
use Rattle.std.specs.Prelude.{◌↔◌, ◌⊎◌, ◌++◌, if◌then◌else◌}
use Rattle.std.specs.List.{flat_map}
use Rattle.std.proofs.lemmas.Bool.{cases_eq, cases_Bool, eq-eqb, ne_eqb}
use Rattle.std.proofs.lemmas.Option.{same_Some, slice_get_within}
use Rattle.std.proofs.lemmas.List.{drop_more, drop_all, get_or-replicate}
use Rattle.kernel_base.specs.declared.event.Event.{Event}
use Rattle.world_model.specs.Journal.{Birth, births_by, first_birth, born_of, started_as}
use Rattle.worker_pool.specs.declared.log.Log.{Log}
use Rattle.worker_pool.specs.Gather.{IsBornAs, birth_of, are_apart, has_log}
use Rattle.worker_pool.specs.LogPlaces.{log_place, Admits, Begets, Rejects, AreStarted, HaveBirths, birth_with}
use Rattle.worker_pool.specs.declared.log_births.Start.{Start}
use Rattle.worker_pool.proofs.Placing.{only_place, has_placed}
use Rattle.worker_pool.proofs.Following.{all_at, all_from}

-- A log that was started is right, and another exactly where what is left starts it so.
pub record Begins (journal : List Event) (n : ℕ) (started : Bool) (log : Log) : Type 0 where
  pub yes : started ≡ true → IsBornAs journal log
  pub no : started ≡ false → IsBornAs journal log ↔ (started_as log.instance (drop n journal) ≡ Some (birth_of log))

abbrev pub Begin : List Log → List Event → ℕ → List Bool → Type 0
Begin logs journal n started = (k : ℕ) (log : Log) → slice_get logs k ≡ Some log → (log.instance ≡ 1 → ⊥) → Begins journal n (get_or started k false) log

-- what an event starts
made_here : (event : Event) (start : Start) (i : ℕ) → Begets event (Some start) → start.instance ≡ i → births_by i event ≡ birth_with start ∷ []
made_here event start i made is = made i ∙ ap (λ (b : Bool). if b then birth_with start ∷ [] else []) (eq-eqb start.instance i is)

not_made : (event : Event) (start : Start) (i : ℕ) → Begets event (Some start) → (start.instance ≡ i → ⊥) → births_by i event ≡ []
not_made event start i made other = made i ∙ ap (λ (b : Bool). if b then birth_with start ∷ [] else []) (ne_eqb start.instance i other)

one_made : (event : Event) (start : Start) (i : ℕ) → Begets event (Some start) → (births_by i event ≡ []) ⊎ ((birth : Birth) × (births_by i event ≡ birth ∷ []))
one_made event start i made = elim (cases_eq start.instance i) [
  | inl is ↦ inr (birth_with start, made_here event start i made is)
  | inr other ↦ inl (not_made event start i made other)
]

only_birth : (birth other : Birth) (births : List Birth) → births ≡ birth ∷ [] → births ≡ other ∷ [] → birth ≡ other
only_birth birth other births is also = ap (λ (bs : List Birth). get_or bs 0 birth) (sym is ∙ also)

no_birth : (birth : Birth) (births : List Birth) → births ≡ birth ∷ [] → births ≡ [] → ⊥
no_birth birth births is none = let e : birth ∷ [] ≡ [] = sym is ∙ none in let f : ⊥ = cc in f

-- a log of the instance that is started stands at its place alone
its_place : (logs : List Log) (place k : ℕ) (log l : Log) → are_apart logs ≡ true → slice_get logs place ≡ Some log → slice_get logs k ≡ Some l → log.instance ≡ l.instance → k ≡ place
its_place logs place k log l once at there same = same_Some k place (sym (only_place logs k l once there) ∙ (ap (log_place logs) (sym same) ∙ only_place logs place log once at))

-- A start of an instance with a log.
pub admits_at : (logs : List Log) (old : List Bool) (event : Event) (start : Start) (place : ℕ) (log : Log) → are_apart logs ≡ true → length old ≡ length logs → Begets event (Some start) → slice_get logs place ≡ Some log → log.instance ≡ start.instance
    → (get_or old place false ≡ false → birth_of log ≡ birth_with start) → Admits logs old (slice_set old place true) event
admits_at logs old event start place log once count made at own was = record {
  started = λ k l birth there inner is.
      (let mine : start.instance ≡ l.instance = elim (cases_eq start.instance l.instance) [
        | inl e ↦ e
        | inr other ↦ absurd (no_birth birth (births_by l.instance event) is (not_made event start l.instance made other))
      ] in
      let here : k ≡ place = its_place logs place k log l once at there (own ∙ mine) in
      let same : log ≡ l = same_Some log l (sym at ∙ (ap (slice_get logs) (sym here) ∙ there)) in
      let within : place < length old = (let w = slice_get_within logs place log at in omega (arith, count, w)) in
      subst (λ (j : ℕ). (get_or (slice_set old place true) j false ≡ true) × (get_or old j false ≡ false → birth_of l ≡ birth)) (sym here)
      (get_or-set_same old place true false within, λ no. sym (ap birth_of same) ∙ (was no ∙ only_birth (birth_with start) birth (births_by l.instance event) (made_here event start l.instance made mine) is)));
  others = λ k l there inner none.
      get_or-set_other old place k true false (λ here.
      (let same : log ≡ l = same_Some log l (sym at ∙ (ap (slice_get logs) (sym here) ∙ there)) in
      no_birth (birth_with start) (births_by l.instance event) (made_here event start l.instance made (sym own ∙ ap (λ (x : Log). x.instance) same)) none));
  one = λ k l there inner. one_made event start l.instance made;
}

-- A start of an instance without a log.
pub admits_none : (logs : List Log) (old : List Bool) (event : Event) (start : Start) → are_apart logs ≡ true → Begets event (Some start) → has_log logs start.instance ≡ false → Admits logs old old event
admits_none logs old event start once made no_log = record {
  started = λ k l birth there inner is.
      (let other : start.instance ≡ l.instance → ⊥ = λ e.
      (let e' : true ≡ false = sym (has_placed logs l.instance k (only_place logs k l once there)) ∙ (ap (has_log logs) (sym e) ∙ no_log) in
      let f : ⊥ = cc in f) in
      absurd (no_birth birth (births_by l.instance event) is (not_made event start l.instance made other)));
  others = λ k l there inner none. refl;
  one = λ k l there inner. one_made event start l.instance made;
}

-- A start that its log doesn't tell.
pub rejects_at : (logs : List Log) (old : List Bool) (event : Event) (start : Start) (place : ℕ) (log : Log) → Begets event (Some start) → slice_get logs place ≡ Some log → log.instance ≡ start.instance
    → (start.instance ≡ 1 → ⊥) → get_or old place false ≡ false → (birth_of log ≡ birth_with start → ⊥) → Rejects logs old event
rejects_at logs old event start place log made at own inner before other = record {
  place = place;
  log = log;
  at = at;
  inner = λ is. inner (sym own ∙ is);
  before = before;
  birth = birth_with start;
  now = made_here event start log.instance made (sym own);
  other = other;
}

-- The first start of an instance from a place of the journal on.
started_here : (i : ℕ) (journal : List Event) (n : ℕ) (e : Event) (birth : Birth) → n < length journal → e ≡ get_or journal n e → births_by i e ≡ birth ∷ [] → started_as i (drop n journal) ≡ Some birth
started_here i journal n e birth low is births =
    ap (started_as i) (drop_more journal n e low ∙ ap (λ (x : Event). x ∷ drop (n + 1) journal) (sym is))
    ∙ ap (λ (bs : List Birth). first_birth (bs ++ flat_map (births_by i) (drop (n + 1) journal))) births

started_later : (i : ℕ) (journal : List Event) (n : ℕ) (e : Event) → n < length journal → e ≡ get_or journal n e → births_by i e ≡ [] → started_as i (drop n journal) ≡ started_as i (drop (n + 1) journal)
started_later i journal n e low is births =
    ap (started_as i) (drop_more journal n e low ∙ ap (λ (x : Event). x ∷ drop (n + 1) journal) (sym is))
    ∙ ap (λ (bs : List Birth). first_birth (bs ++ flat_map (births_by i) (drop (n + 1) journal))) births

born_started : (i : ℕ) (events : List Event) → (i ≡ 1 → ⊥) → born_of i events ≡ started_as i events
born_started zero events inner = refl
born_started (suc zero) events inner = absurd (inner refl)
born_started (suc (suc i)) events inner = refl

-- one event on
begins_on : (logs : List Log) (journal : List Event) (n : ℕ) (event : Event) (old new : List Bool) (k : ℕ) (log : Log) → n < length journal → event ≡ get_or journal n event → Admits logs old new event → slice_get logs k ≡ Some log → (log.instance ≡ 1 → ⊥)
    → Begins journal n (get_or old k false) log → Begins journal (n + 1) (get_or new k false) log
begins_on logs journal n event old new k log low is admits at inner b = elim (admits.one k log at inner) [
  | inl none ↦ (
      let same : get_or old k false ≡ get_or new k false = sym (admits.others k log at inner none) in
      let later = started_later log.instance journal n event low is none in
      subst (λ (s : Bool). Begins journal (n + 1) s log) same (record {
        yes = b.yes;
        no = λ not. (λ born. sym later ∙ (b.no not).0 born, λ starts. (b.no not).1 (later ∙ starts));
      }))
  | inr some ↦ (
      let now = admits.started k log some.0 at inner some.1 in
      let starts : started_as log.instance (drop n journal) ≡ Some some.0 = started_here log.instance journal n event some.0 low is some.1 in
      let born : IsBornAs journal log = elim (cases_Bool (get_or old k false)) [
        | inl before ↦ b.yes before
        | inr not ↦ (b.no not).1 (starts ∙ ap Some (sym (now.1 not)))
      ] in
      record {
        yes = λ always. born;
        no = λ not. absurd (let e : true ≡ false = sym now.0 ∙ not in let f : ⊥ = cc in f);
      })
]

pub begin_on : (logs : List Log) (journal : List Event) (n : ℕ) (event : Event) (old new : List Bool) → n < length journal → event ≡ get_or journal n event → Admits logs old new event → Begin logs journal n old → Begin logs journal (n + 1) new
begin_on logs journal n event old new low is admits begin k log at inner = begins_on logs journal n event old new k log low is admits at inner (begin k log at inner)

-- an event that starts an instance otherwise than its log says
pub rejected : (logs : List Log) (journal : List Event) (n : ℕ) (event : Event) (old : List Bool) → n < length journal → event ≡ get_or journal n event → Rejects logs old event → Begin logs journal n old → HaveBirths journal logs → ⊥
rejected logs journal n event old low is r begin have =
    let b = (begin r.place r.log r.at r.inner).no r.before in
    let starts : started_as r.log.instance (drop n journal) ≡ Some r.birth = started_here r.log.instance journal n event r.birth low is r.now in
    r.other (same_Some (birth_of r.log) r.birth (sym (b.0 (all_at (IsBornAs journal) logs r.place r.log have r.at)) ∙ starts))

-- behind the last event
all_started : (logs : List Log) (journal : List Event) (n : ℕ) (started : List Bool) → length journal ≤ n → Begin logs journal n started → AreStarted logs started → HaveBirths journal logs
all_started logs journal n started past begin are = all_from (IsBornAs journal) logs (λ k log at. elim (are k log at) [
  | inl outer ↦ subst (λ (i : ℕ). born_of i journal ≡ Some (birth_of log)) (sym outer.0) (ap Some (sym outer.1))
  | inr inner ↦ (begin k log at inner.0).yes inner.1
])

none_left : (logs : List Log) (journal : List Event) (n : ℕ) (started : List Bool) → length journal ≤ n → Begin logs journal n started → HaveBirths journal logs → AreStarted logs started
none_left logs journal n started past begin have k log at =
    let born : IsBornAs journal log = all_at (IsBornAs journal) logs k log have at in
    elim (cases_eq log.instance 1) [
      | inl outer ↦ inl (outer, same_Some (birth_of log) _ (sym (subst (λ (i : ℕ). born_of i journal ≡ Some (birth_of log)) outer born)))
      | inr inner ↦ inr (
        inner,
        elim (cases_Bool (get_or started k false)) [
          | inl is ↦ is
          | inr not ↦ absurd (
              let starts = ((begin k log at inner).no not).0 born in
              let none : started_as log.instance (drop n journal) ≡ None = ap (started_as log.instance) (drop_all n journal past) in
              let e : None ≡ Some (birth_of log) = sym none ∙ starts in
              let f : ⊥ = cc in f)
        ],
      )
    ]

pub started_all : (logs : List Log) (journal : List Event) (n : ℕ) (started : List Bool) → length journal ≤ n → Begin logs journal n started → AreStarted logs started ↔ HaveBirths journal logs
started_all logs journal n started past begin = (all_started logs journal n started past begin, none_left logs journal n started past begin)

-- before the first event
pub begin_first : (logs : List Log) (journal : List Event) (started : List Bool) → started ≡ replicate (length logs) false → Begin logs journal 0 started
begin_first logs journal started is k log at inner =
    let none : get_or started k false ≡ false = ap (λ (xs : List Bool). get_or xs k false) is ∙ get_or-replicate (length logs) k false false (slice_get_within logs k log at) in
    subst (λ (s : Bool). Begins journal 0 s log) (sym none) (record {
      yes = λ is. absurd (let f : ⊥ = cc in f);
      no = λ not. (λ born. sym (born_started log.instance journal inner) ∙ born, λ starts. born_started log.instance journal inner ∙ starts);
    })
