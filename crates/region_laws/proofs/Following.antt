-- What the instances of a run ask suits the regions that they have open.
use Rattle.std.proofs.Common.{◌≡◌, ◌⊎◌, ◌<◌, ℕ, zero, suc, Bool, true, false, List, [], ◌∷◌, ◌++◌, length, refl, sym, ap, ◌∙◌, subst, arith, append_assoc, append-nil, inl, inr, eq-eqb, Option, Some, slice_get}
use Rattle.std.specs.Prelude.{◌==◌, if◌then◌else◌, get_or}
use Rattle.std.specs.List.{flat_map}
use Rattle.std.proofs.lemmas.List.Concat.{flat_map-append}
use Rattle.std.proofs.lemmas.Option.{slice_get_within, slice_get-get_or}
use Rattle.kernel_base.specs.declared.facts.Facts.{Facts}
use Rattle.kernel_base.specs.declared.ends.How.TheVariants.{Normal}
use Rattle.kernel_base.specs.declared.request.Request.{Request}
use Rattle.kernel_base.specs.declared.request.Request.TheVariants.{Start}
use Rattle.kernel_base.specs.declared.answer.Answer.{Answer}
use Rattle.kernel_base.specs.declared.answer.Answer.TheVariants.{Instance}
use Rattle.kernel_base.specs.declared.event.Event.{Event}
use Rattle.kernel_base.specs.declared.event.Event.TheVariants.{Did}
use Rattle.world_model.specs.declared.world.Phase.TheVariants.{Active, Ended}
use Rattle.world_model.specs.declared.world.World.{World}
use Rattle.world_model.specs.Waiting.{IsActive}
use Rattle.world_model.specs.World.{opening, world_of, after, after_all}
use Rattle.world_model.specs.Allowed.{IsRunFrom, IsRun}
use Rattle.world_model.specs.Session.{Item, Ask}
use Rattle.world_model.specs.Journal.{ticks_of, items_by, line_of, answers_of, Birth, births_by, first_birth, started_as, born_of}
use Rattle.world_model.proofs.RunParts.{front_runs, next_allowed}
use Rattle.code_types.specs.Runs.{ticks_in}
use Rattle.program_trees.specs.ProgramTree.{BodyRowTree, CheckedTree}
use Rattle.source_meaning.specs.Fitting.{has_instances}
use Rattle.source_meaning.specs.Typed.{IsForProcess, IsTyped}
use Rattle.source_meaning.specs.Runs.{IsSourceRun}
use Rattle.source_meaning.specs.OpenRegions.{open_behind}
use Rattle.run_laws.specs.Laws.{birth_at}
use Rattle.run_laws.proofs.Births.{births_law}
use Rattle.run_laws.proofs.Holding.{HoldsWell, step_well, opening_well}
use Rattle.region_laws.proofs.Traces.{IsAskedWell, AsksWell, asks_at}
use Rattle.region_laws.proofs.Bodies.{asks_well}

-- an instance was started on the outermost process or on a process
pub record IsBornWell (p : CheckedTree) (birth : Birth) : Type 0 where
  pub body : BodyRowTree
  pub there : slice_get p.bodies birth.process ≡ Some body
  pub starts : has_instances body.sort ≡ true

abbrev pub AreBornWell : CheckedTree → List Event → Type 0
AreBornWell p events = (who : ℕ) (birth : Birth) → started_as who events ≡ Some birth → IsBornWell p birth

run_well : (facts : Facts) (w : World) (events : List Event) → IsRunFrom facts w events → HoldsWell w → HoldsWell (after_all facts w events)
run_well facts w [] run well = well
run_well facts w (event ∷ events) run well = run_well facts (after facts w event) events run.1 (step_well facts w event run.0.possible well)

-- who has a birth keeps it
more_births : (births more : List Birth) (birth : Birth) → first_birth births ≡ Some birth → first_birth (births ++ more) ≡ Some birth
more_births [] more birth is = absurd (let f : ⊥ = cc in f)
more_births (b ∷ births) more birth is = is

pub stays_born : (who : ℕ) (before rest : List Event) (birth : Birth) → started_as who before ≡ Some birth → started_as who (before ++ rest) ≡ Some birth
stays_born who before rest birth is = ap first_birth (flat_map-append (births_by who) before rest) ∙ more_births (flat_map (births_by who) before) (flat_map (births_by who) rest) birth is

-- who is active behind the front of a journal was born, and well
pub record IsBorn (p : CheckedTree) (events : List Event) (who : ℕ) : Type 0 where
  pub birth : Birth
  pub born : born_of who events ≡ Some birth
  pub well : IsBornWell p birth

nobody_active : (facts : Facts) (before : List Event) → IsRun facts before → IsActive (world_of facts before) 0 → ⊥
nobody_active facts before run active =
    let well = run_well facts (opening facts) before run (opening_well facts) in
    let e : Some Active ≡ Some (Ended Normal) = sym active ∙ well.nobody in
    let f : ⊥ = cc in f

pub active_born : (p : CheckedTree) (facts : Facts) (before rest : List Event) (who : ℕ) → IsTyped p → IsRun facts before → AreBornWell p before → IsActive (world_of facts before) who → IsBorn p (before ++ rest) who
active_born p facts before rest zero typed run well active = absurd (nobody_active facts before run active)
active_born p facts before rest (suc zero) typed run well active = record {
  birth = record { process = 0; arguments = [] };
  born = refl;
  well = record { body = typed.outermost.0; there = typed.outermost.1; starts = ap has_instances typed.outermost.2 };
}
active_born p facts before rest (suc (suc k)) typed run well active =
    let w = world_of facts before in
    let births = births_law facts before run in
    let low : suc (suc k) < length w.phases = slice_get_within w.phases (suc (suc k)) Active active in
    let process = slice_get-get_or w.processes (suc (suc k)) 0 (let e = births.processes in omega (arith, e, low)) in
    let arguments = slice_get-get_or w.arguments (suc (suc k)) [] (let e = births.arguments in omega (arith, e, low)) in
    let birth : Birth = record { process = get_or w.processes (suc (suc k)) 0; arguments = get_or w.arguments (suc (suc k)) [] } in
    let is : birth_at w (suc (suc k)) ≡ Some birth = rw (process, arguments) refl in
    let started : started_as (suc (suc k)) before ≡ Some birth = births.births (suc (suc k)) (omega arith) ∙ is in
    record { birth = birth; born = stays_born (suc (suc k)) before rest birth started; well = well (suc (suc k)) birth started }

-- the whole trace of who was born well suits its regions, and so does its line
pub line_suits : (p : CheckedTree) (facts : Facts) (events : List Event) (who : ℕ) → IsTyped p → IsSourceRun p facts events → IsBorn p events who → AsksWell p [] (line_of who events)
line_suits p facts events who typed run born =
    let begins = run.follows who born.birth born.born in
    let all = asks_well p who born.birth.process born.well.body born.birth.arguments (answers_of who events) (suc (ticks_in (line_of who events))) typed born.well.there born.well.starts in
    (asks_at p [] (line_of who events) begins.0 (subst (AsksWell p []) begins.1 all)).0

line_splits : (who : ℕ) (before : List Event) (event : Event) (behind : List Event) → line_of who (before ++ event ∷ behind) ≡ line_of who before ++ (items_by who event ++ line_of who behind)
line_splits who before event behind = flat_map-append (items_by who) before (event ∷ behind)

own_items : (who ticks : ℕ) (request : Request) (answer : Answer) (refill : Option ℕ) → items_by who (Did who ticks request answer refill) ≡ ticks_of ticks ++ Ask request ∷ []
own_items who ticks request answer refill = let here : (who == who) ≡ true = eq-eqb who who refl in rw here refl

behind_ticks : (p : CheckedTree) (now : List ℕ) (ticks : ℕ) (items : List Item) → AsksWell p now (ticks_of ticks ++ items) → AsksWell p now items
behind_ticks p now zero items well = well
behind_ticks p now (suc ticks) items well = behind_ticks p now ticks items well

-- what an event asks suits the regions that its instance has open
pub record AskedInRun (p : CheckedTree) (before : List Event) (who : ℕ) (request : Request) : Type 0 where
  pub front : AsksWell p [] (line_of who before)
  pub asks : IsAskedWell p (open_behind [] (line_of who before)) request

pub event_suits : (p : CheckedTree) (facts : Facts) (before : List Event) (who ticks : ℕ) (request : Request) (answer : Answer) (refill : Option ℕ) (behind : List Event) → IsTyped p → AreBornWell p before
    → IsSourceRun p facts (before ++ Did who ticks request answer refill ∷ behind)
    → AskedInRun p before who request
event_suits p facts before who ticks request answer refill behind typed well run =
    let event : Event = Did who ticks request answer refill in
    let may = next_allowed facts before event behind run.run in
    let born = active_born p facts before (event ∷ behind) who typed (front_runs facts (opening facts) before (event ∷ behind) run.run) well may.possible.0.active in
    let line = line_suits p facts (before ++ event ∷ behind) who typed run born in
    let split = asks_at p [] (line_of who before) (items_by who event ++ line_of who behind) (subst (AsksWell p []) (line_splits who before event behind) line) in
    let now : List ℕ = open_behind [] (line_of who before) in
    let items = (asks_at p now (items_by who event) (line_of who behind) split.1).0 in
    let own : AsksWell p now (ticks_of ticks ++ Ask request ∷ []) = subst (AsksWell p now) (own_items who ticks request answer refill) items in
    record { front = split.0; asks = (behind_ticks p now ticks (Ask request ∷ []) own).0 }

-- ---- births

process_starts : (p : CheckedTree) (k : ℕ) → IsForProcess p k → (birth : Birth) → birth.process ≡ k → IsBornWell p birth
process_starts p k is birth same = record { body = is.0; there = ap (slice_get p.bodies) same ∙ is.1; starts = ap has_instances is.2 }

started_if : (p : CheckedTree) (b : Bool) (made birth : Birth) → IsBornWell p made → first_birth ((if b then made ∷ [] else []) ++ []) ≡ Some birth → IsBornWell p birth
started_if p true made birth well is = subst (IsBornWell p) (let e : Some made ≡ Some birth = is in let f : made ≡ birth = cc in f) well
started_if p false made birth well is = absurd (let f : ⊥ = cc in f)

none_started : (p : CheckedTree) (birth : Birth) → first_birth [] ≡ Some birth → IsBornWell p birth
none_started p birth is = absurd (let f : ⊥ = cc in f)

made_well : (p : CheckedTree) (facts : Facts) (before : List Event) (event : Event) (behind : List Event) (who : ℕ) (birth : Birth) → IsTyped p → AreBornWell p before → IsSourceRun p facts (before ++ event ∷ behind)
    → first_birth (births_by who event ++ []) ≡ Some birth → IsBornWell p birth
made_well p facts before (Did by ticks (Start process scalars) (Instance j) refill) behind who birth typed well run is =
    let suits = event_suits p facts before by ticks (Start process scalars) (Instance j) refill behind typed well run in
    started_if p (j == who) (record { process = process; arguments = scalars }) birth (process_starts p process suits.asks.starts (record { process = process; arguments = scalars }) refl) is
made_well p facts before event behind who birth typed well run is = none_started p birth is

old_or_made : (births more : List Birth) (birth : Birth) → first_birth (births ++ more) ≡ Some birth → (first_birth births ≡ Some birth) ⊎ (first_birth more ≡ Some birth)
old_or_made [] more birth is = inr is
old_or_made (b ∷ births) more birth is = inl is

step_born : (p : CheckedTree) (facts : Facts) (before : List Event) (event : Event) (behind : List Event) → IsTyped p → IsSourceRun p facts (before ++ event ∷ behind) → AreBornWell p before → AreBornWell p (before ++ event ∷ [])
step_born p facts before event behind typed run well who birth is =
    elim (old_or_made (flat_map (births_by who) before) (births_by who event ++ []) birth (sym (ap first_birth (flat_map-append (births_by who) before (event ∷ []))) ∙ is)) [
      | inl old ↦ well who birth old
      | inr made ↦ made_well p facts before event behind who birth typed well run made
    ]

born_from : (p : CheckedTree) (facts : Facts) (before rest : List Event) → IsTyped p → IsSourceRun p facts (before ++ rest) → AreBornWell p before → AreBornWell p (before ++ rest)
born_from p facts before [] typed run well = subst (AreBornWell p) (sym (append-nil before)) well
born_from p facts before (event ∷ rest) typed run well =
    let again : (before ++ event ∷ []) ++ rest ≡ before ++ event ∷ rest = append_assoc before (event ∷ []) rest in
    subst (AreBornWell p) again (born_from p facts (before ++ event ∷ []) rest typed (subst (IsSourceRun p facts) (sym again) run) (step_born p facts before event rest typed run well))

-- each instance of a run was started on the outermost process or on a process
pub all_born : (p : CheckedTree) (facts : Facts) (events : List Event) → IsTyped p → IsSourceRun p facts events → AreBornWell p events
all_born p facts events typed run = born_from p facts [] events typed run (λ who birth is. none_started p birth is)

-- and each of its front
pub front_born : (p : CheckedTree) (facts : Facts) (before rest : List Event) → IsTyped p → IsSourceRun p facts (before ++ rest) → AreBornWell p before
front_born p facts before rest typed run who birth is = all_born p facts (before ++ rest) typed run who birth (stays_born who before rest birth is)
