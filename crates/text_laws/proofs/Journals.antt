-- Journals whose requests fit the text: values stay of their modes, answers and births fit.
use Rattle.std.proofs.Common.{◌≡◌, ◌≤◌, ℕ, zero, suc, Bool, true, false, List, [], ◌∷◌, ◌++◌, refl, sym, ap, ◌∙◌, subst, inl, inr, ◌⊎◌, Option, Some, None, slice_get, slice_set, append-nil, eq-eqb}
use Rattle.std.specs.Prelude.{if◌then◌else◌, ◌==◌}
use Rattle.std.specs.List.{flat_map}
use Rattle.std.proofs.lemmas.Bool.{cases_eq}
use Rattle.std.proofs.lemmas.List.Concat.{flat_map-append}
use Rattle.kernel_base.specs.declared.facts.Facts.{Facts}
use Rattle.kernel_base.specs.declared.request.Request.{Request}
use Rattle.kernel_base.specs.declared.request.Request.TheVariants.{Enter, Start, End}
use Rattle.kernel_base.specs.declared.answer.Answer.{Answer}
use Rattle.kernel_base.specs.declared.answer.Answer.TheVariants.{Done, Instance}
use Rattle.kernel_base.specs.declared.event.Event.{Event}
use Rattle.kernel_base.specs.declared.event.Event.TheVariants.{Did, Waits, Goes, Runs}
use Rattle.world_model.specs.declared.world.Phase.{Phase}
use Rattle.world_model.specs.declared.world.Phase.TheVariants.{Active, Waiting, Chosen, Ended}
use Rattle.world_model.specs.declared.world.World.{World}
use Rattle.world_model.specs.Lists.{last_of}
use Rattle.world_model.specs.Waiting.{phase_of, IsActive, offer}
use Rattle.world_model.specs.World.{held_by, drawn, locked_back, back_in, after_request, after_waits, after}
use Rattle.world_model.specs.Allowed.{IsPossible}
use Rattle.world_model.specs.Journal.{ticks_of, items_by, line_of, answers_by, answers_of, Birth, births_by, first_birth, started_as}
use Rattle.world_model.specs.Session.{Item, Ask}
use Rattle.world_model.proofs.ChangedLists.{written_here, written_elsewhere}
use Rattle.world_model.proofs.Stores.{KeepsStores}
use Rattle.world_model.proofs.Freeing.{freeing_kept, back_kept}
use Rattle.world_model.proofs.PhaseMoves.{did_moves}
use Rattle.world_model.proofs.Well.{IsWell, some_active, freeing_stores, back_stores}
use Rattle.world_model.proofs.Given.{did_gives}
use Rattle.checked_program.specs.declared.program.Sort.{Sort}
use Rattle.checked_program.specs.declared.program.Sort.TheVariants.{Outermost}
use Rattle.checked_program.specs.declared.program.Parameter.{Parameter}
use Rattle.program_trees.specs.ProgramTree.{BodyRowTree, CheckedTree}
use Rattle.source_meaning.specs.Values.{AreWithin}
use Rattle.source_meaning.specs.Fitting.{domains_of_parameters, has_instances, FitsAnswer}
use Rattle.source_meaning.specs.Typed.{IsTyped, HasHead}
use Rattle.text_laws.specs.Requests.{FitsText}
use Rattle.text_laws.specs.Journals.{AsksText, IsOpenWith, PhaseFits, IsBirth, BirthsFitText}
use Rattle.text_laws.proofs.WorldValues.{AreOfModes, kept_modes, OfferFits, did_modes, StoreIsOfModes, did_store_modes, offer_fits}
use Rattle.text_laws.proofs.WorldSteps.{did_brings, answer_brings, phase_moved, changed, changed_here, changed_elsewhere, differs, open_more, open_ticks, open_goes}

-- ---- births

outermost_birth : (p : CheckedTree) → IsTyped p → IsBirth p 0 []
outermost_birth p t =
    let b : BodyRowTree = t.outermost.0 in
    let head : HasHead p 0 b Outermost = subst (λ (s : Sort). HasHead p 0 b s) t.outermost.2 (t.bodies 0 b t.outermost.1).head in
    let none : b.parameters ≡ [] = head.2 in (
      b,
      t.outermost.1,
      record {
        process = ap has_instances t.outermost.2;
        values = subst (λ (ps : List Parameter). AreWithin (domains_of_parameters b.locals ps) []) (sym none) tt;
      },
    )

birth_in_event : (p : CheckedTree) (i : ℕ) (event : Event) (birth : Birth) → AsksText p event → first_birth (births_by i event ++ []) ≡ Some birth → IsBirth p birth.process birth.arguments
birth_in_event p i (Did who ticks (Start process zs) (Instance j) refill) birth f e = made_by (j == i) e
  where
    made_by : (t : Bool) → first_birth ((if t then record { process = process; arguments = zs } ∷ [] else []) ++ []) ≡ Some birth → IsBirth p birth.process birth.arguments
    made_by true e =
        let is : record { process = process; arguments = zs } ≡ birth = cc in
        subst (λ (b : Birth). IsBirth p b.process b.arguments) is (f.0, f.1, record { process = ap has_instances f.2; values = f.3 })
    made_by false e = absurd (let no : ⊥ = cc in no)
birth_in_event p i event birth f e = absurd (let no : ⊥ = cc in no)

pub first_in : (xs ys : List Birth) (birth : Birth) → first_birth (xs ++ ys) ≡ Some birth → (first_birth xs ≡ Some birth) ⊎ (first_birth ys ≡ Some birth)
first_in [] ys birth e = inr e
first_in (x ∷ xs) ys birth e = inl e

started_fits : (p : CheckedTree) (before : List Event) (event : Event) (i : ℕ) (birth : Birth) → AsksText p event → ((b : Birth) → started_as i before ≡ Some b → IsBirth p b.process b.arguments) → started_as i (before ++ event ∷ []) ≡ Some birth → IsBirth p birth.process birth.arguments
started_fits p before event i birth f old e =
    elim (first_in (flat_map (births_by i) before) (births_by i event ++ []) birth (sym (ap first_birth (flat_map-append (births_by i) before (event ∷ []))) ∙ e)) [
      | inl was ↦ old birth was
      | inr new ↦ birth_in_event p i event birth f new
    ]

births_on : (p : CheckedTree) (before : List Event) (event : Event) → AsksText p event → BirthsFitText p before → BirthsFitText p (before ++ event ∷ [])
births_on p before event f old zero birth e = started_fits p before event 0 birth f (λ b q. old 0 b q) e
births_on p before event f old (suc zero) birth e = old 1 birth e
births_on p before event f old (suc (suc i)) birth e = started_fits p before event (suc (suc i)) birth f (λ b q. old (suc (suc i)) b q) e

pub births_first : (p : CheckedTree) → IsTyped p → BirthsFitText p []
births_first p t zero birth e = absurd (let no : ⊥ = cc in no)
births_first p t (suc zero) birth e =
    let is : record { process = 0; arguments = [] } ≡ birth = cc in
    subst (λ (b : Birth). IsBirth p b.process b.arguments) is (outermost_birth p t)
births_first p t (suc (suc i)) birth e = absurd (let no : ⊥ = cc in no)

-- ---- a world behind a journal

pub record Kept (p : CheckedTree) (w : World) (before : List Event) (opens : ℕ → Option Request) : Type 0 where
  pub modes : AreOfModes p w
  pub store : StoreIsOfModes p w.store
  pub phases : (i : ℕ) → PhaseFits p (opens i) (phase_of w i)
  pub asked : (i : ℕ) (r : Request) → opens i ≡ Some r → FitsText p r
  pub lines : (i : ℕ) → IsOpenWith p (line_of i before) (answers_of i before) (opens i)
  pub births : BirthsFitText p before

pub record KeptSome (p : CheckedTree) (w : World) (before : List Event) : Type 0 where
  pub opens : ℕ → Option Request
  pub kept : Kept p w before opens

pub line_on : (i : ℕ) (before : List Event) (event : Event) (items : List Item) → items_by i event ≡ items → line_of i (before ++ event ∷ []) ≡ line_of i before ++ items
line_on i before event items e = flat_map-append (items_by i) before (event ∷ []) ∙ ap (λ (l : List Item). line_of i before ++ l) (append-nil (items_by i event) ∙ e)

pub answers_on : (i : ℕ) (before : List Event) (event : Event) (bs : List Answer) → answers_by i event ≡ bs → answers_of i (before ++ event ∷ []) ≡ answers_of i before ++ bs
answers_on i before event bs e = flat_map-append (answers_by i) before (event ∷ []) ∙ ap (λ (l : List Answer). answers_of i before ++ l) (append-nil (answers_by i event) ∙ e)

opened_on : (p : CheckedTree) (i : ℕ) (before : List Event) (event : Event) (items : List Item) (bs : List Answer) (o : Option Request) → items_by i event ≡ items → answers_by i event ≡ bs → IsOpenWith p (line_of i before ++ items) (answers_of i before ++ bs) o → IsOpenWith p (line_of i (before ++ event ∷ [])) (answers_of i (before ++ event ∷ [])) o
opened_on p i before event items bs o e f h =
    subst (λ (l : List Item). IsOpenWith p l (answers_of i (before ++ event ∷ [])) o) (sym (line_on i before event items e))
    (subst (λ (as' : List Answer). IsOpenWith p (line_of i before ++ items) as' o) (sym (answers_on i before event bs f)) h)

quiet_on : (p : CheckedTree) (i : ℕ) (before : List Event) (event : Event) (o : Option Request) → items_by i event ≡ [] → answers_by i event ≡ [] → IsOpenWith p (line_of i before) (answers_of i before) o → IsOpenWith p (line_of i (before ++ event ∷ [])) (answers_of i (before ++ event ∷ [])) o
quiet_on p i before event o e f h =
    opened_on p i before event [] [] o e f
    (subst (λ (l : List Item). IsOpenWith p l (answers_of i before ++ []) o) (sym (append-nil (line_of i before)))
    (subst (λ (as' : List Answer). IsOpenWith p (line_of i before) as' o) (sym (append-nil (answers_of i before))) h))

pub if_true : {A : Type 0} (t : Bool) (x y : A) → t ≡ true → (if t then x else y) ≡ x
if_true t x y e = rw e refl

pub if_false : {A : Type 0} (t : Bool) (x y : A) → t ≡ false → (if t then x else y) ≡ y
if_false t x y e = rw e refl

-- one phase is set
set_phase : (p : CheckedTree) (o : Option Request) (old phases : List Phase) (who i : ℕ) (was new : Phase) → phases ≡ old → slice_get old who ≡ Some was → (i ≡ who → PhaseFits p o (Some new)) → ((i ≡ who → ⊥) → PhaseFits p o (slice_get old i)) → PhaseFits p o (slice_get (slice_set phases who new) i)
set_phase p o old phases who i was new same at here there =
    subst (λ (ps : List Phase). PhaseFits p o (slice_get (slice_set ps who new) i)) (sym same)
    (elim (cases_eq i who) [
      | inl is ↦ subst (λ (n : ℕ). PhaseFits p o (slice_get (slice_set old who new) n)) (sym is) (subst (PhaseFits p o) (sym (written_here old who new was at)) (here is))
      | inr apart ↦ subst (PhaseFits p o) (sym (written_elsewhere old who i new apart)) (there apart)
    ])

module _ (p : CheckedTree) (facts : Facts) (w : World) (before : List Event) (opens : ℕ → Option Request) (k : Kept p w before opens) where
  offers : (q : ℕ) → OfferFits p (offer w q)
  offers q = offer_fits p q (phase_of w q) (λ request send back e. k.asked q request (subst (PhaseFits p (opens q)) e (k.phases q)))

  -- an active process has all its answers
  active_open : (who : ℕ) → IsActive w who → opens who ≡ None
  active_open who active = subst (PhaseFits p (opens who)) active (k.phases who)

  did_phase : (who : ℕ) (request : Request) (answer : Answer) (refill : Option ℕ) (i : ℕ) → 1 ≤ who → IsActive w who → FitsText p request → PhaseFits p (opens i) (phase_of (after_request facts w who request answer refill) i)
  did_phase who (End how) answer refill i some active f =
      set_phase p (opens i) w.phases w.phases who i Active (Ended how) refl active (λ same. ap opens same ∙ active_open who active) (λ apart. k.phases i)
  did_phase who request answer refill i some active f =
      phase_moved p (opens i) (phase_of w i) (phase_of (after_request facts w who request answer refill) i) (k.phases i)
      (λ r send back a b waits chosen. did_brings p facts w i r send back a b waits (k.asked i r (subst (PhaseFits p (opens i)) waits (k.phases i))) who request answer refill f chosen)
      (did_moves facts w who request answer refill i some (λ is. is))

  did_line : (who ticks : ℕ) (request : Request) (answer : Answer) (refill : Option ℕ) (i : ℕ) → IsActive w who → FitsAnswer p request answer → IsOpenWith p (line_of i (before ++ Did who ticks request answer refill ∷ [])) (answers_of i (before ++ Did who ticks request answer refill ∷ [])) (opens i)
  did_line who ticks request answer refill i active fits = elim (cases_eq i who) [
    | inl same ↦ (
        let t : (who == i) ≡ true = eq-eqb who i (sym same) in
        let none : opens i ≡ None = ap opens same ∙ active_open who active in
        subst (λ (o : Option Request). IsOpenWith p (line_of i (before ++ Did who ticks request answer refill ∷ [])) (answers_of i (before ++ Did who ticks request answer refill ∷ [])) o) (sym none)
        (opened_on p i before (Did who ticks request answer refill) (ticks_of ticks ++ Ask request ∷ []) (answer ∷ []) None (if_true (who == i) (ticks_of ticks ++ Ask request ∷ []) [] t) (if_true (who == i) (answer ∷ []) [] t)
        (open_more p (line_of i before) (ticks_of ticks ++ Ask request ∷ []) (answers_of i before) (answer ∷ []) None (subst (λ (o : Option Request). IsOpenWith p (line_of i before) (answers_of i before) o) none (k.lines i)) (open_ticks p ticks (Ask request ∷ []) (answer ∷ []) None (fits, (refl, refl))))))
    | inr apart ↦ (
        let t : (who == i) ≡ false = differs who i apart in
        quiet_on p i before (Did who ticks request answer refill) (opens i) (if_false (who == i) (ticks_of ticks ++ Ask request ∷ []) [] t) (if_false (who == i) (answer ∷ []) [] t) (k.lines i))
  ]

  did_kept : (who ticks : ℕ) (request : Request) (answer : Answer) (refill : Option ℕ) → IsWell facts w → IsPossible facts w (Did who ticks request answer refill) → FitsText p request → KeptSome p (after facts w (Did who ticks request answer refill)) (before ++ Did who ticks request answer refill ∷ [])
  did_kept who ticks request answer refill well may f =
      let some = some_active w.phases who well.phases may.0.active in
      let fits : FitsAnswer p request answer = record { gives = did_gives facts w who ticks request answer refill well may; brings = answer_brings p facts w who request answer refill f k.modes k.store offers may.1 } in
      record {
        opens = opens;
        kept = record {
          modes = did_modes p facts w who request answer refill f offers k.modes;
          store = did_store_modes p facts w who request answer refill f k.store;
          phases = λ i. did_phase who request answer refill i some may.0.active f;
          asked = k.asked;
          lines = λ i. did_line who ticks request answer refill i may.0.active fits;
          births = births_on p before (Did who ticks request answer refill) f k.births;
        };
      }

  waits_phase : (who : ℕ) (request : Request) (i : ℕ) → IsActive w who → PhaseFits p (changed opens who (Some request) i) (phase_of (after_waits w who request) i)
  waits_phase who (Enter region) i active =
      set_phase p (changed opens who (Some (Enter region)) i) w.phases w.phases who i Active (Chosen Done (Some region)) refl active
      (λ same. (Enter region, changed_here opens who (Some (Enter region)) i same, record { gives = refl; brings = tt }))
      (λ apart. subst (λ (o : Option Request). PhaseFits p o (phase_of w i)) (sym (changed_elsewhere opens who (Some (Enter region)) i apart)) (k.phases i))
  waits_phase who request i active =
      set_phase p (changed opens who (Some request) i) w.phases _ who i Active (Waiting request (drawn w request) (last_of (held_by w who))) (freeing_kept w who (drawn w request) (last_of (held_by w who))) active
      (λ same. changed_here opens who (Some request) i same)
      (λ apart. subst (λ (o : Option Request). PhaseFits p o (phase_of w i)) (sym (changed_elsewhere opens who (Some request) i apart)) (k.phases i))

  waits_stores : (who : ℕ) (request : Request) → KeepsStores w (after_waits w who request)
  waits_stores who (Enter region) = (refl, refl, refl)
  waits_stores who request = freeing_stores w who (drawn w request) (last_of (held_by w who))

  changed_asked : (who : ℕ) (o : Option Request) (i : ℕ) (r : Request) → ((q : Request) → o ≡ Some q → FitsText p q) → changed opens who o i ≡ Some r → FitsText p r
  changed_asked who o i r f e = elim (cases_eq i who) [
    | inl same ↦ f r (sym (changed_here opens who o i same) ∙ e)
    | inr apart ↦ k.asked i r (sym (changed_elsewhere opens who o i apart) ∙ e)
  ]

  waits_line : (who ticks : ℕ) (request : Request) (i : ℕ) → IsActive w who → IsOpenWith p (line_of i (before ++ Waits who ticks request ∷ [])) (answers_of i (before ++ Waits who ticks request ∷ [])) (changed opens who (Some request) i)
  waits_line who ticks request i active = elim (cases_eq i who) [
    | inl same ↦ (
        let t : (who == i) ≡ true = eq-eqb who i (sym same) in
        let none : opens i ≡ None = ap opens same ∙ active_open who active in
        subst (λ (o : Option Request). IsOpenWith p (line_of i (before ++ Waits who ticks request ∷ [])) (answers_of i (before ++ Waits who ticks request ∷ [])) o) (sym (changed_here opens who (Some request) i same))
        (opened_on p i before (Waits who ticks request) (ticks_of ticks ++ Ask request ∷ []) [] (Some request) (if_true (who == i) (ticks_of ticks ++ Ask request ∷ []) [] t) refl
        (open_more p (line_of i before) (ticks_of ticks ++ Ask request ∷ []) (answers_of i before) [] (Some request) (subst (λ (o : Option Request). IsOpenWith p (line_of i before) (answers_of i before) o) none (k.lines i)) (open_ticks p ticks (Ask request ∷ []) [] (Some request) (refl, refl)))))
    | inr apart ↦ (
        let t : (who == i) ≡ false = differs who i apart in
        subst (λ (o : Option Request). IsOpenWith p (line_of i (before ++ Waits who ticks request ∷ [])) (answers_of i (before ++ Waits who ticks request ∷ [])) o) (sym (changed_elsewhere opens who (Some request) i apart))
        (quiet_on p i before (Waits who ticks request) (opens i) (if_false (who == i) (ticks_of ticks ++ Ask request ∷ []) [] t) refl (k.lines i)))
  ]

  waits_kept : (who ticks : ℕ) (request : Request) → IsPossible facts w (Waits who ticks request) → FitsText p request → KeptSome p (after facts w (Waits who ticks request)) (before ++ Waits who ticks request ∷ [])
  waits_kept who ticks request may f = record {
    opens = changed opens who (Some request);
    kept = record {
      modes = kept_modes p w (after_waits w who request) (waits_stores who request) k.modes;
      store = subst (StoreIsOfModes p) (sym (waits_stores who request).0) k.store;
      phases = λ i. waits_phase who request i may.0.active;
      asked = λ i r. changed_asked who (Some request) i r (λ q e. let is : request ≡ q = cc in subst (FitsText p) is f);
      lines = λ i. waits_line who ticks request i may.0.active;
      births = births_on p before (Waits who ticks request) f k.births;
    };
  }

  goes_line : (who : ℕ) (answer : Answer) (back : Option ℕ) (i : ℕ) → phase_of w who ≡ Some (Chosen answer back) → IsOpenWith p (line_of i (before ++ Goes who answer ∷ [])) (answers_of i (before ++ Goes who answer ∷ [])) (changed opens who None i)
  goes_line who answer back i chosen = elim (cases_eq i who) [
    | inl same ↦ (
        let t : (who == i) ≡ true = eq-eqb who i (sym same) in
        let c = subst (PhaseFits p (opens who)) chosen (k.phases who) in
        let some : opens i ≡ Some c.0 = ap opens same ∙ c.1 in
        subst (λ (o : Option Request). IsOpenWith p (line_of i (before ++ Goes who answer ∷ [])) (answers_of i (before ++ Goes who answer ∷ [])) o) (sym (changed_here opens who None i same))
        (opened_on p i before (Goes who answer) [] (answer ∷ []) None refl (if_true (who == i) (answer ∷ []) [] t)
        (subst (λ (l : List Item). IsOpenWith p l (answers_of i before ++ answer ∷ []) None) (sym (append-nil (line_of i before)))
        (open_goes p (line_of i before) (answers_of i before) c.0 answer (subst (λ (o : Option Request). IsOpenWith p (line_of i before) (answers_of i before) o) some (k.lines i)) c.2))))
    | inr apart ↦ (
        let t : (who == i) ≡ false = differs who i apart in
        subst (λ (o : Option Request). IsOpenWith p (line_of i (before ++ Goes who answer ∷ [])) (answers_of i (before ++ Goes who answer ∷ [])) o) (sym (changed_elsewhere opens who None i apart))
        (quiet_on p i before (Goes who answer) (opens i) refl (if_false (who == i) (answer ∷ []) [] t) (k.lines i)))
  ]

  goes_kept : (who : ℕ) (answer : Answer) → IsPossible facts w (Goes who answer) → KeptSome p (after facts w (Goes who answer)) (before ++ Goes who answer ∷ [])
  goes_kept who answer may =
      let back : Option ℕ = back_in (phase_of w who) in
      record {
        opens = changed opens who None;
        kept = record {
          modes = kept_modes p w (after facts w (Goes who answer)) (back_stores w who back) k.modes;
          store = subst (StoreIsOfModes p) (sym (back_stores w who back).0) k.store;
          phases = λ i. set_phase p (changed opens who None i) w.phases (locked_back w who back).phases who i (Chosen answer may.back) Active (back_kept w who back) may.chosen
              (λ same. changed_here opens who None i same)
              (λ apart. subst (λ (o : Option Request). PhaseFits p o (phase_of w i)) (sym (changed_elsewhere opens who None i apart)) (k.phases i));
          asked = λ i r. changed_asked who None i r (λ q e. absurd (let no : ⊥ = cc in no));
          lines = λ i. goes_line who answer may.back i may.chosen;
          births = births_on p before (Goes who answer) tt k.births;
        };
      }

  runs_line : (who ticks : ℕ) (i : ℕ) → IsActive w who → IsOpenWith p (line_of i (before ++ Runs who ticks ∷ [])) (answers_of i (before ++ Runs who ticks ∷ [])) (opens i)
  runs_line who ticks i active = elim (cases_eq i who) [
    | inl same ↦ (
        let t : (who == i) ≡ true = eq-eqb who i (sym same) in
        let none : opens i ≡ None = ap opens same ∙ active_open who active in
        subst (λ (o : Option Request). IsOpenWith p (line_of i (before ++ Runs who ticks ∷ [])) (answers_of i (before ++ Runs who ticks ∷ [])) o) (sym none)
        (opened_on p i before (Runs who ticks) (ticks_of ticks ++ []) [] None (if_true (who == i) (ticks_of ticks) [] t ∙ sym (append-nil (ticks_of ticks))) refl
        (open_more p (line_of i before) (ticks_of ticks ++ []) (answers_of i before) [] None (subst (λ (o : Option Request). IsOpenWith p (line_of i before) (answers_of i before) o) none (k.lines i)) (open_ticks p ticks [] [] None (refl, refl)))))
    | inr apart ↦ quiet_on p i before (Runs who ticks) (opens i) (if_false (who == i) (ticks_of ticks) [] (differs who i apart)) refl (k.lines i)
  ]

  pub step_kept : (event : Event) → IsWell facts w → IsPossible facts w event → AsksText p event → KeptSome p (after facts w event) (before ++ event ∷ [])
  step_kept (Did who ticks request answer refill) well may f = did_kept who ticks request answer refill well may f
  step_kept (Waits who ticks request) well may f = waits_kept who ticks request may f
  step_kept (Goes who answer) well may f = goes_kept who answer may
  step_kept (Runs who ticks) well may f = record {
    opens = opens;
    kept = record { modes = k.modes; store = k.store; phases = k.phases; asked = k.asked; lines = λ i. runs_line who ticks i may.0; births = births_on p before (Runs who ticks) tt k.births };
  }
