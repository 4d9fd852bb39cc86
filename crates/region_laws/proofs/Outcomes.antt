-- Outcomes of statements: where control goes on, or out of them, the same regions are open.
use Rattle.std.proofs.Common.{◌≡◌, ◌<◌, ℕ, zero, suc, Bool, true, false, List, [], ◌∷◌, ◌++◌, refl, sym, ◌∙◌, arith, Option, Some, None}
use Rattle.std.specs.Prelude.{if◌then◌else◌}
use Rattle.kernel_base.specs.declared.ends.Exc.{Exc}
use Rattle.kernel_base.specs.declared.request.Request.TheVariants.{Enter, Leave}
use Rattle.world_model.specs.Session.{Session}
use Rattle.checked_program.specs.declared.program.Sort.TheVariants.{Outermost, Procedure}
use Rattle.program_trees.specs.ProgramTree.{CheckedTree}
use Rattle.source_meaning.specs.Store.{Store}
use Rattle.source_meaning.specs.Flow.{Flow, Goes, Raised, Exits, Returned, Stops, Gone, Bound, Meaning, then_do, done}
use Rattle.source_meaning.specs.ExprMeaning.{Setting}
use Rattle.source_meaning.specs.StatementMeaning.{is_open, opened, at_region, then_leave, ends_exit, labelled_as, caught, turns, turn_or_end}
use Rattle.source_meaning.specs.TypedStatements.{Around, StandsAtTop, labelled_around}
use Rattle.region_laws.proofs.Traces.{AsksWell, Stands, FlowIn, Keeps, Any, entered_comes, left_keeps, tick_comes}

-- As of other parts; besides, an EXIT leads to a statement around, and a RETURN out of a procedure.
abbrev pub FlowOut : {A : Type 0} → CheckedTree → List ℕ → Around → Flow A → Type 0
FlowOut p now at (Goes v store s) = Stands p now s.trace
FlowOut p now at (Raised x store s) = Stands p now s.trace
FlowOut p now at (Exits k store s) = (k < at.labels) × Stands p now s.trace
FlowOut p now at (Returned store s) = (at.sort ≡ Procedure) × Stands p now s.trace
FlowOut p now at (Stops t inner store) = AsksWell p [] t
FlowOut p now at (Gone t) = AsksWell p [] t
FlowOut p now at Bound = Unit {0}

abbrev pub Leads : {A : Type 0} → CheckedTree → List ℕ → Around → Meaning A → Type 0
Leads p now at part = (store : Store) (s : Session) → Stands p now s.trace → FlowOut p now at (part store s)

pub out : {A : Type 0} (p : CheckedTree) (now : List ℕ) (at : Around) (holds : A → Type 0) (f : Flow A) → FlowIn p now holds f → FlowOut p now at f
out p now at holds (Goes v store s) is = is.1
out p now at holds (Raised x store s) is = is
out p now at holds (Exits k store s) is = absurd is
out p now at holds (Returned store s) is = absurd is
out p now at holds (Stops t inner store) is = is
out p now at holds (Gone t) is = is
out p now at holds Bound is = tt

-- another part's value first
pub value_leads : {A B : Type 0} (p : CheckedTree) (now : List ℕ) (at : Around) (first : A → Type 0) (f : Flow A) (next : A → Meaning B)
    → FlowIn p now first f → ((v : A) → first v → Leads p now at (next v)) → FlowOut p now at (then_do f next)
value_leads p now at first (Goes v store s) next is all = all v is.0 store s is.1
value_leads p now at first (Raised x store s) next is all = is
value_leads p now at first (Exits k store s) next is all = absurd is
value_leads p now at first (Returned store s) next is all = absurd is
value_leads p now at first (Stops t inner store) next is all = is
value_leads p now at first (Gone t) next is all = is
value_leads p now at first Bound next is all = tt

pub then_leads : {A B : Type 0} (p : CheckedTree) (now : List ℕ) (at : Around) (f : Flow A) (next : A → Meaning B) → FlowOut p now at f → ((v : A) → Leads p now at (next v)) → FlowOut p now at (then_do f next)
then_leads p now at (Goes v store s) next is all = all v store s is
then_leads p now at (Raised x store s) next is all = is
then_leads p now at (Exits k store s) next is all = is
then_leads p now at (Returned store s) next is all = is
then_leads p now at (Stops t inner store) next is all = is
then_leads p now at (Gone t) next is all = is
then_leads p now at Bound next is all = tt

pub if_leads : {A : Type 0} (p : CheckedTree) (now : List ℕ) (at : Around) (b : Bool) (f g : Flow A) → FlowOut p now at f → FlowOut p now at g → FlowOut p now at (if b then f else g)
if_leads p now at true f g x y = x
if_leads p now at false f g x y = y

pub caught_leads : (p : CheckedTree) (now : List ℕ) (at : Around) (f : Flow (Unit {0})) (h : Exc → Meaning (Unit {0})) → FlowOut p now at f → ((x : Exc) → Leads p now at (h x)) → FlowOut p now at (caught f h)
caught_leads p now at (Goes v store s) h is all = is
caught_leads p now at (Raised x store s) h is all = all x store s is
caught_leads p now at (Exits k store s) h is all = is
caught_leads p now at (Returned store s) h is all = is
caught_leads p now at (Stops t inner store) h is all = is
caught_leads p now at (Gone t) h is all = is
caught_leads p now at Bound h is all = tt

exit_leads : (p : CheckedTree) (now : List ℕ) (at : Around) (f : Flow (Unit {0})) → FlowOut p now (labelled_around true at) f → FlowOut p now at (ends_exit f)
exit_leads p now at (Goes v store s) is = is
exit_leads p now at (Raised x store s) is = is
exit_leads p now at (Exits zero store s) is = is.1
exit_leads p now at (Exits (suc k) store s) is = (let low = is.0 in omega (arith, low), is.1)
exit_leads p now at (Returned store s) is = is
exit_leads p now at (Stops t inner store) is = is
exit_leads p now at (Gone t) is = is
exit_leads p now at Bound is = tt

pub labelled_leads : (p : CheckedTree) (now : List ℕ) (at : Around) (b : Bool) (f : Flow (Unit {0})) → FlowOut p now (labelled_around b at) f → FlowOut p now at (labelled_as b f)
labelled_leads p now at true f is = exit_leads p now at f is
labelled_leads p now at false f is = is

-- ---- regions

-- EXIT and RETURN don't lead out of a region, since it stands at the top.
leave_leads : (p : CheckedTree) (now : List ℕ) (at : Around) (r : ℕ) (f : Flow (Unit {0})) → StandsAtTop at → is_open r now ≡ false → FlowOut p (now ++ r ∷ []) at f → FlowOut p now at (then_leave r f)
leave_leads p now at r (Goes v store s) top shut is = out p now at Any (done (Leave r) store s) (left_keeps p now r store s shut is)
leave_leads p now at r (Raised x store s) top shut is = value_leads p now at Any (done (Leave r) store s) _ (left_keeps p now r store s shut is) (λ _ _ store1 s1 stands. stands)
leave_leads p now at r (Exits k store s) top shut is = absurd (let none = top.unlabelled in let low = is.0 in let f : ⊥ = omega (arith, none, low) in f)
leave_leads p now at r (Returned store s) top shut is = absurd (let e : Outermost ≡ Procedure = sym top.outermost ∙ is.0 in let f : ⊥ = cc in f)
leave_leads p now at r (Stops t inner store) top shut is = is
leave_leads p now at r (Gone t) top shut is = is
leave_leads p now at r Bound top shut is = tt

entering_leads : (p : CheckedTree) (at : Around) (w : Setting) (r : ℕ) (inside : Setting → Meaning (Unit {0})) (b : Bool) → is_open r w.open_now ≡ b → StandsAtTop at
    → (b ≡ true → Leads p w.open_now at (inside w))
    → (b ≡ false → Leads p (w.open_now ++ r ∷ []) at (inside (opened w r)))
    → (store : Store) (s : Session) → Stands p w.open_now s.trace
    → FlowOut p w.open_now at (if b then inside w store s else then_do (done (Enter r) store s) (λ _ store1 s1. then_leave r (inside (opened w r) store1 s1)))
entering_leads p at w r inside true is top open' shut store s stands = open' refl store s stands
entering_leads p at w r inside false is top open' shut store s stands =
    entered_comes p w.open_now r store s (λ f. FlowOut p w.open_now at (then_do f (λ _ store1 s1. then_leave r (inside (opened w r) store1 s1)))) is stands
    (λ trace well. well) (λ s1 stands1. leave_leads p w.open_now at r (inside (opened w r) store s1) top is (shut refl store s1 stands1))

pub region_leads : (p : CheckedTree) (at : Around) (w : Setting) (r : ℕ) (inside : Setting → Meaning (Unit {0})) → StandsAtTop at
    → (is_open r w.open_now ≡ true → Leads p w.open_now at (inside w))
    → (is_open r w.open_now ≡ false → Leads p (w.open_now ++ r ∷ []) at (inside (opened w r)))
    → Leads p w.open_now at (at_region (Some r) w inside)
region_leads p at w r inside top open' shut store s stands = entering_leads p at w r inside (is_open r w.open_now) refl top open' shut store s stands

-- ---- loops

turn_leads : {C : Type 0} (p : CheckedTree) (now : List ℕ) (at : Around) (o : Option C) (body : Meaning (Unit {0})) (again : C → Meaning (Unit {0})) → Leads p now at body → ((c : C) → Leads p now at (again c)) → Leads p now at (turn_or_end o body again)
turn_leads p now at None body again is all store s stands = stands
turn_leads p now at (Some c) body again is all store s stands =
    then_leads p now at (body store s) _ (is store s stands)
    (λ _ store1 s1 stands1. tick_comes p now store1 s1 (λ s2. again c store1 s2) (FlowOut p now at) stands1 (λ trace well. well) (λ s2 stands2. all c store1 s2 stands2))

pub turns_lead : {C : Type 0} (p : CheckedTree) (now : List ℕ) (at : Around) (n : ℕ) (test : C → Meaning (Option C)) (body : Meaning (Unit {0})) (c : C) → ((c : C) → Keeps p now Any (test c)) → Leads p now at body → Leads p now at (turns n test body c)
turns_lead p now at zero test body c tests is store s stands = tt
turns_lead p now at (suc n) test body c tests is store s stands =
    value_leads p now at Any (test c store s) _ (tests c store s stands) (λ o _. turn_leads p now at o body (turns n test body) is (λ c'. turns_lead p now at n test body c' tests is))
