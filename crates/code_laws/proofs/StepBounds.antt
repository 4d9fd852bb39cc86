-- The start, the step and the end of a loop that counts: each evaluated once and tested.
use Rattle.std.proofs.Common.{◌≡◌, ℕ, ◌+◌, ◌≤◌, if◌then◌else◌, Bool, true, false, ◌&&◌, List, [], ◌∷◌, ◌++◌, ℤ, pos, int_le, Option, Some, None, refl, sym, ap, ◌∙◌, subst, arith}
use Rattle.std.proofs.lemmas.Int.{ints}
use Rattle.kernel_base.specs.declared.ends.Exc.TheVariants.{Rangefail}
use Rattle.world_model.specs.Session.{Session}
use Rattle.modes.specs.declared.mode.Bounds.{Bounds}
use Rattle.modes.specs.ModeTree.{int}
use Rattle.modes.specs.Bounds.{bounds_of}
use Rattle.scalar_operators.specs.Numbers.{is_int, where_true, least_int, greatest_int}
use Rattle.program_trees.specs.ExprTree.{ExprTree, expr, constant, received, count_of}
use Rattle.code_types.specs.Steps.{Run}
use Rattle.source_meaning.specs.Store.{Store}
use Rattle.source_meaning.specs.Flow.{Flow, Goes, Raised, Exits, Returned, Stops, Gone, Bound, then_do}
use Rattle.source_meaning.specs.Operators.{sole_number, one}
use Rattle.source_meaning.specs.ExprMeaning.{Setting, or_rangefail, tested, expr_mean}
use Rattle.source_meaning.specs.StatementMeaning.{bound_mean, step_mean}
use Rattle.source_meaning.specs.BodyMeaning.{Bodies}
use Rattle.code_scheme.specs.StatementSite.{Standing, layout}
use Rattle.code_scheme.specs.StatementLoops.{step_bounds, where_step, constant_step, within_code, within_size, step_code, step_size}
use Rattle.follow_laws.specs.Follows.{HasAt, Around, here, Holds, HoldsWith, ComesBy, Follows, always, on_top, IsLong}
use Rattle.code_laws.specs.BodyBounds.{BodiesWithin}
use Rattle.code_laws.specs.StatementBounds.{value_within, some_value_within}
use Rattle.code_laws.specs.StatementsInRange.{FitsNumber, FitsSomeNumber}
use Rattle.code_laws.specs.Expressions.{Suited, NamesIn}
use Rattle.code_laws.specs.Statements.{calls_from}
use Rattle.follow_laws.specs.Follows.{free_in}
use Rattle.follow_laws.proofs.Running.{gets_then, comes}
use Rattle.follow_laws.proofs.Instructions.{renamed, sole}
use Rattle.code_laws.proofs.Values.{both_true}
use Rattle.code_laws.proofs.BetweenRuns.{both_yes}
use Rattle.code_laws.proofs.ExprRuns.{received_runs}
use Rattle.code_laws.proofs.LoopPieces.{value_here}
use Rattle.code_laws.proofs.StepValues.{IsStep}
use Rattle.code_laws.proofs.StepRuns.{IsConstant}

-- ---- a start or an end

abbrev pub InInt : Around → ℤ → Store → List ℤ → Type 0
InInt w z store locals = (is_int z ≡ true) × Holds w store locals

abbrev pub on_number : List ℤ → ℤ → List ℤ
on_number base z = base ++ one z

bound_goes : (w : Around) (m : Run) (lo hi to : ℕ) (base : List ℤ) (n : ℕ) (xs : List ℤ) (store : Store) (s : Session) (t : Bool) → n ≡ 1 → is_int (sole_number xs) ≡ t
    → ComesBy w m lo hi [] (always to) (on_top base) (HoldsWith w (IsLong n)) (if t then Goes xs store s else Raised Rangefail store s)
    → ComesBy w m lo hi [] (always to) (on_number base) (InInt w) (or_rangefail (where_true t (sole_number xs)) store s)
bound_goes w m lo hi to base n xs store s true one_is is f =
    record {
      locals = f.locals;
      holds = (is, f.holds.1);
      by = gets_then f.by (renamed w to to (base ++ xs) (base ++ one (sole_number xs)) f.locals s refl (ap (λ (l : List ℤ). base ++ l) (sole xs (f.holds.0 ∙ one_is))));
    }
bound_goes w m lo hi to base n xs store s false one_is is f = f

bound_comes : (w : Around) (m : Run) (lo hi to : ℕ) (base : List ℤ) (n : ℕ) (o : Flow (List ℤ)) → n ≡ 1
    → ComesBy w m lo hi [] (always to) (on_top base) (HoldsWith w (IsLong n)) (then_do o (tested (bounds_of int)))
    → ComesBy w m lo hi [] (always to) (on_number base) (InInt w) (then_do o (λ xs. or_rangefail (where_true (is_int (sole_number xs)) (sole_number xs))))
bound_comes w m lo hi to base n (Goes xs store s) one_is f = bound_goes w m lo hi to base n xs store s (is_int (sole_number xs)) one_is refl f
bound_comes w m lo hi to base n (Raised x store s) one_is f = f
bound_comes w m lo hi to base n (Exits k store s) one_is f = f
bound_comes w m lo hi to base n (Returned store s) one_is f = f
bound_comes w m lo hi to base n (Stops t inner store) one_is f = f
bound_comes w m lo hi to base n (Gone t) one_is f = f
bound_comes w m lo hi to base n Bound one_is f = tt

pub bound_run : (w : Around) (v : Setting) (st : Standing) (bodies : Bodies) (inside : BodiesWithin) (lo hi : ℕ) (e : ExprTree) (at to : ℕ) (base locals : List ℤ) (store : Store) (s : Session)
    → Suited w v (layout st.site) bodies inside → NamesIn w lo hi → st.free ≡ free_in w → FitsNumber (layout st.site) e
    → at + within_size (bounds_of int) e ≡ to → lo ≤ at → to ≤ hi → HasAt w.code.instrs at (within_code st (bounds_of int) e at)
    → value_within v (calls_from inside w) e store s ≡ true → Holds w store locals
    → Follows w (here w at base locals s) lo hi [] (always to) (on_number base) (InInt w) (bound_mean v e store s)
bound_run w v st bodies inside lo hi e at to base locals store s suited names free_is fits len low high has within h =
    record {
      by = bound_comes w (here w at base locals s) lo hi to base (count_of e) (expr_mean v e store s) fits.1
          (received_runs w v (layout st.site) bodies inside lo hi st.free (received e (bounds_of int)) at to base locals store s suited names free_is (fits.0, fits.1) len low high has (value_here w v st bodies inside e store s suited within) h).by;
    }

-- ---- a step

abbrev pub StepHolds : Around → Option ℤ → ℤ → Store → List ℤ → Type 0
StepHolds w cs by store locals = (IsStep by × IsConstant cs by) × Holds w store locals

step_goes : (w : Around) (m : Run) (lo hi to : ℕ) (base : List ℤ) (n : ℕ) (xs : List ℤ) (store : Store) (s : Session) (a b c : Bool) → n ≡ 1
    → int_le (pos 1) (sole_number xs) ≡ a → int_le (sole_number xs) greatest_int ≡ b → is_int (sole_number xs) ≡ c
    → ComesBy w m lo hi [] (always to) (on_top base) (HoldsWith w (IsLong n)) (if a && b then Goes xs store s else Raised Rangefail store s)
    → ComesBy w m lo hi [] (always to) (on_number base) (StepHolds w None) (then_do (or_rangefail (where_true c (sole_number xs)) store s) (λ z. or_rangefail (where_true (int_le (pos 1) z) z)))
step_goes w m lo hi to base n xs store s true true true one_is low high inside f =
    subst (λ (t : Bool). ComesBy w m lo hi [] (always to) (on_number base) (StepHolds w None) (or_rangefail (where_true t (sole_number xs)) store s)) (sym low)
    (record {
      locals = f.locals;
      holds = ((record { low = low; high = high }, tt), f.holds.1);
      by = gets_then f.by (renamed w to to (base ++ xs) (base ++ one (sole_number xs)) f.locals s refl (ap (λ (l : List ℤ). base ++ l) (sole xs (f.holds.0 ∙ one_is))));
    })
step_goes w m lo hi to base n xs store s true true false one_is low high inside f =
    let x : ℤ = sole_number xs in
    let above : int_le least_int x ≡ true = grind (arith, ints, low) in
    let yes : is_int x ≡ true = both_yes (int_le least_int x) (int_le x greatest_int) above high in
    absurd (let no : ⊥ = cc in no)
step_goes w m lo hi to base n xs store s true false true one_is low high inside f =
    let x : ℤ = sole_number xs in
    let below : int_le x greatest_int ≡ true = (both_true (int_le least_int x) (int_le x greatest_int) inside).1 in
    absurd (let no : ⊥ = cc in no)
step_goes w m lo hi to base n xs store s true false false one_is low high inside f = f
step_goes w m lo hi to base n xs store s false b true one_is low high inside f =
    subst (λ (t : Bool). ComesBy w m lo hi [] (always to) (on_number base) (StepHolds w None) (or_rangefail (where_true t (sole_number xs)) store s)) (sym low) f
step_goes w m lo hi to base n xs store s false b false one_is low high inside f = f

step_comes : (w : Around) (m : Run) (lo hi to : ℕ) (base : List ℤ) (n : ℕ) (o : Flow (List ℤ)) → n ≡ 1
    → ComesBy w m lo hi [] (always to) (on_top base) (HoldsWith w (IsLong n)) (then_do o (tested step_bounds))
    → ComesBy w m lo hi [] (always to) (on_number base) (StepHolds w None) (then_do (then_do o (λ xs. or_rangefail (where_true (is_int (sole_number xs)) (sole_number xs)))) (λ z. or_rangefail (where_true (int_le (pos 1) z) z)))
step_comes w m lo hi to base n (Goes xs store s) one_is f = step_goes w m lo hi to base n xs store s (int_le (pos 1) (sole_number xs)) (int_le (sole_number xs) greatest_int) (is_int (sole_number xs)) one_is refl refl refl f
step_comes w m lo hi to base n (Raised x store s) one_is f = f
step_comes w m lo hi to base n (Exits k store s) one_is f = f
step_comes w m lo hi to base n (Returned store s) one_is f = f
step_comes w m lo hi to base n (Stops t inner store) one_is f = f
step_comes w m lo hi to base n (Gone t) one_is f = f
step_comes w m lo hi to base n Bound one_is f = tt

-- what a step that is a constant comes to
pub record IsConstantStep (v : Setting) (step : Option ExprTree) (d : ℤ) (store : Store) (s : Session) : Type 0 where
  pub is_step : IsStep d
  pub means : step_mean v step store s ≡ Goes d store s

in_range : (t : Bool) (x d : ℤ) → (int_le (pos 1) x && int_le x greatest_int) ≡ t → (if t then Some x else None) ≡ Some d → (int_le (pos 1) x && int_le x greatest_int ≡ true) × (x ≡ d)
in_range true x d is e = (is, cc)
in_range false x d is e = absurd (let no : ⊥ = cc in no)

number_step : (v : Setting) (n : ℕ) (own : Option Bounds) (x d : ℤ) (store : Store) (s : Session) → where_step x ≡ Some d → IsConstantStep v (Some (expr n own (constant (x ∷ [])))) d store s
number_step v n own x d store s is =
    let found = in_range (int_le (pos 1) x && int_le x greatest_int) x d refl is in
    let parts = both_true (int_le (pos 1) x) (int_le x greatest_int) found.0 in
    let low = parts.0 in
    let above : int_le least_int x ≡ true = grind (arith, ints, low) in
    let inside : is_int x ≡ true = both_yes (int_le least_int x) (int_le x greatest_int) above parts.1 in
    record {
      is_step = subst (λ (z : ℤ). IsStep z) found.1 (record { low = parts.0; high = parts.1 });
      means = ap (λ (t : Bool). then_do (or_rangefail (where_true t x) store s) (λ z. or_rangefail (where_true (int_le (pos 1) z) z))) inside
          ∙ (ap (λ (t : Bool). or_rangefail (where_true t x) store s) parts.0 ∙ ap (λ (z : ℤ). Goes z store s) found.1);
    }

pub step_constant : (v : Setting) (step : Option ExprTree) (d : ℤ) (store : Store) (s : Session) → constant_step step ≡ Some d → IsConstantStep v step d store s
step_constant v None d store s is =
    let same : pos 1 ≡ d = cc in
    record { is_step = subst (λ (z : ℤ). IsStep z) same (record { low = refl; high = refl }); means = ap (λ (z : ℤ). Goes z store s) same }
step_constant v (Some (expr n own (constant (x ∷ [])))) d store s is = number_step v n own x d store s is
step_constant v (Some (expr n own o)) d store s is = absurd (let no : ⊥ = cc in no)

-- the start, and the step where it isn't a constant
abbrev pub with_step : Option ℤ → ℤ → ℤ → List ℤ
with_step (Some d) from by = from ∷ []
with_step None from by = from ∷ by ∷ []

pub step_part : (w : Around) (v : Setting) (st : Standing) (bodies : Bodies) (inside : BodiesWithin) (lo hi : ℕ) (cs : Option ℤ) (step : Option ExprTree) (from : ℤ) (at to : ℕ) (locals : List ℤ) (store : Store) (s : Session)
    → constant_step step ≡ cs
    → Suited w v (layout st.site) bodies inside → NamesIn w lo hi → st.free ≡ free_in w → FitsSomeNumber (layout st.site) step
    → at + step_size cs step ≡ to → lo ≤ at → to ≤ hi → HasAt w.code.instrs at (step_code st cs step at)
    → some_value_within v (calls_from inside w) step store s ≡ true → Holds w store locals
    → Follows w (here w at (one from) locals s) lo hi [] (always to) (with_step cs from) (StepHolds w cs) (step_mean v step store s)
step_part w v st bodies inside lo hi (Some d) step from at to locals store s is suited names free_is fits len low high has within h =
    let told = step_constant v step d store s is in
    subst (λ o. Follows w (here w at (one from) locals s) lo hi [] (always to) (with_step (Some d) from) (StepHolds w (Some d)) o) (sym told.means)
    (comes {v = d} (let e : at ≡ to = omega (arith, len) in e) refl ((told.is_step, refl), h))
step_part w v st bodies inside lo hi None None from at to locals store s is suited names free_is fits len low high has within h = absurd (let no : ⊥ = cc in no)
step_part w v st bodies inside lo hi None (Some e) from at to locals store s is suited names free_is fits len low high has within h =
    record {
      by = step_comes w (here w at (one from) locals s) lo hi to (one from) (count_of e) (expr_mean v e store s) fits.1
          (received_runs w v (layout st.site) bodies inside lo hi st.free (received e step_bounds) at to (one from) locals store s suited names free_is (fits.0, fits.1) len low high has (value_here w v st bodies inside e store s suited within) h).by;
    }
