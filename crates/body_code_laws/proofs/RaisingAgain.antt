-- Where exceptions that a critical procedure lists are raised again, behind its way out.
use Rattle.std.proofs.Common.{◌≡◌, ℕ, zero, suc, ◌+◌, ◌<◌, ◌≤◌, ◌==◌, eqb-true, if◌then◌else◌, Bool, true, false, ◌&&◌, ◌||◌, List, [], ◌∷◌, ℤ, length, Option, Some, None, slice_get, refl, sym, ap, ◌∙◌, subst, arith}
use Rattle.std.specs.Prelude.{All}
use Rattle.std.specs.List.{filter}
use Rattle.std.proofs.lemmas.List.Elements.{All-head, All-tail}
use Rattle.kernel_base.specs.declared.ends.Exc.{Exc}
use Rattle.kernel_base.specs.declared.ends.Exc.TheVariants.{Overflow, Rangefail, Empty, Assertfail, Delayfail, Spacefail, Extinct, User}
use Rattle.world_model.specs.Session.{Session}
use Rattle.program_trees.specs.ProgramTree.{BodyRowTree, CheckedTree}
use Rattle.code_types.specs.declared.instr.Instr.{Instr}
use Rattle.code_types.specs.declared.instr.Instr.TheVariants as i
use Rattle.code_types.specs.declared.code.Handler.{Handler}
use Rattle.code_types.specs.Exceptions.{exception_number, exception_of}
use Rattle.code_types.specs.Places.{listed_of, names_exception, takes, taker}
use Rattle.code_types.specs.Actions.{Throws}
use Rattle.code_types.specs.State.{Frame, OpenRegion, Raising}
use Rattle.code_types.specs.Steps.{Run, At}
use Rattle.source_meaning.specs.Store.{Store}
use Rattle.code_scheme.specs.StatementPlain.{entered_by}
use Rattle.code_scheme.specs.StatementRows.{row_for}
use Rattle.code_scheme.specs.BodyItems.{is_among, listed_in, raise_again_code, raise_again_rows}
use Rattle.code_scheme.specs.BodyCode.{guarded_code, guarded_rows, site_in, body_code, body_rows, code_of}
use Rattle.follow_laws.specs.Follows.{HasAt, Around, state_at, here, Holds, GetsTo, RaisesIn}
use Rattle.follow_laws.proofs.Running.{is_there, gets_then, acts}
use Rattle.follow_laws.proofs.HandledRuns.{taker_right, lands}
use Rattle.code_laws.specs.Regions.{IsRaisedAgain}
use Rattle.code_laws.specs.StatementsInRange.{IsException}
use Rattle.code_laws.proofs.RaisedAgain.{raised_again as raised_again_law}
use Rattle.statement_code_laws.proofs.Joining.{untaken_behind}
use Rattle.body_code_laws.proofs.BodyStands.{around_in, IsGoodBody, whole_of}
use Rattle.body_code_laws.proofs.BodyRuns.{again_code, again_rows, doing_at, ending_at, again_at, raised_in_body, rows_of, again_inside, ends_inside, has_guarded, has_again, RowsAre, taker_inside}

-- ---- numbers of exceptions

pub number_there : (x : Exc) → exception_of (exception_number x) ≡ x
number_there Overflow = refl
number_there Rangefail = refl
number_there Empty = refl
number_there Assertfail = refl
number_there Delayfail = refl
number_there Spacefail = refl
number_there Extinct = refl
number_there (User k) = ap exception_of (let e : 7 + k ≡ suc (suc (suc (suc (suc (suc (suc k)))))) = omega arith in e)

-- a listed exception is one of the program
pub listed_there : (p : CheckedTree) (listed : List ℕ) (x : Exc) → All (IsException p) listed → names_exception listed x ≡ true → exception_number x < 7 + length p.exceptions
listed_there p [] x all e = absurd (let no : ⊥ = cc in no)
listed_there p (y ∷ listed) x all e = by_same (y == exception_number x) refl e (λ f. listed_there p listed x (All-tail (IsException p) y listed all) f)
  where
    by_same : (t : Bool) → (y == exception_number x) ≡ t → (t || names_exception listed x) ≡ true → (names_exception listed x ≡ true → exception_number x < 7 + length p.exceptions) → exception_number x < 7 + length p.exceptions
    by_same true is f others = subst (λ (k : ℕ). IsException p k) (eqb-true y (exception_number x) is) (All-head (IsException p) y listed all)
    by_same false is f others = others f

-- the code's bodies list what the program's do
pub listed_same : (p : CheckedTree) (bs : List BodyRowTree) (at k : ℕ) → listed_of (slice_get (body_rows p bs at) k) ≡ listed_in (slice_get bs k)
listed_same p [] at k = refl
listed_same p (b ∷ bs) at zero = refl
listed_same p (b ∷ bs) at (suc k) = listed_same p bs (at + length (body_code (site_in p b) at)) k

-- ---- rows

-- what takes it is behind the place of the first, and before the end of all
pub target_behind : (r from until : ℕ) (xs : List ℕ) (target place : ℕ) (x : Exc) (row : Handler) → taker (raise_again_rows from until xs target) place x ≡ Some row
    → (target ≤ row.target) × (row.target + 1 < target + length (raise_again_code r xs))
target_behind r from until [] target place x row e = absurd (let no : ⊥ = cc in no)
target_behind r from until (y ∷ xs) target place x row e = by_head (takes head place x) e (λ f. target_behind r from until xs (target + 2) place x row f)
  where
    head : Handler
    head = row_for from until (y ∷ []) false target

    by_head : (t : Bool) → (if t then Some head else taker (raise_again_rows from until xs (target + 2)) place x) ≡ Some row
        → (taker (raise_again_rows from until xs (target + 2)) place x ≡ Some row → (target + 2 ≤ row.target) × (row.target + 1 < target + 2 + length (raise_again_code r xs)))
        → (target ≤ row.target) × (row.target + 1 < target + length (raise_again_code r (y ∷ xs)))
    by_head true f others = let same : row.target ≡ target = (let is : head ≡ row = cc in ap (λ (h : Handler). h.target) (sym is)) in (omega (arith, same), omega (arith, same))
    by_head false f others = let rest = others f in (omega (arith, rest.0), omega (arith, rest.1))

not_true : {A : Type 0} (t : Bool) → t ≡ true → t ≡ false → A
not_true t e f = absurd (let no : ⊥ = cc in no)

no_take : (t u : Bool) → u ≡ false → (t && (false || (u || false))) ≡ false
no_take true u e = ap (λ (b : Bool). false || (b || false)) e
no_take false u e = refl

-- an exception that isn't listed has no row
pub unlisted_untaken : (listed : List ℕ) (from until : ℕ) (xs : List ℕ) (target place : ℕ) (x : Exc) → names_exception listed x ≡ false
    → taker (raise_again_rows from until (filter (λ y. is_among y listed) xs) target) place x ≡ None
unlisted_untaken listed from until [] target place x e = refl
unlisted_untaken listed from until (y ∷ xs) target place x e = by_listed (is_among y listed) refl (λ t. unlisted_untaken listed from until xs t place x e)
  where
    others : List ℕ
    others = filter (λ z. is_among z listed) xs

    by_same : is_among y listed ≡ true → (t : Bool) → (y == exception_number x) ≡ t → (y == exception_number x) ≡ false
    by_same is true same = not_true (names_exception listed x) (ap (λ (z : ℕ). is_among z listed) (sym (eqb-true y (exception_number x) same)) ∙ is) e
    by_same is false same = same

    by_listed : (t : Bool) → is_among y listed ≡ t → ((at : ℕ) → taker (raise_again_rows from until others at) place x ≡ None) → taker (raise_again_rows from until (if t then y ∷ others else others) target) place x ≡ None
    by_listed true is rest =
        let head : Handler = row_for from until (y ∷ []) false target in
        ap (λ (t : Bool). if t then Some head else taker (raise_again_rows from until others (target + 2)) place x) (no_take _ (y == exception_number x) (by_same is (y == exception_number x) refl))
        ∙ rest (target + 2)
    by_listed false is rest = rest target

-- ---- in a critical procedure

-- what the code's rows make of an exception that the items' don't take
pub again_taker : (p : CheckedTree) (k : ℕ) (body : BodyRowTree) (r place : ℕ) (x : Exc) → slice_get p.bodies k ≡ Some body → RowsAre p k body → entered_by body ≡ Some r
    → doing_at p k body ≤ place → place < ending_at p k body → taker (guarded_rows (site_in p body) (doing_at p k body)) place x ≡ None
    → taker (code_of p).handlers place x ≡ taker (raise_again_rows (doing_at p k body) (ending_at p k body) (raised_in_body p k body) (again_at p k body)) place x
again_taker p k body r place x is lie e low high untaken =
    taker_inside p k body place x is lie low (let f = ends_inside p k body in omega (arith, high, f))
    ∙ (taker_right (guarded_rows (site_in p body) (doing_at p k body)) (again_rows (entered_by body) (doing_at p k body) (ending_at p k body) (raised_in_body p k body) (again_at p k body)) place x untaken
    ∙ ap (λ (o : Option ℕ). taker (again_rows o (doing_at p k body) (ending_at p k body) (raised_in_body p k body) (again_at p k body)) place x) e)

-- The machine comes to where the region is left, behind which the exception is raised again.
pub record RaisesAgain (p : CheckedTree) (instance k : ℕ) (body : BodyRowTree) (below : List Frame) (regions : List OpenRegion) (m : Run) (r : ℕ) (x : Exc) (store : Store) (s : Session) : Type 0 where
  pub place : ℕ
  pub locals : List ℤ
  pub holds : Holds (around_in p instance k body below regions 0) store locals
  pub by : GetsTo (code_of p) m (here (around_in p instance k body below regions 0) place [] locals s)
  pub leaves : slice_get (code_of p).instrs place ≡ Some (i.Leave r)
  pub raises : slice_get (code_of p).instrs (place + 1) ≡ Some (i.Raise (exception_number x))
  pub untaken : taker (code_of p).handlers (place + 1) x ≡ None

pub again_lands : (p : CheckedTree) (instance k : ℕ) (body : BodyRowTree) (below : List Frame) (regions : List OpenRegion) (m : Run) (r : ℕ) (x : Exc) (store : Store) (s : Session)
    → IsGoodBody p k body → RowsAre p k body → entered_by body ≡ Some r → names_exception body.listed x ≡ true
    → RaisesIn (around_in p instance k body below regions 0) m (doing_at p k body) (ending_at p k body) (guarded_rows (site_in p body) (doing_at p k body)) x store s
    → RaisesAgain p instance k body below regions m r x store s
again_lands p instance k body below regions m r x store s good lie e names f =
    let w : Around = around_in p instance k body below regions 0 in
    let from : ℕ = doing_at p k body in
    let is : List Instr = guarded_code (site_in p body) from in
    let target : ℕ = again_at p k body in
    let xs : List ℕ = raised_in_body p k body in
    let has : HasAt (code_of p).instrs target (raise_again_code r xs) = subst (λ (o : Option ℕ). HasAt (code_of p).instrs target (again_code o xs)) e (has_again p k body good.is_body) in
    let again : IsRaisedAgain (code_of p) (raise_again_rows from (ending_at p k body) xs target) r f.place x =
    raised_again_law.critical p (code_of p) is body.listed r from target f.place x
    (record {
      has = has_guarded p k body good.is_body;
      low = f.from;
      high = f.until;
      listed = λ b. listed_same p p.bodies 0 b;
      arises = f.arises;
      there = listed_there p body.listed x (whole_of good).listed names;
    }) names has in
    let row : Handler = again.row in
    let bounds = target_behind r from (ending_at p k body) xs target f.place x row again.taken in
    let end = again_inside p k body in
    let long : length (again_code (entered_by body) xs) ≡ length (raise_again_code r xs) = ap (λ (o : Option ℕ). length (again_code o xs)) e in
    let high = ends_inside p k body in
    record {
      place = row.target;
      locals = f.locals;
      holds = f.holds;
      by = gets_then f.by (lands w f.place f.stack f.locals x row s (again_taker p k body r f.place x good.is_body lie e f.from f.until f.untaken ∙ again.taken) again.low);
      leaves = again.leaves;
      raises = again.raises;
      untaken = taker_inside p k body (row.target + 1) x good.is_body lie (omega (arith, bounds.0)) (omega (arith, bounds.1, end, long))
          ∙ untaken_behind (rows_of p k body) from (ending_at p k body) (row.target + 1) x lie.own (omega (arith, bounds.0));
    }

-- the instruction that raises it
pub raise_run : (w : Around) (x : Exc) (at : ℕ) (locals : List ℤ) (s : Session) → slice_get w.code.instrs at ≡ Some (i.Raise (exception_number x))
    → GetsTo w.code (here w at [] locals s) (At (state_at w (Raising x) at [] locals) s)
raise_run w x at locals s has =
    gets_then (acts w (i.Raise (exception_number x)) at [] [] locals s (Throws (exception_of (exception_number x))) has refl refl)
    (is_there w.code (At (state_at w (Raising (exception_of (exception_number x))) at [] locals) s) (At (state_at w (Raising x) at [] locals) s) (ap (λ (y : Exc). At (state_at w (Raising y) at [] locals) s) (number_there x)))
