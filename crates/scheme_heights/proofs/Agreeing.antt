-- What the places of a program's code have that its guard asks for.
use Rattle.std.proofs.Common.{◌≡◌, ◌⊎◌, ◌+◌, ◌-◌, ◌≤◌, ◌<◌, max, ℕ, zero, suc, Bool, true, false, List, [], ◌∷◌, length, take, refl, sym, ap, ◌∙◌, subst, inl, inr, arith, Some, slice_get, All}
use Rattle.std.specs.Prelude.{IsTrue, IsFalse}
use Rattle.std.proofs.lemmas.Option.{slice_get-get_or}
use Rattle.std.proofs.lemmas.List.{length-map}
use Rattle.std.proofs.Common.{get_or, map}
use Rattle.code_types.specs.declared.instr.Instr.{Instr}
use Rattle.code_types.specs.declared.instr.Instr.TheVariants as i
use Rattle.code_types.specs.declared.code.Code.{Code}
use Rattle.code_types.specs.declared.code.Handler.{Handler}
use Rattle.code_types.specs.declared.code.BodyRow.{BodyRow}
use Rattle.code_types.specs.Places.{first_of, params_of, results_of, end_of, pops, finds, height_after, is_last, jump_of}
use Rattle.code_types.specs.Agreement.{StandsIn, IsNamed, HasHeight}
use Rattle.program_trees.specs.ProgramTree.{LocalRowTree, BodyRowTree, CheckedTree}
use Rattle.code_scheme.specs.StatementSite.{scalars_in, call_results}
use Rattle.code_scheme.specs.BodyCode.{height_behind, head_of, heads_of, greatest_height, locals_named, most_locals, results_by, site_in, body_code, body_handlers, body_row, bodies_code, body_rows, code_of}
use Rattle.scheme_heights.specs.Stretches.{behind, IsNamedIn, Outlets, Led, none_led, led_behind}
use Rattle.scheme_heights.specs.Closed.{Meets, inside_or, IsMove, AreMoves, IsRowIn, AreRowsIn, IsBlock, leads_out}
use Rattle.scheme_heights.specs.StatementCounts.{ProgramFits}
use Rattle.scheme_heights.proofs.Bodies.{body_block}
use Rattle.scheme_heights.proofs.Located.{item_below, bodies_heights, Located, locate, rows_length}

pub each : {A : Type 0} (P : A → Type 0) (xs : List A) → ((k : ℕ) (x : A) → slice_get xs k ≡ Some x → P x) → All P xs
each P xs known = λ k d low. known k (get_or xs k d) (slice_get-get_or xs k d low)

-- ---- rows of bodies as calls ask for them

pub same_params : (p : CheckedTree) (bs : List BodyRowTree) (at k : ℕ) → params_of (slice_get (body_rows p bs at) k) ≡ params_of (slice_get (map head_of bs) k)
same_params p [] at k = refl
same_params p (b ∷ bs) at zero = refl
same_params p (b ∷ bs) at (suc k) = same_params p bs (at + length (body_code (site_in p b) at)) k

pub same_results : (p : CheckedTree) (bs : List BodyRowTree) (at k : ℕ) → ((j : ℕ) (b : BodyRowTree) → slice_get bs j ≡ Some b → results_by b.sort b ≡ call_results b) → results_of (slice_get (body_rows p bs at) k) ≡ results_of (slice_get (map head_of bs) k)
same_results p [] at k known = refl
same_results p (b ∷ bs) at zero known = known 0 b refl
same_results p (b ∷ bs) at (suc k) known = same_results p bs (at + length (body_code (site_in p b) at)) k (λ j c is. known (suc j) c is)

-- codes of which calls ask the same
pub record AlikeAtCalls (code heads : Code) : Type 0 where
  pub params : (k : ℕ) → params_of (slice_get code.bodies k) ≡ params_of (slice_get heads.bodies k)
  pub results : (k : ℕ) → results_of (slice_get code.bodies k) ≡ results_of (slice_get heads.bodies k)
  pub many : length code.bodies ≡ length heads.bodies

pub same_finds : (code heads : Code) (body : ℕ) (instr : Instr) → AlikeAtCalls code heads → finds code body instr ≡ finds heads body instr
same_finds code heads body (i.Call k) alike = alike.params k
same_finds code heads body i.Return alike = alike.results body
same_finds code heads body instr alike = refl

pub pops_found : (code : Code) (body : ℕ) (instr : Instr) → pops code body instr ≤ finds code body instr
pops_found code body (i.Copy n) = omega arith
pops_found code body (i.Check low high) = omega arith
pops_found code body instr = omega arith

-- an instruction but Return
abbrev pub GoesFurther : Instr → Type 0
GoesFurther i.Return = ⊥
GoesFurther instr = Unit {0}

pub same_height : (code heads : Code) (body height : ℕ) (instr : Instr) → AlikeAtCalls code heads → GoesFurther instr → height_after code body instr height ≡ height_behind heads instr height
same_height code heads body height (i.Call k) alike goes = let a = alike.params k in let b = alike.results k in omega (arith, a, b)
same_height code heads body height i.Return alike goes = absurd goes
same_height code heads body height instr alike goes = refl

pub jumps_further : (instr : Instr) (to : ℕ) → jump_of instr ≡ Some to → GoesFurther instr
jumps_further i.Return to jump = absurd (let f : ⊥ = cc in f)
jumps_further instr to jump = tt

pub goes_further : (instr : Instr) → IsFalse (is_last instr) → GoesFurther instr
goes_further i.Return on = absurd (let f : ⊥ = cc in f)
goes_further instr on = tt

-- ---- what is named

pub names_known : (code heads : Code) (row : BodyRow) (instr : Instr) → AlikeAtCalls code heads → locals_named instr ≤ row.locals → IsNamedIn heads instr → IsNamed code row instr
names_known code heads row (i.Local first count) alike low named = low
names_known code heads row (i.SetLocal first count) alike low named = low
names_known code heads row (i.LocalAt first count) alike low named = low
names_known code heads row (i.SetLocalAt first count) alike low named = low
names_known code heads row (i.Part first count of) alike low named = named
names_known code heads row (i.Call callee) alike low named = let m = alike.many in omega (arith, m, named)
names_known code heads row (i.Start process count) alike low named = let m = alike.many in omega (arith, m, named)
names_known code heads row instr alike low named = tt

pub locals_more : (n : ℕ) (is : List Instr) → n ≤ most_locals n is
locals_more n [] = omega arith
locals_more n (instr ∷ is) = let m = locals_more (max n (locals_named instr)) is in omega (arith, m)

pub locals_there : (n : ℕ) (is : List Instr) (k : ℕ) (instr : Instr) → slice_get is k ≡ Some instr → locals_named instr ≤ most_locals n is
locals_there n [] k instr is_instr = absurd (let f : ⊥ = cc in f)
locals_there n (x ∷ is) zero instr is_instr =
    let same : x ≡ instr = cc in
    let m = locals_more (max n (locals_named x)) is in
    subst (λ (y : Instr). locals_named y ≤ most_locals (max n (locals_named x)) is) same (omega (arith, m))
locals_there n (x ∷ is) (suc k) instr is_instr = locals_there (max n (locals_named x)) is k instr is_instr

pub taken_scalars : (n : ℕ) (rows : List LocalRowTree) → scalars_in (take n rows) ≤ scalars_in rows
taken_scalars zero rows = omega arith
taken_scalars (suc n) [] = omega arith
taken_scalars (suc n) (row ∷ rows) = let rest = taken_scalars n rows in omega (arith, rest)

-- ---- heights

pub greatest_more : (heads : Code) (height greatest : ℕ) (is : List Instr) → greatest ≤ greatest_height heads height greatest is
greatest_more heads height greatest [] = omega arith
greatest_more heads height greatest (instr ∷ is) = let m = greatest_more heads (height_behind heads instr height) (max greatest (height_behind heads instr height)) is in omega (arith, m)

pub greatest_there : (heads : Code) (height greatest : ℕ) (is : List Instr) (k : ℕ) → height ≤ greatest → behind heads height (take k is) ≤ greatest_height heads height greatest is
greatest_there heads height greatest is zero low = let m = greatest_more heads height greatest is in omega (arith, m, low)
greatest_there heads height greatest [] (suc k) low = low
greatest_there heads height greatest (instr ∷ is) (suc k) low =
    greatest_there heads (height_behind heads instr height) (max greatest (height_behind heads instr height)) is k (omega arith)

-- ---- instructions of closed code

-- where jumps before an instruction lead
abbrev pub led_before : Led → List Instr → ℕ → Led
led_before led [] k = led
led_before led (instr ∷ is) zero = led
led_before led (instr ∷ is) (suc k) = led_before (led_behind led instr) is k

pub move_at : (heads : Code) (body : ℕ) (comes : Outlets) (led : Led) (at height : ℕ) (is : List Instr) (k : ℕ) (instr : Instr) → AreMoves heads body comes led at height is → slice_get is k ≡ Some instr → IsMove heads body comes (led_before led is k) (at + k) (behind heads height (take k is)) instr
move_at heads body comes led at height [] k instr moves is_instr = absurd (let f : ⊥ = cc in f)
move_at heads body comes led at height (x ∷ is) zero instr moves is_instr =
    let same : x ≡ instr = cc in
    subst (λ (p : ℕ). IsMove heads body comes led p height instr) (let e : at ≡ at + 0 = omega arith in e) (subst (λ (y : Instr). IsMove heads body comes led at height y) same moves.0)
move_at heads body comes led at height (x ∷ is) (suc k) instr moves is_instr =
    subst (λ (p : ℕ). IsMove heads body comes (led_before (led_behind led x) is k) p (behind heads (height_behind heads x height) (take k is)) instr) (let e : at + 1 + k ≡ at + suc k = omega arith in e)
    (move_at heads body comes (led_behind led x) (at + 1) (height_behind heads x height) is k instr moves.1 is_instr)

-- an earlier instruction jumps to the place
pub record JumpsThere (is : List Instr) (below to : ℕ) : Type 0 where
  pub number : ℕ
  pub instr : Instr
  pub early : number < below
  pub is_instr : slice_get is number ≡ Some instr
  pub jumps : jump_of instr ≡ Some to

pub led_there : (led : Led) (is : List Instr) (k to : ℕ) → led_before led is k to → led to ⊎ JumpsThere is k to
led_there led [] k to known = inl known
led_there led (instr ∷ is) zero to known = inl known
led_there led (instr ∷ is) (suc k) to known = elim (led_there (led_behind led instr) is k to known) [
  | inl (inl before) ↦ inl before
  | inl (inr jumps) ↦ inr (record { number = 0; instr = instr; early = omega arith; is_instr = refl; jumps = jumps })
  | inr later ↦ inr (record { number = suc later.number; instr = later.instr; early = let e = later.early in omega (arith, e); is_instr = later.is_instr; jumps = later.jumps })
]

pub row_at : (heads : Code) (low : ℕ) (outlets : Outlets) (at : ℕ) (is : List Instr) (rows : List Handler) (k : ℕ) (row : Handler) → AreRowsIn heads low outlets at is rows → slice_get rows k ≡ Some row → IsRowIn heads low outlets at is row
row_at heads low outlets at is [] k row known is_row = absurd (let f : ⊥ = cc in f)
row_at heads low outlets at is (x ∷ rows) zero row known is_row = let same : x ≡ row = cc in subst (IsRowIn heads low outlets at is) same known.0
row_at heads low outlets at is (x ∷ rows) (suc k) row known is_row = row_at heads low outlets at is rows k row known.1 is_row

-- nothing leads out of a body
pub stays : (heads : Code) (at : ℕ) (is : List Instr) (to k : ℕ) → inside_or heads at 0 is (leads_out false 0 []) to k → Meets heads at 0 is to k
stays heads at is to k (inl meets) = meets
stays heads at is to k (inr out) = elim out.1 [
  | inl on ↦ absurd (let e : false ≡ true = on.0 in let f : ⊥ = cc in f)
  | inr none ↦ absurd none
]

-- ---- the code of a program

pub alike : (p : CheckedTree) → ProgramFits p → AlikeAtCalls (code_of p) (heads_of p)
alike p fits = record {
  params = same_params p p.bodies 0;
  results = λ k. same_results p p.bodies 0 k (λ j b is. let body = fits.bodies j b is in body.results);
  many = let a = rows_length p p.bodies 0 in let b = length-map p.bodies head_of in omega (arith, a, b);
}

abbrev pub heights_of : CheckedTree → List ℕ
heights_of p = bodies_heights p p.bodies 0

abbrev pub code_at : (p : CheckedTree) (body : ℕ) (b : BodyRowTree) → Located p p.bodies 0 body b → List Instr
code_at p body b located = body_code (site_in p b) located.first

pub block_at : (p : CheckedTree) (body : ℕ) (b : BodyRowTree) → ProgramFits p → (located : Located p p.bodies 0 body b) → IsBlock (heads_of p) body (leads_out false 0 []) located.first (code_at p body b located) (body_handlers (site_in p b) located.first) (length (code_at p body b located))
block_at p body b fits located = body_block p b body located.first 0 located.is_body (fits.bodies body b located.is_body)

-- a place that control comes to in a body has its height
pub has_height : (p : CheckedTree) (body : ℕ) (b : BodyRowTree) (located : Located p p.bodies 0 body b) (to k : ℕ) → Meets (heads_of p) located.first 0 (code_at p body b located) to k → HasHeight (heights_of p) to k
has_height p body b located to k meets =
    let from = meets.from in
    let until = meets.until in
    let begins = located.begins in
    ap (slice_get (heights_of p)) (let e : to ≡ located.skip + (to - located.first) = omega (arith, from, begins) in e) ∙ (located.heights (to - located.first) (omega (arith, from, until)) ∙ ap Some meets.same)

-- An instruction that stands in a body.
pub record Inside (p : CheckedTree) (body : ℕ) (row : BodyRow) (place : ℕ) (instr : Instr) : Type 0 where
  pub b : BodyRowTree
  pub located : Located p p.bodies 0 body b
  pub number : ℕ
  pub row_is : body_row (site_in p b) located.first ≡ row
  pub here : place ≡ located.first + number
  pub below : number < length (body_code (site_in p b) located.first)
  pub is_instr : slice_get (body_code (site_in p b) located.first) number ≡ Some instr
  pub end_is : end_of (code_of p) body ≡ located.first + length (body_code (site_in p b) located.first)

pub end_known : (p : CheckedTree) (body : ℕ) (b : BodyRowTree) (located : Located p p.bodies 0 body b) → end_of (code_of p) body ≡ located.first + length (code_at p body b located)
end_known p body b located = ap (first_of (slice_get (body_rows p p.bodies 0) (body + 1))) (let e : length (bodies_code p p.bodies 0) ≡ 0 + length (bodies_code p p.bodies 0) = omega arith in e) ∙ located.ends

pub inside : (p : CheckedTree) (body : ℕ) (row : BodyRow) (place : ℕ) (instr : Instr) → StandsIn (code_of p) body row place instr → Inside p body row place instr
inside p body row place instr stands =
    let low = item_below (body_rows p p.bodies 0) body row stands.is_body in
    let many = rows_length p p.bodies 0 in
    let found = locate p p.bodies 0 body (omega (arith, low, many)) in
    let located = found.1 in
    let row_is : body_row (site_in p found.0) located.first ≡ row = (let a = located.row in let c = stands.is_body in cc) in
    let end_is = end_known p body found.0 located in
    let from : located.first ≤ place = subst (λ (r : BodyRow). r.first ≤ place) (sym row_is) stands.from in
    let until = stands.until in
    let begins = located.begins in
    let number = place - located.first in
    let below : number < length (body_code (site_in p found.0) located.first) = omega (arith, from, until, end_is) in
    let same : located.skip + number ≡ place = omega (arith, from, begins) in
    record {
      b = found.0;
      located = located;
      number = number;
      row_is = row_is;
      here = omega (arith, from);
      below = below;
      is_instr = sym (located.instrs number below) ∙ (ap (slice_get (bodies_code p p.bodies 0)) same ∙ stands.is_instr);
      end_is = end_is;
    }

-- what is known of it
abbrev pub MoveOf : (p : CheckedTree) (body : ℕ) (row : BodyRow) (place : ℕ) (instr : Instr) → Inside p body row place instr → Type 0
MoveOf p body row place instr it =
    IsMove (heads_of p) body (inside_or (heads_of p) it.located.first 0 (body_code (site_in p it.b) it.located.first) (leads_out false 0 [])) (led_before none_led (body_code (site_in p it.b) it.located.first) it.number) (it.located.first + it.number)
    (behind (heads_of p) 0 (take it.number (body_code (site_in p it.b) it.located.first))) instr

pub move_of : (p : CheckedTree) (body : ℕ) (row : BodyRow) (place : ℕ) (instr : Instr) → ProgramFits p → (it : Inside p body row place instr) → MoveOf p body row place instr it
move_of p body row place instr fits it =
    let block = block_at p body it.b fits it.located in
    move_at (heads_of p) body _ none_led it.located.first 0 (body_code (site_in p it.b) it.located.first) it.number instr block.closed.moves it.is_instr

pub height_of : (p : CheckedTree) (body : ℕ) (row : BodyRow) (place : ℕ) (instr : Instr) (it : Inside p body row place instr) (height : ℕ) → HasHeight (heights_of p) place height → behind (heads_of p) 0 (take it.number (body_code (site_in p it.b) it.located.first)) ≡ height
height_of p body row place instr it height has =
    let located = it.located in
    let here = it.here in
    let begins = located.begins in
    let same : located.skip + it.number ≡ place = omega (arith, here, begins) in
    let a : Some (behind (heads_of p) 0 (take it.number (body_code (site_in p it.b) it.located.first))) ≡ Some height = sym (located.heights it.number it.below) ∙ (ap (slice_get (heights_of p)) same ∙ has) in
    cc

pub bool_cases : (b : Bool) → IsTrue b ⊎ IsFalse b
bool_cases true = inl refl
bool_cases false = inr refl

pub behind_next : (heads : Code) (height : ℕ) (is : List Instr) (k : ℕ) (instr : Instr) → slice_get is k ≡ Some instr → behind heads height (take (suc k) is) ≡ height_behind heads instr (behind heads height (take k is))
behind_next heads height [] k instr is_instr = absurd (let f : ⊥ = cc in f)
behind_next heads height (x ∷ is) zero instr is_instr = let same : x ≡ instr = cc in ap (λ (y : Instr). height_behind heads y height) same
behind_next heads height (x ∷ is) (suc k) instr is_instr = behind_next heads (height_behind heads x height) is k instr is_instr
