-- Where the bodies of a program stand in its code.
use Rattle.std.proofs.Common.{◌≡◌, ◌+◌, ◌-◌, ◌≤◌, ◌<◌, ℕ, zero, suc, List, [], ◌∷◌, ◌++◌, length, length-append, take, refl, sym, ap, ◌∙◌, inl, inr, arith, Some, slice_get}
use Rattle.std.proofs.lemmas.Bool.{cases_lt}
use Rattle.code_types.specs.declared.instr.Instr.{Instr}
use Rattle.code_types.specs.declared.code.Code.{Code}
use Rattle.code_types.specs.declared.code.Handler.{Handler}
use Rattle.code_types.specs.Places.{first_of}
use Rattle.program_trees.specs.ProgramTree.{BodyRowTree, CheckedTree}
use Rattle.code_scheme.specs.BodyCode.{height_behind, heads_of, site_in, body_code, body_handlers, body_row, bodies_code, bodies_handlers, body_rows}
use Rattle.scheme_heights.specs.Stretches.{behind}

-- ---- items of lists one behind the other

pub front_item : {A : Type 0} (xs ys : List A) (k : ℕ) → k < length xs → slice_get (xs ++ ys) k ≡ slice_get xs k
front_item [] ys k low = absurd (let f : ⊥ = omega (arith, low) in f)
front_item (x ∷ xs) ys zero low = refl
front_item (x ∷ xs) ys (suc k) low = front_item xs ys k (omega (arith, low))

pub rest_item : {A : Type 0} (xs ys : List A) (k : ℕ) → slice_get (xs ++ ys) (length xs + k) ≡ slice_get ys k
rest_item [] ys k = ap (slice_get ys) (let e : 0 + k ≡ k = omega arith in e)
rest_item (x ∷ xs) ys k = ap (slice_get (x ∷ (xs ++ ys))) (let e : suc (length xs) + k ≡ suc (length xs + k) = omega arith in e) ∙ rest_item xs ys k

pub item_there : {A : Type 0} (xs : List A) (k : ℕ) → k < length xs → (x : A) × (slice_get xs k ≡ Some x)
item_there [] k low = absurd (let f : ⊥ = omega (arith, low) in f)
item_there (x ∷ xs) zero low = (x, refl)
item_there (x ∷ xs) (suc k) low = item_there xs k (omega (arith, low))

pub item_below : {A : Type 0} (xs : List A) (k : ℕ) (x : A) → slice_get xs k ≡ Some x → k < length xs
item_below [] k x is = absurd (let f : ⊥ = cc in f)
item_below (y ∷ xs) zero x is = omega arith
item_below (y ∷ xs) (suc k) x is = let low = item_below xs k x is in omega (arith, low)

-- ---- heights one behind the other

abbrev pub heights_from : Code → ℕ → List Instr → List ℕ
heights_from heads height [] = []
heights_from heads height (instr ∷ is) = height ∷ heights_from heads (height_behind heads instr height) is

pub heights_length : (heads : Code) (height : ℕ) (is : List Instr) → length (heights_from heads height is) ≡ length is
heights_length heads height [] = refl
heights_length heads height (instr ∷ is) = ap suc (heights_length heads (height_behind heads instr height) is)

pub heights_at : (heads : Code) (height : ℕ) (is : List Instr) (k : ℕ) → k < length is → slice_get (heights_from heads height is) k ≡ Some (behind heads height (take k is))
heights_at heads height [] k low = absurd (let f : ⊥ = omega (arith, low) in f)
heights_at heads height (instr ∷ is) zero low = refl
heights_at heads height (instr ∷ is) (suc k) low = heights_at heads (height_behind heads instr height) is k (omega (arith, low))

-- those of bodies one behind the other, each of which begins with none
abbrev pub bodies_heights : CheckedTree → List BodyRowTree → ℕ → List ℕ
bodies_heights p [] at = []
bodies_heights p (b ∷ bs) at = heights_from (heads_of p) 0 (body_code (site_in p b) at) ++ bodies_heights p bs (at + length (body_code (site_in p b) at))

-- ---- bodies

-- A body among others, the first of which has a place: so many instructions stand before it.
pub record Located (p : CheckedTree) (bs : List BodyRowTree) (at body : ℕ) (b : BodyRowTree) : Type 0 where
  pub is_body : slice_get bs body ≡ Some b
  pub skip : ℕ
  pub first : ℕ
  pub begins : first ≡ at + skip
  pub row : slice_get (body_rows p bs at) body ≡ Some (body_row (site_in p b) first)
  pub ends : first_of (slice_get (body_rows p bs at) (body + 1)) (at + length (bodies_code p bs at)) ≡ first + length (body_code (site_in p b) first)
  pub instrs : (k : ℕ) → k < length (body_code (site_in p b) first) → slice_get (bodies_code p bs at) (skip + k) ≡ slice_get (body_code (site_in p b) first) k
  pub heights : (k : ℕ) → k < length (body_code (site_in p b) first) → slice_get (bodies_heights p bs at) (skip + k) ≡ Some (behind (heads_of p) 0 (take k (body_code (site_in p b) first)))
  pub inside : skip + length (body_code (site_in p b) first) ≤ length (bodies_code p bs at)

next_first : (p : CheckedTree) (bs : List BodyRowTree) (at end : ℕ) → end ≡ at + length (bodies_code p bs at) → first_of (slice_get (body_rows p bs at) 0) end ≡ at
next_first p [] at end is = omega (arith, is)
next_first p (b ∷ bs) at end is = refl

-- the first one
here : (p : CheckedTree) (b : BodyRowTree) (bs : List BodyRowTree) (at : ℕ) → Located p (b ∷ bs) at 0 b
here p b bs at =
    let code = body_code (site_in p b) at in
    let rest = bodies_code p bs (at + length code) in
    let heights = heights_from (heads_of p) 0 code in
    let many = heights_length (heads_of p) 0 code in
    let all = length-append code rest in
    record {
      is_body = refl;
      skip = 0;
      first = at;
      begins = omega arith;
      row = refl;
      ends = ap (λ (k : ℕ). first_of (slice_get (body_rows p (b ∷ bs) at) k) (at + length (code ++ rest))) (let e : 0 + 1 ≡ 1 = omega arith in e) ∙ next_first p bs (at + length code) (at + length (code ++ rest)) (omega (arith, all));
      instrs = λ k low. ap (slice_get (code ++ rest)) (let e : 0 + k ≡ k = omega arith in e) ∙ front_item code rest k low;
      heights = λ k low. ap (slice_get (heights ++ bodies_heights p bs (at + length code))) (let e : 0 + k ≡ k = omega arith in e) ∙ (front_item heights (bodies_heights p bs (at + length code)) k (omega (arith, many, low)) ∙ heights_at (heads_of p) 0 code k low);
      inside = omega (arith, all);
    }

-- one behind the first
further : (p : CheckedTree) (c : BodyRowTree) (bs : List BodyRowTree) (at body : ℕ) (b : BodyRowTree) → Located p bs (at + length (body_code (site_in p c) at)) body b → Located p (c ∷ bs) at (suc body) b
further p c bs at body b located =
    let code = body_code (site_in p c) at in
    let n = length code in
    let rest = bodies_code p bs (at + n) in
    let heights = heights_from (heads_of p) 0 code in
    let many = heights_length (heads_of p) 0 code in
    let all = length-append code rest in
    let begins = located.begins in
    let inside = located.inside in
    record {
      is_body = located.is_body;
      skip = n + located.skip;
      first = located.first;
      begins = omega (arith, begins);
      row = located.row;
      ends =
          ap (λ (k : ℕ). first_of (slice_get (body_rows p (c ∷ bs) at) k) (at + length (code ++ rest))) (let e : suc body + 1 ≡ suc (body + 1) = omega arith in e)
          ∙ (ap (first_of (slice_get (body_rows p bs (at + n)) (body + 1))) (let e : at + length (code ++ rest) ≡ at + n + length rest = omega (arith, all) in e) ∙ located.ends);
      instrs = λ k low. ap (slice_get (code ++ rest)) (let e : n + located.skip + k ≡ n + (located.skip + k) = omega arith in e) ∙ (rest_item code rest (located.skip + k) ∙ located.instrs k low);
      heights = λ k low.
          ap (slice_get (heights ++ bodies_heights p bs (at + n))) (let e : n + located.skip + k ≡ length heights + (located.skip + k) = omega (arith, many) in e)
          ∙ (rest_item heights (bodies_heights p bs (at + n)) (located.skip + k) ∙ located.heights k low);
      inside = omega (arith, all, inside);
    }

-- each body is located
pub locate : (p : CheckedTree) (bs : List BodyRowTree) (at body : ℕ) → body < length bs → (b : BodyRowTree) × Located p bs at body b
locate p [] at body low = absurd (let f : ⊥ = omega (arith, low) in f)
locate p (b ∷ bs) at zero low = (b, here p b bs at)
locate p (c ∷ bs) at (suc body) low =
    let rest = locate p bs (at + length (body_code (site_in p c) at)) body (omega (arith, low)) in
    (rest.0, further p c bs at body rest.0 rest.1)

-- the body of a place
pub record Owned (p : CheckedTree) (bs : List BodyRowTree) (at place : ℕ) : Type 0 where
  pub body : ℕ
  pub b : BodyRowTree
  pub located : Located p bs at body b
  pub number : ℕ
  pub below : number < length (body_code (site_in p b) located.first)
  pub here : place ≡ located.skip + number

pub own : (p : CheckedTree) (bs : List BodyRowTree) (at place : ℕ) → place < length (bodies_code p bs at) → Owned p bs at place
unfolding here further
own p [] at place low = absurd (let f : ⊥ = omega (arith, low) in f)
own p (b ∷ bs) at place low = elim (cases_lt place (length (body_code (site_in p b) at))) [
  | inl less ↦ record { body = 0; b = b; located = here p b bs at; number = place; below = less; here = omega arith }
  | inr past ↦ (
      let n = length (body_code (site_in p b) at) in
      let all = length-append (body_code (site_in p b) at) (bodies_code p bs (at + n)) in
      let rest = own p bs (at + n) (place - n) (omega (arith, low, all, past)) in
      let there = rest.here in
      record { body = suc rest.body; b = rest.b; located = further p b bs at rest.body rest.b rest.located; number = rest.number; below = rest.below; here = omega (arith, there, past) })
]

-- the body of a handler's row
pub record OwnedRow (p : CheckedTree) (bs : List BodyRowTree) (at : ℕ) (row : Handler) : Type 0 where
  pub body : ℕ
  pub b : BodyRowTree
  pub located : Located p bs at body b
  pub number : ℕ
  pub is_row : slice_get (body_handlers (site_in p b) located.first) number ≡ Some row

pub own_row : (p : CheckedTree) (bs : List BodyRowTree) (at k : ℕ) (row : Handler) → slice_get (bodies_handlers p bs at) k ≡ Some row → OwnedRow p bs at row
unfolding here further
own_row p [] at k row is = absurd (let f : ⊥ = cc in f)
own_row p (b ∷ bs) at k row is = elim (cases_lt k (length (body_handlers (site_in p b) at))) [
  | inl less ↦ record { body = 0; b = b; located = here p b bs at; number = k; is_row = sym (front_item (body_handlers (site_in p b) at) (bodies_handlers p bs (at + length (body_code (site_in p b) at))) k less) ∙ is }
  | inr past ↦ (
      let own_rows = body_handlers (site_in p b) at in
      let n = length (body_code (site_in p b) at) in
      let others = bodies_handlers p bs (at + n) in
      let e : length own_rows + (k - length own_rows) ≡ k = omega (arith, past) in
      let there = sym (rest_item own_rows others (k - length own_rows)) ∙ (ap (slice_get (own_rows ++ others)) e ∙ is) in
      let rest = own_row p bs (at + n) (k - length own_rows) row there in
      record { body = suc rest.body; b = rest.b; located = further p b bs at rest.body rest.b rest.located; number = rest.number; is_row = rest.is_row })
]

pub rows_length : (p : CheckedTree) (bs : List BodyRowTree) (at : ℕ) → length (body_rows p bs at) ≡ length bs
rows_length p [] at = refl
rows_length p (b ∷ bs) at = ap suc (rows_length p bs (at + length (body_code (site_in p b) at)))

pub all_heights_length : (p : CheckedTree) (bs : List BodyRowTree) (at : ℕ) → length (bodies_heights p bs at) ≡ length (bodies_code p bs at)
all_heights_length p [] at = refl
all_heights_length p (b ∷ bs) at =
    let code = body_code (site_in p b) at in
    let n = length code in
    let a = length-append (heights_from (heads_of p) 0 code) (bodies_heights p bs (at + n)) in
    let c = length-append code (bodies_code p bs (at + n)) in
    let h = heights_length (heads_of p) 0 code in
    let rest = all_heights_length p bs (at + n) in
    omega (arith, a, c, h, rest)
