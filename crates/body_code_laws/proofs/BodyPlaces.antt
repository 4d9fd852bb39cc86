-- Where the bodies of a program stand in its code, and whose rows take what is raised there.
use Rattle.std.proofs.Common.{◌≡◌, ℕ, zero, suc, ◌+◌, ◌<◌, ◌≤◌, List, [], ◌∷◌, length, Some, slice_get, refl, sym, ap, ◌∙◌, subst, arith, length-append}
use Rattle.kernel_base.specs.declared.ends.Exc.{Exc}
use Rattle.program_trees.specs.ProgramTree.{BodyRowTree, CheckedTree}
use Rattle.code_types.specs.declared.instr.Instr.{Instr}
use Rattle.code_types.specs.declared.code.Handler.{Handler}
use Rattle.code_types.specs.Places.{first_of, end_of, taker}
use Rattle.code_scheme.specs.BodyCode.{site_in, body_code, body_handlers, body_row, bodies_code, bodies_handlers, body_rows, code_of}
use Rattle.follow_laws.specs.Follows.{HasAt}
use Rattle.follow_laws.proofs.Running.{has_front, has_back}
use Rattle.statement_code_laws.specs.Parts.{LieIn}
use Rattle.statement_code_laws.proofs.Joining.{lie_wider, lie_both, embeds_left, embeds_right}

-- the place of a body's first instruction, where those of the first one have this place
abbrev pub first_at : CheckedTree → List BodyRowTree → ℕ → ℕ → ℕ
first_at p [] at k = at
first_at p (b ∷ bs) at zero = at
first_at p (b ∷ bs) at (suc k) = first_at p bs (at + length (body_code (site_in p b) at)) k

-- how many instructions a body has that stands from a place on
abbrev pub body_length : CheckedTree → BodyRowTree → ℕ → ℕ
body_length p b at = length (body_code (site_in p b) at)

some_same : {A : Type 0} (a b : A) → Some a ≡ Some b → a ≡ b
some_same a b e = cc

pub first_low : (p : CheckedTree) (bs : List BodyRowTree) (at k : ℕ) → at ≤ first_at p bs at k
first_low p [] at k = omega arith
first_low p (b ∷ bs) at zero = omega arith
first_low p (b ∷ bs) at (suc k) = let low = first_low p bs (at + body_length p b at) k in omega (arith, low)

row_at : (p : CheckedTree) (bs : List BodyRowTree) (at k : ℕ) (b : BodyRowTree) → slice_get bs k ≡ Some b → slice_get (body_rows p bs at) k ≡ Some (body_row (site_in p b) (first_at p bs at k))
row_at p [] at k b is = absurd (let no : ⊥ = cc in no)
row_at p (c ∷ bs) at zero b is = ap (λ (d : BodyRowTree). Some (body_row (site_in p d) at)) (some_same c b is)
row_at p (c ∷ bs) at (suc k) b is = row_at p bs (at + body_length p c at) k b is

next_first : (p : CheckedTree) (bs : List BodyRowTree) (at end : ℕ) → end ≡ at + length (bodies_code p bs at) → first_of (slice_get (body_rows p bs at) 0) end ≡ at
next_first p [] at end is = omega (arith, is)
next_first p (b ∷ bs) at end is = refl

end_at : (p : CheckedTree) (bs : List BodyRowTree) (at k : ℕ) (b : BodyRowTree) (end : ℕ) → slice_get bs k ≡ Some b → end ≡ at + length (bodies_code p bs at)
    → first_of (slice_get (body_rows p bs at) (suc k)) end ≡ first_at p bs at k + body_length p b (first_at p bs at k)
end_at p [] at k b end is ends = absurd (let no : ⊥ = cc in no)
end_at p (c ∷ bs) at zero b end is ends =
    next_first p bs (at + body_length p c at) end (omega (arith, ends, length-append (body_code (site_in p c) at) (bodies_code p bs (at + body_length p c at))))
    ∙ ap (λ (d : BodyRowTree). at + body_length p d at) (some_same c b is)
end_at p (c ∷ bs) at (suc k) b end is ends =
    end_at p bs (at + body_length p c at) k b end is (omega (arith, ends, length-append (body_code (site_in p c) at) (bodies_code p bs (at + body_length p c at))))

has_at : (p : CheckedTree) (all : List Instr) (bs : List BodyRowTree) (at k : ℕ) (b : BodyRowTree) → slice_get bs k ≡ Some b → HasAt all at (bodies_code p bs at) → HasAt all (first_at p bs at k) (body_code (site_in p b) (first_at p bs at k))
has_at p all [] at k b is has = absurd (let no : ⊥ = cc in no)
has_at p all (c ∷ bs) at zero b is has =
    subst (λ (d : BodyRowTree). HasAt all at (body_code (site_in p d) at)) (some_same c b is) (has_front all at (body_code (site_in p c) at) (bodies_code p bs (at + body_length p c at)) has)
has_at p all (c ∷ bs) at (suc k) b is has =
    has_at p all bs (at + body_length p c at) k b is (has_back all at (at + body_length p c at) (body_code (site_in p c) at) (bodies_code p bs (at + body_length p c at)) refl has)

-- instructions that are found one by one
has_each : (all : List Instr) (at : ℕ) (is : List Instr) → ((k : ℕ) (instr : Instr) → slice_get is k ≡ Some instr → slice_get all (at + k) ≡ Some instr) → HasAt all at is
has_each all at [] found = tt
has_each all at (instr ∷ is) found = (
  ap (λ (j : ℕ). slice_get all j) (let e : at ≡ at + 0 = omega arith in e) ∙ found 0 instr refl,
  has_each all (at + 1) is (λ k j e. ap (λ (q : ℕ). slice_get all q) (let f : at + 1 + k ≡ at + suc k = omega arith in f) ∙ found (suc k) j e),
)

has_all : (is : List Instr) → HasAt is 0 is
has_all is = has_each is 0 is (λ k instr e. ap (λ (q : ℕ). slice_get is q) (let f : 0 + k ≡ k = omega arith in f) ∙ e)

-- ---- the rows of other bodies

-- the rows of each body are for its own instructions
abbrev pub RowsLie : CheckedTree → List BodyRowTree → ℕ → Type 0
RowsLie p bs at = (k : ℕ) (b : BodyRowTree) → slice_get bs k ≡ Some b → LieIn (body_handlers (site_in p b) (first_at p bs at k)) (first_at p bs at k) (first_at p bs at k + body_length p b (first_at p bs at k))

all_lie : (p : CheckedTree) (bs : List BodyRowTree) (at : ℕ) → RowsLie p bs at → LieIn (bodies_handlers p bs at) at (at + length (bodies_code p bs at))
all_lie p [] at each = tt
all_lie p (b ∷ bs) at each =
    let next : ℕ = at + body_length p b at in
    let end : ℕ = at + length (bodies_code p (b ∷ bs) at) in
    let long : end ≡ next + length (bodies_code p bs next) = omega (arith, length-append (body_code (site_in p b) at) (bodies_code p bs next)) in
    lie_both (body_handlers (site_in p b) at) (bodies_handlers p bs next) at end
    (lie_wider (body_handlers (site_in p b) at) at next at end (omega arith) (omega (arith, long)) (each 0 b refl))
    (lie_wider (bodies_handlers p bs next) next (next + length (bodies_code p bs next)) at end (omega arith) (omega (arith, long)) (all_lie p bs next (λ k c is. each (suc k) c is)))

-- what is raised in a body is taken by its own rows alone
taker_at : (p : CheckedTree) (bs : List BodyRowTree) (at k : ℕ) (b : BodyRowTree) (place : ℕ) (x : Exc) → slice_get bs k ≡ Some b → RowsLie p bs at
    → first_at p bs at k ≤ place → place < first_at p bs at k + body_length p b (first_at p bs at k)
    → taker (bodies_handlers p bs at) place x ≡ taker (body_handlers (site_in p b) (first_at p bs at k)) place x
taker_at p [] at k b place x is each low high = absurd (let no : ⊥ = cc in no)
taker_at p (c ∷ bs) at zero b place x is each low high =
    let next : ℕ = at + body_length p c at in
    let rest : List Handler = bodies_handlers p bs next in
    let end : ℕ = next + length (bodies_code p bs next) in
    let same : c ≡ b = some_same c b is in
    (embeds_left (body_handlers (site_in p c) at) rest at next next end at end (all_lie p bs next (λ j d e. each (suc j) d e)) (omega arith) (omega arith) (omega arith)).same place x low
    (subst (λ (d : BodyRowTree). place < at + body_length p d at) (sym same) high)
    ∙ ap (λ (d : BodyRowTree). taker (body_handlers (site_in p d) at) place x) same
taker_at p (c ∷ bs) at (suc k) b place x is each low high =
    let next : ℕ = at + body_length p c at in
    let first : ℕ = first_at p bs next k in
    let end : ℕ = first + body_length p b first in
    (embeds_right (body_handlers (site_in p c) at) (bodies_handlers p bs next) first end at next at end (each 0 c refl) (let l = first_low p bs next k in omega (arith, l)) (first_low p bs next k) (omega arith)).same place x low high
    ∙ taker_at p bs next k b place x is (λ j d e. each (suc j) d e) low high

-- ---- in the code of a program

pub row_there : (p : CheckedTree) (k : ℕ) (b : BodyRowTree) → slice_get p.bodies k ≡ Some b → slice_get (code_of p).bodies k ≡ Some (body_row (site_in p b) (first_at p p.bodies 0 k))
row_there p k b is = row_at p p.bodies 0 k b is

pub code_there : (p : CheckedTree) (k : ℕ) (b : BodyRowTree) → slice_get p.bodies k ≡ Some b → HasAt (code_of p).instrs (first_at p p.bodies 0 k) (body_code (site_in p b) (first_at p p.bodies 0 k))
code_there p k b is = has_at p (bodies_code p p.bodies 0) p.bodies 0 k b is (has_all (bodies_code p p.bodies 0))

pub end_there : (p : CheckedTree) (k : ℕ) (b : BodyRowTree) → slice_get p.bodies k ≡ Some b → end_of (code_of p) k ≡ first_at p p.bodies 0 k + body_length p b (first_at p p.bodies 0 k)
end_there p k b is =
    ap (λ (j : ℕ). first_of (slice_get (body_rows p p.bodies 0) j) (length (bodies_code p p.bodies 0))) (let e : k + 1 ≡ suc k = omega arith in e)
    ∙ end_at p p.bodies 0 k b (length (bodies_code p p.bodies 0)) is (omega arith)

pub taker_there : (p : CheckedTree) (k : ℕ) (b : BodyRowTree) (place : ℕ) (x : Exc) → slice_get p.bodies k ≡ Some b → RowsLie p p.bodies 0
    → first_at p p.bodies 0 k ≤ place → place < first_at p p.bodies 0 k + body_length p b (first_at p p.bodies 0 k)
    → taker (code_of p).handlers place x ≡ taker (body_handlers (site_in p b) (first_at p p.bodies 0 k)) place x
taker_there p k b place x is each low high = taker_at p p.bodies 0 k b place x is each low high

pub count_there : (p : CheckedTree) (bs : List BodyRowTree) (at : ℕ) → length (body_rows p bs at) ≡ length bs
count_there p [] at = refl
count_there p (b ∷ bs) at = ap suc (count_there p bs (at + body_length p b at))
