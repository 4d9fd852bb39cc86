-- Places, contents, and what calls copy out.
use Rattle.std.proofs.Common.{◌≡◌, ◌+◌, ℕ, Bool, true, false, List, [], ◌∷◌, ◌++◌, pos, length, refl, sym, ap, subst, arith, Option}
use Rattle.std.specs.Prelude.{if◌then◌else◌}
use Rattle.modes.specs.declared.mode.Bounds.{Bounds}
use Rattle.modes.specs.ModeTree.{int}
use Rattle.modes.specs.Bounds.{bounds_of}
use Rattle.checked_program.specs.declared.expr.Base.{Base}
use Rattle.checked_program.specs.declared.expr.Base.TheVariants.{Shared, Local}
use Rattle.code_types.specs.declared.instr.Instr.{Instr}
use Rattle.code_types.specs.declared.instr.Instr.TheVariants as i
use Rattle.code_types.specs.declared.code.Code.{Code}
use Rattle.program_trees.specs.ExprTree.{PartNodes, no_parts, field, element, LocationTree, location, ArgumentNodes, no_arguments, in_argument, out_argument, inout_argument, location_count}
use Rattle.program_trees.specs.ProgramTree.{LocalRowTree, CheckedTree}
use Rattle.code_scheme.specs.Pieces.{Layout, check_code, member_code, tested_out, tested_back, has_index, first_of_parts, needs_offset, has_offset, first_at, contents_code, store_code, offsets_kept, keep_code, kept_code, under_code, copy_out_code, copies_out}
use Rattle.code_scheme.specs.ExprSizes.{indices_size, copy_out_size, copies_out_size}
use Rattle.code_scheme.specs.ExprCode.{indices_code}
use Rattle.scheme_heights.specs.Stretches.{no_outlets, IsStretch}
use Rattle.scheme_heights.specs.Counts.{TestsOne, LiesIn, copied_scalars, ArgumentsFit}
use Rattle.scheme_heights.proofs.Joining.{join}
use Rattle.scheme_heights.proofs.Parts.{sized, end, cons, tests_less, check_stretch, member_stretch}
use Rattle.scheme_heights.proofs.Operators.{ends}

abbrev one_if : Bool → ℕ
one_if b = if b then 1 else 0

local_contents : (heads : Code) (body at height first n : ℕ) (b : Bool) → IsStretch heads body no_outlets at (height + one_if b) (if b then i.LocalAt first n ∷ [] else i.Local first n ∷ []) 1 (height + n)
local_contents heads body at height first n true = sized 1 refl (cons (omega arith) tt tt refl refl (end (omega arith)))
local_contents heads body at height first n false = sized 1 refl (cons (omega arith) tt tt refl refl (end (omega arith)))

pub contents_stretch : (heads : Code) (body at height : ℕ) (lay : Layout) (l : LocationTree) → IsStretch heads body no_outlets at (height + offsets_kept l) (contents_code lay l) 1 (height + location_count l)
contents_stretch heads body at height lay (location (Shared k) ps n) = sized 1 refl (cons (omega arith) tt tt refl refl (end (omega arith)))
contents_stretch heads body at height lay (location (Local k) ps n) = local_contents heads body at height (first_at lay k ps) n (has_index ps)

local_store : (heads : Code) (body at height first n : ℕ) (b : Bool) → IsStretch heads body no_outlets at (height + one_if b + n) (if b then i.SetLocalAt first n ∷ [] else i.SetLocal first n ∷ []) 1 height
local_store heads body at height first n true = sized 1 refl (cons (omega arith) tt tt refl refl (end (omega arith)))
local_store heads body at height first n false = sized 1 refl (cons (omega arith) tt tt refl refl (end (omega arith)))

pub store_stretch : (heads : Code) (body at height : ℕ) (lay : Layout) (l : LocationTree) → IsStretch heads body no_outlets at (height + offsets_kept l + location_count l) (store_code lay l) 1 height
store_stretch heads body at height lay (location (Shared k) ps n) = sized 1 refl (cons (omega arith) tt tt refl refl (end (omega arith)))
store_stretch heads body at height lay (location (Local k) ps n) = local_store heads body at height (first_at lay k ps) n (has_index ps)

keep_if : (heads : Code) (body at height kept : ℕ) (b : Bool) → IsStretch heads body no_outlets at (height + one_if b) (if b then i.SetLocal kept 1 ∷ [] else []) (one_if b) height
keep_if heads body at height kept true = sized 1 refl (cons (omega arith) tt tt refl refl (end (omega arith)))
keep_if heads body at height kept false = sized 0 refl (end (omega arith))

pub keep_stretch : (heads : Code) (body at height : ℕ) (l : LocationTree) (kept : ℕ) → IsStretch heads body no_outlets at (height + offsets_kept l) (keep_code l kept) (offsets_kept l) height
keep_stretch heads body at height l kept = keep_if heads body at height kept (has_offset l)

kept_if : (heads : Code) (body at height kept : ℕ) (b : Bool) → IsStretch heads body no_outlets at height (if b then i.Local kept 1 ∷ [] else []) (one_if b) (height + one_if b)
kept_if heads body at height kept true = sized 1 refl (cons (omega arith) tt tt refl refl (end (omega arith)))
kept_if heads body at height kept false = sized 0 refl (end (omega arith))

pub kept_stretch : (heads : Code) (body at height : ℕ) (l : LocationTree) (kept : ℕ) → IsStretch heads body no_outlets at height (kept_code l kept) (offsets_kept l) (height + offsets_kept l)
kept_stretch heads body at height l kept = kept_if heads body at height kept (has_offset l)

under_if : (heads : Code) (body at height kept free n : ℕ) (b : Bool) → IsStretch heads body no_outlets at (height + n) (if b then i.SetLocal free n ∷ i.Local kept 1 ∷ i.Local free n ∷ [] else []) (if b then 3 else 0) (height + one_if b + n)
under_if heads body at height kept free n true = sized 3 refl (cons (omega arith) tt tt refl refl (cons (omega arith) tt tt refl refl (cons (omega arith) tt tt refl refl (end (omega arith)))))
under_if heads body at height kept free n false = sized 0 refl (end (omega arith))

under_stretch : (heads : Code) (body at height : ℕ) (l : LocationTree) (kept free : ℕ) → IsStretch heads body no_outlets at (height + location_count l) (under_code l kept free) (if has_offset l then 3 else 0) (height + offsets_kept l + location_count l)
under_stretch heads body at height (location b ps n) kept free = under_if heads body at height kept free n (has_offset (location b ps n))

copy_out_stretch : (heads : Code) (body at height : ℕ) (lay : Layout) (l : LocationTree) (o : Option Bounds) (kept free : ℕ) → TestsOne o (location_count l) → IsStretch heads body no_outlets at (height + location_count l) (copy_out_code lay l o kept free) (copy_out_size l o) height
copy_out_stretch heads body at height lay l o kept free one' =
    let n = location_count l in
    let p = at + length (check_code o) in
    let size : ℕ = if has_offset l then 3 else 0 in
    join heads body at (height + n) (check_code o) _ (length (check_code o)) (size + 1) (height + n) height p _ refl refl (check_stretch heads body at (height + n) o n one' (omega arith))
    (join heads body p (height + n) (under_code l kept free) (store_code lay l) size 1 (height + offsets_kept l + n) height (p + size) _ refl refl (under_stretch heads body p height l kept free) (store_stretch heads body (p + size) height lay l))

pub copies_out_stretch : (heads : Code) (body at height : ℕ) (lay : Layout) (p : CheckedTree) (rows : List LocalRowTree) (k : ℕ) (as' : ArgumentNodes) (kept free : ℕ) → ArgumentsFit p rows k as' → IsStretch heads body no_outlets at (height + copied_scalars as') (copies_out lay as' kept free) (copies_out_size as') height
copies_out_stretch heads body at height lay p rows k no_arguments kept free fit = sized 0 refl (end (omega arith))
copies_out_stretch heads body at height lay p rows k (in_argument r as') kept free fit = copies_out_stretch heads body at height lay p rows (k + 1) as' kept free fit.1
copies_out_stretch heads body at height lay p rows k (out_argument l b as') kept free fit =
    let o = tested_out b in
    let q = at + copy_out_size l o in
    let rest = copied_scalars as' in
    let first = copy_out_stretch heads body at (height + rest) lay l o kept free (tests_less b (bounds_of int) (location_count l) fit.2) in
    join heads body at (height + (location_count l + rest)) (copy_out_code lay l o kept free) _ (copy_out_size l o) (copies_out_size as') (height + rest) height q _ refl refl
    (subst (λ (h : ℕ). IsStretch heads body no_outlets at h (copy_out_code lay l o kept free) (copy_out_size l o) (height + rest)) (let e : height + rest + location_count l ≡ height + (location_count l + rest) = omega arith in e) first)
    (copies_out_stretch heads body q height lay p rows (k + 1) as' (kept + offsets_kept l) free fit.3)
copies_out_stretch heads body at height lay p rows k (inout_argument l t b as') kept free fit =
    let o = tested_back t b in
    let q = at + copy_out_size l o in
    let rest = copied_scalars as' in
    let first = copy_out_stretch heads body at (height + rest) lay l o kept free (tests_less b t (location_count l) fit.2) in
    join heads body at (height + (location_count l + rest)) (copy_out_code lay l o kept free) _ (copy_out_size l o) (copies_out_size as') (height + rest) height q _ refl refl
    (subst (λ (h : ℕ). IsStretch heads body no_outlets at h (copy_out_code lay l o kept free) (copy_out_size l o) (height + rest)) (let e : height + rest + location_count l ≡ height + (location_count l + rest) = omega arith in e) first)
    (copies_out_stretch heads body q height lay p rows (k + 1) as' (kept + offsets_kept l) free fit.3)

-- ---- places

-- the indices of a place, where there are some
abbrev pub IndicesStretch : Code → ℕ → Layout → ℕ → PartNodes → ℕ → ℕ → Type 0
IndicesStretch heads body lay free ps at height = has_index ps ≡ true → IsStretch heads body no_outlets at height (indices_code lay free true ps at) (indices_size true ps) (height + 1)

place_true : (b : Base) (ps : PartNodes) (n : ℕ) → has_index ps ≡ true → offsets_kept (location b ps n) ≡ 1
place_true (Shared k) ps n is = refl
place_true (Local k) ps n is = ap one_if is

pub place_stretch : (heads : Code) (body at height : ℕ) (lay : Layout) (free : ℕ) (b : Base) (ps : PartNodes) (n : ℕ) (any : Bool) → has_index ps ≡ any → IndicesStretch heads body lay free ps at height
    → IsStretch heads body no_outlets at height (if any then indices_code lay free true ps at else if needs_offset b ps then i.Push (pos 0) ∷ [] else []) (if any then indices_size true ps else if needs_offset b ps then 1 else 0) (height + offsets_kept (location b ps n))
place_stretch heads body at height lay free b ps n true is indices = ends (ap (λ (k : ℕ). height + k) (sym (place_true b ps n is))) (indices is)
place_stretch heads body at height lay free (Shared k) ps n false is indices = sized 1 refl (cons (omega arith) tt tt refl refl (end (omega arith)))
place_stretch heads body at height lay free (Local k) ps n false is indices = no_offset (has_index ps) is
  where
    no_offset : (b : Bool) → b ≡ false → IsStretch heads body no_outlets at height (if b then i.Push (pos 0) ∷ [] else []) (if b then 1 else 0) (height + one_if b)
    no_offset true is = absurd (let f : ⊥ = cc in f)
    no_offset false is = sized 0 refl (end (omega arith))

pub no_indices : (lay : Layout) (free : ℕ) (first : Bool) (ps : PartNodes) (at : ℕ) → has_index ps ≡ false → indices_code lay free first ps at ≡ []
no_indices lay free first no_parts at is = refl
no_indices lay free first (field k count ps) at is = no_indices lay free first ps at is
no_indices lay free first (element e b count ps) at is = absurd (let f : ⊥ = cc in f)

-- a part of the value on top
pub cut_stretch : (heads : Code) (body at height : ℕ) (lay : Layout) (free : ℕ) (ps : PartNodes) (n of : ℕ) (any : Bool) → has_index ps ≡ any → LiesIn any (first_of_parts ps) n of → IndicesStretch heads body lay free ps at (height + of)
    → IsStretch heads body no_outlets at (height + of) (indices_code lay free true ps at ++ (if any then member_code (pos (first_of_parts ps)) ++ i.PartAt n of ∷ [] else i.Part (first_of_parts ps) n of ∷ []))
    ((if any then indices_size true ps + length (member_code (pos (first_of_parts ps))) else 0) + 1) (height + n)
cut_stretch heads body at height lay free ps n of true is lies indices =
    let low = pos (first_of_parts ps) in
    let p = at + indices_size true ps in
    let m = length (member_code low) in
    join heads body at (height + of) (indices_code lay free true ps at) _ (indices_size true ps) (m + 1) (height + of + 1) (height + n) p _ refl (omega arith) (indices is)
    (join heads body p (height + of + 1) (member_code low) (i.PartAt n of ∷ []) m 1 (height + of + 1) (height + n) (p + m) _ refl refl (member_stretch heads body p (height + of) low)
    (sized 1 refl (cons (omega arith) tt tt refl refl (end (omega arith)))))
cut_stretch heads body at height lay free ps n of false is lies indices =
    subst (λ (is : List Instr). IsStretch heads body no_outlets at (height + of) (is ++ i.Part (first_of_parts ps) n of ∷ []) 1 (height + n)) (sym (no_indices lay free true ps at is))
    (sized 1 refl (cons (omega arith) lies tt refl refl (end (omega arith))))
