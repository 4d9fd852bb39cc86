-- Where locations lie: their contents and assignment, once their place stands on the stack.
use Rattle.std.proofs.Common.{◌≡◌, ℕ, ◌+◌, ◌-◌, ◌<◌, ◌≤◌, if◌then◌else◌, Bool, true, false, List, [], ◌∷◌, ◌++◌, ℤ, pos, length, Option, Some, slice_get, refl, sym, ap, ◌∙◌, subst, arith, append_assoc}
use Rattle.world_model.specs.Session.{Session}
use Rattle.checked_program.specs.declared.expr.Base.{Base}
use Rattle.checked_program.specs.declared.expr.Base.TheVariants.{Shared, Local}
use Rattle.program_trees.specs.ExprTree.{PartNodes, no_parts, field, element}
use Rattle.program_trees.specs.ProgramTree.{LocalRowTree}
use Rattle.code_types.specs.declared.instr.Instr.TheVariants as i
use Rattle.source_meaning.specs.Store.{Store, address_of}
use Rattle.source_meaning.specs.Flow.{Goes}
use Rattle.source_meaning.specs.Operators.{one}
use Rattle.source_meaning.specs.ExprMeaning.{Setting, read_at, assign_at, offset_mean}
use Rattle.code_scheme.specs.Pieces.{Layout, has_index, first_of_parts, needs_offset, first_in, first_at, contents_at, store_at}
use Rattle.follow_laws.specs.Follows.{HasAt, Around, here, Holds, Follows, always, HoldsWith, Nothing, on_top, IsLong}
use Rattle.code_laws.specs.InRange.{BaseFits, IsOffset}
use Rattle.follow_laws.proofs.Running.{after}
use Rattle.follow_laws.proofs.Requesting.{none_takes}
use Rattle.follow_laws.proofs.Instructions.{renamed, local_by, local_at_by, shared_by, set_by, set_at_by, write_by}

-- the first scalar of a part, among so many: its fields lead to one from which its indices go on, and its own have room
pub record IsPlace (ps : PartNodes) (of n k : ℕ) : Type 0 where
  pub from : first_of_parts ps ≤ k
  pub room : k + n ≤ of
  pub plain : has_index ps ≡ false → k ≡ first_of_parts ps

-- the place of a location on the stack: the offset of its indices, where it has one
abbrev pub place_stack : Base → PartNodes → List ℤ → ℕ → List ℤ
place_stack b ps stack k = if needs_offset b ps then stack ++ one (pos (k - first_of_parts ps)) else stack

pub fields_mean : (v : Setting) (ps : PartNodes) (k : ℕ) (store : Store) (s : Session) → has_index ps ≡ false → offset_mean v ps k store s ≡ Goes (k + first_of_parts ps) store s
fields_mean v no_parts k store s h = ap (λ (n : ℕ). Goes n store s) (let e : k ≡ k + 0 = omega arith in e)
fields_mean v (field first count ps) k store s h =
    fields_mean v ps (k + first) store s h ∙ ap (λ (n : ℕ). Goes n store s) (let e : k + first + first_of_parts ps ≡ k + (first + first_of_parts ps) = omega arith in e)
fields_mean v (element e b count ps) k store s h = absurd (let no : ⊥ = cc in no)

-- the contents of a location whose place stands on top
pub contents_runs : (w : Around) (lay : Layout) (b : Base) (ps : PartNodes) (of n k at to lo hi : ℕ) (base locals : List ℤ) (store : Store) (s : Session)
    → lay.rows ≡ w.rows → BaseFits lay b of → IsOffset of → IsPlace ps of n k
    → HasAt w.code.instrs at (contents_at lay b ps n) → at + 1 ≡ to → lo ≤ at → at < hi → Holds w store locals
    → Follows w (here w at (place_stack b ps base k) locals s) lo hi [] (always to) (on_top base) (HoldsWith w (IsLong n)) (read_at n (address_of b k) store s)
contents_runs w lay (Shared l) ps of n k at to lo hi base locals store s rows fits small place has e low high h =
    let f : ℕ = first_of_parts ps in
    subst (λ (j : ℕ). Follows w (here w at (base ++ one (pos (k - f))) locals s) lo hi [] (always to) (on_top base) (HoldsWith w (IsLong n)) (read_at n (address_of (Shared l) j) store s)) (let same : f + (k - f) ≡ k = omega (arith, place.from) in same)
    (shared_by w l f (k - f) n at to lo hi [] base locals store s e low high (none_takes at) (omega (arith, place.from, place.room)) has.0 h)
contents_runs w lay (Local q) ps of n k at to lo hi base locals store s rows fits small place has e low high h = by_index (has_index ps) refl has
  where
    f : ℕ
    f = first_of_parts ps

    row : LocalRowTree
    row = fits.0

    is : slice_get w.rows q ≡ Some row
    is = ap (λ (rs : List LocalRowTree). slice_get rs q) (sym rows) ∙ fits.1

    first_is : first_at lay q ps ≡ row.first + f
    first_is = ap (λ (o : Option LocalRowTree). first_in o + f) fits.1

    by_index : (t : Bool) → has_index ps ≡ t → HasAt w.code.instrs at (if t then i.LocalAt (first_at lay q ps) n ∷ [] else i.Local (first_at lay q ps) n ∷ [])
        → Follows w (here w at (if t then base ++ one (pos (k - f)) else base) locals s) lo hi [] (always to) (on_top base) (HoldsWith w (IsLong n)) (read_at n (address_of (Local q) k) store s)
    by_index true t_is h2 =
        subst (λ (j : ℕ). Follows w (here w at (base ++ one (pos (k - f))) locals s) lo hi [] (always to) (on_top base) (HoldsWith w (IsLong n)) (read_at n (address_of (Local q) j) store s)) (let same : f + (k - f) ≡ k = omega (arith, place.from) in same)
        (local_at_by w q f (k - f) n (first_at lay q ps) row at to lo hi [] base locals store s e is (omega (arith, place.from, place.room, fits.2)) first_is h2.0 h)
    by_index false t_is h2 =
        let plain : k ≡ f = place.plain t_is in
        local_by w q k n (first_at lay q ps) row at to lo hi [] base locals store s e is (omega (arith, place.room, fits.2)) (omega (arith, first_is, plain)) h2.0 h

-- the value on top is assigned to a location whose place stands below it
pub store_runs : (w : Around) (lay : Layout) (b : Base) (ps : PartNodes) (of n k at to lo hi : ℕ) (base xs locals : List ℤ) (store : Store) (s : Session)
    → lay.rows ≡ w.rows → BaseFits lay b of → IsOffset of → IsPlace ps of n k → length xs ≡ n
    → HasAt w.code.instrs at (store_at lay b ps n) → at + 1 ≡ to → lo ≤ at → at < hi → Holds w store locals
    → Follows w (here w at (place_stack b ps base k ++ xs) locals s) lo hi [] (always to) (always base) (HoldsWith w Nothing) (assign_at n (address_of b k) xs store s)
store_runs w lay (Shared l) ps of n k at to lo hi base xs locals store s rows fits small place long has e low high h =
    let f : ℕ = first_of_parts ps in
    after (renamed w at at ((base ++ one (pos (k - f))) ++ xs) (base ++ (pos (k - f) ∷ xs)) locals s refl (append_assoc base (one (pos (k - f))) xs))
    (subst (λ (j : ℕ). Follows w (here w at (base ++ (pos (k - f) ∷ xs)) locals s) lo hi [] (always to) (always base) (HoldsWith w Nothing) (assign_at n (address_of (Shared l) j) xs store s)) (let same : f + (k - f) ≡ k = omega (arith, place.from) in same)
    (write_by w l f (k - f) n xs at to lo hi [] base locals store s long e low high (none_takes at) (omega (arith, place.from, place.room)) has.0 h))
store_runs w lay (Local q) ps of n k at to lo hi base xs locals store s rows fits small place long has e low high h = by_index (has_index ps) refl has
  where
    f : ℕ
    f = first_of_parts ps

    row : LocalRowTree
    row = fits.0

    is : slice_get w.rows q ≡ Some row
    is = ap (λ (rs : List LocalRowTree). slice_get rs q) (sym rows) ∙ fits.1

    first_is : first_at lay q ps ≡ row.first + f
    first_is = ap (λ (o : Option LocalRowTree). first_in o + f) fits.1

    by_index : (t : Bool) → has_index ps ≡ t → HasAt w.code.instrs at (if t then i.SetLocalAt (first_at lay q ps) n ∷ [] else i.SetLocal (first_at lay q ps) n ∷ [])
        → Follows w (here w at ((if t then base ++ one (pos (k - f)) else base) ++ xs) locals s) lo hi [] (always to) (always base) (HoldsWith w Nothing) (assign_at n (address_of (Local q) k) xs store s)
    by_index true t_is h2 =
        after (renamed w at at ((base ++ one (pos (k - f))) ++ xs) (base ++ (pos (k - f) ∷ xs)) locals s refl (append_assoc base (one (pos (k - f))) xs))
        (subst (λ (j : ℕ). Follows w (here w at (base ++ (pos (k - f) ∷ xs)) locals s) lo hi [] (always to) (always base) (HoldsWith w Nothing) (assign_at n (address_of (Local q) j) xs store s)) (let same : f + (k - f) ≡ k = omega (arith, place.from) in same)
        (set_at_by w q f (k - f) n (first_at lay q ps) row xs at to lo hi [] base locals store s long e is (omega (arith, place.from, place.room, fits.2)) first_is h2.0 h))
    by_index false t_is h2 =
        let plain : k ≡ f = place.plain t_is in
        set_by w q k n (first_at lay q ps) row xs at to lo hi [] base locals store s long e is (omega (arith, place.room, fits.2)) (omega (arith, first_is, plain)) h2.0 h

-- ---- the stack while an offset is found: nothing of it, or the sum so far

abbrev pub offset_stack : Bool → List ℤ → ℕ → List ℤ
offset_stack true base j = base
offset_stack false base j = base ++ one (pos j)

-- no offset was found yet behind these parts
abbrev pub stays_first : Bool → PartNodes → Bool
stays_first is_first no_parts = is_first
stays_first is_first (field first count ps) = stays_first is_first ps
stays_first is_first (element e b count ps) = stays_first false ps

pub stays_later : (ps : PartNodes) → stays_first false ps ≡ false
stays_later no_parts = refl
stays_later (field first count ps) = stays_later ps
stays_later (element e b count ps) = stays_later ps

pub index_first : (ps : PartNodes) → has_index ps ≡ true → stays_first true ps ≡ false
index_first no_parts e = absurd (let no : ⊥ = cc in no)
index_first (field first count ps) e = index_first ps e
index_first (element x b count ps) e = stays_later ps

pub needs_when : (b : Base) (ps : PartNodes) → has_index ps ≡ true → needs_offset b ps ≡ true
needs_when (Shared l) ps e = refl
needs_when (Local q) ps e = e

-- how far parts lead from one scalar on
pub record LeadsTo (ps : PartNodes) (of n k to : ℕ) : Type 0 where
  pub from : k + first_of_parts ps ≤ to
  pub room : to + n ≤ k + of
  pub plain : has_index ps ≡ false → to ≡ k + first_of_parts ps

pub as_place : (ps : PartNodes) (of n to : ℕ) → LeadsTo ps of n 0 to → IsPlace ps of n to
as_place ps of n to h = record { from = omega (arith, h.from); room = omega (arith, h.room); plain = λ e. h.plain e ∙ (let z : 0 + first_of_parts ps ≡ first_of_parts ps = omega arith in z) }
