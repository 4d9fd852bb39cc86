-- Bodies that rise: each place belongs to one of them.
use Rattle.std.proofs.Common.{◌≡◌, ℕ, zero, suc, ◌+◌, ◌-◌, ◌<◌, ◌≤◌, List, length, Some, slice_get, subst, sym, ◌∙◌, ap, ◌⊎◌, inl, inr, arith}
use Rattle.std.proofs.lemmas.Option.{slice_get_past, slice_get_within}
use Rattle.code_types.specs.declared.code.BodyRow.{BodyRow}
use Rattle.code_types.specs.declared.code.Code.{Code}
use Rattle.code_types.specs.Places.{end_of, first_of}
use Rattle.code_types.specs.Agreement.{BodiesRise, StandsIn, HandlesInOneBody}
use Rattle.code_types.specs.declared.instr.Instr.{Instr}
use Rattle.code_types.specs.declared.code.Handler.{Handler}
use Rattle.code_guard.specs.Owners.{Owns, IsOwned}
use Rattle.code_guard.specs.Fitting.{IsOrdered}
use Rattle.code_guard.proofs.EachItem.{all_at, item_or_past}

-- the place behind a body that has a next one, and behind the last
pub end_next : (code : Code) (body : ℕ) (next : BodyRow) → slice_get code.bodies (body + 1) ≡ Some next → end_of code body ≡ next.first
end_next code body next e = ap (λ o. first_of o (length code.instrs)) e

pub end_last : (code : Code) (body : ℕ) → length code.bodies ≤ body + 1 → end_of code body ≡ length code.instrs
end_last code body h = ap (λ o. first_of o (length code.instrs)) (slice_get_past code.bodies (body + 1) h)

-- a body that has no next one, or its next one
next_of : (code : Code) (body : ℕ) → ((next : BodyRow) × (slice_get code.bodies (body + 1) ≡ Some next)) ⊎ (length code.bodies ≤ body + 1)
next_of code body = item_or_past code.bodies (body + 1)

-- a body ends in the code
pub end_inside : (code : Code) (body : ℕ) → BodiesRise code → end_of code body ≤ length code.instrs
end_inside code body rise = elim (next_of code body) [
  | inl h ↦ (let below : h.0.first < length code.instrs = all_at (λ row. row.first < length code.instrs) code.bodies (body + 1) h.0 rise.inside h.1 in let e = end_next code body h.0 h.1 in omega arith)
  | inr h ↦ (let e = end_last code body h in omega arith)
]

-- a later body begins behind the end of an earlier one
pub begins_behind : (code : Code) → BodiesRise code → (body more : ℕ) (row : BodyRow) → slice_get code.bodies (body + 1 + more) ≡ Some row → end_of code body ≤ row.first
begins_behind code rise body zero row e = let n : body + 1 + 0 ≡ body + 1 = omega arith in let f = end_next code body row (ap (slice_get code.bodies) (sym n) ∙ e) in omega arith
begins_behind code rise body (suc more) row e = by-last (item_or_past code.bodies (body + 1 + more)) (λ r. begins_behind code rise body more r)
  where
    by-last : ((x : BodyRow) × (slice_get code.bodies (body + 1 + more) ≡ Some x)) ⊎ (length code.bodies ≤ body + 1 + more) → ((r : BodyRow) → slice_get code.bodies (body + 1 + more) ≡ Some r → end_of code body ≤ r.first) → end_of code body ≤ row.first
    by-last (inl h) later =
        let n : body + 1 + suc more ≡ body + 1 + more + 1 = omega arith in
        let up : h.0.first < row.first = rise.rise (body + 1 + more) h.0 row h.1 (ap (slice_get code.bodies) (sym n) ∙ e) in
        let low : end_of code body ≤ h.0.first = later h.0 h.1 in
        omega arith
    by-last (inr h) later =
        let within : body + 1 + suc more < length code.bodies = slice_get_within code.bodies (body + 1 + suc more) row e in
        absurd (omega arith)

apart : (code : Code) → BodiesRise code → (place body other : ℕ) → Owns code body place → Owns code other place → body < other → ⊥
apart code rise place body other a b h =
    let more : ℕ = other - (body + 1) in
    let n : body + 1 + more ≡ other = omega arith in
    let low : end_of code body ≤ b.row.first = begins_behind code rise body more b.row (ap (slice_get code.bodies) n ∙ b.is_body) in
    let up = a.until in
    let from = b.from in
    omega arith

-- a place belongs to one body
pub one_owner : (code : Code) → BodiesRise code → (place body other : ℕ) → Owns code body place → Owns code other place → body ≡ other
one_owner code rise place body other a b = by-order (order body other)
  where
    by-order : (body < other) ⊎ ((other < body) ⊎ (body ≡ other)) → body ≡ other
    by-order (inl h) = absurd (apart code rise place body other a b h)
    by-order (inr (inl h)) = absurd (apart code rise place other body b a h)
    by-order (inr (inr h)) = h

    order : (m n : ℕ) → (m < n) ⊎ ((n < m) ⊎ (m ≡ n))
    order m n = grind arith

-- the body that owns a place
pub owner_at : (code : Code) (owners : List ℕ) (place : ℕ) → IsOwned code owners → place < length code.instrs → (body : ℕ) × (slice_get owners place ≡ Some body) × Owns code body place
owner_at code owners place owned h = by-case (item_or_past owners place)
  where
    by-case : ((x : ℕ) × (slice_get owners place ≡ Some x)) ⊎ (length owners ≤ place) → (body : ℕ) × (slice_get owners place ≡ Some body) × Owns code body place
    by-case (inl k) = (k.0, k.1, owned.owns place k.0 k.1)
    by-case (inr k) = let e = owned.count in absurd (omega arith)

-- what holds at each place, of the body that owns it, holds of each instruction of each body
pub everywhere_from : (P : ℕ → ℕ → Instr → Type 0) (code : Code) (owners : List ℕ) → BodiesRise code → IsOwned code owners
    → ((k body : ℕ) (instr : Instr) → k < length owners → slice_get owners k ≡ Some body → slice_get code.instrs k ≡ Some instr → P body k instr)
    → (body : ℕ) (row : BodyRow) (place : ℕ) (instr : Instr) → StandsIn code body row place instr → P body place instr
everywhere_from P code owners rise owned each body row place instr s =
    let inside : place < length code.instrs = slice_get_within code.instrs place instr s.is_instr in
    let o = owner_at code owners place owned inside in
    let same : o.0 ≡ body = one_owner code rise place o.0 body o.2 (record { row = row; is_body = s.is_body; from = s.from; until = s.until }) in
    let count = owned.count in
    subst (λ (b : ℕ). P b place instr) same (each place o.0 instr (omega arith) o.1 s.is_instr)

-- the instruction at a place stands in the body that owns the place
pub stands_at : (code : Code) (owners : List ℕ) (place body : ℕ) (instr : Instr) → (owned : IsOwned code owners) → (e : slice_get owners place ≡ Some body) → slice_get code.instrs place ≡ Some instr → StandsIn code body (owned.owns place body e).row place instr
stands_at code owners place body instr owned e f = let o = owned.owns place body e in record { is_body = o.is_body; from = o.from; until = o.until; is_instr = f }

-- one more place
pub each_more : (P : ℕ → ℕ → Instr → Type 0) (owners : List ℕ) (instrs : List Instr) (place body : ℕ) (instr : Instr)
    → ((k b : ℕ) (i : Instr) → k < place → slice_get owners k ≡ Some b → slice_get instrs k ≡ Some i → P b k i)
    → slice_get owners place ≡ Some body → slice_get instrs place ≡ Some instr → P body place instr
    → (k b : ℕ) (i : Instr) → k < place + 1 → slice_get owners k ≡ Some b → slice_get instrs k ≡ Some i → P b k i
each_more P owners instrs place body instr each e f here k b i h e' f' = by-order (order k place h)
  where
    order : (m n : ℕ) → m < n + 1 → (m < n) ⊎ (m ≡ n)
    order m n h = grind arith

    by-order : (k < place) ⊎ (k ≡ place) → P b k i
    by-order (inl low) = each k b i low e' f'
    by-order (inr same) =
        let at-b : slice_get owners place ≡ Some b = ap (slice_get owners) (sym same) ∙ e' in
        let at-i : slice_get instrs place ≡ Some i = ap (slice_get instrs) (sym same) ∙ f' in
        let bs : body ≡ b = cc in
        let is : instr ≡ i = cc in
        subst (λ (n : ℕ). P b n i) (sym same) (subst (λ (x : ℕ). P x place i) bs (subst (λ (j : Instr). P body place j) is here))

-- a handler's target lies in the body that owns the target, and so does its range
pub handles_from : (code : Code) (handler : Handler) (body : ℕ) → Owns code body handler.target → (row : BodyRow) → slice_get code.bodies body ≡ Some row → row.first ≤ handler.from → handler.from ≤ handler.until → handler.until ≤ handler.target → HandlesInOneBody code handler
handles_from code handler body o row e from ordered behind = (body, record { row = row; is_body = e; from = from; ordered = ordered; behind = behind; until = o.until })

pub owns_target : (code : Code) (handler : Handler) (h : HandlesInOneBody code handler) → Owns code h.0 handler.target
owns_target code handler h = let k = h.1 in let a = k.from in let b = k.ordered in let c = k.behind in record { row = k.row; is_body = k.is_body; from = omega arith; until = k.until }

pub target_inside : (code : Code) (handler : Handler) → BodiesRise code → HandlesInOneBody code handler → handler.target < length code.instrs
target_inside code handler rise h = let e = end_inside code h.0 rise in let k = h.1.until in omega arith

-- the body in which the handler lies is the one that owns the target
pub handles_row : (code : Code) (handler : Handler) (body : ℕ) (row : BodyRow) → BodiesRise code → Owns code body handler.target → slice_get code.bodies body ≡ Some row → (h : HandlesInOneBody code handler) → h.1.row ≡ row
handles_row code handler body row rise o e h =
    let same : h.0 ≡ body = one_owner code rise handler.target h.0 body (owns_target code handler h) o in
    let f : slice_get code.bodies body ≡ Some h.1.row = ap (slice_get code.bodies) (sym same) ∙ h.1.is_body in
    cc

pub ordered_from : (code : Code) (handler : Handler) (body : ℕ) (row : BodyRow) → BodiesRise code → Owns code body handler.target → slice_get code.bodies body ≡ Some row → HandlesInOneBody code handler → IsOrdered row.first handler
ordered_from code handler body row rise o e h =
    let same : h.1.row.first ≡ row.first = ap (λ (r : BodyRow). r.first) (handles_row code handler body row rise o e h) in
    let from = h.1.from in
    record { from = omega arith; ordered = h.1.ordered; behind = h.1.behind }
