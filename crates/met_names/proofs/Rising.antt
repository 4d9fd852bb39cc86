-- Places that rise one by one rise, and a row among such is found by its place.
use Rattle.std.proofs.Common.{◌≡◌, ◌<◌, ◌≤◌, inl, inr, ℕ, List, [], ◌∷◌, zero, suc, length, drop, arith, refl, sym, subst, ◌∙◌, Some, Contains}
use Rattle.std.specs.Prelude.{slice_index_or}
use Rattle.chill_base.specs.declared.pos.Pos.{Pos}
use Rattle.names_model.specs.declared.names.Resolved.{Resolved}
use Rattle.names_laws.specs.Rising.{Precedes, PrecedesEach, Rise, use_places}
use Rattle.checks_model.specs.Ground.{number_at}
use Rattle.ground_laws.proofs.Rows.{row_found}

-- the place that no token has
abbrev pub nowhere : Pos
nowhere = record { line = 0; column = 0 }

-- each place stands before the next
abbrev pub Chain : Pos → List Pos → Type 0
Chain p [] = Unit {0}
Chain p (q ∷ qs) = Precedes p q × Chain q qs

precedes_on : (p q r : Pos) → Precedes p q → Precedes q r → Precedes p r
precedes_on p q r (inl lines) (inl more) = inl (omega (arith, lines, more))
precedes_on p q r (inl lines) (inr more) = inl (omega (arith, lines, more.0))
precedes_on p q r (inr lines) (inl more) = inl (omega (arith, lines.0, more))
precedes_on p q r (inr lines) (inr more) = inr (lines.0 ∙ more.0, omega (arith, lines.1, more.1))

each_on : (p q : Pos) (qs : List Pos) → Precedes p q → PrecedesEach q qs → PrecedesEach p qs
each_on p q [] before each = tt
each_on p q (r ∷ qs) before each = (precedes_on p q r before each.0, each_on p q qs before each.1)

chain_each : (p : Pos) (qs : List Pos) → Chain p qs → PrecedesEach p qs × Rise qs
chain_each p [] chain = (tt, tt)
chain_each p (q ∷ qs) chain =
    let rest = chain_each q qs chain.1 in
    ((chain.0, each_on p q qs chain.0 rest.0), (rest.0, rest.1))

pub chain_rises : (rows : List Resolved) → Chain nowhere (use_places rows) → Rise (use_places rows)
chain_rises rows chain = let h = chain_each nowhere (use_places rows) chain in h.1

drop_nothing : (k : ℕ) → drop {A = Resolved} k [] ≡ []
drop_nothing zero = refl
drop_nothing (suc k) = refl

past_end : (rows : List Resolved) (k : ℕ) → length rows ≤ k → drop k rows ≡ []
past_end [] k past = drop_nothing k
past_end (x ∷ rows) zero past = absurd (omega (arith, past))
past_end (x ∷ rows) (suc k) past = past_end rows k (omega (arith, past))

-- where the rest has ended, all rise
pub finished : (rows : List Resolved) (k : ℕ) (last : Pos) → length rows ≤ k → (Chain last (use_places (drop k rows)) → Chain nowhere (use_places rows)) → Rise (use_places rows)
finished rows k last past so_far = chain_rises rows (so_far (subst (λ (xs : List Resolved). Chain last (use_places xs)) (sym (past_end rows k past)) tt))

-- what is found among rows whose places rise stands at its place
pub found_first : (rows : List Resolved) (at : Pos) (number : ℕ) → Rise (use_places rows) → Contains rows (record { at = at; to = number }) → Some number ≡ number_at rows at
found_first rows at number rise there = sym (row_found rows (record { at = at; to = number }) rise there)

-- ---- a row that stands at a place

any_default : {X : Type 0} (xs : List X) (k : ℕ) (d e : X) → k < length xs → slice_index_or xs k d ≡ slice_index_or xs k e
any_default [] k d e less = absurd (omega (arith, less))
any_default (x ∷ xs) zero d e less = refl
any_default (x ∷ xs) (suc k) d e less = any_default xs k d e (omega (arith, less))

abbrev row : ℕ → ℕ → ℕ → Resolved
row line column to = record { at = record { line = line; column = column }; to = to }

row_same : (l m c k to : ℕ) → l ≡ m → c ≡ k → row l c to ≡ row m k to
row_same l m c k to lines columns = rw (lines, columns) refl

pub there_at : (rows : List Resolved) (k : ℕ) (at : Pos) (d : Resolved) → k < length rows → (slice_index_or rows k d).at.line ≡ at.line → (slice_index_or rows k d).at.column ≡ at.column
    → Contains rows (record { at = at; to = (slice_index_or rows k d).to })
there_at rows k at d less lines columns =
    let r = slice_index_or rows k d in
    (k, less, any_default rows k (record { at = at; to = r.to }) d less ∙ row_same r.at.line at.line r.at.column at.column r.to lines columns)
