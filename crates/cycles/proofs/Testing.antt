-- The test of dependence is the relation.
use Rattle.std.proofs.Common.{◌≡◌, ℕ, Bool, true, false, ◌||◌, List, [], ◌∷◌, ◌⊎◌, inl, inr, refl, sym, ap, subst, Contains}
use Rattle.std.specs.Bool.{Decides}
use Rattle.std.specs.Prelude.{◌==◌, ◌↔◌, IfOk, Result, Ok, Err, slice_index_or}
use Rattle.std.specs.Global.{Vec}
use Rattle.chill_base.specs.declared.memory.Memory.{Memory}
use Rattle.std.proofs.lemmas.Bool.Decides.{Decides-and, Decides-or, Decides-eqb, Decides-like}
use Rattle.cycles.specs.declared.edge.Edge.{Edge}
use Rattle.cycles.specs.Depends.{Depends, IsSet, directly, through}
use Rattle.cycles.specs.Groups.{edge}
use Rattle.cycles.specs.Testing.{depends_on, TestingLaw}
use Rattle.cycles.proofs.Members.{none_in, first_in, later_in, in_cases}

-- v is x, or depends on it
abbrev Comes : List Edge → ℕ → ℕ → Type 0
Comes es v x = (v ≡ x) ⊎ Depends es v x

-- a dependence by an edge and others: without the edge, or up to its start and from its end
abbrev Parted : Edge → List Edge → ℕ → ℕ → Type 0
Parted e es v w = Depends es v w ⊎ (Comes es v e.from × Comes es e.to w)

-- with one more edge
more : (e : Edge) (es : List Edge) (v w : ℕ) → Depends es v w → Depends (e ∷ es) v w
more e es _ _ (directly {v} {w} c) = directly (later_in e es (edge v w) c)
more e es _ _ (through {v} {w} {u} c d) = through (later_in e es (edge v w) c) (more e es w u d)

-- one dependence behind another
behind : (es : List Edge) (v w u : ℕ) → Depends es v w → Depends es w u → Depends es v u
behind es _ _ u (directly c) k = through c k
behind es _ _ x (through {v} {w} {u} c d) k = through c (behind es w u x d k)

whole : (e : Edge) (es : List Edge) (v w : ℕ) → Parted e es v w → Depends (e ∷ es) v w
whole e es v w (inl d) = more e es v w d
whole e es v w (inr (a, b)) = up_to a (from b)
  where
    crosses : Depends (e ∷ es) e.from e.to
    crosses = directly (first_in e es)

    from : Comes es e.to w → Depends (e ∷ es) e.from w
    from (inl is) = subst (λ x. Depends (e ∷ es) e.from x) is crosses
    from (inr d) = behind (e ∷ es) e.from e.to w crosses (more e es e.to w d)

    up_to : Comes es v e.from → Depends (e ∷ es) e.from w → Depends (e ∷ es) v w
    up_to (inl is) k = subst (λ x. Depends (e ∷ es) x w) (sym is) k
    up_to (inr d) k = behind (e ∷ es) v e.from w (more e es v e.from d) k

-- the edge itself
by_first : (e : Edge) (es : List Edge) (v w : ℕ) → e ≡ edge v w → Parted e es v w
by_first e es v w is = inr (inl (sym (ap (λ x. x.from) is)), inl (ap (λ x. x.to) is))

-- the edge, and what depends on from its end on
on_first : (e : Edge) (es : List Edge) (v w u : ℕ) → e ≡ edge v w → Parted e es w u → Parted e es v u
on_first e es v w u is (inl d) = inr (inl (sym (ap (λ x. x.from) is)), inr (subst (λ x. Depends es x u) (sym (ap (λ x. x.to) is)) d))
on_first e es v w u is (inr (a, b)) = inr (inl (sym (ap (λ x. x.from) is)), b)

on_other : (e : Edge) (es : List Edge) (v w u : ℕ) → Contains es (edge v w) → Parted e es w u → Parted e es v u
on_other e es v w u c (inl d) = inl (through c d)
on_other e es v w u c (inr (inl is, b)) = inr (inr (subst (λ x. Depends es v x) is (directly c)), b)
on_other e es v w u c (inr (inr d, b)) = inr (inr (through c d), b)

parts : (e : Edge) (es : List Edge) (v w : ℕ) → Depends (e ∷ es) v w → Parted e es v w
parts e es _ _ (directly {v} {w} c) = at_front (in_cases e es (edge v w) c)
  where
    at_front : (e ≡ edge v w) ⊎ Contains es (edge v w) → Parted e es v w
    at_front (inl is) = by_first e es v w is
    at_front (inr b) = inl (directly b)
parts e es _ _ (through {v} {w} {u} c d) = at_front (parts e es w u d) (in_cases e es (edge v w) c)
  where
    at_front : Parted e es w u → (e ≡ edge v w) ⊎ Contains es (edge v w) → Parted e es v u
    at_front rest (inl is) = on_first e es v w u is rest
    at_front rest (inr b) = on_other e es v w u b rest

none : (v w : ℕ) → Depends [] v w → ⊥
none _ _ (directly {v} {w} c) = none_in (edge v w) c
none _ _ (through {v} {w} {u} c d) = none_in (edge v w) c

pub tests : TestingLaw
tests [] v w = (λ e. absurd cc, λ d. absurd (none v w d))
tests (e ∷ es) v w =
    let comes : Decides (v == e.from || depends_on es v e.from) (Comes es v e.from) = Decides-or _ _ (Decides-eqb v e.from) (tests es v e.from) in
    let goes : Decides (e.to == w || depends_on es e.to w) (Comes es e.to w) = Decides-or _ _ (Decides-eqb e.to w) (tests es e.to w) in
    let parted : Decides (depends_on (e ∷ es) v w) (Parted e es v w) = Decides-or _ _ (tests es v w) (Decides-and _ _ comes goes) in
    Decides-like (depends_on (e ∷ es) v w) (whole e es v w) (parts e es v w) parted

same_truth : (b c : Bool) {P : Type 0} → (b ≡ true) ↔ P → Decides c P → b ≡ c
same_truth true true h k = refl
same_truth true false h k = sym (k.1 (h.0 refl))
same_truth false true h k = h.1 (k.0 refl)
same_truth false false h k = refl

-- a truth value that tells what depends on what is the test's
pub is_tested : (b : Bool) (es : List Edge) (v w : ℕ) → (b ≡ true) ↔ Depends es v w → b ≡ depends_on es v w
is_tested b es v w h = same_truth b (depends_on es v w) h (tests es v w)

-- of all marks, where there are any
pub all_tested : (es : List Edge) (made : Result (Vec Bool) Memory) → IfOk made (λ marks. (v : ℕ) → IsSet marks.items v ↔ Depends es v v) → IfOk made (λ marks. (v : ℕ) → slice_index_or marks.items v false ≡ depends_on es v v)
all_tested es (Ok marks) h = λ v. is_tested (slice_index_or marks.items v false) es v v (h v)
all_tested es (Err e) h = tt
