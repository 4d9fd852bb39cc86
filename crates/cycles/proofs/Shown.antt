-- Marks that pass the check tell exactly what depends on itself.
use Rattle.std.proofs.Common.{◌≡◌, ℕ, zero, suc, ◌<◌, ◌≤◌, true, false, List, ◌⊎◌, inl, inr, arith, refl, sym, ap, ◌∙◌, subst, Contains, length}
use Rattle.std.proofs.lemmas.List.{get_or_past}
use Rattle.std.proofs.lemmas.Bool.{cases_lt}
use Rattle.cycles.specs.declared.edge.Edge.{Edge}
use Rattle.cycles.specs.declared.marks.Mark.{Mark}
use Rattle.cycles.specs.Depends.{Depends, directly, through}
use Rattle.cycles.specs.Marks.{mark, unmarked, distance, IsOrdered, HasRootOf, LeadsOut, LeadsIn, NodePasses}
use Rattle.cycles.proofs.Reaching.{then_edge}

abbrev edge_of : ℕ → ℕ → Edge
edge_of v w = record { from = v; to = w }

-- one node, or a dependence
abbrev Reaches : List Edge → ℕ → ℕ → Type 0
Reaches edges v w = (v ≡ w) ⊎ Depends edges v w

none_below : {A : Type 0} (a b : ℕ) → a < b → b ≤ 0 → A
none_below a b l h = absurd (omega arith)

below_suc : (a b k : ℕ) → a < b → b ≤ suc k → a ≤ k
below_suc a b k l h = omega arith

module _ (edges : List Edge) where
  joined : {v w u : ℕ} → Depends edges v w → Depends edges w u → Depends edges v u
  joined (directly e) q = through e q
  joined (through e p) q = through e (joined p q)

  edge_first : (v w u : ℕ) → Contains edges (edge_of v w) → Reaches edges w u → Depends edges v u
  edge_first v w u e (inl is) = directly (subst (λ z. Contains edges (edge_of v z)) is e)
  edge_first v w u e (inr d) = through e d

  edge_last : (v w u : ℕ) → Reaches edges v w → Contains edges (edge_of w u) → Depends edges v u
  edge_last v w u (inl is) e = directly (subst (λ z. Contains edges (edge_of z u)) (sym is) e)
  edge_last v w u (inr d) e = then_edge edges d e

  then_reaches : (v w u : ℕ) → Depends edges v w → Reaches edges w u → Depends edges v u
  then_reaches v w u d (inl is) = subst (λ z. Depends edges v z) is d
  then_reaches v w u d (inr q) = joined d q

  module _ (marks : List Mark) (ordered : (v w : ℕ) → Contains edges (edge_of v w) → IsOrdered (mark marks v) (mark marks w)) where
    lower : (m n : Mark) → IsOrdered m n → n.component ≤ m.component
    lower m n (inl h) = omega arith
    lower m n (inr h) = omega (arith, h.0)

    -- no dependence leads to a higher component
    falls : {v w : ℕ} → Depends edges v w → (mark marks w).component ≤ (mark marks v).component
    falls (directly {v} {w} e) = lower (mark marks v) (mark marks w) (ordered v w e)
    falls (through {v} {w} {u} e d) = let a = lower (mark marks v) (mark marks w) (ordered v w e) in let b = falls d in omega (arith, a, b)

    -- an edge that doesn't lead lower stays in a cyclic component
    stays : (m n : Mark) → IsOrdered m n → m.component ≤ n.component → m.cyclic ≡ true
    stays m n (inl h) k = absurd (omega arith)
    stays m n (inr h) k = h.1

    comes_back : (v w : ℕ) → v ≡ w → Depends edges v w → (mark marks v).cyclic ≡ true
    comes_back _ _ is (directly {v} {w} e) = stays (mark marks v) (mark marks w) (ordered v w e) (subst (λ z. (mark marks v).component ≤ (mark marks z).component) is (omega arith))
    comes_back _ _ is (through {v} {w} {u} e d) = stays (mark marks v) (mark marks w) (ordered v w e) (subst (λ z. (mark marks z).component ≤ (mark marks w).component) (sym is) (falls d))

    -- what depends on itself is marked so
    pub complete_marks : (v : ℕ) → Depends edges v v → (mark marks v).cyclic ≡ true
    complete_marks v d = comes_back v v refl d

  module _ (marks : List Mark) (passes : (v : ℕ) → NodePasses edges marks v) where
    abbrev root : ℕ → ℕ
    root v = (mark marks v).root

    on_out : (v w : ℕ) → Contains edges (edge_of v w) → HasRootOf (mark marks v) (mark marks w) → Reaches edges w (root w) → Depends edges v (root v)
    on_out v w e has r = subst (λ z. Depends edges v z) has.0 (edge_first v w (root w) e r)

    out_by : (v w : ℕ) → Contains edges (edge_of v w) → HasRootOf (mark marks v) (mark marks w) → (distance (mark marks w) < distance (mark marks v) → Reaches edges w (root w))
        → (v ≡ root v) ⊎ ((w ≡ root v) ⊎ (distance (mark marks w) < distance (mark marks v))) → Reaches edges v (root v)
    out_by v w e has nearer (inl is) = inl is
    out_by v w e has nearer (inr (inl is)) = inr (on_out v w e has (inl (is ∙ sym has.0)))
    out_by v w e has nearer (inr (inr l)) = inr (on_out v w e has (nearer l))

    to_root : (k v : ℕ) → distance (mark marks v) ≤ k → (mark marks v).cyclic ≡ true → Reaches edges v (root v)
    to_root zero v h c = let out = (passes v c).0 in out_by v out.0 out.1 out.2 (λ l. none_below (distance (mark marks out.0)) (distance (mark marks v)) l h) out.3
    to_root (suc k) v h c =
        let out = (passes v c).0 in
        out_by v out.0 out.1 out.2 (λ l. to_root k out.0 (below_suc (distance (mark marks out.0)) (distance (mark marks v)) k l h) out.2.1) out.3

    on_in : (u v : ℕ) → Contains edges (edge_of u v) → HasRootOf (mark marks v) (mark marks u) → Reaches edges (root u) u → Depends edges (root v) v
    on_in u v e has r = subst (λ z. Depends edges z v) has.0 (edge_last (root u) u v r e)

    in_by : (v : ℕ) → ((u : ℕ) → (mark marks u).order < (mark marks v).order → (mark marks u).cyclic ≡ true → Reaches edges (root u) u) → LeadsIn edges marks v (mark marks v) → Reaches edges (root v) v
    in_by v nearer (inl is) = inl (sym is)
    in_by v nearer (inr into) = inr (on_in into.0 v into.1 into.2 (nearer into.0 into.3 into.2.1))

    from_root : (k v : ℕ) → (mark marks v).order ≤ k → (mark marks v).cyclic ≡ true → Reaches edges (root v) v
    from_root zero v h c = in_by v (λ u l. none_below (mark marks u).order (mark marks v).order l h) (passes v c).1
    from_root (suc k) v h c = in_by v (λ u l. from_root k u (below_suc (mark marks u).order (mark marks v).order k l h)) (passes v c).1

    -- what is marked so depends on itself
    pub sound_marks : (v : ℕ) → (mark marks v).cyclic ≡ true → Depends edges v v
    sound_marks v c =
        let out = (passes v c).0 in
        let to = to_root (distance (mark marks out.0)) out.0 (omega arith) out.2.1 in
        then_reaches v (root v) v (on_out v out.0 out.1 out.2 to) (from_root (mark marks v).order v (omega arith) c)

not_past : {A : Type 0} (marks : List Mark) (v : ℕ) → length marks ≤ v → (mark marks v).cyclic ≡ true → A
not_past marks v h c = let e : mark marks v ≡ unmarked = get_or_past marks v unmarked h in let f : false ≡ true = sym (ap (λ m. m.cyclic) e) ∙ c in absurd cc

-- nodes past the marks aren't marked
pub all_pass : (edges : List Edge) (marks : List Mark) → ((v : ℕ) → v < length marks → NodePasses edges marks v) → (v : ℕ) → NodePasses edges marks v
all_pass edges marks passes v c = of_place (cases_lt v (length marks))
  where
    of_place : (v < length marks) ⊎ (length marks ≤ v) → LeadsOut edges marks v (mark marks v) × LeadsIn edges marks v (mark marks v)
    of_place (inl h) = passes v h c
    of_place (inr h) = not_past marks v h c
