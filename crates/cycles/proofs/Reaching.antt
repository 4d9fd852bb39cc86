-- What following edges reaches is what a node depends on.
use Rattle.std.proofs.Common.{◌≡◌, ℕ, ◌+◌, ◌<◌, ◌≤◌, Bool, true, false, cond, List, [], ◌∷◌, ◌++◌, ◌⊎◌, inl, inr, arith, refl, sym, ap, ◌∙◌, subst, Contains, get_or, slice_set, length, count_by, length-append, replicate}
use Rattle.std.specs.List.{All}
use Rattle.std.specs.List.Sorted.{IsPermutation}
use Rattle.std.proofs.Math.ListN.{length-set}
use Rattle.std.proofs.lemmas.Bool.{cases_eq, cases_lt}
use Rattle.std.proofs.lemmas.List.{get_or-set_same, get_or-set_other, get_or_default, get_or_past, get_or-replicate, length-replicate}
use Rattle.std.proofs.lemmas.List.Elements.{Contains-append_left, Contains-push, Contains-push_cases}
use Rattle.std.proofs.lemmas.List.Sorted.{Contains-permutation}
use Rattle.std.proofs.lemmas.List.Sums.{sum_by-set}
use Rattle.cycles.specs.declared.edge.Edge.{Edge}
use Rattle.cycles.specs.Depends.{Depends, directly, through, IsSet}
use Rattle.cycles.specs.Following.{OnlyDepended, IsSource, IsFollowed, Grown}

abbrev edge_of : ℕ → ℕ → Edge
edge_of v w = record { from = v; to = w }

module _ (edges : List Edge) where
  -- a dependence goes on over an edge
  pub then_edge : {v w u : ℕ} → Depends edges v w → Contains edges (edge_of w u) → Depends edges v u
  then_edge (directly e) f = through e (directly f)
  then_edge (through e d) f = through e (then_edge d f)

  -- an edge out of a source leads to what is depended on
  pub from_source : (start : ℕ) (reached : List Bool) (e : Edge) → OnlyDepended edges start reached → Contains edges e → IsSource start reached e.from → Depends edges start e.to
  from_source start reached e sound at (inl is) = directly (subst (λ v. Contains edges (edge_of v e.to)) is at)
  from_source start reached e sound at (inr been) = then_edge (sound e.from been) at

  -- where the edges out of all sources are followed, all that is depended on has been reached
  pub complete : (start : ℕ) (reached : List Bool) → ((v : ℕ) → IsSource start reached v → IsFollowed edges reached v) → (v u : ℕ) → IsSource start reached v → Depends edges v u → IsSet reached u
  complete start reached followed _ _ source (directly {v} {w} e) = followed v source (edge_of v w) e refl
  complete start reached followed _ _ source (through {v} {w} {u} e d) = complete start reached followed w u (inr (followed v source (edge_of v w) e refl)) d

-- a source stays one
pub source_kept : (start : ℕ) (reached new : List Bool) (v : ℕ) → ((x : ℕ) → IsSet reached x → IsSet new x) → IsSource start reached v → IsSource start new v
source_kept start reached new v kept (inl is) = inl is
source_kept start reached new v kept (inr s) = inr (kept v s)

-- what an edge out of a source reaches is depended on
pub sound_more : (edges : List Edge) (start : ℕ) (reached new : List Bool) (e : Edge) (node : ℕ) → Contains edges e → e.from ≡ node → IsSource start reached node → OnlyDepended edges start reached
    → ((v : ℕ) → IsSet new v → IsSet reached v ⊎ (v ≡ e.to)) → OnlyDepended edges start new
sound_more edges start reached new e node at is source sound only v s = of_case (only v s)
  where
    of_case : IsSet reached v ⊎ (v ≡ e.to) → Depends edges start v
    of_case (inl s') = sound v s'
    of_case (inr new_one) = subst (λ x. Depends edges start x) (sym new_one) (from_source edges start reached e sound at (subst (λ x. IsSource start reached x) (sym is) source))

-- the order of the edges doesn't matter
pub depends_permuted : (xs ys : List Edge) → IsPermutation xs ys → {v w : ℕ} → Depends xs v w → Depends ys v w
depends_permuted xs ys moved (directly e) = directly (Contains-permutation xs ys _ moved e)
depends_permuted xs ys moved (through e d) = through (Contains-permutation xs ys _ moved e) (depends_permuted xs ys moved d)

-- nothing more has been reached
pub grown_none : (reached : List Bool) (waiting : List ℕ) → Grown reached reached waiting waiting
grown_none reached waiting = record {
  size = refl;
  set = λ v s. s;
  waits = λ v w. w;
  new_waits = λ v s. inl s;
  later_set = λ v w. inl w;
  counted = omega arith;
}

-- more has been reached, and more again
pub grown_twice : (a b c : List Bool) (u v w : List ℕ) → Grown a b u v → Grown b c v w → Grown a c u w
grown_twice a b c u v w one two = record {
  size = two.size ∙ one.size;
  set = λ x s. two.set x (one.set x s);
  waits = λ x h. two.waits x (one.waits x h);
  new_waits = λ x s. older x (two.new_waits x s);
  later_set = λ x h. newer x (two.later_set x h);
  counted = omega (arith, one.counted, two.counted);
}
  where
    still_waits : (x : ℕ) → IsSet a x ⊎ Contains v x → IsSet a x ⊎ Contains w x
    still_waits x (inl s) = inl s
    still_waits x (inr h) = inr (two.waits x h)

    older : (x : ℕ) → IsSet b x ⊎ Contains w x → IsSet a x ⊎ Contains w x
    older x (inl s) = still_waits x (one.new_waits x s)
    older x (inr h) = inr h

    still_set : (x : ℕ) → Contains u x ⊎ IsSet b x → Contains u x ⊎ IsSet c x
    still_set x (inl h) = inl h
    still_set x (inr s) = inr (two.set x s)

    newer : (x : ℕ) → Contains v x ⊎ IsSet c x → Contains u x ⊎ IsSet c x
    newer x (inl h) = still_set x (one.later_set x h)
    newer x (inr s) = inr s

module _ (reached : List Bool) (node : ℕ) (low : node < length reached) where
  set_there : IsSet (slice_set reached node true) node
  set_there = get_or-set_same reached node true false low

  still_set : (v : ℕ) → IsSet reached v → (v ≡ node) ⊎ (v ≡ node → ⊥) → IsSet (slice_set reached node true) v
  still_set v s (inl is) = subst (λ x. IsSet (slice_set reached node true) x) (sym is) set_there
  still_set v s (inr isnt) = get_or-set_other reached node v true false isnt ∙ s

  was_set : (v : ℕ) → IsSet (slice_set reached node true) v → (v ≡ node) ⊎ (v ≡ node → ⊥) → IsSet reached v ⊎ (v ≡ node)
  was_set v s (inl is) = inr is
  was_set v s (inr isnt) = inl (sym (get_or-set_other reached node v true false isnt) ∙ s)

  -- only the node is new
  pub only_node : (v : ℕ) → IsSet (slice_set reached node true) v → IsSet reached v ⊎ (v ≡ node)
  only_node v s = was_set v s (cases_eq v node)

  counted_one : get_or reached node false ≡ false → count_by (λ b. b) reached + 1 ≤ count_by (λ b. b) (slice_set reached node true)
  counted_one not_yet =
      let counted = sum_by-set (λ b. cond b 1 0) reached node true false low in
      let none : ◌≡◌ {A = ℕ} (cond (get_or reached node false) 1 0) 0 = ap (λ b. cond b 1 0) not_yet in
      omega (arith, counted, none)

  -- a node more has been reached, and waits
  pub grown_one : (waiting : List ℕ) → get_or reached node false ≡ false → Grown reached (slice_set reached node true) waiting (waiting ++ node ∷ [])
  grown_one waiting not_yet = record {
    size = length-set reached node true;
    set = λ v s. still_set v s (cases_eq v node);
    waits = λ v h. Contains-append_left waiting (node ∷ []) v h;
    new_waits = λ v s. or_waits v (only_node v s);
    later_set = λ v h. or_set v (Contains-push_cases waiting node v h);
    counted = omega (arith, counted_one not_yet, length-append waiting (node ∷ []));
  }
    where
      or_waits : (v : ℕ) → IsSet reached v ⊎ (v ≡ node) → IsSet reached v ⊎ Contains (waiting ++ node ∷ []) v
      or_waits v (inl s) = inl s
      or_waits v (inr is) = inr (subst (λ x. Contains (waiting ++ node ∷ []) x) (sym is) (Contains-push waiting node))

      or_set : (v : ℕ) → Contains waiting v ⊎ (node ≡ v) → Contains waiting v ⊎ IsSet (slice_set reached node true) v
      or_set v (inl h) = inl h
      or_set v (inr is) = inr (subst (λ x. IsSet (slice_set reached node true) x) is set_there)

-- what holds of the edges below a place and of the one there holds of those below the next
pub edges_more : (edges : List Edge) (P : Edge → Type 0) (i : ℕ) (e : Edge) → i < length edges → P (get_or edges i e) → ((k : ℕ) (d : Edge) → k < i → P (get_or edges k d)) → (k : ℕ) (d : Edge) → k < i + 1 → P (get_or edges k d)
edges_more edges P i e low here below k d h = at_place (cases_lt k i)
  where
    at_place : (k < i) ⊎ (i ≤ k) → P (get_or edges k d)
    at_place (inl h') = below k d h'
    at_place (inr h') = let is : k ≡ i = omega arith in subst P (get_or_default edges i e d low ∙ ap (λ j. get_or edges j d) (sym is)) here

-- of all edges, from each place of the list
pub at_member : (edges : List Edge) (P : Edge → Type 0) → All P edges → (e : Edge) → Contains edges e → P e
at_member edges P all e (k, low, is) = subst P is (all k e low)

-- no flag is set in a list of clear flags
pub none_set : {A : Type 0} (n v : ℕ) → IsSet (replicate n false) v → A
none_set {A = A} n v s = of_place (cases_lt v n)
  where
    clear : get_or (replicate n false) v false ≡ false → A
    clear e = let f : false ≡ true = sym e ∙ s in absurd cc

    of_place : (v < n) ⊎ (n ≤ v) → A
    of_place (inl h) = clear (get_or-replicate n v false false h)
    of_place (inr h) = clear (get_or_past (replicate n false) v false (omega (arith, length-replicate n false)))

-- one node has been taken out of those that wait, and the edges out of it have been followed
module _ (edges : List Edge) (start node : ℕ) (reached new : List Bool) (rest later : List ℕ) (grown : Grown reached new rest later) where
  -- what waits is a source
  pub sources_more : ((v : ℕ) → Contains (rest ++ node ∷ []) v → IsSource start reached v) → (v : ℕ) → Contains later v → IsSource start new v
  sources_more sources v h = of_case (grown.later_set v h)
    where
      of_case : Contains rest v ⊎ IsSet new v → IsSource start new v
      of_case (inl h') = source_kept start reached new v grown.set (sources v (Contains-append_left rest (node ∷ []) v h'))
      of_case (inr s) = inr s

  module _ (node_followed : IsFollowed edges new node) (followed : (v : ℕ) → IsSource start reached v → Contains (rest ++ node ∷ []) v ⊎ IsFollowed edges reached v) where
    or_node : (v : ℕ) → Contains rest v ⊎ (node ≡ v) → Contains later v ⊎ IsFollowed edges new v
    or_node v (inl h) = inl (grown.waits v h)
    or_node v (inr is) = inr (subst (λ x. IsFollowed edges new x) is node_followed)

    of_old : (v : ℕ) → Contains (rest ++ node ∷ []) v ⊎ IsFollowed edges reached v → Contains later v ⊎ IsFollowed edges new v
    of_old v (inl h) = or_node v (Contains-push_cases rest node v h)
    of_old v (inr f) = inr (λ e at is. grown.set e.to (f e at is))

    of_set : (v : ℕ) → IsSet reached v ⊎ Contains later v → Contains later v ⊎ IsFollowed edges new v
    of_set v (inl s) = of_old v (followed v (inr s))
    of_set v (inr h) = inl h

    -- a source waits, or the edges out of it have been followed
    pub followed_more : (v : ℕ) → IsSource start new v → Contains later v ⊎ IsFollowed edges new v
    followed_more v (inl is) = of_old v (followed v (inl is))
    followed_more v (inr s) = of_set v (grown.new_waits v s)

-- where no node waits, the edges out of all sources have been followed
pub all_followed : (edges : List Edge) (start : ℕ) (reached : List Bool) (waiting : List ℕ) → length waiting ≡ 0 → ((v : ℕ) → IsSource start reached v → Contains waiting v ⊎ IsFollowed edges reached v) → (v : ℕ) → IsSource start reached v → IsFollowed edges reached v
all_followed edges start reached waiting none followed v source = of_case (followed v source)
  where
    of_case : Contains waiting v ⊎ IsFollowed edges reached v → IsFollowed edges reached v
    of_case (inl (k, low, is)) = absurd (omega (arith, low, none))
    of_case (inr f) = f
