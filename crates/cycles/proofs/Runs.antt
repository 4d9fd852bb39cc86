-- In the order of the nodes that edges lead from, the edges out of one node stand together.
use Rattle.std.proofs.Common.{◌≡◌, ℕ, ◌+◌, ◌-◌, min, ◌<◌, ◌≤◌, List, ◌⊎◌, inl, inr, arith, sym, ap, ◌∙◌, subst, Contains, get_or, length, take, drop, true, false, leb, ltb, leb-true, leb-false, ltb-true, ltb-false}
use Rattle.std.specs.List.Sorted.{IsPartitionPoint}
use Rattle.std.proofs.lemmas.Bool.{cases_lt}
use Rattle.std.proofs.lemmas.List.{get_or-take, get_or-drop, get_or_default, length-take, length-drop}
use Rattle.cycles.specs.declared.edge.Edge.{Edge}

-- before `begin` edges lead from lower nodes, and behind it `count` edges lead from the node
pub record IsRun (edges : List Edge) (node begin count : ℕ) : Type 0 where
  pub before : (k : ℕ) (d : Edge) → k < begin → (get_or edges k d).from < node
  pub behind : (k : ℕ) (d : Edge) → begin ≤ k → k < length edges → node ≤ (get_or edges k d).from
  pub inside : (k : ℕ) (d : Edge) → k < count → (get_or (drop begin edges) k d).from ≤ node
  pub past : (k : ℕ) (d : Edge) → count ≤ k → k < length (drop begin edges) → node < (get_or (drop begin edges) k d).from

-- from the two places that are searched
pub run_of : (edges : List Edge) (node begin count : ℕ) → IsPartitionPoint (λ e. ltb e.from node ≡ true) (λ e. ltb e.from node ≡ false) edges begin
    → IsPartitionPoint (λ e. leb e.from node ≡ true) (λ e. leb e.from node ≡ false) (drop begin edges) count → IsRun edges node begin count
run_of edges node begin count first second = record {
  before = λ k d h. ltb-true (get_or edges k d).from node (first.0 k d (omega arith) h);
  behind = λ k d h low. ltb-false (get_or edges k d).from node (first.1 k d h low);
  inside = λ k d h. leb-true (get_or (drop begin edges) k d).from node (second.0 k d (omega arith) h);
  past = λ k d h low. leb-false (get_or (drop begin edges) k d).from node (second.1 k d h low);
}

module _ (edges : List Edge) (node begin count : ℕ) (run : IsRun edges node begin count) where
  abbrev rest : List Edge
  rest = drop begin edges

  -- each edge of the run is one of the edges, and leads from the node
  pub run_from : (k : ℕ) (d : Edge) → k < length (take count rest) → Contains edges (get_or (take count rest) k d) × ((get_or (take count rest) k d).from ≡ node)
  run_from k d low =
      let lengths : length (take count rest) ≡ min count (length rest) = length-take count rest in
      let dropped : length rest ≡ length edges - begin = length-drop begin edges in
      let inside : k < count = omega (arith, lengths) in
      let low' : begin + k < length edges = omega (arith, lengths, dropped) in
      let at : get_or rest k d ≡ get_or edges (begin + k) d = get_or-drop begin edges k d in
      let same : (get_or rest k d).from ≡ (get_or edges (begin + k) d).from = ap (λ (e : Edge). e.from) at in
      let above : node ≤ (get_or edges (begin + k) d).from = run.behind (begin + k) d (omega arith) low' in
      let under : (get_or rest k d).from ≤ node = run.inside k d inside in
      subst (λ (x : Edge). Contains edges x × (x.from ≡ node)) (sym (get_or-take count rest k d inside))
      ((begin + k, low', get_or_default edges (begin + k) (get_or rest k d) d low' ∙ sym at), omega (arith, same, above, under))

  -- each edge that leads from the node is one of the run
  pub run_each : (e : Edge) → Contains edges e → e.from ≡ node → Contains (take count rest) e
  run_each e (i, low, is) from = of_place (cases_lt i begin)
    where
      found : i < length edges → begin ≤ i → (i - begin < count) ⊎ (count ≤ i - begin) → get_or rest (i - begin) e ≡ e → Contains (take count rest) e
      found l h (inl inside) at =
          let lengths : length (take count rest) ≡ min count (length rest) = length-take count rest in
          let dropped : length rest ≡ length edges - begin = length-drop begin edges in
          (i - begin, omega (arith, lengths, dropped), get_or-take count rest (i - begin) e inside ∙ at)
      found l h (inr outside) at =
          let dropped : length rest ≡ length edges - begin = length-drop begin edges in
          let over : node < (get_or rest (i - begin) e).from = run.past (i - begin) e outside (omega (arith, dropped)) in
          let same : (get_or rest (i - begin) e).from ≡ e.from = ap (λ (x : Edge). x.from) at in
          absurd (omega (arith, over, same, from))

      of_place : (i < begin) ⊎ (begin ≤ i) → Contains (take count rest) e
      of_place (inl h) =
          let under : (get_or edges i e).from < node = run.before i e h in
          let same : (get_or edges i e).from ≡ e.from = ap (λ (x : Edge). x.from) is in
          absurd (omega (arith, under, same, from))
      of_place (inr h) = found low h (cases_lt (i - begin) count) (get_or-drop begin edges (i - begin) e ∙ ap (λ j. get_or edges j e) (omega arith) ∙ is)
