-- The edges through the own nodes of groups say the same as all edges.
use Rattle.std.proofs.Common.{◌≡◌, ℕ, suc, ◌+◌, ◌<◌, ◌≤◌, List, [], ◌∷◌, ◌⊎◌, inl, inr, arith, refl, ap, subst, Contains, length, get_or}
use Rattle.std.specs.Prelude.{map}
use Rattle.std.proofs.lemmas.List.Elements.{Contains-append_left, Contains-append_right, Contains-append_cases, Contains-get_or}
use Rattle.cycles.specs.Depends.{Depends, EndsBelow, directly, through}
use Rattle.cycles.specs.declared.group.Group.{Group}
use Rattle.cycles.specs.Groups.{edge, group_edges, edges_of}
use Rattle.cycles.specs.Stars.{star, stars, LieBelow}
use Rattle.cycles.proofs.Members.{none_in, first_in, later_in, in_cases, in_map, from_map, in_flat, from_flat}

-- the group at a place, where the own node of the first is `base`
data Numbered : ℕ → List Group → ℕ → Group → Type 0 where
  first : {base : ℕ} {g : Group} {gs : List Group} → Numbered base (g ∷ gs) base g
  later : {base middle : ℕ} {g h : Group} {gs : List Group} → Numbered (suc base) gs middle h → Numbered base (g ∷ gs) middle h

-- an own node isn't below the first
from_base : (base : ℕ) (gs : List Group) (middle : ℕ) (g : Group) → Numbered base gs middle g → base ≤ middle
from_base base [] middle h n = elim n [ ]
from_base base (g ∷ gs) _ _ first = omega arith
from_base base (g ∷ gs) middle h (later n) = let b = from_base (suc base) gs middle h n in omega (arith, b)

is_member : (base : ℕ) (gs : List Group) (middle : ℕ) (g : Group) → Numbered base gs middle g → Contains gs g
is_member base [] middle h n = elim n [ ]
is_member base (g ∷ gs) _ _ first = first_in g gs
is_member base (g ∷ gs) middle h (later n) = later_in g gs h (is_member (suc base) gs middle h n)

-- each own node has one group
same_group : (base : ℕ) (gs : List Group) (middle other : ℕ) (g h : Group) → Numbered base gs middle g → Numbered base gs other h → middle ≡ other → g ≡ h
same_group base [] middle other g h n m e = elim n [ ]
same_group base (g ∷ gs) _ _ _ _ first first e = refl
same_group base (g ∷ gs) _ other _ h first (later n) e = let b = from_base (suc base) gs other h n in absurd (omega (arith, b, e))
same_group base (g ∷ gs) middle _ h _ (later n) first e = let b = from_base (suc base) gs middle h n in absurd (omega (arith, b, e))
same_group base (g ∷ gs) middle other h k (later n) (later m) e = same_group (suc base) gs middle other h k n m e

-- what an edge of a star is
data IsOfStar (base : ℕ) (gs : List Group) : ℕ → ℕ → Type 0 where
  into : {v middle : ℕ} {g : Group} → Numbered base gs middle g → Contains g.from v → IsOfStar base gs v middle
  out : {middle x : ℕ} {g : Group} → Numbered base gs middle g → Contains g.to x → IsOfStar base gs middle x

of_later : (base : ℕ) (g : Group) (gs : List Group) (v w : ℕ) → IsOfStar (suc base) gs v w → IsOfStar base (g ∷ gs) v w
of_later base g gs _ _ (into n c) = into (later n) c
of_later base g gs _ _ (out n c) = out (later n) c

-- an edge of the stars leads into or out of a group's own node
of_star : (base : ℕ) (g : Group) (gs : List Group) (v w : ℕ) → Contains (star base g) (edge v w) → IsOfStar base (g ∷ gs) v w
of_star base g gs v w c = at_part (Contains-append_cases (map (λ x. edge x base) g.from) (map (edge base) g.to) (edge v w) c)
  where
    at_part : Contains (map (λ x. edge x base) g.from) (edge v w) ⊎ Contains (map (edge base) g.to) (edge v w) → IsOfStar base (g ∷ gs) v w
    at_part (inl d) =
        let found = from_map (λ x. edge x base) g.from (edge v w) d in
        subst (λ y. IsOfStar base (g ∷ gs) v y) (ap (λ e. e.to) found.2) (subst (λ y. IsOfStar base (g ∷ gs) y base) (ap (λ e. e.from) found.2) (into first found.1))
    at_part (inr d) =
        let found = from_map (edge base) g.to (edge v w) d in
        subst (λ y. IsOfStar base (g ∷ gs) y w) (ap (λ e. e.from) found.2) (subst (λ y. IsOfStar base (g ∷ gs) base y) (ap (λ e. e.to) found.2) (out first found.1))

of_stars : (base : ℕ) (gs : List Group) (v w : ℕ) → Contains (stars base gs) (edge v w) → IsOfStar base gs v w
of_stars base [] v w c = absurd (none_in (edge v w) c)
of_stars base (g ∷ gs) v w c = at_part (λ d. of_stars (suc base) gs v w d) (Contains-append_cases (star base g) (stars (suc base) gs) (edge v w) c)
  where
    at_part : (Contains (stars (suc base) gs) (edge v w) → IsOfStar (suc base) gs v w) → Contains (star base g) (edge v w) ⊎ Contains (stars (suc base) gs) (edge v w) → IsOfStar base (g ∷ gs) v w
    at_part behind (inl d) = of_star base g gs v w d
    at_part behind (inr d) = of_later base g gs v w (behind d)

-- each group has its edges through its own node
has_into : (base : ℕ) (gs : List Group) (middle : ℕ) (g : Group) (v : ℕ) → Numbered base gs middle g → Contains g.from v → Contains (stars base gs) (edge v middle)
has_into base [] middle h v n c = elim n [ ]
has_into base (g ∷ gs) _ _ v first c = Contains-append_left (star base g) (stars (suc base) gs) (edge v base) (Contains-append_left (map (λ x. edge x base) g.from) (map (edge base) g.to) (edge v base) (in_map (λ x. edge x base) g.from v c))
has_into base (g ∷ gs) middle h v (later n) c = Contains-append_right (star base g) (stars (suc base) gs) (edge v middle) (has_into (suc base) gs middle h v n c)

has_out : (base : ℕ) (gs : List Group) (middle : ℕ) (g : Group) (w : ℕ) → Numbered base gs middle g → Contains g.to w → Contains (stars base gs) (edge middle w)
has_out base [] middle h w n c = elim n [ ]
has_out base (g ∷ gs) _ _ w first c = Contains-append_left (star base g) (stars (suc base) gs) (edge base w) (Contains-append_right (map (λ x. edge x base) g.from) (map (edge base) g.to) (edge base w) (in_map (edge base) g.to w c))
has_out base (g ∷ gs) middle h w (later n) c = Contains-append_right (star base g) (stars (suc base) gs) (edge middle w) (has_out (suc base) gs middle h w n c)

has_node : (base : ℕ) (gs : List Group) (g : Group) → Contains gs g → (middle : ℕ) × Numbered base gs middle g
has_node base [] g c = absurd (none_in g c)
has_node base (h ∷ gs) g c = at_front (λ d. has_node (suc base) gs g d) (in_cases h gs g c)
  where
    at_front : (Contains gs g → (middle : ℕ) × Numbered (suc base) gs middle g) → (h ≡ g) ⊎ Contains gs g → (middle : ℕ) × Numbered base (h ∷ gs) middle g
    at_front behind (inl e) = (base, subst (λ k. Numbered base (h ∷ gs) base k) e first)
    at_front behind (inr d) = let found = behind d in (found.0, later found.1)

-- ---- an edge between nodes of a group, and back
has_edge : (gs : List Group) (g : Group) (v w : ℕ) → Contains gs g → Contains g.from v → Contains g.to w → Contains (edges_of gs) (edge v w)
has_edge gs g v w c f t = in_flat group_edges gs g (edge v w) c (in_flat (λ x. map (edge x) g.to) g.from v (edge v w) f (in_map (edge v) g.to w t))

pub record Between (gs : List Group) (v w : ℕ) : Type 0 where
  pub group : Group
  pub member : Contains gs group
  pub from : Contains group.from v
  pub to : Contains group.to w

is_edge : (gs : List Group) (v w : ℕ) → Contains (edges_of gs) (edge v w) → Between gs v w
is_edge gs v w c =
    let in_group = from_flat group_edges gs (edge v w) c in
    let g = in_group.0 in
    let from = from_flat (λ x. map (edge x) g.to) g.from (edge v w) in_group.2 in
    let to = from_map (edge from.0) g.to (edge v w) from.2 in
    record {
      group = g;
      member = in_group.1;
      from = subst (λ x. Contains g.from x) (ap (λ e. e.from) to.2) from.1;
      to = subst (λ x. Contains g.to x) (ap (λ e. e.to) to.2) to.1;
    }

module _ (base : ℕ) (gs : List Group) (low : LieBelow base gs) where
  -- each edge of a group goes through its own node
  pub goes_through : (v w : ℕ) → Depends (edges_of gs) v w → Depends (stars base gs) v w
  goes_through _ _ (directly {v} {w} c) =
      let b = is_edge gs v w c in
      let n = has_node base gs b.group b.member in
      through (has_into base gs n.0 b.group v n.1 b.from) (directly (has_out base gs n.0 b.group w n.1 b.to))
  goes_through _ _ (through {v} {w} {u} c d) =
      let b = is_edge gs v w c in
      let n = has_node base gs b.group b.member in
      through (has_into base gs n.0 b.group v n.1 b.from) (through (has_out base gs n.0 b.group w n.1 b.to) (goes_through w u d))

  -- what a node below the own nodes depends on, or the second nodes of a group
  record Follows (v w : ℕ) : Type 0 where
    below : v < base → Depends (edges_of gs) v w
    own : (g : Group) → Numbered base gs v g → (t : ℕ) × Contains g.to t × ((t ≡ w) ⊎ Depends (edges_of gs) t w)

  -- an own node isn't below, and isn't a node of a group
  not_below : {A : Type 0} (middle : ℕ) (g : Group) → Numbered base gs middle g → middle < base → A
  not_below middle g n h = let b = from_base base gs middle g n in absurd (omega (arith, b, h))

  behind : (g : Group) (v w t : ℕ) → Contains gs g → Contains g.from v → Contains g.to t → (t ≡ w) ⊎ Depends (edges_of gs) t w → Depends (edges_of gs) v w
  behind g v w t c f k (inl e) = directly (subst (λ x. Contains (edges_of gs) (edge v x)) e (has_edge gs g v t c f k))
  behind g v w t c f k (inr d) = through (has_edge gs g v t c f k) d

  follows_edge : (v w : ℕ) → w < base → IsOfStar base gs v w → Follows v w
  follows_edge _ _ h (into {v} {middle} {g} n c) = not_below middle g n h
  follows_edge _ _ h (out {middle} {x} {g} n c) = record {
    below = λ k. not_below middle g n k;
    own = λ g' m. (x, subst (λ y. Contains y.to x) (same_group base gs middle middle g g' n m refl) c, inl refl);
  }

  follows_on : (v x w : ℕ) → IsOfStar base gs v x → Follows x w → Follows v w
  follows_on _ _ w (into {v} {middle} {g} n c) f = record {
    below = λ k. let t = f.own g n in behind g v w t.0 (is_member base gs middle g n) c t.1 t.2;
    own = λ g' m. not_below v g' m (low.from g v (is_member base gs middle g n) c);
  }
  follows_on _ _ w (out {middle} {x} {g} n c) f = record {
    below = λ k. not_below middle g n k;
    own = λ g' m. (x, subst (λ y. Contains y.to x) (same_group base gs middle middle g g' n m refl) c, inr (f.below (low.to g x (is_member base gs middle g n) c)));
  }

  follows : (v w : ℕ) → w < base → Depends (stars base gs) v w → Follows v w
  follows _ _ h (directly {v} {w} c) = follows_edge v w h (of_stars base gs v w c)
  follows _ _ h (through {v} {w} {u} c d) = follows_on v w u (of_stars base gs v w c) (follows w u h d)

  -- between nodes of groups the edges through own nodes say no more
  pub comes_back : (v w : ℕ) → v < base → w < base → Depends (stars base gs) v w → Depends (edges_of gs) v w
  comes_back v w h k d = (follows v w k d).below h

  -- nothing else depends on anything
  pub only_below : (v w : ℕ) → Depends (edges_of gs) v w → v < base
  only_below _ _ (directly {v} {w} c) = let b = is_edge gs v w c in low.from b.group v b.member b.from
  only_below _ _ (through {v} {w} {u} c d) = let b = is_edge gs v w c in low.from b.group v b.member b.from

-- an own node lies below the first and the number of groups
numbered_below : (base : ℕ) (gs : List Group) (middle : ℕ) (g : Group) → Numbered base gs middle g → middle < base + length gs
numbered_below base [] middle g n = elim n [ ]
numbered_below base (g ∷ gs) _ _ first = omega arith
numbered_below base (g ∷ gs) middle h (later n) = let b = numbered_below (suc base) gs middle h n in omega (arith, b)

ends_of : (base : ℕ) (gs : List Group) → LieBelow base gs → (v w : ℕ) → IsOfStar base gs v w → (v < base + length gs) × (w < base + length gs)
ends_of base gs low _ _ (into {v} {middle} {g} n c) =
    let a = low.from g v (is_member base gs middle g n) c in
    let b = numbered_below base gs middle g n in
    (omega (arith, a), b)
ends_of base gs low _ _ (out {middle} {x} {g} n c) =
    let a = low.to g x (is_member base gs middle g n) c in
    let b = numbered_below base gs middle g n in
    (b, omega (arith, a))

-- all ends of the edges through own nodes lie below
pub ends_below : (base : ℕ) (gs : List Group) → LieBelow base gs → EndsBelow (base + length gs) (stars base gs)
ends_below base gs low = λ k d l. ends_of base gs low _ _ (of_stars base gs (get_or (stars base gs) k d).from (get_or (stars base gs) k d).to (Contains-get_or (stars base gs) k d l))
