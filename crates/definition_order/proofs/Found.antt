-- The order that is found is one in which each definition stands behind those that it needs.
use Rattle.std.proofs.Common.{◌≡◌, ◌<◌, ◌+◌, ◌⊎◌, inl, inr, ℕ, zero, suc, List, [], ◌∷◌, Option, Some, None, map, length, refl, sym, ap, subst, ◌∙◌, arith}
use Rattle.std.specs.Prelude.{slice_get, option_map, option_and_then}
use Rattle.std.specs.List.{Contains}
use Rattle.std.proofs.lemmas.List.{length-map}
use Rattle.std.proofs.lemmas.Option.{slice_get-map, slice_get_within}
use Rattle.std.proofs.lemmas.List.Elements.{All-contains}
use Rattle.names_model.specs.declared.names.Resolved.{Resolved}
use Rattle.names_laws.specs.Rising.{Rise, use_places}
use Rattle.names_laws.proofs.Members.{none_in, later_in, in_cases}
use Rattle.checks_model.specs.Ground as model
use Rattle.checks_model.specs.Ground.{Ground, a_predefined, Predefined}
use Rattle.table_laws.specs.OneTable.{NeedsDone, NeedsEarlier, IsOrder}
use Rattle.table_laws.specs.OneTable as tables
use Rattle.graph_order.specs.Needs.{needs_of, AreInside, NeedsBefore, EachOnce, HasCircle}
use Rattle.definition_origins.specs.declared.origin.Origin.{Origin}
use Rattle.definition_origins.specs.OriginTrees.{origin_tree, origin_trees}
use Rattle.definition_origins.specs.Firsts.{first_of, FirstsAgree}
use Rattle.definition_order.specs.Needs.{waited, other_first, first_or, needs_from, needs_in, IsGroundWith}
use Rattle.definition_order.proofs.Waiting.{HasTrees, IsOther, origin_there, waited_done, waited_needed, waited_within, predefined_waits}
use Rattle.definition_order.proofs.Circles.{IsClauses, IsClosed, StandsBehind, other_is_first, waits_done, no_circle}

-- ---- each once

pub each_once : (done ds : List ℕ) → EachOnce done ds → tables.EachOnce done ds
each_once done [] once = tt
each_once done (d ∷ ds) once = (once.0, each_once (d ∷ done) ds once.1)

-- ---- what a definition waits for, by its number

-- the first definition of the clause that stands at a number, and what the definition there waits for by its names
abbrev first_at : List Origin → ℕ → Option ℕ
first_at os d = option_and_then first_of (slice_get os d)

waited_by : List Resolved → List model.Origin → Option model.Origin → List ℕ
waited_by us ts None = []
waited_by us ts (Some t) = waited us ts t

waited_by-some : (us : List Resolved) (ts : List model.Origin) (t : model.Origin) → waited_by us ts (Some t) ≡ waited us ts t
unfolding waited_by
waited_by-some us ts t = refl

waited_by-none : (us : List Resolved) (ts : List model.Origin) → waited_by us ts None ≡ []
unfolding waited_by
waited_by-none us ts = refl

abbrev waits_at : List Resolved → List model.Origin → ℕ → List ℕ
waits_at us ts d = waited_by us ts (slice_get ts d)

needs_there : (us : List Resolved) (ts : List model.Origin) (k : ℕ) (os : List Origin) (j : ℕ) (o : Origin) (t : model.Origin) → slice_get os j ≡ Some o → slice_get (origin_trees os) j ≡ Some t → needs_of (needs_from us ts k os) j ≡ first_or (other_first (k + j) (first_of o)) (waited us ts t)
needs_there us ts k [] zero o t at tree = cc
needs_there us ts k [] (suc j) o t at tree = cc
needs_there us ts k (x ∷ os) zero o t at tree =
    let same : x ≡ o = cc in
    let own : origin_tree x ≡ t = cc in
    let behind : k ≡ k + 0 = omega arith in
    ap (λ (p : Origin). first_or (other_first k (first_of p)) (waited us ts (origin_tree x))) same ∙ ap (λ (p : model.Origin). first_or (other_first k (first_of o)) (waited us ts p)) own ∙ ap (λ (n : ℕ). first_or (other_first n (first_of o)) (waited us ts t)) behind
needs_there us ts k (x ∷ os) (suc j) o t at tree =
    needs_there us ts (suc k) os j o t at tree ∙ ap (λ (n : ℕ). first_or (other_first n (first_of o)) (waited us ts t)) (behind k j)
  where
    behind : (k j : ℕ) → suc k + j ≡ k + suc j
    behind k j = omega arith

length-needs : (us : List Resolved) (ts : List model.Origin) (k : ℕ) (os : List Origin) → length (needs_from us ts k os) ≡ length os
length-needs us ts k [] = refl
length-needs us ts k (o ∷ os) = ap suc (length-needs us ts (suc k) os)

nothing_past : (us : List Resolved) (ts : List model.Origin) (k : ℕ) (os : List Origin) (d : ℕ) → slice_get os d ≡ None → needs_of (needs_from us ts k os) d ≡ []
nothing_past us ts k [] d at = refl
nothing_past us ts k (o ∷ os) zero at = cc
nothing_past us ts k (o ∷ os) (suc d) at = nothing_past us ts (suc k) os d at

there_below : (os : List Origin) (e : ℕ) → e < length os → (o : Origin) × (slice_get os e ≡ Some o)
there_below [] e less = absurd (omega arith)
there_below (x ∷ os) zero less = (x, refl)
there_below (x ∷ os) (suc e) less = there_below os e (omega (arith, less))

tree_there : (os : List Origin) (d : ℕ) (o : Origin) → slice_get os d ≡ Some o → slice_get (origin_trees os) d ≡ Some (origin_tree o)
tree_there os d o at = slice_get-map origin_tree os d ∙ ap (λ (x : Option Origin). option_map origin_tree x) at

needs_own : (us : List Resolved) (os : List Origin) (d : ℕ) → d < length (needs_in us os) → needs_of (needs_in us os) d ≡ first_or (other_first d (first_at os d)) (waits_at us (origin_trees os) d)
needs_own us os d less = by (there_below os d (below less)).0 (there_below os d (below less)).1 (slice_get (origin_trees os) d) refl
  where
    below : d < length (needs_in us os) → d < length os
    below less = let len = length-needs us (origin_trees os) 0 os in omega (arith, less, len)

    by : (o : Origin) → slice_get os d ≡ Some o → (t : Option model.Origin) → slice_get (origin_trees os) d ≡ t → needs_of (needs_in us os) d ≡ first_or (other_first d (first_at os d)) (waits_at us (origin_trees os) d)
    by o at None tree = absurd (some_none (sym tree ∙ tree_there os d o at))
      where
        some_none : None ≡ Some (origin_tree o) → ⊥
        some_none e = cc
    by o at (Some t) tree =
        let same : 0 + d ≡ d = omega arith in
        needs_there us (origin_trees os) 0 os d o t at tree
        ∙ ap (λ (n : ℕ). first_or (other_first n (first_of o)) (waited us (origin_trees os) t)) same
        ∙ ap (λ (k : Option ℕ). first_or (other_first d k) (waited us (origin_trees os) t)) (sym (ap (λ (x : Option Origin). option_and_then first_of x) at))
        ∙ ap (λ (ns : List ℕ). first_or (other_first d (first_at os d)) ns) (sym (waited_by-some us (origin_trees os) t) ∙ ap (waited_by us (origin_trees os)) (sym tree))

first_there : (os : List Origin) (d f : ℕ) → FirstsAgree os → first_at os d ≡ Some f → slice_get os f ≡ slice_get os d
first_there os d f agree is = by (slice_get os d) refl is
  where
    by : (o : Option Origin) → slice_get os d ≡ o → option_and_then first_of o ≡ Some f → slice_get os f ≡ o
    by None at e = cc
    by (Some o) at e = agree d o f at e

first_within : (us : List Resolved) (os : List Origin) → FirstsAgree os → (d f : ℕ) → first_at os d ≡ Some f → f < length (needs_in us os)
first_within us os agree d f is = by (slice_get os d) refl is
  where
    by : (o : Option Origin) → slice_get os d ≡ o → option_and_then first_of o ≡ Some f → f < length (needs_in us os)
    by None at e = cc
    by (Some o) at e = let less = slice_get_within os f o (agree d o f at e) in let len = length-needs us (origin_trees os) 0 os in omega (arith, less, len)

clauses : (us : List Resolved) (os : List Origin) → FirstsAgree os → IsClauses (needs_in us os) (first_at os) (waits_at us (origin_trees os))
clauses us os agree = record {
  each = needs_own us os;
  within = first_within us os agree;
  same_first = λ d f is. ap (λ (x : Option Origin). option_and_then first_of x) (first_there os d f agree is) ∙ is;
  same_waits = λ d f is. ap (waited_by us (origin_trees os)) (slice_get-map origin_tree os f ∙ ap (λ (x : Option Origin). option_map origin_tree x) (first_there os d f agree is) ∙ sym (slice_get-map origin_tree os d));
}

-- ---- orders

has_trees : (g : Ground) (us : List Resolved) (os : List Origin) → IsGroundWith g us os → HasTrees g us (origin_trees os)
has_trees g us os h = record {
  uses = h.uses;
  origins = h.origins;
  within = λ u c. let less = h.within u c in let same = length-map os origin_tree in omega (arith, less, same);
}

abbrev IsPredefined : List model.Origin → ℕ → Type 0
IsPredefined ts d = (p : Predefined) × (slice_get ts d ≡ Some (a_predefined p))

stands_behind : (g : Ground) (us : List Resolved) (ts : List model.Origin) → HasTrees g us ts → (done order : List ℕ) → NeedsEarlier g done order → StandsBehind (waits_at us ts) (IsPredefined ts) done order
stands_behind g us ts h done [] earlier = tt
stands_behind g us ts h done (d ∷ order) earlier = (by (slice_get ts d) (subst (NeedsDone g done) (origin_there g us ts h d) earlier.0), stands_behind g us ts h (d ∷ done) order earlier.1)
  where
    by : (t : Option model.Origin) → NeedsDone g done t → (e : ℕ) → Contains (waited_by us ts t) e → ¬ IsPredefined ts e → Contains done e
    by None has e c other = absurd (none_in e (subst (λ (ns : List ℕ). Contains ns e) (waited_by-none us ts) c))
    by (Some t) has e c other = waited_done g us ts done h t has e (subst (λ (ns : List ℕ). Contains ns e) (waited_by-some us ts t) c) (λ p is. other (p, is))

none_left : (us : List Resolved) (ts : List model.Origin) (d e : ℕ) → IsPredefined ts d → Contains (waits_at us ts d) e → ⊥
none_left us ts d e left c = predefined_waits us ts left.0 e (subst (λ (ns : List ℕ). Contains ns e) (ap (waited_by us ts) left.1 ∙ waited_by-some us ts (a_predefined left.0)) c)

length-trees : (us : List Resolved) (os : List Origin) (g : Ground) → IsGroundWith g us os → length (needs_in us os) ≡ length g.origins
length-trees us os g h = length-needs us (origin_trees os) 0 os ∙ sym (length-map os origin_tree) ∙ sym (ap length h.origins)

-- where there is an order, no definitions wait for one another in a circle
none_around : (g : Ground) (us : List Resolved) (os : List Origin) (order : List ℕ) → IsGroundWith g us os → IsOrder g order → ¬ HasCircle (needs_in us os)
none_around g us os order h is =
    no_circle (needs_in us os) (first_at os) (waits_at us (origin_trees os)) (IsPredefined (origin_trees os)) order (clauses us os h.firsts) (none_left us (origin_trees os))
    (stands_behind g us (origin_trees os) (has_trees g us os h) [] order is.earlier) (λ d less. is.all d (subst (λ (n : ℕ). d < n) (length-trees us os g h) less))

needed_earlier : (g : Ground) (us : List Resolved) (os : List Origin) → IsGroundWith g us os → (done ds : List ℕ) → IsClosed (needs_in us os) done → NeedsBefore (needs_in us os) done ds → NeedsEarlier g done ds
needed_earlier g us os h done [] closed before = tt
needed_earlier g us os h done (d ∷ ds) closed before = (subst (NeedsDone g done) (sym (origin_there g us (origin_trees os) (has_trees g us os h) d)) (by (slice_get (origin_trees os) d) refl), needed_earlier g us os h (d ∷ done) ds more before.1)
  where
    has : (e : ℕ) → Contains (needs_of (needs_in us os) d) e → Contains done e
    has e c = All-contains (Contains done) (needs_of (needs_in us os) d) e before.0 c

    more : IsClosed (needs_in us os) (d ∷ done)
    more x e there c = elim (in_cases d done x there) [
      | inl is ↦ later_in d done e (has e (subst (λ (y : ℕ). Contains (needs_of (needs_in us os) y) e) (sym is) c))
      | inr was ↦ later_in d done e (closed x e was c)
    ]

    below : (t : model.Origin) → slice_get (origin_trees os) d ≡ Some t → d < length (needs_in us os)
    below t tree = let less = slice_get_within (origin_trees os) d t tree in let same = length-map os origin_tree in let len = length-needs us (origin_trees os) 0 os in omega (arith, less, same, len)

    by : (t : Option model.Origin) → slice_get (origin_trees os) d ≡ t → NeedsDone g done t
    by None tree = tt
    by (Some t) tree = waited_needed g us (origin_trees os) done (has_trees g us os h) t (λ e c.
        waits_done (needs_in us os) (first_at os) (waits_at us (origin_trees os)) done (clauses us os h.firsts) closed d (below t tree) has e
        (subst (λ (ns : List ℕ). Contains ns e) (sym (ap (waited_by us (origin_trees os)) tree ∙ waited_by-some us (origin_trees os) t)) c))

-- what is needed is there
needs_inside : (us : List Resolved) (os : List Origin) → FirstsAgree os → AreInside (needs_in us os)
needs_inside us os agree d e c = by (slice_get os d) refl
  where
    tree_within : (t : model.Origin) → slice_get (origin_trees os) e ≡ Some t → e < length (needs_in us os)
    tree_within t at = let less = slice_get_within (origin_trees os) e t at in let same = length-map os origin_tree in let len = length-needs us (origin_trees os) 0 os in omega (arith, less, same, len)

    by_tree : (t : Option model.Origin) → Contains (waited_by us (origin_trees os) t) e → e < length (needs_in us os)
    by_tree None waits = absurd (none_in e (subst (λ (ns : List ℕ). Contains ns e) (waited_by-none us (origin_trees os)) waits))
    by_tree (Some t) waits = let w = waited_within us (origin_trees os) t e (subst (λ (ns : List ℕ). Contains ns e) (waited_by-some us (origin_trees os) t) waits) in tree_within w.0 w.1

    by_first : (k : Option ℕ) → other_first d (first_at os d) ≡ k → Contains (first_or k (waits_at us (origin_trees os) d)) e → e < length (needs_in us os)
    by_first None is there = by_tree (slice_get (origin_trees os) d) there
    by_first (Some f) is there = elim (in_cases f [] e there) [
      | inl same ↦ subst (λ (x : ℕ). x < length (needs_in us os)) same (first_within us os agree d f (other_is_first d (first_at os d) f is))
      | inr past ↦ absurd (none_in e past)
    ]

    by : (o : Option Origin) → slice_get os d ≡ o → e < length (needs_in us os)
    by None at = absurd (none_in e (subst (λ (ns : List ℕ). Contains ns e) (nothing_past us (origin_trees os) 0 os d at) c))
    by (Some o) at = by_first (other_first d (first_at os d)) refl (subst (λ (ns : List ℕ). Contains ns e) (needs_own us os d below) c)
      where
        below : d < length (needs_in us os)
        below = let less = slice_get_within os d o at in let len = length-needs us (origin_trees os) 0 os in omega (arith, less, len)

-- ---- what is found, by what the code has at hand

pub same_needs : (us vs : List Resolved) (os all : List Origin) (needs lent : List (List ℕ)) → vs ≡ us → all ≡ os → lent ≡ needs → (Rise (use_places vs) → needs ≡ needs_in vs all) → Rise (use_places us) → lent ≡ needs_in us os
same_needs us vs os all needs lent uses origins items list rise =
    items ∙ list (subst (λ (ws : List Resolved). Rise (use_places ws)) (sym uses) rise) ∙ ap (λ (ws : List Resolved). needs_in ws all) uses ∙ ap (λ (ps : List Origin). needs_in us ps) origins

pub waits_found : (g : Ground) (us : List Resolved) (os : List Origin) (o : List ℕ) (lent : List (List ℕ)) (order : List ℕ) → IsGroundWith g us os → IsOrder g o → lent ≡ needs_in us os → (AreInside lent → NeedsBefore lent [] order ⊎ HasCircle lent) → NeedsBefore (needs_in us os) [] order
waits_found g us os o lent order h is same found = by (found (subst AreInside (sym same) (needs_inside us os h.firsts)))
  where
    by : NeedsBefore lent [] order ⊎ HasCircle lent → NeedsBefore (needs_in us os) [] order
    by (inl before) = subst (λ (ns : List (List ℕ)). NeedsBefore ns [] order) same before
    by (inr circle) = absurd (none_around g us os o h is (subst HasCircle same circle))

pub is_order : (g : Ground) (us : List Resolved) (os : List Origin) (order : List ℕ) → IsGroundWith g us os → NeedsBefore (needs_in us os) [] order → ((d : ℕ) → d < length os → Contains order d) → IsOrder g order
is_order g us os order h before all = record {
  earlier = needed_earlier g us os h [] order (λ x e there c. absurd (none_in x there)) before;
  all = λ d less. all d (let same = ap length h.origins in let trees = length-map os origin_tree in omega (arith, less, same, trees));
}

pub all_found : (os all : List Origin) (needs lent : List (List ℕ)) (order : List ℕ) → all ≡ os → lent ≡ needs → length needs ≡ length all → ((d : ℕ) → d < length lent → Contains order d) → (d : ℕ) → d < length os → Contains order d
all_found os all needs lent order origins items len found d less =
    found d (let a = ap length origins in let b = ap length items in omega (arith, less, len, a, b))
