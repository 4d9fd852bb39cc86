-- Where members of a graph wait for what stands before them in an order, none wait for one another in a circle; with the first
-- of each clause besides. Of definitions no more is used here than what each waits for, by numbers.
use Rattle.std.proofs.Common.{◌≡◌, ◌<◌, ◌⊎◌, inl, inr, ℕ, Bool, true, false, List, [], ◌∷◌, Option, Some, None, length, refl, sym, ap, subst, ◌∙◌}
use Rattle.std.specs.Prelude.{if◌then◌else◌, ◌==◌}
use Rattle.std.specs.List.{Contains}
use Rattle.std.proofs.lemmas.Bool.{eq-eqb}
use Rattle.names_laws.proofs.Members.{none_in, here_in, in_cases}
use Rattle.graph_order.specs.Needs.{needs_of, IsCircle, HasCircle}
use Rattle.definition_order.specs.Needs.{other_first, first_or}

-- each node needs what it waits for, or the first of its clause alone, which waits for the same
pub record IsClauses (needs : List (List ℕ)) (first : ℕ → Option ℕ) (waits : ℕ → List ℕ) : Type 0 where
  pub each : (d : ℕ) → d < length needs → needs_of needs d ≡ first_or (other_first d (first d)) (waits d)
  pub within : (d f : ℕ) → first d ≡ Some f → f < length needs
  pub same_first : (d f : ℕ) → first d ≡ Some f → first f ≡ Some f
  pub same_waits : (d f : ℕ) → first d ≡ Some f → waits f ≡ waits d

pub other_is_first : (d : ℕ) (k : Option ℕ) (f : ℕ) → other_first d k ≡ Some f → k ≡ Some f
other_is_first d None f e = cc
other_is_first d (Some x) f e = by (x == d) e
  where
    by : (b : Bool) → (if b then None else Some x) ≡ Some f → Some x ≡ Some f
    by true e = cc
    by false e = e

none_other : (f : ℕ) (k : Option ℕ) → k ≡ Some f → other_first f k ≡ None
none_other f k is = ap (other_first f) is ∙ ap (λ (b : Bool). if b then None else Some f) (eq-eqb f f refl)

-- the first of a clause needs what each of the clause waits for
first_needs : (needs : List (List ℕ)) (first : ℕ → Option ℕ) (waits : ℕ → List ℕ) → IsClauses needs first waits → (d f : ℕ) → first d ≡ Some f → needs_of needs f ≡ waits d
first_needs needs first waits h d f is = h.each f (h.within d f is) ∙ ap (λ (k : Option ℕ). first_or k (waits f)) (none_other f (first f) (h.same_first d f is)) ∙ h.same_waits d f is

-- something that a node waits for is a member
abbrev pub WaitsIn : (ℕ → List ℕ) → List ℕ → ℕ → Type 0
WaitsIn waits ds d = (e : ℕ) × (Contains ds e × Contains (waits d) e)

waits_in : (needs : List (List ℕ)) (first : ℕ → Option ℕ) (waits : ℕ → List ℕ) (ds : List ℕ) → IsClauses needs first waits → IsCircle needs ds → (d : ℕ) → Contains ds d → WaitsIn waits ds d
waits_in needs first waits ds h circle d c = by (other_first d (first d)) refl (circle.each d c).0 (circle.each d c).1.1 (subst (λ (ns : List ℕ). Contains ns (circle.each d c).0) (h.each d (circle.below d c)) (circle.each d c).1.0)
  where
    from_first : (f : ℕ) → first d ≡ Some f → Contains ds f → WaitsIn waits ds d
    from_first f is m = ((circle.each f m).0, ((circle.each f m).1.1, subst (λ (ns : List ℕ). Contains ns (circle.each f m).0) (first_needs needs first waits h d f is) (circle.each f m).1.0))

    by : (k : Option ℕ) → other_first d (first d) ≡ k → (e : ℕ) → Contains ds e → Contains (first_or k (waits d)) e → WaitsIn waits ds d
    by None is e m there = (e, (m, there))
    by (Some f) is e m there = elim (in_cases f [] e there) [
      | inl same ↦ from_first f (other_is_first d (first d) f is) (subst (Contains ds) (sym same) m)
      | inr past ↦ absurd (none_in e past)
    ]

-- where all that is needed of what is done is done, so is all that it waits for
abbrev pub IsClosed : List (List ℕ) → List ℕ → Type 0
IsClosed needs done = (x e : ℕ) → Contains done x → Contains (needs_of needs x) e → Contains done e

pub waits_done : (needs : List (List ℕ)) (first : ℕ → Option ℕ) (waits : ℕ → List ℕ) (done : List ℕ) → IsClauses needs first waits → IsClosed needs done → (d : ℕ) → d < length needs → ((e : ℕ) → Contains (needs_of needs d) e → Contains done e) → (e : ℕ) → Contains (waits d) e → Contains done e
waits_done needs first waits done h closed d less has e c = by (other_first d (first d)) refl (h.each d less)
  where
    by : (k : Option ℕ) → other_first d (first d) ≡ k → needs_of needs d ≡ first_or k (waits d) → Contains done e
    by None is same = has e (subst (λ (ns : List ℕ). Contains ns e) (sym same) c)
    by (Some f) is same =
        let first_done : Contains done f = has f (subst (λ (ns : List ℕ). Contains ns f) (sym same) (here_in f [] f refl)) in
        closed f e first_done (subst (λ (ns : List ℕ). Contains ns e) (sym (first_needs needs first waits h d f (other_is_first d (first d) f is))) c)

-- in front of each stands what it waits for, where that isn't left out
abbrev pub StandsBehind : (ℕ → List ℕ) → (ℕ → Type 0) → List ℕ → List ℕ → Type 0
StandsBehind waits Left done [] = Unit {0}
StandsBehind waits Left done (d ∷ ds) = ((e : ℕ) → Contains (waits d) e → ¬ Left e → Contains done e) × StandsBehind waits Left (d ∷ done) ds

-- members that each wait for a member that isn't left out are in no such order
in_no_order : (waits : ℕ → List ℕ) (Left : ℕ → Type 0) (ds : List ℕ) → ((d : ℕ) → Contains ds d → WaitsIn waits ds d) → ((d : ℕ) → Contains ds d → ¬ Left d) → (done order : List ℕ)
    → ((d : ℕ) → Contains done d → ¬ Contains ds d) → StandsBehind waits Left done order → (d : ℕ) → Contains order d → ¬ Contains ds d
in_no_order waits Left ds wait stay done [] apart behind d c m = none_in d c
in_no_order waits Left ds wait stay done (x ∷ order) apart behind d c m = elim (in_cases x order d c) [
  | inl is ↦ first (subst (Contains ds) (sym is) m)
  | inr there ↦ in_no_order waits Left ds wait stay (x ∷ done) order more behind.1 d there m
]
  where
    first : ¬ Contains ds x
    first m = let w = wait x m in apart w.0 (behind.0 w.0 w.1.1 (stay w.0 w.1.0)) w.1.0

    more : (d : ℕ) → Contains (x ∷ done) d → ¬ Contains ds d
    more d c = elim (in_cases x done d c) [ inl is ↦ (λ m. first (subst (Contains ds) (sym is) m)) | inr there ↦ apart d there ]

-- what is left out waits for nothing
pub no_circle : (needs : List (List ℕ)) (first : ℕ → Option ℕ) (waits : ℕ → List ℕ) (Left : ℕ → Type 0) (order : List ℕ) → IsClauses needs first waits → ((d e : ℕ) → Left d → Contains (waits d) e → ⊥)
    → StandsBehind waits Left [] order → ((d : ℕ) → d < length needs → Contains order d) → ¬ HasCircle needs
no_circle needs first waits Left order h none behind all circle = by circle.0 circle.1
  where
    by : (ds : List ℕ) → IsCircle needs ds → ⊥
    by [] c = c.some refl
    by (x ∷ ds) c =
        let wait = waits_in needs first waits (x ∷ ds) h c in
        in_no_order waits Left (x ∷ ds) wait (λ d m left. none d (wait d m).0 left (wait d m).1.1) [] order (λ d there. absurd (none_in d there)) behind x (all x (c.below x (here_in x ds x refl))) (here_in x ds x refl)
