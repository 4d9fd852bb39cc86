-- Ranges and powersets, by what is found of their parts.
use Rattle.std.proofs.Common.{◌≡◌, List, [], ◌∷◌, ◌++◌, refl, ap, sym, ◌∙◌, append-nil, append_assoc}
use Rattle.std.specs.Prelude.{false, ◌&&◌, Option, Some, None, is_some, option_map, ℤ}
use Rattle.chill_base.specs.declared.pos.Pos.{Pos}
use Rattle.chill_tree.specs.ExprTree.{ExprTree, place_of}
use Rattle.chill_tree.specs.ModeTree as written
use Rattle.modes.specs.ModeTree.{ModeTree, range, powerset}
use Rattle.diagnostics.specs.declared.diagnostic.Diagnostic.{Diagnostic}
use Rattle.diagnostics.specs.declared.rule.Rule.TheVariants as rules
use Rattle.checks_model.specs.Ground.{Ground, mode_of_name}
use Rattle.checks_model.specs.Told.{then_told, told_if, tell_at, holds_of_both}
use Rattle.checks_model.specs.WrittenModes.{unless_told, needed_number, told_bound, told_range, range_of, range_from, is_above, told_of_discrete, mode_of_discrete, told_name, told_discrete_name, discrete_name, told_of_powerset, first_place_of}
use Rattle.written_modes.specs.Wholes.{bound_there, told_of_members}

-- what is told before, of a range of which something isn't there
abbrev IsLeft : Option ModeTree → List Diagnostic → List Diagnostic → Option ℤ → Option ℤ → Diagnostic → Type 0
IsLeft p tl th nl nh d =
    (then_told (tl ++ th) (told_if (is_some p && holds_of_both is_above nl nh) d) ≡ tl ++ th)
    × (unless_told (then_told (tl ++ th) (told_if (is_some p && holds_of_both is_above nl nh) d)) (range_from p nl nh) ≡ None)

nothing-behind : (ts : List Diagnostic) → then_told ts [] ≡ ts
nothing-behind [] = refl
nothing-behind (t ∷ ts) = append-nil (t ∷ ts)

none-there : (ts : List Diagnostic) → unless_told {A = ModeTree} ts None ≡ None
none-there [] = refl
none-there (t ∷ ts) = refl

left-none : (tl th : List Diagnostic) (nl nh : Option ℤ) (d : Diagnostic) → IsLeft None tl th nl nh d
left-none tl th nl nh d = (nothing-behind (tl ++ th), none-there (then_told (tl ++ th) []))

left-some : (p : ModeTree) (tl th : List Diagnostic) (nl nh : Option ℤ) (d : Diagnostic) → range_from (Some p) (unless_told tl nl) (unless_told th nh) ≡ None → IsLeft (Some p) tl th nl nh d
left-some p (t ∷ ts) th nl nh d h = (append-nil (t ∷ ts ++ th), refl)
left-some p [] (t ∷ ts) nl nh d h = (append-nil (t ∷ ts), refl)
left-some p [] [] None nh d h = (refl, refl)
left-some p [] [] (Some l) None d h = (refl, refl)
left-some p [] [] (Some l) (Some u) d h = absurd (cc)

range-left : (g : Ground) (p : Option ModeTree) (l h : ExprTree) → range_from p (bound_there g p l) (bound_there g p h) ≡ None → IsLeft p (told_bound g p l) (told_bound g p h) (needed_number g l) (needed_number g h) (tell_at rules.M2 (place_of l))
range-left g None l h e = left-none (told_bound g None l) (told_bound g None h) (needed_number g l) (needed_number g h) (tell_at rules.M2 (place_of l))
range-left g (Some p) l h e = left-some p (told_bound g (Some p) l) (told_bound g (Some p) h) (needed_number g l) (needed_number g h) (tell_at rules.M2 (place_of l)) e

-- what the code has found of a range's bounds
pub record HasBounds (g : Ground) (p : Option ModeTree) (l h : ExprTree) (old new : List Diagnostic) (x y : Option ℤ) : Type 0 where
  pub lower : x ≡ bound_there g p l
  pub upper : y ≡ bound_there g p h
  pub told : new ≡ (old ++ told_bound g p l) ++ told_bound g p h

-- that is told of a range behind the old list, and this is the range
pub record IsRange (g : Ground) (p : Option ModeTree) (l h : ExprTree) (old new : List Diagnostic) (m : Option ModeTree) : Type 0 where
  pub told : new ≡ old ++ told_range g p l h
  pub mode : m ≡ range_of g p l h

same-range : (g : Ground) (p : Option ModeTree) (l h : ExprTree) (old new : List Diagnostic) (x y : Option ℤ) → HasBounds g p l h old new x y → range_from p x y ≡ range_from p (bound_there g p l) (bound_there g p h)
same-range g p l h old new x y b = ap (λ x. range_from p x y) b.lower ∙ ap (λ y. range_from p (bound_there g p l) y) b.upper

bounds-told : (g : Ground) (p : Option ModeTree) (l h : ExprTree) (old new : List Diagnostic) (x y : Option ℤ) → HasBounds g p l h old new x y → new ≡ old ++ (told_bound g p l ++ told_bound g p h)
bounds-told g p l h old new x y b = b.told ∙ append_assoc old (told_bound g p l) (told_bound g p h)

pub range_none : (g : Ground) (p : Option ModeTree) (l h : ExprTree) (old new : List Diagnostic) (x y : Option ℤ) → HasBounds g p l h old new x y → range_from p x y ≡ None → IsRange g p l h old new None
range_none g p l h old new x y b e =
    let left = range-left g p l h (sym (same-range g p l h old new x y b) ∙ e) in
    record {
      told = bounds-told g p l h old new x y b ∙ ap (λ t. old ++ t) (sym left.0);
      mode = sym left.1;
    }

-- a range whose bounds are there
record IsWhole (tl th : List Diagnostic) (nl nh : Option ℤ) (a b : ℤ) : Type 0 where
  none-lower : tl ≡ []
  none-upper : th ≡ []
  lower : nl ≡ Some a
  upper : nh ≡ Some b

whole-some : (tl th : List Diagnostic) (nl nh : Option ℤ) (a b : ℤ) → Some a ≡ unless_told tl nl → Some b ≡ unless_told th nh → IsWhole tl th nl nh a b
whole-some (t ∷ ts) th nl nh a b x y = absurd (cc)
whole-some [] (t ∷ ts) nl nh a b x y = absurd (cc)
whole-some [] [] nl nh a b x y = record { none-lower = refl; none-upper = refl; lower = sym x; upper = sym y }

range_some : (g : Ground) (p : ModeTree) (l h : ExprTree) (old new last : List Diagnostic) (a b : ℤ) (m : Option ModeTree) → HasBounds g (Some p) l h old new (Some a) (Some b)
    → last ≡ new ++ told_if (is_above a b) (tell_at rules.M2 (place_of l)) → m ≡ unless_told (told_if (is_above a b) (tell_at rules.M2 (place_of l))) (Some (range p a b)) → IsRange g (Some p) l h old last m
range_some g p l h old new last a b m has large is =
    let tl = told_bound g (Some p) l in
    let th = told_bound g (Some p) h in
    let d = tell_at rules.M2 (place_of l) in
    let w = whole-some tl th (needed_number g l) (needed_number g h) a b has.lower has.upper in
    let none : tl ++ th ≡ [] = ap (λ t. t ++ th) w.none-lower ∙ w.none-upper in
    let rule : told_if (holds_of_both is_above (needed_number g l) (needed_number g h)) d ≡ told_if (is_above a b) d =
    ap (λ x. told_if (holds_of_both is_above x (needed_number g h)) d) w.lower ∙ ap (λ y. told_if (holds_of_both is_above (Some a) y) d) w.upper in
    let all : then_told (tl ++ th) (told_if (holds_of_both is_above (needed_number g l) (needed_number g h)) d) ≡ told_if (is_above a b) d =
    ap (λ t. then_told t (told_if (holds_of_both is_above (needed_number g l) (needed_number g h)) d)) none ∙ rule in
    let made : range_from (Some p) (needed_number g l) (needed_number g h) ≡ Some (range p a b) =
    ap (λ x. range_from (Some p) x (needed_number g h)) w.lower ∙ ap (λ y. range_from (Some p) (Some a) y) w.upper in
    record {
      told = large ∙ ap (λ t. t ++ told_if (is_above a b) d) (bounds-told g (Some p) l h old new (Some a) (Some b) has ∙ ap (λ t. old ++ t) none)
          ∙ append_assoc old [] (told_if (is_above a b) d)
          ∙ ap (λ t. old ++ t) (sym all);
      mode = is ∙ sym (ap (λ t. unless_told t (range_from (Some p) (needed_number g l) (needed_number g h))) all ∙ ap (unless_told (told_if (is_above a b) d)) made);
    }

-- a range that is there, where M2 is asked behind it
pub range_there : (g : Ground) (p : Option ModeTree) (l h : ExprTree) (old new last : List Diagnostic) (x y : Option ℤ) (m : ModeTree) (r : Option ModeTree) → HasBounds g p l h old new x y → range_from p x y ≡ Some m
    → last ≡ new ++ told_if (holds_of_both is_above x y) (tell_at rules.M2 (place_of l)) → r ≡ unless_told (told_if (holds_of_both is_above x y) (tell_at rules.M2 (place_of l))) (Some m) → IsRange g p l h old last r
range_there g None l h old new last x y m r has some large is = absurd (cc)
range_there g (Some p) l h old new last None y m r has some large is = absurd (cc)
range_there g (Some p) l h old new last (Some a) None m r has some large is = absurd (cc)
range_there g (Some p) l h old new last (Some a) (Some b) m r has some large is =
    range_some g p l h old new last a b r has large (is ∙ ap (unless_told (told_if (is_above a b) (tell_at rules.M2 (place_of l)))) (sym some))

-- ---- powersets

kept-none : {A : Type 0} (ts : List Diagnostic) (o : Option A) (m : A) → unless_told ts o ≡ Some m → ts ≡ []
kept-none [] o m h = refl
kept-none (t ∷ ts) o m h = absurd (cc)

range-parent : (ts : List Diagnostic) (o : Option ModeTree) (nl nh : Option ℤ) (m : ModeTree) (rs : List Diagnostic) → unless_told rs (range_from (unless_told ts o) nl nh) ≡ Some m → (ts ≡ []) × (rs ≡ [])
range-parent ts o nl nh m (r ∷ rs) h = absurd (cc)
range-parent [] o nl nh m [] h = (refl, refl)
range-parent (t ∷ ts) o nl nh m [] h = absurd (cc)

-- nothing is told of a discrete mode that is there
discrete-clean : (g : Ground) (d : written.DiscreteTree) (m : ModeTree) → mode_of_discrete g false d ≡ Some m → told_of_discrete g false d ≡ []
discrete-clean g (written.named n) m h = kept-none (told_name g false n) (mode_of_name g n) m h
discrete-clean g (written.bounded n l u) m h =
    let both = range-parent (told_discrete_name g n) (mode_of_name g n) (needed_number g l) (needed_number g u) m (told_range g (discrete_name g n) l u) h in
    ap (λ t. t ++ told_range g (discrete_name g n) l u) both.0 ∙ both.1
discrete-clean g (written.set_of at ns) m h = refl

members-kept : (ts ls : List Diagnostic) (o : Option ModeTree) → ((m : ModeTree) → o ≡ Some m → ts ≡ []) → unless_told ls (option_map powerset o) ≡ unless_told (ts ++ ls) (option_map powerset o)
members-kept ts ls None h = none-there ls ∙ sym (none-there (ts ++ ls))
members-kept ts ls (Some m) h = ap (λ t. unless_told (t ++ ls) (Some (powerset m))) (sym (h m refl))

pub powerset_told : (g : Ground) (at : Pos) (d : written.DiscreteTree) (old new last : List Diagnostic) (x : Option ModeTree) → new ≡ old ++ told_of_discrete g false d → x ≡ mode_of_discrete g false d → last ≡ new ++ told_of_members x (first_place_of d) at → last ≡ old ++ told_of_powerset g at d
powerset_told g at d old new last x n is l =
    l ∙ ap (λ t. t ++ told_of_members x (first_place_of d) at) n
    ∙ ap (λ x. (old ++ told_of_discrete g false d) ++ told_of_members x (first_place_of d) at) is
    ∙ append_assoc old (told_of_discrete g false d) (told_of_members (mode_of_discrete g false d) (first_place_of d) at)

pub powerset_kept : (g : Ground) (at : Pos) (d : written.DiscreteTree) (x m : Option ModeTree) → x ≡ mode_of_discrete g false d → m ≡ unless_told (told_of_members x (first_place_of d) at) (option_map powerset x) → m ≡ unless_told (told_of_powerset g at d) (option_map powerset (mode_of_discrete g false d))
powerset_kept g at d x m is k =
    k ∙ ap (λ x. unless_told (told_of_members x (first_place_of d) at) (option_map powerset x)) is
    ∙ members-kept (told_of_discrete g false d) (told_of_members (mode_of_discrete g false d) (first_place_of d) at) (mode_of_discrete g false d) (discrete-clean g d)
