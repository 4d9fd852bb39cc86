-- Lists to which some of what could be told is added, and lists of which nothing is told.
use Rattle.std.proofs.Common.{◌≡◌, ℕ, ◌+◌, ◌<◌, length, get_or, drop, inl, inr, ◌↔◌, Bool, true, false, IsTrue, List, [], ◌∷◌, ◌++◌, refl, sym, ap, ◌∙◌, subst, append-nil, Result, Ok, Err, OnOk}
use Rattle.std.specs.Prelude.{if◌then◌else◌, flat_map}
use Rattle.std.proofs.lemmas.List.{drop_more}
use Rattle.std.specs.declared.cmp.Ordering.{Ordering}
use Rattle.std.specs.declared.cmp.Ordering.TheVariants.{Less, Equal, Greater}
use Rattle.diagnostics.specs.declared.diagnostic.Diagnostic.{Diagnostic}
use Rattle.diagnostics.specs.Listing.{placed, insert_once, listed}
use Rattle.diagnostics.specs.Order.{diagnostic_cmp}
use Rattle.chill_tree.specs.ItemTree.{ProgramTree}
use Rattle.checks_model.specs.Told.{is_none_told}
use Rattle.wait_exprs.specs.declared.wait.Wait.{Wait}
use Rattle.wait_exprs.specs.Waits.{WaitTree}
use Rattle.wait_exprs.specs.Views.{wait_tree, wait_trees}
use Rattle.met_names.specs.Facts.{Facts}
use Rattle.process_names.specs.Walk.{over_program}
use Rattle.reach_tables.proofs.Members.{in-left, in-right, in-either}
use Rattle.process_checks.specs.Telling.{could_be_told, IsToldMore}

-- ---- some more is told

pub nothing_more : (could told : List Diagnostic) → IsToldMore could told told
nothing_more could told = record { kept = λ d h. h; only = λ d h. inl h; none = λ e. refl }

pub all_more : (could told : List Diagnostic) → IsToldMore could told (told ++ could)
all_more could told = record {
  kept = λ d h. in-left d told could h;
  only = λ d h. in-either d told could h;
  none = λ e. ap (λ xs. told ++ xs) e ∙ append-nil told;
}

none_first : {X : Type 0} (xs ys : List X) → xs ++ ys ≡ [] → xs ≡ []
none_first [] ys e = refl
none_first (x ∷ xs) ys e = absurd (let no : ⊥ = cc in no)

none_second : {X : Type 0} (xs ys : List X) → xs ++ ys ≡ [] → ys ≡ []
none_second [] ys e = e
none_second (x ∷ xs) ys e = absurd (let no : ⊥ = cc in no)

pub then_more : (first second before between after : List Diagnostic) → IsToldMore first before between → IsToldMore second between after → IsToldMore (first ++ second) before after
then_more first second before between after p q = record {
  kept = λ d h. q.kept d (p.kept d h);
  only = λ d h. elim (q.only d h) [
    | inl k ↦ elim (p.only d k) [
      | inl l ↦ inl l
      | inr l ↦ inr (in-left d first second l)
    ]
    | inr k ↦ inr (in-right d first second k)
  ];
  none = λ e. q.none (none_second first second e) ∙ p.none (none_first first second e);
}

-- a diagnostic that is told where nothing is told inside, as it could be
pub told_where : (clean none : Bool) (d : Diagnostic) (before after : List Diagnostic) → clean ≡ none → clean ≡ true → after ≡ before ++ d ∷ [] → IsToldMore (if none then d ∷ [] else []) before after
told_where clean true d before after is holds told = subst (IsToldMore (d ∷ []) before) (sym told) (all_more (d ∷ []) before)
told_where clean false d before after is holds told = absurd (let no : ⊥ = cc in no)

-- what is told more of one, and then of the rest
pub one_wait_more : (could : WaitTree → List Diagnostic) (ws : List Wait) (k : ℕ) (w : Wait) (told next after : List Diagnostic) → k < length ws → w ≡ get_or ws k w
    → IsToldMore (could (wait_tree w)) told next → IsToldMore (flat_map could (wait_trees (drop (k + 1) ws))) next after → IsToldMore (flat_map could (wait_trees (drop k ws))) told after
one_wait_more could ws k w told next after less there first rest =
    let split : drop k ws ≡ w ∷ drop (k + 1) ws = drop_more ws k w less ∙ ap (λ x. x ∷ drop (k + 1) ws) (sym there) in
    subst (λ (us : List Wait). IsToldMore (flat_map could (wait_trees us)) told after) (sym split) (then_more (could (wait_tree w)) (flat_map could (wait_trees (drop (k + 1) ws))) told next after first rest)

pub on_ok : {T E : Type 0} {P Q : Type 0} (r : Result T E) → (P → Q) → OnOk r P → OnOk r Q
on_ok (Ok done) f p = f p
on_ok (Err e) f p = tt

-- what is told more by equal facts, of equal priorities and locations
pub by_facts : (f found : Facts) (t : ProgramTree) (ws waits : List WaitTree) (before after : List Diagnostic) → found ≡ f → waits ≡ ws → before ≡ over_program found t
    → IsToldMore (flat_map (could_be_told found) waits) before after → IsToldMore (flat_map (could_be_told f) ws) (over_program f t) after
by_facts f found t ws waits before after facts same told more =
    subst (λ k. IsToldMore (flat_map (could_be_told k) ws) (over_program k t) after) facts
    (subst (λ us. IsToldMore (flat_map (could_be_told found) us) (over_program found t) after) same
    (subst (λ ds. IsToldMore (flat_map (could_be_told found) waits) ds after) told more))

-- ---- nothing is told

some_inserted : (d : Diagnostic) (ds : List Diagnostic) → insert_once diagnostic_cmp d ds ≡ [] → ⊥
some_inserted d [] e = let no : ⊥ = cc in no
some_inserted d (x ∷ ds) e = by (diagnostic_cmp d x) e
  where
    by : (o : Ordering) → placed diagnostic_cmp o d x ds (insert_once diagnostic_cmp d ds) ≡ [] → ⊥
    by Less f = let no : ⊥ = cc in no
    by Equal f = let no : ⊥ = cc in no
    by Greater f = let no : ⊥ = cc in no

pub is_clean_where : (clean : Bool) (told : List Diagnostic) → IsTrue clean ↔ (listed diagnostic_cmp told ≡ []) → clean ≡ is_none_told told
is_clean_where clean [] h = h.1 refl
is_clean_where true (d ∷ told) h = absurd (some_inserted d (listed diagnostic_cmp told) (h.0 refl))
is_clean_where false (d ∷ told) h = refl
