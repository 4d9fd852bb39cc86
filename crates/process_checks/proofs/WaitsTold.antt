-- What is told of one wait, and then of the rest.
use Rattle.std.proofs.Common.{◌≡◌, ℕ, ◌+◌, ◌<◌, Bool, true, false, List, [], ◌∷◌, ◌++◌, length, get_or, drop, refl, sym, ap, ◌∙◌, subst, append_assoc, append-nil, true≢false}
use Rattle.std.specs.Prelude.{flat_map, if◌then◌else◌}
use Rattle.std.proofs.lemmas.List.{drop_more}
use Rattle.diagnostics.specs.declared.diagnostic.Diagnostic.{Diagnostic}
use Rattle.checks_model.specs.Ground.{Ground}
use Rattle.wait_exprs.specs.declared.wait.Wait.{Wait}
use Rattle.wait_exprs.specs.Views.{wait_tree, wait_trees}
use Rattle.wait_exprs.specs.Split.{told_wait}
use Rattle.process_checks.specs.Waiting.{IsNeeded, AreNeeded}

-- a part of a list, with the one wait before the others
split : (ws : List Wait) (k : ℕ) (w : Wait) → k < length ws → w ≡ get_or ws k w → drop k ws ≡ w ∷ drop (k + 1) ws
split ws k w less there = drop_more ws k w less ∙ ap (λ x. x ∷ drop (k + 1) ws) (sym there)

needed_here : (g : Ground) (ws : List Wait) (k : ℕ) (w : Wait) → drop k ws ≡ w ∷ drop (k + 1) ws → AreNeeded g (wait_trees (drop k ws)) → IsNeeded g (wait_tree w) × AreNeeded g (wait_trees (drop (k + 1) ws))
needed_here g ws k w is needed = subst (λ (vs : List Wait). AreNeeded g (wait_trees vs)) is needed

-- those that are left are needed, and with what they tell it is the whole
pub Left : Ground → List Wait → List Diagnostic → List Diagnostic → Type 0
Left g ws told whole = AreNeeded g (wait_trees ws) × (told ++ flat_map (told_wait g) (wait_trees ws) ≡ whole)

pub one_less : (g : Ground) (ws : List Wait) (k : ℕ) (w : Wait) (told next whole : List Diagnostic) → k < length ws → w ≡ get_or ws k w → Left g (drop k ws) told whole → (IsNeeded g (wait_tree w) → next ≡ told ++ told_wait g (wait_tree w)) → Left g (drop (k + 1) ws) next whole
unfolding Left
one_less g ws k w told next whole less there left more =
    let is = split ws k w less there in
    let needed = needed_here g ws k w is left.0 in
    let rest = flat_map (told_wait g) (wait_trees (drop (k + 1) ws)) in
    (needed.1, ap (λ ds. ds ++ rest) (more needed.0) ∙ append_assoc told (told_wait g (wait_tree w)) rest ∙ ap (λ (vs : List Wait). told ++ flat_map (told_wait g) (wait_trees vs)) (sym is) ∙ left.1)

pub all_left : (g : Ground) (ws : List Wait) (told : List Diagnostic) → AreNeeded g (wait_trees ws) → Left g ws told (told ++ flat_map (told_wait g) (wait_trees ws))
unfolding Left
all_left g ws told needed = (needed, refl)

pub none_left : (g : Ground) (ws : List Wait) (told whole : List Diagnostic) → ws ≡ [] → Left g ws told whole → told ≡ whole
unfolding Left
none_left g ws told whole none left = sym (append-nil told) ∙ (ap (λ (vs : List Wait). told ++ flat_map (told_wait g) (wait_trees vs)) (sym none) ∙ left.1)

-- nothing is told of a wait in which something is told
pub told_inside : (clean none : Bool) (before told : List Diagnostic) → clean ≡ none → clean ≡ false → before ≡ before ++ (if none then told else [])
told_inside clean false before told is unclean = sym (append-nil before)
told_inside clean true before told is unclean = absurd (true≢false (sym is ∙ unclean))
