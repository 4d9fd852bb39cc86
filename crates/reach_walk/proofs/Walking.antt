-- Steps of the walk over parts.
use Rattle.std.proofs.Common.{◌≡◌, ℕ, ◌+◌, ◌<◌, List, ◌++◌, append_assoc, refl, ap, sym, ◌∙◌, length, get_or, drop, subst}
use Rattle.std.specs.Prelude.{flat_map, OnOk, Result, ◌^◌}
use Rattle.diagnostics.specs.Listing.{SameMembers}
use Rattle.chill_base.specs.declared.memory.Memory.{Memory}
use Rattle.diagnostics.specs.declared.diagnostic.Diagnostic.{Diagnostic}
use Rattle.names_model.specs.declared.definition.Definition.{Definition}
use Rattle.names_model.specs.declared.part.Part.{Part}
use Rattle.names_model.specs.Parts.{PartTree, PartNodes, part_tree}
use Rattle.names_model.specs.Sizes.{size_of}
use Rattle.names_model.specs.Seeing.{Reach}
use Rattle.names_model.specs.NameRules.{Node, node, nodes, nodes_inside, told, told_twice}
use Rattle.names_model.specs.Dependence.{groups_in}
use Rattle.names_model.specs.Resolving.{resolved_in}
use Rattle.cycles.specs.declared.group.Group.{Group}
use Rattle.reach_walk.specs.Findings.{AddsInside, AddsNodes, AddsReach, groups_at}
use Rattle.reach_walk.specs.SameGroups.{SameGroups}
use Rattle.reach_walk.proofs.Joining.{groups-behind, groups-trans}
use Rattle.reach_tables.specs.Givens.{GivenTree, given_of}
use Rattle.reach_tables.specs.Offsets.{FitsInside}
use Rattle.names_model.specs.Parts.{nodes_of}
use Rattle.reach_walk.specs.declared.findings.Findings.{Findings}
use Rattle.reach_tables.proofs.PartLists.{nodes-at}
use Rattle.reach_tables.proofs.Appends.{flat_map-append}
use Rattle.reach_tables.proofs.Members.{same-behind, same-trans}

regroup : {X : Type 0} (f u v w r : List X) → ((f ++ u) ++ (v ++ w)) ++ r ≡ f ++ ((u ++ v) ++ (w ++ r))
regroup f u v w r = simp append_assoc

-- one part more is looked at: what it gives itself, and what the reach gives that it opens
pub found-on : {X : Type 0} (f : Node → List X) (r : Reach) (ps : List Part) (i next next' : ℕ) (x : Part) (here opened out out' out'' whole : List X) → i < length ps → x ≡ get_or ps i x → next' ≡ next + size_of (part_tree x)
    → f (node r next (part_tree x)) ≡ here ++ opened
    → out ++ flat_map f (nodes r next (nodes_of (drop i ps))) ≡ whole
    → out' ≡ out ++ here → out'' ≡ out' ++ (opened ++ flat_map f (nodes_inside r next (part_tree x)))
    → out'' ++ flat_map f (nodes r next' (nodes_of (drop (i + 1) ps))) ≡ whole
found-on f r ps i next next' x here opened out out' out'' whole h is step gives before own inside =
    let rest = nodes r (next + size_of (part_tree x)) (nodes_of (drop (i + 1) ps)) in
    let inner = nodes_inside r next (part_tree x) in
    let d : flat_map f (nodes r next (nodes_of (drop i ps))) ≡ f (node r next (part_tree x)) ++ flat_map f (inner ++ rest) = ap (λ qs. flat_map f (nodes r next qs)) (nodes-at ps i x h is) in
    rw (step, inside, own) (regroup out here opened (flat_map f inner) (flat_map f rest)
    ∙ ap (λ z. out ++ (z ++ (flat_map f inner ++ flat_map f rest))) (sym gives)
    ∙ ap (λ z. out ++ (f (node r next (part_tree x)) ++ z)) (sym (flat_map-append f inner rest)) ∙ ap (λ z. out ++ z) (sym d) ∙ before)

-- the same, where the vectors say the same in some way
walk-by : {X : Type 0} (S : List X → List X → Type 0) → ((xs ys zs : List X) → S xs ys → S ys zs → S xs zs) → ((xs ys zs : List X) → S xs ys → S (xs ++ zs) (ys ++ zs))
    → (f : Node → List X) (r : Reach) (ps : List Part) (i next next' : ℕ) (x : Part) (here opened out out' out'' whole : List X) → i < length ps → x ≡ get_or ps i x → next' ≡ next + size_of (part_tree x)
    → f (node r next (part_tree x)) ≡ here ++ opened
    → S (out ++ flat_map f (nodes r next (nodes_of (drop i ps)))) whole
    → S out' (out ++ here) → S out'' (out' ++ (opened ++ flat_map f (nodes_inside r next (part_tree x))))
    → S (out'' ++ flat_map f (nodes r next' (nodes_of (drop (i + 1) ps)))) whole
walk-by S trans behind f r ps i next next' x here opened out out' out'' whole h is step gives before own inside =
    let inner = opened ++ flat_map f (nodes_inside r next (part_tree x)) in
    let rest = flat_map f (nodes r next' (nodes_of (drop (i + 1) ps))) in
    let all = out ++ flat_map f (nodes r next (nodes_of (drop i ps))) in
    let exact : ((out ++ here) ++ inner) ++ rest ≡ all = found-on f r ps i next next' x here opened out (out ++ here) ((out ++ here) ++ inner) all h is step gives refl refl refl in
    let there = trans out'' (out' ++ inner) ((out ++ here) ++ inner) inside (behind out' (out ++ here) inner own) in
    trans (out'' ++ rest) all whole (subst (λ ds. S (out'' ++ rest) ds) exact (behind out'' ((out ++ here) ++ inner) rest there)) before

-- what is told has the same members
pub told-walk : (text : List Definition) (r : Reach) (ps : List Part) (i next next' : ℕ) (x : Part) (here opened out out' out'' whole : List Diagnostic) → i < length ps → x ≡ get_or ps i x → next' ≡ next + size_of (part_tree x)
    → told text (node r next (part_tree x)) ≡ here ++ opened
    → SameMembers (out ++ flat_map (told text) (nodes r next (nodes_of (drop i ps)))) whole
    → SameMembers out' (out ++ here) → SameMembers out'' (out' ++ (opened ++ flat_map (told text) (nodes_inside r next (part_tree x))))
    → SameMembers (out'' ++ flat_map (told text) (nodes r next' (nodes_of (drop (i + 1) ps)))) whole
told-walk text = walk-by SameMembers same-trans same-behind (told text)

-- the groups say the same
pub groups-walk : (text : List Definition) (r : Reach) (ps : List Part) (i next next' : ℕ) (x : Part) (here opened out out' out'' whole : List Group) → i < length ps → x ≡ get_or ps i x → next' ≡ next + size_of (part_tree x)
    → groups_at text (node r next (part_tree x)) ≡ here ++ opened
    → SameGroups (out ++ flat_map (groups_at text) (nodes r next (nodes_of (drop i ps)))) whole
    → SameGroups out' (out ++ here) → SameGroups out'' (out' ++ (opened ++ flat_map (groups_at text) (nodes_inside r next (part_tree x))))
    → SameGroups (out'' ++ flat_map (groups_at text) (nodes r next' (nodes_of (drop (i + 1) ps)))) whole
groups-walk text = walk-by SameGroups groups-trans groups-behind (groups_at text)

-- N1 of a reach is told, and then its parts are walked over
pub found-reach : (text : List Definition) (r : Reach) (from : ℕ) (ps : PartNodes) (old opened new : Findings) (twice : List Diagnostic) → SameMembers opened.told.items (old.told.items ++ twice) → twice ≡ told_twice text r
    → opened.groups.items ≡ old.groups.items → opened.uses.items ≡ old.uses.items → AddsNodes opened new text (nodes r from ps) → AddsReach old new text r from ps
found-reach text r from ps old opened new twice a e g u b = record {
  told = same-trans new.told.items (opened.told.items ++ rest) (old.told.items ++ (told_twice text r ++ rest)) b.told
      (subst (λ ds. SameMembers (opened.told.items ++ rest) ds) (ap (λ z. (old.told.items ++ z) ++ rest) e ∙ append_assoc old.told.items (told_twice text r) rest) (same-behind opened.told.items (old.told.items ++ twice) rest a));
  groups = subst (λ z. SameGroups new.groups.items (z ++ groups_in text r from ps)) g b.groups;
  uses = b.uses ∙ ap (λ z. z ++ resolved_in text r from ps) u;
}
  where
    rest : List Diagnostic
    rest = flat_map (told text) (nodes r from ps)

-- what is found in a part that opens a reach, by a call that returned a result
abbrev pub InsideFound : List Definition → Reach → List Definition → List GivenTree → ℕ → Result Unit Memory → (new old : Findings) → PartTree → Type 0
InsideFound text r all own from result new old p = from + size_of p < 2 ^ 32 → FitsInside from p → own ≡ given_of all from p → OnOk result (AddsInside old new text r from p)
