-- What is given, one part after the other.
use Rattle.std.proofs.Common.{◌≡◌, ℕ, ◌+◌, ◌<◌, Bool, List, [], ◌∷◌, ◌++◌, refl, ap, sym, ◌∙◌, length, get_or, drop, subst}
use Rattle.std.specs.Prelude.{slice_get, Some}
use Rattle.std.proofs.lemmas.Option.{get_or_from_slice_get}
use Rattle.names_model.specs.declared.definition.Definition.{Definition}
use Rattle.names_model.specs.declared.part.Part.{Part}
use Rattle.names_model.specs.Parts.{part_tree}
use Rattle.names_model.specs.Sizes.{size_of}
use Rattle.reach_tables.specs.declared.given.Given.{Given, fold-roll-Given, roll-Given, out-Given, fold_out-Given}
use Rattle.reach_tables.specs.Givens.{GivenTree, IsGiver, given, given_layer, given_tree, given_nodes, given_trees, given_of, givens, givens_in, inner_lent}
use Rattle.reach_tables.specs.declared.passing.Giver.{Giver}
use Rattle.reach_tables.specs.Held.{Holdings, held}
use Rattle.names_model.specs.Parts.{nodes_of}
use Rattle.reach_tables.specs.Scopes.{told_by}
use Rattle.reach_tables.proofs.PartLists.{nodes-at}

-- what is left begins with what the part at i gives
pub given-at : (all : List Definition) (from : ℕ) (ps : List Part) (i : ℕ) (x : Part) (gs : List GivenTree) → i < length ps → x ≡ get_or ps i x → gs ≡ givens all from (nodes_of (drop i ps))
    → gs ≡ given_of all from (part_tree x) ++ givens all (from + size_of (part_tree x)) (nodes_of (drop (i + 1) ps))
given-at all from ps i x gs h is g = g ∙ ap (givens all from) (nodes-at ps i x h is)

-- what is kept inside is what was put there
pub givens-back : (gs : List GivenTree) → givens_in (given_nodes gs) ≡ gs
givens-back [] = refl
givens-back (g ∷ gs) = ap (λ r. g ∷ r) (givens-back gs)

-- what is kept as it is read
tree-out : (g : Given) → given_tree g ≡ given (held (out-Given g).has) (out-Given g).own (out-Given g).region (given_nodes (given_trees (out-Given g).inner))
unfolding given_tree
tree-out g = fold_out-Given GivenTree given_layer g

-- the first is seen from around
pub giver-some : (gs : List Given) (g : Given) (r : Giver) → slice_get gs 0 ≡ Some g → ◌≡◌ {A = List ℕ → List ℕ} (told_by r.has) (held (out-Given g).has) → r.own.now ≡ (out-Given g).own → r.region ≡ (out-Given g).region → IsGiver (given_trees gs) (Some r)
giver-some [] g r h has own region = absurd cc
giver-some (x ∷ xs) g r h has own region =
    let is : x ≡ g = get_or_from_slice_get (x ∷ xs) 0 g x h in
    subst (λ t. IsGiver (t ∷ given_trees xs) (Some r)) (sym (tree-out x))
    (has ∙ ap (λ y. held (out-Given y).has) (sym is), own ∙ ap (λ y. (out-Given y).own) (sym is), region ∙ ap (λ y. (out-Given y).region) (sym is))

pub inner-some : (gs : List Given) (g : Given) (inner : List Given) → slice_get gs 0 ≡ Some g → inner ≡ (out-Given g).inner → given_trees inner ≡ inner_lent (given_trees gs)
inner-some [] g inner h e = cc
inner-some (x ∷ xs) g inner h e = ap given_trees e ∙ ap (λ y. given_trees (out-Given y).inner) (sym (get_or_from_slice_get (x ∷ xs) 0 g x h))
    ∙ sym (ap (λ t. inner_lent (t ∷ given_trees xs)) (tree-out x) ∙ givens-back (given_trees (out-Given x).inner))

-- what is made
pub tree-made : (region : Bool) (t : Holdings) (own : List ℕ) (inner : List Given) → given_tree (roll-Given (record { region = region; has = t; own = own; inner = inner })) ≡ given (held t) own region (given_nodes (given_trees inner))
unfolding given_tree
tree-made region t own inner = fold-roll-Given GivenTree given_layer (record { region = region; has = t; own = own; inner = inner })
