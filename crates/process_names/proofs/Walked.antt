-- What is told of one more modulion.
use Rattle.std.proofs.Common.{◌≡◌, ℕ, ◌+◌, ◌<◌, List, ◌∷◌, ◌++◌, map, length, get_or, drop, sym, ap, ◌∙◌, append_assoc}
use Rattle.std.specs.Prelude.{flat_map}
use Rattle.std.proofs.lemmas.List.{drop_more}
use Rattle.chill_tree.specs.declared.tree.item.Modulion.{Modulion}
use Rattle.chill_tree.specs.ItemTree.{ModulionTree, modulion_tree}
use Rattle.diagnostics.specs.declared.diagnostic.Diagnostic.{Diagnostic}

pub walked_on : (g : ModulionTree → List Diagnostic) (items : List Modulion) (k : ℕ) (m : Modulion) (told next whole : List Diagnostic) → k < length items → m ≡ get_or items k m
    → told ++ flat_map g (map modulion_tree (drop k items)) ≡ whole → next ≡ told ++ g (modulion_tree m) → next ++ flat_map g (map modulion_tree (drop (k + 1) items)) ≡ whole
walked_on g items k m told next whole less there so_far more =
    let rest = flat_map g (map modulion_tree (drop (k + 1) items)) in
    let split : drop k items ≡ m ∷ drop (k + 1) items = drop_more items k m less ∙ ap (λ x. x ∷ drop (k + 1) items) (sym there) in
    ap (λ ds. ds ++ rest) more ∙ append_assoc told (g (modulion_tree m)) rest ∙ sym (ap (λ ms. told ++ flat_map g (map modulion_tree ms)) split) ∙ so_far
