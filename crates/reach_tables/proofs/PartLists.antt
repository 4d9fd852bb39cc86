-- Lists of parts, from one on.
use Rattle.std.proofs.Common.{◌≡◌, ℕ, ◌+◌, ◌<◌, ◌≤◌, List, [], ◌∷◌, refl, ap, length, get_or, drop, drop-cons, add-one}
use Rattle.std.proofs.lemmas.List.{at_drop_all}
use Rattle.names_model.specs.declared.part.Part.{Part}
use Rattle.names_model.specs.Parts.{no_parts, more_parts, part_tree, part_trees, parts_in}
use Rattle.names_model.specs.Parts.{nodes_of}

-- what is left begins with the part at i
pub nodes-at : (ps : List Part) (i : ℕ) (x : Part) → i < length ps → x ≡ get_or ps i x → nodes_of (drop i ps) ≡ more_parts (part_tree x) (nodes_of (drop (i + 1) ps))
nodes-at ps i x h e = rw (add-one, drop-cons ps i x h, ← e) refl

pub nodes-end : (ps : List Part) (i : ℕ) → length ps ≤ i → nodes_of (drop i ps) ≡ no_parts
nodes-end ps i h = at_drop_all nodes_of ps i h

-- the parts that a reach of them holds
pub parts_in-nodes : (ps : List Part) → parts_in (nodes_of ps) ≡ part_trees ps
parts_in-nodes [] = refl
parts_in-nodes (x ∷ xs) = ap (λ ps. part_tree x ∷ ps) (parts_in-nodes xs)
