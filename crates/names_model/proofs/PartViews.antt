-- The parts that are built.
use Rattle.std.proofs.Common.{◌≡◌, ℕ, Bool, List, ap, sym, ◌∙◌}
use Rattle.chill_base.specs.declared.pos.Pos.{Pos}
use Rattle.names_model.specs.declared.identifier.Identifier.{Identifier}
use Rattle.names_model.specs.declared.kind.Kind.{Kind}
use Rattle.names_model.specs.declared.part.Mention.{Mention}
use Rattle.names_model.specs.declared.part.Clause.{Clause}
use Rattle.names_model.specs.declared.part.Part.{Part, fold-Part, fold-roll-Part}
use Rattle.names_model.specs.declared.part.Part.TheOpen as opens
use Rattle.names_model.specs.declared.part.Part.TheVariants as made
use Rattle.names_model.specs.Parts.{PartTree, define, mention, seize, seize_all, grant, grant_all, stray, modulion, routine, block, part_nodes, part_layer, part_tree, part_trees}

pub tree-define : (c : Clause) → part_tree (made.Define c) ≡ define c
unfolding part_tree
tree-define c = ap (fold-Part PartTree part_layer) (sym (made.rolls-Define c)) ∙ fold-roll-Part PartTree part_layer (opens.Define c)

pub tree-mention : (m : Mention) → part_tree (made.Mention m) ≡ mention m
unfolding part_tree
tree-mention m = ap (fold-Part PartTree part_layer) (sym (made.rolls-Mention m)) ∙ fold-roll-Part PartTree part_layer (opens.Mention m)

pub tree-seize : (n : Identifier) → part_tree (made.Seize n) ≡ seize n
unfolding part_tree
tree-seize n = ap (fold-Part PartTree part_layer) (sym (made.rolls-Seize n)) ∙ fold-roll-Part PartTree part_layer (opens.Seize n)

pub tree-seize_all : (at : Pos) → part_tree (made.SeizeAll at) ≡ seize_all at
unfolding part_tree
tree-seize_all at = ap (fold-Part PartTree part_layer) (sym (made.rolls-SeizeAll at)) ∙ fold-roll-Part PartTree part_layer (opens.SeizeAll at)

pub tree-grant : (n : Identifier) → part_tree (made.Grant n) ≡ grant n
unfolding part_tree
tree-grant n = ap (fold-Part PartTree part_layer) (sym (made.rolls-Grant n)) ∙ fold-roll-Part PartTree part_layer (opens.Grant n)

pub tree-grant_all : (at : Pos) → part_tree (made.GrantAll at) ≡ grant_all at
unfolding part_tree
tree-grant_all at = ap (fold-Part PartTree part_layer) (sym (made.rolls-GrantAll at)) ∙ fold-roll-Part PartTree part_layer (opens.GrantAll at)

pub tree-stray : (n : Identifier) → part_tree (made.Stray n) ≡ stray n
unfolding part_tree
tree-stray n = ap (fold-Part PartTree part_layer) (sym (made.rolls-Stray n)) ∙ fold-roll-Part PartTree part_layer (opens.Stray n)

pub tree-modulion : (n : Identifier) (r : Bool) (k : ℕ) (ps : List Part) → part_tree (made.Modulion n r k ps) ≡ modulion n r k (part_nodes (part_trees ps))
unfolding part_tree
tree-modulion n r k ps = ap (fold-Part PartTree part_layer) (sym (made.rolls-Modulion n r k ps)) ∙ fold-roll-Part PartTree part_layer (opens.Modulion n r k ps)

pub tree-routine : (n : Identifier) (kind : Kind) (cs : List Clause) (ms : List Mention) (k : ℕ) (ps : List Part) → part_tree (made.Routine n kind cs ms k ps) ≡ routine n kind cs ms k (part_nodes (part_trees ps))
unfolding part_tree
tree-routine n kind cs ms k ps = ap (fold-Part PartTree part_layer) (sym (made.rolls-Routine n kind cs ms k ps)) ∙ fold-roll-Part PartTree part_layer (opens.Routine n kind cs ms k ps)

pub tree-block : (k : ℕ) (ps : List Part) → part_tree (made.Block k ps) ≡ block k (part_nodes (part_trees ps))
unfolding part_tree
tree-block k ps = ap (fold-Part PartTree part_layer) (sym (made.rolls-Block k ps)) ∙ fold-roll-Part PartTree part_layer (opens.Block k ps)

pub ruleset part_built = (tree-define, tree-mention, tree-seize, tree-seize_all, tree-grant, tree-grant_all, tree-stray, tree-modulion, tree-routine, tree-block)
