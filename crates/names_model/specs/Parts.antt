-- The parts of reaches, without where they lie in memory.
use Rattle.std.specs.Prelude.{ℕ, Bool, List, [], ◌∷◌, map}
use Rattle.chill_base.specs.declared.pos.Pos.{Pos}
use Rattle.names_model.specs.declared.identifier.Identifier.{Identifier}
use Rattle.names_model.specs.declared.kind.Kind.{Kind}
use Rattle.names_model.specs.declared.part.Mention.{Mention}
use Rattle.names_model.specs.declared.part.Clause.{Clause}
use Rattle.names_model.specs.declared.part.Part.{Part, Part-F, fold-Part}
use Rattle.names_model.specs.declared.part.Part.TheOpen as opens

mutual
  -- a part of a reach
  pub data PartTree : Type 0 where
    -- names are defined
    define : Clause → PartTree
    -- a name is used otherwise
    mention : Mention → PartTree
    seize : Identifier → PartTree
    seize_all : Pos → PartTree
    grant : Identifier → PartTree
    grant_all : Pos → PartTree
    -- the label of an EXIT that no action of that label encloses
    stray : Identifier → PartTree
    -- a module, or a region where the truth value says so, with the number of definitions in it
    modulion : Identifier → Bool → ℕ → PartNodes → PartTree
    -- a procedure or process: its parameters, the names in the mode of its result, the number of definitions in its body, and the body
    routine : Identifier → Kind → List Clause → List Mention → ℕ → PartNodes → PartTree
    block : ℕ → PartNodes → PartTree

  pub data PartNodes : Type 0 where
    no_parts : PartNodes
    more_parts : PartTree → PartNodes → PartNodes

-- parts as a reach holds them
abbrev pub part_nodes : List PartTree → PartNodes
part_nodes [] = no_parts
part_nodes (p ∷ ps) = more_parts p (part_nodes ps)

-- the parts that a reach holds
abbrev pub parts_in : PartNodes → List PartTree
parts_in no_parts = []
parts_in (more_parts p ps) = p ∷ parts_in ps

abbrev pub part_layer : Part-F PartTree → PartTree
part_layer (opens.Define c) = define c
part_layer (opens.Mention m) = mention m
part_layer (opens.Seize n) = seize n
part_layer (opens.SeizeAll at) = seize_all at
part_layer (opens.Grant n) = grant n
part_layer (opens.GrantAll at) = grant_all at
part_layer (opens.Stray n) = stray n
part_layer (opens.Modulion n r k ps) = modulion n r k (part_nodes ps)
part_layer (opens.Routine n kind cs ms k ps) = routine n kind cs ms k (part_nodes ps)
part_layer (opens.Block k ps) = block k (part_nodes ps)

-- the part without where it lies
unfoldable pub part_tree : Part → PartTree
part_tree = fold-Part PartTree part_layer

abbrev pub part_trees : List Part → List PartTree
part_trees ps = map part_tree ps

-- the parts of a reach
abbrev pub nodes_of : List Part → PartNodes
nodes_of ps = part_nodes (part_trees ps)
