-- How many definitions stand in parts, in the order of the text.
use Rattle.std.specs.Prelude.{ℕ, suc, ◌+◌, List, [], ◌∷◌, length}
use Rattle.names_model.specs.declared.identifier.Identifier.{Identifier}
use Rattle.names_model.specs.declared.part.Mention.{Mention}
use Rattle.names_model.specs.declared.part.Mention.TheVariants.{Use, Argument, Element}
use Rattle.names_model.specs.declared.part.Clause.{Clause}
use Rattle.names_model.specs.Parts.{PartTree, PartNodes, define, mention, seize, seize_all, grant, grant_all, stray, modulion, routine, block, no_parts, more_parts, part_nodes}

-- the elements that the SETs among mentions define
abbrev pub elements_in : List Mention → List Identifier
elements_in [] = []
elements_in (Use n need ∷ ms) = elements_in ms
elements_in (Argument n callee ∷ ms) = elements_in ms
elements_in (Element n ∷ ms) = n ∷ elements_in ms

-- the names of a clause, and its elements
abbrev pub clause_size : Clause → ℕ
clause_size c = length c.names + length (elements_in c.text)

abbrev pub clauses_size : List Clause → ℕ
clauses_size [] = 0
clauses_size (c ∷ cs) = clause_size c + clauses_size cs

-- the definitions of a procedure or process before those in its body: its own, its parameters' and its result's
abbrev pub head_size : List Clause → List Mention → ℕ
head_size params result = suc (clauses_size params + length (elements_in result))

abbrev pub size_of : PartTree → ℕ
size_of (define c) = clause_size c
size_of (mention m) = 0
size_of (seize n) = 0
size_of (seize_all at) = 0
size_of (grant n) = 0
size_of (grant_all at) = 0
size_of (stray n) = 0
size_of (modulion n region size ps) = suc size
size_of (routine n kind params result size ps) = head_size params result + size
size_of (block size ps) = size

abbrev pub sizes_of : PartNodes → ℕ
sizes_of no_parts = 0
sizes_of (more_parts p ps) = size_of p + sizes_of ps

-- parts with their number of definitions
abbrev pub block_of : List PartTree → PartTree
block_of ps = block (sizes_of (part_nodes ps)) (part_nodes ps)
