-- A definition tells the same in a body as in a modulion.
use Rattle.std.proofs.Common.{◌≡◌, ◌++◌, List, [], ◌∷◌, true, false, map, refl, ap}
use Rattle.chill_tree.specs.LocalTree.{LocalTree, DeclarationTree, synonyms, syn_modes, new_modes, locations}
use Rattle.checks_model.specs.Ground.{Ground}
use Rattle.checks_model.specs.Sites.{at_declaration, sites_of_local}
use Rattle.checks_model.specs.Phases.{statements_told_at}
use Rattle.statement_laws.specs.Steps.{told_at_all}

declarations-alike : (g : Ground) (ds : List DeclarationTree) → told_at_all g (map (at_declaration false) ds) ≡ told_at_all g (map (at_declaration true) ds)
declarations-alike g [] = refl
declarations-alike g (d ∷ ds) = ap (λ rest. statements_told_at g (at_declaration true d) ++ rest) (declarations-alike g ds)

pub local_alike : (g : Ground) (l : LocalTree) → told_at_all g (sites_of_local false l) ≡ told_at_all g (sites_of_local true l)
local_alike g (synonyms at ss) = refl
local_alike g (syn_modes at ds) = refl
local_alike g (new_modes at ds) = refl
local_alike g (locations at ds) = declarations-alike g ds
