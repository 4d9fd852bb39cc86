-- What is kept of modulions beside their parts, to make what they give to the reaches around them.
use Rattle.std.specs.Prelude.{◌≡◌, ℕ, suc, ◌+◌, Bool, List, [], ◌∷◌, ◌++◌, map, Option, Some, None, ⊤}
use Rattle.names_model.specs.declared.definition.Definition.{Definition}
use Rattle.names_model.specs.Parts.{PartTree, PartNodes, define, mention, seize, seize_all, grant, grant_all, stray, modulion, routine, block, no_parts, more_parts}
use Rattle.names_model.specs.Sizes.{size_of}
use Rattle.names_model.specs.Entries.{found, own_numbers, up_entries}
use Rattle.reach_tables.specs.declared.given.Given.{Given, Given-F, fold-Given}
use Rattle.reach_tables.specs.declared.passing.Giver.{Giver}
use Rattle.reach_tables.specs.Held.{held}
use Rattle.reach_tables.specs.Scopes.{told_by}

mutual
  -- what a modulion has under each name, what is defined directly in it, whether it is a region, and the modulions directly in it
  pub data GivenTree : Type 0 where
    given : (List ℕ → List ℕ) → List ℕ → Bool → GivenNodes → GivenTree

  pub data GivenNodes : Type 0 where
    no_givens : GivenNodes
    more_givens : GivenTree → GivenNodes → GivenNodes

abbrev pub given_nodes : List GivenTree → GivenNodes
given_nodes [] = no_givens
given_nodes (g ∷ gs) = more_givens g (given_nodes gs)

abbrev pub givens_in : GivenNodes → List GivenTree
givens_in no_givens = []
givens_in (more_givens g gs) = g ∷ givens_in gs

abbrev pub given_layer : Given-F GivenTree → GivenTree
given_layer g = given (held g.has) g.own g.region (given_nodes g.inner)

-- what is given, without where it lies in memory
unfoldable pub given_tree : Given → GivenTree
given_tree = fold-Given GivenTree given_layer

abbrev pub given_trees : List Given → List GivenTree
given_trees gs = map given_tree gs

-- what is kept of a modulion of these parts, the first definition of which has the number `from`
abbrev pub given_by : List Definition → Bool → ℕ → PartNodes → GivenNodes → GivenTree
given_by all region from ps inner = given (found all (up_entries all from ps)) (own_numbers from ps) region inner

abbrev mutual
  -- what is kept of a part, if it is a modulion
  pub given_of : List Definition → ℕ → PartTree → List GivenTree
  given_of all from (modulion n region size ps) = given_by all region (suc from) ps (given_nodes (givens all (suc from) ps)) ∷ []
  given_of all from (define c) = []
  given_of all from (mention m) = []
  given_of all from (seize n) = []
  given_of all from (seize_all at) = []
  given_of all from (grant n) = []
  given_of all from (grant_all at) = []
  given_of all from (stray n) = []
  given_of all from (routine n kind params result size ps) = []
  given_of all from (block size ps) = []

  -- what is kept of the modulions directly among parts, in their order
  pub givens : List Definition → ℕ → PartNodes → List GivenTree
  givens all from no_parts = []
  givens all from (more_parts p ps) = given_of all from p ++ givens all (from + size_of p) ps

-- the first, if there is one, as it is seen from around
abbrev pub IsGiver : List GivenTree → Option Giver → Type 0
IsGiver [] None = ⊤
IsGiver [] (Some g) = ⊥
IsGiver (t ∷ ts) None = ⊥
IsGiver (given has own region inner ∷ ts) (Some g) = (told_by g.has ≡ has) × (g.own.now ≡ own) × (g.region ≡ region)

-- what is given inside the first
abbrev pub inner_lent : List GivenTree → List GivenTree
inner_lent [] = []
inner_lent (given has own region inner ∷ gs) = givens_in inner
