-- Parts that have the numbers of the definitions in them.
use Rattle.std.specs.Prelude.{◌≡◌, ⊤}
use Rattle.names_model.specs.Parts.{PartTree, PartNodes, define, mention, seize, seize_all, grant, grant_all, stray, modulion, routine, block, no_parts, more_parts}
use Rattle.names_model.specs.Sizes.{sizes_of}

abbrev mutual
  -- each part that holds others has the number of the definitions in it
  pub Measured : PartTree → Type 0
  Measured (modulion n region size ps) = (size ≡ sizes_of ps) × AllMeasured ps
  Measured (routine n kind params result size ps) = (size ≡ sizes_of ps) × AllMeasured ps
  Measured (block size ps) = (size ≡ sizes_of ps) × AllMeasured ps
  Measured (define c) = ⊤
  Measured (mention m) = ⊤
  Measured (seize n) = ⊤
  Measured (seize_all at) = ⊤
  Measured (grant n) = ⊤
  Measured (grant_all at) = ⊤
  Measured (stray n) = ⊤

  -- so does each of some parts
  pub AllMeasured : PartNodes → Type 0
  AllMeasured no_parts = ⊤
  AllMeasured (more_parts p ps) = Measured p × AllMeasured ps
