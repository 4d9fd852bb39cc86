-- Where the numbers of definitions lie.
use Rattle.std.specs.Prelude.{ℕ, suc, ◌+◌, ◌<◌, ◌^◌, ⊤}
use Rattle.names_model.specs.Parts.{PartTree, PartNodes, define, mention, seize, seize_all, grant, grant_all, stray, modulion, routine, block, no_parts, more_parts}
use Rattle.names_model.specs.Sizes.{head_size, size_of}

abbrev mutual
  -- the numbers of the definitions inside a part, the first of which is `from`, are below 2 ^ 32
  pub FitsInside : ℕ → PartTree → Type 0
  FitsInside from (modulion n region size ps) = Fits (suc from) ps
  FitsInside from (routine n kind params result size ps) = Fits (from + head_size params result) ps
  FitsInside from (block size ps) = Fits from ps
  FitsInside from (define c) = ⊤
  FitsInside from (mention m) = ⊤
  FitsInside from (seize n) = ⊤
  FitsInside from (seize_all at) = ⊤
  FitsInside from (grant n) = ⊤
  FitsInside from (grant_all at) = ⊤
  FitsInside from (stray n) = ⊤

  -- the numbers of the definitions in parts, and in those inside them
  pub Fits : ℕ → PartNodes → Type 0
  Fits from no_parts = ⊤
  Fits from (more_parts p ps) = (from + size_of p < 2 ^ 32) × FitsInside from p × Fits (from + size_of p) ps
