use Rattle.std.proofs.lemmas.Int.{to_z-of_z}
use Rattle.number_operators.proofs.words.includes.Goals as goal

pub returns : goal.returns
returns c = let fits_a = c.ranges.a in let fits_b = c.ranges.b in simp to_z-of_z at c.includes_below.ensures
