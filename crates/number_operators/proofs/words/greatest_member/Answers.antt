use Rattle.std.proofs.lemmas.Int.{to_z-of_z}
use Rattle.number_operators.proofs.words.greatest_member.Goals as goal

pub returns : goal.returns
returns c = let fits = c.ranges.set in simp to_z-of_z at c.greatest_below.ensures
