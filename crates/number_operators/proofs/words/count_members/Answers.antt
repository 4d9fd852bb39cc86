use Rattle.std.proofs.Common.{◌≡◌, ◌^◌, ◌<◌, length, ap, sym, pos, arith}
use Rattle.std.proofs.lemmas.Int.{to_z-of_z}
use Rattle.scalar_operators.specs.Powersets.{members_of}
use Rattle.number_operators.proofs.PowersetWords.{as_signed}
use Rattle.number_operators.proofs.words.count_members.Goals as goal

pub returns : goal.returns
returns c =
    let fits = c.ranges.set in
    let count : c.count_below.result ≡ length (members_of c.args.set) = simp to_z-of_z at c.count_below.ensures in
    as_signed c.count_below.result _ c.count_below.type_inv (ap pos (sym count))
