use Rattle.std.proofs.Common.{◌≡◌, ℤ, pos, w64, length, Option, Some, None, refl, ap, sym, ◌∙◌, arith, rules}
use mir.Val.{SFits}
use Rattle.std.proofs.lemmas.Int.{ints, to_z-of_z}
use Rattle.scalar_operators.specs.Numbers.{truth_number}
use Rattle.scalar_operators.specs.Powersets.{members_of, is_included, span_of, first_of_list, last_of_list}
use Rattle.machine_frames.proofs.Pushed.{one_pushed, two_pushed, member_pushed, no_member}
use Rattle.machine_frames.proofs.sets.card.Goals as goal

pub returns-clause-does : goal.returns-clause-does
returns-clause-does c =
    let fits : SFits w64 c.one-x.result = search rules in
    let fits_count : SFits w64 c.count_members.result = search rules in
    let count : c.count_members.result ≡ pos (length (members_of c.one-x.result)) = simp to_z-of_z at c.count_members.ensures in
    let frame = simp to_z-of_z at c.replace.ensures.frame in
    λ s. one_pushed c.args.top.now c.replace.new.self c.one-x.result c.count_members.result (λ x. pos (length (members_of x))) c.one-x.ensures frame count
