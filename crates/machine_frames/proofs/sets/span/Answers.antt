use Rattle.std.proofs.Common.{◌≡◌, ℤ, pos, w64, length, Option, Some, None, refl, ap, sym, ◌∙◌, arith, rules}
use mir.Val.{SFits}
use Rattle.std.proofs.lemmas.Int.{ints, to_z-of_z}
use Rattle.scalar_operators.specs.Numbers.{truth_number}
use Rattle.scalar_operators.specs.Powersets.{members_of, is_included, span_of, first_of_list, last_of_list}
use Rattle.machine_frames.proofs.Pushed.{one_pushed, two_pushed, member_pushed, no_member}
use Rattle.machine_frames.proofs.sets.span.Goals as goal

pub returns-clause-does : goal.returns-clause-does
returns-clause-does c =
    let fits_x : SFits w64 c.two-x.result.0 = search rules in
    let fits_y : SFits w64 c.two-x.result.1 = search rules in
    let fits : SFits w64 c.offsets_between.result = search rules in
    let number : c.offsets_between.result ≡ span_of c.two-x.result.0 c.two-x.result.1 = simp to_z-of_z at c.offsets_between.ensures in
    let frame = simp to_z-of_z at c.replace.ensures.frame in
    λ s. two_pushed c.args.top.now c.replace.new.self c.two-x.result.0 c.two-x.result.1 c.offsets_between.result span_of c.two-x.ensures frame number
