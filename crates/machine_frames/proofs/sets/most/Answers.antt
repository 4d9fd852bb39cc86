use Rattle.std.proofs.Common.{◌≡◌, ℤ, pos, to_z, w64, length, Option, Some, None, refl, ap, sym, ◌∙◌, arith, rules}
use mir.Val.{SFits}
use Rattle.std.proofs.lemmas.Int.{ints, to_z-of_z}
use Rattle.scalar_operators.specs.Numbers.{truth_number}
use Rattle.scalar_operators.specs.Powersets.{members_of, is_included, span_of, first_of_list, last_of_list}
use Rattle.machine_frames.proofs.Pushed.{one_pushed, two_pushed, member_pushed, no_member}
use Rattle.machine_frames.proofs.sets.most.Goals as goal

pub returns-in-Some-clause-does : goal.returns-in-Some-clause-does
returns-in-Some-clause-does c =
    let fits : SFits w64 c.one-x.result = search rules in
    let found : c.greatest_member.result ≡ last_of_list (members_of c.one-x.result) = simp to_z-of_z at c.greatest_member.ensures in
    let some : last_of_list (members_of c.one-x.result) ≡ Some c.in-Some.offset = sym found ∙ c.in-Some.is in
    let number : to_z w64 c.in-Some.offset ≡ pos c.in-Some.offset = omega (arith, ints) in
    let fits_number : SFits w64 (to_z w64 c.in-Some.offset) = search rules in
    let frame = c.replace.ensures.frame in
    λ s. member_pushed c.args.top.now c.replace.new.self c.one-x.result (to_z w64 c.in-Some.offset) c.in-Some.offset (λ x. last_of_list (members_of x)) c.one-x.ensures frame some number

pub returns-in-None-clause-does : goal.returns-in-None-clause-does
returns-in-None-clause-does c =
    let fits : SFits w64 c.one-x.result = search rules in
    let found : c.greatest_member.result ≡ last_of_list (members_of c.one-x.result) = simp to_z-of_z at c.greatest_member.ensures in
    let none : last_of_list (members_of c.one-x.result) ≡ None = sym found ∙ c.in-None.is in
    λ s. no_member c.args.top.now c.one-x.result (λ x. last_of_list (members_of x)) c.one-x.ensures none
