use Rattle.std.proofs.Common.{◌≡◌, ◌+◌, length, sym, refl, rules, w64}
use mir.Val.{SFits}
use Rattle.std.proofs.lemmas.Int.{to_z-of_z}
use Rattle.expr_gen.proofs.Appending.{and_then, at_last}
use Rattle.expr_gen.proofs.operators.put_member_or_none.Goals as goal

pub returns-clause-puts : goal.returns-clause-puts
returns-clause-puts c =
    let low_fits : SFits w64 c.args.bounds.low = search rules in
    let high_fits : SFits w64 c.args.bounds.high = search rules in
    let above_fits : SFits w64 c.plus-above.result = search rules in
    let none_fits : SFits w64 c.plus-none.result = search rules in
    let inside : c.in_ok-inside.inside ≡ length c.args.draft.now.code.instrs + 12 = c.in_ok-inside.ensures 12 refl in
    let above = simp to_z-of_z at c.plus-above.ensures in
    let none = simp to_z-of_z at c.plus-none.ensures in
    let below_low = simp to_z-of_z at c.in_ok-put_is_below.ensures.puts in
    let not_above = simp to_z-of_z at c.in_ok-put_is_none_above.ensures.puts in
    let chosen = simp to_z-of_z at c.put_unless_inside.ensures.puts in
    rw (sym inside, sym above, sym none) (at_last c.put_unless_inside.result _ _ _ (and_then below_low not_above) chosen)
