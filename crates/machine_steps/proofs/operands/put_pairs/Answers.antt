use Rattle.std.proofs.Common.{◌≡◌, ◌+◌, ◌*◌, [], ◌∷◌, ◌++◌, pos, length, get_or, refl, ap, sym, ◌∙◌, arith, rules, w64, length-append}
use mir.Val.{SFits}
use Rattle.std.proofs.lemmas.Int.{to_z-of_z}
use Rattle.machine_steps.proofs.OperandLists.{no_pair, pair_more}
use Rattle.machine_steps.proofs.operands.put_pairs.Goals as goal

pub returns-in-None-clause-pairs : goal.returns-in-None-clause-pairs
returns-in-None-clause-pairs c =
    let numbers = c.args.numbers.now in
    let fits_thing : SFits w64 (get_or numbers (2 * c.loop-i.i) (pos 0)) = search rules in
    let fits_number : SFits w64 (get_or numbers (2 * c.loop-i.i + 1) (pos 0)) = search rules in
    let told = simp to_z-of_z at (sym c.alternative_from.ensures ∙ c.in-None.is) in
    no_pair numbers c.loop-i.list.items c.loop-i.i (get_or numbers (2 * c.loop-i.i) (pos 0)) (get_or numbers (2 * c.loop-i.i + 1) (pos 0)) (pos 0) c.loop-i.invariant.0 (omega arith) refl refl told

pub loop-i-preserved : goal.loop-i-preserved
loop-i-preserved c =
    let numbers = c.args.numbers.now in
    let fits_thing : SFits w64 (get_or numbers (2 * c.loop-i.i) (pos 0)) = search rules in
    let fits_number : SFits w64 (get_or numbers (2 * c.loop-i.i + 1) (pos 0)) = search rules in
    let told = simp to_z-of_z at (sym c.alternative_from.ensures ∙ c.in-Some.is) in
    let items : c.push.new.self.items ≡ c.loop-i.list.items ++ c.in-Some.alternative ∷ [] = search rules in
    let more = pair_more numbers c.loop-i.list.items c.loop-i.i (get_or numbers (2 * c.loop-i.i) (pos 0)) (get_or numbers (2 * c.loop-i.i + 1) (pos 0)) (pos 0) c.in-Some.alternative c.loop-i.invariant.0 (omega arith) refl refl told in
    let count : length c.push.new.self.items ≡ c.loop-i.i + 1 = ap length items ∙ omega (arith, length-append c.loop-i.list.items (c.in-Some.alternative ∷ [])) in
    (rw items more, count, omega (arith, c.push.ensures.capacity), omega (arith, c.push.ensures.capacity))
