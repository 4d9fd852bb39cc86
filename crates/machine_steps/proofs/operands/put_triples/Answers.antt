use Rattle.std.proofs.Common.{◌≡◌, ◌+◌, ◌*◌, [], ◌∷◌, ◌++◌, pos, length, get_or, map, ap, sym, ◌∙◌, arith, rules, w64, length-append}
use mir.Val.{SFits}
use Rattle.std.proofs.lemmas.Int.{to_z-of_z}
use Rattle.std.proofs.lemmas.List.{map-append}
use Rattle.kernel_base.specs.declared.request.Alternative.{Alternative}
use Rattle.machine_steps.specs.Views.{slot_of}
use Rattle.machine_steps.proofs.OperandLists.{triple_more}
use Rattle.machine_steps.proofs.operands.put_triples.Goals as goal

pub loop-number-preserved : goal.loop-number-preserved
loop-number-preserved c =
    let numbers = c.args.numbers.now in
    let i = c.loop-number.number in
    let fits_thing : SFits w64 (get_or numbers (3 * i) (pos 0)) = search rules in
    let fits_local : SFits w64 (get_or numbers (3 * i + 1) (pos 0)) = search rules in
    let fits_count : SFits w64 (get_or numbers (3 * i + 2) (pos 0)) = search rules in
    let named = simp to_z-of_z at (sym c.thing_from.ensures ∙ c.in-Some.is) in
    let placed = simp to_z-of_z at c.in-Some-slot_from.ensures in
    let next : Alternative = record { thing = c.in-Some.thing; number = i } in
    let things : c.push.new.self.items ≡ c.loop-number.things.items ++ next ∷ [] = search rules in
    let slots : c.push-in-loop-number.new.self.items ≡ c.loop-number.slots.items ++ c.in-Some-slot_from.slot ∷ [] = search rules in
    let both : map slot_of c.push-in-loop-number.new.self.items ≡ map slot_of c.loop-number.slots.items ++ slot_of c.in-Some-slot_from.slot ∷ [] = ap (map slot_of) slots ∙ map-append slot_of c.loop-number.slots.items (c.in-Some-slot_from.slot ∷ []) in
    let more = triple_more numbers c.args.locals i c.loop-number.things.items (map slot_of c.loop-number.slots.items) (pos 0) c.in-Some.thing (slot_of c.in-Some-slot_from.slot) c.loop-number.invariant.0 (omega arith) named placed in
    let things_count : length c.push.new.self.items ≡ i + 1 = ap length things ∙ omega (arith, length-append c.loop-number.things.items (next ∷ [])) in
    let slots_count : length c.push-in-loop-number.new.self.items ≡ i + 1 = ap length slots ∙ omega (arith, length-append c.loop-number.slots.items (c.in-Some-slot_from.slot ∷ [])) in
    (rw (things, both) more, things_count, slots_count, omega (arith, c.push.ensures.capacity), omega (arith, c.push-in-loop-number.ensures.capacity), omega (arith, c.push.ensures.capacity), omega (arith, c.push-in-loop-number.ensures.capacity))
