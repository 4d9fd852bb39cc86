use Rattle.std.proofs.Common.{◌≡◌, ◌∙◌, ap, take, take_all, List, ◌++◌, arith}
use Rattle.std.proofs.lemmas.Grind.{common_steps}
use Rattle.std.specs.List.{flat_map}
use Rattle.kernel_base.specs.declared.value.Value.{Value}
use Rattle.kernel_base.specs.Value.{scalars_of}
use Rattle.world_check.proofs.PowersetsInValues.{few_here, parts_here, parts_more, no_such_members}
use Rattle.world_check.proofs.flat.+scalars_of.Goals as goal

pub loop-part-preserved : goal.loop-part-preserved
loop-part-preserved t c =
    let items : List Value = c.as_slice-part-items.result.now in
    λ few.
    let scalars : c.in_ok-scalars-in-Parts.scalars ≡ scalars_of c.part-item.result =
    c.in_ok-scalars-in-Parts.ensures (few_here c.args.value.now c.in-Parts.parts items c.loop-part.part-index c.part-item.result few c.in-Parts.is c.as_slice-part-items.ensures c.loop-part-test.true c.part-item.is) in
    let appended : c.extend_from_slice.new.self.items ≡ c.loop-part.all.items ++ c.in_ok-scalars-in-Parts.scalars = grind (arith, common_steps) in
    parts_more items c.loop-part.part-index c.part-item.result c.loop-part.all.items c.in_ok-scalars-in-Parts.scalars c.extend_from_slice.new.self.items c.loop-part-test.true c.part-item.is (c.loop-part.invariant few) scalars appended

pub returns-else-members-size : goal.returns-else-members-size
returns-else-members-size t c =
    λ few. no_such_members c.args.value.now c.in-Members.size c.in-Members.offsets c.as_slice-members.result.now c.new.result c.in-Members.is c.as_slice-members.ensures (omega arith) few

pub returns-after-loop-part : goal.returns-after-loop-part
returns-after-loop-part t c =
    let items : List Value = c.as_slice-part-items.result.now in
    let all : take c.loop-part.part-index items ≡ items = take_all c.loop-part.part-index items c.loop-part-test.false in
    λ few. parts_here c.args.value.now c.in-Parts.parts items c.from_vec.result c.in-Parts.is c.as_slice-part-items.ensures
    (c.from_vec.ensures ∙ c.loop-part.invariant few ∙ ap (λ (vs : List Value). flat_map scalars_of vs) all)
