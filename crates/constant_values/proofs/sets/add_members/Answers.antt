use Rattle.std.proofs.Common.{◌≡◌, ◌<◌, ◌∙◌, sym, ap, rules, ◌++◌, List, ◌+◌, ◌-◌, ◌-ℤ◌, ℤ, ℕ, pos, take, drop, get_or, set, length, length-set, to_z, of_z, w64}
use Rattle.scalar_operators.specs.Members.{span_in, union_of}
use Rattle.scalar_operators.specs.Powersets.{span_of, union}
use Rattle.constant_values.specs.Sets.{AreAsOne}
use Rattle.constant_values.proofs.Spans.{span_more}
use Rattle.constant_values.proofs.sets.add_members.Goals as goal

pub loop-place-preserved : goal.loop-place-preserved
loop-place-preserved c =
    let word : to_z w64 (of_z w64 c.all_members.result) ≡ c.all_members.result = search rules in
    let lower : AreAsOne (to_z w64 (of_z w64 c.lowered-low.result)) (to_z w64 c.loop-place.low-bits -ℤ pos 32) = search rules in
    let upper : AreAsOne (to_z w64 (of_z w64 c.lowered-high.result)) (to_z w64 c.loop-place.high-bits -ℤ pos 32) = search rules in
    let same : to_z w64 (of_z w64 c.index.result.now) ≡ c.index.result.now = search rules in
    let value : to_z w64 (of_z w64 c.index.result.now) ≡ get_or c.loop-place.words.items c.loop-place.place c.index.result.now = same ∙ c.index.ensures in
    let span : to_z w64 (of_z w64 c.offsets_between.result) ≡ span_of (to_z w64 c.loop-place.low-bits) (to_z w64 c.loop-place.high-bits) = search rules in
    let own : c.all_members.result ≡ union (get_or c.loop-place.words.items c.loop-place.place c.index.result.now) (span_of (to_z w64 c.loop-place.low-bits) (to_z w64 c.loop-place.high-bits)) = c.all_members.ensures ∙ (λ i. union (value i) (span i)) in
    let here : c.loop-place.place < length c.loop-place.words.items = search rules in
    let long : length (set c.loop-place.words.items c.loop-place.place (to_z w64 (of_z w64 c.all_members.result))) ≡ length c.loop-place.words.items = length-set c.loop-place.words.items c.loop-place.place (to_z w64 (of_z w64 c.all_members.result)) in (
      c.loop-place.invariant.0 ∙ span_more c.loop-place.words.items c.loop-place.place (length (set c.loop-place.words.items c.loop-place.place (to_z w64 (of_z w64 c.all_members.result))))
          (to_z w64 c.loop-place.low-bits) (to_z w64 c.loop-place.high-bits) (to_z w64 (of_z w64 c.lowered-low.result)) (to_z w64 (of_z w64 c.lowered-high.result)) (to_z w64 (of_z w64 c.all_members.result)) c.index.result.now
          here lower upper (word ∙ own) long,
      long ∙ c.loop-place.invariant.1,
    )
