use Rattle.std.proofs.Common.{◌≡◌, ◌∙◌, ap, get_or, length, length-set, List, ℤ, pos, slice_get, rules, w64, sym}
use mir.Val.{SFits}
use Rattle.std.proofs.lemmas.Int.{to_z-of_z}
use Rattle.std.proofs.lemmas.Option.{slice_get-get_or}
use Rattle.chill_base.specs.declared.layout.Bits.{Bits}
use Rattle.shared_store.proofs.Written.{next_written}
use Rattle.shared_store.proofs.store.write_from.Goals as goal

pub put-requires-clause-fits : goal.put-requires-clause-fits
put-requires-clause-fits c =
    let number = get_or c.args.numbers.now c.loop-k.k (pos 0) in
    let fits : SFits w64 number = search rules in
    λ bits at. rw (to_z-of_z w64 number fits) (c.requires.fits c.loop-k.k number bits (slice_get-get_or c.args.numbers.now c.loop-k.k (pos 0) c.loop-k-test.true) (rw (← c.loop-k.invariant.layout) at))

pub loop-k-preserved : goal.loop-k-preserved
loop-k-preserved c =
    let number = get_or c.args.numbers.now c.loop-k.k (pos 0) in
    let fits : SFits w64 number = search rules in
    let put = simp to_z-of_z at c.put.ensures.scalars in
    record {
      layout = c.put.ensures.layout ∙ c.loop-k.invariant.layout;
      count = ap (λ (zs : List ℤ). length zs) put ∙ length-set c.loop-k.packed.scalars _ _ ∙ c.loop-k.invariant.count;
      scalars = next_written c.args.packed.now.scalars c.put.new.self.scalars c.loop-k.packed.scalars c.args.numbers.now c.args.first c.loop-k.k (pos 0) c.requires.lies c.loop-k-test.true c.loop-k.invariant.scalars put;
    }
