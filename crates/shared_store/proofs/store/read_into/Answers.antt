use Rattle.std.proofs.Common.{◌≡◌, ◌++◌, ◌∷◌, [], ◌∙◌, append_assoc, sym, ap, List, ℤ, rules, w64, arith}
use mir.Val.{SFits}
use Rattle.std.proofs.lemmas.Int.{to_z-of_z}
use Rattle.world_model.specs.Lists.{scalars_at}
use Rattle.shared_store.proofs.Written.{next_read}
use Rattle.shared_store.proofs.store.read_into.Goals as goal

pub loop-k-preserved : goal.loop-k-preserved
loop-k-preserved c =
    let fits : SFits w64 c.get.result = search rules in
    let more = simp to_z-of_z at c.push_reserved.ensures.items in
    let into = c.args.into.now.items in
    let xs = c.args.packed.now.scalars in
    let was = scalars_at xs c.args.first c.loop-k.k in
    record {
      scalars = more ∙ ap (λ (zs : List ℤ). zs ++ c.get.result ∷ []) c.loop-k.invariant.scalars ∙ append_assoc into was (c.get.result ∷ []) ∙ ap (λ (zs : List ℤ). into ++ zs) (sym (next_read xs c.args.first c.loop-k.k c.get.result c.get.ensures));
      capacity = c.push_reserved.ensures.capacity ∙ c.loop-k.invariant.capacity;
      len = let e = c.push_reserved.ensures.len in let f = c.loop-k.invariant.len in omega (arith, e, f);
    }
