use Rattle.std.proofs.Common.{◌<◌, length, subst, sym, w64, rules}
use mir.Val.{SFits}
use Rattle.std.proofs.lemmas.List.{length-map}
use Rattle.std.proofs.lemmas.Int.{to_z-of_z}
use Rattle.packed_words.specs.Packed.{SeenPacked, number_at}
use Rattle.packed_words.proofs.Laid.{low_word, number_got}
use Rattle.packed_words.proofs.packed.Packed.get.Goals as goal

pub get_bits-requires-clause-word : goal.get_bits-requires-clause-word
get_bits-requires-clause-word c =
    let low : c.args.k < length c.self.inside.layout = rw (length-map c.self.inside.layout (number_at c.self.inside.words.items)) at (subst (λ (v : SeenPacked). c.args.k < length v.scalars) (sym c.self.view_is) c.requires) in
    rw (c.as_slice.ensures, c.deref.ensures.value) (low_word c.self.inside.layout c.self.inside.words.items c.args.k _ low c.self.invariant.count)

pub returns : goal.returns
returns c =
    let low : c.args.k < length c.self.inside.layout = rw (length-map c.self.inside.layout (number_at c.self.inside.words.items)) at (subst (λ (v : SeenPacked). c.args.k < length v.scalars) (sym c.self.view_is) c.requires) in
    let fits : SFits w64 c.get_bits.result = search rules in
    rw (to_z-of_z w64 c.get_bits.result fits, ← c.self.view_is) (number_got c.self.inside.words.items c.self.inside.layout c.args.k _ c.get_bits.result low (rw (c.as_slice.ensures, c.deref.ensures.value) at c.get_bits.ensures))
