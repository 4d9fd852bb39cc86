use Rattle.std.proofs.Common.{◌∙◌, ap, List, ℕ, false, w64, arith}
use Rattle.std.proofs.lemmas.Int.{to_z-of_z}
use Rattle.std.proofs.lemmas.Option.{slice_get-get_or}
use Rattle.packed_words.specs.Packed.{scalars_in}
use Rattle.packed_words.proofs.Laid.{low_word, number_put, whole, within_bits}
use Rattle.packed_words.proofs.packed.put_number.Goals as goal

pub put_bits-requires-clause-word : goal.put_bits-requires-clause-word
put_bits-requires-clause-word c = rw c.deref_mut.ensures.value (low_word c.args.layout.now c.args.words.now.items c.args.k _ c.requires.there c.requires.packed.count)

pub put_bits-requires-clause-fits : goal.put_bits-requires-clause-fits
put_bits-requires-clause-fits c = rw (to_z-of_z w64 c.args.number c.ranges.number) (within_bits _ c.args.number (c.requires.fits _ (slice_get-get_or c.args.layout.now c.args.k (record { word = 0; start = 0; end = 0; signed = false }) c.requires.there)))

pub returns-clause-scalars : goal.returns-clause-scalars
returns-clause-scalars c =
    let fits = c.requires.fits _ (slice_get-get_or c.args.layout.now c.args.k (record { word = 0; start = 0; end = 0; signed = false }) c.requires.there) in
    let put = rw (to_z-of_z w64 c.args.number c.ranges.number, c.deref_mut.ensures.value) at c.put_bits.ensures in
    ap (λ (ws : List ℕ). scalars_in ws c.args.layout.now) (whole c.args.words.now.len c.put_bits.new.words c.args.words.now.items (omega (arith, c.put_bits.auto.words, c.deref_mut.ensures.len)) (omega (arith, c.args.words.now.ok.0)) ∙ put)
    ∙ number_put c.args.words.now.items c.args.layout.now c.args.k (record { word = 0; start = 0; end = 0; signed = false }) c.args.number c.requires.there c.requires.packed fits
