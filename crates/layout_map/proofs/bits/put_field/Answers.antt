-- The word still has 32 bits.
use Rattle.std.proofs.Common.{◌<◌, ◌^◌, arith}
use Rattle.layout_map.proofs.WordLemmas.{put_fits}
use Rattle.layout_map.proofs.bits.put_field.Goals as goal

pub overflow_cast-result : goal.overflow_cast-result
overflow_cast-result c =
    let small : c.put_wide.result < 2 ^ 32 = rw c.put_wide.ensures (put_fits c.args.word c.args.start c.args.width c.args.field (omega arith) c.requires.end c.requires.field) in
    omega arith
