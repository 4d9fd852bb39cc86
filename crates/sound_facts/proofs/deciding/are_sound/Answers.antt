use Rattle.std.proofs.Common.{arith}
use Rattle.sound_facts.proofs.PlaceLemmas.{sound_if}
use Rattle.sound_facts.proofs.deciding.are_sound.Goals as goal

pub returns : goal.returns
returns c =
    sound_if c.args.facts.now c.as_slice-2.result.now c.as_slice-4.result.now c.as_slice.result.now c.are_laid_out.result c.as_slice-2.ensures c.as_slice-4.ensures c.as_slice.ensures
    (omega (arith, c.len.ensures, c.len-2.ensures)) (omega arith) (omega arith) (c.are_processes.ensures.0 c.if-not-are_processes.false) c.are_laid_out.ensures
