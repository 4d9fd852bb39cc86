use Rattle.reach_tables.proofs.Repeated.{noted-end}
use Rattle.reach_tables.proofs.passages.note_passed.Goals as goal

pub returns : goal.returns
returns c = noted-end c.args.book.now.all.items c.args.name.now c.loop-number.out _ c.loop-number.last c.args.numbers.now c.loop-number.number-index c.loop-number-test.false c.loop-number.invariant
