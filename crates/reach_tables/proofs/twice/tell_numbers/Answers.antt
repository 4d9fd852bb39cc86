use Rattle.names_model.specs.Entries.{numbers_of}
use Rattle.names_model.specs.NameRules.{told_number}
use Rattle.reach_tables.proofs.Telling.{told-on, told-end}
use Rattle.reach_tables.proofs.twice.tell_numbers.Goals as goal

pub loop-number-preserved : goal.loop-number-preserved
loop-number-preserved c = λ es k.
    let i = c.loop-number.invariant es k in
    let t = c.in_ok-last.ensures es k i.last in
    record {
      last = t.last;
      told = told-on (told_number c.args.book.now.all.items (numbers_of es) c.args.at) c.args.numbers.now c.loop-number.number-index _ _ _ c.loop-number-test.true i.told t.told;
    }

pub returns : goal.returns
returns c = λ es k.
    let i = c.loop-number.invariant es k in
    told-end (told_number c.args.book.now.all.items (numbers_of es) c.args.at) c.args.numbers.now c.loop-number.number-index _ _ c.loop-number-test.false i.told
