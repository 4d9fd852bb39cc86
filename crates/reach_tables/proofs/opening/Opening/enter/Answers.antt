use Rattle.names_model.specs.Entries.{entry}
use Rattle.reach_tables.proofs.Entering.{opens-more}
use Rattle.reach_tables.proofs.Known.{added-known}
use Rattle.reach_tables.proofs.opening.Opening.enter.Goals as goal

pub returns : goal.returns
returns c = λ es o.
    let all = c.args.book.now.all.items in
    let known = c.split_known.ensures.known _ o.marks in
    let added = added-known all _ _ c.args.numbers.now _ _ _ known c.split_known.ensures.parts (c.in_ok-add_numbers.ensures o.marks) in
    opens-more _ _ all es (entry c.args.at c.args.numbers.now) o added (c.in_ok-tell_numbers.ensures es o.table)
