use Rattle.std.proofs.Common.{◌∙◌}
use Rattle.std.proofs.lemmas.Bool.Decides.{Decides-eqb}
use Rattle.std.proofs.lemmas.Slice.Eq.{starts_is}
use Rattle.reach_tables.proofs.Known.{front-is, held-each}
use Rattle.reach_tables.proofs.founds.split_known.Goals as goal

pub returns-then-starts_with-clause-known : goal.returns-then-starts_with-clause-known
returns-then-starts_with-clause-known c = λ marks m.
    let known = c.find-known.result.now in
    let starts = (starts_is Decides-eqb c.args.numbers.now known c.starts_with.result c.starts_with.ensures.value).0 c.if-starts_with.true in
    held-each marks c.args.table.now c.args.book.now.all.items c.spelling.result.now _ m (front-is c.args.numbers.now _ known _ starts c.split_at-then-starts_with.ensures.front ∙ c.find-known.ensures)
