use Rattle.chill_top.proofs.StageLemmas.{ok-read-file}
use Rattle.chill_top.proofs.source.read_source.Goals as goal

-- the text of a file
pub returns-in-Run-clause-read : goal.returns-in-Run-clause-read
returns-in-Run-clause-read g c =
    ok-read-file (λ read. read.items) c.args.command.now (g.L.Library.contents c.args.library.now) c.as_str.result.now c.in-Run.file c.read_file.result c.in-Run.is c.as_str.ensures c.read_file.ensures.text
