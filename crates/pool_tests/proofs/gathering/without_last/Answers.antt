use Rattle.std.proofs.lemmas.List.Elements.{All-pop}
use Rattle.worker_pool.specs.Logs.{IsLog}
use Rattle.pool_tests.proofs.gathering.without_last.Goals as goal

pub returns : goal.returns
returns c = record { logs = (All-pop (IsLog c.args._code.now) _ _ c.pop-last.result c.pop-last.ensures.items c.requires.logs).0; was_open = c.requires.was_open }
