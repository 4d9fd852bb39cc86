use Rattle.std.proofs.Common.{All, subst, sym}
use Rattle.std.proofs.lemmas.List.Elements.{All-append}
use Rattle.worker_pool.specs.Logs.{IsLog}
use Rattle.worker_pool.proofs.pool.add_logs.Goals as goal

pub returns : goal.returns
returns c = subst (All (IsLog c.args.guarded.now)) (sym c.in_ok-append.ensures.items) (All-append (IsLog c.args.guarded.now) c.args.all.now.items c.args.logs.items c.requires.all c.requires.logs)
