use Rattle.std.proofs.Common.{◌≡◌, ◌++◌, drop}
use Rattle.std.specs.Prelude.{vec_items}
use Rattle.action_gen.proofs.around.with_exit.Given as goal

abbrev pub invariant-loop-exit : goal.invariant-loop-exit
invariant-loop-exit l = vec_items l.all ++ drop l.exit-index l.exits ≡ l.exits
