use Rattle.std.proofs.Common.{◌≡◌, ◌++◌, drop, map}
use Rattle.chill_tree.specs.StatementTree.{receive_tree, receive_nodes}
use Rattle.process_names.specs.Heard.{nothing_heard, told_sources}
use Rattle.process_names.proofs.listed.tell_sources.Given as goal

abbrev pub invariant-loop-alternative : goal.invariant-loop-alternative
invariant-loop-alternative l =
    l.told ++ told_sources l.meetings l.listed (receive_nodes (map receive_tree (drop l.alternative-index l.alternatives))) ≡ l.fn.told ++ told_sources l.meetings nothing_heard (receive_nodes (map receive_tree l.alternatives))
