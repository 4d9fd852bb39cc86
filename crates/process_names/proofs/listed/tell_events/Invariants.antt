use Rattle.std.proofs.Common.{◌≡◌, ◌++◌, drop, map}
use Rattle.chill_tree.specs.StatementTree.{named_tree, named_nodes}
use Rattle.process_names.specs.Heard.{nothing_heard, told_events}
use Rattle.process_names.proofs.listed.tell_events.Given as goal

abbrev pub invariant-loop-alternative : goal.invariant-loop-alternative
invariant-loop-alternative l =
    l.told ++ told_events l.meetings l.listed (named_nodes (map named_tree (drop l.alternative-index l.alternatives))) ≡ l.fn.told ++ told_events l.meetings nothing_heard (named_nodes (map named_tree l.alternatives))
