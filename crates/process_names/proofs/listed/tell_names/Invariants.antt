use Rattle.std.proofs.Common.{◌≡◌, ◌++◌, drop}
use Rattle.process_names.specs.Heard.{told_names, heard_names}
use Rattle.process_names.proofs.listed.tell_names.Given as goal

-- what is told, and what is listed, and what the rest adds, are what all add
abbrev pub invariant-loop-name : goal.invariant-loop-name
invariant-loop-name l =
    (l.told ++ told_names l.meetings l.listed (drop l.name-index l.names) ≡ l.fn.told ++ told_names l.meetings l.fn.listed l.names)
    × (heard_names l.meetings l.listed (drop l.name-index l.names) ≡ heard_names l.meetings l.fn.listed l.names)
