use Rattle.std.proofs.Common.{take, ◌≡◌}
use Rattle.chill_base.proofs.list.ListItem.equals.Given as goal

-- the items so far are equal
abbrev pub invariant-loop-i : goal.invariant-loop-i
invariant-loop-i g l = take l.i l.mine ≡ take l.i l.theirs
