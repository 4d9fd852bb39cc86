use Rattle.std.proofs.Common.{◌≡◌, take}
use Rattle.chill_tree.specs.Spelling.{lower_case}
use Rattle.chill_tree.proofs.spelling.is_lower_case.Given as goal

-- the bytes so far are the letters so far
abbrev pub invariant-loop-i : goal.invariant-loop-i
invariant-loop-i l = take l.i l.bytes ≡ lower_case (take l.i l.letters)
