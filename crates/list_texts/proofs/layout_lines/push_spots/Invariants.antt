use Rattle.std.proofs.Common.{◌≡◌, ◌++◌, drop}
use Rattle.list_texts.specs.Layouts.{spot_lines}
use Rattle.list_texts.proofs.layout_lines.push_spots.Given as goal

-- the lines so far go on with those of the scalars that are left
abbrev pub invariant-loop-i : goal.invariant-loop-i
invariant-loop-i l = l.text.items ++ spot_lines (drop l.i l.paths) (drop l.i l.layout) ≡ l.fn.text.items ++ spot_lines l.paths l.layout
