use Rattle.std.proofs.Common.{◌≡◌, take}
use Rattle.list_texts.specs.Layouts.{layout_lines}
use Rattle.list_texts.proofs.layout_lines.layout_text.Given as goal

abbrev pub invariant-loop-location : goal.invariant-loop-location
invariant-loop-location l = l.text.items ≡ layout_lines (take l.location-index l.location-items)
