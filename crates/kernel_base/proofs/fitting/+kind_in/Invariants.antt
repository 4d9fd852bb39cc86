use Rattle.std.proofs.Common.{◌≡◌, ◌+◌, length, take}
use Rattle.std.specs.List.{flat_map}
use Rattle.kernel_base.specs.Value.{kinds_of}
use Rattle.kernel_base.proofs.fitting.+kind_in.Given as goal

abbrev pub invariant-loop-part : goal.invariant-loop-part
invariant-loop-part l = length (flat_map kinds_of (take l.part-index l.part-items)) + l.left ≡ l.index
