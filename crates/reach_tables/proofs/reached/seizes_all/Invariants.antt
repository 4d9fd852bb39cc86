use Rattle.std.proofs.Common.{◌≡◌, drop}
use Rattle.names_model.specs.Seeing.{seizes_all}
use Rattle.names_model.specs.Parts.{nodes_of}
use Rattle.reach_tables.proofs.reached.seizes_all.Given as goal

abbrev pub invariant-loop-part : goal.invariant-loop-part
invariant-loop-part l = seizes_all (nodes_of (drop l.part-index l.parts)) ≡ seizes_all (nodes_of l.parts)
