use Rattle.std.proofs.Common.{◌≡◌, ◌++◌, drop}
use Rattle.names_model.specs.Definitions.{definitions_in}
use Rattle.reach_tables.specs.Offsets.{Fits}
use Rattle.names_model.specs.Parts.{nodes_of}
use Rattle.reach_tables.proofs.definitions.+definitions.Given as goal

abbrev pub invariant-definitions_in-loop-part : goal.invariant-definitions_in-loop-part
invariant-definitions_in-loop-part l = Fits l.fn.from (nodes_of l.fn.parts) → record {
  fits : Fits l.next (nodes_of (drop l.part-index l.parts));
  out : l.out.items ++ definitions_in l.inside l.next (nodes_of (drop l.part-index l.parts)) ≡ l.fn.out.items ++ definitions_in l.inside l.fn.from (nodes_of l.fn.parts);
}
