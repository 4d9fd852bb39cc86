use Rattle.std.proofs.Common.{◌≡◌, ◌++◌, drop}
use Rattle.names_model.specs.Entries.{own_numbers}
use Rattle.reach_tables.specs.Offsets.{Fits}
use Rattle.names_model.specs.Parts.{nodes_of}
use Rattle.reach_tables.proofs.entries.own_numbers.Given as goal

abbrev pub invariant-loop-part : goal.invariant-loop-part
invariant-loop-part l = Fits l.fn.from (nodes_of l.fn.parts) → record {
  fits : Fits l.next (nodes_of (drop l.part-index l.parts));
  out : l.out ++ own_numbers l.next (nodes_of (drop l.part-index l.parts)) ≡ l.fn.out ++ own_numbers l.fn.from (nodes_of l.fn.parts);
}
