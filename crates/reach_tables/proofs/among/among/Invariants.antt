use Rattle.std.proofs.Common.{◌≡◌, drop}
use Rattle.names_model.specs.Entries.{is_among}
use Rattle.reach_tables.proofs.among.among.Given as goal

abbrev pub invariant-loop-other : goal.invariant-loop-other
invariant-loop-other l = is_among l.number (drop l.other-index l.numbers) ≡ is_among l.number l.numbers
