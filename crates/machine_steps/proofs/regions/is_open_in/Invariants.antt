use Rattle.std.proofs.Common.{◌≡◌, drop, map}
use Rattle.code_types.specs.Actions.{is_open}
use Rattle.machine_steps.specs.Views.{region_of}
use Rattle.machine_steps.proofs.regions.is_open_in.Given as goal

abbrev pub invariant-loop-entry : goal.invariant-loop-entry
invariant-loop-entry l = is_open l.region (map region_of l.regions) ≡ is_open l.region (map region_of (drop l.entry-index l.regions))
