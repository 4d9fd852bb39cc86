use Rattle.std.proofs.Common.{◌≤◌, length, rules, tests}
use Rattle.machine_steps.proofs.LastRegion.{last_is_another, last_is_of}
use Rattle.machine_steps.proofs.regions.is_last_in.Goals as goal

pub returns-then-entry-region : goal.returns-then-entry-region
returns-then-entry-region c =
    let some : 1 ≤ length c.args.regions.now = search (rules, tests) in
    last_is_of c.args.regions.now c.args.region c.args.frame (record { region = 0; frame = 0 }) some c.if-entry-region.true

pub returns-else-entry-region : goal.returns-else-entry-region
returns-else-entry-region c =
    let some : 1 ≤ length c.args.regions.now = search (rules, tests) in
    last_is_another c.args.regions.now c.args.region c.args.frame (record { region = 0; frame = 0 }) some c.if-entry-region.false
