use Rattle.std.proofs.Common.{◌≡◌, length, vec_len, arith}
use Rattle.machine_steps.proofs.LastRegion.{popped}
use Rattle.machine_steps.proofs.taking.note_region.Goals as goal

pub returns-in-Leave-clause-items : goal.returns-in-Leave-clause-items
returns-in-Leave-clause-items c =
    let count : vec_len c.pop.new.self ≡ length c.pop.new.self.items = omega arith in
    rw c.in-Leave.is (popped c.pop.result c.pop.new.self.items c.args.regions.now.items (vec_len c.pop.new.self) (vec_len c.args.regions.now) count c.pop.ensures.items c.pop.ensures.cases)
