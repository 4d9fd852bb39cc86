use Rattle.std.proofs.Common.{◌+◌, ◌≤◌, length, vec_capacity, rules}
use Rattle.code_machine.proofs.Bursting.{runs_with, sets_out}
use Rattle.code_machine.proofs.burst.burst_of.Goals as goal

pub returns-in_err-reserve-clause-runs : goal.returns-in_err-reserve-clause-runs
returns-in_err-reserve-clause-runs c = runs_with c.args.code.now c.args.process.now c.reserve.new.self c.requires.runs c.reserve.ensures.items c.reserve.ensures.capacity

pub make_steps-requires : goal.make_steps-requires
make_steps-requires c =
    let more : length c.reserve.new.self.items + 1 ≤ vec_capacity c.reserve.new.self = search rules in
    sets_out c.args.code.now c.args.most c.args.process.now c.reserve.new.self c.in_ok-room.room c.greatest_height.result c.requires.runs c.requires.up c.requires.most c.reserve.ensures.items more c.greatest_height.ensures c.in_ok-room.ensures
