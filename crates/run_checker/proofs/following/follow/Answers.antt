use Rattle.run_checker.proofs.Events.{did_follows, goes_follows, if_ok, runs_told, waits_told}
use Rattle.run_checker.proofs.following.follow.Goals as goal

pub returns-in_ok-add_started-in-Did : goal.returns-in_ok-add_started-in-Did
returns-in_ok-add_started-in-Did c = did_follows c.args.guarded.now c.args.event.now c.in-Did.who c.in-Did.ticks c.in-Did.request c.in-Did.answer c.in-Did.refill c.args.machines.now.items c.add_started.new.machines.items
    c.index_mut-slot.result.now c.asks.new.slot c.take.new.slot c.in_ok-asks-in-Did.field-0 c.is_end.result c.in-Did.is c.requires.can c.index_mut-slot.ensures.value c.if-not-branch.false c.in_ok-asks-in-Did.ensures
    c.is_end.ensures (c.in_ok-take-in-Did.ensures c.args.guarded.now) c.in_ok-add_started-in-Did.ensures

pub returns-in-Waits : goal.returns-in-Waits
returns-in-Waits c = if_ok c.asks-in-Waits.result _ _
    (λ held told. waits_told c.args.guarded.now c.args.event.now c.in-Waits.who c.in-Waits.ticks c.in-Waits.request c.args.machines.now.items c.index_mut.result.now c.asks-in-Waits.new.slot held c.in-Waits.is c.requires.can c.index_mut.ensures.value told)
    c.asks-in-Waits.ensures

pub returns-in_ok-take-in-Goes : goal.returns-in_ok-take-in-Goes
returns-in_ok-take-in-Goes c = goes_follows c.args.guarded.now c.args.event.now c.in-Goes.who c.in-Goes.answer c.args.machines.now.items c.index_mut-in-Goes.result.now c.take-in-Goes.new.slot c.in-Goes.is c.requires.can
    c.index_mut-in-Goes.ensures.value (c.in_ok-take-in-Goes.ensures c.args.guarded.now)

pub returns-in-Runs : goal.returns-in-Runs
returns-in-Runs c = if_ok c.runs.result _ _
    (λ held told. runs_told c.args.guarded.now c.args.event.now c.in-Runs.who c.in-Runs.ticks c.args.machines.now.items c.index_mut-in-Runs.result.now c.runs.new.slot held c.in-Runs.is c.requires.can c.index_mut-in-Runs.ensures.value told)
    c.runs.ensures
