use Rattle.kernel_base.specs.declared.request.Alternative.{Alternative}
use Rattle.buffers_signals.proofs.Pending.{first_is_there, is_chosen, none_pends}
use Rattle.buffers_signals.proofs.signals.choose.Goals as goal

abbrev nothing : Alternative
nothing = record { thing = 0; number = 0 }

pub returns-in-Some-first_for-clause-some : goal.returns-in-Some-first_for-clause-some
returns-in-Some-first_for-clause-some c =
    is_chosen c.args.wanted.now c.args.pending.now c.args.who c.args.process c.args.signals.now c.in_order.ensures.order c.in_order.ensures.own c.in_order.ensures.each c.in-Some.best nothing c.in-Some-first_for.place c.in-Some.ensures.some c.in-Some-first_for.ensures.some

pub returns-in-None-first_for-clause-none : goal.returns-in-None-first_for-clause-none
returns-in-None-first_for-clause-none c =
    first_is_there c.args.wanted.now c.args.pending.now c.args.who c.args.process c.args.signals.now c.in_order.ensures.order c.in_order.ensures.own c.in_order.ensures.each c.in-Some.best nothing c.in-Some.ensures.some c.in-None-first_for.ensures.none

pub returns-in-None-clause-none : goal.returns-in-None-clause-none
returns-in-None-clause-none c =
    none_pends c.args.wanted.now c.args.pending.now c.args.who c.args.process c.args.signals.now c.in_order.ensures.order c.in_order.ensures.own c.in_order.ensures.each c.in-None.ensures.none
