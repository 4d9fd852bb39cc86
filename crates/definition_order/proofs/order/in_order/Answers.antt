use Rattle.std.proofs.Common.{[]}
use Rattle.definition_order.proofs.Found.{each_once, all_found, same_needs, waits_found, is_order}
use Rattle.definition_order.proofs.order.in_order.Goals as goal

pub returns-clause-once : goal.returns-clause-once
returns-clause-once c = each_once [] c.in_ok-order.order c.in_ok-order.ensures.once

pub returns-clause-all : goal.returns-clause-all
returns-clause-all c = all_found c.args.origins.now c.as_slice-2.result.now c.in_ok-needs.needs.items c.deref.result.now c.in_ok-order.order c.as_slice-2.ensures c.deref.ensures.value c.in_ok-needs.ensures.len c.in_ok-order.ensures.all

pub returns-clause-waits : goal.returns-clause-waits
returns-clause-waits c g o h is =
    let same = same_needs c.args.names.now.uses c.as_slice.result.now c.args.origins.now c.as_slice-2.result.now c.in_ok-needs.needs.items c.deref.result.now c.as_slice.ensures c.as_slice-2.ensures c.deref.ensures.value c.in_ok-needs.ensures.list h.rise in
    waits_found g c.args.names.now.uses c.args.origins.now o c.deref.result.now c.in_ok-order.order h is same c.in_ok-order.ensures.earlier

pub returns-clause-earlier : goal.returns-clause-earlier
returns-clause-earlier c g o h is =
    is_order g c.args.names.now.uses c.args.origins.now c.in_ok-order.order h (returns-clause-waits c g o h is)
    (all_found c.args.origins.now c.as_slice-2.result.now c.in_ok-needs.needs.items c.deref.result.now c.in_ok-order.order c.as_slice-2.ensures c.deref.ensures.value c.in_ok-needs.ensures.len c.in_ok-order.ensures.all)
