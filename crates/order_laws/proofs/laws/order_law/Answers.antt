use Rattle.order_laws.proofs.laws.order_law.Goals as goal
use Rattle.order_laws.proofs.Orders.{some_order}
use Rattle.order_laws.proofs.Selves.{none_itself, text_order}

pub returns-clause-order : goal.returns-clause-order
returns-clause-order c = some_order

pub returns-clause-none_itself : goal.returns-clause-none_itself
returns-clause-none_itself c = none_itself

pub returns-clause-text : goal.returns-clause-text
returns-clause-text c = text_order
