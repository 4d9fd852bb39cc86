use Rattle.std.proofs.Common.{◌≡◌, true, rules}
use Rattle.constant_rules.proofs.OfNodes.{unary_node}
use Rattle.constant_rules.proofs.operators.unary.Goals as goal

pub returns : goal.returns
returns c = λ ground f t d v h.
    let constant : c.args.operand.now.is_constant ≡ true = search rules in
    let clean : c.args.operand.now.is_clean ≡ true = search rules in
    unary_node c.args.operator c.args.at f t d v c.args.told.now c.told_of_computed.new.told c.args.operand.now c.in_ok-known.known c.in_ok-computed.computed h constant clean (λ known. c.in_ok-computed.ensures d v known) c.in_ok-known.ensures
