use Rattle.std.proofs.Common.{◌≡◌, true, rules}
use Rattle.class_operators.specs.Predefined.{predefined_tree}
use Rattle.constant_rules.proofs.OfNodes.{routine_node}
use Rattle.constant_rules.proofs.calls.value_routine.Goals as goal

pub returns : goal.returns
returns c = λ ground own f t d v h.
    let constant : c.args.arg.now.is_constant ≡ true = search rules in
    let clean : c.args.arg.now.is_clean ≡ true = search rules in
    routine_node (predefined_tree c.args.own) c.args.at f t d v c.args.told.now c.told_of_computed.new.told c.args.arg.now c.in_ok-known.known c.in_ok-computed.computed h constant clean (λ known. c.in_ok-computed.ensures d v known own) c.in_ok-known.ensures
