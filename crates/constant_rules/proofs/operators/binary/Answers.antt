use Rattle.std.proofs.Common.{◌≡◌, true, rules}
use Rattle.std.specs.Prelude.{◌&&◌}
use Rattle.constant_rules.proofs.OfNodes.{binary_node}
use Rattle.constant_rules.proofs.operators.binary.Goals as goal

pub returns : goal.returns
returns c = λ ground f h s t d e v w x y.
    let one : c.args.left.now.is_constant ≡ true = search rules in
    let other : c.args.right.now.is_constant ≡ true = search rules in
    let clean : (c.args.left.now.is_clean && c.args.right.now.is_clean) ≡ true = search rules in
    binary_node c.args.operator c.args.sign f h s t d e v w c.args.told.now c.told_of_computed.new.told c.args.left.now c.args.right.now c.in_ok-known.known c.in_ok-computed.computed x y one other clean (λ k l. c.in_ok-computed.ensures d e v w k l) c.in_ok-known.ensures
