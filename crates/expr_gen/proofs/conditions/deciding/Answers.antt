use Rattle.std.proofs.Common.{◌≡◌, ◌+◌, sym, ◌∙◌, arith}
use Rattle.program_trees.specs.ExprTree.{expr_tree}
use Rattle.code_scheme.specs.Pieces.{capped}
use Rattle.code_scheme.specs.ExprSizes.{condition_size}
use Rattle.expr_gen.proofs.Deciding.{goes_behind}
use Rattle.expr_gen.proofs.conditions.deciding.Goals as goal

pub returns-in_ok-target : goal.returns-in_ok-target
returns-in_ok-target c =
    let size : c.saturating_add-size.result ≡ capped (condition_size (expr_tree c.args.left.now) c.args.value + condition_size (expr_tree c.args.right.now) c.args.branch.when) =
    omega (arith, c.condition_size.ensures, c.condition_size-else-jumps_at.ensures) in
    let behind = c.in_ok-target.ensures (condition_size (expr_tree c.args.left.now) c.args.value + condition_size (expr_tree c.args.right.now) c.args.branch.when) size in
    goes_behind c.args.branch c.args.value c.in_ok-target.target _ (sym c.jumps_at.ensures ∙ c.if-jumps_at.false) behind
