use Rattle.std.proofs.Common.{◌∙◌, sym, ap, arith, drop}
use Rattle.chill_tree.specs.ExprTree.{boxed_expr}
use Rattle.expr_parser.specs.Giving.{Fails}
use Rattle.expr_parser.proofs.Expressing.{Value, expressed, to_end, refused, handed_on}
use Rattle.expr_parser.proofs.parse.parse_expr.Goals as goal

pub overflow_sub-result : goal.overflow_sub-result
overflow_sub-result c =
    let h = ap (Value 64) (sym (to_end c.args.from c.args.tokens.now c.as_slice.result.now c.as_slice.ensures)) ∙ c.in_ok-found.ensures in
    let x = expressed c.args.tokens.now c.in_ok-found.rest.now c.args.from (boxed_expr c.in_ok-found.found) c.requires h in
    omega (arith, x.2, c.len.ensures)

pub returns : goal.returns
returns c =
    let h = ap (Value 64) (sym (to_end c.args.from c.args.tokens.now c.as_slice.result.now c.as_slice.ensures)) ∙ c.in_ok-found.ensures in
    rw c.len.ensures (expressed c.args.tokens.now c.in_ok-found.rest.now c.args.from (boxed_expr c.in_ok-found.found) c.requires h)

pub returns-in_err-found : goal.returns-in_err-found
returns-in_err-found c =
    let e = c.in_err-found.field-0.0 in
    let given : Fails e (Value 64 (drop c.args.from c.args.tokens.now)) = rw (to_end c.args.from c.args.tokens.now c.as_slice.result.now c.as_slice.ensures) at c.in_err-found.ensures in
    handed_on c.args.tokens.now c.args.from c.from_residual.result e c.from_residual.ensures.1 (refused (drop c.args.from c.args.tokens.now) e given)
