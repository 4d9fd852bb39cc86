use Rattle.std.proofs.Common.{◌≡◌, ℕ, ◌+◌, ◌-◌, ◌∙◌, ap, arith}
use Rattle.std.proofs.lemmas.Result.{IfOk-weaker}
use Rattle.program_trees.specs.ProgramTree.{body_row_tree}
use Rattle.code_scheme.specs.Pieces.{capped}
use Rattle.code_scheme.specs.StatementSite.{parameter_scalars, call_results}
use Rattle.code_gen.proofs.rows.height_over.Goals as goal

pub returns : goal.returns
returns c =
    let sum : c.saturating_add.result ≡ capped (c.args.height - c.in_ok-taken.taken + c.in_ok-given.given) = omega (arith, c.saturating_sub.ensures, c.saturating_add.ensures) in
    let same : c.args.height - c.in_ok-taken.taken + c.in_ok-given.given ≡ c.args.height - parameter_scalars (body_row_tree c.args.callee.now) + call_results (body_row_tree c.args.callee.now) =
    ap (λ (n : ℕ). c.args.height - n + c.in_ok-given.given) (c.in_ok-taken.ensures _ c.parameter_scalars.ensures) ∙ ap (λ (n : ℕ). c.args.height - parameter_scalars (body_row_tree c.args.callee.now) + n) (c.in_ok-given.ensures _ c.call_results.ensures) in
    IfOk-weaker c.uncapped-3.result (λ (whole : ℕ). (k : ℕ) → c.saturating_add.result ≡ capped k → whole ≡ k)
    (λ (behind : ℕ). behind ≡ c.args.height - parameter_scalars (body_row_tree c.args.callee.now) + call_results (body_row_tree c.args.callee.now))
    (λ behind whole. whole _ sum ∙ same) c.uncapped-3.ensures
