use Rattle.std.proofs.Common.{◌≡◌, ℕ, ◌∙◌, sym}
use Rattle.std.proofs.lemmas.Result.{IfOk-weaker}
use Rattle.code_types.specs.Places.{height_after}
use Rattle.program_trees.specs.ProgramTree.{checked_tree}
use Rattle.code_scheme.specs.BodyCode.{heads_of, height_behind}
use Rattle.expr_gen.specs.Empty.{empty_code}
use Rattle.code_gen.proofs.PlainHeights.{plain_height}
use Rattle.code_gen.proofs.rows.height_behind.Goals as goal

pub returns-in_default : goal.returns-in_default
returns-in_default c =
    IfOk-weaker c.height_behind_plain.result (λ (behind : ℕ). behind ≡ height_after empty_code 0 c.args.instr c.args.height)
    (λ (behind : ℕ). behind ≡ height_behind (heads_of (checked_tree c.args.program.now)) c.args.instr c.args.height)
    (λ behind is. is ∙ sym (plain_height (heads_of (checked_tree c.args.program.now)) c.args.instr c.args.height c.in_default.not-Return c.in_default.not-Call)) c.height_behind_plain.ensures
