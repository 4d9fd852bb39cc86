use Rattle.std.proofs.Common.{◌≡◌, ℕ, ◌+◌, ◌-◌, ◌<◌, arith}
use Rattle.std.proofs.lemmas.Result.{IfOk-weaker}
use Rattle.code_types.specs.Places.{pops, pushes, height_after}
use Rattle.code_scheme.specs.Pieces.{capped}
use Rattle.expr_gen.specs.Empty.{empty_code}
use Rattle.code_gen.proofs.rows.height_behind_plain.Goals as goal

-- what is taken above the height leaves nothing
left_above : (h t p g n : ℕ) → t ≡ capped p → h < 4294967296 → n ≡ capped (h - t + g) → n ≡ capped (h - p + g)
left_above h t p g n taken few sum = omega arith

pub returns : goal.returns
returns c =
    let sum : c.saturating_add.result ≡ capped (c.args.height - c.taken-taken.result + c.given-given.result) = omega (arith, c.saturating_sub.ensures, c.saturating_add.ensures) in
    let all : c.saturating_add.result ≡ capped (c.args.height - pops empty_code 0 c.args.instr + pushes empty_code c.args.instr) =
    left_above c.args.height c.taken-taken.result (pops empty_code 0 c.args.instr) (pushes empty_code c.args.instr) c.saturating_add.result c.taken-taken.ensures (omega arith)
    (omega (arith, sum, c.given-given.ensures)) in
    IfOk-weaker c.uncapped.result (λ (whole : ℕ). (k : ℕ) → c.saturating_add.result ≡ capped k → whole ≡ k)
    (λ (behind : ℕ). behind ≡ height_after empty_code 0 c.args.instr c.args.height)
    (λ behind whole. whole _ all) c.uncapped.ensures
