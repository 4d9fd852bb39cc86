use Rattle.std.proofs.Common.{◌≡◌, ℕ, List, ap, ◌∙◌}
use Rattle.std.specs.Prelude.{filter}
use Rattle.std.proofs.lemmas.Result.{IfOk-weaker}
use Rattle.code_scheme.specs.BodyItems.{is_among}
use Rattle.stmt_gen.proofs.again.raised_and_listed.Goals as goal

pub returns : goal.returns
returns c =
    IfOk-weaker c.those_among.result (λ both. both ≡ filter (λ x. is_among x c.as_slice-2.result.now) c.as_slice.result.now)
    (λ both. both ≡ filter (λ x. is_among x c.args.listed.now) c.args.raised.now)
    (λ xs e. e ∙ ap (λ (ys : List ℕ). filter (λ x. is_among x ys) c.as_slice.result.now) c.as_slice-2.ensures
    ∙ ap (λ (ys : List ℕ). filter (λ x. is_among x c.args.listed.now) ys) c.as_slice.ensures) c.those_among.ensures
