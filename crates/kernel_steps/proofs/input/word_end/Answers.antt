use Rattle.std.proofs.Common.{◌<◌, ◌^◌, length, arith, rules, length-drop, ap, ◌∙◌, not}
use Rattle.std.proofs.lemmas.List.Sums.{prefix_len-le-length}
use Rattle.world_model.specs.Input.{is_separator}
use Rattle.kernel_steps.proofs.input.word_end.Goals as goal

pub overflow_add-result : goal.overflow_add-result
overflow_add-result c =
    let a = prefix_len-le-length is_separator c.args.input.now in
    let b = prefix_len-le-length (λ b. not (is_separator b)) c.behind.result.now in
    let l = ap length c.behind.ensures ∙ length-drop c.separators_len-skipped.result c.args.input.now in
    let short : length c.args.input.now < 2 ^ 63 = search rules in
    omega (arith, a, b, l, c.separators_len-skipped.ensures, c.word_len.ensures, short)

pub returns-clause-within : goal.returns-clause-within
returns-clause-within c =
    let a = prefix_len-le-length is_separator c.args.input.now in
    let b = prefix_len-le-length (λ b. not (is_separator b)) c.behind.result.now in
    let l = ap length c.behind.ensures ∙ length-drop c.separators_len-skipped.result c.args.input.now in
    omega (arith, a, b, l, c.separators_len-skipped.ensures, c.word_len.ensures)
