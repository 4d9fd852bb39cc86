use Rattle.std.proofs.Common.{◌<◌, ◌^◌, length, drop, length-drop, arith, rules, ap, sym, ◌∙◌}
use Rattle.std.proofs.lemmas.List.{drop-drop}
use Rattle.world_model.specs.Input.{input_behind}
use Rattle.kernel_steps.proofs.input.word_end_from.Goals as goal

pub overflow_add-result : goal.overflow_add-result
overflow_add-result c =
    let l = ap length c.behind.ensures ∙ length-drop c.args.read c.args.input.now in
    let short : length c.args.input.now < 2 ^ 63 = search rules in
    omega (arith, c.requires, l, c.word_end.ensures.within, short)

pub returns-clause-within : goal.returns-clause-within
returns-clause-within c =
    let l = ap length c.behind.ensures ∙ length-drop c.args.read c.args.input.now in
    omega (arith, c.requires, l, c.word_end.ensures.within)

pub returns-clause-taken : goal.returns-clause-taken
returns-clause-taken c = sym (drop-drop c.word_end.result c.args.read c.args.input.now) ∙ ap (drop c.word_end.result) (sym c.behind.ensures) ∙ c.word_end.ensures.taken ∙ ap input_behind c.behind.ensures
