use Rattle.std.proofs.Common.{arith, sym, ◌∙◌}
use Rattle.std.proofs.lemmas.List.{length-take-le}
use Rattle.chill_lexer.proofs.RunLemmas.{text_within}
use Rattle.chill_lexer.proofs.literal.text.Goals as goal

pub slice_bounds-unquoted-count : goal.slice_bounds-unquoted-count
slice_bounds-unquoted-count c = (text_within c.args.text.now c.in-Some.length (sym c.text_length.ensures ∙ c.in-Some.is)).0

pub slice_bounds-unquoted-length : goal.slice_bounds-unquoted-length
slice_bounds-unquoted-length c =
    let h = text_within c.args.text.now c.in-Some.length (sym c.text_length.ensures ∙ c.in-Some.is) in
    sym (length-take-le _ c.args.text.now (omega arith))

pub overflow_add-result : goal.overflow_add-result
overflow_add-result c =
    let h = text_within c.args.text.now c.in-Some.length (sym c.text_length.ensures ∙ c.in-Some.is) in omega arith
