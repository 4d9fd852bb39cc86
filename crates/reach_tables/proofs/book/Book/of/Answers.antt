use Rattle.std.proofs.Common.{◌≡◌, ◌++◌, ◌∙◌, ap, length, length-append, arith}
use Rattle.names_model.specs.Definitions.{numbers_on, predefined, text_definitions, under, with_predefined}
use Rattle.names_model.specs.Parts.{nodes_of}
use Rattle.reach_tables.proofs.book.Book.of.Goals as goal

pub returns : goal.returns
returns c = λ h small.
    let text = text_definitions (nodes_of c.args.parts.now) in
    let collected : c.definitions_in.new.out.items ≡ text = c.in_ok-definitions_in.ensures h ∙ ap (λ z. z ++ text) c.new-all.ensures.items in
    let all : c.push_predefined.new.out.items ≡ with_predefined text = c.in_ok-push_predefined.ensures ∙ ap (λ z. z ++ predefined) collected in
    let count = length-append text predefined in
    let first : c.up_to_greatest-first.result ≡ length text = omega (arith, ap length collected, count, c.len.ensures) in
    record {
      all = all;
      predefined = λ n. c.in_ok-book.ensures (omega (arith, count)) n ∙ ap (λ ds. under ds n (numbers_on c.up_to_greatest-first.result 42)) all ∙ ap (λ k. under (with_predefined text) n (numbers_on k 42)) first;
    }
