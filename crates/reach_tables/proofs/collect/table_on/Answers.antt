use Rattle.std.proofs.Common.{◌≡◌, ◌++◌, [], ◌∙◌, ap}
use Rattle.std.specs.Str.{bytes_eq}
use Rattle.names_model.specs.Definitions.{numbers_on, spelling_at, under}
use Rattle.names_model.specs.Entries.{once_behind}
use Rattle.reach_tables.proofs.Fresh.{fresh-none, once-fresh}
use Rattle.reach_tables.proofs.collect.table_on.Goals as goal

pub returns : goal.returns
returns c = λ h n.
    let all = c.args.book.now.all.items in
    let numbers : c.as_slice.result.now ≡ numbers_on c.args.first c.args.count = c.as_slice.ensures ∙ c.in_ok-push_on.ensures h ∙ ap (λ z. z ++ numbers_on c.args.first c.args.count) c.new-numbers.ensures in
    c.in_ok-table.ensures n ∙ ap (λ ds. once_behind [] (under all n ds)) numbers
    ∙ once-fresh (λ d. bytes_eq (spelling_at all d) n) [] c.args.first c.args.count (fresh-none c.args.first)
