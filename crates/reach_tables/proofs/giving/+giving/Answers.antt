use Rattle.std.proofs.Common.{◌≡◌, ℕ, List, ◌++◌, ◌∙◌, ap}
use Rattle.names_model.specs.Entries.{own_numbers}
use Rattle.reach_tables.specs.Givens.{given_trees, givens}
use Rattle.names_model.specs.Parts.{nodes_of}
use Rattle.reach_tables.proofs.Granting.{given-more}
use Rattle.reach_tables.proofs.giving.+giving.Goals as goal

pub push_modulion-returns : goal.push_modulion-returns
push_modulion-returns t c = λ h.
    let all = c.args.book.now.all.items in
    let from = c.args.from in
    let ps = nodes_of c.args.parts.now in
    let inner = c.in_ok-inner.ensures h in
    let lent : given_trees c.as_slice.result.now ≡ givens all from ps = ap given_trees c.as_slice.ensures ∙ inner in
    let own = ◌∙◌ {A = List ℕ} (c.in_ok-own_numbers.ensures h) (ap (λ z. z ++ own_numbers from ps) c.new-own.ensures) in
    given-more all c.args.region from ps _ _ _ _ _ (c.in_ok-has.ensures h lent) own inner c.in_ok-push.ensures.ok
