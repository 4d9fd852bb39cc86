use Rattle.std.proofs.Common.{List, [], ◌∷◌, ℤ, ap, refl, ◌∙◌}
use Rattle.kernel_steps.proofs.Beginning.{kept_open}
use Rattle.kernel_steps.proofs.opening.open.Goals as goal

pub returns-clause-kept : goal.returns-clause-kept
returns-clause-kept c =
    kept_open _ c.requires c.new-4.ensures c.in_ok-seats.ensures.seated c.in_ok-queues.ensures.sleeps c.in_ok-queues.ensures.trades c.in_ok-queues.ensures.hears c.in_ok-queues.ensures.sends c.in_ok-queues.ensures.last (c.in_ok-store.ensures.scalars, c.in_ok-store.ensures.layouts) refl
    (c.in_ok-arguments.ensures.items ∙ ap (λ (x : List ℤ). x ∷ c.new-3.result ∷ []) c.new-2.ensures ∙ ap (λ (x : List ℤ). [] ∷ x ∷ []) c.new-3.ensures)
