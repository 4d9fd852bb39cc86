use Rattle.std.proofs.Common.{ℕ, ap, ◌∙◌, ◌≡◌, ◌≤◌, subst, rules}
use Rattle.std.specs.Prelude.{◌↔◌, IsTrue, nat_le}
use Rattle.std.specs.List.{count_by}
use Rattle.instance_table.specs.Phase.{is_live_in}
use Rattle.world_model.specs.Waiting.{count_of_live}
use Rattle.world_model.specs.Allowed.{most_live}
use Rattle.kernel_steps.specs.Kept.{world_in}
use Rattle.kernel_steps.proofs.Ending.{live_as_many}
use Rattle.kernel_steps.proofs.simple.is_full.Goals as goal

at_most : (n : ℕ) → IsTrue (nat_le 1000 n) ↔ (most_live ≤ n)
at_most n = search rules

pub returns : goal.returns
returns c =
    let w = world_in c.args.s.now in
    let count : c.live.result ≡ count_of_live w = c.live.ensures ∙ ap (λ phases. count_by is_live_in phases) c.requires.seated.placed.phases ∙ live_as_many w.phases in
    subst (λ n. IsTrue (nat_le 1000 c.live.result) ↔ (most_live ≤ n)) count (at_most c.live.result)
