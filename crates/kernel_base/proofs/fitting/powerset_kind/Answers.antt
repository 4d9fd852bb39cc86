use Rattle.std.proofs.Common.{◌≡◌, ◌+◌, ◌*◌, ◌<◌, ◌∙◌, ap, arith, Some, ℕ}
use Rattle.kernel_base.specs.declared.value.ScalarKind.TheVariants.{Powerset}
use Rattle.kernel_base.specs.Value.{count_of_numbers}
use Rattle.kernel_base.proofs.Layers.{kind_at, length-kinds_from}
use Rattle.kernel_base.proofs.fitting.powerset_kind.Goals as goal

pub returns-then-index-count : goal.returns-then-index-count
returns-then-index-count c =
    let low : c.args.index < count_of_numbers c.args.size = grind arith in
    kind_at c.args.size 0 (count_of_numbers c.args.size) c.args.index low
    ∙ ap (λ (n : ℕ). Some (Powerset c.args.size (32 * n))) (let e : 0 + c.args.index ≡ c.args.index = omega arith in e)

pub returns-else-index-count : goal.returns-else-index-count
returns-else-index-count c =
    let count : c.div_ceil-count.result ≡ count_of_numbers c.args.size = grind arith in
    omega (arith, length-kinds_from c.args.size 0 (count_of_numbers c.args.size))
