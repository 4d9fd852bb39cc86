use Rattle.std.proofs.Common.{ℕ, ◌+◌, ◌<◌, ◌↔◌, Bool, List, ◌∙◌, sym, subst, length}
use Rattle.cycles.specs.declared.edge.Edge.{Edge}
use Rattle.cycles.specs.Depends.{EndsBelow, IsSet, Depends}
use Rattle.cycles.specs.Groups.{edges_of}
use Rattle.cycles.proofs.Between.{ends_below}
use Rattle.cycles.proofs.Cut.{cut_exact}
use Rattle.cycles.proofs.groups.selves_below.Goals as goal

pub on_cycles-requires : goal.on_cycles-requires
on_cycles-requires c = subst (EndsBelow (c.args.base + length c.args.groups.now)) (sym (c.deref.ensures.value ∙ c.in_ok-edges.ensures)) (ends_below c.args.base c.args.groups.now c.requires.low)

pub returns : goal.returns
returns c =
    let gs = c.args.groups.now in
    let exact = subst (λ (es : List Edge). (v : ℕ) → v < c.args.base + length gs → IsSet c.in_ok-marks.marks.items v ↔ Depends es v v) (c.deref.ensures.value ∙ c.in_ok-edges.ensures) c.in_ok-marks.ensures.exact in
    subst (λ (marks : List Bool). (v : ℕ) → IsSet marks v ↔ Depends (edges_of gs) v v) (sym c.truncate.ensures.items) (cut_exact c.args.base gs c.in_ok-marks.marks.items c.requires.low exact)
