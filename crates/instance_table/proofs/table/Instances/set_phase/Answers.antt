use Rattle.std.proofs.Common.{◌-◌, ◌<◌, ◌^◌, ℕ, List, ◌∷◌, length, slice_set, Some, arith, rules, ap, sym, refl, ◌∙◌}
use Rattle.slab.specs.Slab.{Updates}
use Rattle.kernel_base.specs.declared.ends.How.TheVariants.{Normal}
use Rattle.instance_table.specs.declared.phase.Phase.{Phase}
use Rattle.instance_table.specs.declared.phase.Phase.TheVariants.{Ended}
use Rattle.instance_table.specs.Phase.{is_live_in, is_active_in}
use Rattle.instance_table.specs.Table.{Table}
use Rattle.instance_table.specs.Kept.{phases_of, one_if}
use Rattle.instance_table.proofs.Numbered.{IsKey, numbered_at, length_phases, set_is, before_there, phase_set, counted_low, counted_high, count_after}
use Rattle.instance_table.proofs.table.Instances.set_phase.Goals as goal

pub record_at-before-requires : goal.record_at-before-requires
record_at-before-requires c =
    let seen = ap (λ (v : Table). length v.phases) c.self.view_is in
    let is : IsKey c.self.inside.keys.items (c.args.instance - 1) c.index-key.result.now = (omega (arith, seen, length_phases c.self.inside.records.slots c.self.inside.keys.items, c.requires.made, c.requires.first), c.index-key.ensures) in
    let kept = numbered_at c.self.inside.records.slots 1 c.self.inside.keys.items (c.args.instance - 1) c.index-key.result.now c.self.invariant.numbered is in
    rw kept.found (search rules)

pub counted-self-inside-requires-clause-before : goal.counted-self-inside-requires-clause-before
counted-self-inside-requires-clause-before c =
    let seen = ap (λ (v : Table). length v.phases) c.self.view_is in
    let is : IsKey c.self.inside.keys.items (c.args.instance - 1) c.index-key.result.now = (omega (arith, seen, length_phases c.self.inside.records.slots c.self.inside.keys.items, c.requires.made, c.requires.first), c.index-key.ensures) in
    let there = before_there c.self.inside.records.slots c.self.inside.keys.items (c.args.instance - 1) c.index-key.result.now c.record_at-before.result is c.record_at-before.ensures in
    let low = counted_low is_live_in (phases_of c.self.inside.records.slots c.self.inside.keys.items) (c.args.instance - 1) (Ended Normal) c.record_at-before.result.phase there.0 there.1 refl in
    omega (arith, low, ap one_if c.is_live.ensures, c.self.invariant.live_is)

pub counted-self-inside-requires-clause-fits : goal.counted-self-inside-requires-clause-fits
counted-self-inside-requires-clause-fits c =
    let seen = ap (λ (v : Table). length v.phases) c.self.view_is in
    let is : IsKey c.self.inside.keys.items (c.args.instance - 1) c.index-key.result.now = (omega (arith, seen, length_phases c.self.inside.records.slots c.self.inside.keys.items, c.requires.made, c.requires.first), c.index-key.ensures) in
    let there = before_there c.self.inside.records.slots c.self.inside.keys.items (c.args.instance - 1) c.index-key.result.now c.record_at-before.result is c.record_at-before.ensures in
    let few : length (phases_of c.self.inside.records.slots c.self.inside.keys.items) < 2 ^ 32 = omega (arith, length_phases c.self.inside.records.slots c.self.inside.keys.items, c.self.invariant.few) in
    let high = counted_high is_live_in (phases_of c.self.inside.records.slots c.self.inside.keys.items) (c.args.instance - 1) c.args.phase c.record_at-before.result.phase there.0 there.1 few in
    omega (arith, high, ap one_if c.is_live.ensures, ap one_if c.is_live-2.ensures, c.self.invariant.live_is)

pub counted-self-inside-requires-2-clause-before : goal.counted-self-inside-requires-2-clause-before
counted-self-inside-requires-2-clause-before c =
    let seen = ap (λ (v : Table). length v.phases) c.self.view_is in
    let is : IsKey c.self.inside.keys.items (c.args.instance - 1) c.index-key.result.now = (omega (arith, seen, length_phases c.self.inside.records.slots c.self.inside.keys.items, c.requires.made, c.requires.first), c.index-key.ensures) in
    let there = before_there c.self.inside.records.slots c.self.inside.keys.items (c.args.instance - 1) c.index-key.result.now c.record_at-before.result is c.record_at-before.ensures in
    let low = counted_low is_active_in (phases_of c.self.inside.records.slots c.self.inside.keys.items) (c.args.instance - 1) (Ended Normal) c.record_at-before.result.phase there.0 there.1 refl in
    omega (arith, low, ap one_if c.is_active.ensures, c.self.invariant.active_is)

pub counted-self-inside-requires-2-clause-fits : goal.counted-self-inside-requires-2-clause-fits
counted-self-inside-requires-2-clause-fits c =
    let seen = ap (λ (v : Table). length v.phases) c.self.view_is in
    let is : IsKey c.self.inside.keys.items (c.args.instance - 1) c.index-key.result.now = (omega (arith, seen, length_phases c.self.inside.records.slots c.self.inside.keys.items, c.requires.made, c.requires.first), c.index-key.ensures) in
    let there = before_there c.self.inside.records.slots c.self.inside.keys.items (c.args.instance - 1) c.index-key.result.now c.record_at-before.result is c.record_at-before.ensures in
    let few : length (phases_of c.self.inside.records.slots c.self.inside.keys.items) < 2 ^ 32 = omega (arith, length_phases c.self.inside.records.slots c.self.inside.keys.items, c.self.invariant.few) in
    let high = counted_high is_active_in (phases_of c.self.inside.records.slots c.self.inside.keys.items) (c.args.instance - 1) c.args.phase c.record_at-before.result.phase there.0 there.1 few in
    omega (arith, high, ap one_if c.is_active.ensures, ap one_if c.is_active-2.ensures, c.self.invariant.active_is)

pub invariant_of-self : goal.invariant_of-self
invariant_of-self c =
    let s = c.self.inside.records.slots in
    let keys = c.self.inside.keys.items in
    let i : ℕ = c.args.instance - 1 in
    let key = c.index-key.result.now in
    let r = c.record_at-before.result in
    let seen = ap (λ (v : Table). length v.phases) c.self.view_is in
    let is : IsKey c.self.inside.keys.items (c.args.instance - 1) c.index-key.result.now = (omega (arith, seen, length_phases c.self.inside.records.slots c.self.inside.keys.items, c.requires.made, c.requires.first), c.index-key.ensures) in
    let there = before_there s keys i key r is c.record_at-before.ensures in
    let up : Updates c.self.inside.records c.set_at.new.records key (Some (record r { phase = c.args.phase })) = rw c.record_at-before.ensures at c.set_at.ensures.updates in
    let set = phase_set s c.set_at.new.records.slots keys i key r c.args.phase c.self.invariant.numbered is c.record_at-before.ensures up.others up.changed in
    record {
      numbered = set.numbered;
      live_is = count_after is_live_in _ _ i c.self.inside.live c.counted-self-inside.result (one_if c.is_live.result) (one_if c.is_live-2.result) c.args.phase r.phase set.phases there.0 there.1 c.self.invariant.live_is (ap one_if c.is_live.ensures) (ap one_if c.is_live-2.ensures) c.counted-self-inside.ensures;
      active_is = count_after is_active_in _ _ i c.self.inside.active c.counted-self-inside-2.result (one_if c.is_active.result) (one_if c.is_active-2.result) c.args.phase r.phase set.phases there.0 there.1 c.self.invariant.active_is (ap one_if c.is_active.ensures) (ap one_if c.is_active-2.ensures) c.counted-self-inside-2.ensures;
      few = c.self.invariant.few;
    }

pub returns-clause-processes : goal.returns-clause-processes
returns-clause-processes c =
    let s = c.self.inside.records.slots in
    let keys = c.self.inside.keys.items in
    let i : ℕ = c.args.instance - 1 in
    let key = c.index-key.result.now in
    let r = c.record_at-before.result in
    let seen = ap (λ (v : Table). length v.phases) c.self.view_is in
    let is : IsKey c.self.inside.keys.items (c.args.instance - 1) c.index-key.result.now = (omega (arith, seen, length_phases c.self.inside.records.slots c.self.inside.keys.items, c.requires.made, c.requires.first), c.index-key.ensures) in
    let up : Updates c.self.inside.records c.set_at.new.records key (Some (record r { phase = c.args.phase })) = rw c.record_at-before.ensures at c.set_at.ensures.updates in
    let set = phase_set s c.set_at.new.records.slots keys i key r c.args.phase c.self.invariant.numbered is c.record_at-before.ensures up.others up.changed in
    ap (λ (xs : List ℕ). 0 ∷ xs) set.processes ∙ ap (λ (v : Table). v.processes) c.self.view_is

pub returns-clause-phases : goal.returns-clause-phases
returns-clause-phases c =
    let s = c.self.inside.records.slots in
    let keys = c.self.inside.keys.items in
    let i : ℕ = c.args.instance - 1 in
    let key = c.index-key.result.now in
    let r = c.record_at-before.result in
    let seen = ap (λ (v : Table). length v.phases) c.self.view_is in
    let is : IsKey c.self.inside.keys.items (c.args.instance - 1) c.index-key.result.now = (omega (arith, seen, length_phases c.self.inside.records.slots c.self.inside.keys.items, c.requires.made, c.requires.first), c.index-key.ensures) in
    let up : Updates c.self.inside.records c.set_at.new.records key (Some (record r { phase = c.args.phase })) = rw c.record_at-before.ensures at c.set_at.ensures.updates in
    let set = phase_set s c.set_at.new.records.slots keys i key r c.args.phase c.self.invariant.numbered is c.record_at-before.ensures up.others up.changed in
    let same = ap (λ (v : Table). slice_set v.phases c.args.instance c.args.phase) c.self.view_is in
    ap (λ (xs : List Phase). Ended Normal ∷ xs) set.phases ∙ sym (set_is (Ended Normal) c.args.phase (phases_of s keys) c.args.instance c.requires.first) ∙ same
