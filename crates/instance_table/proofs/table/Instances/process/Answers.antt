use Rattle.std.proofs.Common.{◌-◌, Option, Some, arith, rules, ap, sym, ◌∙◌}
use Rattle.instance_table.specs.declared.records.Record.{Record}
use Rattle.instance_table.specs.Table.{Table, made_at}
use Rattle.instance_table.specs.Kept.{process_of, processes_of}
use Rattle.instance_table.proofs.Numbered.{IsKey, numbered_at, read_at, made_is}
use Rattle.instance_table.proofs.table.Instances.process.Goals as goal

pub record_at-requires : goal.record_at-requires
record_at-requires c =
    let is : IsKey c.self.inside.keys.items (c.args.instance - 1) c.index.result.now = (omega (arith, c.self.inside.keys.ok.0), c.index.ensures) in
    let kept = numbered_at c.self.inside.records.slots 1 c.self.inside.keys.items (c.args.instance - 1) c.index.result.now c.self.invariant.numbered is in
    rw kept.found (search rules)

pub returns : goal.returns
returns c =
    let slots = c.self.inside.records.slots in
    let keys = c.self.inside.keys.items in
    let is : IsKey c.self.inside.keys.items (c.args.instance - 1) c.index.result.now = (omega (arith, c.self.inside.keys.ok.0), c.index.ensures) in
    let seen = ap (λ (v : Table). made_at v.processes c.args.instance) c.self.view_is in
    let made = made_is 0 (processes_of slots keys) c.args.instance (omega (arith, c.if-instance-eq0.false)) in
    let read = read_at process_of slots keys (c.args.instance - 1) c.index.result.now is in
    let found = ap (λ (o : Option Record). Some (process_of o)) c.record_at.ensures in
    sym (sym seen ∙ made ∙ read ∙ found)
