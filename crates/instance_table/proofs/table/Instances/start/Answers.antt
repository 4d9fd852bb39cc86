use Rattle.std.proofs.Common.{◌≡◌, ◌+◌, ℕ, List, [], ◌∷◌, ◌++◌, length, map, Some, arith, ap, sym, refl, ◌∙◌}
use Rattle.std.proofs.lemmas.List.{map-append, length-append}
use Rattle.kernel_base.specs.declared.ends.How.TheVariants.{Normal}
use Rattle.instance_table.specs.declared.phase.Phase.{Phase}
use Rattle.instance_table.specs.declared.phase.Phase.TheVariants.{Active, Ended}
use Rattle.instance_table.specs.declared.records.Record.{Record}
use Rattle.instance_table.specs.Phase.{is_live_in, is_active_in}
use Rattle.instance_table.specs.Table.{Table}
use Rattle.instance_table.specs.Kept.{under, records_of, process_of, phase_of, processes_of, phases_of}
use Rattle.instance_table.proofs.Numbered.{same_records, numbered_append, length_records, length_phases, count_push}
use Rattle.instance_table.proofs.table.Instances.start.Goals as goal

module _ (c : goal.After-self-2-1) where
  abbrev made : Record
  made = record { number = c.len.result + 1; process = c.args.process; phase = Active }

  recs : records_of c.insert_reserved-key.new.self.slots c.push_reserved.new.self.items ≡ records_of c.self.inside.records.slots c.self.inside.keys.items ++ Some made ∷ []
  recs =
      let s = c.self.inside.records.slots in
      let t = c.insert_reserved-key.new.self.slots in
      let keys = c.self.inside.keys.items in
      let key = c.insert_reserved-key.result in
      let same = same_records s t key c.insert_reserved-key.ensures.updates.others 1 keys c.insert_reserved-key.ensures.was_vacant c.self.invariant.numbered in
      rw (c.push_reserved.ensures.items, map-append (under t) keys (key ∷ []), same, c.insert_reserved-key.ensures.updates.changed) refl

  phases : phases_of c.insert_reserved-key.new.self.slots c.push_reserved.new.self.items ≡ phases_of c.self.inside.records.slots c.self.inside.keys.items ++ Active ∷ []
  phases = ap (map phase_of) recs ∙ map-append phase_of (records_of c.self.inside.records.slots c.self.inside.keys.items) (Some made ∷ [])

  processes : processes_of c.insert_reserved-key.new.self.slots c.push_reserved.new.self.items ≡ processes_of c.self.inside.records.slots c.self.inside.keys.items ++ c.args.process ∷ []
  processes = ap (map process_of) recs ∙ map-append process_of (records_of c.self.inside.records.slots c.self.inside.keys.items) (Some made ∷ [])

pub invariant_of-self : goal.invariant_of-self
invariant_of-self c =
    let s = c.self.inside.records.slots in
    let keys = c.self.inside.keys.items in
    let before = phases_of s keys in
    let seen = ap (λ (v : Table). length v.phases) c.self.view_is in
    let long = length_phases s keys in
    let pushed = ap length c.push_reserved.ensures.items ∙ length-append keys (c.insert_reserved-key.result ∷ []) in
    record {
      numbered = rw (recs c) (numbered_append 1 (records_of s keys) (Some (made c)) c.self.invariant.numbered (record { kept = made c; found = refl; number = omega (arith, c.len.ensures, c.self.inside.keys.ok.0, length_records s keys) }));
      live_is = ap (λ (n : ℕ). n + 1) c.self.invariant.live_is ∙ sym (rw (phases c) (count_push is_live_in before Active refl));
      active_is = ap (λ (n : ℕ). n + 1) c.self.invariant.active_is ∙ sym (rw (phases c) (count_push is_active_in before Active refl));
      few = omega (arith, seen, long, pushed, c.requires.few);
    }

pub returns-clause-processes : goal.returns-clause-processes
returns-clause-processes c =
    let seen = ap (λ (v : Table). v.processes ++ c.args.process ∷ []) c.self.view_is in
    ap (λ (xs : List ℕ). 0 ∷ xs) (processes c) ∙ seen

pub returns-clause-phases : goal.returns-clause-phases
returns-clause-phases c =
    let seen = ap (λ (v : Table). v.phases ++ Active ∷ []) c.self.view_is in
    ap (λ (xs : List Phase). Ended Normal ∷ xs) (phases c) ∙ seen
