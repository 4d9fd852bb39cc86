use Rattle.std.proofs.Common.{◌≡◌, ◌-◌, length, drop, ap, sym, ◌∙◌, arith, rules}
use Rattle.std.proofs.lemmas.List.{take_all, length-drop}
use Rattle.std.proofs.lemmas.List.Sorted.{IsPartitionPoint-from_clause}
use Rattle.definition_origins.specs.Uses.{precedes, first_at}
use Rattle.definition_origins.proofs.RisingRows.{partitioned, parted}
use Rattle.definition_origins.proofs.uses.number_at.Goals as goal

pub returns : goal.returns
returns c = λ rise.
    let us = c.args.numbers.now in
    let at = c.args.at in
    let k = c.partition_point-first.result in
    let point = IsPartitionPoint-from_clause (λ u. precedes u.at at) us k c.partition_point-first.ensures.partitioned (partitioned us at rise) (λ a r q k. search rules) in
    c.first_at.ensures ∙ ap (λ rows. first_at rows at) (take_all (length us - k) (drop k us) (omega (arith, length-drop k us))) ∙ sym (parted us at k rise point.0 point.1)
