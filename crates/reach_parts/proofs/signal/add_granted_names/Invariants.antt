use Rattle.std.proofs.Common.{◌≡◌, ◌++◌, drop, map}
use Rattle.names_model.specs.Identifiers.{identifier}
use Rattle.names_model.specs.Parts.{grant, part_trees}
use Rattle.reach_parts.proofs.signal.add_granted_names.Given as goal

abbrev pub invariant-loop-name : goal.invariant-loop-name
invariant-loop-name l = part_trees l.out ++ map (λ n. grant (identifier n)) (drop l.name-index l.names) ≡ part_trees l.fn.out ++ map (λ n. grant (identifier n)) l.names
