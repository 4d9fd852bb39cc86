use Rattle.std.proofs.Common.{◌≡◌, ◌++◌, drop, map}
use Rattle.names_model.specs.declared.part.Mention.TheVariants as mentions
use Rattle.names_model.specs.Identifiers.{identifier}
use Rattle.reach_parts.proofs.mode.add_elements.Given as goal

abbrev pub invariant-loop-name : goal.invariant-loop-name
invariant-loop-name l = l.out ++ map (λ n. mentions.Element (identifier n)) (drop l.name-index l.names) ≡ l.fn.out ++ map (λ n. mentions.Element (identifier n)) l.names
