use Rattle.std.proofs.Common.{◌≡◌, ◌++◌, drop}
use Rattle.std.specs.Prelude.{flat_map}
use Rattle.names_model.specs.Definitions.{both_cases}
use Rattle.reach_tables.proofs.predefined.push_rows.Given as goal

abbrev pub invariant-loop-upper : goal.invariant-loop-upper
invariant-loop-upper l = l.out.items ++ flat_map (λ row. both_cases row.0.now row.1.now row.2) (drop l.upper-index l.rows) ≡ l.fn.out.items ++ flat_map (λ row. both_cases row.0.now row.1.now row.2) l.rows
