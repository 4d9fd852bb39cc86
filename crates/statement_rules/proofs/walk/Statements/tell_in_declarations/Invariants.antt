use Rattle.std.proofs.Common.{◌≡◌, ◌++◌, drop, map}
use Rattle.std.specs.Prelude.{true}
use Rattle.chill_tree.specs.LocalTree.{declaration_tree}
use Rattle.checks_model.specs.Sites.{at_declaration}
use Rattle.statement_laws.specs.Steps.{told_at_all}
use Rattle.statement_rules.specs.Grounds.{ground_at, IsGrounded}
use Rattle.statement_rules.proofs.walk.Statements.tell_in_declarations.Given as goal

abbrev pub invariant-loop-declaration : goal.invariant-loop-declaration
invariant-loop-declaration l = IsGrounded l.self →
    l.told ++ told_at_all (ground_at l.self) (map (at_declaration true) (map declaration_tree (drop l.declaration-index l.declarations))) ≡ l.fn.told ++ told_at_all (ground_at l.self) (map (at_declaration true) (map declaration_tree l.declarations))
