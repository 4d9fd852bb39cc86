-- The law of typed loops: what controls a loop, and of which nothing is told, is as its modes say.
use Rattle.std.specs.Prelude.{◌≡◌, ℕ, Option, Some}
use Rattle.chill_tree.specs.SimpleTree.{ControlTree, while_holds, for_ever, for_members, for_steps}
use Rattle.modes.specs.ModeTree.{ModeTree}
use Rattle.program_trees.specs.StatementTree as done
use Rattle.checks_model.specs.Sites.{at_control}
use Rattle.checks_model.specs.ActionRules.{counter_mode}
use Rattle.written_laws.specs.Written.{Each, exprs_at}
use Rattle.elaboration_model.specs.Numbering.{Source, local_defined}
use Rattle.elaboration_model.specs.Expressions.{mode_defined}
use Rattle.elaboration_model.specs.Statements.{control}
use Rattle.expression_laws.specs.Names.{AllNamesKnown}
use Rattle.expression_laws.specs.Statements.{IsNodeClean}
use Rattle.source_meaning.specs.TypedValues.{Context}
use Rattle.source_meaning.specs.TypedStatements.{LocalHas, IsTypedControl}
use Rattle.action_laws.specs.Actions.{IsSound}

-- the counter of a loop has the mode of its bounds, and is a local of it
abbrev pub ControlTyped : Source → Context → ControlTree → Type 0
ControlTyped s ctx (for_members at n set c) =
    (mode_defined s n ≡ counter_mode s.known (for_members at n set c)) × ((m : ModeTree) (k : ℕ) → counter_mode s.known (for_members at n set c) ≡ Some m → local_defined s n ≡ Some k → LocalHas ctx m k)
ControlTyped s ctx (for_steps at n from step down to c) = (m : ModeTree) (k : ℕ) → counter_mode s.known (for_steps at n from step down to c) ≡ Some m → local_defined s n ≡ Some k → LocalHas ctx m k
ControlTyped s ctx c = Unit {0}

abbrev pub ControlTypedLaw : Type 0
ControlTypedLaw = (s : Source) (ctx : Context) (c : ControlTree) (x : done.ControlTree) → AllNamesKnown s → IsNodeClean s (at_control c) → Each (IsSound s ctx) (exprs_at (at_control c)) → ControlTyped s ctx c → control s c ≡ Some x → IsTypedControl ctx x
