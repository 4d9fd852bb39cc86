-- The laws of operators and routines on what stands on top.
use Rattle.std.specs.Prelude.{◌≡◌, ℕ, ◌+◌, ◌<◌, ◌≤◌, List, ◌++◌, ℤ, length}
use Rattle.world_model.specs.Session.{Session}
use Rattle.checked_program.specs.declared.expr.Prefix.{Prefix}
use Rattle.checked_program.specs.declared.expr.Routine.{Routine}
use Rattle.source_meaning.specs.Store.{Store}
use Rattle.source_meaning.specs.Operators.{prefix_value, routine_value}
use Rattle.source_meaning.specs.ExprMeaning.{as_computed}
use Rattle.code_scheme.specs.Pieces.{prefix_code, routine_code}
use Rattle.follow_laws.specs.Follows.{HasAt, Around, here, Holds, on_top, IsLong, Gives}

abbrev pub PrefixLaw : Type 0
PrefixLaw = (w : Around) (o : Prefix) (xs : List ℤ) (at to lo hi : ℕ) (base locals : List ℤ) (store : Store) (s : Session)
    → length xs ≡ 1 → HasAt w.code.instrs at (prefix_code o) → at + 1 ≡ to → lo ≤ at → at < hi → Holds w store locals
    → Gives w (here w at (base ++ xs) locals s) lo hi to (on_top base) (IsLong 1) (as_computed (prefix_value o xs) store s)

abbrev pub RoutineLaw : Type 0
RoutineLaw = (w : Around) (r : Routine) (xs : List ℤ) (at to lo hi : ℕ) (base locals : List ℤ) (store : Store) (s : Session)
    → length xs ≡ 1 → HasAt w.code.instrs at (routine_code r) → at + length (routine_code r) ≡ to → lo ≤ at → to ≤ hi → Holds w store locals
    → Gives w (here w at (base ++ xs) locals s) lo hi to (on_top base) (IsLong 1) (as_computed (routine_value r xs) store s)
