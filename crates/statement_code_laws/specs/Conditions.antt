-- The law of conditions: the instructions of each condition follow its meaning, and control goes where it has to.
use Rattle.std.specs.Prelude.{◌≡◌, ℕ, ◌+◌, ◌≤◌, Bool, true, List, [], ℤ, if◌then◌else◌}
use Rattle.world_model.specs.Session.{Session}
use Rattle.program_trees.specs.ExprTree.{ExprTree, count_of}
use Rattle.source_meaning.specs.Store.{Store}
use Rattle.source_meaning.specs.Operators.{is_true}
use Rattle.source_meaning.specs.ExprMeaning.{Setting, expr_mean}
use Rattle.source_meaning.specs.BodyMeaning.{Bodies}
use Rattle.code_scheme.specs.Pieces.{Layout}
use Rattle.code_scheme.specs.ExprSizes.{condition_size}
use Rattle.code_scheme.specs.ExprCode.{condition_code}
use Rattle.follow_laws.specs.Follows.{HasAt, Around, free_in, here, Holds, Follows, always, HoldsWith, IsLong}
use Rattle.code_laws.specs.BodyBounds.{BodiesWithin}
use Rattle.code_laws.specs.InRange.{FitsExpr}
use Rattle.code_laws.specs.OwnBounds.{expr_within}
use Rattle.code_laws.specs.Expressions.{Suited, NamesIn, calls_at}

-- where control goes behind a condition that jumps to a target where it has a value
abbrev pub goes_where : Bool → ℕ → ℕ → List ℤ → ℕ
goes_where when target behind xs = if is_true xs then (if when then target else behind) else (if when then behind else target)

-- A condition, which leaves nothing on the stack: its instructions follow its meaning, and control goes where it has to.
abbrev pub ConditionLaw : Type 0
ConditionLaw = (w : Around) (v : Setting) (lay : Layout) (bodies : Bodies) (inside : BodiesWithin) (lo hi free : ℕ) (e : ExprTree) (when : Bool) (target at to : ℕ) (stack locals : List ℤ) (store : Store) (s : Session)
    → Suited w v lay bodies inside → NamesIn w lo hi → free ≡ free_in w → FitsExpr lay e → count_of e ≡ 1
    → at + condition_size e when ≡ to → lo ≤ at → to ≤ hi
    → HasAt w.code.instrs at (condition_code lay free e when target at)
    → expr_within v (calls_at inside w) e store s ≡ true
    → Holds w store locals
    → Follows w (here w at stack locals s) lo hi [] (goes_where when target to) (always stack) (HoldsWith w (IsLong 1)) (expr_mean v e store s)
