-- The law of expressions: the instructions of each expression follow its meaning, where those of the bodies that it calls do.
use Rattle.std.specs.Prelude.{◌≡◌, ℕ, suc, ◌+◌, ◌<◌, ◌≤◌, true, List, ℤ, length, slice_get, Some}
use Rattle.world_model.specs.Session.{Session}
use Rattle.program_trees.specs.ExprTree.{ExprTree, count_of}
use Rattle.code_types.specs.declared.instr.Instr.{Instr}
use Rattle.code_types.specs.Agreement.{IsNamed}
use Rattle.source_meaning.specs.Store.{Store}
use Rattle.source_meaning.specs.ExprMeaning.{Setting, expr_mean}
use Rattle.source_meaning.specs.BodyMeaning.{Bodies, calls_in}
use Rattle.code_scheme.specs.Pieces.{Layout}
use Rattle.code_scheme.specs.ExprSizes.{expr_size}
use Rattle.code_scheme.specs.ExprCode.{expr_code}
use Rattle.follow_laws.specs.Follows.{HasAt, Around, free_in, here, Holds, on_top, IsLong, Gives}
use Rattle.code_laws.specs.BodyBounds.{BodiesWithin, called_within}
use Rattle.code_laws.specs.Calls.{EnteredBelow, open_in, BodiesFollow}
use Rattle.code_laws.specs.InRange.{FitsExpr}
use Rattle.code_laws.specs.OwnBounds.{CallsWithin, expr_within}

-- The surroundings of a part are those of the setting in which it means something: its calls are those of bodies that the code's
-- instructions follow.
pub record Suited (w : Around) (v : Setting) (lay : Layout) (bodies : Bodies) (inside : BodiesWithin) : Type 0 where
  pub instance : v.instance ≡ w.instance
  pub rows : lay.rows ≡ w.rows
  pub open_now : v.open_now ≡ open_in w.regions
  pub calls : v.calls ≡ calls_in lay.program bodies (suc (length w.below))
  pub follow : BodiesFollow lay.program w.code w.instance bodies inside
  pub entered : EnteredBelow (suc (length w.below)) w.regions

-- what instructions name between two places is there, as in code that agrees
abbrev pub NamesIn : Around → ℕ → ℕ → Type 0
NamesIn w lo hi = (place : ℕ) (instr : Instr) → lo ≤ place → place < hi → slice_get w.code.instrs place ≡ Some instr → IsNamed w.code w.row instr

-- whether what a call does here keeps within
abbrev pub calls_at : BodiesWithin → Around → CallsWithin
calls_at inside w = called_within inside (suc (length w.below)) (open_in w.regions)

-- An expression whose numbers are in range, between two places. Where each value along what it does lies in its own bounds, its
-- instructions follow its meaning, and leave its scalars on the stack.
abbrev pub ExprLaw : Type 0
ExprLaw = (w : Around) (v : Setting) (lay : Layout) (bodies : Bodies) (inside : BodiesWithin) (lo hi free : ℕ) (e : ExprTree) (at to : ℕ) (stack locals : List ℤ) (store : Store) (s : Session)
    → Suited w v lay bodies inside → NamesIn w lo hi → free ≡ free_in w → FitsExpr lay e
    → at + expr_size e ≡ to → lo ≤ at → to ≤ hi
    → HasAt w.code.instrs at (expr_code lay free e at)
    → expr_within v (calls_at inside w) e store s ≡ true
    → Holds w store locals
    → Gives w (here w at stack locals s) lo hi to (on_top stack) (IsLong (count_of e)) (expr_mean v e store s)
