-- The law of locals that are left as they are.
use Rattle.std.specs.Prelude.{◌≡◌, ℕ, true}
use Rattle.world_model.specs.Session.{Session}
use Rattle.program_trees.specs.ExprTree.{ExprTree}
use Rattle.program_trees.specs.ProgramTree.{CheckedTree}
use Rattle.program_trees.specs.StatementTree.{StatementNodes}
use Rattle.source_meaning.specs.Store.{Store, local_value}
use Rattle.source_meaning.specs.Flow.{Flow, Goes, Raised, Exits, Returned, Stops, Gone, Bound}
use Rattle.source_meaning.specs.ExprMeaning.{Setting, expr_mean}
use Rattle.source_meaning.specs.StatementMeaning.{statements_mean}
use Rattle.source_meaning.specs.BodyMeaning.{Bodies, calls_in}
use Rattle.code_laws.specs.Counters.{expr_leaves, statements_leave}

-- where a part comes to with a store, the local of this number has the value that it had
abbrev pub LeavesLocal : {A : Type 0} → ℕ → Store → Flow A → Type 0
LeavesLocal i store (Goes v store1 s) = local_value store1 i ≡ local_value store i
LeavesLocal i store (Raised x store1 s) = local_value store1 i ≡ local_value store i
LeavesLocal i store (Exits k store1 s) = local_value store1 i ≡ local_value store i
LeavesLocal i store (Returned store1 s) = local_value store1 i ≡ local_value store i
LeavesLocal i store (Stops t inner store1) = Unit {0}
LeavesLocal i store (Gone t) = Unit {0}
LeavesLocal i store Bound = Unit {0}

-- A part that names a local neither as a target nor as an argument that is copied out, nor as what is received or counted, leaves
-- it as it is, where calls are those of a program.
pub record LeavesLaw : Type 0 where
  pub expressions : (p : CheckedTree) (bodies : Bodies) (frames i : ℕ) (v : Setting) (e : ExprTree) (store : Store) (s : Session)
      → v.calls ≡ calls_in p bodies frames → expr_leaves i e ≡ true → LeavesLocal i store (expr_mean v e store s)
  pub statements : (p : CheckedTree) (bodies : Bodies) (frames i n : ℕ) (v : Setting) (ss : StatementNodes) (store : Store) (s : Session)
      → v.calls ≡ calls_in p bodies frames → statements_leave i ss ≡ true → LeavesLocal i store (statements_mean v n ss store s)
