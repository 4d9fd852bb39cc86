-- The one form of the laws of statements: what stands between two places acts as a meaning.
use Rattle.std.specs.Prelude.{◌≡◌, ℕ, ◌≤◌, Bool, true, List, [], ◌∷◌, ℤ}
use Rattle.world_model.specs.Session.{Session}
use Rattle.code_types.specs.declared.code.Handler.{Handler}
use Rattle.source_meaning.specs.Store.{Store}
use Rattle.source_meaning.specs.Flow.{Goes, Meaning}
use Rattle.follow_laws.specs.Follows.{Around, here, Holds, Does}
use Rattle.follow_laws.specs.Parts.{IsCovered}
use Rattle.code_laws.specs.StatementBounds.{Along}

-- the rows are for instructions between two places
abbrev pub LieIn : List Handler → ℕ → ℕ → Type 0
LieIn [] from until = Unit {0}
LieIn (h ∷ hs) from until = (from ≤ h.from) × (h.until ≤ until) × LieIn hs from until

-- The instructions from one place up to another act as a meaning: from each frame that holds a store, where each value keeps
-- within its bounds, the machine follows the outcome, and comes to a place behind where that goes through. It goes through
-- only where control may come behind, and the part's rows are for its own instructions.
pub record Acts (w : Around) (from until : ℕ) (rows : List Handler) (behind : ℕ) (goes : Bool) (within : Along) (mean : Meaning (Unit {0})) : Type 0 where
  pub lie : LieIn rows from until
  pub comes : (store store1 : Store) (s s1 : Session) → mean store s ≡ Goes tt store1 s1 → goes ≡ true
  pub follows : IsCovered w from until rows → (store : Store) (s : Session) (locals : List ℤ) → within store s ≡ true → Holds w store locals
      → Does w (here w from [] locals s) from until rows behind (mean store s)
