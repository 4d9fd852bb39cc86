-- An evaluation in which the modes of counters are put, one after the other.
use Rattle.std.specs.Prelude.{◌≡◌, ℕ, set}
use Rattle.checks_model.specs.Ground.{Ground}
use Rattle.constant_operators.specs.Grounds.{ground_of, HasGround}
use Rattle.constant_operators.specs.declared.evaluation.Entry.{Entry}
use Rattle.constant_operators.specs.declared.evaluation.Evaluation.{Evaluation}

-- the same evaluation with another entry
pub record IsSet (old : Evaluation) (k : ℕ) (x : Entry) (new : Evaluation) : Type 0 where
  pub names : new.names ≡ old.names
  pub origins : new.origins ≡ old.origins
  pub defined : new.defined ≡ old.defined
  pub plain : new.plain ≡ old.plain
  pub entries : new.entries.items ≡ set old.entries.items k x

-- of the same definitions this ground is kept
pub record IsCounted (old new : Evaluation) (g : Ground) : Type 0 where
  pub names : new.names ≡ old.names
  pub origins : new.origins ≡ old.origins
  pub ground : ground_of new ≡ g
  pub kept : HasGround new
