-- A refusal that is handed on.
use Rattle.std.proofs.Common.{◌≡◌}
use Rattle.std.specs.Prelude.{Ok, Err, IsErrAnd}
use Rattle.std.specs.declared.result.Result.{Result}
use Rattle.code_gen.specs.declared.refusal.FactsRefusal.{FactsRefusal}
use Rattle.code_gen.specs.declared.refusal.FactsRefusal.TheVariants.{NoLayout}

pub handed_on : {T : Type 0} (r : Result T FactsRefusal) (e : FactsRefusal) → IsErrAnd r (λ x. x ≡ e) → r ≡ Err NoLayout → e ≡ NoLayout
handed_on (Ok x) e known fault = absurd known
handed_on (Err x) e known fault = cc
