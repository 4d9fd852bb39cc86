-- What holds of every mode that a text writes, of the ground of an evaluation.
use Rattle.std.proofs.Common.{Option, Some, None}
use Rattle.std.specs.Prelude.{slice_get, IsTrue}
use Rattle.checks_model.specs.Ground.{Entry}
use Rattle.constant_operators.specs.Grounds.{ground_of, HasGround, HasLaidMode}
use Rattle.constant_operators.specs.Laid.{is_laid}
use Rattle.constant_operators.specs.declared.evaluation.Evaluation.{Evaluation}
use Rattle.laid_laws.specs.Laws.{AreAllLaid, IsNoneLarge}
use Rattle.laid_laws.proofs.NamedModes.{Keeps}
use Rattle.laid_laws.proofs.PlainGrounds.{named_plain}
use Rattle.laid_laws.proofs.FewLemmas.{mode_few}
use Rattle.laid_laws.proofs.LaidLemmas.{AreLaid, mode_laid}

kept-laid : (x : Option Entry) → HasLaidMode x → Keeps (λ m. IsTrue (is_laid m)) x
kept-laid None h = tt
kept-laid (Some e) h = h

all-kept : (e : Evaluation) → HasGround e → AreLaid (ground_of e)
all-kept e h = λ d is. kept-laid (slice_get (ground_of e).entries d) (h.modes d is)

pub all_laid : AreAllLaid
all_laid = λ e h. mode_laid (ground_of e) (named_plain e) (all-kept e h)

pub none_large : IsNoneLarge
none_large = λ e h. mode_few (ground_of e) (named_plain e) h
