use Rattle.std.proofs.Common.{sym, ◌∙◌, ap, length}
use Rattle.std.proofs.lemmas.Bool.{eqb-true, eq-eqb}
use Rattle.journal_check.proofs.Buffers.{nobody_stored, empty_stored, none_of_length}
use Rattle.journal_check.proofs.offers.nothing_stored.Goals as goal

pub returns : goal.returns
returns c = (
  λ is. nobody_stored c.args.world.now c.args.buffer (sym c.values_in.ensures ∙ none_of_length c.values_in.result.now (eqb-true (length c.values_in.result.now) 0 (sym c.is_empty.ensures ∙ is))),
  λ none. c.is_empty.ensures ∙ eq-eqb (length c.values_in.result.now) 0 (ap length (c.values_in.ensures ∙ empty_stored c.args.world.now c.args.buffer none)),
)
