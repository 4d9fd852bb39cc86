use Rattle.std.proofs.Common.{◌≡◌, ◌∙◌, ap, min}
use Rattle.checks_model.specs.Ground.{mode_of_entry}
use Rattle.checks_model.specs.Limits.{scalars_in_mode}
use Rattle.mode_rules.proofs.too_many.scalars_at.Goals as goal

pub returns-clause-count : goal.returns-clause-count
returns-clause-count c = λ keeps. c.scalars_in_some.ensures ∙ ap (λ m. min (scalars_in_mode m) 65537) (c.mode_in-mode.ensures ∙ ap mode_of_entry (c.entry_at-entry.ensures keeps))
