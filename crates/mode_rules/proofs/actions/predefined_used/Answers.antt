use Rattle.std.proofs.Common.{◌≡◌, ◌∙◌, ap}
use Rattle.constant_operators.specs.Grounds.{predefined_of}
use Rattle.mode_rules.proofs.actions.predefined_used.Goals as goal

pub returns : goal.returns
returns c = λ keeps. c.predefined_in.ensures ∙ ap predefined_of (c.origin_used-origin.ensures keeps)
