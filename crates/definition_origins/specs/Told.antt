-- A rule that tells two names.
use Rattle.std.specs.Prelude.{ℕ, List}
use Rattle.chill_base.specs.declared.pos.Pos.{Pos}
use Rattle.diagnostics.specs.declared.diagnostic.Diagnostic.{Diagnostic}
use Rattle.diagnostics.specs.declared.rule.Rule.{Rule}

abbrev pub tell_both : Pos → Rule → List ℕ → List ℕ → Diagnostic
tell_both at rule first second = record { at = at; rule = rule; first = first; second = second }
