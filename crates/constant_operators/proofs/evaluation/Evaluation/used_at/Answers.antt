use Rattle.std.proofs.Common.{◌≡◌, ◌∙◌, List, sym, subst}
use Rattle.names_model.specs.declared.names.Resolved.{Resolved}
use Rattle.names_laws.specs.Rising.{Rise, use_places}
use Rattle.checks_model.specs.Ground.{number_at}
use Rattle.constant_operators.specs.Grounds.{ground_of}
use Rattle.constant_operators.proofs.Grounds.{uses-there}
use Rattle.constant_operators.proofs.evaluation.Evaluation.used_at.Goals as goal

pub returns : goal.returns
returns c = λ h.
    let same : c.as_slice-uses.result.now ≡ (ground_of c.args.self.now).uses = c.as_slice-uses.ensures ∙ sym (uses-there c.args.self.now) in
    subst (λ (l : List Resolved). c.number_at.result ≡ number_at l c.args.at) same (c.number_at.ensures (subst (λ (l : List Resolved). Rise (use_places l)) (sym c.as_slice-uses.ensures) h.uses))
